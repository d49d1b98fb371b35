-- The line of a record determines the record, and what follows it.
use Rattle.std.proofs.Common.{◌≡◌, ℕ, List, [], ◌∷◌, ◌++◌, codes, Option, refl, sym, ap, ◌∙◌, arith}
use Rattle.std.specs.Fmt.{decimal}
use Rattle.std.proofs.lemmas.List.{append_cancel_left}
use Rattle.pa_text.specs.Hex.{hex}
use Rattle.pa_text.proofs.Splitting.{split_word}
use Rattle.pa_record.specs.declared.entry.Entry.{Entry}
use Rattle.pa_record.specs.declared.entry.Seen.{Seen}
use Rattle.pa_record.specs.declared.entry.Answer.{Answer}
use Rattle.pa_record.specs.declared.entry.Answer.TheVariants.{Made, Done, Value, Dangling, SecondFree, NotOwner, StaleReset, StaleUse, Nothing, Filled, NotRef, Shared, OutOfRange, TooLarge, Full, Swapped, Purged, Uncounted}
use Rattle.pa_record.specs.Bits.{Is32, Is64, SeenInBits, AnswerInBits, EntryInBits}
use Rattle.pa_record.specs.Text.{spaced_slot as slot_part, seen_text, answer_text, entry_text}
use Rattle.pa_record.proofs.Same.{same_seen, same_entry}
use Rattle.pa_record.proofs.Fields.{letters, cut4, cut6, cut7, wide, same_rest, spaced_number, last_number, spaced_slot, split_seen, split_seen_if}

made_cut : (s : Seen) (n : ℕ) (x : List ℕ) → answer_text (Made s n) ++ x ≡ codes "made" ++
    (slot_part s ++ (codes " " ++ (decimal n ++ (codes " " ++ (hex 16 s.found.0 ++ x)))))
made_cut s n x = cut6 (codes "made") (slot_part s) (codes " ") (decimal n) (codes " ") (hex 16 s.found.0) x

split_made : (s t : Seen) (m n : ℕ) (x y : List ℕ) → SeenInBits s → Is32 m → SeenInBits t → Is32 n
    → answer_text (Made s m) ++ 10 ∷ x ≡ answer_text (Made t n) ++ 10 ∷ y → (Made s m ≡ Made t n) × (x ≡ y)
split_made s t m n x y hs hm ht hn e =
    let cut = sym (made_cut s m (10 ∷ x)) ∙ e ∙ made_cut t n (10 ∷ y) in
    let slot = spaced_slot s.slot t.slot _ _ hs.0 ht.0 (append_cancel_left (codes "made ") _ _ cut) in
    let usable = spaced_number m n _ _ (wide m hm) (wide n hn) slot.1 in
    let found = split_word s.found.0 t.found.0 (10 ∷ x) (10 ∷ y) hs.1 ht.1 usable.1 in
    let seen = same_seen s t slot.0 found.0 in
    let number = usable.0 in
    (cc, same_rest 10 x y found.1)

-- `WORD SLOT FOUND VALUE`
split_read : (w : List ℕ) (s t : Seen) (m n : ℕ) (x y : List ℕ) → SeenInBits s → Is64 m → SeenInBits t → Is64 n
    → (w ++ seen_text s ++ codes " " ++ hex 16 m) ++ 10 ∷ x ≡ (w ++ seen_text t ++ codes " " ++ hex 16 n) ++ 10 ∷ y → (s ≡ t) × (m ≡ n) ×
    (x ≡ y)
split_read w s t m n x y hs hm ht hn e =
    let cut = sym (cut4 w (seen_text s) (codes " ") (hex 16 m) (10 ∷ x)) ∙ e ∙ cut4 w (seen_text t) (codes " ") (hex 16 n) (10 ∷ y) in
    let seen = split_seen s t _ _ hs ht (append_cancel_left w _ _ cut) in
    let value = split_word m n (10 ∷ x) (10 ∷ y) hm hn (same_rest 32 _ _ seen.1) in
    (seen.0, value.0, same_rest 10 x y value.1)

-- `SLOT FOUND` at the end
split_last : (s t : Seen) (x y : List ℕ) → SeenInBits s → SeenInBits t → seen_text s ++ 10 ∷ x ≡ seen_text t ++ 10 ∷ y → (s ≡ t) × (x ≡ y)
split_last s t x y hs ht e =
    let p = split_seen s t (10 ∷ x) (10 ∷ y) hs ht e in
    (p.0, same_rest 10 x y p.1)

split_answer : (a b : Answer) (x y : List ℕ) → AnswerInBits a → AnswerInBits b → answer_text a ++ 10 ∷ x ≡ answer_text b ++ 10 ∷ y →
    (a ≡ b) × (x ≡ y)
split_answer (Made s m) (Made t n) x y ha hb e = split_made s t m n x y ha.0 ha.1 hb.0 hb.1 e
split_answer (Done s) (Done t) x y ha hb e =
    let p = split_last s t x y ha hb (append_cancel_left (codes "done") _ _ e) in
    (ap (λ (v : Seen). Done v) p.0, p.1)
split_answer (Value s m) (Value t n) x y ha hb e =
    let (seen, value, rest) = split_read (codes "word") s t m n x y ha.0 ha.1 hb.0 hb.1 e in
    (cc, rest)
split_answer (Dangling s m) (Dangling t n) x y ha hb e =
    let (seen, value, rest) = split_read (codes "dangling") s t m n x y ha.0 ha.1 hb.0 hb.1 e in
    (cc, rest)
split_answer (SecondFree s) (SecondFree t) x y ha hb e =
    let p = split_seen_if s t x y ha hb (append_cancel_left (codes "second-free") _ _ e) in
    (ap (λ (v : Option Seen). SecondFree v) p.0, p.1)
split_answer (NotOwner s) (NotOwner t) x y ha hb e =
    let p = split_last s t x y ha hb (append_cancel_left (codes "not-owner") _ _ e) in
    (ap (λ (v : Seen). NotOwner v) p.0, p.1)
split_answer StaleReset StaleReset x y ha hb e = (refl, append_cancel_left (codes "stale-reset\n") _ _ e)
split_answer (StaleUse s) (StaleUse t) x y ha hb e =
    let p = split_seen_if s t x y ha hb (append_cancel_left (codes "stale-use") _ _ e) in
    (ap (λ (v : Option Seen). StaleUse v) p.0, p.1)
split_answer Nothing Nothing x y ha hb e = (refl, append_cancel_left (codes "nothing\n") _ _ e)
split_answer Filled Filled x y ha hb e = (refl, append_cancel_left (codes "filled\n") _ _ e)
split_answer NotRef NotRef x y ha hb e = (refl, append_cancel_left (codes "not-ref\n") _ _ e)
split_answer (Shared s) (Shared t) x y ha hb e =
    let p = split_last s t x y ha hb (append_cancel_left (codes "shared") _ _ e) in
    (ap (λ (v : Seen). Shared v) p.0, p.1)
split_answer OutOfRange OutOfRange x y ha hb e = (refl, append_cancel_left (codes "out-of-range\n") _ _ e)
split_answer TooLarge TooLarge x y ha hb e = (refl, append_cancel_left (codes "too-large\n") _ _ e)
split_answer (Full m) (Full n) x y ha hb e =
    let p = last_number m n x y (wide m ha) (wide n hb) (append_cancel_left (codes "full ") _ _ e) in
    (ap (λ (v : ℕ). Full v) p.0, p.1)
split_answer (Swapped m) (Swapped n) x y ha hb e =
    let p = last_number m n x y (wide m ha) (wide n hb) (append_cancel_left (codes "swapped ") _ _ e) in
    (ap (λ (v : ℕ). Swapped v) p.0, p.1)
split_answer (Purged m) (Purged n) x y ha hb e =
    let p = last_number m n x y (wide m ha) (wide n hb) (append_cancel_left (codes "purged ") _ _ e) in
    (ap (λ (v : ℕ). Purged v) p.0, p.1)
split_answer Uncounted Uncounted x y ha hb e = (refl, append_cancel_left (codes "uncounted\n") _ _ e)
split_answer a b x y ha hb e =
    let l = letters (answer_text a ++ 10 ∷ x) (answer_text b ++ 10 ∷ y) e in
    absurd (omega (arith, l.first, l.second, l.fifth, l.seventh))

pub entry_cut : (a : Entry) (x : List ℕ) → entry_text a ++ x ≡ codes "e " ++
    (decimal a.line ++ (codes " " ++ (decimal a.thread ++ (codes " " ++ (answer_text a.answer ++ 10 ∷ x)))))
entry_cut a x = cut7 (codes "e ") (decimal a.line) (codes " ") (decimal a.thread) (codes " ") (answer_text a.answer) (10 ∷ []) x

pub split_entry : (a b : Entry) (x y : List ℕ) → EntryInBits a → EntryInBits b → entry_text a ++ x ≡ entry_text b ++ y → (a ≡ b) × (x ≡ y)
split_entry a b x y ha hb e =
    let cut = sym (entry_cut a x) ∙ e ∙ entry_cut b y in
    let line = spaced_number a.line b.line _ _ (wide a.line ha.0) (wide b.line hb.0) (append_cancel_left (codes "e ") _ _ cut) in
    let thread = spaced_number a.thread b.thread _ _ (wide a.thread ha.1) (wide b.thread hb.1) line.1 in
    let answer = split_answer a.answer b.answer x y ha.2 hb.2 thread.1 in
    (same_entry a b line.0 thread.0 answer.0, answer.1)
