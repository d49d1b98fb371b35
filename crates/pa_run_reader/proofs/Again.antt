-- What is spelled as a record is read as that record.
use Rattle.std.proofs.Common.{◌≡◌, ℕ, List, ◌∷◌, ◌++◌, codes, Option, Some, None, refl, ap, ◌∙◌, arith}
use Rattle.std.specs.Option.{IfSome}
use Rattle.std.specs.Fmt.{decimal}
use Rattle.pa_text.specs.Hex.{hex, slot_text}
use Rattle.pa_record.specs.declared.entry.Entry.{Entry}
use Rattle.pa_record.specs.declared.entry.Seen.{Seen}
use Rattle.pa_record.specs.declared.entry.Answer.{Answer}
use Rattle.pa_record.specs.declared.entry.Answer.TheVariants.{Made, Done, Value, Dangling, SecondFree, NotOwner, StaleReset, StaleUse, Nothing, Filled, NotRef, Shared, OutOfRange, TooLarge, Full, Swapped, Purged, Uncounted}
use Rattle.pa_record.specs.Bits.{Is32, Is64, SeenInBits, AnswerInBits, EntryInBits}
use Rattle.pa_record.specs.Text.{seen_text, seen_text_if, answer_text, entry_text}
use Rattle.pa_record.proofs.Fields.{cut3, cut4, cut7}
use Rattle.pa_run_reader.specs.Reading.{after_word, below_in}
use Rattle.pa_run_reader.specs.Records.{seen_in, seen_if_in, made_in, done_in, value_in, dangling_in, second_free_in, not_owner_in, stale_use_in, shared_in, slot_answer_in, plain_answer_in, counted_answer_in, answer_in, record_in, record_line_in}
use Rattle.pa_run_reader.proofs.Fields.{behind_again, below_again, field_again, word_again, slot_again}
use Rattle.pa_record.proofs.EntryLines.{entry_cut}

seen_again : (s : Seen) (rest : List ℕ) → SeenInBits s → seen_in (seen_text s ++ rest) ≡ Some (s, rest)
unfolding seen_in
seen_again s rest fits =
    ap seen_in (cut4 (codes " ") (slot_text s.slot) (codes " ") (hex 16 s.found.0) rest)
    ∙ rw (
      behind_again (codes " ") (slot_text s.slot ++ (codes " " ++ (hex 16 s.found.0 ++ rest))),
      slot_again s.slot (codes " " ++ (hex 16 s.found.0 ++ rest)) fits.0 refl,
      word_again s.found.0 rest fits.1,
    ) refl

seen_if_again : (o : Option Seen) (rest : List ℕ) → IfSome o SeenInBits → seen_if_in (seen_text_if o ++ 10 ∷ rest) ≡ Some (o, 10 ∷ rest)
unfolding seen_if_in after_word
seen_if_again None rest fits = refl
seen_if_again (Some s) rest fits = rw (seen_again s (10 ∷ rest) fits) refl

-- ` SLOT USABLE FOUND`
made_again : (s : Seen) (n : ℕ) (rest : List ℕ) → SeenInBits s → Is32 n
    → made_in (codes " " ++ (slot_text s.slot ++ (codes " " ++ (decimal n ++ (codes " " ++ (hex 16 s.found.0 ++ rest)))))) ≡ Some
    (Made s n, rest)
unfolding made_in
made_again s n rest fits small =
    let found : List ℕ = hex 16 s.found.0 ++ rest in
    rw (
      behind_again (codes " ") (slot_text s.slot ++ (codes " " ++ (decimal n ++ (codes " " ++ found)))),
      slot_again s.slot (codes " " ++ (decimal n ++ (codes " " ++ found))) fits.0 refl,
      field_again (codes " ") 4294967296 n (codes " " ++ found) small (omega arith) refl,
      word_again s.found.0 rest fits.1,
    ) refl

made_cut : (s : Seen) (n : ℕ) (x : List ℕ)
    → answer_text (Made s n) ++ x ≡ codes "made" ++
    (codes " " ++ (slot_text s.slot ++ (codes " " ++ (decimal n ++ (codes " " ++ (hex 16 s.found.0 ++ x))))))
made_cut s n x = cut7 (codes "made") (codes " ") (slot_text s.slot) (codes " ") (decimal n) (codes " ") (hex 16 s.found.0) x

-- ` SLOT FOUND VALUE`
value_again : (s : Seen) (v : ℕ) (rest : List ℕ) → SeenInBits s → Is64 v →
    value_in ((seen_text s ++ codes " " ++ hex 16 v) ++ rest) ≡ Some (Value s v, rest)
unfolding value_in
value_again s v rest fits small =
    ap value_in (cut3 (seen_text s) (codes " ") (hex 16 v) rest)
    ∙ rw (seen_again s (codes " " ++ (hex 16 v ++ rest)) fits, word_again v rest small) refl

dangling_again : (s : Seen) (v : ℕ) (rest : List ℕ) → SeenInBits s → Is64 v →
    dangling_in ((seen_text s ++ codes " " ++ hex 16 v) ++ rest) ≡ Some (Dangling s v, rest)
unfolding dangling_in
dangling_again s v rest fits small =
    ap dangling_in (cut3 (seen_text s) (codes " ") (hex 16 v) rest)
    ∙ rw (seen_again s (codes " " ++ (hex 16 v ++ rest)) fits, word_again v rest small) refl

answer_again : (a : Answer) (rest : List ℕ) → AnswerInBits a → answer_in (answer_text a ++ 10 ∷ rest) ≡ Some (a, 10 ∷ rest)
unfolding answer_in slot_answer_in plain_answer_in counted_answer_in below_in after_word done_in second_free_in not_owner_in stale_use_in
    shared_in
answer_again (Made s n) rest fits = ap answer_in (made_cut s n (10 ∷ rest)) ∙ rw (made_again s n (10 ∷ rest) fits.0 fits.1) refl
answer_again (Done s) rest fits = rw (seen_again s (10 ∷ rest) fits) refl
answer_again (Value s v) rest fits = rw (value_again s v (10 ∷ rest) fits.0 fits.1) refl
answer_again (Dangling s v) rest fits = rw (dangling_again s v (10 ∷ rest) fits.0 fits.1) refl
answer_again (SecondFree s) rest fits = rw (seen_if_again s rest fits) refl
answer_again (NotOwner s) rest fits = rw (seen_again s (10 ∷ rest) fits) refl
answer_again StaleReset rest fits = refl
answer_again (StaleUse s) rest fits = rw (seen_if_again s rest fits) refl
answer_again Nothing rest fits = refl
answer_again Filled rest fits = refl
answer_again NotRef rest fits = refl
answer_again (Shared s) rest fits = rw (seen_again s (10 ∷ rest) fits) refl
answer_again OutOfRange rest fits = refl
answer_again TooLarge rest fits = refl
answer_again (Full n) rest fits = rw (below_again 4294967296 n (10 ∷ rest) fits (omega arith) refl) refl
answer_again (Swapped n) rest fits = rw (below_again 4294967296 n (10 ∷ rest) fits (omega arith) refl) refl
answer_again (Purged n) rest fits = rw (below_again 4294967296 n (10 ∷ rest) fits (omega arith) refl) refl
answer_again Uncounted rest fits = refl

pub record_again : (e : Entry) (rest : List ℕ) → EntryInBits e →
    record_in (decimal e.line ++ (codes " " ++ (decimal e.thread ++ (codes " " ++ (answer_text e.answer ++ 10 ∷ rest))))) ≡ Some (e, rest)
unfolding record_in
record_again e rest fits =
    let told : List ℕ = answer_text e.answer ++ 10 ∷ rest in
    rw (
      below_again 4294967296 e.line (codes " " ++ (decimal e.thread ++ (codes " " ++ told))) fits.0 (omega arith) refl,
      field_again (codes " ") 4294967296 e.thread (codes " " ++ told) fits.1 (omega arith) refl,
      behind_again (codes " ") told,
      answer_again e.answer rest fits.2,
      behind_again (codes "\n") rest,
    ) refl

pub line_again : (e : Entry) (rest : List ℕ) → EntryInBits e → record_line_in (entry_text e ++ rest) ≡ Some (e, rest)
unfolding record_line_in
line_again e rest fits =
    let told : List ℕ = decimal e.line ++ (codes " " ++ (decimal e.thread ++ (codes " " ++ (answer_text e.answer ++ 10 ∷ rest)))) in
    ap record_line_in (entry_cut e rest) ∙ rw (behind_again (codes "e ") told, record_again e rest fits) refl

-- if nothing is read no record's line comes first
pub no_record : (bytes : List ℕ) → record_line_in bytes ≡ None → (e : Entry) (rest : List ℕ) → EntryInBits e → bytes ≡ entry_text e ++
    rest → ⊥
no_record bytes none e rest fits same =
    let read : record_line_in bytes ≡ Some (e, rest) = ap record_line_in same ∙ line_again e rest fits in
    cc
