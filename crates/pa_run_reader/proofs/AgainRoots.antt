-- What is spelled as an entry of a journal is read as that entry.
use Rattle.std.proofs.Common.{◌≡◌, ℕ, zero, suc, ◌<◌, ◌≤◌, List, [], ◌∷◌, ◌++◌, codes, length, Option, Some, None, refl, ap, ◌∙◌, arith}
use Rattle.std.specs.List.{AllByRecursion}
use Rattle.std.specs.Option.{IfSome}
use Rattle.std.specs.Fmt.{decimal}
use Rattle.std.proofs.lemmas.Bool.{ne_eqb}
use Rattle.pa_slot.specs.declared.word.SlotName.{SlotName}
use Rattle.pa_text.specs.Hex.{slot_text}
use Rattle.pa_text.specs.Numeral.{IsNumeral}
use Rattle.pa_text.specs.Reading.{IsStop}
use Rattle.pa_text.proofs.Numerals.{decimal_numeral}
use Rattle.pa_record.specs.declared.numbered.Numbered.{Numbered}
use Rattle.pa_record.specs.declared.root.RootEntry.{RootEntry}
use Rattle.pa_record.specs.declared.root.RootAct.{RootAct}
use Rattle.pa_record.specs.declared.root.RootAct.TheVariants as acts
use Rattle.pa_record.specs.Bits.{Is32, NumberedInBits, RootActInBits, RootInBits}
use Rattle.pa_record.specs.RunText.{NamesSlots}
use Rattle.pa_record.specs.Text.{number_or, numbered_text, slots_text, root_act_text}
use Rattle.pa_record.proofs.Fields.{cut3, cut4, cut5, cut6, slots_stop}
use Rattle.pa_run_reader.specs.declared.item.Item.TheVariants as items
use Rattle.pa_run_reader.specs.Reading.{after_word}
use Rattle.pa_run_reader.specs.Roots.{number_or_in, numbered_in, slots_in, batch_in, fill_in, map_act_in, full_in, give_in, unmap_in, root_act_in, root_in}
use Rattle.pa_run_reader.proofs.Slots.{slots_cut}
use Rattle.pa_run_reader.proofs.Fields.{behind_again, below_again, field_again, wide_field_again, slot_again}

-- ---- a number, or a word that doesn't begin with a digit

no_word : (c : ℕ) (w : List ℕ) (n : ℕ) (ds rest : List ℕ) → (48 ≤ c → c ≤ 57 → ⊥) → IsNumeral n ds → after_word (c ∷ w) (ds ++ rest) ≡ None
unfolding after_word
no_word c w n [] rest other h = absurd (h.written refl)
no_word c w n (d ∷ ds) rest other h = rw (ne_eqb d c (λ e. other (omega (arith, e, h.digits.0.0)) (omega (arith, e, h.digits.0.1)))) refl

pub number_or_again : (c : ℕ) (w : List ℕ) (limit : ℕ) (o : Option ℕ) (rest : List ℕ) → (48 ≤ c → c ≤ 57 → ⊥) → IfSome o (λ n. n < limit) →
    limit ≤ 4294967296 → IsStop rest
    → number_or_in (c ∷ w) limit (number_or (c ∷ w) o ++ rest) ≡ Some (o, rest)
unfolding number_or_in
number_or_again c w limit None rest other small le stop = rw (behind_again (c ∷ w) rest) refl
number_or_again c w limit (Some n) rest other small le stop =
    rw (no_word c w n (decimal n) rest other (decimal_numeral n (omega arith)), below_again limit n rest small le stop) refl

-- ---- slots

numbered_again : (n : Numbered) (rest : List ℕ) → NumberedInBits n → IsStop rest → numbered_in (numbered_text n ++ rest) ≡ Some (n, rest)
unfolding numbered_in
numbered_again n rest fits stop =
    ap numbered_in (cut3 (slot_text n.slot) (codes "@") (decimal n.number) rest)
    ∙ rw (
      slot_again n.slot (codes "@" ++ (decimal n.number ++ rest)) fits.0 refl,
      wide_field_again (codes "@") n.number rest fits.1 stop,
    ) refl

slots_again : (k : ℕ) (slots : List Numbered) (rest : List ℕ) → length slots ≤ k → AllByRecursion NumberedInBits slots →
    slots_in k (slots_text slots ++ 10 ∷ rest) ≡ Some (slots, 10 ∷ rest)
unfolding slots_in after_word
slots_again zero [] rest few fits = refl
slots_again zero (n ∷ ns) rest few fits = absurd (omega arith)
slots_again (suc k) [] rest few fits = refl
slots_again (suc k) (n ∷ ns) rest few fits =
    let more = slots_again k ns rest (omega arith) fits.1 in
    ap (slots_in (suc k)) (slots_cut n ns (10 ∷ rest))
    ∙ rw (numbered_again n (slots_text ns ++ 10 ∷ rest) fits.0 (slots_stop ns rest), more) refl

batch_again : (slots : List Numbered) (rest : List ℕ) → 0 < length slots → length slots ≤ 16 → AllByRecursion NumberedInBits slots →
    batch_in (slots_text slots ++ 10 ∷ rest) ≡ Some (slots, 10 ∷ rest)
unfolding batch_in
batch_again [] rest some' few fits = absurd (omega arith)
batch_again (n ∷ ns) rest some' few fits =
    rw (slots_again 16 (n ∷ ns) rest few fits, ne_eqb (length (n ∷ ns)) 0 (λ e. omega (arith, e))) refl

-- ---- what a root did

fill_again : (c : ℕ) (p : Option ℕ) (s : List Numbered) (rest : List ℕ) → RootActInBits (acts.Fill c p s) → 0 < length s
    → fill_in (decimal c ++ (codes " " ++ (number_or (codes "-") p ++ (slots_text s ++ 10 ∷ rest)))) ≡ Some (acts.Fill c p s, 10 ∷ rest)
unfolding fill_in
fill_again c p s rest fits some' =
    let slots : List ℕ = slots_text s ++ 10 ∷ rest in
    rw (
      below_again 170 c (codes " " ++ (number_or (codes "-") p ++ slots)) fits.0 (omega arith) refl,
      behind_again (codes " ") (number_or (codes "-") p ++ slots),
      number_or_again 45 [] 4294967296 p slots (λ a b. omega (arith, a, b)) fits.1 (omega arith) (slots_stop s rest),
      batch_again s rest some' fits.2 fits.3,
    ) refl

map_again : (p : ℕ) (s : SlotName) (l : ℕ) (rest : List ℕ) → RootActInBits (acts.Map p s l)
    → map_act_in (decimal p ++ (codes " " ++ (slot_text s ++ (codes "@0 " ++ (decimal l ++ 10 ∷ rest))))) ≡ Some (acts.Map p s l, 10 ∷ rest)
unfolding map_act_in
map_again p s l rest fits =
    let len : List ℕ = codes "@0 " ++ (decimal l ++ 10 ∷ rest) in
    rw (
      below_again 4294967296 p (codes " " ++ (slot_text s ++ len)) fits.0 (omega arith) refl,
      behind_again (codes " ") (slot_text s ++ len),
      slot_again s len fits.1 refl,
      field_again (codes "@0 ") 4294967296 l (10 ∷ rest) fits.2 (omega arith) refl,
    ) refl

full_again : (c : Option ℕ) (p : ℕ) (rest : List ℕ) → RootActInBits (acts.Full c p)
    → full_in (number_or (codes "direct") c ++ (codes " " ++ (decimal p ++ 10 ∷ rest))) ≡ Some (acts.Full c p, 10 ∷ rest)
unfolding full_in
full_again c p rest fits =
    rw (
      number_or_again 100 (codes "irect") 170 c (codes " " ++ (decimal p ++ 10 ∷ rest)) (λ a b. omega (arith, a, b)) fits.0
          (omega arith) refl,
      field_again (codes " ") 4294967296 p (10 ∷ rest) fits.1 (omega arith) refl,
    ) refl

unmap_again : (p : ℕ) (n : Numbered) (rest : List ℕ) → RootActInBits (acts.Unmap p n) →
    unmap_in (decimal p ++ (codes " " ++ (numbered_text n ++ 10 ∷ rest))) ≡ Some (acts.Unmap p n, 10 ∷ rest)
unfolding unmap_in
unmap_again p n rest fits =
    rw (
      below_again 4294967296 p (codes " " ++ (numbered_text n ++ 10 ∷ rest)) fits.0 (omega arith) refl,
      behind_again (codes " ") (numbered_text n ++ 10 ∷ rest),
      numbered_again n (10 ∷ rest) fits.1 refl,
    ) refl

root_act_again : (a : RootAct) (rest : List ℕ) → RootActInBits a → NamesSlots a →
    root_act_in (root_act_text a ++ 10 ∷ rest) ≡ Some (a, 10 ∷ rest)
unfolding root_act_in after_word give_in
root_act_again (acts.Fill c p s) rest fits some' =
    ap root_act_in (cut5 (codes "fill ") (decimal c) (codes " ") (number_or (codes "-") p) (slots_text s) (10 ∷ rest)) ∙
    rw (fill_again c p s rest fits some') refl
root_act_again (acts.Map p s l) rest fits some' =
    ap root_act_in (cut6 (codes "map ") (decimal p) (codes " ") (slot_text s) (codes "@0 ") (decimal l) (10 ∷ rest)) ∙
    rw (map_again p s l rest fits) refl
root_act_again (acts.Full c p) rest fits some' =
    ap root_act_in (cut4 (codes "full ") (number_or (codes "direct") c) (codes " ") (decimal p) (10 ∷ rest)) ∙
    rw (full_again c p rest fits) refl
root_act_again (acts.Give s) rest fits some' = rw (batch_again s rest some' fits.0 fits.1) refl
root_act_again (acts.Unmap p n) rest fits some' =
    ap root_act_in (cut4 (codes "unmap ") (decimal p) (codes " ") (numbered_text n) (10 ∷ rest)) ∙ rw (unmap_again p n rest fits) refl
root_act_again acts.Purge rest fits some' = refl

pub root_again : (p j : ℕ) (e : RootEntry) (rest : List ℕ) → p < 4 → Is32 j → RootInBits e → NamesSlots e.act
    → root_in (decimal p ++ (codes " " ++
    (decimal j ++ (codes " " ++ (decimal e.line ++ (codes " " ++ (root_act_text e.act ++ 10 ∷ rest))))))) ≡ Some
    (items.Root p j e, rest)
unfolding root_in
root_again p j e rest four small fits some' =
    let act : List ℕ = root_act_text e.act ++ 10 ∷ rest in
    rw (
      below_again 4 p (codes " " ++ (decimal j ++ (codes " " ++ (decimal e.line ++ (codes " " ++ act))))) four (omega arith) refl,
      field_again (codes " ") 4294967296 j (codes " " ++ (decimal e.line ++ (codes " " ++ act))) small (omega arith) refl,
      field_again (codes " ") 4294967296 e.line (codes " " ++ act) fits.0 (omega arith) refl,
      behind_again (codes " ") act,
      root_act_again e.act rest fits.1 some',
      behind_again (codes "\n") rest,
    ) refl
