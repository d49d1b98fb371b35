-- The slots of a batch, read one after the other.
use Rattle.std.proofs.Common.{◌≡◌, ℕ, zero, suc, ◌+◌, ◌-◌, ◌<◌, List, [], ◌∷◌, ◌++◌, codes, length, Option, Some, None, refl, sym, ap, ◌∙◌, append_assoc, append-nil, length-append, arith}
use Rattle.std.specs.List.{AllByRecursion}
use Rattle.pa_record.specs.declared.numbered.Numbered.{Numbered}
use Rattle.pa_record.specs.Bits.{NumberedInBits}
use Rattle.pa_record.specs.Text.{numbered_text, slots_text}
use Rattle.pa_record.proofs.Fields.{cut3}
use Rattle.pa_run_reader.specs.Reading.{after_word}
use Rattle.pa_run_reader.specs.Roots.{slot_before, numbered_in, slots_in}

-- slots before others
abbrev pub with_slots : List Numbered → Option (List Numbered × List ℕ) → Option (List Numbered × List ℕ)
with_slots batch None = None
with_slots batch (Some x) = Some (batch ++ x.0, x.1)

-- these slots are read, i of them, and the rest is still to be read
pub record ReadSlots (batch : List Numbered) (rest bytes : List ℕ) (i : ℕ) : Type 0 where
  pub read : slots_in 16 bytes ≡ with_slots batch (slots_in (16 - i) rest)
  pub few : length batch ≡ i
  pub fits : AllByRecursion NumberedInBits batch
  pub text : bytes ≡ slots_text batch ++ rest

with_none : (o : Option (List Numbered × List ℕ)) → o ≡ with_slots [] o
with_none None = refl
with_none (Some x) = refl

pub slots_first : (bytes : List ℕ) → ReadSlots [] bytes bytes 0
slots_first bytes = record { read = with_none (slots_in 16 bytes); few = refl; fits = tt; text = refl }

pushed : (batch : List Numbered) (slot : Numbered) (o : Option (List Numbered × List ℕ)) →
    with_slots batch (slot_before slot o) ≡ with_slots (batch ++ slot ∷ []) o
pushed batch slot None = refl
pushed batch slot (Some x) = ap (λ (s : List Numbered). Some (s, x.1)) (sym (append_assoc batch (slot ∷ []) x.0))

all_push : (batch : List Numbered) (slot : Numbered) → AllByRecursion NumberedInBits batch → NumberedInBits slot →
    AllByRecursion NumberedInBits (batch ++ slot ∷ [])
all_push [] slot all one = (one, tt)
all_push (m ∷ batch) slot all one = (all.0, all_push batch slot all.1 one)

pub slots_cut : (n : Numbered) (ns : List Numbered) (x : List ℕ) → slots_text (n ∷ ns) ++ x ≡ codes " " ++
    (numbered_text n ++ (slots_text ns ++ x))
slots_cut n ns x = cut3 (codes " ") (numbered_text n) (slots_text ns) x

text_push : (batch : List Numbered) (slot : Numbered) (x : List ℕ) → slots_text batch ++
    (codes " " ++ (numbered_text slot ++ x)) ≡ slots_text (batch ++ slot ∷ []) ++ x
text_push [] slot x = sym (slots_cut slot [] x)
text_push (m ∷ batch) slot x =
    slots_cut m batch (codes " " ++ (numbered_text slot ++ x)) ∙
    ap (λ (w : List ℕ). codes " " ++ (numbered_text m ++ w)) (text_push batch slot x)
    ∙ sym (slots_cut m (batch ++ slot ∷ []) x)

one_slot : (k : ℕ) (slot : Numbered) (rest front after : List ℕ) → after_word (codes " ") rest ≡ Some front
    → numbered_in front ≡ Some (slot, after) → slots_in (suc k) rest ≡ slot_before slot (slots_in k after)
unfolding slots_in
one_slot k slot rest front after e f = rw (e, f) refl

-- one slot more
pub slots_more : (i : ℕ) (batch : List Numbered) (slot : Numbered) (rest front after bytes : List ℕ) → i < 16 →
    after_word (codes " ") rest ≡ Some front → rest ≡ codes " " ++ front
    → numbered_in front ≡ Some (slot, after) → NumberedInBits slot → front ≡ numbered_text slot ++ after → ReadSlots batch rest bytes i →
    ReadSlots (batch ++ slot ∷ []) after bytes (i + 1)
slots_more i batch slot rest front after bytes lt e parts f fits spelled so_far =
    let step : 16 - i ≡ suc (16 - (i + 1)) = omega arith in
    let one = one_slot (16 - (i + 1)) slot rest front after e f in record {
      read = so_far.read ∙ ap (λ (k : ℕ). with_slots batch (slots_in k rest)) step ∙ ap (with_slots batch) one ∙
          pushed batch slot (slots_in (16 - (i + 1)) after);
      few = length-append batch (slot ∷ []) ∙ omega (arith, so_far.few);
      fits = all_push batch slot so_far.fits fits;
      text = so_far.text ∙ ap (λ (w : List ℕ). slots_text batch ++ w) (parts ∙ ap (λ (w : List ℕ). codes " " ++ w) spelled) ∙
          text_push batch slot after;
    }

-- if no space follows, or that many are read, the batch ends
pub no_more : (k : ℕ) (rest : List ℕ) → after_word (codes " ") rest ≡ None → slots_in k rest ≡ Some ([], rest)
unfolding slots_in
no_more zero rest e = refl
no_more (suc k) rest e = rw e refl

pub none_left : (rest : List ℕ) → slots_in 0 rest ≡ Some ([], rest)
unfolding slots_in
none_left rest = refl

pub slots_here : (i : ℕ) (batch : List Numbered) (rest bytes : List ℕ) → ReadSlots batch rest bytes i →
    slots_in (16 - i) rest ≡ Some ([], rest) → slots_in 16 bytes ≡ Some (batch, rest)
slots_here i batch rest bytes so_far e = so_far.read ∙ ap (with_slots batch) e ∙
    ap (λ (s : List Numbered). Some (s, rest)) (append-nil batch)

pub slots_all : (i : ℕ) (batch : List Numbered) (rest bytes : List ℕ) → ReadSlots batch rest bytes i → i ≡ 16 →
    slots_in 16 bytes ≡ Some (batch, rest)
slots_all i batch rest bytes so_far all =
    let none : 16 - i ≡ 0 = omega arith in
    slots_here i batch rest bytes so_far (ap (λ (k : ℕ). slots_in k rest) none ∙ none_left rest)

bad_slot : (k : ℕ) (rest front : List ℕ) → after_word (codes " ") rest ≡ Some front → numbered_in front ≡ None →
    slots_in (suc k) rest ≡ None
unfolding slots_in
bad_slot k rest front e f = rw (e, f) refl

-- what follows a space is no slot
pub slots_bad : (i : ℕ) (batch : List Numbered) (rest front bytes : List ℕ) → i < 16 → after_word (codes " ") rest ≡ Some front
    → numbered_in front ≡ None → ReadSlots batch rest bytes i → slots_in 16 bytes ≡ None
slots_bad i batch rest front bytes lt e f so_far =
    let step : 16 - i ≡ suc (16 - (i + 1)) = omega arith in
    so_far.read ∙ ap (λ (k : ℕ). with_slots batch (slots_in k rest)) step ∙ ap (with_slots batch) (bad_slot (16 - (i + 1)) rest front e f)
