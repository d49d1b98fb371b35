-- The thread's lists on a line without an entry: a slot that comes back is put into one, and one that is made leaves one.
use Rattle.std.proofs.Common.{◌≡◌, ℕ, zero, suc, ◌+◌, ◌<◌, ◌≤◌, List, [], ◌∷◌, length, refl, sym, ◌∙◌, ap, subst, arith, inl, inr}
use Rattle.std.proofs.lemmas.Bool.{cases_lt}
use Rattle.pa_slot.specs.declared.word.SlotName.{SlotName}
use Rattle.pa_slot.specs.declared.title.Title.{Title}
use Rattle.pa_slot.specs.Count.{number_of}
use Rattle.pa_slot.specs.Holdings.{FreePiece, FreeTitle, held_in}
use Rattle.pa_slot.proofs.Runs.{same_slot_yes, same_slot_no}
use Rattle.pa_slot.proofs.Same.{title_tells}
use Rattle.pa_machine.proofs.Parts.{free_none}
use Rattle.pa_machine.proofs.Amounts.{free_self}
use Rattle.pa_record.specs.declared.numbered.Numbered.{Numbered}
use Rattle.pa_record.specs.declared.entry.Seen.{Seen}
use Rattle.pa_record.specs.declared.root.RootAct.{RootAct}
use Rattle.pa_record.specs.Spans.{name_of}
use Rattle.pa_record.specs.Root.{names}
use Rattle.pa_rules.specs.declared.played.Played.{Played}
use Rattle.pa_rules.specs.Roots.{Journals, AsksForClass}
use Rattle.pa_rules.specs.Caches.{Cache, SameLists, NoActs, OnlyActs, with_list, gives, kept, spilled, ReturnRow, MadeRow, FilledFirst, IsOfClass}
use Rattle.pa_rules.specs.Flow.{listed_times}
use Rattle.pa_rules.specs.Once.{once}
use Rattle.pa_rules.proofs.Counted.{stands, times_cons, stands_kept, listed_agree, listed_changed, list_of_another}
use Rattle.pa_slot_effects.specs.Shown.{over}
use Rattle.pa_core_run.specs.Moves.{HaveNames}
use Rattle.pa_slot_effects.proofs.Handles.{over_one}

-- a free title by its name
pub free_piece : (Made : Title → Type 0) (t u : Title) → HaveNames Made → Made t → Made u →
    held_in (FreePiece t ∷ []) (FreeTitle u) ≡ once (name_of u) (name_of t)
free_piece Made t u one m n = elim (title_tells t u) [
  | inl y ↦ subst (λ (v : Title). held_in (FreePiece t ∷ []) (FreeTitle v) ≡ once (name_of v) (name_of t)) y.1
      (free_self t ∙ sym (rw (same_slot_yes (name_of t) (name_of t) refl) refl))
  | inr x ↦ (free_none t u x.1).free ∙ sym (rw (same_slot_no (name_of u) (name_of t) (λ e. x.1 (one t u m n (sym e)))) refl)
]

-- no entry, but one
no_only : (roots : Journals) (line p : ℕ) (act : RootAct) (acts : List RootAct) → NoActs roots line → OnlyActs roots line p (act ∷ acts) → ⊥
no_only roots line p act acts none only =
    let e : [] ≡ act ∷ acts = sym (none p) ∙ only.0 in
    let P : List RootAct → Type 0 = λ xs. (length xs ≡ 0) in
    let z : length (act ∷ acts) ≡ 0 = subst P e refl in
    omega arith

no_gives : (xs : List Numbered) → gives xs ≡ [] → xs ≡ []
no_gives [] e = refl
no_gives (x ∷ xs) e = absurd (let P : List RootAct → Type 0 = λ ys. (length ys ≡ 0) in
    let z : length (gives (x ∷ xs)) ≡ 0 = subst P (sym e) refl in omega arith)

-- what a thread's lists have when one of them changed, of a partition or of none that there is
pub over_lists : (partitions p class : ℕ) (y : SlotName) (cache after : Cache) (xs : List Numbered) (more : ℕ) → class < 170 →
    SameLists after (with_list cache p class xs) →
    stands y xs ≡ stands y (cache p class) + more →
    over partitions (λ q. listed_times y (after q) 0 170) ≤ over partitions (λ q. listed_times y (cache q) 0 170) + more
over_lists partitions p class y cache after xs more real becomes grows =
    let change = listed_changed y cache after p class xs real (λ c. becomes p c) in
    let same : (q : ℕ) → (q ≡ p → ⊥) → listed_times y (after q) 0 170 ≡ listed_times y (cache q) 0 170 =
    λ q ne. listed_agree y (after q) (cache q) 0 170 (λ c low. becomes q c ∙ list_of_another cache p class xs q c ne) in
    elim (cases_lt p partitions) [
      | inl inside ↦ let one =
          over_one partitions p (λ q. listed_times y (cache q) 0 170) (λ q. listed_times y (after q) 0 170) inside same in omega arith
      | inr past ↦ let all = past_all partitions p (λ q. listed_times y (cache q) 0 170) (λ q. listed_times y (after q) 0 170) past same in
          omega arith
    ]
  where
    past_all : (n i : ℕ) (f g : ℕ → ℕ) → n ≤ i → ((j : ℕ) → (j ≡ i → ⊥) → g j ≡ f j) → over n g ≡ over n f
    past_all zero i f g le h = refl
    past_all (suc n) i f g le h = let ne : n ≡ i → ⊥ = λ e. omega (arith, e) in omega (arith, past_all n i f g (omega arith) h, h n ne)

pub less_lists : (partitions p class : ℕ) (y : SlotName) (cache after : Cache) (xs : List Numbered) (less : ℕ) → class < 170 →
    p < partitions → SameLists after (with_list cache p class xs) →
    stands y xs + less ≡ stands y (cache p class) →
    over partitions (λ q. listed_times y (after q) 0 170) + less ≤ over partitions (λ q. listed_times y (cache q) 0 170)
less_lists partitions p class y cache after xs less real inside becomes falls =
    let change = listed_changed y cache after p class xs real (λ c. becomes p c) in
    let same : (q : ℕ) → (q ≡ p → ⊥) → listed_times y (after q) 0 170 ≡ listed_times y (cache q) 0 170 =
    λ q ne. listed_agree y (after q) (cache q) 0 170 (λ c low. becomes q c ∙ list_of_another cache p class xs q c ne) in
    let one = over_one partitions p (λ q. listed_times y (cache q) 0 170) (λ q. listed_times y (after q) 0 170) inside same in
    omega arith

-- what a slot that came back makes of the lists
pub lists_grow : (partitions : ℕ) (roots : Journals) (x : Played) (slot : Numbered) (cache after : Cache) (y : SlotName)
    → ((p class : ℕ) → IsOfClass roots slot.slot p class → class < 170) → NoActs roots x.line → ReturnRow roots x slot cache after →
    over partitions (λ q. listed_times y (after q) 0 170) ≤ over partitions (λ q. listed_times y (cache q) 0 170) + once y slot.slot
lists_grow partitions roots x slot cache after y real none (inl (p, class, of, only, becomes)) =
    let list = slot ∷ cache p class in
    let nothing : spilled class list ≡ [] = no_gives (spilled class list) (sym only.0 ∙ none p) in
    let parts = stands_kept y class list in
    let empty = ap (stands y) nothing in
    let one = times_cons y slot.slot (names (cache p class)) in
    over_lists partitions p class y cache after (kept class list) (once y slot.slot) (real p class of) becomes (omega arith)
lists_grow partitions roots x slot cache after y real none (inr (p, asked, number, direct, only, becomes)) =
    absurd (no_only roots x.line p _ [] none only)

-- if a slot was made from the front of a list, the thread's lists have it once less, and no other slot more often
pub lists_fall : (partitions : ℕ) (roots : Journals) (x : Played) (seen : Seen) (cache after : Cache)
    → ((p class : ℕ) → AsksForClass x p class → (p < partitions) × (class < 170)) → NoActs roots x.line → MadeRow roots x seen cache after →
    (y : SlotName) → over partitions (λ q. listed_times y (after q) 0 170) + once y seen.slot ≤ over partitions
    (λ q. listed_times y (cache q) 0 170)
lists_fall partitions roots x seen cache after real none (inl (p, class, xs, rest, asks, filled, front, becomes)) y =
    let (inside, class_few) = real p class asks in
    let had = had_front (cache p class) filled in
    let list : cache p class ≡ record { slot = seen.slot; number = number_of seen.found.0 } ∷ rest = sym had ∙ front in
    let one = times_cons y seen.slot (names rest) in
    let old = ap (stands y) list in
    less_lists partitions p class y cache after rest (once y seen.slot) class_few inside becomes (omega arith)
  where
    had_front : (list : List Numbered) → FilledFirst roots x.line p class list xs → xs ≡ list
    had_front [] (asked, only) = absurd (no_only roots x.line p _ [] none only)
    had_front (z ∷ zs) (same, no_acts) = same
lists_fall partitions roots x seen cache after real none (inr (p, size, asked, len, asks, only, becomes)) y =
    absurd (no_only roots x.line p _ [] none only)
