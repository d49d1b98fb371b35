-- A poisoning is of the next record that frees its title: none that fills or frees it is between.
use Rattle.std.proofs.Common.{◌≡◌, ℕ, ◌+◌, ◌<◌, ◌≤◌, true, false, List, [], ◌∷◌, ◌++◌, map, Some, refl, sym, ◌∙◌, ap, subst, arith, inl, inr, append_assoc}
use Rattle.std.specs.Prelude.{Contains, find, option_map}
use Rattle.std.specs.List.{cons_option}
use Rattle.std.proofs.lemmas.Bool.{cases_Bool, true≢false}
use Rattle.std.proofs.lemmas.List.Elements.{filter_map-append}
use Rattle.pa_slot.specs.declared.title.Title.{Title}
use Rattle.pa_slot.specs.declared.word.SlotName.{SlotName}
use Rattle.pa_slot.specs.declared.word.Step.{Step}
use Rattle.pa_slot.specs.declared.word.Step.TheVariants as steps
use Rattle.pa_slot.specs.Count.{number_of}
use Rattle.pa_slot.specs.Holdings.{one}
use Rattle.pa_slot.specs.Titles.{same_title}
use Rattle.pa_slot.proofs.Same.{title_self}
use Rattle.pa_region.specs.declared.view.Entry.{Entry}
use Rattle.pa_region.specs.declared.view.Entry.TheVariants.{Counted}
use Rattle.pa_region.specs.Frees.{is_free}
use Rattle.pa_region.specs.Order.{Stamped, OneStep, Logged, Spoiled, logged_among, is_free_of, spoiled, IsAlone, IsCountInPlace, IsEntryInPlace, AreInPlace}
use Rattle.pa_region.proofs.Pieces.{found_title}
use Rattle.pa_lists.proofs.Joined.{map_cases, map_in, filter_cases}
use Rattle.pa_lists.proofs.Members.{in_cases, not_in_none}
use Rattle.pa_lists.proofs.Tests.{both_true}
use Rattle.pa_rules.specs.declared.played.Played.{Played}
use Rattle.pa_rules.specs.Roots.{Journals}
use Rattle.pa_logs.specs.Told.{ToldRecord, played_in}
use Rattle.pa_logs.specs.Touches.{title_of, StepMade, step_by, AreTold}
use Rattle.pa_logs.specs.Listed.{AreRising}
use Rattle.pa_logs.proofs.Marks.{tells_its_mark}
use Rattle.pa_logs.proofs.StepMarks.{mark_made, step_mark}
use Rattle.pa_timeline.specs.Timeline.{Counting, counted_steps}
use Rattle.pa_timeline.proofs.Places.{moment}
use Rattle.pa_step_order.specs.Segments.{part_of}
use Rattle.pa_step_order.proofs.Named.{Named, named_as, AreNamed, named_in, line_named}
use Rattle.pa_step_order.proofs.Moments.{moment_of, moments_in}
use Rattle.pa_step_order.proofs.Found.{IsFound, found_in_logs}
use Rattle.pa_step_order.proofs.Marked.{Settles, counts_more, counts_one}
use Rattle.pa_step_order.proofs.Laid.{stamped_of, back_at, frees, in_place, next_named}

-- ---- frees among entries

free_is : (p : Step) → is_free p ≡ true → p ≡ steps.Free
free_is steps.Issue is = absurd (true≢false (sym is))
free_is steps.Copy is = absurd (true≢false (sym is))
free_is steps.Reset is = absurd (true≢false (sym is))
free_is steps.Free is = refl
free_is steps.Write is = absurd (true≢false (sym is))

pub free_entry : (t : Title) (e : Entry) → is_free_of t e ≡ true → (found : ℕ) × (value : ℕ) × (e ≡ Counted t steps.Free found value)
free_entry t (Counted u step found value) is =
    let (same, free) = both_true (same_title u t) (is_free step) is in
    (found, value, ap (λ v. Counted v step found value) (found_title t u same) ∙ ap (λ p. Counted t p found value) (free_is step free))
free_entry t e is = absurd (true≢false (sym is))

-- the entry is no step that fills or frees the title
abbrev pub LeavesIt : Title → Entry → Type 0
LeavesIt t e = (step : Step) (found value : ℕ) → e ≡ Counted t step found value → Settles step → ⊥

-- The first free of the title among these entries: of the steps that fill or free it none is before it, and none of its thread.
pub record IsFirstFree (t : Title) (xs : List Named) (f : Named) : Type 0 where
  pub mid : List Named
  pub rest : List Named
  pub parts : xs ≡ mid ++ f ∷ rest
  pub leave : (n : Named) → Contains mid n → LeavesIt t n.entry
  pub apart : (n : Named) → Contains mid n → n.x.played.thread ≡ f.x.played.thread → ⊥
  pub is_free : frees t f ≡ true
  pub found : find (frees t) xs ≡ Some f

leaves_no_free : (t : Title) (n : Named) → LeavesIt t n.entry → frees t n ≡ false
leaves_no_free t n leaves = elim (cases_Bool (frees t n)) [
  | inl free ↦ let (found, value, is) = free_entry t n.entry free in absurd (leaves steps.Free found value is tt)
  | inr other ↦ other
]

first_later : (t : Title) (n : Named) (xs : List Named) (f : Named) → LeavesIt t n.entry → (n.x.played.thread ≡ f.x.played.thread → ⊥) →
    IsFirstFree t xs f → IsFirstFree t (n ∷ xs) f
first_later t n xs f leaves other is = record {
  mid = n ∷ is.mid;
  rest = is.rest;
  parts = ap (λ z. n ∷ z) is.parts;
  leave = λ m among. elim (in_cases n m is.mid among) [ inl e ↦ subst (λ z. LeavesIt t z.entry) e leaves | inr later ↦ is.leave m later ];
  apart = λ m among same. elim (in_cases n m is.mid among)
      [ inl e ↦ other (ap (λ (z : Named). z.x.played.thread) e ∙ same) | inr later ↦ is.apart m later same ];
  is_free = is.is_free;
  found = rw (leaves_no_free t n leaves) is.found;
}

first_now : (t : Title) (n : Named) (xs : List Named) → frees t n ≡ true → IsFirstFree t (n ∷ xs) n
first_now t n xs free = record {
  mid = [];
  rest = xs;
  parts = refl;
  leave = λ m among. absurd (not_in_none m among);
  apart = λ m among same. not_in_none m among;
  is_free = free;
  found = rw free refl;
}

module _ (ns : List Named) (order : List OneStep) (agree : map stamped_of ns ≡ logged_among order) (placed : AreInPlace order)
    (closed : (t : Title) → spoiled t order ≡ 0) where
  -- Each title with poisonings among these steps has its free after them, and with its stake nothing was logged since the first of them.
  abbrev AreOwned : List OneStep → Type 0
  AreOwned st = (t : Title) → 0 < spoiled t st → (f : Named) × IsFirstFree t (back_at ns st) f × IsAlone f.x.played.thread t st

  -- what the steps before a counted step are
  count_at : (pre : List OneStep) (m : Stamped) (o : List OneStep) (t : Title) (step : Step) (found value : ℕ) → order ≡ pre ++
      Logged m ∷ o → m.entry ≡ Counted t step found value →
      IsCountInPlace step m.stake t o
  count_at pre m o t step found value cut is = subst (λ e. IsEntryInPlace m.stake e o) is (in_place order pre (Logged m) o cut placed)

  -- an entry other than a free has no poisoning before it if it fills the title
  leaves_it : (pre : List OneStep) (m : Stamped) (o : List OneStep) (t : Title) → order ≡ pre ++ Logged m ∷ o →
      is_free_of t m.entry ≡ false → 0 < spoiled t o → LeavesIt t m.entry
  leaves_it pre m o t cut other some step found value is settles = by_step step is settles (count_at pre m o t step found value cut is)
    where
      by_step : (p : Step) → m.entry ≡ Counted t p found value → Settles p → IsCountInPlace p m.stake t o → ⊥
      by_step steps.Issue e s count = omega arith
      by_step steps.Copy e s count = s
      by_step steps.Reset e s count = s
      by_step steps.Free e s count = true≢false (sym (ap (is_free_of t) e ∙ rw (title_self t) refl) ∙ other)
      by_step steps.Write e s count = omega arith

  owned_next : (pre : List OneStep) (s : OneStep) (o : List OneStep) → order ≡ pre ++ s ∷ o → AreOwned (s ∷ o) → AreOwned o
  owned_next pre (Logged m) o cut owned t some =
      let (n, next) = next_named ns order agree pre m o cut in
      let entry : n.entry ≡ m.entry = ap (λ (z : Stamped). z.entry) next.stamp in
      let stake : n.x.played.thread ≡ m.stake = ap (λ (z : Stamped). z.stake) next.stamp in
      elim (cases_Bool (is_free_of t m.entry)) [
        | inl free ↦
            let (found, value, is) = free_entry t m.entry free in
            let count : IsCountInPlace steps.Free m.stake t o = count_at pre m o t steps.Free found value cut is in (
              n,
              subst (λ z. IsFirstFree t z n) (sym next.back) (first_now t n (back_at ns (Logged m ∷ o)) (ap (is_free_of t) entry ∙ free)),
              subst (λ r. IsAlone r t o) (sym stake) count.1,
            )
        | inr other ↦
            let same : spoiled t (Logged m ∷ o) ≡ spoiled t o = rw other refl in
            let (f, is, alone) = owned t (omega arith) in
            let leaves = subst (λ e. LeavesIt t e) (sym entry) (leaves_it pre m o t cut other some) in
            let (ne, rest) = not_none same some alone in (
              f,
              subst (λ z. IsFirstFree t z f) (sym next.back)
                  (first_later t n (back_at ns (Logged m ∷ o)) f leaves (λ e. ne (sym stake ∙ e)) is),
              rest,
            )
      ]
    where
      not_none : {r : ℕ} → spoiled t (Logged m ∷ o) ≡ spoiled t o → 0 < spoiled t o → IsAlone r t (Logged m ∷ o) → (m.stake ≡ r → ⊥) ×
          IsAlone r t o
      not_none same more (inl none) = absurd (omega arith)
      not_none same more (inr is) = is
  owned_next pre (Spoiled u word) o cut owned t some = let (f, is, alone) = owned t (omega arith) in (f, is, alone)

  owned_from : (pre st : List OneStep) → order ≡ pre ++ st → AreOwned st → (later older : List OneStep) → st ≡ later ++ older →
      AreOwned older
  owned_from pre st at owned [] older cut = subst AreOwned cut owned
  owned_from pre [] at owned (x ∷ later) older cut = absurd cc
  owned_from pre (s ∷ o) at owned (x ∷ later) older cut =
      owned_from (pre ++ s ∷ []) o (at ∙ sym (append_assoc pre (s ∷ []) o)) (owned_next pre s o at owned) later older cc

  are_owned : (later older : List OneStep) → order ≡ later ++ older → AreOwned older
  are_owned later older cut = owned_from [] order refl (λ t some. let none = closed t in absurd (omega arith)) later older cut

  -- the record that frees what is poisoned
  pub owner : (later : List OneStep) (t : Title) (word : ℕ) (older : List OneStep) → order ≡ later ++ Spoiled t word ∷ older → (f : Named) ×
      IsFirstFree t (back_at ns older) f
  owner later t word older cut =
      let here : one (same_title t t) ≡ 1 = ap one (title_self t) in
      let (f, is, alone) = are_owned later (Spoiled t word ∷ older) cut t (omega arith) in
      (f, is)

-- ---- numbers

module _ (sizes : SlotName → ℕ) (ts : List ToldRecord) (told : AreTold sizes ts) (all : List Stamped) (ns : List Named)
    (are : AreNamed ts all ns) (roots : Journals) where
  -- the step that a counted entry is
  pub record IsStepOf (n : Named) (t : Title) (step : Step) (found value : ℕ) (d : StepMade) : Type 0 where
    pub is : step_by n.x.played ≡ Some d
    pub title : t ≡ title_of sizes d.slot
    pub step_is : step ≡ d.step
    pub found_is : found ≡ d.found
    pub value_is : value ≡ d.value

  same_counted : (t u : Title) (p q : Step) (m n v w : ℕ) → Counted t p m v ≡ Counted u q n w → (t ≡ u) × (p ≡ q) × (m ≡ n) × (v ≡ w)
  same_counted t u p q m n v w e = (cc, cc, cc, cc)

  pub step_of_entry : (n : Named) (t : Title) (step : Step) (found value : ℕ) → Contains ns n → n.entry ≡ Counted t step found value →
      (d : StepMade) × IsStepOf n t step found value d
  step_of_entry n t step found value among is =
      let (there, inside) = named_in ts all ns are n among in
      let (d, made, same) = (tells_its_mark sizes n.x (told n.x there)).step_is t step found value
      (subst (λ e. Contains n.x.stretch e) is inside) in
      let (title, p, word, v) = same_counted t (title_of sizes d.slot) step d.step found d.found value d.value same in
      (d, record { is = made; title = title; step_is = p; found_is = word; value_is = v })

  pub counted_moment : (n : Named) (t : Title) (step : Step) (found value : ℕ) → n.entry ≡ Counted t step found value →
      moment_of roots n ≡ Some (moment n.x.played Counting)
  counted_moment n t step found value is = ap (λ e. option_map (moment n.x.played) (part_of roots n.x.played.answer e)) is

  -- it has as many counted steps of its slot before it as its number says
  pub number_named : IsFound all → (a b : List Named) (n : Named) (t : Title) (step : Step) (found value : ℕ) (d : StepMade) → ns ≡ a ++
      n ∷ b → n.entry ≡ Counted t step found value →
      step_by n.x.played ≡ Some d → number_of d.found ≡ counted_steps d.slot (moments_in roots a)
  number_named rule a b n t step found value d cut is made =
      let m = moment n.x.played Counting in
      let whole : moments_in roots ns ≡ moments_in roots a ++ m ∷ moments_in roots b =
      ap (moments_in roots) cut ∙ filter_map-append (moment_of roots) a (n ∷ b) ∙
      ap (λ o. moments_in roots a ++ cons_option o (moments_in roots b)) (counted_moment n t step found value is) in
      found_in_logs sizes ts told all ns are roots rule (moments_in roots a) (moments_in roots b) m (mark_made n.x.played.line d) whole
      (inr refl)
      (step_mark n.x.played.line n.x.played.op n.x.played.answer d made)

  pub counts_front : (s : SlotName) (a b : List Named) → counted_steps s (moments_in roots a) ≤ counted_steps s (moments_in roots (a ++ b))
  counts_front s a b =
      let more = counts_more s (moments_in roots a) (moments_in roots b) in
      let same : counted_steps s (moments_in roots (a ++ b)) ≡ counted_steps s (moments_in roots a ++ moments_in roots b) =
      ap (counted_steps s) (filter_map-append (moment_of roots) a b) in
      omega arith

  pub counts_past : (s : SlotName) (a b : List Named) (n : Named) (t : Title) (step : Step) (found value : ℕ) (d : StepMade) →
      n.entry ≡ Counted t step found value →
      step_by n.x.played ≡ Some d → d.slot ≡ s →
      counted_steps s (moments_in roots a) + 1 ≤ counted_steps s (moments_in roots (a ++ n ∷ b))
  counts_past s a b n t step found value d is made slot =
      let more = counts_one s (moments_in roots a) (moments_in roots b) (moment n.x.played Counting) d refl made slot in
      let same : counted_steps s (moments_in roots (a ++ n ∷ b)) ≡ counted_steps s
      (moments_in roots a ++ moment n.x.played Counting ∷ moments_in roots b) =
      ap (counted_steps s) (filter_map-append (moment_of roots) a (n ∷ b) ∙
      ap (λ o. moments_in roots a ++ cons_option o (moments_in roots b)) (counted_moment n t step found value is)) in
      omega arith

  -- a step that a record made is an entry of the order
  pub step_named : AreRising ts → (y : Played) (e : StepMade) → Contains (played_in ts) y → step_by y ≡ Some e →
      (n : Named) × Contains ns n × (n.x.played ≡ y) × (n.entry ≡ Counted (title_of sizes e.slot) e.step e.found e.value)
  step_named rising y e among is =
      let (x, there, same) = map_cases (λ (z : ToldRecord). z.played) ts y among in
      let entry = Counted (title_of sizes e.slot) e.step e.found e.value in
      let inside = (tells_its_mark sizes x (told x there)).has_step e (ap step_by same ∙ is) in
      let mine = map_in (named_as x) x.stretch entry inside in
      let kept = subst (λ zs. Contains zs (named_as x entry)) (sym (line_named ts all ns are rising x there)) mine in
      (named_as x entry, (filter_cases _ ns (named_as x entry) kept).0, same, refl)
