-- What is kept of the moments as it is in a list is kept so phase by phase. Then what entries of the logs put into a list.
use Rattle.std.proofs.Common.{◌≡◌, ℕ, ◌≤◌, List, [], ◌∷◌, ◌++◌, map, get_or, flat_map, Option, Some, None, refl, sym, ◌∙◌, ap, subst, arith, inl, inr, ◌⊎◌}
use Rattle.std.specs.Prelude.{Contains, AllPairs, option_map, option_and_then}
use Rattle.std.specs.List.{cons_option, filter_map}
use Rattle.std.proofs.lemmas.Bool.{cases_lt, cases_eq, eq-eqb, ne_eqb}
use Rattle.std.proofs.lemmas.List.{map-append}
use Rattle.std.proofs.lemmas.List.Elements.{Contains-append_right}
use Rattle.pa_lists.proofs.Members.{not_in_none, first_in, later_in, in_cases}
use Rattle.pa_lists.proofs.Pairs.{pairs_give}
use Rattle.pa_lists.proofs.Indexed.{here_is}
use Rattle.pa_region.specs.declared.view.Entry.{Entry}
use Rattle.pa_region.specs.declared.view.Entry.TheVariants.{Counted, Looked, Read, Added, Entered, Uncut}
use Rattle.pa_region.specs.declared.view.Made.{Made}
use Rattle.pa_region.specs.Lists.{entry_in, entered_in}
use Rattle.pa_region.specs.Order.{Stamped}
use Rattle.pa_record.specs.declared.entry.Answer.{Answer}
use Rattle.pa_record.specs.declared.entry.Answer.TheVariants as answers
use Rattle.pa_record.specs.declared.root.RootEntry.{RootEntry}
use Rattle.pa_rules.specs.declared.played.Played.{Played}
use Rattle.pa_rules.specs.Order.{StandInOrder}
use Rattle.pa_rules.specs.Roots.{Journals}
use Rattle.pa_timeline.specs.Timeline.{Part, Asking, Entering, Swapping, Looking, Loading, Counting, Moment}
use Rattle.pa_timeline.proofs.Kept.{none_or_some, pairs_kept}
use Rattle.pa_timeline.proofs.Places.{moment}
use Rattle.pa_logs.specs.Told.{ToldRecord, played_in}
use Rattle.pa_step_order.specs.Segments.{look_part, entry_with, entering, entered_part, part_of}
use Rattle.pa_step_order.proofs.Named.{Named, AreNamed}
use Rattle.pa_step_order.proofs.Moments.{moments_in, phase_at, by_phases, of_records}
use Rattle.pa_step_order.proofs.Sorting.{sorted_kept, KeptRises}

-- ---- phases along a list

-- the records of these lines are in the order of their phases
abbrev pub InPhase : List Played → ℕ → ℕ → Type 0
InPhase ps a b = (x y : Played) → Contains ps x → Contains ps y → x.line ≡ a → y.line ≡ b → x.phase ≤ y.phase

pub stand_in_phases : {E : Type 0} (line : E → ℕ) (ps : List Played) (es : List E) → StandInOrder line ps es →
    AllPairs (λ e f. InPhase ps (line e) (line f)) es
stand_in_phases line ps es order i j d before below x y first second on on' = elim (cases_lt y.phase x.phase) [
  | inl less ↦
      let back = order j i (get_or es j d) (get_or es i d) y x (here_is es j d below) (here_is es i d (omega arith)) (second, on')
      (first, on) (inr less) in
      absurd (omega arith)
  | inr up ↦ up
]

module _ (ts : List ToldRecord) (all : List Stamped) (ns : List Named) (are : AreNamed ts all ns) (roots : Journals) where
  -- what is kept as it is in a list
  pub phases_keep : {B : Type 0} (f : Moment → Option B) (line : B → ℕ) (es : List B) →
      ((m : Moment) (u : B) → f m ≡ Some u → line u ≡ m.x.line) →
      filter_map f (moments_in roots ns) ≡ es → AllPairs (λ u v. InPhase (played_in ts) (line u) (line v)) es →
      filter_map f (by_phases roots ns) ≡ es
  phases_keep {B = B} f line es lines kept phases =
      let ms = moments_in roots ns in
      let S : B → B → Type 0 = λ u v. InPhase (played_in ts) (line u) (line v) in
      let pairs = pairs_kept f S ms (subst (AllPairs S) (sym kept) phases) in
      sorted_kept phase_at f ms
      (pairs_give (λ a b. (u v : B) → f a ≡ Some u → f b ≡ Some v → S u v) (KeptRises phase_at f) ms pairs
      (λ a b first second related u v is is'. related u v is is' a.x b.x (of_records ts all ns are roots a first)
      (of_records ts all ns are roots b second) (sym (lines a u is)) (sym (lines b v is'))))
      ∙ kept

-- ---- what entries put into a list

pub kept_map : {X A C : Type 0} (f : A → C) (g : X → Option A) (xs : List X) →
    map f (filter_map g xs) ≡ filter_map (λ x. option_map f (g x)) xs
kept_map f g [] = refl
kept_map f g (x ∷ xs) = elim (none_or_some (g x)) [
  | inl none ↦ rw none (kept_map f g xs)
  | inr (y, is) ↦ rw is (ap (λ zs. f y ∷ zs) (kept_map f g xs))
]

one_piece : {A : Type 0} (o : Option A) (ys : List A) → cons_option o ys ≡ cons_option o [] ++ ys
one_piece None ys = refl
one_piece (Some y) ys = refl

pub kept_flat : {X A : Type 0} (g : X → Option A) (h : X → List A) (xs : List X) → ((x : X) → Contains xs x → cons_option (g x) [] ≡ h x) →
    filter_map g xs ≡ flat_map h xs
kept_flat g h [] each = refl
kept_flat g h (x ∷ xs) each =
    one_piece (g x) (filter_map g xs) ∙ ap (λ ys. ys ++ filter_map g xs) (each x (first_in x xs)) ∙
    ap (λ ys. h x ++ ys) (kept_flat g h xs (λ y among. each y (later_in x y xs among)))

pub entered_flat : {C : Type 0} (f : Made → C) (q : ℕ) (ns : List Named) →
    map f (entered_in q (map (λ (n : Named). n.entry) ns)) ≡ flat_map (λ (n : Named). map f (entry_in q n.entry)) ns
entered_flat f q [] = refl
entered_flat f q (n ∷ ns) =
    map-append f (entry_in q n.entry) (entered_in q (map (λ (z : Named). z.entry) ns)) ∙
    ap (λ ys. map f (entry_in q n.entry) ++ ys) (entered_flat f q ns)

pub entered_has : (q : ℕ) (es : List Entry) (made : Made) → Contains es (Entered q made) → Contains (entered_in q es) made
entered_has q [] made among = absurd (not_in_none (Entered q made) among)
entered_has q (e ∷ es) made among = elim (in_cases e (Entered q made) es among) [
  | inl here ↦
      let own : entry_in q e ≡ made ∷ [] = ap (entry_in q) here ∙ rw (eq-eqb q q refl) refl in
      subst (λ zs. Contains (zs ++ entered_in q es) made) (sym own) (first_in made (entered_in q es))
  | inr rest ↦ Contains-append_right (entry_in q e) (entered_in q es) made (entered_has q es made rest)
]

-- ---- entries of other kinds

-- what is kept of a moment that an entry is
abbrev pub kept_by : {B : Type 0} → (Moment → Option B) → Played → Option Part → Option B
kept_by f x o = option_and_then f (option_map (moment x) o)

look_kept : {B : Type 0} (f : Moment → Option B) (x : Played) (answer : Answer) → f (moment x Looking) ≡ None →
    kept_by f x (look_part answer) ≡ None
look_kept f x (answers.Made seen usable) none = refl
look_kept f x (answers.Done seen) none = refl
look_kept f x answer none = none

-- An entry of a log is in a list, or a filter that keeps only such drops it.
pub listed_or : {B : Type 0} (f : Moment → Option B) (roots : Journals) (x : Played) (answer : Answer) (entry : Entry) →
    f (moment x Looking) ≡ None → f (moment x Loading) ≡ None → f (moment x Counting) ≡ None →
    ((keeper : ℕ) × (made : Made) × (entry ≡ Entered keeper made))
    ⊎ ((kept_by f x (part_of roots answer entry) ≡ None) × ((q : ℕ) → entry_in q entry ≡ []))
listed_or f roots x answer (Counted t step found value) looks loads counts = inr (counts, λ q. refl)
listed_or f roots x answer (Looked t found) looks loads counts = inr (look_kept f x answer looks, λ q. refl)
listed_or f roots x answer (Read t place value since owned unclean) looks loads counts = inr (loads, λ q. refl)
listed_or f roots x answer (Added word bytes) looks loads counts = inr (refl, λ q. refl)
listed_or f roots x answer (Entered keeper made) looks loads counts = inl (keeper, made, refl)
listed_or f roots x answer (Uncut t) looks loads counts = inr (refl, λ q. refl)

-- an entry of another list than q: a filter that drops what other lists get drops it
pub elsewhere : {B : Type 0} (f : Moment → Option B) (roots : Journals) (x : Played) (keeper : ℕ) (numbers : List ℕ) →
    (keeper ≡ 4 → f (moment x Asking) ≡ None) → (keeper ≡ 5 → f (moment x Swapping) ≡ None) →
    ((e : RootEntry) → entry_with numbers (roots keeper) ≡ Some e → f (moment x (Entering keeper e.act)) ≡ None) →
    kept_by f x (entered_part roots keeper numbers) ≡ None
elsewhere f roots x keeper numbers asks swaps enters = elim (cases_eq keeper 4) [
  | inl four ↦ rw (eq-eqb keeper 4 four) (asks four)
  | inr more ↦ elim (cases_eq keeper 5) [
    | inl five ↦ rw (ne_eqb keeper 4 more, eq-eqb keeper 5 five) (swaps five)
    | inr other ↦ rw (ne_eqb keeper 4 more, ne_eqb keeper 5 other) (in_journal (entry_with numbers (roots keeper)) refl)
  ]
]
  where
    in_journal : (o : Option RootEntry) → entry_with numbers (roots keeper) ≡ o → kept_by f x (entering keeper o) ≡ None
    in_journal None is = refl
    in_journal (Some e) is = enters e is
