-- The tables of the steps that were made and of the words that the slots' runs reach.
use Rattle.std.proofs.Common.{◌≡◌, ℕ, zero, suc, ◌+◌, ◌<◌, ◌≤◌, List, [], ◌∷◌, ◌++◌, get_or, length, Option, Some, None, IsSome, refl, sym, ◌∙◌, ap, subst, arith, inl, inr}
use Rattle.std.specs.Prelude.{slice_get, Contains, AllPairs, IfSome, IfNone}
use Rattle.std.proofs.lemmas.Bool.{cases_lt, cases_eq, false≢true}
use Rattle.pa_slot.specs.declared.word.SlotName.{SlotName}
use Rattle.pa_slot.specs.declared.word.Step.{Step}
use Rattle.pa_slot.specs.declared.word.Word.{Word}
use Rattle.pa_slot.specs.Count.{CanStep, stepped}
use Rattle.pa_slot.specs.Run.{Mark, IsFirstAt}
use Rattle.pa_slot.proofs.Runs.{same_slot_cases, path_push, run_of_path}
use Rattle.std.proofs.lemmas.List.Elements.{Contains-append_left, Contains-push, Contains-push_cases}
use Rattle.pa_slot.specs.Runs.{IsPath}
use Rattle.pa_lists.proofs.Members.{of_some, not_some, first_in, in_cases, not_in_none}
use Rattle.pa_rules.specs.declared.played.Played.{Played}
use Rattle.pa_rules.specs.Played.{mark_of, marks_of}
use Rattle.pa_rules.specs.RecordDemands.{IsRecord}
use Rattle.pa_rules.proofs.Running.{OtherRecord, one_mark, mark_from, marks_differ}
use Rattle.pa_rules.proofs.Phases.{mark_in}
use Rattle.pa_rules.proofs.Marking.{mark_line}
use Rattle.pa_lists.proofs.Indexed.{at_in, in_at, here_is}
use Rattle.pa_audit_records.specs.Keys.{name_key, word_key}
use Rattle.pa_audit_records.specs.Marks.{IsSized}
use Rattle.pa_rules.specs.Rising.{RiseByLine}
use Rattle.pa_rules.proofs.Rising.{rises}
use Rattle.pa_audit_records.specs.Steps.{IsStepOf, IsStepAt, IsSizedMark, AreFirstsFrom, AreFirsts, IsNextWord, IsLastWord, HasRunOf, AreReached}
use Rattle.pa_audit_records.specs.Tables.{Puts}
use Rattle.pa_audit_records.proofs.Putting.{same_key}

pub same_place : (s t : SlotName) (v w : ℕ) → IsSized s v → IsSized t w → word_key s v ≡ word_key t w → (s ≡ t) × (v ≡ w)
same_place s t v w h k same =
    let keys : name_key s ≡ name_key t = omega (arith, h.1, k.1, same) in
    (same_key s t h.0 k.0 keys, omega (arith, same, keys))

-- ---- the first steps

-- records made one step at most
one_step_of : (x : Played) (q r : ℕ) → IsStepOf x q → IsStepOf x r → q ≡ r
one_step_of x q r (m, is, made, at) (n, is', made', at') =
    sym at ∙ ap (λ (z : Mark). word_key z.slot z.found) (of_some m n (sym is ∙ is')) ∙ at'

sized_more : (ps : List Played) (f : ℕ → Option ℕ) (k : ℕ) (d : Played) → k < length ps → AreFirstsFrom ps f (k + 1)
    → IsSizedMark (get_or ps k d) → (i : ℕ) (x : Played) → k ≤ i → IsRecord ps i x → IsSizedMark x
sized_more ps f k d below h here i x from is = elim (cases_lt k i) [
  | inl less ↦ h.sized i x (omega (arith, less)) is
  | inr most ↦
      let same : k ≡ i = omega (arith, from, most) in
      let one : get_or ps k d ≡ x = of_some (get_or ps k d) x (sym (here_is ps k d below) ∙ ap (slice_get ps) same ∙ is) in
      subst IsSizedMark one here
]

-- what record k is
at_k : (ps : List Played) (k j : ℕ) (d x : Played) (q : ℕ) → k < length ps → k ≡ j → IsStepAt ps j q → IsStepOf (get_or ps k d) q
at_k ps k j d x q below same (y, is, step) =
    let one : y ≡ get_or ps k d = of_some y (get_or ps k d) (sym is ∙ ap (slice_get ps) (sym same) ∙ here_is ps k d below) in
    subst (λ z. IsStepOf z q) one step

pub firsts_same : (ps : List Played) (f : ℕ → Option ℕ) (k at : ℕ) (d : Played) → k < length ps → at ≡ k + 1
    → ((q : ℕ) → IsStepOf (get_or ps k d) q → ⊥) → IsSizedMark (get_or ps k d) → AreFirstsFrom ps f at
    → AreFirstsFrom ps f k
firsts_same ps f k at d below next none sized past =
    let h = subst (λ n. AreFirstsFrom ps f n) next past in
    record {
      hit = λ q i is. let (from, step, least) = h.hit q i is in (
        omega (arith, from),
        step,
        λ j low there. elim (cases_lt k j) [
          | inl less ↦ least j (omega (arith, less)) there
          | inr most ↦ absurd (none q (at_k ps k j d d q below (omega (arith, low, most)) there))
        ],
      );
      miss = λ q j is low there. elim (cases_lt k j) [
        | inl less ↦ h.miss q j is (omega (arith, less)) there
        | inr most ↦ none q (at_k ps k j d d q below (omega (arith, low, most)) there)
      ];
      sized = sized_more ps f k d below h sized;
    }

pub firsts_more : (ps : List Played) (f g : ℕ → Option ℕ) (k at q : ℕ) (d : Played) → k < length ps → at ≡ k + 1
    → IsStepOf (get_or ps k d) q → IsSizedMark (get_or ps k d) → Puts f g q k → AreFirstsFrom ps f at
    → AreFirstsFrom ps g k
firsts_more ps f g k at q d below next here sized puts past =
    let h = subst (λ n. AreFirstsFrom ps f n) next past in
    record {
      hit = λ r i is. elim (cases_eq r q) [
        | inl same ↦
            let first : k ≡ i = of_some k i (sym puts.here ∙ ap g (sym same) ∙ is) in
            let step : IsStepAt ps k r = (get_or ps k d, here_is ps k d below, subst (λ n. IsStepOf (get_or ps k d) n) (sym same) here) in
            (omega (arith, first), subst (λ n. IsStepAt ps n r) first step, λ j low there. omega (arith, first, low))
        | inr other ↦
            let (from, step, least) = h.hit r i (sym (puts.other r other) ∙ is) in (
              omega (arith, from),
              step,
              λ j low there. elim (cases_lt k j) [
                | inl less ↦ least j (omega (arith, less)) there
                | inr most ↦
                    absurd (other (one_step_of (get_or ps k d) r q (at_k ps k j d d r below (omega (arith, low, most)) there) here))
              ],
            )
      ];
      miss = λ r j is low there. elim (cases_eq r q) [
        | inl same ↦ not_some k (sym is ∙ ap g same ∙ puts.here)
        | inr other ↦ elim (cases_lt k j) [
          | inl less ↦ h.miss r j (sym (puts.other r other) ∙ is) (omega (arith, less)) there
          | inr most ↦ other (one_step_of (get_or ps k d) r q (at_k ps k j d d r below (omega (arith, low, most)) there) here)
        ]
      ];
      sized = sized_more ps f k d below h sized;
    }

-- ---- the step that was first made

-- the record at a place, by the list's element
get_at : {A : Type 0} (xs : List A) (i : ℕ) (d x : A) → slice_get xs i ≡ Some x → (i < length xs) × (get_or xs i d ≡ x)
get_at [] i d x at = absurd (not_some x at)
get_at (y ∷ ys) zero d x at = (omega arith, of_some y x at)
get_at (y ∷ ys) (suc i) d x at = let (below, is) = get_at ys i d x at in (omega (arith, below), is)

-- the records at two places have different lines
pub records_differ : (ps : List Played) → RiseByLine ps → AllPairs OtherRecord ps
records_differ ps rising i j d less below = λ same. let more : (get_or ps i d).line < (get_or ps j d).line =
    rising i j d less below in omega (arith, more, same)

-- a record that the table has is one of the list
pub firsts_within : (ps : List Played) (f : ℕ → Option ℕ) (q i : ℕ) → AreFirsts ps f → f q ≡ Some i → i < length ps
firsts_within ps f q i h at = let (from, (x, is, step), least) = h.hit q i at in (get_at ps i x x is).0

-- the record that the table has at a number made a step there
pub firsts_step : (ps : List Played) (f : ℕ → Option ℕ) (q i : ℕ) (d : Played) → AreFirsts ps f → f q ≡ Some i → IsStepOf (get_or ps i d) q
firsts_step ps f q i d h at = let (from, (x, is, step), least) = h.hit q i at in subst (λ z. IsStepOf z q) (sym (get_at ps i d x is).1) step

pub first_is : (ps : List Played) (f : ℕ → Option ℕ) (s : SlotName) (w i : ℕ) (d : Played) (m : Mark) (p : Step) → RiseByLine ps →
    AreFirsts ps f → IsSized s w → f (word_key s w) ≡ Some i
    → mark_of (get_or ps i d) ≡ Some m → m.step ≡ Some p → IsFirstAt (marks_of ps) s w m p
first_is ps f s w i d m p rising h sized at is made =
    let x = get_or ps i d in
    let here : IsRecord ps i x = here_is ps i d (firsts_within ps f (word_key s w) i h at) in
    let (n, tells, some, place) = firsts_step ps f (word_key s w) i d h at in
    let one : n ≡ m = of_some n m (sym tells ∙ is) in
    let mine = h.sized i x (omega arith) here m is in
    let (slot, found) = same_place m.slot s m.found w mine sized (ap (λ (z : Mark). word_key z.slot z.found) (sym one) ∙ place) in
    record {
      among = mark_in ps x m (at_in ps i x here) is;
      slot = slot;
      found = found;
      step = made;
      least = λ o among slot' found' some'.
          let (y, member, is') = mark_from ps o among in
          let (j, at') = in_at ps y member in
          let key : word_key o.slot o.found ≡ word_key s w = ap (λ z. word_key z o.found) slot' ∙ ap (word_key s) found' in
          let (from, step, least) = h.hit (word_key s w) i at in
          let low : i ≤ j = least j (omega arith) (y, at', (o, is', some', key)) in
          let mine' : m.line ≡ x.line = mark_line x m is in
          let other : o.line ≡ y.line = mark_line y o is' in
          elim (cases_lt i j) [
            | inl less ↦ let line = rises ps i j x y rising here at' less in omega (arith, line, mine', other)
            | inr most ↦
                let same : i ≡ j = omega (arith, low, most) in
                let equal : x ≡ y = of_some x y (sym here ∙ ap (slice_get ps) same ∙ at') in
                let line = ap (λ (z : Played). z.line) equal in
                omega (arith, line, mine', other)
          ];
    }

pub first_none : (ps : List Played) (f : ℕ → Option ℕ) (s : SlotName) (w : ℕ) (m : Mark) (p : Step) → AreFirsts ps f →
    f (word_key s w) ≡ None → IsFirstAt (marks_of ps) s w m p → ⊥
first_none ps f s w m p h none first =
    let (x, member, is) = mark_from ps m first.among in
    let (j, at) = in_at ps x member in
    let key : word_key m.slot m.found ≡ word_key s w = ap (λ z. word_key z m.found) first.slot ∙ ap (word_key s) first.found in
    h.miss (word_key s w) j none (omega arith) (x, at, (m, is, subst (λ z. IsSome z) (sym first.step) refl, key))

-- the first step at a word is one
pub one_first : (ps : List Played) (s : SlotName) (w : ℕ) (m n : Mark) (p q : Step) → RiseByLine ps → IsFirstAt (marks_of ps) s w m p →
    IsFirstAt (marks_of ps) s w n q → p ≡ q
one_first ps s w m n p q rising f g =
    let same = one_mark (marks_of ps) s w m n p q (marks_differ ps (records_differ ps rising)) f g in
    of_some p q (sym f.step ∙ ap (λ (z : Mark). z.step) same ∙ g.step)

-- ---- what the table's record tells

pub first_told : (ps : List Played) (f : ℕ → Option ℕ) (s : SlotName) (w i : ℕ) (d : Played) (m : Mark) → RiseByLine ps → AreFirsts ps f
    → IsSized s w → f (word_key s w) ≡ Some i → mark_of (get_or ps i d) ≡ Some m
    → IfSome m.step (λ p. (n : Mark) × IsFirstAt (marks_of ps) s w n p)
first_told ps f s w i d m rising h sized at is = go m.step refl
  where
    go : (o : Option Step) → m.step ≡ o → IfSome o (λ p. (n : Mark) × IsFirstAt (marks_of ps) s w n p)
    go None e = tt
    go (Some p) e = (m, first_is ps f s w i d m p rising h sized at is e)

pub first_made : (ps : List Played) (f : ℕ → Option ℕ) (q i : ℕ) (d : Played) (m : Mark) (P : Type 0) → AreFirsts ps f → f q ≡ Some i →
    mark_of (get_or ps i d) ≡ Some m → IfNone m.step P
first_made ps f q i d m P h at is =
    let (n, tells, some, place) = firsts_step ps f q i d h at in
    let same : n ≡ m = of_some n m (sym tells ∙ is) in
    go m.step (subst (λ (z : Mark). IsSome z.step) same some)
  where
    go : (o : Option Step) → IsSome o → IfNone o P
    go None e = absurd (false≢true e)
    go (Some p) e = tt

pub first_marked : (ps : List Played) (f : ℕ → Option ℕ) (q i : ℕ) (d : Played) → AreFirsts ps f → f q ≡ Some i →
    mark_of (get_or ps i d) ≡ None → ⊥
first_marked ps f q i d h at none = let (n, tells, some, place) = firsts_step ps f q i d h at in not_some n (sym none ∙ tells)

-- ---- the words that a run reaches

-- The table has the words of the slot's run so far, and of the other slots what it had before.
pub record IsReaching (ps : List Played) (before at : ℕ → Option ℕ) (s : SlotName) (w : ℕ) : Type 0 where
  pub words : List ℕ
  pub path : IsPath (marks_of ps) s 0 words w
  pub only : (v : ℕ) → IsSized s v → IsSome (at (word_key s v)) → Contains (0 ∷ words) v
  pub whole : (v : ℕ) → IsSized s v → Contains (0 ∷ words) v → IsSome (at (word_key s v))
  pub others : (q : ℕ) → ((v : ℕ) → IsSized s v → q ≡ word_key s v → ⊥) → at q ≡ before q

-- no word of the slot is in a table that lacks its first
fresh_words : (ps : List Played) (at : ℕ → Option ℕ) (s : SlotName) (v : ℕ) → AreReached ps at → at (word_key s 0) ≡ None → IsSized s v →
    IsSome (at (word_key s v)) → ⊥
fresh_words ps at s v h none sized some =
    let (vs, run, only, whole) = h s v sized some in
    let first : IsSome (at (word_key s 0)) = whole 0 (sized.0, omega arith) (first_in 0 vs) in
    false≢true (subst (λ z. IsSome z) none first)

pub reach_start : (ps : List Played) (before at : ℕ → Option ℕ) (s : SlotName) (q n : ℕ) → s.start < 4294967296 → AreReached ps before
    → before (word_key s 0) ≡ None → q ≡ word_key s 0 → Puts before at q n
    → IsReaching ps before at s 0
reach_start ps before at s q n start h none is puts =
    let put : Puts before at (word_key s 0) n = subst (λ k. Puts before at k n) is puts in
    record {
      words = [];
      path = refl;
      only = λ v sized some. elim (cases_eq v 0) [
        | inl same ↦ subst (λ z. Contains (0 ∷ []) z) (sym same) (first_in 0 [])
        | inr other ↦
            let apart : word_key s v ≡ word_key s 0 → ⊥ = λ e. other (same_place s s v 0 sized (sized.0, omega arith) e).1 in
            absurd (fresh_words ps before s v h none sized (subst (λ z. IsSome z) (put.other (word_key s v) apart) some))
      ];
      whole = λ v sized among. elim (in_cases 0 v [] among) [
        | inl same ↦ subst (λ z. IsSome z) (sym (ap (λ z. at (word_key s z)) (sym same) ∙ put.here)) refl
        | inr none ↦ absurd (not_in_none v none)
      ];
      others = λ k apart. put.other k (apart 0 (start, omega arith));
    }

pub reach_more : (ps : List Played) (before at next : ℕ → Option ℕ) (s : SlotName) (w v q n : ℕ) → IsSized s v → IsNextWord ps s w v →
    q ≡ word_key s v → Puts at next q n → IsReaching ps before at s w
    → IsReaching ps before next s v
reach_more ps before at next s w v q n fits (m, p, first, can, is) key puts h =
    let put : Puts at next (word_key s v) n = subst (λ k. Puts at next k n) key puts in
    let to : IsPath (marks_of ps) s 0 (h.words ++ stepped p w ∷ []) (stepped p w) =
    path_push (marks_of ps) s 0 h.words w m p h.path first can in
    record {
      words = h.words ++ v ∷ [];
      path = subst (λ z. IsPath (marks_of ps) s 0 (h.words ++ z ∷ []) z) (sym is) to;
      only = λ u sized some. elim (cases_eq u v) [
        | inl same ↦ subst (λ z. Contains ((0 ∷ h.words) ++ v ∷ []) z) (sym same) (Contains-push (0 ∷ h.words) v)
        | inr other ↦
            let apart : word_key s u ≡ word_key s v → ⊥ = λ e. other (same_place s s u v sized fits e).1 in
            Contains-append_left (0 ∷ h.words) (v ∷ []) u (h.only u sized (subst (λ z. IsSome z) (put.other (word_key s u) apart) some))
      ];
      whole = λ u sized among. elim (cases_eq u v) [
        | inl same ↦ subst (λ z. IsSome z) (sym (ap (λ z. next (word_key s z)) same ∙ put.here)) refl
        | inr other ↦
            let apart : word_key s u ≡ word_key s v → ⊥ = λ e. other (same_place s s u v sized fits e).1 in
            elim (Contains-push_cases (0 ∷ h.words) v u among) [
              | inl early ↦ subst (λ z. IsSome z) (sym (put.other (word_key s u) apart)) (h.whole u sized early)
              | inr last ↦ absurd (other (sym last))
            ]
      ];
      others = λ k apart. put.other k (apart v fits) ∙ h.others k apart;
    }

pub reach_end : (ps : List Played) (before at : ℕ → Option ℕ) (s : SlotName) (w : ℕ) → s.start < 4294967296 → IsLastWord ps s w →
    AreReached ps before → IsReaching ps before at s w → AreReached ps at
reach_end ps before at s w start last h k t v sized some = elim (same_slot_cases t s) [
  | inl same ↦ subst (HasRunOf ps at) (sym same) (k.words, run_of_path (marks_of ps) s 0 k.words w last k.path, k.only, k.whole)
  | inr other ↦
      let alike : (u : ℕ) → IsSized t u → at (word_key t u) ≡ before (word_key t u) =
      λ u fits. k.others (word_key t u) (λ x within e. other (same_place t s u x fits within e).0) in
      let (vs, run, only, whole) = h t v sized (subst (λ z. IsSome z) (alike v sized) some) in (
        vs,
        run,
        λ u fits there. only u fits (subst (λ z. IsSome z) (alike u fits) there),
        λ u fits among. subst (λ z. IsSome z) (sym (alike u fits)) (whole u fits among),
      )
]

-- the slots whose runs are in the table stay in it
pub reach_first : (ps : List Played) (before at : ℕ → Option ℕ) (s : SlotName) (w : ℕ) → s.start < 4294967296 →
    IsReaching ps before at s w → IsSome (at (word_key s 0))
reach_first ps before at s w start k = k.whole 0 (start, omega arith) (first_in 0 k.words)

pub reach_kept : (ps : List Played) (before at : ℕ → Option ℕ) (s : SlotName) (w : ℕ) → s.start < 4294967296 → IsReaching ps before at s w →
    (t : SlotName) → t.start < 4294967296 → IsSome (before (word_key t 0)) → IsSome (at (word_key t 0))
reach_kept ps before at s w start k t low some = elim (same_slot_cases t s) [
  | inl same ↦ subst (λ z. IsSome (at (word_key z 0))) (sym same) (reach_first ps before at s w start k)
  | inr other ↦
      subst (λ z. IsSome z) (sym (k.others (word_key t 0) (λ x within e. other (same_place t s 0 x (low, omega arith) within e).0))) some
]

-- a step that is refused ends the run
pub refused_last : (ps : List Played) (s : SlotName) (w : ℕ) (m : Mark) (p : Step) (o : Option Word) → RiseByLine ps
    → IsFirstAt (marks_of ps) s w m p → IfNone o (¬ CanStep p w) → IfNone o (IsLastWord ps s w)
refused_last ps s w m p None rising first h =
    λ n q other can. h (subst (λ z. CanStep z w) (one_first ps s w n m q p rising other first) can)
refused_last ps s w m p (Some v) rising first h = tt
