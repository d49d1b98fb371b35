-- The walk along the records of a thread.
use Rattle.std.proofs.Common.{◌≡◌, ℕ, ◌+◌, ◌<◌, ◌≤◌, Bool, List, [], get_or, length, Option, Some, None, sym, ◌∙◌, ap, subst, arith, inl, inr}
use Rattle.std.specs.Prelude.{slice_get}
use Rattle.std.proofs.lemmas.Bool.{cases_lt}
use Rattle.std.proofs.lemmas.Option.{slice_get_within}
use Rattle.pa_slot.specs.Run.{Mark}
use Rattle.pa_record.specs.declared.history.CellEntry.{CellEntry}
use Rattle.pa_lists.proofs.Members.{of_some}
use Rattle.pa_lists.proofs.Indexed.{here_is}
use Rattle.pa_rules.specs.declared.played.Played.{Played}
use Rattle.pa_rules.specs.declared.verdict.Place.TheVariants as places
use Rattle.pa_rules.specs.Played.{mark_of}
use Rattle.pa_rules.specs.RecordDemands.{IsRecord, SeenDemand}
use Rattle.pa_rules.specs.Rising.{RiseByLine}
use Rattle.pa_audit_order.specs.Looks.{IsMarked}
use Rattle.pa_audit_order.specs.Steps.{ArePrevious}
use Rattle.pa_audit_order.specs.Cuts.{IsAhead, IsAheadAt, IsNear, IsGrown, IsOrderly, TellsOf}
use Rattle.pa_audit_order.proofs.Cutting.{cut_weaker}
use Rattle.pa_audit_order.proofs.Meeting.{ahead_at, ahead_on, ahead_next, fresh_met, met_fresh}

-- the records of the thread before place k meet what is asked, and the cut is that of those from k on
pub record IsWalked (cells : ℕ → List CellEntry) (ps : List Played) (t k : ℕ) (marked : List Bool) (stack : List ℕ) (floor : ℕ)
    (left : ℕ → Option ℕ) : Type 0 where
  pub met : (j : ℕ) (x : Played) → j < k → IsRecord ps j x → x.thread ≡ t → SeenDemand cells ps (places.Record j)
  pub cut : IsGrown cells ps (IsAhead cells ps t k) (length ps) marked stack floor left
  pub empty : stack ≡ []

-- the record at place k, if j is that place
at_place : (ps : List Played) (j k : ℕ) (d x : Played) → k < length ps → k ≡ j → IsRecord ps j x → get_or ps k d ≡ x
at_place ps j k d x below same at = of_some (get_or ps k d) x (sym (here_is ps k d below) ∙ ap (slice_get ps) same ∙ at)

-- a record of another thread
pub walked_past : (cells : ℕ → List CellEntry) (ps : List Played) (t k : ℕ) (d : Played) (marked : List Bool) (stack : List ℕ) (floor : ℕ)
    (left : ℕ → Option ℕ)
    → k < length ps → ((get_or ps k d).thread ≡ t → ⊥)
    → IsWalked cells ps t k marked stack floor left → IsWalked cells ps t (k + 1) marked stack floor left
walked_past cells ps t k d marked stack floor left below other h = record {
  met = λ j x less at of. elim (cases_lt j k) [
    | inl early ↦ h.met j x early at of
    | inr late ↦
        let same : k ≡ j = omega (arith, less, late) in
        absurd (other (ap (λ (z : Played). z.thread) (at_place ps j k d x below same at) ∙ of))
  ];
  cut = cut_weaker cells ps (IsAhead cells ps t k) (IsAhead cells ps t (k + 1)) (length ps) marked stack floor left
      (λ x ahead. ahead_next cells ps t k x ahead) h.cut;
  empty = h.empty;
}

-- the cut for the record at place k
pub walked_cut : (cells : ℕ → List CellEntry) (ps : List Played) (t k at : ℕ) (d : Played) (marked : List Bool) (stack : List ℕ) (floor : ℕ)
    (left : ℕ → Option ℕ)
    → at ≡ k → k < length ps → (get_or ps k d).thread ≡ t
    → IsWalked cells ps t k marked stack floor left → IsGrown cells ps (IsAheadAt cells ps at) (length ps) marked stack floor left
walked_cut cells ps t k at d marked stack floor left same below of h =
    subst (λ z. IsGrown cells ps (IsAheadAt cells ps z) (length ps) marked stack floor left) (sym same)
    (cut_weaker cells ps (IsAhead cells ps t k) (IsAheadAt cells ps k) (length ps) marked stack floor left
    (λ x ahead. ahead_at cells ps t k (get_or ps k d) x (here_is ps k d below) of ahead) h.cut)

-- the walk goes on if the record at its place is orderly
pub walked_on : (cells : ℕ → List CellEntry) (ps : List Played) (table : List (Option ℕ)) (t k at : ℕ) (d : Played)
    (before marked : List Bool) (old stack : List ℕ) (low floor : ℕ) (earlier left : ℕ → Option ℕ)
    → at ≡ k → k < length ps
    → (get_or ps k d).thread ≡ t → RiseByLine ps → ArePrevious ps table (length ps) → IsWalked cells ps t k before old low earlier
    → IsGrown cells ps (IsAheadAt cells ps at) (length ps) marked [] floor left → stack ≡ []
    → ((j : ℕ) → IsNear cells ps j at → IsMarked marked j) → IsOrderly marked at left (mark_of (get_or ps k d)) →
    IsWalked cells ps t (k + 1) marked stack floor left
walked_on cells ps table t k at d before marked old stack low floor earlier left same below of rising tables h cut empty near fresh =
    let y = get_or ps k d in
    let here = here_is ps k d below in
    let mine : IsGrown cells ps (IsAheadAt cells ps k) (length ps) marked [] floor left =
    subst (λ z. IsGrown cells ps (IsAheadAt cells ps z) (length ps) marked [] floor left) same cut in
    let steps : (j : ℕ) → IsNear cells ps j k →
    IsMarked marked j = subst (λ z. (j : ℕ) → IsNear cells ps j z → IsMarked marked j) same near in
    let new : IsOrderly marked k left (mark_of y) = subst (λ z. IsOrderly marked z left (mark_of y)) same fresh in
    let meets = fresh_met cells ps (IsAheadAt cells ps k) table marked floor k left y rising tables mine steps here new in
    record {
      met = λ j x less there its. elim (cases_lt j k) [
        | inl early ↦ h.met j x early there its
        | inr late ↦ let index : k ≡ j = omega (arith, less, late) in subst (λ z. SeenDemand cells ps (places.Record z)) index meets
      ];
      cut =
          subst (λ zs. IsGrown cells ps (IsAhead cells ps t (k + 1)) (length ps) marked zs floor left) (sym empty)
          (cut_weaker cells ps (IsAheadAt cells ps k) (IsAhead cells ps t (k + 1)) (length ps) marked [] floor left
          (λ x ahead. ahead_on cells ps t k y x here of ahead) mine);
      empty = empty;
    }

-- if the record at its place isn't orderly, it is the first of its thread that doesn't meet what is asked
pub walked_not : (cells : ℕ → List CellEntry) (ps : List Played) (t k at : ℕ) (d : Played) (before marked : List Bool) (old : List ℕ)
    (low floor : ℕ) (earlier left : ℕ → Option ℕ)
    → at ≡ k → k < length ps
    → IsWalked cells ps t k before old low earlier → IsGrown cells ps (IsAheadAt cells ps at) (length ps) marked [] floor left
    → ((m : Mark) → mark_of (get_or ps k d) ≡ Some m → m.slot.start < 4294967296) → (IsOrderly marked at left (mark_of (get_or ps k d)) → ⊥)
    → TellsOf ps t (λ i. SeenDemand cells ps (places.Record i)) (Some at)
walked_not cells ps t k at d before marked old low floor earlier left same below h cut sized stale =
    let y = get_or ps k d in
    let here : IsRecord ps at y = subst (λ z. IsRecord ps z y) (sym same) (here_is ps k d below) in (
      λ asks. stale (met_fresh cells ps marked floor at left y cut here sized asks),
      λ j x less there of. h.met j x (omega (arith, less, same)) there of,
    )

-- once there are no more records, each of the thread meets what is asked
pub walked_all : (cells : ℕ → List CellEntry) (ps : List Played) (t k : ℕ) (marked : List Bool) (stack : List ℕ) (floor : ℕ)
    (left : ℕ → Option ℕ)
    → length ps ≤ k → IsWalked cells ps t k marked stack floor left
    → TellsOf ps t (λ i. SeenDemand cells ps (places.Record i)) None
walked_all cells ps t k marked stack floor left end h =
    λ i x at of. h.met i x (let below = slice_get_within ps i x at in omega (arith, end, below)) at of

pub walked_start : (cells : ℕ → List CellEntry) (ps : List Played) (t : ℕ) (marked : List Bool) (stack : List ℕ) (floor : ℕ)
    (left : ℕ → Option ℕ)
    → stack ≡ [] → IsGrown cells ps (IsAhead cells ps t 0) (length ps) marked stack floor left
    → IsWalked cells ps t 0 marked stack floor left
walked_start cells ps t marked stack floor left empty cut =
    record { met = λ j x less at of. absurd (omega (arith, less)); cut = cut; empty = empty }
