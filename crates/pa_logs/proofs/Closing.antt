-- The words of the closed region end with each standing title's history, by what the close ensures for its seat.
use Rattle.std.proofs.Common.{◌≡◌, ℕ, false, ◌&&◌, List, ap, arith, inl, inr}
use Rattle.std.specs.Prelude.{nat_lt}
use Rattle.std.specs.List.{sum_by}
use Rattle.std.proofs.lemmas.Bool.{cases_lt, and_parts}
use Rattle.pa_slot.specs.declared.title.Title.{Title}
use Rattle.pa_slot.specs.declared.word.SlotName.{SlotName}
use Rattle.pa_slot.specs.Titles.{same_title}
use Rattle.pa_slot.specs.Holdings.{one}
use Rattle.pa_region.specs.declared.view.OwnTitle.{OwnTitle}
use Rattle.pa_region.specs.declared.view.View.{View}
use Rattle.pa_region.specs.Views.{HasTitle, logged_of, names, uncut_of}
use Rattle.pa_region.specs.Waiting.{is_unclean, unclean_of}
use Rattle.pa_region.specs.Loads.{has_unclean}
use Rattle.pa_region.specs.History.{Done}
use Rattle.pa_region.specs.Ends.{EndsWith as RegionEndsWith, IsEnd}
use Rattle.pa_region.proofs.OneRead.{one_true}
use Rattle.pa_rules.specs.Told.{Told}
use Rattle.pa_logs.specs.Ending.{EndsWith, AreEnds, IsClosing, ClosesHolding}
use Rattle.pa_logs.proofs.Ends.{held_follows}
use Rattle.pa_logs.proofs.Sums.{sum_in, sum_some}

-- a view with no unclean Own has none of a title
pub none_unclean : (v : View) (t : Title) → unclean_of v ≡ 0 → has_unclean v t ≡ false
none_unclean v t clean =
    let of_title : OwnTitle → ℕ = λ (o : OwnTitle). one (same_title o.title t && is_unclean o.state) in
    elim (cases_lt 0 (sum_by of_title v.owns)) [
      | inl some_here ↦
          let (o, among, more) = sum_some of_title v.owns some_here in
          let both = and_parts (same_title o.title t) (is_unclean o.state) (one_true _ more) in
          let part = sum_in (λ (p : OwnTitle). one (is_unclean p.state)) v.owns o among in
          let is : one (is_unclean o.state) ≡ 1 = ap one both.1 in
          absurd (omega arith)
      | inr none ↦ let none_here : sum_by of_title v.owns ≡ 0 = omega arith in ap (λ n. nat_lt 0 n) none_here
    ]

-- what the region says of a title's words is what is asked here
ends_so : (words : List ℕ) (v : View) (t : Title) (history : List Done) → unclean_of v ≡ 0 → RegionEndsWith words v t history →
    EndsWith words t history
ends_so words v t history clean is = record {
  word = is.last;
  quarantined = λ freed i from below. is.poison freed i below;
  live = λ live. is.content live (none_unclean v t clean);
}

-- a title that exists is named, or held by the seat
ends_told : (words : List ℕ) (v : View) (t : Title) → (end : IsEnd words v) → uncut_of v t ≡ 0 →
    (logged_of v (names t) ≡ 0 → HasTitle v t) → RegionEndsWith words v t (end.logs.history t)
ends_told words v t end cut kept = elim (cases_lt 0 (logged_of v (names t))) [
  | inl named ↦ end.named t named cut
  | inr none ↦ end.held t (kept (omega arith))
]

ends_of : (sizes : SlotName → ℕ) (words : List ℕ) (r : Told) (v : View) → (end : IsEnd words v) → IsClosing sizes r v →
    AreEnds sizes words r end.logs.history
ends_of sizes words r v end closing p title stands =
    let told = ends_told words v title end (closing.cut p title stands) (closing.kept p title stands) in
    (closing.long p title stands, ends_so words v title (end.logs.history title) closing.clean told)

pub closes_holding : ClosesHolding
closes_holding = record {
  ends = ends_of;
  held = λ sizes words t r v ts same told logs end closing.
      held_follows sizes words t r v ts same told (record { logs = logs; all = end.logs }) (ends_of sizes words r v end closing);
}
