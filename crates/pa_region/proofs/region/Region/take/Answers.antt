use Rattle.std.proofs.Common.{◌≡◌, ℕ, ◌<◌, ◌∙◌, sym, ap, subst, arith}
use Rattle.atomic_table.specs.Seated.{TableId}
use Rattle.pa_slot.specs.declared.title.Title.{Title}
use Rattle.pa_region.specs.declared.view.View.{View}
use Rattle.pa_region.specs.Views.{stake_of}
use Rattle.pa_region.specs.Waiting.{poisoned_of, unclean_of}
use Rattle.pa_region.specs.Hands.{CanTake, IsParted, united}
use Rattle.pa_region.specs.Marks.{AreStakes}
use Rattle.pa_region.specs.Shares.{Share, IsSeatSound}
use Rattle.pa_region.proofs.Awareness.{stays_allowed}
use Rattle.pa_region.proofs.JoinStep.{united_parts}
use Rattle.pa_region.proofs.HandSound.{united_sound, take_allowed}
use Rattle.pa_region.proofs.SeatStakes.{both_stakes}
use Rattle.pa_region.proofs.region.Region.take.Goals as goal

-- a view may take in another, said of the seats' own views
able_inside : (mine seat other note : Share) → mine ≡ seat → other ≡ note → unclean_of other.view ≡ 0 →
    ((k : ℕ) (t : Title) → 0 < stake_of note.view k → poisoned_of seat.view t ≡ 0) → CanTake mine.view other.view
able_inside mine seat other note e f clean able = record {
  clean = clean;
  apart = λ k t has. ap (λ (h : Share). poisoned_of h.view t) e ∙ able k t (subst (λ (h : Share). 0 < stake_of h.view k) f has);
}

pub take_as-requires-clause-allowed : goal.take_as-requires-clause-allowed
take_as-requires-clause-allowed c =
    take_allowed c.seat.inside.seat.id c.other.inside.seat.id c.seat.inside.seat.me.0 c.other.inside.seat.me.0
    (able_inside (record { region = c.seat.inside.seat.table_id; view = c.seat.inside.seat.me.0 }) c.args.seat.now
    (record { region = c.other.inside.seat.table_id; view = c.other.inside.seat.me.0 }) c.args.note
    c.seat.view_is (c.other.view_is ∙ c.note.view_is)
    (subst (λ (h : Share). unclean_of h.view ≡ 0) (sym c.other.view_is) c.note.invariant) c.requires.able)

pub invariant_of-seat : goal.invariant_of-seat
invariant_of-seat c =
    let v = c.seat.inside.seat.me.0 in
    let w = c.other.inside.seat.me.0 in
    let mine = c.take_as.ensures.seat in
    let told = c.tell_as.ensures.told.1 in
    let view = told.0 ∙ ap (λ m. m.0) mine.2 in
    let same : c.other.inside.seat.table_id ≡ c.seat.inside.seat.table_id =
    ap (λ (h : Share). h.region) (c.other.view_is ∙ c.note.view_is) ∙
    (c.requires.region.1 ∙ (sym c.requires.region.0 ∙ sym (ap (λ (h : Share). h.region) c.seat.view_is))) in (
      told.1 ∙ (ap (λ m. m.1) mine.2 ∙ c.seat.invariant.0),
      subst (λ (z : TableId). IsSeatSound z c.tell_as.new.seat.me.0) (sym (c.tell_as.ensures.seat.0 ∙ mine.0))
          (subst (λ (u : View). IsSeatSound c.seat.inside.seat.table_id u) (sym view)
          (united_sound c.seat.inside.seat.table_id v w c.seat.invariant.1
          (subst (λ (z : TableId). IsSeatSound z w) same c.other.invariant.1))),
      subst (λ (u : View). AreStakes c.both-seat-inside.result u) (sym view)
          (both_stakes v w c.seat.inside.stakes c.other.inside.stakes c.both-seat-inside.result c.seat.invariant.2 c.other.invariant.2
          c.both-seat-inside.ensures),
      c.tell_as.ensures.aware,
    )

pub returns-clause-view : goal.returns-clause-view
returns-clause-view c =
    c.tell_as.ensures.told.1.0
    ∙ (ap (λ m. m.0) c.take_as.ensures.seat.2
    ∙ (ap (λ (h : Share). united h.view c.other.inside.seat.me.0) c.seat.view_is ∙
    ap (λ (h : Share). united c.args.seat.now.view h.view) (c.other.view_is ∙ c.note.view_is)))

pub returns-clause-parted : goal.returns-clause-parted
returns-clause-parted c =
    let view : c.tell_as.new.seat.me.0 ≡ united c.args.seat.now.view c.args.note.view =
    c.tell_as.ensures.told.1.0
    ∙ (ap (λ m. m.0) c.take_as.ensures.seat.2
    ∙ (ap (λ (h : Share). united h.view c.other.inside.seat.me.0) c.seat.view_is ∙
    ap (λ (h : Share). united c.args.seat.now.view h.view) (c.other.view_is ∙ c.note.view_is))) in
    subst (λ (u : View). IsParted u c.args.seat.now.view c.args.note.view) (sym view) (united_parts c.args.seat.now.view c.args.note.view)

pub tell_as-requires-clause-region : goal.tell_as-requires-clause-region
tell_as-requires-clause-region c = (
  c.take_as.ensures.seat.0 ∙ (ap (λ (h : Share). h.region) c.seat.view_is ∙ (c.requires.region.0 ∙ sym c.self.view_is)),
  (let w = c.self.invariant.1 in omega arith),
)

pub tell_as-requires-clause-allowed : goal.tell_as-requires-clause-allowed
tell_as-requires-clause-allowed c = stays_allowed c.self.inside.table.shared.table_id.slots c.take_as.new.seat.id 0 c.take_as.new.seat.me
