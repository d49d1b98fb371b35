use Rattle.std.proofs.Common.{◌∙◌, sym, ap, subst}
use Rattle.atomic_table.specs.Seated.{TableId}
use Rattle.pa_slot.specs.declared.word.Step.TheVariants.{Issue}
use Rattle.pa_region.specs.declared.view.View.{View}
use Rattle.pa_region.specs.Views.{stake_of}
use Rattle.pa_region.specs.Moves.{CanCount, IsFound, after_sealed}
use Rattle.pa_region.specs.Shares.{Share, IsSeatSound, byte_word_count}
use Rattle.pa_region.proofs.Found.{handle_held}
use Rattle.pa_region.proofs.Pieces.{held_title}
use Rattle.pa_region.proofs.SeatStakes.{stakes_kept}
use Rattle.pa_region.proofs.SealStep.{sealed_allowed, sealed_sound, sealed_stakes}
use Rattle.pa_region.proofs.Allowed.{place_inside}
use Rattle.pa_region.proofs.region.Region.count_sealed.Goals as goal

pub count_index-place-requires : goal.count_index-place-requires
count_index-place-requires c =
    let can = subst (λ (h : Share). CanCount Issue c.args.title h.view) (sym c.seat.view_is) c.requires.able in (
      byte_word_count c.seat.inside.seat.table_id,
      c.seat.invariant.1.well c.args.title
          (held_title c.seat.inside.seat.me.0 c.args.title (handle_held Issue c.args.title c.seat.inside.seat.me.0 can.0)),
    )

pub add_as-requires-clause-region : goal.add_as-requires-clause-region
add_as-requires-clause-region c =
    let can = subst (λ (h : Share). CanCount Issue c.args.title h.view) (sym c.seat.view_is) c.requires.able in
    let same = ap (λ (h : Share). h.region) c.seat.view_is ∙ (c.requires.region ∙ sym c.self.view_is) in
    let well = c.seat.invariant.1.well c.args.title
    (held_title c.seat.inside.seat.me.0 c.args.title (handle_held Issue c.args.title c.seat.inside.seat.me.0 can.0)) in (
      same,
      place_inside c.seat.inside.seat.table_id c.self.inside.table.shared.table_id c.args.title c.count_index-place.result same well
          c.count_index-place.ensures,
    )

pub add_as-requires-clause-allowed : goal.add_as-requires-clause-allowed
add_as-requires-clause-allowed c =
    let can = subst (λ (h : Share). CanCount Issue c.args.title h.view) (sym c.seat.view_is) c.requires.able in
    sealed_allowed c.args.title c.self.inside.table.shared.table_id.slots c.seat.inside.seat.id c.count_index-place.result
    c.added.result c.seat.inside.seat.me c.count_index-place.ensures c.added.ensures can

pub invariant_of-seat : goal.invariant_of-seat
invariant_of-seat c =
    let can = subst (λ (h : Share). CanCount Issue c.args.title h.view) (sym c.seat.view_is) c.requires.able in
    let told = c.add_as.ensures.told in
    let before = c.seat.inside.seat.me.0 in
    let region = c.add_as.ensures.seat.0 in (
      told.1 ∙ c.seat.invariant.0,
      subst (λ (z : TableId). IsSeatSound z c.add_as.new.seat.me.0) (sym region)
          (subst (λ (w : View). IsSeatSound c.seat.inside.seat.table_id w) (sym told.0)
          (sealed_sound c.seat.inside.seat.table_id c.args.title c.add_as.result before can c.seat.invariant.1)),
      stakes_kept c.seat.inside.stakes before c.add_as.new.seat.me.0
          (λ k. ap (λ (w : View). stake_of w k) told.0 ∙ sealed_stakes c.args.title c.add_as.result before can.1 k)
          c.seat.invariant.2,
      c.add_as.ensures.aware,
    )

pub returns : goal.returns
returns c =
    let told = c.add_as.ensures.told in
    record {
      region = c.add_as.ensures.seat.0 ∙ ap (λ (h : Share). h.region) c.seat.view_is;
      view = told.0 ∙ ap (λ (h : Share). after_sealed c.args.title c.add_as.result h.view) c.seat.view_is;
      enabled = told.2;
      found = subst (λ (h : Share). IsFound c.args.title c.add_as.result h.view) c.seat.view_is told.3;
    }
