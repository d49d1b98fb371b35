use Rattle.std.proofs.Common.{◌≡◌, ℕ, ◌/◌, refl, sym, ◌∙◌, ap, subst}
use Rattle.atomic_table.specs.Seated.{TableId}
use Rattle.pa_slot.specs.Titles.{IsWellFormed, count_word}
use Rattle.pa_region.specs.declared.view.View.{View}
use Rattle.pa_region.specs.Views.{seen_of}
use Rattle.pa_region.specs.Shares.{Share, IsSeatSound, byte_word_count}
use Rattle.pa_region.specs.Stores.{after_store, CanStore, StoreTells}
use Rattle.pa_region.specs.Cuts.{CanCut, titled}
use Rattle.pa_region.proofs.SeatStakes.{stakes_kept, stakes_equal}
use Rattle.pa_region.proofs.CutSound.{cut_well, cut_store, cut_still, cut_zero, cut_is, cut_allowed, title_inside, titled_sound}
use Rattle.pa_region.proofs.region.Region.cut.Goals as goal

-- the region's words, which have the title
pub count_byte-at-requires : goal.count_byte-at-requires
count_byte-at-requires c =
    let can = subst (λ (h : Share). CanCut c.args.title h.view) (sym c.seat.view_is) c.requires.able in (
      byte_word_count c.seat.inside.seat.table_id,
      c.seat.invariant.1.small,
      cut_well c.seat.inside.seat.table_id c.args.title c.seat.inside.seat.me.0 c.seat.invariant.1 can,
    )

pub store-requires-clause-able : goal.store-requires-clause-able
store-requires-clause-able c =
    subst (λ (n : ℕ). CanStore n c.args.seat.now.view) (sym c.count_byte-at.ensures)
    (cut_store c.args.title c.args.seat.now.view c.requires.able)

pub title_as-requires-clause-region : goal.title_as-requires-clause-region
title_as-requires-clause-region c =
    let old = c.args.seat.now.view in
    let first = subst (λ (h : Share). IsSeatSound h.region h.view) c.seat.view_is c.seat.invariant.1 in
    let well = cut_well c.args.seat.now.region c.args.title old first c.requires.able in
    let region : c.args.seat.now.region ≡ c.seat-2.inside.seat.table_id =
    sym (ap (λ (h : Share). h.region) c.seat-2.view_is ∙ c.store.ensures.region) in
    let same = sym region ∙ (c.requires.region ∙ sym c.self.view_is) in (
      same,
      title_inside c.seat-2.inside.seat.table_id c.self.inside.table.shared.table_id c.args.title
          (c.count_byte-at.result / 8) c.count_byte-at.result same
          (subst (λ (z : TableId). IsWellFormed (byte_word_count z) c.args.title) region well) c.count_byte-at.ensures refl,
    )

-- the view that the store left
pub title_as-requires-clause-allowed : goal.title_as-requires-clause-allowed
title_as-requires-clause-allowed c =
    let old = c.args.seat.now.view in
    let t = c.args.title in
    let first = subst (λ (h : Share). IsSeatSound h.region h.view) c.seat.view_is c.seat.invariant.1 in
    let now : after_store c.count_byte-at.result 0 old ≡ c.seat-2.inside.seat.me.0 =
    sym (ap (λ (h : Share). h.view) c.seat-2.view_is ∙ c.store.ensures.view) in
    let can = subst (λ (u : View). CanCut t u) now
    (subst (λ (n : ℕ). CanCut t (after_store n 0 old)) (sym c.count_byte-at.ensures) (cut_still t old c.requires.able)) in
    let zero = subst (λ (u : View). count_word u.words t ≡ 0) now
    (subst (λ (n : ℕ). count_word (after_store n 0 old).words t ≡ 0) (sym c.count_byte-at.ensures)
    (cut_zero c.args.seat.now.region t old first c.requires.able)) in
    cut_allowed t c.self.inside.table.shared.table_id.slots c.seat-2.inside.seat.id
    (c.count_byte-at.result / 8) c.seat-2.inside.seat.me can zero

pub invariant_of-seat : goal.invariant_of-seat
invariant_of-seat c =
    let old = c.args.seat.now.view in
    let t = c.args.title in
    let told = c.title_as.ensures.told.1.0 in
    let now : after_store c.count_byte-at.result 0 old ≡ c.seat-2.inside.seat.me.0 =
    sym (ap (λ (h : Share). h.view) c.seat-2.view_is ∙ c.store.ensures.view) in
    let can = subst (λ (u : View). CanCut t u) now
    (subst (λ (n : ℕ). CanCut t (after_store n 0 old)) (sym c.count_byte-at.ensures) (cut_still t old c.requires.able)) in (
      told.1 ∙ c.seat-2.invariant.0,
      subst (λ (z : TableId). IsSeatSound z c.title_as.new.seat.me.0) (sym c.title_as.ensures.seat.0)
          (subst (λ (u : View). IsSeatSound c.seat-2.inside.seat.table_id u) (sym told.0)
          (titled_sound c.seat-2.inside.seat.table_id t c.seat-2.inside.seat.me.0 c.seat-2.invariant.1 can)),
      stakes_kept c.seat-2.inside.stakes c.seat-2.inside.seat.me.0 c.title_as.new.seat.me.0
          (stakes_equal c.seat-2.inside.seat.me.0 c.title_as.new.seat.me.0 (ap (λ (u : View). u.stakes) told.0)) c.seat-2.invariant.2,
      c.title_as.ensures.aware,
    )

pub returns-clause-view : goal.returns-clause-view
returns-clause-view c =
    let old = c.args.seat.now.view in
    let t = c.args.title in
    let view : c.seat-2.inside.seat.me.0 ≡ after_store c.count_byte-at.result 0 old = ap (λ (h : Share). h.view) c.seat-2.view_is ∙
    c.store.ensures.view in
    let tells = subst (λ (u : View). StoreTells c.count_byte-at.result old u) c.store.ensures.view c.store.ensures.owns in
    c.title_as.ensures.told.1.0.0
    ∙ (ap (λ (u : View). titled t u) view
    ∙ (ap (λ (n : ℕ). titled t (after_store n 0 old)) c.count_byte-at.ensures
    ∙ cut_is t old c.requires.able (subst (λ (n : ℕ). StoreTells n old (after_store n 0 old)) c.count_byte-at.ensures tells)))

pub returns-clause-new : goal.returns-clause-new
returns-clause-new c = ap (λ (u : View). seen_of u c.args.title) c.title_as.ensures.told.1.0.0 ∙ c.title_as.ensures.told.1.1
