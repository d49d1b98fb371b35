use Rattle.std.proofs.Common.{◌≡◌, ◌<◌, ◌∙◌, sym, subst, ap, arith}
use Rattle.std.proofs.lemmas.List.Elements.{All-contains}
use Rattle.pa_slot.specs.declared.title.Title.{Title}
use Rattle.pa_region.specs.declared.view.View.{View}
use Rattle.pa_region.specs.Views.{free_of, stake_of}
use Rattle.pa_region.specs.Hands.{IsParted, given_after, united}
use Rattle.pa_region.specs.Lending.{CanLend}
use Rattle.pa_region.specs.Shares.{Share}
use Rattle.pa_root.specs.Filling.{frees_parcel}
use Rattle.pa_root.specs.Handing.{HasOnly, HasSeenFill}
use Rattle.pa_root.proofs.Parcels.{note_has}
use Rattle.pa_thread_state.proofs.HandedBack.{left_view, left_lends, handed_back}
use Rattle.pa_thread_state.proofs.Refused.{taken_back}
use Rattle.pa_thread_state.proofs.giving.give_titles.Goals as goal

pub give_to-requires-clause-lender : goal.give_to-requires-clause-lender
give_to-requires-clause-lender g c =
    let ts = c.args.titles.items in let v = c.args.seat.now.view in
    let left : c.hand_free-note.new.seat.view ≡ left_view ts v = c.hand_free-note.ensures.left ∙
    ap (λ us. left_view us v) c.as_slice.ensures.value in
    subst CanLend (sym left)
    (left_lends ts v c.aware.ensures.aware c.requires.once
    (λ t among. All-contains (λ (u : Title). 0 < free_of v u) ts t c.requires.free among) c.requires.lender)

pub give_to-requires-clause-has : goal.give_to-requires-clause-has
give_to-requires-clause-has g c =
    let ts = c.args.titles.items in let v = c.args.seat.now.view in
    let given : c.hand_free-note.result.view ≡ given_after (frees_parcel ts) v = c.hand_free-note.ensures.given ∙
    ap (λ us. given_after (frees_parcel us) v) c.as_slice.ensures.value in
    subst (λ z. HasOnly ts z) (sym given) (note_has ts v)

pub give_to-requires-clause-named : goal.give_to-requires-clause-named
give_to-requires-clause-named g c t among =
    let ts = c.args.titles.items in let v = c.args.seat.now.view in
    let given : c.hand_free-note.result.view ≡ given_after (frees_parcel ts) v = c.hand_free-note.ensures.given ∙
    ap (λ us. given_after (frees_parcel us) v) c.as_slice.ensures.value in
    subst (λ z. HasSeenFill c.args.partition z t) (sym given) (c.requires.named t among)

pub take-requires-clause-able : goal.take-requires-clause-able
take-requires-clause-able g c k t has =
    let ts = c.args.titles.items in let v = c.args.seat.now.view in
    let given : c.hand_free-note.result.view ≡ given_after (frees_parcel ts) v = c.hand_free-note.ensures.given ∙
    ap (λ us. given_after (frees_parcel us) v) c.as_slice.ensures.value in
    let none = (note_has ts v).stakes k in
    let e : stake_of c.in-Err.note.view k ≡ 0 = ap (λ (n : Share). stake_of n.view k) c.in-Err.ensures.handed ∙
    (ap (λ (z : View). stake_of z k) given ∙ none) in
    absurd (omega arith)

pub returns-in-Ok-clause-gave : goal.returns-in-Ok-clause-gave
returns-in-Ok-clause-gave g c =
    let ts = c.args.titles.items in let v = c.args.seat.now.view in
    let left : c.hand_free-note.new.seat.view ≡ left_view ts v = c.hand_free-note.ensures.left ∙
    ap (λ us. left_view us v) c.as_slice.ensures.value in
    let given : c.hand_free-note.result.view ≡ given_after (frees_parcel ts) v = c.hand_free-note.ensures.given ∙
    ap (λ us. given_after (frees_parcel us) v) c.as_slice.ensures.value in
    handed_back c.args.line c.args.partition ts v c.hand_free-note.new.seat.view c.hand_free-note.result.view c.give_to.new.seat.view left
    given c.aware-2.ensures.aware c.in-Ok.ensures.took

pub returns-in-Err-clause-back : goal.returns-in-Err-clause-back
returns-in-Err-clause-back g c =
    let ts = c.args.titles.items in let v = c.args.seat.now.view in
    let left : c.hand_free-note.new.seat.view ≡ left_view ts v = c.hand_free-note.ensures.left ∙
    ap (λ us. left_view us v) c.as_slice.ensures.value in
    let given : c.hand_free-note.result.view ≡ given_after (frees_parcel ts) v = c.hand_free-note.ensures.given ∙
    ap (λ us. given_after (frees_parcel us) v) c.as_slice.ensures.value in
    let a : c.give_to.new.seat.view ≡ c.hand_free-note.new.seat.view = ap (λ (n : Share). n.view) c.in-Err.ensures.err in
    let b : c.in-Err.note.view ≡ c.hand_free-note.result.view = ap (λ (n : Share). n.view) c.in-Err.ensures.handed in
    let w = c.take.new.seat.view in
    let again = subst (λ z. IsParted w z c.hand_free-note.result.view) a
    (subst (λ z. IsParted w c.give_to.new.seat.view z) b c.take.ensures.parted) in
    let whole = c.take.ensures.view ∙ (ap (λ z. united z c.in-Err.note.view) a ∙ ap (λ z. united c.hand_free-note.new.seat.view z) b) in
    taken_back c.seen_numbers_join.ensures c.seen_lists_join.ensures ts v c.hand_free-note.new.seat.view c.hand_free-note.result.view w left
    given
    c.hand_free-note.ensures.parted again whole
