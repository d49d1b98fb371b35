use Rattle.std.proofs.Common.{◌≡◌, ◌∙◌, ◌<◌, rules, [], length, map, take, sym, ap, subst, arith}
use Rattle.std.specs.Prelude.{All}
use Rattle.pa_slot.specs.declared.title.Title.{Title}
use Rattle.pa_buckets.proofs.Facts.{IsRow-of}
use Rattle.pa_region.specs.declared.view.View.{View}
use Rattle.pa_region.specs.Views.{free_of}
use Rattle.pa_region.specs.Hands.{CanHand, left_after, given_after}
use Rattle.pa_region.specs.Marks.{parcel_of}
use Rattle.pa_root.specs.Filling.{free_item, frees_parcel, ready_root}
use Rattle.pa_root.specs.Handing.{numbered_by}
use Rattle.pa_root.specs.Taking.{AreSlotsTaken}
use Rattle.pa_root.proofs.TakenOut.{HasTakenSlots, can_start, slots_free, slots_given, slots_out, slots_shown}
use Rattle.pa_root.proofs.takes.take_out.Goals as goal

pub take_slots-titles-requires-clause-few : goal.take_slots-titles-requires-clause-few
take_slots-titles-requires-clause-few c =
    let real : c.args.class < 170 = search rules in
    let few = (IsRow-of c.args.class real).few_fill in
    let want = c.requires.want in
    omega arith

pub take_slots-titles-requires-clause-able : goal.take_slots-titles-requires-clause-able
take_slots-titles-requires-clause-able c =
    let (p, asked, s, ready, shown) = c.requires.ready in
    (ready_root asked s c.args.own.now.view, can_start p c.args.class asked s c.args.own.now.view c.args.shelf.now ready shown)

pub numbers_seen-slots-requires-clause-free : goal.numbers_seen-slots-requires-clause-free
numbers_seen-slots-requires-clause-free c =
    let (p, asked, s, ready, shown) = c.requires.ready in
    let class = c.args.class in let u = c.args.own.now.view in let v = c.take_slots-titles.new.own.view in
    let l = c.take_slots-titles.new.shelf in
    let titles = c.take_slots-titles.result.items in
    let r = ready_root asked s u in
    let h : HasTakenSlots p class asked s u v l titles = record {
      ready = ready;
      aware = c.aware.ensures.aware;
      are = subst (λ n. AreSlotsTaken class n r u v l titles) c.requires.want
          (c.take_slots-titles.ensures.taken r (can_start p class asked s u c.args.shelf.now ready shown));
    } in
    subst (λ ts. All (λ (t : Title). 0 < free_of v t) ts) (sym c.as_slice.ensures.value) (slots_free p class asked s u v l titles h)

pub hand-note-requires-clause-able : goal.hand-note-requires-clause-able
hand-note-requires-clause-able c =
    let (p, asked, s, ready, shown) = c.requires.ready in
    let class = c.args.class in let u = c.args.own.now.view in let v = c.take_slots-titles.new.own.view in
    let l = c.take_slots-titles.new.shelf in
    let titles = c.take_slots-titles.result.items in
    let r = ready_root asked s u in
    let h : HasTakenSlots p class asked s u v l titles = record {
      ready = ready;
      aware = c.aware.ensures.aware;
      are = subst (λ n. AreSlotsTaken class n r u v l titles) c.requires.want
          (c.take_slots-titles.ensures.taken r (can_start p class asked s u c.args.shelf.now ready shown));
    } in
    let can = (slots_given p class asked s u v l titles h).can in
    let items : take c.len.result c.free_items-items.result ≡ map free_item titles =
    ap (λ n. take n c.free_items-items.result) (c.len.ensures.value ∙ sym (ap length c.as_slice-2.ensures.value))
    ∙ (c.free_items-items.ensures.items ∙ ap (map free_item) c.as_slice-2.ensures.value) in
    subst (λ (x : View). CanHand (parcel_of (take c.len.result c.free_items-items.result) 0 []) x) (sym c.numbers_seen-slots.ensures.view)
    (subst (λ is. CanHand (parcel_of is 0 []) v) (sym items) can)

pub returns-clause-out : goal.returns-clause-out
returns-clause-out c p asked s ready shown =
    let class = c.args.class in let u = c.args.own.now.view in let v = c.take_slots-titles.new.own.view in
    let l = c.take_slots-titles.new.shelf in
    let titles = c.take_slots-titles.result.items in
    let r = ready_root asked s u in
    let h : HasTakenSlots p class asked s u v l titles = record {
      ready = ready;
      aware = c.aware.ensures.aware;
      are = subst (λ n. AreSlotsTaken class n r u v l titles) c.requires.want
          (c.take_slots-titles.ensures.taken r (can_start p class asked s u c.args.shelf.now ready shown));
    } in
    let items : take c.len.result c.free_items-items.result ≡ map free_item titles =
    ap (λ n. take n c.free_items-items.result) (c.len.ensures.value ∙ sym (ap length c.as_slice-2.ensures.value))
    ∙ (c.free_items-items.ensures.items ∙ ap (map free_item) c.as_slice-2.ensures.value) in
    let given = c.hand-note.ensures.given ∙ (ap (λ is. given_after (parcel_of is 0 []) c.numbers_seen-slots.new.seat.view) items
    ∙ ap (λ (x : View). given_after (frees_parcel titles) x) c.numbers_seen-slots.ensures.view) in
    let left = c.hand-note.ensures.left ∙ (ap (λ is. left_after (parcel_of is 0 []) c.numbers_seen-slots.new.seat.view) items
    ∙ ap (λ (x : View). left_after (frees_parcel titles) x) c.numbers_seen-slots.ensures.view) in
    let slots = c.numbers_seen-slots.ensures.numbers ∙ ap (numbered_by v) c.as_slice.ensures.value in
    slots_out p class asked s u v l titles h c.hand-note.new.seat.view c.hand-note.result.view c.numbers_seen-slots.result left given slots

pub returns-clause-shown : goal.returns-clause-shown
returns-clause-shown c p asked s ready shown =
    let class = c.args.class in let u = c.args.own.now.view in let v = c.take_slots-titles.new.own.view in
    let l = c.take_slots-titles.new.shelf in
    let titles = c.take_slots-titles.result.items in
    let r = ready_root asked s u in
    let h : HasTakenSlots p class asked s u v l titles = record {
      ready = ready;
      aware = c.aware.ensures.aware;
      are = subst (λ n. AreSlotsTaken class n r u v l titles) c.requires.want
          (c.take_slots-titles.ensures.taken r (can_start p class asked s u c.args.shelf.now ready shown));
    } in
    let items : take c.len.result c.free_items-items.result ≡ map free_item titles =
    ap (λ n. take n c.free_items-items.result) (c.len.ensures.value ∙ sym (ap length c.as_slice-2.ensures.value))
    ∙ (c.free_items-items.ensures.items ∙ ap (map free_item) c.as_slice-2.ensures.value) in
    let left = c.hand-note.ensures.left ∙ (ap (λ is. left_after (parcel_of is 0 []) c.numbers_seen-slots.new.seat.view) items
    ∙ ap (λ (x : View). left_after (frees_parcel titles) x) c.numbers_seen-slots.ensures.view) in
    slots_shown p class asked s u v l titles h c.hand-note.new.seat.view left

pub returns-clause-turn : goal.returns-clause-turn
returns-clause-turn c =
    let real : c.args.class < 170 = search rules in
    let few = (IsRow-of c.args.class real).few_fill in
    let want = c.requires.want in
    let turn = c.take_slots-titles.ensures.turn in
    omega arith
