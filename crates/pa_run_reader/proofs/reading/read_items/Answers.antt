use Rattle.std.proofs.Common.{refl, sym, subst, ap, length, arith}
use Rattle.std.proofs.lemmas.Bool.{false≢true}
use Rattle.std.proofs.lemmas.List.{nil_from_length}
use Rattle.pa_run_reader.specs.declared.place.Place.{Place}
use Rattle.pa_run_reader.specs.Order.{item_place, StandsBehind}
use Rattle.pa_run_reader.proofs.ReadSoFar.{reads_first, reads_next, reads_misplaced, reads_bad, reads_run, reads_lists, item_length}
use Rattle.pa_run_reader.proofs.reading.read_items.Goals as goal

pub loop-item-init : goal.loop-item-init
loop-item-init c = reads_first c.in_ok-draft.draft c.args.bytes.now c.in_ok-draft.ensures

pub returns-then-not-stands_behind-clause-fault : goal.returns-then-not-stands_behind-clause-fault
returns-then-not-stands_behind-clause-fault c =
    let s = c.loop-item in
    reads_misplaced s.last s.n s.draft c.in-Some.item s.rest.now c.in-Some.after.now c.args.bytes.now c.requires s.invariant
    c.in-Some.ensures.fits c.in-Some.ensures.found
    (λ h. false≢true (c.if-not-stands_behind.ensures.1 (subst (λ (p : Place). StandsBehind s.last p) (sym c.place_of-place.ensures) h)))

pub overflow_add-n : goal.overflow_add-n
overflow_add-n c =
    let s = c.loop-item in
    omega (arith, c.requires, s.invariant.lines, item_length c.in-Some.item s.rest.now c.in-Some.after.now c.in-Some.ensures.found)

pub loop-item-preserved : goal.loop-item-preserved
loop-item-preserved c =
    let s = c.loop-item in
    let behind : StandsBehind s.last (item_place c.in-Some.item) =
    subst (λ (p : Place). StandsBehind s.last p) c.place_of-place.ensures (c.if-not-stands_behind.ensures.0 refl) in
    let next = reads_next s.last s.n s.draft c.in-Some.item s.rest.now c.in-Some.after.now c.args.bytes.now s.invariant
    c.in-Some.ensures.fits behind c.in-Some.ensures.found in
    rw (c.place_of-place.ensures, c.in_ok-put.ensures.gathered) next

pub returns-then-is_whole-clause-found : goal.returns-then-is_whole-clause-found
returns-then-is_whole-clause-found c = λ r told.
    let s = c.loop-item in
    let whole = c.if-is_whole.ensures.0 refl in
    reads_run s.last s.n s.draft s.rest.now c.args.bytes.now r s.invariant (nil_from_length s.rest.now whole.0) whole.1 told

pub returns-clause-fault : goal.returns-clause-fault
returns-clause-fault c =
    let s = c.loop-item in
    reads_bad s.last s.n s.draft s.rest.now c.args.bytes.now c.requires s.invariant c.in_default.ensures.none
    (λ e last. false≢true (c.if-is_whole.ensures.1 (ap length e, last)))

pub returns-then-is_whole-clause-lists : goal.returns-then-is_whole-clause-lists
returns-then-is_whole-clause-lists c = λ r told.
    let s = c.loop-item in
    reads_lists s.last s.n s.draft s.rest.now c.args.bytes.now r s.invariant told
