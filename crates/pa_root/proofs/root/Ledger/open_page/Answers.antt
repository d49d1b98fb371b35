use Rattle.std.proofs.Common.{rules, ◌≡◌, ◌<◌, Some, refl, sym, ◌∙◌, ap, subst, arith}
use Rattle.std.specs.Prelude.{IsNone, IsSome}
use Rattle.pa_region.specs.declared.view.View.{View}
use Rattle.pa_region.specs.Views.{least_stake}
use Rattle.pa_region.specs.Hands.{united}
use Rattle.pa_region.specs.Aware.{IsAware}
use Rattle.pa_region.specs.Shares.{byte_word_count}
use Rattle.pa_record.specs.Root.{span_for, opened}
use Rattle.pa_shelf.specs.Moving.{Rewritten}
use Rattle.pa_shelf.specs.Opening.{HasRawRecords}
use Rattle.pa_shelf.specs.Shelves.{ShowsRoot}
use Rattle.pa_shelf.proofs.Rewriting.{of_records}
use Rattle.pa_root.specs.Kept.{root_of, state_of}
use Rattle.pa_root.specs.Filling.{IsReadyFor, ready_root}
use Rattle.pa_root.specs.Steps.{root_of_parts}
use Rattle.pa_root.proofs.KeptEnds.{refused_kept, pages_sound, shown_asked, shown_both}
use Rattle.pa_root.proofs.KeptOn.{kept_good}
use Rattle.pa_root.proofs.Opened.{HasPages, page_ready, page_root}
use Rattle.pa_root.proofs.PagesCome.{new_number, few_supers, raw_records}
use Rattle.pa_root.proofs.Ready.{roots_are_ready}
use Rattle.pa_root.proofs.Rewriting.{ready_rewritten}
use Rattle.pa_root.proofs.root.Ledger.open_page.Goals as goal

pub has_room_for-requires : goal.has_room_for-requires
has_room_for-requires g c =
    let v0 = c.args.self.now.seat.view in let js = c.args.self.now.journal.items in let l = c.args.shelf.now in
    record { able = (v0, root_of v0 js, kept_good g.row.P v0 js l c.requires.kept, c.requires.kept.shown.kept) }

pub returns-then-has_room_for-clause-opened : goal.returns-then-has_room_for-clause-opened
returns-then-has_room_for-clause-opened g c =
    let p = g.row.P in let class = c.args.class in
    let real : class < 170 = search rules in
    let v0 = c.args.self.now.seat.view in let js = c.args.self.now.journal.items in let l = c.args.shelf.now in
    let kept = c.requires.kept in
    let some : IsSome (span_for class (root_of v0 js)) =
    sym (c.has_room_for.ensures v0 (root_of v0 js) (kept_good p v0 js l kept) kept.shown.kept) ∙ c.if-has_room_for.true in
    record {
      ready = roots_are_ready.as_it_is p class (state_of v0 js) kept.sound c.aware.ensures.aware real some;
      shown = kept.shown;
      told = refl;
    }

pub returns-in-Err-clause-none : goal.returns-in-Err-clause-none
returns-in-Err-clause-none g c =
    let class = c.args.class in
    let p = g.row.P in
    let v0 = c.args.self.now.seat.view in let js = c.args.self.now.journal.items in let l = c.args.shelf.now in
    let kept = c.requires.kept in
    let none : IsNone (span_for class (root_of v0 js)) =
    sym (c.has_room_for.ensures v0 (root_of v0 js) (kept_good p v0 js l kept) kept.shown.kept) ∙ c.if-has_room_for.false in
    (refused_kept (least_stake c.args.asking.now.seat.now.view.stakes) p c.args.asking.now.line 1 (Some class) c.args.asking.now.seat.now
    c.ask_room-room.new.asking.seat.now c.args.self.now.seat c.ask_room-room.new.self.seat js c.ask_room-room.new.self.journal.items l
    c.in-Err.fault kept
    (λ asked found. (none, found)) c.in-Err.ensures.refused).0

pub returns-in-Err-clause-kept : goal.returns-in-Err-clause-kept
returns-in-Err-clause-kept g c =
    let class = c.args.class in
    let p = g.row.P in
    let v0 = c.args.self.now.seat.view in let js = c.args.self.now.journal.items in let l = c.args.shelf.now in
    let kept = c.requires.kept in
    let none : IsNone (span_for class (root_of v0 js)) =
    sym (c.has_room_for.ensures v0 (root_of v0 js) (kept_good p v0 js l kept) kept.shown.kept) ∙ c.if-has_room_for.false in
    (refused_kept (least_stake c.args.asking.now.seat.now.view.stakes) p c.args.asking.now.line 1 (Some class) c.args.asking.now.seat.now
    c.ask_room-room.new.asking.seat.now c.args.self.now.seat c.ask_room-room.new.self.seat js c.ask_room-room.new.self.journal.items l
    c.in-Err.fault kept
    (λ asked found. (none, found)) c.in-Err.ensures.refused).1

pub open-requires-clause-raw : goal.open-requires-clause-raw
open-requires-clause-raw g c =
    let p = g.row.P in let line = c.args.asking.now.line in
    let (asked, first, came) = c.in-Ok.found in let note = came.view in
    let v0 = c.args.self.now.seat.view in let js = c.args.self.now.journal.items in let l = c.args.shelf.now in
    let v = c.args.asking.now.seat.now.view in let a = c.ask_room-room.new.asking.seat.now.view in
    let w = c.ask_room-room.new.self.seat.view in
    let r = least_stake v.stakes in
    let kept = c.requires.kept in
    let regions = c.in-Ok.ensures.region ∙ sym c.in-Ok.ensures.note.0 in
    let has : HasPages p line 1 asked first (state_of v0 js) r v a w note = record {
      sound = kept.sound;
      aware = c.aware.ensures.aware;
      now_aware = c.aware-2.ensures.aware;
      both_aware = subst IsAware c.take.ensures.view c.aware-4.ensures.aware;
      long = c.aware-2.ensures.long ∙ (ap byte_word_count regions ∙ sym c.aware-3.ensures.long);
      asks = c.in-Ok.ensures.asked;
      run = c.in-Ok.ensures.note.1;
      own = c.in-Ok.ensures.own;
      same = c.in-Ok.ensures.lists;
    } in
    subst (λ (x : View). HasRawRecords x first) (sym c.take.ensures.view) (raw_records first 1 asked w note has.run.has (omega arith))

pub open-requires-clause-new : goal.open-requires-clause-new
open-requires-clause-new g c =
    let p = g.row.P in let line = c.args.asking.now.line in
    let (asked, first, came) = c.in-Ok.found in let note = came.view in
    let v0 = c.args.self.now.seat.view in let js = c.args.self.now.journal.items in let l = c.args.shelf.now in
    let v = c.args.asking.now.seat.now.view in let a = c.ask_room-room.new.asking.seat.now.view in
    let w = c.ask_room-room.new.self.seat.view in
    let r = least_stake v.stakes in
    let kept = c.requires.kept in
    let regions = c.in-Ok.ensures.region ∙ sym c.in-Ok.ensures.note.0 in
    let has : HasPages p line 1 asked first (state_of v0 js) r v a w note = record {
      sound = kept.sound;
      aware = c.aware.ensures.aware;
      now_aware = c.aware-2.ensures.aware;
      both_aware = subst IsAware c.take.ensures.view c.aware-4.ensures.aware;
      long = c.aware-2.ensures.long ∙ (ap byte_word_count regions ∙ sym c.aware-3.ensures.long);
      asks = c.in-Ok.ensures.asked;
      run = c.in-Ok.ensures.note.1;
      own = c.in-Ok.ensures.own;
      same = c.in-Ok.ensures.lists;
    } in
    new_number p first 1 asked (root_of_parts w js (root_of v0 js)) note
    (pages_sound p line 1 asked first v0 js l r v a w note kept has) has.both_aware has.run.has
    (omega arith) l (shown_asked p line 1 asked first v0 js l r v a w note kept has)

pub open-requires-clause-few : goal.open-requires-clause-few
open-requires-clause-few g c =
    let p = g.row.P in let line = c.args.asking.now.line in
    let (asked, first, came) = c.in-Ok.found in let note = came.view in
    let v0 = c.args.self.now.seat.view in let js = c.args.self.now.journal.items in let l = c.args.shelf.now in
    let v = c.args.asking.now.seat.now.view in let a = c.ask_room-room.new.asking.seat.now.view in
    let w = c.ask_room-room.new.self.seat.view in
    let r = least_stake v.stakes in
    let kept = c.requires.kept in
    let regions = c.in-Ok.ensures.region ∙ sym c.in-Ok.ensures.note.0 in
    let has : HasPages p line 1 asked first (state_of v0 js) r v a w note = record {
      sound = kept.sound;
      aware = c.aware.ensures.aware;
      now_aware = c.aware-2.ensures.aware;
      both_aware = subst IsAware c.take.ensures.view c.aware-4.ensures.aware;
      long = c.aware-2.ensures.long ∙ (ap byte_word_count regions ∙ sym c.aware-3.ensures.long);
      asks = c.in-Ok.ensures.asked;
      run = c.in-Ok.ensures.note.1;
      own = c.in-Ok.ensures.own;
      same = c.in-Ok.ensures.lists;
    } in
    let low = c.in-Ok.ensures.low in
    few_supers p first 1 asked (root_of_parts w js (root_of v0 js)) note
    (pages_sound p line 1 asked first v0 js l r v a w note kept has) has.both_aware has.run.has
    (omega arith) l (shown_asked p line 1 asked first v0 js l r v a w note kept has) c.placed.ensures (omega arith)

pub returns-clause-opened : goal.returns-clause-opened
returns-clause-opened g c =
    let p = g.row.P in let line = c.args.asking.now.line in
    let (asked, first, came) = c.in-Ok.found in let note = came.view in
    let v0 = c.args.self.now.seat.view in let js = c.args.self.now.journal.items in let l = c.args.shelf.now in
    let v = c.args.asking.now.seat.now.view in let a = c.ask_room-room.new.asking.seat.now.view in
    let w = c.ask_room-room.new.self.seat.view in
    let r = least_stake v.stakes in
    let kept = c.requires.kept in
    let regions = c.in-Ok.ensures.region ∙ sym c.in-Ok.ensures.note.0 in
    let has : HasPages p line 1 asked first (state_of v0 js) r v a w note = record {
      sound = kept.sound;
      aware = c.aware.ensures.aware;
      now_aware = c.aware-2.ensures.aware;
      both_aware = subst IsAware c.take.ensures.view c.aware-4.ensures.aware;
      long = c.aware-2.ensures.long ∙ (ap byte_word_count regions ∙ sym c.aware-3.ensures.long);
      asks = c.in-Ok.ensures.asked;
      run = c.in-Ok.ensures.note.1;
      own = c.in-Ok.ensures.own;
      same = c.in-Ok.ensures.lists;
    } in
    let class = c.args.class in
    let real : class < 170 = search rules in
    let s = state_of v0 js in
    let root = root_of v0 js in
    let good = kept_good p v0 js l kept in
    let none : IsNone (span_for class root) = sym (c.has_room_for.ensures v0 root good kept.shown.kept) ∙ c.if-has_room_for.false in
    let both = united w note in
    let u = c.take.new.seat.view in let y = c.«open».new.own.view in
    let back : both ≡ u = sym c.take.ensures.view in
    let wrote : Rewritten u y = of_records _ u y c.«open».ensures.view in
    let there = subst (λ (x : View). ShowsRoot x l root) back (shown_both p line 1 asked first v0 js l r v a w note kept has) in
    let done : ShowsRoot y c.«open».new.self (opened first asked root) = c.«open».ensures.shown root good there in
    let is : opened first asked root ≡ ready_root (Some asked) s y =
    page_root p line asked first class s r v a w note has real none (opened first asked root) refl
    ∙ (ap (λ (x : View). ready_root (Some asked) s x) back ∙ sym (ap (λ (x : View). ready_root (Some asked) s x) wrote.rest)) in
    record {
      ready = ready_rewritten p class (Some asked) s u y
          (subst (λ (x : View). IsReadyFor p class (Some asked) s x) back
          (page_ready p line asked first class s r v a w note has real none))
          wrote c.aware-5.ensures.aware;
      shown = subst (λ z. ShowsRoot y c.«open».new.self z) is done;
      told = record { first = first; made = has.asks.made; is_made = has.asks.is_made; lends = has.asks.lends };
    }
