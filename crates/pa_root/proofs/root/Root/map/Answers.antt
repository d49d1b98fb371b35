use Rattle.std.proofs.Common.{rules, ◌≡◌, ℕ, ◌+◌, ◌<◌, ◌≤◌, [], ◌∷◌, ◌++◌, None, length, refl, sym, ◌∙◌, ap, subst, arith}
use Rattle.std.proofs.lemmas.List.{length-append}
use Rattle.std.specs.Prelude.{Vec}
use Rattle.std.specs.declared.alloc.Global.{Global}
use Rattle.pa_slot.specs.declared.title.Title.{Title}
use Rattle.pa_region.specs.declared.view.View.{View}
use Rattle.pa_region.specs.Shares.{Share, byte_word_count}
use Rattle.pa_slot.specs.Holdings.{RawByte}
use Rattle.pa_layout.specs.Limits.{region_supers}
use Rattle.pa_region.specs.Views.{HasTitle, held_of_view, least_stake, seen_of}
use Rattle.pa_region.specs.Hands.{CanHand, left_after, given_after}
use Rattle.pa_region.specs.Cuts.{after_cut}
use Rattle.pa_region.specs.Aware.{IsAware}
use Rattle.pa_region.specs.Lending.{HostsKeeper, IsNoted}
use Rattle.pa_record.specs.declared.root.RootEntry.{RootEntry}
use Rattle.pa_record.specs.declared.root.RootAct.TheVariants.{Map}
use Rattle.pa_record.specs.Numbers.{root_numbers}
use Rattle.pa_record.specs.Root.{mapped}
use Rattle.pa_record.specs.Spans.{name_of}
use Rattle.pa_shelf.specs.Shelves.{ShowsRoot}
use Rattle.pa_root.specs.Kept.{state_of, IsKept}
use Rattle.pa_root.specs.Handing.{root_entry}
use Rattle.pa_root.specs.Cutting.{map_beside}
use Rattle.pa_root.specs.Filling.{frees_parcel}
use Rattle.pa_root.specs.Steps.{root_of_parts}
use Rattle.pa_root.specs.Telling.{MapTells, NoneGiven}
use Rattle.pa_root.proofs.KeptEnds.{refused_kept, pages_sound, shown_asked, shown_cut, can_cut}
use Rattle.pa_lists.proofs.Members.{first_in}
use Rattle.pa_root.proofs.Batches.{free_cut}
use Rattle.pa_root.proofs.KeptOn.{kept_listed}
use Rattle.pa_root.proofs.KeptSteps.{same_handed, kept_after}
use Rattle.pa_root.proofs.Opened.{HasPages}
use Rattle.pa_root.proofs.PagesCome.{few_maps}
use Rattle.pa_root.proofs.MapEnds.{HasMapCut, map_gives, map_hosts, mapped_sound, map_tells, shape_served}
use Rattle.pa_root.proofs.Refusing.{none_long}
use Rattle.pa_root.proofs.root.Root.map.Goals as goal

-- ---- the pool is asked

pub ask_room-room-requires : goal.ask_room-room-requires
ask_room-room-requires g c =
    let i = c.self.inside in
    let served = shape_served c.args.shape c.requires.shape in
    let listed = kept_listed g.row.P i.ledger.seat.view i.ledger.journal.items i.shelf c.self.invariant.2 in (
      search rules,
      (
        c.self.invariant.0,
        (
          c.requires.lender,
          (
            c.self.invariant.2.sound.journal.hosts,
            (
              (served.one, served.few),
              (listed ∙ sym (ap length c.in_ok-make_room.ensures.same), (c.in_ok-make_room.ensures.room, c.in_ok-make_room.ensures.few)),
            ),
          ),
        ),
      ),
    )

-- ---- when there is no room

pub invariant_of-self-in-Err : goal.invariant_of-self-in-Err
invariant_of-self-in-Err g c =
    let i = c.self.inside in
    let p = g.row.P in let count = c.args.shape.supers in
    let r = least_stake c.args.seat.now.view.stakes in
    let v0 = i.ledger.seat.view in
    let js = c.make_room.new.journal.items in let js_now = c.ask_room-room.new.self.journal.items in
    let kept = subst (λ es. IsKept p v0 es i.shelf) (sym c.in_ok-make_room.ensures.same) c.self.invariant.2 in
    let (told, after) = refused_kept r p c.args.line count None c.args.seat.now c.ask_room-room.new.asking.seat.now i.ledger.seat
    c.ask_room-room.new.self.seat
    js js_now i.shelf c.in-Err.fault kept (λ asked found. (count, found)) c.in-Err.ensures.refused in
    let long = none_long r p c.args.line count None c.args.seat.now c.ask_room-room.new.asking.seat.now (state_of v0 js)
    (state_of c.ask_room-room.new.self.seat.view js_now) c.in-Err.fault told in
    let low = long.0 in let high = long.1 in
    let few = c.in_ok-make_room.ensures.few in
    let size = ap length c.in_ok-make_room.ensures.same in
    (c.in-Err.ensures.region, omega arith, after)

pub returns-in-Err-clause-none : goal.returns-in-Err-clause-none
returns-in-Err-clause-none g c =
    let i = c.self.inside in
    let p = g.row.P in let count = c.args.shape.supers in
    let r = least_stake c.args.seat.now.view.stakes in
    let v0 = i.ledger.seat.view in
    let js = c.make_room.new.journal.items in let js_now = c.ask_room-room.new.self.journal.items in
    let kept = subst (λ es. IsKept p v0 es i.shelf) (sym c.in_ok-make_room.ensures.same) c.self.invariant.2 in
    let (told, after) = refused_kept r p c.args.line count None c.args.seat.now c.ask_room-room.new.asking.seat.now i.ledger.seat
    c.ask_room-room.new.self.seat
    js js_now i.shelf c.in-Err.fault kept (λ asked found. (count, found)) c.in-Err.ensures.refused in
    let given : NoneGiven r p c.args.line count None c.args.seat.now c.ask_room-room.new.asking.seat.now c.args.self.now
    (state_of c.ask_room-room.new.self.seat.view js_now) c.in-Err.fault =
    subst (λ z. NoneGiven r p c.args.line count None c.args.seat.now c.ask_room-room.new.asking.seat.now z
    (state_of c.ask_room-room.new.self.seat.view js_now) c.in-Err.fault)
    (ap (state_of v0) c.in_ok-make_room.ensures.same ∙ c.self.view_is) told in
    subst (λ (z : Share). NoneGiven r p c.args.line count None c.args.seat.now z c.args.self.now
    (state_of c.ask_room-room.new.self.seat.view js_now) c.in-Err.fault)
    (sym (search rules)) given

-- ---- when there is

pub placed-requires : goal.placed-requires
placed-requires g c =
    let t = c.cut_map-title.result in
    let free = free_cut (t ∷ []) c.take.new.seat.view t (first_in t []) in
    subst (λ (v : View). HasTitle v t) (sym c.cut_map-title.ensures.view) (omega arith)

pub map-requires : goal.map-requires
map-requires g c =
    let i = c.self.inside in
    let p = g.row.P in let line = c.args.line in let len = c.args.shape.slot in
    let served = shape_served c.args.shape c.requires.shape in
    let (asked, first, came) = c.in-Ok.found in
    let js = c.make_room.new.journal.items in
    let s = state_of i.ledger.seat.view js in
    let v = c.args.seat.now.view in let a = c.ask_room-room.new.asking.seat.now.view in let w = c.ask_room-room.new.self.seat.view in
    let note = came.view in
    let r = least_stake v.stakes in
    let kept = subst (λ es. IsKept p i.ledger.seat.view es i.shelf) (sym c.in_ok-make_room.ensures.same) c.self.invariant.2 in
    let regions = c.in-Ok.ensures.region ∙ sym c.in-Ok.ensures.note.0 in
    let pages : HasPages p line c.args.shape.supers asked first s r v a w note = record {
      sound = kept.sound;
      aware = c.aware.ensures.aware;
      now_aware = c.aware-2.ensures.aware;
      both_aware = subst IsAware c.take.ensures.view c.aware-4.ensures.aware;
      long = c.aware-2.ensures.long ∙ (ap byte_word_count regions ∙ sym c.aware-3.ensures.long);
      asks = c.in-Ok.ensures.asked;
      run = c.in-Ok.ensures.note.1;
      own = c.in-Ok.ensures.own;
      same = c.in-Ok.ensures.lists;
    } in
    let root = s.root in
    let still = pages_sound p line c.args.shape.supers asked first i.ledger.seat.view js i.shelf r v a w note kept pages in
    let shown = shown_asked p line c.args.shape.supers asked first i.ledger.seat.view js i.shelf r v a w note kept pages in
    let low = c.in-Ok.ensures.low in
    let one : 1 ≤ c.args.shape.supers = served.one in
    let regions_are : c.ask_room-room.new.self.seat.region ≡ c.cut_map-title.new.seat.region =
    sym (c.cut_map-title.ensures.region ∙ c.take.ensures.region) in
    let small = subst (λ z. byte_word_count z ≤ 16777216) (sym regions_are) c.placed.ensures.small in
    let inside : (b : ℕ) → 0 < held_of_view w (RawByte b) → b < 134217728 = λ b held. let below = c.aware-2.ensures.raw b held in
    omega arith in
    let few = few_maps p first c.args.shape.supers asked (root_of_parts w js root) note still pages.both_aware pages.run.has one inside
    (omega arith) in
    record { few = subst (λ ts. length ts < region_supers) shown.kept.maps few }

pub hand-note-requires-clause-able : goal.hand-note-requires-clause-able
hand-note-requires-clause-able g c =
    let i = c.self.inside in
    let p = g.row.P in let line = c.args.line in let len = c.args.shape.slot in
    let served = shape_served c.args.shape c.requires.shape in
    let (asked, first, came) = c.in-Ok.found in
    let js = c.make_room.new.journal.items in
    let s = state_of i.ledger.seat.view js in
    let v = c.args.seat.now.view in let a = c.ask_room-room.new.asking.seat.now.view in let w = c.ask_room-room.new.self.seat.view in
    let note = came.view in
    let r = least_stake v.stakes in
    let kept = subst (λ es. IsKept p i.ledger.seat.view es i.shelf) (sym c.in_ok-make_room.ensures.same) c.self.invariant.2 in
    let regions = c.in-Ok.ensures.region ∙ sym c.in-Ok.ensures.note.0 in
    let pages : HasPages p line c.args.shape.supers asked first s r v a w note = record {
      sound = kept.sound;
      aware = c.aware.ensures.aware;
      now_aware = c.aware-2.ensures.aware;
      both_aware = subst IsAware c.take.ensures.view c.aware-4.ensures.aware;
      long = c.aware-2.ensures.long ∙ (ap byte_word_count regions ∙ sym c.aware-3.ensures.long);
      asks = c.in-Ok.ensures.asked;
      run = c.in-Ok.ensures.note.1;
      own = c.in-Ok.ensures.own;
      same = c.in-Ok.ensures.lists;
    } in
    let t = map_beside first asked len in
    let is : c.cut_map-title.result ≡ t = c.cut_map-title.ensures.title in
    let x = c.cut_map-title.new.seat.view in
    let has : HasMapCut p line len asked first s r v a w note x = record {
      pages = subst (λ n. HasPages p line n asked first s r v a w note) served.supers pages;
      whole = served.eights;
      some = served.long;
      cut = c.cut_map-title.ensures.view ∙ (ap (λ z. after_cut z c.take.new.seat.view) is ∙ ap (after_cut t) c.take.ensures.view);
      aware = c.aware-5.ensures.aware;
      new = subst (λ z. seen_of x z ≡ 0) is c.cut_map-title.ensures.new;
    } in
    subst (λ z. CanHand (frees_parcel (z ∷ [])) x) (sym is) (map_gives p line len asked first s r v a w note x has).can

pub append-requires-clause-host : goal.append-requires-clause-host
append-requires-clause-host g c =
    let i = c.self.inside in
    let p = g.row.P in let line = c.args.line in let len = c.args.shape.slot in
    let served = shape_served c.args.shape c.requires.shape in
    let (asked, first, came) = c.in-Ok.found in
    let js = c.make_room.new.journal.items in
    let s = state_of i.ledger.seat.view js in
    let v = c.args.seat.now.view in let a = c.ask_room-room.new.asking.seat.now.view in let w = c.ask_room-room.new.self.seat.view in
    let note = came.view in
    let r = least_stake v.stakes in
    let kept = subst (λ es. IsKept p i.ledger.seat.view es i.shelf) (sym c.in_ok-make_room.ensures.same) c.self.invariant.2 in
    let regions = c.in-Ok.ensures.region ∙ sym c.in-Ok.ensures.note.0 in
    let pages : HasPages p line c.args.shape.supers asked first s r v a w note = record {
      sound = kept.sound;
      aware = c.aware.ensures.aware;
      now_aware = c.aware-2.ensures.aware;
      both_aware = subst IsAware c.take.ensures.view c.aware-4.ensures.aware;
      long = c.aware-2.ensures.long ∙ (ap byte_word_count regions ∙ sym c.aware-3.ensures.long);
      asks = c.in-Ok.ensures.asked;
      run = c.in-Ok.ensures.note.1;
      own = c.in-Ok.ensures.own;
      same = c.in-Ok.ensures.lists;
    } in
    let t = map_beside first asked len in
    let is : c.cut_map-title.result ≡ t = c.cut_map-title.ensures.title in
    let x = c.cut_map-title.new.seat.view in
    let has : HasMapCut p line len asked first s r v a w note x = record {
      pages = subst (λ n. HasPages p line n asked first s r v a w note) served.supers pages;
      whole = served.eights;
      some = served.long;
      cut = c.cut_map-title.ensures.view ∙ (ap (λ z. after_cut z c.take.new.seat.view) is ∙ ap (after_cut t) c.take.ensures.view);
      aware = c.aware-5.ensures.aware;
      new = subst (λ z. seen_of x z ≡ 0) is c.cut_map-title.ensures.new;
    } in
    let left = c.hand-note.ensures.left ∙ ap (λ z. left_after (frees_parcel (z ∷ [])) x) is in
    subst (λ y. HostsKeeper p y) (sym left) (map_hosts p line len asked first s r v a w note x has)

pub invariant_of-self-2 : goal.invariant_of-self-2
invariant_of-self-2 g c =
    let i = c.self.inside in
    let p = g.row.P in let line = c.args.line in let len = c.args.shape.slot in
    let served = shape_served c.args.shape c.requires.shape in
    let (asked, first, came) = c.in-Ok.found in
    let js = c.make_room.new.journal.items in
    let s = state_of i.ledger.seat.view js in
    let v = c.args.seat.now.view in let a = c.ask_room-room.new.asking.seat.now.view in let w = c.ask_room-room.new.self.seat.view in
    let note = came.view in
    let r = least_stake v.stakes in
    let kept = subst (λ es. IsKept p i.ledger.seat.view es i.shelf) (sym c.in_ok-make_room.ensures.same) c.self.invariant.2 in
    let regions = c.in-Ok.ensures.region ∙ sym c.in-Ok.ensures.note.0 in
    let pages : HasPages p line c.args.shape.supers asked first s r v a w note = record {
      sound = kept.sound;
      aware = c.aware.ensures.aware;
      now_aware = c.aware-2.ensures.aware;
      both_aware = subst IsAware c.take.ensures.view c.aware-4.ensures.aware;
      long = c.aware-2.ensures.long ∙ (ap byte_word_count regions ∙ sym c.aware-3.ensures.long);
      asks = c.in-Ok.ensures.asked;
      run = c.in-Ok.ensures.note.1;
      own = c.in-Ok.ensures.own;
      same = c.in-Ok.ensures.lists;
    } in
    let t = map_beside first asked len in
    let is : c.cut_map-title.result ≡ t = c.cut_map-title.ensures.title in
    let x = c.cut_map-title.new.seat.view in
    let has : HasMapCut p line len asked first s r v a w note x = record {
      pages = subst (λ n. HasPages p line n asked first s r v a w note) served.supers pages;
      whole = served.eights;
      some = served.long;
      cut = c.cut_map-title.ensures.view ∙ (ap (λ z. after_cut z c.take.new.seat.view) is ∙ ap (after_cut t) c.take.ensures.view);
      aware = c.aware-5.ensures.aware;
      new = subst (λ z. seen_of x z ≡ 0) is c.cut_map-title.ensures.new;
    } in
    let y = left_after (frees_parcel (t ∷ [])) x in
    let left : c.hand-note.new.seat.view ≡ y = c.hand-note.ensures.left ∙ ap (λ z. left_after (frees_parcel (z ∷ [])) x) is in
    let now = c.append.new.host.view in
    let e : RootEntry = root_entry line (Map asked (name_of t) len) in
    let named : root_entry line (Map asked (record { start = c.cut_map-title.result.start; born = asked }) len) ≡ e =
    ap (λ (z : Title). root_entry line (Map asked (record { start = z.start; born = asked }) len)) is in
    let (m, noted_then) = c.append.ensures.noted in
    let noted : IsNoted (least_stake a.stakes) p (root_numbers
    (root_entry line (Map asked (record { start = c.cut_map-title.result.start; born = asked }) len))) a c.append.new.lender.view
    c.hand-note.new.seat.view now m =
    subst (λ (z : View). IsNoted (least_stake z.stakes) p (root_numbers
    (root_entry line (Map asked (record { start = c.cut_map-title.result.start; born = asked }) len))) z c.append.new.lender.view
    c.hand-note.new.seat.view now m)
    (search rules) noted_then in
    let noted' : IsNoted (least_stake a.stakes) p (root_numbers e) a c.append.new.lender.view y now m =
    subst (λ h. IsNoted (least_stake a.stakes) p (root_numbers e) a c.append.new.lender.view h now m) left
    (subst (λ z. IsNoted (least_stake a.stakes) p (root_numbers z) a c.append.new.lender.view c.hand-note.new.seat.view now m) named
    noted) in
    let sound =
    mapped_sound p line len asked first s r v a w note x has now m c.append.ensures.aware.1
    (subst IsAware left c.aware-6.ensures.aware) noted'.hosts noted'.list noted'.says in
    let grown : c.append.new.journal.items ≡ js ++ e ∷ [] =
    c.append.ensures.journal ∙ (ap (λ (l : Vec RootEntry Global). l.items ++ root_entry line
    (Map asked (record { start = c.cut_map-title.result.start; born = asked }) len) ∷ []) c.in-Ok.ensures.journal
    ∙ ap (λ z. js ++ z ∷ []) named) in
    let more = length-append js (e ∷ []) in
    let size : length c.append.new.journal.items ≡ length js + 1 = ap length grown ∙ more in
    let few = c.in_ok-make_room.ensures.few in
    let long = ap length c.in_ok-make_room.ensures.same in
    let run_count = c.args.shape.supers in
    let one : 1 ≤ run_count = served.one in
    let can = can_cut p line run_count asked first i.ledger.seat.view js i.shelf r v a w note kept pages len served.supers one served.eights
    served.long in
    let cut_shown = shown_cut p line run_count asked first i.ledger.seat.view js i.shelf r v a w note kept pages len served.supers one
    can in
    let shown_x : ShowsRoot x i.shelf s.root = subst (λ z. ShowsRoot z i.shelf s.root) (sym has.cut) cut_shown in
    let shown = c.map.ensures.shown x s.root shown_x in
    let shown_t : ShowsRoot x c.map.new.self (mapped t s.root) = subst (λ z. ShowsRoot x c.map.new.self (mapped z s.root)) is shown in
    let done = kept_after p i.ledger.seat.view x now js e i.shelf c.map.new.self (mapped t s.root) kept tt sound
    (same_handed (frees_parcel (t ∷ [])) x now noted'.hosts) shown_t in (
      c.append.ensures.regions.1 ∙
          (c.hand-note.ensures.regions.0 ∙ (c.cut_map-title.ensures.region ∙ (c.take.ensures.region ∙ c.in-Ok.ensures.region))),
      omega arith,
      subst (λ es. IsKept p now es c.map.new.self) (sym grown) done,
    )

pub returns-clause-gave : goal.returns-clause-gave
returns-clause-gave g c =
    let i = c.self.inside in
    let p = g.row.P in let line = c.args.line in let len = c.args.shape.slot in
    let served = shape_served c.args.shape c.requires.shape in
    let (asked, first, came) = c.in-Ok.found in
    let js = c.make_room.new.journal.items in
    let s = state_of i.ledger.seat.view js in
    let v = c.args.seat.now.view in let a = c.ask_room-room.new.asking.seat.now.view in let w = c.ask_room-room.new.self.seat.view in
    let note = came.view in
    let r = least_stake v.stakes in
    let kept = subst (λ es. IsKept p i.ledger.seat.view es i.shelf) (sym c.in_ok-make_room.ensures.same) c.self.invariant.2 in
    let regions = c.in-Ok.ensures.region ∙ sym c.in-Ok.ensures.note.0 in
    let pages : HasPages p line c.args.shape.supers asked first s r v a w note = record {
      sound = kept.sound;
      aware = c.aware.ensures.aware;
      now_aware = c.aware-2.ensures.aware;
      both_aware = subst IsAware c.take.ensures.view c.aware-4.ensures.aware;
      long = c.aware-2.ensures.long ∙ (ap byte_word_count regions ∙ sym c.aware-3.ensures.long);
      asks = c.in-Ok.ensures.asked;
      run = c.in-Ok.ensures.note.1;
      own = c.in-Ok.ensures.own;
      same = c.in-Ok.ensures.lists;
    } in
    let t = map_beside first asked len in
    let is : c.cut_map-title.result ≡ t = c.cut_map-title.ensures.title in
    let x = c.cut_map-title.new.seat.view in
    let has : HasMapCut p line len asked first s r v a w note x = record {
      pages = subst (λ n. HasPages p line n asked first s r v a w note) served.supers pages;
      whole = served.eights;
      some = served.long;
      cut = c.cut_map-title.ensures.view ∙ (ap (λ z. after_cut z c.take.new.seat.view) is ∙ ap (after_cut t) c.take.ensures.view);
      aware = c.aware-5.ensures.aware;
      new = subst (λ z. seen_of x z ≡ 0) is c.cut_map-title.ensures.new;
    } in
    let y = left_after (frees_parcel (t ∷ [])) x in
    let left : c.hand-note.new.seat.view ≡ y = c.hand-note.ensures.left ∙ ap (λ z. left_after (frees_parcel (z ∷ [])) x) is in
    let given : c.hand-note.result.view ≡ given_after (frees_parcel (t ∷ [])) x = c.hand-note.ensures.given ∙
    ap (λ z. given_after (frees_parcel (z ∷ [])) x) is in
    let now = c.append.new.host.view in let after = c.append.new.lender.view in
    let e : RootEntry = root_entry line (Map asked (name_of t) len) in
    let named : root_entry line (Map asked (record { start = c.cut_map-title.result.start; born = asked }) len) ≡ e =
    ap (λ (z : Title). root_entry line (Map asked (record { start = z.start; born = asked }) len)) is in
    let (m, noted_then) = c.append.ensures.noted in
    let noted : IsNoted (least_stake a.stakes) p (root_numbers
    (root_entry line (Map asked (record { start = c.cut_map-title.result.start; born = asked }) len))) a after
    c.hand-note.new.seat.view now m =
    subst (λ (z : View). IsNoted (least_stake z.stakes) p (root_numbers
    (root_entry line (Map asked (record { start = c.cut_map-title.result.start; born = asked }) len))) z after
    c.hand-note.new.seat.view now m)
    (search rules) noted_then in
    let noted' : IsNoted (least_stake a.stakes) p (root_numbers e) a after y now m =
    subst (λ h. IsNoted (least_stake a.stakes) p (root_numbers e) a after h now m) left
    (subst (λ z. IsNoted (least_stake a.stakes) p (root_numbers z) a after c.hand-note.new.seat.view now m) named noted) in
    let grown : c.append.new.journal.items ≡ js ++ e ∷ [] =
    c.append.ensures.journal ∙ (ap (λ (l : Vec RootEntry Global). l.items ++ root_entry line
    (Map asked (record { start = c.cut_map-title.result.start; born = asked }) len) ∷ []) c.in-Ok.ensures.journal
    ∙ ap (λ z. js ++ z ∷ []) named) in
    let s_now = state_of now c.append.new.journal.items in
    let told : MapTells r p line len v after c.hand-note.result.view t s s_now =
    map_tells p line len asked first s r v a w note x has now after c.hand-note.result.view m s_now c.requires.lender refl noted' given
    grown in
    subst (λ z. MapTells r p line len v after c.hand-note.result.view c.cut_map-title.result z s_now)
    (ap (state_of i.ledger.seat.view) c.in_ok-make_room.ensures.same ∙ c.self.view_is)
    (subst (λ z. MapTells r p line len v after c.hand-note.result.view z s s_now) (sym is) told)
