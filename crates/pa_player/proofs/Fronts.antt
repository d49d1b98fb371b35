-- An allocation that takes the front of its list.
use Rattle.std.proofs.Common.{◌≡◌, ℕ, suc, ◌+◌, ◌-◌, ◌*◌, ◌<◌, max, List, [], ◌∷◌, map, length, set, get_or, Option, Some, None, refl, sym, ap, ◌∙◌, subst, arith, length-set, inl, inr, nat_le}
use Rattle.std.specs.Prelude.{if◌then◌else◌, ◌==◌, Contains}
use Rattle.std.proofs.Math.Nat.{mul-suc}
use Rattle.std.proofs.lemmas.Bool.{cases_eq, eq-eqb, ne_eqb}
use Rattle.std.proofs.lemmas.List.{get_or-set_same, get_or-set_other}
use Rattle.pa_slot.specs.declared.word.Step.TheVariants as steps
use Rattle.pa_slot.specs.Count.{number_of, stepped}
use Rattle.pa_slot.specs.Run.{Mark}
use Rattle.pa_buckets.specs.Table.{slot_of}
use Rattle.pa_buckets.specs.Classes.{IsClassIn}
use Rattle.pa_buckets.proofs.Facts.{IsRow-of}
use Rattle.pa_trace.specs.declared.script.Op.TheVariants as ops
use Rattle.pa_trace.specs.declared.script.Line.{Line}
use Rattle.pa_trace.specs.declared.script.Line.TheVariants.{Do}
use Rattle.pa_record.specs.declared.entry.Answer.{Answer}
use Rattle.pa_record.specs.declared.entry.Answer.TheVariants as answers
use Rattle.pa_record.specs.declared.numbered.Numbered.{Numbered}
use Rattle.pa_record.specs.declared.report.Tally.{Tally}
use Rattle.pa_record.specs.Spans.{name_of}
use Rattle.pa_lists.proofs.Members.{first_in, later_in}
use Rattle.pa_rules.specs.Played.{mark_at}
use Rattle.pa_rules.specs.Roots.{Journals}
use Rattle.pa_rules.specs.Caches.{with_list, with_cache}
use Rattle.pa_rules.specs.Report.{cached_slots, cached_bytes}
use Rattle.pa_rules.specs.Sizes.{usable_of, HasClass, class_total}
use Rattle.pa_rules.proofs.Sizes.{sizes_fit}
use Rattle.pa_slot.specs.Kinds.{issues, frees, enters, leaves}
use Rattle.pa_heap_effects.proofs.Acting.{front_leaves}
use Rattle.pa_slot_effects.specs.Turns.{LeadsTo, played_at, after_made}
use Rattle.pa_slot_effects.proofs.Ops.{made_goes_on}
use Rattle.pa_slot_effects.proofs.Marking.{some_mark}
use Rattle.pa_rules.specs.declared.register.Register.TheVariants.{Own}
use Rattle.pa_player.specs.declared.table.Slot.{Slot}
use Rattle.pa_player.specs.Player.{Player}
use Rattle.pa_player.specs.Tables.{no_slot, slot_at, named_at, HasNone}
use Rattle.pa_player.specs.Tallies.{tally_at}
use Rattle.pa_player.specs.Playing.{shown, journals, caches, register_at, numbered_at, list_place, list_at, root_of, IsLetOut, AreShaped, IsPlaying, rules_at}
use Rattle.pa_player.specs.Changes.{IsFrontIssued, registered, listed, issued, cached_less, seen_at, tallied_more, tallied_less}
use Rattle.pa_player.specs.Plays.{CanGoOn, Plays, PlaysAfter}
use Rattle.pa_player.proofs.OneList.{place_below, caches_here, caches_listed}
use Rattle.pa_player.proofs.Slots.{IsSame, keeps_set, keeps_named}
use Rattle.pa_player.proofs.Shaping.{shaped_table, shaped_registered, shaped_listed, shaped_live, shaped_cached}
use Rattle.pa_player.proofs.Showing.{none_holds, at_name, content_set}
use Rattle.pa_player.proofs.Alone.{listed_away, listed_free, listed_once, front_once}
use Rattle.pa_player.proofs.Known.{mapped_class, all_slots_set}
use Rattle.pa_player.proofs.Counting.{IsMoreBy, tally_more, tally_less, cached_slots_set, cached_bytes_set, cached_slots_same, cached_bytes_same}
use Rattle.pa_player.proofs.Changing.{list_within}
use Rattle.pa_player.proofs.Shows.{CountsMore}
use Rattle.pa_player.proofs.Quiet.{IsQuiet, quiet_plays, can_play, tally_still}
use Rattle.pa_player.proofs.Weighing.{tally_in}
use Rattle.pa_player.proofs.Stepping.{caches_kept, shows_step}
use Rattle.pa_player.proofs.Copies.{word_as}
use Rattle.pa_player.proofs.Frees.{home_at, set_both}
use Rattle.pa_rules.proofs.Versions.{real_in}

-- the length of a slot of a class
let_out_class : (version : ℕ) (roots : Journals) (x : Slot) (o : Option ℕ) (class : ℕ) → o ≡ Some class → IsLetOut version roots x o →
    x.title.len ≡ slot_of class
let_out_class version roots x (Some c) class is of = of.2 ∙ ap slot_of (same_class c class is)
  where
    same_class : (a b : ℕ) → Some a ≡ Some b → a ≡ b
    same_class a b e = cc
let_out_class version roots x None class is of = absurd (none_some class is)
  where
    none_some : (n : ℕ) → None ≡ Some n → ⊥
    none_some n e = cc

-- If a tally was what the lists have, and both fall by the same number in partition q, it still is.
less_by : (q k a before after was now n m : ℕ) → (q ≡ k → n ≡ m + a) → now + (if q == k then n else 0) ≡ was + (if q == k then m else 0)
    → before ≡ after + (if q == k then a else 0) → before ≡ was → after ≡ now
less_by q k a before after was now n m step lists less is = elim (cases_eq q k) [
  | inl e ↦
      let one : now + n ≡ was + m = rw (eq-eqb q k e) at lists in
      let two : before ≡ after + a = rw (eq-eqb q k e) at less in
      omega (arith, one, two, step e, is)
  | inr ne ↦
      let one : now + 0 ≡ was + 0 = rw (ne_eqb q k ne) at lists in
      let two : before ≡ after + 0 = rw (ne_eqb q k ne) at less in
      omega (arith, one, two, is)
]

module _ (p : Player) (thread reg q size class i : ℕ) (rest : List ℕ) (none : HasNone (register_at p thread reg))
    (of : IsClassIn p.version (max size 1 + 8) class)
    (front : list_at p thread q class ≡ i ∷ rest) where
  abbrev at : ℕ
  at = list_place p.version p.partitions thread q class

  abbrev x : Slot
  x = slot_at p.table i

  -- the slot when it is issued
  abbrev y : Slot
  y = record (word_as (stepped steps.Issue x.word.0) x) { content = 0 }

  abbrev same : IsSame x y
  same = record { title = refl; partition = refl; class = refl }

  abbrev live : List Tally
  live = tallied_more x.partition 1 x.title.len p.live.of

  abbrev cached : List Tally
  cached = tallied_less q 1 x.title.len p.cached.of

  abbrev after : Player
  after = record p {
    table = set p.table i y;
    registers = (registered thread reg (Own i) p).registers;
    caches = set p.caches at rest;
    live = record { of = live };
    cached = record { of = cached };
  }

  module _ (region partitions threads : ℕ) (ls : List Line)
      (can : CanGoOn region partitions threads ls (Do thread (ops.Alloc reg q size)) p) where
    abbrev h : IsPlaying region partitions threads ls p
    h = can.playing

    inside : q < p.partitions
    inside = omega (arith, can.within.1.1, h.shaped.many)

    there : Contains (list_at p thread q class) i
    there = subst (λ z. Contains z i) (sym front) (first_in i rest)

    here : (i < length p.table) × (x.partition ≡ q) × (x.class ≡ Some class)
    here = h.shaped.listed thread q class i can.within.0 can.within.1.1 (of.from, of.real) there

    length_is : x.title.len ≡ slot_of class
    length_is = let_out_class p.version (journals p) x x.class class here.2 (h.slots.let_out i here.0)

    usable_is : x.title.len - 8 ≡ usable_of (rules_at p).version size
    usable_is = ap (λ z. z - 8) (length_is ∙ sym (sizes_fit.class (rules_at p).version size class of))

    -- the list, by names
    front_is : caches p thread q class ≡ numbered_at p.table i ∷ map (numbered_at p.table) rest
    front_is = caches_here p thread q class inside (of.from, of.real) ∙ ap (map (numbered_at p.table)) front

    shape_listed : AreShaped partitions threads (listed at rest p)
    shape_listed =
        shaped_listed partitions threads p h.shaped thread q class rest can.within.0 can.within.1.1 (of.from, of.real)
        (λ j among. h.shaped.listed thread q class j can.within.0 can.within.1.1 (of.from, of.real)
        (subst (λ z. Contains z j) (sym front) (later_in i j rest among)))
        (let long : length (list_at p thread q class) ≡ length (i ∷ rest) = ap length front in
        let short = h.shaped.short thread q class can.within.0 can.within.1.1 (of.from, of.real) in
        omega (arith, long, short))

    -- what is listed then is another slot
    unmoved : (t k c j : ℕ) → t < threads → k < partitions → HasClass p.version c → Contains (list_at (listed at rest p) t k c) j →
        numbered_at (set p.table i y) j ≡ numbered_at p.table j
    unmoved t k c j below low real among =
        let apart : j ≡ i → ⊥ = λ e. elim (cases_eq (list_place p.version p.partitions t k c) at) [
          | inl is ↦
              let room : at < length p.caches =
              omega (
                arith,
                place_below p.version p.partitions threads thread q class can.within.0 inside (of.from, of.real),
                h.shaped.lists,
                same_room,
              ) in
              let now : list_at (listed at rest p) t k c ≡ rest = ap (λ z. get_or (set p.caches at rest) z []) is ∙
              get_or-set_same p.caches at rest [] room in
              front_once region partitions threads ls p h i thread q class rest can.within.0 can.within.1.1 (of.from, of.real) front
              (subst (λ z. Contains rest z) e (subst (λ z. Contains z j) now among))
          | inr ne ↦
              let old : list_at (listed at rest p) t k c ≡ list_at p t k c =
              get_or-set_other p.caches at (list_place p.version p.partitions t k c) rest [] ne in
              let (a, b, d) = listed_once region partitions threads ls p h i thread q class t k c can.within.0 can.within.1.1
              (of.from, of.real) below low real there
              (subst (λ z. Contains (list_at p t k c) z) e (subst (λ z. Contains z j) old among)) in
              ne (ap (λ z. list_place p.version p.partitions z k c) (sym a)
              ∙ ap (λ z. list_place p.version p.partitions thread z c) (sym b)
              ∙ ap (λ z. list_place p.version p.partitions thread q z) (sym d))
        ] in
        let f : Slot → Numbered = λ z. record { slot = name_of z.title; number = number_of z.word.0 } in
        ap f (get_or-set_other p.table i j y no_slot apart)
      where
        same_room : threads * p.partitions * class_total p.version ≡ threads * partitions * class_total p.version
        same_room = ap (λ z. threads * z * class_total p.version) h.shaped.many

    lists : (t k c : ℕ) → caches after t k c ≡ with_cache (caches p) thread
        (with_list (caches p thread) q class (map (numbered_at p.table) rest)) t k c
    lists t k c =
        caches_kept partitions threads (listed at rest p) (set p.table i y) shape_listed unmoved t k c
        ∙ caches_listed p thread q class rest inside (of.from, of.real)
        (omega (
          arith,
          place_below p.version p.partitions threads thread q class can.within.0 inside (of.from, of.real),
          h.shaped.lists,
          same_room,
        )) t k c
      where
        same_room : threads * p.partitions * class_total p.version ≡ threads * partitions * class_total p.version
        same_room = ap (λ z. threads * z * class_total p.version) h.shaped.many

    shaped : AreShaped partitions threads after
    shaped =
        let low = here.0 in
        let counted = shaped_cached partitions threads (listed at rest p) shape_listed cached
        (length-set p.cached.of q _ ∙ h.shaped.cached) in
        let p1 : Player = record p { caches = set p.caches at rest; cached = record { of = cached } } in
        let tabled = shaped_table partitions threads p1 counted (set p.table i y) (keeps_set p.table i y low same) in
        let p2 : Player = record p1 { table = set p.table i y } in
        let registered_shape = shaped_registered partitions threads p2 tabled thread reg (Own i)
        (omega (arith, low, length-set p.table i y)) in
        shaped_live partitions threads (registered thread reg (Own i) p2) registered_shape live
        (length-set p.live.of x.partition _ ∙ h.shaped.live)

    long : length (caches p thread q class) ≡ length (map (numbered_at p.table) rest) + 1
    long = let is : length (caches p thread q class) ≡ length (numbered_at p.table i ∷ map (numbered_at p.table) rest) =
        ap length front_is in omega (arith, is)

    heavy : slot_of class * length (caches p thread q class) ≡ slot_of class * length (map (numbered_at p.table) rest) + x.title.len
    heavy =
        let n = length (map (numbered_at p.table) rest) in
        let all : length (caches p thread q class) ≡ suc n = omega (arith, long) in
        let is : slot_of class * length (caches p thread q class) ≡ slot_of class * suc n = ap (λ z. slot_of class * z) all in
        omega (arith, is, mul-suc (slot_of class) n, length_is)

    -- what is cached is less by this slot
    fewer : (k : ℕ) → IsMoreBy q 1 x.title.len k (tally_at cached k) (tally_at p.cached.of k)
    fewer k =
        let known = h.tallied q can.within.1.1 in
        let within = list_within (caches p) threads thread q class can.within.0 (real_in p.version class (of.from, of.real)) in
        tally_less q 1 x.title.len k p.cached.of (omega (arith, can.within.1.1, h.shaped.four, h.shaped.cached))
        (omega (arith, known.many, within.0, long)) (omega (arith, known.bytes, within.1, heavy))

    counts : CountsMore partitions threads p after (Some (mark_at (length ls + 2) (seen_at p.table i) (Some steps.Issue)))
    counts =
        let m = mark_at (length ls + 2) (seen_at p.table i) (Some steps.Issue) in
        let home = home_at p.table i y h.slots.apart here.0 same in
        let new = with_cache (caches p) thread (with_list (caches p thread) q class (map (numbered_at p.table) rest)) in
        record {
          live = λ k low.
              tally_in issues frees (set p.table i y) k x.partition x.title.len (named_at p.table i) (Some m) (tally_at p.live.of k)
              (tally_at live k) home.0 home.1 (λ w. refl) (λ w. refl)
              (tally_more x.partition 1 x.title.len k p.live.of (omega (arith, h.slots.among i here.0, h.shaped.four, h.shaped.live)));
          quarantined = λ k low. tally_still enters leaves (set p.table i y) k (Some m) (tally_at p.quarantined.of k) (λ w. refl)
              (λ w. refl);
          many = λ k low.
              less_by q k 1 (tally_at p.cached.of k).slots (tally_at cached k).slots (cached_slots (caches p) k threads)
              (cached_slots new k threads)
              (length (caches p thread q class)) (length (map (numbered_at p.table) rest)) (λ e. long)
              (cached_slots_set (caches p) threads thread q class k (map (numbered_at p.table) rest) can.within.0
              (real_in p.version class (of.from, of.real))) (fewer k).slots (h.tallied k low).many
              ∙ sym (cached_slots_same new (caches after) threads k lists);
          bytes = λ k low.
              less_by q k x.title.len (tally_at p.cached.of k).bytes (tally_at cached k).bytes (cached_bytes (caches p) k threads)
              (cached_bytes new k threads)
              (slot_of class * length (caches p thread q class)) (slot_of class * length (map (numbered_at p.table) rest)) (λ e. heavy)
              (cached_bytes_set (caches p) threads thread q class k (map (numbered_at p.table) rest) can.within.0
              (real_in p.version class (of.from, of.real))) (fewer k).bytes (h.tallied k low).bytes
              ∙ sym (cached_bytes_same new (caches after) threads k lists);
        }

    quiet : IsQuiet region partitions threads ls p after h thread (ops.Alloc reg q size)
        (answers.Made (seen_at p.table i) (x.title.len - 8))
    quiet =
        let low = here.0 in
        let seen = seen_at p.table i in
        let free = listed_free region partitions threads ls p h i thread q class can.within.0 can.within.1.1 (of.from, of.real) there in
        let away = listed_away region partitions threads ls p h i thread q class can.within.0 can.within.1.1 (of.from, of.real) there in
        let shows = shows_step region partitions threads ls p i thread reg (Own i) y
        (record { of = live }) p.quarantined h low can.within.0 can.within.1.0 low same in
        let keeps = keeps_set p.table i y low same in
        record {
          next = with_list (caches p thread) q class (map (numbered_at p.table) rest);
          after = after_made (shown p) thread reg seen;
          done =
              front_leaves region partitions (length ls + 2) q class (x.title.len - 8) h.ps
              (played_at (rules_at p) ls thread (ops.Alloc reg q size) (answers.Made seen (x.title.len - 8))) p.told.pools
              (journals p) (caches p) seen
              (map (numbered_at p.table) rest) h.placed refl refl (reg, size, refl, of) front_is;
          turn =
              subst (λ n. LeadsTo threads ls h.ps thread (ops.Alloc reg q size) (answers.Made seen n)
              (after_made (shown p) thread reg seen)) (sym usable_is)
              (made_goes_on threads ls h.ps (shown p) thread reg q size seen
              (can_play region partitions threads ls thread (ops.Alloc reg q size) p can) can.within.1.0
              (none_holds p.table (register_at p thread reg) none)
              (omega (arith, of.fits, (IsRow-of class (real_in p.version class (of.from, of.real))).greatest_slot))
              (sym (at_name (λ z. z.word.0) p.table i h.slots.apart low)) free.held free.refs
              (at_name (λ z. z.title.len - 8) p.table i h.slots.apart low ∙ usable_is)
              (ap (λ n. nat_le p.plain_from n) (sym (at_name (λ z. z.partition) p.table i h.slots.apart low ∙ here.1))));
          like = record {
            rules = refl;
            regs = shows.regs;
            held = shows.held;
            cells = λ k. refl;
            word = shows.word;
            content = λ s is_held. content_set p.table i y s h.slots.apart low same;
            usable = λ s stepped_on. shows.usable s;
            plain = λ s stepped_on. shows.plain s;
          };
          lists = lists;
          still = record {
            entries = refl;
            report = refl;
            line = refl;
            rules = refl;
            phase = refl;
            pools = refl;
            journals = refl;
            roots = λ k. refl;
            pool = refl;
            histories = λ k. inl refl;
          };
          keeps = keeps;
          few = omega (arith, length-set p.table i y);
          slots = all_slots_set partitions p.table p.told.pools (journals p) (root_of p) i y h.slots low same away.none
              (mapped_class (root_of p x.partition) y x.class class here.2);
          shaped = shaped;
          marked = λ m e.
              let slot : named_at p.table i ≡ m.slot =
              ap (λ (z : Mark). z.slot) (some_mark (mark_at (length ls + 2) seen (Some steps.Issue)) m e) in
              (i, (omega (arith, length-set p.table i y, low), keeps_named p.table (set p.table i y) i keeps low ∙ slot));
          counts = counts;
        }

  -- the front of the list was issued
  pub front_issued : Plays p thread (ops.Alloc reg q size) (issued thread reg i (cached_less q 1 x.title.len (listed at rest p)))
      (answers.Made (seen_at p.table i) (x.title.len - 8))
  front_issued region partitions threads ls can =
      let made = quiet_plays p thread (ops.Alloc reg q size) after
      (answers.Made (seen_at p.table i) (x.title.len - 8)) quiet region partitions threads ls can in
      subst (λ slots. PlaysAfter region partitions threads ls p thread (ops.Alloc reg q size) (record after { table = slots })
      (answers.Made (seen_at p.table i) (x.title.len - 8)))
      (sym (set_both p.table i 0 (stepped steps.Issue x.word.0) (here region partitions threads ls can).0)) made

-- an allocation is played if its list has a front
pub front_plays : (p r : Player) (thread reg q size class : ℕ) (answer : Answer) → HasNone (register_at p thread reg) →
    IsClassIn p.version (max size 1 + 8) class
    → IsFrontIssued thread reg q (list_place p.version p.partitions thread q class) p r answer →
    Plays p thread (ops.Alloc reg q size) r answer
front_plays p r thread reg q size class answer none of h =
    let made = front_issued p thread reg q size class h.place h.rest none of h.front in
    subst (λ z. Plays p thread (ops.Alloc reg q size) z answer) (sym h.issued)
    (subst (λ a. Plays p thread (ops.Alloc reg q size) (issued thread reg h.place
    (cached_less q 1 (slot_at p.table h.place).title.len (listed (list_place p.version p.partitions thread q class) h.rest p))) a)
    (sym h.says) made)
