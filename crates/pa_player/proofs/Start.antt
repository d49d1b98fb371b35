-- Before the first line: nothing was played.
use Rattle.std.proofs.Common.{◌≡◌, ℕ, zero, suc, ◌-◌, ◌*◌, ◌<◌, Bool, true, false, List, [], map, length, refl, sym, ap, ◌∙◌, subst, arith}
use Rattle.std.specs.Prelude.{if◌then◌else◌, nat_lt, ◌&&◌, All, Contains}
use Rattle.std.proofs.Math.Path.{fun_ext}
use Rattle.std.proofs.lemmas.List.Elements.{All-nil}
use Rattle.pa_slot.specs.declared.word.SlotName.{SlotName}
use Rattle.pa_slot.specs.declared.word.Step.{Step}
use Rattle.pa_trace.specs.declared.line.Head.{Head}
use Rattle.pa_trace.specs.declared.script.Rules.{Rules}
use Rattle.pa_trace.specs.Limits.{IsHeadWithin}
use Rattle.pa_rules.specs.Sizes.{is_class, class_total}
use Rattle.pa_record.specs.declared.pool.PoolEntry.{PoolEntry}
use Rattle.pa_record.specs.declared.report.ReportLine.{ReportLine}
use Rattle.pa_record.specs.declared.report.Tally.{Tally}
use Rattle.pa_record.specs.declared.root.RootEntry.{RootEntry}
use Rattle.pa_record.specs.Root.{Root, new_root, root_replayed}
use Rattle.pa_record.specs.Sound.{IsBornBelow}
use Rattle.pa_lists.proofs.Members.{not_in_none}
use Rattle.pa_rules.specs.Caches.{Caches, no_caches}
use Rattle.pa_rules.specs.Report.{cached_slots, cached_bytes, phases_of}
use Rattle.pa_rules.proofs.Sums.{slots_none, bytes_none}
use Rattle.pa_legal.specs.Numbers.{moves_of}
use Rattle.pa_legal.specs.Tallies.{IsLeft}
use Rattle.pa_heap_effects.specs.Deeds.{IsPlacedTo}
use Rattle.pa_heap_effects.specs.Pooled.{pool_at, IsPooledTo}
use Rattle.pa_heap_effects.proofs.Filing.{starts_empty, same_is_placed}
use Rattle.pa_slot_effects.specs.Shown.{IsLike}
use Rattle.pa_slot_effects.specs.Laws.{nothing_shown}
use Rattle.pa_slot_effects.proofs.Starting.{starts_told, like_is_told}
use Rattle.pa_player.specs.Player.{Player}
use Rattle.pa_player.specs.Begun.{IsBegun}
use Rattle.pa_player.specs.Tables.{held_of, IsIn, handle_in}
use Rattle.pa_rules.specs.Lists.{no_tally}
use Rattle.pa_player.specs.Tallies.{tally_at}
use Rattle.pa_player.specs.Playing.{shown, journals, caches, root_of, list_place, list_at, numbered_at, reg_of, word_in, content_in, home_in, len_in, AreAllSlots, AreShaped, AreBounded, AreTallied, IsToldLine, IsPlaying, rules_at}

-- a list that is one without members has none
none_in : {X : Type 0} (xs : List X) (x : X) → xs ≡ [] → Contains xs x → ⊥
none_in xs x none among = not_in_none x (subst (λ zs. Contains zs x) none among)

none_below : {X : Type 0} (xs : List X) (i : ℕ) → xs ≡ [] → i < length xs → ⊥
none_below xs i none low = omega (arith, low, ap length none)

empty_if : {X : Type 0} (b : Bool) (xs : List X) → xs ≡ [] → (if b then xs else []) ≡ []
empty_if true xs e = e
empty_if false xs e = refl

-- lists without slots have none
none_cached : (q n : ℕ) → cached_slots no_caches q n ≡ 0
none_cached q zero = refl
none_cached q (suc n) = let here = slots_none (no_caches n q) 0 170 (λ c low high. refl) in omega (arith, here, none_cached q n)

none_bytes : (q n : ℕ) → cached_bytes no_caches q n ≡ 0
none_bytes q zero = refl
none_bytes q (suc n) = let here = bytes_none (no_caches n q) 0 170 (λ c low high. refl) in omega (arith, here, none_bytes q n)

none_left : (into out : Step → ℕ → Bool) (home size : SlotName → ℕ) (q : ℕ) (t : Tally) → t ≡ no_tally → IsLeft into out home size q [] t
none_left into out home size q t none = record {
  slots = omega (arith, ap (λ (x : Tally). x.slots) none);
  bytes = omega (arith, ap (λ (x : Tally). x.bytes) none);
}

none_born : (n : ℕ) → IsBornBelow n new_root
none_born n = record { supers = λ at among. absurd (not_in_none at among); maps = λ t among. absurd (not_in_none t among) }

module _ (at : Head) (p : Player) (head : IsHeadWithin at) (b : IsBegun at p) where
  abbrev region : ℕ
  region = at.region

  abbrev partitions : ℕ
  partitions = at.partitions

  abbrev threads : ℕ
  threads = at.threads

  no_journals : (q : ℕ) → journals p q ≡ []
  no_journals q = b.told.journals.empty q

  no_lists : (t q class : ℕ) → caches p t q class ≡ []
  no_lists t q class =
      empty_if (nat_lt q p.partitions && is_class p.version class) (map (numbered_at p.table) (list_at p t q class))
      (ap (map (numbered_at p.table)) (b.caches.empty (list_place p.version p.partitions t q class)))

  like : IsLike (nothing_shown (rules_at p)) (shown p)
  like = record {
    rules = refl;
    regs = λ t r. ap (reg_of p.table) (b.registers.clear t r);
    held = λ k. ap (held_of p.table) (b.cell k);
    cells = λ k. b.told.histories.empty k;
    word = λ s. ap (λ slots. word_in slots s) b.table;
    content = λ s held. ap (λ slots. content_in slots s) b.table;
    usable = λ s used. absurd (omega (arith, used));
    plain = λ s used. absurd (omega (arith, used));
  }

  placed : IsPlacedTo partitions 2 [] p.told.pools (journals p) (caches p)
  placed =
      let P : List PoolEntry → Type 0 = λ pools. IsPlacedTo partitions 2 [] pools (journals p) (caches p) in
      subst P (sym b.told.pools)
      (same_is_placed.placed partitions 2 [] [] (λ q. []) (journals p) (λ t q class. []) (caches p)
      (starts_empty.placed partitions 2) no_journals no_lists)

  pooled : IsPooledTo region 2 p.told.pools (journals p)
  pooled =
      let P : List PoolEntry → Type 0 = λ pools. IsPooledTo region 2 pools (journals p) in
      subst P (sym b.told.pools) (same_is_placed.pooled region 2 [] (λ q. []) (journals p) (starts_empty.pooled region 2) no_journals)

  slots : AreAllSlots p.version partitions p.table p.told.pools (journals p) (root_of p)
  slots = record {
    among = λ i low. absurd (none_below p.table i b.table low);
    let_out = λ i low. absurd (none_below p.table i b.table low);
    mapped = λ i low. absurd (none_below p.table i b.table low);
    at = λ i n low. absurd (none_below p.table i b.table low);
    born = λ i low. absurd (none_below p.table i b.table low);
    apart = λ i j low. absurd (none_below p.table i b.table low);
    others = λ q s none. ap (λ es. moves_of es s) (no_journals q);
  }

  shaped : AreShaped partitions threads p
  shaped = record {
    many = b.many;
    four = head.1.1;
    registers = b.registers.count;
    sixty_four = b.registers.sixty_four;
    cells = b.cells;
    histories = b.told.histories.count;
    journals = b.told.journals.count;
    roots = b.roots.count;
    lists = b.caches.count ∙ ap (λ v. threads * partitions * class_total v) (sym (ap (λ (k : Rules). k.version) b.rules));
    held = λ t r. subst (IsIn (length p.table)) (sym (b.registers.clear t r)) tt;
    celled = λ k. subst (IsIn (length p.table)) (sym (b.cell k)) tt;
    handles = λ k. subst (λ z. handle_in z ≡ z) (sym (b.cell k)) refl;
    listed = λ t q class i lt below low among. absurd
        (none_in (list_at p t q class) i (b.caches.empty (list_place p.version p.partitions t q class)) among);
    short = λ t q class lt below low. omega (arith, ap length (b.caches.empty (list_place p.version p.partitions t q class)));
    live = b.live.four;
    quarantined = b.quarantined.four;
    cached = b.cached.four;
  }

  bounded : AreBounded 2 p
  bounded = record {
    few = omega arith;
    slots = omega (arith, ap length b.table);
    pools = omega (arith, ap length b.told.pools);
    journals = λ q. omega (arith, ap length (no_journals q));
    histories = λ k. omega (arith, ap length (b.told.histories.empty k));
    turns = λ q. omega (arith, ap (λ (r : Root). r.turn) (b.roots.new q));
    born = λ q. subst (IsBornBelow p.heap.pool.entries) (sym (b.roots.new q)) (none_born p.heap.pool.entries);
  }

  same_lists : caches p ≡ no_caches
  same_lists = fun_ext (λ t. fun_ext (λ q. fun_ext (λ class. no_lists t q class)))

  tallied : (q : ℕ) → q < partitions →
      AreTallied threads p.table [] (caches p) (tally_at p.live.of q) (tally_at p.quarantined.of q) (tally_at p.cached.of q) q
  tallied q low =
      let four : q < 4 = omega (arith, low, head.1.1) in
      record {
        is_live = none_left _ _ (home_in p.table) (len_in p.table) q (tally_at p.live.of q) (b.live.none q four);
        is_quarantined = none_left _ _ (home_in p.table) (len_in p.table) q (tally_at p.quarantined.of q) (b.quarantined.none q four);
        many = ap (λ (x : Tally). x.slots) (b.cached.none q four) ∙ sym (none_cached q threads) ∙
            ap (λ (all : Caches). cached_slots all q threads) (sym same_lists);
        bytes = ap (λ (x : Tally). x.bytes) (b.cached.none q four) ∙ sym (none_bytes q threads) ∙
            ap (λ (all : Caches). cached_bytes all q threads) (sym same_lists);
      }

  reported : All (IsToldLine partitions threads 2 p.phase [] p.told.pools (journals p)) p.told.report
  reported =
      let P : ReportLine → Type 0 = IsToldLine partitions threads 2 p.phase [] p.told.pools (journals p) in
      subst (λ lines. All P lines) (sym b.told.report) (All-nil P)

  places : map (λ (l : ReportLine). (l.phase, l.partition)) p.told.report ≡ phases_of partitions 1 (p.phase - 1)
  places =
      let f : List ReportLine → List (ℕ × ℕ) = map (λ (l : ReportLine). (l.phase, l.partition)) in
      let g : ℕ → List (ℕ × ℕ) = λ n. phases_of partitions 1 (n - 1) in
      ap f b.told.report ∙ ap g (sym b.phase)

  pub playing : IsPlaying region partitions threads [] p
  playing = record {
    ps = [];
    told = like_is_told threads [] [] (nothing_shown (rules_at p)) (shown p) (starts_told threads (rules_at p)) like;
    entries = sym b.told.entries;
    line = b.told.line;
    phase = b.phase;
    placed = placed;
    pooled = pooled;
    roots = λ q.
        let R : List RootEntry → Root = λ es. root_replayed p.told.pools es new_root in
        b.roots.new q ∙ sym (ap R (no_journals q));
    plan = b.pool ∙ ap (pool_at region) (sym b.told.pools);
    slots = slots;
    marked = λ m among. absurd (not_in_none m among);
    shaped = shaped;
    bounded = bounded;
    tallied = tallied;
    reported = reported;
    places = places;
    printable = λ q e among. absurd (none_in (journals p q) e (no_journals q) among);
  }

-- a player that was begun has played no lines
pub begins_playing : (h : Head) (p : Player) → IsHeadWithin h → IsBegun h p → IsPlaying h.region h.partitions h.threads [] p
begins_playing h p head b = playing h p head b
