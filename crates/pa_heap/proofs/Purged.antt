-- What a purge says, once its partitions were purged: it does what it should.
use Rattle.std.proofs.Common.{◌≡◌, ℕ, zero, suc, ◌+◌, ◌-◌, ◌<◌, ◌≤◌, Bool, true, false, List, [], ◌∷◌, ◌⊎◌, map, flat_map, refl, sym, ◌∙◌, ap, subst, arith, inl, inr}
use Rattle.std.specs.Prelude.{nat_lt, if◌then◌else◌, Contains}
use Rattle.std.specs.List.{range_with_len}
use Rattle.std.proofs.lemmas.List.Elements.{Contains-append_cases}
use Rattle.std.proofs.lemmas.Bool.{le-ltb}
use Rattle.std.proofs.lemmas.Bool.Decides.{nat_tests}
use Rattle.pa_slot.specs.declared.title.Title.{Title}
use Rattle.pa_trace.specs.declared.script.Op.TheVariants as ops
use Rattle.pa_rules.specs.declared.played.Played.{Played}
use Rattle.pa_record.specs.declared.entry.Answer.TheVariants as answers
use Rattle.pa_record.specs.declared.entry.Seen.{Seen}
use Rattle.pa_record.specs.declared.numbered.Numbered.{Numbered}
use Rattle.pa_record.specs.declared.pool.PoolEntry.{PoolEntry}
use Rattle.pa_record.specs.declared.root.RootAct.{RootAct}
use Rattle.pa_record.specs.declared.root.RootAct.TheVariants.{Purge}
use Rattle.pa_record.specs.declared.root.RootEntry.{RootEntry}
use Rattle.pa_record.specs.Numbers.{root_numbers}
use Rattle.pa_lists.proofs.Members.{in_cases, not_in_none, first_in, not_some}
use Rattle.pa_region.specs.declared.view.Entry.{Entry}
use Rattle.pa_region.specs.declared.view.Entry.TheVariants.{Uncut}
use Rattle.pa_region.specs.declared.view.Made.{Made}
use Rattle.pa_region.specs.Views.{free_of}
use Rattle.pa_region.specs.Lists.{entered_in}
use Rattle.pa_rules.specs.Caches.{gives, purge_acts, all_listed, acts_of}
use Rattle.pa_rules.specs.Roots.{MakesEntry}
use Rattle.pa_logs.specs.Told.{ToldRecord}
use Rattle.pa_logs.specs.Touches.{touches}
use Rattle.pa_logs.specs.Indices.{Enters, asks}
use Rattle.pa_root.specs.Handing.{root_entry, numbered_by}
use Rattle.pa_step_order.specs.Signs.{act_signs}
use Rattle.pa_op_specs.specs.Stocks.{StockRegister, StockValue, IsStock, titles_in, listed_in, listed_slot, regs_of}
use Rattle.pa_op_specs.specs.Outcomes.{Outcome, IsOutcome, IsSeenOf, FillsFrom}
use Rattle.pa_op_specs.specs.Entering.{HasSeenSome}
use Rattle.pa_op_specs.specs.Plays.{DoesOp}
use Rattle.pa_op_specs.proofs.Seeing.{slot_in_run}
use Rattle.pa_op_specs.proofs.Owing.{owes_none}
use Rattle.pa_op_specs.proofs.Quiet.{quiet_record}
use Rattle.pa_op_specs.proofs.Entered.{SaysEntered, acts_in, makes_each, entered_does}
use Rattle.pa_op_specs.proofs.Batches.{in_gives, acts_back, act_among}
use Rattle.pa_heap.proofs.Given.{IsGiveOrPurge, none_asks}
use Rattle.pa_heap.proofs.Purging.{Purging, still_off, range_same}

-- what a purge of a partition enters
purge_gives : (lists : ℕ → List Numbered) (i n : ℕ) (act : RootAct) → Contains (purge_acts lists i n) act → IsGiveOrPurge act
purge_gives lists i zero act among = elim (in_cases Purge act [] among) [
  | inl same ↦ inr (sym same)
  | inr none ↦ absurd (not_in_none act none)
]
purge_gives lists i (suc n) act among =
    elim (Contains-append_cases (gives (lists i)) (purge_acts lists (i + 1) n) act among) [
      | inl first ↦ inl (in_gives (lists i) act first)
      | inr later ↦ purge_gives lists (i + 1) n act later
    ]

-- a purge makes such an act, which fills from no class
made_by_purge : (pools : List PoolEntry) (p : ℕ) (act : RootAct) (x : Played) → x.op ≡ ops.Purge → IsGiveOrPurge act →
    MakesEntry pools p act x
made_by_purge pools p act x op is = elim is [
  | inl (slots, give) ↦ subst (λ a. MakesEntry pools p a x) (sym give) (inr op)
  | inr purge ↦ subst (λ a. MakesEntry pools p a x) (sym purge) op
]

no_fill : (version : ℕ) (act : RootAct) → IsGiveOrPurge act → FillsFrom version act
no_fill version act is = elim is [
  | inl (slots, give) ↦ subst (FillsFrom version) (sym give) tt
  | inr purge ↦ subst (FillsFrom version) (sym purge) tt
]

-- in a run no list of a partition past its own has a title
pub none_past : (o : Outcome) (s : StockValue) (q c : ℕ) → IsOutcome o → IsSeenOf o s.view → IsStock s →
    o.partitions ≤ q → titles_in s.caches q c ≡ []
none_past o s q c run sees is past = go (titles_in s.caches q c) refl
  where
    go : (ts : List Title) → titles_in s.caches q c ≡ ts → ts ≡ []
    go [] here = refl
    go (t ∷ ts) here =
        let made = is.lists.made q c t (subst (λ us. Contains us t) (sym here) (first_in t ts)) in
        let slot = slot_in_run o s.view (listed_slot q c t) run sees made in
        let (e, asked, slots, among, act, named) = slot.class c refl in
        absurd (not_in_none e (subst (λ (es : List RootEntry). Contains es e) (run.past q past) among))

-- ---- what a purge enters

-- What a purge entered: these acts, by their partitions.
--   says, each: its log segment says them, and they are gives and purges
--   past, homes: none in the pool's list, nor past the run's partitions but where its seat had seen an entry
--   quiet, uncut: nothing else is in its log segment that counts
--   registers: stay
pub record PurgeEnters (line : ℕ) (es : List Entry) (acts : ℕ → List RootAct) (s now : StockValue) : Type 0 where
  pub says : (p : ℕ) → map (λ (m : Made). m.numbers) (entered_in p es) ≡ map root_numbers (map (root_entry line) (acts p))
  pub each : (p : ℕ) (act : RootAct) → Contains (acts p) act → IsGiveOrPurge act
  pub past : acts 4 ≡ []
  pub homes : (p : ℕ) → s.partitions ≤ p → (acts p ≡ []) ⊎ HasSeenSome s.thread p s.view
  pub quiet : touches es ≡ []
  pub uncut : (t : Title) → Contains es (Uncut t) → ⊥
  pub registers : now.registers ≡ s.registers

-- The record of a purge that entered these acts says what it should, and of each partition it says them.
pub purge_says : (line slots phase : ℕ) (es : List Entry) (acts : ℕ → List RootAct) (s now : StockValue) →
    PurgeEnters line es acts s now →
    (say : SaysEntered s now (quiet_record s now.view line phase ops.Purge (answers.Purged slots) es))
    × ((p : ℕ) → acts_in (say.it.roots p) ≡ acts p)
purge_says line slots phase es acts s now enters = (
  record {
    cells = λ list none. none;
    it = it;
    fills = λ p e low among. no_fill s.caches.version e.act (are p e among);
    asked = inl (record { pools = refl; roots = λ p. none_asks line (acts p) (enters.each p) });
    refused = λ j reg p size full asks. absurd (not_full j full);
    uncuts = λ t among. absurd (enters.uncut t among);
    homes = λ p past. elim (enters.homes p past) [
      | inl none ↦ inl (ap (map (root_entry line)) none)
      | inr seen ↦ inr seen
    ];
    owes = λ q. owes_none q es enters.quiet;
    words = λ refused. absurd refused;
    answers = λ o run many rules sees here. record {
      told = enters.quiet;
      row = (slots, refl, λ k. ap (λ (rs : List StockRegister). regs_of rs k) enters.registers);
      reader = tt;
      unmaps = λ seen p asked slot e done among on act. absurd (not_done seen done);
      makes = makes_each x it o.pools (λ p e low among. made_by_purge o.pools p e.act x.played refl (are p e among));
      home = λ m e. absurd (not_some m e);
    };
  },
  λ p. acts_back line (acts p),
)
  where
    x : ToldRecord
    x = quiet_record s now.view line phase ops.Purge (answers.Purged slots) es

    it : Enters x
    it = record {
      roots = λ p. map (root_entry line) (acts p);
      pools = [];
      roots_are = λ p low. enters.says p;
      pools_are = enters.says 4 ∙ ap (λ bs. map root_numbers (map (root_entry line) bs)) enters.past;
    }

    are : (p : ℕ) (e : RootEntry) → Contains (map (root_entry line) (acts p)) e → IsGiveOrPurge e.act
    are p e among = enters.each p e.act (act_among line (acts p) e among)

    not_full : (j : ℕ) → answers.Purged slots ≡ answers.Full j → ⊥
    not_full j e = cc

    not_done : (seen : Seen) → answers.Purged slots ≡ answers.Done seen → ⊥
    not_done seen e = cc

-- ---- what a purge of all lists enters

-- what goes back to the root of partition p: all its lists, if the run has it
abbrev pub purged_acts : StockValue → ℕ → List RootAct
purged_acts s p = if nat_lt p s.partitions then purge_acts (listed_in s p) 0 170 else []

pub purged_at : (s : StockValue) (p : ℕ) → p < s.partitions → purged_acts s p ≡ purge_acts (listed_in s p) 0 170
purged_at s p low = go (nat_lt p s.partitions) refl
  where
    go : (b : Bool) → nat_lt p s.partitions ≡ b →
        (if b then purge_acts (listed_in s p) 0 170 else []) ≡ purge_acts (listed_in s p) 0 170
    go true is = refl
    go false is = absurd (let high : s.partitions ≤ p = grind (arith, nat_tests) in omega arith)

pub purged_past : (s : StockValue) (p : ℕ) → s.partitions ≤ p → purged_acts s p ≡ []
purged_past s p past = rw (le-ltb p s.partitions past) refl

pub purged_each : (s : StockValue) (p : ℕ) (act : RootAct) → Contains (purged_acts s p) act → IsGiveOrPurge act
purged_each s p act among = go (nat_lt p s.partitions) among
  where
    go : (b : Bool) → Contains (if b then purge_acts (listed_in s p) 0 170 else []) act → IsGiveOrPurge act
    go true among = purge_gives (listed_in s p) 0 170 act among
    go false none = absurd (not_in_none act none)

pub purged_says : (line slots : ℕ) (s now : StockValue) → (some : Purging line s.partitions slots s now) → (p : ℕ) →
    map (λ (m : Made). m.numbers) (entered_in p some.stretch) ≡ map root_numbers (map (root_entry line) (purged_acts s p))
purged_says line slots s now some p = go (nat_lt p s.partitions) refl
  where
    go : (b : Bool) → nat_lt p s.partitions ≡ b →
        map (λ (m : Made). m.numbers) (entered_in p some.stretch) ≡
        map root_numbers (map (root_entry line) (if b then purge_acts (listed_in s p) 0 170 else []))
    go true is = some.says p (grind (arith, nat_tests))
    go false is = ap (map (λ (m : Made). m.numbers)) (some.none p (grind (arith, nat_tests)))

-- and then no list of a run has a title
pub none_listed : (line slots : ℕ) (s now : StockValue) → IsStock now → Purging line s.partitions slots s now →
    (o : Outcome) → IsOutcome o → o.partitions ≡ s.partitions → IsSeenOf o now.view → (p c : ℕ) → titles_in now.caches p c ≡ []
none_listed line slots s now still some o run many sees p c = go (nat_lt p s.partitions) refl (some.kept p c)
  where
    go : (b : Bool) → nat_lt p s.partitions ≡ b →
        titles_in now.caches p c ≡ (if b then [] else titles_in s.caches p c) → titles_in now.caches p c ≡ []
    go true is kept = kept
    go false is kept = none_past o now p c run sees still (let high : s.partitions ≤ p = grind (arith, nat_tests) in omega arith)

-- ---- the op

pub purge_does : (line slots : ℕ) (s now : StockValue) → IsStock s → IsStock now → Purging line s.partitions slots s now →
    DoesOp line ops.Purge (answers.Purged slots) s now
purge_does line slots s now is still some =
    entered_does s now line ops.Purge (answers.Purged slots) some.stretch some.same.0 some.same.1 some.plain some.version some.enters
    (λ t alone.
    let free : 0 < free_of now.view t = subst (λ n. 0 < n) (sym (some.frees t alone.off)) alone.free in (
      record { free = free; off = still_off line s.partitions slots s now some t alone.off; well = alone.well },
      some.numbers alone.well.0 t alone.well.1 free,
    ))
    (λ phase. (purge_says line slots phase some.stretch (purged_acts s) s now enters).0)
    (λ phase o run many rules sees here.
    let acts : (p : ℕ) → p < o.partitions → acts_of o.roots line p ≡ purge_acts (listed_in s p) 0 170 =
    λ p low.
    here.here p (let few = run.few in omega arith)
    ∙ (purge_says line slots phase some.stretch (purged_acts s) s now enters).1 p
    ∙ purged_at s p (subst (λ n. p < n) many low) in (
      some.signs
          ∙ ap (λ n. flat_map (λ p. flat_map (act_signs line p) (purge_acts (listed_in s p) 0 170)) (range_with_len 0 n)) (sym many)
          ∙ range_same (λ p. flat_map (act_signs line p) (purge_acts (listed_in s p) 0 170))
          (λ p. flat_map (act_signs line p) (acts_of o.roots line p)) 0 o.partitions
          (λ p low. ap (flat_map (act_signs line p)) (sym (acts p (let below : p < o.partitions = omega arith in below)))),
      (
        acts,
        subst (λ n. slots ≡ all_listed (listed_in s) 0 n) (sym many) total,
        λ p c. ap (numbered_by now.view) (none_listed line slots s now still some o run many sees p c),
      ),
    ))
  where
    enters : PurgeEnters line some.stretch (purged_acts s) s now
    enters = record {
      says = purged_says line slots s now some;
      each = purged_each s;
      past = purged_past s 4 is.partitions;
      homes = λ p past. inl (purged_past s p past);
      quiet = some.quiet;
      uncut = some.uncut;
      registers = some.same.2;
    }

    total : slots ≡ all_listed (listed_in s) 0 s.partitions
    total =
        let e : s.partitions - s.partitions ≡ 0 = omega arith in
        let f : all_listed (listed_in s) s.partitions (s.partitions - s.partitions) ≡ 0 = ap (all_listed (listed_in s) s.partitions) e in
        let h = some.count in
        omega arith
