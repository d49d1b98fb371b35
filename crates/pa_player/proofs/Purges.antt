-- A purge: all lists of a thread go back, partition by partition.
use Rattle.std.proofs.Common.{◌≡◌, ℕ, zero, suc, ◌+◌, ◌-◌, ◌*◌, ◌<◌, ◌≤◌, inl, inr, List, [], ◌∷◌, ◌++◌, map, length, set, refl, sym, ap, ◌∙◌, subst, arith, length-set, append_assoc}
use Rattle.std.specs.Prelude.{Contains}
use Rattle.std.proofs.Math.Nat.{mul-zero}
use Rattle.std.proofs.lemmas.Bool.{cases_eq}
use Rattle.std.proofs.lemmas.List.{get_or-set_same, get_or-set_other, length-map}
use Rattle.pa_buckets.specs.Table.{slot_of}
use Rattle.pa_record.specs.declared.numbered.Numbered.{Numbered}
use Rattle.pa_record.specs.declared.root.RootAct.{RootAct}
use Rattle.pa_record.specs.declared.root.RootAct.TheVariants.{Purge}
use Rattle.pa_lists.proofs.Members.{not_in_none}
use Rattle.pa_rules.specs.Caches.{with_list, with_cache, gives, purge_acts}
use Rattle.pa_heap_effects.specs.Ops.{all_of}
use Rattle.pa_player.specs.Player.{Player}
use Rattle.pa_player.specs.Tables.{slot_at}
use Rattle.pa_player.specs.Tallies.{tally_at}
use Rattle.pa_player.specs.Playing.{caches, numbered_at, list_place, list_at, AreShaped, rules_at}
use Rattle.pa_player.specs.Changes.{list_in, given, bytes_at}
use Rattle.pa_player.proofs.OneList.{caches_here, caches_listed, place_below}
use Rattle.pa_player.proofs.Shaping.{shaped_listed, shaped_cached, shaped_told, shaped_heap}
use Rattle.pa_player.proofs.Changing.{AreCounted, retallied_set, counted_changed, list_within}
use Rattle.pa_player.proofs.Returning.{IsBackIn, gave_back_in}
use Rattle.pa_player.proofs.Spilling.{bytes_alike}
use Rattle.pa_rules.proofs.Versions.{real_in}
use Rattle.pa_rules.specs.Sizes.{HasClass}

-- What gives back leaves as it is, and what holds of the lists then.
pub record IsGiving (partitions threads : ℕ) (p m : Player) : Type 0 where
  pub table : m.table ≡ p.table
  pub registers : m.registers ≡ p.registers
  pub cells : m.cells ≡ p.cells
  pub live : m.live ≡ p.live
  pub quarantined : m.quarantined ≡ p.quarantined
  pub rules : rules_at m ≡ rules_at p
  pub phase : m.phase ≡ p.phase
  pub many : m.partitions ≡ p.partitions
  pub entries : m.told.entries ≡ p.told.entries
  pub pools : m.told.pools ≡ p.told.pools
  pub histories : m.told.histories ≡ p.told.histories
  pub report : m.told.report ≡ p.told.report
  pub line : m.told.line ≡ p.told.line
  pub pool : m.heap.pool ≡ p.heap.pool
  pub shaped : AreShaped partitions threads m
  pub counted : AreCounted partitions threads m

-- each slot of a list has the length of its class
abbrev pub AreLong : ℕ → ℕ → Player → Type 0
AreLong partitions threads p = (t q class i : ℕ) → t < threads → q < partitions → HasClass p.version class →
    Contains (list_at p t q class) i → (slot_at p.table i).title.len ≡ slot_of class

-- One list of a thread went back: the player was m, and is r.
pub record IsListGiven (partitions threads thread q class : ℕ) (m r : Player) : Type 0 where
  pub giving : IsGiving partitions threads m r
  pub back : IsBackIn m r m.told.line q (caches m thread q class)
  pub lists : (t k c : ℕ) → caches r t k c ≡ with_cache (caches m) thread (with_list (caches m thread) q class []) t k c
  pub long : AreLong partitions threads r

module _ (partitions threads thread q class : ℕ) (m : Player) (below : thread < threads) (low : q < partitions)
    (real : HasClass m.version class) (shaped : AreShaped partitions threads m)
    (counted : AreCounted partitions threads m) (long : AreLong partitions threads m) where
  abbrev at : ℕ
  at = list_place m.version m.partitions thread q class

  abbrev list : List ℕ
  list = list_in m at

  abbrev after : Player
  after = given q at 0 m

  inner : q < m.partitions
  inner = subst (λ z. q < z) (sym shaped.many) low

  room : at < length m.caches
  room =
      subst (λ z. list_place m.version z thread q class < length m.caches) (sym shaped.many)
      (let b = place_below m.version partitions threads thread q class below low real in let c = shaped.lists in omega arith)

  cached_is : caches m thread q class ≡ map (numbered_at m.table) list
  cached_is = caches_here m thread q class inner real

  given_back : IsBackIn m after m.told.line q (caches m thread q class)
  given_back =
      let b = gave_back_in m q list (let a = shaped.journals in omega arith) (let a = shaped.roots in omega arith) in
      let as_gave : IsBackIn m after m.told.line q (map (numbered_at m.table) list) = record {
        entries = refl;
        report = refl;
        line = refl;
        rules = refl;
        phase = refl;
        pools = refl;
        histories = refl;
        pool = refl;
        here = b.here;
        there = b.there;
        journals = b.journals;
      } in
      subst (λ xs. IsBackIn m after m.told.line q xs) (sym cached_is) as_gave

  given_lists : (t k c : ℕ) → caches after t k c ≡ with_cache (caches m) thread (with_list (caches m thread) q class []) t k c
  given_lists t k c = caches_listed m thread q class [] inner real room t k c

  tallies : (length list ≤ (tally_at m.cached.of q).slots) × (slot_of class * length list ≤ (tally_at m.cached.of q).bytes)
  tallies =
      let within = list_within (caches m) threads thread q class below (real_in m.version class real) in
      let e : length (caches m thread q class) ≡ length list = ap length cached_is ∙ length-map list (numbered_at m.table) in
      let f : slot_of class * length (caches m thread q class) ≡ slot_of class * length list = ap (λ k. slot_of class * k) e in
      let a = counted.many q low in
      let b = counted.bytes q low in
      (let c = within.0 in omega arith, let c = within.1 in omega arith)

  given_counted : AreCounted partitions threads after
  given_counted =
      let bytes : bytes_at m.table list ≡ slot_of class * length list =
      bytes_alike m.table list (slot_of class) (λ j among. long thread q class j below low real among) in
      let e : length (caches m thread q class) ≡ length list = ap length cached_is ∙ length-map list (numbered_at m.table) in
      let f : slot_of class * length (caches m thread q class) ≡ slot_of class * length list = ap (λ k. slot_of class * k) e in
      let g = mul-zero (slot_of class) in
      let a = tallies.0 in
      let b = tallies.1 in
      counted_changed partitions threads thread q class m after [] below (real_in m.version class real) counted given_lists
      (retallied_set q (length (caches m thread q class)) 0 (slot_of class * length (caches m thread q class))
      (slot_of class * 0) m.cached.of
      (record { slots = (tally_at m.cached.of q).slots - length list; bytes = (tally_at m.cached.of q).bytes - bytes_at m.table list })
      (let c = shaped.cached in let d = shaped.four in omega arith) (omega arith) (omega arith))

  given_shaped : AreShaped partitions threads after
  given_shaped =
      let p1 : Player = record m { caches = set m.caches at [] } in
      let s1 = shaped_listed partitions threads m shaped thread q class [] below low real (λ j among. absurd (not_in_none j among))
      (omega arith) in
      let s2 = shaped_cached partitions threads p1 s1 after.cached.of (length-set m.cached.of q _ ∙ shaped.cached) in
      let p2 : Player = record p1 { cached = after.cached } in
      let s3 = shaped_told partitions threads p2 s2 after.told (length-set m.told.journals q _) refl in
      shaped_heap partitions threads (record p2 { told = after.told }) s3 after.heap.pool after.heap.roots (length-set m.heap.roots q _)

  given_long : AreLong partitions threads after
  given_long t k c i below' low' real' among = elim (cases_eq (list_place m.version m.partitions t k c) at) [
    | inl e ↦
        let gone : list_at after t k c ≡ [] = ap (λ z. list_in after z) e ∙ get_or-set_same m.caches at [] [] room in
        absurd (not_in_none i (subst (λ z. Contains z i) gone among))
    | inr ne ↦ long t k c i below' low' real'
        (subst (λ z. Contains z i) (get_or-set_other m.caches at (list_place m.version m.partitions t k c) [] [] ne) among)
  ]

  pub list_given : IsListGiven partitions threads thread q class m (given q (list_place m.version m.partitions thread q class) 0 m)
  list_given = record {
    giving = record {
      table = refl;
      registers = refl;
      cells = refl;
      live = refl;
      quarantined = refl;
      rules = refl;
      phase = refl;
      many = refl;
      entries = refl;
      pools = refl;
      histories = refl;
      report = refl;
      line = refl;
      pool = refl;
      shaped = given_shaped;
      counted = given_counted;
    };
    back = given_back;
    lists = given_lists;
    long = given_long;
  }

-- ---- the lists of some classes

-- gives of the lists of some classes
abbrev pub all_gives : (ℕ → List Numbered) → ℕ → ℕ → List RootAct
all_gives lists class zero = []
all_gives lists class (suc k) = gives (lists class) ++ all_gives lists (class + 1) k

pub gives_same : (lists others : ℕ → List Numbered) (class k : ℕ) → ((c : ℕ) → class ≤ c → others c ≡ lists c) →
    all_gives others class k ≡ all_gives lists class k
gives_same lists others class zero same = refl
gives_same lists others class (suc k) same =
    ap (λ z. gives z ++ all_gives others (class + 1) k) (same class (omega arith)) ∙
    ap (λ z. gives (lists class) ++ z) (gives_same lists others (class + 1) k (λ c past. same c (omega arith)))

pub all_same : (lists others : ℕ → List Numbered) (class k : ℕ) → ((c : ℕ) → class ≤ c → others c ≡ lists c) →
    all_of others class k ≡ all_of lists class k
all_same lists others class zero same = refl
all_same lists others class (suc k) same =
    ap (λ z. z ++ all_of others (class + 1) k) (same class (omega arith)) ∙
    ap (λ z. lists class ++ z) (all_same lists others (class + 1) k (λ c past. same c (omega arith)))

pub gives_purge : (lists : ℕ → List Numbered) (class k : ℕ) → all_gives lists class k ++ Purge ∷ [] ≡ purge_acts lists class k
gives_purge lists class zero = refl
gives_purge lists class (suc k) = append_assoc (gives (lists class)) (all_gives lists (class + 1) k) (Purge ∷ []) ∙
    ap (λ z. gives (lists class) ++ z) (gives_purge lists (class + 1) k)

pub giving_then : (partitions threads : ℕ) (a b c : Player) → IsGiving partitions threads a b → IsGiving partitions threads b c →
    IsGiving partitions threads a c
giving_then partitions threads a b c h g = record {
  table = g.table ∙ h.table;
  registers = g.registers ∙ h.registers;
  cells = g.cells ∙ h.cells;
  live = g.live ∙ h.live;
  quarantined = g.quarantined ∙ h.quarantined;
  rules = g.rules ∙ h.rules;
  phase = g.phase ∙ h.phase;
  many = g.many ∙ h.many;
  entries = g.entries ∙ h.entries;
  pools = g.pools ∙ h.pools;
  histories = g.histories ∙ h.histories;
  report = g.report ∙ h.report;
  line = g.line ∙ h.line;
  pool = g.pool ∙ h.pool;
  shaped = g.shaped;
  counted = g.counted;
}
