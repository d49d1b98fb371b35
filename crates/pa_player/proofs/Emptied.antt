-- The lists of a thread in some classes, in a partition and in some partitions went back.
use Rattle.std.proofs.Common.{◌≡◌, ℕ, zero, suc, ◌+◌, ◌<◌, ◌≤◌, inl, inr, List, [], ◌∷◌, ◌++◌, length, refl, sym, ap, subst, ◌∙◌, arith, length-set, append_assoc}
use Rattle.std.proofs.lemmas.Bool.{cases_eq, cases_lt}
use Rattle.std.proofs.lemmas.List.{append-nil, map-append}
use Rattle.pa_record.specs.declared.root.RootEntry.{RootEntry}
use Rattle.pa_record.specs.declared.root.RootAct.{RootAct}
use Rattle.pa_record.specs.declared.root.RootAct.TheVariants.{Purge}
use Rattle.pa_record.specs.Root.{names, all_returned, purged}
use Rattle.pa_rules.specs.Roots.{Journals}
use Rattle.pa_rules.specs.Caches.{with_list, gives, purge_acts}
use Rattle.pa_rules.proofs.Counted.{list_changed, list_of_another_class}
use Rattle.pa_heap_effects.specs.Deeds.{entries_at, grown}
use Rattle.pa_heap_effects.specs.Ops.{only_in, all_of}
use Rattle.pa_heap_effects.proofs.Acting.{only_here, only_else}
use Rattle.pa_heap_effects.proofs.Lists.{names_append, parts_are_out}
use Rattle.pa_player.specs.Player.{Player}
use Rattle.pa_player.specs.Playing.{journals, caches, list_place, root_of, AreShaped}
use Rattle.pa_player.specs.Changes.{given, given_from, purged_with, given_all}
use Rattle.pa_player.proofs.OneList.{with_cache_here, with_other, caches_none}
use Rattle.pa_player.proofs.Shaping.{shaped_told, shaped_heap}
use Rattle.pa_player.proofs.Changing.{journals_acted, root_here, root_there, AreCounted}
use Rattle.pa_player.proofs.Returning.{none_back}
use Rattle.pa_player.proofs.Purges.{IsGiving, AreLong, list_given, all_gives, gives_same, all_same, gives_purge, giving_then}
use Rattle.pa_buckets.specs.Limits.{first_class}
use Rattle.pa_buckets.specs.Limits.{past_class}
use Rattle.pa_player.proofs.Purging.{given_version}
use Rattle.pa_rules.proofs.Versions.{class_cases}
use Rattle.pa_rules.proofs.Versions.{class_end}
use Rattle.pa_rules.specs.Sizes.{HasClass}
use Rattle.pa_rules.specs.Sizes.{class_total}

-- acts of one partition after others of it
pub grown_twice : (base : Journals) (line q : ℕ) (a b : List RootAct) (j : ℕ) → grown base line (only_in q a) j ++
    entries_at line (only_in q b j) ≡ grown base line (only_in q (a ++ b)) j
grown_twice base line q a b j = elim (cases_eq j q) [
  | inl e ↦
      let E : List RootAct → List RootEntry = entries_at line in
      let x : only_in q a j ≡ a = ap (only_in q a) e ∙ only_here q a in
      let y : only_in q b j ≡ b = ap (only_in q b) e ∙ only_here q b in
      let z : only_in q (a ++ b) j ≡ a ++ b = ap (only_in q (a ++ b)) e ∙ only_here q (a ++ b) in
      ap (λ w. (base j ++ E w) ++ E (only_in q b j)) x ∙ ap (λ w. (base j ++ E a) ++ E w) y ∙ append_assoc (base j) (E a) (E b)
      ∙ ap (λ w. base j ++ w) (sym (map-append (λ (act : RootAct). record { line = line; act = act }) a b)) ∙
      ap (λ w. base j ++ E w) (sym z)
  | inr ne ↦
      let E : List RootAct → List RootEntry = entries_at line in
      ap (λ w. (base j ++ E w) ++ E (only_in q b j)) (only_else q j a ne) ∙ ap (λ w. (base j ++ []) ++ E w) (only_else q j b ne)
      ∙ append-nil (base j ++ []) ∙ ap (λ w. base j ++ E w) (sym (only_else q j (a ++ b) ne))
]

-- what is needed of a player that gives back
pub record CanGiveBack (partitions threads : ℕ) (m : Player) : Type 0 where
  pub shaped : AreShaped partitions threads m
  pub counted : AreCounted partitions threads m
  pub long : AreLong partitions threads m

pub giving_none : (partitions threads : ℕ) (m : Player) → CanGiveBack partitions threads m → IsGiving partitions threads m m
giving_none partitions threads m can = record {
  table = refl;
  registers = refl;
  cells = refl;
  live = refl;
  quarantined = refl;
  rules = refl;
  phase = refl;
  many = refl;
  entries = refl;
  pools = refl;
  histories = refl;
  report = refl;
  line = refl;
  pool = refl;
  shaped = can.shaped;
  counted = can.counted;
}

-- The lists of k classes from one on went back to the root of partition q.
pub record AreGiven (partitions threads thread q class k : ℕ) (m r : Player) : Type 0 where
  pub giving : IsGiving partitions threads m r
  pub here : root_of r q ≡ all_returned (names (all_of (caches m thread q) class k)) (root_of m q)
  pub there : (j : ℕ) → (j ≡ q → ⊥) → root_of r j ≡ root_of m j
  pub gone : (c : ℕ) → class ≤ c → c < class + k → caches r thread q c ≡ []
  pub kept : (t j c : ℕ) → (t ≡ thread → j ≡ q → class ≤ c → c < class + k → ⊥) → caches r t j c ≡ caches m t j c
  pub long : AreLong partitions threads r
  pub journals : (j : ℕ) → journals r j ≡ grown (journals m) m.told.line (only_in q (all_gives (caches m thread q) class k)) j

pub are_given : (partitions threads thread q class k : ℕ) (m : Player) → thread < threads → q < partitions → first_class m.version ≤ class
    → class + k ≤ past_class m.version → CanGiveBack partitions threads m
    → AreGiven partitions threads thread q class k m (given_from thread q class k m)
unfolding given_from
are_given partitions threads thread q class zero m below low from fits can = record {
  giving = giving_none partitions threads m can;
  here = refl;
  there = λ j ne. refl;
  gone = λ c past more. absurd (omega arith);
  kept = λ t j c other. refl;
  long = can.long;
  journals = (none_back m m.told.line q).journals;
}
are_given partitions threads thread q class (suc k) m below low from fits can =
    let m1 = given q (list_place m.version m.partitions thread q class) 0 m in
    let one = list_given partitions threads thread q class m below low (from, omega arith) can.shaped can.counted can.long in
    let rest = are_given partitions threads thread q (class + 1) k m1 below low (omega arith) (omega arith)
    (record { shaped = one.giving.shaped; counted = one.giving.counted; long = one.long }) in
    let list_there : (c : ℕ) → (c ≡ class → ⊥) → caches m1 thread q c ≡ caches m thread q c = λ c ne.
    one.lists thread q c ∙ with_cache_here (caches m) thread (with_list (caches m thread) q class []) q c ∙
    list_of_another_class (caches m thread) q class [] c ne in
    let same : (c : ℕ) → class + 1 ≤ c → caches m1 thread q c ≡ caches m thread q c = λ c past. list_there c (λ e. omega arith) in
    let lists = caches m thread q in
    record {
      giving = giving_then partitions threads m m1 (given_from thread q (class + 1) k m1) one.giving rest.giving;
      here =
          rest.here ∙ ap (λ z. all_returned (names z) (root_of m1 q)) (all_same lists (caches m1 thread q) (class + 1) k same)
          ∙ ap (all_returned (names (all_of lists (class + 1) k))) one.back.here
          ∙ sym (parts_are_out.joined (root_of m q) (names (lists class)) (names (all_of lists (class + 1) k)))
          ∙ ap (λ ns. all_returned ns (root_of m q)) (sym (names_append (lists class) (all_of lists (class + 1) k)));
      there = λ j ne. rest.there j ne ∙ one.back.there j ne;
      gone = λ c past more. elim (cases_eq c class) [
        | inl e ↦
            let first : caches (given_from thread q (class + 1) k m1) thread q c ≡ caches m1 thread q c =
            rest.kept thread q c (λ _ _ a _. omega arith) in
            let none : caches m1 thread q class ≡ [] = one.lists thread q class
            ∙ with_cache_here (caches m) thread (with_list (caches m thread) q class []) q class
            ∙ list_changed (caches m thread) q class [] in
            first ∙ ap (caches m1 thread q) e ∙ none
        | inr ne ↦ rest.gone c (omega arith) (omega arith)
      ];
      kept = λ t j c other.
          rest.kept t j c (λ a b past more. other a b (omega arith) (omega arith))
          ∙ one.lists t j c ∙ with_other (caches m) thread q class [] t j c (λ a b e. other a b (omega arith) (omega arith));
      long = rest.long;
      journals = λ j.
          rest.journals j
          ∙ ap (λ acts. grown (journals m1) m.told.line (only_in q acts) j) (gives_same lists (caches m1 thread q) (class + 1) k same)
          ∙ ap (λ es. es ++ entries_at m.told.line (only_in q (all_gives lists (class + 1) k) j)) (one.back.journals j)
          ∙ grown_twice (journals m) m.told.line q (gives (lists class)) (all_gives lists (class + 1) k) j;
    }

-- A partition was purged.
pub record IsPurged (partitions threads thread q : ℕ) (m r : Player) : Type 0 where
  pub giving : IsGiving partitions threads m r
  pub here : root_of r q ≡ purged
      (all_returned (names (all_of (caches m thread q) (first_class m.version) (class_total m.version))) (root_of m q))
  pub there : (j : ℕ) → (j ≡ q → ⊥) → root_of r j ≡ root_of m j
  pub gone : (c : ℕ) → caches r thread q c ≡ []
  pub kept : (t j c : ℕ) → (t ≡ thread → j ≡ q → ⊥) → caches r t j c ≡ caches m t j c
  pub long : AreLong partitions threads r
  pub journals : (j : ℕ) →
      journals r j ≡ grown (journals m) m.told.line
      (only_in q (purge_acts (caches m thread q) (first_class m.version) (class_total m.version))) j

pub is_purged : (partitions threads thread q : ℕ) (m : Player) → thread < threads → q < partitions → CanGiveBack partitions threads m
    → IsPurged partitions threads thread q m (purged_with q (given_all thread q m))
is_purged partitions threads thread q m below low can =
    let first = first_class m.version in
    let total = class_total m.version in
    let end = class_end m.version in
    let g = are_given partitions threads thread q first total m below low (omega arith) (omega arith) can in
    let m1 = given_all thread q m in
    let version : m1.version ≡ m.version = given_version thread q first total m in
    let r = purged_with q m1 in
    let journals_low : q < length m1.told.journals = let a = g.giving.shaped.journals in omega arith in
    let roots_low : q < length m1.heap.roots = let a = g.giving.shaped.roots in omega arith in
    let lists = caches m thread q in
    record {
      giving = record {
        table = g.giving.table;
        registers = g.giving.registers;
        cells = g.giving.cells;
        live = g.giving.live;
        quarantined = g.giving.quarantined;
        rules = g.giving.rules;
        phase = g.giving.phase;
        many = g.giving.many;
        entries = g.giving.entries;
        pools = g.giving.pools;
        histories = g.giving.histories;
        report = g.giving.report;
        line = g.giving.line;
        pool = g.giving.pool;
        shaped = shaped_told partitions threads (record m1 { heap = r.heap })
            (shaped_heap partitions threads m1 g.giving.shaped r.heap.pool r.heap.roots (length-set m1.heap.roots q _)) r.told
            (length-set m1.told.journals q _) refl;
        counted = record { many = g.giving.counted.many; bytes = g.giving.counted.bytes };
      };
      here = root_here m1.heap.roots q (purged (root_of m1 q)) roots_low ∙ ap purged g.here;
      there = λ j ne. root_there m1.heap.roots q j (purged (root_of m1 q)) ne ∙ g.there j ne;
      gone = λ c. elim (class_cases m.version c) [
        | inl real ↦ g.gone c real.0 (let past = real.1 in omega arith)
        | inr none ↦ caches_none m1 thread q c (λ _ b. none (subst (λ v. HasClass v c) version b))
      ];
      kept = λ t j c other. g.kept t j c (λ a b _ _. other a b);
      long = g.long;
      journals = λ j.
          journals_acted m1.told.journals q m1.told.line (Purge ∷ []) journals_low j
          ∙ ap (λ line. grown (journals m1) line (only_in q (Purge ∷ [])) j) g.giving.line
          ∙ ap (λ es. es ++ entries_at m.told.line (only_in q (Purge ∷ []) j)) (g.journals j)
          ∙ grown_twice (journals m) m.told.line q (all_gives lists first total) (Purge ∷ []) j
          ∙ ap (λ acts. grown (journals m) m.told.line (only_in q acts) j) (gives_purge lists first total);
    }
