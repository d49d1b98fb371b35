-- Journals, roots, lists and their tallies after parts of an op.
use Rattle.std.proofs.Common.{◌≡◌, ℕ, ◌+◌, ◌*◌, ◌<◌, ◌≤◌, inl, inr, List, [], ◌++◌, map, length, set, refl, sym, ap, ◌∙◌, subst, arith, ap₂}
use Rattle.std.specs.Prelude.{slice_index_or}
use Rattle.std.proofs.lemmas.Bool.{cases_eq, cases_lt, eq-eqb, ne_eqb}
use Rattle.std.proofs.lemmas.List.{get_or-set_same, get_or-set_other, append-nil}
use Rattle.pa_buckets.specs.Table.{slot_of}
use Rattle.pa_record.specs.declared.numbered.Numbered.{Numbered}
use Rattle.pa_record.specs.declared.pool.PoolEntry.{PoolEntry}
use Rattle.pa_record.specs.declared.root.RootEntry.{RootEntry}
use Rattle.pa_record.specs.declared.root.RootAct.{RootAct}
use Rattle.pa_record.specs.Pool.{PoolState}
use Rattle.pa_record.specs.Root.{Root, new_root}
use Rattle.pa_record.specs.Sound.{IsBornBelow}
use Rattle.pa_record.proofs.Mapping.{born_more}
use Rattle.pa_rules.specs.declared.played.Played.{Played}
use Rattle.pa_rules.specs.Roots.{journal_at}
use Rattle.pa_rules.specs.Caches.{Cache, Caches, with_list, with_cache}
use Rattle.pa_rules.specs.Report.{cached_slots, cached_bytes}
use Rattle.pa_rules.proofs.Counted.{list_changed}
use Rattle.pa_heap_effects.specs.Deeds.{entries_at, grown, root_at}
use Rattle.pa_heap_effects.specs.Ops.{only_in, IsCalled}
use Rattle.pa_heap_effects.proofs.Acting.{by_place}
use Rattle.pa_player.specs.Player.{Player}
use Rattle.pa_record.specs.declared.report.Tally.{Tally}
use Rattle.pa_rules.specs.Lists.{no_tally}
use Rattle.pa_player.specs.Tallies.{tally_at}
use Rattle.pa_player.specs.Playing.{journals, caches, root_of, numbered_at, list_place, list_at}
use Rattle.pa_player.proofs.OneList.{same_place, caches_here, caches_none, with_cache_here, IsOther, list_cases, with_other}
use Rattle.pa_player.proofs.Counting.{cached_slots_set, cached_bytes_set, cached_slots_same, cached_bytes_same}
use Rattle.pa_player.proofs.Shows.{HasHeap}
use Rattle.pa_rules.proofs.Versions.{class_cases}
use Rattle.pa_rules.specs.Sizes.{HasClass}

-- ---- journals

-- the journals with acts of one partition
pub journals_acted : (js : List (List RootEntry)) (q line : ℕ) (acts : List RootAct) → q < length js → (k : ℕ)
    → journal_at (set js q (slice_index_or js q [] ++ entries_at line acts)) k ≡ grown (journal_at js) line (only_in q acts) k
journals_acted js q line acts low k =
    let new = slice_index_or js q [] ++ entries_at line acts in
    by_place (λ j bs. journal_at (set js q new) j ≡ journal_at js j ++ entries_at line bs) q acts
    (get_or-set_same js q new [] low)
    (λ j ne. get_or-set_other js q j new [] ne ∙ sym (append-nil (journal_at js j)))
    k

-- what holds of the acts of a partition, and of none, holds of those of one partition in each
pub of_only : (P : List RootAct → Type 0) (q : ℕ) (acts : List RootAct) → P acts → P [] → (k : ℕ) → P (only_in q acts k)
of_only P q acts here none k = by_place (λ j bs. P bs) q acts here (λ j ne. none) k

-- ---- roots

pub root_here : (rs : List Root) (q : ℕ) (r : Root) → q < length rs → slice_index_or (set rs q r) q new_root ≡ r
root_here rs q r low = get_or-set_same rs q r new_root low

pub root_there : (rs : List Root) (q k : ℕ) (r : Root) → (k ≡ q → ⊥) → slice_index_or (set rs q r) k new_root ≡ slice_index_or rs k new_root
root_there rs q k r ne = get_or-set_other rs q k r new_root ne

-- the roots and the pool after a call of one root
pub heap_called : (region partitions n : ℕ) (x : Played) (p m : Player) (more : List PoolEntry) (q : ℕ) (acts : List RootAct)
    (cache next : Cache) (after : Root) (plan : PoolState)
    → IsCalled region partitions n x p.told.pools more (journals p) q acts cache next after plan
    → ((k : ℕ) → root_of p k ≡ root_at p.told.pools (journals p) k)
    → root_of m q ≡ after → ((k : ℕ) → (k ≡ q → ⊥) → root_of m k ≡ root_of p k) → m.heap.pool ≡ plan
    → after.turn ≤ (root_of p q).turn + 32768 → p.heap.pool.entries ≤ plan.entries → IsBornBelow plan.entries after →
    ((k : ℕ) → IsBornBelow p.heap.pool.entries (root_of p k))
    → HasHeap region p m n more (only_in q acts)
heap_called region partitions n x p m more q acts cache next after plan called roots here there set_pool turn entries born olds = record {
  roots = each (λ r j. r ≡ root_at (p.told.pools ++ more) (grown (journals p) n (only_in q acts)) j) (sym called.root)
      (λ j ne. roots j ∙ sym (called.others j ne));
  plan = set_pool ∙ sym called.pool;
  turns = each (λ r j. r.turn ≤ (root_of p j).turn + 32768) turn (λ j ne. omega arith);
  born = λ k. subst (λ (z : PoolState). IsBornBelow z.entries (root_of m k)) (sym set_pool)
      (each (λ r j. IsBornBelow plan.entries r) born (λ j ne. born_more p.heap.pool.entries plan.entries (root_of p j) entries (olds j)) k);
}
  where
    each : (P : Root → ℕ → Type 0) → P after q → ((k : ℕ) → (k ≡ q → ⊥) → P (root_of p k) k) → (k : ℕ) → P (root_of m k) k
    each P old new k = elim (cases_eq k q) [
      | inl e ↦ subst (λ j. P (root_of m j) j) (sym e) (subst (λ r. P r q) (sym here) old)
      | inr ne ↦ subst (λ r. P r k) (sym (there k ne)) (new k ne)
    ]

-- ---- lists

-- One list is another then, and the others show the same.
pub caches_changed : (p m : Player) (t q class : ℕ) (xs : List ℕ) → m.version ≡ p.version → m.partitions ≡ p.partitions → q < p.partitions →
    HasClass p.version class
    → list_at m t q class ≡ xs
    → ((u k c : ℕ) → k < p.partitions → HasClass p.version c → IsOther t q class u k c →
    map (numbered_at m.table) (list_at m u k c) ≡ map (numbered_at p.table) (list_at p u k c))
    → (u k c : ℕ) → caches m u k c ≡ with_cache (caches p) t (with_list (caches p t) q class (map (numbered_at m.table) xs)) u k c
caches_changed p m t q class xs version same low real here others u k c =
    let new = map (numbered_at m.table) xs in
    let next = with_list (caches p t) q class new in
    elim (list_cases t q class u k c) [
      | inl (a, b, d) ↦
          let P : ℕ → ℕ → ℕ → Type 0 = λ x y z. caches m x y z ≡ with_cache (caches p) t next x y z in
          let left : caches m t q class ≡ new =
          caches_here m t q class (subst (λ z. q < z) (sym same) low) (subst (λ v. HasClass v class) (sym version) real) ∙
          ap (map (numbered_at m.table)) here in
          let right : with_cache (caches p) t next t q class ≡ new = with_cache_here (caches p) t next q class ∙
          list_changed (caches p t) q class new in
          subst (λ x. P x k c) (sym a) (subst (λ y. P t y c) (sym b) (subst (λ z. P t q z) (sym d) (left ∙ sym right)))
      | inr other ↦ kept other ∙ sym (with_other (caches p) t q class new u k c other)
    ]
  where
    kept : IsOther t q class u k c → caches m u k c ≡ caches p u k c
    kept other = elim (cases_lt k p.partitions) [
      | inl inside ↦ elim (class_cases p.version c) [
        | inl within ↦ caches_here m u k c (subst (λ z. k < z) (sym same) inside) (subst (λ v. HasClass v c) (sym version) within)
            ∙ others u k c inside within other ∙ sym (caches_here p u k c inside within)
        | inr none ↦ caches_none m u k c (λ _ b. none (subst (λ v. HasClass v c) version b)) ∙ sym (caches_none p u k c (λ _ b. none b))
      ]
      | inr past ↦ caches_none m u k c (λ a _. omega arith) ∙ sym (caches_none p u k c (λ a _. omega arith))
    ]

-- a place of the caches that was set is that of no other list
pub other_list : (p m : Player) (t q class u k c : ℕ) (xs : List ℕ) → m.version ≡ p.version → m.partitions ≡ p.partitions
    → m.caches ≡ set p.caches (list_place p.version p.partitions t q class) xs → q < p.partitions → HasClass p.version class
    → k < p.partitions → HasClass p.version c → IsOther t q class u k c → list_at m u k c ≡ list_at p u k c
other_list p m t q class u k c xs version same is low real inside within other =
    let at = list_place p.version p.partitions t q class in
    let apart : list_place p.version p.partitions u k c ≡ at →
    ⊥ = λ e. let (x, y, z) = same_place p.version p.partitions u k c t q class inside low within real e in other x y z in
    ap₂ (λ v n. slice_index_or m.caches (list_place v n u k c) []) version same
    ∙ ap (λ zs. slice_index_or zs (list_place p.version p.partitions u k c) []) is
    ∙ get_or-set_other p.caches at (list_place p.version p.partitions u k c) xs [] apart

pub this_list : (p m : Player) (t q class : ℕ) (xs : List ℕ) → m.version ≡ p.version → m.partitions ≡ p.partitions →
    m.caches ≡ set p.caches (list_place p.version p.partitions t q class) xs
    → list_place p.version p.partitions t q class < length p.caches → list_at m t q class ≡ xs
this_list p m t q class xs version same is room =
    ap₂ (λ v n. slice_index_or m.caches (list_place v n t q class) []) version same
    ∙ ap (λ zs. slice_index_or zs (list_place p.version p.partitions t q class) []) is
    ∙ get_or-set_same p.caches (list_place p.version p.partitions t q class) xs [] room

-- ---- what is cached

-- the tallies of what is cached are those of the lists
pub record AreCounted (partitions threads : ℕ) (p : Player) : Type 0 where
  pub many : (k : ℕ) → k < partitions → (tally_at p.cached.of k).slots ≡ cached_slots (caches p) k threads
  pub bytes : (k : ℕ) → k < partitions → (tally_at p.cached.of k).bytes ≡ cached_bytes (caches p) k threads

-- a list is no longer than all are together
pub list_within : (all : Caches) (threads t q class : ℕ) → t < threads → class < 170
    → (length (all t q class) ≤ cached_slots all q threads) × (slot_of class * length (all t q class) ≤ cached_bytes all q threads)
list_within all threads t q class below real =
    let a = cached_slots_set all threads t q class q [] below real in
    let b = cached_bytes_set all threads t q class q [] below real in
    (omega (arith, rw (eq-eqb q q refl) at a), omega (arith, rw (eq-eqb q q refl) at b))

-- the tally of partition q was changed: so much was in it, and so much is
pub record IsRetallied (q was now was_bytes now_bytes : ℕ) (before after : List Tally) : Type 0 where
  pub slots : (tally_at after q).slots + was ≡ (tally_at before q).slots + now
  pub bytes : (tally_at after q).bytes + was_bytes ≡ (tally_at before q).bytes + now_bytes
  pub others : (k : ℕ) → (k ≡ q → ⊥) → tally_at after k ≡ tally_at before k

-- One list was changed, and the tally of its partition by as much.
pub counted_changed : (partitions threads t q class : ℕ) (p m : Player) (new : List Numbered) → t < threads → class < 170 →
    AreCounted partitions threads p
    → ((u k c : ℕ) → caches m u k c ≡ with_cache (caches p) t (with_list (caches p t) q class new) u k c)
    → IsRetallied q (length (caches p t q class)) (length new) (slot_of class * length (caches p t q class))
    (slot_of class * length new) p.cached.of m.cached.of
    → AreCounted partitions threads m
counted_changed partitions threads t q class p m new below real h lists by = record {
  many = λ k low.
      let a = cached_slots_same (with_cache (caches p) t (with_list (caches p t) q class new)) (caches m) threads k lists in
      let b = cached_slots_set (caches p) threads t q class k new below real in
      let d = h.many k low in
      elim (cases_eq q k) [
        | inl e ↦
            let c : (tally_at m.cached.of k).slots + length (caches p t q class) ≡ (tally_at p.cached.of k).slots + length new =
            subst (λ z. (tally_at m.cached.of z).slots + length (caches p t q class) ≡ (tally_at p.cached.of z).slots + length new) e
            by.slots in
            let f : cached_slots (with_cache (caches p) t (with_list (caches p t) q class new)) k threads + length
            (caches p t q class) ≡ cached_slots (caches p) k threads + length new =
            rw (eq-eqb q k e) at b in
            omega (arith, a, f, c, d)
        | inr ne ↦
            let c : (tally_at m.cached.of k).slots ≡ (tally_at p.cached.of k).slots =
            ap (λ (z : Tally). z.slots) (by.others k (λ e. ne (sym e))) in
            let f : cached_slots (with_cache (caches p) t (with_list (caches p t) q class new)) k threads + 0 ≡ cached_slots
            (caches p) k threads + 0 = rw (ne_eqb q k ne) at b in
            omega (arith, a, f, c, d)
      ];
  bytes = λ k low.
      let a = cached_bytes_same (with_cache (caches p) t (with_list (caches p t) q class new)) (caches m) threads k lists in
      let b = cached_bytes_set (caches p) threads t q class k new below real in
      let d = h.bytes k low in
      elim (cases_eq q k) [
        | inl e ↦
            let c : (tally_at m.cached.of k).bytes + slot_of class * length
            (caches p t q class) ≡ (tally_at p.cached.of k).bytes + slot_of class * length new =
            subst (λ z. (tally_at m.cached.of z).bytes + slot_of class * length
            (caches p t q class) ≡ (tally_at p.cached.of z).bytes + slot_of class * length new) e by.bytes in
            let f : cached_bytes (with_cache (caches p) t (with_list (caches p t) q class new)) k threads + slot_of class * length
            (caches p t q class)
            ≡ cached_bytes (caches p) k threads + slot_of class * length new = rw (eq-eqb q k e) at b in
            omega (arith, a, f, c, d)
        | inr ne ↦
            let c : (tally_at m.cached.of k).bytes ≡ (tally_at p.cached.of k).bytes =
            ap (λ (z : Tally). z.bytes) (by.others k (λ e. ne (sym e))) in
            let f : cached_bytes (with_cache (caches p) t (with_list (caches p t) q class new)) k threads + 0 ≡ cached_bytes
            (caches p) k threads + 0 = rw (ne_eqb q k ne) at b in
            omega (arith, a, f, c, d)
      ];
}

-- a tally after one was set
pub retallied_set : (q was now was_bytes now_bytes : ℕ) (ts : List Tally) (new : Tally) → q < length ts →
    new.slots + was ≡ (tally_at ts q).slots + now
    → new.bytes + was_bytes ≡ (tally_at ts q).bytes + now_bytes → IsRetallied q was now was_bytes now_bytes ts (set ts q new)
retallied_set q was now was_bytes now_bytes ts new low a b =
    let here : tally_at (set ts q new) q ≡ new = get_or-set_same ts q new no_tally low in
    record {
      slots = ap (λ (z : Tally). z.slots + was) here ∙ a;
      bytes = ap (λ (z : Tally). z.bytes + was_bytes) here ∙ b;
      others = λ k ne. get_or-set_other ts q k new no_tally ne;
    }
