-- A purge of one partition leaves the others.
use Rattle.std.proofs.Common.{◌≡◌, ℕ, zero, suc, ◌+◌, ◌<◌, ◌≤◌, List, [], ◌++◌, map, length, refl, sym, ap, ap₂, ◌∙◌, subst, arith, length-set}
use Rattle.std.specs.List.{All}
use Rattle.std.proofs.lemmas.List.{get_or-set_other}
use Rattle.pa_buckets.specs.Limits.{first_class, past_class}
use Rattle.pa_record.specs.declared.report.Tally.{Tally}
use Rattle.pa_record.specs.Root.{Root, new_root}
use Rattle.pa_record.specs.Sound.{IsSound}
use Rattle.pa_rules.specs.Sizes.{HasClass, class_total}
use Rattle.pa_rules.proofs.Versions.{class_end}
use Rattle.pa_heap_effects.specs.Ops.{AreOut}
use Rattle.pa_player.specs.Player.{Player}
use Rattle.pa_player.specs.declared.table.Slot.{Slot}
use Rattle.pa_player.specs.Asks.{CanGive, CanPurgeOne, places_from, places_all}
use Rattle.pa_player.specs.Changes.{given, given_from, given_all, purged_with, list_in, bytes_at}
use Rattle.pa_player.specs.Playing.{list_place, numbered_at, root_of}
use Rattle.pa_rules.specs.Lists.{no_tally}
use Rattle.pa_player.specs.Tallies.{tally_at}
use Rattle.pa_player.specs.Told.{journal_in}
use Rattle.pa_player.proofs.OneList.{same_place}

-- what stays where one partition changes
pub record KeepsOthers (q : ℕ) (p r : Player) : Type 0 where
  pub version : r.version ≡ p.version
  pub many : r.partitions ≡ p.partitions
  pub table : r.table ≡ p.table
  pub roots : length r.heap.roots ≡ length p.heap.roots
  pub journals : length r.told.journals ≡ length p.told.journals
  pub caches : length r.caches ≡ length p.caches
  pub root : (k : ℕ) → (k ≡ q → ⊥) → root_of r k ≡ root_of p k
  pub journal : (k : ℕ) → (k ≡ q → ⊥) → journal_in r.told k ≡ journal_in p.told k
  pub cached : (k : ℕ) → (k ≡ q → ⊥) → tally_at r.cached.of k ≡ tally_at p.cached.of k
  pub tallies : length r.cached.of ≡ length p.cached.of
  pub lists : (t k class : ℕ) → (k ≡ q → ⊥) → k < p.partitions → HasClass p.version class
      → list_in r (list_place p.version p.partitions t k class) ≡ list_in p (list_place p.version p.partitions t k class)

keeps_itself : (q : ℕ) (p : Player) → KeepsOthers q p p
keeps_itself q p = record {
  version = refl;
  many = refl;
  table = refl;
  roots = refl;
  journals = refl;
  caches = refl;
  root = λ k ne. refl;
  journal = λ k ne. refl;
  cached = λ k ne. refl;
  tallies = refl;
  lists = λ t k class ne among few. refl;
}

keeps_after : (q : ℕ) (a b c : Player) → KeepsOthers q a b → KeepsOthers q b c → KeepsOthers q a c
keeps_after q a b c h g = record {
  version = g.version ∙ h.version;
  many = g.many ∙ h.many;
  table = g.table ∙ h.table;
  roots = g.roots ∙ h.roots;
  journals = g.journals ∙ h.journals;
  caches = g.caches ∙ h.caches;
  root = λ k ne. g.root k ne ∙ h.root k ne;
  journal = λ k ne. g.journal k ne ∙ h.journal k ne;
  cached = λ k ne. g.cached k ne ∙ h.cached k ne;
  tallies = g.tallies ∙ h.tallies;
  lists = λ t k class ne among few.
      ap₂ (λ v m. list_in c (list_place v m t k class)) (sym h.version) (sym h.many)
      ∙ g.lists t k class ne (subst (λ m. k < m) (sym h.many) among) (subst (λ v. HasClass v class) (sym h.version) few)
      ∙ ap₂ (λ v m. list_in b (list_place v m t k class)) h.version h.many ∙ h.lists t k class ne among few;
}

-- a list goes back
keeps_given : (thread q class : ℕ) (p : Player) → q < p.partitions → HasClass p.version class →
    KeepsOthers q p (given q (list_place p.version p.partitions thread q class) 0 p)
keeps_given thread q class p among few =
    let at = list_place p.version p.partitions thread q class in record {
      version = refl;
      many = refl;
      table = refl;
      roots = length-set p.heap.roots q _;
      journals = length-set p.told.journals q _;
      caches = length-set p.caches at [];
      root = λ k ne. get_or-set_other p.heap.roots q k _ new_root ne;
      journal = λ k ne. get_or-set_other p.told.journals q k _ [] ne;
      cached = λ k ne. get_or-set_other p.cached.of q k _ no_tally ne;
      tallies = length-set p.cached.of q _;
      lists = λ t k c ne in_range short. get_or-set_other p.caches at (list_place p.version p.partitions t k c) [] []
          (λ e. ne (same_place p.version p.partitions t k c thread q class in_range among short few e).1);
    }

keeps_given_from : (thread q class n : ℕ) (p : Player) → q < p.partitions → first_class p.version ≤ class →
    class + n ≤ past_class p.version → KeepsOthers q p (given_from thread q class n p)
unfolding given_from
keeps_given_from thread q class zero p among from fits = keeps_itself q p
keeps_given_from thread q class (suc n) p among from fits =
    let r = given q (list_place p.version p.partitions thread q class) 0 p in
    let one = keeps_given thread q class p among (from, omega arith) in
    keeps_after q p r (given_from thread q (class + 1) n r) one
    (keeps_given_from thread q (class + 1) n r among (omega arith) (omega arith))

-- a partition is purged
keeps_root : (q : ℕ) (p : Player) → KeepsOthers q p (purged_with q p)
keeps_root q p = record {
  version = refl;
  many = refl;
  table = refl;
  roots = length-set p.heap.roots q _;
  journals = length-set p.told.journals q _;
  caches = refl;
  root = λ k ne. get_or-set_other p.heap.roots q k _ new_root ne;
  journal = λ k ne. get_or-set_other p.told.journals q k _ [] ne;
  cached = λ k ne. refl;
  tallies = refl;
  lists = λ t k class ne among few. refl;
}

pub keeps_all_given : (thread q : ℕ) (p : Player) → q < p.partitions → KeepsOthers q p (given_all thread q p)
keeps_all_given thread q p among =
    let end = class_end p.version in
    keeps_given_from thread q (first_class p.version) (class_total p.version) p among (omega arith) (omega arith)

pub keeps_purged : (thread q : ℕ) (p : Player) → q < p.partitions → KeepsOthers q p (purged_with q (given_all thread q p))
keeps_purged thread q p among =
    keeps_after q p (given_all thread q p) (purged_with q (given_all thread q p)) (keeps_all_given thread q p among)
    (keeps_root q (given_all thread q p))

-- ---- what goes back in the others

pub places_same : (thread k class n : ℕ) (p r : Player) → r.version ≡ p.version → r.partitions ≡ p.partitions
    → ((c : ℕ) → HasClass p.version c →
    list_in r (list_place p.version p.partitions thread k c) ≡ list_in p (list_place p.version p.partitions thread k c))
    → first_class p.version ≤ class → class + n ≤ past_class p.version → places_from thread k class n r ≡ places_from thread k class n p
unfolding places_from
places_same thread k class zero p r version many lists from fits = refl
places_same thread k class (suc n) p r version many lists from fits =
    let here : list_in r (list_place r.version r.partitions thread k class) ≡ list_in p (list_place p.version p.partitions thread k class) =
    ap₂ (λ v m. list_in r (list_place v m thread k class)) version many ∙ lists class (from, omega arith) in
    ap (λ z. z ++ places_from thread k (class + 1) n r) here
    ∙ ap (λ z. list_in p (list_place p.version p.partitions thread k class) ++ z)
    (places_same thread k (class + 1) n p r version many lists (omega arith) (omega arith))

pub places_all_same : (thread k : ℕ) (p r : Player) → r.version ≡ p.version → r.partitions ≡ p.partitions
    → ((c : ℕ) → HasClass p.version c →
    list_in r (list_place p.version p.partitions thread k c) ≡ list_in p (list_place p.version p.partitions thread k c))
    → places_all thread k r ≡ places_all thread k p
places_all_same thread k p r version many lists =
    let end = class_end p.version in
    ap (λ v. places_from thread k (first_class v) (class_total v) r) version
    ∙ places_same thread k (first_class p.version) (class_total p.version) p r version many lists (omega arith) (omega arith)

places_kept : (thread q k : ℕ) (p r : Player) → KeepsOthers q p r → (k ≡ q → ⊥) → k < p.partitions →
    places_all thread k r ≡ places_all thread k p
places_kept thread q k p r h ne among = places_all_same thread k p r h.version h.many (λ c few. h.lists thread k c ne among few)

give_kept : (q k : ℕ) (xs : List ℕ) (p r : Player) → KeepsOthers q p r → (k ≡ q → ⊥) → CanGive k xs p → CanGive k xs r
give_kept q k xs p r h ne can =
    let root = sym (h.root k ne) in
    let tally = h.cached k ne in
    let turn = ap (λ (z : Root). z.turn) (h.root k ne) in
    let journal = ap length (h.journal k ne) in
    let slots = ap (λ (z : Tally). z.slots) tally in
    let bytes = ap (λ (z : Tally). z.bytes) tally in
    let size = ap (λ z. bytes_at z xs) h.table in record {
      root = omega (arith, can.root, h.roots);
      journal = omega (arith, can.journal, h.journals);
      four = can.four;
      among = subst (λ (z : List Slot). All (λ i. i < length z) xs) (sym h.table) can.among;
      sound = subst IsSound root can.sound;
      out = subst (λ (z : List Slot). AreOut (root_of r k) (map (numbered_at z) xs)) (sym h.table)
          (subst (λ z. AreOut z (map (numbered_at p.table) xs)) root can.out);
      turn = omega (arith, can.turn, turn);
      few = omega (arith, can.few, journal);
      slots = omega (arith, can.slots, slots);
      bytes = omega (arith, can.bytes, bytes, size);
    }

pub purge_kept : (thread q k : ℕ) (p r : Player) → KeepsOthers q p r → (k ≡ q → ⊥) → CanPurgeOne thread k p → CanPurgeOne thread k r
purge_kept thread q k p r h ne can = record {
  threads = can.threads;
  four = omega (arith, can.four, h.many);
  among = omega (arith, can.among, h.many);
  lists = λ class few.
      let here = can.lists class (subst (λ v. HasClass v class) h.version few) in
      let same = ap₂ (λ v m. list_place v m thread k class) h.version h.many in
      subst (λ n. n < length r.caches) (sym same) (subst (λ n. list_place p.version p.partitions thread k class < n) (sym h.caches) here);
  gives = subst (λ z. CanGive k z r) (sym (places_kept thread q k p r h ne can.among))
      (give_kept q k (places_all thread k p) p r h ne can.gives);
}
