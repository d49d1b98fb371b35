-- Version 1 is what it was when there was no other version.
use Rattle.std.specs.Prelude.{◌≡◌, ℕ, false, ◌<◌, ◌≤◌, List, [], length}
use Rattle.pa_buckets.specs.Limits.{class_count, sparse_count}
use Rattle.pa_buckets.specs.Bands.{limit_of}
use Rattle.pa_buckets.specs.Classes.{IsClassOf, IsClassIn}
use Rattle.pa_trace.specs.declared.script.Op.{Op}
use Rattle.pa_trace.specs.declared.script.Trace.{Trace}
use Rattle.pa_trace.specs.Limits.{IsOpWithin, IsWithinLimits}
use Rattle.pa_trace.specs.Rules.{first_rules, rules_of}
use Rattle.pa_record.specs.declared.numbered.Numbered.{Numbered}
use Rattle.pa_rules.specs.Caches.{listed_slots, purge_acts}
use Rattle.pa_rules.specs.Registers.{is_plain_op}
use Rattle.pa_rules.specs.Report.{listed_bytes}

-- lists of which only those of version 1's classes have slots
abbrev pub AreFirstLists : (ℕ → List Numbered) → Type 0
AreFirstLists lists = (c : ℕ) → sparse_count ≤ c → lists c ≡ []

-- What versions 2 and 3 leave of version 1.
--   classes: a request of version 1 has the class that it had
--   tiny, small, medium, large: a thread keeps as many slots of a class as its number told
--   slots, bytes, purges: sums over all classes, and purges of all, are those over the 59
--   rules, counted: none of its partitions is plain, so each slot that an op asks for has its reference count
pub record FirstVersionIsKept : Type 0 where
  pub classes : (version raw c : ℕ) → version ≡ 1 → IsClassOf raw c → IsClassIn version raw c
  pub tiny : (c : ℕ) → c ≤ 7 → limit_of c ≡ 64
  pub small : (c : ℕ) → 7 < c → c ≤ 19 → limit_of c ≡ 32
  pub medium : (c : ℕ) → 19 < c → c ≤ 39 → limit_of c ≡ 16
  pub large : (c : ℕ) → 39 < c → c < sparse_count → limit_of c ≡ 0
  pub slots : (lists : ℕ → List Numbered) → AreFirstLists lists → listed_slots lists 0 class_count ≡ listed_slots lists 0 sparse_count
  pub bytes : (lists : ℕ → List Numbered) → AreFirstLists lists
      → listed_bytes (λ c. length (lists c)) 0 class_count ≡ listed_bytes (λ c. length (lists c)) 0 sparse_count
  pub purges : (lists : ℕ → List Numbered) → AreFirstLists lists → purge_acts lists 0 class_count ≡ purge_acts lists 0 sparse_count
  pub rules : (t : Trace) → IsWithinLimits t → t.version ≡ 1 → rules_of t ≡ first_rules t.partitions
  pub counted : (partitions : ℕ) (op : Op) → IsOpWithin partitions op → is_plain_op (first_rules partitions) op ≡ false
