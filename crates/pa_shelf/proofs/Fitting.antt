-- The numbers of a span that is provisioned are small.
use Rattle.std.proofs.Common.{◌≡◌, ℕ, ◌+◌, ◌*◌, ◌/◌, ◌<◌, ◌≤◌, max, arith}
use Rattle.std.proofs.Math.Nat.{mul-le-mul_left}
use Rattle.pa_buckets.specs.Table.{slot_of, slots_of}
use Rattle.pa_buckets.proofs.Facts.{IsRow-of}
use Rattle.pa_record.proofs.SpanSteps.{pages_most}

pub record AreSmall (class committed provisioned : ℕ) : Type 0 where
  pub some : 0 < slot_of class
  pub few : slots_of class ≤ 1024
  pub product : slot_of class * (provisioned + 1) ≤ 983040
  pub before : slot_of class * provisioned ≤ slot_of class * slots_of class
  pub pages : max (committed + 1) ((slot_of class * (provisioned + 1) + 4095) / 4096) ≤ 241

pub are_small : (class committed provisioned : ℕ) → class < 170 → committed ≤ 240 → provisioned < slots_of class →
    AreSmall class committed provisioned
are_small class committed provisioned real low below =
    let row = IsRow-of class real in
    let least = row.least_slot in let inside = row.inside in let pages = row.few_pages in
    let up : slot_of class * (provisioned + 1) ≤ slot_of class * slots_of class = mul-le-mul_left (slot_of class) (omega arith) in
    let turned : slots_of class * slot_of class ≡ slot_of class * slots_of class = omega arith in
    record {
      some = omega arith;
      few = row.few_slots;
      product = omega arith;
      before = omega arith;
      pages = pages_most committed (slot_of class * (provisioned + 1)) low (omega arith);
    }
