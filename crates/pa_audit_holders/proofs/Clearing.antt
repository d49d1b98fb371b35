-- A thread's lists that are emptied, partition by partition.
use Rattle.std.proofs.Common.{◌≡◌, ℕ, ◌+◌, ◌-◌, ◌*◌, ◌<◌, ◌≤◌, List, [], length, get_or, set, refl, sym, ◌∙◌, ap, subst, arith, inl, inr}
use Rattle.std.specs.Prelude.{All}
use Rattle.std.proofs.lemmas.Bool.{cases_eq, cases_lt}
use Rattle.std.proofs.Math.Nat.{add-mul}
use Rattle.std.proofs.lemmas.Nat.{mul-le}
use Rattle.std.proofs.lemmas.List.{get_or_default, get_or-set_other, get_or-set_same, length-set}
use Rattle.pa_record.specs.declared.numbered.Numbered.{Numbered}
use Rattle.pa_record.specs.declared.report.Tally.{Tally}
use Rattle.pa_rules.specs.Caches.{listed_slots}
use Rattle.pa_buckets.specs.Limits.{first_class}
use Rattle.pa_rules.specs.Lists.{no_tally}
use Rattle.pa_rules.specs.Sizes.{HasClass, class_total}
use Rattle.pa_rules.proofs.Sums.{slots_of_version}
use Rattle.pa_rules.proofs.Versions.{class_end}
use Rattle.pa_audit_holders.specs.Lists.{AreSummed, VersionLists, cache_in}
use Rattle.pa_audit_holders.proofs.Listing.{listed, none_but}
use Rattle.pa_audit_holders.proofs.Remaining.{AreLeft, left_more, left_none, left_part, left_some, slots_shifted}

-- ---- a partition

-- the lists from a place on, by their classes
abbrev pub from_place : List (List Numbered) → ℕ → ℕ → List Numbered
from_place lists first class = get_or lists (first + class) []

-- As many lists stay as there were. Those from the first place to another are empty, and the others are as they were. The partition's
-- lists that are left have this many slots.
pub record AreEmptied (lists now : List (List Numbered)) (first count at rest : ℕ) : Type 0 where
  pub many : length now ≡ length lists
  pub low : first ≤ at
  pub high : at ≤ first + count
  pub left : AreLeft (from_place lists first) count (at - first) rest
  pub these : (k : ℕ) → first ≤ k → k < at → get_or now k [] ≡ []
  pub others : (k : ℕ) → (first ≤ k → at ≤ k) → get_or now k [] ≡ get_or lists k []

-- While slots are left, the next list is among the partition's.
module _ {lists now : List (List Numbered)} {first count at rest : ℕ} (h : AreEmptied lists now first count at rest) (some : 0 < rest) where
  pub emptied_within : at < first + count
  emptied_within =
      let low = h.low in
      let less = left_some (from_place lists first) count (at - first) rest h.left some in
      omega (arith, low, less)

  -- so it is in the table
  pub emptied_below : first + count ≤ length lists → at < length now
  emptied_below room = let many = h.many in let within = emptied_within in omega (arith, within, room, many)

  -- it is as it was
  same_next : get_or now at [] ≡ from_place lists first (at - first)
  same_next =
      let low = h.low in
      let here : first + (at - first) ≡ at = omega (arith, low) in
      h.others at (λ up. omega arith) ∙ sym (ap (λ k. get_or lists k []) here)

  -- its slots are among those that are left
  pub emptied_part : (len : ℕ) → len ≡ length (get_or now at []) → len ≤ rest
  emptied_part len long = left_part (from_place lists first) count (at - first) rest len h.left some (long ∙ ap length same_next)

  pub emptied_more : (len : ℕ) → first + count ≤ length lists → len ≡ length (get_or now at [])
      → AreEmptied lists (set now at []) first count (at + 1) (rest - len)
  emptied_more len room long = record {
    many = length-set now at [] ∙ h.many;
    low = omega (arith, low);
    high = let within = emptied_within in omega (arith, within);
    left =
        let next_class : at - first + 1 ≡ at + 1 - first = omega (arith, low) in
        subst (λ k. AreLeft (from_place lists first) count k (rest - len)) next_class
        (left_more (from_place lists first) count (at - first) rest len h.left some (long ∙ ap length same_next));
    these = λ k up high. elim (cases_eq k at) [
      | inl same ↦ ap (λ z. get_or (set now at []) z []) same ∙ get_or-set_same now at [] [] (emptied_below room)
      | inr other ↦ get_or-set_other now at k [] [] other ∙ h.these k up (omega (arith, high, other))
    ];
    others = λ k up. get_or-set_other now at k [] [] (λ same. let past = up (omega (arith, low, same)) in omega (arith, past, same))
        ∙ h.others k (λ more. let past = up more in omega (arith, past));
  }
    where
      low : first ≤ at
      low = h.low

pub emptied_these : (lists now : List (List Numbered)) (first count at rest : ℕ) → AreEmptied lists now first count at rest → rest ≤ 0
    → (k : ℕ) → first ≤ k → k < first + count → get_or now k [] ≡ []
emptied_these lists now first count at rest h none k up high = elim (cases_lt k at) [
  | inl before ↦ h.these k up before
  | inr past ↦
      let here : first + (k - first) ≡ k = omega (arith, up) in
      h.others k (λ more. past) ∙ ap (λ z. get_or lists z []) (sym here)
      ∙ left_none (from_place lists first) count (at - first) rest (k - first) h.left (omega (arith, none)) (omega (arith, past))
      (omega (arith, high, up))
]

-- ---- partition by partition

-- As many lists stay as there were, `count` for each partition. Those of the partitions below p are empty, and the others are as they were.
pub record AreCleared (count : ℕ) (lists now : List (List Numbered)) (p : ℕ) : Type 0 where
  pub many : length now ≡ length lists
  pub these : (k : ℕ) → k < p * count → get_or now k [] ≡ []
  pub others : (k : ℕ) → p * count ≤ k → get_or now k [] ≡ get_or lists k []

pub clear_start : (count : ℕ) (lists : List (List Numbered)) → AreCleared count lists lists 0
clear_start count lists = record { many = refl; these = λ k low. absurd (none k low); others = λ k up. refl }
  where
    none : (k : ℕ) → k < 0 * count → ⊥
    none k low = omega (arith, low)

-- the slots of the next partition's lists
pub clear_slots : (all : VersionLists) (now : List (List Numbered)) (sums : List Tally) (p : ℕ) → AreSummed all sums → p < 4 →
    AreCleared (class_total all.version) all.lists now p
    → (get_or sums p no_tally).slots ≡ listed_slots (from_place now (p * class_total all.version)) 0 (class_total all.version)
clear_slots all now sums p summed low h =
    (summed.right.each p low).slots ∙ slots_of_version all.version (cache_in all p) (none_but all p)
    ∙ slots_shifted (cache_in all p) (from_place now first) (first_class all.version) 0 count same
  where
    count : ℕ
    count = class_total all.version

    first : ℕ
    first = p * count

    same : (c d i : ℕ) → c ≡ first_class all.version + i → d ≡ 0 + i → i < count → cache_in all p c ≡ from_place now first d
    same c d i e k less =
        let end = class_end all.version in
        let real : HasClass all.version c = (omega (arith, e), omega (arith, e, less, end)) in
        let here : first + (c - first_class all.version) ≡ first + d = omega (arith, e, k) in
        listed all p c real ∙ ap (λ m. get_or all.lists m []) here ∙ sym (h.others (first + d) (omega arith))

pub clear_more : (count : ℕ) (lists now next : List (List Numbered)) (p : ℕ) → AreCleared count lists now p → length next ≡ length now
    → ((k : ℕ) → p * count ≤ k → k < p * count + count → get_or next k [] ≡ [])
    → ((k : ℕ) → (p * count ≤ k → p * count + count ≤ k) → get_or next k [] ≡ get_or now k []) → AreCleared count lists next (p + 1)
clear_more count lists now next p h long these others = record {
  many = long ∙ h.many;
  these = λ k low. elim (cases_lt k (p * count)) [
    | inl before ↦ others k (λ up. absurd (omega (arith, up, before))) ∙ h.these k before
    | inr from ↦ these k from (omega (arith, low, row))
  ];
  others = λ k up. others k (λ more. omega (arith, up, row)) ∙ h.others k (omega (arith, up, row));
}
  where
    row : (p + 1) * count ≡ p * count + count
    row = omega (arith, add-mul p 1 count)

pub clear_end : (all : VersionLists) (now : List (List Numbered)) (sums : List Tally) (p : ℕ) → AreSummed all sums → 4 ≤ p →
    AreCleared (class_total all.version) all.lists now p
    → All (λ slots. slots ≡ []) now
clear_end all now sums p summed end h = λ k d below.
    let many = summed.many in
    let long = h.many in
    let count = class_total all.version in
    let rows : 4 * count ≤ p * count = mul-le 4 count p count end (omega arith) in
    get_or_default now k d [] below ∙ h.these k (omega (arith, below, many, long, rows))
