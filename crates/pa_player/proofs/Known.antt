-- The slots that ever left a root, each by itself, and one of them changed.
use Rattle.std.proofs.Common.{◌≡◌, ℕ, ◌+◌, ◌<◌, List, [], length, set, Option, Some, None, sym, ap, ◌∙◌, subst, arith, length-set, inl, inr}
use Rattle.std.specs.Prelude.{Contains}
use Rattle.std.proofs.lemmas.Bool.{cases_eq}
use Rattle.std.proofs.lemmas.List.{get_or-set_same, get_or-set_other}
use Rattle.pa_slot.specs.declared.title.Title.{Title}
use Rattle.pa_slot.specs.declared.word.SlotName.{SlotName}
use Rattle.pa_slot.specs.Count.{number_of, held_of, refs_of}
use Rattle.pa_buckets.specs.Table.{slot_of}
use Rattle.pa_record.specs.declared.pool.PoolEntry.{PoolEntry}
use Rattle.pa_record.specs.declared.root.RootEntry.{RootEntry}
use Rattle.pa_record.specs.declared.root.RootAct.TheVariants.{Map}
use Rattle.pa_record.specs.Spans.{name_of}
use Rattle.pa_record.specs.Root.{Root}
use Rattle.pa_rules.specs.Roots.{Journals}
use Rattle.pa_rules.specs.Caches.{IsOfClass}
use Rattle.pa_legal.specs.Numbers.{moves_of, at_end}
use Rattle.pa_rules.specs.Sizes.{HasClass}
use Rattle.pa_player.specs.declared.table.Slot.{Slot}
use Rattle.pa_player.specs.Tables.{no_slot, slot_at, named_at, AreNamed, NoneNamed}
use Rattle.pa_player.specs.Playing.{IsLetOut, IsMappedAs, AreAllSlots}
use Rattle.pa_player.proofs.Homes.{named_set}
use Rattle.pa_player.proofs.Slots.{IsSame, named_as}

-- what is known of each slot of the table
pub record IsKnownSlot (version partitions : ℕ) (pools : List PoolEntry) (roots : Journals) (root : ℕ → Root) (x : Slot) : Type 0 where
  pub among : x.partition < partitions
  pub let_out : IsLetOut version roots x x.class
  pub mapped : IsMappedAs (root x.partition) x x.class
  pub at : (n : ℕ) → at_end (Some 0) (moves_of (roots x.partition) (name_of x.title)) ≡ Some n → n ≡ number_of x.word.0
  pub born : (name_of x.title).born < length pools

pub known_at : {version : ℕ} (partitions : ℕ) (slots : List Slot) (pools : List PoolEntry) (roots : Journals) (root : ℕ → Root) (i : ℕ)
    → AreAllSlots version partitions slots pools roots root → i < length slots
    → IsKnownSlot version partitions pools roots root (slot_at slots i)
known_at partitions slots pools roots root i h l =
    record { among = h.among i l; let_out = h.let_out i l; mapped = h.mapped i l; at = λ n e. h.at i n l e; born = h.born i l }

pub all_known : {version : ℕ} (partitions : ℕ) (slots : List Slot) (pools : List PoolEntry) (roots : Journals) (root : ℕ → Root)
    → ((i : ℕ) → i < length slots → IsKnownSlot version partitions pools roots root (slot_at slots i)) → AreNamed slots
    → ((q : ℕ) (s : SlotName) → NoneNamed slots s → moves_of (roots q) s ≡ []) → AreAllSlots version partitions slots pools roots root
all_known partitions slots pools roots root each named others = record {
  among = λ i l. (each i l).among;
  let_out = λ i l. (each i l).let_out;
  mapped = λ i l. (each i l).mapped;
  at = λ i n l e. (each i l).at n e;
  born = λ i l. (each i l).born;
  apart = named;
  others = others;
}

-- ---- a slot with another word or content

pub let_out_same : (version : ℕ) (roots : Journals) (x y : Slot) (class : Option ℕ) → IsSame x y → IsLetOut version roots x class →
    IsLetOut version roots y class
let_out_same version roots x y (Some class) same h =
    let P : Title → ℕ → Type 0 = λ t q. HasClass version class × IsOfClass roots (name_of t) q class × (t.len ≡ slot_of class) in
    subst (λ q. P y.title q) (sym same.partition) (subst (λ t. P t x.partition) (sym same.title) h)
let_out_same version roots x y None same h =
    let P : Title → ℕ → Type 0 = λ t q. (e : RootEntry) × (asked : ℕ) × Contains (roots q) e × (e.act ≡ Map asked (name_of t) t.len) in
    subst (λ q. P y.title q) (sym same.partition) (subst (λ t. P t x.partition) (sym same.title) h)

-- a slot that is in use is mapped where it is a direct map
pub mapped_used : (r : Root) (x y : Slot) (class : Option ℕ) → IsSame x y → 0 < held_of x.word.0 + refs_of x.word.0 → IsMappedAs r x class →
    IsMappedAs r y class
mapped_used r x y (Some class) same used h = tt
mapped_used r x y None same used h = λ still. subst (λ t. Contains r.maps t) (sym same.title) (h used)

pub mapped_class : (r : Root) (y : Slot) (o : Option ℕ) (class : ℕ) → o ≡ Some class → IsMappedAs r y o
mapped_class r y o class e = subst (λ c. IsMappedAs r y c) (sym e) tt

pub known_again : {version : ℕ} (partitions : ℕ) (pools : List PoolEntry) (roots : Journals) (root : ℕ → Root) (x y : Slot) →
    IsKnownSlot version partitions pools roots root x → IsSame x y
    → at_end (Some 0) (moves_of (roots x.partition) (name_of x.title)) ≡ None → IsMappedAs (root x.partition) y y.class →
    IsKnownSlot version partitions pools roots root y
known_again {version} partitions pools roots root x y h same none mapped = record {
  among = subst (λ q. q < partitions) (sym same.partition) h.among;
  let_out = subst (λ c. IsLetOut version roots y c) (sym same.class) (let_out_same version roots x y x.class same h.let_out);
  mapped = subst (λ q. IsMappedAs (root q) y y.class) (sym same.partition) mapped;
  at = λ n e.
      let P : ℕ → Title → Type 0 = λ q t. at_end (Some 0) (moves_of (roots q) (name_of t)) ≡ None in
      let gone : P y.partition y.title =
      subst (λ q. P q y.title) (sym same.partition) (subst (λ t. P x.partition t) (sym same.title) none) in
      absurd (none_some n (sym gone ∙ e));
  born = subst (λ (t : Title). (name_of t).born < length pools) (sym same.title) h.born;
}
  where
    none_some : (n : ℕ) → None ≡ Some n → ⊥
    none_some n e = cc

-- one slot is changed that no root has
pub all_slots_set : {version : ℕ} (partitions : ℕ) (slots : List Slot) (pools : List PoolEntry) (roots : Journals) (root : ℕ → Root) (i : ℕ)
    (y : Slot)
    → AreAllSlots version partitions slots pools roots root → i < length slots → IsSame (slot_at slots i) y
    → at_end (Some 0) (moves_of (roots (slot_at slots i).partition) (named_at slots i)) ≡ None →
    IsMappedAs (root (slot_at slots i).partition) y y.class
    → AreAllSlots version partitions (set slots i y) pools roots root
all_slots_set {version} partitions slots pools roots root i y h l same none mapped =
    let K : Slot → Type 0 = IsKnownSlot version partitions pools roots root in
    let known = known_again partitions pools roots root (slot_at slots i) y
    (known_at partitions slots pools roots root i h l) same none mapped in
    all_known partitions (set slots i y) pools roots root
    (λ j lj. elim (cases_eq j i) [
      | inl e ↦
          let P : ℕ → Type 0 = λ k. K (slot_at (set slots i y) k) in
          subst P (sym e) (subst K (sym (get_or-set_same slots i y no_slot l)) known)
      | inr ne ↦ subst K (sym (get_or-set_other slots i j y no_slot ne))
          (known_at partitions slots pools roots root j h (omega (arith, lj, length-set slots i y)))
    ])
    (named_as slots i y h.apart l same)
    (λ q s gone. h.others q s
    (λ j lj e. gone j (omega (arith, lj, length-set slots i y)) (named_set slots i j y l (ap name_of same.title) ∙ e)))
