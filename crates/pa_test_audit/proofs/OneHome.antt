-- A slot whose home is the one that each of its entries gave it has one.
use Rattle.std.proofs.Common.{◌≡◌, ℕ, ◌<◌, [], Option, Some, None, length, sym, ◌∙◌, ap, subst, arith}
use Rattle.std.specs.Prelude.{Contains}
use Rattle.std.proofs.lemmas.Option.{slice_get-get_or, slice_get_within}
use Rattle.pa_buckets.specs.Table.{slot_of}
use Rattle.pa_slot.specs.declared.word.SlotName.{SlotName}
use Rattle.pa_record.specs.declared.root.RootAct.{RootAct}
use Rattle.pa_record.specs.Laws.{leaves_by}
use Rattle.pa_lists.proofs.Members.{first_in, of_some}
use Rattle.pa_rules.specs.Roots.{Journals}
use Rattle.pa_rules.specs.Caches.{IsOfClass, IsDirect}
use Rattle.pa_rules.specs.Sizes.{HasClass}
use Rattle.pa_audit_records.specs.Keys.{name_key}
use Rattle.pa_audit_holders.specs.declared.homes.Home.{Home}
use Rattle.pa_audit_holders.specs.Homes.{AreHomedIn, HasOneHome, home_by}
use Rattle.pa_test_audit.specs.Versions.{IsActOf, AreActsOf}

class_home : (roots : Journals) (at : ℕ → Option Home) (s : SlotName) (p c : ℕ) → ((q : ℕ) → AreHomedIn roots at q)
    → IsOfClass roots s p c → (len : ℕ) × (at (name_key s) ≡ Some (record { partition = p; class = Some c; bytes = len }))
class_home roots at s p c h (e, asked, slots, (i, within, is), act, member) = (
  slot_of c,
  h p i e s (slice_get-get_or (roots p) i e within ∙ ap Some is)
      (subst (λ (a : RootAct). Contains (leaves_by a) s) (sym act) member) ∙ ap (λ (a : RootAct). Some (home_by p a)) act,
)

map_home : (roots : Journals) (at : ℕ → Option Home) (s : SlotName) (p : ℕ) → ((q : ℕ) → AreHomedIn roots at q) → IsDirect roots s p
    → (len : ℕ) × (at (name_key s) ≡ Some (record { partition = p; class = None; bytes = len }))
map_home roots at s p h (e, asked, len, (i, within, is), act) = (
  len,
  h p i e s (slice_get-get_or (roots p) i e within ∙ ap Some is)
      (subst (λ (a : RootAct). Contains (leaves_by a) s) (sym act) (first_in s [])) ∙ ap (λ (a : RootAct). Some (home_by p a)) act,
)

-- the class of a slot of a journal whose fills are of the version
real_class : (version : ℕ) (roots : Journals) (s : SlotName) (p c : ℕ) → AreActsOf version roots p → IsOfClass roots s p c →
    HasClass version c
real_class version roots s p c h (e, asked, slots, (i, within, is), act, member) =
    subst (λ (a : RootAct). IsActOf version p a) act (h i e (slice_get-get_or (roots p) i e within ∙ ap Some is))

-- two homes at one key have one partition and one class
same_home : (at : ℕ → Option Home) (k : ℕ) (a b : Home) → at k ≡ Some a → at k ≡ Some b → (a.partition ≡ b.partition) × (a.class ≡ b.class)
same_home at k a b x y = let same = of_some a b (sym x ∙ y) in (ap (λ (z : Home). z.partition) same, ap (λ (z : Home). z.class) same)

pub one_home_of : (version : ℕ) (roots : Journals) (at : ℕ → Option Home) (s : SlotName) → ((q : ℕ) → AreHomedIn roots at q) →
    ((q : ℕ) → AreActsOf version roots q) → HasOneHome version roots s
one_home_of version roots at s h acts = record {
  class = λ p q c d x y.
      let (len, a) = class_home roots at s p c h x in
      let (size, b) = class_home roots at s q d h y in
      let (part, class) =
      same_home at (name_key s) (record { partition = p; class = Some c; bytes = len })
      (record { partition = q; class = Some d; bytes = size }) a b in
      (part, of_some c d class);
  real = λ p c x. real_class version roots s p c (acts p) x;
  direct = λ p q x y.
      let (len, a) = map_home roots at s p h x in
      let (size, b) = map_home roots at s q h y in
      (same_home at (name_key s) (record { partition = p; class = None; bytes = len })
      (record { partition = q; class = None; bytes = size }) a b).0;
  either = λ p q c x y.
      let (len, a) = class_home roots at s p c h x in
      let (size, b) = map_home roots at s q h y in
      none_some c (same_home at (name_key s) (record { partition = p; class = Some c; bytes = len })
      (record { partition = q; class = None; bytes = size }) a b).1;
}
  where
    none_some : (c : ℕ) → ◌≡◌ {A = Option ℕ} (Some c) None → ⊥
    none_some c e = cc

-- journal by journal
pub homed_none : (roots : Journals) (at : ℕ → Option Home) (q : ℕ) → roots q ≡ [] → AreHomedIn roots at q
homed_none roots at q none i e s there member =
    let within : i < length (roots q) = slice_get_within (roots q) i e there in
    let long : length (roots q) ≡ 0 = ap length none in
    absurd (omega (arith, within, long))

pub acts_none : (version : ℕ) (roots : Journals) (q : ℕ) → roots q ≡ [] → AreActsOf version roots q
acts_none version roots q none i e there =
    let within : i < length (roots q) = slice_get_within (roots q) i e there in
    let long : length (roots q) ≡ 0 = ap length none in
    absurd (omega (arith, within, long))
