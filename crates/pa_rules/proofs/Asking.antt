-- A record asks for one class or one direct map of one partition.
use Rattle.std.proofs.Common.{◌≡◌, ℕ, ◌+◌, max, sym, ◌∙◌, subst, arith, inl, inr}
use Rattle.std.proofs.lemmas.Bool.{cases_order}
use Rattle.pa_buckets.specs.Classes.{IsClassIn}
use Rattle.pa_trace.specs.declared.script.Op.{Op}
use Rattle.pa_trace.specs.declared.script.Op.TheVariants as ops
use Rattle.pa_rules.specs.declared.played.Played.{Played}
use Rattle.pa_rules.specs.Roots.{AsksForClass, AsksForMap}
use Rattle.pa_rules.proofs.Versions.{has_no_class}

-- an allocation's partition and size
one_alloc : (op : Op) (r p m s q n : ℕ) → op ≡ ops.Alloc r p m → op ≡ ops.Alloc s q n → (p ≡ q) × (m ≡ n)
one_alloc op r p m s q n x y =
    let same : ◌≡◌ {A = Op} (ops.Alloc r p m) (ops.Alloc s q n) = sym x ∙ y in
    (cc same, cc same)

-- in a version a size is of one class
pub class_of_size : (version raw c d : ℕ) → IsClassIn version raw c → IsClassIn version raw d → c ≡ d
class_of_size version raw c d x y = elim (cases_order c d) [
  | inl same ↦ same
  | inr (inl less) ↦ absurd (let a = x.fits in let b = y.least c x.from less in omega arith)
  | inr (inr more) ↦ absurd (let a = y.fits in let b = x.least d y.from more in omega arith)
]

-- a record asks for one class or one direct map of one partition
pub class_once : (x : Played) (p q c d : ℕ) → AsksForClass x p c → AsksForClass x q d → (p ≡ q) × (c ≡ d)
class_once x p q c d (r, m, is, of) (s, n, is', of') =
    let (same, size) = one_alloc x.op r p m s q n is is' in
    (same, class_of_size x.rules.version (max n 1 + 8) c d (subst (λ k. IsClassIn x.rules.version (max k 1 + 8) c) size of) of')

pub map_once : (x : Played) (p q m n : ℕ) → AsksForMap x p m → AsksForMap x q n → (p ≡ q) × (m ≡ n)
map_once x p q m n (r, is, direct) (s, is', direct') = one_alloc x.op r p m s q n is is'

pub class_or_map : (x : Played) (p q c n : ℕ) → AsksForClass x p c → AsksForMap x q n → ⊥
class_or_map x p q c n (r, m, is, of) (s, is', direct) =
    let (same, size) = one_alloc x.op r p m s q n is is' in
    has_no_class x.rules.version n c direct (subst (λ k. IsClassIn x.rules.version (max k 1 + 8) c) size of)
