-- What is out of a root, by its name, and how much a root has.
use Rattle.std.proofs.Common.{◌≡◌, ℕ, suc, ◌+◌, ◌*◌, ◌<◌, ◌≤◌, ◌^◌, true, List, [], ◌∷◌, length, sym, ◌∙◌, ap, subst, arith, inl, inr, Some, None}
use Rattle.std.specs.Prelude.{Contains, find, sum_by}
use Rattle.std.proofs.lemmas.List.Sums.{sum_by-cons}
use Rattle.std.proofs.Math.Nat.{mul-le-mul_left}
use Rattle.pa_slot.specs.declared.title.Title.{Title}
use Rattle.pa_slot.specs.declared.word.SlotName.{SlotName}
use Rattle.pa_buckets.specs.Table.{slot_of, slots_of}
use Rattle.pa_buckets.proofs.Facts.{IsRow-of}
use Rattle.pa_record.specs.Spans.{Span, title_at, name_of, holds}
use Rattle.pa_record.specs.Root.{Root, IsOut, IsOutOf, IsTitleOut}
use Rattle.pa_record.specs.Census.{kept_of}
use Rattle.pa_record.specs.Sound.{IsCounted}
use Rattle.pa_lists.proofs.Members.{of_some, not_some, find_is, first_in, later_in}
use Rattle.pa_record.proofs.Returning.{find_out}
use Rattle.pa_place.specs.Served.{IsLow}
use Rattle.pa_place.specs.Store.{IsReady}
use Rattle.pa_place.proofs.Bounds.{few_bytes, slots_inside}
use Rattle.pa_place.proofs.Placing.{span_low}

-- the span that is found for a name
pub record IsHolder (r : Root) (s : Span) (name : SlotName) : Type 0 where
  pub among : Contains r.spans s
  pub counted : IsCounted s
  pub low : IsLow s
  pub held : holds name s ≡ true

pub holder_is : (r : Root) (s : Span) (name : SlotName) → IsReady r → find (holds name) r.spans ≡ Some s → IsHolder r s name
holder_is r s name ready e =
    let (among, held) = find_is (holds name) r.spans s e in
    record { among = among; counted = (ready.sound.spans s among).counted; low = span_low r s ready among; held = held }

-- a name whose span isn't found isn't out, nor one that isn't out of its span
pub none_holds : (r : Root) (name : SlotName) → IsReady r → find (holds name) r.spans ≡ None → IsOut r name → ⊥
none_holds r name ready none (s, among, n, out) = not_some s (sym none ∙ find_out r s name n ready.sound among out)

pub not_out : (r : Root) (s : Span) (name : SlotName) → IsReady r → find (holds name) r.spans ≡ Some s → ((n : ℕ) → IsOutOf s name n → ⊥) →
    IsOut r name → ⊥
not_out r s name ready e h (v, among, n, out) =
    let same : v ≡ s = of_some v s (sym (find_out r v name n ready.sound among out) ∙ e) in
    h n (subst (λ z. IsOutOf z name n) same out)

pub slot_is_out : (r : Root) (s : Span) (t : Title) (name : SlotName) (n : ℕ) → Contains r.spans s → t ≡ title_at s n → IsOutOf s name n →
    IsOut r name × IsTitleOut r t × (name_of t ≡ name)
slot_is_out r s t name n among e out =
    let same : name_of t ≡ name = ap name_of e ∙ sym out.named in
    ((s, among, n, out), inl (s, among, n, subst (λ x. IsOutOf s x n) (sym same) out, e), same)

-- the name of a slot that is out is out
pub name_out : (r : Root) (t : Title) (name : SlotName) → IsTitleOut r t → name_of t ≡ name → (IsOut r name → ⊥) → Contains r.maps t
name_out r t name (inl (s, among, n, out, e)) same away = absurd (away (s, among, n, subst (λ x. IsOutOf s x n) same out))
name_out r t name (inr mapped) same away = mapped

-- sums over the spans
sum_most : (f : Span → ℕ) (m : ℕ) (ss : List Span) → ((s : Span) → Contains ss s → f s ≤ m) → sum_by f ss ≤ m * length ss
sum_most f m [] h = omega arith
sum_most f m (s ∷ ss) h =
    let first = h s (first_in s ss) in
    let ih = sum_most f m ss (λ t among. h t (later_in s t ss among)) in
    let e = sum_by-cons f s ss in
    let k : m * suc (length ss) ≡ m + m * length ss = omega arith in
    omega arith

kept_most : (s : Span) → IsCounted s → kept_of s ≤ slots_of s.class
kept_most s h = let p = h.most in omega arith

kept_bytes : (s : Span) → IsCounted s → slot_of s.class * kept_of s ≤ 983040
kept_bytes s h =
    let p = slots_inside s.class (kept_of s) h.class (kept_most s h) in
    let q = few_bytes s.class h.class in
    omega arith

committed_few : (s : Span) → IsCounted s → s.committed ≤ 240
committed_few s h = let b = IsRow-of s.class h.class in let p = h.committed in let q = b.used in let k = b.few_pages in omega arith

low_product : (m n : ℕ) → m ≤ 983040 → n ≤ 2147483647 → m * n ≤ 983040 * 2147483647
low_product m n a b =
    let p : m * n ≤ m * 2147483647 = mul-le-mul_left m b in
    omega arith

pub counted_all : (r : Root) → IsReady r → (s : Span) → Contains r.spans s → IsCounted s
counted_all r ready s among = (ready.sound.spans s among).counted

pub bytes_low : (r : Root) → IsReady r → length r.spans ≤ 2147483647 → sum_by (λ (s : Span). slot_of s.class * kept_of s) r.spans < 2 ^ 64
bytes_low r ready few =
    let p = sum_most (λ (s : Span). slot_of s.class * kept_of s) 983040 r.spans (λ s among. kept_bytes s (counted_all r ready s among)) in
    let q = low_product 983040 (length r.spans) (omega arith) few in
    omega arith

pub pages_low : (r : Root) → IsReady r → length r.spans ≤ 2147483647 → sum_by (λ (s : Span). s.committed) r.spans ≤ 2 ^ 40
pages_low r ready few =
    let p = sum_most (λ (s : Span). s.committed) 240 r.spans (λ s among. committed_few s (counted_all r ready s among)) in
    let q = low_product 240 (length r.spans) (omega arith) few in
    omega arith
