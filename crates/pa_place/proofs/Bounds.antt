-- The bounds of a span's numbers.
use Rattle.std.proofs.Common.{◌≡◌, ℕ, ◌+◌, ◌*◌, ◌<◌, ◌≤◌, List, [], ◌∷◌, length, refl, sym, ◌∙◌, ap, subst, arith}
use Rattle.std.specs.Prelude.{Contains}
use Rattle.std.proofs.Math.Nat.{mul-le-mul_left}
use Rattle.pa_buckets.specs.Table.{slot_of, pages_of, slots_of}
use Rattle.pa_buckets.proofs.Facts.{IsRow-of}
use Rattle.pa_record.specs.Spans.{Span, bytes_of, more_pages, more_slots, with_list, with_free, without_front}
use Rattle.pa_record.specs.Sound.{IsCounted}
use Rattle.pa_lists.proofs.Members.{first_in}
use Rattle.pa_record.proofs.SpanSteps.{with_free_front, size_some, pages_most}
use Rattle.pa_place.specs.Served.{IsLow}

pub few_bytes : (c : ℕ) → c < 170 → 16384 * pages_of c ≤ 983040
few_bytes c real = let b = IsRow-of c real in let p = b.few_pages in omega arith

pub few_slots : (c : ℕ) → c < 170 → slots_of c ≤ 1024
few_slots c real = let b = IsRow-of c real in let p = b.few_slots in omega arith

-- that many of its slots lie in a span
pub slots_inside : (c n : ℕ) → c < 170 → n ≤ slots_of c → slot_of c * n ≤ 16384 * pages_of c
slots_inside c n real below =
    let b = IsRow-of c real in
    let up : slot_of c * n ≤ slot_of c * slots_of c = mul-le-mul_left (slot_of c) below in
    let turned : slots_of c * slot_of c ≡ slot_of c * slots_of c = omega arith in
    let inside = b.inside in
    omega arith

-- the slot with that number ends in its span
pub slot_inside : (c n : ℕ) → c < 170 → n < slots_of c → slot_of c * n + slot_of c ≤ 16384 * pages_of c
slot_inside c n real below =
    let p = slots_inside c (n + 1) real (omega arith) in
    let e : slot_of c * (n + 1) ≡ slot_of c * n + slot_of c = omega arith in
    omega arith

-- the numbers that come up when the span is provisioned
pub record HasRoom (s : Span) : Type 0 where
  pub some : 0 < slot_of s.class
  pub slots : s.provisioned + 1 ≤ 1024
  pub product : slot_of s.class * (s.provisioned + 1) ≤ 983040
  pub committed : s.committed ≤ 240
  pub pages : more_pages s ≤ 241
  pub most : more_slots s ≤ slots_of s.class

pub has_room : (s : Span) → IsCounted s → s.provisioned < slots_of s.class → HasRoom s
has_room s h below =
    let b = IsRow-of s.class h.class in
    let product = slots_inside s.class (s.provisioned + 1) h.class (omega arith) in
    let bytes = few_bytes s.class h.class in
    let few = few_slots s.class h.class in
    let used = b.used in
    let pages = b.few_pages in
    let committed = h.committed in
    record {
      some = size_some s.class h.class;
      slots = omega arith;
      product = omega arith;
      committed = omega arith;
      pages = pages_most s.committed (slot_of s.class * (s.provisioned + 1)) (omega arith) (omega arith);
      most = omega arith;
    }

-- the front that a span has after it was provisioned
pub front_length : (s : Span) → IsCounted s → s.allocated < slots_of s.class → 1 ≤ length (with_free s).free
front_length s h below =
    let f = with_free_front s h below in
    let e = ap length f.free in
    omega arith

-- the number that was taken is one of the class's
pub served_number : (s u t : Span) (n : ℕ) → u ≡ with_free s → u.free ≡ n ∷ t.free → t ≡ without_front t.free u → IsCounted s →
    s.allocated < slots_of s.class → n < slots_of t.class
served_number s u t n e front after h below =
    let counted : IsCounted u = subst IsCounted (sym e) (with_free_front s h below).counted in
    let low = counted.numbers n (subst (λ xs. Contains xs n) (sym front) (first_in n t.free)) in
    let made = counted.made in
    let most = counted.most in
    let same = ap (λ (z : Span). slots_of z.class) after in
    omega arith

-- the span stays where it was
pub served_low : (s u t : Span) → u ≡ with_free s → t ≡ without_front t.free u → IsLow s → IsLow t
served_low s u t e after low =
    let place : t.place ≡ s.place = ap (λ (z : Span). z.place) after ∙ ap (λ (z : Span). z.place) e ∙ free_place s in
    let bytes : bytes_of t ≡ bytes_of s = ap (λ (z : Span). bytes_of z) after ∙ ap (λ (z : Span). bytes_of z) e ∙ free_bytes s in
    omega arith
  where
    place_by : (xs : List ℕ) (s : Span) → (with_list xs s).place ≡ s.place
    place_by [] s = refl
    place_by (x ∷ xs) s = refl

    bytes_by : (xs : List ℕ) (s : Span) → bytes_of (with_list xs s) ≡ bytes_of s
    bytes_by [] s = refl
    bytes_by (x ∷ xs) s = refl

    free_place : (s : Span) → (with_free s).place ≡ s.place
    free_place s = place_by s.free s

    free_bytes : (s : Span) → bytes_of (with_free s) ≡ bytes_of s
    free_bytes s = bytes_by s.free s
