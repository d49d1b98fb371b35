-- What callers may cut: in a new region, beside what was cut before, and out of what was uncut.
use Rattle.std.proofs.Common.{◌≡◌, ℕ, zero, suc, ◌+◌, ◌*◌, ◌%◌, ◌<◌, ◌≤◌, ◌&&◌, List, [], ◌∷◌, set, refl, arith, ◌⊎◌, inl, inr, leb}
use Rattle.std.specs.Prelude.{slice_index}
use Rattle.std.proofs.lemmas.List.Sums.{sum_by-cons}
use Rattle.std.proofs.lemmas.Bool.{le-leb}
use Rattle.pa_slot.specs.declared.title.Title.{Title}
use Rattle.pa_slot.specs.Titles.{Covers}
use Rattle.pa_slot.specs.Holdings.{one}
use Rattle.pa_machine.proofs.Cutting.{covers_or}
use Rattle.pa_region.specs.declared.view.RawRange.{RawRange}
use Rattle.pa_region.specs.declared.view.View.{View}
use Rattle.pa_region.specs.Views.{low_of}
use Rattle.pa_region.specs.Cuts.{CanCut, raw_again, after_cut, after_uncut}
use Rattle.pa_region.specs.Start.{first_view}
use Rattle.pa_region.proofs.Parting.{has_byte, range_cases, ranges_part}
use Rattle.pa_region.proofs.Cutting.{inside_low}

-- a range with the byte, and with a floor that is low enough, counts once
low_here : (r : RawRange) (b n : ℕ) → r.start ≤ b → b < r.start + r.len → r.floor ≤ n → one (has_byte r b && leb r.floor n) ≡ 1
low_here r b n low high floor = elim (range_cases r b) [
  | inl y ↦ rw (y.2, le-leb r.floor n floor) refl
  | inr m ↦ absurd (m.0 (low, high))
]

-- a range without it counts nothing
low_far : (r : RawRange) (b n : ℕ) → ((r.start ≤ b) × (b < r.start + r.len) → ⊥) → one (has_byte r b && leb r.floor n) ≡ 0
low_far r b n far = elim (range_cases r b) [ inl y ↦ absurd (far (y.0, y.1)) | inr m ↦ rw m.1 refl ]

pub first_can_cut : (words budget : ℕ) (t : Title) → t.start % 8 ≡ 0 → t.len % 8 ≡ 0 → 16 ≤ t.len → t.start + t.len ≤ 8 * words →
    CanCut t (first_view words budget)
first_can_cut words budget t start len long inside = record {
  start_aligned = start;
  len_aligned = len;
  long = long;
  floors = λ b covers.
      let high = covers.1 in
      let whole : RawRange = record { start = 0; len = 8 * words; floor = 0 } in
      let h = low_here whole b t.born (omega arith) (omega arith) (omega arith) in
      omega arith;
}

pub cut_leaves_others : (t : Title) (v : View) (b n : ℕ) → (Covers t b → ⊥) → low_of (after_cut t v) b n ≡ low_of v b n
cut_leaves_others t v b n far =
    let p = ranges_part t.start (t.start + t.len) b (λ r. leb r.floor n) (omega arith) (λ r. refl) (λ r. refl) (λ r. refl) v.raws in
    elim (covers_or t b) [ inl y ↦ absurd (far y) | inr m ↦ let z = inside_low t.start (t.start + t.len) b n v.raws m in omega arith ]

pub uncut_gives_back : (t : Title) (v : View) →
    ((b n : ℕ) → Covers t b → t.born < n → 0 < low_of (after_uncut t v) b n) ×
    ((b n : ℕ) → (Covers t b → ⊥) → low_of (after_uncut t v) b n ≡ low_of v b n)
uncut_gives_back t v = (
  λ b n covers later.
      let h = low_here (raw_again t) b n covers.0 covers.1 (omega arith) in
      omega (arith, sum_by-cons (λ (r : RawRange). one (has_byte r b && leb r.floor n)) (raw_again t) v.raws),
  λ b n far.
      let h = low_far (raw_again t) b n far in
      omega (arith, sum_by-cons (λ (r : RawRange). one (has_byte r b && leb r.floor n)) (raw_again t) v.raws),
)

-- a word that is 0 stays 0 if a count word was set to 0
pub zero_set : (words : List ℕ) (p q : ℕ) → slice_index words q ≡ 0 → slice_index (set words p 0) q ≡ 0
zero_set [] p q zero_at = zero_at
zero_set (x ∷ xs) zero zero zero_at = refl
zero_set (x ∷ xs) zero (suc q) zero_at = zero_at
zero_set (x ∷ xs) (suc p) zero zero_at = zero_at
zero_set (x ∷ xs) (suc p) (suc q) zero_at = zero_set xs p q zero_at

-- a title that could be cut beside another still can
pub cut_next : (t u : Title) (v : View) → CanCut u v → (t.start + t.len ≤ u.start) ⊎ (u.start + u.len ≤ t.start) → CanCut u (after_cut t v)
cut_next t u v can far = record {
  start_aligned = can.start_aligned;
  len_aligned = can.len_aligned;
  long = can.long;
  floors = λ b covers.
      let f = can.floors b covers in
      let low = covers.0 in let high = covers.1 in
      let e = cut_leaves_others t v b u.born (λ other. let a = other.0 in let c = other.1 in
      elim far [ inl y ↦ omega arith | inr m ↦ omega arith ]) in
      omega arith;
}

-- the bytes of a title that was uncut can be cut again, for a title that is born later
pub cut_again : (t u : Title) (v : View) → u.start ≡ t.start → u.len ≡ t.len → t.born < u.born → u.start % 8 ≡ 0 → u.len % 8 ≡ 0 →
    16 ≤ u.len → CanCut u (after_uncut t v)
cut_again t u v start len later start_aligned len_aligned long = record {
  start_aligned = start_aligned;
  len_aligned = len_aligned;
  long = long;
  floors = λ b covers. let low = covers.0 in let high = covers.1 in (uncut_gives_back t v).0 b u.born (omega arith, omega arith) later;
}
