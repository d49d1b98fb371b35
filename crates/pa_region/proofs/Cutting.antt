-- What a cut changes of raw ranges and floors, and what logs that don't name a title say of it.
use Rattle.std.proofs.Common.{◌≡◌, ℕ, ◌+◌, ◌<◌, ◌≤◌, Bool, true, false, ◌&&◌, List, [], ◌∷◌, refl, ap, arith, ◌⊎◌, inl, inr, leb}
use Rattle.std.specs.List.{sum_by}
use Rattle.std.proofs.lemmas.List.Sums.{sum_by-cons, sum_by-le-sum_by}
use Rattle.std.proofs.lemmas.Bool.{cases_lt, le-leb, lt-leb}
use Rattle.pa_slot.specs.declared.title.Title.{Title}
use Rattle.pa_slot.specs.Holdings.{one}
use Rattle.pa_region.specs.declared.view.RawRange.{RawRange}
use Rattle.pa_region.specs.declared.view.Entry.{Entry}
use Rattle.pa_region.specs.declared.view.Entry.TheVariants.{Counted, Looked, Read, Added, Entered, Uncut}
use Rattle.pa_region.specs.declared.view.View.{View}
use Rattle.pa_region.specs.Views.{low_of, low_in, counted_on, names, uncuts}
use Rattle.pa_region.specs.Hands.{below_part, above_part, inner_part, outside, inside}
use Rattle.pa_region.specs.Cuts.{titled}
use Rattle.pa_region.proofs.Adding.{one_and, one_small}
use Rattle.pa_region.proofs.Parting.{has_byte, range_cases, ranges_part}

-- outside of a range no byte of it is left
pub outside_none : (a e b : ℕ) (rs : List RawRange) → a ≤ b → b < e → sum_by (λ r. one (has_byte r b)) (outside a e rs) ≡ 0
outside_none a e b [] low high = refl
outside_none a e b (r ∷ rs) low high =
    let again = outside_none a e b rs low high in
    let c = sum_by-cons (λ q. one (has_byte q b)) (below_part a r) (above_part e r ∷ outside a e rs) in
    let d = sum_by-cons (λ q. one (has_byte q b)) (above_part e r) (outside a e rs) in
    elim (range_cases (below_part a r) b) [
      | inl x ↦ let x0 = x.0 in let x1 = x.1 in absurd (omega arith)
      | inr x ↦ elim (range_cases (above_part e r) b) [
        | inl y ↦ let y0 = y.0 in let y1 = y.1 in absurd (omega arith)
        | inr y ↦
            let p : one (has_byte (below_part a r) b) ≡ 0 = ap one x.1 in
            let q : one (has_byte (above_part e r) b) ≡ 0 = ap one y.1 in
            omega arith
      ]
    ]

-- the inside parts have no byte from outside
pub inside_none : (a e b : ℕ) (rs : List RawRange) → (b < a) ⊎ (e ≤ b) → sum_by (λ r. one (has_byte r b)) (inside a e rs) ≡ 0
inside_none a e b [] far = refl
inside_none a e b (r ∷ rs) far =
    let again = inside_none a e b rs far in
    let c = sum_by-cons (λ q. one (has_byte q b)) (inner_part a e r) (inside a e rs) in
    elim (range_cases (inner_part a e r) b) [
      | inl x ↦ let x0 = x.0 in let x1 = x.1 in elim far [ inl y ↦ absurd (omega arith) | inr y ↦ absurd (omega arith) ]
      | inr x ↦ let p : one (has_byte (inner_part a e r) b) ≡ 0 = ap one x.1 in omega arith
    ]

-- nor one with a low floor
pub inside_low : (a e b n : ℕ) (rs : List RawRange) → (b < a) ⊎ (e ≤ b) →
    sum_by (λ r. one (has_byte r b && leb r.floor n)) (inside a e rs) ≡ 0
inside_low a e b n rs far =
    let z = inside_none a e b rs far in
    let l = sum_by-le-sum_by (λ r. one (has_byte r b && leb r.floor n)) (λ r. one (has_byte r b)) (inside a e rs)
    (λ r. one_and (has_byte r b) (leb r.floor n)) in
    omega arith

-- a cut raises no floor's count
pub titled_low : (t : Title) (v : View) (b n : ℕ) → low_of (titled t v) b n ≤ low_of v b n
titled_low t v b n =
    let p = ranges_part t.start (t.start + t.len) b (λ r. leb r.floor n) (omega arith) (λ r. refl) (λ r. refl) (λ r. refl) v.raws in
    omega arith

-- more ranges have a floor of at most a greater number
pub low_more : (views : List View) (b m n : ℕ) → m ≤ n → low_in views b m ≤ low_in views b n
low_more views b m n less =
    sum_by-le-sum_by (λ v. low_of v b m) (λ v. low_of v b n) views
    (λ v. sum_by-le-sum_by (λ r. one (has_byte r b && leb r.floor m)) (λ r. one (has_byte r b && leb r.floor n)) v.raws
    (λ r. each (has_byte r b) r.floor))
  where
    each : (x : Bool) (floor : ℕ) → one (x && leb floor m) ≤ one (x && leb floor n)
    each false floor = omega arith
    each true floor = elim (cases_lt m floor) [
      | inl y ↦ let z : leb floor m ≡ false = lt-leb floor m y in rw z (omega arith)
      | inr k ↦ let z : leb floor n ≡ true = le-leb floor n (omega arith) in rw z (one_small (leb floor m))
    ]

-- a counted step, and an entry that a title was uncut, name it
pub counted_names : (t : Title) (e : Entry) → counted_on t e ≤ names t e
counted_names t (Counted u step found value) = omega arith
counted_names t (Looked u found) = omega arith
counted_names t (Read u place value since owned unclean) = omega arith
counted_names t (Added word bytes) = omega arith
counted_names t (Entered keeper made) = omega arith
counted_names t (Uncut u) = omega arith

pub uncut_names : (t : Title) (e : Entry) → uncuts t e ≤ names t e
uncut_names t (Counted u step found value) = omega arith
uncut_names t (Looked u found) = omega arith
uncut_names t (Read u place value since owned unclean) = omega arith
uncut_names t (Added word bytes) = omega arith
uncut_names t (Entered keeper made) = omega arith
uncut_names t (Uncut u) = omega arith
