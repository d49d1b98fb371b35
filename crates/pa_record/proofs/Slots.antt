-- Where the slots of a sound root's spans lie: each in its span, and two apart.
use Rattle.std.proofs.Common.{◌≡◌, ℕ, ◌+◌, ◌*◌, ◌<◌, ◌≤◌, ap, arith, ◌⊎◌, inl, inr}
use Rattle.std.specs.Prelude.{Contains}
use Rattle.std.proofs.lemmas.Bool.{cases_Bool, cases_order}
use Rattle.std.proofs.Math.Nat.{mul-le-mul_left}
use Rattle.pa_buckets.specs.Table.{slot_of, slots_of}
use Rattle.pa_buckets.proofs.Facts.{IsRow-of}
use Rattle.pa_record.specs.Spans.{Span, bytes_of, title_at, same_place}
use Rattle.pa_record.specs.Root.{Root}
use Rattle.pa_record.specs.Sound.{IsCounted, IsSound, TitlesApart}
use Rattle.pa_record.proofs.Places.{one_span}

-- the slot begins and ends in its span, and isn't empty
pub record IsWithin (s : Span) (n : ℕ) : Type 0 where
  pub from : s.place ≤ (title_at s n).start
  pub to : (title_at s n).start + slot_of s.class ≤ s.place + bytes_of s
  pub some : 0 < slot_of s.class

next_slot : (size n m : ℕ) → n < m → size * n + size ≤ size * m
next_slot size n m less = let up : size * (n + 1) ≤ size * m = mul-le-mul_left size (omega arith) in omega arith

pub slot_within : (s : Span) (n : ℕ) → IsCounted s → n < slots_of s.class → IsWithin s n
slot_within s n counted below =
    let b = IsRow-of s.class counted.class in
    let up = next_slot (slot_of s.class) n (slots_of s.class) (omega arith) in
    let turned : slots_of s.class * slot_of s.class ≡ slot_of s.class * slots_of s.class = omega arith in
    let inside = b.inside in
    let least = b.least_slot in
    record { from = omega arith; to = omega arith; some = omega arith }

-- two slots of one super page lie apart, or are one
pub record AreOne (s u : Span) (n m : ℕ) : Type 0 where
  pub span : s ≡ u
  pub number : n ≡ m

pub slots_apart : (r : Root) (s u : Span) (n m : ℕ) → IsSound r → Contains r.spans s → Contains r.spans u → n < slots_of s.class →
    m < slots_of u.class → s.born ≡ u.born →
    AreOne s u n m ⊎ TitlesApart (title_at s n) (title_at u m)
slots_apart r s u n m sound first second below below' born = elim (cases_Bool (same_place s u)) [
  | inl same ↦
      let e = one_span s u r.spans sound.places first second same in
      let place : s.place ≡ u.place = ap (λ (z : Span). z.place) e in
      let size : slot_of s.class ≡ slot_of u.class = ap (λ (z : Span). slot_of z.class) e in
      let right : slot_of s.class * m ≡ slot_of u.class * m = ap (λ k. k * m) size in
      elim (cases_order n m) [
        | inl equal ↦ inl (record { span = e; number = equal })
        | inr other ↦ elim other [
          | inl less ↦ let up = next_slot (slot_of s.class) n m less in inr (inl (omega arith))
          | inr more ↦ let up = next_slot (slot_of s.class) m n more in inr (inr (omega arith))
        ]
      ]
  | inr far ↦
      let w = slot_within s n (sound.spans s first).counted below in
      let w' = slot_within u m (sound.spans u second).counted below' in
      let p = w.from in let q = w.to in let p' = w'.from in let q' = w'.to in
      elim (sound.apart s u first second far born) [
        | inl before ↦ inr (inl (omega arith))
        | inr after ↦ inr (inr (omega arith))
      ]
]

-- two slots of a root that start at the same byte of one super page are one slot
pub one_slot : (r : Root) (s u : Span) (n m : ℕ) → IsSound r → Contains r.spans s → Contains r.spans u → n < slots_of s.class →
    m < slots_of u.class → s.born ≡ u.born →
    (title_at s n).start ≡ (title_at u m).start → AreOne s u n m
one_slot r s u n m sound first second below below' born start = elim (slots_apart r s u n m sound first second below below' born) [
  | inl one ↦ one
  | inr apart ↦
      let w = (slot_within s n (sound.spans s first).counted below).some in
      let w' = (slot_within u m (sound.spans u second).counted below').some in
      elim apart [ inl before ↦ absurd (omega arith) | inr after ↦ absurd (omega arith) ]
]
