-- A view is parted by a hand: each thing is with the giver or with the note.
use Rattle.std.proofs.Common.{◌≡◌, ℕ, ◌+◌, ◌-◌, ◌<◌, ◌≤◌, Bool, true, false, ◌&&◌, ◌||◌, List, [], ◌∷◌, refl, sym, ◌∙◌, ap, arith, ◌⊎◌, inl, inr, ltb, leb, min, max}
use Rattle.std.specs.Prelude.{if◌then◌else◌}
use Rattle.std.specs.List.{sum_by}
use Rattle.std.proofs.lemmas.List.Sums.{sum_by-cons, sum_by-append, sum_by-le-sum_by}
use Rattle.std.proofs.lemmas.Bool.{cases_lt, lt-ltb, le-ltb, le-leb, lt-leb, true≢false}
use Rattle.pa_lists.proofs.Tests.{both_true}
use Rattle.pa_slot.specs.declared.title.Title.{Title}
use Rattle.pa_slot.specs.declared.title.OwnState.{OwnState}
use Rattle.pa_slot.specs.declared.title.OwnState.TheVariants.{Clean}
use Rattle.pa_machine.specs.declared.event.Item.{Item}
use Rattle.pa_machine.specs.declared.event.Item.TheVariants.{Raw, Free, Own, Ref}
use Rattle.pa_slot.specs.Titles.{same_title, same_state}
use Rattle.pa_slot.specs.Holdings.{FreePiece, OwnPiece, RefPiece, Thing, RawByte, FreeTitle, OwnOf, OwnAs, SealedOwn, RefOf, one, amount}
use Rattle.pa_slot.proofs.Same.{title_tells, state_tells}
use Rattle.pa_region.specs.declared.view.RawRange.{RawRange}
use Rattle.pa_region.specs.declared.view.OwnTitle.{OwnTitle}
use Rattle.pa_region.specs.declared.view.View.{View}
use Rattle.pa_region.specs.Views.{raw_piece, own_piece, held_of_view, own_of, own_as, sealed_of, low_of, idle_of}
use Rattle.pa_region.specs.Moves.{without, is_title_of}
use Rattle.pa_region.specs.Hands.{below_part, above_part, inner_part, outside, inside, is_clean_of, first_sealed, without_item, with_item, HoldsGiven, CanGive, left_of, given_of}
use Rattle.pa_region.proofs.Adding.{IsFirst, one_and, one_less, sum_same, sum_none, first_of}
use Rattle.pa_region.proofs.Pieces.{held_split, found_title}

-- the test of a range
abbrev pub has_byte : RawRange → ℕ → Bool
has_byte r b = leb r.start b && ltb b (r.start + r.len)

pub range_cases : (r : RawRange) (b : ℕ) → ((r.start ≤ b) × (b < r.start + r.len) × (has_byte r b ≡ true)) ⊎
    (((r.start ≤ b) × (b < r.start + r.len) → ⊥) × (has_byte r b ≡ false))
range_cases r b = elim (cases_lt b r.start) [
  | inl y ↦ inr ((λ h. let z = h.0 in omega arith), rw (lt-leb r.start b y) refl)
  | inr n ↦ elim (cases_lt b (r.start + r.len)) [
    | inl y ↦ inl (n, y, rw (le-leb r.start b n, lt-ltb b (r.start + r.len) y) refl)
    | inr m ↦ inr ((λ h. let z = h.1 in omega arith), rw (le-leb r.start b n, le-ltb b (r.start + r.len) m) refl)
  ]
]

-- a byte of a range lies in exactly one of its three parts
three_parts : (a e : ℕ) (r : RawRange) (b : ℕ) → a ≤ e → (floor : Bool) →
    one (has_byte (below_part a r) b && floor) + one (has_byte (above_part e r) b && floor) + one
    (has_byte (inner_part a e r) b && floor) ≡ one (has_byte r b && floor)
three_parts a e r b order floor =
    elim (range_cases (below_part a r) b) [
      | inl x ↦
          let x0 = x.0 in let x1 = x.1 in
          elim (range_cases (above_part e r) b) [
            | inl y ↦ let y0 = y.0 in let y1 = y.1 in absurd (omega arith)
            | inr y ↦ elim (range_cases (inner_part a e r) b) [
              | inl z ↦ let z0 = z.0 in let z1 = z.1 in absurd (omega arith)
              | inr z ↦ elim (range_cases r b) [
                | inl w ↦ rw (x.2, y.1, z.1, w.2) omega arith
                | inr w ↦
                    absurd (w.0 (omega arith, omega arith))
              ]
            ]
          ]
      | inr x ↦ elim (range_cases (above_part e r) b) [
        | inl y ↦
            let y0 = y.0 in let y1 = y.1 in
            elim (range_cases (inner_part a e r) b) [
              | inl z ↦ let z0 = z.0 in let z1 = z.1 in absurd (omega arith)
              | inr z ↦ elim (range_cases r b) [
                | inl w ↦ rw (x.1, y.2, z.1, w.2) omega arith
                | inr w ↦
                    absurd (w.0 (omega arith, omega arith))
              ]
            ]
        | inr y ↦ elim (range_cases (inner_part a e r) b) [
          | inl z ↦
              let z0 = z.0 in let z1 = z.1 in
              elim (range_cases r b) [ inl w ↦ rw (x.1, y.1, z.2, w.2) omega arith | inr w ↦ absurd (w.0 (omega arith, omega arith)) ]
          | inr z ↦ elim (range_cases r b) [
            | inl w ↦ let w0 = w.0 in let w1 = w.1 in absurd (nowhere x.0 y.0 z.0 w0 w1)
            | inr w ↦ rw (x.1, y.1, z.1, w.1) refl
          ]
        ]
      ]
    ]
  where
    nowhere : ((r.start ≤ b) × (b < r.start + min r.len (a - r.start)) → ⊥) →
        ((max r.start e ≤ b) × (b < max r.start e + ((r.start + r.len) - max r.start e)) → ⊥) →
        ((max r.start a ≤ b) × (b < max r.start a + (min (r.start + r.len) e - max r.start a)) → ⊥) → r.start ≤ b → b < r.start + r.len → ⊥
    nowhere f g h low high = elim (cases_lt b a) [
      | inl y ↦ f (low, omega arith)
      | inr n ↦ elim (cases_lt b e) [ inl y ↦ h (omega arith, omega arith) | inr m ↦ g (omega arith, omega arith) ]
    ]

-- an amount that goes by bytes is parted as the bytes of the ranges are
pub ranges_part : (a e b : ℕ) (floor : RawRange → Bool) → a ≤ e → ((r : RawRange) → floor (below_part a r) ≡ floor r)
    → ((r : RawRange) → floor (above_part e r) ≡ floor r) → ((r : RawRange) → floor (inner_part a e r) ≡ floor r) →
    (rs : List RawRange) →
    sum_by (λ r. one (has_byte r b && floor r)) (outside a e rs) + sum_by (λ r. one (has_byte r b && floor r)) (inside a e rs) ≡ sum_by
    (λ r. one (has_byte r b && floor r)) rs
ranges_part a e b floor order f g h [] = refl
ranges_part a e b floor order f g h (r ∷ rs) =
    let again = ranges_part a e b floor order f g h rs in
    let f1 = sum_by-cons (λ r. one (has_byte r b && floor r)) (below_part a r) (above_part e r ∷ outside a e rs) in
    let f2 = sum_by-cons (λ r. one (has_byte r b && floor r)) (above_part e r) (outside a e rs) in
    let f3 = sum_by-cons (λ r. one (has_byte r b && floor r)) (inner_part a e r) (inside a e rs) in
    let f4 = sum_by-cons (λ r. one (has_byte r b && floor r)) r rs in
    let t = three_parts a e r b order (floor r) in
    let p : one (has_byte (below_part a r) b && floor (below_part a r)) ≡ one (has_byte (below_part a r) b && floor r) =
    ap (λ x. one (has_byte (below_part a r) b && x)) (f r) in
    let q : one (has_byte (above_part e r) b && floor (above_part e r)) ≡ one (has_byte (above_part e r) b && floor r) =
    ap (λ x. one (has_byte (above_part e r) b && x)) (g r) in
    let s : one (has_byte (inner_part a e r) b && floor (inner_part a e r)) ≡ one (has_byte (inner_part a e r) b && floor r) =
    ap (λ x. one (has_byte (inner_part a e r) b && x)) (h r) in
    omega arith

-- with no test of the floor
and_true : (b : Bool) → one (b && true) ≡ one b
and_true true = refl
and_true false = refl

nothing : (a e : ℕ) (rs : List RawRange) (x : Thing) → ((r : RawRange) → amount x (raw_piece r) ≡ 0) →
    sum_by (λ r. amount x (raw_piece r)) (outside a e rs) + sum_by (λ r. amount x (raw_piece r)) (inside a e rs) ≡ sum_by
    (λ r. amount x (raw_piece r)) rs
nothing a e rs x none =
    let f = sum_none (λ r. amount x (raw_piece r)) (outside a e rs) none in
    let g = sum_none (λ r. amount x (raw_piece r)) (inside a e rs) none in
    let h = sum_none (λ r. amount x (raw_piece r)) rs none in
    omega arith

-- what raw ranges hold, outside and inside
pub raws_part : (a e : ℕ) → a ≤ e → (rs : List RawRange) (x : Thing) →
    sum_by (λ r. amount x (raw_piece r)) (outside a e rs) + sum_by (λ r. amount x (raw_piece r)) (inside a e rs) ≡ sum_by
    (λ r. amount x (raw_piece r)) rs
raws_part a e order rs (RawByte b) =
    let p = ranges_part a e b (λ r. true) order (λ r. refl) (λ r. refl) (λ r. refl) rs in
    let f = sum_same (λ r. one (has_byte r b && true)) (λ r. amount (RawByte b) (raw_piece r)) (outside a e rs)
    (λ r. and_true (has_byte r b)) in
    let g = sum_same (λ r. one (has_byte r b && true)) (λ r. amount (RawByte b) (raw_piece r)) (inside a e rs)
    (λ r. and_true (has_byte r b)) in
    let h = sum_same (λ r. one (has_byte r b && true)) (λ r. amount (RawByte b) (raw_piece r)) rs (λ r. and_true (has_byte r b)) in
    omega arith
raws_part a e order rs (FreeTitle t) = nothing a e rs (FreeTitle t) (λ r. refl)
raws_part a e order rs (OwnOf t) = nothing a e rs (OwnOf t) (λ r. refl)
raws_part a e order rs (OwnAs t s) = nothing a e rs (OwnAs t s) (λ r. refl)
raws_part a e order rs (SealedOwn t) = nothing a e rs (SealedOwn t) (λ r. refl)
raws_part a e order rs (RefOf t) = nothing a e rs (RefOf t) (λ r. refl)

-- a clean Own is one as a piece
clean_piece : (t : Title) (o : OwnTitle) → is_clean_of t o ≡ true → own_piece o ≡ OwnPiece o.sealed t Clean
clean_piece t o e = elim (title_tells o.title t) [
  | inl y ↦ elim (state_tells o.state Clean) [
    | inl z ↦ ap (λ u. OwnPiece o.sealed u o.state) y.1 ∙ ap (OwnPiece o.sealed t) z.1
    | inr n ↦ absurd (true≢false (sym e ∙ rw (y.0, n.0) refl))
  ]
  | inr n ↦ absurd (true≢false (sym e ∙ rw n.0 refl))
]

-- the Own that is left out first is sealed as the list says
sealed_left : (test : OwnTitle → Bool) (os : List OwnTitle) → 0 < sum_by (λ o. one (test o)) os →
    sum_by (λ (o : OwnTitle). one o.sealed) (without test os) + one (first_sealed test os) ≡ sum_by (λ (o : OwnTitle). one o.sealed) os
sealed_left test [] h = absurd (omega arith)
sealed_left test (o ∷ os) h = go (test o) (sum_by-cons (λ p. one (test p)) o os) (sealed_left test os)
  where
    go : (b : Bool) → sum_by (λ p. one (test p)) (o ∷ os) ≡ one b + sum_by (λ p. one (test p)) os →
        (0 < sum_by (λ p. one (test p)) os → sum_by (λ (p : OwnTitle). one p.sealed) (without test os) + one (first_sealed test os) ≡ sum_by
        (λ (p : OwnTitle). one p.sealed) os) →
        sum_by (λ (p : OwnTitle). one p.sealed) (if b then os else o ∷ without test os) + one
        (if b then o.sealed else first_sealed test os) ≡ sum_by (λ (p : OwnTitle). one p.sealed) (o ∷ os)
    go true c again = omega (arith, sum_by-cons (λ (p : OwnTitle). one p.sealed) o os)
    go false c again =
        let rest = again (omega arith) in
        omega (
          arith,
          sum_by-cons (λ (p : OwnTitle). one p.sealed) o os,
          sum_by-cons (λ (p : OwnTitle). one p.sealed) o (without test os),
        )

seal_is : (test : OwnTitle → Bool) (os : List OwnTitle) (o : OwnTitle) → 0 < sum_by (λ p. one (test p)) os → IsFirst test os o →
    first_sealed test os ≡ o.sealed
seal_is test os o h first =
    let mine = first.left_out (λ (p : OwnTitle). one p.sealed) in
    let listed = sealed_left test os h in
    same (first_sealed test os) o.sealed (omega arith)
  where
    same : (b c : Bool) → one b ≡ one c → b ≡ c
    same true true e = refl
    same true false e = absurd (omega arith)
    same false true e = absurd (omega arith)
    same false false e = refl

-- one item
item_part : (x : Item) (v w : View) → HoldsGiven x v → (th : Thing) →
    held_of_view (without_item x v) th + held_of_view (with_item x v w) th ≡ held_of_view v th + held_of_view w th
item_part (Raw start len) v w has th =
    let p = raws_part start (start + len) (omega arith) v.raws th in
    let a = sum_by-append (λ r. amount th (raw_piece r)) (inside start (start + len) v.raws) w.raws in
    let s1 = held_split (without_item (Raw start len) v) th in
    let s2 = held_split (with_item (Raw start len) v w) th in
    let s3 = held_split v th in let s4 = held_split w th in
    omega arith
item_part (Free t) v w has th =
    let first = first_of (is_title_of t) v.frees has in
    let f = first.1.left_out (λ u. amount th (FreePiece u)) in
    let same : amount th (FreePiece first.0) ≡ amount th (FreePiece t) =
    ap (λ u. amount th (FreePiece u)) (found_title t first.0 first.1.passes) in
    let a = sum_by-cons (λ u. amount th (FreePiece u)) t w.frees in
    let s1 = held_split (without_item (Free t) v) th in
    let s2 = held_split (with_item (Free t) v w) th in
    let s3 = held_split v th in let s4 = held_split w th in
    omega arith
item_part (Own t) v w has th =
    let first = first_of (is_clean_of t) v.owns has in
    let f = first.1.left_out (λ o. amount th (own_piece o)) in
    let seal = first_sealed (is_clean_of t) v.owns in
    let is_seal = seal_is (is_clean_of t) v.owns first.0 has first.1 in
    let same : amount th (own_piece first.0) ≡ amount th (OwnPiece seal t Clean) =
    ap (amount th) (clean_piece t first.0 first.1.passes ∙ ap (λ s. OwnPiece s t Clean) (sym is_seal)) in
    let given : OwnTitle = record { title = t; state = Clean; idle = false; sealed = seal } in
    let a = sum_by-cons (λ o. amount th (own_piece o)) given w.owns in
    let s1 = held_split (without_item (Own t) v) th in
    let s2 = held_split (with_item (Own t) v w) th in
    let s3 = held_split v th in let s4 = held_split w th in
    omega arith
item_part (Ref t) v w has th =
    let first = first_of (is_title_of t) v.refs has in
    let f = first.1.left_out (λ u. amount th (RefPiece u)) in
    let same : amount th (RefPiece first.0) ≡ amount th (RefPiece t) =
    ap (λ u. amount th (RefPiece u)) (found_title t first.0 first.1.passes) in
    let a = sum_by-cons (λ u. amount th (RefPiece u)) t w.refs in
    let s1 = held_split (without_item (Ref t) v) th in
    let s2 = held_split (with_item (Ref t) v w) th in
    let s3 = held_split v th in let s4 = held_split w th in
    omega arith

-- the floors of one item
item_floors : (x : Item) (v w : View) (b n : ℕ) → low_of (without_item x v) b n + low_of (with_item x v w) b n ≡ low_of v b n + low_of w b n
item_floors (Raw start len) v w b n =
    let p = ranges_part start (start + len) b (λ r. leb r.floor n) (omega arith) (λ r. refl) (λ r. refl) (λ r. refl) v.raws in
    let a = sum_by-append (λ r. one (has_byte r b && leb r.floor n)) (inside start (start + len) v.raws) w.raws in
    omega arith
item_floors (Free t) v w b n = refl
item_floors (Own t) v w b n = refl
item_floors (Ref t) v w b n = refl

-- what is known of its Refs may be forgotten
item_idle : (x : Item) (v w : View) → HoldsGiven x v → (t : Title) →
    idle_of (without_item x v) t + idle_of (with_item x v w) t ≤ idle_of v t + idle_of w t
item_idle (Raw start len) v w has t = omega arith
item_idle (Free u) v w has t = omega arith
item_idle (Own u) v w has t =
    let first = first_of (is_clean_of u) v.owns has in
    let f = first.1.left_out (λ (o : OwnTitle). one (same_title o.title t && (o.idle || o.sealed))) in
    let seal = first_sealed (is_clean_of u) v.owns in
    let given : OwnTitle = record { title = u; state = Clean; idle = false; sealed = seal } in
    let a = sum_by-cons (λ (o : OwnTitle). one (same_title o.title t && (o.idle || o.sealed))) given w.owns in
    let is_seal = seal_is (is_clean_of u) v.owns first.0 has first.1 in
    let is : first.0.title ≡ u =
    found_title u first.0.title (both_true (same_title first.0.title u) (same_state first.0.state Clean) first.1.passes).0 in
    let z : one (same_title u t && (false || seal)) ≤ one (same_title first.0.title t && (first.0.idle || first.0.sealed)) =
    rw (is, is_seal) (one_less (same_title u t) first.0.idle first.0.sealed) in
    omega arith
item_idle (Ref u) v w has t = omega arith

-- amounts that go by an Own's title and state
abbrev owns_by : (Title → OwnState → ℕ) → View → ℕ
owns_by g v = sum_by (λ (o : OwnTitle). g o.title o.state) v.owns

-- a clean Own counts as one
clean_amount : (g : Title → OwnState → ℕ) (t : Title) (o : OwnTitle) → is_clean_of t o ≡ true → g o.title o.state ≡ g t Clean
clean_amount g t o e = elim (title_tells o.title t) [
  | inl y ↦ elim (state_tells o.state Clean) [
    | inl z ↦ ap (λ u. g u o.state) y.1 ∙ ap (g t) z.1
    | inr n ↦ absurd (true≢false (sym e ∙ rw (y.0, n.0) refl))
  ]
  | inr n ↦ absurd (true≢false (sym e ∙ rw n.0 refl))
]

item_owns : (g : Title → OwnState → ℕ) (x : Item) (v w : View) → HoldsGiven x v →
    owns_by g (without_item x v) + owns_by g (with_item x v w) ≡ owns_by g v + owns_by g w
item_owns g (Raw start len) v w has = refl
item_owns g (Free t) v w has = refl
item_owns g (Own t) v w has =
    let first = first_of (is_clean_of t) v.owns has in
    let f = first.1.left_out (λ (o : OwnTitle). g o.title o.state) in
    let same = clean_amount g t first.0 first.1.passes in
    let given : OwnTitle = record { title = t; state = Clean; idle = false; sealed = first_sealed (is_clean_of t) v.owns } in
    let a = sum_by-cons (λ (o : OwnTitle). g o.title o.state) given w.owns in
    omega arith
item_owns g (Ref t) v w has = refl

pub items_owns : (g : Title → OwnState → ℕ) (xs : List Item) (v w : View) → CanGive xs v →
    owns_by g (left_of xs v) + owns_by g (given_of xs v w) ≡ owns_by g v + owns_by g w
items_owns g [] v w can = refl
items_owns g (x ∷ xs) v w can = items_owns g xs (without_item x v) (with_item x v w) can.1 ∙ item_owns g x v w can.0

-- what is given counts nothing if a clean Own counts nothing
pub given_nothing : (g : Title → OwnState → ℕ) → ((t : Title) → g t Clean ≡ 0) → (xs : List Item) (v w : View) →
    owns_by g (given_of xs v w) ≡ owns_by g w
given_nothing g none [] v w = refl
given_nothing g none (x ∷ xs) v w = given_nothing g none xs (without_item x v) (with_item x v w) ∙ here x
  where
    here : (x : Item) → owns_by g (with_item x v w) ≡ owns_by g w
    here (Raw start len) = refl
    here (Free t) = refl
    here (Own t) =
        let given : OwnTitle = record { title = t; state = Clean; idle = false; sealed = first_sealed (is_clean_of t) v.owns } in
        let a = sum_by-cons (λ (o : OwnTitle). g o.title o.state) given w.owns in
        let z = none t in
        omega arith
    here (Ref t) = refl

-- all items
pub items_part : (xs : List Item) (v w : View) → CanGive xs v → (th : Thing) →
    held_of_view (left_of xs v) th + held_of_view (given_of xs v w) th ≡ held_of_view v th + held_of_view w th
items_part [] v w can th = refl
items_part (x ∷ xs) v w can th = items_part xs (without_item x v) (with_item x v w) can.1 th ∙ item_part x v w can.0 th

pub items_floors : (xs : List Item) (v w : View) (b n : ℕ) →
    low_of (left_of xs v) b n + low_of (given_of xs v w) b n ≡ low_of v b n + low_of w b n
items_floors [] v w b n = refl
items_floors (x ∷ xs) v w b n = items_floors xs (without_item x v) (with_item x v w) b n ∙ item_floors x v w b n

pub items_idle : (xs : List Item) (v w : View) → CanGive xs v → (t : Title) →
    idle_of (left_of xs v) t + idle_of (given_of xs v w) t ≤ idle_of v t + idle_of w t
items_idle [] v w can t = omega arith
items_idle (x ∷ xs) v w can t =
    let again = items_idle xs (without_item x v) (with_item x v w) can.1 t in
    let here = item_idle x v w can.0 t in
    omega arith

-- the seal of the one Own of a title, if it is clean
pub given_seal : (v : View) (t : Title) → own_of v t ≤ 1 → 0 < own_as v t Clean →
    sealed_of v t ≡ one (first_sealed (is_clean_of t) v.owns)
given_seal v t few has =
    let first = first_of (is_clean_of t) v.owns has in
    let title : same_title first.0.title t ≡ true =
    (both_true (same_title first.0.title t) (same_state first.0.state Clean) first.1.passes).0 in
    let mine : one (same_title first.0.title t) ≡ 1 = ap one title in
    let same : one (same_title first.0.title t && first.0.sealed) ≡ one first.0.sealed = rw title refl in
    let all = first.1.left_out (λ (o : OwnTitle). one (same_title o.title t)) in
    let seals = first.1.left_out (λ (o : OwnTitle). one (same_title o.title t && o.sealed)) in
    let rest = sum_by-le-sum_by (λ (o : OwnTitle). one (same_title o.title t && o.sealed)) (λ (o : OwnTitle). one (same_title o.title t))
    (without (is_clean_of t) v.owns) (λ o. one_and (same_title o.title t) o.sealed) in
    let is = ap one (seal_is (is_clean_of t) v.owns first.0 has first.1) in
    omega arith
