-- What a hand gives goes item by item.
use Rattle.std.proofs.Common.{◌≡◌, ℕ, ◌+◌, ◌<◌, ◌≤◌, Bool, false, List, [], ◌∷◌, refl, arith, inl, inr}
use Rattle.std.specs.List.{sum_by}
use Rattle.std.proofs.lemmas.List.Sums.{sum_by-cons, sum_by-append}
use Rattle.pa_slot.specs.declared.title.Title.{Title}
use Rattle.pa_slot.specs.declared.title.OwnState.TheVariants.{Clean}
use Rattle.pa_machine.specs.declared.event.Item.{Item}
use Rattle.pa_machine.specs.declared.event.Item.TheVariants.{Raw, Free, Own, Ref}
use Rattle.pa_slot.specs.Holdings.{FreePiece, RefPiece, RawPiece, Thing, RawByte, FreeTitle, OwnOf, OwnAs, SealedOwn, RefOf, amount}
use Rattle.pa_machine.specs.Events.{piece_of}
use Rattle.pa_region.specs.declared.view.RawRange.{RawRange}
use Rattle.pa_region.specs.declared.view.OwnTitle.{OwnTitle}
use Rattle.pa_region.specs.declared.view.View.{View}
use Rattle.pa_region.specs.Views.{raw_piece, own_piece, pieces_of, held_of_view}
use Rattle.pa_region.specs.Hands.{inner_part, inside, is_clean_of, first_sealed, without_item, with_item, HoldsGiven, CanGive, left_of, given_of}
use Rattle.pa_region.proofs.Adding.{sum_none}
use Rattle.pa_region.proofs.Pieces.{held_split, frees_have, refs_have, owns_as_have}
use Rattle.pa_region.proofs.Parting.{range_cases, items_part}
use Rattle.pa_region_core.proofs.Passing.{HasItem, ArePassed}

-- what is taken out of raw ranges has their bytes in between, and no others
abbrev has_raw : ℕ → RawRange → ℕ
has_raw b r = amount (RawByte b) (raw_piece r)

inner_has : (a e b : ℕ) (r : RawRange) → a ≤ b → b < e → has_raw b (inner_part a e r) ≡ has_raw b r
inner_has a e b r low high = elim (range_cases (inner_part a e r) b) [
  | inl x ↦
      let x0 = x.0 in let x1 = x.1 in
      elim (range_cases r b) [ inl y ↦ rw (x.2, y.2) refl | inr y ↦ absurd (y.0 (omega arith, omega arith)) ]
  | inr x ↦ elim (range_cases r b) [
    | inl y ↦ let y0 = y.0 in let y1 = y.1 in absurd (x.0 (omega arith, omega arith))
    | inr y ↦ rw (x.1, y.1) refl
  ]
]

inner_out : (a e b : ℕ) (r : RawRange) → ((a ≤ b) × (b < e) → ⊥) → has_raw b (inner_part a e r) ≡ 0
inner_out a e b r out = elim (range_cases (inner_part a e r) b) [
  | inl x ↦ let x0 = x.0 in let x1 = x.1 in absurd (out (omega arith, omega arith))
  | inr x ↦ rw x.1 refl
]

inside_has : (a e b : ℕ) (rs : List RawRange) → a ≤ b → b < e → sum_by (has_raw b) (inside a e rs) ≡ sum_by (has_raw b) rs
inside_has a e b [] low high = refl
inside_has a e b (r ∷ rs) low high =
    let again = inside_has a e b rs low high in
    let here = inner_has a e b r low high in
    let c = sum_by-cons (has_raw b) (inner_part a e r) (inside a e rs) in
    let d = sum_by-cons (has_raw b) r rs in
    omega arith

inside_out : (a e b : ℕ) (rs : List RawRange) → ((a ≤ b) × (b < e) → ⊥) → sum_by (has_raw b) (inside a e rs) ≡ 0
inside_out a e b [] out = refl
inside_out a e b (r ∷ rs) out =
    let again = inside_out a e b rs out in
    let here = inner_out a e b r out in
    let c = sum_by-cons (has_raw b) (inner_part a e r) (inside a e rs) in
    omega arith

-- a view's raw bytes are in its ranges
raws_have : (v : View) (b : ℕ) → held_of_view v (RawByte b) ≡ sum_by (has_raw b) v.raws
raws_have v b =
    let s = held_split v (RawByte b) in
    let a = sum_none (λ (u : Title). amount (RawByte b) (FreePiece u)) v.frees (λ u. refl) in
    let c = sum_none (λ (o : OwnTitle). amount (RawByte b) (own_piece o)) v.owns (λ o. refl) in
    let d = sum_none (λ (u : Title). amount (RawByte b) (RefPiece u)) v.refs (λ u. refl) in
    omega arith

-- no byte is twice among a view's raw ranges
abbrev pub HasRawOnce : View → Type 0
HasRawOnce v = (b : ℕ) → held_of_view v (RawByte b) ≤ 1

-- what comes out of raw ranges is the range that is given
range_given : (start len : ℕ) (v : View) (th : Thing) → HoldsGiven (Raw start len) v → HasRawOnce v →
    sum_by (λ r. amount th (raw_piece r)) (inside start (start + len) v.raws) ≡ amount th (RawPiece start len)
range_given start len v (RawByte b) has once =
    let range : RawRange = record { start = start; len = len; floor = 0 } in
    elim (range_cases range b) [
      | inl x ↦
          let x0 = x.0 in let x1 = x.1 in
          let i = inside_has start (start + len) b v.raws x0 x1 in
          let h = has.2 b x0 x1 in
          let o = once b in
          let r = raws_have v b in
          let one_is : amount (RawByte b) (RawPiece start len) ≡ 1 = rw x.2 refl in
          omega arith
      | inr x ↦
          let i = inside_out start (start + len) b v.raws x.0 in
          let none_is : amount (RawByte b) (RawPiece start len) ≡ 0 = rw x.1 refl in
          omega arith
    ]
range_given start len v (FreeTitle t) has once =
    sum_none (λ (r : RawRange). amount (FreeTitle t) (raw_piece r)) (inside start (start + len) v.raws) (λ r. refl)
range_given start len v (OwnOf t) has once =
    sum_none (λ (r : RawRange). amount (OwnOf t) (raw_piece r)) (inside start (start + len) v.raws) (λ r. refl)
range_given start len v (OwnAs t s) has once =
    sum_none (λ (r : RawRange). amount (OwnAs t s) (raw_piece r)) (inside start (start + len) v.raws) (λ r. refl)
range_given start len v (SealedOwn t) has once =
    sum_none (λ (r : RawRange). amount (SealedOwn t) (raw_piece r)) (inside start (start + len) v.raws) (λ r. refl)
range_given start len v (RefOf t) has once =
    sum_none (λ (r : RawRange). amount (RefOf t) (raw_piece r)) (inside start (start + len) v.raws) (λ r. refl)

-- whether the item is an Own that this view gives sealed
abbrev gives_sealed : Item → View → Bool
gives_sealed (Raw start len) v = false
gives_sealed (Free t) v = false
gives_sealed (Own t) v = first_sealed (is_clean_of t) v.owns
gives_sealed (Ref t) v = false

-- a view that gets an item has this item more
item_came : (x : Item) (v w : View) → HoldsGiven x v → HasRawOnce v → (th : Thing) →
    held_of_view (with_item x v w) th ≡ held_of_view w th + amount th (piece_of (gives_sealed x v) x)
item_came (Raw start len) v w has once th =
    let g = range_given start len v th has once in
    let a = sum_by-append (λ r. amount th (raw_piece r)) (inside start (start + len) v.raws) w.raws in
    let s1 = held_split (with_item (Raw start len) v w) th in
    let s2 = held_split w th in
    omega arith
item_came (Free t) v w has once th =
    let a = sum_by-cons (λ u. amount th (FreePiece u)) t w.frees in
    let s1 = held_split (with_item (Free t) v w) th in
    let s2 = held_split w th in
    omega arith
item_came (Own t) v w has once th =
    let given : OwnTitle = record { title = t; state = Clean; idle = false; sealed = first_sealed (is_clean_of t) v.owns } in
    let a = sum_by-cons (λ o. amount th (own_piece o)) given w.owns in
    let s1 = held_split (with_item (Own t) v w) th in
    let s2 = held_split w th in
    omega arith
item_came (Ref t) v w has once th =
    let a = sum_by-cons (λ u. amount th (RefPiece u)) t w.refs in
    let s1 = held_split (with_item (Ref t) v w) th in
    let s2 = held_split w th in
    omega arith

-- the giver of an item has it once less
item_out : (x : Item) (v w : View) → HoldsGiven x v → HasRawOnce v → (th : Thing) →
    held_of_view (without_item x v) th + amount th (piece_of (gives_sealed x v) x) ≡ held_of_view v th
item_out x v w has once th =
    let p = items_part (x ∷ []) v w (has, tt) th in
    let c = item_came x v w has once th in
    omega arith

given_has : (x : Item) (v : View) → HoldsGiven x v → HasItem (pieces_of v) x
given_has (Raw start len) v has = has.2
given_has (Free t) v has = let e = frees_have v t in omega arith
given_has (Own t) v has = let e = owns_as_have v t Clean in omega arith
given_has (Ref t) v has = let e = refs_have v t in omega arith

-- all items of a parcel
pub items_pass : (xs : List Item) (v w : View) → CanGive xs v → HasRawOnce v →
    ArePassed xs (pieces_of v) (pieces_of w) (pieces_of (left_of xs v)) (pieces_of (given_of xs v w))
items_pass [] v w can once = (refl, refl)
items_pass (x ∷ xs) v w can once = (
  pieces_of (without_item x v),
  pieces_of (with_item x v w),
  record {
    has = given_has x v can.0;
    sealed = gives_sealed x v;
    out = item_out x v w can.0 once;
    came = item_came x v w can.0 once;
  },
  items_pass xs (without_item x v) (with_item x v w) can.1
      (λ b. let o = item_out x v w can.0 once (RawByte b) in let e = once b in omega arith),
)
