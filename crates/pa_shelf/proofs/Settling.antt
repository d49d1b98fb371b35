-- The ring has as many members as the root has empty spans, so 17 of them show in it.
use Rattle.std.proofs.Common.{◌≡◌, ◌≢◌, ℕ, zero, suc, ◌+◌, ◌<◌, inl, inr, Bool, true, false, if◌then◌else◌, List, map, length, [], ◌∷◌, Some, None, refl, sym, ◌∙◌, ap, subst, arith}
use Rattle.std.specs.Prelude.{AllPairs, Contains, count_by, nat_lt, slice_index}
use Rattle.std.specs.List.{filter}
use Rattle.std.proofs.lemmas.Bool.{cases_Bool, both_ways, ltb-true, lt-ltb}
use Rattle.std.proofs.lemmas.Bool.Decides.{eqb_tells}
use Rattle.std.proofs.lemmas.List.Elements.{All-contains}
use Rattle.std.proofs.lemmas.List.Kept.{AllPairs-filter}
use Rattle.std.proofs.lemmas.List.Sums.{length-filter}
use Rattle.pa_lists.proofs.Members.{not_in_none, in_cases, not_some, has, has_not, has-true}
use Rattle.pa_lists.proofs.Different.{has_some, length_is, passing_same}
use Rattle.pa_lists.proofs.Elements.{length_map}
use Rattle.pa_lists.proofs.Tests.{one_more}
use Rattle.pa_lists.proofs.Joined.{map_cases, map_in, filter_cases, filter_in, pairs_map}
use Rattle.pa_slot.specs.declared.title.Title.{Title}
use Rattle.pa_buckets.specs.declared.spans.State.TheVariants as state
use Rattle.pa_record.specs.Spans.{Span, name_of, is_in, same_state, same_place}
use Rattle.pa_record.specs.Root.{Root, put_back, returned, settled, empties, oldest_decommitted, decommitted_times}
use Rattle.pa_record.proofs.Places.{place_self}
use Rattle.pa_record.proofs.Entering.{same_state-self}
use Rattle.pa_record.proofs.Returning.{IsPutBack, find_out, put_back_out}
use Rattle.pa_region.specs.declared.view.View.{View}
use Rattle.pa_spans.specs.declared.span.Span.{Span as SpanRecord}
use Rattle.pa_spans.specs.Lists.{SpanListParts, Stand, oldest_of}
use Rattle.pa_records.specs.Words.{spans_in}
use Rattle.pa_records.specs.Stored.{AreStored}
use Rattle.pa_meta.specs.Stores.{HasSpanAt}
use Rattle.pa_shelf.specs.Shelves.{ShelfParts, RecordsRoot, IsBackAt}
use Rattle.pa_shelf.proofs.Oldest.{state_at, in_ring}

-- numbers below which those of a list are
bound : (xs : List ℕ) → (n : ℕ) × ((k : ℕ) → Contains xs k → k < n)
bound [] = (0, λ k among. absurd (not_in_none k among))
bound (x ∷ xs) =
    let (n, below) = bound xs in (
      suc (x + n),
      λ k among. elim (in_cases x k xs among) [
        | inl e ↦ omega arith
        | inr rest ↦ let b = below k rest in omega arith
      ],
    )

has_none : (k : ℕ) (xs : List ℕ) → (Contains xs k → ⊥) → has k xs ≡ false
has_none k xs never = elim (cases_Bool (has k xs)) [
  | inl hit ↦ absurd (never (has_some k xs hit))
  | inr miss ↦ miss
]

-- lists of different numbers with the same members are equally long
equally_long : (xs ys : List ℕ) → AllPairs ◌≢◌ xs → AllPairs ◌≢◌ ys → ((k : ℕ) → Contains xs k → Contains ys k) →
    ((k : ℕ) → Contains ys k → Contains xs k) → length xs ≡ length ys
equally_long xs ys once too to from =
    let (n, below) = bound xs in
    let same : (k : ℕ) → k < n → has k xs ≡ has k ys = λ k less. elim (cases_Bool (has k xs)) [
      | inl hit ↦ hit ∙ sym (has-true k ys (to k (has_some k xs hit)))
      | inr miss ↦ miss ∙ sym (has_none k ys (λ among. has_not k xs miss (from k among)))
    ] in
    length_is xs n once below
    ∙ (passing_same (λ k. has k xs) (λ k. has k ys) n same ∙ sym (length_is ys n too (λ k among. below k (from k among))))

ring_counts : (l : SpanListParts) (spans : ℕ → SpanRecord) (had : ℕ → Type 0) (ss : List Span) → Stand l spans had →
    AreStored spans had ss →
    length l.ring ≡ count_by (is_in state.Empty) ss
ring_counts l spans had ss stand st =
    let test = is_in state.Empty in
    let place : Span → ℕ = λ s. s.place in
    let far : Span → Span → Type 0 = λ s t. same_place s t ≡ false in
    let empty = filter test ss in
    let to : (k : ℕ) → Contains l.ring k → Contains (map place empty) k = λ k among.
    let here = All-contains (λ u. had u × ((spans u).state ≡ state.Empty)) l.ring k stand.in_ring among in
    let used : (spans k).state ≡ state.None → ⊥ = λ none. let no : state.Empty ≡ state.None = sym here.1 ∙ none in absurd (cc) in
    let (s, inside, is) = st.each k here.0 used in
    let e : s.state ≡ state.Empty = sym (state_at spans had ss s st inside) ∙ (ap (λ u. (spans u).state) is ∙ here.1) in
    subst (Contains (map place empty)) is
    (map_in place empty s (filter_in test ss s inside (subst (λ a. same_state s.state a ≡ true) e (same_state-self s.state)))) in
    let from : (k : ℕ) → Contains (map place empty) k → Contains l.ring k = λ k among.
    let (s, inside, is) = map_cases place empty k among in
    let both = filter_cases test ss s inside in
    subst (Contains l.ring) is (in_ring l spans had ss s stand st both.0 both.1) in
    let once : AllPairs ◌≢◌ l.ring = λ i j d less inside e. let r = stand.rise i j d less inside in
    let t = ap (λ u. (spans u).turn) e in omega arith in
    let too : AllPairs ◌≢◌ (map place empty) = pairs_map far ◌≢◌ place empty
    (λ s t a b apart same. both_ways _ apart (subst (λ (z : Span). same_place s z ≡ true)
    (st.one s t (filter_cases test ss s a).0 (filter_cases test ss t b).0 same) (place_self s)))
    (AllPairs-filter far test ss st.places) in
    equally_long l.ring (map place empty) once too to from ∙ (length_map place empty ∙ length-filter test ss)

pub empties_are : (v : View) (l : ShelfParts) (r : Root) → RecordsRoot v l r → length l.lists.ring ≡ empties r
empties_are v l r k = ring_counts l.lists (spans_in v.words) (HasSpanAt v l.supers) r.spans k.stand k.stored

-- 17 are empty, or fewer
pub settle_some : (v : View) (l : ShelfParts) (r : Root) (at : ℕ) → RecordsRoot v l r → oldest_of l.lists.ring ≡ Some at →
    settled r ≡ oldest_decommitted r
settle_some v l r at k is = elim (eqb_tells (length l.lists.ring) 17) [
  | inl w ↦
      let many = empties_are v l r k in let e = w.1 in
      let over : 16 < empties r = omega arith in
      ap (λ (b : Bool). if b then oldest_decommitted r else r) (lt-ltb 16 (empties r) over)
  | inr w ↦ absurd (not_some at (sym (ap (λ (b : Bool). if b then Some (slice_index l.lists.ring 0) else None) w.0) ∙ is))
]

pub settle_none : (v : View) (l : ShelfParts) (r : Root) → RecordsRoot v l r → oldest_of l.lists.ring ≡ None → settled r ≡ r
settle_none v l r k is = elim (eqb_tells (length l.lists.ring) 17) [
  | inl w ↦ absurd (not_some (slice_index l.lists.ring 0)
      (sym is ∙ ap (λ (b : Bool). if b then Some (slice_index l.lists.ring 0) else None) w.0))
  | inr w ↦ elim (cases_Bool (nat_lt 16 (empties r))) [
    | inl over ↦
        let many = empties_are v l r k in let few = k.few in let more = ltb-true _ _ over in
        absurd (w.1 (omega arith))
    | inr under ↦ ap (λ (b : Bool). if b then oldest_decommitted r else r) under
  ]
]

-- the root after the slot was put back, and the one after its return
pub back_is : (v : View) (l : ShelfParts) (at : ℕ) (t : Title) (r : Root) (s : Span) (n : ℕ) → IsBackAt v l at t r s n →
    IsPutBack (name_of t) r (put_back (name_of t) (Some s) r)
back_is v l at t r s n b =
    subst (λ o. IsPutBack (name_of t) r (put_back (name_of t) o r)) (find_out r s (name_of t) n b.sound b.among b.out)
    (put_back_out r (name_of t) b.sound (s, b.among, n, b.out))

pub returned_is : (v : View) (l : ShelfParts) (at : ℕ) (t : Title) (r : Root) (s : Span) (n : ℕ) → IsBackAt v l at t r s n →
    returned (name_of t) r ≡ settled (put_back (name_of t) (Some s) r)
returned_is v l at t r s n b = ap (λ o. settled (put_back (name_of t) o r)) (find_out r s (name_of t) n b.sound b.among b.out)

-- one decommit more
times_suc : (n : ℕ) (r : Root) → decommitted_times (suc n) r ≡ oldest_decommitted (decommitted_times n r)
times_suc zero r = refl
times_suc (suc n) r = times_suc n (oldest_decommitted r)

pub times_more : (n : ℕ) (r : Root) → decommitted_times (n + 1) r ≡ oldest_decommitted (decommitted_times n r)
times_more n r = ap (λ k. decommitted_times k r) (one_more n) ∙ times_suc n r
