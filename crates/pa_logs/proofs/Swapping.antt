-- The exchanges have one order: that of the cells' list.
use Rattle.std.proofs.Common.{◌≡◌, ◌≢◌, ℕ, zero, suc, ◌+◌, ◌<◌, ◌≤◌, List, [], ◌∷◌, length, filter, map, slice_get, Some, refl, sym, ◌∙◌, ap, subst, arith, inl, inr}
use Rattle.std.specs.Prelude.{Contains, AllPairs}
use Rattle.std.specs.List.{AllByRecursion as Each}
use Rattle.std.proofs.lemmas.Bool.{cases_Bool, cases_lt, cases_eq, eq-eqb, ne_eqb}
use Rattle.pa_slot.specs.declared.title.Title.{Title}
use Rattle.pa_record.specs.declared.history.CellEntry.{CellEntry}
use Rattle.pa_lists.proofs.Joined.{map_cases, filter_in}
use Rattle.pa_lists.proofs.Members.{first_in, later_in, of_some}
use Rattle.pa_lists.proofs.Pairs.{pairs_none, pairs_cons, pairs_head, pairs_tail}
use Rattle.pa_region.specs.declared.view.Made.{Made}
use Rattle.pa_region.specs.Views.{seen_among}
use Rattle.pa_region.specs.Lists.{entered_in, IsKnownTo, Rises}
use Rattle.pa_rules.specs.declared.played.Played.{Played}
use Rattle.pa_rules.specs.Cells.{IsExchange}
use Rattle.pa_rules.specs.Order.{StandsBefore}
use Rattle.pa_rules.specs.Seen.{HandsTo}
use Rattle.pa_logs.specs.Told.{ToldRecord, played_in}
use Rattle.pa_logs.specs.Listed.{line_of, is_on, entries_on}
use Rattle.pa_logs.specs.Viewed.{IsExchanged}
use Rattle.pa_logs.specs.Swaps.{SwapMade, is_of_cell, place_of, AreSwapped, SwapsFollow}
use Rattle.pa_logs.proofs.Filters.{get_in}
use Rattle.pa_logs.proofs.Listing.{lines_have_theirs, entries_in_order, one_record}
use Rattle.pa_lists.proofs.Indexed.{in_at, at_map}

abbrev pub Apart : Made → Made → Type 0
Apart m n = line_of m ≢ line_of n

-- an entry at a place of a list in which lines differ is the first of its line
place_at : (list : List Made) (i : ℕ) (m : Made) → AllPairs Apart list → slice_get list i ≡ Some m → place_of list (line_of m) ≡ i
place_at [] i m apart at_i = absurd cc
place_at (n ∷ ns) zero m apart at_i =
    let same : line_of n ≡ line_of m = ap line_of (of_some n m at_i) in
    rw (eq-eqb (line_of n) (line_of m) same) refl
place_at (n ∷ ns) (suc i) m apart at_i =
    let again = place_at ns i m (pairs_tail Apart n ns apart) at_i in
    let ne = pairs_head Apart n m ns apart (get_in ns i m at_i) in
    rw (ne_eqb (line_of n) (line_of m) ne) (omega arith)

-- a line with at most one entry
few_apart : (list : List Made) → ((m : Made) → Contains list m → length (filter (is_on (line_of m)) list) ≤ 1) → AllPairs Apart list
few_apart [] few = pairs_none Apart
few_apart (m ∷ ms) few =
    pairs_cons Apart m ms
    (λ n among same.
    let all = few m (first_in m ms) in
    let two = rw (eq-eqb (line_of m) (line_of m) refl) at all in
    let there = filter_in (is_on (line_of m)) ms n among (eq-eqb (line_of n) (line_of m) (sym same)) in
    let long = there.1 in
    absurd (omega arith))
    (few_apart ms (λ n among. rest n (few n (later_in m n ms among))))
  where
    rest : (n : Made) → length (filter (is_on (line_of n)) (m ∷ ms)) ≤ 1 → length (filter (is_on (line_of n)) ms) ≤ 1
    rest n all = elim (cases_Bool (is_on (line_of n) m)) [
      | inl y ↦ let more = rw y at all in omega arith
      | inr miss ↦ rw miss at all
    ]

-- an exchange among all, that is this entry
pub record StandsAt (swaps : List SwapMade) (i : ℕ) (e : CellEntry) (s : SwapMade) : Type 0 where
  pub at_i : slice_get swaps i ≡ Some s
  pub is : s.entry ≡ e

abbrev pub cell_list : ℕ → List SwapMade → List CellEntry
cell_list k swaps = map (λ (s : SwapMade). s.entry) (filter (is_of_cell k) swaps)

abbrev HasPlace : List SwapMade → CellEntry → Type 0
HasPlace swaps e = (i : ℕ) × (s : SwapMade) × StandsAt swaps i e s

later_place : (s : SwapMade) (ss : List SwapMade) (e : CellEntry) → HasPlace ss e → HasPlace (s ∷ ss) e
later_place s ss e (i, t, there) = (suc i, t, record { at_i = there.at_i; is = there.is })

first_place : (s : SwapMade) (ss : List SwapMade) (es : List CellEntry) (j : ℕ) (e : CellEntry)
    → ((i : ℕ) → slice_get es i ≡ Some e → HasPlace ss e) → slice_get (s.entry ∷ es) j ≡ Some e → HasPlace (s ∷ ss) e
first_place s ss es zero e rest at_j = (0, s, record { at_i = refl; is = of_some s.entry e at_j })
first_place s ss es (suc j) e rest at_j = later_place s ss e (rest j at_j)

one_place : (k : ℕ) (swaps : List SwapMade) (j : ℕ) (e : CellEntry) → slice_get (cell_list k swaps) j ≡ Some e → HasPlace swaps e
one_place k [] j e at_j = absurd cc
one_place k (s ∷ ss) j e at_j = elim (cases_Bool (is_of_cell k s)) [
  | inl y ↦ first_place s ss (cell_list k ss) j e (λ i at_i. one_place k ss i e at_i) (rw y at at_j)
  | inr n ↦ later_place s ss e (one_place k ss j e (rw n at at_j))
]

-- two of them are in the same order as in the cell
pub record StandTwo (swaps : List SwapMade) (e f : CellEntry) : Type 0 where
  pub first : ℕ
  pub second : ℕ
  pub less : first < second
  pub one : SwapMade
  pub other : SwapMade
  pub here : StandsAt swaps first e one
  pub there : StandsAt swaps second f other

later_two : (s : SwapMade) (ss : List SwapMade) (e f : CellEntry) → StandTwo ss e f → StandTwo (s ∷ ss) e f
later_two s ss e f two =
    let low = two.less in
    record {
      first = suc two.first;
      second = suc two.second;
      less = omega arith;
      one = two.one;
      other = two.other;
      here = record { at_i = two.here.at_i; is = two.here.is };
      there = record { at_i = two.there.at_i; is = two.there.is };
    }

first_two : (k : ℕ) (s : SwapMade) (ss : List SwapMade) (i j : ℕ) (e f : CellEntry) →
    ((a b : ℕ) → a < b → slice_get (cell_list k ss) a ≡ Some e → slice_get (cell_list k ss) b ≡ Some f → StandTwo ss e f) →
    i < j → slice_get (s.entry ∷ cell_list k ss) i ≡ Some e → slice_get (s.entry ∷ cell_list k ss) j ≡ Some f → StandTwo (s ∷ ss) e f
first_two k s ss i zero e f rest low at_i at_j = absurd (omega arith)
first_two k s ss zero (suc j) e f rest low at_i at_j =
    let (b, t, there) = one_place k ss j f at_j in
    record {
      first = 0;
      second = suc b;
      less = omega arith;
      one = s;
      other = t;
      here = record { at_i = refl; is = of_some s.entry e at_i };
      there = record { at_i = there.at_i; is = there.is };
    }
first_two k s ss (suc i) (suc j) e f rest low at_i at_j = later_two s ss e f (rest i j (omega arith) at_i at_j)

pub two_places : (k : ℕ) (swaps : List SwapMade) (i j : ℕ) (e f : CellEntry) → i < j → slice_get (cell_list k swaps) i ≡ Some e →
    slice_get (cell_list k swaps) j ≡ Some f → StandTwo swaps e f
two_places k [] i j e f less at_i at_j = absurd cc
two_places k (s ∷ ss) i j e f less at_i at_j = elim (cases_Bool (is_of_cell k s)) [
  | inl y ↦ first_two k s ss i j e f (λ a b up at_a at_b. two_places k ss a b e f up at_a at_b) less (rw y at at_i) (rw y at at_j)
  | inr n ↦ later_two s ss e f (two_places k ss i j e f less (rw n at at_i) (rw n at at_j))
]

-- what makers had seen rises from a place to a later one
each_get : (P : Made → Type 0) (ms : List Made) (i : ℕ) (m : Made) → Each P ms → slice_get ms i ≡ Some m → P m
each_get P [] i m each at_i = absurd cc
each_get P (n ∷ ns) zero m each at_i = subst P (of_some n m at_i) each.0
each_get P (n ∷ ns) (suc i) m each at_i = each_get P ns i m each.1 at_i

rises_at : (list : List Made) (i j : ℕ) (m n : Made) → Rises list → i < j → slice_get list i ≡ Some m → slice_get list j ≡ Some n →
    IsKnownTo n.seen m
rises_at [] i j m n rises less at_i at_j = absurd cc
rises_at (h ∷ hs) i zero m n rises less at_i at_j = absurd (omega arith)
rises_at (h ∷ hs) zero (suc j) m n rises less at_i at_j =
    subst (λ (z : Made). IsKnownTo n.seen z) (of_some h m at_i) (each_get (λ later. IsKnownTo later.seen h) hs j n rises.0 at_j)
rises_at (h ∷ hs) (suc i) (suc j) m n rises less at_i at_j = rises_at hs i j m n rises.1 (omega arith) at_i at_j

module _ (list : List Made) (cells : ℕ → List CellEntry) (swaps : List SwapMade) (ts : List ToldRecord)
    (are : AreSwapped list cells swaps ts) where
  pub apart : AllPairs Apart list
  apart = few_apart list (λ m among.
      let (x, there, thread, within) = lines_have_theirs.each 5 list ts m are.is among in
      let line = are.is.lines x m there within in
      let theirs = lines_have_theirs.theirs 5 list ts x are.is are.rising there in
      let few = are.one_each x there in
      let same : length (filter (is_on (line_of m)) list) ≡ length (entered_in 5 x.stretch) = ap (λ n. length (entries_on n list)) line ∙
      ap length theirs in
      omega arith)

  -- an exchange's entry in the list, and its place by its line
  made_at : (i : ℕ) (e : CellEntry) (s : SwapMade) → StandsAt swaps i e s → slice_get list i ≡ Some s.made
  made_at i e s at_s = subst (λ ms. slice_get ms i ≡ Some s.made) (sym are.swaps_are.list_is)
      (at_map (λ (z : SwapMade). z.made) swaps i s at_s.at_i)

  line_at : (i : ℕ) (e : CellEntry) (s : SwapMade) → StandsAt swaps i e s → line_of s.made ≡ e.line
  line_at i e s at_s = are.swaps_are.lines s (get_in swaps i s at_s.at_i) ∙ ap (λ (z : CellEntry). z.line) at_s.is

  pub placed : (i : ℕ) (e : CellEntry) (s : SwapMade) (line : ℕ) → StandsAt swaps i e s → e.line ≡ line → place_of list line ≡ i
  placed i e s line at_s same = ap (place_of list) (sym (line_at i e s at_s ∙ same)) ∙ place_at list i s.made apart (made_at i e s at_s)

  pub in_cell : (k j : ℕ) (e : CellEntry) → IsExchange cells k j e → slice_get (cell_list k swaps) j ≡ Some e
  in_cell k j e at_j = subst (λ es. slice_get es j ≡ Some e) (are.swaps_are.cells_are k) at_j

  handed_two : (k j : ℕ) (e f : CellEntry) → IsExchange cells k j e → IsExchange cells k (j + 1) f → StandTwo swaps e f
  handed_two k j e f at_j next = two_places k swaps j (j + 1) e f (omega arith) (in_cell k j e at_j) (in_cell k (j + 1) f next)

  handed : (x y : Played) → HandsTo cells x y → place_of list x.line < place_of list y.line
  handed x y (k, j, e, f, at_j, next, line, line', given) =
      let two = handed_two k j e f at_j next in
      let a = placed two.first e two.one x.line two.here line in
      let b = placed two.second f two.other y.line two.there line' in
      let c = two.less in
      omega arith

  -- what an exchange hands on is what its entry carries
  carried : (x : ToldRecord) (i : ℕ) (e : CellEntry) (s : SwapMade) (t : Title) → Contains ts x → StandsAt swaps i e s →
      e.line ≡ x.played.line → x.gives t ≡ seen_among t s.made.seen
  carried x i e s t among at_s same =
      let (z, there, thread, within) = lines_have_theirs.each 5 list ts s.made are.is (get_in list i s.made (made_at i e s at_s)) in
      let one : z ≡ x = one_record ts z x are.rising there among (sym (are.is.lines z s.made there within) ∙ (line_at i e s at_s ∙ same)) in
      ap (λ (u : ToldRecord). u.gives t) (sym one) ∙ are.gives z s.made t there within

  hands : (x y : ToldRecord) (t : Title) → Contains ts x → Contains ts y → HandsTo cells x.played y.played → x.gives t ≤ y.gives t
  hands x y t first second (k, j, e, f, at_j, next, line, line', given) =
      let two = handed_two k j e f at_j next in
      let a = carried x two.first e two.one t first two.here line in
      let b = carried y two.second f two.other t second two.there line' in
      let c = rises_at list two.first two.second two.one.made two.other.made are.rises two.less (made_at two.first e two.one two.here)
      (made_at two.second f two.other two.there) t in
      omega arith

  threads : (x y : Played) → Contains (played_in ts) x → Contains (played_in ts) y → IsExchanged x → IsExchanged y → x.thread ≡ y.thread →
      x.line < y.line → place_of list x.line < place_of list y.line
  threads x y first second is other thread less =
      let (u, among, p) = map_cases (λ (z : ToldRecord). z.played) ts x first in
      let (v, member, q) = map_cases (λ (z : ToldRecord). z.played) ts y second in
      let (m, in_m, line) = are.has u among (subst IsExchanged (sym p) is) in
      let (n, in_n, line') = are.has v member (subst IsExchanged (sym q) other) in
      let (i, at_i) = in_at list m in_m in
      let (j, at_j) = in_at list n in_n in
      let a : line_of m ≡ x.line = line ∙ ap (λ (z : Played). z.line) p in
      let b : line_of n ≡ y.line = line' ∙ ap (λ (z : Played). z.line) q in
      let before : StandsBefore u.played v.played =
      subst (λ (z : Played). StandsBefore z v.played) (sym p) (subst (λ (z : Played). StandsBefore x z) (sym q) (inl (thread, less))) in
      let up = entries_in_order 5 list ts u v i j m n are.is are.cuts are.rising among member at_i at_j line line' before in
      let c : place_of list x.line ≡ i = ap (place_of list) (sym a) ∙ place_at list i m apart at_i in
      let d : place_of list y.line ≡ j = ap (place_of list) (sym b) ∙ place_at list j n apart at_j in
      omega arith

  -- records on one line aren't before each other
  not_before : (x y : ToldRecord) → Contains ts x → Contains ts y → x.played.line ≡ y.played.line → StandsBefore x.played y.played → ⊥
  not_before x y first second same (inl (thread, less)) = absurd (omega arith)
  not_before x y first second same (inr late) =
      let e : x.played.phase ≡ y.played.phase = ap (λ (z : ToldRecord). z.played.phase) (one_record ts x y are.rising first second same) in
      absurd (omega arith)

  pub order : (k i j : ℕ) (e f : CellEntry) (x y : ToldRecord) → IsExchange cells k i e → IsExchange cells k j f → Contains ts x →
      Contains ts y → x.played.line ≡ e.line → y.played.line ≡ f.line →
      StandsBefore x.played y.played → i < j
  order k i j e f x y at_i at_j first second line line' before = elim (cases_lt i j) [
    | inl less ↦ less
    | inr more ↦ elim (cases_eq j i) [
      | inl same ↦
          let one : f ≡ e = of_some f e (sym at_j ∙ (ap (λ n. slice_get (cells k) n) same ∙ at_i)) in
          absurd (not_before x y first second (line ∙ (ap (λ (z : CellEntry). z.line) (sym one) ∙ sym line')) before)
      | inr other ↦
          let two = two_places k swaps j i f e (below j i more other) (in_cell k j f at_j) (in_cell k i e at_i) in
          let back = entries_in_order 5 list ts x y two.second two.first two.other.made two.one.made are.is are.cuts are.rising first second
          (made_at two.second e two.other two.there) (made_at two.first f two.one two.here)
          (line_at two.second e two.other two.there ∙ sym line) (line_at two.first f two.one two.here ∙ sym line') before in
          let low = two.less in
          absurd (omega arith)
    ]
  ]
    where
      below : (j i : ℕ) → j ≤ i → (j ≡ i → ⊥) → j < i
      below j i le ne = elim (cases_lt j i) [ inl y ↦ y | inr k ↦ absurd (ne (omega arith)) ]

pub swaps_follow : SwapsFollow
swaps_follow = record {
  handed = λ list cells swaps ts x y are h. handed list cells swaps ts are x y h;
  threads = λ list cells swaps ts x y are first second is other thread less. threads list cells swaps ts are x y first second is other
      thread less;
  hands = λ list cells swaps ts x y t are first second h. hands list cells swaps ts are x y t first second h;
  order = λ list cells swaps ts k i j e f x y are at_i at_j first second line line' before. order list cells swaps ts are k i j e f x y at_i
      at_j first second line line' before;
}
