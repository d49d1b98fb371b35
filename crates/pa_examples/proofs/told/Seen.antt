-- What the seats of worked records had seen is in order if tests that compute pass.
use Rattle.std.proofs.Common.{◌≡◌, ℕ, ◌+◌, ◌≤◌, Bool, true, ◌&&◌, leb, ltb, List, sym, ◌∙◌, ap, subst, arith, inl, inr}
use Rattle.std.specs.Prelude.{Contains}
use Rattle.std.specs.List.{list_all}
use Rattle.std.proofs.lemmas.Bool.{true≢false, cases_lt, and_parts, leb-true, ltb-true}
use Rattle.pa_slot.specs.declared.title.Title.{Title}
use Rattle.pa_slot.specs.Count.{number_of}
use Rattle.pa_slot.specs.Titles.{same_title}
use Rattle.pa_slot.specs.Holdings.{one}
use Rattle.pa_slot.proofs.Same.{title_tells}
use Rattle.pa_record.specs.declared.history.CellEntry.{CellEntry}
use Rattle.pa_lists.proofs.Joined.{map_cases}
use Rattle.pa_region.specs.declared.view.Entry.{Entry}
use Rattle.pa_region.specs.declared.view.Entry.TheVariants.{Counted, Looked, Read, Added, Entered, Uncut}
use Rattle.pa_region.specs.declared.view.SeenNumber.{SeenNumber}
use Rattle.pa_region.specs.Views.{seen_among}
use Rattle.pa_region.proofs.OneRead.{one_true}
use Rattle.pa_region.proofs.SeenPart.{seen_ahead}
use Rattle.pa_rules.specs.declared.played.Played.{Played}
use Rattle.pa_rules.specs.Order.{StandsBefore}
use Rattle.pa_rules.specs.Seen.{HandsTo}
use Rattle.pa_examples.proofs.worked.Lists.{all_both, both_pass, implies, implied, stands, stands-from}
use Rattle.pa_logs.specs.Told.{ToldRecord}
use Rattle.pa_logs.specs.Said.{HaveSeen}
use Rattle.pa_logs.specs.Viewed.{AreViewed}
use Rattle.pa_logs.proofs.Sums.{sum_some}
use Rattle.pa_examples.specs.told.Worked.{Worked, told_record, told_records}
use Rattle.pa_lists.proofs.Elements.{passes}

-- the notes b say of each title at least what the notes a say
abbrev pub covers : List SeenNumber → List SeenNumber → Bool
covers a b = list_all (λ (s : SeenNumber). leb s.number (seen_among s.title b)) a

pub covered : (a b : List SeenNumber) → covers a b ≡ true → (t : Title) → seen_among t a ≤ seen_among t b
covered a b h t = elim (cases_lt (seen_among t b) (seen_among t a)) [
  | inl more ↦
      let ahead : SeenNumber → ℕ = λ (s : SeenNumber). one (same_title s.title t && ltb (seen_among t b) s.number) in
      let (s, among, some_ahead) = sum_some ahead a (seen_ahead t (seen_among t b) a more) in
      let both = and_parts (same_title s.title t) (ltb (seen_among t b) s.number) (one_true _ some_ahead) in
      let less = ltb-true (seen_among t b) s.number both.1 in
      let here = leb-true _ _ (passes (λ (n : SeenNumber). leb n.number (seen_among n.title b)) a s h among) in
      let same : seen_among s.title b ≡ seen_among t b = ap (λ u. seen_among u b) (is_title s.title t both.0) in
      absurd (omega arith)
  | inr less ↦ less
]
  where
    is_title : (u t : Title) → same_title u t ≡ true → u ≡ t
    is_title u t e = elim (title_tells u t) [ inl y ↦ y.1 | inr n ↦ absurd (true≢false (sym e ∙ n.0)) ]

-- a seat with these notes has seen what each record hands on
pub heard_by : (ws : List Worked) (notes : List SeenNumber) → list_all (λ (w : Worked). covers w.gives notes) ws ≡ true →
    (x : ToldRecord) (u : Title) → Contains (told_records ws) x → x.gives u ≤ seen_among u notes
heard_by ws notes h x u among =
    let (w, mine, e) = map_cases told_record ws x among in
    subst (λ (z : ToldRecord). z.gives u ≤ seen_among u notes) e
    (covered w.gives notes (passes (λ (y : Worked). covers y.gives notes) ws w h mine) u)

-- a step or look found no less than these notes say, and what it left those notes do
abbrev pub fits : List SeenNumber → List SeenNumber → Entry → Bool
fits saw gives (Counted t step found value) = leb (seen_among t saw) (number_of found) && leb (number_of found + 1) (seen_among t gives)
fits saw gives (Looked t found) = leb (seen_among t saw) (number_of found) && leb (number_of found) (seen_among t gives)
fits saw gives (Read t place value since owned unclean) = true
fits saw gives (Added word bytes) = true
fits saw gives (Entered keeper made) = true
fits saw gives (Uncut t) = true

-- The tests of worked records, in which `hands` says which line's exchange gave to which.
abbrev pub are_seen : (ℕ → ℕ → Bool) → List Worked → Bool
are_seen hands ws =
    list_all (λ (x : Worked). list_all (fits x.saw x.gives) x.stretch && covers x.saw x.gives) ws
    && (all_both (λ (x : Worked) (y : Worked). implies (stands x.played y.played) (covers x.gives y.saw)) ws
    && all_both (λ (x : Worked) (y : Worked). implies (hands x.played.line y.played.line) (covers x.gives y.gives)) ws)

module _ (cells : ℕ → List CellEntry) (ws : List Worked) (hands : ℕ → ℕ → Bool) (seen : are_seen hands ws ≡ true)
    (handed : (x y : Played) → HandsTo cells x y → hands x.line y.line ≡ true) where
  -- what the tests say of one record
  own : (x : Worked) → Contains ws x → (list_all (fits x.saw x.gives) x.stretch ≡ true) × (covers x.saw x.gives ≡ true)
  own x among = and_parts _ _
      (passes (λ (y : Worked). list_all (fits y.saw y.gives) y.stretch && covers y.saw y.gives) ws x (and_parts _ _ seen).0 among)

  pub viewed : AreViewed cells (told_records ws)
  viewed = record {
    steps = λ x t step found value among there.
        let (w, mine, e) = map_cases told_record ws x among in
        let there' : Contains w.stretch (Counted t step found value) =
        subst (λ (z : ToldRecord). Contains z.stretch (Counted t step found value)) (sym e) there in
        let both = and_parts (leb (seen_among t w.saw) (number_of found)) (leb (number_of found + 1) (seen_among t w.gives))
        (passes (fits w.saw w.gives) w.stretch (Counted t step found value) (own w mine).0 there') in
        subst (λ (z : ToldRecord). (z.saw t ≤ number_of found) × (number_of found + 1 ≤ z.gives t)) e
        (leb-true _ _ both.0, leb-true _ _ both.1);
    looks = λ x t found among there.
        let (w, mine, e) = map_cases told_record ws x among in
        let there' : Contains w.stretch (Looked t found) = subst (λ (z : ToldRecord). Contains z.stretch (Looked t found)) (sym e) there in
        let both = and_parts (leb (seen_among t w.saw) (number_of found)) (leb (number_of found) (seen_among t w.gives))
        (passes (fits w.saw w.gives) w.stretch (Looked t found) (own w mine).0 there') in
        subst (λ (z : ToldRecord). (z.saw t ≤ number_of found) × (number_of found ≤ z.gives t)) e
        (leb-true _ _ both.0, leb-true _ _ both.1);
    grows = λ x t among.
        let (w, mine, e) = map_cases told_record ws x among in
        subst (λ (z : ToldRecord). z.saw t ≤ z.gives t) e (covered w.saw w.gives (own w mine).1 t);
    stands = λ x y t first second before.
        let (w, mine, e) = map_cases told_record ws x first in
        let (u, mine', f) = map_cases told_record ws y second in
        let before' : StandsBefore w.played u.played =
        subst (λ (z : ToldRecord). StandsBefore w.played z.played) (sym f)
        (subst (λ (z : ToldRecord). StandsBefore z.played y.played) (sym e) before) in
        let test : Worked → Worked → Bool = λ (a : Worked) (b : Worked). implies (stands a.played b.played) (covers a.gives b.saw) in
        let here = implied _ _ (both_pass test ws w u (and_parts _ _ (and_parts _ _ seen).1).0 mine mine')
        (stands-from w.played u.played before') in
        subst (λ (z : ToldRecord). z.gives t ≤ y.saw t) e
        (subst (λ (z : ToldRecord). seen_among t w.gives ≤ z.saw t) f (covered w.gives u.saw here t));
    hands = λ x y t first second hand.
        let (w, mine, e) = map_cases told_record ws x first in
        let (u, mine', f) = map_cases told_record ws y second in
        let hand' : HandsTo cells w.played u.played =
        subst (λ (z : ToldRecord). HandsTo cells w.played z.played) (sym f)
        (subst (λ (z : ToldRecord). HandsTo cells z.played y.played) (sym e) hand) in
        let test : Worked → Worked →
        Bool = λ (a : Worked) (b : Worked). implies (hands a.played.line b.played.line) (covers a.gives b.gives) in
        let here = implied _ _ (both_pass test ws w u (and_parts _ _ (and_parts _ _ seen).1).1 mine mine')
        (handed w.played u.played hand') in
        subst (λ (z : ToldRecord). z.gives t ≤ y.gives t) e
        (subst (λ (z : ToldRecord). seen_among t w.gives ≤ z.gives t) f (covered w.gives u.gives here t));
  }

-- what seats had seen, each by its own, is a part of it
pub have_seen : (cells : ℕ → List CellEntry) (ts : List ToldRecord) → AreViewed cells ts → HaveSeen ts
have_seen cells ts viewed = record {
  steps = viewed.steps;
  looks = viewed.looks;
  grows = viewed.grows;
  thread = λ x y t first second thread less. viewed.stands x y t first second (inl (thread, less));
}
