-- The entries of a list on a record's line are those that it entered, and are in order.
use Rattle.std.proofs.Common.{◌≡◌, ℕ, ◌<◌, ◌≤◌, Bool, true, false, List, [], ◌∷◌, ◌++◌, length, filter, flat_map, map, slice_get, Some, refl, sym, ◌∙◌, ap, subst, arith, inl, inr, eqb, append_assoc}
use Rattle.std.specs.Prelude.{Contains, AllPairs}
use Rattle.std.proofs.lemmas.Bool.{cases_Bool, cases_lt, cases_eq, eq-eqb, eqb-true, leb-true, le-leb}
use Rattle.std.proofs.lemmas.List.Elements.{filter-append}
use Rattle.pa_record.specs.declared.root.RootEntry.{RootEntry}
use Rattle.pa_record.specs.Numbers.{root_numbers}
use Rattle.pa_lists.proofs.Joined.{filter_cases, filter_in, flat_cases, pairs_flat}
use Rattle.pa_lists.proofs.Members.{not_in_none, first_in, later_in, in_cases}
use Rattle.pa_record.proofs.OneEntry.{one_root}
use Rattle.pa_lists.proofs.Pairs.{pairs_none, pairs_cons, pairs_tail, pairs_head}
use Rattle.pa_region.specs.declared.view.Entry.{Entry}
use Rattle.pa_region.specs.declared.view.Made.{Made}
use Rattle.pa_region.specs.Lists.{made_with, entry_in, entered_in}
use Rattle.pa_rules.proofs.Running.{one_by}
use Rattle.pa_logs.specs.Told.{ToldRecord, is_of_thread, is_until, told_until}
use Rattle.pa_logs.specs.Listed.{first_of, line_of, is_on, entries_on, IsListOf, AreRising, LinesHaveTheirs, HasCuts, EntriesInOrder, IsJournalOf, ActsAreTheirs}
use Rattle.pa_logs.proofs.Filters.{pairs_filter, pairs_all, filter_all, filter_none, filter_within, get_in, get_pair, get_parts, nothing_more, map_one}

-- what a record entered in a list
abbrev entered_by : ℕ → ToldRecord → List Made
entered_by q x = entered_in q x.stretch

abbrev pub is_by : ℕ → Made → Bool
is_by k m = eqb m.stake k

pub made_filter : (k : ℕ) (list : List Made) → made_with k list ≡ filter (is_by k) list
made_filter k [] = refl
made_filter k (m ∷ ms) = elim (cases_Bool (is_by k m)) [
  | inl y ↦ rw y (ap (λ xs. m ∷ xs) (made_filter k ms))
  | inr n ↦ rw n (made_filter k ms)
]

-- what a thread's log entered is what its records did, in order
pub entered_append : (q : ℕ) (a b : List Entry) → entered_in q (a ++ b) ≡ entered_in q a ++ entered_in q b
entered_append q [] b = refl
entered_append q (e ∷ a) b = ap (λ xs. entry_in q e ++ xs) (entered_append q a b) ∙
    sym (append_assoc (entry_in q e) (entered_in q a) (entered_in q b))

entered_flat : (q : ℕ) (xs : List ToldRecord) → entered_in q (flat_map (λ (x : ToldRecord). x.stretch) xs) ≡ flat_map (entered_by q) xs
entered_flat q [] = refl
entered_flat q (x ∷ xs) =
    entered_append q x.stretch (flat_map (λ (y : ToldRecord). y.stretch) xs) ∙ ap (λ ms. entered_in q x.stretch ++ ms) (entered_flat q xs)

-- two records on one line are one
pub one_record : (ts : List ToldRecord) (x y : ToldRecord) → AreRising ts → Contains ts x → Contains ts y → x.played.line ≡ y.played.line →
    x ≡ y
one_record ts x y rising first second same =
    one_by (λ (z : ToldRecord). z.played.line) ts x y (λ i j d before below e. let up = rising i j d before below in
    omega arith) first second same

module _ (q : ℕ) (list : List Made) (ts : List ToldRecord) (is : IsListOf q list ts) where
  -- what a stake made is what the records of its thread entered
  made_by : (k : ℕ) → filter (is_by k) list ≡ flat_map (entered_by q) (filter (is_of_thread k) ts)
  made_by k = sym (made_filter k list) ∙ (is.made k ∙ entered_flat q (filter (is_of_thread k) ts))

  each : (m : Made) → Contains list m → (x : ToldRecord) × Contains ts x × (x.played.thread ≡ m.stake) × Contains (entered_in q x.stretch) m
  each m among =
      let mine = filter_in (is_by m.stake) list m among (eq-eqb m.stake m.stake refl) in
      let there = subst (λ ms. Contains ms m) (made_by m.stake) mine in
      let (x, member, within) = flat_cases (entered_by q) (filter (is_of_thread m.stake) ts) m there in
      let (of, thread) = filter_cases (is_of_thread m.stake) ts x member in
      (x, of, eqb-true x.played.thread m.stake thread, within)

  module _ (rising : AreRising ts) where
    -- the stake of an entry on a record's line is its thread's
    stake_is : (x : ToldRecord) (m : Made) → Contains ts x → Contains list m → line_of m ≡ x.played.line → m.stake ≡ x.played.thread
    stake_is x m among there line =
        let (y, member, thread, within) = each m there in
        let same = one_record ts y x rising member among (sym (is.lines y m member within) ∙ line) in
        sym thread ∙ ap (λ (z : ToldRecord). z.played.thread) same

  -- of a thread's records one has the entries of its line
  none_on : (line k : ℕ) (xs : List ToldRecord) → ((x : ToldRecord) → Contains xs x → Contains ts x) →
      ((x : ToldRecord) → Contains xs x → x.played.line ≡ line → ⊥) →
      filter (is_on line) (flat_map (entered_by q) (filter (is_of_thread k) xs)) ≡ []
  none_on line k xs within apart = filter_none (is_on line) (flat_map (entered_by q) (filter (is_of_thread k) xs)) (λ m among passes.
      let (x, member, there) = flat_cases (entered_by q) (filter (is_of_thread k) xs) m among in
      let of = (filter_cases (is_of_thread k) xs x member).0 in
      apart x of (sym (is.lines x m (within x of) there) ∙ eqb-true (line_of m) line passes))

  own_on : (x : ToldRecord) → Contains ts x → filter (is_on x.played.line) (entered_by q x) ≡ entered_by q x
  own_on x among = filter_all (is_on x.played.line) (entered_by q x)
      (λ m there. eq-eqb (line_of m) x.played.line (is.lines x m among there))

  other_on : (x y : ToldRecord) → Contains ts y → (y.played.line ≡ x.played.line → ⊥) → filter (is_on x.played.line) (entered_by q y) ≡ []
  other_on x y among apart =
      filter_none (is_on x.played.line) (entered_by q y)
      (λ m there passes. apart (sym (is.lines y m among there) ∙ eqb-true (line_of m) x.played.line passes))

  one_of : (x : ToldRecord) (xs : List ToldRecord) → AreRising xs → ((y : ToldRecord) → Contains xs y → Contains ts y) → Contains xs x →
      filter (is_on x.played.line) (flat_map (entered_by q) (filter (is_of_thread x.played.thread) xs)) ≡ entered_by q x
  one_of x [] rising within among = absurd (not_in_none x among)
  one_of x (y ∷ ys) rising within among =
      let line = x.played.line in
      let k = x.played.thread in
      let rest = flat_map (entered_by q) (filter (is_of_thread k) ys) in
      let less : ToldRecord → ToldRecord → Type 0 = λ a b. a.played.line < b.played.line in
      elim (in_cases y x ys among) [
        | inl e ↦
            let mine : is_of_thread k y ≡ true = eq-eqb y.played.thread k (ap (λ (z : ToldRecord). z.played.thread) e) in
            let here : filter (is_on line) (entered_by q y) ≡ entered_by q x =
            ap (λ z. filter (is_on line) (entered_by q z)) e ∙ own_on x (within x among) in
            let none = none_on line k ys (λ z member. within z (later_in y z ys member)) (λ z member same.
            let up = pairs_head less y z ys rising member in
            let at : y.played.line ≡ line = ap (λ (u : ToldRecord). u.played.line) e in
            absurd (omega arith)) in
            rw mine (filter-append (is_on line) (entered_by q y) rest ∙
            (ap (λ ms. ms ++ filter (is_on line) rest) here ∙ (ap (λ ms. entered_by q x ++ ms) none ∙ append_none (entered_by q x))))
        | inr later ↦
            let again = one_of x ys (pairs_tail less y ys rising) (λ z member. within z (later_in y z ys member)) later in
            let up : y.played.line < line = pairs_head less y x ys rising later in
            elim (cases_Bool (is_of_thread k y)) [
              | inl mine ↦
                  let here = other_on x y (within y (first_in y ys)) (λ same. absurd (omega arith)) in
                  rw mine (filter-append (is_on line) (entered_by q y) rest ∙ (ap (λ ms. ms ++ filter (is_on line) rest) here ∙ again))
              | inr other ↦ rw other again
            ]
      ]
    where
      append_none : (ms : List Made) → ms ++ [] ≡ ms
      append_none [] = refl
      append_none (m ∷ ms) = ap (λ ns. m ∷ ns) (append_none ms)

  theirs : (x : ToldRecord) → AreRising ts → Contains ts x → entries_on x.played.line list ≡ entered_in q x.stretch
  theirs x rising among =
      let line = x.played.line in
      let k = x.played.thread in
      let within = filter_within (is_on line) (is_by k) list (λ m there passes.
      eq-eqb m.stake k (stake_is rising x m among there (eqb-true (line_of m) line passes))) in
      sym within ∙ (ap (λ ms. filter (is_on line) ms) (made_by k) ∙ one_of x ts rising (λ y member. member) among)

pub lines_have_theirs : LinesHaveTheirs
lines_have_theirs = record {
  each = λ q list ts m is among. each q list ts is m among;
  theirs = λ q list ts x is rising among. theirs q list ts is x rising among;
}

-- entries of one stake are in the order of their lines
abbrev InOrder : Made → Made → Type 0
InOrder m n = line_of m ≤ line_of n

abbrev IfOneStake : Made → Made → Type 0
IfOneStake m n = m.stake ≡ n.stake → line_of m ≤ line_of n

by_stakes : (list : List Made) → ((k : ℕ) → AllPairs InOrder (filter (is_by k) list)) → AllPairs IfOneStake list
by_stakes [] each = pairs_none IfOneStake
by_stakes (m ∷ ms) each =
    pairs_cons IfOneStake m ms
    (λ n among same.
    let mine = rw (eq-eqb m.stake m.stake refl) at (each m.stake) in
    pairs_head InOrder m n (filter (is_by m.stake) ms) mine (filter_in (is_by m.stake) ms n among (eq-eqb n.stake m.stake (sym same))))
    (by_stakes ms (λ k. elim (cases_Bool (is_by k m)) [
      | inl y ↦ pairs_tail InOrder m (filter (is_by k) ms) (rw y at (each k))
      | inr n ↦ rw n at (each k)
    ]))

in_threads : (q : ℕ) (list : List Made) (ts : List ToldRecord) → IsListOf q list ts → AreRising ts → AllPairs IfOneStake list
in_threads q list ts is rising = by_stakes list (λ k.
    let less : ToldRecord → ToldRecord → Type 0 = λ a b. a.played.line < b.played.line in
    let of : (x : ToldRecord) → Contains (filter (is_of_thread k) ts) x →
    Contains ts x = λ x among. (filter_cases (is_of_thread k) ts x among).0 in
    subst (λ ms. AllPairs InOrder ms) (sym (made_by q list ts is k))
    (pairs_flat less InOrder (entered_by q) (filter (is_of_thread k) ts) (pairs_filter less (is_of_thread k) ts rising)
    (λ x among. pairs_all InOrder (entered_by q x) (λ m n p r. let a = is.lines x m (of x among) p in let b = is.lines x n (of x among) r in
    omega arith))
    (λ x y m n first second up p r. let a = is.lines x m (of x first) p in let b = is.lines y n (of y second) r in omega arith)))

module _ (q : ℕ) (list : List Made) (ts : List ToldRecord) (is : IsListOf q list ts) (cuts : HasCuts q list ts)
    (rising : AreRising ts) where
  in_phases : (x y : ToldRecord) (i j : ℕ) (m n : Made) → Contains ts x → Contains ts y → slice_get list i ≡ Some m →
      slice_get list j ≡ Some n →
      line_of m ≡ x.played.line → line_of n ≡ y.played.line → x.played.phase < y.played.phase → i < j
  in_phases x y i j m n first second at_i at_j line line' late =
      let (older, rest, parts, was) = cuts x first in
      let phase = x.played.phase in
      let until = filter_in (is_until phase) ts x first (le-leb phase phase (omega arith)) in
      let less : ToldRecord → ToldRecord → Type 0 = λ a b. a.played.line < b.played.line in
      let then_rising = pairs_filter less (is_until phase) ts rising in
      let now = theirs q list ts is x rising first in
      let before = theirs q older (told_until phase ts) was x then_rising until in
      let split : filter (is_on x.played.line) list ≡ filter (is_on x.played.line) older ++ filter (is_on x.played.line) rest =
      ap (λ ms. filter (is_on x.played.line) ms) parts ∙ filter-append (is_on x.played.line) older rest in
      let none = nothing_more (filter (is_on x.played.line) older) (filter (is_on x.played.line) rest) (sym split ∙ (now ∙ sym before)) in
      let low : i < length older = elim (get_parts older rest i m (subst (λ ms. slice_get ms i ≡ Some m) parts at_i)) [
        | inl here ↦ here.0
        | inr there ↦ absurd (not_in_none m
            (subst (λ ms. Contains ms m) none (filter_in (is_on x.played.line) rest m there.1 (eq-eqb (line_of m) x.played.line line))))
      ] in
      let high : length older ≤ j = elim (get_parts older rest j n (subst (λ ms. slice_get ms j ≡ Some n) parts at_j)) [
        | inl here ↦
            let (z, member, thread, within) = each q older (told_until phase ts) was n here.1 in
            let (there, low') = filter_cases (is_until phase) ts z member in
            let same = one_record ts z y rising there second (sym (was.lines z n member within) ∙ line') in
            let soon : z.played.phase ≤ phase = leb-true z.played.phase phase low' in
            let at : z.played.phase ≡ y.played.phase = ap (λ (u : ToldRecord). u.played.phase) same in
            absurd (omega arith)
        | inr there ↦ there.0
      ] in
      omega arith

  in_thread : (x y : ToldRecord) (i j : ℕ) (m n : Made) → Contains ts x → Contains ts y → slice_get list i ≡ Some m →
      slice_get list j ≡ Some n →
      line_of m ≡ x.played.line → line_of n ≡ y.played.line → x.played.thread ≡ y.played.thread → x.played.line < y.played.line → i < j
  in_thread x y i j m n first second at_i at_j line line' thread up = elim (cases_lt i j) [
    | inl less ↦ less
    | inr more ↦ elim (cases_eq j i) [
      | inl same ↦
          let one : n ≡ m = of_one n m (sym at_j ∙ (ap (λ k. slice_get list k) same ∙ at_i)) in
          let equal : line_of n ≡ line_of m = ap line_of one in
          absurd (omega arith)
      | inr other ↦
          let a = stake_is q list ts is rising x m first (get_in list i m at_i) line in
          let b = stake_is q list ts is rising y n second (get_in list j n at_j) line' in
          let back = get_pair IfOneStake list j i n m (in_threads q list ts is rising) (below j i more other) at_j at_i
          (b ∙ (sym thread ∙ sym a)) in
          absurd (omega arith)
    ]
  ]
    where
      of_one : (n m : Made) → Some n ≡ Some m → n ≡ m
      of_one n m e = cc

      below : (j i : ℕ) → j ≤ i → (j ≡ i → ⊥) → j < i
      below j i le ne = elim (cases_lt j i) [ inl y ↦ y | inr k ↦ absurd (ne (omega arith)) ]

pub entries_in_order : EntriesInOrder
entries_in_order q list ts x y i j m n is cuts rising first second at_i at_j line line' (inl (thread, up)) =
    in_thread q list ts is cuts rising x y i j m n first second at_i at_j line line' thread up
entries_in_order q list ts x y i j m n is cuts rising first second at_i at_j line line' (inr late) =
    in_phases q list ts is cuts rising x y i j m n first second at_i at_j line line' late

-- the entries of a line, as numbers, are those of the journal
pub on_line : (line : ℕ) (list : List Made) (journal : List RootEntry) → IsJournalOf list journal →
    map (λ (m : Made). m.numbers) (filter (is_on line) list) ≡ map root_numbers (filter (λ (e : RootEntry). eqb e.line line) journal)
on_line line [] [] same = refl
on_line line [] (e ∷ es) same = absurd cc
on_line line (m ∷ ms) [] same = absurd cc
on_line line (m ∷ ms) (e ∷ es) same =
    let head : m.numbers ≡ root_numbers e = cc in
    let tail : map (λ (n : Made). n.numbers) ms ≡ map root_numbers es = cc in
    let at : line_of m ≡ e.line = ap first_of head in
    let again = on_line line ms es tail in
    elim (cases_Bool (is_on line m)) [
      | inl y ↦
          let z : eqb e.line line ≡ true = ap (λ n. eqb n line) (sym at) ∙ y in
          rw (y, z) (ap (λ ns. ns ∷ map (λ (n : Made). n.numbers) (filter (is_on line) ms)) head ∙ ap (λ rest. root_numbers e ∷ rest) again)
      | inr n ↦
          let z : eqb e.line line ≡ false = ap (λ k. eqb k line) (sym at) ∙ n in
          rw (n, z) again
    ]

pub acts_are_theirs : ActsAreTheirs
acts_are_theirs p list roots ts x entries is journal rising among same =
    let line = x.played.line in
    let numbers : List Made → List (List ℕ) = λ ms. map (λ (m : Made). m.numbers) ms in
    let both : map root_numbers (filter (λ (e : RootEntry). eqb e.line line) (roots p)) ≡ map root_numbers entries =
    sym (on_line line list (roots p) journal) ∙ (ap numbers (theirs p list ts is x rising among) ∙ same) in
    ap (λ es. map (λ (e : RootEntry). e.act) es)
    (map_one root_numbers (filter (λ (e : RootEntry). eqb e.line line) (roots p)) entries one_root both)
