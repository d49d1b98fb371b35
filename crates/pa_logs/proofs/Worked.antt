-- The records that were worked out by hand meet what the law of steps and reads requires.
use Rattle.std.proofs.Common.{◌≡◌, ℕ, zero, suc, ◌+◌, ◌<◌, ◌≤◌, Bool, true, false, List, [], ◌∷◌, length, map, lit≤, refl, sym, ◌∙◌, ap, subst, arith, inl, inr, eqb, ltb}
use Rattle.std.specs.Prelude.{Contains, if◌then◌else◌}
use Rattle.std.specs.List.{AllByRecursion as Each}
use Rattle.std.proofs.lemmas.Bool.{true≢false, eqb-true}
use Rattle.pa_slot.specs.declared.title.Title.{Title}
use Rattle.pa_slot.specs.declared.word.Step.TheVariants.{Issue, Copy, Free}
use Rattle.pa_slot.specs.Count.{number_of}
use Rattle.pa_slot.specs.Titles.{IsWellFormed, same_title}
use Rattle.pa_slot.specs.Holdings.{one}
use Rattle.pa_slot.proofs.Same.{title_tells}
use Rattle.pa_lists.proofs.Joined.{map_cases}
use Rattle.pa_lists.proofs.Members.{not_in_none, in_cases}
use Rattle.pa_region.specs.declared.view.Entry.{Entry}
use Rattle.pa_region.specs.declared.view.Entry.TheVariants.{Counted, Looked, Read}
use Rattle.pa_region.specs.declared.view.Stake.{Stake}
use Rattle.pa_region.specs.Views.{logged_of, names, counted_on, counted_at, counted_as, looked_at}
use Rattle.pa_region.specs.History.{Done, IsChained}
use Rattle.pa_region.specs.Contents.{content_at_number}
use Rattle.pa_region.specs.Moves.{no_deeds}
use Rattle.pa_region.specs.Pairs.{paired_of, paired_of_by}
use Rattle.pa_region.specs.Start.{stakes_from}
use Rattle.pa_region.specs.Waiting.{gave_no_poison, quiet_read}
use Rattle.pa_region.specs.AllReads.{HasReads}
use Rattle.pa_region.proofs.Adding.{sum_map, one_lt, one_eq}
use Rattle.pa_region.proofs.FirstLists.{stake_count}
use Rattle.pa_region.proofs.OneRead.{one_true, quiet_tells}
use Rattle.pa_region.proofs.Opens.{blank_long}
use Rattle.pa_region.proofs.PairSums.{paired_by_within}
use Rattle.pa_rules.specs.declared.played.Played.{Played}
use Rattle.pa_logs.specs.Told.{ToldRecord, told_of, told_until, log_of, AreLogs}
use Rattle.pa_logs.specs.Touches.{AreTold, IsTold}
use Rattle.pa_logs.specs.Reads.{KnowsAll}
use Rattle.pa_logs.specs.Worked.{sixteen, its_title, worked_records, with_log, view_of, WorkedIsReadOff}
use Rattle.pa_logs.proofs.Logs.{logs_are_told}

-- a view with the logs of records has each stake once
logs_of_each : (ts : List ToldRecord) (ss : List Stake) → Each (λ (s : Stake). s.log ≡ log_of s.number ts) (map (with_log ts) ss)
logs_of_each ts [] = tt
logs_of_each ts (s ∷ ss) = (refl, logs_of_each ts ss)

pub are_logs : (ts : List ToldRecord) → ((x : ToldRecord) → Contains ts x → x.played.thread < 16) → AreLogs (view_of ts) ts
are_logs ts low = record {
  every = λ k below.
      let m = sum_map (λ (s : Stake). one (eqb s.number k)) (with_log ts) (stakes_from 0 16) in
      elim (stake_count 0 16 k) [ inl y ↦ let a = y.2 in omega arith | inr n ↦ absurd (n.0 (omega arith, omega arith)) ];
  once = λ k.
      let m = sum_map (λ (s : Stake). one (eqb s.number k)) (with_log ts) (stakes_from 0 16) in
      elim (stake_count 0 16 k) [ inl y ↦ let a = y.2 in omega arith | inr n ↦ let a = n.1 in omega arith ];
  threads = low;
  logs = logs_of_each ts (stakes_from 0 16);
}

-- what holds of the four records holds of each
pub by_four : (P : ToldRecord → Type 0) → Each P worked_records → (x : ToldRecord) → Contains worked_records x → P x
by_four P each x among = go worked_records each among
  where
    go : (ts : List ToldRecord) → Each P ts → Contains ts x → P x
    go [] all member = absurd (not_in_none x member)
    go (y ∷ ys) all member = elim (in_cases y x ys member) [ inl e ↦ subst P e all.0 | inr rest ↦ go ys all.1 rest ]

told : AreTold sixteen worked_records
told x among = by_four (IsTold sixteen) (
  (([], tt, refl), refl),
  (
    ([], tt, refl),
    (
      (
        refl,
        (
          0,
          0,
          false,
          refl,
          record {
            since = no_deeds;
            unclean = false;
            rest = [];
            pair = refl;
            none = refl;
            quiet = refl;
            clean = refl;
            in_use = omega arith;
          },
        ),
      ),
      (([], tt, refl), tt),
    ),
  ),
) x among

pub in_first : (x : ToldRecord) → Contains worked_records x → x.played.phase ≡ 1
in_first x among = by_four (λ (y : ToldRecord). y.played.phase ≡ 1) (refl, (refl, (refl, (refl, tt)))) x among

logs : AreLogs (view_of worked_records) worked_records
logs = are_logs worked_records
    (λ x among. by_four (λ (y : ToldRecord). y.played.thread < 16) (omega arith, (omega arith, (omega arith, (omega arith, tt)))) x among)

-- the history of the slot: it is made, pointed to and freed
abbrev steps : List Done
steps = record { step = Free; value = 0 } ∷ record { step = Copy; value = 0 } ∷ record { step = Issue; value = 0 } ∷ []

abbrev history_if : Bool → List Done
history_if b = if b then steps else []

abbrev history : Title → List Done
history t = history_if (same_title its_title t)

-- what is weighed over the records
weighed : (weight : Entry → ℕ) → logged_of (view_of worked_records) weight ≡ told_of worked_records weight
weighed weight = logs_are_told (view_of worked_records) worked_records weight logs

three : (k : ℕ) → one (eqb 0 k) + one (eqb 1 k) + one (eqb 2 k) ≡ one (ltb k 3)
three zero = refl
three (suc zero) = refl
three (suc (suc zero)) = refl
three (suc (suc (suc k))) =
    elim (one_eq 0 (suc (suc (suc k)))) [
      | inl a ↦ let z = a.1 in absurd (omega arith)
      | inr a ↦ elim (one_eq 1 (suc (suc (suc k)))) [
        | inl b ↦ let z = b.1 in absurd (omega arith)
        | inr b ↦ elim (one_eq 2 (suc (suc (suc k)))) [
          | inl c ↦ let z = c.1 in absurd (omega arith)
          | inr c ↦ elim (one_lt (suc (suc (suc k))) 3) [
            | inl d ↦ let z = d.1 in absurd (omega arith)
            | inr d ↦ let p = a.0 in let q = b.0 in let r = c.0 in let s = d.0 in omega arith
          ]
        ]
      ]
    ]

chain_here : IsChained (logged_of (view_of worked_records)) its_title steps
chain_here = record {
  legal = (
    (refl, omega arith, tt),
    (
      (omega arith, omega arith, omega arith),
      (
        ((refl, refl), omega arith, tt),
        tt,
      ),
    ),
  );
  steps = (
    weighed (counted_as its_title Free 33554435 0) ∙
        refl,
    (weighed (counted_as its_title Copy 16777217 0) ∙ refl, (weighed (counted_as its_title Issue 0 0) ∙ refl, tt)),
  );
  numbers = λ k. let a = weighed (counted_at its_title k) in let b = three k in omega arith;
  all = weighed (counted_on its_title) ∙ refl;
  looks = λ word some_look.
      let a = weighed (looked_at its_title word) in
      let b : 0 < one (eqb 33554435 word) = omega arith in
      inr (inl (sym (eqb-true 33554435 word (one_true _ b))));
}

-- another title
module _ (t : Title) (other : same_title its_title t ≡ false) where
  chain_there : IsChained (logged_of (view_of worked_records)) t []
  chain_there = record {
    legal = tt;
    steps = tt;
    numbers = λ k. let z = ap one (le k) in weighed (counted_at t k) ∙ (rw other refl ∙ sym z);
    all = weighed (counted_on t) ∙ rw other refl;
    looks = λ word some_look. let a : logged_of (view_of worked_records) (looked_at t word) ≡ 0 = weighed (looked_at t word) ∙
        rw other refl in absurd (omega arith);
  }
    where
      le : (k : ℕ) → ltb k 0 ≡ false
      le k = elim (one_lt k 0) [ inl y ↦ let z = y.1 in absurd (omega arith) | inr n ↦ go (ltb k 0) n.0 ]
        where
          go : (b : Bool) → one b ≡ 0 → b ≡ false
          go true e = absurd (omega arith)
          go false e = refl

chain : (t : Title) → IsChained (logged_of (view_of worked_records)) t (history t)
chain t = elim (title_tells its_title t) [
  | inl y ↦ subst (λ b. IsChained (logged_of (view_of worked_records)) t (history_if b)) (sym y.0)
      (subst (λ u. IsChained (logged_of (view_of worked_records)) u steps) y.1 chain_here)
  | inr n ↦ subst (λ b. IsChained (logged_of (view_of worked_records)) t (history_if b)) (sym n.0) (chain_there t n.0)
]

-- the one pair of a look and a read
abbrev pair_of : (Entry → Entry → ℕ) → ℕ
pair_of weight = weight (Looked its_title 33554435) (Read its_title 0 0 no_deeds false false)

first_pairs : (weight : Entry → Entry → ℕ) → weight (Counted its_title Issue 0 0) (Counted its_title Copy 16777217 0) ≡ 0
    → weight (Counted its_title Copy 16777217 0) (Counted its_title Free 33554435 0) ≡ 0 →
    paired_of (view_of worked_records) weight ≡ pair_of weight
first_pairs weight a b = omega arith

by_pairs : (r : ℕ) (weight : Entry → Entry → ℕ) → weight (Counted its_title Issue 0 0) (Counted its_title Copy 16777217 0) ≡ 0
    → weight (Counted its_title Copy 16777217 0) (Counted its_title Free 33554435 0) ≡ 0 →
    paired_of_by (view_of worked_records) r weight ≤ pair_of weight
by_pairs r weight a b =
    let within = paired_by_within (view_of worked_records ∷ []) r weight in
    let all = first_pairs weight a b in
    omega arith

content_here : (t : Title) (found value : ℕ) → its_title ≡ t → 33554435 ≡ found → 0 ≡ value →
    value ≡ content_at_number (number_of found) (history t)
content_here t found value e f g =
    subst (λ (u : Title). value ≡ content_at_number (number_of found) (history u)) e
    (subst (λ w. value ≡ content_at_number (number_of w) steps) f (sym g))

found_is : (t u : Title) (w found : ℕ) → Looked t w ≡ Looked u found → w ≡ found
found_is t u w found e = cc

reads : HasReads history (view_of worked_records)
reads = record {
  freed = first_pairs gave_no_poison refl refl ∙ refl;
  own = λ t found value held some_pair.
      let one_pair = first_pairs (quiet_read true t found value) refl refl in
      let is = quiet_tells true t found value (Looked its_title 33554435) its_title 0 0 no_deeds false false (omega arith) in
      absurd (true≢false (sym is.owner));
  ref = λ r t found value held some_pair.
      let one_pair = by_pairs r (quiet_read false t found value) refl refl in
      let is = quiet_tells false t found value (Looked its_title 33554435) its_title 0 0 no_deeds false false (omega arith) in
      inl (content_here t found value is.title (found_is its_title t 33554435 found is.looked) is.gave);
}

-- only one title is named
unnamed : (t : Title) → same_title its_title t ≡ false → logged_of (view_of worked_records) (names t) ≡ 0
unnamed t e = rw e refl

named_is : (t : Title) → 0 < logged_of (view_of worked_records) (names t) → its_title ≡ t
named_is t mine = elim (title_tells its_title t) [ inl y ↦ y.1 | inr n ↦ let z = unnamed t n.0 in absurd (omega arith) ]

well_here : IsWellFormed (length (view_of worked_records).words) its_title
well_here = rw (blank_long 262144) (record { start_aligned = refl; len_aligned = refl; long = lit≤ tt; inside = lit≤ tt })

well : (t : Title) → 0 < logged_of (view_of worked_records) (names t) → IsWellFormed (length (view_of worked_records).words) t
well t mine = subst (λ u. IsWellFormed (length (view_of worked_records).words) u) (named_is t mine) well_here

knows : KnowsAll (view_of worked_records) worked_records
knows = record {
  logs = logs;
  all = record {
    history = history;
    chain = chain;
    well = well;
    one_name = λ t u mine other start born. sym (named_is t mine) ∙
        named_is u other;
    reads = reads;
  };
}

pub worked_is_read_off : WorkedIsReadOff
worked_is_read_off = record {
  told = told;
  last = knows;
  ends = λ x among. (
    view_of worked_records,
    subst (λ n. KnowsAll (view_of worked_records) (told_until n worked_records)) (sym (in_first x among)) knows,
  );
  phases = λ p q m n first second late is other same.
      let (x, there, e) = map_cases (λ (z : ToldRecord). z.played) worked_records p first in
      let (y, there', f) = map_cases (λ (z : ToldRecord). z.played) worked_records q second in
      let a : p.phase ≡ 1 = ap (λ (z : Played). z.phase) (sym e) ∙ in_first x there in
      let b : q.phase ≡ 1 = ap (λ (z : Played). z.phase) (sym f) ∙ in_first y there' in
      absurd (omega arith);
}
