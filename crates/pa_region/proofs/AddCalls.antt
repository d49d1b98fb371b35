-- The table lets a seat add to a totals word and load one. Then what the words of a kind are together.
use Rattle.std.proofs.Common.{◌≡◌, ℕ, ◌+◌, ◌-◌, ◌%◌, ◌^◌, ◌<◌, ◌≤◌, List, length, set, refl, sym, ◌∙◌, ap, subst, arith, inl, inr}
use Rattle.std.specs.Prelude.{slice_index}
use Rattle.std.specs.List.{sum_by}
use mathlib.Core.Option.{some}
use lib.ListN.{get_elem?}
use Rattle.std.proofs.lemmas.List.{set-get_or}
use Rattle.std.proofs.lemmas.Bool.{cases_lt, le-ltb}
use Rattle.std.proofs.lemmas.Bool.Decides.{eqb_tells}
use Rattle.atomic_table.specs.Seated.{TableId}
use Rattle.atomic_table.specs.Table.{Me, Allows, keeps}
use Rattle.atomic_table.specs.Table.{State as TableState}
use Rattle.atomic_table.proofs.Lists.{set_again}
use Rattle.pa_machine.specs.Events.{total_of}
use Rattle.pa_region.specs.declared.view.Entry.{Entry}
use Rattle.pa_region.specs.declared.view.Entry.TheVariants.{Counted, Looked, Read, Added, Entered, Uncut}
use Rattle.pa_region.specs.declared.view.Stake.{Stake}
use Rattle.pa_region.specs.declared.view.View.{View}
use Rattle.pa_region.specs.Views.{byte_words, shown, logged_of, logged_in, HasEveryStake}
use Rattle.pa_region.specs.Rule.{IsKept}
use Rattle.pa_region.specs.Shares.{IsSeatSound}
use Rattle.pa_region.specs.Totals.{owes_as, added_as, added_to, total_place, after_add, CanAdd}
use Rattle.pa_region.proofs.Adding.{sum_split}
use Rattle.pa_region.proofs.Bytes.{bytes_length}
use Rattle.pa_region.proofs.Ends.{all_logs}
use Rattle.pa_region.proofs.ByNumber.{all_most}
use Rattle.pa_region.proofs.AddStep.{added_here, added_beside, add_keeps, total_small}

-- what an addition leaves: the view after it
abbrev pub AddTells : ℕ → ℕ → Me (Unit {0}) View → Me (Unit {0}) View → Type 0
AddTells k bytes me after = (after.0 ≡ after_add k bytes me.0) × (after.1 ≡ me.1)

-- where a totals word is, by a view's own list of words
seen_place : (words : List ℕ) (views : List View) (i : ℕ) (v : View) (k : ℕ) → IsKept words views → get_elem? views i ≡ some v →
    length v.words + k ≡ total_place words k
seen_place words views i v k kept at_i = let l = kept.values.long i v at_i in let b = bytes_length words in omega arith

-- whatever the table is, a seat that may add may add
pub add_allowed : (k bytes slots id place : ℕ) (me : Me (Unit {0}) View) → place ≡ length me.0.words + k → CanAdd k bytes me.0 →
    Allows (λ (s : TableState (Unit {0}) View). IsKept s.words s.views) slots id me place (λ n. (n + bytes) % 2 ^ 64)
    (λ word after. AddTells k bytes me after)
add_allowed k bytes slots id place me is can s kept homes at_id small =
    let here : place ≡ total_place s.words k = is ∙ seen_place s.words s.views id me.0 k kept at_id in
    let fits = total_small k bytes s.words s.views id me.0 kept at_id can in
    let fits_here : (slice_index s.words (total_place s.words k) + bytes) % 2 ^ 64 ≡ slice_index s.words (total_place s.words k) + bytes =
    omega arith in (
      after_add k bytes me.0,
      keeps,
      tt,
      subst (λ (p : ℕ). IsKept (set s.words p ((slice_index s.words p + bytes) % 2 ^ 64)) (set s.views id (after_add k bytes me.0)))
          (sym here)
          (rw fits_here (add_keeps k bytes s.words s.views id me.0 kept at_id can)),
      (refl, refl),
    )

-- what a load of a totals word says: nothing changes, and a seat that has every stake knows the sum
abbrev pub TotalTells : ℕ → Me (Unit {0}) View → ℕ → Me (Unit {0}) View → Type 0
TotalTells k me word after = (after.0 ≡ me.0) × (after.1 ≡ me.1) × (HasEveryStake me.0 → word ≡ logged_of me.0 (added_to k))

pub total_allowed : (k slots id place : ℕ) (me : Me (Unit {0}) View) → place ≡ length me.0.words + k → k < 16 →
    Allows (λ (s : TableState (Unit {0}) View). IsKept s.words s.views) slots id me place (λ n. n)
    (λ word after. TotalTells k me word after)
total_allowed k slots id place me is below s kept homes at_id small =
    let here : place ≡ total_place s.words k = is ∙ seen_place s.words s.views id me.0 k kept at_id in (
      me.0,
      keeps,
      tt,
      subst (λ (ws : List ℕ). IsKept ws (set s.views id me.0)) (sym (set-get_or s.words place 0))
          (subst (λ (vs : List View). IsKept s.words vs) (sym (set_again s.views id me.0 at_id)) kept),
      (
        refl,
        refl,
        λ every. ap (slice_index s.words) here ∙
            (kept.totals.sums k below ∙
            all_logs s.views id me.0 kept.history (byte_words s.words) (total_of (shown s.words s.views)) at_id kept.logs
            every (added_to k)),
      ),
    )

-- the word that is added to, or read, is one of the region's
pub total_inside : (region table : TableId) (k place : ℕ) (v : View) → region ≡ table → IsSeatSound region v → 16 ≤ table.words → k < 16 →
    place ≡ (table.words - 16) + k →
    (place < table.words) × (place ≡ length v.words + k)
total_inside region table k place v same sound wide small is =
    let w = ap (λ (z : TableId). z.words) same in
    let words_are : region.words ≡ table.words = w in
    let l = sound.long in
    (omega arith, omega arith)

-- what a seat's type keeps goes on
pub add_sound : (region : TableId) (k bytes : ℕ) (v : View) → IsSeatSound region v → IsSeatSound region (after_add k bytes v)
add_sound region k bytes v s = record { small = s.small; well = s.well; raw = s.raw; long = s.long }

-- an addition to word n alone is one to it
to_here : (n word bytes : ℕ) → word ≡ n → added_to n (Added word bytes) ≡ bytes
to_here n word bytes e = elim (eqb_tells word n) [ inl y ↦ rw y.0 refl | inr m ↦ absurd (m.1 e) ]

to_none : (n word bytes : ℕ) → (word ≡ n → ⊥) → added_to n (Added word bytes) ≡ 0
to_none n word bytes ne = elim (eqb_tells word n) [ inl y ↦ absurd (ne y.1) | inr m ↦ rw m.0 refl ]

-- an addition to a word of a kind is one to one of the kind's four words
of_four : (q word bytes : ℕ) → q < 4 →
    added_to q (Added word bytes) + added_to (4 + q) (Added word bytes) + added_to (8 + q) (Added word bytes) + added_to (12 + q)
    (Added word bytes) ≡ added_as q (Added word bytes)
of_four q word bytes small = elim (cases_lt word 16) [
  | inl below ↦ elim (eqb_tells (word % 4) q) [
    | inl y ↦
        let mine = subst (λ (n : ℕ). added_as n (Added word bytes) ≡ bytes) y.1 (added_here word bytes below) in
        let is = y.1 in
        elim (eqb_tells word q) [
          | inl a ↦
              let e = a.1 in
              let a0 = to_here q word bytes e in
              let a1 = to_none (4 + q) word bytes (λ f. omega arith) in
              let a2 = to_none (8 + q) word bytes (λ f. omega arith) in
              let a3 = to_none (12 + q) word bytes (λ f. omega arith) in
              omega arith
          | inr a ↦ elim (eqb_tells word (4 + q)) [
            | inl b ↦
                let e = b.1 in
                let a0 = to_none q word bytes a.1 in
                let a1 = to_here (4 + q) word bytes e in
                let a2 = to_none (8 + q) word bytes (λ f. omega arith) in
                let a3 = to_none (12 + q) word bytes (λ f. omega arith) in
                omega arith
            | inr b ↦ elim (eqb_tells word (8 + q)) [
              | inl c ↦
                  let e = c.1 in
                  let a0 = to_none q word bytes a.1 in
                  let a1 = to_none (4 + q) word bytes b.1 in
                  let a2 = to_here (8 + q) word bytes e in
                  let a3 = to_none (12 + q) word bytes (λ f. omega arith) in
                  omega arith
              | inr c ↦
                  let na = a.1 in let nb = b.1 in let nc = c.1 in
                  let e : word ≡ 12 + q = omega arith in
                  let a0 = to_none q word bytes a.1 in
                  let a1 = to_none (4 + q) word bytes b.1 in
                  let a2 = to_none (8 + q) word bytes c.1 in
                  let a3 = to_here (12 + q) word bytes e in
                  omega arith
            ]
          ]
        ]
    | inr n ↦
        let ne = n.1 in
        let mine = added_beside word q bytes ne in
        let a0 = to_none q word bytes (λ f. n.1 (omega arith)) in
        let a1 = to_none (4 + q) word bytes (λ f. n.1 (omega arith)) in
        let a2 = to_none (8 + q) word bytes (λ f. n.1 (omega arith)) in
        let a3 = to_none (12 + q) word bytes (λ f. n.1 (omega arith)) in
        omega arith
  ]
  | inr past ↦
      let mine : added_as q (Added word bytes) ≡ 0 = rw (le-ltb word 16 past) refl in
      let a0 = to_none q word bytes (λ f. omega arith) in
      let a1 = to_none (4 + q) word bytes (λ f. omega arith) in
      let a2 = to_none (8 + q) word bytes (λ f. omega arith) in
      let a3 = to_none (12 + q) word bytes (λ f. omega arith) in
      omega arith
]

-- an entry weighs as much for the four words of a kind as for the kind
four_words : (q : ℕ) (e : Entry) → q < 4 → added_to q e + added_to (4 + q) e + added_to (8 + q) e + added_to (12 + q) e ≡ added_as q e
four_words q (Counted t step found value) small = refl
four_words q (Looked t found) small = refl
four_words q (Read t place value since owned unclean) small = refl
four_words q (Added word bytes) small = of_four q word bytes small
four_words q (Entered keeper made) small = refl
four_words q (Uncut t) small = refl

-- weights that add up
logged_split : (views : List View) (f g h : Entry → ℕ) → ((e : Entry) → f e + g e ≡ h e) →
    logged_in views f + logged_in views g ≡ logged_in views h
logged_split views f g h each =
    sum_split (λ v. logged_of v f) (λ v. logged_of v g) (λ v. logged_of v h) views
    (λ v. sum_split (λ (s : Stake). sum_by f s.log) (λ (s : Stake). sum_by g s.log) (λ (s : Stake). sum_by h s.log) v.stakes
    (λ s. sum_split f g h s.log each))

-- the four words of a kind are together what all logs added to it, which isn't above what they owe
pub kinds_are_owed : (words : List ℕ) (views : List View) (q : ℕ) → IsKept words views → q < 4 →
    (slice_index words (total_place words q) + slice_index words (total_place words (4 + q)) + slice_index words
    (total_place words (8 + q)) + slice_index words
    (total_place words (12 + q)) ≡ logged_in views (added_as q)) ×
    (logged_in views (added_as q) ≤ logged_in views (owes_as q))
kinds_are_owed words views q kept small =
    let a = logged_split views (added_to q) (added_to (4 + q)) (λ e. added_to q e + added_to (4 + q) e) (λ e. refl) in
    let b = logged_split views (λ e. added_to q e + added_to (4 + q) e) (added_to (8 + q))
    (λ e. added_to q e + added_to (4 + q) e + added_to (8 + q) e) (λ e. refl) in
    let c = logged_split views (λ e. added_to q e + added_to (4 + q) e + added_to (8 + q) e) (added_to (12 + q)) (added_as q)
    (λ e. four_words q e small) in
    let s0 = kept.totals.sums q (omega arith) in
    let s1 = kept.totals.sums (4 + q) (omega arith) in
    let s2 = kept.totals.sums (8 + q) (omega arith) in
    let s3 = kept.totals.sums (12 + q) (omega arith) in
    (omega arith, all_most views (added_as q) (owes_as q) kept.logs.each_stake (λ r. kept.totals.covered r q))
