-- The fourth part after a step: what was seen.
use Rattle.std.proofs.Common.{◌≡◌, ℕ, ◌+◌, ◌<◌, ◌≤◌, Bool, true, false, ◌&&◌, List, [], ◌∷◌, set, refl, ◌∙◌, ap, subst, arith, ◌⊎◌, inl, inr, ltb, max}
use Rattle.std.specs.List.{sum_by}
use Rattle.std.proofs.lemmas.List.Sums.{sum_by-cons, sum_by-le-sum_by}
use Rattle.std.proofs.lemmas.Bool.{cases_lt}
use mathlib.Core.Option.{some}
use lib.ListN.{get_elem?}
use Rattle.pa_slot.specs.declared.title.Title.{Title}
use Rattle.pa_slot.specs.Count.{number_of}
use Rattle.pa_slot.specs.Titles.{same_title}
use Rattle.pa_slot.specs.Holdings.{one}
use Rattle.pa_slot.proofs.Same.{title_tells, title_self}
use Rattle.pa_region.specs.declared.view.Entry.{Entry}
use Rattle.pa_region.specs.declared.view.Entry.TheVariants.{Counted, Looked, Read, Added, Entered, Uncut}
use Rattle.pa_region.specs.declared.view.Stake.{Stake}
use Rattle.pa_region.specs.declared.view.SeenNumber.{SeenNumber}
use Rattle.pa_region.specs.declared.view.View.{View}
use Rattle.std.proofs.Math.Nat.{max-le, le-max_left, le-max_right}
use Rattle.pa_region.specs.Views.{seen_among, seen_of, ahead_of, ahead_in, unseen_by, unseen_of, unseen_in, counted_on, logged_of}
use Rattle.pa_region.specs.Rule.{Seen}
use Rattle.pa_region.proofs.Adding.{one_lt, sum_part, sum_set}

-- a greater number that was seen is one of the notes
pub seen_ahead : (t : Title) (n : ℕ) (notes : List SeenNumber) → n < seen_among t notes →
    0 < sum_by (λ (s : SeenNumber). one (same_title s.title t && ltb n s.number)) notes
seen_ahead t n [] h = absurd (omega arith)
seen_ahead t n (s ∷ ss) h =
    let c = sum_by-cons (λ (x : SeenNumber). one (same_title x.title t && ltb n x.number)) s ss in
    elim (title_tells s.title t) [
      | inl y ↦
          let h2 : n < max s.number (seen_among t ss) = rw y.0 at h in
          elim (one_lt n s.number) [
            | inl a ↦
                let z : one (same_title s.title t && ltb n s.number) ≡ 1 = rw y.0 a.0 in
                omega arith
            | inr a ↦
                let low = a.1 in
                let again = seen_ahead t n ss (below n s.number (seen_among t ss) low h2) in
                omega arith
          ]
      | inr m ↦
          let h2 : n < seen_among t ss = rw m.0 at h in
          let again = seen_ahead t n ss h2 in
          omega arith
    ]
  where
    below : (n a b : ℕ) → a ≤ n → n < max a b → n < b
    below n a b low h = elim (cases_lt n b) [ inl y ↦ y | inr m ↦ let all : max a b ≤ n = max-le low m in absurd (omega arith) ]

-- what a view has seen isn't above what all logs say
pub seen_within : (views : List View) (i : ℕ) (v : View) (logs : (Entry → ℕ) → ℕ) (unseen : ℕ) → get_elem? views i ≡ some v →
    Seen logs (ahead_in views) unseen → (t : Title) → seen_of v t ≤ logs (counted_on t)
seen_within views i v logs unseen at_i s t =
    elim (cases_lt (logs (counted_on t)) (seen_of v t)) [
      | inl y ↦
          let n = s.numbers t in
          let p = sum_part (λ u. ahead_of u t (logs (counted_on t))) views i v at_i in
          let some_note = seen_ahead t (logs (counted_on t)) v.seen y in
          absurd (omega arith)
      | inr n ↦ n
    ]

-- one note more
abbrev pub note : Title → ℕ → SeenNumber
note t number = record { title = t; number = number }

-- one more note never takes back what was seen
pub note_grows : (t : Title) (number : ℕ) (notes : List SeenNumber) (u : Title) → seen_among u notes ≤ seen_among u (note t number ∷ notes)
note_grows t number notes u = elim (title_tells t u) [
  | inl y ↦ rw y.0 (le-max_right number (seen_among u notes))
  | inr n ↦ rw n.0 (omega arith)
]

-- a note says at least its number
pub note_here : (t : Title) (number : ℕ) (notes : List SeenNumber) → number ≤ seen_among t (note t number ∷ notes)
note_here t number notes = rw (title_self t) (le-max_left number (seen_among t notes))

-- fewer numbers are above a greater one
pub lt_antitone : (a b k : ℕ) → a ≤ b → one (ltb b k) ≤ one (ltb a k)
lt_antitone a b k h =
    elim (one_lt b k) [
      | inl y ↦ let p = y.1 in let q = y.0 in
          elim (one_lt a k) [ inl z ↦ let r = z.0 in omega arith | inr z ↦ let r = z.1 in absurd (omega arith) ]
      | inr n ↦ let q = n.0 in omega arith
    ]

-- after a note no entry is unseen that was seen
unseen_less : (t : Title) (number : ℕ) (notes : List SeenNumber) (e : Entry) → unseen_by (note t number ∷ notes) e ≤ unseen_by notes e
unseen_less t number notes (Counted u step found value) =
    lt_antitone (seen_among u notes) (seen_among u (note t number ∷ notes)) (number_of found + 1) (note_grows t number notes u)
unseen_less t number notes (Looked u found) =
    lt_antitone (seen_among u notes) (seen_among u (note t number ∷ notes)) (number_of found) (note_grows t number notes u)
unseen_less t number notes (Read u place read since owned unclean) = omega arith
unseen_less t number notes (Added word_number bytes) = omega arith
unseen_less t number notes (Entered keeper made) = omega arith
unseen_less t number notes (Uncut again) = omega arith

-- greater weights give greater sums
pub logged_mono : (v : View) (f g : Entry → ℕ) → ((e : Entry) → f e ≤ g e) → logged_of v f ≤ logged_of v g
logged_mono v f g h = sum_by-le-sum_by (λ (s : Stake). sum_by f s.log) (λ (s : Stake). sum_by g s.log) v.stakes
    (λ s. sum_by-le-sum_by f g s.log h)

-- fewer notes are ahead of a greater number
ahead_antitone : (views : List View) (t : Title) (a b : ℕ) → a ≤ b → ahead_in views t b ≤ ahead_in views t a
ahead_antitone views t a b h =
    sum_by-le-sum_by (λ v. ahead_of v t b) (λ v. ahead_of v t a) views
    (λ v. sum_by-le-sum_by (λ (s : SeenNumber). one (same_title s.title t && ltb b s.number))
    (λ (s : SeenNumber). one (same_title s.title t && ltb a s.number)) v.seen
    (λ s. go (same_title s.title t) s.number))
  where
    go : (x : Bool) (n : ℕ) → one (x && ltb b n) ≤ one (x && ltb a n)
    go true n = lt_antitone a b n h
    go false n = omega arith

-- An entry in the log of one view, with a number of its title that is now seen, keeps the part, if all logs have
-- that many counted steps on the title, and the entry is seen.
pub seen_entered : (views : List View) (i : ℕ) (v w : View) (logs after : (Entry → ℕ) → ℕ) (e : Entry) (t : Title) (number : ℕ) →
    get_elem? views i ≡ some v → w.seen ≡ note t number ∷ v.seen → ((f : Entry → ℕ) → logged_of w f ≡ logged_of v f + f e) →
    ((weight : Entry → ℕ) → after weight ≡ logs weight + weight e) → number ≤ after (counted_on t) →
    unseen_by (note t number ∷ v.seen) e ≡ 0 →
    Seen logs (ahead_in views) (unseen_in views) → Seen after (ahead_in (set views i w)) (unseen_in (set views i w))
seen_entered views i v w logs after e t number at_i seen_is logged with_entry enough fresh s = record {
  numbers = λ u.
      let grown = with_entry (counted_on u) in
      let n = s.numbers u in
      let c = sum_set (λ x. ahead_of x u (after (counted_on u))) views i v w at_i in
      let less = ahead_antitone views u (logs (counted_on u)) (after (counted_on u)) (omega arith) in
      let d : ahead_of w u (after (counted_on u)) ≡ one (same_title t u && ltb (after (counted_on u)) number) + ahead_of v u
      (after (counted_on u)) =
      rw seen_is (sum_by-cons (λ (x : SeenNumber). one (same_title x.title u && ltb (after (counted_on u)) x.number))
      (note t number) v.seen) in
      let z : one (same_title t u && ltb (after (counted_on u)) number) ≡ 0 = elim (title_tells t u) [
        | inl y ↦ subst (λ (k : Title). one (same_title t k && ltb (after (counted_on k)) number) ≡ 0) y.1
            (here (one_lt (after (counted_on t)) number))
        | inr m ↦ rw m.0 refl
      ] in
      omega arith;
  own_logs =
      let c = sum_set unseen_of views i v w at_i in
      let n = s.own_logs in
      let d = logged (unseen_by w.seen) in
      let l : logged_of v (unseen_by w.seen) ≤ logged_of v (unseen_by v.seen) = rw seen_is
      (logged_mono v (unseen_by (note t number ∷ v.seen)) (unseen_by v.seen) (λ x. unseen_less t number v.seen x)) in
      let f : unseen_by w.seen e ≡ 0 = rw seen_is fresh in
      let p = sum_part unseen_of views i v at_i in
      omega arith;
}
  where
    here : ((one (ltb (after (counted_on t)) number) ≡ 1) × (after (counted_on t) < number)) ⊎
        ((one (ltb (after (counted_on t)) number) ≡ 0) × (number ≤ after (counted_on t))) →
        one (same_title t t && ltb (after (counted_on t)) number) ≡ 0
    here (inl y) = let a = y.1 in absurd (omega arith)
    here (inr n) = rw (title_self t) n.0

-- nothing that is read changes
pub seen_same : (logs after : (Entry → ℕ) → ℕ) (ahead ahead_after : Title → ℕ → ℕ) (unseen unseen_after : ℕ) → Seen logs ahead unseen →
    ((t : Title) → after (counted_on t) ≡ logs (counted_on t)) → ((t : Title) (n : ℕ) → ahead_after t n ≡ ahead t n) →
    unseen_after ≡ unseen →
    Seen after ahead_after unseen_after
seen_same logs after ahead ahead_after unseen unseen_after s same_logs same_ahead same = record {
  numbers = λ t. ap (ahead_after t) (same_logs t) ∙ (same_ahead t (logs (counted_on t)) ∙ s.numbers t);
  own_logs = same ∙ s.own_logs;
}
