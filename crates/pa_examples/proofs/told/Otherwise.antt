-- The worked run of two threads with the other two answers of its read.
use Rattle.std.proofs.Common.{◌≡◌, ℕ, ◌<◌, true, false, eqb, List, [], ◌∷◌, ◌++◌, lit<, refl, sym, ap, subst, arith, inl, inr}
use Rattle.std.specs.Prelude.{take, drop}
use Rattle.std.proofs.lemmas.Bool.{true≢false, eqb-true, cases_lt}
use Rattle.pa_slot.specs.declared.title.Title.{Title}
use Rattle.pa_slot.specs.Count.{number_of, held_of}
use Rattle.pa_slot.specs.Titles.{poison}
use Rattle.pa_slot.specs.Holdings.{one}
use Rattle.pa_region.specs.declared.view.Entry.TheVariants.{Looked, Read}
use Rattle.pa_region.specs.declared.view.View.{View}
use Rattle.pa_region.specs.History.{IsChained}
use Rattle.pa_region.specs.Contents.{content_at_number}
use Rattle.pa_region.specs.Moves.{no_deeds}
use Rattle.pa_region.specs.Waiting.{quiet_read}
use Rattle.pa_region.proofs.OneRead.{one_true, quiet_tells}
use Rattle.pa_examples.proofs.worked.Lists.{each}
use Rattle.pa_examples.proofs.worked.Threads.{cells}
use Rattle.pa_logs.specs.Told.{ToldRecord, told_of, told_until}
use Rattle.pa_logs.specs.Touches.{IsTold, AreTold}
use Rattle.pa_logs.specs.Reads.{KnowsAll, HaveEnds}
use Rattle.pa_logs.specs.Worked.{sixteen, its_title, view_of}
use Rattle.pa_examples.specs.told.Threads.{threads_worked}
use Rattle.pa_examples.specs.told.Worked.{Worked}
use Rattle.pa_examples.specs.told.OtherReads.{content_read, freed_read, reading_so, OtherReadsFit}
use Rattle.pa_examples.proofs.told.Knowing.{below, IsOfOne, knows_one}
use Rattle.pa_examples.proofs.told.Seen.{viewed}
use Rattle.pa_examples.proofs.told.Threads.{steps_first, steps_second, steps_last, chained_first, told_first, of_first, GaveRef, by_second, hands, hands_so}

-- a quiet read without an Own, of the slot, which gave this
read_gives : (w given : ℕ) (t : Title) (found value : ℕ)
    → 0 < quiet_read false t found value (Looked its_title w) (Read its_title 0 given no_deeds false false)
    → (its_title ≡ t) × (w ≡ found) × (given ≡ value)
read_gives w given t found value some_pair =
    let is = quiet_tells false t found value (Looked its_title w) its_title 0 given no_deeds false false some_pair in
    (is.title, found_is its_title t w found is.looked, is.gave)
  where
    found_is : (a b : Title) (m n : ℕ) → Looked a m ≡ Looked b n → m ≡ n
    found_is a b m n e = cc

-- no quiet read is through an Own
never_owned : (w given : ℕ) (t : Title) (found value : ℕ) →
    0 < quiet_read true t found value (Looked its_title w) (Read its_title 0 given no_deeds false false) → ⊥
never_owned w given t found value some_pair =
    let is = quiet_tells true t found value (Looked its_title w) its_title 0 given no_deeds false false some_pair in
    true≢false (sym is.owner)

-- a look that found the bit 0 is no look at a held slot
found_free : (t : Title) (found value : ℕ) → held_of found ≡ 1 →
    0 < quiet_read false t found value (Looked its_title 50331650) (Read its_title 0 poison no_deeds false false) → ⊥
found_free t found value held some_pair =
    let (title, word, is) = read_gives 50331650 poison t found value some_pair in
    let bit : 0 ≡ held_of found = ap held_of word in
    absurd (omega arith)

-- ---- the content

abbrev pub so_content : List ToldRecord
so_content = reading_so content_read

abbrev pub content_second : List ToldRecord
content_second = told_until 2 so_content

-- the read gave the content of any history with no write
gave_content : (ts : List ToldRecord) (t : Title) (found value : ℕ)
    → 0 < quiet_read false t found value (Looked its_title 33554435) (Read its_title 0 0 no_deeds false false)
    → GaveRef ts steps_second 1 t found value
gave_content ts t found value some_pair =
    let (title, word, is) = read_gives 33554435 0 t found value some_pair in
    (title, inl (subst (λ (w : ℕ). value ≡ content_at_number (number_of w) steps_second) word (sym is)))

gave_at_last : (ts : List ToldRecord) (t : Title) (found value : ℕ)
    → 0 < quiet_read false t found value (Looked its_title 33554435) (Read its_title 0 0 no_deeds false false)
    → GaveRef ts steps_last 1 t found value
gave_at_last ts t found value some_pair =
    let (title, word, is) = read_gives 33554435 0 t found value some_pair in
    (title, inl (subst (λ (w : ℕ). value ≡ content_at_number (number_of w) steps_last) word (sym is)))

content_chain_second : IsChained (told_of content_second) its_title steps_second
content_chain_second = record {
  legal = ((refl, omega arith, tt), chained_first.legal);
  steps = (refl, (refl, (refl, tt)));
  numbers = λ k. let b = below 3 k in omega arith;
  all = refl;
  looks = λ word some_look. inr (inl (sym (eqb-true 33554435 word (one_true _ (omega arith)))));
}

content_chain_last : IsChained (told_of so_content) its_title steps_last
content_chain_last = record {
  legal = ((omega arith, omega arith, tt), content_chain_second.legal);
  steps = (refl, (refl, (refl, (refl, tt))));
  numbers = λ k. let b = below 4 k in omega arith;
  all = refl;
  looks = λ word some_look. elim (cases_lt 0 (one (eqb 33554435 word))) [
    | inl look ↦ inr (inr (inl (sym (eqb-true 33554435 word (one_true _ look)))))
    | inr none ↦ inr (inl (sym (eqb-true 50331650 word (one_true _ (omega arith)))))
  ];
}

pub content_of_second : IsOfOne content_second steps_second
content_of_second = record {
  low = λ x among. each (λ (y : ToldRecord). y.played.thread < 16) content_second
      (lit< tt, (lit< tt, (lit< tt, (lit< tt, (lit< tt, (lit< tt, tt)))))) x among;
  chained = content_chain_second;
  other = λ t other. record { at = λ k. rw other refl; on = rw other refl; looked = λ word. rw other refl; named = rw other refl };
  freed = refl;
  own = λ t found value some_pair. never_owned 33554435 0 t found value (omega arith);
  ref = λ r t found value held some_pair.
      by_second content_second r (quiet_read false t found value) (λ q. GaveRef content_second steps_second q t found value) refl
      (λ a b. rw (a, b) refl) some_pair
      (λ mine. gave_content content_second t found value (omega arith));
}

pub content_of_last : IsOfOne so_content steps_last
content_of_last = record {
  low = λ x among. each (λ (y : ToldRecord). y.played.thread < 16) so_content
      (lit< tt, (lit< tt, (lit< tt, (lit< tt, (lit< tt, (lit< tt, (lit< tt, (lit< tt, tt)))))))) x among;
  chained = content_chain_last;
  other = λ t other. record { at = λ k. rw other refl; on = rw other refl; looked = λ word. rw other refl; named = rw other refl };
  freed = refl;
  own = λ t found value some_pair.
      elim (cases_lt 0 (quiet_read true t found value (Looked its_title 33554435) (Read its_title 0 0 no_deeds false false))) [
        | inl early ↦ never_owned 33554435 0 t found value early
        | inr none ↦ never_owned 50331650 poison t found value (omega arith)
      ];
  ref = λ r t found value held some_pair.
      by_second so_content r (quiet_read false t found value) (λ q. GaveRef so_content steps_last q t found value) refl
      (λ a b. rw (a, b) refl) some_pair
      (λ mine. elim (cases_lt 0 (quiet_read false t found value (Looked its_title 33554435) (Read its_title 0 0 no_deeds false false))) [
        | inl early ↦ gave_at_last so_content t found value early
        | inr none ↦ absurd (found_free t found value held (omega arith))
      ]);
}

-- ---- freed

abbrev pub so_freed : List ToldRecord
so_freed = reading_so freed_read

abbrev pub freed_second : List ToldRecord
freed_second = told_until 2 so_freed

freed_chain_second : IsChained (told_of freed_second) its_title steps_second
freed_chain_second = record {
  legal = ((refl, omega arith, tt), chained_first.legal);
  steps = (refl, (refl, (refl, tt)));
  numbers = λ k. let b = below 3 k in omega arith;
  all = refl;
  looks = λ word some_look. inl (sym (eqb-true 50331650 word (one_true _ (omega arith))));
}

freed_chain_last : IsChained (told_of so_freed) its_title steps_last
freed_chain_last = record {
  legal = ((omega arith, omega arith, tt), freed_chain_second.legal);
  steps = (refl, (refl, (refl, (refl, tt))));
  numbers = λ k. let b = below 4 k in omega arith;
  all = refl;
  looks = λ word some_look. inr (inl (sym (eqb-true 50331650 word (one_true _ (omega arith)))));
}

pub freed_of_second : IsOfOne freed_second steps_second
freed_of_second = record {
  low = λ x among. each (λ (y : ToldRecord). y.played.thread < 16) freed_second
      (lit< tt, (lit< tt, (lit< tt, (lit< tt, (lit< tt, (lit< tt, tt)))))) x among;
  chained = freed_chain_second;
  other = λ t other. record { at = λ k. rw other refl; on = rw other refl; looked = λ word. rw other refl; named = rw other refl };
  freed = refl;
  own = λ t found value some_pair. never_owned 50331650 poison t found value (omega arith);
  ref = λ r t found value held some_pair.
      by_second freed_second r (quiet_read false t found value) (λ q. GaveRef freed_second steps_second q t found value) refl
      (λ a b. rw (a, b) refl) some_pair
      (λ mine. absurd (found_free t found value held (omega arith)));
}

pub freed_of_last : IsOfOne so_freed steps_last
freed_of_last = record {
  low = λ x among. each (λ (y : ToldRecord). y.played.thread < 16) so_freed
      (lit< tt, (lit< tt, (lit< tt, (lit< tt, (lit< tt, (lit< tt, (lit< tt, (lit< tt, tt)))))))) x among;
  chained = freed_chain_last;
  other = λ t other. record { at = λ k. rw other refl; on = rw other refl; looked = λ word. rw other refl; named = rw other refl };
  freed = refl;
  own = λ t found value some_pair. never_owned 50331650 poison t found value (omega arith);
  ref = λ r t found value held some_pair.
      by_second so_freed r (quiet_read false t found value) (λ q. GaveRef so_freed steps_last q t found value) refl
      (λ a b. rw (a, b) refl) some_pair
      (λ mine. absurd (found_free t found value held (omega arith)));
}

-- ---- both

-- at the end of each phase a view knows all logs
abbrev EndsAt : List ToldRecord → ℕ → Type 0
EndsAt ts n = (v : View) × KnowsAll v (told_until n ts)

content_ends : HaveEnds so_content
content_ends x among =
    let first : EndsAt so_content 1 = (view_of told_first, knows_one told_first steps_first of_first) in
    let second : EndsAt so_content 2 = (view_of content_second, knows_one content_second steps_second content_of_second) in
    let last : EndsAt so_content 3 = (view_of so_content, knows_one so_content steps_last content_of_last) in
    each (λ (y : ToldRecord). EndsAt so_content y.played.phase) so_content
    (first, (first, (first, (second, (second, (second, (last, (last, tt)))))))) x among

freed_ends : HaveEnds so_freed
freed_ends x among =
    let first : EndsAt so_freed 1 = (view_of told_first, knows_one told_first steps_first of_first) in
    let second : EndsAt so_freed 2 = (view_of freed_second, knows_one freed_second steps_second freed_of_second) in
    let last : EndsAt so_freed 3 = (view_of so_freed, knows_one so_freed steps_last freed_of_last) in
    each (λ (y : ToldRecord). EndsAt so_freed y.played.phase) so_freed
    (first, (first, (first, (second, (second, (second, (last, (last, tt)))))))) x among

content_told : AreTold sixteen so_content
content_told x among = each (IsTold sixteen) so_content (
  (([], tt, refl), refl),
  (
    ([], tt, refl),
    (
      refl,
      (
        ([], tt, refl),
        (
          refl,
          (
            (
              refl,
              (
                0,
                0,
                false,
                refl,
                record {
                  since = no_deeds;
                  unclean = false;
                  rest = [];
                  pair = refl;
                  none = refl;
                  quiet = refl;
                  clean = refl;
                  in_use = omega arith;
                },
              ),
            ),
            (
              (
                refl,
                (
                  0,
                  0,
                  false,
                  refl,
                  record {
                    since = no_deeds;
                    unclean = false;
                    rest = [];
                    pair = refl;
                    none = refl;
                    quiet = refl;
                    clean = refl;
                    in_use = omega arith;
                  },
                ),
              ),
              (([], tt, refl), tt),
            ),
          ),
        ),
      ),
    ),
  ),
) x among

freed_told : AreTold sixteen so_freed
freed_told x among = each (IsTold sixteen) so_freed (
  (([], tt, refl), refl),
  (
    ([], tt, refl),
    (
      refl,
      (
        ([], tt, refl),
        (
          refl,
          (
            (
              refl,
              (
                0,
                0,
                false,
                refl,
                record {
                  since = no_deeds;
                  unclean = false;
                  rest = [];
                  pair = refl;
                  none = refl;
                  quiet = refl;
                  clean = refl;
                  in_use = omega arith;
                },
              ),
            ),
            (
              (
                refl,
                (
                  0,
                  0,
                  false,
                  refl,
                  record {
                    since = no_deeds;
                    unclean = false;
                    rest = [];
                    pair = refl;
                    none = refl;
                    quiet = refl;
                    clean = refl;
                    in_use = omega arith;
                  },
                ),
              ),
              (([], tt, refl), tt),
            ),
          ),
        ),
      ),
    ),
  ),
) x among

abbrev with_read : Worked → List Worked
with_read read = take 5 threads_worked ++ (read ∷ drop 6 threads_worked)

pub other_reads_fit : OtherReadsFit
other_reads_fit = record {
  content = record {
    told = content_told;
    last = knows_one so_content steps_last content_of_last;
    ends = content_ends;
    viewed = viewed cells (with_read content_read) hands refl hands_so;
  };
  freed = record {
    told = freed_told;
    last = knows_one so_freed steps_last freed_of_last;
    ends = freed_ends;
    viewed = viewed cells (with_read freed_read) hands refl hands_so;
  };
}
