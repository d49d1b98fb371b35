-- At the end: what the words say to a view with every stake.
use Rattle.std.proofs.Common.{◌≡◌, ℕ, ◌+◌, ◌≤◌, Bool, true, false, ◌&&◌, List, refl, sym, ◌∙◌, subst, arith, inl, inr, ltb}
use Rattle.std.specs.List.{sum_by}
use Rattle.std.proofs.lemmas.List.Sums.{sum_by-le-sum_by}
use Rattle.std.proofs.lemmas.Bool.{cases_lt, lt-ltb, true≢false}
use Rattle.std.proofs.lemmas.Bool.Decides.{eqb_tells}
use mathlib.Core.Option.{some, some-injective}
use lib.ListN.{get_elem?}
use Rattle.atomic_table.specs.Table.{Final}
use Rattle.atomic_table.specs.Table.{Seen as SeenAt, State as TableState}
use Rattle.pa_slot.specs.declared.title.Title.{Title}
use Rattle.pa_slot.specs.declared.title.OwnState.{OwnState}
use Rattle.pa_slot.specs.declared.title.OwnState.TheVariants.{Clean, Dirty, Poisoned}
use Rattle.pa_slot.specs.Titles.{same_title, same_state, count_word}
use Rattle.pa_slot.specs.Holdings.{OwnOf, OwnAs, one, IsTitleHeld}
use Rattle.pa_machine.specs.Events.{total_of}
use Rattle.pa_region.specs.declared.view.OwnTitle.{OwnTitle}
use Rattle.pa_region.specs.declared.view.View.{View}
use Rattle.pa_region.specs.Views.{held_of_view, byte_words, shown, names, uncuts, HasEveryStake, HasTitle, logged_of, counted_on}
use Rattle.pa_region.specs.Waiting.{is_unclean, unclean_of}
use Rattle.pa_region.specs.Rule.{IsKept}
use Rattle.pa_region.specs.Loads.{has_unclean}
use Rattle.pa_region.specs.Ends.{EndsWith, IsEnd}
use Rattle.pa_region.proofs.Adding.{sum_split, sum_zero}
use Rattle.pa_region.proofs.Pieces.{title_held, total_sum, owns_have, owns_as_have}
use Rattle.pa_region.proofs.Bytes.{held_in_all}
use Rattle.pa_region.proofs.OneTitle.{unstepped}
use Rattle.pa_region.proofs.SeenPart.{logged_mono}
use Rattle.pa_region.proofs.Cutting.{counted_names}
use Rattle.pa_region.proofs.WholeReads.{others_none, no_least}
use Rattle.pa_region.proofs.Awareness.{aware_of}
use Rattle.pa_region.proofs.Ends.{all_logs, knows_logs}

-- an Own is clean or it isn't
clean_split : (b : Bool) (a : OwnState) → one (b && same_state a Clean) + one (b && is_unclean a) ≡ one b
clean_split true Clean = refl
clean_split true Dirty = refl
clean_split true (Poisoned j) = refl
clean_split false a = refl

-- how many times a view has the title's Own in a state other than clean
abbrev unclean_by : Title → View → ℕ
unclean_by t v = sum_by (λ (o : OwnTitle). one (same_title o.title t && is_unclean o.state)) v.owns

-- a test that isn't passed
none_of : (n : ℕ) → ltb 0 n ≡ false → n ≡ 0
none_of n e = elim (cases_lt 0 n) [ inl y ↦ absurd (true≢false (sym (lt-ltb 0 n y) ∙ e)) | inr m ↦ omega arith ]

-- a test counts what its second part does, at most
and_second : (a b : Bool) → one (a && b) ≤ one b
and_second true b = omega arith
and_second false b = omega arith

-- if a view has every stake, and no unclean Own of the title, each Own of the title is clean
owned_clean : (words : List ℕ) (views : List View) (i : ℕ) (v : View) (t : Title) → IsKept words views → get_elem? views i ≡ some v →
    HasEveryStake v → has_unclean v t ≡ false →
    total_of (shown words views) (OwnAs t Clean) ≡ total_of (shown words views) (OwnOf t)
owned_clean words views i v t k at_i every clean =
    let a = total_sum words views (OwnAs t Clean) in
    let b = total_sum words views (OwnOf t) in
    let s = sum_split (λ u. held_of_view u (OwnAs t Clean)) (unclean_by t) (λ u. held_of_view u (OwnOf t)) views each in
    let z = sum_zero (unclean_by t) views none in
    omega arith
  where
    each : (u : View) → held_of_view u (OwnAs t Clean) + unclean_by t u ≡ held_of_view u (OwnOf t)
    each u =
        let e = owns_as_have u t Clean in
        let f = owns_have u t in
        let s = sum_split (λ (o : OwnTitle). one (same_title o.title t && same_state o.state Clean))
        (λ (o : OwnTitle). one (same_title o.title t && is_unclean o.state)) (λ (o : OwnTitle). one (same_title o.title t)) u.owns
        (λ o. clean_split (same_title o.title t) o.state) in
        omega arith

    none : (j : ℕ) (u : View) → get_elem? views j ≡ some u → unclean_by t u ≡ 0
    none j u at_j = elim (eqb_tells j i) [
      | inl y ↦ subst (λ (x : View). unclean_by t x ≡ 0)
          (some-injective v u (sym at_i ∙ subst (λ (n : ℕ). get_elem? views n ≡ some u) y.1 at_j)) (none_of (unclean_by t v) clean)
      | inr n ↦
          let l = sum_by-le-sum_by (λ (o : OwnTitle). one (same_title o.title t && is_unclean o.state))
          (λ (o : OwnTitle). one (is_unclean o.state)) u.owns
          (λ o. and_second (same_title o.title t) (is_unclean o.state)) in
          elim (cases_lt 0 (unclean_of u)) [
            | inl some_own ↦ absurd (no_least u (others_none views i v at_i every k.logs.each_stake j u at_j n.1)
                ((k.reads.each_view j u at_j).stake some_own))
            | inr m ↦ omega arith
          ]
    ]

-- what the words say of a held title
ends_with : (words : List ℕ) (views : List View) (i : ℕ) (v : View) (t : Title) (k : IsKept words views) → get_elem? views i ≡ some v →
    HasEveryStake v →
    IsTitleHeld (total_of (shown words views)) t → EndsWith (byte_words words) v t (k.history t)
ends_with words views i v t k at_i every held = record {
  last = k.logs.last t held;
  poison = (k.holders.good.poison_kept t held).quarantine;
  content = λ set clean.
      let owns = (k.holders.good.counted t held).owns in
      let e = owned_clean words views i v t k at_i every clean in
      k.content.clean t (omega arith);
}

-- the end, if the rule holds for these words
end_of : (words : List ℕ) (views : List View) (i : ℕ) (v : View) → IsKept words views → get_elem? views i ≡ some v → HasEveryStake v →
    IsEnd (byte_words words) v
unfolding knows_logs
end_of words views i v k at_i every = record {
  aware = aware_of words views i v k at_i;
  logs = knows_logs words views i v k at_i every;
  named = λ t known none.
      let e = all_logs views i v k.history (byte_words words) (total_of (shown words views)) at_i k.logs every (names t) in
      let f = all_logs views i v k.history (byte_words words) (total_of (shown words views)) at_i k.logs every (uncuts t) in
      ends_with words views i v t k at_i every (k.named.held t (omega arith) (omega arith));
  held = λ t mine. ends_with words views i v t k at_i every (held_in_all words views i v t at_i (title_held v t mine));
  values = λ q knows. k.values.known i q v at_i knows;
}

-- what the words of the end say to that view
pub ends : (id : ℕ) (v : View) (words : List ℕ) (slots : List (Unit {0})) → HasEveryStake v →
    Final (SeenAt (λ (s : TableState (Unit {0}) View). IsKept s.words s.views) id v) words slots → IsEnd (byte_words words) v
ends id v words slots every f = subst (λ (ws : List ℕ). IsEnd (byte_words ws) v) f.2 (end_of f.0.words f.0.views id v f.1.0 f.1.1 every)

-- a title that no log names has made no step
pub unnamed_ends_new : (words : List ℕ) (v : View) (t : Title) → IsEnd words v → HasTitle v t → logged_of v (names t) ≡ 0 →
    count_word words t ≡ 0
unnamed_ends_new words v t e has none =
    let less = logged_mono v (counted_on t) (names t) (counted_names t) in
    (e.held t has).last ∙ unstepped (logged_of v) t (e.logs.history t) (e.logs.chain t) (omega arith)
