-- What the rule says of reads after an entry that is no look and no read.
use Rattle.std.proofs.Common.{◌≡◌, ℕ, false, ◌&&◌, List, set, sym, ◌∙◌, ap, arith, eqb}
use Rattle.std.specs.List.{sum_by}
use Rattle.std.specs.Prelude.{Some}
use mathlib.Core.Option.{some}
use lib.ListN.{get_elem?}
use Rattle.pa_slot.specs.declared.title.Title.{Title}
use Rattle.pa_slot.specs.Titles.{same_title}
use Rattle.pa_slot.specs.Holdings.{one}
use Rattle.pa_region.specs.declared.view.Entry.{Entry}
use Rattle.pa_region.specs.declared.view.Entry.TheVariants.{Looked}
use Rattle.pa_region.specs.declared.view.OwnTitle.{OwnTitle}
use Rattle.pa_region.specs.declared.view.Stake.{Stake}
use Rattle.pa_region.specs.declared.view.View.{View}
use Rattle.pa_region.specs.Views.{byte_words, least_stake, counted_at, HasStake}
use Rattle.pa_region.specs.History.{Done}
use Rattle.pa_region.specs.Moves.{noted}
use Rattle.pa_region.specs.Pairs.{last_entry, least_log, weight_after, paired_in, paired_by, logged_by}
use Rattle.pa_region.specs.Waiting.{gave_no_poison, quiet_read, is_poisoned, poisoned_of, poisoned_apart, IsReader, Reads}
use Rattle.pa_region.proofs.Entering.{noted_stakes}
use Rattle.pa_region.proofs.SeatStakes.{SameStakes}
use Rattle.pa_region.proofs.ReadsSame.{each_set, stake_noted, none_more}
use Rattle.pa_region.proofs.Readings.{is_read, right_same, gave_none_after, quiet_none_after}
use Rattle.pa_region.proofs.PairSums.{paired_set, paired_by_set, logged_by_set}
use Rattle.pa_region.proofs.PoisonedOwns.{apart_set}
use Rattle.pa_region.proofs.Waitings.{last_noted}

-- The view's log gets such an entry, which is no counted step either, and its Owns stay.
pub entry_reads : (history : Title → List Done) (words : List ℕ) (views : List View) (i : ℕ) (v w : View) (e : Entry) →
    get_elem? views i ≡ some v →
    Reads history (byte_words words) views → w.stakes ≡ noted e v.stakes → w.owns ≡ v.owns → HasStake v → is_read e ≡ false →
    ((t : Title) (found : ℕ) → Some e ≡ Some (Looked t found) → ⊥) → ((t : Title) (n : ℕ) → counted_at t n e ≡ 0) →
    Reads history (byte_words words) (set views i w)
entry_reads history words views i v w e at_i reads stakes owns has no_read no_look no_step = record {
  right = right_same history (paired_in views) (paired_in (set views i w)) (paired_by views) (paired_by (set views i w)) (logged_by views)
      (logged_by (set views i w))
      (poisoned_apart views) (poisoned_apart (set views i w)) reads.right
      (let p = paired_set views i v w e at_i stakes has gave_no_poison in
      let z = gave_none_after (last_entry (least_log v.stakes)) e no_read in omega arith)
      (λ own u found value.
      let p = paired_set views i v w e at_i stakes has (quiet_read own u found value) in
      let z = quiet_none_after own u found value (last_entry (least_log v.stakes)) e no_read in omega arith)
      (λ n own u found value. none_more (eqb (least_stake v.stakes) n)
      (weight_after (quiet_read own u found value) (last_entry (least_log v.stakes)) e) _ _
      (paired_by_set views i v w e at_i stakes has n (quiet_read own u found value))
      (quiet_none_after own u found value (last_entry (least_log v.stakes)) e no_read))
      (λ n u number. none_more (eqb (least_stake v.stakes) n) (counted_at u number e) _ _
      (logged_by_set views i v w e at_i stakes has n (counted_at u number)) (no_step u number))
      (λ u n some_own.
      let same : poisoned_of w u ≡ poisoned_of v u =
      ap (λ os. sum_by (λ (o : OwnTitle). one (same_title o.title u && is_poisoned o.state)) os) owns in
      let l = apart_set views i v w at_i stakes_same u n (omega arith) in omega arith);
  each_view = each_set (IsReader history (byte_words words)) (IsReader history (byte_words words)) views i v w at_i reads.each_view
      (record {
        waits = λ u found is quiet. absurd
            (no_look u found (sym (last_noted e v.stakes has) ∙ (ap (λ ss. last_entry (least_log ss)) (sym stakes) ∙ is)));
        stake = λ some_own. stake_noted e v w stakes has;
      })
      (λ j u ne at_j reader. reader);
}
  where
    stakes_same : SameStakes v w
    stakes_same n = ap (λ ss. sum_by (λ (s : Stake). one (eqb s.number n)) ss) stakes ∙ noted_stakes e v.stakes n has
