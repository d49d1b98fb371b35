-- What a record of a delayed run does with a slot at a number: as often as its thread got it there, it is in the thread's lists or
-- its queue, was issued, or went back.
use Rattle.std.proofs.Common.{◌≡◌, ℕ, ◌+◌, ◌<◌, List, Some, None, refl, sym, ◌∙◌, ap, arith, inl, inr}
use Rattle.std.specs.Prelude.{◌==◌}
use Rattle.pa_slot.specs.declared.word.SlotName.{SlotName}
use Rattle.pa_slot.specs.Count.{number_of}
use Rattle.pa_slot.specs.Run.{same_slot}
use Rattle.pa_record.specs.declared.pool.PoolEntry.{PoolEntry}
use Rattle.pa_record.specs.Root.{IsJournal}
use Rattle.pa_rules.specs.declared.played.Played.{Played}
use Rattle.pa_rules.specs.Played.{mark_of, mark_of_answer, mark_at}
use Rattle.pa_rules.specs.Roots.{Journals}
use Rattle.pa_rules.specs.Flow.{is_issue, IsOnlyOf}
use Rattle.pa_rules.proofs.Known.{IsKnown}
use Rattle.pa_rules.proofs.Flowing.{class_leaves, returns_yes, no_issue}
use Rattle.pa_legal.specs.Turns.{is_out}
use Rattle.pa_legal.specs.Flows.{IsNewMap, UnmapsNext, is_back, at_in, moved_in, is_issue_at, is_return_at, marked, issues_at, returns_at, moves_on}
use Rattle.pa_legal.proofs.flow.Counts.{hit_once, listed, at_cons, at_kept, moved_append, back_gives, out_gives, back_purge, out_purge, listed_agree, listed_none, listed_changed}
use Rattle.pa_legal.proofs.flow.Rows.{off, not_of, return_marked, row_flows}
use Rattle.pa_delay.specs.Delayed.{Waiting, DelayedRow}
use Rattle.pa_delay.proofs.Weighing.{Weight, WeighsOnly, comes_weighs, purge_weighs}
use Rattle.pa_delay.proofs.RowKinds.{Stays, Comes, Purges, returned, kind_of}

-- the weight that counts a slot at a number
abbrev at_weight : SlotName → ℕ → Weight
at_weight s k = record {
  one = hit_once s k;
  all = at_in s k;
  lists = λ f. listed s k f 0 170;
  out = moved_in is_out s k;
  back = moved_in is_back s k;
  none = refl;
  more = at_cons s k;
  kept_all = at_kept s k;
  out_none = refl;
  back_none = refl;
  out_joined = moved_append is_out s k;
  back_joined = moved_append is_back s k;
  out_gives = out_gives s k;
  back_gives = back_gives s k;
  out_purge = λ f. out_purge s k f 0 170;
  back_purge = λ f. back_purge s k f 0 170;
  agree = λ f g same. listed_agree s k f g 0 170 (λ c low. same c);
  empty = λ f none. listed_none s k f 0 170 none;
  changed = listed_changed s k;
}

-- how often a thread has the slot at the number, in its lists of a partition and in its queue
abbrev pub has_at : SlotName → ℕ → ℕ → Waiting → ℕ
has_at s k p w = listed s k (w.lists p) 0 170 + at_in s k w.queue

module _ (s : SlotName) (k p : ℕ) (bytes partitions : ℕ) (pools : List PoolEntry) (roots : Journals)
    (journals : (q : ℕ) → IsJournal pools (roots q)) (own : IsOnlyOf roots p s) (below : p < partitions) (x : Played)
    (before after : Waiting) where
  abbrev Even : Type 0
  Even =
      has_at s k p after + issues_at s k x + moves_on is_back s k roots p x
      ≡ has_at s k p before + moves_on is_out s k roots p x + returns_at s k x

  apart : WeighsOnly (at_weight s k) roots p
  apart n q class of other = not_of s k p roots own n q other (class_leaves roots n.slot q class of)

  stays_flow : IsKnown roots before.lists → IsNewMap roots x → UnmapsNext roots x → Stays partitions roots x x.answer before after → Even
  stays_flow known new unmaps (row, queue) =
      let flow = row_flows s k p roots partitions pools x before.lists after.lists journals own below known new unmaps row in
      let same : at_in s k after.queue ≡ at_in s k before.queue = ap (at_in s k) queue in
      omega arith

  comes_flow : Comes bytes roots x x.answer before after → Even
  comes_flow c =
      let (even, none) =
      comes_weighs (at_weight s k) pools roots p journals apart bytes x (returned c.seen) c.gone c.acts before after c.past c.leave c.are in
      let mark : mark_of x ≡ Some (mark_at x.line c.seen (Some c.step)) =
      ap (mark_of_answer x.line x.op) c.answer ∙ ap (λ o. Some (mark_at x.line c.seen o)) c.steps in
      let issue : issues_at s k x ≡ 0 = ap (marked (is_issue_at s k)) mark ∙
      off (same_slot s c.seen.slot) (is_issue (Some c.step)) (number_of c.seen.found.0 == k) (ap is_issue (sym c.steps) ∙ no_issue x.op) in
      let returns : returns_at s k x ≡ hit_once s k (returned c.seen) = ap (marked (is_return_at s k)) mark ∙
      return_marked s k p roots own x.line c.seen c.step (returns_yes c.step c.seen.found.0 c.returning) in
      omega arith

  purge_flow : Purges partitions roots x x.answer before after → Even
  purge_flow (slots, answer, row) =
      let (even, empty, none) = purge_weighs (at_weight s k) pools roots p journals apart partitions x slots before after below row in
      let mark : mark_of x ≡ None = ap (mark_of_answer x.line x.op) answer in
      let issue : issues_at s k x ≡ 0 = ap (marked (is_issue_at s k)) mark in
      let returns : returns_at s k x ≡ 0 = ap (marked (is_return_at s k)) mark in
      omega arith

  pub delayed_flows : IsKnown roots before.lists → IsNewMap roots x → UnmapsNext roots x →
      DelayedRow bytes partitions roots x x.answer before after → Even
  delayed_flows known new unmaps row = elim (kind_of bytes partitions roots x before after x.answer row) [
    | inl stays ↦ stays_flow known new unmaps stays
    | inr (inl comes) ↦ comes_flow comes
    | inr (inr purges) ↦ purge_flow purges
  ]
