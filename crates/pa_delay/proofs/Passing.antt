-- Record by record a slot goes from the root to a thread's lists, on to an owner, through the queue, and back.
use Rattle.std.proofs.Common.{◌≡◌, ℕ, ◌+◌, ◌<◌, Bool, true, false, ◌&&◌, cond, List, [], ◌∷◌, Option, Some, None, refl, sym, ◌∙◌, ap, subst, arith, inl, inr}
use Rattle.std.specs.Prelude.{Contains}
use Rattle.std.proofs.lemmas.Bool.{cases_eq}
use Rattle.pa_slot.specs.declared.word.SlotName.{SlotName}
use Rattle.pa_slot.specs.declared.word.Step.{Step}
use Rattle.pa_slot.specs.declared.word.Step.TheVariants.{Issue}
use Rattle.pa_slot.specs.Count.{number_of}
use Rattle.pa_slot.specs.Run.{Mark, same_slot}
use Rattle.pa_record.specs.declared.entry.Seen.{Seen}
use Rattle.pa_record.specs.declared.entry.Answer.{Answer}
use Rattle.pa_record.specs.declared.entry.Answer.TheVariants as answers
use Rattle.pa_record.specs.declared.numbered.Numbered.{Numbered}
use Rattle.pa_record.specs.declared.pool.PoolEntry.{PoolEntry}
use Rattle.pa_record.specs.declared.root.RootEntry.{RootEntry}
use Rattle.pa_record.specs.declared.root.RootAct.{RootAct}
use Rattle.pa_record.specs.declared.root.RootAct.TheVariants.{Map, Full}
use Rattle.pa_record.specs.Root.{names, IsJournal}
use Rattle.pa_record.specs.Laws.{leaves_by, comes_by, times}
use Rattle.pa_lists.proofs.Members.{first_in}
use Rattle.pa_rules.specs.declared.played.Played.{Played}
use Rattle.pa_rules.specs.Played.{mark_of_answer, mark_at, look_at, step_of}
use Rattle.pa_rules.specs.Roots.{Journals}
use Rattle.pa_rules.specs.Caches.{with_list, SameLists, acts_of, OnlyActs, NoActs, FilledFirst, FrontIs, unmap_at, MadeRow, FullRow}
use Rattle.pa_rules.specs.Flow.{returns_at, is_issue, is_issue_of, is_return_of, listed_times, left_in, back_in, IsOnlyOf}
use Rattle.pa_rules.specs.Once.{once}
use Rattle.pa_rules.proofs.Counted.{stands, times_cons, stands_kept, left_append, back_append, left_gives, back_gives, left_purge, back_purge, listed_agree, listed_none, listed_changed, list_of_another}
use Rattle.pa_rules.proofs.Flowing.{class_leaves, map_leaves, no_issue, not_once, returns_no, returns_yes}
use Rattle.pa_rules.proofs.Known.{IsKnown, entry_of_act, first_keeps}
use Rattle.pa_rules.proofs.Versions.{real_in}
use Rattle.pa_legal.specs.Flows.{marked}
use Rattle.pa_delay.specs.Delayed.{Waiting, StaysWaiting, DelayedReturn, DelayedDone, DelayedPurge, DelayedRow}
use Rattle.pa_delay.proofs.Weighing.{Weight, WeighsOnly, comes_weighs, purge_weighs}

-- the weight of one slot, whatever its number: how often it is there
abbrev by_name : SlotName → Weight
by_name s = record {
  one = λ n. once s n.slot;
  all = stands s;
  lists = λ f. listed_times s f 0 170;
  out = left_in s;
  back = back_in s;
  none = refl;
  more = λ n ns. times_cons s n.slot (names ns);
  kept_all = stands_kept s;
  out_none = refl;
  back_none = refl;
  out_joined = left_append s;
  back_joined = back_append s;
  out_gives = left_gives s;
  back_gives = back_gives s;
  out_purge = λ f. left_purge s f 0 170;
  back_purge = λ f. back_purge s f 0 170;
  agree = λ f g same. listed_agree s f g 0 170 (λ c low. same c);
  empty = λ f none. listed_none s f 0 170 none;
  changed = listed_changed s;
}

-- how often a thread has the slot in its lists of partition p and in its queue
abbrev pub had_times : SlotName → ℕ → Waiting → ℕ
had_times s p waiting = listed_times s (waiting.lists p) 0 170 + stands s waiting.queue

-- With these entries of partition p and this mark a thread had the slot after a row, or it was issued or came back to the root, as often
-- as the thread had it before, or it left the root or was returned.
abbrev IsEven : SlotName → ℕ → Journals → ℕ → Option Mark → Waiting → Waiting → Type 0
IsEven s p roots line mark before after =
    had_times s p after + marked (is_issue_of s) mark + back_in s (acts_of roots line p)
    ≡ had_times s p before + left_in s (acts_of roots line p) + marked (is_return_of s) mark

-- a test that counts for nothing, and one that counts
flat : (a b : Bool) → b ≡ false → cond {A = ℕ} (a && b) 1 0 ≡ 0
flat true b e = rw e refl
flat false b e = refl

sharp : (a b : Bool) → b ≡ true → cond {A = ℕ} (a && b) 1 0 ≡ cond {A = ℕ} a 1 0
sharp true b e = rw e refl
sharp false b e = refl

module _ (s : SlotName) (p : ℕ) (pools : List PoolEntry) (roots : Journals) (journals : (q : ℕ) → IsJournal pools (roots q))
    (own : IsOnlyOf roots p s) where
  -- a slot that left by another partition's journal isn't s
  not_other : (t : SlotName) (q : ℕ) → (q ≡ p → ⊥) → (e : RootEntry) × Contains (roots q) e × Contains (leaves_by e.act) t → once s t ≡ 0
  not_other t q other (e, among, leaves) =
      not_once s t (λ same. other (own q e among (subst (λ z. Contains (leaves_by e.act) z) (sym same) leaves)))

  only : WeighsOnly (by_name s) roots p
  only n q class of other = not_other n.slot q other (class_leaves roots n.slot q class of)

  stays : (x : Played) (mark : Option Mark) (before after : Waiting) → StaysWaiting before after →
      left_in s (acts_of roots x.line p) + marked (is_return_of s) mark ≡ back_in s (acts_of roots x.line p) + marked (is_issue_of s) mark →
      IsEven s p roots x.line mark before after
  stays x mark before after (same, queue) even =
      let lists = listed_agree s (after.lists p) (before.lists p) 0 170 (λ c low. same p c) in
      let queued = ap (stands s) queue in
      omega arith

  none_moved : (x : Played) → acts_of roots x.line p ≡ [] →
      (left_in s (acts_of roots x.line p) ≡ 0) × (back_in s (acts_of roots x.line p) ≡ 0)
  none_moved x none = (ap (left_in s) none, ap (back_in s) none)

  -- a record without entries, with a look or no mark
  looks : (x : Played) (o : Option Seen) (before after : Waiting) → NoActs roots x.line × SameLists after.lists before.lists →
      after.queue ≡ before.queue → IsEven s p roots x.line (look_at x.line o) before after
  looks x None before after (quiet, same) queue =
      let (left, back) = none_moved x (quiet p) in
      stays x None before after (same, queue) (omega arith)
  looks x (Some seen) before after (quiet, same) queue =
      let (left, back) = none_moved x (quiet p) in
      stays x (Some (mark_at x.line seen None)) before after (same, queue) (omega arith)

  -- a record with one entry, after which the thread has what it had
  one_act : (x : Played) (q : ℕ) (act : RootAct) (mark : Option Mark) (before after : Waiting) →
      OnlyActs roots x.line q (act ∷ []) → StaysWaiting before after →
      times s (leaves_by act) + marked (is_return_of s) mark ≡ times s (comes_by act) + marked (is_issue_of s) mark →
      ((q ≡ p → ⊥) → marked (is_return_of s) mark ≡ marked (is_issue_of s) mark) → IsEven s p roots x.line mark before after
  one_act x q act mark before after (here, others) stay moves still = stays x mark before after stay (elim (cases_eq q p) [
    | inl same ↦
        let acts : acts_of roots x.line p ≡ act ∷ [] = subst (λ z. acts_of roots x.line z ≡ act ∷ []) same here in
        let left : left_in s (acts_of roots x.line p) ≡ times s (leaves_by act) + 0 = ap (left_in s) acts in
        let back : back_in s (acts_of roots x.line p) ≡ times s (comes_by act) + 0 = ap (back_in s) acts in
        omega arith
    | inr other ↦
        let (left, back) = none_moved x (others p (λ e. other (sym e))) in
        let quiet = still other in
        omega arith
  ])

  -- a slot that was made: the front of a list, or a direct map
  made_class : (x : Played) (seen : Seen) (before after : Waiting) (q class : ℕ) (xs rest : List Numbered) → IsKnown roots before.lists →
      class < 170 → FilledFirst roots x.line q class (before.lists q class) xs → FrontIs seen xs rest →
      SameLists after.lists (with_list before.lists q class rest) → after.queue ≡ before.queue →
      IsEven s p roots x.line (Some (mark_at x.line seen (Some Issue))) before after
  made_class x seen before after q class xs rest known real filled front becomes queue =
      let head : Numbered = record { slot = seen.slot; number = number_of seen.found.0 } in
      let f = first_keeps s roots x.line q class (before.lists q class) xs (λ n. known q class n) filled in
      let flow = f.flow in
      let back = f.back in
      let taken : stands s xs ≡ once s seen.slot + stands s rest = ap (stands s) front ∙ times_cons s seen.slot (names rest) in
      let issued = sharp (same_slot s seen.slot) true refl in
      let returned = flat (same_slot s seen.slot) false refl in
      let queued = ap (stands s) queue in
      elim (cases_eq q p) [
        | inl same ↦
            let change = listed_changed s before.lists after.lists q class rest real (becomes q) in
            subst (λ z. IsEven s z roots x.line (Some (mark_at x.line seen (Some Issue))) before after) same (omega arith)
        | inr other ↦
            let (left, none) = none_moved x (f.others p (λ e. other (sym e))) in
            let of = f.known head (subst (λ zs. Contains zs head) (sym front) (first_in head rest)) in
            let away = only head q class of other in
            let lists = listed_agree s (after.lists p) (before.lists p) 0 170
            (λ c low. becomes p c ∙ list_of_another before.lists q class rest p c (λ e. other (sym e))) in
            omega arith
      ]

  made_row : (x : Played) (seen : Seen) (before after : Waiting) → IsKnown roots before.lists →
      MadeRow roots x seen before.lists after.lists → after.queue ≡ before.queue →
      IsEven s p roots x.line (Some (mark_at x.line seen (Some Issue))) before after
  made_row x seen before after known (inl (q, class, xs, rest, asks, filled, front, becomes)) queue =
      made_class x seen before after q class xs rest known (real_in x.rules.version class (asks.3.from, asks.3.real)) filled front
      becomes queue
  made_row x seen before after known (inr (q, size, asked, len, asks, here, same)) queue =
      let issued = sharp (same_slot s seen.slot) true refl in
      let returned = flat (same_slot s seen.slot) false refl in
      let one = times_cons s seen.slot [] in
      one_act x q (Map asked seen.slot len) (Some (mark_at x.line seen (Some Issue))) before after here (same, queue) (omega arith)
      (λ other.
      let (e, among, is) = entry_of_act roots x.line q (Map asked seen.slot len) here.0 in
      let away = not_other seen.slot q other
      (e, among, subst (λ a. Contains (leaves_by a) seen.slot) (sym is) (first_in seen.slot [])) in
      omega arith)

  full_row : (x : Played) (before after : Waiting) → FullRow roots x before.lists after.lists →
      after.queue ≡ before.queue → IsEven s p roots x.line None before after
  full_row x before after (inl (q, class, asked, asks, empty, here, same)) queue =
      one_act x q (Full (Some class) asked) None before after here (same, queue) (omega arith) (λ other. refl)
  full_row x before after (inr (q, size, asked, asks, here, same)) queue =
      one_act x q (Full None asked) None before after here (same, queue) (omega arith) (λ other. refl)

  -- a slot that a step returned, if its mark is one return and no issue
  return_row : (bytes : ℕ) (x : Played) (slot : Numbered) (mark : Option Mark) (before after : Waiting) →
      marked (is_issue_of s) mark ≡ 0 → marked (is_return_of s) mark ≡ once s slot.slot → DelayedReturn bytes roots x slot before after →
      IsEven s p roots x.line mark before after
  return_row bytes x slot mark before after issued returned (inl (q, class, gone, acts, of, past, leave, are)) =
      let (even, none) = comes_weighs (by_name s) pools roots p journals only bytes x slot gone acts before after past leave are in
      omega arith
  return_row bytes x slot mark before after issued returned (inr (q, asked, number, direct, here, stay)) =
      let one = times_cons s slot.slot [] in
      one_act x q (unmap_at asked slot.slot number) mark before after here stay (omega arith)
      (λ other. let away = not_other slot.slot q other (map_leaves roots slot.slot q direct) in omega arith)

  done_row : (bytes : ℕ) (x : Played) (step : Option Step) (seen : Seen) (before after : Waiting) →
      is_issue step ≡ false → DelayedDone bytes roots x step seen before after →
      IsEven s p roots x.line (Some (mark_at x.line seen step)) before after
  done_row bytes x None seen before after none (quiet, (same, queue)) = looks x (Some seen) before after (quiet, same) queue
  done_row bytes x (Some step) seen before after none (inl (returning, row)) =
      return_row bytes x _ (Some (mark_at x.line seen (Some step))) before after
      (flat (same_slot s seen.slot) (is_issue (Some step)) none)
      (sharp (same_slot s seen.slot) (returns_at step seen.found.0) (returns_yes step seen.found.0 returning)) row
  done_row bytes x (Some step) seen before after none (inr (other, quiet, stay)) =
      let (left, back) = none_moved x (quiet p) in
      let issued = flat (same_slot s seen.slot) (is_issue (Some step)) none in
      let returned = flat (same_slot s seen.slot) (returns_at step seen.found.0) (returns_no step seen.found.0 other) in
      stays x (Some (mark_at x.line seen (Some step))) before after stay (omega arith)

  purge_row : (partitions : ℕ) (x : Played) (slots : ℕ) (before after : Waiting) → p < partitions →
      DelayedPurge partitions roots x slots before after → IsEven s p roots x.line None before after
  purge_row partitions x slots before after below row =
      let (even, empty, none) = purge_weighs (by_name s) pools roots p journals only partitions x slots before after below row in
      omega arith

  -- each row
  pub row_passes : (bytes partitions : ℕ) (x : Played) (a : Answer) (before after : Waiting) → p < partitions →
      IsKnown roots before.lists → DelayedRow bytes partitions roots x a before after →
      IsEven s p roots x.line (mark_of_answer x.line x.op a) before after
  row_passes bytes partitions x (answers.Made seen usable) before after below known (row, queue) =
      made_row x seen before after known row queue
  row_passes bytes partitions x (answers.Done seen) before after below known row =
      done_row bytes x (step_of x.op) seen before after (no_issue x.op) row
  row_passes bytes partitions x (answers.Purged slots) before after below known row = purge_row partitions x slots before after below row
  row_passes bytes partitions x (answers.Full entry) before after below known (row, queue) = full_row x before after row queue
  row_passes bytes partitions x (answers.Value seen value) before after below known (row, queue) =
      looks x (Some seen) before after row queue
  row_passes bytes partitions x (answers.Dangling seen value) before after below known (row, queue) =
      looks x (Some seen) before after row queue
  row_passes bytes partitions x (answers.SecondFree seen) before after below known (row, queue) = looks x seen before after row queue
  row_passes bytes partitions x (answers.NotOwner seen) before after below known (row, queue) =
      looks x (Some seen) before after row queue
  row_passes bytes partitions x answers.StaleReset before after below known (row, queue) = looks x None before after row queue
  row_passes bytes partitions x (answers.StaleUse seen) before after below known (row, queue) = looks x seen before after row queue
  row_passes bytes partitions x answers.Nothing before after below known (row, queue) = looks x None before after row queue
  row_passes bytes partitions x answers.Filled before after below known (row, queue) = looks x None before after row queue
  row_passes bytes partitions x answers.Uncounted before after below known (row, queue) = looks x None before after row queue
  row_passes bytes partitions x answers.NotRef before after below known (row, queue) = looks x None before after row queue
  row_passes bytes partitions x (answers.Shared seen) before after below known (row, queue) =
      looks x (Some seen) before after row queue
  row_passes bytes partitions x answers.OutOfRange before after below known (row, queue) = looks x None before after row queue
  row_passes bytes partitions x answers.TooLarge before after below known (row, queue) = looks x None before after row queue
  row_passes bytes partitions x (answers.Swapped entry) before after below known (row, queue) = looks x None before after row queue
