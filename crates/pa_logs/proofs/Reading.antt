-- What each read gave.
use Rattle.std.proofs.Common.{◌≡◌, ℕ, ◌+◌, ◌<◌, ◌≤◌, Bool, List, ◌∷◌, ◌++◌, length, Some, None, refl, sym, ◌∙◌, ap, subst, arith, inl, inr}
use Rattle.std.specs.Prelude.{Contains}
use Rattle.std.specs.List.{sum_by}
use Rattle.std.proofs.lemmas.Bool.{cases_lt, cases_Bool, le-leb, leb-true}
use Rattle.pa_slot.specs.declared.word.SlotName.{SlotName}
use Rattle.pa_slot.specs.declared.word.Step.{Step}
use Rattle.pa_slot.specs.declared.word.Step.TheVariants.{Issue, Free}
use Rattle.pa_slot.specs.Count.{number_of, held_of}
use Rattle.pa_slot.specs.Titles.{poison}
use Rattle.pa_trace.specs.declared.script.Op.TheVariants as ops
use Rattle.pa_record.specs.declared.entry.Seen.{Seen}
use Rattle.pa_record.specs.declared.entry.Answer.TheVariants as answers
use Rattle.pa_lists.proofs.Joined.{map_cases, map_in, filter_cases, filter_in}
use Rattle.pa_legal.proofs.owners.Using.{free_op}
use Rattle.pa_region.specs.declared.view.Entry.{Entry}
use Rattle.pa_region.specs.declared.view.Entry.TheVariants.{Counted, Looked, Read}
use Rattle.pa_region.specs.declared.view.Stake.{Stake}
use Rattle.pa_region.specs.declared.view.View.{View}
use Rattle.pa_region.specs.Views.{logged_of, counted_as}
use Rattle.pa_region.specs.History.{Done}
use Rattle.pa_region.specs.Contents.{content_at_number}
use Rattle.pa_region.specs.Pairs.{logged_of_by}
use Rattle.pa_region.specs.Waiting.{IsFreedElsewhere}
use Rattle.pa_region.specs.AllReads.{IsReadRight}
use Rattle.pa_region.specs.Tells.{IsNextFree}
use Rattle.pa_region.proofs.AtNumber.{word_found}
use Rattle.pa_region.proofs.NextFree.{others_free}
use Rattle.pa_region.proofs.Standing.{logged_two, longer_same, history_grows}
use Rattle.pa_region.proofs.WholeReads.{reads_by_place}
use Rattle.pa_region.specs.History.{content_of}
use Rattle.pa_rules.specs.declared.played.Played.{Played}
use Rattle.pa_rules.specs.Played.{mark_at, mark_of, mark_of_answer}
use Rattle.pa_rules.specs.Contents.{IsContent, IsFreedBy}
use Rattle.pa_logs.specs.Told.{ToldRecord, played_in, is_until, told_until, log_of, AreLogs}
use Rattle.pa_logs.specs.Touches.{title_of, StepMade, step_in, step_by, IsReadTold, IsToldBy, AreTold}
use Rattle.pa_logs.specs.Steps.{AreSteps}
use Rattle.pa_logs.specs.Reads.{KnowsAll, IsReadOff, MayBePoison, GaveRight, ReadsFollow}
use Rattle.pa_logs.proofs.Contents.{content_follows}
use Rattle.pa_logs.proofs.Histories.{histories_follow}
use Rattle.pa_logs.proofs.Logs.{logs_are_told}
use Rattle.pa_logs.proofs.Marks.{tells_its_mark}
use Rattle.pa_logs.proofs.Places.{each_at, filter_less, stretch_at, log_from, stake_at}
use Rattle.pa_logs.proofs.StepMarks.{mark_made, step_mark, done_is}
use Rattle.pa_logs.proofs.Sums.{told_in, counted_self, as_entry, entry_slot, entry_step}
use Rattle.pa_region.proofs.OneRead.{quiet_handed}

no_free : (p : Step) → p ≡ Free → p ≡ Issue → ⊥
no_free p e f = cc

-- a free by a record of the list, and its step
record Frees (ts : List ToldRecord) (s : SlotName) (word : ℕ) (y : ToldRecord) : Type 0 where
  pub made : StepMade
  pub is : step_by y.played ≡ Some made
  pub slot : made.slot ≡ s
  pub step_is : made.step ≡ Free
  pub found : made.found ≡ word

-- the entry of a free is that of a record's
frees_of : (sizes : SlotName → ℕ) (ts : List ToldRecord) (s : SlotName) (word value : ℕ) (y : ToldRecord) → AreTold sizes ts
    → Contains ts y → Contains y.stretch (Counted (title_of sizes s) Free word value) →
    Frees ts s word y
frees_of sizes ts s word value y told among there =
    let (d, is, e) = (tells_its_mark sizes y (told y among)).step_is (title_of sizes s) Free word value there in
    let step = entry_step (title_of sizes s) (title_of sizes d.slot) Free d.step word d.found value d.value e in
    record {
      made = d;
      is = is;
      slot = entry_slot sizes s d.slot Free d.step word d.found value d.value e;
      step_is = step.0;
      found = step.1;
    }

-- as the rules say it
freed_by : (ts : List ToldRecord) (s : SlotName) (word : ℕ) (y : ToldRecord) → Contains ts y → Frees ts s word y →
    IsFreedBy (played_in ts) s (number_of word) y.played
freed_by ts s word y among frees =
    let done = done_is y.played.op y.played.answer frees.made frees.is (λ f. no_free frees.made.step frees.step_is f) in
    let op = free_op y.played.op (done.step ∙ ap Some frees.step_is) in (
      map_in (λ (x : ToldRecord). x.played) ts y among,
      done.seen,
      op.0,
      op.1,
      done.answer,
      done.slot ∙
          frees.slot,
      ap number_of (done.found ∙ frees.found),
    )

module _ (sizes : SlotName → ℕ) (v : View) (ts : List ToldRecord) (off : IsReadOff sizes v ts) where
  -- the log segments of the records up to a phase's end are right
  told_until_told : (n : ℕ) → AreTold sizes (told_until n ts)
  told_until_told n x among = off.told x (filter_cases (is_until n) ts x among).0

  -- what is logged at a phase's end is logged at the end
  logs_grow : (n : ℕ) (w : View) → AreLogs w (told_until n ts) → (weight : Entry → ℕ) → logged_of w weight ≤ logged_of v weight
  logs_grow n w logs weight =
      let a = logs_are_told w (told_until n ts) weight logs in
      let b = logs_are_told v ts weight off.last.logs in
      let c = filter_less (is_until n) (λ (x : ToldRecord). sum_by weight x.stretch) ts in
      omega arith

  last_steps : (s : SlotName) → AreSteps (played_in ts) s (off.last.all.history (title_of sizes s))
  last_steps s = histories_follow sizes v ts off.last.all.history off.last.logs off.told off.last.all.chain s

  -- the number of a word that a record found is within the history
  found_within : (us : List ToldRecord) (history : List Done) (x : ToldRecord) (seen : Seen) → AreSteps (played_in us) seen.slot history →
      Contains us x →
      mark_of x.played ≡ Some (mark_at x.played.line seen None) → number_of seen.found.0 ≤ length history
  found_within us history x seen steps among is =
      let looked = steps.looks x.played (mark_at x.played.line seen None) (map_in (λ (y : ToldRecord). y.played) us x among) is refl in
      (word_found seen.found.0 history steps.legal looked).0

  -- what the content was at a phase's end is the content by all records
  content_is : (n : ℕ) (w : View) (x : ToldRecord) (seen : Seen) (value : ℕ) → (knows : KnowsAll w (told_until n ts)) →
      Contains (told_until n ts) x →
      mark_of x.played ≡ Some (mark_at x.played.line seen None) →
      value ≡ content_at_number (number_of seen.found.0) (knows.all.history (title_of sizes seen.slot)) →
      IsContent (played_in ts) seen.slot (number_of seen.found.0) value
  content_is n w x seen value knows among is gave =
      let t = title_of sizes seen.slot in
      let k = number_of seen.found.0 in
      let older = knows.all.history t in
      let newer = off.last.all.history t in
      let then_steps = histories_follow sizes w (told_until n ts) knows.all.history knows.logs
      (told_until_told n) knows.all.chain seen.slot in
      let within = found_within (told_until n ts) older x seen then_steps among is in
      let now_within = found_within ts newer x seen (last_steps seen.slot) (filter_cases (is_until n) ts x among).0 is in
      let (later, grown) = history_grows (logged_of w) (logged_of v) t older newer (logged_two v) (logs_grow n w knows.logs)
      (knows.all.chain t) (off.last.all.chain t) in
      let same : content_at_number k newer ≡ content_at_number k older = ap (content_at_number k) grown ∙
      ap content_of (longer_same later older k within) in
      subst (λ z. IsContent (played_in ts) seen.slot k z) (same ∙ sym gave)
      (content_follows (played_in ts) seen.slot newer k (last_steps seen.slot) now_within)

  -- a record that freed a slot left a number that no record of a later phase found less of
  left_before : (y z : ToldRecord) (d e : StepMade) → Contains ts y → Contains ts z → step_by y.played ≡ Some d →
      step_by z.played ≡ Some e → d.slot ≡ e.slot → y.played.phase < z.played.phase →
      number_of d.found + 1 ≤ number_of e.found
  left_before y z d e first second is other same late =
      let rise = off.phases y.played z.played (mark_made y.played.line d) (mark_made z.played.line e)
      (map_in (λ (x : ToldRecord). x.played) ts y first) (map_in (λ (x : ToldRecord). x.played) ts z second)
      late (step_mark y.played.line y.played.op y.played.answer d is) (step_mark z.played.line z.played.op z.played.answer e other) same in
      omega arith

  -- the next free at a phase's end is the next of all
  first_free : (n : ℕ) (w : View) (s : SlotName) (k word : ℕ) (stake : Stake) (y : ToldRecord) → KnowsAll w (told_until n ts) →
      Contains ts y → y.played.phase ≤ n → Frees ts s word y →
      IsNextFree w (title_of sizes s) k stake word → (m : ℕ) (z : Played) → IsFreedBy (played_in ts) s m z → k ≤ m → number_of word ≤ m
  first_free n w s k word stake y knows among early frees next m z (member, seen, reg, op, answer, slot, number) low =
      let (u, there, e) = map_cases (λ (x : ToldRecord). x.played) ts z member in
      let d : StepMade = record { slot = seen.slot; step = Free; found = seen.found.0; value = 0 } in
      let is : step_by u.played ≡ Some d = ap step_by e ∙ free_step z seen reg op answer in
      elim (cases_lt n u.played.phase) [
        | inl late ↦
            let left = left_before y u frees.made d among there frees.is is (frees.slot ∙ sym slot) (omega arith) in
            let a : number_of frees.made.found ≡ number_of word = ap number_of frees.found in
            omega arith
        | inr soon ↦
            let t = title_of sizes s in
            let until = filter_in (is_until n) ts u there (le-leb u.played.phase n soon) in
            let entry = subst (λ r. Contains u.stretch (Counted (title_of sizes r) Free seen.found.0 0)) slot
            ((tells_its_mark sizes u (off.told u there)).has_step d is) in
            let weighs = told_in (told_until n ts) u (Counted t Free seen.found.0 0) (counted_as t Free seen.found.0 0) until entry in
            let mine = counted_self t Free seen.found.0 0 in
            let all = logs_are_told w (told_until n ts) (counted_as t Free seen.found.0 0) knows.logs in
            let first = next.first seen.found.0 0 (omega arith) (omega arith) in
            omega arith
      ]
    where
      free_step : (z : Played) (seen : Seen) (reg : ℕ) → z.op ≡ ops.Free reg → z.answer ≡ answers.Done seen →
          step_by z ≡ Some (record { slot = seen.slot; step = Free; found = seen.found.0; value = 0 })
      free_step z seen reg op answer = ap (λ a. step_in z.op a) answer ∙ ap (λ o. step_in o (answers.Done seen)) op

  -- a free that is the next at the end of a read's phase is in that phase
  may_be : (x y : ToldRecord) (seen : Seen) (w : View) (stake : Stake) (word : ℕ) → KnowsAll w (told_until x.played.phase ts)
      → Contains ts x → Contains ts y → (y.played.thread ≡ x.played.thread → ⊥) →
      mark_of x.played ≡ Some (mark_at x.played.line seen None) → y.played.phase ≤ x.played.phase → Frees ts seen.slot word y →
      IsNextFree w (title_of sizes seen.slot) (number_of seen.found.0) stake word →
      MayBePoison (played_in ts) x.played seen.slot (number_of seen.found.0)
  may_be x y seen w stake word knows among there ne is early frees next =
      let n = x.played.phase in
      let behind = next.behind in
      let a : number_of frees.made.found ≡ number_of word = ap number_of frees.found in (
        y.played,
        (
          number_of word,
          freed_by ts seen.slot word y there frees,
          behind,
          first_free n w seen.slot (number_of seen.found.0) word stake y knows there early frees next,
        ),
        ne,
        elim (cases_lt y.played.phase n) [
          | inl sooner ↦
              let rise = off.phases y.played x.played (mark_made y.played.line frees.made) (mark_at x.played.line seen None)
              (map_in (λ (z : ToldRecord). z.played) ts y there) (map_in (λ (z : ToldRecord). z.played) ts x among)
              sooner (step_mark y.played.line y.played.op y.played.answer frees.made frees.is) is frees.slot in
              absurd (omega arith)
          | inr late ↦ omega arith
        ],
      )

  -- if a read gave poison, the next free is another thread's, in the same phase
  poisoned : (x : ToldRecord) (seen : Seen) (w : View) (stake : Stake) → (knows : KnowsAll w (told_until x.played.phase ts)) →
      Contains ts x → stake.number ≡ x.played.thread →
      mark_of x.played ≡ Some (mark_at x.played.line seen None) →
      IsFreedElsewhere (logged_of_by w) (knows.all.history (title_of sizes seen.slot)) (title_of sizes seen.slot) stake.number
      (number_of seen.found.0) →
      MayBePoison (played_in ts) x.played seen.slot (number_of seen.found.0)
  poisoned x seen w stake knows among mine is freed =
      let n = x.played.phase in
      let t = title_of sizes seen.slot in
      let (j, other, word, at_j, ne, next) =
      others_free w t (knows.all.history t) stake.number (number_of seen.found.0) (knows.all.chain t) freed in
      let log = each_at (λ (z : Stake). z.log ≡ log_of z.number (told_until n ts)) w.stakes j other knows.logs.logs at_j in
      let value = next.logged.0 in
      let some_free : 0 < sum_by (counted_as t Free word value) (log_of other.number (told_until n ts)) =
      subst (λ es. 0 < sum_by (counted_as t Free word value) es) log next.logged.1 in
      let (y, e, until, thread, within, here) = log_from other.number (told_until n ts) (counted_as t Free word value) some_free in
      let (there, low) = filter_cases (is_until n) ts y until in
      let frees = frees_of sizes ts seen.slot word value y off.told there
      (subst (λ u. Contains y.stretch u) (as_entry t Free word value e here) within) in
      may_be x y seen w other word knows among there (λ same. ne (sym thread ∙ (same ∙ sym mine))) is
      (leb-true y.played.phase n low) frees next

  -- what is known of a read at its phase's end
  read_right : (x : ToldRecord) (seen : Seen) (value place : ℕ) (owned : Bool) → Contains ts x →
      (told : IsReadTold (title_of sizes seen.slot) place seen.found.0 value owned x.stretch) →
      (w : View) × (stake : Stake) × (knows : KnowsAll w (told_until x.played.phase ts)) × (stake.number ≡ x.played.thread)
      × IsReadRight (knows.all.history (title_of sizes seen.slot)) w stake.number
      (title_of sizes seen.slot) seen.found.0 value told.since owned told.unclean
  read_right x seen value place owned among told =
      let (w, knows) = off.ends x among in
      let n = x.played.phase in
      let until = filter_in (is_until n) ts x among (le-leb n n (omega arith)) in
      let (i, stake, at_i, mine, log) = stake_at w (told_until n ts) x.played.thread knows.logs (knows.logs.threads x until) in
      let (before, later, parts) = stretch_at x.played.thread (told_until n ts) x until refl in
      let t = title_of sizes seen.slot in
      let pair : log_of x.played.thread (told_until n ts) ≡ before ++
      Looked t seen.found.0 ∷ Read t place value told.since owned told.unclean ∷ (told.rest ++ later) =
      parts ∙ ap (λ es. before ++ (es ++ later)) told.pair in (
        w,
        stake,
        knows,
        mine,
        reads_by_place knows.all.history w knows.all.reads i stake before
            (told.rest ++ later) t seen.found.0 place value told.since owned told.unclean at_i (log ∙ pair),
      )

  held_right : (x : ToldRecord) (seen : Seen) (value place : ℕ) (owned : Bool) → Contains ts x →
      x.played.answer ≡ answers.Value seen value →
      IsReadTold (title_of sizes seen.slot) place seen.found.0 value owned x.stretch → GaveRight (played_in ts) x.played seen value owned
  held_right x seen value place owned among answer told =
      let is : mark_of x.played ≡ Some (mark_at x.played.line seen None) = ap (λ a. mark_of_answer x.played.line x.played.op a) answer in
      let bit : held_of seen.found.0 ≡ 1 = (subst (λ a. IsToldBy sizes x.played.op a x.stretch) answer (off.told x among)).0 in
      let (w, stake, knows, mine, right) = read_right x seen value place owned among told in
      let until = filter_in (is_until x.played.phase) ts x among (le-leb x.played.phase x.played.phase (omega arith)) in
      elim (cases_Bool owned) [
        | inl own ↦ inl (content_is x.played.phase w x seen value knows until is (right.own bit told.quiet told.clean own))
        | inr none ↦ elim (right.ref bit told.quiet told.clean) [
          | inl content ↦ inl (content_is x.played.phase w x seen value knows until is content)
          | inr freed ↦ inr (none, freed.0, poisoned x seen w stake knows among mine is freed.1)
        ]
      ]

  freed_right : (x : ToldRecord) (seen : Seen) (value : ℕ) → Contains ts x → x.played.answer ≡ answers.Dangling seen value → value ≡ poison
  freed_right x seen value among answer =
      let (bit, reads) = subst (λ a. IsToldBy sizes x.played.op a x.stretch) answer (off.told x among) in
      let (reg, place, owned, op, told) = reads in
      let (w, stake, knows, mine, right) = read_right x seen value place owned among told in
      right.freed bit (quiet_handed told.since told.quiet)

pub reads_follow : ReadsFollow
reads_follow = record {
  held = λ sizes v ts x seen value place owned off among answer told. held_right sizes v ts off x seen value place owned among answer told;
  freed = λ sizes v ts x seen value off among answer. freed_right sizes v ts off x seen value among answer;
}
