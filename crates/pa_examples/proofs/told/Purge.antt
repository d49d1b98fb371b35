-- The worked run with a purge meets all that is required of annotated records.
use Rattle.std.proofs.Common.{◌≡◌, ℕ, ◌<◌, Bool, false, List, [], ◌∷◌, map, lit<, refl, sym, ◌∙◌, ap, subst, arith}
use Rattle.std.specs.Prelude.{Contains}
use Rattle.pa_slot.specs.declared.title.Title.{Title}
use Rattle.pa_slot.specs.declared.word.Step.TheVariants.{Issue, Free}
use Rattle.pa_slot.specs.Titles.{same_title}
use Rattle.pa_trace.specs.Rules.{rules_of}
use Rattle.pa_region.specs.declared.view.View.{View}
use Rattle.pa_region.specs.History.{Done, IsChained}
use Rattle.pa_region.specs.Pairs.{pairs}
use Rattle.pa_region.specs.Waiting.{quiet_read}
use Rattle.pa_record.specs.declared.run.Run.{Run}
use Rattle.pa_record.specs.Worked.{purge_pool, purge_journal}
use Rattle.pa_rules.specs.declared.played.Played.{Played}
use Rattle.pa_rules.specs.Played.{entry_of, played}
use Rattle.pa_rules.specs.Cells.{history_at}
use Rattle.pa_rules.specs.Seen.{HandsTo}
use Rattle.pa_rules.specs.Told.{told_by, records_of}
use Rattle.pa_rules.specs.Worked.{purge_records}
use Rattle.pa_rules.proofs.Recorded.{records_are_lines}
use Rattle.pa_legal.specs.Known.{IsKnown}
use Rattle.pa_examples.specs.Worked.{IsRunOf}
use Rattle.pa_examples.specs.WorkedPurge.{purge_trace, purge_report}
use Rattle.pa_examples.proofs.worked.Lists.{each}
use Rattle.pa_examples.proofs.worked.Knowing.{known_of, all_used}
use Rattle.pa_examples.proofs.worked.Purge.{lines}
use Rattle.pa_examples.proofs.worked.PurgeFiled.{purge_is_filed}
use Rattle.pa_logs.specs.Told.{ToldRecord, told_of, told_until}
use Rattle.pa_logs.specs.Touches.{IsTold, AreTold}
use Rattle.pa_logs.specs.Reads.{KnowsAll, HaveEnds}
use Rattle.pa_logs.specs.Viewed.{AreViewed}
use Rattle.pa_logs.specs.Whole.{IsPlayedOut}
use Rattle.pa_logs.specs.Worked.{sixteen, its_title, view_of}
use Rattle.pa_examples.specs.told.Purge.{purge_worked, purge_told, PurgeIsPlayedOut}
use Rattle.pa_examples.proofs.told.Alone.{NoValue, no_hands, no_pair, no_readers, of_run}
use Rattle.pa_examples.proofs.told.Knowing.{below, of_thread, IsOfOne, knows_one, history_here, history_there}
use Rattle.pa_examples.proofs.told.Seen.{viewed}

told : AreTold sixteen purge_told
told x among = each (IsTold sixteen) purge_told ((([], tt, refl), refl), (([], tt, refl), (refl, ((([], tt, refl), refl), tt)))) x among

-- the slot's history
abbrev pub steps : List Done
steps = record { step = Issue; value = 0 } ∷ record { step = Free; value = 0 } ∷ record { step = Issue; value = 0 } ∷ []

chained : IsChained (told_of purge_told) its_title steps
chained = record {
  legal = (((refl, refl), omega arith, tt), ((refl, omega arith, tt), (((refl, refl), omega arith, tt), tt)));
  steps = (refl, (refl, (refl, tt)));
  numbers = λ k. let b = below 3 k in omega arith;
  all = refl;
  looks = λ word some_look. absurd (omega arith);
}

pub of_one : IsOfOne purge_told steps
of_one = record {
  low = λ x among. each (λ (y : ToldRecord). y.played.thread < 16) purge_told (lit< tt, (lit< tt, (lit< tt, (lit< tt, tt)))) x among;
  chained = chained;
  other = λ t other. record { at = λ k. rw other refl; on = rw other refl; looked = λ word. refl; named = rw other refl };
  freed = refl;
  own = λ t found value some_pair. absurd (omega arith);
  ref = λ r t found value held some_pair. let gone = no_pair purge_told (λ t found value. refl) (λ q e. rw e refl) r t found value in let
      mine = of_thread purge_told r (pairs (quiet_read false t found value)) some_pair in absurd (omega arith);
}

pub last : KnowsAll (view_of purge_told) purge_told
last = knows_one purge_told steps of_one

pub last_history : last.all.history its_title ≡ steps
unfolding last
last_history = history_here purge_told steps of_one

pub last_other : (t : Title) → same_title its_title t ≡ false → last.all.history t ≡ []
unfolding last
last_other t other = history_there purge_told steps of_one t other

abbrev Ended : ℕ → Type 0
Ended n = (v : View) × KnowsAll v (told_until n purge_told)

ends : HaveEnds purge_told
ends x among =
    let here : Ended 1 = (view_of purge_told, last) in
    each (λ (y : ToldRecord). Ended y.played.phase) purge_told (here, (here, (here, (here, tt)))) x among

no_value : (x : ToldRecord) → Contains purge_told x → NoValue x
no_value x among = each NoValue purge_told (
  (λ s v e. absurd cc),
  ((λ s v e. absurd cc), ((λ s v e. absurd cc), ((λ s v e. absurd cc), tt))),
) x among

abbrev none : ℕ → ℕ → Bool
none m n = false

pub seen_so : AreViewed (history_at []) purge_told
seen_so = viewed (history_at []) purge_worked none refl (λ x y h. absurd (no_hands x y h))

module _ (r : Run) (is : IsRunOf r (map entry_of purge_records) (purge_journal ∷ []) purge_pool [] purge_report) where
  same : purge_records ≡ records_of purge_trace (told_by r)
  same = sym (ap (played (rules_of purge_trace) purge_trace.lines) is.entries ∙
      records_are_lines.same (rules_of purge_trace) purge_trace.lines purge_records lines)

  known : IsKnown purge_trace (told_by r) purge_records
  known = subst (λ ps. IsKnown purge_trace (told_by r) ps) (sym same)
      (known_of purge_trace r purge_records lines (sym is.entries) (purge_is_filed r is).0 (all_used purge_records refl))

  played_out : IsPlayedOut sixteen (λ line. line) purge_trace (told_by r) (view_of purge_told) purge_told
  played_out = record {
    due = known.lines;
    records = same;
    told = told;
    last = last;
    ends = ends;
    readers = no_readers sixteen (told_by r).cells purge_told no_value;
    viewed = of_run r [] is.cells (λ c. AreViewed c purge_told) seen_so;
    handed = of_run r [] is.cells (λ c. (x y : Played) → HandsTo c x y → x.line < y.line) (λ x y h. absurd (no_hands x y h));
    threads = λ x y first second a b thread less. less;
    cells = known.cells;
    registers = known.registers;
    pool = known.pool;
    roots = known.roots;
    flows = known.flows;
    numbers = known.numbers;
    unmaps = known.unmaps;
  }

pub purge_is_played_out : PurgeIsPlayedOut
purge_is_played_out r is = played_out r is
