-- A written run with one journal: the journal's entries, those of a line, and the report's census.
use Rattle.std.proofs.Common.{◌≡◌, ℕ, zero, suc, ◌≤◌, Bool, true, false, not, leb, List, [], ◌∷◌, ◌++◌, sym, subst, refl, arith}
use Rattle.std.specs.Prelude.{Contains}
use Rattle.std.specs.List.{AllByRecursion, list_all}
use Rattle.std.proofs.lemmas.Bool.{not-true, both_ways}
use Rattle.std.proofs.lemmas.List.Elements.{All-from_recursion}
use Rattle.pa_trace.specs.declared.script.Op.TheVariants as ops
use Rattle.pa_trace.specs.Rules.{rules_of}
use Rattle.pa_trace.specs.declared.script.Trace.{Trace}
use Rattle.pa_rules.proofs.Ruling.{one_rules, record_rules}
use Rattle.pa_rules.specs.Played.{AreLines}
use Rattle.pa_record.specs.declared.entry.Answer.{Answer}
use Rattle.pa_record.specs.declared.entry.Answer.TheVariants as answers
use Rattle.pa_record.specs.declared.pool.PoolEntry.{PoolEntry}
use Rattle.pa_record.specs.declared.root.RootEntry.{RootEntry}
use Rattle.pa_record.specs.declared.census.Census.{Census}
use Rattle.pa_record.specs.Root.{new_root, root_replayed, IsJournal}
use Rattle.pa_record.specs.Census.{census}
use Rattle.pa_lists.proofs.Members.{not_some}
use Rattle.pa_rules.specs.declared.played.Played.{Played}
use Rattle.pa_rules.specs.Roots.{journal_at, IsEntry, MakesEntry, IsFull, AreRoots}
use Rattle.pa_rules.specs.Order.{IsOfLine}
use Rattle.pa_rules.specs.Caches.{acts_of, NoActs}
use Rattle.pa_rules.specs.Report.{InPhases, PastPhases, HasCensus}
use Rattle.pa_one_run.specs.Parts.{entry_line}
use Rattle.pa_examples.proofs.worked.Lists.{each, all_pairs, lines_follow}
use Rattle.pa_examples.proofs.worked.Pool.{journal_in_order}
use Rattle.pa_lists.proofs.Indexed.{at_in}
use Rattle.pa_lists.proofs.Elements.{passes}

-- the entry is made by the op of its line
abbrev pub IsMade : List Played → List PoolEntry → RootEntry → Type 0
IsMade ps pools e = (x : Played) × IsOfLine ps e.line x × MakesEntry pools 0 e.act x

-- if the record's request was refused, the journal has the entry for that
abbrev pub IsRefused : List RootEntry → Played → Type 0
IsRefused journal x = (j reg p size : ℕ) → x.answer ≡ answers.Full j → x.op ≡ ops.Alloc reg p size →
    (e : RootEntry) × IsEntry (journal_at (journal ∷ [])) p j e × (e.line ≡ x.line) × IsFull e.act

abbrev pub is_full : Answer → Bool
is_full (answers.Full entry) = true
is_full answer = false

-- no other partition has entries
pub no_other : (journal : List RootEntry) (line q : ℕ) → (q ≡ 0 → ⊥) → acts_of (journal_at (journal ∷ [])) line q ≡ []
no_other journal line zero ne = absurd (ne refl)
no_other journal line (suc q) ne = refl

pub none_on : (journal : List RootEntry) (line : ℕ) → acts_of (journal_at (journal ∷ [])) line 0 ≡ [] →
    NoActs (journal_at (journal ∷ [])) line
none_on journal line none zero = none
none_on journal line none (suc q) = refl

module _ (ps : List Played) (pools : List PoolEntry) (journal : List RootEntry) where
  is_journal : IsJournal pools journal → (p : ℕ) → IsJournal pools (journal_at (journal ∷ []) p)
  is_journal h zero = h
  is_journal h (suc p) = record { replays = tt; rise = tt }

  lines_are_made : AllByRecursion (IsMade ps pools) journal → (p j : ℕ) (e : RootEntry) → IsEntry (journal_at (journal ∷ [])) p j e →
      (x : Played) × IsOfLine ps e.line x × MakesEntry pools p e.act x
  lines_are_made made zero j e at = each (IsMade ps pools) journal made e (at_in journal j e at)
  lines_are_made made (suc p) j e at = absurd (not_some e at)

  none_past : (p : ℕ) → 1 ≤ p → journal_at (journal ∷ []) p ≡ []
  none_past zero past = absurd (omega arith)
  none_past (suc p) past = refl

  -- the roots of a trace's records, from what each refusal needs
  pub roots_by : (t : Trace) → AreLines (rules_of t) t.lines ps → IsJournal pools journal → AllByRecursion (IsMade ps pools) journal →
      lines_follow ps ≡ true →
      all_pairs (λ (x : RootEntry) (y : RootEntry). leb (entry_line x) (entry_line y)) journal ≡ true →
      ((x : Played) → Contains ps x → IsRefused journal x) →
      AreRoots 1 ps pools (journal_at (journal ∷ []))
  roots_by t are h made follow rise refused = record {
    one = one_rules (rules_of t) ps (λ x among. record_rules (rules_of t) t.lines ps x are among);
    journals = is_journal h;
    lines = lines_are_made made;
    order = journal_in_order ps follow journal rise;
    none_past = none_past;
    refusals = λ x j reg p size among full op. refused x among j reg p size full op;
  }

  not_full : list_all (λ (x : Played). not (is_full x.answer)) ps ≡ true → (x : Played) (j : ℕ) → Contains ps x →
      x.answer ≡ answers.Full j → ⊥
  not_full h x j among is =
      both_ways _ (not-true _ (passes (λ (y : Played). not (is_full y.answer)) ps x h among)) (subst (λ a. is_full a ≡ true) (sym is) refl)

  -- if no request was refused
  pub roots_of_one : (t : Trace) → AreLines (rules_of t) t.lines ps → IsJournal pools journal → AllByRecursion (IsMade ps pools) journal →
      lines_follow ps ≡ true →
      all_pairs (λ (x : RootEntry) (y : RootEntry). leb (entry_line x) (entry_line y)) journal ≡ true →
      list_all (λ (x : Played). not (is_full x.answer)) ps ≡ true →
      AreRoots 1 ps pools (journal_at (journal ∷ []))
  roots_of_one t are h made follow rise none_full =
      roots_by t are h made follow rise (λ x among j reg p size full op. absurd (not_full none_full x j among full))

  -- if all its entries are of the phases up to one, the root has at its end what they replay to
  pub census_of_one : (phase : ℕ) (c : Census) → AllByRecursion (InPhases ps phase) journal → journal ≡ journal ++ [] →
      census (root_replayed pools journal new_root) ≡ c →
      HasCensus ps pools (journal_at (journal ∷ [])) phase 0 c
  census_of_one phase c in_phases parts counted = (
    journal,
    record {
      rest = [];
      parts = parts;
      in_phases = All-from_recursion (InPhases ps phase) journal in_phases;
      past_phases = All-from_recursion (PastPhases ps phase) [] tt;
    },
    sym counted,
  )
