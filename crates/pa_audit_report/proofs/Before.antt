-- What the clauses before the report say, in the words in which they are used.
use Rattle.std.proofs.Common.{◌≡◌, ℕ, ◌≤◌, List, [], ◌∷◌, sym, subst, arith}
use Rattle.std.specs.Prelude.{All, Contains}
use Rattle.pa_trace.specs.declared.script.Trace.{Trace}
use Rattle.pa_trace.specs.declared.script.Op.{Op}
use Rattle.pa_trace.specs.declared.script.Op.TheVariants as ops
use Rattle.pa_trace.specs.Limits.{IsOpWithin, IsWithinLimits}
use Rattle.pa_trace.specs.Rules.{rules_of}
use Rattle.pa_rules.proofs.Ruling.{told_version}
use Rattle.pa_record.specs.declared.run.Run.{Run}
use Rattle.pa_lists.proofs.Members.{first_in, later_in}
use Rattle.std.proofs.lemmas.List.Elements.{All-cons, All-nil}
use Rattle.pa_rules.specs.declared.played.Played.{Played}
use Rattle.pa_rules.specs.declared.verdict.Clause.TheVariants as clauses
use Rattle.pa_rules.specs.declared.verdict.Place.TheVariants as places
use Rattle.pa_rules.specs.Played.{AreDue, AreLines}
use Rattle.pa_rules.specs.Told.{records_of, told_by}
use Rattle.pa_rules.proofs.Numbering.{lines_rise}
use Rattle.pa_rules.proofs.Recorded.{records_are_lines}
use Rattle.pa_rules.proofs.Reported.{seen_in_phases}
use Rattle.pa_rules.proofs.Within.{records_within}
use Rattle.pa_verdict.proofs.Journals.{roots_are_places}
use Rattle.pa_verdict.proofs.Pool.{pool_is_places}
use Rattle.pa_verdict.proofs.Runs.{slots_are_places}
use Rattle.pa_verdict.proofs.Simple.{lines_are_places, seen_is_places}
use Rattle.pa_audit_records.proofs.Rising.{phased_played}
use Rattle.pa_audit_holders.specs.Rows.{IsOfThreads, NamesPartition}
use Rattle.pa_audit_report.specs.Given.{HoldBefore, IsGiven}

-- ---- threads and partitions

pub names_within : (partitions : ℕ) (op : Op) → partitions ≤ 4 → IsOpWithin partitions op → NamesPartition op
names_within partitions (ops.Alloc reg partition size) few (r, below, s) = omega (arith, few, below)
names_within partitions (ops.Copy from to) few within = tt
names_within partitions (ops.Reset reg) few within = tt
names_within partitions (ops.Free reg) few within = tt
names_within partitions (ops.Write reg value) few within = tt
names_within partitions (ops.Read reg place) few within = tt
names_within partitions (ops.Swap cell reg) few within = tt
names_within partitions ops.Purge few within = tt

all_of : (version : ℕ) (xs : List Played) → ((x : Played) → Contains xs x → IsOfThreads version x) → All (IsOfThreads version) xs
all_of version [] h = All-nil (IsOfThreads version)
all_of version (x ∷ xs) h =
    All-cons (IsOfThreads version) x xs (h x (first_in x xs)) (all_of version xs (λ y among. h y (later_in x y xs among)))

-- ---- the clauses

module _ (t : Trace) (r : Run) (limits : IsWithinLimits t) (before : HoldBefore t r) where
  due : AreDue (rules_of t) t.lines r.entries.items
  due = (lines_are_places t (told_by r)).1 (before clauses.Lines (omega arith))

  lines : AreLines (rules_of t) t.lines (records_of t (told_by r))
  lines = records_are_lines.lines (rules_of t) t.lines r.entries.items due

  within : (x : Played) → Contains (records_of t (told_by r)) x → IsOfThreads t.version x
  within x among =
      let (thread, op) = records_within t (records_of t (told_by r)) x limits lines among in
      let few = limits.head.1.1 in
      let many = limits.head.2.1 in
      (omega (arith, thread, many), names_within t.partitions x.op few op, told_version t (told_by r) x among)

  given_here : IsGiven t.region t.partitions (records_of t (told_by r)) r.pool.items (told_by r).roots
  given_here = record {
    rising = lines_rise (rules_of t) t.lines (records_of t (told_by r)) lines;
    phased = phased_played (rules_of t) t.lines r.entries.items;
    version = t.version;
    within = all_of t.version (records_of t (told_by r)) within;
    slots = (slots_are_places t (told_by r) due).1 (before clauses.Slots (omega arith));
    ordered = seen_in_phases (told_by r).cells (records_of t (told_by r))
        ((seen_is_places t (told_by r)).1 (before clauses.Seen (omega arith)));
    pool = (pool_is_places t (told_by r) due).1 (before clauses.Pool (omega arith));
    journals = (roots_are_places t (told_by r) due).1 (before clauses.Roots (omega arith));
    caches = λ i. before clauses.Caches (omega arith) (places.Record i);
    fit = λ j e at. (before clauses.Pool (omega arith) (places.Pool j) e at).fits;
    entries = λ p j e at. before clauses.Roots (omega arith) (places.Root p j) e at;
  }

pub given_before : (t : Trace) (r : Run) (ps : List Played) → IsWithinLimits t → ps ≡ records_of t (told_by r) → HoldBefore t r →
    IsGiven t.region t.partitions ps r.pool.items (told_by r).roots
given_before t r ps limits same before =
    subst (λ xs. IsGiven t.region t.partitions xs r.pool.items (told_by r).roots) (sym same) (given_here t r limits before)
