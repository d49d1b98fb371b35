-- The records beside the ops of a trace's lines: their lines rise, and they are within the limits of a trace.
use Rattle.std.proofs.Common.{ℕ, ◌+◌, ◌<◌, ◌≤◌, List, [], ◌∷◌, map, zip, get_or, ap, subst, arith, inl, inr}
use Rattle.std.specs.Prelude.{Contains}
use Rattle.std.specs.List.{AllByRecursion}
use Rattle.std.proofs.lemmas.List.Elements.{Contains-get_or}
use Rattle.pa_trace.specs.declared.script.Line.{Line}
use Rattle.pa_trace.specs.declared.script.Line.TheVariants.{Phase, Do}
use Rattle.pa_trace.specs.declared.script.Op.{Op}
use Rattle.pa_trace.specs.declared.script.Op.TheVariants as ops
use Rattle.pa_trace.specs.Limits.{IsOpWithin, IsLineWithin}
use Rattle.pa_trace.specs.Rules.{rules_of}
use Rattle.pa_trace.specs.declared.script.Rules.{Rules}
use Rattle.pa_record.specs.declared.entry.Entry.{Entry}
use Rattle.pa_lists.proofs.Members.{not_in_none, in_cases}
use Rattle.pa_lists.proofs.Pairs.{pairs_none, pairs_cons}
use Rattle.pa_rules.specs.declared.played.Played.{Played}
use Rattle.pa_rules.specs.Played.{op_lines, beside, played}
use Rattle.pa_rules.specs.Rising.{RiseByLine}
use Rattle.pa_audit_records.specs.Cuts.{RiseByPhase}
use Rattle.pa_audit_records.specs.Rows.{NamesRegisters, IsPlayedWithin}
use Rattle.pa_audit_records.specs.Limits.{RecordsAreWithin}

not_below : (rules : Rules) (n phase : ℕ) (ls : List Line) (es : List Entry) (x : Played) →
    Contains (map beside (zip (op_lines rules n phase ls) es)) x → n ≤ x.line
not_below rules n phase [] es x among = absurd (not_in_none x among)
not_below rules n phase (Phase ∷ ls) es x among = let low = not_below rules (n + 1) (phase + 1) ls es x among in omega (arith, low)
not_below rules n phase (Do thread op ∷ ls) [] x among = absurd (not_in_none x among)
not_below rules n phase (Do thread op ∷ ls) (e ∷ es) x among =
    elim (in_cases (beside (record { line = n; thread = thread; phase = phase; rules = rules; op = op }, e)) x
    (map beside (zip (op_lines rules (n + 1) phase ls) es)) among) [
      | inl same ↦ let line = ap (λ (z : Played). z.line) same in omega (arith, line)
      | inr rest ↦ let low = not_below rules (n + 1) phase ls es x rest in omega (arith, low)
    ]

rising_from : (rules : Rules) (n phase : ℕ) (ls : List Line) (es : List Entry) →
    RiseByLine (map beside (zip (op_lines rules n phase ls) es))
rising_from rules n phase [] es = pairs_none (λ (x y : Played). x.line < y.line)
rising_from rules n phase (Phase ∷ ls) es = rising_from rules (n + 1) (phase + 1) ls es
rising_from rules n phase (Do thread op ∷ ls) [] = pairs_none (λ (x y : Played). x.line < y.line)
rising_from rules n phase (Do thread op ∷ ls) (e ∷ es) =
    pairs_cons (λ (x y : Played). x.line < y.line) (beside (record { line = n; thread = thread; phase = phase; rules = rules; op = op }, e))
    (map beside (zip (op_lines rules (n + 1) phase ls) es))
    (λ y among. let low = not_below rules (n + 1) phase ls es y among in omega (arith, low))
    (rising_from rules (n + 1) phase ls es)

pub rising_played : (rules : Rules) (ls : List Line) (es : List Entry) → RiseByLine (played rules ls es)
rising_played rules ls es = rising_from rules 2 1 ls es

no_earlier : (rules : Rules) (n phase : ℕ) (ls : List Line) (es : List Entry) (x : Played) →
    Contains (map beside (zip (op_lines rules n phase ls) es)) x → phase ≤ x.phase
no_earlier rules n phase [] es x among = absurd (not_in_none x among)
no_earlier rules n phase (Phase ∷ ls) es x among = let low = no_earlier rules (n + 1) (phase + 1) ls es x among in omega (arith, low)
no_earlier rules n phase (Do thread op ∷ ls) [] x among = absurd (not_in_none x among)
no_earlier rules n phase (Do thread op ∷ ls) (e ∷ es) x among =
    elim (in_cases (beside (record { line = n; thread = thread; phase = phase; rules = rules; op = op }, e)) x
    (map beside (zip (op_lines rules (n + 1) phase ls) es)) among) [
      | inl same ↦ let is = ap (λ (z : Played). z.phase) same in omega (arith, is)
      | inr rest ↦ no_earlier rules (n + 1) phase ls es x rest
    ]

phased_from : (rules : Rules) (n phase : ℕ) (ls : List Line) (es : List Entry) →
    RiseByPhase (map beside (zip (op_lines rules n phase ls) es))
phased_from rules n phase [] es = pairs_none (λ (x y : Played). x.phase ≤ y.phase)
phased_from rules n phase (Phase ∷ ls) es = phased_from rules (n + 1) (phase + 1) ls es
phased_from rules n phase (Do thread op ∷ ls) [] = pairs_none (λ (x y : Played). x.phase ≤ y.phase)
phased_from rules n phase (Do thread op ∷ ls) (e ∷ es) =
    pairs_cons (λ (x y : Played). x.phase ≤ y.phase)
    (beside (record { line = n; thread = thread; phase = phase; rules = rules; op = op }, e))
    (map beside (zip (op_lines rules (n + 1) phase ls) es))
    (λ y among. no_earlier rules (n + 1) phase ls es y among)
    (phased_from rules (n + 1) phase ls es)

pub phased_played : (rules : Rules) (ls : List Line) (es : List Entry) → RiseByPhase (played rules ls es)
phased_played rules ls es = phased_from rules 2 1 ls es

names : (partitions : ℕ) (op : Op) → IsOpWithin partitions op → NamesRegisters op
names partitions (ops.Alloc reg partition size) h = h.0
names partitions (ops.Copy from to) h = h
names partitions (ops.Reset reg) h = h
names partitions (ops.Free reg) h = h
names partitions (ops.Write reg value) h = h
names partitions (ops.Read reg place) h = h.0
names partitions (ops.Swap cell reg) h = h.1
names partitions ops.Purge h = tt

within_from : (rules : Rules) (partitions threads n phase : ℕ) (ls : List Line) (es : List Entry) (x : Played) → threads ≤ 16 →
    AllByRecursion (IsLineWithin partitions threads) ls
    → Contains (map beside (zip (op_lines rules n phase ls) es)) x → IsPlayedWithin x
within_from rules partitions threads n phase [] es x few h among = absurd (not_in_none x among)
within_from rules partitions threads n phase (Phase ∷ ls) es x few h among =
    within_from rules partitions threads (n + 1) (phase + 1) ls es x few h.1 among
within_from rules partitions threads n phase (Do thread op ∷ ls) [] x few h among = absurd (not_in_none x among)
within_from rules partitions threads n phase (Do thread op ∷ ls) (e ∷ es) x few h among =
    let first : Played = beside (record { line = n; thread = thread; phase = phase; rules = rules; op = op }, e) in
    elim (in_cases first x (map beside (zip (op_lines rules (n + 1) phase ls) es)) among) [
      | inl same ↦
          let low : thread < 16 = omega (arith, few, h.0.0) in
          subst IsPlayedWithin same (low, names partitions op h.0.1)
      | inr rest ↦ within_from rules partitions threads (n + 1) phase ls es x few h.1 rest
    ]

pub records_are_within : RecordsAreWithin
records_are_within t es h k d below =
    let ps = played (rules_of t) t.lines es in
    let few = h.head.2.1 in
    within_from (rules_of t) t.partitions t.threads 2 1 t.lines es (get_or ps k d) few h.lines (Contains-get_or ps k d below)
