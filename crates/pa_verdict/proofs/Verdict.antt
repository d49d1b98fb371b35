-- A run is legal exactly when each clause holds at each place, and it has one verdict.
use Rattle.std.proofs.Common.{◌≡◌, ℕ, List, [], ◌∷◌, get_or, refl, sym, ◌∙◌, ap, subst, arith, inl, inr}
use Rattle.std.proofs.lemmas.Bool.{cases_order}
use Rattle.pa_trace.specs.declared.script.Trace.{Trace}
use Rattle.pa_record.specs.declared.run.Run.{Run}
use Rattle.pa_rules.specs.declared.verdict.Clause.{Clause}
use Rattle.pa_rules.specs.declared.verdict.Clause.TheVariants as clauses
use Rattle.pa_rules.specs.declared.verdict.Verdict.TheVariants.{Legal, Broken}
use Rattle.pa_rules.specs.Told.{Told, told_by}
use Rattle.pa_rules.specs.Legal.{IsLegalTold}
use Rattle.pa_rules.specs.Verdicts.{Holds, FailsAt, IsFirstFailing, turn}
use Rattle.pa_verdict.specs.Clauses.{IsMet}
use Rattle.pa_verdict.specs.Verdict.{LegalIs, OneVerdict, TitlesNeverFail}
use Rattle.pa_verdict.proofs.Simple.{lines_are_places, contents_are_places, seen_is_places, report_is_places}
use Rattle.pa_verdict.proofs.Walks.{registers_are_places, caches_are_places}
use Rattle.pa_verdict.proofs.Exchanges.{cells_are_places}
use Rattle.pa_verdict.proofs.Runs.{slots_are_places}
use Rattle.pa_verdict.proofs.Pool.{pool_is_places}
use Rattle.pa_verdict.proofs.Journals.{roots_are_places}
use Rattle.pa_verdict.proofs.Titles.{titles_are_places}
use Rattle.pa_verdict.proofs.Holding.{holders_are_places}

legal_meets : (t : Trace) (r : Told) → IsLegalTold t r → (c : Clause) → IsMet c t r
legal_meets t r h clauses.Lines = (lines_are_places t r).0 h.lines
legal_meets t r h clauses.Cells = (cells_are_places t r h.lines).0 h.cells
legal_meets t r h clauses.Registers = (registers_are_places t r).0 h.registers
legal_meets t r h clauses.Slots = (slots_are_places t r h.lines).0 h.slots
legal_meets t r h clauses.Contents = (contents_are_places t r).0 h.contents
legal_meets t r h clauses.Pool = (pool_is_places t r h.lines).0 h.pool
legal_meets t r h clauses.Roots = (roots_are_places t r h.lines).0 h.roots
legal_meets t r h clauses.Titles = titles_are_places.met t r h.roots h.pool
legal_meets t r h clauses.Holders = (holders_are_places t r h.lines h.slots).0 h.holders
legal_meets t r h clauses.Caches = (caches_are_places t r).0 h.caches
legal_meets t r h clauses.Seen = (seen_is_places t r).0 h.seen
legal_meets t r h clauses.Report = (report_is_places t r).0 h.report

legal_whole : (t : Trace) (r : Told) → ((c : Clause) → IsMet c t r) → IsLegalTold t r
legal_whole t r met =
    let lines = (lines_are_places t r).1 (met clauses.Lines) in
    let slots = (slots_are_places t r lines).1 (met clauses.Slots) in
    record {
      lines = lines;
      cells = (cells_are_places t r lines).1 (met clauses.Cells);
      registers = (registers_are_places t r).1 (met clauses.Registers);
      slots = slots;
      contents = (contents_are_places t r).1 (met clauses.Contents);
      pool = (pool_is_places t r lines).1 (met clauses.Pool);
      roots = (roots_are_places t r lines).1 (met clauses.Roots);
      titles = titles_are_places.whole t r (met clauses.Titles);
      holders = (holders_are_places t r lines slots).1 (met clauses.Holders);
      caches = (caches_are_places t r).1 (met clauses.Caches);
      seen = (seen_is_places t r).1 (met clauses.Seen);
      report = (report_is_places t r).1 (met clauses.Report);
    }

pub legal_is : LegalIs
legal_is t r = (legal_meets t (told_by r), legal_whole t (told_by r))

pub titles_never_fail : TitlesNeverFail
titles_never_fail t r before =
    let u = told_by r in
    let lines = (lines_are_places t u).1 (before clauses.Lines (omega arith)) in
    titles_are_places.met t u ((roots_are_places t u lines).1 (before clauses.Roots (omega arith)))
    ((pool_is_places t u lines).1 (before clauses.Pool (omega arith)))

-- ---- one verdict

-- the clauses in their order, and the clause of a turn
abbrev in_turn : List Clause
in_turn =
    clauses.Lines
    ∷ clauses.Cells
    ∷ clauses.Registers
    ∷ clauses.Slots
    ∷ clauses.Contents
    ∷ clauses.Pool
    ∷ clauses.Roots
    ∷ clauses.Titles
    ∷ clauses.Holders
    ∷ clauses.Caches
    ∷ clauses.Seen
    ∷ clauses.Report
    ∷ []

abbrev clause_at : ℕ → Clause
clause_at n = get_or in_turn n clauses.Lines

at_turn : (c : Clause) → clause_at (turn c) ≡ c
at_turn clauses.Lines = refl
at_turn clauses.Cells = refl
at_turn clauses.Registers = refl
at_turn clauses.Slots = refl
at_turn clauses.Contents = refl
at_turn clauses.Pool = refl
at_turn clauses.Roots = refl
at_turn clauses.Titles = refl
at_turn clauses.Holders = refl
at_turn clauses.Caches = refl
at_turn clauses.Seen = refl
at_turn clauses.Report = refl

not_failing : (c : Clause) (n : ℕ) (t : Trace) (r : Run) → Holds c t r → FailsAt c t r n → ⊥
not_failing c n t r holds fails = fails.unmet (holds fails.place)

one_line : (c : Clause) (n m : ℕ) (t : Trace) (r : Run) → FailsAt c t r n → FailsAt c t r m → n ≡ m
one_line c n m t r f g = elim (cases_order n m) [
  | inl same ↦ same
  | inr rest ↦ elim rest [
    | inl less ↦ absurd (f.unmet (g.before f.place (let at = f.line in omega arith)))
    | inr more ↦ absurd (g.unmet (f.before g.place (let at = g.line in omega arith)))
  ]
]

one_failing : (c d : Clause) (n m : ℕ) (t : Trace) (r : Run) → IsFirstFailing c n t r → IsFirstFailing d m t r → Broken c n ≡ Broken d m
one_failing c d n m t r (before, fails) (before', fails') = elim (cases_order (turn c) (turn d)) [
  | inl same ↦
      let one : c ≡ d = sym (at_turn c) ∙ ap clause_at same ∙ at_turn d in
      let lines = one_line d n m t r (subst (λ (z : Clause). FailsAt z t r n) one fails) fails' in
      ap (λ (z : Clause). Broken z n) one ∙ ap (λ z. Broken d z) lines
  | inr rest ↦ elim rest [
    | inl less ↦ absurd (not_failing c n t r (before' c less) fails)
    | inr more ↦ absurd (not_failing d m t r (before d more) fails')
  ]
]

pub one_verdict : OneVerdict
one_verdict t r Legal Legal first second = refl
one_verdict t r Legal (Broken d m) first second = absurd (not_failing d m t r (legal_meets t (told_by r) first d) second.1)
one_verdict t r (Broken c n) Legal first second = absurd (not_failing c n t r (legal_meets t (told_by r) second c) first.1)
one_verdict t r (Broken c n) (Broken d m) first second = one_failing c d n m t r first second
