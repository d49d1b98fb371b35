-- The records of the worked run with an early read: its cells, slot and order.
use Rattle.std.proofs.Common.{◌≡◌, ℕ, zero, suc, ◌+◌, ◌<◌, ◌≤◌, Bool, true, ltb, List, [], ◌∷◌, Some, refl, sym, ◌∙◌, ap, subst, lit<, lit≤, add-one, arith, ◌⊎◌, inl, inr}
use Rattle.std.specs.Prelude.{slice_get}
use Rattle.std.specs.List.{AllByRecursion}
use Rattle.pa_slot.specs.Run.{Slots}
use Rattle.pa_trace.specs.declared.script.Op.TheVariants as ops
use Rattle.pa_trace.specs.Rules.{rules_of}
use Rattle.pa_examples.specs.Worked.{of_one}
use Rattle.pa_record.specs.declared.entry.Answer.TheVariants as answers
use Rattle.pa_record.specs.declared.history.CellEntry.{CellEntry}
use Rattle.pa_record.specs.declared.history.Held.TheVariants as held
use Rattle.pa_lists.proofs.Members.{of_some, not_some}
use Rattle.pa_rules.specs.declared.played.Played.{Played}
use Rattle.pa_rules.specs.Played.{marks_of, AreLines}
use Rattle.pa_rules.specs.Cells.{history_at, AreCells, IsExchange, IsChain}
use Rattle.pa_rules.specs.Order.{IsOfLine, StandsBefore}
use Rattle.pa_rules.specs.Seen.{IsSeenInOrder}
use Rattle.pa_examples.specs.WorkedEarly.{early_read_trace, early_read_records, there_history, back_history}
use Rattle.pa_one_run.specs.Parts.{cell_line}
use Rattle.pa_examples.proofs.worked.Lists.{each, rises, one_place, lines_follow, in_order}
use Rattle.pa_examples.proofs.worked.OneFill.{the_slot}
use Rattle.pa_examples.proofs.worked.Slots.{Worded, are_worded, worded_slots}
use Rattle.pa_examples.proofs.worked.Seen.{seen_in_order}
use Rattle.pa_lists.proofs.Indexed.{at_in}

abbrev pub cells : ℕ → List CellEntry
cells = history_at (there_history ∷ back_history ∷ [])

pub lines : AreLines (rules_of early_read_trace) early_read_trace.lines early_read_records
lines = refl

pub follow : lines_follow early_read_records ≡ true
follow = refl

chain : (k : ℕ) → IsChain held.Nothing (cells k)
chain zero = (refl, (refl, tt))
chain (suc zero) = (refl, (refl, tt))
chain (suc (suc k)) = tt

-- the first two cells alone have exchanges
abbrev IsThere : ℕ → ℕ → CellEntry → Type 0
IsThere k j e = (k ≡ 0) × (slice_get there_history j ≡ Some e)

abbrev IsBack : ℕ → ℕ → CellEntry → Type 0
IsBack k j e = (k ≡ 1) × (slice_get back_history j ≡ Some e)

which_cell : (k j : ℕ) (e : CellEntry) → IsExchange cells k j e → IsThere k j e ⊎ IsBack k j e
which_cell zero j e at = inl (refl, at)
which_cell (suc zero) j e at = inr (refl, at)
which_cell (suc (suc k)) j e at = absurd (not_some e at)

-- the first cell's on lines before the second's
early : AllByRecursion (λ (e : CellEntry). e.line ≤ 6) there_history
early = (lit≤ tt, (lit≤ tt, tt))

late : AllByRecursion (λ (e : CellEntry). 8 ≤ e.line) back_history
late = (lit≤ tt, (lit≤ tt, tt))

is_early : (j : ℕ) (e : CellEntry) → slice_get there_history j ≡ Some e → e.line ≤ 6
is_early j e at = each (λ (e : CellEntry). e.line ≤ 6) there_history early e (at_in there_history j e at)

is_late : (j : ℕ) (e : CellEntry) → slice_get back_history j ≡ Some e → 8 ≤ e.line
is_late j e at = each (λ (e : CellEntry). 8 ≤ e.line) back_history late e (at_in back_history j e at)

-- the exchange's record is one with cell k
abbrev IsOf : ℕ → CellEntry → Type 0
IsOf k e = (p : Played) × (reg : ℕ) × IsOfLine early_read_records e.line p × (p.op ≡ ops.Swap k reg)

of_there : AllByRecursion (IsOf 0) there_history
of_there = ((_, 1, ((2, lit< tt, refl), refl), refl), ((_, 0, ((3, lit< tt, refl), refl), refl), tt))

of_back : AllByRecursion (IsOf 1) back_history
of_back = ((_, 0, ((5, lit< tt, refl), refl), refl), ((_, 2, ((6, lit< tt, refl), refl), refl), tt))

exchange_lines : (k j : ℕ) (e : CellEntry) → IsExchange cells k j e → IsOf k e
exchange_lines k j e at = elim (which_cell k j e at) [
  | inl (cell, here) ↦ subst (λ c. IsOf c e) (sym cell) (each (IsOf 0) there_history of_there e (at_in there_history j e here))
  | inr (cell, here) ↦ subst (λ c. IsOf c e) (sym cell) (each (IsOf 1) back_history of_back e (at_in back_history j e here))
]

different : (k l i j : ℕ) (e f : CellEntry) → IsExchange cells k i e → IsExchange cells l j f → e.line ≡ f.line → (k ≡ l) × (i ≡ j)
different k l i j e f at at' same = elim (which_cell k i e at) [
  | inl (cell, here) ↦ elim (which_cell l j f at') [
    | inl (cell', there) ↦ (cell ∙ sym cell', one_place cell_line there_history refl i j e f here there same)
    | inr (cell', there) ↦ let low = is_early i e here in let high = is_late j f there in absurd (omega arith)
  ]
  | inr (cell, here) ↦ elim (which_cell l j f at') [
    | inl (cell', there) ↦ let high = is_late i e here in let low = is_early j f there in absurd (omega arith)
    | inr (cell', there) ↦ (cell ∙ sym cell', one_place cell_line back_history refl i j e f here there same)
  ]
]

-- the answer of an exchange names it
abbrev HasExchange : Played → ℕ → Type 0
HasExchange p k = (j : ℕ) × (e : CellEntry) × (p.answer ≡ answers.Swapped j) × IsExchange cells k j e × (e.line ≡ p.line)

abbrev IsAnswered : Played → Type 0
IsAnswered p = (k reg : ℕ) → p.op ≡ ops.Swap k reg → HasExchange p k

answered : (p : Played) (c r : ℕ) → HasExchange p c → p.op ≡ ops.Swap c r → IsAnswered p
answered p c r has op k reg is = let cell : c ≡ k = cc in subst (λ c. HasExchange p c) cell has

all_answered : AllByRecursion IsAnswered early_read_records
all_answered = (
  λ k reg e. absurd cc,
  (
    λ k reg e. absurd cc,
    (
      answered (record of_one { line = 4; thread = 0; phase = 1; op = ops.Swap 0 1; answer = answers.Swapped 0 }) 0 1
          (0, _, refl, refl, refl) refl,
      (
        answered (record of_one { line = 6; thread = 1; phase = 2; op = ops.Swap 0 0; answer = answers.Swapped 1 }) 0 0
            (1, _, refl, refl, refl) refl,
        (
          λ k reg e. absurd cc,
          (
            answered (record of_one { line = 8; thread = 1; phase = 2; op = ops.Swap 1 0; answer = answers.Swapped 0 }) 1 0
                (0, _, refl, refl, refl) refl,
            (
              answered (record of_one { line = 9; thread = 0; phase = 2; op = ops.Swap 1 2; answer = answers.Swapped 1 }) 1 2
                  (1, _, refl, refl, refl) refl,
              (λ k reg e. absurd cc, tt),
            ),
          ),
        ),
      ),
    ),
  ),
)

-- the exchanges of each cell are in the order of their lines
ordered : (k i j : ℕ) (e f : CellEntry) (p q : Played) → IsExchange cells k i e → IsExchange cells k j f →
    IsOfLine early_read_records e.line p →
    IsOfLine early_read_records f.line q → StandsBefore p q → i < j
ordered zero i j e f p q at at' of of' before =
    in_order early_read_records cell_line there_history follow (rises cell_line there_history refl) i j e f p q at at' of of' before
ordered (suc zero) i j e f p q at at' of of' before =
    in_order early_read_records cell_line back_history follow (rises cell_line back_history refl) i j e f p q at at' of of' before
ordered (suc (suc k)) i j e f p q at at' of of' before = absurd (not_some e at)

pub exchanged : AreCells cells early_read_records
exchanged = record {
  chain = chain;
  lines = exchange_lines;
  different = different;
  answers = λ p k reg among is. each IsAnswered early_read_records all_answered p among k reg is;
  order = ordered;
}

-- the words of the slot
abbrev pub words : List Worded
words = record { slot = the_slot; words = 0x1000001 ∷ 0x2000003 ∷ 0x3000002 ∷ [] } ∷ []

pub worded : are_worded (marks_of early_read_records) words ≡ true
worded = refl

pub slots : Slots (marks_of early_read_records)
slots = worded_slots (marks_of early_read_records) words worded

-- each line is before the later ones: the raw_ptr went through the cells from line 4 to line 6, and from line 8 to line 9
abbrev before : Played → Played → Bool
before x y = ltb x.line y.line

before_by : (x y : Played) (m n : ℕ) → m ≡ x.line → n ≡ y.line → ltb m n ≡ true → before x y ≡ true
before_by x y m n e f h = subst (λ a. ltb a y.line ≡ true) e (subst (λ b. ltb m b ≡ true) f h)

handed : (x y : Played) (k j : ℕ) (e f : CellEntry) → IsExchange cells k j e → IsExchange cells k (j + 1) f → e.line ≡ x.line →
    f.line ≡ y.line → before x y ≡ true
handed x y zero zero e f at at' line line' =
    before_by x y 4 6 (ap cell_line (of_some _ e at) ∙ line) (ap cell_line (of_some _ f at') ∙ line') refl
handed x y zero (suc j) e f at at' line line' = absurd (not_some f (rw add-one at at'))
handed x y (suc zero) zero e f at at' line line' =
    before_by x y 8 9 (ap cell_line (of_some _ e at) ∙ line) (ap cell_line (of_some _ f at') ∙ line') refl
handed x y (suc zero) (suc j) e f at at' line line' = absurd (not_some f (rw add-one at at'))
handed x y (suc (suc k)) j e f at at' line line' = absurd (not_some e at)

pub seen : IsSeenInOrder cells early_read_records
seen = seen_in_order cells early_read_records before refl
    (λ x y among among' (k, j, e, f, at, at', line, line', gave). handed x y k j e f at at' line line')
