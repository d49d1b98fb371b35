-- The records of the worked run of two threads: its cell, slot and order.
use Rattle.std.proofs.Common.{◌≡◌, ℕ, zero, suc, ◌+◌, Bool, true, ◌&&◌, ◌||◌, not, eqb, ltb, List, [], ◌∷◌, Some, refl, sym, ◌∙◌, ap, subst, lit<, add-one}
use Rattle.std.specs.Prelude.{slice_get}
use Rattle.std.specs.List.{AllByRecursion}
use Rattle.pa_slot.specs.Run.{Slots}
use Rattle.pa_trace.specs.declared.script.Op.TheVariants as ops
use Rattle.pa_trace.specs.Rules.{rules_of}
use Rattle.pa_record.specs.declared.entry.Answer.TheVariants as answers
use Rattle.pa_record.specs.declared.history.CellEntry.{CellEntry}
use Rattle.pa_record.specs.declared.history.Held.TheVariants as held
use Rattle.pa_lists.proofs.Members.{of_some, not_some}
use Rattle.pa_rules.specs.declared.played.Played.{Played}
use Rattle.pa_rules.specs.Played.{marks_of, AreLines}
use Rattle.pa_rules.specs.Cells.{AreCells, IsExchange, IsChain, history_at}
use Rattle.pa_rules.specs.Order.{IsOfLine}
use Rattle.pa_rules.specs.Seen.{IsSeenInOrder}
use Rattle.pa_examples.specs.Worked.{two_threads_trace, two_threads_records, two_threads_history, of_one}
use Rattle.pa_one_run.specs.Parts.{cell_line}
use Rattle.pa_examples.proofs.worked.Lists.{each, rises, one_place, lines_follow, in_order}
use Rattle.pa_examples.proofs.worked.OneFill.{the_slot}
use Rattle.pa_examples.proofs.worked.Slots.{Worded, are_worded, worded_slots}
use Rattle.pa_examples.proofs.worked.Seen.{seen_in_order}
use Rattle.pa_lists.proofs.Indexed.{at_in}

abbrev pub cells : ℕ → List CellEntry
cells = history_at (two_threads_history ∷ [])

pub lines : AreLines (rules_of two_threads_trace) two_threads_trace.lines two_threads_records
lines = refl

pub follow : lines_follow two_threads_records ≡ true
follow = refl

chain : (k : ℕ) → IsChain held.Nothing (cells k)
chain zero = (refl, (refl, tt))
chain (suc k) = tt

-- only cell 0 has exchanges
only_cell : (k j : ℕ) (e : CellEntry) → IsExchange cells k j e → (k ≡ 0) × (slice_get two_threads_history j ≡ Some e)
only_cell zero j e at = (refl, at)
only_cell (suc k) j e at = absurd (not_some e at)

-- the exchange's record is one with cell k
abbrev IsOf : ℕ → CellEntry → Type 0
IsOf k e = (p : Played) × (reg : ℕ) × IsOfLine two_threads_records e.line p × (p.op ≡ ops.Swap k reg)

of_records : AllByRecursion (IsOf 0) two_threads_history
of_records = ((_, 1, ((2, lit< tt, refl), refl), refl), ((_, 0, ((4, lit< tt, refl), refl), refl), tt))

exchange_lines : (k j : ℕ) (e : CellEntry) → IsExchange cells k j e → IsOf k e
exchange_lines k j e at =
    let (cell, at') = only_cell k j e at in
    subst (λ c. IsOf c e) (sym cell) (each (IsOf 0) two_threads_history of_records e (at_in two_threads_history j e at'))

-- the answer of an exchange names it
abbrev HasExchange : Played → ℕ → Type 0
HasExchange p k = (j : ℕ) × (e : CellEntry) × (p.answer ≡ answers.Swapped j) × IsExchange cells k j e × (e.line ≡ p.line)

abbrev IsAnswered : Played → Type 0
IsAnswered p = (k reg : ℕ) → p.op ≡ ops.Swap k reg → HasExchange p k

answered : (p : Played) (r : ℕ) → HasExchange p 0 → p.op ≡ ops.Swap 0 r → IsAnswered p
answered p r has op k reg is = let cell : 0 ≡ k = cc in subst (λ c. HasExchange p c) cell has

all_answered : AllByRecursion IsAnswered two_threads_records
all_answered = (
  λ k reg e. absurd cc,
  (
    λ k reg e. absurd cc,
    (
      answered (record of_one { line = 4; thread = 0; phase = 1; op = ops.Swap 0 1; answer = answers.Swapped 0 }) 1
          (0, _, refl, refl, refl) refl,
      (
        λ k reg e. absurd cc,
        (
          answered (record of_one { line = 7; thread = 1; phase = 2; op = ops.Swap 0 0; answer = answers.Swapped 1 }) 0
              (1, _, refl, refl, refl) refl,
          (
            λ k reg e. absurd cc,
            (
              λ k reg e. absurd cc,
              (λ k reg e. absurd cc, tt),
            ),
          ),
        ),
      ),
    ),
  ),
)

pub exchanged : AreCells cells two_threads_records
exchanged = record {
  chain = chain;
  lines = exchange_lines;
  different = λ k l i j e f at at' same.
      let (cell, here) = only_cell k i e at in
      let (cell', there) = only_cell l j f at' in
      (cell ∙ sym cell', one_place cell_line two_threads_history refl i j e f here there same);
  answers = λ p k reg among is. each IsAnswered two_threads_records all_answered p among k reg is;
  order = λ k i j e f p q at at' of of' before.
      in_order two_threads_records cell_line two_threads_history follow (rises cell_line two_threads_history refl) i j e f p q
      (only_cell k i e at).1 (only_cell k j f at').1 of of' before;
}

-- the words of the slot
abbrev pub words : List Worded
words = record { slot = the_slot; words = 0x1000001 ∷ 0x2000003 ∷ 0x3000002 ∷ 0x4000000 ∷ [] } ∷ []

pub worded : are_worded (marks_of two_threads_records) words ≡ true
worded = refl

pub slots : Slots (marks_of two_threads_records)
slots = worded_slots (marks_of two_threads_records) words worded

-- The free on line 6 is before those of the last phase alone: what the other thread does in its phase may come before it.
abbrev before : Played → Played → Bool
before x y = ltb x.line y.line && (not (eqb x.line 6) || ltb 2 y.phase)

before_by : (x y : Played) (m n : ℕ) → m ≡ x.line → n ≡ y.line → (ltb m n && (not (eqb m 6) || ltb 2 y.phase)) ≡ true → before x y ≡ true
before_by x y m n e f h =
    subst (λ a. (ltb a y.line && (not (eqb a 6) || ltb 2 y.phase)) ≡ true) e
    (subst (λ b. (ltb m b && (not (eqb m 6) || ltb 2 y.phase)) ≡ true) f h)

-- the raw_ptr went through the cell from line 4 to line 7
handed : (x y : Played) (j : ℕ) (e f : CellEntry) → slice_get two_threads_history j ≡ Some e →
    slice_get two_threads_history (j + 1) ≡ Some f → e.line ≡ x.line → f.line ≡ y.line →
    before x y ≡ true
handed x y zero e f at at' line line' =
    before_by x y 4 7 (ap cell_line (of_some _ e at) ∙ line) (ap cell_line (of_some _ f at') ∙ line') refl
handed x y (suc j) e f at at' line line' = absurd (not_some f (rw add-one at at'))

pub seen : IsSeenInOrder cells two_threads_records
seen = seen_in_order cells two_threads_records before refl
    (λ x y among among' (k, j, e, f, at, at', line, line', gave). handed x y j e f (only_cell k j e at).1
    (only_cell k (j + 1) f at').1 line line')
