-- A written run in which no cell is used, and what is seen in it in the order of the lines.
use Rattle.std.proofs.Common.{◌≡◌, ℕ, Bool, true, false, not, ltb, List, [], refl, sym, subst}
use Rattle.std.specs.Prelude.{Contains}
use Rattle.std.specs.List.{list_all}
use Rattle.std.proofs.lemmas.Bool.{not-true, both_ways}
use Rattle.pa_trace.specs.declared.script.Op.{Op}
use Rattle.pa_trace.specs.declared.script.Op.TheVariants as ops
use Rattle.pa_record.specs.declared.history.CellEntry.{CellEntry}
use Rattle.pa_lists.proofs.Members.{not_some}
use Rattle.pa_rules.specs.declared.played.Played.{Played}
use Rattle.pa_rules.specs.Cells.{AreCells, IsExchange, history_at}
use Rattle.pa_rules.specs.Seen.{IsSeenInOrder}
use Rattle.pa_examples.proofs.worked.Seen.{is_seen, seen_in_order}
use Rattle.pa_lists.proofs.Elements.{passes}

abbrev pub no_cells : ℕ → List CellEntry
no_cells = history_at []

abbrev pub is_swap : Op → Bool
is_swap (ops.Swap cell reg) = true
is_swap op = false

no_exchange : (k j : ℕ) (e : CellEntry) → IsExchange no_cells k j e → ⊥
no_exchange k j e at = not_some e at

pub no_swap : (ps : List Played) → list_all (λ (x : Played). not (is_swap x.op)) ps ≡ true → (x : Played) (k reg : ℕ) → Contains ps x →
    x.op ≡ ops.Swap k reg → ⊥
no_swap ps h x k reg among is =
    both_ways _ (not-true _ (passes (λ (y : Played). not (is_swap y.op)) ps x h among)) (subst (λ o. is_swap o ≡ true) (sym is) refl)

pub no_cell_used : (ps : List Played) → list_all (λ (x : Played). not (is_swap x.op)) ps ≡ true → AreCells no_cells ps
no_cell_used ps h = record {
  chain = λ k. tt;
  lines = λ k j e at. absurd (no_exchange k j e at);
  different = λ k l i j e f at at' same. absurd (no_exchange k i e at);
  answers = λ p k reg among is. absurd (no_swap ps h p k reg among is);
  order = λ k i j e f p q at at' of of' before. absurd (no_exchange k i e at);
}

-- each record is before those of the later lines
abbrev pub by_line : Played → Played → Bool
by_line x y = ltb x.line y.line

pub seen_by_line : (ps : List Played) → is_seen by_line ps ≡ true → IsSeenInOrder no_cells ps
seen_by_line ps h = seen_in_order no_cells ps by_line h
    (λ x y among among' (k, j, e, f, at, at', line, line', gave). absurd (no_exchange k j e at))
