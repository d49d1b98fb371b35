-- What a record's exchange is in the history of its cell: the only one of the record's line, which found what the exchange before it gave.
use Rattle.std.proofs.Common.{◌≡◌, ℕ, ◌<◌, List, [], ◌∷◌, ◌++◌, length, slice_get, Some, sym, ◌∙◌, ap, subst, append_assoc}
use Rattle.std.specs.Prelude.{Contains}
use Rattle.std.specs.List.Sorted.{IsNonDecreasingBy}
use Rattle.pa_trace.specs.declared.script.Op.TheVariants.{Swap}
use Rattle.pa_record.specs.declared.entry.Answer.{Answer}
use Rattle.pa_record.specs.declared.entry.Answer.TheVariants.{Swapped}
use Rattle.pa_record.specs.declared.history.CellEntry.{CellEntry}
use Rattle.pa_record.specs.declared.history.Held.{Held}
use Rattle.pa_record.specs.declared.history.Held.TheVariants.{Nothing}
use Rattle.pa_rules.specs.declared.played.Played.{Played}
use Rattle.pa_rules.specs.Cells.{IsChain}
use Rattle.pa_one_run.specs.Parts.{Parts, cell_line}
use Rattle.pa_one_run.specs.Before.{below, on, past, gave_last}
use Rattle.pa_one_run.proofs.lines.Sorting.{on_in, on_none, on_one, below_on_past, get_below, below_get, rising_strictly, on_alone}
use Rattle.pa_one_run.proofs.Filed.{IsFiled, Agrees}
use Rattle.pa_lists.proofs.Elements.{in_one}
use Rattle.pa_one_run.proofs.lines.Cuts.{same_played, exchange_made}

-- ---- the history of one cell

chain_found : (held : Held) (xs ys : List CellEntry) (e : CellEntry) → IsChain held (xs ++ e ∷ ys) → e.found ≡ gave_last held xs
chain_found held [] ys e h = h.0
chain_found held (x ∷ xs) ys e h = chain_found x.gave xs ys e h.1

-- a cell's exchanges are in the order of their lines
pub cell_steady : (a : Parts) (k : ℕ) → IsFiled a → IsNonDecreasingBy cell_line (a.cells k)
cell_steady a k h = rising_strictly cell_line (a.cells k) (h.order.exchanges k)

-- ---- a record's exchange

-- the exchange e of cell k is that of record x
pub record HasExchange (a : Parts) (x : Played) (k : ℕ) (e : CellEntry) : Type 0 where
  pub line : e.line ≡ x.line
  pub only : on cell_line x.line (a.cells k) ≡ e ∷ []
  pub answer : x.answer ≡ Swapped (length (below cell_line x.line (a.cells k)))
  pub place : slice_get (a.cells k) (length (below cell_line x.line (a.cells k))) ≡ Some e
  pub found : e.found ≡ gave_last Nothing (below cell_line x.line (a.cells k))

pub exchange_here : (a : Parts) (x : Played) (k reg : ℕ) → IsFiled a → Contains a.ps x → x.op ≡ Swap k reg → (e : CellEntry) ×
    HasExchange a x k e
exchange_here a x k reg h among op =
    let (j, e, answer, at, line) = h.exchanged.answers x k reg among op in
    let only = on_alone cell_line x.line (a.cells k) j e at line
    (λ i d there same. (h.exchanged.different k k i j d e there at (same ∙ sym line)).1) in
    let steady = cell_steady a k h in
    let (place, same) = on_one cell_line x.line (a.cells k) e e j steady only at line in
    let front = below cell_line x.line (a.cells k) in
    let back = past cell_line x.line (a.cells k) in
    let cut : a.cells k ≡ front ++ e ∷ back = below_on_past cell_line x.line (a.cells k) steady ∙ ap (λ es. front ++ es ++ back) only ∙
    append_assoc front (e ∷ []) back in (
      e,
      record {
        line = line;
        only = only;
        answer = answer ∙ ap {B = Answer} (λ i. Swapped i) place;
        place = subst (λ i. slice_get (a.cells k) i ≡ Some e) place at;
        found = chain_found Nothing front back e (subst (λ es. IsChain Nothing es) cut (h.exchanged.chain k));
      },
    )

-- an exchange of the line is that one
pub one_exchange : (a : Parts) (x : Played) (k : ℕ) (e d : CellEntry) → HasExchange a x k e → Contains (a.cells k) d → d.line ≡ x.line →
    e ≡ d
one_exchange a x k e d has among line =
    in_one e d (subst (λ es. Contains es d) has.only (on_in cell_line x.line (a.cells k) d among line))

-- the record of an exchange swaps with its cell
pub exchange_op : (a : Parts) (x : Played) (k : ℕ) (e : CellEntry) → IsFiled a → Contains a.ps x → Contains (a.cells k) e →
    e.line ≡ x.line → (reg : ℕ) × (x.op ≡ Swap k reg)
exchange_op a x k e h among member line =
    let (q, reg, there, same, op) = exchange_made a k e h member in
    let one = same_played a q x h there among (same ∙ line) in
    (reg, ap (λ (z : Played). z.op) (sym one) ∙ op)

-- a cell has no exchange on the line of a record that doesn't swap with it
pub exchange_none : (a : Parts) (x : Played) (k : ℕ) → IsFiled a → Contains a.ps x → ((reg : ℕ) → x.op ≡ Swap k reg → ⊥) →
    on cell_line x.line (a.cells k) ≡ []
exchange_none a x k h among other = on_none cell_line x.line (a.cells k) (λ e member line.
    let (reg, op) = exchange_op a x k e h among member line in
    other reg op)

-- ---- two runs

-- an exchange before the line is in the other run if it is in this one
pub exchange_kept : (a b : Parts) (n k j : ℕ) (e : CellEntry) → IsFiled a → IsFiled b → Agrees n a b → slice_get (a.cells k) j ≡ Some e →
    e.line < n → slice_get (b.cells k) j ≡ Some e
exchange_kept a b n k j e h g agrees at less =
    let front = get_below cell_line n (a.cells k) j e (cell_steady a k h) at less in
    below_get cell_line n (b.cells k) j e (cell_steady b k g) (subst (λ es. slice_get es j ≡ Some e) (agrees.cells k) front)
