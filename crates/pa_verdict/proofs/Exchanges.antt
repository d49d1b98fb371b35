-- The clause of the cells, exchange by exchange.
use Rattle.std.proofs.Common.{◌≡◌, ℕ, zero, suc, ◌⊎◌, List, [], ◌∷◌, Some, refl, sym, ◌∙◌, ap, arith, inl, inr}
use Rattle.std.specs.Prelude.{slice_get}
use Rattle.std.proofs.lemmas.Bool.{cases_order}
use Rattle.pa_trace.specs.declared.script.Trace.{Trace}
use Rattle.pa_record.specs.declared.history.CellEntry.{CellEntry}
use Rattle.pa_record.specs.declared.history.Held.{Held}
use Rattle.pa_record.specs.declared.history.Held.TheVariants.{Nothing}
use Rattle.pa_lists.proofs.Members.{of_some, not_some}
use Rattle.pa_rules.specs.declared.played.Played.{Played}
use Rattle.pa_rules.specs.declared.verdict.Clause.TheVariants as clauses
use Rattle.pa_rules.specs.declared.verdict.Place.TheVariants as places
use Rattle.pa_rules.specs.Told.{Told, records_of}
use Rattle.pa_rules.specs.Cells.{IsChain, IsExchange, AreCells}
use Rattle.pa_rules.specs.RecordDemands.{WasGiven, IsAbove, ExchangeFits}
use Rattle.pa_verdict.specs.Clauses.{IsMet, CellsArePlaces}
use Rattle.pa_lists.proofs.Indexed.{at_in, in_at}
use Rattle.pa_verdict.proofs.Ordering.{due_differ, order_meets, order_whole}

-- what the exchange before the one of this index gave, if the first one finds what the cell held
abbrev GivenFrom : Held → List CellEntry → ℕ → Held → Type 0
GivenFrom held es zero found = found ≡ held
GivenFrom held es (suc j) found = (e : CellEntry) × (slice_get es j ≡ Some e) × (found ≡ e.gave)

given_is : (es : List CellEntry) (j : ℕ) (found : Held) → GivenFrom Nothing es j found → WasGiven es j found
given_is es zero found h = h
given_is es (suc j) found h = h

given_from : (es : List CellEntry) (j : ℕ) (found : Held) → WasGiven es j found → GivenFrom Nothing es j found
given_from es zero found h = h
given_from es (suc j) found h = h

later_given : (held : Held) (d : CellEntry) (es : List CellEntry) (j : ℕ) (found : Held) → GivenFrom d.gave es j found →
    GivenFrom held (d ∷ es) (suc j) found
later_given held d es zero found h = (d, refl, h)
later_given held d es (suc j) found h = h

chain_given : (held : Held) (es : List CellEntry) (j : ℕ) (e : CellEntry) → IsChain held es → slice_get es j ≡ Some e →
    GivenFrom held es j e.found
chain_given held [] j e h at = absurd (not_some e at)
chain_given held (d ∷ es) zero e h at = ap (λ (z : CellEntry). z.found) (sym (of_some d e at)) ∙ h.0
chain_given held (d ∷ es) (suc j) e h at = later_given held d es j e.found (chain_given d.gave es j e h.1 at)

earlier_given : (held : Held) (d : CellEntry) (es : List CellEntry) (j : ℕ) (found : Held) → GivenFrom held (d ∷ es) (suc j) found →
    GivenFrom d.gave es j found
earlier_given held d es zero found (e, at, is) = is ∙ ap (λ (z : CellEntry). z.gave) (sym (of_some d e at))
earlier_given held d es (suc j) found h = h

given_chain : (held : Held) (es : List CellEntry) → ((j : ℕ) (e : CellEntry) → slice_get es j ≡ Some e → GivenFrom held es j e.found) →
    IsChain held es
given_chain held [] h = tt
given_chain held (d ∷ es) h = (h 0 d refl, given_chain d.gave es (λ j e at. earlier_given held d es j e.found (h (suc j) e at)))

-- of two places of exchanges one is above the other, or they are one
which_above : (k i l j : ℕ) → IsAbove k i l j ⊎ (((k ≡ l) × (i ≡ j)) ⊎ IsAbove l j k i)
which_above k i l j = elim (cases_order k l) [
  | inl same ↦ elim (cases_order i j) [
    | inl same' ↦ inr (inl (same, same'))
    | inr rest ↦ elim rest [
      | inl less ↦ inl (inr (same, less))
      | inr more ↦ inr (inr (inr (sym same, more)))
    ]
  ]
  | inr rest ↦ elim rest [
    | inl less ↦ inl (inl less)
    | inr more ↦ inr (inr (inl more))
  ]
]

not_above : (k i l j : ℕ) → IsAbove k i l j → k ≡ l → i ≡ j → ⊥
not_above k i l j (inl less) same same' = omega arith
not_above k i l j (inr (one, less)) same same' = omega arith

abbrev cell_line : CellEntry → ℕ
cell_line e = e.line

exchange_fits : (cells : ℕ → List CellEntry) (ps : List Played) (k j : ℕ) (e : CellEntry) → AreCells cells ps → IsExchange cells k j e →
    ExchangeFits cells ps k j e
exchange_fits cells ps k j e h at = record {
  found = given_is (cells k) j e.found (chain_given Nothing (cells k) j e (h.chain k) at);
  line = h.lines k j e at;
  once = λ l i f there above same. let (one, one') = h.different l k i j f e there at same in not_above l i k j above one one';
  order = order_meets ps cell_line (cells k) j (h.order k);
}

cells_meet : (t : Trace) (r : Told) → AreCells r.cells (records_of t r) → IsMet clauses.Cells t r
cells_meet t r h (places.Record i) = λ x k reg at swap. h.answers x k reg (at_in (records_of t r) i x at) swap
cells_meet t r h (places.Cell k j) = λ e at. exchange_fits r.cells (records_of t r) k j e h at
cells_meet t r h (places.Root p j) = tt
cells_meet t r h (places.Pool j) = tt
cells_meet t r h (places.Report i) = tt

different : (cells : ℕ → List CellEntry) (ps : List Played) →
    ((k j : ℕ) (e : CellEntry) → IsExchange cells k j e → ExchangeFits cells ps k j e) → (k l i j : ℕ) (e f : CellEntry)
    → IsExchange cells k i e → IsExchange cells l j f → e.line ≡ f.line → (k ≡ l) × (i ≡ j)
different cells ps h k l i j e f at at' same = elim (which_above k i l j) [
  | inl above ↦ absurd ((h l j f at').once k i e at above same)
  | inr rest ↦ elim rest [
    | inl one ↦ one
    | inr above ↦ absurd ((h k i e at).once l j f at' above (sym same))
  ]
]

pub cells_are_places : CellsArePlaces
cells_are_places t r due = (
  cells_meet t r,
  λ met.
      let ps = records_of t r in
      let fits : (k j : ℕ) (e : CellEntry) → IsExchange r.cells k j e → ExchangeFits r.cells ps k j e = λ k j. met (places.Cell k j) in
      record {
        chain = λ k. given_chain Nothing (r.cells k) (λ j e at. given_from (r.cells k) j e.found (fits k j e at).found);
        lines = λ k j e at. (fits k j e at).line;
        different = different r.cells ps fits;
        answers = λ x k reg among. let (i, at) = in_at ps x among in met (places.Record i) x k reg at;
        order = λ k. order_whole ps cell_line (r.cells k) (due_differ t r due) (λ j e at. (fits k j e at).order);
      },
)
