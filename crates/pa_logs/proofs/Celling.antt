-- The cells are those of a legal run.
use Rattle.std.proofs.Common.{◌≡◌, ℕ, ◌<◌, List, slice_get, Some, refl, sym, ◌∙◌, ap, subst, arith, inl, inr}
use Rattle.std.proofs.lemmas.Bool.{cases_lt, eqb-true}
use Rattle.pa_trace.specs.declared.script.Op.TheVariants.{Swap}
use Rattle.pa_record.specs.declared.history.CellEntry.{CellEntry}
use Rattle.pa_lists.proofs.Joined.{map_cases, map_in, filter_cases}
use Rattle.pa_lists.proofs.Members.{of_some}
use Rattle.pa_region.specs.declared.view.Made.{Made}
use Rattle.pa_rules.specs.declared.played.Played.{Played}
use Rattle.pa_rules.specs.Cells.{IsExchange, AreCells}
use Rattle.pa_rules.specs.Order.{StandsBefore}
use Rattle.pa_logs.specs.Told.{ToldRecord, played_in}
use Rattle.pa_logs.specs.Swaps.{SwapMade, is_of_cell, AreSwapped, AreAnswered, CellsFollow}
use Rattle.pa_logs.proofs.Filters.{get_in}
use Rattle.pa_logs.proofs.Swapping.{StandsAt, cell_list, two_places, placed, in_cell, order}
use Rattle.pa_lists.proofs.Indexed.{in_at}

-- the exchange of a cell at a place, among all
record IsOfCell (swaps : List SwapMade) (k : ℕ) (e : CellEntry) (i : ℕ) (s : SwapMade) : Type 0 where
  pub at_i : StandsAt swaps i e s
  pub cell : s.cell ≡ k

of_cell : (swaps : List SwapMade) (k j : ℕ) (e : CellEntry) → slice_get (cell_list k swaps) j ≡ Some e → (i : ℕ) × (s : SwapMade) ×
    IsOfCell swaps k e i s
of_cell swaps k j e at_j =
    let (s, member, is) = map_cases (λ (z : SwapMade). z.entry) _ e (get_in (cell_list k swaps) j e at_j) in
    let (among, cell) = filter_cases (is_of_cell k) swaps s member in
    let (i, at_i) = in_at swaps s among in
    (i, s, record { at_i = record { at_i = at_i; is = is }; cell = eqb-true s.cell k cell })

module _ (list : List Made) (cells : ℕ → List CellEntry) (swaps : List SwapMade) (ts : List ToldRecord)
    (are : AreSwapped list cells swaps ts) (answered : AreAnswered cells swaps ts) where
  -- exchanges of one line are at one place
  one_cell : (k l i j : ℕ) (e f : CellEntry) → IsExchange cells k i e → IsExchange cells l j f → e.line ≡ f.line → k ≡ l
  one_cell k l i j e f at_i at_j same =
      let (a, s, here) = of_cell swaps k i e (in_cell list cells swaps ts are k i e at_i) in
      let (b, u, there) = of_cell swaps l j f (in_cell list cells swaps ts are l j f at_j) in
      let p = placed list cells swaps ts are a e s f.line here.at_i same in
      let q = placed list cells swaps ts are b f u f.line there.at_i refl in
      let one : s ≡ u = of_some s u (sym here.at_i.at_i ∙ (ap (λ n. slice_get swaps n) (sym p ∙ q) ∙ there.at_i.at_i)) in
      sym here.cell ∙ (ap (λ (z : SwapMade). z.cell) one ∙ there.cell)

  not_two : (k i j : ℕ) (e f : CellEntry) → IsExchange cells k i e → IsExchange cells k j f → e.line ≡ f.line → i < j → ⊥
  not_two k i j e f at_i at_j same less =
      let two = two_places k swaps i j e f less (in_cell list cells swaps ts are k i e at_i) (in_cell list cells swaps ts are k j f at_j) in
      let p = placed list cells swaps ts are two.first e two.one f.line two.here same in
      let q = placed list cells swaps ts are two.second f two.other f.line two.there refl in
      let up = two.less in
      absurd (omega arith)

  one_place : (k l i j : ℕ) (e f : CellEntry) → IsExchange cells k i e → IsExchange cells l j f → e.line ≡ f.line → (k ≡ l) × (i ≡ j)
  one_place k l i j e f at_i at_j same =
      let cell = one_cell k l i j e f at_i at_j same in
      let there : IsExchange cells k j f = subst (λ n. IsExchange cells n j f) (sym cell) at_j in (
        cell,
        elim (cases_lt i j) [
          | inl less ↦ absurd (not_two k i j e f at_i there same less)
          | inr more ↦ elim (cases_lt j i) [ inl back ↦ absurd (not_two k j i f e there at_i (sym same) back) | inr equal ↦ omega arith ]
        ],
      )

  are_cells : AreCells cells (played_in ts)
  are_cells = record {
    chain = answered.chain;
    lines = λ k j e at_j.
        let (i, s, here) = of_cell swaps k j e (in_cell list cells swaps ts are k j e at_j) in
        let (x, reg, among, line, op) = answered.made s (get_in swaps i s here.at_i.at_i) in (
          x.played,
          reg,
          (map_in (λ (z : ToldRecord). z.played) ts x among, line ∙ ap (λ (z : CellEntry). z.line) here.at_i.is),
          op ∙
              ap (λ n. Swap n reg) here.cell,
        );
    different = one_place;
    answers = λ p k reg among op.
        let (x, there, e) = map_cases (λ (z : ToldRecord). z.played) ts p among in
        let (j, f, answer, at_j, line) = answered.answers x k reg there (ap (λ (z : Played). z.op) e ∙ op) in
        (j, f, ap (λ (z : Played). z.answer) (sym e) ∙ answer, at_j, line ∙ ap (λ (z : Played). z.line) e);
    order = λ k i j e f p q at_i at_j of other before.
        let (x, there, a) = map_cases (λ (z : ToldRecord). z.played) ts p of.0 in
        let (y, there', b) = map_cases (λ (z : ToldRecord). z.played) ts q other.0 in
        order list cells swaps ts are k i j e f x y at_i at_j there there' (ap (λ (z : Played). z.line) a ∙ of.1)
        (ap (λ (z : Played). z.line) b ∙ other.1)
        (subst (λ (z : Played). StandsBefore z y.played) (sym a) (subst (λ (z : Played). StandsBefore p z) (sym b) before));
  }

pub cells_follow : CellsFollow
cells_follow list cells swaps ts are answered = are_cells list cells swaps ts are answered
