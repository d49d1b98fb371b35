-- The exchanges that the moments are, phase by phase, are those of the cells' histories.
use Rattle.std.proofs.Common.{◌≡◌, ℕ, eqb, List, [], ◌∷◌, ◌++◌, map, filter, Option, Some, None, refl, sym, ◌∙◌, ap, inl, inr}
use Rattle.std.specs.Prelude.{Contains, option_and_then}
use Rattle.std.specs.List.{cons_option, filter_map}
use Rattle.std.proofs.lemmas.Bool.{cases_Bool, cases_eq, ne_eqb}
use Rattle.pa_region.specs.declared.view.Entry.TheVariants.{Entered}
use Rattle.pa_region.specs.declared.view.Made.{Made}
use Rattle.pa_region.specs.Lists.{entry_in, entered_in}
use Rattle.pa_region.specs.Order.{Stamped}
use Rattle.pa_record.specs.declared.history.CellEntry.{CellEntry}
use Rattle.pa_trace.specs.declared.script.Op.{Op}
use Rattle.pa_trace.specs.declared.script.Op.TheVariants as ops
use Rattle.pa_lists.proofs.Elements.{same_cons}
use Rattle.pa_lists.proofs.Joined.{pairs_map}
use Rattle.pa_lists.proofs.Members.{first_in, later_in, of_some, not_some}
use Rattle.pa_rules.specs.Order.{StandInOrder}
use Rattle.pa_rules.specs.Roots.{Journals}
use Rattle.pa_timeline.specs.Timeline.{Part, Asking, Entering, Swapping, Looking, Loading, Counting, Moment, part_swaps, swap_lines}
use Rattle.pa_timeline.proofs.Kept.{kept_twice}
use Rattle.pa_logs.specs.Told.{ToldRecord, played_in}
use Rattle.pa_logs.specs.Listed.{line_of, IsListOf, AreRising}
use Rattle.pa_logs.specs.Swaps.{SwapMade, is_of_cell, AreSwaps, AreAnswered}
use Rattle.pa_logs.proofs.Listing.{one_record}
use Rattle.pa_step_order.specs.Segments.{part_of}
use Rattle.pa_step_order.proofs.Named.{Named, AreNamed, named_in}
use Rattle.pa_step_order.proofs.Moments.{moment_of, by_phases}
use Rattle.pa_step_order.proofs.Lists.{InPhase, stand_in_phases, phases_keep, kept_by, listed_or, elsewhere}
use Rattle.pa_step_order.proofs.Entered.{line_is}

abbrev swaps : ℕ → Moment → Option ℕ
swaps k m = part_swaps k m.x.line m.x.op m.part

-- only an exchange is kept
quiet : (k line : ℕ) (op : Op) (part : Part) → (part ≡ Swapping → ⊥) → part_swaps k line op part ≡ None
quiet k line (ops.Swap cell reg) Swapping other = absurd (other refl)
quiet k line (ops.Swap cell reg) part other = refl
quiet k line op part other = refl

swapped_line : (k line : ℕ) (op : Op) (part : Part) (u : ℕ) → part_swaps k line op part ≡ Some u → u ≡ line
swapped_line k line (ops.Swap cell reg) Swapping u is = elim (cases_Bool (eqb cell k)) [
  | inl here ↦ sym (of_some line u (rw here at is))
  | inr other ↦ absurd (not_some u (rw other at is))
]
swapped_line k line op part u is = absurd (not_some u is)

module _ (ts : List ToldRecord) (all : List Stamped) (ns : List Named) (are : AreNamed ts all ns) (roots : Journals) (rising : AreRising ts)
    (list : List Made) (cells : ℕ → List CellEntry) (made : List SwapMade)
    (named_list : list ≡ entered_in 5 (map (λ (n : Named). n.entry) ns))
    (is_list : IsListOf 5 list ts) (are_swaps : AreSwaps list cells made) (answered : AreAnswered cells made ts) where
  -- the exchange of an entry is its record's
  swap_of : (n : Named) (m : Made) (s : SwapMade) → Contains ns n → n.entry ≡ Entered 5 m → Contains made s → s.made ≡ m →
      (reg : ℕ) × (n.x.played.op ≡ ops.Swap s.cell reg) × (s.entry.line ≡ n.x.played.line)
  swap_of n m s among same member is =
      let (x, reg, there, line, op) = answered.made s member in
      let of_entry : s.entry.line ≡ n.x.played.line = sym (are_swaps.lines s member) ∙ ap line_of is ∙
      line_is ts all ns are roots 5 list is_list n m among same in
      let one = one_record ts x n.x rising there (named_in ts all ns are n among).0 (line ∙ of_entry) in
      (reg, sym (ap (λ (z : ToldRecord). z.played.op) one) ∙ op, of_entry)

  abbrev lines_with : ℕ → List SwapMade → List ℕ
  lines_with k ss = map (λ (e : CellEntry). e.line) (map (λ (s : SwapMade). s.entry) (filter (is_of_cell k) ss))

  one_swap : (k : ℕ) (n : Named) (s : SwapMade) (reg : ℕ) (ys : List ℕ) (ss : List SwapMade) → n.x.played.op ≡ ops.Swap s.cell reg →
      s.entry.line ≡ n.x.played.line →
      ys ≡ lines_with k ss → cons_option (part_swaps k n.x.played.line n.x.played.op Swapping) ys ≡ lines_with k (s ∷ ss)
  one_swap k n s reg ys ss op line again =
      ap (λ o. cons_option (part_swaps k n.x.played.line o Swapping) ys) op ∙ elim (cases_Bool (eqb s.cell k)) [
        | inl here ↦ rw here (same_cons n.x.played.line s.entry.line ys (lines_with k ss) (sym line) again)
        | inr other ↦ rw other again
      ]

  along : (k : ℕ) (bs : List Named) (ss : List SwapMade) → ((n : Named) → Contains bs n → Contains ns n) →
      ((s : SwapMade) → Contains ss s → Contains made s) →
      entered_in 5 (map (λ (n : Named). n.entry) bs) ≡ map (λ (s : SwapMade). s.made) ss →
      filter_map (λ n. option_and_then (swaps k) (moment_of roots n)) bs ≡ lines_with k ss
  along k [] [] within inside same = refl
  along k [] (s ∷ ss) within inside same = absurd cc
  along k (n ∷ bs) ss within inside same =
      elim (listed_or (swaps k) roots n.x.played n.x.played.answer n.entry
      (quiet k n.x.played.line n.x.played.op Looking (λ e. cc)) (quiet k n.x.played.line n.x.played.op Loading (λ e. cc))
      (quiet k n.x.played.line n.x.played.op Counting (λ e. cc))) [
        | inr (none, no_list) ↦ rw none
            (along k bs ss (λ z among. within z (later_in n z bs among)) inside
            (sym (ap (λ ms. ms ++ entered_in 5 (map (λ (z : Named). z.entry) bs)) (no_list 5)) ∙ same))
        | inl (keeper, m, is) ↦ elim (cases_eq keeper 5) [
          | inr other ↦
              let kept : kept_by (swaps k) n.x.played (part_of roots n.x.played.answer n.entry) ≡ None =
              ap (λ e. kept_by (swaps k) n.x.played (part_of roots n.x.played.answer e)) is
              ∙ elsewhere (swaps k) roots n.x.played keeper m.numbers (λ e. quiet k n.x.played.line n.x.played.op Asking (λ f. cc))
              (λ five. absurd (other five))
              (λ e f. quiet k n.x.played.line n.x.played.op (Entering keeper e.act) (λ g. cc)) in
              let no_list : entry_in 5 n.entry ≡ [] = ap (entry_in 5) is ∙ rw (ne_eqb keeper 5 other) refl in
              rw kept (along k bs ss (λ z among. within z (later_in n z bs among)) inside
              (sym (ap (λ ms. ms ++ entered_in 5 (map (λ (z : Named). z.entry) bs)) no_list) ∙ same))
          | inl five ↦
              let entry : n.entry ≡ Entered 5 m = is ∙ ap (λ q. Entered q m) five in
              let own : m ∷ entered_in 5 (map (λ (z : Named). z.entry) bs) ≡ map (λ (s : SwapMade). s.made) ss =
              sym (ap (λ e. entry_in 5 e ++ entered_in 5 (map (λ (z : Named). z.entry) bs)) entry) ∙ same in
              ap (λ e. cons_option (kept_by (swaps k) n.x.played (part_of roots n.x.played.answer e))
              (filter_map (λ z. option_and_then (swaps k) (moment_of roots z)) bs)) entry
              ∙ first k n bs ss m (within n (first_in n bs)) inside entry own
              (λ us still there. along k bs us (λ z among. within z (later_in n z bs among)) still there)
        ]
      ]
    where
      first : (k : ℕ) (n : Named) (bs : List Named) (ss : List SwapMade) (m : Made) → Contains ns n →
          ((s : SwapMade) → Contains ss s → Contains made s) → n.entry ≡ Entered 5 m →
          m ∷ entered_in 5 (map (λ (z : Named). z.entry) bs) ≡ map (λ (s : SwapMade). s.made) ss →
          ((us : List SwapMade) → ((s : SwapMade) → Contains us s → Contains made s) →
          entered_in 5 (map (λ (z : Named). z.entry) bs) ≡ map (λ (s : SwapMade). s.made) us →
          filter_map (λ z. option_and_then (swaps k) (moment_of roots z)) bs ≡ lines_with k us) →
          cons_option (part_swaps k n.x.played.line n.x.played.op Swapping)
          (filter_map (λ z. option_and_then (swaps k) (moment_of roots z)) bs) ≡ lines_with k ss
      first k n bs [] m among inside entry own again = absurd cc
      first k n bs (s ∷ ss) m among inside entry own again =
          let head : m ≡ s.made = cc in
          let tail : entered_in 5 (map (λ (z : Named). z.entry) bs) ≡ map (λ (u : SwapMade). u.made) ss = cc in
          let (reg, op, line) = swap_of n m s among entry (inside s (first_in s ss)) (sym head) in
          one_swap k n s reg _ ss op line (again ss (λ u there. inside u (later_in s u ss there)) tail)

  pub exchanged : (k : ℕ) → StandInOrder (λ (e : CellEntry). e.line) (played_in ts) (cells k) →
      swap_lines k (by_phases roots ns) ≡ map (λ (e : CellEntry). e.line) (cells k)
  exchanged k order =
      let kept = kept_twice (swaps k) (moment_of roots) ns ∙
      along k ns made (λ n among. among) (λ s among. among) (sym named_list ∙ are_swaps.list_is)
      ∙ sym (ap (map (λ (e : CellEntry). e.line)) (are_swaps.cells_are k)) in
      phases_keep ts all ns are roots (swaps k) (λ l. l) (map (λ (e : CellEntry). e.line) (cells k))
      (λ m u is. swapped_line k m.x.line m.x.op m.part u is) kept
      (pairs_map (λ (e f : CellEntry). InPhase (played_in ts) e.line f.line) (InPhase (played_in ts)) (λ (e : CellEntry). e.line) (cells k)
      (λ e f first second in_phase. in_phase)
      (stand_in_phases (λ (e : CellEntry). e.line) (played_in ts) (cells k) order))
