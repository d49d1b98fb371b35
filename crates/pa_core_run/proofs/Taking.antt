-- Free titles that come from actor 0 to a thread, and titles that are cut, one after the other: what a fill is in the core.
use Rattle.std.proofs.Common.{◌≡◌, ℕ, ◌+◌, ◌<◌, ◌≤◌, false, List, [], ◌∷◌, refl, sym, subst, arith, inl, inr, ◌==◌, if◌then◌else◌}
use Rattle.std.specs.Prelude.{Contains}
use Rattle.std.proofs.lemmas.Bool.{cases_eq, eq-eqb, ne_eqb}
use Rattle.pa_slot.specs.declared.word.SlotName.{SlotName}
use Rattle.pa_slot.specs.declared.title.Title.{Title}
use Rattle.pa_machine.specs.declared.event.Item.TheVariants.{Free as FreeItem}
use Rattle.pa_machine.specs.declared.event.Event.TheVariants.{Hand}
use Rattle.pa_slot.specs.Holdings.{FreePiece, FreeTitle, OwnOf, RefOf, held_in}
use Rattle.pa_machine.specs.Events.{State, of_actor}
use Rattle.pa_machine.proofs.Parts.{free_none}
use Rattle.pa_machine.proofs.Lasting.{run_start}
use Rattle.pa_machine.proofs.Totals.{of_actor_here, of_actor_apart}
use Rattle.pa_record.specs.Spans.{name_of}
use Rattle.pa_lists.proofs.Members.{first_in, later_in, in_cases, not_in_none}
use Rattle.pa_core_steps.proofs.Exchanging.{none_of}
use Rattle.pa_core_steps.proofs.Joining.{run_join}
use Rattle.pa_rules.specs.Once.{once}
use Rattle.pa_core_run.specs.Ledger.{Ledger, Titles, IsShown, IsPaid}
use Rattle.pa_core_run.specs.Moves.{HaveNames, StandOnce, named_in, asking, IsReached}
use Rattle.pa_core_run.proofs.Showing.{free_pieces}
use Rattle.pa_core_run.proofs.Moving.{keeping, hand_shown, IsHanded}
use Rattle.pa_core_run.proofs.Listing.{free_piece}
use Rattle.pa_core_run.proofs.Batching.{asks_less}
use Rattle.pa_machine.proofs.Holding.{free_title}

-- the titles that actor 0 has for the roots, without these
abbrev pub kept_without : (Title → Type 0) → List Title → Title → Type 0
kept_without K ts u = K u × (Contains ts u → ⊥)

module _ (names : Titles) (actors bytes k : ℕ) (some : 0 < k) (below : k < actors) (unique : HaveNames names.Made) where
  -- one title comes
  one_comes : (b : Ledger) (free : ℕ → SlotName → ℕ) (K : Title → Type 0) (s : State) (t : Title) →
      IsShown (keeping names K) actors bytes b s → names.Made t → K t →
      ((x : SlotName) → free k x ≤ b.free k x + once x (name_of t)) → ((j : ℕ) (x : SlotName) → (j ≡ k → ⊥) → free j x ≤ b.free j x) →
      (after : State) × IsHanded (keeping names (kept_without K (t ∷ []))) actors bytes (asking b free) s 0 k (FreeItem t) false after
  one_comes b free K s t h made has more other =
      let holds = h.kept t has in
      let paid : IsPaid names.Made b (asking b free) (of_actor 0 (FreePiece t ∷ [])) (of_actor k (FreePiece t ∷ [])) t
      (b.word (name_of t)) = record {
        own = λ j u m. let z = none_of 0 j (FreePiece t ∷ []) (OwnOf u) refl in omega arith;
        ref = λ j u m. let z = none_of 0 j (FreePiece t ∷ []) (RefOf u) refl in omega arith;
        free = λ j u up m. elim (cases_eq j k) [
          | inl e ↦
              let a = more (name_of u) in
              let l = of_actor_apart 0 k (FreePiece t ∷ []) (FreeTitle u) (λ z. omega arith) in
              let g = of_actor_here k (FreePiece t ∷ []) (FreeTitle u) in
              let p = free_piece names.Made t u unique made m in
              subst (λ i. free i (name_of u) + held_in (of_actor 0 (FreePiece t ∷ []) i) (FreeTitle u) ≤ b.free i (name_of u) + held_in
              (of_actor k (FreePiece t ∷ []) i) (FreeTitle u)) (sym e) (omega arith)
          | inr ne ↦ let a = other j (name_of u) ne in let l = of_actor_apart 0 j (FreePiece t ∷ []) (FreeTitle u) (λ z. omega arith) in
              omega arith
        ];
        word_left = refl;
        words = λ x ne. refl;
        contents = λ x ne. refl;
      } in
      hand_shown (keeping names K) (kept_without K (t ∷ [])) actors bytes b (asking b free) s 0 k (FreeItem t) false t h
      (omega arith) below holds tt
      (free_title s 0 t holds) (free_pieces names.plain t) paid refl
      (λ u kept.
      let l = of_actor_here 0 (FreePiece t ∷ []) (FreeTitle u) in
      let none = (free_none t u (λ e. kept.1 (subst (λ (v : Title). Contains (t ∷ []) v) e (first_in t [])))).free in
      let had = h.kept u kept.0 in
      omega arith)

  -- a batch comes, title by title
  pub batch_comes : (ts : List Title) (b : Ledger) (later : ℕ → SlotName → ℕ) (K : Title → Type 0) (s : State)
      → IsShown (keeping names K) actors bytes b s → ((t : Title) → Contains ts t → names.Made t × K t) → StandOnce ts →
      ((x : SlotName) → later k x ≤ b.free k x + named_in x ts) → ((j : ℕ) (x : SlotName) → (j ≡ k → ⊥) → later j x ≤ b.free j x) →
      (after : State) × IsReached (keeping names (kept_without K ts)) actors bytes (asking b later) s k after
  batch_comes [] b later K s h made alone mine other = (
    s,
    record {
      events = [];
      run = run_start s h.good;
      beside = tt;
      shown = asks_less names actors bytes k some below unique b later K (kept_without K []) s h (λ j x. elim (cases_eq j k) [
        | inl e ↦ let a = mine x in subst (λ i. later i x ≤ b.free i x) (sym e) (omega arith)
        | inr ne ↦ other j x ne
      ]) (λ u kept. kept.0);
    },
  )
  batch_comes (t ∷ ts) b later K s h made alone mine other =
      let free : ℕ → SlotName → ℕ = λ j x. if j == k then b.free k x + once x (name_of t) else b.free j x in
      let here : (x : SlotName) → free k x ≡ b.free k x + once x (name_of t) = λ x. rw (eq-eqb k k refl) refl in
      let there : (j : ℕ) (x : SlotName) → (j ≡ k → ⊥) → free j x ≡ b.free j x = λ j x ne. rw (ne_eqb j k ne) refl in
      let it = made t (first_in t ts) in
      let first = one_comes b free K s t h it.0 it.1 (λ x. let e = here x in omega arith) (λ j x ne. let e = there j x ne in omega arith) in
      let rest = batch_comes ts (asking b free) later (kept_without K (t ∷ [])) first.0 first.1.shown
      (λ u member. (
        (made u (later_in t u ts member)).0,
        (
          (made u (later_in t u ts member)).1,
          λ one. elim (in_cases t u [] one) [
            | inl same ↦ alone.0 (subst (λ (v : Title). Contains ts v) (sym same) member)
            | inr gone ↦ not_in_none u gone
          ],
        ),
      ))
      alone.1 (λ x. let e = here x in let a = mine x in omega arith)
      (λ j x ne. let e = there j x ne in let a = other j x ne in omega arith) in (
        rest.0,
        record {
          events = Hand 0 k (FreeItem t) ∷ rest.1.events;
          run = run_join s first.0 rest.0 (Hand 0 k (FreeItem t) ∷ []) rest.1.events h.good first.1.run rest.1.run;
          beside = ((inl refl, inr refl), rest.1.beside);
          shown = asks_less names actors bytes k some below unique (asking b later) later (kept_without (kept_without K (t ∷ [])) ts)
              (kept_without K (t ∷ ts)) rest.0 rest.1.shown (λ j x. omega arith)
              (λ u kept. (
                (
                  kept.0,
                  λ one. elim (in_cases t u [] one) [
                    | inl same ↦ kept.1 (subst (λ (v : Title). Contains (t ∷ ts) v) same (first_in t ts))
                    | inr gone ↦ not_in_none u gone
                  ],
                ),
                λ member. kept.1 (later_in t u ts member),
              ));
        },
      )
