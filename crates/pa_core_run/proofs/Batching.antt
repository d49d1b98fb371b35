-- Free titles that go from a thread to actor 0, one after the other: what a batch that goes back is in the core.
use Rattle.std.proofs.Common.{◌≡◌, ℕ, ◌+◌, ◌<◌, ◌≤◌, false, List, [], ◌∷◌, refl, sym, ap, subst, arith, ◌⊎◌, inl, inr, ◌==◌, if◌then◌else◌}
use Rattle.std.specs.Prelude.{Contains}
use Rattle.std.proofs.lemmas.Bool.{cases_eq, eq-eqb, ne_eqb}
use Rattle.pa_slot.proofs.Runs.{same_slot_yes}
use Rattle.pa_slot.specs.declared.word.SlotName.{SlotName}
use Rattle.pa_slot.specs.declared.title.Title.{Title}
use Rattle.pa_machine.specs.declared.event.Item.TheVariants.{Free as FreeItem}
use Rattle.pa_machine.specs.declared.event.Event.TheVariants.{Hand}
use Rattle.pa_slot.specs.Holdings.{FreePiece, FreeTitle, OwnOf, RefOf, held_in}
use Rattle.pa_machine.specs.Events.{State, Holds, of_actor}
use Rattle.pa_machine.proofs.Amounts.{free_self}
use Rattle.pa_machine.proofs.Lasting.{run_start}
use Rattle.pa_machine.proofs.Totals.{of_actor_here, of_actor_apart}
use Rattle.pa_record.specs.Spans.{name_of}
use Rattle.pa_lists.proofs.Members.{first_in, later_in, in_cases, not_in_none}
use Rattle.pa_core_steps.proofs.Exchanging.{none_of}
use Rattle.pa_core_steps.proofs.Joining.{run_join}
use Rattle.pa_rules.specs.Once.{once}
use Rattle.pa_core_run.specs.Ledger.{Ledger, Titles, IsShown, IsPaid}
use Rattle.pa_core_run.specs.Moves.{HaveNames, named_in, asking, IsReached}
use Rattle.pa_core_run.proofs.Showing.{free_pieces}
use Rattle.pa_core_run.proofs.Moving.{keeping, hand_shown, IsHanded}
use Rattle.pa_core_run.proofs.Listing.{free_piece}
use Rattle.pa_machine.proofs.Holding.{free_title}

-- the titles that actor 0 has for the roots, with these
abbrev pub kept_with : (Title → Type 0) → List Title → Title → Type 0
kept_with K ts u = K u ⊎ Contains ts u

module _ (names : Titles) (actors bytes k : ℕ) (some : 0 < k) (below : k < actors) (unique : HaveNames names.Made) where
  -- no title goes: a ledger that asks no more is shown
  pub asks_less : (b : Ledger) (free : ℕ → SlotName → ℕ) (K L : Title → Type 0) (s : State) → IsShown (keeping names K) actors bytes b s
      → ((j : ℕ) (x : SlotName) → free j x ≤ b.free j x) → ((u : Title) → L u → K u) →
      IsShown (keeping names L) actors bytes (asking b free) s
  asks_less b free K L s h less fewer = record {
    good = h.good;
    many = h.many;
    long = h.long;
    own = h.own;
    ref = h.ref;
    free = λ j t up low made. let a = h.free j t up low made in let e = less j (name_of t) in omega arith;
    kept = λ u kept. h.kept u (fewer u kept);
    words = h.words;
    contents = h.contents;
    clean = h.clean;
    sealed = h.sealed;
    raw = h.raw;
    there = h.there;
  }

  -- one title goes
  one_goes : (b : Ledger) (free : ℕ → SlotName → ℕ) (K : Title → Type 0) (s : State) (t : Title) →
      IsShown (keeping names K) actors bytes b s → names.Made t → Holds s k (FreeTitle t) →
      ((x : SlotName) → free k x + once x (name_of t) ≤ b.free k x) → ((j : ℕ) (x : SlotName) → (j ≡ k → ⊥) → free j x ≤ b.free j x) →
      (after : State) × IsHanded (keeping names (kept_with K (t ∷ []))) actors bytes (asking b free) s k 0 (FreeItem t) false after
  one_goes b free K s t h made has less other =
      let paid : IsPaid names.Made b (asking b free) (of_actor k (FreePiece t ∷ [])) (of_actor 0 (FreePiece t ∷ [])) t
      (b.word (name_of t)) = record {
        own = λ j u m. let z = none_of k j (FreePiece t ∷ []) (OwnOf u) refl in omega arith;
        ref = λ j u m. let z = none_of k j (FreePiece t ∷ []) (RefOf u) refl in omega arith;
        free = λ j u up m. elim (cases_eq j k) [
          | inl e ↦
              let a = less (name_of u) in
              let l = of_actor_here k (FreePiece t ∷ []) (FreeTitle u) in
              let p = free_piece names.Made t u unique made m in
              subst (λ i. free i (name_of u) + held_in (of_actor k (FreePiece t ∷ []) i) (FreeTitle u) ≤ b.free i (name_of u) + held_in
              (of_actor 0 (FreePiece t ∷ []) i) (FreeTitle u)) (sym e) (omega arith)
          | inr ne ↦ let a = other j (name_of u) ne in let l = of_actor_apart k j (FreePiece t ∷ []) (FreeTitle u) ne in omega arith
        ];
        word_left = refl;
        words = λ x ne. refl;
        contents = λ x ne. refl;
      } in
      hand_shown (keeping names K) (kept_with K (t ∷ [])) actors bytes b (asking b free) s k 0 (FreeItem t) false t h below
      (omega arith) has tt
      (free_title s k t has) (free_pieces names.plain t) paid refl
      (λ u kept.
      let l = of_actor_apart k 0 (FreePiece t ∷ []) (FreeTitle u) (λ z. omega arith) in
      let g = of_actor_here 0 (FreePiece t ∷ []) (FreeTitle u) in
      elim kept [
        | inl old ↦ let had = h.kept u old in omega arith
        | inr new ↦ elim (in_cases t u [] new) [
          | inl same ↦ let one = free_self t in let e = ap (λ (v : Title). held_in (FreePiece t ∷ []) (FreeTitle v)) same in omega arith
          | inr gone ↦ absurd (not_in_none u gone)
        ]
      ])

  -- a batch goes, title by title
  pub batch_goes : (ts : List Title) (b : Ledger) (rest : ℕ → SlotName → ℕ) (K : Title → Type 0) (s : State)
      → IsShown (keeping names K) actors bytes b s → ((t : Title) → Contains ts t → names.Made t) →
      ((x : SlotName) → rest k x + named_in x ts ≤ b.free k x) → ((j : ℕ) (x : SlotName) → (j ≡ k → ⊥) → rest j x ≤ b.free j x) →
      (after : State) × IsReached (keeping names (kept_with K ts)) actors bytes (asking b rest) s k after
  batch_goes [] b rest K s h made mine other = (
    s,
    record {
      events = [];
      run = run_start s h.good;
      beside = tt;
      shown = asks_less b rest K (kept_with K []) s h (λ j x. elim (cases_eq j k) [
        | inl e ↦ let a = mine x in subst (λ i. rest i x ≤ b.free i x) (sym e) (omega arith)
        | inr ne ↦ other j x ne
      ]) (λ u kept. elim kept [ inl old ↦ old | inr new ↦ absurd (not_in_none u new) ]);
    },
  )
  batch_goes (t ∷ ts) b rest K s h made mine other =
      let free : ℕ → SlotName → ℕ = λ j x. if j == k then rest k x + named_in x ts else rest j x in
      let here : (x : SlotName) → free k x ≡ rest k x + named_in x ts = λ x. rw (eq-eqb k k refl) refl in
      let there : (j : ℕ) (x : SlotName) → (j ≡ k → ⊥) → free j x ≡ rest j x = λ j x ne. rw (ne_eqb j k ne) refl in
      let it = made t (first_in t ts) in
      let one : once (name_of t) (name_of t) ≡ 1 = rw (same_slot_yes (name_of t) (name_of t) refl) refl in
      let all = h.free k t some below it in
      let need = mine (name_of t) in
      let first = one_goes b free K s t h it (omega arith) (λ x. let e = here x in let a = mine x in omega arith)
      (λ j x ne. let e = there j x ne in let a = other j x ne in omega arith) in
      let more = batch_goes ts (asking b free) rest (kept_with K (t ∷ [])) first.0 first.1.shown
      (λ u member. made u (later_in t u ts member)) (λ x. let e = here x in omega arith)
      (λ j x ne. let e = there j x ne in omega arith) in (
        more.0,
        record {
          events = Hand k 0 (FreeItem t) ∷ more.1.events;
          run = run_join s first.0 more.0 (Hand k 0 (FreeItem t) ∷ []) more.1.events h.good first.1.run more.1.run;
          beside = ((inr refl, inl refl), more.1.beside);
          shown = asks_less (asking b rest) rest (kept_with (kept_with K (t ∷ [])) ts) (kept_with K (t ∷ ts)) more.0 more.1.shown
              (λ j x. omega arith)
              (λ u kept. elim kept [
                | inl old ↦ inl (inl old)
                | inr new ↦ elim (in_cases t u ts new) [
                  | inl same ↦
                      inl (inr (subst (λ (v : Title). Contains (t ∷ []) v) same (first_in t [])))
                  | inr later ↦ inr later
                ]
              ]);
        },
      )
