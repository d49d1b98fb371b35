-- The entries of a delayed run's journals have a text: what leaves a queue goes back by acts that name slots.
use Rattle.std.proofs.Common.{ℕ, List, [], ◌∷◌, subst, inl, inr}
use Rattle.std.specs.Prelude.{Contains}
use Rattle.std.proofs.lemmas.Bool.{cases_eq, eq-eqb, ne_eqb}
use Rattle.std.proofs.lemmas.List.Elements.{Contains-append_cases}
use Rattle.pa_lists.proofs.Members.{not_in_none}
use Rattle.pa_record.specs.declared.numbered.Numbered.{Numbered}
use Rattle.pa_record.specs.declared.root.RootAct.{RootAct}
use Rattle.pa_record.specs.RunText.{NamesSlots}
use Rattle.pa_rules.specs.declared.played.Played.{Played}
use Rattle.pa_rules.specs.Roots.{Journals}
use Rattle.pa_rules.specs.Caches.{Cache, spilled, purge_acts}
use Rattle.pa_rules.proofs.Batches.{gives_names}
use Rattle.pa_delay.specs.Delayed.{Leaves, AllLeave}
use Rattle.pa_delay.specs.Runs.{AreDelayed}
use Rattle.pa_delay.proofs.RowKinds.{kind_of}
use Rattle.pa_delay.proofs.Listed.{delayed_row}
use Rattle.pa_runner.proofs.Printing.{ActsName, by_row, in_purge}

module _ (roots : Journals) (p : ℕ) (a : RootAct) where
  one_names : (s : Numbered) (cache after : Cache) (acts : ℕ → List RootAct) → Leaves roots s cache acts after → Contains (acts p) a →
      NamesSlots a
  one_names s cache after acts (q, class, of, are, becomes) among =
      let there = subst (λ zs. Contains zs a) (are p) among in
      elim (cases_eq p q) [
        | inl same ↦ gives_names (spilled class (s ∷ cache q class)) a (rw (eq-eqb p q same) at there)
        | inr other ↦ absurd (not_in_none a (rw (ne_eqb p q other) at there))
      ]

  all_name : (ss : List Numbered) (cache after : Cache) (acts : ℕ → List RootAct) → AllLeave roots ss cache acts after →
      Contains (acts p) a → NamesSlots a
  all_name [] cache after acts (none, same) among = absurd (not_in_none a (subst (λ zs. Contains zs a) (none p) among))
  all_name (s ∷ ss) cache after acts (next, first, rest, here, later, joined) among =
      elim (Contains-append_cases (first p) (rest p) a (subst (λ zs. Contains zs a) (joined p) among)) [
        | inl one ↦ one_names s cache next first here one
        | inr more ↦ all_name ss next after rest later more
      ]

pub delayed_acts_name : (bytes partitions : ℕ) (roots : Journals) (ps : List Played) → AreDelayed bytes partitions roots ps →
    ActsName partitions roots ps
delayed_acts_name bytes partitions roots ps delayed x p a member below among =
    let (before, after, known, row) = delayed_row roots bytes partitions ps x delayed member in
    elim (kind_of bytes partitions roots x before after x.answer row) [
      | inl stays ↦ by_row partitions roots x p a among x.answer before.lists after.lists below stays.0
      | inr (inl comes) ↦
          all_name roots p a comes.gone before.lists after.lists comes.acts comes.leave
          (subst (λ zs. Contains zs a) (comes.are p) among)
      | inr (inr (slots, is, (acts, mid, leave, are, count, lists, queue))) ↦
          elim (Contains-append_cases (acts p) (purge_acts (mid p) 0 170) a (subst (λ zs. Contains zs a) (are p below) among)) [
            | inl one ↦ all_name roots p a before.queue before.lists mid acts leave one
            | inr more ↦ in_purge (mid p) 0 170 a more
          ]
    ]
