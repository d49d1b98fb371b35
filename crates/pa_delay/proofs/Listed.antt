-- Along a delayed run the slots in the lists came from fills of their list's partition and class, and the records can be cut.
use Rattle.std.proofs.Common.{ℕ, List, [], ◌∷◌, ◌++◌, refl, subst, inl, inr}
use Rattle.std.specs.Prelude.{Contains}
use Rattle.pa_record.specs.declared.numbered.Numbered.{Numbered}
use Rattle.pa_record.specs.declared.root.RootAct.{RootAct}
use Rattle.pa_lists.proofs.Members.{not_in_none, in_cases}
use Rattle.pa_lists.proofs.Parts.{parts_at}
use Rattle.pa_rules.specs.declared.played.Played.{Played}
use Rattle.pa_rules.specs.Roots.{Journals}
use Rattle.pa_rules.specs.Caches.{Cache, Caches, with_cache, no_caches, IsOfClass, kept}
use Rattle.pa_rules.proofs.Known.{IsKnown, known_same, known_changed, known_with, kept_in, row_known}
use Rattle.pa_delay.specs.Delayed.{Waiting, Queues, with_queue, no_queues, Leaves, AllLeave, DelayedRow, DelayedTo}
use Rattle.pa_delay.specs.Runs.{AreDelayed}
use Rattle.pa_delay.proofs.RowKinds.{kind_of}

-- what a thread has, by its number
abbrev pub thread_has : Caches → Queues → ℕ → Waiting
thread_has all waiting t = record { lists = all t; queue = waiting t }

module _ (roots : Journals) where
  one_known : (s : Numbered) (cache after : Cache) (acts : ℕ → List RootAct) → IsKnown roots cache → Leaves roots s cache acts after →
      IsKnown roots after
  one_known s cache after acts known (p, class, of, are, becomes) =
      known_changed roots cache after p class (kept class (s ∷ cache p class)) known becomes
      (λ n member. elim (in_cases s n (cache p class) (kept_in class (s ∷ cache p class) n member)) [
        | inl e ↦ subst (λ (z : Numbered). IsOfClass roots z.slot p class) e of
        | inr old ↦ known p class n old
      ])

  all_known : (ss : List Numbered) (cache after : Cache) (acts : ℕ → List RootAct) → IsKnown roots cache →
      AllLeave roots ss cache acts after → IsKnown roots after
  all_known [] cache after acts known (none, same) = known_same roots cache after known same
  all_known (s ∷ ss) cache after acts known (next, first, rest, here, later, joined) =
      all_known ss next after rest (one_known s cache next first known here) later

  pub none_known : (t : ℕ) → IsKnown roots (no_caches t)
  none_known t q c n none = absurd (not_in_none n none)

  module _ (bytes partitions : ℕ) where
    -- a row keeps what is known of the lists
    pub row_kept : (x : Played) (before after : Waiting) → IsKnown roots before.lists →
        DelayedRow bytes partitions roots x x.answer before after → IsKnown roots after.lists
    row_kept x before after known row = elim (kind_of bytes partitions roots x before after x.answer row) [
      | inl stays ↦ row_known partitions roots x x.answer before.lists after.lists known stays.0
      | inr (inl comes) ↦ all_known comes.gone before.lists after.lists comes.acts known comes.leave
      | inr (inr purges) ↦ λ q c n among. absurd (not_in_none n (subst (λ xs. Contains xs n) (purges.2.5 q c) among))
    ]

    -- the lists and queues between two parts of some records, and that their slots are known
    pub delayed_cut : (all : Caches) (waiting : Queues) (xs ys : List Played) (after : Caches) (left : Queues) →
        ((t : ℕ) → IsKnown roots (all t)) → DelayedTo bytes partitions roots all waiting (xs ++ ys) after left →
        (mid : Caches) × (there : Queues) × DelayedTo bytes partitions roots all waiting xs mid there
        × DelayedTo bytes partitions roots mid there ys after left × ((t : ℕ) → IsKnown roots (mid t))
    delayed_cut all waiting [] ys after left known to = (all, waiting, (refl, refl), to, known)
    delayed_cut all waiting (x ∷ xs) ys after left known (next, row, to) =
        let (mid, there, front, back, so) =
        delayed_cut (with_cache all x.thread next.lists) (with_queue waiting x.thread next.queue) xs ys after left
        (known_with roots all x.thread next.lists known
        (row_kept x (thread_has all waiting x.thread) next (known x.thread) row)) to in
        (mid, there, (next, row, front), back, so)

    -- the row of a record, and that the slots of its thread's lists are known
    pub delayed_row : (ps : List Played) (x : Played) → AreDelayed bytes partitions roots ps → Contains ps x →
        (before after : Waiting) × IsKnown roots before.lists × DelayedRow bytes partitions roots x x.answer before after
    delayed_row ps x (last, left, to) among =
        let (front, rest, parts) = parts_at ps x among in
        let (mid, there, begins, (next, row, ends), known) =
        delayed_cut no_caches no_queues front (x ∷ rest) last left none_known
        (subst (λ zs. DelayedTo bytes partitions roots no_caches no_queues zs last left) parts to) in
        (thread_has mid there x.thread, next, known x.thread, row)
