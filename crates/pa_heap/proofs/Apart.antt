-- Titles that a seat has free and on no list, over the parts of an op.
use Rattle.std.proofs.Common.{◌≡◌, ℕ, ◌*◌, ◌<◌, List, ◌∷◌, length, sym, ◌∙◌, subst, inl, inr}
use Rattle.std.specs.Prelude.{Contains}
use Rattle.pa_slot.specs.declared.title.Title.{Title}
use Rattle.pa_lists.proofs.Members.{in_cases}
use Rattle.pa_region.specs.Views.{seen_of}
use Rattle.pa_rules.specs.Sizes.{HasClass, class_total}
use Rattle.pa_op_specs.specs.Stocks.{StockValue, WorkerLists, titles_in}
use Rattle.pa_op_specs.specs.Plays.{IsApart, KeepsApart}
use Rattle.pa_thread_state.specs.Allocating.{with_listed}
use Rattle.pa_thread_state.specs.Changes.{put_in_front}
use Rattle.pa_thread_state.proofs.Relisting.{listed_from}

-- each title but this one that was free and on no list is so still, at the number that the seat had seen
abbrev pub KeepsOthers : Title → (before after : StockValue) → Type 0
KeepsOthers t before after =
    (u : Title) → (t ≡ u → ⊥) → IsApart u before → IsApart u after × (seen_of after.view u ≡ seen_of before.view u)

-- one part of an op, and then another that keeps all but a title that wasn't free before the op, or was on a list
pub apart_both : (t : Title) (s mid after : StockValue) → KeepsApart s mid → KeepsOthers t mid after → (IsApart t s → ⊥) →
    KeepsApart s after
apart_both t s mid after first second lacks u alone =
    let (still, same) = first u alone in
    let (later, again) = second u (λ e. lacks (subst (λ x. IsApart x s) (sym e) alone)) still in
    (later, again ∙ same)

-- a title on no list is on none after a list was set that hasn't it
pub set_off : (caches : WorkerLists) (p c : ℕ) (ts : List Title) (u : Title) → p < 4 → HasClass caches.version c →
    length caches.lists ≡ 4 * class_total caches.version → (Contains ts u → ⊥) →
    ((q d : ℕ) → Contains (titles_in caches q d) u → ⊥) → (q d : ℕ) → Contains (titles_in (with_listed p c ts caches) q d) u → ⊥
set_off caches p c ts u low real long other off q d among = elim (listed_from caches p c ts u q d low real long among) [
  | inl here ↦ other here.2
  | inr there ↦ off q d there
]

-- nor after another title was put at the front of a list
pub front_off : (caches : WorkerLists) (p c : ℕ) (t u : Title) → p < 4 → HasClass caches.version c →
    length caches.lists ≡ 4 * class_total caches.version → (t ≡ u → ⊥) →
    ((q d : ℕ) → Contains (titles_in caches q d) u → ⊥) → (q d : ℕ) → Contains (titles_in (put_in_front p c t caches) q d) u → ⊥
front_off caches p c t u low real long other off =
    set_off caches p c (t ∷ titles_in caches p c) u low real long
    (λ among. elim (in_cases t u (titles_in caches p c) among) [ inl same ↦ other same | inr later ↦ off p c later ]) off
