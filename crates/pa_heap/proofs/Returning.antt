-- A slot that a reset or a free returned to the front of its list: what the op says then.
use Rattle.std.proofs.Common.{◌≡◌, ℕ, ◌<◌, ◌≤◌, Bool, true, false, List, [], ◌∷◌, length, refl, sym, ◌∙◌, ap, arith, inl, inr}
use Rattle.std.specs.Prelude.{nat_lt}
use Rattle.std.proofs.lemmas.Bool.Decides.{nat_tests}
use Rattle.pa_slot.specs.declared.title.Title.{Title}
use Rattle.pa_buckets.specs.Bands.{limit_of}
use Rattle.pa_record.specs.declared.numbered.Numbered.{Numbered}
use Rattle.pa_record.specs.Spans.{name_of}
use Rattle.pa_region.specs.declared.view.View.{View}
use Rattle.pa_region.specs.Views.{free_of, seen_of}
use Rattle.pa_rules.specs.Caches.{SameLists, with_list, kept, spilled}
use Rattle.pa_root.specs.Handing.{numbered_by}
use Rattle.pa_rules.specs.Sizes.{HasClass}
use Rattle.pa_op_specs.specs.Stocks.{StockRegister, StockValue, IsStock, titles_in, listed_in}
use Rattle.pa_thread_state.specs.Changes.{put_in_front}
use Rattle.pa_thread_state.proofs.Fronting.{front_cases}
use Rattle.pa_op_specs.proofs.Quiet.{same_titles}
use Rattle.pa_thread_state.proofs.Fronts.{front_list}

-- within the limit a list stays whole
pub stays_whole : (c : ℕ) (xs : List Numbered) → length xs ≤ limit_of c → (kept c xs ≡ xs) × (spilled c xs ≡ [])
stays_whole c xs few = go (nat_lt (limit_of c) (length xs)) refl
  where
    go : (b : Bool) → nat_lt (limit_of c) (length xs) ≡ b → (kept c xs ≡ xs) × (spilled c xs ≡ [])
    go true is = absurd (let over : limit_of c < length xs = grind (arith, nat_tests) in omega arith)
    go false is = (rw is refl, rw is refl)

-- The lists afterwards, if the seat has seen this number of the title and no other number of the titles that were listed.
pub front_lists : (s : StockValue) (w : View) (rs : List StockRegister) (p c n : ℕ) (t : Title) → IsStock s →
    p < 4 → HasClass s.caches.version c →
    ((u : Title) → 0 < free_of s.view u → seen_of w u ≡ seen_of s.view u) → seen_of w t ≡ n →
    SameLists (listed_in (record s { view = w; registers = rs; caches = put_in_front p c t s.caches }))
    (with_list (listed_in s) p c (record { slot = name_of t; number = n } ∷ listed_in s p c))
front_lists s w rs p c n t is low small numbers seen q d = elim (front_cases s.caches p c t q d low small is.lists.count) [
  | inl h ↦ elim (front_list (listed_in s) p c q d (record { slot = name_of t; number = n } ∷ listed_in s p c)) [
    | inl y ↦ ap (numbered_by w) h.2 ∙ (front ∙ sym y.2)
    | inr none ↦ absurd (none.0 (h.0, h.1))
  ]
  | inr h ↦ elim (front_list (listed_in s) p c q d (record { slot = name_of t; number = n } ∷ listed_in s p c)) [
    | inl y ↦ absurd (h.0 (y.0, y.1))
    | inr none ↦ ap (numbered_by w) h.1 ∙
        (same_titles s.view w (titles_in s.caches q d) (λ u among. numbers u (is.lists.free q d u among)) ∙ sym none.1)
  ]
]
  where
    front : numbered_by w (t ∷ titles_in s.caches p c) ≡ record { slot = name_of t; number = n } ∷ listed_in s p c
    front = ap (λ m. record { slot = name_of t; number = m } ∷ numbered_by w (titles_in s.caches p c)) seen
        ∙ ap (λ ms. record { slot = name_of t; number = n } ∷ ms)
        (same_titles s.view w (titles_in s.caches p c) (λ u among. numbers u (is.lists.free p c u among)))
