-- The titles of the slots that are in lists.
use Rattle.std.proofs.Common.{◌≡◌, ℕ, ◌<◌, List, [], ◌∷◌, map, refl, sym, ◌∙◌, ap, subst, inl, inr}
use Rattle.std.specs.Prelude.{Contains}
use Rattle.pa_slot.specs.declared.word.SlotName.{SlotName}
use Rattle.pa_slot.specs.declared.title.Title.{Title}
use Rattle.pa_record.specs.declared.numbered.Numbered.{Numbered}
use Rattle.pa_record.specs.Spans.{name_of}
use Rattle.pa_record.specs.Root.{names}
use Rattle.pa_record.specs.Laws.{times}
use Rattle.pa_lists.proofs.Members.{not_in_none, first_in, later_in, in_cases}
use Rattle.pa_lists.proofs.Joined.{map_cases}
use Rattle.pa_rules.specs.declared.played.Played.{Played}
use Rattle.pa_rules.proofs.Counted.{stands}
use Rattle.pa_rules.proofs.FourPlaces.{times_member}
use Rattle.pa_rules.proofs.Known.{IsKnown, all_known}
use Rattle.pa_one_run.specs.Parts.{Parts}
use Rattle.pa_one_run.proofs.Filed.{IsFiled}
use Rattle.pa_core_run.specs.Moves.{named_in}
use Rattle.pa_core_run.specs.Standing.{Standing}
use Rattle.pa_core_run.specs.Fronts.{MadeIn, IsFrontOf}
use Rattle.pa_core_run.proofs.Named.{HasTitle, made_unique}
use Rattle.pa_core_run.proofs.Bringing.{named_times}

-- the slots in the threads' lists came from fills of their list's partition and class
pub lists_known : (a : Parts) (n : ℕ) (before rest : List Played) (st : Standing) → IsFrontOf a n before rest st → (thread : ℕ) →
    IsKnown a.roots (st.caches thread)
lists_known a n before rest st f =
    all_known a.partitions a.roots before _ st.caches (λ t p c m among. absurd (not_in_none m among)) f.caches

-- the titles of these slots, in their order
pub record AreTitlesOf (a : Parts) (xs : List Numbered) (ts : List Title) : Type 0 where
  pub named : map name_of ts ≡ names xs
  pub made : (t : Title) → Contains ts t → MadeIn a t

pub titles_for : (a : Parts) (xs : List Numbered) → ((m : Numbered) → Contains xs m → HasTitle a m.slot) → (ts : List Title) ×
    AreTitlesOf a xs ts
titles_for a [] titled = ([], record { named = refl; made = λ t among. absurd (not_in_none t among) })
titles_for a (x ∷ xs) titled =
    let (t, made, name) = titled x (first_in x xs) in
    let (ts, are) = titles_for a xs (λ m among. titled m (later_in x m xs among)) in (
      t ∷ ts,
      record {
        named = ap (λ s. s ∷ map name_of ts) name ∙ ap (λ ss. x.slot ∷ ss) are.named;
        made = λ u among. elim (in_cases t u ts among) [ inl same ↦ subst (λ v. MadeIn a v) same made | inr later ↦ are.made u later ];
      },
    )

module _ (a : Parts) (xs : List Numbered) (ts : List Title) (are : AreTitlesOf a xs ts) where
  -- a name is as often that of a title as that of a slot
  pub named_stands : (y : SlotName) → named_in y ts ≡ stands y xs
  named_stands y = named_times y ts ∙ ap (times y) are.named

  -- a made title is among the titles of a list if its slot is in the list
  pub title_among : (u : Title) → IsFiled a → MadeIn a u → 0 < stands (name_of u) xs → Contains ts u
  title_among u h made some =
      let among = times_member (name_of u) (names xs) some in
      let (t, member, name) = map_cases name_of ts (name_of u) (subst (λ ss. Contains ss (name_of u)) (sym are.named) among) in
      subst (λ v. Contains ts v) (made_unique a h t u (are.made t member) made name) member
