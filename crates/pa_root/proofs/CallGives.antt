-- A give as a call: the seat that took the note holds its titles free, at the numbers that the note had seen.
use Rattle.std.proofs.Common.{◌≡◌, ℕ, ◌+◌, ◌<◌, List, [], ◌∷◌, length, refl, ◌∙◌, ap, subst, arith}
use Rattle.std.specs.Prelude.{◌≢◌, AllPairs, Contains}
use Rattle.pa_slot.specs.declared.title.Title.{Title}
use Rattle.pa_region.specs.declared.view.View.{View}
use Rattle.pa_region.specs.Views.{free_of, seen_of}
use Rattle.pa_region.specs.Hands.{united}
use Rattle.pa_region.specs.Aware.{IsAware}
use Rattle.pa_region.proofs.TakeLaws.{right_number}
use Rattle.pa_record.specs.declared.numbered.Numbered.{Numbered}
use Rattle.pa_root.specs.Keeping.{RootState, IsRootSound}
use Rattle.pa_root.specs.Handing.{HasOnly, HasSeenFill, at_number_seen, numbered_by}
use Rattle.pa_root.specs.Giving.{CanComeBack}
use Rattle.pa_lists.proofs.Members.{first_in, later_in}
use Rattle.pa_root.proofs.Together.{free_both}
use Rattle.pa_root.proofs.Whole.{made_is_whole}
use Rattle.pa_root.proofs.Giving.{was_made, good}

-- the note's titles are free in the two together
pub free_there : (v w : View) (titles : List Title) → HasOnly titles w → (t : Title) → Contains titles t → 0 < free_of (united v w) t
free_there v w titles has t among = let here = (has.frees t).1 among in let e = free_both v w t in omega arith

-- equal numbers mean the same
pub same_numbers : (v w : View) (ts : List Title) → ((t : Title) → Contains ts t → seen_of v t ≡ seen_of w t) →
    numbered_by v ts ≡ numbered_by w ts
same_numbers v w [] same = refl
same_numbers v w (t ∷ ts) same =
    let here : at_number_seen v t ≡ at_number_seen w t =
    ap (λ (n : ℕ). record (at_number_seen w t) { number = n }) (same t (first_in t ts)) in
    let rest = same_numbers v w ts (λ u among. same u (later_in t u ts among)) in
    ap (λ (x : Numbered). x ∷ numbered_by v ts) here ∙ ap (λ xs. at_number_seen w t ∷ xs) rest

-- the titles are named with the note's numbers
pub numbers_came : (p : ℕ) (s : RootState) (w : View) (titles : List Title) → CanComeBack p s w titles →
    numbered_by (united s.view w) titles ≡ numbered_by w titles
numbers_came p s w titles can =
    same_numbers (united s.view w) w titles (λ t among.
    right_number s.view w (t.start + t.len) t can.note_aware can.both_aware can.long
    (made_is_whole s.root t (good p s w titles can) (was_made p s w titles can t among)) ((can.has.frees t).1 among))

-- what a give asks, put together
pub can_come : (p : ℕ) (s : RootState) (w x : View) (titles : List Title) → IsRootSound p s → IsAware s.view → IsAware w → IsAware x →
    x ≡ united s.view w → length s.view.words ≡ length w.words → HasOnly titles w → AllPairs ◌≢◌ titles →
    ((t : Title) → Contains titles t → HasSeenFill p w t) → CanComeBack p s w titles
can_come p s w x titles sound aware note_aware both e long has once named =
    record {
      sound = sound;
      aware = aware;
      note_aware = note_aware;
      both_aware = subst (λ y. IsAware y) e both;
      long = long;
      has = has;
      once = once;
      named = named;
    }
