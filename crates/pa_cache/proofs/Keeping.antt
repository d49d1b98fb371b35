-- What a seat knows of titles that it holds free, and what comes out of a list.
use Rattle.std.proofs.Common.{◌≡◌, ℕ, ◌<◌, ◌≤◌, List, [], ◌∷◌, ◌++◌, length, take, drop, get_or, sym, ap, arith, Option, Some, None}
use Rattle.std.specs.Prelude.{All, IfSome, ◌↔◌}
use Rattle.std.specs.Option.{option_to_list}
use Rattle.std.proofs.lemmas.List.{length-take, length-drop, drop_all}
use Rattle.std.proofs.lemmas.List.Elements.{All-head, All-same}
use Rattle.pa_slot.specs.declared.title.Title.{Title}
use Rattle.pa_region.specs.declared.view.View.{View}
use Rattle.pa_region.specs.Views.{free_of}
use Rattle.pa_region.specs.Aware.{IsAware}
use Rattle.pa_cache.specs.Caches.{HoldsFree, IsFreeAtItsNumber, batch_after}

-- what holds of all holds of the front
pub front_has : (P : Title → Type 0) (front : Option Title) (ts rest : List Title) → ts ≡ option_to_list front ++ rest → All P ts →
    IfSome front P
front_has P None ts rest is all = tt
front_has P (Some t) ts rest is all = All-head P t rest (All-same P (t ∷ rest) ts (sym is) all)

-- a title that a seat holds free it holds once, and has seen its number
at_its_number : (v : View) (t : Title) → IsAware v → 0 < free_of v t → IsFreeAtItsNumber v t
at_its_number v t aware free = record { once = let o = aware.free_once t in omega arith; number = aware.free_seen t free }

pub at_their_numbers : (v : View) (ts : List Title) → IsAware v → HoldsFree v ts → All (IsFreeAtItsNumber v) ts
at_their_numbers v ts aware free = λ k d within. at_its_number v (get_or ts k d) aware (free k d within)

-- a batch is empty if and only if no title is after the first `keep`
pub none_behind : (keep : ℕ) (ts : List Title) → (batch_after keep ts ≡ []) ↔ (length ts ≤ keep)
none_behind keep ts = (
  (λ empty. let e : length (take 16 (drop keep ts)) ≡ 0 = ap length empty in
      omega (arith, length-take 16 (drop keep ts), length-drop keep ts)),
  (λ short. ap (take 16) (drop_all keep ts short)),
)
