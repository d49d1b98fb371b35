-- The entries of journals and of the pool are in order, as those of the lists do.
use Rattle.std.proofs.Common.{◌≡◌, ℕ, zero, suc, ◌<◌, List, [], ◌∷◌, map, slice_get, Some, refl, sym, ◌∙◌, ap}
use Rattle.std.specs.Prelude.{Contains}
use Rattle.pa_record.specs.declared.root.RootEntry.{RootEntry}
use Rattle.pa_record.specs.declared.pool.PoolEntry.{PoolEntry}
use Rattle.pa_record.specs.Numbers.{root_numbers, pool_numbers}
use Rattle.pa_lists.proofs.Members.{of_some}
use Rattle.pa_region.specs.declared.view.Made.{Made}
use Rattle.pa_rules.specs.Order.{StandsBefore}
use Rattle.pa_logs.specs.Told.{ToldRecord}
use Rattle.pa_logs.specs.Listed.{first_of, IsListOf, AreRising, HasCuts, OrdersFollow}
use Rattle.pa_logs.proofs.Listing.{entries_in_order}

-- the entry of a list at a place, by its numbers
pub place_in : {A : Type 0} (numbers : A → List ℕ) (list : List Made) (es : List A) (i : ℕ) (e : A) →
    map (λ (m : Made). m.numbers) list ≡ map numbers es → slice_get es i ≡ Some e →
    (m : Made) × (slice_get list i ≡ Some m) × (m.numbers ≡ numbers e)
place_in numbers list [] i e same at_i = absurd cc
place_in numbers [] (f ∷ es) i e same at_i = absurd cc
place_in numbers (m ∷ ms) (f ∷ es) zero e same at_i =
    let head : m.numbers ≡ numbers f = cc in
    (m, refl, head ∙ ap numbers (of_some f e at_i))
place_in numbers (m ∷ ms) (f ∷ es) (suc i) e same at_i =
    let tail : map (λ (n : Made). n.numbers) ms ≡ map numbers es = cc in
    place_in numbers ms es i e tail at_i

in_order : {A : Type 0} (numbers : A → List ℕ) (line : A → ℕ) (q : ℕ) (list : List Made) (es : List A) (ts : List ToldRecord)
    (x y : ToldRecord) (i j : ℕ) (e f : A) →
    ((a : A) → first_of (numbers a) ≡ line a) → IsListOf q list ts → HasCuts q list ts → AreRising ts →
    map (λ (m : Made). m.numbers) list ≡ map numbers es →
    Contains ts x → Contains ts y → slice_get es i ≡ Some e → slice_get es j ≡ Some f → x.played.line ≡ line e → y.played.line ≡ line f →
    StandsBefore x.played y.played → i < j
in_order numbers line q list es ts x y i j e f first is cuts rising same among member at_i at_j on on' before =
    let (m, here, m_is) = place_in numbers list es i e same at_i in
    let (n, there, n_is) = place_in numbers list es j f same at_j in
    entries_in_order q list ts x y i j m n is cuts rising among member here there
    (ap first_of m_is ∙ (first e ∙ sym on)) (ap first_of n_is ∙ (first f ∙ sym on')) before

pub orders_follow : OrdersFollow
orders_follow = record {
  journal = λ p list journal ts x y i j e f is cuts rising same among member at_i at_j on on' before.
      in_order root_numbers (λ (z : RootEntry). z.line) p list journal ts x y i j e f
      (λ a. refl) is cuts rising same among member at_i at_j on on' before;
  pool = λ list pools ts x y i j e f is cuts rising same among member at_i at_j on on' before.
      in_order pool_numbers (λ (z : PoolEntry). z.line) 4 list pools ts x y i j e f
      (λ a. refl) is cuts rising same among member at_i at_j on on' before;
}
