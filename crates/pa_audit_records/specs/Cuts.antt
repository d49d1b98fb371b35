-- Lists whose members are of phases that rise, and the index at which each phase ends.
use Rattle.std.specs.Prelude.{◌≡◌, ℕ, ◌+◌, ◌<◌, ◌≤◌, List, Some, AllPairs, length, map, slice_get}
use Rattle.pa_rules.specs.declared.played.Played.{Played}

-- what is at each index is as required there
abbrev pub HasEach : {A : Type 0} → (ℕ → A → Type 0) → List A → Type 0
HasEach {A = A} R xs = (i : ℕ) (x : A) → slice_get xs i ≡ Some x → R i x

-- the first `end` are of this phase or of earlier ones
pub record IsLow (phases : List ℕ) (phase end : ℕ) : Type 0 where
  pub within : end ≤ length phases
  pub low : (k n : ℕ) → slice_get phases k ≡ Some n → k < end → n ≤ phase

-- the first `end` are of this phase or of earlier ones, and the others are of later ones
pub record IsCut (phases : List ℕ) (phase end : ℕ) : Type 0 where
  pub front : IsLow phases phase end
  pub high : (k n : ℕ) → slice_get phases k ≡ Some n → end ≤ k → phase < n

-- these are the indices at which phase 1 ends, phase 2, and so on
abbrev pub AreCuts : List ℕ → List ℕ → Type 0
AreCuts phases ends = HasEach (λ i end. IsCut phases (i + 1) end) ends

-- these are the indices at which phase 1 of the records ends, phase 2, and so on
abbrev pub AreRecordCuts : List Played → List ℕ → Type 0
AreRecordCuts ps ends = AreCuts (map (λ (x : Played). x.phase) ps) ends

-- the phases of records rise
abbrev pub RiseByPhase : List Played → Type 0
RiseByPhase ps = AllPairs (λ (x y : Played). x.phase ≤ y.phase) ps
