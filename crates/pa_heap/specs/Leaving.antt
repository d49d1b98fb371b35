-- Slots that leave a worker's queue for its lists.
use Rattle.std.specs.Prelude.{◌≡◌, ◌≢◌, ℕ, ◌<◌, ◌⊎◌, List, [], ◌∷◌, ◌++◌, length, Some, Contains}
use Rattle.pa_rules.specs.Sizes.{HasClass}
use Rattle.pa_cells.specs.declared.handle.Handle.{Handle}
use Rattle.pa_delay.specs.Queue.{QueueList, GoesPast, AreBytes}
use Rattle.pa_op_specs.specs.Stocks.{StockValue, IsStock}
use Rattle.pa_thread_state.specs.Changes.{IsBack}
use Rattle.pa_thread_state.specs.Releasing.{IsBroughtBack}

-- A free slot that was on no list was brought where it belongs. The thread state is sound then.
pub record WentBack (line : ℕ) (h : Handle) (before after : StockValue) : Type 0 where
  pub free : IsBack h before
  pub brought : IsBroughtBack line h before after
  pub stock : IsStock after

-- these slots came back, one after the other
abbrev pub AllWentBack : (line : ℕ) → List Handle → (before after : StockValue) → Type 0
AllWentBack line [] before after = after ≡ before
AllWentBack line (h ∷ hs) before after = (next : StockValue) × WentBack line h before next × AllWentBack line hs next after

-- A slot that a step returned came to the back of the queue, and so much of the front as the limit asks for came back.
pub record WaitsBehind (line : ℕ) (h : Handle) (queue rest : QueueList) (before after : StockValue) : Type 0 where
  pub class : ℕ
  pub class_is : h.class ≡ Some class
  pub real : HasClass before.caches.version class
  pub gone : List Handle
  pub past : GoesPast AreBytes queue.limit (queue.slots ++ h ∷ []) gone rest.slots
  pub back : AllWentBack line gone before after

-- A slot that is of no class of the run's version, as that of a direct map, came back at once, and the queue is as it was.
pub record ComesAtOnce (line : ℕ) (h : Handle) (queue rest : QueueList) (before after : StockValue) : Type 0 where
  pub none : (class : ℕ) → h.class ≡ Some class → HasClass before.caches.version class → ⊥
  pub back : WentBack line h before after
  pub stays : rest ≡ queue

-- what becomes of a slot that a step returned, if returned slots wait
abbrev pub IsDelayed : (line : ℕ) → Handle → (queue rest : QueueList) → (before after : StockValue) → Type 0
IsDelayed line h queue rest before after = WaitsBehind line h queue rest before after ⊎ ComesAtOnce line h queue rest before after

-- A slot that comes to the queue: it is free, on no list and seen made, there is room for it, and it isn't there yet.
pub record CanComeBehind (h : Handle) (queue : QueueList) (s : StockValue) : Type 0 where
  pub back : IsBack h s
  pub room : length queue.slots < queue.room
  pub new : (g : Handle) → Contains queue.slots g → g.title ≢ h.title
