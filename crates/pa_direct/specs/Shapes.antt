-- The shape of a direct map.
use Rattle.std.specs.Prelude.{◌≡◌, ℕ, ◌+◌, ◌-◌, ◌*◌, ◌/◌, ◌%◌, ◌<◌, ◌≤◌}
use Rattle.pa_layout.specs.Limits.{most_supers}
use Rattle.pa_layout.specs.Pages.{supers_for}
use Rattle.pa_direct.specs.declared.maps.Shape.{Shape}

-- a / b, rounded up
abbrev pub quotient_up : ℕ → ℕ → ℕ
quotient_up a b = (a + (b - 1)) / b

-- the slot of a raw size: rounded up to a multiple of 4,096
abbrev pub slot_for : ℕ → ℕ
slot_for raw = 4096 * quotient_up raw 4096

-- the direct map of a request of that many bytes, with 8 more for the count word
abbrev pub shape_of : ℕ → Shape
shape_of size = record { slot = slot_for (size + 8); supers = supers_for (slot_for (size + 8)) }

-- the greatest request that is served, in bytes
abbrev pub greatest_size : ℕ
greatest_size = 33521656

-- the greatest request that a class serves, in bytes
abbrev pub greatest_in_class : ℕ
greatest_in_class = 917496

-- a request for a direct map: too large for a class, and not too large for the region
abbrev pub IsDirectSize : ℕ → Type 0
IsDirectSize size = (greatest_in_class < size) × (size ≤ greatest_size)

-- a shape that some request has
abbrev pub IsShape : Shape → Type 0
IsShape shape = (size : ℕ) × IsDirectSize size × (shape ≡ shape_of size)

-- the shape serves a request of this many bytes: the slot and a guard at both ends lie in the super pages, and one super page
-- less or one system page less wouldn't do
pub record Serves (shape : Shape) (size : ℕ) : Type 0 where
  pub system_pages : shape.slot % 4096 ≡ 0
  pub usable : size ≤ shape.slot - 8
  pub close : shape.slot < size + 8 + 4096
  pub some_supers : 1 ≤ shape.supers
  pub few_supers : shape.supers ≤ most_supers
  pub guards : shape.slot + 32768 ≤ 2097152 * shape.supers
  pub least : 2097152 * (shape.supers - 1) < shape.slot + 32768

-- the shape of each request for a direct map serves it
abbrev pub ShapesLeaveRoom : Type 0
ShapesLeaveRoom = (size : ℕ) → IsDirectSize size → Serves (shape_of size) size
