-- A root with the room that was made for what comes next.
use Rattle.std.specs.Prelude.{◌≡◌, ℕ, ◌≤◌, true, false}
use Rattle.pa_record.specs.Root.{Root}
use Rattle.pa_place.specs.declared.room.Room.{Room}

-- A root, and the room that there is: for that many takes of a class, for a super page that a pool gives, and for a direct map.
pub record RoomyRoot : Type 0 where
  pub root : Root
  pub room : Room

-- room for nothing
abbrev pub no_room : Room
no_room = record { class = 0; takes = 0; super_page = false; map = false }

-- room for a fill: that many takes of the class, and a super page
abbrev pub fill_room : ℕ → ℕ → Room
fill_room class want = record { class = class; takes = want; super_page = true; map = false }

-- room for a direct map
abbrev pub map_room : Room
map_room = record { class = 0; takes = 0; super_page = false; map = true }

-- the room that is left once a super page was opened
abbrev pub opened_room : Room → Room
opened_room room = record room { super_page = false }

-- there is room for that many takes of the class
pub record HasTakes (class want : ℕ) (room : Room) : Type 0 where
  pub own : room.class ≡ class
  pub many : want ≤ room.takes
