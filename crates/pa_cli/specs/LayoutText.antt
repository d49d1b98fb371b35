-- The output of the command `layout`: where a request of a given size is placed.
use Rattle.std.specs.Prelude.{◌≡◌, ℕ, ◌+◌, ◌<◌, ◌⊎◌, List, [], ◌∷◌, ◌++◌, codes, max}
use Rattle.std.specs.Fmt.{decimal}
use Rattle.pa_buckets.specs.Classes.{IsClassOf}
use Rattle.pa_buckets.specs.Table.{slot_of, pages_of, system_of, slots_of, waste_of}
use Rattle.pa_direct.specs.declared.maps.Shape.{Shape}
use Rattle.pa_direct.specs.Shapes.{IsDirectSize, greatest_size, shape_of}

-- `class C slot S pages N system M slots K waste W` and an LF
abbrev pub class_line : ℕ → List ℕ
class_line c =
    codes "class " ++ decimal c ++ codes " slot " ++ decimal (slot_of c) ++ codes " pages " ++ decimal (pages_of c)
    ++ codes " system " ++ decimal (system_of c) ++ codes " slots " ++ decimal (slots_of c)
    ++ codes " waste " ++ decimal (waste_of c) ++ 10 ∷ []

-- `direct slot S super K` and an LF
abbrev pub direct_line : Shape → List ℕ
direct_line shape = codes "direct slot " ++ decimal shape.slot ++ codes " super " ++ decimal shape.supers ++ 10 ∷ []

-- A request goes to the size class of its raw size, which is 8 bytes more than was asked, and at least 9. If that is too large for every
-- class, it is a direct map, or too large for that too.
abbrev pub IsLayoutText : ℕ → List ℕ → Type 0
IsLayoutText size text =
    ((c : ℕ) × IsClassOf (max size 1 + 8) c × (text ≡ class_line c))
    ⊎ ((IsDirectSize size × (text ≡ direct_line (shape_of size)))
    ⊎ ((greatest_size < size) × (text ≡ codes "too-large" ++ 10 ∷ [])))
