-- The bytes of what a command prints.
use Rattle.std.specs.Prelude.{ℕ, List, ◌++◌}
use Rattle.pa_cli.specs.declared.printed.Printed.{Printed}
use Rattle.pa_cli.specs.declared.printed.Printed.TheVariants.{Fixed, Line, Made, Parts}

-- the bytes that are written, in order: of two parts the first one's, then the rest's
abbrev pub printed_bytes : Printed → List ℕ
printed_bytes (Fixed text) = text.now
printed_bytes (Line line) = line.items
printed_bytes (Made text) = text.items
printed_bytes (Parts first rest) = first.items ++ rest.items
