-- A player, whose output is seen as lists.
use Rattle.pa_player.specs.declared.player.Player.{Player as PlayerTo}
use Rattle.pa_player.specs.Told.{Lists}

-- a player that reports to lists
abbrev pub Player : Type 0
Player = PlayerTo Lists
