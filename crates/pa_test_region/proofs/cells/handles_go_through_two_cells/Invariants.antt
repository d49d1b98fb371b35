use Rattle.pa_test_region.proofs.cells.handles_go_through_two_cells.Given as goal

-- the region that was just made, whose partition 0 isn't plain
abbrev pub ghosts-exchange_here : goal.ghosts-exchange_here
ghosts-exchange_here g a = record { region = a.region.now; plain_from = 1 }
