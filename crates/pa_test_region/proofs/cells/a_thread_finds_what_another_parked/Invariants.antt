use Rattle.pa_test_region.proofs.cells.a_thread_finds_what_another_parked.Given as goal

-- the region that was just made, whose partition 0 isn't plain
abbrev pub ghosts-exchange_on_two : goal.ghosts-exchange_on_two
ghosts-exchange_on_two g a = record { region = a.region.now; plain_from = 1 }
