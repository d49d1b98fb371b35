use Rattle.pa_test_region.proofs.pool.the_lowest_super_pages_come_first.Given as goal

-- the region that was just made, in which no partition is plain
abbrev pub ghosts-play : goal.ghosts-play
ghosts-play g a = record { region = a.region.now; plain_from = 4 }
