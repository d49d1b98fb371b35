use Rattle.pa_test_root.proofs.root_scripts.play.Given as goal

-- the region that was just made, in which no partition is plain
abbrev pub ghosts-play_by : goal.ghosts-play_by
ghosts-play_by g a = record { region = a.region.now; plain_from = 4 }
