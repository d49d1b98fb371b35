use Rattle.pa_test_heap.proofs.heap.a_worker_without_handles_plays.Given as goal

-- the region that was just made, whose one partition isn't plain
abbrev pub ghosts-play : goal.ghosts-play
ghosts-play g a = record { region = a.region; plain_from = 1 }
