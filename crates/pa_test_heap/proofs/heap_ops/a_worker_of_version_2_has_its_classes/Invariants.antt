use Rattle.pa_test_heap.proofs.heap_ops.a_worker_of_version_2_has_its_classes.Given as goal

-- the region that was just made, whose one partition isn't plain
abbrev pub ghosts-play_dense : goal.ghosts-play_dense
ghosts-play_dense g a = record { region = a.region; plain_from = 1 }
