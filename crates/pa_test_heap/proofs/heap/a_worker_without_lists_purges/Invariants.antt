use Rattle.pa_test_heap.proofs.heap.a_worker_without_lists_purges.Given as goal

-- the region that was just made, whose two partitions aren't plain
abbrev pub ghosts-purge_twice : goal.ghosts-purge_twice
ghosts-purge_twice g a = record { region = a.region; plain_from = 2 }
