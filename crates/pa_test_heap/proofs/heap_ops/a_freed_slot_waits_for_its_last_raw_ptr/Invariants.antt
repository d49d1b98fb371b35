use Rattle.pa_test_heap.proofs.heap_ops.a_freed_slot_waits_for_its_last_raw_ptr.Given as goal

-- the region that was just made, whose one partition isn't plain
abbrev pub ghosts-play : goal.ghosts-play
ghosts-play g a = record { region = a.region; plain_from = 1 }
