use Rattle.pa_test_heap.proofs.heap_ops.no_raw_ptr_to_a_plain_slot_is_made.Given as goal

-- the region that was just made, whose one partition is plain
abbrev pub ghosts-play_plain : goal.ghosts-play_plain
ghosts-play_plain g a = record { region = a.region; plain_from = 0 }
