use Rattle.std.proofs.Common.{ℕ, ◌<◌, slice_index_or}
use Rattle.pa_slot.specs.declared.title.Title.{Title}
use Rattle.pa_slot.specs.Titles.{IsWellFormed}
use Rattle.pa_region.specs.Shares.{byte_word_count}
use Rattle.pa_thread_state.proofs.fills.all_placed.Given as goal

-- those so far lie in the region
abbrev pub invariant-loop-title : goal.invariant-loop-title
invariant-loop-title l = (k : ℕ) (d : Title) → k < l.title-index →
    IsWellFormed (byte_word_count l.seat.region) (slice_index_or l.titles k d)
