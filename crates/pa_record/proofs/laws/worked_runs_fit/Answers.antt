use Rattle.pa_record.proofs.Worked
use Rattle.pa_record.proofs.laws.worked_runs_fit.Goals as goal

pub returns-clause-short_fill : goal.returns-clause-short_fill
returns-clause-short_fill c = Worked.short_fill

pub returns-clause-full_region : goal.returns-clause-full_region
returns-clause-full_region c = Worked.full_region

pub returns-clause-direct_map_again : goal.returns-clause-direct_map_again
returns-clause-direct_map_again c = Worked.direct_map_again

pub returns-clause-cache_overflow : goal.returns-clause-cache_overflow
returns-clause-cache_overflow c = Worked.cache_overflow

pub returns-clause-empty_ring : goal.returns-clause-empty_ring
returns-clause-empty_ring c = Worked.empty_ring

pub returns-clause-purge : goal.returns-clause-purge
returns-clause-purge c = Worked.purge

pub returns-clause-span_lists : goal.returns-clause-span_lists
returns-clause-span_lists c = Worked.span_lists
