use Rattle.pa_records.proofs.Rows
use Rattle.pa_records.proofs.laws.worked_records.Goals as goal

pub returns-clause-short_fill : goal.returns-clause-short_fill
returns-clause-short_fill c = Rows.short_fill

pub returns-clause-full_region : goal.returns-clause-full_region
returns-clause-full_region c = Rows.full_region

pub returns-clause-cache_overflow : goal.returns-clause-cache_overflow
returns-clause-cache_overflow c = Rows.cache_overflow

pub returns-clause-empty_ring : goal.returns-clause-empty_ring
returns-clause-empty_ring c = Rows.empty_ring

pub returns-clause-purge : goal.returns-clause-purge
returns-clause-purge c = Rows.purge
