-- The rows of worked roots compute.
use Rattle.std.proofs.Common.{◌≡◌, refl}
use Rattle.pa_buckets.specs.Table.{rows, row_of, slot_of, pages_of, slots_of}
use Rattle.pa_buckets.specs.Bands.{fill_of}
use Rattle.pa_record.specs.Root.{new_root, root_replayed}
use Rattle.pa_record.specs.Worked.{short_fill_pool, short_fill_journal, full_region_pool, full_region_journal, cache_overflow_pool, cache_overflow_journal, empty_ring_pool, empty_ring_journal, purge_pool, purge_journal}
use Rattle.pa_records.specs.Rows.{record_rows, short_fill_rows, full_region_rows, cache_overflow_rows, empty_ring_rows, purge_rows}

pub short_fill : record_rows (root_replayed short_fill_pool short_fill_journal new_root) ≡ short_fill_rows
unfolding rows row_of slot_of pages_of slots_of fill_of
short_fill = refl

pub full_region : record_rows (root_replayed full_region_pool full_region_journal new_root) ≡ full_region_rows
unfolding rows row_of slot_of pages_of slots_of fill_of
full_region = refl

pub cache_overflow : record_rows (root_replayed cache_overflow_pool cache_overflow_journal new_root) ≡ cache_overflow_rows
unfolding rows row_of slot_of pages_of slots_of fill_of
cache_overflow = refl

pub empty_ring : record_rows (root_replayed empty_ring_pool empty_ring_journal new_root) ≡ empty_ring_rows
unfolding rows row_of slot_of pages_of slots_of fill_of
empty_ring = refl

pub purge : record_rows (root_replayed purge_pool purge_journal new_root) ≡ purge_rows
unfolding rows row_of slot_of pages_of slots_of fill_of
purge = refl
