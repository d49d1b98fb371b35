-- The worked runs compute.
use Rattle.std.proofs.Common.{◌≡◌, true, refl}
use Rattle.pa_buckets.specs.Table.{rows, row_of, slot_of, pages_of, slots_of}
use Rattle.pa_buckets.specs.Bands.{fill_of}
use Rattle.pa_record.specs.Worked.{IsWorked, short_fill_pool, short_fill_journal, short_fill_census, full_region_pool, full_region_journal, full_region_census, direct_map_again_pool, direct_map_again_journal, direct_map_again_census, cache_overflow_pool, cache_overflow_journal, cache_overflow_census, empty_ring_pool, empty_ring_journal, empty_ring_census, purge_pool, purge_journal, purge_census, span_lists_pool, span_lists_journal, span_lists_census}
use Rattle.pa_record.specs.Pool.{new_pool}
use Rattle.pa_record.specs.Root.{new_root, root_replayed, all_asked}
use Rattle.pa_record.specs.Census.{census}
use Rattle.pa_record.proofs.Tested.{all_fit, pool_all_fit, all_fit-true, rise-true, pool_all_fit-true}

short_fill_pool_fits : pool_all_fit short_fill_pool short_fill_pool (new_pool 1) ≡ true
short_fill_pool_fits = refl

short_fill_fits : all_fit short_fill_pool short_fill_journal new_root ≡ true
unfolding rows row_of slot_of pages_of slots_of fill_of
short_fill_fits = refl

short_fill_counted : census (root_replayed short_fill_pool short_fill_journal new_root) ≡ short_fill_census
unfolding rows row_of slot_of pages_of slots_of fill_of
short_fill_counted = refl

pub short_fill : IsWorked 1 short_fill_pool short_fill_journal short_fill_census
short_fill = record {
  is_pool = pool_all_fit-true short_fill_pool short_fill_pool (new_pool 1) short_fill_pool_fits;
  is_journal = record {
    replays = all_fit-true short_fill_pool short_fill_journal new_root short_fill_fits;
    rise = rise-true 0 (all_asked short_fill_journal) refl;
  };
  counted = short_fill_counted;
}

full_region_pool_fits : pool_all_fit full_region_pool full_region_pool (new_pool 1) ≡ true
full_region_pool_fits = refl

full_region_fits : all_fit full_region_pool full_region_journal new_root ≡ true
unfolding rows row_of slot_of pages_of slots_of fill_of
full_region_fits = refl

full_region_counted : census (root_replayed full_region_pool full_region_journal new_root) ≡ full_region_census
unfolding rows row_of slot_of pages_of slots_of fill_of
full_region_counted = refl

pub full_region : IsWorked 1 full_region_pool full_region_journal full_region_census
full_region = record {
  is_pool = pool_all_fit-true full_region_pool full_region_pool (new_pool 1) full_region_pool_fits;
  is_journal = record {
    replays = all_fit-true full_region_pool full_region_journal new_root full_region_fits;
    rise = rise-true 0 (all_asked full_region_journal) refl;
  };
  counted = full_region_counted;
}

direct_map_again_pool_fits : pool_all_fit direct_map_again_pool direct_map_again_pool (new_pool 1) ≡ true
direct_map_again_pool_fits = refl

direct_map_again_fits : all_fit direct_map_again_pool direct_map_again_journal new_root ≡ true
unfolding rows row_of slot_of pages_of slots_of fill_of
direct_map_again_fits = refl

direct_map_again_counted : census (root_replayed direct_map_again_pool direct_map_again_journal new_root) ≡ direct_map_again_census
unfolding rows row_of slot_of pages_of slots_of fill_of
direct_map_again_counted = refl

pub direct_map_again : IsWorked 1 direct_map_again_pool direct_map_again_journal direct_map_again_census
direct_map_again = record {
  is_pool = pool_all_fit-true direct_map_again_pool direct_map_again_pool (new_pool 1) direct_map_again_pool_fits;
  is_journal = record {
    replays = all_fit-true direct_map_again_pool direct_map_again_journal new_root direct_map_again_fits;
    rise = rise-true 0 (all_asked direct_map_again_journal) refl;
  };
  counted = direct_map_again_counted;
}

cache_overflow_pool_fits : pool_all_fit cache_overflow_pool cache_overflow_pool (new_pool 1) ≡ true
cache_overflow_pool_fits = refl

cache_overflow_fits : all_fit cache_overflow_pool cache_overflow_journal new_root ≡ true
unfolding rows row_of slot_of pages_of slots_of fill_of
cache_overflow_fits = refl

cache_overflow_counted : census (root_replayed cache_overflow_pool cache_overflow_journal new_root) ≡ cache_overflow_census
unfolding rows row_of slot_of pages_of slots_of fill_of
cache_overflow_counted = refl

pub cache_overflow : IsWorked 1 cache_overflow_pool cache_overflow_journal cache_overflow_census
cache_overflow = record {
  is_pool = pool_all_fit-true cache_overflow_pool cache_overflow_pool (new_pool 1) cache_overflow_pool_fits;
  is_journal = record {
    replays = all_fit-true cache_overflow_pool cache_overflow_journal new_root cache_overflow_fits;
    rise = rise-true 0 (all_asked cache_overflow_journal) refl;
  };
  counted = cache_overflow_counted;
}

empty_ring_pool_fits : pool_all_fit empty_ring_pool empty_ring_pool (new_pool 1) ≡ true
empty_ring_pool_fits = refl

empty_ring_fits : all_fit empty_ring_pool empty_ring_journal new_root ≡ true
unfolding rows row_of slot_of pages_of slots_of fill_of
empty_ring_fits = refl

empty_ring_counted : census (root_replayed empty_ring_pool empty_ring_journal new_root) ≡ empty_ring_census
unfolding rows row_of slot_of pages_of slots_of fill_of
empty_ring_counted = refl

pub empty_ring : IsWorked 1 empty_ring_pool empty_ring_journal empty_ring_census
empty_ring = record {
  is_pool = pool_all_fit-true empty_ring_pool empty_ring_pool (new_pool 1) empty_ring_pool_fits;
  is_journal = record {
    replays = all_fit-true empty_ring_pool empty_ring_journal new_root empty_ring_fits;
    rise = rise-true 0 (all_asked empty_ring_journal) refl;
  };
  counted = empty_ring_counted;
}

purge_pool_fits : pool_all_fit purge_pool purge_pool (new_pool 1) ≡ true
purge_pool_fits = refl

purge_fits : all_fit purge_pool purge_journal new_root ≡ true
unfolding rows row_of slot_of pages_of slots_of fill_of
purge_fits = refl

purge_counted : census (root_replayed purge_pool purge_journal new_root) ≡ purge_census
unfolding rows row_of slot_of pages_of slots_of fill_of
purge_counted = refl

pub purge : IsWorked 1 purge_pool purge_journal purge_census
purge = record {
  is_pool = pool_all_fit-true purge_pool purge_pool (new_pool 1) purge_pool_fits;
  is_journal = record {
    replays = all_fit-true purge_pool purge_journal new_root purge_fits;
    rise = rise-true 0 (all_asked purge_journal) refl;
  };
  counted = purge_counted;
}

span_lists_pool_fits : pool_all_fit span_lists_pool span_lists_pool (new_pool 4) ≡ true
span_lists_pool_fits = refl

span_lists_fits : all_fit span_lists_pool span_lists_journal new_root ≡ true
unfolding rows row_of slot_of pages_of slots_of fill_of
span_lists_fits = refl

span_lists_counted : census (root_replayed span_lists_pool span_lists_journal new_root) ≡ span_lists_census
unfolding rows row_of slot_of pages_of slots_of fill_of
span_lists_counted = refl

pub span_lists : IsWorked 4 span_lists_pool span_lists_journal span_lists_census
span_lists = record {
  is_pool = pool_all_fit-true span_lists_pool span_lists_pool (new_pool 4) span_lists_pool_fits;
  is_journal = record {
    replays = all_fit-true span_lists_pool span_lists_journal new_root span_lists_fits;
    rise = rise-true 0 (all_asked span_lists_journal) refl;
  };
  counted = span_lists_counted;
}
