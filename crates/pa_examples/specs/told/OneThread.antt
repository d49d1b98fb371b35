-- The worked runs of one thread, with a purge and with direct maps, meet the obligations of all layers at once,
-- and the seats that close them are as required.
use Rattle.std.specs.Prelude.{ℕ, List, [], ◌∷◌, map, false}
use Rattle.pa_slot.specs.declared.title.Title.{Title}
use Rattle.pa_slot.specs.declared.title.OwnState.TheVariants.{Clean}
use Rattle.pa_region.specs.declared.view.Made.{Made}
use Rattle.pa_region.specs.declared.view.OwnTitle.{OwnTitle}
use Rattle.pa_region.specs.declared.view.View.{View}
use Rattle.pa_record.specs.Worked.{purge_pool, purge_journal, direct_map_again_pool, direct_map_again_journal}
use Rattle.pa_rules.specs.Played.{entry_of}
use Rattle.pa_rules.specs.Cells.{history_at}
use Rattle.pa_rules.specs.Roots.{journal_at}
use Rattle.pa_rules.specs.Told.{Told}
use Rattle.pa_rules.specs.Worked.{purge_records}
use Rattle.pa_examples.specs.Worked.{direct_map_trace, direct_map_records, direct_map_report}
use Rattle.pa_examples.specs.WorkedPurge.{purge_trace, purge_report}
use Rattle.pa_logs.specs.Worked.{its_title}
use Rattle.pa_examples.specs.told.AllSaid.{Holding, title_number, one_word, seat_with, IsClosed}
use Rattle.pa_examples.specs.told.Entered.{lists_of}
use Rattle.pa_examples.specs.told.Maps.{map_title, seen_map, maps_told}
use Rattle.pa_examples.specs.told.Purge.{purge_told}
use Rattle.pa_examples.specs.told.Threads.{seen_number}
use Rattle.pa_lists.specs.Numbers.{numbers}

-- an owner of the title, with the content that its history says
abbrev pub owner_of : Title → OwnTitle
owner_of t = record { title = t; state = Clean; idle = false; sealed = false }

-- ---- the run with a purge

-- the lists of the run with a purge, which has no exchanges
abbrev pub told_purge : Told
told_purge = record {
  entries = map entry_of purge_records;
  roots = journal_at (purge_journal ∷ []);
  pools = purge_pool;
  cells = history_at [];
  report = purge_report;
}

-- the six lists of the run with a purge, of which the root's and the pool's have entries
abbrev pub purge_lists : ℕ → List Made
purge_lists = lists_of purge_journal purge_pool []

-- this many slots of the span from number 1 on
unfoldable pub later_slots : ℕ → List Title
later_slots count = map title_number (numbers 1 count)

-- the words at the end: all are 0 but the count word of the first slot, which is owned and has the number 3
abbrev pub purge_words : List ℕ
purge_words = one_word 2049 0x3000001 260094

-- the seat at the end owns the first slot, and has free the other 255
abbrev pub purge_holding : Holding
purge_holding = record {
  frees = later_slots 255;
  owns = owner_of its_title ∷ [];
  uncut = [];
  words = purge_words;
}

-- the seat that closes the run: it has seen the first slot at number 3
abbrev pub seat_purge : View
seat_purge = seat_with purge_told (seen_number 3) purge_lists purge_holding

-- the run with a purge is closed by that seat, and those words hold it
abbrev pub PurgeIsClosed : Type 0
PurgeIsClosed = IsClosed purge_trace told_purge seat_purge purge_told purge_words

-- ---- the run of direct maps

-- the lists of the run of direct maps, which has no exchanges
abbrev pub told_maps : Told
told_maps = record {
  entries = map entry_of direct_map_records;
  roots = journal_at (direct_map_again_journal ∷ []);
  pools = direct_map_again_pool;
  cells = history_at [];
  report = direct_map_report;
}

-- the six lists of the run of direct maps, of which the root's and the pool's have entries
abbrev pub maps_lists : ℕ → List Made
maps_lists = lists_of direct_map_again_journal direct_map_again_pool []

-- the words at the end: all are 0 but the count word of the third map, which is owned and has the number 1
abbrev pub maps_words : List ℕ
maps_words = one_word 252415 0x1000001 9728

-- the seat at the end owns the third map, and uncut the other two
abbrev pub maps_holding : Holding
maps_holding = record {
  frees = [];
  owns = owner_of (map_title 5) ∷ [];
  uncut = map_title 2 ∷ map_title 0 ∷ [];
  words = maps_words;
}

-- the seat that closes the run: it has seen the three maps at the numbers 2, 4 and 1
abbrev pub seat_maps : View
seat_maps = seat_with maps_told (seen_map 5 1 ∷ seen_map 2 4 ∷ seen_map 0 2 ∷ []) maps_lists maps_holding

-- the run of direct maps is closed by that seat, and those words hold it
abbrev pub DirectMapIsClosed : Type 0
DirectMapIsClosed = IsClosed direct_map_trace told_maps seat_maps maps_told maps_words
