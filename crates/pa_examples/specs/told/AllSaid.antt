-- The worked run of two threads, with each of the three answers that its read may give, meets the obligations of all layers at once.
use Rattle.std.specs.Prelude.{ℕ, suc, ◌+◌, ◌*◌, List, [], ◌∷◌, ◌++◌, ◌==◌, map, take, drop, if◌then◌else◌}
use Rattle.pa_slot.specs.declared.title.Title.{Title}
use Rattle.pa_region.specs.declared.view.Made.{Made}
use Rattle.pa_region.specs.declared.view.OwnTitle.{OwnTitle}
use Rattle.pa_region.specs.declared.view.SeenNumber.{SeenNumber}
use Rattle.pa_region.specs.declared.view.View.{View}
use Rattle.pa_region.specs.Moves.{no_deeds}
use Rattle.pa_region.specs.Start.{blank, stakes_from}
use Rattle.pa_region.specs.Ends.{IsEnd}
use Rattle.pa_trace.specs.declared.script.Trace.{Trace}
use Rattle.pa_rules.specs.Played.{entry_of}
use Rattle.pa_rules.specs.Held.{IsHeldIn}
use Rattle.pa_rules.specs.Roots.{journal_at}
use Rattle.pa_rules.specs.Legal.{phases_in, IsLegalTold}
use Rattle.pa_rules.specs.Told.{Told}
use Rattle.pa_examples.specs.Worked.{two_threads_trace, two_threads_journal, two_threads_pool, two_threads_report}
use Rattle.pa_logs.specs.Told.{ToldRecord, told_until}
use Rattle.pa_logs.specs.Swaps.{SwapMade, place_of}
use Rattle.pa_logs.specs.Whole.{IsPlayedOut}
use Rattle.pa_logs.specs.Said.{sizes_in, LayersSay, ListsSay, CloseSays}
use Rattle.pa_logs.specs.Standing.{ListedIsFree}
use Rattle.pa_logs.specs.Worked.{with_log}
use Rattle.pa_examples.specs.told.Worked.{Worked}
use Rattle.pa_examples.specs.told.Threads.{seen_number, the_read, threads_worked}
use Rattle.pa_examples.specs.told.Entered.{lists_of, gift_made, taking_made, threads_cells}
use Rattle.pa_examples.specs.told.OtherReads.{content_read, freed_read, reading_so}
use Rattle.pa_lists.specs.Numbers.{numbers}

-- What a seat holds: the titles that it has free, those that it has as an owner, those that it uncut, and the words.
pub record Holding : Type 0 where
  pub frees : List Title
  pub owns : List OwnTitle
  pub uncut : List Title
  pub words : List ℕ

-- A seat with the 16 stakes, whose logs are those of these records. It has seen these numbers and these lists, and holds this.
abbrev pub seat_with : List ToldRecord → List SeenNumber → (ℕ → List Made) → Holding → View
seat_with ts notes lists held = record {
  raws = [];
  frees = held.frees;
  owns = held.owns;
  refs = [];
  uncut = held.uncut;
  words = held.words;
  budget = 0;
  stakes = map (with_log ts) (stakes_from 0 16);
  since = no_deeds;
  keepers = [];
  leases = record { single = []; from = [] };
  seen = notes;
  seen_lists =
      record { keeper = 0; entries = lists 0 } ∷ record { keeper = 4; entries = lists 4 } ∷ record { keeper = 5; entries = lists 5 } ∷ [];
}

-- a seat with those records, numbers and lists that holds nothing, over words that are all 0
abbrev pub seat_of : List ToldRecord → List SeenNumber → (ℕ → List Made) → View
seat_of ts notes lists = seat_with ts notes lists (record { frees = []; owns = []; uncut = []; words = blank 262144 })

-- the exchanges until the end of phase n: the first one alone in phase 1, and both after it
abbrev pub swaps_until : ℕ → List SwapMade
swaps_until n = if n == 1 then gift_made ∷ [] else gift_made ∷ taking_made ∷ []

-- the lists of the run at the end of phase n, with the exchanges until then
abbrev pub lists_until : ℕ → ℕ → List Made
lists_until n = lists_of two_threads_journal two_threads_pool (map (λ (s : SwapMade). s.made) (swaps_until n))

-- the seat at the end of phase n: it has the logs of the records until then, and has seen the slot at number n + 1
abbrev pub seat_until : List ToldRecord → ℕ → View
seat_until ts n = seat_of (told_until n ts) (seen_number (suc n)) (lists_until n)

-- slot `n` of the span
abbrev pub title_number : ℕ → Title
title_number n = record { start = 16384 + 16 * n; len = 16; born = 0 }

-- the first `count` slots of the span
unfoldable pub span_slots : ℕ → List Title
span_slots count = map title_number (numbers 0 count)

-- words that are all 0 but one, with this many before it and this many after
abbrev pub one_word : ℕ → ℕ → ℕ → List ℕ
one_word before word after = blank before ++ word ∷ blank after

-- the words at the end: all are 0 but the count word of the first slot, which has the number 4
abbrev pub last_words : List ℕ
last_words = one_word 2049 0x4000000 260094

-- The seat at the end: it has the same logs, and has free all 256 slots of the span, which the root's seat and the threads' had.
abbrev pub last_holding : Holding
last_holding = record {
  frees = span_slots 256;
  owns = [];
  uncut = [];
  words = last_words;
}

-- the seat that closes the run with that read: it has seen the slot at number 4
abbrev pub seat_last : Worked → View
seat_last read = seat_with (reading_so read) (seen_number 4) (lists_until 3) last_holding

-- the run's lists with that read
abbrev pub told_with : Worked → Told
told_with read = record {
  entries = map (λ (w : Worked). entry_of w.played) (take 5 threads_worked ++ (read ∷ drop 6 threads_worked));
  roots = journal_at (two_threads_journal ∷ []);
  pools = two_threads_pool;
  cells = threads_cells;
  report = two_threads_report;
}

-- all layers meet their obligations, and those of the threads' lists too, if the read is so
pub record SaysWith (read : Worked) : Type 0 where
  pub layers : LayersSay two_threads_trace (told_with read) (seat_last read) (reading_so read)
  pub lists : ListsSay two_threads_trace (told_with read) (reading_so read)

-- all layers meet their obligations with each of the three reads: poison while the free is under way,
-- the content, and that the slot was freed
pub record ThreadsSay : Type 0 where
  pub poison : SaysWith the_read
  pub content : SaysWith content_read
  pub freed : SaysWith freed_read

-- The run with that read was played out, so that all is known of it that is known of such a run, and it is legal.
pub record IsFineWith (read : Worked) : Type 0 where
  pub played : IsPlayedOut (sizes_in two_threads_trace (told_with read)) (place_of (lists_until 3 5)) two_threads_trace (told_with read)
      (seat_last read) (reading_so read)
  pub legal : IsLegalTold two_threads_trace (told_with read)

-- with each of the three reads the run was played out and is legal
pub record OtherReadsAreLegal : Type 0 where
  pub poison : IsFineWith the_read
  pub content : IsFineWith content_read
  pub freed : IsFineWith freed_read

-- A run with these records, closed by the seat v: all layers meet their obligations, and the seat meets its own, of which one follows
-- from what it has free on the threads' lists. So the words, by what the close ensures for it, hold the run.
pub record IsClosed (t : Trace) (r : Told) (v : View) (ts : List ToldRecord) (words : List ℕ) : Type 0 where
  pub says : LayersSay t r v ts
  pub lists : ListsSay t r ts
  pub listed : ListedIsFree t.threads t.partitions (sizes_in t r) (lists.lists (phases_in t.lines)) v
  pub closes : CloseSays t r v ts
  pub end : IsEnd words v
  pub held : IsHeldIn t r words

-- the run with that read is closed by its last seat, and its last words hold it
abbrev pub ClosesWith : Worked → Type 0
ClosesWith read = IsClosed two_threads_trace (told_with read) (seat_last read) (reading_so read) last_words

-- with each of the three reads the run is closed
pub record ThreadsClose : Type 0 where
  pub poison : ClosesWith the_read
  pub content : ClosesWith content_read
  pub freed : ClosesWith freed_read
