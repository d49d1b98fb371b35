-- The records of roots that were worked out by another program, as rows of numbers: for each span, in the order in which they were
-- made, where it starts and the four words of its record.
use Rattle.std.specs.Prelude.{ℕ, List, [], ◌∷◌, map}
use Rattle.pa_record.specs.Spans.{Span}
use Rattle.pa_record.specs.Root.{Root}
use Rattle.pa_spans.specs.declared.span.Span.{Span as SpanRecord}
use Rattle.pa_records.specs.Words.{counts_of, slots_of_record, neighbours_of}
use Rattle.pa_records.specs.Records.{span_record}

-- a row: where the span starts, then its record's words with the counts, the slots, the neighbours and the turn
abbrev pub record_row : ℕ → ℕ → ℕ → ℕ → ℕ → List ℕ
record_row place counts slots neighbours turn = place ∷ counts ∷ slots ∷ neighbours ∷ turn ∷ []

-- the row of a span that starts there and has this record
abbrev pub row_of_record : ℕ → SpanRecord → List ℕ
row_of_record place x = record_row place (counts_of x) (slots_of_record x) (neighbours_of x) x.turn

-- the rows of a root's spans
abbrev pub record_rows : Root → List (List ℕ)
record_rows r = map (λ (s : Span). row_of_record s.place (span_record r.spans s)) r.spans

-- four spans of one slot each, all full
abbrev pub short_fill_rows : List (List ℕ)
short_fill_rows =
    record_row 16384 63050399078220858 4294967296 0 0
    ∷ record_row 933888 63050399078220858 4294967296 0 1
    ∷ record_row 1851392 13510803177145393 4294967296 0 2
    ∷ record_row 2048000 1688854155297829 4294967296 0 3
    ∷ []

-- two full spans of 56 pages, and an active one of a page
abbrev pub full_region_rows : List (List ℕ)
full_region_rows =
    record_row 16384 63050399078220858 4294967296 0 0
    ∷ record_row 933888 63050399078220858 4294967296 0 1
    ∷ record_row 1851392 282574488862976 1099513479296 0 2
    ∷ []

-- an active span of many slots
abbrev pub cache_overflow_rows : List (List ℕ)
cache_overflow_rows =
    record_row 16384 282574490894592 1099511645296 0 0
    ∷ []

-- a decommitted span, fifteen empty ones, each with its neighbours, and a full one
abbrev pub empty_ring_rows : List (List ℕ)
empty_ring_rows =
    record_row 16384 811 4294967296 0 34
    ∷ record_row 81920 4503603922338347 4295049216 147456 18
    ∷ record_row 147456 4503603922338347 4295114752 351843721101312 19
    ∷ record_row 212992 4503603922338347 4295180288 633318697877504 20
    ∷ record_row 278528 4503603922338347 4295245824 914793674653696 21
    ∷ record_row 344064 4503603922338347 4295311360 1196268651429888 22
    ∷ record_row 409600 4503603922338347 4295376896 1477743628206080 23
    ∷ record_row 475136 4503603922338347 4295442432 1759218604982272 24
    ∷ record_row 540672 4503603922338347 4295507968 2040693581758464 25
    ∷ record_row 606208 4503603922338347 4295573504 2322168558534656 26
    ∷ record_row 671744 4503603922338347 4295639040 2603643535310848 27
    ∷ record_row 737280 4503603922338347 4295704576 2885118512087040 28
    ∷ record_row 802816 4503603922338347 4295770112 3166593488863232 29
    ∷ record_row 868352 4503603922338347 4295835648 3448068465639424 30
    ∷ record_row 933888 4503603922338347 4295901184 3729543442415616 31
    ∷ record_row 999424 4503603922338347 4295966720 4011018418126848 32
    ∷ record_row 1064960 4503603922404395 4294967296 0 35
    ∷ []

-- an active span that was empty and decommitted before
abbrev pub purge_rows : List (List ℕ)
purge_rows =
    record_row 16384 282574488862976 1099511644288 0 3
    ∷ []
