-- Two runs that were worked out by hand, and the words that their regions have at the end.
use Rattle.std.specs.Prelude.{◌≡◌, ℕ, ◌<◌, ◌≤◌, List, [], ◌∷◌, map, length, slice_index, Some}
use Rattle.pa_slot.specs.Titles.{poison}
use Rattle.pa_trace.specs.declared.script.Trace.{Trace}
use Rattle.pa_trace.specs.declared.script.Line.TheVariants.{Do}
use Rattle.pa_trace.specs.declared.script.Op.TheVariants as ops
use Rattle.pa_record.specs.declared.entry.Seen.{Seen}
use Rattle.pa_record.specs.declared.entry.Answer.TheVariants as answers
use Rattle.pa_record.specs.declared.root.RootEntry.{RootEntry}
use Rattle.pa_record.specs.Worked.{slots, fill, pool_take, direct_map_again_pool, direct_map_again_journal}
use Rattle.pa_rules.specs.declared.played.Played.{Played}
use Rattle.pa_rules.specs.Played.{entry_of}
use Rattle.pa_rules.specs.Roots.{journal_at}
use Rattle.pa_rules.specs.Told.{Told}
use Rattle.pa_rules.specs.Held.{IsHeldIn}
use Rattle.pa_rules.specs.Worked.{first_slot, of_first_thread}
use Rattle.pa_examples.specs.Worked.{direct_map_trace, direct_map_records, direct_map_report}

-- One slot is live and was written to, one is quarantined, and the others were cut and never allocated.
abbrev pub held_trace : Trace
held_trace =
    record {
      version = 1;
      region = 1;
      partitions = 1;
      threads = 1;
      plain = 0;
      lines =
          Do 0 (ops.Alloc 0 0 8)
          ∷ Do 0 (ops.Write 0 5)
          ∷ Do 0 (ops.Alloc 1 0 8)
          ∷ Do 0 (ops.Copy 1 2)
          ∷ Do 0 (ops.Free 1)
          ∷ [];
    }

-- the second slot, with this word
abbrev pub second_slot : ℕ → Seen
second_slot word = record { slot = record { start = 16400; born = 0 }; found = record { 0 = word } }

-- the five records of the run that is held, beside their ops
abbrev pub held_records : List Played
held_records =
    of_first_thread 2 (ops.Alloc 0 0 8) (answers.Made (first_slot 0) 8)
    ∷ of_first_thread 3 (ops.Write 0 5) (answers.Done (first_slot 0x1000001))
    ∷ of_first_thread 4 (ops.Alloc 1 0 8) (answers.Made (second_slot 0) 8)
    ∷ of_first_thread 5 (ops.Copy 1 2) (answers.Done (second_slot 0x1000001))
    ∷ of_first_thread 6 (ops.Free 1) (answers.Done (second_slot 0x2000003))
    ∷ []

-- the root's journal: on line 2 a fill of eight slots, 16 bytes apart from byte 16384 on
abbrev pub held_journal : List RootEntry
held_journal = fill 2 0 (Some 0) (slots 0 0 (16384 ∷ 16400 ∷ 16416 ∷ 16432 ∷ 16448 ∷ 16464 ∷ 16480 ∷ 16496 ∷ [])) ∷ []

-- the run's lists: its records, its journal and a take of super page 0, with no exchanges and no report
abbrev pub held_told : Told
held_told =
    record {
      entries = map entry_of held_records;
      roots = journal_at (held_journal ∷ []);
      pools = pool_take 2 0 1 (Some 0) ∷ [];
      cells = λ k. [];
      report = [];
    }

-- The words of a region: the first slot's value and count word, poison and the second slot's count word,
-- and nothing at the other slots.
pub record HasWords (words : List ℕ) : Type 0 where
  pub value : slice_index words 2048 ≡ 5
  pub live : slice_index words 2049 ≡ 0x2000001
  pub freed : slice_index words 2050 ≡ poison
  pub quarantined : slice_index words 2051 ≡ 0x3000002
  pub others : (i : ℕ) → 2051 < i → slice_index words i ≡ 0

-- A region of one super page has such words, and if it has them the run is held in it.
pub record WordsAreHeld : Type 0 where
  pub some : (words : List ℕ) × (length words ≡ 262144) × HasWords words
  pub held : (words : List ℕ) → HasWords words → IsHeldIn held_trace held_told words

-- The worked run of direct maps has these lists. Only its last map exists, which is live and was never written to; the two that
-- went back began at the same byte.
abbrev pub direct_map_told : Told
direct_map_told =
    record {
      entries = map entry_of direct_map_records;
      roots = journal_at (direct_map_again_journal ∷ []);
      pools = direct_map_again_pool;
      cells = λ k. [];
      report = direct_map_report;
    }

-- the count word is the map's last word, and all words before it from the map's first on are 0
pub record HasMapWords (words : List ℕ) : Type 0 where
  pub live : slice_index words 252415 ≡ 0x1000001
  pub others : (i : ℕ) → 2048 ≤ i → i < 252415 → slice_index words i ≡ 0

-- A region of one super page has such words, and if it has them the run of direct maps is held in it.
pub record MapIsHeld : Type 0 where
  pub some : (words : List ℕ) × (length words ≡ 262144) × HasMapWords words
  pub held : (words : List ℕ) → HasMapWords words → IsHeldIn direct_map_trace direct_map_told words
