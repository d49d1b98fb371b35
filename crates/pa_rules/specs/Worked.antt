-- A run that was worked out by hand: an allocation, its free, a purge and another allocation.
use Rattle.std.specs.Prelude.{◌≡◌, ℕ, List, [], ◌∷◌, length}
use Rattle.pa_slot.specs.declared.word.SlotName.{SlotName}
use Rattle.pa_trace.specs.Rules.{first_rules}
use Rattle.pa_trace.specs.declared.script.Op.{Op}
use Rattle.pa_trace.specs.declared.script.Op.TheVariants as ops
use Rattle.pa_record.specs.declared.entry.Seen.{Seen}
use Rattle.pa_record.specs.declared.entry.Answer.{Answer}
use Rattle.pa_record.specs.declared.entry.Answer.TheVariants as answers
use Rattle.pa_record.specs.Root.{new_root, root_replayed}
use Rattle.pa_record.specs.Laws.{names_out, slots_made}
use Rattle.pa_record.specs.Worked.{purge_pool, purge_journal}
use Rattle.pa_rules.specs.declared.played.Played.{Played}
use Rattle.pa_rules.specs.Played.{marks_of}
use Rattle.pa_rules.specs.Roots.{journal_at}
use Rattle.pa_rules.specs.Caches.{AreCaches}
use Rattle.pa_rules.specs.Flow.{issues_of, returns_of, left_on, back_on}

-- the first slot, with this word
abbrev pub first_slot : ℕ → Seen
first_slot word = record { slot = record { start = 16384; born = 0 }; found = record { 0 = word } }

-- a record of thread 0 in phase 1, of version 1 and one partition
abbrev pub of_first_thread : ℕ → Op → Answer → Played
of_first_thread line op answer = record { line = line; thread = 0; phase = 1; rules = first_rules 1; op = op; answer = answer }

-- lines 2 to 5: 8 bytes get the first slot, its free returns it, a purge gives 8 slots back, and 8 bytes get the slot again
abbrev pub purge_records : List Played
purge_records =
    of_first_thread 2 (ops.Alloc 0 0 8) (answers.Made (first_slot 0) 8)
    ∷ of_first_thread 3 (ops.Free 0) (answers.Done (first_slot 16777217))
    ∷ of_first_thread 4 ops.Purge (answers.Purged 8)
    ∷ of_first_thread 5 (ops.Alloc 1 0 8) (answers.Made (first_slot 33554432) 8)
    ∷ []

-- the thread's lists and the entries of each line are those that the answers ask for
abbrev pub PurgeIsCached : Type 0
PurgeIsCached = AreCaches 1 (journal_at (purge_journal ∷ [])) purge_records

-- how often slot s was issued, came back to the root, left it and was returned in that run
pub record IsCountedAs (s : SlotName) (issued back left returned : ℕ) : Type 0 where
  pub issues : issues_of s (marks_of purge_records) ≡ issued
  pub backs : back_on s (journal_at (purge_journal ∷ [])) 0 purge_records ≡ back
  pub lefts : left_on s (journal_at (purge_journal ∷ [])) 0 purge_records ≡ left
  pub returns : returns_of s (marks_of purge_records) ≡ returned

-- The first slot is live at the end: it isn't cached. The second was never issued, and is cached once. 8 slots are out of
-- the root, of which one is live and 7 are cached, and 248 are with it: 256 were made.
pub record PurgeIsCounted : Type 0 where
  pub first : IsCountedAs (record { start = 16384; born = 0 }) 2 1 2 1
  pub second : IsCountedAs (record { start = 16400; born = 0 }) 0 1 2 0
  pub out : length (names_out (root_replayed purge_pool purge_journal new_root)) ≡ 8
  pub made : slots_made (root_replayed purge_pool purge_journal new_root) ≡ 256
