-- How often a slot is in the caches, and how often it goes into and out of them.
use Rattle.std.specs.Prelude.{◌≡◌, ◌≢◌, ℕ, zero, suc, ◌+◌, ◌<◌, ◌≤◌, ◌==◌, ◌&&◌, Bool, true, false, if◌then◌else◌, List, [], ◌∷◌, Option, Some, None, Contains, All, AllPairs, count_by}
use Rattle.pa_slot.specs.declared.word.SlotName.{SlotName}
use Rattle.pa_slot.specs.declared.word.Step.{Step}
use Rattle.pa_slot.specs.declared.word.Step.TheVariants.{Issue, Copy, Reset, Free, Write}
use Rattle.pa_slot.specs.Count.{number_of, refs_of, held_of}
use Rattle.pa_slot.specs.Run.{Mark, Slots, same_slot}
use Rattle.pa_buckets.specs.Limits.{class_count}
use Rattle.pa_record.specs.declared.numbered.Numbered.{Numbered}
use Rattle.pa_record.specs.declared.pool.PoolEntry.{PoolEntry}
use Rattle.pa_record.specs.declared.root.RootEntry.{RootEntry}
use Rattle.pa_record.specs.declared.root.RootAct.{RootAct}
use Rattle.pa_record.specs.Root.{names, IsJournal}
use Rattle.pa_record.specs.Laws.{leaves_by, comes_by, times}
use Rattle.pa_rules.specs.declared.played.Played.{Played}
use Rattle.pa_rules.specs.Played.{mark_of, marks_of}
use Rattle.pa_rules.specs.Seen.{left_number}
use Rattle.pa_rules.specs.Roots.{Journals}
use Rattle.pa_rules.specs.Report.{HasWord, until}
use Rattle.pa_rules.specs.Caches.{Caches, acts_of, no_caches, CachesTo}

-- the test whether a step returns the slot whose word it finds
abbrev pub returns_at : Step → ℕ → Bool
returns_at Issue w = false
returns_at Copy w = false
returns_at Reset w = (held_of w == 0) && (refs_of w == 1)
returns_at Free w = (held_of w == 1) && (refs_of w == 0)
returns_at Write w = false

-- the test whether a step is an issue, which a look isn't
abbrev pub is_issue : Option Step → Bool
is_issue (Some Issue) = true
is_issue step = false

-- the test whether a mark's step returns its slot, by the word that it found, which a look doesn't
abbrev pub is_return : ℕ → Option Step → Bool
is_return found None = false
is_return found (Some step) = returns_at step found

-- the test of a step by the word that it finds, which no look passes
abbrev pub at_step : (Step → ℕ → Bool) → ℕ → Option Step → Bool
at_step test found None = false
at_step test found (Some step) = test step found

-- the test whether a mark is of slot s and its step passes
abbrev pub steps_so : (Step → ℕ → Bool) → SlotName → Mark → Bool
steps_so test s m = same_slot s m.slot && at_step test m.found m.step

-- the test whether a mark issues slot s
abbrev pub is_issue_of : SlotName → Mark → Bool
is_issue_of s m = same_slot s m.slot && is_issue m.step

-- the test whether a mark returns slot s
abbrev pub is_return_of : SlotName → Mark → Bool
is_return_of s m = same_slot s m.slot && is_return m.found m.step

-- how many of the marks issue slot s
abbrev pub issues_of : SlotName → List Mark → ℕ
issues_of s ms = count_by (is_issue_of s) ms

-- how many of the marks return slot s
abbrev pub returns_of : SlotName → List Mark → ℕ
returns_of s ms = count_by (is_return_of s) ms

-- how often slot s is in a thread's lists of one partition, of `n` classes from one on
unfoldable pub listed_times : SlotName → (ℕ → List Numbered) → ℕ → ℕ → ℕ
listed_times s lists class zero = 0
listed_times s lists class (suc n) = times s (names (lists class)) + listed_times s lists (class + 1) n

-- how often slot s is in the lists of partition p, of all classes, of the threads below a number
abbrev pub cached_times : SlotName → Caches → ℕ → ℕ → ℕ
cached_times s all p zero = 0
cached_times s all p (suc t) = listed_times s (all t p) 0 class_count + cached_times s all p t

-- how often slot s leaves the root by these acts
abbrev pub left_in : SlotName → List RootAct → ℕ
left_in s [] = 0
left_in s (a ∷ acts) = times s (leaves_by a) + left_in s acts

-- how often slot s comes back to the root by these acts
abbrev pub back_in : SlotName → List RootAct → ℕ
back_in s [] = 0
back_in s (a ∷ acts) = times s (comes_by a) + back_in s acts

-- how often slot s leaves the root by the entries of partition p on the lines of these records
abbrev pub left_on : SlotName → Journals → ℕ → List Played → ℕ
left_on s roots p [] = 0
left_on s roots p (x ∷ xs) = left_in s (acts_of roots x.line p) + left_on s roots p xs

-- how often slot s comes back to the root by the entries of partition p on the lines of these records
abbrev pub back_on : SlotName → Journals → ℕ → List Played → ℕ
back_on s roots p [] = 0
back_on s roots p (x ∷ xs) = back_in s (acts_of roots x.line p) + back_on s roots p xs

-- no other partition's journal has slot s
abbrev pub IsOnlyOf : Journals → ℕ → SlotName → Type 0
IsOnlyOf roots p s = (q : ℕ) (e : RootEntry) → Contains (roots q) e → Contains (leaves_by e.act) s → q ≡ p

-- Record by record a slot goes from the root to a thread's list and on to an owner, and back: as often as it left the
-- root and was returned, it is in a list, was issued, or came back to the root.
abbrev pub CachesKeep : Type 0
CachesKeep =
    (partitions threads p : ℕ) (pools : List PoolEntry) (roots : Journals) (s : SlotName) (xs : List Played) (after : Caches) →
    ((q : ℕ) → IsJournal pools (roots q)) → IsOnlyOf roots p s → p < partitions → All (λ (x : Played). x.thread < threads) xs →
    CachesTo partitions roots no_caches xs after →
    cached_times s after p threads + issues_of s (marks_of xs) + back_on s roots p xs ≡ left_on s roots p xs + returns_of s (marks_of xs)

-- 1 if a word isn't that of a free slot, and else 0
abbrev pub busy : ℕ → ℕ
busy w = if (held_of w == 0) && (refs_of w == 0) then 0 else 1

-- If each record has a line of its own, a slot was issued as often as it was returned, and once more if its word isn't free.
abbrev pub IssuesReturn : Type 0
IssuesReturn =
    (ps : List Played) (s : SlotName) (w : ℕ) → AllPairs (λ (x y : Played). x.line ≢ y.line) ps → Slots (marks_of ps) → HasWord ps s w →
    issues_of s (marks_of ps) ≡ returns_of s (marks_of ps) + busy w

-- no record of a later phase found a lower number at a slot than one of an earlier phase left there
abbrev pub IsInPhases : List Played → Type 0
IsInPhases ps =
    (x y : Played) (m n : Mark) → Contains ps x → Contains ps y → x.phase < y.phase → mark_of x ≡ Some m → mark_of y ≡ Some n →
    m.slot ≡ n.slot → left_number m ≤ number_of n.found

-- if all records have one run for each slot and are in the order of the phases, the records up to the end of a phase have one
abbrev pub RunsUntil : Type 0
RunsUntil =
    (ps : List Played) (phase : ℕ) → AllPairs (λ (x y : Played). x.line ≢ y.line) ps → Slots (marks_of ps) → IsInPhases ps →
    Slots (marks_of (until phase ps))
