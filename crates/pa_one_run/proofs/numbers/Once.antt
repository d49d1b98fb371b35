-- Before each line a slot that left its root is out of it and is in one cache or in use, or is back and does neither.
use Rattle.std.proofs.Common.{ℕ, ◌+◌, ◌<◌, List, ◌++◌, append_assoc, sym, ◌∙◌, subst, arith, inl, inr}
use Rattle.std.specs.Prelude.{Contains, All, AllPairs, nat_lt}
use Rattle.std.proofs.lemmas.Bool.{ltb-true}
use Rattle.std.proofs.lemmas.List.Elements.{Contains-append_cases}
use Rattle.pa_slot.specs.declared.word.SlotName.{SlotName}
use Rattle.pa_record.specs.declared.root.RootEntry.{RootEntry}
use Rattle.pa_record.specs.Laws.{leaves_by}
use Rattle.pa_lists.proofs.Joined.{filter_cases}
use Rattle.pa_rules.specs.declared.played.Played.{Played}
use Rattle.pa_rules.specs.Caches.{Caches, CachesTo, no_caches}
use Rattle.pa_rules.specs.Flow.{cached_times, busy}
use Rattle.pa_rules.proofs.Running.{OtherRecord}
use Rattle.pa_rules.proofs.Numbering.{rising_differ}
use Rattle.pa_rules.proofs.ByLines.{IsFront}
use Rattle.pa_rules.proofs.FourPlaces.{slot_once, IsOnce}
use Rattle.pa_one_run.specs.Parts.{Parts, entry_line}
use Rattle.pa_one_run.specs.Before.{word_after, below, on, past, root_at}
use Rattle.pa_one_run.proofs.lines.Sorting.{in_below, in_on, below_on_past}
use Rattle.pa_one_run.proofs.Filed.{IsFiled}
use Rattle.pa_lists.proofs.Elements.{pairs_front, all_front}
use Rattle.pa_one_run.proofs.words.Found.{front_slots, front_word}
use Rattle.pa_one_run.proofs.lines.Cuts.{IsCut, entries_recorded, early_in}

-- the entries before a line are those on the lines of the records before it
pub front_below : (a : Parts) (n p : ℕ) (before rest : List Played) → IsFiled a → IsCut a n before rest →
    IsFront before (a.roots p) (below entry_line n (a.roots p))
front_below a n p before rest h cut =
    let journal = a.roots p in
    record {
      rest = on entry_line n journal ++ past entry_line n journal;
      parts = below_on_past entry_line n journal (h.order.journals p) ∙
          append_assoc (below entry_line n journal) (on entry_line n journal) (past entry_line n journal);
      each = λ e among.
          let (member, less) = in_below entry_line n journal e among in
          let (x, (among', line)) = entries_recorded a p e h member in
          (x, early_in a n before rest x cut among' (omega arith), sym line);
      none = λ e x among member same.
          let low = cut.early x member in
          elim (Contains-append_cases (on entry_line n journal) (past entry_line n journal) e among) [
            | inl here ↦ let line = (in_on entry_line n journal e here).1 in omega arith
            | inr later ↦ let line = ltb-true n e.line (filter_cases (λ (z : RootEntry). nat_lt n z.line) journal e later).1 in omega arith
          ];
    }

pub once : (a : Parts) (n p : ℕ) (before rest : List Played) (all : Caches) (s : SlotName) (e : RootEntry) → IsFiled a →
    IsCut a n before rest → CachesTo a.partitions a.roots no_caches before all →
    p < a.partitions → Contains (a.roots p) e → Contains (leaves_by e.act) s →
    IsOnce (root_at a n p) s (cached_times s all p a.threads + busy (word_after before s))
once a n p before rest all s e h cut caches few among leaves =
    slot_once a.supers a.partitions a.threads p a.ps a.pools a.roots before (below entry_line n (a.roots p)) all s (word_after before s)
    (record {
      are_roots = h.journals;
      are_pool = h.pool;
      lines = pairs_front OtherRecord before rest (subst (λ zs. AllPairs OtherRecord zs) cut.parts (rising_differ a.ps h.rising));
      threads_below = all_front (λ (x : Played). x.thread < a.threads) before rest
          (subst (λ zs. All (λ (x : Played). x.thread < a.threads) zs) cut.parts h.few);
      steps = front_slots a before rest h cut.parts;
      below = few;
      parts = front_below a n p before rest h cut;
      caches = caches;
    })
    (e, among, leaves) (front_word a before rest s h cut.parts)
