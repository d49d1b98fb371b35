-- Reading an entry of a journal.
use Rattle.std.specs.Prelude.{ℕ, zero, suc, List, [], ◌∷◌, codes, length, ◌==◌, if◌then◌else◌, Option, Some, None}
use Rattle.pa_buckets.specs.Limits.{class_count}
use Rattle.pa_text.specs.Reading.{◌>>=◌}
use Rattle.pa_record.specs.declared.numbered.Numbered.{Numbered}
use Rattle.pa_record.specs.declared.root.RootAct.{RootAct}
use Rattle.pa_record.specs.declared.root.RootAct.TheVariants as acts
use Rattle.pa_trace.specs.Limits.{most_partitions}
use Rattle.pa_run_reader.specs.declared.item.Item.{Item}
use Rattle.pa_run_reader.specs.declared.item.Item.TheVariants as items
use Rattle.pa_run_reader.specs.Reading.{after_word, either, below_at, below_in, wide_in, slot_in}

-- a number below the limit, as one that may be absent
abbrev pub some_below_at : ℕ → List ℕ → Option (Option ℕ × List ℕ)
some_below_at limit bytes = do
  x ← below_at limit bytes
  Some (Some x.0, x.1)

-- nothing if the word is there, and else a number below the limit
unfoldable pub number_or_in : List ℕ → ℕ → List ℕ → Option (Option ℕ × List ℕ)
number_or_in word limit bytes = either (after_word word bytes) (λ rest. Some (None, rest)) (some_below_at limit bytes)

-- `SLOT@K`
unfoldable pub numbered_in : List ℕ → Option (Numbered × List ℕ)
numbered_in bytes = do
  slot ← slot_in bytes
  number ← wide_in (codes "@") slot.1
  Some (record { slot = slot.0; number = number.0 }, number.1)

-- a slot before those that were read after it
abbrev pub slot_before : Numbered → Option (List Numbered × List ℕ) → Option (List Numbered × List ℕ)
slot_before slot None = None
slot_before slot (Some x) = Some (slot ∷ x.0, x.1)

-- ` SLOT@K` for each of at most that many slots
unfoldable pub slots_in : ℕ → List ℕ → Option (List Numbered × List ℕ)
slots_in zero bytes = Some ([], bytes)
slots_in (suc k) bytes =
    either (after_word (codes " ") bytes) (λ rest. numbered_in rest >>= λ slot. slot_before slot.0 (slots_in k slot.1)) (Some ([], bytes))

-- the slots that were read, if there is at least one
abbrev pub if_any : List Numbered × List ℕ → Option (List Numbered × List ℕ)
if_any x = if length x.0 == 0 then None else Some x

-- ` SLOT@K` for each of 1 to 16 slots
unfoldable pub batch_in : List ℕ → Option (List Numbered × List ℕ)
batch_in bytes = do
  x ← slots_in 16 bytes
  if_any x

-- after `fill `: the class, the pool's entry or `-`, and 1 to 16 slots
unfoldable pub fill_in : List ℕ → Option (RootAct × List ℕ)
fill_in bytes = do
  class ← below_at class_count bytes
  rest ← after_word (codes " ") class.1
  pool ← number_or_in (codes "-") 4294967296 rest
  slots ← batch_in pool.1
  Some (acts.Fill class.0 pool.0 slots.0, slots.1)

-- after `map `: the pool's entry, and then `SLOT@0 ` and the length
unfoldable pub map_act_in : List ℕ → Option (RootAct × List ℕ)
map_act_in bytes = do
  pool ← below_at 4294967296 bytes
  rest ← after_word (codes " ") pool.1
  slot ← slot_in rest
  len ← below_in (codes "@0 ") 4294967296 slot.1
  Some (acts.Map pool.0 slot.0 len.0, len.1)

-- after `full `: a class or `direct`, and the pool's entry
unfoldable pub full_in : List ℕ → Option (RootAct × List ℕ)
full_in bytes = do
  class ← number_or_in (codes "direct") class_count bytes
  pool ← below_in (codes " ") 4294967296 class.1
  Some (acts.Full class.0 pool.0, pool.1)

-- after `give`: 1 to 16 slots
unfoldable pub give_in : List ℕ → Option (RootAct × List ℕ)
give_in bytes = do
  slots ← batch_in bytes
  Some (acts.Give slots.0, slots.1)

-- after `unmap `: the pool's entry, and then `SLOT@K`
unfoldable pub unmap_in : List ℕ → Option (RootAct × List ℕ)
unmap_in bytes = do
  pool ← below_at 4294967296 bytes
  rest ← after_word (codes " ") pool.1
  slot ← numbered_in rest
  Some (acts.Unmap pool.0 slot.0, slot.1)

-- what a root did, by its word
unfoldable pub root_act_in : List ℕ → Option (RootAct × List ℕ)
root_act_in bytes =
    either (after_word (codes "fill ") bytes) fill_in (either (after_word (codes "map ") bytes) map_act_in
    (either (after_word (codes "full ") bytes) full_in
    (either (after_word (codes "give") bytes) give_in (either (after_word (codes "unmap ") bytes) unmap_in
    (either (after_word (codes "purge") bytes) (λ rest. Some (acts.Purge, rest)) None)))))

-- after `r `: partition, index and entry, and the LF
unfoldable pub root_in : List ℕ → Option (Item × List ℕ)
root_in bytes = do
  partition ← below_at most_partitions bytes
  index ← below_in (codes " ") 4294967296 partition.1
  line ← below_in (codes " ") 4294967296 index.1
  rest ← after_word (codes " ") line.1
  act ← root_act_in rest
  end ← after_word (codes "\n") act.1
  Some (items.Root partition.0 index.0 (record { line = line.0; act = act.0 }), end)
