-- What a test of a record's row returns.
use Rattle.std.specs.Prelude.{◌≡◌, ℕ, ◌<◌, Bool, true, false, List, ◌∷◌}
use Rattle.pa_trace.specs.declared.script.Op.{Op}
use Rattle.pa_trace.specs.declared.script.Op.TheVariants as ops
use Rattle.pa_record.specs.declared.entry.Seen.{Seen}
use Rattle.pa_record.specs.declared.numbered.Numbered.{Numbered}
use Rattle.pa_trace.specs.Limits.{most_partitions, most_threads}
use Rattle.pa_rules.specs.declared.played.Played.{Played}
use Rattle.pa_rules.specs.Roots.{Journals}
use Rattle.pa_rules.specs.Caches.{Cache, CacheRow, Caches, FilledFirst, FrontIs, OnlyActs, SameLists, gives, kept, spilled, with_cache, with_list}

-- With true, the row leads to these lists. With false, it leads to none.
abbrev pub TellsRow : (Cache → Type 0) → Cache → Bool → Type 0
TellsRow Row after true = Row after
TellsRow Row after false = (next : Cache) → Row next → ⊥

-- With true, this is the list that is required. With false, there is none.
abbrev pub TellsFilled : (List Numbered → Type 0) → List Numbered → Bool → Type 0
TellsFilled IsAsked xs true = IsAsked xs
TellsFilled IsAsked xs false = (ys : List Numbered) → IsAsked ys → ⊥

-- a slot of this class was made: the front leaves its list
abbrev pub ClassRow : Journals → ℕ → ℕ → ℕ → Seen → Cache → Cache → Type 0
ClassRow roots line p class seen cache after =
    (xs rest : List Numbered) × FilledFirst roots line p class (cache p class) xs × FrontIs seen xs rest
    × SameLists after (with_list cache p class rest)

-- a slot of this class came back: it becomes the front of its list, and what doesn't stay goes back to the root
abbrev pub BackRow : Journals → ℕ → ℕ → ℕ → Numbered → Cache → Cache → Type 0
BackRow roots line p class slot cache after =
    OnlyActs roots line p (gives (spilled class (slot ∷ cache p class)))
    × SameLists after (with_list cache p class (kept class (slot ∷ cache p class)))

-- a partition that the op names is one of four
abbrev pub NamesPartition : Op → Type 0
NamesPartition (ops.Alloc reg partition size) = partition < most_partitions
NamesPartition (ops.Copy from to) = Unit {0}
NamesPartition (ops.Reset reg) = Unit {0}
NamesPartition (ops.Free reg) = Unit {0}
NamesPartition (ops.Write reg value) = Unit {0}
NamesPartition (ops.Read reg place) = Unit {0}
NamesPartition (ops.Swap cell reg) = Unit {0}
NamesPartition ops.Purge = Unit {0}

-- the record's thread is one of 16, a partition that its op names is one of four, and it is of the version
abbrev pub IsOfThreads : ℕ → Played → Type 0
IsOfThreads version x = (x.thread < most_threads) × NamesPartition x.op × (x.rules.version ≡ version)

-- With true, the record's row leads from these lists to those. With false, it leads to none.
pub record TellsNext (partitions : ℕ) (roots : Journals) (x : Played) (all after : Caches) (b : Bool) : Type 0 where
  pub fits : b ≡ true → (next : Cache) × CacheRow partitions roots x x.answer (all x.thread) next × (after ≡ with_cache all x.thread next)
  pub misfits : b ≡ false → (next : Cache) → CacheRow partitions roots x x.answer (all x.thread) next → ⊥
