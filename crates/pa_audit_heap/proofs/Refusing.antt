-- Records that are full, and classes of sizes.
use Rattle.std.proofs.Common.{◌≡◌, ℕ, ◌<◌, ◌≤◌, List, length, get_or, Some, subst}
use Rattle.pa_trace.specs.declared.script.Op.TheVariants as ops
use Rattle.pa_record.specs.declared.entry.Answer.TheVariants as answers
use Rattle.pa_record.specs.declared.root.RootEntry.{RootEntry}
use Rattle.pa_rules.specs.declared.played.Played.{Played}
use Rattle.pa_record.specs.declared.pool.PoolEntry.{PoolEntry}
use Rattle.pa_rules.specs.declared.verdict.Place.TheVariants as places
use Rattle.pa_rules.specs.HeapDemands.{RootsDemand}
use Rattle.std.specs.Prelude.{slice_get}
use Rattle.std.proofs.lemmas.Option.{slice_get-get_or}
use Rattle.pa_rules.specs.Roots.{Journals, IsEntry, IsFull}
use Rattle.pa_audit_heap.specs.Parts.{NamesFull}
use Rattle.pa_lists.proofs.Indexed.{one_at, none_past}

-- entry j of the partition's journal is a Full of the line
abbrev pub HasFull : Journals → ℕ → ℕ → ℕ → Type 0
HasFull roots p j line = (e : RootEntry) × IsEntry roots p j e × (e.line ≡ line) × IsFull e.act

pub full_named : (roots : Journals) (x : Played) (j reg p size : ℕ) → x.answer ≡ answers.Full j → x.op ≡ ops.Alloc reg p size →
    HasFull roots p j x.line → NamesFull roots x
full_named roots x j reg p size answer op has j' reg' p' size' answer' op' =
    let same : j ≡ j' = cc in
    let part : p ≡ p' = cc in
    subst (λ q. HasFull roots q j' x.line) part (subst (λ k. HasFull roots p k x.line) same has)

-- what fills a place past the end
abbrev pub no_played : Played
no_played =
    record {
      line = 0;
      thread = 0;
      phase = 0;
      rules = record { version = 0; plain_from = 0 };
      op = ops.Alloc 0 0 0;
      answer = answers.Made (record { slot = record { start = 0; born = 0 }; found = record { 0 = 0 } }) 0;
    }

-- what the clause requires of a record, and what the test says of it
abbrev pub NamesFullAt : Journals → List Played → ℕ → Type 0
NamesFullAt roots ps i = (x : Played) → slice_get ps i ≡ Some x → NamesFull roots x

pub record_named : (partitions : ℕ) (ps : List Played) (pools : List PoolEntry) (roots : Journals) (i : ℕ) → NamesFullAt roots ps i →
    RootsDemand partitions ps pools roots (places.Record i)
record_named partitions ps pools roots i h x j reg p size at answer op = h x at j reg p size answer op

pub named_record : (partitions : ℕ) (ps : List Played) (pools : List PoolEntry) (roots : Journals) (i : ℕ) →
    RootsDemand partitions ps pools roots (places.Record i) → NamesFullAt roots ps i
named_record partitions ps pools roots i h x at j reg p size answer op = h x j reg p size at answer op

pub named_past : (roots : Journals) (ps : List Played) (i : ℕ) → length ps ≤ i → NamesFullAt roots ps i
named_past roots ps i past x at = absurd (none_past ps i x past at)

pub named_here : (roots : Journals) (ps : List Played) (i : ℕ) → i < length ps →
    NamesFull roots (get_or ps i no_played) → NamesFullAt roots ps i
named_here roots ps i within h x at =
    subst (NamesFull roots) (one_at ps i (get_or ps i no_played) x (slice_get-get_or ps i no_played within) at) h
