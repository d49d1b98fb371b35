-- The clause of the roots, record by record and entry by entry.
use Rattle.std.proofs.Common.{◌≡◌, ℕ, zero, suc, ◌+◌, ◌<◌, ◌≤◌, List, [], ◌∷◌, take, Option, Some, None, refl, subst, ◌∙◌, ap, arith, inl, inr}
use Rattle.std.specs.Prelude.{slice_get}
use Rattle.std.specs.List.{cons_option}
use Rattle.std.proofs.lemmas.Bool.{cases_lt}
use Rattle.pa_trace.specs.declared.script.Trace.{Trace}
use Rattle.pa_rules.proofs.Ruling.{told_once}
use Rattle.pa_record.specs.declared.pool.PoolEntry.{PoolEntry}
use Rattle.pa_record.specs.declared.root.RootEntry.{RootEntry}
use Rattle.pa_record.specs.Root.{Root, new_root, root_next, root_replayed, RootActFits, RootReplays, RiseFrom, asked_by, all_asked}
use Rattle.pa_lists.proofs.Members.{of_some, not_some}
use Rattle.pa_rules.specs.declared.played.Played.{Played}
use Rattle.pa_rules.specs.declared.verdict.Clause.TheVariants as clauses
use Rattle.pa_rules.specs.declared.verdict.Place.TheVariants as places
use Rattle.pa_rules.specs.Told.{Told, records_of}
use Rattle.pa_rules.specs.Roots.{Journals, IsEntry, AreRoots}
use Rattle.pa_rules.specs.HeapDemands.{EntryFits}
use Rattle.pa_verdict.specs.Clauses.{IsMet, RootsArePlaces}
use Rattle.pa_lists.proofs.Indexed.{at_in, in_at}
use Rattle.pa_verdict.proofs.Ordering.{due_differ, order_meets, order_whole}

acts_at : (pools : List PoolEntry) (es : List RootEntry) (r : Root) (j : ℕ) (e : RootEntry) → RootReplays pools es r →
    slice_get es j ≡ Some e
    → RootActFits pools e.act (root_replayed pools (take j es) r)
acts_at pools [] r j e h at = absurd (not_some e at)
acts_at pools (d ∷ es) r zero e h at = subst (λ (z : RootEntry). RootActFits pools z.act r) (of_some d e at) h.0
acts_at pools (d ∷ es) r (suc j) e h at = acts_at pools es (root_next pools d.act r) j e h.1 at

acts_whole : (pools : List PoolEntry) (es : List RootEntry) (r : Root) →
    ((j : ℕ) (e : RootEntry) → slice_get es j ≡ Some e → RootActFits pools e.act (root_replayed pools (take j es) r))
    → RootReplays pools es r
acts_whole pools [] r h = tt
acts_whole pools (d ∷ es) r h = (h 0 d refl, acts_whole pools es (root_next pools d.act r) (λ j. h (suc j)))

-- ---- the numbers named rise, of each two entries

abbrev pub AreRising : List RootEntry → Type 0
AreRising es =
    (i j a b : ℕ) (e f : RootEntry) → slice_get es i ≡ Some e → slice_get es j ≡ Some f → i < j → asked_by e.act ≡ Some a →
    asked_by f.act ≡ Some b → a < b

abbrev pub AreFrom : ℕ → List RootEntry → Type 0
AreFrom least es = (j b : ℕ) (f : RootEntry) → slice_get es j ≡ Some f → asked_by f.act ≡ Some b → least ≤ b

-- where the numbers after the first rise from
record IsRisingFrom (o : Option ℕ) (least : ℕ) (ns : List ℕ) : Type 0 where
  next : ℕ
  up : least ≤ next
  rest : RiseFrom next ns
  first : (a : ℕ) → o ≡ Some a → (least ≤ a) × (next ≡ a + 1)

behind : (o : Option ℕ) (least : ℕ) (ns : List ℕ) → RiseFrom least (cons_option o ns) → IsRisingFrom o least ns
behind None least ns h = record { next = least; up = omega arith; rest = h; first = λ a e. absurd (not_some a e) }
behind (Some c) least ns h = record {
  next = c + 1;
  up = let low = h.0 in omega arith;
  rest = h.1;
  first = λ a e. let low = h.0 in let same = of_some c a e in (omega arith, omega arith);
}

from_all : (es : List RootEntry) (least : ℕ) → RiseFrom least (all_asked es) → AreFrom least es
from_all [] least h j b f at asks = absurd (not_some f at)
from_all (e ∷ es) least h zero b f at asks =
    let k = behind (asked_by e.act) least (all_asked es) h in
    (k.first b (ap (λ (z : RootEntry). asked_by z.act) (of_some e f at) ∙ asks)).0
from_all (e ∷ es) least h (suc j) b f at asks =
    let k = behind (asked_by e.act) least (all_asked es) h in
    let up = k.up in
    let ih = from_all es k.next k.rest j b f at asks in
    omega arith

pub rising_all : (es : List RootEntry) (least : ℕ) → RiseFrom least (all_asked es) → AreRising es
rising_all [] least h i j a b e f at at' less asks asks' = absurd (not_some e at)
rising_all (d ∷ es) least h zero zero a b e f at at' less asks asks' = absurd (omega arith)
rising_all (d ∷ es) least h (suc i) zero a b e f at at' less asks asks' = absurd (omega arith)
rising_all (d ∷ es) least h zero (suc j) a b e f at at' less asks asks' =
    let k = behind (asked_by d.act) least (all_asked es) h in
    let next = (k.first a (ap (λ (z : RootEntry). asked_by z.act) (of_some d e at) ∙ asks)).1 in
    let low = from_all es k.next k.rest j b f at' asks' in
    omega arith
rising_all (d ∷ es) least h (suc i) (suc j) a b e f at at' less asks asks' =
    let k = behind (asked_by d.act) least (all_asked es) h in
    rising_all es k.next k.rest i j a b e f at at' (omega arith) asks asks'

rise_cons : (o : Option ℕ) (least : ℕ) (ns : List ℕ) → ((a : ℕ) → o ≡ Some a → (least ≤ a) × RiseFrom (a + 1) ns) →
    (o ≡ None → RiseFrom least ns) → RiseFrom least (cons_option o ns)
rise_cons None least ns some none = none refl
rise_cons (Some a) least ns some none = some a refl

pub rise_whole : (es : List RootEntry) (least : ℕ) → AreFrom least es → AreRising es → RiseFrom least (all_asked es)
rise_whole [] least from rising = tt
rise_whole (e ∷ es) least from rising =
    let later : AreRising es = λ i j a b f g at at' less. rising (suc i) (suc j) a b f g at at' (omega arith) in
    rise_cons (asked_by e.act) least (all_asked es)
    (λ a is. (
      from 0 a e refl is,
      rise_whole es (a + 1) (λ j b f at asks. let up = rising 0 (suc j) a b e f refl at (omega arith) is asks in omega arith) later,
    ))
    (λ none. rise_whole es least (λ j. from (suc j)) later)

-- ---- the clause

abbrev root_line : RootEntry → ℕ
root_line e = e.line

none_at : {A : Type 0} (xs : List A) → ((x : A) → slice_get xs 0 ≡ Some x → ⊥) → xs ≡ []
none_at [] h = refl
none_at (x ∷ xs) h = absurd (h x refl)

not_past : (partitions : ℕ) (ps : List Played) (pools : List PoolEntry) (roots : Journals) (p j : ℕ) (e : RootEntry) →
    AreRoots partitions ps pools roots → IsEntry roots p j e → p < partitions
not_past partitions ps pools roots p j e h at = elim (cases_lt p partitions) [
  | inl less ↦ less
  | inr past ↦ absurd (not_some e (subst (λ zs. slice_get zs j ≡ Some e) (h.none_past p past) at))
]

entry_fits : (partitions : ℕ) (ps : List Played) (pools : List PoolEntry) (roots : Journals) (p j : ℕ) (e : RootEntry) →
    AreRoots partitions ps pools roots → IsEntry roots p j e
    → EntryFits partitions ps pools roots p j e
entry_fits partitions ps pools roots p j e h at = record {
  partition = not_past partitions ps pools roots p j e h at;
  fits = acts_at pools (roots p) new_root j e (h.journals p).replays at;
  rises = λ i a b f there less asks asks'. rising_all (roots p) 0 (h.journals p).rise i j a b f e there at less asks asks';
  line = h.lines p j e at;
  order = order_meets ps root_line (roots p) j (h.order p);
}

roots_meet : (t : Trace) (r : Told) → AreRoots t.partitions (records_of t r) r.pools r.roots → IsMet clauses.Roots t r
roots_meet t r h (places.Record i) = λ x j reg p size at is op. h.refusals x j reg p size (at_in (records_of t r) i x at) is op
roots_meet t r h (places.Root p j) = λ e at. entry_fits t.partitions (records_of t r) r.pools r.roots p j e h at
roots_meet t r h (places.Pool j) = tt
roots_meet t r h (places.Cell k j) = tt
roots_meet t r h (places.Report i) = tt

pub roots_are_places : RootsArePlaces
roots_are_places t r due = (
  roots_meet t r,
  λ met.
      let ps = records_of t r in
      let fits : (p j : ℕ) (e : RootEntry) → IsEntry r.roots p j e →
      EntryFits t.partitions ps r.pools r.roots p j e = λ p j. met (places.Root p j) in
      record {
        one = told_once t r;
        journals = λ p. record {
          replays = acts_whole r.pools (r.roots p) new_root (λ j e at. (fits p j e at).fits);
          rise = rise_whole (r.roots p) 0 (λ j b f at asks. omega arith)
              (λ i j a b e f at at' less asks asks'. (fits p j f at').rises i a b e at less asks asks');
        };
        lines = λ p j e at. (fits p j e at).line;
        order = λ p. order_whole ps root_line (r.roots p) (due_differ t r due) (λ j e at. (fits p j e at).order);
        none_past = λ p past. none_at (r.roots p) (λ e at. let low = (fits p 0 e at).partition in omega arith);
        refusals = λ x j reg p size among. let (i, at) = in_at ps x among in met (places.Record i) x j reg p size at;
      },
)
