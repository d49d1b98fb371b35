-- The entries of a journal in turn.
use Rattle.std.proofs.Common.{◌≡◌, ℕ, ◌+◌, ◌<◌, ◌≤◌, ◌⊎◌, List, length, take, Option, Some, None, refl, sym, ◌∙◌, ap, subst, arith, inl, inr}
use Rattle.std.specs.Prelude.{slice_get}
use Rattle.std.proofs.lemmas.Bool.{cases_lt}
use Rattle.pa_record.specs.declared.pool.PoolEntry.{PoolEntry}
use Rattle.pa_record.specs.declared.root.RootEntry.{RootEntry}
use Rattle.pa_record.specs.Pool.{PoolState, new_pool}
use Rattle.pa_record.specs.Root.{Root, asked_by, new_root, root_next, root_replayed}
use Rattle.pa_record.specs.Sound.{IsBornBelow, AsksFrom, least_after}
use Rattle.pa_lists.proofs.Members.{not_in_none, not_some, of_some}
use Rattle.pa_record.proofs.Replaying.{replayed_push}
use Rattle.pa_rules.specs.declared.played.Played.{Played}
use Rattle.pa_rules.specs.declared.verdict.Place.TheVariants as places
use Rattle.pa_rules.specs.Roots.{Journals, IsEntry, journal_at}
use Rattle.pa_rules.specs.HeapDemands.{EntryFits, RootsDemand}
use Rattle.pa_audit_heap.specs.declared.replay.Replay.{Replay}
use Rattle.pa_audit_heap.specs.Replayed.{IsPlayedBy}
use Rattle.pa_audit_heap.specs.Replaying.{HasAsked, IsReplayed}
use Rattle.pa_audit_heap.proofs.Listed.{front_more}
use Rattle.pa_rules.specs.Tells.{TellsFirst}
use Rattle.pa_audit_heap.specs.Tells.{TellsEntry}
use Rattle.pa_audit_heap.proofs.Naming.{all_journals}
use Rattle.pa_audit_heap.proofs.Rooting.{in_step}
use Rattle.pa_lists.proofs.Indexed.{one_at, none_past}

-- the start
pub replayed_none : (supers : ℕ) (pools : List PoolEntry) (es : List RootEntry) (r : Replay) → r.root ≡ new_root →
    r.plan ≡ new_pool supers → IsReplayed supers pools es 0 r 0
replayed_none supers pools es r root plan =
    let turn : r.root.turn ≡ 0 = ap (λ (z : Root). z.turn) root in
    let entries : r.plan.entries ≡ 0 = ap (λ (z : PoolState). z.entries) plan in
    record {
      root = root;
      supers_are = ap (λ (z : PoolState). z.supers) plan;
      step = in_step pools supers 0 r.plan r.root plan (omega arith)
          (subst (IsBornBelow 0) (sym root)
          (record { supers = λ at among. absurd (not_in_none at among); maps = λ t among. absurd (not_in_none t among) }));
      turn = omega arith;
      low = omega arith;
      above = λ a asks. let k = asks.below in absurd (omega arith);
      reached = inl refl;
    }

asks_cases : (es : List RootEntry) (i a : ℕ) (e : RootEntry) → slice_get es i ≡ Some e → HasAsked es (i + 1) a →
    HasAsked es i a ⊎ (asked_by e.act ≡ Some a)
asks_cases es i a e at h = elim (cases_lt h.index i) [
  | inl less ↦ inl (record { index = h.index; entry = h.entry; below = less; at = h.at; names = h.names })
  | inr more ↦
      let k = h.below in
      let same : h.index ≡ i = omega arith in
      let one = one_at es i h.entry e (subst (λ n. slice_get es n ≡ Some h.entry) same h.at) at in
      inr (ap (λ (z : RootEntry). asked_by z.act) (sym one) ∙ h.names)
]

asks_more : (es : List RootEntry) (i a : ℕ) → HasAsked es i a → HasAsked es (i + 1) a
asks_more es i a h = let k = h.below in record { index = h.index; entry = h.entry; below = omega arith; at = h.at; names = h.names }

above_next : (least a : ℕ) (o : Option ℕ) → AsksFrom least o → (a < least) ⊎ (o ≡ Some a) → a < least_after least o
above_next least a None from (inl less) = less
above_next least a None from (inr asks) = absurd (not_some a asks)
above_next least a (Some b) from (inl less) = omega arith
above_next least a (Some b) from (inr asks) = let same = of_some b a asks in omega arith

reached_next : (es : List RootEntry) (i least : ℕ) (e : RootEntry) (o : Option ℕ) → slice_get es i ≡ Some e → asked_by e.act ≡ o →
    (least ≡ 0) ⊎ ((a : ℕ) × HasAsked es i a × (least ≡ a + 1))
    → (least_after least o ≡ 0) ⊎ ((a : ℕ) × HasAsked es (i + 1) a × (least_after least o ≡ a + 1))
reached_next es i least e None at asks (inl zero) = inl zero
reached_next es i least e None at asks (inr (a, names, same)) = inr (a, asks_more es i a names, same)
reached_next es i least e (Some b) at asks before =
    inr (b, record { index = i; entry = e; below = omega arith; at = at; names = asks }, refl)

pub replayed_more : (supers : ℕ) (pools : List PoolEntry) (es : List RootEntry) (i : ℕ) (e : RootEntry) (r next : Replay) (least more : ℕ) →
    IsReplayed supers pools es i r least
    → slice_get es i ≡ Some e → AsksFrom least (asked_by e.act) → IsPlayedBy pools e.act r.plan r.root next.plan next.root →
    more ≡ least_after least (asked_by e.act)
    → IsReplayed supers pools es (i + 1) next more
replayed_more supers pools es i e r next least more h at from played is =
    let turn = played.turn in
    let turn' = h.turn in
    let low = played.least least h.low from in
    record {
      root = played.root ∙ ap (root_next pools e.act) h.root ∙ sym (replayed_push pools (take i es) e new_root) ∙
          ap (λ xs. root_replayed pools xs new_root) (sym (front_more es i e at));
      supers_are = played.supers ∙ h.supers_are;
      step = played.step;
      turn = omega arith;
      low = omega arith;
      above = λ a asks. subst (λ n. a < n) (sym is) (above_next least a (asked_by e.act) from (elim (asks_cases es i a e at asks) [
        | inl before ↦ inl (h.above a before)
        | inr here ↦ inr here
      ]));
      reached = subst (λ n. (n ≡ 0) ⊎ ((a : ℕ) × HasAsked es (i + 1) a × (n ≡ a + 1))) (sym is)
          (reached_next es i least e (asked_by e.act) at refl h.reached);
    }

-- an entry that names a later entry of the pool than those before it do
pub rises_here : (supers : ℕ) (pools : List PoolEntry) (roots : Journals) (p i : ℕ) (e : RootEntry) (r : Replay) (least : ℕ) →
    IsReplayed supers pools (roots p) i r least
    → AsksFrom least (asked_by e.act) → (k a b : ℕ) (f : RootEntry) → IsEntry roots p k f → k < i → asked_by f.act ≡ Some a →
    asked_by e.act ≡ Some b → a < b
rises_here supers pools roots p i e r least h from k a b f is below asks asks' =
    let low : least ≤ b = subst (AsksFrom least) asks' from in
    let less = h.above a (record { index = k; entry = f; below = below; at = is; names = asks }) in
    omega arith

pub not_rises : (supers : ℕ) (pools : List PoolEntry) (roots : Journals) (p i : ℕ) (e : RootEntry) (r : Replay) (least : ℕ) (o : Option ℕ) →
    IsReplayed supers pools (roots p) i r least
    → asked_by e.act ≡ o → (AsksFrom least o → ⊥)
    → ((k a b : ℕ) (f : RootEntry) → IsEntry roots p k f → k < i → asked_by f.act ≡ Some a → asked_by e.act ≡ Some b → a < b) → ⊥
not_rises supers pools roots p i e r least None h asks low rises = low tt
not_rises supers pools roots p i e r least (Some b) h asks low rises = elim h.reached [
  | inl zero ↦ low (omega arith)
  | inr (a, names, same) ↦
      let less = rises names.index a b names.entry names.at names.below names.names asks in
      low (omega arith)
]

-- an entry meets its clause if it fits
pub meets_here : (partitions : ℕ) (ps : List Played) (pools : List PoolEntry) (es : List RootEntry) (p j : ℕ) (e : RootEntry) →
    slice_get es j ≡ Some e → EntryFits partitions ps pools (λ q. es) p j e
    → RootsDemand partitions ps pools (λ q. es) (places.Root p j)
meets_here partitions ps pools es p j e at fits d at' = subst (EntryFits partitions ps pools (λ q. es) p j) (one_at es j e d at at') fits

-- the clause speaks of one journal
pub meets_among : (partitions : ℕ) (ps : List Played) (pools : List PoolEntry) (roots : Journals) (es : List RootEntry)
    (p j : ℕ) → es ≡ roots p
    → RootsDemand partitions ps pools (λ q. es) (places.Root p j) → RootsDemand partitions ps pools roots (places.Root p j)
meets_among partitions ps pools roots es p j same demand e is =
    let fits = subst (λ (xs : List RootEntry). RootsDemand partitions ps pools (λ q. xs) (places.Root p j)) same demand e is in
    record { partition = fits.partition; fits = fits.fits; rises = fits.rises; line = fits.line; order = fits.order }

pub meets_alone : (partitions : ℕ) (ps : List Played) (pools : List PoolEntry) (roots : Journals) (es : List RootEntry)
    (p j : ℕ) → es ≡ roots p
    → RootsDemand partitions ps pools roots (places.Root p j) → RootsDemand partitions ps pools (λ q. es) (places.Root p j)
meets_alone partitions ps pools roots es p j same demand =
    subst (λ (xs : List RootEntry). RootsDemand partitions ps pools (λ q. xs) (places.Root p j)) (sym same)
    (λ e is. let fits = demand e is in
    record { partition = fits.partition; fits = fits.fits; rises = fits.rises; line = fits.line; order = fits.order })

pub meets_past : (partitions : ℕ) (ps : List Played) (pools : List PoolEntry) (roots : Journals) (p j : ℕ) → length (roots p) ≤ j →
    RootsDemand partitions ps pools roots (places.Root p j)
meets_past partitions ps pools roots p j past e is = absurd (none_past (roots p) j e past is)

-- a journal after the last one has no entry
pub none_behind : (partitions : ℕ) (ps : List Played) (pools : List PoolEntry) (roots : List (List RootEntry)) (p j : ℕ) → length roots ≤ p
    → RootsDemand partitions ps pools (journal_at roots) (places.Root p j)
none_behind partitions ps pools roots p j past e is = absurd ((all_journals roots).above p past j e is)

-- the first entry that doesn't meet it, in the order of the partitions
pub first_is : (Meets : ℕ → ℕ → Type 0) (p j : ℕ) → ((q i : ℕ) → q < p → Meets q i) → TellsFirst (Meets p) (Some j) →
    TellsEntry Meets (Some (p, j))
first_is Meets p j before (unmet, met) = (
  unmet,
  λ q i above. elim above [
    | inl less ↦ before q i less
    | inr (same, less) ↦ subst (λ r. Meets r i) (sym same) (met i less)
  ],
)

pub partition_more : (Meets : ℕ → ℕ → Type 0) (p : ℕ) → ((q i : ℕ) → q < p → Meets q i) → ((i : ℕ) → Meets p i) →
    (q i : ℕ) → q < p + 1 → Meets q i
partition_more Meets p before here q i less = elim (cases_lt q p) [
  | inl below ↦ before q i below
  | inr more ↦ let same : p ≡ q = omega arith in subst (λ r. Meets r i) same (here i)
]
