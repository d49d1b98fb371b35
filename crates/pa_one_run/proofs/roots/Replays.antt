-- The entries of a line fit the root that the entries before the line leave.
use Rattle.std.proofs.Common.{◌≡◌, ℕ, ◌<◌, List, [], ◌∷◌, ◌++◌, length, Some, None, refl, sym, ◌∙◌, ap, subst}
use Rattle.std.specs.Prelude.{Contains, slice_get, option_map}
use Rattle.pa_buckets.specs.Bands.{fill_of}
use Rattle.pa_record.specs.declared.pool.PoolEntry.{PoolEntry}
use Rattle.pa_record.specs.declared.root.RootEntry.{RootEntry}
use Rattle.pa_record.specs.declared.root.RootAct.{RootAct}
use Rattle.pa_record.specs.declared.root.RootAct.TheVariants.{Fill, Map, Full, Give, Unmap, Purge}
use Rattle.pa_record.specs.Pool.{PoolState, new_pool, pool_replayed, act_at}
use Rattle.pa_record.specs.Root.{Root, new_root, takes, opened, super_of, root_next, root_replayed, RootReplays, IsJournal, asked_by}
use Rattle.pa_lists.proofs.Members.{of_some, first_in, later_in}
use Rattle.pa_record.proofs.Same.{same_root}
use Rattle.pa_lists.proofs.Joined.{map_cases}
use Rattle.pa_rules.specs.Roots.{IsEntry, Journals}
use Rattle.pa_rules.specs.Caches.{acts_of}
use Rattle.pa_rules.proofs.Owned.{journal_front}
use Rattle.pa_one_run.specs.Parts.{Parts, entry_line, pool_line}
use Rattle.pa_one_run.specs.Before.{below, on, past, root_at}
use Rattle.pa_one_run.proofs.lines.Sorting.{in_below, in_on, below_on_past, on_one, get_below, below_get}
use Rattle.pa_one_run.proofs.Filed.{IsFiled, Agrees, agrees_swap}
use Rattle.pa_lists.proofs.Elements.{map_tells, map_one, both_have}
use Rattle.pa_lists.proofs.Indexed.{in_at}
use Rattle.pa_record.proofs.Replaying.{replays_rest}

-- the pool before a line
abbrev pub pool_at : Parts → ℕ → PoolState
pool_at a n = pool_replayed (below pool_line n a.pools) (new_pool a.supers)

-- ---- the parts of a journal

-- the entries up to a line
line_journal : (a : Parts) (n p : ℕ) → IsFiled a → IsJournal a.pools (below entry_line n (a.roots p) ++ on entry_line n (a.roots p))
line_journal a n p h =
    journal_front a.pools (below entry_line n (a.roots p) ++ on entry_line n (a.roots p)) (past entry_line n (a.roots p))
    (subst (λ es. IsJournal a.pools es) (below_on_past entry_line n (a.roots p) (h.order.journals p)) (h.journals.journals p))

pub front_journal : (a : Parts) (n p : ℕ) → IsFiled a → IsJournal a.pools (below entry_line n (a.roots p))
front_journal a n p h = journal_front a.pools (below entry_line n (a.roots p)) (on entry_line n (a.roots p)) (line_journal a n p h)

pub line_replays : (a : Parts) (n p : ℕ) → IsFiled a → RootReplays a.pools (on entry_line n (a.roots p)) (root_at a n p)
line_replays a n p h = replays_rest a.pools (below entry_line n (a.roots p)) (on entry_line n (a.roots p)) new_root
    (line_journal a n p h).replays

-- ---- one journal beside two pools

pub next_same : (pools other : List PoolEntry) (act : RootAct) (r : Root) →
    ((j : ℕ) → asked_by act ≡ Some j → act_at pools j ≡ act_at other j) → root_next pools act r ≡ root_next other act r
next_same pools other (Fill class None slots) r h = refl
next_same pools other (Fill class (Some j) slots) r h = ap (λ o. (takes class (fill_of class) (opened (super_of o) j r)).root) (h j refl)
next_same pools other (Map asked slot len) r h = refl
next_same pools other (Full class asked) r h = refl
next_same pools other (Give slots) r h = refl
next_same pools other (Unmap asked slot) r h = refl
next_same pools other Purge r h = refl

-- a journal leaves one root beside two pools that have the entries that it names
pub replayed_same : (pools other : List PoolEntry) (es : List RootEntry) (r : Root) →
    ((e : RootEntry) (j : ℕ) → Contains es e → asked_by e.act ≡ Some j → act_at pools j ≡ act_at other j) →
    root_replayed pools es r ≡ root_replayed other es r
replayed_same pools other [] r h = refl
replayed_same pools other (e ∷ es) r h =
    replayed_same pools other es (root_next pools e.act r) (λ f j among. h f j (later_in e f es among))
    ∙ ap (λ s. root_replayed other es s) (next_same pools other e.act r (λ j. h e j (first_in e es)))

-- the entry of the pool that an entry of a journal names has its line and its partition
pub record IsNamed (a : Parts) (p : ℕ) (e : RootEntry) (d : PoolEntry) : Type 0 where
  pub line : d.line ≡ e.line
  pub partition : d.partition ≡ p

pub named_of : (a : Parts) (p j : ℕ) (e : RootEntry) (d : PoolEntry) → IsFiled a → Contains (a.roots p) e → asked_by e.act ≡ Some j →
    slice_get a.pools j ≡ Some d → IsNamed a p e d
named_of a p j e d h among asks at =
    let (i, here) = in_at (a.roots p) e among in
    let (k, f, there, names, line) = h.pool.named j d at in
    let (same, place) = h.pool.once j p d.partition i k d at (e, here, asks) (f, there, names) in
    let here' : slice_get (a.roots d.partition) k ≡ Some e =
    subst (λ q. slice_get (a.roots q) k ≡ Some e) same (subst (λ m. slice_get (a.roots p) m ≡ Some e) place here) in
    let it : f ≡ e = of_some f e (sym there ∙ here') in
    record { line = sym line ∙ ap entry_line it; partition = sym same }

-- an entry of the pool that a journal names before the line is the same in both runs
named_same : (a b : Parts) (n p j : ℕ) (e : RootEntry) (d : PoolEntry) → IsFiled a → IsFiled b → Agrees n a b →
    Contains (below entry_line n (a.roots p)) e → asked_by e.act ≡ Some j →
    slice_get a.pools j ≡ Some d → slice_get b.pools j ≡ Some d
named_same a b n p j e d h k agrees among asks at =
    let (member, low) = in_below entry_line n (a.roots p) e among in
    let less : d.line < n = subst (λ m. m < n) (sym (named_of a p j e d h member asks at).line) low in
    below_get pool_line n b.pools j d k.order.pool
    (subst (λ ds. slice_get ds j ≡ Some d) agrees.pool (get_below pool_line n a.pools j d h.order.pool at less))

-- two runs that agree before a line have the same roots there
pub roots_agree : (a b : Parts) (n p : ℕ) → IsFiled a → IsFiled b → Agrees n a b →
    root_at a n p ≡ root_at b n p
roots_agree a b n p h k agrees =
    replayed_same a.pools b.pools (below entry_line n (a.roots p)) new_root
    (λ e j among asks. ap (λ o. option_map (λ (d : PoolEntry). d.act) o) (both_have (slice_get a.pools j) (slice_get b.pools j)
    (λ d at. named_same a b n p j e d h k agrees among asks at)
    (λ d at. named_same b a n p j e d k h (agrees_swap n a b agrees) (subst (λ es. Contains es e) (agrees.journals p) among) asks at)))
    ∙ ap (λ es. root_replayed b.pools es new_root) (agrees.journals p)

-- ---- the entries of a line

-- the one entry of a line
pub on_line : (a : Parts) (n p : ℕ) (act : RootAct) → acts_of a.roots n p ≡ act ∷ [] → (e : RootEntry) ×
    (on entry_line n (a.roots p) ≡ e ∷ []) × (e.act ≡ act)
on_line a n p act only = map_one (λ (e : RootEntry). e.act) (on entry_line n (a.roots p)) act only

-- the entry that did an act of a line
pub act_entry : (roots : Journals) (n p : ℕ) (act : RootAct) → Contains (acts_of roots n p) act → (e : RootEntry) × Contains (roots p) e ×
    (e.line ≡ n) × (e.act ≡ act)
act_entry roots n p act among =
    let (e, member, is) = map_cases (λ (e : RootEntry). e.act) (on entry_line n (roots p)) act among in
    let (stands, line) = in_on entry_line n (roots p) e member in
    (e, stands, line, is)

-- the place of a line's only entry
pub entry_place : (a : Parts) (n p j : ℕ) (act : RootAct) (e : RootEntry) → IsFiled a → acts_of a.roots n p ≡ act ∷ [] →
    IsEntry a.roots p j e → e.line ≡ n →
    (j ≡ length (below entry_line n (a.roots p))) × (e.act ≡ act)
entry_place a n p j act e h only at same =
    let (f, one, is) = on_line a n p act only in
    let (place, it) = on_one entry_line n (a.roots p) f e j (h.order.journals p) one at same in
    (place, ap (λ (z : RootEntry). z.act) it ∙ is)

-- entries of one line with the same acts are the same
pub acts_tell : (a b : Parts) (n p : ℕ) → acts_of a.roots n p ≡ acts_of b.roots n p →
    on entry_line n (a.roots p) ≡ on entry_line n (b.roots p)
acts_tell a b n p same =
    map_tells (λ (e : RootEntry). e.act) (on entry_line n (a.roots p)) (on entry_line n (b.roots p))
    (λ e f among among'. same_root e f ((in_on entry_line n (a.roots p) e among).1 ∙ sym (in_on entry_line n (b.roots p) f among').1)) same
