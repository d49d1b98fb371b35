-- The entries of the pool on a line are those that the line's entries of the journals name.
use Rattle.std.proofs.Common.{◌≡◌, ℕ, List, [], ◌∷◌, ◌++◌, length, Some, None, sym, ◌∙◌, ap, subst, inl, inr}
use Rattle.std.specs.Prelude.{Contains, slice_get, option_map}
use Rattle.std.proofs.lemmas.Bool.{cases_eq}
use Rattle.pa_record.specs.declared.pool.PoolEntry.{PoolEntry}
use Rattle.pa_record.specs.declared.root.RootEntry.{RootEntry}
use Rattle.pa_record.specs.declared.root.RootAct.{RootAct}
use Rattle.pa_record.specs.Pool.{PoolState, new_pool, pool_next, pool_replayed, PoolReplays, PoolActFits, act_at}
use Rattle.pa_record.specs.Root.{RootReplays, asked_by}
use Rattle.pa_lists.proofs.Members.{not_in_none, first_in, of_some, not_some}
use Rattle.pa_lists.proofs.Joined.{map_in}
use Rattle.pa_record.proofs.Same.{same_pool}
use Rattle.pa_rules.specs.Caches.{acts_of, OnlyActs}
use Rattle.pa_rules.proofs.Naming.{asked_there}
use Rattle.pa_one_run.specs.Parts.{Parts, entry_line, pool_line}
use Rattle.pa_one_run.specs.Before.{below, on, past, root_at}
use Rattle.pa_one_run.proofs.lines.Sorting.{in_on, on_in, on_none, below_on_past, on_one, on_alone}
use Rattle.pa_one_run.proofs.Filed.{IsFiled, Agrees}
use Rattle.pa_one_run.proofs.roots.Replays.{named_of, on_line, line_replays, pool_at}
use Rattle.pa_lists.proofs.Elements.{in_one}
use Rattle.pa_lists.proofs.Indexed.{in_at, at_in}

-- a line's only entry of a journal names the line's only entry of the pool, which fits the pool before the line
pub record IsAsked (a : Parts) (n p j : ℕ) (e : PoolEntry) : Type 0 where
  pub only : on pool_line n a.pools ≡ e ∷ []
  pub line : e.line ≡ n
  pub partition : e.partition ≡ p
  pub place : j ≡ length (below pool_line n a.pools)
  pub act : act_at a.pools j ≡ Some e.act
  pub fits : PoolActFits a.pools p e.act (pool_at a n)

-- an entry of the pool on a line is named by an entry of that line
pub record IsNamer (a : Parts) (n p k : ℕ) (f : RootEntry) : Type 0 where
  pub on : Contains (on entry_line n (a.roots p)) f
  pub names : asked_by f.act ≡ Some k

pub namer_of : (a : Parts) (n k : ℕ) (d : PoolEntry) → IsFiled a → slice_get a.pools k ≡ Some d → d.line ≡ n → (f : RootEntry) ×
    IsNamer a n d.partition k f
namer_of a n k d h at here =
    let (i, f, there, names, line) = h.pool.named k d at in
    (f, record { on = on_in entry_line n (a.roots d.partition) f (at_in (a.roots d.partition) i f there) (line ∙ here); names = names })

pool_front : (pools xs ys : List PoolEntry) (s : PoolState) → PoolReplays pools (xs ++ ys) s → PoolReplays pools xs s
pool_front pools [] ys s h = tt
pool_front pools (x ∷ xs) ys s h = (h.0, pool_front pools xs ys (pool_next x.act s) h.1)

pool_rest : (pools xs ys : List PoolEntry) (s : PoolState) → PoolReplays pools (xs ++ ys) s → PoolReplays pools ys (pool_replayed xs s)
pool_rest pools [] ys s h = h
pool_rest pools (x ∷ xs) ys s h = pool_rest pools xs ys (pool_next x.act s) h.1

-- the pool's entries of a line fit the pool before it
pub pool_line_replays : (a : Parts) (n : ℕ) → IsFiled a → PoolReplays a.pools (on pool_line n a.pools) (pool_at a n)
pool_line_replays a n h =
    pool_rest a.pools (below pool_line n a.pools) (on pool_line n a.pools) (new_pool a.supers)
    (pool_front a.pools (below pool_line n a.pools ++ on pool_line n a.pools) (past pool_line n a.pools) (new_pool a.supers)
    (subst (λ es. PoolReplays a.pools es (new_pool a.supers)) (below_on_past pool_line n a.pools h.order.pool) h.pool.fits))

-- an entry of the pool on a line is the one that the line's only entry of a journal names
one_named : (a : Parts) (n p j k : ℕ) (act : RootAct) (f : RootEntry) (d : PoolEntry) → IsFiled a → OnlyActs a.roots n p (act ∷ []) →
    on entry_line n (a.roots p) ≡ f ∷ [] →
    asked_by f.act ≡ Some j → slice_get a.pools k ≡ Some d → d.line ≡ n → k ≡ j
one_named a n p j k act f d h only one asks at here =
    let (g, namer) = namer_of a n k d h at here in
    elim (cases_eq d.partition p) [
      | inl same ↦
          let among : Contains (f ∷ []) g =
          subst (λ es. Contains es g) one (subst (λ q. Contains (on entry_line n (a.roots q)) g) same namer.on) in
          of_some k j (sym namer.names ∙ ap (λ (z : RootEntry). asked_by z.act) (sym (in_one f g among)) ∙ asks)
      | inr other ↦
          absurd (not_in_none g.act
          (subst (λ acts. Contains acts g.act) (only.1 d.partition other)
          (map_in (λ (z : RootEntry). z.act) (on entry_line n (a.roots d.partition)) g namer.on)))
    ]

pub asks_pool : (a : Parts) (n p j : ℕ) (act : RootAct) → IsFiled a → OnlyActs a.roots n p (act ∷ []) → asked_by act ≡ Some j →
    (e : PoolEntry) × IsAsked a n p j e
asks_pool a n p j act h only asks =
    let (f, one, is) = on_line a n p act only.0 in
    let asks' : asked_by f.act ≡ Some j = ap asked_by is ∙ asks in
    let front = root_at a n p in
    let fits : RootReplays a.pools (f ∷ []) front = subst (λ es. RootReplays a.pools es front) one (line_replays a n p h) in
    let (e, at) = asked_there a.pools f.act front j fits.0 asks' in
    let (member, line) = in_on entry_line n (a.roots p) f (subst (λ es. Contains es f) (sym one) (first_in f [])) in
    let named = named_of a p j f e h member asks' at in
    let here : e.line ≡ n = named.line ∙ line in
    let alone : on pool_line n a.pools ≡ e ∷ [] =
    on_alone pool_line n a.pools j e at here (λ k d there same. one_named a n p j k act f d h only one asks' there same) in
    let before = pool_at a n in
    let replays : PoolReplays a.pools (e ∷ []) before = subst (λ es. PoolReplays a.pools es before) alone (pool_line_replays a n h) in (
      e,
      record {
        only = alone;
        line = here;
        partition = named.partition;
        place = (on_one pool_line n a.pools e e j h.order.pool alone at here).0;
        act = ap (λ o. option_map (λ (d : PoolEntry). d.act) o) at;
        fits = subst (λ q. PoolActFits a.pools q e.act before) named.partition replays.0;
      },
    )

pub asks_nothing : (a : Parts) (n : ℕ) → IsFiled a → ((p : ℕ) (act : RootAct) → Contains (acts_of a.roots n p) act → asked_by act ≡ None) →
    on pool_line n a.pools ≡ []
asks_nothing a n h none =
    on_none pool_line n a.pools
    (λ d among here.
    let (k, at) = in_at a.pools d among in
    let (f, namer) = namer_of a n k d h at here in
    let no = none d.partition f.act (map_in (λ (z : RootEntry). z.act) (on entry_line n (a.roots d.partition)) f namer.on) in
    not_some k (sym no ∙ namer.names))

-- entries of the pool that are named on one line by the same acts
pub asked_alike : (a b : Parts) (n p i j : ℕ) (e f : PoolEntry) → Agrees n a b → IsAsked a n p i e → IsAsked b n p j f → e.act ≡ f.act →
    (i ≡ j) × (on pool_line n a.pools ≡ on pool_line n b.pools)
asked_alike a b n p i j e f agrees x y same =
    let it : e ≡ f = same_pool e f (x.line ∙ sym y.line) (x.partition ∙ sym y.partition) same in
    (x.place ∙ ap (λ ds. length ds) agrees.pool ∙ sym y.place, x.only ∙ ap (λ d. d ∷ []) it ∙ sym y.only)
