-- An entry of the pool that an entry of a journal names is there, if the journal's entry fits.
use Rattle.std.proofs.Common.{◌≡◌, ℕ, zero, suc, List, [], ◌∷◌, Option, Some, None, refl, ap, ◌∙◌, subst}
use Rattle.std.specs.Prelude.{slice_get, option_map}
use Rattle.pa_record.specs.declared.pool.PoolEntry.{PoolEntry}
use Rattle.pa_record.specs.declared.pool.PoolAct.{PoolAct}
use Rattle.pa_record.specs.declared.root.RootEntry.{RootEntry}
use Rattle.pa_record.specs.declared.root.RootAct.{RootAct}
use Rattle.pa_record.specs.declared.root.RootAct.TheVariants.{Fill, Map, Full, Give, Unmap, Purge}
use Rattle.pa_record.specs.Pool.{act_at}
use Rattle.pa_record.specs.Root.{Root, new_root, root_next, RootActFits, RootReplays, IsJournal, asked_by}
use Rattle.pa_lists.proofs.Members.{of_some, not_some}

-- what has an act is there
act_there : (o : Option PoolEntry) (act : PoolAct) → option_map (λ (e : PoolEntry). e.act) o ≡ Some act → (e : PoolEntry) × (o ≡ Some e)
act_there None act at = absurd (not_some act at)
act_there (Some e) act at = (e, refl)

entry_at : (pools : List PoolEntry) (i j : ℕ) (act : PoolAct) → Some i ≡ Some j → act_at pools i ≡ Some act → (e : PoolEntry) ×
    (slice_get pools j ≡ Some e)
entry_at pools i j act same at = act_there (slice_get pools j) act (subst (λ k. act_at pools k ≡ Some act) (of_some i j same) at)

pub asked_there : (pools : List PoolEntry) (act : RootAct) (r : Root) (j : ℕ) → RootActFits pools act r → asked_by act ≡ Some j →
    (e : PoolEntry) × (slice_get pools j ≡ Some e)
asked_there pools (Fill class None slots) r j fits asks = absurd (not_some j asks)
asked_there pools (Fill class (Some i) slots) r j fits asks = entry_at pools i j _ asks fits.1.2
asked_there pools (Map i slot len) r j fits asks = entry_at pools i j _ asks fits.1
asked_there pools (Full None i) r j fits asks = entry_at pools i j _ asks fits.1
asked_there pools (Full (Some class) i) r j fits asks = entry_at pools i j _ asks fits.1
asked_there pools (Give slots) r j fits asks = absurd (not_some j asks)
asked_there pools (Unmap i slot) r j fits asks = entry_at pools i j _ asks fits.4
asked_there pools Purge r j fits asks = absurd (not_some j asks)

asked_from : (pools : List PoolEntry) (es : List RootEntry) (r : Root) (i j : ℕ) (e : RootEntry) → RootReplays pools es r →
    slice_get es i ≡ Some e → asked_by e.act ≡ Some j →
    (d : PoolEntry) × (slice_get pools j ≡ Some d)
asked_from pools [] r i j e fits at asks = absurd (not_some e at)
asked_from pools (x ∷ es) r zero j e fits at asks =
    asked_there pools x.act r j fits.0 (ap (λ (z : RootEntry). asked_by z.act) (of_some x e at) ∙ asks)
asked_from pools (x ∷ es) r (suc i) j e fits at asks = asked_from pools es (root_next pools x.act r) i j e fits.1 at asks

-- an entry of the pool that a journal names
pub asked_is : (pools : List PoolEntry) (journal : List RootEntry) (i j : ℕ) (e : RootEntry) → IsJournal pools journal →
    slice_get journal i ≡ Some e → asked_by e.act ≡ Some j →
    (d : PoolEntry) × (slice_get pools j ≡ Some d)
asked_is pools journal i j e h at asks = asked_from pools journal new_root i j e h.replays at asks
