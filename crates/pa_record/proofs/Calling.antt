-- What a call did is an entry that fits.
use Rattle.std.proofs.Common.{◌≡◌, ℕ, zero, suc, ◌<◌, ◌≤◌, List, [], ◌∷◌, ◌++◌, map, length, sym, ◌∙◌, ap, subst, arith, Some, None}
use Rattle.std.specs.Prelude.{option_map}
use Rattle.pa_buckets.specs.Bands.{fill_of}
use Rattle.pa_record.specs.declared.pool.PoolEntry.{PoolEntry}
use Rattle.pa_record.specs.declared.pool.PoolAct.{PoolAct}
use Rattle.pa_record.specs.declared.pool.PoolAct.TheVariants as pool
use Rattle.pa_record.specs.declared.root.RootEntry.{RootEntry}
use Rattle.pa_record.specs.declared.root.RootAct.{RootAct}
use Rattle.pa_record.specs.declared.root.RootAct.TheVariants.{Fill, Map, Full, Give, Unmap, Purge}
use Rattle.pa_record.specs.Pool.{act_at}
use Rattle.pa_record.specs.Spans.{name_of}
use Rattle.pa_record.specs.Root.{Root, new_root, takes, opened, super_of, names, root_next, RootActFits, RootReplays, asked_by}
use Rattle.pa_record.specs.Sound.{least_after, least_after_all}
use Rattle.pa_record.specs.Laws.{CallsFit}
use Rattle.pa_lists.proofs.Members.{not_some}
use Rattle.pa_lists.proofs.Indexed.{slice_get_at}

-- the pool's entry after all others
last_act : (pools : List PoolEntry) (e : PoolEntry) (a : PoolAct) → e.act ≡ a → act_at (pools ++ e ∷ []) (length pools) ≡ Some a
last_act pools e a same = ap (λ o. option_map (λ (x : PoolEntry). x.act) o) (slice_get_at pools [] e) ∙ ap Some same

opened_same : (pools : List PoolEntry) (e : PoolEntry) (first : ℕ) (r : Root) → e.act ≡ pool.Take 1 (Some first) →
    opened (super_of (act_at (pools ++ e ∷ []) (length pools))) (length pools) r ≡ opened first (length pools) r
opened_same pools e first r same = ap (λ a. opened (super_of a) (length pools) r) (last_act pools e _ same)

-- an entry that a list has is below its length
pub act_low : (pools : List PoolEntry) (j : ℕ) (a : PoolAct) → act_at pools j ≡ Some a → j < length pools
act_low [] j a e = absurd (not_some a e)
act_low (x ∷ pools) zero a e = omega arith
act_low (x ∷ pools) (suc j) a e = let p = act_low pools j a e in omega arith

-- the entry that a journal entry names is in the pool's list
least_low : (pools : List PoolEntry) (act : RootAct) (n : ℕ) (r : Root) → RootActFits pools act r → n ≤ length pools →
    least_after n (asked_by act) ≤ length pools
least_low pools (Fill class None slots) n r fits low = low
least_low pools (Fill class (Some j) slots) n r fits low = let p = act_low pools j _ fits.1.2 in omega arith
least_low pools (Map asked slot len) n r fits low = let p = act_low pools asked _ fits.1 in omega arith
least_low pools (Full None asked) n r fits low = let p = act_low pools asked _ fits.1 in omega arith
least_low pools (Full (Some class) asked) n r fits low = let p = act_low pools asked _ fits.1 in omega arith
least_low pools (Give slots) n r fits low = low
least_low pools (Unmap asked slot) n r fits low = let p = act_low pools asked _ fits.4 in omega arith
least_low pools Purge n r fits low = low

all_low : (pools : List PoolEntry) (es : List RootEntry) (n : ℕ) (r : Root) → RootReplays pools es r → n ≤ length pools →
    least_after_all n es ≤ length pools
all_low pools [] n r fits low = low
all_low pools (e ∷ es) n r fits low =
    all_low pools es (least_after n (asked_by e.act)) (root_next pools e.act r) fits.1 (least_low pools e.act n r fits.0 low)

pub calls_fit : CallsFit
calls_fit = record {
  fill = λ pools e class first slots r real none act same. (
    real,
    (none, first, last_act pools e (pool.Take 1 (Some first)) act),
    subst (λ s. map name_of (takes class (fill_of class) s).titles ≡ names slots) (sym (opened_same pools e first r act)) same,
  );
  filled = λ pools e class first slots r act. ap (λ s. (takes class (fill_of class) s).root) (opened_same pools e first r act);
  full = λ pools e class r none act. (none, last_act pools e (pool.Take 1 None) act);
  map = λ pools e first len slot r act start born. (first, last_act pools e _ act, start, born);
  full_map = λ pools e count r act. (count, last_act pools e (pool.Take count None) act);
  unmap = λ pools e first len slot r among start act. (len, first, among, start, last_act pools e _ act);
  next = λ pools journal h. all_low pools journal 0 new_root h.replays (omega arith);
}
