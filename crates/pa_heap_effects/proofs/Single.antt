-- The deed of a line with one act, which names the pool's next entry or none.
use Rattle.std.proofs.Common.{◌≡◌, ℕ, ◌<◌, ◌≤◌, List, [], ◌∷◌, ◌++◌, length, Some, refl, sym, ◌∙◌, ap, subst, arith}
use Rattle.std.specs.Prelude.{Contains, slice_get}
use Rattle.std.proofs.lemmas.Option.{slice_get_within}
use Rattle.pa_slot.specs.declared.word.SlotName.{SlotName}
use Rattle.pa_trace.specs.declared.script.Op.{Op}
use Rattle.pa_trace.specs.declared.script.Op.TheVariants as ops
use Rattle.pa_record.specs.declared.entry.Seen.{Seen}
use Rattle.pa_record.specs.declared.entry.Answer.{Answer}
use Rattle.pa_record.specs.declared.entry.Answer.TheVariants as answers
use Rattle.pa_record.specs.declared.pool.PoolEntry.{PoolEntry}
use Rattle.pa_record.specs.declared.root.RootEntry.{RootEntry}
use Rattle.pa_record.specs.declared.root.RootAct.{RootAct}
use Rattle.pa_record.specs.Pool.{PoolState, PoolActFits}
use Rattle.pa_record.specs.Root.{Root, root_next, RootActFits, asked_by}
use Rattle.pa_record.specs.Sound.{AsksFrom, least_after_all}
use Rattle.pa_record.specs.Laws.{leaves_by}
use Rattle.pa_record.proofs.PoolSteps.{pool_is_sound}
use Rattle.pa_record.proofs.Lawful.{journal_grows}
use Rattle.pa_record.proofs.Asked.{titles_are_asked}
use Rattle.pa_record.proofs.Calling.{calls_fit}
use Rattle.pa_rules.specs.declared.played.Played.{Played}
use Rattle.pa_rules.specs.Roots.{Journals, IsEntry, MakesEntry, IsFull}
use Rattle.pa_rules.specs.Caches.{Cache, Caches, OnlyActs, CacheRow}
use Rattle.pa_rules.proofs.Naming.{asked_is}
use Rattle.pa_rules.proofs.Owned.{title_of}
use Rattle.pa_legal.specs.Flows.{UnmapsNext}
use Rattle.pa_heap_effects.specs.Deeds.{entries_at, grown, root_at, IsPlacedTo}
use Rattle.pa_heap_effects.specs.Pooled.{pool_at, Asks}
use Rattle.pa_heap_effects.specs.Ops.{only_in, IsCalled}
use Rattle.pa_heap_effects.proofs.Numbering.{LeavesAt, one_numbered}
use Rattle.pa_heap_effects.proofs.Acting.{only_here, only_else, acted_called}
use Rattle.pa_lists.proofs.Indexed.{slice_get_at}
use Rattle.pa_lists.proofs.Elements.{in_one}

-- What a line owes of its one act.
pub record IsOneAct (partitions n p : ℕ) (x : Played) (pools more : List PoolEntry) (roots : Journals) (act : RootAct)
    (cache next : Cache) : Type 0 where
  pub line : x.line ≡ n
  pub below : p < partitions
  pub fits : RootActFits (pools ++ more) act (root_at pools roots p)
  pub asks : AsksFrom (least_after_all 0 (roots p)) (asked_by act)
  pub makes : MakesEntry (pools ++ more) p act x
  pub refusal : (j reg q size : ℕ) → x.answer ≡ answers.Full j → x.op ≡ ops.Alloc reg q size → (q ≡ p) × (j ≡ length (roots p)) × IsFull act
  pub row : OnlyActs (grown roots n (only_in p (act ∷ []))) x.line p (act ∷ []) →
      CacheRow partitions (grown roots n (only_in p (act ∷ []))) x x.answer cache next
  pub leaves : (s : SlotName) → LeavesAt (roots p) act s
  pub unmaps : UnmapsNext (grown roots n (only_in p (act ∷ []))) x

-- the entry of the act comes after all others
act_entry : (n p : ℕ) (roots : Journals) (act : RootAct) →
    IsEntry (grown roots n (only_in p (act ∷ []))) p (length (roots p)) (record { line = n; act = act })
act_entry n p roots act =
    subst (λ z. slice_get (roots p ++ entries_at n z) (length (roots p)) ≡ Some (record { line = n; act = act }))
    (sym (only_here p (act ∷ [])))
    (slice_get_at (roots p) [] (record { line = n; act = act }))

module _ (supers partitions n p : ℕ) (ps : List Played) (x : Played) (pools more : List PoolEntry) (roots : Journals) (act : RootAct)
    (all : Caches) (next : Cache) (h : IsPlacedTo partitions n ps pools roots all) where
  pub one_called : (after : Root) (plan : PoolState) → IsOneAct partitions n p x pools more roots act (all x.thread) next →
      Asks supers n pools more (only_in p (act ∷ [])) →
      root_next (pools ++ more) act (root_at pools roots p) ≡ after → pool_at supers (pools ++ more) ≡ plan →
      IsCalled supers partitions n x pools more roots p (act ∷ []) (all x.thread) next after plan
  one_called after plan a asks root pool = acted_called supers partitions n p ps x pools more roots (act ∷ []) all next after plan h
      (record {
        line = a.line;
        below = a.below;
        fits = (a.fits, a.asks, tt);
        makes = λ b among. subst (λ z. MakesEntry (pools ++ more) p z x) (in_one act b among) a.makes;
        refusal = λ j reg q size full op.
            let (place, at, is) = a.refusal j reg q size full op in (
              record { line = n; act = act },
              subst (λ z. IsEntry (grown roots n (only_in p (act ∷ []))) z j (record { line = n; act = act })) (sym place)
                  (subst (λ z. IsEntry (grown roots n (only_in p (act ∷ []))) p z (record { line = n; act = act })) (sym at)
                  (act_entry n p roots act)),
              refl,
              is,
            );
        row = a.row;
        numbers = λ s.
            let journal = journal_grows.pool_more pools more (roots p) (h.journals p) in
            let same = journal_grows.pool_same pools more (roots p) (h.journals p) in
            one_numbered (pools ++ more) (roots p) (record { line = n; act = act }) s journal
            (journal_grows.fits (pools ++ more) (roots p) (record { line = n; act = act }) journal
            (subst (λ r. RootActFits (pools ++ more) act r) (sym same) a.fits) a.asks)
            (h.numbers p s) (a.leaves s);
        unmaps = a.unmaps;
      })
      asks root pool

-- ---- the pool's next entry

module _ (supers partitions n : ℕ) (ps : List Played) (pools : List PoolEntry) (roots : Journals) (all : Caches)
    (h : IsPlacedTo partitions n ps pools roots all) where
  pub next_low : (p : ℕ) → least_after_all 0 (roots p) ≤ length pools
  next_low p = calls_fit.next pools (roots p) (h.journals p)

  pub entries_are : (pool_at supers pools).entries ≡ length pools
  entries_are = pool_is_sound.counted supers pools

  -- a slot that left a root belongs to an entry of the pool
  pub left_born : (p : ℕ) (e : RootEntry) (s : SlotName) → Contains (roots p) e → Contains (leaves_by e.act) s → s.born < length pools
  left_born p e s among leaves =
      let (t, made, is, len) = title_of pools (roots p) e s (h.journals p) among leaves in
      let (i, f, there, asked) = titles_are_asked pools (roots p) t (h.journals p) made in
      let (d, at) = asked_is pools (roots p) i t.born f (h.journals p) there asked in
      let low = slice_get_within pools t.born d at in
      let born : t.born ≡ s.born = ap (λ (z : SlotName). z.born) is in
      omega arith

pub asks_once : (supers n p : ℕ) (pools : List PoolEntry) (e : PoolEntry) (act : RootAct) → e.line ≡ n → e.partition ≡ p →
    PoolActFits pools e.partition e.act (pool_at supers pools) →
    asked_by act ≡ Some (length pools) → Asks supers n pools (e ∷ []) (only_in p (act ∷ []))
asks_once supers n p pools e act line place fits asked = record {
  line = line;
  fits = fits;
  act = act;
  only = ap (only_in p (act ∷ [])) place ∙ only_here p (act ∷ []);
  asked = asked;
  none = λ q ne. only_else p q (act ∷ []) (λ same. ne (same ∙ sym place));
}

-- ---- answers that are one

pub full_index : (a : Answer) (i j : ℕ) → a ≡ answers.Full i → a ≡ answers.Full j → j ≡ i
full_index a i j e f = cc

pub alloc_place : (op : Op) (reg p size reg' q size' : ℕ) → op ≡ ops.Alloc reg p size → op ≡ ops.Alloc reg' q size' → q ≡ p
alloc_place op reg p size reg' q size' e f = cc

pub not_done_made : (a : Answer) (seen : Seen) (usable : ℕ) (other : Seen) → a ≡ answers.Made seen usable → a ≡ answers.Done other → ⊥
not_done_made a seen usable other e f = cc

pub not_done_full : (a : Answer) (j : ℕ) (other : Seen) → a ≡ answers.Full j → a ≡ answers.Done other → ⊥
not_done_full a j other e f = cc

pub not_full_done : (a : Answer) (seen : Seen) (j : ℕ) → a ≡ answers.Done seen → a ≡ answers.Full j → ⊥
not_full_done a seen j e f = cc
