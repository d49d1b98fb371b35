-- A journal goes on fitting while its pool gets entries, and with one entry more that fits.
use Rattle.std.proofs.Common.{◌≡◌, ℕ, List, [], ◌∷◌, ◌++◌, map, refl, sym, ◌∙◌, ap, subst, Option, Some, None}
use Rattle.std.specs.List.{cons_option}
use Rattle.pa_buckets.specs.Bands.{fill_of}
use Rattle.pa_record.specs.declared.pool.PoolEntry.{PoolEntry}
use Rattle.pa_record.specs.declared.root.RootEntry.{RootEntry}
use Rattle.pa_record.specs.declared.root.RootAct.{RootAct}
use Rattle.pa_record.specs.declared.root.RootAct.TheVariants.{Fill, Map, Full, Give, Unmap, Purge}
use Rattle.pa_record.specs.Spans.{name_of}
use Rattle.pa_record.specs.Root.{Root, takes, opened, opened_by, super_of, names, Asked, FullFits, root_next, root_replayed, RootActFits, RootReplays, RiseFrom, all_asked, asked_by}
use Rattle.pa_record.specs.Sound.{AsksFrom, least_after, least_after_all}
use Rattle.pa_record.proofs.PoolSteps.{act_at_more}

-- the root that a fill opens is the same if the pool gets more entries
opened_more : (pools more : List PoolEntry) (class : ℕ) (asked : Option ℕ) (r : Root) → Asked pools class asked r →
    opened_by (pools ++ more) asked r ≡ opened_by pools asked r
opened_more pools more class None r h = refl
opened_more pools more class (Some j) r (none, first, run) = ap (λ a. opened (super_of a) j r) (act_at_more pools more j _ run ∙ sym run)

asked_more : (pools more : List PoolEntry) (class : ℕ) (asked : Option ℕ) (r : Root) → Asked pools class asked r →
    Asked (pools ++ more) class asked r
asked_more pools more class None r h = h
asked_more pools more class (Some j) r (none, first, run) = (none, first, act_at_more pools more j _ run)

full_more : (pools more : List PoolEntry) (class : Option ℕ) (asked : ℕ) (r : Root) → FullFits pools class asked r →
    FullFits (pools ++ more) class asked r
full_more pools more None asked r (count, run) = (count, act_at_more pools more asked _ run)
full_more pools more (Some class) asked r (none, run) = (none, act_at_more pools more asked _ run)

pub fits_more : (pools more : List PoolEntry) (act : RootAct) (r : Root) → RootActFits pools act r → RootActFits (pools ++ more) act r
fits_more pools more (Fill class asked slots) r (real, asks, same) = (
  real,
  asked_more pools more class asked r asks,
  subst (λ s. map name_of (takes class (fill_of class) s).titles ≡ names slots) (sym (opened_more pools more class asked r asks)) same,
)
fits_more pools more (Map asked slot len) r (first, run, start, born) = (first, act_at_more pools more asked _ run, start, born)
fits_more pools more (Full class asked) r h = full_more pools more class asked r h
fits_more pools more (Give slots) r h = h
fits_more pools more (Unmap asked slot) r (len, first, among, start, run) = (len, first, among, start, act_at_more pools more asked _ run)
fits_more pools more Purge r h = tt

pub next_more : (pools more : List PoolEntry) (act : RootAct) (r : Root) → RootActFits pools act r →
    root_next (pools ++ more) act r ≡ root_next pools act r
next_more pools more (Fill class asked slots) r (real, asks, same) =
    ap (λ s. (takes class (fill_of class) s).root) (opened_more pools more class asked r asks)
next_more pools more (Map asked slot len) r h = refl
next_more pools more (Full class asked) r h = refl
next_more pools more (Give slots) r h = refl
next_more pools more (Unmap asked slot) r h = refl
next_more pools more Purge r h = refl

pub replays_more : (pools more : List PoolEntry) (es : List RootEntry) (r : Root) → RootReplays pools es r →
    RootReplays (pools ++ more) es r × (root_replayed (pools ++ more) es r ≡ root_replayed pools es r)
replays_more pools more [] r h = (tt, refl)
replays_more pools more (e ∷ es) r h =
    let same = next_more pools more e.act r h.0 in
    let (fits, state) = replays_more pools more es (root_next pools e.act r) h.1 in (
      (fits_more pools more e.act r h.0, subst (λ s. RootReplays (pools ++ more) es s) (sym same) fits),
      ap (λ s. root_replayed (pools ++ more) es s) same ∙ state,
    )

-- one entry more
pub replayed_push : (pools : List PoolEntry) (es : List RootEntry) (e : RootEntry) (r : Root) →
    root_replayed pools (es ++ e ∷ []) r ≡ root_next pools e.act (root_replayed pools es r)
replayed_push pools [] e r = refl
replayed_push pools (x ∷ es) e r = replayed_push pools es e (root_next pools x.act r)

pub replays_push : (pools : List PoolEntry) (es : List RootEntry) (e : RootEntry) (r : Root) → RootReplays pools es r →
    RootActFits pools e.act (root_replayed pools es r) →
    RootReplays pools (es ++ e ∷ []) r
replays_push pools [] e r h fits = (fits, tt)
replays_push pools (x ∷ es) e r h fits = (h.0, replays_push pools es e (root_next pools x.act r) h.1 fits)

rise_one : (n : ℕ) (o : Option ℕ) → AsksFrom n o → RiseFrom n (cons_option o [])
rise_one n None h = tt
rise_one n (Some j) h = (h, tt)

pub rise_push : (n : ℕ) (es : List RootEntry) (e : RootEntry) → RiseFrom n (all_asked es) →
    AsksFrom (least_after_all n es) (asked_by e.act) → RiseFrom n (all_asked (es ++ e ∷ []))
rise_push n [] e h asks = rise_one n (asked_by e.act) asks
rise_push n (x ∷ es) e h asks =
    by_asked n (asked_by x.act) (all_asked es) (all_asked (es ++ e ∷ [])) h
    (λ rest. rise_push (least_after n (asked_by x.act)) es e rest asks)
  where
    by_asked : (n : ℕ) (o : Option ℕ) (xs ys : List ℕ) → RiseFrom n (cons_option o xs) →
        (RiseFrom (least_after n o) xs → RiseFrom (least_after n o) ys) → RiseFrom n (cons_option o ys)
    by_asked n None xs ys h further = further h
    by_asked n (Some j) xs ys h further = (h.0, further h.1)

pub replays_rest : (pools : List PoolEntry) (xs ys : List RootEntry) (r : Root) → RootReplays pools (xs ++ ys) r →
    RootReplays pools ys (root_replayed pools xs r)
replays_rest pools [] ys r h = h
replays_rest pools (x ∷ xs) ys r h = replays_rest pools xs ys (root_next pools x.act r) h.1
