-- The walk of the caches along the records: a row leads to one thread's lists, and records lead to one.
use Rattle.std.proofs.Common.{◌≡◌, ℕ, ◌+◌, ◌<◌, ◌≤◌, Bool, true, false, List, [], ◌∷◌, ◌++◌, drop, take, get_or, length, Option, Some, None, refl, sym, ◌∙◌, ap, subst, arith, inl, inr}
use Rattle.std.specs.Prelude.{IsSome}
use Rattle.std.proofs.lemmas.Bool.{cases_lt}
use Rattle.std.proofs.lemmas.List.{take_more}
use Rattle.pa_slot.specs.declared.word.SlotName.{SlotName}
use Rattle.pa_slot.specs.declared.word.Step.{Step}
use Rattle.pa_slot.specs.Count.{number_of}
use Rattle.pa_record.specs.declared.entry.Seen.{Seen}
use Rattle.pa_record.specs.declared.entry.Answer.{Answer}
use Rattle.pa_record.specs.declared.entry.Answer.TheVariants as answers
use Rattle.pa_record.specs.declared.numbered.Numbered.{Numbered}
use Rattle.pa_record.specs.declared.root.RootAct.{RootAct}
use Rattle.pa_record.specs.declared.root.RootAct.TheVariants.{Fill}
use Rattle.pa_lists.proofs.Members.{of_some}
use Rattle.pa_rules.specs.declared.played.Played.{Played}
use Rattle.pa_rules.specs.declared.verdict.Place.TheVariants as places
use Rattle.pa_rules.specs.Played.{step_of}
use Rattle.pa_rules.specs.Roots.{Journals}
use Rattle.pa_rules.specs.Caches.{Cache, Caches, CacheRow, CachesTo, DoneRow, FilledFirst, FrontIs, FullRow, MadeRow, NoActs, ReturnRow, SameLists, kept, no_caches, with_cache, with_list}
use Rattle.pa_rules.specs.HeapDemands.{CachesDemand}
use Rattle.pa_rules.specs.Tells.{TellsFirst}
use Rattle.pa_rules.proofs.Asking.{class_once, class_or_map}
use Rattle.pa_rules.proofs.CachesAfter.{caches_snoc}
use Rattle.pa_audit_holders.specs.Homes.{HasOneHome}
use Rattle.pa_audit_holders.specs.Cached.{CachesSoFar, TellsPlayed}
use Rattle.pa_audit_holders.specs.Rows.{TellsNext}
use Rattle.pa_lists.proofs.Indexed.{none_past, here_is}
use Rattle.pa_lists.proofs.Tests.{met_more}

-- every slot of the journals has one kind
abbrev pub HaveOneKind : ℕ → Journals → Type 0
HaveOneKind version roots = (s : SlotName) → HasOneHome version roots s

-- ---- a row leads to one thread's lists

-- two caches that are the same lists as a third one are one
one_becomes : (next other cache : Cache) → SameLists next cache → SameLists other cache → next ≡ other
one_becomes next other cache h k = λ i p c. (h p c ∙ sym (k p c)) i

pub filled_one : (roots : Journals) (line p class : ℕ) (list xs ys : List Numbered) → FilledFirst roots line p class list xs →
    FilledFirst roots line p class list ys → xs ≡ ys
filled_one roots line p class [] xs ys (asked, only) (asked', only') =
    let same : ◌≡◌ {A = List RootAct} (Fill class asked xs ∷ []) (Fill class asked' ys ∷ []) = sym only.0 ∙ only'.0 in
    cc same
filled_one roots line p class (z ∷ zs) xs ys (same, none) (same', none') = same ∙ sym same'

-- a slot of a class was made
abbrev ListRow : Journals → ℕ → Seen → Cache → Cache → ℕ → ℕ → Type 0
ListRow roots line seen cache after p class =
    (xs rest : List Numbered) × FilledFirst roots line p class (cache p class) xs × FrontIs seen xs rest ×
    SameLists after (with_list cache p class rest)

list_one : (roots : Journals) (line p class : ℕ) (seen : Seen) (cache next other : Cache) → ListRow roots line seen cache next p class →
    ListRow roots line seen cache other p class → next ≡ other
list_one roots line p class seen cache next other (xs, rest, filled, front, becomes) (ys, rest', filled', front', becomes') =
    let head : Numbered = record { slot = seen.slot; number = number_of seen.found.0 } in
    let lists : head ∷ rest ≡ head ∷ rest' = sym front ∙ filled_one roots line p class (cache p class) xs ys filled filled' ∙ front' in
    one_becomes next other (with_list cache p class rest) becomes
    (subst (λ zs. SameLists other (with_list cache p class zs)) (sym (ap (drop 1) lists)) becomes')

made_one : (roots : Journals) (x : Played) (seen : Seen) (cache next other : Cache) → MadeRow roots x seen cache next →
    MadeRow roots x seen cache other → next ≡ other
made_one roots x seen cache next other (inl (p, class, xs, rest, asks, filled, front, becomes))
    (inl (q, class', ys, rest', asks', filled', front', becomes')) =
    let (e, f) = class_once x q p class' class asks' asks in
    list_one roots x.line p class seen cache next other (xs, rest, filled, front, becomes)
    (subst (λ z. ListRow roots x.line seen cache other z class) e
    (subst (λ z. ListRow roots x.line seen cache other q z) f (ys, rest', filled', front', becomes')))
made_one roots x seen cache next other (inl (p, class, xs, rest, asks, filled, front, becomes))
    (inr (q, size, asked, len, asks', only', becomes')) =
    absurd (class_or_map x p q class size asks asks')
made_one roots x seen cache next other (inr (p, size, asked, len, asks, only, becomes))
    (inl (q, class, ys, rest', asks', filled', front', becomes')) =
    absurd (class_or_map x q p class size asks' asks)
made_one roots x seen cache next other (inr (p, size, asked, len, asks, only, becomes))
    (inr (q, size', asked', len', asks', only', becomes')) =
    one_becomes next other cache becomes becomes'

full_one : (roots : Journals) (x : Played) (cache next other : Cache) → FullRow roots x cache next →
    FullRow roots x cache other → next ≡ other
full_one roots x cache next other (inl (p, class, i, asks, empty, only, becomes)) (inl (q, class', j, asks', empty', only', becomes')) =
    one_becomes next other cache becomes becomes'
full_one roots x cache next other (inl (p, class, i, asks, empty, only, becomes)) (inr (q, size, j, asks', only', becomes')) =
    one_becomes next other cache becomes becomes'
full_one roots x cache next other (inr (p, size, i, asks, only, becomes)) (inl (q, class, j, asks', empty, only', becomes')) =
    one_becomes next other cache becomes becomes'
full_one roots x cache next other (inr (p, size, i, asks, only, becomes)) (inr (q, size', j, asks', only', becomes')) =
    one_becomes next other cache becomes becomes'

-- a slot came back
back_one : {version : ℕ} (roots : Journals) (x : Played) (slot : Numbered) (cache next other : Cache) → HasOneHome version roots slot.slot
    → ReturnRow roots x slot cache next → ReturnRow roots x slot cache other → next ≡ other
back_one roots x slot cache next other kind (inl (p, class, of, only, becomes)) (inl (q, class', of', only', becomes')) =
    let (e, f) = kind.class p q class class' of of' in
    one_becomes next other (with_list cache p class (kept class (slot ∷ cache p class))) becomes
    (subst (λ z. SameLists other (with_list cache z class (kept class (slot ∷ cache z class)))) (sym e)
    (subst (λ z. SameLists other (with_list cache q z (kept z (slot ∷ cache q z)))) (sym f) becomes'))
back_one roots x slot cache next other kind (inl (p, class, of, only, becomes)) (inr (q, j, number, direct, only', becomes')) =
    absurd (kind.either p q class of direct)
back_one roots x slot cache next other kind (inr (p, i, number, direct, only, becomes)) (inl (q, class, of, only', becomes')) =
    absurd (kind.either q p class of direct)
back_one roots x slot cache next other kind (inr (p, i, number, direct, only, becomes)) (inr (q, j, number', direct', only', becomes')) =
    one_becomes next other cache becomes becomes'

done_one : {version : ℕ} (roots : Journals) (x : Played) (o : Option Step) (seen : Seen) (cache next other : Cache) →
    HaveOneKind version roots
    → DoneRow roots x o seen cache next → DoneRow roots x o seen cache other → next ≡ other
done_one roots x None seen cache next other kinds (none, becomes) (none', becomes') = one_becomes next other cache becomes becomes'
done_one roots x (Some step) seen cache next other kinds (inl (returns, row)) (inl (returns', row')) =
    back_one roots x (record { slot = seen.slot; number = number_of seen.found.0 + 1 }) cache next other (kinds seen.slot) row row'
done_one roots x (Some step) seen cache next other kinds (inl (returns, row)) (inr (not, none, becomes)) = absurd (not returns)
done_one roots x (Some step) seen cache next other kinds (inr (not, none, becomes)) (inl (returns, row')) = absurd (not returns)
done_one roots x (Some step) seen cache next other kinds (inr (not, none, becomes)) (inr (not', none', becomes')) =
    one_becomes next other cache becomes becomes'

quiet_one : (roots : Journals) (x : Played) (cache next other : Cache) → NoActs roots x.line × SameLists next cache →
    NoActs roots x.line × SameLists other cache → next ≡ other
quiet_one roots x cache next other (none, becomes) (none', becomes') = one_becomes next other cache becomes becomes'

pub row_one : {version : ℕ} (partitions : ℕ) (roots : Journals) (x : Played) (a : Answer) (cache next other : Cache) →
    HaveOneKind version roots
    → CacheRow partitions roots x a cache next → CacheRow partitions roots x a cache other → next ≡ other
row_one partitions roots x (answers.Made seen usable) cache next other kinds row row' = made_one roots x seen cache next other row row'
row_one partitions roots x (answers.Done seen) cache next other kinds row row' =
    done_one roots x (step_of x.op) seen cache next other kinds row row'
row_one partitions roots x (answers.Full entry) cache next other kinds row row' = full_one roots x cache next other row row'
row_one partitions roots x (answers.Purged slots) cache next other kinds (acts, counted, empty) (acts', counted', empty') =
    λ i p c. (empty p c ∙ sym (empty' p c)) i
row_one partitions roots x a cache next other kinds row row' = quiet_one roots x cache next other row row'

-- ---- the walk

-- the lists that records lead to are one
pub caches_one : {version : ℕ} (partitions : ℕ) (roots : Journals) (all after other : Caches) (ps : List Played) → HaveOneKind version roots
    → CachesTo partitions roots all ps after → CachesTo partitions roots all ps other → after ≡ other
caches_one partitions roots all after other [] kinds h k = h ∙ sym k
caches_one partitions roots all after other (x ∷ ps) kinds (next, row, more) (next', row', more') =
    let same : next' ≡ next = row_one partitions roots x x.answer (all x.thread) next' next kinds row' row in
    caches_one partitions roots (with_cache all x.thread next) after other ps kinds more
    (subst (λ (z : Cache). CachesTo partitions roots (with_cache all x.thread z) ps other) same more')

pub caches_start : (partitions : ℕ) (roots : Journals) (ps : List Played) (all : Caches) → all ≡ no_caches →
    CachesSoFar partitions roots ps all 0
caches_start partitions roots ps all none = record { met = λ j below. absurd (omega (arith, below)); led = none }

pub caches_not : {version : ℕ} (partitions : ℕ) (roots : Journals) (ps : List Played) (all after : Caches) (i : ℕ) (d : Played) (b : Bool)
    → HaveOneKind version roots → i < length ps → CachesSoFar partitions roots ps all i
    → TellsNext partitions roots (get_or ps i d) all after b → b ≡ false
    → TellsFirst (λ k. CachesDemand partitions roots ps (places.Record k)) (Some i)
caches_not partitions roots ps all after i d b kinds below h told misfits =
    let x = get_or ps i d in (
      λ met. let (before, next, to, row) = met x (here_is ps i d below) in
          let same : before ≡ all = caches_one partitions roots no_caches before all (take i ps) kinds to h.led in
          told.misfits misfits next (subst (λ (z : Caches). CacheRow partitions roots x x.answer (z x.thread) next) same row),
      h.met,
    )

pub caches_more : (partitions : ℕ) (roots : Journals) (ps : List Played) (all after : Caches) (i : ℕ) (d : Played) (b : Bool) →
    i < length ps → CachesSoFar partitions roots ps all i
    → TellsNext partitions roots (get_or ps i d) all after b → b ≡ true
    → CachesSoFar partitions roots ps after (i + 1)
caches_more partitions roots ps all after i d b below h told fits =
    let (next, row, is) = told.fits fits in
    let x = get_or ps i d in
    let to = caches_snoc partitions roots no_caches all (take i ps) x next h.led row in
    record {
      met = met_more (λ k. CachesDemand partitions roots ps (places.Record k)) i h.met
          (λ y at. let same : x ≡ y = of_some x y (sym (here_is ps i d below) ∙ at) in
          subst (λ (z : Played). (all : Caches) × (next : Cache) × CachesTo partitions roots no_caches (take i ps) all ×
          CacheRow partitions roots z z.answer (all z.thread) next) same
          (all, next, h.led, row));
      led = subst (λ (zs : List Played). CachesTo partitions roots no_caches zs after) (sym (take_more ps i d below))
          (subst (λ (z : Caches). CachesTo partitions roots no_caches (take i ps ++ x ∷ []) z) (sym is) to);
    }

pub caches_all : (partitions : ℕ) (roots : Journals) (ps : List Played) (all : Caches) (i : ℕ) → length ps ≤ i →
    CachesSoFar partitions roots ps all i
    → TellsFirst (λ k. CachesDemand partitions roots ps (places.Record k)) None
caches_all partitions roots ps all i end h j = elim (cases_lt j i) [
  | inl before ↦ h.met j before
  | inr least ↦ λ x at. absurd (none_past ps j x (omega (arith, end, least)) at)
]

-- all records were played
pub played_all : (partitions : ℕ) (roots : Journals) (ps : List Played) (all : Caches) (end : ℕ) (o : Option ℕ) → length ps ≤ end →
    TellsPlayed partitions roots ps all end o
    → TellsFirst (λ k. CachesDemand partitions roots ps (places.Record k)) o
played_all partitions roots ps all end None past h = caches_all partitions roots ps all end past h
played_all partitions roots ps all end (Some i) past h = h

-- if none fails they are played
pub played_none : (partitions : ℕ) (roots : Journals) (ps : List Played) (all : Caches) (end : ℕ) (o : Option ℕ) → (IsSome o → ⊥)
    → TellsPlayed partitions roots ps all end o → CachesSoFar partitions roots ps all end
played_none partitions roots ps all end None none h = h
played_none partitions roots ps all end (Some i) none h = absurd (none refl)
