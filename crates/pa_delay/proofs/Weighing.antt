-- What slots weigh, as they leave their queue for the lists and the root: it is the same before and after. A weight is a count of
-- one slot: at a number, or whatever its number.
use Rattle.std.proofs.Common.{◌≡◌, ℕ, ◌+◌, ◌<◌, List, [], ◌∷◌, ◌++◌, refl, sym, ◌∙◌, ap, subst, arith, inl, inr}
use Rattle.std.proofs.lemmas.Bool.{cases_eq, eq-eqb, ne_eqb}
use Rattle.pa_record.specs.declared.numbered.Numbered.{Numbered}
use Rattle.pa_record.specs.declared.pool.PoolEntry.{PoolEntry}
use Rattle.pa_record.specs.declared.root.RootAct.{RootAct}
use Rattle.pa_record.specs.Root.{IsJournal}
use Rattle.pa_rules.specs.declared.played.Played.{Played}
use Rattle.pa_rules.specs.Roots.{Journals}
use Rattle.pa_rules.specs.Caches.{Cache, with_list, acts_of, IsOfClass, gives, kept, spilled, purge_acts}
use Rattle.pa_rules.proofs.Counted.{list_of_another}
use Rattle.pa_rules.proofs.Flowing.{class_real}
use Rattle.pa_delay.specs.Queue.{GoesPast}
use Rattle.pa_delay.specs.Delayed.{Waiting, HaveBytes, Leaves, AllLeave, DelayedPurge}

-- What one slot weighs, and what some do, what the lists of a partition do, and what acts take out of the root and give back to it.
pub record Weight : Type 0 where
  pub one : Numbered → ℕ
  pub all : List Numbered → ℕ
  pub lists : (ℕ → List Numbered) → ℕ
  pub out : List RootAct → ℕ
  pub back : List RootAct → ℕ
  pub none : all [] ≡ 0
  pub more : (n : Numbered) (ns : List Numbered) → all (n ∷ ns) ≡ one n + all ns
  pub kept_all : (class : ℕ) (ns : List Numbered) → all (kept class ns) + all (spilled class ns) ≡ all ns
  pub out_none : out [] ≡ 0
  pub back_none : back [] ≡ 0
  pub out_joined : (a b : List RootAct) → out (a ++ b) ≡ out a + out b
  pub back_joined : (a b : List RootAct) → back (a ++ b) ≡ back a + back b
  pub out_gives : (ns : List Numbered) → out (gives ns) ≡ 0
  pub back_gives : (ns : List Numbered) → back (gives ns) ≡ all ns
  pub out_purge : (f : ℕ → List Numbered) → out (purge_acts f 0 170) ≡ 0
  pub back_purge : (f : ℕ → List Numbered) → back (purge_acts f 0 170) ≡ lists f
  pub agree : (f g : ℕ → List Numbered) → ((c : ℕ) → f c ≡ g c) → lists f ≡ lists g
  pub empty : (f : ℕ → List Numbered) → ((c : ℕ) → f c ≡ []) → lists f ≡ 0
  pub changed : (cache after : Cache) (p class : ℕ) (ns : List Numbered) → class < 170 →
      ((c : ℕ) → after p c ≡ with_list cache p class ns p c) →
      lists (after p) + all (cache p class) ≡ lists (cache p) + all ns

all_joined : (w : Weight) (a b : List Numbered) → w.all (a ++ b) ≡ w.all a + w.all b
all_joined w [] b = let none = w.none in omega arith
all_joined w (n ∷ a) b =
    let whole = w.more n (a ++ b) in
    let part = w.more n a in
    let ih = all_joined w a b in
    omega arith

-- the slots of other partitions weigh nothing
abbrev pub WeighsOnly : Weight → Journals → ℕ → Type 0
WeighsOnly w roots p = (n : Numbered) (q class : ℕ) → IsOfClass roots n.slot q class → (q ≡ p → ⊥) → w.one n ≡ 0

module _ (w : Weight) (pools : List PoolEntry) (roots : Journals) (p : ℕ) (journals : (q : ℕ) → IsJournal pools (roots q))
    (only : WeighsOnly w roots p) where
  -- a slot of the partition leaves its queue
  own_leaves : (s : Numbered) (class : ℕ) (cache after : Cache) (acts : List RootAct) → IsOfClass roots s.slot p class →
      acts ≡ gives (spilled class (s ∷ cache p class)) →
      ((c : ℕ) → after p c ≡ with_list cache p class (kept class (s ∷ cache p class)) p c) →
      (w.one s + w.lists (cache p) ≡ w.lists (after p) + w.back acts) × (w.out acts ≡ 0)
  own_leaves s class cache after acts of are becomes =
      let list = s ∷ cache p class in
      let whole = w.more s (cache p class) in
      let parts = w.kept_all class list in
      let change = w.changed cache after p class (kept class list) (class_real pools roots s.slot p class (journals p) of) becomes in
      let back : w.back acts ≡ w.all (spilled class list) = ap w.back are ∙ w.back_gives (spilled class list) in
      (omega arith, ap w.out are ∙ w.out_gives (spilled class list))

  one_leaves : (s : Numbered) (cache after : Cache) (acts : ℕ → List RootAct) → Leaves roots s cache acts after →
      (w.one s + w.lists (cache p) ≡ w.lists (after p) + w.back (acts p)) × (w.out (acts p) ≡ 0)
  one_leaves s cache after acts (q, class, of, are, becomes) = elim (cases_eq q p) [
    | inl same ↦
        let of_own = subst (λ z. IsOfClass roots s.slot z class) same of in
        let acts_own : acts p ≡ gives (spilled class (s ∷ cache p class)) =
        are p ∙ (rw (eq-eqb p q (sym same)) (ap (λ z. gives (spilled class (s ∷ cache z class))) same)) in
        own_leaves s class cache after (acts p) of_own acts_own
        (λ c. becomes p c ∙ ap (λ z. with_list cache z class (kept class (s ∷ cache z class)) p c) same)
    | inr other ↦
        let none : acts p ≡ [] = are p ∙ rw (ne_eqb p q (λ e. other (sym e))) refl in
        let back : w.back (acts p) ≡ 0 = ap w.back none ∙ w.back_none in
        let light = only s q class of other in
        let same = w.agree (after p) (cache p)
        (λ c. becomes p c ∙ list_of_another cache q class (kept class (s ∷ cache q class)) p c (λ e. other (sym e))) in
        (omega arith, ap w.out none ∙ w.out_none)
  ]

  -- The slots that leave and the partition's lists before weigh what the lists after and what goes back to the root do.
  -- Nothing is taken out of the root.
  pub all_leave : (ss : List Numbered) (cache after : Cache) (acts : ℕ → List RootAct) → AllLeave roots ss cache acts after →
      (w.all ss + w.lists (cache p) ≡ w.lists (after p) + w.back (acts p)) × (w.out (acts p) ≡ 0)
  all_leave [] cache after acts (none, same) =
      let back : w.back (acts p) ≡ 0 = ap w.back (none p) ∙ w.back_none in
      let lists = w.agree (after p) (cache p) (same p) in
      let light = w.none in
      (omega arith, ap w.out (none p) ∙ w.out_none)
  all_leave (s ∷ ss) cache after acts (next, first, rest, here, later, joined) =
      let (even, out) = one_leaves s cache next first here in
      let (ih, none) = all_leave ss next after rest later in
      let whole = w.more s ss in
      let back : w.back (acts p) ≡ w.back (first p) + w.back (rest p) = ap w.back (joined p) ∙ w.back_joined (first p) (rest p) in
      let outs : w.out (acts p) ≡ w.out (first p) + w.out (rest p) = ap w.out (joined p) ∙ w.out_joined (first p) (rest p) in
      (omega arith, omega arith)

  -- a slot comes to a queue, and others leave it
  pub comes_weighs : (bytes : ℕ) (x : Played) (slot : Numbered) (gone : List Numbered) (acts : ℕ → List RootAct) (before after : Waiting) →
      GoesPast (HaveBytes roots) bytes (before.queue ++ slot ∷ []) gone after.queue → AllLeave roots gone before.lists acts after.lists →
      ((q : ℕ) → acts_of roots x.line q ≡ acts q) →
      (w.one slot + (w.lists (before.lists p) + w.all before.queue)
      ≡ w.lists (after.lists p) + w.all after.queue + w.back (acts_of roots x.line p))
      × (w.out (acts_of roots x.line p) ≡ 0)
  comes_weighs bytes x slot gone acts before after past leave are =
      let (even, out) = all_leave gone before.lists after.lists acts leave in
      let whole = all_joined w before.queue (slot ∷ []) in
      let last = w.more slot [] in
      let light = w.none in
      let parts = ap w.all past.parts ∙ all_joined w gone after.queue in
      let back : w.back (acts_of roots x.line p) ≡ w.back (acts p) = ap w.back (are p) in
      (omega arith, ap w.out (are p) ∙ out)

  -- a purge gives back all that the queue and the lists had
  pub purge_weighs : (partitions : ℕ) (x : Played) (slots : ℕ) (before after : Waiting) → p < partitions →
      DelayedPurge partitions roots x slots before after →
      (w.lists (before.lists p) + w.all before.queue ≡ w.back (acts_of roots x.line p))
      × (w.lists (after.lists p) + w.all after.queue ≡ 0) × (w.out (acts_of roots x.line p) ≡ 0)
  purge_weighs partitions x slots before after below (acts, mid, leave, are, count, lists, queue) =
      let (even, none) = all_leave before.queue before.lists mid acts leave in
      let purge = purge_acts (mid p) 0 170 in
      let back : w.back (acts_of roots x.line p) ≡ w.back (acts p) + w.back purge =
      ap w.back (are p below) ∙ w.back_joined (acts p) purge in
      let out : w.out (acts_of roots x.line p) ≡ w.out (acts p) + w.out purge = ap w.out (are p below) ∙ w.out_joined (acts p) purge in
      let all_back = w.back_purge (mid p) in
      let none_out = w.out_purge (mid p) in
      let no_lists = w.empty (after.lists p) (lists p) in
      let no_queue : w.all after.queue ≡ 0 = ap w.all queue ∙ w.none in
      (omega arith, omega arith, omega arith)
