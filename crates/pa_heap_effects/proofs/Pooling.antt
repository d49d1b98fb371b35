-- The pool with a line's entry more.
use Rattle.std.proofs.Common.{◌≡◌, ℕ, zero, suc, ◌+◌, ◌<◌, List, [], ◌∷◌, ◌++◌, length, Option, Some, None, refl, sym, ◌∙◌, ap, subst, arith, ◌⊎◌, inl, inr, length-append}
use Rattle.std.specs.Prelude.{slice_get}
use Rattle.std.proofs.lemmas.Bool.{cases_eq}
use Rattle.std.proofs.lemmas.List.{append-nil}
use Rattle.std.proofs.lemmas.List.Elements.{Contains-push_cases}
use Rattle.pa_record.specs.declared.pool.PoolEntry.{PoolEntry}
use Rattle.pa_record.specs.declared.root.RootEntry.{RootEntry}
use Rattle.pa_record.specs.declared.root.RootAct.{RootAct}
use Rattle.pa_record.specs.Root.{asked_by}
use Rattle.pa_lists.proofs.Members.{not_some, of_some}
use Rattle.pa_record.proofs.PoolSteps.{slice_get_more, pool_grows}
use Rattle.pa_rules.specs.Roots.{Journals, IsEntry, Names}
use Rattle.pa_heap_effects.specs.Deeds.{Acts, entries_at, grown}
use Rattle.pa_heap_effects.specs.Pooled.{IsPooledTo, AsksNone, AsksOnce}
use Rattle.pa_heap_effects.specs.Laws.{PoolExtends}
use Rattle.pa_heap_effects.proofs.Growing.{sorted_push}
use Rattle.pa_lists.proofs.Indexed.{at_in, slice_get_at}

-- an element of two lists is one of the first, or comes after it
pub get_cases : {A : Type 0} (xs ys : List A) (i : ℕ) (x : A) → slice_get (xs ++ ys) i ≡ Some x → (slice_get xs i ≡ Some x) ⊎
    ((k : ℕ) × (i ≡ length xs + k) × (slice_get ys k ≡ Some x))
get_cases [] ys i x e = inr (i, omega arith, e)
get_cases (y ∷ xs) ys zero x e = inl e
get_cases (y ∷ xs) ys (suc i) x e = elim (get_cases xs ys i x e) [
  | inl old ↦ inl old
  | inr new ↦ inr (new.0, let at = new.1 in omega arith, new.2)
]

entry_act : (n : ℕ) (acts : List RootAct) (k : ℕ) (e : RootEntry) → slice_get (entries_at n acts) k ≡ Some e → slice_get acts k ≡ Some e.act
entry_act n [] k e is = absurd (not_some e is)
entry_act n (a ∷ acts) zero e is = ap Some (ap (λ (f : RootEntry). f.act) (of_some _ e is))
entry_act n (a ∷ acts) (suc k) e is = entry_act n acts k e is

-- what names an entry of the pool did before, or is an act of the line
names_cases : (roots : Journals) (n : ℕ) (acts : Acts) (p i j : ℕ) → Names (grown roots n acts) p i j →
    Names roots p i j ⊎ ((k : ℕ) × (a : RootAct) × (i ≡ length (roots p) + k) × (slice_get (acts p) k ≡ Some a) × (asked_by a ≡ Some j))
names_cases roots n acts p i j (e, there, asked) = elim (get_cases (roots p) (entries_at n (acts p)) i e there) [
  | inl old ↦ inl (e, old, asked)
  | inr new ↦ inr (new.0, e.act, new.1, entry_act n (acts p) new.0 e new.2, asked)
]

none_named : (o : Option ℕ) (j : ℕ) → o ≡ None → o ≡ Some j → ⊥
none_named o j none some = not_some j (sym none ∙ some)

-- ---- no entry more

module _ (supers n : ℕ) (pools : List PoolEntry) (roots : Journals) (acts : Acts) (h : IsPooledTo supers n pools roots)
    (asks : AsksNone acts) where
  names_old : (p i j : ℕ) → Names (grown roots n acts) p i j → Names roots p i j
  names_old p i j names = elim (names_cases roots n acts p i j names) [
    | inl old ↦ old
    | inr (k, a, at, is, asked) ↦ absurd (none_named (asked_by a) j (asks p a (at_in (acts p) k a is)) asked)
  ]

  same_pool : IsPooledTo supers (n + 1) pools (grown roots n acts)
  same_pool = record {
    entered = λ e among. let low = h.entered e among in omega arith;
    sorted = h.sorted;
    fits = h.fits;
    named = λ j e there.
        let (i, f, at, asked, line) = h.named j e there in
        (i, f, slice_get_more (roots e.partition) (entries_at n (acts e.partition)) i f at, asked, line);
    below = λ p i j names. h.below p i j (names_old p i j names);
    once = λ j p q i k first second. h.once j p q i k (names_old p i j first) (names_old q k j second);
  }

-- ---- one entry more

module _ (supers n : ℕ) (pools : List PoolEntry) (e : PoolEntry) (roots : Journals) (acts : Acts) (h : IsPooledTo supers n pools roots)
    (asks : AsksOnce supers n pools e acts) where
  one_only : (k : ℕ) (a b : RootAct) → slice_get (a ∷ []) k ≡ Some b → (k ≡ 0) × (a ≡ b)
  one_only zero a b is = (refl, of_some a b is)
  one_only (suc k) a b is = absurd (not_some b is)

  -- the act of the line names the pool's new entry, in its partition
  IsNewName : ℕ → ℕ → ℕ → Type 0
  IsNewName p i j = (p ≡ e.partition) × (i ≡ length (roots p)) × (j ≡ length pools)

  new_name : (p i j k : ℕ) (a : RootAct) → i ≡ length (roots p) + k → slice_get (acts p) k ≡ Some a → asked_by a ≡ Some j → IsNewName p i j
  unfolding IsNewName
  new_name p i j k a at is asked = elim (cases_eq p e.partition) [
    | inl same ↦
        let only : acts p ≡ asks.act ∷ [] = ap acts same ∙ asks.only in
        let (first, one) = one_only k asks.act a (subst (λ z. slice_get z k ≡ Some a) only is) in
        (same, omega arith, of_some j (length pools) (sym asked ∙ sym (ap asked_by one) ∙ asks.asked))
    | inr other ↦ absurd (not_some a (subst (λ z. slice_get z k ≡ Some a) (asks.none p other) is))
  ]

  name_cases : (p i j : ℕ) → Names (grown roots n acts) p i j → Names roots p i j ⊎ IsNewName p i j
  name_cases p i j names = elim (names_cases roots n acts p i j names) [
    | inl old ↦ inl old
    | inr (k, a, at, is, asked) ↦ inr (new_name p i j k a at is asked)
  ]

  once_more : (j p q i k : ℕ) → Names roots p i j ⊎ IsNewName p i j → Names roots q k j ⊎ IsNewName q k j → (p ≡ q) × (i ≡ k)
  unfolding IsNewName
  once_more j p q i k (inl first) (inl second) = h.once j p q i k first second
  once_more j p q i k (inl first) (inr new) = absurd (let low = h.below p i j first in let at = new.2 in omega arith)
  once_more j p q i k (inr new) (inl second) = absurd (let low = h.below q k j second in let at = new.2 in omega arith)
  once_more j p q i k (inr a) (inr b) =
      let same : p ≡ q = a.0 ∙ sym b.0 in
      (same, a.1 ∙ ap (λ z. length (roots z)) same ∙ sym b.1)

  low_name : (p i j : ℕ) → Names roots p i j ⊎ IsNewName p i j → j < length (pools ++ e ∷ [])
  unfolding IsNewName
  low_name p i j (inl old) = let low = h.below p i j old in let more = length-append pools (e ∷ []) in omega arith
  low_name p i j (inr new) = let at = new.2 in let more = length-append pools (e ∷ []) in omega arith

  named_more : (j : ℕ) (f : PoolEntry) → slice_get (pools ++ e ∷ []) j ≡ Some f →
      (i : ℕ) × (g : RootEntry) × IsEntry (grown roots n acts) f.partition i g × (asked_by g.act ≡ Some j) × (g.line ≡ f.line)
  named_more j f there = elim (get_cases pools (e ∷ []) j f there) [
    | inl old ↦
        let (i, g, at, asked, line) = h.named j f old in
        (i, g, slice_get_more (roots f.partition) (entries_at n (acts f.partition)) i g at, asked, line)
    | inr (k, at, is) ↦ last_named k at is
  ]
    where
      act_there : (p : ℕ) → acts p ≡ asks.act ∷ [] → IsEntry (grown roots n acts) p (length (roots p)) (record { line = n; act = asks.act })
      act_there p only =
          subst (λ z. slice_get (roots p ++ entries_at n z) (length (roots p)) ≡ Some (record { line = n; act = asks.act })) (sym only)
          (slice_get_at (roots p) [] (record { line = n; act = asks.act }))

      last_named : (k : ℕ) → j ≡ length pools + k → slice_get (e ∷ []) k ≡ Some f → (i : ℕ) × (g : RootEntry)
          × IsEntry (grown roots n acts) f.partition i g × (asked_by g.act ≡ Some j) × (g.line ≡ f.line)
      last_named zero at is =
          let same : e ≡ f = of_some e f is in
          let there : f.partition ≡ e.partition = ap (λ (z : PoolEntry). z.partition) (sym same) in
          let asked : length pools ≡ j = omega arith in (
            length (roots f.partition),
            record { line = n; act = asks.act },
            act_there f.partition (ap acts there ∙ asks.only),
            asks.asked ∙ ap Some asked,
            sym asks.line ∙ ap (λ (z : PoolEntry). z.line) same,
          )
      last_named (suc k) at is = absurd (not_some f is)

  one_more : IsPooledTo supers (n + 1) (pools ++ e ∷ []) (grown roots n acts)
  one_more = record {
    entered = λ f among. elim (Contains-push_cases pools e f among) [
      | inl old ↦ let low = h.entered f old in omega arith
      | inr new ↦ let at : e.line ≡ f.line = ap (λ (z : PoolEntry). z.line) new in let line = asks.line in omega arith
    ];
    sorted = sorted_push (λ (f : PoolEntry). f.line) pools e h.sorted
        (λ f among. let low = h.entered f among in let line = asks.line in omega arith);
    fits = pool_grows.fits supers pools e h.fits asks.fits;
    named = named_more;
    below = λ p i j names. low_name p i j (name_cases p i j names);
    once = λ j p q i k first second. once_more j p q i k (name_cases p i j first) (name_cases q k j second);
  }

pub pool_extends : PoolExtends
pool_extends supers n pools [] roots acts h asks =
    subst (λ z. IsPooledTo supers (n + 1) z (grown roots n acts)) (sym (append-nil pools)) (same_pool supers n pools roots acts h asks)
pool_extends supers n pools (e ∷ []) roots acts h asks = one_more supers n pools e roots acts h asks
pool_extends supers n pools (e ∷ f ∷ more) roots acts h asks = absurd asks
