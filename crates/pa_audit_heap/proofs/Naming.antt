-- How the journals name the pool's entries, entry by entry.
use Rattle.std.proofs.Common.{◌≡◌, ℕ, ◌+◌, ◌<◌, ◌≤◌, List, [], length, get_or, set, Some, refl, sym, ◌∙◌, ap, subst, arith, inl, inr, ◌⊎◌}
use Rattle.std.specs.Prelude.{slice_get}
use Rattle.std.proofs.lemmas.Bool.{cases_lt, cases_eq}
use Rattle.std.proofs.lemmas.List.{get_or_past, length-set, get_or-set_same, get_or-set_other}
use Rattle.std.proofs.lemmas.Option.{slice_get_within}
use Rattle.pa_record.specs.declared.pool.PoolEntry.{PoolEntry}
use Rattle.pa_record.specs.declared.root.RootEntry.{RootEntry}
use Rattle.pa_record.specs.Root.{asked_by}
use Rattle.pa_rules.specs.RecordDemands.{IsAbove}
use Rattle.pa_rules.specs.Roots.{Journals, IsEntry, Names, journal_at}
use Rattle.pa_audit_heap.specs.declared.namings.Naming.{Naming}
use Rattle.pa_audit_heap.specs.declared.namings.Naming.TheVariants.{Nobody, Once, Again}
use Rattle.pa_audit_heap.specs.Namings.{NamesAbove, IsNaming, AreNamings, IsNamed, named_by}
use Rattle.pa_lists.proofs.Members.{of_some, not_some}
use Rattle.pa_lists.proofs.Indexed.{one_at}

above_more : (p i q n : ℕ) → IsAbove p i q n → IsAbove p i q (n + 1)
above_more p i q n (inl less) = inl less
above_more p i q n (inr (same, less)) = inr (same, omega arith)

above_cases : (p i q n : ℕ) → IsAbove p i q (n + 1) → IsAbove p i q n ⊎ ((p ≡ q) × (i ≡ n))
above_cases p i q n (inl less) = inl (inl less)
above_cases p i q n (inr (same, less)) = elim (cases_lt i n) [
  | inl below ↦ inl (inr (same, below))
  | inr more ↦ inr (same, omega arith)
]

-- a naming stays if the same entries name the entry of the pool
pub naming_same : (roots : Journals) (q n r m j : ℕ) (naming : Naming) →
    ((p i : ℕ) → NamesAbove roots q n p i j → NamesAbove roots r m p i j)
    → ((p i : ℕ) → NamesAbove roots r m p i j → NamesAbove roots q n p i j) → IsNaming roots q n j naming → IsNaming roots r m j naming
naming_same roots q n r m j Nobody f g h = λ p i names. h p i (g p i names)
naming_same roots q n r m j (Once partition line) f g (i, e, above, is, asked, on, only) =
    (i, e, (f partition i (above, (e, is, asked))).0, is, asked, on, λ p k names. only p k (g p k names))
naming_same roots q n r m j Again f g (p, i, s, k, first, second, differ) = (p, i, s, k, f p i first, f s k second, differ)

-- an entry more that names another, and one that names it
pub naming_other : (roots : Journals) (q n j : ℕ) (f : RootEntry) (naming : Naming) → IsEntry roots q n f → (asked_by f.act ≡ Some j → ⊥)
    → IsNaming roots q n j naming → IsNaming roots q (n + 1) j naming
naming_other roots q n j f naming is other h = naming_same roots q n q (n + 1) j naming
    (λ p i names. (above_more p i q n names.0, names.1))
    (λ p i names. elim (above_cases p i q n names.0) [
      | inl above ↦ (above, names.1)
      | inr (same, at) ↦
          let (e, is', asked) = names.1 in
          let there : slice_get (roots q) n ≡ Some e =
          subst (λ k. slice_get (roots q) k ≡ Some e) at (subst (λ s. slice_get (roots s) i ≡ Some e) same is') in
          let one = one_at (roots q) n e f there is in
          absurd (other (ap (λ (z : RootEntry). asked_by z.act) (sym one) ∙ asked))
    ]) h

pub naming_more : (roots : Journals) (q n j : ℕ) (f : RootEntry) (naming : Naming) → IsEntry roots q n f → asked_by f.act ≡ Some j
    → IsNaming roots q n j naming → IsNaming roots q (n + 1) j (named_by naming (Once q f.line))
naming_more roots q n j f Nobody is asks h = (
  n,
  f,
  inr (refl, omega arith),
  is,
  asks,
  refl,
  λ p k names. elim (above_cases p k q n names.0) [
    | inl above ↦ absurd (h p k (above, names.1))
    | inr same ↦ same
  ],
)
naming_more roots q n j f (Once partition line) is asks (i, e, above, is', asked, on, only) = (
  partition,
  i,
  q,
  n,
  (above_more partition i q n above, (e, is', asked)),
  (inr (refl, omega arith), (f, is, asks)),
  λ (same, at).
      elim above [ inl less ↦ omega arith | inr (s, less) ↦ omega arith ],
)
naming_more roots q n j f Again is asks (p, i, s, k, first, second, differ) =
    (p, i, s, k, (above_more p i q n first.0, first.1), (above_more s k q n second.0, second.1), differ)

-- the first entry of the next journal comes after all of this one
pub naming_next : (roots : Journals) (q n j : ℕ) (naming : Naming) → length (roots q) ≤ n → IsNaming roots q n j naming →
    IsNaming roots (q + 1) 0 j naming
naming_next roots q n j naming past h = naming_same roots q n (q + 1) 0 j naming
    (λ p i names. (elim names.0 [ inl less ↦ inl (omega arith) | inr (same, less) ↦ inl (omega arith) ], names.1))
    (λ p i names. (
      elim names.0 [
        | inl less ↦ elim (cases_lt p q) [
          | inl below ↦ inl below
          | inr more ↦
              let same : p ≡ q = omega arith in
              let (e, is, asked) = names.1 in
              let within = slice_get_within (roots q) i e (subst (λ s. slice_get (roots s) i ≡ Some e) same is) in
              inr (same, omega arith)
        ]
        | inr (same, less) ↦ absurd (omega arith)
      ],
      names.1,
    )) h

-- an entry that names none of the pool's entries leaves all namings as they are
pub namings_other : (roots : Journals) (q n size : ℕ) (f : RootEntry) (namings : List Naming) → IsEntry roots q n f →
    ((j : ℕ) → j < size → asked_by f.act ≡ Some j → ⊥)
    → AreNamings roots q n size namings → AreNamings roots q (n + 1) size namings
namings_other roots q n size f namings is other h = record {
  many = h.many;
  each = λ j within. naming_other roots q n j f (get_or namings j Nobody) is (other j within) (h.each j within);
}

-- an entry that names one of the pool's entries changes the naming of that one
pub namings_more : (roots : Journals) (q n size j : ℕ) (f : RootEntry) (namings : List Naming) →
    IsEntry roots q n f → asked_by f.act ≡ Some j
    → AreNamings roots q n size namings →
    AreNamings roots q (n + 1) size (set namings j (named_by (get_or namings j Nobody) (Once q f.line)))
namings_more roots q n size j f namings is asks h = record {
  many = length-set namings j _ ∙ h.many;
  each = λ k within. let many = h.many in elim (cases_eq k j) [
    | inl same ↦
        let at : get_or (set namings j (named_by (get_or namings j Nobody) (Once q f.line))) k Nobody ≡
        named_by (get_or namings j Nobody) (Once q f.line) =
        ap (λ i. get_or (set namings j (named_by (get_or namings j Nobody) (Once q f.line))) i Nobody) same ∙
        get_or-set_same namings j _ Nobody (omega arith) in
        rw at (subst (λ i. IsNaming roots q (n + 1) i (named_by (get_or namings j Nobody) (Once q f.line))) (sym same)
        (naming_more roots q n j f (get_or namings j Nobody) is asks (h.each j (omega arith))))
    | inr other ↦
        rw (get_or-set_other namings j k _ Nobody other)
        (naming_other roots q n k f (get_or namings k Nobody) is (λ asks'. other (of_some k j (sym asks' ∙ asks))) (h.each k within))
  ];
}

pub namings_next : (roots : Journals) (q n size : ℕ) (namings : List Naming) → length (roots q) ≤ n → AreNamings roots q n size namings →
    AreNamings roots (q + 1) 0 size namings
namings_next roots q n size namings past h = record {
  many = h.many;
  each = λ j within. naming_next roots q n j (get_or namings j Nobody) past (h.each j within);
}

-- an entry of the pool is named as it says exactly when its naming is that
pub record HasAll (roots : Journals) (q : ℕ) : Type 0 where
  pub above : (p : ℕ) → q ≤ p → (i : ℕ) (e : RootEntry) → IsEntry roots p i e → ⊥

reaches : (roots : Journals) (q p i j : ℕ) → HasAll roots q → Names roots p i j → NamesAbove roots q 0 p i j
reaches roots q p i j all (e, is, asked) = elim (cases_lt p q) [
  | inl less ↦ (inl less, (e, is, asked))
  | inr more ↦ absurd (all.above p more i e is)
]

pub named_is : (roots : Journals) (q j : ℕ) (e : PoolEntry) → HasAll roots q →
    IsNaming roots q 0 j (Once e.partition e.line) → IsNamed roots j e
named_is roots q j e all (i, f, above, is, asked, on, only) = record {
  named = (i, f, is, asked, on);
  once = λ p r k m first second.
      let (a, b) = only p k (reaches roots q p k j all first) in
      let (c, d) = only r m (reaches roots q r m j all second) in
      (a ∙ sym c, b ∙ sym d);
}

pub naming_is : (roots : Journals) (q j : ℕ) (e : PoolEntry) (naming : Naming) → HasAll roots q → IsNaming roots q 0 j naming →
    IsNamed roots j e → naming ≡ Once e.partition e.line
naming_is roots q j e Nobody all h named =
    let (i, f, is, asked, on) = named.named in
    absurd (h e.partition i (reaches roots q e.partition i j all (f, is, asked)))
naming_is roots q j e (Once partition line) all (i, f, above, is, asked, on, only) named =
    let (k, g, is', asked', on') = named.named in
    let (p, at) = only e.partition k (reaches roots q e.partition k j all (g, is', asked')) in
    let there : slice_get (roots partition) i ≡ Some g =
    subst (λ m. slice_get (roots partition) m ≡ Some g) at (subst (λ s. slice_get (roots s) k ≡ Some g) p is') in
    let same = one_at (roots partition) i f g is there in
    let l : line ≡ e.line = sym on ∙ ap (λ (z : RootEntry). z.line) same ∙ on' in
    ap (λ s. Once s line) (sym p) ∙ ap (Once e.partition) l
naming_is roots q j e Again all (p, i, s, k, first, second, differ) named = absurd (differ (named.once p s i k first.1 second.1))

-- after the last journal there are none
pub all_journals : (roots : List (List RootEntry)) → HasAll (journal_at roots) (length roots)
all_journals roots = record { above = λ p past i e at. not_some e (subst (λ es. slice_get es i ≡ Some e) (get_or_past roots p [] past) at) }
