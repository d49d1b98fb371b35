-- What a worker counts of a step, what it owes then, and that both stay small.
use Rattle.std.proofs.Common.{◌≡◌, ℕ, zero, suc, ◌+◌, ◌*◌, ◌<◌, ◌≤◌, Bool, true, false, List, [], ◌∷◌, ◌++◌, length, Option, Some, None, refl, sym, ◌∙◌, ap, arith, inl, inr}
use Rattle.std.specs.Prelude.{◌==◌, ◌&&◌, if◌then◌else◌, slice_index_or, slice_set}
use Rattle.std.proofs.lemmas.Bool.{cases_Bool, cases_eq, eq-eqb, ne_eqb}
use Rattle.std.proofs.lemmas.List.Sums.{sum_by-cons}
use Rattle.pa_slot.specs.declared.word.SlotName.{SlotName}
use Rattle.pa_slot.specs.declared.word.Step.{Step}
use Rattle.pa_slot.specs.Run.{Mark}
use Rattle.pa_trace.specs.Limits.{most_partitions}
use Rattle.pa_rules.specs.declared.played.Played.{Played}
use Rattle.pa_rules.specs.Played.{mark_of, marks_of}
use Rattle.pa_rules.specs.Flow.{at_step}
use Rattle.pa_slot.specs.Kinds.{issues, frees, enters, leaves}
use Rattle.pa_legal.specs.Tallies.{weight_of, one_of, bytes_of}
use Rattle.pa_region.specs.Totals.{is_of_kind}
use Rattle.pa_totals.specs.declared.owed.Owed.{Owed}
use Rattle.pa_totals.specs.Settled.{nothing_owed, none_owed, owed_to, owed_at}
use Rattle.pa_totals.proofs.Settling.{owed_at_none}
use Rattle.pa_op_specs.specs.declared.counts.Count.{Count}
use Rattle.pa_op_specs.specs.Counts.{no_count, counted_in, more_if, after_step, owed_after_step, AreOfSteps, IsOwedBySteps, CountsBy}
use Rattle.pa_op_specs.proofs.Registers.{set_at}

-- What is owed to each word grew by the bytes of the slots on which these records made a step of its kind.
abbrev pub OwesBy : (home size : SlotName → ℕ) → List Played → (before after : List Owed) → Type 0
OwesBy home size xs before after =
    (p q : ℕ) → p < most_partitions → q < 4 →
    owed_to q (owed_at after p) ≡ owed_to q (owed_at before p) + weight_of (is_of_kind q) (bytes_of home size p) (marks_of xs)

-- ---- what one record weighs

weight_none : (test : Step → ℕ → Bool) (weight : SlotName → ℕ) (x : Played) → mark_of x ≡ None →
    weight_of test weight (marks_of (x ∷ [])) ≡ 0
weight_none test weight x e = rw e refl

weight_one : (test : Step → ℕ → Bool) (weight : SlotName → ℕ) (x : Played) (m : Mark) → mark_of x ≡ Some m →
    weight_of test weight (marks_of (x ∷ [])) ≡ (if at_step test m.found m.step then weight m.slot else 0)
weight_one test weight x m e =
    rw e (let c = sum_by-cons (λ (n : Mark). if at_step test n.found n.step then weight n.slot else 0) m [] in omega arith)

-- those of one list and those of another
pub weight_append : (test : Step → ℕ → Bool) (weight : SlotName → ℕ) (xs ys : List Played) →
    weight_of test weight (marks_of (xs ++ ys)) ≡ weight_of test weight (marks_of xs) + weight_of test weight (marks_of ys)
weight_append test weight [] ys = omega arith
weight_append test weight (x ∷ xs) ys = go (mark_of x) refl (weight_append test weight xs ys)
  where
    go : (o : Option Mark) → mark_of x ≡ o →
        weight_of test weight (marks_of (xs ++ ys)) ≡ weight_of test weight (marks_of xs) + weight_of test weight (marks_of ys) →
        weight_of test weight (marks_of (x ∷ (xs ++ ys))) ≡ weight_of test weight (marks_of (x ∷ xs)) + weight_of test weight (marks_of ys)
    go None e again = rw e again
    go (Some m) e again = rw e (
        let f : Mark → ℕ = λ n. if at_step test n.found n.step then weight n.slot else 0 in
        let a = sum_by-cons f m (marks_of (xs ++ ys)) in
        let b = sum_by-cons f m (marks_of xs) in
        omega arith
        )

-- ---- counts that grew

grew_none : (test : Step → ℕ → Bool) (weight : SlotName → ℕ) (n : ℕ) → n ≡ n + weight_of test weight (marks_of [])
grew_none test weight n = omega arith

grew_append : (test : Step → ℕ → Bool) (weight : SlotName → ℕ) (xs ys : List Played) (a b c : ℕ) →
    b ≡ a + weight_of test weight (marks_of xs) → c ≡ b + weight_of test weight (marks_of ys) →
    c ≡ a + weight_of test weight (marks_of (xs ++ ys))
grew_append test weight xs ys a b c first rest = let s = weight_append test weight xs ys in omega arith

pub counts_none : (home : SlotName → ℕ) (cs : List Count) → CountsBy home [] cs cs
counts_none home cs = record {
  issued = λ p low. grew_none issues (one_of home p) (counted_in cs p).issued;
  freed = λ p low. grew_none frees (one_of home p) (counted_in cs p).freed;
  entered = λ p low. grew_none enters (one_of home p) (counted_in cs p).entered;
  left = λ p low. grew_none leaves (one_of home p) (counted_in cs p).left;
}

pub counts_append : (home : SlotName → ℕ) (xs ys : List Played) (a b c : List Count) → CountsBy home xs a b → CountsBy home ys b c →
    CountsBy home (xs ++ ys) a c
counts_append home xs ys a b c first rest = record {
  issued = λ p low. grew_append issues (one_of home p) xs ys (counted_in a p).issued (counted_in b p).issued (counted_in c p).issued
      (first.issued p low) (rest.issued p low);
  freed = λ p low. grew_append frees (one_of home p) xs ys (counted_in a p).freed (counted_in b p).freed (counted_in c p).freed
      (first.freed p low) (rest.freed p low);
  entered = λ p low. grew_append enters (one_of home p) xs ys (counted_in a p).entered (counted_in b p).entered (counted_in c p).entered
      (first.entered p low) (rest.entered p low);
  left = λ p low. grew_append leaves (one_of home p) xs ys (counted_in a p).left (counted_in b p).left (counted_in c p).left
      (first.left p low) (rest.left p low);
}

-- ---- a record that counts nothing

-- a record has no mark, or one that passes no test
abbrev pub Uncounted : Option Mark → Type 0
Uncounted None = Unit {0}
Uncounted (Some m) =
    (at_step issues m.found m.step ≡ false) × (at_step frees m.found m.step ≡ false) × (at_step enters m.found m.step ≡ false)
    × (at_step leaves m.found m.step ≡ false)

-- a mark that passes no test is of none of the four kinds
of_no_kind : (m : Mark) (q : ℕ) → Uncounted (Some m) → at_step (is_of_kind q) m.found m.step ≡ false
of_no_kind m q (a, b, c, d) = go m.step a b c d
  where
    go : (step : Option Step) → at_step issues m.found step ≡ false → at_step frees m.found step ≡ false →
        at_step enters m.found step ≡ false →
        at_step leaves m.found step ≡ false → at_step (is_of_kind q) m.found step ≡ false
    go None a b c d = refl
    go (Some step) a b c d = each (q == 0) (q == 1) (q == 2) (q == 3)
      where
        each : (i j k l : Bool) →
            (if i then issues step m.found else (if j then frees step
            m.found else (if k then enters step m.found else (l && leaves step m.found)))) ≡ false
        each true j k l = a
        each false true k l = b
        each false false true l = c
        each false false false true = d
        each false false false false = refl

grew_by_nothing : (test : Step → ℕ → Bool) (weight : SlotName → ℕ) (x : Played) (n : ℕ) → weight_of test weight (marks_of (x ∷ [])) ≡ 0 →
    n ≡ n + weight_of test weight (marks_of (x ∷ []))
grew_by_nothing test weight x n none = omega arith

weight_unmarked : (test : Step → ℕ → Bool) (weight : SlotName → ℕ) (x : Played) (m : Mark) → mark_of x ≡ Some m →
    at_step test m.found m.step ≡ false → weight_of test weight (marks_of (x ∷ [])) ≡ 0
weight_unmarked test weight x m e fails = weight_one test weight x m e ∙ rw fails refl

pub counts_stay : (home : SlotName → ℕ) (x : Played) (o : Option Mark) (cs : List Count) → mark_of x ≡ o → Uncounted o →
    CountsBy home (x ∷ []) cs cs
counts_stay home x None cs e un = record {
  issued = λ p low. grew_by_nothing issues (one_of home p) x (counted_in cs p).issued (weight_none issues (one_of home p) x e);
  freed = λ p low. grew_by_nothing frees (one_of home p) x (counted_in cs p).freed (weight_none frees (one_of home p) x e);
  entered = λ p low. grew_by_nothing enters (one_of home p) x (counted_in cs p).entered (weight_none enters (one_of home p) x e);
  left = λ p low. grew_by_nothing leaves (one_of home p) x (counted_in cs p).left (weight_none leaves (one_of home p) x e);
}
counts_stay home x (Some m) cs e (a, b, c, d) = record {
  issued = λ p low. grew_by_nothing issues (one_of home p) x (counted_in cs p).issued (weight_unmarked issues (one_of home p) x m e a);
  freed = λ p low. grew_by_nothing frees (one_of home p) x (counted_in cs p).freed (weight_unmarked frees (one_of home p) x m e b);
  entered = λ p low. grew_by_nothing enters (one_of home p) x (counted_in cs p).entered (weight_unmarked enters (one_of home p) x m e c);
  left = λ p low. grew_by_nothing leaves (one_of home p) x (counted_in cs p).left (weight_unmarked leaves (one_of home p) x m e d);
}

-- nor does it owe more
pub owed_stays : (home size : SlotName → ℕ) (x : Played) (o : Option Mark) (os : List Owed) → mark_of x ≡ o → Uncounted o →
    OwesBy home size (x ∷ []) os os
owed_stays home size x None os e un p q low kind =
    grew_by_nothing (is_of_kind q) (bytes_of home size p) x (owed_to q (owed_at os p))
    (weight_none (is_of_kind q) (bytes_of home size p) x e)
owed_stays home size x (Some m) os e un p q low kind =
    grew_by_nothing (is_of_kind q) (bytes_of home size p) x (owed_to q (owed_at os p))
    (weight_unmarked (is_of_kind q) (bytes_of home size p) x m e (of_no_kind m q un))

-- ---- a record that made a step

-- what is owed to the word of a kind after a step
pub owed_kind : (step : Step) (found bytes q : ℕ) (o : Owed) →
    owed_to q (owed_after_step step found bytes o) ≡ more_if (is_of_kind q step found) bytes (owed_to q o)
owed_kind step found bytes q o = go (q == 0) (q == 1) (q == 2) (q == 3)
  where
    go : (a b c d : Bool) →
        (if a then more_if (issues step found) bytes o.issued else (if b then more_if (frees step found) bytes o.freed else
        (if c then more_if (enters step found) bytes o.entered else (if d then more_if (leaves step found) bytes o.left else 0))))
        ≡ more_if (if a then issues step
        found else (if b then frees step found else (if c then enters step found else (d && leaves step found)))) bytes
        (if a then o.issued else (if b then o.freed else (if c then o.entered else (if d then o.left else 0))))
    go true b c d = refl
    go false true c d = refl
    go false false true d = refl
    go false false false true = refl
    go false false false false = refl

module _ (home size : SlotName → ℕ) (x : Played) (m : Mark) (step : Step) (marked : mark_of x ≡ Some m) (steps : m.step ≡ Some step) where
  -- a number that counts the slot
  grew_here : (test : Step → ℕ → Bool) (weight : SlotName → ℕ) (n : ℕ) →
      more_if (test step m.found) (weight m.slot) n ≡ n + weight_of test weight (marks_of (x ∷ []))
  grew_here test weight n = elim (cases_Bool (test step m.found)) [
    | inl y ↦
        let at : at_step test m.found m.step ≡ true = ap (at_step test m.found) steps ∙ y in
        let a : weight_of test weight (marks_of (x ∷ [])) ≡ weight m.slot = weight_one test weight x m marked ∙ rw at refl in
        rw y (omega arith)
    | inr fails ↦
        let at : at_step test m.found m.step ≡ false = ap (at_step test m.found) steps ∙ fails in
        rw fails (grew_by_nothing test weight x n (weight_unmarked test weight x m marked at))
  ]

  if_zero : (b : Bool) (n : ℕ) → n ≡ 0 → (if b then n else 0) ≡ 0
  if_zero true n none = none
  if_zero false n none = refl

  -- a record whose slot weighs nothing adds nothing to a number
  grew_elsewhere : (test : Step → ℕ → Bool) (weight : SlotName → ℕ) (n : ℕ) → weight m.slot ≡ 0 →
      n ≡ n + weight_of test weight (marks_of (x ∷ []))
  grew_elsewhere test weight n none =
      let a : weight_of test weight (marks_of (x ∷ [])) ≡ 0 = weight_one test weight x m marked ∙
      if_zero (at_step test m.found m.step) (weight m.slot) none in
      omega arith

  -- one number of a list in which that of the slot's partition was set
  grew_set : {A : Type 0} (part : A → ℕ) (test : Step → ℕ → Bool) (weight : SlotName → ℕ) (p k : ℕ) (c d : A) (cs : List A) →
      k < length cs →
      (p ≡ k → part c ≡ more_if (test step m.found) (weight m.slot) (part (slice_index_or cs k d))) → ((p ≡ k → ⊥) → weight m.slot ≡ 0) →
      part (slice_index_or (slice_set cs k c) p d) ≡ part (slice_index_or cs p d) + weight_of test weight (marks_of (x ∷ []))
  grew_set {A} part test weight p k c d cs inside new none =
      let at = set_at cs k p c d inside in
      elim (cases_eq p k) [
        | inl same ↦
            let here : slice_index_or (slice_set cs k c) p d ≡ c = at ∙ rw (eq-eqb p k same) refl in
            ap part here ∙ (new same ∙
            (ap (λ (n : ℕ). more_if (test step m.found) (weight m.slot) (part (slice_index_or cs n d))) (sym same)
            ∙ grew_here test weight (part (slice_index_or cs p d))))
        | inr other ↦
            let there : slice_index_or (slice_set cs k c) p d ≡ slice_index_or cs p d = at ∙ rw (ne_eqb p k other) refl in
            ap part there ∙ grew_elsewhere test weight (part (slice_index_or cs p d)) (none other)
      ]

  -- the slot weighs this much in its partition, and nothing in others
  weighs_here : (p k n : ℕ) → home m.slot ≡ k → p ≡ k → n ≡ (if home m.slot == p then n else 0)
  weighs_here p k n is same = let here : (home m.slot == p) ≡ true = eq-eqb (home m.slot) p (is ∙ sym same) in rw here refl

  weighs_not : (p k n : ℕ) → home m.slot ≡ k → (p ≡ k → ⊥) → (if home m.slot == p then n else 0) ≡ 0
  weighs_not p k n is other = let away : (home m.slot == p) ≡ false = ne_eqb (home m.slot) p (λ e. other (sym e ∙ is)) in rw away refl

  pub counts_step : (k : ℕ) (cs : List Count) → k < length cs → home m.slot ≡ k →
      CountsBy home (x ∷ []) cs (slice_set cs k (after_step step m.found (counted_in cs k)))
  counts_step k cs inside is =
      let c = after_step step m.found (counted_in cs k) in
      record {
        issued = λ p low. grew_set {A = Count} (λ z. z.issued) issues (one_of home p) p k c no_count cs inside
            (λ same. ap (λ n. more_if (issues step m.found) n (counted_in cs k).issued) (weighs_here p k 1 is same)) (weighs_not p k 1 is);
        freed = λ p low. grew_set {A = Count} (λ z. z.freed) frees (one_of home p) p k c no_count cs inside
            (λ same. ap (λ n. more_if (frees step m.found) n (counted_in cs k).freed) (weighs_here p k 1 is same)) (weighs_not p k 1 is);
        entered = λ p low. grew_set {A = Count} (λ z. z.entered) enters (one_of home p) p k c no_count cs inside
            (λ same. ap (λ n. more_if (enters step m.found) n (counted_in cs k).entered) (weighs_here p k 1 is same)) (weighs_not p k 1 is);
        left = λ p low. grew_set {A = Count} (λ z. z.left) leaves (one_of home p) p k c no_count cs inside
            (λ same. ap (λ n. more_if (leaves step m.found) n (counted_in cs k).left) (weighs_here p k 1 is same)) (weighs_not p k 1 is);
      }

  pub owed_step : (k : ℕ) (os : List Owed) → k < length os → home m.slot ≡ k →
      OwesBy home size (x ∷ []) os (slice_set os k (owed_after_step step m.found (size m.slot) (owed_at os k)))
  owed_step k os inside is p q low kind =
      grew_set {A = Owed} (owed_to q) (is_of_kind q) (bytes_of home size p) p k
      (owed_after_step step m.found (size m.slot) (owed_at os k)) nothing_owed os inside
      (λ same. owed_kind step m.found (size m.slot) q (owed_at os k)
      ∙ ap (λ n. more_if (is_of_kind q step m.found) n (owed_to q (owed_at os k))) (weighs_here p k (size m.slot) is same))
      (weighs_not p k (size m.slot) is)

-- ---- counts stay small

pub are_within : (n m : ℕ) (cs : List Count) → n ≤ m → AreOfSteps n cs → AreOfSteps m cs
are_within n m cs more is = record {
  count = is.count;
  issued = λ p. let a = is.issued p in omega arith;
  freed = λ p. let a = is.freed p in omega arith;
  entered = λ p. let a = is.entered p in omega arith;
  left = λ p. let a = is.left p in omega arith;
}

pub owed_within : (n m : ℕ) (os : List Owed) → n ≤ m → IsOwedBySteps n os → IsOwedBySteps m os
owed_within n m os more is = record {
  count = is.count;
  issued = λ p. let a = is.issued p in omega arith;
  freed = λ p. let a = is.freed p in omega arith;
  entered = λ p. let a = is.entered p in omega arith;
  left = λ p. let a = is.left p in omega arith;
}

-- no step owes nothing
none_at : (steps p : ℕ) (part : Owed → ℕ) → part nothing_owed ≡ 0 → part (owed_at none_owed p) ≤ 4294967296 * steps
none_at steps p part none = let a = ap part (owed_at_none p) in omega arith

pub owed_none_by : (steps : ℕ) → IsOwedBySteps steps none_owed
owed_none_by steps = record {
  count = refl;
  issued = λ p. none_at steps p (λ o. o.issued) refl;
  freed = λ p. none_at steps p (λ o. o.freed) refl;
  entered = λ p. none_at steps p (λ o. o.entered) refl;
  left = λ p. none_at steps p (λ o. o.left) refl;
}

-- nor counts anything
counted_at_none : (p : ℕ) → counted_in (no_count ∷ no_count ∷ no_count ∷ no_count ∷ []) p ≡ no_count
counted_at_none zero = refl
counted_at_none (suc zero) = refl
counted_at_none (suc (suc zero)) = refl
counted_at_none (suc (suc (suc zero))) = refl
counted_at_none (suc (suc (suc (suc p)))) = refl

none_counted_at : (steps p : ℕ) (part : Count → ℕ) → part no_count ≡ 0 →
    part (counted_in (no_count ∷ no_count ∷ no_count ∷ no_count ∷ []) p) ≤ steps
none_counted_at steps p part none = let a = ap part (counted_at_none p) in omega arith

pub counts_none_by : (steps : ℕ) → AreOfSteps steps (no_count ∷ no_count ∷ no_count ∷ no_count ∷ [])
counts_none_by steps = record {
  count = refl;
  issued = λ p. none_counted_at steps p (λ c. c.issued) refl;
  freed = λ p. none_counted_at steps p (λ c. c.freed) refl;
  entered = λ p. none_counted_at steps p (λ c. c.entered) refl;
  left = λ p. none_counted_at steps p (λ c. c.left) refl;
}
