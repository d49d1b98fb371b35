-- The pool of a written run with one journal, in which each entry names the pool's entry at its own place.
use Rattle.std.proofs.Common.{◌≡◌, ℕ, zero, suc, ◌+◌, ◌<◌, Bool, true, false, ◌&&◌, eqb, leb, List, [], ◌∷◌, Option, Some, None, refl, sym, ◌∙◌, ap, subst, arith}
use Rattle.std.specs.Prelude.{slice_get}
use Rattle.std.proofs.lemmas.Bool.{and_parts, eqb-true, false≢true}
use Rattle.pa_record.specs.declared.pool.PoolEntry.{PoolEntry}
use Rattle.pa_record.specs.declared.root.RootEntry.{RootEntry}
use Rattle.pa_record.specs.Pool.{IsPool}
use Rattle.pa_record.specs.Root.{asked_by}
use Rattle.pa_lists.proofs.Members.{of_some, not_some}
use Rattle.pa_rules.specs.declared.played.Played.{Played}
use Rattle.pa_rules.specs.Roots.{journal_at, IsEntry, Names, IsPoolOf}
use Rattle.pa_rules.specs.Order.{IsOfLine, StandsBefore}
use Rattle.pa_one_run.specs.Parts.{entry_line, pool_line}
use Rattle.pa_examples.proofs.worked.Lists.{all_pairs, rises, only_journal, lines_follow, in_order}

-- the option has this number
abbrev pub is_number : ℕ → Option ℕ → Bool
is_number n None = false
is_number n (Some m) = eqb m n

is_number-true : (n : ℕ) (o : Option ℕ) → is_number n o ≡ true → o ≡ Some n
is_number-true n None h = absurd (false≢true h)
is_number-true n (Some m) h = ap Some (eqb-true m n h)

-- the entries name those of the pool from n on, in order
abbrev pub asks_in_order : ℕ → List RootEntry → Bool
asks_in_order n [] = true
asks_in_order n (e ∷ es) = is_number n (asked_by e.act) && asks_in_order (suc n) es

asks_at : (n : ℕ) (es : List RootEntry) (i : ℕ) (e : RootEntry) → asks_in_order n es ≡ true → slice_get es i ≡ Some e →
    asked_by e.act ≡ Some (n + i)
asks_at n [] i e h at = absurd (not_some e at)
asks_at n (x ∷ es) zero e h at =
    let same : n ≡ n + 0 = omega arith in
    ap (λ (z : RootEntry). asked_by z.act) (sym (of_some x e at)) ∙ is_number-true n (asked_by x.act) (and_parts _ _ h).0 ∙ ap Some same
asks_at n (x ∷ es) (suc i) e h at =
    let same : suc n + i ≡ n + suc i = omega arith in
    asks_at (suc n) es i e (and_parts (is_number n (asked_by x.act)) (asks_in_order (suc n) es) h).1 at ∙ ap Some same

-- the entries at each place have the same line, and the pool's is of partition 0
abbrev pub are_alike : List PoolEntry → List RootEntry → Bool
are_alike [] fs = true
are_alike (e ∷ es) [] = false
are_alike (e ∷ es) (f ∷ fs) = (eqb e.partition 0 && eqb f.line e.line) && are_alike es fs

alike_at : (es : List PoolEntry) (fs : List RootEntry) (j : ℕ) (e : PoolEntry) → are_alike es fs ≡ true → slice_get es j ≡ Some e →
    (f : RootEntry) × (slice_get fs j ≡ Some f) × (e.partition ≡ 0) × (f.line ≡ e.line)
alike_at [] fs j e h at = absurd (not_some e at)
alike_at (x ∷ es) [] j e h at = absurd (false≢true h)
alike_at (x ∷ es) (f ∷ fs) zero e h at =
    let (partition, line) = and_parts (eqb x.partition 0) (eqb f.line x.line)
    (and_parts (eqb x.partition 0 && eqb f.line x.line) (are_alike es fs) h).0 in
    let same = of_some x e at in (
      f,
      refl,
      ap (λ (z : PoolEntry). z.partition) (sym same) ∙ eqb-true _ _ partition,
      eqb-true _ _ line ∙
          ap (λ (z : PoolEntry). z.line) same,
    )
alike_at (x ∷ es) (f ∷ fs) (suc j) e h at = alike_at es fs j e (and_parts (eqb x.partition 0 && eqb f.line x.line) (are_alike es fs) h).1 at

module _ (ps : List Played) (follow : lines_follow ps ≡ true) (journal : List RootEntry)
    (rise : all_pairs (λ (x : RootEntry) (y : RootEntry). leb (entry_line x) (entry_line y)) journal ≡ true) where
  -- the entries of the journal are in the order of the records
  pub journal_in_order : (p i j : ℕ) (e f : RootEntry) (x y : Played) → IsEntry (journal_at (journal ∷ [])) p i e →
      IsEntry (journal_at (journal ∷ [])) p j f →
      IsOfLine ps e.line x → IsOfLine ps f.line y → StandsBefore x y → i < j
  journal_in_order p i j e f x y at at' of of' before =
      in_order ps entry_line journal follow (rises entry_line journal rise) i j e f x y (only_journal journal p i e at).1
      (only_journal journal p j f at').1 of of' before

module _ (supers : ℕ) (ps : List Played) (pools : List PoolEntry) (journal : List RootEntry) (is_pool : IsPool supers pools)
    (follow : lines_follow ps ≡ true)
    (rise : all_pairs (λ (x : PoolEntry) (y : PoolEntry). leb (pool_line x) (pool_line y)) pools ≡ true)
    (asks : asks_in_order 0 journal ≡ true) (alike : are_alike pools journal ≡ true) where
  named : (j : ℕ) (e : PoolEntry) → slice_get pools j ≡ Some e →
      (i : ℕ) × (f : RootEntry) × IsEntry (journal_at (journal ∷ [])) e.partition i f × (asked_by f.act ≡ Some j) × (f.line ≡ e.line)
  named j e at =
      let (f, at', partition, line) = alike_at pools journal j e alike at in
      let same : 0 + j ≡ j = omega arith in (
        j,
        f,
        subst (λ p. IsEntry (journal_at (journal ∷ [])) p j f) (sym partition) at',
        asks_at 0 journal j f asks at' ∙
            ap Some same,
        line,
      )

  names_its_own : (p i j : ℕ) → Names (journal_at (journal ∷ [])) p i j → (p ≡ 0) × (i ≡ j)
  names_its_own p i j (e, at, asked) =
      let (here, at') = only_journal journal p i e at in
      let same : 0 + i ≡ j = of_some (0 + i) j (sym (asks_at 0 journal i e asks at') ∙ asked) in
      (here, omega arith)

  pub pool_of_one : IsPoolOf supers ps pools (journal_at (journal ∷ []))
  pool_of_one = record {
    fits = is_pool;
    named = named;
    once = λ j p q i k e at a b.
        let (here, place) = names_its_own p i j a in
        let (there, place') = names_its_own q k j b in
        (here ∙ sym there, place ∙ sym place');
    order = in_order ps pool_line pools follow (rises pool_line pools rise);
  }
