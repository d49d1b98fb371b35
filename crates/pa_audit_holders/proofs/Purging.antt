-- The entries of a purge, list by list and partition by partition.
use Rattle.std.proofs.Common.{◌≡◌, ℕ, zero, suc, ◌+◌, ◌-◌, ◌<◌, ◌≤◌, List, [], ◌∷◌, ◌++◌, drop, length, Some, None, refl, sym, ◌∙◌, ap, subst, arith, inl, inr}
use Rattle.std.proofs.lemmas.Bool.{cases_lt}
use Rattle.std.proofs.lemmas.List.{nil_from_length}
use Rattle.pa_record.specs.declared.numbered.Numbered.{Numbered}
use Rattle.pa_record.specs.declared.root.RootAct.{RootAct}
use Rattle.pa_record.specs.declared.root.RootAct.TheVariants.{Purge}
use Rattle.pa_buckets.specs.Limits.{first_class, past_class}
use Rattle.pa_rules.specs.Roots.{Journals}
use Rattle.pa_rules.specs.Caches.{Cache, acts_of, all_listed, gives, listed_slots, purge_acts}
use Rattle.pa_rules.proofs.Sums.{NoneButOf, slots_of_version, purge_of_version}
use Rattle.pa_audit_holders.specs.Gives.{PurgesAll, TellsGives, TellsPurge, whole_count, whole_purge}
use Rattle.pa_audit_holders.proofs.Remaining.{AreLeft, left_more, left_part, left_some}

cancel : {X : Type 0} (xs ys zs : List X) → xs ++ ys ≡ xs ++ zs → ys ≡ zs
cancel [] ys zs e = e
cancel {X = X} (x ∷ xs) ys zs e = let one : ◌≡◌ {A = List X} (x ∷ (xs ++ ys)) (x ∷ (xs ++ zs)) = e in cancel xs ys zs (cc one)

-- ---- a partition

-- From the place `at` on the entries purge the lists from class k on, up to an end, exactly when all of them purge the partition. These
-- lists have `rest` slots, and `left` slots are left to be counted.
pub record IsPurging (acts : List RootAct) (lists : ℕ → List Numbered) (slots end k at left rest : ℕ) : Type 0 where
  pub within : at ≤ length acts
  pub lists_left : AreLeft lists end k rest
  pub counted : slots + rest ≡ left + whole_count lists
  pub onto : acts ≡ whole_purge lists → drop at acts ≡ purge_acts lists k (end - k)
  pub back : drop at acts ≡ purge_acts lists k (end - k) → acts ≡ whole_purge lists

pub purging_start : (version : ℕ) (acts : List RootAct) (lists : ℕ → List Numbered) (slots rest : ℕ) → NoneButOf version lists
    → rest ≡ whole_count lists → IsPurging acts lists slots (past_class version) (first_class version) 0 slots rest
unfolding whole_count whole_purge
purging_start version acts lists slots rest none is = record {
  within = omega arith;
  lists_left = is ∙ slots_of_version version lists none;
  counted = ap (λ n. slots + n) is;
  onto = λ e. e ∙ purge_of_version version lists none;
  back = λ e. e ∙ sym (purge_of_version version lists none);
}

-- At class k, whose list is this one, while slots are left.
module _ {acts : List RootAct} {lists : ℕ → List Numbered} {slots end k at left rest : ℕ} {xs : List Numbered}
    (h : IsPurging acts lists slots end k at left rest) (some : 0 < rest) (is : xs ≡ lists k) where
  acts_here : purge_acts lists k (end - k) ≡ gives xs ++ purge_acts lists (k + 1) (end - (k + 1))
  acts_here =
      let less = left_some lists end k rest h.lists_left some in
      let one_more : end - k ≡ suc (end - (k + 1)) = omega (arith, less) in
      ap (purge_acts lists k) one_more ∙ ap (λ z. gives z ++ purge_acts lists (k + 1) (end - (k + 1))) (sym is)

  -- its slots are among those that are left
  pub purging_part : length xs ≤ rest
  purging_part = left_part lists end k rest (length xs) h.lists_left some (ap length is)

  -- if the list doesn't go back, the entries don't purge the partition
  pub purging_not : TellsGives acts at xs None → TellsPurge acts lists slots None
  purging_not none = λ e few. none (purge_acts lists (k + 1) (end - (k + 1))) (h.onto e ∙ acts_here)

  -- if the list has more slots than are left to be counted, the entries don't purge the partition within the slots
  pub purging_over : left < length xs → TellsPurge acts lists slots None
  purging_over more = λ e few. let counted = h.counted in let part = purging_part in absurd (omega (arith, counted, part, more, few))

  pub purging_more : (next : ℕ) → length xs ≤ left → TellsGives acts at xs (Some next)
      → IsPurging acts lists slots end (k + 1) next (left - length xs) (rest - length xs)
  purging_more next few gave = record {
    within = gave.1;
    lists_left = left_more lists end k rest (length xs) h.lists_left some (ap length is);
    counted = let counted = h.counted in let part = purging_part in omega (arith, counted, part, few);
    onto = λ e. cancel (gives xs) (drop next acts) (purge_acts lists (k + 1) (end - (k + 1))) (sym gave.0 ∙ h.onto e ∙ acts_here);
    back = λ e. h.back (gave.0 ∙ ap (λ z. gives xs ++ z) e ∙ sym acts_here);
  }

-- lists that have no slots are purged by a Purge alone
none_left : (lists : ℕ → List Numbered) (k n : ℕ) → listed_slots lists k n ≡ 0 → purge_acts lists k n ≡ Purge ∷ []
unfolding listed_slots
none_left lists k zero none = refl
none_left lists k (suc n) none =
    let here : length (lists k) + listed_slots lists (k + 1) n ≡ 0 = none in
    let empty : lists k ≡ [] = nil_from_length (lists k) (omega (arith, here)) in
    ap (λ z. gives z ++ purge_acts lists (k + 1) n) empty ∙ none_left lists (k + 1) n (omega (arith, here))

-- When no slot is left.
module _ {acts : List RootAct} {lists : ℕ → List Numbered} {slots end k at left rest : ℕ}
    (h : IsPurging acts lists slots end k at left rest) (none : rest ≡ 0) where
  acts_end : purge_acts lists k (end - k) ≡ Purge ∷ []
  acts_end = none_left lists k (end - k) (sym h.lists_left ∙ none)

  pub purging_end : drop at acts ≡ Purge ∷ [] → TellsPurge acts lists slots (Some left)
  purging_end e = let counted = h.counted in (h.back (e ∙ sym acts_end), omega (arith, counted, none))

  pub purging_no_end : (drop at acts ≡ Purge ∷ [] → ⊥) → TellsPurge acts lists slots None
  purging_no_end other = λ e few. other (h.onto e ∙ acts_end)

-- ---- all partitions

-- The line's entries purge the partitions below p, and `left` slots are left to be counted in the others.
pub record ArePurging (partitions : ℕ) (roots : Journals) (line slots : ℕ) (cache : Cache) (p left : ℕ) : Type 0 where
  pub acts : (q : ℕ) → q < p → acts_of roots line q ≡ whole_purge (cache q)
  pub counted : slots + all_listed cache p (partitions - p) ≡ left + all_listed cache 0 partitions

-- At partition p.
module _ {partitions : ℕ} {roots : Journals} {line slots : ℕ} {cache : Cache} {p left : ℕ}
    (h : ArePurging partitions roots line slots cache p left) (less : p < partitions) where
  listed_here : all_listed cache p (partitions - p) ≡ whole_count (cache p) + all_listed cache (p + 1) (partitions - (p + 1))
  unfolding whole_count
  listed_here = let one_more : partitions - p ≡ suc (partitions - (p + 1)) = omega (arith, less) in ap (all_listed cache p) one_more

  pub all_not : TellsPurge (acts_of roots line p) (cache p) left None → PurgesAll partitions roots line slots cache → ⊥
  all_not none all =
      let counted = h.counted in
      let here = listed_here in
      let sum = all.1 in
      none (all.0 p less) (omega (arith, counted, here, sum))

  pub all_more : (rest : ℕ) → TellsPurge (acts_of roots line p) (cache p) left (Some rest) →
      ArePurging partitions roots line slots cache (p + 1) rest
  all_more rest told =
      let counted = h.counted in
      let here = listed_here in
      let is = told.1 in
      record {
        acts = λ q below. elim (cases_lt q p) [
          | inl before ↦ h.acts q before
          | inr least ↦
              let same : p ≡ q = omega (arith, below, least) in
              subst (λ k. acts_of roots line k ≡ whole_purge (cache k)) same told.0
        ];
        counted = omega (arith, counted, here, is);
      }
