-- What a thread's lists have together, when one of them changes.
use Rattle.std.proofs.Common.{◌≡◌, ℕ, ◌*◌, ◌<◌, ◌≤◌, List, [], ◌∷◌, length, get_or, set, refl, sym, ◌∙◌, ap, subst, arith, inl, inr}
use Rattle.std.specs.Prelude.{All}
use Rattle.std.proofs.lemmas.List.{length-set}
use Rattle.std.proofs.lemmas.List.Elements.{All-set}
use Rattle.pa_record.specs.declared.numbered.Numbered.{Numbered}
use Rattle.pa_record.specs.declared.report.Tally.{Tally}
use Rattle.pa_rules.specs.Caches.{Cache, with_list}
use Rattle.pa_rules.specs.Lists.{HasPart, IsTallyOf, cache_place, changed_by, no_tally}
use Rattle.pa_rules.specs.Sizes.{HasClass, class_total}
use Rattle.pa_rules.proofs.Tallies.{most_bytes, most_slots, part_of, sums_changed, sums_none}
use Rattle.pa_rules.proofs.Versions.{class_cases, real_in}
use Rattle.pa_audit_holders.specs.Lists.{AreSummed, VersionLists, cache_in}
use Rattle.pa_audit_holders.proofs.Listing.{cache_empty, cache_put, listed, listed_within, unlisted, with_here, with_other, with_place}

pub list_short : (all : VersionLists) (sums : List Tally) (p c : ℕ) → AreSummed all sums → p < 4 → HasClass all.version c →
    length (cache_in all p c) ≤ 64
list_short all sums p c h low real =
    let few = h.short (cache_place all.version p c) [] (listed_within all p c h.many low real) in
    subst (λ zs. length zs ≤ 64) (sym (listed all p c real)) few

-- no list of partition p has more than 64 slots, whatever the class c
any_short : (all : VersionLists) (sums : List Tally) (p c : ℕ) → AreSummed all sums → p < 4 → length (cache_in all p c) ≤ 64
any_short all sums p c h low = elim (class_cases all.version c) [
  | inl real ↦ list_short all sums p c h low real
  | inr none ↦ let e = ap length (unlisted all p c none) in omega (arith, e)
]

pub sum_few : (all : VersionLists) (sums : List Tally) (p : ℕ) (sum : Tally) → AreSummed all sums → p < 4 →
    IsTallyOf (cache_in all p) sum → sum.slots ≤ 10880
sum_few all sums p sum h low by =
    let most = most_slots (cache_in all p) 64 sum (λ c. any_short all sums p c h low) by in omega (arith, most)

pub sum_small : (all : VersionLists) (sums : List Tally) (p : ℕ) (sum : Tally) → AreSummed all sums → p < 4 →
    IsTallyOf (cache_in all p) sum → sum.bytes ≤ 10695475200
sum_small all sums p sum h low by =
    let most = most_bytes (cache_in all p) 64 sum (λ c. any_short all sums p c h low) by in omega (arith, most)

-- lists that are all empty have no slots together
pub none_summed : (all : VersionLists) (sums : List Tally) → length all.lists ≡ 4 * class_total all.version →
    All (λ xs. xs ≡ []) all.lists → sums ≡ no_tally ∷ no_tally ∷ no_tally ∷ no_tally ∷ []
    → AreSummed all sums
none_summed all sums many none no_sums = record {
  many = many;
  short = λ k d below. let e = ap length (none k d below) in omega (arith, e);
  right = sums_none (cache_in all) sums (λ p c. ap (λ (z : Cache). z p c) (cache_empty all none)) no_sums;
}

-- ---- one list changed

-- what `replace` knows: where the list is, and how long it was
pub part_there : (all : VersionLists) (sums : List Tally) (p class before after : ℕ) → AreSummed all sums → p < 4 →
    HasClass all.version class → before ≡ length (cache_in all p class) → after ≤ 64
    → HasPart (get_or sums p no_tally) class before after
part_there all sums p class before after h low real long few =
    subst (λ k. HasPart (get_or sums p no_tally) class k after) (sym long)
    (part_of (cache_in all p) class after (get_or sums p no_tally) (real_in all.version class real)
    (λ c. let short = any_short all sums p c h low in omega (arith, short)) (omega (arith, few)) (h.right.each p low))

pub summed_there : (all : VersionLists) (sums : List Tally) (p class at before after : ℕ) (xs : List Numbered) (sum : Tally) →
    AreSummed all sums → p < 4 → HasClass all.version class
    → at ≡ cache_place all.version p class → before ≡ length (cache_in all p class) → after ≡ length xs → length xs ≤ 64 →
    sum ≡ changed_by (get_or sums p no_tally) class before after
    → AreSummed (with_place all at xs) (set sums p sum)
summed_there all sums p class at before after xs sum h low real place long more few becomes = record {
  many = length-set all.lists at xs ∙ h.many;
  short = All-set (λ (slots : List Numbered). length slots ≤ 64) all.lists at xs few h.short;
  right = sums_changed (cache_in all) next sums p class sum low (real_in all.version class real) others h.right
      (becomes ∙ ap (λ k. changed_by (get_or sums p no_tally) class k after) long
      ∙ ap (λ k. changed_by (get_or sums p no_tally) class (length (cache_in all p class)) k) (more ∙ sym (ap length here)));
}
  where
    next : Cache
    next = cache_in (with_place all at xs)

    put : next ≡ with_list (cache_in all) p class xs
    put = cache_put all p class at xs h.many low real place

    here : next p class ≡ xs
    here = ap (λ (z : Cache). z p class) put ∙ with_here (cache_in all) p class p class xs refl refl

    others : (q c : ℕ) → ((q ≡ p) × (c ≡ class) → ⊥) → next q c ≡ cache_in all q c
    others q c other = ap (λ (z : Cache). z q c) put ∙ with_other (cache_in all) p class q c xs (λ e f. other (e, f))
