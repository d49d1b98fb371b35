-- The tail of a list goes back batch after batch.
use Rattle.std.proofs.Common.{◌≡◌, ℕ, ◌+◌, ◌*◌, ◌<◌, ◌≤◌, List, [], ◌∷◌, ◌++◌, length, map, take, drop, refl, sym, ◌∙◌, ap, subst, arith, inl, inr, append_assoc}
use Rattle.std.proofs.lemmas.List.{append-nil, length-map, length-drop, drop-drop, drop_all, take-append-drop, take-map, drop-map}
use Rattle.std.proofs.lemmas.Bool.Decides.{eqb_tells}
use Rattle.pa_slot.specs.declared.title.Title.{Title}
use Rattle.pa_record.specs.declared.root.RootAct.TheVariants.{Give}
use Rattle.pa_region.specs.Views.{stake_of}
use Rattle.pa_rules.specs.Caches.{gives}
use Rattle.pa_cache.specs.Caches.{batch_after, rest_after}
use Rattle.pa_cache.proofs.Middle.{outside, first_stay, later_stay, later_count}
use Rattle.pa_root.specs.Handing.{numbered_by, at_number_seen}
use Rattle.pa_op_specs.specs.Stocks.{StockValue, IsStock, titles_in, listed_in}
use Rattle.pa_op_specs.specs.Workers.{HasItsStake}
use Rattle.pa_thread_state.specs.Giving.{Gives, GivesTail, GivesBatch, GivesBatches, with_titles}
use Rattle.pa_op_specs.proofs.Quiet.{same_titles}
use Rattle.pa_thread_state.proofs.TitleLists.{this_list, other_list, in_batch}
use Rattle.pa_thread_state.proofs.HandedBack.{gives_none, gives_left, gives_on}
use Rattle.pa_rules.proofs.Batches.{gives_more}

-- of two stocks, lists that are the same but one
with_same : (p c : ℕ) (ts us : List Title) (lists others : ℕ → ℕ → List Title) → ts ≡ us →
    ((q d : ℕ) → ((q ≡ p) × (d ≡ c) → ⊥) → lists q d ≡ others q d) →
    (q d : ℕ) → with_titles p c ts lists q d ≡ with_titles p c us others q d
with_same p c ts us lists others same beside q d = elim (eqb_tells q p) [
  | inl y ↦ elim (eqb_tells d c) [ inl z ↦ rw (y.0, z.0) same | inr n ↦ rw (y.0, n.0) (beside q d (λ e. n.1 e.1)) ]
  | inr n ↦ rw n.0 (beside q d (λ e. n.1 e.0))
]

-- no batch went back yet
pub some_none : (line p c keep : ℕ) (s : StockValue) → GivesBatches line p c keep 0 s s
some_none line p c keep s =
    let ts = titles_in s.caches p c in
    let e : keep + 16 * 0 ≡ keep = omega arith in
    let whole : ts ≡ outside keep (keep + 16 * 0) ts = sym (ap (λ m. outside keep m ts) e ∙ take-append-drop keep ts) in
    record {
      acts = [];
      given = gives_left line p [] (titles_in s.caches) (with_titles p c (outside keep (keep + 16 * 0) ts) (titles_in s.caches)) s s
          (gives_none line p s) (λ q d. same q d (outside keep (keep + 16 * 0) ts) whole);
      rest = ap (λ m. gives (numbered_by s.view (drop m ts))) e ∙ ap gives (sym (drop-map (at_number_seen s.view) keep ts));
    }
  where
    same : (q d : ℕ) (ts : List Title) → titles_in s.caches p c ≡ ts → titles_in s.caches q d ≡ with_titles p c ts (titles_in s.caches) q d
    same q d ts is = elim (eqb_tells q p) [
      | inl y ↦ elim (eqb_tells d c) [
        | inl z ↦ rw (y.0, z.0) (ap (λ r. titles_in s.caches r d) y.1 ∙ (ap (λ e. titles_in s.caches p e) z.1 ∙ is))
        | inr n ↦ rw (y.0, n.0) refl
      ]
      | inr n ↦ rw n.0 refl
    ]

-- what is after the first ones, when some went back
pub behind : (line p c keep n : ℕ) (s now : StockValue) → GivesBatches line p c keep n s now →
    titles_in now.caches p c ≡ outside keep (keep + 16 * n) (titles_in s.caches p c)
behind line p c keep n s now some = some.given.kept p c ∙
    this_list p c (outside keep (keep + 16 * n) (titles_in s.caches p c)) (titles_in s.caches)

pub some_left : (line p c keep n : ℕ) (s now : StockValue) → GivesBatches line p c keep n s now →
    keep + 16 * n < length (titles_in s.caches p c) →
    keep < length (titles_in now.caches p c)
some_left line p c keep n s now some more =
    let ts = titles_in s.caches p c in
    let e : length (titles_in now.caches p c) ≡ length (outside keep (keep + 16 * n) ts) =
    ap (λ (us : List Title). length us) (behind line p c keep n s now some) in
    let f = later_count keep (keep + 16 * n) ts (omega arith) in
    omega arith

pub some_stake : (line p c keep n : ℕ) (s now : StockValue) → GivesBatches line p c keep n s now → HasItsStake s → HasItsStake now
some_stake line p c keep n s now some stake =
    subst (λ k. 0 < stake_of now.view k) (sym some.given.same.0) (let e = some.given.stakes s.thread in omega arith)

pub some_thread : (line p c keep n : ℕ) (s now : StockValue) → GivesBatches line p c keep n s now → now.thread ≡ s.thread
some_thread line p c keep n s now some = some.given.same.0

-- one batch more
pub some_more : (line p c keep n : ℕ) (s now next : StockValue) → IsStock now → GivesBatches line p c keep n s now →
    GivesBatch line p c keep now next →
    keep + 16 * n < length (titles_in s.caches p c) → GivesBatches line p c keep (n + 1) s next
some_more line p c keep n s now next is some batch more =
    let ts = titles_in s.caches p c in
    let m = keep + 16 * n in
    let us = titles_in now.caches p c in
    let f = at_number_seen s.view in
    let le : keep ≤ m = omega arith in
    let left : us ≡ outside keep m ts = behind line p c keep n s now some in
    let at : m + 16 ≡ keep + 16 * (n + 1) = omega arith in
    let later : drop keep us ≡ drop m ts = ap (drop keep) left ∙ later_stay keep m ts le in
    let taken : batch_after keep us ≡ take 16 (drop m ts) = ap (take 16) later in
    let named : numbered_by now.view (batch_after keep us) ≡ take 16 (map f (drop m ts)) =
    same_titles s.view now.view (batch_after keep us)
    (λ t among.
    let there = in_batch keep us t among in
    let well = is.lists.well p c t there in
    some.given.numbers well.0 t well.1 (is.lists.free p c t there))
    ∙ (ap (map f) taken ∙ sym (take-map f 16 (drop m ts))) in
    let gone : drop 16 (map f (drop m ts)) ≡ map f (drop (keep + 16 * (n + 1)) ts) =
    drop-map f 16 (drop m ts) ∙ ap (map f) (drop-drop 16 m ts ∙ ap (λ k. drop k ts) at) in
    let act = Give (numbered_by now.view (batch_after keep us)) in
    let long : 0 < length (map f (drop m ts)) = omega (arith, length-map (drop m ts) f, length-drop m ts) in
    let step : act ∷ gives (map f (drop (keep + 16 * (n + 1)) ts)) ≡ gives (map f (drop m ts)) =
    ap (λ xs. Give xs ∷ gives (map f (drop (keep + 16 * (n + 1)) ts))) named
    ∙ (ap (λ xs. Give (take 16 (map f (drop m ts))) ∷ gives xs) (sym gone) ∙ sym (gives_more (map f (drop m ts)) long)) in
    let stays : rest_after keep us ≡ outside keep (keep + 16 * (n + 1)) ts =
    ap (λ vs. vs ++ drop (keep + 16) us) (ap (take keep) left ∙ first_stay keep m ts le)
    ∙ ap (λ vs. take keep ts ++ vs) (sym (drop-drop 16 keep us) ∙ (ap (drop 16) later ∙ (drop-drop 16 m ts ∙ ap (λ k. drop k ts) at))) in
    record {
      acts = some.acts ++ act ∷ [];
      given = gives_left line p (some.acts ++ act ∷ []) (with_titles p c (rest_after keep us) (titles_in now.caches))
          (with_titles p c (outside keep (keep + 16 * (n + 1)) ts) (titles_in s.caches)) s next
          (gives_on line p some.acts (act ∷ []) (with_titles p c (outside keep m ts) (titles_in s.caches))
          (with_titles p c (rest_after keep us) (titles_in now.caches)) s now next some.given batch)
          (with_same p c (rest_after keep us) (outside keep (keep + 16 * (n + 1)) ts) (titles_in now.caches) (titles_in s.caches) stays
          (λ q d other. some.given.kept q d ∙ other_list p c (outside keep m ts) (titles_in s.caches) q d other));
      rest = append_assoc some.acts (act ∷ []) (gives (map f (drop (keep + 16 * (n + 1)) ts))) ∙
          (ap (λ acts. some.acts ++ acts) step ∙ some.rest);
    }

-- all of them
pub some_all : (line p c keep n : ℕ) (s now : StockValue) → GivesBatches line p c keep n s now →
    length (titles_in s.caches p c) ≤ keep + 16 * n →
    GivesTail line p c keep s now
some_all line p c keep n s now some few =
    let ts = titles_in s.caches p c in
    let m = keep + 16 * n in
    let none : drop m ts ≡ [] = drop_all m ts few in
    let acts : some.acts ≡ gives (drop keep (listed_in s p c)) =
    sym (append-nil some.acts) ∙ (ap (λ us. some.acts ++ gives (numbered_by s.view us)) (sym none) ∙ some.rest) in
    let stays : outside keep m ts ≡ take keep ts = ap (λ us. take keep ts ++ us) none ∙ append-nil (take keep ts) in
    subst (λ bs. Gives line p bs (with_titles p c (take keep ts) (titles_in s.caches)) s now) acts
    (gives_left line p some.acts (with_titles p c (outside keep m ts) (titles_in s.caches))
    (with_titles p c (take keep ts) (titles_in s.caches)) s now some.given
    (with_same p c (outside keep m ts) (take keep ts) (titles_in s.caches) (titles_in s.caches) stays (λ q d other. refl)))
