-- Free titles that a seat hands over, and nothing else.
use Rattle.std.proofs.Common.{◌≡◌, ℕ, zero, suc, ◌+◌, ◌<◌, ◌≤◌, List, [], ◌∷◌, false, map, filter, refl, sym, ◌∙◌, ap, subst, arith, ◌⊎◌, inl, inr, eqb}
use Rattle.std.specs.Prelude.{Contains, AllPairs, ◌≢◌}
use Rattle.std.specs.List.{sum_by}
use Rattle.std.proofs.lemmas.List.Sums.{sum_by-cons}
use Rattle.pa_slot.specs.declared.title.Title.{Title}
use Rattle.pa_machine.specs.declared.event.Item.TheVariants.{Free}
use Rattle.pa_slot.specs.Titles.{same_title}
use Rattle.pa_slot.specs.Holdings.{one, amount, RawByte, FreePiece, RefPiece, FreeTitle, OwnOf, RefOf}
use Rattle.pa_slot.proofs.Same.{title_one, title_tells}
use Rattle.pa_region.specs.declared.view.RawRange.{RawRange}
use Rattle.pa_region.specs.declared.view.OwnTitle.{OwnTitle}
use Rattle.pa_region.specs.declared.view.Stake.{Stake}
use Rattle.pa_region.specs.declared.view.Keeper.{Keeper}
use Rattle.pa_region.specs.declared.view.View.{View}
use Rattle.pa_region.specs.Views.{raw_piece, own_piece, held_of_view, free_of, own_of, ref_of, low_of, stake_of}
use Rattle.pa_region.specs.Moves.{without, is_title_of}
use Rattle.pa_region.specs.Lists.{lease_of, keeper_of}
use Rattle.pa_region.specs.Waiting.{unclean_of}
use Rattle.pa_region.specs.Hands.{CanGive, CanHand, without_item, with_item, given_of, empty_of, left_after, given_after}
use Rattle.pa_region.proofs.Pieces.{raw_sum, held_split, frees_have, owns_have, refs_have}
use Rattle.pa_region.proofs.Adding.{sum_none}
use Rattle.pa_region.proofs.HandStep.{hand_parts}
use Rattle.pa_lists.proofs.Members.{not_in_none, first_in, later_in, in_cases}
use Rattle.pa_lists.proofs.Pairs.{pairs_head, pairs_tail}
use Rattle.pa_region.proofs.Stays.{low_held}
use Rattle.pa_root.proofs.Together.{no_own_clean}
use Rattle.pa_root.specs.Handing.{HasOnly}
use Rattle.pa_root.specs.Filling.{free_item, frees_parcel, GivesTitles}

-- ---- what can be given

-- a list without one title has each other one as many times
others_stay : (t u : Title) (ts : List Title) → (t ≡ u → ⊥) →
    sum_by (λ x. one (same_title x u)) (without (is_title_of t) ts) ≡ sum_by (λ x. one (same_title x u)) ts
others_stay t u [] ne = refl
others_stay t u (x ∷ xs) ne =
    let c = sum_by-cons (λ (y : Title). one (same_title y u)) x xs in
    elim (title_tells x t) [
      | inl y ↦
          let e : one (same_title x u) ≡ 0 = elim (title_one x u) [ inl z ↦ absurd (ne (sym y.1 ∙ z.1)) | inr z ↦ z.0 ] in
          rw y.0 (omega arith)
      | inr n ↦
          let ih = others_stay t u xs ne in
          let d = sum_by-cons (λ (y : Title). one (same_title y u)) x (without (is_title_of t) xs) in
          rw n.0 (omega arith)
    ]

pub can_give : (ts : List Title) (v : View) → AllPairs ◌≢◌ ts → ((t : Title) → Contains ts t → 0 < free_of v t) →
    CanGive (map free_item ts) v
can_give [] v once has = tt
can_give (t ∷ ts) v once has =
    let R : Title → Title → Type 0 = λ a b. a ≢ b in (
      has t (first_in t ts),
      can_give ts (without_item (Free t) v) (pairs_tail R t ts once)
          (λ u among. subst (λ n. 0 < n) (sym (others_stay t u v.frees (pairs_head R t u ts once among))) (has u (later_in t u ts among))),
    )

pub can_hand : (ts : List Title) (v : View) → AllPairs ◌≢◌ ts → ((t : Title) → Contains ts t → 0 < free_of v t) →
    CanHand (frees_parcel ts) v
can_hand ts v once has = record { items = can_give ts v once has; budget = omega arith; leases = tt; clean = λ k e. cc }

-- ---- what the note has

-- only free titles come, each of these
record IsGivenFrees (ts : List Title) (v w g : View) : Type 0 where
  raws : g.raws ≡ w.raws
  owns : g.owns ≡ w.owns
  refs : g.refs ≡ w.refs
  free : (u : Title) → 0 < free_of w u → 0 < free_of g u
  came : (u : Title) → Contains ts u → 0 < free_of g u
  only : (u : Title) → 0 < free_of g u → (0 < free_of w u) ⊎ Contains ts u

given_frees : (ts : List Title) (v w : View) → IsGivenFrees ts v w (given_of (map free_item ts) v w)
given_frees [] v w = record {
  raws = refl;
  owns = refl;
  refs = refl;
  free = λ u h. h;
  came = λ u among. absurd (not_in_none u among);
  only = λ u h. inl h;
}
given_frees (t ∷ ts) v w =
    let w' = with_item (Free t) v w in
    let ih = given_frees ts (without_item (Free t) v) w' in
    let more : (u : Title) → free_of w' u ≡ one (same_title t u) + free_of w u =
    λ u. sum_by-cons (λ (y : Title). one (same_title y u)) t w.frees in
    record {
      raws = ih.raws;
      owns = ih.owns;
      refs = ih.refs;
      free = λ u h. ih.free u (let e = more u in omega arith);
      came = λ u among. elim (in_cases t u ts among) [
        | inl here ↦
            ih.free u (let e = more u in elim (title_one t u) [ inl y ↦ let k = y.0 in omega arith | inr n ↦ absurd (n.1 here) ])
        | inr later ↦ ih.came u later
      ];
      only = λ u h. elim (ih.only u h) [
        | inl before ↦
            let e = more u in
            elim (title_one t u) [
              | inl y ↦ inr (subst (λ x. Contains (t ∷ ts) x) y.1 (first_in t ts))
              | inr n ↦ let k = n.0 in inl (omega arith)
            ]
        | inr later ↦ inr (later_in t u ts later)
      ];
    }

-- no stake and no keeper is marked
pub none_stakes : (ss : List Stake) (k : ℕ) → sum_by (λ (s : Stake). one (eqb s.number k)) (filter (λ (s : Stake). false) ss) ≡ 0
none_stakes [] k = refl
none_stakes (s ∷ ss) k = none_stakes ss k

pub none_keepers : (qs : List Keeper) (k : ℕ) → sum_by (λ (q : Keeper). one (eqb q.number k)) (filter (λ (q : Keeper). false) qs) ≡ 0
none_keepers [] k = refl
none_keepers (q ∷ qs) k = none_keepers qs k

pub note_has : (ts : List Title) (v : View) → HasOnly ts (given_after (frees_parcel ts) v)
note_has ts v =
    let g = given_frees ts v (empty_of v) in
    let x = given_after (frees_parcel ts) v in
    record {
      frees = λ t. (
        (λ free. elim (g.only t free) [ inl none ↦ absurd (omega arith) | inr among ↦ among ]),
        (λ among. g.came t among),
      );
      handles = λ t.
          let own : own_of x t ≡ 0 = ap (λ os. sum_by (λ (o : OwnTitle). one (same_title o.title t)) os) g.owns in
          let ref' : ref_of x t ≡ 0 = ap (λ rs. sum_by (λ (u : Title). one (same_title u t)) rs) g.refs in
          omega arith;
      raws = λ b.
          let e = held_split x (RawByte b) in
          let raw : raw_sum x (RawByte b) ≡ 0 = ap (λ rs. sum_by (λ (r : RawRange). amount (RawByte b) (raw_piece r)) rs) g.raws in
          let f = sum_none (λ (u : Title). amount (RawByte b) (FreePiece u)) x.frees (λ u. refl) in
          let o = sum_none (λ (y : OwnTitle). amount (RawByte b) (own_piece y)) x.owns (λ y. refl) in
          let r = sum_none (λ (u : Title). amount (RawByte b) (RefPiece u)) x.refs (λ u. refl) in
          omega arith;
      budget = refl;
      stakes = λ k. none_stakes v.stakes k;
      keepers = λ k. none_keepers v.keepers k;
      leases = λ n. refl;
    }

pub hands_out : (ts : List Title) (v : View) → AllPairs ◌≢◌ ts → ((t : Title) → Contains ts t → 0 < free_of v t) → GivesTitles ts v
hands_out ts v once has = record { can = can_hand ts v once has; has = note_has ts v; seen = λ t. refl }

-- ---- what the seat has left

-- all but these free titles
pub record KeepsBut (ts : List Title) (v y : View) : Type 0 where
  pub frees : (t : Title) → 0 < free_of y t → (0 < free_of v t) × (Contains ts t → ⊥)
  pub stays : (t : Title) → (Contains ts t → ⊥) → free_of y t ≡ free_of v t
  pub handles : (t : Title) → own_of y t + ref_of y t ≡ own_of v t + ref_of v t
  pub low : (b n : ℕ) → low_of y b n ≡ low_of v b n
  pub budget : y.budget ≡ v.budget
  pub stakes : (k : ℕ) → stake_of y k ≡ stake_of v k
  pub unclean : unclean_of y ≡ unclean_of v
  pub keepers : (k : ℕ) → keeper_of y k ≡ keeper_of v k
  pub leases : (n : ℕ) → lease_of y n ≡ lease_of v n

-- a note without raw bytes has none with low floors
no_low : (v : View) (b n : ℕ) → held_of_view v (RawByte b) ≡ 0 → low_of v b n ≡ 0
no_low v b n none = let e = low_held v b n in omega arith

pub keeps_but : (ts : List Title) (v : View) → AllPairs ◌≢◌ ts → ((t : Title) → Contains ts t → 0 < free_of v t) →
    ((t : Title) → free_of v t ≤ 1) →
    KeepsBut ts v (left_after (frees_parcel ts) v)
keeps_but ts v once has most =
    let can = can_hand ts v once has in
    let y = left_after (frees_parcel ts) v in
    let g = given_after (frees_parcel ts) v in
    let parts = hand_parts (frees_parcel ts) v can in
    let note = note_has ts v in
    let free : (t : Title) → free_of y t + free_of g t ≡ free_of v t =
    λ t. let e = parts.things (FreeTitle t) in let a = frees_have y t in let b = frees_have g t in let c = frees_have v t in omega arith in
    record {
      frees = λ t some. let e = free t in let m = most t in (omega arith, λ among. let k = (note.frees t).1 among in absurd (omega arith));
      stays = λ t away.
          let e = free t in
          elim (none_or_some (free_of g t)) [ inl none ↦ omega arith | inr some ↦ absurd (away ((note.frees t).0 some)) ];
      handles = λ t.
          let e = parts.things (OwnOf t) in
          let f = parts.things (RefOf t) in
          let a = owns_have y t in let b = owns_have g t in let c = owns_have v t in
          let a' = refs_have y t in let b' = refs_have g t in let c' = refs_have v t in
          let n = note.handles t in
          omega arith;
      low = λ b n. let e = parts.floors b n in let k = no_low g b n (note.raws b) in omega arith;
      budget = let e = parts.budget in omega arith;
      stakes = λ k. let e = parts.stakes k in let n = note.stakes k in omega arith;
      unclean = let e = parts.unclean in let n = no_own_clean g (λ t. let h = note.handles t in omega arith) in omega arith;
      keepers = λ k. let e = parts.keepers k in let n = note.keepers k in omega arith;
      leases = λ n. let e = parts.leases n in let m = note.leases n in omega arith;
    }
  where
    none_or_some : (n : ℕ) → (n ≡ 0) ⊎ (0 < n)
    none_or_some zero = inl refl
    none_or_some (suc n) = inr (omega arith)
