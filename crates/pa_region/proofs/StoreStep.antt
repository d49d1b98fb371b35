-- A store is an enabled event of the core that is shown, and keeps the rule.
use Rattle.std.proofs.Common.{◌≡◌, ℕ, ◌+◌, ◌-◌, ◌*◌, ◌/◌, ◌%◌, ◌<◌, ◌≤◌, Bool, true, false, ◌&&◌, ◌||◌, List, [], ◌∷◌, length, set, refl, sym, ◌∙◌, ap, subst, arith, ◌⊎◌, inl, inr}
use Rattle.std.specs.List.{sum_by}
use Rattle.std.proofs.lemmas.List.Sums.{sum_by-le-sum_by}
use Rattle.std.proofs.lemmas.Bool.{cases_lt, lt-ltb, le-ltb, le-leb, lt-leb, true≢false}
use mathlib.Core.Option.{some}
use lib.ListN.{get_elem?}
use Rattle.pa_slot.specs.declared.title.Title.{Title}
use Rattle.pa_slot.specs.declared.title.OwnState.{OwnState}
use Rattle.pa_slot.specs.declared.title.OwnState.TheVariants.{Dirty}
use Rattle.pa_machine.specs.declared.event.Event.TheVariants.{Store}
use Rattle.pa_slot.specs.Count.{refs_of}
use Rattle.pa_slot.specs.Titles.{same_title, Covers, IsContentOf, count_place, count_word, progress}
use Rattle.pa_slot.specs.Holdings.{Thing, OwnPiece, RawByte, FreeTitle, OwnOf, OwnAs, SealedOwn, RefOf, one, amount, IsTitleHeld}
use Rattle.pa_machine.specs.Events.{HasActor, IsEnabled, Happens, IsAfter, IsRawWord, IsFreeWord, IsOwnWord, total_of}
use Rattle.pa_slot.proofs.Same.{title_tells, title_self, state_self}
use Rattle.pa_machine.proofs.Parts.{Changes, free_or, word_covered}
use Rattle.pa_machine.proofs.Happening.{after_changes, in_total, own_state_is, happens_good}
use Rattle.pa_machine.proofs.Noting.{keeps_content}
use Rattle.pa_region.specs.declared.view.OwnTitle.{OwnTitle}
use Rattle.pa_region.specs.declared.view.View.{View}
use Rattle.pa_region.specs.Views.{own_piece, held_of_view, byte_words, shown, free_of, own_of, idle_of, HasStake, Knows}
use Rattle.pa_region.specs.History.{content_of}
use Rattle.pa_region.specs.Rule.{IsKept}
use Rattle.pa_region.specs.Moves.{changed, without, is_own_of}
use Rattle.pa_region.specs.Waiting.{is_poisoned, poisoned_of, unclean_of}
use Rattle.pa_region.specs.Stores.{has_content_at, dirty, after_store, HasRawWord, HasFreeContent, HasIdleContent, CanStore}
use Rattle.pa_region.proofs.Adding.{IsFirst, one_and, sum_part, sum_zero, first_of, changed_sum, changed_agree, none_changed}
use Rattle.pa_region.proofs.Pieces.{held_split, held_within, frees_have, owns_have, seals_have, idle_owns}
use Rattle.pa_region.proofs.Bytes.{bytes_set, bytes_length, held_in_all}
use Rattle.pa_region.proofs.Shown.{shown_actor, shown_held, is_after}
use Rattle.pa_region.proofs.ValuePart.{raw_outside}
use Rattle.pa_region.proofs.CountEvent.{open_state, own_few, seal_held}
use Rattle.pa_region.proofs.OneTitle.{few_owns}
use Rattle.pa_region.proofs.PoisonedOwns.{sum_grows, none_poisoned, dirty_poisoned}
use Rattle.pa_region.proofs.WriteStep.{IsWrite, write_keeps}
use Rattle.pa_region.proofs.StepsPart.{IsEased, eased_same, eased_change, filled_same}

-- the test says whether the word is a content word of the Own
content_test : (at_byte : ℕ) (o : OwnTitle) → ((has_content_at at_byte o ≡ true) × IsContentOf o.title at_byte) ⊎
    ((has_content_at at_byte o ≡ false) × (IsContentOf o.title at_byte → ⊥))
content_test at_byte o = elim (cases_lt at_byte o.title.start) [
  | inl y ↦ inr (rw (lt-leb o.title.start at_byte y) refl, (λ h. let z = h.0 in omega arith))
  | inr n ↦ elim (cases_lt (at_byte + 8) (o.title.start + o.title.len)) [
    | inl y ↦ inl (rw (le-leb o.title.start at_byte n, lt-ltb (at_byte + 8) (o.title.start + o.title.len) y) refl, (n, y))
    | inr m ↦ inr (
      rw (le-leb o.title.start at_byte n, le-ltb (at_byte + 8) (o.title.start + o.title.len) m) refl,
      (λ h. let z = h.1 in omega arith),
    )
  ]
]

-- a member of a view's Owns is an Own that it has
own_member : (v : View) (j : ℕ) (o : OwnTitle) → get_elem? v.owns j ≡ some o → 0 < own_of v o.title
own_member v j o at_j =
    let p = sum_part (λ (q : OwnTitle). one (same_title q.title o.title)) v.owns j o at_j in
    let z : one (same_title o.title o.title) ≡ 1 = ap one (title_self o.title) in
    omega arith

-- an Own of a view is held
own_in_all : (words : List ℕ) (views : List View) (i : ℕ) (v : View) (t : Title) → get_elem? views i ≡ some v → 0 < own_of v t →
    IsTitleHeld (total_of (shown words views)) t
own_in_all words views i v t at_i has = let o = owns_have v t in held_in_all words views i v t at_i (omega arith)

-- a title that a view holds free is held
free_in_all : (words : List ℕ) (views : List View) (i : ℕ) (v : View) (t : Title) → get_elem? views i ≡ some v → 0 < free_of v t →
    IsTitleHeld (total_of (shown words views)) t
free_in_all words views i v t at_i has = let o = frees_have v t in held_in_all words views i v t at_i (omega arith)

-- a content word's first byte lies in its title
content_covers : (t : Title) (at_byte : ℕ) → IsContentOf t at_byte → Covers t at_byte
content_covers t at_byte inside = let high = inside.1 in (inside.0, omega arith)

-- a content word of a held title is no count word of one
pub content_no_count : (words : List ℕ) (views : List View) (t u : Title) (at_byte : ℕ) → IsKept words views →
    IsTitleHeld (total_of (shown words views)) t →
    IsContentOf t at_byte → at_byte % 8 ≡ 0 → IsTitleHeld (total_of (shown words views)) u → at_byte / 8 ≡ count_place u → ⊥
content_no_count words views t u at_byte k held inside aligned other e =
    let well = k.holders.good.divided.well u other in
    let here : at_byte ≡ 8 * count_place u = omega arith in
    let same = k.holders.good.divided.apart t u at_byte held other (content_covers t at_byte inside)
    (subst (λ (b : ℕ). Covers u b) (sym here)
    (word_covered (length (byte_words words)) u (count_place u) well (omega arith, omega arith))) in
    let high = (subst (λ (z : Title). IsContentOf z at_byte) same inside).1 in
    let a = well.start_aligned in let b = well.len_aligned in let c = well.long in
    absurd (omega arith)

-- a raw word is none either
pub raw_no_count : (words : List ℕ) (views : List View) (i : ℕ) (v : View) (u : Title) (at_byte : ℕ) → IsKept words views →
    get_elem? views i ≡ some v →
    0 < held_of_view v (RawByte at_byte) → at_byte % 8 ≡ 0 → IsTitleHeld (total_of (shown words views)) u → at_byte / 8 ≡ count_place u → ⊥
raw_no_count words views i v u at_byte k at_i raw aligned other e =
    let well = k.holders.good.divided.well u other in
    let here : at_byte ≡ 8 * count_place u = omega arith in
    let none = raw_outside (byte_words words) (total_of (shown words views)) at_byte u k.holders.good other
    (subst (λ (b : ℕ). Covers u b) (sym here)
    (word_covered (length (byte_words words)) u (count_place u) well (omega arith, omega arith))) in
    let w = held_within words views i v at_i (RawByte at_byte) in
    absurd (omega arith)

-- a raw word lies in the region
pub raw_below : (words : List ℕ) (views : List View) (i : ℕ) (v : View) (at_byte : ℕ) → IsKept words views → get_elem? views i ≡ some v →
    0 < held_of_view v (RawByte at_byte) → at_byte / 8 < length words - 16
raw_below words views i v at_byte k at_i raw = elim (cases_lt at_byte (8 * length (byte_words words))) [
  | inl y ↦ let l = bytes_length words in omega arith
  | inr n ↦
      let z = k.holders.good.divided.outside at_byte n in
      let w = held_within words views i v at_i (RawByte at_byte) in
      absurd (omega arith)
]

-- a word of a held title is one of the bytes' words
pub title_below : (words : List ℕ) (views : List View) (t : Title) (at_byte : ℕ) → IsKept words views →
    IsTitleHeld (total_of (shown words views)) t →
    Covers t at_byte → at_byte / 8 < length words - 16
title_below words views t at_byte k held covers =
    let well = k.holders.good.divided.well t held in
    let inside = well.inside in let high = covers.1 in
    let l = bytes_length words in
    omega arith

-- what a store changes of the view besides the word: nothing but a state
pub store_holds : (at_byte value : ℕ) (v : View) (x : Thing) → ((o : OwnTitle) → amount x (own_piece (dirty o)) ≡ amount x (own_piece o)) →
    held_of_view (after_store at_byte value v) x ≡ held_of_view v x
store_holds at_byte value v x same =
    let before = held_split v x in
    let after = held_split (after_store at_byte value v) x in
    let c = changed_sum (has_content_at at_byte) dirty (λ o. amount x (own_piece o)) v.owns same in
    omega arith

-- no Own of the view has the word, if it is raw, or in a free title
pub plain_owns : (at_byte : ℕ) (words : List ℕ) (views : List View) (i : ℕ) (v : View) → IsKept words views → get_elem? views i ≡ some v →
    HasRawWord v at_byte ⊎ HasFreeContent v at_byte → changed (has_content_at at_byte) dirty v.owns ≡ v.owns
plain_owns at_byte words views i v k at_i plain =
    none_changed (has_content_at at_byte) dirty v.owns
    (sum_zero (λ o. one (has_content_at at_byte o)) v.owns (λ j o at_j. elim (content_test at_byte o) [
      | inl y ↦ absurd (never plain o (own_member v j o at_j) y.1)
      | inr n ↦ ap one n.0
    ]))
  where
    never : HasRawWord v at_byte ⊎ HasFreeContent v at_byte → (o : OwnTitle) → 0 < own_of v o.title → IsContentOf o.title at_byte → ⊥
    never (inl raw) o has inside =
        let none = raw_outside (byte_words words) (total_of (shown words views)) at_byte o.title k.holders.good
        (own_in_all words views i v o.title at_i has) (content_covers o.title at_byte inside) in
        let w = held_within words views i v at_i (RawByte at_byte) in
        let r = raw at_byte (omega arith) (omega arith) in
        absurd (omega arith)
    never (inr free) o has inside =
        let t = free.0 in
        let held = free_in_all words views i v t at_i free.1 in
        let same = k.holders.good.divided.apart o.title t at_byte (own_in_all words views i v o.title at_i has) held
        (content_covers o.title at_byte inside) (content_covers t at_byte free.2) in
        let own : 0 < own_of v t = subst (λ (z : Title). 0 < own_of v z) same has in
        let f = frees_have v t in let g = owns_have v t in
        let a = held_within words views i v at_i (FreeTitle t) in
        let b = held_within words views i v at_i (OwnOf t) in
        let c = k.holders.good.counted t held in
        let owns = c.owns in
        let some_free = free.1 in
        elim (free_or (count_word (byte_words words) t)) [
          | inl y ↦ let z = y.0 in absurd (omega arith)
          | inr n ↦ let z = c.taken n in absurd (omega arith)
        ]

-- a store is a write of a known word
store_write : (at_byte value : ℕ) (words : List ℕ) (views : List View) (i : ℕ) (v : View) → IsKept words views →
    get_elem? views i ≡ some v →
    CanStore at_byte v → IsWrite words views v (after_store at_byte value v) (at_byte / 8) value
store_write at_byte value words views i v k at_i can = record {
  knows = knows can.1;
  below = below can.1;
  content = λ t held e. no_count can.1 t held e;
  known = refl;
  raws = refl;
  uncut = refl;
  raw = λ b. store_holds at_byte value v (RawByte b) (λ o. refl);
  free = λ t. store_holds at_byte value v (FreeTitle t) (λ o. refl);
  own = λ t. store_holds at_byte value v (OwnOf t) (λ o. refl);
  ref = λ t. store_holds at_byte value v (RefOf t) (λ o. refl);
  idle = λ t. changed_sum (has_content_at at_byte) dirty (λ (o : OwnTitle). one (same_title o.title t && (o.idle || o.sealed)))
      v.owns (λ o. refl);
  budget = refl;
  stakes = refl;
  seen = refl;
  grown = record {
    keepers = refl;
    leases = refl;
    lists = refl;
    stakes = inl refl;
    seen = λ u. omega arith;
    handles = λ u has. let o =
        changed_sum (has_content_at at_byte) dirty (λ (x : OwnTitle). one (same_title x.title u)) v.owns (λ x. refl) in inl (omega arith);
  };
  handed = refl;
  poisoned = λ u. poisoned_stay u can.1;
  unclean = λ some_own. has_stake some_own can.1;
}
  where
    here : 8 * (at_byte / 8) ≡ at_byte
    here = let a = can.0 in omega arith

    owned : (t : Title) → 0 < idle_of v t → 0 < own_of v t
    owned t some_idle = let h = idle_owns v t some_idle in let o = owns_have v t in omega arith

    knows : HasRawWord v at_byte ⊎ (HasFreeContent v at_byte ⊎ HasIdleContent v at_byte) → Knows v (at_byte / 8)
    knows (inl raw) = inl (subst (λ (b : ℕ). 0 < held_of_view v (RawByte b)) (sym here) (raw at_byte (omega arith) (omega arith)))
    knows (inr (inl free)) =
        inr (inl (free.0, free.1, subst (λ (b : ℕ). Covers free.0 b) (sym here) (content_covers free.0 at_byte free.2)))
    knows (inr (inr own)) = inr (inr (own.0, owned own.0 own.1, subst (λ (b : ℕ). IsContentOf own.0 b) (sym here) own.3))

    below : HasRawWord v at_byte ⊎ (HasFreeContent v at_byte ⊎ HasIdleContent v at_byte) → at_byte / 8 < length words - 16
    below (inl raw) = raw_below words views i v at_byte k at_i (raw at_byte (omega arith) (omega arith))
    below (inr (inl free)) =
        title_below words views free.0 at_byte k (free_in_all words views i v free.0 at_i free.1) (content_covers free.0 at_byte free.2)
    below (inr (inr own)) = title_below words views own.0 at_byte k (own_in_all words views i v own.0 at_i (owned own.0 own.1))
        (content_covers own.0 at_byte own.3)

    no_count : HasRawWord v at_byte ⊎ (HasFreeContent v at_byte ⊎ HasIdleContent v at_byte) → (t : Title) →
        IsTitleHeld (total_of (shown words views)) t → at_byte / 8 ≡ count_place t → ⊥
    no_count (inl raw) t held e = raw_no_count words views i v t at_byte k at_i (raw at_byte (omega arith) (omega arith)) can.0 held e
    no_count (inr (inl free)) t held e =
        content_no_count words views free.0 t at_byte k (free_in_all words views i v free.0 at_i free.1) free.2 can.0 held e
    no_count (inr (inr own)) t held e =
        content_no_count words views own.0 t at_byte k (own_in_all words views i v own.0 at_i (owned own.0 own.1)) own.3 can.0 held e

    -- the Own with this content is in no poisoned state
    unpoisoned : (own : HasIdleContent v at_byte) → (u : Title) (j : ℕ) (o : OwnTitle) → get_elem? v.owns j ≡ some o →
        has_content_at at_byte o ≡ true →
        one (same_title o.title u && is_poisoned o.state) ≡ 0
    unpoisoned own u j o at_j here = elim (content_test at_byte o) [
      | inl y ↦
          let t = own.0 in
          let mine = owned t own.1 in
          let held = own_in_all words views i v t at_i mine in
          let same = k.holders.good.divided.apart o.title t at_byte (own_in_all words views i v o.title at_i (own_member v j o at_j)) held
          (content_covers o.title at_byte y.1) (content_covers t at_byte own.3) in
          let few = few_owns words views t k held in
          let few_here : own_of v t ≤ 1 = let p = sum_part (λ x. own_of x t) views i v at_i in omega arith in
          let none = none_poisoned v t own.2 few_here in
          let p = sum_part (λ (x : OwnTitle). one (same_title x.title t && is_poisoned x.state)) v.owns j o at_j in
          elim (title_tells o.title u) [
            | inl z ↦ subst (λ (x : Title). one (same_title o.title x && is_poisoned o.state) ≡ 0) (sym same ∙ z.1) (omega arith)
            | inr n ↦ rw n.0 refl
          ]
      | inr n ↦ absurd (true≢false (sym here ∙ n.0))
    ]

    poisoned_stay : (u : Title) → HasRawWord v at_byte ⊎ (HasFreeContent v at_byte ⊎ HasIdleContent v at_byte) →
        poisoned_of v u ≤ poisoned_of (after_store at_byte value v) u
    poisoned_stay u (inl raw) = rw (plain_owns at_byte words views i v k at_i (inl raw)) (omega arith)
    poisoned_stay u (inr (inl free)) = rw (plain_owns at_byte words views i v k at_i (inr free)) (omega arith)
    poisoned_stay u (inr (inr own)) =
        sum_grows (λ (o : OwnTitle). one (same_title o.title u && is_poisoned o.state)) (has_content_at at_byte) dirty v.owns
        (λ j o at_j here. let z = unpoisoned own u j o at_j here in omega arith)

    has_stake : 0 < unclean_of (after_store at_byte value v) → HasRawWord v at_byte ⊎
        (HasFreeContent v at_byte ⊎ HasIdleContent v at_byte) → HasStake v
    has_stake some_own (inl raw) = (k.reads.each_view i v at_i).stake (rw (plain_owns at_byte words views i v k at_i (inl raw)) at some_own)
    has_stake some_own (inr (inl free)) =
        (k.reads.each_view i v at_i).stake (rw (plain_owns at_byte words views i v k at_i (inr free)) at some_own)
    has_stake some_own (inr (inr own)) = own.4

-- the one Own that has the word is the title's
pub own_dirty : (at_byte : ℕ) (t : Title) (words : List ℕ) (views : List View) (i : ℕ) (v : View) → IsKept words views →
    get_elem? views i ≡ some v →
    0 < own_of v t → IsContentOf t at_byte → changed (has_content_at at_byte) dirty v.owns ≡ changed (is_own_of t) dirty v.owns
own_dirty at_byte t words views i v k at_i has inside = changed_agree (has_content_at at_byte) (is_own_of t) dirty v.owns agree
  where
    agree : (j : ℕ) (o : OwnTitle) → get_elem? v.owns j ≡ some o → has_content_at at_byte o ≡ is_own_of t o
    agree j o at_j = elim (title_tells o.title t) [
      | inl y ↦ elim (content_test at_byte o) [
        | inl z ↦ z.0 ∙ sym y.0
        | inr z ↦ absurd (z.1 (subst (λ (u : Title). IsContentOf u at_byte) (sym y.1) inside))
      ]
      | inr n ↦ elim (content_test at_byte o) [
        | inl z ↦ absurd (n.1 (k.holders.good.divided.apart o.title t at_byte
            (own_in_all words views i v o.title at_i (own_member v j o at_j)) (own_in_all words views i v t at_i has)
            (content_covers o.title at_byte z.1) (content_covers t at_byte inside)))
        | inr z ↦ z.0 ∙ sym n.0
      ]
    ]

-- what a store changes of the view's holdings
plain_changes : (at_byte value : ℕ) (words : List ℕ) (views : List View) (i : ℕ) (v : View) → IsKept words views →
    get_elem? views i ≡ some v →
    HasRawWord v at_byte ⊎ HasFreeContent v at_byte → Changes (held_of_view v) [] [] (held_of_view (after_store at_byte value v))
plain_changes at_byte value words views i v k at_i plain x =
    let before = held_split v x in
    let after = held_split (after_store at_byte value v) x in
    let same : sum_by (λ o. amount x (own_piece o)) (changed (has_content_at at_byte) dirty v.owns) ≡ sum_by
    (λ o. amount x (own_piece o)) v.owns =
    ap (λ (os : List OwnTitle). sum_by (λ o. amount x (own_piece o)) os) (plain_owns at_byte words views i v k at_i plain) in
    omega arith

-- the state of the Own with this content when the store finds it
own_changes : (at_byte value : ℕ) (words : List ℕ) (views : List View) (i : ℕ) (v : View) (t : Title) → IsKept words views →
    get_elem? views i ≡ some v →
    0 < own_of v t → IsContentOf t at_byte →
    (a : OwnState) × (sealed : Bool) × (0 < held_of_view v (OwnAs t a)) × (held_of_view v (SealedOwn t) ≡ one sealed) ×
    Changes (held_of_view v) (OwnPiece sealed t a ∷ []) (OwnPiece sealed t Dirty ∷ []) (held_of_view (after_store at_byte value v))
own_changes at_byte value words views i v t k at_i has inside = (first.0.state, first.0.sealed, holds, seals, changes)
  where
    some_passes : 0 < sum_by (λ o. one (has_content_at at_byte o)) v.owns
    some_passes =
        let l = sum_by-le-sum_by (λ (o : OwnTitle). one (same_title o.title t)) (λ o. one (has_content_at at_byte o)) v.owns
        (λ o. elim (title_tells o.title t) [
          | inl y ↦ elim (content_test at_byte o) [
            | inl z ↦ rw (y.0, z.0) (omega arith)
            | inr z ↦ absurd (z.1 (subst (λ (u : Title). IsContentOf u at_byte) (sym y.1) inside))
          ]
          | inr n ↦ rw n.0 (omega arith)
        ]) in
        omega arith

    first : (o : OwnTitle) × IsFirst (has_content_at at_byte) v.owns o
    first = first_of (has_content_at at_byte) v.owns some_passes

    title : first.0.title ≡ t
    title = elim (content_test at_byte first.0) [
      | inl y ↦
          let c = first.1.left_out (λ (o : OwnTitle). one (same_title o.title first.0.title)) in
          let z : one (same_title first.0.title first.0.title) ≡ 1 = ap one (title_self first.0.title) in
          k.holders.good.divided.apart first.0.title t at_byte (own_in_all words views i v first.0.title at_i (omega arith))
          (own_in_all words views i v t at_i has)
          (content_covers first.0.title at_byte y.1) (content_covers t at_byte inside)
      | inr n ↦ absurd (true≢false (sym first.1.passes ∙ n.0))
    ]

    holds : 0 < held_of_view v (OwnAs t first.0.state)
    holds =
        let c = first.1.left_out (λ o. amount (OwnAs t first.0.state) (own_piece o)) in
        let here : amount (OwnAs t first.0.state) (own_piece first.0) ≡ 1 =
        rw (title, title_self t, state_self first.0.state) refl in
        let s = held_split v (OwnAs t first.0.state) in
        omega arith

    seals : held_of_view v (SealedOwn t) ≡ one first.0.sealed
    seals =
        let few = own_few words views i v t k at_i in
        let c = first.1.left_out (λ (o : OwnTitle). one (same_title o.title t && o.sealed)) in
        let d = first.1.left_out (λ (o : OwnTitle). one (same_title o.title t)) in
        let is : same_title first.0.title t ≡ true = rw title (title_self t) in
        let mine : one (same_title first.0.title t) ≡ 1 = ap one is in
        let same : one (same_title first.0.title t && first.0.sealed) ≡ one first.0.sealed = rw is refl in
        let rest = sum_by-le-sum_by (λ (o : OwnTitle). one (same_title o.title t && o.sealed))
        (λ (o : OwnTitle). one (same_title o.title t)) (without (has_content_at at_byte) v.owns)
        (λ o. one_and (same_title o.title t) o.sealed) in
        let h = seals_have v t in
        omega arith

    changes : Changes (held_of_view v) (OwnPiece first.0.sealed t first.0.state ∷ []) (OwnPiece first.0.sealed t Dirty ∷ [])
        (held_of_view (after_store at_byte value v))
    changes x =
        let f = first.1.replaced dirty (λ o. amount x (own_piece o)) in
        let same : amount x (own_piece first.0) ≡ amount x (OwnPiece first.0.sealed t first.0.state) =
        ap (λ u. amount x (OwnPiece first.0.sealed u first.0.state)) title in
        let now : amount x (own_piece (dirty first.0)) ≡ amount x (OwnPiece first.0.sealed t Dirty) =
        ap (λ u. amount x (OwnPiece first.0.sealed u Dirty)) title in
        let before = held_split v x in
        let after = held_split (after_store at_byte value v) x in
        omega arith

-- a store is an enabled event of the core that is shown
pub store_event : (at_byte value : ℕ) (words : List ℕ) (views : List View) (i : ℕ) (v : View) → IsKept words views →
    get_elem? views i ≡ some v →
    CanStore at_byte v →
    IsEnabled (Store i at_byte value) (shown words views) ×
    Happens (Store i at_byte value) (shown words views) (shown (set words (at_byte / 8) value) (set views i (after_store at_byte value v)))
store_event at_byte value words views i v k at_i can = go can.1
  where
    at_place : byte_words (set words (at_byte / 8) value) ≡ set (byte_words words) (at_byte / 8) value
    at_place = bytes_set words (at_byte / 8) value (store_write at_byte value words views i v k at_i can).below

    raw_word : HasRawWord v at_byte → IsRawWord (shown words views) i at_byte
    raw_word raw b low high = let s = shown_held words views i v at_i (RawByte b) in let h = raw b low high in omega arith

    free_word : (free : HasFreeContent v at_byte) → IsFreeWord (shown words views) i at_byte
    free_word free =
        let s = shown_held words views i v at_i (FreeTitle free.0) in
        let f = frees_have v free.0 in
        let has = free.1 in
        (free.0, omega arith, free.2)

    owned : (t : Title) → 0 < idle_of v t → 0 < own_of v t
    owned t some_idle = let h = idle_owns v t some_idle in let o = owns_have v t in omega arith

    idle : (t : Title) → 0 < idle_of v t → refs_of (count_word (byte_words words) t) ≡ 0
    idle t some_idle = let p = sum_part (λ u. idle_of u t) views i v at_i in k.holders.known t (omega arith)

    go : HasRawWord v at_byte ⊎ (HasFreeContent v at_byte ⊎ HasIdleContent v at_byte) →
        IsEnabled (Store i at_byte value) (shown words views) ×
        Happens (Store i at_byte value) (shown words views)
        (shown (set words (at_byte / 8) value) (set views i (after_store at_byte value v)))
    go (inl raw) = (
      (shown_actor words views i v at_i, can.0, inl (raw_word raw)),
      inl (
        inl (raw_word raw),
        subst (λ (ws : List ℕ). IsAfter (shown words views) i [] [] ws
            (shown (set words (at_byte / 8) value) (set views i (after_store at_byte value v)))) at_place
            (is_after words (set words (at_byte / 8) value) views i v (after_store at_byte value v) [] [] at_i
            (plain_changes at_byte value words views i v k at_i (inl raw))),
      ),
    )
    go (inr (inl free)) = (
      (shown_actor words views i v at_i, can.0, inr (inl (free_word free))),
      inl (
        inr (free_word free),
        subst (λ (ws : List ℕ). IsAfter (shown words views) i [] [] ws
            (shown (set words (at_byte / 8) value) (set views i (after_store at_byte value v)))) at_place
            (is_after words (set words (at_byte / 8) value) views i v (after_store at_byte value v) [] [] at_i
            (plain_changes at_byte value words views i v k at_i (inr free))),
      ),
    )
    go (inr (inr own)) =
        let t = own.0 in
        let unfrozen = open_state words views i v t at_i own.2 in
        let m = own_changes at_byte value words views i v t k at_i (owned t own.1) own.3 in
        let s = shown_held words views i v at_i (OwnAs t m.0) in
        let mine = m.2 in
        let same = own_state_is (shown words views) i i t m.0 unfrozen.0 k.holders.good (omega arith) unfrozen.1.1 in
        let own_word : IsOwnWord (shown words views) i at_byte t unfrozen.0 = (unfrozen.1, own.3, idle t own.1) in (
          (shown_actor words views i v at_i, can.0, inr (inr (t, unfrozen.0, own_word))),
          inr (
            t,
            unfrozen.0,
            m.1,
            own_word,
            seal_held words views i v t m.1 at_i m.3,
            subst (λ (z : OwnState). IsAfter (shown words views) i (OwnPiece m.1 t z ∷ []) (OwnPiece m.1 t Dirty ∷ [])
                (set (byte_words words) (at_byte / 8) value) (shown (set words (at_byte / 8) value)
                (set views i (after_store at_byte value v)))) same
                (subst (λ (ws : List ℕ). IsAfter (shown words views) i (OwnPiece m.1 t m.0 ∷ []) (OwnPiece m.1 t Dirty ∷ []) ws
                (shown (set words (at_byte / 8) value) (set views i (after_store at_byte value v)))) at_place
                (is_after words (set words (at_byte / 8) value) views i v (after_store at_byte value v) (OwnPiece m.1 t m.0 ∷ [])
                (OwnPiece m.1 t Dirty ∷ []) at_i m.4)),
          ),
        )

-- a store keeps the rule
pub store_keeps : (at_byte value : ℕ) (words : List ℕ) (views : List View) (i : ℕ) (v : View) → IsKept words views →
    get_elem? views i ≡ some v →
    CanStore at_byte v → IsKept (set words (at_byte / 8) value) (set views i (after_store at_byte value v))
store_keeps at_byte value words views i v k at_i can =
    let event = store_event at_byte value words views i v k at_i can in
    let after = shown (set words (at_byte / 8) value) (set views i (after_store at_byte value v)) in
    write_keeps words views i v (after_store at_byte value v) (at_byte / 8) value k at_i
    (store_write at_byte value words views i v k at_i can)
    (happens_good (Store i at_byte value) (shown words views) after k.holders.good event.0 event.1)
    (keeps_content (Store i at_byte value) (shown words views) after
    (λ t. content_of (k.history t)) k.holders.good event.0 event.1 k.content)
    k.steps
    (filled_same k.steps k.all k.history (total_of (shown words views)) (total_of after) views i v (after_store at_byte value v) at_i
    (store_eased event.0.0 event.1) refl
    (λ quiet. quiet) (λ did. did) (λ t some_own. let l = dirty_poisoned (has_content_at at_byte) t v.owns in omega arith) k.filled)
  where
    -- its Own may be in another state
    store_eased : HasActor (shown words views) i →
        Happens (Store i at_byte value) (shown words views)
        (shown (set words (at_byte / 8) value) (set views i (after_store at_byte value v))) →
        IsEased (total_of (shown words views))
        (total_of (shown (set words (at_byte / 8) value) (set views i (after_store at_byte value v))))
    store_eased actor (inl plain) =
        eased_same _ _ (λ x. let c = after_changes (shown words views) _ i [] [] _ actor plain.1 x in omega arith)
    store_eased actor (inr own) =
        eased_change _ _ own.0 own.2 own.1 Dirty (after_changes (shown words views) _ i _ _ _ actor own.5)
        (in_total (shown words views) i (OwnAs own.0 own.1) own.3.0.1)
        (elim own.3.0.0 [ inl y ↦ ap progress y | inr y ↦ ap progress y ])
