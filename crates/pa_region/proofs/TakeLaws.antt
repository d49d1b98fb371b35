-- What two views have together.
use Rattle.std.proofs.Common.{◌≡◌, ℕ, ◌+◌, ◌*◌, ◌<◌, List, [], ◌∷◌, length, refl, sym, ◌∙◌, ap, subst, arith, inl, inr, eqb, ltb}
use Rattle.std.specs.Prelude.{slice_index, if◌then◌else◌}
use Rattle.std.specs.List.{sum_by}
use Rattle.core.specs.List.{AllByRecursion as Each}
use Rattle.std.proofs.lemmas.List.Sums.{sum_by-cons, sum_by-append}
use Rattle.std.proofs.lemmas.Bool.{cases_lt, lt-ltb, le-ltb}
use Rattle.std.proofs.lemmas.Bool.Decides.{eqb_tells}
use Rattle.pa_slot.specs.declared.title.Title.{Title}
use Rattle.pa_slot.specs.Count.{number_of}
use Rattle.pa_slot.specs.Titles.{same_title, Covers, IsWellFormed, count_place, count_word}
use Rattle.pa_slot.specs.Holdings.{RawByte, one}
use Rattle.pa_machine.proofs.Parts.{word_covered}
use Rattle.pa_region.specs.declared.view.OwnTitle.{OwnTitle}
use Rattle.pa_region.specs.declared.view.Made.{Made}
use Rattle.pa_region.specs.declared.view.Stake.{Stake}
use Rattle.pa_region.specs.declared.view.Keeper.{Keeper}
use Rattle.pa_region.specs.declared.view.View.{View}
use Rattle.pa_region.specs.Views.{held_of_view, Knows, free_of, own_of, stake_of, seen_of}
use Rattle.pa_region.specs.Pairs.{log_among}
use Rattle.pa_region.specs.Lists.{keeper_of, list_of, made_with, entered_in, IsBeginning}
use Rattle.pa_region.specs.Hands.{knowing, merged, united}
use Rattle.pa_region.specs.Aware.{IsAware}
use Rattle.pa_region.specs.Takes.{log_of}
use Rattle.pa_region.proofs.Adding.{one_eq}
use Rattle.pa_region.proofs.ListFacts.{each_left, each_right}
use Rattle.pa_region.proofs.JoinLists.{among_beginning}
use Rattle.pa_region.proofs.JoinStep.{united_parts}
use Rattle.pa_region.proofs.Merging.{knowing_knows, knows_knowing, merged_at}

-- what each has seen of a list is a beginning of what both have
pub left_begins : (v w : View) (k : ℕ) → IsAware (united v w) → IsBeginning (list_of k v) (list_of k (united v w))
left_begins v w k a = among_beginning (λ q. list_of q (united v w)) k v.seen_lists
    (each_left (λ n. IsBeginning n.entries (list_of n.keeper (united v w))) v.seen_lists w.seen_lists a.notes)

pub right_begins : (v w : View) (k : ℕ) → IsAware (united v w) → IsBeginning (list_of k w) (list_of k (united v w))
right_begins v w k a = among_beginning (λ q. list_of q (united v w)) k w.seen_lists
    (each_right (λ n. IsBeginning n.entries (list_of n.keeper (united v w))) v.seen_lists w.seen_lists a.notes)

-- a keeper that goes with two lists has one
same_entries : (a b : ℕ → List Made) (qs : List Keeper) (k : ℕ) → 0 < sum_by (λ (q : Keeper). one (eqb q.number k)) qs →
    Each (λ q. q.entries ≡ a q.number) qs → Each (λ q. q.entries ≡ b q.number) qs → b k ≡ a k
same_entries a b [] k has e f = absurd (omega arith)
same_entries a b (q ∷ qs) k has e f =
    let c = sum_by-cons (λ (x : Keeper). one (eqb x.number k)) q qs in
    elim (one_eq q.number k) [
      | inl y ↦ subst (λ (n : ℕ). b n ≡ a n) y.1 (sym f.0 ∙ e.0)
      | inr n ↦ let z = n.0 in same_entries a b qs k (omega arith) e.1 f.1
    ]

-- a view that has a keeper sees no more of its list after a take
pub left_whole : (v w : View) (k : ℕ) → IsAware v → IsAware (united v w) → 0 < keeper_of v k → list_of k (united v w) ≡ list_of k v
left_whole v w k a both has =
    same_entries (λ q. list_of q v) (λ q. list_of q (united v w)) v.keepers k has a.own_lists
    (each_left (λ (q : Keeper). q.entries ≡ list_of q.number (united v w)) v.keepers w.keepers both.own_lists)

pub right_whole : (v w : View) (k : ℕ) → IsAware w → IsAware (united v w) → 0 < keeper_of w k → list_of k (united v w) ≡ list_of k w
right_whole v w k a both has =
    same_entries (λ q. list_of q w) (λ q. list_of q (united v w)) w.keepers k has a.own_lists
    (each_right (λ (q : Keeper). q.entries ≡ list_of q.number (united v w)) v.keepers w.keepers both.own_lists)

-- two views don't have titles with a common byte
two_titles : (v w : View) (t u : Title) (b : ℕ) → IsAware (united v w) → 0 < free_of v t + own_of v t → 0 < free_of w u + own_of w u →
    Covers t b → Covers u b → ⊥
two_titles v w t u b a mine other covers inside =
    let f1 = sum_by-append (λ x. one (same_title x t)) v.frees w.frees in
    let o1 = sum_by-append (λ (x : OwnTitle). one (same_title x.title t)) v.owns w.owns in
    let f2 = sum_by-append (λ x. one (same_title x u)) v.frees w.frees in
    let o2 = sum_by-append (λ (x : OwnTitle). one (same_title x.title u)) v.owns w.owns in
    let same = a.apart t u b (omega arith) (omega arith) covers inside in
    let theirs : 0 < free_of w t + own_of w t = subst (λ (z : Title). 0 < free_of w z + own_of w z) (sym same) other in
    let f = a.free_once t in
    let o = a.own_once t in
    elim (cases_lt 0 (free_of (united v w) t)) [
      | inl y ↦ let z = a.free_alone t y in absurd (omega arith)
      | inr n ↦ absurd (omega arith)
    ]

-- nor one a raw byte that lies in a title of the other
raw_or_title : (v w : View) (t : Title) (b : ℕ) → IsAware (united v w) → 0 < held_of_view v (RawByte b) + held_of_view w (RawByte b) →
    0 < free_of v t + own_of v t + (free_of w t + own_of w t) → Covers t b → ⊥
raw_or_title v w t b a raw has covers =
    let f1 = sum_by-append (λ x. one (same_title x t)) v.frees w.frees in
    let o1 = sum_by-append (λ (x : OwnTitle). one (same_title x.title t)) v.owns w.owns in
    let e = (united_parts v w).things (RawByte b) in
    let z = a.raw_apart t b (omega arith) covers in
    absurd (omega arith)

-- two views that are joined know no common word
known_twice : (v w : View) (q : ℕ) → IsAware (united v w) → Knows v q → Knows w q → ⊥
known_twice v w q a (inl raw) (inl other) = let e = (united_parts v w).things (RawByte (8 * q)) in let o = a.raw_once (8 * q) in
    absurd (omega arith)
known_twice v w q a (inl raw) (inr (inl free)) = let h = free.1 in raw_or_title v w free.0 (8 * q) a (omega arith) (omega arith) free.2
known_twice v w q a (inl raw) (inr (inr own)) =
    let h = own.1 in let l = own.2.0 in let r = own.2.1 in
    raw_or_title v w own.0 (8 * q) a (omega arith) (omega arith) (omega arith, omega arith)
known_twice v w q a (inr (inl free)) (inl raw) = let h = free.1 in raw_or_title v w free.0 (8 * q) a (omega arith) (omega arith) free.2
known_twice v w q a (inr (inl free)) (inr (inl other)) = let h = free.1 in let i = other.1 in
    two_titles v w free.0 other.0 (8 * q) a (omega arith) (omega arith) free.2 other.2
known_twice v w q a (inr (inl free)) (inr (inr own)) =
    let h = free.1 in let i = own.1 in let l = own.2.0 in let r = own.2.1 in
    two_titles v w free.0 own.0 (8 * q) a (omega arith) (omega arith) free.2 (omega arith, omega arith)
known_twice v w q a (inr (inr own)) (inl raw) =
    let h = own.1 in let l = own.2.0 in let r = own.2.1 in
    raw_or_title v w own.0 (8 * q) a (omega arith) (omega arith) (omega arith, omega arith)
known_twice v w q a (inr (inr own)) (inr (inl free)) =
    let h = free.1 in let i = own.1 in let l = own.2.0 in let r = own.2.1 in
    two_titles v w own.0 free.0 (8 * q) a (omega arith) (omega arith) (omega arith, omega arith) free.2
known_twice v w q a (inr (inr own)) (inr (inr other)) =
    let h = own.1 in let i = other.1 in let l = own.2.0 in let r = own.2.1 in let m = other.2.0 in let n = other.2.1 in
    two_titles v w own.0 other.0 (8 * q) a (omega arith) (omega arith) (omega arith, omega arith) (omega arith, omega arith)

-- which word both have
joined_word : (v w : View) (q : ℕ) → length v.words ≡ length w.words →
    slice_index (united v w).words q ≡ (if ltb 0 (knowing v q) then slice_index v.words q else slice_index w.words q)
joined_word v w q long =
    subst (λ (n : ℕ). slice_index
    (merged v 0 v.words w.words) q ≡ (if ltb 0 (knowing v n) then slice_index v.words q else slice_index w.words q))
    (let z : 0 + q ≡ q = omega arith in z)
    (merged_at v 0 v.words w.words q long)

-- each word that one knows, both know
pub left_known : (v w : View) (q : ℕ) → length v.words ≡ length w.words → Knows v q →
    slice_index (united v w).words q ≡ slice_index v.words q
left_known v w q long knows = joined_word v w q long ∙ rw (lt-ltb 0 (knowing v q) (knows_knowing v q knows)) refl

pub right_known : (v w : View) (q : ℕ) → IsAware (united v w) → length v.words ≡ length w.words → Knows w q →
    slice_index (united v w).words q ≡ slice_index w.words q
right_known v w q a long knows = elim (cases_lt 0 (knowing v q)) [
  | inl y ↦ absurd (known_twice v w q a (knowing_knows v q y) knows)
  | inr n ↦ joined_word v w q long ∙ rw (le-ltb 0 (knowing v q) n) refl
]

-- a view that holds a title free knows its count word
pub knows_count : (n : ℕ) (t : Title) (v : View) → IsWellFormed n t → 0 < free_of v t → Knows v (count_place t)
knows_count n t v well free = inr (inl (t, free, word_covered n t (count_place t) well (omega arith, omega arith)))

-- a take brings no greater number of a title that the view holds free
pub left_number : (v w : View) (n : ℕ) (t : Title) → IsAware v → IsAware (united v w) → length v.words ≡ length w.words → IsWellFormed n t →
    0 < free_of v t →
    seen_of (united v w) t ≡ seen_of v t
left_number v w n t a both long well free =
    let f = sum_by-append (λ x. one (same_title x t)) v.frees w.frees in
    let same : count_word (united v w).words t ≡ count_word v.words t = left_known v w (count_place t) long (knows_count n t v well free) in
    sym (both.free_seen t (omega arith)) ∙ (ap number_of same ∙ a.free_seen t free)

pub right_number : (v w : View) (n : ℕ) (t : Title) → IsAware w → IsAware (united v w) → length v.words ≡ length w.words →
    IsWellFormed n t → 0 < free_of w t →
    seen_of (united v w) t ≡ seen_of w t
right_number v w n t a both long well free =
    let f = sum_by-append (λ x. one (same_title x t)) v.frees w.frees in
    let same : count_word (united v w).words t ≡ count_word w.words t =
    right_known v w (count_place t) both long (knows_count n t w well free) in
    sym (both.free_seen t (omega arith)) ∙ (ap number_of same ∙ a.free_seen t free)

-- what a stake made is what its log entered
made_by : (list : List Made) (k r : ℕ) (ss : List Stake) → 0 < sum_by (λ (s : Stake). one (eqb s.number r)) ss →
    Each (λ s. made_with s.number list ≡ entered_in k s.log) ss → made_with r list ≡ entered_in k (log_among r ss)
made_by list k r [] has e = absurd (omega arith)
made_by list k r (s ∷ ss) has e =
    let c = sum_by-cons (λ (x : Stake). one (eqb x.number r)) s ss in
    elim (eqb_tells s.number r) [
      | inl y ↦ rw y.0 (subst (λ (n : ℕ). made_with n list ≡ entered_in k s.log) y.1 e.0)
      | inr n ↦ rw n.0 (made_by list k r ss
          (elim (one_eq s.number r) [ inl z ↦ absurd (n.1 z.1) | inr z ↦ let z0 = z.0 in omega arith ]) e.1)
    ]

pub stakes_made : (v : View) (r k : ℕ) → IsAware v → 0 < stake_of v r → made_with r (list_of k v) ≡ entered_in k (log_of r v)
stakes_made v r k a has = made_by (list_of k v) k r v.stakes has (a.entered k)
