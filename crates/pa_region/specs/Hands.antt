-- Handing over: what a view gives and keeps, and the view of two together.
use Rattle.std.specs.Prelude.{◌≡◌, ℕ, zero, suc, ◌+◌, ◌-◌, ◌*◌, ◌%◌, ◌<◌, ◌≤◌, List, [], ◌∷◌, ◌++◌, Bool, true, false, not, ◌==◌, ◌&&◌, ◌||◌, nat_lt, nat_le, min, max, if◌then◌else◌}
use Rattle.std.specs.List.{sum_by, filter}
use Rattle.pa_slot.specs.declared.title.Title.{Title}
use Rattle.pa_slot.specs.declared.title.OwnState.TheVariants.{Clean}
use Rattle.pa_machine.specs.declared.event.Item.{Item}
use Rattle.pa_machine.specs.declared.event.Item.TheVariants.{Raw, Free, Own, Ref}
use Rattle.pa_slot.specs.Titles.{same_title, same_state}
use Rattle.pa_slot.specs.Holdings.{Thing, RawByte, one}
use Rattle.pa_region.specs.declared.view.RawRange.{RawRange}
use Rattle.pa_region.specs.declared.view.OwnTitle.{OwnTitle}
use Rattle.pa_region.specs.declared.view.Deeds.{Deeds}
use Rattle.pa_region.specs.declared.view.Entry.{Entry}
use Rattle.pa_region.specs.declared.view.Stake.{Stake}
use Rattle.pa_region.specs.declared.view.Keeper.{Keeper}
use Rattle.pa_region.specs.declared.view.Leases.{Leases}
use Rattle.pa_region.specs.declared.view.View.{View}
use Rattle.pa_region.specs.Views.{held_of_view, free_of, own_as, ref_of, idle_of, low_of, stake_of, logged_of, undone_of}
use Rattle.pa_region.specs.Moves.{without, is_title_of}
use Rattle.pa_region.specs.Lists.{keeper_of, lease_of}
use Rattle.pa_region.specs.Pairs.{paired_of, paired_of_by, logged_of_by}
use Rattle.pa_region.specs.Waiting.{poisoned_of, unclean_of}

-- the part of a raw range below byte a, with the same floor
abbrev pub below_part : ℕ → RawRange → RawRange
below_part a r = record { start = r.start; len = min r.len (a - r.start); floor = r.floor }

-- The part of a raw range from byte e on, with the same floor. Its length is 0 if the range ends by then.
abbrev pub above_part : ℕ → RawRange → RawRange
above_part e r = record { start = max r.start e; len = (r.start + r.len) - max r.start e; floor = r.floor }

-- The part of a raw range from byte a up to byte e, with the same floor. Its length is 0 if none of its bytes is between.
abbrev pub inner_part : ℕ → ℕ → RawRange → RawRange
inner_part a e r = record { start = max r.start a; len = min (r.start + r.len) e - max r.start a; floor = r.floor }

-- what these ranges have outside of the bytes from a up to e: two parts of each range, in order
abbrev pub outside : ℕ → ℕ → List RawRange → List RawRange
outside a e [] = []
outside a e (r ∷ rs) = below_part a r ∷ above_part e r ∷ outside a e rs

-- what these ranges have of the bytes from a up to e: one part of each range, in order
abbrev pub inside : ℕ → ℕ → List RawRange → List RawRange
inside a e [] = []
inside a e (r ∷ rs) = inner_part a e r ∷ inside a e rs

-- a clean Own of the title
abbrev pub is_clean_of : Title → OwnTitle → Bool
is_clean_of t o = same_title o.title t && same_state o.state Clean

-- whether the first of these Owns that passes the test is sealed
abbrev pub first_sealed : (OwnTitle → Bool) → List OwnTitle → Bool
first_sealed test [] = false
first_sealed test (o ∷ os) = if test o then o.sealed else first_sealed test os

-- the view without one item
abbrev pub without_item : Item → View → View
without_item (Raw start len) v = record v { raws = outside start (start + len) v.raws }
without_item (Free t) v = record v { frees = without (is_title_of t) v.frees }
without_item (Own t) v = record v { owns = without (is_clean_of t) v.owns }
without_item (Ref t) v = record v { refs = without (is_title_of t) v.refs }

-- the view w with an item that v gives: an Own is sealed if v's is
abbrev pub with_item : Item → View → View → View
with_item (Raw start len) v w = record w { raws = inside start (start + len) v.raws ++ w.raws }
with_item (Free t) v w = record w { frees = t ∷ w.frees }
with_item (Own t) v w = record w {
  owns = record { title = t; state = Clean; idle = false; sealed = first_sealed (is_clean_of t) v.owns } ∷ w.owns;
}
with_item (Ref t) v w = record w { refs = t ∷ w.refs }

-- The view holds the item: a range of whole words as raw, a title as free, the title's Own, which is clean, or a Ref of the title.
abbrev pub HoldsGiven : Item → View → Type 0
HoldsGiven (Raw start len) v =
    (start % 8 ≡ 0) × (len % 8 ≡ 0) × ((b : ℕ) → start ≤ b → b < start + len → 0 < held_of_view v (RawByte b))
HoldsGiven (Free t) v = 0 < free_of v t
HoldsGiven (Own t) v = 0 < own_as v t Clean
HoldsGiven (Ref t) v = 0 < ref_of v t

-- the view holds all these items at once
abbrev pub CanGive : List Item → View → Type 0
CanGive [] v = Unit {0}
CanGive (x ∷ xs) v = HoldsGiven x v × CanGive xs (without_item x v)

-- the view without these items
abbrev pub left_of : List Item → View → View
left_of [] v = v
left_of (x ∷ xs) v = left_of xs (without_item x v)

-- the view w with these items added one by one, each as v has it without the items before
abbrev pub given_of : List Item → View → View → View
given_of [] v w = w
given_of (x ∷ xs) v w = given_of xs (without_item x v) (with_item x v w)

-- `count` numbers from number `from` on
abbrev pub numbers_from : ℕ → ℕ → List ℕ
numbers_from from zero = []
numbers_from from (suc count) = from ∷ numbers_from (suc from) count

-- the leases without n, if it is one of those from some number on: the ones below it become single
abbrev pub out_of : ℕ → List ℕ → List ℕ → Leases
out_of n single [] = record { single = single; from = [] }
out_of n single (f ∷ fs) =
    if nat_le f n
    then record { single = numbers_from f (n - f) ++ single; from = suc n ∷ fs }
    else record { single = (out_of n single fs).single; from = f ∷ (out_of n single fs).from }

-- how often lease n is among these: among the single ones, and among those from some number on
abbrev pub lease_in : Leases → ℕ → ℕ
lease_in l n = sum_by (λ x. one (x == n)) l.single + sum_by (λ f. one (nat_le f n)) l.from

-- the leases without n
abbrev pub lease_out : ℕ → Leases → Leases
lease_out n l =
    if nat_lt 0 (sum_by (λ x. one (x == n)) l.single)
    then record { single = without (λ x. x == n) l.single; from = l.from }
    else out_of n l.single l.from

-- the leases without these
abbrev pub leases_out : List ℕ → Leases → Leases
leases_out [] l = l
leases_out (n ∷ ns) l = leases_out ns (lease_out n l)

-- the leases have all of these
abbrev pub HasLeases : List ℕ → Leases → Type 0
HasLeases [] l = Unit {0}
HasLeases (n ∷ ns) l = (0 < lease_in l n) × HasLeases ns (lease_out n l)

-- what is handed over: items, a number of counted steps, the stakes and the keepers with these numbers, and leases
pub record Parcel : Type 0 where
  pub items : List Item
  pub budget : ℕ
  pub stakes : ℕ → Bool
  pub keepers : ℕ → Bool
  pub leases : List ℕ

-- something was handed over since the last entry
abbrev pub handed : Deeds → Deeds
handed d = record d { handed = true }

-- what a view keeps after it handed over the parcel
abbrev pub left_after : Parcel → View → View
left_after p v = record v {
  raws = (left_of p.items v).raws;
  frees = (left_of p.items v).frees;
  owns = (left_of p.items v).owns;
  refs = (left_of p.items v).refs;
  budget = v.budget - p.budget;
  stakes = filter (λ (s : Stake). not (p.stakes s.number)) v.stakes;
  keepers = filter (λ (q : Keeper). not (p.keepers q.number)) v.keepers;
  leases = leases_out p.leases v.leases;
  since = handed v.since;
}

-- a view that holds nothing and has seen what v has seen
abbrev pub empty_of : View → View
empty_of v = record v {
  raws = [];
  frees = [];
  uncut = [];
  owns = [];
  refs = [];
  budget = 0;
  stakes = [];
  keepers = [];
  leases = record { single = []; from = [] };
  since = handed v.since;
}

-- The view that receives the parcel: a stake goes with its log and a keeper with its list, and what was seen is copied. What
-- was uncut stays in the giver's list.
abbrev pub given_after : Parcel → View → View
given_after p v = record v {
  raws = (given_of p.items v (empty_of v)).raws;
  frees = (given_of p.items v (empty_of v)).frees;
  uncut = [];
  owns = (given_of p.items v (empty_of v)).owns;
  refs = (given_of p.items v (empty_of v)).refs;
  budget = p.budget;
  stakes = filter (λ (s : Stake). p.stakes s.number) v.stakes;
  keepers = filter (λ (q : Keeper). p.keepers q.number) v.keepers;
  leases = record { single = p.leases; from = [] };
  since = handed v.since;
}

-- a seat with this view may hand over the parcel: if a stake is in it, each of the seat's Owns is clean
pub record CanHand (p : Parcel) (v : View) : Type 0 where
  pub items : CanGive p.items v
  pub budget : p.budget ≤ v.budget
  pub leases : HasLeases p.leases v.leases
  pub clean : (k : ℕ) → p.stakes k ≡ true → unclean_of v ≡ 0

-- What v has is what l and r have together: each thing, floors, the budget, the entries of the logs by any weight,
-- stakes, keepers, leases, Owns that aren't clean, and what was uncut. What was found of an Own, that no Ref of it is left, may be
-- forgotten.
pub record IsParted (v l r : View) : Type 0 where
  pub things : (x : Thing) → held_of_view l x + held_of_view r x ≡ held_of_view v x
  pub floors : (b n : ℕ) → low_of l b n + low_of r b n ≡ low_of v b n
  pub idle : (t : Title) → idle_of l t + idle_of r t ≤ idle_of v t
  pub budget : l.budget + r.budget ≡ v.budget
  pub logs : (weight : Entry → ℕ) → logged_of l weight + logged_of r weight ≡ logged_of v weight
  pub stakes : (k : ℕ) → stake_of l k + stake_of r k ≡ stake_of v k
  pub keepers : (k : ℕ) → keeper_of l k + keeper_of r k ≡ keeper_of v k
  pub leases : (n : ℕ) → lease_of l n + lease_of r n ≡ lease_of v n
  pub pairs : (weight : Entry → Entry → ℕ) → paired_of l weight + paired_of r weight ≡ paired_of v weight
  pub pairs_by : (k : ℕ) (weight : Entry → Entry → ℕ) → paired_of_by l k weight + paired_of_by r k weight ≡ paired_of_by v k weight
  pub logs_by : (k : ℕ) (weight : Entry → ℕ) → logged_of_by l k weight + logged_of_by r k weight ≡ logged_of_by v k weight
  pub poisoned : (t : Title) → poisoned_of l t + poisoned_of r t ≡ poisoned_of v t
  pub unclean : unclean_of l + unclean_of r ≡ unclean_of v
  pub undone : (t : Title) → undone_of l t + undone_of r t ≡ undone_of v t

-- how many times a view knows the word with this number: as raw, in a title that it holds free, or as content of an Own
abbrev pub knowing : View → ℕ → ℕ
knowing v q =
    held_of_view v (RawByte (8 * q))
    + (sum_by (λ t. one (nat_le t.start (8 * q) && nat_lt (8 * q) (t.start + t.len))) v.frees
    + sum_by (λ (o : OwnTitle). one (nat_le o.title.start (8 * q) && nat_lt (8 * q + 8) (o.title.start + o.title.len))) v.owns)

-- two lists of words combined, from word q on: from the first the words that v knows, and from the second the others
unfoldable pub merged : View → ℕ → List ℕ → List ℕ → List ℕ
merged v q [] others = others
merged v q (x ∷ xs) [] = x ∷ xs
merged v q (x ∷ xs) (y ∷ ys) = (if nat_lt 0 (knowing v q) then x else y) ∷ merged v (suc q) xs ys

-- What two views together did since the last entry, which counts as a hand. That the second poisoned is forgotten, since its Owns are
-- clean.
abbrev pub done_by_both : Deeds → Deeds → Deeds
done_by_both d e = record { handed = true; stored = d.stored || e.stored; poisoned = d.poisoned }

-- the view of two together
abbrev pub united : View → View → View
united v w = record {
  raws = v.raws ++ w.raws;
  frees = v.frees ++ w.frees;
  uncut = v.uncut ++ w.uncut;
  owns = v.owns ++ w.owns;
  refs = v.refs ++ w.refs;
  words = merged v 0 v.words w.words;
  budget = v.budget + w.budget;
  stakes = v.stakes ++ w.stakes;
  since = done_by_both v.since w.since;
  keepers = v.keepers ++ w.keepers;
  leases = record { single = v.leases.single ++ w.leases.single; from = v.leases.from ++ w.leases.from };
  seen = v.seen ++ w.seen;
  seen_lists = v.seen_lists ++ w.seen_lists;
}

-- what is left of a view that another took in: nothing
abbrev pub spent_of : View → View
spent_of w = record (empty_of w) { seen = []; seen_lists = [] }

-- a view may take in another: the other has only clean Owns, and if it has a stake, none of the view's Owns is poisoned
pub record CanTake (v w : View) : Type 0 where
  pub clean : unclean_of w ≡ 0
  pub apart : (k : ℕ) (t : Title) → 0 < stake_of w k → poisoned_of v t ≡ 0
