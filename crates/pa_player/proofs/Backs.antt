-- The table of slots where journals go on by acts through which slots come back to their roots.
use Rattle.std.proofs.Common.{◌≡◌, ℕ, zero, suc, ◌+◌, ◌*◌, ◌<◌, ◌≤◌, ◌⊎◌, inl, inr, List, [], ◌∷◌, ◌++◌, map, length, take, drop, Option, Some, None, refl, sym, ap, ◌∙◌, subst, arith, length-append}
use Rattle.std.specs.Prelude.{Contains}
use Rattle.std.proofs.lemmas.List.{length-drop}
use Rattle.pa_slot.specs.declared.word.SlotName.{SlotName}
use Rattle.pa_slot.specs.Count.{number_of}
use Rattle.pa_slot.proofs.Runs.{same_slot_eq}
use Rattle.pa_record.specs.declared.numbered.Numbered.{Numbered}
use Rattle.pa_record.specs.declared.pool.PoolEntry.{PoolEntry}
use Rattle.pa_record.specs.declared.root.RootEntry.{RootEntry}
use Rattle.pa_record.specs.declared.root.RootAct.{RootAct}
use Rattle.pa_record.specs.declared.root.RootAct.TheVariants.{Give}
use Rattle.pa_record.specs.Root.{Root}
use Rattle.pa_lists.proofs.Members.{not_in_none, first_in, later_in, in_cases}
use Rattle.pa_lists.proofs.Joined.{map_cases, filter_cases, flat_cases}
use Rattle.pa_rules.specs.Roots.{Journals}
use Rattle.pa_rules.specs.Caches.{batches, gives}
use Rattle.pa_rules.specs.Holders.{Back, Move, move_of, moves_by}
use Rattle.pa_legal.specs.Numbers.{all_moves, is_of, moves_of, at_end, at_after}
use Rattle.pa_legal.proofs.Growing.{numbers_grow}
use Rattle.pa_heap_effects.specs.Deeds.{Acts, entries_at, grown}
use Rattle.pa_heap_effects.proofs.Growing.{entry_at, grown_old}
use Rattle.pa_player.specs.declared.table.Slot.{Slot}
use Rattle.pa_player.specs.Tables.{slot_at, named_at, NoneNamed}
use Rattle.pa_player.specs.Playing.{numbered_at, IsLetOut, IsMappedAs, AreAllSlots}
use Rattle.pa_lists.proofs.Elements.{take_in, drop_in}

-- ---- moves

-- the move brings a slot of the table back, at the number of its word
abbrev pub ComesBack : List Slot → Move → Type 0
ComesBack slots m = (m.way ≡ Back) × (i : ℕ) × (i < length slots) × (m.slot ≡ named_at slots i) ×
    (m.number ≡ number_of (slot_at slots i).word.0)

-- each slot that an act moves comes back so
abbrev pub BringsBack : List Slot → RootAct → Type 0
BringsBack slots a = (line : ℕ) (m : Move) → Contains (moves_by line a) m → ComesBack slots m

abbrev pub AllComeBack : List Slot → List RootAct → Type 0
AllComeBack slots acts = (a : RootAct) → Contains acts a → BringsBack slots a

pub no_members : {A : Type 0} (xs : List A) → ((x : A) → Contains xs x → ⊥) → xs ≡ []
no_members [] none = refl
no_members (x ∷ xs) none = absurd (none x (first_in x xs))

pub move_by : (n : ℕ) (acts : List RootAct) (s : SlotName) (m : Move) → Contains (moves_of (entries_at n acts) s) m → (a : RootAct) ×
    Contains acts a × Contains (moves_by n a) m × (m.slot ≡ s)
move_by n acts s m among =
    let (all, passes) = filter_cases (is_of s) (all_moves (entries_at n acts)) m among in
    let (e, member, moves) = flat_cases (λ (e : RootEntry). moves_by e.line e.act) (entries_at n acts) m all in
    let (act, line) = entry_at n acts e member in
    (e.act, act, subst (λ k. Contains (moves_by k e.act) m) line moves, same_slot_eq m.slot s passes)

-- no move of a slot that isn't in the table
pub back_others : (slots : List Slot) (n : ℕ) (acts : List RootAct) (s : SlotName) → AllComeBack slots acts → NoneNamed slots s →
    moves_of (entries_at n acts) s ≡ []
back_others slots n acts s back none = no_members (moves_of (entries_at n acts) s) (λ m among.
    let (a, member, moves, is) = move_by n acts s m among in
    let (way, i, low, named, number) = back a member n m moves in
    none i low (sym named ∙ is))

-- where the root has a slot after moves that bring it back
after_backs : (at : Option ℕ) (ms : List Move) (k n : ℕ) → ((m : Move) → Contains ms m → (m.way ≡ Back) × (m.number ≡ k)) →
    at_end at ms ≡ Some n → (at ≡ Some n) ⊎ (n ≡ k)
after_backs at [] k n back is = inl is
after_backs at (m ∷ ms) k n back is =
    let (way, number) = back m (first_in m ms) in
    let here : at_after m.way m.number ≡ Some k = ap (λ w. at_after w m.number) way ∙ ap (λ z. Some z) number in
    inr (elim (after_backs (at_after m.way m.number) ms k n (λ x among. back x (later_in m x ms among)) is) [
      | inl first ↦ some_same n k (sym first ∙ here)
      | inr e ↦ e
    ])
  where
    some_same : (a b : ℕ) → Some a ≡ Some b → a ≡ b
    some_same a b e = cc

-- ---- the table

pub let_out_grown : (version : ℕ) (roots : Journals) (n : ℕ) (acts : Acts) (x : Slot) (class : Option ℕ) → IsLetOut version roots x class →
    IsLetOut version (grown roots n acts) x class
let_out_grown version roots n acts x (Some class) (real, of, is) =
    let (e, asked, slots, among, act, member) = of in
    (real, (e, asked, slots, grown_old roots n acts x.partition e among, act, member), is)
let_out_grown version roots n acts x None (e, asked, among, act) = (e, asked, grown_old roots n acts x.partition e among, act)

pub slots_back : {version : ℕ} (partitions : ℕ) (slots : List Slot) (pools more : List PoolEntry) (roots : Journals)
    (root after : ℕ → Root) (n : ℕ) (acts : Acts) → AreAllSlots version partitions slots pools roots root
    → ((k : ℕ) → AllComeBack slots (acts k))
    → ((i : ℕ) → i < length slots → IsMappedAs (after (slot_at slots i).partition) (slot_at slots i) (slot_at slots i).class)
    → AreAllSlots version partitions slots (pools ++ more) (grown roots n acts) after
slots_back {version} partitions slots pools more roots root after n acts h back mapped = record {
  among = h.among;
  let_out = λ i low. let_out_grown version roots n acts (slot_at slots i) (slot_at slots i).class (h.let_out i low);
  mapped = mapped;
  at = λ i k low is.
      let q = (slot_at slots i).partition in
      let s = named_at slots i in
      let e : at_end (Some 0) (moves_of (grown roots n acts q) s) ≡ at_end (at_end (Some 0) (moves_of (roots q) s))
      (moves_of (entries_at n (acts q)) s) =
      ap (at_end (Some 0)) (numbers_grow.moves (roots q) (entries_at n (acts q)) s) ∙
      numbers_grow.ends (Some 0) (moves_of (roots q) s) (moves_of (entries_at n (acts q)) s) in
      elim (after_backs (at_end (Some 0) (moves_of (roots q) s)) (moves_of (entries_at n (acts q)) s) (number_of (slot_at slots i).word.0) k
      (λ m among.
      let (a, member, moves, of) = move_by n (acts q) s m among in
      let (way, j, below, named, number) = back q a member n m moves in
      let same : j ≡ i = h.apart j i below low (sym named ∙ of) in
      (way, number ∙ ap (λ z. number_of (slot_at slots z).word.0) same))
      (sym e ∙ is)) [
        | inl before ↦ h.at i k low before
        | inr same ↦ same
      ];
  born = λ i low. let b = h.born i low in let p = length-append pools more in omega arith;
  apart = h.apart;
  others = λ q s none. numbers_grow.moves (roots q) (entries_at n (acts q)) s
      ∙ ap (λ ms. ms ++ moves_of (entries_at n (acts q)) s) (h.others q s none)
      ∙ back_others slots n (acts q) s (back q) none;
}

-- ---- gives

-- an act gives some of these slots, at least one
pub record GivesOf (xs : List Numbered) (a : RootAct) : Type 0 where
  pub slots : List Numbered
  pub give : a ≡ Give slots
  pub among : (n : Numbered) → Contains slots n → Contains xs n

batch_of : (k : ℕ) (xs all : List Numbered) (a : RootAct) → ((n : Numbered) → Contains xs n → Contains all n) → Contains (batches k xs) a →
    GivesOf all a
batch_of zero xs all a within among = absurd (not_in_none a among)
batch_of (suc k) [] all a within among = absurd (not_in_none a among)
batch_of (suc k) (x ∷ xs) all a within among = elim (in_cases (Give (take 16 (x ∷ xs))) a (batches k (drop 16 (x ∷ xs))) among) [
  | inl e ↦ record { slots = take 16 (x ∷ xs); give = sym e; among = λ n there. within n (take_in 16 (x ∷ xs) n there) }
  | inr rest ↦ batch_of k (drop 16 (x ∷ xs)) all a (λ n there. within n (drop_in 16 (x ∷ xs) n there)) rest
]

pub gives_of : (xs : List Numbered) (a : RootAct) → Contains (gives xs) a → GivesOf xs a
gives_of xs a among = batch_of (length xs) xs xs a (λ n there. there) among

-- at most one act for each 16 slots
batches_few : (k : ℕ) (xs : List Numbered) → 16 * length (batches k xs) ≤ length xs + 15
batches_few zero xs = omega arith
batches_few (suc k) [] = omega arith
batches_few (suc k) (x ∷ xs) =
    let ih = batches_few k (drop 16 (x ∷ xs)) in
    let d = length-drop 16 (x ∷ xs) in
    elim (lengths k (drop 16 (x ∷ xs))) [
      | inl some ↦ omega arith
      | inr none ↦ omega arith
    ]
  where
    lengths : (k : ℕ) (xs : List Numbered) → (0 < length xs) ⊎ (length (batches k xs) ≡ 0)
    lengths zero xs = inr refl
    lengths (suc k) [] = inr refl
    lengths (suc k) (x ∷ xs) = inl (omega arith)

pub gives_few : (xs : List Numbered) → 16 * length (gives xs) ≤ length xs + 15
gives_few xs = batches_few (length xs) xs

-- slots of places of the table
pub numbered_back : (slots : List Slot) (places : List ℕ) → ((i : ℕ) → Contains places i → i < length slots) →
    AllComeBack slots (gives (map (numbered_at slots) places))
numbered_back slots places low a among line m moves =
    let g = gives_of (map (numbered_at slots) places) a among in
    let (n, there, is) = map_cases (move_of line Back) g.slots m (subst (λ z. Contains (moves_by line z) m) g.give moves) in
    let (i, place, at) = map_cases (numbered_at slots) places n (g.among n there) in (
      sym (ap (λ (z : Move). z.way) is),
      i,
      low i place,
      sym (ap (λ (z : Move). z.slot) is) ∙ sym (ap (λ (z : Numbered). z.slot) at),
      sym (ap (λ (z : Move). z.number) is) ∙ sym (ap (λ (z : Numbered). z.number) at),
    )
