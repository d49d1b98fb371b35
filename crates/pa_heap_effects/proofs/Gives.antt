-- Gives of slots that are out fit one after the other.
use Rattle.std.proofs.Common.{◌≡◌, ℕ, zero, suc, ◌+◌, ◌≤◌, List, [], ◌∷◌, ◌++◌, length, take, drop, None, refl, sym, ◌∙◌, ap, subst, arith, ◌⊎◌, inl, inr}
use Rattle.std.specs.Prelude.{Contains}
use Rattle.std.proofs.lemmas.List.{take-append-drop, length-drop, append-nil}
use Rattle.std.proofs.lemmas.List.Elements.{Contains-append_cases}
use Rattle.pa_record.specs.declared.numbered.Numbered.{Numbered}
use Rattle.pa_record.specs.declared.pool.PoolEntry.{PoolEntry}
use Rattle.pa_record.specs.declared.root.RootAct.{RootAct}
use Rattle.pa_record.specs.declared.root.RootAct.TheVariants.{Give, Purge}
use Rattle.pa_record.specs.Root.{Root, names, all_returned, purged, root_next, asked_by}
use Rattle.pa_record.specs.Sound.{IsSound}
use Rattle.pa_lists.proofs.Members.{not_in_none, in_cases}
use Rattle.pa_lists.proofs.Joined.{map_cases}
use Rattle.pa_rules.specs.Caches.{batches, gives, purge_acts}
use Rattle.pa_rules.specs.Holders.{Back, Move, move_of, moves_by}
use Rattle.pa_heap_effects.specs.Deeds.{root_after, ActsFit}
use Rattle.pa_heap_effects.specs.Ops.{AreOut, all_of}
use Rattle.pa_heap_effects.proofs.Numbering.{NothingLeaves}
use Rattle.pa_heap_effects.proofs.Lists.{names_append, parts_are_out, returned_sound}

-- ---- acts one after the other

pub after_append : (pools : List PoolEntry) (a b : List RootAct) (r : Root) →
    root_after pools (a ++ b) r ≡ root_after pools b (root_after pools a r)
after_append pools [] b r = refl
after_append pools (x ∷ a) b r = after_append pools a b (root_next pools x r)

-- acts that ask the pool for nothing
abbrev pub AskNothing : List RootAct → Type 0
AskNothing acts = (a : RootAct) → Contains acts a → asked_by a ≡ None

-- ---- batches

-- an act is a give
abbrev pub IsGive : RootAct → Type 0
IsGive a = (slots : List Numbered) × (a ≡ Give slots)

batch_is : (n : ℕ) (xs : List Numbered) (a : RootAct) → Contains (batches n xs) a → IsGive a
batch_is zero xs a among = absurd (not_in_none a among)
batch_is (suc n) [] a among = absurd (not_in_none a among)
batch_is (suc n) (x ∷ xs) a among = elim (in_cases (Give (take 16 (x ∷ xs))) a (batches n (drop 16 (x ∷ xs))) among) [
  | inl e ↦ (take 16 (x ∷ xs), sym e)
  | inr rest ↦ batch_is n (drop 16 (x ∷ xs)) a rest
]

pub give_is : (xs : List Numbered) (a : RootAct) → Contains (gives xs) a → IsGive a
give_is xs a among = batch_is (length xs) xs a among

cut_out : (r : Root) (k : ℕ) (xs : List Numbered) → AreOut r xs → AreOut r (take k xs ++ drop k xs)
cut_out r k xs h = subst (λ z. AreOut r z) (sym (take-append-drop k xs)) h

-- they fit, and so do the acts that follow in the root that they leave
batches_fit : (pools : List PoolEntry) (least n : ℕ) (xs : List Numbered) (more : List RootAct) (r : Root) → length xs ≤ n → IsSound r →
    AreOut r xs →
    ActsFit pools least more (all_returned (names xs) r) → ActsFit pools least (batches n xs ++ more) r
batches_fit pools least zero [] more r few sound out rest = rest
batches_fit pools least zero (x ∷ xs) more r few sound out rest = absurd (omega arith)
batches_fit pools least (suc n) [] more r few sound out rest = rest
batches_fit pools least (suc n) (x ∷ xs) more r few sound out rest =
    let parts = cut_out r 16 (x ∷ xs) out in
    let first = parts_are_out.front r (take 16 (x ∷ xs)) (drop 16 (x ∷ xs)) parts in
    let e = length-drop 16 (x ∷ xs) in
    let whole : all_returned (names (x ∷ xs)) r ≡ all_returned (names (drop 16 (x ∷ xs))) (all_returned (names (take 16 (x ∷ xs))) r) =
    ap (λ zs. all_returned (names zs) r) (sym (take-append-drop 16 (x ∷ xs)))
    ∙ ap (λ zs. all_returned zs r) (names_append (take 16 (x ∷ xs)) (drop 16 (x ∷ xs)))
    ∙ parts_are_out.joined r (names (take 16 (x ∷ xs))) (names (drop 16 (x ∷ xs))) in (
      first,
      tt,
      batches_fit pools least n (drop 16 (x ∷ xs)) more (all_returned (names (take 16 (x ∷ xs))) r) (omega arith)
          (returned_sound r (take 16 (x ∷ xs)) sound first)
          (parts_are_out.rest r (take 16 (x ∷ xs)) (drop 16 (x ∷ xs)) sound parts)
          (subst (λ z. ActsFit pools least more z) whole rest),
    )

batches_after : (pools : List PoolEntry) (n : ℕ) (xs : List Numbered) (r : Root) → length xs ≤ n →
    root_after pools (batches n xs) r ≡ all_returned (names xs) r
batches_after pools zero [] r few = refl
batches_after pools zero (x ∷ xs) r few = absurd (omega arith)
batches_after pools (suc n) [] r few = refl
batches_after pools (suc n) (x ∷ xs) r few =
    let e = length-drop 16 (x ∷ xs) in
    batches_after pools n (drop 16 (x ∷ xs)) (all_returned (names (take 16 (x ∷ xs))) r) (omega arith)
    ∙ sym (parts_are_out.joined r (names (take 16 (x ∷ xs))) (names (drop 16 (x ∷ xs))))
    ∙ ap (λ zs. all_returned zs r) (sym (names_append (take 16 (x ∷ xs)) (drop 16 (x ∷ xs))))
    ∙ ap (λ zs. all_returned (names zs) r) (take-append-drop 16 (x ∷ xs))

pub gives_fit : (pools : List PoolEntry) (least : ℕ) (xs : List Numbered) (more : List RootAct) (r : Root) → IsSound r → AreOut r xs →
    ActsFit pools least more (all_returned (names xs) r) →
    ActsFit pools least (gives xs ++ more) r
gives_fit pools least xs more r sound out rest = batches_fit pools least (length xs) xs more r (omega arith) sound out rest

pub gives_alone : (pools : List PoolEntry) (least : ℕ) (xs : List Numbered) (r : Root) → IsSound r → AreOut r xs →
    ActsFit pools least (gives xs) r
gives_alone pools least xs r sound out =
    subst (λ z. ActsFit pools least z r) (append-nil (gives xs)) (gives_fit pools least xs [] r sound out tt)

pub gives_after : (pools : List PoolEntry) (xs : List Numbered) (r : Root) → root_after pools (gives xs) r ≡ all_returned (names xs) r
gives_after pools xs r = batches_after pools (length xs) xs r (omega arith)

-- gives take nothing out, and ask for nothing
give_asks : (a : RootAct) → IsGive a → asked_by a ≡ None
give_asks a (slots, is) = ap asked_by is

give_leaves : (a : RootAct) (m : Move) (line : ℕ) → IsGive a → Contains (moves_by line a) m → m.way ≡ Back
give_leaves a m line (slots, is) among =
    let (u, member, e) = map_cases (move_of line Back) slots m (subst (λ z. Contains (moves_by line z) m) is among) in
    ap (λ (z : Move). z.way) (sym e)

pub gives_ask : (xs : List Numbered) → AskNothing (gives xs)
gives_ask xs a among = give_asks a (give_is xs a among)

pub gives_leave : (xs : List Numbered) → NothingLeaves (gives xs)
gives_leave xs a m line among move = give_leaves a m line (give_is xs a among) move

-- ---- a purge

-- an act of a purge is a give, or the Purge
pub purge_is : (lists : ℕ → List Numbered) (class n : ℕ) (a : RootAct) → Contains (purge_acts lists class n) a → IsGive a ⊎ (a ≡ Purge)
purge_is lists class zero a among = elim (in_cases Purge a [] among) [
  | inl e ↦ inr (sym e)
  | inr none ↦ absurd (not_in_none a none)
]
purge_is lists class (suc n) a among = elim (Contains-append_cases (gives (lists class)) (purge_acts lists (class + 1) n) a among) [
  | inl give ↦ inl (give_is (lists class) a give)
  | inr rest ↦ purge_is lists (class + 1) n a rest
]

pub purge_asks : (lists : ℕ → List Numbered) → AskNothing (purge_acts lists 0 170)
purge_asks lists a among = elim (purge_is lists 0 170 a among) [
  | inl give ↦ give_asks a give
  | inr e ↦ ap asked_by e
]

pub purge_leaves : (lists : ℕ → List Numbered) → NothingLeaves (purge_acts lists 0 170)
purge_leaves lists a m line among move = elim (purge_is lists 0 170 a among) [
  | inl give ↦ give_leaves a m line give move
  | inr e ↦ absurd (not_in_none m (subst (λ z. Contains (moves_by line z) m) e move))
]

pub purge_fits : (pools : List PoolEntry) (least class n : ℕ) (lists : ℕ → List Numbered) (r : Root) → IsSound r →
    AreOut r (all_of lists class n) → ActsFit pools least (purge_acts lists class n) r
purge_fits pools least class zero lists r sound out = (tt, tt, tt)
purge_fits pools least class (suc n) lists r sound out =
    let first = parts_are_out.front r (lists class) (all_of lists (class + 1) n) out in
    gives_fit pools least (lists class) (purge_acts lists (class + 1) n) r sound first
    (purge_fits pools least (class + 1) n lists (all_returned (names (lists class)) r) (returned_sound r (lists class) sound first)
    (parts_are_out.rest r (lists class) (all_of lists (class + 1) n) sound out))

pub purge_after : (pools : List PoolEntry) (class n : ℕ) (lists : ℕ → List Numbered) (r : Root) →
    root_after pools (purge_acts lists class n) r ≡ purged (all_returned (names (all_of lists class n)) r)
purge_after pools class zero lists r = refl
purge_after pools class (suc n) lists r =
    after_append pools (gives (lists class)) (purge_acts lists (class + 1) n) r
    ∙ ap (root_after pools (purge_acts lists (class + 1) n)) (gives_after pools (lists class) r)
    ∙ purge_after pools (class + 1) n lists (all_returned (names (lists class)) r)
    ∙ ap purged (sym (parts_are_out.joined r (names (lists class)) (names (all_of lists (class + 1) n))) ∙
    ap (λ zs. all_returned zs r) (sym (names_append (lists class) (all_of lists (class + 1) n))))
