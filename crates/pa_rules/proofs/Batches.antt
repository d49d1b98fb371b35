-- Slots that a thread gives back, in batches.
use Rattle.std.proofs.Common.{ℕ, List, length, zero, refl, suc, arith, ap, take, drop, ◌≡◌, ◌+◌, ◌-◌, ◌≤◌, [], ◌∷◌, ◌<◌, None, sym, subst, inl, inr}
use Rattle.std.specs.Prelude.{Contains}
use Rattle.pa_record.specs.declared.numbered.Numbered.{Numbered}
use Rattle.pa_record.specs.declared.root.RootAct.{RootAct}
use Rattle.pa_record.specs.Root.{asked_by}
use Rattle.pa_record.specs.RunText.{NamesSlots}
use Rattle.pa_lists.proofs.Members.{not_in_none, in_cases}
use Rattle.pa_lists.proofs.Elements.{in_one}
use Rattle.pa_rules.specs.Caches.{batches, gives, purge_acts}
use Rattle.std.proofs.lemmas.List.{length-drop}
use Rattle.std.proofs.lemmas.List.Elements.{Contains-append_cases}
use Rattle.pa_record.specs.declared.root.RootAct.TheVariants.{Give, Purge}

pub batches_same : (n m : ℕ) (xs : List Numbered) → length xs ≤ n → length xs ≤ m → batches n xs ≡ batches m xs
batches_same zero zero xs a b = refl
batches_same zero (suc m) [] a b = refl
batches_same zero (suc m) (x ∷ xs) a b = absurd (omega arith)
batches_same (suc n) zero [] a b = refl
batches_same (suc n) zero (x ∷ xs) a b = absurd (omega arith)
batches_same (suc n) (suc m) [] a b = refl
batches_same (suc n) (suc m) (x ∷ xs) a b =
    let e = length-drop 16 (x ∷ xs) in
    ap (λ z. Give (take 16 (x ∷ xs)) ∷ z) (batches_same n m (drop 16 (x ∷ xs)) (omega arith) (omega arith))

-- the first 16 go back first
pub gives_more : (xs : List Numbered) → 0 < length xs → gives xs ≡ Give (take 16 xs) ∷ gives (drop 16 xs)
gives_more [] some = absurd (omega arith)
gives_more (x ∷ xs) some =
    let e = length-drop 16 (x ∷ xs) in
    ap (λ z. Give (take 16 (x ∷ xs)) ∷ z)
    (batches_same (length xs) (length (drop 16 (x ∷ xs))) (drop 16 (x ∷ xs)) (omega arith) (omega arith))

-- a batch that goes back names no entry of the pool
pub batch_names_none : (n : ℕ) (xs : List Numbered) (act : RootAct) → Contains (batches n xs) act → asked_by act ≡ None
batch_names_none zero xs act among = absurd (not_in_none act among)
batch_names_none (suc n) [] act among = absurd (not_in_none act among)
batch_names_none (suc n) (x ∷ xs) act among = elim (in_cases (Give (take 16 (x ∷ xs))) act (batches n (drop 16 (x ∷ xs))) among) [
  | inl e ↦ ap asked_by (sym e)
  | inr rest ↦ batch_names_none n (drop 16 (x ∷ xs)) act rest
]

-- nor does a purge
pub purge_names_none : (lists : ℕ → List Numbered) (class n : ℕ) (act : RootAct) → Contains (purge_acts lists class n) act →
    asked_by act ≡ None
purge_names_none lists class zero act among = ap asked_by (sym (in_one Purge act among))
purge_names_none lists class (suc n) act among =
    elim (Contains-append_cases (gives (lists class)) (purge_acts lists (class + 1) n) act among) [
      | inl here ↦ batch_names_none (length (lists class)) (lists class) act here
      | inr rest ↦ purge_names_none lists (class + 1) n act rest
    ]

-- each batch names slots
batches_name : (n : ℕ) (xs : List Numbered) (a : RootAct) → Contains (batches n xs) a → NamesSlots a
batches_name zero xs a among = absurd (not_in_none a among)
batches_name (suc n) [] a among = absurd (not_in_none a among)
batches_name (suc n) (x ∷ xs) a among = elim (in_cases (Give (take 16 (x ∷ xs))) a (batches n (drop 16 (x ∷ xs))) among) [
  | inl e ↦ let some : 0 < length (take 16 (x ∷ xs)) = omega arith in subst NamesSlots e some
  | inr rest ↦ batches_name n (drop 16 (x ∷ xs)) a rest
]

-- each act by which a list of slots goes back names a slot
pub gives_names : (xs : List Numbered) (a : RootAct) → Contains (gives xs) a → NamesSlots a
gives_names xs a among = batches_name (length xs) xs a among
