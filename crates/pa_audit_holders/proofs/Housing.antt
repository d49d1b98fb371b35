-- The table of the slots' homes, slot by slot.
use Rattle.std.proofs.Common.{◌≡◌, ℕ, ◌+◌, ◌<◌, ◌≤◌, List, [], ◌∷◌, ◌++◌, get_or, length, take, Option, Some, None, refl, sym, ◌∙◌, ap, subst, arith, inl, inr}
use Rattle.std.specs.Prelude.{Contains, IsSome, slice_get}
use Rattle.std.proofs.lemmas.Bool.{cases_eq, cases_lt, false≢true}
use Rattle.std.proofs.lemmas.List.{get_or-map, get_or_past, length-map, map-append, take_more}
use Rattle.std.proofs.lemmas.List.Elements.{Contains-push_cases}
use Rattle.std.proofs.lemmas.Option.{slice_get_within, slice_get-get_or}
use Rattle.pa_slot.specs.declared.word.SlotName.{SlotName}
use Rattle.pa_record.specs.declared.numbered.Numbered.{Numbered}
use Rattle.pa_record.specs.declared.root.RootEntry.{RootEntry}
use Rattle.pa_record.specs.Laws.{leaves_by}
use Rattle.pa_record.specs.Root.{names}
use Rattle.pa_lists.proofs.Members.{first_in, not_in_none, of_some, not_some}
use Rattle.pa_rules.specs.Roots.{Journals, IsEntry, journal_at}
use Rattle.pa_audit_records.specs.Keys.{name_key}
use Rattle.pa_audit_records.specs.Tables.{Puts}
use Rattle.pa_audit_records.proofs.Putting.{same_key}
use Rattle.pa_audit_holders.specs.declared.homes.Home.{Home}
use Rattle.pa_audit_holders.specs.Homes.{KnowsHomes, EntersSlots, HasAbove, HasAll, HasHomes, IsHomeless, IsHomeOf}

pub homes_more : (roots : Journals) (f g : ℕ → Option Home) (s : SlotName) (h : Home) → HasHomes roots f → s.start < 4294967296 →
    IsHomeOf roots s h → Puts f g (name_key s) h → HasHomes roots g
homes_more roots f g s h homes low home puts k v at = elim (cases_eq k (name_key s)) [
  | inl same ↦
      let one : h ≡ v = of_some h v (sym puts.here ∙ ap g (sym same) ∙ at) in
      (s, sym same, low, subst (λ z. IsHomeOf roots s z) one home)
  | inr other ↦ homes k v (sym (puts.other k other) ∙ at)
]

some_of : (o p : Option Home) → p ≡ o → IsSome o → IsSome p
some_of o p e h = subst (λ z. IsSome z) (sym e) h

pub kept_put : (f g : ℕ → Option Home) (k q : ℕ) (h : Home) → Puts f g k h → IsSome (f q) → IsSome (g q)
kept_put f g k q h puts some = elim (cases_eq q k) [
  | inl same ↦ some_of (Some h) (g q) (ap g same ∙ puts.here) refl
  | inr other ↦ some_of (f q) (g q) (puts.other q other) some
]

in_one : (s t : SlotName) → Contains (s ∷ []) t → s ≡ t
in_one s t among = elim (Contains-push_cases [] s t among) [
  | inl none ↦ absurd (not_in_none t none)
  | inr same ↦ same
]

pub entered_one : (f g : ℕ → Option Home) (s : SlotName) (h : Home) → s.start < 4294967296 →
    Puts f g (name_key s) h → EntersSlots f g (s ∷ [])
entered_one f g s h low puts = record {
  kept = λ q some. kept_put f g (name_key s) q h puts some;
  has = λ t among. (
    some_of (Some h) (g (name_key t)) (ap (λ z. g (name_key z)) (sym (in_one s t among)) ∙ puts.here) refl,
    subst (λ (u : SlotName). u.start < 4294967296) (in_one s t among) low,
  );
}

-- ---- one slot after the other

pub names_more : (slots : List Numbered) (i : ℕ) (d : Numbered) → i < length slots →
    names (take (i + 1) slots) ≡ names (take i slots) ++ (get_or slots i d).slot ∷ []
names_more slots i d below =
    ap names (take_more slots i d below) ∙ map-append (λ (n : Numbered). n.slot) (take i slots) (get_or slots i d ∷ [])

pub enters_more : (f g h : ℕ → Option Home) (xs : List SlotName) (s : SlotName) → EntersSlots f g xs → EntersSlots g h (s ∷ []) →
    EntersSlots f h (xs ++ s ∷ [])
enters_more f g h xs s a b = record {
  kept = λ k some. b.kept k (a.kept k some);
  has = λ t among. elim (Contains-push_cases xs s t among) [
    | inl before ↦ let (some, low) = a.has t before in (b.kept (name_key t) some, low)
    | inr same ↦ subst (λ (z : SlotName). IsSome (h (name_key z)) × (z.start < 4294967296)) same (b.has s (first_in s []))
  ];
}

all_kept : (f g : ℕ → Option Home) (xs : List SlotName) → ((k : ℕ) → IsSome (f k) → IsSome (g k)) → HasAll f xs → HasAll g xs
all_kept f g xs kept h s among = let (some, low) = h s among in (kept (name_key s) some, low)

-- ---- entry by entry

pub above_more : (roots : Journals) (p n : ℕ) (e : RootEntry) (f g : ℕ → Option Home) → IsEntry roots p n e → HasAbove roots p n f →
    EntersSlots f g (leaves_by e.act) → HasAbove roots p (n + 1) g
above_more roots p n e f g is h enters q i d above at = elim above [
  | inl less ↦ all_kept f g (leaves_by d.act) enters.kept (h q i d (inl less) at)
  | inr (same, less) ↦ elim (cases_lt i n) [
    | inl before ↦ all_kept f g (leaves_by d.act) enters.kept (h q i d (inr (same, before)) at)
    | inr least ↦
        let here : i ≡ n = omega (arith, less, least) in
        let one : e ≡ d =
        of_some e d (sym is ∙ ap (λ z. slice_get (roots z) n) (sym same) ∙ ap (λ z. slice_get (roots q) z) (sym here) ∙ at) in
        subst (λ (z : RootEntry). HasAll g (leaves_by z.act)) one enters.has
  ]
]

pub above_end : (roots : Journals) (p n : ℕ) (f : ℕ → Option Home) → length (roots p) ≤ n →
    HasAbove roots p n f → HasAbove roots (p + 1) 0 f
above_end roots p n f past h q i d above at = elim above [
  | inl less ↦ elim (cases_lt q p) [
    | inl before ↦ h q i d (inl before) at
    | inr least ↦
        let same : q ≡ p = omega (arith, less, least) in
        let inside = slice_get_within (roots q) i d at in
        let long : length (roots q) ≡ length (roots p) = ap (λ z. length (roots z)) same in
        h q i d (inr (same, omega (arith, inside, long, past))) at
  ]
  | inr (same, less) ↦ absurd (omega (arith, less))
]

pub homes_all : (roots : List (List RootEntry)) (n : ℕ) (f : ℕ → Option Home) → length roots ≤ n → HasHomes (journal_at roots) f →
    HasAbove (journal_at roots) n 0 f → KnowsHomes (journal_at roots) f
homes_all roots n f past homes h = record {
  homes = homes;
  all = λ p i e at. elim (cases_lt p n) [
    | inl less ↦ h p i e (inl less) at
    | inr least ↦
        let none : journal_at roots p ≡ [] = get_or_past roots p [] (omega (arith, past, least)) in
        absurd (not_some e (ap (λ (es : List RootEntry). slice_get es i) (sym none) ∙ at))
  ];
}

-- ---- looking a home up

pub home_found : (roots : Journals) (f : ℕ → Option Home) (s : SlotName) (h : Home) → s.start < 4294967296 → KnowsHomes roots f →
    f (name_key s) ≡ Some h → IsHomeOf roots s h
home_found roots f s h low homes at =
    let (t, key, low', home) = homes.homes (name_key s) h at in
    subst (λ z. IsHomeOf roots z h) (same_key t s low' low key) home

some_none : (o : Option Home) → o ≡ None → IsSome o → ⊥
some_none None e some = absurd (false≢true some)
some_none (Some h) e some = absurd (not_some h (sym e))

pub home_none : (roots : Journals) (f : ℕ → Option Home) (s : SlotName) → KnowsHomes roots f → f (name_key s) ≡ None → IsHomeless roots s
home_none roots f s homes none = record {
  class = λ p class (e, asked, slots, (i, within, is), act, member).
      some_none (f (name_key s)) none
      (homes.all p i e (slice_get-get_or (roots p) i e within ∙ ap Some is) s
      (subst (λ a. Contains (leaves_by a) s) (sym act) member)).0;
  direct = λ p (e, asked, len, (i, within, is), act).
      some_none (f (name_key s)) none
      (homes.all p i e (slice_get-get_or (roots p) i e within ∙ ap Some is) s
      (subst (λ a. Contains (leaves_by a) s) (sym act) (first_in s []))).0;
}

-- ---- the slots of a fill

pub slot_among : (slots : List Numbered) (i : ℕ) (d : Numbered) → i < length slots → Contains (names slots) (get_or slots i d).slot
slot_among slots i d below =
    let long = length-map slots (λ (n : Numbered). n.slot) in
    (i, omega (arith, long, below), get_or-map (λ (n : Numbered). n.slot) slots i d (get_or slots i d).slot below)
