-- The table of the direct maps that went back, entry by entry.
use Rattle.std.proofs.Common.{◌≡◌, ℕ, ◌+◌, ◌<◌, ◌≤◌, ◌↔◌, ◌⊎◌, List, [], ◌∷◌, ◌++◌, get_or, length, map, min, Option, Some, None, refl, sym, ◌∙◌, ap, subst, arith, inl, inr}
use Rattle.std.specs.Prelude.{Contains, IsSome, slice_get}
use Rattle.std.proofs.lemmas.Bool.{cases_eq, cases_lt, false≢true}
use Rattle.std.proofs.lemmas.List.{get_or_append_left, get_or_default, get_or-map, length-map, length_push}
use Rattle.std.proofs.lemmas.Option.{get_or_from_slice_get, slice_get-get_or, slice_get_within}
use Rattle.pa_record.proofs.PoolSteps.{slice_get_more}
use Rattle.pa_slot.specs.declared.word.SlotName.{SlotName}
use Rattle.pa_record.specs.declared.numbered.Numbered.{Numbered}
use Rattle.pa_record.specs.declared.root.RootEntry.{RootEntry}
use Rattle.pa_record.specs.declared.root.RootAct.{RootAct}
use Rattle.pa_record.specs.declared.root.RootAct.TheVariants.{Unmap}
use Rattle.pa_lists.proofs.Members.{not_some, of_some}
use Rattle.pa_audit_records.specs.Keys.{name_key}
use Rattle.pa_audit_records.specs.Tables.{Puts}
use Rattle.pa_audit_records.proofs.Putting.{same_key}
use Rattle.pa_rules.specs.Holders.{Move, moves_by}
use Rattle.pa_audit_holders.specs.declared.owners.Course.{Course}
use Rattle.pa_audit_holders.specs.Owners.{move_on}
use Rattle.pa_audit_holders.specs.Gone.{HasGone, IsUnmapped, NamesNoneGone, NoneGone, lesser_of}
use Rattle.pa_lists.proofs.Indexed.{slice_get_at}

-- ---- one entry more

-- an entry of a list and one more is of the list, or the last
last_of : (es : List RootEntry) (e : RootEntry) (i : ℕ) (x : RootEntry) → slice_get (es ++ e ∷ []) i ≡ Some x →
    (slice_get es i ≡ Some x) ⊎ (e ≡ x)
last_of es e i x at = elim (cases_lt i (length es)) [
  | inl less ↦
      inl (slice_get-get_or es i x less ∙
      ap Some (sym (get_or_append_left es (e ∷ []) x i less) ∙ get_or_from_slice_get (es ++ e ∷ []) i x x at))
  | inr past ↦
      let within = slice_get_within (es ++ e ∷ []) i x at in
      let long = length_push es e in
      let place : length es ≡ i = omega (arith, within, long, past) in
      inr (of_some e x (sym (slice_get_at es [] e) ∙ ap (slice_get (es ++ e ∷ [])) place ∙ at))
]

unmapped_later : (es : List RootEntry) (e : RootEntry) (s : SlotName) (n : ℕ) → IsUnmapped es s n → IsUnmapped (es ++ e ∷ []) s n
unmapped_later es e s n (i, asked, x, at, is) = (i, asked, x, slice_get_more es (e ∷ []) i x at, is)

unmapped_cases : (es : List RootEntry) (e : RootEntry) (s : SlotName) (n : ℕ) → IsUnmapped (es ++ e ∷ []) s n → IsUnmapped es s n
    ⊎ ((asked : ℕ) × (e.act ≡ Unmap asked (record { slot = s; number = n })))
unmapped_cases es e s n (i, asked, x, at, is) = elim (last_of es e i x at) [
  | inl before ↦ inl (i, asked, x, before, is)
  | inr same ↦ inr (asked, ap (λ (z : RootEntry). z.act) same ∙ is)
]

-- an entry that takes nothing away
pub gone_same : (es : List RootEntry) (e : RootEntry) (f : ℕ → Option ℕ) → ((asked : ℕ) (slot : Numbered) → e.act ≡ Unmap asked slot → ⊥) →
    HasGone es f → HasGone (es ++ e ∷ []) f
gone_same es e f none h = record {
  hit = λ s k low at. unmapped_later es e s k (h.hit s k low at);
  least = λ s k n low at gone. elim (unmapped_cases es e s n gone) [
    | inl before ↦ h.least s k n low at before
    | inr (asked, is) ↦ absurd (none asked (record { slot = s; number = n }) is)
  ];
  miss = λ s n low at gone. elim (unmapped_cases es e s n gone) [
    | inl before ↦ h.miss s n low at before
    | inr (asked, is) ↦ none asked (record { slot = s; number = n }) is
  ];
}

one_unmap : (a b : ℕ) (x y : Numbered) (act : RootAct) → act ≡ Unmap a x → act ≡ Unmap b y → x ≡ y
one_unmap a b x y act is is' = cc

-- the least number at which these took the slot away, and one more at this number
record IsLeast (es : List RootEntry) (slot : Numbered) (least : ℕ) : Type 0 where
  among : IsUnmapped es slot.slot least ⊎ (least ≡ slot.number)
  low : least ≤ slot.number
  below : (n : ℕ) → IsUnmapped es slot.slot n → least ≤ n

least_is : (es : List RootEntry) (f : ℕ → Option ℕ) (slot : Numbered) (o : Option ℕ) → slot.slot.start < 4294967296
    → f (name_key slot.slot) ≡ o → HasGone es f → IsLeast es slot (lesser_of o slot.number)
least_is es f slot None low at h = record { among = inr refl; low = omega arith; below = λ n gone. absurd (h.miss slot.slot n low at gone) }
least_is es f slot (Some k) low at h = elim (cases_lt slot.number k) [
  | inl less ↦
      let is : min k slot.number ≡ slot.number = omega (arith, less) in
      record { among = inr is; low = omega arith; below = λ n gone. let down = h.least slot.slot k n low at gone in omega (arith, down) }
  | inr most ↦
      let is : min k slot.number ≡ k = omega (arith, most) in
      record {
        among = inl (subst (λ z. IsUnmapped es slot.slot z) (sym is) (h.hit slot.slot k low at));
        low = omega arith;
        below = λ n gone. let down = h.least slot.slot k n low at gone in omega (arith, down);
      }
]

-- an entry that takes a slot away leaves the lesser of its number and the one that the table had
gone_more : (es : List RootEntry) (e : RootEntry) (f g : ℕ → Option ℕ) (asked : ℕ) (slot : Numbered) → e.act ≡ Unmap asked slot →
    slot.slot.start < 4294967296 →
    Puts f g (name_key slot.slot) (lesser_of (f (name_key slot.slot)) slot.number) → HasGone es f → HasGone (es ++ e ∷ []) g
gone_more es e f g asked slot is low puts h =
    let key = name_key slot.slot in
    let least = lesser_of (f key) slot.number in
    let u = least_is es f slot (f key) low refl h in
    let here : IsUnmapped (es ++ e ∷ []) slot.slot least = elim u.among [
      | inl before ↦ unmapped_later es e slot.slot least before
      | inr same ↦ (
        length es,
        asked,
        e,
        slice_get_at es [] e,
        is ∙
            ap (λ z. Unmap asked (record { slot = slot.slot; number = z })) (sym same),
      )
    ] in
    let down : (n : ℕ) → IsUnmapped (es ++ e ∷ []) slot.slot n → least ≤ n = λ n gone. elim (unmapped_cases es e slot.slot n gone) [
      | inl before ↦ u.below n before
      | inr (b, is') ↦
          let low' = u.low in
          let same : slot.number ≡ n =
          ap (λ (z : Numbered). z.number) (one_unmap asked b slot (record { slot = slot.slot; number = n }) e.act is is') in
          omega (arith, low', same)
    ] in
    let one : (s : SlotName) (k : ℕ) → name_key s ≡ key → g (name_key s) ≡ Some k →
    least ≡ k = λ s k same at. of_some least k (sym puts.here ∙ ap g (sym same) ∙ at) in
    let apart : (s : SlotName) (k : ℕ) → (name_key s ≡ key → ⊥) → IsUnmapped (es ++ e ∷ []) s k →
    IsUnmapped es s k = λ s k other gone. elim (unmapped_cases es e s k gone) [
      | inl before ↦ before
      | inr (b, is') ↦
          absurd (other
          (ap (λ (z : Numbered). name_key z.slot) (sym (one_unmap asked b slot (record { slot = s; number = k }) e.act is is'))))
    ] in
    record {
      hit = λ s k start at. elim (cases_eq (name_key s) key) [
        | inl same ↦ subst (λ z. IsUnmapped (es ++ e ∷ []) z k) (sym (same_key s slot.slot start low same))
            (subst (λ z. IsUnmapped (es ++ e ∷ []) slot.slot z) (one s k same at) here)
        | inr other ↦ unmapped_later es e s k (h.hit s k start (sym (puts.other (name_key s) other) ∙ at))
      ];
      least = λ s k n start at gone. elim (cases_eq (name_key s) key) [
        | inl same ↦ subst (λ z. z ≤ n) (one s k same at)
            (down n (subst (λ z. IsUnmapped (es ++ e ∷ []) z n) (same_key s slot.slot start low same) gone))
        | inr other ↦ h.least s k n start (sym (puts.other (name_key s) other) ∙ at) (apart s n other gone)
      ];
      miss = λ s n start at gone. elim (cases_eq (name_key s) key) [
        | inl same ↦ not_some least (sym at ∙ ap g same ∙ puts.here)
        | inr other ↦ h.miss s n start (sym (puts.other (name_key s) other) ∙ at) (apart s n other gone)
      ];
    }

-- an entry that takes a slot away sets the table's number of it to the lesser of the old one, if there is one, and its own
pub gone_entered : (es : List RootEntry) (e : RootEntry) (f g : ℕ → Option ℕ) (asked key : ℕ) (slot : Numbered) (old : Option ℕ) (n : ℕ) →
    e.act ≡ Unmap asked slot → slot.slot.start < 4294967296 →
    key ≡ name_key slot.slot → old ≡ f key → n ≡ lesser_of old slot.number → Puts f g key n → HasGone es f → HasGone (es ++ e ∷ []) g
gone_entered es e f g asked key slot old n is low same was least puts h =
    let lesser : n ≡ lesser_of (f (name_key slot.slot)) slot.number = least ∙ ap (λ o. lesser_of o slot.number) (was ∙ ap f same) in
    gone_more es e f g asked slot is low (subst (λ z. Puts f g (name_key slot.slot) z) lesser (subst (λ k. Puts f g k n) same puts)) h

-- a key that is set twice has what it got last
pub puts_over : (f m g : ℕ → Option ℕ) (k v w : ℕ) → Puts f m k v → Puts m g k w → Puts f g k w
puts_over f m g k v w first next = record { here = next.here; other = λ q ne. next.other q ne ∙ first.other q ne }

-- ---- what the table tells

pub has_is : (es : List RootEntry) (s : SlotName) (o : Option ℕ) (f : ℕ → Option ℕ) → s.start < 4294967296 → f (name_key s) ≡ o →
    HasGone es f → IsSome o ↔ ((n : ℕ) × IsUnmapped es s n)
has_is es s None f low at h = (λ some. absurd (false≢true some), λ (n, gone). absurd (h.miss s n low at gone))
has_is es s (Some k) f low at h = (λ some. (k, h.hit s k low at), λ (n, gone). refl)

pub there_below : (es : List RootEntry) (s : SlotName) (k n : ℕ) (f : ℕ → Option ℕ) → s.start < 4294967296 → f (name_key s) ≡ Some k →
    HasGone es f → (n < k) ↔ ((m : ℕ) → IsUnmapped es s m → n < m)
there_below es s k n f low at h =
    (λ less m gone. let down = h.least s k m low at gone in omega (arith, less, down), λ each. each k (h.hit s k low at))

-- of the first slots none was taken away
abbrev pub NoneSoFar : (ℕ → Option ℕ) → List Numbered → ℕ → Type 0
NoneSoFar f slots j = (before : List RootEntry) → HasGone before f → (i n : ℕ) (d : Numbered) → i < j →
    IsUnmapped before (get_or slots i d).slot n → ⊥

pub none_next : (f : ℕ → Option ℕ) (slots : List Numbered) (j : ℕ) (d : Numbered) → j < length slots → NoneSoFar f slots j →
    ((before : List RootEntry) → HasGone before f → ((n : ℕ) × IsUnmapped before (get_or slots j d).slot n) → ⊥) → NoneSoFar f slots (j + 1)
none_next f slots j d below h here before known i n d' less gone = elim (cases_lt i j) [
  | inl first ↦ h before known i n d' first gone
  | inr least ↦
      let same : i ≡ j = omega (arith, less, least) in
      here before known (
        n,
        subst (λ (z : Numbered). IsUnmapped before z.slot n)
            (ap (λ k. get_or slots k d') same ∙ get_or_default slots j d' d below) gone,
      )
]

-- none of the slots that an entry moves is gone exactly if it names none that is
pub names_none : (es : List RootEntry) (e : RootEntry) (line : ℕ) (course : Course) (slots : List Numbered)
    → moves_by e.line e.act ≡ map (move_on line course) slots → NoneGone es slots ↔ NamesNoneGone es e
names_none es e line course slots is = (
  λ none s n (m, (i, below, at), same) gone.
      let f = move_on line course in
      let d : Numbered = record { slot = s; number = 0 } in
      let long = length-map slots f in
      let less : i < length slots = omega (arith, subst (λ zs. i < length zs) is below, long) in
      let here : f (get_or slots i d) ≡ m = sym (get_or-map f slots i d m less) ∙ ap (λ zs. get_or zs i m) (sym is) ∙ at in
      none i n d less (subst (λ z. IsUnmapped es z n) (sym same ∙ ap (λ (z : Move). z.slot) (sym here)) gone),
  λ named i n d below gone.
      let f = move_on line course in
      let long = length-map slots f in
      let m = f (get_or slots i d) in
      let among : Contains (map f slots) m = (i, omega (arith, long, below), get_or-map f slots i d m below) in
      named (get_or slots i d).slot n (m, subst (λ zs. Contains zs m) (sym is) among, refl) gone,
)
