-- Records in whose slots the numbers rise: without exchanges they are seen in order.
use Rattle.std.proofs.Common.{◌≡◌, ℕ, ◌+◌, ◌<◌, ◌≤◌, List, get_or, length, Option, Some, None, sym, ◌∙◌, ap, subst, arith, inl, inr}
use Rattle.std.specs.Prelude.{All, slice_get}
use Rattle.std.specs.Option.{option_map, unwrap_or}
use Rattle.std.proofs.lemmas.Bool.{cases_eq, cases_lt}
use Rattle.std.proofs.lemmas.List.{get_or_past}
use Rattle.std.proofs.lemmas.Option.{slice_get_within, get_or_from_slice_get}
use Rattle.pa_slot.specs.Count.{number_of}
use Rattle.pa_slot.specs.Run.{Mark}
use Rattle.pa_record.specs.declared.history.CellEntry.{CellEntry}
use Rattle.pa_lists.proofs.Members.{of_some, not_some}
use Rattle.pa_rules.specs.declared.played.Played.{Played}
use Rattle.pa_rules.specs.declared.verdict.Place.TheVariants as places
use Rattle.pa_rules.specs.Cells.{history_at}
use Rattle.pa_rules.specs.Played.{mark_of}
use Rattle.pa_rules.specs.RecordDemands.{IsRecord, SeenDemand}
use Rattle.pa_rules.specs.Rising.{RiseByLine}
use Rattle.pa_rules.specs.Seen.{IsBefore, Standing, Handing, Between, left_number}
use Rattle.pa_rules.proofs.Rising.{rises}
use Rattle.pa_lists.proofs.Indexed.{in_at, one_at, here_is}
use Rattle.pa_audit_records.specs.Keys.{word_key}
use Rattle.pa_audit_records.specs.Tables.{Puts}
use Rattle.pa_audit_order.specs.declared.looks.Look.{Look}
use Rattle.pa_audit_order.specs.Looks.{look_by, NumbersRise}
use Rattle.pa_audit_records.specs.Cuts.{RiseByPhase}
use Rattle.pa_audit_order.specs.Steps.{HasNoExchange}
use Rattle.pa_audit_order.proofs.Leaving.{look_told, look_none}
use Rattle.pa_rules.proofs.Marking.{found_left}

-- ---- no exchange

pub none_exchanged : (cells : List (List CellEntry)) → All (λ es. length es ≡ 0) cells → HasNoExchange (history_at cells)
none_exchanged cells none k i e at = elim (cases_lt k (length cells)) [
  | inl less ↦
      let low : i < length (history_at cells k) = slice_get_within (history_at cells k) i e at in
      let empty : length (history_at cells k) ≡ 0 = none k _ less in
      omega (arith, low, empty)
  | inr past ↦ not_some e (subst (λ es. slice_get es i ≡ Some e) (get_or_past cells k _ past) at)
]

-- ---- what comes before

phase_order : (ps : List Played) (i j : ℕ) (x y : Played) → RiseByPhase ps → IsRecord ps i x → IsRecord ps j y → i < j → x.phase ≤ y.phase
phase_order ps i j x y phases at at' less =
    subst (λ (z : Played). z.phase ≤ y.phase) (get_or_from_slice_get ps i x x at)
    (subst (λ (z : Played). (get_or ps i x).phase ≤ z.phase) (get_or_from_slice_get ps j y x at')
    (phases i j x less (slice_get_within ps j y at')))

one_of : (ps : List Played) (i j : ℕ) (x y : Played) → IsRecord ps i x → IsRecord ps j y → i ≡ j → x ≡ y
one_of ps i j x y at at' same = one_at ps j x y (ap (slice_get ps) (sym same) ∙ at) at'

pub stands_above : (cells : ℕ → List CellEntry) (ps : List Played) (i j : ℕ) (x y : Played) → RiseByLine ps → RiseByPhase ps
    → HasNoExchange cells → IsRecord ps i x → IsRecord ps j y → IsBefore cells ps x y → i < j
stands_above cells ps i j x y rising phases none at at' (Standing (inl (thread, less))) = elim (cases_lt i j) [
  | inl before ↦ before
  | inr most ↦ elim (cases_lt j i) [
    | inl after ↦ let more : y.line < x.line = rises ps j i y x rising at' at after in absurd (omega (arith, more, less))
    | inr least ↦
        let same : i ≡ j = omega (arith, most, least) in
        let line : x.line ≡ y.line = ap (λ (z : Played). z.line) (one_of ps i j x y at at' same) in
        absurd (omega (arith, line, less))
  ]
]
stands_above cells ps i j x y rising phases none at at' (Standing (inr less)) = elim (cases_lt i j) [
  | inl before ↦ before
  | inr most ↦ elim (cases_lt j i) [
    | inl after ↦ let more : y.phase ≤ x.phase = phase_order ps j i y x phases at' at after in absurd (omega (arith, more, less))
    | inr least ↦
        let same : i ≡ j = omega (arith, most, least) in
        let phase : x.phase ≡ y.phase = ap (λ (z : Played). z.phase) (one_of ps i j x y at at' same) in
        absurd (omega (arith, phase, less))
  ]
]
stands_above cells ps i j x y rising phases none at at' (Handing hands) = absurd (none hands.0 hands.1 hands.2 hands.4)
stands_above cells ps i j x y rising phases none at at' (Between z among first second) =
    let (k, there) = in_at ps z among in
    let low : i < k = stands_above cells ps i k x z rising phases none at there first in
    let high : k < j = stands_above cells ps k j z y rising phases none there at' second in
    omega (arith, low, high)

-- records are seen in order if their numbers rise and no cell has an exchange
pub seen_met : (cells : ℕ → List CellEntry) (ps : List Played) → RiseByLine ps → RiseByPhase ps → HasNoExchange cells → NumbersRise ps →
    (i : ℕ) → SeenDemand cells ps (places.Record i)
seen_met cells ps rising phases none rise i y at = (
  λ before. let less : i < i = stands_above cells ps i i y y rising phases none at at before in omega (arith, less),
  λ x m n among before tells tells' slot.
      let (j, there) = in_at ps x among in
      rise j i x y m n (stands_above cells ps j i x y rising phases none there at before) there at tells tells' slot,
)

-- ---- the walk along the records

-- the numbers of the records so far rise, and the table has for each slot a number that none of them left a greater one than
pub record RisesSoFar (ps : List Played) (at : ℕ → Option ℕ) (k : ℕ) : Type 0 where
  pub rise : (i j : ℕ) (x y : Played) (m n : Mark) → i < j → j < k → IsRecord ps i x → IsRecord ps j y → mark_of x ≡ Some m →
      mark_of y ≡ Some n → m.slot ≡ n.slot → left_number m ≤ number_of n.found
  pub left : (i : ℕ) (x : Played) (m : Mark) → i < k → IsRecord ps i x → mark_of x ≡ Some m →
      (v : ℕ) × (at (word_key m.slot 0) ≡ Some v) × (left_number m ≤ v)

-- the record at place k
here_k : (ps : List Played) (k j : ℕ) (d y : Played) → k < length ps → j < k + 1 → k ≤ j → IsRecord ps j y → get_or ps k d ≡ y
here_k ps k j d y below less from at = let same : j ≡ k = omega (arith, less, from) in
    sym (one_of ps j k y (get_or ps k d) at (here_is ps k d below) same)

pub rises_quiet : (ps : List Played) (at : ℕ → Option ℕ) (k : ℕ) (d : Played) → k < length ps →
    None ≡ option_map look_by (mark_of (get_or ps k d)) → RisesSoFar ps at k → RisesSoFar ps at (k + 1)
rises_quiet ps at k d below tells h =
    let none = look_none (mark_of (get_or ps k d)) tells in
    record {
      rise = λ i j x y m n less within there there' is is' slot. elim (cases_lt j k) [
        | inl early ↦ h.rise i j x y m n less early there there' is is' slot
        | inr last ↦ absurd (not_some n (sym none ∙ ap mark_of (here_k ps k j d y below within last there') ∙ is'))
      ];
      left = λ i x m within there is. elim (cases_lt i k) [
        | inl early ↦ h.left i x m early there is
        | inr last ↦ absurd (not_some m (sym none ∙ ap mark_of (here_k ps k i d x below within last there) ∙ is))
      ];
    }

pub rises_more : (ps : List Played) (f g : ℕ → Option ℕ) (k : ℕ) (d : Played) (m : Mark) → k < length ps
    → mark_of (get_or ps k d) ≡ Some m → Puts f g (word_key m.slot 0) (left_number m)
    → unwrap_or (f (word_key m.slot 0)) 0 ≤ number_of m.found
    → RisesSoFar ps f k → RisesSoFar ps g (k + 1)
rises_more ps f g k d m below is puts enough h = record {
  rise = λ i j x y a b less within there there' tells tells' slot. elim (cases_lt j k) [
    | inl early ↦ h.rise i j x y a b less early there there' tells tells' slot
    | inr last ↦
        let same : m ≡ b = of_some m b (sym is ∙ ap mark_of (here_k ps k j d y below within last there') ∙ tells') in
        let (v, at, least) = h.left i x a (omega (arith, less, within)) there tells in
        let key : word_key a.slot 0 ≡ word_key m.slot 0 = ap (λ s. word_key s 0) (slot ∙ ap (λ (z : Mark). z.slot) (sym same)) in
        let most : v ≤ number_of m.found = subst (λ o. unwrap_or o 0 ≤ number_of m.found) (ap f (sym key) ∙ at) enough in
        let found : number_of m.found ≡ number_of b.found = ap (λ (z : Mark). number_of z.found) same in
        omega (arith, least, most, found)
  ];
  left = λ i x a within there tells. elim (cases_lt i k) [
    | inl early ↦
        let (v, at, least) = h.left i x a early there tells in
        elim (cases_eq (word_key a.slot 0) (word_key m.slot 0)) [
          | inl key ↦
              let most : v ≤ number_of m.found = subst (λ o. unwrap_or o 0 ≤ number_of m.found) (ap f (sym key) ∙ at) enough in
              (left_number m, ap g key ∙ puts.here, omega (arith, least, most, found_left m))
          | inr other ↦ (v, puts.other (word_key a.slot 0) other ∙ at, least)
        ]
    | inr last ↦
        let same : m ≡ a = of_some m a (sym is ∙ ap mark_of (here_k ps k i d x below within last there) ∙ tells) in
        let left : left_number m ≡ left_number a = ap left_number same in
        (left_number m, ap (λ (z : Mark). g (word_key z.slot 0)) (sym same) ∙ puts.here, omega (arith, left))
  ];
}

pub rises_told : (ps : List Played) (f g : ℕ → Option ℕ) (k q : ℕ) (d : Played) (l : Look) (old : Option ℕ) → k < length ps
    → Some l ≡ option_map look_by (mark_of (get_or ps k d)) → q ≡ word_key l.slot 0 → old ≡ f q → Puts f g q l.left
    → unwrap_or old 0 ≤ l.found → RisesSoFar ps f k → RisesSoFar ps g (k + 1)
rises_told ps f g k q d l old below tells key was puts enough h =
    let (m, is, same) = look_told (mark_of (get_or ps k d)) l tells in
    let at : q ≡ word_key m.slot 0 = key ∙ ap (λ (z : Look). word_key z.slot 0) same in
    let left = ap (λ (z : Look). z.left) same in
    let put = subst (λ z. Puts f g z (left_number m)) at (subst (λ z. Puts f g q z) left puts) in
    let found : unwrap_or (f q) 0 ≤ number_of m.found =
    subst (λ (z : Look). unwrap_or (f q) 0 ≤ z.found) same (subst (λ o. unwrap_or o 0 ≤ l.found) was enough) in
    rises_more ps f g k d m below is put (subst (λ z. unwrap_or (f z) 0 ≤ number_of m.found) at found) h

pub rises_end : (ps : List Played) (at : ℕ → Option ℕ) (k : ℕ) → length ps ≤ k → RisesSoFar ps at k → NumbersRise ps
rises_end ps at k end h i j x y m n less there there' =
    let low : j < length ps = slice_get_within ps j y there' in
    h.rise i j x y m n less (omega (arith, end, low)) there there'
