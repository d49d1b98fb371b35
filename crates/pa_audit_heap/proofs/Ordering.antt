-- Entries in the order of their records, one by one.
use Rattle.std.proofs.Common.{◌≡◌, ◌≢◌, ℕ, ◌+◌, ◌<◌, ◌≤◌, List, length, get_or, set, Some, refl, sym, ◌∙◌, ap, subst, arith, inl, inr, ◌⊎◌, Bool, true, false}
use Rattle.std.specs.Prelude.{slice_get}
use Rattle.std.proofs.lemmas.Bool.{cases_lt, cases_eq}
use Rattle.std.proofs.lemmas.List.{length-set, get_or-set_same, get_or-set_other}
use Rattle.pa_rules.specs.declared.played.Played.{Played}
use Rattle.pa_rules.specs.Order.{IsOfLine, StandsBefore}
use Rattle.pa_rules.specs.RecordDemands.{ComesInOrder}
use Rattle.pa_audit_heap.specs.declared.order.Order.{Order}
use Rattle.pa_audit_heap.specs.Ordered.{AreOfThreads16, IsTheRecord, IsBehind, entered_by, Admits, IsAmong, HasSeen}
use Rattle.pa_lists.proofs.Indexed.{one_at, none_past}
use Rattle.pa_lists.proofs.Tests.{met_more}

-- what is among the first lines is among more
among_more : (ps : List Played) (lines : List ℕ) (j : ℕ) (x : Played) → IsAmong ps lines j x → IsAmong ps lines (j + 1) x
among_more ps lines j x h = let k = h.below in record { index = h.index; line = h.line; below = omega arith; at = h.at; holds = h.holds }

among_cases : (ps : List Played) (lines : List ℕ) (j n : ℕ) (x : Played) → slice_get lines j ≡ Some n → IsAmong ps lines (j + 1) x →
    IsAmong ps lines j x ⊎ IsOfLine ps n x
among_cases ps lines j n x at h = elim (cases_lt h.index j) [
  | inl less ↦ inl (record { index = h.index; line = h.line; below = less; at = h.at; holds = h.holds })
  | inr more ↦
      let k = h.below in
      let e : h.index ≡ j = omega arith in
      let same = one_at lines j h.line n (subst (λ i. slice_get lines i ≡ Some h.line) e h.at) at in
      inr (subst (λ m. IsOfLine ps m x) same h.holds)
]

-- a line of no record
pub order_skips : (ps : List Played) (lines : List ℕ) (j n : ℕ) (o : Order) → HasSeen ps lines j o → slice_get lines j ≡ Some n →
    ((x : Played) → IsOfLine ps n x → ⊥)
    → HasSeen ps lines (j + 1) o
order_skips ps lines j n o h at none = record {
  threads = h.threads;
  line = λ x among. elim (among_cases ps lines j n x at among) [ inl before ↦ h.line x before | inr here ↦ absurd (none x here) ];
  phase = λ x among. elim (among_cases ps lines j n x at among) [ inl before ↦ h.phase x before | inr here ↦ absurd (none x here) ];
  at_line = λ t. elim (h.at_line t) [
    | inl zero ↦ inl zero
    | inr (x, among, thread, line) ↦
        inr (x, among_more ps lines j x among, thread, line)
  ];
  at_phase = elim h.at_phase [ inl zero ↦ inl zero | inr (x, among, phase) ↦ inr (x, among_more ps lines j x among, phase) ];
}

-- a record that is after the last one
set_cases : (xs : List ℕ) (i t a : ℕ) → i < length xs →
    ((t ≡ i) × (get_or (set xs i a) t 0 ≡ a)) ⊎ ((t ≢ i) × (get_or (set xs i a) t 0 ≡ get_or xs t 0))
set_cases xs i t a within = elim (cases_eq t i) [
  | inl same ↦ inl (same, ap (λ k. get_or (set xs i a) k 0) same ∙ get_or-set_same xs i a 0 within)
  | inr other ↦ inr (other, get_or-set_other xs i t a 0 other)
]

pub order_enters : (ps : List Played) (lines : List ℕ) (j n : ℕ) (o : Order) (x : Played) → AreOfThreads16 ps →
    HasSeen ps lines j o → slice_get lines j ≡ Some n
    → IsTheRecord ps n (Some x) → IsBehind o x → HasSeen ps lines (j + 1) (entered_by x o)
order_enters ps lines j n o x few h at (is, one) behind =
    let threads = h.threads in
    let low = few x is.0 in
    let within : x.thread < length o.lines = omega arith in
    let itself : IsAmong ps lines (j + 1) x = record { index = j; line = n; below = omega arith; at = at; holds = is } in
    record {
      threads = length-set o.lines x.thread x.line ∙ h.threads;
      line = λ y among. elim (set_cases o.lines x.thread y.thread x.line within) [
        | inl (same, now) ↦ elim (among_cases ps lines j n y at among) [
          | inl before ↦
              let a = h.line y before in
              let b = behind.line in
              let c = ap (λ k. get_or o.lines k 0) same in
              omega arith
          | inr here ↦ let e = ap (λ (z : Played). z.line) (one y here) in omega arith
        ]
        | inr (other, now) ↦ elim (among_cases ps lines j n y at among) [
          | inl before ↦ let a = h.line y before in omega arith
          | inr here ↦ absurd (other (ap (λ (z : Played). z.thread) (one y here)))
        ]
      ];
      phase = λ y among. elim (among_cases ps lines j n y at among) [
        | inl before ↦
            let a = h.phase y before in
            let b = behind.phase in
            omega arith
        | inr here ↦ let e = ap (λ (z : Played). z.phase) (one y here) in omega arith
      ];
      at_line = λ t. elim (set_cases o.lines x.thread t x.line within) [
        | inl (same, now) ↦ inr (x, itself, sym same, sym now)
        | inr (other, now) ↦ elim (h.at_line t) [
          | inl zero ↦ inl (now ∙ zero)
          | inr (y, among, thread, line) ↦ inr (y, among_more ps lines j y among, thread, line ∙ sym now)
        ]
      ];
      at_phase = inr (x, itself, refl);
    }

-- an entry of a record after the last one comes in order, and so does one of no record
pub order_met : (ps : List Played) (lines : List ℕ) (j n : ℕ) (o : Order) (x : Played) → HasSeen ps lines j o → slice_get lines j ≡ Some n →
    IsTheRecord ps n (Some x) → IsBehind o x
    → ComesInOrder ps lines j
order_met ps lines j n o x h at (is, one) behind i m n' y z at' at'' less among is' among' is'' before =
    let same = one z (among', is'' ∙ one_at lines j n' n at'' at) in
    let there : IsAmong ps lines j y = record { index = i; line = m; below = less; at = at'; holds = (among, is') } in
    let a = h.line y there in
    let b = h.phase y there in
    let c = behind.line in
    let d = behind.phase in
    elim (subst (λ (w : Played). StandsBefore w y) same before) [
      | inl (thread, line) ↦ let e = ap (λ k. get_or o.lines k 0) thread in omega arith
      | inr phase ↦ omega arith
    ]

pub order_met_none : (ps : List Played) (lines : List ℕ) (j n : ℕ) → slice_get lines j ≡ Some n →
    ((x : Played) → IsOfLine ps n x → ⊥) → ComesInOrder ps lines j
order_met_none ps lines j n at none i m n' y z at' at'' less among is' among' is'' before =
    none z (among', is'' ∙ one_at lines j n' n at'' at)

-- an entry of a record that isn't after the last one doesn't come in order
pub order_unmet : (ps : List Played) (lines : List ℕ) (j n : ℕ) (o : Order) (x : Played) → HasSeen ps lines j o →
    slice_get lines j ≡ Some n → IsOfLine ps n x → (IsBehind o x → ⊥)
    → ComesInOrder ps lines j → ⊥
order_unmet ps lines j n o x h at is ahead met =
    let shown : (y : Played) → IsAmong ps lines j y → StandsBefore x y → ⊥ = λ y among before.
    met among.index among.line n y x among.at at among.below among.holds.0 among.holds.1 is.0 is.1 before in
    elim (cases_lt x.line (get_or o.lines x.thread 0)) [
      | inl less ↦ elim (h.at_line x.thread) [
        | inl zero ↦ omega arith
        | inr (y, among, thread, line) ↦ shown y among (inl (sym thread, omega arith))
      ]
      | inr more ↦ elim (cases_lt x.phase o.phase) [
        | inl less ↦ elim h.at_phase [
          | inl zero ↦ omega arith
          | inr (y, among, phase) ↦ shown y among (inr (omega arith))
        ]
        | inr high ↦ ahead (record { line = more; phase = high })
      ]
    ]

-- the first lines are seen, and each comes in order
pub record HasOrder (ps : List Played) (lines : List ℕ) (j : ℕ) (o : Order) : Type 0 where
  pub seen : HasSeen ps lines j o
  pub met : (i : ℕ) → i < j → ComesInOrder ps lines i

pub order_more : (ps : List Played) (lines : List ℕ) (j n : ℕ) (o after : Order) (b : Bool) → AreOfThreads16 ps →
    HasOrder ps lines j o → slice_get lines j ≡ Some n
    → b ≡ true → Admits ps n o after b → HasOrder ps lines (j + 1) after
order_more ps lines j n o after b few h at taken admits = elim (subst (Admits ps n o after) taken admits) [
  | inl (none, same) ↦ record {
    seen = subst (HasSeen ps lines (j + 1)) (sym same) (order_skips ps lines j n o h.seen at none);
    met = met_more (ComesInOrder ps lines) j h.met (order_met_none ps lines j n at none);
  }
  | inr (x, is, behind, same) ↦ record {
    seen = subst (HasSeen ps lines (j + 1)) (sym same) (order_enters ps lines j n o x few h.seen at is behind);
    met = met_more (ComesInOrder ps lines) j h.met (order_met ps lines j n o x h.seen at is behind);
  }
]

pub order_stops : (ps : List Played) (lines : List ℕ) (j n : ℕ) (o after : Order) (b : Bool) →
    HasOrder ps lines j o → slice_get lines j ≡ Some n
    → b ≡ false → Admits ps n o after b → ComesInOrder ps lines j → ⊥
order_stops ps lines j n o after b h at left admits =
    let (x, is, ahead) = subst (Admits ps n o after) left admits in
    order_unmet ps lines j n o x h.seen at is.0 ahead

pub order_past : (ps : List Played) (lines : List ℕ) (n : ℕ) → length lines ≤ n → ComesInOrder ps lines n
order_past ps lines n past i m k x y at at' less among is among' is' before = none_past lines n k past at'
