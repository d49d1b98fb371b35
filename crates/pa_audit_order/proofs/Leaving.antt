-- The greatest numbers that marked records left, slot by slot.
use Rattle.std.proofs.Common.{◌≡◌, ℕ, ◌<◌, ◌≤◌, Bool, true, List, get_or, set, length, Option, Some, None, refl, sym, ◌∙◌, ap, subst, arith, inl, inr}
use Rattle.std.specs.Prelude.{slice_get}
use Rattle.std.proofs.lemmas.Bool.{cases_eq}
use Rattle.std.specs.Option.{option_map}
use Rattle.pa_slot.specs.declared.word.SlotName.{SlotName}
use Rattle.pa_slot.specs.Run.{Mark}
use Rattle.pa_lists.proofs.Members.{of_some, not_some}
use Rattle.pa_lists.proofs.Indexed.{here_is}
use Rattle.pa_rules.specs.declared.played.Played.{Played}
use Rattle.pa_rules.specs.Played.{mark_of}
use Rattle.pa_rules.specs.Seen.{left_number}
use Rattle.pa_audit_records.specs.Keys.{word_key}
use Rattle.pa_audit_order.specs.declared.looks.Look.{Look}
use Rattle.pa_audit_order.specs.Looks.{look_by, Raises, AreLeft}
use Rattle.pa_audit_order.proofs.Cutting.{set_here, still_marked, was_marked}

pub left_quiet : (ps : List Played) (marked : List Bool) (f : ℕ → Option ℕ) (k : ℕ) (d : Played) → k < length ps
    → mark_of (get_or ps k d) ≡ None → AreLeft ps marked f → AreLeft ps (set marked k true) f
left_quiet ps marked f k d below none h = record {
  hit = λ q n at. let (i, x, m, is, here, tells, start, key, left) = h.hit q n at in
      (i, x, m, still_marked marked k i is, here, tells, start, key, left);
  whole = λ i x m is here tells. elim (cases_eq i k) [
    | inl same ↦
        let one : get_or ps k d ≡ x = of_some (get_or ps k d) x (sym (here_is ps k d below) ∙ ap (slice_get ps) (sym same) ∙ here) in
        absurd (not_some m (sym none ∙ ap mark_of one ∙ tells))
    | inr other ↦ h.whole i x m (was_marked marked k i other is) here tells
  ];
}

pub left_more : (ps : List Played) (marked : List Bool) (f g : ℕ → Option ℕ) (k : ℕ) (d : Played) (m : Mark) → k < length ps
    → k < length marked → mark_of (get_or ps k d) ≡ Some m → m.slot.start < 4294967296
    → Raises f g (word_key m.slot 0) (left_number m) → AreLeft ps marked f → AreLeft ps (set marked k true) g
left_more ps marked f g k d m below within tells start raises h = record {
  hit = λ q n at. elim (cases_eq q (word_key m.slot 0)) [
    | inl same ↦
        let number : raises.number ≡ n = of_some raises.number n (sym raises.here ∙ ap g (sym same) ∙ at) in
        elim raises.one [
          | inl mine ↦ (k, get_or ps k d, m, set_here marked k true within, here_is ps k d below, tells, start, sym same, sym mine ∙ number)
          | inr old ↦
              let (i, x, o, is, here, tells', start', key, left) = h.hit (word_key m.slot 0) raises.number old in
              (i, x, o, still_marked marked k i is, here, tells', start', key ∙ sym same, left ∙ number)
        ]
    | inr other ↦
        let (i, x, o, is, here, tells', start', key, left) = h.hit q n (sym (raises.other q other) ∙ at) in
        (i, x, o, still_marked marked k i is, here, tells', start', key, left)
  ];
  whole = λ i x o is here tells'. elim (cases_eq i k) [
    | inl same ↦
        let one : get_or ps k d ≡ x = of_some (get_or ps k d) x (sym (here_is ps k d below) ∙ ap (slice_get ps) (sym same) ∙ here) in
        let mark : m ≡ o = of_some m o (sym tells ∙ ap mark_of one ∙ tells') in
        subst (λ (z : Mark). (z.slot.start < 4294967296) × (n : ℕ) × (g (word_key z.slot 0) ≡ Some n) × (left_number z ≤ n)) mark
        (start, raises.number, raises.here, raises.most)
    | inr other ↦
        let (start', n, at, least) = h.whole i x o (was_marked marked k i other is) here tells' in
        elim (cases_eq (word_key o.slot 0) (word_key m.slot 0)) [
          | inl key ↦
              let up : n ≤ raises.number = raises.kept n (ap f (sym key) ∙ at) in
              (start', raises.number, ap g key ∙ raises.here, omega (arith, up, least))
          | inr apart ↦ (start', n, raises.other (word_key o.slot 0) apart ∙ at, least)
        ]
  ];
}

-- ---- what a record tells by numbers

pub look_told : (o : Option Mark) (l : Look) → Some l ≡ option_map look_by o → (m : Mark) × (o ≡ Some m) × (l ≡ look_by m)
look_told None l e = absurd (not_some l (sym e))
look_told (Some m) l e = (m, refl, of_some l (look_by m) e)

pub look_none : (o : Option Mark) → None ≡ option_map look_by o → o ≡ None
look_none None e = refl
look_none (Some m) e = absurd (not_some (look_by m) e)

pub left_looked : (ps : List Played) (marked : List Bool) (f g : ℕ → Option ℕ) (k q : ℕ) (d : Played) (l : Look) → k < length ps
    → k < length marked → Some l ≡ option_map look_by (mark_of (get_or ps k d))
    → l.slot.start < 4294967296 → q ≡ word_key l.slot 0 → Raises f g q l.left → AreLeft ps marked f → AreLeft ps (set marked k true) g
left_looked ps marked f g k q d l below within tells start key raises h =
    let (m, is, same) = look_told (mark_of (get_or ps k d)) l tells in
    let slot = ap (λ (z : Look). z.slot) same in
    let low : m.slot.start < 4294967296 = subst (λ (z : SlotName). z.start < 4294967296) slot start in
    let at : q ≡ word_key m.slot 0 = key ∙ ap (λ z. word_key z 0) slot in
    let left = ap (λ (z : Look). z.left) same in
    left_more ps marked f g k d m below within is low
    (subst (λ z. Raises f g z (left_number m)) at (subst (λ z. Raises f g q z) left raises)) h

pub left_unlooked : (ps : List Played) (marked : List Bool) (f : ℕ → Option ℕ) (k : ℕ) (d : Played) → k < length ps
    → None ≡ option_map look_by (mark_of (get_or ps k d)) → AreLeft ps marked f → AreLeft ps (set marked k true) f
left_unlooked ps marked f k d below tells h = left_quiet ps marked f k d below (look_none (mark_of (get_or ps k d)) tells) h
