-- The tables of the records that filled a slot, of those that made it and of those that freed it, by slot and number.
use Rattle.std.proofs.Common.{◌≡◌, ℕ, ◌+◌, ◌<◌, false, List, ◌∷◌, get_or, length, Option, Some, None, refl, sym, ◌∙◌, ap, subst, arith, inl, inr}
use Rattle.std.specs.Prelude.{slice_get, Contains}
use Rattle.std.specs.Ordering.{nat_cmp, is_eq}
use Rattle.std.specs.Cmp.{nat_cmp_is}
use Rattle.std.specs.declared.cmp.Ordering.TheVariants.{Less, Greater}
use Rattle.std.proofs.lemmas.Bool.{cases_lt, cases_eq}
use Rattle.pa_slot.specs.declared.word.SlotName.{SlotName}
use Rattle.pa_slot.specs.declared.word.Step.{Step}
use Rattle.pa_slot.specs.declared.word.Step.TheVariants as steps
use Rattle.pa_slot.specs.Count.{number_of}
use Rattle.pa_slot.specs.Run.{Mark, IsFirstAt, IsRunFrom}
use Rattle.pa_trace.specs.declared.script.Op.{Op}
use Rattle.pa_trace.specs.declared.script.Op.TheVariants as ops
use Rattle.pa_record.specs.declared.entry.Seen.{Seen}
use Rattle.pa_record.specs.declared.entry.Answer.{Answer}
use Rattle.pa_record.specs.declared.entry.Answer.TheVariants.{Made, Done}
use Rattle.pa_lists.proofs.Members.{of_some, not_some}
use Rattle.pa_lists.proofs.Indexed.{here_is}
use Rattle.pa_rules.specs.declared.played.Played.{Played}
use Rattle.pa_rules.specs.declared.verdict.Place.TheVariants as places
use Rattle.pa_rules.specs.Played.{mark_of_answer, mark_at, marks_of}
use Rattle.pa_rules.specs.RecordDemands.{IsRecord, SlotsDemand}
use Rattle.pa_rules.proofs.Marking.{mark_line}
use Rattle.pa_rules.proofs.Running.{one_mark, marks_differ, same_word}
use Rattle.pa_verdict.proofs.Runs.{same_run}
use Rattle.pa_audit_records.specs.Keys.{word_key}
use Rattle.pa_audit_records.specs.Marks.{IsSized}
use Rattle.pa_rules.specs.Rising.{RiseByLine}
use Rattle.pa_audit_records.specs.Tables.{Puts}
use Rattle.pa_audit_records.proofs.Stepping.{same_place, records_differ}
use Rattle.pa_rules.proofs.Rising.{rises}
use Rattle.pa_audit_order.specs.declared.numbers.Kind.{Kind}
use Rattle.pa_audit_order.specs.declared.numbers.Kind.TheVariants.{Fill, Issue, Free}
use Rattle.pa_audit_order.specs.Numbers.{seen_by, DoesAt, IsOneAt, AreByNumber}

-- ---- a map that is ordered, after a key was set

keys_apart : (k q : ℕ) → (k ≡ q → ⊥) → is_eq (nat_cmp k q) ≡ false
keys_apart k q apart = elim (cases_lt k q) [
  | inl less ↦ ap is_eq (sym (nat_cmp_is k q Less less))
  | inr most ↦
      let more : q < k = elim (cases_lt q k) [
        | inl less ↦ less
        | inr least ↦ absurd (apart (omega (arith, most, least)))
      ] in
      ap is_eq (sym (nat_cmp_is k q Greater more))
]

pub put_key : (f g : ℕ → Option ℕ) (k v : ℕ) → g k ≡ Some v → ((q : ℕ) → is_eq (nat_cmp k q) ≡ false → g q ≡ f q) → Puts f g k v
put_key f g k v here other = record { here = here; other = λ q apart. other q (keys_apart k q (λ e. apart (sym e))) }

-- ---- an op that fills, makes or frees a slot makes a step

record IsMarked (line : ℕ) (op : Op) (answer : Answer) (seen : Seen) : Type 0 where
  mark : Mark
  is : mark_of_answer line op answer ≡ Some mark
  slot : mark.slot ≡ seen.slot
  found : mark.found ≡ seen.found.0
  step : Step
  made : mark.step ≡ Some step

marked : (line : ℕ) (op : Op) (answer : Answer) (a seen : Seen) (p : Step) →
    mark_of_answer line op answer ≡ Some (mark_at line a (Some p)) → a ≡ seen → IsMarked line op answer seen
marked line op answer a seen p is same = record {
  mark = mark_at line a (Some p);
  is = is;
  slot = ap (λ (z : Seen). z.slot) same;
  found = ap (λ (z : Seen). z.found.0) same;
  step = p;
  made = refl;
}

makes_step : (kind : Kind) (line : ℕ) (op : Op) (answer : Answer) (seen : Seen) →
    seen_by kind op answer ≡ Some seen → IsMarked line op answer seen
makes_step Fill line op (Made a usable) seen e = marked line op (Made a usable) a seen steps.Issue refl (of_some a seen e)
makes_step Fill line (ops.Write reg value) (Done a) seen e =
    marked line (ops.Write reg value) (Done a) a seen steps.Write refl (of_some a seen e)
makes_step Issue line op (Made a usable) seen e = marked line op (Made a usable) a seen steps.Issue refl (of_some a seen e)
makes_step Free line (ops.Free reg) (Done a) seen e = marked line (ops.Free reg) (Done a) a seen steps.Free refl (of_some a seen e)
makes_step kind line op answer seen e = absurd (not_some seen e)

-- ---- a slot has one step at each number

-- two records of one line are one
pub one_place : (ps : List Played) (i j : ℕ) (x y : Played) → RiseByLine ps → IsRecord ps i x → IsRecord ps j y → x.line ≡ y.line → i ≡ j
one_place ps i j x y rising at at' same = elim (cases_lt i j) [
  | inl less ↦ let later = rises ps i j x y rising at at' less in absurd (omega (arith, later, same))
  | inr most ↦ elim (cases_lt j i) [
    | inl less ↦ let later = rises ps j i y x rising at' at less in absurd (omega (arith, later, same))
    | inr least ↦ omega (arith, most, least)
  ]
]

-- what the clause of the slots says of a record that fills or frees slot s
record IsStepOf (ps : List Played) (x : Played) (s : SlotName) (n : ℕ) : Type 0 where
  mark : Mark
  step : Step
  line : mark.line ≡ x.line
  number : number_of mark.found ≡ n
  words : List ℕ
  run : IsRunFrom (marks_of ps) s 0 words
  among : Contains (0 ∷ words) mark.found
  first : IsFirstAt (marks_of ps) s mark.found mark step

step_of_slot : (kind : Kind) (ps : List Played) (i : ℕ) (x : Played) (s : SlotName) (n : ℕ) → SlotsDemand ps (places.Record i) →
    IsRecord ps i x → DoesAt kind x s n → IsStepOf ps x s n
step_of_slot kind ps i x s n slots at (seen, is, slot, number) =
    let a = makes_step kind x.line x.op x.answer seen is in
    let (vs, run, among, used) = slots x a.mark at a.is in
    let (first, can) = used a.step a.made in
    let same : a.mark.slot ≡ s = a.slot ∙ slot in
    record {
      mark = a.mark;
      step = a.step;
      line = mark_line x a.mark a.is;
      number = ap number_of a.found ∙ number;
      words = vs;
      run = subst (λ z. IsRunFrom (marks_of ps) z 0 vs) same run;
      among = among;
      first = subst (λ z. IsFirstAt (marks_of ps) z a.mark.found a.mark a.step) same first;
    }

pub one_at : (kind : Kind) (ps : List Played) → RiseByLine ps → ((i : ℕ) → SlotsDemand ps (places.Record i)) → IsOneAt kind ps
one_at kind ps rising slots i j x y s n at at' does does' =
    let ms = marks_of ps in
    let differ = marks_differ ps (records_differ ps rising) in
    let a = step_of_slot kind ps i x s n (slots i) at does in
    let b = step_of_slot kind ps j y s n (slots j) at' does' in
    let words : a.words ≡ b.words = same_run ms s 0 0 a.words b.words differ refl a.run b.run in
    let among : Contains (0 ∷ b.words) a.mark.found = subst (λ zs. Contains (0 ∷ zs) a.mark.found) words a.among in
    let word : a.mark.found ≡ b.mark.found =
    same_word ms s 0 b.words a.mark.found b.mark.found b.run among b.among (a.number ∙ sym b.number) in
    let first = subst (λ z. IsFirstAt ms s z a.mark a.step) word a.first in
    let mark : a.mark ≡ b.mark = one_mark ms s b.mark.found a.mark b.mark a.step b.step differ first b.first in
    one_place ps i j x y rising at at' (sym a.line ∙ ap (λ (z : Mark). z.line) mark ∙ b.line)

-- ---- the table

pub table_skip : (kind : Kind) (ps : List Played) (at : ℕ → Option ℕ) (k : ℕ) (d : Played) → k < length ps →
    seen_by kind (get_or ps k d).op (get_or ps k d).answer ≡ None → AreByNumber kind ps at k
    → AreByNumber kind ps at (k + 1)
table_skip kind ps at k d below none h = record {
  hit = λ q i is. let (x, s, n, less, here, does, key) = h.hit q i is in (x, s, n, omega (arith, less), here, does, key);
  whole = λ i x s n less is does. elim (cases_lt i k) [
    | inl early ↦ h.whole i x s n early is does
    | inr late ↦
        let same : k ≡ i = omega (arith, less, late) in
        let one : get_or ps k d ≡ x = of_some (get_or ps k d) x (sym (here_is ps k d below) ∙ ap (slice_get ps) same ∙ is) in
        absurd (not_some does.0 (sym none ∙ ap (λ (z : Played). seen_by kind z.op z.answer) one ∙ does.1))
  ];
}

pub table_put : (kind : Kind) (ps : List Played) (f g : ℕ → Option ℕ) (k : ℕ) (d : Played) (seen : Seen) → IsOneAt kind ps
    → k < length ps → seen_by kind (get_or ps k d).op (get_or ps k d).answer ≡ Some seen
    → IsSized seen.slot (number_of seen.found.0) → Puts f g (word_key seen.slot (number_of seen.found.0)) k →
    AreByNumber kind ps f k → AreByNumber kind ps g (k + 1)
table_put kind ps f g k d seen one below is sized puts h =
    let here = here_is ps k d below in
    let s = seen.slot in
    let n = number_of seen.found.0 in
    let mine : DoesAt kind (get_or ps k d) s n = (seen, is, refl, refl) in
    record {
      hit = λ q i at. elim (cases_eq q (word_key s n)) [
        | inl same ↦
            let index : k ≡ i = of_some k i (sym puts.here ∙ ap g (sym same) ∙ at) in
            (get_or ps k d, s, n, omega (arith, index), subst (λ z. IsRecord ps z (get_or ps k d)) index here, mine, sym same)
        | inr other ↦ let (x, t, m, less, there, does, key) = h.hit q i (sym (puts.other q other) ∙ at) in
            (x, t, m, omega (arith, less), there, does, key)
      ];
      whole = λ i x t m less there does. elim (cases_lt i k) [
        | inl early ↦
            let (start, low, old) = h.whole i x t m early there does in
            elim (cases_eq (word_key t m) (word_key s n)) [
              | inl same ↦
                  let (slot, number) = same_place t s m n (start, low) sized same in
                  let does' : DoesAt kind x s n = subst (λ z. DoesAt kind x s z) number (subst (λ z. DoesAt kind x z m) slot does) in
                  let index = one i k x (get_or ps k d) s n there here does' mine in
                  absurd (omega (arith, index, early))
              | inr other ↦ (start, low, puts.other (word_key t m) other ∙ old)
            ]
        | inr late ↦
            let index : k ≡ i = omega (arith, less, late) in
            let same : get_or ps k d ≡ x = of_some (get_or ps k d) x (sym here ∙ ap (slice_get ps) index ∙ there) in
            let (other, is', slot, number) = does in
            let seen' : seen ≡ other = of_some seen other (sym is ∙ ap (λ (z : Played). seen_by kind z.op z.answer) same ∙ is') in
            let to : s ≡ t = ap (λ (z : Seen). z.slot) seen' ∙ slot in
            let count : n ≡ m = ap (λ (z : Seen). number_of z.found.0) seen' ∙ number in
            let start : t.start < 4294967296 = subst (λ (z : SlotName). z.start < 4294967296) to sized.0 in
            let low : m < 18446744073709551616 = subst (λ z. z < 18446744073709551616) count sized.1 in
            let key : word_key t m ≡ word_key s n = sym (ap (λ z. word_key z n) to ∙ ap (word_key t) count) in
            (start, low, ap g key ∙ puts.here ∙ ap {B = Option ℕ} (λ z. Some z) index)
      ];
    }
