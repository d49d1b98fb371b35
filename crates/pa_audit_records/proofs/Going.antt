-- The words of the slots along the records: if each record finds its slot's word, each slot has one run.
use Rattle.std.proofs.Common.{◌≡◌, ℕ, zero, suc, ◌+◌, ◌<◌, ◌≤◌, List, [], ◌∷◌, ◌++◌, take, get_or, length, Option, Some, None, refl, sym, ◌∙◌, ap, subst, arith, inl, inr, append-nil}
use Rattle.std.specs.Prelude.{slice_get, Contains}
use Rattle.std.specs.List.{cons_option}
use Rattle.std.specs.Option.{unwrap_or}
use Rattle.std.proofs.lemmas.Bool.{cases_lt, cond_below, cond_above}
use Rattle.std.proofs.lemmas.List.{take_all, take_more}
use Rattle.std.proofs.lemmas.List.Elements.{filter_map-append}
use Rattle.pa_slot.specs.declared.word.SlotName.{SlotName}
use Rattle.pa_slot.specs.declared.word.Step.{Step}
use Rattle.pa_slot.specs.Run.{Mark, Slots}
use Rattle.pa_slot.specs.Runs.{HasRuns}
use Rattle.pa_slot.proofs.Runs.{runs_none, runs_same, runs_look, runs_step, slots_of_runs}
use Rattle.pa_lists.proofs.Members.{not_some}
use Rattle.pa_rules.specs.declared.played.Played.{Played}
use Rattle.pa_rules.specs.declared.verdict.Place.TheVariants as places
use Rattle.pa_rules.specs.Played.{mark_of, marks_of}
use Rattle.pa_rules.specs.RecordDemands.{IsRecord, SlotsDemand}
use Rattle.pa_rules.specs.Rising.{RiseByLine}
use Rattle.pa_rules.proofs.Running.{mark_from}
use Rattle.pa_rules.proofs.Phases.{mark_in}
use Rattle.pa_rules.proofs.Marking.{mark_line}
use Rattle.pa_rules.proofs.Rising.{rises}
use Rattle.pa_lists.proofs.Indexed.{at_in, in_at, here_is}
use Rattle.pa_audit_records.specs.Along.{word_by, LeadsOn}
use Rattle.pa_audit_records.specs.Keys.{name_key}

-- ---- the word of a slot in a table

word_within : (f : ℕ → Option ℕ) (s : SlotName) → s.start < 4294967296 → word_by f s ≡ unwrap_or (f (name_key s)) 0
word_within f s within = sym (cond_below s.start 4294967296 (unwrap_or (f (name_key s)) 0) 0 within)

word_past : (f : ℕ → Option ℕ) (s : SlotName) → 4294967296 ≤ s.start → word_by f s ≡ 0
word_past f s past = sym (cond_above s.start 4294967296 (unwrap_or (f (name_key s)) 0) 0 0 past refl)

word_none : (f : ℕ → Option ℕ) → ((q : ℕ) → f q ≡ None) → (s : SlotName) → word_by f s ≡ 0
word_none f none s = elim (cases_lt s.start 4294967296) [
  | inl within ↦ word_within f s within ∙ ap (λ o. unwrap_or o 0) (none (name_key s))
  | inr past ↦ word_past f s past
]

-- ---- the marks of the records so far

taken : {A : Type 0} (xs : List A) (n j : ℕ) (x : A) → slice_get (take n xs) j ≡ Some x → (j < n) × (slice_get xs j ≡ Some x)
taken [] zero j x at = absurd (not_some x at)
taken [] (suc n) j x at = absurd (not_some x at)
taken (y ∷ ys) zero j x at = absurd (not_some x at)
taken (y ∷ ys) (suc n) zero x at = (omega arith, at)
taken (y ∷ ys) (suc n) (suc j) x at = let (less, there) = taken ys n j x at in (omega (arith, less), there)

lines_before : (ps : List Played) (i : ℕ) (x : Played) (m : Mark) → RiseByLine ps → IsRecord ps i x → mark_of x ≡ Some m → (k : Mark) →
    Contains (marks_of (take i ps)) k → k.line < m.line
lines_before ps i x m rising here is k among =
    let (y, member, is') = mark_from (take i ps) k among in
    let (j, at) = in_at (take i ps) y member in
    let (less, at') = taken ps i j y at in
    let line : y.line < x.line = rises ps j i y x rising at' here less in
    omega (arith, line, mark_line x m is, mark_line y k is')

marks_more : (ps : List Played) (i : ℕ) (d : Played) (o : Option Mark) → i < length ps → mark_of (get_or ps i d) ≡ o →
    marks_of (take (i + 1) ps) ≡ marks_of (take i ps) ++ cons_option o []
marks_more ps i d o below is =
    ap marks_of (take_more ps i d below) ∙ filter_map-append mark_of (take i ps) (get_or ps i d ∷ []) ∙
    ap (λ z. marks_of (take i ps) ++ cons_option z []) is

-- ---- the walk along the records

-- each slot has one run so far, which ends at this word
abbrev pub RunsTo : List Played → ℕ → (SlotName → ℕ) → Type 0
RunsTo ps i word = HasRuns (marks_of (take i ps)) word

pub along_start : (ps : List Played) (f : ℕ → Option ℕ) → ((q : ℕ) → f q ≡ None) → RunsTo ps 0 (word_by f)
along_start ps f none = runs_none (word_by f) (word_none f none)

pub along_told : (ps : List Played) (before after : SlotName → ℕ) (i : ℕ) (d : Played) (m : Mark) → RiseByLine ps → i < length ps
    → mark_of (get_or ps i d) ≡ Some m → LeadsOn before after m.slot m.found m.step → RunsTo ps i before →
    RunsTo ps (i + 1) after
along_told ps before after i d m rising below is goes h =
    subst (λ ms. HasRuns ms after) (sym (marks_more ps i d (Some m) below is)) (go m.step refl goes)
  where
    early : (k : Mark) → Contains (marks_of (take i ps)) k → k.line < m.line
    early = lines_before ps i (get_or ps i d) m rising (here_is ps i d below) is

    go : (o : Option Step) → m.step ≡ o → LeadsOn before after m.slot m.found o → HasRuns (marks_of (take i ps) ++ m ∷ []) after
    go None e (found, same) =
        runs_same (marks_of (take i ps) ++ m ∷ []) before after same (runs_look (marks_of (take i ps)) m before early found e h)
    go (Some p) e (found, can, next, other) = runs_step (marks_of (take i ps)) m p before after early found e can next other h

pub along_quiet : (ps : List Played) (word : SlotName → ℕ) (i : ℕ) (d : Played) → i < length ps → mark_of (get_or ps i d) ≡ None →
    RunsTo ps i word → RunsTo ps (i + 1) word
along_quiet ps word i d below is h =
    subst (λ ms. HasRuns ms word) (sym (marks_more ps i d None below is ∙ append-nil (marks_of (take i ps)))) h

pub along_end : (ps : List Played) (word : SlotName → ℕ) (i : ℕ) → length ps ≤ i → RunsTo ps i word → Slots (marks_of ps)
along_end ps word i end h = slots_of_runs (marks_of ps) word (subst (λ qs. HasRuns (marks_of qs) word) (take_all i ps end) h)

-- what the clause of the slots asks of each record
pub slots_met : (ps : List Played) → Slots (marks_of ps) → (i : ℕ) → SlotsDemand ps (places.Record i)
slots_met ps slots i x m at is =
    let among = mark_in ps x m (at_in ps i x at) is in
    let (vs, run, one) = slots m.slot in
    (vs, run, one.found m among refl, λ p made. one.used m p among refl made)
