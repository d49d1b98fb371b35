-- The steps of a run in the order of its lines, record by record, and what a filter keeps of those of a record.
use Rattle.std.proofs.Common.{◌≡◌, ℕ, ◌≤◌, List, [], ◌∷◌, ◌++◌, map, length, Option, Some, None, refl, ◌∙◌, ap, arith, inl, inr}
use Rattle.std.specs.List.{cons_option, filter_map, flat_map, range_with_len}
use Rattle.std.proofs.lemmas.List.Elements.{filter_map-append}
use Rattle.pa_trace.specs.declared.script.Op.{Op}
use Rattle.pa_trace.specs.declared.script.Op.TheVariants as ops
use Rattle.pa_record.specs.declared.entry.Answer.{Answer}
use Rattle.pa_record.specs.declared.entry.Answer.TheVariants as answers
use Rattle.pa_record.specs.declared.root.RootAct.{RootAct}
use Rattle.pa_record.specs.Root.{asked_by}
use Rattle.pa_rules.specs.declared.played.Played.{Played}
use Rattle.pa_rules.specs.Registers.{usable_in}
use Rattle.pa_rules.specs.Roots.{Journals}
use Rattle.pa_rules.specs.Caches.{acts_of}
use Rattle.pa_timeline.specs.Timeline.{Part, Asking, Entering, Looking, Spoiling, Counting, Moment, asking_before, act_parts, entry_parts, done_parts, answer_parts, due_parts, IsTouch}
use Rattle.pa_one_run.specs.Parts.{Parts}
use Rattle.pa_ordered_runs.proofs.Pieces.{filter_map_flat, filter_map_map, filter_map_none, flat_same, flat_none}

-- ---- record by record

abbrev pub moment : Played → Part → Moment
moment x part = record { x = x; part = part }

abbrev pub steps_in : Parts → Played → List Part
steps_in a x = due_parts (usable_in a.ps) a.partitions a.roots x

abbrev pub moments_at : Parts → Played → List Moment
moments_at a x = map (moment x) (steps_in a x)

abbrev pub line_by_line : Parts → List Played → List Moment
line_by_line a ps = flat_map (moments_at a) ps

-- ---- what is kept of entries

pub entries_kept : {B : Type 0} (f : Part → Option B) (partitions : ℕ) (roots : Journals) (line : ℕ) →
    filter_map f (entry_parts partitions roots line)
    ≡ flat_map (λ p. flat_map (λ act. filter_map f (act_parts p act)) (acts_of roots line p)) (range_with_len 0 partitions)
entries_kept f partitions roots line =
    filter_map_flat f (λ p. flat_map (act_parts p) (acts_of roots line p)) (range_with_len 0 partitions)
    ∙ flat_same (λ p. filter_map f (flat_map (act_parts p) (acts_of roots line p)))
    (λ p. flat_map (λ act. filter_map f (act_parts p act)) (acts_of roots line p)) (range_with_len 0 partitions)
    (λ p among. filter_map_flat f (act_parts p) (acts_of roots line p))

entry_none : {B : Type 0} (f : Part → Option B) (p : ℕ) (act : RootAct) → f Asking ≡ None → f (Entering p act) ≡ None → (o : Option ℕ) →
    filter_map f (asking_before o (Entering p act ∷ [])) ≡ []
entry_none f p act asks enters None = rw enters refl
entry_none f p act asks enters (Some j) = rw (asks, enters) refl

pub no_entries : {B : Type 0} (f : Part → Option B) (partitions : ℕ) (roots : Journals) (line : ℕ) → f Asking ≡ None →
    ((p : ℕ) (act : RootAct) → f (Entering p act) ≡ None) → filter_map f (entry_parts partitions roots line) ≡ []
no_entries f partitions roots line asks enters =
    entries_kept f partitions roots line
    ∙ flat_none (λ p. flat_map (λ act. filter_map f (act_parts p act)) (acts_of roots line p)) (range_with_len 0 partitions)
    (λ p among. flat_none (λ act. filter_map f (act_parts p act)) (acts_of roots line p)
    (λ act there. entry_none f p act asks (enters p act) (asked_by act)))

-- ---- what is kept of an answer's steps

pub made_kept : {B : Type 0} (f : Part → Option B) (entries : List Part) →
    filter_map f (entries ++ Counting ∷ []) ≡ filter_map f entries ++ cons_option (f Counting) []
made_kept f entries = filter_map-append f entries (Counting ∷ [])

pub free_kept : {B : Type 0} (f : Part → Option B) (words reg : ℕ) (entries : List Part) →
    filter_map f (done_parts words (ops.Free reg) entries)
    ≡ filter_map (λ word. f (Spoiling word)) (range_with_len 0 words) ++ cons_option (f Counting) (filter_map f entries)
free_kept f words reg entries =
    filter_map-append f (map Spoiling (range_with_len 0 words)) (Counting ∷ entries)
    ∙ ap (λ ys. ys ++ cons_option (f Counting) (filter_map f entries)) (filter_map_map f Spoiling (range_with_len 0 words))

pub done_kept : {B : Type 0} (f : Part → Option B) (words : ℕ) (op : Op) (entries : List Part) → ((word : ℕ) → f (Spoiling word) ≡ None) →
    filter_map f (done_parts words op entries) ≡ cons_option (f Counting) (filter_map f entries)
done_kept f words (ops.Free reg) entries none =
    free_kept f words reg entries
    ∙ ap (λ ys. ys ++ cons_option (f Counting) (filter_map f entries))
    (filter_map_none (λ word. f (Spoiling word)) (range_with_len 0 words) (λ word among. none word))
done_kept f words op entries none = refl

-- ---- a record touches its slot once

abbrev pub touching : Part → Option ℕ
touching Looking = Some 0
touching Counting = Some 0
touching part = None

touches : (partitions : ℕ) (roots : Journals) (line words : ℕ) (op : Op) (answer : Answer) →
    length (filter_map touching (answer_parts words op (entry_parts partitions roots line) answer)) ≤ 1
touches partitions roots line words op (answers.Made seen usable) =
    let entries = entry_parts partitions roots line in
    let none = no_entries touching partitions roots line refl (λ p act. refl) in
    let one = ap length (made_kept touching entries ∙ ap (λ ys. ys ++ 0 ∷ []) none) in
    omega arith
touches partitions roots line words op (answers.Done seen) =
    let entries = entry_parts partitions roots line in
    let none = no_entries touching partitions roots line refl (λ p act. refl) in
    let one = ap length (done_kept touching words op entries (λ word. refl) ∙ ap (λ ys. 0 ∷ ys) none) in
    omega arith
touches partitions roots line words op (answers.Full entry) =
    let none = ap length (no_entries touching partitions roots line refl (λ p act. refl)) in
    omega arith
touches partitions roots line words op (answers.Purged slots) =
    let none = ap length (no_entries touching partitions roots line refl (λ p act. refl)) in
    omega arith
touches partitions roots line words op (answers.SecondFree None) = omega arith
touches partitions roots line words op (answers.SecondFree (Some seen)) = omega arith
touches partitions roots line words op (answers.StaleUse None) = omega arith
touches partitions roots line words op (answers.StaleUse (Some seen)) = omega arith
touches partitions roots line words op answer = omega arith

one_kept : (xs ys : List ℕ) (y : ℕ) → length (xs ++ y ∷ ys) ≤ 1 → xs ≡ []
one_kept [] ys y few = refl
one_kept (x ∷ []) ys y few = absurd (omega arith)
one_kept (x ∷ z ∷ xs) ys y few = absurd (omega arith)

touch_is : (part : Part) → IsTouch part → touching part ≡ Some 0
touch_is part (inl e) = ap touching e
touch_is part (inr e) = ap touching e

-- before its touch a record has no other touch
pub first_touch : (a : Parts) (x : Played) (us vs : List Part) (part : Part) → steps_in a x ≡ us ++ part ∷ vs → IsTouch part →
    filter_map touching us ≡ []
first_touch a x us vs part cut touch =
    let parted = filter_map-append touching us (part ∷ vs) in
    let here : cons_option (touching part) (filter_map touching vs) ≡ 0 ∷ filter_map touching vs =
    ap (λ o. cons_option o (filter_map touching vs)) (touch_is part touch) in
    let kept : filter_map touching (steps_in a x) ≡ filter_map touching us ++ 0 ∷ filter_map touching vs =
    ap (filter_map touching) cut ∙ parted ∙ ap (λ ys. filter_map touching us ++ ys) here in
    let count = ap length kept in
    let few : length (filter_map touching (steps_in a x)) ≤ 1 = touches a.partitions a.roots x.line _ x.op x.answer in
    one_kept (filter_map touching us) (filter_map touching vs) 0 (omega arith)
