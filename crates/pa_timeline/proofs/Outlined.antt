-- A timeline without the poisonings of content words is an outline.
use Rattle.std.proofs.Common.{◌≡◌, ℕ, Bool, false, cond, eqb, List, [], ◌∷◌, ◌++◌, map, Option, Some, None, refl, sym, ◌∙◌, ap, subst, arith, inl, inr}
use Rattle.std.specs.Prelude.{Contains, option_and_then}
use Rattle.std.specs.List.{filter_map, flat_map, range_with_len}
use Rattle.std.proofs.lemmas.Bool.{cases_Bool}
use Rattle.std.proofs.lemmas.List.Elements.{All-contains, filter_map-append}
use Rattle.pa_slot.specs.declared.word.SlotName.{SlotName}
use Rattle.pa_record.specs.declared.entry.Answer.{Answer}
use Rattle.pa_record.specs.declared.entry.Answer.TheVariants as answers
use Rattle.pa_record.specs.declared.root.RootAct.{RootAct}
use Rattle.pa_record.specs.Root.{asked_by}
use Rattle.pa_trace.specs.declared.script.Op.{Op}
use Rattle.pa_trace.specs.declared.script.Op.TheVariants as ops
use Rattle.pa_lists.proofs.Elements.{all_from_members}
use Rattle.pa_lists.proofs.Members.{of_some}
use Rattle.pa_rules.specs.declared.played.Played.{Played}
use Rattle.pa_rules.specs.Order.{StandsBefore}
use Rattle.pa_rules.specs.Played.{mark_of}
use Rattle.pa_rules.specs.Roots.{Journals}
use Rattle.pa_rules.specs.Caches.{acts_of}
use Rattle.pa_rules.specs.Registers.{usable_in}
use Rattle.pa_rules.specs.Told.{records_of}
use Rattle.pa_timeline.specs.Timeline.{Part, Asking, Entering, Swapping, Looking, Loading, Spoiling, Counting, Moment, asking_before, act_parts, entry_parts, done_parts, answer_parts, slot_words, parts_in, part_enters, part_asks, part_swaps, is_counted_on, counted_steps, TimelinesHaveOutlines}
use Rattle.pa_timeline.proofs.Kept.{none_or_some, kept_from, kept_cut, kept_pairs, kept_twice, kept_same, count_cons}
use Rattle.pa_timeline.proofs.Places.{moment, part_on, parts_kept}

-- ---- what stays

abbrev pub part_stays : Part → Option Part
part_stays (Spoiling word) = None
part_stays part = Some part

abbrev pub stays_of : Played → Part → Option Moment
stays_of x (Spoiling word) = None
stays_of x part = Some (moment x part)

abbrev pub stays : Moment → Option Moment
stays m = stays_of m.x m.part

-- a moment that stays is itself
pub stays_is : (x : Played) (part : Part) (n : Moment) → stays_of x part ≡ Some n → moment x part ≡ n
stays_is x (Spoiling word) n e = absurd cc
stays_is x part n e = of_some (moment x part) n e

-- what a filter keeps that drops poisonings
agrees : {B : Type 0} (f : Moment → Option B) → ((x : Played) (word : ℕ) → f (moment x (Spoiling word)) ≡ None) →
    (x : Played) (part : Part) →
    option_and_then f (stays_of x part) ≡ f (moment x part)
agrees f none x (Spoiling word) = sym (none x word)
agrees f none x part = refl

pub kept_of : {B : Type 0} (f : Moment → Option B) (ms : List Moment) → ((x : Played) (word : ℕ) → f (moment x (Spoiling word)) ≡ None) →
    filter_map f (filter_map stays ms) ≡ filter_map f ms
kept_of f ms none = kept_twice f stays ms ∙ kept_same (λ m. option_and_then f (stays m)) f ms (λ m among. agrees f none m.x m.part)

-- ---- the steps of a record

entry_stays : (p : ℕ) (act : RootAct) (o : Option ℕ) →
    filter_map part_stays (asking_before o (Entering p act ∷ [])) ≡ asking_before o (Entering p act ∷ [])
entry_stays p act None = refl
entry_stays p act (Some j) = refl

flat_stays : {X : Type 0} (f : X → List Part) (xs : List X) → ((x : X) → filter_map part_stays (f x) ≡ f x) →
    filter_map part_stays (flat_map f xs) ≡ flat_map f xs
flat_stays f [] each = refl
flat_stays f (x ∷ xs) each =
    filter_map-append part_stays (f x) (flat_map f xs) ∙ ap (λ ys. ys ++ filter_map part_stays (flat_map f xs)) (each x) ∙
    ap (λ ys. f x ++ ys) (flat_stays f xs each)

pub entries_stay : (partitions : ℕ) (roots : Journals) (line : ℕ) →
    filter_map part_stays (entry_parts partitions roots line) ≡ entry_parts partitions roots line
entries_stay partitions roots line =
    flat_stays (λ p. flat_map (act_parts p) (acts_of roots line p)) (range_with_len 0 partitions)
    (λ p. flat_stays (act_parts p) (acts_of roots line p) (λ act. entry_stays p act (asked_by act)))

poisonings_go : (words : List ℕ) → filter_map part_stays (map Spoiling words) ≡ []
poisonings_go [] = refl
poisonings_go (n ∷ words) = poisonings_go words

done_stays : (words : ℕ) (op : Op) (entries : List Part) → filter_map part_stays entries ≡ entries →
    filter_map part_stays (done_parts words op entries) ≡ done_parts 0 op entries
done_stays words (ops.Free reg) entries same =
    filter_map-append part_stays (map Spoiling (range_with_len 0 words)) (Counting ∷ entries)
    ∙ ap (λ ys. ys ++ Counting ∷ filter_map part_stays entries) (poisonings_go (range_with_len 0 words)) ∙ ap (λ ys. Counting ∷ ys) same
done_stays words op entries same = ap (λ ys. Counting ∷ ys) same

answer_stays : (words : ℕ) (op : Op) (entries : List Part) (answer : Answer) → filter_map part_stays entries ≡ entries →
    filter_map part_stays (answer_parts words op entries answer) ≡ answer_parts 0 op entries answer
answer_stays words op entries (answers.Made seen usable) same = filter_map-append part_stays entries (Counting ∷ []) ∙
    ap (λ ys. ys ++ Counting ∷ []) same
answer_stays words op entries (answers.Done seen) same = done_stays words op entries same
answer_stays words op entries (answers.SecondFree None) same = refl
answer_stays words op entries (answers.SecondFree (Some seen)) same = refl
answer_stays words op entries (answers.StaleUse None) same = refl
answer_stays words op entries (answers.StaleUse (Some seen)) same = refl
answer_stays words op entries (answers.Full entry) same = same
answer_stays words op entries (answers.Purged slots) same = same
answer_stays words op entries answer same = refl

-- those of a line
part_agrees : (line : ℕ) (x : Played) (part : Part) →
    option_and_then (part_on line) (stays_of x part) ≡ option_and_then part_stays (part_on line (moment x part))
part_agrees line x (Spoiling word) = elim (cases_Bool (eqb x.line line)) [ inl here ↦ rw here refl | inr other ↦ rw other refl ]
part_agrees line x Asking = elim (cases_Bool (eqb x.line line)) [ inl here ↦ rw here refl | inr other ↦ rw other refl ]
part_agrees line x (Entering p act) = elim (cases_Bool (eqb x.line line)) [ inl here ↦ rw here refl | inr other ↦ rw other refl ]
part_agrees line x Swapping = elim (cases_Bool (eqb x.line line)) [ inl here ↦ rw here refl | inr other ↦ rw other refl ]
part_agrees line x Looking = elim (cases_Bool (eqb x.line line)) [ inl here ↦ rw here refl | inr other ↦ rw other refl ]
part_agrees line x Loading = elim (cases_Bool (eqb x.line line)) [ inl here ↦ rw here refl | inr other ↦ rw other refl ]
part_agrees line x Counting = elim (cases_Bool (eqb x.line line)) [ inl here ↦ rw here refl | inr other ↦ rw other refl ]

pub parts_stay : (line : ℕ) (ms : List Moment) → parts_in line (filter_map stays ms) ≡ filter_map part_stays (parts_in line ms)
parts_stay line ms =
    sym (parts_kept line (filter_map stays ms)) ∙ kept_twice (part_on line) stays ms
    ∙ kept_same (λ m. option_and_then (part_on line) (stays m)) (λ m. option_and_then part_stays (part_on line m)) ms
    (λ m among. part_agrees line m.x m.part)
    ∙ sym (kept_twice part_stays (part_on line) ms) ∙ ap (filter_map part_stays) (parts_kept line ms)

-- ---- counted steps

not_counted : (s : SlotName) (x : Played) (part : Part) → stays_of x part ≡ None → is_counted_on s x part ≡ false
not_counted s x (Spoiling word) none = refl
not_counted s x part none = absurd cc

pub counts_stay : (s : SlotName) (ms : List Moment) → counted_steps s (filter_map stays ms) ≡ counted_steps s ms
counts_stay s [] = refl
counts_stay s (m ∷ ms) =
    let test : Moment → Bool = λ n. is_counted_on s n.x n.part in
    let again = counts_stay s ms in
    let a = count_cons test m ms in
    elim (none_or_some (stays m)) [
      | inl none ↦
          let here : cond {A = ℕ} (test m) 1 0 ≡ 0 = ap (λ b. cond {A = ℕ} b 1 0) (not_counted s m.x m.part none) in
          rw none (omega arith)
      | inr (n, is) ↦
          let b = count_cons test n (filter_map stays ms) in
          let same : cond {A = ℕ} (test m) 1 0 ≡ cond {A = ℕ} (test n) 1 0 =
          ap (λ k. cond {A = ℕ} (test k) 1 0) (stays_is m.x m.part n is) in
          rw is (omega arith)
    ]

-- a poisoning is no exchange
pub no_swap : (k line word : ℕ) (op : Op) → part_swaps k line op (Spoiling word) ≡ None
no_swap k line word (ops.Swap cell reg) = refl
no_swap k line word op = refl

-- ---- the law

pub timelines_have_outlines : TimelinesHaveOutlines
timelines_have_outlines t r (ms, timeline) =
    let o = timeline.ordered in
    let ps = records_of t r in (
      filter_map stays ms,
      record {
        whole = λ x among.
            parts_stay x.line ms ∙ ap (filter_map part_stays) (o.whole x among)
            ∙ answer_stays (slot_words (usable_in ps) (mark_of x)) x.op (entry_parts t.partitions r.roots x.line) x.answer
            (entries_stay t.partitions r.roots x.line);
        only = all_from_members (λ (m : Moment). Contains ps m.x) (filter_map stays ms) (λ m among.
            let (n, there, is) = kept_from stays ms m among in
            subst (λ (z : Moment). Contains ps z.x) (stays_is n.x n.part m is)
            (All-contains (λ (z : Moment). Contains ps z.x) ms n o.only there));
        in_order = kept_pairs stays (λ (m n : Moment). StandsBefore n.x m.x → ⊥) (λ (m n : Moment). StandsBefore n.x m.x → ⊥) ms o.in_order
            (λ a b u v first second apart is same.
            subst (λ (z : Moment). StandsBefore v.x z.x → ⊥) (stays_is a.x a.part u is)
            (subst (λ (z : Moment). StandsBefore z.x a.x → ⊥) (stays_is b.x b.part v same) apart));
        found = λ before after m k cut touch is.
            let (us, n, vs, parts, same, left) = kept_cut stays ms before after m cut in
            let whole : ms ≡ us ++ m ∷ vs = parts ∙ ap (λ z. us ++ z ∷ vs) (stays_is n.x n.part m same) in
            o.found us vs m k whole touch is ∙ sym (counts_stay k.slot us) ∙ ap (counted_steps k.slot) left;
        journals = λ p. kept_of (λ (m : Moment). part_enters p m.x.line m.part) ms (λ x word. refl) ∙ o.journals p;
        pool = kept_of (λ (m : Moment). part_asks m.x.line m.part) ms (λ x word. refl) ∙ o.pool;
        exchanges = λ k. kept_of (λ (m : Moment). part_swaps k m.x.line m.x.op m.part) ms (λ x word. no_swap k x.line word x.op) ∙
            o.exchanges k;
      },
    )
