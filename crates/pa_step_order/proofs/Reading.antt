-- A read gives what the moments before it left, phase by phase too.
use Rattle.std.proofs.Common.{◌≡◌, ℕ, ◌+◌, ◌<◌, ◌≤◌, ◌&&◌, cond, leb, eqb, Bool, true, false, List, ◌∷◌, ◌++◌, Option, Some, None, ◌⊎◌, refl, sym, ◌∙◌, ap, subst, arith, inl, inr, append_assoc}
use Rattle.std.specs.Prelude.{Contains, AllPairs, option_map, option_and_then}
use Rattle.std.specs.List.{cons_option, filter_map}
use Rattle.std.proofs.lemmas.Bool.{cases_lt, cases_Bool, true≢false, eqb-true, eq-eqb, le-leb, leb-true}
use Rattle.std.proofs.lemmas.List.Elements.{filter_map-append}
use Rattle.pa_slot.specs.declared.word.SlotName.{SlotName}
use Rattle.pa_slot.specs.Count.{number_of}
use Rattle.pa_trace.specs.declared.script.Op.{Op}
use Rattle.pa_trace.specs.declared.script.Op.TheVariants as ops
use Rattle.pa_record.specs.declared.entry.Seen.{Seen}
use Rattle.pa_record.specs.declared.entry.Answer.{Answer}
use Rattle.pa_record.specs.declared.entry.Answer.TheVariants as answers
use Rattle.pa_lists.proofs.Elements.{in_middle}
use Rattle.pa_lists.proofs.Members.{first_in, not_some, of_some}
use Rattle.pa_lists.proofs.Parts.{pairs_across}
use Rattle.pa_lists.proofs.Cuts.{pairs_cuts}
use Rattle.pa_rules.specs.declared.played.Played.{Played}
use Rattle.pa_rules.specs.Played.{mark_of, mark_at, mark_of_answer}
use Rattle.pa_rules.specs.Flow.{IsInPhases}
use Rattle.pa_logs.specs.Touches.{StepMade, step_by}
use Rattle.pa_logs.proofs.StepMarks.{mark_made, step_mark}
use Rattle.pa_timeline.specs.Timeline.{Part, Loading, Counting, Moment, part_leaves, moment_leaves, content_after, is_of_slot, GivesAt}
use Rattle.pa_timeline.proofs.Kept.{kept_cut, kept_twice, kept_same}
use Rattle.pa_step_order.proofs.Sorting.{sorted, sorted_rises, sorted_kept, KeptRises, Rises}
use Rattle.pa_step_order.proofs.Moments.{phase_at}
use Rattle.pa_step_order.proofs.Contents.{last_of, content_is_last}
use Rattle.pa_step_order.proofs.Marked.{IsReadAfter, AreMarked, counts_more, change_is, change_place, none_within}

-- ---- what a read is

pub gives_read : (op : Op) (answer : Answer) (seen : Seen) (place value : ℕ) → GivesAt op answer seen place value →
    (reg : ℕ) × (op ≡ ops.Read reg place) × ((answer ≡ answers.Value seen value) ⊎ (answer ≡ answers.Dangling seen value))
gives_read (ops.Read reg word) answer seen place value (here, which) = (reg, ap (ops.Read reg) here, which)
gives_read op answer seen place value gives = absurd gives

pub read_marked : (x : Played) (seen : Seen) (place value : ℕ) → GivesAt x.op x.answer seen place value →
    mark_of x ≡ Some (mark_at x.line seen None)
read_marked x seen place value gives = elim (gives_read x.op x.answer seen place value gives).2 [
  | inl held ↦ ap (mark_of_answer x.line x.op) held
  | inr freed ↦ ap (mark_of_answer x.line x.op) freed
]

abbrev is_loading : Part → Bool
is_loading Loading = true
is_loading part = false

loads : (part : Part) → is_loading part ≡ true → part ≡ Loading
loads Loading is = refl
loads part is = absurd cc

-- a load changes nothing
load_leaves : (s : SlotName) (place : ℕ) (m : Moment) → m.part ≡ Loading → moment_leaves s place m ≡ None
load_leaves s place m is = elim (cases_Bool (is_of_slot s (mark_of m.x))) [
  | inl own ↦ rw own (ap (part_leaves place m.x) is)
  | inr other ↦ rw other refl
]

-- ---- the same by steps of a run

-- what is known of the records besides their moments
--   one_line: two records of one line are one
--   phases: a slot's numbers go with the phases
--   counts: each step that a record made is a moment
pub record IsRunOf (ps : List Played) (ms : List Moment) : Type 0 where
  pub one_line : (x y : Played) → Contains ps x → Contains ps y → x.line ≡ y.line → x ≡ y
  pub phases : IsInPhases ps
  pub counts : (y : Played) (d : StepMade) → Contains ps y → step_by y ≡ Some d → Contains ms (record { x = y; part = Counting })

module _ (ps : List Played) (ms : List Moment) (marked : AreMarked ps ms) (run : IsRunOf ps ms) where
  -- of steps in different phases that of the later phase found more
  pub sooner : (x y : Played) (d e : StepMade) → Contains ps x → Contains ps y → step_by x ≡ Some d → step_by y ≡ Some e → d.slot ≡ e.slot →
      x.phase < y.phase →
      number_of d.found + 1 ≤ number_of e.found
  sooner x y d e first second is other same less =
      let up = run.phases x y (mark_made x.line d) (mark_made y.line e) first second less (step_mark x.line x.op x.answer d is)
      (step_mark y.line y.op y.answer e other) same in
      omega arith

  -- ---- one read

  module _ (x : Played) (seen : Seen) (place value : ℕ) (reader : Contains ps x) (gives : GivesAt x.op x.answer seen place value) where
    abbrev here : SlotName
    here = seen.slot

    abbrev number : ℕ
    number = number_of seen.found.0

    abbrev leaves : Moment → Option ℕ
    leaves m = moment_leaves here place m

    -- what was changed up to its phase
    abbrev pub early : Moment → Option ℕ
    early m = cond (leb m.x.phase x.phase) (leaves m) None

    abbrev is_this : Moment → Bool
    is_this m = is_loading m.part && eqb m.x.line x.line

    -- such changes and the read itself
    abbrev pub sorts : Moment → Option (Option ℕ)
    sorts m = cond (is_this m) (Some None) (option_map Some (early m))

    -- a step of a later phase has no lower number
    pub later_step : (y : Played) (d : StepMade) → Contains ps y → step_by y ≡ Some d → d.slot ≡ here → x.phase < y.phase →
        number ≤ number_of d.found
    later_step y d there is slot less =
        let up = run.phases x y (mark_at x.line seen None) (mark_made y.line d) reader there less (read_marked x seen place value gives)
        (step_mark y.line y.op y.answer d is) (sym slot) in
        omega arith

    -- a step of an earlier phase than the read's left a number no greater than the one that the read found
    sooner_step : (y : Played) (d : StepMade) → Contains ps y → step_by y ≡ Some d → d.slot ≡ here → y.phase < x.phase →
        number_of d.found + 1 ≤ number
    sooner_step y d there is slot less =
        let up = run.phases y x (mark_made y.line d) (mark_at x.line seen None) there reader less (step_mark y.line y.op y.answer d is)
        (read_marked x seen place value gives) slot in
        omega arith

    pub early_is : (m : Moment) (v : ℕ) → early m ≡ Some v → (m.x.phase ≤ x.phase) × (leaves m ≡ Some v)
    early_is m v is = elim (cases_lt x.phase m.x.phase) [
      | inl late ↦ elim (cases_Bool (leb m.x.phase x.phase)) [
        | inl low ↦ let up = leb-true m.x.phase x.phase low in absurd (omega arith)
        | inr high ↦ absurd (not_some v (rw high at is))
      ]
      | inr low ↦ (low, rw (le-leb m.x.phase x.phase low) at is)
    ]

    pub early_some : (m : Moment) (v : ℕ) → m.x.phase ≤ x.phase → leaves m ≡ Some v → early m ≡ Some v
    early_some m v low is = rw (le-leb m.x.phase x.phase low) is

    this_is : (m : Moment) → Contains ms m → is_this m ≡ true → (m.part ≡ Loading) × (m.x ≡ x)
    this_is m among is = elim (cases_Bool (is_loading m.part)) [
      | inl load ↦ (loads m.part load, run.one_line m.x x (marked.members m among) reader (eqb-true m.x.line x.line (rw load at is)))
      | inr other ↦ absurd (true≢false (sym (rw other at is)))
    ]

    -- what is kept is the read, or an early change
    some_early : (o : Option ℕ) (u : Option ℕ) → option_map Some o ≡ Some u → (v : ℕ) × (o ≡ Some v) × (u ≡ Some v)
    some_early None u is = absurd cc
    some_early (Some v) u is = (v, refl, sym (of_some (Some v) u is))

    sorts_is : (m : Moment) (u : Option ℕ) → sorts m ≡ Some u → (is_this m ≡ true) ⊎ ((v : ℕ) × (early m ≡ Some v) × (u ≡ Some v))
    sorts_is m u is = elim (cases_Bool (is_this m)) [
      | inl this ↦ inl this
      | inr other ↦ inr (some_early (early m) u (rw other at is))
    ]

    gives_this : (m : Moment) → m.x ≡ x → GivesAt m.x.op m.x.answer seen place value
    gives_this m same = subst (λ (z : Played). GivesAt z.op z.answer seen place value) (sym same) gives

    -- ---- phases don't fall along these

    both_rise : (us ws ts : List Moment) (a b : Moment) → ms ≡ us ++ a ∷ (ws ++ b ∷ ts) → KeptRises phase_at sorts a b
    both_rise us ws ts a b cut u v is is' =
        let cut_b : ms ≡ (us ++ a ∷ ws) ++ b ∷ ts = cut ∙ sym (append_assoc us (a ∷ ws) (b ∷ ts)) in
        let a_in : Contains ms a = in_middle us (ws ++ b ∷ ts) ms a cut in
        let b_in : Contains ms b = in_middle (us ++ a ∷ ws) ts ms b cut_b in
        let more = counts_more here us (a ∷ ws) in
        elim (sorts_is b v is') [
          | inl b_this ↦
              let b_x = (this_is b b_in b_this).1 in
              let b_phase : b.x.phase ≡ x.phase = ap (λ (z : Played). z.phase) b_x in
              elim (sorts_is a u is) [
                | inl a_this ↦ let a_phase : a.x.phase ≡ x.phase = ap (λ (z : Played). z.phase) (this_is a a_in a_this).1 in omega arith
                | inr (w, kept, e) ↦ let low = (early_is a w kept).0 in omega arith
              ]
          | inr (w, kept, e) ↦
              let c = change_is ps ms marked here place (us ++ a ∷ ws) ts b w cut_b (early_is b w kept).1 in
              let behind = change_place ps ms marked here place (us ++ a ∷ ws) ts b w c cut_b in
              elim (sorts_is a u is) [
                | inl a_this ↦
                    let (load, a_x) = this_is a a_in a_this in
                    let a_phase : a.x.phase ≡ x.phase = ap (λ (z : Played). z.phase) a_x in
                    let read = marked.reads us (ws ++ b ∷ ts) a seen place value cut load (gives_this a a_x) in
                    let looked = read.looked in
                    elim (cases_lt b.x.phase x.phase) [
                      | inl less ↦ let low = sooner_step b.x c.d (marked.members b b_in) c.is c.slot less in absurd (omega arith)
                      | inr up ↦ omega arith
                    ]
                | inr (w', kept', e') ↦
                    let d = change_is ps ms marked here place us (ws ++ b ∷ ts) a w' cut (early_is a w' kept').1 in
                    let up = none_within ps ms marked here place us (ws ++ b ∷ ts) a w' d cut b.x c.d
                    (marked.members b b_in) c.is c.slot c.settles (omega arith) in
                    elim (cases_lt b.x.phase a.x.phase) [
                      | inl less ↦ let low = sooner b.x a.x c.d d.d (marked.members b b_in) (marked.members a a_in) c.is d.is
                          (c.slot ∙ sym d.slot) less in absurd (omega arith)
                      | inr rises ↦ rises
                    ]
              ]
        ]

    kept_sorted : filter_map sorts (sorted phase_at ms) ≡ filter_map sorts ms
    kept_sorted = sorted_kept phase_at sorts ms (pairs_cuts (KeptRises phase_at sorts) ms both_rise)

    -- ---- the read among them

    early_kept : (xs : List Moment) → filter_map (λ (o : Option ℕ). o) (filter_map sorts xs) ≡ filter_map early xs
    early_kept xs = kept_twice (λ (o : Option ℕ). o) sorts xs ∙
        kept_same (λ m. option_and_then (λ (o : Option ℕ). o) (sorts m)) early xs (λ m among. same m (cases_Bool (is_this m)))
      where
        back : (o : Option ℕ) → option_and_then (λ (u : Option ℕ). u) (option_map Some o) ≡ o
        back None = refl
        back (Some v) = refl

        nothing : (m : Moment) → leaves m ≡ None → early m ≡ None
        nothing m none = elim (cases_Bool (leb m.x.phase x.phase)) [ inl low ↦ rw low none | inr high ↦ rw high refl ]

        loading : (m : Moment) → is_this m ≡ true → is_loading m.part ≡ true
        loading m is = elim (cases_Bool (is_loading m.part)) [ inl load ↦ load | inr other ↦ absurd (true≢false (sym (rw other at is))) ]

        same : (m : Moment) → (is_this m ≡ true) ⊎ (is_this m ≡ false) → option_and_then (λ (o : Option ℕ). o) (sorts m) ≡ early m
        same m (inl this) = rw this (sym (nothing m (load_leaves here place m (loads m.part (loading m this)))))
        same m (inr other) = rw other (back (early m))

    -- what those of its phase or before left is what all that are before it left
    content_early : (before : List Moment) → ((m : Moment) → Contains before m → m.x.phase ≤ x.phase) →
        content_after here place 0 before ≡ last_of 0 (filter_map early before)
    content_early before low =
        content_is_last here place 0 before
        ∙ ap (last_of 0) (kept_same leaves early before
        (λ m among. sym (ap (λ b. cond b (leaves m) None) (le-leb m.x.phase x.phase (low m among)))))

    -- where the read is in the order of the logs, with what was changed before it
    pub found_read : (before after : List Moment) (m : Moment) → sorted phase_at ms ≡ before ++ m ∷ after → m.part ≡ Loading → m.x ≡ x →
        (us vs : List Moment) (r : Moment) → ms ≡ us ++ r ∷ vs → sorts r ≡ Some None → filter_map sorts us ≡ filter_map sorts before →
        content_after here place 0 before ≡ last_of 0 (filter_map early us)
    found_read before after m cut load is us vs r parts this same =
        let rises = sorted_rises phase_at ms in
        let e : m.x.phase ≡ x.phase = ap (λ (z : Played). z.phase) is in
        content_early before (λ n among. let up =
        pairs_across (Rises phase_at) before (m ∷ after) n m (subst (AllPairs (Rises phase_at)) cut rises) among (first_in m after) in
        omega arith)
        ∙ ap (last_of 0) (sym (early_kept before) ∙ ap (filter_map (λ (o : Option ℕ). o)) (sym same) ∙ early_kept us)

    pub cut_read : (before after : List Moment) (m : Moment) → sorted phase_at ms ≡ before ++ m ∷ after → m.part ≡ Loading → m.x ≡ x →
        (us vs : List Moment) × (r : Moment) × (ms ≡ us ++ r ∷ vs) × (sorts r ≡ Some None) × (filter_map sorts us ≡ filter_map sorts before)
    cut_read before after m cut load is =
        let line : eqb m.x.line x.line ≡ true = eq-eqb m.x.line x.line (ap (λ (z : Played). z.line) is) in
        let this : is_this m ≡ true = ap (λ p. is_loading p && eqb m.x.line x.line) load ∙ line in
        let sorts_m : sorts m ≡ Some None = ap (λ b. cond b (Some None) (option_map Some (early m))) this in
        let split : filter_map sorts (sorted phase_at ms) ≡ filter_map sorts before ++ None ∷ filter_map sorts after =
        ap (filter_map sorts) cut ∙ filter_map-append sorts before (m ∷ after) ∙
        ap (λ o. filter_map sorts before ++ cons_option o (filter_map sorts after)) sorts_m in
        let (us, r, vs, parts, same, left) =
        kept_cut sorts ms (filter_map sorts before) (filter_map sorts after) None (sym kept_sorted ∙ split) in
        (us, vs, r, parts, same, left)

    pub read_there : (us vs : List Moment) (r : Moment) → ms ≡ us ++ r ∷ vs → sorts r ≡ Some None → (r.part ≡ Loading) × (r.x ≡ x) ×
        IsReadAfter ps us seen place value
    read_there us vs r parts is = elim (sorts_is r None is) [
      | inl this ↦
          let (load, same) = this_is r (in_middle us vs ms r parts) this in
          (load, same, marked.reads us vs r seen place value parts load (gives_this r same))
      | inr (v, kept, e) ↦ absurd cc
    ]
