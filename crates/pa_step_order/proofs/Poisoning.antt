-- Each free has its poisonings among the moments, word by word and before its counted step. Each other record has none.
use Rattle.std.proofs.Common.{◌≡◌, ℕ, zero, suc, ◌+◌, eqb, true, false, List, [], ◌∷◌, ◌++◌, map, length, take, Option, Some, None, refl, sym, ◌∙◌, ap, subst, arith, inl, inr, append_assoc, append-nil}
use Rattle.std.specs.Prelude.{Contains, AllPairs, find, option_map, option_and_then}
use Rattle.std.specs.List.{cons_option, filter_map, flat_map, range_with_len}
use Rattle.std.proofs.lemmas.Bool.{cases_Bool, true≢false, eq-eqb, ne_eqb}
use Rattle.std.proofs.lemmas.List.Elements.{filter_map-append}
use Rattle.pa_slot.specs.declared.title.Title.{Title}
use Rattle.pa_slot.specs.declared.word.Step.TheVariants as steps
use Rattle.pa_slot.specs.Count.{number_of}
use Rattle.pa_slot.specs.Holdings.{one}
use Rattle.pa_slot.specs.Titles.{same_title, content_count}
use Rattle.pa_slot.proofs.Same.{title_self}
use Rattle.pa_record.specs.declared.root.RootAct.{RootAct}
use Rattle.pa_record.specs.Root.{asked_by}
use Rattle.pa_region.specs.declared.view.Entry.TheVariants.{Counted}
use Rattle.pa_region.specs.Order.{Stamped, OneStep, Logged, Spoiled, logged_among, is_free_of, spoiled, IsEntryInPlace, IsCountInPlace}
use Rattle.pa_region.proofs.Pieces.{found_title}
use Rattle.pa_lists.proofs.Elements.{in_middle}
use Rattle.pa_lists.proofs.Joined.{map_in, flat_cases}
use Rattle.pa_lists.proofs.Members.{first_in, later_in, in_cases, not_in_none, of_some}
use Rattle.pa_lists.proofs.Pairs.{pairs_head, pairs_tail}
use Rattle.pa_lists.proofs.Cuts.{none_cons, last_or_within, take_both}
use Rattle.pa_rules.specs.declared.played.Played.{Played}
use Rattle.pa_rules.specs.Roots.{Journals}
use Rattle.pa_rules.specs.Caches.{acts_of}
use Rattle.pa_logs.specs.Told.{ToldRecord, played_in}
use Rattle.pa_logs.specs.Touches.{title_of, StepMade, step_by}
use Rattle.pa_timeline.specs.Timeline.{Part, Asking, Entering, Spoiling, Counting, Moment, asking_before, act_parts, entry_parts, parts_in}
use Rattle.pa_timeline.proofs.Kept.{none_or_some, kept_twice}
use Rattle.pa_timeline.proofs.Places.{part_on, parts_kept}
use Rattle.pa_timeline.proofs.Outlined.{part_stays}
use Rattle.pa_step_order.specs.Segments.{part_of}
use Rattle.pa_step_order.proofs.Named.{Named, named_in}
use Rattle.pa_step_order.proofs.Moments.{moment_of, one_played}
use Rattle.pa_step_order.proofs.Ordered.{OrderedRun}
use Rattle.pa_step_order.proofs.Laid.{stamped_of, back_at, front_at, first, spoiling, frees, piece, laid, in_place, never_spoils, logged_append, next_named}
use Rattle.pa_step_order.proofs.Owned.{free_entry, number_named, counts_front, counts_past}
use Rattle.pa_step_order.proofs.Belonging.{front_count, IsSpoil, spoil_at}

-- ---- parts

-- the word of a poisoning
abbrev pub word_of : Part → Option ℕ
word_of (Spoiling word) = Some word
word_of part = None

-- the second is no poisoning if the first is none
abbrev pub SpoilsFirst : Part → Part → Type 0
SpoilsFirst p q = (word : ℕ) → q ≡ Spoiling word → part_stays p ≡ None

all_plain : (ps : List Part) → ((q : Part) (word : ℕ) → Contains ps q → q ≡ Spoiling word → ⊥) → (filter_map word_of ps ≡ []) ×
    (filter_map part_stays ps ≡ ps)
all_plain [] none = (refl, refl)
all_plain (Spoiling word ∷ ps) none = absurd (none (Spoiling word) word (first_in (Spoiling word) ps) refl)
all_plain (p ∷ ps) none =
    let (words, rest) = all_plain ps (λ q word among. none q word (later_in p q ps among)) in
    (words, ap (λ z. p ∷ z) rest)

-- if the poisonings come first, parts are these and then the others
pub parts_split : (ps : List Part) → AllPairs SpoilsFirst ps → ps ≡ map Spoiling (filter_map word_of ps) ++ filter_map part_stays ps
parts_split [] pairs = refl
parts_split (Spoiling word ∷ ps) pairs = ap (λ z. Spoiling word ∷ z) (parts_split ps (pairs_tail SpoilsFirst (Spoiling word) ps pairs))
parts_split (p ∷ ps) pairs =
    let (words, rest) = all_plain ps (λ q word among is. let none = pairs_head SpoilsFirst p q ps pairs among word is in absurd cc) in
    sym (ap (λ z. map Spoiling z ++ p ∷ filter_map part_stays ps) words ∙ ap (λ z. p ∷ z) rest)

range_more : (a n : ℕ) → range_with_len a (suc n) ≡ range_with_len a n ++ (a + n) ∷ []
range_more a zero = ap (λ k. k ∷ []) (omega arith)
range_more a (suc n) = ap (λ z. a ∷ z) (range_more (a + 1) n ∙ ap (λ k. range_with_len (a + 1) n ++ k ∷ []) (omega arith))

-- no entry is a counted step
asked_uncounted : (p : ℕ) (act : RootAct) (o : Option ℕ) → Contains (asking_before o (Entering p act ∷ [])) Counting → ⊥
asked_uncounted p act None among =
    elim (in_cases (Entering p act) Counting [] among) [ inl e ↦ absurd cc | inr rest ↦ not_in_none Counting rest ]
asked_uncounted p act (Some j) among = elim (in_cases Asking Counting (Entering p act ∷ []) among) [
  | inl e ↦ absurd cc
  | inr later ↦ elim (in_cases (Entering p act) Counting [] later) [ inl e ↦ absurd cc | inr rest ↦ not_in_none Counting rest ]
]

pub entries_uncounted : (partitions : ℕ) (roots : Journals) (line : ℕ) → Contains (entry_parts partitions roots line) Counting → ⊥
entries_uncounted partitions roots line among =
    let (p, there, within) = flat_cases (λ p. flat_map (act_parts p) (acts_of roots line p)) (range_with_len 0 partitions) Counting among in
    let (act, of, inside) = flat_cases (act_parts p) (acts_of roots line p) Counting within in
    asked_uncounted p act (asked_by act) inside

-- ---- lists

pub logged_cut : (st : List OneStep) (A B : List Stamped) (m : Stamped) → logged_among st ≡ A ++ m ∷ B →
    (later : List OneStep) × (o : List OneStep) × (st ≡ later ++ Logged m ∷ o) × (logged_among o ≡ A)
logged_cut [] A B m e = absurd (none_cons A m B e)
logged_cut (Logged x ∷ o) A B m e = elim (last_or_within (logged_among o) x A m B e) [
  | inl (same, is) ↦ ([], o, ap (λ z. Logged z ∷ o) is, same)
  | inr (ws, within) ↦ let (later, o', cut, same) = logged_cut o A ws m within in (Logged x ∷ later, o', ap (λ z. Logged x ∷ z) cut, same)
]
logged_cut (Spoiled t word ∷ o) A B m e = let (later, o', cut, same) = logged_cut o A B m e in
    (Spoiled t word ∷ later, o', ap (λ z. Spoiled t word ∷ z) cut, same)

module _ (run : OrderedRun) where
  open run use {sizes, ts, told, rising, all, ns, are, roots, rule, order, agree, placed, closed}

  pub same_record : (n : Named) (x : Played) → Contains ns n → Contains (played_in ts) x → n.x.played.line ≡ x.line → n.x.played ≡ x
  same_record n x among of same =
      one_played ts all ns are roots rising n.x.played x
      (map_in (λ (z : ToldRecord). z.played) ts n.x (named_in ts all ns are n among).0) of same

  module _ (x : Played) (of : Contains (played_in ts) x) where
    abbrev pub spoilt : List Moment → List ℕ
    spoilt ms = filter_map (λ m. option_and_then word_of (part_on x.line m)) ms

    pub spoilt_parts : (ms : List Moment) → filter_map word_of (parts_in x.line ms) ≡ spoilt ms
    spoilt_parts ms = ap (filter_map word_of) (sym (parts_kept x.line ms)) ∙ kept_twice word_of (part_on x.line) ms

    spoilt_more : (ms : List Moment) (o : Option Moment) → spoilt (ms ++ cons_option o []) ≡ spoilt ms ++ spoilt (cons_option o [])
    spoilt_more ms o = filter_map-append (λ m. option_and_then word_of (part_on x.line m)) ms (cons_option o [])

    plain_word : (part : Part) → ((word : ℕ) → part ≡ Spoiling word → ⊥) → word_of part ≡ None
    plain_word (Spoiling word) plain = absurd (plain word refl)
    plain_word part plain = refl

    -- an entry adds none
    named_adds : (n : Named) → spoilt (cons_option (moment_of roots n) []) ≡ []
    named_adds n = elim (none_or_some (part_of roots n.x.played.answer n.entry)) [
      | inl none ↦ rw none refl
      | inr (part, is) ↦
          let plain = plain_word part (λ word e. never_spoils roots n.x.played.answer n.entry word (is ∙ ap Some e)) in
          elim (cases_Bool (eqb n.x.played.line x.line)) [
            | inl here ↦ rw (is, here, plain) refl
            | inr other ↦ rw (is, other) refl
          ]
    ]

    logged_adds : (later : List OneStep) (m : Stamped) (o : List OneStep) → order ≡ later ++ Logged m ∷ o →
        spoilt (laid roots ns (Logged m ∷ o)) ≡ spoilt (laid roots ns o)
    logged_adds later m o cut =
        let (n, next) = next_named ns order agree later m o cut in
        spoilt_more (laid roots ns o) (piece roots ns (Logged m) o)
        ∙ ap (λ z. spoilt (laid roots ns o) ++ spoilt (cons_option (option_and_then (moment_of roots) (first z)) [])) next.back
        ∙ ap (λ z. spoilt (laid roots ns o) ++ z) (named_adds n) ∙ append-nil (spoilt (laid roots ns o))

    spoiled_adds : (t : Title) (word : ℕ) (o : List OneStep) (f : Named) → find (frees t) (back_at ns o) ≡ Some f →
        spoilt (laid roots ns (Spoiled t word ∷ o)) ≡ spoilt (laid roots ns o) ++ spoilt (spoiling word f ∷ [])
    spoiled_adds t word o f is =
        spoilt_more (laid roots ns o) (piece roots ns (Spoiled t word) o)
        ∙ ap (λ z. spoilt (laid roots ns o) ++ spoilt (cons_option (option_map (spoiling word) z) [])) is

    adds_own : (word : ℕ) (f : Named) → f.x.played.line ≡ x.line → spoilt (spoiling word f ∷ []) ≡ word ∷ []
    adds_own word f here = rw (eq-eqb f.x.played.line x.line here) refl

    adds_none : (word : ℕ) (f : Named) → (f.x.played.line ≡ x.line → ⊥) → spoilt (spoiling word f ∷ []) ≡ []
    adds_none word f other = rw (ne_eqb f.x.played.line x.line other) refl

    spoiled_skips : (t : Title) (word : ℕ) (o : List OneStep) (f : Named) → find (frees t) (back_at ns o) ≡ Some f →
        (f.x.played.line ≡ x.line → ⊥) →
        spoilt (laid roots ns (Spoiled t word ∷ o)) ≡ spoilt (laid roots ns o)
    spoiled_skips t word o f is other =
        spoiled_adds t word o f is ∙ ap (λ z. spoilt (laid roots ns o) ++ z) (adds_none word f other) ∙
        append-nil (spoilt (laid roots ns o))

    -- the step of a free that a poisoning is of, if its line is this record's
    pub spoil_step : (t : Title) (o : List OneStep) (f : Named) (spoil : IsSpoil run t o f) → f.x.played.line ≡ x.line →
        step_by x ≡ Some spoil.d
    spoil_step t o f spoil here =
        ap step_by (sym (same_record f x (in_middle (front_at ns o ++ spoil.is.mid) spoil.is.rest ns f spoil.cut) of here)) ∙ spoil.of.is

    -- ---- a record that frees nothing

    pub none_spoilt : ((d : StepMade) → step_by x ≡ Some d → d.step ≡ steps.Free → ⊥) → (pre st : List OneStep) → order ≡ pre ++ st →
        spoilt (laid roots ns st) ≡ []
    none_spoilt other pre [] cut = refl
    none_spoilt other pre (Logged m ∷ o) cut =
        logged_adds pre m o cut ∙ none_spoilt other (pre ++ Logged m ∷ []) o (cut ∙ sym (append_assoc pre (Logged m ∷ []) o))
    none_spoilt other pre (Spoiled t word ∷ o) cut =
        let (f, spoil) = spoil_at run pre t word o cut in
        spoiled_skips t word o f spoil.is.found (λ here. other spoil.d (spoil_step t o f spoil here) (sym spoil.of.step_is))
        ∙ none_spoilt other (pre ++ Spoiled t word ∷ []) o (cut ∙ sym (append_assoc pre (Spoiled t word ∷ []) o))

    -- ---- a free

    module _ (d : StepMade) (is_d : step_by x ≡ Some d) (free_d : d.step ≡ steps.Free) (n : Named) (is_x : n.x.played ≡ x)
        (entry : n.entry ≡ Counted (title_of sizes d.slot) d.step d.found d.value)
        (a b : List Named) (parts : ns ≡ a ++ n ∷ b) where
      abbrev title : Title
      title = title_of sizes d.slot

      abbrev counts : List Named → ℕ
      counts xs = front_count run d.slot xs

      made_n : step_by n.x.played ≡ Some d
      made_n = ap step_by is_x ∙ is_d

      entry_free : n.entry ≡ Counted title steps.Free d.found d.value
      entry_free = entry ∙ ap (λ p. Counted title p d.found d.value) free_d

      number : number_of d.found ≡ counts a
      number = number_named sizes ts told all ns are roots rule a b n title d.step d.found d.value d parts entry made_n

      -- a poisoning of this record is of its title, and its free is at this place
      at_place : (t : Title) (o : List OneStep) (f : Named) (spoil : IsSpoil run t o f) → f.x.played.line ≡ x.line →
          (t ≡ title) × (counts a ≡ counts (front_at ns o ++ spoil.is.mid))
      at_place t o f spoil here =
          let one : spoil.d ≡ d = of_some spoil.d d (sym (spoil_step t o f spoil here) ∙ is_d) in
          let made : step_by f.x.played ≡ Some d = spoil.of.is ∙ ap Some one in (
            spoil.of.title ∙ ap (λ (z : StepMade). title_of sizes z.slot) one,
            sym number ∙ number_named sizes ts told all ns are roots rule
                (front_at ns o ++ spoil.is.mid) spoil.is.rest f t steps.Free spoil.found spoil.value d spoil.cut spoil.entry made,
          )

      module _ (later : List OneStep) (m : Stamped) (o : List OneStep) (cut : order ≡ later ++ Logged m ∷ o) (front_is : front_at ns o ≡ a)
          (back_is : back_at ns o ≡ n ∷ b)
          (stamp : stamped_of n ≡ m) where
        -- the steps after it have no poisoning of it
        after_none : (more : List OneStep) (pre : List OneStep) → order ≡ pre ++ (more ++ Logged m ∷ o) →
            spoilt (laid roots ns (more ++ Logged m ∷ o)) ≡ spoilt (laid roots ns o)
        after_none [] pre at = logged_adds pre m o at
        after_none (Logged z ∷ more) pre at =
            logged_adds pre z (more ++ Logged m ∷ o) at ∙
            after_none more (pre ++ Logged z ∷ []) (at ∙ sym (append_assoc pre (Logged z ∷ []) (more ++ Logged m ∷ o)))
        after_none (Spoiled t word ∷ more) pre at =
            let st = more ++ Logged m ∷ o in
            let (f, spoil) = spoil_at run pre t word st at in
            let (next_n, next) = next_named ns order agree later m o cut in
            let heads : next_n ∷ back_at ns (Logged m ∷ o) ≡ n ∷ b = sym next.back ∙ back_is in
            let same : next_n ≡ n = cc in
            let front : front_at ns (Logged m ∷ o) ≡ a ++ n ∷ [] = next.front ∙ ap (λ z. front_at ns o ++ z ∷ []) same ∙
            ap (λ z. z ++ n ∷ []) front_is in
            let (c, grown) = take_both (logged_among (Logged m ∷ o)) (logged_among more) ns in
            let whole : front_at ns st ≡ (a ++ n ∷ []) ++ c = ap (λ z. take (length z) ns) (logged_append more (Logged m ∷ o)) ∙ grown ∙
            ap (λ z. z ++ c) front in
            spoiled_skips t word st f spoil.is.found (λ here.
            let place = (at_place t st f spoil here).1 in
            let past = counts_past sizes ts told all ns are roots d.slot a [] n title d.step d.found d.value d entry made_n refl in
            let up = counts_front sizes ts told all ns are roots d.slot (a ++ n ∷ []) c in
            let up' = counts_front sizes ts told all ns are roots d.slot (front_at ns st) spoil.is.mid in
            let same_front : counts (front_at ns st) ≡ counts ((a ++ n ∷ []) ++ c) = ap (λ z. counts z) whole in
            omega arith)
            ∙ after_none more (pre ++ Spoiled t word ∷ []) (at ∙ sym (append_assoc pre (Spoiled t word ∷ []) st))

        -- an entry before it isn't of its line, if it is a free of its title
        other_line : (c e : List Named) (g : Named) → a ≡ c ++ g ∷ e → frees title g ≡ true → g.x.played.line ≡ x.line → ⊥
        other_line c e g at free here =
            let (found, value, is) = free_entry title g.entry free in
            let whole : ns ≡ c ++ g ∷ (e ++ n ∷ b) = parts ∙ ap (λ z. z ++ n ∷ b) at ∙ append_assoc c (g ∷ e) (n ∷ b) in
            let made : step_by g.x.played ≡ Some d = ap step_by (same_record g x (in_middle c (e ++ n ∷ b) ns g whole) of here) ∙ is_d in
            let low = number_named sizes ts told all ns are roots rule c (e ++ n ∷ b) g title steps.Free found value d whole is made in
            let past = counts_past sizes ts told all ns are roots d.slot c e g title steps.Free found value d is made refl in
            let same : counts a ≡ counts (c ++ g ∷ e) = ap (λ z. counts z) at in
            let at_n = number in
            omega arith

        -- the steps before it have its poisonings since the title's last free
        record Before (st : List OneStep) : Type 0 where
          mine : find (frees title) (back_at ns st) ≡ Some n → spoilt (laid roots ns st) ≡ range_with_len 0 (spoiled title st)
          other : (g : Named) → find (frees title) (back_at ns st) ≡ Some g → (g.x.played.line ≡ x.line → ⊥) →
              spoilt (laid roots ns st) ≡ []

        before : (more st : List OneStep) → o ≡ more ++ st → Before st
        before more [] within = record { mine = λ is. refl; other = λ g is ne. refl }
        before more (Logged z ∷ st) within =
            let at : order ≡ (later ++ Logged m ∷ more) ++ Logged z ∷ st = cut ∙ ap (λ w. later ++ Logged m ∷ w) within ∙
            sym (append_assoc later (Logged m ∷ more) (Logged z ∷ st)) in
            let again = before (more ++ Logged z ∷ []) st (within ∙ sym (append_assoc more (Logged z ∷ []) st)) in
            let (g, next) = next_named ns order agree (later ++ Logged m ∷ more) z st at in
            let entry_g : g.entry ≡ z.entry = ap (λ (w : Stamped). w.entry) next.stamp in
            let adds = logged_adds (later ++ Logged m ∷ more) z st at in
            elim (cases_Bool (is_free_of title z.entry)) [
              | inl free ↦
                  let free_g : frees title g ≡ true = ap (is_free_of title) entry_g ∙ free in
                  let found : find (frees title) (back_at ns st) ≡ Some g = ap (find (frees title)) next.back ∙ rw free_g refl in
                  let (c, grown) = take_both (logged_among (Logged z ∷ st)) (logged_among more) ns in
                  let a_is : a ≡ front_at ns st ++ g ∷ c =
                  sym front_is ∙ ap (λ w. take (length w) ns) (ap logged_among within ∙ logged_append more (Logged z ∷ st)) ∙ grown ∙
                  ap (λ w. w ++ c) next.front
                  ∙ append_assoc (front_at ns st) (g ∷ []) c in
                  let none : spoilt (laid roots ns (Logged z ∷ st)) ≡ [] = adds ∙
                  again.other g found (other_line (front_at ns st) c g a_is free_g) in
                  let zero_spoiled : spoiled title (Logged z ∷ st) ≡ 0 = rw free refl in
                  record { mine = λ is. none ∙ ap (range_with_len 0) (sym zero_spoiled); other = λ h is ne. none }
              | inr kept ↦
                  let kept_g : frees title g ≡ false = ap (is_free_of title) entry_g ∙ kept in
                  let same : find (frees title) (back_at ns st) ≡ find (frees title) (back_at ns (Logged z ∷ st)) =
                  ap (find (frees title)) next.back ∙ rw kept_g refl in
                  let spoiled_same : spoiled title (Logged z ∷ st) ≡ spoiled title st = rw kept refl in
                  record {
                    mine = λ is. adds ∙ again.mine (same ∙ is) ∙ ap (range_with_len 0) (sym spoiled_same);
                    other = λ h is ne. adds ∙
                        again.other h (same ∙ is) ne;
                  }
            ]
        before more (Spoiled t word ∷ st) within =
            let at : order ≡ (later ++ Logged m ∷ more) ++ Spoiled t word ∷ st = cut ∙ ap (λ w. later ++ Logged m ∷ w) within ∙
            sym (append_assoc later (Logged m ∷ more) (Spoiled t word ∷ st)) in
            let again = before (more ++ Spoiled t word ∷ []) st (within ∙ sym (append_assoc more (Spoiled t word ∷ []) st)) in
            let (f, spoil) = spoil_at run (later ++ Logged m ∷ more) t word st at in
            let in_order = in_place order (later ++ Logged m ∷ more) (Spoiled t word) st at placed in
            elim (cases_Bool (same_title t title)) [
              | inl here ↦
                  let same : t ≡ title = found_title title t here in
                  let found : find (frees title) (back_at ns st) ≡ Some f = ap (λ u. find (frees u) (back_at ns st)) (sym same) ∙
                  spoil.is.found in
                  let word_is : spoiled title st ≡ word = ap (λ u. spoiled u st) (sym same) ∙ in_order.0 in
                  let one_more : spoiled title (Spoiled t word ∷ st) ≡ suc (spoiled title st) = let o' : one (same_title t title) ≡ 1 =
                  ap one here in omega arith in
                  record {
                    mine = λ is.
                        let f_is : f ≡ n = of_some f n (sym found ∙ is) in
                        let at_end : word ≡ 0 + spoiled title st = omega arith in
                        spoiled_adds t word st f spoil.is.found
                        ∙ ap (λ z. spoilt (laid roots ns st) ++ z)
                        (adds_own word f (ap (λ (z : Named). z.x.played.line) f_is ∙ ap (λ (z : Played). z.line) is_x))
                        ∙ ap (λ z. z ++ word ∷ []) (again.mine is) ∙ ap (λ k. range_with_len 0 (spoiled title st) ++ k ∷ []) at_end
                        ∙ sym (range_more 0 (spoiled title st)) ∙ ap (range_with_len 0) (sym one_more);
                    other = λ g is ne.
                        let f_is : f ≡ g = of_some f g (sym found ∙ is) in
                        spoiled_skips t word st f spoil.is.found (λ here. ne (sym (ap (λ (z : Named). z.x.played.line) f_is) ∙ here)) ∙
                        again.other g is ne;
                  }
              | inr apart ↦
                  let skips = spoiled_skips t word st f spoil.is.found
                  (λ here. true≢false (sym (ap (λ u. same_title u title) (at_place t st f spoil here).0 ∙ title_self title) ∙
                  apart)) in
                  let spoiled_same : spoiled title (Spoiled t word ∷ st) ≡ spoiled title st = let z : one (same_title t title) ≡ 0 =
                  ap one apart in omega arith in
                  record {
                    mine = λ is. skips ∙ again.mine is ∙ ap (range_with_len 0) (sym spoiled_same);
                    other = λ g is ne. skips ∙
                        again.other g is ne;
                  }
            ]

        pub all_words : spoilt (laid roots ns order) ≡ range_with_len 0 (content_count title)
        all_words =
            let free_n : frees title n ≡ true = ap (is_free_of title) entry_free ∙ rw (title_self title) refl in
            let found : find (frees title) (back_at ns o) ≡ Some n = ap (find (frees title)) back_is ∙ rw free_n refl in
            let entry_m : m.entry ≡ Counted title steps.Free d.found d.value = sym (ap (λ (z : Stamped). z.entry) stamp) ∙ entry_free in
            let count : IsCountInPlace steps.Free m.stake title o =
            subst (λ e. IsEntryInPlace m.stake e o) entry_m (in_place order later (Logged m) o cut placed) in
            ap (λ z. spoilt (laid roots ns z)) cut ∙ after_none later [] cut ∙ (before [] o refl).mine found ∙ ap (range_with_len 0) count.0
