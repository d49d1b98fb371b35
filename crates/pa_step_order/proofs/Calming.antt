-- A read gives what the steps before it left, and nothing fills its slot between its look and the read.
use Rattle.std.proofs.Common.{◌≡◌, ℕ, ◌≤◌, eqb, Bool, true, List, [], ◌∷◌, ◌++◌, map, filter, Option, Some, None, refl, sym, ◌∙◌, ap, subst, arith, inl, inr, append_assoc}
use Rattle.std.specs.Prelude.{Contains, AllPairs, find, option_map}
use Rattle.std.specs.List.{cons_option}
use Rattle.std.proofs.lemmas.Bool.{cases_Bool, eq-eqb, ne_eqb}
use Rattle.std.proofs.lemmas.List.Elements.{filter-append, filter_map-append, Contains-append_cases, Contains-append_left, Contains-append_right}
use Rattle.std.proofs.lemmas.List.{map-append}
use Rattle.pa_slot.specs.declared.title.Title.{Title}
use Rattle.pa_slot.specs.declared.word.SlotName.{SlotName}
use Rattle.pa_slot.specs.declared.word.Step.{Step}
use Rattle.pa_slot.specs.declared.word.Step.TheVariants as steps
use Rattle.pa_slot.specs.Count.{number_of}
use Rattle.pa_trace.specs.declared.script.Op.TheVariants as ops
use Rattle.pa_record.specs.declared.entry.Seen.{Seen}
use Rattle.pa_record.specs.declared.entry.Answer.{Answer}
use Rattle.pa_region.specs.declared.view.Deeds.{Deeds}
use Rattle.pa_region.specs.declared.view.Entry.{Entry}
use Rattle.pa_region.specs.declared.view.Entry.TheVariants.{Counted, Looked, Read, Added, Entered, Uncut}
use Rattle.pa_region.specs.Order.{Stamped, by_stake, OneStep, Logged, Spoiled, logged_among, DoesNotFill, IsCalm, IsReadInPlace, IsEntryInPlace}
use Rattle.pa_region.specs.Pairs.{last_entry}
use Rattle.pa_region.proofs.OneRead.{quiet_handed}
use Rattle.pa_region.proofs.PairSums.{last_more}
use Rattle.pa_lists.proofs.Elements.{in_middle, in_one}
use Rattle.pa_lists.proofs.Joined.{map_cases, map_in, filter_cases, filter_in, filter_here}
use Rattle.pa_lists.proofs.Members.{first_in, later_in, in_cases, not_in_none, of_some, not_some}
use Rattle.pa_lists.proofs.Pairs.{pairs_head}
use Rattle.pa_lists.proofs.Parts.{parts_at, pairs_across, pairs_after}
use Rattle.pa_lists.proofs.Cuts.{none_cons, last_split, only_front, only_one}
use Rattle.pa_rules.specs.declared.played.Played.{Played}
use Rattle.pa_rules.specs.Played.{mark_at}
use Rattle.pa_rules.specs.Roots.{Journals}
use Rattle.pa_logs.specs.Told.{played_in}
use Rattle.pa_logs.specs.Touches.{title_of, StepMade, step_by, is_touch, touches, IsReadTold, IsToldBy}
use Rattle.pa_timeline.specs.Timeline.{Looking, Loading, Spoiling, Counting, Moment, GivesAt}
use Rattle.pa_timeline.proofs.Places.{moment}
use Rattle.pa_step_order.specs.Segments.{look_part, part_of}
use Rattle.pa_step_order.proofs.Looks.{look_looks, entered_is}
use Rattle.pa_step_order.proofs.Named.{Named, named_as, InLines, named_in, line_named, threads_rise}
use Rattle.pa_step_order.proofs.Moments.{moment_of, moments_in, moment_from}
use Rattle.pa_step_order.proofs.Found.{found_in_logs}
use Rattle.pa_step_order.proofs.Marked.{Fills, IsReadAfter}
use Rattle.pa_step_order.proofs.Reading.{gives_read, read_marked}
use Rattle.pa_step_order.proofs.Ordered.{OrderedRun}
use Rattle.pa_step_order.proofs.Laid.{stamped_of, back_at, front_at, spoiling, frees, piece, laid, cut_laid, in_place, parted, IsNext}
use Rattle.pa_step_order.proofs.Owned.{number_named, counts_front, counts_past, step_named}
use Rattle.pa_step_order.proofs.Filling.{content_laid}
use Rattle.pa_step_order.proofs.Belonging.{front_count, counts_laid, logged_at}

-- ---- entries

-- an entry that is a load of a content word is a read
loading_entry : (roots : Journals) (answer : Answer) (e : Entry) → part_of roots answer e ≡ Some Loading →
    (t : Title) × (place : ℕ) × (value : ℕ) × (since : Deeds) × (owned : Bool) × (unclean : Bool) ×
    (e ≡ Read t place value since owned unclean)
loading_entry roots answer (Counted t step found value) is = absurd (let both : Counting ≡ Loading = of_some Counting Loading is in cc)
loading_entry roots answer (Looked t found) is = absurd (let both = look_looks answer Loading is in cc)
loading_entry roots answer (Read t place value since owned unclean) is = (t, place, value, since, owned, unclean, refl)
loading_entry roots answer (Added total bytes) is = absurd (not_some Loading is)
loading_entry roots answer (Entered q made) is =
    absurd (entered_is (λ p. p ≡ Loading → ⊥) (λ e. cc) (λ e. cc) (λ k act e. cc) roots q made.numbers Loading is refl)
loading_entry roots answer (Uncut t) is = absurd (not_some Loading is)

-- ---- lists

stake_none : (k : ℕ) (B : List Stamped) → ((z : Stamped) → Contains B z → z.stake ≡ k → ⊥) → by_stake k B ≡ []
stake_none k [] none = refl
stake_none k (z ∷ B) none = rw (ne_eqb z.stake k (none z (first_in z B))) (stake_none k B (λ y among. none y (later_in z y B among)))

stake_last : (k : ℕ) (A B : List Stamped) (m : Stamped) → m.stake ≡ k → ((z : Stamped) → Contains B z → z.stake ≡ k → ⊥) →
    by_stake k (A ++ m ∷ B) ≡ by_stake k A ++ m.entry ∷ []
stake_last k [] B m mine none = rw (eq-eqb m.stake k mine) (ap (λ z. m.entry ∷ z) (stake_none k B none))
stake_last k (a ∷ A) B m mine none = elim (cases_Bool (eqb a.stake k)) [
  | inl here ↦ rw here (ap (λ z. a.entry ∷ z) (stake_last k A B m mine none))
  | inr other ↦ rw other (stake_last k A B m mine none)
]

-- since the last entry of a stake nothing filled the title, if it is calm
calm_none : (k : ℕ) (t : Title) (o : List OneStep) → IsCalm k t o → (A B : List Stamped) (m : Stamped) → logged_among o ≡ A ++ m ∷ B →
    ((z : Stamped) → Contains B z → z.stake ≡ k → ⊥) →
    (z : Stamped) → Contains B z → DoesNotFill t z.entry
calm_none k t [] calm A B m e none z among = absurd (none_cons A m B e)
calm_none k t (Logged x ∷ o) calm A B m e none z among = elim (last_split (logged_among o) x A m B e) [
  | inl empty ↦ absurd (not_in_none z (subst (λ zs. Contains zs z) empty among))
  | inr (ws, within, back) ↦ elim calm [
    | inl mine ↦ absurd (none x (in_middle ws [] B x back) mine)
    | inr (fills, rest) ↦ elim (Contains-append_cases ws (x ∷ []) z (subst (λ zs. Contains zs z) back among)) [
      | inl before ↦ calm_none k t o rest A ws m within
          (λ y there. none y (subst (λ zs. Contains zs y) (sym back) (Contains-append_left ws (x ∷ []) y there))) z before
      | inr here ↦ subst (λ (y : Stamped). DoesNotFill t y.entry) (in_one x z here) fills
    ]
  ]
]
calm_none k t (Spoiled u word ∷ o) calm A B m e none z among = calm_none k t o calm A B m e none z among

-- a step that fills a title does
fills_it : (t u : Title) (p : Step) (found value : ℕ) → Fills p → u ≡ t → DoesNotFill t (Counted u p found value) → ⊥
fills_it t u steps.Issue found value fills same none = none same
fills_it t u steps.Copy found value fills same none = fills
fills_it t u steps.Reset found value fills same none = fills
fills_it t u steps.Free found value fills same none = fills
fills_it t u steps.Write found value fills same none = none same

-- ---- the log segment of a read

-- the segment of a record that read, and the read in it
pub record IsReadOf (sizes : SlotName → ℕ) (n : Named) (seen : Seen) (place value : ℕ) : Type 0 where
  pub owned : Bool
  pub told : IsReadTold (title_of sizes seen.slot) place seen.found.0 value owned n.x.stretch
  pub entry : n.entry ≡ Read (title_of sizes seen.slot) place value told.since owned told.unclean
  pub looks : look_part n.x.played.answer ≡ Some Looking

no_touch : (rest : List Entry) (e : Entry) → touches rest ≡ [] → is_touch e ≡ true → Contains rest e → ⊥
no_touch rest e none is among = not_in_none e (subst (λ es. Contains es e) none (filter_in is_touch rest e among is))

module _ (run : OrderedRun) where
  open run use {sizes, ts, told, rising, all, ns, are, roots, rule, order, agree, placed, closed}

  same_place : (reg reg' place place' : ℕ) → ops.Read reg place ≡ ops.Read reg' place' → place' ≡ place
  same_place reg reg' place place' e = cc

  read_of : (n : Named) (seen : Seen) (place value : ℕ) → Contains ns n → part_of roots n.x.played.answer n.entry ≡ Some Loading →
      GivesAt n.x.played.op n.x.played.answer seen place value →
      IsReadOf sizes n seen place value
  read_of n seen place value among load gives =
      let (there, inside) = named_in ts all ns are n among in
      let (reg, op, which) = gives_read n.x.played.op n.x.played.answer seen place value gives in
      let its = told n.x there in
      elim which [
        | inl answer ↦
            let (reg', place', owned, op', is) = (subst (λ a. IsToldBy sizes n.x.played.op a n.x.stretch) answer its).1 in
            build inside owned (subst (λ p. IsReadTold (title_of sizes seen.slot) p seen.found.0 value owned n.x.stretch)
            (same_place reg reg' place place' (sym op ∙ op')) is) (ap look_part answer)
        | inr answer ↦
            let (reg', place', owned, op', is) = (subst (λ a. IsToldBy sizes n.x.played.op a n.x.stretch) answer its).1 in
            build inside owned (subst (λ p. IsReadTold (title_of sizes seen.slot) p seen.found.0 value owned n.x.stretch)
            (same_place reg reg' place place' (sym op ∙ op')) is) (ap look_part answer)
      ]
    where
      t : Title
      t = title_of sizes seen.slot

      which_entry : (owned : Bool) (is : IsReadTold (title_of sizes seen.slot) place seen.found.0 value owned n.x.stretch) →
          Contains n.x.stretch n.entry →
          n.entry ≡ Read (title_of sizes seen.slot) place value is.since owned is.unclean
      which_entry owned is inside =
          let (u, place', value', since, own, unclean, e) = loading_entry roots n.x.played.answer n.entry load in
          let look = Looked (title_of sizes seen.slot) seen.found.0 in
          let read = Read (title_of sizes seen.slot) place value is.since owned is.unclean in
          elim (in_cases look n.entry (read ∷ is.rest) (subst (λ es. Contains es n.entry) is.pair inside)) [
            | inl first ↦ absurd (let both = first ∙ e in cc)
            | inr later ↦ elim (in_cases read n.entry is.rest later) [
              | inl here ↦ sym here
              | inr rest ↦ absurd (no_touch is.rest n.entry is.none (ap is_touch e) rest)
            ]
          ]

      build : Contains n.x.stretch n.entry → (owned : Bool) →
          IsReadTold (title_of sizes seen.slot) place seen.found.0 value owned n.x.stretch → look_part n.x.played.answer ≡ Some Looking →
          IsReadOf sizes n seen place value
      build inside owned is looks = record { owned = owned; told = is; entry = which_entry owned is inside; looks = looks }

  -- ---- where its look is

  module _ (later : List OneStep) (st : Stamped) (o : List OneStep) (n : Named) (cut : order ≡ later ++ Logged st ∷ o)
      (next : IsNext ns order agree st o n) (seen : Seen) (place value : ℕ)
      (among : Contains ns n) (read : IsReadOf sizes n seen place value)
      (gives : GivesAt n.x.played.op n.x.played.answer seen place value) where
    abbrev here : SlotName
    here = seen.slot

    abbrev title : Title
    title = title_of sizes here

    abbrev front : List Named
    front = front_at ns o

    abbrev back : List Named
    back = back_at ns (Logged st ∷ o)

    abbrev look : Named
    look = named_as n.x (Looked title seen.found.0)

    abbrev on_line : Named → Bool
    on_line m = eqb m.x.played.line n.x.played.line

    stands : (a : List Named) × (b : List Named) × (front ≡ a ++ look ∷ b) × (filter on_line b ≡ [])
    stands =
        let (there, inside) = named_in ts all ns are n among in
        let mine : filter on_line ns ≡ map (named_as n.x) n.x.stretch = line_named ts all ns are rising n.x there in
        let self : filter on_line (n ∷ back) ≡ n ∷ filter on_line back =
        filter_here on_line n back (eq-eqb n.x.played.line n.x.played.line refl) in
        let parts : filter on_line front ++
        n ∷ filter on_line back ≡ look ∷ named_as n.x (Read title place value read.told.since read.owned read.told.unclean) ∷ map
        (named_as n.x) read.told.rest =
        sym (ap (filter on_line) next.whole ∙ filter-append on_line front (n ∷ back) ∙ ap (λ z. filter on_line front ++ z) self) ∙ mine ∙
        ap (map (named_as n.x)) read.told.pair in
        let one = only_front (filter on_line front) (filter on_line back) (map (named_as n.x) read.told.rest) n look
        (named_as n.x (Read title place value read.told.since read.owned read.told.unclean)) parts
        (λ e. let both = sym read.entry ∙ ap (λ (z : Named). z.entry) e in cc)
        (λ again. let (e, within, is) = map_cases (named_as n.x) read.told.rest n again in
        no_touch read.told.rest e read.told.none (ap is_touch (ap (λ (z : Named). z.entry) is ∙ read.entry)) within) in
        let in_front = (filter_cases on_line front look (subst (λ zs. Contains zs look) (sym one) (first_in look []))).0 in
        let (a, b, at) = parts_at front look in_front in
        let own = filter_here on_line look b (eq-eqb n.x.played.line n.x.played.line refl) in (
          a,
          b,
          at,
          only_one (filter on_line a) (filter on_line b) look
              (sym (ap (filter on_line) at ∙ filter-append on_line a (look ∷ b) ∙ ap (λ z. filter on_line a ++ z) own) ∙ one),
        )

    module _ (a b : List Named) (at : front ≡ a ++ look ∷ b) (none : filter on_line b ≡ []) where
      -- none of its thread is between the look and the read
      no_other : (m : Named) → Contains b m → m.x.played.thread ≡ n.x.played.thread → ⊥
      no_other m within same =
          let pairs = threads_rise ts all ns are rising in
          let R : Named → Named → Type 0 = λ u v. u.x.played.thread ≡ v.x.played.thread → InLines ts all ns are rising u v in
          let whole : ns ≡ a ++ look ∷ (b ++ n ∷ back) = next.whole ∙ ap (λ z. z ++ n ∷ back) at ∙ append_assoc a (look ∷ b) (n ∷ back) in
          let cut_pairs = subst (AllPairs R) whole pairs in
          let after = pairs_after R a (look ∷ (b ++ n ∷ back)) cut_pairs in
          let low = pairs_head R look m (b ++ n ∷ back) after (Contains-append_left b (n ∷ back) m within) (sym same) in
          let behind = subst (λ zs. Contains zs m) (sym at) (Contains-append_right a (look ∷ b) m (later_in look m b within)) in
          let high = pairs_across R front (n ∷ back) m n (subst (AllPairs R) next.whole pairs) behind (first_in n back) same in
          let line : m.x.played.line ≡ n.x.played.line = omega arith in
          not_in_none m (subst (λ zs. Contains zs m) none (filter_in on_line b m within (eq-eqb m.x.played.line n.x.played.line line)))

      stake : st.stake ≡ n.x.played.thread
      stake = sym (ap (λ (z : Stamped). z.stake) next.stamp)

      none_stamped : (z : Stamped) → Contains (map stamped_of b) z → z.stake ≡ st.stake → ⊥
      none_stamped z within mine =
          let (m, there, is) = map_cases stamped_of b z within in
          no_other m there (ap (λ (y : Stamped). y.stake) is ∙ mine ∙ stake)

      logged : logged_among o ≡ map stamped_of a ++ stamped_of look ∷ map stamped_of b
      logged =
          sym (parted ns order agree (later ++ Logged st ∷ []) o (cut ∙ sym (append_assoc later (Logged st ∷ []) o))).0
          ∙ ap (map stamped_of) at ∙ map-append stamped_of a (look ∷ b)

      in_its_place : IsReadInPlace st.stake title place value read.told.since read.told.unclean o
      in_its_place =
          let entry : st.entry ≡ Read title place value read.told.since read.owned read.told.unclean =
          sym (ap (λ (z : Stamped). z.entry) next.stamp) ∙ read.entry in
          subst (λ e. IsEntryInPlace st.stake e o) entry (in_place order later (Logged st) o cut placed)

      calm : IsCalm st.stake title o
      calm =
          let last : by_stake st.stake (logged_among o) ≡ by_stake st.stake (map stamped_of a) ++ Looked title seen.found.0 ∷ [] =
          ap (by_stake st.stake) logged ∙
          stake_last st.stake (map stamped_of a) (map stamped_of b) (stamped_of look) (sym stake) none_stamped in
          in_its_place.calm seen.found.0 (ap last_entry last ∙ last_more (by_stake st.stake (map stamped_of a)) (Looked title seen.found.0))
          (quiet_handed read.told.since read.told.quiet)

      -- ---- numbers

      abbrev counts : List Named → ℕ
      counts xs = front_count run here xs

      looks_at : number_of seen.found.0 ≡ counts a
      looks_at =
          let x = n.x.played in
          let rest = b ++ n ∷ back in
          let is : moment_of roots look ≡ Some (moment x Looking) = ap (option_map (moment x)) read.looks in
          let whole : ns ≡ a ++ look ∷ rest = next.whole ∙ ap (λ z. z ++ n ∷ back) at ∙ append_assoc a (look ∷ b) (n ∷ back) in
          let cut_look : moments_in roots ns ≡ moments_in roots a ++ moment x Looking ∷ moments_in roots rest =
          ap (moments_in roots) whole ∙ filter_map-append (moment_of roots) a (look ∷ rest) ∙
          ap (λ z. moments_in roots a ++ cons_option z (moments_in roots rest)) is in
          found_in_logs sizes ts told all ns are roots rule (moments_in roots a) (moments_in roots rest) (moment x Looking)
          (mark_at x.line seen None) cut_look (inl refl)
          (read_marked x seen place value gives)

      upto : counts a ≤ counts front
      upto = let more = counts_front sizes ts told all ns are roots here a (look ∷ b) in
          let same : counts front ≡ counts (a ++ look ∷ b) = ap (λ z. counts z) at in omega arith

      steady : (y : Played) (e : StepMade) → Contains (played_in ts) y → step_by y ≡ Some e → e.slot ≡ here → Fills e.step →
          number_of seen.found.0 ≤ number_of e.found →
          counts front ≤ number_of e.found
      steady y e of made slot fills high =
          let (m, there, same, entry) = step_named sizes ts told all ns are roots rising y e of made in
          let made_m : step_by m.x.played ≡ Some e = ap step_by same ∙ made in
          let u = title_of sizes e.slot in
          let looked = looks_at in
          elim (Contains-append_cases front (n ∷ back) m (subst (λ zs. Contains zs m) next.whole there)) [
            | inr behind ↦
                let (c, d, at') = parts_at (n ∷ back) m behind in
                let whole : ns ≡ (front ++ c) ++ m ∷ d = next.whole ∙ ap (λ z. front ++ z) at' ∙ sym (append_assoc front c (m ∷ d)) in
                let number = number_named sizes ts told all ns are roots rule
                (front ++ c) d m u e.step e.found e.value e whole entry made_m in
                let number' : number_of e.found ≡ counts (front ++ c) = number ∙ ap (λ s. front_count run s (front ++ c)) slot in
                let more = counts_front sizes ts told all ns are roots here front c in
                omega arith
            | inl before ↦ elim (Contains-append_cases a (look ∷ b) m (subst (λ zs. Contains zs m) at before)) [
              | inl early ↦
                  let (c, d, at') = parts_at a m early in
                  let whole : ns ≡ c ++ m ∷ (d ++ ((look ∷ b) ++ (n ∷ back))) =
                  next.whole ∙ ap (λ z. z ++ n ∷ back) (at ∙ ap (λ z. z ++ look ∷ b) at' ∙ append_assoc c (m ∷ d) (look ∷ b)) ∙
                  append_assoc c (m ∷ (d ++ look ∷ b)) (n ∷ back)
                  ∙ ap (λ z. c ++ m ∷ z) (append_assoc d (look ∷ b) (n ∷ back)) in
                  let number = number_named sizes ts told all ns are roots rule c
                  (d ++ ((look ∷ b) ++ (n ∷ back))) m u e.step e.found e.value e whole entry made_m in
                  let number' : number_of e.found ≡ counts c = number ∙ ap (λ s. front_count run s c) slot in
                  let past = counts_past sizes ts told all ns are roots here c d m u e.step e.found e.value e entry made_m slot in
                  let same_a : counts a ≡ counts (c ++ m ∷ d) = ap (λ z. counts z) at' in
                  absurd (omega arith)
              | inr after ↦ elim (in_cases look m b after) [
                | inl one ↦ absurd (let both = ap (λ (z : Named). z.entry) one ∙ entry in cc)
                | inr between ↦
                    let none_fills = calm_none st.stake title o calm (map stamped_of a) (map stamped_of b)
                    (stamped_of look) logged none_stamped (stamped_of m) (map_in stamped_of b m between) in
                    absurd (fills_it title u e.step e.found e.value fills (ap (title_of sizes) slot)
                    (subst (λ z. DoesNotFill title z) entry none_fills))
              ]
            ]
          ]

      pub is_after : IsReadAfter (played_in ts) (laid roots ns o) seen place value
      is_after =
          let pre : order ≡ (later ++ Logged st ∷ []) ++ o = cut ∙ sym (append_assoc later (Logged st ∷ []) o) in
          let same = counts_laid run here (later ++ Logged st ∷ []) o pre in
          let looked = looks_at in
          let up = upto in
          record {
            gave = in_its_place.right read.told.clean ∙
                sym (content_laid sizes ts told all ns are roots here place order agree placed closed (later ++ Logged st ∷ []) o pre);
            looked = omega arith;
            steady = λ y e of made slot fills high. let up' = steady y e of made slot fills high in omega arith;
          }

  pub reads : (us vs : List Moment) (m : Moment) (seen : Seen) (place value : ℕ) → laid roots ns order ≡ us ++ m ∷ vs → m.part ≡ Loading →
      GivesAt m.x.op m.x.answer seen place value →
      IsReadAfter (played_in ts) us seen place value
  reads us vs m seen place value cut load gives =
      let (later, s, older, parts, front, is) = cut_laid roots ns order us vs m cut in
      subst (λ z. IsReadAfter (played_in ts) z seen place value) (sym front) (by_step later s older parts is)
    where
      by_step : (later : List OneStep) (s : OneStep) (o : List OneStep) → order ≡ later ++ s ∷ o → piece roots ns s o ≡ Some m →
          IsReadAfter (played_in ts) (laid roots ns o) seen place value
      by_step later (Logged st) o parts is =
          let (n, l) = logged_at run later st o m parts is in
          let from = moment_from roots n m l.moment_is in
          let gives_n = subst (λ (z : Played). GivesAt z.op z.answer seen place value) from.0 gives in
          let read = read_of n seen place value l.among (from.1 ∙ ap Some load) gives_n in
          let (a, b, at, none) = stands later st o n parts l.next seen place value l.among read gives_n in
          is_after later st o n parts l.next seen place value l.among read gives_n a b at none
      by_step later (Spoiled t word) o parts is = absurd (no_load (find (frees t) (back_at ns o)) is)
        where
          no_load : (f : Option Named) → option_map (spoiling word) f ≡ Some m → ⊥
          no_load None e = not_some m e
          no_load (Some f) e = let both : Spoiling word ≡ Loading = ap (λ (z : Moment). z.part) (of_some (spoiling word f) m e) ∙ load in cc
