-- The moments of the order, poisonings among them, are such as a timeline needs: each finds its number, and each poisoning comes before
-- its free.
use Rattle.std.proofs.Common.{◌≡◌, ℕ, List, [], ◌∷◌, ◌++◌, length, take, Some, refl, sym, ◌∙◌, ap, subst, arith, inl, inr, append_assoc, append-nil}
use Rattle.std.specs.Prelude.{Contains, option_map, option_and_then}
use Rattle.std.proofs.Math.Seq.{take-append_seam}
use Rattle.std.proofs.lemmas.List.Elements.{Contains-append_cases}
use Rattle.pa_slot.specs.declared.title.Title.{Title}
use Rattle.pa_slot.specs.declared.word.SlotName.{SlotName}
use Rattle.pa_slot.specs.declared.word.Step.TheVariants as steps
use Rattle.pa_slot.specs.Count.{number_of}
use Rattle.pa_region.specs.declared.view.Entry.TheVariants.{Counted}
use Rattle.pa_region.specs.Order.{Stamped, OneStep, Logged, Spoiled, logged_among}
use Rattle.pa_lists.proofs.Elements.{in_middle, length_same}
use Rattle.pa_lists.proofs.Joined.{map_in}
use Rattle.pa_lists.proofs.Members.{in_cases, of_some}
use Rattle.pa_lists.proofs.Parts.{parts_at}
use Rattle.pa_logs.specs.Told.{ToldRecord, played_in}
use Rattle.pa_logs.specs.Touches.{title_of, StepMade, step_by}
use Rattle.pa_timeline.specs.Timeline.{Spoiling, Moment, counted_steps}
use Rattle.pa_timeline.proofs.Outlined.{counts_stay}
use Rattle.pa_step_order.proofs.Named.{Named, named_in}
use Rattle.pa_step_order.proofs.Moments.{moment_of, moments_in, moment_from}
use Rattle.pa_step_order.proofs.Found.{found_in_logs}
use Rattle.pa_step_order.proofs.Stays.{FindsItsNumber, found_stays}
use Rattle.pa_step_order.proofs.Marked.{IsBeforeFree}
use Rattle.pa_step_order.proofs.Ordered.{OrderedRun}
use Rattle.pa_step_order.proofs.Laid.{stamped_of, back_at, front_at, first, spoiling, piece, laid, cut_laid, never_spoils, parted, IsNext, next_named, laid_stays}
use Rattle.pa_step_order.proofs.Owned.{free_entry, IsFirstFree, owner, IsStepOf, step_of_entry, number_named, counts_front, counts_past, step_named}

module _ (run : OrderedRun) where
  open run use {sizes, ts, told, rising, all, ns, are, roots, rule, order, agree, placed, closed}

  abbrev pub front_count : SlotName → List Named → ℕ
  front_count s a = counted_steps s (moments_in roots a)

  -- as many counted steps as among the entries
  pub counts_laid : (s : SlotName) (pre st : List OneStep) → order ≡ pre ++ st →
      counted_steps s (laid roots ns st) ≡ front_count s (front_at ns st)
  counts_laid s pre st cut = sym (counts_stay s (laid roots ns st)) ∙ ap (counted_steps s) (laid_stays ns order agree roots pre st cut)

  pub front_all : front_at ns order ≡ ns
  front_all =
      ap (λ k. take k ns) (length_same stamped_of ns (logged_among order) agree) ∙ ap (take (length ns)) (sym (append-nil ns)) ∙
      take-append_seam ns []

  pub finds : FindsItsNumber (laid roots ns order)
  finds = found_stays (laid roots ns order)
      (subst FindsItsNumber (sym (laid_stays ns order agree roots [] order refl ∙ ap (moments_in roots) front_all))
      (λ us vs m k cut touch marked. found_in_logs sizes ts told all ns are roots rule us vs m k cut touch marked))

  -- ---- a poisoning

  -- a poisoning's owner, and what is before it
  pub record IsSpoil (t : Title) (o : List OneStep) (f : Named) : Type 0 where
    pub is : IsFirstFree t (back_at ns o) f
    pub d : StepMade
    pub found : ℕ
    pub value : ℕ
    pub entry : f.entry ≡ Counted t steps.Free found value
    pub of : IsStepOf sizes ts told all ns are roots f t steps.Free found value d
    pub cut : ns ≡ (front_at ns o ++ is.mid) ++ f ∷ is.rest

  pub spoil_at : (later : List OneStep) (t : Title) (word : ℕ) (o : List OneStep) → order ≡ later ++ Spoiled t word ∷ o → (f : Named) ×
      IsSpoil t o f
  spoil_at later t word o cut =
      let (f, is) = owner ns order agree placed closed later t word o cut in
      let (found, value, entry) = free_entry t f.entry is.is_free in
      let (said, whole) = parted ns order agree (later ++ Spoiled t word ∷ []) o (cut ∙ sym (append_assoc later (Spoiled t word ∷ []) o)) in
      let parts : ns ≡ (front_at ns o ++ is.mid) ++ f ∷ is.rest = whole ∙ ap (λ z. front_at ns o ++ z) is.parts ∙
      sym (append_assoc (front_at ns o) is.mid (f ∷ is.rest)) in
      let (d, of) = step_of_entry sizes ts told all ns are roots f t steps.Free found value
      (in_middle (front_at ns o ++ is.mid) is.rest ns f parts) entry in
      (f, record { is = is; d = d; found = found; value = value; entry = entry; of = of; cut = parts })

  before_free : (later : List OneStep) (t : Title) (word : ℕ) (o : List OneStep) (f : Named) → order ≡ later ++ Spoiled t word ∷ o →
      IsSpoil t o f →
      IsBeforeFree (played_in ts) (laid roots ns o) f.x.played
  before_free later t word o f cut spoil =
      let d = spoil.d in
      let s = d.slot in
      let front = front_at ns o in
      let mid = spoil.is.mid in
      let rest = spoil.is.rest in
      let here = counts_laid s (later ++ Spoiled t word ∷ []) o (cut ∙ sym (append_assoc later (Spoiled t word ∷ []) o)) in
      let number = number_named sizes ts told all ns are roots rule
      (front ++ mid) rest f t steps.Free spoil.found spoil.value d spoil.cut spoil.entry spoil.of.is in
      let more = counts_front sizes ts told all ns are roots s front mid in
      record {
        d = d;
        is = spoil.of.is;
        frees = sym spoil.of.step_is;
        before = omega arith;
        next = λ y e among made slot settles behind.
            let (n, there, same, entry) = step_named sizes ts told all ns are roots rising y e among made in
            let made_n : step_by n.x.played ≡ Some e = ap step_by same ∙ made in
            let title = title_of sizes e.slot in
            let cut' : ns ≡ front ++ (mid ++ f ∷ rest) = spoil.cut ∙ append_assoc front mid (f ∷ rest) in
            elim (Contains-append_cases front (mid ++ f ∷ rest) n (subst (λ zs. Contains zs n) cut' there)) [
              | inl in_front ↦
                  let (a, b, at) = parts_at front n in_front in
                  let whole : ns ≡ a ++ n ∷ (b ++ (mid ++ f ∷ rest)) = cut' ∙ ap (λ z. z ++ (mid ++ f ∷ rest)) at ∙
                  append_assoc a (n ∷ b) (mid ++ f ∷ rest) in
                  let low = number_named sizes ts told all ns are roots rule a
                  (b ++ (mid ++ f ∷ rest)) n title e.step e.found e.value e whole entry made_n in
                  let low' : number_of e.found ≡ front_count s a = low ∙ ap (λ z. front_count z a) slot in
                  let past = counts_past sizes ts told all ns are roots s a b n title e.step e.found e.value e entry made_n slot in
                  let same_front : front_count s front ≡ front_count s (a ++ n ∷ b) = ap (front_count s) at in
                  absurd (omega arith)
              | inr after ↦ elim (Contains-append_cases mid (f ∷ rest) n after) [
                | inl within ↦
                    let its : title ≡ t = ap (title_of sizes) slot ∙ sym spoil.of.title in
                    absurd (spoil.is.leave n within e.step e.found e.value (entry ∙ ap (λ u. Counted u e.step e.found e.value) its) settles)
                | inr at_free ↦ elim (in_cases f n rest at_free) [
                  | inl one ↦
                      let e_is : e ≡ d = of_some e d (sym made_n ∙ ap (λ (z : Named). step_by z.x.played) (sym one) ∙ spoil.of.is) in
                      let numbers : number_of e.found ≡ number_of d.found = ap (λ (z : StepMade). number_of z.found) e_is in
                      omega arith
                  | inr past_free ↦
                      let (a, b, at) = parts_at rest n past_free in
                      let head = front ++ mid in
                      let whole : ns ≡ (head ++ f ∷ a) ++ n ∷ b = spoil.cut ∙ ap (λ z. head ++ f ∷ z) at ∙
                      sym (append_assoc head (f ∷ a) (n ∷ b)) in
                      let high = number_named sizes ts told all ns are roots rule
                      (head ++ f ∷ a) b n title e.step e.found e.value e whole entry made_n in
                      let high' : number_of e.found ≡ front_count s (head ++ f ∷ a) = high ∙ ap (λ z. front_count z (head ++ f ∷ a)) slot in
                      let up = counts_front sizes ts told all ns are roots s head (f ∷ a) in
                      omega arith
                ]
              ]
            ];
      }

  -- ---- what a moment is

  -- the moment of an entry
  pub record IsLogged (later : List OneStep) (st : Stamped) (o : List OneStep) (n : Named) (m : Moment) : Type 0 where
    pub next : IsNext ns order agree st o n
    pub moment_is : moment_of roots n ≡ Some m
    pub among : Contains ns n

  pub logged_at : (later : List OneStep) (st : Stamped) (o : List OneStep) (m : Moment) → order ≡ later ++ Logged st ∷ o →
      piece roots ns (Logged st) o ≡ Some m → (n : Named) × IsLogged later st o n m
  logged_at later st o m cut is =
      let (n, next) = next_named ns order agree later st o cut in
      let among = in_middle (front_at ns o) (back_at ns (Logged st ∷ o)) ns n next.whole in
      (n, record { next = next; moment_is = sym (ap (λ z. option_and_then (moment_of roots) (first z)) next.back) ∙ is; among = among })

  pub spoils_piece : (later : List OneStep) (t : Title) (word : ℕ) (o : List OneStep) (f : Named) (m : Moment) → order ≡ later ++
      Spoiled t word ∷ o → IsSpoil t o f →
      piece roots ns (Spoiled t word) o ≡ Some m → spoiling word f ≡ m
  spoils_piece later t word o f m cut spoil is = of_some (spoiling word f) m (sym (ap (option_map (spoiling word)) spoil.is.found) ∙ is)

  pub members : (m : Moment) → Contains (laid roots ns order) m → Contains (played_in ts) m.x
  members m among =
      let (us, vs, cut) = parts_at (laid roots ns order) m among in
      let (later, s, older, parts, front, is) = cut_laid roots ns order us vs m cut in
      by_step later s older parts is
    where
      of_ns : (n : Named) → Contains ns n → Contains (played_in ts) n.x.played
      of_ns n there = map_in (λ (z : ToldRecord). z.played) ts n.x (named_in ts all ns are n there).0

      by_step : (later : List OneStep) (s : OneStep) (o : List OneStep) → order ≡ later ++ s ∷ o → piece roots ns s o ≡ Some m →
          Contains (played_in ts) m.x
      by_step later (Logged st) o parts is =
          let (n, l) = logged_at later st o m parts is in
          subst (λ z. Contains (played_in ts) z) (sym (moment_from roots n m l.moment_is).0) (of_ns n l.among)
      by_step later (Spoiled t word) o parts is =
          let (f, spoil) = spoil_at later t word o parts in
          let same = spoils_piece later t word o f m parts spoil is in
          subst (λ (z : Moment). Contains (played_in ts) z.x) same
          (of_ns f (in_middle (front_at ns o ++ spoil.is.mid) spoil.is.rest ns f spoil.cut))

  pub spoils : (us vs : List Moment) (m : Moment) (word : ℕ) → laid roots ns order ≡ us ++ m ∷ vs → m.part ≡ Spoiling word →
      IsBeforeFree (played_in ts) us m.x
  spoils us vs m word cut part =
      let (later, s, older, parts, front, is) = cut_laid roots ns order us vs m cut in
      subst (λ z. IsBeforeFree (played_in ts) z m.x) (sym front) (by_step later s older parts is)
    where
      by_step : (later : List OneStep) (s : OneStep) (o : List OneStep) → order ≡ later ++ s ∷ o → piece roots ns s o ≡ Some m →
          IsBeforeFree (played_in ts) (laid roots ns o) m.x
      by_step later (Logged st) o parts is =
          let (n, l) = logged_at later st o m parts is in
          absurd (never_spoils roots n.x.played.answer n.entry word ((moment_from roots n m l.moment_is).1 ∙ ap Some part))
      by_step later (Spoiled t w) o parts is =
          let (f, spoil) = spoil_at later t w o parts in
          let same = spoils_piece later t w o f m parts spoil is in
          subst (λ (z : Moment). IsBeforeFree (played_in ts) (laid roots ns o) z.x) same (before_free later t w o f parts spoil)
