-- Each slot that a record stepped on or looked at is one that a journal made and handed out.
use Rattle.std.proofs.Common.{◌≡◌, ℕ, zero, suc, ◌<◌, ◌⊎◌, Bool, true, List, [], ◌∷◌, length, Some, None, Option, refl, sym, ◌∙◌, ap, ap₂, subst, arith, inl, inr}
use Rattle.std.specs.Prelude.{Contains, nat_le}
use Rattle.std.specs.List.{list_any}
use Rattle.std.proofs.lemmas.Bool.{true≢false, cases_Bool, cases_eq, or_cases, both_ways}
use Rattle.pa_slot.specs.declared.title.Title.{Title}
use Rattle.pa_slot.specs.declared.word.SlotName.{SlotName}
use Rattle.pa_slot.specs.declared.word.Step.{Step}
use Rattle.pa_slot.specs.declared.word.Step.TheVariants as steps
use Rattle.pa_slot.specs.Count.{CanStep, held_of, refs_of}
use Rattle.pa_slot.specs.Run.{Mark, IsFirstAt, IsRunFrom, IsOneRun, same_slot}
use Rattle.pa_slot.proofs.Runs.{same_slot_eq, same_slot_yes, issue_first}
use Rattle.pa_buckets.specs.Table.{slot_of}
use Rattle.pa_trace.specs.declared.script.Rules.{Rules}
use Rattle.pa_record.specs.declared.entry.Seen.{Seen}
use Rattle.pa_record.specs.declared.entry.Answer.{Answer}
use Rattle.pa_record.specs.declared.entry.Answer.TheVariants as answers
use Rattle.pa_record.specs.declared.pool.PoolEntry.{PoolEntry}
use Rattle.pa_record.specs.Spans.{name_of}
use Rattle.pa_record.specs.Sound.{IsMadeBy}
use Rattle.pa_record.specs.Laws.{leaves_by}
use Rattle.pa_lists.proofs.Members.{not_in_none, first_in, later_in, in_cases}
use Rattle.pa_region.specs.History.{Done}
use Rattle.pa_rules.specs.declared.played.Played.{Played}
use Rattle.pa_rules.specs.Played.{marks_of}
use Rattle.pa_rules.specs.Registers.{made_of, is_plain_op, plain_or, plain_in}
use Rattle.pa_rules.specs.Roots.{Journals, AreRoots, IsPoolOf}
use Rattle.pa_rules.specs.Report.{HasSize}
use Rattle.pa_rules.proofs.Following.{titles_follow}
use Rattle.pa_rules.proofs.Owned.{title_of}
use Rattle.pa_rules.proofs.Running.{mark_from}
use Rattle.pa_legal.specs.Flows.{IsMadeFor}
use Rattle.pa_legal.specs.Tallies.{AreHomes}
use Rattle.pa_logs.specs.Lengths.{titles_by, lengths_by}
use Rattle.pa_logs.specs.Homes.{homes_by, HaveSlots, HomesFollow}
use Rattle.pa_logs.specs.Steps.{AreSteps}
use Rattle.pa_logs.proofs.OneSlot.{issue_at}
use Rattle.pa_logs.proofs.Sizing.{made_listed, listed_made, is_partition, lengths_follow}
use Rattle.pa_logs.proofs.StepMarks.{mark_step, issue_is}

-- ---- the partition of a name

-- a list has a title of that name, or none
pub named_there : (ts : List Title) (s : SlotName) → list_any (λ (t : Title). same_slot (name_of t) s) ts ≡ true → (t : Title) ×
    Contains ts t × (name_of t ≡ s)
named_there [] s h = absurd (true≢false (sym h))
named_there (u ∷ us) s h = elim (or_cases (same_slot (name_of u) s) (list_any (λ (t : Title). same_slot (name_of t) s) us) h) [
  | inl here ↦ (u, first_in u us, same_slot_eq (name_of u) s here)
  | inr rest ↦ let (t, among, is) = named_there us s rest in (t, later_in u t us among, is)
]

pub there_named : (ts : List Title) (s : SlotName) (t : Title) → Contains ts t → name_of t ≡ s →
    list_any (λ (t : Title). same_slot (name_of t) s) ts ≡ true
there_named [] s t among is = absurd (not_in_none t among)
there_named (u ∷ us) s t among is = elim (cases_Bool (same_slot (name_of u) s)) [
  | inl y ↦ rw y refl
  | inr n ↦ rw n (elim (in_cases u t us among) [
    | inl e ↦ absurd (both_ways _ n (same_slot_yes (name_of u) s (ap name_of e ∙ is)))
    | inr later ↦ there_named us s t later is
  ])
]

module _ (pools : List PoolEntry) (roots : Journals) where
  -- if no other partition makes a title of the name
  pub home_is : (n p : ℕ) (s : SlotName) (t : Title) → p < n → IsMadeBy pools (roots p) t → name_of t ≡ s →
      ((q : ℕ) (u : Title) → IsMadeBy pools (roots q) u → name_of u ≡ s → q ≡ p) → homes_by n pools roots s ≡ p
  home_is zero p s t below made is only = absurd (omega arith)
  home_is (suc n) p s t below made is only =
      elim (cases_Bool (list_any (λ (t : Title). same_slot (name_of t) s) (titles_by pools (roots n)))) [
        | inl y ↦ let (u, among, named) = named_there (titles_by pools (roots n)) s y in
            rw y (only n u (listed_made pools (roots n) u among) named)
        | inr none ↦ rw none (elim (cases_eq p n) [
          | inl same ↦ absurd (both_ways _ none
              (there_named (titles_by pools (roots n)) s t
              (subst (λ q. Contains (titles_by pools (roots q)) t) same (made_listed pools (roots p) t made)) is))
          | inr other ↦ home_is n p s t (omega arith) made is only
        ])
      ]

module _ (supers partitions : ℕ) (ps : List Played) (pools : List PoolEntry) (roots : Journals) (r : AreRoots partitions ps pools roots)
    (h : IsPoolOf supers ps pools roots) where
  pub has_title : (p len : ℕ) (s : SlotName) → HasSize roots p s len → (t : Title) × IsMadeBy pools (roots p) t × (name_of t ≡ s)
  has_title p len s (inl (class, (e, asked, slots, among, is, member), size)) =
      let (t, by, name, sized) =
      title_of pools (roots p) e s (r.journals p) among (subst (λ act. Contains (leaves_by act) s) (sym is) member) in
      (t, by, name)
  has_title p len s (inr (e, asked, among, is)) =
      let (t, by, name, sized) =
      title_of pools (roots p) e s (r.journals p) among (subst (λ act. Contains (leaves_by act) s) (sym is) (first_in s [])) in
      (t, by, name)

  pub home_named : (p len : ℕ) (s : SlotName) → HasSize roots p s len → homes_by partitions pools roots s ≡ p
  home_named p len s has =
      let (t, by, name) = has_title p len s has in
      let all = titles_follow.titles supers partitions ps pools roots r h in
      home_is pools roots partitions p s t (is_partition supers partitions ps pools roots r h p t by) by name
      (λ q u made named. all.owned q p u t made by (ap (λ (z : SlotName). z.born) (named ∙ sym name)))

-- ---- a slot that is plain by the records

-- by the record, if that made the slot, and by the others if not
plain_by : (s : SlotName) (b other : Bool) (x : Played) (a : Answer) → ((seen : Seen) (usable : ℕ) → a ≡ answers.Made seen usable →
    seen.slot ≡ s → is_plain_op x.rules x.op ≡ b) → (plain_or (made_of a) x s other ≡ b) ⊎ (plain_or (made_of a) x s other ≡ other)
plain_by s b other x (answers.Made seen usable) each = elim (cases_Bool (same_slot seen.slot s)) [
  | inl y ↦ inl (rw y (each seen usable refl (same_slot_eq seen.slot s y)))
  | inr n ↦ inr (rw n refl)
]
plain_by s b other x a each = inr refl

plain_here : (s : SlotName) (b other : Bool) (x : Played) (a : Answer) (seen : Seen) (usable : ℕ) → a ≡ answers.Made seen usable →
    seen.slot ≡ s → is_plain_op x.rules x.op ≡ b → plain_or (made_of a) x s other ≡ b
plain_here s b other x a seen usable made slot is =
    ap (λ c. plain_or (made_of c) x s other) made ∙ rw (same_slot_yes seen.slot s slot) is

-- if each record that made the slot says so, and one did
plain_made : (s : SlotName) (b : Bool) (ps : List Played) → ((x : Played) (seen : Seen) (usable : ℕ) → Contains ps x →
    x.answer ≡ answers.Made seen usable → seen.slot ≡ s → is_plain_op x.rules x.op ≡ b) → (x : Played) (seen : Seen) (usable : ℕ) →
    Contains ps x → x.answer ≡ answers.Made seen usable → seen.slot ≡ s → plain_in ps s ≡ b
plain_made s b [] each x seen usable among made slot = absurd (not_in_none x among)
plain_made s b (y ∷ ys) each x seen usable among made slot = elim (in_cases y x ys among) [
  | inl same ↦
      let answer : y.answer ≡ answers.Made seen usable = ap (λ (z : Played). z.answer) same ∙ made in
      plain_here s b (plain_in ys s) y y.answer seen usable answer slot (each y seen usable (first_in y ys) answer slot)
  | inr later ↦
      let again = plain_made s b ys (λ z found n member. each z found n (later_in y z ys member)) x seen usable later made slot in
      elim (plain_by s b (plain_in ys s) y y.answer (λ found n. each y found n (first_in y ys))) [
        | inl here ↦ here
        | inr others ↦ others ∙ again
      ]
]

-- ---- the slot of a record

-- a slot that has a partition and a length
abbrev HasSome : Journals → SlotName → Type 0
HasSome roots s = (p len : ℕ) × HasSize roots p s len

-- the slot of a record that made one is of its partition
sized : (roots : Journals) (x : Played) (s : SlotName) (made : IsMadeFor roots x s) → (len : ℕ) × HasSize roots made.partition s len
sized roots x s made = elim made.from [
  | inl (class, of) ↦ (slot_of class, inl (class, of, refl))
  | inr (asked, len, e, among, line, act) ↦ (len, inr (e, asked, among, act))
]

module _ (supers partitions : ℕ) (ps : List Played) (pools : List PoolEntry) (roots : Journals)
    (h : HaveSlots supers partitions ps pools roots) where
  -- the step at the word 0 is the issue of a slot that was made
  first_step : (s : SlotName) (m : Mark) (p : Step) → IsFirstAt (marks_of ps) s 0 m p → CanStep p 0 → HasSome roots s
  first_step s m p first can =
      let (x, among, marked) = mark_from ps m first.among in
      let (d, stepped, is) = mark_step x.line x.op x.answer m p marked first.step in
      let issue : p ≡ steps.Issue = issue_first p 0 can refl in
      let step : d.step ≡ steps.Issue = some_is d.step steps.Issue (sym (ap (λ (z : Mark). z.step) is) ∙ (first.step ∙ ap Some issue)) in
      let issued = issue_is x.op x.answer d stepped step in
      let made = h.made x issued.seen issued.usable among issued.answer in
      let (len, has) = sized roots x issued.seen.slot made in
      subst (λ n. HasSome roots n) (issued.slot ∙ (sym (ap (λ (z : Mark). z.slot) is) ∙ first.slot)) (made.partition, len, has)
    where
      some_is : (a b : Step) → Some a ≡ Some b → a ≡ b
      some_is a b e = cc

  -- nothing finds the word 0 if no step is made there
  no_step : (m : Mark) (o : Option Step) → m.step ≡ o → Contains (marks_of ps) m → IsRunFrom (marks_of ps) m.slot 0 [] →
      IsOneRun (marks_of ps) m.slot (0 ∷ []) → ⊥
  no_step m None none among run one =
      let (x, member, marked) = mark_from ps m among in
      let some = h.used x member m marked none in
      let zero_word : m.found ≡ 0 = zero_is (one.found m among refl) in
      let held : held_of m.found ≡ 0 = ap held_of zero_word in
      let refs : refs_of m.found ≡ 0 = ap refs_of zero_word in
      absurd (omega arith)
    where
      zero_is : Contains (0 ∷ []) m.found → m.found ≡ 0
      zero_is there = elim (in_cases 0 m.found [] there) [ inl e ↦ sym e | inr none ↦ absurd (not_in_none m.found none) ]
  no_step m (Some p) step among run one =
      let (first, can) = one.used m p among refl step in
      let zero_word : m.found ≡ 0 = zero_is (one.found m among refl) in
      run m p (subst (λ w. IsFirstAt (marks_of ps) m.slot w m p) zero_word first) (subst (λ w. CanStep p w) zero_word can)
    where
      zero_is : Contains (0 ∷ []) m.found → m.found ≡ 0
      zero_is there = elim (in_cases 0 m.found [] there) [ inl e ↦ sym e | inr none ↦ absurd (not_in_none m.found none) ]

  of_run : (m : Mark) (vs : List ℕ) → Contains (marks_of ps) m → IsRunFrom (marks_of ps) m.slot 0 vs →
      IsOneRun (marks_of ps) m.slot (0 ∷ vs) → HasSome roots m.slot
  of_run m [] among run one = absurd (no_step m m.step refl among run one)
  of_run m (v ∷ vs) among (n, p, first, can, word, rest) one = first_step m.slot n p first can

  are_homes : AreHomes roots (homes_by partitions pools roots) (lengths_by partitions pools roots) (marks_of ps)
  are_homes m among =
      let (vs, run, one) = h.slots m.slot in
      let (p, len, has) = of_run m vs among run one in
      let home = home_named supers partitions ps pools roots h.journals h.pool p len m.slot has in
      let size = lengths_follow.named supers partitions p len ps pools roots m.slot h.journals h.pool has in
      subst (λ q. HasSize roots q m.slot (lengths_by partitions pools roots m.slot)) (sym home)
      (subst (λ n. HasSize roots p m.slot n) (sym size) has)

  -- a record that made a slot asked for it from a plain partition, exactly if its partition is
  plain_asked : (rules : Rules) (x : Played) (seen : Seen) (usable : ℕ) → x.rules ≡ rules → Contains ps x →
      x.answer ≡ answers.Made seen usable → is_plain_op x.rules x.op ≡ nat_le rules.plain_from (homes_by partitions pools roots seen.slot)
  plain_asked rules x seen usable same among answer =
      let made = h.made x seen usable among answer in
      let (len, has) = sized roots x seen.slot made in
      let home = home_named supers partitions ps pools roots h.journals h.pool made.partition len seen.slot has in
      ap₂ is_plain_op same made.op ∙ ap (nat_le rules.plain_from) (sym home)

  is_plain : (rules : Rules) (s : SlotName) (history : List Done) → ((x : Played) → Contains ps x → x.rules ≡ rules) →
      AreSteps ps s history → 0 < length history → plain_in ps s ≡ nat_le rules.plain_from (homes_by partitions pools roots s)
  is_plain rules s history ruled are some_step =
      let (x, seen, usable, among, answer, slot) = issue_at ps s history are some_step in
      plain_made s (nat_le rules.plain_from (homes_by partitions pools roots s)) ps
      (λ y found n member made named. plain_asked rules y found n (ruled y member) member made
      ∙ ap (λ z. nat_le rules.plain_from (homes_by partitions pools roots z)) named)
      x seen usable among answer slot

pub homes_follow : HomesFollow
homes_follow = record {
  named = λ supers partitions p len ps pools roots s r h has. home_named supers partitions ps pools roots r h p len s has;
  homes = are_homes;
  plain = λ supers partitions rules ps pools roots s history h ruled are some_step.
      is_plain supers partitions ps pools roots h rules s history ruled are some_step;
}
