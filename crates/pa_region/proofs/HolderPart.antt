-- The first part after a step: what counts of titles and budgets.
use Rattle.std.proofs.Common.{◌≡◌, ℕ, ◌+◌, ◌<◌, ◌≤◌, Bool, false, List, set, refl, subst, arith, inl, inr}
use Rattle.std.proofs.lemmas.Bool.{cases_lt}
use Rattle.pa_slot.specs.declared.title.Title.{Title}
use Rattle.pa_slot.specs.declared.title.OwnState.{OwnState}
use Rattle.pa_slot.specs.declared.title.OwnState.TheVariants.{Clean}
use Rattle.pa_slot.specs.declared.word.Step.{Step}
use Rattle.pa_slot.specs.declared.word.Step.TheVariants.{Issue, Copy, Reset, Free, Write}
use Rattle.pa_slot.specs.Count.{CanStep, stepped, number_of, refs_of}
use Rattle.pa_slot.specs.Titles.{count_place, count_word}
use Rattle.pa_slot.specs.Holdings.{Thing, RawByte, FreeTitle, OwnOf, RefOf, held_in, IsTitleHeld}
use Rattle.pa_machine.specs.Good.{IsCounted, IsGood}
use Rattle.pa_machine.specs.Events.{returned_at}
use Rattle.pa_slot.proofs.Same.{title_tells}
use Rattle.pa_machine.proofs.Parts.{Changes, IsChangeAt, IsNoneOf, nil_none, free_none, own_none, ref_none, change_untouched, change_held, IsUntouched}
use Rattle.pa_slot.proofs.Arith.{stepped_is}
use Rattle.pa_machine.proofs.Amounts.{returned_cases}
use Rattle.pa_machine.proofs.Keeps.{returned_here, returned_raw, same_keeps}
use Rattle.pa_machine.proofs.Amounts.{free_self, own_self, ref_self, word_written}
use Rattle.pa_region.specs.Rule.{Holders}
use Rattle.pa_region.proofs.Pieces.{lost_by, gained_by}
use Rattle.pa_machine.proofs.Counting.{returned_free}

-- what a step gives back of a title is neither an Own nor a Ref of it
returned_none : (left : ℕ) (t : Title) →
    (held_in (returned_at left t) (OwnOf t) ≡ 0) × (held_in (returned_at left t) (RefOf t) ≡ 0)
returned_none left t = elim (returned_cases left t) [
  | inl y ↦ (rw y.1 refl, rw y.1 refl)
  | inr n ↦ (rw n.1 refl, rw n.1 refl)
]

-- a step that is enabled keeps its title counted well
pub counted_after : (step : Step) (word : ℕ) (total later : Thing → ℕ) (t : Title) (sealed : Bool) (a : OwnState) →
    IsCounted word total t → CanStep step word →
    Changes total (lost_by step t sealed a) (gained_by step t sealed (stepped step word)) later → IsCounted (stepped step word) later t
counted_after Issue word total later t sealed a g can c =
    let s = stepped_is Issue word can in
    let free = c (FreeTitle t) in
    let own = c (OwnOf t) in
    let ref = c (RefOf t) in
    let f1 = free_self t in
    let o1 = own_self false t Clean in
    let once = g.free (s.3, s.2) in
    let owns = g.owns in
    let refs = g.refs in
    let p = s.0 in let q = s.1 in let r = s.2 in let e = s.3 in
    record {
      owns = omega arith;
      refs = omega arith;
      free = λ is_free. let z = is_free.0 in omega arith;
      taken = λ _. omega arith;
    }
counted_after Copy word total later t sealed a g can c =
    let s = stepped_is Copy word can in
    let free = c (FreeTitle t) in
    let own = c (OwnOf t) in
    let ref = c (RefOf t) in
    let r1 = ref_self t in
    let p = s.0 in let q = s.1 in let r = s.2 in
    let taken = g.taken (λ f. let y = f.0 in let z = f.1 in omega arith) in
    let owns = g.owns in
    let refs = g.refs in
    record {
      owns = omega arith;
      refs = omega arith;
      free = λ is_free. let z = is_free.1 in omega arith;
      taken = λ _. omega arith;
    }
counted_after Reset word total later t sealed a g can c =
    let s = stepped_is Reset word can in
    let left = stepped Reset word in
    let free = c (FreeTitle t) in
    let own = c (OwnOf t) in
    let ref = c (RefOf t) in
    let r1 = ref_self t in
    let none = returned_none left t in
    let n0 = none.0 in let n1 = none.1 in
    let p = s.0 in let q = s.1 in
    let taken = g.taken (λ f. let y = f.0 in let z = f.1 in omega arith) in
    let owns = g.owns in
    let refs = g.refs in
    record {
      owns = omega arith;
      refs = omega arith;
      free = λ is_free. elim (returned_free left t) [ inl y ↦ let m = y.1 in omega arith | inr n ↦ absurd (n.0 is_free) ];
      taken = λ not_free. elim (returned_free left t) [ inl y ↦ absurd (not_free y.0) | inr n ↦ let m = n.1 in omega arith ];
    }
counted_after Free word total later t sealed a g can c =
    let s = stepped_is Free word can in
    let left = stepped Free word in
    let free = c (FreeTitle t) in
    let own = c (OwnOf t) in
    let ref = c (RefOf t) in
    let o1 = own_self sealed t a in
    let none = returned_none left t in
    let n0 = none.0 in let n1 = none.1 in
    let p = s.0 in let q = s.1 in let r = s.2 in
    let taken = g.taken (λ f. let y = f.0 in omega arith) in
    let owns = g.owns in
    let refs = g.refs in
    record {
      owns = omega arith;
      refs = omega arith;
      free = λ is_free. elim (returned_free left t) [ inl y ↦ let m = y.1 in omega arith | inr n ↦ absurd (n.0 is_free) ];
      taken = λ not_free. elim (returned_free left t) [ inl y ↦ absurd (not_free y.0) | inr n ↦ let m = n.1 in omega arith ];
    }
counted_after Write word total later t sealed a g can c =
    let s = stepped_is Write word can in
    let free = c (FreeTitle t) in
    let own = c (OwnOf t) in
    let ref = c (RefOf t) in
    let o1 = own_self sealed t a in
    let o2 = own_self sealed t Clean in
    let p = s.0 in let q = s.1 in let r = s.2 in let e = s.3 in
    let taken = g.taken (λ f. let y = f.0 in omega arith) in
    let owns = g.owns in
    let refs = g.refs in
    record {
      owns = omega arith;
      refs = omega arith;
      free = λ is_free. let z = is_free.0 in omega arith;
      taken = λ _. omega arith;
    }

-- the number rises by one, and the count isn't above it
number_after : (step : Step) (word : ℕ) → CanStep step word →
    (number_of (stepped step word) ≡ number_of word + 1) × (refs_of (stepped step word) ≤ refs_of word + 1)
number_after Issue word can = (omega arith, omega arith)
number_after Copy word can = (omega arith, omega arith)
number_after Reset word can = (omega arith, omega arith)
number_after Free word can = (omega arith, omega arith)
number_after Write word can = (omega arith, omega arith)

-- what is lost and gained is the title's alone, and no raw byte
pub lost_here : (step : Step) (t : Title) (sealed : Bool) (a : OwnState) (u : Title) → (t ≡ u → ⊥) →
    IsNoneOf (lost_by step t sealed a) u
lost_here Issue t sealed a u ne = free_none t u ne
lost_here Copy t sealed a u ne = nil_none u
lost_here Reset t sealed a u ne = ref_none t u ne
lost_here Free t sealed a u ne = own_none sealed t u a ne
lost_here Write t sealed a u ne = own_none sealed t u a ne

-- what is gained is the title's alone
pub gained_here : (step : Step) (t : Title) (sealed : Bool) (left : ℕ) (u : Title) → (t ≡ u → ⊥) →
    IsNoneOf (gained_by step t sealed left) u
gained_here Issue t sealed left u ne = own_none false t u Clean ne
gained_here Copy t sealed left u ne = ref_none t u ne
gained_here Reset t sealed left u ne = returned_here left t u ne
gained_here Free t sealed left u ne = returned_here left t u ne
gained_here Write t sealed left u ne = own_none sealed t u Clean ne

-- what is lost is no raw byte
pub lost_raw : (step : Step) (t : Title) (sealed : Bool) (a : OwnState) (b : ℕ) → held_in (lost_by step t sealed a) (RawByte b) ≡ 0
lost_raw Issue t sealed a b = refl
lost_raw Copy t sealed a b = refl
lost_raw Reset t sealed a b = refl
lost_raw Free t sealed a b = refl
lost_raw Write t sealed a b = refl

-- what is gained is no raw byte
pub gained_raw : (step : Step) (t : Title) (sealed : Bool) (left b : ℕ) → held_in (gained_by step t sealed left) (RawByte b) ≡ 0
gained_raw Issue t sealed left b = refl
gained_raw Copy t sealed left b = refl
gained_raw Reset t sealed left b = returned_raw left t b
gained_raw Free t sealed left b = returned_raw left t b
gained_raw Write t sealed left b = refl

-- A counted step over all views: the title is held, the step is enabled at its word, which it changes, and all things
-- are held as before but for what the step moves. If it takes an Own, this is sealed or not.
pub record IsCountStep (step : Step) (t : Title) (a : OwnState) (words : List ℕ) (total later : Thing → ℕ) : Type 0 where
  pub sealed : Bool
  pub held : IsTitleHeld total t
  pub can : CanStep step (count_word words t)
  pub changes : Changes total (lost_by step t sealed a) (gained_by step t sealed (stepped step (count_word words t))) later

-- the words after it
abbrev pub words_by : Step → Title → List ℕ → List ℕ
words_by step t words = set words (count_place t) (stepped step (count_word words t))

-- the step as a change at one title
pub change_of : (step : Step) (t : Title) (a : OwnState) (words : List ℕ) (total later : Thing → ℕ) →
    (x : IsCountStep step t a words total later) →
    IsChangeAt words total later t (lost_by step t x.sealed a) (gained_by step t x.sealed (stepped step (count_word words t)))
    (count_place t)
change_of step t a words total later x = record {
  changes = x.changes;
  lost_here = lost_here step t x.sealed a;
  gained_here = gained_here step t x.sealed (stepped step (count_word words t));
  no_raw_lost = lost_raw step t x.sealed a;
  no_raw_gained = gained_raw step t x.sealed (stepped step (count_word words t));
  place = (omega arith, omega arith);
}

-- a title that is counted well, and has a word that isn't read, is held
counted_held : (word : ℕ) (total : Thing → ℕ) (t : Title) → IsCounted word total t → IsTitleHeld total t
counted_held word total t c =
    elim (cases_lt 0 (total (OwnOf t) + total (RefOf t))) [
      | inl y ↦ omega arith
      | inr n ↦
          let a = c.owns in let b = c.refs in
          let e = c.free (omega arith, omega arith) in
          omega arith
    ]

-- the titles that are held are the same
pub held_after : (step : Step) (t : Title) (a : OwnState) (words : List ℕ) (total later : Thing → ℕ) (idle : Title → ℕ) (budget steps : ℕ) →
    Holders words total idle budget steps → IsCountStep step t a words total later →
    (u : Title) → ((IsTitleHeld total u → IsTitleHeld later u) × (IsTitleHeld later u → IsTitleHeld total u))
held_after step t a words total later idle budget steps h x u =
    elim (title_tells t u) [
      | inl y ↦
          let here : IsTitleHeld later t = counted_held (stepped step (count_word words t)) later t
          (counted_after step (count_word words t) total later t x.sealed a (h.good.counted t x.held) x.can x.changes) in
          ((λ _. subst (λ (z : Title). IsTitleHeld later z) y.1 here), (λ _. subst (λ (z : Title). IsTitleHeld total z) y.1 x.held))
      | inr n ↦
          let e = change_held words total later t _ _ (count_place t) (change_of step t a words total later x) u n.1 in
          ((λ y. omega arith), (λ y. omega arith))
    ]

-- another held title's word and handles stay
pub other_stays : (step : Step) (t : Title) (a : OwnState) (words : List ℕ) (total later : Thing → ℕ) (idle : Title → ℕ)
    (budget steps : ℕ) →
    Holders words total idle budget steps → IsCountStep step t a words total later →
    (u : Title) → (t ≡ u → ⊥) → IsTitleHeld total u → IsUntouched words total (words_by step t words) later u
other_stays step t a words total later idle budget steps h x u ne held =
    change_untouched words total later t _ _ (count_place t) (stepped step (count_word words t)) h.good.divided x.held
    (change_of step t a words total later x) u ne held

-- the title's word after the step
pub word_here : (step : Step) (t : Title) (a : OwnState) (words : List ℕ) (total later : Thing → ℕ) (idle : Title → ℕ) (budget steps : ℕ) →
    Holders words total idle budget steps → IsCountStep step t a words total later →
    count_word (words_by step t words) t ≡ stepped step (count_word words t)
word_here step t a words total later idle budget steps h x =
    word_written words t (stepped step (count_word words t)) (h.good.divided.well t x.held)

-- a counted step keeps the part if the core stays good: it takes 1 of the budget, and the knowledge that a count is 0
-- is true after it
pub holders_count : (step : Step) (t : Title) (a : OwnState) (words : List ℕ) (total later : Thing → ℕ) (idle idle_after : Title → ℕ)
    (budget left steps : ℕ) →
    Holders words total idle budget steps → IsCountStep step t a words total later → IsGood (words_by step t words) later →
    left + 1 ≡ budget →
    ((u : Title) → (t ≡ u → ⊥) → idle_after u ≡ idle u) →
    (0 < idle_after t → refs_of (stepped step (count_word words t)) ≡ 0) →
    ((u : Title) → 0 < idle u → IsTitleHeld total u) →
    Holders (words_by step t words) later idle_after left (steps + 1)
holders_count step t a words total later idle idle_after budget left steps h x good takes others here idle_held =
    let word = word_here step t a words total later idle budget steps h x in
    let at_last = h.few t x.held in
    let few_here = h.few_refs t x.held in
    let n = number_after step (count_word words t) x.can in
    let n0 = n.0 in let n1 = n.1 in
    record {
      good = good;
      known = λ u some_idle. elim (title_tells t u) [
        | inl y ↦ subst (λ (z : Title). 0 < idle_after z → refs_of (count_word (words_by step t words) z) ≡ 0) y.1
            (λ i. rw word (here i)) some_idle
        | inr m ↦
            let e = others u m.1 in
            let was : 0 < idle u = omega arith in
            let same = other_stays step t a words total later idle budget steps h x u m.1 (idle_held u was) in
            rw same.word (h.known u was)
      ];
      affords = let b = h.affords in omega arith;
      few = λ u held. elim (title_tells t u) [
        | inl y ↦ subst (λ (z : Title). left + number_of (count_word (words_by step t words) z) ≤ 65536) y.1 (rw word (omega arith))
        | inr m ↦
            let before = (held_after step t a words total later idle budget steps h x u).1 held in
            let same = other_stays step t a words total later idle budget steps h x u m.1 before in
            let b = h.few u before in
            rw same.word (omega arith)
      ];
      few_refs = λ u held. elim (title_tells t u) [
        | inl y ↦ subst (λ (z : Title). refs_of (count_word (words_by step t words) z) ≤ number_of (count_word (words_by step t words) z))
            y.1 (rw word (omega arith))
        | inr m ↦
            let before = (held_after step t a words total later idle budget steps h x u).1 held in
            let same = other_stays step t a words total later idle budget steps h x u m.1 before in
            rw same.word (h.few_refs u before)
      ];
    }

-- a step that changes no word, and nothing of what is held, keeps the part if the knowledge of counts stays true
pub holders_same : (words : List ℕ) (total later : Thing → ℕ) (idle idle_after : Title → ℕ) (budget left steps more : ℕ) →
    Holders words total idle budget steps → ((x : Thing) → later x ≡ total x) →
    ((u : Title) → 0 < idle_after u → refs_of (count_word words u) ≡ 0) → left ≡ budget → more ≡ steps →
    Holders words later idle_after left more
holders_same words total later idle idle_after budget left steps more h same known b s =
    let held : (u : Title) → IsTitleHeld later u → IsTitleHeld total u =
    λ u y. let p = same (FreeTitle u) in let q = same (OwnOf u) in let r = same (RefOf u) in omega arith in
    record {
      good = same_keeps words total later h.good same;
      known = known;
      affords = let e = h.affords in omega arith;
      few = λ u y. let e = h.few u (held u y) in omega arith;
      few_refs = λ u y. h.few_refs u (held u y);
    }

-- a step that changes no held title's count word keeps the part if the core stays good
pub holders_written : (words after : List ℕ) (total later : Thing → ℕ) (idle idle_after : Title → ℕ) (budget left steps more : ℕ) →
    Holders words total idle budget steps → IsGood after later → ((u : Title) → IsTitleHeld later u → IsTitleHeld total u) →
    ((u : Title) → IsTitleHeld total u → count_word after u ≡ count_word words u) → ((u : Title) → idle_after u ≡ idle u) →
    ((u : Title) → 0 < idle u → IsTitleHeld total u) → left ≡ budget → more ≡ steps → Holders after later idle_after left more
holders_written words after total later idle idle_after budget left steps more h good back same idle_same idle_held b s = record {
  good = good;
  known = λ u some_idle. let e = idle_same u in let was : 0 < idle u = omega arith in rw (same u (idle_held u was)) (h.known u was);
  affords = let e = h.affords in omega arith;
  few = λ u y. let e = h.few u (back u y) in rw (same u (back u y)) (omega arith);
  few_refs = λ u y. rw (same u (back u y)) (h.few_refs u (back u y));
}
