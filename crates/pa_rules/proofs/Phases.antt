-- The records up to the end of a phase have one run for each slot, if no later phase finds less than an earlier one left.
use Rattle.std.proofs.Common.{◌≡◌, ℕ, ◌+◌, ◌<◌, ◌≤◌, List, [], ◌∷◌, Option, Some, None, refl, sym, ◌∙◌, ap, subst, arith, ◌⊎◌, inl, inr}
use Rattle.std.specs.Prelude.{Contains, AllPairs}
use Rattle.std.proofs.lemmas.Bool.{cases_lt, le-leb, leb-true}
use Rattle.pa_slot.specs.declared.word.SlotName.{SlotName}
use Rattle.pa_slot.specs.declared.word.Step.{Step}
use Rattle.pa_slot.specs.Count.{number_of}
use Rattle.pa_slot.specs.Run.{Mark, IsFirstAt, IsRunFrom}
use Rattle.pa_slot.proofs.Runs.{number_stepped}
use Rattle.pa_lists.proofs.Members.{not_in_none, first_in, later_in, in_cases}
use Rattle.pa_lists.proofs.Joined.{filter_cases, filter_in}
use Rattle.pa_rules.specs.declared.played.Played.{Played}
use Rattle.pa_rules.specs.Played.{mark_of, marks_of}
use Rattle.pa_rules.specs.Report.{until}
use Rattle.pa_rules.specs.Flow.{RunsUntil}
use Rattle.pa_rules.proofs.Marking.{mark_line}
use Rattle.pa_rules.proofs.Running.{OtherRecord, Used, mark_from, first_line, run_rises}
use Rattle.pa_rules.proofs.ByLines.{is_until, same_record}

mark_in_one : (x : Played) (xs : List Played) (m : Mark) (o : Option Mark) → mark_of x ≡ o → Contains (marks_of xs) m →
    Contains (marks_of (x ∷ xs)) m
mark_in_one x xs m None e rest = rw e rest
mark_in_one x xs m (Some n) e rest = rw e (later_in n m (marks_of xs) rest)

pub mark_in : (xs : List Played) (x : Played) (m : Mark) → Contains xs x → mark_of x ≡ Some m → Contains (marks_of xs) m
mark_in [] x m among e = absurd (not_in_none x among)
mark_in (y ∷ ys) x m among e = elim (in_cases y x ys among) [
  | inl same ↦
      let at : mark_of y ≡ Some m = ap mark_of same ∙ e in
      rw at (first_in m (marks_of ys))
  | inr rest ↦ mark_in_one y ys m (mark_of y) refl (mark_in ys x m rest e)
]

-- the mark is of a record of a later phase
abbrev IsPast : List Played → ℕ → Mark → Type 0
IsPast ps phase m = (y : Played) × Contains ps y × (mark_of y ≡ Some m) × (phase < y.phase)

front_in : (ps : List Played) (phase : ℕ) (m : Mark) → Contains (marks_of (until phase ps)) m → (x : Played) × Contains ps x ×
    (mark_of x ≡ Some m) × (x.phase ≤ phase)
front_in ps phase m among =
    let (x, member, is) = mark_from (until phase ps) m among in
    let (there, low) = filter_cases (is_until phase) ps x member in
    (x, there, is, leb-true _ _ low)

front_or_past : (ps : List Played) (phase : ℕ) (m : Mark) → Contains (marks_of ps) m → Contains (marks_of (until phase ps)) m ⊎
    IsPast ps phase m
front_or_past ps phase m among =
    let (x, member, is) = mark_from ps m among in
    elim (cases_lt phase x.phase) [
      | inl late ↦ inr (x, member, is, late)
      | inr early ↦ inl (mark_in (until phase ps) x m (filter_in (is_until phase) ps x member (le-leb _ _ early)) is)
    ]

pub within : (ps : List Played) (phase : ℕ) (m : Mark) → Contains (marks_of (until phase ps)) m → Contains (marks_of ps) m
within ps phase m among = let (x, there, is, low) = front_in ps phase m among in mark_in ps x m there is

-- no mark of a front has the line of one that is past it
not_past : (ps : List Played) (phase : ℕ) (n m : Mark) → AllPairs OtherRecord ps → Contains (marks_of (until phase ps)) n →
    IsPast ps phase m → n.line ≡ m.line → ⊥
not_past ps phase n m h among (y, member, is, late) same =
    let (x, there, is', low) = front_in ps phase n among in
    let one = same_record ps x y h there member (sym (mark_line x n is') ∙ same ∙ mark_line y m is) in
    let phases : x.phase ≡ y.phase = ap (λ (z : Played). z.phase) one in
    omega arith

-- a step of slot s that is past the front found less than this word's number
abbrev IsBeyond : List Played → ℕ → SlotName → ℕ → Type 0
IsBeyond ps phase s f = (m : Mark) × IsPast ps phase m × (m.slot ≡ s) × (number_of m.found < number_of f)

-- the front of a run: the words of it that are left out are beyond
record Front (ps : List Played) (phase : ℕ) (s : SlotName) (u : ℕ) (ws vs : List ℕ) : Type 0 where
  run : IsRunFrom (marks_of (until phase ps)) s u vs
  covers : (f : ℕ) → Contains (u ∷ ws) f → Contains (u ∷ vs) f ⊎ IsBeyond ps phase s f

first_within : (ps : List Played) (phase : ℕ) (s : SlotName) (u : ℕ) (m : Mark) (p : Step) → Contains (marks_of (until phase ps)) m →
    IsFirstAt (marks_of ps) s u m p →
    IsFirstAt (marks_of (until phase ps)) s u m p
first_within ps phase s u m p among first = record {
  among = among;
  slot = first.slot;
  found = first.found;
  step = first.step;
  least = λ n member. first.least n (within ps phase n member);
}

-- a first step of the front is the first of all
first_of_all : (ps : List Played) (phase : ℕ) (s : SlotName) (u : ℕ) (m : Mark) (p : Step) → Used (marks_of ps) s →
    IsFirstAt (marks_of (until phase ps)) s u m p → IsFirstAt (marks_of ps) s u m p
first_of_all ps phase s u m p used first =
    subst (λ z. IsFirstAt (marks_of ps) s z m p) first.found (used m p (within ps phase m first.among) first.slot first.step).0

front_of : (ps : List Played) (phase : ℕ) (s : SlotName) (u : ℕ) (ws : List ℕ) → AllPairs OtherRecord ps → Used (marks_of ps) s →
    IsRunFrom (marks_of ps) s u ws →
    (vs : List ℕ) × Front ps phase s u ws vs
front_of ps phase s u [] h used run =
    ([], record { run = λ m p first can. run m p (first_of_all ps phase s u m p used first) can; covers = λ f among. inl among })
front_of ps phase s u (v ∷ ws) h used (m, p, first, can, is, rest) = elim (front_or_past ps phase m first.among) [
  | inl early ↦
      let (vs, front) = front_of ps phase s v ws h used rest in (
        v ∷ vs,
        record {
          run = (m, p, first_within ps phase s u m p early first, can, is, front.run);
          covers = λ f among. elim (in_cases u f (v ∷ ws) among) [
            | inl e ↦ inl (subst (λ z. Contains (u ∷ v ∷ vs) z) e (first_in u (v ∷ vs)))
            | inr after ↦ elim (front.covers f after) [
              | inl there ↦ inl (later_in u f (v ∷ vs) there)
              | inr beyond ↦ inr beyond
            ]
          ];
        },
      )
  | inr past ↦ (
    [],
    record {
      run = λ n q first' can'. not_past ps phase n m h first'.among past
          (first_line (marks_of ps) s u n m q p (first_of_all ps phase s u n q used first') first);
      covers = λ f among. elim (in_cases u f (v ∷ ws) among) [
        | inl e ↦ inl (subst (λ z. Contains (u ∷ []) z) e (first_in u []))
        | inr after ↦
            let low = run_rises (marks_of ps) s v ws f rest after in
            let up : number_of v ≡ number_of u + 1 = ap number_of is ∙ number_stepped p u can in
            let at : number_of m.found ≡ number_of u = ap number_of first.found in
            inr (m, past, first.slot, omega arith)
      ];
    },
  )
]

pub runs_until : RunsUntil
runs_until ps phase h slots rise s =
    let (ws, run, one) = slots s in
    let (vs, front) = front_of ps phase s 0 ws h one.used run in (
      vs,
      front.run,
      record {
        found = λ n among slot. elim (front.covers n.found (one.found n (within ps phase n among) slot)) [
          | inl there ↦ there
          | inr (m, past, of, more) ↦
              let (y, member, is, late) = past in
              let (x, there, is', low) = front_in ps phase n among in
              let least = rise x y n m there member (omega arith) is' is (slot ∙ sym of) in
              absurd (omega arith)
        ];
        used = λ m p among slot step.
            let (first, can) = one.used m p (within ps phase m among) slot step in
            (first_within ps phase s m.found m p among first, can);
      },
    )
