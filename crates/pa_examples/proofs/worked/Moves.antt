-- The moves of a written run with one journal have the holders that they need: by a test that computes.
use Rattle.std.proofs.Common.{◌≡◌, ℕ, zero, suc, ◌+◌, ◌<◌, Bool, true, false, ◌&&◌, ◌||◌, eqb, List, [], ◌∷◌, filter, Option, Some, None, refl, ap, inl, inr}
use Rattle.std.specs.Prelude.{Contains, find, flat_map}
use Rattle.std.specs.List.{AllByRecursion, list_all}
use Rattle.std.proofs.lemmas.Bool.{and_parts, or_cases, eqb-true, false≢true}
use Rattle.pa_slot.specs.declared.word.SlotName.{SlotName}
use Rattle.pa_slot.specs.declared.word.Step.{Step}
use Rattle.pa_slot.specs.declared.word.Step.TheVariants.{Issue, Copy, Reset, Free, Write}
use Rattle.pa_slot.specs.Count.{number_of, refs_of, held_of}
use Rattle.pa_slot.specs.Run.{Mark, IsReturning, same_slot}
use Rattle.pa_slot.proofs.Runs.{same_slot_eq}
use Rattle.pa_record.specs.declared.numbered.Numbered.{Numbered}
use Rattle.pa_record.specs.declared.root.RootEntry.{RootEntry}
use Rattle.pa_record.specs.declared.root.RootAct.TheVariants.{Unmap}
use Rattle.pa_lists.proofs.Members.{find_is, not_some}
use Rattle.pa_rules.specs.declared.played.Played.{Played}
use Rattle.pa_rules.specs.Played.{mark_of}
use Rattle.pa_rules.specs.Roots.{IsEntry, journal_at}
use Rattle.pa_rules.specs.Order.{IsOfLine}
use Rattle.pa_rules.specs.Holders.{Holder, InRoot, WithThread, Way, Move, moves_by, is_move_of, moves_at, IsReturnedBy, IsFirstHolder, made_by, needed_by, MovesFit, HasHolders, IsOfSlot, NamesSlot, AreHolders}
use Rattle.pa_examples.proofs.worked.Lists.{each}
use Rattle.pa_examples.proofs.worked.Holders.{HasItsHolders, all_have_holders, IsIssued, gone_by, all_stay_away, all_lower, away_from_journal, away_from_records}

abbrev pub same_holder : Holder → Holder → Bool
same_holder InRoot InRoot = true
same_holder InRoot (WithThread t) = false
same_holder (WithThread t) InRoot = false
same_holder (WithThread t) (WithThread u) = eqb t u

same_holder-true : (h k : Holder) → same_holder h k ≡ true → h ≡ k
same_holder-true InRoot InRoot e = refl
same_holder-true InRoot (WithThread t) e = absurd (false≢true e)
same_holder-true (WithThread t) InRoot e = absurd (false≢true e)
same_holder-true (WithThread t) (WithThread u) e = ap WithThread (eqb-true t u e)

-- the record of a line
abbrev pub of_line : List Played → ℕ → Option Played
of_line ps line = find (λ (x : Played). eqb x.line line) ps

of_line-is : (ps : List Played) (line : ℕ) (x : Played) → of_line ps line ≡ Some x → IsOfLine ps line x
of_line-is ps line x e = let (among, same) = find_is (λ (y : Played). eqb y.line line) ps x e in (among, eqb-true x.line line same)

-- the holder is the one that a move of this record needs
abbrev pub has_needed : Holder → Way → Option Played → Bool
has_needed h way None = false
has_needed h way (Some x) = same_holder h (needed_by way x)

-- the holder that a move of this record makes, and the root if there is no record
abbrev pub holder_made : Way → Option Played → Holder
holder_made way None = InRoot
holder_made way (Some x) = made_by way x

abbrev pub moves_fit : List Played → Holder → List Move → Bool
moves_fit ps h [] = true
moves_fit ps h (m ∷ ms) = has_needed h m.way (of_line ps m.line) && moves_fit ps (holder_made m.way (of_line ps m.line)) ms

one_fits : (ps : List Played) (h : Holder) (m : Move) (ms : List Move) (o : Option Played) → of_line ps m.line ≡ o →
    (has_needed h m.way o && moves_fit ps (holder_made m.way o) ms) ≡ true →
    (x : Played) × IsOfLine ps m.line x × (h ≡ needed_by m.way x) × (moves_fit ps (made_by m.way x) ms ≡ true)
one_fits ps h m ms None e fit = absurd (false≢true fit)
one_fits ps h m ms (Some x) e fit =
    let (needs, rest) = and_parts (same_holder h (needed_by m.way x)) (moves_fit ps (made_by m.way x) ms) fit in
    (x, of_line-is ps m.line x e, same_holder-true _ _ needs, rest)

moves_fit-true : (ps : List Played) (h : Holder) (ms : List Move) → moves_fit ps h ms ≡ true → MovesFit ps h ms
moves_fit-true ps h [] fit = tt
moves_fit-true ps h (m ∷ ms) fit =
    let (x, of, needs, rest) = one_fits ps h m ms (of_line ps m.line) refl fit in
    (x, of, needs, moves_fit-true ps (made_by m.way x) ms rest)

-- the step at the word returns a slot
abbrev pub returns : Step → ℕ → Bool
returns Issue w = false
returns Copy w = false
returns Reset w = eqb (held_of w) 0 && eqb (refs_of w) 1
returns Free w = eqb (held_of w) 1 && eqb (refs_of w) 0
returns Write w = false

returns-true : (p : Step) (w : ℕ) → returns p w ≡ true → IsReturning p w
returns-true Issue w h = absurd (false≢true h)
returns-true Copy w h = absurd (false≢true h)
returns-true Reset w h = let (a, b) = and_parts (eqb (held_of w) 0) (eqb (refs_of w) 1) h in (eqb-true _ _ a, eqb-true _ _ b)
returns-true Free w h = let (a, b) = and_parts (eqb (held_of w) 1) (eqb (refs_of w) 0) h in (eqb-true _ _ a, eqb-true _ _ b)
returns-true Write w h = absurd (false≢true h)

abbrev pub makes_return : Option Step → ℕ → Bool
makes_return None w = false
makes_return (Some p) w = returns p w

makes_return-true : (o : Option Step) (w : ℕ) → makes_return o w ≡ true → (p : Step) × (o ≡ Some p) × IsReturning p w
makes_return-true None w h = absurd (false≢true h)
makes_return-true (Some p) w h = (p, refl, returns-true p w h)

-- the mark returned slot s, and left the number k
abbrev pub is_return : SlotName → ℕ → Option Mark → Bool
is_return s k None = false
is_return s k (Some m) = same_slot m.slot s && (makes_return m.step m.found && eqb (number_of m.found + 1) k)

is_return-true : (s : SlotName) (k : ℕ) (o : Option Mark) → is_return s k o ≡ true →
    (m : Mark) × (step : Step) × (o ≡ Some m) × (m.slot ≡ s) × (m.step ≡ Some step) × IsReturning step m.found × (number_of m.found + 1 ≡ k)
is_return-true s k None h = absurd (false≢true h)
is_return-true s k (Some m) h =
    let (same, b) = and_parts (same_slot m.slot s) (makes_return m.step m.found && eqb (number_of m.found + 1) k) h in
    let (returns, number) = and_parts (makes_return m.step m.found) (eqb (number_of m.found + 1) k) b in
    let (step, is, returning) = makes_return-true m.step m.found returns in
    (m, step, refl, same_slot_eq m.slot s same, is, returning, eqb-true _ _ number)

abbrev pub returned_by : List Played → SlotName → ℕ → Option Played
returned_by ps s k = find (λ (x : Played). is_return s k (mark_of x)) ps

returned_by-is : (ps : List Played) (s : SlotName) (k : ℕ) (x : Played) → returned_by ps s k ≡ Some x → IsReturnedBy ps s k x
returned_by-is ps s k x e =
    let (among, returned) = find_is (λ (y : Played). is_return s k (mark_of y)) ps x e in
    let (m, step, is, slot, made, returning, number) = is_return-true s k (mark_of x) returned in
    (among, m, step, is, slot, made, returning, number)

abbrev pub is_thread_of : Holder → Option Played → Bool
is_thread_of h None = false
is_thread_of h (Some x) = same_holder h (WithThread x.thread)

is_thread_of-true : (ps : List Played) (s : SlotName) (k : ℕ) (h : Holder) (o : Option Played) → returned_by ps s k ≡ o →
    is_thread_of h o ≡ true → IsFirstHolder ps s k h
is_thread_of-true ps s k h None e is = absurd (false≢true is)
is_thread_of-true ps s k h (Some x) e is = inr (x, returned_by-is ps s k x e, same_holder-true h (WithThread x.thread) is)

abbrev pub is_first_holder : List Played → SlotName → ℕ → Holder → Bool
is_first_holder ps s k h = (eqb k 0 && same_holder h InRoot) || is_thread_of h (returned_by ps s k)

is_first_holder-true : (ps : List Played) (s : SlotName) (k : ℕ) (h : Holder) → is_first_holder ps s k h ≡ true → IsFirstHolder ps s k h
is_first_holder-true ps s k h is = elim (or_cases (eqb k 0 && same_holder h InRoot) (is_thread_of h (returned_by ps s k)) is) [
  | inl root ↦ let (a, b) = and_parts (eqb k 0) (same_holder h InRoot) root in inl (eqb-true k 0 a, same_holder-true h InRoot b)
  | inr thread ↦ is_thread_of-true ps s k h (returned_by ps s k) refl thread
]

-- the holder that a move of this record needs
abbrev pub holder_needed : Way → Option Played → Holder
holder_needed way None = InRoot
holder_needed way (Some x) = needed_by way x

-- the slot's first holder at the number is the one that its first move needs, and so on
abbrev pub has_holders : List Played → SlotName → ℕ → List Move → Bool
has_holders ps s k [] = true
has_holders ps s k (m ∷ ms) =
    is_first_holder ps s k (holder_needed m.way (of_line ps m.line)) && moves_fit ps (holder_needed m.way (of_line ps m.line)) (m ∷ ms)

has_holders-true : (ps : List Played) (s : SlotName) (k : ℕ) (ms : List Move) → has_holders ps s k ms ≡ true → HasHolders ps s k ms
has_holders-true ps s k [] h = tt
has_holders-true ps s k (m ∷ ms) h =
    let first : Holder = holder_needed m.way (of_line ps m.line) in
    let (a, b) = and_parts (is_first_holder ps s k first) (moves_fit ps first (m ∷ ms)) h in
    (first, is_first_holder-true ps s k first a, moves_fit-true ps first (m ∷ ms) b)

-- what a journal does with slots, in order
abbrev pub moves_of : List RootEntry → List Move
moves_of journal = flat_map (λ (e : RootEntry). moves_by e.line e.act) journal

-- each move, with the others of its slot at its number, has the holder that it needs
abbrev pub all_hold : List Played → List Move → List Move → Bool
all_hold ps ms xs = list_all (λ (m : Move). has_holders ps m.slot m.number (filter (is_move_of m.slot m.number) ms)) xs

pub all_hold-true : (ps : List Played) (ms xs : List Move) → all_hold ps ms xs ≡ true → AllByRecursion (HasItsHolders ps ms) xs
all_hold-true ps ms [] h = tt
all_hold-true ps ms (m ∷ xs) h =
    let here : List Move = filter (is_move_of m.slot m.number) ms in
    let (a, b) = and_parts (has_holders ps m.slot m.number here) (all_hold ps ms xs) h in
    (has_holders-true ps m.slot m.number here a, all_hold-true ps ms xs b)

module _ (ps : List Played) (journal : List RootEntry) where
  held : all_hold ps (moves_of journal) (moves_of journal) ≡ true → (p : ℕ) (s : SlotName) (k : ℕ) →
      HasHolders ps s k (moves_at (journal_at (journal ∷ []) p) s k)
  held hold zero s k = all_have_holders ps (moves_of journal) (all_hold-true ps (moves_of journal) (moves_of journal) hold) s k
  held hold (suc p) s k = tt

  away : all_stay_away journal ≡ true → (p i j asked : ℕ) (slot : Numbered) (e f : RootEntry) → IsEntry (journal_at (journal ∷ [])) p i e →
      e.act ≡ Unmap asked slot →
      IsEntry (journal_at (journal ∷ [])) p j f → i < j → NamesSlot f slot.slot → ⊥
  away stay zero i j asked slot e f at is at' less = away_from_journal journal stay i j asked slot e f at is at' less
  away stay (suc p) i j asked slot e f at is at' less = absurd (not_some e at)

  away_after : list_all (λ (e : RootEntry). all_lower ps (gone_by e.act)) journal ≡ true →
      (p i asked n : ℕ) (slot : Numbered) (e : RootEntry) (x : Played) →
      IsEntry (journal_at (journal ∷ [])) p i e → e.act ≡ Unmap asked slot → Contains ps x → IsOfSlot x slot.slot n → n < slot.number
  away_after lower zero i asked n slot e x at is = away_from_records ps journal lower i asked n slot e x at is
  away_after lower (suc p) i asked n slot e x at is = absurd (not_some e at)

  -- the holders of a run with one journal
  pub holders_of_one : all_hold ps (moves_of journal) (moves_of journal) ≡ true → all_stay_away journal ≡ true →
      list_all (λ (e : RootEntry). all_lower ps (gone_by e.act)) journal ≡ true →
      AllByRecursion (IsIssued ps (journal_at (journal ∷ []))) ps → AreHolders ps (journal_at (journal ∷ []))
  holders_of_one hold stay lower all_issued = record {
    moves = held hold;
    issues = λ x seen usable among a. each (IsIssued ps (journal_at (journal ∷ []))) ps all_issued x among seen usable a;
    gone_from_journal = away stay;
    gone_from_records = away_after lower;
  }
