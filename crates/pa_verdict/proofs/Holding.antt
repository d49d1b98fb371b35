-- The clause of the holders, record by record and entry by entry.
use Rattle.std.proofs.Common.{◌≡◌, ℕ, true, List, [], ◌∷◌, ◌++◌, refl, subst, sym, ◌∙◌, ap, arith, inl, inr}
use Rattle.std.specs.Prelude.{Contains, AllPairs}
use Rattle.std.proofs.lemmas.Bool.{eq-eqb, eqb-true, and_parts}
use Rattle.pa_trace.specs.declared.script.Trace.{Trace}
use Rattle.pa_slot.specs.declared.word.SlotName.{SlotName}
use Rattle.pa_slot.specs.Count.{number_of}
use Rattle.pa_slot.specs.Run.{Mark, IsFirstAt, Slots}
use Rattle.pa_slot.proofs.Runs.{same_slot_yes, same_slot_eq}
use Rattle.pa_record.specs.declared.root.RootEntry.{RootEntry}
use Rattle.pa_rules.specs.declared.played.Played.{Played}
use Rattle.pa_rules.specs.declared.verdict.Clause.TheVariants as clauses
use Rattle.pa_rules.specs.declared.verdict.Place.TheVariants as places
use Rattle.pa_rules.specs.Told.{Told, records_of}
use Rattle.pa_rules.specs.Played.{marks_of}
use Rattle.pa_rules.specs.Roots.{Journals, IsEntry}
use Rattle.pa_rules.specs.Order.{IsOfLine}
use Rattle.pa_rules.specs.Holders.{Holder, WithThread, Move, is_move_of, moves_at, IsReturnedBy, IsFirstHolder, made_by, needed_by, HolderAfter, MovesFit, HasHolders, AreHolders}
use Rattle.pa_rules.specs.HeapDemands.{MovesOfEntryFit, RecordHolds}
use Rattle.pa_rules.proofs.Marking.{mark_line}
use Rattle.pa_rules.proofs.Running.{OtherRecord, one_mark, marks_differ, same_word}
use Rattle.pa_rules.proofs.ByLines.{same_record}
use Rattle.pa_rules.proofs.Phases.{mark_in}
use Rattle.pa_verdict.specs.Clauses.{IsMet, HoldersArePlaces}
use Rattle.pa_lists.proofs.Indexed.{at_in, in_at}
use Rattle.pa_verdict.proofs.Ordering.{due_differ}
use Rattle.pa_verdict.proofs.Moves.{entry_moves, moves_before, moves_split, move_place}

-- ---- from the clause to each place

fit_split : (ps : List Played) (h : Holder) (pre rest : List Move) (m : Move) → MovesFit ps h (pre ++ m ∷ rest) → (x : Played) ×
    IsOfLine ps m.line x × HolderAfter ps h pre (needed_by m.way x)
fit_split ps h [] rest m (x, of, same, more) = (x, of, sym same)
fit_split ps h (n ∷ pre) rest m (y, of, same, more) =
    let (x, of', after) = fit_split ps (made_by n.way y) pre rest m more in
    (x, of', (y, of, after))

has_fit : (ps : List Played) (s : SlotName) (k : ℕ) (pre rest : List Move) (m : Move) → HasHolders ps s k (pre ++ m ∷ rest) → (h : Holder) ×
    IsFirstHolder ps s k h × MovesFit ps h (pre ++ m ∷ rest)
has_fit ps s k [] rest m h = h
has_fit ps s k (n ∷ pre) rest m h = h

pub own_move : (m : Move) → is_move_of m.slot m.number m ≡ true
own_move m = rw (same_slot_yes m.slot m.slot refl, eq-eqb m.number m.number refl) refl

-- what an entry owes for one of its moves
abbrev IsOwed : List Played → List RootEntry → ℕ → List Move → Move → SlotName → ℕ → Type 0
IsOwed ps es j before m s k =
    (h : Holder) × (x : Played) × IsFirstHolder ps s k h × IsOfLine ps m.line x ×
    HolderAfter ps h (moves_before es s k j before) (needed_by m.way x)

owed : (ps : List Played) (roots : Journals) (p j : ℕ) (e : RootEntry) (before after : List Move) (m : Move) → AreHolders ps roots →
    IsEntry roots p j e → entry_moves e ≡ before ++ m ∷ after
    → IsOwed ps (roots p) j before m m.slot m.number
owed ps roots p j e before after m h at parts =
    let s = m.slot in
    let k = m.number in
    let (rest, is) = moves_split (roots p) s k j e before after m at parts (own_move m) in
    let pre = moves_before (roots p) s k j before in
    let (first, is_first, fit) = has_fit ps s k pre rest m (subst (λ zs. HasHolders ps s k zs) is (h.moves p s k)) in
    let (x, of, then) = fit_split ps first pre rest m fit in
    (first, x, is_first, of, then)

holders_meet : (t : Trace) (r : Told) → AreHolders (records_of t r) r.roots → IsMet clauses.Holders t r
holders_meet t r h (places.Record i) = λ x at.
    let among = at_in (records_of t r) i x at in
    record {
      issues = λ seen usable made. h.issues x seen usable among made;
      gone = λ p i asked n slot e there act of. h.gone_from_records p i asked n slot e x there act among of;
    }
holders_meet t r h (places.Root p j) = λ e at. record {
  holders = λ before after m parts. owed (records_of t r) r.roots p j e before after m h at parts;
  gone = λ i asked slot f there act less names. h.gone_from_journal p i j asked slot f e there act at less names;
}
holders_meet t r h (places.Pool j) = tt
holders_meet t r h (places.Cell k j) = tt
holders_meet t r h (places.Report i) = tt

-- ---- from each place to the clause

-- what is known of the records
record AreKnown (ps : List Played) : Type 0 where
  differ : AllPairs OtherRecord ps
  slots : Slots (marks_of ps)

returned_one : (ps : List Played) (s : SlotName) (k : ℕ) (x y : Played) → AreKnown ps → IsReturnedBy ps s k x → IsReturnedBy ps s k y →
    x ≡ y
returned_one ps s k x y known (among, m, p, is, slot, made, back, number) (among', n, q, is', slot', made', back', number') =
    let ms = marks_of ps in
    let (vs, run, one) = known.slots s in
    let there = mark_in ps x m among is in
    let there' = mark_in ps y n among' is' in
    let numbers : number_of m.found ≡ number_of n.found = omega arith in
    let word = same_word ms s 0 vs m.found n.found run (one.found m there slot) (one.found n there' slot') numbers in
    let first = (one.used m p there slot made).0 in
    let second = (one.used n q there' slot' made').0 in
    let mark = one_mark ms s n.found m n p q (marks_differ ps known.differ) (subst (λ z. IsFirstAt ms s z m p) word first) second in
    same_record ps x y known.differ among among' (sym (mark_line x m is) ∙ ap (λ (z : Mark). z.line) mark ∙ mark_line y n is')

first_one : (ps : List Played) (s : SlotName) (k : ℕ) (h g : Holder) → AreKnown ps → IsFirstHolder ps s k h → IsFirstHolder ps s k g → h ≡ g
first_one ps s k h g known (inl (none, is)) (inl (none', is')) = is ∙ sym is'
first_one ps s k h g known (inl (none, is)) (inr (x, (among, m, p, of, slot, made, back, number), is')) = absurd (omega arith)
first_one ps s k h g known (inr (x, (among, m, p, of, slot, made, back, number), is)) (inl (none, is')) = absurd (omega arith)
first_one ps s k h g known (inr (x, back, is)) (inr (y, back', is')) = is ∙
    ap (λ (z : Played). WithThread z.thread) (returned_one ps s k x y known back back') ∙ sym is'

-- the holder that each of these moves needs, after those before it
abbrev AreOwed : List Played → Holder → List Move → Type 0
AreOwed ps h ms = (pre rest : List Move) (m : Move) → ms ≡ pre ++ m ∷ rest → (x : Played) × IsOfLine ps m.line x ×
    HolderAfter ps h pre (needed_by m.way x)

owed_next : (ps : List Played) (h : Holder) (m : Move) (ms : List Move) (x : Played) → AllPairs OtherRecord ps → IsOfLine ps m.line x →
    AreOwed ps h (m ∷ ms) → AreOwed ps (made_by m.way x) ms
owed_next ps h m ms x differ (among, line) owes pre rest n e =
    let (y, of, (z, (among', line'), after)) = owes (m ∷ pre) rest n (ap (λ zs. m ∷ zs) e) in
    let same = same_record ps z x differ among' among (line' ∙ sym line) in
    (y, of, subst (λ w. HolderAfter ps (made_by m.way w) pre (needed_by n.way y)) same after)

owed_fit : (ps : List Played) (h : Holder) (ms : List Move) → AllPairs OtherRecord ps → AreOwed ps h ms → MovesFit ps h ms
owed_fit ps h [] differ owes = tt
owed_fit ps h (m ∷ ms) differ owes =
    let (x, of, same) = owes [] ms m refl in
    (x, of, sym same, owed_fit ps (made_by m.way x) ms differ (owed_next ps h m ms x differ of owes))

-- each of these moves of a slot at a number has some first holder from which it is owed
abbrev AreMovesOwed : List Played → SlotName → ℕ → List Move → Type 0
AreMovesOwed ps s k ms =
    (pre rest : List Move) (m : Move) → ms ≡ pre ++ m ∷ rest
    → (h : Holder) × (x : Played) × IsFirstHolder ps s k h × IsOfLine ps m.line x × HolderAfter ps h pre (needed_by m.way x)

holders_whole : (ps : List Played) (s : SlotName) (k : ℕ) (ms : List Move) → AreKnown ps → AreMovesOwed ps s k ms → HasHolders ps s k ms
holders_whole ps s k [] known owes = tt
holders_whole ps s k (m ∷ ms) known owes =
    let (h, x, first, of, same) = owes [] ms m refl in (
      h,
      first,
      owed_fit ps h (m ∷ ms) known.differ (λ pre rest n e.
          let (g, y, first', of', after) = owes pre rest n e in
          (y, of', subst (λ z. HolderAfter ps z pre (needed_by n.way y)) (first_one ps s k g h known first' first) after)),
    )

moves_owed : (ps : List Played) (roots : Journals) (p : ℕ) (s : SlotName) (k : ℕ) →
    ((j : ℕ) (e : RootEntry) → IsEntry roots p j e → MovesOfEntryFit ps roots p j e)
    → AreMovesOwed ps s k (moves_at (roots p) s k)
moves_owed ps roots p s k fits pre rest m e =
    let u = move_place (roots p) s k pre rest m e in
    let es = roots p in
    let parts = and_parts _ _ u.passes in
    let slot = same_slot_eq m.slot s parts.0 in
    let number = eqb-true m.number k parts.1 in
    let here : IsOwed ps es u.j u.before m m.slot m.number = (fits u.j u.entry u.at_place).holders u.before u.after m u.parts in
    let there : IsOwed ps es u.j u.before m s k =
    subst (λ z. IsOwed ps es u.j u.before m s z) number (subst (λ z. IsOwed ps es u.j u.before m z m.number) slot here) in
    let (h, x, first, of, after) = there in
    (h, x, first, of, subst (λ zs. HolderAfter ps h zs (needed_by m.way x)) u.first after)

pub holders_are_places : HoldersArePlaces
holders_are_places t r due slots = (
  holders_meet t r,
  λ met.
      let ps = records_of t r in
      let fits : (p j : ℕ) (e : RootEntry) → IsEntry r.roots p j e → MovesOfEntryFit ps r.roots p j e = λ p j. met (places.Root p j) in
      let known : AreKnown ps = record { differ = due_differ t r due; slots = slots } in
      let holds : (x : Played) → Contains ps x → RecordHolds ps r.roots x = λ x among. let (i, at) = in_at ps x among in
      met (places.Record i) x at in
      record {
        moves = λ p s k. holders_whole ps s k (moves_at (r.roots p) s k) known (moves_owed ps r.roots p s k (fits p));
        issues = λ x seen usable among. (holds x among).issues seen usable;
        gone_from_journal = λ p i j asked slot e f at act at' less. (fits p j f at').gone i asked slot e at act less;
        gone_from_records = λ p i asked n slot e x at act among. (holds x among).gone p i asked n slot e at act;
      },
)
