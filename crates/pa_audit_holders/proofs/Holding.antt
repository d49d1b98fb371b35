-- Who holds a slot after all journals.
use Rattle.std.proofs.Common.{◌≡◌, ℕ, ◌+◌, ◌<◌, ◌≤◌, ◌↔◌, Bool, true, false, List, [], get_or, length, Option, Some, None, refl, sym, ◌∙◌, ap, subst, arith, inl, inr}
use Rattle.std.specs.Prelude.{IsSome, IsTrue, slice_get}
use Rattle.std.proofs.lemmas.Bool.{cases_eq, cases_lt, false≢true}
use Rattle.std.proofs.lemmas.List.{get_or_past}
use Rattle.std.proofs.lemmas.Option.{slice_get-get_or, slice_get_within}
use Rattle.std.specs.Option.{option_map}
use Rattle.pa_slot.specs.declared.word.SlotName.{SlotName}
use Rattle.pa_slot.specs.Count.{number_of}
use Rattle.pa_slot.specs.Run.{Mark}
use Rattle.pa_record.specs.declared.entry.Seen.{Seen}
use Rattle.pa_record.specs.declared.entry.Answer.TheVariants.{Made}
use Rattle.pa_record.specs.declared.numbered.Numbered.{Numbered}
use Rattle.pa_record.specs.declared.root.RootEntry.{RootEntry}
use Rattle.pa_lists.proofs.Members.{not_some, of_some}
use Rattle.pa_rules.specs.declared.played.Played.{Played}
use Rattle.pa_rules.specs.declared.verdict.Place.TheVariants as places
use Rattle.pa_rules.specs.Roots.{Journals, journal_at}
use Rattle.pa_rules.specs.Holders.{Holder, InRoot, WithThread, HolderAfter, IsHeld, IsOfSlot, moves_at}
use Rattle.pa_rules.specs.Played.{mark_of}
use Rattle.pa_rules.specs.HeapDemands.{HoldersDemand, RecordHolds}
use Rattle.pa_audit_records.specs.Keys.{word_key}
use Rattle.pa_audit_records.specs.Marks.{IsSized}
use Rattle.pa_audit_holders.specs.declared.owners.Owner.{Owner}
use Rattle.pa_audit_holders.specs.declared.owners.Owner.TheVariants.{Nobody, Root, Thread}
use Rattle.pa_audit_holders.specs.Owners.{AreOfRuns, HasOwners, HolderNow, TellsOwner}
use Rattle.pa_legal.specs.Numbers.{all_moves}
use Rattle.pa_audit_holders.specs.Gone.{IsUnmapped}
use Rattle.pa_audit_holders.specs.Holding.{FoundSoFar, IsIssued, StaysThere, TellsHeld, either_of, slot_by}
use Rattle.pa_audit_holders.proofs.Owning.{holder_one}

-- ---- journal by journal

-- what the table of a journal has of the slot at the number
abbrev OwnerIn : List Played → Journals → SlotName → ℕ → ℕ → Option Owner → Type 0
OwnerIn ps roots s k n None = moves_at (roots n) s k ≡ []
OwnerIn ps roots s k n (Some o) = TellsOwner ps (moves_at (roots n) s k) s k o × (moves_at (roots n) s k ≡ [] → ⊥)

owner_in : (ps : List Played) (roots : Journals) (s : SlotName) (k n : ℕ) (f : ℕ → Option Owner) (o : Option Owner) → IsSized s k
    → HasOwners ps (all_moves (roots n)) f → f (word_key s k) ≡ o → OwnerIn ps roots s k n o
owner_in ps roots s k n f None sized h at = h.miss s k sized at
owner_in ps roots s k n f (Some o) sized h at = h.hit s k o sized at

below_next : (n : ℕ) (P : ℕ → Type 0) → ((q : ℕ) → q < n → P q) → P n → (q : ℕ) → q < n + 1 → P q
below_next n P before here q less = elim (cases_lt q n) [
  | inl first ↦ before q first
  | inr least ↦ let same : n ≡ q = omega (arith, less, least) in subst P same here
]

next_by : (ps : List Played) (roots : Journals) (s : SlotName) (k n : ℕ) (found o : Option Owner) → FoundSoFar ps roots s k n found
    → OwnerIn ps roots s k n o → (IsSome found × IsSome o → ⊥) → FoundSoFar ps roots s k (n + 1) (either_of found o)
next_by ps roots s k n None None h here one = below_next n (λ q. moves_at (roots q) s k ≡ []) h here
next_by ps roots s k n None (Some o) h (owner, some) one = record {
  partition = n;
  below = omega arith;
  some = some;
  others = below_next n (λ q. (q ≡ n → ⊥) → moves_at (roots q) s k ≡ []) (λ q less other. h q less) (λ other. absurd (other refl));
  owner = owner;
}
next_by ps roots s k n (Some f) None h here one =
    let less = h.below in
    record {
      partition = h.partition;
      below = omega (arith, less);
      some = h.some;
      others = below_next n (λ q. (q ≡ h.partition → ⊥) → moves_at (roots q) s k ≡ []) h.others (λ other. here);
      owner = h.owner;
    }
next_by ps roots s k n (Some f) (Some o) h here one = absurd (one (refl, refl))

pub found_next : (ps : List Played) (roots : Journals) (s : SlotName) (k n : ℕ) (f : ℕ → Option Owner) (found : Option Owner)
    → IsSized s k → HasOwners ps (all_moves (roots n)) f → FoundSoFar ps roots s k n found →
    (IsSome found × IsSome (f (word_key s k)) → ⊥) → FoundSoFar ps roots s k (n + 1) (either_of found (f (word_key s k)))
found_next ps roots s k n f found sized own h one =
    next_by ps roots s k n found (f (word_key s k)) h (owner_in ps roots s k n f (f (word_key s k)) sized own refl) one

two_by : (ps : List Played) (roots : Journals) (s : SlotName) (k n : ℕ) (found o : Option Owner) → FoundSoFar ps roots s k n found
    → OwnerIn ps roots s k n o → IsSome found × IsSome o → (last : Holder) → IsHeld ps roots s k last → ⊥
two_by ps roots s k n None o h here (a, b) last held = absurd (false≢true a)
two_by ps roots s k n (Some f) None h here (a, b) last held = absurd (false≢true b)
two_by ps roots s k n (Some f) (Some o) h here two last (p, holder, others, first, after) =
    let less = h.below in
    elim (cases_eq p h.partition) [
      | inl same ↦ here.1 (others n (λ e. let up : n ≡ h.partition = e ∙ same in omega (arith, up, less)))
      | inr other ↦ h.some (others h.partition (λ e. other (sym e)))
    ]

-- two journals name it
pub found_two : (ps : List Played) (roots : Journals) (s : SlotName) (k n : ℕ) (f : ℕ → Option Owner) (found : Option Owner) → IsSized s k
    → HasOwners ps (all_moves (roots n)) f → FoundSoFar ps roots s k n found →
    IsSome found × IsSome (f (word_key s k)) → TellsHeld ps roots s k Nobody
found_two ps roots s k n f found sized own h two =
    two_by ps roots s k n found (f (word_key s k)) h (owner_in ps roots s k n f (f (word_key s k)) sized own refl) two

-- ---- after all

-- no other journal than this one names it
held_in : (ps : List Played) (roots : Journals) (s : SlotName) (k p : ℕ) (o : Owner)
    → ((q : ℕ) → (q ≡ p → ⊥) → moves_at (roots q) s k ≡ []) →
    ((last : Holder) → IsHeld ps roots s k last → HolderNow ps (moves_at (roots p) s k) s k last) →
    TellsOwner ps (moves_at (roots p) s k) s k o → TellsHeld ps roots s k o
held_in ps roots s k p Nobody others only none = λ last held. none last (only last held)
held_in ps roots s k p Root others only (h, first, after) = (p, h, others, first, after)
held_in ps roots s k p (Thread t) others only (h, first, after) = (p, h, others, first, after)

pub held_found : (ps : List Played) (roots : Journals) (s : SlotName) (k n : ℕ) (o : Owner)
    → ((q : ℕ) → n ≤ q → moves_at (roots q) s k ≡ []) → FoundSoFar ps roots s k n (Some o) → TellsHeld ps roots s k o
held_found ps roots s k n o past h = held_in ps roots s k h.partition o
    (λ q other. elim (cases_lt q n) [ inl less ↦ h.others q less other | inr more ↦ past q more ])
    (λ last (p, holder, others, first, after). elim (cases_eq h.partition p) [
      | inl same ↦ (holder, first, subst (λ q. HolderAfter ps holder (moves_at (roots q) s k) last) (sym same) after)
      | inr other ↦ absurd (h.some (others h.partition other))
    ])
    h.owner

pub held_first : (ps : List Played) (roots : Journals) (s : SlotName) (k n : ℕ) (o : Owner)
    → ((q : ℕ) → n ≤ q → moves_at (roots q) s k ≡ []) → FoundSoFar ps roots s k n None → TellsOwner ps [] s k o → TellsHeld ps roots s k o
held_first ps roots s k n o past h tells =
    let none : (q : ℕ) → moves_at (roots q) s k ≡ [] = λ q. elim (cases_lt q n) [ inl less ↦ h q less | inr more ↦ past q more ] in
    held_in ps roots s k 0 o (λ q other. none q)
    (λ last (p, holder, others, first, after). (holder, first, subst (λ ms. HolderAfter ps holder ms last) (none p ∙ sym (none 0)) after))
    (subst (λ ms. TellsOwner ps ms s k o) (sym (none 0)) tells)

-- a journal that isn't there moves nothing
pub no_moves_past : (roots : List (List RootEntry)) (s : SlotName) (k n : ℕ) → length roots ≤ n → (q : ℕ) → n ≤ q →
    moves_at (journal_at roots q) s k ≡ []
no_moves_past roots s k n end q past = ap (λ es. moves_at es s k) (get_or_past roots q [] (omega (arith, end, past)))

-- ---- a record

held_one : (ps : List Played) (roots : Journals) (s : SlotName) (k : ℕ) (a b : Holder) → AreOfRuns ps →
    IsHeld ps roots s k a → IsHeld ps roots s k b → a ≡ b
held_one ps roots s k a b known (p, h, others, first, after) (q, g, others', first', after') = elim (cases_eq p q) [
  | inl same ↦ holder_one ps (moves_at (roots p) s k) s k a b known (h, first, after)
      (g, first', subst (λ z. HolderAfter ps g (moves_at (roots z) s k) b) (sym same) after')
  | inr other ↦
      let none : moves_at (roots q) s k ≡ [] = others q (λ e. other (sym e)) in
      let none' : moves_at (roots p) s k ≡ [] = others' p other in
      holder_one ps [] s k a b known (h, first, subst (λ ms. HolderAfter ps h ms a) none' after)
      (g, first', subst (λ ms. HolderAfter ps g ms b) none after')
]

thread_is : (s t : ℕ) → WithThread s ≡ WithThread t → s ≡ t
thread_is s t e = cc

pub held_is : (ps : List Played) (roots : Journals) (s : SlotName) (k t : ℕ) (o : Owner) → AreOfRuns ps → TellsHeld ps roots s k o →
    (o ≡ Thread t) ↔ IsHeld ps roots s k (WithThread t)
held_is ps roots s k t Nobody known none = (λ e. absurd (cc e), λ held. absurd (none (WithThread t) held))
held_is ps roots s k t Root known in_root =
    (λ e. absurd (cc e), λ held. let e = held_one ps roots s k InRoot (WithThread t) known in_root held in absurd (cc e))
held_is ps roots s k t (Thread u) known with_one = (
  λ e. let same : u ≡ t = cc e in subst (λ z. IsHeld ps roots s k (WithThread z)) same with_one,
  λ held. ap Thread (thread_is u t (held_one ps roots s k (WithThread u) (WithThread t) known with_one held)),
)

seen_one : (a b : Seen) (u v : ℕ) → Made a u ≡ Made b v → a ≡ b
seen_one a b u v e = cc

pub issued_is : (ps : List Played) (roots : Journals) (x : Played) (seen : Seen) (usable : ℕ) → x.answer ≡ Made seen usable
    → IsHeld ps roots seen.slot (number_of seen.found.0) (WithThread x.thread) ↔ IsIssued ps roots x
issued_is ps roots x seen usable is = (
  λ held other v is'. subst (λ (z : Seen). IsHeld ps roots z.slot (number_of z.found.0) (WithThread x.thread))
      (seen_one seen other usable v (sym is ∙ is')) held,
  λ each. each seen usable is,
)

pub stays_is : (roots : Journals) (x : Played) (s : SlotName) (k : ℕ) → IsOfSlot x s k →
    ((p n : ℕ) → IsUnmapped (roots p) s n → k < n) ↔ StaysThere roots x
stays_is roots x s k of = (
  λ each p n j t gone (m', is', slot', number').
      let (m, is, slot, number) = of in
      let same : m ≡ m' = of_some m m' (sym is ∙ is') in
      let name : t ≡ s = sym slot' ∙ sym (ap (λ (z : Mark). z.slot) same) ∙ slot in
      let found : k ≡ j = sym number ∙ ap (λ (z : Mark). number_of z.found) same ∙ number' in
      subst (λ z. z < n) found (each p n (subst (λ z. IsUnmapped (roots p) z n) name gone)),
  λ there p n gone. there p n k s gone of,
)

pub record_is : (ps : List Played) (roots : Journals) (x : Played) (issued stays both : Bool) → IsTrue issued ↔ IsIssued ps roots x
    → IsTrue stays ↔ StaysThere roots x → IsTrue both ↔ (IsTrue issued × IsTrue stays) → IsTrue both ↔ RecordHolds ps roots x
record_is ps roots x issued stays both a b joint = (
  λ yes. record {
    issues = a.0 (joint.0 yes).0;
    gone = λ p i asked n slot e at is of. b.0 (joint.0 yes).1 p slot.number n slot.slot (i, asked, e, at, is) of;
  },
  λ holds. joint.1 (
    a.1 holds.issues,
    b.1 (λ p n k s (i, asked, e, at, is) of. holds.gone p i asked k (record { slot = s; number = n }) e at is of),
  ),
)

pub record_fits : (ps : List Played) (roots : Journals) (i : ℕ) (d : Played) (issued stays both : Bool) → i < length ps
    → IsTrue issued ↔ IsIssued ps roots (get_or ps i d) → IsTrue stays ↔ StaysThere roots (get_or ps i d) →
    IsTrue both ↔ (IsTrue issued × IsTrue stays) → IsTrue both ↔ HoldersDemand ps roots (places.Record i)
record_fits ps roots i d issued stays both below a b joint =
    let x = get_or ps i d in
    let at : slice_get ps i ≡ Some x = slice_get-get_or ps i d below in
    let is = record_is ps roots x issued stays both a b joint in
    (λ yes y at'. subst (λ (z : Played). RecordHolds ps roots z) (of_some x y (sym at ∙ at')) (is.0 yes), λ each. is.1 (each x at))

pub record_stops : (P : ℕ → Type 0) (at i : ℕ) (fits : Bool) → at ≡ i → IsTrue fits ↔ P i → fits ≡ false → ((j : ℕ) → j < at → P j) →
    (P at → ⊥) × ((j : ℕ) → j < at → P j)
record_stops P at i fits same is fails before = (λ met. false≢true (sym fails ∙ is.1 (subst P same met)), before)

pub record_next : (P : ℕ → Type 0) (at i : ℕ) (fits : Bool) → at ≡ i → IsTrue fits ↔ P i → fits ≡ true →
    ((j : ℕ) → j < at → P j) → (j : ℕ) → j < at + 1 → P j
record_next P at i fits same is holds before = below_next at P before (subst P (sym same) (is.0 holds))

pub records_all : (ps : List Played) (roots : Journals) (n : ℕ) → length ps ≤ n →
    ((j : ℕ) → j < n → HoldersDemand ps roots (places.Record j)) → (j : ℕ) → HoldersDemand ps roots (places.Record j)
records_all ps roots n end h j = elim (cases_lt j n) [
  | inl less ↦ h j less
  | inr past ↦ λ x at. let within = slice_get_within ps j x at in absurd (omega (arith, within, past, end))
]

-- ---- what a record reports of a slot

pub slot_told : (x : Played) (n : Numbered) → Some n ≡ option_map slot_by (mark_of x) → IsOfSlot x n.slot n.number
slot_told x n is = by_mark (mark_of x) refl is
  where
    by_mark : (o : Option Mark) → mark_of x ≡ o → Some n ≡ option_map slot_by o → IsOfSlot x n.slot n.number
    by_mark None e f = absurd (not_some n (sym f))
    by_mark (Some m) e f = let same = of_some n (slot_by m) f in
        (m, e, sym (ap (λ (z : Numbered). z.slot) same), sym (ap (λ (z : Numbered). z.number) same))

pub slot_none : (x : Played) → None ≡ option_map slot_by (mark_of x) → (s : SlotName) (k : ℕ) → IsOfSlot x s k → ⊥
slot_none x is s k (m, e, slot, number) = not_some (slot_by m) (is ∙ ap (option_map slot_by) e)

-- ---- the direct maps that went back

pub there_next : (roots : Journals) (s : SlotName) (k i : ℕ) → ((p n : ℕ) → p < i → IsUnmapped (roots p) s n → k < n)
    → ((n : ℕ) → IsUnmapped (roots i) s n → k < n) → (p n : ℕ) → p < i + 1 → IsUnmapped (roots p) s n → k < n
there_next roots s k i before here p n less gone =
    below_next i (λ q. IsUnmapped (roots q) s n → k < n) (λ q below. before q n below) (here n) p less gone

pub there_all : (roots : List (List RootEntry)) (s : SlotName) (k i : ℕ) → length roots ≤ i
    → ((p n : ℕ) → p < i → IsUnmapped (journal_at roots p) s n → k < n) → (p n : ℕ) → IsUnmapped (journal_at roots p) s n → k < n
there_all roots s k i end h p n gone = elim (cases_lt p i) [
  | inl less ↦ h p n less gone
  | inr past ↦
      let (j, asked, e, at, is) = gone in
      let none : journal_at roots p ≡ [] = get_or_past roots p [] (omega (arith, end, past)) in
      let within = slice_get_within (journal_at roots p) j e at in
      absurd (omega (arith, within, ap (λ (es : List RootEntry). length es) none))
]
