-- The holders of a written run: the moves that it has, and what went back for good.
use Rattle.std.proofs.Common.{◌≡◌, ℕ, zero, suc, ◌<◌, Bool, true, ◌&&◌, not, eqb, ltb, List, [], ◌∷◌, filter, Option, Some, None, refl, sym, ◌∙◌, ap, subst, arith, inl, inr}
use Rattle.std.specs.Prelude.{Contains, slice_get}
use Rattle.std.specs.List.{AllByRecursion, list_all, list_any}
use Rattle.std.proofs.lemmas.Bool.{and_parts, eqb-true, ltb-true, not-true}
use Rattle.pa_slot.specs.declared.word.SlotName.{SlotName}
use Rattle.pa_slot.specs.Count.{number_of}
use Rattle.pa_slot.specs.Run.{Mark, same_slot}
use Rattle.pa_slot.proofs.Runs.{same_slot_yes, same_slot_eq}
use Rattle.pa_record.specs.declared.entry.Seen.{Seen}
use Rattle.pa_record.specs.declared.entry.Answer.TheVariants as answers
use Rattle.pa_record.specs.declared.numbered.Numbered.{Numbered}
use Rattle.pa_record.specs.declared.root.RootEntry.{RootEntry}
use Rattle.pa_record.specs.declared.root.RootAct.{RootAct}
use Rattle.pa_record.specs.declared.root.RootAct.TheVariants.{Fill, Map, Full, Give, Unmap, Purge}
use Rattle.pa_lists.proofs.Members.{of_some, not_some}
use Rattle.pa_lists.proofs.Joined.{filter_cases}
use Rattle.pa_rules.specs.declared.played.Played.{Played}
use Rattle.pa_rules.specs.Played.{mark_of}
use Rattle.pa_rules.specs.Roots.{Journals, journal_at}
use Rattle.pa_rules.specs.Holders.{WithThread, Move, moves_by, is_move_of, moves_at, HasHolders, IsHeld, IsOfSlot, NamesSlot}
use Rattle.pa_examples.proofs.worked.Lists.{each, implies, implied, none_passes, none_or_some}
use Rattle.pa_lists.proofs.Indexed.{at_in}
use Rattle.pa_lists.proofs.Elements.{passes}

-- The moves of each slot at each number have the holders that they need, if those of the slot and the number of each
-- move have: of any other there is no move.
abbrev pub HasItsHolders : List Played → List Move → Move → Type 0
HasItsHolders ps ms m = HasHolders ps m.slot m.number (filter (is_move_of m.slot m.number) ms)

pub all_have_holders : (ps : List Played) (ms : List Move) → AllByRecursion (HasItsHolders ps ms) ms → (s : SlotName) (k : ℕ) →
    HasHolders ps s k (filter (is_move_of s k) ms)
all_have_holders ps ms h s k = elim (none_or_some (filter (is_move_of s k) ms)) [
  | inl e ↦ subst (λ xs. HasHolders ps s k xs) (sym e) tt
  | inr (m, among) ↦
      let (member, same) = filter_cases (is_move_of s k) ms m among in
      let (a, b) = and_parts (same_slot m.slot s) (eqb m.number k) same in
      let here = each (HasItsHolders ps ms) ms h m member in
      let there : HasHolders ps s m.number (filter (is_move_of s m.number) ms) =
      subst (λ t. HasHolders ps t m.number (filter (is_move_of t m.number) ms)) (same_slot_eq m.slot s a) here in
      subst (λ n. HasHolders ps s n (filter (is_move_of s n) ms)) (eqb-true m.number k b) there
]

-- a thread has this slot at the number that was found
abbrev pub HasIt : List Played → Journals → ℕ → Seen → Type 0
HasIt ps roots thread seen = IsHeld ps roots seen.slot (number_of seen.found.0) (WithThread thread)

-- if the record made a slot, its thread has it
abbrev pub IsIssued : List Played → Journals → Played → Type 0
IsIssued ps roots x = (seen : Seen) (usable : ℕ) → x.answer ≡ answers.Made seen usable → HasIt ps roots x.thread seen

pub issued : (ps : List Played) (roots : Journals) (thread : ℕ) (seen : Seen) (usable : ℕ) → HasIt ps roots thread seen →
    (other : Seen) (usable' : ℕ) →
    answers.Made seen usable ≡ answers.Made other usable' → HasIt ps roots thread other
issued ps roots thread seen usable has other usable' a = let same : seen ≡ other = cc in subst (λ z. HasIt ps roots thread z) same has

-- only the first journal has entries
pub no_moves : (journal : List RootEntry) (s : SlotName) (k q : ℕ) → (q ≡ 0 → ⊥) → moves_at (journal_at (journal ∷ []) q) s k ≡ []
no_moves journal s k zero ne = absurd (ne refl)
no_moves journal s k (suc q) ne = refl

-- the slot that an entry gives back for good
abbrev pub gone_by : RootAct → Option Numbered
gone_by (Fill class asked slots) = None
gone_by (Map asked slot len) = None
gone_by (Full class asked) = None
gone_by (Give slots) = None
gone_by (Unmap asked slot) = Some slot
gone_by Purge = None

abbrev pub names_slot : SlotName → RootEntry → Bool
names_slot s e = list_any (λ (m : Move). same_slot m.slot s) (moves_by e.line e.act)

-- none of these entries names the slot, if there is one
abbrev pub stays_away : Option Numbered → List RootEntry → Bool
stays_away None es = true
stays_away (Some slot) es = list_all (λ (e : RootEntry). not (names_slot slot.slot e)) es

abbrev pub all_stay_away : List RootEntry → Bool
all_stay_away [] = true
all_stay_away (e ∷ es) = stays_away (gone_by e.act) es && all_stay_away es

not_named : (s : SlotName) (es : List RootEntry) (f : RootEntry) → list_all (λ (e : RootEntry). not (names_slot s e)) es ≡ true →
    Contains es f → NamesSlot f s → ⊥
not_named s es f h among (m, member, slot) =
    none_passes (λ (m : Move). same_slot m.slot s) (moves_by f.line f.act) m
    (not-true _ (passes (λ (e : RootEntry). not (names_slot s e)) es f h among)) member (same_slot_yes m.slot s slot)

pub away_from_journal : (es : List RootEntry) → all_stay_away es ≡ true → (i j asked : ℕ) (slot : Numbered) (e f : RootEntry) →
    slice_get es i ≡ Some e → e.act ≡ Unmap asked slot →
    slice_get es j ≡ Some f → i < j → NamesSlot f slot.slot → ⊥
away_from_journal [] h i j asked slot e f at is at' less named = not_some e at
away_from_journal (x ∷ es) h i zero asked slot e f at is at' less named = absurd (omega arith)
away_from_journal (x ∷ es) h zero (suc j) asked slot e f at is at' less named =
    let same : x.act ≡ Unmap asked slot = ap (λ (z : RootEntry). z.act) (of_some x e at) ∙ is in
    let away : stays_away (gone_by (Unmap asked slot)) es ≡ true =
    subst (λ a. stays_away (gone_by a) es ≡ true) same (and_parts (stays_away (gone_by x.act) es) (all_stay_away es) h).0 in
    not_named slot.slot es f away (at_in es j f at') named
away_from_journal (x ∷ es) h (suc i) (suc j) asked slot e f at is at' less named =
    away_from_journal es (and_parts (stays_away (gone_by x.act) es) (all_stay_away es) h).1 i j asked slot e f at is at' (omega arith) named

-- each record of a slot that went back for good found a lower number
abbrev pub is_lower : Numbered → Option Mark → Bool
is_lower slot None = true
is_lower slot (Some m) = implies (same_slot m.slot slot.slot) (ltb (number_of m.found) slot.number)

abbrev pub all_lower : List Played → Option Numbered → Bool
all_lower ps None = true
all_lower ps (Some slot) = list_all (λ (x : Played). is_lower slot (mark_of x)) ps

pub away_from_records : (ps : List Played) (es : List RootEntry) → list_all (λ (e : RootEntry). all_lower ps (gone_by e.act)) es ≡ true →
    (i asked n : ℕ) (slot : Numbered) (e : RootEntry) (x : Played) → slice_get es i ≡ Some e → e.act ≡ Unmap asked slot → Contains ps x →
    IsOfSlot x slot.slot n → n < slot.number
away_from_records ps es h i asked n slot e x at is among (m, mark, same, number) =
    let lower : list_all (λ (x : Played). is_lower slot (mark_of x)) ps ≡ true =
    subst (λ a. all_lower ps (gone_by a) ≡ true) is (passes (λ (e : RootEntry). all_lower ps (gone_by e.act)) es e h (at_in es i e at)) in
    let here : is_lower slot (Some m) ≡ true =
    subst (λ o. is_lower slot o ≡ true) mark (passes (λ (x : Played). is_lower slot (mark_of x)) ps x lower among) in
    let less = ltb-true _ _ (implied _ _ here (same_slot_yes m.slot slot.slot same)) in
    subst (λ k. k < slot.number) number less
