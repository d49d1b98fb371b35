-- What is known of a journal's slots, entry by entry.
use Rattle.std.proofs.Common.{◌≡◌, ℕ, ◌+◌, ◌<◌, ◌≤◌, ◌↔◌, Bool, List, [], ◌∷◌, ◌++◌, length, map, take, Option, Some, sym, ◌∙◌, ap, subst, arith}
use Rattle.std.specs.Prelude.{IsTrue, slice_get}
use Rattle.std.proofs.lemmas.Option.{get_or_from_slice_get, slice_get-get_or, slice_get_within}
use Rattle.std.proofs.lemmas.List.{get_or-take, length-take, take_more}
use Rattle.pa_record.specs.declared.numbered.Numbered.{Numbered}
use Rattle.pa_record.specs.declared.root.RootEntry.{RootEntry}
use Rattle.pa_lists.proofs.Members.{of_some}
use Rattle.pa_rules.specs.declared.played.Played.{Played}
use Rattle.pa_rules.specs.Roots.{Journals}
use Rattle.pa_rules.specs.Holders.{moves_by}
use Rattle.pa_rules.specs.HeapDemands.{MovesOfEntryFit}
use Rattle.pa_audit_holders.specs.declared.owners.Course.{Course}
use Rattle.pa_audit_holders.specs.declared.owners.Owner.{Owner}
use Rattle.pa_audit_holders.specs.declared.tables.Table.{Table}
use Rattle.pa_audit_holders.specs.Owners.{AllFit, HasOwners, move_on}
use Rattle.pa_legal.specs.Numbers.{all_moves}
use Rattle.pa_audit_holders.specs.Gone.{NoneGone}
use Rattle.pa_audit_holders.specs.Holding.{EntryMovesFit, EntryMovesFitAt, KnowsJournal}
use Rattle.pa_audit_holders.proofs.Going.{names_none}
use Rattle.pa_audit_holders.proofs.Moving.{holds_is, holds_was, moves_grown}

-- ---- an entry

pub owners_grown : (ps : List Played) (before : List RootEntry) (e : RootEntry) (line : ℕ) (course : Course) (slots : List Numbered)
    (g : ℕ → Option Owner) → moves_by e.line e.act ≡ map (move_on line course) slots →
    HasOwners ps (all_moves before ++ map (move_on line course) slots) g → HasOwners ps (all_moves (before ++ e ∷ [])) g
owners_grown ps before e line course slots g is h =
    subst (λ ms. HasOwners ps ms g) (ap (λ z. all_moves before ++ z) (sym is) ∙ sym (moves_grown before e)) h

pub entry_fits : (ps : List Played) (before : List RootEntry) (e : RootEntry) (line : ℕ) (course : Course) (slots : List Numbered)
    (fit stays both : Bool) → moves_by e.line e.act ≡ map (move_on line course) slots →
    IsTrue fit ↔ AllFit ps (all_moves before) (map (move_on line course) slots) → IsTrue stays ↔ NoneGone before slots
    → IsTrue both ↔ (IsTrue fit × IsTrue stays) → IsTrue both ↔ EntryMovesFit ps before e
entry_fits ps before e line course slots fit stays both is moves there joint = (
  λ yes. record {
    moves = subst (λ zs. AllFit ps (all_moves before) zs) (sym is) (moves.0 (joint.0 yes).0);
    there = (names_none before e line course slots is).0 (there.0 (joint.0 yes).1);
  },
  λ fits. joint.1 (
    moves.1 (subst (λ zs. AllFit ps (all_moves before) zs) is fits.moves),
    there.1 ((names_none before e line course slots is).1 fits.there),
  ),
)

-- ---- a journal

pub fits_at : (ps : List Played) (journal : List RootEntry) (j : ℕ) (e : RootEntry) (fits : Bool) → slice_get journal j ≡ Some e
    → IsTrue fits ↔ EntryMovesFit ps (take j journal) e → IsTrue fits ↔ EntryMovesFitAt ps journal j
fits_at ps journal j e fits at is = (
  λ yes f at'. subst (λ (z : RootEntry). EntryMovesFit ps (take j journal) z) (of_some e f (sym at ∙ at')) (is.0 yes),
  λ each. is.1 (each e at),
)

pub table_next : (ps : List Played) (journal : List RootEntry) (at i : ℕ) (e : RootEntry) (t : Table) → at ≡ i
    → slice_get journal i ≡ Some e → KnowsJournal ps (take at journal ++ e ∷ []) t → KnowsJournal ps (take (at + 1) journal) t
table_next ps journal at i e t same there h =
    let here = subst (λ n. slice_get journal n ≡ Some e) (sym same) there in
    let below = slice_get_within journal at e here in
    subst (λ es. KnowsJournal ps es t)
    (sym (take_more journal at e below ∙ ap (λ z. take at journal ++ z ∷ []) (get_or_from_slice_get journal at e e here))) h

pub past_fits : (ps : List Played) (journal : List RootEntry) (n j : ℕ) → length journal ≤ n → n ≤ j → EntryMovesFitAt ps journal j
past_fits ps journal n j end past e at = let within = slice_get_within journal j e at in absurd (omega (arith, end, past, within))

-- an entry of the first ones
in_first : (es : List RootEntry) (j i : ℕ) (e : RootEntry) → slice_get (take j es) i ≡ Some e → (i < j) × (slice_get es i ≡ Some e)
in_first es j i e at =
    let within = slice_get_within (take j es) i e at in
    let long = length-take j es in
    let less : i < j = omega (arith, within, long) in
    let below : i < length es = omega (arith, within, long) in
    (less, slice_get-get_or es i e below ∙ ap Some (sym (get_or-take j es i e less) ∙ get_or_from_slice_get (take j es) i e e at))

of_first : (es : List RootEntry) (j i : ℕ) (e : RootEntry) → i < j → slice_get es i ≡ Some e → slice_get (take j es) i ≡ Some e
of_first es j i e less at =
    let within = slice_get_within es i e at in
    let long = length-take j es in
    slice_get-get_or (take j es) i e (omega (arith, within, long, less)) ∙
    ap Some (get_or-take j es i e less ∙ get_or_from_slice_get es i e e at)

-- what the clause requires of an entry
pub entry_demand : (ps : List Played) (roots : Journals) (p j : ℕ) →
    EntryMovesFitAt ps (roots p) j ↔ ((e : RootEntry) → slice_get (roots p) j ≡ Some e → MovesOfEntryFit ps roots p j e)
entry_demand ps roots p j = (
  λ each e at. record {
    holders = holds_is ps (take j (roots p)) (moves_by e.line e.act) (each e at).moves;
    gone = λ i asked slot f at' is less named. (each e at).there slot.slot slot.number named
        (i, asked, f, of_first (roots p) j i f less at', is);
  },
  λ each e at. record {
    moves = holds_was ps (take j (roots p)) (moves_by e.line e.act) (each e at).holders;
    there = λ s n named (i, asked, f, at', is). let (less, there) = in_first (roots p) j i f at' in
        (each e at).gone i asked (record { slot = s; number = n }) f there is less named;
  },
)
