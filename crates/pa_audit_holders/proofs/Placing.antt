-- The tables of all journals, and the first entry that doesn't fit.
use Rattle.std.proofs.Common.{◌≡◌, ℕ, ◌+◌, ◌<◌, ◌≤◌, ◌↔◌, List, [], ◌∷◌, ◌++◌, get_or, length, Option, Some, None, sym, ◌∙◌, ap, subst, arith, inl, inr}
use Rattle.std.proofs.lemmas.Bool.{cases_lt}
use Rattle.std.proofs.lemmas.List.{get_or_append_left, get_or_past, get_or_push, length_push}
use Rattle.std.proofs.lemmas.Option.{slice_get_within}
use Rattle.pa_record.specs.declared.root.RootEntry.{RootEntry}
use Rattle.pa_rules.specs.declared.played.Played.{Played}
use Rattle.pa_rules.specs.declared.verdict.Place.{Place}
use Rattle.pa_rules.specs.declared.verdict.Place.TheVariants as places
use Rattle.pa_rules.specs.Roots.{Journals, journal_at}
use Rattle.pa_rules.specs.HeapDemands.{HoldersDemand}
use Rattle.pa_rules.specs.Tells.{TellsFirst}
use Rattle.pa_audit_holders.specs.declared.tables.Table.{Table}
use Rattle.pa_audit_holders.specs.Holding.{EntriesSoFar, EntryMovesFitAt, KnowsJournal, TellsHolders, entry_place, first_in}
use Rattle.pa_audit_holders.proofs.Tabling.{entry_demand}

-- the tables of the first n journals
pub record HaveTablesTo (ps : List Played) (roots : List (List RootEntry)) (tables : List Table) (n : ℕ) : Type 0 where
  pub many : length tables ≡ n
  pub each : (p : ℕ) (d : Table) → p < n → KnowsJournal ps (journal_at roots p) (get_or tables p d)

pub tables_more : (ps : List Played) (roots : List (List RootEntry)) (tables after : List Table) (t : Table) (n : ℕ)
    → after ≡ tables ++ t ∷ [] → KnowsJournal ps (journal_at roots n) t → HaveTablesTo ps roots tables n
    → HaveTablesTo ps roots after (n + 1)
tables_more ps roots tables after t n is here h =
    let long = length_push tables t in
    let many = h.many in
    subst (λ ts. HaveTablesTo ps roots ts (n + 1)) (sym is) (record {
      many = omega (arith, long, many);
      each = λ p d less. elim (cases_lt p n) [
        | inl before ↦ subst (λ z. KnowsJournal ps (journal_at roots p) z)
            (sym (get_or_append_left tables (t ∷ []) d p (omega (arith, before, many)))) (h.each p d before)
        | inr least ↦
            let place : n ≡ p = omega (arith, less, least) in
            let last : length tables ≡ p = many ∙ place in
            subst (λ z. KnowsJournal ps (journal_at roots p) z) (sym (get_or_push tables t d p last))
            (subst (λ z. KnowsJournal ps (journal_at roots z) t) place here)
      ];
    })

-- ---- the first entry

-- what is found of a journal's entry is what the clause asks of it
demand_is : (ps : List Played) (roots : Journals) (p j : ℕ) → EntryMovesFitAt ps (roots p) j ↔ HoldersDemand ps roots (places.Root p j)
demand_is ps roots p j = entry_demand ps roots p j

entries_by : (ps : List Played) (roots : Journals) (n : ℕ) (misfit : Option (ℕ × ℕ)) (at : Option ℕ) → EntriesSoFar ps roots n misfit
    → TellsFirst (EntryMovesFitAt ps (roots n)) at → EntriesSoFar ps roots (n + 1) (first_in misfit n at)
entries_by ps roots n (Some (p, j)) at h tells = h
entries_by ps roots n None None h tells = λ p j less. elim (cases_lt p n) [
  | inl before ↦ h p j before
  | inr least ↦ let same : n ≡ p = omega (arith, less, least) in
      subst (λ q. HoldersDemand ps roots (places.Root q j)) same ((demand_is ps roots n j).0 (tells j))
]
entries_by ps roots n None (Some at) h (unmet, before) = (
  λ met. unmet ((demand_is ps roots n at).1 met),
  λ q i above. elim above [
    | inl less ↦ h q i less
    | inr (same, less) ↦ subst (λ z. HoldersDemand ps roots (places.Root z i)) (sym same) ((demand_is ps roots n i).0 (before i less))
  ],
)

pub entries_next : (ps : List Played) (roots : List (List RootEntry)) (journal : List RootEntry) (n : ℕ) (misfit : Option (ℕ × ℕ))
    (at : Option ℕ) → journal_at roots n ≡ journal → EntriesSoFar ps (journal_at roots) n misfit →
    TellsFirst (EntryMovesFitAt ps journal) at → EntriesSoFar ps (journal_at roots) (n + 1) (first_in misfit n at)
entries_next ps roots journal n misfit at is h tells =
    entries_by ps (journal_at roots) n misfit at h (subst (λ es. TellsFirst (EntryMovesFitAt ps es) at) (sym is) tells)

-- ---- all places

past_entries : (ps : List Played) (roots : List (List RootEntry)) (n p j : ℕ) → length roots ≤ n → n ≤ p →
    HoldersDemand ps (journal_at roots) (places.Root p j)
past_entries ps roots n p j end past e at =
    let none : journal_at roots p ≡ [] = get_or_past roots p [] (omega (arith, end, past)) in
    let within = slice_get_within (journal_at roots p) j e at in
    absurd (omega (arith, within, ap (λ (es : List RootEntry). length es) none))

pub tells_entry : (ps : List Played) (roots : List (List RootEntry)) (n : ℕ) (misfit : Option (ℕ × ℕ)) → length roots ≤ n →
    EntriesSoFar ps (journal_at roots) n misfit →
    TellsFirst (λ i. HoldersDemand ps (journal_at roots) (places.Record i)) None → TellsHolders ps (journal_at roots) (entry_place misfit)
tells_entry ps roots n (Some (p, j)) end (unmet, before) records = (unmet, records, before)
tells_entry ps roots n None end h records = each
  where
    each : (place : Place) → HoldersDemand ps (journal_at roots) place
    each (places.Record i) = records i
    each (places.Root p j) = elim (cases_lt p n) [ inl less ↦ h p j less | inr more ↦ past_entries ps roots n p j end more ]
    each (places.Pool j) = tt
    each (places.Cell k j) = tt
    each (places.Report i) = tt
