-- The page of a record in the books of a run.
use Rattle.std.proofs.Common.{◌≡◌, ℕ, ◌<◌, ◌≤◌, List, [], Option, Some, None, get_or, length, refl, ap, subst, arith, inl, inr}
use Rattle.std.specs.Prelude.{All, slice_get}
use Rattle.std.proofs.lemmas.Bool.{cases_lt}
use Rattle.std.proofs.lemmas.List.{get_or_past}
use Rattle.std.proofs.lemmas.Option.{slice_get-get_or, slice_get_within, get_or_from_slice_get}
use Rattle.pa_rules.specs.declared.played.Played.{Played}
use Rattle.pa_slot.specs.declared.word.SlotName.{SlotName}
use Rattle.pa_rules.specs.Roots.{journal_at}
use Rattle.pa_record.specs.declared.root.RootEntry.{RootEntry}
use Rattle.pa_audit_holders.specs.declared.homes.Home.{Home}
use Rattle.pa_audit_holders.specs.Books.{AreBooks, IsOnPage, IsRecordsLine, RunBooks}
use Rattle.pa_audit_holders.specs.Homes.{IsHomeIn, IsHomeOf}
use Rattle.pa_audit_holders.specs.Lines.{KnowsLine}
use Rattle.pa_audit_holders.specs.Rows.{IsOfThreads}

-- what is true of all is true of each
pub of_all : {X : Type 0} (P : X → Type 0) (xs : List X) (i : ℕ) (x : X) → All P xs → slice_get xs i ≡ Some x → P x
of_all P xs i x all at = subst P (get_or_from_slice_get xs i x x at) (all i x (slice_get_within xs i x at))

-- the places of the entries of a record's line are known
pub line_known : (roots : List (List RootEntry)) (lines : List (List (List ℕ))) (ps : List Played) (line : ℕ)
    → All (λ (x : Played). KnowsLine roots lines x.line) ps → IsRecordsLine ps line → KnowsLine roots lines line
line_known roots lines ps line known (i, x, at, on) =
    subst (λ k. KnowsLine roots lines k) on (of_all (λ (x : Played). KnowsLine roots lines x.line) ps i x known at)

-- the page of the record in a place
pub on_page : (b : RunBooks) (lines : List (List (List ℕ))) (at : ℕ → Option Home) (i : ℕ) (d : Played) → AreBooks b lines at →
    i < length b.records → IsOnPage b (get_or b.records i d)
on_page b lines at i d h below =
    let is = slice_get-get_or b.records i d below in
    record {
      among = (i, get_or b.records i d, is, refl);
      within = of_all (IsOfThreads b.version) b.records i (get_or b.records i d) h.within is;
    }

-- a journal that has entries is one of four
journal_within : (roots : List (List RootEntry)) (p k : ℕ) → length roots ≤ 4 → k < length (journal_at roots p) → p < 4
journal_within roots p k few more = elim (cases_lt p (length roots)) [
  | inl less ↦ omega (arith, less, few)
  | inr past ↦ let none = ap (λ (es : List RootEntry). length es) (get_or_past roots p [] past) in absurd (omega (arith, more, none))
]

home_in : (roots : List (List RootEntry)) (s : SlotName) (p : ℕ) (class : Option ℕ) → length roots ≤ 4 →
    IsHomeIn (journal_at roots) s p class → p < 4
home_in roots s p (Some class) few ((e, asked, slots, (k, more, is), act, names), low) = journal_within roots p k few more
home_in roots s p None few (e, asked, len, (k, more, is), act) = journal_within roots p k few more

-- a slot's home is one of four partitions
pub home_within : (roots : List (List RootEntry)) (s : SlotName) (h : Home) → length roots ≤ 4 →
    IsHomeOf (journal_at roots) s h → h.partition < 4
home_within roots s h few is = home_in roots s h.partition h.class few is.goes
