-- Worked records of one thread, with no read and no exchange.
use Rattle.std.proofs.Common.{◌≡◌, ℕ, true, false, eqb, List, [], refl, sym, subst, arith, inl, inr}
use Rattle.std.specs.Prelude.{Contains}
use Rattle.std.proofs.lemmas.Bool.{cases_Bool, eqb-true}
use Rattle.pa_slot.specs.declared.title.Title.{Title}
use Rattle.pa_slot.specs.declared.word.SlotName.{SlotName}
use Rattle.pa_record.specs.declared.entry.Seen.{Seen}
use Rattle.pa_record.specs.declared.entry.Answer.TheVariants.{Value}
use Rattle.pa_record.specs.declared.history.CellEntry.{CellEntry}
use Rattle.pa_record.specs.declared.run.Run.{Run}
use Rattle.pa_lists.proofs.Members.{not_some}
use Rattle.pa_region.specs.History.{Done}
use Rattle.pa_region.specs.AllReads.{HasReads}
use Rattle.pa_region.specs.Pairs.{pairs, paired_of}
use Rattle.pa_region.specs.Waiting.{gave_no_poison, quiet_read}
use Rattle.pa_rules.specs.declared.played.Played.{Played}
use Rattle.pa_rules.specs.Cells.{history_at}
use Rattle.pa_rules.specs.Seen.{HandsTo}
use Rattle.pa_rules.specs.Told.{told_by}
use Rattle.pa_logs.specs.Told.{ToldRecord, log_of}
use Rattle.pa_logs.specs.Reads.{HaveReaders}
use Rattle.pa_logs.specs.Worked.{view_of}
use Rattle.pa_examples.proofs.told.Knowing.{of_thread}

-- no cell has an exchange
pub no_hands : (x y : Played) → HandsTo (history_at []) x y → ⊥
no_hands x y h = not_some h.2 h.4

abbrev pub NoValue : ToldRecord → Type 0
NoValue x = (seen : Seen) (value : ℕ) → x.played.answer ≡ Value seen value → ⊥

pub no_readers : (sizes : SlotName → ℕ) (cells : ℕ → List CellEntry) (ts : List ToldRecord) →
    ((x : ToldRecord) → Contains ts x → NoValue x) → HaveReaders 1 sizes cells ts
no_readers sizes cells ts none x seen value among is = absurd (none x among seen value is)

-- what is said of the written cells is said of the run's
pub of_run : (r : Run) (written : List (List CellEntry)) → r.cells.items ≡ written → (P : (ℕ → List CellEntry) → Type 0) →
    P (history_at written) → P (told_by r).cells
of_run r written is P here = subst (λ xs. P (history_at xs)) (sym is) here

-- the only log has no read right after a look
module _ (ts : List ToldRecord) (none : (t : Title) (found value : ℕ) → pairs (quiet_read false t found value) (log_of 0 ts) ≡ 0)
    (others : (r : ℕ) → eqb 0 r ≡ false → log_of r ts ≡ []) where
  pub no_pair : (r : ℕ) (t : Title) (found value : ℕ) → pairs (quiet_read false t found value) (log_of r ts) ≡ 0
  no_pair r t found value = elim (cases_Bool (eqb 0 r)) [
    | inl e ↦ subst (λ q. pairs (quiet_read false t found value) (log_of q ts) ≡ 0) (eqb-true 0 r e) (none t found value)
    | inr n ↦ subst (λ log. pairs (quiet_read false t found value) log ≡ 0) (sym (others r n)) refl
  ]

  pub no_reads : (history : Title → List Done) → paired_of (view_of ts) gave_no_poison ≡ 0
      → ((t : Title) (found value : ℕ) → paired_of (view_of ts) (quiet_read true t found value) ≡ 0) → HasReads history (view_of ts)
  no_reads history freed owned = record {
    freed = freed;
    own = λ t found value held some_pair. let gone = owned t found value in absurd (omega arith);
    ref = λ r t found value held some_pair.
        let mine = of_thread ts r (pairs (quiet_read false t found value)) some_pair in
        let gone = no_pair r t found value in
        absurd (omega arith);
  }
