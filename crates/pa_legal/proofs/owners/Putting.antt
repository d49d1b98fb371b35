-- What a register holds was put there by the last record of its thread that changed it.
use Rattle.std.proofs.Common.{◌≡◌, ℕ, ◌<◌, ◌⊎◌, List, [], ◌∷◌, ◌++◌, Option, Some, None, refl, sym, ◌∙◌, ap, subst, arith, inl, inr}
use Rattle.std.specs.Prelude.{Contains}
use Rattle.std.proofs.lemmas.Bool.{cases_eq, eq-eqb, ne_eqb}
use Rattle.std.proofs.lemmas.List.Elements.{Contains-append_cases}
use Rattle.pa_lists.proofs.Elements.{in_front, in_middle, pairs_front}
use Rattle.pa_lists.proofs.Members.{first_in, later_in, in_cases, not_in_none, of_some, not_some}
use Rattle.pa_lists.proofs.Pairs.{pairs_head, pairs_tail}
use Rattle.pa_lists.proofs.Parts.{parts_at, pairs_across, pairs_after}
use Rattle.pa_trace.specs.Rules.{rules_of}
use Rattle.pa_record.specs.declared.history.CellEntry.{CellEntry}
use Rattle.pa_rules.specs.declared.register.Register.TheVariants.{Empty}
use Rattle.pa_rules.specs.declared.played.Played.{Played}
use Rattle.pa_rules.specs.Changes.{change_of, changed}
use Rattle.pa_rules.specs.Contents.{HasRegs}
use Rattle.pa_rules.specs.Registers.{Reg, Regs, AllRegs, Facts, Row, RowsTo, AreRegisters, with, with_thread, no_regs, facts_with}
use Rattle.pa_rules.specs.Rising.{RiseByLine}
use Rattle.pa_rules.specs.Sizes.{usable_of}
use Rattle.pa_rules.specs.Told.{records_of}
use Rattle.pa_rules.proofs.Leading.{row_leads, rows_cut}
use Rattle.pa_rules.proofs.Numbering.{lines_rise}
use Rattle.pa_rules.proofs.Recorded.{records_are_lines}
use Rattle.pa_legal.specs.Owners.{WasPut, HandlesArePut, LegalHasHandles}

abbrev pub Cells : Type 0
Cells = ℕ → List CellEntry

abbrev pub facts_of : ℕ → Cells → List Played → Facts
facts_of version cells ps = facts_with (usable_of version) ps cells

abbrev Rises : Played → Played → Type 0
Rises x y = x.line < y.line

-- ---- one record

-- a register holds what the change put there, or what it held
changed_cases : (regs : Regs) (c : Option (ℕ × Reg)) (reg : ℕ) →
    (c ≡ Some (reg, changed regs c reg)) ⊎ ((changed regs c reg ≡ regs reg) × ((other : Reg) → c ≡ Some (reg, other) → ⊥))
changed_cases regs None reg = inr (refl, λ other e. not_some (reg, other) e)
changed_cases regs (Some (k, r)) reg = elim (cases_eq reg k) [
  | inl e ↦
      let is : with regs k r reg ≡ r = rw (eq-eqb reg k e) refl in
      inl (ap (λ (z : Reg). Some (k, z)) (sym is) ∙ ap (λ (n : ℕ). Some (n, with regs k r reg)) (sym e))
  | inr ne ↦ inr (rw (ne_eqb reg k ne) refl, λ other e. ne (sym (ap (λ (p : ℕ × Reg). p.0) (of_some (k, r) (reg, other) e))))
]

-- ---- along the records

-- y is the last of these records that changed the register of the thread, and it left this there
pub record PutIn (cells : Cells) (xs : List Played) (t reg : ℕ) (r : Reg) (y : Played) : Type 0 where
  pub among : Contains xs y
  pub thread : y.thread ≡ t
  pub puts : change_of cells y.op y.answer ≡ Some (reg, r)
  pub last : (z : Played) (other : Reg) → Contains xs z → z.thread ≡ t → y.line < z.line → change_of cells z.op z.answer ≡ Some (reg, other)
      → ⊥

-- none of them changed it
abbrev Unchanged : Cells → List Played → ℕ → ℕ → Type 0
Unchanged cells xs t reg = (z : Played) (other : Reg) → Contains xs z → z.thread ≡ t → change_of cells z.op z.answer ≡ Some (reg, other) → ⊥

abbrev PutOr : Cells → List Played → ℕ → ℕ → Reg → Reg → Type 0
PutOr cells xs t reg old new = ((y : Played) × PutIn cells xs t reg new y) ⊎ ((new ≡ old) × Unchanged cells xs t reg)

-- one record more at the front, of the same thread
put_here : (cells : Cells) (x : Played) (xs : List Played) (reg : ℕ) (regs next : Regs) (new : Reg)
    → ((k : ℕ) → next k ≡ changed regs (change_of cells x.op x.answer) k)
    → new ≡ next reg → Unchanged cells xs x.thread reg → PutOr cells (x ∷ xs) x.thread reg (regs reg) new
put_here cells x xs reg regs next new becomes same none = elim (changed_cases regs (change_of cells x.op x.answer) reg) [
  | inl put ↦ inl (
    x,
    record {
      among = first_in x xs;
      thread = refl;
      puts = put ∙ ap (λ (r : Reg). Some (reg, r)) (sym (becomes reg) ∙ sym same);
      last = λ z other among of above. elim (in_cases x z xs among) [
        | inl e ↦ let line = ap (λ (p : Played). p.line) e in absurd (omega (arith, line, above))
        | inr later ↦ none z other later of
      ];
    },
  )
  | inr (kept, never) ↦ inr (
    same ∙ becomes reg ∙ kept,
    λ z other among of. elim (in_cases x z xs among) [
      | inl e ↦ λ puts. never other (ap (λ (p : Played). change_of cells p.op p.answer) e ∙ puts)
      | inr later ↦ none z other later of
    ],
  )
]

put_or : (facts : Facts) (xs : List Played) (all after : AllRegs) (t reg : ℕ) → RiseByLine xs → RowsTo facts all xs after
    → PutOr facts.cells xs t reg (all t reg) (after t reg)
put_or facts [] all after t reg rising is = inr (ap (λ (z : AllRegs). z t reg) is, λ z other among. absurd (not_in_none z among))
put_or facts (x ∷ xs) all after t reg rising (next, row, rest) =
    elim (put_or facts xs (with_thread all x.thread next) after t reg (pairs_tail Rises x xs rising) rest) [
      | inl (y, put) ↦ inl (
        y,
        record {
          among = later_in x y xs put.among;
          thread = put.thread;
          puts = put.puts;
          last = λ z other among of above. elim (in_cases x z xs among) [
            | inl e ↦
                let line = ap (λ (p : Played). p.line) e in
                let low = pairs_head Rises x y xs rising put.among in
                absurd (omega (arith, line, above, low))
            | inr later ↦ put.last z other later of above
          ];
        },
      )
      | inr (same, none) ↦ elim (cases_eq t x.thread) [
        | inl e ↦
            let is : with_thread all x.thread next t reg ≡ next reg = rw (eq-eqb t x.thread e) refl in
            subst (λ (n : ℕ). PutOr facts.cells (x ∷ xs) n reg (all n reg) (after t reg)) (sym e)
            (put_here facts.cells x xs reg (all x.thread) next (after t reg)
            (row_leads facts x.op (all x.thread) x.answer next row).registers (same ∙ is)
            (subst (λ (n : ℕ). Unchanged facts.cells xs n reg) e none))
        | inr ne ↦ inr (
          same ∙ (rw (ne_eqb t x.thread ne) refl),
          λ z other among of. elim (in_cases x z xs among) [
            | inl e ↦ absurd (ne (sym of ∙ ap (λ (p : Played). p.thread) (sym e)))
            | inr later ↦ none z other later of
          ],
        )
      ]
    ]

-- ---- the registers just before a record

-- each record has registers just before it, and its row
pub row_of : (version : ℕ) (cells : Cells) (ps : List Played) (x : Played) → AreRegisters (usable_of version) cells ps → Contains ps x
    → (regs next : Regs) × HasRegs (usable_of version) cells ps x regs × Row (facts_of version cells ps) x.op regs x.answer next
row_of version cells ps x (after, rows) among =
    let (before, rest, parts) = parts_at ps x among in
    let (last, to, rest_rows) = rows_cut (facts_of version cells ps) no_regs before (x ∷ rest) after
    (subst (λ (zs : List Played). RowsTo (facts_of version cells ps) no_regs zs after) parts rows) in
    let (next, row, more) = rest_rows in
    (last x.thread, next, (before, rest, last, parts, to, refl), row)

pub record_in : (version : ℕ) (cells : Cells) (ps : List Played) (x : Played) (regs : Regs) → HasRegs (usable_of version) cells ps x regs →
    Contains ps x
record_in version cells ps x regs (before, rest, all, parts, rows, is) = in_middle before rest ps x parts

pub was_put : (version : ℕ) (cells : Cells) (ps : List Played) (x : Played) (regs : Regs) (reg : ℕ) → RiseByLine ps →
    HasRegs (usable_of version) cells ps x regs
    → (regs reg ≡ Empty → ⊥)
    → (y : Played) × WasPut cells ps x reg (regs reg) y
was_put version cells ps x regs reg rising (before, rest, all, parts, rows, is) some =
    let up : RiseByLine (before ++ x ∷ rest) = subst RiseByLine parts rising in
    let same : all x.thread reg ≡ regs reg = ap (λ (z : Regs). z reg) (sym is) in
    elim (put_or (facts_of version cells ps) before no_regs all x.thread reg (pairs_front Rises before (x ∷ rest) up) rows) [
      | inl (y, put) ↦ (
        y,
        record {
          among = in_front before (x ∷ rest) ps y parts put.among;
          thread = put.thread;
          before = pairs_across Rises before (x ∷ rest) y x up put.among (first_in x rest);
          puts = put.puts ∙ ap (λ (r : Reg). Some (reg, r)) same;
          last = λ z other among of above below. elim
              (Contains-append_cases before (x ∷ rest) z (subst (λ (zs : List Played). Contains zs z) parts among)) [
                | inl front ↦ put.last z other front of above
                | inr back ↦ elim (in_cases x z rest back) [
                  | inl e ↦ let line = ap (λ (p : Played). p.line) e in absurd (omega (arith, line, below))
                  | inr later ↦
                      let high = pairs_head Rises x z rest (pairs_after Rises before (x ∷ rest) up) later in
                      absurd (omega (arith, high, below))
                ]
              ];
        },
      )
      | inr (kept, none) ↦ absurd (some (sym same ∙ kept))
    ]

pub handles_are_put : HandlesArePut
handles_are_put version cells ps x regs reg h has some = was_put version cells ps x regs reg h.rising has some

pub legal_has_handles : LegalHasHandles
legal_has_handles t r legal = record {
  rising = lines_rise (rules_of t) t.lines (records_of t r) (records_are_lines.lines (rules_of t) t.lines r.entries legal.lines);
  exchanges = legal.cells;
  registers = legal.registers;
  slots = legal.slots;
  seen = legal.seen;
}
