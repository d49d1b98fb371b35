-- Before the first line, over a line that begins a phase, and what is the same to the eye.
use Rattle.std.proofs.Common.{◌≡◌, ℕ, Bool, ◌+◌, ◌<◌, List, [], ◌∷◌, ◌++◌, length, refl, sym, ◌∙◌, subst, arith, zero, suc, length-append}
use Rattle.std.proofs.Math.Path.{fun_ext}
use Rattle.pa_slot.specs.declared.word.SlotName.{SlotName}
use Rattle.pa_slot.specs.Count.{held_of, number_of}
use Rattle.pa_slot.proofs.Runs.{runs_none}
use Rattle.pa_trace.specs.declared.script.Line.{Line}
use Rattle.pa_trace.specs.declared.script.Line.TheVariants.{Phase}
use Rattle.pa_trace.specs.declared.script.Rules.{Rules}
use Rattle.pa_record.specs.declared.history.CellEntry.{CellEntry}
use Rattle.pa_record.specs.declared.history.Held.{Held}
use Rattle.pa_record.specs.declared.history.Held.TheVariants.{Nothing}
use Rattle.pa_rules.specs.declared.register.Register.TheVariants.{Empty}
use Rattle.pa_rules.specs.declared.played.Played.{Played}
use Rattle.pa_rules.specs.Played.{marks_of}
use Rattle.pa_rules.specs.Registers.{Reg, AllRegs, reg_of, no_regs}
use Rattle.pa_rules.specs.Contents.{IsContent}
use Rattle.pa_slot_effects.specs.Shown.{Shown, over, amount, owns, points}
use Rattle.pa_slot_effects.specs.Known.{HasExchanged, HasNumbers, IsToldTo}
use Rattle.pa_slot_effects.specs.Laws.{StartsTold, LikeIsTold, PhaseGoesOn}
use Rattle.pa_slot_effects.proofs.Histories.{exchanged_none, exchanged_later}
use Rattle.pa_slot_effects.proofs.Numbers.{numbers_none, numbers_later}
use Rattle.pa_slot_effects.proofs.Contents.{contents_none}
use Rattle.pa_slot_effects.proofs.Rows.{rows_on}
use Rattle.pa_slot_effects.proofs.Words.{made_used}
use Rattle.pa_rules.proofs.Lined.{lines_phase}

over_none : (n : ℕ) (f : ℕ → ℕ) → ((i : ℕ) → f i ≡ 0) → over n f ≡ 0
over_none zero f h = refl
over_none (suc n) f h = omega (arith, over_none n f h, h n)

amount_none : (threads : ℕ) (f : Reg → ℕ) → f Empty ≡ 0 → amount threads f no_regs (λ k. Nothing) ≡ 0
amount_none threads f e =
    let row : ℕ → ℕ = λ t. over 64 (λ r. f (no_regs t r)) in
    omega (
      arith,
      over_none threads row (λ t. over_none 64 (λ r. f (no_regs t r)) (λ r. e)),
      over_none 64 (λ k. f (reg_of Nothing)) (λ k. e),
    )

pub starts_told : StartsTold
starts_told threads rules = record {
  lines = refl;
  rows = refl;
  sized = λ x seen n c e. absurd (omega (arith, c.1));
  placed = λ x seen n c e. absurd (omega (arith, c.1));
  exchanged = exchanged_none (λ k. []) (λ k. Nothing) 2 (λ k. refl) (λ k. refl);
  runs = runs_none (λ s. 0) (λ s. refl);
  numbers = numbers_none 2 (omega arith);
  contents = contents_none;
  used = λ x c. absurd (omega (arith, c.1));
  handles = record {
    owners = λ s. sym (amount_none threads (owns s) refl);
    pointers = λ s. sym (amount_none threads (points s) refl);
    named = λ t r. tt;
    celled = λ k. tt;
  };
}

pub phase_goes_on : PhaseGoesOn
phase_goes_on threads ls ps a h =
    let later : length (ls ++ Phase ∷ []) + 2 ≡ length ls + 2 + 1 = omega (arith, length-append ls (Phase ∷ [])) in
    let X : ℕ → Type 0 = λ l. HasExchanged a.cells a.held ps l in
    let N : ℕ → Type 0 = λ l. HasNumbers (marks_of ps) l a.word in
    record {
      lines = h.lines ∙ sym (lines_phase a.rules 2 1 ls);
      rows = h.rows;
      sized = h.sized;
      placed = h.placed;
      exchanged = subst X (sym later) (exchanged_later a.cells a.held ps (length ls + 2) h.exchanged);
      runs = h.runs;
      numbers = subst N (sym later) (numbers_later (marks_of ps) (length ls + 2) a.word h.numbers);
      contents = h.contents;
      used = h.used;
      handles = h.handles;
    }

-- with other contents, usable numbers and partitions if they don't count
changed : (threads : ℕ) (ls : List Line) (ps : List Played) (a : Shown) (content usable : SlotName → ℕ) (plain : SlotName → Bool)
    → IsToldTo threads ls ps a
    → ((s : SlotName) → held_of (a.word s) ≡ 1 → content s ≡ a.content s) → ((s : SlotName) → 0 < a.word s → usable s ≡ a.usable s)
    → ((s : SlotName) → 0 < a.word s → plain s ≡ a.plain s)
    → IsToldTo threads ls ps (record a { content = content; usable = usable; plain = plain })
changed threads ls ps a content usable plain h same sizes places = record {
  lines = h.lines;
  rows = rows_on a.rules.version a.word a.word a.usable usable a.plain plain a.cells a.cells
      (record { used = λ s u. u; sizes = sizes; places = places; exchanges = λ k j e i. i }) no_regs ps a.regs h.rows;
  sized = λ x seen n c e.
      let made : 0 < a.word seen.slot = made_used ps a.word x seen n h.runs c e in
      h.sized x seen n c e ∙ sym (sizes seen.slot made);
  placed = λ x seen n c e.
      let made : 0 < a.word seen.slot = made_used ps a.word x seen n h.runs c e in
      h.placed x seen n c e ∙ sym (places seen.slot made);
  exchanged = h.exchanged;
  runs = h.runs;
  numbers = h.numbers;
  contents = record {
    held = λ s held. let P : ℕ → Type 0 = λ v. IsContent ps s (number_of (a.word s)) v in
        subst P (sym (same s held)) (h.contents.held s held);
    read = h.contents.read;
  };
  used = h.used;
  handles = record { owners = h.handles.owners; pointers = h.handles.pointers; named = h.handles.named; celled = h.handles.celled };
}

pub like_is_told : LikeIsTold
like_is_told threads ls ps a b h like =
    let regs : b.regs ≡ a.regs = fun_ext (λ t. fun_ext (λ r. like.regs t r)) in
    let held : b.held ≡ a.held = fun_ext like.held in
    let cells : b.cells ≡ a.cells = fun_ext like.cells in
    let word : b.word ≡ a.word = fun_ext like.word in
    let R : AllRegs → Type 0 =
    λ x. IsToldTo threads ls ps (record b { rules = a.rules; regs = x; held = a.held; cells = a.cells; word = a.word }) in
    let H : (ℕ → Held) → Type 0 = λ x. IsToldTo threads ls ps (record b { rules = a.rules; held = x; cells = a.cells; word = a.word }) in
    let C : (ℕ → List CellEntry) → Type 0 = λ x. IsToldTo threads ls ps (record b { rules = a.rules; cells = x; word = a.word }) in
    let W : (SlotName → ℕ) → Type 0 = λ x. IsToldTo threads ls ps (record b { rules = a.rules; word = x }) in
    let U : Rules → Type 0 = λ x. IsToldTo threads ls ps (record b { rules = x }) in
    subst U (sym like.rules)
    (subst W (sym word) (subst C (sym cells)
    (subst H (sym held) (subst R (sym regs) (changed threads ls ps a b.content b.usable b.plain h like.content like.usable like.plain)))))
