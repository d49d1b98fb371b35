-- What a register owns after the lines so far, in each run that goes on from there; and the read of an owner's first word.
use Rattle.std.proofs.Common.{◌≡◌, ℕ, ◌<◌, List, ◌++◌, length, Option, Some, None, Contains, refl, sym, ap, ◌∙◌, subst}
use Rattle.std.proofs.lemmas.List.Elements.{Contains-append_left}
use Rattle.pa_slot.specs.declared.word.SlotName.{SlotName}
use Rattle.pa_trace.specs.declared.script.Line.{Line}
use Rattle.pa_trace.specs.declared.script.Line.TheVariants.{Phase, Do}
use Rattle.pa_trace.specs.declared.script.Op.TheVariants.{Read}
use Rattle.pa_trace.specs.declared.script.Rules.{Rules}
use Rattle.pa_record.specs.declared.entry.Answer.{Answer}
use Rattle.pa_record.specs.Spans.{name_of}
use Rattle.pa_record.proofs.PoolSteps.{slice_get_more}
use Rattle.pa_rules.specs.Cells.{IsExchange}
use Rattle.pa_rules.specs.Registers.{RowsTo, facts_with, no_regs, usable_in, plain_in}
use Rattle.pa_rules.specs.Sizes.{usable_of}
use Rattle.pa_rules.specs.Report.{HasSize}
use Rattle.pa_rules.specs.Roots.{Journals}
use Rattle.pa_slot_effects.specs.Known.{RowsNamed}
use Rattle.pa_slot_effects.proofs.Rows.{rows_end, usable_says, plain_says, said_more, usable_made, plain_made}
use Rattle.pa_slot_effects.proofs.Words.{used_made}
use Rattle.pa_rules.specs.declared.register.Register.{Register}
use Rattle.pa_rules.specs.declared.register.Register.TheVariants.{Empty, Own, Ref, Freed, Cleared}
use Rattle.pa_player.specs.declared.table.Slot.{Slot}
use Rattle.pa_player.specs.Playing.{journals, register_at, reg_of, shown}
use Rattle.pa_player.specs.Plays.{GoesTo, ReadsOwnOn}
use Rattle.pa_player.specs.Tables.{slot_at, title_owned, IsIn}
use Rattle.pa_player.proofs.Ended.{size_on}
use Rattle.pa_player.proofs.Going.{let_out_sized}
use Rattle.pa_model.specs.declared.player.Handed.{Handed}
use Rattle.pa_model.specs.Player.{Player, records_so_far, IsGoing, IsOwned, AreRegsAfter, Owns, ReadsOwned, owned_of, owned_by}
use Rattle.pa_model.proofs.Going.{records_are}

-- ---- what a register owns

owned_here : (roots : Journals) (slots : List Slot) (h : Register ℕ)
    → ((i : ℕ) → i < length slots → HasSize roots (slot_at slots i).partition (name_of (slot_at slots i).title) (slot_at slots i).title.len)
    → IsIn (length slots) h → IsOwned roots (reg_of slots h) (owned_of (title_owned slots h))
owned_here roots slots Empty sized among = tt
owned_here roots slots (Own i) sized among = (refl, sized i among)
owned_here roots slots (Ref i) sized among = tt
owned_here roots slots Freed sized among = tt
owned_here roots slots Cleared sized among = tt

pub owns : (p : Player) (thread reg : ℕ) → IsGoing p → Owns p thread reg (owned_by p thread reg)
owns p thread reg going ps r on =
    let h = going.playing in
    let a = shown p.inner in
    let is : records_so_far p ≡ h.ps = records_are p going.rules h in
    let v = p.lines.head.version in
    let whole : ps ≡ h.ps ++ on.records.0 = on.records.1 ∙ ap (λ xs. xs ++ on.records.0) is in
    let made = λ (s : SlotName) (up : 0 < a.word s). used_made h.ps a.word s h.told.runs up in
    let told = subst (λ (k : Rules). RowsNamed k.version a.word a.usable a.plain a.cells no_regs h.ps a.regs) going.rules h.told.rows in
    let rows : RowsTo (facts_with (usable_of v) ps r.cells) no_regs h.ps a.regs =
    rows_end v a.word a.word a.usable (usable_in ps) a.plain (plain_in ps) a.cells r.cells (record {
      used = λ s up. up;
      sizes = λ s up.
          let m = made s up in
          ap (λ xs. usable_in xs s) whole
          ∙ said_more usable_in _ usable_says h.ps on.records.0 s m.maker m.seen m.usable m.among m.made m.slot
          ∙ usable_made a.usable h.ps m.maker m.seen m.usable s h.told.sized m.among m.made m.slot;
      places = λ s up.
          let m = made s up in
          ap (λ xs. plain_in xs s) whole
          ∙ said_more plain_in _ plain_says h.ps on.records.0 s m.maker m.seen m.usable m.among m.made m.slot
          ∙ plain_made a.plain h.ps m.maker m.seen m.usable s h.told.placed m.among m.made m.slot;
      exchanges = λ k j e at.
          let c = on.cells k in
          subst (λ xs. IsExchange (λ n. xs) k j e) (sym c.1) (slice_get_more (a.cells k) c.0 j e at);
    }) no_regs h.ps a.regs told in
    let sized : (i : ℕ) → i < length p.inner.table →
    HasSize r.roots (slot_at p.inner.table i).partition (name_of (slot_at p.inner.table i).title) (slot_at p.inner.table i).title.len =
    λ i lt.
    let x = slot_at p.inner.table i in
    let c = on.journals x.partition in
    size_on (journals p.inner) r.roots x.partition (name_of x.title) x.title.len
    (λ e member. subst (λ es. Contains es e) (sym c.1) (Contains-append_left (journals p.inner x.partition) c.0 e member))
    (let_out_sized p.inner.version (journals p.inner) x x.class (h.slots.let_out i lt)) in (
      a.regs,
      subst (λ xs. AreRegsAfter v ps r xs a.regs) (sym is) rows,
      owned_here r.roots p.inner.table (register_at p.inner thread reg) sized (h.shaped.held thread reg),
    )

-- ---- the read of an owner's first word

owner_of : (slots : List Slot) (h : Register ℕ) (x : Handed) → owned_of (title_owned slots h) ≡ Some x → (i : ℕ) × (h ≡ Own i)
owner_of slots Empty x is = absurd cc
owner_of slots (Own i) x is = (i, refl)
owner_of slots (Ref i) x is = absurd cc
owner_of slots Freed x is = absurd cc
owner_of slots Cleared x is = absurd cc

pub reads_owned : (p : Player) (line : Line) (answer : Option Answer) (q : Player) → GoesTo p.inner line answer q.inner →
    ReadsOwnOn p.inner line answer → ReadsOwned p line answer
reads_owned p Phase answer q goes reads thread reg h is owns = absurd cc
reads_owned p (Do t op) None q goes reads thread reg h is owns = absurd goes
reads_owned p (Do t op) (Some answer) q goes reads thread reg h is owns =
    let own = owner_of p.inner.table (register_at p.inner thread reg) h owns in
    let first : ReadsOwnOn p.inner (Do thread (Read reg 0)) (Some answer) = subst (λ l. ReadsOwnOn p.inner l (Some answer)) is reads in
    let found = first own.0 own.1 refl in
    (found.0, found.1, ap (λ a. Some a) found.2)
