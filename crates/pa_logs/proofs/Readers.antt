-- The contents of a legal run, from what each read gave and through which register it was.
use Rattle.std.proofs.Common.{◌≡◌, ℕ, true, List, refl, ◌∙◌, ap, subst, inl, inr}
use Rattle.std.specs.Prelude.{Contains}
use Rattle.std.proofs.lemmas.Bool.{true≢false}
use Rattle.pa_slot.specs.declared.word.SlotName.{SlotName}
use Rattle.pa_trace.specs.declared.script.Op.TheVariants as ops
use Rattle.pa_record.specs.declared.entry.Seen.{Seen}
use Rattle.pa_record.specs.declared.entry.Answer.{Answer}
use Rattle.pa_record.specs.declared.entry.Answer.TheVariants as answers
use Rattle.pa_record.specs.declared.history.CellEntry.{CellEntry}
use Rattle.pa_lists.proofs.Joined.{map_cases}
use Rattle.pa_region.specs.declared.view.View.{View}
use Rattle.pa_rules.specs.declared.register.Register.TheVariants.{Empty, Own, Ref, Freed, Cleared}
use Rattle.pa_rules.specs.declared.played.Played.{Played}
use Rattle.pa_rules.specs.Registers.{Reg, Regs}
use Rattle.pa_rules.specs.Contents.{HasRegs, IsReadAllowed}
use Rattle.pa_rules.specs.Sizes.{usable_of}
use Rattle.pa_logs.specs.Told.{ToldRecord, played_in}
use Rattle.pa_logs.specs.Reads.{IsReadOff, ReadsThrough, HaveReaders, ContentsFollow}
use Rattle.pa_logs.proofs.Reading.{reads_follow}

module _ (version : ℕ) (sizes : SlotName → ℕ) (cells : ℕ → List CellEntry) (v : View) (ts : List ToldRecord)
    (off : IsReadOff sizes v ts) where
  through : (x : ToldRecord) (seen : Seen) (value reg place : ℕ) (regs : Regs) (r : Reg) → Contains ts x →
      x.played.answer ≡ answers.Value seen value → x.played.op ≡ ops.Read reg place →
      HasRegs (usable_of version) cells (played_in ts) x.played regs → regs reg ≡ r → ReadsThrough sizes r seen place value x →
      IsReadAllowed (usable_of version) cells (played_in ts) x.played (answers.Value seen value)
  through x seen value reg place regs Empty among answer op has is reads = absurd reads
  through x seen value reg place regs (Own s) among answer op has is told =
      elim (reads_follow.held sizes v ts x seen value place true off among answer told) [
        | inl content ↦ inl content
        | inr none ↦ absurd (true≢false none.0)
      ]
  through x seen value reg place regs (Ref s) among answer op has is (slot, owned, told) =
      elim (reads_follow.held sizes v ts x seen value place owned off among answer told) [
        | inl content ↦ inl content
        | inr (none, gave, other) ↦ let (y, next, thread, phase) = other in
            inr (gave, ((reg, place, regs, op, has, is ∙ ap Ref slot), y, next, thread, phase))
      ]
  through x seen value reg place regs Freed among answer op has is reads = absurd reads
  through x seen value reg place regs Cleared among answer op has is reads = absurd reads

  allowed : (x : ToldRecord) (a : Answer) → HaveReaders version sizes cells ts → Contains ts x → x.played.answer ≡ a →
      IsReadAllowed (usable_of version) cells (played_in ts) x.played a
  allowed x (answers.Value seen value) readers among answer =
      let (reg, place, regs, op, has, reads) = readers x seen value among answer in
      through x seen value reg place regs (regs reg) among answer op has refl reads
  allowed x (answers.Dangling seen value) readers among answer = reads_follow.freed sizes v ts x seen value off among answer
  allowed x a readers among answer = tt

pub contents_follow : ContentsFollow
contents_follow version sizes cells v ts off readers x among =
    let (y, there, e) = map_cases (λ (z : ToldRecord). z.played) ts x among in
    subst (λ (p : Played). IsReadAllowed (usable_of version) cells (played_in ts) p p.answer) e
    (allowed version sizes cells v ts off y y.played.answer readers there refl)
