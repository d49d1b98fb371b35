-- What a written run has in a slot: the value of a write, by a test that no later make or write comes before the read.
use Rattle.std.proofs.Common.{◌≡◌, ℕ, ◌<◌, Bool, true, false, ◌&&◌, not, ltb, List, sym, subst, inl}
use Rattle.std.specs.List.{list_all}
use Rattle.std.proofs.lemmas.Bool.{and_parts, and_from, lt-ltb, not-true, both_ways}
use Rattle.pa_slot.specs.declared.word.SlotName.{SlotName}
use Rattle.pa_slot.specs.Count.{number_of}
use Rattle.pa_slot.specs.Run.{same_slot}
use Rattle.pa_slot.proofs.Runs.{same_slot_yes}
use Rattle.pa_trace.specs.declared.script.Op.{Op}
use Rattle.pa_trace.specs.declared.script.Op.TheVariants as ops
use Rattle.pa_record.specs.declared.entry.Seen.{Seen}
use Rattle.pa_record.specs.declared.entry.Answer.{Answer}
use Rattle.pa_record.specs.declared.entry.Answer.TheVariants.{Made, Done}
use Rattle.pa_rules.specs.declared.played.Played.{Played}
use Rattle.pa_rules.specs.Contents.{IsMadeAt, IsWrittenAt, IsContent}
use Rattle.pa_lists.proofs.Elements.{passes}

-- what was seen is of slot s, at a number between these two
abbrev pub is_between : SlotName → ℕ → ℕ → Seen → Bool
is_between s low high seen = same_slot seen.slot s && (ltb low (number_of seen.found.0) && ltb (number_of seen.found.0) high)

between-true : (s : SlotName) (low high m : ℕ) (seen : Seen) → seen.slot ≡ s → number_of seen.found.0 ≡ m → low < m → m < high →
    is_between s low high seen ≡ true
between-true s low high m seen slot number above below =
    let test : (ltb low m && ltb m high) ≡ true = and_from _ _ (lt-ltb low m above) (lt-ltb m high below) in
    and_from _ _ (same_slot_yes seen.slot s slot) (subst (λ n. (ltb low n && ltb n high) ≡ true) (sym number) test)

-- the slot was made, or written, at such a number
abbrev pub is_made_between : SlotName → ℕ → ℕ → Answer → Bool
is_made_between s low high (Made seen usable) = is_between s low high seen
is_made_between s low high answer = false

abbrev pub is_written_between : SlotName → ℕ → ℕ → Op → Answer → Bool
is_written_between s low high (ops.Write reg value) (Done seen) = is_between s low high seen
is_written_between s low high op answer = false

abbrev pub is_untouched : List Played → SlotName → ℕ → ℕ → Bool
is_untouched ps s low high =
    list_all (λ (p : Played). not (is_made_between s low high p.answer) && not (is_written_between s low high p.op p.answer)) ps

module _ (ps : List Played) (s : SlotName) (low high : ℕ) (untouched : is_untouched ps s low high ≡ true) where
  never_made : (m : ℕ) → IsMadeAt ps s m → low < m → m < high → ⊥
  never_made m (p, seen, usable, among, is, slot, number) above below =
      let here = (and_parts (not (is_made_between s low high p.answer)) (not (is_written_between s low high p.op p.answer))
      (passes (λ (p : Played). not (is_made_between s low high p.answer) &&
      not (is_written_between s low high p.op p.answer)) ps p untouched among)).0 in
      both_ways _ (not-true _ here)
      (subst (λ a. is_made_between s low high a ≡ true) (sym is) (between-true s low high m seen slot number above below))

  never_written : (m value : ℕ) → IsWrittenAt ps s m value → low < m → m < high → ⊥
  never_written m value (p, seen, reg, among, op, is, slot, number) above below =
      let here = (and_parts (not (is_made_between s low high p.answer)) (not (is_written_between s low high p.op p.answer))
      (passes (λ (p : Played). not (is_made_between s low high p.answer) &&
      not (is_written_between s low high p.op p.answer)) ps p untouched among)).1 in
      let there : is_written_between s low high (ops.Write reg value) (Done seen) ≡ true =
      between-true s low high m seen slot number above below in
      both_ways _ (not-true _ here)
      (subst (λ o. is_written_between s low high o p.answer ≡ true) (sym op)
      (subst (λ a. is_written_between s low high (ops.Write reg value) a ≡ true) (sym is) there))

  -- the value that a write at number low left is the content at number high, if no record makes or writes the slot in between
  pub content_of : (value : ℕ) → IsWrittenAt ps s low value → low < high → IsContent ps s high value
  content_of value written less =
      inl (low, (written, less, never_made), λ m other (at, below, none) above. never_written m other at above below)
