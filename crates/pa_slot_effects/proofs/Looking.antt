-- The turns of ops that change nothing: looks, and answers that report no slot.
use Rattle.std.proofs.Common.{◌≡◌, ℕ, ◌+◌, ◌<◌, List, [], ◌∷◌, ◌++◌, length, Some, None, refl, sym, ap, ◌∙◌, subst}
use Rattle.pa_slot.specs.Count.{held_of, refs_of, number_of}
use Rattle.pa_slot.specs.Run.{Mark}
use Rattle.pa_trace.specs.declared.script.Op.{Op}
use Rattle.pa_trace.specs.declared.script.Op.TheVariants as ops
use Rattle.pa_trace.specs.declared.script.Line.{Line}
use Rattle.pa_record.specs.declared.entry.Seen.{Seen}
use Rattle.pa_record.specs.declared.entry.Answer.{Answer}
use Rattle.pa_record.specs.declared.entry.Answer.TheVariants.{Made, Done, Value, Dangling, SecondFree, NotOwner, StaleReset, StaleUse, Nothing, Filled, NotRef, Shared, OutOfRange, TooLarge, Full, Swapped, Purged, Uncounted}
use Rattle.pa_rules.specs.declared.played.Played.{Played}
use Rattle.pa_rules.specs.Played.{mark_at, mark_of, mark_of_answer}
use Rattle.pa_rules.specs.Registers.{Row}
use Rattle.pa_rules.specs.Contents.{IsContent, IsReadExact}
use Rattle.pa_slot_effects.specs.Shown.{Shown}
use Rattle.pa_slot_effects.specs.Known.{facts_shown}
use Rattle.pa_slot_effects.specs.Turns.{CanPlay, LeadsTo, played_at, TellsNone, Looks}
use Rattle.pa_slot_effects.specs.Laws.{NoneGoesOn, LookGoesOn}
use Rattle.pa_slot_effects.proofs.Histories.{exchanged_other}
use Rattle.pa_slot_effects.proofs.Contents.{HasFound, found_by, contents_same, content_same}
use Rattle.pa_slot_effects.proofs.Words.{in_use}
use Rattle.pa_slot_effects.proofs.Turn.{Tells, turn_extends, same_regs}

-- a turn that changes nothing
still : (threads : ℕ) (ls : List Line) (ps : List Played) (a : Shown) (thread : ℕ) (op : Op) (answer : Answer) →
    CanPlay threads ls ps a thread
    → ((cell r : ℕ) → op ≡ ops.Swap cell r → ⊥) → ((u : Seen) (n : ℕ) → answer ≡ Made u n → ⊥)
    → Tells (mark_of (played_at a.rules ls thread op answer)) a.word a.word → HasFound a.word (played_at a.rules ls thread op answer)
    → IsReadExact (ps ++ played_at a.rules ls thread op answer ∷ []) answer
    → Row (facts_shown a) op (a.regs thread) answer (a.regs thread) → LeadsTo threads ls ps thread op answer a
still threads ls ps a thread op answer can other unmade tells found read row =
    let x = played_at a.rules ls thread op answer in
    turn_extends threads ls ps thread op answer a a can.told (record {
      rules = refl;
      row = row;
      regs = same_regs a.regs thread;
      usable = refl;
      plain = refl;
      sized = λ u n e. absurd (unmade u n e);
      placed = λ u n e. absurd (unmade u n e);
      stand = λ k j e i. i;
      exchanged = exchanged_other a.cells a.held ps (length ls + 2) x can.told.exchanged other;
      tells = tells;
      contents = contents_same ps x (length ls + 2) a.word a.content can.told.numbers can.told.contents found read;
      handles = can.told.handles;
    })

pub none_mark : (line : ℕ) (op : Op) (answer : Answer) → TellsNone answer → mark_of_answer line op answer ≡ None
none_mark line op (Made seen n) h = absurd h
none_mark line op (Done seen) h = absurd h
none_mark line op (Value seen value) h = absurd h
none_mark line op (Dangling seen value) h = absurd h
none_mark line op (SecondFree None) h = refl
none_mark line op (SecondFree (Some seen)) h = absurd h
none_mark line op (NotOwner seen) h = absurd h
none_mark line op StaleReset h = refl
none_mark line op (StaleUse None) h = refl
none_mark line op (StaleUse (Some seen)) h = absurd h
none_mark line op Nothing h = refl
none_mark line op Filled h = refl
none_mark line op NotRef h = refl
none_mark line op (Shared seen) h = absurd h
none_mark line op OutOfRange h = refl
none_mark line op TooLarge h = refl
none_mark line op (Full entry) h = refl
none_mark line op (Swapped entry) h = absurd h
none_mark line op (Purged slots) h = refl
none_mark line op Uncounted h = refl

none_read : (ps : List Played) (answer : Answer) → TellsNone answer → IsReadExact ps answer
none_read ps (Made seen n) h = tt
none_read ps (Done seen) h = tt
none_read ps (Value seen value) h = absurd h
none_read ps (Dangling seen value) h = absurd h
none_read ps (SecondFree seen) h = tt
none_read ps (NotOwner seen) h = tt
none_read ps StaleReset h = tt
none_read ps (StaleUse seen) h = tt
none_read ps Nothing h = tt
none_read ps Filled h = tt
none_read ps NotRef h = tt
none_read ps (Shared seen) h = tt
none_read ps OutOfRange h = tt
none_read ps TooLarge h = tt
none_read ps (Full entry) h = tt
none_read ps (Swapped entry) h = tt
none_read ps (Purged slots) h = tt
none_read ps Uncounted h = tt

pub none_goes_on : NoneGoesOn
none_goes_on threads ls ps a thread op answer can none other row =
    let x = played_at a.rules ls thread op answer in
    let silent : mark_of x ≡ None = none_mark (length ls + 2) op answer none in
    still threads ls ps a thread op answer can other
    (λ u n e. let P : Answer → Type 0 = λ z. TellsNone z in subst P e none)
    (rw silent refl)
    (λ m e. let bad : None ≡ Some m = sym silent ∙ e in absurd cc)
    (none_read (ps ++ x ∷ []) answer none) row

pub look_mark : (line : ℕ) (op : Op) (a : Shown) (s : Seen) (answer : Answer) → Looks a s answer →
    mark_of_answer line op answer ≡ Some (mark_at line s None)
look_mark line op a s (Made seen n) h = absurd h
look_mark line op a s (Done seen) h = absurd h
look_mark line op a s (Value seen value) h = ap (λ z. Some (mark_at line z None)) h.0
look_mark line op a s (Dangling seen value) h = ap (λ z. Some (mark_at line z None)) h.0
look_mark line op a s (SecondFree None) h = absurd h
look_mark line op a s (SecondFree (Some seen)) h = ap (λ z. Some (mark_at line z None)) h
look_mark line op a s (NotOwner seen) h = ap (λ z. Some (mark_at line z None)) h
look_mark line op a s StaleReset h = absurd h
look_mark line op a s (StaleUse None) h = absurd h
look_mark line op a s (StaleUse (Some seen)) h = ap (λ z. Some (mark_at line z None)) h
look_mark line op a s Nothing h = absurd h
look_mark line op a s Filled h = absurd h
look_mark line op a s NotRef h = absurd h
look_mark line op a s (Shared seen) h = ap (λ z. Some (mark_at line z None)) h
look_mark line op a s OutOfRange h = absurd h
look_mark line op a s TooLarge h = absurd h
look_mark line op a s (Full entry) h = absurd h
look_mark line op a s (Swapped entry) h = absurd h
look_mark line op a s (Purged slots) h = absurd h
look_mark line op a s Uncounted h = absurd h

-- what a look read, if the slot's content is this
look_read : (ps : List Played) (a : Shown) (s : Seen) (answer : Answer) → Looks a s answer
    → (held_of s.found.0 ≡ 1 → IsContent ps s.slot (number_of s.found.0) (a.content s.slot)) → IsReadExact ps answer
look_read ps a s (Made seen n) h is = absurd h
look_read ps a s (Done seen) h is = absurd h
look_read ps a s (Value seen value) h is =
    let P : Seen → Type 0 = λ z. IsContent ps z.slot (number_of z.found.0) value in
    let V : ℕ → Type 0 = λ v. IsContent ps s.slot (number_of s.found.0) v in
    subst P (sym h.0) (subst V (sym h.2) (is h.1))
look_read ps a s (Dangling seen value) h is = h.1
look_read ps a s (SecondFree seen) h is = tt
look_read ps a s (NotOwner seen) h is = tt
look_read ps a s StaleReset h is = absurd h
look_read ps a s (StaleUse seen) h is = tt
look_read ps a s Nothing h is = absurd h
look_read ps a s Filled h is = absurd h
look_read ps a s NotRef h is = absurd h
look_read ps a s (Shared seen) h is = tt
look_read ps a s OutOfRange h is = absurd h
look_read ps a s TooLarge h is = absurd h
look_read ps a s (Full entry) h is = absurd h
look_read ps a s (Swapped entry) h is = absurd h
look_read ps a s (Purged slots) h is = absurd h
look_read ps a s Uncounted h is = absurd h

pub look_goes_on : LookGoesOn
look_goes_on threads ls ps a thread reg op answer seen can hr names found looks other row =
    let x = played_at a.rules ls thread op answer in
    let m : Mark = mark_at (length ls + 2) seen None in
    let told : mark_of x ≡ Some m = look_mark (length ls + 2) op a seen answer looks in
    let U : ℕ → Type 0 = λ w. 0 < held_of w + refs_of w in
    let used : U seen.found.0 = subst U (sym found) (in_use threads a can.told.handles thread reg can.among hr seen.slot names) in
    let finds : HasFound a.word x = found_by a.word x m told found in
    let W : ℕ → Type 0 = λ w. held_of w ≡ 1 → IsContent (ps ++ x ∷ []) seen.slot (number_of w) (a.content seen.slot) in
    still threads ls ps a thread op answer can other
    (λ u n e. let P : Answer → Type 0 = λ z. Looks a seen z in subst P e looks)
    (rw told (found, used, refl))
    finds
    (look_read (ps ++ x ∷ []) a seen answer looks
    (subst W (sym found) (λ held. content_same ps x a.word a.content seen.slot can.told.contents finds held)))
    row
