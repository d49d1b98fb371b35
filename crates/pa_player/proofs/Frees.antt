-- A free into quarantine, and a write.
use Rattle.std.proofs.Common.{◌≡◌, ℕ, ◌+◌, ◌<◌, ◌≤◌, List, length, set, Some, refl, sym, ap, ◌∙◌, subst, arith, length-set}
use Rattle.std.proofs.lemmas.List.{get_or-set_same, set-set}
use Rattle.pa_slot.specs.declared.title.Title.{Title}
use Rattle.pa_slot.specs.declared.word.Step.TheVariants as steps
use Rattle.pa_slot.specs.Count.{refs_of, stepped}
use Rattle.pa_trace.specs.declared.script.Op.TheVariants as ops
use Rattle.pa_record.specs.declared.entry.Answer.TheVariants as answers
use Rattle.pa_rules.specs.Played.{mark_at}
use Rattle.pa_slot.specs.Kinds.{issues, frees, enters, leaves}
use Rattle.pa_slot_effects.specs.Turns.{after_free, after_write}
use Rattle.pa_slot_effects.proofs.Ops.{free_goes_on, write_goes_on}
use Rattle.pa_rules.specs.declared.register.Register.TheVariants.{Own, Freed}
use Rattle.pa_player.specs.declared.table.Slot.{Slot}
use Rattle.pa_player.specs.Player.{Player}
use Rattle.pa_player.specs.Tables.{no_slot, slot_at, named_at, AreNamed, Points}
use Rattle.pa_player.specs.Tallies.{tally_at}
use Rattle.pa_player.specs.Playing.{shown, caches, reg_of, register_at, cell_at, home_in, len_in}
use Rattle.pa_player.specs.Changes.{stepped_at, filled_at, registered, seen_at, freed_at, quarantined_more, tallied_less, tallied_more}
use Rattle.pa_player.specs.Plays.{Plays, PlaysAfter}
use Rattle.pa_player.proofs.Slots.{IsSame, slot_here, keeps_set, keeps_named, named_as}
use Rattle.pa_player.proofs.Shaping.{shaped_table, shaped_registered, shaped_live, shaped_quarantined}
use Rattle.pa_player.proofs.Showing.{reg_kept, told_kept, word_set, content_stays, content_set, usable_stays, plain_stays}
use Rattle.pa_player.proofs.Counting.{tally_more, tally_less, cached_slots_same, cached_bytes_same}
use Rattle.pa_player.proofs.Quiet.{quiet_plays, can_play, counts_still}
use Rattle.pa_player.proofs.Weighing.{tally_in, tally_out, write_adds, free_enters}
use Rattle.pa_player.proofs.Stepping.{in_table, word_is, step_quiet, lists_kept, shows_step}
use Rattle.pa_player.proofs.Copies.{word_as, word_same, keeps_lists}

-- the partition and the length of a slot that was changed, by its name
pub home_at : (slots : List Slot) (i : ℕ) (y : Slot) → AreNamed slots → i < length slots → IsSame (slot_at slots i) y
    → (home_in (set slots i y) (named_at slots i) ≡ (slot_at slots i).partition) ×
    (len_in (set slots i y) (named_at slots i) ≡ (slot_at slots i).title.len)
home_at slots i y named low same =
    let keeps = keeps_set slots i y low same in
    let at = slot_here (set slots i y) (named_at slots i) i (named_as slots i y named low same)
    (omega (arith, low, length-set slots i y), keeps_named slots (set slots i y) i keeps low) in (
      ap (λ (z : Slot). z.partition) at ∙ keeps.partition i low,
      ap (λ (z : Slot). z.title.len) at ∙
          ap (λ (t : Title). t.len) (keeps.title i low),
    )

-- ---- a free that finds raw_ptrs

module _ (p : Player) (thread reg i : ℕ) (own : register_at p thread reg ≡ Own i)
    (some : 1 ≤ (tally_at p.live.of (slot_at p.table i).partition).slots)
    (many : (slot_at p.table i).title.len ≤ (tally_at p.live.of (slot_at p.table i).partition).bytes)
    (refs : 0 < refs_of (slot_at p.table i).word.0) where
  points_own : Points (register_at p thread reg) i
  points_own = subst (λ z. Points z i) (sym own) refl

  abbrev quarantined : Player
  quarantined = quarantined_more (slot_at p.table i).partition (slot_at p.table i).title.len (freed_at thread reg i p)

  pub was_quarantined : Plays p thread (ops.Free reg)
      (quarantined_more (slot_at p.table i).partition (slot_at p.table i).title.len (freed_at thread reg i p))
      (answers.Done (seen_at p.table i))
  was_quarantined = quiet_plays p thread (ops.Free reg) quarantined (answers.Done (seen_at p.table i)) (λ region partitions threads ls can.
      let h = can.playing in
      let low = in_table region partitions threads ls p thread (ops.Free reg) can reg i can.within.1 points_own in
      let is = word_is region partitions threads ls p thread (ops.Free reg) can reg i can.within.1 points_own in
      let seen = seen_at p.table i in
      let x = slot_at p.table i in
      let y = word_as (stepped steps.Free x.word.0) x in
      let same = word_same (stepped steps.Free x.word.0) x in
      let keeps = keeps_set p.table i y low same in
      let live = tallied_less x.partition 1 x.title.len p.live.of in
      let away = tallied_more x.partition 1 x.title.len p.quarantined.of in
      let shows = shows_step region partitions threads ls p i thread reg Freed y (record { of = live })
      (record { of = away }) h low can.within.0 can.within.1 tt same in
      let home = home_at p.table i y h.slots.apart low same in
      let among = h.slots.among i low in
      let lists = lists_kept region partitions threads ls p thread (ops.Free reg) can reg i can.within.1 points_own y in
      let registered_shape = shaped_registered partitions threads (record p { table = set p.table i y })
      (shaped_table partitions threads p h.shaped (set p.table i y) keeps) thread reg Freed tt in
      let live_shape = shaped_live partitions threads (registered thread reg Freed (stepped_at steps.Free i p)) registered_shape live
      (length-set p.live.of x.partition _ ∙ h.shaped.live) in
      step_quiet region partitions threads ls p thread (ops.Free reg) can reg i can.within.1 points_own (answers.Done seen) y
      (registered thread reg Freed p).registers (record { of = live }) (record { of = away })
      (after_free (shown p) thread reg seen) (Some steps.Free) same
      (keeps_lists (ops.Free reg) seen steps.Free refl (λ bad. omega (arith, bad.1, refs))) refl
      (free_goes_on threads ls h.ps (shown p) thread reg seen
      (can_play region partitions threads ls thread (ops.Free reg) p can) can.within.1 (ap (reg_of p.table) own) (sym is))
      (record {
        rules = refl;
        regs = shows.regs;
        held = shows.held;
        cells = λ k. refl;
        word = shows.word;
        content = λ s is_held. content_stays p.table i y s h.slots.apart low same refl;
        usable = λ s stepped_on. shows.usable s;
        plain = λ s stepped_on. shows.plain s;
      })
      (shaped_quarantined partitions threads (freed_at thread reg i p) live_shape away
      (length-set p.quarantined.of x.partition _ ∙ h.shaped.quarantined))
      (record {
        live = λ k inside.
            tally_out issues frees (set p.table i y) k x.partition x.title.len seen.slot
            (Some (mark_at (length ls + 2) seen (Some steps.Free))) (tally_at p.live.of k) (tally_at live k) home.0 home.1
            (λ w. refl) (λ w. refl) (tally_less x.partition 1 x.title.len k p.live.of
            (omega (arith, among, h.shaped.four, h.shaped.live)) some many);
        quarantined = λ k inside.
            tally_in enters leaves (set p.table i y) k x.partition x.title.len seen.slot
            (Some (mark_at (length ls + 2) seen (Some steps.Free))) (tally_at p.quarantined.of k) (tally_at away k) home.0 home.1
            (free_enters (length ls + 2) seen refs) (λ w. refl)
            (tally_more x.partition 1 x.title.len k p.quarantined.of (omega (arith, among, h.shaped.four, h.shaped.quarantined)));
        many = λ k inside. (h.tallied k inside).many ∙ sym (cached_slots_same (caches p) (caches quarantined) threads k lists);
        bytes = λ k inside. (h.tallied k inside).bytes ∙ sym (cached_bytes_same (caches p) (caches quarantined) threads k lists);
      }))

-- ---- a write

-- a word and a content that are set one after the other
pub set_both : (slots : List Slot) (i value w : ℕ) → i < length slots
    → set (set slots i (word_as w (slot_at slots i))) i (record (slot_at (set slots i (word_as w (slot_at slots i))) i) { content = value })
    ≡ set slots i (record (word_as w (slot_at slots i)) { content = value })
set_both slots i value w low =
    let y = word_as w (slot_at slots i) in
    let f : Slot → Slot = λ z. record z { content = value } in
    ap (λ z. set (set slots i y) i (f z)) (get_or-set_same slots i y no_slot low) ∙ set-set slots i y (f y)

module _ (p : Player) (thread reg i value : ℕ) (own : register_at p thread reg ≡ Own i)
    (none : refs_of (slot_at p.table i).word.0 ≡ 0) where
  owns_it : Points (register_at p thread reg) i
  owns_it = subst (λ z. Points z i) (sym own) refl

  abbrev written : Slot
  written = record (word_as (stepped steps.Write (slot_at p.table i).word.0) (slot_at p.table i)) { content = value }

  written_once : Plays p thread (ops.Write reg value) (record p { table = set p.table i written }) (answers.Done (seen_at p.table i))
  written_once = quiet_plays p thread (ops.Write reg value) (record p { table = set p.table i written }) (answers.Done (seen_at p.table i))
      (λ region partitions threads ls can.
      let h = can.playing in
      let low = in_table region partitions threads ls p thread (ops.Write reg value) can reg i can.within.1 owns_it in
      let is = word_is region partitions threads ls p thread (ops.Write reg value) can reg i can.within.1 owns_it in
      let seen = seen_at p.table i in
      let same : IsSame (slot_at p.table i) written = record { title = refl; partition = refl; class = refl } in
      let keeps = keeps_set p.table i written low same in
      step_quiet region partitions threads ls p thread (ops.Write reg value) can reg i can.within.1 owns_it
      (answers.Done seen) written p.registers p.live p.quarantined
      (after_write (shown p) value seen) (Some steps.Write) same (keeps_lists (ops.Write reg value) seen steps.Write refl (λ bad. bad)) refl
      (write_goes_on threads ls h.ps (shown p) thread reg value seen
      (can_play region partitions threads ls thread (ops.Write reg value) p can) can.within.1 (ap (reg_of p.table) own) (sym is) none)
      (record {
        rules = refl;
        regs = λ t r. reg_kept p.table (set p.table i written) (register_at p t r) keeps (h.shaped.held t r);
        held = λ k. told_kept p.table (set p.table i written) (cell_at p k) keeps (h.shaped.celled k);
        cells = λ k. refl;
        word = λ s. word_set p.table i written s h.slots.apart low same;
        content = λ s is_held. content_set p.table i written s h.slots.apart low same;
        usable = λ s stepped_on. usable_stays p.table i written s h.slots.apart low same;
        plain = λ s stepped_on. plain_stays p.plain_from p.table i written s h.slots.apart low same;
      })
      (shaped_table partitions threads p h.shaped (set p.table i written) keeps)
      (counts_still region partitions threads ls p (record p { table = set p.table i written })
      (Some (mark_at (length ls + 2) seen (Some steps.Write))) h (write_adds (length ls + 2) seen) refl refl refl
      (λ t k class. lists_kept region partitions threads ls p thread
      (ops.Write reg value) can reg i can.within.1 owns_it written t k class)))

  pub was_written : Plays p thread (ops.Write reg value) (filled_at value i (stepped_at steps.Write i p)) (answers.Done (seen_at p.table i))
  was_written region partitions threads ls can =
      subst (λ slots. PlaysAfter region partitions threads ls p thread (ops.Write reg value) (record p { table = slots })
      (answers.Done (seen_at p.table i)))
      (sym (set_both p.table i value (stepped steps.Write (slot_at p.table i).word.0)
      (in_table region partitions threads ls p thread (ops.Write reg value) can reg i can.within.1 owns_it)))
      (written_once region partitions threads ls can)
