-- An op that looks at its register's slot, and does no more.
use Rattle.std.proofs.Common.{◌≡◌, ℕ, ◌+◌, ◌<◌, List, [], ◌∷◌, Some, None, refl, sym, ◌∙◌, ap, subst, arith}
use Rattle.pa_slot.specs.declared.title.Title.{Title}
use Rattle.pa_slot.specs.declared.word.SlotName.{SlotName}
use Rattle.pa_slot.specs.Count.{held_of, refs_of}
use Rattle.pa_trace.specs.declared.script.Op.{Op}
use Rattle.pa_record.specs.declared.entry.Answer.{Answer}
use Rattle.pa_record.specs.declared.entry.Answer.TheVariants as answers
use Rattle.pa_record.specs.declared.entry.Seen.{Seen}
use Rattle.pa_region.specs.declared.view.Entry.{Entry}
use Rattle.pa_region.specs.declared.view.Entry.TheVariants.{Looked}
use Rattle.pa_region.specs.declared.view.View.{View}
use Rattle.pa_region.specs.Moves.{IsFound, after_look}
use Rattle.pa_region.specs.Leaves.{LookLeaves}
use Rattle.pa_region.specs.Aware.{IsAware}
use Rattle.pa_region.specs.Shares.{IsUser}
use Rattle.pa_rules.specs.declared.played.Played.{Played}
use Rattle.pa_rules.specs.Played.{mark_at, mark_of_answer}
use Rattle.pa_rules.specs.Registers.{Row}
use Rattle.pa_rules.specs.Caches.{Cache, CacheRow, NoActs, SameLists}
use Rattle.pa_rules.specs.Roots.{Journals}
use Rattle.pa_logs.specs.Touches.{title_of, IsToldBy, IsLookTold}
use Rattle.pa_cells.specs.declared.handle.Handle.{Handle}
use Rattle.pa_logs.specs.Said.{ReadsIts}
use Rattle.pa_op_specs.specs.Owing.{OwesOf}
use Rattle.pa_op_specs.specs.Stocks.{StockRegister, StockValue, IsStock, HasHandleTo, register_in, regs_of}
use Rattle.pa_op_specs.specs.Workers.{HasItsStake}
use Rattle.pa_op_specs.specs.Outcomes.{Outcome, row_facts}
use Rattle.pa_op_specs.specs.Plays.{DoesOp}
use Rattle.pa_op_specs.proofs.Seeing.{made_kept, slot_in_run, home_of}
use Rattle.pa_op_specs.proofs.Stakes.{least_is}
use Rattle.pa_thread_state.proofs.Leaving.{user_not_free, touched_look}
use Rattle.pa_op_specs.proofs.Stocks.{register_has}
use Rattle.pa_op_specs.proofs.Quiet.{quiet_record, quiet_does}
use Rattle.pa_op_specs.proofs.Refusing.{IsNoSwap, enters_no_cells}
use Rattle.pa_thread_state.proofs.Looking.{looked, seen_at}

-- the word is that of a slot in use
pub in_use : (t : Title) (word : ℕ) (v : View) → IsUser t v → IsFound t word v → 0 < held_of word + refs_of word
in_use t word v user found = let a = found.owns in let b = found.refs in omega arith

-- the answer is that of a look that found this
abbrev pub IsOfLook : Answer → Seen → Type 0
IsOfLook (answers.SecondFree (Some seen)) s = seen ≡ s
IsOfLook (answers.NotOwner seen) s = seen ≡ s
IsOfLook (answers.StaleUse (Some seen)) s = seen ≡ s
IsOfLook (answers.Shared seen) s = seen ≡ s
IsOfLook answer s = ⊥

-- what follows for such an answer
record Lookingly (op : Op) (answer : Answer) (seen : Seen) : Type 0 where
  room : (j : ℕ) → answer ≡ answers.Full j → ⊥
  no_swap : (j : ℕ) → answer ≡ answers.Swapped j → ⊥
  owes : (registers : List StockRegister) (t : Title) (found : ℕ) → OwesOf registers op answer (Looked t found ∷ [])
  told : (sizes : SlotName → ℕ) (es : List Entry) → IsLookTold (title_of sizes seen.slot) seen.found.0 es → IsToldBy sizes op answer es
  lists : (partitions : ℕ) (roots : Journals) (x : Played) (cache after : Cache) → NoActs roots x.line → SameLists after cache →
      CacheRow partitions roots x answer cache after
  home : (line : ℕ) → mark_of_answer line op answer ≡ Some (mark_at line seen None)

lookingly : (op : Op) (answer : Answer) (seen : Seen) → IsOfLook answer seen → Lookingly op answer seen
lookingly op (answers.Made s usable) seen is = absurd is
lookingly op (answers.Done s) seen is = absurd is
lookingly op (answers.Value s value) seen is = absurd is
lookingly op (answers.Dangling s value) seen is = absurd is
lookingly op (answers.SecondFree None) seen is = absurd is
lookingly op (answers.SecondFree (Some s)) seen is = record {
  room = λ j e. cc;
  no_swap = λ j e. cc;
  owes = λ registers t found q. refl;
  told = λ sizes es h. subst (λ x. IsToldBy sizes op (answers.SecondFree (Some x)) es) (sym is) h;
  lists = λ n roots x c d none same. (none, same);
  home = λ line. ap (λ x. Some (mark_at line x None)) is;
}
lookingly op (answers.NotOwner s) seen is = record {
  room = λ j e. cc;
  no_swap = λ j e. cc;
  owes = λ registers t found q. refl;
  told = λ sizes es h. subst (λ x. IsToldBy sizes op (answers.NotOwner x) es) (sym is) h;
  lists = λ n roots x c d none same. (none, same);
  home = λ line. ap (λ x. Some (mark_at line x None)) is;
}
lookingly op answers.StaleReset seen is = absurd is
lookingly op (answers.StaleUse None) seen is = absurd is
lookingly op (answers.StaleUse (Some s)) seen is = record {
  room = λ j e. cc;
  no_swap = λ j e. cc;
  owes = λ registers t found q. refl;
  told = λ sizes es h. subst (λ x. IsToldBy sizes op (answers.StaleUse (Some x)) es) (sym is) h;
  lists = λ n roots x c d none same. (none, same);
  home = λ line. ap (λ x. Some (mark_at line x None)) is;
}
lookingly op answers.Nothing seen is = absurd is
lookingly op answers.Filled seen is = absurd is
lookingly op answers.NotRef seen is = absurd is
lookingly op (answers.Shared s) seen is = record {
  room = λ j e. cc;
  no_swap = λ j e. cc;
  owes = λ registers t found q. refl;
  told = λ sizes es h. subst (λ x. IsToldBy sizes op (answers.Shared x) es) (sym is) h;
  lists = λ n roots x c d none same. (none, same);
  home = λ line. ap (λ x. Some (mark_at line x None)) is;
}
lookingly op answers.OutOfRange seen is = absurd is
lookingly op answers.TooLarge seen is = absurd is
lookingly op (answers.Full entry) seen is = absurd is
lookingly op (answers.Swapped entry) seen is = absurd is
lookingly op (answers.Purged slots) seen is = absurd is
lookingly op answers.Uncounted seen is = absurd is

-- the op does what it should, if its row says so
pub looked_does : LookLeaves → (s : StockValue) (op : Op) (answer : Answer) (reg word : ℕ) (h : Handle) → IsStock s →
    IsAware s.view → HasItsStake s →
    reg < 64 → HasHandleTo h (register_in s.registers reg) → IsFound h.title word s.view → IsNoSwap op → IsOfLook answer (seen_at h word) →
    ((o : Outcome) → Row (row_facts o) op (regs_of s.registers) answer (regs_of s.registers)) →
    ((o : Outcome) (line phase : ℕ) →
    ReadsIts o.sizes (regs_of s.registers) op
    (quiet_record s (after_look h.title word s.view) line phase op answer (Looked h.title word ∷ []))) →
    (line : ℕ) → DoesOp line op answer s (looked s h word)
looked_does looks s op answer reg word h is aware stake below has found no_swap of_look row reads =
    let t = h.title in
    let w = after_look t word s.view in
    let l = lookingly op answer (seen_at h word) of_look in
    let knows = register_has s reg h is below has in
    let least = least_is s.thread s.view is.stake stake in
    quiet_does s w s.registers op answer (Looked t word ∷ []) is.lists
    (touched_look looks s.thread t word s.view least.1 found least.0 (user_not_free s.view t aware knows.0))
    (record { room = l.room; no_swap = l.no_swap; cells = enters_no_cells op no_swap })
    (l.owes s.registers t word) (λ refused q known. refl)
    (λ line phase o run rules sees.
    let slot = slot_in_run o w h run sees (made_kept h s.view w refl knows.1) in
    record {
      told = l.told o.sizes (Looked t word ∷ []) (ap (λ u. Looked u word ∷ []) (sym slot.title), in_use t word s.view knows.0 found);
      row = row o;
      reader = reads o line phase;
      home = λ m e. (h.partition, home_of o h.partition (mark_at line (seen_at h word) None) m (sym (l.home line) ∙ e) slot.size);
    })
    (λ line phase o none same.
    l.lists o.partitions o.roots (quiet_record s w line phase op answer (Looked t word ∷ [])).played _ _ none same)
