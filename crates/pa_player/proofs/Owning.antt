-- What a register owns, and that its first word is read.
use Rattle.std.proofs.Common.{◌≡◌, ℕ, ◌∙◌, ap, subst, arith, inl, inr}
use Rattle.std.specs.Prelude.{Ok, Err}
use Rattle.pa_trace.specs.declared.script.Op.TheVariants as ops
use Rattle.pa_trace.specs.declared.script.Line.TheVariants.{Do}
use Rattle.pa_record.specs.declared.entry.Answer.{Answer}
use Rattle.pa_record.specs.declared.entry.Answer.TheVariants.{Value}
use Rattle.pa_record.specs.declared.entry.Seen.{Seen}
use Rattle.pa_rules.specs.Nexts.{read_next}
use Rattle.pa_rules.specs.declared.register.Register.{Register}
use Rattle.pa_rules.specs.declared.register.Register.TheVariants.{Own}
use Rattle.pa_player.specs.Player.{Player}
use Rattle.pa_player.specs.Tables.{slot_at}
use Rattle.pa_player.specs.Changes.{Reads, seen_at}
use Rattle.pa_player.specs.Playing.{register_at}
use Rattle.pa_player.specs.Plays.{IsReady, ReadsOwn}
use Rattle.pa_player.proofs.Bounds.{length_of}
use Rattle.pa_player.proofs.Handling.{frees}
use Rattle.pa_player.proofs.Ready.{place_ready}
use Rattle.pa_player.proofs.Showing.{handle_points}

-- a register through which no slot is read is no owner
pub owns_no_place : (p : Player) (thread reg place : ℕ) (answer : Answer) → read_next (register_at p thread reg) ≡ Err answer
    → ReadsOwn p thread (ops.Read reg place) answer
owns_no_place p thread reg place answer refused i own first =
    let bad : read_next (Own i) ≡ Err answer = subst (λ (r : Register ℕ). read_next r ≡ Err answer) own refused in
    absurd (let no : ⊥ = cc in no)

-- a read of an owner's first word finds it held, and inside the slot
reads_place : (p : Player) (thread reg place i : ℕ) (answer : Answer) → IsReady (Do thread (ops.Read reg place)) p →
    register_at p thread reg ≡ Own i → Reads i place p answer
    → place ≡ 0 → (seen : Seen) × (value : ℕ) × (answer ≡ Value seen value)
reads_place p thread reg place i answer ready is (inl (past, says)) first =
    let can = ready.can in
    let low = place_ready p (Do thread (ops.Read reg place)) thread reg i ready (handle_points (register_at p thread reg) i (inl is)) in
    let long = length_of ready.region ready.partitions ready.threads ready.ls p can.playing i low in
    absurd (omega (arith, past, first, long.whole, long.least))
reads_place p thread reg place i answer ready is (inr (inl (low, held, says))) first =
    (seen_at p.table i, (slot_at p.table i).content, says)
reads_place p thread reg place i answer ready is (inr (inr (low, free, says))) first =
    let can = ready.can in
    absurd (free ((frees ready.region ready.partitions ready.threads ready.ls p thread (ops.Read reg place) can reg i can.within.1.0 is).0))

pub reads_owned : (p : Player) (thread reg place i : ℕ) (answer : Answer) → IsReady (Do thread (ops.Read reg place)) p
    → read_next (register_at p thread reg) ≡ Ok i → Reads i place p answer → ReadsOwn p thread (ops.Read reg place) answer
reads_owned p thread reg place i answer ready looks reads j own first =
    let next : read_next (Own j) ≡ Ok i = subst (λ (r : Register ℕ). read_next r ≡ Ok i) own looks in
    let same : j ≡ i = cc in
    reads_place p thread reg place i answer ready (own ∙ ap (λ (k : ℕ). Own k) same) reads first
