-- The core at the start: all words are 0, and actor 0 has every byte.
use Rattle.std.proofs.Common.{◌≡◌, ℕ, zero, suc, ◌+◌, ◌-◌, ◌*◌, ◌/◌, ◌%◌, ◌<◌, ◌≤◌, if◌then◌else◌, List, [], ◌∷◌, length, get_or, replicate, refl, sym, ◌∙◌, ap, subst, arith, inl, inr}
use Rattle.std.proofs.lemmas.List.Sums.{sum_by-cons}
use Rattle.std.proofs.lemmas.List.{length-replicate, get_or-replicate}
use Rattle.pa_slot.specs.declared.title.Title.{Title}
use Rattle.std.specs.Prelude.{Contains}
use Rattle.pa_slot.specs.declared.word.SlotName.{SlotName}
use Rattle.pa_slot.specs.declared.title.OwnState.{OwnState}
use Rattle.pa_slot.specs.declared.title.OwnState.TheVariants.{Clean}
use Rattle.pa_slot.specs.Holdings.{Piece, RawPiece, Thing, RawByte, FreeTitle, OwnOf, OwnAs, SealedOwn, RefOf, IsTitleHeld, amount, held_in, held_by_all}
use Rattle.pa_machine.specs.Events.{State, IsStart, of_actor, held_by, total_of}
use Rattle.pa_machine.specs.Trail.{IsGoodState}
use Rattle.pa_machine.proofs.Totals.{of_actor_apart}
use Rattle.pa_machine.proofs.Keeps.{own_of_state}
use Rattle.pa_machine.proofs.Totals.{tally_of}
use Rattle.pa_record.specs.declared.history.Held.TheVariants.{Nothing}
use Rattle.pa_record.specs.Spans.{name_of}
use Rattle.pa_record.specs.Root.{Root, new_root, root_replayed}
use Rattle.pa_rules.specs.Flow.{listed_times}
use Rattle.pa_lists.proofs.Members.{not_in_none}
use Rattle.pa_rules.specs.Registers.{no_regs, plain_in}
use Rattle.pa_rules.specs.Caches.{no_caches}
use Rattle.pa_rules.proofs.Counted.{listed_none}
use Rattle.pa_slot_effects.specs.Shown.{owns, points, over}
use Rattle.pa_one_run.proofs.lines.Sorting.{none_below}
use Rattle.pa_one_run.proofs.Filed.{IsFiled}
use Rattle.pa_core_run.specs.Standing.{Standing, in_registers, in_lists}
use Rattle.pa_core_run.specs.Fronts.{ShowsFront}
use Rattle.pa_core_run.proofs.Showing.{no_seals, seals_of}
use Rattle.pa_core_steps.proofs.Pieces.{raw_cases}
use Rattle.pa_core_steps.proofs.Possible.{single}
use Rattle.pa_one_run.specs.Parts.{Parts, entry_line, cell_line}
use Rattle.pa_one_run.specs.Before.{below, root_at, gave_last}
use Rattle.pa_slot_effects.proofs.Handles.{over_same}

abbrev pub start_of : ℕ → ℕ → State
start_of bytes actors = record { words = replicate (bytes / 8) 0; holdings = (RawPiece 0 bytes ∷ []) ∷ replicate (actors - 1) [] }

-- the other actors have nothing
others_none : (n i : ℕ) (x : Thing) → held_in (get_or (replicate {A = List Piece} n []) i []) x ≡ 0
others_none zero i x = refl
others_none (suc n) zero x = refl
others_none (suc n) (suc i) x = others_none n i x

sum_none : (n : ℕ) (x : Thing) → held_by_all (replicate {A = List Piece} n []) x ≡ 0
sum_none zero x = refl
sum_none (suc n) x = let c = sum_by-cons (λ (ps : List Piece). held_in ps x) [] (replicate n []) in let ih = sum_none n x in omega arith

-- what all have at the start
pub start_total : (bytes actors : ℕ) (x : Thing) → total_of (start_of bytes actors) x ≡ amount x (RawPiece 0 bytes)
start_total bytes actors x =
    let c = sum_by-cons (λ (ps : List Piece). held_in ps x) (RawPiece 0 bytes ∷ []) (replicate (actors - 1) []) in
    let n = sum_none (actors - 1) x in
    let o = single (RawPiece 0 bytes) x in
    omega arith

-- at the start no title is held
pub start_unheld : (bytes actors : ℕ) (t : Title) → IsTitleHeld (total_of (start_of bytes actors)) t → ⊥
start_unheld bytes actors t held =
    let a = start_total bytes actors (FreeTitle t) in
    let b = start_total bytes actors (OwnOf t) in
    let c = start_total bytes actors (RefOf t) in
    omega arith

pub start_is : (bytes actors : ℕ) → 1 ≤ actors → IsStart bytes actors (start_of bytes actors)
start_is bytes actors some = record {
  count = let e = length-replicate {A = List Piece} (actors - 1) [] in omega arith;
  words = length-replicate (bytes / 8) 0;
  zero = λ i below. get_or-replicate (bytes / 8) i 0 0 below;
  held = each;
}
  where
    each : (actor : ℕ) (x : Thing) → actor < actors →
        held_by (start_of bytes actors) actor x ≡ held_in (of_actor 0 (RawPiece 0 bytes ∷ []) actor) x
    each zero x below = refl
    each (suc k) x below = others_none (actors - 1) k x ∙ sym (of_actor_apart 0 (suc k) (RawPiece 0 bytes ∷ []) x (λ z. omega arith))

pub start_good : (bytes actors : ℕ) → bytes % 8 ≡ 0 → IsGoodState (start_of bytes actors)
start_good bytes actors whole =
    let long : length (start_of bytes actors).words ≡ bytes / 8 = length-replicate (bytes / 8) 0 in
    record {
      divided = record {
        bytes = λ b below. elim (raw_cases b 0 bytes) [
          | inl y ↦ let y2 = y.2 in let t = start_total bytes actors (RawByte b) in
              inl (omega arith, λ t held covers. start_unheld bytes actors t held)
          | inr n ↦ absurd (n.0 (omega arith, omega arith))
        ];
        outside = λ b past. elim (raw_cases b 0 bytes) [
          | inl y ↦ let y1 = y.1 in absurd (omega arith)
          | inr n ↦ let n1 = n.1 in let t = start_total bytes actors (RawByte b) in omega arith
        ];
        well = λ t held. absurd (start_unheld bytes actors t held);
        apart = λ t u b held other. absurd (start_unheld bytes actors t held);
      };
      counted = λ t held. absurd (start_unheld bytes actors t held);
      poison_kept = λ t held. absurd (start_unheld bytes actors t held);
      content_kept = λ t held. absurd (start_unheld bytes actors t held);
      seal_kept = λ t held. absurd (start_unheld bytes actors t held);
    }

-- ---- what the core shows then

abbrev pub nothing_stands : Standing
nothing_stands = record { regs = no_regs; held = λ k. Nothing; caches = no_caches; word = λ x. 0; content = λ x. 0 }

over_none : (n : ℕ) → over n (λ i. 0) ≡ 0
over_none zero = refl
over_none (suc n) = omega (arith, over_none n)

owns_start : (k : ℕ) (x : SlotName) → in_registers (owns x) nothing_stands k ≡ 0
owns_start zero x = over_none 64
owns_start (suc k) x = over_none 64

points_start : (k : ℕ) (x : SlotName) → in_registers (points x) nothing_stands k ≡ 0
points_start zero x = over_none 64
points_start (suc k) x = over_none 64

lists_start : (partitions k : ℕ) (x : SlotName) → in_lists partitions nothing_stands x k ≡ 0
lists_start partitions zero x = refl
lists_start partitions (suc k) x =
    over_same partitions (λ p. 0) (λ p. listed_times x (no_caches k p) 0 170) (λ p. listed_none x (no_caches k p) 0 170 (λ c. refl)) ∙
    over_none partitions

pub start_shows : (a : Parts) → IsFiled a → ShowsFront a 0 [] a.ps (start_of (2097152 * a.supers) (a.threads + 1))
start_shows a h =
    let bytes = 2097152 * a.supers in
    let actors = a.threads + 1 in
    let s = start_of bytes actors in
    let start = start_is bytes actors (omega arith) in
    let long : length s.words ≡ bytes / 8 = start.words in
    let no_own : (t : Title) (o : OwnState) → 0 < total_of s (OwnAs t o) → ⊥ = λ t o some.
    start_unheld bytes actors t (let p = own_of_state (total_of s) t o (tally_of s.holdings) some in omega arith) in
    let empty : (p : ℕ) → root_at a 0 p ≡ new_root =
    λ p. ap (λ es. root_replayed a.pools es new_root) (none_below entry_line (a.roots p) []) in
    record {
      st = nothing_stands;
      front = record {
        registers = refl;
        rows = h.registers;
        caches = refl;
        lists = h.caches;
        cells = λ k. sym (ap (gave_last Nothing) (none_below cell_line (a.cells k) []));
        words = λ x. refl;
        contents = λ x some. absurd (omega arith);
      };
      shown = record {
        good = start_good bytes actors (omega arith);
        many = start.count;
        long = omega arith;
        own = λ k t below made. let e = owns_start k (name_of t) in omega arith;
        ref = λ k t below made. let e = points_start k (name_of t) in omega arith;
        free = λ k t some below made. let e = lists_start a.partitions k (name_of t) in omega arith;
        kept = λ t (p, (span, among, number, made, is), out). absurd
            (not_in_none span (subst (λ (r : Root). Contains r.spans span) (empty p) among));
        words = λ t held. absurd (start_unheld bytes actors t held);
        contents = λ t some. absurd (no_own t Clean some);
        clean = λ t o some. absurd (no_own t o some);
        sealed = λ k below t.
            let at : (x : Thing) → held_by s k x ≡ held_in (of_actor 0 (RawPiece 0 bytes ∷ []) k) x = λ x. start.held k x below in
            let none = seals_of (λ u. plain_in a.ps (name_of u)) 0 k (RawPiece 0 bytes ∷ [])
            (no_seals (λ u. plain_in a.ps (name_of u)) (RawPiece 0 bytes ∷ []) (λ u. refl) (λ u. refl)) t in
            at (SealedOwn t) ∙ (none ∙ ap (λ n. if plain_in a.ps (name_of t) then n else 0) (sym (at (OwnOf t))));
        raw = λ k byte some below. start.held k (RawByte byte) below ∙
            of_actor_apart 0 k (RawPiece 0 bytes ∷ []) (RawByte byte) (λ z. omega arith);
        there = λ t held. absurd (start_unheld bytes actors t held);
      };
    }
