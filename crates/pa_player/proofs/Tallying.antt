-- A slot that is live, quarantined or cached is counted in its partition's tally.
use Rattle.std.proofs.Common.{◌≡◌, ℕ, zero, suc, ◌+◌, ◌<◌, ◌≤◌, List, [], ◌∷◌, length, get_or, sum, refl, subst, arith}
use Rattle.std.specs.List.{AllZip}
use Rattle.std.proofs.lemmas.List.Sums.{get_or-le-sum_by}
use Rattle.pa_slot.specs.declared.word.SlotName.{SlotName}
use Rattle.pa_slot.specs.Run.{IsLive, IsQuarantined}
use Rattle.pa_trace.specs.declared.script.Line.{Line}
use Rattle.pa_record.specs.declared.report.Tally.{Tally}
use Rattle.pa_rules.specs.declared.played.Played.{Played}
use Rattle.pa_rules.specs.Roots.{Journals, AreRoots, IsPoolOf}
use Rattle.pa_rules.specs.Report.{HasSize, HasWord, IsTally}
use Rattle.pa_rules.proofs.Numbering.{rising_differ}
use Rattle.pa_legal.specs.Tallies.{IsTallied}
use Rattle.pa_legal.proofs.Titling.{one_kind}
use Rattle.pa_legal.proofs.tallies.Adding.{tallies_follow}
use Rattle.pa_heap_effects.proofs.Filing.{placed_are_roots}
use Rattle.pa_slot_effects.proofs.Ending.{ends_right}
use Rattle.pa_player.specs.Player.{Player}
use Rattle.pa_player.specs.Tables.{slot_at, named_at}
use Rattle.pa_player.specs.Tallies.{tally_at}
use Rattle.pa_player.specs.Playing.{shown, journals, caches, home_in, len_in, IsPlaying, rules_at}
use Rattle.pa_player.proofs.Going.{let_out_sized}
use Rattle.pa_player.proofs.Alone.{has_word}

-- a slot that is so is counted, with its length
pub record IsCounted (len : ℕ) (t : Tally) : Type 0 where
  pub slots : 1 ≤ t.slots
  pub bytes : len ≤ t.bytes

zip_lengths : {A B : Type 0} (R : A → B → Type 0) (xs : List A) (ys : List B) → AllZip R xs ys → length xs ≡ length ys
zip_lengths R [] [] h = refl
zip_lengths R [] (y ∷ ys) h = absurd h
zip_lengths R (x ∷ xs) [] h = absurd h
zip_lengths R (x ∷ xs) (y ∷ ys) h = omega (arith, zip_lengths R xs ys h.1)

zip_at : {A B : Type 0} (R : A → B → Type 0) (xs : List A) (ys : List B) (k : ℕ) (a : A) (b : B) → AllZip R xs ys → k < length xs →
    R (get_or xs k a) (get_or ys k b)
zip_at R [] [] k a b h low = absurd (omega (arith, low))
zip_at R [] (y ∷ ys) k a b h low = absurd h
zip_at R (x ∷ xs) [] k a b h low = absurd h
zip_at R (x ∷ xs) (y ∷ ys) zero a b h low = h.0
zip_at R (x ∷ xs) (y ∷ ys) (suc k) a b h low = zip_at R xs ys k a b h.1 (omega (arith, low))

size_within : (sizes : List ℕ) (k len : ℕ) → k < length sizes → get_or sizes k 0 ≡ len → len ≤ sum sizes
size_within sizes k len low is =
    let within = get_or-le-sum_by (λ (x : ℕ). x) sizes k 0 low in
    omega (arith, within, is)

tally_counts : (P : ℕ → Type 0) (roots : Journals) (ps : List Played) (q : ℕ) (t : Tally) (s : SlotName) (len w : ℕ) →
    ((more : ℕ) → HasSize roots q s more → more ≡ len)
    → HasSize roots q s len → HasWord ps s w → P w → IsTally P roots ps q t → IsCounted len t
tally_counts P roots ps q t s len w one size word so (slots, sizes, are, count, bytes) =
    let (k, low, at) = (are.all s).1 (len, w, size, word, so) in
    let zip = zip_at (HasSize roots q) slots sizes k s 0 are.sized low in
    let many = zip_lengths (HasSize roots q) slots sizes are.sized in
    let is = one (get_or sizes k 0) (subst (λ z. HasSize roots q z (get_or sizes k 0)) at zip) in
    let within = size_within sizes k len (omega arith) is in
    record { slots = omega arith; bytes = omega arith }

module _ (region partitions threads : ℕ) (ls : List Line) (p : Player) (h : IsPlaying region partitions threads ls p) (i : ℕ)
    (low : i < length p.table) where
  run_of : AreRoots partitions h.ps p.told.pools (journals p) × IsPoolOf region h.ps p.told.pools (journals p)
  run_of = placed_are_roots region partitions (length ls + 2) (rules_at p) ls h.ps p.told.pools (journals p)
      (caches p) h.told.lines h.placed h.pooled

  tallied : IsTallied region partitions h.ps h.ps p.told.pools (journals p)
  tallied = record {
    journals = run_of.0;
    pool = run_of.1;
    lines = rising_differ h.ps h.placed.rising;
    slots = (ends_right threads ls h.ps (shown p) h.told).slots;
  }

  sized : HasSize (journals p) (slot_at p.table i).partition (named_at p.table i) (slot_at p.table i).title.len
  sized = let_out_sized p.version (journals p) (slot_at p.table i) (slot_at p.table i).class (h.slots.let_out i low)

  one_size : (more : ℕ) → HasSize (journals p) (slot_at p.table i).partition (named_at p.table i) more →
      more ≡ (slot_at p.table i).title.len
  one_size more size =
      ((one_kind region partitions h.ps p.told.pools (journals p) (named_at p.table i) run_of.0 run_of.1).size
      (slot_at p.table i).partition (slot_at p.table i).partition more (slot_at p.table i).title.len size sized).1

  counts : (P : ℕ → Type 0) (t : Tally) → P (slot_at p.table i).word.0 → IsTally P (journals p) h.ps (slot_at p.table i).partition t →
      IsCounted (slot_at p.table i).title.len t
  counts P t so is =
      tally_counts P (journals p) h.ps (slot_at p.table i).partition t (named_at p.table i) (slot_at p.table i).title.len
      (slot_at p.table i).word.0 one_size sized
      (has_word region partitions threads ls p h i low) so is

  pub live_counts : IsLive (slot_at p.table i).word.0 →
      IsCounted (slot_at p.table i).title.len (tally_at p.live.of (slot_at p.table i).partition)
  live_counts so =
      let q = (slot_at p.table i).partition in
      counts IsLive (tally_at p.live.of q) so
      (tallies_follow.live region partitions q h.ps h.ps p.told.pools (journals p) (home_in p.table) (len_in p.table)
      (tally_at p.live.of q) tallied h.marked (h.tallied q (h.slots.among i low)).is_live)

  pub quarantined_counts : IsQuarantined (slot_at p.table i).word.0 →
      IsCounted (slot_at p.table i).title.len (tally_at p.quarantined.of (slot_at p.table i).partition)
  quarantined_counts so =
      let q = (slot_at p.table i).partition in
      counts IsQuarantined (tally_at p.quarantined.of q) so
      (tallies_follow.quarantined region partitions q h.ps h.ps p.told.pools (journals p) (home_in p.table) (len_in p.table)
      (tally_at p.quarantined.of q) tallied h.marked
      (h.tallied q (h.slots.among i low)).is_quarantined)
