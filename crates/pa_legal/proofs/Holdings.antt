-- Each free slot has one holder, as a legal run asks.
use Rattle.std.proofs.Common.{◌≡◌, ℕ, List, [], ◌∷◌, refl, sym, ◌∙◌, ap, subst}
use Rattle.std.specs.Prelude.{Contains}
use Rattle.std.proofs.lemmas.Bool.{eq-eqb}
use Rattle.pa_slot.specs.declared.word.SlotName.{SlotName}
use Rattle.pa_slot.specs.Count.{number_of}
use Rattle.pa_slot.proofs.Runs.{same_slot_yes}
use Rattle.pa_record.specs.declared.entry.Seen.{Seen}
use Rattle.pa_record.specs.declared.entry.Answer.TheVariants.{Made}
use Rattle.pa_record.specs.declared.pool.PoolEntry.{PoolEntry}
use Rattle.pa_lists.proofs.Members.{first_in}
use Rattle.pa_rules.specs.declared.played.Played.{Played}
use Rattle.pa_rules.specs.Played.{mark_of_answer}
use Rattle.pa_rules.specs.Roots.{Journals}
use Rattle.pa_rules.specs.Holders.{WithThread, Move, moves_at, IsHeld}
use Rattle.pa_rules.proofs.FourPlaces.{HasLeft}
use Rattle.pa_legal.specs.Flows.{is_issue_at, marked, issues_at}
use Rattle.pa_legal.specs.Known.{AreKnown, HoldersFollow}
use Rattle.pa_legal.proofs.Titling.{one_partition}
use Rattle.pa_legal.proofs.holders.Alternating.{moved_left}
use Rattle.pa_legal.proofs.holders.Held.{moves_hold, issuer_holds}
use Rattle.pa_legal.proofs.holders.Records.{made_left}
use Rattle.pa_legal.proofs.holders.Gone.{gone_from_journal, gone_from_records}

module _ (supers partitions : ℕ) (ps : List Played) (pools : List PoolEntry) (roots : Journals)
    (a : AreKnown supers partitions ps pools roots) where
  -- another partition's journal doesn't name the slot
  not_moved : (p q k : ℕ) (s : SlotName) (ms : List Move) → HasLeft roots p s → (q ≡ p → ⊥) → moves_at (roots q) s k ≡ ms → ms ≡ []
  not_moved p q k s [] left other is = refl
  not_moved p q k s (m ∷ ms) left other is =
      let left' = moved_left roots q s k m a.numbers (subst (λ zs. Contains zs m) (sym is) (first_in m ms)) in
      absurd (other (one_partition supers partitions ps pools roots a.journals a.pool s q p left' left))

  issued : (x : Played) (seen : Seen) (usable : ℕ) → x.answer ≡ Made seen usable → issues_at seen.slot (number_of seen.found.0) x ≡ 1
  issued x seen usable is =
      ap (λ a. marked (is_issue_at seen.slot (number_of seen.found.0)) (mark_of_answer x.line x.op a)) is
      ∙ rw (same_slot_yes seen.slot seen.slot refl, eq-eqb (number_of seen.found.0) (number_of seen.found.0) refl) refl

  issuer : (x : Played) (seen : Seen) (usable : ℕ) → Contains ps x → x.answer ≡ Made seen usable →
      IsHeld ps roots seen.slot (number_of seen.found.0) (WithThread x.thread)
  issuer x seen usable among is =
      let (p, left) = made_left roots x seen.slot (a.flows.made x seen usable among is) in
      let k = number_of seen.found.0 in
      let (h, first, last) = issuer_holds supers partitions ps pools roots a seen.slot k p x left among (issued x seen usable is) in
      (p, h, λ q other. not_moved p q k seen.slot (moves_at (roots q) seen.slot k) left other refl, first, last)

pub holders_follow : HoldersFollow
holders_follow supers partitions ps pools roots a = record {
  moves = moves_hold supers partitions ps pools roots a;
  issues = issuer supers partitions ps pools roots a;
  gone_from_journal = gone_from_journal supers partitions ps pools roots a;
  gone_from_records = gone_from_records supers partitions ps pools roots a;
}
