-- What was seen in a written run: by a test that says what is before what.
use Rattle.std.proofs.Common.{◌≡◌, ℕ, ◌≤◌, Bool, true, ◌&&◌, not, leb, List, Option, Some, None, subst}
use Rattle.std.specs.Prelude.{Contains}
use Rattle.std.specs.List.{list_all}
use Rattle.std.proofs.lemmas.Bool.{and_parts, leb-true, not-true, both_ways}
use Rattle.pa_slot.specs.Count.{number_of}
use Rattle.pa_slot.specs.Run.{Mark, same_slot}
use Rattle.pa_slot.proofs.Runs.{same_slot_yes}
use Rattle.pa_record.specs.declared.history.CellEntry.{CellEntry}
use Rattle.pa_rules.specs.declared.played.Played.{Played}
use Rattle.pa_rules.specs.Played.{mark_of}
use Rattle.pa_rules.specs.Seen.{HandsTo, IsBefore, Standing, Handing, Between, IsSeenInOrder, left_number}
use Rattle.pa_examples.proofs.worked.Lists.{all_both, both_pass, implies, implied, stands, stands-from}
use Rattle.pa_lists.proofs.Elements.{passes}

-- what the second mark finds isn't older than what the first one left
abbrev pub not_older : Option Mark → Option Mark → Bool
not_older None n = true
not_older (Some m) None = true
not_older (Some m) (Some n) = implies (same_slot m.slot n.slot) (leb (left_number m) (number_of n.found))

not_older-true : (o p : Option Mark) (m n : Mark) → not_older o p ≡ true → o ≡ Some m → p ≡ Some n → m.slot ≡ n.slot →
    left_number m ≤ number_of n.found
not_older-true o p m n h is is' same =
    let here : not_older (Some m) (Some n) ≡ true = subst (λ z. not_older (Some m) z ≡ true) is' (subst (λ z. not_older z p ≡ true) is h) in
    leb-true _ _ (implied _ _ here (same_slot_yes m.slot n.slot same))

-- The test `before` holds if a record is before another, leads on from record to record and never back to the
-- same one, and if it holds no older number is found.
abbrev pub is_seen : (Played → Played → Bool) → List Played → Bool
is_seen before ps =
    all_both (λ (x : Played) (y : Played). implies (stands x y) (before x y)) ps
    && (all_both (λ (x : Played) (y : Played). list_all (λ (z : Played). implies (before x y) (implies (before y z) (before x z))) ps) ps
    && (list_all (λ (x : Played). not (before x x)) ps
    && all_both (λ (x : Played) (y : Played). implies (before x y) (not_older (mark_of x) (mark_of y))) ps))

module _ (cells : ℕ → List CellEntry) (ps : List Played) (before : Played → Played → Bool) (seen : is_seen before ps ≡ true)
    (hands : (x y : Played) → Contains ps x → Contains ps y → HandsTo cells x y → before x y ≡ true) where
  before_from : (x y : Played) → Contains ps x → Contains ps y → IsBefore cells ps x y → before x y ≡ true
  before_from x y among among' (Standing h) =
      implied _ _ (both_pass (λ (a : Played) (b : Played). implies (stands a b) (before a b)) ps x y (and_parts _ _ seen).0 among among')
      (stands-from x y h)
  before_from x y among among' (Handing h) = hands x y among among' h
  before_from x z among among' (Between y middle h k) =
      let through : (a b : Played) → Bool = λ a b. list_all (λ (c : Played). implies (before a b) (implies (before b c) (before a c))) ps in
      let step = passes (λ (c : Played). implies (before x y) (implies (before y c) (before x c))) ps z
      (both_pass through ps x y (and_parts _ _ (and_parts _ _ seen).1).0 among middle) among' in
      implied _ _ (implied _ _ step (before_from x y among middle h)) (before_from y z middle among' k)

  pub seen_in_order : IsSeenInOrder cells ps
  seen_in_order =
      let (back, older) = and_parts _ _ (and_parts _ _ (and_parts _ _ seen).1).1 in
      let rising : (a b : Played) → Bool = λ a b. implies (before a b) (not_older (mark_of a) (mark_of b)) in
      record {
        ahead = λ x among h. both_ways _ (not-true _ (passes (λ (a : Played). not (before a a)) ps x back among))
            (before_from x x among among h);
        rising = λ x y m n among among' h is is' same.
            not_older-true (mark_of x) (mark_of y) m n
            (implied _ _ (both_pass rising ps x y older among among') (before_from x y among among' h)) is is' same;
      }
