-- A slot of a class that a step returned goes to the front of its list, and what is too much there goes back to the root.
use Rattle.std.proofs.Common.{◌≡◌, ℕ, suc, ◌+◌, ◌-◌, ◌*◌, ◌/◌, ◌<◌, ◌≤◌, List, [], ◌∷◌, ◌++◌, map, length, take, drop, set, Some, refl, sym, ap, ◌∙◌, subst, arith, length-set, inl, inr, true, false, length-take, length-append}
use Rattle.std.specs.Prelude.{Contains, nat_lt}
use Rattle.std.proofs.Math.Nat.{div-le_self, mul-le-mul_left, mul-add, mul-one}
use Rattle.std.proofs.lemmas.Bool.{cases_lt, lt-ltb, le-ltb}
use Rattle.std.proofs.lemmas.List.{get_or-set_same, set-set, take-append-drop, take-map, drop-map, length-map}
use Rattle.std.proofs.lemmas.List.Sums.{sum-map, sum_by-cons}
use Rattle.pa_buckets.specs.Table.{slot_of}
use Rattle.pa_buckets.specs.Bands.{limit_of}
use Rattle.pa_trace.specs.declared.script.Op.{Op}
use Rattle.pa_trace.specs.declared.script.Line.{Line}
use Rattle.pa_trace.specs.declared.script.Line.TheVariants.{Do}
use Rattle.pa_record.specs.declared.entry.Answer.TheVariants.{Done}
use Rattle.pa_record.specs.declared.report.Tally.{Tally}
use Rattle.pa_lists.proofs.Members.{not_in_none, first_in, later_in}
use Rattle.pa_rules.specs.Caches.{gives}
use Rattle.pa_heap_effects.specs.Deeds.{grown}
use Rattle.pa_heap_effects.specs.Ops.{only_in}
use Rattle.pa_rules.specs.declared.register.Register.{Register}
use Rattle.pa_player.specs.declared.table.Slot.{Slot}
use Rattle.pa_player.specs.declared.tallies.Tallies.{Tallies}
use Rattle.pa_player.specs.Player.{Player}
use Rattle.pa_player.specs.Tables.{slot_at, Points}
use Rattle.pa_rules.specs.Lists.{no_tally}
use Rattle.pa_player.specs.Tallies.{tally_at}
use Rattle.pa_player.specs.Playing.{journals, caches, numbered_at, list_place, list_at, register_at}
use Rattle.pa_player.specs.Changes.{seen_at, list_in, bytes_at, put_front, given, spilled_if, tallied_more, tallied_less}
use Rattle.pa_player.specs.Plays.{CanGoOn}
use Rattle.pa_player.proofs.OneList.{caches_here, place_below}
use Rattle.pa_player.proofs.Changing.{IsRetallied, retallied_set, list_within}
use Rattle.pa_player.proofs.Shows.{IsPlayed}
use Rattle.pa_player.proofs.Stepping.{changed_at}
use Rattle.pa_player.proofs.Returning.{gave_back_in, none_back, IsReturn, len_old, of_class, low, below, returned_played}
use Rattle.pa_lists.proofs.Elements.{take_in, drop_in}
use Rattle.pa_rules.proofs.Versions.{real_in}
use Rattle.pa_rules.specs.Sizes.{HasClass}

-- the bytes of slots of one length
pub bytes_alike : (slots : List Slot) (xs : List ℕ) (len : ℕ) → ((j : ℕ) → Contains xs j → (slot_at slots j).title.len ≡ len) →
    bytes_at slots xs ≡ len * length xs
bytes_alike slots [] len same = omega arith
bytes_alike slots (x ∷ xs) len same =
    let f : ℕ → ℕ = λ j. (slot_at slots j).title.len in
    let a = sum-map f (x ∷ xs) in
    let b = sum_by-cons f x xs in
    let c = sum-map f xs in
    let here = same x (first_in x xs) in
    let rest = bytes_alike slots xs len (λ j among. same j (later_in x j xs among)) in
    omega arith

-- a tally of which more went in than came out
pub retallied_both : (q len was gone now was_bytes : ℕ) (ts : List Tally) → q < length ts → was ≤ (tally_at ts q).slots
    → was_bytes ≤ (tally_at ts q).bytes → was_bytes ≡ len * was → was + 1 ≡ now + gone
    → IsRetallied q was now was_bytes (len * now) ts (tallied_less q gone (len * gone) (tallied_more q 1 len ts))
retallied_both q len was gone now was_bytes ts low some many is parts =
    let more : Tally = record { slots = (tally_at ts q).slots + 1; bytes = (tally_at ts q).bytes + len } in
    let here : tally_at (set ts q more) q ≡ more = get_or-set_same ts q more no_tally low in
    let a : (tally_at (set ts q more) q).slots ≡ (tally_at ts q).slots + 1 = ap (λ (t : Tally). t.slots) here in
    let b : (tally_at (set ts q more) q).bytes ≡ (tally_at ts q).bytes + len = ap (λ (t : Tally). t.bytes) here in
    let less : Tally = record {
      slots = (tally_at (set ts q more) q).slots - gone;
      bytes = (tally_at (set ts q more) q).bytes - len * gone;
    } in
    let product : len * (was + 1) ≡ len * now + len * gone = ap (λ k. len * k) parts ∙ mul-add len now gone in
    let unit : len * (was + 1) ≡ len * was + len = mul-add len was 1 ∙ ap (λ k. len * was + k) (mul-one len) in
    let small : gone ≤ was + 1 = omega arith in
    let few : len * gone ≤ len * (was + 1) = mul-le-mul_left len small in
    subst (λ zs. IsRetallied q was now was_bytes (len * now) ts zs) (sym (set-set ts q more less))
    (retallied_set q was now was_bytes (len * now) ts less low (omega arith) (omega arith))

module _ (region partitions threads : ℕ) (ls : List Line) (p : Player) (thread : ℕ) (op : Op)
    (can : CanGoOn region partitions threads ls (Do thread op) p)
    (reg i : ℕ) (small : reg < 64) (points : Points (register_at p thread reg) i) (y : Slot) (registers : List (List (Register ℕ)))
    (lives waits : Tallies)
    (r : IsReturn region partitions threads ls p can.playing thread op i y registers lives waits) (class : ℕ)
    (is_class : (slot_at p.table i).class ≡ Some class) where
  abbrev home : ℕ
  home = (slot_at p.table i).partition

  abbrev table : List Slot
  table = set p.table i y

  abbrev stepped : Player
  stepped = changed_at p i y registers lives waits

  abbrev old : List ℕ
  old = list_at p thread home class

  abbrev at : ℕ
  at = list_place p.version p.partitions thread home class

  -- the player with the slot before its list
  abbrev put : Player
  put = put_front home at i stepped

  class_of_it : HasClass p.version class × ((slot_at table i).title.len ≡ slot_of class)
  class_of_it = (
    (of_class region partitions threads ls p thread op can reg i small points y registers lives waits r class is_class).0,
    len_old region partitions threads ls p thread op can reg i small points y registers lives waits r class is_class i (first_in i old),
  )

  its_home : home < partitions
  its_home = low region partitions threads ls p thread op can reg i small points y registers lives waits r

  its_thread : thread < threads
  its_thread = below region partitions threads ls p thread op can reg i small points y registers lives waits r

  room : at < length p.caches
  room =
      subst (λ z. list_place p.version z thread home class < length p.caches) (sym can.playing.shaped.many)
      (let b = place_below p.version partitions threads thread home class its_thread its_home class_of_it.0 in
      let c = can.playing.shaped.lists in omega arith)

  inner : home < p.partitions
  inner = subst (λ z. home < z) (sym can.playing.shaped.many) its_home

  length_old : length (caches p thread home class) ≡ length old
  length_old = ap length (caches_here p thread home class inner class_of_it.0) ∙ length-map old (numbered_at p.table)

  tallied : (length old ≤ (tally_at p.cached.of home).slots) × (slot_of class * length old ≤ (tally_at p.cached.of home).bytes)
  tallied =
      let within = list_within (caches p) threads thread home class its_thread (real_in p.version class class_of_it.0) in
      let by = can.playing.tallied home its_home in
      let same : slot_of class * length (caches p thread home class) ≡ slot_of class * length old =
      ap (λ k. slot_of class * k) length_old in
      (let a = within.0 in let b = by.many in let c = length_old in omega arith, let a = within.1 in let b = by.bytes in omega arith)

  four_tallies : home < length p.cached.of
  four_tallies = let a = can.playing.shaped.cached in let b = can.playing.shaped.four in let c = its_home in omega arith

  length_whole : length (map (numbered_at table) (i ∷ old)) ≡ length old + 1
  length_whole = let a = length-map (i ∷ old) (numbered_at table) in omega arith

  -- ---- the list is short enough

  within_played : length old + 1 ≤ limit_of class →
      IsPlayed region partitions threads ls p put can.playing thread op (Done (seen_at p.table i))
  within_played short =
      let none : nat_lt (limit_of class) (length (map (numbered_at table) (i ∷ old))) ≡ false = le-ltb (limit_of class)
      (length (map (numbered_at table) (i ∷ old))) (let a = length_whole in omega arith) in
      let len : (slot_at table i).title.len ≡ slot_of class = class_of_it.1 in
      let count : length (map (numbered_at table) (i ∷ old)) ≡ length old + 1 = length_whole in
      returned_played region partitions threads ls p thread op can reg i small points y registers lives waits r class is_class
      (i ∷ old) [] p.heap p.told put.caches put.cached
      (record {
        entries = refl;
        report = refl;
        line = refl;
        rules = refl;
        phase = refl;
        pools = refl;
        histories = refl;
        pool = refl;
        here = refl;
        there = λ k ne. refl;
        journals = (none_back p (length ls + 2) home).journals;
      })
      (rw none refl) (rw none refl)
      (λ j among. among) (λ j among. absurd (not_in_none j among))
      (omega arith) (omega arith) refl
      (retallied_set home (length (caches p thread home class)) (length (map (numbered_at table) (i ∷ old)))
      (slot_of class * length (caches p thread home class))
      (slot_of class * length (map (numbered_at table) (i ∷ old))) p.cached.of
      (record { slots = (tally_at p.cached.of home).slots + 1; bytes = (tally_at p.cached.of home).bytes + (slot_at table i).title.len })
      four_tallies
      (let a = length_old in omega arith)
      (let a : slot_of class * length (caches p thread home class) ≡ slot_of class * length old = ap (λ k. slot_of class * k) length_old in
      let b : slot_of class * length (map (numbered_at table) (i ∷ old)) ≡ slot_of class * length old + slot_of class =
      ap (λ k. slot_of class * k) count ∙ mul-add (slot_of class) (length old) 1 ∙
      ap (λ k. slot_of class * length old + k) (mul-one (slot_of class)) in
      omega arith))
      (length-set p.cached.of home _ ∙ can.playing.shaped.cached) refl refl

  -- ---- the list is too long then

  abbrev half : ℕ
  half = limit_of class / 2

  abbrev whole : List ℕ
  whole = list_in put at

  whole_is : whole ≡ i ∷ old
  whole_is = get_or-set_same p.caches at (i ∷ old) [] room

  -- the player after the rest went back
  abbrev gave : Player
  gave = given home at half put

  length_stays : length (take half whole) + length (drop half whole) ≡ length old + 1
  length_stays =
      let a = length-append (take half whole) (drop half whole) in
      let b : length (take half whole ++ drop half whole) ≡ length whole = ap length (take-append-drop half whole) in
      let c : length whole ≡ suc (length old) = ap length whole_is in
      omega arith

  most_half : limit_of class < length old + 1 → (length (take half whole) ≤ half) × (length (take half whole) ≤ limit_of class)
  most_half long =
      let a = div-le_self (limit_of class) 2 in
      let b = length-take half whole in
      (omega arith, omega arith)

  over_played : limit_of class < length old + 1 →
      IsPlayed region partitions threads ls p gave can.playing thread op (Done (seen_at p.table i))
  over_played long =
      let over : nat_lt (limit_of class) (length (map (numbered_at table) (i ∷ old))) ≡ true = lt-ltb (limit_of class)
      (length (map (numbered_at table) (i ∷ old))) (let a = length_whole in omega arith) in
      let b = gave_back_in put home (drop half whole) (let a = can.playing.shaped.journals in let c = its_home in omega arith)
      (let a = can.playing.shaped.roots in let c = its_home in omega arith) in
      returned_played region partitions threads ls p thread op can reg i small points y registers lives waits r class is_class
      (take half whole) (drop half whole) gave.heap gave.told gave.caches gave.cached
      (record {
        entries = refl;
        report = refl;
        line = refl;
        rules = refl;
        phase = refl;
        pools = refl;
        histories = refl;
        pool = refl;
        here = b.here;
        there = b.there;
        journals = λ k. b.journals k ∙
            ap (λ n. grown (journals p) n (only_in home (gives (map (numbered_at table) (drop half whole)))) k) can.playing.line;
      })
      (rw over (sym (take-map (numbered_at table) half whole) ∙ ap (λ zs. take half (map (numbered_at table) zs)) whole_is))
      (rw over (sym (drop-map (numbered_at table) half whole) ∙ ap (λ zs. drop half (map (numbered_at table) zs)) whole_is))
      (λ j among. subst (λ z. Contains z j) whole_is (take_in half whole j among))
      (λ j among. subst (λ z. Contains z j) whole_is (drop_in half whole j among))
      (most_half long).1 length_stays (set-set p.caches at (i ∷ old) (take half whole))
      over_tallies
      (length-set _ home _ ∙ length-set p.cached.of home _ ∙ can.playing.shaped.cached) (length-set p.told.journals home _)
      (length-set p.heap.roots home _)
    where
      over_tallies : IsRetallied home (length (caches p thread home class)) (length (map (numbered_at table) (take half whole)))
          (slot_of class * length (caches p thread home class))
          (slot_of class * length (map (numbered_at table) (take half whole))) p.cached.of gave.cached.of
      over_tallies =
          let len : (slot_at table i).title.len ≡ slot_of class = class_of_it.1 in
          let bytes : bytes_at table (drop half whole) ≡ slot_of class * length (drop half whole) =
          bytes_alike table (drop half whole) (slot_of class)
          (λ j among. len_old region partitions threads ls p thread op can reg i small points y registers lives waits r class is_class j
          (subst (λ z. Contains z j) whole_is (drop_in half whole j among))) in
          let left : length (map (numbered_at table) (take half whole)) ≡ length (take half whole) =
          length-map (take half whole) (numbered_at table) in
          let T : ℕ → ℕ → ℕ → Type 0 =
          λ was_bytes b l. IsRetallied home (length (caches p thread home class))
          (length (map (numbered_at table) (take half whole))) was_bytes
          (slot_of class * length (map (numbered_at table) (take half whole))) p.cached.of
          (tallied_less home (length (drop half whole)) b (tallied_more home 1 l p.cached.of)) in
          let a = length_old in
          let c = length_stays in
          let few = tallied.0 in
          let many = tallied.1 in
          let same : slot_of class * length (caches p thread home class) ≡ slot_of class * length old =
          ap (λ k. slot_of class * k) length_old in
          subst (λ l. T (slot_of class * length (caches p thread home class)) (bytes_at table (drop half whole)) l) (sym len)
          (subst (λ b. T (slot_of class * length (caches p thread home class)) b (slot_of class)) (sym bytes)
          (retallied_both home (slot_of class) (length (caches p thread home class)) (length (drop half whole))
          (length (map (numbered_at table) (take half whole)))
          (slot_of class * length (caches p thread home class)) p.cached.of four_tallies (omega arith) (omega arith) refl (omega arith)))

  -- a list with the slot at the start, of which what doesn't stay goes back
  pub back_played : IsPlayed region partitions threads ls p (spilled_if class home at put) can.playing thread op (Done (seen_at p.table i))
  back_played =
      let e : length whole ≡ suc (length old) = ap length whole_is in
      elim (cases_lt (limit_of class) (length whole)) [
        | inl long ↦ rw (lt-ltb (limit_of class) (length whole) long) (over_played (omega arith))
        | inr short ↦ rw (le-ltb (limit_of class) (length whole) short) (within_played (omega arith))
      ]
