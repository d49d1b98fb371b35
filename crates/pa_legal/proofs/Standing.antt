-- Where a slot is by its root's numbers and by the threads' lists.
use Rattle.std.proofs.Common.{◌≡◌, ℕ, ◌+◌, ◌⊎◌, Bool, true, false, cond, List, [], ◌∷◌, map, filter, Option, Some, None, refl, sym, ◌∙◌, ap, arith, inl, inr}
use Rattle.std.specs.Prelude.{Contains, count_by}
use Rattle.std.proofs.lemmas.Bool.{cases_Bool}
use Rattle.std.proofs.lemmas.List.{append-nil}
use Rattle.std.proofs.lemmas.List.Elements.{filter-append}
use Rattle.std.proofs.lemmas.List.Sums.{sum_by-cons, sum_by-append}
use Rattle.std.proofs.lemmas.Option.{slice_get-get_or}
use Rattle.pa_slot.specs.declared.word.SlotName.{SlotName}
use Rattle.pa_slot.specs.Run.{same_slot}
use Rattle.pa_slot.proofs.Runs.{same_slot_cases, same_slot_yes, same_slot_no}
use Rattle.pa_record.specs.declared.numbered.Numbered.{Numbered}
use Rattle.pa_record.specs.declared.root.RootEntry.{RootEntry}
use Rattle.pa_record.specs.declared.root.RootAct.{RootAct}
use Rattle.pa_record.specs.declared.root.RootAct.TheVariants.{Fill, Map, Full, Give, Unmap, Purge}
use Rattle.pa_record.specs.Root.{names}
use Rattle.pa_record.specs.Laws.{leaves_by, comes_by, times, times_left, times_back}
use Rattle.pa_lists.proofs.Members.{not_in_none}
use Rattle.pa_record.proofs.Leaving.{out_is_left}
use Rattle.pa_rules.specs.declared.played.Played.{Played}
use Rattle.pa_rules.specs.Caches.{no_caches}
use Rattle.pa_rules.specs.Holders.{Way, Out, Back, Move, move_of, moves_by}
use Rattle.pa_rules.specs.Once.{once}
use Rattle.pa_rules.proofs.Counted.{times_cons}
use Rattle.pa_rules.proofs.Known.{all_known}
use Rattle.pa_rules.proofs.Flowing.{class_leaves}
use Rattle.pa_rules.proofs.FourPlaces.{slot_once}
use Rattle.pa_rules.proofs.Totals.{some_cached}
use Rattle.pa_legal.specs.Turns.{is_out}
use Rattle.pa_legal.specs.Numbers.{all_moves, is_of, moves_of, HasAt, at_after, at_end, IsNumbered, OutNone, CachedOut}
use Rattle.pa_legal.specs.Flows.{is_back}

-- ---- how often a slot moves

abbrev pub counted : (Way → Bool) → List Move → ℕ
counted w ms = count_by (λ (m : Move). w m.way) ms

-- 1 if the root has it
abbrev pub had : Option ℕ → ℕ
had None = 0
had (Some n) = 1

-- a slot goes out and back as its numbers say
pub walk : (at : Option ℕ) (ms : List Move) → IsNumbered at ms → had at + counted is_back ms ≡ had (at_end at ms) + counted is_out ms
walk at [] h = refl
walk at (m ∷ ms) (has, rest) =
    let ih = walk (at_after m.way m.number) ms rest in
    let a = sum_by-cons (λ (n : Move). cond {A = ℕ} (is_back n.way) 1 0) m ms in
    let b = sum_by-cons (λ (n : Move). cond {A = ℕ} (is_out n.way) 1 0) m ms in
    let c = here at m.way m.number has in
    omega arith
  where
    here : (at : Option ℕ) (w : Way) (n : ℕ) → HasAt at w n →
        had at + cond {A = ℕ} (is_back w) 1 0 ≡ had (at_after w n) + cond {A = ℕ} (is_out w) 1 0
    here at Out n has = let e : had at ≡ 1 = ap had has in omega arith
    here at Back n has = let e : had at ≡ 0 = ap had has in omega arith

slots_counted : (w : Way → Bool) (line : ℕ) (way : Way) (s : SlotName) (ns : List Numbered) →
    counted w (filter (is_of s) (map (move_of line way) ns)) ≡ cond {A = ℕ} (w way) (times s (names ns)) 0
slots_counted w line way s [] = elim (cases_Bool (w way)) [ inl hit ↦ rw hit refl | inr miss ↦ rw miss refl ]
slots_counted w line way s (n ∷ ns) =
    let a = times_cons s n.slot (names ns) in
    let ih = slots_counted w line way s ns in
    let b = one_slot (same_slot_cases n.slot s) in
    let c : cond {A = ℕ} (w way) (times s (names (n ∷ ns))) 0 ≡ cond {A = ℕ} (w way) (once s n.slot) 0 + cond {A = ℕ} (w way)
    (times s (names ns)) 0 = parted (w way) _ _ _ a in
    omega arith
  where
    parted : (b : Bool) (all x y : ℕ) → all ≡ x + y → cond {A = ℕ} b all 0 ≡ cond {A = ℕ} b x 0 + cond {A = ℕ} b y 0
    parted true all x y e = e
    parted false all x y e = refl

    one_slot : (n.slot ≡ s) ⊎ (n.slot ≡ s → ⊥) → counted w (filter (is_of s) (map (move_of line way) (n ∷ ns))) ≡ cond {A = ℕ} (w way)
        (once s n.slot) 0 + counted w (filter (is_of s) (map (move_of line way) ns))
    one_slot (inl e) =
        ap (counted w) (filter_hit (map (move_of line way) ns) (same_slot_yes n.slot s e))
        ∙ sum_by-cons (λ (m : Move). cond {A = ℕ} (w m.way) 1 0) (move_of line way n) (filter (is_of s) (map (move_of line way) ns))
        ∙ ap (λ z. cond {A = ℕ} (w way) z 0 + counted w (filter (is_of s) (map (move_of line way) ns)))
        (sym (rw (same_slot_yes s n.slot (sym e)) refl))
      where
        filter_hit : (ms : List Move) → same_slot n.slot s ≡ true →
            filter (is_of s) (move_of line way n ∷ ms) ≡ move_of line way n ∷ filter (is_of s) ms
        filter_hit ms hit = rw hit refl
    one_slot (inr ne) =
        let none : once s n.slot ≡ 0 = rw (same_slot_no s n.slot (λ e. ne (sym e))) refl in
        let zero_first : cond {A = ℕ} (w way) (once s n.slot) 0 ≡ 0 = ap (λ z. cond {A = ℕ} (w way) z 0) none ∙ flat (w way) in
        let same : counted w (filter (is_of s) (map (move_of line way) (n ∷ ns))) ≡ counted w
        (filter (is_of s) (map (move_of line way) ns)) = rw (same_slot_no n.slot s ne) refl in
        omega arith
      where
        flat : (b : Bool) → cond {A = ℕ} b 0 0 ≡ 0
        flat true = refl
        flat false = refl

pub acts_out : (line : ℕ) (s : SlotName) (act : RootAct) → counted is_out (filter (is_of s) (moves_by line act)) ≡ times s (leaves_by act)
acts_out line s (Fill class asked slots) = slots_counted is_out line Out s slots
acts_out line s (Map asked slot len) = slots_counted is_out line Out s (record { slot = slot; number = 0 } ∷ [])
acts_out line s (Full class asked) = refl
acts_out line s (Give slots) = slots_counted is_out line Back s slots
acts_out line s (Unmap asked slot) = slots_counted is_out line Back s (slot ∷ [])
acts_out line s Purge = refl

pub acts_back : (line : ℕ) (s : SlotName) (act : RootAct) → counted is_back (filter (is_of s) (moves_by line act)) ≡ times s (comes_by act)
acts_back line s (Fill class asked slots) = slots_counted is_back line Out s slots
acts_back line s (Map asked slot len) = slots_counted is_back line Out s (record { slot = slot; number = 0 } ∷ [])
acts_back line s (Full class asked) = refl
acts_back line s (Give slots) = slots_counted is_back line Back s slots
acts_back line s (Unmap asked slot) = slots_counted is_back line Back s (slot ∷ [])
acts_back line s Purge = refl

parts_counted : (w : Way → Bool) (s : SlotName) (e : RootEntry) (es : List RootEntry)
    → counted w (moves_of (e ∷ es) s) ≡ counted w (filter (is_of s) (moves_by e.line e.act)) + counted w (moves_of es s)
parts_counted w s e es =
    ap (counted w) (filter-append (is_of s) (moves_by e.line e.act) (all_moves es))
    ∙ sum_by-append (λ (m : Move). cond {A = ℕ} (w m.way) 1 0) (filter (is_of s) (moves_by e.line e.act)) (moves_of es s)

pub journal_out : (s : SlotName) (es : List RootEntry) → counted is_out (moves_of es s) ≡ times_left s es
journal_out s [] = refl
journal_out s (e ∷ es) =
    let a = parts_counted is_out s e es in
    let b = acts_out e.line s e.act in
    let ih = journal_out s es in
    omega arith

pub journal_back : (s : SlotName) (es : List RootEntry) → counted is_back (moves_of es s) ≡ times_back s es
journal_back s [] = refl
journal_back s (e ∷ es) =
    let a = parts_counted is_back s e es in
    let b = acts_back e.line s e.act in
    let ih = journal_back s es in
    omega arith

pub none_had : (at : Option ℕ) → had at ≡ 0 → at ≡ None
none_had None e = refl
none_had (Some n) e = absurd (omega arith)

pub out_none : OutNone
out_none pools journal s j numbered out =
    let w = walk (Some 0) (moves_of journal s) numbered in
    let a = journal_out s journal in
    let b = journal_back s journal in
    elim (out_is_left pools journal s j) [
      | inl (still, more) ↦ none_had (at_end (Some 0) (moves_of journal s)) (omega arith)
      | inr (in', same) ↦ absurd (in' out)
    ]

-- ---- what is cached

pub cached_out : CachedOut
cached_out supers partitions threads p t class w ps pools roots all m r h lines few slots caches below thread real among word =
    let known = all_known partitions roots ps no_caches all (λ u q c n none. absurd (not_in_none n none)) caches t in
    let left = class_leaves roots m.slot p class (known p class m among) in
    let some = some_cached all p threads t class m thread real among in
    elim (slot_once supers partitions threads p ps pools roots ps (roots p) all m.slot w
    (record {
      are_roots = r;
      are_pool = h;
      lines = lines;
      threads_below = few;
      steps = slots;
      below = below;
      parts = record {
        rest = [];
        parts = sym (append-nil (roots p));
        each = λ e member. each e member;
        none = λ e x member. absurd (not_in_none e member);
      };
      caches = caches;
    })
    left word) [
      | inl (out, one) ↦ record { out = out; free = omega arith; once = omega arith }
      | inr (in', none) ↦ absurd (omega arith)
    ]
  where
    each : (e : RootEntry) → Contains (roots p) e → (x : Played) × Contains ps x × (e.line ≡ x.line)
    each e (j, low, is) = let (x, of, makes) = r.lines p j e (slice_get-get_or (roots p) j e low ∙ ap Some is) in (x, of.0, sym of.1)
