-- The run in which an allocation got a slot of another partition fails where it asks for the slot.
use Rattle.std.proofs.Common.{◌≡◌, ℕ, zero, suc, ◌<◌, List, [], ◌∷◌, Option, Some, refl, sym, ◌∙◌, ap, subst, arith, inl, inr, lit<}
use Rattle.std.specs.Prelude.{slice_get}
use Rattle.std.specs.List.{AllByRecursion}
use Rattle.pa_slot.specs.Count.{number_of}
use Rattle.pa_slot.specs.Run.{Slots}
use Rattle.pa_slot.specs.declared.word.SlotName.{SlotName}
use Rattle.pa_direct.specs.Shapes.{IsDirectSize}
use Rattle.pa_trace.specs.declared.script.Op.TheVariants as ops
use Rattle.pa_trace.specs.Rules.{rules_of, first_rules}
use Rattle.pa_record.specs.declared.entry.Seen.{Seen}
use Rattle.pa_record.specs.declared.entry.Answer.TheVariants as answers
use Rattle.pa_record.specs.declared.numbered.Numbered.{Numbered}
use Rattle.pa_record.specs.declared.root.RootEntry.{RootEntry}
use Rattle.pa_record.specs.declared.root.RootAct.TheVariants.{Fill, Unmap}
use Rattle.pa_record.specs.declared.run.Run.{Run}
use Rattle.pa_record.specs.Worked.{slots, fill}
use Rattle.pa_lists.proofs.Members.{of_some, not_some}
use Rattle.pa_rules.specs.declared.played.Played.{Played}
use Rattle.pa_rules.specs.declared.verdict.Clause.TheVariants as clauses
use Rattle.pa_rules.specs.declared.verdict.Place.{Place}
use Rattle.pa_rules.specs.declared.verdict.Place.TheVariants as places
use Rattle.pa_rules.specs.Told.{records_of}
use Rattle.pa_rules.specs.Places.{line_at}
use Rattle.pa_rules.specs.Roots.{Journals, IsEntry}
use Rattle.pa_rules.specs.Played.{AreDue, marks_of}
use Rattle.pa_rules.specs.Holders.{InRoot, Move, moves_at, HasHolders, AreHolders}
use Rattle.pa_rules.specs.Caches.{Cache, Caches, CacheRow, CachesTo, FilledFirst, FrontIs, acts_of, no_caches, with_list}
use Rattle.pa_rules.specs.Verdicts.{Demand}
use Rattle.pa_rules.proofs.Recorded.{records_are_lines}
use Rattle.pa_examples.proofs.worked.Lists.{each}
use Rattle.pa_examples.proofs.worked.Holders.{HasIt, IsIssued, issued, all_have_holders}
use Rattle.pa_examples.proofs.worked.Moves.{all_hold-true, moves_of}
use Rattle.pa_examples.proofs.worked.Slots.{Worded, worded_slots}
use Rattle.pa_examples.specs.WrongRuns.{first_slots, second_slots, astray_trace, astray_told, AstrayFails}
use Rattle.pa_verdict.proofs.Holding.{holders_are_places}
use Rattle.pa_lists.proofs.Indexed.{shown}
use Rattle.pa_examples.specs.Worked.{seen_at}
use Rattle.pa_rules.proofs.Worked.{class_0}
use Rattle.pa_lists.proofs.Tests.{greater_apart}

abbrev ps : List Played
ps = records_of astray_trace astray_told

abbrev roots : Journals
roots = astray_told.roots

abbrev first_record : Played
first_record = record {
  line = 2;
  thread = 0;
  phase = 1;
  rules = first_rules 2;
  op = ops.Alloc 0 0 8;
  answer = answers.Made (seen_at 16384 0 0) 8;
}

abbrev second_record : Played
second_record = record {
  line = 3;
  thread = 0;
  phase = 1;
  rules = first_rules 2;
  op = ops.Alloc 1 1 8;
  answer = answers.Made (seen_at 16400 0 0) 8;
}

-- ---- caches

-- what partition 1's fill gave doesn't begin with that slot
abbrev filled_front : Numbered
filled_front = record { slot = record { start = 2113536; born = 1 }; number = 0 }

abbrev asked_front : Numbered
asked_front = record { slot = (seen_at 16400 0 0).slot; number = number_of (seen_at 16400 0 0).found.0 }

not_front : (xs rest : List Numbered) → slots 1 0 second_slots ≡ xs → FrontIs (seen_at 16400 0 0) xs rest → ⊥
not_front xs rest same front =
    let fronts : Some filled_front ≡ Some asked_front = ap (λ (zs : List Numbered). slice_get zs 0) (same ∙ front) in
    greater_apart 2113536 16400 (lit< tt) (ap (λ (z : Numbered). z.slot.start) (of_some filled_front asked_front fronts))

not_filled : (class : ℕ) (list xs rest : List Numbered) → FilledFirst roots 3 1 class list xs → FrontIs (seen_at 16400 0 0) xs rest → ⊥
not_filled class [] xs rest (asked, (acts, others)) front =
    let one : Fill 0 (Some 1) (slots 1 0 second_slots) ∷ [] ≡ Fill class asked xs ∷ [] = acts in
    let same : slots 1 0 second_slots ≡ xs = cc in
    not_front xs rest same front
not_filled class (y ∷ ys) xs rest (same, none) front =
    let no : Fill 0 (Some 1) (slots 1 0 second_slots) ∷ [] ≡ [] = none 1 in
    absurd cc

not_direct : (size : ℕ) → 8 ≡ size → IsDirectSize size → ⊥
not_direct size same (large, within) = omega arith

second_unmet : Demand clauses.Caches astray_trace astray_told (places.Record 1) → ⊥
second_unmet h =
    let (all, next, to, row) = h second_record refl in
    elim row [
      | inl (p, class, xs, rest, (reg, size, op, of), filled, front, after) ↦
          let asks : ops.Alloc 1 1 8 ≡ ops.Alloc reg p size = op in
          let one : p ≡ 1 = cc in
          not_filled class (all 0 1 class) xs rest (subst (λ q. FilledFirst roots 3 q class (all 0 q class) xs) one filled) front
      | inr (p, size, asked, len, (reg, op, direct), acts, after) ↦
          let asks : ops.Alloc 1 1 8 ≡ ops.Alloc reg p size = op in
          let same : 8 ≡ size = cc in
          not_direct size same direct
    ]

no_other : (q : ℕ) → (q ≡ 0 → ⊥) → acts_of roots 2 q ≡ []
no_other zero ne = absurd (ne refl)
no_other (suc zero) ne = refl
no_other (suc (suc q)) ne = refl

abbrev behind : List Numbered
behind = slots 0 0 (16400 ∷ 16416 ∷ 16432 ∷ 16448 ∷ 16464 ∷ 16480 ∷ 16496 ∷ [])

first_row : CacheRow 2 roots first_record first_record.answer (no_caches 0) (with_list (no_caches 0) 0 0 behind)
first_row = inl (0, 0, slots 0 0 first_slots, behind, (0, 8, refl, class_0), (Some 0, (refl, no_other)), refl, λ p c. refl)

caches_met : (r : Run) (other : Place) → line_at r other < 3 → Demand clauses.Caches astray_trace astray_told other
caches_met r (places.Record zero) less = λ x at.
    shown (λ (z : Played). (all : Caches) × (next : Cache) × CachesTo 2 roots no_caches [] all ×
    CacheRow 2 roots z z.answer (all z.thread) next)
    first_record x (no_caches, with_list (no_caches 0) 0 0 behind, refl, first_row) at
caches_met r (places.Record (suc i)) less = absurd (omega arith)
caches_met r (places.Root p j) less = tt
caches_met r (places.Pool j) less = tt
caches_met r (places.Cell k j) less = tt
caches_met r (places.Report i) less = tt

-- ---- holders

due : AreDue (rules_of astray_trace) astray_trace.lines astray_told.entries
due = records_are_lines.due (rules_of astray_trace) astray_trace.lines ps refl

-- the words of the two slots
abbrev words : List Worded
words =
    record { slot = (seen_at 16384 0 0).slot; words = 0x1000001 ∷ [] }
    ∷ record { slot = (seen_at 16400 0 0).slot; words = 0x1000001 ∷ [] }
    ∷ []

one_run_each : Slots (marks_of ps)
one_run_each = worded_slots (marks_of ps) words refl

abbrev first_moves : List Move
first_moves = moves_of (roots 0)

abbrev second_moves : List Move
second_moves = moves_of (roots 1)

each_move : (p : ℕ) (s : SlotName) (k : ℕ) → HasHolders ps s k (moves_at (roots p) s k)
each_move zero s k = all_have_holders ps first_moves (all_hold-true ps first_moves first_moves refl) s k
each_move (suc zero) s k = all_have_holders ps second_moves (all_hold-true ps second_moves second_moves refl) s k
each_move (suc (suc p)) s k = tt

-- only the first journal names the two
abbrev IsAlone : Seen → Type 0
IsAlone seen = (q : ℕ) → (q ≡ 0 → ⊥) → moves_at (roots q) seen.slot 0 ≡ []

first_alone : IsAlone (seen_at 16384 0 0)
first_alone zero ne = absurd (ne refl)
first_alone (suc zero) ne = refl
first_alone (suc (suc q)) ne = refl

second_alone : IsAlone (seen_at 16400 0 0)
second_alone zero ne = absurd (ne refl)
second_alone (suc zero) ne = refl
second_alone (suc (suc q)) ne = refl

first_held : HasIt ps roots 0 (seen_at 16384 0 0)
first_held = (0, InRoot, first_alone, inl (refl, refl), (first_record, ((0, lit< tt, refl), refl), refl))

second_held : HasIt ps roots 0 (seen_at 16400 0 0)
second_held = (0, InRoot, second_alone, inl (refl, refl), (first_record, ((0, lit< tt, refl), refl), refl))

all_issued : AllByRecursion (IsIssued ps roots) ps
all_issued = (issued ps roots 0 (seen_at 16384 0 0) 8 first_held, (issued ps roots 0 (seen_at 16400 0 0) 8 second_held, tt))

filled_act : (p i : ℕ) (e : RootEntry) → IsEntry roots p i e → (class : ℕ) × (asked : Option ℕ) × (xs : List Numbered) ×
    (e.act ≡ Fill class asked xs)
filled_act zero zero e at =
    (0, Some 0, slots 0 0 first_slots, ap (λ (z : RootEntry). z.act) (sym (of_some (fill 2 0 (Some 0) (slots 0 0 first_slots)) e at)))
filled_act (suc zero) zero e at =
    (0, Some 1, slots 1 0 second_slots, ap (λ (z : RootEntry). z.act) (sym (of_some (fill 3 0 (Some 1) (slots 1 0 second_slots)) e at)))
filled_act zero (suc i) e at = absurd (not_some e at)
filled_act (suc zero) (suc i) e at = absurd (not_some e at)
filled_act (suc (suc p)) i e at = absurd (not_some e at)

not_unmap : (class asked : ℕ) (from : Option ℕ) (xs : List Numbered) (slot : Numbered) → Fill class from xs ≡ Unmap asked slot → ⊥
not_unmap class asked from xs slot e = absurd cc

none_goes : (p i asked : ℕ) (slot : Numbered) (e : RootEntry) → IsEntry roots p i e → e.act ≡ Unmap asked slot → ⊥
none_goes p i asked slot e at act = let (class, from, xs, is) = filled_act p i e at in not_unmap class asked from xs slot (sym is ∙ act)

held : AreHolders ps roots
held = record {
  moves = each_move;
  issues = λ x seen usable among made. each (IsIssued ps roots) ps all_issued x among seen usable made;
  gone_from_journal = λ p i j asked slot e f at act at' less named. none_goes p i asked slot e at act;
  gone_from_records = λ p i asked n slot e x at act among of. absurd (none_goes p i asked slot e at act);
}

pub astray_fails : AstrayFails
astray_fails r tells = (
  λ place. subst (λ u. Demand clauses.Holders astray_trace u place) (sym tells)
      ((holders_are_places astray_trace astray_told due one_run_each).0 held place),
  record {
    place = places.Record 1;
    line = refl;
    unmet = λ h. second_unmet (subst (λ u. Demand clauses.Caches astray_trace u (places.Record 1)) tells h);
    before = λ other less. subst (λ u. Demand clauses.Caches astray_trace u other) (sym tells) (caches_met r other less);
  },
)
