-- By a root's numbers a slot goes out and back in turn at each number.
use Rattle.std.proofs.Common.{◌≡◌, ℕ, Bool, true, not, List, [], ◌∷◌, map, filter, Option, Some, None, refl, sym, ◌∙◌, ap, subst, inl, inr}
use Rattle.std.specs.Prelude.{Contains, ◌==◌}
use Rattle.std.proofs.lemmas.Bool.{cases_Bool, cases_eq, eq-eqb, ne_eqb, and_parts}
use Rattle.pa_slot.specs.declared.word.SlotName.{SlotName}
use Rattle.pa_slot.specs.Run.{same_slot}
use Rattle.pa_slot.proofs.Runs.{same_slot_eq}
use Rattle.pa_record.specs.declared.numbered.Numbered.{Numbered}
use Rattle.pa_record.specs.declared.root.RootEntry.{RootEntry}
use Rattle.pa_record.specs.declared.root.RootAct.{RootAct}
use Rattle.pa_record.specs.declared.root.RootAct.TheVariants.{Fill, Map, Full, Give, Unmap, Purge}
use Rattle.pa_record.specs.Root.{names}
use Rattle.pa_record.specs.Laws.{leaves_by}
use Rattle.pa_lists.proofs.Members.{not_in_none, first_in, in_cases, not_some}
use Rattle.pa_lists.proofs.Joined.{map_cases, map_in, filter_cases, filter_in, flat_cases}
use Rattle.pa_rules.specs.Roots.{Journals}
use Rattle.pa_rules.specs.Holders.{Way, Out, Back, Move, move_of, moves_by, is_move_of, moves_at}
use Rattle.pa_rules.proofs.FourPlaces.{HasLeft}
use Rattle.pa_legal.specs.Turns.{Turn, is_out, Alternate}
use Rattle.pa_legal.specs.Numbers.{all_moves, is_of, moves_of, HasAt, at_after, IsNumbered, AreNumbered}

-- a move, as a turn of its line's thread
abbrev pub turn_of : (ℕ → ℕ) → Move → Turn
turn_of thread m = record { way = m.way; thread = thread m.line }

-- whether the slot isn't in the root at the number
abbrev pub away_at : Option ℕ → ℕ → Bool
away_at None k = true
away_at (Some n) k = not (n == k)

hit_before : (at : Option ℕ) (w : Way) (n k : ℕ) → n ≡ k → HasAt at w n → away_at at k ≡ not (is_out w)
hit_before at Out n k e has = ap (λ o. away_at o k) has ∙ ap not (eq-eqb n k e)
hit_before at Back n k e has = ap (λ o. away_at o k) has

pub hit_after : (w : Way) (n k : ℕ) → n ≡ k → away_at (at_after w n) k ≡ is_out w
hit_after Out n k e = refl
hit_after Back n k e = ap not (eq-eqb n k e)

pub miss_same : (at : Option ℕ) (w : Way) (n k : ℕ) → (n ≡ k → ⊥) → HasAt at w n → away_at at k ≡ away_at (at_after w n) k
miss_same at Out n k ne has = ap (λ o. away_at o k) has ∙ ap not (ne_eqb n k ne)
miss_same at Back n k ne has = ap (λ o. away_at o k) has ∙ sym (ap not (ne_eqb n k ne))

pub alternate : (thread : ℕ → ℕ) (s : SlotName) (k : ℕ) (ms : List Move) (at : Option ℕ) → IsNumbered at (filter (is_of s) ms)
    → Alternate (away_at at k) (map (turn_of thread) (filter (is_move_of s k) ms))
alternate thread s k [] at h = tt
alternate thread s k (m ∷ ms) at h = elim (cases_Bool (same_slot m.slot s)) [
  | inr miss ↦ rw miss (alternate thread s k ms at (rw miss at h))
  | inl hit ↦
      let (has, rest) : HasAt at m.way m.number × IsNumbered (at_after m.way m.number) (filter (is_of s) ms) = rw hit at h in
      let ih = alternate thread s k ms (at_after m.way m.number) rest in
      elim (cases_eq m.number k) [
        | inl e ↦
            rw (hit, eq-eqb m.number k e) (
              hit_before at m.way m.number k e has,
              subst (λ b. Alternate b (map (turn_of thread) (filter (is_move_of s k) ms))) (hit_after m.way m.number k e) ih,
            )
        | inr ne ↦
            rw (hit, ne_eqb m.number k ne)
            (subst (λ b. Alternate b (map (turn_of thread) (filter (is_move_of s k) ms))) (sym (miss_same at m.way m.number k ne has)) ih)
      ]
]

-- ---- a slot that moves left its root

first_out : (s : SlotName) (ms : List Move) (m : Move) → IsNumbered (Some 0) ms → Contains ms m → (f : Move) × Contains ms f × (f.way ≡ Out)
first_out s [] m h among = absurd (not_in_none m among)
first_out s (f ∷ ms) m h among = (f, first_in f ms, is_first f.way f.number refl h.0)
  where
    is_first : (w : Way) (n : ℕ) → f.way ≡ w → HasAt (Some 0) w n → f.way ≡ Out
    is_first Out n is has = is
    is_first Back n is has = absurd (not_some 0 (sym has))

out_leaves : (line : ℕ) (act : RootAct) (m : Move) → Contains (moves_by line act) m → m.way ≡ Out → Contains (leaves_by act) m.slot
out_leaves line (Fill class asked slots) m among out =
    let (n, member, is) = map_cases (move_of line Out) slots m among in
    subst (λ z. Contains (names slots) z) (ap (λ (z : Move). z.slot) is) (map_in (λ (k : Numbered). k.slot) slots n member)
out_leaves line (Map asked slot len) m among out = elim (in_cases (move_of line Out (record { slot = slot; number = 0 })) m [] among) [
  | inl e ↦ subst (λ z. Contains (slot ∷ []) z) (ap (λ (z : Move). z.slot) e) (first_in slot [])
  | inr none ↦ absurd (not_in_none m none)
]
out_leaves line (Full class asked) m among out = absurd (not_in_none m among)
out_leaves line (Give slots) m among out =
    let (n, member, is) = map_cases (move_of line Back) slots m among in
    let other : ◌≡◌ {A = Way} Back Out = ap (λ (z : Move). z.way) is ∙ out in absurd cc
out_leaves line (Unmap asked slot) m among out = elim (in_cases (move_of line Back slot) m [] among) [
  | inl e ↦ let other : ◌≡◌ {A = Way} Back Out = ap (λ (z : Move). z.way) e ∙ out in absurd cc
  | inr none ↦ absurd (not_in_none m none)
]
out_leaves line Purge m among out = absurd (not_in_none m among)

pub moved_left : (roots : Journals) (p : ℕ) (s : SlotName) (k : ℕ) (m : Move) → AreNumbered roots → Contains (moves_at (roots p) s k) m →
    HasLeft roots p s
moved_left roots p s k m numbers among =
    let (there, hit) = filter_cases (is_move_of s k) (all_moves (roots p)) m among in
    let (slot, number) = and_parts _ _ hit in
    let (f, member, out) = first_out s (moves_of (roots p) s) m (numbers p s) (filter_in (is_of s) (all_moves (roots p)) m there slot) in
    let (there', same) = filter_cases (is_of s) (all_moves (roots p)) f member in
    let (e, stands, by) = flat_cases (λ (e : RootEntry). moves_by e.line e.act) (roots p) f there' in
    (e, stands, subst (λ z. Contains (leaves_by e.act) z) (same_slot_eq f.slot s same) (out_leaves e.line e.act f by out))
