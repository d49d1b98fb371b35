-- A direct map goes back at the number that the returning step left: that follows from its holders.
use Rattle.std.proofs.Common.{◌≡◌, ℕ, ◌+◌, true, List, [], ◌∷◌, flat_map, Some, refl, sym, ◌∙◌, ap, subst, arith, inl, inr}
use Rattle.std.specs.Prelude.{Contains, slice_get}
use Rattle.std.proofs.lemmas.Bool.{cases_order, eq-eqb}
use Rattle.pa_slot.specs.declared.word.SlotName.{SlotName}
use Rattle.pa_slot.specs.declared.word.Step.{Step}
use Rattle.pa_slot.specs.Count.{number_of}
use Rattle.pa_slot.specs.Run.{Mark, IsReturning}
use Rattle.pa_slot.proofs.Runs.{same_slot_yes}
use Rattle.pa_record.specs.declared.entry.Seen.{Seen}
use Rattle.pa_record.specs.declared.entry.Answer.{Answer}
use Rattle.pa_record.specs.declared.entry.Answer.TheVariants.{Made, Done, Value, Dangling, SecondFree, NotOwner, StaleUse, Shared}
use Rattle.pa_record.specs.declared.numbered.Numbered.{Numbered}
use Rattle.pa_record.specs.declared.root.RootEntry.{RootEntry}
use Rattle.pa_lists.proofs.Members.{not_in_none, first_in, of_some, not_some}
use Rattle.pa_lists.proofs.Joined.{filter_in, flat_in}
use Rattle.pa_rules.specs.declared.played.Played.{Played}
use Rattle.pa_rules.specs.Played.{step_of, mark_at, mark_of, mark_of_answer}
use Rattle.pa_rules.specs.Caches.{Cache, IsOfClass, IsDirect, ReturnRow, DoneRow, CacheRow, acts_of, unmap_at}
use Rattle.pa_rules.specs.Holders.{Holder, Move, Back, moves_by, is_move_of, moves_at, IsReturnedBy, IsFirstHolder, HasHolders, NamesSlot}
use Rattle.pa_one_run.specs.Parts.{Parts}
use Rattle.pa_one_run.proofs.Filed.{IsFiled}
use Rattle.pa_one_run.proofs.roots.Classes.{one_direct, class_or_direct}
use Rattle.pa_one_run.proofs.roots.Replays.{act_entry}
use Rattle.pa_one_run.proofs.lines.Cuts.{record_row, same_played}
use Rattle.pa_lists.proofs.Elements.{parts_at}
use Rattle.pa_lists.proofs.Indexed.{in_at, at_in}
use Rattle.pa_rules.proofs.Marking.{not_look}

-- ---- a step that returned a slot

-- the record answered `done`, with this mark and this step
record IsDone (y : Played) (a : Answer) (m : Mark) (step : Step) : Type 0 where
  seen : Seen
  answer : a ≡ Done seen
  steps : step_of y.op ≡ Some step
  mark : mark_at y.line seen (Some step) ≡ m

done_by : (y : Played) (a : Answer) (m : Mark) (step : Step) → mark_of_answer y.line y.op a ≡ Some m → m.step ≡ Some step →
    IsReturning step m.found → IsDone y a m step
done_by y (Done seen) m step is steps returning =
    let same : mark_at y.line seen (step_of y.op) ≡ m = of_some _ m is in
    let stepped : step_of y.op ≡ Some step = ap (λ (z : Mark). z.step) same ∙ steps in
    record { seen = seen; answer = refl; steps = stepped; mark = ap (mark_at y.line seen) (sym stepped) ∙ same }
done_by y (Made seen usable) m step is steps returning =
    let stepped : Some _ ≡ Some step = ap (λ (z : Mark). z.step) (of_some _ m is) ∙ steps in
    absurd (subst (λ p. IsReturning p m.found) (sym (of_some _ step stepped)) returning)
done_by y (Value seen value) m step is steps returning = absurd (not_look y.line (Some seen) m step is steps)
done_by y (Dangling seen value) m step is steps returning = absurd (not_look y.line (Some seen) m step is steps)
done_by y (SecondFree seen) m step is steps returning = absurd (not_look y.line seen m step is steps)
done_by y (NotOwner seen) m step is steps returning = absurd (not_look y.line (Some seen) m step is steps)
done_by y (StaleUse seen) m step is steps returning = absurd (not_look y.line seen m step is steps)
done_by y (Shared seen) m step is steps returning = absurd (not_look y.line (Some seen) m step is steps)
done_by y a m step is steps returning = absurd (not_some m is)

-- ---- the entry of its line

-- partition p's journal has an Unmap of the slot at its index
record HasUnmap (a : Parts) (p line : ℕ) (s : SlotName) (number : ℕ) : Type 0 where
  asked : ℕ
  index : ℕ
  entry : RootEntry
  at : slice_get (a.roots p) index ≡ Some entry
  line_is : entry.line ≡ line
  act : entry.act ≡ unmap_at asked s number

unmap_on : (a : Parts) (p line asked number : ℕ) (s : SlotName) → acts_of a.roots line p ≡ unmap_at asked s number ∷ [] →
    HasUnmap a p line s number
unmap_on a p line asked number s only =
    let (e, member, same, act) =
    act_entry a.roots line p (unmap_at asked s number)
    (subst (λ acts. Contains acts (unmap_at asked s number)) (sym only) (first_in (unmap_at asked s number) [])) in
    let (j, at) = in_at (a.roots p) e member in
    record { asked = asked; index = j; entry = e; at = at; line_is = same; act = act }

-- an entry that names it
names_it : (e : RootEntry) (asked number : ℕ) (s : SlotName) → e.act ≡ unmap_at asked s number → NamesSlot e s
names_it e asked number s act =
    let move : Move = record { line = e.line; slot = s; number = number; way = Back } in
    (move, subst (λ z. Contains (moves_by e.line z) move) (sym act) (first_in move []), refl)

module _ (a : Parts) (p : ℕ) (s : SlotName) (h : IsFiled a) (direct : IsDirect a.roots s p) where
  place_unmaps : (y : Played) (slot : Numbered) (cache next : Cache) → slot.slot ≡ s → ReturnRow a.roots y slot cache next → (number : ℕ) ×
      HasUnmap a p y.line s number
  place_unmaps y slot cache next here (inl (q, class, of, only, becomes)) =
      absurd (class_or_direct a s q p class h (subst (λ z. IsOfClass a.roots z q class) here of) direct)
  place_unmaps y slot cache next here (inr (q, asked, number, direct', only, becomes)) =
      let same : q ≡ p = one_direct a s q p h (subst (λ z. IsDirect a.roots z q) here direct') direct in
      let there : acts_of a.roots y.line p ≡ unmap_at asked s number ∷ [] =
      subst (λ r. acts_of a.roots y.line r ≡ unmap_at asked s number ∷ []) same (only.0 ∙ ap (λ z. unmap_at asked z number ∷ []) here) in
      (number, unmap_on a p y.line asked number s there)

  step_unmaps : (y : Played) (step : Step) (seen : Seen) (cache next : Cache) → seen.slot ≡ s → IsReturning step seen.found.0 →
      DoneRow a.roots y (Some step) seen cache next →
      (number : ℕ) × HasUnmap a p y.line s number
  step_unmaps y step seen cache next here returning (inl (is, row)) =
      place_unmaps y (record { slot = seen.slot; number = number_of seen.found.0 + 1 }) cache next here row
  step_unmaps y step seen cache next here returning (inr (other, acts, becomes)) = absurd (other returning)

  -- a record that returned the slot has its Unmap
  returned_unmaps : (y : Played) (k : ℕ) → IsReturnedBy a.ps s k y → (number : ℕ) × HasUnmap a p y.line s number
  returned_unmaps y k (among, m, step, is, slot, steps, returning, number) =
      let d = done_by y y.answer m step is steps returning in
      let (before, rest, parts) = parts_at a.ps y among in
      let (all, next, to, row) = record_row a before rest y h parts in
      let done : DoneRow a.roots y (step_of y.op) d.seen (all y.thread) next =
      subst (λ v. CacheRow a.partitions a.roots y v (all y.thread) next) d.answer row in
      let made : DoneRow a.roots y (Some step) d.seen (all y.thread) next =
      subst (λ o. DoneRow a.roots y o d.seen (all y.thread) next) d.steps done in
      let found : m.found ≡ d.seen.found.0 = ap (λ (z : Mark). z.found) (sym d.mark) in
      step_unmaps y step d.seen (all y.thread) next (ap (λ (z : Mark). z.slot) d.mark ∙ slot)
      (subst (IsReturning step) found returning) made

  -- there is one
  one_unmap : (line line' number number' : ℕ) → HasUnmap a p line s number → HasUnmap a p line' s number' → line ≡ line'
  one_unmap line line' number number' u v = elim (cases_order u.index v.index) [
    | inl same ↦
        let there : slice_get (a.roots p) u.index ≡ Some v.entry = subst (λ i. slice_get (a.roots p) i ≡ Some v.entry) (sym same) v.at in
        sym u.line_is ∙ ap (λ (e : RootEntry). e.line) (of_some u.entry v.entry (sym u.at ∙ there)) ∙ v.line_is
    | inr (inl less) ↦
        absurd (h.holders.gone_from_journal p u.index v.index u.asked
        (record { slot = s; number = number }) u.entry v.entry u.at u.act v.at less (names_it v.entry v.asked number' s v.act))
    | inr (inr more) ↦
        absurd (h.holders.gone_from_journal p v.index u.index v.asked
        (record { slot = s; number = number' }) v.entry u.entry v.at v.act u.at more (names_it u.entry u.asked number s u.act))
  ]

-- the first holder of what is named
holder_of : (ps : List Played) (s : SlotName) (k : ℕ) (ms : List Move) (m : Move) → HasHolders ps s k ms → Contains ms m → (h : Holder) ×
    IsFirstHolder ps s k h
holder_of ps s k [] m has among = absurd (not_in_none m among)
holder_of ps s k (n ∷ ms) m (h, first, fit) among = (h, first)

-- the slot is free at the number at which it goes back
unmap_free : (a : Parts) (p line number : ℕ) (s : SlotName) → IsFiled a → HasUnmap a p line s number → (h : Holder) ×
    IsFirstHolder a.ps s number h
unmap_free a p line number s h u =
    let move : Move = record { line = u.entry.line; slot = s; number = number; way = Back } in
    let among : Contains (moves_by u.entry.line u.entry.act) move =
    subst (λ z. Contains (moves_by u.entry.line z) move) (sym u.act) (first_in move []) in
    let all = flat_in (λ (e : RootEntry). moves_by e.line e.act) (a.roots p) u.entry move (at_in (a.roots p) u.index u.entry u.at) among in
    let test : is_move_of s number move ≡ true = rw (same_slot_yes s s refl, eq-eqb number number refl) refl in
    holder_of a.ps s number (moves_at (a.roots p) s number) move (h.holders.moves p s number)
    (filter_in (is_move_of s number) (flat_map (λ (e : RootEntry). moves_by e.line e.act) (a.roots p)) move all test)

-- if a record's line only unmaps the record's direct slot, the Unmap names the number after the one that the record found
pub unmap_number : (a : Parts) (x : Played) (m : Mark) (p asked number : ℕ) → IsFiled a → Contains a.ps x → mark_of x ≡ Some m →
    IsDirect a.roots m.slot p →
    acts_of a.roots x.line p ≡ unmap_at asked m.slot number ∷ [] → number ≡ number_of m.found + 1
unmap_number a x m p asked number h among is direct only =
    let u = unmap_on a p x.line asked number m.slot only in
    let low = h.holders.gone_from_records p u.index u.asked (number_of m.found)
    (record { slot = m.slot; number = number }) u.entry x u.at u.act among (m, is, refl, refl) in
    elim (unmap_free a p x.line number m.slot h u).1 [
      | inl (none, root) ↦ absurd (omega arith)
      | inr (y, returned, with_thread) ↦
          let (other, v) = returned_unmaps a p m.slot h direct y number returned in
          let line : x.line ≡ y.line = one_unmap a p m.slot h direct x.line y.line number other u v in
          let same : x ≡ y = same_played a x y h among returned.0 line in
          let (among', n, step, is', slot, steps, returning, left) = returned in
          let marks : m ≡ n = of_some m n (sym is ∙ ap mark_of same ∙ is') in
          sym left ∙ ap (λ (z : Mark). number_of z.found + 1) (sym marks)
    ]
