-- After a direct map went back no entry of its journal names it, and no record found its number or a later one.
use Rattle.std.proofs.Common.{◌≡◌, ℕ, zero, suc, ◌+◌, ◌<◌, List, [], ◌∷◌, ◌++◌, Option, Some, None, refl, sym, ◌∙◌, ap, subst, arith, inl, inr}
use Rattle.std.specs.Prelude.{Contains, slice_get, AllPairs}
use Rattle.std.proofs.lemmas.Bool.{cases_lt, cases_eq}
use Rattle.std.proofs.lemmas.Option.{slice_get_within, get_or_from_slice_get}
use Rattle.pa_slot.specs.declared.word.SlotName.{SlotName}
use Rattle.pa_slot.specs.declared.word.Step.{Step}
use Rattle.pa_slot.specs.declared.word.Step.TheVariants.{Issue}
use Rattle.pa_slot.specs.Count.{number_of, held_of, refs_of, stepped}
use Rattle.pa_slot.specs.Run.{Mark, Slots}
use Rattle.pa_slot.proofs.Runs.{number_stepped}
use Rattle.pa_record.specs.declared.numbered.Numbered.{Numbered}
use Rattle.pa_record.specs.declared.pool.PoolEntry.{PoolEntry}
use Rattle.pa_record.specs.declared.root.RootEntry.{RootEntry}
use Rattle.pa_record.specs.declared.root.RootAct.TheVariants.{Unmap}
use Rattle.pa_record.specs.Root.{IsJournal}
use Rattle.pa_lists.proofs.Members.{not_in_none}
use Rattle.pa_rules.specs.declared.played.Played.{Played}
use Rattle.pa_rules.specs.Played.{mark_of, mark_of_answer, mark_at, marks_of}
use Rattle.pa_rules.specs.Roots.{Journals, IsEntry, AreRoots, IsPoolOf}
use Rattle.pa_rules.specs.Caches.{IsDirect}
use Rattle.pa_rules.specs.Holders.{IsOfSlot, NamesSlot}
use Rattle.pa_rules.proofs.Numbering.{rising_differ}
use Rattle.pa_rules.proofs.Running.{OtherRecord, marks_differ, mark_from, same_word}
use Rattle.pa_rules.proofs.Phases.{mark_in}
use Rattle.pa_legal.specs.Flows.{ReturnsMap, SlotsFlow}
use Rattle.pa_legal.specs.Known.{AreKnown, FindsInUse}
use Rattle.pa_legal.proofs.Naming.{unnamed}
use Rattle.pa_legal.proofs.Words.{goes_on, goes_past, leaves_free, only_issue}
use Rattle.pa_legal.proofs.holders.Maps.{new_map}
use Rattle.pa_legal.proofs.holders.Records.{issue_makes}
use Rattle.pa_lists.proofs.Indexed.{at_in}

-- an entry, and those after it
behind : {A : Type 0} (xs : List A) (i j : ℕ) (e f : A) → slice_get xs i ≡ Some e → slice_get xs j ≡ Some f → i < j →
    (before rest : List A) × (xs ≡ before ++ e ∷ rest) × Contains rest f
behind [] i j e f at at' less = let low = slice_get_within [] i e at in absurd (omega arith)
behind (x ∷ xs) zero zero e f at at' less = absurd (omega arith)
behind (x ∷ xs) zero (suc j) e f at at' less = ([], xs, ap (λ z. z ∷ xs) (get_or_from_slice_get (x ∷ xs) 0 e e at), get_in xs j f at')
  where
    get_in : {A : Type 0} (xs : List A) (j : ℕ) (e : A) → slice_get xs j ≡ Some e → Contains xs e
    get_in xs j e at = (j, slice_get_within xs j e at, get_or_from_slice_get xs j e e at)
behind (x ∷ xs) (suc i) zero e f at at' less = absurd (omega arith)
behind (x ∷ xs) (suc i) (suc j) e f at at' less = let (before, rest, parts, member) = behind xs i j e f at at' (omega arith) in
    (x ∷ before, rest, ap (λ zs. x ∷ zs) parts, member)

-- A direct map that a record returned.
module _ (supers partitions : ℕ) (ps : List Played) (pools : List PoolEntry) (roots : Journals) (j : AreRoots partitions ps pools roots)
    (h : IsPoolOf supers ps pools roots) (unlike : AllPairs OtherRecord ps) (slots : Slots (marks_of ps))
    (flows : SlotsFlow partitions roots ps) where
  -- it is issued at 0 alone
  issued_at_0 : (s : SlotName) (y : Played) (r : ReturnsMap roots y s) → (x : Mark) → Contains (marks_of ps) x → x.slot ≡ s →
      x.step ≡ Some Issue → number_of x.found ≡ 0
  issued_at_0 s y r x among slot issue =
      let (q, member, mark) = mark_from ps x among in
      let made = issue_makes q x issue mark in
      let new = new_map supers partitions ps pools roots j h unlike slots flows q member made.seen made.usable r.partition made.answer
      (subst (λ n. IsDirect roots n r.partition) (sym slot ∙ made.slot) r.direct) in
      ap number_of made.found ∙ new

  module _ (used : (x : Played) → Contains ps x → FindsInUse x) (s : SlotName) (y : Played) (r : ReturnsMap roots y s)
      (member : Contains ps y) where
    pub marked : mark_of y ≡ Some (mark_at y.line r.seen (Some r.step))
    marked = ap (mark_of_answer y.line y.op) r.answer ∙ ap (λ o. Some (mark_at y.line r.seen o)) r.steps

    -- no record of the slot found a number past the one at which it was returned
    pub gone_from : (x : Played) (n : ℕ) → Contains ps x → IsOfSlot x s n → n < number_of r.seen.found.0 + 1
    gone_from x n among (m, mark', slot, number) = elim (cases_lt n (number_of r.seen.found.0 + 1)) [
      | inl less ↦ less
      | inr past ↦
          let ms = marks_of ps in
          let (vs, run, one) = slots s in
          let ym = mark_in ps y _ member marked in
          let xm = mark_in ps x m among mark' in
          let (first, can) = one.used (mark_at y.line r.seen (Some r.step)) r.step ym r.slot refl in
          let free = leaves_free r.step r.seen.found.0 can r.returning in
          let here = goes_on ms s 0 vs r.seen.found.0 (mark_at y.line r.seen (Some r.step)) r.step (marks_differ ps unlike) run
          (one.found _ ym r.slot) first can in
          let up = number_stepped r.step r.seen.found.0 can in
          let there = one.found m xm slot in
          elim (cases_eq n (number_of r.seen.found.0 + 1)) [
            | inl same ↦
                let word : m.found ≡ stepped r.step r.seen.found.0 =
                same_word ms s 0 vs m.found (stepped r.step r.seen.found.0) run there here (omega arith) in
                at_free m.step m x among mark' slot refl (ap held_of word ∙ free.0) (ap refs_of word ∙ free.1) xm (omega arith)
            | inr other ↦
                let (z, q, first', can') = goes_past ms s 0 vs (stepped r.step r.seen.found.0) m.found run here there (omega arith) in
                let issue = only_issue q (stepped r.step r.seen.found.0) can' free.0 free.1 in
                let at_0 = issued_at_0 s y r z first'.among first'.slot (first'.step ∙ ap Some issue) in
                let place : number_of z.found ≡ number_of (stepped r.step r.seen.found.0) = ap number_of first'.found in
                absurd (omega arith)
          ]
    ]
      where
        at_free : (o : Option Step) (m : Mark) (x : Played) → Contains ps x → mark_of x ≡ Some m → m.slot ≡ s → m.step ≡ o →
            held_of m.found ≡ 0 → refs_of m.found ≡ 0 → Contains (marks_of ps) m →
            0 < number_of m.found → n < number_of r.seen.found.0 + 1
        at_free None m x among mark' slot step held refs xm some = let in_use = used x among m mark' step in absurd (omega arith)
        at_free (Some q) m x among mark' slot step held refs xm some =
            let (vs, run, one) = slots s in
            let (first, can) = one.used m q xm slot step in
            let issue = only_issue q m.found can held refs in
            let at_0 = issued_at_0 s y r m xm slot (step ∙ ap Some issue) in
            absurd (omega arith)

  pub below : (p : ℕ) (e : RootEntry) → Contains (roots p) e → p < partitions
  below p e among = elim (cases_lt p partitions) [
    | inl less ↦ less
    | inr past ↦ absurd (not_in_none e (subst (λ es. Contains es e) (j.none_past p past) among))
  ]

module _ (supers partitions : ℕ) (ps : List Played) (pools : List PoolEntry) (roots : Journals)
    (a : AreKnown supers partitions ps pools roots) where
  pub gone_from_journal : (p i j asked : ℕ) (slot : Numbered) (e f : RootEntry) → IsEntry roots p i e → e.act ≡ Unmap asked slot →
      IsEntry roots p j f → i < j → NamesSlot f slot.slot → ⊥
  gone_from_journal p i j asked slot e f at is at' less (m, among, same) =
      let (before, rest, parts, member) = behind (roots p) i j e f at at' less in
      unnamed pools before rest e f asked slot m (subst (λ z. IsJournal pools z) parts (a.journals.journals p)) is member among same

  pub gone_from_records : (p i asked n : ℕ) (slot : Numbered) (e : RootEntry) (x : Played) → IsEntry roots p i e →
      e.act ≡ Unmap asked slot → Contains ps x → IsOfSlot x slot.slot n → n < slot.number
  gone_from_records p i asked n slot e x at is among of =
      let unlike = rising_differ ps a.rising in
      let there = at_in (roots p) i e at in
      let (y, here, makes) = a.journals.lines p i e at in
      let r = a.flows.maps y e p asked slot
      (below supers partitions ps pools roots a.journals a.pool unlike a.slots a.flows p e there) here.0 there (sym here.1) is in
      let number = a.unmaps y here.0 r.seen p asked slot e r.answer there (sym here.1) is in
      let less = gone_from supers partitions ps pools roots a.journals a.pool unlike a.slots a.flows a.used slot.slot y r here.0 x n among
      of in
      omega arith
