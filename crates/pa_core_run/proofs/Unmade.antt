-- A slot that isn't made before a line has the word 0 then: no record before made it.
use Rattle.std.proofs.Common.{◌≡◌, ℕ, ◌+◌, ◌<◌, ◌≤◌, List, [], ◌∷◌, ◌++◌, Option, Some, None, refl, sym, ◌∙◌, ap, subst, arith, ◌⊎◌, inl, inr, append_assoc}
use Rattle.std.specs.Prelude.{Contains}
use Rattle.std.proofs.lemmas.Bool.{cases_lt}
use Rattle.std.proofs.lemmas.List.{append-nil}
use Rattle.std.proofs.lemmas.List.Elements.{Contains-append_left, Contains-append_right}
use Rattle.pa_slot.specs.declared.word.SlotName.{SlotName}
use Rattle.pa_slot.specs.declared.word.Step.{Step}
use Rattle.pa_slot.specs.declared.word.Step.TheVariants.{Issue}
use Rattle.pa_slot.specs.declared.title.Title.{Title}
use Rattle.pa_slot.specs.Count.{stepped}
use Rattle.pa_slot.specs.Run.{Mark}
use Rattle.pa_slot.proofs.Arith.{stepped_is}
use Rattle.pa_slot.proofs.Runs.{same_slot_cases}
use Rattle.pa_trace.specs.declared.script.Op.{Op}
use Rattle.pa_record.specs.declared.entry.Seen.{Seen}
use Rattle.pa_record.specs.declared.entry.Answer.{Answer}
use Rattle.pa_record.specs.declared.entry.Answer.TheVariants as answers
use Rattle.pa_record.specs.declared.root.RootEntry.{RootEntry}
use Rattle.pa_record.specs.Spans.{name_of}
use Rattle.pa_record.specs.Laws.{IsNameOut, leaves_by}
use Rattle.pa_record.specs.Root.{new_root, root_replayed}
use Rattle.pa_record.specs.Sound.{IsMade, IsMadeBy}
use Rattle.pa_lists.proofs.Members.{not_in_none, first_in, of_some, not_some}
use Rattle.pa_record.proofs.Titles.{made_born}
use Rattle.pa_record.proofs.Lawful.{journal_leaves}
use Rattle.pa_rules.specs.declared.played.Played.{Played}
use Rattle.pa_rules.specs.Played.{mark_of, mark_at, mark_of_answer}
use Rattle.pa_rules.specs.Caches.{no_caches, with_cache}
use Rattle.pa_rules.specs.Flow.{busy}
use Rattle.pa_rules.proofs.Running.{busy_some}
use Rattle.pa_rules.proofs.Following.{titles_follow}
use Rattle.pa_rules.proofs.Owned.{title_of}
use Rattle.pa_rules.proofs.CachesAfter.{caches_snoc}
use Rattle.pa_one_run.specs.Parts.{Parts}
use Rattle.pa_one_run.specs.Before.{stepped_by, word_after, root_at}
use Rattle.pa_one_run.proofs.Filed.{IsFiled, IsMadeIn}
use Rattle.pa_one_run.proofs.lines.Cuts.{IsCut, cut_next, record_row}
use Rattle.pa_lists.proofs.Elements.{in_front, parts_at}
use Rattle.pa_one_run.proofs.words.Found.{found_is, step_can, word_same, word_other, word_here}
use Rattle.pa_one_run.proofs.roots.Classes.{made_class}
use Rattle.pa_one_run.proofs.roots.Replays.{front_journal}
use Rattle.pa_one_run.proofs.rows.Handles.{done_made}
use Rattle.pa_one_run.proofs.numbers.Once.{once}
use Rattle.pa_core_run.proofs.Named.{made_unique}
use Rattle.pa_core_run.proofs.Growing.{made_later, made_at_end, no_super_later}
use Rattle.pa_rules.proofs.Marking.{not_look}

-- ---- who steps

-- an answer that reports a step made the slot, or did the op
abbrev Steps : Answer → Mark → Type 0
Steps answer m = ((seen : Seen) × (usable : ℕ) × (answer ≡ answers.Made seen usable) × (seen.slot ≡ m.slot)) ⊎
    ((seen : Seen) × (answer ≡ answers.Done seen) × (seen.slot ≡ m.slot))

who_steps : (line : ℕ) (op : Op) (answer : Answer) (m : Mark) (p : Step) → mark_of_answer line op answer ≡ Some m → m.step ≡ Some p →
    Steps answer m
who_steps line op (answers.Made seen usable) m p is step =
    inl (seen, usable, refl, ap (λ (z : Mark). z.slot) (of_some (mark_at line seen (Some Issue)) m is))
who_steps line op (answers.Done seen) m p is step = inr (seen, refl, ap (λ (z : Mark). z.slot) (of_some _ m is))
who_steps line op (answers.Value seen value) m p is step = absurd (not_look line (Some seen) m p is step)
who_steps line op (answers.Dangling seen value) m p is step = absurd (not_look line (Some seen) m p is step)
who_steps line op (answers.SecondFree seen) m p is step = absurd (not_look line seen m p is step)
who_steps line op (answers.NotOwner seen) m p is step = absurd (not_look line (Some seen) m p is step)
who_steps line op answers.StaleReset m p is step = absurd (not_some m is)
who_steps line op (answers.StaleUse seen) m p is step = absurd (not_look line seen m p is step)
who_steps line op answers.Nothing m p is step = absurd (not_some m is)
who_steps line op answers.Filled m p is step = absurd (not_some m is)
who_steps line op answers.NotRef m p is step = absurd (not_some m is)
who_steps line op (answers.Shared seen) m p is step = absurd (not_look line (Some seen) m p is step)
who_steps line op answers.OutOfRange m p is step = absurd (not_some m is)
who_steps line op answers.TooLarge m p is step = absurd (not_some m is)
who_steps line op (answers.Full entry) m p is step = absurd (not_some m is)
who_steps line op (answers.Swapped entry) m p is step = absurd (not_some m is)
who_steps line op (answers.Purged slots) m p is step = absurd (not_some m is)
who_steps line op answers.Uncounted m p is step = absurd (not_some m is)

-- ---- the word of a slot that no record made

module _ (a : Parts) (h : IsFiled a) (s : SlotName) where
  abbrev Known : List Played → Type 0
  Known ps = (word_after ps s ≡ 0) ⊎ IsMadeIn ps s

  one_more : (done : List Played) (x : Played) (rest : List Played) → a.ps ≡ done ++ x ∷ rest → Known done → Known (done ++ x ∷ [])
  one_more done x rest parts (inr (q, seen, usable, among, is, slot)) =
      inr (q, seen, usable, Contains-append_left done (x ∷ []) q among, is, slot)
  one_more done x rest parts (inl zero) = by_mark (mark_of x) refl
    where
      by_step : (m : Mark) (o : Option Step) → mark_of x ≡ Some m → m.step ≡ o → m.slot ≡ s → Known (done ++ x ∷ [])
      by_step m None is step e =
          inl (subst (λ z. word_after (done ++ x ∷ []) z ≡ 0) e
          (word_here done x m is ∙ (ap (λ o. stepped_by o (word_after done m.slot)) step ∙ (ap (word_after done) e ∙ zero))))
      by_step m (Some p) is step e = elim (who_steps x.line x.op x.answer m p is step) [
        | inl (seen, usable, answer, slot) ↦ inr (x, seen, usable, Contains-append_right done (x ∷ []) x (first_in x []), answer, slot ∙ e)
        | inr (seen, answer, slot) ↦
            let (q, seen2, usable, among, is2, slot2) = done_made a done rest x seen h parts answer in
            inr (q, seen2, usable, Contains-append_left done (x ∷ []) q among, is2, slot2 ∙ (slot ∙ e))
      ]

      by_mark : (o : Option Mark) → mark_of x ≡ o → Known (done ++ x ∷ [])
      by_mark None is = inl (word_same done x s is ∙ zero)
      by_mark (Some m) is = elim (same_slot_cases m.slot s) [
        | inl e ↦ by_step m m.step is refl e
        | inr ne ↦ inl (word_other done x m s is ne ∙ zero)
      ]

  all_more : (done todo more : List Played) → a.ps ≡ done ++ (todo ++ more) → Known done → Known (done ++ todo)
  all_more done [] more parts known = subst (λ z. Known z) (sym (append-nil done)) known
  all_more done (x ∷ todo) more parts known =
      subst (λ z. Known z) (append_assoc done (x ∷ []) todo)
      (all_more (done ++ x ∷ []) todo more (parts ∙ sym (append_assoc done (x ∷ []) (todo ++ more)))
      (one_more done x (todo ++ more) parts known))

  pub word_or_made : (before rest : List Played) → a.ps ≡ before ++ rest → (word_after before s ≡ 0) ⊎ IsMadeIn before s
  word_or_made before rest parts = all_more [] before rest parts (inl refl)

-- ---- a slot that a record made is out right after it

module _ (a : Parts) (h : IsFiled a) where
  -- an entry's partition is one of the trace's
  pub entry_inside : (p : ℕ) (e : RootEntry) → Contains (a.roots p) e → p < a.partitions
  entry_inside p e among = elim (cases_lt p a.partitions) [
    | inl low ↦ low
    | inr past ↦ absurd (not_in_none e (subst (λ es. Contains es e) (h.journals.none_past p past) among))
  ]

  -- the entry by which it left, and that it is out
  record IsOutAfter (q : Played) (s : SlotName) (p : ℕ) (e : RootEntry) : Type 0 where
    there : Contains (a.roots p) e
    leaves : Contains (leaves_by e.act) s
    out : IsNameOut (root_at a (q.line + 1) p) s

  leaving : (q : Played) (seen : Seen) (usable : ℕ) → Contains a.ps q → q.answer ≡ answers.Made seen usable → (p : ℕ) × (e : RootEntry) ×
      Contains (a.roots p) e × Contains (leaves_by e.act) seen.slot
  leaving q seen usable among answer = elim (made_class a q seen usable h among answer) [
    | inl (p, c, asks, (e, asked, slots, there, is, member)) ↦
        (p, e, there, subst (λ act. Contains (leaves_by act) seen.slot) (sym is) member)
    | inr (p, n, asks, (e, asked, len, there, is)) ↦
        (p, e, there, subst (λ act. Contains (leaves_by act) seen.slot) (sym is) (first_in seen.slot []))
  ]

  made_out : (q : Played) (seen : Seen) (usable : ℕ) → Contains a.ps q → q.answer ≡ answers.Made seen usable → (p : ℕ) × (e : RootEntry) ×
      IsOutAfter q seen.slot p e
  made_out q seen usable among answer =
      let (before, rest, parts) = parts_at a.ps q among in
      let (all, next, to, row) = record_row a before rest q h parts in
      let (p, e, there, leaves) = leaving q seen usable among answer in
      let m : Mark = mark_at q.line seen (Some Issue) in
      let marked : mark_of q ≡ Some m = rw answer refl in
      let can = step_can a before rest q m Issue h parts marked refl in
      let (free, alone, bit, refs) = stepped_is Issue m.found can in
      let word : word_after (before ++ q ∷ []) seen.slot ≡ stepped Issue m.found = word_here before q m marked ∙
      ap (stepped Issue) (sym (found_is a before rest q m h parts marked)) in
      let used = ap busy word ∙ busy_some (stepped Issue m.found) (omega arith) in
      elim (once a (q.line + 1) p (before ++ q ∷ []) rest (with_cache all q.thread next) seen.slot e h (cut_next a before rest q h parts)
      (caches_snoc a.partitions a.roots no_caches all before q next to row) (entry_inside p e there) there leaves) [
        | inl (out, one) ↦ (p, e, record { there = there; leaves = leaves; out = out })
        | inr (back, none) ↦ absurd (omega arith)
      ]

  -- if a title's name was out at no line up to n, its slot's word is 0 after the records before line n
  pub never_word : (before rest : List Played) (n p : ℕ) (t : Title) → IsCut a n before rest → IsMadeBy a.pools (a.roots p) t
      → ((m : ℕ) → m ≤ n → IsNameOut (root_at a m p) (name_of t) → ⊥) → word_after before (name_of t) ≡ 0
  never_word before rest n p t cut made never = elim (word_or_made a h (name_of t) before rest cut.parts) [
    | inl zero ↦ zero
    | inr (q, seen, usable, among, answer, slot) ↦
        let low = cut.early q among in
        let (r, e, o) = made_out q seen usable (in_front before rest a.ps q cut.parts among) answer in
        let (u, was, named, sized) = title_of a.pools (a.roots r) e seen.slot (h.journals.journals r) o.there o.leaves in
        let same = made_unique a h t u (p, made) (r, was) (sym slot ∙ sym named) in
        let all = titles_follow.titles a.supers a.partitions a.ps a.pools a.roots h.journals h.pool in
        let place : p ≡ r = all.owned p r t u made was (ap (λ (z : Title). z.born) same) in
        let out = subst (λ z. IsNameOut (root_at a (q.line + 1) z) seen.slot) (sym place) o.out in
        absurd (never (q.line + 1) (omega arith) (subst (λ y. IsNameOut (root_at a (q.line + 1) p) y) slot out))
  ]

  -- as a slot's that comes by the line
  pub new_word : (before rest : List Played) (n p : ℕ) (t : Title) → IsCut a n before rest → IsMade (root_at a (n + 1) p) t →
      (IsMade (root_at a n p) t → ⊥) → word_after before (name_of t) ≡ 0
  new_word before rest n p t cut made new = never_word before rest n p t cut (inl mine) never
    where
      mine : IsMade (root_replayed a.pools (a.roots p) new_root) t
      mine = made_at_end a h p (n + 1) t made

      never : (m : ℕ) → m ≤ n → IsNameOut (root_at a m p) (name_of t) → ⊥
      never m low (v, inl (span, member, number, is_out, is), name) =
          let left = journal_leaves a.pools _ (front_journal a m p h) in
          let given = is_out.provisioned in
          let most = (left.sound.spans span member).counted.made in
          let made' : IsMade (root_at a m p) v = (span, member, number, omega arith, is) in
          let it = made_unique a h t v (p, inl mine) (p, inl (made_at_end a h p m v made')) name in
          new (made_later a h p m n t low (subst (λ z. IsMade (root_at a m p) z) (sym it) made'))
      never m low (v, inr mapped, name) =
          let sound = (journal_leaves a.pools _ (front_journal a (n + 1) p h)).sound in
          let (at, member, born) = made_born (root_at a (n + 1) p) t sound made in
          no_super_later a h p m (n + 1) v (omega arith) mapped at member (sym born ∙ ap (λ (z : SlotName). z.born) name)
