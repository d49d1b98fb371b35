-- What a record does with a slot at a number: as often as its thread got it there, it is in the thread's lists, was issued or went back.
use Rattle.std.proofs.Common.{◌≡◌, ℕ, ◌+◌, ◌<◌, Bool, true, false, ◌&&◌, cond, List, [], ◌∷◌, filter, Option, Some, None, refl, sym, ◌∙◌, ap, subst, arith, inl, inr}
use Rattle.std.specs.Prelude.{Contains, ◌==◌}
use Rattle.std.proofs.lemmas.Bool.{cases_Bool, cases_eq, eqb-true}
use Rattle.pa_slot.specs.declared.word.SlotName.{SlotName}
use Rattle.pa_slot.specs.declared.word.Step.{Step}
use Rattle.pa_slot.specs.declared.word.Step.TheVariants.{Issue}
use Rattle.pa_slot.specs.Count.{number_of}
use Rattle.pa_slot.specs.Run.{Mark, same_slot}
use Rattle.pa_record.specs.declared.entry.Seen.{Seen}
use Rattle.pa_record.specs.declared.entry.Answer.{Answer}
use Rattle.pa_record.specs.declared.entry.Answer.TheVariants as answers
use Rattle.pa_record.specs.declared.numbered.Numbered.{Numbered}
use Rattle.pa_record.specs.declared.pool.PoolEntry.{PoolEntry}
use Rattle.pa_record.specs.declared.root.RootEntry.{RootEntry}
use Rattle.pa_record.specs.declared.root.RootAct.{RootAct}
use Rattle.pa_record.specs.declared.root.RootAct.TheVariants.{Map, Full, Unmap}
use Rattle.pa_record.specs.Root.{IsJournal}
use Rattle.pa_record.specs.Laws.{leaves_by}
use Rattle.pa_lists.proofs.Members.{first_in}
use Rattle.pa_lists.proofs.Joined.{map_cases, filter_cases}
use Rattle.pa_rules.specs.declared.played.Played.{Played}
use Rattle.pa_rules.specs.Played.{mark_of, mark_of_answer, mark_at, look_at, step_of}
use Rattle.pa_rules.specs.Roots.{Journals}
use Rattle.pa_rules.specs.Caches.{Cache, with_list, SameLists, acts_of, OnlyActs, NoActs, IsDirect, FilledFirst, MadeRow, FullRow, ReturnRow, DoneRow, PurgedRow, CacheRow, gives, kept, spilled}
use Rattle.pa_rules.specs.Flow.{returns_at, is_issue, IsOnlyOf}
use Rattle.pa_rules.proofs.Versions.{real_in}
use Rattle.pa_rules.proofs.Known.{IsKnown, first_keeps}
use Rattle.pa_rules.proofs.Counted.{list_of_another}
use Rattle.pa_rules.proofs.Flowing.{class_leaves, map_leaves, class_real, returns_yes, returns_no, no_issue}
use Rattle.pa_legal.specs.Turns.{is_out}
use Rattle.pa_legal.specs.Flows.{IsNewMap, UnmapsNext, is_back, at_in, moved_in, is_issue_at, is_return_at, marked}
use Rattle.pa_legal.proofs.flow.Counts.{hit_once, listed, at_cons, hit_none, at_kept, back_gives, out_gives, back_purge, out_purge, listed_agree, listed_none, listed_changed}

-- the only entry of a line
pub line_entry : (roots : Journals) (line q : ℕ) (act : RootAct) → acts_of roots line q ≡ act ∷ [] → (e : RootEntry) ×
    Contains (roots q) e × (e.line ≡ line) × (e.act ≡ act)
line_entry roots line q act only =
    let among : Contains (acts_of roots line q) act = subst (λ acts. Contains acts act) (sym only) (first_in act []) in
    let (e, member, same) = map_cases (λ (e : RootEntry). e.act) (filter (λ (e : RootEntry). e.line == line) (roots q)) act among in
    let (there, here) = filter_cases (λ (e : RootEntry). e.line == line) (roots q) e member in
    (e, there, eqb-true e.line line here, same)

-- a mark that fails one of its tests
pub off : (a b c : Bool) → b ≡ false → cond {A = ℕ} ((a && b) && c) 1 0 ≡ 0
off true b c e = rw e refl
off false b c e = refl

module _ (s : SlotName) (k p : ℕ) (roots : Journals) where
  -- what a row does with the slot of partition p, with these entries and this mark
  abbrev pub Flows : List RootAct → Option Mark → Cache → Cache → Type 0
  Flows acts mark cache after =
      listed s k (after p) 0 170 + marked (is_issue_at s k) mark + moved_in is_back s k acts ≡ listed s k
      (cache p) 0 170 + moved_in is_out s k acts + marked (is_return_at s k) mark

  -- a row without entries, steps that issue or return, and changes
  quiet : (acts : List RootAct) (mark : Option Mark) (cache after : Cache) → SameLists after cache →
      moved_in is_out s k acts + marked (is_return_at s k) mark ≡ moved_in is_back s k acts + marked (is_issue_at s k) mark →
      Flows acts mark cache after
  quiet acts mark cache after becomes even = let same = listed_agree s k (after p) (cache p) 0 170 (λ c low. becomes p c) in omega arith

  none_moved : (acts : List RootAct) → acts ≡ [] → (moved_in is_out s k acts ≡ 0) × (moved_in is_back s k acts ≡ 0)
  none_moved acts e = (ap (moved_in is_out s k) e, ap (moved_in is_back s k) e)

  module _ (own : IsOnlyOf roots p s) where
    -- a slot of another partition isn't s
    pub not_of : (n : Numbered) (q : ℕ) → (q ≡ p → ⊥) → ((e : RootEntry) × Contains (roots q) e × Contains (leaves_by e.act) n.slot) →
        hit_once s k n ≡ 0
    not_of n q ne (e, among, leaves) =
        hit_none s k n (λ same. ne (own q e among (subst (λ z. Contains (leaves_by e.act) z) (sym same) leaves)))

    -- the marks of an issue, and of a return
    issue_marked : (line : ℕ) (seen : Seen) →
        marked (is_issue_at s k) (Some (mark_at line seen (Some Issue))) ≡ hit_once s k
        (record { slot = seen.slot; number = number_of seen.found.0 })
    issue_marked line seen = elim (cases_Bool (same_slot s seen.slot)) [ inl hit ↦ rw hit refl | inr miss ↦ rw miss refl ]

    pub return_marked : (line : ℕ) (seen : Seen) (step : Step) → returns_at step seen.found.0 ≡ true →
        marked (is_return_at s k) (Some (mark_at line seen (Some step))) ≡ hit_once s k
        (record { slot = seen.slot; number = number_of seen.found.0 + 1 })
    return_marked line seen step passes =
        elim (cases_Bool (same_slot s seen.slot)) [ inl hit ↦ rw (hit, passes) refl | inr miss ↦ rw miss refl ]

    -- the list from which a slot is taken, after a fill if it was empty
    first_moved : (line class : ℕ) (old xs : List Numbered) → FilledFirst roots line p class old xs
        → (moved_in is_out s k (acts_of roots line p) + at_in s k old ≡ at_in s k xs) × (moved_in is_back s k (acts_of roots line p) ≡ 0)
    first_moved line class [] xs (asked, only) =
        let out : moved_in is_out s k (acts_of roots line p) ≡ at_in s k xs + 0 = ap (moved_in is_out s k) only.0 in
        let back : moved_in is_back s k (acts_of roots line p) ≡ 0 = ap (moved_in is_back s k) only.0 in
        (omega arith, back)
    first_moved line class (y ∷ ys) xs (same, none) =
        let (out, back) = none_moved (acts_of roots line p) (none p) in
        let e : at_in s k xs ≡ at_in s k (y ∷ ys) = ap (at_in s k) same in
        (omega arith, back)

    made_flows : (x : Played) (seen : Seen) (cache after : Cache) → IsKnown roots cache →
        ((q : ℕ) → IsDirect roots seen.slot q → number_of seen.found.0 ≡ 0) → MadeRow roots x seen cache after →
        Flows (acts_of roots x.line p) (Some (mark_at x.line seen (Some Issue))) cache after
    made_flows x seen cache after known new (inl (q, class, xs, rest, asks, filled, front, becomes)) =
        let head : Numbered = record { slot = seen.slot; number = number_of seen.found.0 } in
        let keeps = first_keeps seen.slot roots x.line q class (cache q class) xs (λ n. known q class n) filled in
        let e : at_in s k xs ≡ at_in s k (head ∷ rest) = ap (at_in s k) front in
        let g = at_cons s k head rest in
        let i = issue_marked x.line seen in
        let o = off (same_slot s seen.slot) false (number_of seen.found.0 + 1 == k) refl in
        elim (cases_eq q p) [
          | inl same ↦
              let (out, back) = first_moved x.line class (cache p class) xs
              (subst (λ z. FilledFirst roots x.line z class (cache z class) xs) same filled) in
              let change = listed_changed s k cache after p class rest (real_in x.rules.version class (asks.3.from, asks.3.real))
              (λ c. becomes p c ∙ ap (λ z. with_list cache z class rest p c) same) in
              omega arith
          | inr other ↦
              let (out, back) = none_moved (acts_of roots x.line p) (keeps.others p (λ e. other (sym e))) in
              let of = keeps.known head (subst (λ zs. Contains zs head) (sym front) (first_in head rest)) in
              let away = not_of head q other (class_leaves roots seen.slot q class of) in
              let same = listed_agree s k (after p) (cache p) 0 170
              (λ c low. becomes p c ∙ list_of_another cache q class rest p c (λ e. other (sym e))) in
              omega arith
        ]
    made_flows x seen cache after known new (inr (q, size, asked, len, asks, only, becomes)) =
        let act : RootAct = Map asked seen.slot len in
        let head : Numbered = record { slot = seen.slot; number = number_of seen.found.0 } in
        let i = issue_marked x.line seen in
        let o = off (same_slot s seen.slot) false (number_of seen.found.0 + 1 == k) refl in
        let (e, among, line, is) = line_entry roots x.line q act only.0 in
        let zero_first : hit_once s k head ≡ hit_once s k (record { slot = seen.slot; number = 0 }) = ap
        (λ z. hit_once s k (record { slot = seen.slot; number = z })) (new q (e, asked, len, among, is)) in
        let one = at_cons s k (record { slot = seen.slot; number = 0 }) [] in
        quiet (acts_of roots x.line p) (Some (mark_at x.line seen (Some Issue))) cache after becomes
        (elim (cases_eq q p) [
          | inl same ↦
              let here : acts_of roots x.line p ≡ act ∷ [] = subst (λ z. acts_of roots x.line z ≡ act ∷ []) same only.0 in
              let out : moved_in is_out s k (acts_of roots x.line p) ≡ at_in s k (record { slot = seen.slot; number = 0 } ∷ []) + 0 =
              ap (moved_in is_out s k) here in
              let back : moved_in is_back s k (acts_of roots x.line p) ≡ 0 = ap (moved_in is_back s k) here in
              omega arith
          | inr other ↦
              let (out, back) = none_moved (acts_of roots x.line p) (only.1 p (λ e. other (sym e))) in
              let away = not_of head q other (map_leaves roots seen.slot q (e, asked, len, among, is)) in
              omega arith
        ])

    -- a slot that a step returned, if its mark is one return and no issue
    return_flows : (pools : List PoolEntry) (x : Played) (slot : Numbered) (mark : Option Mark) (cache after : Cache) →
        ((q : ℕ) → IsJournal pools (roots q)) →
        ((q asked : ℕ) (n : Numbered) (e : RootEntry) → Contains (roots q) e → e.line ≡ x.line → e.act ≡ Unmap asked n →
        n.number ≡ slot.number) →
        marked (is_issue_at s k) mark ≡ 0 → marked (is_return_at s k) mark ≡ hit_once s k slot → ReturnRow roots x slot cache after →
        Flows (acts_of roots x.line p) mark cache after
    return_flows pools x slot mark cache after journals unmaps i o (inl (q, class, of, only, becomes)) =
        let list = slot ∷ cache q class in
        let one = at_cons s k slot (cache q class) in
        let parts = at_kept s k class list in
        elim (cases_eq q p) [
          | inl same ↦
              let acts : acts_of roots x.line p ≡ gives (spilled class list) =
              subst (λ z. acts_of roots x.line z ≡ gives (spilled class list)) same only.0 in
              let out : moved_in is_out s k (acts_of roots x.line p) ≡ 0 = ap (moved_in is_out s k) acts ∙
              out_gives s k (spilled class list) in
              let back : moved_in is_back s k (acts_of roots x.line p) ≡ at_in s k (spilled class list) = ap (moved_in is_back s k) acts ∙
              back_gives s k (spilled class list) in
              let change = listed_changed s k cache after p class (kept class list)
              (class_real pools roots slot.slot q class (journals q) of)
              (λ c. becomes p c ∙ ap (λ z. with_list cache z class (kept class list) p c) same) in
              let old : at_in s k (cache q class) ≡ at_in s k (cache p class) = ap (λ z. at_in s k (cache z class)) same in
              omega arith
          | inr other ↦
              let (out, back) = none_moved (acts_of roots x.line p) (only.1 p (λ e. other (sym e))) in
              let away = not_of slot q other (class_leaves roots slot.slot q class of) in
              let same = listed_agree s k (after p) (cache p) 0 170
              (λ c low. becomes p c ∙ list_of_another cache q class (kept class list) p c (λ e. other (sym e))) in
              omega arith
        ]
    return_flows pools x slot mark cache after journals unmaps i o (inr (q, asked, number, direct, only, becomes)) =
        let n : Numbered = record { slot = slot.slot; number = number } in
        let act : RootAct = Unmap asked n in
        let (e, among, line, is) = line_entry roots x.line q act only.0 in
        let next : number ≡ slot.number = unmaps q asked n e among line is in
        let same_hit : hit_once s k n ≡ hit_once s k slot = ap (λ z. hit_once s k (record { slot = slot.slot; number = z })) next in
        let one = at_cons s k n [] in
        quiet (acts_of roots x.line p) mark cache after becomes
        (elim (cases_eq q p) [
          | inl same ↦
              let here : acts_of roots x.line p ≡ act ∷ [] = subst (λ z. acts_of roots x.line z ≡ act ∷ []) same only.0 in
              let out : moved_in is_out s k (acts_of roots x.line p) ≡ 0 = ap (moved_in is_out s k) here in
              let back : moved_in is_back s k (acts_of roots x.line p) ≡ at_in s k (n ∷ []) + 0 = ap (moved_in is_back s k) here in
              omega arith
          | inr other ↦
              let (out, back) = none_moved (acts_of roots x.line p) (only.1 p (λ e. other (sym e))) in
              let away = not_of slot q other (map_leaves roots slot.slot q direct) in
              omega arith
        ])

    done_flows : (pools : List PoolEntry) (x : Played) (o : Option Step) (seen : Seen) (cache after : Cache) →
        ((q : ℕ) → IsJournal pools (roots q)) →
        ((q asked : ℕ) (n : Numbered) (e : RootEntry) → Contains (roots q) e → e.line ≡ x.line → e.act ≡ Unmap asked n →
        n.number ≡ number_of seen.found.0 + 1) →
        is_issue o ≡ false → DoneRow roots x o seen cache after → Flows (acts_of roots x.line p) (Some (mark_at x.line seen o)) cache after
    done_flows pools x None seen cache after journals unmaps none (acts, becomes) =
        let (out, back) = none_moved (acts_of roots x.line p) (acts p) in
        let i = off (same_slot s seen.slot) false (number_of seen.found.0 == k) refl in
        let o = off (same_slot s seen.slot) false (number_of seen.found.0 + 1 == k) refl in
        quiet (acts_of roots x.line p) (Some (mark_at x.line seen None)) cache after becomes (omega arith)
    done_flows pools x (Some step) seen cache after journals unmaps none (inl (returning, row)) =
        return_flows pools x _ (Some (mark_at x.line seen (Some step))) cache after journals unmaps
        (off (same_slot s seen.slot) (is_issue (Some step)) (number_of seen.found.0 == k) none)
        (return_marked x.line seen step (returns_yes step seen.found.0 returning)) row
    done_flows pools x (Some step) seen cache after journals unmaps none (inr (other, acts, becomes)) =
        let (out, back) = none_moved (acts_of roots x.line p) (acts p) in
        let i = off (same_slot s seen.slot) (is_issue (Some step)) (number_of seen.found.0 == k) none in
        let o = off (same_slot s seen.slot) (returns_at step seen.found.0) (number_of seen.found.0 + 1 == k)
        (returns_no step seen.found.0 other) in
        quiet (acts_of roots x.line p) (Some (mark_at x.line seen (Some step))) cache after becomes (omega arith)

  one_full : (line q : ℕ) (class : Option ℕ) (asked : ℕ) → OnlyActs roots line q (Full class asked ∷ [])
      → (moved_in is_out s k (acts_of roots line p) ≡ 0) × (moved_in is_back s k (acts_of roots line p) ≡ 0)
  one_full line q class asked only = elim (cases_eq p q) [
    | inl same ↦
        let here : acts_of roots line p ≡ Full class asked ∷ [] =
        subst (λ z. acts_of roots line z ≡ Full class asked ∷ []) (sym same) only.0 in
        (ap (moved_in is_out s k) here, ap (moved_in is_back s k) here)
    | inr other ↦ none_moved (acts_of roots line p) (only.1 p other)
  ]

  full_flows : (x : Played) (cache after : Cache) → FullRow roots x cache after → Flows (acts_of roots x.line p) None cache after
  full_flows x cache after (inl (q, class, asked, asks, empty, only, becomes)) =
      let (out, back) = one_full x.line q (Some class) asked only in
      quiet (acts_of roots x.line p) None cache after becomes (omega arith)
  full_flows x cache after (inr (q, size, asked, asks, only, becomes)) =
      let (out, back) = one_full x.line q None asked only in
      quiet (acts_of roots x.line p) None cache after becomes (omega arith)

  purged_flows : (partitions : ℕ) (x : Played) (slots : ℕ) (cache after : Cache) → p < partitions →
      PurgedRow partitions roots x slots cache after → Flows (acts_of roots x.line p) None cache after
  purged_flows partitions x slots cache after below (acts, counted, empty) =
      let out : moved_in is_out s k (acts_of roots x.line p) ≡ 0 = ap (moved_in is_out s k) (acts p below) ∙
      out_purge s k (cache p) 0 170 in
      let back : moved_in is_back s k (acts_of roots x.line p) ≡ listed s k (cache p) 0 170 = ap (moved_in is_back s k) (acts p below) ∙
      back_purge s k (cache p) 0 170 in
      let none = listed_none s k (after p) 0 170 (empty p) in
      omega arith

  -- a row without entries, with a look or no mark
  look_flows : (x : Played) (o : Option Seen) (cache after : Cache) → NoActs roots x.line × SameLists after cache →
      Flows (acts_of roots x.line p) (look_at x.line o) cache after
  look_flows x None cache after (acts, becomes) =
      let (out, back) = none_moved (acts_of roots x.line p) (acts p) in
      quiet (acts_of roots x.line p) None cache after becomes (omega arith)
  look_flows x (Some seen) cache after (acts, becomes) =
      let (out, back) = none_moved (acts_of roots x.line p) (acts p) in
      let i = off (same_slot s seen.slot) false (number_of seen.found.0 == k) refl in
      let o = off (same_slot s seen.slot) false (number_of seen.found.0 + 1 == k) refl in
      quiet (acts_of roots x.line p) (Some (mark_at x.line seen None)) cache after becomes (omega arith)

  module _ (partitions : ℕ) (pools : List PoolEntry) (x : Played) (cache after : Cache) (journals : (q : ℕ) → IsJournal pools (roots q))
      (own : IsOnlyOf roots p s) (below : p < partitions) (known : IsKnown roots cache) (new : IsNewMap roots x)
      (unmaps : UnmapsNext roots x) where
    by_answer : (a : Answer) → x.answer ≡ a → CacheRow partitions roots x a cache after →
        Flows (acts_of roots x.line p) (mark_of_answer x.line x.op a) cache after
    by_answer (answers.Made seen usable) is row = made_flows own x seen cache after known (λ q. new seen usable q is) row
    by_answer (answers.Done seen) is row =
        done_flows own pools x (step_of x.op) seen cache after journals
        (λ q asked n e among line act. unmaps seen q asked n e is among line act) (no_issue x.op) row
    by_answer (answers.Value seen value) is row = look_flows x (Some seen) cache after row
    by_answer (answers.Dangling seen value) is row = look_flows x (Some seen) cache after row
    by_answer (answers.SecondFree seen) is row = look_flows x seen cache after row
    by_answer (answers.NotOwner seen) is row = look_flows x (Some seen) cache after row
    by_answer answers.StaleReset is row = look_flows x None cache after row
    by_answer (answers.StaleUse seen) is row = look_flows x seen cache after row
    by_answer answers.Nothing is row = look_flows x None cache after row
    by_answer answers.Filled is row = look_flows x None cache after row
    by_answer answers.NotRef is row = look_flows x None cache after row
    by_answer (answers.Shared seen) is row = look_flows x (Some seen) cache after row
    by_answer answers.OutOfRange is row = look_flows x None cache after row
    by_answer answers.TooLarge is row = look_flows x None cache after row
    by_answer (answers.Full entry) is row = full_flows x cache after row
    by_answer (answers.Swapped entry) is row = look_flows x None cache after row
    by_answer (answers.Purged slots) is row = purged_flows partitions x slots cache after below row
    by_answer answers.Uncounted is row = look_flows x None cache after row

    -- what a record does with the slot at the number
    pub row_flows : CacheRow partitions roots x x.answer cache after → Flows (acts_of roots x.line p) (mark_of x) cache after
    row_flows row = by_answer x.answer refl row
