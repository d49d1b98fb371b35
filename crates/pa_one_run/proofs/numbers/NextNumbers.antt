-- A slot's numbers go on holding over one record more, by the entries of its line.
use Rattle.std.proofs.Common.{◌≡◌, ℕ, ◌+◌, ◌<◌, ◌≤◌, ◌⊎◌, false, List, [], ◌∷◌, ◌++◌, Option, Some, None, drop, length, ◌/◌, refl, sym, ◌∙◌, ap, subst, arith, inl, inr}
use Rattle.std.specs.Prelude.{Contains, nat_lt}
use Rattle.std.proofs.lemmas.Bool.{cases_Bool, cases_lt, cases_eq}
use Rattle.std.proofs.lemmas.List.{append-nil}
use Rattle.std.proofs.lemmas.List.Elements.{All-contains}
use Rattle.pa_slot.specs.declared.word.SlotName.{SlotName}
use Rattle.pa_slot.specs.declared.word.Step.{Step}
use Rattle.pa_slot.specs.declared.word.Step.TheVariants.{Issue}
use Rattle.pa_slot.specs.Count.{CanStep, stepped, number_of}
use Rattle.pa_slot.specs.Run.{Mark, same_slot}
use Rattle.pa_slot.proofs.Arith.{stepped_is}
use Rattle.pa_slot.proofs.Runs.{same_slot_cases}
use Rattle.pa_buckets.specs.Bands.{limit_of}
use Rattle.pa_rules.proofs.Versions.{real_in}
use Rattle.pa_record.specs.declared.entry.Seen.{Seen}
use Rattle.pa_record.specs.declared.entry.Answer.{Answer}
use Rattle.pa_record.specs.declared.numbered.Numbered.{Numbered}
use Rattle.pa_record.specs.declared.root.RootAct.{RootAct}
use Rattle.pa_record.specs.declared.root.RootAct.TheVariants.{Map, Full, Unmap}
use Rattle.pa_lists.proofs.Members.{not_in_none, first_in, later_in, in_cases, of_some, not_some}
use Rattle.pa_record.specs.declared.entry.Answer.TheVariants as answers
use Rattle.pa_rules.specs.declared.played.Played.{Played}
use Rattle.pa_rules.specs.Played.{mark_of, mark_of_answer, mark_at, look_at, step_of}
use Rattle.pa_rules.specs.Holders.{Out, Back}
use Rattle.pa_rules.specs.Caches.{Cache, Caches, with_list, with_cache, SameLists, acts_of, OnlyActs, NoActs, IsOfClass, FilledFirst, FrontIs, MadeRow, FullRow, ReturnRow, DoneRow, PurgedRow, CacheRow, CachesTo, no_caches, gives, kept, spilled}
use Rattle.pa_rules.specs.Flow.{cached_times, listed_times, busy, is_issue}
use Rattle.pa_rules.specs.Once.{once}
use Rattle.pa_rules.proofs.Running.{busy_some}
use Rattle.pa_rules.proofs.Counted.{stands}
use Rattle.pa_rules.proofs.Known.{IsKnown, first_keeps, entry_of_act, kept_in, all_known}
use Rattle.pa_rules.proofs.Flowing.{not_once, class_leaves, no_issue, class_real}
use Rattle.pa_rules.proofs.CachesAfter.{caches_snoc}
use Rattle.pa_one_run.specs.Parts.{Parts}
use Rattle.pa_one_run.specs.Before.{word_after}
use Rattle.pa_one_run.proofs.Filed.{IsFiled}
use Rattle.pa_one_run.proofs.roots.Classes.{one_class, class_or_direct}
use Rattle.pa_one_run.proofs.numbers.Once.{once as somewhere}
use Rattle.pa_one_run.proofs.numbers.Ways.{ways_by, ways_of, is_away, ways_in_none, gives_none, purge_none}
use Rattle.pa_one_run.proofs.numbers.Away.{acts_before, fill_finds}
use Rattle.pa_one_run.proofs.numbers.Standing.{AreNumbered, fewer, still, steps, filled, gives as given_back}
use Rattle.pa_one_run.proofs.numbers.Listing.{Stands, nowhere, unlisted, unstood, stands_same, stands_changed, stands_emptied, kept_times, emptied_times}
use Rattle.pa_one_run.proofs.lines.Cuts.{cut_here, cut_next, IsCut}
use Rattle.pa_one_run.proofs.numbers.Numbering.{number_after, IsApart, StepsOn, apart_number, step_found, step_word, step_number, step_busy, step_away, step_enabled}
use Rattle.pa_lists.proofs.Elements.{in_middle, drop_in, in_one}

-- a slot of a class is in one list or is in use, or neither
at_most_once : (a : Parts) (n p class : ℕ) (before rest : List Played) (all : Caches) (s : SlotName) → IsFiled a → IsCut a n before rest →
    CachesTo a.partitions a.roots no_caches before all →
    p < a.partitions → IsOfClass a.roots s p class → cached_times s all p a.threads + busy (word_after before s) ≤ 1
at_most_once a n p class before rest all s h cut caches few of =
    let (e, among, leaves) = class_leaves a.roots s p class of in
    elim (somewhere a n p before rest all s e h cut caches few among leaves) [
      | inl (out, one) ↦ omega arith
      | inr (back, none) ↦ omega arith
    ]

pub class_partition : (a : Parts) (s : SlotName) (p class : ℕ) → IsFiled a → IsOfClass a.roots s p class → p < a.partitions
class_partition a s p class h (e, asked, slots, among, act, member) = elim (cases_lt p a.partitions) [
  | inl less ↦ less
  | inr past ↦ absurd (not_in_none e (subst (λ es. Contains es e) (h.journals.none_past p past) among))
]

issued_busy : (w : ℕ) → CanStep Issue w → busy (stepped Issue w) ≡ 1
issued_busy w can = let (refs, held, free, unheld) = stepped_is Issue w can in busy_some (stepped Issue w) (omega arith)

apart_look : (x : Played) (s : SlotName) (o : Option Seen) → mark_of x ≡ look_at x.line o → IsApart x s
apart_look x s None is m mark same = absurd (not_some m (sym is ∙ mark))
apart_look x s (Some seen) is m mark same = ap (λ (z : Mark). z.step) (sym (of_some (mark_at x.line seen None) m (sym is ∙ mark)))

apart_slot : (x : Played) (s : SlotName) (n : Mark) → mark_of x ≡ Some n → (n.slot ≡ s → ⊥) → IsApart x s
apart_slot x s n is other m mark same = absurd (other (ap (λ (z : Mark). z.slot) (of_some n m (sym is ∙ mark)) ∙ same))

once_few : (s t : SlotName) → once s t ≤ 1
once_few s t = elim (cases_Bool (same_slot s t)) [ inl hit ↦ rw hit (omega arith) | inr miss ↦ rw miss (omega arith) ]

pub spilled_in : (class : ℕ) (xs : List Numbered) (n : Numbered) → Contains (spilled class xs) n → Contains xs n
spilled_in class xs n among = elim (cases_Bool (nat_lt (limit_of class) (length xs))) [
  | inl over ↦
      let back : Contains (drop (limit_of class / 2) xs) n = rw over at among in
      drop_in (limit_of class / 2) xs n back
  | inr within ↦ let none : Contains [] n = rw within at among in absurd (not_in_none n none)
]

-- the only entry of a line, which doesn't name the slot
one_unnamed : (a : Parts) (line p q : ℕ) (act : RootAct) (s : SlotName) (k : ℕ) → OnlyActs a.roots line q (act ∷ []) →
    ways_by s k act ≡ [] → ways_of s k (acts_of a.roots line p) ≡ []
one_unnamed a line p q act s k only none = elim (cases_eq p q) [
  | inl same ↦ ap (ways_of s k) (subst (λ z. acts_of a.roots line z ≡ act ∷ []) (sym same) only.0) ∙ append-nil (ways_by s k act) ∙ none
  | inr other ↦ ap (ways_of s k) (only.1 p other)
]

-- one record of a run, with the caches before it and its thread's after it, and a slot of a class of partition p
pub record IsNext (a : Parts) (before rest : List Played) (x : Played) (all : Caches) (next : Cache) (s : SlotName)
    (p class : ℕ) : Type 0 where
  pub filed : IsFiled a
  pub parts : a.ps ≡ before ++ x ∷ rest
  pub caches : CachesTo a.partitions a.roots no_caches before all
  pub row : CacheRow a.partitions a.roots x x.answer (all x.thread) next
  pub of : IsOfClass a.roots s p class

abbrev pub AreNumberedBefore : Parts → List Played → Played → Caches → SlotName → ℕ → Type 0
AreNumberedBefore a before x all s p = AreNumbered (acts_before a x.line p) s (number_after before s) (Stands all s p a.threads)

abbrev pub AreNumberedAfter : Parts → List Played → Played → Caches → Cache → SlotName → ℕ → Type 0
AreNumberedAfter a before x all next s p =
    AreNumbered (acts_before a x.line p ++ acts_of a.roots x.line p) s (number_after (before ++ x ∷ []) s)
    (Stands (with_cache all x.thread next) s p a.threads)

module _ (a : Parts) (before rest : List Played) (x : Played) (all : Caches) (next : Cache) (s : SlotName) (p class : ℕ)
    (n : IsNext a before rest x all next s p class) (are : AreNumberedBefore a before x all s p) where
  few : x.thread < a.threads
  few = All-contains (λ (y : Played). y.thread < a.threads) a.ps x n.filed.few (in_middle before rest a.ps x n.parts)

  real_partition : p < a.partitions
  real_partition = class_partition a s p class n.filed n.of

  once_before : cached_times s all p a.threads + busy (word_after before s) ≤ 1
  once_before = at_most_once a x.line p class before (x ∷ rest) all s n.filed
      (cut_here a before rest x n.filed n.parts) n.caches real_partition n.of

  once_after : cached_times s (with_cache all x.thread next) p a.threads + busy (word_after (before ++ x ∷ []) s) ≤ 1
  once_after =
      at_most_once a (x.line + 1) p class (before ++ x ∷ []) rest (with_cache all x.thread next) s n.filed
      (cut_next a before rest x n.filed n.parts)
      (caches_snoc a.partitions a.roots no_caches all before x next n.caches n.row) real_partition n.of

  abbrev Before : List RootAct
  Before = acts_before a x.line p

  abbrev On : List RootAct
  On = acts_of a.roots x.line p

  abbrev Listed : Numbered → Type 0
  Listed = Stands all s p a.threads

  abbrev Next : Numbered → Type 0
  Next = Stands (with_cache all x.thread next) s p a.threads

  abbrev number : ℕ
  number = number_after before s

  abbrev later_number : ℕ
  later_number = number_after (before ++ x ∷ []) s

  -- the record doesn't step on the slot, nor does an entry name it
  quiet : IsApart x s → ((k : ℕ) → ways_of s k On ≡ []) → ((m : Numbered) → Next m → Listed m) → AreNumberedAfter a before x all next s p
  quiet apart none old = subst (λ k. AreNumbered (Before ++ On) s k Next) (sym (apart_number before x s apart))
      (still Before On s number Listed Next are none old)

  -- it steps on the slot, which it doesn't issue: the slot is listed nowhere then but if it is listed now
  stepped_on : (m : Mark) (step : Step) (Later : Numbered → Type 0) → StepsOn x s m step → is_issue (Some step) ≡ false →
      ((y : Numbered) → Later y → Listed y ⊎ (y.number ≡ number + 1)) → AreNumbered Before s later_number Later
  stepped_on m step Later on none new =
      let busy_one = step_busy a before rest x s m step n.filed n.parts on none in
      let once = once_before in
      subst (λ k. AreNumbered Before s k Later) (sym (step_number a before rest x s m step n.filed n.parts on))
      (steps Before On s number Listed Later are (step_away a before rest x s m step n.filed n.parts on p none)
      (λ y at. elim (new y at) [
        | inl here ↦ absurd (nowhere all s p a.threads y (omega arith) here)
        | inr is ↦ is
      ]))

  -- ---- a slot was made

  first_numbered : (c : ℕ) (old xs : List Numbered) → c < 170 → old ≡ all x.thread p c → FilledFirst a.roots x.line p c old xs →
      AreNumbered (Before ++ On) s number (λ m. Listed m ⊎ (Contains xs m × (m.slot ≡ s)))
  first_numbered c [] xs real is (asked, only) =
      filled Before On s number c asked xs Listed (λ m. Listed m ⊎ (Contains xs m × (m.slot ≡ s))) are only.0
      (λ m among same. subst (λ z. is_away Before z m.number ≡ false) same (fill_finds a x.line p c asked xs m n.filed only.0 among))
      (λ m at. at)
  first_numbered c (y ∷ ys) xs real is (same, none) =
      still Before On s number Listed (λ m. Listed m ⊎ (Contains xs m × (m.slot ≡ s))) are (λ k. ap (ways_of s k) (none p))
      (λ m at. elim at [
        | inl here ↦ here
        | inr (among, slot) ↦ record {
          thread = x.thread;
          class = c;
          few = few;
          real = real;
          among = subst (λ zs. Contains zs m) (same ∙ is) among;
          slot = slot;
        }
      ])

  known : IsKnown a.roots (all x.thread)
  known = all_known a.partitions a.roots before no_caches all (λ t q c m among. absurd (not_in_none m among)) n.caches x.thread

  class_here : (seen : Seen) (c : ℕ) (xs left : List Numbered) → mark_of x ≡ Some (mark_at x.line seen (Some Issue)) → c < 170 →
      FilledFirst a.roots x.line p c (all x.thread p c) xs →
      FrontIs seen xs left → SameLists next (with_list (all x.thread) p c left) → AreNumberedAfter a before x all next s p
  class_here seen c xs left marked real first front becomes =
      let mark = mark_at x.line seen (Some Issue) in
      let head : Numbered = record { slot = seen.slot; number = number_of seen.found.0 } in
      let Taken = λ (m : Numbered). Listed m ⊎ (Contains xs m × (m.slot ≡ s)) in
      let on = first_numbered c (all x.thread p c) xs real refl first in
      elim (same_slot_cases seen.slot s) [
        | inl here ↦
            let (is, away) = on.listed head (inr (subst (λ zs. Contains zs head) (sym front) (first_in head left), here)) in
            let issued : StepsOn x s mark Issue = record { mark = marked; slot = here; steps = refl } in
            let word = step_word a before rest x s mark Issue n.filed n.parts issued in
            let used : busy (word_after (before ++ x ∷ []) s) ≡ 1 = ap busy word ∙
            issued_busy seen.found.0 (step_enabled a before rest x s mark Issue n.filed n.parts issued) in
            let one = once_after in
            subst (λ k. AreNumbered (Before ++ On) s k Next) (sym (step_number a before rest x s mark Issue n.filed n.parts issued))
            (steps (Before ++ On) [] s number Taken Next on away
            (λ m at. absurd (nowhere (with_cache all x.thread next) s p a.threads m (omega arith) at)))
        | inr other ↦
            subst (λ k. AreNumbered (Before ++ On) s k Next) (sym (apart_number before x s (apart_slot x s mark marked other)))
            (fewer (Before ++ On) [] s number Taken Next on
            (λ m at. elim (stands_changed all s p a.threads x.thread p c left next m becomes at) [
              | inl old ↦ inl old
              | inr (same, among, slot) ↦ inr (subst (λ zs. Contains zs m) (sym front) (later_in head m left among), slot)
            ]))
      ]

  made_next : (seen : Seen) → mark_of x ≡ Some (mark_at x.line seen (Some Issue)) → MadeRow a.roots x seen (all x.thread) next →
      AreNumberedAfter a before x all next s p
  made_next seen marked (inl (q, c, xs, left, asks, first, front, becomes)) = elim (cases_eq q p) [
    | inl same ↦
        class_here seen c xs left marked (real_in x.rules.version c (asks.3.from, asks.3.real))
        (subst (λ z. FilledFirst a.roots x.line z c (all x.thread z c) xs) same first) front
        (subst (λ z. SameLists next (with_list (all x.thread) z c left)) same becomes)
    | inr other ↦
        let head : Numbered = record { slot = seen.slot; number = number_of seen.found.0 } in
        let keeps = first_keeps s a.roots x.line q c (all x.thread q c) xs (λ m. known q c m) first in
        let of : IsOfClass a.roots seen.slot q c = keeps.known head (subst (λ zs. Contains zs head) (sym front) (first_in head left)) in
        quiet
        (apart_slot x s (mark_at x.line seen (Some Issue)) marked
        (λ same. other (one_class a s q p c class n.filed (subst (λ z. IsOfClass a.roots z q c) same of) n.of).0))
        (λ k. ap (ways_of s k) (keeps.others p (λ e. other (sym e))))
        (λ m at. elim (stands_changed all s p a.threads x.thread q c left next m becomes at) [
          | inl old ↦ old
          | inr (same, among, slot) ↦ absurd (other same)
        ])
  ]
  made_next seen marked (inr (q, size, asked, len, asks, only, becomes)) =
      let (e, among, is) = entry_of_act a.roots x.line q (Map asked seen.slot len) only.0 in
      let other : seen.slot ≡ s →
      ⊥ = λ same. class_or_direct a s p q class n.filed n.of (e, asked, len, among, is ∙ ap (λ z. Map asked z len) same) in
      quiet (apart_slot x s (mark_at x.line seen (Some Issue)) marked other)
      (λ k. one_unnamed a x.line p q (Map asked seen.slot len) s k only
      (ways_in_none Out s k (record { slot = seen.slot; number = 0 } ∷ [])
      (λ m among' slot number'. other (ap (λ (z : Numbered). z.slot) (in_one (record { slot = seen.slot; number = 0 }) m among') ∙ slot))))
      (λ m at. stands_same all s p a.threads x.thread next m becomes at)

  full_next : mark_of x ≡ None → FullRow a.roots x (all x.thread) next → AreNumberedAfter a before x all next s p
  full_next marked (inl (q, c, asked, asks, empty, only, becomes)) =
      quiet (apart_look x s None marked) (λ k. one_unnamed a x.line p q (Full (Some c) asked) s k only refl)
      (λ m at. stands_same all s p a.threads x.thread next m becomes at)
  full_next marked (inr (q, size, asked, asks, only, becomes)) =
      quiet (apart_look x s None marked) (λ k. one_unnamed a x.line p q (Full None asked) s k only refl)
      (λ m at. stands_same all s p a.threads x.thread next m becomes at)

  -- ---- a step was made

  abbrev Pushed : Numbered → Numbered → Type 0
  Pushed slot m = Listed m ⊎ ((m ≡ slot) × (m.slot ≡ s))

  -- what was returned is pushed, at the number that the step left
  pushed : (seen : Seen) (step : Step) → mark_of x ≡ Some (mark_at x.line seen (Some step)) → is_issue (Some step) ≡ false →
      AreNumbered Before s later_number (Pushed (record { slot = seen.slot; number = number_of seen.found.0 + 1 })) ×
      (cached_times s all p a.threads + once s seen.slot ≤ 1)
  pushed seen step marked none =
      let mark = mark_at x.line seen (Some step) in
      let slot : Numbered = record { slot = seen.slot; number = number_of seen.found.0 + 1 } in
      let few' = once_before in
      elim (same_slot_cases seen.slot s) [
        | inl here ↦
            let on : StepsOn x s mark step = record { mark = marked; slot = here; steps = refl } in
            let found = step_found a before rest x s mark step n.filed n.parts on in
            let used = step_busy a before rest x s mark step n.filed n.parts on none in
            let one = once_few s seen.slot in (
              stepped_on mark step (Pushed slot) on none
                  (λ m at. elim at [
                    | inl old ↦ inl old
                    | inr (e, same) ↦ inr (ap (λ (z : Numbered). z.number) e ∙ ap (λ w. number_of w + 1) found)
                  ]),
              omega arith,
            )
        | inr other ↦
            let away = not_once s seen.slot (λ e. other (sym e)) in (
              subst (λ k. AreNumbered Before s k (Pushed slot)) (sym (apart_number before x s (apart_slot x s mark marked other)))
                  (fewer Before On s number Listed (Pushed slot) are
                  (λ m at. elim at [
                    | inl old ↦ old
                    | inr (e, same) ↦ absurd (other (sym (ap (λ (z : Numbered). z.slot) e) ∙ same))
                  ])),
              omega arith,
            )
      ]

  -- a slot's numbers hold after the record if its thread pushed a slot to a list, kept a part of that, and gave back the rest
  return_here : (slot : Numbered) (c : ℕ) → c < 170 → AreNumbered Before s later_number (Pushed slot) →
      cached_times s all p a.threads + once s slot.slot ≤ 1 →
      On ≡ gives (spilled c (slot ∷ all x.thread p c)) → SameLists next (with_list (all x.thread) p c (kept c (slot ∷ all x.thread p c))) →
      AreNumberedAfter a before x all next s p
  return_here slot c real on one acts becomes =
      let list = slot ∷ all x.thread p c in
      let times = kept_times s all x.thread p a.threads c slot next few real becomes in
      let stood : (m : Numbered) → Contains list m → m.slot ≡ s →
      Pushed slot m = λ m among same. elim (in_cases slot m (all x.thread p c) among) [
        | inl e ↦ inr (sym e, same)
        | inr old ↦ inl (record { thread = x.thread; class = c; few = few; real = real; among = old; slot = same })
      ] in
      given_back Before On s later_number (Pushed slot) Next on (λ m. Contains (spilled c list) m)
      (λ k none. ap (ways_of s k) acts ∙ gives_none s k (spilled c list) none)
      (λ m among same. stood m (spilled_in c list m among) same)
      (λ m at. elim (stands_changed all s p a.threads x.thread p c (kept c list) next m becomes at) [
        | inl old ↦ inl old
        | inr (e, among, same) ↦ stood m (kept_in c list m among) same
      ])
      (elim (cases_eq (stands s (spilled c list)) 0) [
        | inl none ↦ inl (λ m among same. unstood s (spilled c list) m none among same)
        | inr some ↦ inr (λ m at. nowhere (with_cache all x.thread next) s p a.threads m (omega arith) at)
      ])

  return_next : (seen : Seen) (step : Step) → mark_of x ≡ Some (mark_at x.line seen (Some step)) → is_issue (Some step) ≡ false →
      ReturnRow a.roots x (record { slot = seen.slot; number = number_of seen.found.0 + 1 }) (all x.thread) next →
      AreNumberedAfter a before x all next s p
  return_next seen step marked none (inl (q, c, of, only, becomes)) =
      let slot : Numbered = record { slot = seen.slot; number = number_of seen.found.0 + 1 } in
      elim (cases_eq q p) [
        | inl same ↦
            let (on, one) = pushed seen step marked none in
            return_here slot c (class_real a.pools a.roots seen.slot q c (n.filed.journals.journals q) of) on one
            (subst (λ z. acts_of a.roots x.line z ≡ gives (spilled c (slot ∷ all x.thread z c))) same only.0)
            (subst (λ z. SameLists next (with_list (all x.thread) z c (kept c (slot ∷ all x.thread z c)))) same becomes)
        | inr other ↦
            quiet
            (apart_slot x s (mark_at x.line seen (Some step)) marked
            (λ here. other (one_class a s q p c class n.filed (subst (λ z. IsOfClass a.roots z q c) here of) n.of).0))
            (λ k. ap (ways_of s k) (only.1 p (λ e. other (sym e))))
            (λ m at. elim (stands_changed all s p a.threads x.thread q c (kept c (slot ∷ all x.thread q c)) next m becomes at) [
              | inl old ↦ old
              | inr (same, among, is) ↦ absurd (other same)
            ])
      ]
  return_next seen step marked none (inr (q, asked, number', (e, asked', len, among, is), only, becomes)) =
      let slot : Numbered = record { slot = seen.slot; number = number' } in
      let other : seen.slot ≡ s →
      ⊥ = λ same. class_or_direct a s p q class n.filed n.of (e, asked', len, among, is ∙ ap (λ z. Map asked' z len) same) in
      quiet (apart_slot x s (mark_at x.line seen (Some step)) marked other)
      (λ k. one_unnamed a x.line p q (Unmap asked slot) s k only
      (ways_in_none Back s k (slot ∷ [])
      (λ m among' same other_number. other (ap (λ (z : Numbered). z.slot) (in_one slot m among') ∙ same))))
      (λ m at. stands_same all s p a.threads x.thread next m becomes at)

  done_next : (seen : Seen) (o : Option Step) → mark_of x ≡ Some (mark_at x.line seen o) → is_issue o ≡ false →
      DoneRow a.roots x o seen (all x.thread) next → AreNumberedAfter a before x all next s p
  done_next seen None marked none (acts, becomes) =
      quiet (apart_look x s (Some seen) marked) (λ k. ap (ways_of s k) (acts p))
      (λ m at. stands_same all s p a.threads x.thread next m becomes at)
  done_next seen (Some step) marked none (inl (returning, row)) = return_next seen step marked none row
  done_next seen (Some step) marked none (inr (other, acts, becomes)) =
      let mark = mark_at x.line seen (Some step) in
      let old : (m : Numbered) → Next m → Listed m = λ m at. stands_same all s p a.threads x.thread next m becomes at in
      elim (same_slot_cases seen.slot s) [
        | inl here ↦
            let on : StepsOn x s mark step = record { mark = marked; slot = here; steps = refl } in
            still Before On s later_number Listed Next (stepped_on mark step Listed on none (λ m at. inl at))
            (λ k. ap (ways_of s k) (acts p)) old
        | inr apart ↦ quiet (apart_slot x s mark marked apart) (λ k. ap (ways_of s k) (acts p)) old
      ]

  look_next : (o : Option Seen) → mark_of x ≡ look_at x.line o → NoActs a.roots x.line × SameLists next (all x.thread) →
      AreNumberedAfter a before x all next s p
  look_next o marked (acts, becomes) =
      quiet (apart_look x s o marked) (λ k. ap (ways_of s k) (acts p)) (λ m at. stands_same all s p a.threads x.thread next m becomes at)

  purged_next : (slots : ℕ) → mark_of x ≡ None → PurgedRow a.partitions a.roots x slots (all x.thread) next →
      AreNumberedAfter a before x all next s p
  purged_next slots marked (acts, counted, empty) =
      let few' = once_before in
      let times = emptied_times s all x.thread p a.threads next few empty in
      let back = λ (m : Numbered). (c : ℕ) × (c < 170) × Contains (all x.thread p c) m in
      subst (λ k. AreNumbered (Before ++ On) s k Next) (sym (apart_number before x s (apart_look x s None marked)))
      (given_back Before On s number Listed Next are back
      (λ k none. ap (ways_of s k) (acts p real_partition) ∙
      purge_none s k (all x.thread p) 0 170 (λ c m below among. none m (c, omega arith, among)))
      (λ m (c, real, among) slot. record { thread = x.thread; class = c; few = few; real = real; among = among; slot = slot })
      (λ m at. stands_emptied all s p a.threads x.thread next m empty at)
      (elim (cases_eq (listed_times s (all x.thread p) 0 170) 0) [
        | inl none ↦ inl (λ m (c, real, among) slot. unlisted (all x.thread) s p c m none real among slot)
        | inr some ↦ inr (λ m at. nowhere (with_cache all x.thread next) s p a.threads m (omega arith) at)
      ]))

  by_answer : (answer : Answer) → x.answer ≡ answer → CacheRow a.partitions a.roots x answer (all x.thread) next →
      AreNumberedAfter a before x all next s p
  by_answer (answers.Made seen usable) is row = made_next seen (ap (mark_of_answer x.line x.op) is) row
  by_answer (answers.Done seen) is row = done_next seen (step_of x.op) (ap (mark_of_answer x.line x.op) is) (no_issue x.op) row
  by_answer (answers.Value seen value) is row = look_next (Some seen) (ap (mark_of_answer x.line x.op) is) row
  by_answer (answers.Dangling seen value) is row = look_next (Some seen) (ap (mark_of_answer x.line x.op) is) row
  by_answer (answers.SecondFree seen) is row = look_next seen (ap (mark_of_answer x.line x.op) is) row
  by_answer (answers.NotOwner seen) is row = look_next (Some seen) (ap (mark_of_answer x.line x.op) is) row
  by_answer answers.StaleReset is row = look_next None (ap (mark_of_answer x.line x.op) is) row
  by_answer (answers.StaleUse seen) is row = look_next seen (ap (mark_of_answer x.line x.op) is) row
  by_answer answers.Nothing is row = look_next None (ap (mark_of_answer x.line x.op) is) row
  by_answer answers.Filled is row = look_next None (ap (mark_of_answer x.line x.op) is) row
  by_answer answers.NotRef is row = look_next None (ap (mark_of_answer x.line x.op) is) row
  by_answer (answers.Shared seen) is row = look_next (Some seen) (ap (mark_of_answer x.line x.op) is) row
  by_answer answers.OutOfRange is row = look_next None (ap (mark_of_answer x.line x.op) is) row
  by_answer answers.TooLarge is row = look_next None (ap (mark_of_answer x.line x.op) is) row
  by_answer (answers.Full entry) is row = full_next (ap (mark_of_answer x.line x.op) is) row
  by_answer (answers.Swapped entry) is row = look_next None (ap (mark_of_answer x.line x.op) is) row
  by_answer (answers.Purged slots) is row = purged_next slots (ap (mark_of_answer x.line x.op) is) row
  by_answer answers.Uncounted is row = look_next None (ap (mark_of_answer x.line x.op) is) row

  -- the slot's numbers hold after the record
  pub next_numbers : AreNumberedAfter a before x all next s p
  next_numbers = by_answer x.answer refl n.row
