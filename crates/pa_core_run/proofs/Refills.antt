-- An allocation that made a slot: from the thread's list, after a fill, or as a direct map.
use Rattle.std.proofs.Common.{◌≡◌, ℕ, ◌+◌, ◌*◌, ◌≤◌, List, [], ◌∷◌, ◌++◌, Option, refl, ◌∙◌, ap, subst, arith, inl, inr, ◌==◌, ◌&&◌}
use Rattle.std.proofs.lemmas.Bool.{cases_Bool, cases_eq, eq-eqb, ne_eqb}
use Rattle.std.proofs.lemmas.List.Elements.{All-contains}
use Rattle.pa_slot.specs.declared.word.SlotName.{SlotName}
use Rattle.pa_machine.specs.Events.{State}
use Rattle.pa_trace.specs.Limits.{IsOpWithin}
use Rattle.pa_trace.specs.declared.script.Op.TheVariants as ops
use Rattle.pa_rules.proofs.Versions.{real_in}
use Rattle.pa_record.specs.declared.entry.Seen.{Seen}
use Rattle.pa_record.specs.declared.entry.Answer.TheVariants as answers
use Rattle.pa_record.specs.declared.numbered.Numbered.{Numbered}
use Rattle.pa_record.specs.declared.root.RootAct.TheVariants.{Fill, Map}
use Rattle.pa_record.specs.Root.{names}
use Rattle.pa_rules.specs.declared.played.Played.{Played}
use Rattle.pa_rules.specs.declared.register.Register.TheVariants.{Empty, Own, Ref, Freed, Cleared}
use Rattle.pa_rules.specs.Registers.{Reg, Facts, Regs, Row, Becomes, AllocRow, RequestRow, with}
use Rattle.pa_rules.specs.Roots.{AsksForClass, AsksForMap}
use Rattle.pa_rules.specs.Caches.{Cache, CacheRow, SameLists, MadeRow, FilledFirst, FrontIs, OnlyActs, with_list}
use Rattle.pa_rules.specs.Flow.{listed_times}
use Rattle.pa_rules.proofs.Counted.{stands, times_cons, list_changed}
use Rattle.pa_slot_effects.specs.Shown.{over}
use Rattle.pa_slot_effects.specs.Turns.{HoldsNone}
use Rattle.pa_rules.specs.Told.{told_by}
use Rattle.pa_rules.specs.Once.{once}
use Rattle.pa_one_run.specs.Parts.{Parts, parts_of}
use Rattle.pa_one_run.specs.Before.{root_at, facts_of}
use Rattle.pa_one_run.proofs.Legality.{filed}
use Rattle.pa_one_run.proofs.Filed.{IsFiled}
use Rattle.pa_core_run.specs.Laws.{MadeRecordsArePlayed}
use Rattle.pa_core_run.specs.Ledger.{IsShown}
use Rattle.pa_core_run.specs.Standing.{Standing, ledger_of}
use Rattle.pa_core_run.specs.Fronts.{titles_in, IsFrontOf, CanBePlayed}
use Rattle.pa_core_run.proofs.Listing.{less_lists}
use Rattle.pa_core_run.proofs.NextFronts.{among, regs_left, row_here, cache_left, cache_row}
use Rattle.pa_core_run.proofs.Records.{Outcome}
use Rattle.pa_core_run.proofs.Quiet.{quiet_plays}
use Rattle.pa_core_run.proofs.Issued.{issue_plays}
use Rattle.pa_core_run.proofs.Refilled.{fill_brings}
use Rattle.pa_core_run.proofs.Mapped.{map_brings}

-- ---- the registers of an allocation that made a slot

request_made : (facts : Facts) (regs after : Regs) (reg size usable : ℕ) (seen : Seen) →
    RequestRow facts regs reg size (answers.Made seen usable) after → Becomes after (with regs reg (Own seen.slot))
request_made facts regs after reg size usable seen (inl (large, is, becomes)) = absurd cc
request_made facts regs after reg size usable seen (inr (inl (fits, other, is, becomes))) =
    let e : other ≡ seen = cc in subst (λ (z : Seen). Becomes after (with regs reg (Own z.slot))) e becomes
request_made facts regs after reg size usable seen (inr (inr (fits, entry, is, becomes))) = absurd cc

pub alloc_made : (r : Reg) (facts : Facts) (regs after : Regs) (reg size usable : ℕ) (seen : Seen)
    → AllocRow r facts regs reg size (answers.Made seen usable) after → HoldsNone r × Becomes after (with regs reg (Own seen.slot))
alloc_made Empty facts regs after reg size usable seen row = (tt, request_made facts regs after reg size usable seen row)
alloc_made Freed facts regs after reg size usable seen row = (tt, request_made facts regs after reg size usable seen row)
alloc_made Cleared facts regs after reg size usable seen row = (tt, request_made facts regs after reg size usable seen row)
alloc_made (Own y) facts regs after reg size usable seen row = absurd (let e = row.0 in cc)
alloc_made (Ref y) facts regs after reg size usable seen row = absurd (let e = row.0 in cc)

-- ---- lists that are changed twice

pub list_twice : (cache : Cache) (p class : ℕ) (xs ys : List Numbered) (q c : ℕ) →
    with_list cache p class ys q c ≡ with_list (with_list cache p class xs) p class ys q c
list_twice cache p class xs ys q c = elim (cases_Bool ((q == p) && (c == class))) [ inl here ↦ rw here refl | inr other ↦ rw other refl ]

module _ (a : Parts) (before rest : List Played) (x : Played) (h : IsFiled a) (parts : a.ps ≡ before ++ x ∷ rest) (st : Standing)
    (f : IsFrontOf a x.line before (x ∷ rest) st) (s : State)
    (shown : IsShown (titles_in a (root_at a x.line)) (a.threads + 1) (2097152 * a.supers) (ledger_of a.partitions st) s) where
  abbrev left : Cache
  left = cache_left a before rest x h parts st f

  -- what an allocation sets
  pub made_sets : (reg p size usable : ℕ) (seen : Seen) → x.op ≡ ops.Alloc reg p size → x.answer ≡ answers.Made seen usable →
      HoldsNone (st.regs x.thread reg) × Becomes (regs_left a before rest x h parts st f) (with (st.regs x.thread) reg (Own seen.slot))
  made_sets reg p size usable seen op answer =
      let row = subst (λ o. Row (facts_of a) o (st.regs x.thread) x.answer (regs_left a before rest x h parts st f)) op
      (row_here a before rest x h parts st f) in
      alloc_made (st.regs x.thread reg) (facts_of a) (st.regs x.thread) (regs_left a before rest x h parts st f) reg size usable seen
      (subst (λ z. AllocRow (st.regs x.thread reg) (facts_of a) (st.regs x.thread) reg size z (regs_left a before rest x h parts st f))
      answer row)

  pub op_within : (reg p size : ℕ) → x.op ≡ ops.Alloc reg p size → IsOpWithin a.partitions (ops.Alloc reg p size)
  op_within reg p size op =
      subst (λ o. IsOpWithin a.partitions o) op
      (All-contains (λ (y : Played). IsOpWithin a.partitions y.op) a.ps x h.within (among a before rest x h parts st f))

  fill_plays : (p class usable : ℕ) (seen : Seen) (asked : Option ℕ) (xs ys : List Numbered) → AsksForClass x p class
      → x.answer ≡ answers.Made seen usable → st.caches x.thread p class ≡ [] → OnlyActs a.roots x.line p (Fill class asked xs ∷ []) →
      FrontIs seen xs ys → SameLists left (with_list (st.caches x.thread) p class ys) → Outcome a before rest x h parts st f s shown
  fill_plays p class usable seen asked xs ys (reg, size, op, class_of) answer empty only front becomes =
      let within = op_within reg p size op in
      let (none, sets) = made_sets reg p size usable seen op answer in
      let list = with_list (st.caches x.thread) p class xs in
      let (mid, brought) = fill_brings a before rest x h parts st f s shown p class asked xs only
      (real_in x.rules.version class (class_of.from, class_of.real)) empty in
      let fall : (y : SlotName) →
      over a.partitions (λ q. listed_times y (left q) 0 170) + once y seen.slot ≤ over a.partitions
      (λ q. listed_times y (list q) 0 170) = λ y.
      (let one = times_cons y seen.slot (names ys) in
      let all = ap (stands y) (list_changed (st.caches x.thread) p class xs ∙ front) in
      less_lists a.partitions p class y list left ys (once y seen.slot)
      (real_in x.rules.version class (class_of.from, class_of.real)) within.1
      (λ q c. becomes q c ∙ list_twice (st.caches x.thread) p class xs ys q c) (omega arith)) in
      issue_plays a before rest x h parts st f s shown reg p size usable seen list mid op answer within.0 none sets fall brought

  -- by the thread's list
  by_list : (p class usable : ℕ) (seen : Seen) (list xs ys : List Numbered) → 1 ≤ a.partitions → AsksForClass x p class
      → x.answer ≡ answers.Made seen usable → st.caches x.thread p class ≡ list → FilledFirst a.roots x.line p class list xs →
      FrontIs seen xs ys → SameLists left (with_list (st.caches x.thread) p class ys) → Outcome a before rest x h parts st f s shown
  by_list p class usable seen [] xs ys some asks answer is (asked, only) front becomes =
      fill_plays p class usable seen asked xs ys asks answer is only front becomes
  by_list p class usable seen (z ∷ zs) xs ys some asks answer is (same, no_acts) front becomes =
      quiet_plays a before rest x h some parts no_acts s (record { st = st; front = f; shown = shown })

-- a list that is put back as it was
pub list_back : (cache : Cache) (p class : ℕ) (xs : List Numbered) (q c : ℕ) →
    cache q c ≡ with_list (with_list cache p class xs) p class (cache p class) q c
list_back cache p class xs q c = elim (cases_eq q p) [
  | inl e ↦ elim (cases_eq c class) [
    | inl d ↦ rw (eq-eqb q p e, eq-eqb c class d) (ap (λ i. cache i c) e ∙ ap (cache p) d)
    | inr ne ↦ rw (eq-eqb q p e, ne_eqb c class ne) refl
  ]
  | inr ne ↦ rw (ne_eqb q p ne) refl
]

module _ (a : Parts) (before rest : List Played) (x : Played) (h : IsFiled a) (parts : a.ps ≡ before ++ x ∷ rest) (st : Standing)
    (f : IsFrontOf a x.line before (x ∷ rest) st) (s : State)
    (shown : IsShown (titles_in a (root_at a x.line)) (a.threads + 1) (2097152 * a.supers) (ledger_of a.partitions st) s) where
  map_plays : (p size asked len usable : ℕ) (seen : Seen) → AsksForMap x p size → x.answer ≡ answers.Made seen usable →
      OnlyActs a.roots x.line p (Map asked seen.slot len ∷ []) →
      SameLists (left a before rest x h parts st f s shown) (st.caches x.thread) → Outcome a before rest x h parts st f s shown
  map_plays p size asked len usable seen (reg, op, direct) answer only same =
      let within = op_within a before rest x h parts st f s shown reg p size op in
      let (none, sets) = made_sets a before rest x h parts st f s shown reg p size usable seen op answer in
      let cache = st.caches x.thread in
      let xs : List Numbered = record { slot = seen.slot; number = 0 } ∷ cache p 0 in
      let list = with_list cache p 0 xs in
      let (mid, brought) = map_brings a before rest x h parts st f s shown p asked len seen.slot only in
      let fall : (y : SlotName) → over a.partitions (λ q. listed_times y (left a before rest x h parts st f s shown q) 0 170) + once y
      seen.slot ≤ over a.partitions (λ q. listed_times y (list q) 0 170) = λ y.
      (let one = times_cons y seen.slot (names (cache p 0)) in
      let all = ap (stands y) (list_changed cache p 0 xs) in
      less_lists a.partitions p 0 y list (left a before rest x h parts st f s shown) (cache p 0) (once y seen.slot) (omega arith) within.1
      (λ q c. same q c ∙ list_back cache p 0 xs q c) (omega arith)) in
      issue_plays a before rest x h parts st f s shown reg p size usable seen list mid op answer within.0 none sets fall brought

pub made_record_plays : (a : Parts) (before rest : List Played) (x : Played) (seen : Seen) (usable : ℕ) → IsFiled a → 1 ≤ a.partitions
    → a.ps ≡ before ++ x ∷ rest → x.answer ≡ answers.Made seen usable → CanBePlayed a before x rest
made_record_plays a before rest x seen usable h some parts answer s shows =
    let st = shows.st in
    let f = shows.front in
    let row : MadeRow a.roots x seen (st.caches x.thread) (cache_left a before rest x h parts st f) =
    subst (λ z. CacheRow a.partitions a.roots x z (st.caches x.thread) (cache_left a before rest x h parts st f)) answer
    (cache_row a before rest x h parts st f) in
    elim row [
      | inl (q, c, xs, ys, asks, filled, front, becomes) ↦
          by_list a before rest x h parts st f s shows.shown q c usable seen
          (st.caches x.thread q c) xs ys some asks answer refl filled front becomes
      | inr (q, size, asked, len, asks, only, same) ↦
          map_plays a before rest x h parts st f s shows.shown q size asked len usable seen asks answer only same
    ]

pub made_records_play : MadeRecordsArePlayed
made_records_play t r limits filed_run before x rest seen usable parts answer =
    made_record_plays (parts_of t (told_by r)) before rest x seen usable (filed t (told_by r) limits filed_run)
    (limits.head.1.0) parts answer
