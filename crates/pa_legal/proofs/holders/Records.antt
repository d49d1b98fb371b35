-- What the caches say of a record: the slot that it made left the root from which it was asked for, and what takes a direct map back
-- is a step that returned it.
use Rattle.std.proofs.Common.{◌≡◌, ℕ, zero, suc, ◌+◌, ◌<◌, ◌⊎◌, false, List, [], ◌∷◌, take, drop, length, filter, Option, Some, None, refl, sym, ◌∙◌, ap, subst, inl, inr}
use Rattle.std.specs.Prelude.{Contains, ◌==◌}
use Rattle.std.proofs.lemmas.Bool.{cases_eq, eq-eqb, true≢false}
use Rattle.std.proofs.lemmas.List.Elements.{Contains-append_cases}
use Rattle.pa_slot.specs.declared.word.SlotName.{SlotName}
use Rattle.pa_slot.specs.declared.word.Step.{Step}
use Rattle.pa_slot.specs.declared.word.Step.TheVariants.{Issue}
use Rattle.pa_slot.specs.Count.{number_of}
use Rattle.pa_slot.specs.Run.{Mark, IsReturning}
use Rattle.pa_record.specs.declared.entry.Seen.{Seen}
use Rattle.pa_record.specs.declared.entry.Answer.{Answer}
use Rattle.pa_record.specs.declared.entry.Answer.TheVariants as answers
use Rattle.pa_record.specs.declared.numbered.Numbered.{Numbered}
use Rattle.pa_record.specs.declared.root.RootEntry.{RootEntry}
use Rattle.pa_record.specs.declared.root.RootAct.{RootAct}
use Rattle.pa_record.specs.declared.root.RootAct.TheVariants.{Fill, Map, Full, Give, Unmap, Purge}
use Rattle.pa_lists.proofs.Members.{not_in_none, first_in, in_cases, of_some, not_some}
use Rattle.pa_lists.proofs.Joined.{map_in, filter_in}
use Rattle.pa_rules.specs.declared.played.Played.{Played}
use Rattle.pa_rules.specs.Played.{mark_of, mark_of_answer, mark_at, look_at, step_of}
use Rattle.pa_rules.specs.Roots.{Journals}
use Rattle.pa_rules.specs.Caches.{Cache, acts_of, OnlyActs, IsOfClass, IsDirect, FilledFirst, MadeRow, FullRow, ReturnRow, DoneRow, PurgedRow, CacheRow, CachesTo, no_caches, AreCaches, batches, gives, purge_acts}
use Rattle.pa_rules.specs.Flow.{is_issue}
use Rattle.pa_rules.proofs.Flowing.{class_leaves, map_leaves, no_issue}
use Rattle.pa_rules.proofs.Known.{IsKnown, first_keeps, all_known}
use Rattle.pa_rules.proofs.FourPlaces.{HasLeft}
use Rattle.pa_legal.specs.Flows.{IsMadeFor, ReturnsMap}
use Rattle.pa_legal.proofs.flow.Cuts.{caches_cut}
use Rattle.pa_legal.proofs.flow.Rows.{line_entry}
use Rattle.pa_lists.proofs.Parts.{parts_at}

-- the row of a record, with what its thread's lists were
pub row_of : (partitions : ℕ) (roots : Journals) (ps : List Played) (x : Played) → AreCaches partitions roots ps → Contains ps x →
    (cache after : Cache) × IsKnown roots cache × CacheRow partitions roots x x.answer cache after
row_of partitions roots ps x (last, to) among =
    let (before, rest, parts) = parts_at ps x among in
    let (mid, front, (next, row, back)) =
    caches_cut partitions roots no_caches before (x ∷ rest) last
    (subst (λ zs. CachesTo partitions roots no_caches zs last) parts to) in
    (mid x.thread, next, all_known partitions roots before no_caches mid (λ t q c n none. absurd (not_in_none n none)) front x.thread, row)

-- ---- what was made left the root of the partition from which it was asked for

pub made_by_row : (roots : Journals) (x : Played) (seen : Seen) (cache after : Cache) → IsKnown roots cache →
    MadeRow roots x seen cache after → IsMadeFor roots x seen.slot
made_by_row roots x seen cache after known (inl (p, class, xs, rest, asks, filled, front, becomes)) =
    let head : Numbered = record { slot = seen.slot; number = number_of seen.found.0 } in
    let f = first_keeps seen.slot roots x.line p class (cache p class) xs (λ n. known p class n) filled in
    record {
      reg = asks.0;
      partition = p;
      size = asks.1;
      op = asks.2;
      from = inl (class, f.known head (subst (λ zs. Contains zs head) (sym front) (first_in head rest)));
    }
made_by_row roots x seen cache after known (inr (p, size, asked, len, asks, only, becomes)) =
    let (e, among, line, act) = line_entry roots x.line p (Map asked seen.slot len) only.0 in
    record { reg = asks.0; partition = p; size = size; op = asks.1; from = inr (asked, len, e, among, line, act) }

pub made_for : (partitions : ℕ) (roots : Journals) (ps : List Played) (x : Played) (seen : Seen) (usable : ℕ) →
    AreCaches partitions roots ps → Contains ps x → x.answer ≡ answers.Made seen usable → IsMadeFor roots x seen.slot
made_for partitions roots ps x seen usable caches among is =
    let (cache, after, known, row) = row_of partitions roots ps x caches among in
    made_by_row roots x seen cache after known (subst (λ a. CacheRow partitions roots x a cache after) is row)

pub made_left : (roots : Journals) (x : Played) (s : SlotName) → IsMadeFor roots x s → (p : ℕ) × HasLeft roots p s
made_left roots x s made = (made.partition, by_kind made.from)
  where
    by_kind : ((class : ℕ) × IsOfClass roots s made.partition class)
        ⊎ ((asked len : ℕ) × (e : RootEntry) × Contains (roots made.partition) e × (e.line ≡ x.line) × (e.act ≡ Map asked s len))
        → HasLeft roots made.partition s
    by_kind (inl (class, of)) = class_leaves roots s made.partition class of
    by_kind (inr (asked, len, e, among, line, act)) = map_leaves roots s made.partition (e, asked, len, among, act)

-- ---- a direct map that goes back

pub in_batches : (n : ℕ) (xs : List Numbered) (act : RootAct) → Contains (batches n xs) act → (ys : List Numbered) × (act ≡ Give ys)
in_batches zero xs act among = absurd (not_in_none act among)
in_batches (suc n) [] act among = absurd (not_in_none act among)
in_batches (suc n) (x ∷ xs) act among = elim (in_cases (Give (take 16 (x ∷ xs))) act (batches n (drop 16 (x ∷ xs))) among) [
  | inl e ↦ (take 16 (x ∷ xs), sym e)
  | inr rest ↦ in_batches n (drop 16 (x ∷ xs)) act rest
]

pub in_purge : (lists : ℕ → List Numbered) (class n : ℕ) (act : RootAct) → Contains (purge_acts lists class n) act →
    ((ys : List Numbered) × (act ≡ Give ys)) ⊎ (act ≡ Purge)
in_purge lists class zero act among = elim (in_cases Purge act [] among) [ inl e ↦ inr (sym e) | inr none ↦ absurd (not_in_none act none) ]
in_purge lists class (suc n) act among = elim (Contains-append_cases (gives (lists class)) (purge_acts lists (class + 1) n) act among) [
  | inl here ↦ inl (in_batches (length (lists class)) (lists class) act here)
  | inr rest ↦ in_purge lists (class + 1) n act rest
]

pub give_no_unmap : (asked : ℕ) (slot : Numbered) (ys : List Numbered) → ◌≡◌ {A = RootAct} (Unmap asked slot) (Give ys) → ⊥
give_no_unmap asked slot ys e = absurd cc

module _ (partitions : ℕ) (roots : Journals) (x : Played) (p asked : ℕ) (slot : Numbered)
    (among : Contains (acts_of roots x.line p) (Unmap asked slot)) where
  not_none : acts_of roots x.line p ≡ [] → ⊥
  not_none none = not_in_none (Unmap asked slot) (subst (λ zs. Contains zs (Unmap asked slot)) none among)

  not_one : (q : ℕ) (act : RootAct) → OnlyActs roots x.line q (act ∷ []) → act ≡ Unmap asked slot
  not_one q act only = elim (cases_eq p q) [
    | inl e ↦ elim (in_cases act (Unmap asked slot) []
        (subst (λ zs. Contains zs (Unmap asked slot)) (ap (acts_of roots x.line) e ∙ only.0) among)) [
          | inl same ↦ same
          | inr none ↦ absurd (not_in_none (Unmap asked slot) none)
        ]
    | inr other ↦ absurd (not_none (only.1 p other))
  ]

  by_filled : (q class : ℕ) (old xs : List Numbered) → FilledFirst roots x.line q class old xs → ⊥
  by_filled q class [] xs (asked', only) = let no' = not_one q (Fill class asked' xs) only in absurd cc
  by_filled q class (y ∷ ys) xs (same, none) = not_none (none p)

  by_made : (seen : Seen) (cache after : Cache) → MadeRow roots x seen cache after → ⊥
  by_made seen cache after (inl (q, class, xs, rest, asks, filled, front, becomes)) = by_filled q class (cache q class) xs filled
  by_made seen cache after (inr (q, size, asked', len, asks, only, becomes)) = let no' = not_one q (Map asked' seen.slot len) only in
      absurd cc

  by_full : (cache after : Cache) → FullRow roots x cache after → ⊥
  by_full cache after (inl (q, class, asked', asks, empty, only, becomes)) = let no' = not_one q (Full (Some class) asked') only in
      absurd cc
  by_full cache after (inr (q, size, asked', asks, only, becomes)) = let no' = not_one q (Full None asked') only in absurd cc

  by_return : (seen : Seen) (step : Step) (n : Numbered) (cache after : Cache) → x.answer ≡ answers.Done seen → step_of x.op ≡ Some step
      → IsReturning step seen.found.0 → n.slot ≡ seen.slot → ReturnRow roots x n cache after →
      ReturnsMap roots x slot.slot
  by_return seen step n cache after is steps returning named (inl (q, class, of, only, becomes)) = elim (cases_eq p q) [
    | inl e ↦
        let (ys, give) = in_batches _ _ (Unmap asked slot)
        (subst (λ zs. Contains zs (Unmap asked slot)) (ap (acts_of roots x.line) e ∙ only.0) among) in
        absurd (give_no_unmap asked slot ys give)
    | inr other ↦ absurd (not_none (only.1 p other))
  ]
  by_return seen step n cache after is steps returning named (inr (q, asked', number, direct, only, becomes)) =
      let one : ◌≡◌ {A = RootAct} (Unmap asked' (record { slot = n.slot; number = number })) (Unmap asked slot) =
      not_one q (Unmap asked' (record { slot = n.slot; number = number })) only in
      let same : ◌≡◌ {A = Numbered} (record { slot = n.slot; number = number }) slot = cc in
      let names : n.slot ≡ slot.slot = ap (λ (z : Numbered). z.slot) same in
      record {
        seen = seen;
        answer = is;
        slot = sym named ∙ names;
        step = step;
        steps = steps;
        returning = returning;
        partition = q;
        direct = subst (λ z. IsDirect roots z q) names direct;
      }

  by_done : (seen : Seen) (o : Option Step) (cache after : Cache) → x.answer ≡ answers.Done seen → step_of x.op ≡ o →
      DoneRow roots x o seen cache after → ReturnsMap roots x slot.slot
  by_done seen None cache after is steps (acts, becomes) = absurd (not_none (acts p))
  by_done seen (Some step) cache after is steps (inl (returning, row)) = by_return seen step _ cache after is steps returning refl row
  by_done seen (Some step) cache after is steps (inr (other, acts, becomes)) = absurd (not_none (acts p))

  by_purged : (slots : ℕ) (cache after : Cache) → p < partitions → PurgedRow partitions roots x slots cache after → ⊥
  by_purged slots cache after below (acts, counted, empty) =
      elim (in_purge (cache p) 0 170 (Unmap asked slot) (subst (λ zs. Contains zs (Unmap asked slot)) (acts p below) among)) [
        | inl (ys, give) ↦ give_no_unmap asked slot ys give
        | inr purge ↦ absurd cc
      ]

  pub returns_map : (answer : Answer) (cache after : Cache) → p < partitions → x.answer ≡ answer →
      CacheRow partitions roots x answer cache after → ReturnsMap roots x slot.slot
  returns_map (answers.Made seen usable) cache after below is row = absurd (by_made seen cache after row)
  returns_map (answers.Done seen) cache after below is row = by_done seen (step_of x.op) cache after is refl row
  returns_map (answers.Full entry) cache after below is row = absurd (by_full cache after row)
  returns_map (answers.Purged slots) cache after below is row = absurd (by_purged slots cache after below row)
  returns_map answer cache after below is row = absurd (not_none (row.0 p))

-- the act of an entry is one of its line's
pub act_in : (roots : Journals) (line p : ℕ) (e : RootEntry) (act : RootAct) → Contains (roots p) e → e.line ≡ line → e.act ≡ act →
    Contains (acts_of roots line p) act
act_in roots line p e act member here is =
    subst (λ a. Contains (acts_of roots line p) a) is
    (map_in (λ (f : RootEntry). f.act) (filter (λ (f : RootEntry). f.line == line) (roots p)) e
    (filter_in (λ (f : RootEntry). f.line == line) (roots p) e member (eq-eqb e.line line here)))

pub unmap_returns : (partitions : ℕ) (roots : Journals) (ps : List Played) (x : Played) (e : RootEntry) (p asked : ℕ) (slot : Numbered)
    → AreCaches partitions roots ps → p < partitions → Contains ps x → Contains (roots p) e →
    e.line ≡ x.line → e.act ≡ Unmap asked slot → ReturnsMap roots x slot.slot
unmap_returns partitions roots ps x e p asked slot caches below among member line is =
    let (cache, after, known, row) = row_of partitions roots ps x caches among in
    returns_map partitions roots x p asked slot (act_in roots x.line p e (Unmap asked slot) member line is) x.answer cache after below
    refl row

-- ---- only what was made is an issue

look_none : (line : ℕ) (o : Option Seen) (z : Mark) → look_at line o ≡ Some z → z.step ≡ Some Issue → ⊥
look_none line None z mark issue = not_some z mark
look_none line (Some seen) z mark issue = not_some Issue (ap (λ (y : Mark). y.step) (of_some (mark_at line seen None) z mark) ∙ issue)

-- the answer made the slot at the word
pub record Makes (x : Played) (z : Mark) : Type 0 where
  pub seen : Seen
  pub usable : ℕ
  pub answer : x.answer ≡ answers.Made seen usable
  pub slot : z.slot ≡ seen.slot
  pub found : z.found ≡ seen.found.0

module _ (x : Played) (z : Mark) (issue : z.step ≡ Some Issue) where
  done_none : (seen : Seen) (o : Option Step) → is_issue o ≡ false → Some (mark_at x.line seen o) ≡ Some z → ⊥
  done_none seen o none mark =
      let same : o ≡ Some Issue = ap (λ (y : Mark). y.step) (of_some (mark_at x.line seen o) z mark) ∙ issue in
      true≢false (sym (ap is_issue same) ∙ none)

  by_answer : (a : Answer) → x.answer ≡ a → mark_of_answer x.line x.op a ≡ Some z → Makes x z
  by_answer (answers.Made seen usable) is mark =
      let same = of_some (mark_at x.line seen (Some Issue)) z mark in
      record {
        seen = seen;
        usable = usable;
        answer = is;
        slot = ap (λ (y : Mark). y.slot) (sym same);
        found = ap (λ (y : Mark). y.found) (sym same);
      }
  by_answer (answers.Done seen) is mark = absurd (done_none seen (step_of x.op) (no_issue x.op) mark)
  by_answer (answers.Value seen value) is mark = absurd (look_none x.line (Some seen) z mark issue)
  by_answer (answers.Dangling seen value) is mark = absurd (look_none x.line (Some seen) z mark issue)
  by_answer (answers.SecondFree seen) is mark = absurd (look_none x.line seen z mark issue)
  by_answer (answers.NotOwner seen) is mark = absurd (look_none x.line (Some seen) z mark issue)
  by_answer answers.StaleReset is mark = absurd (look_none x.line None z mark issue)
  by_answer (answers.StaleUse seen) is mark = absurd (look_none x.line seen z mark issue)
  by_answer answers.Nothing is mark = absurd (look_none x.line None z mark issue)
  by_answer answers.Filled is mark = absurd (look_none x.line None z mark issue)
  by_answer answers.NotRef is mark = absurd (look_none x.line None z mark issue)
  by_answer (answers.Shared seen) is mark = absurd (look_none x.line (Some seen) z mark issue)
  by_answer answers.OutOfRange is mark = absurd (look_none x.line None z mark issue)
  by_answer answers.TooLarge is mark = absurd (look_none x.line None z mark issue)
  by_answer (answers.Full entry) is mark = absurd (look_none x.line None z mark issue)
  by_answer (answers.Swapped entry) is mark = absurd (look_none x.line None z mark issue)
  by_answer (answers.Purged slots) is mark = absurd (look_none x.line None z mark issue)
  by_answer answers.Uncounted is mark = absurd (look_none x.line None z mark issue)

  pub issue_makes : mark_of x ≡ Some z → Makes x z
  issue_makes mark = by_answer x.answer refl mark
