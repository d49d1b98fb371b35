-- The numbers at which a root hands slots out and takes them back, from its journal: a slot leaves it where it has it, and
-- comes back when it is out.
use Rattle.std.proofs.Common.{◌≡◌, ℕ, ◌+◌, ◌≤◌, Bool, true, cond, List, [], ◌∷◌, ◌++◌, filter, Option, Some, None, refl, sym, ◌∙◌, ap, subst, arith, inl, inr}
use Rattle.std.specs.Prelude.{Contains}
use Rattle.std.proofs.lemmas.List.{append-nil}
use Rattle.std.proofs.lemmas.List.Sums.{sum_by-cons}
use Rattle.pa_slot.specs.declared.word.SlotName.{SlotName}
use Rattle.pa_slot.proofs.Runs.{same_slot_eq}
use Rattle.pa_record.specs.declared.pool.PoolEntry.{PoolEntry}
use Rattle.pa_record.specs.declared.root.RootEntry.{RootEntry}
use Rattle.pa_record.specs.declared.root.RootAct.{RootAct}
use Rattle.pa_record.specs.Root.{new_root, root_next, root_replayed, IsJournal}
use Rattle.pa_record.specs.Sound.{least_after_all}
use Rattle.pa_record.specs.Laws.{leaves_by, times, times_left, times_back}
use Rattle.pa_lists.proofs.Members.{not_in_none, first_in, later_in, in_cases}
use Rattle.pa_lists.proofs.Joined.{filter_cases}
use Rattle.pa_record.proofs.Leaving.{out_is_left}
use Rattle.pa_record.proofs.Lawful.{journal_grows}
use Rattle.pa_rules.proofs.Counted.{times_cons}
use Rattle.pa_rules.proofs.Flowing.{not_once}
use Rattle.pa_rules.specs.Holders.{Way, Out, Back, Move, moves_by}
use Rattle.pa_legal.specs.Turns.{is_out}
use Rattle.pa_legal.specs.Numbers.{is_of, moves_of, HasAt, at_end, IsNumbered}
use Rattle.pa_legal.specs.Flows.{is_back}
use Rattle.pa_legal.proofs.Standing.{counted, had, walk, acts_out, acts_back, journal_out, journal_back, none_had}
use Rattle.pa_heap_effects.specs.Deeds.{entries_at, ActsFit}
use Rattle.pa_heap_effects.proofs.Growing.{least_push}
use Rattle.pa_legal.proofs.Growing.{moves_append, numbered_append, none_counted, at_end_append}
use Rattle.pa_legal.proofs.Converse.{left_snoc, back_snoc, act_way}

-- ---- one entry

-- at most one move, which the root's number allows
at_most_one : (at : Option ℕ) (ms : List Move) → counted is_out ms + counted is_back ms ≤ 1 →
    ((m : Move) → Contains ms m → HasAt at m.way m.number) → IsNumbered at ms
at_most_one at [] few has = tt
at_most_one at (m ∷ []) few has = (has m (first_in m []), tt)
at_most_one at (m ∷ n ∷ ms) few has =
    let a = sum_by-cons (λ (z : Move). cond {A = ℕ} (is_out z.way) 1 0) m (n ∷ ms) in
    let b = sum_by-cons (λ (z : Move). cond {A = ℕ} (is_back z.way) 1 0) m (n ∷ ms) in
    let c = sum_by-cons (λ (z : Move). cond {A = ℕ} (is_out z.way) 1 0) n ms in
    let d = sum_by-cons (λ (z : Move). cond {A = ℕ} (is_back z.way) 1 0) n ms in
    let e = either m.way in
    let f = either n.way in
    absurd (omega arith)
  where
    either : (w : Way) → cond {A = ℕ} (is_out w) 1 0 + cond {A = ℕ} (is_back w) 1 0 ≡ 1
    either Out = refl
    either Back = refl

-- a move of a list is counted by its way
move_counted : (w : Way → Bool) (m : Move) (ms : List Move) → Contains ms m → w m.way ≡ true → 1 ≤ counted w ms
move_counted w m [] among is = absurd (not_in_none m among)
move_counted w m (n ∷ ms) among is =
    let a = sum_by-cons (λ (z : Move). cond {A = ℕ} (w z.way) 1 0) n ms in
    elim (in_cases n m ms among) [
      | inl same ↦
          let hit : cond {A = ℕ} (w n.way) 1 0 ≡ 1 = ap (λ b. cond {A = ℕ} b 1 0) (ap (λ (z : Move). w z.way) same ∙ is) in
          omega arith
      | inr later ↦ let ih = move_counted w m ms later is in omega arith
    ]

-- the slot left a journal as often as it came back, or once more
pub left_or_back : (pools : List PoolEntry) (journal : List RootEntry) (s : SlotName) → IsJournal pools journal
    → (times_back s journal ≤ times_left s journal) × (times_left s journal ≤ times_back s journal + 1)
left_or_back pools journal s h = elim (out_is_left pools journal s h) [
  | inl (out, more) ↦ (omega arith, omega arith)
  | inr (in', same) ↦ (omega arith, omega arith)
]

-- if the root has the slot there is a number
had_some : (at : Option ℕ) → had at ≡ 1 → (k : ℕ) × (at ≡ Some k)
had_some None e = absurd (omega arith)
had_some (Some k) e = (k, refl)

-- what leaves is at the number at which the root has it
abbrev pub LeavesAt : List RootEntry → RootAct → SlotName → Type 0
LeavesAt journal act s =
    (m : Move) (line k : ℕ) → Contains (moves_by line act) m → m.way ≡ Out → m.slot ≡ s → at_end (Some 0) (moves_of journal s) ≡ Some k →
    m.number ≡ k

pub one_numbered : (pools : List PoolEntry) (journal : List RootEntry) (e : RootEntry) (s : SlotName) → IsJournal pools journal →
    IsJournal pools (journal ++ e ∷ []) →
    IsNumbered (Some 0) (moves_of journal s) → LeavesAt journal e.act s →
    IsNumbered (at_end (Some 0) (moves_of journal s)) (moves_of (e ∷ []) s)
one_numbered pools journal e s h h' numbered leaves =
    subst (λ ms. IsNumbered (at_end (Some 0) (moves_of journal s)) (filter (is_of s) ms)) (sym (append-nil (moves_by e.line e.act)))
    (at_most_one (at_end (Some 0) (moves_of journal s)) (filter (is_of s) (moves_by e.line e.act)) few each)
  where
    at : Option ℕ
    at = at_end (Some 0) (moves_of journal s)

    weighed : had (at_end (Some 0) (moves_of journal s)) + times_left s journal ≡ 1 + times_back s journal
    weighed =
        let w = walk (Some 0) (moves_of journal s) numbered in
        let a = journal_out s journal in
        let b = journal_back s journal in
        omega arith

    few : counted is_out (filter (is_of s) (moves_by e.line e.act)) + counted is_back (filter (is_of s) (moves_by e.line e.act)) ≤ 1
    few =
        let a = acts_out e.line s e.act in
        let b = acts_back e.line s e.act in
        let c = left_snoc s journal e in
        let d = back_snoc s journal e in
        let (low, high) = left_or_back pools journal s h in
        let (low', high') = left_or_back pools (journal ++ e ∷ []) s h' in
        elim (act_way s e.act) [ inl none ↦ omega arith | inr none ↦ omega arith ]

    each : (m : Move) → Contains (filter (is_of s) (moves_by e.line e.act)) m → HasAt (at_end (Some 0) (moves_of journal s)) m.way m.number
    each m among =
        let (member, is) = filter_cases (is_of s) (moves_by e.line e.act) m among in
        let slot : m.slot ≡ s = same_slot_eq m.slot s is in
        by_way m m.way refl among member slot
      where
        by_way : (m : Move) (w : Way) → m.way ≡ w → Contains (filter (is_of s) (moves_by e.line e.act)) m
            → Contains (moves_by e.line e.act) m → m.slot ≡ s → HasAt (at_end (Some 0) (moves_of journal s)) w m.number
        by_way m Out way among member slot =
            let some = move_counted is_out m (filter (is_of s) (moves_by e.line e.act)) among (ap is_out way) in
            let a = acts_out e.line s e.act in
            let b = left_snoc s journal e in
            let c = back_snoc s journal e in
            let (low, high) = left_or_back pools journal s h in
            let (low', high') = left_or_back pools (journal ++ e ∷ []) s h' in
            let w = weighed in
            let one : had (at_end (Some 0) (moves_of journal s)) ≡ 1 =
            elim (act_way s e.act) [ inl none ↦ omega arith | inr none ↦ omega arith ] in
            let (k, is) = had_some (at_end (Some 0) (moves_of journal s)) one in
            is ∙ ap Some (sym (leaves m e.line k member way slot is))
        by_way m Back way among member slot =
            let some = move_counted is_back m (filter (is_of s) (moves_by e.line e.act)) among (ap is_back way) in
            let a = acts_back e.line s e.act in
            let b = left_snoc s journal e in
            let c = back_snoc s journal e in
            let (low, high) = left_or_back pools journal s h in
            let (low', high') = left_or_back pools (journal ++ e ∷ []) s h' in
            let w = weighed in
            let none : had (at_end (Some 0) (moves_of journal s)) ≡ 0 =
            elim (act_way s e.act) [ inl none ↦ omega arith | inr none ↦ omega arith ] in
            none_had (at_end (Some 0) (moves_of journal s)) none

-- ---- a slot that never left

times_none : (s : SlotName) (ss : List SlotName) → (Contains ss s → ⊥) → times s ss ≡ 0
times_none s [] none = refl
times_none s (t ∷ ss) none =
    let c = times_cons s t ss in
    let here = not_once s t (λ e. none (subst (λ z. Contains (t ∷ ss) z) (sym e) (first_in t ss))) in
    let ih = times_none s ss (λ among. none (later_in t s ss among)) in
    omega arith

pub none_left : (s : SlotName) (es : List RootEntry) → ((e : RootEntry) → Contains es e → Contains (leaves_by e.act) s → ⊥) →
    times_left s es ≡ 0
none_left s [] none = refl
none_left s (e ∷ es) none =
    let here = times_none s (leaves_by e.act) (none e (first_in e es)) in
    let ih = none_left s es (λ f among. none f (later_in e f es among)) in
    omega arith

pub never_moved : (pools : List PoolEntry) (journal : List RootEntry) (s : SlotName) → IsJournal pools journal →
    ((e : RootEntry) → Contains journal e → Contains (leaves_by e.act) s → ⊥) →
    moves_of journal s ≡ []
never_moved pools journal s h none =
    let left = none_left s journal none in
    let (low, high) = left_or_back pools journal s h in
    let a = journal_out s journal in
    let b = journal_back s journal in
    none_counted (moves_of journal s) (omega arith) (omega arith)

-- ---- the acts of a line

-- nothing leaves by these acts
abbrev pub NothingLeaves : List RootAct → Type 0
NothingLeaves acts = (a : RootAct) (m : Move) (line : ℕ) → Contains acts a → Contains (moves_by line a) m → m.way ≡ Back

out_is_not_back : Out ≡ Back → ⊥
out_is_not_back e = cc

pub backs_numbered : (pools : List PoolEntry) (journal : List RootEntry) (n : ℕ) (acts : List RootAct) (s : SlotName) →
    IsJournal pools journal →
    ActsFit pools (least_after_all 0 journal) acts (root_replayed pools journal new_root) → IsNumbered (Some 0) (moves_of journal s) →
    NothingLeaves acts →
    IsNumbered (at_end (Some 0) (moves_of journal s)) (moves_of (entries_at n acts) s)
backs_numbered pools journal n [] s h fit numbered back = tt
backs_numbered pools journal n (a ∷ acts) s h (fits, asks, rest) numbered back =
    let e : RootEntry = record { line = n; act = a } in
    let one = journal_grows.fits pools journal e h fits asks in
    let next = journal_grows.next pools journal e in
    let here = one_numbered pools journal e s h one numbered
    (λ m line k member way. absurd (out_is_not_back (sym way ∙ back a m line (first_in a acts) member))) in
    let whole : IsNumbered (Some 0) (moves_of (journal ++ e ∷ []) s) =
    subst (λ ms. IsNumbered (Some 0) ms) (sym (moves_append journal (e ∷ []) s))
    (numbered_append (Some 0) (moves_of journal s) (moves_of (e ∷ []) s) numbered here) in
    let fit : ActsFit pools (least_after_all 0 (journal ++ e ∷ [])) acts (root_replayed pools (journal ++ e ∷ []) new_root) =
    subst (λ r. ActsFit pools (least_after_all 0 (journal ++ e ∷ [])) acts r) (sym next)
    (subst (λ z. ActsFit pools z acts (root_next pools a (root_replayed pools journal new_root))) (sym (least_push 0 journal e)) rest) in
    let ih = backs_numbered pools (journal ++ e ∷ []) n acts s one fit whole (λ b m line among. back b m line (later_in a b acts among)) in
    let there : at_end (Some 0) (moves_of (journal ++ e ∷ []) s) ≡ at_end (at_end (Some 0) (moves_of journal s)) (moves_of (e ∷ []) s) =
    ap (at_end (Some 0)) (moves_append journal (e ∷ []) s) ∙ at_end_append (Some 0) (moves_of journal s) (moves_of (e ∷ []) s) in
    subst (λ ms. IsNumbered (at_end (Some 0) (moves_of journal s)) ms) (sym (moves_append (e ∷ []) (entries_at n acts) s))
    (numbered_append (at_end (Some 0) (moves_of journal s)) (moves_of (e ∷ []) s) (moves_of (entries_at n acts) s) here
    (subst (λ o. IsNumbered o (moves_of (entries_at n acts) s)) there ih))
