-- What is required of a run's numbers holds of each legal run.
use Rattle.std.proofs.Common.{◌≡◌, ℕ, ◌+◌, ◌<◌, ◌≤◌, ◌⊎◌, Bool, false, not, cond, List, [], ◌∷◌, ◌++◌, filter, Option, Some, None, refl, sym, ◌∙◌, ap, subst, arith, inl, inr, append_assoc}
use Rattle.std.specs.Prelude.{Contains, AllPairs, ◌==◌}
use Rattle.std.proofs.lemmas.Bool.{cases_Bool, cases_eq, eq-eqb, ne_eqb, true≢false}
use Rattle.std.proofs.lemmas.List.Elements.{filter-append}
use Rattle.std.proofs.lemmas.List.Sums.{sum_by-cons}
use Rattle.pa_slot.specs.declared.word.SlotName.{SlotName}
use Rattle.pa_slot.specs.Count.{number_of}
use Rattle.pa_slot.specs.Run.{Slots, same_slot}
use Rattle.pa_slot.proofs.Runs.{same_slot_yes}
use Rattle.pa_trace.specs.Rules.{rules_of}
use Rattle.pa_record.specs.declared.entry.Seen.{Seen}
use Rattle.pa_record.specs.declared.entry.Answer.TheVariants.{Done}
use Rattle.pa_record.specs.declared.pool.PoolEntry.{PoolEntry}
use Rattle.pa_record.specs.declared.root.RootEntry.{RootEntry}
use Rattle.pa_record.specs.declared.root.RootAct.{RootAct}
use Rattle.pa_record.specs.declared.root.RootAct.TheVariants.{Fill, Map, Full, Give, Unmap, Purge}
use Rattle.pa_record.specs.Root.{IsJournal}
use Rattle.pa_record.specs.Laws.{leaves_by, comes_by, times, times_left, times_back}
use Rattle.pa_lists.proofs.Members.{not_in_none, first_in}
use Rattle.pa_lists.proofs.Joined.{flat_in, filter_in}
use Rattle.pa_record.proofs.Leaving.{out_is_left}
use Rattle.pa_rules.specs.declared.played.Played.{Played}
use Rattle.pa_rules.specs.Played.{mark_at, marks_of}
use Rattle.pa_rules.specs.Roots.{Journals, AreRoots, IsPoolOf}
use Rattle.pa_rules.specs.Holders.{Holder, Way, Out, Back, Move, move_of, moves_by, is_move_of, moves_at, IsFirstHolder, IsOfSlot, made_by, MovesFit, HasHolders, AreHolders}
use Rattle.pa_rules.specs.Told.{records_of}
use Rattle.pa_rules.proofs.Numbering.{lines_rise, rising_differ}
use Rattle.pa_rules.proofs.Owned.{journal_front}
use Rattle.pa_rules.proofs.Recorded.{records_are_lines}
use Rattle.pa_rules.proofs.Running.{OtherRecord}
use Rattle.pa_legal.specs.Turns.{is_out, is_with}
use Rattle.pa_legal.specs.Numbers.{all_moves, is_of, moves_of, HasAt, at_after, IsNumbered, AreNumbered}
use Rattle.pa_legal.specs.Flows.{UnmapsNext, is_back, SlotsFlow}
use Rattle.pa_legal.specs.Known.{FindsInUse, LegalIsKnown}
use Rattle.pa_legal.proofs.flow.Flowing.{caches_flow}
use Rattle.pa_legal.proofs.holders.Alternating.{away_at, hit_after, miss_same}
use Rattle.pa_legal.proofs.holders.Held.{first_away, needed_way, made_way}
use Rattle.pa_legal.proofs.holders.Gone.{below, marked, gone_from}
use Rattle.pa_legal.proofs.Standing.{counted, had, acts_out, acts_back}
use Rattle.pa_lists.proofs.Indexed.{in_at}

-- ---- ways that fit

-- each move finds the slot in the root or away, as it needs it
abbrev WaysFit : Bool → List Move → Type 0
WaysFit away [] = Unit {0}
WaysFit away (m ∷ ms) = (away ≡ not (is_out m.way)) × WaysFit (is_out m.way) ms

moves_fit : (ps : List Played) (h : Holder) (away : Bool) (ms : List Move) → is_with h ≡ away → MovesFit ps h ms → WaysFit away ms
moves_fit ps h away [] is fit = tt
moves_fit ps h away (m ∷ ms) is (x, line, need, rest) =
    (sym is ∙ ap is_with need ∙ needed_way m.way x, moves_fit ps (made_by m.way x) (is_out m.way) ms (made_way m.way x) rest)

holders_fit : (ps : List Played) (s : SlotName) (k : ℕ) (ms : List Move) → HasHolders ps s k ms → WaysFit (away_at (Some 0) k) ms
holders_fit ps s k [] has = tt
holders_fit ps s k (m ∷ ms) (h, first, fit) = moves_fit ps h (away_at (Some 0) k) (m ∷ ms) (first_away h s k ps first) fit

-- ---- the moves of one entry

-- of the moves of a slot those at a number
at_number : (s : SlotName) (k : ℕ) (ms : List Move) →
    filter (is_move_of s k) ms ≡ filter (λ (m : Move). m.number == k) (filter (is_of s) ms)
at_number s k [] = refl
at_number s k (m ∷ ms) =
    let ih = at_number s k ms in
    elim (cases_Bool (same_slot m.slot s)) [
      | inl hit ↦ elim (cases_Bool (m.number == k)) [
        | inl here ↦ rw (hit, here) (ap (λ ns. m ∷ ns) ih)
        | inr other ↦ rw (hit, other) ih
      ]
      | inr miss ↦ rw miss ih
    ]

pub left_snoc : (s : SlotName) (es : List RootEntry) (e : RootEntry) →
    times_left s (es ++ e ∷ []) ≡ times_left s es + times s (leaves_by e.act)
left_snoc s [] e = omega arith
left_snoc s (f ∷ es) e = let ih = left_snoc s es e in omega arith

pub back_snoc : (s : SlotName) (es : List RootEntry) (e : RootEntry) →
    times_back s (es ++ e ∷ []) ≡ times_back s es + times s (comes_by e.act)
back_snoc s [] e = omega arith
back_snoc s (f ∷ es) e = let ih = back_snoc s es e in omega arith

-- an entry takes slots out or gives them back
pub act_way : (s : SlotName) (act : RootAct) → (times s (leaves_by act) ≡ 0) ⊎ (times s (comes_by act) ≡ 0)
act_way s (Fill class asked slots) = inr refl
act_way s (Map asked slot len) = inr refl
act_way s (Full class asked) = inr refl
act_way s (Give slots) = inl refl
act_way s (Unmap asked slot) = inl refl
act_way s Purge = inl refl

-- a move counts once
move_counted : (w : Way → Bool) (m : Move) (ms : List Move) → counted w (m ∷ ms) ≡ cond {A = ℕ} (w m.way) 1 0 + counted w ms
move_counted w m ms = sum_by-cons (λ (n : Move). cond {A = ℕ} (w n.way) 1 0) m ms

out_or_back : (w : Way) → cond {A = ℕ} (is_out w) 1 0 + cond {A = ℕ} (is_back w) 1 0 ≡ 1
out_or_back Out = refl
out_or_back Back = refl

-- how often a slot left and came back in a journal
abbrev IsEven : ℕ → ℕ → Type 0
IsEven left back = (left ≡ back + 1) ⊎ (left ≡ back)

journal_even : (pools : List PoolEntry) (es : List RootEntry) (s : SlotName) → IsJournal pools es →
    IsEven (times_left s es) (times_back s es)
journal_even pools es s j = elim (out_is_left pools es s j) [ inl (out, e) ↦ inl e | inr (in', e) ↦ inr e ]

out_at : (at : Option ℕ) (n : ℕ) → away_at at n ≡ false → at ≡ Some n
out_at None n is = absurd (true≢false is)
out_at (Some j) n is = elim (cases_eq j n) [
  | inl e ↦ ap Some e
  | inr ne ↦ absurd (true≢false (sym (ap not (ne_eqb j n ne)) ∙ is))
]

back_at : (at : Option ℕ) → had at ≡ 0 → at ≡ None
back_at None e = refl
back_at (Some j) e = absurd (omega arith)

had_few : (at : Option ℕ) → had at ≤ 1
had_few None = omega arith
had_few (Some n) = omega arith

module _ (pools : List PoolEntry) (journal : List RootEntry) (s : SlotName) (j : IsJournal pools journal) where
  front : (done rest : List RootEntry) → journal ≡ done ++ rest → IsJournal pools done
  front done rest parts = journal_front pools done rest (subst (λ z. IsJournal pools z) parts j)

  abbrev Fits : Option ℕ → List RootEntry → Type 0
  Fits at rest = (k : ℕ) → WaysFit (away_at at k) (filter (is_move_of s k) (all_moves rest))

  abbrev Even : Option ℕ → List RootEntry → Type 0
  Even at done = had at + times_left s done ≡ times_back s done + 1

  module _ (done es : List RootEntry) (e : RootEntry) (at : Option ℕ) (parts : journal ≡ done ++ e ∷ es)
      (even : had at + times_left s done ≡ times_back s done + 1)
      (fits : (k : ℕ) → WaysFit (away_at at k) (filter (is_move_of s k) (all_moves (e ∷ es)))) where
    outs : counted is_out (filter (is_of s) (moves_by e.line e.act)) ≡ times s (leaves_by e.act)
    outs = acts_out e.line s e.act

    backs : counted is_back (filter (is_of s) (moves_by e.line e.act)) ≡ times s (comes_by e.act)
    backs = acts_back e.line s e.act

    even_before : IsEven (times_left s done) (times_back s done)
    even_before = journal_even pools done s (front done (e ∷ es) parts)

    even_after : IsEven (times_left s (done ++ e ∷ [])) (times_back s (done ++ e ∷ []))
    even_after = journal_even pools (done ++ e ∷ []) s (front (done ++ e ∷ []) es (parts ∙ sym (append_assoc done (e ∷ []) es)))

    -- the moves at a number, by the entry's own
    at_here : (here : List Move) (k : ℕ) → filter (is_of s) (moves_by e.line e.act) ≡ here
        → WaysFit (away_at at k) (filter (λ (m : Move). m.number == k) here ++ filter (is_move_of s k) (all_moves es))
    at_here here k is =
        subst (λ zs. WaysFit (away_at at k) zs)
        (filter-append (is_move_of s k) (moves_by e.line e.act) (all_moves es)
        ∙ ap (λ zs. zs ++ filter (is_move_of s k) (all_moves es))
        (at_number s k (moves_by e.line e.act) ∙ ap (filter (λ (m : Move). m.number == k)) is))
        (fits k)

    -- it moves the slot once at most
    never_twice : (m n : Move) (more : List Move) → filter (is_of s) (moves_by e.line e.act) ≡ m ∷ n ∷ more → ⊥
    never_twice m n more is =
        let a : counted is_out (filter (is_of s) (moves_by e.line e.act)) ≡ counted is_out (m ∷ n ∷ more) = ap (counted is_out) is in
        let b : counted is_back (filter (is_of s) (moves_by e.line e.act)) ≡ counted is_back (m ∷ n ∷ more) = ap (counted is_back) is in
        let c = move_counted is_out m (n ∷ more) in
        let d = move_counted is_out n more in
        let f = move_counted is_back m (n ∷ more) in
        let g = move_counted is_back n more in
        let first = out_or_back m.way in
        let second = out_or_back n.way in
        let o = outs in
        let k = backs in
        let left = left_snoc s done e in
        let back = back_snoc s done e in
        elim (act_way s e.act) [
          | inl none ↦ elim even_before [
            | inl x ↦ elim even_after [ inl y ↦ omega arith | inr y ↦ omega arith ]
            | inr x ↦ elim even_after [ inl y ↦ omega arith | inr y ↦ omega arith ]
          ]
          | inr none ↦ elim even_before [
            | inl x ↦ elim even_after [ inl y ↦ omega arith | inr y ↦ omega arith ]
            | inr x ↦ elim even_after [ inl y ↦ omega arith | inr y ↦ omega arith ]
          ]
        ]

    module _ (m : Move) (is : filter (is_of s) (moves_by e.line e.act) ≡ m ∷ []) where
      one_fits : (away_at at m.number ≡ not (is_out m.way)) × WaysFit (is_out m.way) (filter (is_move_of s m.number) (all_moves es))
      one_fits = subst (λ zs. WaysFit (away_at at m.number) (zs ++ filter (is_move_of s m.number) (all_moves es))) here
          (at_here (m ∷ []) m.number is)
        where
          here : filter (λ (n : Move). n.number == m.number) (m ∷ []) ≡ m ∷ []
          here = rw (eq-eqb m.number m.number refl) refl

      has_at : (w : Way) → m.way ≡ w → HasAt at w m.number
      has_at Out way = out_at at m.number (one_fits.0 ∙ ap (λ v. not (is_out v)) way)
      has_at Back way =
          let a : counted is_back (filter (is_of s) (moves_by e.line e.act)) ≡ counted is_back (m ∷ []) = ap (counted is_back) is in
          let b : counted is_out (filter (is_of s) (moves_by e.line e.act)) ≡ counted is_out (m ∷ []) = ap (counted is_out) is in
          let c = move_counted is_back m [] in
          let d = move_counted is_out m [] in
          let f : cond {A = ℕ} (is_back m.way) 1 0 ≡ 1 = ap (λ v. cond {A = ℕ} (is_back v) 1 0) way in
          let g : cond {A = ℕ} (is_out m.way) 1 0 ≡ 0 = ap (λ v. cond {A = ℕ} (is_out v) 1 0) way in
          let o = outs in
          let k = backs in
          let left = left_snoc s done e in
          let back = back_snoc s done e in
          let few = had_few at in
          back_at at (elim even_after [ inl y ↦ omega arith | inr y ↦ omega arith ])

      even_next : had (at_after m.way m.number) + times_left s (done ++ e ∷ []) ≡ times_back s (done ++ e ∷ []) + 1
      even_next =
          let a : counted is_back (filter (is_of s) (moves_by e.line e.act)) ≡ counted is_back (m ∷ []) = ap (counted is_back) is in
          let b : counted is_out (filter (is_of s) (moves_by e.line e.act)) ≡ counted is_out (m ∷ []) = ap (counted is_out) is in
          let c = move_counted is_back m [] in
          let d = move_counted is_out m [] in
          let o = outs in
          let k = backs in
          let left = left_snoc s done e in
          let back = back_snoc s done e in
          let step = by_way m.way (has_at m.way refl) in
          omega arith
        where
          by_way : (w : Way) → HasAt at w m.number →
              had (at_after w m.number) + cond {A = ℕ} (is_out w) 1 0 ≡ had at + cond {A = ℕ} (is_back w) 1 0
          by_way Out has = let x : had at ≡ 1 = ap had has in omega arith
          by_way Back has = let x : had at ≡ 0 = ap had has in omega arith

      fits_next : (k : ℕ) → WaysFit (away_at (at_after m.way m.number) k) (filter (is_move_of s k) (all_moves es))
      fits_next k = elim (cases_eq m.number k) [
        | inl e' ↦
            subst (λ b. WaysFit b (filter (is_move_of s k) (all_moves es))) (sym (hit_after m.way m.number k e'))
            (subst (λ z. WaysFit (is_out m.way) (filter (is_move_of s z) (all_moves es))) e' one_fits.1)
        | inr ne ↦
            subst (λ b. WaysFit b (filter (is_move_of s k) (all_moves es))) (miss_same at m.way m.number k ne (has_at m.way refl))
            (subst (λ zs. WaysFit (away_at at k) (zs ++ filter (is_move_of s k) (all_moves es))) (none ne) (at_here (m ∷ []) k is))
      ]
        where
          none : (m.number ≡ k → ⊥) → filter (λ (n : Move). n.number == k) (m ∷ []) ≡ []
          none ne = rw (ne_eqb m.number k ne) refl

  -- it goes on as numbered from here
  abbrev GoesOn : List RootEntry → List RootEntry → Type 0
  GoesOn done rest = (next : Option ℕ) → had next + times_left s done ≡ times_back s done + 1
      → ((k : ℕ) → WaysFit (away_at next k) (filter (is_move_of s k) (all_moves rest))) → IsNumbered next (moves_of rest s)

  numbered_from : (done rest : List RootEntry) (at : Option ℕ) → journal ≡ done ++ rest →
      had at + times_left s done ≡ times_back s done + 1 →
      ((k : ℕ) → WaysFit (away_at at k) (filter (is_move_of s k) (all_moves rest))) → IsNumbered at (moves_of rest s)
  numbered_from done [] at parts even fits = tt
  numbered_from done (e ∷ es) at parts even fits =
      let parts' : journal ≡ (done ++ e ∷ []) ++ es = parts ∙ sym (append_assoc done (e ∷ []) es) in
      subst (λ zs. IsNumbered at zs) (sym (filter-append (is_of s) (moves_by e.line e.act) (all_moves es)))
      (by_here (λ next even' fits'. numbered_from (done ++ e ∷ []) es next parts' even' fits')
      (filter (is_of s) (moves_by e.line e.act)) refl)
    where
      by_here : GoesOn (done ++ e ∷ []) es → (here : List Move) → filter (is_of s) (moves_by e.line e.act) ≡ here →
          IsNumbered at (here ++ moves_of es s)
      by_here on [] is =
          let a : counted is_out (filter (is_of s) (moves_by e.line e.act)) ≡ 0 = ap (counted is_out) is in
          let b : counted is_back (filter (is_of s) (moves_by e.line e.act)) ≡ 0 = ap (counted is_back) is in
          let o = outs done es e at parts even fits in
          let k = backs done es e at parts even fits in
          let left = left_snoc s done e in
          let back = back_snoc s done e in
          on at (omega arith) (λ k. at_here done es e at parts even fits [] k is)
      by_here on (m ∷ []) is = (
        has_at done es e at parts even fits m is m.way refl,
        on (at_after m.way m.number) (even_next done es e at parts even fits m is) (fits_next done es e at parts even fits m is),
      )
      by_here on (m ∷ n ∷ more) is = absurd (never_twice done es e at parts even fits m n more is)

numbers_follow : (partitions : ℕ) (ps : List Played) (pools : List PoolEntry) (roots : Journals) → AreRoots partitions ps pools roots →
    AreHolders ps roots → AreNumbered roots
numbers_follow partitions ps pools roots r holders p s =
    numbered_from pools (roots p) s (r.journals p) [] (roots p) (Some 0) refl (omega arith)
    (λ k. holders_fit ps s k (moves_at (roots p) s k) (holders.moves p s k))

-- ---- direct maps that go back

done_is : (a b : Seen) → Done a ≡ Done b → a ≡ b
done_is a b e = cc

unmaps_follow : (supers partitions : ℕ) (ps : List Played) (pools : List PoolEntry) (roots : Journals)
    → AreRoots partitions ps pools roots → IsPoolOf supers ps pools roots → AllPairs OtherRecord ps → Slots (marks_of ps) →
    SlotsFlow partitions roots ps → AreHolders ps roots → ((x : Played) → Contains ps x → FindsInUse x) → (x : Played) → Contains ps x →
    UnmapsNext roots x
unmaps_follow supers partitions ps pools roots r h lines slots flows holders used x among seen p asked slot e answer member line is =
    let real = below supers partitions ps pools roots r h lines slots flows p e member in
    let back = flows.maps x e p asked slot real among member line is in
    let same : seen ≡ back.seen = done_is seen back.seen (sym answer ∙ back.answer) in
    let number : number_of seen.found.0 ≡ number_of back.seen.found.0 = ap (λ (z : Seen). number_of z.found.0) same in
    let (i, at) = in_at (roots p) e member in
    let mark = marked supers partitions ps pools roots r h lines slots flows used slot.slot x back among in
    let before = holders.gone_from_records p i asked (number_of back.seen.found.0) slot e x at is among
    (mark_at x.line back.seen (Some back.step), mark, back.slot, refl) in
    let move : Contains (moves_at (roots p) slot.slot slot.number) (move_of e.line Back slot) =
    filter_in (is_move_of slot.slot slot.number) (all_moves (roots p)) (move_of e.line Back slot)
    (flat_in (λ (f : RootEntry). moves_by f.line f.act) (roots p) e (move_of e.line Back slot) member
    (subst (λ a. Contains (moves_by e.line a) (move_of e.line Back slot)) (sym is) (first_in (move_of e.line Back slot) [])))
    (rw (same_slot_yes slot.slot slot.slot refl, eq-eqb slot.number slot.number refl) refl) in
    by_first (first_of (moves_at (roots p) slot.slot slot.number) (holders.moves p slot.slot slot.number) move)
    (λ z n there of. gone_from supers partitions ps pools roots r h lines slots flows used slot.slot x back among z n there of) number
    before
  where
    first_of : (ms : List Move) → HasHolders ps slot.slot slot.number ms → Contains ms (move_of e.line Back slot) → (holder : Holder) ×
        IsFirstHolder ps slot.slot slot.number holder
    first_of [] has there = absurd (not_in_none (move_of e.line Back slot) there)
    first_of (m ∷ ms) (holder, first, fit) there = (holder, first)

    by_first : ((holder : Holder) × IsFirstHolder ps slot.slot slot.number holder) → {f : ℕ}
        → ((z : Played) (n : ℕ) → Contains ps z → IsOfSlot z slot.slot n → n < f + 1) → number_of seen.found.0 ≡ f → f < slot.number →
        slot.number ≡ number_of seen.found.0 + 1
    by_first (holder, inl (none, root)) gone number before = absurd (omega arith)
    by_first (holder, inr (z, (there, m, step, mark, named, steps, returning, next), thread)) gone number before =
        let less = gone z (number_of m.found) there (m, mark, named, refl) in
        omega arith

pub legal_is_known : LegalIsKnown
legal_is_known t r legal used =
    let ps = records_of t r in
    let lines = rising_differ ps
    (lines_rise (rules_of t) t.lines ps (records_are_lines.lines (rules_of t) t.lines r.entries legal.lines)) in
    let flows = caches_flow t.partitions ps r.pools r.roots legal.roots.journals legal.caches in
    record {
      lines = legal.lines;
      cells = legal.cells;
      registers = legal.registers;
      slots = legal.slots;
      contents = legal.contents;
      pool = legal.pool;
      roots = legal.roots;
      flows = flows;
      seen = legal.seen;
      numbers = numbers_follow t.partitions ps r.pools r.roots legal.roots legal.holders;
      unmaps = unmaps_follow t.region t.partitions ps r.pools r.roots legal.roots legal.pool lines legal.slots flows legal.holders used;
      used = used;
    }
