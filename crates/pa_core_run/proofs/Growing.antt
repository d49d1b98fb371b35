-- What goes on along the entries of a journal, from line to line: slots that were made stay made, and no super page comes by an
-- entry of the pool that was named before.
use Rattle.std.proofs.Common.{◌≡◌, ℕ, ◌<◌, ◌≤◌, List, [], ◌∷◌, ◌++◌, Option, Some, None, refl, sym, ◌∙◌, ap, subst, arith, inl, inr, append_assoc, nat_lt}
use Rattle.std.specs.Prelude.{Contains}
use Rattle.std.proofs.lemmas.List.Elements.{filter-append}
use Rattle.pa_slot.specs.declared.title.Title.{Title}
use Rattle.pa_record.specs.declared.taken.SuperPage.{SuperPage}
use Rattle.pa_record.specs.declared.pool.PoolEntry.{PoolEntry}
use Rattle.pa_record.specs.declared.root.RootEntry.{RootEntry}
use Rattle.pa_record.specs.Root.{Root, new_root, root_next, root_replayed, RootReplays, RiseFrom, IsJournal, asked_by, all_asked}
use Rattle.pa_record.specs.Sound.{IsMade, AsksFrom, least_after, least_after_all}
use Rattle.pa_record.proofs.Stepping.{next_is}
use Rattle.pa_record.proofs.Titles.{rise_parts}
use Rattle.pa_record.proofs.Lawful.{journal_leaves}
use Rattle.pa_legal.proofs.Naming.{IsGood, good_next}
use Rattle.pa_one_run.specs.Parts.{Parts, entry_line}
use Rattle.pa_one_run.specs.Before.{below, on, past, root_at}
use Rattle.pa_one_run.proofs.lines.Sorting.{in_below, below_all, below_on_past}
use Rattle.pa_one_run.proofs.Filed.{IsFiled}
use Rattle.pa_one_run.proofs.roots.Replays.{front_journal}
use Rattle.pa_core_run.proofs.FrontPool.{journal_before}
use Rattle.pa_record.proofs.Replaying.{replays_rest}
use Rattle.pa_heap_effects.proofs.Sharing.{rise_rest, root_parts}
use Rattle.pa_heap_effects.proofs.Unmapping.{least_rises}

-- ---- entries after entries

made_stays : (pools : List PoolEntry) (es : List RootEntry) (n : ℕ) (r : Root) (t : Title) → IsGood n r → RootReplays pools es r
    → RiseFrom n (all_asked es) → IsMade r t → IsMade (root_replayed pools es r) t
made_stays pools [] n r t good fits rise made = made
made_stays pools (e ∷ es) n r t good fits rise made =
    let (asks, rest) = rise_parts n (asked_by e.act) (all_asked es) rise in
    let next = next_is pools e.act n r good.sound good.settled good.born asks fits.0 in
    made_stays pools es (least_after n (asked_by e.act)) (root_next pools e.act r) t
    (good_next pools e.act n n r good asks fits.0) fits.1 rest (next.keeps t made)

-- the entries of the pool that may be named rise
least_parts : (n : ℕ) (xs ys : List RootEntry) → least_after_all n (xs ++ ys) ≡ least_after_all (least_after_all n xs) ys
least_parts n [] ys = refl
least_parts n (x ∷ xs) ys = least_parts (least_after n (asked_by x.act)) xs ys

-- the root has no super page by this entry of the pool, and may get none
abbrev pub HasNoSuper : ℕ → ℕ → Root → Type 0
HasNoSuper b n r = (b < n) × ((at : SuperPage) → Contains r.supers at → at.born ≡ b → ⊥)

least_up : (b n : ℕ) (o : Option ℕ) → AsksFrom n o → b < n → b < least_after n o
least_up b n None asks less = less
least_up b n (Some j) asks less = omega arith

no_super_stays : (pools : List PoolEntry) (es : List RootEntry) (b n : ℕ) (r : Root) → IsGood n r → RootReplays pools es r
    → RiseFrom n (all_asked es) → HasNoSuper b n r → (at : SuperPage) → Contains (root_replayed pools es r).supers at → at.born ≡ b → ⊥
no_super_stays pools [] b n r good fits rise none at member same = none.1 at member same
no_super_stays pools (e ∷ es) b n r good fits rise none at member same =
    let (asks, rest) = rise_parts n (asked_by e.act) (all_asked es) rise in
    let next = next_is pools e.act n r good.sound good.settled good.born asks fits.0 in
    let low = none.0 in
    no_super_stays pools es b (least_after n (asked_by e.act)) (root_next pools e.act r)
    (good_next pools e.act n n r good asks fits.0) fits.1 rest (
      least_up b n (asked_by e.act) asks low,
      λ at2 member2 same2. elim (next.supers at2 member2) [ inl old ↦ none.1 at2 old same2 | inr new ↦ omega arith ],
    ) at member same

module _ (pools : List PoolEntry) (front more : List RootEntry) (h : IsJournal pools (front ++ more))
    (h_front : IsJournal pools front) where
  good_front : IsGood (least_after_all 0 front) (root_replayed pools front new_root)
  good_front = let left = journal_leaves pools front h_front in record { sound = left.sound; settled = left.settled; born = left.born }

  grown : (t : Title) → IsMade (root_replayed pools front new_root) t → IsMade (root_replayed pools (front ++ more) new_root) t
  grown t made =
      subst (λ (r : Root). IsMade r t) (sym (root_parts pools front more new_root))
      (made_stays pools more (least_after_all 0 front) (root_replayed pools front new_root) t good_front
      (replays_rest pools front more new_root h.replays) (rise_rest 0 front more h.rise) made)

  no_super_grown : (b : ℕ) → HasNoSuper b (least_after_all 0 front) (root_replayed pools front new_root) → (at : SuperPage)
      → Contains (root_replayed pools (front ++ more) new_root).supers at → at.born ≡ b → ⊥
  no_super_grown b none at member same =
      no_super_stays pools more b (least_after_all 0 front) (root_replayed pools front new_root) good_front
      (replays_rest pools front more new_root h.replays) (rise_rest 0 front more h.rise) none at
      (subst (λ (r : Root). Contains r.supers at) (root_parts pools front more new_root) member) same

-- ---- from line to line

module _ (a : Parts) (h : IsFiled a) (p : ℕ) where
  later_parts : (m n : ℕ) → m ≤ n → (more : List RootEntry) × (journal_before a n p ≡ journal_before a m p ++ more)
  later_parts m n le =
      let xs = journal_before a m p in
      let ys = on entry_line m (a.roots p) in
      let zs = past entry_line m (a.roots p) in
      let split = below_on_past entry_line m (a.roots p) (h.order.journals p) in (
        below entry_line n ys ++ below entry_line n zs,
        ap (below entry_line n) split
            ∙ filter-append (λ (e : RootEntry). nat_lt (entry_line e) n) (xs ++ ys) zs
            ∙ ap (λ es. es ++ below entry_line n zs) (filter-append (λ (e : RootEntry). nat_lt (entry_line e) n) xs ys)
            ∙ append_assoc (below entry_line n xs) (below entry_line n ys) (below entry_line n zs)
            ∙ ap (λ es. es ++ (below entry_line n ys ++ below entry_line n zs))
            (below_all entry_line n xs (λ e among. let low = (in_below entry_line m (a.roots p) e among).1 in omega arith)),
      )

  whole_parts : (n : ℕ) → (more : List RootEntry) × (a.roots p ≡ journal_before a n p ++ more)
  whole_parts n = (
    on entry_line n (a.roots p) ++ past entry_line n (a.roots p),
    below_on_past entry_line n (a.roots p) (h.order.journals p) ∙
        append_assoc (journal_before a n p) (on entry_line n (a.roots p)) (past entry_line n (a.roots p)),
  )

  pub made_later : (m n : ℕ) (t : Title) → m ≤ n → IsMade (root_at a m p) t → IsMade (root_at a n p) t
  made_later m n t le made =
      let (more, parts) = later_parts m n le in
      let journal = subst (λ es. IsJournal a.pools es) parts (front_journal a n p h) in
      subst (λ es. IsMade (root_replayed a.pools es new_root) t) (sym parts)
      (grown a.pools (journal_before a m p) more journal (front_journal a m p h) t made)

  pub made_at_end : (n : ℕ) (t : Title) → IsMade (root_at a n p) t → IsMade (root_replayed a.pools (a.roots p) new_root) t
  made_at_end n t made =
      let (more, parts) = whole_parts n in
      let journal = subst (λ es. IsJournal a.pools es) parts (h.journals.journals p) in
      subst (λ es. IsMade (root_replayed a.pools es new_root) t) (sym parts)
      (grown a.pools (journal_before a n p) more journal (front_journal a n p h) t made)

  -- the least entry of the pool that may be named
  pub least_later : (m n : ℕ) → m ≤ n → least_after_all 0 (journal_before a m p) ≤ least_after_all 0 (journal_before a n p)
  least_later m n le =
      let (more, parts) = later_parts m n le in
      let journal = subst (λ es. IsJournal a.pools es) parts (front_journal a n p h) in
      let up = least_rises (least_after_all 0 (journal_before a m p)) more (rise_rest 0 (journal_before a m p) more journal.rise) in
      let all = ap (least_after_all 0) parts ∙ least_parts 0 (journal_before a m p) more in
      omega arith

  -- a direct map that was there on a line has its entry of the pool alone
  pub no_super_later : (m n : ℕ) (t : Title) → m ≤ n → Contains (root_at a m p).maps t → (at : SuperPage) →
      Contains (root_at a n p).supers at → at.born ≡ t.born → ⊥
  no_super_later m n t le mapped at member same =
      let (more, parts) = later_parts m n le in
      let journal = subst (λ es. IsJournal a.pools es) parts (front_journal a n p h) in
      let left = journal_leaves a.pools (journal_before a m p) (front_journal a m p h) in
      no_super_grown a.pools (journal_before a m p) more journal (front_journal a m p h) t.born
      (left.born.maps t mapped, λ at2 member2 same2. left.sound.mixed t at2 mapped member2 (sym same2)) at
      (subst (λ es. Contains (root_replayed a.pools es new_root).supers at) parts member) same
