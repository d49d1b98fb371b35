-- Journals, the pool and exchanges: what the moments enter, phase by phase, is what the lists have.
use Rattle.std.proofs.Common.{◌≡◌, ℕ, ◌<◌, ◌≤◌, eqb, Bool, true, List, [], ◌∷◌, map, Option, Some, None, refl, sym, ◌∙◌, ap, subst, arith, inl, inr}
use Rattle.std.specs.Prelude.{Contains, option_map, option_and_then}
use Rattle.std.specs.List.{cons_option, filter_map}
use Rattle.std.proofs.lemmas.Bool.{cases_Bool, cases_eq, eq-eqb, ne_eqb, eqb-true}
use Rattle.pa_region.specs.declared.view.Entry.{Entry}
use Rattle.pa_region.specs.declared.view.Entry.TheVariants.{Entered}
use Rattle.pa_region.specs.declared.view.Made.{Made}
use Rattle.pa_region.specs.Lists.{entry_in, entered_in}
use Rattle.pa_region.specs.Order.{Stamped}
use Rattle.pa_record.specs.declared.pool.PoolEntry.{PoolEntry}
use Rattle.pa_record.specs.declared.root.RootEntry.{RootEntry}
use Rattle.pa_record.specs.Numbers.{root_numbers, root_act_numbers, pool_numbers}
use Rattle.pa_record.proofs.OneEntry.{one_root}
use Rattle.pa_lists.proofs.Members.{of_some, not_some, find_is, find_some}
use Rattle.pa_lists.proofs.Elements.{same_cons}
use Rattle.pa_lists.proofs.Joined.{map_cases, map_in, pairs_map}
use Rattle.pa_lists.proofs.Tests.{both_true}
use Rattle.pa_rules.specs.declared.played.Played.{Played}
use Rattle.pa_rules.specs.Order.{StandInOrder}
use Rattle.pa_rules.specs.Roots.{Journals}
use Rattle.pa_timeline.specs.Timeline.{Part, Asking, Entering, Moment, part_enters, part_asks, journal_made, asked_lines}
use Rattle.pa_timeline.proofs.Kept.{kept_twice}
use Rattle.pa_logs.specs.Told.{ToldRecord, played_in}
use Rattle.pa_logs.specs.Listed.{first_of, line_of, IsListOf, IsJournalOf, IsPoolList}
use Rattle.pa_logs.proofs.Filters.{map_one}
use Rattle.pa_step_order.specs.Segments.{same_numbers, entry_with, entered_part, part_of}
use Rattle.pa_step_order.proofs.Named.{Named, AreNamed, named_in}
use Rattle.pa_step_order.proofs.Moments.{moment_of, moments_in, by_phases}
use Rattle.pa_step_order.proofs.Lists.{InPhase, stand_in_phases, phases_keep, kept_map, kept_flat, entered_flat, entered_has, kept_by, listed_or, elsewhere}

-- ---- numbers determine entries

numbers_same : (ms : List ℕ) → same_numbers ms ms ≡ true
numbers_same [] = refl
numbers_same (m ∷ ms) = rw (eq-eqb m m refl) (numbers_same ms)

same_are : (ms ns : List ℕ) → same_numbers ms ns ≡ true → ms ≡ ns
same_are [] [] e = refl
same_are [] (n ∷ ns) e = absurd cc
same_are (m ∷ ms) [] e = absurd cc
same_are (m ∷ ms) (n ∷ ns) e =
    let (head, tail) = both_true (eqb m n) (same_numbers ms ns) e in
    same_cons m n ms ns (eqb-true m n head) (same_are ms ns tail)

pub with_numbers : (numbers : List ℕ) (journal : List RootEntry) → Contains (map root_numbers journal) numbers →
    (e : RootEntry) × (entry_with numbers journal ≡ Some e) × (root_numbers e ≡ numbers)
with_numbers numbers journal among =
    let test : RootEntry → Bool = λ e. same_numbers (root_numbers e) numbers in
    let (f, there, is) = map_cases root_numbers journal numbers among in
    let (e, found) = find_some test journal f there (ap (λ ms. same_numbers ms numbers) is ∙ numbers_same numbers) in
    (e, found, same_are (root_numbers e) numbers (find_is test journal e found).1)

-- ---- one entry of a journal

abbrev pub enters : ℕ → Moment → Option RootEntry
enters p m = part_enters p m.x.line m.part

abbrev asks : Moment → Option ℕ
asks m = part_asks m.x.line m.part

entered_line : (p line : ℕ) (part : Part) (u : RootEntry) → part_enters p line part ≡ Some u → u.line ≡ line
entered_line p line (Entering q act) u is = elim (cases_Bool (eqb q p)) [
  | inl here ↦ let some : Some (record { line = line; act = act }) ≡ Some u = rw here at is in
      sym (ap (λ (z : RootEntry). z.line) (of_some (record { line = line; act = act }) u some))
  | inr other ↦ absurd (not_some u (rw other at is))
]
entered_line p line part u is = absurd (not_some u is)

asked_is : (line : ℕ) (part : Part) (u : ℕ) → part_asks line part ≡ Some u → u ≡ line
asked_is line Asking u is = sym (of_some line u is)
asked_is line part u is = absurd (not_some u is)

module _ (ts : List ToldRecord) (all : List Stamped) (ns : List Named) (are : AreNamed ts all ns) (roots : Journals) where
  abbrev entry_of : Named → Entry
  entry_of n = n.entry

  -- the list of keeper q is what the entries put into it
  pub list_named : (q : ℕ) (list : List Made) → list ≡ entered_in q (map (λ (m : Stamped). m.entry) all) →
      list ≡ entered_in q (map entry_of ns)
  list_named q list is = is ∙ ap (entered_in q) (sym are.entries)

  -- an entry is of its record's line
  pub line_is : (q : ℕ) (list : List Made) → IsListOf q list ts → (n : Named) (made : Made) → Contains ns n → n.entry ≡ Entered q made →
      line_of made ≡ n.x.played.line
  line_is q list is n made among same =
      let (record_in, inside) = named_in ts all ns are n among in
      is.lines n.x made record_in (entered_has q n.x.stretch made (subst (λ e. Contains n.x.stretch e) same inside))

  in_list : (q : ℕ) (list : List Made) → list ≡ entered_in q (map entry_of ns) → (n : Named) (made : Made) → Contains ns n →
      n.entry ≡ Entered q made → Contains list made
  in_list q list is n made among same =
      subst (λ ms. Contains ms made) (sym is)
      (entered_has q (map entry_of ns) made (subst (λ e. Contains (map entry_of ns) e) same (map_in entry_of ns n among)))

  -- ---- a journal

  module _ (p : ℕ) (list : List Made) (named_list : list ≡ entered_in p (map entry_of ns)) (is_list : IsListOf p list ts)
      (journal : IsJournalOf list (roots p))
      (small : p < 4) where
    entry_made : (n : Named) (made : Made) → Contains ns n → n.entry ≡ Entered p made →
        cons_option (option_map root_numbers (kept_by (enters p) n.x.played (entered_part roots p made.numbers))) [] ≡ made.numbers ∷ []
    entry_made n made among same =
        let there : Contains (map root_numbers (roots p)) made.numbers =
        subst (λ ms. Contains ms made.numbers) journal
        (map_in (λ (m : Made). m.numbers) list made (in_list p list named_list n made among same)) in
        let (e, found, numbers) = with_numbers made.numbers (roots p) there in
        let line : e.line ≡ n.x.played.line = ap first_of numbers ∙ line_is p list is_list n made among same in
        let again : root_numbers (record { line = n.x.played.line; act = e.act }) ≡ made.numbers =
        ap (λ l. l ∷ root_act_numbers e.act) (sym line) ∙ numbers in
        rw (ne_eqb p 4 (λ e. omega arith), ne_eqb p 5 (λ e. omega arith), found, eq-eqb p p refl) (ap (λ ms. ms ∷ []) again)

    piece : (n : Named) → Contains ns n →
        cons_option (option_map root_numbers (kept_by (enters p) n.x.played (part_of roots n.x.played.answer n.entry))) []
        ≡ map (λ (m : Made). m.numbers) (entry_in p n.entry)
    piece n among = elim (listed_or (enters p) roots n.x.played n.x.played.answer n.entry refl refl refl) [
      | inr (none, no_list) ↦ rw (none, no_list p) refl
      | inl (keeper, made, same) ↦
          let here : Entry → Type 0 =
          λ e. cons_option (option_map root_numbers (kept_by (enters p) n.x.played (part_of roots n.x.played.answer e))) []
          ≡ map (λ (m : Made). m.numbers) (entry_in p e) in
          subst here (sym same) (elim (cases_eq keeper p) [
            | inl own ↦ subst (λ q. here (Entered q made)) (sym own)
                (rw (eq-eqb p p refl) (entry_made n made among (same ∙ ap (λ q. Entered q made) own)))
            | inr other ↦
                let none = elsewhere (enters p) roots n.x.played keeper made.numbers (λ e. refl) (λ e. refl)
                (λ e is. rw (ne_eqb keeper p other) refl) in
                rw (none, ne_eqb keeper p other) refl
          ])
    ]

    pub kept_journal : filter_map (enters p) (moments_in roots ns) ≡ roots p
    kept_journal =
        let g : Named → Option RootEntry = λ n. option_and_then (enters p) (moment_of roots n) in
        map_one root_numbers (filter_map (enters p) (moments_in roots ns)) (roots p) one_root
        (ap (map root_numbers) (kept_twice (enters p) (moment_of roots) ns) ∙ kept_map root_numbers g ns
        ∙ kept_flat (λ n. option_map root_numbers (g n)) (λ (n : Named). map (λ (m : Made). m.numbers) (entry_in p n.entry)) ns piece
        ∙ sym (entered_flat (λ (m : Made). m.numbers) p ns) ∙ sym (ap (map (λ (m : Made). m.numbers)) named_list) ∙ journal)

  -- a journal past the four
  pub past_journal : (p : ℕ) → 4 ≤ p → roots p ≡ [] → filter_map (enters p) (moments_in roots ns) ≡ roots p
  past_journal p past empty = kept_twice (enters p) (moment_of roots) ns ∙ none_kept ns ∙ sym empty
    where
      no_entry : (keeper : ℕ) (numbers : List ℕ) (x : Played) → kept_by (enters p) x (entered_part roots keeper numbers) ≡ None
      no_entry keeper numbers x = elsewhere (enters p) roots x keeper numbers (λ e. refl) (λ e. refl) (λ e is. elim (cases_eq keeper p) [
        | inl here ↦
            let none : entry_with numbers (roots keeper) ≡ None = ap (λ q. entry_with numbers (roots q)) here ∙
            ap (entry_with numbers) empty in
            absurd (not_some e (sym none ∙ is))
        | inr other ↦ rw (ne_eqb keeper p other) refl
      ])

      nothing : (n : Named) → option_and_then (enters p) (moment_of roots n) ≡ None
      nothing n = elim (listed_or (enters p) roots n.x.played n.x.played.answer n.entry refl refl refl) [
        | inr (none, no_list) ↦ none
        | inl (keeper, made, same) ↦
            ap (λ e. kept_by (enters p) n.x.played (part_of roots n.x.played.answer e)) same ∙ no_entry keeper made.numbers n.x.played
      ]

      none_kept : (bs : List Named) → filter_map (λ n. option_and_then (enters p) (moment_of roots n)) bs ≡ []
      none_kept [] = refl
      none_kept (n ∷ bs) = rw (nothing n) (none_kept bs)

  -- phase by phase
  pub journals_made : (p : ℕ) → filter_map (enters p) (moments_in roots ns) ≡ roots p →
      StandInOrder (λ (e : RootEntry). e.line) (played_in ts) (roots p) →
      journal_made p (by_phases roots ns) ≡ roots p
  journals_made p kept order =
      phases_keep ts all ns are roots (enters p) (λ (e : RootEntry). e.line) (roots p) (λ m u is. entered_line p m.x.line m.part u is) kept
      (stand_in_phases (λ (e : RootEntry). e.line) (played_in ts) (roots p) order)

  -- ---- the pool

  module _ (list : List Made) (pools : List PoolEntry) (named_list : list ≡ entered_in 4 (map entry_of ns)) (is_list : IsListOf 4 list ts)
      (pool : IsPoolList list pools) where
    ask_piece : (n : Named) → Contains ns n →
        cons_option (kept_by asks n.x.played (part_of roots n.x.played.answer n.entry)) [] ≡ map line_of (entry_in 4 n.entry)
    ask_piece n among = elim (listed_or asks roots n.x.played n.x.played.answer n.entry refl refl refl) [
      | inr (none, no_list) ↦ rw (none, no_list 4) refl
      | inl (keeper, made, same) ↦
          let here : Entry → Type 0 =
          λ e. cons_option (kept_by asks n.x.played (part_of roots n.x.played.answer e)) [] ≡ map line_of (entry_in 4 e) in
          subst here (sym same) (elim (cases_eq keeper 4) [
            | inl own ↦ subst (λ q. here (Entered q made)) (sym own)
                (ap (λ l. l ∷ []) (sym (line_is 4 list is_list n made among (same ∙ ap (λ q. Entered q made) own))))
            | inr other ↦
                let none = elsewhere asks roots n.x.played keeper made.numbers (λ four. absurd (other four)) (λ e. refl) (λ e is. refl) in
                rw (none, ne_eqb keeper 4 other) refl
          ])
    ]

    lines_of_pool : map line_of list ≡ map (λ (e : PoolEntry). e.line) pools
    lines_of_pool = by_numbers list pools pool
      where
        by_numbers : (ms : List Made) (es : List PoolEntry) → map (λ (m : Made). m.numbers) ms ≡ map pool_numbers es →
            map line_of ms ≡ map (λ (e : PoolEntry). e.line) es
        by_numbers [] [] same = refl
        by_numbers [] (e ∷ es) same = absurd cc
        by_numbers (m ∷ ms) [] same = absurd cc
        by_numbers (m ∷ ms) (e ∷ es) same =
            let head : m.numbers ≡ pool_numbers e = cc in
            let tail : map (λ (n : Made). n.numbers) ms ≡ map pool_numbers es = cc in
            same_cons (line_of m) e.line (map line_of ms) (map (λ (f : PoolEntry). f.line) es) (ap first_of head) (by_numbers ms es tail)

    kept_pool : filter_map asks (moments_in roots ns) ≡ map (λ (e : PoolEntry). e.line) pools
    kept_pool =
        kept_twice asks (moment_of roots) ns
        ∙ kept_flat (λ n. option_and_then asks (moment_of roots n)) (λ (n : Named). map line_of (entry_in 4 n.entry)) ns ask_piece
        ∙ sym (entered_flat line_of 4 ns) ∙ sym (ap (map line_of) named_list) ∙ lines_of_pool

    pub pool_asked : StandInOrder (λ (e : PoolEntry). e.line) (played_in ts) pools →
        asked_lines (by_phases roots ns) ≡ map (λ (e : PoolEntry). e.line) pools
    pool_asked order =
        phases_keep ts all ns are roots asks (λ l. l) (map (λ (e : PoolEntry). e.line) pools)
        (λ m u is. asked_is m.x.line m.part u is) kept_pool
        (pairs_map (λ (e f : PoolEntry). InPhase (played_in ts) e.line f.line) (InPhase (played_in ts)) (λ (e : PoolEntry). e.line) pools
        (λ e f first second in_phase. in_phase)
        (stand_in_phases (λ (e : PoolEntry). e.line) (played_in ts) pools order))
