-- Titles that are there at once are in runs of super pages that are taken, so no two share a byte.
use Rattle.std.proofs.Common.{◌≡◌, ◌≢◌, ℕ, ◌+◌, ◌*◌, ◌≤◌, List, [], ◌∷◌, ◌++◌, refl, sym, ◌∙◌, ap, subst, arith, ◌⊎◌, inl, inr, Some}
use Rattle.std.specs.Prelude.{Contains, AllPairs, slice_get}
use Rattle.std.proofs.lemmas.Bool.{cases_lt}
use Rattle.pa_slot.specs.declared.title.Title.{Title}
use Rattle.pa_layout.specs.Pages.{page_place, supers_for}
use Rattle.pa_record.specs.declared.taken.Taken.{Taken}
use Rattle.pa_record.specs.declared.taken.SuperPage.{SuperPage}
use Rattle.pa_record.specs.declared.pool.PoolEntry.{PoolEntry}
use Rattle.pa_record.specs.declared.pool.PoolAct.TheVariants as pool
use Rattle.pa_record.specs.declared.root.RootEntry.{RootEntry}
use Rattle.pa_record.specs.Root.{Root, new_root, root_next, root_replayed, RootReplays, RiseFrom, IsJournal, asked_by, all_asked, map_title, IsTitleOut}
use Rattle.pa_record.specs.Sound.{IsSound, IsSettled, IsBornBelow, IsMade, TitlesApart, least_after, least_after_all}
use Rattle.pa_lists.proofs.Members.{not_in_none, of_some, in_cases}
use Rattle.pa_lists.proofs.Pairs.{pairs_head, pairs_tail}
use Rattle.pa_record.proofs.PoolSteps.{pool_is_sound, slice_get_more, act_of}
use Rattle.pa_record.proofs.Stepping.{next_is}
use Rattle.pa_record.proofs.Titles.{rise_parts, made_apart, made_born, least_more}
use Rattle.pa_record.proofs.Owned.{roots_are_taken}
use Rattle.pa_record.proofs.Lawful.{journal_leaves}
use Rattle.pa_record.proofs.Asked.{titles_are_asked}
use Rattle.pa_rules.specs.Roots.{Journals}
use Rattle.pa_heap_effects.specs.Deeds.{root_at}
use Rattle.pa_heap_effects.specs.Pooled.{pool_at}
use Rattle.pa_heap_effects.specs.Shared.{SharePool, IsThere, AreOneOrApart, TitlesShareNoByte}
use Rattle.pa_heap_effects.proofs.Runs.{WasGiven, run_of, one_first, taken_or_given}
use Rattle.pa_heap_effects.proofs.Unmapping.{owner_is, unmap_of, live, map_run, of_placed}
use Rattle.pa_lists.proofs.Indexed.{slice_get_at}
use Rattle.pa_record.proofs.Replaying.{replays_rest}

-- ---- the super pages of a root, entry by entry

pub root_parts : (pools : List PoolEntry) (xs ys : List RootEntry) (r : Root) →
    root_replayed pools (xs ++ ys) r ≡ root_replayed pools ys (root_replayed pools xs r)
root_parts pools [] ys r = refl
root_parts pools (x ∷ xs) ys r = root_parts pools xs ys (root_next pools x.act r)

pub rise_rest : (least : ℕ) (xs ys : List RootEntry) → RiseFrom least (all_asked (xs ++ ys)) →
    RiseFrom (least_after_all least xs) (all_asked ys)
rise_rest least [] ys h = h
rise_rest least (x ∷ xs) ys h =
    rise_rest (least_after least (asked_by x.act)) xs ys (rise_parts least (asked_by x.act) (all_asked (xs ++ ys)) h).1

-- a super page was there before some entries, or its entry of the pool came later
later_supers : (pools : List PoolEntry) (es : List RootEntry) (n : ℕ) (r : Root) (at : SuperPage) → IsSound r → IsSettled r →
    IsBornBelow n r → RootReplays pools es r →
    RiseFrom n (all_asked es) → Contains (root_replayed pools es r).supers at → Contains r.supers at ⊎ (n ≤ at.born)
later_supers pools [] n r at sound few old fits rise member = inl member
later_supers pools (e ∷ es) n r at sound few old fits rise member =
    let (asks, rest) = rise_parts n (asked_by e.act) (all_asked es) rise in
    let next = next_is pools e.act n r sound few old asks fits.0 in
    elim (later_supers pools es (least_after n (asked_by e.act))
    (root_next pools e.act r) at next.sound next.settled next.born fits.1 rest member) [
      | inl there ↦ next.supers at there
      | inr later ↦ let up = least_more n (asked_by e.act) asks in inr (omega arith)
    ]

-- ---- two titles of one root

sole_map : (ts : List Title) (t u : Title) → AllPairs (λ (x : Title) (y : Title). x.born ≢ y.born) ts → Contains ts t → Contains ts u →
    t.born ≡ u.born → t ≡ u
sole_map [] t u h among among' same = absurd (not_in_none t among)
sole_map (x ∷ ts) t u h among among' same = elim (in_cases x t ts among) [
  | inl here ↦ elim (in_cases x u ts among') [
    | inl here' ↦ sym here ∙ here'
    | inr later' ↦ absurd (pairs_head (λ (x : Title) (y : Title). x.born ≢ y.born) x u ts h later' (ap (λ (z : Title). z.born) here ∙ same))
  ]
  | inr later ↦ elim (in_cases x u ts among') [
    | inl here' ↦ absurd (pairs_head (λ (x : Title) (y : Title). x.born ≢ y.born) x t ts h later
        (ap (λ (z : Title). z.born) here' ∙ sym same))
    | inr later' ↦ sole_map ts t u (pairs_tail (λ (x : Title) (y : Title). x.born ≢ y.born) x ts h) later later' same
  ]
]

slot_or_map : (r : Root) (t u : Title) → IsSound r → IsMade r t → Contains r.maps u → t.born ≡ u.born → ⊥
slot_or_map r t u sound made mapped same =
    let (at, member, is) = made_born r t sound made in
    sound.mixed u at mapped member (sym same ∙ is)

one_root : (r : Root) (t u : Title) → IsSound r → IsThere r t → IsThere r u → t.born ≡ u.born → (t ≡ u) ⊎ TitlesApart t u
one_root r t u sound (inl made) (inl made') same = made_apart r t u sound made made' same
one_root r t u sound (inl made) (inr mapped) same = absurd (slot_or_map r t u sound made mapped same)
one_root r t u sound (inr mapped) (inl made) same = absurd (slot_or_map r u t sound made mapped (sym same))
one_root r t u sound (inr mapped) (inr mapped') same = inl (sole_map r.maps t u sound.alone mapped mapped' same)

map_end : (first len start : ℕ) → start ≡ page_place first 1 → start + len ≤ 2097152 * (first + supers_for len)
map_end first len start e = omega arith

module _ (supers : ℕ) (pools : List PoolEntry) (roots : Journals) (h : SharePool supers pools roots) where
  -- the title is in a run that is taken, by an entry of the pool of partition p
  record StandsIn (p : ℕ) (t : Title) (first count : ℕ) : Type 0 where
    taken : Contains (pool_at supers pools).taken (run_of t.born first count)
    from : 2097152 * first ≤ t.start
    to : t.start + t.len ≤ 2097152 * (first + count)
    entry : PoolEntry
    at : slice_get pools t.born ≡ Some entry
    own : entry.partition ≡ p

  -- the super page of a slot is never given: only direct maps go back
  never : (p : ℕ) (t : Title) (first : ℕ) (d : PoolEntry) → IsMade (root_at pools roots p) t → slice_get pools t.born ≡ Some d
      → d.partition ≡ p → (k : ℕ) (e : PoolEntry) (before after : List PoolEntry) →
      WasGiven supers pools (run_of t.born first 1) k e before after → ⊥
  never p t first d made at own k e before after w =
      let at_k : slice_get pools k ≡ Some e = ap (λ z. slice_get z k) w.when.parts ∙
      ap (λ i. slice_get (before ++ e ∷ after) i) (sym w.when.place) ∙ slice_get_at before after e in
      let (c, there, same_owner) = w.owner in
      let at_c : slice_get pools t.born ≡ Some c =
      subst (λ z. slice_get z t.born ≡ Some c) (sym w.when.parts) (slice_get_more before (e ∷ after) t.born c there) in
      let same : d ≡ c = of_some d c (sym at ∙ at_c) in
      let place : e.partition ≡ p = sym same_owner ∙ ap (λ (z : PoolEntry). z.partition) (sym same) ∙ own in
      let (slot, len, f, xs, ys, u) = unmap_of supers pools roots h k 1 first e at_k w.act in
      let run = live supers pools roots h (k + 1) k first e before after slot len f xs ys (omega arith) w.when u in
      let runs = one_first supers before (run_of slot.slot.born first (supers_for len))
      (run_of t.born first 1) w.when.fits run w.there refl in
      let born : slot.slot.born ≡ t.born = ap (λ (z : Taken). z.entry) runs in
      let (page, member, is) = made_born (root_at pools roots p) t (journal_leaves pools (roots p) (h.journals p)).sound made in
      let left = journal_leaves pools xs u.journal in
      let journal = subst (λ z. IsJournal pools z) u.parts (h.journals e.partition) in
      let whole = subst (λ z. Contains (root_replayed pools z new_root).supers page) u.parts
      (subst (λ q. Contains (root_at pools roots q).supers page) (sym place) member) in
      let parted = subst (λ (r : Root). Contains r.supers page) (root_parts pools xs (f ∷ ys) new_root) whole in
      elim (later_supers pools (f ∷ ys) (least_after_all 0 xs) (root_replayed pools xs new_root) page left.sound left.settled left.born
      (replays_rest pools xs (f ∷ ys) new_root journal.replays) (rise_rest 0 xs (f ∷ ys) journal.rise) parted) [
        | inl early ↦ left.sound.mixed (map_title slot.slot len) page u.mapped early (born ∙ is)
        | inr late ↦ let low = left.born.maps (map_title slot.slot len) u.mapped in omega arith
      ]

  slot_stands : (p : ℕ) (t : Title) → IsMade (root_at pools roots p) t → (first count : ℕ) × StandsIn p t first count
  slot_stands p t made =
      let journal = h.journals p in
      let left = journal_leaves pools (roots p) journal in
      let (first, found, low, high) =
      roots_are_taken.own pools (root_at pools roots p) t left.sound (roots_are_taken.journal pools (roots p) journal) made in
      let (i, f, there, asked) = titles_are_asked pools (roots p) t journal (inl made) in
      let (d, at, act) = act_of (slice_get pools t.born) (pool.Take 1 (Some first)) found in
      let own = owner_is supers pools roots h t.born p i d at (f, there, asked) in
      elim (taken_or_given supers pools t.born 1 first h.fits found) [
        | inl taken ↦ (first, 1, record { taken = taken; from = omega arith; to = omega arith; entry = d; at = at; own = own })
        | inr (k, e, before, after, w) ↦ absurd (never p t first d made at own k e before after w)
      ]

  stands : (p : ℕ) (t : Title) → IsThere (root_at pools roots p) t → (first count : ℕ) × StandsIn p t first count
  stands p t (inl made) = slot_stands p t made
  stands p t (inr mapped) =
      let (first, start, taken, owner) = map_run supers pools roots h p t mapped in
      let (d, at, own) = owner in (
        first,
        supers_for t.len,
        record { taken = taken; from = omega arith; to = map_end first t.len t.start start; entry = d; at = at; own = own },
      )

  -- two titles in one run are of one partition
  one_run : (p q : ℕ) (t u : Title) (first count first' count' : ℕ) → StandsIn p t first count → StandsIn q u first' count' →
      run_of t.born first count ≡ run_of u.born first' count' →
      IsThere (root_at pools roots p) t → IsThere (root_at pools roots q) u → AreOneOrApart p q t u
  one_run p q t u first count first' count' s s' runs a b =
      let born : t.born ≡ u.born = ap (λ (z : Taken). z.entry) runs in
      let entries : s.entry ≡ s'.entry = of_some s.entry s'.entry (sym s.at ∙ ap (slice_get pools) born ∙ s'.at) in
      let place : p ≡ q = sym s.own ∙ ap (λ (z : PoolEntry). z.partition) entries ∙ s'.own in
      let sound = (journal_leaves pools (roots p) (h.journals p)).sound in
      elim (one_root (root_at pools roots p) t u sound a (subst (λ z. IsThere (root_at pools roots z) u) (sym place) b) born) [
        | inl same ↦ inl (place, same)
        | inr apart ↦ inr apart
      ]

  pub apart_there : (p q : ℕ) (t u : Title) → IsThere (root_at pools roots p) t → IsThere (root_at pools roots q) u → AreOneOrApart p q t u
  apart_there p q t u a b =
      let (first, count, s) = stands p t a in
      let (first', count', s') = stands q u b in
      let sound = pool_is_sound.sound supers pools h.fits in
      let low = s.from in
      let high = s.to in
      let low' = s'.from in
      let high' = s'.to in
      let some = sound.some (run_of t.born first count) s.taken in
      let some' = sound.some (run_of u.born first' count') s'.taken in
      elim (cases_lt first' (first + count)) [
        | inr before ↦ inr (inl (omega arith))
        | inl over ↦ elim (cases_lt first (first' + count')) [
          | inr behind ↦ inr (inr (omega arith))
          | inl over' ↦ elim (cases_lt first first') [
            | inl less ↦
                let runs = sound.owned (run_of t.born first count) (run_of u.born first' count') first' s.taken s'.taken
                (omega arith, omega arith) (omega arith, omega arith) in
                one_run p q t u first count first' count' s s' runs a b
            | inr more ↦
                let runs = sound.owned (run_of t.born first count) (run_of u.born first' count') first s.taken s'.taken
                (omega arith, omega arith) (omega arith, omega arith) in
                one_run p q t u first count first' count' s s' runs a b
          ]
        ]
      ]

-- what is out is there
there_out : (r : Root) (t : Title) → IsSound r → IsTitleOut r t → IsThere r t
there_out r t sound (inl (s, among, n, out, is)) =
    let below = out.provisioned in
    let made = (sound.spans s among).counted.made in
    inl (s, among, n, omega arith, is)
there_out r t sound (inr mapped) = inr mapped

pub titles_share_no_byte : TitlesShareNoByte
titles_share_no_byte = record {
  there = λ supers p q pools roots t u h a b. apart_there supers pools roots h p q t u a b;
  out = λ supers p q pools roots t u h a b.
      apart_there supers pools roots h p q t u (there_out (root_at pools roots p) t (journal_leaves pools (roots p) (h.journals p)).sound a)
      (there_out (root_at pools roots q) u (journal_leaves pools (roots q) (h.journals q)).sound b);
  of_run = λ supers partitions ps pools roots r g. record {
    fits = g.fits;
    journals = r.journals;
    named = λ j e at. let (i, f, there, asked, line) = g.named j e at in (i, (f, there, asked));
    once = λ j p q i k e at names names'. g.once j p q i k e at names names';
  };
  so_far = of_placed;
}
