-- The lists of the worked runs meet what is required of lists.
use Rattle.std.proofs.Common.{◌≡◌, ℕ, zero, suc, ◌<◌, ◌≤◌, eqb, List, [], ◌∷◌, filter, map, slice_get, Some, None, length, lit≤, lit<, refl, sym, ◌∙◌, ap, subst, arith, inl, inr}
use Rattle.std.specs.Prelude.{Contains, take, drop}
use Rattle.std.proofs.lemmas.Bool.{cases_Bool, cases_eq, ne_eqb}
use Rattle.pa_trace.specs.declared.script.Op.TheVariants as ops
use Rattle.pa_record.specs.declared.entry.Answer.TheVariants as answers
use Rattle.pa_record.specs.declared.history.CellEntry.{CellEntry}
use Rattle.pa_record.specs.declared.history.Held.TheVariants as held
use Rattle.pa_slot.specs.declared.title.Title.{Title}
use Rattle.pa_logs.proofs.Filters.{only_one}
use Rattle.pa_record.specs.Worked.{full, map_made, map_gone, pool_take, pool_give, purge_journal, purge_pool, direct_map_again_pool, direct_map_again_journal}
use Rattle.pa_lists.proofs.Members.{not_in_none, first_in, later_in}
use Rattle.pa_region.specs.declared.view.Made.{Made}
use Rattle.pa_region.specs.Lists.{entered_in}
use Rattle.pa_region.specs.Views.{seen_among}
use Rattle.pa_rules.specs.Cells.{IsChain, IsExchange}
use Rattle.pa_rules.specs.Roots.{journal_at}
use Rattle.pa_examples.specs.Worked.{two_threads_journal, two_threads_pool}
use Rattle.pa_examples.proofs.worked.Lists.{each}
use Rattle.pa_logs.specs.Told.{ToldRecord, told_until}
use Rattle.pa_logs.specs.Listed.{line_of, IsListOf, IsJournalOf, HasCuts}
use Rattle.pa_logs.specs.Swaps.{SwapMade, is_of_cell, AreSwaps, AreSwapped, AreAnswered}
use Rattle.pa_logs.specs.Viewed.{IsExchanged}
use Rattle.pa_logs.specs.Indices.{AreAsked}
use Rattle.pa_examples.specs.told.Threads.{the_take, the_fill, the_gift, the_taking, threads_told}
use Rattle.pa_examples.specs.told.Purge.{purge_told}
use Rattle.pa_examples.specs.told.Maps.{maps_told}
use Rattle.pa_examples.specs.told.Entered.{in_root, in_pool, lists_of, ListsFit, gift_made, taking_made, threads_swaps, threads_lists, threads_cells, TwoThreadsHaveLists, PurgeHasLists, DirectMapHasLists}
use Rattle.pa_examples.proofs.told.Entering.{below_four, below_six, is_list, rising, Cut, whole_cut, none_past, Asked, asked_none, asked_once}

-- the lists of the first thread's entries alone, after all records
purge_list : (q : ℕ) → q < 6 → IsListOf q (lists_of purge_journal purge_pool [] q) purge_told
purge_list q few = below_six (λ p. IsListOf p (lists_of purge_journal purge_pool [] p) purge_told)
    (is_list 0 (map in_root purge_journal) purge_told (λ k. elim (cases_Bool (eqb 0 k)) [ inl y ↦ rw y refl | inr n ↦ rw n refl ]) refl)
    (is_list 1 [] purge_told (λ k. elim (cases_Bool (eqb 0 k)) [ inl y ↦ rw y refl | inr n ↦ rw n refl ]) refl)
    (is_list 2 [] purge_told (λ k. elim (cases_Bool (eqb 0 k)) [ inl y ↦ rw y refl | inr n ↦ rw n refl ]) refl)
    (is_list 3 [] purge_told (λ k. elim (cases_Bool (eqb 0 k)) [ inl y ↦ rw y refl | inr n ↦ rw n refl ]) refl)
    (is_list 4 (map in_pool purge_pool) purge_told (λ k. elim (cases_Bool (eqb 0 k)) [ inl y ↦ rw y refl | inr n ↦ rw n refl ]) refl)
    (is_list 5 [] purge_told (λ k. elim (cases_Bool (eqb 0 k)) [ inl y ↦ rw y refl | inr n ↦ rw n refl ]) refl)
    q few

maps_list : (q : ℕ) → q < 6 → IsListOf q (lists_of direct_map_again_journal direct_map_again_pool [] q) maps_told
maps_list q few = below_six (λ p. IsListOf p (lists_of direct_map_again_journal direct_map_again_pool [] p) maps_told)
    (is_list 0 (map in_root direct_map_again_journal) maps_told
    (λ k. elim (cases_Bool (eqb 0 k)) [ inl y ↦ rw y refl | inr n ↦ rw n refl ]) refl)
    (is_list 1 [] maps_told (λ k. elim (cases_Bool (eqb 0 k)) [ inl y ↦ rw y refl | inr n ↦ rw n refl ]) refl)
    (is_list 2 [] maps_told (λ k. elim (cases_Bool (eqb 0 k)) [ inl y ↦ rw y refl | inr n ↦ rw n refl ]) refl)
    (is_list 3 [] maps_told (λ k. elim (cases_Bool (eqb 0 k)) [ inl y ↦ rw y refl | inr n ↦ rw n refl ]) refl)
    (is_list 4 (map in_pool direct_map_again_pool) maps_told
    (λ k. elim (cases_Bool (eqb 0 k)) [ inl y ↦ rw y refl | inr n ↦ rw n refl ]) refl)
    (is_list 5 [] maps_told (λ k. elim (cases_Bool (eqb 0 k)) [ inl y ↦ rw y refl | inr n ↦ rw n refl ]) refl)
    q few

-- the lists of two threads' entries at the end of each phase
abbrev both_made : List Made
both_made = gift_made.made ∷ taking_made.made ∷ []

first_list : (q : ℕ) → q < 6 →
    IsListOf q (lists_of two_threads_journal two_threads_pool (gift_made.made ∷ []) q) (told_until 1 threads_told)
first_list q few = below_six
    (λ p. IsListOf p (lists_of two_threads_journal two_threads_pool (gift_made.made ∷ []) p) (told_until 1 threads_told))
    (is_list 0 (map in_root two_threads_journal) (told_until 1 threads_told)
    (λ k. elim (cases_Bool (eqb 0 k)) [ inl y ↦ rw y refl | inr n ↦ rw n refl ]) refl)
    (is_list 1 ([]) (told_until 1 threads_told) (λ k. elim (cases_Bool (eqb 0 k)) [ inl y ↦ rw y refl | inr n ↦ rw n refl ]) refl)
    (is_list 2 ([]) (told_until 1 threads_told) (λ k. elim (cases_Bool (eqb 0 k)) [ inl y ↦ rw y refl | inr n ↦ rw n refl ]) refl)
    (is_list 3 ([]) (told_until 1 threads_told) (λ k. elim (cases_Bool (eqb 0 k)) [ inl y ↦ rw y refl | inr n ↦ rw n refl ]) refl)
    (is_list 4 (map in_pool two_threads_pool) (told_until 1 threads_told)
    (λ k. elim (cases_Bool (eqb 0 k)) [ inl y ↦ rw y refl | inr n ↦ rw n refl ]) refl)
    (is_list 5 (gift_made.made ∷ []) (told_until 1 threads_told)
    (λ k. elim (cases_Bool (eqb 0 k)) [ inl y ↦ rw y refl | inr n ↦ rw n refl ]) refl)
    q few

second_list : (q : ℕ) → q < 6 → IsListOf q (lists_of two_threads_journal two_threads_pool (both_made) q) (told_until 2 threads_told)
second_list q few = below_six (λ p. IsListOf p (lists_of two_threads_journal two_threads_pool (both_made) p) (told_until 2 threads_told))
    (is_list 0 (map in_root two_threads_journal) (told_until 2 threads_told)
    (λ k. elim (cases_Bool (eqb 0 k)) [
      | inl y ↦ elim (cases_Bool (eqb 1 k)) [ inl z ↦ rw (y, z) refl | inr m ↦ rw (y, m) refl ]
      | inr n ↦ elim (cases_Bool (eqb 1 k)) [ inl z ↦ rw (n, z) refl | inr m ↦ rw (n, m) refl ]
    ]) refl)
    (is_list 1 ([]) (told_until 2 threads_told) (λ k. elim (cases_Bool (eqb 0 k)) [
      | inl y ↦ elim (cases_Bool (eqb 1 k)) [ inl z ↦ rw (y, z) refl | inr m ↦ rw (y, m) refl ]
      | inr n ↦ elim (cases_Bool (eqb 1 k)) [ inl z ↦ rw (n, z) refl | inr m ↦ rw (n, m) refl ]
    ]) refl)
    (is_list 2 ([]) (told_until 2 threads_told) (λ k. elim (cases_Bool (eqb 0 k)) [
      | inl y ↦ elim (cases_Bool (eqb 1 k)) [ inl z ↦ rw (y, z) refl | inr m ↦ rw (y, m) refl ]
      | inr n ↦ elim (cases_Bool (eqb 1 k)) [ inl z ↦ rw (n, z) refl | inr m ↦ rw (n, m) refl ]
    ]) refl)
    (is_list 3 ([]) (told_until 2 threads_told) (λ k. elim (cases_Bool (eqb 0 k)) [
      | inl y ↦ elim (cases_Bool (eqb 1 k)) [ inl z ↦ rw (y, z) refl | inr m ↦ rw (y, m) refl ]
      | inr n ↦ elim (cases_Bool (eqb 1 k)) [ inl z ↦ rw (n, z) refl | inr m ↦ rw (n, m) refl ]
    ]) refl)
    (is_list 4 (map in_pool two_threads_pool) (told_until 2 threads_told)
    (λ k. elim (cases_Bool (eqb 0 k)) [
      | inl y ↦ elim (cases_Bool (eqb 1 k)) [ inl z ↦ rw (y, z) refl | inr m ↦ rw (y, m) refl ]
      | inr n ↦ elim (cases_Bool (eqb 1 k)) [ inl z ↦ rw (n, z) refl | inr m ↦ rw (n, m) refl ]
    ]) refl)
    (is_list 5 (both_made) (told_until 2 threads_told) (λ k. elim (cases_Bool (eqb 0 k)) [
      | inl y ↦ elim (cases_Bool (eqb 1 k)) [ inl z ↦ rw (y, z) refl | inr m ↦ rw (y, m) refl ]
      | inr n ↦ elim (cases_Bool (eqb 1 k)) [ inl z ↦ rw (n, z) refl | inr m ↦ rw (n, m) refl ]
    ]) refl)
    q few

last_list : (q : ℕ) → q < 6 → IsListOf q (lists_of two_threads_journal two_threads_pool (both_made) q) (threads_told)
last_list q few = below_six (λ p. IsListOf p (lists_of two_threads_journal two_threads_pool (both_made) p) (threads_told))
    (is_list 0 (map in_root two_threads_journal) (threads_told)
    (λ k. elim (cases_Bool (eqb 0 k)) [
      | inl y ↦ elim (cases_Bool (eqb 1 k)) [ inl z ↦ rw (y, z) refl | inr m ↦ rw (y, m) refl ]
      | inr n ↦ elim (cases_Bool (eqb 1 k)) [ inl z ↦ rw (n, z) refl | inr m ↦ rw (n, m) refl ]
    ]) refl)
    (is_list 1 ([]) (threads_told) (λ k. elim (cases_Bool (eqb 0 k)) [
      | inl y ↦ elim (cases_Bool (eqb 1 k)) [ inl z ↦ rw (y, z) refl | inr m ↦ rw (y, m) refl ]
      | inr n ↦ elim (cases_Bool (eqb 1 k)) [ inl z ↦ rw (n, z) refl | inr m ↦ rw (n, m) refl ]
    ]) refl)
    (is_list 2 ([]) (threads_told) (λ k. elim (cases_Bool (eqb 0 k)) [
      | inl y ↦ elim (cases_Bool (eqb 1 k)) [ inl z ↦ rw (y, z) refl | inr m ↦ rw (y, m) refl ]
      | inr n ↦ elim (cases_Bool (eqb 1 k)) [ inl z ↦ rw (n, z) refl | inr m ↦ rw (n, m) refl ]
    ]) refl)
    (is_list 3 ([]) (threads_told) (λ k. elim (cases_Bool (eqb 0 k)) [
      | inl y ↦ elim (cases_Bool (eqb 1 k)) [ inl z ↦ rw (y, z) refl | inr m ↦ rw (y, m) refl ]
      | inr n ↦ elim (cases_Bool (eqb 1 k)) [ inl z ↦ rw (n, z) refl | inr m ↦ rw (n, m) refl ]
    ]) refl)
    (is_list 4 (map in_pool two_threads_pool) (threads_told) (λ k. elim (cases_Bool (eqb 0 k)) [
      | inl y ↦ elim (cases_Bool (eqb 1 k)) [ inl z ↦ rw (y, z) refl | inr m ↦ rw (y, m) refl ]
      | inr n ↦ elim (cases_Bool (eqb 1 k)) [ inl z ↦ rw (n, z) refl | inr m ↦ rw (n, m) refl ]
    ]) refl)
    (is_list 5 (both_made) (threads_told) (λ k. elim (cases_Bool (eqb 0 k)) [
      | inl y ↦ elim (cases_Bool (eqb 1 k)) [ inl z ↦ rw (y, z) refl | inr m ↦ rw (y, m) refl ]
      | inr n ↦ elim (cases_Bool (eqb 1 k)) [ inl z ↦ rw (n, z) refl | inr m ↦ rw (n, m) refl ]
    ]) refl)
    q few

-- at the end of the first phase the second exchange was still to come
first_cut : (q : ℕ) → q < 6 → Cut q (threads_lists q) threads_told 1
first_cut q few = below_six (λ p. Cut p (threads_lists p) threads_told 1)
    (whole_cut 0 (threads_lists 0) threads_told 1 (first_list 0 (lit< tt)))
    (whole_cut 1 (threads_lists 1) threads_told 1 (first_list 1 (lit< tt)))
    (whole_cut 2 (threads_lists 2) threads_told 1 (first_list 2 (lit< tt)))
    (whole_cut 3 (threads_lists 3) threads_told 1 (first_list 3 (lit< tt)))
    (whole_cut 4 (threads_lists 4) threads_told 1 (first_list 4 (lit< tt)))
    (gift_made.made ∷ [], taking_made.made ∷ [], refl, first_list 5 (lit< tt))
    q few

threads_cuts : (q : ℕ) → q < 6 → HasCuts q (threads_lists q) threads_told
threads_cuts q few x among =
    let first = first_cut q few in
    let second = whole_cut q (threads_lists q) threads_told 2 (second_list q few) in
    let last = whole_cut q (threads_lists q) threads_told 3 (last_list q few) in
    each (λ (y : ToldRecord). Cut q (threads_lists q) threads_told y.played.phase) threads_told
    (first, (first, (first, (second, (second, (second, (last, (last, tt)))))))) x among

threads_asked : AreAsked (threads_lists 4) threads_told
threads_asked x among = each (Asked (threads_lists 4)) threads_told (
  asked_once (threads_lists 4) _ (the_fill ∷ []) (in_pool the_take) the_take the_fill 0 refl refl refl refl refl refl refl refl refl
      (record { older = []; rest = []; begins = refl; index_is = refl }),
  (
    asked_none (threads_lists 4) _ [] refl refl refl refl refl refl,
    (
      asked_none (threads_lists 4) _ [] refl refl refl refl refl refl,
      (
        asked_none (threads_lists 4) _ [] refl refl refl refl refl refl,
        (
          asked_none (threads_lists 4) _ [] refl refl refl refl refl refl,
          (
            asked_none (threads_lists 4) _ [] refl refl refl refl refl refl,
            (
              asked_none (threads_lists 4) _ [] refl refl refl refl refl refl,
              (asked_none (threads_lists 4) _ [] refl refl refl refl refl refl, tt),
            ),
          ),
        ),
      ),
    ),
  ),
) x among

threads_fit : ListsFit threads_lists two_threads_pool (journal_at (two_threads_journal ∷ [])) threads_told
threads_fit = record {
  lists_are = record {
    is = λ q few. last_list q (omega arith);
    rising = rising threads_told refl;
    journals = below_four (λ p. IsJournalOf (threads_lists p) (journal_at (two_threads_journal ∷ []) p)) refl refl refl refl;
    past = none_past two_threads_journal;
    pool = refl;
  };
  cuts = threads_cuts;
  asked = threads_asked;
}

-- no cell but the first has an exchange
pub no_history : (k : ℕ) → (0 ≡ k → ⊥) → threads_cells k ≡ []
no_history zero apart = absurd (apart refl)
no_history (suc k) apart = refl

pub swaps_are : AreSwaps (threads_lists 5) threads_cells threads_swaps
swaps_are = record {
  list_is = refl;
  lines = λ e among. each (λ (s : SwapMade). line_of s.made ≡ s.entry.line) threads_swaps (refl, (refl, tt)) e among;
  cells_are = λ k. elim (cases_eq 0 k) [
    | inl e ↦ subst (λ (n : ℕ). threads_cells n ≡ map (λ (s : SwapMade). s.entry) (filter (is_of_cell n) threads_swaps)) e refl
    | inr n ↦ rw (ne_eqb 0 k n) (no_history k n)
  ];
}

abbrev HasSwap : ToldRecord → Type 0
HasSwap x = IsExchanged x.played → (m : Made) × Contains (threads_lists 5) m × (line_of m ≡ x.played.line)

pub record GivesSwap (x : ToldRecord) : Type 0 where
  pub gives_it : (m : Made) (t : Title) → Contains (entered_in 5 x.stretch) m → x.gives t ≡ seen_among t m.seen

pub no_swap : (x : ToldRecord) → entered_in 5 x.stretch ≡ [] → GivesSwap x
no_swap x none = record { gives_it = λ m t there. absurd (not_in_none m (subst (λ ms. Contains ms m) none there)) }

pub one_swap : (x : ToldRecord) (n : Made) → entered_in 5 x.stretch ≡ n ∷ [] → ((t : Title) → x.gives t ≡ seen_among t n.seen) → GivesSwap x
one_swap x n one gives =
    record {
      gives_it = λ m t there. gives t ∙
          ap (λ (z : Made). seen_among t z.seen) (only_one n m (subst (λ ms. Contains ms m) one there));
    }

threads_swapped : AreSwapped (threads_lists 5) threads_cells threads_swaps threads_told
threads_swapped = record {
  is = last_list 5 (lit< tt);
  cuts = threads_cuts 5 (lit< tt);
  rising = rising threads_told refl;
  swaps_are = swaps_are;
  one_each = λ x among. each (λ (y : ToldRecord). length (entered_in 5 y.stretch) ≤ 1) threads_told
      (lit≤ tt, (lit≤ tt, (lit≤ tt, (lit≤ tt, (lit≤ tt, (lit≤ tt, (lit≤ tt, (lit≤ tt, tt)))))))) x among;
  has = λ x among is. each HasSwap threads_told (
    (λ h. let e = h.2 in absurd cc),
    (
      (λ h. let e = h.2 in absurd cc),
      (
        (λ h. (gift_made.made, first_in gift_made.made (taking_made.made ∷ []), refl)),
        (
          (λ h. let e = h.2 in absurd cc),
          (
            (λ h. (
              taking_made.made,
              later_in gift_made.made taking_made.made (taking_made.made ∷ []) (first_in taking_made.made []),
              refl,
            )),
            ((λ h. let e = h.2 in absurd cc), ((λ h. let e = h.2 in absurd cc), ((λ h. let e = h.2 in absurd cc), tt))),
          ),
        ),
      ),
    ),
  ) x among is;
  rises = ((λ t. omega arith, tt), (tt, tt));
  gives = λ x m t among there. (each GivesSwap threads_told (
    no_swap _ refl,
    (
      no_swap _ refl,
      (
        one_swap _ gift_made.made refl (λ u. refl),
        (
          no_swap _ refl,
          (
            one_swap _ taking_made.made refl (λ u. refl),
            (no_swap _ refl, (no_swap _ refl, (no_swap _ refl, tt))),
          ),
        ),
      ),
    ),
  ) x among).gives_it m t there;
}

-- the exchange of a record, and the place that it answers
abbrev Answers : ToldRecord → Type 0
Answers x =
    (k reg : ℕ) → x.played.op ≡ ops.Swap k reg →
    (j : ℕ) × (e : CellEntry) × (x.played.answer ≡ answers.Swapped j) × IsExchange threads_cells k j e × (e.line ≡ x.played.line)

abbrev IsSwapOf : SwapMade → Type 0
IsSwapOf s = (x : ToldRecord) × (reg : ℕ) × Contains threads_told x × (x.played.line ≡ s.entry.line) × (x.played.op ≡ ops.Swap s.cell reg)

pub cell_is : (k l reg other : ℕ) → ops.Swap k reg ≡ ops.Swap l other → k ≡ l
cell_is k l reg other e = cc

threads_answered : AreAnswered threads_cells threads_swaps threads_told
threads_answered = record {
  chain = λ k. elim (cases_eq 0 k) [
    | inl e ↦ subst (λ (n : ℕ). IsChain held.Nothing (threads_cells n)) e (refl, (refl, tt))
    | inr n ↦ subst (λ es. IsChain held.Nothing es) (sym (no_history k n)) tt
  ];
  made = λ s among. each IsSwapOf threads_swaps (
    (_, 1, (2, lit< tt, refl), refl, refl),
    ((_, 0, (4, lit< tt, refl), refl, refl), tt),
  ) s among;
  answers = λ x k reg among is. each Answers threads_told (
    (λ c r e. absurd cc),
    (
      (λ c r e. absurd cc),
      (
        (λ c r e. (0, the_gift, refl, subst (λ (n : ℕ). slice_get (threads_cells n) 0 ≡ Some the_gift) (cell_is 0 c 1 r e) refl, refl)),
        (
          (λ c r e. absurd cc),
          (
            (λ c r e. (
              1,
              the_taking,
              refl,
              subst (λ (n : ℕ). slice_get (threads_cells n) 1 ≡ Some the_taking) (cell_is 0 c 0 r e) refl,
              refl,
            )),
            ((λ c r e. absurd cc), ((λ c r e. absurd cc), ((λ c r e. absurd cc), tt))),
          ),
        ),
      ),
    ),
  ) x among k reg is;
}

pub two_threads_have_lists : TwoThreadsHaveLists
two_threads_have_lists = record { lists = threads_fit; swapped = threads_swapped; answered = threads_answered }

-- the runs of one thread, which are of one phase
pub purge_asked : AreAsked (map in_pool purge_pool) purge_told
purge_asked x among = each (Asked (map in_pool purge_pool)) purge_told (
  asked_once (map in_pool purge_pool) _ (the_fill ∷ []) (in_pool the_take) the_take the_fill 0 refl refl refl refl refl refl refl refl refl
      (record { older = []; rest = []; begins = refl; index_is = refl }),
  (
    asked_none (map in_pool purge_pool) _ [] refl refl refl refl refl refl,
    (
      asked_none (map in_pool purge_pool) _ (take 2 (drop 1 purge_journal)) refl refl refl refl refl refl,
      (asked_none (map in_pool purge_pool) _ (drop 3 purge_journal) refl refl refl refl refl refl, tt),
    ),
  ),
) x among

pub purge_has_lists : PurgeHasLists
purge_has_lists = record {
  lists_are = record {
    is = λ q few. purge_list q (omega arith);
    rising = rising purge_told refl;
    journals = below_four (λ p. IsJournalOf (lists_of purge_journal purge_pool [] p) (journal_at (purge_journal ∷ []) p)) refl refl refl
        refl;
    past = none_past purge_journal;
    pool = refl;
  };
  cuts = λ q few x among.
      let all = whole_cut q (lists_of purge_journal purge_pool [] q) purge_told 1 (purge_list q few) in
      each (λ (y : ToldRecord). Cut q (lists_of purge_journal purge_pool [] q) purge_told y.played.phase) purge_told
      (all, (all, (all, (all, tt)))) x among;
  asked = purge_asked;
}

abbrev pub maps_pool : List Made
maps_pool = map in_pool direct_map_again_pool

pub maps_asked : AreAsked maps_pool maps_told
maps_asked x among = each (Asked maps_pool) maps_told (
  asked_once maps_pool _ (map_made 2 0 16384 2002944 ∷ []) (in_pool (pool_take 2 0 1 (Some 0))) (pool_take 2 0 1 (Some 0))
      (map_made 2 0 16384 2002944) 0 refl refl refl refl refl refl refl refl refl
      (record { older = take 0 maps_pool; rest = drop 1 maps_pool; begins = refl; index_is = refl }),
  (
    asked_once maps_pool _ (map_gone 3 1 16384 0 2 ∷ []) (in_pool (pool_give 3 0 1 0)) (pool_give 3 0 1 0)
        (map_gone 3 1 16384 0 2) 1 refl refl refl refl refl refl refl refl refl
        (record { older = take 1 maps_pool; rest = drop 2 maps_pool; begins = refl; index_is = refl }),
    (
      asked_once maps_pool _ (map_made 4 2 16384 2002944 ∷ []) (in_pool (pool_take 4 0 1 (Some 0))) (pool_take 4 0 1 (Some 0))
          (map_made 4 2 16384 2002944) 2 refl refl refl refl refl refl refl refl refl
          (record { older = take 2 maps_pool; rest = drop 3 maps_pool; begins = refl; index_is = refl }),
      (
        asked_none maps_pool _ [] refl refl refl refl refl refl,
        (
          asked_none maps_pool _ [] refl refl refl refl refl refl,
          (
            asked_once maps_pool _ (full 7 None 3 ∷ []) (in_pool (pool_take 7 0 1 None)) (pool_take 7 0 1 None)
                (full 7 None 3) 3 refl refl refl refl refl refl refl refl refl
                (record { older = take 3 maps_pool; rest = drop 4 maps_pool; begins = refl; index_is = refl }),
            (
              asked_once maps_pool _ (map_gone 8 4 16384 2 4 ∷ []) (in_pool (pool_give 8 0 1 0)) (pool_give 8 0 1 0)
                  (map_gone 8 4 16384 2 4) 4 refl refl refl refl refl refl refl refl refl
                  (record { older = take 4 maps_pool; rest = drop 5 maps_pool; begins = refl; index_is = refl }),
              (
                asked_once maps_pool _ (map_made 9 5 16384 2002944 ∷ []) (in_pool (pool_take 9 0 1 (Some 0))) (pool_take 9 0 1 (Some 0))
                    (map_made 9 5 16384 2002944) 5 refl refl refl refl refl refl refl refl refl
                    (record { older = take 5 maps_pool; rest = drop 6 maps_pool; begins = refl; index_is = refl }),
                tt,
              ),
            ),
          ),
        ),
      ),
    ),
  ),
) x among

pub direct_map_has_lists : DirectMapHasLists
direct_map_has_lists = record {
  lists_are = record {
    is = λ q few. maps_list q (omega arith);
    rising = rising maps_told refl;
    journals =
        below_four (λ p. IsJournalOf (lists_of direct_map_again_journal direct_map_again_pool [] p)
        (journal_at (direct_map_again_journal ∷ []) p)) refl refl refl refl;
    past = none_past direct_map_again_journal;
    pool = refl;
  };
  cuts = λ q few x among.
      let all = whole_cut q (lists_of direct_map_again_journal direct_map_again_pool [] q) maps_told 1 (maps_list q few) in
      each (λ (y : ToldRecord). Cut q (lists_of direct_map_again_journal direct_map_again_pool [] q) maps_told y.played.phase) maps_told
      (all, (all, (all, (all, (all, (all, (all, (all, tt)))))))) x among;
  asked = maps_asked;
}
