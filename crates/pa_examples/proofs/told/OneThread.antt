-- Worked runs of one thread with no exchange: what is said of each from what computes.
use Rattle.std.proofs.Common.{◌≡◌, ℕ, ◌<◌, ◌≤◌, true, not, List, [], ◌∷◌, map, length, lit<, refl, sym, ◌∙◌, ap, subst, arith, inl, inr}
use Rattle.std.specs.Prelude.{◌==◌, if◌then◌else◌, Contains}
use Rattle.std.specs.List.{list_all, AllByRecursion as Each}
use Rattle.std.proofs.lemmas.Bool.{cases_eq, eq-eqb, ne_eqb}
use Rattle.pa_slot.specs.declared.title.Title.{Title}
use Rattle.pa_region.specs.declared.view.Entry.{Entry}
use Rattle.pa_region.specs.declared.view.Made.{Made}
use Rattle.pa_region.specs.declared.view.SeenNumber.{SeenNumber}
use Rattle.pa_region.specs.declared.view.View.{View}
use Rattle.pa_region.specs.Views.{seen_among, unseen_by, counted_on}
use Rattle.pa_region.specs.Lists.{list_of, made_with, entered_in, IsKnownTo, Rises}
use Rattle.pa_region.specs.Totals.{added_as}
use Rattle.pa_region.specs.Order.{Stamped, by_stake}
use Rattle.pa_region.proofs.Finding.{all_find}
use Rattle.pa_record.specs.declared.pool.PoolEntry.{PoolEntry}
use Rattle.pa_record.specs.declared.root.RootEntry.{RootEntry}
use Rattle.pa_lists.proofs.Joined.{map_in}
use Rattle.pa_lists.proofs.Members.{not_in_none}
use Rattle.pa_rules.specs.declared.played.Played.{Played}
use Rattle.pa_rules.specs.Cells.{history_at}
use Rattle.pa_rules.specs.Roots.{Journals}
use Rattle.pa_rules.specs.Caches.{Caches, with_cache, CacheRow, CachesTo}
use Rattle.pa_rules.specs.Told.{Told}
use Rattle.pa_examples.proofs.worked.Alone.{is_swap, no_swap}
use Rattle.pa_examples.proofs.worked.Lists.{each}
use Rattle.pa_logs.specs.Told.{ToldRecord, played_in, told_of, log_of}
use Rattle.pa_logs.specs.Reads.{KnowsAll}
use Rattle.pa_logs.specs.Reported.{CacheLeadsTo}
use Rattle.pa_logs.specs.Rows.{records_by}
use Rattle.pa_logs.specs.Said.{CellsTell}
use Rattle.pa_logs.specs.Worked.{view_of}
use Rattle.pa_logs.proofs.Merging.{own_first, other_first}
use Rattle.pa_examples.specs.told.AllSaid.{seat_of}
use Rattle.pa_examples.specs.told.Entered.{in_root, in_pool, lists_of}
use Rattle.pa_examples.proofs.told.Seats.{list_cases, IsOrderOf, has_order, FitsSeat}
use Rattle.pa_examples.proofs.told.Poisonings.{all_unread, stepwise, stepwise_placed, stepwise_logged}

-- the first thread, and the others
pub by_one : (P : ℕ → Type 0) → P 0 → ((k : ℕ) → (0 ≡ k → ⊥) → P k) → (k : ℕ) → P k
by_one P first others k = elim (cases_eq 0 k) [ inl e ↦ subst P e first | inr n ↦ others k n ]

-- ---- lists with entries that the first thread made, with nothing seen

none_later : (m : Made) (ms : List Made) → m.seen ≡ [] → Each (λ (later : Made). IsKnownTo later.seen m) ms
none_later m [] none = tt
none_later m (n ∷ ns) none = (λ t. rw none (omega arith), none_later m ns none)

if_zero : (n : ℕ) (m : Made) (ms : List Made) → n ≡ 0 → (if n == 0 then m ∷ ms else ms) ≡ m ∷ ms
if_zero n m ms e = rw e refl

module _ {A : Type 0} (f : A → Made) (unseen : (a : A) → (f a).seen ≡ []) (first : (a : A) → (f a).stake ≡ 0) where
  all_known : (notes : List SeenNumber) (xs : List A) → Each (λ (m : Made). IsKnownTo notes m) (map f xs)
  all_known notes [] = tt
  all_known notes (a ∷ xs) = (λ t. rw (unseen a) (omega arith), all_known notes xs)

  all_rise : (xs : List A) → Rises (map f xs)
  all_rise [] = tt
  all_rise (a ∷ xs) = (none_later (f a) (map f xs) (unseen a), all_rise xs)

  all_staked : (xs : List A) → Each (λ (m : Made). m.stake < 16) (map f xs)
  all_staked [] = tt
  all_staked (a ∷ xs) = (rw (first a) (lit< tt), all_staked xs)

  all_first : (xs : List A) → made_with 0 (map f xs) ≡ map f xs
  all_first [] = refl
  all_first (a ∷ xs) = if_zero (f a).stake (f a) (made_with 0 (map f xs)) (first a) ∙ ap (λ (ms : List Made). f a ∷ ms) (all_first xs)

  none_else : (xs : List A) (k : ℕ) → (0 ≡ k → ⊥) → made_with k (map f xs) ≡ []
  none_else [] k other = refl
  none_else (a ∷ xs) k other = rw (first a, ne_eqb 0 k other) (none_else xs k other)

-- ---- the order of one thread's entries is that of its log

abbrev pub first_did : Entry → Stamped
first_did e = record { stake = 0; entry = e }

first_small : (log : List Entry) → Each (λ (m : Stamped). m.stake < 16) (map first_did log)
first_small [] = tt
first_small (e ∷ log) = (lit< tt, first_small log)

first_log : (log : List Entry) → log ≡ by_stake 0 (map first_did log)
first_log [] = refl
first_log (e ∷ log) = ap (λ (es : List Entry). e ∷ es) (first_log log)

other_log : (k : ℕ) → (0 ≡ k → ⊥) → (log : List Entry) → [] ≡ by_stake k (map first_did log)
other_log k other [] = refl
other_log k other (e ∷ log) = rw (ne_eqb 0 k other) (other_log k other log)

first_entries : (log : List Entry) → log ≡ map (λ (m : Stamped). m.entry) (map first_did log)
first_entries [] = refl
first_entries (e ∷ log) = ap (λ (es : List Entry). e ∷ es) (first_entries log)

-- What is computed of the records, with this journal, these entries of the pool and these numbers.
--   knows: a view with the logs knows all of them
--   root, pool, others: what the first thread's log entered
--   alone: no other thread has a log
--   own_logs, all_seen: what was seen is what the logs say
--   adds: nothing was added to a totals word
--   found: each counted step and each look in its log found the number of counted steps of its title before it
--   unread: it has no read
pub record IsAlone (ts : List ToldRecord) (notes : List SeenNumber) (journal : List RootEntry) (pools : List PoolEntry) : Type 0 where
  pub knows : KnowsAll (view_of ts) ts
  pub root : entered_in 0 (log_of 0 ts) ≡ map in_root journal
  pub pool : entered_in 4 (log_of 0 ts) ≡ map in_pool pools
  pub others : (q : ℕ) → (0 ≡ q → ⊥) → (4 ≡ q → ⊥) → entered_in q (log_of 0 ts) ≡ []
  pub alone : (k : ℕ) → (0 ≡ k → ⊥) → log_of k ts ≡ []
  pub own_logs : told_of ts (unseen_by notes) ≡ 0
  pub adds : (q : ℕ) → told_of ts (added_as q) ≡ 0
  pub all_seen : (t : Title) → seen_among t notes ≤ told_of ts (counted_on t)
  pub found : all_find [] (map first_did (log_of 0 ts)) ≡ true
  pub unread : all_unread (map first_did (log_of 0 ts)) ≡ true

module _ (ts : List ToldRecord) (notes : List SeenNumber) (journal : List RootEntry) (pools : List PoolEntry)
    (is : IsAlone ts notes journal pools) where
  abbrev lists : ℕ → List Made
  lists = lists_of journal pools []

  -- each stake made what its log entered
  made : (q k : ℕ) → made_with k (list_of q (seat_of ts notes lists)) ≡ entered_in q (log_of k ts)
  made q k = list_cases ts notes lists (λ p ms. made_with k ms ≡ entered_in p (log_of k ts))
      (by_one (λ j. made_with j (map in_root journal) ≡ entered_in 0 (log_of j ts))
      (all_first in_root (λ e. refl) (λ e. refl) journal ∙ sym is.root)
      (λ j other. none_else in_root (λ e. refl) (λ e. refl) journal j other ∙ sym (ap (λ log. entered_in 0 log) (is.alone j other))) k)
      (by_one (λ j. made_with j (map in_pool pools) ≡ entered_in 4 (log_of j ts))
      (all_first in_pool (λ e. refl) (λ e. refl) pools ∙ sym is.pool)
      (λ j other. none_else in_pool (λ e. refl) (λ e. refl) pools j other ∙ sym (ap (λ log. entered_in 4 log) (is.alone j other))) k)
      (by_one (λ j. [] ≡ entered_in 5 (log_of j ts)) (sym (is.others 5 (λ e. absurd (omega arith)) (λ e. absurd (omega arith))))
      (λ j other. sym (ap (λ log. entered_in 5 log) (is.alone j other))) k)
      (λ p n0 n4 n5. by_one (λ j. [] ≡ entered_in p (log_of j ts)) (sym (is.others p n0 n4))
      (λ j other. sym (ap (λ log. entered_in p log) (is.alone j other))) k)
      q

  -- the log of stake 0, the only stake that did anything, is an order of what the records did
  its_order : IsOrderOf ts notes lists (map first_did (log_of 0 ts))
  its_order = record {
    stakes = first_small (log_of 0 ts);
    logs = by_one (λ k. log_of k ts ≡ by_stake k (map first_did (log_of 0 ts))) (first_log (log_of 0 ts))
        (λ k other. is.alone k other ∙ other_log k other (log_of 0 ts));
    lists_are = λ q. entered q ∙ ap (entered_in q) (first_entries (log_of 0 ts));
    found = is.found;
    steps = stepwise [] (map first_did (log_of 0 ts));
    logged = stepwise_logged (map first_did (log_of 0 ts));
    placed = (stepwise_placed (map first_did (log_of 0 ts)) is.unread).0;
    freed = (stepwise_placed (map first_did (log_of 0 ts)) is.unread).1;
  }
    where
      entered : (q : ℕ) → list_of q (seat_of ts notes lists) ≡ entered_in q (log_of 0 ts)
      entered q = list_cases ts notes lists (λ p ms. ms ≡ entered_in p (log_of 0 ts)) (sym is.root) (sym is.pool)
          (sym (is.others 5 (λ e. absurd (omega arith)) (λ e. absurd (omega arith)))) (λ p n0 n4 n5. sym (is.others p n0 n4)) q

  pub fits_seat : FitsSeat ts notes lists
  fits_seat = record {
    knows = is.knows;
    is = made;
    rises = list_cases ts notes lists (λ q ms. Rises ms) (all_rise in_root (λ e. refl) (λ e. refl) journal)
        (all_rise in_pool (λ e. refl) (λ e. refl) pools) tt (λ q n0 n4 n5. tt);
    makers = list_cases ts notes lists (λ q ms. Each (λ (m : Made). m.stake < 16) ms) (all_staked in_root (λ e. refl) (λ e. refl) journal)
        (all_staked in_pool (λ e. refl) (λ e. refl) pools) tt (λ q n0 n4 n5. tt);
    follows = list_cases ts notes lists (λ q ms. Each (λ (m : Made). IsKnownTo notes m) ms)
        (all_known in_root (λ e. refl) (λ e. refl) notes journal)
        (all_known in_pool (λ e. refl) (λ e. refl) notes pools) tt (λ q n0 n4 n5. tt);
    own_logs = is.own_logs;
    adds = is.adds;
    all_seen = is.all_seen;
    order = has_order ts notes lists (map first_did (log_of 0 ts)) its_order;
  }

  pub fits_knows : fits_seat.knows ≡ is.knows
  unfolding fits_seat
  fits_knows = refl

-- ---- no exchange

pub no_cells_tell : (r : Told) (v : View) (ts : List ToldRecord) → r.cells ≡ history_at [] → list_of 5 v ≡ [] →
    Each (λ (x : ToldRecord). entered_in 5 x.stretch ≡ []) ts →
    list_all (λ (p : Played). not (is_swap p.op)) (played_in ts) ≡ true → CellsTell r v ts []
no_cells_tell r v ts cells list entered none = record {
  swaps_are = record { list_is = list; lines = λ e among. absurd (not_in_none e among); cells_are = λ k. ap (λ c. c k) cells };
  chain = λ k. rw cells tt;
  one_each = λ x among. let here =
      ap (λ (ms : List Made). length ms) (each (λ (y : ToldRecord). entered_in 5 y.stretch ≡ []) ts entered x among) in omega arith;
  only = λ x m among within. absurd (nothing x m among within);
  answers = λ x k reg among op. absurd (no_swap (played_in ts) none x.played k reg (map_in (λ (y : ToldRecord). y.played) ts x among) op);
  gives = λ x m u among within. absurd (nothing x m among within);
}
  where
    nothing : (x : ToldRecord) (m : Made) → Contains ts x → Contains (entered_in 5 x.stretch) m → ⊥
    nothing x m among within =
        not_in_none m (subst (λ ms. Contains ms m) (each (λ (y : ToldRecord). entered_in 5 y.stretch ≡ []) ts entered x among) within)

-- ---- the lists of each thread, from those of all
pub leads_of : (partitions : ℕ) (roots : Journals) (all : Caches) (ps : List Played) (ends : Caches)
    → CachesTo partitions roots all ps ends → (k : ℕ) → CacheLeadsTo partitions roots (all k) (records_by k ps) (ends k)
leads_of partitions roots all [] ends same k = ap (λ (c : Caches). c k) same
leads_of partitions roots all (x ∷ xs) ends (next, row, rest) k =
    let again : CacheLeadsTo partitions roots (with_cache all x.thread next k) (records_by k xs) (ends k) =
    leads_of partitions roots (with_cache all x.thread next) xs ends rest k in
    elim (cases_eq k x.thread) [
      | inl e ↦
          let here : CacheRow partitions roots x x.answer (all k) next =
          subst (λ n. CacheRow partitions roots x x.answer (all n) next) (sym e) row in
          let rows_on : CacheLeadsTo partitions roots next (records_by k xs) (ends k) = rw (eq-eqb k x.thread e) at again in
          subst (λ ys. CacheLeadsTo partitions roots (all k) ys (ends k)) (sym (own_first k x xs (sym e))) (next, here, rows_on)
      | inr ne ↦
          let rows_on : CacheLeadsTo partitions roots (all k) (records_by k xs) (ends k) = rw (ne_eqb k x.thread ne) at again in
          subst (λ ys. CacheLeadsTo partitions roots (all k) ys (ends k)) (sym (other_first k x xs (λ e. ne (sym e)))) rows_on
    ]
