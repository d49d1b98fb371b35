-- What pool, roots, cells, workers and the report are asked is met by the worked run of two threads, with any answer of its read.
use Rattle.std.proofs.Common.{◌≡◌, ℕ, zero, suc, ◌≤◌, List, [], ◌∷◌, length, lit≤, refl, sym, ◌∙◌, ap, subst, filter}
use Rattle.std.specs.Prelude.{Contains}
use Rattle.pa_region.specs.declared.view.Made.{Made}
use Rattle.pa_region.specs.Lists.{list_of, entered_in}
use Rattle.pa_trace.specs.declared.script.Op.TheVariants as ops
use Rattle.pa_record.specs.declared.entry.Answer.{Answer}
use Rattle.pa_record.specs.declared.entry.Answer.TheVariants as answers
use Rattle.pa_record.specs.declared.history.Held.TheVariants as held
use Rattle.pa_record.specs.declared.numbered.Numbered.{Numbered}
use Rattle.pa_record.specs.declared.root.RootEntry.{RootEntry}
use Rattle.pa_record.specs.declared.root.RootAct.TheVariants.{Unmap}
use Rattle.pa_lists.proofs.Members.{not_in_none}
use Rattle.pa_rules.specs.declared.played.Played.{Played}
use Rattle.pa_rules.specs.Cells.{IsChain}
use Rattle.pa_rules.specs.Legal.{IsLegalTold}
use Rattle.pa_legal.specs.Flows.{UnmapsNext}
use Rattle.pa_legal.specs.Numbers.{AreNumbered}
use Rattle.pa_legal.proofs.Converse.{legal_is_known}
use Rattle.pa_examples.specs.Worked.{two_threads_trace, two_threads_records, two_threads_journal, two_threads_pool, two_threads_census}
use Rattle.pa_examples.proofs.worked.Lists.{each}
use Rattle.pa_examples.proofs.worked.Knowing.{all_used}
use Rattle.pa_examples.proofs.worked.OneFill.{roots, the_slot, is_pool, is_journal, has_size, counted}
use Rattle.pa_examples.proofs.worked.Threads as threads
use Rattle.pa_examples.proofs.worked.ThreadsHeld as used
use Rattle.pa_examples.proofs.worked.ThreadsRead as read
use Rattle.pa_examples.proofs.worked.ThreadsReport as report
use Rattle.pa_logs.specs.Told.{ToldRecord}
use Rattle.pa_logs.specs.Indices.{IsSwapAt}
use Rattle.pa_logs.specs.Listed.{IsJournalOf}
use Rattle.pa_logs.specs.Swaps.{is_of_cell}
use Rattle.pa_logs.specs.Viewed.{IsExchanged}
use Rattle.pa_logs.specs.Said.{sizes_in, homes_in, PoolTells, RootsTell, CellsTell, IsCensusBy}
use Rattle.pa_logs.proofs.Filters.{only_one}
use Rattle.pa_logs.proofs.Homing.{homes_follow}
use Rattle.pa_logs.proofs.Sizing.{lengths_follow}
use Rattle.pa_examples.specs.told.Worked.{Worked}
use Rattle.pa_examples.specs.told.Threads.{the_take, the_fill, the_read}
use Rattle.pa_examples.specs.told.Entered.{in_pool, gift_made, taking_made, threads_swaps, threads_cells}
use Rattle.pa_examples.specs.told.OtherReads.{reading_so}
use Rattle.pa_examples.specs.told.AllSaid.{seat_until, seat_last, told_with}
use Rattle.pa_examples.proofs.told.Entering.{below_four, Asked, asked_none, asked_once}
use Rattle.pa_examples.proofs.told.Fitting.{swaps_are, cell_is, GivesSwap, no_swap, one_swap}
use Rattle.pa_examples.proofs.told.Making.{Makes, makes_none, makes_all, none_makes}
use Rattle.pa_examples.proofs.told.Played.{so_read}
use Rattle.pa_rules.proofs.Worked.{class_0}

-- ---- the slot's length and partition, and the root's numbers

pub size_is : (read : Worked) → sizes_in two_threads_trace (told_with read) the_slot ≡ 16
size_is read = lengths_follow.named 1 1 0 16 two_threads_records two_threads_pool roots the_slot used.rooted used.pooled has_size

pub home_is : (read : Worked) → homes_in two_threads_trace (told_with read) the_slot ≡ 0
home_is read = homes_follow.named 1 1 0 16 two_threads_records two_threads_pool roots the_slot used.rooted used.pooled has_size

legal : IsLegalTold two_threads_trace (told_with the_read)
legal = record {
  lines = refl;
  cells = threads.exchanged;
  registers = read.registers;
  slots = threads.slots;
  contents = read.contents;
  pool = used.pooled;
  roots = used.rooted;
  titles = used.titled;
  holders = used.held;
  caches = used.cached;
  seen = threads.seen;
  report = report.reported;
}

numbered : AreNumbered roots
numbered = (legal_is_known two_threads_trace (told_with the_read) legal (all_used two_threads_records refl)).numbers

-- ---- entries of the roots

-- nothing goes back
not_unmap : (asked : ℕ) (slot : Numbered) → the_fill.act ≡ Unmap asked slot → ⊥
not_unmap asked slot e = cc

no_unmap : (x : Played) → UnmapsNext roots x
no_unmap x seen zero asked slot e answer among line act =
    absurd (not_unmap asked slot (ap (λ (z : RootEntry). z.act) (only_one the_fill e among) ∙ act))
no_unmap x seen (suc p) asked slot e answer among line act = absurd (not_in_none e among)

-- what enters in the cells' list is an exchange
record IsOnly (x : ToldRecord) : Type 0 where
  only_it : (m : Made) → Contains (entered_in 5 x.stretch) m → IsExchanged x.played

-- ---- the answer of the read

module _ (answer : Answer) (word value after : ℕ) where
  abbrev so : Worked
  so = so_read answer word value after

  abbrev ts : List ToldRecord
  ts = reading_so so

  pub pool_tells : PoolTells two_threads_trace (told_with so) (seat_last so) ts
  pool_tells = record {
    list = refl;
    fits = is_pool;
    asked = λ x among. each (Asked (list_of 4 (seat_last so))) ts (
      asked_once (list_of 4 (seat_last so)) _ (the_fill ∷ [])
          (in_pool the_take) the_take the_fill 0 refl refl refl refl refl refl refl refl refl
          (record { older = []; rest = []; begins = refl; index_is = refl }),
      (
        asked_none (list_of 4 (seat_last so)) _ [] refl refl refl refl refl refl,
        (
          asked_none (list_of 4 (seat_last so)) _ [] refl refl refl refl refl refl,
          (
            asked_none (list_of 4 (seat_last so)) _ [] refl refl refl refl refl refl,
            (
              asked_none (list_of 4 (seat_last so)) _ [] refl refl refl refl refl refl,
              (
                asked_none (list_of 4 (seat_last so)) _ [] refl refl refl refl refl refl,
                (
                  asked_none (list_of 4 (seat_last so)) _ [] refl refl refl refl refl refl,
                  (asked_none (list_of 4 (seat_last so)) _ [] refl refl refl refl refl refl, tt),
                ),
              ),
            ),
          ),
        ),
      ),
    ) x among;
  }

  fill_made : (x : ToldRecord) → Contains ts x → Makes two_threads_pool 0 x
  fill_made x among = each (Makes two_threads_pool 0) ts (
    makes_all two_threads_pool _ (the_fill ∷ []) refl ((0, 8, refl, class_0), tt),
    (
      makes_none two_threads_pool 0 _ refl,
      (
        makes_none two_threads_pool 0 _ refl,
        (
          makes_none two_threads_pool 0 _ refl,
          (
            makes_none two_threads_pool 0 _ refl,
            (
              makes_none two_threads_pool 0 _ refl,
              (makes_none two_threads_pool 0 _ refl, (makes_none two_threads_pool 0 _ refl, tt)),
            ),
          ),
        ),
      ),
    ),
  ) x among

  -- no request is refused
  abbrev IsNoRefusal : ToldRecord → Type 0
  IsNoRefusal x = (j reg p size : ℕ) → x.played.answer ≡ answers.Full j → x.played.op ≡ ops.Alloc reg p size → ⊥

  none_refused : (x : ToldRecord) → Contains ts x → IsNoRefusal x
  none_refused x among = each IsNoRefusal ts (
    (λ j r p s a o. absurd cc),
    (
      (λ j r p s a o. absurd cc),
      (
        (λ j r p s a o. absurd cc),
        (
          (λ j r p s a o. absurd cc),
          ((λ j r p s a o. absurd cc), ((λ j r p s a o. absurd cc), ((λ j r p s a o. absurd cc), ((λ j r p s a o. absurd cc), tt)))),
        ),
      ),
    ),
  ) x among

  pub roots_tell : RootsTell two_threads_trace (told_with so) (seat_last so) ts
  roots_tell = record {
    lists = below_four (λ p. IsJournalOf (list_of p (seat_last so)) (roots p)) refl refl refl refl;
    journals = used.rooted.journals;
    none_past = used.rooted.none_past;
    makes = λ x p m e few among.
        (below_four (λ q. Makes two_threads_pool q x) (fill_made x among)
        (none_makes two_threads_pool 1 ts (refl, (refl, (refl, (refl, (refl, (refl, (refl, (refl, tt)))))))) x among)
        (none_makes two_threads_pool 2 ts (refl, (refl, (refl, (refl, (refl, (refl, (refl, (refl, tt)))))))) x among)
        (none_makes two_threads_pool 3 ts (refl, (refl, (refl, (refl, (refl, (refl, (refl, (refl, tt)))))))) x among) p few).makes_it m e;
    refused = λ x j reg p size among full op. absurd (none_refused x among j reg p size full op);
    numbers = numbered;
    unmaps = λ x among. no_unmap x.played;
  }

  -- ---- exchanges

  none_only : (x : ToldRecord) → entered_in 5 x.stretch ≡ [] → IsOnly x
  none_only x none = record { only_it = λ m within. absurd (not_in_none m (subst (λ ms. Contains ms m) none within)) }

  one_only : (x : ToldRecord) → IsExchanged x.played → IsOnly x
  one_only x is = record { only_it = λ m within. is }

  abbrev AnswersAt : ToldRecord → Type 0
  AnswersAt x = (k reg : ℕ) → x.played.op ≡ ops.Swap k reg → IsSwapAt threads_swaps x k

  pub cells_tell : CellsTell (told_with so) (seat_last so) ts threads_swaps
  cells_tell = record {
    swaps_are = swaps_are;
    chain = λ k. chain k;
    one_each = λ x among. each (λ (y : ToldRecord). length (entered_in 5 y.stretch) ≤ 1) ts
        (lit≤ tt, (lit≤ tt, (lit≤ tt, (lit≤ tt, (lit≤ tt, (lit≤ tt, (lit≤ tt, (lit≤ tt, tt)))))))) x among;
    only = λ x m among within. (each IsOnly ts (
      none_only _ refl,
      (
        none_only _ refl,
        (
          one_only _ (0, 1, refl),
          (none_only _ refl, (one_only _ (0, 0, refl), (none_only _ refl, (none_only _ refl, (none_only _ refl, tt))))),
        ),
      ),
    ) x among).only_it m within;
    answers = λ x k reg among op. each AnswersAt ts (
      (λ c r e. absurd cc),
      (
        (λ c r e. absurd cc),
        (
          (λ c r e. record {
            older = [];
            rest = taking_made ∷ [];
            swap = gift_made;
            begins = refl;
            cell = cell_is 0 c 1 r e;
            line = refl;
            answer = refl_at 0 c (cell_is 0 c 1 r e);
          }),
          (
            (λ c r e. absurd cc),
            (
              (λ c r e. record {
                older = gift_made ∷ [];
                rest = [];
                swap = taking_made;
                begins = refl;
                cell = cell_is 0 c 0 r e;
                line = refl;
                answer = one_at c (cell_is 0 c 0 r e);
              }),
              ((λ c r e. absurd cc), ((λ c r e. absurd cc), ((λ c r e. absurd cc), tt))),
            ),
          ),
        ),
      ),
    ) x among k reg op;
    gives = λ x m u among within. (each GivesSwap ts (
      no_swap _ refl,
      (
        no_swap _ refl,
        (
          one_swap _ gift_made.made refl (λ w. refl),
          (no_swap _ refl, (one_swap _ taking_made.made refl (λ w. refl), (no_swap _ refl, (no_swap _ refl, (no_swap _ refl, tt))))),
        ),
      ),
    ) x among).gives_it m u within;
  }
    where
      chain : (k : ℕ) → IsChain held.Nothing (threads_cells k)
      chain zero = (refl, (refl, tt))
      chain (suc k) = tt

      -- how many exchanges of the cell are before
      refl_at : (n c : ℕ) → n ≡ c → answers.Swapped 0 ≡ answers.Swapped 0
      refl_at n c e = refl

      one_at : (c : ℕ) → 0 ≡ c → answers.Swapped 1 ≡ answers.Swapped (length (filter (is_of_cell c) (gift_made ∷ [])))
      one_at c e = subst (λ n. answers.Swapped 1 ≡ answers.Swapped (length (filter (is_of_cell n) (gift_made ∷ [])))) e refl

  -- ---- the report

  pub census_said : (n : ℕ) → IsJournalOf (list_of 0 (seat_until ts n)) two_threads_journal →
      IsCensusBy (list_of 0 (seat_until ts n)) (list_of 4 (seat_last so)) two_threads_census
  census_said n is = record {
    journal = two_threads_journal;
    journal_is = is;
    seen = list_of 4 (seat_last so);
    begins = ([], refl);
    pool = two_threads_pool;
    pool_is = refl;
    replays = is_journal;
    taken = sym counted;
  }
