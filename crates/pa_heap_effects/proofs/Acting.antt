-- The deed of a line whose acts are all of one partition, and of one without acts.
use Rattle.std.proofs.Common.{◌≡◌, ℕ, ◌<◌, List, [], ◌∷◌, ◌++◌, Option, Some, None, refl, sym, ◌∙◌, ap, subst, arith, inl, inr}
use Rattle.std.specs.Prelude.{Contains}
use Rattle.std.proofs.lemmas.Bool.{cases_eq, eq-eqb, ne_eqb}
use Rattle.pa_slot.specs.declared.word.SlotName.{SlotName}
use Rattle.pa_slot.specs.declared.word.Step.{Step}
use Rattle.pa_slot.specs.Count.{number_of}
use Rattle.pa_slot.specs.Run.{IsReturning}
use Rattle.pa_trace.specs.declared.script.Op.TheVariants as ops
use Rattle.pa_record.specs.declared.entry.Seen.{Seen}
use Rattle.pa_record.specs.declared.entry.Answer.{Answer}
use Rattle.pa_record.specs.declared.entry.Answer.TheVariants as answers
use Rattle.pa_record.specs.declared.numbered.Numbered.{Numbered}
use Rattle.pa_record.specs.declared.pool.PoolEntry.{PoolEntry}
use Rattle.pa_record.specs.declared.root.RootEntry.{RootEntry}
use Rattle.pa_record.specs.declared.root.RootAct.{RootAct}
use Rattle.pa_record.specs.Pool.{PoolState}
use Rattle.pa_record.specs.Root.{Root, asked_by}
use Rattle.pa_record.specs.Sound.{least_after_all}
use Rattle.pa_lists.proofs.Members.{not_in_none}
use Rattle.pa_rules.specs.declared.played.Played.{Played}
use Rattle.pa_rules.specs.Played.{step_of}
use Rattle.pa_rules.specs.Roots.{Journals, IsEntry, MakesEntry, IsFull}
use Rattle.pa_rules.specs.Caches.{Cache, Caches, with_list, acts_of, OnlyActs, NoActs, FilledFirst, DoneRow, CacheRow}
use Rattle.pa_legal.specs.Numbers.{moves_of, at_end, IsNumbered}
use Rattle.pa_legal.specs.Flows.{UnmapsNext}
use Rattle.pa_heap_effects.specs.Deeds.{entries_at, grown, root_at, root_after, ActsFit, IsPlacedTo, IsDeed}
use Rattle.pa_heap_effects.specs.Pooled.{pool_at, Asks, IsDone}
use Rattle.pa_heap_effects.specs.Ops.{no_acts, only_in, IsCalled, KeepsLists, NothingMoves, FrontLeaves}
use Rattle.pa_heap_effects.proofs.Growing.{line_acts, grown_cases}
use Rattle.pa_heap_effects.proofs.Extending.{line_replays}

-- ---- acts of one partition

pub only_here : (p : ℕ) (acts : List RootAct) → only_in p acts p ≡ acts
only_here p acts = rw (eq-eqb p p refl) refl

pub only_else : (p q : ℕ) (acts : List RootAct) → (q ≡ p → ⊥) → only_in p acts q ≡ []
only_else p q acts ne = rw (ne_eqb q p ne) refl

-- what holds of the partition with its acts, and of all others without
pub by_place : (P : ℕ → List RootAct → Type 0) (p : ℕ) (acts : List RootAct) → P p acts → ((q : ℕ) → (q ≡ p → ⊥) → P q []) → (q : ℕ) →
    P q (only_in p acts q)
by_place P p acts here others q = elim (cases_eq q p) [
  | inl e ↦ subst (λ z. P z (only_in p acts z)) (sym e) (subst (λ z. P p z) (sym (only_here p acts)) here)
  | inr ne ↦ subst (λ z. P q z) (sym (only_else p q acts ne)) (others q ne)
]

-- What a line owes that acts in partition p alone.
pub record IsActed (partitions n p : ℕ) (x : Played) (pools more : List PoolEntry) (roots : Journals) (acts : List RootAct)
    (cache next : Cache) : Type 0 where
  pub line : x.line ≡ n
  pub below : p < partitions
  pub fits : ActsFit (pools ++ more) (least_after_all 0 (roots p)) acts (root_at pools roots p)
  pub makes : (a : RootAct) → Contains acts a → MakesEntry (pools ++ more) p a x
  pub refusal : (j reg q size : ℕ) → x.answer ≡ answers.Full j → x.op ≡ ops.Alloc reg q size
      → (e : RootEntry) × IsEntry (grown roots n (only_in p acts)) q j e × (e.line ≡ n) × IsFull e.act
  pub row : OnlyActs (grown roots n (only_in p acts)) x.line p acts →
      CacheRow partitions (grown roots n (only_in p acts)) x x.answer cache next
  pub numbers : (s : SlotName) → IsNumbered (at_end (Some 0) (moves_of (roots p) s)) (moves_of (entries_at n acts) s)
  pub unmaps : UnmapsNext (grown roots n (only_in p acts)) x

-- the acts of the line are these
only_acts : (partitions n p : ℕ) (ps : List Played) (x : Played) (pools : List PoolEntry) (roots : Journals) (acts : List RootAct)
    (all : Caches) → IsPlacedTo partitions n ps pools roots all → x.line ≡ n →
    OnlyActs (grown roots n (only_in p acts)) x.line p acts
only_acts partitions n p ps x pools roots acts all h line = (
  at x.line line p ∙ only_here p acts,
  λ q ne. at x.line line q ∙ only_else p q acts ne,
)
  where
    at : (m : ℕ) → m ≡ n → (q : ℕ) → acts_of (grown roots n (only_in p acts)) m q ≡ only_in p acts q
    at m same q = ap (λ z. acts_of (grown roots n (only_in p acts)) z q) same ∙ line_acts roots n (only_in p acts) q (h.entered q)

pub acted_deed : (partitions n p : ℕ) (ps : List Played) (x : Played) (pools more : List PoolEntry) (roots : Journals) (acts : List RootAct)
    (all : Caches) (next : Cache) →
    IsPlacedTo partitions n ps pools roots all → IsActed partitions n p x pools more roots acts (all x.thread) next →
    IsDeed partitions n x pools more roots (only_in p acts) (all x.thread) next
acted_deed partitions n p ps x pools more roots acts all next h a = record {
  line = a.line;
  fits = by_place (λ q bs. ActsFit (pools ++ more) (least_after_all 0 (roots q)) bs (root_at pools roots q)) p acts a.fits (λ q ne. tt);
  makes = by_place (λ q bs. (b : RootAct) → Contains bs b → MakesEntry (pools ++ more) q b x) p acts a.makes
      (λ q ne b among. absurd (not_in_none b among));
  none_past = λ q past. only_else p q acts (λ e. let low = a.below in omega arith);
  refusal = a.refusal;
  row = a.row (only_acts partitions n p ps x pools roots acts all h a.line);
  numbers = by_place (λ q bs. (s : SlotName) →
      IsNumbered (at_end (Some 0) (moves_of (roots q) s)) (moves_of (entries_at n bs) s)) p acts a.numbers (λ q ne s. tt);
  unmaps = a.unmaps;
}

-- with what the root and the pool become
pub acted_called : (supers partitions n p : ℕ) (ps : List Played) (x : Played) (pools more : List PoolEntry) (roots : Journals)
    (acts : List RootAct) (all : Caches) (next : Cache) (after : Root) (plan : PoolState) →
    IsPlacedTo partitions n ps pools roots all → IsActed partitions n p x pools more roots acts (all x.thread) next →
    Asks supers n pools more (only_in p acts) →
    root_after (pools ++ more) acts (root_at pools roots p) ≡ after → pool_at supers (pools ++ more) ≡ plan →
    IsCalled supers partitions n x pools more roots p acts (all x.thread) next after plan
acted_called supers partitions n p ps x pools more roots acts all next after plan h a asks root pool =
    let deed = acted_deed partitions n p ps x pools more roots acts all next h a in
    record {
      done = record { deed = deed; asks = asks };
      root = line_replays.roots partitions n ps x pools more roots (only_in p acts) all next p h deed
          ∙ ap (λ bs. root_after (pools ++ more) bs (root_at pools roots p)) (only_here p acts)
          ∙ root;
      others = λ q ne. line_replays.roots partitions n ps x pools more roots (only_in p acts) all next q h deed
          ∙ ap (λ bs. root_after (pools ++ more) bs (root_at pools roots q)) (only_else p q acts ne);
      pool = pool;
    }

-- a line that asks the pool for nothing
pub asks_none : (supers n p : ℕ) (pools : List PoolEntry) (acts : List RootAct) → ((a : RootAct) → Contains acts a → asked_by a ≡ None) →
    Asks supers n pools [] (only_in p acts)
asks_none supers n p pools acts none =
    by_place (λ q bs. (a : RootAct) → Contains bs a → asked_by a ≡ None) p acts none (λ q ne a among. absurd (not_in_none a among))

-- ---- no act

module _ (partitions n : ℕ) (ps : List Played) (x : Played) (pools : List PoolEntry) (roots : Journals) (all : Caches)
    (h : IsPlacedTo partitions n ps pools roots all) (line : x.line ≡ n) where
  no_entries : NoActs (grown roots n no_acts) x.line
  no_entries q = ap (λ z. acts_of (grown roots n no_acts) z q) line ∙ line_acts roots n no_acts q (h.entered q)

  pub nothing_done : (supers : ℕ) (next : Cache) → ((j : ℕ) → x.answer ≡ answers.Full j → ⊥) →
      (NoActs (grown roots n no_acts) x.line → CacheRow partitions (grown roots n no_acts) x x.answer (all x.thread) next) →
      IsDone supers partitions n x pools [] roots no_acts (all x.thread) next
  nothing_done supers next not_full row = record {
    deed = record {
      line = line;
      fits = λ p. tt;
      makes = λ p a among. absurd (not_in_none a among);
      none_past = λ p past. refl;
      refusal = λ j reg p size full. absurd (not_full j full);
      row = row no_entries;
      numbers = λ p s. tt;
      unmaps = λ seen p asked slot e answer among at is. elim (grown_cases roots n no_acts p e among) [
        | inl old ↦ absurd (let low = h.entered p e old in omega arith)
        | inr new ↦ absurd (not_in_none e.act new.0)
      ];
    };
    asks = λ p a among. absurd (not_in_none a among);
  }

quiet_done : (roots : Journals) (x : Played) (o : Option Step) (seen : Seen) (cache : Cache) →
    ((step : Step) → o ≡ Some step → IsReturning step seen.found.0 → ⊥) → NoActs roots x.line →
    DoneRow roots x o seen cache cache
quiet_done roots x None seen cache keeps none = (none, λ p c. refl)
quiet_done roots x (Some step) seen cache keeps none = inr (keeps step refl, none, λ p c. refl)

quiet_row : (partitions : ℕ) (roots : Journals) (x : Played) (a : Answer) (cache : Cache) → KeepsLists x.op a → NoActs roots x.line →
    CacheRow partitions roots x a cache cache
quiet_row partitions roots x (answers.Made seen usable) cache keeps none = absurd keeps
quiet_row partitions roots x (answers.Done seen) cache keeps none = quiet_done roots x (step_of x.op) seen cache keeps none
quiet_row partitions roots x (answers.Value seen value) cache keeps none = (none, λ p c. refl)
quiet_row partitions roots x (answers.Dangling seen value) cache keeps none = (none, λ p c. refl)
quiet_row partitions roots x (answers.SecondFree seen) cache keeps none = (none, λ p c. refl)
quiet_row partitions roots x (answers.NotOwner seen) cache keeps none = (none, λ p c. refl)
quiet_row partitions roots x answers.StaleReset cache keeps none = (none, λ p c. refl)
quiet_row partitions roots x (answers.StaleUse seen) cache keeps none = (none, λ p c. refl)
quiet_row partitions roots x answers.Nothing cache keeps none = (none, λ p c. refl)
quiet_row partitions roots x answers.Filled cache keeps none = (none, λ p c. refl)
quiet_row partitions roots x answers.NotRef cache keeps none = (none, λ p c. refl)
quiet_row partitions roots x (answers.Shared seen) cache keeps none = (none, λ p c. refl)
quiet_row partitions roots x answers.OutOfRange cache keeps none = (none, λ p c. refl)
quiet_row partitions roots x answers.TooLarge cache keeps none = (none, λ p c. refl)
quiet_row partitions roots x (answers.Full entry) cache keeps none = absurd keeps
quiet_row partitions roots x (answers.Swapped entry) cache keeps none = (none, λ p c. refl)
quiet_row partitions roots x (answers.Purged slots) cache keeps none = absurd keeps
quiet_row partitions roots x answers.Uncounted cache keeps none = (none, λ p c. refl)

pub nothing_moves : NothingMoves
nothing_moves supers partitions n ps x pools roots all h line keeps =
    nothing_done partitions n ps x pools roots all h line supers (all x.thread) (λ j full. subst (λ a. KeepsLists x.op a) full keeps)
    (λ none. quiet_row partitions (grown roots n no_acts) x x.answer (all x.thread) keeps none)

-- ---- the front of a list

pub not_full_made : (a : Answer) (seen : Seen) (usable j : ℕ) → a ≡ answers.Made seen usable → a ≡ answers.Full j → ⊥
not_full_made a seen usable j made full = cc

filled_front : (roots : Journals) (line p class : ℕ) (xs : List Numbered) (y : Numbered) (ys : List Numbered) → xs ≡ y ∷ ys →
    NoActs roots line → FilledFirst roots line p class xs xs
filled_front roots line p class xs y ys e none = subst (λ z. FilledFirst roots line p class z z) (sym e) (refl, none)

pub front_leaves : FrontLeaves
front_leaves supers partitions n p class usable ps x pools roots all seen rest h line made asks front =
    nothing_done partitions n ps x pools roots all h line supers (with_list (all x.thread) p class rest)
    (λ j full. not_full_made x.answer seen usable j made full)
    (λ none. subst (λ a. CacheRow partitions (grown roots n no_acts) x a (all x.thread) (with_list (all x.thread) p class rest)) (sym made)
    (inl (
      p,
      class,
      all x.thread p class,
      rest,
      asks,
      filled_front (grown roots n no_acts) x.line p class (all x.thread p class)
          (record { slot = seen.slot; number = number_of seen.found.0 }) rest front none,
      front,
      λ q c. refl,
    )))
