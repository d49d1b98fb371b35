-- The deed of a step that returns a slot of a class, and of a purge.
use Rattle.std.proofs.Common.{◌≡◌, ◌≢◌, ℕ, ◌/◌, ◌<◌, List, [], ◌∷◌, ◌++◌, length, take, drop, Option, Some, None, refl, sym, ◌∙◌, ap, subst, arith, ◌⊎◌, inl, inr}
use Rattle.std.specs.Prelude.{Contains, nat_lt}
use Rattle.std.proofs.lemmas.Bool.{cases_Bool, cases_lt, lt-ltb, le-ltb}
use Rattle.std.proofs.lemmas.List.{append-nil, take-append-drop}
use Rattle.std.proofs.lemmas.List.Elements.{All-cons}
use Rattle.pa_slot.specs.declared.word.SlotName.{SlotName}
use Rattle.pa_slot.specs.declared.word.Step.{Step}
use Rattle.pa_slot.specs.declared.word.Step.TheVariants as steps
use Rattle.pa_slot.specs.Run.{IsReturning}
use Rattle.pa_buckets.specs.Bands.{limit_of}
use Rattle.pa_trace.specs.declared.script.Line.{Line}
use Rattle.pa_trace.specs.declared.script.Op.{Op}
use Rattle.pa_trace.specs.declared.script.Op.TheVariants as ops
use Rattle.pa_record.specs.declared.entry.Seen.{Seen}
use Rattle.pa_record.specs.declared.entry.Answer.TheVariants as answers
use Rattle.pa_record.specs.declared.numbered.Numbered.{Numbered}
use Rattle.pa_record.specs.declared.pool.PoolEntry.{PoolEntry}
use Rattle.pa_record.specs.declared.root.RootEntry.{RootEntry}
use Rattle.pa_record.specs.declared.root.RootAct.{RootAct}
use Rattle.pa_record.specs.declared.root.RootAct.TheVariants.{Unmap, Purge}
use Rattle.pa_record.specs.Root.{Root, names, all_returned, purged, IsOut, asked_by}
use Rattle.pa_record.specs.Sound.{least_after_all}
use Rattle.pa_record.specs.Laws.{times}
use Rattle.pa_lists.proofs.Members.{not_in_none, not_some, of_some}
use Rattle.pa_lists.proofs.Pairs.{pairs_cons}
use Rattle.pa_record.proofs.Lawful.{journal_leaves}
use Rattle.pa_rules.specs.declared.played.Played.{Played}
use Rattle.pa_rules.specs.Played.{step_of}
use Rattle.pa_rules.specs.Roots.{Journals, IsFreeing, MakesEntry}
use Rattle.pa_rules.specs.Caches.{Cache, Caches, with_list, OnlyActs, IsOfClass, gives, kept, spilled, purge_acts, all_listed, acts_of, ReturnRow, DoneRow, CacheRow}
use Rattle.pa_rules.proofs.Flowing.{class_real}
use Rattle.pa_rules.proofs.Totals.{some_times}
use Rattle.pa_legal.specs.Numbers.{moves_of, at_end, IsNumbered}
use Rattle.pa_heap_effects.specs.Deeds.{entries_at, grown, root_at, root_after, ActsFit}
use Rattle.pa_heap_effects.specs.Pooled.{pool_at, IsDone, IsSoFar}
use Rattle.pa_heap_effects.specs.Ops.{only_in, IsCalled, returned_by, Returns, AreOut, all_of, purge_in, ReturnIsDone, PurgeIsDone}
use Rattle.pa_heap_effects.proofs.Growing.{grown_cases, grown_old, line_acts}
use Rattle.pa_heap_effects.proofs.Extending.{line_replays}
use Rattle.pa_heap_effects.proofs.Numbering.{backs_numbered}
use Rattle.pa_heap_effects.proofs.Acting.{IsActed, acted_called, asks_none, by_place}
use Rattle.pa_heap_effects.proofs.Single.{not_full_done}
use Rattle.pa_heap_effects.proofs.Lists.{parts_are_out, listed_alone}
use Rattle.pa_heap_effects.proofs.Gives.{IsGive, give_is, gives_alone, gives_after, gives_ask, gives_leave, purge_is, purge_asks, purge_leaves, purge_fits, purge_after}
use Rattle.pa_heap_effects.proofs.Listed.{returned_out, lists_are_out}

-- ---- the ops that free

pub frees_by : (op : Op) (step : Step) (w : ℕ) → step_of op ≡ Some step → IsReturning step w → IsFreeing op
frees_by (ops.Alloc reg partition size) step w is returning = absurd (not_some step is)
frees_by (ops.Copy from to) step w is returning = absurd (subst (λ z. IsReturning z w) (sym (of_some steps.Copy step is)) returning)
frees_by (ops.Reset reg) step w is returning = inr (reg, refl)
frees_by (ops.Free reg) step w is returning = inl (reg, refl)
frees_by (ops.Write reg value) step w is returning = absurd (subst (λ z. IsReturning z w) (sym (of_some steps.Write step is)) returning)
frees_by (ops.Read reg place) step w is returning = absurd (not_some step is)
frees_by (ops.Swap cell reg) step w is returning = absurd (not_some step is)
frees_by ops.Purge step w is returning = absurd (not_some step is)

give_makes : (pools : List PoolEntry) (p : ℕ) (x : Played) (a : RootAct) → IsFreeing x.op ⊎ (x.op ≡ ops.Purge) → IsGive a →
    MakesEntry pools p a x
give_makes pools p x a frees (slots, is) = subst (λ z. MakesEntry pools p z x) (sym is) frees

-- the list of what is out, with the slot at the start
front_out : (r : Root) (slot : Numbered) (xs : List Numbered) → IsOut r slot.slot → times slot.slot (names xs) ≡ 0 → AreOut r xs →
    AreOut r (slot ∷ xs)
front_out r slot xs out none (others, differ) = (
  All-cons (IsOut r) slot.slot (names xs) out others,
  pairs_cons (λ (a b : SlotName). a ≢ b) slot.slot (names xs)
      (λ s among same. let some = some_times s (names xs) among in
      let e : times slot.slot (names xs) ≡ times s (names xs) = ap (λ z. times z (names xs)) same in omega arith)
      differ,
)

pub spilled_out : (r : Root) (class : ℕ) (xs : List Numbered) → AreOut r xs → AreOut r (spilled class xs)
spilled_out r class xs out = elim (cases_Bool (nat_lt (limit_of class) (length xs))) [
  | inl over ↦ rw over (parts_are_out.behind r (take (limit_of class / 2) xs) (drop (limit_of class / 2) xs)
      (subst (λ z. AreOut r z) (sym (take-append-drop (limit_of class / 2) xs)) out))
  | inr within ↦ rw within (λ k d low. absurd (omega arith), λ i j d before low. absurd (omega arith))
]

pub done_row : (roots : Journals) (x : Played) (o : Option Step) (step : Step) (seen : Seen) (cache after : Cache) → o ≡ Some step →
    IsReturning step seen.found.0 →
    ReturnRow roots x (returned_by seen) cache after → DoneRow roots x o seen cache after
done_row roots x o step seen cache after is returning row = subst (λ z. DoneRow roots x z seen cache after) (sym is) (inl (returning, row))

module _ (supers partitions n p class : ℕ) (ls : List Line) (ps : List Played) (x : Played) (pools : List PoolEntry) (roots : Journals)
    (all : Caches) (seen : Seen)
    (h : IsSoFar supers partitions n ls ps pools roots all) (line : x.line ≡ n) (returns : Returns ps x seen)
    (of : IsOfClass roots seen.slot p class) where
  real : class < 170
  real = class_real pools roots seen.slot p class (h.placed.journals p) of

  out : AreOut (root_at pools roots p) (returned_by seen ∷ all x.thread p class)
  out =
      let (slot, none) = returned_out supers partitions n ls ps pools roots all h p x.thread class seen.slot returns.step seen.found.0 of
      returns.word returns.returning in
      front_out (root_at pools roots p) (returned_by seen) (all x.thread p class) slot none
      (listed_alone (root_at pools roots p) (all x.thread p) class 0 170 (omega arith) (let low = real in omega arith)
      (lists_are_out supers partitions n p x.thread ls ps pools roots all h))

  acted : (xs : List Numbered) → AreOut (root_at pools roots p) xs → xs ≡ spilled class (returned_by seen ∷ all x.thread p class) →
      p < partitions →
      IsActed partitions n p x pools [] roots (gives xs) (all x.thread)
      (with_list (all x.thread) p class (kept class (returned_by seen ∷ all x.thread p class)))
  acted xs are_out is below =
      let sound = (journal_leaves pools (roots p) (h.placed.journals p)).sound in
      let frees = frees_by x.op returns.step seen.found.0 returns.makes returns.returning in
      record {
        line = line;
        below = below;
        fits = gives_alone (pools ++ []) (least_after_all 0 (roots p)) xs (root_at pools roots p) sound are_out;
        makes = λ a among. give_makes (pools ++ []) p x a (inl frees) (give_is xs a among);
        refusal = λ j reg q size full. absurd (not_full_done x.answer seen j returns.answer full);
        row = λ only. subst (λ a. CacheRow partitions (grown roots n (only_in p (gives xs))) x a (all x.thread)
            (with_list (all x.thread) p class (kept class (returned_by seen ∷ all x.thread p class)))) (sym returns.answer)
            (done_row _ x (step_of x.op) returns.step seen (all x.thread) _ returns.makes returns.returning
            (inl (
              p,
              class,
              class_grown p of,
              subst (λ z. OnlyActs (grown roots n (only_in p (gives xs))) x.line p (gives z)) is only,
              λ q c. refl,
            )));
        numbers = λ s. backs_numbered pools (roots p) n (gives xs) s (h.placed.journals p)
            (gives_alone pools (least_after_all 0 (roots p)) xs (root_at pools roots p) sound are_out) (h.placed.numbers p s)
            (gives_leave xs);
        unmaps = λ other q asked slot e done among at act. elim (grown_cases roots n (only_in p (gives xs)) q e among) [
          | inl old ↦ absurd (let low = h.placed.entered q e old in omega arith)
          | inr new ↦ absurd (no_unmap q e asked slot act new.0)
        ];
      }
    where
      class_grown : (q : ℕ) → IsOfClass roots seen.slot q class → IsOfClass (grown roots n (only_in p (gives xs))) seen.slot q class
      class_grown q (e, asked, slots, among, act, member) =
          (e, asked, slots, grown_old roots n (only_in p (gives xs)) q e among, act, member)

      not_unmap : (a : RootAct) (asked : ℕ) (slot : Numbered) → IsGive a → a ≡ Unmap asked slot → ⊥
      not_unmap a asked slot (slots, give) unmap = cc

      no_unmap : (q : ℕ) (e : RootEntry) (asked : ℕ) (slot : Numbered) → e.act ≡ Unmap asked slot →
          Contains (only_in p (gives xs) q) e.act → ⊥
      no_unmap q e asked slot act among =
          by_place (λ q bs. Contains bs e.act → ⊥) p (gives xs) (λ member. not_unmap e.act asked slot (give_is xs e.act member) act)
          (λ q ne member. not_in_none e.act member) q among

  called : (xs : List Numbered) → AreOut (root_at pools roots p) xs → xs ≡ spilled class (returned_by seen ∷ all x.thread p class) →
      p < partitions →
      IsCalled supers partitions n x pools [] roots p (gives xs) (all x.thread)
      (with_list (all x.thread) p class (kept class (returned_by seen ∷ all x.thread p class)))
      (all_returned (names xs) (root_at pools roots p)) (pool_at supers pools)
  called xs are_out is below =
      acted_called supers partitions n p ps x pools [] roots (gives xs) all _ (all_returned (names xs) (root_at pools roots p))
      (pool_at supers pools) h.placed (acted xs are_out is below)
      (asks_none supers n p pools (gives xs) (gives_ask xs)) (gives_after (pools ++ []) xs (root_at pools roots p))
      (ap (pool_at supers) (append-nil pools))

  below : p < partitions
  below = elim (cases_lt p partitions) [
    | inl low ↦ low
    | inr past ↦ let (e, asked, slots, among, act, member) = of in
        absurd (not_in_none e (subst (λ z. Contains z e) (h.placed.none_past p past) among))
  ]

pub return_is_done : ReturnIsDone
return_is_done supers partitions n p class ls ps x pools roots all seen h line returns of =
    let are_out = out supers partitions n p class ls ps x pools roots all seen h line returns of in (
      are_out,
      called supers partitions n p class ls ps x pools roots all seen h line returns of
          (spilled class (returned_by seen ∷ all x.thread p class))
          (spilled_out (root_at pools roots p) class (returned_by seen ∷ all x.thread p class) are_out) refl
          (below supers partitions n p class ls ps x pools roots all seen h line returns of),
    )

-- ---- a purge

module _ (supers partitions n : ℕ) (ls : List Line) (ps : List Played) (x : Played) (pools : List PoolEntry) (roots : Journals)
    (all : Caches)
    (h : IsSoFar supers partitions n ls ps pools roots all) (line : x.line ≡ n) (op : x.op ≡ ops.Purge)
    (answer : x.answer ≡ answers.Purged (all_listed (all x.thread) 0 partitions)) where
  -- what holds of each of the first partitions with its acts, and of the others without
  each_partition : (P : ℕ → List RootAct → Type 0) → ((q : ℕ) → q < partitions → P q (purge_acts (all x.thread q) 0 170)) →
      ((q : ℕ) → P q []) → (q : ℕ) → P q (purge_in partitions (all x.thread) q)
  each_partition P here others q = elim (cases_lt q partitions) [
    | inl low ↦ rw (lt-ltb q partitions low) (here q low)
    | inr past ↦ rw (le-ltb q partitions past) (others q)
  ]

  purge_here : (q : ℕ) → q < partitions → purge_in partitions (all x.thread) q ≡ purge_acts (all x.thread q) 0 170
  purge_here q low = rw (lt-ltb q partitions low) refl

  fit : (more : List PoolEntry) (q : ℕ) →
      ActsFit more (least_after_all 0 (roots q)) (purge_acts (all x.thread q) 0 170) (root_at pools roots q)
  fit more q =
      purge_fits more (least_after_all 0 (roots q)) 0 170 (all x.thread q) (root_at pools roots q)
      (journal_leaves pools (roots q) (h.placed.journals q)).sound
      (lists_are_out supers partitions n q x.thread ls ps pools roots all h)

  act_makes : (q : ℕ) (a : RootAct) → IsGive a ⊎ (a ≡ Purge) → MakesEntry (pools ++ []) q a x
  act_makes q a (inl give) = give_makes (pools ++ []) q x a (inr op) give
  act_makes q a (inr is) = subst (λ z. MakesEntry (pools ++ []) q z x) (sym is) op

  not_purged_full : (j : ℕ) → x.answer ≡ answers.Full j → ⊥
  not_purged_full j full = let is = answer in cc

  not_purged_done : (seen : Seen) → x.answer ≡ answers.Done seen → ⊥
  not_purged_done seen done = let is = answer in cc

  done : IsDone supers partitions n x pools [] roots (purge_in partitions (all x.thread)) (all x.thread) (λ p class. [])
  done = record {
    deed = record {
      line = line;
      fits = each_partition (λ q bs. ActsFit (pools ++ []) (least_after_all 0 (roots q)) bs (root_at pools roots q))
          (λ q low. fit (pools ++ []) q) (λ q. tt);
      makes = each_partition (λ q bs. (a : RootAct) → Contains bs a → MakesEntry (pools ++ []) q a x)
          (λ q low a among. act_makes q a (purge_is (all x.thread q) 0 170 a among))
          (λ q a among. absurd (not_in_none a among));
      none_past = λ q past. rw (le-ltb q partitions past) refl;
      refusal = λ j reg q size full. absurd (not_purged_full j full);
      row = subst (λ a. CacheRow partitions (grown roots n (purge_in partitions (all x.thread))) x a (all x.thread) (λ p class. []))
          (sym answer) (
            λ q low. ap (λ z. acts_of (grown roots n (purge_in partitions (all x.thread))) z q) line
                ∙ line_acts roots n (purge_in partitions (all x.thread)) q (h.placed.entered q) ∙ purge_here q low,
            refl,
            λ q c. refl,
          );
      numbers = each_partition (λ q bs. (s : SlotName) → IsNumbered (at_end (Some 0) (moves_of (roots q) s)) (moves_of (entries_at n bs) s))
          (λ q low s. backs_numbered pools (roots q) n (purge_acts (all x.thread q) 0 170) s (h.placed.journals q) (fit pools q)
          (h.placed.numbers q s) (purge_leaves (all x.thread q)))
          (λ q s. tt);
      unmaps = λ seen q asked slot e is. absurd (not_purged_done seen is);
    };
    asks = each_partition (λ q bs. (a : RootAct) → Contains bs a → asked_by a ≡ None) (λ q low. purge_asks (all x.thread q))
        (λ q a among. absurd (not_in_none a among));
  }

  pub purge_done : IsDone supers partitions n x pools [] roots (purge_in partitions (all x.thread)) (all x.thread) (λ p class. [])
      × ((p : ℕ) → p < partitions →
      root_at pools (grown roots n (purge_in partitions (all x.thread))) p ≡ purged
      (all_returned (names (all_of (all x.thread p) 0 170)) (root_at pools roots p)))
  purge_done = (
    done,
    λ p low. ap (λ z. root_at z (grown roots n (purge_in partitions (all x.thread))) p) (sym (append-nil pools))
        ∙ line_replays.roots partitions n ps x pools [] roots (purge_in partitions (all x.thread)) all (λ q class. []) p h.placed done.deed
        ∙ ap (λ z. root_after (pools ++ []) z (root_at pools roots p)) (purge_here p low)
        ∙ purge_after (pools ++ []) 0 170 (all x.thread p) (root_at pools roots p),
  )

pub purge_is_done : PurgeIsDone
purge_is_done supers partitions n ls ps x pools roots all h line op answer =
    purge_done supers partitions n ls ps x pools roots all h line op answer
