-- The run with a line more.
use Rattle.std.proofs.Common.{◌≡◌, ℕ, ◌+◌, ◌<◌, List, [], ◌∷◌, ◌++◌, Option, Some, None, sym, ◌∙◌, ap, subst, arith, inl, inr}
use Rattle.std.specs.Prelude.{Contains}
use Rattle.std.proofs.lemmas.List.Elements.{Contains-append_left, Contains-push, Contains-push_cases}
use Rattle.pa_trace.specs.declared.script.Op.TheVariants as ops
use Rattle.pa_record.specs.declared.entry.Answer.TheVariants as answers
use Rattle.pa_record.specs.declared.pool.PoolEntry.{PoolEntry}
use Rattle.pa_record.specs.declared.root.RootEntry.{RootEntry}
use Rattle.pa_record.specs.declared.root.RootAct.{RootAct}
use Rattle.pa_record.specs.declared.root.RootAct.TheVariants.{Fill, Map, Full, Give, Unmap, Purge}
use Rattle.pa_record.proofs.PoolSteps.{slice_get_more, act_at_more, pool_grows}
use Rattle.pa_record.proofs.Lawful.{journal_grows}
use Rattle.pa_lists.proofs.Pairs.{pairs_push}
use Rattle.pa_rules.specs.declared.played.Played.{Played}
use Rattle.pa_rules.specs.Roots.{Journals, IsEntry, MakesEntry, MakesFull, IsFull}
use Rattle.pa_rules.specs.Caches.{Cache, Caches, with_cache, no_caches}
use Rattle.pa_legal.specs.Numbers.{moves_of, IsNumbered}
use Rattle.pa_legal.specs.Flows.{UnmapsNext}
use Rattle.pa_heap_effects.specs.Deeds.{Acts, entries_at, grown, root_at, root_after, IsPlacedTo, IsDeed}
use Rattle.pa_heap_effects.specs.Laws.{LineExtends, LineReplays}
use Rattle.pa_heap_effects.proofs.Growing.{IsMore, grown_cases, grown_old, lines_before, journal_more, sorted_more}
use Rattle.pa_heap_effects.proofs.Rows.{Stays, caches_stay, caches_push}
use Rattle.pa_legal.proofs.Growing.{moves_append, numbered_append}

-- ---- moves

-- ---- what makes an entry, over a longer pool

full_more : (pools more : List PoolEntry) (p : ℕ) (class : Option ℕ) (asked : ℕ) (x : Played) → MakesFull pools p class asked x →
    MakesFull (pools ++ more) p class asked x
full_more pools more p None asked x (size, asks, none) = (size, asks, act_at_more pools more asked _ none)
full_more pools more p (Some class) asked x h = h

makes_more : (pools more : List PoolEntry) (p : ℕ) (act : RootAct) (x : Played) → MakesEntry pools p act x →
    MakesEntry (pools ++ more) p act x
makes_more pools more p (Fill class asked slots) x h = h
makes_more pools more p (Map asked slot len) x h = h
makes_more pools more p (Full class asked) x h = full_more pools more p class asked x h
makes_more pools more p (Give slots) x h = h
makes_more pools more p (Unmap asked slot) x h = h
makes_more pools more p Purge x h = h

-- ---- a line more

module _ (partitions n : ℕ) (ps : List Played) (x : Played) (pools more : List PoolEntry) (roots : Journals) (acts : Acts) (all : Caches)
    (next : Cache) (h : IsPlacedTo partitions n ps pools roots all) (d : IsDeed partitions n x pools more roots acts (all x.thread) next)
  where
    journal_is : (p : ℕ) → IsMore (pools ++ more) (roots p) (grown roots n acts p)
        (root_after (pools ++ more) (acts p) (root_at pools roots p))
    journal_is p =
        journal_more (pools ++ more) (roots p) n (acts p) (root_at pools roots p)
        (journal_grows.pool_more pools more (roots p) (h.journals p))
        (journal_grows.pool_same pools more (roots p) (h.journals p)) (d.fits p)

    -- what a record says, of those before the line and of the line's own
    each_record : (P : Played → Type 0) → ((y : Played) → Contains ps y → P y) → P x → (y : Played) → Contains (ps ++ x ∷ []) y → P y
    each_record P old new y among = elim (Contains-push_cases ps x y among) [
      | inl before ↦ old y before
      | inr same ↦ subst P same new
    ]

    stays : (y : Played) → Contains ps y → Stays roots (grown roots n acts) y.line
    stays y among = record {
      acts = λ q. lines_before roots n y.line acts q (h.recorded y among);
      more = λ q e member. grown_old roots n acts q e member;
    }

    unmaps_old : (y : Played) → Contains ps y → UnmapsNext (grown roots n acts) y
    unmaps_old y among seen p asked slot e answer member line is = elim (grown_cases roots n acts p e member) [
      | inl old ↦ h.unmaps y among seen p asked slot e answer old line is
      | inr new ↦ absurd (let low = h.recorded y among in let at = new.1 in omega arith)
    ]

    refusals_old : (y : Played) → Contains ps y → (j reg p size : ℕ) → y.answer ≡ answers.Full j → y.op ≡ ops.Alloc reg p size →
        (e : RootEntry) × IsEntry (grown roots n acts) p j e × (e.line ≡ y.line) × IsFull e.act
    refusals_old y among j reg p size answer op =
        let (e, there, line, full) = h.refusals y j reg p size among answer op in
        (e, slice_get_more (roots p) (entries_at n (acts p)) j e there, line, full)

    extended : IsPlacedTo partitions (n + 1) (ps ++ x ∷ []) (pools ++ more) (grown roots n acts) (with_cache all x.thread next)
    extended = record {
      rising = pairs_push (λ (y z : Played). y.line < z.line) ps x h.rising
          (λ y among. let low = h.recorded y among in let at = d.line in omega arith);
      recorded = each_record (λ y. y.line < n + 1) (λ y among. let low = h.recorded y among in omega arith)
          (let at = d.line in omega arith);
      entered = λ p e among. elim (grown_cases roots n acts p e among) [
        | inl old ↦ let low = h.entered p e old in omega arith
        | inr new ↦ let at = new.1 in omega arith
      ];
      sorted = λ p. sorted_more (roots p) n (acts p) (h.sorted p) (λ e among. let low = h.entered p e among in omega arith);
      journals = λ p. (journal_is p).fits;
      lines = λ p e among. elim (grown_cases roots n acts p e among) [
        | inl old ↦
            let (y, of, makes) = h.lines p e old in
            (y, (Contains-append_left ps (x ∷ []) y of.0, of.1), makes_more pools more p e.act y makes)
        | inr new ↦ (x, (Contains-push ps x, d.line ∙ sym new.1), d.makes p e.act new.0)
      ];
      none_past = λ p past. ap (λ es. es ++ entries_at n (acts p)) (h.none_past p past) ∙ ap (entries_at n) (d.none_past p past);
      refusals = λ y j reg p size among. each_record
          (λ z. z.answer ≡ answers.Full j → z.op ≡ ops.Alloc reg p size → (e : RootEntry) × IsEntry (grown roots n acts) p j e ×
          (e.line ≡ z.line) × IsFull e.act)
          (λ z member. refusals_old z member j reg p size)
          (λ answer op. let (e, there, line, full) = d.refusal j reg p size answer op in (e, there, line ∙ sym d.line, full))
          y among;
      caches = caches_push partitions (grown roots n acts) ps x no_caches all next
          (caches_stay partitions roots (grown roots n acts) ps no_caches all stays h.caches) d.row;
      numbers = λ p s. subst (λ ms. IsNumbered (Some 0) ms) (sym (moves_append (roots p) (entries_at n (acts p)) s))
          (numbered_append (Some 0) (moves_of (roots p) s) (moves_of (entries_at n (acts p)) s) (h.numbers p s) (d.numbers p s));
      unmaps = each_record (λ y. UnmapsNext (grown roots n acts) y) unmaps_old d.unmaps;
    }

pub line_extends : LineExtends
line_extends partitions n ps x pools more roots acts all next h d = extended partitions n ps x pools more roots acts all next h d

pub line_replays : LineReplays
line_replays = record {
  roots = λ partitions n ps x pools more roots acts all next p h d.
      (journal_is partitions n ps x pools more roots acts all next h d p).root;
  pool = λ supers pools e. pool_grows.next supers pools e;
}
