-- A root that opens the super page which it asked the pool for.
use Rattle.std.proofs.Common.{◌≡◌, ℕ, ◌<◌, [], Some, length, sym, ◌∙◌, ap, subst, arith}
use Rattle.std.specs.Prelude.{IsNone}
use Rattle.pa_region.specs.declared.view.View.{View}
use Rattle.pa_region.specs.Lists.{list_of, IsBeginning}
use Rattle.pa_region.specs.Hands.{united}
use Rattle.pa_region.specs.Lending.{Lends}
use Rattle.pa_region.specs.Aware.{IsAware}
use Rattle.pa_region.proofs.TakeLaws.{right_begins}
use Rattle.pa_record.specs.declared.pool.PoolAct.TheVariants.{Take}
use Rattle.pa_record.specs.Pool.{act_at, FoundRun}
use Rattle.pa_record.specs.Root.{Root, span_for, opened}
use Rattle.pa_record.proofs.PoolSteps.{act_at_more}
use Rattle.pa_pool.specs.Calls.{HasSeenTake}
use Rattle.pa_root.specs.Reading.{pools_read, pools_seen}
use Rattle.pa_root.specs.Keeping.{RootState, IsRootSound}
use Rattle.pa_root.specs.Laws.{with_view}
use Rattle.pa_root.specs.Asking.{IsAskedFor, IsRunNote}
use Rattle.pa_root.specs.Filling.{CanTakePage, IsReadyFor, ready_root}
use Rattle.pa_root.proofs.Lists.{pools_more}
use Rattle.pa_root.proofs.Ready.{roots_are_ready, super_is}
use Rattle.pa_root.proofs.Refusing.{pool_says}
use Rattle.pa_root.proofs.Seeing.{seeing_more_keeps}
use Rattle.pa_root.proofs.TakesSeen.{asked_seen}

-- The pool found `count` super pages for a sound root. The root's seat had the view w once the pool was asked, and has taken the note.
pub record HasPages (p line count asked first : ℕ) (s : RootState) (r : ℕ) (v a w note : View) : Type 0 where
  pub sound : IsRootSound p s
  pub aware : IsAware s.view
  pub now_aware : IsAware w
  pub both_aware : IsAware (united w note)
  pub long : length w.words ≡ length note.words
  pub asks : IsAskedFor r line p count (Some first) asked v a w
  pub run : IsRunNote first count asked a note
  pub own : (k : ℕ) → Lends k [] s.view w
  pub same : (k : ℕ) → list_of k w ≡ list_of k s.view

module _ (p line count asked first : ℕ) (s : RootState) (r : ℕ) (v a w note : View)
    (has : HasPages p line count asked first s r v a w note) where
  pub still_sound : IsRootSound p (with_view w s)
  still_sound = seeing_more_keeps p s w has.sound has.aware has.now_aware (has.own 0).keeps (has.same p)

  pub pages_found : FoundRun (pools_seen (united w note)) asked count first
  pages_found =
      let said : act_at (pools_seen a) asked ≡ Some (Take count (Some first)) =
      pool_says a asked count line p (Some first) r v w has.asks in
      let there : act_at (pools_seen note) asked ≡ Some (Take count (Some first)) =
      subst (λ es. act_at es asked ≡ Some (Take count (Some first))) (sym (ap pools_read has.run.list)) said in
      let (rest, more) = pools_more note (united w note) (right_begins w note 4 has.both_aware) in
      subst (λ es. act_at es asked ≡ Some (Take count (Some first))) (sym more)
      (act_at_more (pools_seen note) rest asked (Take count (Some first)) there)

  pub pages_seen : HasSeenTake p asked first count (united w note)
  pages_seen = asked_seen r line p count first asked v a w w note has.asks has.run has.both_aware

-- a root that opens one is ready for a fill
module _ (p line asked first class : ℕ) (s : RootState) (r : ℕ) (v a w note : View) (has : HasPages p line 1 asked first s r v a w note)
    (real : class < 170) (none : IsNone (span_for class s.root)) where
  pub page_ready : IsReadyFor p class (Some asked) s (united w note)
  page_ready =
      let u = united w note in
      let can : CanTakePage p first asked (with_view w s) note = record {
        sound = still_sound p line 1 asked first s r v a w note has;
        aware = has.now_aware;
        both_aware = has.both_aware;
        long = has.long;
        has = has.run.has;
      } in
      let ready =
      roots_are_ready.with_page p class first asked (with_view w s) note can real none
      (pages_found p line 1 asked first s r v a w note has) has.asks.later in
      record {
        sound = has.sound;
        aware = ready.aware;
        hosts = ready.hosts;
        own_list = ready.own_list ∙ has.same p;
        pool_list = subst (λ l. IsBeginning l (list_of 4 u)) (has.same 4) ready.pool_list;
        undone = λ t. let x = (has.own 0).keeps.undone t in let y = ready.undone t in omega arith;
        slots = ready.slots;
        class_is = real;
        asked_if = ready.asked_if;
        later = ready.later;
      }

  pub page_root : (after : Root) → after ≡ opened first asked s.root → after ≡ ready_root (Some asked) s (united w note)
  page_root after e =
      e ∙ ap (λ n. opened n asked s.root)
      (sym (super_is (pools_seen (united w note)) asked first (pages_found p line 1 asked first s r v a w note has)))
