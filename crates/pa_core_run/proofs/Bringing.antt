-- Titles that come by a line: they are cut, some of them come to the thread, and then the core shows the next roots; and titles that go
-- back by one.
use Rattle.std.proofs.Common.{◌≡◌, ℕ, zero, suc, ◌+◌, ◌*◌, ◌≤◌, List, [], ◌∷◌, ◌++◌, map, refl, sym, ◌∙◌, ap, arith, ◌⊎◌}
use Rattle.std.specs.Prelude.{Contains}
use Rattle.pa_slot.specs.declared.word.SlotName.{SlotName}
use Rattle.pa_slot.specs.declared.title.Title.{Title}
use Rattle.pa_machine.specs.Events.{State}
use Rattle.pa_record.specs.Spans.{name_of}
use Rattle.pa_record.specs.Laws.{times}
use Rattle.pa_rules.specs.declared.played.Played.{Played}
use Rattle.pa_rules.specs.Registers.{Reg}
use Rattle.pa_rules.specs.Caches.{Cache}
use Rattle.pa_rules.proofs.Counted.{times_cons}
use Rattle.pa_slot_effects.specs.Shown.{owns, points}
use Rattle.pa_core_steps.proofs.Joining.{run_join}
use Rattle.pa_one_run.specs.Parts.{Parts}
use Rattle.pa_one_run.specs.Before.{root_at}
use Rattle.pa_one_run.proofs.Filed.{IsFiled}
use Rattle.pa_core_run.specs.Ledger.{Titles, IsShown}
use Rattle.pa_core_run.specs.Moves.{StandOnce, AllApart, named_in, asking, CanBeCut, IsReached}
use Rattle.pa_core_run.specs.Standing.{Standing, in_registers, in_lists, ledger_of}
use Rattle.pa_core_run.specs.Fronts.{MadeIn, ThereIn, KeptIn, titles_in, IsFrontOf}
use Rattle.pa_core_run.proofs.Acting.{beside_both}
use Rattle.pa_core_run.proofs.Moving.{keeping}
use Rattle.pa_core_run.proofs.Named.{made_unique}
use Rattle.pa_core_run.proofs.Batching.{kept_with, batch_goes}
use Rattle.pa_core_run.proofs.Taking.{kept_without, batch_comes}
use Rattle.pa_core_run.proofs.Making.{with_titles, renamed, cuts_go}
use Rattle.pa_core_run.proofs.Stepped.{below}
use Rattle.pa_core_run.proofs.Issued.{listing, lists_others, names_next, IsBrought}

-- how often titles have a name
pub named_times : (y : SlotName) (ts : List Title) → named_in y ts ≡ times y (map name_of ts)
named_times y [] = refl
named_times y (t ∷ ts) = let a = times_cons y (name_of t) (map name_of ts) in let b = named_times y ts in omega arith

-- a ledger of other lists
asking_lists : (names : Titles) (actors bytes partitions : ℕ) (st next : Standing) (s : State)
    → ((g : Reg → ℕ) (k : ℕ) → in_registers g next k ≡ in_registers g st k) → ((y : SlotName) → next.word y ≡ st.word y)
    → ((y : SlotName) → next.content y ≡ st.content y) →
    IsShown names actors bytes (asking (ledger_of partitions st) (λ k y. in_lists partitions next y k)) s →
    IsShown names actors bytes (ledger_of partitions next) s
asking_lists names actors bytes partitions st next s registers words contents h = record {
  good = h.good;
  many = h.many;
  long = h.long;
  own = λ k t low made. let e = registers (owns (name_of t)) k in let b = h.own k t low made in omega arith;
  ref = λ k t low made. let e = registers (points (name_of t)) k in let b = h.ref k t low made in omega arith;
  free = h.free;
  kept = h.kept;
  words = λ t held. h.words t held ∙ sym (words (name_of t));
  contents = λ t some. let had = h.contents t some in λ i low inside. had i low inside ∙ sym (contents (name_of t));
  clean = h.clean;
  sealed = h.sealed;
  raw = h.raw;
  there = h.there;
}

module _ (a : Parts) (before rest : List Played) (x : Played) (h : IsFiled a) (parts : a.ps ≡ before ++ x ∷ rest) (st : Standing)
    (f : IsFrontOf a x.line before (x ∷ rest) st) (s : State)
    (shown : IsShown (titles_in a (root_at a x.line)) (a.threads + 1) (2097152 * a.supers) (ledger_of a.partitions st) s) where
  -- the titles that are new, those that come to the thread, and its lists with them
  pub record Brings (new taken : List Title) (list : Cache) : Type 0 where
    pub can : (t : Title) → Contains new t → CanBeCut (titles_in a (root_at a x.line)) (2097152 * a.supers) t ×
        ((ledger_of a.partitions st).word (name_of t) ≡ 0)
    pub apart : AllApart new
    pub kept : (t : Title) → Contains taken t → MadeIn a t × kept_with (KeptIn (root_at a x.line)) new t
    pub alone : StandOnce taken
    pub lists : (y : SlotName) →
        in_lists a.partitions (listing a before rest x h parts st f s shown list) y (suc x.thread) ≤ in_lists a.partitions st y
        (suc x.thread) + named_in y taken
    pub there : (u : Title) → ThereIn (root_at a x.line) u ⊎ Contains new u → ThereIn (root_at a (x.line + 1)) u
    pub next : (u : Title) → KeptIn (root_at a (x.line + 1)) u → kept_without (kept_with (KeptIn (root_at a x.line)) new) taken u

  lists_same : (list : Cache) (j : ℕ) (y : SlotName) → (j ≡ suc x.thread → ⊥) →
      in_lists a.partitions (listing a before rest x h parts st f s shown list) y j ≤ in_lists a.partitions st y j
  lists_same list zero y ne = omega arith
  lists_same list (suc j) y ne = let e = lists_others a before rest x h parts st f s shown list j y (λ same. ne (ap suc same)) in
      omega arith

  registers_same : (list : Cache) (g : Reg → ℕ) (k : ℕ) →
      in_registers g (listing a before rest x h parts st f s shown list) k ≡ in_registers g st k
  registers_same list g zero = refl
  registers_same list g (suc k) = refl

  pub titles_come : (new taken : List Title) (list : Cache) → Brings new taken list → (mid : State) ×
      IsBrought a before rest x h parts st f s shown list mid
  titles_come new taken list b =
      let names_old = titles_in a (root_at a x.line) in
      let actors = a.threads + 1 in
      let bytes = 2097152 * a.supers in
      let k = suc x.thread in
      let down = below a before rest x h parts st f s shown in
      let after = listing a before rest x h parts st f s shown list in
      let Cut : Title → Type 0 = kept_with (KeptIn (root_at a x.line)) new in
      let (cut, c) = cuts_go new names_old actors bytes (ledger_of a.partitions st) s k shown (omega arith) b.can b.apart in
      let (mid, m) = batch_comes (with_titles names_old new) actors bytes k (omega arith) down (made_unique a h) taken
      (ledger_of a.partitions st) (λ j y. in_lists a.partitions after y j) Cut cut c.shown
      b.kept b.alone b.lists (λ j y ne. lists_same list j y ne) in (
        mid,
        record {
          events = c.events ++ m.events;
          run = run_join s cut mid c.events m.events shown.good c.run m.run;
          beside = beside_both k c.events m.events c.beside m.beside;
          now = asking_lists (names_next a before rest x h parts st f s shown) actors bytes a.partitions st after mid (registers_same list)
              (λ y. refl) (λ y. refl)
              (renamed (keeping (with_titles names_old new) (kept_without Cut taken))
              (names_next a before rest x h parts st f s shown) actors bytes
              (asking (ledger_of a.partitions st) (λ j y. in_lists a.partitions after y j)) mid (λ u. refl) (λ u made. made) b.there b.next
              m.shown);
        },
      )

  -- Titles of which the thread's lists had more before than after go to actor 0, if registers, words and contents stay.
  pub titles_go : (from last : Standing) (ts : List Title) (mid : State) →
      IsShown (titles_in a (root_at a x.line)) (a.threads + 1) (2097152 * a.supers) (ledger_of a.partitions from) mid →
      ((g : Reg → ℕ) (k : ℕ) → in_registers g last k ≡ in_registers g from k) → ((y : SlotName) → last.word y ≡ from.word y)
      → ((y : SlotName) → last.content y ≡ from.content y) → ((t : Title) → Contains ts t → MadeIn a t) →
      ((y : SlotName) → in_lists a.partitions last y (suc x.thread) + named_in y ts ≤ in_lists a.partitions from y (suc x.thread)) →
      ((j : ℕ) (y : SlotName) → (j ≡ suc x.thread → ⊥) → in_lists a.partitions last y j ≤ in_lists a.partitions from y j) →
      (after : State) × IsReached (keeping (titles_in a (root_at a x.line)) (kept_with (KeptIn (root_at a x.line)) ts)) (a.threads + 1)
      (2097152 * a.supers) (ledger_of a.partitions last) mid (suc x.thread) after
  titles_go from last ts mid now registers words contents made less others =
      let names_old = titles_in a (root_at a x.line) in
      let actors = a.threads + 1 in
      let bytes = 2097152 * a.supers in
      let down = below a before rest x h parts st f s shown in
      let (after, r) = batch_goes names_old actors bytes (suc x.thread) (omega arith) down (made_unique a h) ts
      (ledger_of a.partitions from) (λ j y. in_lists a.partitions last y j) (KeptIn (root_at a x.line)) mid now made less others
      in (
        after,
        record {
          events = r.events;
          run = r.run;
          beside = r.beside;
          shown = asking_lists (keeping names_old (kept_with (KeptIn (root_at a x.line)) ts)) actors bytes a.partitions from last after
              registers words contents r.shown;
        },
      )
