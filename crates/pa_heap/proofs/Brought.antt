-- What stays as a slot is brought back: stakes, what was seen of lists, and each other title that is free and on no list.
use Rattle.std.proofs.Common.{◌≡◌, ℕ, ◌*◌, ◌<◌, List, [], ◌∷◌, length, sym, ◌∙◌, ap, subst, arith, inl, inr}
use Rattle.std.specs.Prelude.{Contains}
use Rattle.std.proofs.lemmas.List.{length-set, append-nil}
use Rattle.pa_slot.specs.declared.title.Title.{Title}
use Rattle.pa_record.specs.declared.root.RootAct.{RootAct}
use Rattle.pa_region.specs.declared.view.Entry.{Entry}
use Rattle.pa_region.specs.declared.view.View.{View}
use Rattle.pa_region.specs.Views.{free_of, seen_of, stake_of}
use Rattle.pa_region.specs.Lending.{Lends}
use Rattle.pa_region.specs.Lists.{list_of, IsBeginning}
use Rattle.pa_region.proofs.LendBack.{begins_on}
use Rattle.pa_rules.specs.Lists.{cache_place}
use Rattle.pa_rules.specs.Sizes.{HasClass, class_total}
use Rattle.pa_cells.specs.declared.handle.Handle.{Handle}
use Rattle.pa_op_specs.specs.Stocks.{StockValue, WorkerLists, IsStock, titles_in}
use Rattle.pa_thread_state.specs.Changes.{BecomesFront, put_in_front}
use Rattle.pa_thread_state.specs.Giving.{Gives}
use Rattle.pa_thread_state.specs.Homing.{GoesHome, Spills, without_title, note_of_title}
use Rattle.pa_thread_state.proofs.Homing.{comes_lends, left_stake}
use Rattle.pa_heap.specs.Leaving.{WentBack}
use Rattle.pa_heap.proofs.Apart.{KeepsOthers, front_off}

-- What stays: whose thread state it is and by which rules it goes on, its registers, budget and stakes, and all that was seen of lists. A
-- title that is free and on no list is so still, at the number that was seen, but for that of the slot.
pub record Brings (h : Handle) (s after : StockValue) : Type 0 where
  pub thread : after.thread ≡ s.thread
  pub partitions : after.partitions ≡ s.partitions
  pub plain : after.plain_from ≡ s.plain_from
  pub registers : after.registers ≡ s.registers
  pub version : after.caches.version ≡ s.caches.version
  pub budget : after.view.budget ≡ s.view.budget
  pub stakes : (k : ℕ) → stake_of after.view k ≡ stake_of s.view k
  pub lists : (k : ℕ) → IsBeginning (list_of k s.view) (list_of k after.view)
  pub others : KeepsOthers h.title s after

-- ---- it goes to the front of a list

front_brings : (h : Handle) (class : ℕ) (s after : StockValue) → h.partition < 4 → HasClass s.caches.version class →
    length s.caches.lists ≡ 4 * class_total s.caches.version → BecomesFront h class s after → Brings h s after
front_brings h class s after low real long front = record {
  thread = ap (λ (z : StockValue). z.thread) front.after_is;
  partitions = ap (λ (z : StockValue). z.partitions) front.after_is;
  plain = ap (λ (z : StockValue). z.plain_from) front.after_is;
  registers = ap (λ (z : StockValue). z.registers) front.after_is;
  version = ap (λ (z : StockValue). z.caches.version) front.after_is;
  budget = ap (λ (v : View). v.budget) front.relinked.rest;
  stakes = λ k. ap (λ (v : View). stake_of v k) front.relinked.rest;
  lists = λ k. ([], ap (λ (v : View). list_of k v) front.relinked.rest ∙ sym (append-nil (list_of k s.view)));
  others = λ u other alone. (
    record {
      free = subst (λ (v : View). 0 < free_of v u) (sym front.relinked.rest) alone.free;
      off = λ q d among. front_off s.caches h.partition class h.title u low real long other alone.off q d
          (subst (λ (z : StockValue). Contains (titles_in z.caches q d) u) front.after_is among);
      well = alone.well;
    },
    ap (λ (v : View). seen_of v u) front.relinked.rest,
  );
}

-- ---- it goes to its root

pub home_brings : (line : ℕ) (h : Handle) (s after : StockValue) → GoesHome line h s after → Brings h s after
home_brings line h s after home = record {
  thread = ap (λ (z : StockValue). z.thread) home.same;
  partitions = ap (λ (z : StockValue). z.partitions) home.same;
  plain = ap (λ (z : StockValue). z.plain_from) home.same;
  registers = ap (λ (z : StockValue). z.registers) home.same;
  version = ap (λ (z : StockValue). z.caches.version) home.same;
  budget = lends.1.keeps.budget ∙ same_budget;
  stakes = λ k. lends.1.keeps.stakes k ∙ left_stake h.title s.view k;
  lists = λ k. lends.1.keeps.lists k;
  others = λ u other alone.
      let free : 0 < free_of after.view u = subst (λ n. 0 < n) (sym (home.frees u other)) alone.free in (
        record {
          free = free;
          off = λ p class among. alone.off p class (subst (λ (z : StockValue). Contains (titles_in z.caches p class) u) home.same among);
          well = alone.well;
        },
        home.numbers alone.well.0 u alone.well.1 free,
      );
}
  where
    left : View
    left = without_title h.title s.view

    lends : (es : List Entry) × Lends s.thread es left after.view
    lends = comes_lends h.class s.thread h.partition line left after.view (note_of_title h.title s.view) h.title home.comes

    same_budget : left.budget ≡ s.view.budget
    same_budget = omega arith

-- ---- its list spills, and then it goes to the front

-- titles went back to the root
given_brings : (line p : ℕ) (acts : List RootAct) (lists : ℕ → ℕ → List Title) (h : Handle) (s after : StockValue) →
    Gives line p acts lists s after → Brings h s after
given_brings line p acts lists h s after given = record {
  thread = given.same.0;
  partitions = given.same.1;
  plain = given.plain;
  registers = given.same.2;
  version = given.version;
  budget = given.budget;
  stakes = given.stakes;
  lists = given.lists;
  others = λ u other alone.
      let free : 0 < free_of after.view u = subst (λ n. 0 < n) (sym (given.frees u alone.off)) alone.free in (
        record {
          free = free;
          off = λ q d among. alone.off q d (given.listed q d u (subst (λ ts. Contains ts u) (given.kept q d) among));
          well = alone.well;
        },
        given.numbers alone.well.0 u alone.well.1 free,
      );
}

-- one after the other
brings_both : (h : Handle) (s u after : StockValue) → Brings h s u → Brings h u after → Brings h s after
brings_both h s u after one two = record {
  thread = two.thread ∙ one.thread;
  partitions = two.partitions ∙ one.partitions;
  plain = two.plain ∙ one.plain;
  registers = two.registers ∙ one.registers;
  version = two.version ∙ one.version;
  budget = two.budget ∙ one.budget;
  stakes = λ k. two.stakes k ∙ one.stakes k;
  lists = λ k. begins_on (list_of k s.view) (list_of k u.view) (list_of k after.view) (one.lists k) (two.lists k);
  others = λ t other alone.
      let (still, same) = one.others t other alone in
      let (later, again) = two.others t other still in
      (later, again ∙ same);
}

-- how many lists a thread state had, by what it has after one of them was set
pub long_before : (caches after : WorkerLists) (p class : ℕ) (t : Title) → after ≡ put_in_front p class t caches →
    length after.lists ≡ 4 * class_total after.version → length caches.lists ≡ 4 * class_total caches.version
long_before caches after p class t is long =
    sym (length-set caches.lists (cache_place caches.version p class) (record { class = class; titles = t ∷ titles_in caches p class }))
    ∙ subst (λ (cs : WorkerLists). length cs.lists ≡ 4 * class_total cs.version) is long

pub spill_brings : (line class : ℕ) (h : Handle) (s after : StockValue) → h.partition < 4 → HasClass s.caches.version class →
    IsStock after → Spills line h class s after → Brings h s after
spill_brings line class h s after low real sound spills =
    brings_both h s spills.between after
    (given_brings line h.partition _ _ h s spills.between spills.gives)
    (front_brings h class spills.between after low (subst (λ v. HasClass v class) (sym spills.gives.version) real)
    (long_before spills.between.caches after.caches h.partition class h.title (ap (λ (z : StockValue). z.caches) spills.front.after_is)
    sound.lists.count)
    spills.front)

-- ---- whichever it is

pub went_brings : (line : ℕ) (h : Handle) (s after : StockValue) → IsStock s → WentBack line h s after → Brings h s after
went_brings line h s after is went = elim went.brought [
  | inl (class, class_is, real, room, front) ↦ front_brings h class s after low real is.lists.count front
  | inr (root, settled) ↦ elim settled [
    | inl (bare, home) ↦ home_brings line h s after home
    | inr (class, class_is, real, some, spills) ↦ spill_brings line class h s after low real went.stock spills
  ]
]
  where
    low : h.partition < 4
    low = went.free.made.partition
