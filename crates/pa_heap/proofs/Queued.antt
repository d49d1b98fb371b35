-- The slots of a worker's queue as some of them leave it.
use Rattle.std.proofs.Common.{◌≡◌, ℕ, ◌<◌, List, [], ◌∷◌, ◌++◌, Some, refl, sym, ◌∙◌, ap, subst, inl, inr, append_assoc}
use Rattle.std.specs.Prelude.{◌≢◌}
use Rattle.std.proofs.lemmas.List.{append-nil}
use Rattle.std.proofs.lemmas.List.Elements.{Contains-push_cases}
use Rattle.pa_slot.specs.Titles.{IsWellFormed}
use Rattle.pa_lists.proofs.Members.{later_in}
use Rattle.pa_lists.proofs.Pairs.{pairs_head, pairs_tail, pairs_push}
use Rattle.pa_region.specs.Views.{stake_of}
use Rattle.pa_rules.specs.Sizes.{HasClass}
use Rattle.pa_cells.specs.declared.handle.Handle.{Handle}
use Rattle.pa_cells.specs.Handles.{SlotsStaySeen}
use Rattle.pa_delay.specs.Queue.{QueueList, GoesPast, GoesFirst, AreBytes, with_waiting}
use Rattle.pa_op_specs.specs.Stocks.{StockValue, IsStock}
use Rattle.pa_op_specs.specs.Workers.{HasItsStake}
use Rattle.pa_thread_state.specs.Changes.{IsBack}
use Rattle.pa_thread_state.specs.Stopping.{KeepsItsStake}
use Rattle.pa_heap.specs.Waiting.{CanWait, HoldsQueue}
use Rattle.pa_heap.specs.Leaving.{WentBack, AllWentBack, CanComeBehind}
use Rattle.pa_heap.proofs.Brought.{Brings, went_brings}

-- a slot that waits can be brought back
pub can_return : (h : Handle) (s : StockValue) → CanWait h s → IsBack h s
can_return h s can = record { free = can.apart.free; new = can.apart.off; made = can.made }

-- a slot that waits can wait still, after another was brought back
can_still : SlotsStaySeen → (h g : Handle) (s after : StockValue) → Brings h s after → (h.title ≡ g.title → ⊥) → CanWait g s →
    CanWait g after
can_still stays h g s after brings other can = record {
  class = can.class;
  class_is = can.class_is;
  real = subst (λ v. HasClass v can.class) (sym brings.version) can.real;
  apart = (brings.others g.title other can.apart).0;
  made = stays g s.view after.view can.made (brings.lists g.partition);
}

-- the queue behind its front, after that was brought back
pub holds_rest : SlotsStaySeen → (h : Handle) (rest : List Handle) (s after : StockValue) → Brings h s after → HoldsQueue (h ∷ rest) s →
    HoldsQueue rest after
holds_rest stays h rest s after brings holds = record {
  each = λ g among. can_still stays h g s after brings (pairs_head R h g rest holds.differ among) (holds.each g (later_in h g rest among));
  differ = pairs_tail R h rest holds.differ;
}
  where
    R : Handle → Handle → Type 0
    R g k = g.title ≢ k.title

-- the seat has its stake still
stake_on : (h : Handle) (s after : StockValue) → Brings h s after → HasItsStake s → HasItsStake after
stake_on h s after brings stake =
    subst (λ k. 0 < stake_of after.view k) (sym brings.thread) (subst (λ n. 0 < n) (sym (brings.stakes s.thread)) stake)

-- one slot more came back
pub all_more : (line : ℕ) (hs : List Handle) (h : Handle) (s now next : StockValue) → AllWentBack line hs s now → WentBack line h now next →
    AllWentBack line (hs ++ h ∷ []) s next
all_more line [] h s now next all one = (next, subst (λ (z : StockValue). WentBack line h z next) all one, refl)
all_more line (g ∷ hs) h s now next (mid, first, rest) one = (mid, first, all_more line hs h mid now next rest one)

-- ---- the front goes until few enough bytes are left

-- Some slots left: what goes past the limit of the rest goes past it with them.
pub record Evicting (line : ℕ) (s : StockValue) (q : QueueList) (now : StockValue) (r : QueueList) : Type 0 where
  pub gone : List Handle
  pub back : AllWentBack line gone s now
  pub rest : r ≡ with_waiting q r.slots
  pub past : (more stays : List Handle) → GoesPast AreBytes q.limit r.slots more stays →
      GoesPast AreBytes q.limit q.slots (gone ++ more) stays
  pub holds : HoldsQueue r.slots now
  pub keeps : KeepsItsStake s now
  pub budget : now.view.budget ≡ s.view.budget

pub evicted_none : (line : ℕ) (s : StockValue) (q : QueueList) → HoldsQueue q.slots s → HasItsStake s → Evicting line s q s q
evicted_none line s q holds stake = record {
  gone = [];
  back = refl;
  rest = refl;
  past = λ more stays past. past;
  holds = holds;
  keeps = record { thread = refl; stake = stake };
  budget = refl;
}

pub evicted_more : SlotsStaySeen → (line : ℕ) (h : Handle) (s now next : StockValue) (q r t : QueueList) → IsStock now →
    Evicting line s q now r → r.slots ≡ h ∷ t.slots → t ≡ with_waiting r t.slots → GoesFirst r t.slots h → WentBack line h now next →
    Evicting line s q next t
evicted_more stays line h s now next q r t is some parts rest first went =
    let brings = went_brings line h now next is went in
    record {
      gone = some.gone ++ h ∷ [];
      back = all_more line some.gone h s now next some.back went;
      rest = rest ∙ ap (λ (z : QueueList). with_waiting z t.slots) some.rest;
      past = λ more stay past.
          subst (λ hs. GoesPast AreBytes q.limit q.slots hs stay) (sym (append_assoc some.gone (h ∷ []) more))
          (some.past (h ∷ more) stay (subst (λ n. GoesPast AreBytes n r.slots (h ∷ more) stay) (limit some.rest)
          (first more stay (subst (λ n. GoesPast AreBytes n t.slots more stay) (sym (limit some.rest)) past))));
      holds = holds_rest stays h t.slots now next brings (subst (λ hs. HoldsQueue hs now) parts some.holds);
      keeps = record { thread = brings.thread ∙ some.keeps.thread; stake = stake_on h now next brings some.keeps.stake };
      budget = brings.budget ∙ some.budget;
    }
  where
    limit : r ≡ with_waiting q r.slots → r.limit ≡ q.limit
    limit is = ap (λ (z : QueueList). z.limit) is

-- none goes any more
pub evicted_all : (line : ℕ) (s now : StockValue) (q r t : QueueList) → Evicting line s q now r →
    GoesPast AreBytes r.limit r.slots [] t.slots →
    (gone : List Handle) × GoesPast AreBytes q.limit q.slots gone t.slots × AllWentBack line gone s now
evicted_all line s now q r t some past = (
  some.gone,
  subst (λ hs. GoesPast AreBytes q.limit q.slots hs t.slots) (append-nil some.gone)
      (some.past [] t.slots (subst (λ n. GoesPast AreBytes n r.slots [] t.slots) (ap (λ (z : QueueList). z.limit) some.rest) past)),
  some.back,
)

-- ---- one slot more waits

-- a slot that comes to the queue can wait there
waits_now : (h : Handle) (q : QueueList) (s : StockValue) (words class : ℕ) → CanComeBehind h q s → IsWellFormed words h.title →
    h.class ≡ Some class → HasClass s.caches.version class → CanWait h s
waits_now h q s words class can well of real = record {
  class = class;
  class_is = of;
  real = real;
  apart = record { free = can.back.free; off = can.back.new; well = (words, well) };
  made = can.back.made;
}

pub holds_more : (h : Handle) (q : QueueList) (s : StockValue) (words class : ℕ) → CanComeBehind h q s → IsWellFormed words h.title →
    h.class ≡ Some class → HasClass s.caches.version class → HoldsQueue q.slots s → HoldsQueue (q.slots ++ h ∷ []) s
holds_more h q s words class can well of real holds = record {
  each = λ g among. elim (Contains-push_cases q.slots h g among) [
    | inl before ↦ holds.each g before
    | inr last ↦ subst (λ k. CanWait k s) last (waits_now h q s words class can well of real)
  ];
  differ = pairs_push (λ (g k : Handle). g.title ≢ k.title) q.slots h holds.differ can.new;
}

-- the queue is as it was after another slot was brought back
pub holds_beside : SlotsStaySeen → (line : ℕ) (h : Handle) (q : QueueList) (s after : StockValue) → IsStock s →
    CanComeBehind h q s → WentBack line h s after → HoldsQueue q.slots s → HoldsQueue q.slots after
holds_beside stays line h q s after is can went holds = record {
  each = λ g among. can_still stays h g s after (went_brings line h s after is went) (λ same. can.new g among (sym same))
      (holds.each g among);
  differ = holds.differ;
}

-- ---- all go

-- Some slots left, in order.
pub record Draining (line : ℕ) (s : StockValue) (q : QueueList) (now : StockValue) (r : QueueList) : Type 0 where
  pub gone : List Handle
  pub back : AllWentBack line gone s now
  pub parts : q.slots ≡ gone ++ r.slots
  pub rest : r ≡ with_waiting q r.slots
  pub holds : HoldsQueue r.slots now
  pub keeps : KeepsItsStake s now
  pub budget : now.view.budget ≡ s.view.budget

pub drained_none : (line : ℕ) (s : StockValue) (q : QueueList) → HoldsQueue q.slots s → HasItsStake s → Draining line s q s q
drained_none line s q holds stake = record {
  gone = [];
  back = refl;
  parts = refl;
  rest = refl;
  holds = holds;
  keeps = record { thread = refl; stake = stake };
  budget = refl;
}

pub drained_more : SlotsStaySeen → (line : ℕ) (h : Handle) (s now next : StockValue) (q r t : QueueList) → IsStock now →
    Draining line s q now r → r.slots ≡ h ∷ t.slots → t ≡ with_waiting r t.slots → WentBack line h now next →
    Draining line s q next t
drained_more stays line h s now next q r t is some parts rest went =
    let brings = went_brings line h now next is went in
    record {
      gone = some.gone ++ h ∷ [];
      back = all_more line some.gone h s now next some.back went;
      parts = some.parts ∙ ap (λ hs. some.gone ++ hs) parts ∙ sym (append_assoc some.gone (h ∷ []) t.slots);
      rest = rest ∙ ap (λ (z : QueueList). with_waiting z t.slots) some.rest;
      holds = holds_rest stays h t.slots now next brings (subst (λ hs. HoldsQueue hs now) parts some.holds);
      keeps = record { thread = brings.thread ∙ some.keeps.thread; stake = stake_on h now next brings some.keeps.stake };
      budget = brings.budget ∙ some.budget;
    }
