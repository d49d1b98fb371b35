-- If an order of what was logged has no reads, and the poisonings of each free are put right before it, each step is in place.
use Rattle.std.proofs.Common.{◌≡◌, ℕ, zero, suc, ◌+◌, ◌≤◌, Bool, true, false, ◌&&◌, List, [], ◌∷◌, ◌++◌, refl, sym, ◌∙◌, ap, arith, inl, inr, append-nil}
use Rattle.std.specs.Prelude.{if◌then◌else◌}
use Rattle.std.proofs.lemmas.List.{append_assoc}
use Rattle.pa_slot.specs.declared.title.Title.{Title}
use Rattle.pa_slot.specs.declared.word.Step.{Step}
use Rattle.pa_slot.specs.declared.word.Step.TheVariants.{Issue, Copy, Reset, Free, Write}
use Rattle.pa_slot.specs.Titles.{same_title, content_count}
use Rattle.pa_slot.proofs.Same.{title_tells, title_self}
use Rattle.pa_region.specs.declared.view.Entry.{Entry}
use Rattle.pa_region.specs.declared.view.Entry.TheVariants.{Counted, Looked, Read, Added, Entered, Uncut}
use Rattle.pa_region.specs.Order.{Stamped, OneStep, Logged, Spoiled, logged_among, spoiled, IsAlone, AreInPlace}
use Rattle.pa_region.proofs.StepsPart.{alone_none}
use Rattle.pa_lists.proofs.Tests.{both_true}

-- the entry is no read
abbrev pub is_unread : Entry → Bool
is_unread (Read t place value since owned unclean) = false
is_unread other = true

abbrev pub all_unread : List Stamped → Bool
all_unread [] = true
all_unread (m ∷ ms) = is_unread m.entry && all_unread ms

-- the poisonings of a title's first n content words after other steps
spoils : Title → ℕ → List OneStep → List OneStep
spoils t zero older = older
spoils t (suc n) older = Spoiled t n ∷ spoils t n older

-- the steps before an entry with this step: the older ones, and then the poisonings of its title if it is a free
readied_by : Step → Title → List OneStep → List OneStep
readied_by Issue t older = older
readied_by Copy t older = older
readied_by Reset t older = older
readied_by Free t older = spoils t (content_count t) older
readied_by Write t older = older

readied : Entry → List OneStep → List OneStep
readied (Counted t step found value) older = readied_by step t older
readied other older = older

-- the steps of such an order, after others
pub stepwise : List OneStep → List Stamped → List OneStep
stepwise older [] = older
stepwise older (m ∷ ms) = stepwise (Logged m ∷ readied m.entry older) ms

-- what poisonings leave
logged_spoils : (t : Title) (n : ℕ) (older : List OneStep) → logged_among (spoils t n older) ≡ logged_among older
unfolding spoils
logged_spoils t zero older = refl
logged_spoils t (suc n) older = logged_spoils t n older

own_spoils : (t : Title) (n : ℕ) (older : List OneStep) → spoiled t (spoils t n older) ≡ n + spoiled t older
unfolding spoils
own_spoils t zero older = omega arith
own_spoils t (suc n) older = let again = own_spoils t n older in rw (title_self t) (omega arith)

other_spoils : (t u : Title) (n : ℕ) (older : List OneStep) → same_title t u ≡ false → spoiled u (spoils t n older) ≡ spoiled u older
unfolding spoils
other_spoils t u zero older ne = refl
other_spoils t u (suc n) older ne = let again = other_spoils t u n older ne in rw ne (omega arith)

alone_spoils : (r : ℕ) (t u : Title) (n : ℕ) (older : List OneStep) → IsAlone r t older → IsAlone r t (spoils u n older)
unfolding spoils
alone_spoils r t u zero older alone = alone
alone_spoils r t u (suc n) older alone = alone_spoils r t u n older alone

placed_spoils : (t : Title) (n : ℕ) (older : List OneStep) → n ≤ content_count t → spoiled t older ≡ 0 → AreInPlace older →
    AreInPlace (spoils t n older)
unfolding spoils
placed_spoils t zero older few none placed = placed
placed_spoils t (suc n) older few none placed =
    let many = own_spoils t n older in
    ((omega arith, omega arith), placed_spoils t n older (omega arith) none placed)

-- what is ready for an entry: the steps are in place, and no title has a poisoning without a free but that of the entry
record IsReady (older : List OneStep) : Type 0 where
  placed : AreInPlace older
  none : (t : Title) → spoiled t older ≡ 0

unfreed : (b : Bool) {n : ℕ} → n ≡ 0 → (if b && false then 0 else n) ≡ 0
unfreed true e = e
unfreed false e = e

counted_ready : (step : Step) (r : ℕ) (t : Title) (found value : ℕ) (older : List OneStep) → IsReady older →
    IsReady (Logged (record { stake = r; entry = Counted t step found value }) ∷ readied_by step t older)
unfolding readied_by
counted_ready Issue r t found value older h = record { placed = (h.none t, h.placed); none = λ u. unfreed (same_title t u) (h.none u) }
counted_ready Copy r t found value older h = record { placed = (tt, h.placed); none = λ u. unfreed (same_title t u) (h.none u) }
counted_ready Reset r t found value older h = record { placed = (tt, h.placed); none = λ u. unfreed (same_title t u) (h.none u) }
counted_ready Free r t found value older h = record {
  placed = (
    (
      let m = own_spoils t (content_count t) older in let z = h.none t in
          omega arith,
      alone_spoils r t t (content_count t) older (alone_none r t older (h.none t)),
    ),
    placed_spoils t (content_count t) older (omega arith) (h.none t) h.placed,
  );
  none = λ u. elim (title_tells t u) [
    | inl y ↦ rw y.0 refl
    | inr n ↦ rw n.0 (other_spoils t u (content_count t) older n.0 ∙ h.none u)
  ];
}
counted_ready Write r t found value older h = record { placed = (h.none t, h.placed); none = λ u. unfreed (same_title t u) (h.none u) }

entry_ready : (r : ℕ) (e : Entry) (older : List OneStep) → is_unread e ≡ true → IsReady older →
    IsReady (Logged (record { stake = r; entry = e }) ∷ readied e older)
unfolding readied
entry_ready r (Counted t step found value) older unread h = counted_ready step r t found value older h
entry_ready r (Looked t found) older unread h = record { placed = (tt, h.placed); none = h.none }
entry_ready r (Read t place value since owned unclean) older unread h = absurd (cc)
entry_ready r (Added word bytes) older unread h = record { placed = (tt, h.placed); none = h.none }
entry_ready r (Entered keeper made) older unread h = record { placed = (tt, h.placed); none = h.none }
entry_ready r (Uncut t) older unread h = record { placed = (tt, h.placed); none = h.none }

all_ready : (older : List OneStep) (ms : List Stamped) → all_unread ms ≡ true → IsReady older → IsReady (stepwise older ms)
unfolding stepwise
all_ready older [] unread h = h
all_ready older (m ∷ ms) unread h =
    let both = both_true (is_unread m.entry) (all_unread ms) unread in
    all_ready (Logged m ∷ readied m.entry older) ms both.1 (entry_ready m.stake m.entry older both.0 h)

-- the steps of an order without reads are in place, and each poisoning has a free after it
pub stepwise_placed : (ms : List Stamped) → all_unread ms ≡ true → AreInPlace (stepwise [] ms) ×
    ((t : Title) → spoiled t (stepwise [] ms) ≡ 0)
stepwise_placed ms unread = let h = all_ready [] ms unread (record { placed = tt; none = λ t. refl }) in (h.placed, h.none)

-- readying a step logs nothing
step_logged : (p : Step) (t : Title) (older : List OneStep) → logged_among (readied_by p t older) ≡ logged_among older
unfolding readied_by
step_logged Issue t older = refl
step_logged Copy t older = refl
step_logged Reset t older = refl
step_logged Free t older = logged_spoils t (content_count t) older
step_logged Write t older = refl

readied_logged : (e : Entry) (older : List OneStep) → logged_among (readied e older) ≡ logged_among older
unfolding readied
readied_logged (Counted t step found value) older = step_logged step t older
readied_logged (Looked t found) older = refl
readied_logged (Read t place value since owned unclean) older = refl
readied_logged (Added word bytes) older = refl
readied_logged (Entered keeper made) older = refl
readied_logged (Uncut t) older = refl

logged_after : (older : List OneStep) (ms : List Stamped) → logged_among (stepwise older ms) ≡ logged_among older ++ ms
unfolding stepwise
logged_after older [] = sym (append-nil (logged_among older))
logged_after older (m ∷ ms) =
    logged_after (Logged m ∷ readied m.entry older) ms
    ∙ (ap (λ (xs : List Stamped). (xs ++ m ∷ []) ++ ms) (readied_logged m.entry older) ∙ append_assoc (logged_among older) (m ∷ []) ms)

pub stepwise_logged : (ms : List Stamped) → logged_among (stepwise [] ms) ≡ ms
stepwise_logged ms = logged_after [] ms
