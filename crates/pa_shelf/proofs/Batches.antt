-- Slots that come back one by one: after each return the others are still out.
use Rattle.std.proofs.Common.{◌≡◌, ℕ, ◌+◌, ◌<◌, ◌≤◌, inl, inr, List, [], ◌∷◌, length, refl, sym, ◌∙◌, ap, subst, arith}
use Rattle.std.specs.Prelude.{◌≢◌, AllPairs, All}
use Rattle.pa_lists.proofs.Elements.{all_from_members}
use Rattle.pa_lists.proofs.Members.{not_in_none, first_in, later_in, in_cases}
use Rattle.pa_lists.proofs.Pairs.{pairs_head, pairs_tail}
use Rattle.pa_slot.specs.declared.title.Title.{Title}
use Rattle.pa_slot.specs.declared.word.SlotName.{SlotName}
use Rattle.pa_record.specs.Spans.{Span, title_at, name_of}
use Rattle.pa_record.specs.Root.{Root, returned, IsOut}
use Rattle.pa_record.specs.Sound.{IsSound, IsMade}
use Rattle.pa_record.specs.Steps.{IsReturned}
use Rattle.pa_record.proofs.MakingNone.{all_returned_make_none}
use Rattle.pa_record.proofs.Returning.{returned_is}
use Rattle.pa_record.proofs.Slots.{one_slot}
use Rattle.pa_record.proofs.SpanSteps.{some_out}
use Rattle.pa_region.specs.declared.view.View.{View}
use Rattle.pa_region.specs.Views.{free_of}
use Rattle.pa_region.specs.Shares.{Share}
use Rattle.pa_shelf.specs.Moving.{Rewritten}
use Rattle.pa_shelf.specs.Shelves.{ShelfParts, ShowsRoot, IsBackAt, IsSlotOut, AreBack}
use Rattle.pa_shelf.proofs.Settling.{empties_are}

-- what is out by its name
name_out : (r : Root) (t : Title) → IsSlotOut r t → IsOut r (name_of t)
name_out r t (s, among, n, out, titled) = (s, among, n, out)

one_name : (r : Root) (name : SlotName) → IsOut r name → All (IsOut r) (name ∷ [])
one_name r name out = all_from_members (IsOut r) (name ∷ []) (λ other among. elim (in_cases name other [] among) [
  | inl e ↦ subst (IsOut r) e out
  | inr none ↦ absurd (not_in_none other none)
])

no_pairs : (name : SlotName) → AllPairs ◌≢◌ (name ∷ [])
no_pairs name i j d before below = absurd (omega arith)

pub one_returned : (r : Root) (t : Title) → IsSound r → IsSlotOut r t → IsReturned (name_of t ∷ []) r (returned (name_of t) r)
one_returned r t sound out = returned_is r (name_of t) sound (name_out r t out)

-- another slot is still out, as the same title
still_slot : (r : Root) (t u : Title) → IsSound r → IsSlotOut r t → IsSlotOut r u → name_of t ≢ name_of u →
    IsSlotOut (returned (name_of t) r) u
still_slot r t u sound gone out differ =
    let next = returned (name_of t) r in
    let ret = one_returned r t sound gone in
    let (z, member, k, away, is) = out in
    let (y, among, j, still) = ret.stays (name_of u) (λ inside. elim (in_cases (name_of t) (name_of u) [] inside) [
      | inl e ↦ differ e
      | inr none ↦ not_in_none (name_of u) none
    ]) (z, member, k, away) in
    let c = (ret.kept.sound.spans y among).counted in
    let below = still.provisioned in let low = c.made in
    let w = title_at y j in
    let made : IsMade r w = all_returned_make_none (name_of t ∷ []) r w sound (one_name r (name_of t) (name_out r t gone))
    (no_pairs (name_of t))
    (y, among, j, omega arith, refl) in
    let (x, inside, i, less, same) = made in
    let cz = (sound.spans z member).counted in let lz = cz.made in let mz = cz.most in let pz = away.provisioned in
    let mx = (sound.spans x inside).counted.most in
    let names : name_of (title_at z k) ≡ name_of (title_at x i) = sym away.named ∙ (still.named ∙ ap name_of same) in
    let one = one_slot r z x k i sound member inside (omega arith) (omega arith) (ap (λ (a : SlotName). a.born) names)
    (ap (λ (a : SlotName). a.start) names) in
    (y, among, j, still, is ∙ (ap (λ (s : Span). title_at s k) one.span ∙ (ap (title_at x) one.number ∙ sym same)))

-- once the first slot came back, the rest of the slots can
pub rest_back : (v w : View) (l m : ShelfParts) (t : Title) (ts : List Title) (r : Root) → AreBack v l (t ∷ ts) r → Rewritten v w →
    ShowsRoot w m (returned (name_of t) r) → AreBack w m ts (returned (name_of t) r)
rest_back v w l m t ts r b wrote shown =
    let R : Title → Title → Type 0 = λ a c. name_of a ≢ name_of c in
    let gone = b.out t (first_in t ts) in
    let ret = one_returned r t b.sound gone in
    record {
      sound = ret.kept.sound;
      settled = ret.settled b.settled;
      shown = shown;
      out = λ u inside. still_slot r t u b.sound gone (b.out u (later_in t u ts inside)) (pairs_head R t u ts b.once inside);
      once = pairs_tail R t ts b.once;
      free = λ u inside. subst (λ (x : View). 0 < free_of x u) (sym wrote.rest) (b.free u (later_in t u ts inside));
    }

-- the first slot of those that can come back can
pub first_back : (v : View) (l : ShelfParts) (t : Title) (ts : List Title) (r : Root) → AreBack v l (t ∷ ts) r →
    (s : Span) × (n : ℕ) × IsBackAt v l s.place t r s n
first_back v l t ts r b =
    let (s, among, n, out, titled) = b.out t (first_in t ts) in (
      s,
      n,
      record {
        sound = b.sound;
        shown = b.shown;
        among = among;
        here = refl;
        titled = titled;
        out = out;
        some = some_out s n (b.sound.spans s among).counted out.provisioned out.out;
      },
    )

-- where its span was found
pub back_there : (y z : Share) (l : ShelfParts) (at : ℕ) (t : Title) (r : Root) (s : Span) (n : ℕ) → IsBackAt z.view l s.place t r s n →
    y ≡ z → at ≡ s.place →
    IsBackAt y.view l at t r s n
back_there y z l at t r s n b same here =
    subst (λ k. IsBackAt y.view l k t r s n) (sym here) (subst (λ (q : Share). IsBackAt q.view l s.place t r s n) (sym same) b)

-- the ring and the turn
pub back_few : (v : View) (l : ShelfParts) (ts : List Title) (r : Root) → AreBack v l ts r → length l.lists.ring ≤ 16
back_few v l ts r b = let many = empties_are v l r b.shown.kept in let few = b.settled in omega arith

pub back_turn : (v w : View) (l m : ShelfParts) (t : Title) (ts : List Title) (r : Root) → AreBack v l (t ∷ ts) r →
    ShowsRoot w m (returned (name_of t) r) → m.lists.turn ≤ l.lists.turn + 2
back_turn v w l m t ts r b shown =
    let up = (one_returned r t b.sound (b.out t (first_in t ts))).turn in
    let before = b.shown.kept.turn in let after = shown.kept.turn in
    omega arith
