-- A take, from the place of its span.
use Rattle.std.proofs.Common.{◌≡◌, ℕ, zero, suc, ◌+◌, ◌-◌, ◌*◌, ◌<◌, ◌≤◌, true, false, leb, List, [], ◌∷◌, ◌++◌, length, set, refl, sym, ◌∙◌, ap, subst, arith, inl, inr, Option, Some, None}
use Rattle.std.specs.Prelude.{Contains, AllPairs, slice_get, IfSome, is_some}
use Rattle.std.proofs.lemmas.Bool.{cases_Bool, both_ways, true≢false, leb-true, le-leb}
use Rattle.std.proofs.lemmas.List.Elements.{All-pop}
use Rattle.std.proofs.lemmas.List.{length-append}
use Rattle.pa_slot.specs.declared.title.Title.{Title}
use Rattle.pa_buckets.specs.declared.spans.State.{State}
use Rattle.pa_buckets.specs.Table.{pages_of, slots_of}
use Rattle.pa_record.specs.declared.taken.SuperPage.{SuperPage}
use Rattle.pa_record.specs.Spans.{Span, with_free, without_front, state_in_use, title_at, listed, same_place, put}
use Rattle.pa_record.specs.Root.{Root, current, in_state, turn_after, entered, Found, new_span, with_span, found_or_new, at_page, span_for, Took, front_taken}
use Rattle.pa_record.specs.Sound.{IsSound}
use Rattle.pa_lists.proofs.Members.{of_some, not_some}
use Rattle.pa_lists.proofs.Pairs.{pairs_head, pairs_tail}
use Rattle.pa_record.proofs.Places.{IsElsewhere, place_sym, place_trans}
use Rattle.pa_record.proofs.Entering.{IsLike, like_place, like_trans, in_state_like}
use Rattle.pa_record.proofs.Filling.{listed_is, usable_less, some_slots, with_span_sound}
use Rattle.pa_record.proofs.Taking.{front_from}
use Rattle.pa_place.specs.Scans.{span_at}
use Rattle.pa_place.specs.Served.{blank_span, IsLow, IsServed}
use Rattle.pa_place.specs.Store.{IsReady, FindsPlace, HasBlanks, room_for}
use Rattle.pa_lists.proofs.Indexed.{at_in, slice_get_at, element_at}

-- a span in place of the one in its place, by where it is
pub put_set : (s t : Span) (ts : List Span) (i : ℕ) → AllPairs IsElsewhere ts → slice_get ts i ≡ Some t → same_place t s ≡ true →
    put s ts ≡ set ts i s
put_set s t [] i h e same = absurd (not_some t e)
put_set s t (x ∷ ts) zero h e same =
    let f = of_some x t e in
    let near : same_place x s ≡ true = subst (λ z. same_place z s ≡ true) (sym f) same in
    rw near refl
put_set s t (x ∷ ts) (suc i) h e same = elim (cases_Bool (same_place x s)) [
  | inl near ↦ absurd (both_ways _ (pairs_head IsElsewhere x t ts h (at_in ts i t e)) (joined x s t near (place_sym t s same)))
  | inr far ↦ rw far (ap (λ us. x ∷ us) (put_set s t ts i (pairs_tail IsElsewhere x ts h) e same))
]
  where
    joined : (x s t : Span) → same_place x s ≡ true → same_place s t ≡ true → same_place x t ≡ true
    joined x s t a b = place_trans x s t a b

-- a span that enters a state in place of the one that is there
pub entered_set : (r : Root) (i : ℕ) (s t : Span) (to : State) → IsSound r → slice_get r.spans i ≡ Some s → IsLike t s →
    entered to t r ≡ record r { spans = set r.spans i (in_state to r.turn t); turn = turn_after to r.turn t }
entered_set r i s t to sound e like =
    let u = in_state to r.turn t in
    let near : same_place s u ≡ true = place_sym u s (like_place u s (like_trans u t s (in_state_like to r.turn t) like)) in
    let same = put_set u s r.spans i sound.places e near in
    ap (λ ss. record r { spans = ss; turn = turn_after to r.turn t }) same

-- the bytes of a span of the root lie in the region
low_by : (number page pages : ℕ) → number < 64 → page + pages ≤ 127 → 2097152 * number + 16384 * page + 16384 * pages ≤ 4294967296
low_by number page pages low last = omega arith

pub span_low : (r : Root) (s : Span) → IsReady r → Contains r.spans s → IsLow s
span_low r s ready among =
    let (at, page, p) = ready.sound.placed s among in
    let place = p.place in
    let bound = low_by at.number page (pages_of s.class) (ready.low at p.among) p.last in
    omega arith

-- the span from which a take is made
pub listed_found : (class : ℕ) (r : Root) (s : Span) → listed class r.spans ≡ Some s →
    span_for class r ≡ Some (record { span = s; root = r })
listed_found class r s e = ap (found_or_new class r) e

pub new_found : (class : ℕ) (r : Root) (at : SuperPage) → listed class r.spans ≡ None → current r ≡ Some at →
    r.page + pages_of class ≤ 127 →
    span_for class r ≡ Some (record { span = new_span class at r.page; root = with_span (new_span class at r.page) r })
new_found class r at e now room =
    let fits : leb (r.page + pages_of class) 127 ≡ true = le-leb _ _ room in
    ap (found_or_new class r) e ∙ ap (at_page class r) now ∙ rw fits refl

room_none : (class : ℕ) (r : Root) (o : Option SuperPage) → room_for class r o ≡ None → at_page class r o ≡ None
room_none class r None e = refl
room_none class r (Some at) e = elim (cases_Bool (leb (r.page + pages_of class) 127)) [
  | inl room ↦ absurd (not_some at (sym (rw room at e)))
  | inr full ↦ rw full refl
]

pub none_found : (class : ℕ) (r : Root) → listed class r.spans ≡ None → room_for class r (current r) ≡ None → span_for class r ≡ None
none_found class r e full = ap (found_or_new class r) e ∙ room_none class r (current r) full

-- the current super page if it has room
pub record IsRoom (class : ℕ) (r : Root) (at : SuperPage) : Type 0 where
  pub now : current r ≡ Some at
  pub fits : r.page + pages_of class ≤ 127

room_by : (class : ℕ) (r : Root) (o : Option SuperPage) (at : SuperPage) → current r ≡ o → room_for class r o ≡ Some at → IsRoom class r at
room_by class r None at now e = absurd (not_some at e)
room_by class r (Some x) at now e = elim (cases_Bool (leb (r.page + pages_of class) 127)) [
  | inl room ↦ record { now = now ∙ ap Some (of_some x at (rw room at e)); fits = leb-true _ _ room }
  | inr full ↦ absurd (not_some at (rw full at e))
]

pub is_room : (class : ℕ) (r : Root) (at : SuperPage) → room_for class r (current r) ≡ Some at → IsRoom class r at
is_room class r at e = room_by class r (current r) at refl e

-- the current super page is one of the root's
pub current_in : (r : Root) (at : SuperPage) → current r ≡ Some at → Contains r.supers at
current_in r at e = at_in r.supers (length r.supers - 1) at e

-- if a span is found, its root is ready and it has a slot left
pub record IsReadyFound (f : Found) : Type 0 where
  pub ready : IsReady f.root
  pub left : f.span.allocated < slots_of f.span.class

ready_page : (class : ℕ) (r : Root) (o : Option SuperPage) (f : Found) → IsReady r → class < 170 → current r ≡ o →
    at_page class r o ≡ Some f → IsReadyFound f
ready_page class r None f ready real now e = absurd (not_some f e)
ready_page class r (Some at) f ready real now e = elim (cases_Bool (leb (r.page + pages_of class) 127)) [
  | inl room ↦
      subst IsReadyFound (of_some _ f (rw room at e))
      (record {
        ready = record { sound = with_span_sound r class at ready.sound real now (leb-true _ _ room); low = ready.low };
        left = some_slots class real;
      })
  | inr full ↦ absurd (not_some f (rw full at e))
]

ready_by : (class : ℕ) (r : Root) (o : Option Span) (f : Found) → IsReady r → class < 170 → listed class r.spans ≡ o →
    found_or_new class r o ≡ Some f → IsReadyFound f
ready_by class r None f ready real is e = ready_page class r (current r) f ready real refl e
ready_by class r (Some s) f ready real is e =
    let u = listed_is class r.spans s is in
    subst IsReadyFound (of_some _ f e) (record { ready = ready; left = usable_less s (ready.sound.spans s u.among) u.left })

pub found_ready : (class : ℕ) (r : Root) (f : Found) → IsReady r → class < 170 → span_for class r ≡ Some f → IsReadyFound f
found_ready class r f ready real e = ready_by class r (listed class r.spans) f ready real refl e

-- a take from the span there
pub served_root : (r : Root) (i : ℕ) (s u next : Span) (title : Title) (turn : ℕ) → IsSound r → slice_get r.spans i ≡ Some s →
    IsServed s u title →
    next ≡ in_state (state_in_use u) r.turn u → turn ≡ turn_after (state_in_use u) r.turn u →
    front_taken (with_free s).free (with_free s) r ≡ record {
      root = record r { spans = set r.spans i next; turn = turn };
      title = Some title;
    }
served_root r i s u next title turn sound e served is after =
    let t = without_front served.rest (with_free s) in
    let front : front_taken (with_free s).free (with_free s) r ≡ front_taken (served.number ∷ served.rest) (with_free s) r =
    ap (λ xs. front_taken xs (with_free s) r) served.front in
    let there = entered_set r i s t (state_in_use t) sound e (front_from s served.rest).like in
    let last : Root → Option Title → Took = λ a b. record { root = a; title = b } in
    front
    ∙ ap (λ a. last a (Some (title_at (with_free s) served.number))) there
    ∙ ap (λ v. last (record r { spans = set r.spans i (in_state (state_in_use v) r.turn v); turn = turn_after (state_in_use v) r.turn v })
    (Some (title_at (with_free s) served.number))) (sym served.after)
    ∙ ap (λ v. last (record r { spans = set r.spans i v; turn = turn_after (state_in_use u) r.turn u })
    (Some (title_at (with_free s) served.number))) (sym is)
    ∙ ap (λ n. last (record r { spans = set r.spans i next; turn = n }) (Some (title_at (with_free s) served.number))) (sym after)
    ∙ ap (λ v. last (record r { spans = set r.spans i next; turn = turn }) (Some v)) (sym served.title)

-- the listed span by its place
pub listed_place : (class : ℕ) (r : Root) (o : Option ℕ) → span_at r.spans o ≡ listed class r.spans → IfSome o (λ at. at < length r.spans) →
    is_some o ≡ true → FindsPlace class r r o
listed_place class r None e within some = absurd (true≢false (sym some))
listed_place class r (Some at) e within some =
    let (s, f) = element_at r.spans at within in
    (record { span = s; root = r }, listed_found class r s (sym e ∙ f), refl, f)

-- one of the blank spans is used
pub blanks_popped : (class n : ℕ) (before after : List Span) (s : Span) → before ≡ after ++ s ∷ [] → HasBlanks class (n + 1) before →
    HasBlanks class n after
blanks_popped class n before after s e h = record {
  many = let p = h.many in let q = ap length e in let k = length-append after (s ∷ []) in omega arith;
  blank = (All-pop (λ (z : Span). z ≡ blank_span class) before after (Some s) e h.blank).0;
}

pub unlisted : (class : ℕ) (r : Root) (o : Option ℕ) → span_at r.spans o ≡ listed class r.spans → is_some o ≡ false →
    listed class r.spans ≡ None
unlisted class r None e none = sym e
unlisted class r (Some at) e none = absurd (true≢false none)

-- the new span by its place
pub new_place : (class : ℕ) (r after : Root) (at : SuperPage) (n : ℕ) → listed class r.spans ≡ None →
    room_for class r (current r) ≡ Some at →
    after ≡ with_span (new_span class at r.page) r → n ≡ length r.spans → FindsPlace class r after (Some n)
new_place class r after at n none room e last =
    let is = is_room class r at room in
    let s = new_span class at r.page in (
      record { span = s; root = with_span s r },
      new_found class r at none is.now is.fits,
      sym e,
      ap (λ (z : Root). slice_get z.spans n) e ∙ ap (slice_get (r.spans ++ s ∷ [])) last ∙ slice_get_at r.spans [] s,
    )
