-- The slots of the batches are just those that takes make.
use Rattle.std.proofs.Common.{◌≡◌, ℕ, zero, suc, ◌+◌, ◌-◌, ◌*◌, ◌<◌, ◌≤◌, ltb, leb, List, [], ◌∷◌, ◌++◌, refl, sym, ◌∙◌, ap, subst, arith, ◌⊎◌, inl, inr, Option, Some, None}
use Rattle.std.specs.Prelude.{Contains, AllPairs, ◌↔◌}
use Rattle.std.proofs.lemmas.Bool.{cases_Bool, ltb-true, ltb-false, leb-true}
use Rattle.std.proofs.lemmas.List.Elements.{Contains-push, Contains-push_cases, Contains-append_cases, Contains-append_left, Contains-append_right}
use Rattle.pa_slot.specs.declared.title.Title.{Title}
use Rattle.pa_buckets.specs.declared.spans.State.{State}
use Rattle.pa_buckets.specs.Table.{slot_of, pages_of, slots_of}
use Rattle.pa_record.specs.declared.taken.SuperPage.{SuperPage}
use Rattle.pa_record.specs.Spans.{Span, title_at, with_free, without_front, state_in_use, listed}
use Rattle.pa_record.specs.Root.{Root, current, in_state, entered, new_span, with_span, found_or_new, at_page, span_for, front_taken, taken_from, Took, one_take, takes, and_then}
use Rattle.pa_record.specs.Sound.{IsSound, IsMade}
use Rattle.pa_lists.proofs.Members.{not_some, not_in_none, first_in, in_cases}
use Rattle.pa_lists.proofs.Pairs.{pairs_none, pairs_cons}
use Rattle.pa_lists.proofs.Joined.{pairs_append}
use Rattle.pa_record.proofs.Places.{put_cases}
use Rattle.pa_record.proofs.Entering.{IsLike, in_state_like, like_trans, entered_there}
use Rattle.pa_record.proofs.Slots.{slots_apart, slot_within}
use Rattle.pa_record.proofs.SpanSteps.{with_free_front}
use Rattle.pa_record.proofs.Taking.{front_from, entered_made, title_like, same_made, free_made}
use Rattle.pa_record.proofs.Filling.{listed_is, usable_less, some_slots, with_span_sound, take_cases}
use Rattle.pa_place.specs.declared.placed.Made.{Made}
use Rattle.pa_place.specs.Made.{title_in, IsInBatch, IsInBatches, IsBatch, AreMadeNow, made_from, cut_in, and_cut, takes_cut}
use Rattle.pa_place.specs.Store.{IsReady}
use Rattle.pa_place.proofs.Bounds.{few_slots, slots_inside}
use Rattle.pa_place.proofs.Placing.{span_low}
use Rattle.pa_place.proofs.Filling.{took_with, take_ready}

-- a slot of a span with a number from one on, below another
abbrev pub IsBetween : ℕ → ℕ → Span → Title → Type 0
IsBetween m k s t = (n : ℕ) × (m ≤ n) × (n < k) × (t ≡ title_at s n)

-- the batch that begins there has just these
abbrev pub batch_of : ℕ → Span → Made
batch_of m s = record { first = title_at s m; count = s.made - m }

title_of_batch : (s : Span) (m k : ℕ) → title_in (batch_of m s) k ≡ title_at s (m + k)
title_of_batch s m k =
    let sum : s.place + slot_of s.class * m + slot_of s.class * k ≡ s.place + slot_of s.class * (m + k) = omega arith in
    ap (λ n. let x : Title = record { start = n; len = slot_of s.class; born = s.born } in x) sum

in_batch : (m : ℕ) (s : Span) (t : Title) → IsInBatch (batch_of m s) t → IsBetween m s.made s t
in_batch m s t (k, less, e) = (m + k, omega arith, omega arith, e ∙ title_of_batch s m k)

of_batch : (m : ℕ) (s : Span) (t : Title) → IsBetween m s.made s t → IsInBatch (batch_of m s) t
of_batch m s t (n, from, below, e) =
    let k = n - m in
    let sum : n ≡ m + k = omega arith in
    (k, omega arith, e ∙ ap (title_at s) sum ∙ sym (title_of_batch s m k))

in_batches : (m : ℕ) (s : Span) (t : Title) → IsInBatches (made_from m s) t → IsBetween m s.made s t
in_batches m s t h = elim (cases_Bool (ltb m s.made)) [
  | inl some ↦ by_some (rw some at h)
  | inr none ↦ by_none (rw none at h)
]
  where
    by_some : IsInBatches (batch_of m s ∷ []) t → IsBetween m s.made s t
    by_some (b, among, inside) = elim (in_cases (batch_of m s) b [] among) [
      | inl e ↦ in_batch m s t (subst (λ z. IsInBatch z t) (sym e) inside)
      | inr none ↦ absurd (not_in_none b none)
    ]

    by_none : IsInBatches [] t → IsBetween m s.made s t
    by_none (b, among, inside) = absurd (not_in_none b among)

of_batches : (m : ℕ) (s : Span) (t : Title) → IsBetween m s.made s t → IsInBatches (made_from m s) t
of_batches m s t h = elim (cases_Bool (ltb m s.made)) [
  | inl some ↦ rw some (batch_of m s, first_in (batch_of m s) [], of_batch m s t h)
  | inr none ↦ absurd (let p = ltb-false _ _ none in let (n, from, below, e) = h in omega arith)
]

-- a span that made more, in place of the one that stood there
abbrev pub IsMadeMore : Root → Root → Span → ℕ → Title → Type 0
IsMadeMore r after s k t = IsMade after t ↔ (IsMade r t ⊎ IsBetween s.made k s t)

entered_more : (r : Root) (s t : Span) (to : State) (x : Title) → IsSound r → Contains r.spans s → IsLike t s → s.made ≤ t.made →
    IsMadeMore r (entered to t r) s t.made x
entered_more r s t to x sound among like more =
    let u = in_state to r.turn t in
    let near : IsLike u s = like_trans u t s (in_state_like to r.turn t) like in
    let many = same_made to r.turn t in (
      λ made. (
          let (v, member, n, below, e) = made in
          elim (put_cases u v r.spans sound.places member) [
            | inl same ↦
                let less : n < t.made = let p = ap (λ (z : Span). z.made) same in omega arith in
                let is : x ≡ title_at s n = e ∙ ap (λ z. title_at z n) same ∙ title_like u s n near in
                elim (cases_Bool (ltb n s.made)) [
                  | inl old ↦ inl (s, among, n, ltb-true _ _ old, is)
                  | inr new ↦ inr (n, ltb-false _ _ new, less, is)
                ]
            | inr old ↦ inl (v, old.0, n, below, e)
          ]),
      λ either. elim either [
        | inl made ↦ entered_made r s t to x sound among like more made
        | inr new ↦ let (n, from, below, e) = new in (u, entered_there r s t to among like, n, omega arith, e ∙ sym (title_like u s n near))
      ],
    )

-- none of the slots that it makes was made
not_made : (r : Root) (s : Span) (k : ℕ) (x : Title) → IsSound r → Contains r.spans s → k ≤ slots_of s.class → IsBetween s.made k s x →
    IsMade r x → ⊥
not_made r s k x sound among few (n, from, below, e) (v, member, m, less, f) =
    let most = (sound.spans v member).counted.most in
    let born : s.born ≡ v.born = sym (ap (λ (z : Title). z.born) e) ∙ ap (λ (z : Title). z.born) f in
    elim (slots_apart r s v n m sound among member (omega arith) (omega arith) born) [
      | inl one ↦ let p = ap (λ (z : Span). z.made) one.span in let q = one.number in omega arith
      | inr apart ↦
          let w = slot_within s n (sound.spans s among).counted (omega arith) in
          let some = w.some in
          let start = ap (λ (z : Title). z.start) (sym e ∙ f) in
          let size = ap (λ (z : Title). z.len) (sym e ∙ f) in
          elim apart [ inl before ↦ omega arith | inr after ↦ omega arith ]
    ]

-- the batch of one take from a span of the root
batch_is : (r : Root) (s u : Span) → IsReady r → Contains r.spans s → IsLike u s → s.made ≤ u.made → u.made ≤ slots_of s.class →
    (b : Made) → Contains (made_from s.made u) b → IsBatch s.class b
batch_is r s u ready among like more few b member = elim (cases_Bool (ltb s.made u.made)) [
  | inl some ↦ by_some (ltb-true _ _ some) (rw some at member)
  | inr none ↦ absurd (not_in_none b (rw none at member))
]
  where
    by_some : s.made < u.made → Contains (batch_of s.made u ∷ []) b → IsBatch s.class b
    by_some less here = elim (in_cases (batch_of s.made u) b [] here) [
      | inl e ↦ subst (IsBatch s.class) e
          (let real = (ready.sound.spans s among).counted.class in
          let low = span_low r s ready among in
          let most = few_slots s.class real in
          let inside = slots_inside s.class u.made real few in
          let k = u.made - s.made in
          let sum : u.made ≡ s.made + k = omega arith in
          let parts : slot_of s.class * (s.made + k) ≡ slot_of s.class * s.made + slot_of s.class * k = omega arith in
          let whole : slot_of s.class * u.made ≡ slot_of s.class * (s.made + k) = ap (λ n. slot_of s.class * n) sum in
          let c = like.class in
          let size : slot_of u.class ≡ slot_of s.class = ap slot_of c in
          let first : slot_of u.class * s.made ≡ slot_of s.class * s.made = ap (λ n. n * s.made) size in
          let rest : slot_of u.class * k ≡ slot_of s.class * k = ap (λ n. n * k) size in
          let place = like.place in
          record { some = omega arith; most = omega arith; len = size; inside = omega arith })
      | inr none ↦ absurd (not_in_none b none)
    ]

one_batch : (m : ℕ) (s : Span) → AllPairs (λ b c. (t : Title) → IsInBatch b t → IsInBatch c t → ⊥) (made_from m s)
one_batch m s = elim (cases_Bool (ltb m s.made)) [
  | inl some ↦ rw some (pairs_cons Apart (batch_of m s) [] (λ c among. absurd (not_in_none c among)) (pairs_none Apart))
  | inr none ↦ rw none (pairs_none Apart)
]
  where
    Apart : Made → Made → Type 0
    Apart b c = (t : Title) → IsInBatch b t → IsInBatch c t → ⊥

-- the slots of a span between two numbers are those of one that is like it
between_like : (m k : ℕ) (s u : Span) (t : Title) → IsLike u s → IsBetween m k u t → IsBetween m k s t
between_like m k s u t like (n, from, below, e) = (n, from, below, e ∙ title_like u s n like)

pub like_sym : (s u : Span) → IsLike u s → IsLike s u
like_sym s u like = record { place = sym like.place; born = sym like.born; class = sym like.class }

abbrev from_there : Span → Root → Took
from_there s r = taken_from (Some (record { span = s; root = r })) r

pub cut_there : (r : Root) (s : Span) → IsReady r → Contains r.spans s → s.allocated < slots_of s.class →
    AreMadeNow s.class r (from_there s r).root (made_from s.made (with_free s))
cut_there r s ready among left =
    let sound = ready.sound in
    let f = with_free_front s (sound.spans s among).counted left in
    let u = with_free s in
    let t = without_front f.rest u in
    let like = (front_from s f.rest).like in
    let like' : IsLike u s = record { place = like.place; born = like.born; class = like.class } in
    let more = free_made s in
    let few : u.made ≤ slots_of s.class = let p = f.counted.most in let c = ap slots_of like.class in omega arith in
    let root : (from_there s r).root ≡ entered (state_in_use t) t r = ap (λ xs. (front_taken xs u r).root) f.free in
    subst (λ z. AreMadeNow s.class r z (made_from s.made u)) (sym root)
    (record {
      batches = batch_is r s u ready among like' more few;
      made = λ x.
          let (to, back) = entered_more r s t (state_in_use t) x sound among like more in (
            λ made. elim (to made) [
              | inl old ↦ inl old
              | inr new ↦ inr (of_batches s.made u x (between_like s.made u.made u s x (like_sym s u like') new))
            ],
            λ either. back (elim either [
              | inl old ↦ inl old
              | inr new ↦ inr (between_like s.made u.made s u x like' (in_batches s.made u x new))
            ]),
          );
      new = λ x inside made. not_made r s u.made x sound among few
          (between_like s.made u.made s u x like' (in_batches s.made u x inside)) made;
      once = one_batch s.made u;
    })

-- no take makes nothing
none_made : (class : ℕ) (r : Root) → AreMadeNow class r r []
none_made class r = record {
  batches = λ b among. absurd (not_in_none b among);
  made = λ t. (λ made. inl made, λ either. elim either [ inl made ↦ made | inr inside ↦ absurd (not_in_none inside.0 inside.1) ]);
  new = λ t inside made. not_in_none inside.0 inside.1;
  once = pairs_none (λ b c. (t : Title) → IsInBatch b t → IsInBatch c t → ⊥);
}

-- a new span has made nothing yet
new_made : (class : ℕ) (r : Root) (at : SuperPage) (t : Title) → IsMade (with_span (new_span class at r.page) r) t → IsMade r t
new_made class r at t (v, member, n, below, e) = elim (Contains-push_cases r.spans (new_span class at r.page) v member) [
  | inl old ↦ (v, old, n, below, e)
  | inr new ↦ absurd (let p = ap (λ (z : Span). z.made) new in omega arith)
]

still_made : (class : ℕ) (r : Root) (at : SuperPage) (t : Title) → IsMade r t → IsMade (with_span (new_span class at r.page) r) t
still_made class r at t (v, member, n, below, e) = (v, Contains-append_left r.spans (new_span class at r.page ∷ []) v member, n, below, e)

cut_new : (class : ℕ) (r : Root) (at : SuperPage) → IsReady r → class < 170 → current r ≡ Some at → r.page + pages_of class ≤ 127 →
    (let s = new_span class at r.page in AreMadeNow class r (from_there s (with_span s r)).root (made_from s.made (with_free s)))
cut_new class r at ready real now room =
    let s = new_span class at r.page in
    let grown = with_span s r in
    let h = cut_there grown s (record { sound = with_span_sound r class at ready.sound real now room; low = ready.low })
    (Contains-push r.spans s) (some_slots class real) in
    record {
      batches = h.batches;
      made = λ t. (
        λ made. elim ((h.made t).0 made) [ inl old ↦ inl (new_made class r at t old) | inr inside ↦ inr inside ],
        λ either. (h.made t).1 (elim either [ inl old ↦ inl (still_made class r at t old) | inr inside ↦ inr inside ]),
      );
      new = λ t inside made. h.new t inside (still_made class r at t made);
      once = h.once;
    }

cut_page : (class : ℕ) (r : Root) (o : Option SuperPage) → IsReady r → class < 170 → current r ≡ o →
    AreMadeNow class r (taken_from (at_page class r o) r).root (cut_in (at_page class r o))
cut_page class r None ready real now = none_made class r
cut_page class r (Some at) ready real now = elim (cases_Bool (leb (r.page + pages_of class) 127)) [
  | inl room ↦ rw room (cut_new class r at ready real now (leb-true _ _ room))
  | inr full ↦ rw full (none_made class r)
]

cut_by : (class : ℕ) (r : Root) (o : Option Span) → IsReady r → class < 170 → listed class r.spans ≡ o
    → AreMadeNow class r (taken_from (found_or_new class r o) r).root (cut_in (found_or_new class r o))
cut_by class r None ready real e = cut_page class r (current r) ready real refl
cut_by class r (Some s) ready real e =
    let u = listed_is class r.spans s e in
    subst (λ c. AreMadeNow c r (from_there s r).root (made_from s.made (with_free s))) u.of_class
    (cut_there r s ready u.among (usable_less s (ready.sound.spans s u.among) u.left))

one_cut : (class : ℕ) (r : Root) → IsReady r → class < 170 → AreMadeNow class r (one_take class r).root (cut_in (span_for class r))
one_cut class r ready real = cut_by class r (listed class r.spans) ready real refl

-- batches that are made one after another
both_made : (class : ℕ) (r mid after : Root) (bs cs : List Made) → AreMadeNow class r mid bs → AreMadeNow class mid after cs →
    AreMadeNow class r after (bs ++ cs)
both_made class r mid after bs cs h k = record {
  batches = λ b among. elim (Contains-append_cases bs cs b among) [ inl first ↦ h.batches b first | inr second ↦ k.batches b second ];
  made = λ t. (
    λ made. elim ((k.made t).0 made) [
      | inl old ↦ elim ((h.made t).0 old) [
        | inl older ↦ inl older
        | inr inside ↦ inr (inside.0, Contains-append_left bs cs inside.0 inside.1, inside.2)
      ]
      | inr inside ↦ inr (inside.0, Contains-append_right bs cs inside.0 inside.1, inside.2)
    ],
    λ either. elim either [
      | inl older ↦ (k.made t).1 (inl ((h.made t).1 (inl older)))
      | inr inside ↦ elim (Contains-append_cases bs cs inside.0 inside.1) [
        | inl first ↦ (k.made t).1 (inl ((h.made t).1 (inr (inside.0, first, inside.2))))
        | inr second ↦ (k.made t).1 (inr (inside.0, second, inside.2))
      ]
    ],
  );
  new = λ t inside made. elim (Contains-append_cases bs cs inside.0 inside.1) [
    | inl first ↦ h.new t (inside.0, first, inside.2) made
    | inr second ↦ k.new t (inside.0, second, inside.2) ((h.made t).1 (inl made))
  ];
  once = pairs_append (λ b c. (t : Title) → IsInBatch b t → IsInBatch c t → ⊥) bs cs h.once k.once
      (λ b c first second t inside other. k.new t (c, second, other) ((h.made t).1 (inr (b, first, inside))));
}

-- if the batches of a fill of k from any ready root are just what it makes, those of a fill of k + 1 are too
cuts_by : (class k : ℕ) (r : Root) (o : Option Title) → IsReady r → class < 170 → one_take class r ≡ took_with (one_take class r).root o →
    ((next : Root) → IsReady next → AreMadeNow class next (takes class k next).root (takes_cut class k next)) →
    AreMadeNow class r (takes class (suc k) r).root (takes_cut class (suc k) r)
cuts_by class k r None ready real e further =
    let first = cut_in (span_for class r) in
    let next = (one_take class r).root in
    let same : next ≡ r = elim (take_cases class r ready.sound real) [
      | inl none ↦ ap (λ z. (taken_from z r).root) none
      | inr (some, g) ↦ absurd (none_not_some g.title (sym (ap (λ (z : Took). z.title) e) ∙ g.gives))
    ] in
    let root : (takes class (suc k) r).root ≡ next = ap (λ z. (and_then z (takes class k)).root) e in
    let none : takes_cut class (suc k) r ≡ [] = ap (λ z. and_cut z first (takes_cut class k)) e in
    subst (λ z. AreMadeNow class r z (takes_cut class (suc k) r)) (sym (root ∙ same))
    (subst (λ bs. AreMadeNow class r r bs) (sym none) (none_made class r))
  where
    none_not_some : (t : Title) → None ≡ Some t → ⊥
    none_not_some t e = not_some t e
cuts_by class k r (Some t) ready real e further =
    let first = cut_in (span_for class r) in
    let next = (one_take class r).root in
    let root : (takes class (suc k) r).root ≡ (takes class k next).root = ap (λ z. (and_then z (takes class k)).root) e in
    let all : takes_cut class (suc k) r ≡ first ++ takes_cut class k next = ap (λ z. and_cut z first (takes_cut class k)) e in
    let after = further next (take_ready class r next (Some t) ready real e).ready in
    subst (λ z. AreMadeNow class r z (takes_cut class (suc k) r)) (sym root)
    (subst (λ bs. AreMadeNow class r (takes class k next).root bs) (sym all)
    (both_made class r next (takes class k next).root first (takes_cut class k next) (one_cut class r ready real) after))

pub cuts_made : (class want : ℕ) (r : Root) → IsReady r → class < 170 →
    AreMadeNow class r (takes class want r).root (takes_cut class want r)
cuts_made class zero r ready real = none_made class r
cuts_made class (suc k) r ready real =
    cuts_by class k r (one_take class r).title ready real refl (λ next good. cuts_made class k next good real)
