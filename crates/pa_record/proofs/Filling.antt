-- A fill: the span that a take uses, a new span, a new super page, and takes one after another.
use Rattle.std.proofs.Common.{◌≡◌, ◌≢◌, ℕ, zero, suc, ◌+◌, ◌-◌, ◌<◌, ◌≤◌, true, false, cond, leb, List, [], ◌∷◌, ◌++◌, length, refl, sym, ◌∙◌, ap, subst, arith, ◌⊎◌, inl, inr, Option, Some, None}
use Rattle.std.specs.Prelude.{Contains, slice_get, IsSome, IsNone, is_some}
use Rattle.std.proofs.lemmas.Bool.{cases_Bool, both_ways, and_parts, eqb-true, leb-true, true≢false}
use Rattle.std.proofs.lemmas.List.Elements.{Contains-push_cases, Contains-append_left, Contains-push}
use Rattle.std.proofs.lemmas.List.Sums.{sum_by_push}
use Rattle.std.proofs.lemmas.List.{length_push}
use Rattle.pa_slot.specs.declared.title.Title.{Title}
use Rattle.pa_layout.specs.Pages.{page_place}
use Rattle.pa_buckets.specs.declared.spans.State.{State}
use Rattle.pa_buckets.specs.declared.spans.State.TheVariants as state
use Rattle.pa_buckets.specs.Table.{slot_of, pages_of, slots_of}
use Rattle.pa_buckets.proofs.Facts.{IsRow-of}
use Rattle.pa_record.specs.declared.taken.SuperPage.{SuperPage}
use Rattle.pa_record.specs.Spans.{Span, bytes_of, name_of, is_in, is_of, latest, or_else, listed, same_place}
use Rattle.pa_record.specs.Root.{Root, current, Found, new_span, with_span, at_page, found_or_new, span_for, Took, taken_from, one_take, Filled, and_then, takes, opened, IsOut}
use Rattle.pa_record.specs.Sound.{StateSays, IsCounted, IsSoundSpan, IsPlaced, AreApart, IsSound, IsMade, IsBornBelow}
use Rattle.pa_record.specs.Steps.{IsGiven, IsFilled}
use Rattle.pa_lists.proofs.Members.{not_in_none, first_in, later_in, in_cases, of_some}
use Rattle.pa_lists.proofs.Pairs.{pairs_none, pairs_cons, pairs_push}
use Rattle.pa_record.proofs.Places.{IsElsewhere, place_tells, place_self}
use Rattle.pa_record.proofs.Choice.{latest_is}
use Rattle.pa_record.proofs.SpanSteps.{no_pages}
use Rattle.pa_record.proofs.Entering.{same_state-true}
use Rattle.pa_record.proofs.Taking.{take_from_span, span_given}
use Rattle.pa_lists.proofs.Indexed.{at_in}

-- a span of the class that has a slot left
pub record IsUsable (class : ℕ) (ss : List Span) (s : Span) : Type 0 where
  pub among : Contains ss s
  pub of_class : s.class ≡ class
  pub left : (s.state ≡ state.Active) ⊎ ((s.state ≡ state.Empty) ⊎ (s.state ≡ state.Decommitted))

of_tells : (class : ℕ) (a : State) (s : Span) → is_of class a s ≡ true → (s.class ≡ class) × (s.state ≡ a)
of_tells class a s h = let (p, q) = and_parts _ _ h in (eqb-true _ _ p, same_state-true s.state a q)

latest_usable : (class : ℕ) (a : State) (ss : List Span) (s : Span) → ((a ≡ state.Active) ⊎ ((a ≡ state.Empty) ⊎ (a ≡ state.Decommitted))) →
    latest (is_of class a) ss ≡ Some s → IsUsable class ss s
latest_usable class a ss s which e =
    let p = latest_is (is_of class a) ss s e in
    let (same, in_it) = of_tells class a s p.passes in
    record {
      among = p.among;
      of_class = same;
      left = elim which [
        | inl x ↦ inl (in_it ∙ x)
        | inr rest ↦ elim rest [ inl x ↦ inr (inl (in_it ∙ x)) | inr x ↦ inr (inr (in_it ∙ x)) ]
      ];
    }

or_else_cases : (a b : Option Span) (s : Span) → or_else a b ≡ Some s → (a ≡ Some s) ⊎ (b ≡ Some s)
or_else_cases None b s e = inr e
or_else_cases (Some t) b s e = inl e

pub listed_is : (class : ℕ) (ss : List Span) (s : Span) → listed class ss ≡ Some s → IsUsable class ss s
listed_is class ss s e = elim (or_else_cases (latest (is_of class state.Active) ss) _ s e) [
  | inl active ↦ latest_usable class state.Active ss s (inl refl) active
  | inr rest ↦ elim (or_else_cases (latest (is_of class state.Empty) ss) _ s rest) [
    | inl empty ↦ latest_usable class state.Empty ss s (inr (inl refl)) empty
    | inr gone ↦ latest_usable class state.Decommitted ss s (inr (inr refl)) gone
  ]
]

pub some_slots : (c : ℕ) → c < 170 → 0 < slots_of c
some_slots c real = let b = IsRow-of c real in let p = b.some_slots in omega arith

pub usable_less : (s : Span) → IsSoundSpan s → ((s.state ≡ state.Active) ⊎ ((s.state ≡ state.Empty) ⊎ (s.state ≡ state.Decommitted))) →
    s.allocated < slots_of s.class
usable_less s good (inl active) = (subst (λ a. StateSays a s) active good.says).1
usable_less s good (inr (inl empty)) =
    let none : s.allocated ≡ 0 = subst (λ a. StateSays a s) empty good.says in
    let some = some_slots s.class good.counted.class in
    omega arith
usable_less s good (inr (inr gone)) =
    let none = subst (λ a. StateSays a s) gone good.says in
    let p = none.0 in
    let some = some_slots s.class good.counted.class in
    omega arith

-- a root with a new span
new_counted : (class : ℕ) (at : SuperPage) (page : ℕ) → class < 170 → IsCounted (new_span class at page)
new_counted class at page real = record {
  class = real;
  listed = refl;
  numbers = λ n among. absurd (not_in_none n among);
  once = pairs_none (λ (a b : ℕ). a ≢ b);
  provisioned = no_pages (slot_of class) (slots_of class);
  committed = omega arith;
  made = omega arith;
  most = omega arith;
}

some_pages : (c : ℕ) → c < 170 → 1 ≤ pages_of c
some_pages c real = let b = IsRow-of c real in b.some_pages

-- a span of the current super page lies before the new one
old_before : (r : Root) (class : ℕ) (at : SuperPage) (u : Span) → IsSound r → current r ≡ Some at → Contains r.spans u →
    u.born ≡ at.born → u.place + bytes_of u ≤ (new_span class at r.page).place
old_before r class at u sound now among born = sound.below u at among now born

not_there : (r : Root) (class : ℕ) (at : SuperPage) (u : Span) → IsSound r → current r ≡ Some at → Contains r.spans u →
    same_place u (new_span class at r.page) ≡ false
not_there r class at u sound now among = elim (cases_Bool (same_place u (new_span class at r.page))) [
  | inl same ↦
      let (place, born) = place_tells u (new_span class at r.page) same in
      let before = old_before r class at u sound now among born in
      let many = some_pages u.class (sound.spans u among).counted.class in
      absurd (omega arith)
  | inr other ↦ other
]

same_at : (r : Root) (at other : SuperPage) → current r ≡ Some at → current r ≡ Some other → at ≡ other
same_at r at other now then = of_some at other (sym now ∙ then)

pub with_span_sound : (r : Root) (class : ℕ) (at : SuperPage) → IsSound r → class < 170 → current r ≡ Some at →
    r.page + pages_of class ≤ 127 →
    IsSound (with_span (new_span class at r.page) r)
with_span_sound r class at sound real now room =
    let s = new_span class at r.page in
    let (first, last) = sound.pages at now in
    record {
      spans = λ u member. elim (Contains-push_cases r.spans s u member) [
        | inl old ↦ sound.spans u old
        | inr e ↦ subst (λ z. IsSoundSpan z) e (record { counted = new_counted class at r.page real; says = refl })
      ];
      placed = λ u member. elim (Contains-push_cases r.spans s u member) [
        | inl old ↦
            let (other, page, p) = sound.placed u old in
            (other, page, record { among = p.among; born = p.born; place = p.place; first = p.first; last = p.last })
        | inr e ↦ (
          at,
          r.page,
          subst (λ z. IsPlaced (with_span s r) z at r.page) e
              (record { among = at_in r.supers _ at now; born = refl; place = refl; first = first; last = room }),
        )
      ];
      below = λ u other member other_now born. elim (Contains-push_cases r.spans s u member) [
        | inl old ↦ let p = sound.below u other old other_now born in omega arith
        | inr e ↦ subst (λ z. z.place + bytes_of z ≤ page_place other.number (r.page + pages_of class)) e
            (let n : at.number ≡ other.number = ap (λ (x : SuperPage). x.number) (same_at r at other now other_now) in omega arith)
      ];
      pages = λ other other_now. (let p = (sound.pages other other_now).0 in omega arith, room);
      places = pairs_push IsElsewhere r.spans s sound.places (λ u old. not_there r class at u sound now old);
      apart = λ u v member other far born. elim (Contains-push_cases r.spans s u member) [
        | inl old ↦ elim (Contains-push_cases r.spans s v other) [
          | inl old' ↦ sound.apart u v old old' far born
          | inr e ↦ subst (λ z. AreApart u z) e (inl (old_before r class at u sound now old (born ∙ sym (ap (λ (z : Span). z.born) e))))
        ]
        | inr e ↦ elim (Contains-push_cases r.spans s v other) [
          | inl old' ↦ subst (λ z. AreApart z v) e
              (inr (old_before r class at v sound now old' (sym born ∙ sym (ap (λ (z : Span). z.born) e))))
          | inr e' ↦ absurd (both_ways _ far (subst (λ z. same_place z v ≡ true) e (subst (λ z. same_place s z ≡ true) e' (place_self s))))
        ]
      ];
      turns = λ u member used. elim (Contains-push_cases r.spans s u member) [
        | inl old ↦ sound.turns u old used
        | inr e ↦ absurd (true≢false (subst (λ (z : Span). is_in state.None z ≡ false) (sym e) used))
      ];
      order = λ u v member other far used used'. elim (Contains-push_cases r.spans s u member) [
        | inl old ↦ elim (Contains-push_cases r.spans s v other) [
          | inl old' ↦ sound.order u v old old' far used used'
          | inr e ↦ absurd (true≢false (subst (λ (z : Span). is_in state.None z ≡ false) (sym e) used'))
        ]
        | inr e ↦ absurd (true≢false (subst (λ (z : Span). is_in state.None z ≡ false) (sym e) used))
      ];
      mixed = sound.mixed;
      alone = sound.alone;
    }

-- a take from the listed span, and from a new one
listed_ready : (class : ℕ) (r : Root) (s : Span) → IsSound r → listed class r.spans ≡ Some s → IsGiven class r (take_from_span s r)
listed_ready class r s sound e =
    let u = listed_is class r.spans s e in
    subst (λ c. IsGiven c r (take_from_span s r)) u.of_class (span_given r s sound u.among (usable_less s (sound.spans s u.among) u.left))

new_ready : (class : ℕ) (r : Root) (at : SuperPage) → IsSound r → class < 170 → current r ≡ Some at → r.page + pages_of class ≤ 127 →
    IsGiven class r (take_from_span (new_span class at r.page) (with_span (new_span class at r.page) r))
new_ready class r at sound real now room =
    let s = new_span class at r.page in
    let grown = with_span s r in
    let some = some_slots class real in
    let g = span_given grown s (with_span_sound r class at sound real now room) (Contains-push r.spans s) some in
    record {
      title = g.title;
      gives = g.gives;
      sound = g.sound;
      settled = let p = g.settled in let q = sum_by_push (λ (x : Span). cond (is_in state.Empty x) 1 0) r.spans s in omega arith;
      rises = g.rises;
      turn = g.turn;
      supers = g.supers;
      maps = g.maps;
      len = g.len;
      made = g.made;
      fresh = λ out. g.fresh (out.0, Contains-append_left r.spans (s ∷ []) out.0 out.1, out.2, out.3);
      out = g.out;
      stays = λ name out. g.stays name (out.0, Contains-append_left r.spans (s ∷ []) out.0 out.1, out.2, out.3);
      only = λ name out. elim (g.only name out) [
        | inl before ↦ elim (Contains-push_cases r.spans s before.0 before.1) [
          | inl old ↦ inl (before.0, old, before.2, before.3)
          | inr e ↦ let p = before.3.provisioned in let q = ap (λ (z : Span). z.provisioned) e in absurd (omega arith)
        ]
        | inr new ↦ inr new
      ];
      keeps = λ t made. g.keeps t (made.0, Contains-append_left r.spans (s ∷ []) made.0 made.1, made.2, made.3, made.4);
    }

take_at_page : (class : ℕ) (r : Root) (o : Option SuperPage) → IsSound r → class < 170 → current r ≡ o →
    ((at_page class r o ≡ None)) ⊎ ((is_some (at_page class r o) ≡ true) × IsGiven class r (taken_from (at_page class r o) r))
take_at_page class r None sound real now = inl refl
take_at_page class r (Some at) sound real now = elim (cases_Bool (leb (r.page + pages_of class) 127)) [
  | inl room ↦ inr (rw room refl, rw room (new_ready class r at sound real now (leb-true _ _ room)))
  | inr full ↦ inl (rw full refl)
]

take_by : (class : ℕ) (r : Root) (o : Option Span) → IsSound r → class < 170 → listed class r.spans ≡ o →
    ((found_or_new class r o ≡ None)) ⊎
    ((is_some (found_or_new class r o) ≡ true) × IsGiven class r (taken_from (found_or_new class r o) r))
take_by class r None sound real e = take_at_page class r (current r) sound real refl
take_by class r (Some s) sound real e = inr (refl, listed_ready class r s sound e)

pub take_cases : (class : ℕ) (r : Root) → IsSound r → class < 170 →
    (span_for class r ≡ None) ⊎ ((is_some (span_for class r) ≡ true) × IsGiven class r (one_take class r))
take_cases class r sound real = take_by class r (listed class r.spans) sound real refl

abbrev nothing_taken : Root → Filled
nothing_taken r = record { root = r; titles = [] }

nothing_filled : (class want : ℕ) (r : Root) → IsSound r → IsFilled class want r (nothing_taken r)
nothing_filled class want r sound = record {
  sound = sound;
  settled = omega arith;
  rises = omega arith;
  turn = omega arith;
  supers = refl;
  maps = refl;
  many = omega arith;
  len = λ t among. absurd (not_in_none t among);
  made = λ t among. absurd (not_in_none t among);
  fresh = λ t among out. not_in_none t among;
  out = λ t among. absurd (not_in_none t among);
  differ = pairs_none (λ (t : Title) (u : Title). name_of t ≢ name_of u);
  stays = λ name out. out;
  only = λ name out. inl out;
  keeps = λ t made. made;
}

pub and_then_some : (t : Took) (further : Root → Filled) (title : Title) → t.title ≡ Some title →
    and_then t further ≡ record { root = (further t.root).root; titles = title ∷ (further t.root).titles }
and_then_some t further title e = rw e refl

more_filled : (class want : ℕ) (r : Root) (t : Took) (g : IsGiven class r t) (rest : Filled) → IsFilled class want t.root rest →
    IsFilled class (suc want) r (record { root = rest.root; titles = g.title ∷ rest.titles })
more_filled class want r t g rest f = record {
  sound = f.sound;
  settled = let p = f.settled in let q = g.settled in omega arith;
  rises = let p = f.rises in let q = g.rises in omega arith;
  turn = let p = f.turn in let q = g.turn in omega arith;
  supers = f.supers ∙ g.supers;
  maps = f.maps ∙ g.maps;
  many = let p = f.many in omega arith;
  len = λ u among. elim (in_cases g.title u rest.titles among) [
    | inl e ↦ subst (λ z. z.len ≡ slot_of class) e g.len
    | inr old ↦ f.len u old
  ];
  made = λ u among. elim (in_cases g.title u rest.titles among) [
    | inl e ↦ subst (λ z. IsMade rest.root z) e (f.keeps g.title g.made)
    | inr old ↦ f.made u old
  ];
  fresh = λ u among out. elim (in_cases g.title u rest.titles among) [
    | inl e ↦ g.fresh (subst (λ z. IsOut r (name_of z)) (sym e) out)
    | inr old ↦ f.fresh u old (g.stays (name_of u) out)
  ];
  out = λ u among. elim (in_cases g.title u rest.titles among) [
    | inl e ↦ subst (λ z. IsOut rest.root (name_of z)) e (f.stays (name_of g.title) g.out)
    | inr old ↦ f.out u old
  ];
  differ = pairs_cons (λ (t : Title) (u : Title). name_of t ≢ name_of u) g.title rest.titles
      (λ u among e. f.fresh u among (subst (λ z. IsOut t.root z) e g.out)) f.differ;
  stays = λ name out. f.stays name (g.stays name out);
  only = λ name out. elim (f.only name out) [
    | inl before ↦ elim (g.only name before) [
      | inl old ↦ inl old
      | inr e ↦ inr (g.title, first_in g.title rest.titles, e)
    ]
    | inr (u, among, e) ↦ inr (u, later_in g.title u rest.titles among, e)
  ];
  keeps = λ u made. f.keeps u (g.keeps u made);
}

pub takes_filled : (class want : ℕ) (r : Root) → IsSound r → class < 170 → IsFilled class want r (takes class want r)
takes_filled class zero r sound real = nothing_filled class zero r sound
takes_filled class (suc want) r sound real = elim (take_cases class r sound real) [
  | inl none ↦
      let t = one_take class r in
      let e : t ≡ record { root = r; title = None } = ap (λ o. taken_from o r) none in
      subst (λ f. IsFilled class (suc want) r f) (sym (ap (λ z. and_then z (takes class want)) e)) (nothing_filled class (suc want) r sound)
  | inr given ↦
      let t = one_take class r in
      let g = given.1 in
      let f = takes_filled class want t.root g.sound real in
      subst (λ z. IsFilled class (suc want) r z) (sym (and_then_some t (takes class want) g.title g.gives))
      (more_filled class want r t g (takes class want t.root) f)
]

-- a fill gives a slot exactly when its first take finds a span
pub takes_some : (class want : ℕ) (r : Root) → IsSound r → class < 170 → IsSome (span_for class r) →
    1 ≤ length (takes class (suc want) r).titles
takes_some class want r sound real some = elim (take_cases class r sound real) [
  | inl none ↦ absurd (true≢false (sym some ∙ ap is_some none))
  | inr given ↦
      let t = one_take class r in
      let g = given.1 in
      let e = ap (λ (f : Filled). length f.titles) (and_then_some t (takes class want) g.title g.gives) in
      omega arith
]

pub takes_none : (class want : ℕ) (r : Root) → IsNone (span_for class r) → takes class want r ≡ record { root = r; titles = [] }
takes_none class zero r none = refl
takes_none class (suc want) r none = ap (λ o. and_then (taken_from o r) (takes class want)) (none_is (span_for class r) none)
  where
    none_is : (o : Option Found) → is_some o ≡ false → o ≡ None
    none_is None e = refl
    none_is (Some f) e = absurd (true≢false e)

-- a new super page
slice_get_push : {A : Type 0} (xs : List A) (x : A) → slice_get (xs ++ x ∷ []) (length (xs ++ x ∷ []) - 1) ≡ Some x
slice_get_push xs x = at_end xs x (length (xs ++ x ∷ []) - 1) (let p = length_push xs x in omega arith)
  where
    at_end : {A : Type 0} (xs : List A) (x : A) (n : ℕ) → n ≡ length xs → slice_get (xs ++ x ∷ []) n ≡ Some x
    at_end [] x zero e = refl
    at_end [] x (suc n) e = absurd (omega arith)
    at_end (y ∷ ys) x zero e = absurd (omega arith)
    at_end (y ∷ ys) x (suc n) e = at_end ys x n (omega arith)

pub opened_current : (number born : ℕ) (r : Root) → current (opened number born r) ≡ Some (record { number = number; born = born })
opened_current number born r = slice_get_push r.supers (record { number = number; born = born })

pub opened_sound : (number born : ℕ) (r : Root) → IsSound r → IsBornBelow born r → IsSound (opened number born r)
opened_sound number born r sound old =
    let at : SuperPage = record { number = number; born = born } in
    let after = opened number born r in
    record {
      spans = sound.spans;
      placed = λ s among.
          let (at', page, p) = sound.placed s among in (
            at',
            page,
            record {
              among = Contains-append_left r.supers (at ∷ []) at' p.among;
              born = p.born;
              place = p.place;
              first = p.first;
              last = p.last;
            },
          );
      below = λ s at' among now same.
          let (other, page, p) = sound.placed s among in
          let e = ap (λ (x : SuperPage). x.born) (of_some at at' (sym (opened_current number born r) ∙ now)) in
          let less = old.supers other p.among in
          let q = p.born in
          absurd (omega arith);
      pages = λ at' now. (omega arith, omega arith);
      places = sound.places;
      apart = sound.apart;
      turns = sound.turns;
      order = sound.order;
      mixed = λ t at' among member. elim (Contains-push_cases r.supers at at' member) [
        | inl before ↦ sound.mixed t at' among before
        | inr e ↦ λ same. let p = old.maps t among in let q = ap (λ (x : SuperPage). x.born) e in omega arith
      ];
      alone = sound.alone;
    }

-- what was out or made still is, and the entries are below the next one
pub opened_born : (number born : ℕ) (r : Root) → IsBornBelow born r → IsBornBelow (born + 1) (opened number born r)
opened_born number born r old = record {
  supers = λ at member. elim (Contains-push_cases r.supers (record { number = number; born = born }) at member) [
    | inl before ↦ let p = old.supers at before in omega arith
    | inr e ↦ let q = ap (λ (x : SuperPage). x.born) e in omega arith
  ];
  maps = λ t among. let p = old.maps t among in omega arith;
}
