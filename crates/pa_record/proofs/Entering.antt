-- A root stays sound when a span enters a state.
use Rattle.std.proofs.Common.{◌≡◌, ◌≢◌, ℕ, ◌+◌, ◌*◌, ◌<◌, ◌≤◌, Bool, true, false, cond, List, refl, sym, ◌∙◌, ap, subst, arith, ◌⊎◌, inl, inr}
use Rattle.std.specs.Prelude.{Contains}
use Rattle.std.proofs.lemmas.Bool.{cases_Bool, both_ways, false≢true}
use Rattle.pa_layout.specs.Pages.{page_place}
use Rattle.pa_buckets.specs.declared.spans.State.{State}
use Rattle.pa_buckets.specs.declared.spans.State.TheVariants as state
use Rattle.pa_buckets.specs.Table.{pages_of}
use Rattle.pa_record.specs.declared.taken.SuperPage.{SuperPage}
use Rattle.pa_record.specs.Spans.{Span, bytes_of, is_in, same_state, same_place, put}
use Rattle.pa_record.specs.Root.{Root, in_state, turn_after, entered, empties}
use Rattle.pa_record.specs.Sound.{StateSays, IsCounted, IsSoundSpan, IsPlaced, AreApart, IsSound}
use Rattle.pa_record.proofs.Places.{place_from, place_self, place_sym, elsewhere, elsewhere_sym, put_cases, put_elsewhere, put_sum, put_there, put_keeps}

pub same_state-true : (a b : State) → same_state a b ≡ true → a ≡ b
same_state-true state.None state.None h = refl
same_state-true state.Active state.Active h = refl
same_state-true state.Empty state.Empty h = refl
same_state-true state.Decommitted state.Decommitted h = refl
same_state-true state.Full state.Full h = refl
same_state-true a b h = absurd (false≢true h)

pub same_state-self : (a : State) → same_state a a ≡ true
same_state-self state.None = refl
same_state-self state.Active = refl
same_state-self state.Empty = refl
same_state-self state.Decommitted = refl
same_state-self state.Full = refl

-- t is the span s with other numbers
pub record IsLike (t s : Span) : Type 0 where
  pub place : t.place ≡ s.place
  pub born : t.born ≡ s.born
  pub class : t.class ≡ s.class

-- t is s with other numbers, in the state and with the turn of s
pub record IsFrom (t s : Span) : Type 0 where
  pub like : IsLike t s
  pub state : t.state ≡ s.state
  pub turn : t.turn ≡ s.turn

pub like_place : (t s : Span) → IsLike t s → same_place t s ≡ true
like_place t s like = place_from t s like.place like.born

pub like_bytes : (t s : Span) → IsLike t s → bytes_of t ≡ bytes_of s
like_bytes t s like = ap (λ c. 16384 * pages_of c) like.class

placed_like : (r after : Root) (s t : Span) (at : SuperPage) (page : ℕ) → after.supers ≡ r.supers → IsLike t s → IsPlaced r s at page →
    IsPlaced after t at page
placed_like r after s t at page e like h = record {
  among = subst (λ xs. Contains xs at) (sym e) h.among;
  born = like.born ∙ h.born;
  place = like.place ∙ h.place;
  first = h.first;
  last = let p = h.last in let q = ap pages_of like.class in omega arith;
}

apart_like : (s t u : Span) → IsLike t s → AreApart s u → AreApart t u
apart_like s t u like h =
    let p = like.place in
    let q = like_bytes t s like in
    elim h [ inl below ↦ inl (omega arith) | inr above ↦ inr (omega arith) ]

pub apart_sym : (s t : Span) → AreApart s t → AreApart t s
apart_sym s t (inl below) = inr below
apart_sym s t (inr above) = inl above

-- the turn that the span t has in place of s: that of s, which is in a state, or the next one
abbrev pub HasTurn : Root → Span → Span → ℕ → Type 0
HasTurn r s t turn = ((t.turn ≡ s.turn) × (is_in state.None s ≡ false)) ⊎ ((t.turn ≡ r.turn) × (r.turn < turn))

abbrev pub with_spans : Root → List Span → ℕ → Root
with_spans r spans turn = record r { spans = spans; turn = turn }

fresh_turn : (r : Root) (s t u : Span) (turn : ℕ) → IsSound r → Contains r.spans s → HasTurn r s t turn → Contains r.spans u →
    same_place s u ≡ false → is_in state.None u ≡ false → t.turn ≢ u.turn
fresh_turn r s t u turn sound among (inl (same, in_one)) old far used e = sound.order s u among old far in_one used (sym same ∙ e)
fresh_turn r s t u turn sound among (inr (next, less)) old far used e = let p = sound.turns u old used in omega arith

pub put_sound : (r : Root) (s t : Span) (turn : ℕ) → IsSound r → Contains r.spans s → IsLike t s → IsSoundSpan t → HasTurn r s t turn →
    r.turn ≤ turn →
    IsSound (with_spans r (put t r.spans) turn)
put_sound r s t turn sound among like good has_turn rises =
    let cases : (u : Span) → Contains (put t r.spans) u → (u ≡ t) ⊎ (Contains r.spans u × (same_place u t ≡ false)) =
    λ u member. put_cases t u r.spans sound.places member in
    let here : same_place s t ≡ true = place_sym t s (like_place t s like) in
    let far_from_s : (u : Span) → same_place u t ≡ false → same_place s u ≡ false = λ u far. elsewhere s t u here (elsewhere_sym u t far) in
    record {
      spans = λ u member. elim (cases u member) [
        | inl e ↦ subst (λ z. IsSoundSpan z) (sym e) good
        | inr old ↦ sound.spans u old.0
      ];
      placed = λ u member. elim (cases u member) [
        | inl e ↦
            let (at, page, p) = sound.placed s among in (
              at,
              page,
              subst (λ z. IsPlaced (with_spans r (put t r.spans) turn) z at page) (sym e)
                  (placed_like r (with_spans r (put t r.spans) turn) s t at page refl like p),
            )
        | inr old ↦
            let (at, page, p) = sound.placed u old.0 in (
              at,
              page,
              placed_like r (with_spans r (put t r.spans) turn) u u at page refl
                  (record { place = refl; born = refl; class = refl }) p,
            )
      ];
      below = λ u at member now born. elim (cases u member) [
        | inl e ↦
            let p = sound.below s at among now (sym like.born ∙ sym (ap (λ (z : Span). z.born) e) ∙ born) in
            let q = like_bytes t s like in
            let k = like.place in
            subst (λ z. z.place + bytes_of z ≤ page_place at.number r.page) (sym e) (omega arith)
        | inr old ↦ sound.below u at old.0 now born
      ];
      pages = sound.pages;
      places = put_elsewhere t r.spans sound.places;
      apart = λ u v member other far born. elim (cases u member) [
        | inl e ↦ elim (cases v other) [
          | inl f ↦ absurd (both_ways _ far (subst (λ z. same_place u z ≡ true) (e ∙ sym f) (place_self u)))
          | inr old ↦
              let near : s.born ≡ v.born = sym like.born ∙ sym (ap (λ (z : Span). z.born) e) ∙ born in
              subst (λ z. AreApart z v) (sym e) (apart_like s t v like (sound.apart s v among old.0 (far_from_s v old.1) near))
        ]
        | inr first ↦ elim (cases v other) [
          | inl f ↦
              let near : s.born ≡ u.born = sym like.born ∙ sym (ap (λ (z : Span). z.born) f) ∙ sym born in
              subst (λ z. AreApart u z) (sym f)
              (apart_sym t u (apart_like s t u like (sound.apart s u among first.0 (far_from_s u first.1) near)))
          | inr old ↦ sound.apart u v first.0 old.0 far born
        ]
      ];
      turns = λ u member used. elim (cases u member) [
        | inl e ↦
            let k : u.turn ≡ t.turn = ap (λ (z : Span). z.turn) e in
            elim has_turn [
              | inl same ↦ let p = sound.turns s among same.1 in let q = same.0 in omega arith
              | inr next ↦ let p = next.0 in let q = next.1 in omega arith
            ]
        | inr old ↦ let p = sound.turns u old.0 used in omega arith
      ];
      order = λ u v member other far used used'. elim (cases u member) [
        | inl e ↦ elim (cases v other) [
          | inl f ↦ absurd (both_ways _ far (subst (λ z. same_place u z ≡ true) (e ∙ sym f) (place_self u)))
          | inr old ↦ λ same. fresh_turn r s t v turn sound among has_turn old.0 (far_from_s v old.1) used'
              (sym (ap (λ (z : Span). z.turn) e) ∙ same)
        ]
        | inr first ↦ elim (cases v other) [
          | inl f ↦ λ same. fresh_turn r s t u turn sound among has_turn first.0 (far_from_s u first.1) used
              (sym (ap (λ (z : Span). z.turn) f) ∙ sym same)
          | inr old ↦ sound.order u v first.0 old.0 far used used'
        ]
      ];
      mixed = sound.mixed;
      alone = sound.alone;
    }

-- the span that enters a state is that span but for its state and turn
pub in_state_like : (to : State) (turn : ℕ) (t : Span) → IsLike (in_state to turn t) t
in_state_like to turn t = elim (cases_Bool (same_state t.state to)) [
  | inl same ↦ rw same (record { place = refl; born = refl; class = refl })
  | inr other ↦ rw other (record { place = refl; born = refl; class = refl })
]

pub like_trans : (t s u : Span) → IsLike t s → IsLike s u → IsLike t u
like_trans t s u a b = record { place = a.place ∙ b.place; born = a.born ∙ b.born; class = a.class ∙ b.class }

pub in_state_numbers : (to : State) (turn : ℕ) (t : Span) → IsCounted t → StateSays to t → IsSoundSpan (in_state to turn t)
in_state_numbers to turn t counted says = elim (cases_Bool (same_state t.state to)) [
  | inl same ↦ rw same (record { counted = counted; says = subst (λ a. StateSays a t) (sym (same_state-true t.state to same)) says })
  | inr other ↦ rw other
      (record {
        counted = record {
          class = counted.class;
          listed = counted.listed;
          numbers = counted.numbers;
          once = counted.once;
          provisioned = counted.provisioned;
          committed = counted.committed;
          made = counted.made;
          most = counted.most;
        };
        says = says_with to turn t to says;
      })
]
  where
    says_with : (to : State) (turn : ℕ) (t : Span) (a : State) → StateSays a t → StateSays a (record t { state = to; turn = turn })
    says_with to turn t state.None h = h
    says_with to turn t state.Active h = h
    says_with to turn t state.Empty h = h
    says_with to turn t state.Decommitted h = h
    says_with to turn t state.Full h = h

pub entered_sound : (r : Root) (s t : Span) (to : State) → IsSound r → Contains r.spans s → IsFrom t s → IsCounted t → StateSays to t →
    same_state to state.None ≡ false → IsSound (entered to t r)
entered_sound r s t to sound among from counted says used =
    put_sound r s (in_state to r.turn t) (turn_after to r.turn t) sound among
    (like_trans (in_state to r.turn t) t s (in_state_like to r.turn t) from.like)
    (in_state_numbers to r.turn t counted says)
    (new_turn r s t to from used)
    (turn_rises r to t)
  where
    new_turn : (r : Root) (s t : Span) (to : State) → IsFrom t s → same_state to state.None ≡ false →
        HasTurn r s (in_state to r.turn t) (turn_after to r.turn t)
    new_turn r s t to from used = elim (cases_Bool (same_state t.state to)) [
      | inl same ↦
          let e : s.state ≡ to = sym from.state ∙ same_state-true t.state to same in
          rw same (inl (from.turn, subst (λ a. same_state a state.None ≡ false) (sym e) used))
      | inr other ↦ rw other (inr (refl, omega arith))
    ]

    turn_rises : (r : Root) (to : State) (t : Span) → r.turn ≤ turn_after to r.turn t
    turn_rises r to t = elim (cases_Bool (same_state t.state to)) [ inl same ↦ rw same (omega arith) | inr other ↦ rw other (omega arith) ]

-- the next turn rises by at most one if a span enters a state
pub turn_after_most : (to : State) (turn : ℕ) (t : Span) → turn_after to turn t ≤ turn + 1
turn_after_most to turn t =
    elim (cases_Bool (same_state t.state to)) [ inl same ↦ rw same (omega arith) | inr other ↦ rw other (omega arith) ]

-- the state that a span entered
pub in_state_is : (to : State) (turn : ℕ) (t : Span) → (in_state to turn t).state ≡ to
in_state_is to turn t = elim (cases_Bool (same_state t.state to)) [
  | inl same ↦ rw same (same_state-true t.state to same)
  | inr other ↦ rw other refl
]

-- how many are empty before and after
abbrev pub one_if : Bool → ℕ
one_if b = cond b 1 0

pub entered_empties : (r : Root) (s t : Span) (to : State) → IsSound r → Contains r.spans s → IsLike t s →
    empties (entered to t r) + one_if (is_in state.Empty s) ≡ empties r + one_if (same_state to state.Empty)
entered_empties r s t to sound among like =
    let u = in_state to r.turn t in
    let near : same_place s u ≡ true = place_sym u s (like_place u s (like_trans u t s (in_state_like to r.turn t) like)) in
    let sums = put_sum (λ (x : Span). one_if (is_in state.Empty x)) u s r.spans sound.places among near in
    let e : one_if (is_in state.Empty u) ≡ one_if (same_state to state.Empty) =
    ap (λ a. one_if (same_state a state.Empty)) (in_state_is to r.turn t) in
    omega arith

-- the span is there, and the others stay
pub entered_there : (r : Root) (s t : Span) (to : State) → Contains r.spans s → IsLike t s →
    Contains (entered to t r).spans (in_state to r.turn t)
entered_there r s t to among like =
    let u = in_state to r.turn t in
    put_there u s r.spans among (place_sym u s (like_place u s (like_trans u t s (in_state_like to r.turn t) like)))

pub entered_keeps : (r : Root) (s t u : Span) (to : State) → IsLike t s → Contains r.spans u → same_place s u ≡ false →
    Contains (entered to t r).spans u
entered_keeps r s t u to like among far =
    let v = in_state to r.turn t in
    let near : same_place v s ≡ true = like_place v s (like_trans v t s (in_state_like to r.turn t) like) in
    put_keeps v u r.spans among (elsewhere_sym v u (elsewhere v s u near far))
