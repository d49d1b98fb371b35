-- Takes and fills: the root stays sound, and what is taken is out.
use Rattle.std.proofs.Common.{◌≡◌, ◌≢◌, ℕ, ◌+◌, ◌-◌, ◌*◌, ◌<◌, ◌≤◌, false, eqb, List, [], ◌∷◌, length, refl, sym, ◌∙◌, ap, subst, arith, ◌⊎◌, inl, inr}
use Rattle.std.specs.Prelude.{Contains, AllPairs}
use Rattle.std.proofs.lemmas.Bool.{cases_Bool, cases_eq, cases_lt}
use Rattle.pa_slot.specs.declared.title.Title.{Title}
use Rattle.pa_slot.specs.declared.word.SlotName.{SlotName}
use Rattle.pa_buckets.specs.declared.spans.State.{State}
use Rattle.pa_buckets.specs.declared.spans.State.TheVariants as state
use Rattle.pa_buckets.specs.Table.{slot_of, slots_of}
use Rattle.pa_record.specs.Spans.{Span, title_at, name_of, more_slots, with_list, with_free, without_front, state_in_use, same_state, listed, same_place}
use Rattle.pa_record.specs.Root.{Root, in_state, turn_after, entered, Took, front_taken, IsOut, IsOutOf}
use Rattle.pa_record.specs.Sound.{IsCounted, IsSound, IsMade}
use Rattle.pa_record.specs.Steps.{IsGiven}
use Rattle.pa_lists.proofs.Members.{not_in_none, first_in, later_in, in_cases}
use Rattle.pa_lists.proofs.Pairs.{pairs_head}
use Rattle.pa_record.proofs.Places.{one_span, put_cases}
use Rattle.pa_lists.proofs.Different.{numbers_in, numbers_has}
use Rattle.pa_record.proofs.SpanSteps.{with_free_front, without_front_counted, says_in_use, more_than}
use Rattle.pa_record.proofs.Entering.{IsLike, IsFrom, in_state_like, like_trans, entered_sound, entered_empties, entered_there, entered_keeps, turn_after_most, one_if}
use Rattle.pa_record.proofs.Slots.{one_slot}
use Rattle.pa_record.proofs.Out.{KeepsOut, name_like, entered_out}

-- a span that enters a state in place of s keeps what was made
pub same_made : (to : State) (turn : ℕ) (t : Span) → (in_state to turn t).made ≡ t.made
same_made to turn t = elim (cases_Bool (same_state t.state to)) [ inl same ↦ rw same refl | inr other ↦ rw other refl ]

pub title_like : (t s : Span) (n : ℕ) → IsLike t s → title_at t n ≡ title_at s n
title_like t s n like = titled t.place s.place t.born s.born t.class s.class like.place like.born like.class
  where
    titled : (p q b d c e : ℕ) → p ≡ q → b ≡ d → c ≡ e →
        (let x : Title = record { start = p + slot_of c * n; len = slot_of c; born = b } in
        let y : Title = record { start = q + slot_of e * n; len = slot_of e; born = d } in x ≡ y)
    titled p q b d c e h k l = rw (h, k, l) refl

pub entered_made : (r : Root) (s t : Span) (to : State) (title : Title) → IsSound r → Contains r.spans s → IsLike t s → s.made ≤ t.made →
    IsMade r title → IsMade (entered to t r) title
entered_made r s t to title sound among like more (u, member, n, below, is) = elim (cases_Bool (same_place s u)) [
  | inl near ↦
      let e : s ≡ u = one_span s u r.spans sound.places among member near in
      let v = in_state to r.turn t in
      let many = same_made to r.turn t in
      let before : n < s.made = subst (λ z. n < z.made) (sym e) below in (
        v,
        entered_there r s t to among like,
        n,
        omega arith,
        is ∙ sym (subst (λ z. title_at v n ≡ title_at z n) e (title_like v s n (like_trans v t s (in_state_like to r.turn t) like))),
      )
  | inr far ↦ (u, entered_keeps r s t u to like member far, n, below, is)
]

-- provisioning and the front keep place, class, state and turn
free_from : (s : Span) → IsFrom (with_free s) s
free_from s = by_list s.free s
  where
    by_list : (xs : List ℕ) (s : Span) → IsFrom (with_list xs s) s
    by_list [] s = record { like = record { place = refl; born = refl; class = refl }; state = refl; turn = refl }
    by_list (x ∷ xs) s = record { like = record { place = refl; born = refl; class = refl }; state = refl; turn = refl }

pub front_from : (s : Span) (rest : List ℕ) → IsFrom (without_front rest (with_free s)) s
front_from s rest =
    let f = free_from s in
    record { like = record { place = f.like.place; born = f.like.born; class = f.like.class }; state = f.state; turn = f.turn }

pub free_made : (s : Span) → s.made ≤ (with_free s).made
free_made s = by_list s.free s
  where
    by_list : (xs : List ℕ) (s : Span) → s.made ≤ (with_list xs s).made
    by_list [] s = omega arith
    by_list (x ∷ xs) s = omega arith

pub free_allocated : (s : Span) → (with_free s).allocated ≡ s.allocated
free_allocated s = by_list s.free s
  where
    by_list : (xs : List ℕ) (s : Span) → (with_list xs s).allocated ≡ s.allocated
    by_list [] s = refl
    by_list (x ∷ xs) s = refl

-- what is out of the span is out of it when it was provisioned
free_keeps : (s : Span) (n : ℕ) → IsCounted s → s.allocated < slots_of s.class → n < s.provisioned → (Contains s.free n → ⊥) →
    (n < (with_free s).provisioned) × (Contains (with_free s).free n → ⊥)
free_keeps s n counted less below away = by_list s.free refl
  where
    by_list : (xs : List ℕ) → s.free ≡ xs → (n < (with_list xs s).provisioned) × (Contains (with_list xs s).free n → ⊥)
    by_list [] e =
        let all : s.allocated ≡ s.provisioned = let p = counted.listed in let q = ap length e in omega arith in
        let more = more_than s counted (omega arith) in
        (omega arith, λ among. let (p, q) = numbers_in s.provisioned (more_slots s - s.provisioned) n among in omega arith)
    by_list (x ∷ xs) e = (below, away)

front_keeps : (s : Span) (number : ℕ) (rest : List ℕ) (name : SlotName) → IsCounted s → s.allocated < slots_of s.class →
    (with_free s).free ≡ number ∷ rest → KeepsOut name s (without_front rest (with_free s))
front_keeps s number rest name counted less e n out =
    let (below, away) = free_keeps s n counted less out.provisioned out.out in
    (below, λ among. away (subst (λ xs. Contains xs n) (sym e) (later_in number n rest among)))

-- a take from a span of the root of which not all slots are out
abbrev pub take_from_span : Span → Root → Took
take_from_span s r = front_taken (with_free s).free (with_free s) r

pub in_use_is_used : (s : Span) → (same_state (state_in_use s) state.None ≡ false) × (same_state (state_in_use s) state.Empty ≡ false)
in_use_is_used s = elim (cases_Bool (eqb s.allocated (slots_of s.class))) [
  | inl all ↦ rw all (refl, refl)
  | inr not_all ↦ rw not_all (refl, refl)
]

pub turn_not_less : (to : State) (turn : ℕ) (t : Span) → turn ≤ turn_after to turn t
turn_not_less to turn t =
    elim (cases_Bool (same_state t.state to)) [ inl same ↦ rw same (omega arith) | inr other ↦ rw other (omega arith) ]

-- the front wasn't out
front_fresh : (r : Root) (s : Span) (number : ℕ) → IsSound r → Contains r.spans s → s.allocated < slots_of s.class →
    IsCounted (with_free s) →
    Contains (with_free s).free number → IsOut r (name_of (title_at (with_free s) number)) → ⊥
front_fresh r s number sound among less counted listed (v, member, m, out) =
    let u = with_free s in
    let like = (free_from s).like in
    let good = (sound.spans s among).counted in
    let good' = (sound.spans v member).counted in
    let same : name_of (title_at s number) ≡ name_of (title_at v m) = sym (name_like u s number like) ∙ out.named in
    let low : number < slots_of s.class =
    let p = counted.numbers number listed in let q = counted.made in let k = counted.most in let e = ap slots_of like.class in
    omega arith in
    let low' : m < slots_of v.class = let p = out.provisioned in let q = good'.made in let k = good'.most in omega arith in
    let one = one_slot r s v number m sound among member low low' (ap (λ (x : SlotName). x.born) same)
    (ap (λ (x : SlotName). x.start) same) in
    let here : IsOutOf s (name_of (title_at u number)) m = subst (λ z. IsOutOf z (name_of (title_at u number)) m) (sym one.span) out in
    (free_keeps s m good less here.provisioned here.out).1 (subst (λ i. Contains u.free i) one.number listed)

same_list_as : (to : State) (turn : ℕ) (t : Span) → ((in_state to turn t).free ≡ t.free) ×
    ((in_state to turn t).provisioned ≡ t.provisioned)
same_list_as to turn t = elim (cases_Bool (same_state t.state to)) [
  | inl same ↦ rw same (refl, refl)
  | inr other ↦ rw other (refl, refl)
]

-- what is out of the span after it was provisioned was out before
free_back : (s : Span) (n : ℕ) → IsCounted s → s.allocated < slots_of s.class → n < (with_free s).provisioned →
    (Contains (with_free s).free n → ⊥) →
    (n < s.provisioned) × (Contains s.free n → ⊥)
free_back s n counted less below away = by_list s.free refl below away
  where
    by_list : (xs : List ℕ) → s.free ≡ xs → n < (with_list xs s).provisioned → (Contains (with_list xs s).free n → ⊥) →
        (n < s.provisioned) × (Contains s.free n → ⊥)
    by_list [] e below' away' =
        let all : s.allocated ≡ s.provisioned = let p = counted.listed in let q = ap length e in omega arith in
        let more = more_than s counted (omega arith) in
        elim (cases_lt n s.provisioned) [
          | inl low ↦ (low, λ among. not_in_none n (subst (λ xs. Contains xs n) e among))
          | inr high ↦ absurd (away' (numbers_has s.provisioned (more_slots s - s.provisioned) n high (omega arith)))
        ]
    by_list (x ∷ xs) e below' away' = (below', away')

-- only the front comes out
front_only : (r : Root) (s : Span) (number : ℕ) (rest : List ℕ) (to : State) (name : SlotName) → IsSound r → Contains r.spans s →
    s.allocated < slots_of s.class →
    (with_free s).free ≡ number ∷ rest → IsOut (entered to (without_front rest (with_free s)) r) name →
    IsOut r name ⊎ (name ≡ name_of (title_at (with_free s) number))
front_only r s number rest to name sound among less e (v, member, n, out) =
    let u = with_free s in
    let t = without_front rest u in
    let w = in_state to r.turn t in
    let like = (front_from s rest).like in
    let w_like = in_state_like to r.turn t in
    elim (put_cases w v r.spans sound.places member) [
      | inl same ↦
          let here : IsOutOf w name n = subst (λ z. IsOutOf z name n) same out in
          let (list, many) = same_list_as to r.turn t in
          elim (cases_eq n number) [
            | inl front ↦
                inr (here.named ∙ name_like w u n (like_trans w t u w_like (record { place = refl; born = refl; class = refl })) ∙
                ap (λ k. name_of (title_at u k)) front)
            | inr other ↦
                let away : Contains u.free n → ⊥ = λ m. elim (in_cases number n rest (subst (λ xs. Contains xs n) e m)) [
                  | inl k ↦ other (sym k)
                  | inr later ↦ here.out (subst (λ xs. Contains xs n) (sym list) later)
                ] in
                let (below, out_before) = free_back s n (sound.spans s among).counted less (let p = here.provisioned in omega arith) away in
                inl (
                  s,
                  among,
                  n,
                  record {
                    provisioned = below;
                    named = here.named ∙
                        name_like w s n (like_trans w t s w_like like);
                    out = out_before;
                  },
                )
          ]
      | inr old ↦ inl (v, old.0, n, out)
    ]

front_given : (r : Root) (s : Span) (number : ℕ) (rest : List ℕ) → IsSound r → Contains r.spans s → s.allocated < slots_of s.class →
    IsCounted (with_free s) → (with_free s).free ≡ number ∷ rest → IsGiven s.class r (front_taken (number ∷ rest) (with_free s) r)
front_given r s number rest sound among less counted e =
    let u = with_free s in
    let t = without_front rest u in
    let to = state_in_use t in
    let from = front_from s rest in
    let good = sound.spans s among in
    let after = without_front_counted u number rest counted e in
    let same = free_allocated s in
    let like_u = (free_from s).like in
    let slots_same : slots_of t.class ≡ slots_of s.class = ap slots_of from.like.class in
    let says = says_in_use t (omega arith) (omega arith) in
    let used = in_use_is_used t in
    let v = in_state to r.turn t in
    let v_like = in_state_like to r.turn t in
    let place = entered_there r s t to among from.like in
    let below : number < u.provisioned = counted.numbers number (subst (λ xs. Contains xs number) (sym e) (first_in number rest)) in
    let lists = same_list_as to r.turn t in
    let many = same_made to r.turn t in
    let u_like_v : title_at v number ≡ title_at u number =
    title_like v u number (like_trans v t u v_like (record { place = refl; born = refl; class = refl })) in
    record {
      title = title_at u number;
      gives = refl;
      sound = entered_sound r s t to sound among from after says used.0;
      settled = let p = entered_empties r s t to sound among from.like in let q = ap one_if used.1 in omega arith;
      rises = turn_not_less to r.turn t;
      turn = turn_after_most to r.turn t;
      supers = refl;
      maps = refl;
      len = ap slot_of like_u.class;
      made = (v, place, number, let p = after.made in omega arith, sym u_like_v);
      fresh = front_fresh r s number sound among less counted (subst (λ xs. Contains xs number) (sym e) (first_in number rest));
      out = (
        v,
        place,
        number,
        record {
          provisioned = let p = lists.1 in omega arith;
          named = ap name_of (sym u_like_v);
          out = λ member. pairs_head (λ (a b : ℕ). a ≢ b) number number rest (subst (λ xs. AllPairs ◌≢◌ xs) e counted.once)
              (subst (λ xs. Contains xs number) lists.0 member) refl;
        },
      );
      stays = λ name out. entered_out r s t to name sound among from.like (front_keeps s number rest name good.counted less e) out;
      only = λ name out. front_only r s number rest to name sound among less e out;
      keeps = λ title made. entered_made r s t to title sound among from.like (free_made s) made;
    }

pub span_given : (r : Root) (s : Span) → IsSound r → Contains r.spans s → s.allocated < slots_of s.class →
    IsGiven s.class r (take_from_span s r)
span_given r s sound among less =
    let front = with_free_front s (sound.spans s among).counted less in
    subst (λ xs. IsGiven s.class r (front_taken xs (with_free s) r)) (sym front.free)
    (front_given r s front.number front.rest sound among less front.counted front.free)
