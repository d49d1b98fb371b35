-- Returns, the ring of empty spans, and a purge.
use Rattle.std.proofs.Common.{◌≡◌, ◌≢◌, ℕ, zero, suc, ◌+◌, ◌-◌, ◌*◌, ◌/◌, ◌<◌, ◌≤◌, Bool, true, false, ◌&&◌, cond, eqb, leb, ltb, List, [], ◌∷◌, get_or, refl, sym, ◌∙◌, ap, subst, arith, inl, inr, Option, Some, None}
use Rattle.std.specs.Prelude.{Contains, All, AllPairs, find, count_by}
use Rattle.std.proofs.lemmas.Bool.{cases_Bool, and_parts, and_from, eqb-true, eq-eqb, leb-true, le-leb, ltb-true, ltb-false, lt-ltb}
use Rattle.std.proofs.lemmas.List.Elements.{All-head, All-tail, Contains-get_or}
use Rattle.std.proofs.lemmas.List.Sums.{sum_by-cons}
use Rattle.std.proofs.lemmas.Nat.{div-mul-add}
use Rattle.pa_slot.specs.declared.word.SlotName.{SlotName}
use Rattle.pa_buckets.specs.declared.spans.State.{State}
use Rattle.pa_buckets.specs.declared.spans.State.TheVariants as state
use Rattle.pa_buckets.specs.Table.{slot_of, slots_of}
use Rattle.pa_record.specs.Spans.{Span, bytes_of, title_at, name_of, holds, number_in, with_front, without_pages, state_back, same_state, is_in, same_place, earliest}
use Rattle.pa_record.specs.Root.{Root, in_state, entered, decommitted_span, oldest_decommitted, empties, settled, put_back, returned, all_returned, decommitted_times, IsOut, IsOutOf}
use Rattle.pa_record.specs.Sound.{StateSays, IsCounted, IsSound}
use Rattle.pa_record.specs.Steps.{TakesNothing, IsDecommittedTimes, IsReturned}
use Rattle.pa_lists.proofs.Members.{not_in_none, first_in, later_in, in_cases, find_is, find_some}
use Rattle.pa_lists.proofs.Pairs.{pairs_head, pairs_tail}
use Rattle.pa_record.proofs.Places.{one_span, put_cases}
use Rattle.pa_record.proofs.Choice.{earliest_is, earliest_none}
use Rattle.pa_record.proofs.SpanSteps.{some_out, with_front_counted, without_pages_counted, says_back}
use Rattle.pa_record.proofs.Entering.{IsLike, IsFrom, same_state-true, in_state_like, like_trans, entered_sound, entered_empties, entered_there, turn_after_most, one_if}
use Rattle.pa_record.proofs.Slots.{slot_within, one_slot}
use Rattle.pa_record.proofs.Out.{KeepsOut, name_like, entered_out, same_list}
use Rattle.pa_record.proofs.Taking.{entered_made, turn_not_less}

pub kept_trans : (r after last : Root) → TakesNothing r after → TakesNothing after last → TakesNothing r last
kept_trans r after last a b = record {
  sound = b.sound;
  rises = let p = a.rises in let q = b.rises in omega arith;
  supers = b.supers ∙ a.supers;
  maps = b.maps ∙ a.maps;
  keeps = λ t made. b.keeps t (a.keeps t made);
  only = λ name out. a.only name (b.only name out);
}

pub kept_same : (r : Root) → IsSound r → TakesNothing r r
kept_same r sound = record {
  sound = sound;
  rises = omega arith;
  supers = refl;
  maps = refl;
  keeps = λ t made. made;
  only = λ name out. out;
}

-- if what is out of t was out of s, nothing else comes out when t enters a state in place of s
entered_only : (r : Root) (s t : Span) (to : State) (name : SlotName) → IsSound r → Contains r.spans s → IsLike t s →
    ((n : ℕ) → n < t.provisioned → (Contains t.free n → ⊥) → (n < s.provisioned) × (Contains s.free n → ⊥)) →
    IsOut (entered to t r) name → IsOut r name
entered_only r s t to name sound among like back (u, member, n, out) =
    let v = in_state to r.turn t in
    let like_v = like_trans v t s (in_state_like to r.turn t) like in
    elim (put_cases v u r.spans sound.places member) [
      | inl e ↦
          let here : IsOutOf v name n = subst (λ z. IsOutOf z name n) e out in
          let (list, many) = same_list to r.turn t in
          let (below, away) = back n (let p = here.provisioned in omega arith) (λ m. here.out (subst (λ xs. Contains xs n) (sym list) m)) in
          (s, among, n, record { provisioned = below; named = here.named ∙ name_like v s n like_v; out = away })
      | inr old ↦ (u, old.0, n, out)
    ]

-- the oldest empty span is decommitted
pub record IsDecommitted (r after : Root) : Type 0 where
  pub kept : TakesNothing r after
  pub turn : after.turn ≤ r.turn + 1
  pub fewer : empties after ≡ empties r - 1
  pub stays : (name : SlotName) → IsOut r name → IsOut after name

count_none : (test : Span → Bool) (ss : List Span) → ((t : Span) → Contains ss t → test t ≡ false) → count_by test ss ≡ 0
count_none test [] h = refl
count_none test (s ∷ ss) h =
    let ih = count_none test ss (λ t among. h t (later_in s t ss among)) in
    let e = sum_by-cons (λ x. cond (test x) 1 0) s ss in
    let k = ap one_if (h s (first_in s ss)) in
    omega arith

no_page_keeps : (name : SlotName) (s : Span) → IsCounted s → s.allocated ≡ 0 → KeepsOut name s (without_pages s)
no_page_keeps name s counted none n out = let some = some_out s n counted out.provisioned out.out in absurd (omega arith)

decommitted_by : (r : Root) (o : Option Span) → IsSound r → earliest (is_in state.Empty) r.spans ≡ o →
    IsDecommitted r (decommitted_span o r)
decommitted_by r None sound e = record {
  kept = kept_same r sound;
  turn = omega arith;
  fewer = let p = count_none (is_in state.Empty) r.spans (earliest_none (is_in state.Empty) r.spans e) in omega arith;
  stays = λ name out. out;
}
decommitted_by r (Some s) sound e =
    let first = earliest_is (is_in state.Empty) r.spans s e in
    let among = first.among in
    let good = sound.spans s among in
    let none : s.allocated ≡ 0 = subst (λ a. StateSays a s) (same_state-true s.state state.Empty first.passes) good.says in
    let t = without_pages s in
    let from : IsFrom t s = record { like = record { place = refl; born = refl; class = refl }; state = refl; turn = refl } in
    let counted = without_pages_counted s good.counted none in
    record {
      kept = record {
        sound = entered_sound r s t state.Decommitted sound among from counted (none, refl, refl) refl;
        rises = turn_not_less state.Decommitted r.turn t;
        supers = refl;
        maps = refl;
        keeps = λ title made. entered_made r s t state.Decommitted title sound among from.like (omega arith) made;
        only = λ name out. entered_only r s t state.Decommitted name sound among from.like (λ n below away. absurd (omega arith)) out;
      };
      turn = turn_after_most state.Decommitted r.turn t;
      fewer = let p = entered_empties r s t state.Decommitted sound among from.like in let q = ap one_if first.passes in omega arith;
      stays = λ name out. entered_out r s t state.Decommitted name sound among from.like (no_page_keeps name s good.counted none) out;
    }

pub oldest_is : (r : Root) → IsSound r → IsDecommitted r (oldest_decommitted r)
oldest_is r sound = decommitted_by r (earliest (is_in state.Empty) r.spans) sound refl

pub times_is : (n : ℕ) (r : Root) → IsSound r → IsDecommittedTimes n r (decommitted_times n r)
times_is zero r sound = record { kept = kept_same r sound; turn = omega arith; fewer = omega arith; stays = λ name out. out }
times_is (suc n) r sound =
    let a = oldest_is r sound in
    let b = times_is n (oldest_decommitted r) a.kept.sound in
    record {
      kept = kept_trans r (oldest_decommitted r) (decommitted_times n (oldest_decommitted r)) a.kept b.kept;
      turn = let p = a.turn in let q = b.turn in omega arith;
      fewer = let p = a.fewer in let q = b.fewer in omega arith;
      stays = λ name out. b.stays name (a.stays name out);
    }

-- the span of a slot that is out is found, with the slot's number
holds_slot : (s : Span) (name : SlotName) (n : ℕ) → IsCounted s → IsOutOf s name n → holds name s ≡ true
holds_slot s name n counted out =
    let low : n < slots_of s.class = let p = out.provisioned in let q = counted.made in let k = counted.most in omega arith in
    let w = slot_within s n counted low in
    let start : name.start ≡ (title_at s n).start = ap (λ (x : SlotName). x.start) out.named in
    let born : name.born ≡ s.born = ap (λ (x : SlotName). x.born) out.named in
    let a = w.from in let b = w.to in let c = w.some in
    let from : s.place ≤ name.start = omega arith in
    let to : name.start < s.place + bytes_of s = omega arith in
    and_from _ _ (eq-eqb _ _ (sym born)) (and_from _ _ (le-leb _ _ from) (lt-ltb _ _ to))

holds_tells : (name : SlotName) (s : Span) → holds name s ≡ true → (s.born ≡ name.born) × (s.place ≤ name.start) ×
    (name.start < s.place + bytes_of s)
holds_tells name s h =
    let (born, rest) = and_parts (eqb s.born name.born) (leb s.place name.start && ltb name.start (s.place + bytes_of s)) h in
    let (from, to) = and_parts (leb s.place name.start) (ltb name.start (s.place + bytes_of s)) rest in
    (eqb-true _ _ born, leb-true _ _ from, ltb-true _ _ to)

holder_is : (r : Root) (s u : Span) (name : SlotName) (n : ℕ) → IsSound r → Contains r.spans s → IsOutOf s name n → Contains r.spans u →
    holds name u ≡ true → u ≡ s
holder_is r s u name n sound among out member h =
    let (held, low, high) = holds_tells name u h in
    let counted = (sound.spans s among).counted in
    let less : n < slots_of s.class = let p = out.provisioned in let q = counted.made in let k = counted.most in omega arith in
    let w = slot_within s n counted less in
    let a = w.from in let b = w.to in let c = w.some in
    let start : name.start ≡ (title_at s n).start = ap (λ (x : SlotName). x.start) out.named in
    let near : s.born ≡ u.born = sym (ap (λ (x : SlotName). x.born) out.named) ∙ sym held in
    elim (cases_Bool (same_place s u)) [
      | inl same ↦ sym (one_span s u r.spans sound.places among member same)
      | inr far ↦ elim (sound.apart s u among member far near) [ inl before ↦ absurd (omega arith) | inr after ↦ absurd (omega arith) ]
    ]

pub number_is : (s : Span) (name : SlotName) (n : ℕ) → IsCounted s → IsOutOf s name n → number_in s name ≡ n
number_is s name n counted out =
    let low : n < slots_of s.class = let p = out.provisioned in let q = counted.made in let k = counted.most in omega arith in
    let some = (slot_within s n counted low).some in
    let start : name.start ≡ (title_at s n).start = ap (λ (x : SlotName). x.start) out.named in
    let e : name.start - s.place ≡ n * slot_of s.class + 0 = omega arith in
    ap (λ k. k / slot_of s.class) e ∙ div-mul-add n (slot_of s.class) 0 some

pub find_out : (r : Root) (s : Span) (name : SlotName) (n : ℕ) → IsSound r → Contains r.spans s → IsOutOf s name n →
    find (holds name) r.spans ≡ Some s
find_out r s name n sound among out =
    let (u, e) = find_some (holds name) r.spans s among (holds_slot s name n (sound.spans s among).counted out) in
    let (member, h) = find_is (holds name) r.spans u e in
    e ∙ ap Some (holder_is r s u name n sound among out member h)

-- a slot that is out is returned
pub record IsPutBack (name : SlotName) (r after : Root) : Type 0 where
  pub kept : TakesNothing r after
  pub turn : after.turn ≤ r.turn + 1
  pub more : empties after ≤ empties r + 1
  pub stays : (other : SlotName) → (other ≡ name → ⊥) → IsOut r other → IsOut after other
  pub back : IsOut after name → ⊥

pub back_is_used : (s : Span) → same_state (state_back s) state.None ≡ false
back_is_used s = elim (cases_Bool (eqb s.allocated 0)) [ inl none ↦ rw none refl | inr some ↦ rw some refl ]

at_most_one : (b : Bool) → one_if b ≤ 1
at_most_one true = omega arith
at_most_one false = omega arith

front_only : (s : Span) (number n : ℕ) → n < (with_front number s).provisioned → (Contains (with_front number s).free n → ⊥) →
    (n < s.provisioned) × (Contains s.free n → ⊥)
front_only s number n below away = (below, λ among. away (later_in number n s.free among))

front_keeps : (s : Span) (name other : SlotName) (number : ℕ) → IsOutOf s name number → (other ≡ name → ⊥) →
    KeepsOut other s (with_front number s)
front_keeps s name other number out differ n other_out = (
  other_out.provisioned,
  λ among. elim (in_cases number n s.free among) [
    | inl e ↦ differ (other_out.named ∙ sym (subst (λ i. name ≡ name_of (title_at s i)) e out.named))
    | inr old ↦ other_out.out old
  ],
)

put_back_is : (r : Root) (s : Span) (name : SlotName) (n : ℕ) → IsSound r → Contains r.spans s → IsOutOf s name n →
    IsPutBack name r (entered (state_back (with_front n s)) (with_front n s) r)
put_back_is r s name n sound among out =
    let good = sound.spans s among in
    let some = some_out s n good.counted out.provisioned out.out in
    let t = with_front n s in
    let to = state_back t in
    let from : IsFrom t s = record { like = record { place = refl; born = refl; class = refl }; state = refl; turn = refl } in
    let counted = with_front_counted s n good.counted out.provisioned out.out in
    let less : t.allocated < slots_of t.class = let p = good.counted.listed in let q = good.counted.made in let k = good.counted.most in
    omega arith in
    let after = entered to t r in
    let is_sound = entered_sound r s t to sound among from counted (says_back t less) (back_is_used t) in
    record {
      kept = record {
        sound = is_sound;
        rises = turn_not_less to r.turn t;
        supers = refl;
        maps = refl;
        keeps = λ title made. entered_made r s t to title sound among from.like (omega arith) made;
        only = λ other member. entered_only r s t to other sound among from.like (λ k below away. front_only s n k below away) member;
      };
      turn = turn_after_most to r.turn t;
      more = let p = entered_empties r s t to sound among from.like in let q = at_most_one (same_state to state.Empty) in omega arith;
      stays = λ other differ member. entered_out r s t to other sound among from.like (front_keeps s name other n out differ) member;
      back = λ (u, member, m, still).
          let v = in_state to r.turn t in
          let like = like_trans v t s (in_state_like to r.turn t) from.like in
          let place = entered_there r s t to among from.like in
          let (list, many) = same_list to r.turn t in
          let counted_v = (is_sound.spans v place).counted in
          let counted_u = (is_sound.spans u member).counted in
          let same : name_of (title_at v n) ≡ name_of (title_at u m) = name_like v s n like ∙ sym out.named ∙ still.named in
          let low : n < slots_of v.class = let p = out.provisioned in let q = counted_v.made in let k = counted_v.most in omega arith in
          let low' : m < slots_of u.class = let p = still.provisioned in let q = counted_u.made in let k = counted_u.most in omega arith in
          let one = one_slot after v u n m is_sound place member low low' (ap (λ (x : SlotName). x.born) same)
          (ap (λ (x : SlotName). x.start) same) in
          still.out (subst (λ (z : Span). Contains z.free m) one.span (subst (λ xs. Contains xs m) (sym list)
          (subst (λ i. Contains (n ∷ s.free) i) one.number (first_in n s.free))));
    }

pub put_back_out : (r : Root) (name : SlotName) → IsSound r → IsOut r name → IsPutBack name r (put_back name (find (holds name) r.spans) r)
put_back_out r name sound (s, among, n, out) =
    let e = find_out r s name n sound among out in
    let k = number_is s name n (sound.spans s among).counted out in
    subst (λ o. IsPutBack name r (put_back name o r)) (sym e)
    (subst (λ i. IsPutBack name r (entered (state_back (with_front i s)) (with_front i s) r)) (sym k)
    (put_back_is r s name n sound among out))

settled_is : (name : SlotName) (r after : Root) → IsPutBack name r after → IsReturned (name ∷ []) r (settled after)
settled_is name r after h = elim (cases_Bool (ltb 16 (empties after))) [
  | inl over ↦
      let d = oldest_is after h.kept.sound in
      rw over (record {
        kept = kept_trans r after (oldest_decommitted after) h.kept d.kept;
        turn = let p = h.turn in let q = d.turn in omega arith;
        settled = λ few. let p = h.more in let q = d.fewer in omega arith;
        stays = λ other away out. d.stays other
            (h.stays other (λ e. away (subst (λ z. Contains (name ∷ []) z) (sym e) (first_in name []))) out);
        back = λ other among out. elim (in_cases name other [] among) [
          | inl e ↦ h.back (subst (λ z. IsOut after z) (sym e) (d.kept.only other out))
          | inr none ↦ not_in_none other none
        ];
      })
  | inr under ↦
      rw under (record {
        kept = h.kept;
        turn = let p = h.turn in omega arith;
        settled = λ few. let p = ltb-false _ _ under in omega arith;
        stays = λ other away out. h.stays other (λ e. away (subst (λ z. Contains (name ∷ []) z) (sym e) (first_in name []))) out;
        back = λ other among out. elim (in_cases name other [] among) [
          | inl e ↦ h.back (subst (λ z. IsOut after z) (sym e) out)
          | inr none ↦ not_in_none other none
        ];
      })
]

pub returned_is : (r : Root) (name : SlotName) → IsSound r → IsOut r name → IsReturned (name ∷ []) r (returned name r)
returned_is r name sound out = settled_is name r _ (put_back_out r name sound out)

-- other slots are still out
pub still_out : (r next : Root) (name : SlotName) (names : List SlotName) → IsReturned (name ∷ []) r next → All (IsOut r) names
    → ((other : SlotName) → Contains names other → name ≢ other) → All (IsOut next) names
still_out r next name names a outs differ k d below =
    let other = get_or names k d in
    a.stays other
    (λ among. elim (in_cases name other [] among) [
      | inl e ↦ differ other (Contains-get_or names k d below) e
      | inr none ↦ not_in_none other none
    ])
    (outs k d below)

pub all_returned_is : (names : List SlotName) (r : Root) → IsSound r → All (IsOut r) names → AllPairs ◌≢◌ names →
    IsReturned names r (all_returned names r)
all_returned_is [] r sound outs once = record {
  kept = kept_same r sound;
  turn = omega arith;
  settled = λ few. few;
  stays = λ other away out. out;
  back = λ name among out. not_in_none name among;
}
all_returned_is (name ∷ names) r sound outs once =
    let R : SlotName → SlotName → Type 0 = λ a b. a ≢ b in
    let next = returned name r in
    let a = returned_is r name sound (All-head (IsOut r) name names outs) in
    let rest : All (IsOut next) names =
    still_out r next name names a (All-tail (IsOut r) name names outs) (λ other among. pairs_head R name other names once among) in
    let b = all_returned_is names next a.kept.sound rest (pairs_tail R name names once) in
    let last = all_returned names next in
    record {
      kept = kept_trans r next last a.kept b.kept;
      turn = let p = a.turn in let q = b.turn in omega arith;
      settled = λ few. b.settled (a.settled few);
      stays = λ other away out. b.stays other (λ among. away (later_in name other names among))
          (a.stays other (λ among. elim (in_cases name other [] among) [
            | inl e ↦ away (subst (λ z. Contains (name ∷ names) z) e (first_in name names))
            | inr none ↦ not_in_none other none
          ]) out);
      back = λ other among out. elim (in_cases name other names among) [
        | inl e ↦ a.back other (subst (λ z. Contains (name ∷ []) z) e (first_in name [])) (b.kept.only other out)
        | inr old ↦ b.back other old out
      ];
    }
