-- Decommits and returns make no slot.
use Rattle.std.proofs.Common.{◌≡◌, ℕ, zero, suc, ◌<◌, List, [], ◌∷◌, Option, Some, None, refl, ◌∙◌, ap, subst, arith, inl, inr, ltb}
use Rattle.std.specs.Prelude.{◌≢◌, All, AllPairs, Contains, find}
use Rattle.std.proofs.lemmas.Bool.{cases_Bool}
use Rattle.std.proofs.lemmas.List.Elements.{All-head, All-tail}
use Rattle.pa_slot.specs.declared.title.Title.{Title}
use Rattle.pa_slot.specs.declared.word.SlotName.{SlotName}
use Rattle.pa_buckets.specs.declared.spans.State.{State}
use Rattle.pa_buckets.specs.declared.spans.State.TheVariants as state
use Rattle.pa_record.specs.Spans.{Span, title_at, holds, number_in, with_front, without_pages, state_back, is_in, earliest}
use Rattle.pa_record.specs.Root.{Root, in_state, entered, empties, decommitted_span, oldest_decommitted, settled, put_back, returned, all_returned, decommitted_times, IsOut}
use Rattle.pa_record.specs.Sound.{IsSound, IsMade}
use Rattle.pa_lists.proofs.Members.{find_is}
use Rattle.pa_lists.proofs.Pairs.{pairs_head, pairs_tail}
use Rattle.pa_record.proofs.Choice.{earliest_is}
use Rattle.pa_record.proofs.Entering.{IsLike, in_state_like, like_trans}
use Rattle.pa_record.proofs.Places.{put_cases}
use Rattle.pa_record.proofs.Returning.{oldest_is, put_back_out, returned_is, still_out}
use Rattle.pa_record.proofs.Taking.{title_like, same_made}

entered_makes_none : (r : Root) (s t : Span) (to : State) (title : Title) → IsSound r → Contains r.spans s → IsLike t s → t.made ≡ s.made →
    IsMade (entered to t r) title → IsMade r title
entered_makes_none r s t to title sound among like made (u, member, n, below, e) =
    let v = in_state to r.turn t in
    elim (put_cases v u r.spans sound.places member) [
      | inl same ↦
          let many = same_made to r.turn t in
          let here : n < v.made = subst (λ z. n < z.made) same below in
          (s, among, n, omega arith, e ∙ ap (λ z. title_at z n) same ∙ title_like v s n (like_trans v t s (in_state_like to r.turn t) like))
      | inr old ↦ (u, old.0, n, below, e)
    ]

decommitted_makes_none : (r : Root) (o : Option Span) (title : Title) → IsSound r → earliest (is_in state.Empty) r.spans ≡ o →
    IsMade (decommitted_span o r) title → IsMade r title
decommitted_makes_none r None title sound e made = made
decommitted_makes_none r (Some s) title sound e made =
    let like : IsLike (without_pages s) s = record { place = refl; born = refl; class = refl } in
    entered_makes_none r s (without_pages s) state.Decommitted title sound
    (earliest_is (is_in state.Empty) r.spans s e).among like refl made

oldest_makes_none : (r : Root) (title : Title) → IsSound r → IsMade (oldest_decommitted r) title → IsMade r title
oldest_makes_none r title sound made = decommitted_makes_none r (earliest (is_in state.Empty) r.spans) title sound refl made

pub times_make_none : (n : ℕ) (r : Root) (title : Title) → IsSound r → IsMade (decommitted_times n r) title → IsMade r title
times_make_none zero r title sound made = made
times_make_none (suc n) r title sound made =
    oldest_makes_none r title sound (times_make_none n (oldest_decommitted r) title (oldest_is r sound).kept.sound made)

-- ---- returns

back_makes_none : (name : SlotName) (o : Option Span) (r : Root) (title : Title) → IsSound r → find (holds name) r.spans ≡ o →
    IsMade (put_back name o r) title → IsMade r title
back_makes_none name None r title sound e made = made
back_makes_none name (Some s) r title sound e made =
    let t = with_front (number_in s name) s in
    let like : IsLike t s = record { place = refl; born = refl; class = refl } in
    entered_makes_none r s t (state_back t) title sound (find_is (holds name) r.spans s e).0 like refl made

settled_makes_none : (r : Root) (title : Title) → IsSound r → IsMade (settled r) title → IsMade r title
settled_makes_none r title sound made = elim (cases_Bool (ltb 16 (empties r))) [
  | inl over ↦ oldest_makes_none r title sound (rw over at made)
  | inr under ↦ rw under at made
]

returned_makes_none : (name : SlotName) (r : Root) (title : Title) → IsSound r → IsOut r name → IsMade (returned name r) title →
    IsMade r title
returned_makes_none name r title sound out made =
    let o = find (holds name) r.spans in
    back_makes_none name o r title sound refl (settled_makes_none (put_back name o r) title (put_back_out r name sound out).kept.sound made)

pub all_returned_make_none : (names : List SlotName) (r : Root) (title : Title) → IsSound r → All (IsOut r) names → AllPairs ◌≢◌ names →
    IsMade (all_returned names r) title → IsMade r title
all_returned_make_none [] r title sound outs once made = made
all_returned_make_none (name ∷ names) r title sound outs once made =
    let R : SlotName → SlotName → Type 0 = λ a b. a ≢ b in
    let next = returned name r in
    let out = All-head (IsOut r) name names outs in
    let a = returned_is r name sound out in
    let rest : All (IsOut next) names =
    still_out r next name names a (All-tail (IsOut r) name names outs) (λ other among. pairs_head R name other names once among) in
    returned_makes_none name r title sound out
    (all_returned_make_none names next title a.kept.sound rest (pairs_tail R name names once) made)
