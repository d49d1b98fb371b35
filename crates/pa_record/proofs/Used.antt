-- Each span of a root entered a state.
use Rattle.std.proofs.Common.{◌≡◌, ◌≢◌, ℕ, zero, suc, ◌+◌, ◌<◌, ◌≤◌, true, false, leb, ltb, List, [], ◌∷◌, length, refl, sym, ◌∙◌, ap, subst, arith, inl, inr, Option, Some, None}
use Rattle.std.specs.Prelude.{Contains, All, AllPairs, find, count_by}
use Rattle.std.proofs.lemmas.Bool.{cases_Bool, leb-true, both_ways, true≢false}
use Rattle.std.proofs.lemmas.List.Elements.{Contains-push_cases, Contains-push, All-head, All-tail}
use Rattle.std.proofs.lemmas.List.Sums.{sum_by-cons}
use Rattle.pa_slot.specs.declared.word.SlotName.{SlotName}
use Rattle.pa_buckets.specs.declared.spans.State.{State}
use Rattle.pa_buckets.specs.declared.spans.State.TheVariants as state
use Rattle.pa_buckets.specs.Table.{pages_of, slots_of}
use Rattle.pa_buckets.specs.Bands.{fill_of}
use Rattle.pa_record.specs.declared.taken.SuperPage.{SuperPage}
use Rattle.pa_record.specs.declared.pool.PoolEntry.{PoolEntry}
use Rattle.pa_record.specs.declared.root.RootEntry.{RootEntry}
use Rattle.pa_record.specs.declared.root.RootAct.{RootAct}
use Rattle.pa_record.specs.declared.root.RootAct.TheVariants.{Fill, Map, Full, Give, Unmap, Purge}
use Rattle.pa_record.specs.Pool.{act_at}
use Rattle.pa_record.specs.Spans.{Span, same_state, is_in, same_place, holds, number_in, with_front, without_front, without_pages, with_free, state_in_use, state_back, earliest, listed}
use Rattle.pa_record.specs.Root.{Root, Filled, new_root, current, in_state, entered, new_span, with_span, at_page, found_or_new, front_taken, taken_from, one_take, and_then, takes, opened, super_of, decommitted_span, oldest_decommitted, empties, settled, put_back, returned, all_returned, decommitted_times, names, root_next, root_replayed, RootActFits, RootReplays, RiseFrom, all_asked, asked_by, IsOut}
use Rattle.pa_record.specs.Sound.{IsSound, IsSettled, IsBornBelow, AsksFrom, least_after}
use Rattle.pa_record.specs.Laws.{IsUsed, SpansAreUsed}
use Rattle.pa_lists.proofs.Members.{not_in_none, first_in, later_in}
use Rattle.pa_lists.proofs.Pairs.{pairs_head, pairs_tail}
use Rattle.pa_record.proofs.Places.{put_cases, place_sym, place_self, elsewhere, elsewhere_sym}
use Rattle.pa_record.proofs.Entering.{IsLike, in_state_is, in_state_like, like_trans, like_place, one_if}
use Rattle.pa_record.proofs.SpanSteps.{with_free_front}
use Rattle.pa_record.proofs.Taking.{take_from_span, front_from, in_use_is_used}
use Rattle.pa_record.proofs.Filling.{listed_is, usable_less, some_slots, with_span_sound, and_then_some, take_cases, opened_sound}
use Rattle.pa_record.proofs.Returning.{oldest_is, put_back_out, returned_is, back_is_used, still_out}
use Rattle.pa_record.proofs.Mapping.{born_more}
use Rattle.pa_record.proofs.Stepping.{next_is}
use Rattle.pa_record.proofs.Titles.{new_sound, new_born, rise_parts}

-- all spans of the root but s, which may be in no state yet
abbrev IsUsedBut : Root → Span → Type 0
IsUsedBut r s = (u : Span) → Contains r.spans u → same_place u s ≡ false → is_in state.None u ≡ false

all_but : (r : Root) (s : Span) → IsUsed r → IsUsedBut r s
all_but r s h u among far = h u among

-- a span enters a state in place of s
entered_used : (r : Root) (s t : Span) (to : State) → IsSound r → IsLike t s → same_state to state.None ≡ false → IsUsedBut r s →
    IsUsed (entered to t r)
entered_used r s t to sound like used h u member =
    let w = in_state to r.turn t in
    let near : same_place w s ≡ true = like_place w s (like_trans w t s (in_state_like to r.turn t) like) in
    elim (put_cases w u r.spans sound.places member) [
      | inl e ↦ subst (λ a. same_state a state.None ≡ false) (sym (ap (λ (z : Span). z.state) e ∙ in_state_is to r.turn t)) used
      | inr old ↦ h u old.0 (elsewhere_sym s u (elsewhere s w u (place_sym w s near) (elsewhere_sym u w old.1)))
    ]

-- a take from a span
span_used : (r : Root) (s : Span) → IsSound r → Contains r.spans s → s.allocated < slots_of s.class → IsUsedBut r s →
    IsUsed (take_from_span s r).root
span_used r s sound among less h =
    let front = with_free_front s (sound.spans s among).counted less in
    let t = without_front front.rest (with_free s) in
    subst (λ xs. IsUsed (front_taken xs (with_free s) r).root) (sym front.free)
    (entered_used r s t (state_in_use t) sound (front_from s front.rest).like (in_use_is_used t).0 h)

new_used : (class : ℕ) (r : Root) (at : SuperPage) → IsSound r → class < 170 → current r ≡ Some at → r.page + pages_of class ≤ 127 →
    IsUsed r →
    IsUsed (take_from_span (new_span class at r.page) (with_span (new_span class at r.page) r)).root
new_used class r at sound real now room h =
    let s = new_span class at r.page in
    span_used (with_span s r) s (with_span_sound r class at sound real now room) (Contains-push r.spans s) (some_slots class real)
    (λ u member far. elim (Contains-push_cases r.spans s u member) [
      | inl old ↦ h u old
      | inr e ↦ absurd (both_ways _ far (subst (λ z. same_place z s ≡ true) e (place_self s)))
    ])

page_used : (class : ℕ) (r : Root) (o : Option SuperPage) → IsSound r → class < 170 → current r ≡ o → IsUsed r →
    IsUsed (taken_from (at_page class r o) r).root
page_used class r None sound real now h = h
page_used class r (Some at) sound real now h = elim (cases_Bool (leb (r.page + pages_of class) 127)) [
  | inl room ↦ rw room (new_used class r at sound real now (leb-true _ _ room) h)
  | inr full ↦ rw full h
]

take_by : (class : ℕ) (r : Root) (o : Option Span) → IsSound r → class < 170 → listed class r.spans ≡ o → IsUsed r →
    IsUsed (taken_from (found_or_new class r o) r).root
take_by class r None sound real e h = page_used class r (current r) sound real refl h
take_by class r (Some s) sound real e h =
    let u = listed_is class r.spans s e in
    span_used r s sound u.among (usable_less s (sound.spans s u.among) u.left) (all_but r s h)

takes_used : (class want : ℕ) (r : Root) → IsSound r → class < 170 → IsUsed r → IsUsed (takes class want r).root
takes_used class zero r sound real h = h
takes_used class (suc want) r sound real h =
    let t = one_take class r in
    let now : IsUsed t.root = take_by class r (listed class r.spans) sound real refl h in
    elim (take_cases class r sound real) [
      | inl none ↦
          let e : t ≡ record { root = r; title = None } = ap (λ o. taken_from o r) none in
          subst (λ (f : Filled). IsUsed f.root) (sym (ap (λ z. and_then z (takes class want)) e)) h
      | inr given ↦
          let g = given.1 in
          subst (λ (f : Filled). IsUsed f.root) (sym (and_then_some t (takes class want) g.title g.gives))
          (takes_used class want t.root g.sound real now)
    ]

-- a decommit, returns and a purge
decommit_used : (r : Root) (o : Option Span) → IsSound r → IsUsed r → IsUsed (decommitted_span o r)
decommit_used r None sound h = h
decommit_used r (Some s) sound h =
    entered_used r s (without_pages s) state.Decommitted sound (record { place = refl; born = refl; class = refl }) refl (all_but r s h)

oldest_used : (r : Root) → IsSound r → IsUsed r → IsUsed (oldest_decommitted r)
oldest_used r sound h = decommit_used r (earliest (is_in state.Empty) r.spans) sound h

times_used : (n : ℕ) (r : Root) → IsSound r → IsUsed r → IsUsed (decommitted_times n r)
times_used zero r sound h = h
times_used (suc n) r sound h = times_used n (oldest_decommitted r) (oldest_is r sound).kept.sound (oldest_used r sound h)

back_used : (r : Root) (name : SlotName) (o : Option Span) → IsSound r → IsUsed r → IsUsed (put_back name o r)
back_used r name None sound h = h
back_used r name (Some s) sound h =
    let t = with_front (number_in s name) s in
    entered_used r s t (state_back t) sound (record { place = refl; born = refl; class = refl }) (back_is_used t) (all_but r s h)

settled_used : (r : Root) → IsSound r → IsUsed r → IsUsed (settled r)
settled_used r sound h = elim (cases_Bool (ltb 16 (empties r))) [ inl over ↦ rw over (oldest_used r sound h) | inr under ↦ rw under h ]

returned_used : (r : Root) (name : SlotName) → IsSound r → IsOut r name → IsUsed r → IsUsed (returned name r)
returned_used r name sound out h =
    settled_used (put_back name (find (holds name) r.spans) r) (put_back_out r name sound out).kept.sound
    (back_used r name (find (holds name) r.spans) sound h)

all_used : (names : List SlotName) (r : Root) → IsSound r → All (IsOut r) names → AllPairs ◌≢◌ names → IsUsed r →
    IsUsed (all_returned names r)
all_used [] r sound outs once h = h
all_used (name ∷ names) r sound outs once h =
    let next = returned name r in
    let R : SlotName → SlotName → Type 0 = λ a b. a ≢ b in
    let a = returned_is r name sound (All-head (IsOut r) name names outs) in
    all_used names next a.kept.sound
    (still_out r next name names a (All-tail (IsOut r) name names outs) (λ other among. pairs_head R name other names once among))
    (pairs_tail R name names once)
    (returned_used r name sound (All-head (IsOut r) name names outs) h)

-- an entry, and a journal
next_used : (pools : List PoolEntry) (act : RootAct) (n : ℕ) (r : Root) → IsSound r → IsBornBelow n r → AsksFrom n (asked_by act) →
    RootActFits pools act r → IsUsed r →
    IsUsed (root_next pools act r)
next_used pools (Fill class None slots) n r sound old asks fits h = takes_used class (fill_of class) r sound fits.0 h
next_used pools (Fill class (Some j) slots) n r sound old asks fits h =
    let number = super_of (act_at pools j) in
    takes_used class (fill_of class) (opened number j r) (opened_sound number j r sound (born_more n j r asks old)) fits.0 h
next_used pools (Map asked slot len) n r sound old asks fits h = h
next_used pools (Full class asked) n r sound old asks fits h = h
next_used pools (Give slots) n r sound old asks fits h = all_used (names slots) r sound fits.0 fits.1 h
next_used pools (Unmap asked slot) n r sound old asks fits h = h
next_used pools Purge n r sound old asks fits h = times_used (empties r) r sound h

journal_used : (pools : List PoolEntry) (es : List RootEntry) (n : ℕ) (r : Root) → IsSound r → IsSettled r → IsBornBelow n r →
    RootReplays pools es r → RiseFrom n (all_asked es) →
    IsUsed r → IsUsed (root_replayed pools es r)
journal_used pools [] n r sound few old fits rise h = h
journal_used pools (e ∷ es) n r sound few old fits rise h =
    let (asks, rest) = rise_parts n (asked_by e.act) (all_asked es) rise in
    let next = next_is pools e.act n r sound few old asks fits.0 in
    journal_used pools es (least_after n (asked_by e.act)) (root_next pools e.act r) next.sound next.settled next.born fits.1 rest
    (next_used pools e.act n r sound old asks fits.0 h)

-- each span is counted once
one_state : (a : State) → same_state a state.None ≡ false →
    one_if (same_state a state.Full) + one_if (same_state a state.Active) + one_if (same_state a state.Empty) + one_if
    (same_state a state.Decommitted) ≡ 1
one_state state.None h = absurd (true≢false h)
one_state state.Active h = refl
one_state state.Empty h = refl
one_state state.Decommitted h = refl
one_state state.Full h = refl

states_counted : (ss : List Span) → ((s : Span) → Contains ss s → is_in state.None s ≡ false) →
    count_by (is_in state.Full) ss + count_by (is_in state.Active) ss + count_by (is_in state.Empty) ss + count_by
    (is_in state.Decommitted) ss ≡ length ss
states_counted [] h = refl
states_counted (s ∷ ss) h =
    let ih = states_counted ss (λ t among. h t (later_in s t ss among)) in
    let a = sum_by-cons (λ x. one_if (is_in state.Full x)) s ss in
    let b = sum_by-cons (λ x. one_if (is_in state.Active x)) s ss in
    let c = sum_by-cons (λ x. one_if (is_in state.Empty x)) s ss in
    let d = sum_by-cons (λ x. one_if (is_in state.Decommitted x)) s ss in
    let one = one_state s.state (h s (first_in s ss)) in
    omega arith

pub spans_are_used : SpansAreUsed
spans_are_used = record {
  takes_keep = takes_used;
  returns_keep = λ r xs sound outs once h. all_used xs r sound outs once h;
  purge_keeps = λ r sound h. times_used (empties r) r sound h;
  journal = λ pools journal h. journal_used pools journal 0 new_root new_sound (omega arith) new_born h.replays h.rise
      (λ s among. absurd (not_in_none s among));
  counted = λ r h. states_counted r.spans h;
}
