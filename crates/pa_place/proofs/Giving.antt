-- Returns and decommits, from the place of a span.
use Rattle.std.proofs.Common.{◌≡◌, ◌≢◌, ℕ, suc, ◌+◌, ◌≤◌, List, ◌∷◌, drop, map, set, refl, sym, ◌∙◌, ap, subst, Some}
use Rattle.std.specs.Prelude.{AllPairs, All, slice_get, find}
use Rattle.std.proofs.lemmas.Bool.{and_parts, leb-true}
use Rattle.std.proofs.lemmas.List.{drop_more}
use Rattle.std.proofs.lemmas.List.Elements.{All-head, All-tail}
use Rattle.std.proofs.lemmas.Option.{slice_get_within, get_or_from_slice_get}
use Rattle.pa_slot.specs.declared.title.Title.{Title}
use Rattle.pa_slot.specs.declared.word.SlotName.{SlotName}
use Rattle.pa_buckets.specs.declared.spans.State.{State}
use Rattle.pa_buckets.specs.declared.spans.State.TheVariants as state
use Rattle.pa_record.specs.Spans.{Span, name_of, holds, number_in, with_front, without_pages, state_back, is_in, earliest}
use Rattle.pa_record.specs.Root.{Root, in_state, turn_after, entered, decommitted_span, oldest_decommitted, decommitted_times, empties, put_back, returned, all_returned, IsOut}
use Rattle.pa_record.specs.Sound.{IsCounted, IsSound}
use Rattle.pa_lists.proofs.Members.{of_some, find_is}
use Rattle.pa_lists.proofs.Pairs.{pairs_head, pairs_tail}
use Rattle.pa_record.proofs.Entering.{IsLike}
use Rattle.pa_record.proofs.Lawful.{out_is_out}
use Rattle.pa_record.proofs.Returning.{oldest_is, returned_is, still_out}
use Rattle.pa_place.proofs.Placing.{entered_set}

-- a span that was changed and entered a state, in place of the one that stood there
pub changed_root : (r : Root) (i : ℕ) (s t u next : Span) (turn : ℕ) (to : State) → IsSound r → slice_get r.spans i ≡ Some s → IsLike t s →
    u ≡ t →
    next ≡ in_state to r.turn u → turn ≡ turn_after to r.turn u → record r { spans = set r.spans i next; turn = turn } ≡ entered to t r
changed_root r i s t u next turn to sound e like same is after =
    let with : Span → ℕ → Root = λ v n. record r { spans = set r.spans i v; turn = n } in
    ap (λ v. with v turn) (is ∙ ap (in_state to r.turn) same)
    ∙ ap (with (in_state to r.turn t)) (after ∙ ap (turn_after to r.turn) same)
    ∙ sym (entered_set r i s t to sound e like)

pub decommitted_root : (r : Root) (i : ℕ) (s u next : Span) (turn : ℕ) → IsSound r →
    slice_get r.spans i ≡ earliest (is_in state.Empty) r.spans → slice_get r.spans i ≡ Some s →
    u ≡ without_pages s → next ≡ in_state state.Decommitted r.turn u → turn ≡ turn_after state.Decommitted r.turn u →
    record r { spans = set r.spans i next; turn = turn } ≡ oldest_decommitted r
decommitted_root r i s u next turn sound found e same is after =
    changed_root r i s (without_pages s) u next turn state.Decommitted sound e
    (record { place = refl; born = refl; class = refl }) same is after
    ∙ ap (λ o. decommitted_span o r) (sym e ∙ found)

pub put_back_root : (r : Root) (i : ℕ) (s u next : Span) (turn : ℕ) (name : SlotName) → IsSound r →
    slice_get r.spans i ≡ find (holds name) r.spans → slice_get r.spans i ≡ Some s →
    u ≡ with_front (number_in s name) s → next ≡ in_state (state_back u) r.turn u → turn ≡ turn_after (state_back u) r.turn u →
    record r { spans = set r.spans i next; turn = turn } ≡ put_back name (find (holds name) r.spans) r
put_back_root r i s u next turn name sound found e same is after =
    let t = with_front (number_in s name) s in
    changed_root r i s t u next turn (state_back t) sound e (record { place = refl; born = refl; class = refl }) same
    (is ∙ ap (λ v. in_state (state_back v) r.turn u) same)
    (after ∙ ap (λ v. turn_after (state_back v) r.turn u) same)
    ∙ ap (λ o. put_back name o r) (sym e ∙ found)

-- the span of a slot that is out takes it back
pub record TakesBack (s : Span) (name : SlotName) : Type 0 where
  pub counted : IsCounted s
  pub some : 1 ≤ s.allocated
  pub inside : s.place ≤ name.start

pub takes_back : (r : Root) (s : Span) (name : SlotName) → IsSound r → IsOut r name → find (holds name) r.spans ≡ Some s → TakesBack s name
takes_back r s name sound out e =
    let (v, n, can) = out_is_out.returnable r name sound out in
    let same : v ≡ s = of_some v s (sym can.found ∙ e) in
    let (among, hit) = find_is (holds name) r.spans s e in
    record {
      counted = (sound.spans s among).counted;
      some = subst (λ (z : Span). 1 ≤ z.allocated) same can.some;
      inside = leb-true _ _ (and_parts _ _ (and_parts _ _ hit).1).0;
    }

-- one slot of a batch is returned
names_from : (ts : List Title) (i : ℕ) (t : Title) → slice_get ts i ≡ Some t →
    map name_of (drop i ts) ≡ name_of t ∷ map name_of (drop (i + 1) ts)
names_from ts i t e =
    ap (map name_of) (drop_more ts i t (slice_get_within ts i t e) ∙ ap (λ x. x ∷ drop (i + 1) ts) (get_or_from_slice_get ts i t t e))

pub record IsLeftToGive (r : Root) (ts : List Title) : Type 0 where
  pub sound : IsSound r
  pub out : All (IsOut r) (map name_of ts)
  pub once : AllPairs ◌≢◌ (map name_of ts)

pub next_out : (r : Root) (ts : List Title) (i : ℕ) (t : Title) → slice_get ts i ≡ Some t → All (IsOut r) (map name_of (drop i ts)) →
    IsOut r (name_of t)
next_out r ts i t e out =
    All-head (IsOut r) (name_of t) (map name_of (drop (i + 1) ts)) (subst (λ xs. All (IsOut r) xs) (names_from ts i t e) out)

pub record IsAfterGive (r next : Root) (ts : List Title) (i : ℕ) : Type 0 where
  pub left : all_returned (map name_of (drop i ts)) r ≡ all_returned (map name_of (drop (i + 1) ts)) next
  pub rest : IsLeftToGive next (drop (i + 1) ts)
  pub settled : empties r ≤ 16 → empties next ≤ 16
  pub turn : next.turn ≤ r.turn + 2

pub give_one : (r next : Root) (ts : List Title) (i : ℕ) (t : Title) → slice_get ts i ≡ Some t → IsLeftToGive r (drop i ts) →
    next ≡ returned (name_of t) r → IsAfterGive r next ts i
give_one r next ts i t e h is =
    let names = map name_of (drop (i + 1) ts) in
    let f = names_from ts i t e in
    let out = subst (λ xs. All (IsOut r) xs) f h.out in
    let once = subst (λ xs. AllPairs ◌≢◌ xs) f h.once in
    let R : SlotName → SlotName → Type 0 = λ a b. a ≢ b in
    let a = returned_is r (name_of t) h.sound (All-head (IsOut r) (name_of t) names out) in
    subst (λ z. IsAfterGive r z ts i) (sym is)
    (record {
      left = ap (λ xs. all_returned xs r) f;
      rest = record {
        sound = a.kept.sound;
        out = still_out r (returned (name_of t) r) (name_of t) names a (All-tail (IsOut r) (name_of t) names out)
            (λ other among. pairs_head R (name_of t) other names once among);
        once = pairs_tail R (name_of t) names once;
      };
      settled = a.settled;
      turn = a.turn;
    })

-- one empty span of a purge is decommitted
pub record IsAfterDecommit (k : ℕ) (r next : Root) : Type 0 where
  pub left : decommitted_times (suc k) r ≡ decommitted_times k next
  pub sound : IsSound next
  pub turn : next.turn ≤ r.turn + 1

pub decommit_one : (k : ℕ) (r next : Root) → IsSound r → next ≡ oldest_decommitted r → IsAfterDecommit k r next
decommit_one k r next sound is =
    let a = oldest_is r sound in
    subst (λ z. IsAfterDecommit k r z) (sym is) (record { left = refl; sound = a.kept.sound; turn = a.turn })
