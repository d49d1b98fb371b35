-- The front of a span's list is taken: what is shown then.
use Rattle.std.proofs.Common.{◌≡◌, ℕ, ◌^◌, ◌<◌, ◌≤◌, inl, inr, Bool, true, false, if◌then◌else◌, List, map, length, [], ◌∷◌, refl, sym, ◌∙◌, ap, subst, arith}
use Rattle.std.specs.Prelude.{◌≢◌, Contains}
use Rattle.std.proofs.lemmas.Bool.{cases_Bool}
use Rattle.std.proofs.lemmas.Bool.Decides.{eqb_tells}
use Rattle.std.proofs.lemmas.List.Elements.{All-tail}
use Rattle.pa_lists.proofs.Elements.{length_map}
use Rattle.pa_lists.proofs.Pairs.{pairs_tail}
use Rattle.pa_slot.specs.declared.title.Title.{Title}
use Rattle.pa_slot.specs.Links.{front_of}
use Rattle.pa_buckets.specs.declared.spans.State.{State}
use Rattle.pa_buckets.specs.declared.spans.State.TheVariants as state
use Rattle.pa_buckets.specs.Table.{slot_of, slots_of}
use Rattle.pa_buckets.proofs.Facts.{IsRow-of}
use Rattle.pa_record.specs.Spans.{Span, same_state, title_at, with_list, with_free, without_front, state_in_use}
use Rattle.pa_record.specs.Root.{Root, in_state, entered, front_taken}
use Rattle.pa_record.proofs.SpanSteps.{HasFront, size_some, list_cases, with_free_front}
use Rattle.pa_region.specs.declared.view.View.{View}
use Rattle.pa_region.specs.Views.{free_of}
use Rattle.pa_region.specs.Aware.{IsAware}
use Rattle.pa_spans.specs.declared.span.Span.{Span as SpanRecord}
use Rattle.pa_spans.specs.Lists.{SpanListParts, StaysListed, lists_without, lists_with, lists_entered}
use Rattle.pa_spans.proofs.Staying.{same_listed}
use Rattle.pa_spans.proofs.Rings.{ring_shrinks}
use Rattle.pa_records.specs.Words.{spans_in}
use Rattle.pa_records.specs.Records.{front_start, record_with, titles_free}
use Rattle.pa_records.specs.Stored.{alone}
use Rattle.pa_meta.specs.Meta.{HasRawRecord}
use Rattle.pa_meta.specs.Stores.{IsPayloadOf, Rerecorded}
use Rattle.pa_link.specs.declared.chain.ChainParts.{ChainParts}
use Rattle.pa_link.specs.Chains.{slot_names, IsChain}
use Rattle.pa_shelf.specs.Moving.{IsRecordFor, parts_of_record}
use Rattle.pa_shelf.specs.Shelves.{ShelfParts, chain_of, RecordsRoot, ShowsRoot}
use Rattle.pa_shelf.specs.Taking.{name_start, without_front_of, state_out, IsTakeOf, IsReadyAt, take_of}
use Rattle.pa_shelf.proofs.Chained.{chain_stays, entered_chain, chains_changed}
use Rattle.pa_shelf.proofs.Returning.{record_is, list_parts}

-- provisioning leaves its place, its class and its `born`
record IsSameSpan (t s : Span) : Type 0 where
  pub place : t.place ≡ s.place
  pub born : t.born ≡ s.born
  pub class : t.class ≡ s.class

free_like : (s : Span) → IsSameSpan (with_free s) s
free_like s = by_list s.free s
  where
    by_list : (xs : List ℕ) (s : Span) → IsSameSpan (with_list xs s) s
    by_list [] s = record { place = refl; born = refl; class = refl }
    by_list (x ∷ xs) s = record { place = refl; born = refl; class = refl }

-- the list of a span that is ready has a front
pub front : (v : View) (l : ShelfParts) (x : SpanRecord) (t : Title) (r : Root) (s : Span) → IsReadyAt v l x t r s → HasFront (with_free s)
front v l x t r s b = with_free_front s (b.sound.spans s b.among).counted b.less

-- if a list isn't empty, nothing has to be provisioned
pub ready_listed : (v : View) (l : ShelfParts) (x : SpanRecord) (t : Title) (r : Root) (s : Span) → IsTakeOf v l x t r s →
    x.allocated < x.provisioned →
    IsReadyAt v l x t r s
ready_listed v l x t r s b some =
    let k = b.slot.at.shown.kept in
    let e = record_is v l r s t.start x k b.slot.at.among b.slot.at.here b.slot.read in
    let a : x.allocated ≡ s.allocated = ap (λ (y : SpanRecord). y.allocated) e in
    let p : x.provisioned ≡ s.provisioned = ap (λ (y : SpanRecord). y.provisioned) e in
    let c = (b.slot.at.sound.spans s b.slot.at.among).counted in
    let same : s ≡ with_free s = elim (list_cases s.free) [
      | inl none ↦ let listed = c.listed in let zero = ap length none in absurd (omega arith)
      | inr other ↦ sym (ap (λ xs. with_list xs s) other.2)
    ] in
    record {
      sound = b.slot.at.sound;
      shown = b.slot.at.shown;
      among = b.slot.at.among;
      less = b.slot.at.less;
      first = b.slot.first;
      listed = same_listed (spans_in v.words t.start) x b.slot.read;
      is = e ∙ ap (λ (z : Span). record_with z 0 0) same;
      chain = subst (λ (z : Span). IsChain v (chain_of z) (titles_free z)) same (b.slot.at.shown.chains s b.slot.at.among);
    }

-- the chain that the record has is that of the list
pub ready_parts : (v : View) (l : ShelfParts) (x : SpanRecord) (t : Title) (r : Root) (s : Span) → IsReadyAt v l x t r s →
    parts_of_record x t ≡ chain_of (with_free s)
ready_parts v l x t r s b =
    let f = with_free s in
    let like = free_like s in
    let from : ℕ → ℕ → ChainParts = λ c n. parts_of_record (record_with f 0 0) (record { start = 0; len = slot_of c; born = n }) in
    ap (λ (y : SpanRecord). parts_of_record y t) b.is
    ∙ (ap (parts_of_record (record_with f 0 0)) b.first
    ∙ (ap (λ c. from c s.born) (sym like.class)
    ∙ (ap (from f.class) (sym like.born) ∙ list_parts f 0 f.free (front v l x t r s b).counted.listed refl)))

-- how many are out
pub ready_some : (v : View) (l : ShelfParts) (x : SpanRecord) (t : Title) (r : Root) (s : Span) → IsReadyAt v l x t r s →
    (x.allocated < x.provisioned) × (x.allocated < 1024)
ready_some v l x t r s b =
    let f = with_free s in
    let h = front v l x t r s b in let c = h.counted in
    let a : x.allocated ≡ f.allocated = ap (λ (y : SpanRecord). y.allocated) b.is in
    let p : x.provisioned ≡ f.provisioned = ap (λ (y : SpanRecord). y.provisioned) b.is in
    let listed = c.listed in let made = c.made in let most = c.most in let few = (IsRow-of f.class c.class).few_slots in
    let many : length f.free ≡ length (h.number ∷ h.rest) = ap length h.free in
    (omega arith, omega arith)

-- a chain without its front
pub tail_chain : (v : View) (f : Span) (n : ℕ) (rest : List ℕ) → f.free ≡ n ∷ rest → IsChain v (chain_of f) (titles_free f) →
    IsChain v (chain_of (without_front rest f)) (titles_free (without_front rest f))
tail_chain v f n rest e is =
    let ts = map (title_at f) rest in
    let whole : IsChain v (chain_of f) (title_at f n ∷ ts) = subst (λ (xs : List ℕ). IsChain v (chain_of f) (map (title_at f) xs)) e is in
    record {
      many = length_map (title_at f) rest;
      head = refl;
      sized = All-tail (λ (t : Title). t.len ≡ slot_of f.class) (title_at f n) ts whole.sized;
      named = All-tail (λ (t : Title). (t.start < 2 ^ 32) × (t.born < 2 ^ 32)) (title_at f n) ts whole.named;
      free = All-tail (λ (t : Title). 0 < free_of v t) (title_at f n) ts whole.free;
      different = pairs_tail (λ (t u : Title). t ≢ u) (title_at f n) ts whole.different;
      links = whole.links.1;
    }

-- where its front starts
name_front : (f : Span) (ys xs : List ℕ) → name_start (front_of (slot_names (map (title_at f) xs))) ≡ front_start (without_front ys f) xs
name_front f ys [] = refl
name_front f ys (k ∷ ks) = refl

-- the state that it enters is one, and not that of an empty span
pub state_out_used : (class n : ℕ) → (state_out class n ≡ state.None → ⊥) × (same_state (state_out class n) state.Empty ≡ false)
state_out_used class n = elim (eqb_tells n (slots_of class)) [
  | inl w ↦ let e : state_out class n ≡ state.Full = ap (λ (b : Bool). if b then state.Full else state.Active) w.0 in (
    λ none. let no : state.Full ≡ state.None = sym e ∙ none in absurd (cc),
    ap (λ a. same_state a state.Empty) e,
  )
  | inr w ↦ let e : state_out class n ≡ state.Active = ap (λ (b : Bool). if b then state.Full else state.Active) w.0 in (
    λ none. let no : state.Active ≡ state.None = sym e ∙ none in absurd (cc),
    ap (λ a. same_state a state.Empty) e,
  )
]

-- the ring doesn't grow if a span enters a state other than Empty
pub few_out : (at : ℕ) (to : State) (l : SpanListParts) (x : SpanRecord) → same_state to state.Empty ≡ false → length l.ring ≤ 17 →
    length (lists_entered at to l x).ring ≤ 17
few_out at to l x other few = elim (cases_Bool (same_state x.state to)) [
  | inl same ↦ subst (λ (b : Bool). length (if b then l else lists_with at x.class to (lists_without at x l)).ring ≤ 17) (sym same) few
  | inr moves ↦ subst (λ (b : Bool). length (if b then l else lists_with at x.class to (lists_without at x l)).ring ≤ 17) (sym moves)
      (no_longer at to (lists_without at x l) x.class other (let less = ring_shrinks at x.state l.ring in omega arith))
]
  where
    no_longer : (at : ℕ) (a : State) (m : SpanListParts) (class : ℕ) → same_state a state.Empty ≡ false → length m.ring ≤ 17 →
        length (lists_with at class a m).ring ≤ 17
    no_longer at state.None m class other few = few
    no_longer at state.Active m class other few = few
    no_longer at state.Empty m class other few = let no : true ≡ false = other in absurd (cc)
    no_longer at state.Decommitted m class other few = few
    no_longer at state.Full m class other few = few

pub front_listed : (x y z : SpanRecord) (h : ℕ) → StaysListed z x → y ≡ without_front_of h x → StaysListed z y
front_listed x y z h st f = subst (StaysListed z) (sym f)
    (record { class = st.class; state = st.state; turn = st.turn; previous = st.previous; next = st.next })

-- what is shown when the front was taken
pub take_shown : (v w : View) (l after : ShelfParts) (x y : SpanRecord) (t : Title) (r : Root) (s : Span) (n h : ℕ) (rest : List ℕ)
    (to : State) →
    IsReadyAt v l x t r s → IsAware v → Rerecorded l.supers v w → (with_free s).free ≡ n ∷ rest → y ≡ without_front_of h x →
    h ≡ name_start (front_of (slot_names (map (title_at (with_free s)) rest))) → to ≡ state_out y.class y.allocated →
    ((a b : Span) → RecordsRoot v l r → Contains r.spans a → IsRecordFor t.start y a b → RecordsRoot w after (entered to b r)) →
    ShowsRoot w after (take_of s r).root
take_shown v w l after x y t r s n h rest to b aware wrote e y_is h_is to_is moved =
    let f = with_free s in let u = without_front rest f in
    let k = b.shown.kept in
    let like = free_like s in
    let some : 0 < slot_of u.class = size_some f.class (front v l x t r s b).counted.class in
    let is : alone y ≡ record_with u 0 0 = ap alone y_is ∙ (ap (without_front_of h) b.is
    ∙ ap (λ (m : ℕ). without_front_of m (record_with f 0 0)) (h_is ∙ name_front f rest rest)) in
    let is_for : IsRecordFor t.start y s u =
    record { here = sym (ap (λ (z : Title). z.start) b.first); place = like.place; born = like.born; is = is } in
    let to_out : to ≡ state_in_use u = to_is ∙ ap (λ (z : SpanRecord). state_out z.class z.allocated) is in
    let raw : (p : ℕ) → IsPayloadOf l.supers p → HasRawRecord v p = λ p payload. (k.pages p payload).raw in
    let others : (z : Span) → Contains r.spans z → IsChain w (chain_of z) (titles_free z) = λ z member.
    chain_stays v w l.supers (chain_of z) (titles_free z) aware wrote raw (size_some z.class (b.sound.spans z member).counted.class)
    (b.shown.chains z member) in
    let own : IsChain w (chain_of u) (titles_free u) =
    chain_stays v w l.supers (chain_of u) (titles_free u) aware wrote raw some (tail_chain v f n rest e b.chain) in
    let shown : ShowsRoot w after (entered to u r) = record {
      kept = moved s u k b.among is_for;
      chains = chains_changed w r.spans (in_state to r.turn u) b.sound.places others (entered_chain w to r.turn u own);
    } in
    subst (λ (xs : List ℕ). ShowsRoot w after (front_taken xs f r).root) (sym e)
    (subst (λ (a : State). ShowsRoot w after (entered a u r)) to_out shown)
