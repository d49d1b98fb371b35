-- The oldest empty span is decommitted: what is shown then.
use Rattle.std.proofs.Common.{◌≡◌, ℕ, ◌≤◌, inl, inr, Bool, if◌then◌else◌, List, length, [], ◌∷◌, Option, Some, None, refl, sym, ◌∙◌, ap, subst, arith}
use Rattle.std.specs.Prelude.{All, Contains}
use Rattle.std.proofs.lemmas.Bool.{cases_Bool}
use Rattle.std.proofs.lemmas.Bool.Decides.{eqb_tells}
use Rattle.pa_lists.proofs.Members.{not_some}
use Rattle.pa_lists.proofs.Pairs.{pairs_none}
use Rattle.pa_buckets.specs.declared.spans.State.TheVariants as state
use Rattle.pa_record.specs.declared.taken.SuperPage.{SuperPage}
use Rattle.pa_record.specs.Spans.{Span, same_state, without_pages, is_in, earliest}
use Rattle.pa_record.specs.Root.{Root, in_state, entered, decommitted_span, oldest_decommitted}
use Rattle.pa_record.specs.Sound.{IsSound}
use Rattle.pa_record.proofs.SpanSteps.{size_some}
use Rattle.pa_region.specs.declared.view.View.{View}
use Rattle.pa_region.specs.Aware.{IsAware}
use Rattle.pa_spans.specs.declared.span.Span.{Span as SpanRecord}
use Rattle.pa_spans.specs.Lists.{SpanListParts, Stand, StaysListed, lists_without, lists_with, lists_entered, first_of_ring}
use Rattle.pa_spans.proofs.Rings.{ring_shrinks}
use Rattle.pa_records.specs.Words.{record_word, IsRecordAt, spans_in}
use Rattle.pa_records.specs.Records.{record_with, titles_free}
use Rattle.pa_records.specs.Stored.{alone}
use Rattle.pa_records.proofs.Words.{span_is}
use Rattle.pa_meta.specs.Stores.{HasSpanAt, Rerecorded}
use Rattle.pa_link.specs.Chains.{IsChain}
use Rattle.pa_shelf.specs.Moving.{IsRecordFor, without_pages_of}
use Rattle.pa_shelf.specs.Shelves.{ShelfParts, chain_of, RecordsRoot, ShowsRoot}
use Rattle.pa_shelf.proofs.Chained.{chain_stays, entered_chain, chains_changed}
use Rattle.pa_shelf.proofs.Oldest.{none_empty, oldest}

-- the first of the ring
pub first_is : (ring : List ℕ) (at : ℕ) → first_of_ring ring ≡ Some at → (rest : List ℕ) × (ring ≡ at ∷ rest)
first_is [] at e = absurd (not_some at e)
first_is (u ∷ us) at e = elim (eqb_tells (length (u ∷ us)) 0) [
  | inl w ↦ let no = w.1 in absurd (omega arith)
  | inr w ↦
      let same : Some u ≡ Some at = sym (ap (λ (b : Bool). if b then None else Some u) w.0) ∙ e in
      (us, ap (λ (o : Option ℕ). elim o as (λ p. List ℕ) [ None ↦ us | Some v ↦ v ∷ us ]) same)
]

pub none_is : (ring : List ℕ) → first_of_ring ring ≡ None → ring ≡ []
none_is [] e = refl
none_is (u ∷ us) e = elim (eqb_tells (length (u ∷ us)) 0) [
  | inl w ↦ let no = w.1 in absurd (omega arith)
  | inr w ↦ absurd (not_some u (sym e ∙ ap (λ (b : Bool). if b then None else Some u) w.0))
]

-- the page at which it starts has a span
first_had : (l : SpanListParts) (spans : ℕ → SpanRecord) (has : ℕ → Type 0) (at : ℕ) → Stand l spans has → first_of_ring l.ring ≡ Some at →
    has at
first_had l spans has at stand is =
    let (rest, ring_is) = first_is l.ring at is in
    ((subst (All (λ u. has u × ((spans u).state ≡ state.Empty))) ring_is stand.in_ring) 0 0 (omega arith)).0

pub page_had : (v : View) (l : ShelfParts) (r : Root) (at : ℕ) → ShowsRoot v l r → first_of_ring l.lists.ring ≡ Some at →
    HasSpanAt v l.supers at
page_had v l r at shown is = first_had l.lists (spans_in v.words) (HasSpanAt v l.supers) at shown.kept.stand is

-- the span that was read is the one that the words have
pub read_is : (v : View) (supers : List SuperPage) (at : ℕ) (x : SpanRecord) → HasSpanAt v supers at →
    ((s : SpanRecord) → IsRecordAt v.words (record_word at) s → x ≡ s) → x ≡ spans_in v.words at
read_is v supers at x has read = read has.span has.recorded ∙ sym (span_is v.words at has.span has.payload.aligned has.recorded)

pub without_stays : (x y z : SpanRecord) → x ≡ z → y ≡ without_pages_of x → StaysListed z y
without_stays x y z e f = subst (λ (u : SpanRecord). StaysListed u y) e (subst (StaysListed x) (sym f)
    (record { class = inl refl; state = refl; turn = refl; previous = refl; next = refl }))

pub few_left : (at : ℕ) (l : SpanListParts) (x : SpanRecord) → length l.ring ≤ 17 →
    length (lists_entered at state.Decommitted l x).ring ≤ 17
few_left at l x few = elim (cases_Bool (same_state x.state state.Decommitted)) [
  | inl same ↦ subst (λ (b : Bool). length (if b then l else lists_with at x.class state.Decommitted (lists_without at x l)).ring ≤ 17)
      (sym same) few
  | inr other ↦ subst (λ (b : Bool). length (if b then l else lists_with at x.class state.Decommitted (lists_without at x l)).ring ≤ 17)
      (sym other)
      (let less = ring_shrinks at x.state l.ring in omega arith)
]

-- a span without free slots
pub empty_chain : (v : View) (s : Span) → s.free ≡ [] → IsChain v (chain_of s) (titles_free s)
empty_chain v s e = subst (λ (ns : List ℕ). IsChain v (chain_of (record s { free = ns })) (titles_free (record s { free = ns }))) (sym e)
    (record {
      many = refl;
      head = refl;
      sized = λ i d inside. absurd (omega arith);
      named = λ i d inside. absurd (omega arith);
      free = λ i d inside. absurd (omega arith);
      different = pairs_none (λ t u. t ≡ u → ⊥);
      links = tt;
    })

-- what is shown when a span was decommitted
pub decommit_shown : (v w : View) (l after : ShelfParts) (at : ℕ) (x y : SpanRecord) (r : Root) → IsAware v → Rerecorded l.supers v w →
    first_of_ring l.lists.ring ≡ Some at → x ≡ spans_in v.words at → y ≡ without_pages_of x →
    ((s t : Span) → RecordsRoot v l r → Contains r.spans s → IsRecordFor at y s t → RecordsRoot w after (entered state.Decommitted t r)) →
    IsSound r → ShowsRoot v l r → ShowsRoot w after (oldest_decommitted r)
decommit_shown v w l after at x y r aware wrote first x_is y_is moved sound shown =
    let k = shown.kept in
    let (rest, ring_is) = first_is l.lists.ring at first in
    let (s, old) = oldest l.lists (spans_in v.words) (HasSpanAt v l.supers) r at rest sound k.stand k.stored ring_is in
    let t = without_pages s in
    let here : alone x ≡ record_with s 0 0 = ap alone (x_is ∙ ap (spans_in v.words) (sym old.here)) ∙ k.stored.numbers s old.among in
    let is_for : IsRecordFor at y s t =
    record { here = old.here; place = refl; born = refl; is = ap alone y_is ∙ ap without_pages_of here } in
    let chains : (u : Span) → Contains r.spans u → IsChain w (chain_of u) (titles_free u) = λ u among.
    chain_stays v w l.supers (chain_of u) (titles_free u) aware wrote (λ p payload. (k.pages p payload).raw)
    (size_some u.class (sound.spans u among).counted.class) (shown.chains u among) in
    subst (ShowsRoot w after) (sym (ap (λ o. decommitted_span o r) old.is)) (record {
      kept = moved s t k old.among is_for;
      chains = chains_changed w r.spans (in_state state.Decommitted r.turn t) sound.places chains
          (entered_chain w state.Decommitted r.turn t (empty_chain w t refl));
    })

-- if no span is empty, the root is shown with its oldest empty span decommitted
pub none_shown : (v : View) (l : ShelfParts) (r : Root) → first_of_ring l.lists.ring ≡ None → ShowsRoot v l r →
    ShowsRoot v l (oldest_decommitted r)
none_shown v l r none shown =
    let k = shown.kept in
    let e : earliest (is_in state.Empty) r.spans ≡ None =
    none_empty l.lists (spans_in v.words) (HasSpanAt v l.supers) r.spans (earliest (is_in state.Empty) r.spans) k.stand k.stored
    (none_is l.lists.ring none) refl in
    subst (ShowsRoot v l) (sym (ap (λ o. decommitted_span o r) e)) shown
