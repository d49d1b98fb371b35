-- Chains stay if records alone were written.
use Rattle.std.proofs.Common.{◌≡◌, ℕ, ◌+◌, ◌/◌, ◌<◌, ◌≤◌, inl, inr, false, List, sym, subst, arith}
use Rattle.std.specs.Prelude.{AllPairs, slice_index_or}
use Rattle.std.proofs.lemmas.Bool.{cases_Bool}
use Rattle.std.proofs.lemmas.List.Elements.{All-contains}
use Rattle.pa_lists.proofs.Elements.{all_from_members}
use Rattle.pa_slot.specs.declared.title.Title.{Title}
use Rattle.pa_slot.specs.Links.{first_word}
use Rattle.pa_buckets.specs.declared.spans.State.{State}
use Rattle.pa_record.specs.declared.taken.SuperPage.{SuperPage}
use Rattle.pa_record.specs.Spans.{Span, name_of, same_place, same_state, put}
use Rattle.pa_record.specs.Root.{in_state}
use Rattle.pa_record.proofs.Places.{put_cases}
use Rattle.pa_region.specs.declared.view.View.{View}
use Rattle.pa_region.specs.Views.{free_of, HasTitle}
use Rattle.pa_region.specs.Aware.{IsAware}
use Rattle.pa_records.specs.Words.{record_word}
use Rattle.pa_records.specs.Records.{titles_free}
use Rattle.pa_meta.specs.Meta.{HasRawRecord}
use Rattle.pa_meta.specs.Stores.{IsPayloadOf, Rerecorded}
use Rattle.pa_link.specs.declared.chain.ChainParts.{ChainParts}
use Rattle.pa_link.specs.Chains.{IsChain}
use Rattle.pa_link.proofs.Chains.{stay}
use Rattle.pa_shelf.specs.Shelves.{chain_of, AreChained}

-- a record's bytes are raw, so no word of it is the first of a title
pub apart : (v : View) (t : Title) (place : ℕ) → IsAware v → HasRawRecord v place → 0 < free_of v t → 0 < t.len →
    record_word place ≤ t.start / 8 →
    t.start / 8 < record_word place + 4 → ⊥
apart v t place aware raw free some low high =
    let has : HasTitle v t = omega arith in
    let none = aware.raw_apart t t.start has (omega arith, omega arith) in
    let held = raw t.start (omega arith) (omega arith) in
    omega arith

-- the titles of a chain keep their first words
pub chain_stays : (v w : View) (supers : List SuperPage) (c : ChainParts) (ts : List Title) → IsAware v → Rerecorded supers v w →
    ((u : ℕ) → IsPayloadOf supers u → HasRawRecord v u) → 0 < c.slot_len → IsChain v c ts → IsChain w c ts
chain_stays v w supers c ts aware wrote raw some is =
    stay v w c ts
    (λ i d inside. subst (λ (x : View). 0 < free_of x (slice_index_or ts i d)) (sym wrote.rest) (is.free i d inside))
    (all_from_members (λ t. first_word w.words (name_of t) ≡ first_word v.words (name_of t)) ts (λ t among.
    let size : t.len ≡ c.slot_len = All-contains (λ (x : Title). x.len ≡ c.slot_len) ts t is.sized among in
    let free : 0 < free_of v t = All-contains (λ (x : Title). 0 < free_of v x) ts t is.free among in
    wrote.others (t.start / 8) (λ place payload low high. apart v t place aware (raw place payload) free (omega arith) low high)))
    is

-- the list of a span that entered a state
pub entered_chain : (v : View) (to : State) (turn : ℕ) (t : Span) → IsChain v (chain_of t) (titles_free t) →
    IsChain v (chain_of (in_state to turn t)) (titles_free (in_state to turn t))
entered_chain v to turn t is = elim (cases_Bool (same_state t.state to)) [
  | inl same ↦ rw same is
  | inr other ↦ rw other is
]

-- of the spans with one in the place of another
pub chains_changed : (v : View) (ss : List Span) (t : Span) → AllPairs (λ a b. same_place a b ≡ false) ss → AreChained v ss →
    IsChain v (chain_of t) (titles_free t) → AreChained v (put t ss)
chains_changed v ss t places chained is u among = elim (put_cases t u ss places among) [
  | inl e ↦ subst (λ (z : Span). IsChain v (chain_of z) (titles_free z)) (sym e) is
  | inr old ↦ chained u old.0
]
