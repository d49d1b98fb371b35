-- The head of a list is the span of greatest turn, so what the heads give is the span from which a slot is taken.
use Rattle.std.proofs.Common.{◌≡◌, ℕ, ◌<◌, inl, inr, Bool, true, false, ◌==◌, if◌then◌else◌, List, Option, Some, None, refl, sym, ◌∙◌, ap, subst, arith}
use Rattle.std.specs.Prelude.{Contains}
use Rattle.std.proofs.lemmas.Bool.{and_parts, and_from, eqb-true, eq-eqb}
use Rattle.std.proofs.lemmas.Bool.Decides.{eqb_tells}
use Rattle.pa_buckets.specs.declared.spans.State.{State}
use Rattle.pa_buckets.specs.declared.spans.State.TheVariants as state
use Rattle.pa_record.specs.Spans.{Span, is_in, is_of, same_state, latest, or_else, listed}
use Rattle.pa_record.specs.Root.{Root}
use Rattle.pa_record.specs.Sound.{IsSound}
use Rattle.pa_record.proofs.Choice.{latest_is}
use Rattle.pa_record.proofs.Chosen.{is_latest}
use Rattle.pa_record.proofs.Entering.{same_state-true, same_state-self}
use Rattle.pa_region.specs.declared.view.View.{View}
use Rattle.pa_spans.specs.declared.span.Span.{Span as SpanRecord}
use Rattle.pa_spans.specs.Lists.{HasList, IsMember, IsHead, list_head, top_of}
use Rattle.pa_records.specs.Words.{spans_in}
use Rattle.pa_records.specs.Stored.{AreStored}
use Rattle.pa_meta.specs.Stores.{HasSpanAt}
use Rattle.pa_shelf.specs.Shelves.{ShelfParts, RecordsRoot}
use Rattle.pa_shelf.specs.Taking.{start_of, first_some}
use Rattle.pa_shelf.proofs.Oldest.{state_at, turn_at}

class_at : (spans : ℕ → SpanRecord) (has : ℕ → Type 0) (ss : List Span) (s : Span) → AreStored spans has ss → Contains ss s →
    (spans s.place).class ≡ s.class
class_at spans has ss s st among = ap (λ (x : SpanRecord). x.class) (st.numbers s among)

-- a span of the class in the state is a member, and a member is one
is_member : (spans : ℕ → SpanRecord) (has : ℕ → Type 0) (ss : List Span) (s : Span) (class : ℕ) (a : State) → AreStored spans has ss →
    Contains ss s →
    is_of class a s ≡ true → IsMember spans has class a s.place
is_member spans has ss s class a st among is =
    let (p, q) = and_parts _ _ is in
    record {
      is_had = st.had s among;
      class_is = class_at spans has ss s st among ∙ eqb-true _ _ p;
      state_is = state_at spans has ss s st among ∙ same_state-true s.state a q;
    }

list_used : (a : State) → HasList a → a ≡ state.None → ⊥
list_used a has none = subst HasList none has

-- none is the head: no span passes
none_passes : (spans : ℕ → SpanRecord) (has : ℕ → Type 0) (ss : List Span) (class : ℕ) (a : State) (o : Option Span) →
    AreStored spans has ss →
    ((u : ℕ) → IsMember spans has class a u → ⊥) → latest (is_of class a) ss ≡ o → o ≡ None
none_passes spans has ss class a None st none e = refl
none_passes spans has ss class a (Some s) st none e =
    let k = latest_is (is_of class a) ss s e in
    absurd (none s.place (is_member spans has ss s class a st k.among k.passes))

by_head : (spans : ℕ → SpanRecord) (has : ℕ → Type 0) (r : Root) (class h : ℕ) (a : State) → HasList a → IsSound r →
    AreStored spans has r.spans →
    (has 0 → ⊥) → IsHead (IsMember spans has class a) (λ u. (spans u).turn) h →
    (if h == 0 then None else Some h) ≡ start_of (latest (is_of class a) r.spans)
by_head spans has r class h a list sound st some (inl (zero, none)) =
    ap (λ (n : ℕ). if n == 0 then None else Some n) zero
    ∙ sym (ap start_of (none_passes spans has r.spans class a (latest (is_of class a) r.spans) st none refl))
by_head spans has r class h a list sound st some (inr (member, most)) =
    let used : (spans h).state ≡ state.None → ⊥ = λ none. list_used a list (sym member.state_is ∙ none) in
    let (s, among, place) = st.each h member.is_had used in
    let class_is : s.class ≡ class = sym (class_at spans has r.spans s st among) ∙ (ap (λ u. (spans u).class) place ∙ member.class_is) in
    let state_is : s.state ≡ a = sym (state_at spans has r.spans s st among) ∙ (ap (λ u. (spans u).state) place ∙ member.state_is) in
    let passes : is_of class a s ≡ true =
    and_from _ _ (eq-eqb _ _ class_is) (subst (λ b. same_state s.state b ≡ true) state_is (same_state-self s.state)) in
    let turn : (spans h).turn ≡ s.turn = sym (ap (λ u. (spans u).turn) place) ∙ turn_at spans has r.spans s st among in
    let latest_one : latest (is_of class a) r.spans ≡ Some s = is_latest (is_of class a) r s sound
    (λ t inside is. no_state a t list (same_state-true t.state a (and_parts _ _ is).1))
    (record {
      among = among;
      passes = passes;
      most = λ t inside is.
          let less = most t.place (is_member spans has r.spans t class a st inside is) in
          let later = turn_at spans has r.spans t st inside in
          omega arith;
    }) in
    elim (eqb_tells h 0) [
      | inl w ↦ absurd (some (subst has w.1 member.is_had))
      | inr w ↦ ap (λ (b : Bool). if b then None else Some h) w.0 ∙ (ap Some (sym place) ∙ sym (ap start_of latest_one))
    ]
  where
    no_state : (a : State) (t : Span) → HasList a → t.state ≡ a → is_in state.None t ≡ false
    no_state state.None t none is = absurd none
    no_state state.Active t list is = ap (λ b. same_state b state.None) is
    no_state state.Empty t list is = ap (λ b. same_state b state.None) is
    no_state state.Decommitted t list is = ap (λ b. same_state b state.None) is
    no_state state.Full t none is = absurd none

pub top_is : (v : View) (l : ShelfParts) (r : Root) (class : ℕ) (a : State) → class < 170 → HasList a → IsSound r → RecordsRoot v l r →
    top_of l.lists class a ≡ start_of (latest (is_of class a) r.spans)
top_is v l r class a real list sound k =
    by_head (spans_in v.words) (HasSpanAt v l.supers) r class (list_head l.lists class a) a list sound k.stored k.stand.some
    (k.stand.heads class a real list)

first_start : (o p : Option Span) → first_some (start_of o) (start_of p) ≡ start_of (or_else o p)
first_start None p = refl
first_start (Some s) p = refl

-- the three heads, one after the other
pub listed_is : (v : View) (l : ShelfParts) (r : Root) (class : ℕ) (a b c : Option ℕ) → class < 170 → IsSound r → RecordsRoot v l r →
    a ≡ top_of l.lists class state.Active → b ≡ top_of l.lists class state.Empty → c ≡ top_of l.lists class state.Decommitted →
    first_some a (first_some b c) ≡ start_of (listed class r.spans)
listed_is v l r class a b c real sound k first second third =
    let x = latest (is_of class state.Active) r.spans in
    let y = latest (is_of class state.Empty) r.spans in
    let z = latest (is_of class state.Decommitted) r.spans in
    let is_a : a ≡ start_of x = first ∙ top_is v l r class state.Active real tt sound k in
    let is_b : b ≡ start_of y = second ∙ top_is v l r class state.Empty real tt sound k in
    let is_c : c ≡ start_of z = third ∙ top_is v l r class state.Decommitted real tt sound k in
    ap (λ o. first_some o (first_some b c)) is_a
    ∙ (ap (λ o. first_some (start_of x) (first_some o c)) is_b
    ∙ (ap (λ o. first_some (start_of x) (first_some (start_of y) o)) is_c
    ∙ (ap (first_some (start_of x)) (first_start y z) ∙ first_start x (or_else y z))))
