-- What the changes of spans leave of each field.
use Rattle.std.proofs.Common.{◌≡◌, ℕ, ◌<◌, ◌⊎◌, inl, inr, Bool, true, false, ◌==◌, ◌&&◌, nat_lt, if◌then◌else◌, refl, ap, ◌∙◌, arith}
use Rattle.std.proofs.lemmas.Bool.{eq-eqb, lt-ltb}
use Rattle.std.proofs.lemmas.Bool.Decides.{eqb_tells}
use Rattle.pa_buckets.specs.declared.spans.State.{State}
use Rattle.pa_buckets.specs.declared.spans.State.TheVariants as state
use Rattle.pa_record.specs.Spans.{same_state}
use Rattle.pa_spans.specs.declared.span.Span.{Span}
use Rattle.pa_spans.specs.Lists.{with_next, without, in_front, in_front_of}

-- what a choice has that both of its sides have
picked : {A : Type 0} (f : Span → A) (b : Bool) (s t : Span) → f s ≡ f t → f (if b then s else t) ≡ f t
picked f true s t e = e
picked f false s t e = refl

chosen : (b : Bool) (s t : Span) → b ≡ true → (if b then s else t) ≡ s
chosen b s t e = ap (λ (c : Bool). if c then s else t) e

other : (b : Bool) (s t : Span) → b ≡ false → (if b then s else t) ≡ t
other b s t e = ap (λ (c : Bool). if c then s else t) e

and_false : (b : Bool) → (b && false) ≡ false
and_false true = refl
and_false false = refl

here : (u at : ℕ) → (u ≡ 0 → ⊥) → u ≡ at → (nat_lt 0 at && (u == at)) ≡ true
here u at some e =
    let more : 0 < at = omega arith in
    ap (λ (c : Bool). c && (u == at)) (lt-ltb 0 at more) ∙ eq-eqb u at e

elsewhere : (u at : ℕ) → (u ≡ at → ⊥) → (nat_lt 0 at && (u == at)) ≡ false
elsewhere u at never = elim (eqb_tells u at) [
  | inl w ↦ absurd (never w.1)
  | inr w ↦ ap (λ (c : Bool). nat_lt 0 at && c) w.0 ∙ and_false (nat_lt 0 at)
]

equal : (u at : ℕ) → (u ≡ at → ⊥) → (u == at) ≡ false
equal u at never = elim (eqb_tells u at) [
  | inl w ↦ absurd (never w.1)
  | inr w ↦ w.0
]

-- what is the same of spans after the neighbours p and n name each other
pub record AreJoined (before after : ℕ → Span) (p n : ℕ) : Type 0 where
  pub class : (u : ℕ) → (after u).class ≡ (before u).class
  pub state : (u : ℕ) → (after u).state ≡ (before u).state
  pub turn : (u : ℕ) → (after u).turn ≡ (before u).turn
  pub next_here : (u : ℕ) → (u ≡ 0 → ⊥) → u ≡ p → (after u).next ≡ n
  pub next_else : (u : ℕ) → (u ≡ p → ⊥) → (after u).next ≡ (before u).next
  pub previous_here : (u : ℕ) → (u ≡ 0 → ⊥) → u ≡ n → (after u).previous ≡ p
  pub previous_else : (u : ℕ) → (u ≡ n → ⊥) → (after u).previous ≡ (before u).previous

pub joined : (s : Span) (spans : ℕ → Span) → AreJoined spans (without s spans) s.previous s.next
joined s spans =
    let p = s.previous in let n = s.next in
    let step : ℕ → Span = with_next p n spans in
    let tp : ℕ → Bool = λ u. nat_lt 0 p && (u == p) in let tn : ℕ → Bool = λ u. nat_lt 0 n && (u == n) in
    let ap_next : ℕ → Span = λ u. record (spans u) { next = n } in let ap_previous : ℕ → Span = λ u. record (step u) { previous = p } in
    record {
      class = λ u. picked (λ (t : Span). t.class) (tn u) (ap_previous u) (step u) refl ∙
          picked (λ (t : Span). t.class) (tp u) (ap_next u) (spans u) refl;
      state = λ u. picked (λ (t : Span). t.state) (tn u) (ap_previous u) (step u) refl ∙
          picked (λ (t : Span). t.state) (tp u) (ap_next u) (spans u) refl;
      turn = λ u. picked (λ (t : Span). t.turn) (tn u) (ap_previous u) (step u) refl ∙
          picked (λ (t : Span). t.turn) (tp u) (ap_next u) (spans u) refl;
      next_here = λ u some e. picked (λ (t : Span). t.next) (tn u) (ap_previous u) (step u) refl
          ∙ ap (λ (t : Span). t.next) (chosen (tp u) (ap_next u) (spans u) (here u p some e));
      next_else = λ u never. picked (λ (t : Span). t.next) (tn u) (ap_previous u) (step u) refl
          ∙ ap (λ (t : Span). t.next) (other (tp u) (ap_next u) (spans u) (elsewhere u p never));
      previous_here = λ u some e. ap (λ (t : Span). t.previous) (chosen (tn u) (ap_previous u) (step u) (here u n some e));
      previous_else = λ u never. ap (λ (t : Span). t.previous) (other (tn u) (ap_previous u) (step u) (elsewhere u n never))
          ∙ picked (λ (t : Span). t.previous) (tp u) (ap_next u) (spans u) refl;
    }

-- of spans among which one is put in front of another
pub record AreFronted (before after : ℕ → Span) (x head : ℕ) (s : Span) (to : State) (turn : ℕ) : Type 0 where
  pub is : after x ≡ record s { state = to; turn = turn; previous = 0; next = head }
  pub class : (u : ℕ) → (u ≡ x → ⊥) → (after u).class ≡ (before u).class
  pub state : (u : ℕ) → (u ≡ x → ⊥) → (after u).state ≡ (before u).state
  pub turn_is : (u : ℕ) → (u ≡ x → ⊥) → (after u).turn ≡ (before u).turn
  pub next : (u : ℕ) → (u ≡ x → ⊥) → (after u).next ≡ (before u).next
  pub previous_here : (u : ℕ) → (u ≡ x → ⊥) → (u ≡ 0 → ⊥) → u ≡ head → (after u).previous ≡ x
  pub previous_else : (u : ℕ) → (u ≡ x → ⊥) → (u ≡ head → ⊥) → (after u).previous ≡ (before u).previous

pub fronted : (x head : ℕ) (s : Span) (to : State) (turn : ℕ) (spans : ℕ → Span) → (x ≡ head → ⊥) →
    AreFronted spans (in_front x s to head turn spans) x head s to turn
fronted x head s to turn spans apart =
    let new : Span = in_front_of head to turn s in
    let step : ℕ → Span = λ u. if u == x then new else spans u in
    let th : ℕ → Bool = λ u. nat_lt 0 head && (u == head) in let behind : ℕ → Span = λ u. record (step u) { previous = x } in
    let same : (u : ℕ) → (u ≡ x → ⊥) → step u ≡ spans u = λ u never. other (u == x) new (spans u) (equal u x never) in
    record {
      is = other (th x) (behind x) (step x) (elsewhere x head apart) ∙ chosen (x == x) new (spans x) (eq-eqb x x refl);
      class = λ u never. picked (λ (t : Span). t.class) (th u) (behind u) (step u) refl ∙ ap (λ (t : Span). t.class) (same u never);
      state = λ u never. picked (λ (t : Span). t.state) (th u) (behind u) (step u) refl ∙ ap (λ (t : Span). t.state) (same u never);
      turn_is = λ u never. picked (λ (t : Span). t.turn) (th u) (behind u) (step u) refl ∙ ap (λ (t : Span). t.turn) (same u never);
      next = λ u never. picked (λ (t : Span). t.next) (th u) (behind u) (step u) refl ∙ ap (λ (t : Span). t.next) (same u never);
      previous_here = λ u never some e. ap (λ (t : Span). t.previous) (chosen (th u) (behind u) (step u) (here u head some e));
      previous_else = λ u never more. ap (λ (t : Span). t.previous) (other (th u) (behind u) (step u) (elsewhere u head more)) ∙
          ap (λ (t : Span). t.previous) (same u never);
    }

-- states are the same, or differ
pub states_tell : (a b : State) → ((a ≡ b) × (same_state a b ≡ true)) ⊎ ((a ≡ b → ⊥) × (same_state a b ≡ false))
states_tell state.None state.None = inl (refl, refl)
states_tell state.Active state.Active = inl (refl, refl)
states_tell state.Empty state.Empty = inl (refl, refl)
states_tell state.Decommitted state.Decommitted = inl (refl, refl)
states_tell state.Full state.Full = inl (refl, refl)
states_tell a b = inr (λ e. cc, refl)

-- a list is that of a class and a state, or not
pub lists_tell : (k c : ℕ) (e a : State) → ((k ≡ c) × (e ≡ a)) ⊎ ((k ≡ c) × (e ≡ a) → ⊥)
lists_tell k c e a = elim (eqb_tells k c) [
  | inl w ↦ elim (states_tell e a) [
    | inl z ↦ inl (w.1, z.0)
    | inr z ↦ inr (λ both. z.0 both.1)
  ]
  | inr w ↦ inr (λ both. w.1 both.0)
]
