-- What is out of a root stays out.
use Rattle.std.proofs.Common.{◌≡◌, ℕ, ◌+◌, ◌*◌, ◌<◌, refl, sym, ◌∙◌, subst, arith, inl, inr}
use Rattle.std.specs.Prelude.{Contains}
use Rattle.std.proofs.lemmas.Bool.{cases_Bool}
use Rattle.pa_slot.specs.declared.word.SlotName.{SlotName}
use Rattle.pa_buckets.specs.declared.spans.State.{State}
use Rattle.pa_buckets.specs.Table.{slot_of}
use Rattle.pa_record.specs.Spans.{Span, title_at, name_of, same_place, same_state}
use Rattle.pa_record.specs.Root.{Root, in_state, entered, IsOut, IsOutOf}
use Rattle.pa_record.specs.Sound.{IsSound}
use Rattle.pa_record.proofs.Places.{one_span}
use Rattle.pa_record.proofs.Entering.{IsLike, in_state_like, like_trans, entered_there, entered_keeps}

pub name_like : (t s : Span) (n : ℕ) → IsLike t s → name_of (title_at t n) ≡ name_of (title_at s n)
name_like t s n like = named t.place s.place t.born s.born t.class s.class like.place like.born like.class
  where
    named : (p q b d c e : ℕ) → p ≡ q → b ≡ d → c ≡ e →
        (let x : SlotName = record { start = p + slot_of c * n; born = b } in
        let y : SlotName = record { start = q + slot_of e * n; born = d } in x ≡ y)
    named p q b d c e h k l = rw (h, k, l) refl

-- the numbers that are out of s, but for those of one name, are out of t
abbrev pub KeepsOut : SlotName → Span → Span → Type 0
KeepsOut name s t = (n : ℕ) → IsOutOf s name n → (n < t.provisioned) × (Contains t.free n → ⊥)

pub same_list : (to : State) (turn : ℕ) (t : Span) → ((in_state to turn t).free ≡ t.free) ×
    ((in_state to turn t).provisioned ≡ t.provisioned)
same_list to turn t = elim (cases_Bool (same_state t.state to)) [
  | inl same ↦ rw same (refl, refl)
  | inr other ↦ rw other (refl, refl)
]

-- in a span that has the place of s
pub out_in_place : (s t : Span) (to : State) (turn : ℕ) (name : SlotName) (n : ℕ) → IsLike t s → KeepsOut name s t → IsOutOf s name n →
    IsOutOf (in_state to turn t) name n
out_in_place s t to turn name n like keeps out =
    let u = in_state to turn t in
    let (below, away) = keeps n out in
    let (list, many) = same_list to turn t in
    record {
      provisioned = omega arith;
      named = out.named ∙ sym (name_like u s n (like_trans u t s (in_state_like to turn t) like));
      out = λ among. away (subst (λ xs. Contains xs n) list among);
    }

pub entered_out : (r : Root) (s t : Span) (to : State) (name : SlotName) → IsSound r → Contains r.spans s → IsLike t s → KeepsOut name s t →
    IsOut r name → IsOut (entered to t r) name
entered_out r s t to name sound among like keeps (u, member, n, out) = elim (cases_Bool (same_place s u)) [
  | inl near ↦
      let e : s ≡ u = one_span s u r.spans sound.places among member near in
      let here : IsOutOf s name n = subst (λ z. IsOutOf z name n) (sym e) out in
      (in_state to r.turn t, entered_there r s t to among like, n, out_in_place s t to r.turn name n like keeps here)
  | inr far ↦ (u, entered_keeps r s t u to like member far, n, out)
]
