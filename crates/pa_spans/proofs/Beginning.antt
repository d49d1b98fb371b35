-- Lists with no span stand for spans that are in no state.
use Rattle.std.proofs.Common.{◌≡◌, ℕ, ◌<◌, inl, refl, sym, ◌∙◌, arith}
use Rattle.std.proofs.lemmas.List.{get_or-replicate, length-replicate}
use Rattle.pa_buckets.specs.declared.spans.State.{State}
use Rattle.pa_buckets.specs.declared.spans.State.TheVariants as state
use Rattle.pa_buckets.specs.Limits.{class_count}
use Rattle.pa_spans.specs.declared.span.Span.{Span}
use Rattle.pa_spans.specs.Lists.{no_lists, HasList, list_head, IsMember, Stand, IsOutside}
use Rattle.pa_spans.proofs.Leaving.{listed_used}

new_head : (k : ℕ) (e : State) → k < class_count → list_head no_lists k e ≡ 0
new_head k state.None small = refl
new_head k state.Active small = get_or-replicate class_count k 0 0 small
new_head k state.Empty small = get_or-replicate class_count k 0 0 small
new_head k state.Decommitted small = get_or-replicate class_count k 0 0 small
new_head k state.Full small = refl

pub new_lists_stand : (spans : ℕ → Span) (has : ℕ → Type 0) → (has 0 → ⊥) → ((u : ℕ) → has u → IsOutside (spans u)) →
    Stand no_lists spans has
new_lists_stand spans has none outside =
    let empty : (k : ℕ) (e : State) → HasList e → (u : ℕ) → IsMember spans has k e u → ⊥ =
    λ k e listed u m. listed_used (spans u) e listed m.state_is (outside u m.is_had).0 in
    record {
      some = none;
      differ = λ u v a b c d same. absurd (c (outside u a).0);
      below = λ u a c. absurd (c (outside u a).0);
      alone = λ u a c. ((outside u a).1, (outside u a).2);
      lists = λ k e listed. record {
        some = λ m. none m.is_had;
        differ = λ u v m n same. absurd (empty k e listed u m);
        next = λ u m. absurd (empty k e listed u m);
        previous = λ u m. absurd (empty k e listed u m);
      };
      heads = λ k e small listed. inl (new_head k e small, empty k e listed);
      empty = λ u a is. let no_state = sym (outside u a).0 ∙ is in absurd (cc);
      in_ring = λ k d less. absurd (omega arith);
      rise = λ i j d less inside. absurd (omega arith);
      long = record {
        active = length-replicate {A = ℕ} class_count 0;
        empty = length-replicate {A = ℕ} class_count 0;
        decommitted = length-replicate {A = ℕ} class_count 0;
      };
    }
