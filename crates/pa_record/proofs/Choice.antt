-- The span with the greatest turn, or with the least, of those that pass a test.
use Rattle.std.proofs.Common.{◌≡◌, Bool, true, false, ltb, List, [], ◌∷◌, refl, sym, ap, subst, arith, inl, inr, Option, Some, None}
use Rattle.std.specs.Prelude.{Contains}
use Rattle.std.proofs.lemmas.Bool.{cases_Bool, ltb-true, ltb-false, both_ways}
use Rattle.pa_record.specs.Spans.{Span, latest, earliest, later, earlier}
use Rattle.pa_record.specs.Steps.{IsLatest, IsEarliest}
use Rattle.pa_lists.proofs.Members.{not_in_none, first_in, later_in, in_cases, of_some, not_some}

pub latest_none : (test : Span → Bool) (ss : List Span) → latest test ss ≡ None → (t : Span) → Contains ss t → test t ≡ false
latest_none test [] e t among = absurd (not_in_none t among)
latest_none test (s ∷ ss) e t among = elim (cases_Bool (test s)) [
  | inl hit ↦ absurd (not_some _ (sym (rw hit at e)))
  | inr miss ↦ elim (in_cases s t ss among) [
    | inl same ↦ subst (λ z. test z ≡ false) same miss
    | inr rest ↦ latest_none test ss (rw miss at e) t rest
  ]
]

pub earliest_none : (test : Span → Bool) (ss : List Span) → earliest test ss ≡ None → (t : Span) → Contains ss t → test t ≡ false
earliest_none test [] e t among = absurd (not_in_none t among)
earliest_none test (s ∷ ss) e t among = elim (cases_Bool (test s)) [
  | inl hit ↦ absurd (not_some _ (sym (rw hit at e)))
  | inr miss ↦ elim (in_cases s t ss among) [
    | inl same ↦ subst (λ z. test z ≡ false) same miss
    | inr rest ↦ earliest_none test ss (rw miss at e) t rest
  ]
]

-- of s and the latest of the rest
latest_first : (test : Span → Bool) (s : Span) (ss : List Span) (o : Option Span) → latest test ss ≡ o → test s ≡ true →
    ((t : Span) → o ≡ Some t → IsLatest test ss t) → IsLatest test (s ∷ ss) (later s o)
latest_first test s ss None e hit h = record {
  among = first_in s ss;
  passes = hit;
  most = λ t among passes. elim (in_cases s t ss among) [
    | inl same ↦ let f : s.turn ≡ t.turn = ap (λ (z : Span). z.turn) same in omega arith
    | inr rest ↦ absurd (both_ways _ (latest_none test ss e t rest) passes)
  ];
}
latest_first test s ss (Some t) e hit h = elim (cases_Bool (ltb s.turn t.turn)) [
  | inl less ↦ rw less
      (record {
        among = later_in s t ss (h t refl).among;
        passes = (h t refl).passes;
        most = λ u among passes. elim (in_cases s u ss among) [
          | inl same ↦ let f : s.turn ≡ u.turn = ap (λ (z : Span). z.turn) same in let g = ltb-true _ _ less in omega arith
          | inr rest ↦ (h t refl).most u rest passes
        ];
      })
  | inr more ↦ rw more
      (record {
        among = first_in s ss;
        passes = hit;
        most = λ u among passes. elim (in_cases s u ss among) [
          | inl same ↦ let f : s.turn ≡ u.turn = ap (λ (z : Span). z.turn) same in omega arith
          | inr rest ↦ let k = (h t refl).most u rest passes in let g = ltb-false _ _ more in omega arith
        ];
      })
]

pub latest_is : (test : Span → Bool) (ss : List Span) (s : Span) → latest test ss ≡ Some s → IsLatest test ss s
latest_is test [] s e = absurd (not_some s e)
latest_is test (t ∷ ss) s e = elim (cases_Bool (test t)) [
  | inl hit ↦ subst (λ z. IsLatest test (t ∷ ss) z) (of_some _ s (rw hit at e))
      (latest_first test t ss (latest test ss) refl hit (λ u k. latest_is test ss u k))
  | inr miss ↦
      let rest = latest_is test ss s (rw miss at e) in
      record {
        among = later_in t s ss rest.among;
        passes = rest.passes;
        most = λ u among passes. elim (in_cases t u ss among) [
          | inl same ↦ absurd (both_ways _ (subst (λ z. test z ≡ false) same miss) passes)
          | inr old ↦ rest.most u old passes
        ];
      }
]

earliest_first : (test : Span → Bool) (s : Span) (ss : List Span) (o : Option Span) → earliest test ss ≡ o → test s ≡ true →
    ((t : Span) → o ≡ Some t → IsEarliest test ss t) → IsEarliest test (s ∷ ss) (earlier s o)
earliest_first test s ss None e hit h = record {
  among = first_in s ss;
  passes = hit;
  least = λ t among passes. elim (in_cases s t ss among) [
    | inl same ↦ let f : s.turn ≡ t.turn = ap (λ (z : Span). z.turn) same in omega arith
    | inr rest ↦ absurd (both_ways _ (earliest_none test ss e t rest) passes)
  ];
}
earliest_first test s ss (Some t) e hit h = elim (cases_Bool (ltb t.turn s.turn)) [
  | inl less ↦ rw less
      (record {
        among = later_in s t ss (h t refl).among;
        passes = (h t refl).passes;
        least = λ u among passes. elim (in_cases s u ss among) [
          | inl same ↦ let f : s.turn ≡ u.turn = ap (λ (z : Span). z.turn) same in let g = ltb-true _ _ less in omega arith
          | inr rest ↦ (h t refl).least u rest passes
        ];
      })
  | inr more ↦ rw more
      (record {
        among = first_in s ss;
        passes = hit;
        least = λ u among passes. elim (in_cases s u ss among) [
          | inl same ↦ let f : s.turn ≡ u.turn = ap (λ (z : Span). z.turn) same in omega arith
          | inr rest ↦ let k = (h t refl).least u rest passes in let g = ltb-false _ _ more in omega arith
        ];
      })
]

pub earliest_is : (test : Span → Bool) (ss : List Span) (s : Span) → earliest test ss ≡ Some s → IsEarliest test ss s
earliest_is test [] s e = absurd (not_some s e)
earliest_is test (t ∷ ss) s e = elim (cases_Bool (test t)) [
  | inl hit ↦ subst (λ z. IsEarliest test (t ∷ ss) z) (of_some _ s (rw hit at e))
      (earliest_first test t ss (earliest test ss) refl hit (λ u k. earliest_is test ss u k))
  | inr miss ↦
      let rest = earliest_is test ss s (rw miss at e) in
      record {
        among = later_in t s ss rest.among;
        passes = rest.passes;
        least = λ u among passes. elim (in_cases t u ss among) [
          | inl same ↦ absurd (both_ways _ (subst (λ z. test z ≡ false) same miss) passes)
          | inr old ↦ rest.least u old passes
        ];
      }
]
