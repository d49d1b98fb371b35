-- The titles that are there in a root, as a list; and those of one list that another hasn't, each once.
use Rattle.std.proofs.Common.{List, [], ◌∷◌, ◌++◌, map, flat_map, sym, subst, arith, ◌⊎◌, inl, inr}
use Rattle.std.specs.Prelude.{Contains}
use Rattle.std.proofs.lemmas.List.Elements.{Contains-append_left, Contains-append_right, Contains-append_cases}
use Rattle.pa_slot.specs.declared.title.Title.{Title}
use Rattle.pa_slot.proofs.Same.{title_tells}
use Rattle.pa_record.specs.Spans.{Span, title_at}
use Rattle.pa_record.specs.Root.{Root}
use Rattle.pa_lists.proofs.Members.{not_in_none, first_in, later_in, in_cases}
use Rattle.pa_lists.proofs.Joined.{map_in, map_cases, flat_in, flat_cases}
use Rattle.pa_lists.proofs.Different.{numbers_in, numbers_has}
use Rattle.pa_heap_effects.specs.Shared.{IsThere}
use Rattle.pa_core_run.specs.Moves.{StandOnce}
use Rattle.pa_lists.specs.Numbers.{numbers}

-- ---- the titles of a root

abbrev made_in : Span → List Title
made_in s = map (title_at s) (numbers 0 s.made)

abbrev pub all_there : Root → List Title
all_there r = flat_map made_in r.spans ++ r.maps

pub listed_there : (r : Root) (t : Title) → IsThere r t → Contains (all_there r) t
listed_there r t (inl (s, among, number, below, is)) =
    Contains-append_left (flat_map made_in r.spans) r.maps t
    (flat_in made_in r.spans s t among
    (subst (λ u. Contains (made_in s) u) (sym is)
    (map_in (title_at s) (numbers 0 s.made) number (numbers_has 0 s.made number (omega arith) (omega arith)))))
listed_there r t (inr mapped) = Contains-append_right (flat_map made_in r.spans) r.maps t mapped

pub there_listed : (r : Root) (t : Title) → Contains (all_there r) t → IsThere r t
there_listed r t among = elim (Contains-append_cases (flat_map made_in r.spans) r.maps t among) [
  | inl made ↦
      let (s, member, here) = flat_cases made_in r.spans t made in
      let (number, listed, is) = map_cases (title_at s) (numbers 0 s.made) t here in
      let (low, high) = numbers_in 0 s.made number listed in
      inl (s, member, number, omega arith, sym is)
  | inr mapped ↦ inr mapped
]

-- ---- what one list has and another hasn't

member : (ts : List Title) (t : Title) → Contains ts t ⊎ (Contains ts t → ⊥)
member [] t = inr (λ among. not_in_none t among)
member (x ∷ ts) t = elim (title_tells x t) [
  | inl y ↦ inl (subst (λ (u : Title). Contains (x ∷ ts) u) y.1 (first_in x ts))
  | inr n ↦ elim (member ts t) [
    | inl rest ↦ inl (later_in x t ts rest)
    | inr none ↦ inr (λ among. elim (in_cases x t ts among) [ inl same ↦ n.1 same | inr rest ↦ none rest ])
  ]
]

-- the titles of xs that ys hasn't, each once
pub record AreFresh (xs ys fresh : List Title) : Type 0 where
  pub each : (t : Title) → Contains fresh t → Contains xs t × (Contains ys t → ⊥)
  pub all : (t : Title) → Contains xs t → Contains ys t ⊎ Contains fresh t
  pub once : StandOnce fresh

pub fresh_of : (xs ys : List Title) → (fresh : List Title) × AreFresh xs ys fresh
fresh_of [] ys = ([], record { each = λ t among. absurd (not_in_none t among); all = λ t among. absurd (not_in_none t among); once = tt })
fresh_of (x ∷ xs) ys =
    let (fresh, f) = fresh_of xs ys in
    elim (member ys x) [
      | inl old ↦ (fresh, leave fresh f (inl old))
      | inr new ↦ elim (member fresh x) [
        | inl there ↦ (fresh, leave fresh f (inr there))
        | inr none ↦ (
          x ∷ fresh,
          record {
            each = λ t among. elim (in_cases x t fresh among) [
              | inl same ↦ (
                subst (λ (u : Title). Contains (x ∷ xs) u) same (first_in x xs),
                λ old. new (subst (λ (u : Title). Contains ys u) (sym same) old),
              )
              | inr rest ↦ (later_in x t xs (f.each t rest).0, (f.each t rest).1)
            ];
            all = λ t among. elim (in_cases x t xs among) [
              | inl same ↦ inr (subst (λ (u : Title). Contains (x ∷ fresh) u) same (first_in x fresh))
              | inr rest ↦ elim (f.all t rest) [ inl old ↦ inl old | inr it ↦ inr (later_in x t fresh it) ]
            ];
            once = (none, f.once);
          },
        )
      ]
    ]
  where
    leave : (fresh : List Title) → AreFresh xs ys fresh → Contains ys x ⊎ Contains fresh x → AreFresh (x ∷ xs) ys fresh
    leave fresh f has = record {
      each = λ t among. (later_in x t xs (f.each t among).0, (f.each t among).1);
      all = λ t among. elim (in_cases x t xs among) [
        | inl same ↦ elim has [
          | inl old ↦ inl (subst (λ (u : Title). Contains ys u) same old)
          | inr there ↦
              inr (subst (λ (u : Title). Contains fresh u) same there)
        ]
        | inr rest ↦ f.all t rest
      ];
      once = f.once;
    }
