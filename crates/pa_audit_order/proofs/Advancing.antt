-- The places that come to the stack of a walk.
use Rattle.std.proofs.Common.{◌≡◌, ℕ, ◌+◌, ◌<◌, ◌≤◌, List, [], ◌∷◌, ◌++◌, get_or, length, Option, Some, None, refl, sym, ◌∙◌, ap, subst, arith, inl, inr}
use Rattle.std.specs.Prelude.{slice_get, Contains, IfSome}
use Rattle.std.proofs.lemmas.Bool.{cases_lt}
use Rattle.std.proofs.lemmas.List.{length-append, length_push}
use Rattle.std.proofs.lemmas.List.Elements.{Contains-append_left, Contains-append_cases, Contains-push, Contains-push_cases}
use Rattle.std.proofs.lemmas.Option.{slice_get_within}
use Rattle.pa_record.specs.declared.history.CellEntry.{CellEntry}
use Rattle.pa_lists.proofs.Members.{of_some, not_in_none, in_cases}
use Rattle.pa_rules.specs.declared.played.Played.{Played}
use Rattle.pa_rules.specs.RecordDemands.{IsRecord}
use Rattle.pa_rules.specs.Seen.{HandsTo}
use Rattle.pa_lists.proofs.Indexed.{one_at, here_is}
use Rattle.pa_rules.specs.Rising.{RiseByLine}
use Rattle.pa_rules.proofs.Rising.{rises}
use Rattle.pa_audit_records.specs.Cuts.{RiseByPhase}
use Rattle.pa_audit_order.specs.Steps.{IsLastOf, ArePrevious, as_list, Adds, AddsAll, AddsSteps}

-- ---- the records of earlier phases

pub adds_none : (ps : List Played) (phase : ℕ) (old : List ℕ) (low : ℕ) → low ≤ length ps → Adds ps phase old low old low
adds_none ps phase old low within = record {
  from = omega arith;
  within = within;
  passed = λ j x least less at. absurd (omega (arith, least, less));
  kept = λ j among. among;
  here = λ j least less. absurd (omega (arith, least, less));
  only = λ j among. inl among;
  few = refl;
}

pub adds_one : (ps : List Played) (phase : ℕ) (old : List ℕ) (low : ℕ) (now : List ℕ) (high : ℕ) (d : Played) → high < length ps →
    (get_or ps high d).phase < phase → Adds ps phase old low now high
    → Adds ps phase old low (now ++ high ∷ []) (high + 1)
adds_one ps phase old low now high d below early h =
    let from = h.from in
    let few = h.few in
    let push = length_push now high in
    record {
      from = omega (arith, from);
      within = omega (arith, below);
      passed = λ j x least less at. elim (cases_lt j high) [
        | inl before ↦ h.passed j x least before at
        | inr last ↦
            let same : high ≡ j = omega (arith, less, last) in
            let one : get_or ps high d ≡ x = of_some (get_or ps high d) x (sym (here_is ps high d below) ∙ ap (slice_get ps) same ∙ at) in
            subst (λ (z : Played). z.phase < phase) one early
      ];
      kept = λ j among. Contains-append_left now (high ∷ []) j (h.kept j among);
      here = λ j least less. elim (cases_lt j high) [
        | inl before ↦ Contains-append_left now (high ∷ []) j (h.here j least before)
        | inr last ↦ let same : high ≡ j = omega (arith, less, last) in
            subst (λ z. Contains (now ++ high ∷ []) z) same (Contains-push now high)
      ];
      only = λ j among. elim (Contains-push_cases now high j among) [
        | inl before ↦ elim (h.only j before) [
          | inl there ↦ inl there
          | inr (least, less) ↦ inr (least, omega (arith, less))
        ]
        | inr same ↦ inr (omega (arith, same, from), omega (arith, same))
      ];
      few = omega (arith, few, push);
    }

pub adds_past : (ps : List Played) (phase : ℕ) (old : List ℕ) (low : ℕ) (now : List ℕ) (high : ℕ) → length ps ≤ high →
    Adds ps phase old low now high → AddsAll ps phase old low now high
adds_past ps phase old low now high end h =
    record { adds = h; stop = λ x at. absurd (let below = slice_get_within ps high x at in omega (arith, below, end)) }

pub adds_stop : (ps : List Played) (phase : ℕ) (old : List ℕ) (low : ℕ) (now : List ℕ) (high : ℕ) (d : Played) → high < length ps →
    phase ≤ (get_or ps high d).phase → Adds ps phase old low now high
    → AddsAll ps phase old low now high
adds_stop ps phase old low now high d below late h = record {
  adds = h;
  stop = λ x at. subst (λ (z : Played). phase ≤ z.phase) (of_some (get_or ps high d) x (sym (here_is ps high d below) ∙ at)) late;
}

-- ---- the steps to a record

listed_is : (o : Option ℕ) (j : ℕ) → Contains (as_list o) j → o ≡ Some j
listed_is None j among = absurd (not_in_none j among)
listed_is (Some p) j among = elim (in_cases p j [] among) [
  | inl same ↦ ap Some same
  | inr none ↦ absurd (not_in_none j none)
]

listed_in : (old : List ℕ) (o : Option ℕ) (j : ℕ) → o ≡ Some j → Contains (old ++ as_list o) j
listed_in old o j is = subst (λ z. Contains (old ++ as_list z) j) (sym is) (Contains-push old j)

listed_few : (o : Option ℕ) → length (as_list o) ≤ 1
listed_few None = omega arith
listed_few (Some p) = omega arith

-- the last of a thread is one
last_one : (ps : List Played) (t k j : ℕ) (o : Option ℕ) → IsLastOf ps t k o → IsLastOf ps t k (Some j) → o ≡ Some j
last_one ps t k j None none (x, at, below, of, last) = absurd (none j x below at of)
last_one ps t k j (Some p) (x, at, below, of, last) (y, at', below', of', last') = elim (cases_lt p j) [
  | inl less ↦ absurd (last j y less below' at' of')
  | inr most ↦ elim (cases_lt j p) [
    | inl less ↦ absurd (last' p x less below at of)
    | inr least ↦ let same : p ≡ j = omega (arith, most, least) in ap Some same
  ]
]

-- phases don't fall
phases_rise : (ps : List Played) (i j : ℕ) (x y : Played) → RiseByPhase ps → IsRecord ps i x → IsRecord ps j y → i < j → x.phase ≤ y.phase
phases_rise ps i j x y never at at' less =
    let below = slice_get_within ps i x at in
    let below' = slice_get_within ps j y at' in
    let both : (get_or ps i x).phase ≤ (get_or ps j x).phase = never i j x less below' in
    let one = ap (λ (z : Played). z.phase) (of_some (get_or ps i x) x (sym (here_is ps i x below) ∙ at)) in
    let two = ap (λ (z : Played). z.phase) (of_some (get_or ps j x) y (sym (here_is ps j x below') ∙ at')) in
    omega (arith, both, one, two)

pub steps_added : (cells : ℕ → List CellEntry) (ps : List Played) (table : List (Option ℕ)) (i : ℕ) (d : Played) (prev giver : Option ℕ)
    (old s1 s2 new : List ℕ) (low high : ℕ)
    → RiseByLine ps → RiseByPhase ps
    → ArePrevious ps table (length ps) → i < length ps → slice_get table i ≡ Some prev →
    IfSome giver (λ j. (x : Played) × IsRecord ps j x × HandsTo cells x (get_or ps i d))
    → ((j : ℕ) (x : Played) → IsRecord ps j x → HandsTo cells x (get_or ps i d) → giver ≡ Some j) →
    s1 ≡ old ++ as_list prev → s2 ≡ s1 ++ as_list giver
    → AddsAll ps (get_or ps i d).phase s2 low new high → AddsSteps cells ps i old low new high
steps_added cells ps table i d prev giver old s1 s2 new low high rising never tables below is some all first second h =
    let told = get_or ps i d in
    let here = here_is ps i d below in
    let last = tables.last i told prev is here in
    let in1 : (j : ℕ) → Contains s1 j → Contains new j =
    λ j among. h.adds.kept j (subst (λ zs. Contains zs j) (sym second) (Contains-append_left s1 (as_list giver) j among)) in
    record {
      previous = λ j y at is_last.
          let same : told ≡ y = one_at ps i told y here at in
          let mine : prev ≡ Some j =
          last_one ps told.thread i j prev last (subst (λ (z : Played). IsLastOf ps z.thread i (Some j)) (sym same) is_last) in
          in1 j (subst (λ zs. Contains zs j) (sym first) (listed_in old prev j mine));
      giver = λ j x y at at' hands.
          let same : y ≡ told = one_at ps i y told at' here in
          let mine = all j x at (subst (HandsTo cells x) same hands) in
          h.adds.kept j (subst (λ zs. Contains zs j) (sym second) (listed_in s1 giver j mine));
      phases = λ j x y at at' less. elim (cases_lt j high) [
        | inl early ↦ early
        | inr late ↦
            let same : y ≡ told = one_at ps i y told at' here in
            let phase = ap (λ (z : Played). z.phase) same in
            let there = slice_get_within ps j x at in
            let stop : told.phase ≤ x.phase = elim (cases_lt high j) [
              | inl before ↦
                  let within : high < length ps = omega (arith, before, there) in
                  let a = h.stop (get_or ps high d) (here_is ps high d within) in
                  let b = phases_rise ps high j (get_or ps high d) x never (here_is ps high d within) at before in
                  omega (arith, a, b)
              | inr most ↦ let e : j ≡ high = omega (arith, late, most) in h.stop x (ap (slice_get ps) (sym e) ∙ at)
            ] in
            absurd (omega (arith, stop, less, phase))
      ];
      floor = λ j less. elim (cases_lt j low) [
        | inl early ↦ inl early
        | inr late ↦ inr (h.adds.here j late less)
      ];
      within = h.adds.within;
      only = λ j among. elim (h.adds.only j among) [
        | inl in2 ↦ elim (Contains-append_cases s1 (as_list giver) j (subst (λ zs. Contains zs j) second in2)) [
          | inl one ↦ elim (Contains-append_cases old (as_list prev) j (subst (λ zs. Contains zs j) first one)) [
            | inl before ↦ inl before
            | inr mine ↦
                let (x, at, less, of, none) = subst (IsLastOf ps told.thread i) (listed_is prev j mine) last in
                inr (x, told, at, here, inl (inl (of, rises ps j i x told rising at here less)))
          ]
          | inr mine ↦
              let (x, at, hands) =
              subst (λ o. IfSome o (λ k. (x : Played) × IsRecord ps k x × HandsTo cells x told)) (listed_is giver j mine) some in
              inr (x, told, at, here, inr hands)
        ]
        | inr (least, less) ↦
            let within = h.adds.within in
            let there : j < length ps = omega (arith, less, within) in
            inr (
              get_or ps j d,
              told,
              here_is ps j d there,
              here,
              inl (inr (h.adds.passed j (get_or ps j d) least less (here_is ps j d there))),
            )
      ];
      kept = λ j among. in1 j (subst (λ zs. Contains zs j) (sym first) (Contains-append_left old (as_list prev) j among));
      few =
          let a = listed_few prev in
          let b = listed_few giver in
          let c = ap length first ∙ length-append old (as_list prev) in
          let e = ap length second ∙ length-append s1 (as_list giver) in
          let f = h.adds.few in
          let from = h.adds.from in
          (from, omega (arith, a, b, c, e, f));
    }
