-- The exchanges of the cells, from what the walk over them knows.
use Rattle.std.proofs.Common.{◌≡◌, ℕ, zero, suc, ◌+◌, ◌<◌, ◌≤◌, ◌⊎◌, List, [], ◌∷◌, get_or, length, Option, Some, None, IsSome, refl, sym, ◌∙◌, ap, subst, arith, inl, inr, add-one}
use Rattle.std.specs.Prelude.{slice_get, Contains}
use Rattle.std.specs.Option.{unwrap_or}
use Rattle.std.proofs.lemmas.Bool.{cases_lt, cases_eq, false≢true}
use Rattle.pa_trace.specs.declared.script.Op.{Op}
use Rattle.pa_trace.specs.declared.script.Op.TheVariants.{Swap}
use Rattle.pa_record.specs.declared.entry.Answer.{Answer}
use Rattle.pa_record.specs.declared.history.CellEntry.{CellEntry}
use Rattle.pa_record.specs.declared.history.Held.{Held}
use Rattle.pa_record.specs.declared.history.Held.TheVariants.{Nothing}
use Rattle.pa_lists.proofs.Members.{of_some, not_some}
use Rattle.pa_rules.specs.declared.played.Played.{Played}
use Rattle.pa_rules.specs.declared.verdict.Place.TheVariants as places
use Rattle.pa_rules.specs.Cells.{IsExchange, history_at}
use Rattle.pa_rules.specs.Order.{StandsBefore}
use Rattle.pa_rules.specs.RecordDemands.{IsAbove, WasGiven, ExchangeFits, CellsDemand}
use Rattle.pa_rules.proofs.ByLines.{same_record}
use Rattle.pa_lists.proofs.Indexed.{map_at, at_map, one_at, none_past, here_is}
use Rattle.pa_audit_records.specs.Exchanges.{NamesExchange, SwapFits, IsSwapOf, TellsPair, AreLinesKnown, IsEarlier, HasLatest, IsRecordOfSwap, FitsNow}
use Rattle.pa_rules.specs.Rising.{RiseByLine}
use Rattle.pa_rules.specs.Tells.{TellsFirst}
use Rattle.pa_audit_records.specs.Tables.{Puts}
use Rattle.pa_audit_records.specs.Seeking.{IsOnLine}
use Rattle.pa_audit_records.proofs.Seeking.{line_is}
use Rattle.pa_audit_records.proofs.Stepping.{records_differ}
use Rattle.pa_lists.proofs.Tests.{met_more}

-- ---- the records

swap_asked : (cells : ℕ → List CellEntry) (op : Op) (answer : Answer) (line k reg : ℕ) → SwapFits cells op answer line → op ≡ Swap k reg →
    NamesExchange (cells k) answer line
swap_asked cells op answer line k reg fits is = subst (λ o. SwapFits cells o answer line) is fits

pub swap_met : (cells : ℕ → List CellEntry) (ps : List Played) (i : ℕ) (d : Played) → i < length ps
    → SwapFits cells (get_or ps i d).op (get_or ps i d).answer (get_or ps i d).line → CellsDemand cells ps (places.Record i)
swap_met cells ps i d below fits x k reg at op =
    let same : get_or ps i d ≡ x = of_some (get_or ps i d) x (sym (here_is ps i d below) ∙ at) in
    swap_asked cells x.op x.answer x.line k reg (subst (λ (z : Played). SwapFits cells z.op z.answer z.line) same fits) op

swap_gives : (cells : ℕ → List CellEntry) (op : Op) (answer : Answer) (line : ℕ) →
    ((k reg : ℕ) → op ≡ Swap k reg → NamesExchange (cells k) answer line) → SwapFits cells op answer line
swap_gives cells (Swap k reg) answer line h = h k reg refl
swap_gives cells op answer line h = tt

pub swap_fits : (cells : ℕ → List CellEntry) (ps : List Played) (i : ℕ) (d : Played) → i < length ps
    → CellsDemand cells ps (places.Record i) → SwapFits cells (get_or ps i d).op (get_or ps i d).answer (get_or ps i d).line
swap_fits cells ps i d below asks =
    let x = get_or ps i d in
    swap_gives cells x.op x.answer x.line (λ k reg op. asks x k reg (here_is ps i d below) op)

-- ---- one exchange

-- records of one line are one
pub one_line : (ps : List Played) (x y : Played) → RiseByLine ps → Contains ps x → Contains ps y → x.line ≡ y.line → x ≡ y
one_line ps x y rising among among' same = same_record ps x y (records_differ ps rising) among among' same

pub given_one : (es : List CellEntry) (j : ℕ) (a b : Held) → WasGiven es j a → WasGiven es j b → a ≡ b
given_one es zero a b h k = h ∙ sym k
given_one es (suc i) a b (e, at, is) (f, at', is') = is ∙ ap (λ (z : CellEntry). z.gave) (of_some e f (sym at ∙ at')) ∙ sym is'

none_or_some : (o : Option ℕ) → (o ≡ None) ⊎ IsSome o
none_or_some None = inl refl
none_or_some (Some n) = inr refl

pub exchange_fits : (cells : ℕ → List CellEntry) (ps : List Played) (known last : ℕ → Option ℕ) (phase : ℕ) (given : Held) (k j : ℕ)
    (e : CellEntry) (x : Played) → RiseByLine ps → AreLinesKnown cells known k j
    → HasLatest ps (cells k) j last phase → WasGiven (cells k) j given → IsExchange cells k j e → IsRecordOfSwap ps k e x →
    FitsNow known last phase given e x → ExchangeFits cells ps k j e
exchange_fits cells ps known last phase given k j e x rising lines latest was here (among, line, (reg, op)) (found, fresh, behind, later) =
    record {
      found = subst (WasGiven (cells k) j) (sym found) was;
      line = (x, reg, (among, line), op);
      once = λ l i f at above same. false≢true
          (subst (λ z. IsSome z) fresh (subst (λ n. IsSome (known n)) same (lines.whole l i f at above)));
      order = λ i m n a b at at' less among' is among'' is' before.
          let (g, there, is-g) = map_at (λ (f : CellEntry). f.line) (cells k) i m at in
          let (f, there', is-f) = map_at (λ (f : CellEntry). f.line) (cells k) j n at' in
          let one : e ≡ f = one_at (cells k) j e f here there' in
          let two : b ≡ x = one_line ps b x rising among'' among (is' ∙ sym is-f ∙ ap (λ (z : CellEntry). z.line) (sym one) ∙ sym line) in
          let early : IsEarlier ps (cells k) j a = (i, g, less, there, among', is ∙ sym is-g) in
          stands a early (subst (λ z. StandsBefore z a) two before);
    }
  where
    stands : (a : Played) → IsEarlier ps (cells k) j a → StandsBefore x a → ⊥
    stands a early (inl (thread, less)) =
        let (l, is, most) = latest.lines a early in
        let low : unwrap_or (last x.thread) 0 ≡ l = ap (λ t. unwrap_or (last t) 0) thread ∙ ap (λ o. unwrap_or o 0) is in
        omega (arith, less, most, low, behind)
    stands a early (inr less) = let most = latest.phases a early in omega (arith, less, most, later)

pub fits_exchange : (cells : ℕ → List CellEntry) (ps : List Played) (known last : ℕ → Option ℕ) (phase : ℕ) (given : Held) (k j : ℕ)
    (e : CellEntry) → AreLinesKnown cells known k j → HasLatest ps (cells k) j last phase
    → WasGiven (cells k) j given → IsExchange cells k j e → ExchangeFits cells ps k j e →
    (x : Played) × IsRecordOfSwap ps k e x × FitsNow known last phase given e x
fits_exchange cells ps known last phase given k j e lines latest was here h =
    let (x, reg, (among, line), op) = h.line in (
      x,
      (among, line, (reg, op)),
      (
        given_one (cells k) j e.found given h.found was,
        fresh (none_or_some (known e.line)),
        behind x among line (last x.thread) refl,
        later x among line latest.phase_of,
      ),
    )
  where
    f : CellEntry → ℕ
    f z = z.line

    -- no record of an exchange so far comes after that of this one
    stands : (x y : Played) → Contains ps x → x.line ≡ e.line → IsEarlier ps (cells k) j y → StandsBefore x y → ⊥
    stands x y among line (i, g, less, at, among', line') before =
        h.order i g.line e.line y x (at_map f (cells k) i g at) (at_map f (cells k) j e here) less among' line' among line before

    fresh : (known e.line ≡ None) ⊎ IsSome (known e.line) → known e.line ≡ None
    fresh (inl none) = none
    fresh (inr some) = let (l, i, g, at, above, same) = lines.only e.line some in absurd (h.once l i g at above same)

    behind : (x : Played) → Contains ps x → x.line ≡ e.line → (o : Option ℕ) → last x.thread ≡ o → unwrap_or (last x.thread) 0 ≤ x.line
    behind x among line None is = let low : unwrap_or (last x.thread) 0 ≡ 0 = ap (λ o. unwrap_or o 0) is in omega (arith, low)
    behind x among line (Some l) is =
        let low : unwrap_or (last x.thread) 0 ≡ l = ap (λ o. unwrap_or o 0) is in
        let (y, early, thread, mine) = latest.line x.thread l is in
        elim (cases_lt x.line l) [
          | inl less ↦ absurd (stands x y among line early (inl (sym thread, omega (arith, less, mine))))
          | inr most ↦ omega (arith, most, low)
        ]

    later : (x : Played) → Contains ps x → x.line ≡ e.line →
        (phase ≡ 0) ⊎ ((y : Played) × IsEarlier ps (cells k) j y × (y.phase ≡ phase)) → phase ≤ x.phase
    later x among line (inl none) = omega (arith, none)
    later x among line (inr (y, early, mine)) = elim (cases_lt x.phase phase) [
      | inl less ↦ absurd (stands x y among line early (inr (omega (arith, less, mine))))
      | inr most ↦ most
    ]

-- ---- the walk along a cell

earlier_on : (ps : List Played) (es : List CellEntry) (j : ℕ) (x : Played) → IsEarlier ps es j x → IsEarlier ps es (j + 1) x
earlier_on ps es j x (i, e, less, at, among, line) = (i, e, omega (arith, less), at, among, line)

-- the record of an exchange so far is that of one before, or of the last
earlier_cases : (ps : List Played) (es : List CellEntry) (j : ℕ) (e : CellEntry) (x y : Played) → RiseByLine ps → slice_get es j ≡ Some e
    → Contains ps x → x.line ≡ e.line → IsEarlier ps es (j + 1) y → IsEarlier ps es j y ⊎ (y ≡ x)
earlier_cases ps es j e x y rising here among line (i, g, less, at, among', line') = elim (cases_lt i j) [
  | inl early ↦ inl (i, g, early, at, among', line')
  | inr late ↦
      let same : i ≡ j = omega (arith, less, late) in
      let one : g ≡ e = of_some g e (sym at ∙ ap (slice_get es) same ∙ here) in
      inr (one_line ps y x rising among' among (line' ∙ ap (λ (z : CellEntry). z.line) one ∙ sym line))
]

latest_more : (ps : List Played) (es : List CellEntry) (j : ℕ) (e : CellEntry) (x : Played) (f g : ℕ → Option ℕ) (phase : ℕ) →
    RiseByLine ps → slice_get es j ≡ Some e → Contains ps x → x.line ≡ e.line
    → unwrap_or (f x.thread) 0 ≤ x.line → phase ≤ x.phase → Puts f g x.thread x.line → HasLatest ps es j f phase →
    HasLatest ps es (j + 1) g x.phase
latest_more ps es j e x f g phase rising here among line behind later puts h = record {
  lines = λ y early. elim (earlier_cases ps es j e x y rising here among line early) [
    | inl before ↦
        let (l, is, most) = h.lines y before in
        elim (cases_eq y.thread x.thread) [
          | inl same ↦
              let low : unwrap_or (f x.thread) 0 ≡ l = ap (λ t. unwrap_or (f t) 0) (sym same) ∙ ap (λ o. unwrap_or o 0) is in
              (x.line, ap g same ∙ puts.here, omega (arith, most, low, behind))
          | inr other ↦ (l, puts.other y.thread other ∙ is, most)
        ]
    | inr same ↦
        let thread = ap (λ (z : Played). z.thread) same in
        let mine = ap (λ (z : Played). z.line) same in
        (x.line, ap g thread ∙ puts.here, omega (arith, mine))
  ];
  phases = λ y early. elim (earlier_cases ps es j e x y rising here among line early) [
    | inl before ↦ let most = h.phases y before in omega (arith, most, later)
    | inr same ↦ let mine = ap (λ (z : Played). z.phase) same in omega (arith, mine)
  ];
  line = λ t l is. elim (cases_eq t x.thread) [
    | inl same ↦ (x, (j, e, omega arith, here, among, line), sym same, of_some x.line l (sym puts.here ∙ ap g (sym same) ∙ is))
    | inr other ↦
        let (y, early, thread, mine) = h.line t l (sym (puts.other t other) ∙ is) in
        (y, earlier_on ps es j y early, thread, mine)
  ];
  phase_of = inr (x, (j, e, omega arith, here, among, line), refl);
}

known_more : (cells : ℕ → List CellEntry) (f g : ℕ → Option ℕ) (k j v : ℕ) (e : CellEntry) → IsExchange cells k j e → Puts f g e.line v →
    AreLinesKnown cells f k j → AreLinesKnown cells g k (j + 1)
known_more cells f g k j v e here puts h = record {
  whole = λ l i d at above. go l i d at above;
  only = λ n some. elim (cases_eq n e.line) [
    | inl same ↦ (k, j, e, here, inr (refl, omega arith), sym same)
    | inr other ↦
        let (l, i, d, at, above, line) = h.only n (subst (λ z. IsSome z) (puts.other n other) some) in
        (l, i, d, at, wider l i above, line)
  ];
}
  where
    wider : (l i : ℕ) → IsAbove l i k j → IsAbove l i k (j + 1)
    wider l i (inl less) = inl less
    wider l i (inr (same, less)) = inr (same, omega (arith, less))

    stays : (n : ℕ) → IsSome (f n) → IsSome (g n)
    stays n some = elim (cases_eq n e.line) [
      | inl same ↦ subst (λ z. IsSome z) (sym (ap g same ∙ puts.here)) refl
      | inr other ↦ subst (λ z. IsSome z) (sym (puts.other n other)) some
    ]

    go : (l i : ℕ) (d : CellEntry) → IsExchange cells l i d → IsAbove l i k (j + 1) → IsSome (g d.line)
    go l i d at (inl less) = stays d.line (h.whole l i d at (inl less))
    go l i d at (inr (same, less)) = elim (cases_lt i j) [
      | inl early ↦ stays d.line (h.whole l i d at (inr (same, early)))
      | inr late ↦
          let place : i ≡ j = omega (arith, less, late) in
          let one : d ≡ e = of_some d e (sym at ∙ ap (λ z. slice_get (cells z) i) same ∙ ap (slice_get (cells k)) place ∙ here) in
          subst (λ z. IsSome z) (sym (ap (λ (z : CellEntry). g z.line) one ∙ puts.here)) refl
    ]

-- What is known along cell k, before its exchange j.
pub record CellSoFar (cells : ℕ → List CellEntry) (ps : List Played) (known last : ℕ → Option ℕ) (phase : ℕ) (given : Held)
    (k j : ℕ) : Type 0 where
  pub met : (i : ℕ) → i < j → CellsDemand cells ps (places.Cell k i)
  pub lines : AreLinesKnown cells known k j
  pub latest : HasLatest ps (cells k) j last phase
  pub was : WasGiven (cells k) j given

pub cell_start : (cells : ℕ → List CellEntry) (ps : List Played) (known last : ℕ → Option ℕ) (k : ℕ) → AreLinesKnown cells known k 0
    → ((q : ℕ) → last q ≡ None) → CellSoFar cells ps known last 0 Nothing k 0
cell_start cells ps known last k lines none = record {
  met = λ i less. absurd (omega (arith, less));
  lines = lines;
  latest = record {
    lines = λ x (i, e, less, at, among, line). absurd (omega (arith, less));
    phases = λ x (i, e, less, at, among, line). absurd (omega (arith, less));
    line = λ t l is. absurd (not_some l (sym (none t) ∙ is));
    phase_of = inl refl;
  };
  was = refl;
}

pub cell_more : (cells : ℕ → List CellEntry) (ps : List Played) (known known' last last' : ℕ → Option ℕ) (phase v : ℕ) (given : Held)
    (k j : ℕ) (e : CellEntry) (x : Played) → RiseByLine ps
    → CellSoFar cells ps known last phase given k j → IsExchange cells k j e → IsRecordOfSwap ps k e x
    → FitsNow known last phase given e x → Puts known known' e.line v → Puts last last' x.thread x.line
    → CellSoFar cells ps known' last' x.phase e.gave k (j + 1)
cell_more cells ps known known' last last' phase v given k j e x rising h here taken fits put put' =
    let (among, line, swap) = taken in
    let (found, fresh, behind, later) = fits in
    record {
      met = met_more (λ i. CellsDemand cells ps (places.Cell k i)) j h.met
          (λ f at. let one : e ≡ f = of_some e f (sym here ∙ at) in subst (ExchangeFits cells ps k j) one
          (exchange_fits cells ps known last phase given k j e x rising h.lines h.latest h.was here taken fits));
      lines = known_more cells known known' k j v e here put h.lines;
      latest = latest_more ps (cells k) j e x last last' phase rising here among line behind later put' h.latest;
      was = rw add-one (e, here, refl);
    }

pub cell_not : (cells : ℕ → List CellEntry) (ps : List Played) (known last : ℕ → Option ℕ) (phase : ℕ) (given : Held) (k j : ℕ)
    (e : CellEntry) → CellSoFar cells ps known last phase given k j → IsExchange cells k j e
    → ((x : Played) → IsRecordOfSwap ps k e x → FitsNow known last phase given e x → ⊥) → CellsDemand cells ps (places.Cell k j) → ⊥
cell_not cells ps known last phase given k j e h here none asks =
    let (x, taken, fits) = fits_exchange cells ps known last phase given k j e h.lines h.latest h.was here (asks e here) in
    none x taken fits

-- at the end of the cell its lines are known
pub cell_end : (cells : ℕ → List CellEntry) (known : ℕ → Option ℕ) (k n : ℕ) → length (cells k) ≤ n → AreLinesKnown cells known k n →
    AreLinesKnown cells known (k + 1) 0
cell_end cells known k n end h = record {
  whole = λ l i f at above. h.whole l i f at (back l i f at above);
  only = λ m some. let (l, i, f, at, above, line) = h.only m some in (l, i, f, at, on l i above, line);
}
  where
    on : (l i : ℕ) → IsAbove l i k n → IsAbove l i (k + 1) 0
    on l i (inl less) = inl (omega (arith, less))
    on l i (inr (same, less)) = inl (omega (arith, same))

    back : (l i : ℕ) (f : CellEntry) → IsExchange cells l i f → IsAbove l i (k + 1) 0 → IsAbove l i k n
    back l i f at (inr (same, less)) = absurd (omega (arith, less))
    back l i f at (inl less) = elim (cases_lt l k) [
      | inl early ↦ inl early
      | inr late ↦
          let same : l ≡ k = omega (arith, less, late) in
          elim (cases_lt i n) [
            | inl inside ↦ inr (same, inside)
            | inr outside ↦ absurd (none_past (cells k) i f (omega (arith, end, outside)) (ap (λ z. slice_get (cells z) i) (sym same) ∙ at))
          ]
    ]

pub known_none : (cells : ℕ → List CellEntry) (known : ℕ → Option ℕ) → ((q : ℕ) → known q ≡ None) → AreLinesKnown cells known 0 0
known_none cells known none = record {
  whole = λ l i f at above. absurd (nothing l i above);
  only = λ n some. absurd (false≢true (subst (λ z. IsSome z) (none n) some));
}
  where
    nothing : (l i : ℕ) → IsAbove l i 0 0 → ⊥
    nothing l i (inl less) = omega (arith, less)
    nothing l i (inr (same, less)) = omega (arith, less)

-- ---- the record of a line

-- no other record of the line exchanges with the cell
pub swap_none : (ps : List Played) (n i k : ℕ) (d x : Played) → RiseByLine ps → IsOnLine ps n i → (IsSwapOf k (get_or ps i d).op → ⊥) →
    Contains ps x → x.line ≡ n → IsSwapOf k x.op → ⊥
swap_none ps n i k d x rising on none among line swap =
    let (mine, is) = line_is ps n i d on in
    none (subst (λ (z : Played). IsSwapOf k z.op) (one_line ps x (get_or ps i d) rising among mine (line ∙ sym is)) swap)

pub taken_none : (ps : List Played) (known last : ℕ → Option ℕ) (phase : ℕ) (given : Held) (k : ℕ) (e : CellEntry) (told x : Played)
    → RiseByLine ps → IsRecordOfSwap ps k e told → (FitsNow known last phase given e told → ⊥)
    → IsRecordOfSwap ps k e x → FitsNow known last phase given e x → ⊥
taken_none ps known last phase given k e told x rising (among, line, swap) none (among', line', swap') fits =
    none (subst (FitsNow known last phase given e) (one_line ps x told rising among' among (line' ∙ sym line)) fits)

-- ---- the histories in their list

pub history_is : (cells : List (List CellEntry)) (k : ℕ) (es : List CellEntry) → k < length cells →
    es ≡ get_or cells k es → es ≡ history_at cells k
history_is [] k es below is = absurd (omega (arith, below))
history_is (x ∷ xs) zero es below is = is
history_is (x ∷ xs) (suc k) es below is = history_is xs k es (omega (arith, below)) is

pub history_past : (cells : List (List CellEntry)) (k j : ℕ) (e : CellEntry) → length cells ≤ k → IsExchange (history_at cells) k j e → ⊥
history_past [] k j e end at = not_some e at
history_past (x ∷ xs) zero j e end at = omega (arith, end)
history_past (x ∷ xs) (suc k) j e end at = history_past xs k j e (omega (arith, end)) at

pub exchange_here : (cells : List (List CellEntry)) (k j : ℕ) (es : List CellEntry) (d : CellEntry) → es ≡ history_at cells k →
    j < length es → IsExchange (history_at cells) k j (get_or es j d)
exchange_here cells k j es d same below = subst (λ zs. slice_get zs j ≡ Some (get_or es j d)) same (here_is es j d below)

-- ---- the walk over the cells

pub pair_at : (P : ℕ → ℕ → Type 0) (k j : ℕ) (o : Option ℕ) → o ≡ Some j → ((l i : ℕ) → l < k → P l i) →
    TellsFirst (P k) o → TellsPair P (Some (k, j))
pair_at P k j o is met tells =
    let (unmet, before) = subst (TellsFirst (P k)) is tells in
    (unmet, λ l i above. go before l i above)
  where
    go : ((i : ℕ) → i < j → P k i) → (l i : ℕ) → IsAbove l i k j → P l i
    go before l i (inl less) = met l i less
    go before l i (inr (same, less)) = subst (λ z. P z i) (sym same) (before i less)

pub cells_more : (P : ℕ → ℕ → Type 0) (k : ℕ) (o : Option ℕ) → o ≡ None → ((l i : ℕ) → l < k → P l i) →
    TellsFirst (P k) o → (l i : ℕ) → l < k + 1 → P l i
cells_more P k o none met tells l i less = elim (cases_lt l k) [
  | inl early ↦ met l i early
  | inr late ↦
      let same : k ≡ l = omega (arith, less, late) in
      let all : (j : ℕ) → P k j = subst (TellsFirst (P k)) none tells in
      subst (λ z. P z i) same (all i)
]

pub cells_all : (P : ℕ → ℕ → Type 0) (n k : ℕ) → n ≤ k → ((l i : ℕ) → l < k → P l i) → ((l i : ℕ) → n ≤ l → P l i) → (l i : ℕ) → P l i
cells_all P n k end met past l i = elim (cases_lt l k) [
  | inl less ↦ met l i less
  | inr most ↦ past l i (omega (arith, end, most))
]
