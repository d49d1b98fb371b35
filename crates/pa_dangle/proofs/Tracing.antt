-- The way of a raw_ptr back to its copy: one step of it, and that it ends before it has gone as many steps as there are records.
use Rattle.std.proofs.Common.{◌≡◌, ◌≢◌, ℕ, zero, suc, ◌+◌, ◌<◌, ◌≤◌, List, [], ◌∷◌, get_or, length, Option, Some, None, refl, sym, ◌∙◌, ap, subst, arith, inl, inr}
use Rattle.std.specs.Prelude.{Contains, AllPairs, slice_get}
use Rattle.std.proofs.lemmas.Bool.{cases_lt}
use Rattle.pa_lists.proofs.Members.{not_in_none, in_cases, of_some, not_some, has}
use Rattle.pa_lists.proofs.Indexed.{in_at, at_in, one_at, none_past, here_is, element_at}
use Rattle.pa_lists.proofs.Pairs.{pairs_none, pairs_cons}
use Rattle.pa_lists.proofs.Different.{length_is, passing_most}
use Rattle.pa_trace.specs.declared.script.Op.TheVariants as ops
use Rattle.pa_record.specs.declared.entry.Answer.TheVariants.{Swapped}
use Rattle.pa_record.specs.declared.history.CellEntry.{CellEntry}
use Rattle.pa_rules.specs.declared.played.Played.{Played}
use Rattle.pa_rules.specs.Cells.{IsExchange}
use Rattle.pa_rules.specs.RecordDemands.{IsRecord}
use Rattle.pa_rules.specs.Rising.{RiseByLine}
use Rattle.pa_rules.proofs.Rising.{rises}
use Rattle.pa_audit_records.proofs.Exchanging.{one_line}
use Rattle.pa_dangle.specs.declared.ways.Way.{Way}
use Rattle.pa_dangle.specs.declared.ways.Way.TheVariants.{Unknown, Copied, Given}
use Rattle.pa_dangle.specs.Origins.{first_register, IsLastPut, IsCopy, IsGivenBy, HasOrigin, ByCopy, ByExchange}
use Rattle.pa_dangle.specs.Ways.{IsWayBack, IsLastPutAt, IsPutFor, IsStepBack, IsWayOf, AreWays}

abbrev Cells : Type 0
Cells = ℕ → List CellEntry

before : (ps : List Played) (i j : ℕ) (x y : Played) → RiseByLine ps → IsRecord ps i x → IsRecord ps j y → x.line < y.line → i < j
before ps i j x y rising at at' less = elim (cases_lt i j) [
  | inl early ↦ early
  | inr most ↦ elim (cases_lt j i) [
    | inl late ↦ let down = rises ps j i y x rising at' at late in absurd (omega (arith, down, less))
    | inr least ↦
        let same : i ≡ j = omega (arith, most, least) in
        let one = one_at ps j x y (subst (λ k. slice_get ps k ≡ Some x) same at) at' in
        let line = ap (λ (z : Played). z.line) one in
        absurd (omega (arith, line, less))
  ]
]

-- the last put before a record is one
pub one_put : (cells : Cells) (ps : List Played) (x y z : Played) (reg : ℕ) → RiseByLine ps → IsLastPut cells ps x reg y →
    IsLastPut cells ps x reg z → y ≡ z
one_put cells ps x y z reg rising a b = elim (cases_lt y.line z.line) [
  | inl less ↦ absurd (a.last z b.among b.thread less b.before b.puts)
  | inr most ↦ elim (cases_lt z.line y.line) [
    | inl less ↦ absurd (b.last y a.among a.thread less a.before a.puts)
    | inr least ↦ one_line ps y z rising a.among b.among (omega (arith, most, least))
  ]
]

-- only one record gave what a record found
pub one_giver : (cells : Cells) (ps : List Played) (y z w : Played) → RiseByLine ps → IsGivenBy cells ps y z →
    IsGivenBy cells ps y w → z ≡ w
one_giver cells ps y z w rising a b =
    let op : ops.Swap a.cell a.reg ≡ ops.Swap b.cell b.reg = sym a.op ∙ b.op in
    let answer : Swapped (a.index + 1) ≡ Swapped (b.index + 1) = sym a.answer ∙ b.answer in
    let cell : a.cell ≡ b.cell = cc in
    let next : a.index + 1 ≡ b.index + 1 = cc in
    let index : a.index ≡ b.index = omega (arith, next) in
    let here : IsExchange cells b.cell b.index a.entry =
    subst (λ k. IsExchange cells k b.index a.entry) cell (subst (λ i. IsExchange cells a.cell i a.entry) index a.exchange) in
    let entry = one_at (cells b.cell) b.index a.entry b.entry here b.exchange in
    one_line ps z w rising a.giver b.giver (a.line ∙ ap (λ (e : CellEntry). e.line) entry ∙ sym b.line)

-- the table's entry for a register is the last put before a record
pub put_is : (cells : Cells) (ps : List Played) (k i reg : ℕ) (x : Played) → RiseByLine ps → IsRecord ps k x →
    IsLastPutAt cells ps x.thread reg k (Some i)
    → (y : Played) × IsRecord ps i y × IsLastPut cells ps x reg y
put_is cells ps k i reg x rising at (y, here, less, thread, puts, last) = (
  y,
  here,
  record {
    among = at_in ps i y here;
    thread = thread;
    before = rises ps i k y x rising here at less;
    puts = puts;
    last = λ z among of low high put.
        let (j, there) = in_at ps z among in
        last j z (before ps i j y z rising here there low) (before ps j k z x rising there at high) there of put;
  },
)

pub put_none : (cells : Cells) (ps : List Played) (k reg : ℕ) (x y : Played) → RiseByLine ps → IsRecord ps k x →
    IsLastPutAt cells ps x.thread reg k None → IsLastPut cells ps x reg y → ⊥
put_none cells ps k reg x y rising at none last =
    let (j, there) = in_at ps y last.among in
    none j y (before ps j k y x rising there at last.before) there last.thread last.puts

pub copy_not_swap : (y : Played) (k reg : ℕ) → IsCopy y → y.op ≡ ops.Swap k reg → ⊥
copy_not_swap y k reg (from, to, copy) swap = let e : ops.Copy from to ≡ ops.Swap k reg = sym copy ∙ swap in cc

-- ---- the way back from a record, by its last put

no_origin : (cells : Cells) (ps : List Played) (x y : Played) (reg line : ℕ) → RiseByLine ps → first_register x.op ≡ Some reg →
    IsLastPut cells ps x reg y → (IsCopy y → ⊥) → ((z : Played)
    → IsGivenBy cells ps y z → ⊥)
    → HasOrigin cells ps x line → ⊥
no_origin cells ps x y reg line rising first last copy given (ByCopy z other first' last' copy' is) =
    let reg' = of_some other reg (sym first' ∙ first) in
    let same = one_put cells ps x z y reg rising (subst (λ r. IsLastPut cells ps x r z) reg' last') last in
    copy (subst IsCopy same copy')
no_origin cells ps x y reg line rising first last copy given (ByExchange z w other first' last' given' rest) =
    let reg' = of_some other reg (sym first' ∙ first) in
    let same = one_put cells ps x z y reg rising (subst (λ r. IsLastPut cells ps x r z) reg' last') last in
    given w (subst (λ u. IsGivenBy cells ps u w) same given')

way_from : (cells : Cells) (ps : List Played) (x y : Played) (reg : ℕ) (w : Way) → RiseByLine ps → first_register x.op ≡ Some reg →
    IsLastPut cells ps x reg y → IsWayBack cells ps y w
    → IsWayOf cells ps x w
way_from cells ps x y reg Unknown rising first last (copy, given) =
    λ line origin. no_origin cells ps x y reg line rising first last copy given origin
way_from cells ps x y reg (Copied line) rising first last (copy, is) = ByCopy y reg first last copy is
way_from cells ps x y reg (Given i) rising first last (z, given, at) =
    (z, at, record { reg = reg; put = y; first = first; last = last; given = given })

pub place_below : {A : Type 0} (xs : List A) (i : ℕ) (x : A) → slice_get xs i ≡ Some x → i < length xs
place_below xs i x at = elim (cases_lt i (length xs)) [
  | inl less ↦ less
  | inr most ↦ absurd (none_past xs i x (omega (arith, most)) at)
]

got_is : {A : Type 0} (xs : List A) (i : ℕ) (x d : A) → slice_get xs i ≡ Some x → x ≡ get_or xs i d
got_is xs i x d at = one_at xs i x (get_or xs i d) at (here_is xs i d (place_below xs i x at))

pub way_some : (cells : Cells) (ps : List Played) (k i : ℕ) (x d : Played) (w : Way) (o : Option ℕ) → RiseByLine ps →
    IsRecord ps k x → first_register x.op ≡ o
    → IsPutFor cells ps x k o (Some i) → IsWayBack cells ps (get_or ps i d) w
    → IsWayOf cells ps x w
way_some cells ps k i x d w None rising at first none way = absurd (not_some i (sym none))
way_some cells ps k i x d w (Some reg) rising at first last way =
    let (z, there, is) = put_is cells ps k i reg x rising at last in
    way_from cells ps x (get_or ps i d) reg w rising first (subst (λ u. IsLastPut cells ps x reg u) (got_is ps i z d there) is) way

pub way_none : (cells : Cells) (ps : List Played) (k line : ℕ) (x : Played) (o : Option ℕ) → RiseByLine ps → IsRecord ps k x →
    first_register x.op ≡ o → IsPutFor cells ps x k o None
    → HasOrigin cells ps x line → ⊥
way_none cells ps k line x None rising at first none (ByCopy z other first' last' copy' is) = not_some other (sym first ∙ first')
way_none cells ps k line x None rising at first none (ByExchange z w other first' last' given' rest) = not_some other (sym first ∙ first')
way_none cells ps k line x (Some reg) rising at first none (ByCopy z other first' last' copy' is) =
    put_none cells ps k reg x z rising at none (subst (λ r. IsLastPut cells ps x r z) (of_some other reg (sym first' ∙ first)) last')
way_none cells ps k line x (Some reg) rising at first none (ByExchange z w other first' last' given' rest) =
    put_none cells ps k reg x z rising at none (subst (λ r. IsLastPut cells ps x r z) (of_some other reg (sym first' ∙ first)) last')

-- ---- one step of the way

-- the last put before a record from which a step leads back is the one of that step
step_put : (cells : Cells) (ps : List Played) (x z y : Played) (reg : ℕ) → RiseByLine ps → (step : IsStepBack cells ps x z) →
    first_register x.op ≡ Some reg → IsLastPut cells ps x reg y
    → y ≡ step.put
step_put cells ps x z y reg rising step first last =
    one_put cells ps x y step.put step.reg rising
    (subst (λ r. IsLastPut cells ps x r y) (of_some reg step.reg (sym first ∙ step.first)) last) step.last

pub step_on : (cells : Cells) (ps : List Played) (x z : Played) (line : ℕ) → RiseByLine ps → IsStepBack cells ps x z →
    HasOrigin cells ps x line → HasOrigin cells ps z line
step_on cells ps x z line rising step (ByCopy y reg first last copy is) =
    let same = step_put cells ps x z y reg rising step first last in
    absurd (copy_not_swap step.put step.given.cell step.given.reg (subst IsCopy same copy) step.given.op)
step_on cells ps x z line rising step (ByExchange y w reg first last given rest) =
    let same = step_put cells ps x z y reg rising step first last in
    let one = one_giver cells ps step.put w z rising (subst (λ u. IsGivenBy cells ps u w) same given) step.given in
    subst (λ u. HasOrigin cells ps u line) one rest

pub step_off : (cells : Cells) (ps : List Played) (x z : Played) (line : ℕ) → IsStepBack cells ps x z →
    HasOrigin cells ps z line → HasOrigin cells ps x line
step_off cells ps x z line step origin = ByExchange step.put z step.reg step.first step.last step.given origin

-- ---- a way ends

-- this many steps lead from this place to a copy
abbrev pub Ends : List Way → ℕ → ℕ → Type 0
Ends ws zero i = (line : ℕ) × (slice_get ws i ≡ Some (Copied line))
Ends ws (suc n) i = (j : ℕ) × (slice_get ws i ≡ Some (Given j)) × Ends ws n j

ends_from : (cells : Cells) (ps : List Played) (ws : List Way) → RiseByLine ps → AreWays cells ps ws (length ps) →
    (i : ℕ) (x : Played) (line : ℕ) (w : Way) → slice_get ws i ≡ Some w
    → IsRecord ps i x → HasOrigin cells ps x line
    → (n : ℕ) × Ends ws n i
ends_from cells ps ws rising ways i x line Unknown here at origin = absurd (ways.each i x Unknown here at line origin)
ends_from cells ps ws rising ways i x line (Copied l) here at origin = (0, (l, here))
ends_from cells ps ws rising ways i x line (Given j) here at (ByCopy y reg first last copy is) =
    let (z, there, step) = ways.each i x (Given j) here at in
    let same = step_put cells ps x z y reg rising step first last in
    absurd (copy_not_swap step.put step.given.cell step.given.reg (subst IsCopy same copy) step.given.op)
ends_from cells ps ws rising ways i x line (Given j) here at (ByExchange y w reg first last given rest) =
    let (z, there, step) = ways.each i x (Given j) here at in
    let same = step_put cells ps x z y reg rising step first last in
    let one = one_giver cells ps step.put w z rising (subst (λ u. IsGivenBy cells ps u w) same given) step.given in
    let long = ways.long in
    let low = place_below ps j z there in
    let (v, next) = element_at ws j (omega (arith, long, low)) in
    let (n, e) = ends_from cells ps ws rising ways j w line v next (subst (λ u. IsRecord ps j u) (sym one) there) rest in
    (suc n, (j, here, e))

pub ends_of : (cells : Cells) (ps : List Played) (ws : List Way) → RiseByLine ps → AreWays cells ps ws (length ps) →
    (i : ℕ) (x : Played) (line : ℕ) → IsRecord ps i x
    → HasOrigin cells ps x line → (n : ℕ) × Ends ws n i
ends_of cells ps ws rising ways i x line at origin =
    let long = ways.long in
    let low = place_below ps i x at in
    let (w, here) = element_at ws i (omega (arith, long, low)) in
    ends_from cells ps ws rising ways i x line w here at origin

ends_one : (ws : List Way) (m n i : ℕ) → Ends ws m i → Ends ws n i → m ≡ n
ends_one ws zero zero i a b = refl
ends_one ws zero (suc n) i (line, at) (j, at', e) = let same : Copied line ≡ Given j =
    of_some (Copied line) (Given j) (sym at ∙ at') in absurd cc
ends_one ws (suc m) zero i (j, at', e) (line, at) = let same : Copied line ≡ Given j =
    of_some (Copied line) (Given j) (sym at ∙ at') in absurd cc
ends_one ws (suc m) (suc n) i (j, at, e) (k, at', f) =
    let same : Given j ≡ Given k = of_some (Given j) (Given k) (sym at ∙ at') in
    let place : j ≡ k = cc in
    ap suc (ends_one ws m n k (subst (λ p. Ends ws m p) place e) f)

-- the places on the way
abbrev places : (ws : List Way) (n i : ℕ) → Ends ws n i → List ℕ
places ws zero i e = i ∷ []
places ws (suc n) i (j, at, e) = i ∷ places ws n j e

places_count : (ws : List Way) (n i : ℕ) (e : Ends ws n i) → length (places ws n i e) ≡ n + 1
places_count ws zero i e = refl
places_count ws (suc n) i (j, at, e) = let more = places_count ws n j e in omega (arith, more)

places_end : (ws : List Way) (n i k : ℕ) (e : Ends ws n i) → Contains (places ws n i e) k → (m : ℕ) × (m ≤ n) × Ends ws m k
places_end ws zero i k e among = elim (in_cases i k [] among) [
  | inl same ↦ (0, omega arith, subst (λ p. Ends ws zero p) same e)
  | inr none ↦ absurd (not_in_none k none)
]
places_end ws (suc n) i k (j, at, e) among = elim (in_cases i k (places ws n j e) among) [
  | inl same ↦ (suc n, omega arith, subst (λ p. Ends ws (suc n) p) same (j, at, e))
  | inr later ↦ let (m, most, f) = places_end ws n j k e later in (m, omega (arith, most), f)
]

places_differ : (ws : List Way) (n i : ℕ) (e : Ends ws n i) → AllPairs ◌≢◌ (places ws n i e)
places_differ ws zero i e = pairs_cons (λ (a b : ℕ). a ≢ b) i [] (λ k among. absurd (not_in_none k among)) (pairs_none (λ (a b : ℕ). a ≢ b))
places_differ ws (suc n) i (j, at, e) =
    pairs_cons (λ (a b : ℕ). a ≢ b) i (places ws n j e)
    (λ k among same.
    let (m, most, f) = places_end ws n j k e among in
    let one = ends_one ws (suc n) m k (subst (λ p. Ends ws (suc n) p) same (j, at, e)) f in
    omega (arith, most, one))
    (places_differ ws n j e)

ends_below : (ws : List Way) (n i : ℕ) → Ends ws n i → i < length ws
ends_below ws zero i (line, at) = place_below ws i (Copied line) at
ends_below ws (suc n) i (j, at, e) = place_below ws i (Given j) at

-- a way that ends at a copy has fewer steps than there are records
pub ends_soon : (ws : List Way) (n i : ℕ) → Ends ws n i → n < length ws
ends_soon ws n i e =
    let ks = places ws n i e in
    let count = places_count ws n i e in
    let is = length_is ks (length ws) (places_differ ws n i e)
    (λ k among. let (m, most, f) = places_end ws n i k e among in ends_below ws m k f) in
    let most = passing_most (λ k. has k ks) (length ws) in
    omega (arith, count, is, most)
