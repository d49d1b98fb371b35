-- The record before each one of its thread, and the one that handed over what an exchange found.
use Rattle.std.proofs.Common.{◌≡◌, ℕ, ◌+◌, ◌<◌, List, [], ◌∷◌, ◌++◌, get_or, length, Option, Some, None, refl, sym, ◌∙◌, ap, subst, arith, inl, inr}
use Rattle.std.specs.Prelude.{slice_get, Contains, IfSome, IfNone}
use Rattle.std.proofs.lemmas.Bool.{cases_lt, cases_eq}
use Rattle.std.proofs.lemmas.List.{length_push}
use Rattle.pa_trace.specs.declared.script.Op.TheVariants.{Swap}
use Rattle.pa_record.specs.declared.entry.Answer.TheVariants.{Swapped}
use Rattle.pa_record.specs.declared.history.CellEntry.{CellEntry}
use Rattle.pa_lists.proofs.Members.{of_some, not_some}
use Rattle.pa_rules.specs.declared.played.Played.{Played}
use Rattle.pa_rules.specs.declared.verdict.Place.TheVariants as places
use Rattle.pa_rules.specs.Cells.{IsExchange}
use Rattle.pa_rules.specs.RecordDemands.{IsRecord, CellsDemand}
use Rattle.pa_rules.specs.Seen.{HandsTo}
use Rattle.pa_lists.proofs.Indexed.{in_at, one_at, push_at, here_is}
use Rattle.pa_audit_records.specs.Seeking.{IsOnLine, NoneOnLine}
use Rattle.pa_rules.specs.Rising.{RiseByLine}
use Rattle.pa_audit_records.specs.Tables.{Puts}
use Rattle.pa_audit_order.specs.Steps.{AreGivers, ArePrevious, IsGiverOf, IsGiving, IsLastOf}
use Rattle.pa_audit_order.proofs.Stamping.{one_place}

-- ---- the record before, of the same thread

-- of the records so far the table has the last of each thread
abbrev pub AreLast : List Played → (ℕ → Option ℕ) → ℕ → Type 0
AreLast ps at k = (t : ℕ) → IsLastOf ps t k (at t)

last_kept : (ps : List Played) (t k : ℕ) (d : Played) (o : Option ℕ) → k < length ps → ((get_or ps k d).thread ≡ t → ⊥) →
    IsLastOf ps t k o → IsLastOf ps t (k + 1) o
last_kept ps t k d None below other none = λ j x less at of. elim (cases_lt j k) [
  | inl early ↦ none j x early at of
  | inr late ↦
      let same : k ≡ j = omega (arith, less, late) in
      let one : get_or ps k d ≡ x = of_some (get_or ps k d) x (sym (here_is ps k d below) ∙ ap (slice_get ps) same ∙ at) in
      other (ap (λ (z : Played). z.thread) one ∙ of)
]
last_kept ps t k d (Some i) below other (x, at, before, of, none) = (
  x,
  at,
  omega (arith, before),
  of,
  λ j y after less there mine. elim (cases_lt j k) [
    | inl early ↦ none j y after early there mine
    | inr late ↦
        let same : k ≡ j = omega (arith, less, late) in
        let one : get_or ps k d ≡ y = of_some (get_or ps k d) y (sym (here_is ps k d below) ∙ ap (slice_get ps) same ∙ there) in
        other (ap (λ (z : Played). z.thread) one ∙ mine)
  ],
)

pub last_more : (ps : List Played) (f g : ℕ → Option ℕ) (k v : ℕ) (d : Played) → k < length ps → v ≡ k → Puts f g (get_or ps k d).thread v →
    AreLast ps f k → AreLast ps g (k + 1)
last_more ps f g k v d below same puts h t = elim (cases_eq t (get_or ps k d).thread) [
  | inl mine ↦
      let is : g t ≡ Some k = ap g mine ∙ puts.here ∙ ap Some same in
      subst (IsLastOf ps t (k + 1)) (sym is) (
        get_or ps k d,
        here_is ps k d below,
        omega arith,
        sym mine,
        λ j y after less at of. omega (arith, after, less),
      )
  | inr other ↦ subst (IsLastOf ps t (k + 1)) (sym (puts.other t other)) (last_kept ps t k d (f t) below (λ e. other (sym e)) (h t))
]

pub previous_more : (ps : List Played) (table : List (Option ℕ)) (f : ℕ → Option ℕ) (k : ℕ) (d : Played) (o : Option ℕ) → k < length ps
    → o ≡ f (get_or ps k d).thread → AreLast ps f k → ArePrevious ps table k
    → ArePrevious ps (table ++ o ∷ []) (k + 1)
previous_more ps table f k d o below is last h = record {
  long = let long = h.long in let push = length_push table o in omega (arith, long, push);
  last = λ i y w at here. elim (push_at table o w i at) [
    | inl early ↦ h.last i y w early here
    | inr (end, same) ↦
        let long = h.long in
        let index : k ≡ i = omega (arith, end, long) in
        let one : get_or ps k d ≡ y = of_some (get_or ps k d) y (sym (here_is ps k d below) ∙ ap (slice_get ps) index ∙ here) in
        let there : IsLastOf ps (get_or ps k d).thread k w =
        subst (IsLastOf ps (get_or ps k d).thread k) (sym is ∙ same) (last (get_or ps k d).thread) in
        subst (λ n. IsLastOf ps y.thread n w) index (subst (λ (z : Played). IsLastOf ps z.thread k w) one there)
  ];
}

-- ---- the record that handed over to each one

pub givers_start : (cells : ℕ → List CellEntry) (ps : List Played) → AreGivers cells ps [] 0
givers_start cells ps = record { long = refl; hands = λ i y o is here. absurd (not_some o is) }

pub givers_more : (cells : ℕ → List CellEntry) (ps : List Played) (table : List (Option ℕ)) (k : ℕ) (d : Played) (o : Option ℕ)
    → k < length ps → IsGiverOf cells ps (get_or ps k d) o → AreGivers cells ps table k
    → AreGivers cells ps (table ++ o ∷ []) (k + 1)
givers_more cells ps table k d o below giver h = record {
  long = let long = h.long in let push = length_push table o in omega (arith, long, push);
  hands = λ i y w at here. elim (push_at table o w i at) [
    | inl early ↦ h.hands i y w early here
    | inr (end, same) ↦
        let long = h.long in
        let index : k ≡ i = omega (arith, end, long) in
        let one : get_or ps k d ≡ y = of_some (get_or ps k d) y (sym (here_is ps k d below) ∙ ap (slice_get ps) index ∙ here) in
        subst (λ (z : Played). IsGiverOf cells ps z w) one (subst (λ z. IsGiverOf cells ps (get_or ps k d) z) same giver)
  ];
}

-- ---- who handed over

swapped_same : (i j : ℕ) → Swapped i ≡ Swapped j → i ≡ j
swapped_same i j e = cc

-- what the cells say of a record that exchanges
abbrev AsksSwaps : (ℕ → List CellEntry) → List Played → Type 0
AsksSwaps cells ps = (i : ℕ) → CellsDemand cells ps (places.Record i)

abbrev AsksExchanges : (ℕ → List CellEntry) → List Played → Type 0
AsksExchanges cells ps = (k j : ℕ) → CellsDemand cells ps (places.Cell k j)

-- a cell has one exchange of a line
one_exchange : (cells : ℕ → List CellEntry) (ps : List Played) (k i j : ℕ) (e f : CellEntry) → AsksExchanges cells ps →
    IsExchange cells k i e → IsExchange cells k j f → e.line ≡ f.line → i ≡ j
one_exchange cells ps k i j e f asks at at' same = elim (cases_lt i j) [
  | inl less ↦ absurd ((asks k j f at').once k i e at (inr (refl, less)) same)
  | inr most ↦ elim (cases_lt j i) [
    | inl less ↦ absurd ((asks k i e at).once k j f at' (inr (refl, less)) (sym same))
    | inr least ↦ omega (arith, most, least)
  ]
]

-- the record on the line of an exchange of the cell exchanges with it, and names the exchange
record NamesIt (cells : ℕ → List CellEntry) (k j : ℕ) (told : Played) : Type 0 where
  reg : ℕ
  op : told.op ≡ Swap k reg
  answer : told.answer ≡ Swapped j

names_it : (cells : ℕ → List CellEntry) (ps : List Played) (k j : ℕ) (f : CellEntry) (told : Played) → RiseByLine ps
    → AsksSwaps cells ps → AsksExchanges cells ps → Contains ps told → IsExchange cells k j f → f.line ≡ told.line
    → NamesIt cells k j told
names_it cells ps k j f told rising swaps exchanges among at line =
    let (p, reg, (member, mine), op) = (exchanges k j f at).line in
    let (m, here) = in_at ps told among in
    let (n, there) = in_at ps p member in
    let index = one_place ps n m p told rising there here (mine ∙ line) in
    let same : p ≡ told = one_at ps m p told (ap (slice_get ps) (sym index) ∙ there) here in
    let swap : told.op ≡ Swap k reg = sym (ap (λ (z : Played). z.op) same) ∙ op in
    let (i, e, answer, at', line') = swaps m told k reg here swap in
    let one = one_exchange cells ps k i j e f exchanges at' at (line' ∙ sym line) in
    record { reg = reg; op = swap; answer = answer ∙ ap Swapped one }

pub gives_to : (cells : ℕ → List CellEntry) (ps : List Played) (told x : Played) (k reg j l : ℕ) → RiseByLine ps → AsksSwaps cells ps
    → AsksExchanges cells ps → Contains ps told → told.op ≡ Swap k reg → told.answer ≡ Swapped j
    → IsGiving cells k j l → x.line ≡ l → HandsTo cells x told
gives_to cells ps told x k reg j l rising swaps exchanges among op answer (i, e, next, at, line, gave) mine =
    let (m, here) = in_at ps told among in
    let (n, f, answer', at', line') = swaps m told k reg here op in
    let index : n ≡ i + 1 = sym (swapped_same j n (sym answer ∙ answer')) ∙ next in
    (k, i, e, f, at, subst (λ z. IsExchange cells k z f) index at', line ∙ sym mine, line', gave)

-- the exchange before that of the record
record IsGiven (cells : ℕ → List CellEntry) (told : Played) (l : ℕ) : Type 0 where
  cell : ℕ
  reg : ℕ
  entry : ℕ
  op : told.op ≡ Swap cell reg
  answer : told.answer ≡ Swapped entry
  giving : IsGiving cells cell entry l

handed : (cells : ℕ → List CellEntry) (ps : List Played) (told x : Played) → RiseByLine ps → AsksSwaps cells ps → AsksExchanges cells ps
    → Contains ps told → HandsTo cells x told → IsGiven cells told x.line
handed cells ps told x rising swaps exchanges among (k, i, e, f, at, at', line, line', gave) =
    let names = names_it cells ps k (i + 1) f told rising swaps exchanges among at' line' in
    record { cell = k; reg = names.reg; entry = i + 1; op = names.op; answer = names.answer; giving = (i, e, refl, at, line, gave) }

pub given_all : (cells : ℕ → List CellEntry) (ps : List Played) (told x : Played) (o : Option ℕ) → RiseByLine ps → AsksSwaps cells ps →
    AsksExchanges cells ps → Contains ps told
    → ((k reg j l : ℕ) → told.op ≡ Swap k reg → told.answer ≡ Swapped j → IsGiving cells k j l → o ≡ Some l) →
    HandsTo cells x told → o ≡ Some x.line
given_all cells ps told x o rising swaps exchanges among all hands =
    let h = handed cells ps told x rising swaps exchanges among hands in
    all h.cell h.reg h.entry x.line h.op h.answer h.giving

-- by the record that was found on the line
pub giver_is : (cells : ℕ → List CellEntry) (ps : List Played) (told : Played) (l : ℕ) (o : Option ℕ) → RiseByLine ps → AsksSwaps cells ps →
    AsksExchanges cells ps → Contains ps told
    → (k reg j : ℕ) × (told.op ≡ Swap k reg) × (told.answer ≡ Swapped j) × IsGiving cells k j l → IfSome o (IsOnLine ps l) →
    IfSome o (λ j. (x : Played) × IsRecord ps j x × HandsTo cells x told)
giver_is cells ps told l None rising swaps exchanges among given found = tt
giver_is cells ps told l (Some i) rising swaps exchanges among (k, reg, j, op, answer, giving) (x, here, line) =
    (x, here, gives_to cells ps told x k reg j l rising swaps exchanges among op answer giving line)

pub giver_all : (cells : ℕ → List CellEntry) (ps : List Played) (told x : Played) (l j : ℕ) (o : Option ℕ) → RiseByLine ps →
    AsksSwaps cells ps → AsksExchanges cells ps → Contains ps told
    → ((k reg j n : ℕ) → told.op ≡ Swap k reg → told.answer ≡ Swapped j → IsGiving cells k j n → Some l ≡ Some n)
    → IfSome o (IsOnLine ps l) → IfNone o (NoneOnLine ps l) → IsRecord ps j x → HandsTo cells x told → o ≡ Some j
giver_all cells ps told x l j o rising swaps exchanges among all some none here hands =
    on_line o some none
  where
    same : l ≡ x.line
    same = of_some l x.line (given_all cells ps told x (Some l) rising swaps exchanges among all hands)

    on_line : (o : Option ℕ) → IfSome o (IsOnLine ps l) → IfNone o (NoneOnLine ps l) → o ≡ Some j
    on_line None some none = absurd (none j (x, here, sym same))
    on_line (Some i) (y, there, line) none = ap Some (one_place ps i j y x rising there here (line ∙ same))
