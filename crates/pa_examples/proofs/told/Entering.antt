-- The lists of a worked run meet what is required of lists, by tests that compute.
use Rattle.std.proofs.Common.{◌≡◌, ℕ, zero, suc, ◌<◌, ◌≤◌, ◌⊎◌, Bool, true, eqb, ltb, List, [], ◌∷◌, ◌++◌, filter, map, Some, lit<, refl, sym, ◌∙◌, ap, subst, arith, inl, inr}
use Rattle.std.specs.Prelude.{◌≢◌}
use Rattle.std.specs.List.{list_all}
use Rattle.std.proofs.lemmas.Bool.{cases_eq, eqb-true, ltb-true}
use Rattle.pa_record.specs.declared.pool.PoolEntry.{PoolEntry}
use Rattle.pa_record.specs.declared.root.RootEntry.{RootEntry}
use Rattle.pa_record.specs.Numbers.{root_numbers, pool_numbers}
use Rattle.pa_record.specs.Root.{asked_by}
use Rattle.pa_region.specs.declared.view.Made.{Made}
use Rattle.pa_region.specs.Lists.{made_with, entered_in}
use Rattle.pa_rules.specs.Roots.{journal_at}
use Rattle.pa_examples.proofs.worked.Lists.{all_pairs, pairs_pass}
use Rattle.pa_logs.specs.Told.{ToldRecord, log_of, told_until}
use Rattle.pa_logs.specs.Listed.{line_of, IsListOf, AreRising}
use Rattle.pa_logs.specs.Seats.{AreOfLines}
use Rattle.pa_logs.specs.Indices.{StandsAt, Enters, asks, AskedNone, AskedOnce}
use Rattle.pa_lists.proofs.Elements.{passes}

-- what holds of each number below 4, 5 and 6
pub below_four : (P : ℕ → Type 0) → P 0 → P 1 → P 2 → P 3 → (q : ℕ) → q < 4 → P q
below_four P a b c d q few = elim (cases_eq 0 q) [
  | inl e ↦ subst P e a
  | inr n0 ↦ elim (cases_eq 1 q) [
    | inl e ↦ subst P e b
    | inr n1 ↦ elim (cases_eq 2 q) [
      | inl e ↦ subst P e c
      | inr n2 ↦ elim (cases_eq 3 q) [ inl e ↦ subst P e d | inr n3 ↦ absurd (omega arith) ]
    ]
  ]
]

pub below_five : (P : ℕ → Type 0) → P 0 → P 1 → P 2 → P 3 → P 4 → (q : ℕ) → q < 5 → P q
below_five P a b c d e q few = elim (cases_eq 4 q) [ inl same ↦ subst P same e | inr other ↦ below_four P a b c d q (omega arith) ]

pub below_six : (P : ℕ → Type 0) → P 0 → P 1 → P 2 → P 3 → P 4 → P 5 → (q : ℕ) → q < 6 → P q
below_six P a b c d e f q few = elim (cases_eq 5 q) [ inl same ↦ subst P same f | inr other ↦ below_five P a b c d e q (omega arith) ]

-- each entry of a record in the list is of its line
abbrev pub lines_fit : ℕ → List ToldRecord → Bool
lines_fit q ts = list_all (λ (x : ToldRecord). list_all (λ (m : Made). eqb (line_of m) x.played.line) (entered_in q x.stretch)) ts

pub lines_told : (q : ℕ) (ts : List ToldRecord) → lines_fit q ts ≡ true → AreOfLines q ts
lines_told q ts fit x m among there =
    let own = passes (λ (y : ToldRecord). list_all (λ (n : Made). eqb (line_of n) y.played.line) (entered_in q y.stretch)) ts x fit among in
    eqb-true (line_of m) x.played.line (passes (λ (n : Made). eqb (line_of n) x.played.line) (entered_in q x.stretch) m own there)

pub is_list : (q : ℕ) (list : List Made) (ts : List ToldRecord) → ((k : ℕ) → made_with k list ≡ entered_in q (log_of k ts)) →
    lines_fit q ts ≡ true → IsListOf q list ts
is_list q list ts made fit = record { made = made; lines = lines_told q ts fit }

pub rising : (ts : List ToldRecord) → all_pairs (λ (x y : ToldRecord). ltb x.played.line y.played.line) ts ≡ true → AreRising ts
rising ts h = pairs_pass (λ (x y : ToldRecord). x.played.line < y.played.line) (λ x y. ltb x.played.line y.played.line)
    (λ x y. ltb-true x.played.line y.played.line) ts h

-- at the end of a phase: what was entered, and what came later
abbrev pub Cut : ℕ → List Made → List ToldRecord → ℕ → Type 0
Cut q list ts phase = (older rest : List Made) × (list ≡ older ++ rest) × IsListOf q older (told_until phase ts)

pub whole_cut : (q : ℕ) (list : List Made) (ts : List ToldRecord) (phase : ℕ) → IsListOf q list (told_until phase ts) → Cut q list ts phase
whole_cut q list ts phase is = (list, [], sym (append_none list), is)
  where
    append_none : (xs : List Made) → xs ++ [] ≡ xs
    append_none [] = refl
    append_none (x ∷ xs) = ap (λ ys. x ∷ ys) (append_none xs)

-- the only journal is that of partition 0
pub no_journal : (es : List RootEntry) (p : ℕ) → p ≢ 0 → journal_at (es ∷ []) p ≡ []
no_journal es zero apart = absurd (apart refl)
no_journal es (suc p) apart = refl

pub none_past : (es : List RootEntry) (p : ℕ) → 4 ≤ p → journal_at (es ∷ []) p ≡ []
none_past es p past = no_journal es p (λ e. absurd (omega arith))

-- what a record entered: these in the journal of partition 0, and these in the pool's list
abbrev pub enters : (x : ToldRecord) (es : List RootEntry) (us : List PoolEntry) →
    map (λ (m : Made). m.numbers) (entered_in 0 x.stretch) ≡ map root_numbers es →
    entered_in 1 x.stretch ≡ [] → entered_in 2 x.stretch ≡ [] → entered_in 3 x.stretch ≡ [] →
    map (λ (m : Made). m.numbers) (entered_in 4 x.stretch) ≡ map pool_numbers us → Enters x
enters x es us a b c d e = record {
  roots = journal_at (es ∷ []);
  pools = us;
  roots_are =
      below_four (λ p. map (λ (m : Made). m.numbers) (entered_in p x.stretch) ≡ map root_numbers (journal_at (es ∷ []) p)) a
      (ap (λ ms. map (λ (m : Made). m.numbers) ms) b) (ap (λ ms. map (λ (m : Made). m.numbers) ms) c)
      (ap (λ ms. map (λ (m : Made). m.numbers) ms) d);
  pools_are = e;
}

-- a record that asked for nothing
abbrev pub Asked : List Made → ToldRecord → Type 0
Asked list x = (it : Enters x) × (AskedNone x it ⊎ AskedOnce list x it)

pub asked_none : (list : List Made) (x : ToldRecord) (es : List RootEntry) →
    map (λ (m : Made). m.numbers) (entered_in 0 x.stretch) ≡ map root_numbers es →
    entered_in 1 x.stretch ≡ [] → entered_in 2 x.stretch ≡ [] → entered_in 3 x.stretch ≡ [] →
    map (λ (m : Made). m.numbers) (entered_in 4 x.stretch) ≡ [] → filter asks es ≡ [] → Asked list x
asked_none list x es a b c d e none = (enters x es [] a b c d e, inl (record { pools = refl; roots = each }))
  where
    each : (p : ℕ) → filter asks (journal_at (es ∷ []) p) ≡ []
    each zero = none
    each (suc p) = refl

-- a record that asked the pool once, for partition 0, names its entry there
pub asked_once : (list : List Made) (x : ToldRecord) (es : List RootEntry) (m : Made) (f : PoolEntry) (e : RootEntry) (j : ℕ) →
    map (λ (m : Made). m.numbers) (entered_in 0 x.stretch) ≡ map root_numbers es → entered_in 1 x.stretch ≡ [] →
    entered_in 2 x.stretch ≡ [] → entered_in 3 x.stretch ≡ [] →
    entered_in 4 x.stretch ≡ m ∷ [] → m.numbers ≡ pool_numbers f → 0 ≡ f.partition → filter asks es ≡ e ∷ [] → asked_by e.act ≡ Some j →
    StandsAt list m j → Asked list x
asked_once list x es m f e j a b c d made says home asked names stands = (
  enters x es (f ∷ []) a b c d (ap (λ ms. map (λ (n : Made). n.numbers) ms) made ∙ ap (λ ns. ns ∷ []) says),
  inr (record {
    made = m;
    pool = f;
    entry = e;
    index = j;
    made_is = made;
    pools = refl;
    small = subst (λ p. p < 4) home (lit< tt);
    asked = subst (λ p. filter asks (journal_at (es ∷ []) p) ≡ e ∷ []) home asked;
    others = λ p apart. ap (λ ys. filter asks ys) (no_journal es p (λ none. apart (none ∙ home)));
    names = names;
    stands = stands;
  }),
)
