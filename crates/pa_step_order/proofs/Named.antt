-- The entries of the order of all logs, each with the record that made it.
use Rattle.std.proofs.Common.{◌≡◌, ℕ, ◌<◌, ◌≤◌, eqb, Bool, true, List, [], ◌∷◌, ◌++◌, map, filter, flat_map, refl, sym, ◌∙◌, ap, subst, arith, inl, inr, append-nil}
use Rattle.std.specs.Prelude.{Contains, AllPairs}
use Rattle.std.proofs.lemmas.Bool.{cases_Bool, both_ways, eq-eqb, eqb-true}
use Rattle.std.proofs.lemmas.List.{map-append}
use Rattle.std.proofs.lemmas.List.Elements.{filter-append}
use Rattle.pa_lists.proofs.Members.{first_in}
use Rattle.pa_lists.proofs.Joined.{map_cases, filter_cases, filter_in, flat_cases, pairs_flat}
use Rattle.pa_lists.proofs.Pairs.{pairs_head}
use Rattle.pa_lists.proofs.Parts.{parts_at, pairs_across, pairs_after}
use Rattle.pa_region.specs.declared.view.Entry.{Entry}
use Rattle.pa_region.specs.Order.{Stamped, by_stake}
use Rattle.pa_logs.specs.Told.{ToldRecord, is_of_thread, log_of}
use Rattle.pa_logs.specs.Listed.{AreRising}
use Rattle.pa_logs.proofs.Filters.{pairs_filter, pairs_all, filter_none, filter_within}
use Rattle.pa_logs.proofs.Listing.{one_record}
use Rattle.pa_step_order.proofs.Queues.{in_turn, turns_say, queues_stay, by_queues}

-- an entry, and the record in whose log segment it is
pub record Named : Type 0 where
  pub x : ToldRecord
  pub entry : Entry

abbrev pub named_as : ToldRecord → Entry → Named
named_as x e = record { x = x; entry = e }

abbrev pub named : ToldRecord → List Named
named x = map (named_as x) x.stretch

-- the log of thread k, each entry with its record
abbrev pub named_log : List ToldRecord → ℕ → List Named
named_log ts k = flat_map named (filter (is_of_thread k) ts)

-- The entries of the order, each with its record: those of a thread are its log.
pub record AreNamed (ts : List ToldRecord) (all : List Stamped) (ns : List Named) : Type 0 where
  pub entries : map (λ (n : Named). n.entry) ns ≡ map (λ (m : Stamped). m.entry) all
  pub threads : (k : ℕ) → filter (λ (n : Named). eqb n.x.played.thread k) ns ≡ named_log ts k

-- ---- such are there

entries_named : (x : ToldRecord) (es : List Entry) → map (λ (n : Named). n.entry) (map (named_as x) es) ≡ es
entries_named x [] = refl
entries_named x (e ∷ es) = ap (λ zs. e ∷ zs) (entries_named x es)

pub log_named : (xs : List ToldRecord) → map (λ (n : Named). n.entry) (flat_map named xs) ≡ flat_map (λ (x : ToldRecord). x.stretch) xs
log_named [] = refl
log_named (x ∷ xs) =
    map-append (λ (n : Named). n.entry) (named x) (flat_map named xs)
    ∙ ap (λ es. es ++ map (λ (n : Named). n.entry) (flat_map named xs)) (entries_named x x.stretch) ∙
    ap (λ es. x.stretch ++ es) (log_named xs)

pub stake_filter : (k : ℕ) (all : List Stamped) →
    by_stake k all ≡ map (λ (m : Stamped). m.entry) (filter (λ (m : Stamped). eqb m.stake k) all)
stake_filter k [] = refl
stake_filter k (m ∷ all) = elim (cases_Bool (eqb m.stake k)) [
  | inl mine ↦ rw mine (ap (λ es. m.entry ∷ es) (stake_filter k all))
  | inr other ↦ rw other (stake_filter k all)
]

pub of_thread : (ts : List ToldRecord) (k : ℕ) (n : Named) → Contains (named_log ts k) n → n.x.played.thread ≡ k
of_thread ts k n among =
    let (x, member, here) = flat_cases named (filter (is_of_thread k) ts) n among in
    let (e, there, is) = map_cases (named_as x) x.stretch n here in
    sym (ap (λ (z : Named). z.x.played.thread) is) ∙ eqb-true x.played.thread k (filter_cases (is_of_thread k) ts x member).1

pub names_are : (ts : List ToldRecord) (all : List Stamped) → ((k : ℕ) → log_of k ts ≡ by_stake k all) →
    AreNamed ts all (in_turn (λ (m : Stamped). m.stake) (named_log ts) all)
names_are ts all logs =
    let fits : (k : ℕ) → map (λ (n : Named). n.entry) (named_log ts k) ≡ map (λ (m : Stamped). m.entry)
    (filter (λ (m : Stamped). eqb m.stake k) all) =
    λ k. log_named (filter (is_of_thread k) ts) ∙ logs k ∙ stake_filter k all in
    record {
      entries = turns_say (λ (m : Stamped). m.stake) (λ (n : Named). n.entry) (λ (m : Stamped). m.entry) (named_log ts) all fits;
      threads = queues_stay (λ (m : Stamped). m.stake) (λ (n : Named). n.entry) (λ (m : Stamped). m.entry)
          (λ (n : Named). n.x.played.thread) (named_log ts) all fits (of_thread ts);
    }

-- ---- what is known of them

module _ (ts : List ToldRecord) (all : List Stamped) (ns : List Named) (are : AreNamed ts all ns) where
  -- an entry is in the log segment of its record
  pub named_in : (n : Named) → Contains ns n → Contains ts n.x × Contains n.x.stretch n.entry
  named_in n among =
      let k = n.x.played.thread in
      let mine = filter_in (λ (m : Named). eqb m.x.played.thread k) ns n among (eq-eqb k k refl) in
      let there = subst (λ ms. Contains ms n) (are.threads k) mine in
      let (x, member, here) = flat_cases named (filter (is_of_thread k) ts) n there in
      let (e, inside, is) = map_cases (named_as x) x.stretch n here in
      let of = (filter_cases (is_of_thread k) ts x member).0 in
      (subst (λ (z : Named). Contains ts z.x) is of, subst (λ (z : Named). Contains z.x.stretch z.entry) is inside)

  module _ (rising : AreRising ts) where
    -- ---- the entries of a line

    abbrev on_line : ℕ → Named → Bool
    on_line line n = eqb n.x.played.line line

    abbrev of_line : ℕ → ToldRecord → Bool
    of_line line x = eqb x.played.line line

    named_line : (line : ℕ) (x : ToldRecord) (es : List Entry) → eqb x.played.line line ≡ true →
        filter (on_line line) (map (named_as x) es) ≡ map (named_as x) es
    named_line line x [] here = refl
    named_line line x (e ∷ es) here = rw here (ap (λ zs. named_as x e ∷ zs) (named_line line x es here))

    named_other : (line : ℕ) (x : ToldRecord) (es : List Entry) → (eqb x.played.line line ≡ true → ⊥) →
        filter (on_line line) (map (named_as x) es) ≡ []
    named_other line x es other = filter_none (on_line line) (map (named_as x) es) (λ n among passes.
        let (e, there, is) = map_cases (named_as x) es n among in
        other (subst (λ (z : Named). eqb z.x.played.line line ≡ true) (sym is) passes))

    lines_named : (line : ℕ) (xs : List ToldRecord) → filter (on_line line) (flat_map named xs) ≡ flat_map named (filter (of_line line) xs)
    lines_named line [] = refl
    lines_named line (x ∷ xs) =
        let parted = filter-append (on_line line) (named x) (flat_map named xs) in
        elim (cases_Bool (of_line line x)) [
          | inl here ↦ rw here (parted ∙ ap (λ zs. zs ++ filter (on_line line) (flat_map named xs)) (named_line line x x.stretch here) ∙
              ap (λ zs. named x ++ zs) (lines_named line xs))
          | inr other ↦ rw other (parted ∙
              ap (λ zs. zs ++ filter (on_line line) (flat_map named xs)) (named_other line x x.stretch (λ e. both_ways _ other e)) ∙
              lines_named line xs)
        ]

    one_on : (x : ToldRecord) → Contains ts x → filter (of_line x.played.line) ts ≡ x ∷ []
    one_on x among =
        let line = x.played.line in
        let less : ToldRecord → ToldRecord → Type 0 = λ a b. a.played.line < b.played.line in
        let (front, back, parts) = parts_at ts x among in
        let up = subst (AllPairs less) parts rising in
        let before = filter_none (of_line line) front (λ y there passes.
        let low = pairs_across less front (x ∷ back) y x up there (first_in x back) in let same = eqb-true y.played.line line passes in
        absurd (omega arith)) in
        let after = filter_none (of_line line) back (λ y there passes.
        let high = pairs_head less x y back (pairs_after less front (x ∷ back) up) there in let same = eqb-true y.played.line line passes in
        absurd (omega arith)) in
        let here : filter (of_line line) (x ∷ back) ≡ x ∷ filter (of_line line) back = rw (eq-eqb line line refl) refl in
        ap (filter (of_line line)) parts ∙ filter-append (of_line line) front (x ∷ back)
        ∙ ap (λ zs. zs ++ filter (of_line line) (x ∷ back)) before ∙ here ∙ ap (λ zs. x ∷ zs) after

    pub line_named : (x : ToldRecord) → Contains ts x → filter (on_line x.played.line) ns ≡ named x
    line_named x among =
        let line = x.played.line in
        let k = x.played.thread in
        let of_its_thread : Named → Bool = λ n. eqb n.x.played.thread k in
        let within = filter_within (on_line line) of_its_thread ns (λ n there passes.
        let same = one_record ts n.x x rising (named_in n there).0 among (eqb-true n.x.played.line line passes) in
        eq-eqb n.x.played.thread k (ap (λ (z : ToldRecord). z.played.thread) same)) in
        let records = filter_within (of_line line) (is_of_thread k) ts (λ y there passes.
        let same = one_record ts y x rising there among (eqb-true y.played.line line passes) in
        eq-eqb y.played.thread k (ap (λ (z : ToldRecord). z.played.thread) same)) in
        sym within ∙ ap (filter (on_line line)) (are.threads k) ∙ lines_named line (filter (is_of_thread k) ts)
        ∙ ap (flat_map named) (records ∙ one_on x among) ∙ append-nil (named x)

    -- ---- the entries of a thread are in the order of its lines

    abbrev pub InLines : Named → Named → Type 0
    InLines m n = m.x.played.line ≤ n.x.played.line

    thread_rises : (k : ℕ) → AllPairs InLines (named_log ts k)
    thread_rises k =
        let less : ToldRecord → ToldRecord → Type 0 = λ a b. a.played.line < b.played.line in
        let line_of_named : (x : ToldRecord) (n : Named) → Contains (named x) n → n.x.played.line ≡ x.played.line =
        λ x n among. (let (e, there, is) = map_cases (named_as x) x.stretch n among in sym (ap (λ (z : Named). z.x.played.line) is)) in
        pairs_flat less InLines named (filter (is_of_thread k) ts) (pairs_filter less (is_of_thread k) ts rising)
        (λ x among. pairs_all InLines (named x) (λ m n first second. let a = line_of_named x m first in let b = line_of_named x n second in
        omega arith))
        (λ x y m n first second up here there. let a = line_of_named x m here in let b = line_of_named y n there in omega arith)

    pub threads_rise : AllPairs (λ (m n : Named). m.x.played.thread ≡ n.x.played.thread → InLines m n) ns
    threads_rise = by_queues (λ (n : Named). n.x.played.thread) InLines ns
        (λ k. subst (AllPairs InLines) (sym (are.threads k)) (thread_rises k))
