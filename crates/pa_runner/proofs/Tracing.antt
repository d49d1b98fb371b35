-- The lines of a trace up to a place, by their phases and threads.
use Rattle.std.proofs.Common.{◌≡◌, ℕ, zero, suc, ◌+◌, ◌<◌, ◌≤◌, true, false, List, [], ◌∷◌, ◌++◌, length, filter, take, drop, get_or, refl, sym, ap, ◌∙◌, arith, append-nil, cond}
use Rattle.std.specs.Prelude.{if◌then◌else◌}
use Rattle.std.proofs.lemmas.Bool.{eq-eqb, ne_eqb}
use Rattle.std.proofs.lemmas.List.{take_more}
use Rattle.std.proofs.lemmas.List.Elements.{filter-append}
use Rattle.std.proofs.lemmas.List.Sums.{sum_by-cons}
use Rattle.std.proofs.Math.Seq.{take_all}
use Rattle.pa_trace.specs.declared.script.Line.{Line}
use Rattle.pa_trace.specs.declared.script.Line.TheVariants.{Phase, Do}
use Rattle.pa_trace.specs.declared.script.Op.{Op}
use Rattle.pa_trace.specs.declared.script.Rules.{Rules}
use Rattle.pa_rules.specs.Played.{OpLine, op_lines}
use Rattle.pa_rules.specs.Legal.{phases_in}
use Rattle.pa_rules.proofs.Lined.{phase_after, lines_push, phases_are, phase_on}
use Rattle.pa_execution.specs.Courses.{is_line_of, lines_in}
use Rattle.pa_runner.specs.Tracing.{is_by, lines_by}
use Rattle.pa_rules.proofs.Lined.{lines_phase}

-- ---- the lines after others

-- a list before an index, the element there, and what is after it
pub parts_at : {X : Type 0} (xs : List X) (i : ℕ) (d : X) → i < length xs → xs ≡ take i xs ++ get_or xs i d ∷ drop (suc i) xs
parts_at [] i d low = absurd (omega arith)
parts_at (x ∷ xs) zero d low = refl
parts_at (x ∷ xs) (suc i) d low = ap (λ ys. x ∷ ys) (parts_at xs i d (omega arith))

lines_over : (rules : Rules) (n phase : ℕ) (xs ys : List Line) →
    op_lines rules n phase (xs ++ ys) ≡ op_lines rules n phase xs ++ op_lines rules (n + length xs) (phase_after phase xs) ys
lines_over rules n phase [] ys = let e : n ≡ n + 0 = omega arith in ap (λ m. op_lines rules m phase ys) e
lines_over rules n phase (Phase ∷ xs) ys =
    let e : n + 1 + length xs ≡ n + suc (length xs) = omega arith in
    lines_over rules (n + 1) (phase + 1) xs ys ∙
    ap (λ m. op_lines rules (n + 1) (phase + 1) xs ++ op_lines rules m (phase_after (phase + 1) xs) ys) e
lines_over rules n phase (Do thread op ∷ xs) ys =
    let e : n + 1 + length xs ≡ n + suc (length xs) = omega arith in
    let first : OpLine = record { line = n; thread = thread; phase = phase; rules = rules; op = op } in
    ap (λ os. first ∷ os)
    (lines_over rules (n + 1) phase xs ys ∙ ap (λ m. op_lines rules (n + 1) phase xs ++ op_lines rules m (phase_after phase xs) ys) e)

-- a line isn't of another phase
other_phase : (n k : ℕ) (o : OpLine) → (o.phase ≡ n → ⊥) → is_line_of n k o ≡ false
other_phase n k o ne = rw (ne_eqb o.phase n ne) refl

-- none of these is of a phase before their first, nor of one after their last
none_before : (rules : Rules) (n phase m k : ℕ) (ls : List Line) → m < phase → filter (is_line_of m k) (op_lines rules n phase ls) ≡ []
none_before rules n phase m k [] low = refl
none_before rules n phase m k (Phase ∷ ls) low = none_before rules (n + 1) (phase + 1) m k ls (omega arith)
none_before rules n phase m k (Do thread op ∷ ls) low =
    rw (other_phase m k (record { line = n; thread = thread; phase = phase; rules = rules; op = op }) (λ e. omega arith))
    (none_before rules (n + 1) phase m k ls low)

none_behind : (rules : Rules) (n phase m k : ℕ) (ls : List Line) → phase_after phase ls < m →
    filter (is_line_of m k) (op_lines rules n phase ls) ≡ []
none_behind rules n phase m k [] high = refl
none_behind rules n phase m k (Phase ∷ ls) high = none_behind rules (n + 1) (phase + 1) m k ls high
none_behind rules n phase m k (Do thread op ∷ ls) high =
    let up = phase_on phase ls in
    rw (other_phase m k (record { line = n; thread = thread; phase = phase; rules = rules; op = op }) (λ e. omega arith))
    (none_behind rules (n + 1) phase m k ls high)

-- ---- up to a place of the trace

-- the phase in which the line at place i stands
abbrev pub phase_at : ℕ → List Line → ℕ
phase_at i ls = phases_in (take i ls)

module _ (ls : List Line) (i : ℕ) (low : i < length ls) where
  -- if a new phase begins here, all lines of the phase that ends were seen
  pub phase_whole : (rules : Rules) (k : ℕ) → get_or ls i Phase ≡ Phase →
      lines_in rules ls (phase_at i ls) k ≡ lines_in rules (take i ls) (phase_at i ls) k
  phase_whole rules k is =
      let xs = take i ls in
      let ys = drop (suc i) ls in
      let n = phase_at i ls in
      let at = phases_are xs in
      let whole : ls ≡ xs ++ Phase ∷ ys = parts_at ls i Phase low ∙ ap (λ l. xs ++ l ∷ ys) is in
      ap (λ zs. lines_in rules zs n k) whole
      ∙ (ap (filter (is_line_of n k)) (lines_over rules 2 1 xs (Phase ∷ ys))
      ∙ (filter-append (is_line_of n k) (op_lines rules 2 1 xs) (op_lines rules (2 + length xs) (phase_after 1 xs) (Phase ∷ ys))
      ∙ (ap (λ os. lines_in rules xs n k ++ os) (none_before rules (2 + length xs + 1) (phase_after 1 xs + 1) n k ys (omega arith))
      ∙ append-nil (lines_in rules xs n k))))

  pub phase_next : get_or ls i Phase ≡ Phase → phase_at (i + 1) ls ≡ phase_at i ls + 1
  phase_next is =
      let more : take (i + 1) ls ≡ take i ls ++ Phase ∷ [] = take_more ls i Phase low ∙ ap (λ l. take i ls ++ l ∷ []) is in
      ap phases_in more ∙ counted (take i ls)
    where
      counted : (xs : List Line) → phases_in (xs ++ Phase ∷ []) ≡ phases_in xs + 1
      counted xs = let a = phases_are (xs ++ Phase ∷ []) in let b = phases_are xs in let c = after 1 xs in omega arith
        where
          after : (phase : ℕ) (zs : List Line) → phase_after phase (zs ++ Phase ∷ []) ≡ phase_after phase zs + 1
          after phase [] = refl
          after phase (Phase ∷ zs) = after (phase + 1) zs
          after phase (Do thread op ∷ zs) = after phase zs

  -- a thread has no line yet of a phase that begins
  pub phase_new : (rules : Rules) (k : ℕ) → get_or ls i Phase ≡ Phase → lines_in rules (take (i + 1) ls) (phase_at (i + 1) ls) k ≡ []
  phase_new rules k is =
      let more : take (i + 1) ls ≡ take i ls ++ Phase ∷ [] = take_more ls i Phase low ∙ ap (λ l. take i ls ++ l ∷ []) is in
      let at = phases_are (take i ls) in
      let next = phase_next is in
      ap (λ zs. filter (is_line_of (phase_at (i + 1) ls) k) (op_lines rules 2 1 zs)) more
      ∙ (ap (filter (is_line_of (phase_at (i + 1) ls) k)) (lines_phase rules 2 1 (take i ls)) ∙
      none_behind rules 2 1 (phase_at (i + 1) ls) k (take i ls) (omega arith))

  -- a line of a thread is in the same phase, after those of its thread
  module _ (thread : ℕ) (op : Op) (is : get_or ls i Phase ≡ Do thread op) where
    more_is : take (i + 1) ls ≡ take i ls ++ Do thread op ∷ []
    more_is = take_more ls i Phase low ∙ ap (λ l. take i ls ++ l ∷ []) is

    pub phase_same : phase_at (i + 1) ls ≡ phase_at i ls
    phase_same = ap phases_in more_is ∙ counted (take i ls)
      where
        after : (phase : ℕ) (zs : List Line) → phase_after phase (zs ++ Do thread op ∷ []) ≡ phase_after phase zs
        after phase [] = refl
        after phase (Phase ∷ zs) = after (phase + 1) zs
        after phase (Do j o ∷ zs) = after phase zs

        counted : (xs : List Line) → phases_in (xs ++ Do thread op ∷ []) ≡ phases_in xs
        counted xs = let a = phases_are (xs ++ Do thread op ∷ []) in let b = phases_are xs in let c = after 1 xs in omega arith

    abbrev pub here : Rules → OpLine
    here rules = record { line = i + 2; thread = thread; phase = phase_at i ls; rules = rules; op = op }

    lines_are : (rules : Rules) → op_lines rules 2 1 (take (i + 1) ls) ≡ op_lines rules 2 1 (take i ls) ++ here rules ∷ []
    lines_are rules =
        let long : length (take i ls) ≡ i = long_take ls i low in
        let number : 2 + length (take i ls) ≡ i + 2 = omega arith in
        ap (op_lines rules 2 1) more_is
        ∙ (lines_push rules 2 1 (take i ls) thread op
        ∙ (ap (λ m. op_lines rules 2 1 (take i ls) ++
        record { line = m; thread = thread; phase = phase_after 1 (take i ls); rules = rules; op = op } ∷ []) number
        ∙ ap (λ p. op_lines rules 2 1 (take i ls) ++ record { line = i + 2; thread = thread; phase = p; rules = rules; op = op } ∷ [])
        (phases_are (take i ls))))
      where
        long_take : (zs : List Line) (j : ℕ) → j < length zs → length (take j zs) ≡ j
        long_take [] j short = absurd (omega arith)
        long_take (z ∷ zs) zero short = refl
        long_take (z ∷ zs) (suc j) short = let again = long_take zs j (omega arith) in omega arith

    pub line_mine : (rules : Rules) →
        lines_in rules (take (i + 1) ls) (phase_at i ls) thread ≡ lines_in rules (take i ls) (phase_at i ls) thread ++ here rules ∷ []
    line_mine rules =
        let own : is_line_of (phase_at i ls) thread (here rules) ≡ true =
        rw (eq-eqb (phase_at i ls) (phase_at i ls) refl, eq-eqb thread thread refl) refl in
        let last : filter (is_line_of (phase_at i ls) thread) (here rules ∷ []) ≡ here rules ∷ [] = rw own refl in
        ap (filter (is_line_of (phase_at i ls) thread)) (lines_are rules)
        ∙ (filter-append (is_line_of (phase_at i ls) thread) (op_lines rules 2 1 (take i ls)) (here rules ∷ []) ∙
        ap (λ os. lines_in rules (take i ls) (phase_at i ls) thread ++ os) last)

    pub line_other : (rules : Rules) (k : ℕ) → (k ≡ thread → ⊥) →
        lines_in rules (take (i + 1) ls) (phase_at i ls) k ≡ lines_in rules (take i ls) (phase_at i ls) k
    line_other rules k ne =
        let other : is_line_of (phase_at i ls) k (here rules) ≡ false =
        rw (eq-eqb (phase_at i ls) (phase_at i ls) refl, ne_eqb thread k (λ e. ne (sym e))) refl in
        let last : filter (is_line_of (phase_at i ls) k) (here rules ∷ []) ≡ [] = rw other refl in
        ap (filter (is_line_of (phase_at i ls) k)) (lines_are rules)
        ∙ (filter-append (is_line_of (phase_at i ls) k) (op_lines rules 2 1 (take i ls)) (here rules ∷ [])
        ∙ (ap (λ os. lines_in rules (take i ls) (phase_at i ls) k ++ os) last ∙ append-nil (lines_in rules (take i ls) (phase_at i ls) k)))

-- at the end all lines of the last phase were seen
pub all_seen : (rules : Rules) (ls : List Line) (i k : ℕ) → length ls ≤ i →
    lines_in rules ls (phases_in ls) k ≡ lines_in rules (take i ls) (phase_at i ls) k
all_seen rules ls i k past = let all = take_all i ls past in ap (λ zs. lines_in rules zs (phases_in zs) k) (sym all)

-- ---- how many lines a thread has

pub lines_by_more : (k : ℕ) (xs : List Line) (l : Line) → lines_by k (xs ++ l ∷ []) ≡ lines_by k xs + (if is_by k l then 1 else 0)
lines_by_more k [] l = let c = sum_by-cons (λ x. cond (is_by k x) 1 0) l [] in omega arith
lines_by_more k (x ∷ xs) l =
    let a = sum_by-cons (λ z. cond (is_by k z) 1 0) x (xs ++ l ∷ []) in
    let b = sum_by-cons (λ z. cond (is_by k z) 1 0) x xs in
    let again = lines_by_more k xs l in
    omega arith

pub lines_by_start : (k i : ℕ) (ls : List Line) → lines_by k (take i ls) ≤ lines_by k ls
lines_by_start k zero ls = omega arith
lines_by_start k (suc i) [] = omega arith
lines_by_start k (suc i) (x ∷ xs) =
    let a = sum_by-cons (λ z. cond (is_by k z) 1 0) x (take i xs) in
    let b = sum_by-cons (λ z. cond (is_by k z) 1 0) x xs in
    let again = lines_by_start k i xs in
    omega arith
