-- One text of a trace and a run has one verdict.
use Rattle.std.proofs.Common.{◌≡◌, ◌∙◌, ℕ, zero, suc, ◌+◌, ◌<◌, List, [], ◌∷◌, length, refl, sym, ap, subst, arith}
use Rattle.std.specs.Prelude.{take, sum_by, slice_index_or}
use Rattle.std.proofs.Math.Path.{fun_ext}
use Rattle.std.proofs.lemmas.List.Sums.{sum_by-cons}
use Rattle.pa_trace.specs.declared.script.Trace.{Trace}
use Rattle.pa_trace.specs.declared.script.Line.{Line}
use Rattle.pa_trace.specs.Grammar.{IsTraceText, IsSameTrace}
use Rattle.pa_trace.specs.Faults.{lines_of}
use Rattle.pa_trace.proofs.Texts.{one_trace}
use Rattle.pa_record.specs.declared.entry.Entry.{Entry}
use Rattle.pa_record.specs.declared.pool.PoolEntry.{PoolEntry}
use Rattle.pa_record.specs.declared.run.Run.{Run}
use Rattle.pa_record.specs.RunText.{IsRunText, IsSameRun}
use Rattle.pa_record.proofs.OneRun.{one_run}
use Rattle.pa_rules.specs.declared.verdict.Clause.{Clause}
use Rattle.pa_rules.specs.declared.verdict.Verdict.{Verdict}
use Rattle.pa_rules.specs.declared.verdict.Verdict.TheVariants.{Legal, Broken}
use Rattle.pa_rules.specs.declared.verdict.Place.{Place}
use Rattle.pa_rules.specs.declared.verdict.Place.TheVariants as places
use Rattle.pa_rules.specs.Told.{Told, told_by}
use Rattle.pa_rules.specs.Legal.{IsLegalTold}
use Rattle.pa_rules.specs.Places.{line_at, roots_at, pool_at, cells_at, report_at}
use Rattle.pa_rules.specs.Verdicts.{Demand, IsFirstFailing, IsVerdict}
use Rattle.pa_verdict.proofs.Verdict.{one_verdict}
use Rattle.pa_audit_input.specs.Input.{IsAudited}
use Rattle.pa_audit_input.specs.Judged.{IsVerdictOn}
use Rattle.pa_audit_input.proofs.Parting.{one_parting}
use Rattle.pa_rules.proofs.SameTold.{same_lists}

pub same_told : (a b : Run) → IsSameRun a b → told_by a ≡ told_by b
same_told a b h = same_lists (told_by a) (told_by b) h.entries (fun_ext h.roots) h.pool (fun_ext h.cells) h.report

module _ {A : Type 0} where
  -- two lists of lists have equal total length if at each place their lists have equal length, a missing one counting as empty
  none_there : (xs : List (List A)) → ((p : ℕ) → slice_index_or xs p [] ≡ []) → sum_by length xs ≡ 0
  none_there [] h = refl
  none_there (x ∷ xs) h =
      let first : length x ≡ 0 = ap length (h 0) in
      let rest = none_there xs (λ p. h (suc p)) in
      sum_by-cons length x xs ∙ omega (arith, first, rest)

  same_sum : (xs ys : List (List A)) → ((p : ℕ) → slice_index_or xs p [] ≡ slice_index_or ys p []) → sum_by length xs ≡ sum_by length ys
  same_sum [] ys h = sym (none_there ys (λ p. sym (h p)))
  same_sum (x ∷ xs) [] h = none_there (x ∷ xs) h
  same_sum (x ∷ xs) (y ∷ ys) h =
      let first : length x ≡ length y = ap length (h 0) in
      let rest = same_sum xs ys (λ p. h (suc p)) in
      sum_by-cons length x xs ∙ omega (arith, first, rest) ∙ sym (sum_by-cons length y ys)

  none_taken : (n : ℕ) (xs : List (List A)) → ((p : ℕ) → slice_index_or xs p [] ≡ []) → sum_by length (take n xs) ≡ 0
  none_taken zero xs h = refl
  none_taken (suc n) [] h = refl
  none_taken (suc n) (x ∷ xs) h =
      let first : length x ≡ 0 = ap length (h 0) in
      let rest = none_taken n xs (λ p. h (suc p)) in
      sum_by-cons length x (take n xs) ∙ omega (arith, first, rest)

  same_taken : (n : ℕ) (xs ys : List (List A)) → ((p : ℕ) → slice_index_or xs p [] ≡ slice_index_or ys p [])
      → sum_by length (take n xs) ≡ sum_by length (take n ys)
  same_taken zero xs ys h = refl
  same_taken (suc n) [] ys h = sym (none_taken (suc n) ys (λ p. sym (h p)))
  same_taken (suc n) (x ∷ xs) [] h = none_taken (suc n) (x ∷ xs) h
  same_taken (suc n) (x ∷ xs) (y ∷ ys) h =
      let first : length x ≡ length y = ap length (h 0) in
      let rest = same_taken n xs ys (λ p. h (suc p)) in
      sum_by-cons length x (take n xs) ∙ omega (arith, first, rest) ∙ sym (sum_by-cons length y (take n ys))

-- each place has the same line in both
module _ (a b : Run) (h : IsSameRun a b) where
  same_roots_at : roots_at a ≡ roots_at b
  same_roots_at = ap (λ (es : List Entry). 2 + length es) h.entries

  same_pool_at : pool_at a ≡ pool_at b
  same_pool_at = let sum = same_sum a.roots.items b.roots.items h.roots in let before = same_roots_at in omega (arith, sum, before)

  same_cells_at : cells_at a ≡ cells_at b
  same_cells_at = let long = ap (λ (es : List PoolEntry). length es) h.pool in let before = same_pool_at in omega (arith, long, before)

  same_report_at : report_at a ≡ report_at b
  same_report_at = let sum = same_sum a.cells.items b.cells.items h.cells in let before = same_cells_at in omega (arith, sum, before)

  same_line : (place : Place) → line_at a place ≡ line_at b place
  same_line (places.Record i) = refl
  same_line (places.Root p j) = let sum = same_taken p a.roots.items b.roots.items h.roots in
      let before = same_roots_at in omega (arith, sum, before)
  same_line (places.Pool j) = let before = same_pool_at in omega (arith, before)
  same_line (places.Cell k j) = let sum = same_taken k a.cells.items b.cells.items h.cells in
      let before = same_cells_at in omega (arith, sum, before)
  same_line (places.Report i) = let before = same_report_at in omega (arith, before)

  -- of two runs that are alike, if clause c is the first that fails on one, first on line n, it is on the other
  first_failing_same : (c : Clause) (n : ℕ) (t : Trace) → IsFirstFailing c n t a → IsFirstFailing c n t b
  first_failing_same c n t fails =
      let told = same_told a b h in (
        λ d earlier place. subst (λ (r : Told). Demand d t r place) told (fails.0 d earlier place),
        record {
          place = fails.1.place;
          line = fails.1.line ∙ same_line fails.1.place;
          unmet = λ met. fails.1.unmet (subst (λ (r : Told). Demand c t r fails.1.place) (sym told) met);
          before = λ other earlier. subst (λ (r : Told). Demand c t r other) told
              (fails.1.before other (subst (λ (m : ℕ). m < n) (sym (same_line other)) earlier));
        },
      )

  verdict_same : (v : Verdict) (t : Trace) → IsVerdict v t a → IsVerdict v t b
  verdict_same Legal t legal = subst (IsLegalTold t) (same_told a b h) legal
  verdict_same (Broken c n) t fails = first_failing_same c n t fails

-- a text is of one trace
same_trace : (s t : Trace) → IsSameTrace s t → s ≡ t
same_trace s t h =
    let first : ℕ → Trace = λ x. record s { version = x } in
    let second : ℕ → Trace = λ x. record s { version = t.version; region = x } in
    let third : ℕ → Trace = λ x. record s { version = t.version; region = t.region; partitions = x } in
    let fourth : ℕ → Trace = λ x. record t { threads = x; plain = s.plain; lines = s.lines } in
    let fifth : ℕ → Trace = λ x. record t { plain = x; lines = s.lines } in
    let sixth : List Line → Trace = λ x. record t { lines = x } in
    ap first h.version
    ∙ (ap second h.region ∙ (ap third h.partitions ∙ (ap fourth h.threads ∙ (ap fifth h.plain ∙ ap sixth h.lines))))

-- the verdict on a run after a number of other lines
abbrev behind : ℕ → Verdict → Verdict
behind lines Legal = Legal
behind lines (Broken c n) = Broken c (lines + n)

-- the verdict on bytes is that on their run
record IsJudged (bytes : List ℕ) (v : Verdict) : Type 0 where
  trace : Trace
  run : Run
  lines : ℕ
  verdict : Verdict
  input : IsAudited trace run lines bytes
  right : IsVerdict verdict trace run
  same : v ≡ behind lines verdict

judged : (bytes : List ℕ) (v : Verdict) → IsVerdictOn v bytes → IsJudged bytes v
judged bytes Legal h = record {
  trace = h.trace;
  run = h.run;
  lines = h.lines;
  verdict = Legal;
  input = h.input;
  right = h.legal;
  same =
      refl;
}
judged bytes (Broken c n) h = record {
  trace = h.trace;
  run = h.run;
  lines = h.lines;
  verdict = Broken c h.line;
  input = h.input;
  right = h.fails;
  same = ap (λ (m : ℕ). Broken c m) h.at;
}

-- bytes are one trace, and one run after one number of lines
module _ (bytes : List ℕ) (t u : Trace) (a b : Run) (m n : ℕ) (h : IsAudited t a m bytes) (k : IsAudited u b n bytes) where
  parts : (h.front ≡ k.front) × (h.back ≡ k.back)
  parts = one_parting h.front h.back k.front k.back bytes h.parted k.parted

  pub one_input_trace : t ≡ u
  one_input_trace = same_trace t u (one_trace t u k.front (subst (IsTraceText t) parts.0 h.trace.text) k.trace.text)

  pub one_input_run : IsSameRun a b
  one_input_run = one_run a b k.back (subst (IsRunText a) parts.1 h.run) k.run

  one_input_lines : m ≡ n
  one_input_lines = h.count ∙ ap (λ (front : List ℕ). length (lines_of front)) parts.0 ∙ sym k.count

-- any two verdicts on one input are equal
pub one_judgement : (bytes : List ℕ) (v w : Verdict) → IsVerdictOn v bytes → IsVerdictOn w bytes → v ≡ w
one_judgement bytes v w h k =
    let a = judged bytes v h in
    let b = judged bytes w k in
    let trace = one_input_trace bytes a.trace b.trace a.run b.run a.lines b.lines a.input b.input in
    let run = one_input_run bytes a.trace b.trace a.run b.run a.lines b.lines a.input b.input in
    let lines = one_input_lines bytes a.trace b.trace a.run b.run a.lines b.lines a.input b.input in
    let right : IsVerdict a.verdict b.trace b.run =
    verdict_same a.run b.run run a.verdict b.trace (subst (λ (t : Trace). IsVerdict a.verdict t a.run) trace a.right) in
    let same = one_verdict b.trace b.run a.verdict b.verdict right b.right in
    a.same ∙ ap (λ (x : ℕ). behind x a.verdict) lines ∙ ap (behind b.lines) same ∙ sym b.same
