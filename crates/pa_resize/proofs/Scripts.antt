-- The lines of a script are played one after the other.
use Rattle.std.proofs.Common.{◌≡◌, ℕ, ◌+◌, ◌<◌, ◌≤◌, List, [], ◌∷◌, ◌++◌, length, take, get_or, Option, refl, sym, ap, ap₂, ◌∙◌, subst, arith, append_assoc, length-append}
use Rattle.std.specs.List.{flat_map}
use Rattle.std.proofs.Math.Seq.{take_all}
use Rattle.std.proofs.lemmas.List.{append-nil, map-append, length-map, length-take, length_push, take_more}
use Rattle.std.proofs.lemmas.List.Elements.{All-from_recursion, All-get_or}
use Rattle.std.proofs.lemmas.List.Concat.{flat_map-append}
use Rattle.pa_trace.specs.declared.line.Head.{Head}
use Rattle.pa_trace.specs.declared.script.Trace.{Trace}
use Rattle.pa_record.specs.declared.run.Run.{Run}
use Rattle.pa_script.specs.declared.script.Script.{Script}
use Rattle.pa_script.specs.declared.script.ScriptLine.{ScriptLine}
use Rattle.pa_script.specs.Limits.{IsScriptWithin, IsScriptLineWithin}
use Rattle.pa_rules.specs.declared.played.Played.{Played}
use Rattle.pa_rules.specs.Told.{Told, told_by, records_of}
use Rattle.pa_model.specs.Player.{Player, trace_so_far, IsNew, IsFinished}
use Rattle.pa_resize.specs.declared.verdict.Verdict.{Verdict}
use Rattle.pa_resize.specs.Expansion.{ScriptPiece, IsPiece, ArePieces, verdict_noted, verdicts_of, IsExpanded}
use Rattle.pa_resize.specs.Playing.{PlaysScriptLine, IsScriptPlayed, script_head}

-- one piece more
pieces_push : (ps : List Played) (r : Told) (before : List Played) (xs : List ScriptPiece) (x : ScriptPiece) → ArePieces ps r before xs
    → IsPiece ps r (before ++ flat_map (λ (y : ScriptPiece). y.records) xs) x → ArePieces ps r before (xs ++ x ∷ [])
pieces_push ps r before [] x all last = (subst (λ ys. IsPiece ps r ys x) (append-nil before) last, tt)
pieces_push ps r before (y ∷ xs) x all last = (
  all.0,
  pieces_push ps r (before ++ y.records) xs x all.1
      (subst (λ ys. IsPiece ps r ys x) (sym (append_assoc before y.records (flat_map (λ (z : ScriptPiece). z.records) xs))) last),
)

verdicts_push : (n : ℕ) (xs : List ScriptPiece) (x : ScriptPiece) →
    verdicts_of n (xs ++ x ∷ []) ≡ verdicts_of n xs ++ verdict_noted (n + length xs) x.verdict
verdicts_push n [] x =
    let e : n ≡ n + 0 = omega arith in
    append-nil (verdict_noted n x.verdict) ∙ ap (λ k. verdict_noted k x.verdict) e
verdicts_push n (y ∷ xs) x =
    let e : n + 1 + length xs ≡ n + length (y ∷ xs) = omega arith in
    ap (λ zs. verdict_noted n y.verdict ++ zs)
    (verdicts_push (n + 1) xs x ∙ ap (λ k. verdicts_of (n + 1) xs ++ verdict_noted k x.verdict) e)
    ∙ sym (append_assoc (verdict_noted n y.verdict) (verdicts_of (n + 1) xs) (verdict_noted (n + length (y ∷ xs)) x.verdict))

flat_push : {A : Type 0} (f : ScriptPiece → List A) (xs : List ScriptPiece) (x : ScriptPiece) →
    flat_map f (xs ++ x ∷ []) ≡ flat_map f xs ++ f x
flat_push f xs x = flat_map-append f xs (x ∷ []) ∙ ap (λ ys. flat_map f xs ++ ys) (append-nil (f x))

pub script_begins : (head : Head) (p : Player) → IsNew head p → IsScriptPlayed head [] p []
script_begins head p new = record {
  going = new.going;
  head = new.head;
  pieces = [];
  script = refl;
  trace = sym new.lines;
  records = sym new.records;
  few = omega (arith, ap length new.lines);
  each = λ ps r on. tt;
  verdicts = refl;
}

pub script_more : (head : Head) (ls : List ScriptLine) (p q : Player) (vs after : List (ℕ × Verdict)) (l : ScriptLine) (n : ℕ)
    (verdict : Option Verdict)
    → IsScriptPlayed head ls p vs → PlaysScriptLine p l verdict q → n ≡ length ls + 2 → after ≡ vs ++ verdict_noted n verdict →
    IsScriptPlayed head (ls ++ l ∷ []) q after
script_more head ls p q vs after l n verdict h step at noted_so =
    let x : ScriptPiece = step.piece in
    let xs : List ScriptPiece = h.pieces in
    let many : length xs ≡ length ls = sym (length-map xs (λ (y : ScriptPiece). y.line)) ∙ ap length h.script in
    let number : n ≡ 2 + length xs = omega (arith, at, many) in
    record {
      going = step.going;
      head = step.head ∙ h.head;
      pieces = xs ++ x ∷ [];
      script = map-append (λ (y : ScriptPiece). y.line) xs (x ∷ []) ∙ ap₂ (λ ys y. ys ++ y ∷ []) h.script step.line;
      trace = flat_push (λ (y : ScriptPiece). y.lines) xs x ∙ ap (λ ys. ys ++ x.lines) h.trace ∙ sym step.lines;
      records = flat_push (λ (y : ScriptPiece). y.records) xs x ∙ ap (λ ys. ys ++ x.records) h.records ∙ sym step.records;
      few = omega (arith, h.few, step.few, ap length step.lines, length-append p.lines.items x.lines, length_push ls l);
      each = λ ps r on.
          pieces_push ps r [] xs x (h.each ps r (step.later ps r on)) (subst (λ ys. IsPiece ps r ys x) (sym h.records) (step.is ps r on));
      verdicts = noted_so ∙ ap₂ (λ ys k. ys ++ verdict_noted k verdict) h.verdicts number
          ∙ ap (λ v. verdicts_of 2 xs ++ verdict_noted (2 + length xs) v) (sym step.verdict) ∙ sym (verdicts_push 2 xs x);
    }

pub script_ends : (s : Script) (p : Player) (t : Trace) (run : Run) (vs : List (ℕ × Verdict)) →
    IsScriptPlayed (script_head s) s.lines p vs → IsFinished p t run → IsExpanded s t run vs
script_ends s p t run vs h end =
    let at : t ≡ trace_so_far p = end.trace in
    record {
      version = ap (λ (u : Trace). u.version) at ∙ ap (λ (k : Head). k.version) h.head;
      region = ap (λ (u : Trace). u.region) at ∙ ap (λ (k : Head). k.region) h.head;
      partitions = ap (λ (u : Trace). u.partitions) at ∙ ap (λ (k : Head). k.partitions) h.head;
      threads = ap (λ (u : Trace). u.threads) at ∙ ap (λ (k : Head). k.threads) h.head;
      plain = ap (λ (u : Trace). u.plain) at ∙ ap (λ (k : Head). k.plain) h.head;
      file = end.file;
      pieces = h.pieces;
      script = h.script;
      trace = h.trace ∙ sym (ap (λ (u : Trace). u.lines) at);
      records = h.records ∙ sym end.records;
      each = h.each (records_of t (told_by run)) (told_by run) end.goes_on;
      verdicts = h.verdicts;
    }

-- ---- by the index of a line

module _ (s : Script) (i : ℕ) (p : Player) (line d : ScriptLine) (vs : List (ℕ × Verdict)) (within : IsScriptWithin s)
    (lt : i < length s.lines) (is : line ≡ get_or s.lines i d)
    (h : IsScriptPlayed (script_head s) (take i s.lines) p vs) where
  pub next_few : length p.lines.items + 6 ≤ 65535
  next_few = let few = within.few in omega (arith, h.few, length-take i s.lines, few, lt)

  pub next_within : IsScriptLineWithin p.lines.head.partitions p.lines.head.threads line
  next_within =
      let W : ScriptLine → Type 0 = IsScriptLineWithin s.partitions s.threads in
      let one : W line = subst W (sym is) (All-get_or W s.lines i d lt (All-from_recursion W s.lines within.lines)) in
      subst (λ (k : Head). IsScriptLineWithin k.partitions k.threads line) (sym h.head) one

  pub next_played : (q : Player) (after : List (ℕ × Verdict)) (n : ℕ) (verdict : Option Verdict) → PlaysScriptLine p line verdict q →
      n ≡ i + 2 → after ≡ vs ++ verdict_noted n verdict
      → IsScriptPlayed (script_head s) (take (i + 1) s.lines) q after
  next_played q after n verdict step at more =
      let number : n ≡ length (take i s.lines) + 2 = omega (arith, at, length-take i s.lines, lt) in
      let whole : take (i + 1) s.lines ≡ take i s.lines ++ line ∷ [] =
      take_more s.lines i d lt ∙ ap (λ z. take i s.lines ++ z ∷ []) (sym is) in
      subst (λ ls. IsScriptPlayed (script_head s) ls q after) (sym whole)
      (script_more (script_head s) (take i s.lines) p q vs after line n verdict h step number more)

pub all_played : (s : Script) (i : ℕ) (p : Player) (vs : List (ℕ × Verdict)) → length s.lines ≤ i →
    IsScriptPlayed (script_head s) (take i s.lines) p vs
    → IsScriptPlayed (script_head s) s.lines p vs
all_played s i p vs past h = subst (λ ls. IsScriptPlayed (script_head s) ls p vs) (take_all i s.lines past) h
