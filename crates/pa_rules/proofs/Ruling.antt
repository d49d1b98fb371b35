-- All records of a trace are played by its rules.
use Rattle.std.proofs.Common.{◌≡◌, ℕ, ◌+◌, List, [], ◌∷◌, map, sym, ◌∙◌, ap, subst, inl, inr}
use Rattle.std.specs.Prelude.{Contains, zip}
use Rattle.pa_trace.specs.declared.script.Rules.{Rules}
use Rattle.pa_trace.specs.declared.script.Trace.{Trace}
use Rattle.pa_trace.specs.declared.script.Line.{Line}
use Rattle.pa_trace.specs.declared.script.Line.TheVariants.{Phase, Do}
use Rattle.pa_trace.specs.Rules.{rules_of}
use Rattle.pa_record.specs.declared.entry.Entry.{Entry}
use Rattle.pa_lists.proofs.Members.{not_in_none, first_in, later_in, in_cases}
use Rattle.pa_lists.proofs.Joined.{map_in}
use Rattle.pa_rules.specs.declared.played.Played.{Played}
use Rattle.pa_rules.specs.Played.{OpLine, AreLines, op_lines, op_line_of, beside, played}
use Rattle.pa_rules.specs.Told.{Told, records_of}

-- the op lines of a trace have its rules
pub line_rules : (rules : Rules) (n phase : ℕ) (ls : List Line) (a : OpLine) → Contains (op_lines rules n phase ls) a → a.rules ≡ rules
line_rules rules n phase [] a among = absurd (not_in_none a among)
line_rules rules n phase (Phase ∷ ls) a among = line_rules rules (n + 1) (phase + 1) ls a among
line_rules rules n phase (Do thread op ∷ ls) a among =
    elim (in_cases (record { line = n; thread = thread; phase = phase; rules = rules; op = op }) a (op_lines rules (n + 1) phase ls) among) [
      | inl e ↦ sym (ap (λ (z : OpLine). z.rules) e)
      | inr rest ↦ line_rules rules (n + 1) phase ls a rest
    ]

-- and so have the records of all its op lines
pub record_rules : (rules : Rules) (ls : List Line) (ps : List Played) (x : Played) → AreLines rules ls ps → Contains ps x → x.rules ≡ rules
record_rules rules ls ps x lines among =
    line_rules rules 2 1 ls (op_line_of x) (subst (λ z. Contains z (op_line_of x)) lines (map_in op_line_of ps x among))

beside_rules : (rules : Rules) (os : List OpLine) (es : List Entry) (x : Played) → ((a : OpLine) → Contains os a → a.rules ≡ rules)
    → Contains (map beside (zip os es)) x → x.rules ≡ rules
beside_rules rules [] es x all among = absurd (not_in_none x among)
beside_rules rules (o ∷ os) [] x all among = absurd (not_in_none x among)
beside_rules rules (o ∷ os) (e ∷ es) x all among =
    elim (in_cases (beside (o, e)) x (map beside (zip os es)) among) [
      | inl is ↦ sym (ap (λ (z : Played). z.rules) is) ∙ all o (first_in o os)
      | inr rest ↦ beside_rules rules os es x (λ a member. all a (later_in o a os member)) rest
    ]

-- and the entries of a run, each with the op line at its place, whichever they are
pub played_rules : (rules : Rules) (ls : List Line) (es : List Entry) (x : Played) → Contains (played rules ls es) x → x.rules ≡ rules
played_rules rules ls es x among = beside_rules rules (op_lines rules 2 1 ls) es x (line_rules rules 2 1 ls) among

pub told_rules : (t : Trace) (r : Told) (x : Played) → Contains (records_of t r) x → x.rules ≡ rules_of t
told_rules t r x among = played_rules (rules_of t) t.lines r.entries x among

-- they are of version 1 if the trace is
pub told_version : (t : Trace) (r : Told) (x : Played) → Contains (records_of t r) x → x.rules.version ≡ t.version
told_version t r x among = ap (λ (k : Rules). k.version) (told_rules t r x among)

-- all of them are played by the same rules
pub one_rules : (rules : Rules) (ps : List Played) → ((x : Played) → Contains ps x → x.rules ≡ rules)
    → (x y : Played) → Contains ps x → Contains ps y → x.rules ≡ y.rules
one_rules rules ps all x y among member = all x among ∙ sym (all y member)

pub told_once : (t : Trace) (r : Told) (x y : Played) → Contains (records_of t r) x → Contains (records_of t r) y → x.rules ≡ y.rules
told_once t r = one_rules (rules_of t) (records_of t r) (told_rules t r)
