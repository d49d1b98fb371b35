-- The looks of the worked runs of direct maps and of two threads find words in use, so what is required of a run is known of both.
use Rattle.std.proofs.Common.{◌≡◌, ℕ, ◌+◌, Bool, true, List, Option, Some, None, map, refl, sym, ◌∙◌, ap, subst}
use Rattle.std.specs.Prelude.{Contains, nat_lt}
use Rattle.std.specs.List.{list_all}
use Rattle.std.proofs.lemmas.Bool.{ltb-true}
use Rattle.pa_slot.specs.declared.word.Step.{Step}
use Rattle.pa_slot.specs.Count.{held_of, refs_of}
use Rattle.pa_slot.specs.Run.{Mark}
use Rattle.pa_trace.specs.declared.script.Trace.{Trace}
use Rattle.pa_trace.specs.Rules.{rules_of}
use Rattle.pa_record.specs.declared.run.Run.{Run}
use Rattle.pa_rules.specs.declared.played.Played.{Played}
use Rattle.pa_rules.specs.Played.{AreLines, entry_of, mark_of, played}
use Rattle.pa_rules.specs.Told.{told_by, records_of}
use Rattle.pa_rules.specs.Legal.{IsLegal}
use Rattle.pa_rules.proofs.Recorded.{records_are_lines}
use Rattle.pa_legal.specs.Known.{FindsInUse, IsKnown}
use Rattle.pa_legal.proofs.Converse.{legal_is_known}
use Rattle.pa_examples.specs.Worked.{direct_map_records, two_threads_records, direct_map_trace, two_threads_trace}
use Rattle.pa_examples.specs.WorkedKnown.{DirectMapIsKnown, TwoThreadsAreKnown}
use Rattle.pa_examples.proofs.worked.Runs.{direct_map_is_filed, two_threads_are_legal}
use Rattle.pa_examples.proofs.worked.Maps as maps
use Rattle.pa_examples.proofs.worked.Threads as threads
use Rattle.pa_lists.proofs.Elements.{passes}

-- the test whether a mark is that of a step, or finds a word in use
abbrev uses_by : Option Step → ℕ → Bool
uses_by None w = nat_lt 0 (held_of w + refs_of w)
uses_by (Some p) w = true

abbrev uses : Option Mark → Bool
uses None = true
uses (Some m) = uses_by m.step m.found

in_use : (x : Played) → uses (mark_of x) ≡ true → FindsInUse x
in_use x fits m mark none =
    let here : uses_by m.step m.found ≡ true = subst (λ o. uses o ≡ true) mark fits in
    ltb-true 0 (held_of m.found + refs_of m.found) (subst (λ o. uses_by o m.found ≡ true) none here)

pub all_used : (ps : List Played) → list_all (λ (x : Played). uses (mark_of x)) ps ≡ true → (x : Played) → Contains ps x → FindsInUse x
all_used ps fit x among = in_use x (passes (λ (y : Played). uses (mark_of y)) ps x fit among)

pub known_of : (t : Trace) (r : Run) (ps : List Played) → AreLines (rules_of t) t.lines ps → map entry_of ps ≡ r.entries.items
    → IsLegal t r → ((x : Played) → Contains ps x → FindsInUse x) → IsKnown t (told_by r) (records_of t (told_by r))
known_of t r ps lines told legal used =
    let same : records_of t (told_by r) ≡ ps = ap (played (rules_of t) t.lines) (sym told) ∙
    records_are_lines.same (rules_of t) t.lines ps lines in
    legal_is_known t (told_by r) legal (λ x among. used x (subst (λ zs. Contains zs x) same among))

pub direct_map_is_known : DirectMapIsKnown
direct_map_is_known r is =
    known_of direct_map_trace r direct_map_records maps.lines (sym is.entries) (direct_map_is_filed r is).0
    (all_used direct_map_records refl)

pub two_threads_are_known : TwoThreadsAreKnown
two_threads_are_known r is =
    known_of two_threads_trace r two_threads_records threads.lines (sym is.entries) (two_threads_are_legal r is)
    (all_used two_threads_records refl)
