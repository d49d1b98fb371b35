-- A line of the report: what is read is spelled so, and what is spelled so is read.
use Rattle.std.proofs.Common.{◌≡◌, ℕ, ◌<◌, List, [], ◌∷◌, ◌++◌, codes, Some, refl, sym, ap, ◌∙◌, append_assoc, arith}
use Rattle.std.specs.Fmt.{decimal}
use Rattle.pa_text.specs.Reading.{IsStop}
use Rattle.pa_record.specs.declared.report.Tally.{Tally}
use Rattle.pa_record.specs.declared.report.ReportLine.{ReportLine}
use Rattle.pa_record.specs.Bits.{TallyInBits, ReportInBits}
use Rattle.pa_record.specs.Text.{field_text, tally_text, places_text, bytes_text, spans_text, report_text}
use Rattle.pa_record.proofs.Fields.{cut3, cut4, cut6}
use Rattle.pa_run_reader.specs.declared.other.Places.{Places}
use Rattle.pa_run_reader.specs.declared.other.States.{States}
use Rattle.pa_run_reader.specs.Lines.{tally_in, PlacesFit, StatesFit, places_before, states_before, places_in, states_in, report_of, report_in}
use Rattle.pa_run_reader.proofs.Fields.{behind_again, below_again, field_again, wide_field_again}

tally_again : (w : List ℕ) (t : Tally) (rest : List ℕ) → TallyInBits t → IsStop rest → tally_in w (tally_text w t ++ rest) ≡ Some (t, rest)
unfolding tally_in
tally_again w t rest fits stop =
    ap (tally_in w) (cut3 w (decimal t.slots) (field_text (codes " ") t.bytes) rest)
    ∙ rw (
      wide_field_again w t.slots (codes " " ++ (decimal t.bytes ++ rest)) fits.0 refl,
      wide_field_again (codes " ") t.bytes rest fits.1 stop,
    ) refl

places_again : (p : Places) (x : List ℕ) → PlacesFit p → IsStop x → places_in (places_before p x) ≡ Some (p, x)
unfolding places_in
places_again p x fits stop =
    let root : List ℕ = tally_text (codes " root ") p.root ++ x in
    let cached : List ℕ = tally_text (codes " cached ") p.cached ++ root in
    let quarantined : List ℕ = tally_text (codes " quarantined ") p.quarantined ++ cached in
    let live : List ℕ = tally_text (codes " live ") p.live ++ quarantined in
    rw (
      below_again 4294967296 p.phase (codes " " ++ (decimal p.partition ++ live)) fits.0 (omega arith) refl,
      field_again (codes " ") 4294967296 p.partition live fits.1 (omega arith) refl,
      tally_again (codes " live ") p.live quarantined fits.2 refl,
      tally_again (codes " quarantined ") p.quarantined cached fits.3 refl,
      tally_again (codes " cached ") p.cached root fits.4 refl,
      tally_again (codes " root ") p.root x fits.5 stop,
    ) refl

states_again : (s : States) (x : List ℕ) → StatesFit s → IsStop x → states_in (states_before s x) ≡ Some (s, x)
unfolding states_in
states_again s x fits stop =
    let decommitted : List ℕ = codes " decommitted " ++ (decimal s.decommitted ++ x) in
    let empty : List ℕ = codes " empty " ++ (decimal s.empty ++ decommitted) in
    let active : List ℕ = codes " active " ++ (decimal s.active ++ empty) in
    rw (
      field_again (codes " full ") 4294967296 s.full active fits.0 (omega arith) refl,
      field_again (codes " active ") 4294967296 s.active empty fits.1 (omega arith) refl,
      field_again (codes " empty ") 4294967296 s.empty decommitted fits.2 (omega arith) refl,
      field_again (codes " decommitted ") 4294967296 s.decommitted x fits.3 (omega arith) stop,
    ) refl

-- the parts of a line
pub places_of : ReportLine → Places
places_of s = record {
  phase = s.phase;
  partition = s.partition;
  live = s.live;
  quarantined = s.quarantined;
  cached = s.cached;
  root =
      s.root;
}

pub states_of : ReportLine → States
states_of s = record { full = s.full; active = s.active; empty = s.empty; decommitted = s.decommitted }

-- the line after its `s `
abbrev pub line_before : Places → ℕ → ℕ → States → List ℕ → List ℕ
line_before p committed reserved s x =
    places_before p (codes " committed " ++ (decimal committed ++ (codes " reserved " ++ (decimal reserved ++ states_before s x))))

line_again : (p : Places) (committed reserved : ℕ) (s : States) (rest : List ℕ) → PlacesFit p → StatesFit s →
    committed < 18446744073709551616 → reserved < 18446744073709551616
    → report_in (line_before p committed reserved s (10 ∷ rest)) ≡ Some (report_of p committed reserved s, rest)
unfolding report_in
line_again p committed reserved s rest hp hs hc hr =
    let states : List ℕ = states_before s (10 ∷ rest) in
    rw (
      places_again p (codes " committed " ++ (decimal committed ++ (codes " reserved " ++ (decimal reserved ++ states)))) hp refl,
      wide_field_again (codes " committed ") committed (codes " reserved " ++ (decimal reserved ++ states)) hc refl,
      wide_field_again (codes " reserved ") reserved states hr refl,
      states_again s (10 ∷ rest) hs refl,
      behind_again (codes "\n") rest,
    ) refl

places_cut : (p : Places) (committed reserved : ℕ) (s : States) (x : List ℕ) → places_text (report_of p committed reserved s) ++
    x ≡ codes "s " ++ places_before p x
unfolding places_text
places_cut p committed reserved s x =
    cut6 (field_text (codes "s ") p.phase) (field_text (codes " ") p.partition) (tally_text (codes " live ") p.live)
    (tally_text (codes " quarantined ") p.quarantined)
    (tally_text (codes " cached ") p.cached) (tally_text (codes " root ") p.root) x

tail_cut : (p : Places) (committed reserved : ℕ) (s : States) (x : List ℕ) → bytes_text (report_of p committed reserved s) ++
    (spans_text (report_of p committed reserved s) ++ x)
    ≡ codes " committed " ++ (decimal committed ++ (codes " reserved " ++ (decimal reserved ++ states_before s x)))
unfolding spans_text
tail_cut p committed reserved s x =
    append_assoc (field_text (codes " committed ") committed) (field_text (codes " reserved ") reserved)
    (spans_text (report_of p committed reserved s) ++ x)
    ∙ ap (λ (w : List ℕ). field_text (codes " committed ") committed ++ (field_text (codes " reserved ") reserved ++ w))
    (cut4 (field_text (codes " full ") s.full) (field_text (codes " active ") s.active) (field_text (codes " empty ") s.empty)
    (field_text (codes " decommitted ") s.decommitted) x)

line_cut : (p : Places) (committed reserved : ℕ) (s : States) (rest : List ℕ) → report_text (report_of p committed reserved s) ++
    rest ≡ codes "s " ++ line_before p committed reserved s (10 ∷ rest)
line_cut p committed reserved s rest =
    let l : ReportLine = report_of p committed reserved s in
    cut4 (places_text l) (bytes_text l) (spans_text l) (10 ∷ []) rest ∙
    ap (λ (w : List ℕ). places_text l ++ w) (tail_cut p committed reserved s (10 ∷ rest))
    ∙ places_cut p committed reserved s (codes " committed " ++
    (decimal committed ++ (codes " reserved " ++ (decimal reserved ++ states_before s (10 ∷ rest)))))

-- what was read of a line's parts
pub line_spelled : (p : Places) (committed reserved : ℕ) (s : States) (bytes a b c d rest : List ℕ) → bytes ≡ places_before p a →
    a ≡ codes " committed " ++ (decimal committed ++ b)
    → b ≡ codes " reserved " ++ (decimal reserved ++ c) → c ≡ states_before s d → d ≡ codes "\n" ++ rest → codes "s " ++
    bytes ≡ report_text (report_of p committed reserved s) ++ rest
line_spelled p committed reserved s bytes a b c d rest e f g h k =
    ap (λ (w : List ℕ). codes "s " ++ w)
    (e ∙ ap (places_before p) (f ∙ ap (λ (w : List ℕ). codes " committed " ++ (decimal committed ++ w)) (g
    ∙ ap (λ (w : List ℕ). codes " reserved " ++ (decimal reserved ++ w)) (h ∙ ap (states_before s) k)))) ∙
    sym (line_cut p committed reserved s rest)

pub report_again : (l : ReportLine) (rest : List ℕ) → ReportInBits l →
    report_in (line_before (places_of l) l.committed l.reserved (states_of l) (10 ∷ rest)) ≡ Some (l, rest)
unfolding places_of states_of
report_again l rest fits =
    line_again (places_of l) l.committed l.reserved (states_of l) rest
    (fits.phase, fits.partition, fits.live, fits.quarantined, fits.cached, fits.root)
    (fits.full, fits.active, fits.empty, fits.decommitted) fits.committed fits.reserved

pub report_cut : (l : ReportLine) (rest : List ℕ) → report_text l ++ rest ≡ codes "s " ++
    line_before (places_of l) l.committed l.reserved (states_of l) (10 ∷ rest)
unfolding places_of states_of
report_cut l rest = line_cut (places_of l) l.committed l.reserved (states_of l) rest
