-- The parts of a summary, one after the other.
use Rattle.std.proofs.Common.{◌≡◌, ◌∙◌, ℕ, List, [], ◌++◌, codes, refl, ap}
use Rattle.pa_record.specs.declared.entry.Entry.{Entry}
use Rattle.pa_record.specs.declared.report.Tally.{Tally}
use Rattle.pa_record.specs.declared.report.ReportLine.{ReportLine}
use Rattle.pa_record.specs.declared.run.Run.{Run}
use Rattle.pa_summary.specs.SummaryText.{title_line, count_lines, tally_line, sums_at_end, summary_text}

-- the line of two sums that are these numbers
tally_is : (word : List ℕ) (slots bytes : ℕ) (t : Tally) → slots ≡ t.slots → bytes ≡ t.bytes
    → tally_line word (record { slots = slots; bytes = bytes }) ≡ tally_line word t
tally_is word slots bytes t same also = rw (same, also) refl

-- a part of the report that was summed up
part_is : (word : List ℕ) (part : ReportLine → Tally) (ls report : List ReportLine) (slots bytes : ℕ) → ls ≡ report
    → slots ≡ (sums_at_end part ls).slots → bytes ≡ (sums_at_end part ls).bytes
    → tally_line word (record { slots = slots; bytes = bytes }) ≡ tally_line word (sums_at_end part report)
part_is word part ls report slots bytes same few also =
    tally_is word slots bytes (sums_at_end part ls) few also ∙ ap (λ (x : List ReportLine). tally_line word (sums_at_end part x)) same

pub summed : (rounds key : ℕ) (run : Run) (es : List Entry) (ls : List ReportLine) (start a b c d text : List ℕ)
    (ls_slots ls_bytes slots bytes : ℕ)
    → start ≡ [] → a ≡ start ++ title_line rounds key → es ≡ run.entries.items → b ≡ a ++ count_lines es → ls ≡ run.report.items
    → ls_slots ≡ (sums_at_end (λ l. l.live) ls).slots → ls_bytes ≡ (sums_at_end (λ l. l.live) ls).bytes
    → slots ≡ (sums_at_end (λ l. l.quarantined) ls).slots → bytes ≡ (sums_at_end (λ l. l.quarantined) ls).bytes
    → c ≡ b ++ tally_line (codes "live ") (record { slots = ls_slots; bytes = ls_bytes })
    → d ≡ c ++ tally_line (codes "quarantined ") (record { slots = slots; bytes = bytes }) → text ≡ d → text ≡ summary_text rounds key run
summed rounds key run es ls start a b c d text ls_slots ls_bytes slots bytes none title entries counts report few few_bytes many many_bytes
    live quarantined is =
    let titled : a ≡ title_line rounds key = title ∙ ap (λ (x : List ℕ). x ++ title_line rounds key) none in
    let counted : b ≡ title_line rounds key ++ count_lines run.entries.items =
    counts ∙ ap (λ (x : List ℕ). x ++ count_lines es) titled ∙ ap (λ (x : List Entry). title_line rounds key ++ count_lines x) entries in
    let first = title_line rounds key ++ count_lines run.entries.items in
    let lived : c ≡ first ++ tally_line (codes "live ") (sums_at_end (λ l. l.live) run.report.items) =
    live ∙ ap (λ (x : List ℕ). x ++ tally_line (codes "live ") (record { slots = ls_slots; bytes = ls_bytes })) counted
    ∙ ap (λ (x : List ℕ). first ++ x) (part_is (codes "live ") (λ l. l.live) ls run.report.items ls_slots ls_bytes report few few_bytes) in
    let second = first ++ tally_line (codes "live ") (sums_at_end (λ l. l.live) run.report.items) in
    is ∙ quarantined ∙ ap (λ (x : List ℕ). x ++ tally_line (codes "quarantined ") (record { slots = slots; bytes = bytes })) lived
    ∙ ap (λ (x : List ℕ). second ++ x)
    (part_is (codes "quarantined ") (λ l. l.quarantined) ls run.report.items slots bytes report many many_bytes)
