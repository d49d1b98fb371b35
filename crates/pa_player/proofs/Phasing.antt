-- The lines of the report at the end of a phase are reported one after the other.
use Rattle.std.proofs.Common.{◌≡◌, ℕ, suc, ◌+◌, ◌-◌, ◌<◌, List, [], ◌∷◌, ◌++◌, refl, sym, ap, ◌∙◌, subst, arith, append_assoc}
use Rattle.std.proofs.lemmas.List.{append-nil}
use Rattle.pa_record.specs.declared.report.ReportLine.{ReportLine}
use Rattle.pa_player.specs.Player.{Player}
use Rattle.pa_player.specs.Changes.{report_line, report_lines}

-- the player with this report
abbrev pub with_report : Player → List ReportLine → Player
with_report p report = record p { told = record p.told { report = report } }

-- The lines of the first n partitions were reported: with the rest, all are.
pub record IsToldFor (n : ℕ) (p s : Player) : Type 0 where
  pub same : s ≡ with_report p s.told.report
  pub rest : s.told.report ++ report_lines p n (p.partitions - n) ≡ p.told.report ++ report_lines p 0 p.partitions

pub report_start : (p : Player) → IsToldFor 0 p p
report_start p = let whole : p.partitions - 0 ≡ p.partitions = omega arith in
    record { same = refl; rest = ap (λ n. p.told.report ++ report_lines p 0 n) whole }

pub report_more : (n : ℕ) (p s r : Player) (line : ReportLine) → IsToldFor n p s → n < p.partitions → line ≡ report_line s n
    → r ≡ with_report s (s.told.report ++ line ∷ []) → IsToldFor (n + 1) p r
report_more n p s r line h lt is after =
    let next = s.told.report ++ line ∷ [] in
    let left : p.partitions - n ≡ suc (p.partitions - (n + 1)) = omega arith in
    let m = p.partitions - (n + 1) in
    let here : line ≡ report_line p n = is ∙ ap (λ z. report_line z n) h.same in
    let whole : next ++ report_lines p (n + 1) m ≡ p.told.report ++ report_lines p 0 p.partitions =
    append_assoc s.told.report (line ∷ []) (report_lines p (n + 1) m)
    ∙ ap (λ z. s.told.report ++ (z ∷ report_lines p (n + 1) m)) here
    ∙ sym (ap (λ k. s.told.report ++ report_lines p n k) left) ∙ h.rest in
    let it : IsToldFor (n + 1) p (with_report s next) = record { same = ap (λ z. with_report z next) h.same; rest = whole } in
    subst (IsToldFor (n + 1) p) (sym after) it

pub report_end : (n : ℕ) (p s : Player) → IsToldFor n p s → n ≡ p.partitions →
    s ≡ with_report p (p.told.report ++ report_lines p 0 p.partitions)
report_end n p s h e =
    let none : p.partitions - n ≡ 0 = omega arith in
    h.same ∙ ap (with_report p) (sym (append-nil s.told.report) ∙ sym (ap (λ k. s.told.report ++ report_lines p n k) none) ∙ h.rest)
