-- The parts of an input of `audit` are two, it has one first faulty line at most, and an input within the limits has none.
use Rattle.std.proofs.Common.{◌≡◌, ◌∙◌, ℕ, ◌+◌, ◌≤◌, List, [], ◌∷◌, ◌++◌, map, Option, Some, None, length, inl, inr, refl, sym, ap, subst, arith}
use Rattle.std.specs.List.{AllByRecursion, flat_map}
use Rattle.std.proofs.lemmas.List.{length-append}
use Rattle.std.proofs.lemmas.Grind.{flat_map-append}
use Rattle.pa_trace.specs.Grammar.{last_version}
use Rattle.pa_trace.specs.declared.script.Trace.{Trace}
use Rattle.pa_trace.specs.declared.fault.TraceFault.{TraceFault}
use Rattle.pa_trace.specs.Limits.{IsInput}
use Rattle.pa_trace.specs.Faults.{lines_of}
use Rattle.pa_trace.proofs.Firsts.{one_fault, no_fault_of_input}
use Rattle.pa_record.specs.declared.run.Run.{Run}
use Rattle.pa_record.specs.RunText.{IsRunText}
use Rattle.pa_run_reader.specs.declared.item.Item.{Item}
use Rattle.pa_run_reader.specs.Item.{item_text}
use Rattle.pa_run_reader.specs.Order.{AreInOrder, items_of}
use Rattle.pa_run_reader.proofs.OneReading.{same_item, items_lines}
use Rattle.pa_run_reader.proofs.Telling.{items_text, items_ordered}
use Rattle.pa_run_reader.proofs.TextLines.{lines_joined}
use Rattle.pa_audit_input.specs.Cutting.{joined}
use Rattle.pa_audit_input.proofs.Lined.{same_or, lines_taken}
use Rattle.pa_audit_input.specs.Input.{most_audited, run_line, BeginsRun, IsParted, IsAudited, IsFirstOfRun, IsFirstOfParts, IsFirstAuditFault}

-- ---- the parts are two

-- lists that are cut before the first `run 1` are cut at one place
one_cut : (xs ys zs ws : List (List ℕ)) → xs ++ ys ≡ zs ++ ws → AllByRecursion (λ line. line ≡ run_line → ⊥) xs → BeginsRun ys
    → AllByRecursion (λ line. line ≡ run_line → ⊥) zs → BeginsRun ws → (xs ≡ zs) × (ys ≡ ws)
one_cut [] ys [] ws e h b k d = (refl, e)
one_cut [] [] (z ∷ zs) ws e h b k d = absurd cc
one_cut [] (y ∷ ys) (z ∷ zs) ws e h b k d = let same : y ≡ z = cc in absurd (k.0 (sym same ∙ b))
one_cut (x ∷ xs) ys [] [] e h b k d = absurd cc
one_cut (x ∷ xs) ys [] (w ∷ ws) e h b k d = let same : x ≡ w = cc in absurd (h.0 (same ∙ d))
one_cut (x ∷ xs) ys (z ∷ zs) ws e h b k d =
    let rest = one_cut xs ys zs ws (cc) h.1 b k.1 d in
    let same : x ≡ z = cc in
    (ap (λ (l : List ℕ). l ∷ xs) same ∙ ap (λ (l : List (List ℕ)). z ∷ l) rest.0, rest.1)

-- texts of the same lines are the same
one_text : (a b : List ℕ) → lines_of a ≡ lines_of b → a ≡ b
one_text a b e = sym (lines_joined a) ∙ ap joined e ∙ lines_joined b

pub one_parting : (front back other behind bytes : List ℕ) → IsParted front back bytes → IsParted other behind bytes
    → (front ≡ other) × (back ≡ behind)
one_parting front back other behind bytes h k =
    let cut = one_cut (lines_of front) (lines_of back) (lines_of other) (lines_of behind)
    (sym h.lines ∙ k.lines) h.before h.behind k.before k.behind in
    (one_text front other cut.0, one_text back behind cut.1)

-- any bytes have two parts
parted_lines : (lines : List (List ℕ)) → (xs : List (List ℕ)) × (ys : List (List ℕ)) × (lines ≡ xs ++ ys)
    × AllByRecursion (λ line. line ≡ run_line → ⊥) xs × BeginsRun ys
parted_lines [] = ([], [], refl, tt, tt)
parted_lines (line ∷ lines) =
    elim (same_or line run_line) [
      | inl run ↦ ([], line ∷ lines, refl, tt, run)
      | inr other ↦ let rest = parted_lines lines in
          (line ∷ rest.0, rest.1, ap (λ (z : List (List ℕ)). line ∷ z) rest.2, (other, rest.3), rest.4)
    ]

parting_of : (bytes : List ℕ) (xs ys : List (List ℕ)) → lines_of bytes ≡ xs ++ ys → AllByRecursion (λ line. line ≡ run_line → ⊥) xs
    → BeginsRun ys → (front : List ℕ) × (back : List ℕ) × IsParted front back bytes
parting_of bytes xs ys e none begins =
    let cut = lines_taken bytes xs ys e in (
      joined xs,
      joined ys,
      record {
        parts = sym (lines_joined bytes) ∙ ap joined e ∙ flat_map-append (λ (line : List ℕ). line) xs ys;
        lines = rw (cut.0, cut.1) e;
        before = rw cut.0 none;
        behind = rw cut.1 begins;
      },
    )

pub some_parting : (bytes : List ℕ) → (front : List ℕ) × (back : List ℕ) × IsParted front back bytes
some_parting bytes =
    let cut = parted_lines (lines_of bytes) in
    parting_of bytes cut.0 cut.1 cut.2 cut.3 cut.4

-- ---- the first faulty line of the run's part

-- the lines of a run have at most one first fault
one_of_run : (lines : List (List ℕ)) (n before : ℕ) (last : Option Item) (d e : TraceFault) → IsFirstOfRun n before last lines d
    → IsFirstOfRun n before last lines e → d ≡ e
one_of_run [] n before last d e h k = h.0 ∙ sym k.0
one_of_run (line ∷ lines) n before last d e (inl h) (inl k) = h.1 ∙ sym k.1
one_of_run (line ∷ lines) n before last d e (inl h) (inr (inl k)) = absurd (omega (arith, h.0, k.0))
one_of_run (line ∷ lines) n before last d e (inl h) (inr (inr k)) = absurd (omega (arith, h.0, k.0))
one_of_run (line ∷ lines) n before last d e (inr (inl h)) (inl k) = absurd (omega (arith, h.0, k.0))
one_of_run (line ∷ lines) n before last d e (inr (inl h)) (inr (inl k)) = h.1 ∙ sym k.1
one_of_run (line ∷ lines) n before last d e (inr (inl h)) (inr (inr k)) = absurd (h.2 k.1 k.2 k.3 k.4)
one_of_run (line ∷ lines) n before last d e (inr (inr h)) (inl k) = absurd (omega (arith, h.0, k.0))
one_of_run (line ∷ lines) n before last d e (inr (inr h)) (inr (inl k)) = absurd (k.2 h.1 h.2 h.3 h.4)
one_of_run (line ∷ lines) n before last d e (inr (inr h)) (inr (inr k)) =
    let same : h.1 ≡ k.1 = same_item last h.1 k.1 h.2 k.2 h.3 k.3 (sym h.4 ∙ k.4) in
    one_of_run lines (n + 1) (before + length line) (Some k.1) d e
    (subst (λ (i : Item). IsFirstOfRun (n + 1) (before + length line) (Some i) lines d) same h.5) k.5

-- items in order that end early have none
none_of_run : (is : List Item) (n before : ℕ) (last : Option Item) (e : TraceFault) → AreInOrder last is
    → before + length (flat_map item_text is) ≤ most_audited → IsFirstOfRun n before last (map item_text is) e → ⊥
none_of_run [] n before last e order short h = h.1 order
none_of_run (i ∷ is) n before last e order short (inl h) =
    omega (arith, h.0, length-append (item_text i) (flat_map item_text is))
none_of_run (i ∷ is) n before last e order short (inr (inl h)) = h.2 i order.0 order.1 refl
none_of_run (i ∷ is) n before last e order short (inr (inr h)) =
    let same : i ≡ h.1 = same_item last i h.1 order.0 h.2 order.1 h.3 h.4 in
    none_of_run is (n + 1) (before + length (item_text i)) (Some i) e order.2
    (omega (arith, length-append (item_text i) (flat_map item_text is)))
    (subst (λ (k : Item). IsFirstOfRun (n + 1) (before + length (item_text i)) (Some k) (map item_text is) e) (sym same) h.5)

no_fault_of_run : (r : Run) (back : List ℕ) (n before : ℕ) (e : TraceFault) → IsRunText r back → before + length back ≤ most_audited
    → IsFirstOfRun n before None (lines_of back) e → ⊥
no_fault_of_run r back n before e h short first =
    let text : back ≡ flat_map item_text (items_of r) = h.text ∙ items_text r in
    let lines : lines_of back ≡ map item_text (items_of r) = ap lines_of text ∙ items_lines (items_of r) in
    none_of_run (items_of r) n before None e (items_ordered r back h) (subst (λ (z : List ℕ). before + length z ≤ most_audited) text short)
    (subst (λ (z : List (List ℕ)). IsFirstOfRun n before None z e) lines first)

-- ---- the first faulty line of all

-- the first fault of the bytes is that of their parts
fault_of_parts : (e : TraceFault) (front back bytes : List ℕ) → IsParted front back bytes →
    IsFirstAuditFault e bytes → IsFirstOfParts e front back
fault_of_parts e front back bytes parted h =
    let same = one_parting h.front h.back front back bytes h.parted parted in
    subst (λ (z : List ℕ). IsFirstOfParts e front z) same.1 (subst (λ (z : List ℕ). IsFirstOfParts e z h.back) same.0 h.fault)

one_of_parts : (d e : TraceFault) (front back : List ℕ) → IsFirstOfParts d front back → IsFirstOfParts e front back → d ≡ e
one_of_parts d e front back (inl h) (inl k) = one_fault last_version d e front h k
one_of_parts d e front back (inl h) (inr k) = absurd (no_fault_of_input last_version k.0 front d k.1.limits.version.1 k.1 h)
one_of_parts d e front back (inr h) (inl k) = absurd (no_fault_of_input last_version h.0 front e h.1.limits.version.1 h.1 k)
one_of_parts d e front back (inr h) (inr k) =
    one_of_run (lines_of back) (length (lines_of front) + 1) (length front) None d e h.2 k.2

pub one_audit_fault : (d e : TraceFault) (bytes : List ℕ) → IsFirstAuditFault d bytes → IsFirstAuditFault e bytes → d ≡ e
one_audit_fault d e bytes h k = one_of_parts d e h.front h.back h.fault (fault_of_parts e h.front h.back bytes h.parted k)

none_of_parts : (t : Trace) (r : Run) (front back : List ℕ) (e : TraceFault) → IsInput t front → IsRunText r back
    → length front + length back ≤ most_audited → IsFirstOfParts e front back → ⊥
none_of_parts t r front back e input run short (inl h) = no_fault_of_input last_version t front e input.limits.version.1 input h
none_of_parts t r front back e input run short (inr h) =
    no_fault_of_run r back (length (lines_of front) + 1) (length front) e run short h.2

pub no_audit_fault : (t : Trace) (r : Run) (n : ℕ) (bytes : List ℕ) (e : TraceFault) → IsAudited t r n bytes → IsFirstAuditFault e bytes → ⊥
no_audit_fault t r n bytes e input h =
    let total : length bytes ≡ length input.front + length input.back =
    ap length input.parted.parts ∙ length-append input.front input.back in
    none_of_parts t r input.front input.back e input.trace input.run (let s = input.short in omega (arith, total, s))
    (fault_of_parts e input.front input.back bytes input.parted h)
