-- What was read of an input of `audit` to one byte past the limit has the fault of all that follows it.
use Rattle.std.proofs.Common.{◌≡◌, ◌∙◌, ℕ, zero, suc, ◌+◌, ◌≤◌, List, [], ◌∷◌, ◌++◌, Option, Some, None, length, ◌⊎◌, inl, inr, refl, sym, ap, subst, append_assoc, arith}
use Rattle.std.specs.List.{AllByRecursion}
use Rattle.std.proofs.lemmas.Bool.{cases_eq, cases_lt}
use Rattle.std.proofs.lemmas.List.{length-append, append-nil}
use Rattle.pa_trace.specs.Grammar.{last_version}
use Rattle.pa_trace.specs.declared.fault.TraceFault.{TraceFault}
use Rattle.pa_trace.specs.Faults.{with_front, lines_of, IsFirstFault}
use Rattle.pa_trace.proofs.Cuts.{lf_front, other_front}
use Rattle.pa_trace.proofs.Early.{first_early}
use Rattle.pa_trace.proofs.Firsts.{one_fault}
use Rattle.pa_trace.proofs.Found.{some_fault}
use Rattle.pa_run_reader.specs.declared.item.Item.{Item}
use Rattle.pa_run_reader.specs.declared.item.Item.TheVariants as items
use Rattle.pa_run_reader.proofs.TextLines.{lines_joined, item_lines}
use Rattle.pa_audit_input.specs.Input.{most_audited, run_line, BeginsRun, IsParted, IsFirstOfRun, IsFirstOfParts, IsFirstAuditFault}
use Rattle.pa_audit_input.specs.Cutting.{joined}
use Rattle.pa_audit_input.proofs.Lined.{lines_taken, lines_cut}
use Rattle.pa_audit_input.proofs.Cutting.{text_begins}
use Rattle.pa_audit_input.proofs.Parting.{some_parting}

-- ---- the trace's part

long_fault : (e : TraceFault) (p z w : List ℕ) → length p ≡ 4194305 → IsFirstFault last_version e (p ++ z) →
    IsFirstFault last_version e (p ++ w)
long_fault e p z w full h =
    let found = some_fault last_version (omega arith) p (λ t recent input. let s = input.short in omega (arith, s, full)) in
    let same : found.0 ≡ e = one_fault last_version found.0 e (p ++ z) (first_early last_version found.0 p z full found.1) h in
    first_early last_version e p w full (subst (λ (x : TraceFault). IsFirstFault last_version x p) same found.1)

-- what begins longer text begins shorter one
prefix_of : (a b c d : List ℕ) → a ++ b ≡ c ++ d → length c ≤ length a → (v : List ℕ) × (a ≡ c ++ v)
prefix_of a b [] d e short = (a, refl)
prefix_of [] b (x ∷ c) d e short = absurd (omega (arith, short))
prefix_of (y ∷ a) b (x ∷ c) d e short =
    let rest = prefix_of a b c d (cc) (omega (arith, short)) in
    let first : y ≡ x = cc in
    (rest.0, ap (λ (z : ℕ). z ∷ a) first ∙ ap (λ (z : List ℕ). x ∷ z) rest.1)

-- that many bytes of a text that has as many
cut_to : (n : ℕ) (a : List ℕ) → n ≤ length a → (p : List ℕ) × (z : List ℕ) × (a ≡ p ++ z) × (length p ≡ n)
cut_to zero a short = ([], a, refl, refl)
cut_to (suc n) [] short = absurd (omega (arith, short))
cut_to (suc n) (x ∷ a) short =
    let rest = cut_to n a (omega (arith, short)) in
    (x ∷ rest.0, rest.1, ap (λ (z : List ℕ). x ∷ z) rest.2, ap suc rest.3)

-- ---- the run's part

-- the first line of a text of one line, with more after it, is at least as long
abbrev Grows : List ℕ → List ℕ → Type 0
Grows x more = (y : List ℕ) × (ys : List (List ℕ)) × (lines_of (x ++ more) ≡ y ∷ ys) × (length x ≤ length y)

front_some : (b : ℕ) (lines : List (List ℕ)) → (y : List ℕ) × (ys : List (List ℕ)) × (with_front b lines ≡ y ∷ ys) × (1 ≤ length y)
front_some b [] = (b ∷ [], [], refl, omega arith)
front_some b (line ∷ lines) =
    elim (cases_eq b 10) [
      | inl lf ↦ (10 ∷ [], line ∷ lines, rw lf refl, omega arith)
      | inr other ↦ (b ∷ line, lines, other_front b line lines other, omega arith)
    ]

-- a byte that is no LF before a line that grows
front_grows : (b : ℕ) (x more : List ℕ) → (b ≡ 10 → ⊥) → Grows x more → Grows (b ∷ x) more
unfolding lines_of
front_grows b x more other h = (b ∷ h.0, h.1, ap (with_front b) h.2 ∙ other_front b h.0 h.1 other, omega (arith, h.3))

-- a last line that ends past the limit
last_stays : (n before : ℕ) (last : Option Item) (x y : List ℕ) (ys : List (List ℕ)) (e : TraceFault) → before + length x ≡ most_audited + 1
    → length x ≤ length y → IsFirstOfRun n before last (x ∷ []) e → IsFirstOfRun n before last (y ∷ ys) e
last_stays n before last x y ys e full longer (inl h) = inl (omega (arith, full, longer), h.1)
last_stays n before last x y ys e full longer (inr (inl h)) = absurd (let s = h.0 in omega (arith, s, full))
last_stays n before last x y ys e full longer (inr (inr h)) = absurd (let s = h.0 in omega (arith, s, full))

-- a line that comes before others
later_stays : (n before : ℕ) (last : Option Item) (x : List ℕ) (lines others : List (List ℕ)) (e : TraceFault) →
    IsFirstOfRun n before last (x ∷ lines) e
    → ((k : Option Item) → before + length x ≤ most_audited → IsFirstOfRun (n + 1) (before + length x) k lines e
    → IsFirstOfRun (n + 1) (before + length x) k others e) → IsFirstOfRun n before last (x ∷ others) e
later_stays n before last x lines others e (inl h) rest = inl h
later_stays n before last x lines others e (inr (inl h)) rest = inr (inl h)
later_stays n before last x lines others e (inr (inr h)) rest = inr (inr (h.0, h.1, h.2, h.3, h.4, rest (Some h.1) h.0 h.5))

-- an LF at the start is a line
lf_splits : (b : ℕ) (lines : List (List ℕ)) (c : ℕ) (x : List ℕ) → b ≡ 10 → with_front b lines ≡ (b ∷ c ∷ x) ∷ [] → ⊥
lf_splits b lines c x lf e =
    let split : (10 ∷ []) ∷ lines ≡ (b ∷ c ∷ x) ∷ [] = sym (lf_front lines) ∙ ap (λ (z : ℕ). with_front z lines) (sym lf) ∙ e in
    let first : 10 ∷ [] ≡ b ∷ c ∷ x = cc in
    let long = ap length first in
    omega (arith, long)

other_whole : (b : ℕ) (x : List ℕ) (lines : List (List ℕ)) → (b ≡ 10 → ⊥) → (lines ≡ [] → ⊥) →
    with_front b lines ≡ (b ∷ x) ∷ [] → lines ≡ x ∷ []
other_whole b x [] other none e = absurd (none refl)
other_whole b x (line ∷ lines) other none e = let split : (b ∷ line) ∷ lines ≡ (b ∷ x) ∷ [] = sym (other_front b line lines other) ∙ e in cc

-- the rest of a line of two bytes or more is a line
more_grows : (b c : ℕ) (x more : List ℕ) → (b ≡ 10) ⊎ (b ≡ 10 → ⊥) → lines_of (b ∷ c ∷ x) ≡ (b ∷ c ∷ x) ∷ []
    → (lines_of (c ∷ x) ≡ (c ∷ x) ∷ [] → Grows (c ∷ x) more) → Grows (b ∷ c ∷ x) more
unfolding lines_of
more_grows b c x more (inl lf) one rest = absurd (lf_splits b (lines_of (c ∷ x)) c x lf one)
more_grows b c x more (inr other) one rest = front_grows b (c ∷ x) more other
    (rest (other_whole b (c ∷ x) (lines_of (c ∷ x)) other (λ none. let long : suc (length x) ≡ 0 = ap length
    (sym (lines_joined (c ∷ x)) ∙ ap joined none) in omega (arith, long)) one))

-- a text that is one line, with more after it
line_grows : (x more : List ℕ) → lines_of x ≡ x ∷ [] → Grows x more
unfolding lines_of
line_grows [] more one = absurd cc
line_grows (b ∷ []) more one = front_some b (lines_of more)
line_grows (b ∷ c ∷ x) more one = more_grows b c x more (cases_eq b 10) one (line_grows (c ∷ x) more)

run_stays : (lines : List (List ℕ)) (bytes more : List ℕ) (n before : ℕ) (last : Option Item) (e : TraceFault) → lines_of bytes ≡ lines
    → before ≤ most_audited → before + length bytes ≡ most_audited + 1 → IsFirstOfRun n before last lines e
    → IsFirstOfRun n before last (lines_of (bytes ++ more)) e
run_stays [] bytes more n before last e same room full h =
    let empty : length bytes ≡ 0 = ap length (sym (lines_joined bytes) ∙ ap joined same) in
    absurd (omega (arith, empty, room, full))
run_stays (x ∷ []) bytes more n before last e same room full h =
    let whole : bytes ≡ x = sym (lines_joined bytes) ∙ ap joined same ∙ append-nil x in
    let long = ap length whole in
    let grown = line_grows x more (ap lines_of (sym whole) ∙ same) in
    subst (λ (z : List ℕ). IsFirstOfRun n before last (lines_of (z ++ more)) e) (sym whole)
    (subst (λ (z : List (List ℕ)). IsFirstOfRun n before last z e) (sym grown.2)
    (last_stays n before last x grown.0 grown.1 e (omega (arith, long, full)) grown.3 h))
run_stays (x ∷ w ∷ lines) bytes more n before last e same room full h =
    let rest = joined (w ∷ lines) in
    let whole : bytes ≡ x ++ rest = sym (lines_joined bytes) ∙ ap joined same in
    let cut = lines_taken bytes (x ∷ []) (w ∷ lines) same in
    let one : lines_of x ≡ x ∷ [] = ap lines_of (sym (append-nil x)) ∙ cut.0 in
    let front : lines_of (x ++ rest) ≡ lines_of x ++ w ∷ lines =
    ap lines_of (sym whole) ∙ same ∙ ap (λ (z : List (List ℕ)). z ++ w ∷ lines) (sym one) in
    let split : lines_of (x ++ (rest ++ more)) ≡ x ∷ lines_of (rest ++ more) =
    lines_cut x rest (rest ++ more) w lines cut.1 front ∙ ap (λ (z : List (List ℕ)). z ++ lines_of (rest ++ more)) one in
    let all : lines_of (bytes ++ more) ≡ x ∷ lines_of (rest ++ more) =
    ap lines_of (ap (λ (z : List ℕ). z ++ more) whole ∙ append_assoc x rest more) ∙ split in
    let long = ap length whole ∙ length-append x rest in
    subst (λ (z : List (List ℕ)). IsFirstOfRun n before last z e) (sym all)
    (later_stays n before last x (w ∷ lines) (lines_of (rest ++ more)) e h
    (λ k early g. run_stays (w ∷ lines) rest more (n + 1) (before + length x) k e cut.1 early (omega (arith, long, full)) g))

-- ---- all of it

-- if the run's part has begun, its fault stays
begun_fault : (e : TraceFault) (front back more : List ℕ) → length (front ++ back) ≡ most_audited + 1 → IsFirstOfParts e front back
    → IsFirstOfParts e front (back ++ more)
begun_fault e front back more full (inl h) = inl h
begun_fault e front back more full (inr h) =
    let s = h.1.short in
    inr (
      h.0,
      h.1,
      run_stays (lines_of back) back more (length (lines_of front) + 1) (length front) None e refl (omega (arith, s))
          (omega (arith, full, length-append front back)) h.2,
    )

-- a part that is too long for a trace has the fault itself
first_part : (e : TraceFault) (front back : List ℕ) → length front ≡ most_audited + 1 → IsFirstOfParts e front back →
    IsFirstFault last_version e front
first_part e front back full (inl h) = h
first_part e front back full (inr h) = absurd (let s = h.1.short in omega (arith, s, full))

-- the parts if the run's part has begun
begun_early : (e : TraceFault) (bytes more front back line : List ℕ) (lines : List (List ℕ)) → lines_of back ≡ line ∷ lines
    → length bytes ≡ most_audited + 1 → IsParted front back bytes → IsFirstOfParts e front back → IsFirstAuditFault e (bytes ++ more)
begun_early e bytes more front back line lines some full parted fault =
    let run : line ≡ run_line = subst BeginsRun some parted.behind in
    let text : back ++ more ≡ run_line ++ (joined lines ++ more) =
    ap (λ (z : List ℕ). z ++ more) (sym (lines_joined back) ∙ ap joined some ∙ ap (λ (z : List ℕ). z ++ joined lines) run)
    ∙ append_assoc run_line (joined lines) more in
    let cut : lines_of (front ++ back) ≡ lines_of front ++ line ∷ lines =
    ap lines_of (sym parted.parts) ∙ parted.lines ∙ ap (λ (z : List (List ℕ)). lines_of front ++ z) some in
    let parts : bytes ++ more ≡ front ++ (back ++ more) = ap (λ (z : List ℕ). z ++ more) parted.parts ∙ append_assoc front back more in
    record {
      front = front;
      back = back ++ more;
      parted = record {
        parts = parts;
        lines = ap lines_of parts ∙ lines_cut front back (back ++ more) line lines some cut;
        before = parted.before;
        behind = text_begins (back ++ more) (joined lines ++ more) text;
      };
      fault = begun_fault e front back more (ap length (sym parted.parts) ∙ full) fault;
    }

-- no line of a text is `run 1` if the text has one with some lines before it
has_run : (xs : List (List ℕ)) (ys : List (List ℕ)) → AllByRecursion (λ line. line ≡ run_line → ⊥) (xs ++ run_line ∷ ys) → ⊥
has_run [] ys h = h.0 refl
has_run (x ∷ xs) ys h = has_run xs ys h.1

-- the part before `run 1` of a text that begins with one without it is not short
front_long : (bytes more front back : List ℕ) (lines : List (List ℕ)) → lines_of back ≡ lines → length bytes ≡ most_audited + 1
    → AllByRecursion (λ line. line ≡ run_line → ⊥) (lines_of bytes) → IsParted front back (bytes ++ more) → length front ≤ 4194304 → ⊥
front_long bytes more front back [] same full none parted short =
    let empty : length back ≡ 0 = ap length (sym (lines_joined back) ∙ ap joined same) in
    let total = sym (length-append bytes more) ∙ ap length parted.parts ∙ length-append front back in
    omega (arith, empty, total, full, short)
front_long bytes more front back (line ∷ lines) same full none parted short =
    let run : line ≡ run_line = subst BeginsRun same parted.behind in
    let text : back ≡ run_line ++ joined lines = sym (lines_joined back) ∙ ap joined same ∙ ap (λ (z : List ℕ). z ++ joined lines) run in
    let parts : bytes ++ more ≡ (front ++ run_line) ++ joined lines =
    parted.parts ∙ ap (λ (z : List ℕ). front ++ z) text ∙ sym (append_assoc front run_line (joined lines)) in
    let v = prefix_of bytes more (front ++ run_line) (joined lines) parts (omega (arith, length-append front run_line, full, short)) in
    let cut : lines_of (front ++ back) ≡ lines_of front ++ line ∷ lines =
    ap lines_of (sym parted.parts) ∙ parted.lines ∙ ap (λ (z : List (List ℕ)). lines_of front ++ z) same in
    let there : lines_of bytes ≡ lines_of front ++ run_line ∷ lines_of v.0 =
    ap lines_of (v.1 ∙ append_assoc front run_line v.0) ∙ lines_cut front back (run_line ++ v.0) line lines same cut
    ∙ ap (λ (z : List (List ℕ)). lines_of front ++ z) (item_lines items.Head v.0) in
    has_run (lines_of front) (lines_of v.0) (subst (λ (z : List (List ℕ)). AllByRecursion (λ line. line ≡ run_line → ⊥) z) there none)

-- texts that begin with the same 4,194,305 bytes have the same fault
shared_front : (e : TraceFault) (bytes front p z w : List ℕ) → length p ≡ 4194305 → bytes ≡ p ++ w → front ≡ p ++ z →
    IsFirstFault last_version e bytes
    → IsFirstFault last_version e front
shared_front e bytes front p z w full first second h =
    subst (IsFirstFault last_version e) (sym second) (long_fault e p w z full (subst (IsFirstFault last_version e) first h))

-- the part before `run 1` has the fault that the first bytes have
front_fault : (e : TraceFault) (bytes more front back : List ℕ) → length bytes ≡ most_audited + 1 → IsFirstFault last_version e bytes
    → AllByRecursion (λ line. line ≡ run_line → ⊥) (lines_of bytes) → IsParted front back (bytes ++ more) →
    IsFirstFault last_version e front
front_fault e bytes more front back full h none parted =
    let long : 4194305 ≤ length front =
    elim (cases_lt (length front) 4194305) [
      | inl less ↦ absurd (front_long bytes more front back (lines_of back) refl full none parted (omega (arith, less)))
      | inr most ↦ most
    ] in
    let p = cut_to 4194305 front long in
    let w = prefix_of bytes more p.0 (p.1 ++ back)
    (parted.parts ∙ ap (λ (z : List ℕ). z ++ back) p.2 ∙ append_assoc p.0 p.1 back) (let same = p.3 in omega (arith, same, full)) in
    shared_front e bytes front p.0 p.1 w.0 p.3 w.1 p.2 h

-- the parts if it hasn't
whole_early : (e : TraceFault) (bytes more : List ℕ) → length bytes ≡ most_audited + 1 → IsFirstFault last_version e bytes
    → AllByRecursion (λ line. line ≡ run_line → ⊥) (lines_of bytes) → IsFirstAuditFault e (bytes ++ more)
whole_early e bytes more full h none =
    let parts = some_parting (bytes ++ more) in
    record {
      front = parts.0;
      back = parts.1;
      parted = parts.2;
      fault = inl (front_fault e bytes more parts.0 parts.1 full h none parts.2);
    }

early_by : (e : TraceFault) (bytes more front back : List ℕ) (lines : List (List ℕ)) → lines_of back ≡ lines →
    length bytes ≡ most_audited + 1
    → IsParted front back bytes → IsFirstOfParts e front back → IsFirstAuditFault e (bytes ++ more)
early_by e bytes more front back [] none full parted fault =
    let empty : back ≡ [] = sym (lines_joined back) ∙ ap joined none in
    let same : front ≡ bytes = sym (append-nil front) ∙ ap (λ (z : List ℕ). front ++ z) (sym empty) ∙ sym parted.parts in
    whole_early e bytes more full (subst (IsFirstFault last_version e) same (first_part e front back (ap length same ∙ full) fault))
    (subst (λ (z : List ℕ). AllByRecursion (λ line. line ≡ run_line → ⊥) (lines_of z)) same parted.before)
early_by e bytes more front back (line ∷ lines) some full parted fault =
    begun_early e bytes more front back line lines some full parted fault

-- what was read to one byte past the limit has the fault of all that follows it
pub audit_fault_early : (e : TraceFault) (bytes more : List ℕ) → length bytes ≡ most_audited + 1 → IsFirstAuditFault e bytes
    → IsFirstAuditFault e (bytes ++ more)
audit_fault_early e bytes more full h = early_by e bytes more h.front h.back (lines_of h.back) refl full h.parted h.fault
