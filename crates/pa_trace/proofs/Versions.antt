-- Numbers of a version: the most super pages of a region, the plain partitions, and the one spelling of version 1.
use Rattle.std.proofs.Common.{◌≡◌, ℕ, ◌<◌, ◌≤◌, ◌+◌, Bool, true, false, List, [], ◌∷◌, codes, refl, sym, ap, subst, ◌∙◌, arith}
use Rattle.std.specs.Prelude.{nat_le, if◌then◌else◌}
use Rattle.std.proofs.lemmas.Bool.{lt-leb}
use Rattle.pa_text.specs.Numeral.{IsNumeral}
use Rattle.pa_text.proofs.Numerals.{one_numeral}
use Rattle.pa_trace.specs.declared.line.Head.{Head}
use Rattle.pa_trace.specs.declared.script.Trace.{Trace}
use Rattle.pa_trace.specs.Grammar.{IsToldPlain, head_of_trace, tells_plain}
use Rattle.pa_trace.specs.Rules.{first_head, rules_of}
use Rattle.pa_trace.specs.Limits.{IsHeadWithin, most_region, most_plain}

most_by : (b : Bool) → (if b then 16 else 64) ≤ 64
most_by true = omega arith
most_by false = omega arith

-- no version has more than 64 super pages
pub region_most : (version : ℕ) → most_region version ≤ 64
region_most version = most_by (nat_le version 1)

-- ---- plain partitions

plain_by : (b : Bool) (partitions : ℕ) → (if b then partitions else 0) ≤ partitions
plain_by true partitions = omega arith
plain_by false partitions = omega arith

-- no more partitions are plain than there are
pub plain_most : (version partitions : ℕ) → most_plain version partitions ≤ partitions
plain_most version partitions = plain_by (tells_plain version) partitions

-- a version below 3 doesn't tell how many partitions are plain
pub tells_none : (version : ℕ) → version < 3 → tells_plain version ≡ false
tells_none version old = lt-leb 3 version old

-- where the head doesn't tell how many partitions are plain, none is
pub told_plain : (h : Head) → IsHeadWithin h → IsToldPlain h
told_plain h w none =
    let few : h.plain ≤ 0 = subst (λ b. h.plain ≤ (if b then h.partitions else 0)) none w.3 in
    omega (arith, few)

-- below version 3 no partition is plain
pub none_plain : (h : Head) → h.version < 3 → IsHeadWithin h → h.plain ≡ 0
none_plain h old w = told_plain h w (tells_none h.version old)

-- a trace's plain partitions are behind those that aren't
pub plain_parted : (t : Trace) → IsHeadWithin (head_of_trace t) → (rules_of t).plain_from + t.plain ≡ t.partitions
plain_parted t w = omega (arith, w.3, plain_most t.version t.partitions)

-- below version 3 the first plain partition is the number after the last one's
pub plain_from_end : (t : Trace) → t.version < 3 → IsHeadWithin (head_of_trace t) → (rules_of t).plain_from ≡ t.partitions
plain_from_end t old w = omega (arith, none_plain (head_of_trace t) old w)

-- ---- version 1

-- a head of version 1 within the limits, by its other numbers
pub first_is : (h : Head) → h.version ≡ 1 → IsHeadWithin h → h ≡ first_head h.region h.partitions h.threads
first_is h is w =
    let none : h.plain ≡ 0 = none_plain h (omega (arith, is)) w in
    ap (λ v. record h { version = v }) is ∙ ap (λ q. record (first_head h.region h.partitions h.threads) { plain = q }) none

pub first_within : (h : Head) → h.version ≡ 1 → IsHeadWithin h → IsHeadWithin (first_head h.region h.partitions h.threads)
first_within h is w = subst IsHeadWithin (first_is h is w) w

-- the digit 1 is the numeral of 1, and no other text is
pub one_spelled : IsNumeral 1 (codes "1")
one_spelled = record { digits = ((omega arith, omega arith), tt); written = λ e. cc; canonical = λ rest e. cc; value = refl }

pub one_only : (v : List ℕ) → IsNumeral 1 v → v ≡ codes "1"
one_only v h = one_numeral 1 v (codes "1") h one_spelled
