-- Version 1 is what it was when there was no other version.
use Rattle.std.proofs.Common.{◌≡◌, ℕ, false, List, refl, ◌∙◌, ap, inl, inr, arith}
use Rattle.std.proofs.lemmas.Bool.{lt-leb}
use Rattle.pa_buckets.proofs.Facts.{limit_of-first, limit_of-second, limit_of-third, limit_of-last}
use Rattle.pa_trace.specs.declared.script.Op.{Op}
use Rattle.pa_trace.specs.declared.script.Op.TheVariants as ops
use Rattle.pa_trace.specs.declared.script.Rules.{Rules}
use Rattle.pa_trace.specs.declared.script.Trace.{Trace}
use Rattle.pa_trace.specs.Limits.{IsOpWithin, IsWithinLimits}
use Rattle.pa_trace.specs.Rules.{first_rules, rules_of}
use Rattle.pa_trace.proofs.Versions.{plain_from_end}
use Rattle.pa_record.specs.declared.numbered.Numbered.{Numbered}
use Rattle.pa_rules.specs.Registers.{is_plain_op}
use Rattle.pa_rules.proofs.Sums.{NoneBut, slots_sparse, bytes_sparse, purge_sparse}
use Rattle.pa_rules.proofs.Versions.{class_first}
use Rattle.pa_examples.specs.FirstVersion.{AreFirstLists, FirstVersionIsKept}

none_past : (lists : ℕ → List Numbered) → AreFirstLists lists → NoneBut 0 59 lists
none_past lists h c (inl low) = absurd (omega arith)
none_past lists h c (inr past) = h c (omega arith)

-- a trace of version 1 tells no plain partitions
its_rules : (t : Trace) → IsWithinLimits t → t.version ≡ 1 → rules_of t ≡ first_rules t.partitions
its_rules t h first =
    ap {B = Rules} (λ version. record { version = version; plain_from = (rules_of t).plain_from }) first
    ∙ ap {B = Rules} (λ plain_from. record { version = 1; plain_from = plain_from }) (plain_from_end t (omega (arith, first)) h.head)

-- so no op asks for a plain slot
all_counted : (partitions : ℕ) (op : Op) → IsOpWithin partitions op → is_plain_op (first_rules partitions) op ≡ false
all_counted partitions (ops.Alloc reg partition size) within = lt-leb partitions partition within.1
all_counted partitions (ops.Copy from to) within = refl
all_counted partitions (ops.Reset reg) within = refl
all_counted partitions (ops.Free reg) within = refl
all_counted partitions (ops.Write reg value) within = refl
all_counted partitions (ops.Read reg place) within = refl
all_counted partitions (ops.Swap cell reg) within = refl
all_counted partitions ops.Purge within = refl

pub first_version_is_kept : FirstVersionIsKept
first_version_is_kept = record {
  classes = class_first;
  tiny = limit_of-first;
  small = limit_of-second;
  medium = limit_of-third;
  large = limit_of-last;
  slots = λ lists h. slots_sparse lists (none_past lists h);
  bytes = λ lists h. bytes_sparse lists (none_past lists h);
  purges = λ lists h. purge_sparse lists (none_past lists h);
  rules = its_rules;
  counted = all_counted;
}
