use Rattle.std.proofs.Common.{subst}
use Rattle.pa_legal.proofs.Titling.{one_kind}
use Rattle.pa_rules.specs.Sizes.{HasClass}
use Rattle.pa_audit_holders.proofs.laws.one_home.Goals as goal

pub returns : goal.returns
returns c = λ version supers partitions ps pools roots s same r h.
    let kind = one_kind supers partitions ps pools roots s r h in
    record {
      class = kind.class;
      real = λ p d of. let (x, among, has) = kind.real p d of in subst (λ v. HasClass v d) (same x among) has;
      direct = kind.direct;
      either = kind.either;
    }
