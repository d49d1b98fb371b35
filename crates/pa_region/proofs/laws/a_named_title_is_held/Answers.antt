use Rattle.pa_region.proofs.laws.a_named_title_is_held.Goals as goal

pub returns : goal.returns
returns c words views t k known = (
  k.named.well t known,
  λ u other start born. k.named.one_name t u known other start born,
  k.named.held t known,
)
