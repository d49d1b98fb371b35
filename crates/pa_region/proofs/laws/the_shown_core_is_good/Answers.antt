use Rattle.pa_region.proofs.laws.the_shown_core_is_good.Goals as goal

pub returns : goal.returns
returns c words views k = k.holders.good
