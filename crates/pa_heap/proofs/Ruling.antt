-- What a size asks for in a version that is another one's name.
use Rattle.std.proofs.Common.{◌≡◌, ℕ, sym, subst}
use Rattle.pa_buckets.specs.Classes.{IsClassIn}
use Rattle.pa_rules.specs.Sizes.{IsMapSize}

pub class_as : (version other raw c : ℕ) → version ≡ other → IsClassIn other raw c → IsClassIn version raw c
class_as version other raw c is of = subst (λ v. IsClassIn v raw c) (sym is) of

pub map_as : (version other size : ℕ) → version ≡ other → IsMapSize other size → IsMapSize version size
map_as version other size is direct = subst (λ v. IsMapSize v size) (sym is) direct
