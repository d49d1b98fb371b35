-- A root that has nothing is sound.
use Rattle.std.proofs.Common.{ℕ, refl, ap, arith, inl, inr}
use Rattle.std.specs.Prelude.{map}
use Rattle.pa_region.specs.declared.view.Made.{Made}
use Rattle.pa_record.specs.Root.{new_root}
use Rattle.pa_lists.proofs.Members.{not_in_none}
use Rattle.pa_root.specs.Keeping.{IsInRest}
use Rattle.pa_root.specs.Laws.{FirstIsSound}

no_rest : (j b : ℕ) → IsInRest new_root j b → ⊥
no_rest j b (inl (at, among, born, inside, away)) = not_in_none at among
no_rest j b (inr (t, first, among, born, start, inside, away)) = not_in_none t among

pub first_is_sound : FirstIsSound
first_is_sound p v first = record {
  journal = record {
    partition = first.partition;
    hosts = first.hosts;
    listed = ap (map (λ (m : Made). m.numbers)) first.empty;
    fits = record { replays = tt; rise = tt };
    replayed = refl;
  };
  titles = record {
    has = λ t (s, among, n, below, e). absurd (not_in_none s among);
    made = λ t free. let none = first.frees t in absurd (omega arith);
    with_root = λ t free out. let none = first.frees t in absurd (omega arith);
    unused = first.handles;
    budget = first.budget;
  };
  numbers = record {
    numbered = λ name. tt;
    known = λ t free. let none = first.frees t in absurd (omega arith);
  };
  rest = record { raw = λ j b inside. absurd (no_rest j b inside); one = λ j k b inside other. absurd (no_rest j b inside) };
  leases = record {
    supers = λ at among. absurd (not_in_none at among);
    maps = λ t among. absurd (not_in_none t among);
  };
  maps = record {
    mapped = λ t (e, asked, len, slot, among, is, same). absurd (not_in_none e among);
    taken = λ t among. absurd (not_in_none t among);
  };
}
