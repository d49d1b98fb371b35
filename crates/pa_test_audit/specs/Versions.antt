-- Journals whose fills are of the classes of one version.
use Rattle.std.specs.Prelude.{ℕ, IfSome}
use Rattle.pa_record.specs.declared.root.RootAct.{RootAct}
use Rattle.pa_record.specs.declared.root.RootEntry.{RootEntry}
use Rattle.pa_rules.specs.Roots.{Journals, IsEntry}
use Rattle.pa_rules.specs.Sizes.{HasClass}
use Rattle.pa_audit_holders.specs.Homes.{home_by}

-- the class of the slots that an act of partition p hands out, if it hands out some of a class, is one of the version
abbrev pub IsActOf : ℕ → ℕ → RootAct → Type 0
IsActOf version p act = IfSome (home_by p act).class (HasClass version)

-- each entry of the partition's journal is so
abbrev pub AreActsOf : ℕ → Journals → ℕ → Type 0
AreActsOf version roots p = (i : ℕ) (e : RootEntry) → IsEntry roots p i e → IsActOf version p e.act
