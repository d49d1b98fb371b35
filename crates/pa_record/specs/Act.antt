-- What an act is.
use Rattle.std.specs.Prelude.{List}
use Rattle.pa_record.specs.declared.numbered.Numbered.{Numbered}
use Rattle.pa_record.specs.declared.root.RootAct.{RootAct}
use Rattle.pa_record.specs.declared.root.RootAct.TheVariants as acts
use Rattle.pa_record.specs.declared.act.ActWith.{ActWith}
use Rattle.pa_record.specs.declared.act.ActWith.TheVariants.{Fill, Map, Full, Give, Unmap, Purge}

-- the act, with its slots as a list
abbrev pub act_of : ActWith (List Numbered) → RootAct
act_of (Fill class pool slots) = acts.Fill class pool slots
act_of (Map pool slot len) = acts.Map pool slot len
act_of (Full class pool) = acts.Full class pool
act_of (Give slots) = acts.Give slots
act_of (Unmap pool slot) = acts.Unmap pool slot
act_of Purge = acts.Purge
