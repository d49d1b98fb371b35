use Rattle.std.proofs.Common.{refl, map}
use Rattle.pa_record.specs.declared.root.RootEntry.{RootEntry}
use Rattle.pa_audit_heap.proofs.Walking.{walked_none}
use Rattle.pa_audit_heap.proofs.walk.Walk.new.Goals as goal

pub returns : goal.returns
returns c = λ phases ps pools es.
    walked_none c.args.supers phases ps pools es _ (c.new-2.ensures ps (map (λ (e : RootEntry). e.line) es)) c.in_ok-replay.ensures.root
    c.in_ok-replay.ensures.plan refl c.new-3.ensures
