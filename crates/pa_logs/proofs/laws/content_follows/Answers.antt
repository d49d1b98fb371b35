use Rattle.pa_logs.proofs.Contents.{content_follows}
use Rattle.pa_logs.proofs.laws.content_follows.Goals as goal

pub returns : goal.returns
returns c = content_follows
