use Rattle.pa_records.proofs.Decoding.{fields_of}
use Rattle.pa_meta.proofs.numbers.state_in.Goals as goal

pub returns : goal.returns
returns c s slots neighbours turn is =
    c.state_of_number.ensures s.state (fields_of s c.args.counts slots neighbours turn is).state
