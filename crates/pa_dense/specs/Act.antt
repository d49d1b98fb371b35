-- What an act is, as pa_record has it.
pub use Rattle.pa_record.specs.Act.{act_of}
