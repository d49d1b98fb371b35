-- Records that were worked out by hand, with what logs say of them and notes of what was seen.
use Rattle.std.specs.Prelude.{List, map}
use Rattle.pa_region.specs.declared.view.Entry.{Entry}
use Rattle.pa_region.specs.declared.view.SeenNumber.{SeenNumber}
use Rattle.pa_region.specs.Views.{seen_among}
use Rattle.pa_rules.specs.declared.played.Played.{Played}
use Rattle.pa_logs.specs.Told.{ToldRecord}

-- a record, its segment of its thread's log, and notes of the numbers that its seat had seen before it and of those that it hands on
pub record Worked : Type 0 where
  pub played : Played
  pub stretch : List Entry
  pub saw : List SeenNumber
  pub gives : List SeenNumber

-- the record with its log segment, and for each title the number seen before it and the one handed on, looked up in the notes
abbrev pub told_record : Worked → ToldRecord
told_record w = record {
  played = w.played;
  stretch = w.stretch;
  saw = λ t. seen_among t w.saw;
  gives = λ t. seen_among t w.gives;
}

-- these records in order, each with the numbers looked up in its notes
abbrev pub told_records : List Worked → List ToldRecord
told_records ws = map told_record ws
