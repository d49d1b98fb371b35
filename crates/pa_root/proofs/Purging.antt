-- A purge keeps the slots of its root.
use Rattle.pa_record.specs.Root.{empties}
use Rattle.pa_record.proofs.MakingNone.{times_make_none}
use Rattle.pa_record.proofs.Returning.{times_is}
use Rattle.pa_root.specs.Laws.{PurgesKeepSlots}

pub purges_keep_slots : PurgesKeepSlots
purges_keep_slots r sound =
    let d = times_is (empties r) r sound in
    record {
      made = λ t. (times_make_none (empties r) r t sound, d.kept.keeps t);
      out = λ name. (d.kept.only name, d.stays name);
      supers = d.kept.supers;
      maps = d.kept.maps;
    }
