use Rattle.std.proofs.Common.{List, inl, ap, ◌∙◌}
use Rattle.std.specs.Prelude.{slice_get}
use Rattle.pa_slot.specs.declared.title.Title.{Title}
use Rattle.pa_slot.specs.declared.word.SlotName.{SlotName}
use Rattle.pa_record.specs.declared.root.RootAct.TheVariants.{Map}
use Rattle.pa_player.specs.Told.{Lists, with_act}
use Rattle.pa_player.proofs.Placing.{first_of, map_placed}
use Rattle.pa_player.proofs.alloc.Player+Told+O.request_map.Goals as goal

pub issue-requires : goal.issue-requires
issue-requires g c =
    let taken = c.take_map.new.self in
    let title = c.in-Some.title.now in
    let first = first_of c.in_ok-placed.placed.titles.items title
    (c.in-Some.ensures.value ∙ ap (λ (z : List Title). slice_get z 0) c.as_slice.ensures.value) in
    let told = c.in_ok-root.ensures.after
    ∙ ap (λ (n : SlotName). with_act c.args.partition
    (record { line = taken.told.line; act = Map c.unwrap-pool.result n title.len }) taken.told) c.name_of-slot.ensures in
    record {
      can = c.requires.issue _ c.in_ok-place.place
          (map_placed c.args.partition c.args.shape.slot c.args.shape.supers c.unwrap-pool.result c.in_ok-place.place c.args.self.now taken
          _
          c.in_ok-placed.placed title first.0 c.home.new.self c.in_ok-placed.ensures.taken first.1 c.unwrap-pool.ensures
          c.in_ok-place.ensures.home
          (ap (λ (z : Lists). record taken { table = c.home.new.self; told = z }) told));
    }

pub returns-clause-allocates : goal.returns-clause-allocates
returns-clause-allocates g c =
    let taken = c.take_map.new.self in
    let title = c.in-Some.title.now in
    let first = first_of c.in_ok-placed.placed.titles.items title
    (c.in-Some.ensures.value ∙ ap (λ (z : List Title). slice_get z 0) c.as_slice.ensures.value) in
    let told = c.in_ok-root.ensures.after
    ∙ ap (λ (n : SlotName). with_act c.args.partition
    (record { line = taken.told.line; act = Map c.unwrap-pool.result n title.len }) taken.told) c.name_of-slot.ensures in
    inl (record {
      mapped = record taken { table = c.home.new.self; told = c.root.new.self };
      place = c.in_ok-place.place;
      placed = map_placed c.args.partition c.args.shape.slot c.args.shape.supers c.unwrap-pool.result c.in_ok-place.place c.args.self.now
          taken
          (record taken { table = c.home.new.self; told = c.root.new.self }) c.in_ok-placed.placed title first.0 c.home.new.self
          c.in_ok-placed.ensures.taken first.1 c.unwrap-pool.ensures
          c.in_ok-place.ensures.home (ap (λ (z : Lists). record taken { table = c.home.new.self; told = z }) told);
      issued = c.issue.ensures.issued;
      says = c.issue.ensures.answer;
    })
