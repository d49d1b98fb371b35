use Rattle.std.proofs.Common.{◌<◌, length, refl, sym, arith}
use Rattle.std.specs.Prelude.{OnOk}
use Rattle.std.specs.declared.result.Result.{Result}
use Rattle.std.specs.declared.result.Result.TheVariants.{Ok, Err}
use Rattle.std.proofs.lemmas.Option.{slice_get_read}
use Rattle.pa_place.proofs.Filing.{all_reserved, room_reserved}
use Rattle.pa_place.proofs.lists.reserve_at.Goals as goal

pub returns-clause-listed : goal.returns-clause-listed
returns-clause-listed c = λ a ss h.
    let lists = c.args.lists.now.items in
    let bound = c.number.ensures.bound in
    let same = c.number.ensures.number in
    let within : c.number.result < length lists = let e = c.requires in omega arith in
    let here = slice_get_read lists (length lists) c.number.result c.index_mut.result.now refl within c.index_mut.ensures.value in
    all_reserved a ss c.number.result c.index_mut.result.now c.reserve.new.list lists here c.reserve.ensures.items c.reserve.ensures.more h

pub returns-clause-room : goal.returns-clause-room
returns-clause-room c =
    let lists = c.args.lists.now.items in
    let bound = c.number.ensures.bound in
    let same = c.number.ensures.number in
    let within : c.number.result < length lists = let e = c.requires in omega arith in
    let here = slice_get_read lists (length lists) c.number.result c.index_mut.result.now refl within c.index_mut.ensures.value in
    by_result c.reserve.result c.reserve.ensures.room
    (λ more. rw (sym same) (room_reserved c.number.result c.args.most c.index_mut.result.now c.reserve.new.list lists here more))
  where
    by_result : {T E P Q : Type 0} (o : Result T E) → OnOk o P → (P → Q) → OnOk o Q
    by_result (Ok x) h f = f h
    by_result (Err x) h f = tt
