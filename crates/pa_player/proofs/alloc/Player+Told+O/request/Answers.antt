use Rattle.std.proofs.Common.{◌≡◌, ◌+◌, ◌<◌, max, sym, subst, arith}
use Rattle.pa_buckets.specs.Classes.{IsClassIn}
use Rattle.pa_direct.specs.declared.maps.Shape.{Shape}
use Rattle.pa_direct.specs.Shapes.{shape_of}
use Rattle.pa_rules.specs.Sizes.{IsMapSize}
use Rattle.pa_buckets.specs.Limits.{greatest_raw}
use Rattle.pa_rules.proofs.Versions.{raw_least}
use Rattle.pa_trace.specs.declared.script.Op.TheVariants as ops
use Rattle.pa_player.specs.Asks.{CanAllocateMap}
use Rattle.pa_player.specs.Changes.{AllocatesSlot, AllocatesMap}
use Rattle.pa_player.specs.Playing.{list_place}
use Rattle.pa_player.specs.Plays.{Plays}
use Rattle.pa_player.proofs.Answers.{alloc_too_large}
use Rattle.pa_player.proofs.Outcome.{if_ok}
use Rattle.pa_player.proofs.Ready.{slot_ready, map_ready}
use Rattle.pa_player.proofs.Requests.{slot_request_plays, map_request_plays}
use Rattle.pa_player.proofs.alloc.Player+Told+O.request.Goals as goal

pub returns-then-size-gt-GREATEST_SIZE-clause-played : goal.returns-then-size-gt-GREATEST_SIZE-clause-played
returns-then-size-gt-GREATEST_SIZE-clause-played g c =
    alloc_too_large c.args.self.now c.args.thread c.args.reg c.args.partition c.args.size c.requires.none c.if-size-gt-GREATEST_SIZE.true

pub request_slot-requires : goal.request_slot-requires
request_slot-requires g c =
    let of : IsClassIn c.args.self.now.version (max c.args.size 1 + 8) c.in-Some.class =
    subst (λ n. IsClassIn c.args.self.now.version n c.in-Some.class) c.raw_of.ensures c.in-Some.ensures.least in
    slot_ready c.args.self.now c.args.thread c.args.reg c.args.partition c.args.size c.in-Some.class c.requires.ready of

pub returns-in-Some-clause-played : goal.returns-in-Some-clause-played
returns-in-Some-clause-played g c =
    let p = c.args.self.now in
    let r = c.request_slot.new.self in
    let of : IsClassIn c.args.self.now.version (max c.args.size 1 + 8) c.in-Some.class =
    subst (λ n. IsClassIn c.args.self.now.version n c.in-Some.class) c.raw_of.ensures c.in-Some.ensures.least in
    if_ok c.request_slot.result
    (λ a. AllocatesSlot c.args.thread c.args.reg c.args.partition
    (list_place p.version p.partitions c.args.thread c.args.partition c.in-Some.class) c.in-Some.class p r a)
    (λ a. Plays p c.args.thread (ops.Alloc c.args.reg c.args.partition c.args.size) r a) c.request_slot.ensures.allocates
    (λ a did. slot_request_plays p r c.args.thread c.args.reg c.args.partition c.args.size c.in-Some.class a c.requires.none
    c.if-size-gt-GREATEST_SIZE.false of did)

pub request_map-requires : goal.request_map-requires
request_map-requires g c =
    let large : greatest_raw c.args.self.now.version < c.raw_of.result = grind (arith, c.in-None.ensures.refused) in
    let least = raw_least c.args.self.now.version in
    let direct : IsMapSize c.args.self.now.version c.args.size =
    (omega (arith, large, least, c.raw_of.ensures), c.if-size-gt-GREATEST_SIZE.false) in
    let shape : c.unwrap-shape.result ≡ shape_of c.args.size = grind (arith, c.unwrap-shape.ensures, c.shape.ensures.shape) in
    subst (λ (s : Shape). CanAllocateMap c.args.thread c.args.reg c.args.partition s.slot s.supers c.args.self.now) (sym shape)
    (map_ready c.args.self.now c.args.thread c.args.reg c.args.partition c.args.size c.requires.ready direct)

pub returns-in-None-clause-played : goal.returns-in-None-clause-played
returns-in-None-clause-played g c =
    let p = c.args.self.now in
    let r = c.request_map.new.self in
    let large : greatest_raw c.args.self.now.version < c.raw_of.result = grind (arith, c.in-None.ensures.refused) in
    let least = raw_least c.args.self.now.version in
    let direct : IsMapSize c.args.self.now.version c.args.size =
    (omega (arith, large, least, c.raw_of.ensures), c.if-size-gt-GREATEST_SIZE.false) in
    let shape : c.unwrap-shape.result ≡ shape_of c.args.size = grind (arith, c.unwrap-shape.ensures, c.shape.ensures.shape) in
    if_ok c.request_map.result
    (λ a. AllocatesMap c.args.thread c.args.reg c.args.partition c.unwrap-shape.result.slot c.unwrap-shape.result.supers p r a)
    (λ a. Plays p c.args.thread (ops.Alloc c.args.reg c.args.partition c.args.size) r a) c.request_map.ensures.allocates
    (λ a did. map_request_plays p r c.args.thread c.args.reg c.args.partition c.args.size a c.requires.none direct
    (subst (λ (s : Shape). AllocatesMap c.args.thread c.args.reg c.args.partition s.slot s.supers p r a) shape did))
