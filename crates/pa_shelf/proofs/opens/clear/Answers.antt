use Rattle.std.proofs.Common.{◌∙◌, [], ◌∷◌, refl, sym, subst, arith}
use Rattle.pa_meta.specs.Meta.{HasRawRecord}
use Rattle.pa_meta.specs.Stores.{rerecorded_none}
use Rattle.pa_shelf.proofs.Opening.{raw_stays, clear_step}
use Rattle.pa_shelf.proofs.opens.clear.Goals as goal

pub loop-page-init : goal.loop-page-init
loop-page-init c = record {
  region = refl;
  view = rerecorded_none (c.args.at ∷ []) c.args.own.now.view;
  blank = λ page first last. absurd (omega arith);
}

pub write_meta-requires-clause-raw : goal.write_meta-requires-clause-raw
write_meta-requires-clause-raw c =
    let at = c.args.at in let v = c.args.own.now.view in
    raw_stays (at ∷ []) v c.loop-page.own.view c.page_start.result c.loop-page.invariant.view
    (subst (HasRawRecord v) (sym c.page_start.ensures) (c.requires.raw c.loop-page.page (omega arith) (omega arith)))

pub loop-page-preserved : goal.loop-page-preserved
loop-page-preserved c =
    let both = clear_step c.args.at c.loop-page.page c.page_start.result c.unused.result c.args.own.now.view c.loop-page.own.view
    c.write_meta.new.seat.view
    (omega arith) (omega arith) c.page_start.ensures c.unused.ensures c.write_meta.ensures.view c.write_meta.ensures.reads
    c.loop-page.invariant.view c.loop-page.invariant.blank in
    record { region = c.write_meta.ensures.region ∙ c.loop-page.invariant.region; view = both.0; blank = both.1 }
