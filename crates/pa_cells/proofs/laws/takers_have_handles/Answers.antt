use Rattle.std.proofs.Common.{arith}
use Rattle.std.proofs.lemmas.List.Sums.{sum_by-append}
use Rattle.std.specs.Prelude.{◌==◌, ◌&&◌}
use Rattle.pa_slot.specs.declared.title.Title.{Title}
use Rattle.pa_slot.specs.Titles.{same_title}
use Rattle.pa_slot.specs.Holdings.{one}
use Rattle.pa_region.specs.declared.view.OwnTitle.{OwnTitle}
use Rattle.pa_region.specs.declared.view.Stake.{Stake}
use Rattle.pa_region.specs.Waiting.{is_unclean}
use Rattle.pa_region.proofs.JoinStep.{least_both}
use Rattle.pa_cells.proofs.laws.takers_have_handles.Goals as goal

pub returns : goal.returns
returns c p v is aware =
    let w = p.note.view in
    record {
      owns = λ t. let e = is.owns t in omega (arith, sum_by-append (λ (o : OwnTitle). one (same_title o.title t)) v.owns w.owns);
      sealed = λ t. sum_by-append (λ (o : OwnTitle). one (same_title o.title t && o.sealed)) v.owns w.owns;
      refs = λ t. let e = is.refs t in omega (arith, sum_by-append (λ (u : Title). one (same_title u t)) v.refs w.refs);
      frees = λ t. let e = is.frees t in omega (arith, sum_by-append (λ (u : Title). one (same_title u t)) v.frees w.frees);
      stakes = λ k. let e = is.stakes k in omega (arith, sum_by-append (λ (s : Stake). one (s.number == k)) v.stakes w.stakes);
      lends = λ can. (
        (let has = can.0 in let n = least_both v.stakes w.stakes in omega arith),
        (let here = can.1 in let there = is.clean in
            omega (arith, sum_by-append (λ (o : OwnTitle). one (is_unclean o.state)) v.owns w.owns)),
      );
      made = c.slots_stay_seen.ensures p.handle w _ is.made (c.beginnings_join.ensures v w p.handle.partition aware).1;
    }
