use Rattle.std.proofs.Common.{◌≡◌, ◌∙◌, ap, sym, subst, arith}
use Rattle.pa_region.specs.Shares.{byte_word_count}
use Rattle.pa_link.specs.Chains.{IsChain, after_link}
use Rattle.pa_link.specs.declared.chain.ChainParts.{ChainParts}
use Rattle.pa_link.proofs.Chains.{pushed}
use Rattle.pa_link.proofs.chain.Chain.push.Goals as goal

pub returns-clause-chain : goal.returns-clause-chain
returns-clause-chain c ts is new =
    let v = c.args.seat.now.view in
    let size = subst (λ (d : ChainParts). c.args.title.len ≡ d.slot_len) (sym {A = ChainParts} c.self.view_is) c.requires.size in
    let stored = c.store_link.ensures.view ∙ ap (λ l. after_link c.args.title l v) c.link_of.ensures in
    pushed (byte_word_count c.args.seat.now.region) v c.store_link.new.seat.view c.self.inside.parts c.args.title ts c.aware.ensures.aware
    c.placed.ensures.well c.placed.ensures.long
    c.requires.able size (omega arith, omega arith) stored (subst (λ d. IsChain v d ts) (sym c.self.view_is) is) new
