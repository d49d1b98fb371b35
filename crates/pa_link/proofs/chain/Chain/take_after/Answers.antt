use Rattle.std.proofs.Common.{◌≡◌, ◌++◌, ◌+◌, ◌<◌, ◌∙◌, List, length, take, drop, refl, ap, subst, sym, arith}
use Rattle.pa_slot.specs.declared.title.Title.{Title}
use Rattle.pa_slot.specs.Links.{link_to}
use Rattle.pa_region.specs.declared.view.View.{View}
use Rattle.pa_region.specs.Views.{free_of}
use Rattle.pa_region.specs.Aware.{IsAware}
use Rattle.pa_region.specs.Shares.{Share, byte_word_count}
use Rattle.pa_link.specs.declared.chain.ChainParts.{ChainParts}
use Rattle.pa_link.specs.Chains.{IsChain, IsSkipped, Relinked, SameBeside, after_link}
use Rattle.pa_link.proofs.Gaps.{relinked_none, relinked_once, last_free, cut_beside, cut_some, cut_none}
use Rattle.pa_link.proofs.chain.Chain.take_after.Goals as goal
use Rattle.pa_link.proofs.chain.Chain.take_after.Goals.{in-Some, in-None}

pub store_link-requires-clause-able : goal.store_link-requires-clause-able
store_link-requires-clause-able c =
    let ts = c.requires.chain.0 in
    let is = subst (λ d. IsChain c.args.seat.now.view d ts) (sym (c.of_parts-rest.ensures ∙ c.self.view_is)) c.requires.chain.1 in
    let so = subst (λ o. IsSkipped c.args.seat.now.view c.skip-last.new.chain c.args.keep o ts) c.in-Some.is
    (c.skip-last.ensures.chain ts is) in
    let free = last_free c.args.seat.now.view c.of_parts-rest.result c.skip-last.new.chain c.args.keep c.in-Some.last ts is so in
    subst (λ (s : Share). 0 < free_of s.view c.in-Some.last) (sym (c.take_front-batch.ensures.seat ∙ c.skip-last.ensures.seat)) free

pub placed-requires : goal.placed-requires
placed-requires c =
    let ts = c.requires.chain.0 in
    let is = subst (λ d. IsChain c.args.seat.now.view d ts) (sym (c.of_parts-rest.ensures ∙ c.self.view_is)) c.requires.chain.1 in
    let so = subst (λ o. IsSkipped c.args.seat.now.view c.skip-last.new.chain c.args.keep o ts) c.in-Some.is
    (c.skip-last.ensures.chain ts is) in
    let free = last_free c.args.seat.now.view c.of_parts-rest.result c.skip-last.new.chain c.args.keep c.in-Some.last ts is so in
    let here = subst (λ (s : Share). 0 < free_of s.view c.in-Some.last) (sym (c.take_front-batch.ensures.seat
    ∙ c.skip-last.ensures.seat)) free in
    omega arith

pub returns-clause-relinked : goal.returns-clause-relinked
returns-clause-relinked c = elim c.match-last.branch [
  | in-Some w ↦
      let v = c.args.seat.now.view in
      let ts = c.requires.chain.0 in
      let seats = c.take_front-batch.ensures.seat ∙ c.skip-last.ensures.seat in
      let is = subst (λ d. IsChain v d ts) (sym (c.of_parts-rest.ensures ∙ c.self.view_is)) c.requires.chain.1 in
      let so = subst (λ o. IsSkipped v c.skip-last.new.chain c.args.keep o ts) w.in-Some.is (c.skip-last.ensures.chain ts is) in
      let free = last_free v c.of_parts-rest.result c.skip-last.new.chain c.args.keep w.in-Some.last ts is so in
      let stored = ap (λ (s : Share). s.view) w.seat-is
      ∙ (w.store_link.ensures.view ∙ ap (λ (s : Share). after_link w.in-Some.last w.link_of.result s.view) seats) in
      subst (λ (x : View). Relinked v x) (sym stored) (relinked_once w.in-Some.last w.link_of.result v free)
  | in-None w ↦
      let v = c.args.seat.now.view in
      let seats = w.seat-is ∙ (c.take_front-batch.ensures.seat ∙ c.skip-last.ensures.seat) in
      subst (λ (s : Share). Relinked v s.view) (sym seats) (relinked_none v)
]

pub returns-clause-beside : goal.returns-clause-beside
returns-clause-beside c ts is = elim c.match-last.branch [
  | in-Some w ↦
      let v = c.args.seat.now.view in
      let seats = c.take_front-batch.ensures.seat ∙ c.skip-last.ensures.seat in
      let so = subst (λ o. IsSkipped v c.skip-last.new.chain c.args.keep o ts) w.in-Some.is
      (c.skip-last.ensures.chain ts (subst (λ p. IsChain v p ts) (sym (c.of_parts-rest.ensures ∙ c.self.view_is)) is)) in
      let stored = ap (λ (s : Share). s.view) w.seat-is
      ∙ (w.store_link.ensures.view ∙ ap (λ (s : Share). after_link w.in-Some.last w.link_of.result s.view) seats) in
      subst (λ (x : View). SameBeside (take c.args.keep ts) v.words x.words) (sym stored)
      (cut_beside v c.skip-last.new.chain c.args.keep w.link_of.result w.in-Some.last ts so)
  | in-None w ↦
      let v = c.args.seat.now.view in
      let seats = w.seat-is ∙ (c.take_front-batch.ensures.seat ∙ c.skip-last.ensures.seat) in
      subst (λ (s : Share). SameBeside (take c.args.keep ts) v.words s.view.words) (sym seats) (λ q others. refl)
]

pub returns-clause-chain : goal.returns-clause-chain
returns-clause-chain c ts is = elim c.match-last.branch [
  | in-Some w ↦
      let v = c.args.seat.now.view in
      let keep = c.args.keep in let items = c.take_front-batch.result.items in
      let d = c.rest.inside.parts in let e = c.skip-last.new.chain in let last = w.in-Some.last in
      let seats = c.take_front-batch.ensures.seat ∙ c.skip-last.ensures.seat in
      let so = subst (λ o. IsSkipped v e keep o ts) w.in-Some.is
      (c.skip-last.ensures.chain ts (subst (λ p. IsChain v p ts) (sym (c.of_parts-rest.ensures ∙ c.self.view_is)) is)) in
      let taken = subst (λ (p : ChainParts). (us : List Title) → IsChain v e us →
      (items ≡ take 16 us) × IsChain v p (drop 16 us)) (sym {A = ChainParts} c.rest.view_is)
      (subst (λ (s : Share). (us : List Title) → IsChain s.view e us →
      (items ≡ take 16 us) × IsChain s.view c.take_front-batch.new.chain (drop 16 us))
      c.skip-last.ensures.seat c.take_front-batch.ensures.chain) in
      let size = ap (λ (p : ChainParts). p.slot_len) c.rest.view_is
      ∙ (c.take_front-batch.ensures.slot_len ∙ (c.skip-last.ensures.slot_len
      ∙ ap (λ (p : ChainParts). p.slot_len) c.of_parts-rest.ensures)) in
      let stored = w.store_link.ensures.view ∙ (ap (λ l. after_link last l c.take_front-batch.new.seat.view) w.link_of.ensures
      ∙ ap (λ (s : Share). after_link last (link_to d.head) s.view) seats) in
      let cut = cut_some (byte_word_count c.take_front-batch.new.seat.region) v w.store_link.new.seat.view c.self.inside.parts d e keep last
      items ts
      (subst (λ (s : Share). IsAware s.view) seats w.aware.ensures.aware) w.placed.ensures.well
      (ap (λ (s : Share). length s.view.words) (sym seats) ∙ w.placed.ensures.long)
      (subst (λ p. IsChain v p ts) (sym c.self.view_is) is) so taken size stored in (
        cut.0,
        subst (λ (s : Share). IsChain s.view c.match-last.self (take keep ts ++ drop (keep + 16) ts)) (sym w.seat-is)
            (subst (λ p. IsChain w.store_link.new.seat.view p (take keep ts ++ drop (keep + 16) ts)) (sym w.self-is) cut.1),
      )
  | in-None w ↦
      let v = c.args.seat.now.view in
      let keep = c.args.keep in let items = c.take_front-batch.result.items in
      let e = c.skip-last.new.chain in
      let seats = w.seat-is ∙ (c.take_front-batch.ensures.seat ∙ c.skip-last.ensures.seat) in
      let so = subst (λ o. IsSkipped v e keep o ts) w.in-None.is
      (c.skip-last.ensures.chain ts (subst (λ p. IsChain v p ts) (sym (c.of_parts-rest.ensures ∙ c.self.view_is)) is)) in
      let taken = subst (λ (s : Share). (us : List Title) → IsChain s.view e us →
      (items ≡ take 16 us) × IsChain s.view c.take_front-batch.new.chain (drop 16 us))
      c.skip-last.ensures.seat c.take_front-batch.ensures.chain in
      let cut = cut_none v c.take_front-batch.new.chain e keep items ts so taken in (
        cut.0,
        subst (λ (s : Share). IsChain s.view c.match-last.self (take keep ts ++ drop (keep + 16) ts)) (sym seats)
            (subst (λ p. IsChain v p (take keep ts ++ drop (keep + 16) ts)) (sym {A = ChainParts} (w.self-is ∙ c.rest.view_is)) cut.1),
      )
]
