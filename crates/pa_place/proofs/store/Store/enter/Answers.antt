use Rattle.std.proofs.Common.{◌≡◌, length, refl, sym, ◌∙◌, ap, subst}
use Rattle.std.specs.Prelude.{slice_set}
use Rattle.std.proofs.lemmas.Option.{slice_get_read}
use Rattle.pa_lists.proofs.Members.{of_some}
use Rattle.pa_record.specs.Root.{in_state}
use Rattle.pa_place.specs.Filed.{AreFiled, IsFiledAnew}
use Rattle.pa_place.proofs.Filing.{can_file, filed_anew, room_anew}
use Rattle.pa_place.proofs.store.Store.enter.Goals as goal

pub refile-requires-clause-can : goal.refile-requires-clause-can
refile-requires-clause-can c =
    let ss = c.args.self.now.spans.items in
    let s = c.index-span.result.now in
    let here = slice_get_read ss (length ss) c.args.at s refl c.requires.here c.index-span.ensures in
    rw (c.class-class.ensures, c.state-was.ensures, c.deref.ensures.value)
    (can_file ss c.args.at s c.args.to c.args.self.now.lists here c.requires.ring c.requires.filed)

pub returns-clause-entered : goal.returns-clause-entered
returns-clause-entered c = λ s e.
    let ss = c.args.self.now.spans.items in
    let v = c.index_mut.result.now in
    let here = slice_get_read ss (length ss) c.args.at v refl c.requires.here c.index_mut.ensures.value in
    let same : v ≡ s = of_some v s (sym here ∙ e) in
    rw (sym same) (rw (c.enter-self.ensures.state, c.enter-self.ensures.turn) refl)

pub returns-clause-filed : goal.returns-clause-filed
returns-clause-filed c =
    let ss = c.args.self.now.spans.items in
    let s = c.index-span.result.now in
    let here = slice_get_read ss (length ss) c.args.at s refl c.requires.here c.index-span.ensures in
    let t = c.index_mut.result.now in
    let there = slice_get_read ss (length ss) c.args.at t refl c.requires.here c.index_mut.ensures.value in
    let same : s ≡ t = of_some s t (sym here ∙ there) in
    let done : IsFiledAnew s.class s.state c.args.to c.args.at c.args.self.now.lists c.refile.new.self =
    rw (c.class-class.ensures, c.state-was.ensures) at c.refile.ensures in
    let next = filed_anew ss c.args.at s c.args.to c.args.self.now.turn c.args.self.now.lists c.refile.new.self here c.requires.turns done
    c.requires.filed in
    subst (λ z. AreFiled (slice_set ss c.args.at z) c.refile.new.self)
    (ap (in_state c.args.to c.args.self.now.turn) same ∙ sym c.enter-self.ensures.state) next

pub returns-clause-lists : goal.returns-clause-lists
returns-clause-lists c =
    λ class n h. room_anew c.class-class.result n class c.state-was.result c.args.to c.args.at c.args.self.now.lists c.refile.new.self
    c.refile.ensures h
