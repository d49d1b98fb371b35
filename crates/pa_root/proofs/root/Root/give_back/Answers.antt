use Rattle.std.proofs.Common.{rules, ◌≡◌, ◌+◌, ◌<◌, ◌≤◌, [], ◌∷◌, ◌++◌, length, sym, ◌∙◌, ap, subst, arith, slice_index_or}
use Rattle.std.proofs.lemmas.List.{length-append}
use Rattle.std.proofs.lemmas.List.Elements.{All-contains_itself}
use Rattle.std.specs.Prelude.{All}
use Rattle.pa_slot.specs.declared.title.Title.{Title}
use Rattle.pa_region.specs.declared.view.View.{View}
use Rattle.pa_region.specs.Views.{free_of, least_stake}
use Rattle.pa_region.specs.Shares.{byte_word_count}
use Rattle.pa_region.specs.Hands.{united}
use Rattle.pa_region.specs.Lists.{list_of}
use Rattle.pa_record.specs.declared.root.RootEntry.{RootEntry}
use Rattle.pa_record.specs.declared.root.RootAct.TheVariants.{Give}
use Rattle.pa_record.specs.Numbers.{root_numbers}
use Rattle.pa_record.specs.Root.{all_returned, names}
use Rattle.pa_link.specs.Chains.{slot_names}
use Rattle.pa_shelf.specs.Moving.{Rewritten}
use Rattle.pa_shelf.specs.Shelves.{ShowsRoot, AreBack}
use Rattle.pa_root.specs.Keeping.{RootState}
use Rattle.pa_root.specs.Kept.{state_of, IsKept}
use Rattle.pa_root.specs.Handing.{root_entry, numbered_by}
use Rattle.pa_root.specs.Making.{EntersOne}
use Rattle.pa_root.proofs.Giving.{gives_keep}
use Rattle.pa_root.proofs.KeptOn.{kept_settled, kept_turn}
use Rattle.pa_root.proofs.KeptSteps.{same_kept, kept_after, are_back}
use Rattle.pa_root.proofs.Entries.{entries_are_told}
use Rattle.pa_root.proofs.Moves.{names_by}
use Rattle.pa_root.proofs.CallGives.{can_come, free_there, numbers_came}
use Rattle.pa_root.proofs.root.Root.give_back.Goals as goal

pub numbers_seen-slots-requires-clause-free : goal.numbers_seen-slots-requires-clause-free
numbers_seen-slots-requires-clause-free g c =
    let titles = c.args.titles.items in
    let v = c.self.inside.ledger.seat.view in let w = c.args.note.view in
    let there : All (λ (t : Title). 0 < free_of c.take.new.seat.view t) titles =
    λ k d less. subst (λ (x : View). 0 < free_of x (slice_index_or titles k d)) (sym c.take.ensures.view)
    (free_there v w titles c.requires.has (slice_index_or titles k d) (All-contains_itself titles k d less)) in
    subst (λ ts. All (λ (t : Title). 0 < free_of c.take.new.seat.view t) ts) (sym c.as_slice.ensures.value) there

pub give_all-requires-clause-back : goal.give_all-requires-clause-back
give_all-requires-clause-back g c =
    let i = c.self.inside in
    let p = g.row.P in
    let s = state_of i.ledger.seat.view i.ledger.journal.items in
    let titles = c.args.titles.items in let w = c.args.note.view in
    let kept = c.self.invariant.2 in
    let regions : i.ledger.seat.region ≡ c.args.note.region = c.self.invariant.0 ∙ sym c.requires.regions.2 in
    let long : length s.view.words ≡ length w.words =
    c.aware.ensures.long ∙ (ap byte_word_count regions ∙ sym c.aware-2.ensures.long) in
    let can = can_come p s w c.take.new.seat.view titles kept.sound c.aware.ensures.aware c.aware-2.ensures.aware
    c.aware-3.ensures.aware c.take.ensures.view long c.requires.has c.requires.once c.requires.named in
    let both = c.numbers_seen-slots.ensures.view ∙ c.take.ensures.view in
    let back = are_back p s w c.numbers_seen-slots.new.seat.view i.shelf titles can
    (kept_settled p s.view s.journal i.shelf kept) kept.shown both in
    (s.root, subst (λ ts. AreBack c.numbers_seen-slots.new.seat.view i.shelf ts s.root) (sym c.as_slice-2.ensures.value) back)

pub give_all-requires-clause-turn : goal.give_all-requires-clause-turn
give_all-requires-clause-turn g c =
    let i = c.self.inside in
    let turn = kept_turn g.row.P i.ledger.seat.view i.ledger.journal.items i.shelf c.self.invariant.2 in
    let long = c.self.invariant.1 in
    omega arith

pub invariant_of-self-2 : goal.invariant_of-self-2
invariant_of-self-2 g c =
    let i = c.self.inside in
    let p = g.row.P in
    let v = i.ledger.seat.view in let js = i.ledger.journal.items in
    let s = state_of v js in
    let titles = c.args.titles.items in let w = c.args.note.view in
    let kept = c.self.invariant.2 in
    let y = c.give_all.new.own.view in let x = c.append.new.host.view in
    let regions : i.ledger.seat.region ≡ c.args.note.region = c.self.invariant.0 ∙ sym c.requires.regions.2 in
    let long : length s.view.words ≡ length w.words =
    c.aware.ensures.long ∙ (ap byte_word_count regions ∙ sym c.aware-2.ensures.long) in
    let can = can_come p s w c.take.new.seat.view titles kept.sound c.aware.ensures.aware c.aware-2.ensures.aware
    c.aware-3.ensures.aware c.take.ensures.view long c.requires.has c.requires.once c.requires.named in
    let both : c.numbers_seen-slots.new.seat.view ≡ united s.view w =
    c.numbers_seen-slots.ensures.view ∙ c.take.ensures.view in
    let slots : c.numbers_seen-slots.result ≡ numbered_by w titles =
    c.numbers_seen-slots.ensures.numbers ∙ (ap (λ (v : View). numbered_by v c.as_slice.result.now) c.take.ensures.view
    ∙ (ap (λ ts. numbered_by (united s.view w) ts) c.as_slice.ensures.value ∙ numbers_came p s w titles can)) in
    let e : RootEntry = root_entry c.args.line (Give (numbered_by w titles)) in
    let (m, noted) = c.append.ensures.noted in
    let wrote : Rewritten (united s.view w) y = subst (λ (h : View). Rewritten h y) both c.give_all.ensures.rest in
    let says : m.numbers ≡ root_numbers e = noted.says ∙ ap (λ ns. root_numbers (root_entry c.args.line (Give ns))) slots in
    let sound = gives_keep p c.args.line s w y x titles can wrote c.append.ensures.aware.0 c.append.ensures.aware.1 noted.hosts
    (m, noted.list, says) in
    let same = c.make_room.ensures.same in
    let grown : c.append.new.journal.items ≡ js ++ e ∷ [] =
    c.append.ensures.journal ∙ (ap (λ ns. c.make_room.new.journal.items ++ root_entry c.args.line (Give ns) ∷ []) slots
    ∙ ap (λ es. es ++ e ∷ []) same) in
    let more = length-append js (e ∷ []) in
    let size : length c.append.new.journal.items ≡ length js + 1 = ap length grown ∙ more in
    let few = c.in-Ok.ensures.few in
    let at = ap length same in
    let back = are_back p s w c.numbers_seen-slots.new.seat.view i.shelf titles can (kept_settled p v js i.shelf kept) kept.shown both in
    let given = c.give_all.ensures.shown s.root
    (subst (λ ts. AreBack c.numbers_seen-slots.new.seat.view i.shelf ts s.root) (sym c.as_slice-2.ensures.value) back) in
    let named : all_returned (slot_names c.as_slice-2.result.now) s.root ≡ all_returned (names (numbered_by w titles)) s.root =
    ap (λ ts. all_returned (slot_names ts) s.root) c.as_slice-2.ensures.value ∙
    sym (ap (λ ns. all_returned ns s.root) (names_by w titles)) in
    let shown : ShowsRoot y c.give_all.new.self (all_returned (names (numbered_by w titles)) s.root) =
    subst (λ r. ShowsRoot y c.give_all.new.self r) named given in
    let batch : length (numbered_by w titles) ≤ 16 = subst (λ ns. length ns ≤ 16) slots (search rules) in
    let done = kept_after p v y x js e i.shelf c.give_all.new.self (all_returned (names (numbered_by w titles)) s.root) kept batch sound
    (same_kept y x noted.hosts) shown in (
      c.append.ensures.regions.1 ∙
          (c.give_all.ensures.region ∙ (c.numbers_seen-slots.ensures.region ∙ (c.take.ensures.region ∙ c.self.invariant.0))),
      omega arith,
      subst (λ es. IsKept p x es c.give_all.new.self) (sym grown) done,
    )

pub returns-clause-took : goal.returns-clause-took
returns-clause-took g c =
    let i = c.self.inside in
    let s = state_of i.ledger.seat.view i.ledger.journal.items in
    let titles = c.args.titles.items in let w = c.args.note.view in
    let v = c.args.seat.now.view in
    let r = least_stake v.stakes in
    let regions : i.ledger.seat.region ≡ c.args.note.region = c.self.invariant.0 ∙ sym c.requires.regions.2 in
    let long : length s.view.words ≡ length w.words =
    c.aware.ensures.long ∙ (ap byte_word_count regions ∙ sym c.aware-2.ensures.long) in
    let can = can_come g.row.P s w c.take.new.seat.view titles c.self.invariant.2.sound c.aware.ensures.aware c.aware-2.ensures.aware
    c.aware-3.ensures.aware c.take.ensures.view long c.requires.has c.requires.once c.requires.named in
    let slots : c.numbers_seen-slots.result ≡ numbered_by w titles =
    c.numbers_seen-slots.ensures.numbers ∙ (ap (λ (v : View). numbered_by v c.as_slice.result.now) c.take.ensures.view
    ∙ (ap (λ ts. numbered_by (united s.view w) ts) c.as_slice.ensures.value ∙ numbers_came g.row.P s w titles can)) in
    let (m, noted) = c.append.ensures.noted in
    let told = entries_are_told.one r g.row.P (root_entry c.args.line (Give c.numbers_seen-slots.result)) v c.append.new.lender.view
    c.give_all.new.own.view c.append.new.host.view m noted in (
      _,
      subst (λ ns. EntersOne (length (list_of g.row.P c.give_all.new.own.view)) r g.row.P
          (root_entry c.args.line (Give ns)) v c.append.new.lender.view) slots told,
    )

pub returns-clause-journal : goal.returns-clause-journal
returns-clause-journal g c =
    let i = c.self.inside in
    let s = state_of i.ledger.seat.view i.ledger.journal.items in
    let titles = c.args.titles.items in let w = c.args.note.view in
    let regions : i.ledger.seat.region ≡ c.args.note.region = c.self.invariant.0 ∙ sym c.requires.regions.2 in
    let long : length s.view.words ≡ length w.words =
    c.aware.ensures.long ∙ (ap byte_word_count regions ∙ sym c.aware-2.ensures.long) in
    let can = can_come g.row.P s w c.take.new.seat.view titles c.self.invariant.2.sound c.aware.ensures.aware c.aware-2.ensures.aware
    c.aware-3.ensures.aware c.take.ensures.view long c.requires.has c.requires.once c.requires.named in
    let slots : c.numbers_seen-slots.result ≡ numbered_by w titles =
    c.numbers_seen-slots.ensures.numbers ∙ (ap (λ (v : View). numbered_by v c.as_slice.result.now) c.take.ensures.view
    ∙ (ap (λ ts. numbered_by (united s.view w) ts) c.as_slice.ensures.value ∙ numbers_came g.row.P s w titles can)) in
    let e : RootEntry = root_entry c.args.line (Give (numbered_by w titles)) in
    c.append.ensures.journal ∙ (ap (λ ns. c.make_room.new.journal.items ++ root_entry c.args.line (Give ns) ∷ []) slots
    ∙ (ap (λ js. js ++ e ∷ []) c.make_room.ensures.same ∙ ap (λ (z : RootState). z.journal ++ e ∷ []) c.self.view_is))
