use Rattle.std.proofs.Common.{◌≡◌, ◌<◌, [], ◌∷◌, ◌++◌, length, map, get_or, ℕ, ◌+◌, List, ap, sym, ◌∙◌, arith}
use Rattle.std.proofs.lemmas.List.{length-map, set-get_or}
use Rattle.pa_record.specs.declared.root.RootEntry.{RootEntry}
use Rattle.pa_run_writer.specs.Lines.{OneJournal}
use Rattle.pa_run_writer.proofs.Growing.{from_at, from_set, entries_at, entries_set, ok_then, err_then}
use Rattle.pa_run_writer.proofs.journals.Journals.push.Goals as goal

-- the partition has a journal
low_in : (js : List OneJournal) (now : List (List RootEntry)) (i : ℕ) → map (λ (j : OneJournal). j.entries) js ≡ now → i < length now →
    i < length js
low_in js now i is low = omega (arith, ap (λ (z : List (List RootEntry)). length z) is, length-map js (λ (j : OneJournal). j.entries), low)

pub invariant_of-self : goal.invariant_of-self
invariant_of-self c =
    let js = c.self.inside.of.items in
    let i = c.args.partition in
    let old = c.index_mut-lines.result.now in
    let low : i < length js = low_in js c.args.self.now i c.self.view_is c.requires.partition in
    let is : old.partition ≡ 0 + i = ap (λ (j : OneJournal). j.partition) c.index_mut-lines.ensures.value ∙
    from_at 0 i js old c.self.invariant low in
    from_set 0 i js c.push.new.self c.self.invariant (c.push.ensures.partition ∙ is)

pub returns-clause-pushed : goal.returns-clause-pushed
returns-clause-pushed c =
    let js = c.self.inside.of.items in
    let i = c.args.partition in
    let old = c.index_mut-lines.result.now in
    let low : i < length js = low_in js c.args.self.now i c.self.view_is c.requires.partition in
    let had : old.entries ≡ get_or c.args.self.now i [] =
    ap (λ (j : OneJournal). j.entries) c.index_mut-lines.ensures.value ∙ sym (entries_at js i old low) ∙
    ap (λ (z : List (List RootEntry)). get_or z i []) c.self.view_is in
    ok_then _ _ c.push.result (λ (is : c.push.new.self ≡ record old { entries = old.entries ++ c.args.entry.now ∷ [] }).
    entries_set js c.args.self.now i c.push.new.self (get_or c.args.self.now i [] ++ c.args.entry.now ∷ []) c.self.view_is
    (ap (λ (j : OneJournal). j.entries) is ∙ ap (λ (z : List RootEntry). z ++ c.args.entry.now ∷ []) had)) c.push.ensures.pushed

pub returns-clause-kept : goal.returns-clause-kept
returns-clause-kept c =
    let js = c.self.inside.of.items in
    let now = c.args.self.now in
    let i = c.args.partition in
    let old = c.index_mut-lines.result.now in
    let low : i < length js = low_in js now i c.self.view_is c.requires.partition in
    let had : old.entries ≡ get_or now i [] =
    ap (λ (j : OneJournal). j.entries) c.index_mut-lines.ensures.value ∙ sym (entries_at js i old low) ∙
    ap (λ (z : List (List RootEntry)). get_or z i []) c.self.view_is in
    err_then _ _ c.push.result (λ (is : c.push.new.self ≡ old).
    entries_set js now i c.push.new.self (get_or now i []) c.self.view_is (ap (λ (j : OneJournal). j.entries) is ∙ had) ∙
    set-get_or now i []) c.push.ensures.kept
