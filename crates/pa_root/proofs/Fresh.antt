-- A slot that is made for the first time was never named by the journal.
use Rattle.std.proofs.Common.{◌≡◌, ◌<◌, ◌≤◌, List, [], ◌∷◌, sym, ◌∙◌, ap, subst, arith, ◌⊎◌, inl, inr}
use Rattle.std.specs.Prelude.{Contains}
use Rattle.std.proofs.lemmas.Bool.{cases_eq}
use Rattle.std.proofs.lemmas.List.Elements.{Contains-append_left, Contains-append_right}
use Rattle.pa_slot.specs.declared.title.Title.{Title}
use Rattle.pa_slot.specs.declared.word.SlotName.{SlotName}
use Rattle.pa_record.specs.declared.taken.SuperPage.{SuperPage}
use Rattle.pa_record.specs.declared.pool.PoolEntry.{PoolEntry}
use Rattle.pa_record.specs.declared.root.RootEntry.{RootEntry}
use Rattle.pa_record.specs.declared.root.RootAct.{RootAct}
use Rattle.pa_record.specs.declared.root.RootAct.TheVariants.{Fill, Map, Full, Give, Unmap, Purge}
use Rattle.pa_buckets.specs.Bands.{fill_of}
use Rattle.pa_record.specs.Spans.{name_of}
use Rattle.pa_record.specs.Root.{Root, new_root, takes, opened_by, map_title, root_next, root_replayed, RootActFits, RootReplays, IsJournal}
use Rattle.pa_record.specs.Laws.{leaves_by, times, times_left}
use Rattle.pa_record.specs.Sound.{IsSound, IsMade, least_after_all}
use Rattle.pa_lists.proofs.Members.{not_in_none, first_in, in_cases}
use Rattle.pa_lists.proofs.Joined.{map_cases}
use Rattle.pa_record.proofs.Leaving.{out_is_left}
use Rattle.pa_record.proofs.Titles.{next_titles, titles_taken, journal_replayed, made_born}
use Rattle.pa_rules.proofs.FourPlaces.{times_member}
use Rattle.pa_legal.specs.Numbers.{moves_of}
use Rattle.pa_legal.proofs.Standing.{journal_out, journal_back}
use Rattle.pa_root.proofs.Named.{made_name}
use Rattle.pa_legal.proofs.Growing.{none_counted}

-- ---- what left the root was taken

next_taken : (pools : List PoolEntry) (act : RootAct) (r : Root) (name : SlotName) → RootActFits pools act r →
    Contains (leaves_by act) name →
    (u : Title) × Contains (next_titles pools act r) u × (name_of u ≡ name)
next_taken pools (Fill class asked slots) r name (real, has, same) leaves =
    map_cases name_of (takes class (fill_of class) (opened_by pools asked r)).titles name (subst (λ ns. Contains ns name) (sym same) leaves)
next_taken pools (Map asked slot len) r name fits leaves = elim (in_cases slot name [] leaves) [
  | inl e ↦ (map_title slot len, first_in (map_title slot len) [], e)
  | inr none ↦ absurd (not_in_none name none)
]
next_taken pools (Full class asked) r name fits leaves = absurd (not_in_none name leaves)
next_taken pools (Give slots) r name fits leaves = absurd (not_in_none name leaves)
next_taken pools (Unmap asked slot) r name fits leaves = absurd (not_in_none name leaves)
next_taken pools Purge r name fits leaves = absurd (not_in_none name leaves)

left_was_taken : (pools : List PoolEntry) (es : List RootEntry) (r : Root) (name : SlotName) → RootReplays pools es r →
    0 < times_left name es →
    (u : Title) × Contains (titles_taken pools es r) u × (name_of u ≡ name)
left_was_taken pools [] r name fits some = absurd (omega arith)
left_was_taken pools (e ∷ es) r name fits some = elim (cases_eq (times name (leaves_by e.act)) 0) [
  | inl none ↦
      let (u, among, same) = left_was_taken pools es (root_next pools e.act r) name fits.1 (omega arith) in
      (u, Contains-append_right (next_titles pools e.act r) (titles_taken pools es (root_next pools e.act r)) u among, same)
  | inr more ↦
      let (u, among, same) = next_taken pools e.act r name fits.0 (times_member name (leaves_by e.act) (omega arith)) in
      (u, Contains-append_left (next_titles pools e.act r) (titles_taken pools es (root_next pools e.act r)) u among, same)
]

-- ---- what never left was never named

never_named : (pools : List PoolEntry) (journal : List RootEntry) (name : SlotName) → IsJournal pools journal →
    times_left name journal ≡ 0 →
    moves_of journal name ≡ []
never_named pools journal name fits none =
    let out = journal_out name journal in
    let back = journal_back name journal in
    none_counted (moves_of journal name) (omega arith)
    (elim (out_is_left pools journal name fits) [ inl (is, e) ↦ omega arith | inr (isn't, e) ↦ omega arith ])

-- A slot that is made for the first time, in a super page of the journal's root or in one by a later entry of the pool.
pub fresh_unnamed : (pools : List PoolEntry) (journal : List RootEntry) (after : Root) (t : Title) → IsJournal pools journal →
    IsSound after →
    ((u : Title) → IsMade (root_replayed pools journal new_root) u → IsMade after u) →
    ((at : SuperPage) → Contains after.supers at → Contains (root_replayed pools journal new_root).supers at ⊎
    (least_after_all 0 journal ≤ at.born)) →
    IsMade after t → (IsMade (root_replayed pools journal new_root) t → ⊥) → moves_of journal (name_of t) ≡ []
fresh_unnamed pools journal after t fits sound keeps supers made new =
    never_named pools journal (name_of t) fits (elim (cases_eq (times_left (name_of t) journal) 0) [
      | inl none ↦ none
      | inr some ↦
          let (u, taken, same) = left_was_taken pools journal new_root (name_of t) fits.replays (omega arith) in
          let known = (journal_replayed pools journal fits.replays fits.rise).known.each u taken in
          elim known [
            | inl old ↦
                let e : u ≡ t = made_name after u t sound (keeps u old) made same in
                absurd (new (subst (λ x. IsMade (root_replayed pools journal new_root) x) e old))
            | inr (low, apart) ↦
                let (at, among, born) = made_born after t sound made in
                let one : u.born ≡ at.born = ap (λ (n : SlotName). n.born) same ∙ born in
                elim (supers at among) [
                  | inl before ↦ absurd (apart at before one)
                  | inr later ↦ absurd (omega arith)
                ]
          ]
    ])

-- A slot of a later entry of the pool than those that the journal names was never named.
pub later_unnamed : (pools : List PoolEntry) (journal : List RootEntry) (name : SlotName) → IsJournal pools journal →
    least_after_all 0 journal ≤ name.born →
    moves_of journal name ≡ []
later_unnamed pools journal name fits later =
    never_named pools journal name fits (elim (cases_eq (times_left name journal) 0) [
      | inl none ↦ none
      | inr some ↦
          let (u, taken, same) = left_was_taken pools journal new_root name fits.replays (omega arith) in
          let all = journal_replayed pools journal fits.replays fits.rise in
          let born : u.born ≡ name.born = ap (λ (n : SlotName). n.born) same in
          elim (all.known.each u taken) [
            | inl old ↦
                let (at, among, e) = made_born (root_replayed pools journal new_root) u all.sound old in
                let low = all.born.supers at among in
                absurd (omega arith)
            | inr (low, apart) ↦ absurd (omega arith)
          ]
    ])
