-- A direct map that comes back is still mapped: its seat would hold no title that it uncut.
use Rattle.std.proofs.Common.{[], subst, arith, refl, inl, inr}
use Rattle.pa_region.specs.Lists.{list_of, IsBeginning}
use Rattle.pa_region.proofs.JoinStep.{united_parts}
use Rattle.pa_region.proofs.TakeLaws.{left_whole, right_begins}
use Rattle.pa_record.specs.declared.root.RootAct.TheVariants.{Map}
use Rattle.pa_record.specs.Sound.{IsMapBy}
use Rattle.pa_record.specs.Spans.{name_of}
use Rattle.pa_lists.proofs.Members.{first_in}
use Rattle.pa_root.specs.Handing.{root_entry}
use Rattle.pa_root.specs.Unmapping.{WhatComesIsMapped}
use Rattle.pa_root.proofs.Giving.{seen_is_in_journal}
use Rattle.pa_root.proofs.Together.{free_both}

pub what_comes_is_mapped : WhatComesIsMapped
what_comes_is_mapped p s w t can = elim (can.sound.maps.mapped t made) [
  | inl there ↦ there
  | inr gone ↦
      let a = (united_parts s.view w).undone t in
      let f = free_both s.view w t in
      let free = (can.has.frees t).1 (first_in t []) in
      absurd (can.both_aware.undone t (omega arith) (omega arith))
]
  where
    begins : IsBeginning (list_of p w) (list_of p s.view)
    begins =
        subst (λ l. IsBeginning (list_of p w) l) (left_whole s.view w p can.aware can.both_aware can.sound.journal.hosts.1)
        (right_begins s.view w p can.both_aware)

    made : IsMapBy s.journal t
    made =
        let (line, asked, among) = can.named in
        let e = root_entry line (Map asked (name_of t) t.len) in
        (e, asked, t.len, name_of t, seen_is_in_journal p s (list_of p w) e can.sound begins among, refl, refl)
