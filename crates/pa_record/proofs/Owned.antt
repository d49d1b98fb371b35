-- What a root has was taken by the entries of the pool that it names.
use Rattle.std.proofs.Common.{◌≡◌, ℕ, ◌+◌, ◌<◌, ◌≤◌, List, [], ◌∷◌, sym, ◌∙◌, ap, subst, arith, inl, inr, Option, Some, None}
use Rattle.std.specs.Prelude.{Contains}
use Rattle.std.proofs.lemmas.List.Elements.{Contains-push_cases}
use Rattle.pa_slot.specs.declared.title.Title.{Title}
use Rattle.pa_layout.specs.Pages.{page_place, supers_for}
use Rattle.pa_buckets.specs.Bands.{fill_of}
use Rattle.pa_buckets.specs.Table.{slots_of}
use Rattle.pa_record.specs.declared.taken.SuperPage.{SuperPage}
use Rattle.pa_record.specs.declared.pool.PoolEntry.{PoolEntry}
use Rattle.pa_record.specs.declared.root.RootEntry.{RootEntry}
use Rattle.pa_record.specs.declared.root.RootAct.{RootAct}
use Rattle.pa_record.specs.declared.root.RootAct.TheVariants.{Fill, Map, Full, Give, Unmap, Purge}
use Rattle.pa_record.specs.Pool.{act_at, FoundRun}
use Rattle.pa_record.specs.Root.{Root, new_root, takes, opened, opened_by, super_of, map_title, names, purged, empties, all_returned, Asked, root_next, root_replayed, RootActFits, RootReplays, RiseFrom, all_asked, asked_by, IsJournal}
use Rattle.pa_record.specs.Sound.{IsSound, IsSettled, IsBornBelow, IsMade, AsksFrom, least_after, IsInOwn}
use Rattle.pa_record.specs.Owned.{IsMapTaken, IsTakenBy, RootsAreTaken}
use Rattle.pa_lists.proofs.Members.{not_in_none}
use Rattle.pa_record.proofs.Slots.{slot_within}
use Rattle.pa_record.proofs.Filling.{takes_filled, opened_sound}
use Rattle.pa_record.proofs.Returning.{all_returned_is, times_is}
use Rattle.pa_record.proofs.Mapping.{without_map_in, born_more}
use Rattle.pa_record.proofs.Stepping.{next_is}
use Rattle.pa_record.proofs.Titles.{new_sound, new_born, rise_parts}

-- a root with the super pages and direct maps of one that is taken by the pool is taken by it
pub taken_same : (pools : List PoolEntry) (r after : Root) → after.supers ≡ r.supers → after.maps ≡ r.maps → IsTakenBy pools r →
    IsTakenBy pools after
taken_same pools r after e f h = record {
  supers = λ at member. h.supers at (subst (λ xs. Contains xs at) e member);
  maps = λ t among. h.maps t (subst (λ xs. Contains xs t) f among);
}

-- one with a super page more, which the entry took
opened_taken : (pools : List PoolEntry) (j first : ℕ) (r : Root) → FoundRun pools j 1 first → IsTakenBy pools r →
    IsTakenBy pools (opened first j r)
opened_taken pools j first r run h = record {
  supers = λ at member. elim (Contains-push_cases r.supers (record { number = first; born = j }) at member) [
    | inl old ↦ h.supers at old
    | inr e ↦ subst (λ (z : SuperPage). FoundRun pools z.born 1 z.number) e run
  ];
  maps = h.maps;
}

-- a fill, if it asked and if it didn't
filled_taken : (pools : List PoolEntry) (class n : ℕ) (asked : Option ℕ) (r : Root) → IsSound r → IsBornBelow n r → AsksFrom n asked →
    class < 170 → Asked pools class asked r →
    IsTakenBy pools r → IsTakenBy pools (takes class (fill_of class) (opened_by pools asked r)).root
filled_taken pools class n None r sound old asks real fits h =
    let f = takes_filled class (fill_of class) r sound real in
    taken_same pools r (takes class (fill_of class) r).root f.supers f.maps h
filled_taken pools class n (Some j) r sound old asks real (none, first, run) h =
    let number = super_of (act_at pools j) in
    let e : number ≡ first = ap super_of run in
    let new = opened number j r in
    let f = takes_filled class (fill_of class) new (opened_sound number j r sound (born_more n j r asks old)) real in
    taken_same pools new (takes class (fill_of class) new).root f.supers f.maps
    (subst (λ k. IsTakenBy pools (opened k j r)) (sym e) (opened_taken pools j first r run h))

pub next_taken : (pools : List PoolEntry) (act : RootAct) (n : ℕ) (r : Root) → IsSound r → IsBornBelow n r → AsksFrom n (asked_by act) →
    RootActFits pools act r →
    IsTakenBy pools r → IsTakenBy pools (root_next pools act r)
next_taken pools (Fill class asked slots) n r sound old asks fits h = filled_taken pools class n asked r sound old asks fits.0 fits.1 h
next_taken pools (Map asked slot len) n r sound old asks (first, run, start, born) h = record {
  supers = h.supers;
  maps = λ t among. elim (Contains-push_cases r.maps (map_title slot len) t among) [
    | inl before ↦ h.maps t before
    | inr e ↦ subst (λ z. IsMapTaken pools z) e (first, subst (λ j. FoundRun pools j (supers_for len) first) (sym born) run, start)
  ];
}
next_taken pools (Full class asked) n r sound old asks fits h = h
next_taken pools (Give slots) n r sound old asks fits h =
    let f = (all_returned_is (names slots) r sound fits.0 fits.1).kept in
    taken_same pools r (all_returned (names slots) r) f.supers f.maps h
next_taken pools (Unmap asked slot) n r sound old asks fits h = record {
  supers = h.supers;
  maps = λ t among. h.maps t (without_map_in slot.slot r.maps t among);
}
next_taken pools Purge n r sound old asks fits h =
    let f = (times_is (empties r) r sound).kept in
    taken_same pools r (purged r) f.supers f.maps h

-- entry by entry
replayed_taken : (pools : List PoolEntry) (es : List RootEntry) (n : ℕ) (r : Root) → IsSound r → IsSettled r → IsBornBelow n r →
    RootReplays pools es r → RiseFrom n (all_asked es) →
    IsTakenBy pools r → IsTakenBy pools (root_replayed pools es r)
replayed_taken pools [] n r sound few old fits rise h = h
replayed_taken pools (e ∷ es) n r sound few old fits rise h =
    let (asks, rest) = rise_parts n (asked_by e.act) (all_asked es) rise in
    let next = next_is pools e.act n r sound few old asks fits.0 in
    replayed_taken pools es (least_after n (asked_by e.act)) (root_next pools e.act r) next.sound next.settled next.born fits.1 rest
    (next_taken pools e.act n r sound old asks fits.0 h)

pub journal_taken : (pools : List PoolEntry) (journal : List RootEntry) → IsJournal pools journal →
    IsTakenBy pools (root_replayed pools journal new_root)
journal_taken pools journal h =
    replayed_taken pools journal 0 new_root new_sound (omega arith) new_born h.replays h.rise
    (record { supers = λ at member. absurd (not_in_none at member); maps = λ t among. absurd (not_in_none t among) })

-- a slot lies on the pages of its span, which are payload of its own super page
pub made_in_own : (pools : List PoolEntry) (r : Root) (t : Title) → IsSound r → IsTakenBy pools r → IsMade r t → IsInOwn pools t
made_in_own pools r t sound h (s, among, n, below, e) =
    let (at, page, p) = sound.placed s among in
    let low : s.made ≤ slots_of s.class → n < s.made → n < slots_of s.class = λ most less. omega arith in
    let w = slot_within s n (sound.spans s among).counted (low (sound.spans s among).counted.most below) in
    let place = p.place in let first = p.first in let last = p.last in
    let from = w.from in let to = w.to in
    let born : t.born ≡ at.born = ap (λ (x : Title). x.born) e ∙ p.born in (
      at.number,
      subst (λ j. FoundRun pools j 1 at.number) (sym born) (h.supers at p.among),
      subst (λ x. page_place at.number 1 ≤ x.start) (sym e) (omega arith),
      subst (λ x. x.start + x.len ≤ page_place at.number 127) (sym e) (omega arith),
    )

pub roots_are_taken : RootsAreTaken
roots_are_taken = record { next = next_taken; journal = journal_taken; own = made_in_own }
