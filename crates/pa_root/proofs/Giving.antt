-- Slots that come back to a root are out of it, and leave it sound.
use Rattle.std.proofs.Common.{◌≡◌, ℕ, zero, suc, ◌+◌, ◌<◌, List, [], ◌∷◌, ◌++◌, Some, None, map, filter, sym, ◌∙◌, ap, subst, arith, ◌⊎◌, inl, inr}
use Rattle.std.specs.Prelude.{◌≢◌, All, AllPairs, Contains}
use Rattle.std.proofs.lemmas.List.{map-append}
use Rattle.std.proofs.lemmas.List.Elements.{All-weaker, All-contains_itself, Contains-append_left}
use Rattle.pa_slot.specs.declared.title.Title.{Title}
use Rattle.pa_slot.specs.declared.word.SlotName.{SlotName}
use Rattle.pa_region.specs.declared.view.Made.{Made}
use Rattle.pa_region.specs.declared.view.View.{View}
use Rattle.pa_region.specs.Views.{free_of, undone_of, seen_of, stake_of}
use Rattle.pa_region.specs.Waiting.{unclean_of}
use Rattle.pa_region.specs.Lists.{list_of, IsBeginning}
use Rattle.pa_region.specs.Hands.{united}
use Rattle.pa_region.specs.Lending.{Keeps, HostsKeeper}
use Rattle.pa_region.specs.Aware.{IsAware}
use Rattle.pa_region.proofs.TakeLaws.{right_begins, left_whole}
use Rattle.pa_record.specs.declared.root.RootEntry.{RootEntry}
use Rattle.pa_record.specs.declared.root.RootAct.TheVariants.{Give}
use Rattle.pa_record.specs.Numbers.{root_numbers}
use Rattle.pa_record.specs.Spans.{name_of}
use Rattle.pa_record.specs.Root.{Root, all_returned, root_next, IsOut}
use Rattle.pa_record.specs.Laws.{IsNameOut}
use Rattle.pa_record.specs.Steps.{IsReturned}
use Rattle.pa_record.specs.Sound.{IsSound, IsMade}
use Rattle.pa_lists.proofs.Joined.{map_cases, map_in, pairs_map}
use Rattle.pa_record.proofs.Leaving.{once_or_not}
use Rattle.pa_record.proofs.Lawful.{out_is_out}
use Rattle.pa_record.proofs.Returning.{all_returned_is}
use Rattle.pa_rules.specs.Holders.{Back, move_of}
use Rattle.pa_legal.specs.Numbers.{is_of, moves_of, at_end, IsNumbered}
use Rattle.pa_legal.proofs.Standing.{out_none}
use Rattle.pa_shelf.specs.Moving.{Rewritten}
use Rattle.pa_root.specs.Reading.{pools_seen}
use Rattle.pa_root.specs.Keeping.{RootState, HasJournal, HoldsMade, KnowsNumbers, HasRest, KeepsLeases, KnowsMaps, IsRootSound}
use Rattle.pa_root.specs.Handing.{at_number_seen, numbered_by, root_entry}
use Rattle.pa_root.specs.Laws.{HasEntryMore, after_entry, SeenIsInJournal}
use Rattle.pa_root.specs.Giving.{CanComeBack, AreAllOut, WhatComesIsOut, GivesKeep}
use Rattle.pa_region.proofs.JoinStep.{united_parts}
use Rattle.pa_root.proofs.MapsKept.{maps_leave}
use Rattle.pa_root.proofs.Whole.{made_is_whole}
use Rattle.pa_root.proofs.Seeing.{root_sound, rest_kept}
use Rattle.pa_root.proofs.Lists.{hosts_kept, journal_goes_on}
use Rattle.pa_record.proofs.MakingNone.{all_returned_make_none}
use Rattle.pa_root.proofs.Named.{made_name, title_is, filled_was_made}
use Rattle.pa_root.proofs.Numbering.{fill_by_numbers}
use Rattle.pa_root.proofs.Moves.{none_moves, one_moves, names_by, numbers_without, numbers_with}
use Rattle.pa_root.proofs.Together.{no_own_clean, free_both, hosts_both, free_now, handles_now, low_now, lease_now, budget_now, lists_now, pool_begins, left_now, right_now}
use Rattle.pa_record.proofs.OneEntry.{one_root}

-- what a beginning of the root's list says, the journal has
said_in_journal : (p : ℕ) (s : RootState) (list : List Made) (line : List ℕ) → HasJournal p s → IsBeginning list (list_of p s.view) →
    Contains (map (λ (m : Made). m.numbers) list) line → (f : RootEntry) × Contains s.journal f × (root_numbers f ≡ line)
said_in_journal p s list line has (rest, e) among =
    let whole : Contains (map (λ (m : Made). m.numbers) list ++ map (λ (m : Made). m.numbers) rest) line =
    Contains-append_left (map (λ (m : Made). m.numbers) list) (map (λ (m : Made). m.numbers) rest) line among in
    let all : map (λ (m : Made). m.numbers) list ++ map (λ (m : Made). m.numbers) rest ≡ map root_numbers s.journal =
    sym (map-append (λ (m : Made). m.numbers) list rest) ∙ sym (ap (map (λ (m : Made). m.numbers)) e) ∙ has.listed in
    map_cases root_numbers s.journal line (subst (λ ns. Contains ns line) all whole)

module _ (p : ℕ) (s : RootState) (w : View) (titles : List Title) (can : CanComeBack p s w titles) where
  pub good : IsSound s.root
  good = root_sound p s can.sound.journal

  -- each of them was made
  pub was_made : (t : Title) → Contains titles t → IsMade s.root t
  was_made t among =
      let (line, class, asked, slots, n, size, has, name, said) = can.named t among in
      let known : IsBeginning (list_of p w) (list_of p s.view) =
      subst (λ l. IsBeginning (list_of p w) l) (left_whole s.view w p can.aware can.both_aware can.sound.journal.hosts.1)
      (right_begins s.view w p can.both_aware) in
      let (f, entry, says) = said_in_journal p s (list_of p w) _ can.sound.journal known said in
      let (u, made, same, len) =
      filled_was_made (pools_seen s.view) s.journal can.sound.journal.fits f class asked slots n entry
      (fill_by_numbers f line class asked slots says) has in
      let e : u ≡ t = title_is u t (same ∙ name) (len ∙ sym size) in
      subst (λ x. IsMade s.root x) e (subst (λ r. IsMade r u) (sym can.sound.journal.replayed) made)

  -- a title that comes back isn't free with the root
  not_here : (t : Title) → Contains titles t → 0 < free_of s.view t → ⊥
  not_here t among free =
      let there = (can.has.frees t).1 among in
      let both = free_both s.view w t in
      let once = can.both_aware.free_once t in
      absurd (omega arith)

  pub is_out : (t : Title) → Contains titles t → IsOut s.root (name_of t)
  is_out t among = elim (can.sound.titles.has t (was_made t among)) [
    | inl free ↦ absurd (not_here t among free)
    | inr out ↦ out
  ]

  out_by_name : (name : SlotName) → Contains (map name_of titles) name → IsOut s.root name
  out_by_name name among =
      let (t, has, e) = map_cases name_of titles name among in
      subst (λ n. IsOut s.root n) e (is_out t has)

  pub are_out : AreAllOut s titles
  are_out = record {
    out = All-weaker (Contains (map name_of titles)) (IsOut s.root) out_by_name (map name_of titles)
        (All-contains_itself (map name_of titles));
    once =
        pairs_map (λ (t : Title) (u : Title). t ≢ u) (λ (a : SlotName) (b : SlotName). a ≢ b) name_of titles
        (λ t u has has' differ same. differ (made_name s.root t u good (was_made t has) (was_made u has') same)) can.once;
  }

  -- a made slot with the name of one of them is that one
  is_one : (t : Title) → IsMade s.root t → Contains (map name_of titles) (name_of t) → Contains titles t
  is_one t made among =
      let (u, has, e) = map_cases name_of titles (name_of t) among in
      subst (λ x. Contains titles x) (made_name s.root u t good (was_made u has) made e) has

  no_stake : (k : ℕ) → stake_of w k ≡ 0
  no_stake = can.has.stakes

  all_clean : unclean_of w ≡ 0
  all_clean = no_own_clean w (λ t. let e = can.has.handles t in omega arith)

  -- ---- the root after they came back

  abbrev after : Root
  after = all_returned (map name_of titles) s.root

  back : IsReturned (map name_of titles) s.root after
  back = all_returned_is (map name_of titles) s.root good are_out.out are_out.once

  makes_none : (t : Title) → IsMade after t → IsMade s.root t
  makes_none t made = all_returned_make_none (map name_of titles) s.root t good are_out.out are_out.once made

  -- a slot came back, or is none of those that did
  came_or_not : (name : SlotName) → Contains (map name_of titles) name ⊎ (Contains (map name_of titles) name → ⊥)
  came_or_not name = elim (once_or_not name (map name_of titles) are_out.once) [ inl came ↦ inl came.0 | inr away ↦ inr away.0 ]

  -- a slot that the root has isn't one of them
  here_not_there : (t : Title) → 0 < free_of s.view t → Contains (map name_of titles) (name_of t) → ⊥
  here_not_there t free among = not_here t (is_one t (can.sound.titles.made t free) among) free

  module _ (line : ℕ) (y x : View) (wrote : Rewritten (united s.view w) y) (there_aware : IsAware y) (now : IsAware x) (keeps : Keeps y x)
      (more : HasEntryMore p (root_entry line (Give (numbered_by w titles))) y x) where
    abbrev entry : RootEntry
    entry = root_entry line (Give (numbered_by w titles))

    -- a view that holds it free after that
    free_where : (t : Title) → 0 < free_of x t → (0 < free_of s.view t) ⊎ Contains titles t
    free_where t free =
        let e = free_now s.view w y x wrote keeps t in
        elim (some_of (free_of s.view t) (free_of w t) (omega arith)) [
          | inl here ↦ inl here
          | inr there ↦ inr ((can.has.frees t).0 there)
        ]
      where
        some_of : (a b : ℕ) → 0 < a + b → (0 < a) ⊎ (0 < b)
        some_of zero b h = inr (omega arith)
        some_of (suc a) b h = inl (omega arith)

    titles_now : HoldsMade (record { view = x; journal = s.journal ++ entry ∷ []; root = after })
    titles_now = record {
      has = λ t made. elim (can.sound.titles.has t (makes_none t made)) [
        | inl free ↦ inl (let e = free_now s.view w y x wrote keeps t in omega arith)
        | inr out ↦ elim (came_or_not (name_of t)) [
          | inl came ↦
              let there = (can.has.frees t).1 (is_one t (makes_none t made) came) in
              inl (let e = free_now s.view w y x wrote keeps t in omega arith)
          | inr away ↦ inr (back.stays (name_of t) away out)
        ]
      ];
      made = λ t free. elim (free_where t free) [
        | inl here ↦ back.kept.keeps t (can.sound.titles.made t here)
        | inr there ↦ back.kept.keeps t (was_made t there)
      ];
      with_root = λ t free out. elim (free_where t free) [
        | inl here ↦ can.sound.titles.with_root t here (back.kept.only (name_of t) out)
        | inr there ↦ back.back (name_of t) (map_in name_of titles t there) out
      ];
      unused = λ t. let e = handles_now s.view w y x wrote keeps t in let a = can.sound.titles.unused t in let b = can.has.handles t in
          omega arith;
      budget = let e = budget_now s.view w y x wrote keeps in let a = can.sound.titles.budget in let b = can.has.budget in omega arith;
    }

    -- the move of a slot that came back
    moves_back : (t : Title) → Contains titles t →
        filter (is_of (name_of t)) (map (move_of line Back) (numbered_by w titles)) ≡ move_of line Back (at_number_seen w t) ∷ []
    moves_back t among =
        one_moves line Back (at_number_seen w t) (numbered_by w titles)
        (subst (λ ns. AllPairs ◌≢◌ ns) (sym (names_by w titles)) are_out.once) (map_in (at_number_seen w) titles t among)

    moves_not : (name : SlotName) → (Contains (map name_of titles) name → ⊥) →
        filter (is_of name) (map (move_of line Back) (numbered_by w titles)) ≡ []
    moves_not name away = none_moves line Back name (numbered_by w titles)
        (λ among. away (subst (λ ns. Contains ns name) (names_by w titles) among))

    -- a slot that was out is at no number
    at_none : (name : SlotName) → IsOut s.root name → at_end (Some 0) (moves_of s.journal name) ≡ None
    at_none name out =
        let (t, is, e) = out_is_out.titled s.root name out in
        out_none (pools_seen s.view) s.journal name can.sound.journal.fits (can.sound.numbers.numbered name)
        (subst (λ r. IsNameOut r name) can.sound.journal.replayed (t, is, e))

    numbered_now : (t : Title) → Contains titles t →
        IsNumbered (Some 0) (moves_of (s.journal ++ entry ∷ []) (name_of t)) ×
        (at_end (Some 0) (moves_of (s.journal ++ entry ∷ []) (name_of t)) ≡ Some (seen_of w t))
    numbered_now t among =
        numbers_with s.journal entry (name_of t) (move_of line Back (at_number_seen w t)) (moves_back t among)
        (can.sound.numbers.numbered (name_of t)) (at_none (name_of t) (is_out t among))

    numbers_now : KnowsNumbers (record { view = x; journal = s.journal ++ entry ∷ []; root = after })
    numbers_now = record {
      numbered = λ name. elim (came_or_not name) [
        | inl came ↦
            let (t, among, e) = map_cases name_of titles name came in
            subst (λ n. IsNumbered (Some 0) (moves_of (s.journal ++ entry ∷ []) n)) e (numbered_now t among).0
        | inr away ↦ subst (λ ms. IsNumbered (Some 0) ms) (sym (numbers_without s.journal entry name (moves_not name away)))
            (can.sound.numbers.numbered name)
      ];
      known = λ t free. elim (free_where t free) [
        | inl here ↦
            let well = made_is_whole s.root t good (can.sound.titles.made t here) in
            ap (at_end (Some 0)) (numbers_without s.journal entry (name_of t) (moves_not (name_of t) (here_not_there t here)))
            ∙ can.sound.numbers.known t here
            ∙ ap Some (sym (left_now s.view w y x wrote keeps
            (t.start + t.len) t can.aware can.both_aware there_aware now can.long well here))
        | inr there ↦
            let well = made_is_whole s.root t good (was_made t there) in
            (numbered_now t there).1
            ∙ ap Some (sym (right_now s.view w y x wrote keeps
            (t.start + t.len) t can.note_aware can.both_aware there_aware now can.long well ((can.has.frees t).1 there)))
      ];
    }

    rest_now : HasRest (record { view = x; journal = s.journal ++ entry ∷ []; root = after })
    rest_now = rest_kept s x (s.journal ++ entry ∷ []) after
        (low_now s.view w y x wrote keeps) back.kept.keeps back.kept.supers back.kept.maps can.sound.rest

    leases_now : KeepsLeases (record { view = x; journal = s.journal ++ entry ∷ []; root = after })
    leases_now = record {
      supers = λ at among. lease_now s.view w y x wrote keeps at.born
          (can.sound.leases.supers at (subst (λ ss. Contains ss at) back.kept.supers among));
      maps = λ t among. lease_now s.view w y x wrote keeps t.born
          (can.sound.leases.maps t (subst (λ ts. Contains ts t) back.kept.maps among));
    }

    maps_now : KnowsMaps p (record { view = x; journal = s.journal ++ entry ∷ []; root = after })
    maps_now =
        maps_leave p s x entry after can.sound.maps
        (record {
          undone = λ t.
              let a = (united_parts s.view w).undone t in let k = keeps.undone t in
              let r : undone_of y t ≡ undone_of (united s.view w) t = ap (λ z. undone_of z t) wrote.rest in
              omega arith;
          pool = pool_begins s.view w y x wrote keeps can.both_aware;
        })
        back.kept.maps (λ asked len slot is. absurd (cc))

    -- the root after the entry is the one after the returns
    root_is : root_next (pools_seen x) entry.act s.root ≡ after
    root_is = ap (λ ns. all_returned ns s.root) (names_by w titles)

    journal_now : HasJournal p (after_entry x entry s)
    journal_now =
        let (m, list, says) = more in
        journal_goes_on p s x entry can.sound.journal
        (hosts_kept p y x keeps (subst (HostsKeeper p) (sym wrote.rest)
        (hosts_both p s.view w can.sound.journal.hosts can.has.stakes all_clean)))
        (pool_begins s.view w y x wrote keeps can.both_aware) (
          m,
          list ∙ ap (λ l. l ++ m ∷ []) (lists_now s.view w y x wrote keeps p ∙
              left_whole s.view w p can.aware can.both_aware can.sound.journal.hosts.1),
          says,
        )
        (record {
          act = (
            subst (λ ns. All (IsOut s.root) ns) (sym (names_by w titles)) are_out.out,
            subst (λ ns. AllPairs ◌≢◌ ns) (sym (names_by w titles)) are_out.once,
          );
          asks = tt;
        })

    pub keeps_root : IsRootSound p (after_entry x entry s)
    keeps_root =
        record {
          journal = journal_now;
          titles = subst (λ r. HoldsMade (record { view = x; journal = s.journal ++ entry ∷ []; root = r })) (sym root_is) titles_now;
          numbers = record { numbered = numbers_now.numbered; known = numbers_now.known };
          rest = subst (λ r. HasRest (record { view = x; journal = s.journal ++ entry ∷ []; root = r })) (sym root_is) rest_now;
          leases = subst (λ r. KeepsLeases (record { view = x; journal = s.journal ++ entry ∷ []; root = r })) (sym root_is) leases_now;
          maps = subst (λ r. KnowsMaps p (record { view = x; journal = s.journal ++ entry ∷ []; root = r })) (sym root_is) maps_now;
        }

pub what_comes_is_out : WhatComesIsOut
what_comes_is_out p s w titles can = are_out p s w titles can

pub gives_keep : GivesKeep
gives_keep p line s w y x titles can wrote there now keeps more = keeps_root p s w titles can line y x wrote there now keeps more

pub seen_is_in_journal : SeenIsInJournal
seen_is_in_journal p s list e sound begins among =
    let (f, has, same) = said_in_journal p s list (root_numbers e) sound.journal begins among in
    subst (λ x. Contains s.journal x) (one_root f e same) has
