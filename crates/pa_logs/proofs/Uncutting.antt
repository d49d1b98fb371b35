-- After a direct map went back it doesn't exist, so a title that exists wasn't uncut.
use Rattle.std.proofs.Common.{◌≡◌, ℕ, ◌+◌, ◌<◌, ◌≤◌, List, [], ◌∷◌, slice_get, Some, sym, ◌∙◌, ap, subst, arith, inl, inr}
use Rattle.std.specs.Prelude.{Contains}
use Rattle.std.proofs.lemmas.Bool.{cases_lt}
use Rattle.pa_slot.specs.declared.title.Title.{Title}
use Rattle.pa_slot.specs.declared.word.SlotName.{SlotName}
use Rattle.pa_slot.proofs.Same.{title_one}
use Rattle.pa_record.specs.declared.numbered.Numbered.{Numbered}
use Rattle.pa_record.specs.declared.pool.PoolEntry.{PoolEntry}
use Rattle.pa_record.specs.declared.root.RootEntry.{RootEntry}
use Rattle.pa_record.specs.declared.root.RootAct.{RootAct}
use Rattle.pa_record.specs.declared.root.RootAct.TheVariants.{Unmap}
use Rattle.pa_record.specs.Numbers.{root_numbers}
use Rattle.pa_record.specs.Root.{Root, new_root, root_next, root_replayed, RootActFits, RootReplays, RiseFrom, all_asked, asked_by}
use Rattle.pa_record.specs.Sound.{IsSound, AsksFrom, least_after}
use Rattle.pa_record.proofs.Lawful.{journal_leaves}
use Rattle.pa_lists.proofs.Joined.{filter_cases}
use Rattle.pa_lists.proofs.Members.{not_in_none, in_cases}
use Rattle.pa_record.proofs.OneEntry.{one_root}
use Rattle.pa_record.proofs.Titles.{new_sound, new_born, rise_parts}
use Rattle.pa_region.specs.declared.view.Entry.{Entry}
use Rattle.pa_region.specs.declared.view.Entry.TheVariants.{Counted, Looked, Read, Added, Entered, Uncut}
use Rattle.pa_region.specs.declared.view.Made.{Made}
use Rattle.pa_region.specs.Views.{uncuts, uncut_of}
use Rattle.pa_rules.specs.Roots.{Journals, AreRoots, IsPoolOf}
use Rattle.pa_rules.specs.Held.{IsStanding}
use Rattle.pa_rules.proofs.Following.{titles_follow}
use Rattle.pa_legal.proofs.Naming.{IsGone, IsGood, good_next, gone_next, unmap_gone}
use Rattle.pa_logs.specs.Told.{ToldRecord, played_in, told_of}
use Rattle.pa_logs.specs.Listed.{is_on}
use Rattle.pa_logs.specs.Indices.{AreLists}
use Rattle.pa_logs.specs.Standing.{Unmaps, OnlyUnmapsUncut, StandsUncut}
use Rattle.pa_logs.proofs.Filters.{get_in, place_at}
use Rattle.pa_logs.proofs.Indexing.{entry_there}
use Rattle.pa_logs.proofs.Listing.{lines_have_theirs}
use Rattle.pa_logs.proofs.Logs.{logs_are_told}
use Rattle.pa_logs.proofs.Sizing.{map_made, stands_made}
use Rattle.pa_logs.proofs.Sums.{told_some}

-- a title of an entry of the pool that is gone doesn't come back
gone_rest : (pools : List PoolEntry) (es : List RootEntry) (b n : ℕ) (r : Root) → IsGood n r → RootReplays pools es r →
    RiseFrom n (all_asked es) → IsGone b n r →
    (m : ℕ) × IsGone b m (root_replayed pools es r)
gone_rest pools [] b n r good fits rise gone = (n, gone)
gone_rest pools (e ∷ es) b n r good fits rise gone =
    let (asks, rest) = rise_parts n (asked_by e.act) (all_asked es) rise in
    gone_rest pools es b (least_after n (asked_by e.act)) (root_next pools e.act r)
    (good_next pools e.act b n r good asks fits.0) fits.1 rest (gone_next pools e.act b n r good asks fits.0 gone)

-- a direct map that an entry gives back is gone at the end
gone_end : (pools : List PoolEntry) (es : List RootEntry) (n : ℕ) (r : Root) (e : RootEntry) (asked : ℕ) (slot : Numbered) → IsGood n r →
    RootReplays pools es r → RiseFrom n (all_asked es) →
    Contains es e → e.act ≡ Unmap asked slot → (m : ℕ) × IsGone slot.slot.born m (root_replayed pools es r)
gone_end pools [] n r e asked slot good fits rise among is = absurd (not_in_none e among)
gone_end pools (x ∷ xs) n r e asked slot good fits rise among is =
    let (asks, rest) = rise_parts n (asked_by x.act) (all_asked xs) rise in
    elim (in_cases x e xs among) [
      | inl same ↦
          let act : RootAct = Unmap asked slot in
          let named : x.act ≡ act = ap (λ (z : RootEntry). z.act) same ∙ is in
          let low : n ≤ asked = subst (λ a. AsksFrom n (asked_by a)) named asks in
          let here = subst (λ a. RootActFits pools a r) named fits.0 in
          let gone = unmap_gone pools asked n slot r good low here in
          let then = good_next pools act 0 n r good low here in
          let (m, end) = gone_rest pools xs slot.slot.born (asked + 1)
          (root_next pools act r) then (subst (λ a. RootReplays pools xs (root_next pools a r)) named fits.1)
          (subst (λ a. RiseFrom (least_after n (asked_by a)) (all_asked xs)) named rest) gone in
          (m, subst (λ a. IsGone slot.slot.born m (root_replayed pools xs (root_next pools a r))) (sym named) end)
      | inr later ↦
          gone_end pools xs (least_after n (asked_by x.act)) (root_next pools x.act r) e asked slot
          (good_next pools x.act 0 n r good asks fits.0) fits.1 rest later is
    ]

-- what is gone doesn't exist
not_standing : (pools : List PoolEntry) (journal : List RootEntry) (t : Title) (b m : ℕ) → IsSound (root_replayed pools journal new_root) →
    IsGone b m (root_replayed pools journal new_root) → IsStanding pools journal t → t.born ≡ b → ⊥
not_standing pools journal t b m sound gone (inl (s, among, number, below, is)) same =
    let (at, page, placed) = sound.placed s among in
    gone.supers at placed.among (sym placed.born ∙ (ap (λ (u : Title). u.born) (sym is) ∙ same))
not_standing pools journal t b m sound gone (inr mapped) same = gone.maps t mapped same

uncut_is : (t : Title) (e : Entry) → 0 < uncuts t e → e ≡ Uncut t
uncut_is t (Counted u step found value) some_entry = absurd (omega arith)
uncut_is t (Looked u found) some_entry = absurd (omega arith)
uncut_is t (Read u place value since owned unclean) some_entry = absurd (omega arith)
uncut_is t (Added word bytes) some_entry = absurd (omega arith)
uncut_is t (Entered keeper made) some_entry = absurd (omega arith)
uncut_is t (Uncut u) some_entry = elim (title_one u t) [ inl y ↦ ap Uncut y.1 | inr n ↦ let none = n.0 in absurd (omega arith) ]

module _ (supers partitions p : ℕ) (lists : ℕ → List Made) (pools : List PoolEntry) (roots : Journals) (ts : List ToldRecord) (t : Title)
    (are : AreLists lists pools roots ts) (r : AreRoots partitions (played_in ts) pools roots)
    (h : IsPoolOf supers (played_in ts) pools roots)
    (only : OnlyUnmapsUncut ts) (stands : IsStanding pools (roots p) t) where
  -- the entry is one of its partition's journal
  in_journal : (x : ToldRecord) → Contains ts x → (u : Unmaps x t) → Contains (roots u.partition) u.entry
  in_journal x among u =
      let q = u.partition in
      let small = u.small in
      let is = are.is q (omega arith) in
      let theirs = lines_have_theirs.theirs q (lists q) ts x is are.rising among in
      let inside = (filter_cases (is_on x.played.line) (lists q) u.made (subst (λ ms. Contains ms u.made) (sym theirs) u.entered)).0 in
      let (i, at) = place_at (lists q) u.made inside in
      let (e, at_e, says) = entry_there root_numbers (lists q) (roots q) i u.made (are.journals q u.small) at in
      let one = one_root e u.entry (sym says ∙ u.says) in
      get_in (roots q) i u.entry (subst (λ f. slice_get (roots q) i ≡ Some f) one at_e)

  none : (x : ToldRecord) → Contains ts x → Contains x.stretch (Uncut t) → ⊥
  none x among there =
      let u = only x t among there in
      let q = u.partition in
      let j = r.journals q in
      let good : IsGood 0 new_root = record { sound = new_sound; settled = omega arith; born = new_born } in
      let inside = in_journal x among u in
      let (m, gone) = gone_end pools (roots q) 0 new_root u.entry u.asked u.slot good j.replays j.rise inside u.act in
      let born : t.born ≡ u.slot.slot.born = ap (λ (s : SlotName). s.born) (sym u.names) in
      let made = stands_made pools (roots p) t (r.journals p) stands in
      let (w, mapped, other_born) = map_made pools (roots q) u.entry u.asked u.slot j inside u.act in
      let same : p ≡ q = (titles_follow.titles supers partitions (played_in ts) pools roots r h).owned p q t w made mapped
      (born ∙ sym other_born) in
      not_standing pools (roots q) t u.slot.slot.born m (journal_leaves pools (roots q) j).sound gone
      (subst (λ k. IsStanding pools (roots k) t) same stands) born

pub stands_uncut : StandsUncut
stands_uncut supers partitions p lists pools roots ts v t are r h logs only stands =
    elim (cases_lt 0 (uncut_of v t)) [
      | inl more ↦
          let told : uncut_of v t ≡ told_of ts (uncuts t) = logs_are_told v ts (uncuts t) logs in
          let (x, e, among, there, some_entry) = told_some ts (uncuts t) (omega arith) in
          absurd (none supers partitions p lists pools roots ts t are r h only stands x among
          (subst (λ z. Contains x.stretch z) (uncut_is t e some_entry) there))
      | inr few ↦ omega arith
    ]
