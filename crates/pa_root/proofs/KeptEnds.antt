-- A root that is kept after the pool was asked: it got super pages, or none.
use Rattle.std.proofs.Common.{◌≡◌, ℕ, ◌+◌, ◌%◌, ◌<◌, ◌≤◌, List, Option, sym, subst, arith}
use Rattle.pa_slot.specs.declared.title.Title.{Title}
use Rattle.pa_layout.specs.Pages.{supers_for}
use Rattle.pa_region.specs.declared.view.View.{View}
use Rattle.pa_region.specs.Hands.{united}
use Rattle.pa_region.specs.Cuts.{CanCut, after_cut}
use Rattle.pa_region.specs.Shares.{Share}
use Rattle.pa_region.proofs.JoinStep.{united_parts}
use Rattle.pa_record.specs.declared.root.RootEntry.{RootEntry}
use Rattle.pa_record.specs.declared.root.RootAct.TheVariants.{Full}
use Rattle.pa_record.specs.Pool.{FoundNone}
use Rattle.pa_record.specs.Root.{Root, FullFits}
use Rattle.pa_record.specs.Sound.{IsSound}
use Rattle.pa_meta.specs.Stores.{IsPayloadOf}
use Rattle.pa_shelf.specs.Cutting.{IsBesideRecords}
use Rattle.pa_shelf.specs.Shelves.{ShelfParts, ShowsRoot}
use Rattle.pa_shelf.proofs.CutOut.{cuts_keep_shown}
use Rattle.pa_root.specs.declared.fault.FillFault.{FillFault}
use Rattle.pa_root.specs.declared.fault.FillFault.TheVariants as fault
use Rattle.pa_root.specs.Reading.{pools_seen}
use Rattle.pa_root.specs.Keeping.{IsInRun, IsRootSound}
use Rattle.pa_root.specs.Handing.{root_entry}
use Rattle.pa_root.specs.Cutting.{map_beside}
use Rattle.pa_root.specs.Kept.{root_of, state_of, IsKept}
use Rattle.pa_root.specs.Steps.{RefusesRoom, root_of_parts}
use Rattle.pa_root.specs.Telling.{NoneGiven}
use Rattle.pa_root.proofs.KeptOn.{kept_good, kept_with}
use Rattle.pa_root.proofs.Opened.{HasPages, still_sound}
use Rattle.pa_root.proofs.PagesCome.{not_ours}
use Rattle.pa_root.proofs.Refusing.{none_given}
use Rattle.pa_root.proofs.Rows.{maps_can_be_cut}
use Rattle.pa_root.proofs.Shown.{raw_held, shown_more, kept_more, united_more}

-- ---- none

kept_none : (r p line count : ℕ) (class : Option ℕ) (a b w w_now : Share) (js js_now : List RootEntry) (l : ShelfParts)
    (fault : FillFault) →
    IsKept p w.view js l → IsRootSound p (root_of_parts w_now.view js_now (root_of w.view js)) →
    RefusesRoom r p line count class a b w w_now js js_now fault →
    IsKept p w_now.view js_now l
kept_none r p line count class a b w w_now js js_now l (fault.Full j) kept sound told =
    let e : RootEntry = root_entry line (Full class told.full.asked) in
    let root = root_of w.view js in
    subst (λ es. IsKept p w_now.view es l) (sym told.journal)
    (kept_with p w.view w_now.view js e l l root kept tt (subst (λ es. IsRootSound p (root_of_parts w_now.view es root)) told.journal sound)
    (shown_more w.view w_now.view l root (kept_good p w.view js l kept) (kept_more w.view w_now.view told.keeps) kept.shown))
kept_none r p line count class a b w w_now js js_now l fault.OutOfMemory kept sound (seats, own, journals) =
    subst (λ (x : Share). IsKept p x.view js_now l) (sym own) (subst (λ es. IsKept p w.view es l) (sym journals) kept)

-- a root that was refused super pages is kept, and the caller gets the reason
pub refused_kept : (r p line count : ℕ) (class : Option ℕ) (a b w w_now : Share) (js js_now : List RootEntry) (l : ShelfParts)
    (fault : FillFault) →
    IsKept p w.view js l → ((asked : ℕ) → FoundNone (pools_seen w_now.view) asked count →
    FullFits (pools_seen w_now.view) class asked (root_of w.view js)) →
    RefusesRoom r p line count class a b w w_now js js_now fault →
    NoneGiven r p line count class a b (state_of w.view js) (state_of w_now.view js_now) fault × IsKept p w_now.view js_now l
refused_kept r p line count class a b w w_now js js_now l fault kept fits told =
    let root = root_of w.view js in
    let (given, sound) = none_given r p line count class a b w w_now js js_now root fault kept.sound fits told in (
      subst (λ z. NoneGiven r p line count class a b (state_of w.view js) (root_of_parts w_now.view js_now z) fault) sound.journal.replayed
          given,
      kept_none r p line count class a b w w_now js js_now l fault kept sound told,
    )

-- ---- some

module _ (p line count asked first : ℕ) (v0 : View) (js : List RootEntry) (l : ShelfParts) (r : ℕ) (v a w note : View)
    (kept : IsKept p v0 js l)
    (has : HasPages p line count asked first (state_of v0 js) r v a w note) where
  abbrev root : Root
  root = root_of v0 js

  abbrev u : View
  u = united w note

  pub pages_sound : IsRootSound p (root_of_parts w js root)
  pages_sound = still_sound p line count asked first (state_of v0 js) r v a w note has

  pub pages_good : IsSound root
  pages_good = kept_good p v0 js l kept

  pub shown_asked : ShowsRoot w l root
  shown_asked = shown_more v0 w l root pages_good (kept_more v0 w (has.own 0).keeps) kept.shown

  pub shown_both : ShowsRoot u l root
  shown_both = shown_more w u l root pages_good (united_more w note has.long) shown_asked

  -- a direct map is cut beside the root's records
  module _ (len : ℕ) (is : count ≡ supers_for len) (some : 1 ≤ count) where
    abbrev t : Title
    t = map_beside first asked len

    in_pages : (b : ℕ) → t.start ≤ b → b < t.start + t.len → IsInRun first count b
    in_pages b low high = (omega arith, omega arith)

    beside : IsBesideRecords l.supers t
    beside x b payload covers low high =
        not_ours p first count asked (root_of_parts w js root) note pages_sound has.both_aware has.run.has some b
        (in_pages b covers.0 covers.1)
        (raw_held p (root_of_parts w js root) x pages_sound
        (subst (λ ss. IsPayloadOf ss x) (sym shown_asked.kept.supers) payload) b low high)

    pub shown_cut : CanCut t u → ShowsRoot (after_cut t u) l root
    shown_cut can =
        cuts_keep_shown.shown u (after_cut t u) l root has.both_aware pages_good shown_both
        (cuts_keep_shown.more l.supers u u t (cuts_keep_shown.none l.supers u) can beside)

    pub can_cut : len % 8 ≡ 0 → 16 ≤ len → CanCut t u
    can_cut whole long =
        maps_can_be_cut first asked len u whole long
        (λ b inside. let raw = has.run.has.raws b (subst (λ n. IsInRun first n b) (sym is) inside) in
        let e = (united_parts w note).floors b asked in omega arith)
