-- What a fill takes and hands over.
use Rattle.std.proofs.Common.{◌≡◌, ℕ, suc, ◌-◌, ◌<◌, ◌≤◌, List, Option, Some, None, length, sym, ◌∙◌, ap, subst, arith, slice_index_or}
use Rattle.std.specs.Prelude.{◌≢◌, All, AllPairs, Contains, IsSome}
use Rattle.std.proofs.lemmas.List.Elements.{All-contains_itself}
use Rattle.pa_slot.specs.declared.title.Title.{Title}
use Rattle.pa_buckets.specs.Table.{slot_of}
use Rattle.pa_buckets.specs.Bands.{fill_of}
use Rattle.pa_buckets.proofs.Facts.{IsRow-of}
use Rattle.pa_region.specs.declared.view.View.{View}
use Rattle.pa_region.specs.Hands.{left_after, given_after}
use Rattle.pa_region.specs.Lending.{HostsKeeper}
use Rattle.pa_record.specs.declared.numbered.Numbered.{Numbered}
use Rattle.pa_record.specs.Pool.{act_at}
use Rattle.pa_record.specs.Root.{Root, Filled, span_for, takes, super_of, Asked}
use Rattle.pa_record.specs.Steps.{IsFilled}
use Rattle.pa_record.proofs.Lawful.{fill_keeps}
use Rattle.pa_root.specs.Reading.{pools_seen}
use Rattle.pa_root.specs.Keeping.{RootState}
use Rattle.pa_root.specs.Handing.{HasOnly, numbered_by}
use Rattle.pa_root.specs.Filling.{ready_root, fill_taken, frees_parcel}
use Rattle.pa_root.specs.Steps.{IsTakenOut}
use Rattle.pa_root.proofs.Batches.{IsBesideCuts}
use Rattle.pa_root.proofs.Parcels.{KeepsBut, keeps_but}
use Rattle.pa_root.proofs.Taken as taken

-- a root that is ready has a span for the class
by_asked : (o : Option ℕ) (class : ℕ) (s : RootState) (u : View) → class < 170 → Asked (pools_seen u) class o s.root →
    IsSome (span_for class (ready_root o s u))
by_asked None class s u real asks = asks
by_asked (Some j) class s u real asks = fill_keeps.finds_new class (super_of (act_at (pools_seen u) j)) j s.root real

-- ---- what was taken out

module _ (p class : ℕ) (asked : Option ℕ) (s : RootState) (u left note : View) (titles : List Title) (slots : List Numbered) (root : Root)
    (out : IsTakenOut p class asked s u left note titles slots root) where
  abbrev f : Filled
  f = fill_taken class asked s u

  fill : IsFilled class (fill_of class) (ready_root asked s u) f
  fill = taken.fill p class asked s u out.between out.new out.cut

  pub hosts_left : HostsKeeper p left
  hosts_left =
      let once = taken.once p class asked s u out.between out.new out.cut in
      let free = taken.taken_free p class asked s u out.between out.new out.cut in
      let but : KeepsBut f.titles out.between (left_after (frees_parcel f.titles) out.between) =
      keeps_but f.titles out.between once free out.cut.aware.free_once in
      let beside : IsBesideCuts u out.between = taken.beside p class asked s u out.between out.new out.cut in
      let ((none, clean), has) = out.cut.ready.hosts in
      let y : HostsKeeper p (left_after (frees_parcel f.titles) out.between) = (
        ((λ k. but.stakes k ∙ (beside.stakes k ∙ none k)), but.unclean ∙ (beside.unclean ∙ clean)),
        (let a = but.keepers p in let b = beside.keepers p in omega arith),
      ) in
      subst (λ v. HostsKeeper p v) (sym (out.left_is ∙ ap (λ ts. left_after (frees_parcel ts) out.between) out.titles_are)) y

  pub given_only : HasOnly titles note
  given_only =
      let g = taken.fills_hand_out p class asked s u out.between out.new out.cut in
      subst (λ v. HasOnly titles v) (sym out.note_is)
      (subst (λ ts. HasOnly ts (given_after (frees_parcel ts) out.between)) (sym out.titles_are) g.has)

  pub numbers_are : slots ≡ numbered_by note titles
  numbers_are = out.slots_are ∙ sym (ap (λ v. numbered_by v titles) out.note_is)

  pub not_more : length titles ≤ fill_of class
  not_more = subst (λ ts. length ts ≤ fill_of class) (sym out.titles_are) fill.many

  pub all_long : All (λ (t : Title). t.len ≡ slot_of class) titles
  all_long k d less =
      fill.len (slice_index_or titles k d)
      (subst (λ ts. Contains ts (slice_index_or titles k d)) out.titles_are (All-contains_itself titles k d less))

  pub all_differ : AllPairs ◌≢◌ titles
  all_differ = subst (λ ts. AllPairs ◌≢◌ ts) (sym out.titles_are) (taken.once p class asked s u out.between out.new out.cut)

  finds_some : IsSome (span_for class (ready_root asked s u))
  finds_some = by_asked asked class s u out.cut.ready.class_is out.cut.ready.asked_if

  pub not_none : 1 ≤ length titles
  not_none =
      let some = (IsRow-of class out.cut.ready.class_is).some_fill in
      let e : fill_of class ≡ suc (fill_of class - 1) = omega arith in
      let good = taken.good p class asked s u out.between out.new out.cut in
      let least : 1 ≤ length (takes class (suc (fill_of class - 1)) (ready_root asked s u)).titles =
      fill_keeps.finds class (fill_of class - 1) (ready_root asked s u) good out.cut.ready.class_is finds_some in
      subst (λ ts. 1 ≤ length ts) (sym out.titles_are) (subst (λ n. 1 ≤ length (takes class n (ready_root asked s u)).titles) (sym e) least)
