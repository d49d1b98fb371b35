-- A fill as a call: the root is sound with its entry, and what the caller knows.
use Rattle.std.proofs.Common.{◌≡◌, ℕ, List, [], ◌∷◌, ◌++◌, Option, Some, None, length, refl, sym, ◌∙◌, ap, subst}
use Rattle.pa_slot.specs.declared.title.Title.{Title}
use Rattle.pa_region.specs.declared.view.Made.{Made}
use Rattle.pa_region.specs.declared.view.View.{View}
use Rattle.pa_region.specs.Views.{least_stake}
use Rattle.pa_region.specs.Lists.{list_of}
use Rattle.pa_region.specs.Hands.{left_after}
use Rattle.pa_region.specs.Lending.{CanLend, Keeps, IsNoted}
use Rattle.pa_region.specs.Aware.{IsAware}
use Rattle.pa_region.proofs.LendBack.{lends_again}
use Rattle.pa_record.specs.declared.numbered.Numbered.{Numbered}
use Rattle.pa_record.specs.declared.root.RootAct.{RootAct}
use Rattle.pa_record.specs.declared.root.RootEntry.{RootEntry}
use Rattle.pa_record.specs.declared.root.RootAct.TheVariants.{Fill}
use Rattle.pa_record.specs.Numbers.{root_numbers}
use Rattle.pa_record.specs.Root.{Root}
use Rattle.pa_pool.specs.Calls.{take_entry}
use Rattle.pa_root.specs.Keeping.{RootState, IsRootSound}
use Rattle.pa_root.specs.Making.{EntersOne}
use Rattle.pa_root.specs.Handing.{EntersFor, numbered_by, root_entry}
use Rattle.pa_root.specs.Laws.{HasEntryMore, after_entry}
use Rattle.pa_root.specs.Filling.{fill_taken, frees_parcel, ready_root}
use Rattle.pa_root.specs.Telling.{FillTells}
use Rattle.pa_root.specs.Steps.{AskedIf, IsTakenOut}
use Rattle.pa_root.proofs.Entries.{entries_are_told}
use Rattle.pa_root.proofs.FillSteps.{given_only, numbers_are, not_more, all_long, all_differ, not_none}
use Rattle.pa_root.proofs.Taken as taken

-- a super page that is opened takes no turn
pub ready_turn : (asked : Option ℕ) (s : RootState) (u : View) → (ready_root asked s u).turn ≡ s.root.turn
ready_turn None s u = refl
ready_turn (Some j) s u = refl

-- the caller lends the same stake once the pool was asked
pub same_stake : (r p line : ℕ) (asked : Option ℕ) (v a : View) → AskedIf r p line asked v a → CanLend v →
    least_stake a.stakes ≡ least_stake v.stakes
same_stake r p line None v a same can = ap (λ (x : View). least_stake x.stakes) same
same_stake r p line (Some index) v a told can = (lends_again v a told.lends.keeps can).1

enters_for : (r p line : ℕ) (asked : Option ℕ) (act : RootAct) (v a after host host_now : View) (m : Made) → AskedIf r p line asked v a →
    IsNoted r p (root_numbers (root_entry line act)) a after host host_now m → (first : ℕ) ×
    EntersFor (length (list_of p host)) r p line asked (Some first) act v after
enters_for r p line None act v a after host host_now m same noted = (
  0,
  subst (λ z. EntersOne (length (list_of p host)) r p (root_entry line act) z after) same
      (entries_are_told.one r p (root_entry line act) a after host host_now m noted),
)
enters_for r p line (Some index) act v a after host host_now m told noted = (
  told.first,
  entries_are_told.two index r p [] (take_entry line p 1 (Some told.first))
      (root_entry line act) v a after host host_now told.made m told.is_made told.lends noted,
)

module _ (p line class : ℕ) (asked : Option ℕ) (s : RootState) (u left note x : View) (titles : List Title) (slots : List Numbered)
    (root : Root) (m : Made)
    (out : IsTakenOut p class asked s u left note titles slots root) where
  abbrev entry : RootEntry
  entry = root_entry line (Fill class asked slots)

  pub filled_sound : IsAware left → IsAware x → Keeps left x → list_of p x ≡ list_of p left ++ m ∷ [] → m.numbers ≡ root_numbers entry →
      IsRootSound p (record { view = x; journal = s.journal ++ entry ∷ []; root = root })
  filled_sound left_aware aware keeps list says =
      let c = out.between in
      let ts = (fill_taken class asked s u).titles in
      let y = left_after (frees_parcel ts) c in
      let is : entry ≡ root_entry line (Fill class asked (numbered_by c ts)) =
      ap (λ ns. root_entry line (Fill class asked ns)) (out.slots_are ∙ ap (numbered_by c) out.titles_are) in
      let left_is : left ≡ y = out.left_is ∙ ap (λ us. left_after (frees_parcel us) c) out.titles_are in
      let more : HasEntryMore p entry y x = subst (λ l. HasEntryMore p entry l x) left_is (m, list, says) in
      let y_aware = subst IsAware left_is left_aware in
      let y_keeps = subst (λ l. Keeps l x) left_is keeps in
      let sound : IsRootSound p (after_entry x entry s) =
      taken.fills_keep p line class asked s u c x out.new entry out.cut is aware y_aware y_keeps more in
      let next = taken.root_is p class asked s u c out.new out.cut line x aware y_aware y_keeps
      (subst (λ e. HasEntryMore p e y x) is more) in
      subst (λ z. IsRootSound p (record { view = x; journal = s.journal ++ entry ∷ []; root = z })) (next ∙ sym out.root_is) sound

  pub fill_tells : (r : ℕ) (v a after : View) (s_now : RootState) → AskedIf r p line asked v a →
      IsNoted r p (root_numbers entry) a after left x m →
      s_now.journal ≡ s.journal ++ entry ∷ [] → FillTells r p line class v after note titles s s_now
  fill_tells r v a after s_now told noted journal =
      let numbers = numbers_are p class asked s u left note titles slots root out in
      let (first, enters) = enters_for r p line asked (Fill class asked slots) v a after left x m told noted in
      record {
        gives = record {
          some = not_none p class asked s u left note titles slots root out;
          few = not_more p class asked s u left note titles slots root out;
          long = all_long p class asked s u left note titles slots root out;
          differ = all_differ p class asked s u left note titles slots root out;
          has = given_only p class asked s u left note titles slots root out;
          index = length (list_of p left);
          asked = asked;
          first = first;
          enters = subst (λ ns. EntersFor (length (list_of p left)) r p line asked (Some first) (Fill class asked ns) v after) numbers
              enters;
        };
        journal = journal ∙ ap (λ ns. s.journal ++ root_entry line (Fill class asked ns) ∷ []) numbers;
      }
