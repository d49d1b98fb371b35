-- A root that is kept, and views of its seat that come one after the other: what is shown by one is shown by the next.
use Rattle.std.proofs.Common.{◌≡◌, ℕ, List, [], ◌∷◌, ◌++◌, length, get_or, refl, sym, ◌∙◌, subst, arith}
use Rattle.std.specs.Prelude.{Contains}
use Rattle.std.proofs.lemmas.List.Elements.{Contains-get_or}
use Rattle.pa_slot.specs.declared.title.Title.{Title}
use Rattle.pa_region.specs.declared.view.View.{View}
use Rattle.pa_region.specs.Views.{Knows}
use Rattle.pa_region.specs.Hands.{Parcel, left_after, united}
use Rattle.pa_region.specs.Lending.{Keeps}
use Rattle.pa_region.proofs.HandStep.{knows_less}
use Rattle.pa_region.proofs.JoinStep.{united_parts}
use Rattle.pa_region.proofs.TakeLaws.{left_known}
use Rattle.pa_record.specs.declared.root.RootEntry.{RootEntry}
use Rattle.pa_record.specs.Spans.{title_at}
use Rattle.pa_record.specs.Root.{Root}
use Rattle.pa_record.specs.Sound.{IsSettled, HasBatch}
use Rattle.pa_shelf.specs.Shelves.{ShelfParts, ShowsRoot, IsSlotOut, AreBack}
use Rattle.pa_root.specs.Keeping.{RootState, IsRootSound}
use Rattle.pa_root.specs.Giving.{CanComeBack}
use Rattle.pa_root.specs.Uncutting.{IsUncut}
use Rattle.pa_root.specs.Kept.{IsKept}
use Rattle.pa_root.proofs.CallGives.{free_there}
use Rattle.pa_root.proofs.Giving.{good, was_made, is_out}
use Rattle.pa_root.proofs.KeptOn.{kept_with}
use Rattle.pa_root.proofs.Named.{made_name}
use Rattle.pa_root.proofs.Shown.{SameKnown, shown_later, shown_more, united_more}

-- ---- what two views know

knows_kept : (v x : View) (q : ℕ) → Keeps v x → Knows v q → Knows x q
knows_kept v x q keeps knows = knows_less x v q (λ t. let e = keeps.things t in omega arith) knows

knows_back : (v x : View) (q : ℕ) → Keeps v x → Knows x q → Knows v q
knows_back v x q keeps knows = knows_less v x q (λ t. let e = keeps.things t in omega arith) knows

knows_both : (v w : View) (q : ℕ) → Knows v q → Knows (united v w) q
knows_both v w q knows = knows_less (united v w) v q (λ t. let e = (united_parts v w).things t in omega arith) knows

pub same_kept : (v x : View) → Keeps v x → SameKnown v x
same_kept v x keeps q knows now = keeps.words q knows

-- what was handed over takes no word along
pub same_handed : (parcel : Parcel) (c x : View) → Keeps (left_after parcel c) x → SameKnown c x
same_handed parcel c x keeps q knows now = keeps.words q (knows_back (left_after parcel c) x q keeps now)

-- a note came, its title was uncut, and its super pages went
pub same_uncut : (t : Title) (parcel : Parcel) (v shown w c x : View) → Keeps v shown → length shown.words ≡ length w.words →
    IsUncut t (united shown w) c →
    Keeps (left_after parcel c) x → SameKnown v x
same_uncut t parcel v shown w c x first long uncut last q knows now =
    let there = knows_kept v shown q first knows in
    let both = knows_both shown w q there in
    last.words q (knows_back (left_after parcel c) x q last now)
    ∙ (uncut.words q both ∙ (left_known shown w q long there ∙ first.words q knows))

-- ---- an entry more

pub kept_after : (p : ℕ) (v y x : View) (journal : List RootEntry) (e : RootEntry) (l m : ShelfParts) (r : Root) → IsKept p v journal l →
    HasBatch e.act →
    IsRootSound p (record { view = x; journal = journal ++ e ∷ []; root = r }) → SameKnown y x → ShowsRoot y m r →
    IsKept p x (journal ++ e ∷ []) m
kept_after p v y x journal e l m r kept few sound same shown =
    kept_with p v x journal e l m r kept few sound
    (shown_later p y (record { view = x; journal = journal ++ e ∷ []; root = r }) m sound same shown)

-- ---- slots that come back

pub are_back : (p : ℕ) (s : RootState) (w x : View) (l : ShelfParts) (titles : List Title) → CanComeBack p s w titles → IsSettled s.root →
    ShowsRoot s.view l s.root → x ≡ united s.view w → AreBack x l titles s.root
are_back p s w x l titles can settled shown is =
    let sound = good p s w titles can in
    let out : (t : Title) → Contains titles t → IsSlotOut s.root t = λ t among.
    let (span, member, n, away) = is_out p s w titles can t among in
    let low = away.provisioned in let high = (sound.spans span member).counted.made in (
      span,
      member,
      n,
      away,
      made_name s.root t (title_at span n) sound (was_made p s w titles can t among)
          (span, member, n, omega arith, refl) away.named,
    ) in
    subst (λ (z : View). AreBack z l titles s.root) (sym is) (record {
      sound = sound;
      settled = settled;
      shown = shown_more s.view (united s.view w) l s.root sound (united_more s.view w can.long) shown;
      out = out;
      once = λ i j d before below same.
          let first : Contains titles (get_or titles i d) = Contains-get_or titles i d (omega arith) in
          let second : Contains titles (get_or titles j d) = Contains-get_or titles j d below in
          can.once i j d before below
          (made_name s.root (get_or titles i d) (get_or titles j d) sound (was_made p s w titles can (get_or titles i d) first)
          (was_made p s w titles can (get_or titles j d) second) same);
      free = λ t among. free_there s.view w titles can.has t among;
    })
