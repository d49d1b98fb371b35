-- One take from a root that is shown: its new slots are cut, and a slot is taken.
use Rattle.std.proofs.Common.{◌≡◌, ℕ, ◌<◌, ◌≤◌, List, [], ◌∷◌, max, Option, Some, None, refl, sym, ◌∙◌, ap, subst, arith, inl, inr}
use Rattle.std.specs.Prelude.{Contains}
use Rattle.pa_slot.specs.declared.title.Title.{Title}
use Rattle.pa_slot.specs.declared.word.SlotName.{SlotName}
use Rattle.pa_buckets.specs.Table.{slots_of}
use Rattle.pa_lists.proofs.Members.{of_some, not_some, not_in_none, first_in, later_in}
use Rattle.pa_record.specs.declared.taken.SuperPage.{SuperPage}
use Rattle.pa_record.specs.Spans.{Span, title_at, name_of, more_slots, with_list, with_free}
use Rattle.pa_record.specs.Root.{Root, Found, span_for, taken_from, one_take, IsOut}
use Rattle.pa_record.proofs.Slots.{one_slot}
use Rattle.pa_record.proofs.SpanSteps.{with_free_front}
use Rattle.pa_record.proofs.Taking.{front_from}
use Rattle.pa_region.specs.declared.view.View.{View}
use Rattle.pa_region.specs.Views.{free_of, seen_of}
use Rattle.pa_region.specs.Aware.{IsAware}
use Rattle.pa_region.specs.Shares.{Share}
use Rattle.pa_region.specs.Cuts.{after_cut}
use Rattle.pa_shelf.specs.declared.cuts.NewSlots.{NewSlots}
use Rattle.pa_shelf.specs.Adding.{found_start, found_root}
use Rattle.pa_shelf.specs.Cutting.{IsBesideRecords, AreCutOut, cut_before}
use Rattle.pa_shelf.specs.Moving.{Rewritten}
use Rattle.pa_shelf.specs.Shelves.{ShelfParts, ShowsRoot}
use Rattle.pa_shelf.specs.Taking.{HasSlotAt, IsTakeAt, take_of}
use Rattle.pa_shelf.proofs.CutOut.{cuts_keep_shown}
use Rattle.pa_shelf.proofs.OneTake.{HasSlot, found_ready}
use Rattle.pa_shelf.proofs.Rewriting.{rewritten_on}
use Rattle.pa_root.specs.Cutting.{titles_beside, NoneSeen}
use Rattle.pa_root.specs.Filling.{CanCutAll, after_cuts}
use Rattle.pa_root.specs.Taking.{CanTakeOne, IsOneTaken, titles_new_in, cut_for}
use Rattle.pa_root.proofs.Batches.{free_cut}
use Rattle.pa_root.proofs.OneCut.{in_cut, of_cut, found_grown, made_grown}
use Rattle.pa_root.proofs.Rewording.{cuts_rewritten, free_rewritten, can_rewritten}

-- A span was found there for a take of the class from the root z: the seat had the view v, and has w, which shows the root with the span.
pub record HasFound (class : ℕ) (v : View) (l : ShelfParts) (z : Root) (w : View) (m : ShelfParts) (at : ℕ) : Type 0 where
  pub can : CanTakeOne class v l z
  pub real : class < 170
  pub wrote : Rewritten v w
  pub found : Found
  pub is : span_for class z ≡ Some found
  pub shown : ShowsRoot w m found.root
  pub here : found.span.place ≡ at

by_start : (o : Option Found) (at : ℕ) (z : Root) (w : View) (m : ShelfParts) → Some at ≡ found_start o → ShowsRoot w m (found_root o z) →
    (f : Found) × (o ≡ Some f) × ShowsRoot w m f.root × (f.span.place ≡ at)
by_start None at z w m e shown = absurd (not_some at (sym e))
by_start (Some f) at z w m e shown = (f, refl, shown, sym (of_some at f.span.place e))

pub found_by : (class : ℕ) (v : View) (l : ShelfParts) (z : Root) (w : View) (m : ShelfParts) (at : ℕ) → CanTakeOne class v l z →
    class < 170 → Rewritten v w →
    Some at ≡ found_start (span_for class z) → ShowsRoot w m (found_root (span_for class z) z) → HasFound class v l z w m at
found_by class v l z w m at can real wrote e shown =
    let (f, is, there, here) = by_start (span_for class z) at z w m e shown in
    record { can = can; real = real; wrote = wrote; found = f; is = is; shown = there; here = here }

-- ---- it has a slot, and the new ones can be cut

-- none of the titles is seen in a view in which only words are others
unseen_on : (ts : List Title) (v w : View) → Rewritten v w → NoneSeen v ts → NoneSeen w ts
unseen_on ts v w wrote none t among = ap (λ (x : View). seen_of x t) wrote.rest ∙ none t among

cut_all : (supers : List SuperPage) (us : List Title) (v w : View) → AreCutOut supers v w → CanCutAll us w →
    ((t : Title) → Contains us t → IsBesideRecords supers t) → AreCutOut supers v (after_cuts us w)
cut_all supers [] v w cut can beside = cut
cut_all supers (t ∷ us) v w cut (first, rest) beside =
    cut_all supers us v (after_cut t w) (cuts_keep_shown.more supers v w t cut first (beside t (first_in t us))) rest
    (λ u among. beside u (later_in t u us among))

module _ (class : ℕ) (v : View) (l : ShelfParts) (z : Root) (w : View) (m : ShelfParts) (at : ℕ) (h : HasFound class v l z w m at) where
  abbrev s : Span
  s = h.found.span

  abbrev grown : Root
  grown = h.found.root

  ready : HasSlot h.found
  ready = found_ready class z h.found h.can.sound h.real h.is

  pub slot_there : HasSlotAt w m at h.found.root h.found.span
  slot_there = record { sound = ready.sound; shown = h.shown; among = ready.among; here = h.here; less = ready.less }

  pub new_can : CanCutAll (titles_new_in h.found.span) w
  new_can = can_rewritten (titles_new_in s) v w h.wrote (subst (λ o. CanCutAll (cut_for o) v) h.is h.can.able)

  few : (with_free s).made ≤ slots_of s.class
  few =
      let f = with_free_front s (ready.sound.spans s ready.among).counted ready.less in
      let p = f.counted.most in
      let c = ap slots_of (front_from s f.rest).like.class in
      omega arith

  beside : (t : Title) → Contains (titles_new_in s) t → IsBesideRecords m.supers t
  beside t among =
      let (n, from, below, e) = in_cut s t among in
      let most = few in
      subst (IsBesideRecords m.supers) (sym e) (cuts_keep_shown.beside m.supers grown s n ready.sound ready.among (omega arith))

  -- a slot that isn't provisioned isn't out
  not_out : (n : ℕ) → s.provisioned ≤ n → n < s.made → IsOut grown (name_of (title_at s n)) → ⊥
  not_out n from below (y, among, k, out) =
      let c = (ready.sound.spans s ready.among).counted in
      let d = (ready.sound.spans y among).counted in
      let most = c.most in let less = out.provisioned in let made = d.made in let most' = d.most in
      let one = one_slot grown s y n k ready.sound ready.among among (omega arith) (omega arith) (ap (λ (a : SlotName). a.born) out.named)
      (ap (λ (a : SlotName). a.start) out.named) in
      let p = ap (λ (x : Span). x.provisioned) one.span in
      let q = one.number in
      absurd (omega arith)

  held_before : (n : ℕ) → s.provisioned ≤ n → n < s.made → 0 < free_of w (title_at s n)
  held_before n from below =
      let g = found_grown class z h.found h.is in
      elim (h.can.has (title_at s n) (made_grown z grown (title_at s n) g (s, ready.among, n, below, refl))) [
        | inl free ↦ subst (λ k. 0 < k) (sym (free_rewritten v w (title_at s n) h.wrote)) free
        | inr (y, among, k, out) ↦ absurd (not_out n from below (y, g.keeps y among, k, out))
      ]

  held_new : s.free ≡ [] → (n : ℕ) → s.made ≤ n → n < more_slots s → 0 < free_of (after_cuts (titles_new_in s) w) (title_at s n)
  held_new none n from below =
      let made : (with_free s).made ≡ max s.made (more_slots s) = ap (λ xs. (with_list xs s).made) none in
      free_cut (titles_new_in s) w (title_at s n) (of_cut s n from (omega arith))

  pub can_take : IsAware w → IsTakeAt (after_cuts (titles_new_in h.found.span) w) m at h.found.root h.found.span
  can_take aware =
      cuts_keep_shown.able w (after_cuts (titles_new_in s) w) m at grown s aware slot_there
      (cut_all m.supers (titles_new_in s) w w (cuts_keep_shown.none m.supers w) new_can beside)
      (λ none n from below. held_before n from below) held_new

  pub found_turn : m.lists.turn ≡ l.lists.turn
  found_turn = sym h.shown.kept.turn ∙ ((found_grown class z h.found h.is).turn ∙ h.can.shown.kept.turn)

  -- ---- and so it was taken

  take_is : take_of s grown ≡ one_take class z
  take_is = sym (ap (λ o. taken_from o z) h.is)

  pub one_taken : (x y : View) (k : ShelfParts) (title : Option Title) → x ≡ after_cuts (titles_new_in h.found.span) w →
      NoneSeen x (titles_new_in h.found.span) →
      Rewritten x y → title ≡ (take_of h.found.span h.found.root).title → ShowsRoot y k (take_of h.found.span h.found.root).root →
      IsOneTaken class z v y k title
  one_taken x y k title x_is none wrote title_is shown =
      let cut : Rewritten (after_cuts (titles_new_in s) v) y =
      rewritten_on (after_cuts (titles_new_in s) v) (after_cuts (titles_new_in s) w) y
      (cuts_rewritten (titles_new_in s) v w h.wrote) (subst (λ (u : View). Rewritten u y) x_is wrote) in
      record {
        title_is = title_is ∙ ap (λ t. t.title) take_is;
        shown = subst (λ t. ShowsRoot y k t.root) take_is shown;
        cut = subst (λ o. Rewritten (after_cuts (cut_for o) v) y) (sym h.is) cut;
        unseen = subst (λ o. NoneSeen y (cut_for o)) (sym h.is) (unseen_on (titles_new_in s) x y wrote none);
      }

-- the view after the cuts of the slots that were to be cut
pub cut_view : (n : NewSlots) (s : Span) (y x : Share) (z : View) → n ≡ cut_before s → y ≡ x →
    z ≡ after_cuts (titles_beside n.first 0 n.count) y.view →
    z ≡ after_cuts (titles_new_in s) x.view
cut_view n s y x z told same is =
    is ∙ (ap (λ (k : NewSlots). after_cuts (titles_beside k.first 0 k.count) y.view) told ∙
    ap (λ (q : Share). after_cuts (titles_new_in s) q.view) same)

-- ---- if none is found, none was taken

none_by : (o : Option Found) → None ≡ found_start o → o ≡ None
none_by None e = refl
none_by (Some f) e = absurd (not_some f.span.place e)

pub none_taken : (class : ℕ) (v w : View) (m : ShelfParts) (z : Root) → None ≡ found_start (span_for class z) →
    ShowsRoot w m (found_root (span_for class z) z) →
    Rewritten v w → IsOneTaken class z v w m None
none_taken class v w m z e shown wrote =
    let none = none_by (span_for class z) e in
    record {
      title_is = sym (ap (λ o. (taken_from o z).title) none);
      shown = subst (ShowsRoot w m) (ap (λ o. found_root o z) none ∙ sym (ap (λ o. (taken_from o z).root) none)) shown;
      cut = subst (λ o. Rewritten (after_cuts (cut_for o) v) w) (sym none) wrote;
      unseen = subst (λ o. NoneSeen w (cut_for o)) (sym none) (λ t among. absurd (not_in_none t among));
    }
