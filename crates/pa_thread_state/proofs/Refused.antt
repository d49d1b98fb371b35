-- What a root refused: the seat that took it in again, a batch that is on no list, and a slot that is left over.
use Rattle.std.proofs.Common.{◌≡◌, ℕ, ◌<◌, List, [], ◌∷◌, ◌++◌, Result, Ok, Err, Some, None, sym, ◌∙◌, ap, subst, arith, inl, inr}
use Rattle.std.specs.Prelude.{◌≢◌, AllPairs, Contains, OnErr, slice_index}
use Rattle.std.proofs.lemmas.List.{append-nil}
use Rattle.pa_slot.specs.declared.title.Title.{Title}
use Rattle.pa_slot.specs.Holdings.{FreeTitle}
use Rattle.pa_region.specs.declared.view.Stake.{Stake}
use Rattle.pa_region.specs.declared.view.View.{View}
use Rattle.pa_region.specs.Views.{free_of, seen_of}
use Rattle.pa_region.specs.Pairs.{log_among}
use Rattle.pa_region.specs.Lists.{list_of}
use Rattle.pa_region.specs.Takes.{log_of, SeenJoins, ListsJoin}
use Rattle.pa_region.specs.Hands.{IsParted, left_after, given_after, united}
use Rattle.pa_region.proofs.Pieces.{frees_have}
use Rattle.pa_link.proofs.Gaps.{free_same}
use Rattle.pa_cache.specs.Caches.{batch_after, rest_after}
use Rattle.pa_root.specs.Filling.{frees_parcel}
use Rattle.pa_root.proofs.Showing.{all_stakes, no_stakes}
use Rattle.pa_cells.specs.declared.handle.Handle.{Handle}
use Rattle.pa_cells.specs.Handles.{SlotsStaySeen}
use Rattle.pa_rules.specs.Lists.{cache_place}
use Rattle.pa_op_specs.specs.Stocks.{StockValue, IsStock, titles_in}
use Rattle.pa_op_specs.proofs.Seeing.{made_kept}
use Rattle.pa_thread_state.specs.Allocating.{BecomesList, with_listed}
use Rattle.pa_thread_state.specs.Changes.{IsBack}
use Rattle.pa_thread_state.specs.Giving.{TakesBack}
use Rattle.pa_thread_state.specs.Homing.{KeepsNoList, without_title, note_of_title}
use Rattle.pa_thread_state.specs.Stopping.{KeepsAll, RefusesBatch, StopsTail, IsLeftOver}
use Rattle.pa_thread_state.proofs.Places.{titles_here}
use Rattle.pa_rules.specs.Sizes.{HasClass}
use Rattle.pa_thread_state.proofs.HandedBack.{begins_again, rest_listed, taken_free}
use Rattle.pa_thread_state.proofs.TitleLists.{set_titles, in_batch, rest_or_batch}
use Rattle.pa_thread_state.proofs.Relisting.{listed_cases}
use Rattle.pa_thread_state.proofs.Staying.{words_again}

-- ---- a seat takes in again what it had handed over

-- the note with free titles comes back
pub taken_back : SeenJoins → ListsJoin → (ts : List Title) (v left note w : View) → left ≡ left_after (frees_parcel ts) v →
    note ≡ given_after (frees_parcel ts) v → IsParted v left note → IsParted w left note → w ≡ united left note → TakesBack v w
taken_back seen longest ts v left note w left_is note_is parted again w_is = record {
  things = λ x. let a = parted.things x in let b = again.things x in omega arith;
  unclean = let a = parted.unclean in let b = again.unclean in omega arith;
  budget = let a = parted.budget in let b = again.budget in omega arith;
  stakes = λ k. let a = parted.stakes k in let b = again.stakes k in omega arith;
  logs = λ k. ap (λ (z : View). log_of k z) w_is ∙ ap (log_among k) stakes;
  words = λ q. subst (λ (z : View). slice_index z.words q ≡ slice_index v.words q) (sym w_is)
      (words_again v left note q (ap (λ (z : View). z.words) left_is) (ap (λ (z : View). z.words) note_is));
  lists = λ k. ap (λ (z : View). list_of k z) w_is ∙ elim (longest left note k).either [
    | inl e ↦ e ∙ ap (λ (z : View). list_of k z) left_is
    | inr e ↦ e ∙ ap (λ (z : View). list_of k z) note_is
  ];
  seen = λ t.
      let a : seen_of w t ≡ seen_of (united left note) t = ap (λ (z : View). seen_of z t) w_is in
      let b = seen left note t in
      let c : seen_of left t ≡ seen_of v t = ap (λ (z : View). seen_of z t) left_is in
      let d : seen_of note t ≡ seen_of v t = ap (λ (z : View). seen_of z t) note_is in
      omega arith;
}
  where
    stakes : left.stakes ++ note.stakes ≡ v.stakes
    stakes =
        ap (λ (z : View). z.stakes ++ note.stakes) left_is
        ∙ (ap (λ (ss : List Stake). ss ++ note.stakes) (all_stakes v.stakes)
        ∙ (ap (λ (z : View). v.stakes ++ z.stakes) note_is
        ∙ (ap (λ (ss : List Stake). v.stakes ++ ss) (no_stakes v.stakes) ∙ append-nil v.stakes)))

-- by what the calls say: a title was handed over, its root refused it, and the note was taken in again
pub came_back : SeenJoins → ListsJoin → (h : Handle) (s part mid after : StockValue) (note back : View) →
    part ≡ record s { view = without_title h.title s.view } → note ≡ note_of_title h.title s.view → IsParted s.view part.view note →
    mid ≡ part → back ≡ note → after ≡ record mid { view = united mid.view back } → IsParted after.view mid.view back → KeepsAll s after
came_back seen longest h s part mid after note back part_is note_is parted mid_is back_is after_is again =
    let whole : after ≡ record s { view = united part.view note } =
    after_is ∙ (ap (λ (z : StockValue). record z { view = united z.view back }) mid_is
    ∙ (ap (λ (n : View). record part { view = united part.view n }) back_is
    ∙ ap (λ (z : StockValue). record z { view = united part.view note }) part_is)) in
    let view : after.view ≡ united part.view note = ap (λ (z : StockValue). z.view) whole in
    record {
      same = whole ∙ ap (λ (v : View). record s { view = v }) (sym view);
      back = taken_back seen longest (h.title ∷ []) s.view part.view note after.view
          (ap (λ (z : StockValue). z.view) part_is) note_is parted
          (subst (λ (z : StockValue). IsParted after.view z.view note) mid_is
          (subst (λ (n : View). IsParted after.view mid.view n) back_is again)) view;
    }

-- ---- a batch that is on no list

batch_alone : (s b : StockValue) (p c keep : ℕ) → IsStock s → p < 4 → HasClass s.caches.version c →
    BecomesList p c (rest_after keep (titles_in s.caches p c)) s b →
    (t : Title) → Contains (batch_after keep (titles_in s.caches p c)) t → (q d : ℕ) → Contains (titles_in b.caches q d) t → ⊥
batch_alone s b p c keep is low small takes t batch q d there =
    let ts = titles_in s.caches p c in
    let whole : AllPairs ◌≢◌ ts =
    subst (AllPairs ◌≢◌) (sym (titles_here s.caches p c small)) (is.lists.sound (cache_place s.caches.version p c)).different in
    let now : Contains (titles_in (with_listed p c (rest_after keep ts) s.caches) q d) t =
    subst (λ (z : StockValue). Contains (titles_in z.caches q d) t) takes.after_is there in
    elim (listed_cases s.caches p c (rest_after keep ts) q d low small is.lists.count) [
      | inl h ↦ rest_or_batch keep ts t whole (subst (λ us. Contains us t) h.2 now) batch
      | inr h ↦ h.0 (is.lists.apart q p d c t (subst (λ us. Contains us t) h.1 now) (in_batch keep ts t batch))
    ]

-- it was taken off its list, and the seat took it in again
pub refused : (s b after : StockValue) (w : View) (p c keep : ℕ) → IsStock s → p < 4 → HasClass s.caches.version c →
    BecomesList p c (rest_after keep (titles_in s.caches p c)) s b → TakesBack b.view w → after ≡ record b { view = w } →
    RefusesBatch p c keep s after
refused s b after w p c keep is low small takes back after_is = record {
  between = b;
  off = takes;
  keeps = record {
    same = after_is ∙ ap (λ (v : View). record b { view = v }) (sym (ap (λ (z : StockValue). z.view) after_is));
    back = subst (λ (z : StockValue). TakesBack b.view z.view) (sym after_is) back;
  };
  kept = λ q d. ap (λ (z : StockValue). titles_in z.caches q d) (after_is ∙ ap (λ (z : StockValue). record z { view = w }) takes.after_is)
      ∙ set_titles s.caches p c (record { class = c; titles = rest_after keep (titles_in s.caches p c) }) q d low small is.lists.count;
  free = λ t among. subst (λ (z : StockValue). 0 < free_of z.view t) (sym after_is) (still t among);
  alone = λ t among q d there.
      batch_alone s b p c keep is low small takes t among q d
      (subst (λ (z : StockValue). Contains (titles_in z.caches q d) t) after_is there);
}
  where
    still : (t : Title) → Contains (batch_after keep (titles_in s.caches p c)) t → 0 < free_of w t
    still t among =
        let had = taken_free s b p c keep is takes t among in
        let e = back.things (FreeTitle t) in let f = frees_have w t in let g = frees_have b.view t in
        omega arith

-- ---- a slot that is left over

-- nothing but the seat is another, which has the slot still
pub kept_is_back : SlotsStaySeen → (h : Handle) (s after : StockValue) → IsBack h s → KeepsAll s after → IsBack h after
kept_is_back stays h s after back keeps = record {
  free =
      let had = back.free in
      let e = keeps.back.things (FreeTitle h.title) in let f = frees_have after.view h.title in let g = frees_have s.view h.title in
      omega arith;
  new = λ p c among. back.new p c (subst (λ (z : StockValue). Contains (titles_in z.caches p c) h.title) keeps.same among);
  made = stays h s.view after.view back.made (begins_again s.view after.view keeps.back h.partition);
}

-- a title that a step returned is still free and on no list after the tail of its list stopped
pub stopped_is_back : SlotsStaySeen → (line p c keep : ℕ) (h : Handle) (s after : StockValue) → IsBack h s →
    StopsTail line p c keep s after → IsBack h after
stopped_is_back stays line p c keep h s after back stops =
    let given = stops.gave.given in let mid = stops.between in
    let off = stops.refused.off in let b = stops.refused.between in
    let first : IsBack h mid = record {
      free = subst (λ n. 0 < n) (sym (given.frees h.title back.new)) back.free;
      new = λ q d among. back.new q d (given.listed q d h.title (subst (λ ts. Contains ts h.title) (given.kept q d) among));
      made = stays h s.view mid.view back.made (given.lists h.partition);
    } in
    record {
      free =
          let had = first.free in
          let r = free_same mid.view b.view off.relinked h.title in
          let e = stops.refused.keeps.back.things (FreeTitle h.title) in let f = frees_have after.view h.title in
          let g = frees_have b.view h.title in
          omega arith;
      new = λ q d among. first.new q d
          (rest_listed (titles_in mid.caches) p c keep q d h.title (subst (λ ts. Contains ts h.title) (stops.refused.kept q d) among));
      made = stays h b.view after.view (made_kept h mid.view b.view (ap (λ (v : View). v.seen_lists) off.relinked.rest) first.made)
          (begins_again b.view after.view stops.refused.keeps.back h.partition);
    }

-- The handle of a direct map has no class. So any class of it would keep no list.
pub no_class : (h : Handle) (s : StockValue) → h.class ≡ None → KeepsNoList h s
no_class h s none class some real = absurd (let bad : None ≡ Some class = sym none ∙ some in cc)

-- it was to go to its root alone
pub left_alone : {A E : Type 0} (line : ℕ) (h : Handle) (s after : StockValue) (result : Result A E) →
    KeepsNoList h s → OnErr result (KeepsAll s after) → OnErr result (IsBack h after) →
    OnErr result (IsLeftOver line h s after)
left_alone line h s after (Ok x) none keeps back = tt
left_alone line h s after (Err e) none keeps back = record { back = back; stopped = inl (none, keeps) }
