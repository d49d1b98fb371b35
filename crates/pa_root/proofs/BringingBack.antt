-- A title that comes back is uncut, and its super pages are given to the pool: what the steps ensure.
use Rattle.std.proofs.Common.{◌≡◌, ℕ, ◌<◌, ◌≤◌, [], ◌∷◌, ◌++◌, Some, length, map, sym, ◌∙◌, ap, subst, arith}
use Rattle.std.specs.Prelude.{slice_get}
use Rattle.std.proofs.lemmas.List.{append-nil, length-map, map-append}
use Rattle.pa_slot.specs.declared.title.Title.{Title}
use Rattle.pa_slot.specs.Titles.{IsWellFormed}
use Rattle.pa_region.specs.declared.view.Entry.TheVariants.{Entered, Uncut}
use Rattle.pa_region.specs.declared.view.Made.{Made}
use Rattle.pa_region.specs.declared.view.View.{View}
use Rattle.pa_region.specs.Views.{free_of, stake_of, seen_of, least_stake, HasTitle}
use Rattle.pa_region.specs.Waiting.{unclean_of}
use Rattle.pa_region.specs.Lists.{list_of, IsBeginning}
use Rattle.pa_region.specs.Hands.{united}
use Rattle.pa_region.specs.Aware.{IsAware}
use Rattle.pa_region.specs.Lending.{CanLend, CanHost, Keeps, Lends}
use Rattle.pa_region.specs.Shares.{Share}
use Rattle.pa_region.proofs.Entering.{least_there}
use Rattle.pa_region.proofs.JoinStep.{united_parts}
use Rattle.pa_region.proofs.LendBack.{begins_on}
use Rattle.pa_region.proofs.TakeLaws.{right_number}
use Rattle.pa_record.specs.declared.pool.PoolEntry.{PoolEntry}
use Rattle.pa_record.specs.Numbers.{pool_numbers}
use Rattle.pa_lists.proofs.Members.{first_in}
use Rattle.pa_record.proofs.PoolSteps.{slice_get_more}
use Rattle.pa_pool.specs.Pools.{PoolValue, IsPoolKept}
use Rattle.pa_pool.specs.Calls.{IsGivenBack, give_entry}
use Rattle.pa_root.specs.Reading.{pools_seen}
use Rattle.pa_root.specs.Handing.{HasOnly}
use Rattle.pa_root.specs.Uncutting.{IsShown, IsUncut, IsUncutWith}
use Rattle.pa_root.specs.BringingBack.{IsTitleBack, IsGivenFor}
use Rattle.pa_root.proofs.Lists.{pools_are_read, pools_more}
use Rattle.pa_root.proofs.Entries.{on, entry_is_new}
use Rattle.pa_root.proofs.Together.{free_both, no_own_clean}
use Rattle.pa_root.proofs.Asked.{shown_lends}

module _ (t : Title) (w : View) (has : HasOnly (t ∷ []) w) where
  -- the note has it free, and so has the seat that takes it in
  pub free_in_note : 0 < free_of w t
  free_in_note = (has.frees t).1 (first_in t [])

  pub free_in_both : (v u : View) → u ≡ united v w → 0 < free_of u t
  free_in_both v u is = subst (λ x. 0 < free_of x t) (sym is) (let e = free_both v w t in let f = free_in_note in omega arith)

  pub title_in_both : (v u : View) → u ≡ united v w → HasTitle u t
  title_in_both v u is = let f = free_in_both v u is in omega arith

  note_clean : unclean_of w ≡ 0
  note_clean = no_own_clean w (λ v. let h = has.handles v in omega arith)

  -- the seat that took it in can still be lent a stake
  pub both_hosts : (root shown u : View) → CanHost root → Keeps root shown → u ≡ united shown w → CanHost u
  both_hosts root shown u (none, clean) keeps is =
      let parts = united_parts shown w in
      let n = note_clean in
      subst CanHost (sym is) (
        (λ k. let e = parts.stakes k in let a = none k in let b = has.stakes k in let d = keeps.stakes k in omega arith),
        (let e = parts.unclean in let d = keeps.unclean in omega arith),
      )

  pub title_back : (n number : ℕ) (v mid after root shown u c : View) → IsShown root shown v mid → CanLend v → IsAware shown → IsAware w →
      IsAware u → u ≡ united shown w →
      length shown.words ≡ length w.words → IsWellFormed n t → n ≤ 16777216 → number ≡ seen_of u t →
      IsUncutWith (least_stake mid.stakes) t mid after u c →
      IsTitleBack (least_stake v.stakes) t number v after root c w
  title_back n number v mid after root shown u c view can aware note_aware both is long well small numbered uncut =
      let (again, least) = shown_lends v mid root shown view can in
      let r = least_stake v.stakes in
      let there : IsAware (united shown w) = subst IsAware is both in
      let lends : Lends r (Uncut t ∷ []) mid after = subst (λ k. Lends k (Uncut t ∷ []) mid after) least uncut.lends in
      record {
        shown = shown;
        keeps = view.giver;
        same = view.same;
        lists = λ k.
            begins_on (list_of k shown) (list_of k mid) (list_of k after)
            (subst (λ l. IsBeginning l (list_of k mid)) (sym (view.same k)) (view.lists k)) (uncut.lends.keeps.lists k);
        lends = on r [] (Uncut t ∷ []) v mid after (view.taker r) lends;
        shown_aware = aware;
        note_aware = note_aware;
        both_aware = there;
        long = long;
        uncut = subst (λ x. IsUncut t x c) is uncut.uncut;
        numbered = numbered ∙ (ap (λ x. seen_of x t) is ∙ right_number shown w n t note_aware there long well free_in_note);
        inside = let i = well.inside in omega arith;
      }

-- The pool's entry that says what was given back: where it is, that it is new, and that the root has seen it.
pub given_is : (line p taken first count index : ℕ) (seat seat_now : Share) (after root root_now : View) (pool pool_now : PoolValue) →
    IsGivenBack line p taken first count index seat seat_now pool pool_now → CanLend seat.view → IsAware seat.view → IsAware seat_now.view →
    IsPoolKept pool →
    IsShown seat_now.view after root root_now →
    IsGivenFor (least_stake seat.view.stakes) line p first count index seat.view after root root_now
given_is line p taken first count index seat seat_now after root root_now pool pool_now given can aware now kept shown =
    let r = least_stake seat.view.stakes in
    let e : PoolEntry = give_entry line p count first in
    let (m, entered) = given.entered in
    let whole : list_of 4 seat_now.view ≡ list_of 4 pool.view ++ m ∷ [] = entered.whole ∙ entered.list in
    let has : 0 < stake_of seat.view r = least_there seat.view.stakes can.0 in
    let new = entry_is_new r 4 seat.view seat_now.view (list_of 4 pool.view) m aware now has whole entered.lends in
    let long : length (list_of 4 pool.view) ≡ length pool.entries =
    sym (length-map (list_of 4 pool.view) (λ (n : Made). n.numbers)) ∙ (ap length kept.list ∙ length-map pool.entries pool_numbers) in
    let place = given.place in
    let numbers : map (λ (n : Made). n.numbers) (list_of 4 seat_now.view) ≡ map pool_numbers pool_now.entries =
    ap (map (λ (n : Made). n.numbers)) whole ∙ (map-append (λ (n : Made). n.numbers) (list_of 4 pool.view) (m ∷ [])
    ∙ (ap (λ ns. ns ++ m.numbers ∷ []) kept.list ∙ (ap (λ ns. map pool_numbers pool.entries ++ ns ∷ []) entered.says
    ∙ (sym (map-append pool_numbers pool.entries (e ∷ [])) ∙ sym (ap (map pool_numbers) entered.entries))))) in
    let here : slice_get (pools_seen seat_now.view) index ≡ Some e =
    subst (λ es. slice_get es index ≡ Some e) (sym (pools_are_read.list (list_of 4 seat_now.view) pool_now.entries numbers)) given.stands in
    let (rest, more) = pools_more seat_now.view root_now (shown.lists 4) in
    record {
      made = m;
      is_made = record {
        stake = entered.stake;
        says = entered.says;
        earlier = list_of 4 pool.view;
        stands = ([], shown.same 4 ∙ (whole ∙ sym (append-nil (list_of 4 pool.view ++ m ∷ []))));
        index = long ∙ sym place;
        before = entered.before;
        known = λ t. let a = entered.known t in let b = (shown.giver 0).keeps.seen t in omega arith;
      };
      lends = on r (Entered 4 m ∷ []) [] seat.view seat_now.view after entered.lends (shown.giver r);
      keeps = shown.taker;
      stands = subst (λ es. slice_get es index ≡ Some e) (sym more) (slice_get_more (pools_seen seat_now.view) rest index e here);
      later = omega arith;
    }
