-- The slot of the tests is made: what the seat has then.
use Rattle.std.proofs.Common.{false, ◌≡◌, true, ℕ, nat_le, ◌<◌, List, [], ◌∷◌, refl, sym, ◌∙◌, ap, subst, lit<, arith}
use Rattle.std.specs.Prelude.{Contains, not, ◌&&◌}
use Rattle.std.specs.List.{sum_by}
use Rattle.std.proofs.lemmas.List.Elements.{Contains-push}
use Rattle.pa_slot.specs.declared.title.Title.{Title}
use Rattle.pa_slot.specs.declared.title.OwnState.TheVariants.{Clean}
use Rattle.pa_slot.specs.declared.word.Step.TheVariants.{Issue, Copy}
use Rattle.pa_machine.specs.declared.event.Item.TheVariants as item
use Rattle.pa_slot.specs.Titles.{same_title, same_state}
use Rattle.pa_slot.specs.Holdings.{one}
use Rattle.pa_record.specs.Numbers.{root_numbers}
use Rattle.pa_region.specs.declared.view.OwnTitle.{OwnTitle}
use Rattle.pa_region.specs.declared.view.Made.{Made}
use Rattle.pa_region.specs.declared.marks.Mark.TheVariants as mark
use Rattle.pa_region.specs.declared.view.Entry.TheVariants.{Entered, Counted}
use Rattle.pa_region.specs.declared.view.View.{View}
use Rattle.pa_region.specs.Views.{sealed_of, own_as, unsealed_as, ref_of, HasStake}
use Rattle.pa_region.specs.Waiting.{is_unclean, unclean_of}
use Rattle.pa_region.specs.Hands.{is_clean_of, first_sealed, left_after, given_after}
use Rattle.pa_region.specs.Marks.{parcel_of}
use Rattle.pa_region.specs.Start.{first_view}
use Rattle.pa_region.specs.CutTells.{FirstCanCut}
use Rattle.pa_region.specs.Lending.{CanLend}
use Rattle.pa_region.specs.Moves.{CanCount, changed, busy, is_own_of, after_count}
use Rattle.pa_region.specs.Lists.{list_of}
use Rattle.pa_region.specs.Cuts.{after_cut}
use Rattle.pa_region.specs.Entries.{new_entry, after_enter}
use Rattle.pa_region.specs.Leaves.{EntryLeaves, EnterLeaves, NewWordsAreZero}
use Rattle.pa_cells.specs.declared.handle.Handle.{Handle}
use Rattle.pa_cells.specs.Handles.{HasSeenMade, ParkedHandle, IsSealedFrom, is_plain, GiversLackHandles}
use Rattle.pa_test_region.specs.CellSlots.{test_slot, test_handle, test_entry, IsFresh, HasTestSlot}

-- the seat that cut and entered the slot, and after its issue
abbrev pub entered_view : View → List ℕ → View
entered_view v ns = after_enter 0 ns (after_cut test_slot v)

abbrev pub issued_view : View → List ℕ → ℕ → View
issued_view v ns word = after_count Issue test_slot word (entered_view v ns)

-- each step leaves the stake
pub issued_stake : EntryLeaves → (v : View) (ns : List ℕ) (word : ℕ) → HasStake v →
    HasStake (entered_view v ns) × HasStake (issued_view v ns word)
issued_stake leaves v ns word has =
    let cut = after_cut test_slot v in
    let one = (leaves (Entered 0 (new_entry ns cut)) cut (entered_view v ns) has refl).least in
    let first : HasStake (entered_view v ns) = omega arith in
    let two = (leaves (Counted test_slot Issue word 0) (entered_view v ns) (issued_view v ns word) first refl).least in (
      first,
      omega arith,
    )

-- the Own can be copied
pub copy_can : EntryLeaves → (v : View) (ns : List ℕ) (word : ℕ) → IsFresh v → CanCount Copy test_slot (issued_view v ns word)
copy_can leaves v ns word fresh =
    let budget = fresh.budget in
    let own : unsealed_as (issued_view v ns word) test_slot Clean ≡ 1 =
    ap (λ (os : List OwnTitle). sum_by
    (λ (o : OwnTitle). one ((same_title o.title test_slot && same_state o.state Clean) && not o.sealed))
    (record { title = test_slot; state = Clean; idle = true; sealed = false } ∷ os)) fresh.owns in (
      omega arith,
      (issued_stake leaves v ns word fresh.stake).1,
      omega arith,
      tt,
    )

-- the seat has seen how the slot was made
made_seen : EnterLeaves → (v : View) (ns : List ℕ) → IsFresh v → ns ≡ root_numbers test_entry → HasSeenMade test_handle (entered_view v ns)
made_seen lists v ns fresh is =
    let cut = after_cut test_slot v in
    let list = (lists 0 ns cut (fresh.keeper, fresh.stake)).list in
    record {
      partition = lit< tt;
      entry = (
        new_entry ns cut,
        test_entry,
        subst (λ (l : List Made). Contains l (new_entry ns cut)) (sym list) (Contains-push (list_of 0 cut) (new_entry ns cut)),
        is,
        (0, refl),
      );
    }

-- the seat that made the slot has its Own and one Ref
pub slot_made : EntryLeaves → EnterLeaves → (v : View) (ns : List ℕ) (word found : ℕ) → IsFresh v → ns ≡ root_numbers test_entry
    → HasTestSlot (after_count Copy test_slot found (issued_view v ns word))
slot_made leaves lists v ns word found fresh is =
    let issued = issued_view v ns word in
    let stakes = issued_stake leaves v ns word fresh.stake in
    let least = (leaves (Counted test_slot Copy found 0) issued (after_count Copy test_slot found issued) stakes.1 refl).least in
    let stays = stakes.1 in
    let seen = made_seen lists v ns fresh is in
    record {
      owns = ap (λ (os : List OwnTitle). changed (is_own_of test_slot) busy
          (record { title = test_slot; state = Clean; idle = true; sealed = false } ∷ os)) fresh.owns;
      refs = ap (λ (ts : List Title). test_slot ∷ ts) fresh.refs;
      stake = omega arith;
      made = record { partition = seen.partition; entry = seen.entry };
    }

-- ---- what is handed over is sealed exactly if its partition is plain

-- the Own that the seat made isn't sealed
pub first_unsealed : (v : View) → HasTestSlot v → first_sealed (is_clean_of test_slot) v.owns ≡ false
first_unsealed v has = ap (first_sealed (is_clean_of test_slot)) has.owns

pub own_right : (plain_from : ℕ) (p : ParkedHandle) (v : View) → first_sealed (is_clean_of test_slot) v.owns ≡ nat_le plain_from 0
    → p.handle ≡ test_handle → p.own ≡ true →
    ((t : Title) → sealed_of p.note.view t ≡ one (same_title test_slot t && first_sealed (is_clean_of test_slot) v.owns)) →
    IsSealedFrom plain_from p
own_right plain_from p v flag handle own seals t =
    seals t ∙ (ap (λ b. one (same_title test_slot t && b)) flag ∙
    (ap (λ (h : Handle). one (same_title h.title t && is_plain plain_from h)) (sym handle) ∙
    ap (λ b. one ((b && same_title p.handle.title t) && is_plain plain_from p.handle)) (sym own)))

pub ref_right : (plain_from : ℕ) (p : ParkedHandle) → p.own ≡ false → ((t : Title) → sealed_of p.note.view t ≡ 0) →
    IsSealedFrom plain_from p
ref_right plain_from p own none t =
    none t ∙ ap (λ b. one ((b && same_title p.handle.title t) && is_plain plain_from p.handle)) (sym own)

-- after both were handed over the seat can lend its stake
pub both_left : GiversLackHandles → (v : View) → HasTestSlot v →
    CanLend (left_after (parcel_of (item.Ref test_slot ∷ []) 0 []) (left_after (parcel_of (item.Own test_slot ∷ []) 0 []) v))
both_left lacks v has =
    let own : 0 < own_as v test_slot Clean = (let e = ap (λ (os : List OwnTitle). sum_by
    (λ (o : OwnTitle). one (same_title o.title test_slot && same_state o.state Clean)) os) has.owns in omega arith) in
    let clean : unclean_of v ≡ 0 = ap (λ (os : List OwnTitle). sum_by (λ (o : OwnTitle). one (is_unclean o.state)) os) has.owns in
    let first = lacks true test_slot 0 v own in
    let other : 0 < ref_of v test_slot =
    (let e = ap (λ (ts : List Title). sum_by (λ (t : Title). one (same_title t test_slot)) ts) has.refs in omega arith) in
    (lacks false test_slot 0 (left_after (parcel_of (item.Own test_slot ∷ []) 0 []) v) other).lends (first.lends (has.stake, clean))

-- a new region's first view after it handed over keeper 5 and stake 1
abbrev pub first_left : View
first_left = left_after (parcel_of [] 0 (mark.Stake 1 ∷ [])) (left_after (parcel_of [] 0 (mark.Keeper 5 ∷ [])) (first_view 262144 16))

pub first_fresh : FirstCanCut → NewWordsAreZero → IsFresh first_left
first_fresh cuts zeros =
    let cut = cuts 262144 16 test_slot refl refl (omega arith) (omega arith) in
    record {
      raw = record { start_aligned = cut.start_aligned; len_aligned = cut.len_aligned; long = cut.long; floors = cut.floors };
      frees = refl;
      owns = refl;
      refs = refl;
      zeros = zeros 262144;
      keeper = omega arith;
      stake = omega arith;
      budget = refl;
    }

pub second_lends : CanLend
    (given_after (parcel_of [] 0 (mark.Stake 1 ∷ [])) (left_after (parcel_of [] 0 (mark.Keeper 5 ∷ [])) (first_view 262144 16)))
second_lends = (omega arith, refl)
