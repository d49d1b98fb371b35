-- One slot that came back to its thread state: what was entered for it, and how the lists are then.
use Rattle.std.proofs.Common.{◌≡◌, ℕ, zero, suc, ◌-◌, ◌*◌, ◌/◌, ◌<◌, ◌≤◌, Bool, true, false, List, [], ◌∷◌, length, map, take, drop, Some, refl, sym, ◌∙◌, ap, subst, arith, ◌⊎◌, inl, inr}
use Rattle.std.specs.Prelude.{nat_le, nat_lt}
use Rattle.std.proofs.lemmas.Bool.Decides.{nat_tests}
use Rattle.pa_slot.specs.declared.title.Title.{Title}
use Rattle.pa_buckets.specs.Bands.{limit_for, limit_of}
use Rattle.pa_buckets.specs.Table.{slot_of}
use Rattle.pa_buckets.proofs.Facts.{limit_of-size}
use Rattle.pa_record.specs.declared.numbered.Numbered.{Numbered}
use Rattle.pa_record.specs.declared.root.RootAct.TheVariants.{Give}
use Rattle.pa_record.specs.Numbers.{root_numbers}
use Rattle.pa_lists.proofs.Elements.{length_map}
use Rattle.pa_lists.proofs.Members.{of_some}
use Rattle.pa_region.specs.declared.view.Entry.TheVariants.{Entered}
use Rattle.pa_region.specs.declared.view.Made.{Made}
use Rattle.pa_region.specs.declared.view.View.{View}
use Rattle.pa_region.specs.Views.{free_of, seen_of}
use Rattle.pa_region.specs.Aware.{IsAware}
use Rattle.pa_region.proofs.TakeLaws.{stakes_made}
use Rattle.pa_rules.specs.Caches.{Cache, SameLists, gives, kept, spilled, with_list}
use Rattle.pa_rules.specs.Sizes.{HasClass, class_total}
use Rattle.pa_rules.proofs.Versions.{real_in}
use Rattle.pa_root.specs.Handing.{at_number_seen, numbered_by, root_entry}
use Rattle.pa_cells.specs.declared.handle.Handle.{Handle}
use Rattle.pa_cells.specs.Handles.{HasSeenMade}
use Rattle.pa_op_specs.specs.Stocks.{StockValue, WorkerLists, IsStock, titles_in, listed_in}
use Rattle.pa_op_specs.specs.Workers.{HasItsStake}
use Rattle.pa_op_specs.specs.Entering.{HasSeenSome}
use Rattle.pa_op_specs.proofs.Entered.{Entering, entering_none, entering_both, one_enters}
use Rattle.pa_op_specs.proofs.Quiet.{same_titles}
use Rattle.pa_thread_state.specs.Changes.{BecomesFront, put_in_front}
use Rattle.pa_thread_state.specs.Homing.{ComesHome, GoesHome, Spills, without_title, note_of_title}
use Rattle.pa_thread_state.proofs.Fronting.{front_cases}
use Rattle.pa_thread_state.proofs.Fronts.{front_list, list_there, list_elsewhere}
use Rattle.pa_thread_state.proofs.HandedBack.{gives_enters}
use Rattle.pa_thread_state.proofs.Homing.{left_enters}
use Rattle.pa_heap.specs.Leaving.{WentBack}
use Rattle.pa_heap.proofs.Brought.{long_before}
use Rattle.pa_heap.proofs.Relinking.{entering_relinked}
use Rattle.pa_heap.proofs.Returning.{stays_whole, front_lists}

-- a worker that has seen how a slot was made has seen an entry of its partition's list
pub slot_entries : (s : StockValue) (h : Handle) → IsAware s.view → HasItsStake s → HasSeenMade h s.view →
    HasSeenSome s.thread h.partition s.view
slot_entries s h aware stake made =
    let (m, e, among, says, out) = made.entry in
    record { some = (m, among); own = stakes_made s.view s.thread h.partition aware stake }

-- ---- limits

limit_by : (size : ℕ) → (limit_for size ≡ 0) ⊎ (2 ≤ limit_for size)
limit_by size = go (nat_le size 128) (nat_le size 1024) (nat_le size 32768) (nat_le size 983040) refl refl refl refl
  where
    go : (a b d e : Bool) → nat_le size 128 ≡ a → nat_le size 1024 ≡ b → nat_le size 32768 ≡ d → nat_le size 983040 ≡ e →
        (limit_for size ≡ 0) ⊎ (2 ≤ limit_for size)
    go true b d e f g h i = inr (rw f (omega arith))
    go false true d e f g h i = inr (rw (f, g) (omega arith))
    go false false true e f g h i = inr (rw (f, g, h) (omega arith))
    go false false false true f g h i = inl (rw (f, g, h, i) refl)
    go false false false false f g h i = inl (rw (f, g, h, i) refl)

-- a class keeps no list, or one of two slots at least
limit_some : (c : ℕ) → c < 170 → 0 < limit_of c → 2 ≤ limit_of c
limit_some c real some =
    let is = limit_of-size c real in
    elim (limit_by (slot_of c)) [ inl none ↦ absurd (omega (arith, some, is, none)) | inr two ↦ omega (arith, is, two) ]

half_some : (n : ℕ) → 2 ≤ n → n / 2 ≡ suc (n / 2 - 1)
half_some n some = omega arith

-- what stays and what goes of a list that is at its limit, and of one that keeps nothing
over_limit : (c : ℕ) (x : Numbered) (xs : List Numbered) → 2 ≤ limit_of c → limit_of c ≤ length xs →
    (kept c (x ∷ xs) ≡ x ∷ take (limit_of c / 2 - 1) xs) × (spilled c (x ∷ xs) ≡ drop (limit_of c / 2 - 1) xs)
over_limit c x xs some full = go (nat_lt (limit_of c) (length (x ∷ xs))) refl
  where
    go : (b : Bool) → nat_lt (limit_of c) (length (x ∷ xs)) ≡ b →
        (kept c (x ∷ xs) ≡ x ∷ take (limit_of c / 2 - 1) xs) × (spilled c (x ∷ xs) ≡ drop (limit_of c / 2 - 1) xs)
    go true is = (
      rw is (ap (λ n. take n (x ∷ xs)) (half_some (limit_of c) some)),
      rw is (ap (λ n. drop n (x ∷ xs)) (half_some (limit_of c) some)),
    )
    go false is = absurd (let few : length (x ∷ xs) ≤ limit_of c = grind (arith, nat_tests) in omega arith)

none_kept : (c : ℕ) (x : Numbered) → limit_of c ≡ 0 → (kept c (x ∷ []) ≡ []) × (spilled c (x ∷ []) ≡ x ∷ [])
none_kept c x none = (rw none refl, rw none refl)

-- a list of a class without one is empty
pub no_list : (s : StockValue) (p class : ℕ) → length (titles_in s.caches p class) ≤ limit_of class → limit_of class ≡ 0 →
    listed_in s p class ≡ []
no_list s p class few none = go (titles_in s.caches p class) few
  where
    go : (ts : List Title) → length ts ≤ limit_of class → numbered_by s.view ts ≡ []
    go [] few = refl
    go (t ∷ ts) few = absurd (omega arith)

-- a slot of a class without a list goes back alone, and the lists are as they were
pub goes_alone : (before after : Cache) (p class : ℕ) (slot : Numbered) → limit_of class ≡ 0 → before p class ≡ [] →
    SameLists after before →
    (slot ∷ [] ≡ spilled class (slot ∷ before p class))
    × SameLists after (with_list before p class (kept class (slot ∷ before p class)))
goes_alone before after p class slot none empty same = (
  sym (ap (λ xs. spilled class (slot ∷ xs)) empty ∙ (none_kept class slot none).1),
  λ q d. same q d ∙ elim (front_list before p class q d (kept class (slot ∷ before p class))) [
    | inl h ↦ ap (λ k. before k d) h.0 ∙ (ap (λ k. before p k) h.1 ∙ (empty
        ∙ (sym (ap (λ xs. kept class (slot ∷ xs)) empty ∙ (none_kept class slot none).0) ∙ sym h.2)))
    | inr h ↦ sym h.1
  ],
)

-- ---- one slot

-- A slot of a class came back: it was at the front of its list, and what didn't stay there went back in these entries.
pub record SlotCame (line class : ℕ) (h : Handle) (s after : StockValue) : Type 0 where
  pub made : List Made
  pub enters : Entering s.thread line (map (Entered h.partition) made) s.view after.view
  pub says : map (λ (m : Made). m.numbers) made
      ≡ map root_numbers (map (root_entry line) (gives (spilled class (at_number_seen s.view h.title ∷ listed_in s h.partition class))))
  pub lists : SameLists (listed_in after)
      (with_list (listed_in s) h.partition class (kept class (at_number_seen s.view h.title ∷ listed_in s h.partition class)))

-- its list had room
front_came : (line class : ℕ) (h : Handle) (s after : StockValue) → IsStock s → h.partition < 4 → HasClass s.caches.version class →
    length (titles_in s.caches h.partition class) < limit_of class → BecomesFront h class s after → SlotCame line class h s after
front_came line class h s after is low real room front =
    let slot = at_number_seen s.view h.title in
    let long : length (listed_in s h.partition class) ≡ length (titles_in s.caches h.partition class) =
    length_map (at_number_seen s.view) (titles_in s.caches h.partition class) in
    let few : length (slot ∷ listed_in s h.partition class) ≤ limit_of class = omega arith in
    let whole = stays_whole class (slot ∷ listed_in s h.partition class) few in
    let seen : (t : Title) → seen_of after.view t ≡ seen_of s.view t = λ t. ap (λ (v : View). seen_of v t) front.relinked.rest in
    let lists = front_lists s after.view s.registers h.partition class (seen_of s.view h.title) h.title is low real
    (λ t free. seen t) (seen h.title) in
    record {
      made = [];
      enters = entering_relinked s.thread line [] s.view s.view after.view front.relinked (entering_none s.thread line s.view);
      says = ap (λ xs. map root_numbers (map (root_entry line) (gives xs))) (sym whole.1);
      lists = λ q d. ap (λ (z : StockValue). listed_in z q d) front.after_is ∙ (lists q d
          ∙ ap (λ xs. with_list (listed_in s) h.partition class xs q d) (sym whole.0));
    }

-- a slot of a class that went to its root was given alone
pub home_enters : (line class : ℕ) (h : Handle) (s after : StockValue) → h.partition < 4 → h.class ≡ Some class → GoesHome line h s after →
    (made : List Made) × Entering s.thread line (map (Entered h.partition) made) s.view after.view
    × (map (λ (m : Made). m.numbers) made
    ≡ map root_numbers (map (root_entry line) (gives (at_number_seen s.view h.title ∷ []))))
home_enters line class h s after low class_is home =
    let note = note_of_title h.title s.view in
    let left = without_title h.title s.view in
    let (index, one) = subst (λ k. ComesHome k s.thread h.partition line left after.view note h.title) class_is home.comes in (
      one.made ∷ [],
      entering_both s.thread line [] (Entered h.partition one.made ∷ []) s.view left after.view (left_enters s.thread line h.title s.view)
          (one_enters index s.thread h.partition line (Give (numbered_by note (h.title ∷ []))) left after.view one (omega arith)),
      ap (λ n. n ∷ []) one.is_made.says,
    )

-- its class keeps no list
home_came : (line class : ℕ) (h : Handle) (s after : StockValue) → IsStock s → h.partition < 4 → h.class ≡ Some class →
    limit_of class ≡ 0 → GoesHome line h s after → SlotCame line class h s after
home_came line class h s after is low class_is none home =
    let (ms, enters, says) = home_enters line class h s after low class_is home in
    let alone = goes_alone (listed_in s) (listed_in after) h.partition class (at_number_seen s.view h.title) none
    (no_list s h.partition class (is.lists.few h.partition class) none) home.lists in
    record {
      made = ms;
      enters = enters;
      says = says ∙ ap (λ xs. map root_numbers (map (root_entry line) (gives xs))) alone.0;
      lists = alone.1;
    }

-- ---- its list spilled

map_take : (v : View) (n : ℕ) (ts : List Title) → numbered_by v (take n ts) ≡ take n (numbered_by v ts)
map_take v zero ts = refl
map_take v (suc n) [] = refl
map_take v (suc n) (t ∷ ts) = ap (λ xs. at_number_seen v t ∷ xs) (map_take v n ts)

pub spill_came : (line class : ℕ) (h : Handle) (s after : StockValue) → IsStock after → h.partition < 4 →
    HasClass s.caches.version class → 0 < limit_of class → limit_of class ≤ length (titles_in s.caches h.partition class) →
    Spills line h class s after → SlotCame line class h s after
spill_came line class h s after sound low real some full spills = record {
  made = spills.gives.entries;
  enters = entering_relinked s.thread line (map (Entered h.partition) spills.gives.entries) s.view spills.between.view after.view
      spills.front.relinked
      (gives_enters line h.partition (gives (drop keep (listed_in s h.partition class))) _ s spills.between spills.gives (omega arith));
  says = spills.gives.says ∙ ap (λ xs. map root_numbers (map (root_entry line) (gives xs))) (sym over.1);
  lists = lists;
}
  where
    keep : ℕ
    keep = limit_of class / 2 - 1

    first : List Title
    first = take keep (titles_in s.caches h.partition class)

    between : StockValue
    between = spills.between

    stays : List Numbered
    stays = kept class (at_number_seen s.view h.title ∷ listed_in s h.partition class)

    over : (kept class (at_number_seen s.view h.title ∷ listed_in s h.partition class) ≡
        at_number_seen s.view h.title ∷ take (limit_of class / 2 - 1) (listed_in s h.partition class))
        × (spilled class (at_number_seen s.view h.title ∷ listed_in s h.partition class) ≡
        drop (limit_of class / 2 - 1) (listed_in s h.partition class))
    over =
        let long : length (listed_in s h.partition class) ≡ length (titles_in s.caches h.partition class) =
        length_map (at_number_seen s.view) (titles_in s.caches h.partition class) in
        over_limit class (at_number_seen s.view h.title) (listed_in s h.partition class)
        (limit_some class (real_in s.caches.version class real) some) (omega arith)

    caches : after.caches ≡ put_in_front h.partition class h.title spills.between.caches
    caches = ap (λ (z : StockValue). z.caches) spills.front.after_is

    long_between : length spills.between.caches.lists ≡ 4 * class_total spills.between.caches.version
    long_between = long_before spills.between.caches after.caches h.partition class h.title caches sound.lists.count

    -- a title that is on a list at the end is free then, so it has the number that was seen before
    end_numbers : (q d : ℕ) → listed_in after q d ≡ numbered_by s.view (titles_in after.caches q d)
    end_numbers q d =
        same_titles s.view after.view (titles_in after.caches q d)
        (λ t among.
        let well = sound.lists.well q d t among in
        let free = subst (λ (v : View). 0 < free_of v t) spills.front.relinked.rest (sound.lists.free q d t among) in
        ap (λ (v : View). seen_of v t) spills.front.relinked.rest ∙ spills.gives.numbers well.0 t well.1 free)

    kept_here : titles_in spills.between.caches h.partition class ≡ first
    kept_here = spills.gives.kept h.partition class ∙ list_there h.partition class first (titles_in s.caches)

    other_list : (q d : ℕ) → ((q ≡ h.partition) × (d ≡ class) → ⊥) → titles_in spills.between.caches q d ≡ titles_in s.caches q d
    other_list q d other = spills.gives.kept q d ∙ list_elsewhere h.partition class q d first (titles_in s.caches) other

    lists : SameLists (listed_in after)
        (with_list (listed_in s) h.partition class (kept class (at_number_seen s.view h.title ∷ listed_in s h.partition class)))
    lists q d = elim (front_cases spills.between.caches h.partition class h.title q d low
        (subst (λ v. HasClass v class) (sym spills.gives.version) real) long_between) [
          | inl here ↦ elim (front_list (listed_in s) h.partition class q d stays) [
            | inl y ↦
                let titles : titles_in after.caches q d ≡ h.title ∷ first =
                ap (λ (cs : WorkerLists). titles_in cs q d) caches ∙ (here.2 ∙ ap (λ ts. h.title ∷ ts) kept_here) in
                end_numbers q d ∙ (ap (numbered_by s.view) titles
                ∙ (ap (λ xs. at_number_seen s.view h.title ∷ xs) (map_take s.view keep (titles_in s.caches h.partition class))
                ∙ (sym over.0 ∙ sym y.2)))
            | inr none ↦ absurd (none.0 (here.0, here.1))
          ]
          | inr there ↦ elim (front_list (listed_in s) h.partition class q d stays) [
            | inl y ↦ absurd (there.0 (y.0, y.1))
            | inr none ↦
                let titles : titles_in after.caches q d ≡ titles_in s.caches q d =
                ap (λ (cs : WorkerLists). titles_in cs q d) caches ∙ (there.1 ∙ other_list q d there.0) in
                end_numbers q d ∙ (ap (numbered_by s.view) titles ∙ sym none.1)
          ]
        ]

-- ---- whichever it is

pub slot_came : (line class : ℕ) (h : Handle) (s after : StockValue) → IsStock s → WentBack line h s after → h.class ≡ Some class →
    HasClass s.caches.version class → SlotCame line class h s after
slot_came line class h s after is went class_is real = elim went.brought [
  | inl (c, c_is, c_real, room, front) ↦
      subst (λ k. SlotCame line k h s after) (same c c_is) (front_came line c h s after is low c_real room front)
  | inr (root, settled) ↦ elim settled [
    | inl (bare, home) ↦ home_came line class h s after is low class_is (bare class class_is real) home
    | inr (c, c_is, c_real, some, spills) ↦
        subst (λ k. SlotCame line k h s after) (same c c_is)
        (spill_came line c h s after went.stock low c_real some (root c c_is c_real) spills)
  ]
]
  where
    low : h.partition < 4
    low = went.free.made.partition

    same : (c : ℕ) → h.class ≡ Some c → c ≡ class
    same c c_is = of_some c class (sym c_is ∙ class_is)
