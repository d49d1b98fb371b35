-- A purge, partition after partition.
use Rattle.std.proofs.Common.{◌≡◌, ℕ, zero, suc, ◌+◌, ◌-◌, ◌<◌, ◌≤◌, Bool, true, false, List, [], ◌++◌, length, map, flat_map, append_assoc, refl, sym, ◌∙◌, ap, subst, arith, inl, inr}
use Rattle.std.specs.Prelude.{◌==◌, nat_lt, if◌then◌else◌, Contains}
use Rattle.std.specs.List.{filter_map, range_with_len}
use Rattle.std.proofs.lemmas.List.{append-nil}
use Rattle.std.proofs.lemmas.List.Elements.{Contains-append_cases, filter-append, filter_map-append}
use Rattle.std.proofs.lemmas.Bool.Decides.{nat_tests, eqb_tells}
use Rattle.pa_slot.specs.declared.title.Title.{Title}
use Rattle.pa_slot.specs.Titles.{IsWellFormed}
use Rattle.pa_record.specs.declared.numbered.Numbered.{Numbered}
use Rattle.pa_record.specs.declared.root.RootAct.{RootAct}
use Rattle.pa_record.specs.Numbers.{root_numbers}
use Rattle.pa_lists.proofs.Members.{not_in_none}
use Rattle.pa_region.specs.declared.view.Entry.{Entry}
use Rattle.pa_region.specs.declared.view.Entry.TheVariants.{Entered, Uncut}
use Rattle.pa_region.specs.declared.view.Made.{Made}
use Rattle.pa_region.specs.Views.{free_of, seen_of, stake_of}
use Rattle.pa_region.specs.Lists.{entered_in}
use Rattle.pa_rules.specs.Caches.{gives, purge_acts, listed_slots, all_listed}
use Rattle.pa_rules.proofs.Batches.{purge_names_none}
use Rattle.pa_logs.specs.Touches.{is_touch, touches}
use Rattle.pa_root.specs.Handing.{root_entry, numbered_by}
use Rattle.pa_step_order.specs.Signs.{Sign, sign_of, act_signs}
use Rattle.pa_step_order.proofs.Shaping.{shapes_have_signs}
use Rattle.pa_op_specs.specs.Stocks.{StockValue, IsStock, titles_in, listed_in}
use Rattle.pa_op_specs.specs.Workers.{HasItsStake}
use Rattle.pa_thread_state.specs.Purging.{PurgesRoot, without_lists}
use Rattle.pa_op_specs.proofs.Quiet.{same_titles}
use Rattle.pa_op_specs.proofs.Entered.{Entering, entering_none, entering_both, entered_here, entered_elsewhere}
use Rattle.pa_thread_state.proofs.HandedBack.{gives_enters}
use Rattle.pa_heap.proofs.Given.{entered_quiet, no_uncut, numbers_again}
use Rattle.pa_logs.proofs.Listing.{entered_append}

-- purges of the same lists have the same acts
acts_same : (xs ys : ℕ → List Numbered) (i n : ℕ) → ((c : ℕ) → xs c ≡ ys c) → purge_acts xs i n ≡ purge_acts ys i n
acts_same xs ys i zero same = refl
acts_same xs ys i (suc n) same =
    ap (λ ms. gives ms ++ purge_acts xs (i + 1) n) (same i) ∙ ap (λ acts. gives (ys i) ++ acts) (acts_same xs ys (i + 1) n same)

slots_same : (xs ys : ℕ → List Numbered) (i n : ℕ) → ((c : ℕ) → xs c ≡ ys c) → listed_slots xs i n ≡ listed_slots ys i n
unfolding listed_slots
slots_same xs ys i zero same = refl
slots_same xs ys i (suc n) same =
    ap (λ (ms : List Numbered). length ms + listed_slots xs (i + 1) n) (same i) ∙
    ap (λ k. length (ys i) + k) (slots_same xs ys (i + 1) n same)

-- ---- partition after partition

-- This many partitions were purged, and their lists had this many slots.
pub record Purging (line n slots : ℕ) (s now : StockValue) : Type 0 where
  pub stretch : List Entry
  pub enters : Entering s.thread line stretch s.view now.view
  pub says : (p : ℕ) → p < n →
      map (λ (m : Made). m.numbers) (entered_in p stretch) ≡ map root_numbers (map (root_entry line) (purge_acts (listed_in s p) 0 170))
  pub none : (p : ℕ) → n ≤ p → entered_in p stretch ≡ []
  pub quiet : touches stretch ≡ []
  pub signs : filter_map sign_of stretch
      ≡ flat_map (λ p. flat_map (act_signs line p) (purge_acts (listed_in s p) 0 170)) (range_with_len 0 n)
  pub uncut : (t : Title) → Contains stretch (Uncut t) → ⊥
  pub kept : (q c : ℕ) → titles_in now.caches q c ≡ (if nat_lt q n then [] else titles_in s.caches q c)
  pub numbers : (m : ℕ) (t : Title) → IsWellFormed m t → 0 < free_of now.view t → seen_of now.view t ≡ seen_of s.view t
  pub fewer : (t : Title) → free_of now.view t ≤ free_of s.view t
  pub frees : (t : Title) → ((q c : ℕ) → Contains (titles_in s.caches q c) t → ⊥) → free_of now.view t ≡ free_of s.view t
  pub same : (now.thread ≡ s.thread) × (now.partitions ≡ s.partitions) × (now.registers ≡ s.registers)
  pub plain : now.plain_from ≡ s.plain_from
  pub version : now.caches.version ≡ s.caches.version
  pub count : slots + all_listed (listed_in s) n (s.partitions - n) ≡ all_listed (listed_in s) 0 s.partitions

pub purging_none : (line : ℕ) (s : StockValue) → Purging line 0 0 s s
purging_none line s = record {
  stretch = [];
  enters = entering_none s.thread line s.view;
  says = λ p low. absurd (omega arith);
  none = λ p far. refl;
  quiet = refl;
  signs = refl;
  uncut = λ t among. not_in_none (Uncut t) among;
  kept = λ q c. none_below q (titles_in s.caches q c);
  numbers = λ m t well free. refl;
  fewer = λ t. omega arith;
  frees = λ t off. refl;
  same = (refl, refl, refl);
  plain = refl;
  version = refl;
  count =
      let e : s.partitions - 0 ≡ s.partitions = omega arith in
      let f : all_listed (listed_in s) 0 (s.partitions - 0) ≡ all_listed (listed_in s) 0 s.partitions = ap (all_listed (listed_in s) 0) e in
      omega arith;
}
  where
    none_below : (q : ℕ) (ts : List Title) → ts ≡ (if nat_lt q 0 then [] else ts)
    none_below q ts = go (nat_lt q 0) refl
      where
        go : (b : Bool) → nat_lt q 0 ≡ b → ts ≡ (if b then [] else ts)
        go true is = absurd (let low : q < 0 = grind (arith, nat_tests) in omega arith)
        go false is = refl

pub purging_stake : (line n slots : ℕ) (s now : StockValue) → Purging line n slots s now → HasItsStake s → HasItsStake now
purging_stake line n slots s now some stake =
    subst (λ k. 0 < stake_of now.view k) (sym some.same.0) (let e = some.enters.stakes s.thread in omega arith)

pub purging_thread : (line n slots : ℕ) (s now : StockValue) → Purging line n slots s now → now.thread ≡ s.thread
purging_thread line n slots s now some = some.same.0

-- the lists of the next are as they were
not_yet : (line n slots : ℕ) (s now : StockValue) → Purging line n slots s now → IsStock now → (c : ℕ) → listed_in now n c ≡ listed_in s n c
not_yet line n slots s now some is c =
    same_titles s.view now.view (titles_in now.caches n c)
    (λ t among. let well = is.lists.well n c t among in some.numbers well.0 t well.1 (is.lists.free n c t among))
    ∙ ap (numbered_by s.view) (some.kept n c ∙ itself (nat_lt n n) refl)
  where
    itself : (b : Bool) → nat_lt n n ≡ b → (if b then [] else titles_in s.caches n c) ≡ titles_in s.caches n c
    itself true is = absurd (let low : n < n = grind (arith, nat_tests) in omega arith)
    itself false is = refl

-- a title of a list that may have gone back was on that list
if_kept : (b : Bool) (ts : List Title) (t : Title) → Contains (if b then [] else ts) t → Contains ts t
if_kept true ts t among = absurd (not_in_none t among)
if_kept false ts t among = among

-- what was on no list is on none then
pub still_off : (line n slots : ℕ) (s now : StockValue) → Purging line n slots s now → (t : Title) →
    ((q c : ℕ) → Contains (titles_in s.caches q c) t → ⊥) → (q c : ℕ) → Contains (titles_in now.caches q c) t → ⊥
still_off line n slots s now some t off q c among =
    off q c (if_kept (nat_lt q n) (titles_in s.caches q c) t (subst (λ ts. Contains ts t) (some.kept q c) among))

-- one more
kept_more : (n q : ℕ) (ts us : List Title) → us ≡ (if nat_lt q n then [] else ts) →
    (if q == n then [] else us) ≡ (if nat_lt q (n + 1) then [] else ts)
kept_more n q ts us is = go (q == n) (nat_lt q n) (nat_lt q (n + 1)) refl refl refl is
  where
    go : (a b d : Bool) → (q == n) ≡ a → nat_lt q n ≡ b → nat_lt q (n + 1) ≡ d → us ≡ (if b then [] else ts) →
        (if a then [] else us) ≡ (if d then [] else ts)
    go true b true e f g is = refl
    go true b false e f g is = absurd (grind (arith, nat_tests))
    go false true true e f g is = is
    go false true false e f g is = absurd (grind (arith, nat_tests))
    go false false true e f g is = absurd (grind (arith, nat_tests))
    go false false false e f g is = is

-- a range of one number more, and pieces that are the same at each number of a range
range_more : {A : Type 0} (f : ℕ → List A) (a n : ℕ) → flat_map f (range_with_len a (n + 1)) ≡ flat_map f (range_with_len a n) ++ f (a + n)
range_more f a zero = append-nil (f a) ∙ ap f (let e : a ≡ a + 0 = omega arith in e)
range_more f a (suc n) =
    ap (λ k. flat_map f (range_with_len a k)) (let e : suc n + 1 ≡ suc (n + 1) = omega arith in e)
    ∙ ap (λ ys. f a ++ ys)
    (range_more f (a + 1) n ∙ ap (λ k. flat_map f (range_with_len (a + 1) n) ++ f k)
    (let e : (a + 1) + n ≡ a + suc n = omega arith in e))
    ∙ sym (append_assoc (f a) (flat_map f (range_with_len (a + 1) n)) (f (a + suc n)))

pub range_same : {A : Type 0} (f g : ℕ → List A) (a n : ℕ) → ((p : ℕ) → p < a + n → f p ≡ g p) →
    flat_map f (range_with_len a n) ≡ flat_map g (range_with_len a n)
range_same f g a zero same = refl
range_same f g a (suc n) same =
    ap (λ ys. ys ++ flat_map f (range_with_len (a + 1) n)) (same a (omega arith)) ∙
    ap (λ ys. g a ++ ys) (range_same f g (a + 1) n (λ p low. same p (omega arith)))

pub purging_more : (line n slots more : ℕ) (s now next : StockValue) → IsStock now → Purging line n slots s now →
    PurgesRoot line n more now next →
    n < s.partitions → n < 4 → Purging line (n + 1) (slots + more) s next
purging_more line n slots more s now next is some (more_is, given) below low = record {
  stretch = some.stretch ++ es;
  enters = entering_both s.thread line some.stretch es s.view now.view next.view some.enters
      (subst (λ k. Entering k line es now.view next.view) some.same.0
      (gives_enters line n (purge_acts (listed_in now n) 0 170) (without_lists n (titles_in now.caches)) now next given (omega arith)));
  says = λ p lower. elim (eqb_tells p n) [
    | inl y ↦
        subst (λ q. map (λ (m : Made). m.numbers) (entered_in q (some.stretch ++ es)) ≡
        map root_numbers (map (root_entry line) (purge_acts (listed_in s q) 0 170))) (sym y.1)
        (ap (map (λ (m : Made). m.numbers)) (entered_append n some.stretch es ∙
        (ap (λ ms. ms ++ entered_in n es) (some.none n (omega arith)) ∙ entered_here n given.entries))
        ∙ (given.says ∙ ap (λ acts. map root_numbers (map (root_entry line) acts))
        (acts_same (listed_in now n) (listed_in s n) 0 170 lists)))
    | inr away ↦
        ap (map (λ (m : Made). m.numbers)) (entered_append p some.stretch es
        ∙ (ap (λ ms. entered_in p some.stretch ++ ms) (entered_elsewhere n p given.entries away.1)
        ∙ append-nil (entered_in p some.stretch)))
        ∙ some.says p (less p n lower away.1)
  ];
  none = λ p far.
      entered_append p some.stretch es ∙
      (ap (λ ms. ms ++ entered_in p es) (some.none p (omega arith)) ∙ entered_elsewhere n p given.entries (λ e. omega arith));
  quiet = filter-append is_touch some.stretch es ∙ (ap (λ ms. ms ++ touches es) some.quiet ∙ entered_quiet n given.entries);
  signs =
      let acts : ℕ → List RootAct = λ p. purge_acts (listed_in s p) 0 170 in
      let signs_in : ℕ → List Sign = λ p. flat_map (act_signs line p) (acts p) in
      let here = acts_same (listed_in now n) (listed_in s n) 0 170 lists in
      let entered = shapes_have_signs.entries line n given.entries (purge_acts (listed_in now n) 0 170) low
      (given.says ∙ numbers_again line (purge_acts (listed_in now n) 0 170)) (purge_names_none (listed_in now n) 0 170) in
      filter_map-append sign_of some.stretch es ∙ ap (λ ys. ys ++ filter_map sign_of es) some.signs
      ∙ ap (λ ys. flat_map signs_in (range_with_len 0 n) ++ ys) (entered ∙ ap (flat_map (act_signs line n)) here)
      ∙ sym (range_more signs_in 0 n ∙ ap (λ k. flat_map signs_in (range_with_len 0 n) ++ signs_in k)
      (let e : 0 + n ≡ n = omega arith in e));
  uncut = λ t among. elim (Contains-append_cases some.stretch es (Uncut t) among) [
    | inl first ↦ some.uncut t first
    | inr second ↦ no_uncut n given.entries t second
  ];
  kept = λ q c. given.kept q c ∙ kept_more n q (titles_in s.caches q c) (titles_in now.caches q c) (some.kept q c);
  numbers = λ m t well free. given.numbers m t well free ∙ some.numbers m t well (let e = given.fewer t in omega arith);
  fewer = λ t. let e = given.fewer t in let f = some.fewer t in omega arith;
  frees = λ t off. given.frees t (still_off line n slots s now some t off) ∙ some.frees t off;
  same = (given.same.0 ∙ some.same.0, given.same.1 ∙ some.same.1, given.same.2 ∙ some.same.2);
  plain = given.plain ∙ some.plain;
  version = given.version ∙ some.version;
  count =
      let e : s.partitions - n ≡ suc (s.partitions - (n + 1)) = omega arith in
      let f : all_listed (listed_in s) n (s.partitions - n) ≡
      listed_slots (listed_in s n) 0 170 + all_listed (listed_in s) (n + 1) (s.partitions - (n + 1)) =
      ap (all_listed (listed_in s) n) e in
      let g = slots_same (listed_in now n) (listed_in s n) 0 170 lists in
      let h = some.count in
      omega arith;
}
  where
    es : List Entry
    es = map (Entered n) given.entries

    lists : (c : ℕ) → listed_in now n c ≡ listed_in s n c
    lists = not_yet line n slots s now some is

    less : (p m : ℕ) → p < m + 1 → (p ≡ m → ⊥) → p < m
    less p m low other = omega (arith, other)
