-- A purge of one partition: class after class, and then the root.
use Rattle.std.proofs.Common.{◌≡◌, ℕ, zero, suc, ◌+◌, ◌-◌, ◌<◌, ◌≤◌, Bool, true, false, List, [], ◌∷◌, ◌++◌, length, refl, sym, ◌∙◌, ap, subst, arith, inl, inr, append_assoc}
use Rattle.std.specs.Prelude.{◌==◌, ◌&&◌, nat_lt, if◌then◌else◌}
use Rattle.std.proofs.lemmas.List.{length-map, nil_from_length}
use Rattle.std.proofs.lemmas.Bool.{cases_eq, cases_lt}
use Rattle.pa_buckets.specs.Limits.{first_class, past_class}
use Rattle.std.proofs.lemmas.Bool.Decides.{nat_tests, eqb_tells}
use Rattle.pa_slot.specs.declared.title.Title.{Title}
use Rattle.pa_record.specs.declared.numbered.Numbered.{Numbered}
use Rattle.pa_record.specs.declared.root.RootAct.TheVariants.{Purge}
use Rattle.pa_region.specs.declared.view.View.{View}
use Rattle.pa_region.specs.Views.{stake_of}
use Rattle.pa_region.specs.Lending.{KeptNumbersStay}
use Rattle.pa_region.specs.Aware.{IsAware}
use Rattle.pa_rules.specs.Caches.{gives, purge_acts, listed_slots}
use Rattle.pa_rules.specs.Sizes.{HasClass}
use Rattle.pa_rules.proofs.Sums.{NoneButOf, slots_of_version, purge_of_version}
use Rattle.pa_rules.proofs.Versions.{class_cases, class_end}
use Rattle.pa_root.specs.Handing.{numbered_by, at_number_seen, PurgeEnters}
use Rattle.pa_op_specs.specs.Stocks.{StockValue, IsStock, titles_in, listed_in}
use Rattle.pa_op_specs.specs.Workers.{HasItsStake}
use Rattle.pa_thread_state.specs.Giving.{Gives, GivesTail, with_titles}
use Rattle.pa_thread_state.specs.Purging.{GivesLists, IsCleared, PurgesRoot, without_classes, without_lists}
use Rattle.pa_op_specs.proofs.Entered.{one_enters}
use Rattle.pa_thread_state.proofs.TitleLists.{this_one, other_list}
use Rattle.pa_thread_state.proofs.Places.{titles_none}
use Rattle.pa_thread_state.proofs.HandedBack.{gives_none, gives_left, gives_on, gives_listed}
use Rattle.pa_root.proofs.Seeing.{free_kept}

-- which lists went
cleared_not : (p n : ℕ) (lists : ℕ → ℕ → List Title) (q c : ℕ) → n ≤ c → without_classes p n lists q c ≡ lists q c
cleared_not p n lists q c far = go (q == p) (nat_lt c n) refl
  where
    go : (a b : Bool) → nat_lt c n ≡ b → (if a && b then [] else lists q c) ≡ lists q c
    go a true is = absurd (let low : c < n = grind (arith, nat_tests) in omega arith)
    go true false is = refl
    go false false is = refl

cleared_is : (p n : ℕ) (lists : ℕ → ℕ → List Title) (q c : ℕ) → q ≡ p → c < n → without_classes p n lists q c ≡ []
cleared_is p n lists q c here low = go (q == p) (nat_lt c n) refl refl
  where
    go : (a b : Bool) → (q == p) ≡ a → nat_lt c n ≡ b → (if a && b then [] else lists q c) ≡ []
    go true true this is = refl
    go true false this is = absurd (let high : n ≤ c = grind (arith, nat_tests) in omega arith)
    go false b away is = absurd (grind (arith, nat_tests))

cleared_other : (p n : ℕ) (lists : ℕ → ℕ → List Title) (q c : ℕ) → (q ≡ p → ⊥) → without_classes p n lists q c ≡ lists q c
cleared_other p n lists q c other = elim (eqb_tells q p) [ inl y ↦ absurd (other y.1) | inr n ↦ rw n.0 refl ]

-- nothing went, if there was nothing
cleared_none : (p n : ℕ) (lists : ℕ → ℕ → List Title) (q c : ℕ) → (q ≡ p → c < n → lists q c ≡ []) →
    without_classes p n lists q c ≡ lists q c
cleared_none p n lists q c none = elim (eqb_tells q p) [
  | inl y ↦ elim (cases_lt c n) [
    | inl low ↦ cleared_is p n lists q c y.1 low ∙ sym (none y.1 low)
    | inr far ↦ cleared_not p n lists q c far
  ]
  | inr away ↦ rw away.0 refl
]

-- no list went back yet: none is of a class before the version's
pub lists_none : (line p : ℕ) (s : StockValue) → GivesLists line p (first_class s.caches.version) s s
lists_none line p s =
    let first = first_class s.caches.version in
    record {
      acts = [];
      given = gives_left line p [] (titles_in s.caches) (without_classes p first (titles_in s.caches)) s s (gives_none line p s)
          (λ q c. sym (cleared_none p first (titles_in s.caches) q c
          (λ here low. ap (λ r. titles_in s.caches r c) here ∙
          titles_none s.caches p c (λ h. let from = h.0 in omega (arith, from, low)))));
      rest = refl;
    }

pub lists_stake : (line p n : ℕ) (s now : StockValue) → GivesLists line p n s now → HasItsStake s → HasItsStake now
lists_stake line p n s now some stake =
    subst (λ k. 0 < stake_of now.view k) (sym some.given.same.0) (let e = some.given.stakes s.thread in omega arith)

pub lists_thread : (line p n : ℕ) (s now : StockValue) → GivesLists line p n s now → now.thread ≡ s.thread
lists_thread line p n s now some = some.given.same.0

-- the next list is as it was
pub next_listed : (line p n : ℕ) (s now : StockValue) → GivesLists line p n s now → IsStock now → listed_in now p n ≡ listed_in s p n
next_listed line p n s now some is =
    gives_listed line p some.acts (without_classes p n (titles_in s.caches)) s now some.given is p n
    ∙ ap (numbered_by s.view) (cleared_not p n (titles_in s.caches) p n (omega arith))

-- it goes back
next_left : (p n : ℕ) (s now : StockValue) → ((q c : ℕ) → titles_in now.caches q c ≡ without_classes p n (titles_in s.caches) q c) →
    (q c : ℕ) →
    with_titles p n [] (titles_in now.caches) q c ≡ without_classes p (n + 1) (titles_in s.caches) q c
next_left p n s now kept q c = elim (eqb_tells q p) [
  | inl y ↦ elim (eqb_tells c n) [
    | inl z ↦
        this_one p n [] (titles_in now.caches) q c y.1 z.1 ∙
        sym (cleared_is p (n + 1) (titles_in s.caches) q c y.1 (let e = z.1 in omega arith))
    | inr away ↦ other_list p n [] (titles_in now.caches) q c (λ e. away.1 e.1) ∙ (kept q c ∙ by_class (nat_lt c n) refl y.1 away.1)
  ]
  | inr away ↦
      other_list p n [] (titles_in now.caches) q c (λ e. away.1 e.0)
      ∙ (kept q c ∙ (cleared_other p n (titles_in s.caches) q c away.1 ∙ sym (cleared_other p (n + 1) (titles_in s.caches) q c away.1)))
]
  where
    by_class : (b : Bool) → nat_lt c n ≡ b → q ≡ p → (c ≡ n → ⊥) →
        without_classes p n (titles_in s.caches) q c ≡ without_classes p (n + 1) (titles_in s.caches) q c
    by_class true is here other =
        let low : c < n = grind (arith, nat_tests) in
        cleared_is p n (titles_in s.caches) q c here low ∙ sym (cleared_is p (n + 1) (titles_in s.caches) q c here (omega arith))
    by_class false is here other =
        let high : n ≤ c = grind (arith, nat_tests) in
        cleared_not p n (titles_in s.caches) q c high
        ∙ sym (cleared_not p (n + 1) (titles_in s.caches) q c (above n c high other))
      where
        above : (a b : ℕ) → a ≤ b → (b ≡ a → ⊥) → a + 1 ≤ b
        above a b le ne = omega (arith, ne)

pub lists_more : (line p n : ℕ) (s now next : StockValue) → IsStock now → GivesLists line p n s now → GivesTail line p n 0 now next →
    n < past_class s.caches.version → GivesLists line p (n + 1) s next
lists_more line p n s now next is some tail below =
    let lists = listed_in s p in
    let end = past_class s.caches.version in
    let more = gives (listed_in now p n) in
    let e : end - n ≡ suc (end - (n + 1)) = omega (arith, below) in
    let step : more ++ purge_acts lists (n + 1) (end - (n + 1)) ≡ purge_acts lists n (end - n) =
    ap (λ xs. gives xs ++ purge_acts lists (n + 1) (end - (n + 1))) (next_listed line p n s now some is) ∙
    sym (ap (purge_acts lists n) e) in
    record {
      acts = some.acts ++ more;
      given = gives_left line p (some.acts ++ more) (with_titles p n [] (titles_in now.caches))
          (without_classes p (n + 1) (titles_in s.caches)) s next
          (gives_on line p some.acts more (without_classes p n (titles_in s.caches))
          (with_titles p n [] (titles_in now.caches)) s now next some.given tail)
          (next_left p n s now some.given.kept);
      rest = append_assoc some.acts more (purge_acts lists (n + 1) (end - (n + 1))) ∙ (ap (λ acts. some.acts ++ acts) step ∙ some.rest);
    }

-- ---- how many slots are left

-- the lists from class n on have this many slots, up to the version's last
pub record AreLeft (s : StockValue) (p n left : ℕ) : Type 0 where
  pub from : first_class s.caches.version ≤ n
  pub to : n ≤ past_class s.caches.version
  pub slots : left ≡ listed_slots (listed_in s p) n (past_class s.caches.version - n)

-- none but the version's classes have lists
pub none_but : (s : StockValue) (p : ℕ) → NoneButOf s.caches.version (listed_in s p)
none_but s p c out =
    ap (numbered_by s.view) (titles_none s.caches p c (λ h.
    let from = h.0 in let real = h.1 in let end = class_end s.caches.version in
    elim out [ inl low ↦ omega (arith, low, from) | inr past ↦ omega (arith, past, real, end) ]))

pub left_start : (s : StockValue) (p slots : ℕ) → slots ≡ listed_slots (listed_in s p) 0 170 →
    AreLeft s p (first_class s.caches.version) slots
left_start s p slots all = record {
  from = omega arith;
  to = let end = class_end s.caches.version in omega (arith, end);
  slots = all ∙ slots_of_version s.caches.version (listed_in s p) (none_but s p);
}

-- if there are slots there is a list
left_by : (lists : ℕ → List Numbered) (n m : ℕ) → 0 < listed_slots lists n m → 0 < m
unfolding listed_slots
left_by lists n zero some = absurd (omega (arith, some))
left_by lists n (suc m) some = omega arith

pub left_some : (s : StockValue) (p n left : ℕ) → AreLeft s p n left → 0 < left → n < past_class s.caches.version
left_some s p n left h some =
    let is = h.slots in
    let more = left_by (listed_in s p) n (past_class s.caches.version - n) (omega (arith, some, is)) in
    omega (arith, more)

pub left_real : (s : StockValue) (p n left : ℕ) → AreLeft s p n left → 0 < left → HasClass s.caches.version n
left_real s p n left h some = (h.from, left_some s p n left h some)

-- the slots of the next list are among them, and the others are left after it
next_by : (lists : ℕ → List Numbered) (n m : ℕ) → listed_slots lists n (suc m) ≡ length (lists n) + listed_slots lists (n + 1) m
unfolding listed_slots
next_by lists n m = refl

left_next : (s : StockValue) (p n left : ℕ) → AreLeft s p n left → 0 < left →
    left ≡ length (listed_in s p n) + listed_slots (listed_in s p) (n + 1) (past_class s.caches.version - (n + 1))
left_next s p n left h some =
    let below = left_some s p n left h some in
    let e : past_class s.caches.version - n ≡ suc (past_class s.caches.version - (n + 1)) = omega (arith, below) in
    h.slots ∙ (ap (listed_slots (listed_in s p) n) e ∙ next_by (listed_in s p) n (past_class s.caches.version - (n + 1)))

-- the next list has as many slots as the worker's list has titles now
next_long : (line p n : ℕ) (s now : StockValue) → IsStock now → GivesLists line p n s now →
    length (titles_in now.caches p n) ≡ length (listed_in s p n)
next_long line p n s now is some =
    sym (length-map (titles_in now.caches p n) (at_number_seen now.view)) ∙
    ap (λ (xs : List Numbered). length xs) (next_listed line p n s now some is)

pub left_part : (line p n left count : ℕ) (s now : StockValue) → IsStock now → GivesLists line p n s now → AreLeft s p n left → 0 < left →
    count ≡ length (titles_in now.caches p n) → count ≤ left
left_part line p n left count s now is some h more long =
    let all = left_next s p n left h more in
    let e = next_long line p n s now is some in
    omega (arith, all, e, long)

pub left_more : (line p n left count : ℕ) (s now : StockValue) → IsStock now → GivesLists line p n s now → AreLeft s p n left → 0 < left →
    count ≡ length (titles_in now.caches p n) → AreLeft s p (n + 1) (left - count)
left_more line p n left count s now is some h more long =
    let all = left_next s p n left h more in
    let e = next_long line p n s now is some in
    let below = left_some s p n left h more in
    let from = h.from in
    record { from = omega (arith, from); to = omega (arith, below); slots = omega (arith, all, e, long) }

none_by : (lists : ℕ → List Numbered) (n m : ℕ) → listed_slots lists n m ≡ 0 → (c : ℕ) → n ≤ c → c < n + m → lists c ≡ []
unfolding listed_slots
none_by lists n zero none c low high = absurd (omega (arith, low, high))
none_by lists n (suc m) none c low high =
    let here : length (lists n) + listed_slots lists (n + 1) m ≡ 0 = none in
    elim (cases_eq c n) [
      | inl same ↦ ap lists same ∙ nil_from_length (lists n) (omega (arith, here))
      | inr other ↦ none_by lists (n + 1) m (omega (arith, here)) c (omega (arith, low, other)) (omega (arith, high))
    ]

-- if no slot is left the lists from there on are empty
pub left_none : (s : StockValue) (p n : ℕ) → AreLeft s p n 0 → (c : ℕ) → n ≤ c → titles_in s.caches p c ≡ []
left_none s p n h c from = elim (class_cases s.caches.version c) [
  | inl real ↦
      let to = h.to in
      let past = real.1 in
      let none = none_by (listed_in s p) n (past_class s.caches.version - n) (sym h.slots) c from (omega (arith, to, past)) in
      nil_from_length (titles_in s.caches p c)
      (sym (length-map (titles_in s.caches p c) (at_number_seen s.view)) ∙ ap (λ (xs : List Numbered). length xs) none)
  | inr none ↦ titles_none s.caches p c none
]

-- ---- the root is purged

pub purged_gives : KeptNumbersStay → (s : StockValue) (w : View) (line p : ℕ) → IsAware s.view → IsAware w → p < 4 →
    PurgeEnters s.thread p line s.view w →
    Gives line p (Purge ∷ []) (titles_in s.caches) s (record s { view = w })
purged_gives law s w line p aware now low (j, it) =
    let enters = one_enters j s.thread p line Purge s.view w it (omega arith) in
    let keeps = it.lends.keeps in
    record {
      entries = it.made ∷ [];
      says = ap (λ (ns : List ℕ). ns ∷ []) it.is_made.says;
      logs = enters.logs;
      stakes = enters.stakes;
      budget = keeps.budget;
      same = (refl, refl, refl);
      version = refl;
      plain = refl;
      lists = enters.lists;
      grows = enters.grows;
      numbers = λ n t well free. law s.view w n t aware now keeps well (let e = free_kept s.view w t keeps in omega arith);
      fewer = λ t. let e = free_kept s.view w t keeps in omega arith;
      frees = λ t none. free_kept s.view w t keeps;
      kept = λ q c. refl;
      listed = λ q c t among. among;
    }

-- if nothing was listed in the others, a purge of the classes before n leaves no list of the partition
none_left : (p n : ℕ) (s : StockValue) → ((c : ℕ) → n ≤ c → titles_in s.caches p c ≡ []) → (q c : ℕ) →
    without_classes p n (titles_in s.caches) q c ≡ without_lists p (titles_in s.caches) q c
none_left p n s empty q c = elim (eqb_tells q p) [
  | inl y ↦ by_class y.1 y.0 ∙ sym (whole y.0)
  | inr away ↦ rw away.0 refl
]
  where
    whole : (q == p) ≡ true → without_lists p (titles_in s.caches) q c ≡ []
    whole this = rw this refl

    by_class : q ≡ p → (q == p) ≡ true → without_classes p n (titles_in s.caches) q c ≡ []
    by_class here this = elim (cases_lt c n) [
      | inl low ↦ cleared_is p n (titles_in s.caches) q c here low
      | inr far ↦ cleared_not p n (titles_in s.caches) q c far ∙ (ap (λ r. titles_in s.caches r c) here ∙ empty c far)
    ]

-- what is left of the purge then is that of the root
purge_none : (lists : ℕ → List Numbered) (n m : ℕ) → ((c : ℕ) → n ≤ c → lists c ≡ []) → purge_acts lists n m ≡ Purge ∷ []
purge_none lists n zero none = refl
purge_none lists n (suc m) none =
    ap (λ xs. gives xs ++ purge_acts lists (n + 1) m) (none n (omega arith)) ∙
    purge_none lists (n + 1) m (λ c low. none c (omega (arith, low)))

pub is_cleared : (line p n : ℕ) (s now : StockValue) → GivesLists line p n s now → AreLeft s p n 0 → IsCleared p now
is_cleared line p n s now some none c =
    some.given.kept p c ∙ (none_left p n s (left_none s p n none) p c ∙
    elim (eqb_tells p p) [ inl y ↦ rw y.0 refl | inr differs ↦ absurd (differs.1 refl) ])

pub purges_root : KeptNumbersStay → (s now : StockValue) (w : View) (line p n slots : ℕ) → IsAware now.view → IsAware w → p < 4 →
    GivesLists line p n s now →
    AreLeft s p n 0 → PurgeEnters now.thread p line now.view w → slots ≡ listed_slots (listed_in s p) 0 170 →
    PurgesRoot line p slots s (record now { view = w })
purges_root law s now w line p n slots aware both low some none enters count =
    let lists = listed_in s p in
    let empty = left_none s p n none in
    let last = purge_none lists n (past_class s.caches.version - n) (λ c from. ap (numbered_by s.view) (empty c from)) in
    let all : some.acts ++ Purge ∷ [] ≡ purge_acts lists 0 170 =
    sym (ap (λ acts. some.acts ++ acts) last) ∙ (some.rest ∙ sym (purge_of_version s.caches.version lists (none_but s p))) in (
      count,
      subst (λ acts. Gives line p acts (without_lists p (titles_in s.caches)) s (record now { view = w })) all
          (gives_left line p (some.acts ++ Purge ∷ []) (titles_in now.caches) (without_lists p (titles_in s.caches)) s
          (record now { view = w })
          (gives_on line p some.acts (Purge ∷ []) (without_classes p n (titles_in s.caches)) (titles_in now.caches) s now
          (record now { view = w }) some.given
          (purged_gives law now w line p aware both low enters))
          (λ q c. some.given.kept q c ∙ none_left p n s empty q c)),
    )
