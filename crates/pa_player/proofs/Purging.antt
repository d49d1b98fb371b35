-- The lists of a thread go back, class by class.
use Rattle.std.proofs.Common.{◌≡◌, ℕ, zero, suc, ◌+◌, ◌-◌, ◌*◌, ◌^◌, ◌<◌, ◌≤◌, List, [], ◌++◌, map, length, set, refl, sym, ap, ap₂, ◌∙◌, subst, arith, length-append, length-set}
use Rattle.std.proofs.lemmas.List.{get_or-set_other, length-map, set-get_or}
use Rattle.pa_buckets.specs.Limits.{first_class, past_class}
use Rattle.pa_rules.specs.Caches.{listed_slots}
use Rattle.pa_rules.specs.Sizes.{HasClass, class_total}
use Rattle.pa_rules.proofs.Versions.{class_end}
use Rattle.pa_player.specs.Player.{Player}
use Rattle.pa_player.specs.Asks.{CanGive, CanPurgeOne, places_from, places_all}
use Rattle.pa_player.specs.Changes.{gave_back, given, given_from, given_all, listed, list_in}
use Rattle.pa_player.specs.Playing.{caches, list_place, numbered_at}
use Rattle.pa_player.proofs.Giving.{gave_none, gave_tally, can_front, can_rest}
use Rattle.pa_player.proofs.OneList.{list_by_place}
use Rattle.pa_player.proofs.Others.{places_same}

-- places of one row are those of one class
same_in_row : (row total first n class : ℕ) → first ≤ n → n < class → row * total + (n - first) ≡ row * total + (class - first) → ⊥
same_in_row row total first n class from lt e = omega (arith, from, lt, e)

-- a list that is changed leaves those of later classes
other_list : (p : Player) (thread q n class : ℕ) (xs : List ℕ) → first_class p.version ≤ n → n < class
    → list_in (listed (list_place p.version p.partitions thread q n) xs p) (list_place p.version p.partitions thread q class) ≡ list_in p
    (list_place p.version p.partitions thread q class)
other_list p thread q n class xs from lt =
    get_or-set_other p.caches (list_place p.version p.partitions thread q n) (list_place p.version p.partitions thread q class) xs [] (λ e.
    same_in_row (thread * p.partitions + q) (class_total p.version) (first_class p.version) n class from lt (sym e))

places_listed : (p : Player) (thread q n class m : ℕ) (xs : List ℕ) → first_class p.version ≤ n → n < class
    → places_from thread q class m (listed (list_place p.version p.partitions thread q n) xs p) ≡ places_from thread q class m p
unfolding places_from
places_listed p thread q n class zero xs from lt = refl
places_listed p thread q n class (suc m) xs from lt =
    ap (λ z. z ++ places_from thread q (class + 1) m (listed (list_place p.version p.partitions thread q n) xs p))
    (other_list p thread q n class xs from lt)
    ∙ ap (λ z. list_in p (list_place p.version p.partitions thread q class) ++ z)
    (places_listed p thread q n (class + 1) m xs from (omega arith))

-- what goes back has nothing to do with lists
can_listed : (q at : ℕ) (xs ys : List ℕ) (p : Player) → CanGive q ys p → CanGive q ys (listed at xs p)
can_listed q at xs ys p h = record {
  root = h.root;
  journal = h.journal;
  four = h.four;
  among = h.among;
  sound = h.sound;
  out = h.out;
  turn = h.turn;
  few = h.few;
  slots = h.slots;
  bytes = h.bytes;
}

-- the version stays
pub given_version : (thread q class n : ℕ) (p : Player) → (given_from thread q class n p).version ≡ p.version
unfolding given_from
given_version thread q class zero p = refl
given_version thread q class (suc n) p =
    given_version thread q (class + 1) n (given q (list_place p.version p.partitions thread q class) 0 p)

-- as many slots as the lists have
pub listed_places : (p : Player) (thread q class n : ℕ) → q < p.partitions → first_class p.version ≤ class
    → class + n ≤ past_class p.version → listed_slots (caches p thread q) class n ≡ length (places_from thread q class n p)
unfolding places_from listed_slots
listed_places p thread q class zero among from fits = refl
listed_places p thread q class (suc n) among from fits =
    let xs = list_in p (list_place p.version p.partitions thread q class) in
    let here : length (caches p thread q class) ≡ length xs = ap length (list_by_place p thread q class among (from, omega arith)) ∙
    length-map xs (numbered_at p.table) in
    let ih = listed_places p thread q (class + 1) n among (omega arith) (omega arith) in
    let e = length-append xs (places_from thread q (class + 1) n p) in
    omega arith

pub all_places : (p : Player) (thread q : ℕ) → q < p.partitions
    → listed_slots (caches p thread q) (first_class p.version) (class_total p.version) ≡ length (places_all thread q p)
all_places p thread q among =
    let end = class_end p.version in
    listed_places p thread q (first_class p.version) (class_total p.version) among (omega arith) (omega arith)

-- one class and the rest
places_suc : (thread q class n : ℕ) (p : Player) →
    places_from thread q class (suc n) p ≡ list_in p (list_place p.version p.partitions thread q class) ++
    places_from thread q (class + 1) n p
unfolding places_from
places_suc thread q class n p = refl

given_suc : (thread q class n : ℕ) (p : Player) →
    given_from thread q class (suc n) p ≡ given_from thread q (class + 1) n (given q (list_place p.version p.partitions thread q class) 0 p)
unfolding given_from
given_suc thread q class n p = refl

given_none : (thread q class : ℕ) (p : Player) → given_from thread q class 0 p ≡ p
unfolding given_from
given_none thread q class p = refl

-- The lists of the classes before class n went back, which had that many slots: with the rest, all do.
pub record IsGivenTo (thread q n : ℕ) (p s : Player) (slots : ℕ) : Type 0 where
  pub version : s.version ≡ p.version
  pub many : s.partitions ≡ p.partitions
  pub from : first_class p.version ≤ n
  pub lists : (class : ℕ) → n ≤ class →
      list_in s (list_place p.version p.partitions thread q class) ≡ list_in p (list_place p.version p.partitions thread q class)
  pub rest : given_from thread q n (past_class p.version - n) s ≡ given_all thread q p
  pub can : CanGive q (places_from thread q n (past_class p.version - n) s) s
  pub count : slots + listed_slots (caches p thread q) n (past_class p.version - n) ≡ listed_slots (caches p thread q)
      (first_class p.version) (class_total p.version)
  pub listed : length s.caches ≡ length p.caches
  pub tally : q < length s.cached.of
  pub few : listed_slots (caches p thread q) (first_class p.version) (class_total p.version) < 2 ^ 28

pub purge_start : (thread q : ℕ) (p : Player) → q < p.partitions → CanGive q (places_all thread q p) p → q < length p.cached.of →
    IsGivenTo thread q (first_class p.version) p p 0
purge_start thread q p among can tally = record {
  version = refl;
  many = refl;
  from = omega arith;
  lists = λ class le. refl;
  rest = refl;
  can = can;
  count = omega arith;
  listed = refl;
  tally = tally;
  few = let k = can.few in omega (arith, k, all_places p thread q among);
}

classes_left : (past n : ℕ) → n < past → past - n ≡ suc (past - (n + 1))
classes_left past n lt = omega arith

-- the next list may go back
pub class_ready : (thread q n : ℕ) (p s : Player) (slots : ℕ) → IsGivenTo thread q n p s slots → n < past_class p.version →
    CanGive q (list_in s (list_place s.version s.partitions thread q n)) s
class_ready thread q n p s slots h lt =
    can_front q (list_in s (list_place s.version s.partitions thread q n))
    (places_from thread q (n + 1) (past_class p.version - (n + 1)) s) s
    (subst (λ z. CanGive q z s) (ap (λ m. places_from thread q n m s) (classes_left (past_class p.version) n lt) ∙
    places_suc thread q n (past_class p.version - (n + 1)) s) h.can)

pub purge_more : (thread q n : ℕ) (p s r : Player) (slots : ℕ) → IsGivenTo thread q n p s slots → n < past_class p.version →
    q < p.partitions
    → r ≡ given q (list_place s.version s.partitions thread q n) 0 s →
    IsGivenTo thread q (n + 1) p r (slots + length (list_in s (list_place s.version s.partitions thread q n)))
unfolding listed_slots
purge_more thread q n p s r slots h lt among is =
    let at = list_place s.version s.partitions thread q n in
    let xs = list_in s at in
    let m = past_class p.version - (n + 1) in
    let ys = places_from thread q (n + 1) m s in
    let t = gave_back q xs s in
    let u = listed at [] t in
    let left = classes_left (past_class p.version) n lt in
    let can : CanGive q (xs ++ ys) s =
    subst (λ z. CanGive q z s) (ap (λ k. places_from thread q n k s) left ∙ places_suc thread q n m s) h.can in
    let rest : given_from thread q (n + 1) m u ≡ given_all thread q p =
    sym (ap (λ k. given_from thread q n k s) left ∙ given_suc thread q n m s) ∙ h.rest in
    let first : first_class s.version ≤ n = subst (λ v. first_class v ≤ n) (sym h.version) h.from in
    let past : n + 1 + m ≤ past_class s.version = subst (λ v. n + 1 + m ≤ past_class v) (sym h.version) (omega arith) in
    let same : places_from thread q (n + 1) m u ≡ ys =
    places_listed t thread q n (n + 1) m [] first (omega arith) ∙
    places_same thread q (n + 1) m s t refl refl (λ c few. refl) (omega arith) past in
    let here : caches p thread q n ≡ map (numbered_at p.table) (list_in p (list_place p.version p.partitions thread q n)) =
    list_by_place p thread q n among (h.from, lt) in
    let size : length (caches p thread q n) ≡ length xs =
    ap length here ∙ length-map (list_in p (list_place p.version p.partitions thread q n)) (numbered_at p.table) ∙
    ap length (sym (h.lists n (omega arith)))
    ∙ ap₂ (λ v k. length (list_in s (list_place v k thread q n))) (sym h.version) (sym h.many) in
    let count : slots + (length (caches p thread q n) + listed_slots (caches p thread q) (n + 1) m) ≡ listed_slots (caches p thread q)
    (first_class p.version) (class_total p.version) =
    sym (ap (λ k. slots + listed_slots (caches p thread q) n k) left) ∙ h.count in
    let next : IsGivenTo thread q (n + 1) p u (slots + length xs) = record {
      version = h.version;
      many = h.many;
      from = let low = h.from in omega arith;
      lists = λ class le.
          ap₂ (λ v k. list_in u (list_place v k thread q class)) (sym h.version) (sym h.many) ∙
          other_list s thread q n class [] first (omega arith)
          ∙ ap₂ (λ v k. list_in s (list_place v k thread q class)) h.version h.many ∙ h.lists class (omega arith);
      rest = rest;
      can = subst (λ z. CanGive q z u) (sym same) (can_listed q at [] ys t (can_rest q xs ys s h.tally can));
      count = omega (arith, count, size);
      listed = length-set s.caches at [] ∙ h.listed;
      tally = gave_tally q xs s h.tally;
      few = h.few;
    } in
    subst (λ z. IsGivenTo thread q (n + 1) p z (slots + length xs)) (sym is) next

-- few slots go back
pub class_few : (thread q n : ℕ) (p s : Player) (slots : ℕ) → IsGivenTo thread q n p s slots → n < past_class p.version → q < p.partitions
    → slots + length (list_in s (list_place s.version s.partitions thread q n)) < 2 ^ 28
unfolding listed_slots
class_few thread q n p s slots h lt among =
    let here : caches p thread q n ≡ map (numbered_at p.table) (list_in p (list_place p.version p.partitions thread q n)) =
    list_by_place p thread q n among (h.from, lt) in
    let size : length (caches p thread q n) ≡ length (list_in s (list_place s.version s.partitions thread q n)) =
    ap length here ∙ length-map (list_in p (list_place p.version p.partitions thread q n)) (numbered_at p.table) ∙
    ap length (sym (h.lists n (omega arith)))
    ∙ ap₂ (λ v k. length (list_in s (list_place v k thread q n))) (sym h.version) (sym h.many) in
    let count : slots + (length (caches p thread q n) + listed_slots (caches p thread q) (n + 1) (past_class p.version - (n + 1))) ≡
    listed_slots (caches p thread q) (first_class p.version) (class_total p.version) =
    sym (ap (λ k. slots + listed_slots (caches p thread q) n k) (classes_left (past_class p.version) n lt)) ∙ h.count in
    omega (arith, count, size, h.few)

-- once all classes went back, the player is the one after a whole give, and as many slots went back as the lists had
pub purge_end : (thread q n : ℕ) (p s : Player) (slots : ℕ) → IsGivenTo thread q n p s slots → n ≡ past_class p.version
    → (s ≡ given_all thread q p) × (slots ≡ listed_slots (caches p thread q) (first_class p.version) (class_total p.version))
unfolding listed_slots
purge_end thread q n p s slots h e =
    let none : past_class p.version - n ≡ 0 = omega arith in (
      sym (given_none thread q n s) ∙ sym (ap (λ k. given_from thread q n k s) none) ∙ h.rest,
      omega (arith, h.count, ap (λ k. listed_slots (caches p thread q) n k) none),
    )

-- ---- list by list

-- an empty list that goes back leaves the player as it is
given_empty : (q at : ℕ) (s : Player) → list_in s at ≡ [] → s ≡ given q at 0 s
given_empty q at s empty =
    let none : set s.caches at [] ≡ s.caches = ap (set s.caches at) (sym empty) ∙ set-get_or s.caches at [] in
    sym (ap (λ xs. listed at [] (gave_back q xs s)) empty ∙ ap (listed at []) (gave_none q s) ∙
    ap (λ (z : List (List ℕ)). record s { caches = z }) none)

-- the lists of the next d classes are empty
past_empty : (thread q n d : ℕ) (p s : Player) (slots : ℕ) → IsGivenTo thread q n p s slots → n + d ≤ past_class p.version →
    q < p.partitions
    → ((class : ℕ) → n ≤ class → class < n + d → list_in s (list_place s.version s.partitions thread q class) ≡ []) →
    IsGivenTo thread q (n + d) p s slots
past_empty thread q n zero p s slots h within among empty = let e : n ≡ n + 0 = omega arith in
    subst (λ k. IsGivenTo thread q k p s slots) e h
past_empty thread q n (suc d) p s slots h within among empty =
    let at = list_place s.version s.partitions thread q n in
    let none = empty n (omega arith) (omega arith) in
    let count : slots + length (list_in s at) ≡ slots = omega (arith, ap length none) in
    let next : IsGivenTo thread q (n + 1) p s slots =
    subst (IsGivenTo thread q (n + 1) p s) count
    (purge_more thread q n p s s slots h (omega (arith, within)) among (given_empty q at s none)) in
    let e : n + 1 + d ≡ n + suc d = omega arith in
    subst (λ k. IsGivenTo thread q k p s slots) e
    (past_empty thread q (n + 1) d p s slots next (omega (arith, within)) among
    (λ class from to. empty class (omega (arith, from)) (omega (arith, to))))

-- The lists from the thread's first to before the one at an index went back, which had that many slots.
pub record AreGivenTo (thread q start at : ℕ) (p s : Player) (slots : ℕ) : Type 0 where
  pub first : start ≡ list_place p.version p.partitions thread q (first_class p.version)
  pub from : start ≤ at
  pub to : at ≤ start + class_total p.version
  pub classes : IsGivenTo thread q (first_class p.version + (at - start)) p s slots

-- a list of a row is at the place of its class
place_of : (row total first start at : ℕ) → start ≡ row * total + (first - first) → start ≤ at →
    at ≡ row * total + (first + (at - start) - first)
place_of row total first start at is from = omega (arith, is, from)

place_given : {thread q start at : ℕ} {p s : Player} {slots : ℕ} (k : ℕ) → AreGivenTo thread q start at p s slots → start ≤ k
    → k ≡ list_place s.version s.partitions thread q (first_class p.version + (k - start))
place_given {thread} {q} {start} {at} {p} k h from =
    place_of (thread * p.partitions + q) (class_total p.version) (first_class p.version) start k h.first from
    ∙ ap₂ (λ v m. list_place v m thread q (first_class p.version + (k - start))) (sym h.classes.version) (sym h.classes.many)

class_before : {thread q start at : ℕ} {p s : Player} {slots : ℕ} → AreGivenTo thread q start at p s slots →
    at < start + class_total p.version
    → first_class p.version + (at - start) < past_class p.version
class_before {p = p} h more = omega (arith, h.from, more, class_end p.version)

-- the thread's lists are among all
pub lists_among : {thread q start at : ℕ} {p s : Player} {slots : ℕ} → AreGivenTo thread q start at p s slots → CanPurgeOne thread q p
    → at < start + class_total p.version → start + class_total p.version ≤ length p.caches
lists_among {thread} {q} {start} {at} {p} h can more =
    let last : ℕ = start + class_total p.version - 1 in
    let real : HasClass p.version (first_class p.version + (last - start)) =
    (omega arith, omega (arith, h.from, more, class_end p.version)) in
    let place = place_of (thread * p.partitions + q) (class_total p.version) (first_class p.version) start last h.first
    (omega (arith, h.from, more)) in
    omega (arith, h.from, more, place, can.lists (first_class p.version + (last - start)) real)

pub lists_start : (thread q start : ℕ) (p : Player) → start ≡ list_place p.version p.partitions thread q (first_class p.version) →
    CanPurgeOne thread q p
    → q < length p.cached.of → AreGivenTo thread q start start p p 0
lists_start thread q start p is can tally = record {
  first = is;
  from = omega arith;
  to = omega arith;
  classes = subst (λ n. IsGivenTo thread q n p p 0) (omega arith) (purge_start thread q p can.among can.gives tally);
}

-- the lists up to another are empty
pub lists_past : {thread q start at : ℕ} {p s : Player} {slots : ℕ} (next : ℕ) → AreGivenTo thread q start at p s slots →
    CanPurgeOne thread q p
    → at ≤ next → next ≤ start + class_total p.version → ((k : ℕ) → at ≤ k → k < next → list_in s k ≡ []) →
    AreGivenTo thread q start next p s slots
lists_past {thread} {q} {start} {at} {p} {s} {slots} next h can from to empty = record {
  first = h.first;
  from = omega (arith, h.from, from);
  to = to;
  classes = subst (λ n. IsGivenTo thread q n p s slots) (omega (arith, h.from, from))
      (past_empty thread q (first_class p.version + (at - start)) (next - at) p s slots h.classes
      (omega (arith, h.from, from, to, class_end p.version)) can.among none);
}
  where
    none : (class : ℕ) → first_class p.version + (at - start) ≤ class → class < first_class p.version + (at - start) + (next - at)
        → list_in s (list_place s.version s.partitions thread q class) ≡ []
    none class low high =
        let k : ℕ = start + (class - first_class p.version) in
        let is : first_class p.version + (k - start) ≡ class = omega (arith, low) in
        ap (λ z. list_in s (list_place s.version s.partitions thread q z)) (sym is) ∙ ap (list_in s) (sym (place_given k h (omega arith)))
        ∙ empty k (omega (arith, h.from, low)) (omega (arith, h.from, low, high))

-- the list at an index may go back
pub list_ready : {thread q start at : ℕ} {p s : Player} {slots : ℕ} → AreGivenTo thread q start at p s slots →
    at < start + class_total p.version → CanGive q (list_in s at) s
list_ready {thread} {q} {start} {at} {p} {s} {slots} h more =
    subst (λ k. CanGive q (list_in s k) s) (sym (place_given at h h.from))
    (class_ready thread q (first_class p.version + (at - start)) p s slots h.classes (class_before h more))

-- few slots go back
pub list_few : {thread q start at : ℕ} {p s : Player} {slots : ℕ} → AreGivenTo thread q start at p s slots → CanPurgeOne thread q p →
    at < start + class_total p.version
    → slots + length (list_in s at) < 2 ^ 28
list_few {thread} {q} {start} {at} {p} {s} {slots} h can more =
    subst (λ k. slots + length (list_in s k) < 2 ^ 28) (sym (place_given at h h.from))
    (class_few thread q (first_class p.version + (at - start)) p s slots h.classes (class_before h more) can.among)

-- it went back
pub lists_more : {thread q start at : ℕ} {p s : Player} {slots : ℕ} (r : Player) → AreGivenTo thread q start at p s slots →
    CanPurgeOne thread q p
    → at < start + class_total p.version → r ≡ given q at 0 s → AreGivenTo thread q start (at + 1) p r (slots + length (list_in s at))
lists_more {thread} {q} {start} {at} {p} {s} {slots} r h can more is =
    let n = first_class p.version + (at - start) in
    let P : ℕ → ℕ → Type 0 = λ m k. IsGivenTo thread q m p r (slots + length (list_in s k)) in
    let place = place_given at h h.from in
    let next : n + 1 ≡ first_class p.version + (at + 1 - start) = omega (arith, h.from) in
    record {
      first = h.first;
      from = omega (arith, h.from);
      to = omega (arith, more);
      classes = subst (λ m. P m at) next (subst (P (n + 1)) (sym place)
          (purge_more thread q n p s r slots h.classes (class_before h more) can.among (is ∙ ap (λ k. given q k 0 s) place)));
    }

-- all lists went back
pub lists_end : {thread q start at : ℕ} {p s : Player} {slots : ℕ} → AreGivenTo thread q start at p s slots →
    start + class_total p.version ≤ at
    → (s ≡ given_all thread q p) × (slots ≡ listed_slots (caches p thread q) (first_class p.version) (class_total p.version))
lists_end {thread} {q} {start} {at} {p} {s} {slots} h end =
    purge_end thread q (first_class p.version + (at - start)) p s slots h.classes (omega (arith, h.from, h.to, end, class_end p.version))

-- after a thread's lists went back, a give of no slots can follow
pub given_can : (thread q class n : ℕ) (p : Player) → q < length p.cached.of → first_class p.version ≤ class
    → class + n ≤ past_class p.version → CanGive q (places_from thread q class n p) p → CanGive q [] (given_from thread q class n p)
unfolding places_from given_from
given_can thread q class zero p tally from fits can = can
given_can thread q class (suc n) p tally from fits can =
    let at = list_place p.version p.partitions thread q class in
    let xs = list_in p at in
    let ys = places_from thread q (class + 1) n p in
    let t = gave_back q xs p in
    let u = listed at [] t in
    let same : places_from thread q (class + 1) n u ≡ ys =
    places_listed t thread q class (class + 1) n [] from (omega arith) ∙
    places_same thread q (class + 1) n p t refl refl (λ c few. refl) (omega arith) (omega arith) in
    let next : CanGive q (places_from thread q (class + 1) n u) u =
    subst (λ z. CanGive q z u) (sym same) (can_listed q at [] ys t (can_rest q xs ys p tally can)) in
    given_can thread q (class + 1) n u (gave_tally q xs p tally) (omega arith) (omega arith) next

pub given_all_can : (thread q : ℕ) (p : Player) → q < length p.cached.of → CanGive q (places_all thread q p) p →
    CanGive q [] (given_all thread q p)
given_all_can thread q p tally can =
    let end = class_end p.version in
    given_can thread q (first_class p.version) (class_total p.version) p tally (omega arith) (omega arith) can
