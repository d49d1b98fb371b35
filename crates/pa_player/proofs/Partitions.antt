-- A purge of all partitions, one after the other.
use Rattle.std.proofs.Common.{◌≡◌, ℕ, suc, ◌+◌, ◌-◌, ◌*◌, ◌^◌, ◌<◌, ◌≤◌, length, refl, sym, ap, ap₂, ◌∙◌, subst, arith}
use Rattle.pa_rules.specs.Caches.{listed_slots, all_listed}
use Rattle.pa_player.specs.Player.{Player}
use Rattle.pa_player.specs.Asks.{CanPurge, CanPurgeOne}
use Rattle.pa_buckets.specs.Limits.{first_class}
use Rattle.pa_rules.specs.Sizes.{HasClass, class_total}
use Rattle.pa_player.specs.Changes.{given_all, purged_with, purged_from, list_in}
use Rattle.pa_player.specs.Playing.{caches, list_place}
use Rattle.pa_player.proofs.Purging.{all_places}
use Rattle.pa_player.proofs.Sparse.{all_slots}
use Rattle.pa_player.proofs.Others.{keeps_purged, places_all_same, purge_kept}

purged_suc : (thread q n : ℕ) (p : Player) →
    purged_from thread q (suc n) p ≡ purged_from thread (q + 1) n (purged_with q (given_all thread q p))
unfolding purged_from
purged_suc thread q n p = refl

purged_none : (thread q : ℕ) (p : Player) → purged_from thread q 0 p ≡ p
unfolding purged_from
purged_none thread q p = refl

-- The first n partitions were purged, and gave back that many slots: with the rest, all are.
pub record IsPurgedTo (thread n : ℕ) (p s : Player) (slots : ℕ) : Type 0 where
  pub version : s.version ≡ p.version
  pub many : s.partitions ≡ p.partitions
  pub rest : purged_from thread n (p.partitions - n) s ≡ purged_from thread 0 p.partitions p
  pub each : (q : ℕ) → n ≤ q → q < p.partitions → CanPurgeOne thread q s
  pub lists : (k class : ℕ) → n ≤ k → k < p.partitions → HasClass p.version class
      → list_in s (list_place p.version p.partitions thread k class) ≡ list_in p (list_place p.version p.partitions thread k class)
  pub count : slots + all_listed (caches p thread) n (p.partitions - n) ≡ all_listed (caches p thread) 0 p.partitions
  pub few : slots ≤ 2 ^ 28 * n

pub all_start : (thread : ℕ) (p : Player) → CanPurge thread p → IsPurgedTo thread 0 p p 0
all_start thread p can = let whole : p.partitions ≡ p.partitions - 0 = omega arith in record {
  version = refl;
  many = refl;
  rest = ap (λ n. purged_from thread 0 n p) (sym whole);
  each = λ q least among. can.each q among;
  lists = λ k class least among short. refl;
  count = omega (arith, ap (λ n. all_listed (caches p thread) 0 n) whole);
  few = omega arith;
}

-- the lists of the next partition are those that it had
lists_here : (thread n : ℕ) (p s : Player) (slots : ℕ) → IsPurgedTo thread n p s slots → n < p.partitions
    → (listed_slots (caches s thread n) (first_class s.version) (class_total s.version) ≡ listed_slots (caches p thread n)
    (first_class p.version) (class_total p.version))
    × (listed_slots (caches p thread n) (first_class p.version) (class_total p.version) < 2 ^ 28)
lists_here thread n p s slots h among =
    let can = h.each n (omega arith) among in
    let a = all_places s thread n can.among in
    let b = all_places p thread n among in
    let e = ap length (places_all_same thread n p s h.version h.many (λ c short. h.lists n c (omega arith) among short)) in
    let k = can.gives.few in
    (omega (arith, a, b, e), omega (arith, a, b, e, k))

pub slots_few : (thread n : ℕ) (p s : Player) (slots more : ℕ) → IsPurgedTo thread n p s slots → n < p.partitions
    → more ≡ listed_slots (caches s thread n) (first_class s.version) (class_total s.version) → more < 2 ^ 28
slots_few thread n p s slots more h among e = let here = lists_here thread n p s slots h among in omega (arith, here.0, here.1, e)

pub all_more : (thread n : ℕ) (p s r : Player) (slots more : ℕ) → IsPurgedTo thread n p s slots → n < p.partitions
    → more ≡ listed_slots (caches s thread n) (first_class s.version) (class_total s.version)
    → r ≡ purged_with n (given_all thread n s) → IsPurgedTo thread (n + 1) p r (slots + more)
all_more thread n p s r slots more h among e is =
    let t = purged_with n (given_all thread n s) in
    let can = h.each n (omega arith) among in
    let kept = keeps_purged thread n s can.among in
    let left : p.partitions - n ≡ suc (p.partitions - (n + 1)) = omega arith in
    let here = lists_here thread n p s slots h among in
    let whole = all_slots p thread n in
    let count : slots + (listed_slots (caches p thread n) 0 170 + all_listed (caches p thread) (n + 1)
    (p.partitions - (n + 1))) ≡ all_listed (caches p thread) 0 p.partitions =
    sym (ap (λ k. slots + all_listed (caches p thread) n k) left) ∙ h.count in
    let next : IsPurgedTo thread (n + 1) p t (slots + more) = record {
      version = kept.version ∙ h.version;
      many = kept.many ∙ h.many;
      rest = sym (purged_suc thread n (p.partitions - (n + 1)) s) ∙ sym (ap (λ k. purged_from thread n k s) left) ∙ h.rest;
      each = λ q least inside. purge_kept thread n q s t kept (λ same. absurd (omega (arith, same, least))) (h.each q (omega arith) inside);
      lists = λ k class least inside short.
          ap₂ (λ v m. list_in t (list_place v m thread k class)) (sym h.version) (sym h.many)
          ∙ kept.lists thread k class (λ same. absurd (omega (arith, same, least))) (omega (arith, inside, h.many))
          (subst (λ v. HasClass v class) (sym h.version) short)
          ∙ ap₂ (λ v m. list_in s (list_place v m thread k class)) h.version h.many ∙ h.lists k class (omega arith) inside short;
      count = omega (arith, count, whole, here.0, e);
      few = omega (arith, h.few, here.0, here.1, e);
    } in
    subst (λ z. IsPurgedTo thread (n + 1) p z (slots + more)) (sym is) next

pub all_end : (thread n : ℕ) (p s : Player) (slots : ℕ) → IsPurgedTo thread n p s slots → n ≡ p.partitions
    → (s ≡ purged_from thread 0 p.partitions p) × (slots ≡ all_listed (caches p thread) 0 p.partitions)
all_end thread n p s slots h e =
    let none : p.partitions - n ≡ 0 = omega arith in (
      sym (purged_none thread n s) ∙ sym (ap (λ k. purged_from thread n k s) none) ∙ h.rest,
      omega (arith, h.count, ap (λ k. all_listed (caches p thread) n k) none),
    )
