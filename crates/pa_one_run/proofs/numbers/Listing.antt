-- Where a slot is in the caches after one thread's lists changed, and how often.
use Rattle.std.proofs.Common.{◌≡◌, ℕ, ◌+◌, ◌<◌, ◌⊎◌, List, [], ◌∷◌, sym, ap, subst, arith, inl, inr}
use Rattle.std.specs.Prelude.{Contains}
use Rattle.std.proofs.lemmas.Bool.{cases_eq, eq-eqb, ne_eqb}
use Rattle.pa_slot.specs.declared.word.SlotName.{SlotName}
use Rattle.pa_record.specs.declared.numbered.Numbered.{Numbered}
use Rattle.pa_record.specs.Root.{names}
use Rattle.pa_lists.proofs.Members.{not_in_none}
use Rattle.pa_lists.proofs.Joined.{map_in}
use Rattle.pa_rules.specs.Caches.{Cache, Caches, SameLists, with_list, with_cache, kept, spilled}
use Rattle.pa_rules.specs.Flow.{listed_times, cached_times}
use Rattle.pa_rules.specs.Once.{once}
use Rattle.pa_rules.proofs.Counted.{stands, times_cons, stands_kept, listed_none, listed_changed, cached_changed}
use Rattle.pa_rules.proofs.Totals.{some_cached, some_listed, some_times}

-- m is of slot s and is in a list of partition p of one of the threads
pub record Stands (all : Caches) (s : SlotName) (p threads : ℕ) (m : Numbered) : Type 0 where
  pub thread : ℕ
  pub class : ℕ
  pub few : thread < threads
  pub real : class < 170
  pub among : Contains (all thread p class) m
  pub slot : m.slot ≡ s

-- a slot that is counted never in the lists is in none of them
pub nowhere : (all : Caches) (s : SlotName) (p threads : ℕ) (m : Numbered) → cached_times s all p threads ≡ 0 → Stands all s p threads m → ⊥
nowhere all s p threads m none at =
    let some = some_cached all p threads at.thread at.class m at.few at.real at.among in
    let same : cached_times m.slot all p threads ≡ cached_times s all p threads = ap (λ z. cached_times z all p threads) at.slot in
    omega arith

pub unstood : (s : SlotName) (xs : List Numbered) (m : Numbered) → stands s xs ≡ 0 → Contains xs m → m.slot ≡ s → ⊥
unstood s xs m none among same = let some =
    some_times s (names xs) (subst (Contains (names xs)) same (map_in (λ (n : Numbered). n.slot) xs m among)) in omega arith

pub unlisted : (cache : Cache) (s : SlotName) (p c : ℕ) (m : Numbered) → listed_times s (cache p) 0 170 ≡ 0 → c < 170 →
    Contains (cache p c) m → m.slot ≡ s → ⊥
unlisted cache s p c m none real among same = elim (cases_eq (stands s (cache p c)) 0) [
  | inl empty ↦ unstood s (cache p c) m empty among same
  | inr some ↦ let times = some_listed s (cache p) c 0 170 (omega arith) (omega arith) (omega arith) in omega arith
]

-- ---- where it is

with_cases : (all : Caches) (thread : ℕ) (next : Cache) (t p c : ℕ) (m : Numbered) → Contains (with_cache all thread next t p c) m →
    ((t ≡ thread) × Contains (next p c) m) ⊎ Contains (all t p c) m
with_cases all thread next t p c m among = elim (cases_eq t thread) [
  | inl e ↦ inl (e, rw (eq-eqb t thread e) at among)
  | inr other ↦ inr (rw (ne_eqb t thread other) at among)
]

list_cases : (cache next : Cache) (q class p c : ℕ) (xs : List Numbered) (m : Numbered) → SameLists next (with_list cache q class xs)
    → Contains (next p c) m → ((q ≡ p) × Contains xs m) ⊎ Contains (cache p c) m
list_cases cache next q class p c xs m becomes among =
    let there : Contains (with_list cache q class xs p c) m = subst (λ ys. Contains ys m) (becomes p c) among in
    elim (cases_eq p q) [
      | inl e ↦ elim (cases_eq c class) [
        | inl f ↦ inl (sym e, rw (eq-eqb p q e, eq-eqb c class f) at there)
        | inr f ↦ inr (rw (eq-eqb p q e, ne_eqb c class f) at there)
      ]
      | inr e ↦ inr (rw (ne_eqb p q e) at there)
    ]

pub stands_same : (all : Caches) (s : SlotName) (p threads thread : ℕ) (next : Cache) (m : Numbered) → SameLists next (all thread)
    → Stands (with_cache all thread next) s p threads m → Stands all s p threads m
stands_same all s p threads thread next m becomes at = record {
  thread = at.thread;
  class = at.class;
  few = at.few;
  real = at.real;
  among = elim (with_cases all thread next at.thread p at.class m at.among) [
    | inl (e, among) ↦ subst (λ t. Contains (all t p at.class) m) (sym e) (subst (λ ys. Contains ys m) (becomes p at.class) among)
    | inr old ↦ old
  ];
  slot = at.slot;
}

pub stands_changed : (all : Caches) (s : SlotName) (p threads thread q class : ℕ) (xs : List Numbered) (next : Cache) (m : Numbered) →
    SameLists next (with_list (all thread) q class xs) →
    Stands (with_cache all thread next) s p threads m → Stands all s p threads m ⊎ ((q ≡ p) × Contains xs m × (m.slot ≡ s))
stands_changed all s p threads thread q class xs next m becomes at = elim (with_cases all thread next at.thread p at.class m at.among) [
  | inl (e, among) ↦ elim (list_cases (all thread) next q class p at.class xs m becomes among) [
    | inl (same, new) ↦ inr (same, new, at.slot)
    | inr old ↦ inl (record {
      thread = thread;
      class = at.class;
      few = subst (λ t. t < threads) e at.few;
      real = at.real;
      among = old;
      slot = at.slot;
    })
  ]
  | inr old ↦ inl (record { thread = at.thread; class = at.class; few = at.few; real = at.real; among = old; slot = at.slot })
]

pub stands_emptied : (all : Caches) (s : SlotName) (p threads thread : ℕ) (next : Cache) (m : Numbered) → ((q c : ℕ) → next q c ≡ [])
    → Stands (with_cache all thread next) s p threads m → Stands all s p threads m
stands_emptied all s p threads thread next m empty at = record {
  thread = at.thread;
  class = at.class;
  few = at.few;
  real = at.real;
  among = elim (with_cases all thread next at.thread p at.class m at.among) [
    | inl (e, among) ↦ absurd (not_in_none m (subst (λ ys. Contains ys m) (empty p at.class) among))
    | inr old ↦ old
  ];
  slot = at.slot;
}

-- ---- how often

-- what doesn't stay of a list that got one slot more
pub kept_times : (s : SlotName) (all : Caches) (thread p threads class : ℕ) (slot : Numbered) (next : Cache) → thread < threads →
    class < 170 →
    SameLists next (with_list (all thread) p class (kept class (slot ∷ all thread p class))) →
    cached_times s (with_cache all thread next) p threads + stands s
    (spilled class (slot ∷ all thread p class)) ≡ cached_times s all p threads + once s slot.slot
kept_times s all thread p threads class slot next few real becomes =
    let list = slot ∷ all thread p class in
    let one = times_cons s slot.slot (names (all thread p class)) in
    let parts = stands_kept s class list in
    let change = listed_changed s (all thread) next p class (kept class list) real (λ c. becomes p c) in
    let cached = cached_changed s all thread p threads next few in
    omega arith

-- all lists of a thread
pub emptied_times : (s : SlotName) (all : Caches) (thread p threads : ℕ) (next : Cache) → thread < threads → ((q c : ℕ) → next q c ≡ []) →
    cached_times s (with_cache all thread next) p threads + listed_times s (all thread p) 0 170 ≡ cached_times s all p threads
emptied_times s all thread p threads next few empty =
    let none = listed_none s (next p) 0 170 (empty p) in
    let cached = cached_changed s all thread p threads next few in
    omega arith
