-- What a purge asks: all that a thread's lists of a partition have can go back.
use Rattle.std.proofs.Common.{◌≡◌, ℕ, zero, suc, ◌+◌, ◌*◌, ◌<◌, ◌≤◌, List, ◌++◌, map, length, refl, sym, ap, ◌∙◌, subst, arith, inl, inr}
use Rattle.std.specs.Prelude.{Contains}
use Rattle.std.proofs.lemmas.Bool.{cases_eq}
use Rattle.std.proofs.lemmas.List.{map-append, length-map}
use Rattle.std.proofs.lemmas.List.Elements.{Contains-append_cases}
use Rattle.pa_buckets.specs.Table.{slot_of}
use Rattle.pa_trace.specs.declared.script.Line.{Line}
use Rattle.pa_lists.proofs.Members.{not_in_none}
use Rattle.pa_rules.specs.Caches.{Caches, listed_slots}
use Rattle.pa_rules.specs.Report.{listed_bytes, cached_slots, cached_bytes}
use Rattle.pa_heap_effects.specs.Deeds.{root_at}
use Rattle.pa_heap_effects.specs.Ops.{AreOut, all_of}
use Rattle.pa_heap_effects.proofs.Listed.{lists_are_out}
use Rattle.pa_player.specs.Player.{Player}
use Rattle.pa_player.specs.Playing.{journals, caches, root_of, list_at, numbered_at, IsPlaying}
use Rattle.pa_player.specs.Changes.{bytes_at}
use Rattle.pa_player.specs.Asks.{CanGive, CanPurgeOne, places_from, places_all}
use Rattle.pa_player.proofs.Sparse.{all_slots, all_bytes, all_in_lists}
use Rattle.pa_player.proofs.OneList.{caches_here}
use Rattle.pa_player.proofs.Alone.{so_far}
use Rattle.pa_player.proofs.Bounds.{list_short, listed_few, place_among}
use Rattle.pa_player.proofs.Giving.{bytes_append}
use Rattle.pa_player.proofs.Purging.{listed_places, all_places}
use Rattle.pa_player.proofs.GoingBack.{bytes_of_one, root_sound, listed_len}
use Rattle.pa_lists.proofs.Elements.{all_from_members}
use Rattle.pa_buckets.specs.Limits.{first_class}
use Rattle.pa_buckets.specs.Limits.{past_class}
use Rattle.pa_rules.proofs.Versions.{class_end}
use Rattle.pa_rules.proofs.Versions.{class_few}
use Rattle.pa_rules.specs.Sizes.{HasClass}
use Rattle.pa_rules.specs.Sizes.{class_total}

-- the lists of one thread among all
listed_of_all : (all : Caches) (q threads t : ℕ) → t < threads → listed_slots (all t q) 0 170 ≤ cached_slots all q threads
listed_of_all all q zero t below = absurd (omega (arith, below))
listed_of_all all q (suc n) t below = elim (cases_eq n t) [
  | inl e ↦ let same : listed_slots (all n q) 0 170 ≡ listed_slots (all t q) 0 170 = ap (λ u. listed_slots (all u q) 0 170) e in omega arith
  | inr other ↦ let ih = listed_of_all all q n t (omega arith) in omega arith
]

bytes_of_all : (all : Caches) (q threads t : ℕ) → t < threads →
    listed_bytes (λ class. length (all t q class)) 0 170 ≤ cached_bytes all q threads
bytes_of_all all q zero t below = absurd (omega (arith, below))
bytes_of_all all q (suc n) t below = elim (cases_eq n t) [
  | inl e ↦
      let f : ℕ → ℕ = λ u. listed_bytes (λ class. length (all u q class)) 0 170 in
      let same : f n ≡ f t = ap f e in
      omega arith
  | inr other ↦ let ih = bytes_of_all all q n t (omega arith) in omega arith
]

module _ (region partitions threads : ℕ) (ls : List Line) (p : Player) (h : IsPlaying region partitions threads ls p) (t q : ℕ)
    (below : t < threads) (low : q < partitions) where
  here : (class : ℕ) → HasClass p.version class → caches p t q class ≡ map (numbered_at p.table) (list_at p t q class)
  here class real = caches_here p t q class (omega (arith, low, h.shaped.many)) real

  same_size : (class : ℕ) → HasClass p.version class → length (caches p t q class) ≡ length (list_at p t q class)
  same_size class real = ap length (here class real) ∙ length-map (list_at p t q class) (numbered_at p.table)

  places_are : (class n : ℕ) → first_class p.version ≤ class → class + n ≤ past_class p.version →
      map (numbered_at p.table) (places_from t q class n p) ≡ all_of (caches p t q) class n
  unfolding places_from
  places_are class zero from within = refl
  places_are class (suc n) from within =
      let real : HasClass p.version class = (from, omega (arith, within)) in
      let rest = places_are (class + 1) n (omega (arith, from)) (omega (arith, within)) in
      map-append (numbered_at p.table) (list_at p t q class) (places_from t q (class + 1) n p)
      ∙ ap (λ zs. zs ++ map (numbered_at p.table) (places_from t q (class + 1) n p)) (sym (here class real))
      ∙ ap (λ zs. caches p t q class ++ zs) rest

  places_bytes : (class n : ℕ) → first_class p.version ≤ class → class + n ≤ past_class p.version →
      bytes_at p.table (places_from t q class n p) ≡ listed_bytes (λ c. length (caches p t q c)) class n
  unfolding places_from listed_bytes
  places_bytes class zero from within = refl
  places_bytes class (suc n) from within =
      let real : HasClass p.version class = (from, omega (arith, within)) in
      let one = bytes_of_one p.table (slot_of class) (list_at p t q class)
      (λ i among. listed_len region partitions threads ls p h t q class i below low real among) in
      let same : slot_of class * length (caches p t q class) ≡ slot_of class * length (list_at p t q class) =
      ap (λ n. slot_of class * n) (same_size class real) in
      let rest = places_bytes (class + 1) n (omega (arith, from)) (omega (arith, within)) in
      omega (arith, bytes_append p.table (list_at p t q class) (places_from t q (class + 1) n p), one, same, rest)

  places_among : (class n i : ℕ) → first_class p.version ≤ class → class + n ≤ past_class p.version →
      Contains (places_from t q class n p) i → i < length p.table
  unfolding places_from
  places_among class zero i from within among = absurd (not_in_none i among)
  places_among class (suc n) i from within among =
      elim (Contains-append_cases (list_at p t q class) (places_from t q (class + 1) n p) i among) [
        | inl first ↦ (h.shaped.listed t q class i below low (from, omega (arith, within)) first).0
        | inr rest ↦ places_among (class + 1) n i (omega (arith, from)) (omega (arith, within)) rest
      ]

  gives : length ls ≤ 65535 → CanGive q (places_all t q p) p
  gives short =
      let first = first_class p.version in
      let total = class_total p.version in
      let end = class_end p.version in
      let at_most = class_few p.version in
      let many = all_places p t q (omega (arith, low, h.shaped.many)) in
      let few = listed_few (caches p t q) first total (λ c. list_short region partitions threads ls p h t q c below low) in
      let bytes = places_bytes first total (omega arith) (omega arith) in
      let whole = lists_are_out region partitions (length ls + 2) q t ls h.ps p.told.pools (journals p) (caches p)
      (so_far region partitions threads ls p h) in
      let out = subst (λ zs. AreOut (root_at p.told.pools (journals p) q) zs) (all_in_lists p t q) whole in
      let tallied = h.tallied q low in
      let all = all_slots p t q in
      let all_in = all_bytes p t q in
      record {
        root = omega (arith, low, h.shaped.roots);
        journal = omega (arith, low, h.shaped.journals);
        four = omega (arith, low, h.shaped.four);
        among = all_from_members (λ i. i < length p.table) (places_all t q p)
            (λ i there. places_among first total i (omega arith) (omega arith) there);
        sound = root_sound region partitions threads ls p h q;
        out = subst (AreOut (root_of p q)) (sym (places_are first total (omega arith) (omega arith)))
            (subst (λ r. AreOut r (all_of (caches p t q) first total)) (sym (h.roots q)) out);
        turn = omega (arith, h.bounded.turns q, short, many, few, at_most);
        few = omega (arith, h.bounded.journals q, short, many, few, at_most);
        slots = omega (arith, many, all, listed_of_all (caches p) q threads t below, tallied.many);
        bytes = omega (arith, bytes, all_in, bytes_of_all (caches p) q threads t below, tallied.bytes);
      }

  pub can_purge : length ls ≤ 65535 → threads ≤ 16 → CanPurgeOne t q p
  can_purge short few = record {
    threads = omega (arith, below, few);
    four = omega (arith, h.shaped.many, h.shaped.four);
    among = omega (arith, low, h.shaped.many);
    lists = λ class real. place_among region partitions threads ls p h t q class below low real;
    gives = gives short;
  }
