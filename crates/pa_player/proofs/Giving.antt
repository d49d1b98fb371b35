-- Slots that go back to a root in parts.
use Rattle.std.proofs.Common.{◌≡◌, ℕ, zero, suc, ◌+◌, ◌-◌, ◌<◌, ◌≤◌, ◌⊎◌, inl, inr, List, [], ◌∷◌, ◌++◌, map, length, take, drop, set, get_or, refl, sym, ap, ◌∙◌, subst, arith, append_assoc, length-append, length-set}
use Rattle.std.specs.List.{All}
use Rattle.std.proofs.Math.Seq.{take-append_seam, drop-append_seam, take_all}
use Rattle.std.proofs.Math.ListN.{drop_of_length-le}
use Rattle.std.proofs.lemmas.List.{append-nil, map-append, length-drop, length-map, set-set, set-get_or, get_or-set_same}
use Rattle.std.proofs.lemmas.List.Elements.{All-same, All-take, All-drop}
use Rattle.std.proofs.lemmas.List.Sums.{sum-map, sum_by-append}
use Rattle.pa_record.specs.declared.numbered.Numbered.{Numbered}
use Rattle.pa_record.specs.declared.report.Tally.{Tally}
use Rattle.pa_record.specs.declared.root.RootAct.{RootAct}
use Rattle.pa_record.specs.declared.root.RootAct.TheVariants.{Give}
use Rattle.pa_record.specs.declared.root.RootEntry.{RootEntry}
use Rattle.pa_record.specs.Root.{Root, new_root, names, all_returned}
use Rattle.pa_record.specs.Sound.{IsSound}
use Rattle.pa_record.proofs.Lawful.{return_keeps}
use Rattle.pa_rules.specs.Caches.{batches, gives}
use Rattle.pa_heap_effects.specs.Deeds.{entries_at}
use Rattle.pa_heap_effects.specs.Ops.{AreOut}
use Rattle.pa_heap_effects.proofs.Lists.{names_append, parts_are_out, returned_sound}
use Rattle.pa_player.specs.Player.{Player}
use Rattle.pa_player.specs.declared.table.Slot.{Slot}
use Rattle.pa_player.specs.Asks.{CanGive}
use Rattle.pa_player.specs.Changes.{gave_back, bytes_at}
use Rattle.pa_player.specs.Playing.{numbered_at, root_of}
use Rattle.pa_player.specs.Tables.{slot_at}
use Rattle.pa_rules.specs.Lists.{no_tally}
use Rattle.pa_player.specs.Tallies.{tally_at}
use Rattle.pa_player.specs.Told.{journal_in}
use Rattle.pa_rules.proofs.Batches.{batches_same}

-- ---- gives

-- a batch is 16 slots, or the last ones
abbrev pub IsBatch : {X : Type 0} → List X → List X → Type 0
IsBatch xs ys = (1 ≤ length xs) × (length xs ≤ 16) × ((length xs ≡ 16) ⊎ (ys ≡ []))

-- the first 16 of a batch and the rest
first_taken : {X : Type 0} (xs ys : List X) → IsBatch xs ys → (take 16 (xs ++ ys) ≡ xs) × (drop 16 (xs ++ ys) ≡ ys)
first_taken xs ys (some, few, inl full) =
    (ap (λ n. take n (xs ++ ys)) (sym full) ∙ take-append_seam xs ys, ap (λ n. drop n (xs ++ ys)) (sym full) ∙ drop-append_seam xs ys)
first_taken xs ys (some, few, inr none) =
    let e : xs ++ ys ≡ xs = ap (λ z. xs ++ z) none ∙ append-nil xs in
    (ap (take 16) e ∙ take_all 16 xs few, ap (drop 16) e ∙ drop_of_length-le xs few ∙ sym none)

gives_first : (xs ys : List Numbered) → IsBatch xs ys → gives (xs ++ ys) ≡ Give xs ∷ gives ys
gives_first [] ys (some, few, h) = absurd (omega arith)
gives_first (x ∷ xs) ys (some, few, h) =
    let (first, rest) = first_taken (x ∷ xs) ys (some, few, h) in
    let e = length-append xs ys in
    ap (λ z. Give z ∷ batches (length (xs ++ ys)) (drop 16 (x ∷ xs ++ ys))) first
    ∙ ap (λ z. Give (x ∷ xs) ∷ batches (length (xs ++ ys)) z) rest
    ∙ ap (λ z. Give (x ∷ xs) ∷ z) (batches_same (length (xs ++ ys)) (length ys) ys (omega arith) (omega arith))

pub gives_one : (xs : List Numbered) → 1 ≤ length xs → length xs ≤ 16 → gives xs ≡ Give xs ∷ []
gives_one xs some few = ap gives (sym (append-nil xs)) ∙ gives_first xs [] (some, few, inr refl)

gives_append : (xs ys : List Numbered) → IsBatch xs ys → gives (xs ++ ys) ≡ gives xs ++ gives ys
gives_append xs ys h = gives_first xs ys h ∙ ap (λ z. z ++ gives ys) (sym (gives_one xs h.0 h.1))

batches_short : (n : ℕ) (xs : List Numbered) → length (batches n xs) ≤ length xs
batches_short zero xs = omega arith
batches_short (suc n) [] = omega arith
batches_short (suc n) (x ∷ xs) =
    let ih = batches_short n (drop 16 (x ∷ xs)) in
    let e = length-drop 16 (x ∷ xs) in
    omega arith

gives_short : (xs : List Numbered) → length (gives xs) ≤ length xs
gives_short xs = batches_short (length xs) xs

batch_map : {X Y : Type 0} (f : X → Y) (xs ys : List X) → IsBatch xs ys → IsBatch (map f xs) (map f ys)
batch_map f xs ys (some, few, h) =
    let e = length-map xs f in
    (omega arith, omega arith, elim h [ inl full ↦ inl (e ∙ full) | inr none ↦ inr (ap (map f) none) ])

-- ---- the player after slots went back

abbrev tally_of : ℕ → ℕ → Tally
tally_of slots bytes = record { slots = slots; bytes = bytes }

pub bytes_append : (slots : List Slot) (xs ys : List ℕ) → bytes_at slots (xs ++ ys) ≡ bytes_at slots xs + bytes_at slots ys
bytes_append slots xs ys =
    let f : ℕ → ℕ = λ i. (slot_at slots i).title.len in
    let a = sum-map f (xs ++ ys) in
    let b = sum_by-append f xs ys in
    let c = sum-map f xs in
    let d = sum-map f ys in
    omega arith

-- a player with these roots, journals and tallies of the caches
abbrev pub with_given : Player → List Root → List (List RootEntry) → List Tally → Player
with_given p roots journals cached =
    record p { heap = record p.heap { roots = roots }; told = record p.told { journals = journals }; cached = record { of = cached } }

with_same : (p : Player) (rs rs' : List Root) (js js' : List (List RootEntry)) (ts ts' : List Tally) → rs ≡ rs' → js ≡ js' → ts ≡ ts' →
    with_given p rs js ts ≡ with_given p rs' js' ts'
with_same p rs rs' js js' ts ts' a b c =
    ap (λ z. with_given p z js ts) a ∙ ap (λ z. with_given p rs' z ts) b ∙ ap (λ z. with_given p rs' js' z) c

tally_same : (a b c d : ℕ) → a ≡ c → b ≡ d → tally_of a b ≡ tally_of c d
tally_same a b c d e f = ap (λ z. tally_of z b) e ∙ ap (tally_of c) f

-- if no slots go back, the player stays as it is
pub gave_none : (q : ℕ) (p : Player) → gave_back q [] p ≡ p
gave_none q p =
    let t = tally_at p.cached.of q in
    let same : tally_of (t.slots - 0) (t.bytes - 0) ≡ t =
    tally_same (t.slots - 0) (t.bytes - 0) t.slots t.bytes (omega arith) (omega arith) in
    with_same p (set p.heap.roots q (root_of p q)) p.heap.roots (set p.told.journals q (journal_in p.told q ++ [])) p.told.journals
    (set p.cached.of q (tally_of (t.slots - 0) (t.bytes - 0))) p.cached.of
    (set-get_or p.heap.roots q new_root)
    (ap (set p.told.journals q) (append-nil (journal_in p.told q)) ∙ set-get_or p.told.journals q [])
    (ap (set p.cached.of q) same ∙ set-get_or p.cached.of q no_tally)

-- what is out of both parts
out_parts : (slots : List Slot) (r : Root) (xs ys : List ℕ) → AreOut r (map (numbered_at slots) (xs ++ ys)) →
    AreOut r (map (numbered_at slots) xs ++ map (numbered_at slots) ys)
out_parts slots r xs ys h = subst (λ z. AreOut r z) (map-append (numbered_at slots) xs ys) h

-- what goes back in two parts, the first of which is a batch
pub gave_parts : (q : ℕ) (xs ys : List ℕ) (p : Player) → IsBatch xs ys → q < length p.heap.roots → q < length p.told.journals →
    q < length p.cached.of
    → gave_back q (xs ++ ys) p ≡ gave_back q ys (gave_back q xs p)
gave_parts q xs ys p batch root journal tally =
    let num = numbered_at p.table in
    let r = root_of p q in
    let r1 = all_returned (names (map num xs)) r in
    let r2 = all_returned (names (map num ys)) r1 in
    let e1 : all_returned (names (map num (xs ++ ys))) r ≡ r2 =
    ap (λ z. all_returned (names z) r) (map-append num xs ys) ∙ ap (λ z. all_returned z r) (names_append (map num xs) (map num ys))
    ∙ parts_are_out.joined r (names (map num xs)) (names (map num ys)) in
    let roots : set p.heap.roots q (all_returned (names (map num (xs ++ ys))) r)
    ≡ set (set p.heap.roots q r1) q (all_returned (names (map num ys)) (get_or (set p.heap.roots q r1) q new_root)) =
    ap (set p.heap.roots q) e1 ∙ sym (set-set p.heap.roots q r1 r2)
    ∙ ap (λ z. set (set p.heap.roots q r1) q (all_returned (names (map num ys)) z))
    (sym (get_or-set_same p.heap.roots q r1 new_root root)) in
    let j = journal_in p.told q in
    let line = p.told.line in
    let g1 = entries_at line (gives (map num xs)) in
    let g2 = entries_at line (gives (map num ys)) in
    let many : IsBatch (map num xs) (map num ys) = batch_map num xs ys batch in
    let e2 : j ++ entries_at line (gives (map num (xs ++ ys))) ≡ (j ++ g1) ++ g2 =
    ap (λ z. j ++ entries_at line (gives z)) (map-append num xs ys) ∙
    ap (λ z. j ++ entries_at line z) (gives_append (map num xs) (map num ys) many)
    ∙ ap (λ z. j ++ z) (map-append (λ (a : RootAct). record { line = line; act = a }) (gives (map num xs)) (gives (map num ys)))
    ∙ sym (append_assoc j g1 g2) in
    let journals : set p.told.journals q (j ++ entries_at line (gives (map num (xs ++ ys)))) ≡ set (set p.told.journals q (j ++ g1)) q
    (get_or (set p.told.journals q (j ++ g1)) q [] ++ g2) =
    ap (set p.told.journals q) e2 ∙ sym (set-set p.told.journals q (j ++ g1) ((j ++ g1) ++ g2))
    ∙ ap (λ z. set (set p.told.journals q (j ++ g1)) q (z ++ g2)) (sym (get_or-set_same p.told.journals q (j ++ g1) [] journal)) in
    let t = tally_at p.cached.of q in
    let t1 = tally_of (t.slots - length xs) (t.bytes - bytes_at p.table xs) in
    let ea = length-append xs ys in
    let eb = bytes_append p.table xs ys in
    let e3 : tally_of (t.slots - length (xs ++ ys)) (t.bytes - bytes_at p.table (xs ++ ys)) ≡ tally_of (t1.slots - length ys)
    (t1.bytes - bytes_at p.table ys) =
    tally_same (t.slots - length (xs ++ ys)) (t.bytes - bytes_at p.table (xs ++ ys)) (t.slots - length xs - length ys)
    (t.bytes - bytes_at p.table xs - bytes_at p.table ys) (omega arith) (omega arith) in
    let less : Tally → Tally = λ z. tally_of (z.slots - length ys) (z.bytes - bytes_at p.table ys) in
    let cached : set p.cached.of q (tally_of (t.slots - length (xs ++ ys)) (t.bytes - bytes_at p.table (xs ++ ys))) ≡ set
    (set p.cached.of q t1) q (less (get_or (set p.cached.of q t1) q no_tally)) =
    ap (set p.cached.of q) e3 ∙ sym (set-set p.cached.of q t1 (less t1)) ∙
    ap (λ z. set (set p.cached.of q t1) q (less z)) (sym (get_or-set_same p.cached.of q t1 no_tally tally)) in
    with_same p _ _ _ _ _ _ roots journals cached

-- the partitions of the caches' tallies stay
pub gave_tally : (q : ℕ) (xs : List ℕ) (p : Player) → q < length p.cached.of → q < length (gave_back q xs p).cached.of
gave_tally q xs p h =
    let t = tally_at p.cached.of q in
    omega (arith, length-set p.cached.of q (tally_of (t.slots - length xs) (t.bytes - bytes_at p.table xs)), h)

-- ---- what may go back

-- the first part may, and so may the second alone
pub can_front : (q : ℕ) (xs ys : List ℕ) (p : Player) → CanGive q (xs ++ ys) p → CanGive q xs p
can_front q xs ys p h =
    let a = length-append xs ys in
    let b = bytes_append p.table xs ys in record {
      root = h.root;
      journal = h.journal;
      four = h.four;
      among = All-same (λ i. i < length p.table) xs (take (length xs) (xs ++ ys)) (sym (take-append_seam xs ys))
          (All-take (λ i. i < length p.table) (length xs) (xs ++ ys) h.among);
      sound = h.sound;
      out = parts_are_out.front (root_of p q) (map (numbered_at p.table) xs) (map (numbered_at p.table) ys)
          (out_parts p.table (root_of p q) xs ys h.out);
      turn = let k = h.turn in omega arith;
      few = let k = h.few in omega arith;
      slots = let k = h.slots in omega arith;
      bytes = let k = h.bytes in omega arith;
    }

behind_among : (n : ℕ) (xs ys : List ℕ) → All (λ i. i < n) (xs ++ ys) → All (λ i. i < n) ys
behind_among n xs ys h =
    All-same (λ i. i < n) ys (drop (length xs) (xs ++ ys)) (sym (drop-append_seam xs ys)) (All-drop (λ i. i < n) (length xs) (xs ++ ys) h)

pub can_behind : (q : ℕ) (xs ys : List ℕ) (p : Player) → CanGive q (xs ++ ys) p → CanGive q ys p
can_behind q xs ys p h =
    let a = length-append xs ys in
    let b = bytes_append p.table xs ys in record {
      root = h.root;
      journal = h.journal;
      four = h.four;
      among = behind_among (length p.table) xs ys h.among;
      sound = h.sound;
      out = parts_are_out.behind (root_of p q) (map (numbered_at p.table) xs) (map (numbered_at p.table) ys)
          (out_parts p.table (root_of p q) xs ys h.out);
      turn = let k = h.turn in omega arith;
      few = let k = h.few in omega arith;
      slots = let k = h.slots in omega arith;
      bytes = let k = h.bytes in omega arith;
    }

-- the second part may once the first went back
pub can_rest : (q : ℕ) (xs ys : List ℕ) (p : Player) → q < length p.cached.of → CanGive q (xs ++ ys) p → CanGive q ys (gave_back q xs p)
can_rest q xs ys p tally h =
    let num = numbered_at p.table in
    let r = root_of p q in
    let r1 = all_returned (names (map num xs)) r in
    let parts = out_parts p.table r xs ys h.out in
    let first = parts_are_out.front r (map num xs) (map num ys) parts in
    let back = return_keeps.returns r (names (map num xs)) h.sound first.0 first.1 in
    let here : get_or (set p.heap.roots q r1) q new_root ≡ r1 = get_or-set_same p.heap.roots q r1 new_root h.root in
    let j = journal_in p.told q in
    let g1 = entries_at p.told.line (gives (map num xs)) in
    let there : get_or (set p.told.journals q (j ++ g1)) q [] ≡ j ++ g1 = get_or-set_same p.told.journals q (j ++ g1) [] h.journal in
    let t = tally_at p.cached.of q in
    let t1 = tally_of (t.slots - length xs) (t.bytes - bytes_at p.table xs) in
    let held : get_or (set p.cached.of q t1) q no_tally ≡ t1 = get_or-set_same p.cached.of q t1 no_tally tally in
    let a = length-append xs ys in
    let b = bytes_append p.table xs ys in
    let k1 = length-set p.heap.roots q r1 in
    let k2 = length-set p.told.journals q (j ++ g1) in
    let n1 : length (names (map num xs)) ≡ length xs = length-map (map num xs) (λ (n : Numbered). n.slot) ∙ length-map xs num in
    let n2 : length g1 ≡ length (gives (map num xs)) =
    length-map (gives (map num xs)) (λ (z : RootAct). record { line = p.told.line; act = z }) in
    let n3 = gives_short (map num xs) in
    let n4 = length-map xs num in
    let n5 = length-append j g1 in
    let n6 = ap (λ (z : List RootEntry). length z) there in
    let n7 = ap (λ (z : Tally). z.slots) held in
    let n8 = ap (λ (z : Tally). z.bytes) held in
    let n9 = ap (λ (z : Root). z.turn) here in record {
      root = let k = h.root in omega arith;
      journal = let k = h.journal in omega arith;
      four = h.four;
      among = behind_among (length p.table) xs ys h.among;
      sound = subst IsSound (sym here) (returned_sound r (map num xs) h.sound first);
      out = subst (λ z. AreOut z (map num ys)) (sym here) (parts_are_out.rest r (map num xs) (map num ys) h.sound parts);
      turn = let k = h.turn in let m = back.turn in omega arith;
      few = let k = h.few in omega arith;
      slots = let k = h.slots in omega arith;
      bytes = let k = h.bytes in omega arith;
    }
