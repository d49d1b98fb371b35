-- The records of one thread: what they do with a slot at a number is what the moves on their lines do.
use Rattle.std.proofs.Common.{◌≡◌, ℕ, ◌+◌, ◌<◌, Bool, true, false, ◌&&◌, cond, suc, List, [], ◌∷◌, ◌++◌, map, filter, flat_map, refl, sym, ◌∙◌, ap, arith, inl, inr}
use Rattle.std.specs.Prelude.{Contains, AllPairs, count_by, sum_by, ◌==◌}
use Rattle.std.proofs.lemmas.Bool.{cases_Bool, cases_eq, eq-eqb, ne_eqb}
use Rattle.std.proofs.lemmas.List.Elements.{filter-append}
use Rattle.std.proofs.lemmas.List.Sums.{sum_by-cons, sum_by-append}
use Rattle.pa_slot.specs.declared.word.SlotName.{SlotName}
use Rattle.pa_slot.proofs.Runs.{same_slot_cases, same_slot_yes, same_slot_no}
use Rattle.pa_record.specs.declared.numbered.Numbered.{Numbered}
use Rattle.pa_record.specs.declared.pool.PoolEntry.{PoolEntry}
use Rattle.pa_record.specs.declared.root.RootEntry.{RootEntry}
use Rattle.pa_record.specs.declared.root.RootAct.{RootAct}
use Rattle.pa_record.specs.declared.root.RootAct.TheVariants.{Fill, Map, Full, Give, Unmap, Purge}
use Rattle.pa_record.specs.Root.{IsJournal}
use Rattle.pa_lists.proofs.Members.{not_in_none, first_in, later_in, in_cases}
use Rattle.pa_lists.proofs.Pairs.{pairs_head, pairs_tail}
use Rattle.pa_rules.specs.declared.played.Played.{Played}
use Rattle.pa_rules.specs.Roots.{Journals}
use Rattle.pa_rules.specs.Holders.{Way, Out, Back, Move, move_of, moves_by, is_move_of, moves_at}
use Rattle.pa_rules.specs.Caches.{Cache, Caches, acts_of, CachesTo, with_cache}
use Rattle.pa_rules.specs.Flow.{IsOnlyOf}
use Rattle.pa_rules.proofs.Known.{IsKnown, known_with, row_known}
use Rattle.pa_rules.proofs.Running.{OtherRecord}
use Rattle.pa_legal.specs.Turns.{is_out}
use Rattle.pa_legal.specs.Flows.{IsNewMap, UnmapsNext, is_back, hits, at_in, moved, moved_in, issues_at, returns_at, moves_on, over}
use Rattle.pa_legal.proofs.flow.Counts.{listed, at_cons}
use Rattle.pa_legal.proofs.flow.Rows.{row_flows}

-- ---- along some records

-- The sums over thread t's records with one record more. If the record is the thread's, what the thread has changes by what the
-- record does, and else it stays.
pub one_more : (t : ℕ) (x : Played) (xs : List Played) (i b o r : Played → ℕ) (had has last : ℕ) →
    (x.thread ≡ t → has + i x + b x ≡ had + o x + r x) → ((x.thread ≡ t → ⊥) → has ≡ had) →
    last + over t i xs + over t b xs ≡ has + over t o xs + over t r xs →
    last + over t i (x ∷ xs) + over t b (x ∷ xs) ≡ had + over t o (x ∷ xs) + over t r (x ∷ xs)
one_more t x xs i b o r had has last own stays rest = elim (cases_eq x.thread t) [
  | inl e ↦
      let flow = own e in
      let here = λ (g : Played → ℕ). this_one g e in
      omega (arith, here i, here b, here o, here r)
  | inr other ↦
      let same = stays other in
      let none = λ (g : Played → ℕ). not_this g other in
      omega (arith, none i, none b, none o, none r)
]
  where
    this_one : (g : Played → ℕ) → x.thread ≡ t → over t g (x ∷ xs) ≡ g x + over t g xs
    this_one g e = rw (eq-eqb x.thread t e) refl

    not_this : (g : Played → ℕ) → (x.thread ≡ t → ⊥) → over t g (x ∷ xs) ≡ over t g xs
    not_this g other = rw (ne_eqb x.thread t other) (omega arith)

-- the lists of a thread whose lists were replaced, and those of another thread
pub with_here : (all : Caches) (thread : ℕ) (next : Cache) (t : ℕ) → t ≡ thread → with_cache all thread next t ≡ next
with_here all thread next t e = rw (eq-eqb t thread e) refl

pub with_other : (all : Caches) (thread : ℕ) (next : Cache) (t : ℕ) → (t ≡ thread → ⊥) → with_cache all thread next t ≡ all t
with_other all thread next t other = rw (ne_eqb t thread other) refl

module _ (partitions : ℕ) (pools : List PoolEntry) (roots : Journals) (s : SlotName) (k p t : ℕ)
    (journals : (q : ℕ) → IsJournal pools (roots q)) (own : IsOnlyOf roots p s) (below : p < partitions) where
  pub all_flow : (xs : List Played) (all after : Caches) → ((x : Played) → Contains xs x → IsNewMap roots x × UnmapsNext roots x)
      → ((u : ℕ) → IsKnown roots (all u)) → CachesTo partitions roots all xs after →
      listed s k (after t p) 0 170 + over t (issues_at s k) xs + over t (moves_on is_back s k roots p) xs
      ≡ listed s k (all t p) 0 170 + over t (moves_on is_out s k roots p) xs + over t (returns_at s k) xs
  all_flow [] all after each known e =
      let same : listed s k (after t p) 0 170 ≡ listed s k (all t p) 0 170 = ap (λ (c : Caches). listed s k (c t p) 0 170) e in
      omega arith
  all_flow (x ∷ xs) all after each known (next, row, rest) =
      let (new, unmaps) = each x (first_in x xs) in
      let flow = row_flows s k p roots partitions pools x (all x.thread) next journals own below (known x.thread) new unmaps row in
      let ih = all_flow xs (with_cache all x.thread next) after (λ y among. each y (later_in x y xs among))
      (known_with roots all x.thread next known (row_known partitions roots x x.answer (all x.thread) next (known x.thread) row)) rest in
      one_more t x xs (issues_at s k) (moves_on is_back s k roots p) (moves_on is_out s k roots p) (returns_at s k)
      (listed s k (all t p) 0 170) (listed s k (with_cache all x.thread next t p) 0 170) (listed s k (after t p) 0 170)
      (λ e.
      let here : listed s k (with_cache all x.thread next t p) 0 170 ≡ listed s k (next p) 0 170 =
      ap (λ (c : Cache). listed s k (c p) 0 170) (with_here all x.thread next t (sym e)) in
      let old : listed s k (all x.thread p) 0 170 ≡ listed s k (all t p) 0 170 = ap (λ z. listed s k (all z p) 0 170) e in
      omega arith)
      (λ other. ap (λ (c : Cache). listed s k (c p) 0 170) (with_other all x.thread next t (λ e. other (sym e)))) ih

-- ---- the moves of a line

abbrev pub on_line : (Way → Bool) → ℕ → List Move → ℕ
on_line w line ms = count_by (λ (m : Move). w m.way && (m.line == line)) ms

abbrev one_on : (Way → Bool) → ℕ → Move → ℕ
one_on w line m = cond (w m.way && (m.line == line)) 1 0

hits_move : (line : ℕ) (way : Way) (s : SlotName) (k : ℕ) (n : Numbered) → is_move_of s k (move_of line way n) ≡ hits s k n
hits_move line way s k n = elim (same_slot_cases n.slot s) [
  | inl e ↦ rw (same_slot_yes n.slot s e, same_slot_yes s n.slot (sym e)) refl
  | inr ne ↦ rw (same_slot_no n.slot s ne, same_slot_no s n.slot (λ e. ne (sym e))) refl
]

filter_hit : (test : Move → Bool) (m : Move) (ms : List Move) → test m ≡ true → filter test (m ∷ ms) ≡ m ∷ filter test ms
filter_hit test m ms hit = rw hit refl

filter_miss : (test : Move → Bool) (m : Move) (ms : List Move) → test m ≡ false → filter test (m ∷ ms) ≡ filter test ms
filter_miss test m ms miss = rw miss refl

slots_line : (w : Way → Bool) (line here : ℕ) (way : Way) (s : SlotName) (k : ℕ) (ns : List Numbered) →
    on_line w line (filter (is_move_of s k) (map (move_of here way) ns)) ≡ cond {A = ℕ} (here == line) (cond (w way) (at_in s k ns) 0) 0
slots_line w line here way s k [] = elim (cases_Bool (here == line)) [
  | inl hit ↦ rw hit (elim (cases_Bool (w way)) [ inl hit ↦ rw hit refl | inr miss ↦ rw miss refl ])
  | inr miss ↦ rw miss refl
]
slots_line w line here way s k (n ∷ ns) =
    let ih = slots_line w line here way s k ns in
    let a = at_cons s k n ns in
    let m = move_of here way n in
    elim (cases_Bool (hits s k n)) [
      | inl hit ↦
          let c = sum_by-cons (one_on w line) m (filter (is_move_of s k) (map (move_of here way) ns)) in
          let one : cond {A = ℕ} (hits s k n) 1 0 ≡ 1 = rw hit refl in
          ap (on_line w line) (filter_hit (is_move_of s k) m (map (move_of here way) ns) (hits_move here way s k n ∙ hit))
          ∙ c ∙ with_one (w way) (here == line) (at_in s k ns) _ (at_in s k (n ∷ ns)) ih (omega arith)
      | inr miss ↦
          let none : cond {A = ℕ} (hits s k n) 1 0 ≡ 0 = rw miss refl in
          let same : at_in s k (n ∷ ns) ≡ at_in s k ns = omega arith in
          ap (on_line w line) (filter_miss (is_move_of s k) m (map (move_of here way) ns) (hits_move here way s k n ∙ miss))
          ∙ ih ∙ ap (λ z. cond {A = ℕ} (here == line) (cond (w way) z 0) 0) (sym same)
    ]
  where
    with_one : (a b : Bool) (n total next : ℕ) → total ≡ cond {A = ℕ} b (cond a n 0) 0 → next ≡ suc n →
        cond {A = ℕ} (a && b) 1 0 + total ≡ cond {A = ℕ} b (cond a next 0) 0
    with_one true true n total next e f = omega arith
    with_one true false n total next e f = omega arith
    with_one false true n total next e f = omega arith
    with_one false false n total next e f = omega arith

act_line : (w : Way → Bool) (line here : ℕ) (s : SlotName) (k : ℕ) (act : RootAct) →
    on_line w line (filter (is_move_of s k) (moves_by here act)) ≡ cond {A = ℕ} (here == line) (moved w s k act) 0
act_line w line here s k (Fill class asked slots) = slots_line w line here Out s k slots
act_line w line here s k (Map asked slot len) = slots_line w line here Out s k (record { slot = slot; number = 0 } ∷ [])
act_line w line here s k (Full class asked) = elim (cases_Bool (here == line)) [ inl hit ↦ rw hit refl | inr miss ↦ rw miss refl ]
act_line w line here s k (Give slots) = slots_line w line here Back s k slots
act_line w line here s k (Unmap asked slot) = slots_line w line here Back s k (slot ∷ [])
act_line w line here s k Purge = elim (cases_Bool (here == line)) [ inl hit ↦ rw hit refl | inr miss ↦ rw miss refl ]

abbrev acts_at : List RootEntry → ℕ → List RootAct
acts_at es line = map (λ (e : RootEntry). e.act) (filter (λ (e : RootEntry). e.line == line) es)

pub journal_line : (w : Way → Bool) (line : ℕ) (s : SlotName) (k : ℕ) (es : List RootEntry) →
    on_line w line (moves_at es s k) ≡ moved_in w s k (acts_at es line)
journal_line w line s k [] = refl
journal_line w line s k (e ∷ es) =
    let here = moves_by e.line e.act in
    let rest = flat_map (λ (f : RootEntry). moves_by f.line f.act) es in
    let a : on_line w line (moves_at (e ∷ es) s k) ≡ on_line w line (filter (is_move_of s k) here ++ filter (is_move_of s k) rest) =
    ap (on_line w line) (filter-append (is_move_of s k) here rest) in
    let b = sum_by-append (one_on w line) (filter (is_move_of s k) here) (filter (is_move_of s k) rest) in
    let c = act_line w line e.line s k e.act in
    let ih = journal_line w line s k es in
    let d = one_more e es in
    omega arith
  where
    one_more : (e : RootEntry) (es : List RootEntry) →
        moved_in w s k (acts_at (e ∷ es) line) ≡ cond {A = ℕ} (e.line == line) (moved w s k e.act) 0 + moved_in w s k (acts_at es line)
    one_more e es = elim (cases_Bool (e.line == line)) [ inl hit ↦ rw hit refl | inr miss ↦ rw miss (omega arith) ]

-- ---- moves weighed by the records of a thread

-- how many of the records of a thread have this line
abbrev pub mine : ℕ → List Played → ℕ → ℕ
mine t xs line = count_by (λ (x : Played). (x.thread == t) && (line == x.line)) xs

-- how many moves in such ways are on lines of a thread's records
abbrev pub weigh : (Way → Bool) → ℕ → List Played → List Move → ℕ
weigh w t xs ms = sum_by (λ (m : Move). cond (w m.way) (mine t xs m.line) 0) ms

abbrev weight : (Way → Bool) → ℕ → List Played → Move → ℕ
weight w t xs m = cond (w m.way) (mine t xs m.line) 0

mine_cons : (t : ℕ) (x : Played) (xs : List Played) (line : ℕ) →
    mine t (x ∷ xs) line ≡ cond {A = ℕ} ((x.thread == t) && (line == x.line)) 1 0 + mine t xs line
mine_cons t x xs line = sum_by-cons (λ (y : Played). cond {A = ℕ} ((y.thread == t) && (line == y.line)) 1 0) x xs

pub weigh_cons : (w : Way → Bool) (t : ℕ) (xs : List Played) (m : Move) (ms : List Move) →
    weigh w t xs (m ∷ ms) ≡ cond {A = ℕ} (w m.way) (mine t xs m.line) 0 + weigh w t xs ms
weigh_cons w t xs m ms = sum_by-cons (weight w t xs) m ms

pub weigh_append : (w : Way → Bool) (t : ℕ) (xs : List Played) (ms ns : List Move) →
    weigh w t xs (ms ++ ns) ≡ weigh w t xs ms + weigh w t xs ns
weigh_append w t xs ms ns = sum_by-append (weight w t xs) ms ns

weigh_none : (w : Way → Bool) (t : ℕ) (ms : List Move) → weigh w t [] ms ≡ 0
weigh_none w t [] = refl
weigh_none w t (m ∷ ms) =
    let a = weigh_cons w t [] m ms in
    let ih = weigh_none w t ms in
    let here : cond {A = ℕ} (w m.way) 0 0 ≡ 0 = elim (cases_Bool (w m.way)) [ inl hit ↦ rw hit refl | inr miss ↦ rw miss refl ] in
    omega arith

-- one record more
weigh_more : (w : Way → Bool) (t : ℕ) (x : Played) (xs : List Played) (ms : List Move) →
    weigh w t (x ∷ xs) ms ≡ cond {A = ℕ} (x.thread == t) (on_line w x.line ms) 0 + weigh w t xs ms
weigh_more w t x xs [] = elim (cases_Bool (x.thread == t)) [ inl hit ↦ rw hit refl | inr miss ↦ rw miss refl ]
weigh_more w t x xs (m ∷ ms) =
    let a = weigh_cons w t (x ∷ xs) m ms in
    let b = weigh_cons w t xs m ms in
    let c = mine_cons t x xs m.line in
    let d = sum_by-cons (one_on w x.line) m ms in
    let ih = weigh_more w t x xs ms in
    let here = at_move (w m.way) (x.thread == t) (m.line == x.line) (mine t (x ∷ xs) m.line) (mine t xs m.line) (on_line w x.line (m ∷ ms))
    (on_line w x.line ms) c d in
    omega arith
  where
    at_move : (a b c : Bool) (all some line rest : ℕ) → all ≡ cond {A = ℕ} (b && c) 1 0 + some → line ≡ cond {A = ℕ} (a && c) 1 0 + rest →
        cond {A = ℕ} a all 0 + cond {A = ℕ} b rest 0 ≡ cond {A = ℕ} b line 0 + cond {A = ℕ} a some 0
    at_move true true true all some line rest e f = omega arith
    at_move true true false all some line rest e f = omega arith
    at_move true false true all some line rest e f = omega arith
    at_move true false false all some line rest e f = omega arith
    at_move false true true all some line rest e f = omega arith
    at_move false true false all some line rest e f = omega arith
    at_move false false true all some line rest e f = omega arith
    at_move false false false all some line rest e f = omega arith

-- the sum over a thread's records is that over the moves
pub over_lines : (w : Way → Bool) (t : ℕ) (roots : Journals) (s : SlotName) (k p : ℕ) (xs : List Played)
    → over t (λ x. moved_in w s k (acts_of roots x.line p)) xs ≡ weigh w t xs (moves_at (roots p) s k)
over_lines w t roots s k p [] = sym (weigh_none w t (moves_at (roots p) s k))
over_lines w t roots s k p (x ∷ xs) =
    let a = weigh_more w t x xs (moves_at (roots p) s k) in
    let b : cond {A = ℕ} (x.thread == t) (on_line w x.line (moves_at (roots p) s k)) 0 ≡ cond {A = ℕ} (x.thread == t)
    (moved_in w s k (acts_of roots x.line p)) 0 =
    ap (λ z. cond {A = ℕ} (x.thread == t) z 0) (journal_line w x.line s k (roots p)) in
    let ih = over_lines w t roots s k p xs in
    omega arith

-- the records in two parts
pub weigh_parts : (w : Way → Bool) (t : ℕ) (xs ys : List Played) (ms : List Move) →
    weigh w t (xs ++ ys) ms ≡ weigh w t xs ms + weigh w t ys ms
weigh_parts w t [] ys ms = let a = weigh_none w t ms in omega arith
weigh_parts w t (x ∷ xs) ys ms =
    let a = weigh_more w t x (xs ++ ys) ms in
    let b = weigh_more w t x xs ms in
    let ih = weigh_parts w t xs ys ms in
    omega arith

-- none of the thread's records has the line of such a move
mine_none : (t : ℕ) (xs : List Played) (line : ℕ) → ((x : Played) → Contains xs x → x.thread ≡ t → x.line ≡ line → ⊥) → mine t xs line ≡ 0
mine_none t [] line none = refl
mine_none t (x ∷ xs) line none =
    let a = mine_cons t x xs line in
    let ih = mine_none t xs line (λ y among. none y (later_in x y xs among)) in
    let here : cond {A = ℕ} ((x.thread == t) && (line == x.line)) 1 0 ≡ 0 = elim (cases_eq x.thread t) [
      | inl e ↦ rw (eq-eqb x.thread t e, ne_eqb line x.line (λ f. none x (first_in x xs) e (sym f))) refl
      | inr other ↦ rw (ne_eqb x.thread t other) refl
    ] in
    omega arith

pub weigh_zero : (w : Way → Bool) (t : ℕ) (xs : List Played) (ms : List Move) →
    ((m : Move) (x : Played) → Contains ms m → Contains xs x → w m.way ≡ true → x.thread ≡ t → x.line ≡ m.line → ⊥) →
    weigh w t xs ms ≡ 0
weigh_zero w t xs [] none = refl
weigh_zero w t xs (m ∷ ms) none =
    let a = weigh_cons w t xs m ms in
    let ih = weigh_zero w t xs ms (λ n x among. none n x (later_in m n ms among)) in
    let here : cond {A = ℕ} (w m.way) (mine t xs m.line) 0 ≡ 0 = elim (cases_Bool (w m.way)) [
      | inl hit ↦ rw hit (mine_none t xs m.line (λ x among. none m x (first_in m ms) among hit))
      | inr miss ↦ rw miss refl
    ] in
    omega arith

-- a record's line is one record's
pub mine_one : (t : ℕ) (xs : List Played) (x : Played) → AllPairs OtherRecord xs → Contains xs x →
    mine t xs x.line ≡ cond {A = ℕ} (x.thread == t) 1 0
mine_one t [] x h among = absurd (not_in_none x among)
mine_one t (y ∷ ys) x h among =
    let a = mine_cons t y ys x.line in
    elim (in_cases y x ys among) [
      | inl e ↦
          let line : x.line ≡ y.line = ap (λ (z : Played). z.line) (sym e) in
          let rest = mine_none t ys x.line (λ z member same is. pairs_head OtherRecord y z ys h member (sym line ∙ sym is)) in
          let here : cond {A = ℕ} ((y.thread == t) && (x.line == y.line)) 1 0 ≡ cond {A = ℕ} (y.thread == t) 1 0 =
          rw (eq-eqb x.line y.line line) (elim (cases_Bool (y.thread == t)) [ inl hit ↦ rw hit refl | inr miss ↦ rw miss refl ]) in
          let same : cond {A = ℕ} (y.thread == t) 1 0 ≡ cond {A = ℕ} (x.thread == t) 1 0 =
          ap (λ (z : Played). cond {A = ℕ} (z.thread == t) 1 0) e in
          omega arith
      | inr later ↦
          let ih = mine_one t ys x (pairs_tail OtherRecord y ys h) later in
          let none : cond {A = ℕ} ((y.thread == t) && (x.line == y.line)) 1 0 ≡ 0 =
          rw (ne_eqb x.line y.line (λ e. pairs_head OtherRecord y x ys h later (sym e)))
          (elim (cases_Bool (y.thread == t)) [ inl hit ↦ rw hit refl | inr miss ↦ rw miss refl ]) in
          omega arith
    ]
