-- The ways of a slot at a number: how some entries of a journal take it out of the root and put it back, and whether it is away after them.
use Rattle.std.proofs.Common.{◌≡◌, ℕ, zero, suc, ◌+◌, ◌<◌, Bool, true, false, not, ◌&&◌, cond, List, [], ◌∷◌, ◌++◌, map, filter, flat_map, take, drop, length, refl, sym, ◌∙◌, ap, subst, arith, inl, inr}
use Rattle.std.specs.Prelude.{Contains, ◌==◌}
use Rattle.std.proofs.lemmas.Bool.{cases_Bool, both_ways, eq-eqb, ne_eqb}
use Rattle.std.proofs.lemmas.List.{append_assoc, map-append}
use Rattle.std.proofs.lemmas.List.Elements.{filter-append}
use Rattle.pa_slot.specs.declared.word.SlotName.{SlotName}
use Rattle.pa_slot.specs.Run.{same_slot}
use Rattle.pa_slot.proofs.Runs.{same_slot_cases, same_slot_yes, same_slot_no}
use Rattle.pa_record.specs.declared.numbered.Numbered.{Numbered}
use Rattle.pa_record.specs.declared.root.RootEntry.{RootEntry}
use Rattle.pa_record.specs.declared.root.RootAct.{RootAct}
use Rattle.pa_record.specs.declared.root.RootAct.TheVariants.{Fill, Map, Full, Give, Unmap, Purge}
use Rattle.pa_lists.proofs.Members.{not_in_none, first_in, later_in, in_cases}
use Rattle.pa_rules.specs.declared.played.Played.{Played}
use Rattle.pa_rules.specs.Caches.{batches, gives, purge_acts}
use Rattle.pa_rules.specs.Holders.{Holder, Way, Out, Back, Move, move_of, moves_by, is_move_of, moves_at, IsFirstHolder, made_by, MovesFit, HasHolders}
pub use Rattle.pa_legal.specs.Turns.{is_out, is_with}
use Rattle.pa_legal.proofs.holders.Held.{needed_way, made_way}
use Rattle.pa_lists.proofs.Elements.{take_in, drop_in}

-- the slot and the number are those of the numbered slot
abbrev pub hits : SlotName → ℕ → Numbered → Bool
hits s k n = same_slot n.slot s && (n.number == k)

abbrev pub ways_in : Way → SlotName → ℕ → List Numbered → List Way
ways_in w s k [] = []
ways_in w s k (n ∷ ns) = cond (hits s k n) (w ∷ ways_in w s k ns) (ways_in w s k ns)

abbrev pub ways_by : SlotName → ℕ → RootAct → List Way
ways_by s k (Fill class asked slots) = ways_in Out s k slots
ways_by s k (Map asked slot len) = ways_in Out s k (record { slot = slot; number = 0 } ∷ [])
ways_by s k (Full class asked) = []
ways_by s k (Give slots) = ways_in Back s k slots
ways_by s k (Unmap asked slot) = ways_in Back s k (slot ∷ [])
ways_by s k Purge = []

abbrev pub ways_of : SlotName → ℕ → List RootAct → List Way
ways_of s k [] = []
ways_of s k (a ∷ acts) = ways_by s k a ++ ways_of s k acts

-- whether a slot is away from the root after these ways, if it was so before them
abbrev pub away_after : Bool → List Way → Bool
away_after b [] = b
away_after b (w ∷ ws) = away_after (is_out w) ws

-- the test whether these entries leave the slot out of the root at the number, if it was there at 0 alone before them
abbrev pub is_away : List RootAct → SlotName → ℕ → Bool
is_away acts s k = away_after (not (k == 0)) (ways_of s k acts)

-- each way finds the slot in the root or away, as it needs it
abbrev pub WaysFit : Bool → List Way → Type 0
WaysFit b [] = Unit {0}
WaysFit b (w ∷ ws) = (b ≡ not (is_out w)) × WaysFit (is_out w) ws

-- ---- lists of ways

pub ways_append : (s : SlotName) (k : ℕ) (a b : List RootAct) → ways_of s k (a ++ b) ≡ ways_of s k a ++ ways_of s k b
ways_append s k [] b = refl
ways_append s k (x ∷ a) b = ap (λ ws. ways_by s k x ++ ws) (ways_append s k a b) ∙
    sym (append_assoc (ways_by s k x) (ways_of s k a) (ways_of s k b))

pub away_append : (b : Bool) (ws vs : List Way) → away_after b (ws ++ vs) ≡ away_after (away_after b ws) vs
away_append b [] vs = refl
away_append b (w ∷ ws) vs = away_append (is_out w) ws vs

-- ways that fit go on from where the first of them left the slot
pub fit_later : (b : Bool) (ws vs : List Way) → WaysFit b (ws ++ vs) → WaysFit (away_after b ws) vs
fit_later b [] vs fit = fit
fit_later b (w ∷ ws) vs fit = fit_later (is_out w) ws vs fit.1

hits_none : (s : SlotName) (k : ℕ) (n : Numbered) → (n.slot ≡ s → n.number ≡ k → ⊥) → hits s k n ≡ false
hits_none s k n none = elim (same_slot_cases n.slot s) [
  | inl same ↦ rw (same_slot_yes n.slot s same, ne_eqb n.number k (none same)) refl
  | inr other ↦ rw (same_slot_no n.slot s other) refl
]

hits_here : (s : SlotName) (k : ℕ) (n : Numbered) → n.slot ≡ s → n.number ≡ k → hits s k n ≡ true
hits_here s k n same number = rw (same_slot_yes n.slot s same, eq-eqb n.number k number) refl

pub ways_in_none : (w : Way) (s : SlotName) (k : ℕ) (ns : List Numbered) →
    ((n : Numbered) → Contains ns n → n.slot ≡ s → n.number ≡ k → ⊥) → ways_in w s k ns ≡ []
ways_in_none w s k [] none = refl
ways_in_none w s k (n ∷ ns) none =
    rw (hits_none s k n (none n (first_in n ns))) (ways_in_none w s k ns (λ m among. none m (later_in n m ns among)))

-- a list that has the slot at the number has its way first
pub ways_in_some : (w : Way) (s : SlotName) (k : ℕ) (ns : List Numbered) (n : Numbered) → Contains ns n → n.slot ≡ s → n.number ≡ k →
    (vs : List Way) × (ways_in w s k ns ≡ w ∷ vs)
ways_in_some w s k [] n among same number = absurd (not_in_none n among)
ways_in_some w s k (m ∷ ns) n among same number = elim (cases_Bool (hits s k m)) [
  | inl hit ↦ (ways_in w s k ns, rw hit refl)
  | inr miss ↦ elim (in_cases m n ns among) [
    | inl here ↦ absurd (both_ways _ miss (subst (λ z. hits s k z ≡ true) (sym here) (hits_here s k n same number)))
    | inr rest ↦ let (vs, is) = ways_in_some w s k ns n rest same number in (vs, rw miss is)
  ]
]

-- the slot is away after a list of ways out
pub out_away : (b : Bool) (s : SlotName) (k : ℕ) (ns : List Numbered) → b ≡ true → away_after b (ways_in Out s k ns) ≡ true
out_away b s k [] is = is
out_away b s k (n ∷ ns) is = elim (cases_Bool (hits s k n)) [
  | inl hit ↦ rw hit (out_away true s k ns refl)
  | inr miss ↦ rw miss (out_away b s k ns is)
]

-- ---- gives

both_none : (ws vs : List Way) → ws ≡ [] → vs ≡ [] → ws ++ vs ≡ []
both_none ws vs e f = rw (e, f) refl

batches_none : (s : SlotName) (k fuel : ℕ) (ns : List Numbered) → ((n : Numbered) → Contains ns n → n.slot ≡ s → n.number ≡ k → ⊥) →
    ways_of s k (batches fuel ns) ≡ []
batches_none s k zero ns none = refl
batches_none s k (suc fuel) [] none = refl
batches_none s k (suc fuel) (n ∷ ns) none =
    both_none (ways_in Back s k (take 16 (n ∷ ns))) (ways_of s k (batches fuel (drop 16 (n ∷ ns))))
    (ways_in_none Back s k (take 16 (n ∷ ns)) (λ m among. none m (take_in 16 (n ∷ ns) m among)))
    (batches_none s k fuel (drop 16 (n ∷ ns)) (λ m among. none m (drop_in 16 (n ∷ ns) m among)))

-- what is given back has no way if the lists don't have the slot at the number
pub gives_none : (s : SlotName) (k : ℕ) (ns : List Numbered) → ((n : Numbered) → Contains ns n → n.slot ≡ s → n.number ≡ k → ⊥) →
    ways_of s k (gives ns) ≡ []
gives_none s k ns none = batches_none s k (length ns) ns none

pub purge_none : (s : SlotName) (k : ℕ) (lists : ℕ → List Numbered) (class many : ℕ) →
    ((c : ℕ) (n : Numbered) → c < class + many → Contains (lists c) n → n.slot ≡ s → n.number ≡ k → ⊥) →
    ways_of s k (purge_acts lists class many) ≡ []
purge_none s k lists class zero none = refl
purge_none s k lists class (suc many) none =
    ways_append s k (gives (lists class)) (purge_acts lists (class + 1) many)
    ∙ both_none (ways_of s k (gives (lists class))) (ways_of s k (purge_acts lists (class + 1) many))
    (gives_none s k (lists class) (λ n among. none class n (omega arith) among))
    (purge_none s k lists (class + 1) many (λ c n below among. none c n (omega arith) among))

-- ---- the moves of a journal

abbrev pub way_at : Move → Way
way_at m = m.way

slots_moves : (line : ℕ) (w : Way) (s : SlotName) (k : ℕ) (ns : List Numbered) →
    map way_at (filter (is_move_of s k) (map (move_of line w) ns)) ≡ ways_in w s k ns
slots_moves line w s k [] = refl
slots_moves line w s k (n ∷ ns) = elim (cases_Bool (hits s k n)) [
  | inl hit ↦ rw hit (ap (λ vs. w ∷ vs) (slots_moves line w s k ns))
  | inr miss ↦ rw miss (slots_moves line w s k ns)
]

act_moves : (line : ℕ) (s : SlotName) (k : ℕ) (act : RootAct) → map way_at (filter (is_move_of s k) (moves_by line act)) ≡ ways_by s k act
act_moves line s k (Fill class asked slots) = slots_moves line Out s k slots
act_moves line s k (Map asked slot len) = slots_moves line Out s k (record { slot = slot; number = 0 } ∷ [])
act_moves line s k (Full class asked) = refl
act_moves line s k (Give slots) = slots_moves line Back s k slots
act_moves line s k (Unmap asked slot) = slots_moves line Back s k (slot ∷ [])
act_moves line s k Purge = refl

pub moves_ways : (journal : List RootEntry) (s : SlotName) (k : ℕ) →
    map way_at (moves_at journal s k) ≡ ways_of s k (map (λ (e : RootEntry). e.act) journal)
moves_ways [] s k = refl
moves_ways (e ∷ es) s k =
    let here = moves_by e.line e.act in
    let rest = flat_map (λ (f : RootEntry). moves_by f.line f.act) es in
    ap (map way_at) (filter-append (is_move_of s k) here rest)
    ∙ map-append way_at (filter (is_move_of s k) here) (filter (is_move_of s k) rest)
    ∙ ap (λ vs. vs ++ map way_at (filter (is_move_of s k) rest)) (act_moves e.line s k e.act)
    ∙ ap (λ vs. ways_by s k e.act ++ vs) (moves_ways es s k)

moves_fit : (ps : List Played) (h : Holder) (b : Bool) (ms : List Move) → is_with h ≡ b → MovesFit ps h ms → WaysFit b (map way_at ms)
moves_fit ps h b [] is fit = tt
moves_fit ps h b (m ∷ ms) is (x, line, need, rest) =
    (sym is ∙ ap is_with need ∙ needed_way m.way x, moves_fit ps (made_by m.way x) (is_out m.way) ms (made_way m.way x) rest)

first_with : (ps : List Played) (s : SlotName) (k : ℕ) (h : Holder) → IsFirstHolder ps s k h → is_with h ≡ not (k == 0)
first_with ps s k h (inl (none, root)) = rw (root, eq-eqb k 0 none) refl
first_with ps s k h (inr (x, (among, m, step, marked, slot, steps, returning, number), thread)) =
    rw (thread, ne_eqb k 0 (λ e. omega arith)) refl

-- the moves of a slot at a number fit, from the root at 0 and from a thread at another
pub holders_fit : (ps : List Played) (s : SlotName) (k : ℕ) (ms : List Move) → HasHolders ps s k ms → WaysFit (not (k == 0)) (map way_at ms)
holders_fit ps s k [] has = tt
holders_fit ps s k (m ∷ ms) (h, first, fit) = moves_fit ps h (not (k == 0)) (m ∷ ms) (first_with ps s k h first) fit
