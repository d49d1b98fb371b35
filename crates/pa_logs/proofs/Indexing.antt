-- An entry's index is the length of its list before it, and each entry of the pool is named once.
use Rattle.std.proofs.Common.{◌≡◌, ℕ, zero, suc, ◌<◌, Bool, true, false, ◌&&◌, List, [], ◌∷◌, ◌++◌, length, filter, map, slice_get, Some, refl, sym, ◌∙◌, ap, subst, arith, inl, inr, eqb, append_assoc}
use Rattle.std.specs.Prelude.{Contains}
use Rattle.std.proofs.lemmas.Bool.{cases_lt, cases_eq, eq-eqb, eqb-true}
use Rattle.std.proofs.lemmas.List.Elements.{filter-append}
use Rattle.pa_record.specs.declared.history.CellEntry.{CellEntry}
use Rattle.pa_record.specs.declared.root.RootEntry.{RootEntry}
use Rattle.pa_record.specs.declared.pool.PoolEntry.{PoolEntry}
use Rattle.pa_record.specs.Numbers.{root_numbers, pool_numbers}
use Rattle.pa_record.specs.Root.{asked_by}
use Rattle.pa_lists.proofs.Joined.{filter_cases, filter_in}
use Rattle.pa_lists.proofs.Members.{not_in_none, first_in, of_some}
use Rattle.pa_record.proofs.OneEntry.{one_root, one_pool}
use Rattle.pa_region.specs.declared.view.Made.{Made}
use Rattle.pa_region.specs.Lists.{entered_in}
use Rattle.pa_rules.specs.Cells.{IsExchange}
use Rattle.pa_rules.specs.Roots.{Journals, IsEntry, IsFull, Names}
use Rattle.pa_record.specs.declared.entry.Answer.TheVariants.{Swapped}
use Rattle.pa_logs.specs.Told.{ToldRecord}
use Rattle.pa_logs.specs.Listed.{first_of, line_of, is_on, IsJournalOf}
use Rattle.pa_logs.specs.Swaps.{SwapMade, is_of_cell, AreSwaps}
use Rattle.pa_logs.specs.Indices.{StandsAt, IsFullAt, IsSwapAt, Enters, asks, is_asked, AskedOnce, AreAsked, AreLists, IndicesFollow}
use Rattle.pa_logs.proofs.Filters.{get_in, map_one, place_at, only_one, one_place, filter_both}
use Rattle.pa_logs.proofs.Listing.{lines_have_theirs, on_line}
use Rattle.pa_logs.proofs.Orders.{place_in}
use Rattle.pa_lists.proofs.Indexed.{at_map, slice_get_at}
use Rattle.pa_lists.proofs.Options.{some_same}

-- what is at an index
stands_get : (list : List Made) (m : Made) (j : ℕ) → StandsAt list m j → slice_get list j ≡ Some m
stands_get list m j s =
    ap (λ l. slice_get l j) (s.begins ∙ append_assoc s.older (m ∷ []) s.rest)
    ∙ (ap (λ k. slice_get (s.older ++ m ∷ s.rest) k) (sym s.index_is) ∙ slice_get_at s.older s.rest m)

-- the journal's entry at the place of a list's
pub entry_there : {A : Type 0} (numbers : A → List ℕ) (list : List Made) (es : List A) (i : ℕ) (m : Made) →
    map (λ (n : Made). n.numbers) list ≡ map numbers es →
    slice_get list i ≡ Some m → (e : A) × (slice_get es i ≡ Some e) × (m.numbers ≡ numbers e)
entry_there numbers [] es i m same at_i = absurd cc
entry_there numbers (n ∷ list) [] i m same at_i = absurd cc
entry_there numbers (n ∷ list) (e ∷ es) zero m same at_i =
    let head : n.numbers ≡ numbers e = cc in
    (e, refl, ap (λ (z : Made). z.numbers) (sym (of_some n m at_i)) ∙ head)
entry_there numbers (n ∷ list) (e ∷ es) (suc i) m same at_i =
    let tail : map (λ (z : Made). z.numbers) list ≡ map numbers es = cc in
    entry_there numbers list es i m tail at_i

pub full : (p j : ℕ) (list : List Made) (roots : Journals) (x : ToldRecord) → IsJournalOf list (roots p) → IsFullAt list x j →
    (e : RootEntry) × IsEntry roots p j e × (e.line ≡ x.played.line) × IsFull e.act
full p j list roots x journal is =
    let (e, at_j, says) = entry_there root_numbers list (roots p) j is.made journal (stands_get list is.made j is.stands) in
    let one = one_root e is.entry (sym says ∙ is.says) in
    (is.entry, subst (λ f. slice_get (roots p) j ≡ Some f) one at_j, is.line, is.full)

-- an exchange in its cell's history
swap_at : (swaps : List SwapMade) (x : ToldRecord) (k : ℕ) (s : IsSwapAt swaps x k) →
    filter (is_of_cell k) swaps ≡ filter (is_of_cell k) s.older ++ s.swap ∷ filter (is_of_cell k) s.rest
swap_at swaps x k s =
    let mine : is_of_cell k s.swap ≡ true = eq-eqb s.swap.cell k s.cell in
    let here : filter (is_of_cell k) (s.swap ∷ s.rest) ≡ s.swap ∷ filter (is_of_cell k) s.rest = rw mine refl in
    ap (λ es. filter (is_of_cell k) es) (s.begins ∙ append_assoc s.older (s.swap ∷ []) s.rest)
    ∙ (filter-append (is_of_cell k) s.older (s.swap ∷ s.rest) ∙ ap (λ es. filter (is_of_cell k) s.older ++ es) here)

swapped : (list : List Made) (cells : ℕ → List CellEntry) (swaps : List SwapMade) (x : ToldRecord) (k : ℕ) → AreSwaps list cells swaps →
    IsSwapAt swaps x k →
    (j : ℕ) × (e : CellEntry) × (x.played.answer ≡ Swapped j) × IsExchange cells k j e × (e.line ≡ x.played.line)
swapped list cells swaps x k are s =
    let j = length (filter (is_of_cell k) s.older) in
    let at : slice_get (filter (is_of_cell k) swaps) j ≡ Some s.swap =
    ap (λ es. slice_get es j) (swap_at swaps x k s) ∙ slice_get_at (filter (is_of_cell k) s.older) (filter (is_of_cell k) s.rest) s.swap in
    let among = (filter_cases (is_of_cell k) swaps s.swap (get_in (filter (is_of_cell k) swaps) j s.swap at)).0 in (
      j,
      s.swap.entry,
      s.answer,
      ap (λ es. slice_get es j) (are.cells_are k) ∙ at_map (λ (e : SwapMade). e.entry) (filter (is_of_cell k) swaps) j s.swap at,
      sym (are.lines s.swap among) ∙ s.line,
    )

-- nothing is of nothing
map_none : {A B : Type 0} (f : A → B) (xs : List A) → map f xs ≡ [] → xs ≡ []
map_none f [] e = refl
map_none f (x ∷ xs) e = absurd cc

asks_some : (e : RootEntry) (j : ℕ) → asked_by e.act ≡ Some j → asks e ≡ true
asks_some e j named = ap is_asked named

-- the entry's line, and that it names one of the pool
abbrev asks_on : ℕ → RootEntry → Bool
asks_on line e = eqb e.line line && asks e

module _ (lists : ℕ → List Made) (pools : List PoolEntry) (roots : Journals) (ts : List ToldRecord)
    (are : AreLists lists pools roots ts) where
  -- the journal entries of a record's line are those that it entered
  of_line : (p : ℕ) → p < 4 → (x : ToldRecord) → Contains ts x → (it : Enters x) →
      filter (λ (e : RootEntry). eqb e.line x.played.line) (roots p) ≡ it.roots p
  of_line p small x among it =
      map_one root_numbers (filter (λ (e : RootEntry). eqb e.line x.played.line) (roots p)) (it.roots p) one_root
      (sym (on_line x.played.line (lists p) (roots p) (are.journals p small))
      ∙ (ap (λ ms. map (λ (m : Made). m.numbers) ms) (lines_have_theirs.theirs p (lists p) ts x (are.is p (omega arith)) are.rising among) ∙
      it.roots_are p small))

  asked_of_line : (p : ℕ) → p < 4 → (x : ToldRecord) → Contains ts x → (it : Enters x) →
      filter (asks_on x.played.line) (roots p) ≡ filter asks (it.roots p)
  asked_of_line p small x among it =
      sym (filter_both (λ (e : RootEntry). eqb e.line x.played.line) asks (roots p)) ∙
      ap (λ es. filter asks es) (of_line p small x among it)

  -- what a record that asked once made of the pool
  pool_is : (x : ToldRecord) (it : Enters x) (o : AskedOnce (lists 4) x it) → o.made.numbers ≡ pool_numbers o.pool
  pool_is x it o =
      let e : o.made.numbers ∷ [] ≡ pool_numbers o.pool ∷ [] =
      ap (λ ms. map (λ (m : Made). m.numbers) ms) (sym o.made_is) ∙ (it.pools_are ∙ ap (λ es. map pool_numbers es) o.pools) in cc

  -- it is at one place
  index_is : (x : ToldRecord) (it : Enters x) (o : AskedOnce (lists 4) x it) (j : ℕ) (m : Made) → Contains ts x →
      slice_get (lists 4) j ≡ Some m → Contains (entered_in 4 x.stretch) m → j ≡ o.index
  index_is x it o j m among at_j within =
      let is = are.is 4 (omega arith) in
      let theirs = lines_have_theirs.theirs 4 (lists 4) ts x is are.rising among ∙ o.made_is in
      let there = stands_get (lists 4) o.made o.index o.stands in
      let first = eq-eqb (line_of m) x.played.line (is.lines x m among within) in
      let second = eq-eqb (line_of o.made) x.played.line
      (is.lines x o.made among (subst (λ ms. Contains ms o.made) (sym o.made_is) (first_in o.made []))) in
      one_place (is_on x.played.line) (lists 4) o.made j o.index m o.made theirs at_j there first second

  module _ (asked : AreAsked (lists 4) ts) where
    named : (j : ℕ) (e : PoolEntry) → slice_get pools j ≡ Some e →
        (i : ℕ) × (f : RootEntry) × IsEntry roots e.partition i f × (asked_by f.act ≡ Some j) × (f.line ≡ e.line)
    named j e at_j =
        let is = are.is 4 (omega arith) in
        let (m, at_m, says) = place_in pool_numbers (lists 4) pools j e are.pool at_j in
        let (x, among, thread, within) = lines_have_theirs.each 4 (lists 4) ts m is (get_in (lists 4) j m at_m) in
        let (it, case) = asked x among in
        elim case [
          | inl n ↦
              let none = map_none (λ (z : Made). z.numbers) (entered_in 4 x.stretch)
              (it.pools_are ∙ ap (λ es. map pool_numbers es) n.pools) in
              absurd (not_in_none m (subst (λ ms. Contains ms m) none within))
          | inr o ↦
              let made : o.made ≡ m = only_one o.made m (subst (λ ms. Contains ms m) o.made_is within) in
              let pool : o.pool ≡ e = one_pool o.pool e (sym (pool_is x it o) ∙ (ap (λ (z : Made). z.numbers) made ∙ says)) in
              let index = index_is x it o j m among at_m within in
              let mine = subst (λ es. Contains es o.entry) (sym (asked_of_line o.pool.partition o.small x among it ∙ o.asked))
              (first_in o.entry []) in
              let (there, passes) = filter_cases (asks_on x.played.line) (roots o.pool.partition) o.entry mine in
              let (i, at_i) = place_at (roots o.pool.partition) o.entry there in
              let line : o.entry.line ≡ x.played.line =
              eqb-true o.entry.line x.played.line (first_true (eqb o.entry.line x.played.line) (asks o.entry) passes) in (
                i,
                o.entry,
                subst (λ (f : PoolEntry). slice_get (roots f.partition) i ≡ Some o.entry) pool at_i,
                o.names ∙ ap (λ n. Some n) (sym index),
                line ∙ (sym (is.lines x m among within) ∙ ap first_of says),
              )
        ]
      where
        first_true : (a b : Bool) → (a && b) ≡ true → a ≡ true
        first_true true b e = refl
        first_true false b e = absurd cc

    -- a journal entry that names one of the pool's is in its partition's journal, and of its line the one that names any
    record IsNamer (e : PoolEntry) (p i : ℕ) : Type 0 where
      of : p ≡ e.partition
      one : RootEntry
      alone : filter (asks_on e.line) (roots p) ≡ one ∷ []
      entry : RootEntry
      at : slice_get (roots p) i ≡ Some entry
      passes : asks_on e.line entry ≡ true

    namer : (j p i : ℕ) (e : PoolEntry) → slice_get pools j ≡ Some e → Names roots p i j → IsNamer e p i
    namer j p i e at_j (f, at_i, names) = elim (cases_lt p 4) [
      | inr high ↦ absurd (nothing_there (subst (λ es. slice_get es i ≡ Some f) (are.past p high) at_i))
      | inl small ↦
          let (m, at_m, says) = place_in root_numbers (lists p) (roots p) i f (are.journals p small) at_i in
          let is = are.is p (omega arith) in
          let (x, among, thread, within) = lines_have_theirs.each p (lists p) ts m is (get_in (lists p) i m at_m) in
          let line : f.line ≡ x.played.line = ap first_of (sym says) ∙ is.lines x m among within in
          let passes : asks_on x.played.line f ≡ true = both (eq-eqb f.line x.played.line line) (asks_some f j names) in
          let mine = filter_in (asks_on x.played.line) (roots p) f (get_in (roots p) i f at_i) passes in
          let (it, case) = asked x among in
          let same = asked_of_line p small x among it in
          elim case [
            | inl n ↦ absurd (not_in_none f (subst (λ es. Contains es f) (same ∙ n.roots p) mine))
            | inr o ↦ elim (cases_eq p o.pool.partition) [
              | inr apart ↦ absurd (not_in_none f (subst (λ es. Contains es f) (same ∙ o.others p apart) mine))
              | inl of ↦
                  let alone : filter (asks_on x.played.line) (roots p) ≡ o.entry ∷ [] = same ∙
                  (ap (λ q. filter asks (it.roots q)) of ∙ o.asked) in
                  let entry : o.entry ≡ f = only_one o.entry f (subst (λ es. Contains es f) alone mine) in
                  let index : o.index ≡ j = some_same o.index j (sym o.names ∙ (ap (λ (z : RootEntry). asked_by z.act) entry ∙ names)) in
                  let there = entry_there pool_numbers (lists 4) pools o.index o.made are.pool
                  (stands_get (lists 4) o.made o.index o.stands) in
                  let at : slice_get pools j ≡ Some there.0 = subst (λ n. slice_get pools n ≡ Some there.0) index there.1 in
                  let e_is : e ≡ there.0 = of_some e there.0 (sym at_j ∙ at) in
                  let pool : o.pool ≡ e = one_pool o.pool e (sym (pool_is x it o) ∙ (there.2 ∙ ap pool_numbers (sym e_is))) in
                  let on : x.played.line ≡ e.line =
                  sym ((are.is 4 (omega arith)).lines x o.made among
                  (subst (λ ms. Contains ms o.made) (sym o.made_is) (first_in o.made [])))
                  ∙ ap first_of (there.2 ∙ ap pool_numbers (sym e_is)) in
                  record {
                    of = of ∙ ap (λ (z : PoolEntry). z.partition) pool;
                    one = o.entry;
                    alone = subst (λ n. filter (asks_on n) (roots p) ≡ o.entry ∷ []) on alone;
                    entry = f;
                    at = at_i;
                    passes = subst (λ n. asks_on n f ≡ true) on passes;
                  }
            ]
          ]
    ]
      where
        nothing_there : slice_get [] i ≡ Some f → ⊥
        nothing_there e = absurd cc

        both : {a b : Bool} → a ≡ true → b ≡ true → (a && b) ≡ true
        both y z = rw (y, z) refl

    once : (j p q i k : ℕ) (e : PoolEntry) → slice_get pools j ≡ Some e → Names roots p i j → Names roots q k j → (p ≡ q) × (i ≡ k)
    once j p q i k e at_j first second =
        let a = namer j p i e at_j first in
        let b = namer j q k e at_j second in
        let same : p ≡ q = a.of ∙ sym b.of in (
          same,
          one_place (asks_on e.line) (roots p) a.one i k a.entry b.entry a.alone a.at
              (subst (λ n. slice_get (roots n) k ≡ Some b.entry) (sym same) b.at) a.passes b.passes,
        )

pub indices_follow : IndicesFollow
indices_follow = record {
  swapped = swapped;
  full = full;
  named = λ lists pools roots ts j e are asked at_j. named lists pools roots ts are asked j e at_j;
  once = λ lists pools roots ts j p q i k e are asked at_j first second. once lists pools roots ts are asked j p q i k e at_j first second;
}
