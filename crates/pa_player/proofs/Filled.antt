-- An allocation that fills its list first.
use Rattle.std.proofs.Common.{◌≡◌, ℕ, ◌+◌, ◌<◌, ◌≤◌, List, [], ◌++◌, length, Option, Some, None, refl, sym, ap, ◌∙◌, subst, arith}
use Rattle.std.specs.Prelude.{Contains, AllPairs, ◌≢◌}
use Rattle.std.proofs.lemmas.List.{append-nil}
use Rattle.pa_slot.specs.declared.title.Title.{Title}
use Rattle.pa_buckets.specs.Table.{rows, row_of, slot_of}
use Rattle.pa_buckets.specs.Bands.{fill_of, limit_of}
use Rattle.pa_buckets.proofs.Tests.{at_most_below}
use Rattle.pa_record.specs.declared.numbered.Numbered.{Numbered}
use Rattle.pa_record.specs.declared.pool.PoolEntry.{PoolEntry}
use Rattle.pa_record.specs.declared.root.RootAct.TheVariants.{Fill}
use Rattle.pa_record.specs.Pool.{PoolState}
use Rattle.pa_record.specs.Spans.{name_of}
use Rattle.pa_record.specs.Root.{Root, Filled, names, takes, opened}
use Rattle.pa_record.specs.Sound.{IsSound, IsBornBelow}
use Rattle.pa_record.specs.Steps.{IsFilled as IsTaken}
use Rattle.pa_lists.proofs.Members.{not_in_none}
use Rattle.pa_lists.proofs.Joined.{map_cases, map_in}
use Rattle.pa_lists.proofs.Pairs.{pairs_none}
use Rattle.pa_record.proofs.Filling.{takes_filled, opened_sound}
use Rattle.pa_rules.specs.Holders.{Out, Move, move_of}
use Rattle.pa_place.specs.Placed.{Fills}
use Rattle.pa_heap_effects.specs.Ops.{asked_for}
use Rattle.pa_player.specs.Player.{Player}
use Rattle.pa_player.specs.Changes.{asked_in}
use Rattle.pa_player.proofs.Leaving.{LetsOut}

-- what a fill took, and its root
pub record IsFillOf (class want : ℕ) (r after : Root) (titles : List Title) : Type 0 where
  pub len : (t : Title) → Contains titles t → t.len ≡ slot_of class
  pub many : length titles ≤ want
  pub maps : after.maps ≡ r.maps
  pub turn : after.turn ≤ r.turn + want
  pub differ : AllPairs (λ (t : Title) (u : Title). name_of t ≢ name_of u) titles

taken_is : (class want : ℕ) (r from after : Root) (titles : List Title) → from.maps ≡ r.maps → from.turn ≡ r.turn →
    IsTaken class want from (takes class want from)
    → record { root = after; titles = titles } ≡ takes class want from → IsFillOf class want r after titles
taken_is class want r from after titles maps turn taken is =
    let ts : titles ≡ (takes class want from).titles = ap (λ (f : Filled). f.titles) is in
    let root : after ≡ (takes class want from).root = ap (λ (f : Filled). f.root) is in
    record {
      len = λ t among. taken.len t (subst (λ zs. Contains zs t) ts among);
      many = let a = taken.many in let e : length titles ≡ length (takes class want from).titles = ap length ts in omega arith;
      maps = ap (λ (z : Root). z.maps) root ∙ taken.maps ∙ maps;
      turn = let a = taken.turn in let e : after.turn ≡ (takes class want from).root.turn = ap (λ (z : Root). z.turn) root in omega arith;
      differ = subst (λ zs. AllPairs (λ (t : Title) (u : Title). name_of t ≢ name_of u) zs) (sym ts) taken.differ;
    }

pub fill_of_root : (class want : ℕ) (before next : PoolState) (r after : Root) (titles : List Title) (o : Option ℕ) → IsSound r →
    IsBornBelow before.entries r → class < 170
    → Fills class want before next r (record { root = after; titles = titles }) o → IsFillOf class want r after titles
fill_of_root class want before next r after titles None sound born real (some, same, is) =
    taken_is class want r r after titles refl refl (takes_filled class want r sound real) is
fill_of_root class want before next r after titles (Some entry) sound born real (no_span, None, ask, is) =
    let ts : titles ≡ [] = ap (λ (f : Filled). f.titles) is in
    let root : after ≡ r = ap (λ (f : Filled). f.root) is in
    record {
      len = λ t among. absurd (not_in_none t (subst (λ zs. Contains zs t) ts among));
      many = let e : length titles ≡ 0 = ap length ts in omega arith;
      maps = ap (λ (z : Root). z.maps) root;
      turn = let e : after.turn ≡ r.turn = ap (λ (z : Root). z.turn) root in omega arith;
      differ = subst (λ zs. AllPairs (λ (t : Title) (u : Title). name_of t ≢ name_of u) zs) (sym ts)
          (pairs_none (λ (t : Title) (u : Title). name_of t ≢ name_of u));
    }
fill_of_root class want before next r after titles (Some entry) sound born real (no_span, Some first, ask, is) =
    taken_is class want r (opened first entry r) after titles refl refl
    (takes_filled class want (opened first entry r)
    (opened_sound first entry r sound (subst (λ k. IsBornBelow k r) (sym ask.entry) born)) real) is

-- the entry that a call made of the pool, if it asked, comes after the pool's entries so far
pub asked_told : (q count : ℕ) (titles : List Title) (o : Option ℕ) (p : Player)
    → asked_in q count titles o p ≡ record p { told = record p.told { pools = p.told.pools ++ asked_for p.told.line q count titles o } }
asked_told q count titles None p =
    ap (λ (zs : List PoolEntry). record p { told = record p.told { pools = zs } }) (sym (append-nil p.told.pools))
asked_told q count titles (Some entry) p = refl

-- a fill lets its slots out
pub fill_lets : (class : ℕ) (asked : Option ℕ) (xs : List Numbered) → LetsOut (Fill class asked xs) (names xs)
fill_lets class asked xs = record {
  moves = λ line m among.
      let (n, member, is) = map_cases (move_of line Out) xs m among in (
        sym (ap (λ (z : Move). z.way) is),
        subst (λ s. Contains (names xs) s) (ap (λ (z : Move). z.slot) is) (map_in (λ (z : Numbered). z.slot) xs n member),
      );
  each = λ line s among.
      let (n, member, is) = map_cases (λ (z : Numbered). z.slot) xs s among in
      (move_of line Out n, map_in (move_of line Out) xs n member, is);
}

-- what a fill gives and one of them leaves fits its list
pub fill_within : (class : ℕ) → class < 170 → fill_of class ≤ limit_of class + 1
unfolding rows row_of fill_of limit_of
fill_within class real = at_most_below fill_of (λ c. limit_of c + 1) 170 refl class real
