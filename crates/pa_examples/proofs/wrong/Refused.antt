-- The run with a journal that names a missing entry of the pool fails at the first line that does so.
use Rattle.std.proofs.Common.{◌≡◌, ℕ, zero, suc, ◌<◌, true, List, [], ◌∷◌, Some, length, refl, sym, ◌∙◌, ap, subst, arith, lit<, lit≤}
use Rattle.std.specs.Prelude.{slice_get}
use Rattle.pa_buckets.specs.Table.{rows, row_of, slot_of, pages_of, slots_of}
use Rattle.pa_buckets.specs.Bands.{fill_of}
use Rattle.pa_buckets.specs.Classes.{IsClassOf}
use Rattle.pa_trace.specs.declared.script.Op.TheVariants as ops
use Rattle.pa_record.specs.declared.entry.Answer.TheVariants as answers
use Rattle.pa_record.specs.declared.root.RootEntry.{RootEntry}
use Rattle.pa_record.specs.declared.run.Run.{Run}
use Rattle.pa_record.specs.Worked.{slots, fill, full, pool_take}
use Rattle.pa_record.specs.Pool.{IsPool, new_pool}
use Rattle.pa_record.specs.Root.{new_root, asked_by}
use Rattle.pa_lists.proofs.Members.{of_some, not_some}
use Rattle.pa_record.proofs.Tested.{all_fit, all_fit-true, pool_all_fit-true}
use Rattle.pa_rules.specs.declared.played.Played.{Played}
use Rattle.pa_rules.specs.declared.verdict.Clause.TheVariants as clauses
use Rattle.pa_rules.specs.declared.verdict.Place.{Place}
use Rattle.pa_rules.specs.declared.verdict.Place.TheVariants as places
use Rattle.pa_rules.specs.Told.{Told, told_by, records_of}
use Rattle.pa_rules.specs.Places.{line_at}
use Rattle.pa_rules.specs.Roots.{Names}
use Rattle.pa_rules.specs.HeapDemands.{PoolEntryFits, EntryFits}
use Rattle.pa_rules.specs.Verdicts.{Demand}
use Rattle.pa_verdict.specs.Clauses.{IsMet}
use Rattle.pa_examples.specs.WrongRuns.{first_slots, refused_trace, refused_told, RefusedFails}
use Rattle.pa_lists.proofs.Indexed.{shown}
use Rattle.pa_examples.specs.Worked.{seen_at, of_one}
use Rattle.pa_lists.proofs.Tests.{greater_apart}

abbrev ps : List Played
ps = records_of refused_trace refused_told

abbrev filled : RootEntry
filled = fill 2 0 (Some 0) (slots 0 0 first_slots)

abbrev refused : RootEntry
refused = full 2 (Some 0) 7

is_pool : IsPool 1 refused_told.pools
is_pool = pool_all_fit-true refused_told.pools refused_told.pools (new_pool 1) refl

-- only the fill names the pool's entry
not_seven : (e : RootEntry) → Some refused ≡ Some e → asked_by e.act ≡ Some 0 → ⊥
not_seven e at asks =
    let seven : Some 7 ≡ Some 0 = ap (λ (z : RootEntry). asked_by z.act) (of_some refused e at) ∙ asks in
    greater_apart 7 0 (lit< tt) (of_some 7 0 seven)

names_first : (p i : ℕ) → Names refused_told.roots p i 0 → (p ≡ 0) × (i ≡ 0)
names_first zero zero names = (refl, refl)
names_first zero (suc zero) (e, at, asks) = absurd (not_seven e at asks)
names_first zero (suc (suc zero)) (e, at, asks) = absurd (not_seven e at asks)
names_first zero (suc (suc (suc i))) (e, at, asks) = absurd (not_some e at)
names_first (suc p) i (e, at, asks) = absurd (not_some e at)

taken_fits : PoolEntryFits 1 ps refused_told.pools refused_told.roots 0 (pool_take 2 0 1 (Some 0))
taken_fits = record {
  fits = is_pool.0;
  named = (0, filled, refl, refl, refl);
  once = λ p q i k first second.
      let (a, b) = names_first p i first in
      let (c, d) = names_first q k second in
      (a ∙ sym c, b ∙ sym d);
  order = λ i m n x y at at' less. absurd (omega arith);
}

pool_met : IsMet clauses.Pool refused_trace refused_told
pool_met (places.Pool zero) =
    λ e at. shown (PoolEntryFits 1 ps refused_told.pools refused_told.roots 0) (pool_take 2 0 1 (Some 0)) e taken_fits at
pool_met (places.Pool (suc j)) = λ e at. absurd (not_some e at)
pool_met (places.Record i) = tt
pool_met (places.Root p j) = tt
pool_met (places.Cell k j) = tt
pool_met (places.Report i) = tt

refused_unmet : Demand clauses.Roots refused_trace refused_told (places.Root 0 1) → ⊥
refused_unmet h = not_some _ (h refused refl).fits.1

-- ---- the fill before it

fill_fits : all_fit refused_told.pools (filled ∷ []) new_root ≡ true
unfolding rows row_of slot_of pages_of slots_of fill_of
fill_fits = refl

class_0 : IsClassOf 9 0
unfolding rows row_of slot_of
class_0 = record { from = lit≤ tt; real = lit< tt; fits = lit≤ tt; least = λ d from below. absurd (omega arith) }

filled_fits : EntryFits 1 ps refused_told.pools refused_told.roots 0 0 filled
filled_fits = record {
  partition = lit< tt;
  fits = (all_fit-true refused_told.pools (filled ∷ []) new_root fill_fits).0;
  rises = λ i a b f at less. absurd (omega arith);
  line = (_, ((0, lit< tt, refl), refl), (0, 1, refl, class_0));
  order = λ i m n x y at at' less. absurd (omega arith);
}

abbrev NotFull : Played → Type 0
NotFull x = (j : ℕ) → x.answer ≡ answers.Full j → ⊥

not_full : (i : ℕ) (x : Played) → slice_get ps i ≡ Some x → NotFull x
not_full zero x at = shown NotFull
    (record of_one { line = 2; thread = 0; phase = 1; op = ops.Alloc 0 0 1; answer = answers.Made (seen_at 16384 0 0) 8 }) x
    (λ j e. absurd cc) at
not_full (suc zero) x at =
    shown NotFull (record of_one { line = 3; thread = 0; phase = 1; op = ops.Free 0; answer = answers.Done (seen_at 16384 0 0x1000001) }) x
    (λ j e. absurd cc) at
not_full (suc (suc i)) x at = absurd (not_some x at)

roots_met : (r : Run) (other : Place) → told_by r ≡ refused_told → line_at r other < 5 →
    Demand clauses.Roots refused_trace refused_told other
roots_met r (places.Record i) tells less = λ x j reg p size at is op. absurd (not_full i x at j is)
roots_met r (places.Root zero zero) tells less =
    λ e at. shown (EntryFits 1 ps refused_told.pools refused_told.roots 0 0) filled e filled_fits at
roots_met r (places.Root zero (suc j)) tells less =
    let two : length r.entries.items ≡ 2 = ap (λ (u : Told). length u.entries) tells in
    absurd (omega arith)
roots_met r (places.Root (suc p) j) tells less = λ e at. absurd (not_some e at)
roots_met r (places.Pool j) tells less = tt
roots_met r (places.Cell k j) tells less = tt
roots_met r (places.Report i) tells less = tt

refused_line : (r : Run) → told_by r ≡ refused_told → 5 ≡ line_at r (places.Root 0 1)
refused_line r tells = let two : length r.entries.items ≡ 2 = ap (λ (u : Told). length u.entries) tells in omega arith

pub refused_fails : RefusedFails
refused_fails r tells = (
  λ place. subst (λ u. Demand clauses.Pool refused_trace u place) (sym tells) (pool_met place),
  record {
    place = places.Root 0 1;
    line = refused_line r tells;
    unmet = λ h. refused_unmet (subst (λ u. Demand clauses.Roots refused_trace u (places.Root 0 1)) tells h);
    before = λ other less. subst (λ u. Demand clauses.Roots refused_trace u other) (sym tells) (roots_met r other tells less);
  },
)
