-- The wrong runs that were worked out fail where they do.
use Rattle.std.proofs.Common.{◌≡◌, ℕ, zero, suc, ◌+◌, ◌<◌, max, [], ◌∷◌, refl, sym, subst, arith, inl, inr, lit<, lit≤}
use Rattle.pa_buckets.specs.Classes.{IsClassOf}
use Rattle.pa_buckets.proofs.Facts.{IsRow_1-of}
use Rattle.pa_trace.specs.declared.script.Op.TheVariants as ops
use Rattle.pa_record.specs.declared.entry.Answer.TheVariants as answers
use Rattle.pa_record.specs.declared.root.RootAct.{RootAct}
use Rattle.pa_record.specs.declared.root.RootAct.TheVariants.{Map}
use Rattle.pa_record.specs.declared.run.Run.{Run}
use Rattle.pa_rules.specs.declared.played.Played.{Played}
use Rattle.pa_rules.specs.declared.verdict.Clause.TheVariants as clauses
use Rattle.pa_rules.specs.declared.verdict.Place.{Place}
use Rattle.pa_rules.specs.declared.verdict.Place.TheVariants as places
use Rattle.pa_rules.specs.Places.{line_at}
use Rattle.pa_rules.specs.Roots.{AsksForMap}
use Rattle.pa_rules.specs.Caches.{Cache, Caches, CacheRow, CachesTo, acts_of, no_caches, with_cache}
use Rattle.pa_rules.specs.Verdicts.{Demand}
use Rattle.pa_examples.specs.WrongRuns.{maps_trace, maps_told, MapsFail}
use Rattle.pa_lists.proofs.Indexed.{shown}
use Rattle.pa_examples.specs.Worked.{seen_at, of_one}

-- ---- the direct map that is said to come again

abbrev map_record : Played
map_record = record of_one {
  line = 2;
  thread = 0;
  phase = 1;
  op = ops.Alloc 0 0 2000000;
  answer = answers.Made (seen_at 16384 0 0) 2002936;
}

abbrev free_record : Played
free_record = record of_one { line = 3; thread = 0; phase = 1; op = ops.Free 0; answer = answers.Done (seen_at 16384 0 0x1000001) }

abbrev again_record : Played
again_record = record of_one {
  line = 4;
  thread = 0;
  phase = 1;
  op = ops.Alloc 0 0 2000000;
  answer = answers.Made (seen_at 16384 0 0x2000000) 2002936;
}

direct : AsksForMap map_record 0 2000000
direct = (0, refl, (lit< tt, lit≤ tt))

no_other : (line q : ℕ) → (q ≡ 0 → ⊥) → acts_of maps_told.roots line q ≡ []
no_other line zero ne = absurd (ne refl)
no_other line (suc q) ne = refl

map_row : CacheRow 1 maps_told.roots map_record map_record.answer (no_caches 0) (no_caches 0)
map_row = inr (0, 2000000, 0, 2002944, direct, (refl, no_other 2), λ p c. refl)

free_row : CacheRow 1 maps_told.roots free_record free_record.answer (no_caches 0) (no_caches 0)
free_row = inl ((refl, refl), inr (0, 1, 4, (_, 0, 2002944, (0, lit< tt, refl), refl), (refl, no_other 3), λ p c. refl))

none_again : (p : ℕ) (act : RootAct) → acts_of maps_told.roots 4 p ≡ act ∷ [] → ⊥
none_again zero act e = absurd cc
none_again (suc p) act e = absurd cc

not_of_class : (size class : ℕ) → 2000000 ≡ size → IsClassOf (max size 1 + 8) class → ⊥
not_of_class size class same h =
    let most = (IsRow_1-of class h.real).greatest_slot in
    let fits = h.fits in
    omega arith

again_unmet : Demand clauses.Caches maps_trace maps_told (places.Record 2) → ⊥
again_unmet h =
    let (all, next, to, row) = h again_record refl in
    elim row [
      | inl (p, class, xs, rest, (reg, size, op, of), filled, front, after) ↦
          let asks : ops.Alloc 0 0 2000000 ≡ ops.Alloc reg p size = op in
          let same : 2000000 ≡ size = cc in
          not_of_class size class same of
      | inr (p, size, asked, len, asks, (acts, others), same) ↦ none_again p (Map asked (seen_at 16384 0 0x2000000).slot len) acts
    ]

maps_met : (r : Run) (other : Place) → line_at r other < 4 → Demand clauses.Caches maps_trace maps_told other
maps_met r (places.Record zero) less = λ x at.
    shown (λ (z : Played). (all : Caches) × (next : Cache) × CachesTo 1 maps_told.roots no_caches [] all ×
    CacheRow 1 maps_told.roots z z.answer (all z.thread) next)
    map_record x (no_caches, no_caches 0, refl, map_row) at
maps_met r (places.Record (suc zero)) less = λ x at.
    shown (λ (z : Played). (all : Caches) × (next : Cache) × CachesTo 1 maps_told.roots no_caches (map_record ∷ []) all ×
    CacheRow 1 maps_told.roots z z.answer (all z.thread) next)
    free_record x (with_cache no_caches 0 (no_caches 0), no_caches 0, (no_caches 0, map_row, refl), free_row) at
maps_met r (places.Record (suc (suc i))) less = absurd (omega arith)
maps_met r (places.Root p j) less = tt
maps_met r (places.Pool j) less = tt
maps_met r (places.Cell k j) less = tt
maps_met r (places.Report i) less = tt

pub maps_fail : MapsFail
maps_fail r tells = record {
  place = places.Record 2;
  line = refl;
  unmet = λ h. again_unmet (subst (λ u. Demand clauses.Caches maps_trace u (places.Record 2)) tells h);
  before = λ other less. subst (λ u. Demand clauses.Caches maps_trace u other) (sym tells) (maps_met r other less);
}
