-- What records entered in the journal of the first root are entries that their ops make.
use Rattle.std.proofs.Common.{◌≡◌, ℕ, List, [], map, ◌∙◌, ap, subst}
use Rattle.std.specs.Prelude.{Contains}
use Rattle.std.specs.List.{AllByRecursion as Each}
use Rattle.pa_region.specs.declared.view.Made.{Made}
use Rattle.pa_region.specs.Lists.{entered_in}
use Rattle.pa_record.specs.declared.pool.PoolEntry.{PoolEntry}
use Rattle.pa_record.specs.declared.root.RootEntry.{RootEntry}
use Rattle.pa_record.specs.Numbers.{root_numbers}
use Rattle.pa_lists.proofs.Joined.{map_cases}
use Rattle.pa_lists.proofs.Members.{not_in_none}
use Rattle.pa_record.proofs.OneEntry.{one_root}
use Rattle.pa_rules.specs.Roots.{MakesEntry}
use Rattle.pa_examples.proofs.worked.Lists.{each}
use Rattle.pa_logs.specs.Told.{ToldRecord}
use Rattle.pa_examples.specs.told.Entered.{in_root}

pub record Makes (pools : List PoolEntry) (p : ℕ) (x : ToldRecord) : Type 0 where
  pub makes_it : (m : Made) (e : RootEntry) → Contains (entered_in p x.stretch) m → m.numbers ≡ root_numbers e →
      MakesEntry pools p e.act x.played

module _ (pools : List PoolEntry) where
  pub makes_none : (p : ℕ) (x : ToldRecord) → entered_in p x.stretch ≡ [] → Makes pools p x
  makes_none p x none = record { makes_it = λ m e within same. absurd (not_in_none m (subst (λ ms. Contains ms m) none within)) }

  -- it entered these
  pub makes_all : (x : ToldRecord) (es : List RootEntry) → entered_in 0 x.stretch ≡ map in_root es →
      Each (λ (e : RootEntry). MakesEntry pools 0 e.act x.played) es → Makes pools 0 x
  makes_all x es entered made = record {
    makes_it = λ m e within same.
        let (f, among, is) = map_cases in_root es m (subst (λ ms. Contains ms m) entered within) in
        let one : f ≡ e = one_root f e (ap (λ (z : Made). z.numbers) is ∙ same) in
        subst (λ (z : RootEntry). MakesEntry pools 0 z.act x.played) one
        (each (λ (z : RootEntry). MakesEntry pools 0 z.act x.played) es made f among);
  }

  -- none entered anything in another root's list
  pub none_makes : (p : ℕ) (ts : List ToldRecord) → Each (λ (x : ToldRecord). entered_in p x.stretch ≡ []) ts → (x : ToldRecord) →
      Contains ts x → Makes pools p x
  none_makes p ts none x among = makes_none p x (each (λ (y : ToldRecord). entered_in p y.stretch ≡ []) ts none x among)
