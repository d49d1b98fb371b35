-- The clauses of the pool and of the roots, and what the closing seat must satisfy, from what each layer says.
use Rattle.std.proofs.Common.{◌≡◌, ℕ, ◌<◌, List, [], slice_get, Some, sym, ◌∙◌, ap, subst, arith, inl, inr}
use Rattle.std.specs.Prelude.{Contains}
use Rattle.std.proofs.lemmas.Bool.{cases_lt}
use Rattle.pa_slot.specs.declared.title.Title.{Title}
use Rattle.pa_slot.specs.declared.word.SlotName.{SlotName}
use Rattle.pa_trace.specs.declared.script.Op.TheVariants.{Alloc}
use Rattle.pa_record.specs.declared.entry.Answer.TheVariants.{Full}
use Rattle.pa_record.specs.declared.pool.PoolEntry.{PoolEntry}
use Rattle.pa_record.specs.declared.root.RootEntry.{RootEntry}
use Rattle.pa_record.specs.Numbers.{root_numbers}
use Rattle.pa_record.specs.Spans.{name_of}
use Rattle.pa_lists.proofs.Joined.{map_cases, map_in}
use Rattle.pa_region.specs.declared.view.Made.{Made}
use Rattle.pa_region.specs.declared.view.View.{View}
use Rattle.pa_rules.specs.declared.played.Played.{Played}
use Rattle.pa_rules.specs.Roots.{Journals, IsEntry, IsFull, MakesEntry, AreRoots, IsPoolOf}
use Rattle.pa_rules.specs.Order.{IsOfLine, StandsBefore}
use Rattle.pa_rules.specs.Held.{IsStanding}
use Rattle.pa_rules.specs.Told.{Told}
use Rattle.pa_logs.specs.Told.{ToldRecord, played_in}
use Rattle.pa_logs.specs.Listed.{first_of}
use Rattle.pa_logs.specs.Layers.{PoolSays, RootsSay, SeatSays, LayersFollow}
use Rattle.pa_logs.specs.Ending.{IsClosing}
use Rattle.pa_logs.proofs.Filters.{get_in}
use Rattle.pa_logs.proofs.Indexing.{indices_follow, full}
use Rattle.pa_logs.proofs.Keeping.{stands_held}
use Rattle.pa_logs.proofs.Listing.{lines_have_theirs}
use Rattle.pa_logs.proofs.Orders.{place_in, orders_follow}
use Rattle.pa_logs.proofs.Sizing.{lengths_follow}
use Rattle.pa_logs.proofs.Uncutting.{stands_uncut}

-- the annotated record of a record
told_there : (ts : List ToldRecord) (x : Played) → Contains (played_in ts) x → (y : ToldRecord) × Contains ts y × (y.played ≡ x)
told_there ts x among = map_cases (λ (z : ToldRecord). z.played) ts x among

pool : (supers : ℕ) (lists : ℕ → List Made) (pools : List PoolEntry) (roots : Journals) (ts : List ToldRecord) →
    PoolSays supers lists pools roots ts → IsPoolOf supers (played_in ts) pools roots
pool supers lists pools roots ts h = record {
  fits = h.fits;
  named = λ j e at. indices_follow.named lists pools roots ts j e h.lists_are h.asked at;
  once = λ j p q i k e at first second. indices_follow.once lists pools roots ts j p q i k e h.lists_are h.asked at first second;
  order = λ i j e f x y at_i at_j of_x of_y before.
      let (a, first, is_x) = told_there ts x of_x.0 in
      let (b, second, is_y) = told_there ts y of_y.0 in
      orders_follow.pool (lists 4) pools ts a b i j e f
      (h.lists_are.is 4 (omega arith)) h.cuts h.lists_are.rising h.lists_are.pool first second at_i at_j
      (ap (λ (z : Played). z.line) is_x ∙ of_x.1) (ap (λ (z : Played). z.line) is_y ∙ of_y.1)
      (subst (λ z. StandsBefore a.played z) (sym is_y) (subst (λ z. StandsBefore z y) (sym is_x) before));
}

module _ (partitions : ℕ) (lists : ℕ → List Made) (pools : List PoolEntry) (roots : Journals) (ts : List ToldRecord)
    (h : RootsSay partitions lists pools roots ts) where
  -- a journal with an entry is that of one of the first four partitions
  first_four : (p j : ℕ) (e : RootEntry) → IsEntry roots p j e → p < 4
  first_four p j e at = elim (cases_lt p 4) [
    | inl few ↦ few
    | inr past ↦ absurd (nothing (subst (λ es. slice_get es j ≡ Some e) (h.lists_are.past p past) at))
  ]
    where
      nothing : slice_get [] j ≡ Some e → ⊥
      nothing none = absurd cc

  lines : (p j : ℕ) (e : RootEntry) → IsEntry roots p j e → (x : Played) × IsOfLine (played_in ts) e.line x × MakesEntry pools p e.act x
  lines p j e at =
      let few = first_four p j e at in
      let is = h.lists_are.is p (omega arith) in
      let (m, at_m, says) = place_in root_numbers (lists p) (roots p) j e (h.lists_are.journals p few) at in
      let (x, among, thread, within) = lines_have_theirs.each p (lists p) ts m is (get_in (lists p) j m at_m) in (
        x.played,
        (map_in (λ (z : ToldRecord). z.played) ts x among, sym (is.lines x m among within) ∙ ap first_of says),
        h.makes x p m e few among within says,
      )

  order : (p i j : ℕ) (e f : RootEntry) (x y : Played) → IsEntry roots p i e → IsEntry roots p j f → IsOfLine (played_in ts) e.line x →
      IsOfLine (played_in ts) f.line y → StandsBefore x y → i < j
  order p i j e f x y at_i at_j of_x of_y before =
      let few = first_four p i e at_i in
      let (a, first, is_x) = told_there ts x of_x.0 in
      let (b, second, is_y) = told_there ts y of_y.0 in
      orders_follow.journal p (lists p) (roots p) ts a b i j e f (h.lists_are.is p (omega arith)) (h.cuts p few) h.lists_are.rising
      (h.lists_are.journals p few) first second at_i at_j
      (ap (λ (z : Played). z.line) is_x ∙ of_x.1) (ap (λ (z : Played). z.line) is_y ∙ of_y.1)
      (subst (λ z. StandsBefore a.played z) (sym is_y) (subst (λ z. StandsBefore z y) (sym is_x) before))

  refusals : (x : Played) (j reg p size : ℕ) → Contains (played_in ts) x → x.answer ≡ Full j → x.op ≡ Alloc reg p size →
      (e : RootEntry) × IsEntry roots p j e × (e.line ≡ x.line) × IsFull e.act
  refusals x j reg p size among answer op =
      let (y, there, same) = told_there ts x among in
      let (few, is) = h.refused y j reg p size there (ap (λ (z : Played). z.answer) same ∙ answer) (ap (λ (z : Played). z.op) same ∙ op) in
      let (e, at, line, is_full) = full p j (lists p) roots y (h.lists_are.journals p few) is in
      (e, at, line ∙ ap (λ (z : Played). z.line) same, is_full)

  are_roots : AreRoots partitions (played_in ts) pools roots
  are_roots = record { one = h.one; journals = h.journals; lines = lines; order = order; none_past = h.none_past; refusals = refusals }

closing : (supers partitions : ℕ) (sizes : SlotName → ℕ) (lists : ℕ → List Made) (r : Told) (ts : List ToldRecord) (v : View) →
    SeatSays supers partitions sizes lists r ts v → IsClosing sizes r v
closing supers partitions sizes lists r ts v h =
    let long : (p : ℕ) (title : Title) → IsStanding r.pools (r.roots p) title → sizes (name_of title) ≡ title.len = λ p title stands.
    h.lengths (name_of title) ∙
    lengths_follow.stands supers partitions p (played_in ts) r.pools r.roots title h.journals h.pool stands in
    record {
      long = long;
      cut = λ p title stands. stands_uncut supers partitions p lists r.pools r.roots ts v title h.lists_are h.journals h.pool h.logs
          h.unmaps stands;
      kept = λ p title stands unnamed. stands_held p sizes r.pools r.roots v title h.has stands (long p title stands) unnamed;
      clean = h.clean;
    }

pub layers_follow : LayersFollow
layers_follow = record {
  pool = pool;
  roots = λ partitions lists pools roots ts h. are_roots partitions lists pools roots ts h;
  closing = closing;
}
