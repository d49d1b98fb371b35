-- A run has one report.
use Rattle.std.proofs.Common.{◌≡◌, ℕ, List, [], ◌∷◌, refl, sym, ◌∙◌, ap, subst}
use Rattle.std.specs.Prelude.{Contains}
use Rattle.std.proofs.lemmas.List.Elements.{All-contains}
use Rattle.pa_slot.specs.declared.word.SlotName.{SlotName}
use Rattle.pa_slot.specs.Run.{IsLive, IsQuarantined}
use Rattle.pa_record.specs.declared.census.Census.{Census}
use Rattle.pa_record.specs.declared.report.ReportLine.{ReportLine}
use Rattle.pa_record.specs.declared.report.Tally.{Tally}
use Rattle.pa_record.specs.Root.{new_root, root_replayed}
use Rattle.pa_record.specs.Census.{census}
use Rattle.pa_lists.proofs.Members.{first_in, later_in}
use Rattle.pa_record.proofs.Same.{same_tally, same_line}
use Rattle.pa_lists.proofs.Joined.{filter_cases}
use Rattle.pa_record.proofs.OneSum.{one_sum}
use Rattle.pa_rules.specs.declared.played.Played.{Played}
use Rattle.pa_rules.specs.Caches.{Cache, Caches, with_cache, CacheRow, CachesTo, no_caches}
use Rattle.pa_rules.specs.Report.{until, HasSize, IsTally, IsCached, HasCensus, census_of, cached_slots, cached_bytes, IsReportLine, IsReport}
use Rattle.pa_rules.proofs.FourPlaces.{one_until}
use Rattle.pa_rules.proofs.Numbering.{rising_differ}
use Rattle.pa_rules.proofs.ByLines.{is_until}
use Rattle.pa_one_run.specs.Parts.{Parts}
use Rattle.pa_one_run.proofs.Filed.{IsFiled}
use Rattle.pa_one_run.proofs.roots.Classes.{kind}
use Rattle.pa_lists.proofs.Elements.{map_tells}
use Rattle.pa_one_run.proofs.placing.Placing.{row_once}

-- ---- the size of a slot

one_size : (a : Parts) (p : ℕ) (s : SlotName) (m n : ℕ) → IsFiled a → HasSize a.roots p s m → HasSize a.roots p s n → m ≡ n
one_size a p s m n h x y = ((kind a h s).size p p m n x y).1

one_tally : (a : Parts) (P : ℕ → Type 0) (xs : List Played) (p : ℕ) (t u : Tally) → IsFiled a → IsTally P a.roots xs p t →
    IsTally P a.roots xs p u → t ≡ u
one_tally a P xs p t u h (slots, sizes, are, count, bytes) (others', more, are', count', bytes') =
    let (long, sums) = one_sum (HasSize a.roots p)
    (λ s m n x y. one_size a p s m n h x y) slots others' sizes more are.once are'.once are.sized are'.sized
    (λ s among. (are'.all s).1 ((are.all s).0 among)) (λ s among. (are.all s).1 ((are'.all s).0 among)) in
    same_tally t u (count ∙ long ∙ sym count') (bytes ∙ sums ∙ sym bytes')

-- ---- the caches after some records

-- the caches are one after records of the run, if they were before them
caches_one : (a : Parts) (xs : List Played) (all all' after after' : Caches) → IsFiled a →
    ((x : Played) → Contains xs x → Contains a.ps x) → all ≡ all' → CachesTo a.partitions a.roots all xs after →
    CachesTo a.partitions a.roots all' xs after' → after ≡ after'
caches_one a [] all all' after after' h members same to to' = to ∙ same ∙ sym to'
caches_one a (x ∷ xs) all all' after after' h members same (next, row, to) (next', row', to') =
    let row'' : CacheRow a.partitions a.roots x x.answer (all x.thread) next' =
    subst (λ (z : Caches). CacheRow a.partitions a.roots x x.answer (z x.thread) next') (sym same) row' in
    let one = row_once a x (all x.thread) next next' h (members x (first_in x xs)) row row'' in
    caches_one a xs (with_cache all x.thread next) (with_cache all' x.thread next') after after' h
    (λ y among. members y (later_in x y xs among))
    (ap (λ (z : Caches). with_cache z x.thread next) same ∙ ap (λ (z : Cache). with_cache all' x.thread z) one) to to'

one_cached : (a : Parts) (xs : List Played) (p : ℕ) (t u : Tally) → IsFiled a → ((x : Played) → Contains xs x → Contains a.ps x)
    → IsCached a.partitions a.threads a.roots xs p t → IsCached a.partitions a.threads a.roots xs p u → t ≡ u
one_cached a xs p t u h members (all, to, slots, bytes) (all', to', slots', bytes') =
    let same = caches_one a xs no_caches no_caches all all' h members refl to to' in
    same_tally t u (slots ∙ ap (λ (z : Caches). cached_slots z p a.threads) same ∙ sym slots')
    (bytes ∙ ap (λ (z : Caches). cached_bytes z p a.threads) same ∙ sym bytes')

-- ---- the root's part

one_census : (a : Parts) (phase p : ℕ) (c d : Census) → IsFiled a → HasCensus a.ps a.pools a.roots phase p c →
    HasCensus a.ps a.pools a.roots phase p d → c ≡ d
one_census a phase p c d h (before, until', is) (before', until'', is') =
    is ∙ ap (λ es. census (root_replayed a.pools es new_root))
    (one_until a.ps phase (a.roots p) before before' (rising_differ a.ps h.rising) until' until'') ∙ sym is'

-- ---- the lines

one_line : (a : Parts) (l m : ReportLine) → IsFiled a → l.phase ≡ m.phase → l.partition ≡ m.partition
    → IsReportLine a.partitions a.threads a.ps a.pools a.roots l → IsReportLine a.partitions a.threads a.ps a.pools a.roots m → l ≡ m
one_line a l m h phases places x y =
    let xs = until l.phase a.ps in
    let here : (Q : List Played → ℕ → Type 0) → Q (until m.phase a.ps) m.partition → Q xs l.partition = λ Q z.
    subst (λ k. Q (until k a.ps) l.partition) (sym phases) (subst (λ k. Q (until m.phase a.ps) k) (sym places) z) in
    let root' : HasCensus a.ps a.pools a.roots l.phase l.partition (census_of m) =
    subst (λ k. HasCensus a.ps a.pools a.roots k l.partition (census_of m)) (sym phases)
    (subst (λ k. HasCensus a.ps a.pools a.roots m.phase k (census_of m)) (sym places) y.root) in
    let live = one_tally a IsLive xs l.partition l.live m.live h x.live (here (λ zs p. IsTally IsLive a.roots zs p m.live) y.live) in
    let quarantined = one_tally a IsQuarantined xs l.partition l.quarantined m.quarantined h x.quarantined
    (here (λ zs p. IsTally IsQuarantined a.roots zs p m.quarantined) y.quarantined) in
    let cached = one_cached a xs l.partition l.cached m.cached h (λ z among. (filter_cases (is_until l.phase) a.ps z among).0) x.cached
    (here (λ zs p. IsCached a.partitions a.threads a.roots zs p m.cached) y.cached) in
    let root = one_census a l.phase l.partition (census_of l) (census_of m) h x.root root' in
    same_line l m phases places live quarantined cached
    (ap (λ (c : Census). c.root) root) (ap (λ (c : Census). c.committed) root) (ap (λ (c : Census). c.reserved) root)
    (ap (λ (c : Census). c.full) root) (ap (λ (c : Census). c.active) root) (ap (λ (c : Census). c.empty) root)
    (ap (λ (c : Census). c.decommitted) root)

abbrev place_of : ReportLine → ℕ × ℕ
place_of l = (l.phase, l.partition)

pub one_report : (a : Parts) (phases : ℕ) (xs ys : List ReportLine) → IsFiled a →
    IsReport phases a.partitions a.threads a.ps a.pools a.roots xs →
    IsReport phases a.partitions a.threads a.ps a.pools a.roots ys → xs ≡ ys
one_report a phases xs ys h x y =
    let R = IsReportLine a.partitions a.threads a.ps a.pools a.roots in
    map_tells place_of xs ys
    (λ l m among among' e. one_line a l m h (ap (λ (z : ℕ × ℕ). z.0) e) (ap (λ (z : ℕ × ℕ). z.1) e) (All-contains R xs l x.right among)
    (All-contains R ys m y.right among'))
    (x.places ∙ sym y.places)
