-- The lines of the report are right.
use Rattle.std.proofs.Common.{◌≡◌, ℕ, zero, suc, ◌+◌, ◌<◌, ◌≤◌, Bool, leb, List, [], ◌∷◌, ◌++◌, filter, map, refl, sym, ◌∙◌, ap, subst, arith, inl, inr}
use Rattle.std.specs.Prelude.{◌≢◌, Contains, AllPairs, length}
use Rattle.std.proofs.lemmas.Bool.{cases_lt, cases_eq, eq-eqb, ne_eqb, le-leb, leb-true}
use Rattle.std.proofs.lemmas.List.Elements.{filter-append, Contains-append_right}
use Rattle.pa_slot.specs.declared.word.SlotName.{SlotName}
use Rattle.pa_slot.specs.declared.word.Step.{Step}
use Rattle.pa_record.specs.declared.pool.PoolEntry.{PoolEntry}
use Rattle.pa_record.specs.declared.root.RootEntry.{RootEntry}
use Rattle.pa_record.specs.declared.report.ReportLine.{ReportLine}
use Rattle.pa_record.specs.declared.report.Tally.{Tally}
use Rattle.pa_record.specs.declared.census.Census.{Census}
use Rattle.pa_record.specs.Numbers.{root_numbers, pool_numbers}
use Rattle.pa_record.specs.Root.{new_root, root_replayed}
use Rattle.pa_record.specs.Census.{census}
use Rattle.pa_record.proofs.Lawful.{journal_grows}
use Rattle.pa_lists.proofs.Joined.{filter_cases, filter_in, map_cases, map_in}
use Rattle.pa_lists.proofs.Members.{not_in_none, first_in, later_in}
use Rattle.pa_record.proofs.OneEntry.{one_root, one_pool}
use Rattle.pa_lists.proofs.Pairs.{pairs_none, pairs_cons, pairs_tail, pairs_head}
use Rattle.pa_region.specs.declared.view.Made.{Made}
use Rattle.pa_rules.specs.declared.played.Played.{Played}
use Rattle.pa_rules.specs.Played.{mark_of, marks_of}
use Rattle.pa_rules.specs.Roots.{Journals}
use Rattle.pa_rules.specs.Caches.{Cache, Caches, CachesTo, with_cache, no_caches, listed_slots}
use Rattle.pa_rules.specs.Report.{InPhases, PastPhases, HasCensus, IsReportLine, IsCached, listed_bytes, cached_slots, cached_bytes, census_of, until}
use Rattle.pa_rules.proofs.Phases.{runs_until, within as until_mark}
use Rattle.pa_slot.specs.Kinds.{issues, frees, enters, leaves}
use Rattle.pa_legal.specs.Tallies.{weight_of, one_of, bytes_of, AreHomes, IsLeft, WentIn, IsTallied}
use Rattle.pa_legal.proofs.tallies.Adding.{tallies_follow}
use Rattle.pa_legal.proofs.tallies.Sums.{one_weight, weight_first}
use Rattle.pa_logs.specs.Told.{ToldRecord, played_in, is_until, told_until}
use Rattle.pa_logs.specs.Listed.{first_of, line_of, is_on, AreRising}
use Rattle.pa_logs.specs.Rows.{records_by}
use Rattle.pa_logs.specs.Indices.{AreLists}
use Rattle.pa_logs.specs.Reported.{TakenAt, counted_by, IsLeftBy, CacheLeadsTo, AreListed, IsLineTold, IsLineShared, AreReported, ReportFollows}
use Rattle.pa_logs.proofs.Filters.{pairs_filter, nothing_more}
use Rattle.pa_logs.proofs.Listing.{lines_have_theirs}
use Rattle.pa_logs.proofs.Merging.{own_first, other_first}
use Rattle.pa_lists.proofs.Elements.{all_from_members}

abbrev numbers : List Made → List (List ℕ)
numbers ms = map (λ (m : Made). m.numbers) ms

-- if a list's images begin with another's, so does the list
begin_map : {A B : Type 0} (f : A → B) (xs ys : List A) (zs : List B) → ((x y : A) → f x ≡ f y → x ≡ y) → map f xs ≡ map f ys ++ zs →
    (ws : List A) × (xs ≡ ys ++ ws)
begin_map f xs [] zs one e = (xs, refl)
begin_map f [] (y ∷ ys) zs one e = absurd cc
begin_map f (x ∷ xs) (y ∷ ys) zs one e =
    let head : f x ≡ f y = cc in
    let tail : map f xs ≡ map f ys ++ zs = cc in
    let a = one x y head in
    let (ws, rest) = begin_map f xs ys zs one tail in
    (ws, ap (λ z. z ∷ xs) a ∙ ap (λ us. y ∷ us) rest)

map_append : {A B : Type 0} (f : A → B) (xs ys : List A) → map f (xs ++ ys) ≡ map f xs ++ map f ys
map_append f [] ys = refl
map_append f (x ∷ xs) ys = ap (λ zs. f x ∷ zs) (map_append f xs ys)

-- the list's entry of a journal's
made_of : (list : List Made) (es : List RootEntry) (e : RootEntry) → map (λ (m : Made). m.numbers) list ≡ map root_numbers es →
    Contains es e →
    (m : Made) × Contains list m × (m.numbers ≡ root_numbers e)
made_of list es e same among =
    map_cases (λ (m : Made). m.numbers) list (root_numbers e)
    (subst (λ ns. Contains ns (root_numbers e)) (sym same) (map_in root_numbers es e among))

module _ (p phase : ℕ) (lists : ℕ → List Made) (pools : List PoolEntry) (roots : Journals) (ts : List ToldRecord) (c : Census)
    (are : AreLists lists pools roots ts) (small : p < 4) (h : TakenAt p phase lists ts c) where
  goes_on : (rest : List RootEntry) × (roots p ≡ h.journal ++ rest)
  goes_on = begin_map root_numbers (roots p) h.journal (numbers h.cut.rest) one_root
      (sym (are.journals p small) ∙ (ap numbers h.cut.begins ∙ (map_append (λ (m : Made). m.numbers) h.cut.older h.cut.rest
      ∙ ap (λ ns. ns ++ numbers h.cut.rest) h.journal_is)))

  pool_on : (more : List PoolEntry) × (pools ≡ h.pool ++ more)
  pool_on = begin_map pool_numbers pools h.pool (numbers h.unseen) one_pool
      (sym are.pool ∙ (ap numbers h.begins ∙
      (map_append (λ (m : Made). m.numbers) h.seen h.unseen ∙ ap (λ ns. ns ++ numbers h.unseen) h.pool_is)))

  -- the rest of the journal is the rest of the list
  rest_is : numbers h.cut.rest ≡ map root_numbers goes_on.0
  rest_is = cancel (numbers h.cut.older) (numbers h.cut.rest) (map root_numbers goes_on.0)
      (sym (map_append (λ (m : Made). m.numbers) h.cut.older h.cut.rest) ∙ (sym (ap numbers h.cut.begins) ∙ (are.journals p small
      ∙ (ap (λ es. map root_numbers es) goes_on.1 ∙
      (map_append root_numbers h.journal goes_on.0 ∙ ap (λ ns. ns ++ map root_numbers goes_on.0) (sym h.journal_is))))))
    where
      cancel : {A : Type 0} (xs ys zs : List A) → xs ++ ys ≡ xs ++ zs → ys ≡ zs
      cancel [] ys zs e = e
      cancel (x ∷ xs) ys zs e = cancel xs ys zs cc

  played_there : (x : ToldRecord) → Contains ts x → Contains (played_in ts) x.played
  played_there x among = map_in (λ (z : ToldRecord). z.played) ts x among

  before_end : (e : RootEntry) → Contains h.journal e → InPhases (played_in ts) phase e
  before_end e among =
      let (m, there, says) = made_of h.cut.older h.journal e h.journal_is among in
      let (x, member, thread, within) = lines_have_theirs.each p h.cut.older (told_until phase ts) m h.cut.is there in
      let (of, low) = filter_cases (is_until phase) ts x member in
      (x.played, (played_there x of, sym (h.cut.is.lines x m member within) ∙ ap first_of says), leb-true x.played.phase phase low)

  after_end : (e : RootEntry) → Contains goes_on.0 e → PastPhases (played_in ts) phase e
  after_end e among =
      let is = are.is p (omega arith) in
      let (m, there, says) = made_of h.cut.rest goes_on.0 e rest_is among in
      let inside = subst (λ ms. Contains ms m) (sym h.cut.begins) (Contains-append_right h.cut.older h.cut.rest m there) in
      let (x, member, thread, within) = lines_have_theirs.each p (lists p) ts m is inside in
      let line : line_of m ≡ x.played.line = is.lines x m member within in
      let late : phase < x.played.phase = elim (cases_lt phase x.played.phase) [
        | inl later ↦ later
        | inr soon ↦
            let on = is_on x.played.line in
            let until_in = filter_in (is_until phase) ts x member (le-leb x.played.phase phase soon) in
            let less : ToldRecord → ToldRecord → Type 0 = λ a b. a.played.line < b.played.line in
            let now = lines_have_theirs.theirs p (lists p) ts x is are.rising member in
            let was = lines_have_theirs.theirs p h.cut.older (told_until phase ts) x h.cut.is
            (pairs_filter less (is_until phase) ts are.rising) until_in in
            let split : filter on (lists p) ≡ filter on h.cut.older ++ filter on h.cut.rest =
            ap (λ ms. filter on ms) h.cut.begins ∙ filter-append on h.cut.older h.cut.rest in
            let none = nothing_more (filter on h.cut.older) (filter on h.cut.rest) (sym split ∙ (now ∙ sym was)) in
            absurd (not_in_none m (subst (λ ms. Contains ms m) none
            (filter_in on h.cut.rest m there (eq-eqb (line_of m) x.played.line line))))
      ] in
      (x.played, (played_there x member, sym line ∙ ap first_of says), late)

  has_census : HasCensus (played_in ts) pools roots phase p c
  has_census = (
    h.journal,
    record {
      rest = goes_on.0;
      parts = goes_on.1;
      in_phases = all_from_members (InPhases (played_in ts) phase) h.journal before_end;
      past_phases = all_from_members (PastPhases (played_in ts) phase) goes_on.0 after_end;
    },
    h.taken ∙ ap census (sym (ap (λ ps. root_replayed ps h.journal new_root) pool_on.1 ∙
        journal_grows.pool_same h.pool pool_on.0 h.journal h.replays)),
  )

-- what the threads count is what all records count
count_first : (test : Step → ℕ → Bool) (weight : SlotName → ℕ) (x : Played) (xs : List Played) (n : ℕ) →
    (x.thread < n → counted_by test weight (x ∷ xs) n ≡ one_weight test weight (mark_of x) + counted_by test weight xs n) ×
    (n ≤ x.thread → counted_by test weight (x ∷ xs) n ≡ counted_by test weight xs n)
count_first test weight x xs zero = (λ below. absurd (omega arith), λ past. refl)
count_first test weight x xs (suc n) =
    let again = count_first test weight x xs n in
    let own : x.thread ≡ n →
    weight_of test weight (marks_of (records_by n (x ∷ xs))) ≡ one_weight test weight (mark_of x) + weight_of test weight
    (marks_of (records_by n xs)) =
    λ e. ap (λ ys. weight_of test weight (marks_of ys)) (own_first n x xs e) ∙ weight_first test weight x (records_by n xs) in
    let other : (x.thread ≡ n → ⊥) →
    weight_of test weight (marks_of (records_by n (x ∷ xs))) ≡ weight_of test weight (marks_of (records_by n xs)) =
    λ ne. ap (λ ys. weight_of test weight (marks_of ys)) (other_first n x xs ne) in (
      λ below. elim (cases_eq x.thread n) [
        | inl e ↦ let a = own e in let b = again.1 (omega arith) in omega arith
        | inr ne ↦ let a = other ne in let b = again.0 (omega arith) in omega arith
      ],
      λ past. let a = other (λ e. absurd (omega arith)) in let b = again.1 (omega arith) in omega arith,
    )

counts_add : (test : Step → ℕ → Bool) (weight : SlotName → ℕ) (xs : List Played) (n : ℕ) → ((x : Played) → Contains xs x → x.thread < n) →
    counted_by test weight xs n ≡ weight_of test weight (marks_of xs)
counts_add test weight [] n few = none n
  where
    none : (k : ℕ) → counted_by test weight [] k ≡ 0
    none zero = refl
    none (suc k) = let again = none k in omega arith
counts_add test weight (x ∷ xs) n few =
    let a = (count_first test weight x xs n).0 (few x (first_in x xs)) in
    let b = weight_first test weight x xs in
    let again = counts_add test weight xs n (λ y among. few y (later_in x y xs among)) in
    omega arith

left_by : (into out : Step → ℕ → Bool) (home size : SlotName → ℕ) (p threads : ℕ) (xs : List Played) (tally : Tally) →
    ((x : Played) → Contains xs x → x.thread < threads) →
    WentIn into out home size p (marks_of xs) → IsLeftBy into out home size p threads xs tally →
    IsLeft into out home size p (marks_of xs) tally
left_by into out home size p threads xs tally few went h =
    let first = went.slots in
    let second = went.bytes in
    let slots = h.slots in
    let bytes = h.bytes in
    let a = counts_add into (one_of home p) xs threads few in
    let b = counts_add out (one_of home p) xs threads few in
    let c = counts_add into (bytes_of home size p) xs threads few in
    let d = counts_add out (bytes_of home size p) xs threads few in
    record { slots = omega arith; bytes = omega arith }

-- the lists of all threads, from those of each
pub leads : (partitions : ℕ) (roots : Journals) (all : Caches) (ps : List Played) (ends : Caches) →
    ((k : ℕ) → CacheLeadsTo partitions roots (all k) (records_by k ps) (ends k)) →
    (after : Caches) × CachesTo partitions roots all ps after × ((k : ℕ) → after k ≡ ends k)
leads partitions roots all [] ends each = (all, refl, λ k. sym (each k))
leads partitions roots all (x ∷ xs) ends each =
    let (next, row, rest) = subst (λ ys. CacheLeadsTo partitions roots (all x.thread) ys (ends x.thread)) (own_first x.thread x xs refl)
    (each x.thread) in
    let (after, rows, same) = leads partitions roots (with_cache all x.thread next) xs ends (λ k. elim (cases_eq k x.thread) [
      | inl e ↦ rw (eq-eqb k x.thread e) (subst (λ n. CacheLeadsTo partitions roots next (records_by n xs) (ends n)) (sym e) rest)
      | inr ne ↦ rw (ne_eqb k x.thread ne)
          (subst (λ ys. CacheLeadsTo partitions roots (all k) ys (ends k)) (other_first k x xs (λ e. ne (sym e))) (each k))
    ]) in
    (after, (next, row, rows), same)

same_slots : (all ends : Caches) (p n : ℕ) → ((k : ℕ) → all k ≡ ends k) → cached_slots all p n ≡ cached_slots ends p n
same_slots all ends p zero same = refl
same_slots all ends p (suc n) same =
    let a : listed_slots (all n p) 0 170 ≡ listed_slots (ends n p) 0 170 = ap (λ (c : Cache). listed_slots (c p) 0 170) (same n) in
    let again = same_slots all ends p n same in omega arith

same_bytes : (all ends : Caches) (p n : ℕ) → ((k : ℕ) → all k ≡ ends k) → cached_bytes all p n ≡ cached_bytes ends p n
same_bytes all ends p zero same = refl
same_bytes all ends p (suc n) same =
    let a : listed_bytes (λ class. length (all n p class)) 0 170 ≡ listed_bytes (λ class. length (ends n p class)) 0 170 =
    ap (λ (c : Cache). listed_bytes (λ class. length (c p class)) 0 170) (same n) in
    let again = same_bytes all ends p n same in omega arith

cached : (partitions threads : ℕ) (roots : Journals) (xs : List Played) (p : ℕ) (tally : Tally) →
    AreListed partitions threads roots xs p tally → IsCached partitions threads roots xs p tally
cached partitions threads roots xs p tally h =
    let (after, rows, same) = leads partitions roots no_caches xs h.all h.each in
    (after, rows, h.slots ∙ sym (same_slots after h.all p threads same), h.bytes ∙ sym (same_bytes after h.all p threads same))

-- lines differ if they rise
pub lines_differ : (ts : List ToldRecord) → AreRising ts → AllPairs (λ (x y : Played). x.line ≢ y.line) (played_in ts)
lines_differ [] h = pairs_none (λ (x y : Played). x.line ≢ y.line)
lines_differ (t ∷ ts) h =
    let less : ToldRecord → ToldRecord → Type 0 = λ a b. a.played.line < b.played.line in
    pairs_cons (λ (x y : Played). x.line ≢ y.line) t.played (played_in ts)
    (λ y among same.
    let (u, member, is) = map_cases (λ (z : ToldRecord). z.played) ts y among in
    let up = pairs_head less t u ts h member in
    let line : u.played.line ≡ y.line = ap (λ (z : Played). z.line) is in
    absurd (omega arith))
    (lines_differ ts (pairs_tail less t ts h))

module _ (supers partitions threads : ℕ) (home size : SlotName → ℕ) (lists : ℕ → List Made) (pools : List PoolEntry) (roots : Journals)
    (ts : List ToldRecord) (all : AreReported supers partitions threads home size lists pools roots ts) where
  shared : (l : ReportLine) → IsLineTold threads home size lists ts l → IsLineShared (played_in ts) pools roots l
  shared l h =
      let ps = played_in ts in
      let xs = until l.phase ps in
      let differ = lines_differ ts all.lists_are.rising in
      let few : (x : Played) → Contains xs x → x.thread < threads = λ x among.
      let there = (filter_cases (λ (z : Played). leb z.phase l.phase) ps x among).0 in
      let (u, member, is) = map_cases (λ (z : ToldRecord). z.played) ts x there in
      subst (λ (z : Played). z.thread < threads) is (all.few u member) in
      let tallied : IsTallied supers partitions ps xs pools roots = record {
        journals = all.journals;
        pool = all.pool;
        lines = pairs_filter (λ (x y : Played). x.line ≢ y.line) (λ (z : Played). leb z.phase l.phase) ps differ;
        slots = runs_until ps l.phase differ all.slots all.phases;
      } in
      let homes : AreHomes roots home size (marks_of xs) = λ m among. all.homes m (until_mark ps l.phase m among) in
      record {
        live = tallies_follow.live supers partitions l.partition ps xs pools roots home size l.live tallied homes
            (left_by issues frees home size l.partition threads xs l.live few
            (tallies_follow.freed supers partitions l.partition ps xs pools roots home size tallied) h.live);
        quarantined = tallies_follow.quarantined supers partitions l.partition ps xs pools roots home size l.quarantined tallied homes
            (left_by enters leaves home size l.partition threads xs l.quarantined few
            (tallies_follow.left supers partitions l.partition ps xs pools roots home size tallied) h.quarantined);
        root = has_census l.partition l.phase lists pools roots ts (census_of l) all.lists_are h.partition h.root;
      }

pub report_follows : ReportFollows
report_follows = record {
  census = λ p phase lists pools roots ts c are small h. has_census p phase lists pools roots ts c are small h;
  line = λ supers partitions threads home size lists pools roots ts l all h. shared supers partitions threads home size lists pools roots
      ts all l h;
  report = λ phases partitions threads ps pools roots lines places each listed. record {
    places = places;
    right = all_from_members (IsReportLine partitions threads ps pools roots) lines (λ l among.
        let of = each l among in
        record {
          live = of.live;
          quarantined = of.quarantined;
          cached = cached partitions threads roots (until l.phase ps) l.partition l.cached (listed l among);
          root = of.root;
        });
  };
}
