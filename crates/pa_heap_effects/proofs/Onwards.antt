-- What stays of a run while it goes on.
use Rattle.std.proofs.Common.{◌≡◌, ℕ, ◌<◌, ◌≤◌, List, [], ◌∷◌, ◌++◌, refl, sym, ◌∙◌, ap, subst, arith, inl, inr, append_assoc}
use Rattle.std.specs.Prelude.{Contains, nat_le}
use Rattle.std.proofs.lemmas.Bool.{le-leb, lt-leb}
use Rattle.std.proofs.lemmas.List.{append-nil}
use Rattle.std.proofs.lemmas.List.Elements.{filter-append, Contains-append_left, Contains-append_right, Contains-append_cases, Contains-push_cases}
use Rattle.pa_record.specs.declared.pool.PoolEntry.{PoolEntry}
use Rattle.pa_record.specs.declared.report.Tally.{Tally}
use Rattle.pa_record.specs.Census.{census}
use Rattle.pa_record.specs.Root.{new_root, root_replayed}
use Rattle.pa_lists.proofs.Members.{not_in_none, first_in, later_in}
use Rattle.pa_record.proofs.Lawful.{journal_grows}
use Rattle.pa_rules.specs.declared.played.Played.{Played}
use Rattle.pa_rules.specs.Roots.{Journals}
use Rattle.pa_rules.specs.Caches.{Caches, CachesTo, no_caches, acts_of}
use Rattle.pa_rules.specs.Report.{until, cached_slots, cached_bytes, IsCached, AreUntil, HasCensus, InPhases, PastPhases}
use Rattle.pa_heap_effects.specs.Deeds.{Acts, entries_at, grown, root_at, IsPlacedTo}
use Rattle.pa_heap_effects.specs.Onward.{GoesOn, RunGoesOn, CachesStay, PhaseEnds}
use Rattle.pa_heap_effects.proofs.Growing.{acts_at, acts_append, acts_none, entry_at}
use Rattle.pa_heap_effects.proofs.Rows.{Stays, caches_stay as rows_stay}
use Rattle.pa_lists.proofs.Elements.{all_from_members}

-- ---- it goes on

goes_here : (n : ℕ) (ps : List Played) (pools : List PoolEntry) (roots : Journals) → GoesOn n ps ps pools pools roots roots
goes_here n ps pools roots = record {
  records = [];
  played = sym (append-nil ps);
  after = λ x among. absurd (not_in_none x among);
  entries = [];
  pooled = sym (append-nil pools);
  journals = λ p. [];
  grown = λ p. sym (append-nil (roots p));
  below = λ p e among. absurd (not_in_none e among);
}

goes_further : (n m : ℕ) (ps later : List Played) (x : Played) (pools more made : List PoolEntry) (roots grows : Journals) (acts : Acts) →
    n ≤ m → x.line ≡ m →
    GoesOn n ps later pools more roots grows → GoesOn n ps (later ++ x ∷ []) pools (more ++ made) roots (grown grows m acts)
goes_further n m ps later x pools more made roots grows acts low line g = record {
  records = g.records ++ x ∷ [];
  played = ap (λ zs. zs ++ x ∷ []) g.played ∙ append_assoc ps g.records (x ∷ []);
  after = λ y among. elim (Contains-push_cases g.records x y among) [
    | inl old ↦ g.after y old
    | inr new ↦ let at : x.line ≡ y.line = ap (λ (z : Played). z.line) new in omega arith
  ];
  entries = g.entries ++ made;
  pooled = ap (λ zs. zs ++ made) g.pooled ∙ append_assoc pools g.entries made;
  journals = λ p. g.journals p ++ entries_at m (acts p);
  grown = λ p. ap (λ zs. zs ++ entries_at m (acts p)) (g.grown p) ∙ append_assoc (roots p) (g.journals p) (entries_at m (acts p));
  below = λ p e among. elim (Contains-append_cases (g.journals p) (entries_at m (acts p)) e among) [
    | inl old ↦ g.below p e old
    | inr new ↦ let at = (entry_at m (acts p) e new).1 in omega arith
  ];
}

pub run_goes_on : RunGoesOn
run_goes_on = record { here = goes_here; line = goes_further }

-- ---- the lists

stays_on : (partitions n : ℕ) (ps later : List Played) (pools more : List PoolEntry) (roots grows : Journals) (all : Caches) →
    IsPlacedTo partitions n ps pools roots all →
    GoesOn n ps later pools more roots grows → (x : Played) → Contains ps x → Stays roots grows x.line
stays_on partitions n ps later pools more roots grows all h g x among = record {
  acts = λ q. ap (λ es. acts_at es x.line) (g.grown q)
      ∙ acts_append (roots q) (g.journals q) x.line
      ∙ ap (λ zs. acts_of roots x.line q ++ zs)
      (acts_none (g.journals q) x.line (λ e member same. let low = h.recorded x among in let high = g.below q e member in omega arith))
      ∙ append-nil (acts_of roots x.line q);
  more = λ q e member. subst (λ es. Contains es e) (sym (g.grown q)) (Contains-append_left (roots q) (g.journals q) e member);
}

pub caches_stay : CachesStay
caches_stay partitions n ps later pools more roots grows all h g =
    rows_stay partitions roots grows ps no_caches all (stays_on partitions n ps later pools more roots grows all h g) h.caches

-- ---- the end of a phase

until_all : (phase : ℕ) (xs : List Played) → ((x : Played) → Contains xs x → x.phase ≤ phase) → until phase xs ≡ xs
until_all phase [] low = refl
until_all phase (x ∷ xs) low =
    rw (le-leb x.phase phase (low x (first_in x xs))) (ap (λ zs. x ∷ zs) (until_all phase xs (λ y among. low y (later_in x y xs among))))

until_none : (phase : ℕ) (xs : List Played) → ((x : Played) → Contains xs x → phase < x.phase) → until phase xs ≡ []
until_none phase [] high = refl
until_none phase (x ∷ xs) high =
    rw (lt-leb x.phase phase (high x (first_in x xs))) (until_none phase xs (λ y among. high y (later_in x y xs among)))

module _ (partitions n m phase : ℕ) (ps later : List Played) (pools more : List PoolEntry) (roots grows : Journals) (all then : Caches)
    (h : IsPlacedTo partitions n ps pools roots all)
    (k : IsPlacedTo partitions m later more grows then) (g : GoesOn n ps later pools more roots grows)
    (low : (x : Played) → Contains ps x → x.phase ≤ phase)
    (high : (x : Played) → Contains later x → n ≤ x.line → phase < x.phase) where
  records_until : until phase later ≡ ps
  records_until =
      ap (until phase) g.played
      ∙ filter-append (λ (x : Played). nat_le x.phase phase) ps g.records
      ∙ ap (λ zs. until phase ps ++ zs)
      (until_none phase g.records
      (λ x among. high x (subst (λ zs. Contains zs x) (sym g.played) (Contains-append_right ps g.records x among)) (g.after x among)))
      ∙ append-nil (until phase ps)
      ∙ until_all phase ps low

  entries_until : (p : ℕ) → AreUntil later phase (grows p) (roots p)
  entries_until p = record {
    rest = g.journals p;
    parts = g.grown p;
    in_phases = all_from_members (InPhases later phase) (roots p) (λ e among.
        let (x, of, makes) = h.lines p e among in
        (x, (subst (λ zs. Contains zs x) (sym g.played) (Contains-append_left ps g.records x of.0), of.1), low x of.0));
    past_phases = all_from_members (PastPhases later phase) (g.journals p) (λ e among.
        let (x, of, makes) = k.lines p e
        (subst (λ zs. Contains zs e) (sym (g.grown p)) (Contains-append_right (roots p) (g.journals p) e among)) in
        let after = g.below p e among in
        let line = of.1 in
        (x, of, high x of.0 (omega arith)));
  }

  census_then : (p : ℕ) → HasCensus later more grows phase p (census (root_at pools roots p))
  census_then p = (
    roots p,
    entries_until p,
    ap census (sym (journal_grows.pool_same pools g.entries (roots p) (h.journals p)) ∙
        ap (λ zs. root_replayed zs (roots p) new_root) (sym g.pooled)),
  )

  cached_then : (threads p : ℕ) (tally : Tally) → tally.slots ≡ cached_slots all p threads → tally.bytes ≡ cached_bytes all p threads →
      IsCached partitions threads grows (until phase later) p tally
  cached_then threads p tally slots bytes = (
    all,
    subst (λ zs. CachesTo partitions grows no_caches zs all) (sym records_until)
        (caches_stay partitions n ps later pools more roots grows all h g),
    slots,
    bytes,
  )

pub phase_ends : PhaseEnds
phase_ends partitions n m phase ps later pools more roots grows all then h k g low high = record {
  records = records_until partitions n m phase ps later pools more roots grows all then h k g low high;
  entries = entries_until partitions n m phase ps later pools more roots grows all then h k g low high;
  census = census_then partitions n m phase ps later pools more roots grows all then h k g low high;
  cached = cached_then partitions n m phase ps later pools more roots grows all then h k g low high;
}
