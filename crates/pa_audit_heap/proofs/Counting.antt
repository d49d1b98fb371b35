-- What a root has at the end of each phase, while its journal is walked over.
use Rattle.std.proofs.Common.{◌≡◌, ℕ, ◌+◌, ◌-◌, ◌<◌, ◌≤◌, ◌⊎◌, List, [], ◌∷◌, ◌++◌, length, min, max, refl, sym, ◌∙◌, ap, subst, append_assoc, arith, inl, inr}
use Rattle.std.specs.Prelude.{All}
use Rattle.std.proofs.lemmas.Bool.{cases_lt}
use Rattle.std.proofs.lemmas.List.{append-nil}
use Rattle.std.proofs.lemmas.List.Elements.{All-nil, All-push, All-weaker}
use Rattle.std.proofs.lemmas.Option.{slice_get_within}
use Rattle.pa_record.specs.declared.census.Census.{Census}
use Rattle.pa_record.specs.declared.pool.PoolEntry.{PoolEntry}
use Rattle.pa_record.specs.declared.root.RootEntry.{RootEntry}
use Rattle.pa_record.specs.Census.{census}
use Rattle.pa_record.specs.Root.{new_root, root_replayed}
use Rattle.pa_rules.specs.declared.played.Played.{Played}
use Rattle.pa_rules.specs.Order.{IsOfLine}
use Rattle.pa_rules.specs.Report.{AreUntil, HasCensus, InPhases, PastPhases}
use Rattle.pa_audit_records.proofs.Cutting.{each_none}
use Rattle.pa_audit_heap.specs.Walking.{AreCounted, AreFilledUp}

-- ---- phases

phases_later : (ps : List Played) (n m : ℕ) (es : List RootEntry) → n ≤ m → All (InPhases ps n) es → All (InPhases ps m) es
phases_later ps n m es up h = All-weaker (InPhases ps n) (InPhases ps m) (λ e (x, of, few). (x, of, omega (arith, few, up))) es h

all_until : (ps : List Played) (n : ℕ) (es : List RootEntry) → All (InPhases ps n) es → AreUntil ps n es es
all_until ps n es h = record { rest = []; parts = sym (append-nil es); in_phases = h; past_phases = All-nil (PastPhases ps n) }

until_more : (ps : List Played) (n : ℕ) (es before : List RootEntry) (e : RootEntry) → AreUntil ps n es before → PastPhases ps n e →
    AreUntil ps n (es ++ e ∷ []) before
until_more ps n es before e u past = record {
  rest = u.rest ++ e ∷ [];
  parts = ap (λ xs. xs ++ e ∷ []) u.parts ∙ append_assoc before u.rest (e ∷ []);
  in_phases = u.in_phases;
  past_phases = All-push (PastPhases ps n) u.rest e u.past_phases past;
}

-- ---- counting

pub counted_none : (phases : ℕ) (ps : List Played) (pools : List PoolEntry) (last : ℕ) → last ≤ 1 → AreCounted phases ps pools [] last []
counted_none phases ps pools last low = record {
  told = each_none (λ i c. HasCensus ps pools (λ p. []) (i + 1) 0 c);
  low = All-nil (InPhases ps last);
  few = omega arith;
  over = inl refl;
  all = inl (omega (arith, low));
}

-- a phase that is over before the next entry, at whose end nothing was counted yet
ends_here : (phases : ℕ) (ps : List Played) (pools : List PoolEntry) (es : List RootEntry) (last to i : ℕ) (before : List Census)
    (c : Census) → AreCounted phases ps pools es last before
    → c ≡ census (root_replayed pools es new_root) → to ≤ phases → i < to → length before ≤ i → HasCensus ps pools (λ p. es) (i + 1) 0 c
ends_here phases ps pools es last to i before c h is real below more =
    let up : last ≤ i + 1 = elim h.all [
      | inl near ↦ omega (arith, near, more)
      | inr full ↦ absurd (omega (arith, full, more, below, real))
    ] in
    (es, all_until ps (i + 1) es (phases_later ps last (i + 1) es up h.low), is)

over_later : (n last next to m : ℕ) → (n ≡ 0) ⊎ (n < last) → last ≤ next → to ≤ next - 1 → m ≡ max to n → (m ≡ 0) ⊎ (m < next)
over_later n last next to m (inl none) up short is = elim (cases_lt 0 to) [
  | inl some ↦ inr (omega (arith, some, none, short, is))
  | inr zero ↦ inl (omega (arith, zero, none, is))
]
over_later n last next to m (inr less) up short is = inr (omega (arith, less, up, short, is))

all_later : (phases next n to m : ℕ) → to ≡ min phases (next - 1) → m ≡ max to n → (next ≤ m + 1) ⊎ (phases ≤ m)
all_later phases next n to m same is = elim (cases_lt phases (next - 1)) [
  | inl less ↦ inr (omega (arith, less, same, is))
  | inr more ↦ inl (omega (arith, more, same, is))
]

pub counted_filled : (phases : ℕ) (ps : List Played) (pools : List PoolEntry) (es : List RootEntry) (last next to : ℕ)
    (before after : List Census) (c : Census)
    → AreCounted phases ps pools es last before → AreFilledUp c to before after → c ≡ census (root_replayed pools es new_root) →
    last ≤ next → to ≡ min phases (next - 1)
    → AreCounted phases ps pools es next after
counted_filled phases ps pools es last next to before after c h filled is later same =
    let few = h.few in
    let many = filled.many in
    record {
      told = λ i d at. elim (filled.each i d at) [
        | inl old ↦ h.told i d old
        | inr (more, one) ↦
            let below = slice_get_within after i d at in
            subst (λ z. HasCensus ps pools (λ p. es) (i + 1) 0 z) (sym one)
            (ends_here phases ps pools es last to i before c h is (omega (arith, same)) (omega (arith, below, many, more)) more)
      ];
      low = phases_later ps last next es later h.low;
      few = omega (arith, few, many, same);
      over = over_later (length before) last next to (length after) h.over later (omega (arith, same)) many;
      all = all_later phases next (length before) to (length after) same many;
    }

-- one entry more
pub counted_more : (phases : ℕ) (ps : List Played) (pools : List PoolEntry) (es : List RootEntry) (e : RootEntry) (x : Played)
    (censuses : List Census)
    → AreCounted phases ps pools es x.phase censuses → IsOfLine ps e.line x → AreCounted phases ps pools (es ++ e ∷ []) x.phase censuses
counted_more phases ps pools es e x censuses h of = record {
  told = λ i d at.
      let below = slice_get_within censuses i d at in
      let (before, until, is) = h.told i d at in
      let past : i + 1 < x.phase = elim h.over [ inl none ↦ absurd (omega (arith, none, below)) | inr less ↦ omega (arith, less, below) ] in
      (before, until_more ps (i + 1) es before e until (x, of, past), is);
  low = All-push (InPhases ps x.phase) es e h.low (x, of, omega arith);
  few = h.few;
  over = h.over;
  all = h.all;
}

-- all phases are over after the last entry
pub counted_all : (phases : ℕ) (ps : List Played) (pools : List PoolEntry) (es : List RootEntry) (last : ℕ)
    (before after : List Census) (c : Census)
    → AreCounted phases ps pools es last before → AreFilledUp c phases before after → c ≡ census (root_replayed pools es new_root)
    → AreCounted phases ps pools es (max last (phases + 1)) after × (length after ≡ phases)
counted_all phases ps pools es last before after c h filled is =
    let few = h.few in
    let many = filled.many in (
      counted_filled phases ps pools es last (max last (phases + 1)) phases before after c h filled is (omega arith) (omega arith),
      omega (arith, few, many),
    )
