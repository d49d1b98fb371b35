-- The records of a run cut before a line: which are on each side, the records of entries and exchanges, and the caches at the cut.
use Rattle.std.proofs.Common.{◌≡◌, ℕ, ◌+◌, ◌<◌, ◌≤◌, ◌⊎◌, List, [], ◌∷◌, ◌++◌, refl, sym, ◌∙◌, ap, subst, arith, inl, inr, append_assoc}
use Rattle.std.specs.Prelude.{Contains, AllPairs}
use Rattle.std.proofs.lemmas.List.Elements.{Contains-append_cases}
use Rattle.pa_trace.specs.declared.script.Op.TheVariants.{Swap}
use Rattle.pa_record.specs.declared.history.CellEntry.{CellEntry}
use Rattle.pa_record.specs.declared.pool.PoolEntry.{PoolEntry}
use Rattle.pa_record.specs.declared.root.RootEntry.{RootEntry}
use Rattle.pa_lists.proofs.Members.{not_in_none, first_in, in_cases}
use Rattle.pa_lists.proofs.Pairs.{pairs_head}
use Rattle.pa_rules.specs.declared.played.Played.{Played}
use Rattle.pa_rules.specs.Roots.{MakesEntry}
use Rattle.pa_rules.specs.Order.{IsOfLine}
use Rattle.pa_rules.specs.Caches.{Cache, Caches, CacheRow, CachesTo, no_caches}
use Rattle.pa_rules.proofs.ByLines.{same_record}
use Rattle.pa_rules.proofs.Numbering.{rising_differ}
use Rattle.pa_legal.proofs.flow.Cuts.{caches_cut}
use Rattle.pa_one_run.specs.Parts.{Parts}
use Rattle.pa_lists.proofs.Elements.{in_one, pairs_across, pairs_after}
use Rattle.pa_one_run.proofs.Filed.{IsFiled, Earlier}
use Rattle.pa_lists.proofs.Indexed.{in_at}

-- the records before a line, and those from it on
pub record IsCut (a : Parts) (n : ℕ) (before rest : List Played) : Type 0 where
  pub parts : a.ps ≡ before ++ rest
  pub early : (x : Played) → Contains before x → x.line < n
  pub late : (x : Played) → Contains rest x → n ≤ x.line

pub cut_start : (a : Parts) → IsCut a 0 [] a.ps
cut_start a = record { parts = refl; early = λ x among. absurd (not_in_none x among); late = λ x among. omega arith }

module _ (a : Parts) (before rest : List Played) (x : Played) (h : IsFiled a) (parts : a.ps ≡ before ++ x ∷ rest) where
  rising : AllPairs Earlier (before ++ x ∷ rest)
  rising = subst (AllPairs Earlier) parts h.rising

  earlier : (y : Played) → Contains before y → y.line < x.line
  earlier y among = pairs_across Earlier before (x ∷ rest) y x rising among (first_in x rest)

  later : (y : Played) → Contains rest y → x.line < y.line
  later y among = pairs_head Earlier x y rest (pairs_after Earlier before (x ∷ rest) rising) among

  -- at the line of a record
  pub cut_here : IsCut a x.line before (x ∷ rest)
  cut_here = record {
    parts = parts;
    early = earlier;
    late = λ y among. elim (in_cases x y rest among) [
      | inl e ↦ let same : x.line ≡ y.line = ap (λ (z : Played). z.line) e in omega arith
      | inr behind ↦ let less = later y behind in omega arith
    ];
  }

  -- at the next line
  pub cut_next : IsCut a (x.line + 1) (before ++ x ∷ []) rest
  cut_next = record {
    parts = parts ∙ sym (append_assoc before (x ∷ []) rest);
    early = λ y among. elim (Contains-append_cases before (x ∷ []) y among) [
      | inl front ↦ let less = earlier y front in omega arith
      | inr last ↦ let same : x.line ≡ y.line = ap (λ (z : Played). z.line) (in_one x y last) in omega arith
    ];
    late = λ y among. let less = later y among in omega arith;
  }

-- a record of a lesser line comes before
pub early_in : (a : Parts) (n : ℕ) (before rest : List Played) (q : Played) → IsCut a n before rest → Contains a.ps q → q.line < n →
    Contains before q
early_in a n before rest q cut among less = elim (Contains-append_cases before rest q (subst (λ z. Contains z q) cut.parts among)) [
  | inl first ↦ first
  | inr from ↦ let up = cut.late q from in absurd (omega arith)
]

-- one line has one record
pub same_played : (a : Parts) (x y : Played) → IsFiled a → Contains a.ps x → Contains a.ps y → x.line ≡ y.line → x ≡ y
same_played a x y h first second e = same_record a.ps x y (rising_differ a.ps h.rising) first second e

-- ---- each entry and exchange is on the line of a record

-- the record of an entry's line makes it
pub entry_made : (a : Parts) (p : ℕ) (e : RootEntry) → IsFiled a → Contains (a.roots p) e → (x : Played) × IsOfLine a.ps e.line x ×
    MakesEntry a.pools p e.act x
entry_made a p e h among = let (j, at) = in_at (a.roots p) e among in h.journals.lines p j e at

-- some record has the line
abbrev pub IsRecorded : Parts → ℕ → Type 0
IsRecorded a line = (x : Played) × IsOfLine a.ps line x

pub entries_recorded : (a : Parts) (p : ℕ) (e : RootEntry) → IsFiled a → Contains (a.roots p) e → IsRecorded a e.line
entries_recorded a p e h among = let (x, of, makes) = entry_made a p e h among in (x, of)

pub pool_recorded : (a : Parts) (e : PoolEntry) → IsFiled a → Contains a.pools e → IsRecorded a e.line
pool_recorded a e h among =
    let (j, at) = in_at a.pools e among in
    let (i, f, named, asks, line) = h.pool.named j e at in
    let (x, of, makes) = h.journals.lines e.partition i f named in
    (x, (of.0, of.1 ∙ line))

-- the record of an exchange's line swaps with its cell
pub exchange_made : (a : Parts) (k : ℕ) (e : CellEntry) → IsFiled a → Contains (a.cells k) e → (x : Played) × (reg : ℕ) × Contains a.ps x ×
    (x.line ≡ e.line) × (x.op ≡ Swap k reg)
exchange_made a k e h among =
    let (j, at) = in_at (a.cells k) e among in
    let (x, reg, of, op) = h.exchanged.lines k j e at in
    (x, reg, of.0, of.1, op)

pub cells_recorded : (a : Parts) (k : ℕ) (e : CellEntry) → IsFiled a → Contains (a.cells k) e → IsRecorded a e.line
cells_recorded a k e h among = let (x, reg, there, line, op) = exchange_made a k e h among in (x, (there, line))

-- the line of a record is before the cut at n, or from m on if all records after the cut are
pub recorded_cases : (a : Parts) (n m : ℕ) (before rest : List Played) → IsCut a n before rest
    → ((x : Played) → Contains rest x → m ≤ x.line) → (line : ℕ) → IsRecorded a line → (line < n) ⊎ (m ≤ line)
recorded_cases a n m before rest cut late line (x, (among, same)) =
    elim (Contains-append_cases before rest x (subst (λ z. Contains z x) cut.parts among)) [
      | inl first ↦ let low = cut.early x first in inl (omega arith)
      | inr after ↦ let high = late x after in inr (omega arith)
    ]

-- ---- the caches at a cut

-- the caches before a record, and its row
pub record_row : (a : Parts) (before rest : List Played) (x : Played) → IsFiled a → a.ps ≡ before ++ x ∷ rest →
    (all : Caches) × (next : Cache) × CachesTo a.partitions a.roots no_caches before all ×
    CacheRow a.partitions a.roots x x.answer (all x.thread) next
record_row a before rest x h parts =
    let (last, to) = h.caches in
    let (all, front, (next, row, back)) =
    caches_cut a.partitions a.roots no_caches before (x ∷ rest) last
    (subst (λ ps. CachesTo a.partitions a.roots no_caches ps last) parts to) in
    (all, next, front, row)
