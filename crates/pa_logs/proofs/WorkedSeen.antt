-- What the seats of the worked records had seen is in order.
use Rattle.std.proofs.Common.{◌≡◌, ◌≢◌, ℕ, ◌+◌, ◌<◌, ◌≤◌, Bool, true, false, List, [], ◌∷◌, Some, refl, sym, ◌∙◌, ap, arith, inl, inr, slice_get}
use Rattle.std.specs.Prelude.{Contains, AllPairs, if◌then◌else◌}
use Rattle.pa_slot.specs.declared.title.Title.{Title}
use Rattle.pa_slot.specs.declared.word.Step.{Step}
use Rattle.pa_slot.specs.declared.word.Step.TheVariants.{Issue, Copy, Free}
use Rattle.pa_slot.specs.Count.{number_of}
use Rattle.pa_slot.specs.Titles.{same_title}
use Rattle.pa_record.specs.declared.history.CellEntry.{CellEntry}
use Rattle.pa_lists.proofs.Joined.{map_cases}
use Rattle.pa_lists.proofs.Members.{not_in_none, in_cases}
use Rattle.pa_lists.proofs.Pairs.{pairs_none, pairs_cons}
use Rattle.pa_region.specs.declared.view.Entry.TheVariants.{Counted, Looked, Read}
use Rattle.pa_region.specs.Moves.{no_deeds}
use Rattle.pa_trace.specs.declared.script.Op.TheVariants.{Swap}
use Rattle.pa_rules.specs.declared.played.Played.{Played}
use Rattle.pa_rules.specs.Cells.{AreCells}
use Rattle.pa_rules.specs.Order.{StandsBefore}
use Rattle.pa_logs.specs.Told.{ToldRecord, played_in}
use Rattle.pa_logs.specs.Viewed.{IsOrdered, AreViewed}
use Rattle.pa_logs.specs.Worked.{its_title, at_number, the_maker, the_copy, the_reader, the_free, worked_records, no_cells, WorkedIsSeen}
use Rattle.pa_logs.proofs.Sums.{title_same, entry_step}
use Rattle.pa_logs.proofs.Worked.{by_four, in_first}

-- an exchange of no cell
no_entry : (j : ℕ) (e : CellEntry) → slice_get [] j ≡ Some e → ⊥
no_entry j e at_j = cc

phase_one : (p : Played) → Contains (played_in worked_records) p → p.phase ≡ 1
phase_one p among =
    let (x, there, e) = map_cases (λ (z : ToldRecord). z.played) worked_records p among in
    ap (λ (z : Played). z.phase) (sym e) ∙ in_first x there

no_swap : (p : Played) (k reg : ℕ) → Contains (played_in worked_records) p → p.op ≡ Swap k reg → ⊥
no_swap p k reg among op =
    let (x, there, e) = map_cases (λ (z : ToldRecord). z.played) worked_records p among in
    by_four (λ (y : ToldRecord). y.played.op ≡ Swap k reg → ⊥)
    ((λ is. absurd cc), ((λ is. absurd cc), ((λ is. absurd cc), ((λ is. absurd cc), tt)))) x there
    (ap (λ (z : Played). z.op) e ∙ op)

are_cells : AreCells no_cells (played_in worked_records)
are_cells = record {
  chain = λ k. tt;
  lines = λ k j e at_j. absurd (no_entry j e at_j);
  different = λ k l i j e f at_i at_j same. absurd (no_entry i e at_i);
  answers = λ p k reg among op. absurd (no_swap p k reg among op);
  order = λ k i j e f p q at_i at_j of other before. absurd (no_entry i e at_i);
}

-- each two lines differ
abbrev OtherLine : Played → Played → Type 0
OtherLine x y = x.line ≢ y.line

abbrev IsPast : ℕ → List Played → Type 0
IsPast line ps = (y : Played) → Contains ps y → line < y.line

past_none : (line : ℕ) → IsPast line []
past_none line y among = absurd (not_in_none y among)

past_more : (line : ℕ) (x : Played) (ps : List Played) → line < x.line → IsPast line ps → IsPast line (x ∷ ps)
past_more line x ps less past y among = elim (in_cases x y ps among) [
  | inl e ↦ let same : x.line ≡ y.line = ap (λ (z : Played). z.line) e in omega arith
  | inr rest ↦ past y rest
]

apart : (x : Played) (ps : List Played) → IsPast x.line ps → AllPairs OtherLine ps → AllPairs OtherLine (x ∷ ps)
apart x ps past rest = pairs_cons OtherLine x ps (λ y among same. let less = past y among in absurd (omega arith)) rest

all_apart : AllPairs OtherLine (played_in worked_records)
all_apart =
    let a = the_maker.played in
    let b = the_copy.played in
    let c = the_reader.played in
    let d = the_free.played in
    apart a (b ∷ c ∷ d ∷ [])
    (past_more 2 b (c ∷ d ∷ []) (omega arith) (past_more 2 c (d ∷ []) (omega arith) (past_more 2 d [] (omega arith) (past_none 2))))
    (apart b (c ∷ d ∷ []) (past_more 3 c (d ∷ []) (omega arith) (past_more 3 d [] (omega arith) (past_none 3)))
    (apart c (d ∷ []) (past_more 4 d [] (omega arith) (past_none 4)) (apart d [] (past_none 5) (pairs_none OtherLine))))

ordered : IsOrdered no_cells (λ line. line) (played_in worked_records)
ordered = record {
  cells_are = are_cells;
  lines = all_apart;
  phases = λ x y first second late. let a = phase_one x first in let b = phase_one y second in absurd (omega arith);
  handed = λ x y h. absurd (no_entry h.1 h.2 h.4);
  threads = λ x y first second is other thread less. absurd (no_swap x is.0 is.1 first is.2);
}

-- numbers that were seen
at_less : (n m : ℕ) (t : Title) → n ≤ m → at_number n t ≤ at_number m t
at_less n m t less = go (same_title its_title t)
  where
    go : (b : Bool) → (if b then n else 0) ≤ (if b then m else 0)
    go true = less
    go false = omega arith

-- what a step of the title was seen to find and leaves
abbrev HasSeen : ℕ → ℕ → Title → ℕ → Type 0
HasSeen saw gives t found = (at_number saw t ≤ number_of found) × (number_of found + 1 ≤ at_number gives t)

one_step : (p : Step) (w v saw gives : ℕ) → saw ≤ number_of w → number_of w + 1 ≤ gives → (t : Title) (step : Step) (found value : ℕ)
    → Contains (Counted its_title p w v ∷ []) (Counted t step found value) →
    HasSeen saw gives t found
one_step p w v saw gives low high t step found value among =
    elim (in_cases (Counted its_title p w v) (Counted t step found value) [] among) [
      | inl e ↦
          let same = title_same its_title t p step w found v value e in
          let word : number_of found ≡ number_of w = ap number_of (entry_step its_title t p step w found v value e).1 in
          let a : at_number saw t ≡ saw = ap (at_number saw) (sym same) in
          let b : at_number gives t ≡ gives = ap (at_number gives) (sym same) in
          (omega arith, omega arith)
      | inr none ↦ absurd (not_in_none (Counted t step found value) none)
    ]

no_step : (w : ℕ) (t : Title) (step : Step) (found value : ℕ) →
    Contains (Looked its_title w ∷ Read its_title 0 0 no_deeds false false ∷ []) (Counted t step found value) → ⊥
no_step w t step found value among =
    elim (in_cases (Looked its_title w) (Counted t step found value) (Read its_title 0 0 no_deeds false false ∷ []) among) [
      | inl e ↦ absurd cc
      | inr rest ↦ elim (in_cases (Read its_title 0 0 no_deeds false false) (Counted t step found value) [] rest)
          [ inl e ↦ absurd cc | inr none ↦ absurd (not_in_none (Counted t step found value) none) ]
    ]

no_look : (p : Step) (w v : ℕ) (t : Title) (found : ℕ) → Contains (Counted its_title p w v ∷ []) (Looked t found) → ⊥
no_look p w v t found among =
    elim (in_cases (Counted its_title p w v) (Looked t found) [] among)
    [ inl e ↦ absurd cc | inr none ↦ absurd (not_in_none (Looked t found) none) ]

look_parts : (a b : Title) (w u : ℕ) → Looked a w ≡ Looked b u → (a ≡ b) × (w ≡ u)
look_parts a b w u e = (cc, cc)

one_look : (w seen : ℕ) → number_of w ≡ seen → (t : Title) (found : ℕ) →
    Contains (Looked its_title w ∷ Read its_title 0 0 no_deeds false false ∷ []) (Looked t found) →
    (at_number seen t ≤ number_of found) × (number_of found ≤ at_number seen t)
one_look w seen is t found among =
    elim (in_cases (Looked its_title w) (Looked t found) (Read its_title 0 0 no_deeds false false ∷ []) among) [
      | inl e ↦
          let (same, word) = look_parts its_title t w found e in
          let a : at_number seen t ≡ seen = ap (at_number seen) (sym same) in
          let b : number_of w ≡ number_of found = ap number_of word in
          (omega arith, omega arith)
      | inr rest ↦ elim (in_cases (Read its_title 0 0 no_deeds false false) (Looked t found) [] rest)
          [ inl e ↦ absurd cc | inr none ↦ absurd (not_in_none (Looked t found) none) ]
    ]

abbrev SawSteps : ToldRecord → Type 0
SawSteps x = (t : Title) (step : Step) (found value : ℕ) → Contains x.stretch (Counted t step found value) → (x.saw t ≤ number_of found) ×
    (number_of found + 1 ≤ x.gives t)

abbrev SawLooks : ToldRecord → Type 0
SawLooks x = (t : Title) (found : ℕ) → Contains x.stretch (Looked t found) → (x.saw t ≤ number_of found) × (number_of found ≤ x.gives t)

-- if the second record comes after the first, it has seen what the first hands on
abbrev Handed : Title → ToldRecord → ToldRecord → Type 0
Handed t x y = StandsBefore x.played y.played → x.gives t ≤ y.saw t

apart_threads : (x y : Played) → (x.thread ≡ y.thread → x.line < y.line → ⊥) → x.phase ≡ y.phase → StandsBefore x y → ⊥
apart_threads x y never same (inl (thread, less)) = never thread less
apart_threads x y never same (inr late) = absurd (omega arith)

not_after : (t : Title) (x y : ToldRecord) → (x.played.thread ≡ y.played.thread → x.played.line < y.played.line → ⊥) →
    x.played.phase ≡ y.played.phase → Handed t x y
not_after t x y never same before = absurd (apart_threads x.played y.played never same before)

from_maker : (t : Title) (y : ToldRecord) → Contains worked_records y → Handed t the_maker y
from_maker t y second = by_four (Handed t the_maker) (
  not_after t the_maker the_maker (λ s l. absurd (omega arith)) refl,
  (
    (λ before. at_less 1 1 t (omega arith)),
    (
      not_after t the_maker the_reader (λ s l. absurd (omega arith)) refl,
      ((λ before. at_less 1 2 t (omega arith)), tt),
    ),
  ),
) y second

from_copy : (t : Title) (y : ToldRecord) → Contains worked_records y → Handed t the_copy y
from_copy t y second = by_four (Handed t the_copy) (
  not_after t the_copy the_maker (λ s l. absurd (omega arith)) refl,
  (
    not_after t the_copy the_copy (λ s l. absurd (omega arith)) refl,
    (not_after t the_copy the_reader (λ s l. absurd (omega arith)) refl, ((λ before. at_less 2 2 t (omega arith)), tt)),
  ),
) y second

from_reader : (t : Title) (y : ToldRecord) → Contains worked_records y → Handed t the_reader y
from_reader t y second = by_four (Handed t the_reader) (
  not_after t the_reader the_maker (λ s l. absurd (omega arith)) refl,
  (
    not_after t the_reader the_copy (λ s l. absurd (omega arith)) refl,
    (
      not_after t the_reader the_reader (λ s l. absurd (omega arith)) refl,
      (not_after t the_reader the_free (λ s l. absurd (omega arith)) refl, tt),
    ),
  ),
) y second

from_free : (t : Title) (y : ToldRecord) → Contains worked_records y → Handed t the_free y
from_free t y second = by_four (Handed t the_free) (
  not_after t the_free the_maker (λ s l. absurd (omega arith)) refl,
  (
    not_after t the_free the_copy (λ s l. absurd (omega arith)) refl,
    (
      not_after t the_free the_reader (λ s l. absurd (omega arith)) refl,
      (not_after t the_free the_free (λ s l. absurd (omega arith)) refl, tt),
    ),
  ),
) y second

stands_in : (t : Title) (x y : ToldRecord) → Contains worked_records x → Contains worked_records y → Handed t x y
stands_in t x y first second =
    by_four (λ (z : ToldRecord). Handed t z y) (
      from_maker t y second,
      (from_copy t y second, (from_reader t y second, (from_free t y second, tt))),
    ) x first

viewed : AreViewed no_cells worked_records
viewed = record {
  steps = λ x t step found value among. by_four SawSteps (
    one_step Issue 0 0 0 1 (omega arith) (omega arith),
    (
      one_step Copy 16777217 0 1 2 (omega arith) (omega arith),
      (
        (λ u p w v there. absurd (no_step 33554435 u p w v there)),
        (one_step Free 33554435 0 2 3 (omega arith) (omega arith), tt),
      ),
    ),
  ) x among t step found value;
  looks = λ x t found among. by_four SawLooks (
    (λ u w there. absurd (no_look Issue 0 0 u w there)),
    (
      (λ u w there. absurd (no_look Copy 16777217 0 u w there)),
      (
        one_look 33554435 2 refl,
        ((λ u w there. absurd (no_look Free 33554435 0 u w there)), tt),
      ),
    ),
  ) x among t found;
  grows = λ x t among. by_four (λ (y : ToldRecord). y.saw t ≤ y.gives t)
      (at_less 0 1 t (omega arith), (at_less 1 2 t (omega arith), (at_less 2 2 t (omega arith), (at_less 2 3 t (omega arith), tt)))) x
      among;
  stands = λ x y t first second before. stands_in t x y first second before;
  hands = λ x y t first second h. absurd (no_entry h.1 h.2 h.4);
}

pub worked_is_seen : WorkedIsSeen
worked_is_seen = (ordered, viewed)
