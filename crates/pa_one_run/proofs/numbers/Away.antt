-- By the entries before a line a slot is in the root at the number at which a fill of the line takes it, and away at the number of a word
-- that isn't free.
use Rattle.std.proofs.Common.{◌≡◌, ℕ, Bool, true, false, not, List, [], ◌∷◌, ◌++◌, map, Option, refl, sym, ◌∙◌, ap, subst, inl, arith, ◌+◌, inr}
use Rattle.std.specs.Prelude.{Contains, ◌==◌}
use Rattle.std.proofs.lemmas.Bool.{ne_eqb}
use Rattle.std.proofs.lemmas.List.{append_assoc, map-append}
use Rattle.std.proofs.lemmas.List.Elements.{Contains-append_right}
use Rattle.pa_slot.specs.declared.word.SlotName.{SlotName}
use Rattle.pa_slot.specs.Count.{number_of, held_of, refs_of}
use Rattle.pa_slot.specs.Run.{Mark}
use Rattle.pa_record.specs.declared.numbered.Numbered.{Numbered}
use Rattle.pa_record.specs.declared.root.RootEntry.{RootEntry}
use Rattle.pa_record.specs.declared.root.RootAct.{RootAct}
use Rattle.pa_record.specs.declared.root.RootAct.TheVariants.{Fill}
use Rattle.pa_lists.proofs.Members.{first_in}
use Rattle.pa_rules.specs.declared.played.Played.{Played}
use Rattle.pa_rules.specs.Played.{marks_of}
use Rattle.pa_rules.specs.Caches.{acts_of}
use Rattle.pa_rules.specs.Holders.{Holder, InRoot, Out, Way, Move, moves_at, IsFirstHolder, HasHolders}
use Rattle.pa_one_run.specs.Parts.{Parts, entry_line}
use Rattle.pa_one_run.specs.Before.{below, on, past}
use Rattle.pa_one_run.proofs.lines.Sorting.{below_on_past, below_none, below_next}
use Rattle.pa_one_run.proofs.Filed.{IsFiled}
use Rattle.pa_one_run.proofs.numbers.Ways.{ways_of, is_away, WaysFit, ways_append, fit_later, ways_in_some, way_at, moves_ways, holders_fit}
use Rattle.pa_one_run.proofs.words.Found.{held_free}
use Rattle.pa_lists.proofs.Elements.{left_none}
use Rattle.pa_one_run.proofs.lines.Cuts.{IsCut, entries_recorded, recorded_cases, cut_next}

abbrev pub entry_act : RootEntry → RootAct
entry_act e = e.act

-- what the entries of partition p before line n did
abbrev pub acts_before : Parts → ℕ → ℕ → List RootAct
acts_before a n p = map entry_act (below entry_line n (a.roots p))

abbrev acts_past : Parts → ℕ → ℕ → List RootAct
acts_past a n p = map entry_act (past entry_line n (a.roots p))

-- what a journal did before a line, on it and past it
journal_parts : (a : Parts) (n p : ℕ) → IsFiled a → map entry_act (a.roots p) ≡ acts_before a n p ++
    (acts_of a.roots n p ++ acts_past a n p)
journal_parts a n p h =
    let front = below entry_line n (a.roots p) in
    let here = on entry_line n (a.roots p) in
    let rest = past entry_line n (a.roots p) in
    ap (map entry_act) (below_on_past entry_line n (a.roots p) (h.order.journals p))
    ∙ ap (map entry_act) (append_assoc front here rest)
    ∙ map-append entry_act front (here ++ rest)
    ∙ ap (λ acts. acts_before a n p ++ acts) (map-append entry_act here rest)

journal_ways : (a : Parts) (n p : ℕ) (s : SlotName) (k : ℕ) → IsFiled a →
    ways_of s k (map entry_act (a.roots p)) ≡ ways_of s k (acts_before a n p) ++
    (ways_of s k (acts_of a.roots n p) ++ ways_of s k (acts_past a n p))
journal_ways a n p s k h =
    ap (ways_of s k) (journal_parts a n p h)
    ∙ ways_append s k (acts_before a n p) (acts_of a.roots n p ++ acts_past a n p)
    ∙ ap (λ ws. ways_of s k (acts_before a n p) ++ ws) (ways_append s k (acts_of a.roots n p) (acts_past a n p))

-- a line's ways have the slot where the entries before the line left it
line_fits : (a : Parts) (n p : ℕ) (s : SlotName) (k : ℕ) → IsFiled a →
    WaysFit (is_away (acts_before a n p) s k) (ways_of s k (acts_of a.roots n p) ++ ways_of s k (acts_past a n p))
line_fits a n p s k h =
    let all : WaysFit (not (k == 0)) (ways_of s k (map entry_act (a.roots p))) =
    subst (WaysFit (not (k == 0))) (moves_ways (a.roots p) s k) (holders_fit a.ps s k (moves_at (a.roots p) s k) (h.holders.moves p s k)) in
    fit_later (not (k == 0)) (ways_of s k (acts_before a n p)) (ways_of s k (acts_of a.roots n p) ++ ways_of s k (acts_past a n p))
    (subst (WaysFit (not (k == 0))) (journal_ways a n p s k h) all)

out_needs : (b : Bool) (ws vs us : List Way) → ws ≡ Out ∷ vs → WaysFit b (ws ++ us) → b ≡ false
out_needs b ws vs us is fit = let fit' : WaysFit b (Out ∷ (vs ++ us)) = rw is at fit in fit'.0

-- what a fill takes is in the root before its line
pub fill_finds : (a : Parts) (n p class : ℕ) (asked : Option ℕ) (slots : List Numbered) (m : Numbered) → IsFiled a →
    acts_of a.roots n p ≡ Fill class asked slots ∷ [] → Contains slots m →
    is_away (acts_before a n p) m.slot m.number ≡ false
fill_finds a n p class asked slots m h only among =
    let (vs, is) = ways_in_some Out m.slot m.number slots m among refl refl in
    let here : ways_of m.slot m.number (acts_of a.roots n p) ≡ Out ∷ (vs ++ []) = ap (ways_of m.slot m.number) only ∙
    ap (λ ws. ws ++ []) is in
    out_needs (is_away (acts_before a n p) m.slot m.number) (ways_of m.slot m.number (acts_of a.roots n p)) (vs ++ [])
    (ways_of m.slot m.number (acts_past a n p)) here
    (line_fits a n p m.slot m.number h)

no_moves : (ps : List Played) (s : SlotName) (k : ℕ) (ms : List Move) → HasHolders ps s k ms → ((h : Holder) → IsFirstHolder ps s k h → ⊥) →
    ms ≡ []
no_moves ps s k [] has none = refl
no_moves ps s k (m ∷ ms) (h, first, fit) none = absurd (none h first)

-- a word that isn't free has a slot that is away at its number
pub unfree_away : (a : Parts) (n p : ℕ) (mark : Mark) → IsFiled a → Contains (marks_of a.ps) mark →
    ((held_of mark.found ≡ 0) × (refs_of mark.found ≡ 0) → ⊥) →
    is_away (acts_before a n p) mark.slot (number_of mark.found) ≡ true
unfree_away a n p mark h among unfree =
    let s = mark.slot in
    let k = number_of mark.found in
    let unheld : (holder : Holder) → IsFirstHolder a.ps s k holder →
    ⊥ = λ holder first. unfree (held_free a s k holder mark h first among refl refl) in
    let none : moves_at (a.roots p) s k ≡ [] = no_moves a.ps s k (moves_at (a.roots p) s k) (h.holders.moves p s k) unheld in
    let all : ways_of s k (map entry_act (a.roots p)) ≡ [] = sym (moves_ways (a.roots p) s k) ∙ ap (map way_at) none in
    let front : ways_of s k (acts_before a n p) ≡ [] = left_none (ways_of s k (acts_before a n p))
    (ways_of s k (acts_of a.roots n p) ++ ways_of s k (acts_past a n p)) (sym (journal_ways a n p s k h) ∙ all) in
    rw (front, ne_eqb k 0 (λ e. unheld InRoot (inl (e, refl)))) refl

-- ---- one record more

-- what the entries before the next line did
pub acts_next : (a : Parts) (before rest : List Played) (x : Played) (n p : ℕ) → IsFiled a → a.ps ≡ before ++ x ∷ rest →
    IsCut a n (before ++ x ∷ []) rest →
    acts_before a n p ≡ acts_before a x.line p ++ acts_of a.roots x.line p
acts_next a before rest x n p h parts cut =
    let up = cut.early x (Contains-append_right before (x ∷ []) x (first_in x [])) in
    ap (map entry_act) (below_next entry_line x.line n (a.roots p) up
    (λ e among past. elim (recorded_cases a (x.line + 1) n (before ++ x ∷ []) rest (cut_next a before rest x h parts) cut.late e.line
    (entries_recorded a p e h among)) [
      | inl low ↦ absurd (omega arith)
      | inr high ↦ high
    ]) (h.order.journals p))
    ∙ map-append entry_act (below entry_line x.line (a.roots p)) (on entry_line x.line (a.roots p))

-- before the first record there are no entries
pub acts_none : (a : Parts) (n p : ℕ) → IsFiled a → IsCut a n [] a.ps → acts_before a n p ≡ []
acts_none a n p h cut = ap (map entry_act)
    (below_none entry_line n (a.roots p) (λ e among. let (y, (played, same)) = entries_recorded a p e h among in
    let up = cut.late y played in omega arith))
