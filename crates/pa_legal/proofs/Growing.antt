-- A root's numbers go on when its journal grows.
use Rattle.std.proofs.Common.{◌≡◌, ℕ, List, [], ◌∷◌, ◌++◌, Option, filter, refl, sym, ◌∙◌, ap, append_assoc, cond, arith}
use Rattle.std.proofs.lemmas.List.Elements.{filter-append}
use Rattle.pa_slot.specs.declared.word.SlotName.{SlotName}
use Rattle.pa_record.specs.declared.root.RootEntry.{RootEntry}
use Rattle.pa_rules.specs.Holders.{Move, moves_by, Way, Out, Back}
use Rattle.pa_legal.specs.Numbers.{all_moves, is_of, moves_of, at_after, IsNumbered, at_end, NumbersGrow}
use Rattle.pa_legal.proofs.Standing.{counted}
use Rattle.pa_legal.specs.Turns.{is_out}
use Rattle.pa_legal.specs.Flows.{is_back}
use Rattle.std.proofs.lemmas.List.Sums.{sum_by-cons}

pub numbered_append : (at : Option ℕ) (ms ns : List Move) → IsNumbered at ms → IsNumbered (at_end at ms) ns → IsNumbered at (ms ++ ns)
numbered_append at [] ns first rest = rest
numbered_append at (m ∷ ms) ns (has, first) rest = (has, numbered_append (at_after m.way m.number) ms ns first rest)

pub at_end_append : (at : Option ℕ) (ms ns : List Move) → at_end at (ms ++ ns) ≡ at_end (at_end at ms) ns
at_end_append at [] ns = refl
at_end_append at (m ∷ ms) ns = at_end_append (at_after m.way m.number) ms ns

all_more : (journal more : List RootEntry) → all_moves (journal ++ more) ≡ all_moves journal ++ all_moves more
all_more [] more = refl
all_more (e ∷ es) more = ap (λ ms. moves_by e.line e.act ++ ms) (all_more es more) ∙
    sym (append_assoc (moves_by e.line e.act) (all_moves es) (all_moves more))

pub moves_append : (journal more : List RootEntry) (s : SlotName) → moves_of (journal ++ more) s ≡ moves_of journal s ++ moves_of more s
moves_append journal more s = ap (filter (is_of s)) (all_more journal more) ∙ filter-append (is_of s) (all_moves journal) (all_moves more)

pub numbers_grow : NumbersGrow
numbers_grow = record { fits = numbered_append; ends = at_end_append; moves = moves_append }

pub none_counted : (ms : List Move) → counted is_out ms ≡ 0 → counted is_back ms ≡ 0 → ms ≡ []
none_counted [] out back = refl
none_counted (m ∷ ms) out back = by_way m.way refl
  where
    by_way : (w : Way) → m.way ≡ w → m ∷ ms ≡ []
    by_way Out e =
        let c = sum_by-cons (λ (x : Move). cond {A = ℕ} (is_out x.way) 1 0) m ms in
        let k : cond {A = ℕ} (is_out m.way) 1 0 ≡ 1 = ap (λ x. cond {A = ℕ} (is_out x) 1 0) e in
        absurd (omega arith)
    by_way Back e =
        let c = sum_by-cons (λ (x : Move). cond {A = ℕ} (is_back x.way) 1 0) m ms in
        let k : cond {A = ℕ} (is_back m.way) 1 0 ≡ 1 = ap (λ x. cond {A = ℕ} (is_back x) 1 0) e in
        absurd (omega arith)
