-- The moves of an entry's slots, and of a journal's entries.
use Rattle.std.proofs.Common.{◌≡◌, ℕ, ◌+◌, ◌<◌, ◌≤◌, ◌↔◌, Bool, true, false, List, [], ◌∷◌, ◌++◌, get_or, length, map, take, Option, Some, None, refl, sym, ◌∙◌, ap, subst, arith, append_assoc, inl, inr}
use Rattle.std.specs.Prelude.{IsTrue, filter}
use Rattle.std.proofs.lemmas.Bool.{cases_lt, false≢true}
use Rattle.std.proofs.lemmas.List.{append-nil, map_more}
use Rattle.std.proofs.lemmas.List.Concat.{flat_map-append}
use Rattle.std.proofs.lemmas.List.Elements.{filter-append}
use Rattle.pa_record.specs.declared.numbered.Numbered.{Numbered}
use Rattle.pa_record.specs.declared.root.RootEntry.{RootEntry}
use Rattle.pa_rules.specs.declared.played.Played.{Played}
use Rattle.pa_rules.specs.Order.{IsOfLine}
use Rattle.pa_rules.specs.Holders.{Holder, Move, HolderAfter, IsFirstHolder, is_move_of, moves_at, moves_by, needed_by}
use Rattle.pa_rules.specs.Tells.{TellsFirst}
use Rattle.pa_audit_holders.specs.declared.owners.Course.{Course}
use Rattle.pa_audit_holders.specs.declared.owners.Owner.{Owner}
use Rattle.pa_audit_holders.specs.Owners.{AllFit, FirstSoFar, MoveFits, HasOwners, first_place, move_on}
use Rattle.pa_legal.specs.Numbers.{all_moves}

-- ---- slot by slot

-- the last of some moves
pub all_more : (ps : List Played) (ms xs : List Move) (m : Move) → AllFit ps ms xs → MoveFits ps (ms ++ xs) m → AllFit ps ms (xs ++ m ∷ [])
all_more ps ms [] m all fits = (subst (λ z. MoveFits ps z m) (append-nil ms) fits, tt)
all_more ps ms (x ∷ xs) m (first, rest) fits =
    (first, all_more ps (ms ++ x ∷ []) xs m rest (subst (λ z. MoveFits ps z m) (sym (append_assoc ms (x ∷ []) xs)) fits))

pub all_less : (ps : List Played) (ms xs : List Move) (m : Move) → AllFit ps ms (xs ++ m ∷ []) → AllFit ps ms xs × MoveFits ps (ms ++ xs) m
all_less ps ms [] m (fits, none) = (tt, subst (λ z. MoveFits ps z m) (sym (append-nil ms)) fits)
all_less ps ms (x ∷ xs) m (first, rest) =
    let (all, fits) = all_less ps (ms ++ x ∷ []) xs m rest in
    ((first, all), subst (λ z. MoveFits ps z m) (append_assoc ms (x ∷ []) xs) fits)

-- what is known of the first slots
pub record AreMoved (ps : List Played) (line : ℕ) (course : Course) (slots : List Numbered) (f g : ℕ → Option Owner) (i : ℕ)
    (all : Bool) : Type 0 where
  pub owners : (ms : List Move) → HasOwners ps ms f → HasOwners ps (ms ++ map (move_on line course) (take i slots)) g
  pub fits : (ms : List Move) → HasOwners ps ms f → IsTrue all ↔ AllFit ps ms (map (move_on line course) (take i slots))

pub moved_start : (ps : List Played) (line : ℕ) (course : Course) (slots : List Numbered) (f : ℕ → Option Owner) →
    AreMoved ps line course slots f f 0 true
moved_start ps line course slots f = record {
  owners = λ ms h. subst (λ z. HasOwners ps z f) (sym (append-nil ms)) h;
  fits = λ ms h. (λ yes. tt, λ all. refl);
}

pub moved_more : (ps : List Played) (line : ℕ) (course : Course) (slots : List Numbered) (f g k : ℕ → Option Owner) (i : ℕ) (d : Numbered)
    (all fits both : Bool) → i < length slots → AreMoved ps line course slots f g i all
    → ((ms : List Move) → HasOwners ps ms g → HasOwners ps (ms ++ move_on line course (get_or slots i d) ∷ []) k)
    → ((ms : List Move) → HasOwners ps ms g → IsTrue fits ↔ MoveFits ps ms (move_on line course (get_or slots i d))) →
    IsTrue both ↔ (IsTrue all × IsTrue fits)
    → AreMoved ps line course slots f k (i + 1) both
moved_more ps line course slots f g k i d all fits both below h owners fit joint =
    let m = move_on line course (get_or slots i d) in
    let so_far = map (move_on line course) (take i slots) in
    let more : map (move_on line course) (take (i + 1) slots) ≡ so_far ++ m ∷ [] = map_more (move_on line course) slots i d below in
    record {
      owners = λ ms own. subst (λ z. HasOwners ps z k) (append_assoc ms so_far (m ∷ []) ∙ ap (λ z. ms ++ z) (sym more))
          (owners (ms ++ so_far) (h.owners ms own));
      fits = λ ms own.
          let here = fit (ms ++ so_far) (h.owners ms own) in
          let before = h.fits ms own in (
            λ yes. subst (λ z. AllFit ps ms z) (sym more) (all_more ps ms so_far m (before.0 (joint.0 yes).0) (here.0 (joint.0 yes).1)),
            λ each. let (a, b) = all_less ps ms so_far m (subst (λ z. AllFit ps ms z) more each) in joint.1 (before.1 a, here.1 b),
          );
    }

-- ---- entry by entry

pub first_next : (P : ℕ → Type 0) (first : Option ℕ) (n : ℕ) (fits : Bool) → FirstSoFar P n first → IsTrue fits ↔ P n →
    FirstSoFar P (n + 1) (first_place first n fits)
first_next P (Some i) n fits h is = h
first_next P None n true h is = λ j less. elim (cases_lt j n) [
  | inl before ↦ h j before
  | inr least ↦ let same : n ≡ j = omega (arith, less, least) in subst P same (is.0 refl)
]
first_next P None n false h is = (λ met. false≢true (is.1 met), h)

pub first_tells : (P : ℕ → Type 0) (n : ℕ) (o : Option ℕ) → FirstSoFar P n o → ((j : ℕ) → n ≤ j → P j) → TellsFirst P o
first_tells P n None h past = λ j. elim (cases_lt j n) [ inl less ↦ h j less | inr more ↦ past j more ]
first_tells P n (Some i) h past = h

-- the moves of one entry more
pub moves_grown : (es : List RootEntry) (e : RootEntry) → all_moves (es ++ e ∷ []) ≡ all_moves es ++ moves_by e.line e.act
moves_grown es e =
    let f = λ (e : RootEntry). moves_by e.line e.act in
    flat_map-append f es (e ∷ []) ∙ ap (λ z. all_moves es ++ z) (append-nil (f e))

-- ---- what the clause asks

split_all : (ps : List Played) (ms moves : List Move) → AllFit ps ms moves → (before after : List Move) (m : Move) →
    moves ≡ before ++ m ∷ after → MoveFits ps (ms ++ before) m
split_all ps ms [] all [] after m e = absurd (cc e)
split_all ps ms [] all (b ∷ before) after m e = absurd (cc e)
split_all ps ms (x ∷ moves) (first, rest) [] after m e =
    let same : x ≡ m = cc e in
    subst (λ z. MoveFits ps z m) (sym (append-nil ms)) (subst (λ z. MoveFits ps ms z) same first)
split_all ps ms (x ∷ moves) (first, rest) (b ∷ before) after m e =
    let same : x ≡ b = cc e in
    let rest_is : moves ≡ before ++ m ∷ after = cc e in
    subst (λ z. MoveFits ps z m) (append_assoc ms (x ∷ []) before ∙ ap (λ z. ms ++ z ∷ before) same)
    (split_all ps (ms ++ x ∷ []) moves rest before after m rest_is)

all_split : (ps : List Played) (ms moves : List Move) →
    ((before after : List Move) (m : Move) → moves ≡ before ++ m ∷ after → MoveFits ps (ms ++ before) m) → AllFit ps ms moves
all_split ps ms [] h = tt
all_split ps ms (x ∷ moves) h = (
  subst (λ z. MoveFits ps z x) (append-nil ms) (h [] moves x refl),
  all_split ps (ms ++ x ∷ []) moves
      (λ before after m e. subst (λ z. MoveFits ps z m) (sym (append_assoc ms (x ∷ []) before))
      (h (x ∷ before) after m (ap (λ z. x ∷ z) e))),
)

-- the holder that an entry needs for one of its moves, as the clause puts it
abbrev pub HasHolder : List Played → List RootEntry → List Move → Move → Type 0
HasHolder ps journal before m =
    (h : Holder) × (x : Played) × IsFirstHolder ps m.slot m.number h × IsOfLine ps m.line x
    × HolderAfter ps h (moves_at journal m.slot m.number ++ filter (is_move_of m.slot m.number) before) (needed_by m.way x)

pub holds_is : (ps : List Played) (journal : List RootEntry) (moves : List Move) → AllFit ps (all_moves journal) moves
    → (before after : List Move) (m : Move) → moves ≡ before ++ m ∷ after → HasHolder ps journal before m
holds_is ps journal moves all before after m e =
    let (x, of, (h, first, to)) = split_all ps (all_moves journal) moves all before after m e in (
      h,
      x,
      first,
      of,
      subst (λ z. HolderAfter ps h z (needed_by m.way x))
          (filter-append (is_move_of m.slot m.number) (all_moves journal) before) to,
    )

pub holds_was : (ps : List Played) (journal : List RootEntry) (moves : List Move)
    → ((before after : List Move) (m : Move) → moves ≡ before ++ m ∷ after → HasHolder ps journal before m)
    → AllFit ps (all_moves journal) moves
holds_was ps journal moves h = all_split ps (all_moves journal) moves (λ before after m e.
    let (f, x, first, of, to) = h before after m e in (
      x,
      of,
      (
        f,
        first,
        subst (λ z. HolderAfter ps f z (needed_by m.way x))
            (sym (filter-append (is_move_of m.slot m.number) (all_moves journal) before)) to,
      ),
    ))
