-- The moves of a journal at a slot and a number, each with its entry and what comes before it there.
use Rattle.std.proofs.Common.{◌≡◌, ℕ, zero, suc, Bool, true, List, [], ◌∷◌, ◌++◌, take, drop, filter, flat_map, refl, subst, sym, ◌∙◌, ap, append_assoc, inl, inr, Some}
use Rattle.std.specs.Prelude.{slice_get}
use Rattle.std.proofs.lemmas.Bool.{cases_Bool}
use Rattle.std.proofs.lemmas.List.Elements.{filter-append}
use Rattle.pa_slot.specs.declared.word.SlotName.{SlotName}
use Rattle.pa_record.specs.declared.root.RootEntry.{RootEntry}
use Rattle.pa_lists.proofs.Members.{of_some, not_some}
use Rattle.pa_lists.proofs.Cuts.{append_cut}
use Rattle.pa_lists.proofs.Joined.{filter_here}
use Rattle.pa_rules.specs.Holders.{Move, moves_by, is_move_of, moves_at}

-- ---- filtered lists and their parts

-- a member of a filtered list, and what comes before it
record IsFiltered {A : Type 0} (test : A → Bool) (xs pre : List A) (x : A) : Type 0 where
  before : List A
  after : List A
  parts : xs ≡ before ++ x ∷ after
  passes : test x ≡ true
  first : filter test before ≡ pre

no_parts : {A : Type 0} (pre rest : List A) (x : A) → [] ≡ pre ++ x ∷ rest → ⊥
no_parts [] rest x e = absurd cc
no_parts (y ∷ pre) rest x e = absurd cc

head_one : {A : Type 0} (x y : A) (xs ys : List A) → x ∷ xs ≡ y ∷ ys → x ≡ y
head_one x y xs ys e = of_some x y (ap (λ zs. slice_get zs 0) e)

tail_one : {A : Type 0} (x y : A) (xs ys : List A) → x ∷ xs ≡ y ∷ ys → xs ≡ ys
tail_one x y xs ys e = ap (drop 1) e

filtered_hit : {A : Type 0} (test : A → Bool) (y : A) (ys pre rest : List A) (x : A) → test y ≡ true → y ∷ filter test ys ≡ pre ++ x ∷ rest
    → ((next : List A) → filter test ys ≡ next ++ x ∷ rest → IsFiltered test ys next x) → IsFiltered test (y ∷ ys) pre x
filtered_hit test y ys [] rest x hit e further =
    let same = head_one y x (filter test ys) rest e in
    record { before = []; after = ys; parts = ap (λ z. z ∷ ys) same; passes = subst (λ z. test z ≡ true) same hit; first = refl }
filtered_hit test y ys (z ∷ pre) rest x hit e further =
    let same = head_one y z (filter test ys) (pre ++ x ∷ rest) e in
    let u = further pre (tail_one y z (filter test ys) (pre ++ x ∷ rest) e) in
    record {
      before = y ∷ u.before;
      after = u.after;
      parts = ap (λ zs. y ∷ zs) u.parts;
      passes = u.passes;
      first = filter_here test y u.before hit ∙ ap (λ w. w ∷ filter test u.before) same ∙ ap (λ zs. z ∷ zs) u.first;
    }

filtered : {A : Type 0} (test : A → Bool) (xs pre rest : List A) (x : A) → filter test xs ≡ pre ++ x ∷ rest → IsFiltered test xs pre x
filtered test [] pre rest x e = absurd (no_parts pre rest x e)
filtered test (y ∷ ys) pre rest x e = elim (cases_Bool (test y)) [
  | inr miss ↦
      let u = filtered test ys pre rest x (rw miss at e) in
      record { before = y ∷ u.before; after = u.after; parts = ap (λ zs. y ∷ zs) u.parts; passes = u.passes; first = rw miss u.first }
  | inl hit ↦ filtered_hit test y ys pre rest x hit (sym (filter_here test y ys hit) ∙ e) (λ next. filtered test ys next rest x)
]

-- ---- the moves of a journal at a slot and a number

abbrev pub entry_moves : RootEntry → List Move
entry_moves e = moves_by e.line e.act

-- the moves of a slot at a number before one of an entry
abbrev pub moves_before : List RootEntry → SlotName → ℕ → ℕ → List Move → List Move
moves_before es s k j before = moves_at (take j es) s k ++ filter (is_move_of s k) before

one_more : (d : RootEntry) (es : List RootEntry) (s : SlotName) (k : ℕ) → moves_at (d ∷ es) s k ≡ filter (is_move_of s k) (entry_moves d) ++
    moves_at es s k
one_more d es s k = filter-append (is_move_of s k) (entry_moves d) (flat_map entry_moves es)

pub moves_split : (es : List RootEntry) (s : SlotName) (k j : ℕ) (e : RootEntry) (before after : List Move) (m : Move) →
    slice_get es j ≡ Some e → entry_moves e ≡ before ++ m ∷ after
    → is_move_of s k m ≡ true → (rest : List Move) × (moves_at es s k ≡ moves_before es s k j before ++ m ∷ rest)
moves_split [] s k j e before after m at parts hit = absurd (not_some e at)
moves_split (d ∷ es) s k zero e before after m at parts hit =
    let test = is_move_of s k in
    let here = ap entry_moves (of_some d e at) ∙ parts in
    let cut = ap (filter test) here ∙ filter-append test before (m ∷ after) ∙
    ap (λ zs. filter test before ++ zs) (filter_here test m after hit) in (
      filter test after ++ moves_at es s k,
      one_more d es s k ∙ ap (λ zs. zs ++ moves_at es s k) cut ∙
          append_assoc (filter test before) (m ∷ filter test after) (moves_at es s k),
    )
moves_split (d ∷ es) s k (suc j) e before after m at parts hit =
    let test = is_move_of s k in
    let (rest, is) = moves_split es s k j e before after m at parts hit in
    let first = filter test (entry_moves d) in
    let left = moves_at (take j es) s k in
    let mid = filter test before in (
      rest,
      one_more d es s k ∙ ap (λ zs. first ++ zs) is ∙ sym (append_assoc first (left ++ mid) (m ∷ rest))
          ∙ ap (λ zs. zs ++ m ∷ rest) (sym (append_assoc first left mid) ∙ ap (λ zs. zs ++ mid) (sym (one_more d (take j es) s k))),
    )

-- the entry of a move, and its place there
pub record IsMoveAt (es : List RootEntry) (s : SlotName) (k : ℕ) (pre : List Move) (m : Move) : Type 0 where
  pub j : ℕ
  pub entry : RootEntry
  pub before : List Move
  pub after : List Move
  pub at_place : slice_get es j ≡ Some entry
  pub parts : entry_moves entry ≡ before ++ m ∷ after
  pub passes : is_move_of s k m ≡ true
  pub first : moves_before es s k j before ≡ pre

pub move_place : (es : List RootEntry) (s : SlotName) (k : ℕ) (pre rest : List Move) (m : Move) → moves_at es s k ≡ pre ++ m ∷ rest →
    IsMoveAt es s k pre m
move_place [] s k pre rest m e = absurd (no_parts pre rest m e)
move_place (d ∷ es) s k pre rest m e =
    let test = is_move_of s k in
    let here = filter test (entry_moves d) in
    elim (append_cut here (moves_at es s k) pre rest m (sym (one_more d es s k) ∙ e)) [
      | inl (more, is) ↦
          let u = filtered test (entry_moves d) pre more m is in
          record {
            j = 0;
            entry = d;
            before = u.before;
            after = u.after;
            at_place = refl;
            parts = u.parts;
            passes = u.passes;
            first = u.first;
          }
      | inr (next, is, there) ↦
          let u = move_place es s k next rest m there in
          let left = moves_at (take u.j es) s k in
          let mid = filter test u.before in
          record {
            j = suc u.j;
            entry = u.entry;
            before = u.before;
            after = u.after;
            at_place = u.at_place;
            parts = u.parts;
            passes = u.passes;
            first = ap (λ zs. zs ++ mid) (one_more d (take u.j es) s k) ∙ append_assoc here left mid ∙ ap (λ zs. here ++ zs) u.first ∙
                sym is;
          }
    ]
