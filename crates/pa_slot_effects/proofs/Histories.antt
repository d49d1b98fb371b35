-- What the records so far and the cells have to do with one another, kept by each line.
use Rattle.std.proofs.Common.{◌≡◌, ℕ, ◌+◌, ◌<◌, ◌⊎◌, inl, inr, List, [], ◌∷◌, ◌++◌, map, length, get_or, slice_get, Some, Contains, refl, sym, ap, ◌∙◌, subst, arith, zero, suc}
use Rattle.std.proofs.lemmas.Bool.{cases_eq, cases_lt}
use Rattle.std.proofs.lemmas.List.{get_or-map, length-map}
use Rattle.std.proofs.lemmas.List.Elements.{Contains-append_left, Contains-push, Contains-push_cases}
use Rattle.std.proofs.lemmas.Option.{slice_get_within, slice_get-get_or}
use Rattle.std.specs.List.Sorted.{IsStrictlyIncreasing}
use Rattle.pa_trace.specs.declared.script.Op.TheVariants.{Swap}
use Rattle.pa_record.specs.declared.entry.Answer.TheVariants.{Swapped}
use Rattle.pa_record.specs.declared.history.CellEntry.{CellEntry}
use Rattle.pa_record.specs.declared.history.Held.{Held}
use Rattle.pa_record.specs.declared.history.Held.TheVariants.{Nothing}
use Rattle.pa_rules.specs.declared.played.Played.{Played}
use Rattle.pa_rules.specs.Cells.{IsChain, IsExchange, AreCells}
use Rattle.pa_rules.specs.Order.{IsOfLine}
use Rattle.pa_slot_effects.specs.Known.{chain_end, HasExchanged}

-- an element of a list with one more at its end
get_kept : {X : Type 0} → (xs ys : List X) (j : ℕ) (x : X) → slice_get xs j ≡ Some x → slice_get (xs ++ ys) j ≡ Some x
get_kept [] ys j x e = absurd cc
get_kept (y ∷ xs) ys zero x e = e
get_kept (y ∷ xs) ys (suc j) x e = get_kept xs ys j x e

pub get_new : {X : Type 0} → (xs : List X) (y : X) → slice_get (xs ++ y ∷ []) (length xs) ≡ Some y
get_new [] y = refl
get_new (x ∷ xs) y = get_new xs y

some_same : {X : Type 0} → (x y : X) → Some x ≡ Some y → x ≡ y
some_same x y e = cc

get_cases : {X : Type 0} → (xs : List X) (y : X) (j : ℕ) (x : X) → slice_get (xs ++ y ∷ []) j ≡ Some x
    → (slice_get xs j ≡ Some x) ⊎ ((j ≡ length xs) × (y ≡ x))
get_cases [] y zero x e = inr (refl, some_same y x e)
get_cases [] y (suc j) x e = absurd cc
get_cases (z ∷ xs) y zero x e = inl e
get_cases (z ∷ xs) y (suc j) x e = elim (get_cases xs y j x e) [
  | inl a ↦ inl a
  | inr b ↦ inr (ap suc b.0, b.1)
]

chain_push : (held : Held) (es : List CellEntry) (e : CellEntry) → IsChain held es → e.found ≡ chain_end held es →
    IsChain held (es ++ e ∷ [])
chain_push held [] e h found = (found, tt)
chain_push held (x ∷ es) e h found = (h.0, chain_push x.gave es e h.1 found)

end_push : (held : Held) (es : List CellEntry) (e : CellEntry) → chain_end held (es ++ e ∷ []) ≡ e.gave
end_push held [] e = refl
end_push held (x ∷ es) e = end_push x.gave es e

-- the exchange of a line of the trace with this cell
abbrev HasLine : List Played → ℕ → CellEntry → Type 0
HasLine ps k e = (x : Played) × (reg : ℕ) × IsOfLine ps e.line x × (x.op ≡ Swap k reg)

-- one exchange more, with one cell
pub record GrowsBy (cell : ℕ) (entry : CellEntry) (cells after : ℕ → List CellEntry) : Type 0 where
  pub here : after cell ≡ cells cell ++ entry ∷ []
  pub others : (k : ℕ) → (k ≡ cell → ⊥) → after k ≡ cells k

-- before the first line
pub exchanged_none : (cells : ℕ → List CellEntry) (held : ℕ → Held) (line : ℕ) → ((k : ℕ) → cells k ≡ []) → ((k : ℕ) → held k ≡ Nothing)
    → HasExchanged cells held [] line
exchanged_none cells held line none nothing =
    let no : (k j : ℕ) (e : CellEntry) → IsExchange cells k j e → ⊥ = λ k j e x.
    let P : List CellEntry → Type 0 = λ es. slice_get es j ≡ Some e in
    let y : slice_get [] j ≡ Some e = subst P (none k) x in cc in
    let C : List CellEntry → Type 0 = λ es. IsChain Nothing es in
    record {
      chain = λ k. subst C (sym (none k)) tt;
      ends = λ k. ap (λ es. chain_end Nothing es) (none k) ∙ sym (nothing k);
      below = λ k j e x. absurd (no k j e x);
      rising = λ k i j e f x y lt. absurd (no k i e x);
      lines = λ k j e x. absurd (no k j e x);
      different = λ k l i j e f x y q. absurd (no k i e x);
      answers = λ p k reg c q. absurd (omega (arith, c.1));
    }

-- a line without a record
pub exchanged_later : (cells : ℕ → List CellEntry) (held : ℕ → Held) (ps : List Played) (line : ℕ) → HasExchanged cells held ps line
    → HasExchanged cells held ps (line + 1)
exchanged_later cells held ps line h = record {
  chain = h.chain;
  ends = h.ends;
  below = λ k j e x. omega (arith, h.below k j e x);
  rising = h.rising;
  lines = h.lines;
  different = h.different;
  answers = h.answers;
}

record_kept : (ps : List Played) (x : Played) (k : ℕ) (e : CellEntry) → HasLine ps k e → HasLine (ps ++ x ∷ []) k e
record_kept ps x k e h = (h.0, h.1, (Contains-append_left ps (x ∷ []) h.0 h.2.0, h.2.1), h.3)

-- a record that is no exchange
pub exchanged_other : (cells : ℕ → List CellEntry) (held : ℕ → Held) (ps : List Played) (line : ℕ) (x : Played)
    → HasExchanged cells held ps line → ((k reg : ℕ) → x.op ≡ Swap k reg → ⊥) → HasExchanged cells held (ps ++ x ∷ []) (line + 1)
exchanged_other cells held ps line x h other = record {
  chain = h.chain;
  ends = h.ends;
  below = λ k j e i. omega (arith, h.below k j e i);
  rising = h.rising;
  lines = λ k j e i. record_kept ps x k e (h.lines k j e i);
  different = h.different;
  answers = λ p k reg c q. elim (Contains-push_cases ps x p c) [
    | inl a ↦ h.answers p k reg a q
    | inr e ↦ absurd (other k reg (ap (λ (y : Played). y.op) e ∙ q))
  ];
}

-- an exchange is one of those before, or the new one
grown_cases : (cell : ℕ) (entry : CellEntry) (cells after : ℕ → List CellEntry) → GrowsBy cell entry cells after
    → (k j : ℕ) (e : CellEntry) → IsExchange after k j e → (IsExchange cells k j e) ⊎ ((k ≡ cell) × (j ≡ length (cells cell)) × (entry ≡ e))
grown_cases cell entry cells after g k j e x = elim (cases_eq k cell) [
  | inl q ↦
      let P : List CellEntry → Type 0 = λ es. slice_get es j ≡ Some e in
      elim (get_cases (cells cell) entry j e (subst P (ap after q ∙ g.here) x)) [
        | inl a ↦ inl (subst P (ap cells (sym q)) a)
        | inr b ↦ inr (q, b.0, b.1)
      ]
  | inr ne ↦ let P : List CellEntry → Type 0 = λ es. slice_get es j ≡ Some e in inl (subst P (g.others k ne) x)
]

pub grown_kept : (cell : ℕ) (entry : CellEntry) (cells after : ℕ → List CellEntry) → GrowsBy cell entry cells after
    → (k j : ℕ) (e : CellEntry) → IsExchange cells k j e → IsExchange after k j e
grown_kept cell entry cells after g k j e x = elim (cases_eq k cell) [
  | inl q ↦
      let P : List CellEntry → Type 0 = λ es. slice_get es j ≡ Some e in
      subst P (sym (ap after q ∙ g.here)) (get_kept (cells cell) (entry ∷ []) j e (subst P (ap cells q) x))
  | inr ne ↦ let P : List CellEntry → Type 0 = λ es. slice_get es j ≡ Some e in subst P (sym (g.others k ne)) x
]

-- a record that is an exchange, which found what its cell held
pub exchanged_more : (cells after : ℕ → List CellEntry) (held next : ℕ → Held) (ps : List Played) (line : ℕ) (x : Played) (cell reg : ℕ)
    (entry : CellEntry)
    → HasExchanged cells held ps line → GrowsBy cell entry cells after → entry.found ≡ held cell → next cell ≡ entry.gave
    → ((k : ℕ) → (k ≡ cell → ⊥) → next k ≡ held k)
    → entry.line ≡ line → x.line ≡ line → x.op ≡ Swap cell reg → x.answer ≡ Swapped (length (cells cell))
    → HasExchanged after next (ps ++ x ∷ []) (line + 1)
exchanged_more cells after held next ps line x cell reg entry h g found gives keeps at its op answer =
    let C : List CellEntry → Type 0 = λ es. IsChain Nothing es in
    let G : List CellEntry → Type 0 = λ es. slice_get es (length (cells cell)) ≡ Some entry in
    let new : IsExchange after cell (length (cells cell)) entry = subst G (sym g.here) (get_new (cells cell) entry) in
    let back = grown_cases cell entry cells after g in
    let line_of : (e : CellEntry) → entry ≡ e → e.line ≡ line = λ e q. ap (λ (y : CellEntry). y.line) (sym q) ∙ at in
    let within : (k j : ℕ) (e : CellEntry) → IsExchange cells k j e → j < length (cells k) = λ k j e i. slice_get_within (cells k) j e i in
    record {
      chain = λ k. elim (cases_eq k cell) [
        | inl q ↦ subst C (sym (ap after q ∙ g.here)) (chain_push Nothing (cells cell) entry (h.chain cell) (found ∙ sym (h.ends cell)))
        | inr ne ↦ subst C (sym (g.others k ne)) (h.chain k)
      ];
      ends = λ k. elim (cases_eq k cell) [
        | inl q ↦ ap (λ es. chain_end Nothing es) (ap after q ∙ g.here) ∙ end_push Nothing (cells cell) entry ∙ sym gives ∙ ap next (sym q)
        | inr ne ↦ ap (λ es. chain_end Nothing es) (g.others k ne) ∙ h.ends k ∙ sym (keeps k ne)
      ];
      below = λ k j e i. elim (back k j e i) [
        | inl a ↦ omega (arith, h.below k j e a)
        | inr b ↦ omega (arith, line_of e b.2)
      ];
      rising = λ k i j e f p q lt. elim (back k i e p) [
        | inl a ↦ elim (back k j f q) [
          | inl b ↦ h.rising k i j e f a b lt
          | inr b ↦ omega (arith, h.below k i e a, line_of f b.2)
        ]
        | inr a ↦ elim (back k j f q) [
          | inl b ↦ absurd (omega (arith, within k j f b, ap (λ n. length (cells n)) a.0, a.1))
          | inr b ↦ absurd (omega (arith, a.1, b.1))
        ]
      ];
      lines = λ k j e i. elim (back k j e i) [
        | inl a ↦ record_kept ps x k e (h.lines k j e a)
        | inr b ↦ (x, reg, (Contains-push ps x, its ∙ sym (line_of e b.2)), op ∙ ap (λ n. Swap n reg) (sym b.0))
      ];
      different = λ k l i j e f p q same. elim (back k i e p) [
        | inl a ↦ elim (back l j f q) [
          | inl b ↦ h.different k l i j e f a b same
          | inr b ↦ absurd (omega (arith, h.below k i e a, line_of f b.2, same))
        ]
        | inr a ↦ elim (back l j f q) [
          | inl b ↦ absurd (omega (arith, h.below l j f b, line_of e a.2, same))
          | inr b ↦ (a.0 ∙ sym b.0, a.1 ∙ sym b.1)
        ]
      ];
      answers = λ p k r c q. elim (Contains-push_cases ps x p c) [
        | inl a ↦ let k2 = h.answers p k r a q in (k2.0, k2.1, k2.2, grown_kept cell entry cells after g k k2.0 k2.1 k2.3, k2.4)
        | inr e ↦
            let swap : Swap cell reg ≡ Swap k r = sym op ∙ ap (λ (y : Played). y.op) e ∙ q in
            let same : cell ≡ k = cc in
            let X : ℕ → Type 0 = λ n. IsExchange after n (length (cells cell)) entry in (
              length (cells cell),
              entry,
              ap (λ (y : Played). y.answer) (sym e) ∙ answer,
              subst X same new,
              at ∙ sym its ∙ ap (λ (y : Played). y.line) e,
            )
      ];
    }

-- the exchanges of a cell are in the order of their lines
pub exchanged_order : (cells : ℕ → List CellEntry) (held : ℕ → Held) (ps : List Played) (line : ℕ) → HasExchanged cells held ps line
    → (k : ℕ) → IsStrictlyIncreasing (map (λ e. e.line) (cells k))
exchanged_order cells held ps line h k i lt =
    let d : CellEntry = record { line = 0; gave = Nothing; found = Nothing } in
    let long : length (map (λ (e : CellEntry). e.line) (cells k)) ≡ length (cells k) = length-map (cells k) (λ (e : CellEntry). e.line) in
    let low : i < length (cells k) = omega arith in
    let high : i + 1 < length (cells k) = omega arith in
    let e1 = get_or-map (λ (e : CellEntry). e.line) (cells k) i d 0 low in
    let e2 = get_or-map (λ (e : CellEntry). e.line) (cells k) (i + 1) d 0 high in
    let up = h.rising k i (i + 1) (get_or (cells k) i d) (get_or (cells k) (i + 1) d) (slice_get-get_or (cells k) i d low)
    (slice_get-get_or (cells k) (i + 1) d high) (omega arith) in
    omega (arith, e1, e2, up)

-- all that the rules require of the exchanges, if records of earlier phases have smaller lines
pub exchanged_cells : (cells : ℕ → List CellEntry) (held : ℕ → Held) (ps : List Played) (line : ℕ) → HasExchanged cells held ps line
    → ((p q : Played) → Contains ps p → Contains ps q → p.phase < q.phase → p.line < q.line) → AreCells cells ps
exchanged_cells cells held ps line h phases = record {
  chain = h.chain;
  lines = h.lines;
  different = h.different;
  answers = h.answers;
  order = λ k i j e f p q x y a b before.
      let up : p.line < q.line = elim before [ inl t ↦ t.1 | inr late ↦ phases p q a.0 b.0 late ] in
      elim (cases_lt i j) [
        | inl lt ↦ lt
        | inr le ↦ elim (cases_eq i j) [
          | inl same ↦
              let G : ℕ → Type 0 = λ n. IsExchange cells k n e in
              let one : e ≡ f = some_same e f (sym (subst G same x) ∙ y) in
              absurd (omega (arith, up, a.1, b.1, ap (λ (z : CellEntry). z.line) one))
          | inr ne ↦ absurd (omega (arith, h.rising k j i f e y x (omega arith), up, a.1, b.1))
        ]
      ];
}
