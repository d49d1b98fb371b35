-- No record is before itself, and none finds less than one before it left.
use Rattle.std.proofs.Common.{◌≡◌, ℕ, ◌+◌, ◌<◌, ◌≤◌, ◌⊎◌, List, Option, Some, None, refl, sym, ◌∙◌, ap, subst, arith, inl, inr}
use Rattle.std.specs.Prelude.{Contains}
use Rattle.std.proofs.lemmas.Bool.{cases_lt}
use Rattle.pa_slot.specs.declared.title.Title.{Title}
use Rattle.pa_slot.specs.declared.word.SlotName.{SlotName}
use Rattle.pa_slot.specs.declared.word.Step.{Step}
use Rattle.pa_slot.specs.Count.{number_of}
use Rattle.pa_slot.specs.Run.{Mark}
use Rattle.pa_record.specs.declared.history.CellEntry.{CellEntry}
use Rattle.pa_lists.proofs.Joined.{map_cases}
use Rattle.pa_lists.proofs.Members.{not_some}
use Rattle.pa_rules.specs.declared.played.Played.{Played}
use Rattle.pa_rules.specs.Played.{mark_of, mark_of_answer}
use Rattle.pa_rules.specs.Cells.{IsExchange}
use Rattle.pa_rules.specs.Order.{StandsBefore}
use Rattle.pa_rules.specs.Seen.{HandsTo, IsBefore, Standing, Handing, Between, left_number}
use Rattle.pa_rules.proofs.ByLines.{same_record}
use Rattle.pa_logs.specs.Told.{ToldRecord, played_in}
use Rattle.pa_logs.specs.Touches.{title_of, AreTold}
use Rattle.pa_logs.specs.Viewed.{IsExchanged, IsOrdered, AreViewed, SeenFollows}
use Rattle.pa_logs.proofs.Marks.{tells_its_mark}
use Rattle.pa_logs.proofs.StepMarks.{mark_step}

module _ (cells : ℕ → List CellEntry) (place : ℕ → ℕ) (ps : List Played) (order : IsOrdered cells place ps) where
  -- y is after x by way of two exchanges: x's thread made the first one after x, and y's thread the second one before y
  record Via (x y : Played) : Type 0 where
    pub first : Played
    pub second : Played
    pub among : Contains ps first
    pub member : Contains ps second
    pub is : IsExchanged first
    pub other : IsExchanged second
    pub thread : x.thread ≡ first.thread
    pub before : x.line ≤ first.line
    pub later : place first.line < place second.line
    pub end_thread : second.thread ≡ y.thread
    pub behind : second.line ≤ y.line

  -- The record y is after x: in a later phase, or in the same one, by their thread or by way of exchanges.
  abbrev After : Played → Played → Type 0
  After x y = (x.phase < y.phase) ⊎ ((x.phase ≡ y.phase) × (((x.thread ≡ y.thread) × (x.line < y.line)) ⊎ Via x y))

  -- the exchange of a line is a record's
  exchanged : (k j : ℕ) (e : CellEntry) (x : Played) → Contains ps x → IsExchange cells k j e → e.line ≡ x.line → IsExchanged x
  exchanged k j e x among at line =
      let (p, reg, of, op) = order.cells_are.lines k j e at in
      (k, reg, ap (λ (z : Played). z.op) (sym (same_record ps p x order.lines of.0 among (of.1 ∙ line))) ∙ op)

  -- of one thread, an exchange that isn't on a later line isn't at a later place
  in_thread : (a b : Played) → Contains ps a → Contains ps b → IsExchanged a → IsExchanged b → a.thread ≡ b.thread → a.line ≤ b.line →
      place a.line ≤ place b.line
  in_thread a b first second is other thread low = elim (cases_lt a.line b.line) [
    | inl less ↦ let up = order.threads a b first second is other thread less in omega arith
    | inr more ↦ let same : a.line ≡ b.line = omega arith in let equal : place a.line ≡ place b.line = ap place same in omega arith
  ]

  same_phase : (x y : Played) → Contains ps x → Contains ps y → x.line < y.line → ((x.phase ≡ y.phase) → After x y) → After x y
  same_phase x y first second less then = elim (cases_lt x.phase y.phase) [
    | inl up ↦ inl up
    | inr low ↦ elim (cases_lt y.phase x.phase) [
      | inl down ↦ let back = order.phases y x second first down in absurd (omega arith)
      | inr same ↦ then (omega arith)
    ]
  ]

  handing : (x y : Played) → Contains ps x → Contains ps y → HandsTo cells x y → After x y
  handing x y first second h =
      let (k, j, e, f, at, next, line, line', given) = h in
      elim (cases_lt x.phase y.phase) [
        | inl up ↦ inl up
        | inr low ↦ elim (cases_lt y.phase x.phase) [
          | inl down ↦ let back = order.cells_are.order k (j + 1) j f e y x next at (second, sym line') (first, sym line) (inr down) in
              absurd (omega arith)
          | inr same ↦ inr (
            omega arith,
            inr (record {
              first = x;
              second = y;
              among = first;
              member = second;
              is = exchanged k j e x first at line;
              other = exchanged k (j + 1) f y second next line';
              thread = refl;
              before = omega arith;
              later = order.handed x y h;
              end_thread = refl;
              behind = omega arith;
            }),
          )
        ]
      ]

  join : (x y z : Played) → After x y → After y z → After x z
  join x y z (inl a) (inl b) = inl (omega arith)
  join x y z (inl a) (inr (b, c)) = inl (omega arith)
  join x y z (inr (a, c)) (inl b) = inl (omega arith)
  join x y z (inr (a, inl (t, l))) (inr (b, inl (u, m))) = inr (a ∙ b, inl (t ∙ u, omega arith))
  join x y z (inr (a, inl (t, l))) (inr (b, inr via)) =
      let low = via.before in
      inr (
        a ∙ b,
        inr (record {
          first = via.first;
          second = via.second;
          among = via.among;
          member = via.member;
          is = via.is;
          other = via.other;
          thread = t ∙ via.thread;
          before = omega arith;
          later = via.later;
          end_thread = via.end_thread;
          behind = via.behind;
        }),
      )
  join x y z (inr (a, inr via)) (inr (b, inl (u, m))) =
      let low = via.behind in
      inr (
        a ∙ b,
        inr (record {
          first = via.first;
          second = via.second;
          among = via.among;
          member = via.member;
          is = via.is;
          other = via.other;
          thread = via.thread;
          before = via.before;
          later = via.later;
          end_thread = via.end_thread ∙ u;
          behind = omega arith;
        }),
      )
  join x y z (inr (a, inr via)) (inr (b, inr on)) =
      let p = via.behind in
      let q = on.before in
      let between = in_thread via.second on.first via.member on.among via.other on.is (via.end_thread ∙ on.thread) (omega arith) in
      let r = via.later in
      let s = on.later in
      inr (
        a ∙ b,
        inr (record {
          first = via.first;
          second = on.second;
          among = via.among;
          member = on.member;
          is = via.is;
          other = on.other;
          thread = via.thread;
          before = via.before;
          later = omega arith;
          end_thread = on.end_thread;
          behind = on.behind;
        }),
      )

  after : (x y : Played) → Contains ps x → Contains ps y → IsBefore cells ps x y → After x y
  after x y first second (Standing (inl (thread, less))) = same_phase x y first second less (λ same. inr (same, inl (thread, less)))
  after x y first second (Standing (inr late)) = inl late
  after x y first second (Handing h) = handing x y first second h
  after x z first second (Between y middle h k) = join x y z (after x y first middle h) (after y z middle second k)

  not_itself : (x : Played) → After x x → ⊥
  not_itself x (inl up) = absurd (omega arith)
  not_itself x (inr (same, inl (thread, less))) = absurd (omega arith)
  not_itself x (inr (same, inr via)) =
      let a = via.before in
      let b = via.behind in
      let c = via.later in
      let back = in_thread via.second via.first via.member via.among via.other via.is (via.end_thread ∙ via.thread) (omega arith) in
      absurd (omega arith)

-- what a record's mark says of what its seat had seen, and of what it hands on
pub found_by : (sizes : SlotName → ℕ) (cells : ℕ → List CellEntry) (ts : List ToldRecord) (x : ToldRecord) (m : Mark) (o : Option Step) →
    AreTold sizes ts → AreViewed cells ts → Contains ts x →
    mark_of x.played ≡ Some m → m.step ≡ o → (x.saw (title_of sizes m.slot) ≤ number_of m.found) ×
    (left_number m ≤ x.gives (title_of sizes m.slot))
found_by sizes cells ts x m None told viewed among is none =
    let look = ((tells_its_mark sizes x (told x among)).has_look m is none).0 in
    let seen = viewed.looks x (title_of sizes m.slot) m.found among look in
    (seen.0, rw none (let a = seen.1 in omega arith))
found_by sizes cells ts x m (Some p) told viewed among is step =
    let (d, made, same) = mark_step x.played.line x.played.op x.played.answer m p is step in
    let entry = (tells_its_mark sizes x (told x among)).has_step d made in
    let seen = viewed.steps x (title_of sizes d.slot) d.step d.found d.value among entry in
    subst (λ (z : Mark). (x.saw (title_of sizes z.slot) ≤ number_of z.found) × (left_number z ≤ x.gives (title_of sizes z.slot)))
    (sym same) seen

module _ (cells : ℕ → List CellEntry) (place : ℕ → ℕ) (ts : List ToldRecord) (order : IsOrdered cells place (played_in ts))
    (viewed : AreViewed cells ts) where
  -- what a record hands on its later ones hand on, and those with a mark had seen it
  abbrev HandsOn : Title → ToldRecord → ToldRecord → Type 0
  HandsOn t x y = (x.gives t ≤ y.gives t) × ((m : Mark) → mark_of y.played ≡ Some m → x.gives t ≤ y.saw t)

  by_standing : (t : Title) (x y : ToldRecord) → Contains ts x → Contains ts y → StandsBefore x.played y.played → HandsOn t x y
  by_standing t x y first second h =
      let a = viewed.stands x y t first second h in
      let b = viewed.grows y t second in
      (omega arith, λ m is. a)

  by_handing : (t : Title) (x y : ToldRecord) → Contains ts x → Contains ts y → Contains (played_in ts) y.played →
      HandsTo cells x.played y.played → HandsOn t x y
  by_handing t x y first second among h =
      let (k, j, e, f, at, next, line, line', given) = h in
      let (cell, reg, op) = exchanged cells place (played_in ts) order k (j + 1) f y.played among next line' in
      let (i, g, answer, there, same) = order.cells_are.answers y.played cell reg among op in (
        viewed.hands x y t first second h,
        λ m is. absurd (not_some m (ap (λ a. mark_of_answer y.played.line y.played.op a) (sym answer) ∙ is)),
      )

  hands_on : (t : Title) (p q : Played) (x y : ToldRecord) → Contains ts x → Contains ts y → x.played ≡ p → y.played ≡ q →
      Contains (played_in ts) q → IsBefore cells (played_in ts) p q → HandsOn t x y
  hands_on t p q x y first second e f among (Standing h) =
      by_standing t x y first second (subst (λ z. StandsBefore x.played z) (sym f) (subst (λ z. StandsBefore z q) (sym e) h))
  hands_on t p q x y first second e f among (Handing h) =
      by_handing t x y first second (subst (λ z. Contains (played_in ts) z) (sym f) among)
      (subst (λ z. HandsTo cells x.played z) (sym f) (subst (λ z. HandsTo cells z q) (sym e) h))
  hands_on t p r x y first second e f among (Between q middle h k) =
      let (z, there, g) = map_cases (λ (w : ToldRecord). w.played) ts q middle in
      let a = hands_on t p q x z first there e g middle h in
      let b = hands_on t q r z y there second g f among k in
      let c = a.0 in
      let d = b.0 in
      (omega arith, λ m is. let u = b.1 m is in omega arith)

pub seen_follows : SeenFollows
seen_follows sizes cells place ts told order viewed = record {
  ahead = λ x among before. not_itself cells place (played_in ts) order x (after cells place (played_in ts) order x x among among before);
  rising = λ p q m n first second before is other same.
      let (x, there, e) = map_cases (λ (w : ToldRecord). w.played) ts p first in
      let (y, there', f) = map_cases (λ (w : ToldRecord). w.played) ts q second in
      let t = title_of sizes m.slot in
      let on = hands_on cells place ts order viewed t p q x y there there' e f second before in
      let a = found_by sizes cells ts x m m.step told viewed there (ap mark_of e ∙ is) refl in
      let b = found_by sizes cells ts y n n.step told viewed there' (ap mark_of f ∙ other) refl in
      let c = on.1 n (ap mark_of f ∙ other) in
      let d : y.saw t ≡ y.saw (title_of sizes n.slot) = ap (λ s. y.saw (title_of sizes s)) same in
      let g = a.1 in
      let h = b.0 in
      omega arith;
}
