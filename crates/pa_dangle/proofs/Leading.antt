-- The table of ways back: as it grows, as ways are shortened, and as they are gone.
use Rattle.std.proofs.Common.{◌≡◌, ℕ, zero, suc, ◌+◌, ◌*◌, ◌<◌, ◌≤◌, List, [], ◌∷◌, ◌++◌, get_or, length, set, take, Option, Some, None, refl, sym, ◌∙◌, ap, subst, arith, inl, inr}
use Rattle.std.specs.Prelude.{All, slice_get}
use Rattle.std.proofs.lemmas.Bool.{cases_lt, cases_eq}
use Rattle.std.proofs.lemmas.List.{length-set, length_push, take_at}
use Rattle.std.proofs.lemmas.List.Elements.{All-contains}
use Rattle.pa_lists.proofs.Members.{of_some, not_some}
use Rattle.pa_lists.proofs.Indexed.{one_at, push_at, here_is, element_at}
use Rattle.pa_trace.specs.declared.script.Op.{Op}
use Rattle.pa_trace.specs.declared.script.Op.TheVariants as ops
use Rattle.pa_record.specs.declared.entry.Answer.{Answer}
use Rattle.pa_record.specs.declared.entry.Answer.TheVariants.{Done, Swapped}
use Rattle.pa_record.specs.declared.history.CellEntry.{CellEntry}
use Rattle.pa_record.specs.declared.history.Held.{Held}
use Rattle.pa_record.specs.declared.history.Held.TheVariants.{Nothing, Own, Ref}
use Rattle.pa_rules.specs.declared.played.Played.{Played}
use Rattle.pa_rules.specs.RecordDemands.{IsRecord}
use Rattle.pa_rules.specs.Rising.{RiseByLine}
use Rattle.pa_audit_records.specs.Rows.{IsPlayedWithin, NamesRegisters}
use Rattle.pa_audit_records.proofs.Walking.{record_among}
use Rattle.pa_audit_order.proofs.Cutting.{set_here, set_other}
use Rattle.pa_dangle.specs.declared.ways.Way.{Way}
use Rattle.pa_dangle.specs.declared.ways.Way.TheVariants.{Unknown, Copied, Given}
use Rattle.pa_dangle.specs.Origins.{put_held, put_found, put_into, HasOrigin}
use Rattle.pa_dangle.specs.Ways.{IsLastPutAt, register_key, AreLastPuts, PutsInto, IsWayOf, AreWays}
use Rattle.pa_dangle.proofs.Finding.{at_here}
use Rattle.pa_dangle.proofs.Tracing.{Ends, ends_of, ends_soon, step_on, step_off, place_below}

abbrev Cells : Type 0
Cells = ℕ → List CellEntry

-- ---- the registers into which records put are below 64

held_put : (r reg : ℕ) (h : Held) → put_held r h ≡ Some reg → r ≡ reg
held_put r reg Nothing e = absurd (not_some reg e)
held_put r reg (Own s) e = absurd (not_some reg e)
held_put r reg (Ref s) e = of_some r reg e

found_put : (r reg : ℕ) (o : Option CellEntry) → put_found r o ≡ Some reg → r ≡ reg
found_put r reg None e = absurd (not_some reg e)
found_put r reg (Some entry) e = held_put r reg entry.found e

put_small : (cells : Cells) (op : Op) (answer : Answer) (reg : ℕ) → NamesRegisters op → put_into cells op answer ≡ Some reg → reg < 64
put_small cells (ops.Copy from to) (Done seen) reg names e = subst (λ z. z < 64) (of_some to reg e) names.1
put_small cells (ops.Swap k r) (Swapped j) reg names e = subst (λ z. z < 64) (found_put r reg (slice_get (cells k) j) e) names
put_small cells op answer reg names e = absurd (not_some reg e)

-- ---- the last puts, one record on

last_kept : (cells : Cells) (ps : List Played) (t reg k : ℕ) (d : Played) (o : Option ℕ) → k < length ps → ((get_or ps k d).thread ≡ t
    → put_into cells (get_or ps k d).op (get_or ps k d).answer ≡ Some reg → ⊥) → IsLastPutAt cells ps t reg k o
    → IsLastPutAt cells ps t reg (k + 1) o
last_kept cells ps t reg k d None below other none = λ j x less at of put. elim (cases_lt j k) [
  | inl early ↦ none j x early at of put
  | inr late ↦
      let one = at_here ps k j d x below (omega (arith, less, late)) at in
      other (ap (λ (z : Played). z.thread) one ∙ of) (ap (λ (z : Played). put_into cells z.op z.answer) one ∙ put)
]
last_kept cells ps t reg k d (Some i) below other (x, at, before, of, put, none) = (
  x,
  at,
  omega (arith, before),
  of,
  put,
  λ j y after less there mine puts. elim (cases_lt j k) [
    | inl early ↦ none j y after early there mine puts
    | inr late ↦
        let one = at_here ps k j d y below (omega (arith, less, late)) there in
        other (ap (λ (z : Played). z.thread) one ∙ mine) (ap (λ (z : Played). put_into cells z.op z.answer) one ∙ puts)
  ],
)

puts_by : (cells : Cells) (ps : List Played) (f g : ℕ → Option ℕ) (k v : ℕ) (d : Played) (o : Option ℕ) → k < length ps → v ≡ k
    → put_into cells (get_or ps k d).op (get_or ps k d).answer ≡ o → ((r : ℕ) → o ≡ Some r → r < 64)
    → PutsInto f g (get_or ps k d).thread o v → AreLastPuts cells ps f k → AreLastPuts cells ps g (k + 1)
puts_by cells ps f g k v d None below same is small enters h t reg few =
    subst (IsLastPutAt cells ps t reg (k + 1)) (sym (enters (register_key t reg)))
    (last_kept cells ps t reg k d (f (register_key t reg)) below (λ of put. not_some reg (sym is ∙ put)) (h t reg few))
puts_by cells ps f g k v d (Some r) below same is small puts h t reg few =
    let x = get_or ps k d in
    let low = small r refl in
    elim (cases_eq (register_key t reg) (register_key x.thread r)) [
      | inl here ↦
          let reg_is : r ≡ reg = omega (arith, few, low, here) in
          let thread_is : x.thread ≡ t = omega (arith, few, low, here) in
          let found : g (register_key t reg) ≡ Some k = ap g here ∙ puts.here ∙ ap Some same in
          subst (IsLastPutAt cells ps t reg (k + 1)) (sym found)
          (x, here_is ps k d below, omega arith, thread_is, is ∙ ap Some reg_is, λ j y after less at mine put. omega (arith, after, less))
      | inr other ↦
          subst (IsLastPutAt cells ps t reg (k + 1)) (sym (puts.other (register_key t reg) other))
          (last_kept cells ps t reg k d (f (register_key t reg)) below
          (λ of put. other (ap (λ n. 64 * n + reg) (sym of) ∙ ap (λ n. 64 * x.thread + n) (sym (of_some r reg (sym is ∙ put)))))
          (h t reg few))
    ]

pub puts_more : (cells : Cells) (ps : List Played) (f g : ℕ → Option ℕ) (k v : ℕ) (d : Played) →
    k < length ps → v ≡ k → All IsPlayedWithin ps
    → PutsInto f g (get_or ps k d).thread (put_into cells (get_or ps k d).op (get_or ps k d).answer) v → AreLastPuts cells ps f k →
    AreLastPuts cells ps g (k + 1)
puts_more cells ps f g k v d below same within enters h =
    puts_by cells ps f g k v d (put_into cells (get_or ps k d).op (get_or ps k d).answer) below same refl
    (λ r e. put_small cells (get_or ps k d).op (get_or ps k d).answer r
    (All-contains IsPlayedWithin ps (get_or ps k d) within (record_among ps k d below)).1 e) enters h

-- ---- the ways, one record on

pub ways_more : (cells : Cells) (ps : List Played) (ws : List Way) (w : Way) (k : ℕ) (d : Played) → k < length ps →
    IsWayOf cells ps (get_or ps k d) w → AreWays cells ps ws k
    → AreWays cells ps (ws ++ w ∷ []) (k + 1)
ways_more cells ps ws w k d below way h =
    let long = h.long in
    record {
      long = let push = length_push ws w in omega (arith, long, push);
      each = λ i x v at here. elim (push_at ws w v i at) [
        | inl early ↦ h.each i x v early here
        | inr (last, same) ↦
            let one = at_here ps k i d x below (omega (arith, last, long)) here in
            subst (λ (z : Played). IsWayOf cells ps z v) one (subst (λ z. IsWayOf cells ps (get_or ps k d) z) same way)
      ];
    }

-- the part of a list that a callee wrote, which is all of it
pub ways_back : (cells : Cells) (ps : List Played) (new rest : List Way) (n : ℕ) → n ≡ length ps → AreWays cells ps new (length ps) →
    AreWays cells ps (take n (new ++ rest)) (length ps)
ways_back cells ps new rest n all h = subst (λ zs. AreWays cells ps zs (length ps)) (sym (take_at new rest n (h.long ∙ sym all))) h

-- ---- a way is shortened

ways_set : (cells : Cells) (ps : List Played) (ws : List Way) (i line : ℕ) → AreWays cells ps ws (length ps) → i < length ps →
    ((x : Played) → IsRecord ps i x → HasOrigin cells ps x line)
    → AreWays cells ps (set ws i (Copied line)) (length ps)
ways_set cells ps ws i line h below leads =
    let long = h.long in
    record {
      long = length-set ws i (Copied line) ∙ long;
      each = λ j x w at here. elim (cases_eq j i) [
        | inl mine ↦
            let is : Copied line ≡ w =
            of_some (Copied line) w
            (sym (set_here ws i (Copied line) (omega (arith, long, below))) ∙
            ap (slice_get (set ws i (Copied line))) (sym mine) ∙ at) in
            subst (IsWayOf cells ps x) is (leads x (subst (λ k. IsRecord ps k x) mine here))
        | inr other ↦ h.each j x w (sym (set_other ws i j (Copied line) other) ∙ at) here
      ];
    }

-- ---- a way is gone

-- after this many steps from one place the way has come to another, and each origin there is one here
pub record Goes (cells : Cells) (ps : List Played) (ws : List Way) (at now steps : ℕ) : Type 0 where
  pub below : now < length ps
  pub back : (x z : Played) (line : ℕ) → IsRecord ps at x → IsRecord ps now z → HasOrigin cells ps z line → HasOrigin cells ps x line
  pub on : (x z : Played) (line : ℕ) → IsRecord ps at x → IsRecord ps now z → HasOrigin cells ps x line → HasOrigin cells ps z line
  pub far : (n : ℕ) → Ends ws n at → (m : ℕ) × (n ≡ m + steps) × Ends ws m now

next_end : (ws : List Way) (m now j : ℕ) → slice_get ws now ≡ Some (Given j) → Ends ws m now → (n : ℕ) × (m ≡ n + 1) × Ends ws n j
next_end ws zero now j here (line, at) = let same : Copied line ≡ Given j = of_some (Copied line) (Given j) (sym at ∙ here) in absurd cc
next_end ws (suc n) now j here (i, at, e) =
    let same : Given i ≡ Given j = of_some (Given i) (Given j) (sym at ∙ here) in
    let place : i ≡ j = cc in
    (n, omega arith, subst (Ends ws n) place e)

goes_more : (cells : Cells) (ps : List Played) (ws : List Way) (at now steps j : ℕ) → RiseByLine ps → AreWays cells ps ws (length ps) →
    slice_get ws now ≡ Some (Given j)
    → Goes cells ps ws at now steps → Goes cells ps ws at j (steps + 1)
goes_more cells ps ws at now steps j rising ways here h =
    let (y, y_here) = element_at ps now h.below in
    let (z, there, step) = ways.each now y (Given j) here y_here in
    record {
      below = place_below ps j z there;
      back = λ x w line mine is origin. h.back x y line mine y_here
          (step_off cells ps y z line step (subst (λ (u : Played). HasOrigin cells ps u line) (one_at ps j w z is there) origin));
      on = λ x w line mine is origin. subst (λ (u : Played). HasOrigin cells ps u line) (one_at ps j z w there is)
          (step_on cells ps y z line rising step (h.on x y line mine y_here origin));
      far = λ n e.
          let (m, count, f) = h.far n e in
          let (l, less, g) = next_end ws m now j here f in
          (l, omega (arith, count, less), g);
    }

-- a way that goes on for as many steps as there are records leads to no copy
pub goes_out : (cells : Cells) (ps : List Played) (ws : List Way) (at now steps line : ℕ) (x : Played) → RiseByLine ps →
    AreWays cells ps ws (length ps) → length ws ≤ steps
    → Goes cells ps ws at now steps → IsRecord ps at x → HasOrigin cells ps x line → ⊥
goes_out cells ps ws at now steps line x rising ways long h here origin =
    let (n, e) = ends_of cells ps ws rising ways at x line here origin in
    let (m, count, f) = h.far n e in
    let soon = ends_soon ws n at e in
    omega (arith, soon, count, long)

-- ---- the walks, by what the table has at a place

way_here : (cells : Cells) (ps : List Played) (ws : List Way) (now : ℕ) (d w : Way) → AreWays cells ps ws (length ps) → now < length ps →
    get_or ws now d ≡ w → slice_get ws now ≡ Some w
way_here cells ps ws now d w ways below is = let long = ways.long in here_is ws now d (omega (arith, long, below)) ∙ ap Some is

pub end_copied : (cells : Cells) (ps : List Played) (ws : List Way) (at now steps line : ℕ) (d : Way) →
    AreWays cells ps ws (length ps) → Goes cells ps ws at now steps
    → get_or ws now d ≡ Copied line → (x : Played) → IsRecord ps at x → HasOrigin cells ps x line
end_copied cells ps ws at now steps line d ways h is x here =
    let (y, there) = element_at ps now h.below in
    h.back x y line here there (ways.each now y (Copied line) (way_here cells ps ws now d (Copied line) ways h.below is) there)

pub end_unknown : (cells : Cells) (ps : List Played) (ws : List Way) (at now steps : ℕ) (d : Way) →
    AreWays cells ps ws (length ps) → Goes cells ps ws at now steps
    → get_or ws now d ≡ Unknown → (x : Played) (line : ℕ) → IsRecord ps at x → HasOrigin cells ps x line → ⊥
end_unknown cells ps ws at now steps d ways h is x line here origin =
    let (y, there) = element_at ps now h.below in
    ways.each now y Unknown (way_here cells ps ws now d Unknown ways h.below is) there line (h.on x y line here there origin)

pub end_given : (cells : Cells) (ps : List Played) (ws : List Way) (at now steps j : ℕ) (d : Way) → RiseByLine ps →
    AreWays cells ps ws (length ps) → Goes cells ps ws at now steps
    → get_or ws now d ≡ Given j → Goes cells ps ws at j (steps + 1)
end_given cells ps ws at now steps j d rising ways h is =
    goes_more cells ps ws at now steps j rising ways (way_here cells ps ws now d (Given j) ways h.below is) h

-- what the walk that shortens a way keeps
pub record Shortens (cells : Cells) (ps : List Played) (ws : List Way) (now line : ℕ) : Type 0 where
  pub ways : AreWays cells ps ws (length ps)
  pub below : now < length ps
  pub leads : (x : Played) → IsRecord ps now x → HasOrigin cells ps x line

pub shortens_more : (cells : Cells) (ps : List Played) (ws : List Way) (now line j : ℕ) (d : Way) → RiseByLine ps →
    get_or ws now d ≡ Given j → Shortens cells ps ws now line
    → Shortens cells ps (set ws now (Copied line)) j line
shortens_more cells ps ws now line j d rising is h =
    let (y, there) = element_at ps now h.below in
    let (z, at, step) = h.ways.each now y (Given j) (way_here cells ps ws now d (Given j) h.ways h.below is) there in
    record {
      ways = ways_set cells ps ws now line h.ways h.below h.leads;
      below = place_below ps j z at;
      leads = λ x here. subst (λ (u : Played). HasOrigin cells ps u line) (one_at ps j z x at here)
          (step_on cells ps y z line rising step (h.leads y there));
    }
