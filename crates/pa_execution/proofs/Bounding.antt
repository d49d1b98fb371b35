-- An execution enters nothing in the list of a partition past the run's: the thread that made the first entry there had seen none.
use Rattle.std.proofs.Common.{◌≡◌, ℕ, zero, suc, ◌-◌, ◌<◌, ◌≤◌, List, [], ◌∷◌, ◌++◌, refl, sym, ◌∙◌, ap, subst, arith, inl, inr}
use Rattle.std.specs.Prelude.{Contains}
use Rattle.std.specs.List.{AllByRecursion as Each}
use Rattle.std.proofs.lemmas.Bool.{cases_lt, eq-eqb}
use Rattle.pa_lists.proofs.Members.{not_in_none}
use Rattle.pa_region.specs.declared.view.Made.{Made}
use Rattle.pa_region.specs.declared.view.View.{View}
use Rattle.pa_region.specs.Lists.{list_of, made_with, entered_in, IsBeginning}
use Rattle.pa_region.specs.Takes.{log_of}
use Rattle.pa_region.proofs.TakeLaws.{stakes_made}
use Rattle.pa_trace.specs.declared.script.Trace.{Trace}
use Rattle.pa_trace.specs.Limits.{IsWithinLimits}
use Rattle.pa_logs.specs.Told.{ToldRecord}
use Rattle.pa_op_specs.specs.Workers.{WorkerValue}
use Rattle.pa_op_specs.specs.Plays.{PlaysOne, PlaysSome}
use Rattle.pa_execution.specs.Turns.{Manner, turns_in}
use Rattle.pa_execution.specs.Courses.{Course, IsCourseBy, Closes, HasSeenAll}
use Rattle.pa_execution.specs.Telling.{CoursesLeaveNonePast}
use Rattle.pa_execution.proofs.Turning.{some_turn}
use Rattle.pa_execution.proofs.Chaining.{played_some, heard_next, starts_of, sees_last}
use Rattle.pa_execution.proofs.Playing.{sees_then, sees_all, logged}
use Rattle.pa_logs.proofs.Listing.{entered_append}

not_none : (m : Made) (ms : List Made) → m ∷ ms ≡ [] → ⊥
not_none m ms e = cc

-- the record with the first entry made one
made_first : (k : ℕ) (m : Made) (ms : List Made) → m.stake ≡ k → made_with k (m ∷ ms) ≡ [] → ⊥
made_first k m ms mine none =
    let here : made_with k (m ∷ ms) ≡ m ∷ made_with k ms = rw (eq-eqb m.stake k mine) refl in
    not_none m (made_with k ms) (sym here ∙ none)

-- a view that has seen some of a list has seen its first
seen_first : (k : ℕ) (m : Made) (rest seen : List Made) → m.stake ≡ k → (n : Made) → Contains seen n → IsBeginning seen (m ∷ rest) →
    made_with k seen ≡ [] → ⊥
seen_first k m rest [] mine n among begins none = not_in_none n among
seen_first k m rest (h ∷ hs) mine n among (more, is) none =
    let same : h ≡ m = cc in
    made_first k h hs (ap (λ (z : Made). z.stake) same ∙ mine) none

module _ (way : Manner) (t : Trace) (c : Course) (v : View) (limits : IsWithinLimits t)
    (course : IsCourseBy way t (turns_in way t) c) (closes : Closes (c.seats (turns_in way t)) v) (p : ℕ) (past : t.partitions ≤ p)
    (low : p < 4) where
  -- ---- the thread that made the first entry

  module _ (m : Made) (rest : List Made) (first : list_of p v ≡ m ∷ rest) where
    -- one op makes none if none was made before
    op_none : (w next : WorkerValue) (x : ToldRecord) → PlaysOne w next x → w.stock.partitions ≡ t.partitions → w.stock.thread ≡ m.stake →
        HasSeenAll w.stock.view v →
        entered_in p (log_of m.stake w.stock.view) ≡ [] → entered_in p (log_of m.stake next.stock.view) ≡ []
    op_none w next x one many mine sees none = elim (one.does.homes p (omega arith) low) [
      | inl nothing ↦
          ap (entered_in p) (logged w next (x ∷ []) m.stake (next, one, refl) mine)
          ∙ (entered_append p (log_of m.stake w.stock.view) (x.stretch ++ []) ∙ (ap (λ ms. ms ++ entered_in p (x.stretch ++ [])) none
          ∙ (entered_append p x.stretch [] ∙ ap (λ ms. ms ++ []) nothing)))
      | inr some ↦ absurd (
          let own : made_with m.stake (list_of p w.stock.view) ≡ entered_in p (log_of m.stake w.stock.view) =
          subst (λ k. made_with k (list_of p w.stock.view) ≡ entered_in p (log_of k w.stock.view)) mine some.own in
          seen_first m.stake m rest (list_of p w.stock.view) refl some.some.0 some.some.1
          (subst (λ l. IsBeginning (list_of p w.stock.view) l) first (sees.lists p)) (own ∙ none)
          )
    ]

    plays_none : (w last : WorkerValue) (xs : List ToldRecord) → PlaysSome w xs last → w.stock.partitions ≡ t.partitions →
        w.stock.thread ≡ m.stake →
        HasSeenAll last.stock.view v → entered_in p (log_of m.stake w.stock.view) ≡ [] → entered_in p (log_of m.stake last.stock.view) ≡ []
    plays_none w last [] same many mine sees none = ap (λ (z : WorkerValue). entered_in p (log_of m.stake z.stock.view)) same ∙ none
    plays_none w last (x ∷ xs) (next, one, more) many mine sees none =
        let before = sees_then w.stock.view last.stock.view v (sees_all w last (x ∷ xs) (next, one, more)) sees in
        plays_none next last xs more (one.does.same.1 ∙ many) (one.does.same.0 ∙ mine) sees (op_none w next x one many mine before none)

    -- nor do all of them
    phase_none : (n : ℕ) → suc n ≤ turns_in way t → m.stake < t.threads →
        entered_in p (log_of m.stake (c.starts (suc n) m.stake).stock.view) ≡ [] →
        entered_in p (log_of m.stake (c.ends (suc n) m.stake).stock.view) ≡ []
    phase_none n high few none =
        let k = m.stake in
        let is = starts_of way t c limits course k n high few in
        let sees = sees_then (c.ends (suc n) k).stock.view (c.seats (suc n)) v ((course.tells (suc n) (omega arith) high).sees k few)
        (sees_last way t c limits course v closes (suc n) (omega arith) high) in
        plays_none (c.starts (suc n) k) (c.ends (suc n) k) (c.plays (suc n) k)
        (played_some way t c limits course (suc n) k (omega arith) high few) is.many is.thread sees none

    ends_none : (n : ℕ) → suc n ≤ turns_in way t → m.stake < t.threads →
        entered_in p (log_of m.stake (c.ends (suc n) m.stake).stock.view) ≡ []
    ends_none zero high few =
        let begins = course.begins m.stake few in
        phase_none 0 high few (ap (entered_in p) (ap (log_of m.stake) begins.new.stock.view ∙ begins.log))
    ends_none (suc n) high few =
        let heard = heard_next way t c limits course (suc n) m.stake (omega arith) (omega arith) few in
        phase_none (suc n) high few
        (ap (entered_in p) (ap (λ (w : WorkerValue). log_of m.stake w.stock.view) heard.same ∙ heard.log) ∙ ends_none n (omega arith) few)

    log_none : (n : ℕ) → suc n ≡ turns_in way t → entered_in p (log_of m.stake v) ≡ []
    log_none n last =
        let told = course.tells (turns_in way t) (omega arith) (omega arith) in
        ap (entered_in p) (closes.logs m.stake)
        ∙ elim (cases_lt m.stake t.threads) [
          | inl few ↦
              ap (entered_in p) (told.logs m.stake few)
              ∙ subst (λ k. entered_in p (log_of m.stake (c.ends k m.stake).stock.view) ≡ []) last (ends_none n (omega arith) few)
          | inr none ↦ ap (entered_in p) (told.idle m.stake none)
        ]

    -- the list of partition p, which is past the run's, has no first entry
    no_first : ⊥
    no_first =
        let small = (subst (λ l. Each (λ (n : Made). n.stake < 16) l) first (closes.aware.makers p)).0 in
        let there = some_turn way t in
        made_first m.stake m rest refl
        (ap (made_with m.stake) (sym first) ∙
        (stakes_made v m.stake p closes.aware (closes.every m.stake small) ∙ log_none (turns_in way t - 1) (omega arith)))

  list_none : list_of p v ≡ []
  list_none = go (list_of p v) refl
    where
      go : (l : List Made) → list_of p v ≡ l → l ≡ []
      go [] is = refl
      go (m ∷ rest) is = absurd (no_first m rest is)

pub courses_leave_none_past : CoursesLeaveNonePast
courses_leave_none_past = list_none
