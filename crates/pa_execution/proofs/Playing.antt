-- The records that a worker played, one by one: what its seat had seen, its log, and their order.
use Rattle.std.proofs.Common.{◌≡◌, ℕ, ◌<◌, ◌≤◌, List, [], ◌∷◌, ◌++◌, flat_map, refl, sym, ◌∙◌, ap, ap₂, subst, arith, inl, inr}
use Rattle.std.specs.Prelude.{Contains}
use Rattle.std.proofs.lemmas.Bool.{eq-eqb}
use Rattle.std.proofs.lemmas.List.{append-nil, append_assoc}
use Rattle.pa_slot.specs.declared.title.Title.{Title}
use Rattle.pa_lists.proofs.Members.{not_in_none, in_cases}
use Rattle.pa_lists.proofs.Pairs.{pairs_head, pairs_tail}
use Rattle.pa_region.specs.declared.view.Entry.{Entry}
use Rattle.pa_region.specs.declared.view.View.{View}
use Rattle.pa_region.specs.Takes.{log_of}
use Rattle.pa_logs.specs.Told.{ToldRecord}
use Rattle.pa_logs.specs.Listed.{AreRising}
use Rattle.pa_op_specs.specs.Stocks.{rules_at}
use Rattle.pa_op_specs.specs.Workers.{WorkerValue}
use Rattle.pa_op_specs.specs.Plays.{PlaysOne, PlaysSome}
use Rattle.pa_op_specs.proofs.Following.{some}
use Rattle.pa_execution.specs.Turns.{Manner, Beside, InTurn}
use Rattle.pa_execution.specs.Courses.{PlaysBy, HasSeenAll}

-- what was played in some manner was played, whatever it did with the lists
pub some_by : (way : Manner) (w v : WorkerValue) (xs : List ToldRecord) → PlaysBy way w xs v → PlaysSome w xs v
some_by Beside w v xs plays = some w v xs plays
some_by InTurn w v xs plays = plays

-- ---- what a seat has seen

pub sees_itself : (v : View) → HasSeenAll v v
sees_itself v = record { lists = λ q. ([], sym (append-nil _)); seen = λ u. omega arith }

pub sees_then : (u v w : View) → HasSeenAll u v → HasSeenAll v w → HasSeenAll u w
sees_then u v w first second = record {
  lists = λ q.
      let (a, e) = first.lists q in
      let (b, f) = second.lists q in
      (a ++ b, f ∙ (ap (λ l. l ++ b) e ∙ append_assoc _ a b));
  seen = λ t. let a = first.seen t in let b = second.seen t in omega arith;
}

sees_one : (w next : WorkerValue) (x : ToldRecord) → PlaysOne w next x → HasSeenAll w.stock.view next.stock.view
sees_one w next x one = record {
  lists = one.does.lists;
  seen = λ t.
      let saw = one.does.seen.saw t in
      let grows = one.does.seen.grows t in
      let knows = one.does.seen.knows t in
      omega arith;
}

pub sees_all : (w v : WorkerValue) (xs : List ToldRecord) → PlaysSome w xs v → HasSeenAll w.stock.view v.stock.view
sees_all w v [] same = subst (λ (z : WorkerValue). HasSeenAll w.stock.view z.stock.view) (sym same) (sees_itself w.stock.view)
sees_all w v (x ∷ xs) (next, one, more) =
    sees_then w.stock.view next.stock.view v.stock.view (sees_one w next x one) (sees_all next v xs more)

-- ---- one record among those that were played

-- the record was played between these workers, after the first and before the last
pub record HasPlayed (w v : WorkerValue) (x : ToldRecord) : Type 0 where
  pub before : WorkerValue
  pub after : WorkerValue
  pub one : PlaysOne before after x
  pub first : HasSeenAll w.stock.view before.stock.view
  pub last : HasSeenAll after.stock.view v.stock.view
  pub thread : before.stock.thread ≡ w.stock.thread
  pub many : before.stock.partitions ≡ w.stock.partitions

pub has_played : (w v : WorkerValue) (xs : List ToldRecord) (x : ToldRecord) → PlaysSome w xs v → Contains xs x → HasPlayed w v x
has_played w v [] x same among = absurd (not_in_none x among)
has_played w v (y ∷ ys) x (next, one, more) among = elim (in_cases y x ys among) [
  | inl e ↦ subst (HasPlayed w v) e (record {
    before = w;
    after = next;
    one = one;
    first = sees_itself w.stock.view;
    last = sees_all next v ys more;
    thread = refl;
    many = refl;
  })
  | inr later ↦
      let again = has_played next v ys x more later in
      record {
        before = again.before;
        after = again.after;
        one = again.one;
        first = sees_then w.stock.view next.stock.view again.before.stock.view (sees_one w next y one) again.first;
        last = again.last;
        thread = again.thread ∙ one.does.same.0;
        many = again.many ∙ one.does.same.1;
      }
]

-- the worker stays that of its thread, in a run of as many partitions
pub stays : (w v : WorkerValue) (xs : List ToldRecord) → PlaysSome w xs v → (v.stock.thread ≡ w.stock.thread) ×
    (v.stock.partitions ≡ w.stock.partitions)
stays w v [] same = (ap (λ (z : WorkerValue). z.stock.thread) same, ap (λ (z : WorkerValue). z.stock.partitions) same)
stays w v (x ∷ xs) (next, one, more) =
    let (thread, many) = stays next v xs more in
    (thread ∙ one.does.same.0, many ∙ one.does.same.1)

-- it goes on by the same rules
pub keeps_rules : (w v : WorkerValue) (xs : List ToldRecord) → PlaysSome w xs v → rules_at v.stock ≡ rules_at w.stock
keeps_rules w v [] same = ap (λ (z : WorkerValue). rules_at z.stock) same
keeps_rules w v (x ∷ xs) (next, one, more) =
    keeps_rules next v xs more
    ∙ ap₂ (λ version plain_from. record { version = version; plain_from = plain_from }) one.does.version one.does.same.2

-- its log has the log segments more
abbrev pub stretches : List ToldRecord → List Entry
stretches xs = flat_map (λ (x : ToldRecord). x.stretch) xs

pub logged : (w v : WorkerValue) (xs : List ToldRecord) (k : ℕ) → PlaysSome w xs v → w.stock.thread ≡ k →
    log_of k v.stock.view ≡ log_of k w.stock.view ++ stretches xs
logged w v [] k same mine = ap (λ (z : WorkerValue). log_of k z.stock.view) same ∙ sym (append-nil _)
logged w v (x ∷ xs) k (next, one, more) mine =
    let again = logged next v xs k more (one.does.same.0 ∙ mine) in
    let own : log_of k next.stock.view ≡ log_of k w.stock.view ++ x.stretch = one.does.logs k ∙
    rw (eq-eqb k w.stock.thread (sym mine)) refl in
    again ∙ (ap (λ es. es ++ stretches xs) own ∙ append_assoc (log_of k w.stock.view) x.stretch (stretches xs))

-- what a record's seat hands on those after it had seen
pub in_order : (w v : WorkerValue) (xs : List ToldRecord) (x y : ToldRecord) (u : Title) → PlaysSome w xs v → AreRising xs → Contains xs x →
    Contains xs y → x.played.line < y.played.line →
    x.gives u ≤ y.saw u
in_order w v [] x y u same rising first second less = absurd (not_in_none x first)
in_order w v (z ∷ zs) x y u (next, one, more) rising first second less =
    let before : ToldRecord → ToldRecord → Type 0 = λ a b. a.played.line < b.played.line in
    elim (in_cases z x zs first) [
      | inl e ↦ elim (in_cases z y zs second) [
        | inl f ↦ absurd (let same : x.played.line ≡ y.played.line = ap (λ (a : ToldRecord). a.played.line) (sym e ∙ f) in omega arith)
        | inr later ↦
            let p = has_played next v zs y more later in
            let knows = one.does.seen.knows u in
            let saw = p.one.does.seen.saw u in
            let grown = p.first.seen u in
            let mine : x.gives u ≡ z.gives u = ap (λ (a : ToldRecord). a.gives u) (sym e) in
            omega arith
      ]
      | inr later ↦ elim (in_cases z y zs second) [
        | inl f ↦ absurd (
            let up = pairs_head before z x zs rising later in
            let same : z.played.line ≡ y.played.line = ap (λ (a : ToldRecord). a.played.line) f in
            omega arith
            )
        | inr later' ↦ in_order next v zs x y u more (pairs_tail before z zs rising) later later' less
      ]
    ]
