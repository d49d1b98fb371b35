-- A seat with every stake knows all logs of the records, and their lists.
use Rattle.std.proofs.Common.{◌≡◌, ℕ, ◌<◌, ◌≤◌, List, [], ◌∷◌, flat_map, sym, ◌∙◌, ap, subst, arith, inl, inr}
use Rattle.std.specs.Prelude.{Contains}
use Rattle.std.specs.List.{AllByRecursion as Each}
use Rattle.std.proofs.lemmas.Bool.{cases_lt, eqb-true}
use Rattle.pa_lists.proofs.Members.{not_in_none, in_cases}
use Rattle.pa_region.specs.declared.view.Entry.{Entry}
use Rattle.pa_region.specs.declared.view.Made.{Made}
use Rattle.pa_region.specs.declared.view.Stake.{Stake}
use Rattle.pa_region.specs.declared.view.View.{View}
use Rattle.pa_region.specs.Lists.{list_of, made_with, entered_in}
use Rattle.pa_region.specs.Aware.{IsAware}
use Rattle.pa_logs.specs.Told.{ToldRecord, is_of_thread, log_of, AreLogs}
use Rattle.pa_logs.specs.Seats.{SeatsKnow}
use Rattle.pa_logs.proofs.Filters.{filter_none}
use Rattle.pa_logs.proofs.Listing.{is_by, made_filter}
use Rattle.pa_logs.proofs.Places.{each_at, stake_at}

each_in : (P : Made → Type 0) (ms : List Made) (m : Made) → Each P ms → Contains ms m → P m
each_in P [] m each among = absurd (not_in_none m among)
each_in P (n ∷ ns) m each among = elim (in_cases n m ns among) [ inl e ↦ subst P e each.0 | inr rest ↦ each_in P ns m each.1 rest ]

-- no other stake made anything, and no other thread has a log
none_made : (k : ℕ) (list : List Made) → 16 ≤ k → Each (λ m. m.stake < 16) list → made_with k list ≡ []
none_made k list high makers = made_filter k list ∙ filter_none (is_by k) list (λ m among mine.
    let low = each_in (λ (n : Made). n.stake < 16) list m makers among in
    let same = eqb-true m.stake k mine in
    absurd (omega arith))

pub none_logged : (k : ℕ) (ts : List ToldRecord) → 16 ≤ k → ((x : ToldRecord) → Contains ts x → x.played.thread < 16) → log_of k ts ≡ []
none_logged k ts high low =
    let stretch : ToldRecord → List Entry = λ x. x.stretch in
    ap (λ xs. flat_map stretch xs) (filter_none (is_of_thread k) ts (λ x among mine.
    let below = low x among in
    let same = eqb-true x.played.thread k mine in
    absurd (omega arith)))

made_by_thread : (q : ℕ) (v : View) (ts : List ToldRecord) (k : ℕ) → IsAware v → AreLogs v ts →
    made_with k (list_of q v) ≡ entered_in q (log_of k ts)
made_by_thread q v ts k aware logs = elim (cases_lt k 16) [
  | inl low ↦
      let (i, s, at_i, mine, log) = stake_at v ts k logs low in
      let entered = each_at (λ (z : Stake). made_with z.number (list_of q v) ≡ entered_in q z.log) v.stakes i s (aware.entered q) at_i in
      ap (λ n. made_with n (list_of q v)) (sym mine) ∙ (entered ∙ ap (entered_in q) log)
  | inr high ↦ none_made k (list_of q v) high (aware.makers q) ∙ sym (ap (entered_in q) (none_logged k ts high logs.threads))
]

pub seats_know : SeatsKnow
seats_know = record {
  logs = λ v ts aware every threads logs. record {
    logs = record { every = every; once = aware.stake_once; threads = threads; logs = logs };
    all = aware.all_logs every;
  };
  lists = λ q v ts aware logs lines. record { made = λ k. made_by_thread q v ts k aware logs; lines = lines };
}
