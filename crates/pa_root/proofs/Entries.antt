-- What a caller knows of entries that were made for it.
use Rattle.std.proofs.Common.{◌≡◌, ℕ, ◌+◌, ◌<◌, ◌≤◌, List, [], ◌∷◌, ◌++◌, Bool, true, false, length, refl, sym, ◌∙◌, ap, subst, arith, eqb, append_assoc, inl, inr}
use Rattle.std.specs.Prelude.{if◌then◌else◌}
use Rattle.std.proofs.lemmas.Bool.{cases_lt, eq-eqb}
use Rattle.std.proofs.lemmas.List.{append-nil, length-append}
use Rattle.pa_region.specs.declared.view.Entry.{Entry}
use Rattle.pa_region.specs.declared.view.Entry.TheVariants.{Entered}
use Rattle.pa_region.specs.declared.view.Made.{Made}
use Rattle.pa_region.specs.declared.view.View.{View}
use Rattle.pa_region.specs.Lists.{list_of, made_with, entered_in, entry_in}
use Rattle.pa_region.proofs.ListFacts.{entered_more}
use Rattle.pa_region.proofs.JoinLists.{beginning_whole}
use Rattle.pa_region.proofs.TakeLaws.{stakes_made}
use Rattle.pa_region.specs.Lending.{Keeps, Lends, IsNoted}
use Rattle.pa_region.specs.Takes.{log_of}
use Rattle.pa_region.specs.Views.{stake_of}
use Rattle.pa_region.specs.Aware.{IsAware}
use Rattle.pa_region.proofs.LendBack.{begins_on, keeps_on}
use Rattle.pa_record.specs.Numbers.{root_numbers, pool_numbers}
use Rattle.pa_root.specs.Making.{IsEnteredAt, EntriesAreTold, EntriesAreNew}

later : (j r k : ℕ) (numbers : List ℕ) (v x after : View) (m : Made) → IsEnteredAt j r k numbers v x m → Keeps x after →
    IsEnteredAt j r k numbers v after m
later j r k numbers v x after m e keeps = record {
  stake = e.stake;
  says = e.says;
  earlier = e.earlier;
  stands = begins_on (e.earlier ++ m ∷ []) (list_of k x) (list_of k after) e.stands (keeps.lists k);
  index = e.index;
  before = e.before;
  known = λ t. let a = e.known t in let b = keeps.seen t in omega arith;
}

sooner : (j r k : ℕ) (numbers : List ℕ) (v x after : View) (m : Made) → Keeps v x → IsEnteredAt j r k numbers x after m →
    IsEnteredAt j r k numbers v after m
sooner j r k numbers v x after m keeps e = record {
  stake = e.stake;
  says = e.says;
  earlier = e.earlier;
  stands = e.stands;
  index = e.index;
  before = λ t. let a = keeps.seen t in let b = e.before t in omega arith;
  known = e.known;
}

logged_on : (test : Bool) (a b c more again : List Entry) → b ≡ a ++ (if test then more else []) → c ≡ b ++ (if test then again else []) →
    c ≡ a ++ (if test then more ++ again else [])
logged_on true a b c more again e f = f ∙ ap (λ l. l ++ again) e ∙ append_assoc a more again
logged_on false a b c more again e f = f ∙ append-nil b ∙ e

pub on : (r : ℕ) (more again : List Entry) (v x after : View) → Lends r more v x → Lends r again x after → Lends r (more ++ again) v after
on r more again v x after first second = record {
  keeps = keeps_on v x after first.keeps second.keeps;
  own_lists = λ k has. second.own_lists k (subst (λ n. 0 < n) (sym (first.keeps.keepers k)) has) ∙ first.own_lists k has;
  logs = λ k. logged_on (eqb k r) (log_of k v) (log_of k x) (log_of k after) more again (first.logs k) (second.logs k);
}

entered : (r k : ℕ) (numbers : List ℕ) (v after host host_now : View) (m : Made) → IsNoted r k numbers v after host host_now m →
    IsEnteredAt (length (list_of k host)) r k numbers v after m
entered r k numbers v after host host_now m e = record {
  stake = e.stake;
  says = e.says;
  earlier = list_of k host;
  stands = ([], e.whole ∙ e.list ∙ sym (append-nil (list_of k host ++ m ∷ [])));
  index = refl;
  before = e.before;
  known = e.known;
}

pub entries_are_told : EntriesAreTold
entries_are_told = record {
  later = later;
  sooner = sooner;
  on = on;
  one = λ r p entry v after host host_now m e. record {
    made = m;
    is_made = entered r p (root_numbers entry) v after host host_now m e;
    lends = e.lends;
  };
  two = λ asked r p first taken entry v x after host host_now m n is_pool lends e. record {
    pool = m;
    made = n;
    is_pool = later asked r 4 (pool_numbers taken) v x after m is_pool e.lends.keeps;
    is_made =
        let here = entered r p (root_numbers entry) x after host host_now n e in
        record {
          stake = here.stake;
          says = here.says;
          earlier = here.earlier;
          stands = here.stands;
          index = here.index;
          before = λ t. let a = lends.keeps.seen t in let b = here.before t in omega arith;
          known = here.known;
        };
    between = λ t. let a = is_pool.known t in let b = e.before t in omega arith;
    lends = subst (λ l. Lends r l v after) (append_assoc first (Entered 4 m ∷ []) (Entered p n ∷ []))
        (on r (first ++ Entered 4 m ∷ []) (Entered p n ∷ []) v x after lends e.lends);
  };
}

-- ---- an entry is new

-- the entry in the log, and in the list
one_entered : (k : ℕ) (m : Made) → entry_in k (Entered k m) ≡ m ∷ []
one_entered k m = rw (eq-eqb k k refl) refl

last_logged : (r : ℕ) (a b more : List Entry) → b ≡ a ++ (if eqb r r then more else []) → b ≡ a ++ more
last_logged r a b more e = e ∙ rw (eq-eqb r r refl) refl

pub entry_is_new : (r k : ℕ) (v after : View) (before : List Made) (m : Made) → IsAware v → IsAware after → 0 < stake_of v r →
    list_of k after ≡ before ++ m ∷ [] → Lends r (Entered k m ∷ []) v after → length (list_of k v) ≤ length before
entry_is_new r k v after before m aware now has list lends = elim (cases_lt (length before) (length (list_of k v))) [
  | inr most ↦ most
  | inl longer ↦
      let long : length (list_of k after) ≡ length before + 1 = ap length list ∙ length-append before (m ∷ []) in
      let same : list_of k v ≡ list_of k after = beginning_whole (list_of k v) (list_of k after) (lends.keeps.lists k) (omega arith) in
      let logged : log_of r after ≡ log_of r v ++ Entered k m ∷ [] =
      last_logged r (log_of r v) (log_of r after) (Entered k m ∷ []) (lends.logs r) in
      let made = stakes_made v r k aware has in
      let then' = stakes_made after r k now (subst (λ n. 0 < n) (sym (lends.keeps.stakes r)) has) in
      let one : made_with r (list_of k after) ≡ entered_in k (log_of r v) ++ m ∷ [] =
      then' ∙ ap (entered_in k) logged ∙ entered_more k (log_of r v) (Entered k m) ∙
      ap (λ l. entered_in k (log_of r v) ++ l) (one_entered k m) in
      let both : length (made_with r (list_of k v)) ≡ length (entered_in k (log_of r v)) + 1 =
      ap (λ l. length (made_with r l)) same ∙ ap length one ∙ length-append (entered_in k (log_of r v)) (m ∷ []) in
      let first = ap length made in
      absurd (omega arith)
]

pub entries_are_new : EntriesAreNew
entries_are_new r k numbers v after host host_now m aware now has e =
    entry_is_new r k v after (list_of k host) m aware now has (e.whole ∙ e.list) e.lends
