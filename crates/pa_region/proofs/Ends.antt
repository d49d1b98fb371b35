-- At the end: a view with every stake has every log.
use Rattle.std.proofs.Common.{◌≡◌, ℕ, zero, suc, ◌-◌, ◌<◌, List, [], ◌∷◌, length, get_or, sym, ◌∙◌, subst, arith}
use Rattle.std.specs.Prelude.{slice_index}
use Rattle.std.specs.List.{sum_by}
use mathlib.Core.Option.{some, some-injective, some-ne-none}
use lib.ListN.{get_elem?}
use Rattle.pa_slot.specs.declared.title.Title.{Title}
use Rattle.pa_slot.specs.Holdings.{Thing}
use Rattle.pa_machine.specs.Events.{total_of}
use Rattle.pa_region.specs.declared.view.Entry.{Entry}
use Rattle.pa_region.specs.declared.view.Stake.{Stake}
use Rattle.pa_region.specs.declared.view.View.{View}
use Rattle.std.proofs.lemmas.List.{get_or-take, length-take-le}
use Rattle.pa_region.specs.Views.{byte_words, shown, stakes_in, logged_of, logged_in, names}
use Rattle.pa_region.specs.History.{Done}
use Rattle.pa_region.specs.Rule.{Logs, IsKept}
use Rattle.pa_region.specs.AllReads.{HasAllLogs}
use Rattle.pa_region.proofs.WholeReads.{any_none, all_of, whole_reads}
use Rattle.pa_region.specs.Views.{HasEveryStake}
use Rattle.pa_region.specs.History.{IsChained}

-- the logs of all views are those of the one that has every stake
pub all_logs : (views : List View) (i : ℕ) (v : View) (history : Title → List Done) (words : List ℕ) (total : Thing → ℕ) →
    get_elem? views i ≡ some v →
    Logs history words total (logged_in views) (stakes_in views) → HasEveryStake v → (weight : Entry → ℕ) →
    logged_in views weight ≡ logged_of v weight
all_logs views i v history words total at_i l every weight =
    all_of (λ (s : Stake). sum_by weight s.log) views i v at_i every l.each_stake (λ u none. any_none (sum_by weight) u.stakes none)

-- a view that has every stake knows all logs
unfoldable pub knows_logs : (words : List ℕ) (views : List View) (i : ℕ) (v : View) → IsKept words views → get_elem? views i ≡ some v →
    HasEveryStake v → HasAllLogs v
knows_logs words views i v k at_i every =
    let own_logs : (weight : Entry → ℕ) → logged_in views weight ≡ logged_of v weight =
    all_logs views i v k.history (byte_words words) (total_of (shown words views)) at_i k.logs every in
    let same : logged_in views ≡ logged_of v = λ n weight. own_logs weight n in
    record {
      history = k.history;
      chain = λ t. subst (λ (logs : (Entry → ℕ) → ℕ). IsChained logs t (k.history t)) same (k.logs.chain t);
      well = λ t known. let e = own_logs (names t) in rw (k.values.long i v at_i) (k.named.well t (omega arith));
      one_name = λ t u known other start born. let e = own_logs (names t) in let f = own_logs (names u) in
          k.named.one_name t u (omega arith) (omega arith) start born;
      reads = whole_reads k.history (byte_words words) views i v k.reads at_i every k.logs.each_stake;
    }

-- a word that the table's list has, among those of the bytes
pub word_of : (words : List ℕ) (i x : ℕ) → get_elem? words i ≡ some x → i < length (byte_words words) → slice_index (byte_words words) i ≡ x
word_of words i x e below =
    let l = length-take-le (length words - 16) words (omega arith) in
    get_or-take (length words - 16) words i 0 (omega arith) ∙ go words i x e
  where
    go : (ws : List ℕ) (k y : ℕ) → get_elem? ws k ≡ some y → get_or ws k 0 ≡ y
    go [] k y e = absurd (some-ne-none y (sym e))
    go (w ∷ ws) zero y e = some-injective w y e
    go (w ∷ ws) (suc k) y e = go ws k y e
