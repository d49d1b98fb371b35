-- The region's rule: what holds between any two steps, of the words and the views of all seats.
use Rattle.std.specs.Prelude.{◌≡◌, ℕ, ◌+◌, ◌<◌, ◌≤◌, List, length, nat_lt, slice_index}
use mathlib.Core.Option.{some}
use lib.ListN.{get_elem?}
use Rattle.pa_slot.specs.declared.title.Title.{Title}
use Rattle.pa_slot.specs.Count.{number_of, refs_of}
use Rattle.pa_slot.specs.Titles.{Covers, IsWellFormed, count_word}
use Rattle.pa_slot.specs.Holdings.{Thing, one, IsTitleHeld}
use Rattle.pa_machine.specs.Good.{IsGood}
use Rattle.pa_machine.specs.Events.{total_of}
use Rattle.pa_machine.specs.Trail.{KeepsContent}
use Rattle.pa_region.specs.declared.view.Entry.{Entry}
use Rattle.pa_region.specs.declared.view.Made.{Made}
use Rattle.pa_region.specs.declared.view.View.{View}
use Rattle.pa_region.specs.Views.{byte_words, shown, Knows, idle_in, budget_in, low_in, uncut_in, undone_in, stakes_in, logged_in, ahead_in, unseen_in, counted, counted_on, names}
use Rattle.pa_region.specs.Waiting.{Reads}
use Rattle.pa_region.specs.History.{Done, reached, content_of, IsChained}
use Rattle.pa_region.specs.Waiting.{Reads}
use Rattle.pa_region.specs.Pairs.{logged_by}
use Rattle.pa_region.specs.Lists.{Lists}
use Rattle.pa_region.specs.Totals.{Totals}
use Rattle.pa_region.specs.Order.{Stamped, OneStep, InOneOrder}
use Rattle.pa_region.specs.Filled.{Filled}

-- The first part: the core that is shown is good. If a view knows that a title has no Ref left, as it does while the Own is sealed,
-- its count is 0. The steps that may still be made are at most 65,536 together with those that were made, and also together with the
-- number of any one held title. The count of a held title isn't above its number.
pub record Holders (words : List ℕ) (total : Thing → ℕ) (idle : Title → ℕ) (budget steps : ℕ) : Type 0 where
  pub good : IsGood words total
  pub known : (t : Title) → 0 < idle t → refs_of (count_word words t) ≡ 0
  pub affords : budget + steps ≤ 65536
  pub few : (t : Title) → IsTitleHeld total t → budget + number_of (count_word words t) ≤ 65536
  pub few_refs : (t : Title) → IsTitleHeld total t → refs_of (count_word words t) ≤ number_of (count_word words t)

-- The first part, of what each view knows: its list is as long as the region's,
-- and has the value of each word that the view knows.
pub record Values (words : List ℕ) (views : List View) : Type 0 where
  pub long : (i : ℕ) (v : View) → get_elem? views i ≡ some v → length v.words ≡ length words
  pub known : (i word : ℕ) (v : View) → get_elem? views i ≡ some v → Knows v word → slice_index v.words word ≡ slice_index words word

-- The second part, of each title that some log names: the raw bytes that it covers have floors above its `born`, and each
-- other held title that shares a byte with it has a greater `born`. A title that was uncut isn't held.
pub record Reservations (total : Thing → ℕ) (low : ℕ → ℕ → ℕ) (named uncut : Title → ℕ) : Type 0 where
  pub floors : (t : Title) (b : ℕ) → 0 < named t → Covers t b → low b t.born ≡ 0
  pub later : (t u : Title) (b : ℕ) → 0 < named t → IsTitleHeld total u → (t ≡ u → ⊥) → Covers t b → Covers u b → t.born < u.born
  pub gone : (t : Title) → 0 < uncut t → IsTitleHeld total t → ⊥

-- The second part also says that titles which logs name are well formed, in a region of this many words. Two of them with one start
-- and one `born` are the same. Such a title is held unless a log says that it was uncut.
pub record Named (words : ℕ) (total : Thing → ℕ) (named uncut : Title → ℕ) : Type 0 where
  pub well : (t : Title) → 0 < named t → IsWellFormed words t
  pub one_name : (t u : Title) → 0 < named t → 0 < named u → t.start ≡ u.start → t.born ≡ u.born → t ≡ u
  pub held : (t : Title) → 0 < named t → uncut t ≡ 0 → IsTitleHeld total t

-- The third part: the logs chain the history of each title, held or not. A held title's word is the last one of its
-- history. Each of the 16 stakes is in exactly one view, and there are no others.
pub record Logs (history : Title → List Done) (words : List ℕ) (total : Thing → ℕ) (logs : (Entry → ℕ) → ℕ) (stakes : ℕ → ℕ) : Type 0 where
  pub chain : (t : Title) → IsChained logs t (history t)
  pub last : (t : Title) → IsTitleHeld total t → count_word words t ≡ reached (history t)
  pub each_stake : (k : ℕ) → stakes k ≡ one (nat_lt k 16)

-- The fourth part: what a view has seen of a title isn't above the number of the title's counted steps in all logs,
-- and a view has seen what the logs of its own stakes say.
pub record Seen (logs : (Entry → ℕ) → ℕ) (ahead : Title → ℕ → ℕ) (unseen : ℕ) : Type 0 where
  pub numbers : (t : Title) → ahead t (logs (counted_on t)) ≡ 0
  pub own_logs : unseen ≡ 0

-- The rule, in eight parts, each over what it reads. Each title has a history, each keeper a list, and all that was logged an order.
-- The third part also says what reads gave, and that the content of each clean Own is that of its title's history, and the rest of an
-- Own that is being poisoned too while there are Refs. What a view's own list says was uncut, some log says too.
pub record IsKept (words : List ℕ) (views : List View) : Type 0 where
  pub history : Title → List Done
  pub list : ℕ → List Made
  pub all : List Stamped
  pub steps : List OneStep
  pub holders : Holders (byte_words words) (total_of (shown words views)) (idle_in views) (budget_in views) (logged_in views counted)
  pub values : Values (byte_words words) views
  pub reservations : Reservations (total_of (shown words views)) (low_in views) (λ t. logged_in views (names t)) (uncut_in views)
  pub named : Named (length (byte_words words)) (total_of (shown words views)) (λ t. logged_in views (names t)) (uncut_in views)
  pub logs : Logs history (byte_words words) (total_of (shown words views)) (logged_in views) (stakes_in views)
  pub content : KeepsContent (shown words views) (λ t. content_of (history t))
  pub reads : Reads history (byte_words words) views
  pub seen : Seen (logged_in views) (ahead_in views) (unseen_in views)
  pub lists : Lists list views
  pub undone : (t : Title) → undone_in views t ≤ uncut_in views t
  pub totals : Totals words (logged_in views) (logged_by views)
  pub ordered : InOneOrder all list views
  pub filled : Filled steps all history (total_of (shown words views)) views
