-- Titles that go back to the root of their partition: how that changes a worker's thread state, and what was entered for it.
use Rattle.std.specs.Prelude.{◌≡◌, ℕ, ◌+◌, ◌*◌, ◌<◌, ◌≤◌, ◌==◌, ◌&&◌, ◌++◌, List, [], ◌∷◌, map, take, drop, Contains, slice_index, if◌then◌else◌}
use Rattle.pa_slot.specs.declared.title.Title.{Title}
use Rattle.pa_slot.specs.Titles.{IsWellFormed}
use Rattle.pa_slot.specs.Holdings.{Thing}
use Rattle.pa_record.specs.declared.root.RootAct.{RootAct}
use Rattle.pa_record.specs.declared.root.RootAct.TheVariants.{Give}
use Rattle.pa_record.specs.Numbers.{root_numbers}
use Rattle.pa_region.specs.declared.view.Entry.TheVariants.{Entered}
use Rattle.pa_region.specs.declared.view.Made.{Made}
use Rattle.pa_region.specs.declared.view.View.{View}
use Rattle.pa_region.specs.Views.{held_of_view, free_of, seen_of, stake_of}
use Rattle.pa_region.specs.Waiting.{unclean_of}
use Rattle.pa_region.specs.Lists.{list_of, IsBeginning}
use Rattle.pa_region.specs.Takes.{log_of}
use Rattle.pa_region.specs.Hands.{left_after}
use Rattle.pa_region.specs.Aware.{IsAware}
use Rattle.pa_cache.specs.Caches.{batch_after, rest_after}
use Rattle.pa_root.specs.Making.{EntersOne}
use Rattle.pa_root.specs.Filling.{frees_parcel}
use Rattle.pa_root.specs.Handing.{root_entry, numbered_by}
use Rattle.pa_rules.specs.Caches.{gives}
use Rattle.pa_op_specs.specs.Stocks.{StockValue, titles_in, listed_in}

-- Acts of the line were entered in the list of partition p's root, and the lists have these titles then.
--   entries, says: the entries, which say the acts
--   logs: the log of the thread state's stake has them, and no other log has more
--   stakes, budget, same, version, plain: stay
--   lists, grows: it forgets nothing
--   numbers: it has seen the same number of each title that it still holds free
--   fewer, frees: it holds no more titles free than before, and still those that were on no list
--   kept, listed: what the lists have is part of what they had
pub record Gives (line p : ℕ) (acts : List RootAct) (left : ℕ → ℕ → List Title) (before after : StockValue) : Type 0 where
  pub entries : List Made
  pub says : map (λ (m : Made). m.numbers) entries ≡ map root_numbers (map (root_entry line) acts)
  pub logs : (k : ℕ) → log_of k after.view ≡ log_of k before.view ++ (if k == before.thread then map (Entered p) entries else [])
  pub stakes : (k : ℕ) → stake_of after.view k ≡ stake_of before.view k
  pub budget : after.view.budget ≡ before.view.budget
  pub same : (after.thread ≡ before.thread) × (after.partitions ≡ before.partitions) × (after.registers ≡ before.registers)
  pub version : after.caches.version ≡ before.caches.version
  pub plain : after.plain_from ≡ before.plain_from
  pub lists : (k : ℕ) → IsBeginning (list_of k before.view) (list_of k after.view)
  pub grows : (t : Title) → seen_of before.view t ≤ seen_of after.view t
  pub numbers : (n : ℕ) (t : Title) → IsWellFormed n t → 0 < free_of after.view t → seen_of after.view t ≡ seen_of before.view t
  pub fewer : (t : Title) → free_of after.view t ≤ free_of before.view t
  pub frees : (t : Title) → ((q c : ℕ) → Contains (titles_in before.caches q c) t → ⊥) → free_of after.view t ≡ free_of before.view t
  pub kept : (q c : ℕ) → titles_in after.caches q c ≡ left q c
  pub listed : (q c : ℕ) (t : Title) → Contains (left q c) t → Contains (titles_in before.caches q c) t

-- A seat handed these titles over, and the root of partition p took them in on this line.
pub record HandsBack (r line p : ℕ) (titles : List Title) (v after : View) : Type 0 where
  pub left : View
  pub left_is : left ≡ left_after (frees_parcel titles) v
  pub aware : IsAware left
  pub index : ℕ
  pub enters : EntersOne index r p (root_entry line (Give (numbered_by v titles))) left after

-- A seat took in again what it had handed over: it has what it had, in its logs too, has seen the same, and each word is the same.
pub record TakesBack (v after : View) : Type 0 where
  pub things : (x : Thing) → held_of_view after x ≡ held_of_view v x
  pub unclean : unclean_of after ≡ unclean_of v
  pub budget : after.budget ≡ v.budget
  pub stakes : (k : ℕ) → stake_of after k ≡ stake_of v k
  pub logs : (k : ℕ) → log_of k after ≡ log_of k v
  pub words : (q : ℕ) → slice_index after.words q ≡ slice_index v.words q
  pub lists : (k : ℕ) → list_of k after ≡ list_of k v
  pub seen : (t : Title) → seen_of after t ≡ seen_of v t

-- the lists with these titles in that of partition p and the class
abbrev pub with_titles : ℕ → ℕ → List Title → (ℕ → ℕ → List Title) → ℕ → ℕ → List Title
with_titles p class ts lists q c = if (q == p) && (c == class) then ts else lists q c

-- The titles of a list after its first `keep` went back to their root, and the list has the first ones.
abbrev pub GivesTail : (line p class keep : ℕ) (before after : StockValue) → Type 0
GivesTail line p class keep before after =
    Gives line p (gives (drop keep (listed_in before p class)))
    (with_titles p class (take keep (titles_in before.caches p class)) (titles_in before.caches)) before after

-- the first 16 titles of a list after its first `keep` went back, in one entry
abbrev pub GivesBatch : (line p class keep : ℕ) (before after : StockValue) → Type 0
GivesBatch line p class keep before after =
    Gives line p (Give (numbered_by before.view (batch_after keep (titles_in before.caches p class))) ∷ [])
    (with_titles p class (rest_after keep (titles_in before.caches p class)) (titles_in before.caches)) before after

-- This many batches of 16 of a list's titles after the first `keep` went back. The list has the others, and the acts so far are the
-- first of those of the whole tail.
pub record GivesBatches (line p class keep batches : ℕ) (before after : StockValue) : Type 0 where
  pub acts : List RootAct
  pub given : Gives line p acts
      (with_titles p class (take keep (titles_in before.caches p class) ++ drop (keep + 16 * batches) (titles_in before.caches p class))
      (titles_in before.caches)) before after
  pub rest :
      acts ++ gives (numbered_by before.view (drop (keep + 16 * batches) (titles_in before.caches p class)))
      ≡ gives (drop keep (listed_in before p class))
