-- A thread's cache of one class, as contracts see it, and what a seat has of its titles.
use Rattle.std.specs.Prelude.{◌≡◌, ◌≢◌, ℕ, ◌+◌, ◌<◌, ◌≤◌, List, ◌++◌, length, take, drop, All, AllPairs}
use Rattle.pa_slot.specs.declared.title.Title.{Title}
use Rattle.pa_slot.specs.Count.{number_of}
use Rattle.pa_slot.specs.Titles.{count_word}
use Rattle.pa_buckets.specs.Limits.{class_count}
use Rattle.pa_buckets.specs.Table.{slot_of}
use Rattle.pa_buckets.specs.Bands.{limit_of}
use Rattle.pa_region.specs.declared.view.View.{View}
use Rattle.pa_region.specs.Views.{free_of, seen_of}

-- a cache: the number of its class, and its titles, front first
pub record CacheList : Type 0 where
  pub class : ℕ
  pub titles : List Title

-- What the type of a cache keeps: the class is one of the 170, each title has its slot size, no title is there twice, and there are at
-- most 8 more than the limit.
pub record IsCache (c : CacheList) : Type 0 where
  pub class : c.class < class_count
  pub sized : All (λ (t : Title). t.len ≡ slot_of c.class) c.titles
  pub different : AllPairs ◌≢◌ c.titles
  pub few : length c.titles ≤ limit_of c.class + 8

-- a seat with this view holds each of the titles free
abbrev pub HoldsFree : View → List Title → Type 0
HoldsFree v ts = All (λ t. 0 < free_of v t) ts

-- a seat with this view holds the title free, once, and has seen the number of its count word
pub record IsFreeAtItsNumber (v : View) (t : Title) : Type 0 where
  pub once : free_of v t ≡ 1
  pub number : number_of (count_word v.words t) ≡ seen_of v t

-- the titles after the first `keep`, at most 16
abbrev pub batch_after : ℕ → List Title → List Title
batch_after keep ts = take 16 (drop keep ts)

-- the titles without the batch after the first `keep`: the first `keep`, and those after the next 16
abbrev pub rest_after : ℕ → List Title → List Title
rest_after keep ts = take keep ts ++ drop (keep + 16) ts
