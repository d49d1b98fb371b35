-- A player before the first line.
use Rattle.std.specs.Prelude.{◌≡◌, ℕ, ◌*◌, ◌<◌, List, [], length, slice_index_or}
use Rattle.pa_record.specs.Pool.{new_pool}
use Rattle.pa_record.specs.Root.{Root, new_root}
use Rattle.pa_trace.specs.Limits.{register_count, cell_count}
use Rattle.pa_trace.specs.declared.line.Head.{Head}
use Rattle.pa_trace.specs.Rules.{rules_by}
use Rattle.pa_rules.specs.Sizes.{class_total}
use Rattle.pa_rules.specs.declared.register.Register.{Register}
use Rattle.pa_rules.specs.declared.register.Register.TheVariants.{Empty}
use Rattle.pa_player.specs.Player.{Player}
use Rattle.pa_player.specs.Playing.{cell_at, rules_at}
use Rattle.pa_player.specs.Tallies.{IsNone}
use Rattle.pa_player.specs.Told.{Lists}

-- these are `n` lists, and all of them are empty
pub record AreEmpty {X : Type 0} (n : ℕ) (xs : List (List X)) : Type 0 where
  pub count : length xs ≡ n
  pub empty : (i : ℕ) → slice_index_or xs i [] ≡ []

-- these are the registers of that many threads, 64 each, and all of them are empty
pub record AreClear (threads : ℕ) (xs : List (List (Register ℕ))) : Type 0 where
  pub count : length xs ≡ threads
  pub sixty_four : (t : ℕ) → t < threads → length (slice_index_or xs t []) ≡ register_count
  pub clear : (t r : ℕ) → slice_index_or (slice_index_or xs t []) r Empty ≡ Empty

-- these are that many roots, and all of them are new
pub record AreNew (partitions : ℕ) (xs : List Root) : Type 0 where
  pub count : length xs ≡ partitions
  pub new : (q : ℕ) → slice_index_or xs q new_root ≡ new_root

-- nothing is reported, and the line after the head comes next
pub record IsUntold (partitions : ℕ) (t : Lists) : Type 0 where
  pub entries : t.entries ≡ []
  pub journals : AreEmpty partitions t.journals
  pub pools : t.pools ≡ []
  pub histories : AreEmpty cell_count t.histories
  pub report : t.report ≡ []
  pub line : t.line ≡ 2

-- no line was played
pub record IsBegun (h : Head) (p : Player) : Type 0 where
  pub pool : p.heap.pool ≡ new_pool h.region
  pub roots : AreNew h.partitions p.heap.roots
  pub table : p.table ≡ []
  pub registers : AreClear h.threads p.registers
  pub cells : length p.cells ≡ cell_count
  pub cell : (k : ℕ) → cell_at p k ≡ Empty
  pub caches : AreEmpty (h.threads * h.partitions * class_total h.version) p.caches
  pub live : IsNone p.live.of
  pub quarantined : IsNone p.quarantined.of
  pub cached : IsNone p.cached.of
  pub told : IsUntold h.partitions p.told
  pub rules : rules_at p ≡ rules_by h
  pub many : p.partitions ≡ h.partitions
  pub phase : p.phase ≡ 1
