-- What a source and a sink in memory are.
use Rattle.std.specs.Prelude.{ℕ, List}

-- a source in memory: the bytes not yet read, the most that one call gives, the numbers of the calls that fail, how
-- many calls were made, and how many of them failed
pub record SourceState : Type 0 where
  pub left : List ℕ
  pub piece : ℕ
  pub fails : List ℕ
  pub calls : ℕ
  pub faults : ℕ

-- a sink in memory: the bytes taken so far, the most that it takes in all and in one call, the numbers of the calls
-- that fail, how many calls were made, and how many of them failed
pub record SinkState : Type 0 where
  pub written : List ℕ
  pub room : ℕ
  pub piece : ℕ
  pub fails : List ℕ
  pub calls : ℕ
  pub faults : ℕ
