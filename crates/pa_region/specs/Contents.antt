-- A title's history up to a number: the word and the content there.
use Rattle.std.specs.Prelude.{ℕ, List, [], ◌∷◌, length, nat_lt, if◌then◌else◌}
use Rattle.pa_region.specs.History.{Done, reached, content_of}

-- the first k steps of a history, or all of it if it has no more
abbrev pub up_to : ℕ → List Done → List Done
up_to k [] = []
up_to k (d ∷ older) = if nat_lt (length older) k then d ∷ older else up_to k older

-- the content at number k
abbrev pub content_at_number : ℕ → List Done → ℕ
content_at_number k history = content_of (up_to k history)

-- the word with number k
abbrev pub word_at_number : ℕ → List Done → ℕ
word_at_number k history = reached (up_to k history)
