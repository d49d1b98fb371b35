-- The turns of a slot at a number: threads take it out of the root, and give it back.
use Rattle.std.specs.Prelude.{◌≡◌, ℕ, ◌+◌, ◌<◌, ◌==◌, ◌&&◌, Bool, true, false, not, if◌then◌else◌, List, [], ◌∷◌, ◌++◌, count_by}
use Rattle.pa_rules.specs.Holders.{Holder, InRoot, WithThread, Way, Out, Back}

-- a thread takes the slot out, or gives it back
pub record Turn : Type 0 where
  pub way : Way
  pub thread : ℕ

-- the test whether a slot goes out of the root
abbrev pub is_out : Way → Bool
is_out Out = true
is_out Back = false

-- the test whether a thread has the slot
abbrev pub is_with : Holder → Bool
is_with InRoot = false
is_with (WithThread t) = true

-- the holder that a turn of thread t needs: the root if it takes the slot out, the thread if it gives it back
abbrev pub needs : Way → ℕ → Holder
needs Out t = InRoot
needs Back t = WithThread t

-- the holder after a turn of thread t: the thread if it took the slot out, the root if it gave it back
abbrev pub makes : Way → ℕ → Holder
makes Out t = WithThread t
makes Back t = InRoot

-- the slot goes out and back in turn, and `away` says whether a thread has it before them
abbrev pub Alternate : Bool → List Turn → Type 0
Alternate away [] = Unit {0}
Alternate away (u ∷ us) = (away ≡ not (is_out u.way)) × Alternate (is_out u.way) us

-- each turn finds the holder that it needs
abbrev pub TurnsFit : Holder → List Turn → Type 0
TurnsFit h [] = Unit {0}
TurnsFit h (u ∷ us) = (h ≡ needs u.way u.thread) × TurnsFit (makes u.way u.thread) us

-- the holder after some turns
abbrev pub holder_after : Holder → List Turn → Holder
holder_after h [] = h
holder_after h (u ∷ us) = holder_after (makes u.way u.thread) us

-- 1 if thread t is the holder, and else 0
abbrev pub has : ℕ → Holder → ℕ
has t InRoot = 0
has t (WithThread u) = if u == t then 1 else 0

-- how many of the turns are those by which thread t takes the slot out
abbrev pub takes_of : ℕ → List Turn → ℕ
takes_of t us = count_by (λ (u : Turn). is_out u.way && (u.thread == t)) us

-- how many of the turns are those by which thread t gives the slot back
abbrev pub backs_of : ℕ → List Turn → ℕ
backs_of t us = count_by (λ (u : Turn). not (is_out u.way) && (u.thread == t)) us

-- no thread gives the slot back more often than it had it at first and took it out before
abbrev pub NoneLoses : Holder → List Turn → Type 0
NoneLoses h us =
    (before after : List Turn) (u : Turn) → us ≡ before ++ u ∷ after → u.way ≡ Back →
    backs_of u.thread before < has u.thread h + takes_of u.thread before

-- If the slot goes out and back in turn and no thread gives back more than it got, each turn finds the holder that it
-- needs, and a thread that got the slot more often than it gave it back has it after them.
abbrev pub HoldersBalance : Type 0
HoldersBalance =
    (h : Holder) (us : List Turn) → Alternate (is_with h) us → NoneLoses h us →
    TurnsFit h us × ((t : ℕ) → backs_of t us < has t h + takes_of t us → holder_after h us ≡ WithThread t)
