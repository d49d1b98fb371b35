-- What is to be shown of an op: whatever lines led to the player before it, with one more they lead to the player after it.
use Rattle.std.specs.Prelude.{◌≡◌, ℕ, ◌-◌, ◌<◌, List, [], ◌∷◌, ◌++◌, length, Option, Some, None}
use Rattle.pa_trace.specs.declared.script.Op.{Op}
use Rattle.pa_trace.specs.declared.script.Line.{Line}
use Rattle.pa_trace.specs.declared.script.Line.TheVariants.{Phase, Do}
use Rattle.pa_trace.specs.declared.script.Op.TheVariants as ops
use Rattle.pa_trace.specs.declared.line.Head.{Head}
use Rattle.pa_trace.specs.Limits.{IsHeadWithin, IsLineWithin}
use Rattle.pa_trace.specs.Unread.{Unread, IsReadUpTo}
use Rattle.pa_trace.specs.Rules.{rules_by}
use Rattle.pa_record.specs.declared.entry.Entry.{Entry}
use Rattle.pa_record.specs.declared.entry.Seen.{Seen}
use Rattle.pa_record.specs.declared.entry.Answer.{Answer}
use Rattle.pa_record.specs.declared.entry.Answer.TheVariants.{Value}
use Rattle.pa_record.specs.declared.history.CellEntry.{CellEntry}
use Rattle.pa_record.specs.declared.root.RootEntry.{RootEntry}
use Rattle.pa_rules.specs.declared.register.Register.TheVariants.{Own}
use Rattle.pa_player.specs.Player.{Player}
use Rattle.pa_player.specs.Playing.{journals, register_at, rules_at, IsPlaying}
use Rattle.pa_player.specs.Told.{history_in}
use Rattle.pa_player.specs.Changes.{answered}

-- the head of a trace of the player's version, with its plain partitions
abbrev pub head_to : Player → ℕ → ℕ → ℕ → Head
head_to p region partitions threads =
    record { version = p.version; region = region; partitions = partitions; threads = threads; plain = partitions - p.plain_from }

-- these lines were played, and one more can be
pub record CanGoOn (region partitions threads : ℕ) (ls : List Line) (l : Line) (p : Player) : Type 0 where
  pub playing : IsPlaying region partitions threads ls p
  pub short : length ls < 65535
  pub within : IsLineWithin partitions threads l
  pub head : IsHeadWithin (head_to p region partitions threads)

-- some lines were played, and this one can be
pub record IsReady (l : Line) (p : Player) : Type 0 where
  pub region : ℕ
  pub partitions : ℕ
  pub threads : ℕ
  pub ls : List Line
  pub can : CanGoOn region partitions threads ls l p

-- What was output before stays: these records are added, and journals and histories go on. The rules stay too.
pub record TellsOn (es : List Entry) (p q : Player) : Type 0 where
  pub rules : rules_at q ≡ rules_at p
  pub entries : q.told.entries ≡ p.told.entries ++ es
  pub journals : (k : ℕ) → (more : List RootEntry) × (journals q k ≡ journals p k ++ more)
  pub histories : (k : ℕ) → (more : List CellEntry) × (history_in q.told k ≡ history_in p.told k ++ more)

-- the record of an op that is answered so on this line
abbrev pub record_of : Player → ℕ → Answer → Entry
record_of p thread answer = record { line = p.told.line; thread = thread; answer = answer }

-- these lines were played, and the output has these records more
abbrev pub HasPlayedTo : ℕ → ℕ → ℕ → List Line → List Entry → Player → Player → Type 0
HasPlayedTo region partitions threads ls es p q = IsPlaying region partitions threads ls q × TellsOn es p q

-- the op was played after these lines, with this answer
abbrev pub PlaysAfter : ℕ → ℕ → ℕ → List Line → Player → ℕ → Op → Player → Answer → Type 0
PlaysAfter region partitions threads ls p thread op q answer =
    HasPlayedTo region partitions threads (ls ++ Do thread op ∷ []) (record_of p thread answer ∷ []) p (answered thread answer q)

-- whatever lines led to p, after them the op was played with this answer
abbrev pub Plays : Player → ℕ → Op → Player → Answer → Type 0
Plays p thread op q answer =
    (region partitions threads : ℕ) (ls : List Line) → CanGoOn region partitions threads ls (Do thread op) p →
    PlaysAfter region partitions threads ls p thread op q answer

-- the line was played: an op with this answer, and a line that begins a phase with none
abbrev pub GoesTo : Player → Line → Option Answer → Player → Type 0
GoesTo p Phase None q =
    (region partitions threads : ℕ) (ls : List Line) → CanGoOn region partitions threads ls Phase p →
    HasPlayedTo region partitions threads (ls ++ Phase ∷ []) [] p q
GoesTo p Phase (Some answer) q = ⊥
GoesTo p (Do thread op) None q = ⊥
GoesTo p (Do thread op) (Some answer) q =
    (region partitions threads : ℕ) (ls : List Line) → CanGoOn region partitions threads ls (Do thread op) p →
    HasPlayedTo region partitions threads (ls ++ Do thread op ∷ []) (record_of p thread answer ∷ []) p q

-- whatever lines led to p, after them the line was played, with some answer or with none, by the same rules
abbrev pub GoesOnTo : Player → Line → Player → Type 0
GoesOnTo p l q =
    (region partitions threads : ℕ) (ls : List Line) → CanGoOn region partitions threads ls l p →
    IsPlaying region partitions threads (ls ++ l ∷ []) q × (rules_at q ≡ rules_at p)

-- a read of an owner's first word gives a value
abbrev pub ReadsOwn : Player → ℕ → Op → Answer → Type 0
ReadsOwn p thread (ops.Read reg place) answer =
    (i : ℕ) → register_at p thread reg ≡ Own i → place ≡ 0 → (seen : Seen) × (value : ℕ) × (answer ≡ Value seen value)
ReadsOwn p thread op answer = Unit {0}

-- a line that is a read of an owner's first word gives a value
abbrev pub ReadsOwnOn : Player → Line → Option Answer → Type 0
ReadsOwnOn p (Do thread op) (Some answer) = ReadsOwn p thread op answer
ReadsOwnOn p l answer = Unit {0}

-- the lines that were read of these bytes so far were played
pub record IsPlayedUpTo (known : ℕ) (bytes : List ℕ) (u : Unread) (p : Player) : Type 0 where
  pub ls : List Line
  pub read : IsReadUpTo known bytes ls u
  pub rules : rules_at p ≡ rules_by u.head
  pub playing : IsPlaying u.head.region u.head.partitions u.head.threads ls p
