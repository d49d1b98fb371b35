-- How a script is played: what a step of it leaves.
use Rattle.std.specs.Prelude.{◌≡◌, ℕ, ◌+◌, ◌*◌, ◌≤◌, List, [], ◌++◌, length, map, Option}
use Rattle.std.specs.List.{flat_map}
use Rattle.pa_trace.specs.declared.line.Head.{Head}
use Rattle.pa_trace.specs.declared.script.Line.TheVariants.{Do}
use Rattle.pa_trace.specs.declared.script.Op.{Op}
use Rattle.pa_trace.specs.Unread.{Unread}
use Rattle.pa_trace.specs.Rules.{first_head, rules_of}
use Rattle.pa_record.specs.declared.entry.Answer.{Answer}
use Rattle.pa_script.specs.declared.script.Script.{Script}
use Rattle.pa_script.specs.declared.script.ScriptLine.{ScriptLine}
use Rattle.pa_script.specs.Unread.{IsScriptReadUpTo}
use Rattle.pa_rules.specs.declared.played.Played.{Played}
use Rattle.pa_rules.specs.Legal.{phases_in}
use Rattle.pa_rules.specs.Registers.{AllRegs}
use Rattle.pa_rules.specs.Told.{Told}
use Rattle.pa_model.specs.Player.{Player, records_so_far, IsGoing, GoesOnFrom, IsLater, AreRegsAfter, trace_so_far}
use Rattle.pa_resize.specs.declared.verdict.Verdict.{Verdict}
use Rattle.pa_resize.specs.Expansion.{did, ScriptPiece, IsResized, IsPiece, ArePieces, verdicts_of}

-- the record of an op that is played next
abbrev pub next_record : Player → ℕ → Op → Answer → Played
next_record p thread op answer =
    record {
      line = length p.lines.items + 2;
      thread = thread;
      phase = phases_in p.lines.items;
      rules = rules_of (trace_so_far p);
      op = op;
      answer = answer;
    }

-- Ops were played, and left these records.
pub record Went (p : Player) (xs : List Played) (q : Player) : Type 0 where
  pub going : IsGoing q
  pub head : q.lines.head ≡ p.lines.head
  pub lines : q.lines.items ≡ p.lines.items ++ map did xs
  pub records : records_so_far q ≡ records_so_far p ++ xs
  pub later : IsLater p q

-- these ops of a thread were played
abbrev pub WentBy : Player → ℕ → List Op → Player → Type 0
WentBy p thread ops q = (xs : List Played) × (map did xs ≡ map (Do thread) ops) × Went p xs q

-- A resize was played, with this verdict.
pub record Resizes (p : Player) (thread reg size : ℕ) (v : Verdict) (q : Player) : Type 0 where
  pub added : List Played
  pub went : Went p added q
  pub few : length added ≤ 6
  pub is : (ps : List Played) (r : Told) → GoesOnFrom q ps r
      → (regs : AllRegs) × AreRegsAfter 1 ps r (records_so_far p) regs × IsResized v r.roots (regs thread reg) thread reg size added

-- A line of a script was played. It has this verdict if it is a resize.
pub record PlaysScriptLine (p : Player) (l : ScriptLine) (found : Option Verdict) (q : Player) : Type 0 where
  pub going : IsGoing q
  pub head : q.lines.head ≡ p.lines.head
  pub piece : ScriptPiece
  pub line : piece.line ≡ l
  pub verdict : piece.verdict ≡ found
  pub lines : q.lines.items ≡ p.lines.items ++ piece.lines
  pub records : records_so_far q ≡ records_so_far p ++ piece.records
  pub few : length piece.lines ≤ 6
  pub later : IsLater p q
  pub is : (ps : List Played) (r : Told) → GoesOnFrom q ps r → IsPiece ps r (records_so_far p) piece

-- the head of the trace that a script comes to, which is of version 1
abbrev pub script_head : Script → Head
script_head s = first_head s.region s.partitions s.threads

-- These lines of a script were played, with these verdicts.
pub record IsScriptPlayed (start : Head) (ls : List ScriptLine) (p : Player) (vs : List (ℕ × Verdict)) : Type 0 where
  pub going : IsGoing p
  pub head : p.lines.head ≡ start
  pub pieces : List ScriptPiece
  pub script : map (λ (x : ScriptPiece). x.line) pieces ≡ ls
  pub trace : flat_map (λ (x : ScriptPiece). x.lines) pieces ≡ p.lines.items
  pub records : flat_map (λ (x : ScriptPiece). x.records) pieces ≡ records_so_far p
  pub few : length p.lines.items ≤ 6 * length ls
  pub each : (ps : List Played) (r : Told) → GoesOnFrom p ps r → ArePieces ps r [] pieces
  pub verdicts : vs ≡ verdicts_of 2 pieces

-- The lines of a script that were read of these bytes so far were played.
pub record IsInputPlayedTo (bytes : List ℕ) (u : Unread) (p : Player) : Type 0 where
  pub lines : List ScriptLine
  pub verdicts : List (ℕ × Verdict)
  pub read : IsScriptReadUpTo bytes lines u
  pub played : IsScriptPlayed u.head lines p verdicts
