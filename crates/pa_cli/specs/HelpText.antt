-- What `--help` and `--version` print.
use Rattle.std.specs.Prelude.{ℕ, List, [], ◌∷◌, ◌++◌, codes}
use Rattle.std.specs.List.{flat_map}

-- the lines, each with an LF
abbrev pub ended : List (List ℕ) → List ℕ
ended lines = flat_map (λ line. line ++ 10 ∷ []) lines

-- what `--help` prints: the commands, an example, and what each status means
abbrev pub help_text : List ℕ
help_text =
    ended (codes "usage: partalloc COMMAND [< FILE]"
    ∷ []
    ∷ codes "commands"
    ∷ codes "  replay            read a trace from standard input, play each thread's lines on its own thread, print the run: answers, heap, exchanges, report"
    ∷ codes "  model             the same, but play all lines in their order, on one thread"
    ∷ codes "  delay BYTES       the same for version 1, but freed slots wait in their thread's queue of BYTES, 0 to 33554432; audit knows no queue"
    ∷ codes "  audit             read a trace and its run from standard input, print whether the run is legal"
    ∷ codes "  dangling          read the same, print each use of what was freed while raw_ptrs pointed to it: lines of allocation, free, use and copy"
    ∷ codes "  resize            read a script from standard input, which is a trace with lines that resize an object, print the trace that it comes to and its run"
    ∷ codes "  verdicts          read a script, print what each of these lines came to: not-own, shared, too-large, kept, no-room or moved"
    ∷ codes "  layout SIZE       print the size class or the direct map of version 1 of a request of SIZE bytes, 0 to 4294967295"
    ∷ codes "  trace ROUNDS KEY  print a trace of ROUNDS rounds, 1 to 800, with random numbers by KEY, 0 to 18446744073709551615"
    ∷ codes "  gen ROUNDS KEY    play that trace as replay does, print how many lines have each answer, and what is live and quarantined at the end"
    ∷ codes "  --help            print this text"
    ∷ codes "  --version         print the name and the version"
    ∷ []
    ∷ codes "example"
    ∷ codes "  partalloc trace 1 7 > FILE"
    ∷ codes "  partalloc replay < FILE"
    ∷ []
    ∷ codes "status, and what it prints on standard error"
    ∷ codes "  0            done"
    ∷ codes "  1            bad command: the words are none of the above"
    ∷ codes "  2            bad line N: line N of the input is the first that is wrong"
    ∷ codes "  3            limit at line N: line N of the input is the first that is wrong, and it passes a limit"
    ∷ codes "  4            read fault"
    ∷ codes "  5            write fault"
    ∷ codes "  6            out of memory"
    ∷ codes "  7            not legal: CLAUSE at line N: of a legal run that clause fails first, at line N of the input"
    ∷ codes "  8            no words: the words could not be had"
    ∷ []
    ∷ codes "The texts are described in docs/FORMATS.md, which also says why a file is refused that looks right."
    ∷ [])

-- what `--version` prints: the name and the version
abbrev pub version_text : List ℕ
version_text = codes "partalloc 0.1.0" ++ 10 ∷ []
