-- A player that others drive: before the first line, and a line more.
use Rattle.std.proofs.Common.{◌≡◌, ℕ, ◌+◌, ◌<◌, List, [], ◌∷◌, ◌++◌, length, map, Option, Some, None, refl, sym, ap, ap₂, ◌∙◌, subst, arith, append_assoc}
use Rattle.std.proofs.lemmas.List.{append-nil, map-append, length_push}
use Rattle.pa_trace.specs.declared.line.Head.{Head}
use Rattle.pa_trace.specs.declared.script.Line.{Line}
use Rattle.pa_trace.specs.declared.script.Line.TheVariants.{Phase, Do}
use Rattle.pa_trace.specs.Limits.{IsHeadWithin, IsLineWithin}
use Rattle.pa_trace.proofs.Texts.{all_push}
use Rattle.pa_trace.specs.Grammar.{IsVersionTo, last_version}
use Rattle.pa_trace.specs.declared.script.Rules.{Rules}
use Rattle.pa_trace.specs.Rules.{rules_by}
use Rattle.pa_record.specs.declared.entry.Answer.{Answer}
use Rattle.pa_record.specs.declared.entry.Entry.{Entry}
use Rattle.pa_rules.specs.declared.played.Played.{Played}
use Rattle.pa_rules.specs.Legal.{phases_in}
use Rattle.pa_rules.specs.Played.{AreLines, entry_of, played}
use Rattle.pa_rules.proofs.Recorded.{records_are_lines}
use Rattle.pa_rules.proofs.Lined.{lines_phase}
use Rattle.pa_slot_effects.specs.Turns.{played_at}
use Rattle.pa_slot_effects.proofs.Lines.{lines_more}
use Rattle.pa_player.specs.Begun.{IsBegun}
use Rattle.pa_player.specs.Playing.{journals, rules_at, IsPlaying}
use Rattle.pa_player.specs.Plays.{CanGoOn, IsReady, TellsOn, GoesTo, record_of}
use Rattle.pa_player.specs.Told.{history_in}
use Rattle.pa_player.proofs.Start.{begins_playing}
use Rattle.pa_player.proofs.Trace.{head_within}
use Rattle.pa_model.specs.Player.{Player, records_so_far, WasPlayed, IsGoing, IsNew, IsLater, IsRecorded, PlaysLine}

-- ---- before the first line

pub begins_new : (head : Head) (p : Player) → IsVersionTo last_version head.version → IsHeadWithin head → IsBegun head p.inner
    → p.lines.head ≡ head → p.lines.items ≡ [] → IsNew head p
begins_new head p known within begun at none =
    let start : WasPlayed head [] p.inner = record {
      within = record { version = known; head = within; lines = tt; few = omega arith };
      rules = begun.rules;
      playing = begins_playing head p.inner within begun;
    } in
    record {
      going = subst (λ h. WasPlayed h p.lines.items p.inner) (sym at) (subst (λ ls. WasPlayed head ls p.inner) (sym none) start);
      head = at;
      lines = none;
      records = ap (λ ls. played (rules_by p.lines.head) ls p.inner.told.entries) none;
    }

-- ---- the records so far

-- they are those of the lines
own_lines : (p : Player) → rules_at p.inner ≡ rules_by p.lines.head
    → (h : IsPlaying p.lines.head.region p.lines.head.partitions p.lines.head.threads p.lines.items p.inner)
    → AreLines (rules_by p.lines.head) p.lines.items h.ps
own_lines p rules h = subst (λ (k : Rules). AreLines k p.lines.items h.ps) rules h.told.lines

pub records_are : (p : Player) → rules_at p.inner ≡ rules_by p.lines.head
    → (h : IsPlaying p.lines.head.region p.lines.head.partitions p.lines.head.threads p.lines.items p.inner) → records_so_far p ≡ h.ps
records_are p rules h =
    let by = rules_by p.lines.head in
    ap (played by p.lines.items) (sym h.entries) ∙ records_are_lines.same by p.lines.items h.ps (own_lines p rules h)

-- lines and records more
records_more : (rules : Rules) (ls more : List Line) (ps added : List Played) (es new : List Entry) → map entry_of ps ≡ es →
    map entry_of added ≡ new → AreLines rules (ls ++ more) (ps ++ added)
    → played rules (ls ++ more) (es ++ new) ≡ ps ++ added
records_more rules ls more ps added es new old last lines =
    let all : map entry_of (ps ++ added) ≡ es ++ new = map-append entry_of ps added ∙ ap₂ (λ xs ys. xs ++ ys) old last in
    ap (played rules (ls ++ more)) (sym all) ∙ records_are_lines.same rules (ls ++ more) (ps ++ added) lines

-- ---- a line more

module _ (p q : Player) (line : Line) (going : IsGoing p) (few : length p.lines.items < 65535)
    (within : IsLineWithin p.lines.head.partitions p.lines.head.threads line) where
  can_go_on : CanGoOn p.lines.head.region p.lines.head.partitions p.lines.head.threads p.lines.items line p.inner
  can_go_on = record {
    playing = going.playing;
    short = few;
    within = within;
    head = head_within p.lines.head p.inner going.rules going.within.head;
  }

  pub ready : IsReady line p.inner
  ready = record {
    region = p.lines.head.region;
    partitions = p.lines.head.partitions;
    threads = p.lines.head.threads;
    ls = p.lines.items;
    can = can_go_on;
  }

  module _ (at : q.lines.head ≡ p.lines.head) (pushed : q.lines.items ≡ p.lines.items ++ line ∷ []) where
    still_going : IsPlaying p.lines.head.region p.lines.head.partitions p.lines.head.threads (p.lines.items ++ line ∷ []) q.inner →
        rules_at q.inner ≡ rules_at p.inner → IsGoing q
    still_going playing rules =
        let old = going.within in
        let next : WasPlayed p.lines.head (p.lines.items ++ line ∷ []) q.inner = record {
          within = record {
            version = old.version;
            head = old.head;
            lines = all_push (IsLineWithin p.lines.head.partitions p.lines.head.threads) p.lines.items line old.lines within;
            few = omega (arith, few, length_push p.lines.items line);
          };
          rules = rules ∙ going.rules;
          playing = playing;
        } in
        subst (λ h. WasPlayed h q.lines.items q.inner) (sym at) (subst (λ ls. WasPlayed p.lines.head ls q.inner) (sym pushed) next)

    later : (added : List Played) (es : List Entry) → records_so_far q ≡ records_so_far p ++ added →
        TellsOn es p.inner q.inner → IsLater p q
    later added es more tells ps r on = record {
      records = (
        added ++ on.records.0,
        on.records.1 ∙ ap (λ xs. xs ++ on.records.0) more ∙ append_assoc (records_so_far p) added on.records.0,
      );
      journals = λ k.
          let a = tells.journals k in
          let b = on.journals k in
          (a.0 ++ b.0, b.1 ∙ ap (λ xs. xs ++ b.0) a.1 ∙ append_assoc (journals p.inner k) a.0 b.0);
      cells = λ k.
          let a = tells.histories k in
          let b = on.cells k in
          (a.0 ++ b.0, b.1 ∙ ap (λ xs. xs ++ b.0) a.1 ∙ append_assoc (history_in p.inner.told k) a.0 b.0);
    }

    plays : (answer : Option Answer) (added : List Played) (es : List Entry) →
        IsPlaying p.lines.head.region p.lines.head.partitions p.lines.head.threads (p.lines.items ++ line ∷ []) q.inner
        → TellsOn es p.inner q.inner →
        IsRecorded (rules_by p.lines.head) (length p.lines.items + 2) (phases_in p.lines.items) line answer added
        → map entry_of added ≡ es →
        AreLines (rules_by p.lines.head) (p.lines.items ++ line ∷ []) (going.playing.ps ++ added) → PlaysLine p line answer q
    plays answer added es playing tells recorded last lines =
        let old = going.playing in
        let whole : played (rules_by p.lines.head) (p.lines.items ++ line ∷ []) (p.inner.told.entries ++ es) ≡ old.ps ++ added =
        records_more (rules_by p.lines.head) p.lines.items (line ∷ []) old.ps added p.inner.told.entries es old.entries last lines in
        let more : records_so_far q ≡ records_so_far p ++ added =
        ap (λ (k : Head). played (rules_by k) q.lines.items q.inner.told.entries) at
        ∙ ap₂ (played (rules_by p.lines.head)) pushed tells.entries ∙ whole ∙
        ap (λ xs. xs ++ added) (sym (records_are p going.rules old)) in
        record {
          going = still_going playing tells.rules;
          head = at;
          lines = pushed;
          added = added;
          recorded = recorded;
          records = more;
          later = later added es more tells;
        }

-- the line was played with this answer
pub plays_line : (p q : Player) (line : Line) (answer : Option Answer) → IsGoing p → length p.lines.items < 65535 →
    IsLineWithin p.lines.head.partitions p.lines.head.threads line
    → q.lines.head ≡ p.lines.head → q.lines.items ≡ p.lines.items ++ line ∷ [] →
    GoesTo p.inner line answer q.inner → PlaysLine p line answer q
plays_line p q Phase None going few within at pushed goes =
    let to = goes p.lines.head.region p.lines.head.partitions p.lines.head.threads p.lines.items (can_go_on p q Phase going few within) in
    let old = going.playing in
    let lines : AreLines (rules_by p.lines.head) (p.lines.items ++ Phase ∷ []) (old.ps ++ []) =
    subst (λ xs. AreLines (rules_by p.lines.head) (p.lines.items ++ Phase ∷ []) xs) (sym (append-nil old.ps))
    (own_lines p going.rules old ∙ sym (lines_phase (rules_by p.lines.head) 2 1 p.lines.items)) in
    plays p q Phase going few within at pushed None [] [] to.0 to.1 refl refl lines
plays_line p q Phase (Some answer) going few within at pushed goes = absurd goes
plays_line p q (Do thread op) None going few within at pushed goes = absurd goes
plays_line p q (Do thread op) (Some answer) going few within at pushed goes =
    let to = goes p.lines.head.region p.lines.head.partitions p.lines.head.threads p.lines.items
    (can_go_on p q (Do thread op) going few within) in
    let old = going.playing in
    let x : Played = played_at (rules_by p.lines.head) p.lines.items thread op answer in
    let e : ℕ → List Entry = λ n. record { line = n; thread = thread; answer = answer } ∷ [] in
    plays p q (Do thread op) going few within at pushed (Some answer) (x ∷ []) (record_of p.inner thread answer ∷ []) to.0 to.1 refl
    (ap e (sym old.line))
    (lines_more (rules_by p.lines.head) p.lines.items old.ps thread op answer (own_lines p going.rules old))
