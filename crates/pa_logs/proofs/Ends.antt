-- The words of the closed region hold the run.
use Rattle.std.proofs.Common.{◌≡◌, ℕ, List, length, sym, ◌∙◌, ap, subst, arith}
use Rattle.pa_slot.specs.declared.title.Title.{Title}
use Rattle.pa_slot.specs.declared.word.SlotName.{SlotName}
use Rattle.pa_slot.specs.Count.{number_of}
use Rattle.pa_slot.specs.Titles.{count_word}
use Rattle.pa_record.specs.Spans.{name_of}
use Rattle.pa_region.specs.History.{Done, content_of}
use Rattle.pa_region.proofs.AtNumber.{content_last}
use Rattle.pa_region.proofs.LogPart.{reached_number}
use Rattle.pa_rules.specs.declared.played.Played.{Played}
use Rattle.pa_rules.specs.Contents.{IsContent}
use Rattle.pa_rules.specs.Held.{HasSlot}
use Rattle.pa_rules.specs.Report.{HasWord}
use Rattle.pa_logs.specs.Told.{played_in}
use Rattle.pa_logs.specs.Touches.{title_of}
use Rattle.pa_logs.specs.Steps.{AreSteps}
use Rattle.pa_logs.specs.Ending.{EndsWith, HeldFollows}
use Rattle.pa_logs.proofs.Contents.{content_follows}
use Rattle.pa_logs.proofs.Histories.{histories_follow}
use Rattle.pa_logs.proofs.Slots.{last_is}

-- a title by its name and its length
title_is : (sizes : SlotName → ℕ) (title : Title) → sizes (name_of title) ≡ title.len → title_of sizes (name_of title) ≡ title
title_is sizes title e =
    let with_len : ℕ → Title = λ n. record { start = title.start; len = n; born = title.born } in
    ap with_len e

has_slot : (words : List ℕ) (ps : List Played) (title : Title) (history : List Done) → AreSteps ps (name_of title) history →
    EndsWith words title history → HasSlot words ps title
has_slot words ps title history steps ends =
    let n : number_of (count_word words title) ≡ length history = ap number_of ends.word ∙ reached_number history steps.legal in
    let content = content_follows ps (name_of title) history (length history) steps (omega arith) in
    let here : IsContent ps (name_of title) (length history) (content_of history) =
    subst (λ z. IsContent ps (name_of title) (length history) z) (content_last history) content in
    record {
      word = subst (λ w. HasWord ps (name_of title) w) (sym ends.word) (last_is ps (name_of title) history steps);
      quarantined = ends.quarantined;
      live = λ held. (content_of history, subst (λ k. IsContent ps (name_of title) k (content_of history)) (sym n) here, ends.live held);
    }

pub held_follows : HeldFollows
held_follows sizes words t r v ts same told knows ends p title standing =
    let (len, end) = ends p title standing in
    let steps = histories_follow sizes v ts knows.all.history knows.logs told knows.all.chain (name_of title) in
    let mine : AreSteps (played_in ts) (name_of title) (knows.all.history title) =
    subst (λ (u : Title). AreSteps (played_in ts) (name_of title) (knows.all.history u)) (title_is sizes title len) steps in
    subst (λ ps. HasSlot words ps title) same (has_slot words (played_in ts) title (knows.all.history title) mine end)
