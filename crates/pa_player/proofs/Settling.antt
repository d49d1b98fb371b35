-- What a part of an op leaves of what was told before, if memory runs out in it.
use Rattle.std.proofs.Common.{◌≡◌, ℕ, zero, suc, ◌+◌, ◌-◌, [], refl, sym, ap, ◌∙◌}
use Rattle.std.proofs.lemmas.List.{same_from_push}
use Rattle.pa_trace.specs.declared.script.Line.TheVariants.{Do}
use Rattle.pa_trace.specs.declared.script.Op.{Op}
use Rattle.pa_record.specs.declared.entry.Answer.{Answer}
use Rattle.pa_record.specs.declared.entry.Entry.{Entry}
use Rattle.pa_player.specs.Player.{Player}
use Rattle.pa_player.specs.Told.{told_before}
use Rattle.pa_player.specs.Changes.{given_from, purged_with, purged_from, given, given_all}
use Rattle.pa_player.specs.Playing.{list_place}
use Rattle.pa_player.specs.Plays.{IsReady, Plays, record_of}
use Rattle.pa_player.proofs.Purging.{IsGivenTo}
use Rattle.pa_player.proofs.Partitions.{IsPurgedTo}
use Rattle.pa_buckets.specs.Limits.{first_class}
use Rattle.pa_buckets.specs.Limits.{past_class}
use Rattle.pa_rules.specs.Sizes.{class_total}

-- some lists of a thread went back
pub given_settled : (thread q class n : ℕ) (p : Player) → told_before (given_from thread q class n p).told ≡ told_before p.told
unfolding given_from
given_settled thread q class zero p = refl
given_settled thread q class (suc n) p =
    given_settled thread q (class + 1) n (given q (list_place p.version p.partitions thread q class) 0 p)

pub lists_settled : (thread q n : ℕ) (p s : Player) (slots : ℕ) → IsGivenTo thread q n p s slots → told_before s.told ≡ told_before p.told
lists_settled thread q n p s slots h =
    sym (given_settled thread q n (past_class p.version - n) s) ∙ ap (λ (z : Player). told_before z.told) h.rest ∙
    given_settled thread q (first_class p.version) (class_total p.version) p

-- some partitions were purged
purged_settled : (thread q n : ℕ) (p : Player) → told_before (purged_from thread q n p).told ≡ told_before p.told
unfolding purged_from
purged_settled thread q zero p = refl
purged_settled thread q (suc n) p =
    purged_settled thread (q + 1) n (purged_with q (given_all thread q p)) ∙
    given_settled thread q (first_class p.version) (class_total p.version) p

pub partitions_settled : (thread n : ℕ) (p s : Player) (slots : ℕ) → IsPurgedTo thread n p s slots → told_before s.told ≡ told_before p.told
partitions_settled thread n p s slots h =
    sym (purged_settled thread n (p.partitions - n) s) ∙ ap (λ (z : Player). told_before z.told) h.rest ∙
    purged_settled thread 0 p.partitions p

-- a whole op was played, before it is recorded
pub op_settled : (p : Player) (thread : ℕ) (op : Op) (q : Player) (answer : Answer) → IsReady (Do thread op) p → Plays p thread op q answer
    → told_before q.told ≡ told_before p.told
op_settled p thread op q answer ready played =
    let on = (played ready.region ready.partitions ready.threads ready.ls ready.can).1 in
    let same = same_from_push q.told.entries p.told.entries (record_of q thread answer) (record_of p thread answer) on.entries in
    let line : q.told.line ≡ p.told.line = ap (λ (e : Entry). e.line) same.1 in
    λ k. record { entries = same.0 k; journals = []; pools = []; histories = []; report = []; line = line k }
