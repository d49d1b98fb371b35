-- A root has few turns.
use Rattle.std.proofs.Common.{ℕ, ◌+◌, ◌*◌, ◌≤◌, List, [], ◌∷◌, length, sym, subst, arith}
use Rattle.pa_record.specs.declared.pool.PoolEntry.{PoolEntry}
use Rattle.pa_record.specs.declared.root.RootEntry.{RootEntry}
use Rattle.pa_record.specs.Root.{Root, new_root, root_next, root_replayed, RootReplays, RiseFrom, all_asked, asked_by}
use Rattle.pa_record.specs.Sound.{IsSound, IsSettled, IsBornBelow, least_after}
use Rattle.pa_lists.proofs.Members.{first_in, later_in}
use Rattle.pa_record.proofs.Stepping.{next_is}
use Rattle.pa_record.proofs.Titles.{rise_parts, new_sound, new_born}
use Rattle.pa_root.specs.Reading.{pools_seen}
use Rattle.pa_root.specs.Laws.{HaveBatches, TurnsAreFew}

turns_rise : (pools : List PoolEntry) (es : List RootEntry) (n : ℕ) (r : Root) → IsSound r → IsSettled r → IsBornBelow n r →
    RootReplays pools es r →
    RiseFrom n (all_asked es) → HaveBatches es → (root_replayed pools es r).turn ≤ r.turn + 32 * length es
turns_rise pools [] n r sound few old fits rise batches = omega arith
turns_rise pools (e ∷ es) n r sound few old fits rise batches =
    let (asks, rest) = rise_parts n (asked_by e.act) (all_asked es) rise in
    let next = next_is pools e.act n r sound few old asks fits.0 in
    let one = next.turn (batches e (first_in e es)) in
    let ih = turns_rise pools es (least_after n (asked_by e.act)) (root_next pools e.act r) next.sound next.settled next.born fits.1 rest
    (λ f among. batches f (later_in e f es among)) in
    omega arith

pub turns_are_few : TurnsAreFew
turns_are_few p s sound batches =
    let fits = sound.journal.fits in
    let h = turns_rise (pools_seen s.view) s.journal 0 new_root new_sound (omega arith) new_born fits.replays fits.rise batches in
    subst (λ r. r.turn ≤ 32 * length s.journal) (sym sound.journal.replayed) (omega arith)
