-- A slot that comes to the front of its list, and what may go back then.
use Rattle.std.proofs.Common.{◌≡◌, ℕ, ◌<◌, List, ◌∷◌, set, drop, take, length, sym, ap, ◌∙◌, subst}
use Rattle.std.proofs.lemmas.List.{take-append-drop, get_or-set_same}
use Rattle.pa_record.specs.declared.report.Tally.{Tally}
use Rattle.pa_player.specs.Player.{Player}
use Rattle.pa_player.specs.declared.tallies.Tallies.{Tallies}
use Rattle.pa_player.specs.Asks.{CanGive}
use Rattle.pa_player.specs.Changes.{list_in, put_front, tallied_more}
use Rattle.pa_player.specs.Tables.{slot_at}
use Rattle.pa_player.proofs.Giving.{can_behind}

-- the player after it
pub front_put : (q at i : ℕ) (p : Player) (lists : List (List ℕ)) (cached : Tallies) → lists ≡ set p.caches at (i ∷ list_in p at)
    → cached.of ≡ tallied_more q 1 (slot_at p.table i).title.len p.cached.of →
    record p { caches = lists; cached = cached } ≡ put_front q at i p
front_put q at i p lists cached a b =
    ap (λ (z : List (List ℕ)). record p { caches = z; cached = cached }) a
    ∙ ap (λ (z : List Tally). record p { caches = set p.caches at (i ∷ list_in p at); cached = record { of = z } }) b

-- the slots after the first ones may go back
back_of : (q n : ℕ) (xs : List ℕ) (p : Player) → CanGive q xs p → CanGive q (drop n xs) p
back_of q n xs p h = can_behind q (take n xs) (drop n xs) p (subst (λ z. CanGive q z p) (sym (take-append-drop n xs)) h)

pub spill_ready : (q at i n : ℕ) (p s : Player) → at < length p.caches → CanGive q (i ∷ list_in p at) (put_front q at i p) →
    s ≡ put_front q at i p → CanGive q (drop n (list_in s at)) s
spill_ready q at i n p s lt can is =
    let here : list_in (put_front q at i p) at ≡ i ∷ list_in p at = get_or-set_same p.caches at (i ∷ list_in p at) _ lt in
    subst (λ z. CanGive q (drop n (list_in z at)) z) (sym is)
    (subst (λ z. CanGive q (drop n z) (put_front q at i p)) (sym here) (back_of q n (i ∷ list_in p at) (put_front q at i p) can))
