-- The kinds of change: a turn of a thread on a title, an item that is handed over, a title that is cut, and one that is uncut.
use Rattle.std.proofs.Common.{◌≡◌, ℕ, ◌+◌, ◌*◌, ◌<◌, Bool, List, [], ◌∷◌, length, refl, sym, ◌∙◌, ap, arith, inl, inr}
use Rattle.std.proofs.lemmas.Bool.{cases_lt}
use Rattle.pa_slot.specs.declared.title.Title.{Title}
use Rattle.pa_slot.specs.declared.title.OwnState.TheVariants.{Clean}
use Rattle.pa_machine.specs.declared.event.Item.{Item}
use Rattle.pa_machine.specs.declared.event.Event.{Event}
use Rattle.pa_machine.specs.declared.event.Event.TheVariants.{Hand}
use Rattle.pa_slot.specs.Titles.{Covers, content_place, count_place, content_at, count_word, HasContentFrom}
use Rattle.pa_slot.specs.Holdings.{Piece, Thing, RawByte, FreeTitle, OwnOf, OwnAs, SealedOwn, RefOf, IsTitleHeld, held_in}
use Rattle.pa_machine.specs.Events.{State, HasActor, HoldsItem, Exchanges, IsItemSealed, of_actor, held_by, total_of, piece_of}
use Rattle.pa_machine.specs.Trail.{IsGoodState, IsRunTo}
use Rattle.pa_machine.proofs.Totals.{total_exchanged, of_actor_apart}
use Rattle.pa_machine.proofs.Parts.{IsUntouched, IsWordOf, word_covered}
use Rattle.pa_record.specs.Spans.{name_of}
use Rattle.pa_core_steps.specs.Turns.{IsTurn}
use Rattle.pa_core_steps.proofs.Joining.{run_good, run_one}
use Rattle.pa_core_steps.proofs.Exchanging.{none_of}
use Rattle.pa_core_steps.proofs.Possible.{hand_can_happen}
use Rattle.pa_core_run.specs.Ledger.{Ledger, Titles, IsShown, IsPaid}
use Rattle.pa_core_run.proofs.Showing.{ArePieces, seals_of, IsChangeOf, shown_after}

-- words outside a title that is held don't touch another that is held
away : (s : State) (t u : Title) (q : ℕ) → IsGoodState s → IsTitleHeld (total_of s) t → IsTitleHeld (total_of s) u → (t ≡ u → ⊥) →
    IsWordOf u q → Covers t (8 * q) → ⊥
away s t u q good held other ne within covers =
    ne (good.divided.apart t u (8 * q) held other covers (word_covered (length s.words) u q (good.divided.well u other) within))

-- ---- a turn

turn_change : (plain : Title → Bool) (s after : State) (actor : ℕ) (t : Title) (lost gained : List Piece) (w : ℕ) (es : List Event) →
    IsGoodState s → HasActor s actor → IsTitleHeld (total_of s) t →
    ArePieces plain t lost → ArePieces plain t gained → IsTurn s actor t lost gained w es after → IsChangeOf s t after
turn_change plain s after actor t lost gained w es good has held out into turn = record {
  good = run_good s after es good turn.run;
  many = turn.run.shape.1;
  long = turn.run.shape.0;
  others = others;
}
  where
    totals : (x : Thing) → total_of after x + held_in lost x ≡ total_of s x + held_in gained x
    totals x = total_exchanged s.holdings after.holdings actor actor lost gained turn.holdings has has x

    others : (u : Title) → (t ≡ u → ⊥) → IsTitleHeld (total_of after) u → IsUntouched s.words (total_of s) after.words (total_of after) u
    others u ne after_held =
        let l = out.others u ne in
        let g = into.others u ne in
        let lf = l.free in let lo = l.own in let lr = l.ref in
        let gf = g.free in let go = g.own in let gr = g.ref in
        let tf = totals (FreeTitle u) in let to = totals (OwnOf u) in let tr = totals (RefOf u) in
        let before : IsTitleHeld (total_of s) u = omega arith in
        record {
          free = omega arith;
          own = omega arith;
          ref = omega arith;
          seal = let ls = l.seal in let gs = g.seal in let ts = totals (SealedOwn u) in omega arith;
          state = λ a. let la = l.state a in let ga = g.state a in let ta = totals (OwnAs u a) in omega arith;
          word = turn.others (count_place u) (away s t u (count_place u) good held before ne (omega arith, omega arith));
          content = λ i below. turn.others (content_place u i)
              (away s t u (content_place u i) good held before ne (omega arith, omega arith));
        }

-- a thread's turn, if the ledger pays for it
pub turn_shown : (names : Titles) (actors bytes : ℕ) (b next : Ledger) (s after : State) (actor : ℕ) (t : Title) (lost gained : List Piece)
    (w : ℕ) (es : List Event) →
    IsShown names actors bytes b s → 0 < actor → actor < actors → IsTitleHeld (total_of s) t → ArePieces names.plain t lost →
    ArePieces names.plain t gained →
    IsTurn s actor t lost gained w es after → IsPaid names.Made b next (of_actor actor lost) (of_actor actor gained) t w →
    (0 < total_of after (OwnAs t Clean) → HasContentFrom after.words t 0 (next.content (name_of t))) → IsShown names actors bytes next after
turn_shown names actors bytes b next s after actor t lost gained w es h some below held out into turn paid content =
    let many = h.many in
    let has : HasActor s actor = omega arith in
    let totals : (x : Thing) → total_of after x + held_in lost x ≡ total_of s x + held_in gained x =
    λ x. total_exchanged s.holdings after.holdings actor actor lost gained turn.holdings has has x in
    shown_after names names actors bytes b next s after t (of_actor actor lost) (of_actor actor gained) w h (λ u m. m) (λ u. refl)
    (inl held) (turn_change names.plain s after actor t lost gained w es h.good has held out into turn) turn.holdings paid
    (λ u kept.
    let e = turn.holdings.1 0 (FreeTitle u) (omega arith) in
    let l = of_actor_apart actor 0 lost (FreeTitle u) (λ z. omega arith) in
    let g = of_actor_apart actor 0 gained (FreeTitle u) (λ z. omega arith) in
    let had = h.kept u kept in
    omega arith)
    (λ after_held. turn.word_left)
    content
    (λ a own. elim (cases_lt 0 (total_of s (OwnAs t a))) [
      | inl before ↦ h.clean t a before
      | inr none ↦ let e = totals (OwnAs t a) in into.clean a (omega arith)
    ])
    (λ k byte up k_below. none_of actor k gained (RawByte byte) (into.raw byte))
    (λ k. seals_of names.plain actor k lost out.sealed)
    (λ k. seals_of names.plain actor k gained into.sealed)
    (λ u ne there. there)
    (λ after_held. h.there t held)

-- ---- an item that is handed over

-- the titles with others that actor 0 has for the roots
abbrev pub keeping : Titles → (Title → Type 0) → Titles
keeping names K = record { Made = names.Made; There = names.There; Kept = K; plain = names.plain }

-- What a hand leaves: a run of one event, which changes no word, and the core shows the next ledger.
pub record IsHanded (names : Titles) (actors bytes : ℕ) (next : Ledger) (s : State) (from to : ℕ) (item : Item) (sealed : Bool)
    (after : State) : Type 0 where
  pub run : IsRunTo s (Hand from to item ∷ []) after
  pub words : after.words ≡ s.words
  pub holdings : Exchanges s.holdings (of_actor from (piece_of sealed item ∷ [])) (of_actor to (piece_of sealed item ∷ [])) after.holdings
  pub shown : IsShown names actors bytes next after

pub hand_shown : (names : Titles) (K : Title → Type 0) (actors bytes : ℕ) (b next : Ledger) (s : State) (from to : ℕ) (item : Item)
    (sealed : Bool) (t : Title) →
    IsShown names actors bytes b s → from < actors → to < actors → HoldsItem s from item → IsItemSealed s from item sealed →
    IsTitleHeld (total_of s) t →
    ArePieces names.plain t (piece_of sealed item ∷ []) →
    IsPaid names.Made b next (of_actor from (piece_of sealed item ∷ [])) (of_actor to (piece_of sealed item ∷ [])) t (b.word (name_of t)) →
    next.content (name_of t) ≡ b.content (name_of t) →
    ((u : Title) → K u → held_in (of_actor from (piece_of sealed item ∷ []) 0) (FreeTitle u) < held_by s 0 (FreeTitle u) + held_in
    (of_actor to (piece_of sealed item ∷ []) 0) (FreeTitle u)) →
    (after : State) × IsHanded (keeping names K) actors bytes next s from to item sealed after
hand_shown names K actors bytes b next s from to item sealed t h from_below to_below holds seal held pieces paid content kept =
    let many = h.many in
    let has_from : HasActor s from = omega arith in
    let has_to : HasActor s to = omega arith in
    let (after, words, ex) = hand_can_happen s from to item sealed h.good (has_from, has_to, holds) seal in
    let p = piece_of sealed item in
    let run = run_one s after (Hand from to item) h.good (has_from, has_to, holds) (words, (sealed, seal, ex)) in
    let same : (x : Thing) → total_of after x ≡ total_of s x =
    λ x. (let e = total_exchanged s.holdings after.holdings from to (p ∷ []) (p ∷ []) ex has_from has_to x in omega arith) in
    let change : IsChangeOf s t after = record {
      good = run_good s after (Hand from to item ∷ []) h.good run;
      many = run.shape.1;
      long = run.shape.0;
      others = λ u ne other. record {
        free = same (FreeTitle u);
        own = same (OwnOf u);
        ref = same (RefOf u);
        seal = same (SealedOwn u);
        state = λ a. same (OwnAs u a);
        word = ap (λ ws. count_word ws u) words;
        content = λ i below. ap (λ ws. content_at ws u i) words;
      };
    } in (
      after,
      record {
        run = run;
        words = words;
        holdings = ex;
        shown = shown_after names (keeping names K) actors bytes b next s after t (of_actor from (p ∷ [])) (of_actor to (p ∷ []))
            (b.word (name_of t)) h (λ u m. m) (λ u. refl) (inl held) change ex paid
            (λ u k. let e = ex.1 0 (FreeTitle u) (omega arith) in let some = kept u k in omega arith)
            (λ other. ap (λ ws. count_word ws t) words ∙ h.words t held)
            (λ own. let e = same (OwnAs t Clean) in let had = h.contents t (omega arith) in
            λ i low inside. ap (λ ws. content_at ws t i) words ∙ (had i low inside ∙ sym content))
            (λ a own. let e = same (OwnAs t a) in h.clean t a (omega arith))
            (λ k byte up below. none_of to k (p ∷ []) (RawByte byte) (pieces.raw byte))
            (λ k. seals_of names.plain from k (p ∷ []) pieces.sealed)
            (λ k. seals_of names.plain to k (p ∷ []) pieces.sealed)
            (λ u ne there. there)
            (λ other. h.there t held);
      },
    )
