-- A title that is cut out of raw bytes, and one that becomes raw bytes again: by actor 0, which has them all.
use Rattle.std.proofs.Common.{◌≡◌, ℕ, suc, ◌+◌, ◌*◌, ◌/◌, ◌<◌, Bool, List, [], ◌∷◌, length, get_or, set, refl, sym, ◌∙◌, ap, arith, ◌⊎◌, inl, inr}
use Rattle.std.proofs.lemmas.List.{get_or-set_other, get_or-set_same}
use Rattle.std.proofs.lemmas.Bool.{cases_lt}
use Rattle.pa_slot.specs.declared.title.Title.{Title}
use Rattle.pa_slot.specs.declared.title.OwnState.{OwnState}
use Rattle.pa_slot.specs.declared.title.OwnState.TheVariants.{Clean}
use Rattle.pa_machine.specs.declared.event.Event.{Event}
use Rattle.pa_machine.specs.declared.event.Event.TheVariants.{Store, Cut, Uncut}
use Rattle.pa_slot.specs.Titles.{content_place, count_place, content_at, count_word}
use Rattle.pa_slot.specs.Holdings.{Piece, RawPiece, FreePiece, Thing, RawByte, FreeTitle, OwnOf, OwnAs, SealedOwn, RefOf, IsTitleHeld, held_in}
use Rattle.pa_machine.specs.Events.{State, HasActor, Holds, HoldsRaw, IsEnabled, of_actor, held_by, total_of}
use Rattle.pa_machine.specs.Trail.{IsRunTo}
use Rattle.pa_machine.proofs.Totals.{tally_of, total_exchanged, of_actor_here, of_actor_apart}
use Rattle.std.proofs.lemmas.List.Sums.{sum_by-cons}
use Rattle.pa_machine.proofs.Parts.{free_or, free_none, IsWordOf, word_covered}
use Rattle.pa_machine.proofs.Amounts.{free_self}
use Rattle.pa_machine.proofs.Happening.{in_total}
use Rattle.pa_machine.proofs.Keeps.{own_of_state}
use Rattle.pa_record.specs.Spans.{name_of}
use Rattle.pa_core_steps.proofs.Joining.{run_good, run_one, run_join}
use Rattle.pa_core_steps.proofs.Exchanging.{exchanges_then, none_of, nothing_of}
use Rattle.pa_core_steps.proofs.Possible.{lose_free, lose_raw, lose_nothing, after_of}
use Rattle.pa_core_run.specs.Ledger.{Ledger, Titles, AreSealed, IsShown, IsPaid}
use Rattle.pa_core_run.specs.Moves.{CanBeCut}
use Rattle.pa_core_run.proofs.Showing.{no_seals, seals_of, IsChangeOf, shown_after}

-- the titles that are there after one came, and those without one
abbrev pub with_title : Titles → Title → (Title → Type 0) → Titles
with_title names t K =
    record { Made = names.Made; There = λ u. names.There u ⊎ (t ≡ u); Kept = K; plain = names.plain }

abbrev pub without_title : Titles → Title → (Title → Type 0) → Titles
without_title names t K =
    record { Made = names.Made; There = λ u. names.There u × (t ≡ u → ⊥); Kept = K; plain = names.plain }

-- actor 0 loses no handle: that pays for itself
nothing_paid : (Made : Title → Type 0) (b : Ledger) (t : Title) (lost gained : List Piece) → ((u : Title) → held_in lost (OwnOf u) ≡ 0) →
    ((u : Title) → held_in lost (RefOf u) ≡ 0) →
    IsPaid Made b b (of_actor 0 lost) (of_actor 0 gained) t (b.word (name_of t))
nothing_paid Made b t lost gained own ref = record {
  own = λ j u m. let e = none_of 0 j lost (OwnOf u) (own u) in omega arith;
  ref = λ j u m. let e = none_of 0 j lost (RefOf u) (ref u) in omega arith;
  free = λ j u some m. let e = of_actor_apart 0 j lost (FreeTitle u) (λ z. omega arith) in omega arith;
  word_left = refl;
  words = λ x ne. refl;
  contents = λ x ne. refl;
}

-- what actor 0 gets or gives that is no Own has no seal
no_seals_of : (plain : Title → Bool) (k : ℕ) (p : Piece) → ((u : Title) → held_in (p ∷ []) (SealedOwn u) ≡ 0) →
    ((u : Title) → held_in (p ∷ []) (OwnOf u) ≡ 0) → AreSealed plain (held_in (of_actor 0 (p ∷ []) k))
no_seals_of plain k p seals owns = seals_of plain 0 k (p ∷ []) (no_seals plain (p ∷ []) seals owns)

-- the bytes of a title that can be cut are raw, and actor 0 has them
all_raw : (names : Titles) (actors bytes : ℕ) (b : Ledger) (s : State) (t : Title) → IsShown names actors bytes b s → 0 < actors →
    CanBeCut names bytes t → HoldsRaw s 0 t.start t.len
all_raw names actors bytes b s t h some can byte low high =
    let long = h.long in
    let inside = can.inside in
    elim (h.good.divided.bytes byte (omega arith)) [
      | inl raw ↦ elim (cases_lt 0 (held_by s 0 (RawByte byte))) [
        | inl has ↦ has
        | inr none ↦ absurd (let z = nobody_raw s.holdings (λ k below. let many = h.many in elim (cases_lt 0 k)
            [ inl up ↦ h.raw k byte up (omega arith) | inr zero_k ↦ let e : k ≡ 0 = omega arith in rw e (omega arith) ]) in let r = raw.0
            in omega arith)
      ]
      | inr held ↦
          let u = held.1.0 in
          let covers = held.1.2 in
          let from = covers.0 in
          let to = covers.1 in
          elim (can.apart u (h.there u held.1.1)) [ inl before ↦ absurd (omega arith) | inr behind ↦ absurd (omega arith) ]
    ]
  where
    nobody_raw : (hs : List (List Piece)) → ((k : ℕ) → k < length hs → held_in (get_or hs k []) (RawByte byte) ≡ 0) →
        total_of (record { words = []; holdings = hs }) (RawByte byte) ≡ 0
    nobody_raw [] none = refl
    nobody_raw (ps ∷ hs) none =
        let here = none 0 (omega arith) in
        let rest = nobody_raw hs (λ k below. none (suc k) (omega arith)) in
        let c = sum_by-cons (λ qs. held_in qs (RawByte byte)) ps hs in
        omega arith

-- the events that cut it: its count word is made 0 first
abbrev pub cutting : Title → List Event
cutting t = Store 0 (8 * count_place t) 0 ∷ Cut 0 t ∷ []

pub cut_shown : (names : Titles) (K : Title → Type 0) (actors bytes : ℕ) (b : Ledger) (s : State) (t : Title) →
    IsShown names actors bytes b s → 0 < actors → CanBeCut names bytes t →
    b.word (name_of t) ≡ 0 → ((u : Title) → K u → names.Kept u ⊎ (t ≡ u)) →
    (after : State) × IsRunTo s (cutting t) after × IsShown (with_title names t K) actors bytes b after
cut_shown names K actors bytes b s t h some can word_zero keeps =
    let many = h.many in
    let size = h.long in
    let has : HasActor s 0 = omega arith in
    let raw = all_raw names actors bytes b s t h some can in
    let a1 = can.start_aligned in
    let a2 = can.len_aligned in
    let a3 = can.long in
    let a4 = can.inside in
    let at_byte = 8 * count_place t in
    let raw_word : HoldsRaw s 0 at_byte 8 = λ c low high. raw c (omega arith) (omega arith) in
    let stored : IsEnabled (Store 0 at_byte 0) s = (has, omega arith, inl raw_word) in
    let words = set s.words (at_byte / 8) 0 in
    let m = after_of s 0 [] [] words has (lose_nothing s 0) in
    let mid = m.0 in
    let store_run = run_one s mid (Store 0 at_byte 0) h.good stored (inl (inl raw_word, m.1)) in
    let mid_good = run_good s mid (Store 0 at_byte 0 ∷ []) h.good store_run in
    let same_actor : (x : Thing) → held_by mid 0 x ≡ held_by s 0 x =
    λ x. (let e = m.1.holdings.1 0 x has in let z = nothing_of 0 0 x in omega arith) in
    let raw2 : HoldsRaw mid 0 t.start t.len = λ c low high. (let e = same_actor (RawByte c) in let r = raw c low high in omega arith) in
    let long2 = m.1.holdings.0 in
    let has2 : HasActor mid 0 = omega arith in
    let place : at_byte / 8 ≡ count_place t = omega arith in
    let zeroed : count_word mid.words t ≡ 0 = ap (λ ws. count_word ws t) m.1.words
    ∙ (ap (λ p. get_or (set s.words p 0) (count_place t) 0) place ∙ get_or-set_same s.words (count_place t) 0 0 (omega arith)) in
    let cut : IsEnabled (Cut 0 t) mid = (has2, raw2, a1, a2, a3, zeroed) in
    let q = after_of mid 0 (RawPiece t.start t.len ∷ []) (FreePiece t ∷ []) mid.words has2 (lose_raw mid 0 t.start t.len mid_good raw2) in
    let after = q.0 in
    let cut_run = run_one mid after (Cut 0 t) mid_good cut q.1 in
    let run = run_join s mid after (Store 0 at_byte 0 ∷ []) (Cut 0 t ∷ []) h.good store_run cut_run in
    let ex = exchanges_then s.holdings mid.holdings after.holdings (of_actor 0 []) (of_actor 0 [])
    (of_actor 0 (RawPiece t.start t.len ∷ [])) (of_actor 0 (FreePiece t ∷ [])) (of_actor 0 (RawPiece t.start t.len ∷ []))
    (of_actor 0 (FreePiece t ∷ [])) m.1.holdings q.1.holdings (λ k x. omega arith) in
    let totals : (x : Thing) → total_of after x + held_in (RawPiece t.start t.len ∷ []) x ≡ total_of s x + held_in (FreePiece t ∷ []) x =
    λ x. total_exchanged s.holdings after.holdings 0 0 (RawPiece t.start t.len ∷ []) (FreePiece t ∷ []) ex has has x in
    let all_words : after.words ≡ set s.words (count_place t) 0 = q.1.words ∙ (m.1.words ∙ ap (λ p. set s.words p 0) place) in
    let unheld : IsTitleHeld (total_of s) t →
    ⊥ = λ held. (elim (can.apart t (h.there t held)) [ inl before ↦ omega arith | inr behind ↦ omega arith ]) in
    let off : (u : Title) (p : ℕ) → IsTitleHeld (total_of s) u → IsWordOf u p → p ≡ count_place t → ⊥ = λ u p held within same.
    (let covers = word_covered (length s.words) u p (h.good.divided.well u held) within in
    let c0 = covers.0 in
    let c1 = covers.1 in
    elim (can.apart u (h.there u held)) [ inl before ↦ omega arith | inr behind ↦ omega arith ]) in
    let one = free_self t in
    let free_now : IsTitleHeld (total_of after) t = (let e = totals (FreeTitle t) in omega arith) in
    let change : IsChangeOf s t after = record {
      good = run_good s after (cutting t) h.good run;
      many = run.shape.1;
      long = run.shape.0;
      others = λ u ne other.
          let n = free_none t u ne in
          let nf = n.free in let no = n.own in let nr = n.ref in
          let tf = totals (FreeTitle u) in let to = totals (OwnOf u) in let tr = totals (RefOf u) in
          let before : IsTitleHeld (total_of s) u = omega arith in
          record {
            free = omega arith;
            own = omega arith;
            ref = omega arith;
            seal = let ns = n.seal in let ts = totals (SealedOwn u) in omega arith;
            state = λ a. let na = n.state a in let ta = totals (OwnAs u a) in omega arith;
            word = ap (λ ws. count_word ws u) all_words ∙
                get_or-set_other s.words (count_place t) (count_place u) 0 0
                (λ e. off u (count_place u) before (omega arith, omega arith) e);
            content = λ i below. ap (λ ws. content_at ws u i) all_words
                ∙ get_or-set_other s.words (count_place t) (content_place u i) 0 0
                (λ e. off u (content_place u i) before (omega arith, omega arith) e);
          };
    } in
    let no_own : (a : OwnState) → total_of after (OwnAs t a) ≡ 0 =
    λ a. (let e = totals (OwnAs t a) in elim (cases_lt 0 (total_of s (OwnAs t a))) [
      | inl had ↦ absurd (unheld (let p = own_of_state (total_of s) t a (tally_of s.holdings) had in omega arith))
      | inr none ↦ omega arith
    ]) in (
      after,
      run,
      shown_after names (with_title names t K) actors bytes b b s after t (of_actor 0 (RawPiece t.start t.len ∷ []))
          (of_actor 0 (FreePiece t ∷ [])) (b.word (name_of t)) h (λ u m. m) (λ u. refl) (inr free_now) change ex
          (nothing_paid names.Made b t (RawPiece t.start t.len ∷ []) (FreePiece t ∷ []) (λ u. refl) (λ u. refl))
          (λ u k.
          let e = ex.1 0 (FreeTitle u) has in
          let l = of_actor_here 0 (RawPiece t.start t.len ∷ []) (FreeTitle u) in
          let g = of_actor_here 0 (FreePiece t ∷ []) (FreeTitle u) in
          elim (keeps u k) [
            | inl old ↦ let had = h.kept u old in omega arith
            | inr new ↦ let n = ap (λ (v : Title). held_in (FreePiece t ∷ []) (FreeTitle v)) new in omega arith
          ])
          (λ other. ap (λ ws. count_word ws t) q.1.words ∙ (zeroed ∙ sym word_zero))
          (λ own. absurd (let z = no_own Clean in omega arith))
          (λ a own. absurd (let z = no_own a in omega arith))
          (λ k byte up below. none_of 0 k (FreePiece t ∷ []) (RawByte byte) refl)
          (λ k. no_seals_of names.plain k (RawPiece t.start t.len) (λ u. refl) (λ u. refl))
          (λ k. no_seals_of names.plain k (FreePiece t) (λ u. refl) (λ u. refl))
          (λ u ne there. inl there)
          (λ other. inr refl),
    )

-- the title becomes raw bytes again
pub uncut_shown : (names : Titles) (K : Title → Type 0) (actors bytes : ℕ) (b : Ledger) (s : State) (t : Title) →
    IsShown names actors bytes b s → 0 < actors → Holds s 0 (FreeTitle t) →
    ((u : Title) → K u → names.Kept u × (t ≡ u → ⊥)) →
    (after : State) × IsRunTo s (Uncut 0 t ∷ []) after × IsShown (without_title names t K) actors bytes b after
uncut_shown names K actors bytes b s t h some holds keeps =
    let many = h.many in
    let has : HasActor s 0 = omega arith in
    let held : IsTitleHeld (total_of s) t = (let p = in_total s 0 (FreeTitle t) holds in omega arith) in
    let q = after_of s 0 (FreePiece t ∷ []) (RawPiece t.start t.len ∷ []) s.words has (lose_free s 0 t holds) in
    let after = q.0 in
    let can : IsEnabled (Uncut 0 t) s = (has, holds) in
    let run = run_one s after (Uncut 0 t) h.good can q.1 in
    let ex = q.1.holdings in
    let totals : (x : Thing) → total_of after x + held_in (FreePiece t ∷ []) x ≡ total_of s x + held_in (RawPiece t.start t.len ∷ []) x =
    λ x. total_exchanged s.holdings after.holdings 0 0 (FreePiece t ∷ []) (RawPiece t.start t.len ∷ []) ex has has x in
    let one = free_self t in
    let gone : IsTitleHeld (total_of after) t → ⊥ = λ other.
    (let counted = h.good.counted t held in
    let f = totals (FreeTitle t) in
    let o = totals (OwnOf t) in
    let r = totals (RefOf t) in
    let p = in_total s 0 (FreeTitle t) holds in
    elim (free_or (count_word s.words t)) [
      | inl free ↦ let e = counted.free free in let o2 = counted.owns in let r2 = counted.refs in let z0 = free.0 in let z1 = free.1 in
          omega arith
      | inr busy ↦ let e = counted.taken busy in omega arith
    ]) in
    let change : IsChangeOf s t after = record {
      good = run_good s after (Uncut 0 t ∷ []) h.good run;
      many = run.shape.1;
      long = run.shape.0;
      others = λ u ne other.
          let n = free_none t u ne in
          let nf = n.free in let no = n.own in let nr = n.ref in
          let tf = totals (FreeTitle u) in let to = totals (OwnOf u) in let tr = totals (RefOf u) in
          record {
            free = omega arith;
            own = omega arith;
            ref = omega arith;
            seal = let ns = n.seal in let ts = totals (SealedOwn u) in omega arith;
            state = λ a. let na = n.state a in let ta = totals (OwnAs u a) in omega arith;
            word = ap (λ ws. count_word ws u) q.1.words;
            content = λ i below. ap (λ ws. content_at ws u i) q.1.words;
          };
    } in (
      after,
      run,
      shown_after names (without_title names t K) actors bytes b b s after t (of_actor 0 (FreePiece t ∷ []))
          (of_actor 0 (RawPiece t.start t.len ∷ [])) (b.word (name_of t)) h (λ u m. m) (λ u. refl) (inl held) change ex
          (nothing_paid names.Made b t (FreePiece t ∷ []) (RawPiece t.start t.len ∷ []) (λ u. refl) (λ u. refl))
          (λ u k.
          let (old, ne) = keeps u k in
          let e = ex.1 0 (FreeTitle u) has in
          let l = of_actor_here 0 (FreePiece t ∷ []) (FreeTitle u) in
          let g = of_actor_here 0 (RawPiece t.start t.len ∷ []) (FreeTitle u) in
          let n = (free_none t u ne).free in
          let had = h.kept u old in
          omega arith)
          (λ other. absurd (gone other))
          (λ own. absurd (gone (let p = own_of_state (total_of after) t Clean (tally_of after.holdings) own in omega arith)))
          (λ a own. absurd (gone (let p = own_of_state (total_of after) t a (tally_of after.holdings) own in omega arith)))
          (λ k byte up below. of_actor_apart 0 k (RawPiece t.start t.len ∷ []) (RawByte byte) (λ z. omega arith))
          (λ k. no_seals_of names.plain k (FreePiece t) (λ u. refl) (λ u. refl))
          (λ k. no_seals_of names.plain k (RawPiece t.start t.len) (λ u. refl) (λ u. refl))
          (λ u ne there. (there, ne))
          (λ other. absurd (gone other)),
    )
