-- The holders of a journal's moves at a number, from the first holder on.
use Rattle.std.proofs.Common.{◌≡◌, ℕ, ◌+◌, ◌<◌, Bool, true, not, ◌&&◌, List, [], ◌∷◌, ◌++◌, map, Some, refl, sym, ◌∙◌, ap, subst, arith, inl, inr}
use Rattle.std.specs.Prelude.{Contains, AllPairs, ◌==◌, count_by}
use Rattle.std.proofs.lemmas.Bool.{eq-eqb, ne_eqb, true≢false}
use Rattle.std.proofs.lemmas.List.{append-nil}
use Rattle.std.proofs.lemmas.List.Elements.{Contains-append_left}
use Rattle.pa_slot.specs.declared.word.SlotName.{SlotName}
use Rattle.pa_record.specs.declared.pool.PoolEntry.{PoolEntry}
use Rattle.pa_lists.proofs.Members.{first_in, later_in}
use Rattle.pa_rules.specs.declared.played.Played.{Played}
use Rattle.pa_rules.specs.Roots.{Journals}
use Rattle.pa_rules.specs.Order.{IsOfLine}
use Rattle.pa_rules.specs.Holders.{Holder, WithThread, Way, Out, Back, Move, moves_at, made_by, needed_by, MovesFit, HolderAfter, HasHolders, IsFirstHolder}
use Rattle.pa_rules.proofs.Running.{OtherRecord}
use Rattle.pa_rules.proofs.FourPlaces.{HasLeft}
use Rattle.pa_legal.specs.Turns.{Turn, is_out, is_with, needs, makes, Alternate, TurnsFit, holder_after, has, takes_of, backs_of, NoneLoses}
use Rattle.pa_legal.specs.Numbers.{all_moves}
use Rattle.pa_legal.specs.Flows.{is_back, issues_at}
use Rattle.pa_legal.specs.Known.{AreKnown}
use Rattle.pa_legal.proofs.Balance.{holders_balance}
use Rattle.pa_legal.proofs.flow.Threads.{weigh}
use Rattle.pa_legal.proofs.holders.Order.{move_made}
use Rattle.pa_legal.proofs.holders.First.{IsFirst, IsNever, first_holder}
use Rattle.pa_legal.proofs.holders.Alternating.{turn_of, away_at, alternate, moved_left}
use Rattle.pa_lists.proofs.Parts.{map_parts}
use Rattle.pa_legal.proofs.holders.Holding.{thread_at, thread_is, weighed, over_some, lines, flow, less}

-- each of these moves has a record
abbrev AreMade : List Played → List Move → Type 0
AreMade ps ms = (m : Move) → Contains ms m → (x : Played) × IsOfLine ps m.line x

needed_is : (w : Way) (t : ℕ) (x : Played) → t ≡ x.thread → needs w t ≡ needed_by w x
needed_is Out t x e = refl
needed_is Back t x e = ap WithThread e

made_is : (w : Way) (t : ℕ) (x : Played) → t ≡ x.thread → makes w t ≡ made_by w x
made_is Out t x e = ap WithThread e
made_is Back t x e = refl

-- whether a thread has the slot, as a move needs it and makes it
pub needed_way : (w : Way) (x : Played) → is_with (needed_by w x) ≡ not (is_out w)
needed_way Out x = refl
needed_way Back x = refl

pub made_way : (w : Way) (x : Played) → is_with (made_by w x) ≡ is_out w
made_way Out x = refl
made_way Back x = refl

module _ (ps : List Played) (lines : AllPairs OtherRecord ps) where
  at_line : (line : ℕ) (x : Played) → IsOfLine ps line x → thread_at ps line ≡ x.thread
  at_line line x of = ap (thread_at ps) (sym of.1) ∙ thread_is ps x lines of.0

  -- turns that fit are moves that fit
  moves_fit : (h : Holder) (ms : List Move) → AreMade ps ms → TurnsFit h (map (turn_of (thread_at ps)) ms) → MovesFit ps h ms
  moves_fit h [] made fit = tt
  moves_fit h (m ∷ ms) made (need, rest) =
      let (x, of) = made m (first_in m ms) in
      let same = at_line m.line x of in (
        x,
        of,
        need ∙ needed_is m.way (thread_at ps m.line) x same,
        subst (λ z. MovesFit ps z ms) (made_is m.way (thread_at ps m.line) x same)
            (moves_fit (makes m.way (thread_at ps m.line)) ms (λ n among. made n (later_in m n ms among)) rest),
      )

  moves_end : (h : Holder) (ms : List Move) → AreMade ps ms → HolderAfter ps h ms (holder_after h (map (turn_of (thread_at ps)) ms))
  moves_end h [] made = refl
  moves_end h (m ∷ ms) made =
      let (x, of) = made m (first_in m ms) in
      let same = made_is m.way (thread_at ps m.line) x (at_line m.line x of) in
      let last = holder_after (makes m.way (thread_at ps m.line)) (map (turn_of (thread_at ps)) ms) in (
        x,
        of,
        subst (λ z. HolderAfter ps z ms last) same
            (moves_end (makes m.way (thread_at ps m.line)) ms (λ n among. made n (later_in m n ms among))),
      )

pub first_away : (h : Holder) (s : SlotName) (k : ℕ) (ps : List Played) → IsFirstHolder ps s k h → is_with h ≡ away_at (Some 0) k
first_away h s k ps (inl (none, root)) = rw (root, eq-eqb 0 k (sym none)) refl
first_away h s k ps (inr (x, (among, m, step, marked, slot, steps, returning, number), thread)) =
    rw (thread, ne_eqb 0 k (λ e. omega arith)) refl

module _ (supers partitions : ℕ) (ps : List Played) (pools : List PoolEntry) (roots : Journals)
    (a : AreKnown supers partitions ps pools roots) where
  unlike : AllPairs OtherRecord ps
  unlike = lines supers partitions ps pools roots a

  made_at : (p : ℕ) (s : SlotName) (k : ℕ) → AreMade ps (moves_at (roots p) s k)
  made_at p s k m among = let (x, of, does) = move_made partitions ps pools roots a.journals unlike p s k m among in (x, of)

  turns_alternate : (p : ℕ) (s : SlotName) (k : ℕ) → Alternate (away_at (Some 0) k) (map (turn_of (thread_at ps)) (moves_at (roots p) s k))
  turns_alternate p s k = alternate (thread_at ps) s k (all_moves (roots p)) (Some 0) (a.numbers p s)

  module _ (s : SlotName) (k p : ℕ) (left : HasLeft roots p s) where
    counted : (w : Way → Bool) (t : ℕ) (ms rest : List Move) → moves_at (roots p) s k ≡ ms ++ rest →
        count_by (λ (u : Turn). w u.way && (u.thread == t)) (map (turn_of (thread_at ps)) ms) ≡ weigh w t ps ms
    counted w t ms rest parts =
        weighed w ps t ms unlike
        (λ m among. made_at p s k m (subst (λ zs. Contains zs m) (sym parts) (Contains-append_left ms rest m among)))

    none_loses : (h : Holder) → IsFirst ps s k h → NoneLoses h (map (turn_of (thread_at ps)) (moves_at (roots p) s k))
    none_loses h first before after u is back =
        let (front, m, rest, parts, same, turn) = map_parts (turn_of (thread_at ps)) (moves_at (roots p) s k) before u after is in
        let way : m.way ≡ Back = ap (λ (z : Turn). z.way) turn ∙ back in
        let thread : thread_at ps m.line ≡ u.thread = ap (λ (z : Turn). z.thread) turn in
        let f = less supers partitions ps pools roots a s k p left front rest m parts way in
        let t = thread_at ps m.line in
        let b = counted is_back t front (m ∷ rest) parts in
        let o = counted is_out t front (m ∷ rest) parts in
        let had = first.had t in
        let now : backs_of t (map (turn_of (thread_at ps)) front) < has t h + takes_of t (map (turn_of (thread_at ps)) front) =
        omega arith in
        subst (λ us. backs_of u.thread us < has u.thread h + takes_of u.thread us) same
        (subst (λ z. backs_of z (map (turn_of (thread_at ps)) front) < has z h + takes_of z (map (turn_of (thread_at ps)) front)) thread
        now)

    balanced : (h : Holder) → IsFirst ps s k h → TurnsFit h (map (turn_of (thread_at ps)) (moves_at (roots p) s k))
        × ((t : ℕ) → backs_of t (map (turn_of (thread_at ps)) (moves_at (roots p) s k)) < has t h + takes_of t
        (map (turn_of (thread_at ps)) (moves_at (roots p) s k)) →
        holder_after h (map (turn_of (thread_at ps)) (moves_at (roots p) s k)) ≡ WithThread t)
    balanced h first =
        holders_balance h (map (turn_of (thread_at ps)) (moves_at (roots p) s k))
        (subst (λ b. Alternate b (map (turn_of (thread_at ps)) (moves_at (roots p) s k))) (sym (first_away h s k ps first.first))
        (turns_alternate p s k))
        (none_loses h first)

    -- if nobody returned the slot at the number, no entry names it there
    never_moved : IsNever ps s k → (ms : List Move) → moves_at (roots p) s k ≡ ms → ms ≡ []
    never_moved never [] is = refl
    never_moved never (m ∷ ms) is =
        let turns : Alternate (away_at (Some 0) k) (map (turn_of (thread_at ps)) (m ∷ ms)) = subst
        (λ zs. Alternate (away_at (Some 0) k) (map (turn_of (thread_at ps)) zs)) is (turns_alternate p s k) in
        let away : away_at (Some 0) k ≡ true = rw (ne_eqb 0 k (λ e. never.later (sym e))) refl in
        let back = must_be_back m.way (sym away ∙ turns.0) in
        let f = less supers partitions ps pools roots a s k p left [] ms m is back in
        let none = never.none (thread_at ps m.line) in
        absurd (omega arith)
      where
        must_be_back : (w : Way) → true ≡ not (is_out w) → w ≡ Back
        must_be_back Out e = absurd (true≢false e)
        must_be_back Back e = refl

  -- each move has the holder that it needs
  holders_of : (p : ℕ) (s : SlotName) (k : ℕ) (ms : List Move) → moves_at (roots p) s k ≡ ms → HasHolders ps s k ms
  holders_of p s k [] is = tt
  holders_of p s k (m ∷ ms) is =
      let left = moved_left roots p s k m a.numbers (subst (λ zs. Contains zs m) (sym is) (first_in m ms)) in
      elim (first_holder ps s k unlike a.slots) [
        | inl (h, first) ↦
            let (fit, last) = balanced s k p left h first in
            (h, first.first, subst (λ zs. MovesFit ps h zs) is (moves_fit ps unlike h (moves_at (roots p) s k) (made_at p s k) fit))
        | inr never ↦ let none = never_moved s k p left never (m ∷ ms) is in absurd cc
      ]

  pub moves_hold : (p : ℕ) (s : SlotName) (k : ℕ) → HasHolders ps s k (moves_at (roots p) s k)
  moves_hold p s k = holders_of p s k (moves_at (roots p) s k) refl

  -- the thread that issues a slot holds it
  pub issuer_holds : (s : SlotName) (k p : ℕ) (x : Played) → HasLeft roots p s → Contains ps x → issues_at s k x ≡ 1 →
      (h : Holder) × IsFirstHolder ps s k h × HolderAfter ps h (moves_at (roots p) s k) (WithThread x.thread)
  issuer_holds s k p x left among one =
      let t = x.thread in
      let some = over_some t (issues_at s k) ps x among refl one in
      let f = flow supers partitions ps pools roots a s k p left t ps [] (sym (append-nil ps)) in
      let b = counted s k p left is_back t (moves_at (roots p) s k) [] (sym (append-nil (moves_at (roots p) s k))) in
      let o = counted s k p left is_out t (moves_at (roots p) s k) [] (sym (append-nil (moves_at (roots p) s k))) in
      elim (first_holder ps s k unlike a.slots) [
        | inl (h, first) ↦
            let had = first.had t in
            let (fit, last) = balanced s k p left h first in (
              h,
              first.first,
              subst (λ z. HolderAfter ps h (moves_at (roots p) s k) z) (last t (omega arith))
                  (moves_end ps unlike h (moves_at (roots p) s k) (made_at p s k)),
            )
        | inr never ↦
            let none : moves_at (roots p) s k ≡ [] = never_moved s k p left never (moves_at (roots p) s k) refl in
            let out : weigh is_out t ps (moves_at (roots p) s k) ≡ 0 = ap (weigh is_out t ps) none in
            let had = never.none t in
            absurd (omega arith)
      ]
