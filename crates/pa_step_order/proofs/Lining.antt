-- The moments of a thread are in the order of its lines, poisonings among them too: with a free's stake nothing was logged since the first
-- of them.
use Rattle.std.proofs.Common.{◌≡◌, List, [], ◌∷◌, ◌++◌, length, take, drop, Some, sym, ◌∙◌, ap, subst, arith, inl, inr, append_assoc}
use Rattle.std.specs.Prelude.{Contains, AllPairs}
use Rattle.std.proofs.lemmas.List.Elements.{Contains-append_cases, Contains-append_right}
use Rattle.pa_region.specs.Order.{OneStep, Logged, Spoiled, logged_among}
use Rattle.pa_lists.proofs.Elements.{in_middle}
use Rattle.pa_lists.proofs.Members.{first_in, in_cases}
use Rattle.pa_lists.proofs.Pairs.{pairs_head}
use Rattle.pa_lists.proofs.Parts.{pairs_across, pairs_after}
use Rattle.pa_lists.proofs.Cuts.{pairs_cuts, in_front_more, in_back_more}
use Rattle.pa_rules.specs.declared.played.Played.{Played}
use Rattle.pa_timeline.specs.Timeline.{Moment}
use Rattle.pa_step_order.proofs.Named.{Named, InLines, threads_rise}
use Rattle.pa_step_order.proofs.Moments.{InLine, moment_from}
use Rattle.pa_step_order.proofs.Ordered.{OrderedRun}
use Rattle.pa_step_order.proofs.Laid.{back_at, front_at, piece, laid, cut_laid, logged_append, parted}
use Rattle.pa_step_order.proofs.Belonging.{spoil_at, spoils_piece, logged_at}

module _ (run : OrderedRun) where
  open run use {sizes, ts, told, rising, all, ns, are, roots, rule, order, agree, placed, closed}

  pub front_within : (later older : List OneStep) (n : Named) → Contains (front_at ns older) n → Contains (front_at ns (later ++ older)) n
  front_within later older n among =
      subst (λ z. Contains (take (length z) ns) n) (sym (logged_append later older))
      (in_front_more (logged_among older) (logged_among later) ns n among)

  back_within : (later older : List OneStep) (n : Named) → Contains (back_at ns (later ++ older)) n → Contains (back_at ns older) n
  back_within later older n among =
      in_back_more (logged_among older) (logged_among later) ns n
      (subst (λ z. Contains (drop (length z) ns) n) (logged_append later older) among)

  -- the entry or the free that a moment is of isn't before it
  named_behind : (later : List OneStep) (s : OneStep) (o : List OneStep) (m : Moment) → order ≡ later ++ s ∷ o →
      piece roots ns s o ≡ Some m →
      (n : Named) × Contains (back_at ns o) n × (m.x ≡ n.x.played)
  named_behind later (Logged st) o m cut is =
      let (n, l) = logged_at run later st o m cut is in
      (n, subst (λ zs. Contains zs n) (sym l.next.back) (first_in n (back_at ns (Logged st ∷ o))), (moment_from roots n m l.moment_is).0)
  named_behind later (Spoiled t word) o m cut is =
      let (f, spoil) = spoil_at run later t word o cut in
      let same = spoils_piece run later t word o f m cut spoil is in
      (f, in_middle spoil.is.mid spoil.is.rest (back_at ns o) f spoil.is.parts, sym (ap (λ (z : Moment). z.x) same))

  abbrev Rise : Named → Named → Type 0
  Rise u v = u.x.played.thread ≡ v.x.played.thread → InLines ts all ns are rising u v

  pairs : AllPairs Rise ns
  pairs = threads_rise ts all ns are rising

  in_line : (a b : Moment) (u v : Named) → a.x ≡ u.x.played → b.x ≡ v.x.played → Rise u v → InLine a b
  in_line a b u v first second rise same =
      let up = rise (sym (ap (λ (z : Played). z.thread) first) ∙ same ∙ ap (λ (z : Played). z.thread) second) in
      let e = ap (λ (z : Played). z.line) first in
      let f = ap (λ (z : Played). z.line) second in
      omega arith

  before_it : (later : List OneStep) (s : OneStep) (older : List OneStep) (middle : List OneStep) (o : List OneStep) (a b : Moment)
      (v : Named) → order ≡ later ++ s ∷ older →
      o ≡ middle ++ s ∷ older → (pre : List OneStep) → order ≡ pre ++ o →
      piece roots ns s older ≡ Some a → Contains (back_at ns o) v → b.x ≡ v.x.played → InLine a b
  before_it later (Logged st) older middle o a b v cut within pre at is behind second =
      let (n, l) = logged_at run later st older a cut is in
      let here : Contains (front_at ns (Logged st ∷ older)) n =
      subst (λ zs. Contains zs n) (sym l.next.front) (Contains-append_right (front_at ns older) (n ∷ []) n (first_in n [])) in
      let front : Contains (front_at ns o) n =
      subst (λ z. Contains (front_at ns z) n) (sym within) (front_within middle (Logged st ∷ older) n here) in
      let whole = (parted ns order agree pre o at).1 in
      in_line a b n v (moment_from roots n a l.moment_is).0 second
      (pairs_across Rise (front_at ns o) (back_at ns o) n v (subst (AllPairs Rise) whole pairs) front behind)
  before_it later (Spoiled t word) older middle o a b v cut within pre at is behind second =
      let (f, spoil) = spoil_at run later t word older cut in
      let same = spoils_piece run later t word older f a cut spoil is in
      let first : a.x ≡ f.x.played = sym (ap (λ (z : Moment). z.x) same) in
      let back : Contains (back_at ns older) v =
      back_within middle (Spoiled t word ∷ older) v (subst (λ z. Contains (back_at ns z) v) within behind) in
      in_line a b f v first second
      (λ thread. elim (Contains-append_cases spoil.is.mid (f ∷ spoil.is.rest) v (subst (λ zs. Contains zs v) spoil.is.parts back)) [
        | inl mid ↦ absurd (spoil.is.apart v mid (sym thread))
        | inr rest ↦ elim (in_cases f v spoil.is.rest rest) [
          | inl one ↦ let e = ap (λ (z : Named). z.x.played.line) one in omega arith
          | inr past ↦ pairs_head Rise f v spoil.is.rest
              (pairs_after Rise (front_at ns older ++ spoil.is.mid) (f ∷ spoil.is.rest) (subst (AllPairs Rise) spoil.cut pairs)) past thread
        ]
      ])

  pub lines : AllPairs InLine (laid roots ns order)
  lines = pairs_cuts InLine (laid roots ns order) (λ us vs ws a b cut.
      let (later, s, o, parts, front, is) = cut_laid roots ns order (us ++ a ∷ vs) ws b (cut ∙ sym (append_assoc us (a ∷ vs) (b ∷ ws))) in
      let (middle, s', older, within, front', is') = cut_laid roots ns o us vs a (sym front) in
      let (v, behind, second) = named_behind later s o b parts is in
      let at : order ≡ (later ++ s ∷ []) ++ o = parts ∙ sym (append_assoc later (s ∷ []) o) in
      let cut' : order ≡ (later ++ s ∷ middle) ++ s' ∷ older = parts ∙ ap (λ z. later ++ s ∷ z) within ∙
      sym (append_assoc later (s ∷ middle) (s' ∷ older)) in
      before_it (later ++ s ∷ middle) s' older middle o a b v cut' within (later ++ s ∷ []) at is' behind second)
