-- Each move of a journal has the holder that it needs, and the thread that issues a slot holds it.
use Rattle.std.proofs.Common.{◌≡◌, ℕ, ◌+◌, ◌<◌, ◌≤◌, Bool, true, false, ◌&&◌, cond, List, [], ◌∷◌, ◌++◌, map, refl, sym, ◌∙◌, ap, subst, arith, inl, inr, append_assoc}
use Rattle.std.specs.Prelude.{Contains, AllPairs, ◌==◌, if◌then◌else◌, count_by}
use Rattle.std.proofs.lemmas.Bool.{cases_lt, eq-eqb, ne_eqb, false≢true}
use Rattle.std.proofs.lemmas.List.Elements.{Contains-append_left, Contains-append_right, Contains-append_cases}
use Rattle.std.proofs.lemmas.List.Sums.{sum_by-cons}
use Rattle.pa_slot.specs.declared.word.SlotName.{SlotName}
use Rattle.pa_record.specs.declared.pool.PoolEntry.{PoolEntry}
use Rattle.pa_lists.proofs.Members.{not_in_none, first_in, later_in, in_cases}
use Rattle.pa_lists.proofs.Pairs.{pairs_none, pairs_cons, pairs_head, pairs_tail}
use Rattle.pa_rules.specs.declared.played.Played.{Played}
use Rattle.pa_rules.specs.Roots.{Journals}
use Rattle.pa_rules.specs.Order.{IsOfLine}
use Rattle.pa_rules.specs.Holders.{Way, Out, Back, Move, moves_at}
use Rattle.pa_rules.specs.Flow.{IsOnlyOf}
use Rattle.pa_rules.proofs.Numbering.{rising_differ}
use Rattle.pa_rules.proofs.Owned.{only_of}
use Rattle.pa_rules.proofs.Running.{OtherRecord}
use Rattle.pa_rules.proofs.FourPlaces.{HasLeft}
use Rattle.pa_legal.specs.Turns.{Turn, is_out}
use Rattle.pa_legal.specs.Flows.{is_back, issues_at, returns_at, over}
use Rattle.pa_legal.specs.Known.{AreKnown}
use Rattle.pa_legal.proofs.flow.Threads.{mine, weigh, weigh_cons, weigh_append, weigh_parts, weigh_zero, over_lines, mine_one}
use Rattle.pa_lists.proofs.Parts.{pairs_across, pairs_after, parts_at}
use Rattle.pa_legal.proofs.holders.Maps.{new_map}
use Rattle.pa_legal.proofs.holders.Order.{InOrder, one_way, move_made, moves_order}
use Rattle.pa_legal.proofs.holders.Alternating.{turn_of}

-- ---- the thread of a line

abbrev pub thread_at : List Played → ℕ → ℕ
thread_at [] line = 0
thread_at (x ∷ xs) line = if x.line == line then x.thread else thread_at xs line

pub thread_is : (xs : List Played) (x : Played) → AllPairs OtherRecord xs → Contains xs x → thread_at xs x.line ≡ x.thread
thread_is [] x h among = absurd (not_in_none x among)
thread_is (y ∷ ys) x h among = elim (in_cases y x ys among) [
  | inl e ↦ rw (eq-eqb y.line x.line (ap (λ (z : Played). z.line) e)) (ap (λ (z : Played). z.thread) e)
  | inr later ↦ rw (ne_eqb y.line x.line (pairs_head OtherRecord y x ys h later)) (thread_is ys x (pairs_tail OtherRecord y ys h) later)
]

-- turns that are counted are moves that are weighed
pub weighed : (w : Way → Bool) (ps : List Played) (t : ℕ) (ms : List Move) → AllPairs OtherRecord ps →
    ((m : Move) → Contains ms m → (x : Played) × IsOfLine ps m.line x) →
    count_by (λ (u : Turn). w u.way && (u.thread == t)) (map (turn_of (thread_at ps)) ms) ≡ weigh w t ps ms
weighed w ps t [] lines each = refl
weighed w ps t (m ∷ ms) lines each =
    let (x, (among, line)) = each m (first_in m ms) in
    let a = sum_by-cons (λ (u : Turn). cond {A = ℕ} (w u.way && (u.thread == t)) 1 0) (turn_of (thread_at ps) m)
    (map (turn_of (thread_at ps)) ms) in
    let b = weigh_cons w t ps m ms in
    let c = mine_one t ps x lines among in
    let d : mine t ps m.line ≡ mine t ps x.line = ap (mine t ps) (sym line) in
    let e : thread_at ps m.line ≡ x.thread = ap (thread_at ps) (sym line) ∙ thread_is ps x lines among in
    let here : cond {A = ℕ} (w m.way && (thread_at ps m.line == t)) 1 0 ≡ cond {A = ℕ} (w m.way) (mine t ps m.line) 0 =
    both (w m.way) (thread_at ps m.line == t) (mine t ps m.line) (d ∙ c ∙ ap (λ z. cond {A = ℕ} (z == t) 1 0) (sym e)) in
    let ih = weighed w ps t ms lines (λ n among. each n (later_in m n ms among)) in
    omega arith
  where
    both : (p q : Bool) (n : ℕ) → n ≡ cond {A = ℕ} q 1 0 → cond {A = ℕ} (p && q) 1 0 ≡ cond {A = ℕ} p n 0
    both true q n e = sym e
    both false q n e = refl

abbrev Earlier : Played → Played → Type 0
Earlier x y = x.line < y.line

over_parts : (t : ℕ) (g : Played → ℕ) (xs ys : List Played) → over t g (xs ++ ys) ≡ over t g xs + over t g ys
over_parts t g [] ys = omega arith
over_parts t g (x ∷ xs) ys = let ih = over_parts t g xs ys in omega arith

pub over_some : (t : ℕ) (g : Played → ℕ) (xs : List Played) (x : Played) → Contains xs x → x.thread ≡ t → g x ≡ 1 → 1 ≤ over t g xs
over_some t g [] x among thread one = absurd (not_in_none x among)
over_some t g (y ∷ ys) x among thread one = elim (in_cases y x ys among) [
  | inl e ↦
      let here : cond {A = ℕ} (y.thread == t) (g y) 0 ≡ g y = rw (eq-eqb y.thread t (ap (λ (z : Played). z.thread) e ∙ thread)) refl in
      let is : g y ≡ g x = ap g e in
      omega arith
  | inr later ↦ let ih = over_some t g ys x later thread one in omega arith
]

back_is : (w : Way) → is_back w ≡ true → w ≡ Back
back_is Out is = absurd (false≢true is)
back_is Back is = refl

out_is : (w : Way) → is_out w ≡ true → w ≡ Out
out_is Out is = refl
out_is Back is = absurd (false≢true is)

module _ (supers partitions : ℕ) (ps : List Played) (pools : List PoolEntry) (roots : Journals)
    (a : AreKnown supers partitions ps pools roots) where
  pub lines : AllPairs OtherRecord ps
  lines = rising_differ ps a.rising

  module _ (s : SlotName) (k p : ℕ) (left : HasLeft roots p s) where
    abbrev Moves : List Move
    Moves = moves_at (roots p) s k

    own : IsOnlyOf roots p s
    own = only_of supers partitions ps pools roots p left.0 s a.journals a.pool left.1 left.2

    below : p < partitions
    below = elim (cases_lt p partitions) [
      | inl less ↦ less
      | inr past ↦ absurd (not_in_none left.0 (subst (λ es. Contains es left.0) (a.journals.none_past p past) left.1))
    ]

    inside : (xs rest : List Played) (x : Played) → ps ≡ xs ++ rest → Contains xs x → Contains ps x
    inside xs rest x parts among = subst (λ zs. Contains zs x) (sym parts) (Contains-append_left xs rest x among)

    -- a thread got the slot at the number at least as often as it issued it and gave it back
    pub flow : (t : ℕ) (xs rest : List Played) → ps ≡ xs ++ rest
        → over t (issues_at s k) xs + weigh is_back t xs (moves_at (roots p) s k) ≤ weigh is_out t xs (moves_at (roots p) s k) + over t
        (returns_at s k) xs
    flow t xs rest parts =
        let all = a.flows.flow t p k s xs rest parts below own (λ x among. (
          new_map supers partitions ps pools roots a.journals a.pool lines a.slots a.flows x (inside xs rest x parts among),
          a.unmaps x (inside xs rest x parts among),
        )) in
        let out = over_lines is_out t roots s k p xs in
        let back' = over_lines is_back t roots s k p xs in
        omega arith

    -- before a move back its thread got the slot once more than it gave it back
    module _ (before after : List Move) (m : Move) (parts : moves_at (roots p) s k ≡ before ++ m ∷ after) (back : m.way ≡ Back) where
      among : Contains (moves_at (roots p) s k) m
      among = subst (λ zs. Contains zs m) (sym parts) (Contains-append_right before (m ∷ after) m (first_in m after))

      order : AllPairs (InOrder ps) (before ++ m ∷ after)
      order = subst (λ zs. AllPairs (InOrder ps) zs) parts (moves_order partitions ps pools roots a.journals lines p s k)

      module _ (x : Played) (of : IsOfLine ps m.line x) (front rest : List Played) (cut : ps ≡ front ++ x ∷ rest) where
        rises : AllPairs Earlier (front ++ x ∷ rest)
        rises = subst (λ zs. AllPairs Earlier zs) cut a.rising

        cut' : ps ≡ (front ++ x ∷ []) ++ rest
        cut' = cut ∙ sym (append_assoc front (x ∷ []) rest)

        -- no later record of the thread moved it before
        none_behind : weigh is_back x.thread rest before ≡ 0
        none_behind = weigh_zero is_back x.thread rest before (λ n y here there hit thread line.
            pairs_across (InOrder ps) before (m ∷ after) n m order here (first_in m after) y x
            (subst (λ zs. Contains zs y) (sym cut) (Contains-append_right front (x ∷ rest) y (later_in x y rest there)), line) of
            (inl (sym thread, pairs_head Earlier x y rest (pairs_after Earlier front (x ∷ rest) rises) there)))

        -- none up to its own took it out after
        none_after : weigh is_out x.thread (front ++ x ∷ []) after ≡ 0
        none_after = weigh_zero is_out x.thread (front ++ x ∷ []) after (λ n y here there hit thread line.
            let member : Contains (moves_at (roots p) s k) n =
            subst (λ zs. Contains zs n) (sym parts) (Contains-append_right before (m ∷ after) n (later_in m n after here)) in
            elim (Contains-append_cases front (x ∷ []) y there) [
              | inl earlier ↦
                  pairs_head (InOrder ps) m n after (pairs_after (InOrder ps) before (m ∷ after) order) here x y of
                  (subst (λ zs. Contains zs y) (sym cut) (Contains-append_left front (x ∷ rest) y earlier), line)
                  (inl (thread, pairs_across Earlier front (x ∷ rest) y x rises earlier (first_in x rest)))
              | inr last ↦ elim (in_cases x y [] last) [
                | inl e ↦ one_way partitions ps pools roots a.journals lines p s k m n among member back (out_is n.way hit)
                    (sym of.1 ∙ ap (λ (z : Played). z.line) e ∙ line)
                | inr none ↦ not_in_none y none
              ]
            ])

        less_by : weigh is_back x.thread ps before < over x.thread (returns_at s k) ps + weigh is_out x.thread ps before
        less_by =
            let t = x.thread in
            let xs = front ++ x ∷ [] in
            let f = flow t xs rest cut' in
            let member : Contains xs x = Contains-append_right front (x ∷ []) x (first_in x []) in
            let one = mine_one t xs x (front_pairs xs rest (subst (λ zs. AllPairs OtherRecord zs) cut' lines)) member in
            let here : mine t xs m.line ≡ 1 = ap (mine t xs) (sym of.1) ∙ one ∙ is_one t in
            let wb : weigh is_back t xs (moves_at (roots p) s k) ≡ weigh is_back t xs before + weigh is_back t xs (m ∷ after) = ap
            (weigh is_back t xs) parts ∙ weigh_append is_back t xs before (m ∷ after) in
            let wo : weigh is_out t xs (moves_at (roots p) s k) ≡ weigh is_out t xs before + weigh is_out t xs (m ∷ after) = ap
            (weigh is_out t xs) parts ∙ weigh_append is_out t xs before (m ∷ after) in
            let cb = weigh_cons is_back t xs m after in
            let co = weigh_cons is_out t xs m after in
            let mb : cond {A = ℕ} (is_back m.way) (mine t xs m.line) 0 ≡ mine t xs m.line =
            ap (λ w. cond {A = ℕ} (is_back w) (mine t xs m.line) 0) back in
            let mo : cond {A = ℕ} (is_out m.way) (mine t xs m.line) 0 ≡ 0 = ap (λ w. cond {A = ℕ} (is_out w) (mine t xs m.line) 0) back in
            let b1 : weigh is_back t ps before ≡ weigh is_back t xs before + weigh is_back t rest before =
            ap (λ zs. weigh is_back t zs before) cut' ∙ weigh_parts is_back t xs rest before in
            let o1 : weigh is_out t ps before ≡ weigh is_out t xs before + weigh is_out t rest before =
            ap (λ zs. weigh is_out t zs before) cut' ∙ weigh_parts is_out t xs rest before in
            let r1 : over t (returns_at s k) ps ≡ over t (returns_at s k) xs + over t (returns_at s k) rest =
            ap (λ zs. over t (returns_at s k) zs) cut' ∙ over_parts t (returns_at s k) xs rest in
            let b2 = none_behind in
            let o2 = none_after in
            omega arith
          where
            is_one : (t : ℕ) → cond {A = ℕ} (t == t) 1 0 ≡ 1
            is_one t = rw (eq-eqb t t refl) refl

            front_pairs : (xs ys : List Played) → AllPairs OtherRecord (xs ++ ys) → AllPairs OtherRecord xs
            front_pairs [] ys h = pairs_none OtherRecord
            front_pairs (y ∷ xs) ys h =
                pairs_cons OtherRecord y xs (λ z there. pairs_head OtherRecord y z (xs ++ ys) h (Contains-append_left xs ys z there))
                (front_pairs xs ys (pairs_tail OtherRecord y (xs ++ ys) h))

      pub less : weigh is_back (thread_at ps m.line) ps before < over (thread_at ps m.line) (returns_at s k) ps + weigh is_out
          (thread_at ps m.line) ps before
      less =
          let (x, of, does) = move_made partitions ps pools roots a.journals lines p s k m among in
          let (front, rest, cut) = parts_at ps x of.0 in
          let same : x.thread ≡ thread_at ps m.line = sym (thread_is ps x lines of.0) ∙ ap (thread_at ps) of.1 in
          subst (λ t. weigh is_back t ps before < over t (returns_at s k) ps + weigh is_out t ps before) same (less_by x of front rest cut)
