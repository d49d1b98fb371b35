-- What a journal's entries weigh is what those on the lines of the records weigh, as each entry's line is one record's.
use Rattle.std.proofs.Common.{◌≡◌, ℕ, ◌+◌, Bool, cond, List, [], ◌∷◌, ◌++◌, map, filter, refl, sym, ◌∙◌, ap, arith, inl, inr}
use Rattle.std.specs.Prelude.{Contains, AllPairs, ◌==◌, nat_le}
use Rattle.std.proofs.lemmas.Bool.{cases_Bool, eq-eqb, ne_eqb, le-leb, leb-true}
use Rattle.std.proofs.lemmas.List.Elements.{All-contains}
use Rattle.pa_slot.specs.declared.word.SlotName.{SlotName}
use Rattle.pa_record.specs.declared.root.RootEntry.{RootEntry}
use Rattle.pa_record.specs.declared.root.RootAct.{RootAct}
use Rattle.pa_record.specs.Laws.{times, leaves_by, comes_by, times_left, times_back}
use Rattle.pa_lists.proofs.Members.{not_in_none, first_in, later_in, in_cases}
use Rattle.pa_lists.proofs.Pairs.{pairs_head, pairs_tail}
use Rattle.pa_lists.proofs.Joined.{filter_cases, filter_in}
use Rattle.pa_rules.specs.declared.played.Played.{Played}
use Rattle.pa_rules.specs.Roots.{Journals}
use Rattle.pa_rules.specs.Caches.{acts_of}
use Rattle.pa_rules.specs.Report.{until, AreUntil, InPhases, PastPhases}
use Rattle.pa_rules.specs.Flow.{left_in, back_in, left_on, back_on}
use Rattle.pa_rules.proofs.Running.{OtherRecord, one_by}

-- the weights of acts, of entries, and of what the lines of records have
abbrev weigh : (RootAct → ℕ) → List RootAct → ℕ
weigh f [] = 0
weigh f (a ∷ acts) = f a + weigh f acts

abbrev weight : (RootAct → ℕ) → List RootEntry → ℕ
weight f [] = 0
weight f (e ∷ es) = f e.act + weight f es

abbrev over : (ℕ → ℕ) → List Played → ℕ
over g [] = 0
over g (x ∷ xs) = g x.line + over g xs

abbrev acts_at : List RootEntry → ℕ → List RootAct
acts_at es line = map (λ (e : RootEntry). e.act) (filter (λ (e : RootEntry). e.line == line) es)

abbrev here : (RootAct → ℕ) → RootEntry → ℕ → ℕ
here f e line = cond (e.line == line) (f e.act) 0

one_more : (f : RootAct → ℕ) (e : RootEntry) (es : List RootEntry) (line : ℕ) →
    weigh f (acts_at (e ∷ es) line) ≡ here f e line + weigh f (acts_at es line)
one_more f e es line = elim (cases_Bool (e.line == line)) [
  | inl hit ↦ rw hit refl
  | inr miss ↦ rw miss (omega arith)
]

over_add : (g h k : ℕ → ℕ) (xs : List Played) → ((n : ℕ) → g n ≡ h n + k n) → over g xs ≡ over h xs + over k xs
over_add g h k [] e = refl
over_add g h k (x ∷ xs) e =
    let a = e x.line in
    let ih = over_add g h k xs e in
    omega arith

over_none : (g : ℕ → ℕ) (xs : List Played) → ((x : Played) → Contains xs x → g x.line ≡ 0) → over g xs ≡ 0
over_none g [] h = refl
over_none g (x ∷ xs) h =
    let a = h x (first_in x xs) in
    let ih = over_none g xs (λ y among. h y (later_in x y xs among)) in
    omega arith

here_hit : (f : RootAct → ℕ) (e : RootEntry) (line : ℕ) → e.line ≡ line → here f e line ≡ f e.act
here_hit f e line same = rw (eq-eqb e.line line same) refl

here_miss : (f : RootAct → ℕ) (e : RootEntry) (line : ℕ) → (e.line ≡ line → ⊥) → here f e line ≡ 0
here_miss f e line other = rw (ne_eqb e.line line other) refl

over_hit : (f : RootAct → ℕ) (e : RootEntry) (xs : List Played) (x : Played) → AllPairs OtherRecord xs → Contains xs x → e.line ≡ x.line →
    over (here f e) xs ≡ f e.act
over_hit f e [] x h among same = absurd (not_in_none x among)
over_hit f e (y ∷ ys) x h among same = elim (in_cases y x ys among) [
  | inl i ↦
      let at : e.line ≡ y.line = same ∙ ap (λ (z : Played). z.line) (sym i) in
      let a = here_hit f e y.line at in
      let rest = over_none (here f e) ys
      (λ z member. here_miss f e z.line (λ there. pairs_head OtherRecord y z ys h member (sym at ∙ there))) in
      omega arith
  | inr after ↦
      let a = here_miss f e y.line (λ there. pairs_head OtherRecord y x ys h after (sym there ∙ same)) in
      let ih = over_hit f e ys x (pairs_tail OtherRecord y ys h) after same in
      omega arith
]

-- on the lines of these records the entries weigh what the list weighs, if each entry of it has the line of one of them and no
-- entry after it has
by_lines : (f : RootAct → ℕ) (es rest : List RootEntry) (xs : List Played) → AllPairs OtherRecord xs →
    ((e : RootEntry) → Contains es e → (x : Played) × Contains xs x × (e.line ≡ x.line))
    → ((e : RootEntry) (x : Played) → Contains rest e → Contains xs x → e.line ≡ x.line → ⊥) →
    over (λ line. weigh f (acts_at (es ++ rest) line)) xs ≡ weight f es
by_lines f [] [] xs h each none = over_none (λ line. 0) xs (λ x among. refl)
by_lines f [] (e ∷ rest) xs h each none =
    let a = over_add (λ line. weigh f (acts_at (e ∷ rest) line)) (here f e) (λ line. weigh f (acts_at rest line)) xs (one_more f e rest) in
    let b = over_none (here f e) xs (λ x among. here_miss f e x.line (none e x (first_in e rest) among)) in
    let ih = by_lines f [] rest xs h each (λ g x member. none g x (later_in e g rest member)) in
    omega arith
by_lines f (e ∷ es) rest xs h each none =
    let a = over_add (λ line. weigh f (acts_at ((e ∷ es) ++ rest) line)) (here f e) (λ line. weigh f (acts_at (es ++ rest) line)) xs
    (one_more f e (es ++ rest)) in
    let (x, among, same) = each e (first_in e es) in
    let b = over_hit f e xs x h among same in
    let ih = by_lines f es rest xs h (λ g member. each g (later_in e g es member)) none in
    omega arith

-- one line has one record
pub same_record : (xs : List Played) (x y : Played) → AllPairs OtherRecord xs → Contains xs x → Contains xs y → x.line ≡ y.line → x ≡ y
same_record xs x y h first second e = one_by (λ (z : Played). z.line) xs x y h first second e

abbrev pub is_until : ℕ → Played → Bool
is_until phase x = nat_le x.phase phase

-- the entries on the lines of some records come before a journal, the others after them
pub record IsFront (xs : List Played) (journal front : List RootEntry) : Type 0 where
  pub rest : List RootEntry
  pub parts : journal ≡ front ++ rest
  pub each : (e : RootEntry) → Contains front e → (x : Played) × Contains xs x × (e.line ≡ x.line)
  pub none : (e : RootEntry) (x : Played) → Contains rest e → Contains xs x → e.line ≡ x.line → ⊥

-- the entries of a journal up to the end of a phase are a front of it, by the records up to there
pub until_front : (ps : List Played) (phase : ℕ) (journal before : List RootEntry) → AllPairs OtherRecord ps →
    AreUntil ps phase journal before → IsFront (until phase ps) journal before
until_front ps phase journal before h u = record {
  rest = u.rest;
  parts = u.parts;
  each = λ e among.
      let (x, of, low) = All-contains (InPhases ps phase) before e u.in_phases among in
      (x, filter_in (is_until phase) ps x of.0 (le-leb _ _ low), sym of.1);
  none = λ e x among member same.
      let (y, of, high) = All-contains (PastPhases ps phase) u.rest e u.past_phases among in
      let (there, low) = filter_cases (is_until phase) ps x member in
      let one = same_record ps y x h of.0 there (of.1 ∙ same) in
      let phases : y.phase ≡ x.phase = ap (λ (z : Played). z.phase) one in
      let up = leb-true _ _ low in
      omega arith;
}

front_weighs : (f : RootAct → ℕ) (xs : List Played) (journal front : List RootEntry) → AllPairs OtherRecord xs → IsFront xs journal front →
    over (λ line. weigh f (acts_at journal line)) xs ≡ weight f front
front_weighs f xs journal front h u = ap (λ es. over (λ line. weigh f (acts_at es line)) xs) u.parts ∙
    by_lines f front u.rest xs h u.each u.none

-- ---- how often a slot leaves and comes back

abbrev leaving : SlotName → RootAct → ℕ
leaving s a = times s (leaves_by a)

abbrev coming : SlotName → RootAct → ℕ
coming s a = times s (comes_by a)

left_weighs : (s : SlotName) (acts : List RootAct) → left_in s acts ≡ weigh (leaving s) acts
left_weighs s [] = refl
left_weighs s (a ∷ acts) = ap (λ n. leaving s a + n) (left_weighs s acts)

back_weighs : (s : SlotName) (acts : List RootAct) → back_in s acts ≡ weigh (coming s) acts
back_weighs s [] = refl
back_weighs s (a ∷ acts) = ap (λ n. coming s a + n) (back_weighs s acts)

left_over : (s : SlotName) (roots : Journals) (p : ℕ) (xs : List Played) →
    left_on s roots p xs ≡ over (λ line. weigh (leaving s) (acts_of roots line p)) xs
left_over s roots p [] = refl
left_over s roots p (x ∷ xs) = let a = left_weighs s (acts_of roots x.line p) in let ih = left_over s roots p xs in omega arith

back_over : (s : SlotName) (roots : Journals) (p : ℕ) (xs : List Played) →
    back_on s roots p xs ≡ over (λ line. weigh (coming s) (acts_of roots line p)) xs
back_over s roots p [] = refl
back_over s roots p (x ∷ xs) = let a = back_weighs s (acts_of roots x.line p) in let ih = back_over s roots p xs in omega arith

left_times : (s : SlotName) (es : List RootEntry) → weight (leaving s) es ≡ times_left s es
left_times s [] = refl
left_times s (e ∷ es) = ap (λ n. leaving s e.act + n) (left_times s es)

back_times : (s : SlotName) (es : List RootEntry) → weight (coming s) es ≡ times_back s es
back_times s [] = refl
back_times s (e ∷ es) = ap (λ n. coming s e.act + n) (back_times s es)

pub left_front : (s : SlotName) (xs : List Played) (roots : Journals) (p : ℕ) (front : List RootEntry) → AllPairs OtherRecord xs
    → IsFront xs (roots p) front → left_on s roots p xs ≡ times_left s front
left_front s xs roots p front h u = left_over s roots p xs ∙ front_weighs (leaving s) xs (roots p) front h u ∙ left_times s front

pub back_front : (s : SlotName) (xs : List Played) (roots : Journals) (p : ℕ) (front : List RootEntry) → AllPairs OtherRecord xs
    → IsFront xs (roots p) front → back_on s roots p xs ≡ times_back s front
back_front s xs roots p front h u = back_over s roots p xs ∙ front_weighs (coming s) xs (roots p) front h u ∙ back_times s front
