-- The steps of the order, poisonings among them, as moments: what was logged is of its record, and a poisoning of the next record that
-- frees its title.
use Rattle.std.proofs.Common.{◌≡◌, ℕ, eqb, Bool, List, [], ◌∷◌, ◌++◌, map, filter, length, take, drop, Option, Some, None, refl, sym, ◌∙◌, ap, subst, inl, inr, append_assoc, append-nil, map-id}
use Rattle.std.specs.Prelude.{Contains, find, option_map, option_and_then}
use Rattle.std.specs.List.{cons_option, filter_map}
use Rattle.std.proofs.lemmas.List.Elements.{filter_map-append}
use Rattle.std.proofs.Math.Seq.{take-append_seam, drop-append_seam}
use Rattle.pa_slot.specs.declared.title.Title.{Title}
use Rattle.pa_region.specs.declared.view.Entry.{Entry}
use Rattle.pa_region.specs.declared.view.Entry.TheVariants.{Counted, Looked, Read, Added, Entered, Uncut}
use Rattle.pa_region.specs.Order.{Stamped, by_stake, OneStep, Logged, Spoiled, logged_among, is_free_of, IsInPlace, AreInPlace}
use Rattle.pa_record.specs.declared.entry.Answer.{Answer}
use Rattle.pa_rules.specs.declared.played.Played.{Played}
use Rattle.pa_rules.specs.Roots.{Journals}
use Rattle.pa_lists.proofs.Elements.{map_tells, map_both, length_same}
use Rattle.pa_lists.proofs.Joined.{map_cases, filter_cases}
use Rattle.pa_lists.proofs.Members.{of_some, not_some}
use Rattle.pa_lists.proofs.Parts.{map_parts}
use Rattle.pa_lists.proofs.Cuts.{none_cons, last_or_within, map_front}
use Rattle.std.proofs.lemmas.Bool.{eqb-true}
use Rattle.pa_logs.specs.Told.{ToldRecord, log_of, is_of_thread}
use Rattle.pa_timeline.specs.Timeline.{Part, Loading, Spoiling, Counting, Moment}
use Rattle.pa_timeline.proofs.Kept.{none_or_some}
use Rattle.pa_timeline.proofs.Places.{moment}
use Rattle.pa_timeline.proofs.Outlined.{stays, stays_of}
use Rattle.pa_step_order.specs.Segments.{part_of}
use Rattle.pa_step_order.proofs.Looks.{look_looks, entered_is}
use Rattle.pa_step_order.proofs.Named.{Named, named_log, log_named, stake_filter, of_thread}
use Rattle.pa_step_order.proofs.Moments.{moment_of, moments_in}
use Rattle.pa_step_order.proofs.Queues.{in_turn, turns_say}

-- ---- entries with stakes

-- the entry of a record, with the stake of its thread
abbrev pub stamped_of : Named → Stamped
stamped_of n = record { stake = n.x.played.thread; entry = n.entry }

-- the entries of the order with their records have the stakes of the order
pub stamps_agree : (ts : List ToldRecord) (all : List Stamped) → ((k : ℕ) → log_of k ts ≡ by_stake k all) →
    map stamped_of (in_turn (λ (m : Stamped). m.stake) (named_log ts) all) ≡ all
stamps_agree ts all logs =
    turns_say (λ (m : Stamped). m.stake) stamped_of (λ (m : Stamped). m) (named_log ts) all
    (λ k. map_tells (λ (m : Stamped). m.entry) (map stamped_of (named_log ts k))
    (map (λ (m : Stamped). m) (filter (λ (m : Stamped). eqb m.stake k) all))
    (λ a b first second same. one_stake k a b (mine k a first) (theirs k b second) same)
    (map_both (λ (m : Stamped). m.entry) stamped_of (named_log ts k) ∙ log_named (filter (is_of_thread k) ts) ∙ logs k ∙ stake_filter k all
    ∙ ap (map (λ (m : Stamped). m.entry)) (sym (map-id (filter (λ (m : Stamped). eqb m.stake k) all)))))
    ∙ map-id all
  where
    one_stake : (k : ℕ) (a b : Stamped) → a.stake ≡ k → b.stake ≡ k → a.entry ≡ b.entry → a ≡ b
    one_stake k a b e f same = ap (λ n. record { stake = n; entry = a.entry }) (e ∙ sym f) ∙
        ap (λ z. record { stake = b.stake; entry = z }) same

    mine : (k : ℕ) (a : Stamped) → Contains (map stamped_of (named_log ts k)) a → a.stake ≡ k
    mine k a among = let (n, there, is) = map_cases stamped_of (named_log ts k) a among in sym (ap (λ (z : Stamped). z.stake) is) ∙
        of_thread ts k n there

    theirs : (k : ℕ) (b : Stamped) → Contains (map (λ (m : Stamped). m) (filter (λ (m : Stamped). eqb m.stake k) all)) b → b.stake ≡ k
    theirs k b among =
        let there = subst (λ zs. Contains zs b) (map-id (filter (λ (m : Stamped). eqb m.stake k) all)) among in
        eqb-true b.stake k (filter_cases (λ (m : Stamped). eqb m.stake k) all b there).1

-- ---- moments

-- what was logged after these steps, with its records, and what up to there
abbrev pub back_at : List Named → List OneStep → List Named
back_at ns older = drop (length (logged_among older)) ns

abbrev pub front_at : List Named → List OneStep → List Named
front_at ns older = take (length (logged_among older)) ns

abbrev pub first : List Named → Option Named
first [] = None
first (n ∷ ns) = Some n

abbrev pub spoiling : ℕ → Named → Moment
spoiling word n = moment n.x.played (Spoiling word)

abbrev pub frees : Title → Named → Bool
frees t n = is_free_of t n.entry

-- the moment that a step after others is
abbrev pub piece : Journals → List Named → OneStep → List OneStep → Option Moment
piece roots ns (Logged m) older = option_and_then (moment_of roots) (first (back_at ns older))
piece roots ns (Spoiled t word) older = option_map (spoiling word) (find (frees t) (back_at ns older))

abbrev pub laid : Journals → List Named → List OneStep → List Moment
laid roots ns [] = []
laid roots ns (s ∷ older) = laid roots ns older ++ cons_option (piece roots ns s older) []

-- ---- where a moment is from

pub cut_laid : (roots : Journals) (ns : List Named) (st : List OneStep) (us vs : List Moment) (m : Moment) → laid roots ns st ≡ us ++
    m ∷ vs →
    (later : List OneStep) × (s : OneStep) × (older : List OneStep) × (st ≡ later ++ s ∷ older) × (us ≡ laid roots ns older) ×
    (piece roots ns s older ≡ Some m)
cut_laid roots ns [] us vs m e = absurd (none_cons us m vs e)
cut_laid roots ns (s ∷ o) us vs m e = elim (none_or_some (piece roots ns s o)) [
  | inl none ↦
      let (later, s', older, cut, front, is) = cut_laid roots ns o us vs m (sym (append-nil (laid roots ns o)) ∙ (rw none at e)) in
      (s ∷ later, s', older, ap (λ z. s ∷ z) cut, front, is)
  | inr (z, some) ↦ elim (last_or_within (laid roots ns o) z us m vs (rw some at e)) [
    | inl (all, is) ↦ ([], s, o, refl, sym all, some ∙ ap Some is)
    | inr (ws, within) ↦
        let (later, s', older, cut, front, is) = cut_laid roots ns o us ws m within in
        (s ∷ later, s', older, ap (λ y. s ∷ y) cut, front, is)
  ]
]

in_place_at : (later : List OneStep) (s : OneStep) (older : List OneStep) → AreInPlace (later ++ s ∷ older) → IsInPlace s older
in_place_at [] s older placed = placed.0
in_place_at (x ∷ later) s older placed = in_place_at later s older placed.1

pub in_place : (st later : List OneStep) (s : OneStep) (older : List OneStep) → st ≡ later ++ s ∷ older → AreInPlace st → IsInPlace s older
in_place st later s older cut placed = in_place_at later s older (subst AreInPlace cut placed)

pub logged_append : (later older : List OneStep) → logged_among (later ++ older) ≡ logged_among older ++ logged_among later
logged_append [] older = sym (append-nil (logged_among older))
logged_append (Logged m ∷ later) older =
    ap (λ z. z ++ m ∷ []) (logged_append later older) ∙ append_assoc (logged_among older) (logged_among later) (m ∷ [])
logged_append (Spoiled t word ∷ later) older = logged_append later older

-- no entry is a poisoning
pub never_spoils : (roots : Journals) (answer : Answer) (entry : Entry) (word : ℕ) → part_of roots answer entry ≡ Some (Spoiling word) → ⊥
never_spoils roots answer (Counted t step found value) word is = let both : Counting ≡ Spoiling word =
    of_some Counting (Spoiling word) is in cc
never_spoils roots answer (Looked t found) word is = let both = look_looks answer (Spoiling word) is in cc
never_spoils roots answer (Read t place value since owned unclean) word is = let both : Loading ≡ Spoiling word =
    of_some Loading (Spoiling word) is in cc
never_spoils roots answer (Added total bytes) word is = not_some (Spoiling word) is
never_spoils roots answer (Entered q made) word is =
    entered_is (λ p. p ≡ Spoiling word → ⊥) (λ e. cc) (λ e. cc) (λ k act e. cc) roots q made.numbers (Spoiling word) is refl
never_spoils roots answer (Uncut t) word is = not_some (Spoiling word) is

pub plain_stays : (x : Played) (part : Part) → ((word : ℕ) → part ≡ Spoiling word → ⊥) → stays_of x part ≡ Some (moment x part)
plain_stays x (Spoiling word) plain = absurd (plain word refl)
plain_stays x part plain = refl

named_stays : (roots : Journals) (n : Named) → filter_map stays (cons_option (moment_of roots n) []) ≡ cons_option (moment_of roots n) []
named_stays roots n = elim (none_or_some (part_of roots n.x.played.answer n.entry)) [
  | inl none ↦ rw none refl
  | inr (part, is) ↦
      let same = plain_stays n.x.played part (λ word e. never_spoils roots n.x.played.answer n.entry word (is ∙ ap Some e)) in
      rw is (ap (λ o. cons_option o []) same)
]

-- ---- what was logged before a step, and after it

module _ (ns : List Named) (steps : List OneStep) (agree : map stamped_of ns ≡ logged_among steps) where
  pub parted : (later older : List OneStep) → steps ≡ later ++ older →
      (map stamped_of (front_at ns older) ≡ logged_among older) × (ns ≡ front_at ns older ++ back_at ns older)
  parted later older cut =
      map_front stamped_of ns (logged_among older) (logged_among later) (agree ∙ ap logged_among cut ∙ logged_append later older)

  -- what was logged right after these steps
  pub record IsNext (m : Stamped) (older : List OneStep) (n : Named) : Type 0 where
    pub stamp : stamped_of n ≡ m
    pub back : back_at ns older ≡ n ∷ back_at ns (Logged m ∷ older)
    pub front : front_at ns (Logged m ∷ older) ≡ front_at ns older ++ n ∷ []
    pub whole : ns ≡ front_at ns older ++ n ∷ back_at ns (Logged m ∷ older)

  pub next_named : (later : List OneStep) (m : Stamped) (older : List OneStep) → steps ≡ later ++ Logged m ∷ older → (n : Named) ×
      IsNext m older n
  next_named later m older cut =
      let all : map stamped_of ns ≡ logged_among older ++ m ∷ logged_among later =
      agree ∙ ap logged_among cut ∙ logged_append later (Logged m ∷ older) ∙
      append_assoc (logged_among older) (m ∷ []) (logged_among later) in
      let (f, n, g, whole, before, is) = map_parts stamped_of ns (logged_among older) m (logged_among later) all in
      let k : length (logged_among older) ≡ length f = length_same stamped_of f (logged_among older) before in
      let one : map stamped_of (f ++ n ∷ []) ≡ logged_among (Logged m ∷ older) = pushed f n before is in
      let k' : length (logged_among (Logged m ∷ older)) ≡ length (f ++ n ∷ []) =
      length_same stamped_of (f ++ n ∷ []) (logged_among (Logged m ∷ older)) one in
      let again : ns ≡ (f ++ n ∷ []) ++ g = whole ∙ sym (append_assoc f (n ∷ []) g) in
      let front : front_at ns older ≡ f = ap (λ i. take i ns) k ∙ ap (take (length f)) whole ∙ take-append_seam f (n ∷ g) in
      let back : back_at ns older ≡ n ∷ g = ap (λ i. drop i ns) k ∙ ap (drop (length f)) whole ∙ drop-append_seam f (n ∷ g) in
      let front' : front_at ns (Logged m ∷ older) ≡ f ++ n ∷ [] = ap (λ i. take i ns) k' ∙ ap (take (length (f ++ n ∷ []))) again ∙
      take-append_seam (f ++ n ∷ []) g in
      let back' : back_at ns (Logged m ∷ older) ≡ g = ap (λ i. drop i ns) k' ∙ ap (drop (length (f ++ n ∷ []))) again ∙
      drop-append_seam (f ++ n ∷ []) g in (
        n,
        record {
          stamp = is;
          back = back ∙ ap (λ z. n ∷ z) (sym back');
          front = front' ∙ ap (λ z. z ++ n ∷ []) (sym front);
          whole = whole ∙ ap (λ z. z ++ n ∷ g) (sym front) ∙ ap (λ z. front_at ns older ++ n ∷ z) (sym back');
        },
      )
    where
      pushed : (f : List Named) (n : Named) → map stamped_of f ≡ logged_among older → stamped_of n ≡ m →
          map stamped_of (f ++ n ∷ []) ≡ logged_among older ++ m ∷ []
      pushed f n before is = map_push f n ∙ ap (λ z. z ++ stamped_of n ∷ []) before ∙ ap (λ z. logged_among older ++ z ∷ []) is
        where
          map_push : (f : List Named) (n : Named) → map stamped_of (f ++ n ∷ []) ≡ map stamped_of f ++ stamped_of n ∷ []
          map_push [] n = refl
          map_push (x ∷ f) n = ap (λ z. stamped_of x ∷ z) (map_push f n)

  -- without the poisonings these are the moments of what was logged
  pub laid_stays : (roots : Journals) (pre st : List OneStep) → steps ≡ pre ++ st →
      filter_map stays (laid roots ns st) ≡ moments_in roots (front_at ns st)
  laid_stays roots pre [] cut = refl
  laid_stays roots pre (Logged m ∷ o) cut =
      let (n, next) = next_named pre m o cut in
      let again = laid_stays roots (pre ++ Logged m ∷ []) o (cut ∙ sym (append_assoc pre (Logged m ∷ []) o)) in
      filter_map-append stays (laid roots ns o) (cons_option (piece roots ns (Logged m) o) [])
      ∙ ap (λ z. z ++ filter_map stays (cons_option (piece roots ns (Logged m) o) [])) again
      ∙ ap (λ z. moments_in roots (front_at ns o) ++
      filter_map stays (cons_option (option_and_then (moment_of roots) (first z)) [])) next.back
      ∙ ap (λ z. moments_in roots (front_at ns o) ++ z) (named_stays roots n)
      ∙ sym (ap (moments_in roots) next.front ∙ filter_map-append (moment_of roots) (front_at ns o) (n ∷ []))
  laid_stays roots pre (Spoiled t word ∷ o) cut =
      let again = laid_stays roots (pre ++ Spoiled t word ∷ []) o (cut ∙ sym (append_assoc pre (Spoiled t word ∷ []) o)) in
      filter_map-append stays (laid roots ns o) (cons_option (piece roots ns (Spoiled t word) o) [])
      ∙ ap (λ z. z ++ filter_map stays (cons_option (piece roots ns (Spoiled t word) o) [])) again
      ∙ ap (λ z. moments_in roots (front_at ns o) ++ z) (none_stays (find (frees t) (back_at ns o))) ∙
      append-nil (moments_in roots (front_at ns o))
    where
      none_stays : (o : Option Named) → filter_map stays (cons_option (option_map (spoiling word) o) []) ≡ []
      none_stays None = refl
      none_stays (Some n) = refl
