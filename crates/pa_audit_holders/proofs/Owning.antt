-- Who holds a free slot at a number, move by move.
use Rattle.std.proofs.Common.{◌≡◌, ℕ, ◌+◌, ◌<◌, ◌≤◌, ◌↔◌, true, false, List, [], ◌∷◌, ◌++◌, get_or, length, Option, Some, None, refl, sym, ◌∙◌, ap, subst, arith, ◌⊎◌, inl, inr}
use Rattle.std.specs.Prelude.{Contains, filter, slice_get}
use Rattle.std.proofs.lemmas.Bool.{cases_eq, cases_lt, ne_eqb}
use Rattle.std.proofs.lemmas.List.{append-nil, get_or_default}
use Rattle.std.proofs.lemmas.Option.{slice_get-get_or, get_or_from_slice_get}
use Rattle.std.proofs.lemmas.List.Elements.{filter-append}
use Rattle.pa_slot.specs.declared.word.SlotName.{SlotName}
use Rattle.pa_slot.specs.Count.{number_of}
use Rattle.pa_slot.specs.Run.{Mark, IsFirstAt, IsRunFrom}
use Rattle.pa_slot.proofs.Runs.{same_slot_cases, same_slot_yes, same_slot_no}
use Rattle.pa_record.specs.declared.numbered.Numbered.{Numbered}
use Rattle.pa_lists.proofs.Members.{not_some, of_some}
use Rattle.pa_rules.specs.declared.played.Played.{Played}
use Rattle.pa_rules.specs.Played.{marks_of}
use Rattle.pa_rules.specs.Order.{IsOfLine}
use Rattle.pa_rules.specs.Holders.{Holder, InRoot, WithThread, Move, is_move_of, IsReturnedBy, IsFirstHolder, HolderAfter, made_by, needed_by}
use Rattle.pa_rules.proofs.ByLines.{same_record}
use Rattle.pa_rules.proofs.Marking.{mark_line}
use Rattle.pa_rules.proofs.Running.{marks_differ, one_mark, same_word}
use Rattle.pa_audit_records.specs.Keys.{word_key}
use Rattle.pa_audit_records.specs.Marks.{IsSized}
use Rattle.pa_audit_records.specs.Tables.{Puts}
use Rattle.pa_audit_records.proofs.Stepping.{records_differ, same_place}
use Rattle.pa_audit_holders.specs.declared.owners.Course.{Course}
use Rattle.pa_audit_holders.specs.declared.owners.Course.TheVariants.{Out, Back}
use Rattle.pa_audit_holders.specs.declared.owners.Owner.{Owner}
use Rattle.pa_audit_holders.specs.declared.owners.Owner.TheVariants.{Nobody, Root, Thread}
use Rattle.pa_audit_holders.specs.Owners.{AreOfRuns, EntersReturn, MoveFits, HasOwners, HasReturned, HasReturns, HasReturnsTo, HolderNow, IsNeeded, TellsOwner, TellsThread, made_owner, move_on, needed_owner, owner_after, way_of}
use Rattle.pa_lists.proofs.Indexed.{in_at}
use Rattle.pa_verdict.proofs.Runs.{same_run}
use Rattle.pa_verdict.proofs.Holding.{own_move}

-- ---- one first holder

returned_one : (ps : List Played) (s : SlotName) (k : ℕ) (x y : Played) → AreOfRuns ps →
    IsReturnedBy ps s k x → IsReturnedBy ps s k y → x ≡ y
returned_one ps s k x y known (among, m, p, is, slot, made, back, number) (among', n, q, is', slot', made', back', number') =
    let ms = marks_of ps in
    let differ = records_differ ps known.rising in
    let (i, at) = in_at ps x among in
    let (j, at') = in_at ps y among' in
    let (vs, run, there, used) = known.slots i x m at is in
    let (ws, run', there', used') = known.slots j y n at' is' in
    let whole : IsRunFrom ms s 0 vs = subst (λ z. IsRunFrom ms z 0 vs) slot run in
    let whole' : IsRunFrom ms s 0 ws = subst (λ z. IsRunFrom ms z 0 ws) slot' run' in
    let one : ws ≡ vs = same_run ms s 0 0 ws vs (marks_differ ps differ) refl whole' whole in
    let numbers : number_of m.found ≡ number_of n.found = omega arith in
    let word = same_word ms s 0 vs m.found n.found whole there (subst (λ zs. Contains (0 ∷ zs) n.found) one there') numbers in
    let first : IsFirstAt ms s m.found m p = subst (λ z. IsFirstAt ms z m.found m p) slot (used p made).0 in
    let second : IsFirstAt ms s n.found n q = subst (λ z. IsFirstAt ms z n.found n q) slot' (used' q made').0 in
    let mark = one_mark ms s n.found m n p q (marks_differ ps differ) (subst (λ z. IsFirstAt ms s z m p) word first) second in
    same_record ps x y differ among among' (sym (mark_line x m is) ∙ ap (λ (z : Mark). z.line) mark ∙ mark_line y n is')

first_one : (ps : List Played) (s : SlotName) (k : ℕ) (h g : Holder) → AreOfRuns ps → IsFirstHolder ps s k h →
    IsFirstHolder ps s k g → h ≡ g
first_one ps s k h g known (inl (none, is)) (inl (none', is')) = is ∙ sym is'
first_one ps s k h g known (inl (none, is)) (inr (x, (among, m, p, of, slot, made, back, number), is')) = absurd (omega arith)
first_one ps s k h g known (inr (x, (among, m, p, of, slot, made, back, number), is)) (inl (none, is')) = absurd (omega arith)
first_one ps s k h g known (inr (x, back, is)) (inr (y, back', is')) =
    is ∙ ap (λ (z : Played). WithThread z.thread) (returned_one ps s k x y known back back') ∙ sym is'

-- ---- one holder

line_one : (ps : List Played) (line : ℕ) (x y : Played) → AreOfRuns ps → IsOfLine ps line x → IsOfLine ps line y → y ≡ x
line_one ps line x y known (among, is) (among', is') = same_record ps y x (records_differ ps known.rising) among' among (is' ∙ sym is)

after_one : (ps : List Played) (h : Holder) (ms : List Move) (a b : Holder) → AreOfRuns ps →
    HolderAfter ps h ms a → HolderAfter ps h ms b → a ≡ b
after_one ps h [] a b known x y = x ∙ sym y
after_one ps h (m ∷ ms) a b known (x, of, to) (y, of', to') =
    after_one ps (made_by m.way x) ms a b known to
    (subst (λ (z : Played). HolderAfter ps (made_by m.way z) ms b) (line_one ps m.line x y known of of') to')

pub holder_one : (ps : List Played) (own : List Move) (s : SlotName) (k : ℕ) (a b : Holder) → AreOfRuns ps → HolderNow ps own s k a →
    HolderNow ps own s k b → a ≡ b
holder_one ps own s k a b known (h, first, to) (g, first', to') =
    after_one ps h own a b known to (subst (λ z. HolderAfter ps z own b) (first_one ps s k g h known first' first) to')

-- one move more
after_more : (ps : List Played) (h mid : Holder) (ms : List Move) (m : Move) (x : Played) → HolderAfter ps h ms mid → IsOfLine ps m.line x →
    HolderAfter ps h (ms ++ m ∷ []) (made_by m.way x)
after_more ps h mid [] m x to of = (x, of, refl)
after_more ps h mid (n ∷ ms) m x (y, of', to) of = (y, of', after_more ps (made_by n.way y) mid ms m x to of)

after_less : (ps : List Played) (h last : Holder) (ms : List Move) (m : Move) → HolderAfter ps h (ms ++ m ∷ []) last →
    (mid : Holder) × HolderAfter ps h ms mid
after_less ps h last [] m to = (h, refl)
after_less ps h last (n ∷ ms) m (y, of, to) = let (mid, to') = after_less ps (made_by n.way y) last ms m to in (mid, (y, of, to'))

after_line : (ps : List Played) (h last : Holder) (ms : List Move) (m : Move) → HolderAfter ps h (ms ++ m ∷ []) last →
    (x : Played) × IsOfLine ps m.line x
after_line ps h last [] m (x, of, to) = (x, of)
after_line ps h last (n ∷ ms) m (y, of, to) = after_line ps (made_by n.way y) last ms m to

-- ---- a move's own moves

other_move : (m : Move) (s : SlotName) (k : ℕ) → (m.slot ≡ s → m.number ≡ k → ⊥) → is_move_of s k m ≡ false
other_move m s k other = elim (same_slot_cases m.slot s) [
  | inl same ↦ rw (same_slot_yes m.slot s same, ne_eqb m.number k (other same)) refl
  | inr apart ↦ rw (same_slot_no m.slot s apart) refl
]

filter_hit : (s : SlotName) (k : ℕ) (ms : List Move) (m : Move) → is_move_of s k m ≡ true →
    filter (is_move_of s k) (ms ++ m ∷ []) ≡ filter (is_move_of s k) ms ++ m ∷ []
filter_hit s k ms m e = filter-append (is_move_of s k) ms (m ∷ []) ∙ ap (λ z. filter (is_move_of s k) ms ++ z) (rw e refl)

filter_miss : (s : SlotName) (k : ℕ) (ms : List Move) (m : Move) → is_move_of s k m ≡ false →
    filter (is_move_of s k) (ms ++ m ∷ []) ≡ filter (is_move_of s k) ms
filter_miss s k ms m e =
    filter-append (is_move_of s k) ms (m ∷ []) ∙ ap (λ z. filter (is_move_of s k) ms ++ z) (rw e refl) ∙
    append-nil (filter (is_move_of s k) ms)

not_empty : (ms : List Move) (m : Move) → ms ++ m ∷ [] ≡ [] → ⊥
not_empty [] m e = cc
not_empty (n ∷ ms) m e = cc

-- ---- what the table tells

moved : (ps : List Played) (own : List Move) (s : SlotName) (k : ℕ) (mid : Holder) (m : Move) (x : Played) → HolderNow ps own s k mid
    → IsOfLine ps m.line x → HolderNow ps (own ++ m ∷ []) s k (made_by m.way x)
moved ps own s k mid m x (h, first, to) of = (h, first, after_more ps h mid own m x to of)

tells_after : (ps : List Played) (own : List Move) (s : SlotName) (k line thread : ℕ) (course : Course) (x : Played) → thread ≡ x.thread
    → HolderNow ps own s k (made_by (way_of course) x) → TellsOwner ps own s k (owner_after course thread)
tells_after ps own s k line thread Out x same now = subst (λ t. HolderNow ps own s k (WithThread t)) (sym same) now
tells_after ps own s k line thread Back x same now = now

owner_moved : (ps : List Played) (own : List Move) (line : ℕ) (thread : Option ℕ) (course : Course) (slot : Numbered) (held : Owner)
    → TellsThread ps line thread → TellsOwner ps own slot.slot slot.number held
    → TellsOwner ps (own ++ move_on line course slot ∷ []) slot.slot slot.number (made_owner held course thread)
owner_moved ps own line thread course slot Nobody of none = λ last (h, first, to). let (mid, to') =
    after_less ps h last own (move_on line course slot) to in none mid (h, first, to')
owner_moved ps own line None course slot Root of now = λ last (h, first, to). let (x, on) =
    after_line ps h last own (move_on line course slot) to in of x on
owner_moved ps own line None course slot (Thread t) of now = λ last (h, first, to). let (x, on) =
    after_line ps h last own (move_on line course slot) to in of x on
owner_moved ps own line (Some thread) course slot Root (x, of, same) now =
    tells_after ps (own ++ move_on line course slot ∷ []) slot.slot slot.number line thread course x same
    (moved ps own slot.slot slot.number InRoot (move_on line course slot) x now of)
owner_moved ps own line (Some thread) course slot (Thread t) (x, of, same) now =
    tells_after ps (own ++ move_on line course slot ∷ []) slot.slot slot.number line thread course x same
    (moved ps own slot.slot slot.number (WithThread t) (move_on line course slot) x now of)

pub owners_more : (ps : List Played) (ms : List Move) (f g : ℕ → Option Owner) (line : ℕ) (thread : Option ℕ) (course : Course)
    (slot : Numbered) (held : Owner) → IsSized slot.slot slot.number → TellsThread ps line thread
    → TellsOwner ps (filter (is_move_of slot.slot slot.number) ms) slot.slot slot.number held →
    Puts f g (word_key slot.slot slot.number) (made_owner held course thread) → HasOwners ps ms f
    → HasOwners ps (ms ++ move_on line course slot ∷ []) g
owners_more ps ms f g line thread course slot held within of tells puts h =
    let m = move_on line course slot in
    let s' = slot.slot in
    let k' = slot.number in
    let grown = filter_hit s' k' ms m (own_move m) in
    record {
      hit = λ s k o sized at. elim (same_place_cases s k) [
        | inl (e, e') ↦
            let one : made_owner held course thread ≡ o =
            of_some (made_owner held course thread) o
            (sym puts.here ∙ ap (λ z. g (word_key z k')) (sym e) ∙ ap (λ z. g (word_key s z)) (sym e') ∙ at) in
            let now : TellsOwner ps (filter (is_move_of s' k') (ms ++ m ∷ [])) s' k' o =
            subst (λ z. TellsOwner ps (filter (is_move_of s' k') (ms ++ m ∷ [])) s' k' z) one
            (subst (λ own. TellsOwner ps own s' k' (made_owner held course thread)) (sym grown)
            (owner_moved ps (filter (is_move_of s' k') ms) line thread course slot held of tells)) in (
              subst (λ z. TellsOwner ps (filter (is_move_of z k) (ms ++ m ∷ [])) z k o) (sym e)
                  (subst (λ z. TellsOwner ps (filter (is_move_of s' z) (ms ++ m ∷ [])) s' z o) (sym e') now),
              λ none. not_empty (filter (is_move_of s' k') ms) m
                  (sym grown ∙ ap (λ z. filter (is_move_of z k') (ms ++ m ∷ [])) (sym e)
                  ∙ ap (λ z. filter (is_move_of s z) (ms ++ m ∷ [])) (sym e') ∙ none),
            )
        | inr apart ↦
            let key : word_key s k ≡ word_key s' k' → ⊥ = λ e. let (a, b) = same_place s s' k k' sized within e in apart a b in
            let stays = filter_miss s k ms m (other_move m s k (λ a b. apart (sym a) (sym b))) in
            let (tells', some) = h.hit s k o sized (sym (puts.other (word_key s k) key) ∙ at) in
            (subst (λ own. TellsOwner ps own s k o) (sym stays) tells', λ none. some (sym stays ∙ none))
      ];
      miss = λ s k sized at. elim (same_place_cases s k) [
        | inl (e, e') ↦
            absurd (not_some (made_owner held course thread)
            (sym at ∙ ap (λ z. g (word_key z k)) e ∙ ap (λ z. g (word_key s' z)) e' ∙ puts.here))
        | inr apart ↦
            let key : word_key s k ≡ word_key s' k' → ⊥ = λ e. let (a, b) = same_place s s' k k' sized within e in apart a b in
            filter_miss s k ms m (other_move m s k (λ a b. apart (sym a) (sym b))) ∙
            h.miss s k sized (sym (puts.other (word_key s k) key) ∙ at)
      ];
    }
  where
    same_place_cases : (s : SlotName) (k : ℕ) → ((s ≡ slot.slot) × (k ≡ slot.number)) ⊎ ((s ≡ slot.slot) → (k ≡ slot.number) → ⊥)
    same_place_cases s k = elim (same_slot_cases s slot.slot) [
      | inl a ↦ elim (cases_eq k slot.number) [ inl b ↦ inl (a, b) | inr c ↦ inr (λ d. c) ]
      | inr c ↦ inr (λ d e. c d)
    ]

-- ---- whether a move has the holder that it needs

needed_tells : (ps : List Played) (own : List Move) (s : SlotName) (k thread : ℕ) (course : Course) (x : Played) → thread ≡ x.thread
    → TellsOwner ps own s k (needed_owner course thread) → HolderNow ps own s k (needed_by (way_of course) x)
needed_tells ps own s k thread Out x same now = now
needed_tells ps own s k thread Back x same now = subst (λ t. HolderNow ps own s k (WithThread t)) same now

thread_of : (s t : ℕ) → WithThread s ≡ WithThread t → s ≡ t
thread_of s t e = cc

held_needed : (ps : List Played) (own : List Move) (s : SlotName) (k thread : ℕ) (course : Course) (x : Played) (held : Owner)
    → AreOfRuns ps → thread ≡ x.thread → TellsOwner ps own s k held → HolderNow ps own s k (needed_by (way_of course) x)
    → held ≡ needed_owner course thread
held_needed ps own s k thread course x Nobody known same none now = absurd (none (needed_by (way_of course) x) now)
held_needed ps own s k thread Out x Root known same tells now = refl
held_needed ps own s k thread Back x Root known same tells now = let e =
    holder_one ps own s k InRoot (WithThread x.thread) known tells now in absurd (cc e)
held_needed ps own s k thread Out x (Thread t) known same tells now = let e =
    holder_one ps own s k (WithThread t) InRoot known tells now in absurd (cc e)
held_needed ps own s k thread Back x (Thread t) known same tells now =
    ap Thread (thread_of t x.thread (holder_one ps own s k (WithThread t) (WithThread x.thread) known tells now) ∙ sym same)

pub fits_is : (ps : List Played) (ms : List Move) (line : ℕ) (thread : Option ℕ) (course : Course) (slot : Numbered) (held : Owner) →
    AreOfRuns ps → TellsThread ps line thread
    → TellsOwner ps (filter (is_move_of slot.slot slot.number) ms) slot.slot slot.number held →
    IsNeeded held course thread ↔ MoveFits ps ms (move_on line course slot)
fits_is ps ms line None course slot held known of tells = (λ none. absurd none, λ (y, on, now). of y on)
fits_is ps ms line (Some thread) course slot held known (x, of, same) tells =
    let own = filter (is_move_of slot.slot slot.number) ms in (
      λ e. (
        x,
        of,
        needed_tells ps own slot.slot slot.number thread course x same
            (subst (λ z. TellsOwner ps own slot.slot slot.number z) e tells),
      ),
      λ (y, of', now). held_needed ps own slot.slot slot.number thread course x held known same tells
          (subst (λ (z : Played). HolderNow ps own slot.slot slot.number (needed_by (way_of course) z))
          (line_one ps line x y known of of') now),
    )

-- ---- before any move

pub first_root : (ps : List Played) (s : SlotName) (k : ℕ) → k ≡ 0 → TellsOwner ps [] s k Root
first_root ps s k none = (InRoot, inl (none, refl), refl)

pub first_thread : (ps : List Played) (at : ℕ → Option ℕ) (s : SlotName) (k t : ℕ) → HasReturns ps at → IsSized s k →
    at (word_key s k) ≡ Some t → TellsOwner ps [] s k (Thread t)
first_thread ps at s k t h sized is = let (x, back, same) = h.hit s k t sized is in
    (WithThread x.thread, inr (x, back, refl), ap WithThread same)

pub first_nobody : (ps : List Played) (at : ℕ → Option ℕ) (s : SlotName) (k : ℕ) → HasReturns ps at → IsSized s k → (k ≡ 0 → ⊥) →
    at (word_key s k) ≡ None → TellsOwner ps [] s k Nobody
first_nobody ps at s k h sized some is last (f, inl (none, e), to) = some none
first_nobody ps at s k h sized some is last (f, inr (x, back, e), to) = h.miss s k x sized is back

-- ---- who returned each slot

pub entered_no_return : (x : Played) (f : ℕ → Option ℕ) → ((s : SlotName) (k : ℕ) → HasReturned x s k → ⊥) → EntersReturn x f f
entered_no_return x f none = record { hit = λ s k t sized at. inl at; kept = λ s k sized at. at; has = λ s k sized back at. none s k back }

pub returns_start : (ps : List Played) (f : ℕ → Option ℕ) → ((q : ℕ) → f q ≡ None) → HasReturnsTo ps 0 f
returns_start ps f none =
    record {
      hit = λ s k t sized at. absurd (not_some t (sym (none (word_key s k)) ∙ at));
      miss = λ s k i x sized at less. absurd (omega (arith, less));
    }

returned_by : (ps : List Played) (s : SlotName) (k : ℕ) (x : Played) → Contains ps x → HasReturned x s k → IsReturnedBy ps s k x
returned_by ps s k x among (m, p, is, slot, made, back, number) = (among, m, p, is, slot, made, back, number)

pub returns_next : (ps : List Played) (f g : ℕ → Option ℕ) (j : ℕ) (d : Played) → j < length ps → HasReturnsTo ps j f →
    EntersReturn (get_or ps j d) f g → HasReturnsTo ps (j + 1) g
returns_next ps f g j d below h more =
    let x = get_or ps j d in
    record {
      hit = λ s k t sized at. elim (more.hit s k t sized at) [
        | inl before ↦ h.hit s k t sized before
        | inr (back, same) ↦ (x, returned_by ps s k x (j, below, get_or_default ps j x d below) back, same)
      ];
      miss = λ s k i y sized at less there back. elim (cases_lt i j) [
        | inl before ↦ h.miss s k i y sized (more.kept s k sized at) before there back
        | inr least ↦
            let place : i ≡ j = omega (arith, less, least) in
            let same : x ≡ y = (get_or_from_slice_get ps j y d (subst (λ n. slice_get ps n ≡ Some y) place there)) in
            more.has s k sized (subst (λ (z : Played). HasReturned z s k) (sym same) back) at
      ];
    }

pub returns_whole : (ps : List Played) (f : ℕ → Option ℕ) (j : ℕ) → length ps ≤ j → HasReturnsTo ps j f → HasReturns ps f
returns_whole ps f j end h = record {
  hit = h.hit;
  miss = λ s k x sized at ((i, below, is), m, p, marked, slot, made, back, number).
      h.miss s k i x sized at (omega (arith, below, end)) (slice_get-get_or ps i x below ∙ ap Some is)
      (m, p, marked, slot, made, back, number);
}
