-- What a view holds and knows, counted so that the amounts of several views can be added up.
use Rattle.std.specs.Prelude.{ℕ, ◌+◌, ◌-◌, ◌*◌, ◌<◌, ◌⊎◌, List, [], ◌∷◌, ◌++◌, not, ◌==◌, ◌&&◌, ◌||◌, nat_lt, nat_le, length, take, map, min, max, if◌then◌else◌}
use Rattle.std.specs.List.{sum_by}
use Rattle.pa_slot.specs.declared.title.Title.{Title}
use Rattle.pa_slot.specs.declared.title.OwnState.{OwnState}
use Rattle.pa_slot.specs.declared.word.Step.{Step}
use Rattle.pa_slot.specs.declared.word.Step.TheVariants.{Issue, Copy, Reset, Free, Write}
use Rattle.pa_slot.specs.Count.{number_of}
use Rattle.pa_slot.specs.Titles.{same_title, same_state, Covers, IsContentOf}
use Rattle.pa_slot.specs.Holdings.{Piece, RawPiece, FreePiece, OwnPiece, RefPiece, Thing, RawByte, one, held_in}
use Rattle.pa_machine.specs.Events.{State}
use Rattle.pa_region.specs.declared.view.RawRange.{RawRange}
use Rattle.pa_region.specs.declared.view.OwnTitle.{OwnTitle}
use Rattle.pa_region.specs.declared.view.Entry.{Entry}
use Rattle.pa_region.specs.declared.view.Entry.TheVariants.{Counted, Looked, Read, Uncut}
use Rattle.pa_region.specs.declared.view.Stake.{Stake}
use Rattle.pa_region.specs.declared.view.SeenNumber.{SeenNumber}
use Rattle.pa_region.specs.declared.view.View.{View}

-- a raw range as a piece
abbrev pub raw_piece : RawRange → Piece
raw_piece r = RawPiece r.start r.len

-- an Own as a piece
abbrev pub own_piece : OwnTitle → Piece
own_piece o = OwnPiece o.sealed o.title o.state

-- all that a view holds
abbrev pub pieces_of : View → List Piece
pieces_of v = map raw_piece v.raws ++ (map FreePiece v.frees ++ (map own_piece v.owns ++ map RefPiece v.refs))

-- how many times a view holds a thing
abbrev pub held_of_view : View → Thing → ℕ
held_of_view v x = held_in (pieces_of v) x

-- how many times a title is among a view's free titles
abbrev pub free_of : View → Title → ℕ
free_of v t = sum_by (λ u. one (same_title u t)) v.frees

-- how many times a title is among a view's Owns
abbrev pub own_of : View → Title → ℕ
own_of v t = sum_by (λ (o : OwnTitle). one (same_title o.title t)) v.owns

-- how many times a title is among a view's Owns in this state
abbrev pub own_as : View → Title → OwnState → ℕ
own_as v t state = sum_by (λ (o : OwnTitle). one (same_title o.title t && same_state o.state state)) v.owns

-- how many times a title is among a view's Owns in this state that aren't sealed
abbrev pub unsealed_as : View → Title → OwnState → ℕ
unsealed_as v t state = sum_by (λ (o : OwnTitle). one ((same_title o.title t && same_state o.state state) && not o.sealed)) v.owns

-- how many times a title is among a view's sealed Owns
abbrev pub sealed_of : View → Title → ℕ
sealed_of v t = sum_by (λ (o : OwnTitle). one (same_title o.title t && o.sealed)) v.owns

-- how many times a title is among a view's Refs
abbrev pub ref_of : View → Title → ℕ
ref_of v t = sum_by (λ u. one (same_title u t)) v.refs

-- the view holds the title free, or has a handle of it
abbrev pub HasTitle : View → Title → Type 0
HasTitle v t = 0 < free_of v t + own_of v t + ref_of v t

-- the words of the region's bytes: all but the 16 totals words, which are the last
abbrev pub byte_words : List ℕ → List ℕ
byte_words words = take (length words - 16) words

-- the core that words and views show: the words of the bytes, and for each view an actor that holds its pieces
abbrev pub shown : List ℕ → List View → State
shown words views = record { words = byte_words words; holdings = map pieces_of views }

-- The view knows the word with this number: it is raw there, or a word of a title
-- that it holds free, or a content word of its Own.
abbrev pub Knows : View → ℕ → Type 0
Knows v word =
    (0 < held_of_view v (RawByte (8 * word)))
    ⊎ (((t : Title) × (0 < free_of v t) × Covers t (8 * word)) ⊎ ((t : Title) × (0 < own_of v t) × IsContentOf t (8 * word)))

-- how many times a view has the title's Own with the knowledge that no Ref of it is left: it was found so, or the Own is sealed
abbrev pub idle_of : View → Title → ℕ
idle_of v t = sum_by (λ (o : OwnTitle). one (same_title o.title t && (o.idle || o.sealed))) v.owns

-- how many times all views together have the title's Own with the knowledge that no Ref of it is left
abbrev pub idle_in : List View → Title → ℕ
idle_in views t = sum_by (λ v. idle_of v t) views

-- the budgets of all views
abbrev pub budget_in : List View → ℕ
budget_in views = sum_by (λ (v : View). v.budget) views

-- how many of a view's raw ranges have the byte b with a floor of at most n
abbrev pub low_of : View → ℕ → ℕ → ℕ
low_of v b n = sum_by (λ (r : RawRange). one ((nat_le r.start b && nat_lt b (r.start + r.len)) && nat_le r.floor n)) v.raws

-- how many of all views' raw ranges have the byte b with a floor of at most n
abbrev pub low_in : List View → ℕ → ℕ → ℕ
low_in views b n = sum_by (λ v. low_of v b n) views

-- how many times a view has stake number k
abbrev pub stake_of : View → ℕ → ℕ
stake_of v k = sum_by (λ (s : Stake). one (s.number == k)) v.stakes

-- how many times all views together have stake number k
abbrev pub stakes_in : List View → ℕ → ℕ
stakes_in views k = sum_by (λ v. stake_of v k) views

-- the entries in the logs of a view's stakes, each with its weight, added up
abbrev pub logged_of : View → (Entry → ℕ) → ℕ
logged_of v weight = sum_by (λ (s : Stake). sum_by weight s.log) v.stakes

-- the entries of all logs, added up
abbrev pub logged_in : List View → (Entry → ℕ) → ℕ
logged_in views weight = sum_by (λ v. logged_of v weight) views

-- a number for each kind of step, by which kinds are compared
abbrev pub step_number : Step → ℕ
step_number Issue = 0
step_number Copy = 1
step_number Reset = 2
step_number Free = 3
step_number Write = 4

-- the weight 1 for an entry that is a counted step, else 0
abbrev pub counted : Entry → ℕ
counted (Counted u step found value) = 1
counted other = 0

-- the weight 1 for a counted step on this title, else 0
abbrev pub counted_on : Title → Entry → ℕ
counted_on t (Counted u step found value) = one (same_title u t)
counted_on t other = 0

-- the weight 1 for a counted step on this title that found this number, else 0
abbrev pub counted_at : Title → ℕ → Entry → ℕ
counted_at t number (Counted u step found value) = one (same_title u t && (number_of found == number))
counted_at t number other = 0

-- the weight 1 for this step on this title, which found this word, with this value, else 0
abbrev pub counted_as : Title → Step → ℕ → ℕ → Entry → ℕ
counted_as t step word value (Counted u p found written) =
    one (same_title u t && ((step_number p == step_number step) && ((found == word) && (written == value))))
counted_as t step word value other = 0

-- the weight 1 for a look at this title that found this word, else 0
abbrev pub looked_at : Title → ℕ → Entry → ℕ
looked_at t word (Looked u found) = one (same_title u t && (found == word))
looked_at t word other = 0

-- the weight 1 for an entry that names this title, else 0
abbrev pub names : Title → Entry → ℕ
names t (Counted u step found value) = one (same_title u t)
names t (Looked u found) = one (same_title u t)
names t (Read u place value since owned unclean) = one (same_title u t)
names t (Uncut u) = one (same_title u t)
names t other = 0

-- the weight 1 for an entry which says that this title was uncut, else 0
abbrev pub uncuts : Title → Entry → ℕ
uncuts t (Uncut u) = one (same_title u t)
uncuts t other = 0

-- how many times a view's logs say that this title was uncut
abbrev pub uncut_of : View → Title → ℕ
uncut_of v t = logged_of v (uncuts t)

-- how many times all logs say that this title was uncut
abbrev pub uncut_in : List View → Title → ℕ
uncut_in views t = logged_in views (uncuts t)

-- how many times a title is in a view's own list of those that it uncut
abbrev pub undone_of : View → Title → ℕ
undone_of v t = sum_by (λ u. one (same_title u t)) v.uncut

-- how many times a title is in the lists of those that all views uncut
abbrev pub undone_in : List View → Title → ℕ
undone_in views t = sum_by (λ v. undone_of v t) views

-- the greatest number of the title that these notes say was seen, or 0 if none says so
abbrev pub seen_among : Title → List SeenNumber → ℕ
seen_among t [] = 0
seen_among t (s ∷ ss) = if same_title s.title t then max s.number (seen_among t ss) else seen_among t ss

-- the greatest number of the title that a view has seen
abbrev pub seen_of : View → Title → ℕ
seen_of v t = seen_among t v.seen

-- how many of a view's notes say that a greater number of the title was seen
abbrev pub ahead_of : View → Title → ℕ → ℕ
ahead_of v t number = sum_by (λ (s : SeenNumber). one (same_title s.title t && nat_lt number s.number)) v.seen

-- how many notes of all views say that a greater number of the title was seen
abbrev pub ahead_in : List View → Title → ℕ → ℕ
ahead_in views t number = sum_by (λ v. ahead_of v t number) views

-- the number that an entry leaves isn't yet seen by these notes: a look leaves the number that it found,
-- a counted step that number plus 1
abbrev pub unseen_by : List SeenNumber → Entry → ℕ
unseen_by notes (Counted t step found value) = one (nat_lt (seen_among t notes) (number_of found + 1))
unseen_by notes (Looked t found) = one (nat_lt (seen_among t notes) (number_of found))
unseen_by notes other = 0

-- how many entries of a view's own logs it hasn't seen
abbrev pub unseen_of : View → ℕ
unseen_of v = logged_of v (unseen_by v.seen)

-- how many entries are in some view's own logs and unseen by that view
abbrev pub unseen_in : List View → ℕ
unseen_in views = sum_by unseen_of views

-- the least number of these stakes, or 16 if there are none
abbrev pub least_stake : List Stake → ℕ
least_stake [] = 16
least_stake (s ∷ ss) = min s.number (least_stake ss)

-- the view has a stake
abbrev pub HasStake : View → Type 0
HasStake v = least_stake v.stakes < 16

-- the view has every stake
abbrev pub HasEveryStake : View → Type 0
HasEveryStake v = (k : ℕ) → k < 16 → 0 < stake_of v k
