-- The table lets a seat load, and what a load returns.
use Rattle.std.proofs.Common.{◌≡◌, ℕ, ◌-◌, ◌*◌, ◌/◌, ◌%◌, ◌<◌, List, length, set, get_or, refl, sym, ◌∙◌, ap, subst, arith, ◌⊎◌, inl, inr}
use Rattle.std.specs.Prelude.{slice_index}
use Rattle.std.proofs.lemmas.List.{set-get_or}
use mathlib.Core.Option.{some}
use lib.ListN.{get_elem?}
use Rattle.atomic_table.specs.Table.{Me, Allows, keeps}
use Rattle.atomic_table.specs.Table.{State as TableState}
use Rattle.atomic_table.specs.Seated.{TableId}
use Rattle.atomic_table.proofs.Lists.{set_again}
use Rattle.pa_slot.specs.declared.title.Title.{Title}
use Rattle.pa_slot.specs.Run.{IsFree}
use Rattle.pa_slot.specs.Titles.{Covers, IsWellFormed, content_count, count_place, count_word}
use Rattle.pa_slot.specs.Holdings.{RawByte, IsTitleHeld}
use Rattle.pa_machine.specs.declared.event.Event.TheVariants.{Load}
use Rattle.pa_machine.specs.Events.{IsEnabled, Happens, IsRawWord, IsTitleWord, total_of}
use Rattle.pa_machine.proofs.Parts.{word_covered}
use Rattle.pa_region.specs.declared.view.View.{View}
use Rattle.pa_region.specs.Views.{stake_of, held_of_view, byte_words, shown, free_of, Knows, HasTitle, HasStake}
use Rattle.pa_region.specs.Rule.{IsKept}
use Rattle.pa_region.specs.Moves.{IsFound, after_look}
use Rattle.pa_region.specs.Shares.{IsSeatSound, byte_word_count, IsUser, count_offset}
use Rattle.pa_region.specs.Loads.{after_read, content_offset, IsPlain, CanLoad, ReadTells, LoadTells}
use Rattle.pa_region.proofs.Pieces.{held_within, title_held}
use Rattle.pa_region.proofs.SeatStakes.{SameStakes, stakes_equal}
use Rattle.pa_region.proofs.Entering.{noted_stakes}
use Rattle.pa_region.proofs.Bytes.{bytes_word, held_in_all}
use Rattle.pa_region.proofs.ValuePart.{raw_outside}
use Rattle.pa_region.proofs.Found.{count_found}
use Rattle.pa_region.proofs.LookStep.{look_keeps}
use Rattle.pa_region.proofs.CountEvent.{content_covered, own_known, title_in_core}
use Rattle.pa_region.proofs.Shown.{shown_actor, shown_held}
use Rattle.pa_region.proofs.CountValues.{word_cases}
use Rattle.pa_region.proofs.StoreStep.{raw_below, title_below}
use Rattle.pa_region.proofs.Allowed.{free_held, free_word, free_alone, look_sound, user_held}
use Rattle.pa_region.proofs.ReadStep.{user_in_all, word_read}
use Rattle.pa_region.proofs.ReadKeeps.{value_read, read_keeps}

-- two titles of a view that cover one byte are one
same_cover : (words : List ℕ) (views : List View) (i : ℕ) (v : View) (t u : Title) (b : ℕ) → IsKept words views →
    get_elem? views i ≡ some v →
    HasTitle v t → HasTitle v u → Covers t b → Covers u b → t ≡ u
same_cover words views i v t u b k at_i mine other covers inside =
    k.holders.good.divided.apart t u b (held_in_all words views i v t at_i (title_held v t mine))
    (held_in_all words views i v u at_i (title_held v u other)) covers inside

-- a plain word is no word of a title that the view has a handle of
plain_unused : (at_byte : ℕ) (words : List ℕ) (views : List View) (i : ℕ) (v : View) (t : Title) → IsKept words views →
    get_elem? views i ≡ some v →
    IsPlain v at_byte → Covers t at_byte → IsUser t v → ⊥
plain_unused at_byte words views i v t k at_i (inl raw) covers has =
    let none = raw_outside (byte_words words) (total_of (shown words views)) at_byte t k.holders.good
    (user_in_all words views i v t at_i has) covers in
    let w = held_within words views i v at_i (RawByte at_byte) in
    let r = raw at_byte (omega arith) (omega arith) in
    absurd (omega arith)
plain_unused at_byte words views i v t k at_i (inr free) covers has =
    let has_free = free.1 in
    let same = same_cover words views i v free.0 t at_byte k at_i (omega arith) (omega arith) free.2 covers in
    free_alone t words views i v k at_i (subst (λ (z : Title). 0 < free_of v z) same free.1) has

-- the first byte of a title's word lies in it
count_covered : (words : List ℕ) (views : List View) (t : Title) → IsKept words views → IsTitleHeld (total_of (shown words views)) t →
    Covers t (count_offset t)
count_covered words views t k held =
    word_covered (length (byte_words words)) t (count_place t) (k.holders.good.divided.well t held) (omega arith, omega arith)

place_covered : (words : List ℕ) (views : List View) (t : Title) (place : ℕ) → IsKept words views
    → IsTitleHeld (total_of (shown words views)) t → place < content_count t → Covers t (content_offset t place)
place_covered words views t place k held below =
    (content_covered (length (byte_words words)) t place (k.holders.good.divided.well t held) below).0

-- what a view knows of a plain word
plain_known : (at_byte : ℕ) (words : List ℕ) (views : List View) (i : ℕ) (v : View) → IsKept words views → get_elem? views i ≡ some v →
    at_byte % 8 ≡ 0 → IsPlain v at_byte → slice_index v.words (at_byte / 8) ≡ slice_index (byte_words words) (at_byte / 8)
plain_known at_byte words views i v k at_i aligned plain = k.values.known i (at_byte / 8) v at_i (knows plain)
  where
    here : 8 * (at_byte / 8) ≡ at_byte
    here = omega arith

    knows : IsPlain v at_byte → Knows v (at_byte / 8)
    knows (inl raw) = inl (subst (λ (b : ℕ). 0 < held_of_view v (RawByte b)) (sym here) (raw at_byte (omega arith) (omega arith)))
    knows (inr free) = inr (inl (free.0, free.1, subst (λ (b : ℕ). Covers free.0 b) (sym here) free.2))

-- a word that may be loaded lies in the region
load_below : (at_byte : ℕ) (words : List ℕ) (views : List View) (i : ℕ) (v : View) → IsKept words views → get_elem? views i ≡ some v →
    CanLoad at_byte v → at_byte / 8 < length words - 16
load_below at_byte words views i v k at_i can = go can.1
  where
    go : IsPlain v at_byte ⊎ ((t : Title) × Covers t at_byte × IsUser t v × HasStake v) → at_byte / 8 < length words - 16
    go (inl (inl raw)) = raw_below words views i v at_byte k at_i (raw at_byte (omega arith) (omega arith))
    go (inl (inr free)) = title_below words views free.0 at_byte k
        (held_in_all words views i v free.0 at_i (free_held free.0 v free.1)) free.2
    go (inr user) = title_below words views user.0 at_byte k (user_in_all words views i v user.0 at_i user.2) user.1

-- a load of a plain word
tells_plain : (at_byte : ℕ) (words : List ℕ) (views : List View) (i : ℕ) (v : View) → IsKept words views → get_elem? views i ≡ some v →
    at_byte % 8 ≡ 0 → IsPlain v at_byte → LoadTells at_byte v (slice_index (byte_words words) (at_byte / 8)) v
tells_plain at_byte words views i v k at_i aligned plain = record {
  plain = λ _. (refl, sym (plain_known at_byte words views i v k at_i aligned plain));
  free = λ t at_word free.
      let here : count_word (byte_words words) t ≡ slice_index (byte_words words) (at_byte / 8) =
      ap (λ q. get_or (byte_words words) q 0) (omega arith) in
      subst (λ (n : ℕ). IsFree n × IsFound t n v) here (
        free_word t words views i v k at_i free,
        count_found t words views i v k at_i (free_held t v free),
      );
  look = λ t at_word has.
      absurd (plain_unused at_byte words views i v t k at_i plain
      (subst (λ (b : ℕ). Covers t b) (sym at_word) (count_covered words views t k (user_in_all words views i v t at_i has))) has);
  read = λ t place at_word below has.
      absurd (plain_unused at_byte words views i v t k at_i plain
      (subst (λ (b : ℕ). Covers t b) (sym at_word) (place_covered words views t place k (user_in_all words views i v t at_i has)
      below)) has);
}

-- which is a load in the core that is shown
pub plain_event : (at_byte : ℕ) (words : List ℕ) (views : List View) (i : ℕ) (v : View) → IsKept words views → get_elem? views i ≡ some v →
    at_byte % 8 ≡ 0 → IsPlain v at_byte →
    IsEnabled (Load i at_byte) (shown words views) × Happens (Load i at_byte) (shown words views) (shown words views)
plain_event at_byte words views i v k at_i aligned plain = ((shown_actor words views i v at_i, aligned, core plain), refl)
  where
    core : IsPlain v at_byte → IsRawWord (shown words views) i at_byte ⊎ IsTitleWord (shown words views) i at_byte
    core (inl raw) = inl (λ b low high. let s = shown_held words views i v at_i (RawByte b) in let h = raw b low high in omega arith)
    core (inr free) = let has = free.1 in inr (free.0, free.2, title_in_core words views i v free.0 at_i (omega arith))

-- a look
tells_look : (at_byte : ℕ) (t : Title) (words : List ℕ) (views : List View) (i : ℕ) (v : View) → IsKept words views →
    get_elem? views i ≡ some v →
    at_byte ≡ count_offset t → IsUser t v →
    LoadTells at_byte v (count_word (byte_words words) t) (after_look t (count_word (byte_words words) t) v)
tells_look at_byte t words views i v k at_i at_word mine = record {
  plain = λ plain. absurd (plain_unused at_byte words views i v t k at_i plain covers mine);
  free = λ u at_other free.
      absurd (plain_unused at_byte words views i v t k at_i
      (inr (
        u,
        free,
        subst (λ (b : ℕ). Covers u b) (sym at_other)
            (count_covered words views u k (held_in_all words views i v u at_i (free_held u v free))),
      )) covers mine);
  look = λ u at_other has.
      let same = same_cover words views i v t u at_byte k at_i (omega arith) (omega arith) covers
      (subst (λ (b : ℕ). Covers u b) (sym at_other) (count_covered words views u k (user_in_all words views i v u at_i has))) in
      subst (λ (z : Title). (after_look t (count_word (byte_words words) t) v ≡ after_look z (count_word (byte_words words) t) v) ×
      IsFound z (count_word (byte_words words) t) v) same
      (refl, count_found t words views i v k at_i (user_held t v mine));
  read = λ u place at_other below has.
      let same = same_cover words views i v t u at_byte k at_i (omega arith) (omega arith) covers
      (subst (λ (b : ℕ). Covers u b) (sym at_other) (place_covered words views u place k (user_in_all words views i v u at_i has) below)) in
      let e : content_offset t place ≡ content_offset u place = ap (λ z. content_offset z place) same in
      let n : content_count t ≡ content_count u = ap content_count same in
      absurd (omega arith);
}
  where
    covers : Covers t at_byte
    covers = subst (λ (b : ℕ). Covers t b) (sym at_word) (count_covered words views t k (user_in_all words views i v t at_i mine))

-- what a read's value is
read_tells : (t : Title) (place : ℕ) (words : List ℕ) (views : List View) (i : ℕ) (v : View) → IsKept words views →
    get_elem? views i ≡ some v →
    IsUser t v → HasStake v → place < content_count t → ReadTells t place v (value_read words t place)
read_tells t place words views i v k at_i has stake below = (
  (λ own. sym (own_known words views i v t k at_i own place below)),
  (λ found is low quiet. (word_read words views i v t place k at_i has stake below).freed
      (((k.reads.each_view i v at_i).waits t found is quiet).bit low)),
)

-- a read
tells_read : (at_byte : ℕ) (t : Title) (place : ℕ) (words : List ℕ) (views : List View) (i : ℕ) (v : View) → IsKept words views →
    get_elem? views i ≡ some v →
    at_byte ≡ content_offset t place → place < content_count t → IsUser t v → HasStake v →
    LoadTells at_byte v (value_read words t place) (after_read t place (value_read words t place) v)
tells_read at_byte t place words views i v k at_i at_word inside mine stake = record {
  plain = λ plain. absurd (plain_unused at_byte words views i v t k at_i plain covers mine);
  free = λ u at_other free.
      absurd (plain_unused at_byte words views i v t k at_i
      (inr (
        u,
        free,
        subst (λ (b : ℕ). Covers u b) (sym at_other)
            (count_covered words views u k (held_in_all words views i v u at_i (free_held u v free))),
      )) covers mine);
  look = λ u at_other has.
      let same = same_cover words views i v t u at_byte k at_i (omega arith) (omega arith) covers
      (subst (λ (b : ℕ). Covers u b) (sym at_other) (count_covered words views u k (user_in_all words views i v u at_i has))) in
      let e : count_offset t ≡ count_offset u = ap (λ z. count_offset z) same in
      absurd (omega arith);
  read = λ u other at_other below has.
      let same = same_cover words views i v t u at_byte k at_i (omega arith) (omega arith) covers
      (subst (λ (b : ℕ). Covers u b) (sym at_other) (place_covered words views u other k (user_in_all words views i v u at_i has) below)) in
      let e : content_offset t other ≡ content_offset u other = ap (λ z. content_offset z other) same in
      let places : place ≡ other = omega arith in
      subst (λ (z : Title). (after_read t place (value_read words t place) v ≡ after_read z other (value_read words t place) v) ×
      ReadTells z other v (value_read words t place)) same
      (subst (λ (n : ℕ). (after_read t place (value_read words t place) v ≡ after_read t n (value_read words t place) v) ×
      ReadTells t n v (value_read words t place)) places
      (refl, read_tells t place words views i v k at_i mine stake inside));
}
  where
    covers : Covers t at_byte
    covers = subst (λ (b : ℕ). Covers t b) (sym at_word)
        (place_covered words views t place k (user_in_all words views i v t at_i mine) inside)

-- a view after a load, and that it keeps the rule
load_of : (at_byte : ℕ) (words : List ℕ) (views : List View) (i : ℕ) (v : View) → IsKept words views → get_elem? views i ≡ some v →
    CanLoad at_byte v →
    (w : View) × IsKept words (set views i w) × LoadTells at_byte v (slice_index (byte_words words) (at_byte / 8)) w
load_of at_byte words views i v k at_i can = go can.1
  where
    go : IsPlain v at_byte ⊎ ((t : Title) × Covers t at_byte × IsUser t v × HasStake v) →
        (w : View) × IsKept words (set views i w) × LoadTells at_byte v (slice_index (byte_words words) (at_byte / 8)) w
    go (inl plain) = (
      v,
      subst (λ (vs : List View). IsKept words vs) (sym (set_again views i v at_i)) k,
      tells_plain at_byte words views i v k at_i can.0 plain,
    )
    go (inr user) =
        let t = user.0 in
        let held = user_in_all words views i v t at_i user.2 in
        let well = k.holders.good.divided.well t held in
        let aligned = can.0 in
        let low = user.1.0 in let high = user.1.1 in
        let s1 = well.start_aligned in let s2 = well.len_aligned in let s3 = well.long in
        elim (word_cases (length (byte_words words)) t (at_byte / 8) well (omega arith, omega arith)) [
          | inl e ↦
              let here : count_word (byte_words words) t ≡ slice_index (byte_words words) (at_byte / 8) =
              ap (λ q. get_or (byte_words words) q 0) (sym e) in (
                after_look t (count_word (byte_words words) t) v,
                look_keeps t words views i v k at_i (user_held t v user.2) user.3,
                subst (λ (n : ℕ). LoadTells at_byte v n (after_look t (count_word (byte_words words) t) v)) here
                    (tells_look at_byte t words views i v k at_i (omega arith) user.2),
              )
          | inr c ↦
              let place_is = c.2 in
              let here : value_read words t c.0 ≡ slice_index (byte_words words) (at_byte / 8) =
              ap (λ q. get_or (byte_words words) q 0) (sym c.2) in (
                after_read t c.0 (value_read words t c.0) v,
                read_keeps words views i v t c.0 k at_i user.2 user.3 c.1,
                subst (λ (n : ℕ). LoadTells at_byte v n (after_read t c.0 (value_read words t c.0) v)) here
                    (tells_read at_byte t c.0 words views i v k at_i (omega arith) c.1 user.2 user.3),
              )
        ]

-- whatever the table is, a seat that may load the word may load it
pub load_allowed : (at_byte slots id place : ℕ) (me : Me (Unit {0}) View) → place ≡ at_byte / 8 → CanLoad at_byte me.0 →
    Allows (λ (s : TableState (Unit {0}) View). IsKept s.words s.views) slots id me place (λ n. n)
    (λ word after. LoadTells at_byte me.0 word after.0 × (after.1 ≡ me.1))
load_allowed at_byte slots id place me at_place can s k homes at_id small =
    let m = load_of at_byte s.words s.views id me.0 k at_id can in
    let found : slice_index s.words place ≡ slice_index (byte_words s.words) (at_byte / 8) =
    ap (λ p. get_or s.words p 0) at_place ∙ bytes_word s.words (at_byte / 8) (load_below at_byte s.words s.views id me.0 k at_id can) in
    let unwritten : set s.words place (slice_index s.words place) ≡ s.words = set-get_or s.words place 0 in (
      m.0,
      keeps,
      tt,
      subst (λ (ws : List ℕ). IsKept ws (set s.views id m.0)) (sym unwritten) m.1,
      (subst (λ (n : ℕ). LoadTells at_byte me.0 n m.0) (sym found) m.2, refl),
    )

-- a load leaves what a seat's type keeps
pub load_keeps : (at_byte : ℕ) (region : TableId) (v after : View) (word : ℕ) → CanLoad at_byte v → LoadTells at_byte v word after →
    IsSeatSound region v →
    IsSeatSound region after × SameStakes v after
load_keeps at_byte region v after word can told sound = go can.1
  where
    go : IsPlain v at_byte ⊎ ((t : Title) × Covers t at_byte × IsUser t v × HasStake v) → IsSeatSound region after × SameStakes v after
    go (inl plain) =
        let same = (told.plain plain).0 in
        (subst (λ (w : View). IsSeatSound region w) (sym same) sound, stakes_equal v after (ap (λ (w : View). w.stakes) same))
    go (inr user) =
        let t = user.0 in
        let has = user.2 in
        let well = sound.well t (omega arith) in
        let aligned = can.0 in
        let low = user.1.0 in let high = user.1.1 in
        let s1 = well.start_aligned in let s2 = well.len_aligned in let s3 = well.long in
        elim (word_cases (byte_word_count region) t (at_byte / 8) well (omega arith, omega arith)) [
          | inl e ↦
              let same = (told.look t (omega arith) user.2).0 in (
                subst (λ (w : View). IsSeatSound region w) (sym same) (look_sound region t word v sound),
                λ k. ap (λ (w : View). stake_of w k) same ∙ noted_stakes _ v.stakes k user.3,
              )
          | inr c ↦
              let place_is = c.2 in
              let same = (told.read t c.0 (omega arith) c.1 user.2).0 in (
                subst (λ (w : View). IsSeatSound region w) (sym same)
                    (record { small = sound.small; well = sound.well; raw = sound.raw; long = sound.long }),
                λ k. ap (λ (w : View). stake_of w k) same ∙ noted_stakes _ v.stakes k user.3,
              )
        ]

-- the word that is loaded is one of the region's
pub load_inside : (region table : TableId) (at_byte place : ℕ) (v : View) → region ≡ table → IsSeatSound region v → CanLoad at_byte v →
    place ≡ at_byte / 8 → place < table.words
load_inside region table at_byte place v same sound can e = go can.1
  where
    words_are : region.words ≡ table.words
    words_are = ap (λ (z : TableId). z.words) same

    of_title : (t : Title) → Covers t at_byte → IsWellFormed (byte_word_count region) t → place < table.words
    of_title t covers well = let w = words_are in let a = well.inside in let h = covers.1 in omega arith

    go : IsPlain v at_byte ⊎ ((t : Title) × Covers t at_byte × IsUser t v × HasStake v) → place < table.words
    go (inl (inl raw)) = let w = words_are in let b = sound.raw at_byte (raw at_byte (omega arith) (omega arith)) in omega arith
    go (inl (inr free)) = let has = free.1 in of_title free.0 free.2 (sound.well free.0 (omega arith))
    go (inr user) = let has = user.2 in of_title user.0 user.1 (sound.well user.0 (omega arith))
