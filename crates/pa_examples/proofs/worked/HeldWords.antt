-- Regions with the worked words hold the worked runs.
use Rattle.std.proofs.Common.{◌≡◌, ℕ, zero, suc, ◌+◌, ◌*◌, ◌<◌, ◌≤◌, Bool, true, false, not, None, List, [], ◌∷◌, map, length, refl, sym, ◌∙◌, ap, subst, arith, inl, inr, lit<}
use Rattle.std.specs.Prelude.{Contains, find, slice_index}
use Rattle.std.proofs.lemmas.Bool.{not-true, both_ways, ne_eqb}
use Rattle.pa_slot.specs.declared.title.Title.{Title}
use Rattle.pa_slot.specs.declared.word.SlotName.{SlotName}
use Rattle.pa_slot.specs.Count.{number_of, held_of, refs_of}
use Rattle.pa_slot.specs.Titles.{poison, count_word}
use Rattle.pa_buckets.specs.Table.{rows, row_of, slot_of, pages_of, slots_of}
use Rattle.pa_buckets.specs.Bands.{fill_of}
use Rattle.pa_trace.specs.declared.script.Op.{Op}
use Rattle.pa_trace.specs.declared.script.Op.TheVariants as ops
use Rattle.pa_record.specs.Spans.{Span, name_of}
use Rattle.pa_record.specs.Root.{Root, new_root, root_replayed}
use Rattle.pa_record.specs.Worked.{direct_map_again_pool, direct_map_again_journal}
use Rattle.pa_lists.proofs.Members.{not_in_none}
use Rattle.pa_lists.proofs.Joined.{map_in}
use Rattle.pa_rules.specs.declared.played.Played.{Played}
use Rattle.pa_rules.specs.Played.{marks_of}
use Rattle.pa_rules.specs.Contents.{IsContent, IsWrittenFor}
use Rattle.pa_rules.specs.Report.{HasWord, last_word}
use Rattle.pa_rules.specs.Held.{IsStanding, HasSlot, IsHeldIn}
use Rattle.pa_rules.specs.Worked.{first_slot}
use Rattle.pa_examples.specs.Worked.{direct_map_trace, direct_map_records}
use Rattle.pa_examples.specs.WorkedHeld.{held_trace, held_records, held_journal, held_told, HasWords, WordsAreHeld, direct_map_told, HasMapWords, MapIsHeld}
use Rattle.pa_lists.proofs.Elements.{in_one, passes}
use Rattle.pa_examples.proofs.worked.Slots.{Worded, is_named, are_worded, words_of, run_at}
use Rattle.pa_examples.proofs.worked.Contents.{content_of}
use Rattle.pa_examples.proofs.worked.Maps as maps
use Rattle.pa_examples.proofs.worked.Words.{between, between-length, between-in, between-before, between-past}
use Rattle.pa_buckets.proofs.Facts.{sixteen_bytes}

-- a slot's word is the last one of those that were worked out
word_by : (ps : List Played) (named : List Worded) (s : SlotName) (w : ℕ) → are_worded (marks_of ps) named ≡ true →
    w ≡ last_word 0 (words_of (find (is_named s) named)) → HasWord ps s w
word_by ps named s w worded last =
    (words_of (find (is_named s) named), (run_at (marks_of ps) named s (find (is_named s) named) worded refl).0, last)

-- ---- slots

abbrev root : Root
root = root_replayed held_told.pools held_journal new_root

-- what a span says of its titles: its place, its entry of the pool, its class, and how many were made
abbrev says : Span → ℕ × ℕ × ℕ × ℕ
says s = (s.place, s.born, s.class, s.made)

one_span : map says root.spans ≡ (16384, 0, 0, 256) ∷ []
unfolding rows row_of slot_of pages_of slots_of fill_of
one_span = refl

no_maps : root.maps ≡ []
unfolding rows row_of slot_of pages_of slots_of fill_of
no_maps = refl

-- the slots that exist are 256 of 16 bytes each
abbrev slot_title : ℕ → Title
slot_title n = record { start = 16384 + 16 * n; len = 16; born = 0 }

standing : (t : Title) → IsStanding held_told.pools held_journal t → (n : ℕ) × (t ≡ slot_title n)
standing t (inr member) = absurd (not_in_none t (subst (λ ts. Contains ts t) no_maps member))
standing t (inl (s, among, n, below, is)) =
    let same : (16384, 0, 0, 256) ≡ says s =
    in_one (16384, 0, 0, 256) (says s) (subst (λ zs. Contains zs (says s)) one_span (map_in says root.spans s among)) in
    let title : ℕ × ℕ × ℕ × ℕ → Title = λ z. record { start = z.0 + slot_of z.2 * n; len = slot_of z.2; born = z.1 } in
    (n, is ∙ ap title (sym same) ∙ ap (λ len. record { start = 16384 + len * n; len = len; born = 0 }) sixteen_bytes)

abbrev named : List Worded
named =
    record { slot = record { start = 16384; born = 0 }; words = 0x1000001 ∷ 0x2000001 ∷ [] }
    ∷ record { slot = record { start = 16400; born = 0 }; words = 0x1000001 ∷ 0x2000003 ∷ 0x3000002 ∷ [] }
    ∷ []

worded : are_worded (marks_of held_records) named ≡ true
worded = refl

module _ (words : List ℕ) (w : HasWords words) where
  -- the first slot is live, and was written to at the number 1
  first : HasSlot words held_records (slot_title 0)
  first =
      let s : SlotName = record { start = 16384; born = 0 } in
      let content : IsContent held_records s 2 5 =
      content_of held_records s 1 2 refl 5 (_, first_slot 0x1000001, 0, (1, lit< tt, refl), refl, refl, refl, refl) (lit< tt) in
      record {
        word = word_by held_records named s (slice_index words 2049) worded w.live;
        quarantined = λ is. let free : 1 ≡ 0 = sym (ap held_of w.live) ∙ is.0 in absurd (omega arith);
        live = λ is. (5, subst (λ k. IsContent held_records s (number_of k) 5) (sym w.live) content, λ i from low. one_word i low);
      }
    where
      one_word : (i : ℕ) → i < 1 → slice_index words (2048 + i) ≡ 5
      one_word zero low = w.value
      one_word (suc i) low = absurd (omega arith)

  -- the second was freed while a raw_ptr points to it
  second : HasSlot words held_records (slot_title 1)
  second =
      let s : SlotName = record { start = 16400; born = 0 } in
      record {
        word = word_by held_records named s (slice_index words 2051) worded w.quarantined;
        quarantined = λ is i from low. one_word i low;
        live = λ is. let held : 0 ≡ 1 = sym (ap held_of w.quarantined) ∙ is in absurd (omega arith);
      }
    where
      one_word : (i : ℕ) → i < 1 → slice_index words (2050 + i) ≡ poison
      one_word zero low = w.freed
      one_word (suc i) low = absurd (omega arith)

  -- no other was ever allocated
  other : (n : ℕ) → HasSlot words held_records (slot_title (suc (suc n)))
  other n =
      let t = slot_title (suc (suc n)) in
      let none : find (is_named (name_of t)) named ≡ None = unnamed n in
      let zero_word : count_word words t ≡ 0 = w.others _ (omega arith) in
      record {
        word = word_by held_records named (name_of t) (count_word words t) worded
            (zero_word ∙ ap (λ o. last_word 0 (words_of o)) (sym none));
        quarantined = λ is. let some = is.1 in let free : refs_of (count_word words t) ≡ 0 = ap refs_of zero_word in absurd (omega arith);
        live = λ is. let held : 0 ≡ 1 = sym (ap held_of zero_word) ∙ is in absurd (omega arith);
      }
    where
      unnamed : (n : ℕ) → find (is_named (name_of (slot_title (suc (suc n))))) named ≡ None
      unnamed n = rw (
        ne_eqb 16384 (16384 + 16 * suc (suc n)) (λ e. omega arith),
        ne_eqb 16400 (16384 + 16 * suc (suc n)) (λ e. omega arith),
      ) refl

  slots_held : (n : ℕ) → HasSlot words held_records (slot_title n)
  slots_held zero = first
  slots_held (suc zero) = second
  slots_held (suc (suc n)) = other n

  held_in : IsHeldIn held_trace held_told words
  held_in zero t stands = let (n, is) = standing t stands in subst (λ z. HasSlot words held_records z) (sym is) (slots_held n)
  held_in (suc p) t (inl (s, among, n, below, is)) = absurd (not_in_none s among)
  held_in (suc p) t (inr member) = absurd (not_in_none t member)

-- five words of a region of 262,144
mid : List ℕ
mid = 5 ∷ 0x2000001 ∷ poison ∷ 0x3000002 ∷ []

some_words : (n back : ℕ) → (words : List ℕ) × (length words ≡ n + (4 + back)) ×
    ((i : ℕ) → i < 4 → slice_index words (n + i) ≡ slice_index mid i) × ((i : ℕ) → n + 4 ≤ i → slice_index words i ≡ 0)
unfolding mid
some_words n back = (
  between n mid back,
  between-length n mid back,
  λ i low. between-in n mid back i low,
  λ i past. between-past n mid back i past,
)

there_are : (words : List ℕ) × (length words ≡ 262144) × HasWords words
unfolding mid
there_are =
    let (words, long, here, past) = some_words 2048 260092 in (
      words,
      long,
      record {
        value = here 0 (lit< tt);
        live = here 1 (lit< tt);
        freed = here 2 (lit< tt);
        quarantined = here 3 (lit< tt);
        others = λ i above. past i (omega arith);
      },
    )

pub words_are_held : WordsAreHeld
words_are_held = record { some = there_are; held = held_in }

-- ---- direct maps

abbrev map_root : Root
map_root = root_replayed direct_map_again_pool direct_map_again_journal new_root

abbrev last_map : Title
last_map = record { start = 16384; len = 2002944; born = 5 }

no_spans : map_root.spans ≡ []
no_spans = refl

one_map : map_root.maps ≡ last_map ∷ []
one_map = refl

abbrev is_write : Op → Bool
is_write (ops.Write reg value) = true
is_write op = false

never_written : (s : SlotName) (k n other : ℕ) → IsWrittenFor direct_map_records s k n other → ⊥
never_written s k n value ((p, seen, reg, among, op, is, slot, number), less, since) =
    both_ways _ (not-true _ (passes (λ (x : Played). not (is_write x.op)) direct_map_records p refl among))
    (subst (λ o. is_write o ≡ true) (sym op) refl)

module _ (words : List ℕ) (w : HasMapWords words) where
  map_held : HasSlot words direct_map_records last_map
  map_held =
      let s : SlotName = record { start = 16384; born = 5 } in
      record {
        word = word_by direct_map_records maps.words s (slice_index words 252415) maps.worded w.live;
        quarantined = λ is. let free : 1 ≡ 0 = sym (ap held_of w.live) ∙ is.0 in absurd (omega arith);
        live = λ is. (0, inr (refl, λ n other. never_written s _ n other), λ i from low. w.others (2048 + i) (omega arith) (omega arith));
      }

  map_held_in : IsHeldIn direct_map_trace direct_map_told words
  map_held_in zero t (inl (s, among, n, below, is)) = absurd (not_in_none s (subst (λ ss. Contains ss s) no_spans among))
  map_held_in zero t (inr member) =
      subst (λ z. HasSlot words direct_map_records z) (in_one last_map t (subst (λ ts. Contains ts t) one_map member)) map_held
  map_held_in (suc p) t (inl (s, among, n, below, is)) = absurd (not_in_none s among)
  map_held_in (suc p) t (inr member) = absurd (not_in_none t member)

some_map_words : (n back : ℕ) → (words : List ℕ) × (length words ≡ n + (1 + back)) × (slice_index words (n + 0) ≡ 0x1000001) ×
    ((i : ℕ) → i < n → slice_index words i ≡ 0)
some_map_words n back = (
  between n (0x1000001 ∷ []) back,
  between-length n (0x1000001 ∷ []) back,
  between-in n (0x1000001 ∷ []) back 0 (lit< tt),
  λ i low. between-before n (0x1000001 ∷ []) back i low,
)

there_are_map_words : (words : List ℕ) × (length words ≡ 262144) × HasMapWords words
there_are_map_words =
    let (words, long, here, before) = some_map_words 252415 9728 in
    (words, long, record { live = here; others = λ i from low. before i low })

pub map_is_held : MapIsHeld
map_is_held = record { some = there_are_map_words; held = map_held_in }
