-- Links and linked lists: a link leads back to its slot, and what a list of links is after one of them changed.
use Rattle.std.proofs.Common.{◌≡◌, ℕ, zero, suc, ◌+◌, ◌*◌, ◌/◌, ◌%◌, ◌^◌, ◌<◌, List, [], ◌∷◌, ◌++◌, get_or, refl, ◌∙◌, ap, arith}
use Rattle.std.specs.Prelude.{All}
use Rattle.std.specs.Int.{swap_bytes, w64, byte_at, bytes_low_first, to_le_bytes, to_be_bytes, from_be_bytes, from_le_bytes}
use Rattle.std.proofs.lemmas.Nat.{be_bytes_8, from_le_bytes-to_le_bytes_8}
use Rattle.std.proofs.lemmas.List.Elements.{All-head, All-tail}
use Rattle.pa_slot.specs.declared.word.SlotName.{SlotName}
use Rattle.pa_slot.specs.Links.{link_number, linked_name, first_word, front_of, link_to, AreLinked, LinksStay}

pub links_stay : LinksStay
links_stay words others [] same linked = tt
links_stay words others (s ∷ ss) same linked = (
  All-head (λ x. first_word others x ≡ first_word words x) s ss same ∙ linked.0,
  links_stay words others ss (All-tail (λ x. first_word others x ≡ first_word words x) s ss same) linked.1,
)

-- each byte of a number is below 256
bytes_small : (k i n j : ℕ) → get_or (bytes_low_first i k n) j 0 < 256
bytes_small zero i n zero = omega arith
bytes_small zero i n (suc j) = omega arith
bytes_small (suc k) zero n zero = omega arith
bytes_small (suc k) (suc i) n zero = omega arith
bytes_small (suc k) i n (suc j) = bytes_small k (suc i) n j

-- eight bytes in the other order
turned : (a b c d e f g h a' b' c' d' e' f' g' h' : ℕ) →
    h' ∷ g' ∷ f' ∷ e' ∷ d' ∷ c' ∷ b' ∷ a' ∷ [] ≡ a ∷ b ∷ c ∷ d ∷ e ∷ f ∷ g ∷ h ∷ [] →
    a' ∷ b' ∷ c' ∷ d' ∷ e' ∷ f' ∷ g' ∷ h' ∷ [] ≡ h ∷ g ∷ f ∷ e ∷ d ∷ c ∷ b ∷ a ∷ []
turned a b c d e f g h a' b' c' d' e' f' g' h' same = cc

turned_sum : (a b c d e f g h n : ℕ) → from_le_bytes w64 (a ∷ b ∷ c ∷ d ∷ e ∷ f ∷ g ∷ h ∷ []) ≡ n →
    from_be_bytes w64 (h ∷ g ∷ f ∷ e ∷ d ∷ c ∷ b ∷ a ∷ []) ≡ n
turned_sum a b c d e f g h n sum = omega arith

-- a number of eight bytes that is reversed twice is itself
pub swapped_twice : (n : ℕ) → n < 2 ^ 64 → swap_bytes w64 (swap_bytes w64 n) ≡ n
swapped_twice n small =
    let m = swap_bytes w64 n in
    let same : to_be_bytes w64 m ≡ to_le_bytes w64 n = be_bytes_8 (to_le_bytes w64 n) m refl (bytes_small 8 0 n) refl in
    ap (from_be_bytes w64) (turned (byte_at 0 n) (byte_at 1 n) (byte_at 2 n) (byte_at 3 n) (byte_at 4 n) (byte_at 5 n) (byte_at 6 n)
    (byte_at 7 n)
    (byte_at 0 m) (byte_at 1 m) (byte_at 2 m) (byte_at 3 m) (byte_at 4 m) (byte_at 5 m) (byte_at 6 m) (byte_at 7 m) same)
    ∙ turned_sum (byte_at 0 n) (byte_at 1 n) (byte_at 2 n) (byte_at 3 n) (byte_at 4 n) (byte_at 5 n) (byte_at 6 n) (byte_at 7 n) n
    (from_le_bytes-to_le_bytes_8 n small)

-- the two halves of a number
low_half : (low high n : ℕ) → low < 4294967296 → n ≡ low + 4294967296 * high → n % 4294967296 ≡ low
low_half low high n small is = omega arith

high_half : (low high n : ℕ) → low < 4294967296 → n ≡ low + 4294967296 * high → n / 4294967296 ≡ high
high_half low high n small is = omega arith

-- a link leads to its slot
pub linked_back : (s : SlotName) → s.start < 2 ^ 32 → s.born < 2 ^ 32 → linked_name (link_number s) ≡ s
unfolding link_number linked_name
linked_back s start born =
    let whole = swapped_twice (s.start + 4294967296 * s.born) (omega arith) in
    ap (λ n. record { start = n; born = swap_bytes w64 (swap_bytes w64 (s.start + 4294967296 * s.born)) / 4294967296 })
    (low_half s.start s.born _ (omega arith) whole)
    ∙ ap (λ n. record { start = s.start; born = n }) (high_half s.start s.born _ (omega arith) whole)

-- If one slot gets the link to the front of another linked list, and the slots before it and those of that list keep their
-- first words, the slots before it, it, and that list are linked.
pub links_join : (words others : List ℕ) (xs ys zs : List SlotName) (x : SlotName) → AreLinked words (xs ++ x ∷ zs) → AreLinked words ys →
    All (λ s. first_word others s ≡ first_word words s) xs → All (λ s. first_word others s ≡ first_word words s) ys →
    first_word others x ≡ link_to (front_of ys) → AreLinked others (xs ++ x ∷ ys)
links_join words others [] ys zs x linked tail before after here = (here, links_stay words others ys after tail)
links_join words others (s ∷ []) ys zs x linked tail before after here = (
  All-head (λ y. first_word others y ≡ first_word words y) s [] before ∙ linked.0,
  links_join words others [] ys zs x linked.1 tail (All-tail (λ y. first_word others y ≡ first_word words y) s [] before) after here,
)
links_join words others (s ∷ u ∷ xs) ys zs x linked tail before after here = (
  All-head (λ y. first_word others y ≡ first_word words y) s (u ∷ xs) before ∙ linked.0,
  links_join words others (u ∷ xs) ys zs x linked.1 tail (All-tail (λ y. first_word others y ≡ first_word words y) s
      (u ∷ xs) before) after here,
)
