-- What is drawn word by word, and what is appended part by part.
use Rattle.std.proofs.Common.{◌≡◌, ℕ, zero, suc, ◌+◌, ◌-◌, ◌<◌, List, [], ◌∷◌, ◌++◌, length, refl, sym, ap, subst, ◌∙◌, append_assoc, arith}
use Rattle.std.proofs.lemmas.List.{append-nil}
use Rattle.rand_core.specs.Steps.{first_words}
use Rattle.rand_pcg.specs.Lcg.{Lcg}
use Rattle.rand_pcg.specs.Pcg.{pcg32}
use Rattle.pa_trace.specs.declared.script.Line.{Line}
use Rattle.pa_trace.specs.Generated.{parts, phase_before, round_lines, generated_lines}

-- one word more, if some are left
drawn_next : (words all : List ℕ) (n : ℕ) (g : Lcg) → words ++ first_words pcg32 (suc n) g ≡ all
    → (words ++ (pcg32 g).0 ∷ []) ++ first_words pcg32 n (pcg32 g).1 ≡ all
unfolding first_words
drawn_next words all n g e = append_assoc words ((pcg32 g).0 ∷ []) (first_words pcg32 n (pcg32 g).1) ∙ e

pub drawn_more : (words all more : List ℕ) (count k word : ℕ) (g h : Lcg) → k < count → words ++ first_words pcg32 (count - k) g ≡ all
    → (word, h) ≡ pcg32 g → more ≡ words ++ word ∷ [] → more ++ first_words pcg32 (count - (k + 1)) h ≡ all
drawn_more words all more count k word g h lt e step push =
    let next = drawn_next words all (count - (k + 1)) g (subst (λ (n : ℕ). words ++ first_words pcg32 n g ≡ all) (omega arith) e) in
    let here : more ≡ words ++ (pcg32 g).0 ∷ [] = push ∙ ap (λ (x : ℕ × Lcg). words ++ x.0 ∷ []) step in
    ap (λ (x : List ℕ). x ++ first_words pcg32 (count - (k + 1)) h) here
    ∙ ap (λ (x : ℕ × Lcg). (words ++ (pcg32 g).0 ∷ []) ++ first_words pcg32 (count - (k + 1)) x.1) step ∙ next

pub drawn_all : (words all : List ℕ) (n : ℕ) (g : Lcg) → n ≡ 0 → words ++ first_words pcg32 n g ≡ all → words ≡ all
unfolding first_words
drawn_all words all zero g none e = sym (append-nil words) ∙ e
drawn_all words all (suc n) g none e = absurd (omega arith)

-- that many words are drawn
pub drawn_length : (n : ℕ) (g : Lcg) → length (first_words pcg32 n g) ≡ n
unfolding first_words
drawn_length zero g = refl
drawn_length (suc n) g = ap suc (drawn_length n (pcg32 g).1)

-- all parts, and what follows them
pub behind_parts : (part : ℕ → List Line) (n m : ℕ) (old a b last : List Line) → n ≡ m → a ≡ old ++ parts part n → b ≡ a ++ last
    → b ≡ old ++ (parts part m ++ last)
behind_parts part n m old a b last all e f =
    f ∙ ap (λ (x : List Line). x ++ last) e ∙ append_assoc old (parts part n) last ∙ ap (λ (k : ℕ). old ++ (parts part k ++ last)) all

-- one round more
pub round_more : (words seen : List ℕ) (round : ℕ) (old a b : List Line) → seen ≡ words → old ≡ generated_lines words round → a ≡ old ++
    phase_before round
    → b ≡ a ++ round_lines seen round → b ≡ generated_lines words (round + 1)
round_more words seen round old a b same e f g =
    let one : suc round ≡ round + 1 = omega arith in
    g ∙ ap (λ (x : List ℕ). a ++ round_lines x round) same ∙
    ap (λ (x : List Line). x ++ round_lines words round) (f ∙ ap (λ (x : List Line). x ++ phase_before round) e)
    ∙ append_assoc (generated_lines words round) (phase_before round) (round_lines words round) ∙ ap (generated_lines words) one
