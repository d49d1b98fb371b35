-- Reading without limits fails in one way: the line is outside the grammar.
use Rattle.std.proofs.Common.{◌≡◌, ℕ, Bool, true, false, cond, eqb, List, [], ◌∷◌, length, take, drop, Option, Some, None, Result, Ok, Err, codes, refl, subst}
use Rattle.std.specs.Prelude.{nat_eq}
use Rattle.std.specs.Cmp.Lexicographic.{pointwise}
use Rattle.pa_text.specs.Reading.{number_at, hexes_at}
use Rattle.pa_trace.specs.declared.field.LineFault.{LineFault}
use Rattle.pa_trace.specs.declared.field.LineFault.TheVariants.{Outside}
use Rattle.pa_trace.specs.declared.script.Line.TheVariants.{Phase, Do}
use Rattle.pa_trace.specs.declared.script.Op.TheVariants.{Alloc, Copy, Reset, Free, Write, Read, Swap, Purge}
use Rattle.pa_trace.specs.Grammar.{tells_plain}
use Rattle.pa_trace.specs.Reading.{◌>>=◌, or_outside, behind, ended, word_in, purge_in}
use Rattle.pa_trace.proofs.Fields.{field_at, one_at, two_at, field_and_word_at}
use Rattle.pa_trace.proofs.Threes.{fields_at, three_at}
use Rattle.pa_trace.proofs.Spelled.{alloc_at, copy_at, reset_at, free_at, write_at, read_at, swap_at, op_at, do_at, line_at, plain_number_at, head_behind_at, head_at, head_with}

-- what fails is outside the grammar
abbrev pub IsShape : {A : Type 0} → Result A LineFault → Type 0
IsShape (Ok x) = Unit {0}
IsShape (Err d) = Outside ≡ d

then_shape : {A B : Type 0} (r : Result A LineFault) (f : A → Result B LineFault) → IsShape r → ((x : A) → IsShape (f x)) →
    IsShape (r >>= f)
then_shape (Ok x) f h g = g x
then_shape (Err d) f h g = h

cond_shape : {A : Type 0} (b : Bool) (x y : Result A LineFault) → IsShape x → IsShape y → IsShape (cond b x y)
cond_shape true x y h g = h
cond_shape false x y h g = g

option_shape : {A : Type 0} (o : Option A) → IsShape (or_outside o)
option_shape None = refl
option_shape (Some x) = tt

behind_shape : (word bytes : List ℕ) → IsShape (behind word bytes)
unfolding behind
behind_shape word bytes =
    cond_shape (pointwise nat_eq (take (length word) bytes) word) (Ok (drop (length word) bytes)) (Err Outside) tt refl

ended_shape : (bytes : List ℕ) → IsShape (ended bytes)
ended_shape bytes = cond_shape (eqb (length bytes) 0) (Ok tt) (Err Outside) tt refl

word_shape : (bytes : List ℕ) → IsShape (word_in bytes)
unfolding word_in
word_shape bytes = option_shape (hexes_at 16 bytes)

field_shape : (word bytes : List ℕ) → IsShape (field_at word bytes)
unfolding field_at
field_shape word bytes =
    then_shape (behind word bytes) (λ rest. or_outside (number_at rest)) (behind_shape word bytes) (λ rest. option_shape (number_at rest))

one_shape : (bytes v : List ℕ) → IsShape (one_at bytes v)
unfolding one_at
one_shape bytes v =
    then_shape (field_at v bytes) (λ a. ended a.1 >>= λ end. Ok a.0) (field_shape v bytes) (λ a.
    then_shape (ended a.1) (λ end. Ok a.0) (ended_shape a.1) (λ end. tt))

two_shape : (bytes v w : List ℕ) → IsShape (two_at bytes v w)
unfolding two_at
two_shape bytes v w =
    then_shape (field_at v bytes) (λ a. field_at w a.1 >>= λ b. ended b.1 >>= λ end. Ok (a.0, b.0)) (field_shape v bytes) (λ a.
    then_shape (field_at w a.1) (λ b. ended b.1 >>= λ end. Ok (a.0, b.0)) (field_shape w a.1) (λ b.
    then_shape (ended b.1) (λ end. Ok (a.0, b.0)) (ended_shape b.1) (λ end. tt)))

fields_shape : (bytes v w y : List ℕ) → IsShape (fields_at bytes v w y)
unfolding fields_at
fields_shape bytes v w y =
    then_shape (field_at v bytes) (λ a. field_at w a.1 >>= λ b. field_at y b.1 >>= λ c. Ok (a.0, b.0, c.0, c.1))
    (field_shape v bytes) (λ a.
    then_shape (field_at w a.1) (λ b. field_at y b.1 >>= λ c. Ok (a.0, b.0, c.0, c.1)) (field_shape w a.1) (λ b.
    then_shape (field_at y b.1) (λ c. Ok (a.0, b.0, c.0, c.1)) (field_shape y b.1) (λ c. tt)))

pub three_shape : (bytes v w y : List ℕ) → IsShape (three_at bytes v w y)
unfolding three_at
three_shape bytes v w y =
    then_shape (fields_at bytes v w y) (λ x. ended x.3 >>= λ end. Ok (x.0, x.1, x.2)) (fields_shape bytes v w y) (λ x.
    then_shape (ended x.3) (λ end. Ok (x.0, x.1, x.2)) (ended_shape x.3) (λ end. tt))

field_and_word_shape : (bytes v : List ℕ) → IsShape (field_and_word_at bytes v)
unfolding field_and_word_at
field_and_word_shape bytes v =
    then_shape (field_at v bytes)
    (λ a. behind (codes " ") a.1 >>= λ rest. word_in rest >>= λ value. ended value.1 >>= λ end. Ok (a.0, value.0)) (field_shape v bytes)
    (λ a.
    then_shape (behind (codes " ") a.1) (λ rest. word_in rest >>= λ value. ended value.1 >>= λ end. Ok (a.0, value.0))
    (behind_shape (codes " ") a.1) (λ rest.
    then_shape (word_in rest) (λ value. ended value.1 >>= λ end. Ok (a.0, value.0)) (word_shape rest) (λ value.
    then_shape (ended value.1) (λ end. Ok (a.0, value.0)) (ended_shape value.1) (λ end. tt))))

op_shape : (bytes : List ℕ) → IsShape (op_at bytes)
unfolding op_at alloc_at copy_at reset_at free_at write_at read_at swap_at purge_in
op_shape [] = refl
op_shape (c ∷ rest) =
    cond_shape (eqb c 65) _ _
    (then_shape (three_at rest (codes " r") (codes " p") (codes " ")) (λ x. Ok (Alloc x.0 x.1 x.2))
    (three_shape rest (codes " r") (codes " p") (codes " ")) (λ x. tt))
    (cond_shape (eqb c 67) _ _
    (then_shape (two_at rest (codes " r") (codes " r")) (λ x. Ok (Copy x.0 x.1)) (two_shape rest (codes " r") (codes " r")) (λ x. tt))
    (cond_shape (eqb c 82) _ _ (then_shape (one_at rest (codes " r")) (λ n. Ok (Reset n)) (one_shape rest (codes " r")) (λ n. tt))
    (cond_shape (eqb c 70) _ _ (then_shape (one_at rest (codes " r")) (λ n. Ok (Free n)) (one_shape rest (codes " r")) (λ n. tt))
    (cond_shape (eqb c 87) _ _
    (then_shape (field_and_word_at rest (codes " r")) (λ x. Ok (Write x.0 x.1)) (field_and_word_shape rest (codes " r")) (λ x. tt))
    (cond_shape (eqb c 68) _ _
    (then_shape (two_at rest (codes " r") (codes " ")) (λ x. Ok (Read x.0 x.1)) (two_shape rest (codes " r") (codes " ")) (λ x. tt))
    (cond_shape (eqb c 88) _ _
    (then_shape (two_at rest (codes " c") (codes " r")) (λ x. Ok (Swap x.0 x.1)) (two_shape rest (codes " c") (codes " r")) (λ x. tt))
    (cond_shape (eqb c 80) _ _ (then_shape (ended rest) (λ end. Ok Purge) (ended_shape rest) (λ end. tt)) refl)))))))

do_shape : (bytes : List ℕ) → IsShape (do_at bytes)
unfolding do_at
do_shape bytes =
    then_shape (or_outside (number_at bytes)) (λ thread. behind (codes " ") thread.1 >>= λ rest. op_at rest >>= λ op. Ok (Do thread.0 op))
    (option_shape (number_at bytes)) (λ thread.
    then_shape (behind (codes " ") thread.1) (λ rest. op_at rest >>= λ op. Ok (Do thread.0 op)) (behind_shape (codes " ") thread.1) (λ rest.
    then_shape (op_at rest) (λ op. Ok (Do thread.0 op)) (op_shape rest) (λ op. tt)))

line_shape : (bytes : List ℕ) → IsShape (line_at bytes)
unfolding line_at
line_shape bytes = cond_shape (pointwise nat_eq bytes (codes "phase")) (Ok Phase) (do_at bytes) tt (do_shape bytes)

plain_shape : (b : Bool) (bytes : List ℕ) → IsShape (plain_number_at b bytes)
unfolding plain_number_at
plain_shape true bytes = one_shape bytes (codes " plain ")
plain_shape false bytes = then_shape (ended bytes) (λ end. Ok 0) (ended_shape bytes) (λ end. tt)

pub head_behind_shape : (version : ℕ) (bytes : List ℕ) → IsShape (head_behind_at version bytes)
unfolding head_behind_at
head_behind_shape version bytes =
    then_shape (fields_at bytes (codes " region ") (codes " partitions ") (codes " threads "))
    (λ x. plain_number_at (tells_plain version) x.3 >>= λ plain. Ok (head_with version x.0 x.1 x.2 plain))
    (fields_shape bytes (codes " region ") (codes " partitions ") (codes " threads ")) (λ x.
    then_shape (plain_number_at (tells_plain version) x.3) (λ plain. Ok (head_with version x.0 x.1 x.2 plain))
    (plain_shape (tells_plain version) x.3) (λ plain. tt))

head_shape : (bytes : List ℕ) → IsShape (head_at bytes)
unfolding head_at
head_shape bytes =
    then_shape (field_at (codes "trace ") bytes) (λ first. head_behind_at first.0 first.1) (field_shape (codes "trace ") bytes)
    (λ first. head_behind_shape first.0 first.1)

pub shape_of : {A : Type 0} (r : Result A LineFault) (d : LineFault) → r ≡ Err d → IsShape r → Outside ≡ d
shape_of {A} r d e h = subst (λ (x : Result A LineFault). IsShape x) e h

pub line_outside : (bytes : List ℕ) (d : LineFault) → line_at bytes ≡ Err d → Outside ≡ d
line_outside bytes d e = shape_of (line_at bytes) d e (line_shape bytes)

pub head_outside : (bytes : List ℕ) (d : LineFault) → head_at bytes ≡ Err d → Outside ≡ d
head_outside bytes d e = shape_of (head_at bytes) d e (head_shape bytes)
