-- The words of a record, taken apart.
use Rattle.std.proofs.Common.{◌≡◌, ℕ, ◌+◌, ◌*◌, ◌/◌, ◌%◌, ◌^◌, ◌<◌, Option, Some, ◌∙◌, ap, subst, arith}
use Rattle.std.specs.Prelude.{IfSome}
use Rattle.pa_buckets.specs.declared.spans.State.{State}
use Rattle.pa_buckets.specs.declared.spans.State.TheVariants as state
use Rattle.pa_spans.specs.declared.span.Span.{Span}
use Rattle.pa_records.specs.Words.{state_number, AreRecordOf}

pub state_small : (a : State) → state_number a < 5
state_small state.None = omega arith
state_small state.Active = omega arith
state_small state.Empty = omega arith
state_small state.Decommitted = omega arith
state_small state.Full = omega arith

-- five numbers in one
first_of : (a b c d e n : ℕ) → a < 256 → n ≡ a + 256 * b + 65536 * c + 4294967296 * d + 281474976710656 * e → n % 256 ≡ a
first_of a b c d e n small is = omega arith

second_of : (a b c d e n : ℕ) → a < 256 → b < 256 → n ≡ a + 256 * b + 65536 * c + 4294967296 * d + 281474976710656 * e → n / 256 % 256 ≡ b
second_of a b c d e n low small is = omega arith

third_of : (a b c d e n : ℕ) → a < 256 → b < 256 → c < 65536 → n ≡ a + 256 * b + 65536 * c + 4294967296 * d + 281474976710656 * e →
    n / 65536 % 65536 ≡ c
third_of a b c d e n low mid small is = omega arith

fourth_of : (a b c d e n : ℕ) → a < 256 → b < 256 → c < 65536 → d < 65536 →
    n ≡ a + 256 * b + 65536 * c + 4294967296 * d + 281474976710656 * e →
    n / 4294967296 % 65536 ≡ d
fourth_of a b c d e n low mid more small is = omega arith

fifth_of : (a b c d e n : ℕ) → a < 256 → b < 256 → c < 65536 → d < 65536 →
    n ≡ a + 256 * b + 65536 * c + 4294967296 * d + 281474976710656 * e →
    n / 281474976710656 ≡ e
fifth_of a b c d e n low mid more small is = omega arith

-- two numbers in one
low_of_two : (a b n : ℕ) → a < 2 ^ 32 → n ≡ a + 4294967296 * b → n % 4294967296 ≡ a
low_of_two a b n small is = omega arith

high_of_two : (a b n : ℕ) → a < 2 ^ 32 → n ≡ a + 4294967296 * b → n / 4294967296 ≡ b
high_of_two a b n small is = omega arith

-- the fields of the span whose record these words are
pub record AreFields (s : Span) (word0 word1 word2 word3 : ℕ) : Type 0 where
  pub class : word0 % 256 ≡ s.class
  pub state : word0 / 256 % 256 ≡ state_number s.state
  pub allocated : word0 / 65536 % 65536 ≡ s.allocated
  pub provisioned : word0 / 4294967296 % 65536 ≡ s.provisioned
  pub committed : word0 / 281474976710656 ≡ s.committed
  pub made : word1 / 4294967296 ≡ s.made
  pub head : word1 % 4294967296 ≡ s.head
  pub previous : word2 % 4294967296 ≡ s.previous
  pub next : word2 / 4294967296 ≡ s.next
  pub turn : word3 ≡ s.turn

pub fields_of : (s : Span) (counts slots neighbours turn : ℕ) → AreRecordOf s counts slots neighbours turn →
    AreFields s counts slots neighbours turn
fields_of s counts slots neighbours turn is =
    let f = is.fits in let n = state_number s.state in
    let small : n < 256 = omega (arith, state_small s.state) in
    let low : s.class < 256 = omega (arith, f.class) in
    record {
      class = first_of s.class n s.allocated s.provisioned s.committed counts low is.counts_are;
      state = second_of s.class n s.allocated s.provisioned s.committed counts low small is.counts_are;
      allocated = third_of s.class n s.allocated s.provisioned s.committed counts low small f.allocated is.counts_are;
      provisioned = fourth_of s.class n s.allocated s.provisioned s.committed counts low small f.allocated f.provisioned is.counts_are;
      committed = fifth_of s.class n s.allocated s.provisioned s.committed counts low small f.allocated f.provisioned is.counts_are;
      made = high_of_two s.head s.made slots f.head is.slots_are;
      head = low_of_two s.head s.made slots f.head is.slots_are;
      previous = low_of_two s.previous s.next neighbours f.previous is.neighbours_are;
      next = high_of_two s.previous s.next neighbours f.previous is.neighbours_are;
      turn = is.turn_is;
    }

-- spans with the same fields
pub same_span : (s u : Span) → s.class ≡ u.class → s.state ≡ u.state → s.allocated ≡ u.allocated → s.provisioned ≡ u.provisioned →
    s.committed ≡ u.committed →
    s.made ≡ u.made → s.head ≡ u.head → s.previous ≡ u.previous → s.next ≡ u.next → s.turn ≡ u.turn → s ≡ u
same_span s u class state allocated provisioned committed made head previous next turn =
    ap (λ (n : ℕ). record s { class = n }) class
    ∙ (ap (λ (a : State). record s { class = u.class; state = a }) state
    ∙ (ap (λ (n : ℕ). record s { class = u.class; state = u.state; allocated = n }) allocated
    ∙ (ap (λ (n : ℕ). record s { class = u.class; state = u.state; allocated = u.allocated; provisioned = n }) provisioned
    ∙ (ap (λ (n : ℕ). record u { committed = n; made = s.made; head = s.head; previous = s.previous; next = s.next; turn = s.turn })
    committed
    ∙ (ap (λ (n : ℕ). record u { made = n; head = s.head; previous = s.previous; next = s.next; turn = s.turn }) made
    ∙ (ap (λ (n : ℕ). record u { head = n; previous = s.previous; next = s.next; turn = s.turn }) head
    ∙ (ap (λ (n : ℕ). record u { previous = n; next = s.next; turn = s.turn }) previous
    ∙ (ap (λ (n : ℕ). record u { next = n; turn = s.turn }) next
    ∙ ap (λ (n : ℕ). record u { turn = n }) turn))))))))

-- the class of a number that has one
pub class_is : {n k : ℕ} (o : Option ℕ) (u : ℕ) → o ≡ Some u → IfSome o (λ c. c ≡ n) → n ≡ k → u ≡ k
class_is {n} {k} o u is some same = subst (λ (p : Option ℕ). IfSome p (λ c. c ≡ n)) is some ∙ same
