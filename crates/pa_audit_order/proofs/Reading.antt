-- The content of a slot and its next free, by the tables of fills and frees.
use Rattle.std.proofs.Common.{◌≡◌, ℕ, ◌+◌, ◌<◌, ◌≤◌, ◌⊎◌, List, get_or, length, Option, Some, refl, sym, ◌∙◌, ap, subst, arith, inl, inr}
use Rattle.std.specs.Prelude.{slice_get}
use Rattle.std.proofs.lemmas.Bool.{cases_lt}
use Rattle.pa_slot.specs.declared.word.SlotName.{SlotName}
use Rattle.pa_slot.specs.Count.{number_of}
use Rattle.pa_trace.specs.declared.script.Op.{Op}
use Rattle.pa_trace.specs.declared.script.Op.TheVariants as ops
use Rattle.pa_record.specs.declared.entry.Seen.{Seen}
use Rattle.pa_record.specs.declared.entry.Answer.{Answer}
use Rattle.pa_record.specs.declared.entry.Answer.TheVariants.{Made, Done}
use Rattle.pa_lists.proofs.Members.{of_some, not_some}
use Rattle.pa_rules.specs.declared.played.Played.{Played}
use Rattle.pa_rules.specs.Contents.{IsMadeAt, IsWrittenAt, IsContent, IsFreedBy, IsNextFree}
use Rattle.pa_rules.specs.RecordDemands.{IsRecord}
use Rattle.pa_lists.proofs.Indexed.{at_in, in_at, none_past, here_is}
use Rattle.pa_audit_records.specs.Keys.{name_key, word_key}
use Rattle.pa_audit_records.proofs.Putting.{same_key}
use Rattle.pa_audit_order.specs.declared.numbers.Kind.{Kind}
use Rattle.pa_audit_order.specs.declared.numbers.Kind.TheVariants.{Fill, Free}
use Rattle.pa_audit_order.specs.Keyed.{HasNoKey, IsGreatest, IsLeast}
use Rattle.pa_audit_order.specs.Numbers.{seen_by, put_by, DoesAt, IsOneAt, AreByNumber}

-- ---- places and keys

pub below_length : (ps : List Played) (i : ℕ) (x : Played) → IsRecord ps i x → i < length ps
below_length ps i x at = elim (cases_lt i (length ps)) [
  | inl less ↦ less
  | inr most ↦ absurd (none_past ps i x most at)
]

knownis : (ps : List Played) (i : ℕ) (d x : Played) → IsRecord ps i x → get_or ps i d ≡ x
knownis ps i d x at = of_some (get_or ps i d) x (sym (here_is ps i d (below_length ps i x at)) ∙ at)

-- a key between two of slot s is one of it
key_within : (s t : SlotName) (a b n : ℕ) → s.start < 4294967296 → t.start < 4294967296 → n < 18446744073709551616
    → b ≤ 18446744073709551616 → word_key s a ≤ word_key t n → word_key t n < word_key s b
    → (t ≡ s) × (a ≤ n) × (n < b)
key_within s t a b n start start' low most from below =
    let names : name_key t ≡ name_key s = omega (arith, low, most, from, below) in
    (same_key t s start' start names, omega (arith, from, names), omega (arith, below, names))

-- the record that the table has at a key between two of slot s
record IsFound (kind : Kind) (ps : List Played) (s : SlotName) (a b q i : ℕ) (d : Played) : Type 0 where
  number : ℕ
  key : word_key s number ≡ q
  from : a ≤ number
  below : number < b
  does : DoesAt kind (get_or ps i d) s number
  here : IsRecord ps i (get_or ps i d)

found_at : (kind : Kind) (ps : List Played) (f : ℕ → Option ℕ) (s : SlotName) (a b q i : ℕ) (d : Played) → s.start < 4294967296
    → b ≤ 18446744073709551616 → AreByNumber kind ps f (length ps) → f q ≡ Some i
    → word_key s a ≤ q → q < word_key s b → IsFound kind ps s a b q i d
found_at kind ps f s a b q i d start most h at from below =
    let (x, t, n, less, here, does, key) = h.hit q i at in
    let (start', low, there) = h.whole i x t n less here does in
    let (slot, low', high) = key_within s t a b n start start' low most (omega (arith, from, key)) (omega (arith, below, key)) in
    let same : x ≡ get_or ps i d = sym (knownis ps i d x here) in
    let does' : DoesAt kind x s n = subst (λ z. DoesAt kind x z n) slot does in
    record {
      number = n;
      key = ap (λ z. word_key z n) (sym slot) ∙ key;
      from = low';
      below = high;
      does = subst (λ z. DoesAt kind z s n) same does';
      here = here_is ps i d less;
    }

-- if there is no key, no record did so
none_at : (kind : Kind) (ps : List Played) (f : ℕ → Option ℕ) (s : SlotName) (low high m j : ℕ) (y : Played)
    → AreByNumber kind ps f (length ps) → HasNoKey f low high → low ≤ word_key s m → word_key s m < high → IsRecord ps j y
    → DoesAt kind y s m → ⊥
none_at kind ps f s low high m j y h none from below at does =
    let (start, small, there) = h.whole j y s m (below_length ps j y at) at does in
    not_some j (sym (none (word_key s m) from below) ∙ there)

-- ---- fills

abbrev IsMaking : Played → SlotName → ℕ → Type 0
IsMaking x s n = (seen : Seen) × (usable : ℕ) × (x.answer ≡ Made seen usable) × (seen.slot ≡ s) × (number_of seen.found.0 ≡ n)

abbrev IsWriting : Played → SlotName → ℕ → ℕ → Type 0
IsWriting x s n value =
    (seen : Seen) × (reg : ℕ) × (x.op ≡ ops.Write reg value) × (x.answer ≡ Done seen) × (seen.slot ≡ s) × (number_of seen.found.0 ≡ n)

making_fills : (x : Played) (s : SlotName) (n : ℕ) → IsMaking x s n → DoesAt Fill x s n
making_fills x s n (seen, usable, answer, slot, number) = (seen, ap (seen_by Fill x.op) answer, slot, number)

writing_fills : (x : Played) (s : SlotName) (n value : ℕ) → IsWriting x s n value → DoesAt Fill x s n
writing_fills x s n value (seen, reg, op, answer, slot, number) =
    (seen, ap (λ o. seen_by Fill o x.answer) op ∙ ap (seen_by Fill (ops.Write reg value)) answer, slot, number)

-- a fill is one or the other, and puts this value
abbrev IsEither : Op → Answer → Seen → Type 0
IsEither op answer seen = ((usable : ℕ) × (answer ≡ Made seen usable) × (put_by op answer ≡ 0)) ⊎
    ((reg value : ℕ) × (op ≡ ops.Write reg value) × (answer ≡ Done seen) × (put_by op answer ≡ value))

made_puts : (op : Op) (seen : Seen) (usable : ℕ) → put_by op (Made seen usable) ≡ 0
made_puts (ops.Alloc reg partition size) seen usable = refl
made_puts (ops.Copy from to) seen usable = refl
made_puts (ops.Reset reg) seen usable = refl
made_puts (ops.Free reg) seen usable = refl
made_puts (ops.Write reg value) seen usable = refl
made_puts (ops.Read reg place) seen usable = refl
made_puts (ops.Swap cell reg) seen usable = refl
made_puts ops.Purge seen usable = refl

either : (op : Op) (answer : Answer) (seen : Seen) → seen_by Fill op answer ≡ Some seen → IsEither op answer seen
either op (Made a usable) seen e = inl (usable, ap (λ z. Made z usable) (of_some a seen e), made_puts op a usable)
either (ops.Write reg value) (Done a) seen e = inr (reg, value, refl, ap Done (of_some a seen e), refl)
either op answer seen e = absurd (not_some seen e)

-- what was made or written at a number is a fill there
made_there : (ps : List Played) (s : SlotName) (m : ℕ) → IsMadeAt ps s m → (j : ℕ) × (y : Played) × IsRecord ps j y × IsMaking y s m
made_there ps s m (y, seen, usable, among, answer, slot, number) = let (j, at) = in_at ps y among in
    (j, y, at, (seen, usable, answer, slot, number))

written_there : (ps : List Played) (s : SlotName) (m value : ℕ) → IsWrittenAt ps s m value →
    (j : ℕ) × (y : Played) × IsRecord ps j y × IsWriting y s m value
written_there ps s m value (y, seen, reg, among, op, answer, slot, number) = let (j, at) = in_at ps y among in
    (j, y, at, (seen, reg, op, answer, slot, number))

-- the slot was filled at no number between
abbrev NoFill : List Played → SlotName → ℕ → ℕ → Type 0
NoFill ps s low high = (m j : ℕ) (y : Played) → low ≤ m → m < high → IsRecord ps j y → DoesAt Fill y s m → ⊥

no_fill : (ps : List Played) (f : ℕ → Option ℕ) (s : SlotName) (low high q : ℕ) → AreByNumber Fill ps f (length ps) →
    HasNoKey f q (word_key s high) → q ≤ word_key s low → NoFill ps s low high
no_fill ps f s low high q h none from m j y least most at does =
    none_at Fill ps f s q (word_key s high) m j y h none (omega (arith, from, least)) (omega (arith, most)) at does

pub content_none : (ps : List Played) (f : ℕ → Option ℕ) (s : SlotName) (k : ℕ) → AreByNumber Fill ps f (length ps) →
    HasNoKey f (word_key s 0) (word_key s k) → IsContent ps s k 0
content_none ps f s k h none =
    let nothing : NoFill ps s 0 k = no_fill ps f s 0 k (word_key s 0) h none (omega arith) in
    inr (
      refl,
      λ n other (written, less, between).
          let (j, y, at, is) = written_there ps s n other written in
          nothing n j y (omega arith) less at (writing_fills y s n other is),
    )

-- the last fill made the slot
content_made : (ps : List Played) (s : SlotName) (k n i : ℕ) (x : Played) → IsOneAt Fill ps → IsRecord ps i x → IsMaking x s n → n < k →
    NoFill ps s (n + 1) k → IsContent ps s k 0
content_made ps s k n i x one here making below nothing = inr (
  refl,
  λ m other (written, less, between).
      let (j, y, at, is) = written_there ps s m other written in
      elim (cases_lt m n) [
        | inl early ↦
            let (seen, usable, answer, slot, number) = making in
            between n (x, seen, usable, at_in ps i x here, answer, slot, number) early below
        | inr late ↦ elim (cases_lt n m) [
          | inl later ↦ nothing m j y (omega (arith, later)) less at (writing_fills y s m other is)
          | inr most ↦
              let same : m ≡ n = omega (arith, late, most) in
              let does : DoesAt Fill y s n = subst (λ z. DoesAt Fill y s z) same (writing_fills y s m other is) in
              let index = one i j x y s n here at (making_fills x s n making) does in
              let known : x ≡ y = of_some x y (sym here ∙ ap (slice_get ps) index ∙ at) in
              let made : Made making.0 making.1 ≡ Done is.0 = sym making.2 ∙ ap (λ (z : Played). z.answer) known ∙ is.3 in
              cc
        ]
      ],
)

-- the last fill wrote it
content_written : (ps : List Played) (s : SlotName) (k n value i : ℕ) (x : Played) → IsRecord ps i x → IsWriting x s n value → n < k →
    NoFill ps s (n + 1) k → IsContent ps s k value
content_written ps s k n value i x here (seen, reg, op, answer, slot, number) below nothing = inl (
  n,
  (
    (x, seen, reg, at_in ps i x here, op, answer, slot, number),
    below,
    λ m made after less. let (j, y, at, is) = made_there ps s m made in
        nothing m j y (omega (arith, after)) less at (making_fills y s m is),
  ),
  λ m other (written, less, between) after.
      let (j, y, at, is) = written_there ps s m other written in
      nothing m j y (omega (arith, after)) less at (writing_fills y s m other is),
)

content_of : (ps : List Played) (s : SlotName) (k n i : ℕ) (x : Played) → IsOneAt Fill ps → IsRecord ps i x → DoesAt Fill x s n → n < k
    → NoFill ps s (n + 1) k → IsContent ps s k (put_by x.op x.answer)
content_of ps s k n i x one here (seen, is, slot, number) below nothing = elim (either x.op x.answer seen is) [
  | inl (usable, answer, zero) ↦
      subst (λ z. IsContent ps s k z) (sym zero) (content_made ps s k n i x one here (seen, usable, answer, slot, number) below nothing)
  | inr (reg, value, op, answer, puts) ↦ subst (λ z. IsContent ps s k z) (sym puts)
      (content_written ps s k n value i x here (seen, reg, op, answer, slot, number) below nothing)
]

pub content_last : (ps : List Played) (f : ℕ → Option ℕ) (s : SlotName) (k q i : ℕ) (d : Played) → IsOneAt Fill ps → s.start < 4294967296 →
    k ≤ 18446744073709551616 → AreByNumber Fill ps f (length ps)
    → IsGreatest f (word_key s 0) (word_key s k) q i → IsContent ps s k (put_by (get_or ps i d).op (get_or ps i d).answer)
content_last ps f s k q i d one start low h last =
    let found = found_at Fill ps f s 0 k q i d start low h last.here last.from last.below in
    let key = found.key in
    content_of ps s k found.number i (get_or ps i d) one found.here found.does found.below
    (no_fill ps f s (found.number + 1) k (q + 1) h last.last (omega (arith, key)))

-- ---- frees

frees_does : (ps : List Played) (s : SlotName) (n : ℕ) (y : Played) → IsFreedBy ps s n y → (j : ℕ) × IsRecord ps j y × DoesAt Free y s n
frees_does ps s n y (among, seen, reg, op, answer, slot, number) =
    let (j, at) = in_at ps y among in
    (j, at, (seen, ap (λ o. seen_by Free o y.answer) op ∙ ap (seen_by Free (ops.Free reg)) answer, slot, number))

does_free : (op : Op) (answer : Answer) (seen : Seen) → seen_by Free op answer ≡ Some seen →
    (reg : ℕ) × (op ≡ ops.Free reg) × (answer ≡ Done seen)
does_free (ops.Free reg) (Done a) seen e = (reg, refl, ap Done (of_some a seen e))
does_free op answer seen e = absurd (not_some seen e)

pub free_least : (ps : List Played) (f : ℕ → Option ℕ) (s : SlotName) (k q i : ℕ) (d : Played) → s.start < 4294967296 →
    AreByNumber Free ps f (length ps)
    → IsLeast f (word_key s k) (word_key s 18446744073709551615 + 1) q i → IsNextFree ps s k (get_or ps i d)
free_least ps f s k q i d start h least =
    let found = found_at Free ps f s k 18446744073709551616 q i d start (omega arith) h least.here least.from
    (let below = least.below in omega (arith, below)) in
    let (seen, is, slot, number) = found.does in
    let (reg, op, answer) = does_free (get_or ps i d).op (get_or ps i d).answer seen is in
    let key = found.key in (
      found.number,
      (at_in ps i (get_or ps i d) found.here, seen, reg, op, answer, slot, number),
      found.from,
      λ m z freed from. elim (cases_lt m found.number) [
        | inl early ↦
            let (j, at, does) = frees_does ps s m z freed in
            absurd (none_at Free ps f s (word_key s k) q m j z h least.first (omega (arith, from)) (omega (arith, early, key)) at does)
        | inr late ↦ late
      ],
    )

pub free_none : (ps : List Played) (f : ℕ → Option ℕ) (s : SlotName) (k : ℕ) (y : Played) → AreByNumber Free ps f (length ps)
    → HasNoKey f (word_key s k) (word_key s 18446744073709551615 + 1) → IsNextFree ps s k y → ⊥
free_none ps f s k y h none (n, freed, from, least) =
    let (j, at, does) = frees_does ps s n y freed in
    let (start, low, there) = h.whole j y s n (below_length ps j y at) at does in
    none_at Free ps f s (word_key s k) (word_key s 18446744073709551615 + 1) n j y h none (omega (arith, from)) (omega (arith, low)) at does

-- ---- there is one content, and one next free

one_record : (kind : Kind) (ps : List Played) (s : SlotName) (n i j : ℕ) (x y : Played) → IsOneAt kind ps → IsRecord ps i x →
    IsRecord ps j y → DoesAt kind x s n → DoesAt kind y s n → x ≡ y
one_record kind ps s n i j x y one at at' does does' = of_some x y (sym at ∙ ap (slice_get ps) (one i j x y s n at at' does does') ∙ at')

one_write : (ps : List Played) (s : SlotName) (n a b : ℕ) → IsOneAt Fill ps → IsWrittenAt ps s n a → IsWrittenAt ps s n b → a ≡ b
one_write ps s n a b one first second =
    let (i, x, at, is) = written_there ps s n a first in
    let (j, y, at', is') = written_there ps s n b second in
    let same = one_record Fill ps s n i j x y one at at' (writing_fills x s n a is) (writing_fills y s n b is') in
    let puts : put_by x.op x.answer ≡ a = ap (λ o. put_by o x.answer) is.2 ∙ ap (put_by (ops.Write is.1 a)) is.3 in
    let puts' : put_by y.op y.answer ≡ b = ap (λ o. put_by o y.answer) is'.2 ∙ ap (put_by (ops.Write is'.1 b)) is'.3 in
    sym puts ∙ ap (λ (z : Played). put_by z.op z.answer) same ∙ puts'

pub one_content : (ps : List Played) (s : SlotName) (k v w : ℕ) → IsOneAt Fill ps → IsContent ps s k v → IsContent ps s k w → v ≡ w
one_content ps s k v w one (inr (zero, none)) (inr (zero', none')) = zero ∙ sym zero'
one_content ps s k v w one (inl (n, there, last)) (inr (zero', none')) = absurd (none' n v there)
one_content ps s k v w one (inr (zero, none)) (inl (n, there, last)) = absurd (none n w there)
one_content ps s k v w one (inl (n, there, last)) (inl (m, there', last')) = elim (cases_lt n m) [
  | inl less ↦ absurd (last m w there' less)
  | inr most ↦ elim (cases_lt m n) [
    | inl less ↦ absurd (last' n v there less)
    | inr least ↦
        let same : m ≡ n = omega (arith, most, least) in
        one_write ps s n v w one there.0 (subst (λ z. IsWrittenAt ps s z w) same there'.0)
  ]
]

pub one_next : (ps : List Played) (s : SlotName) (k : ℕ) (y z : Played) → IsOneAt Free ps →
    IsNextFree ps s k y → IsNextFree ps s k z → y ≡ z
one_next ps s k y z one (n, freed, low, least) (m, freed', low', least') =
    let a : n ≤ m = least m z freed' low' in
    let b : m ≤ n = least' n y freed low in
    let same : m ≡ n = omega (arith, a, b) in
    let (i, at, does) = frees_does ps s n y freed in
    let (j, at', does') = frees_does ps s n z (subst (λ t. IsFreedBy ps s t z) same freed') in
    one_record Free ps s n i j y z one at at' does does'
