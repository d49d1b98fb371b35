-- Numbers and words at the start of bytes, and how they are read.
use Rattle.std.specs.Prelude.{◌≡◌, ℕ, zero, suc, ◌+◌, ◌-◌, ◌*◌, ◌==◌, ◌&&◌, nat_le, nat_lt, if◌then◌else◌, Bool, false, List, [], ◌∷◌, ◌++◌, Option, Some, None, is_some}
use Rattle.pa_text.specs.Numeral.{IsNumeral}

-- the byte is one of `0` to `9`
abbrev pub is_digit : ℕ → Bool
is_digit d = nat_le 48 d && nat_le d 57

-- the bytes don't begin with a digit
abbrev pub IsStop : List ℕ → Type 0
IsStop [] = Unit {0}
IsStop (c ∷ cs) = is_digit c ≡ false

-- one step that may fail, and then the next
infixl 10 ◌>>=◌
abbrev pub ◌>>=◌ : {A B : Type 0} → Option A → (A → Option B) → Option B
None >>= f = None
(Some x) >>= f = f x

-- all the leading digits of the bytes spell the number n, and the rest follows them
pub record BeginsWith (bytes : List ℕ) (n : ℕ) (rest : List ℕ) : Type 0 where
  pub digits : List ℕ
  pub numeral : IsNumeral n digits
  pub parts : bytes ≡ digits ++ rest
  pub stop : IsStop rest

-- the number if it has 32 bits
abbrev pub fit : ℕ → Option ℕ
fit n = if nat_lt n 4294967296 then Some n else None

-- a number that was read, with its value only if it has 32 bits
abbrev pub fitted : ℕ × List ℕ → Option ℕ × List ℕ
fitted x = (fit x.0, x.1)

-- the first digit, and the bytes after it
abbrev pub digit_at : List ℕ → Option (ℕ × List ℕ)
digit_at [] = None
digit_at (c ∷ cs) = if is_digit c then Some (c - 48, cs) else None

-- the number that the leading digits spell behind digits that were read already and spelled n, and the bytes after them
unfoldable pub digits_from : ℕ → List ℕ → ℕ × List ℕ
digits_from n [] = (n, [])
digits_from n (c ∷ cs) = if is_digit c then digits_from (10 * n + (c - 48)) cs else (n, c ∷ cs)

-- the number at the start and the bytes after it, if there is one: a `0` before a digit is no number
unfoldable pub number_at : List ℕ → Option (ℕ × List ℕ)
number_at bytes = do
  first ← digit_at bytes
  if first.0 == 0 && is_some (digit_at first.1) then None else Some (digits_from first.0 first.1)

-- the value of a hexadecimal digit, one of `0` to `9` and `a` to `f`
abbrev pub hex_value : ℕ → Option ℕ
hex_value c = if is_digit c then Some (c - 48) else (if nat_le 97 c && nat_le c 102 then Some (c - 87) else None)

-- the first hexadecimal digit, and the bytes after it
abbrev pub hex_at : List ℕ → Option (ℕ × List ℕ)
hex_at [] = None
hex_at (c ∷ cs) = do
  digit ← hex_value c
  Some (digit, cs)

-- the number that the first k bytes spell, each a hexadecimal digit, and the bytes after them
unfoldable pub hexes_at : ℕ → List ℕ → Option (ℕ × List ℕ)
hexes_at zero bytes = Some (0, bytes)
hexes_at (suc k) bytes = do
  front ← hexes_at k bytes
  digit ← hex_at front.1
  Some (16 * front.0 + digit.0, digit.1)
