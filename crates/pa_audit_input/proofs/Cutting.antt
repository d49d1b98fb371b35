-- Bytes that are cut line by line.
use Rattle.std.proofs.Common.{◌≡◌, ◌∙◌, ℕ, ◌+◌, ◌-◌, ◌<◌, List, [], ◌∷◌, ◌++◌, length, take, drop, Bool, true, false, eqb, refl, sym, ap, subst, append_assoc, arith}
use Rattle.std.specs.List.{AllByRecursion}
use Rattle.std.specs.Prelude.{◌==◌}
use Rattle.std.specs.List.{starts_with}
use Rattle.std.proofs.Math.Seq.{take-append_seam, drop-append_seam}
use Rattle.std.proofs.lemmas.Bool.{false≢true}
use Rattle.std.proofs.lemmas.Bool.Decides.{Decides-eqb}
use Rattle.std.proofs.lemmas.List.{length-append, append-nil}
use Rattle.std.proofs.lemmas.Slice.Eq.{starts_is}
use Rattle.std.proofs.lemmas.Grind.{flat_map-append}
use Rattle.pa_trace.specs.Cut.{IsOneLine}
use Rattle.pa_trace.specs.Faults.{lines_of}
use Rattle.pa_trace.proofs.Cuts.{cut_lines, last_line, no_lines}
use Rattle.pa_run_reader.specs.declared.item.Item.TheVariants as items
use Rattle.pa_run_reader.proofs.TextLines.{item_lines}
use Rattle.pa_audit_input.specs.Input.{run_line, BeginsRun, IsParted}
use Rattle.pa_audit_input.specs.Cutting.{joined, IsBehindLine, IsCutAt, IsLastCut}
use Rattle.pa_audit_input.proofs.Lined.{lines_taken}

-- after an LF, and after a line that has none
pub behind_cut : (bytes line rest : List ℕ) → IsOneLine line → bytes ≡ line ++ 10 ∷ rest → IsBehindLine bytes rest
behind_cut bytes line rest one e = record {
  line = line ++ 10 ∷ [];
  some = omega (arith, length-append line (10 ∷ []));
  parts = e ∙ sym (append_assoc line (10 ∷ []) rest);
  lines = ap lines_of e ∙ cut_lines line rest one;
}

pub behind_end : (bytes rest : List ℕ) → IsOneLine bytes → 0 < length bytes → rest ≡ [] → IsBehindLine bytes rest
behind_end bytes rest one some none = record {
  line = bytes;
  some = some;
  parts = sym (append-nil bytes) ∙ ap (λ (z : List ℕ). bytes ++ z) (sym none);
  lines = last_line bytes one (λ e. let l : length bytes ≡ 0 = ap length e in omega (arith, l, some))
      ∙ ap (λ (z : List (List ℕ)). bytes ∷ z) (sym (ap lines_of none ∙ no_lines));
}

-- ---- line by line

pub cut_start : (P : List ℕ → Type 0) (bytes : List ℕ) → IsCutAt P bytes bytes 0
cut_start P bytes = record { before = []; parts = refl; lines = refl; each = tt; count = refl; few = omega arith }

all_push : (P : List ℕ → Type 0) (xs : List (List ℕ)) (x : List ℕ) → AllByRecursion P xs → P x → AllByRecursion P (xs ++ x ∷ [])
all_push P [] x h p = (p, tt)
all_push P (y ∷ xs) x h p = (h.0, all_push P xs x h.1 p)

joined_push : (xs : List (List ℕ)) (x : List ℕ) → joined (xs ++ x ∷ []) ≡ joined xs ++ x
joined_push xs x = flat_map-append (λ (z : List ℕ). z) xs (x ∷ []) ∙ ap (λ (z : List ℕ). joined xs ++ z) (append-nil x)

pub cut_next : (P : List ℕ → Type 0) (bytes rest after : List ℕ) (n : ℕ) → IsCutAt P bytes rest n → (b : IsBehindLine rest after) → P b.line
    → IsCutAt P bytes after (n + 1)
cut_next P bytes rest after n c b p =
    let many = length-append c.before (b.line ∷ []) in
    let long = ap length (joined_push c.before b.line) ∙ length-append (joined c.before) b.line in
    let count = c.count in
    let few = c.few in
    let some = b.some in
    record {
      before = c.before ++ b.line ∷ [];
      parts = c.parts ∙ ap (λ (z : List ℕ). joined c.before ++ z) b.parts ∙ sym (append_assoc (joined c.before) b.line after)
          ∙ ap (λ (z : List ℕ). z ++ after) (sym (joined_push c.before b.line));
      lines = c.lines ∙ ap (λ (z : List (List ℕ)). c.before ++ z) b.lines ∙ sym (append_assoc c.before (b.line ∷ []) (lines_of after));
      each = all_push P c.before b.line c.each p;
      count = omega (arith, many, count);
      few = omega (arith, long, few, some);
    }

-- ---- what the tests of the code say

begins_is : (rest : List ℕ) (r : Bool) → r ≡ starts_with eqb rest run_line
    → (r ≡ true → rest ≡ run_line ++ drop 6 rest) × ((w : List ℕ) → rest ≡ run_line ++ w → r ≡ true)
begins_is rest r e = starts_is Decides-eqb rest run_line r e

-- a text with `run 1` at the start, and a text of nothing, begins with the run or has no lines
pub text_begins : (rest w : List ℕ) → rest ≡ run_line ++ w → BeginsRun (lines_of rest)
text_begins rest w e = subst (λ (z : List ℕ). BeginsRun (lines_of z)) (sym e) (subst BeginsRun (sym (item_lines items.Head w)) refl)

pub run_begins : (rest : List ℕ) (r : Bool) → r ≡ starts_with eqb rest run_line → r ≡ true → BeginsRun (lines_of rest)
run_begins rest r e h = text_begins rest (drop 6 rest) ((begins_is rest r e).0 h)

pub empty_is : (rest : List ℕ) (r : Bool) → r ≡ (length rest == 0) → r ≡ true → rest ≡ []
empty_is [] r e h = refl
empty_is (x ∷ rest) r e h = let none : length (x ∷ rest) ≡ 0 =
    (Decides-eqb (length (x ∷ rest)) 0).0 (sym e ∙ h) in absurd (omega (arith, none))

pub none_begins : (rest : List ℕ) (r : Bool) → r ≡ (length rest == 0) → r ≡ true → BeginsRun (lines_of rest)
none_begins rest r e h = subst (λ (z : List (List ℕ)). BeginsRun z) (sym (ap lines_of (empty_is rest r e h) ∙ no_lines)) tt

-- a first line that isn't `run 1`
pub not_run : (rest after : List ℕ) (r : Bool) → r ≡ starts_with eqb rest run_line → r ≡ false →
    (b : IsBehindLine rest after) → b.line ≡ run_line → ⊥
not_run rest after r e h b same =
    false≢true (sym h ∙ (begins_is rest r e).1 after (b.parts ∙ ap (λ (z : List ℕ). z ++ after) same))

-- ---- the bytes before the rest, and the rest

pub front_is : (bytes front a rest : List ℕ) → bytes ≡ a ++ rest → front ≡ take (length bytes - length rest) bytes → front ≡ a
front_is bytes front a rest parts e =
    let long : length bytes ≡ length a + length rest = ap length parts ∙ length-append a rest in
    let count : length bytes - length rest ≡ length a = omega (arith, long) in
    e ∙ ap (λ (k : ℕ). take k bytes) count ∙ ap (λ (z : List ℕ). take (length a) z) parts ∙ take-append_seam a rest

back_is : (bytes back a rest : List ℕ) → bytes ≡ a ++ rest → back ≡ drop (length bytes - length rest) bytes → back ≡ rest
back_is bytes back a rest parts e =
    let long : length bytes ≡ length a + length rest = ap length parts ∙ length-append a rest in
    let count : length bytes - length rest ≡ length a = omega (arith, long) in
    e ∙ ap (λ (k : ℕ). drop k bytes) count ∙ ap (λ (z : List ℕ). drop (length a) z) parts ∙ drop-append_seam a rest

-- the lines of the bytes before the rest
cut_front : (P : List ℕ → Type 0) (bytes rest front : List ℕ) (n : ℕ) → (c : IsCutAt P bytes rest n) →
    front ≡ take (length bytes - length rest) bytes
    → lines_of front ≡ c.before
cut_front P bytes rest front n c e =
    ap lines_of (front_is bytes front (joined c.before) rest c.parts e) ∙ (lines_taken bytes c.before (lines_of rest) c.lines).0

pub cut_count : (P : List ℕ → Type 0) (bytes rest front : List ℕ) (n : ℕ) → IsCutAt P bytes rest n →
    front ≡ take (length bytes - length rest) bytes
    → n ≡ length (lines_of front)
cut_count P bytes rest front n c e = c.count ∙ ap length (sym (cut_front P bytes rest front n c e))

-- if the rest begins with the run, or is none, these are the parts
pub cut_parted : (bytes rest front back : List ℕ) (n : ℕ) → IsCutAt (λ line. line ≡ run_line → ⊥) bytes rest n →
    front ≡ take (length bytes - length rest) bytes
    → back ≡ drop (length bytes - length rest) bytes → BeginsRun (lines_of rest) → IsParted front back bytes
cut_parted bytes rest front back n c e f begins =
    let before = cut_front (λ line. line ≡ run_line → ⊥) bytes rest front n c e in
    let first = front_is bytes front (joined c.before) rest c.parts e in
    let second = back_is bytes back (joined c.before) rest c.parts f in
    record {
      parts = c.parts ∙ ap (λ (z : List ℕ). z ++ rest) (sym first) ∙ ap (λ (z : List ℕ). front ++ z) (sym second);
      lines = c.lines ∙ ap (λ (z : List (List ℕ)). z ++ lines_of rest) (sym before) ∙
          ap (λ (z : List ℕ). lines_of front ++ lines_of z) (sym second);
      before = subst (AllByRecursion (λ line. line ≡ run_line → ⊥)) (sym before) c.each;
      behind = subst (λ (z : List ℕ). BeginsRun (lines_of z)) (sym second) begins;
    }

-- if nothing comes after its line, the rest is the last line
pub last_at : (bytes rest after whole : List ℕ) (n : ℕ) → IsCutAt (λ line. Unit {0}) bytes rest n → IsBehindLine rest after → after ≡ []
    → whole ≡ take (length bytes - length rest) bytes → IsLastCut bytes whole rest n
last_at bytes rest after whole n c b none e =
    let before = cut_front (λ line. Unit {0}) bytes rest whole n c e in
    let first = front_is bytes whole (joined c.before) rest c.parts e in
    let last : rest ≡ b.line = b.parts ∙ ap (λ (z : List ℕ). b.line ++ z) none ∙ append-nil b.line in
    let one : lines_of rest ≡ rest ∷ [] =
    b.lines ∙ ap (λ (z : List (List ℕ)). b.line ∷ z) (ap lines_of none ∙ no_lines) ∙ ap (λ (z : List ℕ). z ∷ []) (sym last) in
    let some = b.some in
    let long = ap length last in
    record {
      parts = c.parts ∙ ap (λ (z : List ℕ). z ++ rest) (sym first);
      whole = c.lines ∙ ap (λ (z : List (List ℕ)). z ++ lines_of rest) (sym before) ∙ ap (λ (z : List (List ℕ)). lines_of whole ++ z) one;
      some = omega (arith, some, long);
      count = cut_count (λ line. Unit {0}) bytes rest whole n c e;
    }
