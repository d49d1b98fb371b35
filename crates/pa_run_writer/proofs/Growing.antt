-- Lists of lines, and of journals, that get one more.
use Rattle.std.proofs.Common.{◌≡◌, ℕ, zero, suc, ◌+◌, ◌<◌, List, [], ◌∷◌, ◌++◌, length, get_or, map, refl, sym, ap, ◌∙◌, append_assoc, add-zero, zero-add, add-one, take, drop, drop-cons, Result, Ok, Err, OnOk, OnErr, replicate, arith}
use Rattle.std.proofs.Math.ListN.{set}
use Rattle.std.proofs.lemmas.List.{append-nil, length-append, length-map, length-replicate, map-append, map-set, replicate-append-replicate, take_more}
use Rattle.std.specs.List.{AllByRecursion}
use Rattle.pa_record.specs.declared.root.RootEntry.{RootEntry}
use Rattle.pa_record.specs.Bits.{RootInBits}
use Rattle.pa_record.specs.Text.{lines_from, root_text, journal_text}
use Rattle.pa_run_writer.specs.Lines.{OneJournal, AreFrom, IsJournalText}
use Rattle.pa_lists.proofs.Elements.{all_more}

-- the lines of one more
lines_more : {X : Type 0} (f : ℕ → X → List ℕ) (n : ℕ) (xs : List X) (x : X) → lines_from f n (xs ++ x ∷ []) ≡ lines_from f n xs ++
    f (n + length xs) x
lines_more f n [] x = append-nil (f n x) ∙ ap (λ k. f k x) (sym (add-zero n))
lines_more f n (y ∷ ys) x =
    let place : n + 1 + length ys ≡ n + length (y ∷ ys) = omega arith in
    ap (λ (w : List ℕ). f n y ++ w) (lines_more f (n + 1) ys x) ∙
    sym (append_assoc (f n y) (lines_from f (n + 1) ys) (f (n + 1 + length ys) x))
    ∙ ap (λ k. (f n y ++ lines_from f (n + 1) ys) ++ f k x) place

-- the text of a journal with one entry more
pub one_more : (p len : ℕ) (es more : List RootEntry) (e : RootEntry) (bytes bytes' : List ℕ) →
    IsJournalText (record { partition = p; entries = es }) len bytes → RootInBits e
    → more ≡ es ++ e ∷ [] → bytes' ≡ bytes ++ root_text p len e → IsJournalText (record { partition = p; entries = more }) (len + 1) bytes'
one_more p len es more e bytes bytes' h fits is told =
    let all : AllByRecursion RootInBits (es ++ e ∷ []) = all_more RootInBits es e h.fits fits in
    let text : bytes' ≡ journal_text p (es ++ e ∷ []) =
    told ∙ ap (λ (w : List ℕ). w ++ root_text p len e) h.text ∙
    ap (λ k. journal_text p es ++ root_text p k e) (sym h.count ∙ sym (zero-add (length es))) ∙ sym (lines_more (root_text p) 0 es e) in
    record {
      fits = rw is all;
      count = ap (λ (z : List RootEntry). length z) is ∙ omega (arith, h.count, length-append es (e ∷ []));
      text = rw is text;
    }

-- the index of a journal determines its partition
pub from_at : (p i : ℕ) (js : List OneJournal) (d : OneJournal) → AreFrom p js → i < length js → (get_or js i d).partition ≡ p + i
from_at p i [] d h low = absurd (omega arith)
from_at p zero (j ∷ js) d h low = h.0 ∙ sym (add-zero p)
from_at p (suc i) (j ∷ js) d h low = from_at (p + 1) i js d h.1 (omega arith) ∙ omega arith

-- a journal of the same partition in a journal's place
pub from_set : (p i : ℕ) (js : List OneJournal) (j : OneJournal) → AreFrom p js → j.partition ≡ p + i → AreFrom p (set js i j)
from_set p i [] j h is = tt
from_set p zero (k ∷ js) j h is = (is ∙ add-zero p, h.1)
from_set p (suc i) (k ∷ js) j h is = (h.0, from_set (p + 1) i js j h.1 (is ∙ omega arith))

-- a journal more
pub from_more : (p : ℕ) (js : List OneJournal) (j : OneJournal) → AreFrom p js → j.partition ≡ p + length js → AreFrom p (js ++ j ∷ [])
from_more p [] j h is = (is ∙ add-zero p, tt)
from_more p (k ∷ js) j h is = (h.0, from_more (p + 1) js j h.1 (is ∙ omega arith))

-- the entries of a journal, by where it is
pub entries_at : (js : List OneJournal) (i : ℕ) (d : OneJournal) → i < length js →
    get_or (map (λ (j : OneJournal). j.entries) js) i [] ≡ (get_or js i d).entries
entries_at [] i d low = absurd (omega arith)
entries_at (j ∷ js) zero d low = refl
entries_at (j ∷ js) (suc i) d low = entries_at js i d (omega arith)

-- the entries of the journals, if one of them has others now
pub entries_set : (js : List OneJournal) (now : List (List RootEntry)) (i : ℕ) (j : OneJournal) (es : List RootEntry) →
    map (λ (j : OneJournal). j.entries) js ≡ now → j.entries ≡ es
    → map (λ (j : OneJournal). j.entries) (set js i j) ≡ set now i es
entries_set js now i j es is has = map-set (λ (j : OneJournal). j.entries) js i j ∙
    ap (λ (z : List (List RootEntry)). set z i j.entries) is ∙ ap (λ (z : List RootEntry). set now i z) has

-- journals with no entries, and one more
pub none_more : (n : ℕ) (js : List OneJournal) (j : OneJournal) → map (λ (j : OneJournal). j.entries) js ≡ replicate n [] → j.entries ≡ []
    → map (λ (j : OneJournal). j.entries) (js ++ j ∷ []) ≡ replicate (n + 1) []
none_more n js j h none =
    map-append (λ (j : OneJournal). j.entries) js (j ∷ []) ∙ ap (λ (z : List (List RootEntry)). z ++ j.entries ∷ []) h
    ∙ ap (λ (z : List RootEntry). replicate n [] ++ z ∷ []) none ∙ replicate-append-replicate n 1 []

pub none_count : (n : ℕ) (js : List OneJournal) → map (λ (j : OneJournal). j.entries) js ≡ replicate n [] → length js ≡ n
none_count n js h = sym (length-map js (λ (j : OneJournal). j.entries)) ∙ ap (λ (z : List (List RootEntry)). length z) h ∙
    length-replicate n []

-- what follows from an outcome
pub ok_then : {X E : Type 0} (P Q : Type 0) (r : Result X E) → (P → Q) → OnOk r P → OnOk r Q
ok_then P Q (Ok x) f h = f h
ok_then P Q (Err e) f h = tt

pub err_then : {X E : Type 0} (P Q : Type 0) (r : Result X E) → (P → Q) → OnErr r P → OnErr r Q
err_then P Q (Ok x) f h = tt
err_then P Q (Err e) f h = f h

-- the lines that are left, from a journal on
pub lines_left : (i : ℕ) (js : List OneJournal) (j : OneJournal) → i < length js → j ≡ get_or js i j
    → lines_from journal_text i (map (λ (j : OneJournal). j.entries) (drop i js)) ≡ journal_text i j.entries ++
    lines_from journal_text (i + 1) (map (λ (j : OneJournal). j.entries) (drop (i + 1) js))
lines_left i js j low is =
    let cut : drop i js ≡ j ∷ drop (i + 1) js = drop-cons js i j low ∙ ap (λ (z : OneJournal). z ∷ drop (suc i) js) (sym is) ∙
    ap (λ k. j ∷ drop k js) (sym (add-one i)) in
    ap (λ (z : List OneJournal). lines_from journal_text i (map (λ (j : OneJournal). j.entries) z)) cut

pub next_lines : (i : ℕ) (js : List OneJournal) (j : OneJournal) (out out' told whole : List ℕ) → AreFrom 0 js → i < length js
    → j ≡ get_or js i j → told ≡ journal_text j.partition j.entries → out' ≡ out ++ told
    → out ++ lines_from journal_text i (map (λ (j : OneJournal). j.entries) (drop i js)) ≡ whole
    → out' ++ lines_from journal_text (i + 1) (map (λ (j : OneJournal). j.entries) (drop (i + 1) js)) ≡ whole
next_lines i js j out out' told whole from low is tells grew h =
    let place : j.partition ≡ i = ap (λ (z : OneJournal). z.partition) is ∙ from_at 0 i js j from low ∙ zero-add i in
    let rest = lines_from journal_text (i + 1) (map (λ (j : OneJournal). j.entries) (drop (i + 1) js)) in
    let line : told ≡ journal_text i j.entries = tells ∙ ap (λ p. journal_text p j.entries) place in
    ap (λ (w : List ℕ). w ++ rest) (grew ∙ ap (λ (w : List ℕ). out ++ w) line) ∙ append_assoc out (journal_text i j.entries) rest
    ∙ ap (λ (w : List ℕ). out ++ w) (sym (lines_left i js j low is)) ∙ h

-- each number of one more journal has the bits of its type
pub fits_more : (i : ℕ) (js : List OneJournal) (j : OneJournal) → i < length js → j ≡ get_or js i j →
    AllByRecursion (AllByRecursion RootInBits) (map (λ (j : OneJournal). j.entries) (take i js))
    → AllByRecursion RootInBits j.entries →
    AllByRecursion (AllByRecursion RootInBits) (map (λ (j : OneJournal). j.entries) (take (i + 1) js))
fits_more i js j low is h hj =
    let cut : take (i + 1) js ≡ take i js ++ j ∷ [] = take_more js i j low ∙ ap (λ (z : OneJournal). take i js ++ z ∷ []) (sym is) in
    let E : OneJournal → List RootEntry = λ (j : OneJournal). j.entries in
    let split : map E (take (i + 1) js) ≡ map E (take i js) ++ j.entries ∷ [] = ap (map E) cut ∙ map-append E (take i js) (j ∷ []) in
    rw split (all_more (AllByRecursion RootInBits) (map E (take i js)) j.entries h hj)
