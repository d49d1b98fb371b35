-- What loops over reads and writes need to know, one call at a time.
use Rattle.std.proofs.Common.{rules, arith, ◌≡◌, ℕ, ◌∙◌, sym, ap, refl, List, [], ◌++◌, length, take, drop, Option, Some, None, append_assoc, length-append}
use Rattle.std.proofs.lemmas.List.{take_at, take-append-drop, append-nil}
use Rattle.std.specs.Io.KnownBytes.{Consumes, Appends, Keeps}
use Rattle.pa_io.specs.Moves.{Moves, Takes, HasWritten, HasWrittenPart}

-- a copy of the next bytes to the front of a buffer moves them
pub moves_front : (left rest buffer front behind : List ℕ) (n : ℕ) → length front ≡ n → left ≡ front ++ rest → buffer ≡ front ++ behind →
    (n ≡ 0 → left ≡ []) → Moves (Some left) (Some rest) n buffer
moves_front left rest buffer front behind n len before after empty = record {
  within = omega (arith, simp length-append at (ap length after));
  moved = rw (after, take_at front behind n len) before;
  end = (empty, λ e. omega (arith, simp length-append at (ap length (sym before ∙ e))));
}

-- two reads in a row
pub Consumes_append : (a b c : Option (List ℕ)) (xs ys : List ℕ) → Consumes a b xs → Consumes b c ys → Consumes a c (xs ++ ys)
Consumes_append None b c xs ys h k = search rules
Consumes_append (Some l) None c xs ys h k = absurd h
Consumes_append (Some l) (Some m) None xs ys h k = absurd k
Consumes_append (Some l) (Some m) (Some r) xs ys h k = rw append_assoc (h ∙ ap (λ t. xs ++ t) k)

-- nothing was taken yet
pub Appends_refl : (told : Option (List ℕ)) → Appends told told []
Appends_refl None = search rules
Appends_refl (Some xs) = sym (append-nil xs)

-- two writes in a row
pub Appends_append : (a b c : Option (List ℕ)) (xs ys : List ℕ) → Appends a b xs → Appends b c ys → Appends a c (xs ++ ys)
Appends_append None b c xs ys h k = search rules
Appends_append (Some l) None c xs ys h k = absurd h
Appends_append (Some l) (Some m) None xs ys h k = absurd k
Appends_append (Some l) (Some m) (Some r) xs ys h k = k ∙ ap (λ t. t ++ ys) h ∙ append_assoc l xs ys

-- a write that fails adds nothing to what was taken
pub Appends_keeps : (a b c : Option (List ℕ)) (xs : List ℕ) → Appends a b xs → Keeps b c → Appends a c xs
Appends_keeps None b c xs h k = search rules
Appends_keeps (Some l) None c xs h k = absurd h
Appends_keeps (Some l) (Some m) None xs h k = absurd k
Appends_keeps (Some l) (Some m) (Some r) xs h k = k ∙ h

-- nothing of all was written yet
pub HasWritten_refl : (told : Option (List ℕ)) (all : List ℕ) → HasWritten told told all all
HasWritten_refl told all = record { front = []; split = refl; grown = Appends_refl told }

-- one more write: what it left of the rest is the new rest
pub Takes_more : (start before after : Option (List ℕ)) (all rest left : List ℕ) (n : ℕ) → HasWritten start before all rest
    → Takes before after n rest → left ≡ drop n rest → HasWritten start after all left
Takes_more start before after all rest left n w t e = record {
  front = w.front ++ take n rest;
  split = rw (e, append_assoc, take-append-drop) w.split;
  grown = Appends_append start before after w.front (take n rest) w.grown t.taken;
}

-- a write that fails leaves what was written and the rest
pub HasWritten_keeps : (start before after : Option (List ℕ)) (all rest : List ℕ) → HasWritten start before all rest → Keeps before after →
    HasWritten start after all rest
HasWritten_keeps start before after all rest w k = record {
  front = w.front;
  split = w.split;
  grown = Appends_keeps start before after w.front w.grown k;
}

-- bytes that were appended and then kept
pub Appends_part : (before between after : Option (List ℕ)) (all : List ℕ) (n : ℕ) → Appends before between (take n all) →
    Keeps between after → HasWrittenPart before after all
Appends_part before between after all n h k = (
  drop n all,
  record {
    front = take n all;
    split = sym (take-append-drop n all);
    grown = Appends_keeps before between after (take n all) h k;
  },
)

-- no byte was appended
pub Keeps_part : (before after : Option (List ℕ)) (all : List ℕ) → Keeps before after → HasWrittenPart before after all
Keeps_part before after all k = (all, HasWritten_keeps before before after all all (HasWritten_refl before all) k)

-- what is kept stays
pub Keeps_refl : (told : Option (List ℕ)) → Keeps told told
Keeps_refl None = search rules
Keeps_refl (Some xs) = refl
