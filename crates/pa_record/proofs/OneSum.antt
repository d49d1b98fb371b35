-- Two lists of the same elements, each once, have as many numbers and the same sum.
use Rattle.std.proofs.Common.{◌≡◌, ◌≢◌, ℕ, ◌+◌, List, [], ◌∷◌, length, refl, sym, ◌∙◌, subst, arith, inl, inr}
use Rattle.std.specs.Prelude.{Contains, AllPairs, sum}
use Rattle.std.specs.List.{AllZip}
use Rattle.std.proofs.lemmas.List.Sums.{sum_by-cons}
use Rattle.pa_lists.proofs.Members.{not_in_none, first_in, later_in, in_cases}
use Rattle.pa_lists.proofs.Pairs.{pairs_cons, pairs_tail, pairs_head}

-- the elements and their numbers without one element and its number
record IsWithout {A : Type 0} (R : A → ℕ → Type 0) (xs : List A) (sizes : List ℕ) (s : A) : Type 0 where
  pub others : List A
  pub rest : List ℕ
  pub size : ℕ
  pub once : AllPairs ◌≢◌ others
  pub sized : AllZip R others rest
  pub its : R s size
  pub count : length xs ≡ 1 + length others
  pub bytes : sum sizes ≡ size + sum rest
  pub inside : (t : A) → Contains others t → Contains xs t × (s ≢ t)
  pub back : (t : A) → Contains xs t → s ≢ t → Contains others t

without : {A : Type 0} (R : A → ℕ → Type 0) (xs : List A) (sizes : List ℕ) (s : A) → AllPairs ◌≢◌ xs → AllZip R xs sizes → Contains xs s →
    IsWithout R xs sizes s
without R [] sizes s once zip among = absurd (not_in_none s among)
without R (u ∷ us) [] s once zip among = absurd zip
without R (u ∷ us) (n ∷ ns) s once zip among = elim (in_cases u s us among) [
  | inl e ↦ record {
    others = us;
    rest = ns;
    size = n;
    once = pairs_tail ◌≢◌ u us once;
    sized = zip.1;
    its = subst (λ z. R z n) e zip.0;
    count = omega arith;
    bytes = sum_by-cons (λ x. x) n ns;
    inside = λ t member. (later_in u t us member, λ same. pairs_head ◌≢◌ u t us once member (e ∙ same));
    back = λ t member ne. elim (in_cases u t us member) [
      | inl same ↦ absurd (ne (sym e ∙ same))
      | inr rest ↦ rest
    ];
  }
  | inr later ↦
      let w = without R us ns s (pairs_tail ◌≢◌ u us once) zip.1 later in
      let away : s ≢ u = λ same. pairs_head ◌≢◌ u s us once later (sym same) in
      record {
        others = u ∷ w.others;
        rest = n ∷ w.rest;
        size = w.size;
        once = pairs_cons ◌≢◌ u w.others (λ t member. pairs_head ◌≢◌ u t us once (w.inside t member).0) w.once;
        sized = (zip.0, w.sized);
        its = w.its;
        count = let c = w.count in omega arith;
        bytes = let b = w.bytes in let c = sum_by-cons (λ x. x) n ns in let d = sum_by-cons (λ x. x) n w.rest in omega arith;
        inside = λ t member. elim (in_cases u t w.others member) [
          | inl same ↦ (subst (λ z. Contains (u ∷ us) z) same (first_in u us), subst (λ z. s ≢ z) same away)
          | inr rest ↦ (later_in u t us (w.inside t rest).0, (w.inside t rest).1)
        ];
        back = λ t member ne. elim (in_cases u t us member) [
          | inl same ↦ subst (λ z. Contains (u ∷ w.others) z) same (first_in u w.others)
          | inr rest ↦ later_in u t w.others (w.back t rest ne)
        ];
      }
]

pub one_sum : {A : Type 0} (R : A → ℕ → Type 0) → ((s : A) (m n : ℕ) → R s m → R s n → m ≡ n) → (xs ys : List A) (ms ns : List ℕ) →
    AllPairs ◌≢◌ xs → AllPairs ◌≢◌ ys →
    AllZip R xs ms → AllZip R ys ns → ((s : A) → Contains xs s → Contains ys s) → ((s : A) → Contains ys s → Contains xs s) →
    (length xs ≡ length ys) × (sum ms ≡ sum ns)
one_sum R one [] [] [] [] once once' zip zip' to from = (refl, refl)
one_sum R one [] [] (m ∷ ms) ns once once' zip zip' to from = absurd zip
one_sum R one [] [] [] (n ∷ ns) once once' zip zip' to from = absurd zip'
one_sum R one [] (y ∷ ys) ms ns once once' zip zip' to from = absurd (not_in_none y (from y (first_in y ys)))
one_sum R one (x ∷ xs) ys [] ns once once' zip zip' to from = absurd zip
one_sum R one (x ∷ xs) ys (m ∷ ms) ns once once' zip zip' to from =
    let w = without R ys ns x once' zip' (to x (first_in x xs)) in
    let (count, bytes) = one_sum R one xs w.others ms w.rest (pairs_tail ◌≢◌ x xs once) w.once zip.1 w.sized
    (λ s member. w.back s (to s (later_in x s xs member)) (pairs_head ◌≢◌ x s xs once member))
    (λ s member. let (there, ne) = w.inside s member in
    elim (in_cases x s xs (from s there)) [ inl same ↦ absurd (ne same) | inr rest ↦ rest ]) in
    let same = one x m w.size zip.0 w.its in
    let a = w.count in
    let b = w.bytes in
    let c = sum_by-cons (λ z. z) m ms in
    (omega arith, omega arith)
