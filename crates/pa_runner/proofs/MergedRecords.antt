-- The records of all threads, merged by the trace's lines.
use Rattle.std.proofs.Common.{◌≡◌, ℕ, zero, suc, ◌+◌, ◌<◌, ◌≤◌, true, false, List, [], ◌∷◌, ◌++◌, length, map, filter, drop, get_or, refl, sym, ◌∙◌, ap, subst, arith, inl, inr, append-nil, append_assoc, length-append}
use Rattle.std.specs.Prelude.{slice_index, slice_set}
use Rattle.std.proofs.lemmas.Bool.{cases_eq, eq-eqb, ne_eqb}
use Rattle.std.proofs.lemmas.List.Elements.{filter-append}
use Rattle.pa_trace.specs.declared.script.Line.{Line}
use Rattle.pa_trace.specs.declared.script.Line.TheVariants.{Phase, Do}
use Rattle.pa_trace.specs.declared.script.Op.{Op}
use Rattle.pa_trace.specs.declared.script.Rules.{Rules}
use Rattle.pa_record.specs.declared.entry.Entry.{Entry}
use Rattle.pa_rules.specs.Played.{op_lines, key_of_line, key_of_entry}
use Rattle.std.specs.List.{AllByRecursion}
use Rattle.std.proofs.Common.{replicate}
use Rattle.std.proofs.lemmas.List.{get_or_default, get_or-set_same, get_or-set_other}
use Rattle.std.proofs.lemmas.List.Elements.{All-from_recursion, All-get_or}
use Rattle.pa_trace.specs.Limits.{IsLineWithin}
use Rattle.pa_op_specs.specs.Workers.{WorkerValue}
use Rattle.pa_runner.specs.Phases.{no_worker}
use Rattle.pa_runner.specs.Merging.{is_entry_of, IsMergeOf}

-- the numbers and the threads of op lines
abbrev keys_from : ℕ → List Line → List (ℕ × ℕ)
keys_from n [] = []
keys_from n (Phase ∷ ls) = keys_from (n + 1) ls
keys_from n (Do thread op ∷ ls) = (n, thread) ∷ keys_from (n + 1) ls

keys_are : (rules : Rules) (n phase : ℕ) (ls : List Line) → map key_of_line (op_lines rules n phase ls) ≡ keys_from n ls
keys_are rules n phase [] = refl
keys_are rules n phase (Phase ∷ ls) = keys_are rules (n + 1) (phase + 1) ls
keys_are rules n phase (Do thread op ∷ ls) = ap (λ ks. (n, thread) ∷ ks) (keys_are rules (n + 1) phase ls)

-- The records of the lines before index i were merged. For each thread it is known how many of its records that took.
pub record IsMerging (i : ℕ) (ls : List Line) (next : List ℕ) (merged es : List Entry) : Type 0 where
  pub rest : List Entry
  pub is : es ≡ merged ++ rest
  pub due : map key_of_entry rest ≡ keys_from (i + 2) (drop i ls)
  pub at : (k : ℕ) → k < 16 → slice_index next k ≡ length (filter (is_entry_of k) merged)

pub merge_start : (rules : Rules) (ls : List Line) (next : List ℕ) (es : List Entry) →
    map key_of_entry es ≡ map key_of_line (op_lines rules 2 1 ls) →
    ((k : ℕ) → k < 16 → slice_index next k ≡ 0) → IsMerging 0 ls next [] es
merge_start rules ls next es due zeros = record { rest = es; is = refl; due = due ∙ keys_are rules 2 1 ls; at = zeros }

drop_at : (ls : List Line) (i : ℕ) (d : Line) → i < length ls → drop i ls ≡ get_or ls i d ∷ drop (suc i) ls
drop_at [] i d low = absurd (omega arith)
drop_at (l ∷ ls) zero d low = refl
drop_at (l ∷ ls) (suc i) d low = drop_at ls i d (omega arith)

module _ (i : ℕ) (ls : List Line) (next : List ℕ) (merged es : List Entry) (m : IsMerging i ls next merged es) (low : i < length ls) where
  pub merge_phase : get_or ls i Phase ≡ Phase → IsMerging (i + 1) ls next merged es
  merge_phase is =
      let number : i + 2 + 1 ≡ i + 1 + 2 = omega arith in
      let place : suc i ≡ i + 1 = omega arith in
      record {
        rest = m.rest;
        is = m.is;
        due = m.due ∙ (ap (keys_from (i + 2)) (drop_at ls i Phase low ∙ ap (λ l. l ∷ drop (suc i) ls) is)
            ∙ (ap (λ n. keys_from n (drop (suc i) ls)) number ∙ ap (λ j. keys_from (i + 1 + 2) (drop j ls)) place));
        at = m.at;
      }

  -- the next record is its thread's next one
  pub record IsNext (thread : ℕ) : Type 0 where
    pub entry : Entry
    pub others : List Entry
    pub rest_is : m.rest ≡ entry ∷ others
    pub own : entry.thread ≡ thread
    pub due : map key_of_entry others ≡ keys_from (i + 1 + 2) (drop (i + 1) ls)

  pub next_is : (thread : ℕ) (op : Op) → get_or ls i Phase ≡ Do thread op → IsNext thread
  next_is thread op is =
      let number : i + 2 + 1 ≡ i + 1 + 2 = omega arith in
      let place : suc i ≡ i + 1 = omega arith in
      let here : map key_of_entry m.rest ≡ (i + 2, thread) ∷ keys_from (i + 1 + 2) (drop (i + 1) ls) =
      m.due ∙ (ap (keys_from (i + 2)) (drop_at ls i Phase low ∙ ap (λ l. l ∷ drop (suc i) ls) is)
      ∙ (ap (λ n. (i + 2, thread) ∷ keys_from n (drop (suc i) ls)) number ∙
      ap (λ j. (i + 2, thread) ∷ keys_from (i + 1 + 2) (drop j ls)) place)) in
      parted m.rest refl (keys_from (i + 1 + 2) (drop (i + 1) ls)) here refl
    where
      parted : (rest : List Entry) → m.rest ≡ rest → (ks : List (ℕ × ℕ)) → map key_of_entry rest ≡ (i + 2, thread) ∷ ks →
          ks ≡ keys_from (i + 1 + 2) (drop (i + 1) ls) → IsNext thread
      parted [] same ks e f = absurd cc
      parted (x ∷ xs) same ks e f =
          let key : key_of_entry x ≡ (i + 2, thread) = cc in
          let later : map key_of_entry xs ≡ ks = cc in
          record { entry = x; others = xs; rest_is = same; own = ap (λ (p : ℕ × ℕ). p.1) key; due = later ∙ f }

  module _ (thread : ℕ) (n : IsNext thread) (few : thread < 16) (records : List Entry)
      (theirs : records ≡ filter (is_entry_of thread) es) where
    mine : is_entry_of thread n.entry ≡ true
    mine = eq-eqb n.entry.thread thread n.own

    theirs_are : records ≡ filter (is_entry_of thread) merged ++ n.entry ∷ filter (is_entry_of thread) n.others
    theirs_are =
        let with_next : filter (is_entry_of thread) (n.entry ∷ n.others) ≡ n.entry ∷ filter (is_entry_of thread) n.others = rw mine refl in
        theirs ∙ (ap (filter (is_entry_of thread)) (m.is ∙ ap (λ zs. merged ++ zs) n.rest_is)
        ∙ (filter-append (is_entry_of thread) merged (n.entry ∷ n.others) ∙ ap (λ zs. filter (is_entry_of thread) merged ++ zs) with_next))

    -- it is there
    pub next_there : slice_index next thread < length records
    next_there =
        let at = m.at thread few in
        let long = ap (λ zs. length zs) theirs_are in
        let parts = length-append (filter (is_entry_of thread) merged) (n.entry ∷ filter (is_entry_of thread) n.others) in
        omega arith

    at_place : (xs ys : List Entry) (e d : Entry) → get_or (xs ++ e ∷ ys) (length xs) d ≡ e
    at_place [] ys e d = refl
    at_place (x ∷ xs) ys e d = at_place xs ys e d

    pub next_entry : (d : Entry) → get_or records (slice_index next thread) d ≡ n.entry
    next_entry d =
        ap (λ zs. get_or zs (slice_index next thread) d) theirs_are
        ∙ (ap (λ j. get_or (filter (is_entry_of thread) merged ++ n.entry ∷ filter (is_entry_of thread) n.others) j d) (m.at thread few)
        ∙ at_place (filter (is_entry_of thread) merged) (filter (is_entry_of thread) n.others) n.entry d)

    pub merge_more : (then : List ℕ) → slice_index then thread ≡ slice_index next thread + 1 →
        ((k : ℕ) → k < 16 → (k ≡ thread → ⊥) → slice_index then k ≡ slice_index next k) →
        IsMerging (i + 1) ls then (merged ++ n.entry ∷ []) es
    merge_more then one others = record {
      rest = n.others;
      is = m.is ∙ (ap (λ zs. merged ++ zs) n.rest_is ∙ sym (append_assoc merged (n.entry ∷ []) n.others));
      due = n.due;
      at = λ k low'. elim (cases_eq k thread) [
        | inl e ↦
            let own : filter (is_entry_of thread) (n.entry ∷ []) ≡ n.entry ∷ [] = rw mine refl in
            let long = ap (λ zs. length zs)
            (filter-append (is_entry_of thread) merged (n.entry ∷ []) ∙ ap (λ zs. filter (is_entry_of thread) merged ++ zs) own) in
            let parts = length-append (filter (is_entry_of thread) merged) (n.entry ∷ []) in
            let at = m.at thread few in
            subst (λ j. slice_index then j ≡ length (filter (is_entry_of j) (merged ++ n.entry ∷ []))) (sym e) (omega arith)
        | inr ne ↦
            let other : is_entry_of k n.entry ≡ false = ne_eqb n.entry.thread k (λ e. ne (sym e ∙ n.own)) in
            let none : filter (is_entry_of k) (n.entry ∷ []) ≡ [] = rw other refl in
            let same : filter (is_entry_of k) (merged ++ n.entry ∷ []) ≡ filter (is_entry_of k) merged =
            filter-append (is_entry_of k) merged (n.entry ∷ []) ∙
            (ap (λ zs. filter (is_entry_of k) merged ++ zs) none ∙ append-nil (filter (is_entry_of k) merged)) in
            others k low' ne ∙ (m.at k low' ∙ ap (λ zs. length zs) (sym same))
      ];
    }

-- at the end all are
pub merge_all : (i : ℕ) (ls : List Line) (next : List ℕ) (merged es : List Entry) →
    IsMerging i ls next merged es → length ls ≤ i → merged ≡ es
merge_all i ls next merged es m past =
    let none : map key_of_entry m.rest ≡ [] = m.due ∙ ap (keys_from (i + 2)) (past_all ls i past) in
    sym (m.is ∙ (ap (λ zs. merged ++ zs) (no_rest m.rest none) ∙ append-nil merged))
  where
    past_all : (zs : List Line) (j : ℕ) → length zs ≤ j → drop j zs ≡ []
    past_all [] zero far = refl
    past_all [] (suc j) far = refl
    past_all (z ∷ zs) zero far = absurd (omega arith)
    past_all (z ∷ zs) (suc j) far = past_all zs j (omega arith)

    no_rest : (rest : List Entry) → map key_of_entry rest ≡ [] → rest ≡ []
    no_rest [] e = refl
    no_rest (x ∷ xs) e = absurd cc

-- ---- as the code meets it

no_next : (n k : ℕ) → slice_index (replicate n 0) k ≡ 0
no_next zero k = refl
no_next (suc n) zero = refl
no_next (suc n) (suc k) = no_next n k

pub none_merged : (ls : List Line) (workers : List WorkerValue) (merged es : List Entry) → merged ≡ [] → IsMergeOf ls workers es →
    IsMerging 0 ls (replicate 16 0) merged es
none_merged ls workers merged es none of =
    subst (λ m. IsMerging 0 ls (replicate 16 0) m es) (sym none)
    (merge_start of.rules ls (replicate 16 0) es of.due (λ k low. no_next 16 k))

pub phase_merged : (i : ℕ) (ls : List Line) (d : Line) (next then : List ℕ) (merged now es : List Entry) → IsMerging i ls next merged es →
    i < length ls → get_or ls i d ≡ Phase →
    then ≡ next → now ≡ merged → IsMerging (i + 1) ls then now es
phase_merged i ls d next then merged now es m low is same kept =
    subst (λ ns. IsMerging (i + 1) ls ns now es) (sym same)
    (subst (λ zs. IsMerging (i + 1) ls next zs es) (sym kept)
    (merge_phase i ls next merged es m low (get_or_default ls i Phase d low ∙ is)))

module _ (i : ℕ) (ls : List Line) (d : Line) (workers : List WorkerValue) (thread partitions : ℕ) (op : Op) (low : i < length ls)
    (is : get_or ls i d ≡ Do thread op)
    (few : length workers ≤ 16) (within : AllByRecursion (IsLineWithin partitions (length workers)) ls) where
  at_phase : get_or ls i Phase ≡ Do thread op
  at_phase = get_or_default ls i Phase d low ∙ is

  pub there : thread < length workers
  there =
      (subst (IsLineWithin partitions (length workers)) is
      (All-get_or (IsLineWithin partitions (length workers)) ls i d low
      (All-from_recursion (IsLineWithin partitions (length workers)) ls within))).0

  module _ (next : List ℕ) (merged es records : List Entry) (w : WorkerValue) (of : IsMergeOf ls workers es)
      (m : IsMerging i ls next merged es)
      (worker : records ≡ (get_or workers thread w).records) where
    small : thread < 16
    small = let t = there in omega arith

    is_next : IsNext i ls next merged es m low thread
    is_next = next_is i ls next merged es m low thread op at_phase

    theirs_of : records ≡ filter (is_entry_of thread) es
    theirs_of = worker ∙ (ap (λ (x : WorkerValue). x.records) (get_or_default workers thread w no_worker there) ∙ of.theirs thread there)

    pub has_next : slice_index next thread < length records
    has_next = next_there i ls next merged es m low thread is_next small records theirs_of

    pub line_merged : (e : Entry) (then : List ℕ) (now : List Entry) → length next ≡ 16 →
        then ≡ slice_set next thread (slice_index next thread + 1) →
        now ≡ merged ++ get_or records (slice_index next thread) e ∷ [] → IsMerging (i + 1) ls then now es
    line_merged e then now long set_is pushed =
        let s = small in
        let entry = next_entry i ls next merged es m low thread is_next small records theirs_of e in
        let one : slice_index then thread ≡ slice_index next thread + 1 =
        ap (λ ns. slice_index ns thread) set_is ∙ get_or-set_same next thread (slice_index next thread + 1) 0 (omega arith) in
        subst (λ zs. IsMerging (i + 1) ls then zs es) (sym (pushed ∙ ap (λ x. merged ++ x ∷ []) entry))
        (merge_more i ls next merged es m low thread is_next small records theirs_of then one
        (λ k low' ne. ap (λ ns. slice_index ns k) set_is ∙ get_or-set_other next thread k (slice_index next thread + 1) 0 ne))
