-- What one read must show: by the look that it follows, and by its word, which is the content, or poison.
use Rattle.std.proofs.Common.{◌≡◌, ℕ, ◌<◌, Bool, true, false, not, ◌&&◌, List, Some, None, Option, refl, sym, ◌∙◌, ap, subst, arith, ◌⊎◌, inl, inr, eqb}
use Rattle.std.specs.Prelude.{if◌then◌else◌}
use Rattle.std.specs.List.{sum_by}
use Rattle.std.proofs.lemmas.Bool.{cases_lt, cases_Bool, and_parts, eqb-true, eq-eqb, not-true}
use Rattle.std.proofs.lemmas.Bool.Decides.{eqb_tells}
use Rattle.pa_slot.specs.declared.title.Title.{Title}
use Rattle.pa_slot.specs.Count.{number_of, held_of}
use Rattle.pa_slot.specs.Titles.{same_title, count_word, poison}
use Rattle.pa_slot.specs.Holdings.{one}
use Rattle.pa_slot.proofs.Same.{title_tells}
use Rattle.pa_slot.proofs.Arith.{held_small}
use Rattle.pa_region.specs.declared.view.Deeds.{Deeds}
use Rattle.pa_region.specs.declared.view.Entry.{Entry}
use Rattle.pa_region.specs.declared.view.Entry.TheVariants.{Counted, Looked, Read, Added, Entered, Uncut}
use Rattle.pa_region.specs.declared.view.View.{View}
use Rattle.pa_region.specs.Views.{counted_at}
use Rattle.pa_region.specs.History.{Done, reached, IsLegal, IsWordIn, content_of}
use Rattle.pa_region.specs.Contents.{content_at_number}
use Rattle.pa_region.specs.Frees.{frees_from}
use Rattle.pa_region.specs.Pairs.{weight_after, least_log}
use Rattle.pa_region.specs.Waiting.{is_quiet, gave_no_poison, quiet_read, IsFreeing, AreRight, Waits}
use Rattle.pa_region.proofs.AtNumber.{word_found}
use Rattle.pa_region.proofs.FirstFrees.{has_first, bit_unfreed}
use Rattle.pa_region.proofs.Pieces.{found_title}

-- a test that counts is passed
pub one_true : (b : Bool) → 0 < one b → b ≡ true
one_true true h = refl
one_true false h = absurd (omega arith)

-- what a quiet read right after an entry shows
pub record IsQuietRead (own : Bool) (t : Title) (found value : ℕ) (a : Entry) (u : Title) (given : ℕ) (since : Deeds)
    (owned unclean : Bool) : Type 0 where
  pub looked : a ≡ Looked t found
  pub title : u ≡ t
  pub gave : given ≡ value
  pub quiet : is_quiet since ≡ true
  pub clean : unclean ≡ false
  pub owner : owned ≡ own

owner_is : (own owned : Bool) → (if own then owned else not owned) ≡ true → owned ≡ own
owner_is true owned e = e
owner_is false owned e = not-true owned e

pub quiet_tells : (own : Bool) (t : Title) (found value : ℕ) (a : Entry) (u : Title) (place given : ℕ) (since : Deeds)
    (owned unclean : Bool) →
    0 < quiet_read own t found value a (Read u place given since owned unclean) →
    IsQuietRead own t found value a u given since owned unclean
quiet_tells own t found value (Looked x word) u place given since owned unclean h =
    let all = one_true ((same_title x t && same_title u t) &&
    (((eqb word found) && (eqb given value)) && ((is_quiet since && not unclean) && (if own then owned else not owned)))) h in
    let p = and_parts (same_title x t && same_title u t)
    (((eqb word found) && (eqb given value)) && ((is_quiet since && not unclean) && (if own then owned else not owned))) all in
    let titles = and_parts (same_title x t) (same_title u t) p.0 in
    let q = and_parts ((eqb word found) && (eqb given value)) ((is_quiet since && not unclean) && (if own then owned else not owned)) p.1 in
    let numbers = and_parts (eqb word found) (eqb given value) q.0 in
    let r = and_parts (is_quiet since && not unclean) (if own then owned else not owned) q.1 in
    let s = and_parts (is_quiet since) (not unclean) r.0 in
    record {
      looked = ap (λ y. Looked y word) (found_title t x titles.0) ∙ ap (Looked t) (eqb-true word found numbers.0);
      title = found_title t u titles.1;
      gave = eqb-true given value numbers.1;
      quiet = s.0;
      clean = not-true unclean s.1;
      owner = owner_is own owned r.1;
    }
quiet_tells own t found value (Counted x step w v) u place given since owned unclean h = absurd (omega arith)
quiet_tells own t found value (Read x p v d o c) u place given since owned unclean h = absurd (omega arith)
quiet_tells own t found value (Added w bytes) u place given since owned unclean h = absurd (omega arith)
quiet_tells own t found value (Entered keeper numbers) u place given since owned unclean h = absurd (omega arith)
quiet_tells own t found value (Uncut again) u place given since owned unclean h = absurd (omega arith)

-- nothing was handed over if all was quiet
pub quiet_handed : (d : Deeds) → is_quiet d ≡ true → d.handed ≡ false
quiet_handed d q = not-true d.handed (and_parts (not d.handed) (not d.stored && not d.poisoned) q).0

-- What a read's word is, by the title's word and history. If the bit is 0, it is poison. Through a clean Own it is the content.
-- Through a Ref alone, if the bit is set, it is the content, or it is poison and an Own is poisoned in a view apart from the
-- reader's stake.
pub record IsWordRead (history : List Done) (word value : ℕ) (owned unclean : Bool) (poisoned : ℕ) : Type 0 where
  pub freed : held_of word ≡ 0 → value ≡ poison
  pub own : owned ≡ true → unclean ≡ false → value ≡ content_of history
  pub ref : owned ≡ false → held_of word ≡ 1 → (value ≡ content_of history) ⊎ ((value ≡ poison) × (0 < poisoned))

-- What a read of this title knows of its log's last entry. A look at the title found a word of the history, and with nothing
-- handed over since it has waited. All counted steps with the reader's stake are in its log.
pub record HasLast (history : Title → List Done) (words : List ℕ) (v : View) (t : Title) (last : Option Entry)
    (logs : (Entry → ℕ) → ℕ) : Type 0 where
  pub legal : IsLegal (history t)
  pub at_end : count_word words t ≡ reached (history t)
  pub looked : (found : ℕ) → last ≡ Some (Looked t found) → IsWordIn found (history t)
  pub waits : (found : ℕ) → last ≡ Some (Looked t found) → v.since.handed ≡ false → Waits history words v t found
  pub own_log : (n : ℕ) → logs (counted_at t n) ≡ sum_by (counted_at t n) (least_log v.stakes)

-- if the bit was set in the word that a look found, and a read gave poison, another thread is freeing the slot
frees_apart : (history : Title → List Done) (words : List ℕ) (v : View) (t : Title) (last : Option Entry) (logs_by : ℕ → (Entry → ℕ) → ℕ)
    (poisoned : Title → ℕ → ℕ)
    (r found : ℕ) → HasLast history words v t last (logs_by r) → last ≡ Some (Looked t found) → v.since.handed ≡ false → held_of found ≡ 1 →
    (held_of (count_word words t) ≡ 0) ⊎ (0 < poisoned t r) → IsFreeing logs_by poisoned (history t) t r (number_of found)
frees_apart history words v t last logs_by poisoned r found k is quiet set why =
    elim (cases_lt 0 (frees_from (number_of found) (history t))) [
      | inl y ↦
          let first = has_first (number_of found) (history t) y in
          inl (first.0, first.1, k.own_log first.0 ∙ (k.waits found is quiet).none_later first.0 first.1.behind)
      | inr n ↦
          let none : frees_from (number_of found) (history t) ≡ 0 = omega arith in
          let w = word_found found (history t) k.legal (k.looked found is) in
          let still = bit_unfreed (number_of found) (history t) k.legal w.0 (ap held_of w.1 ∙ set) none in
          inr (
            none,
            elim why [
              | inl low ↦ let e : held_of (count_word words t) ≡ held_of (reached (history t)) = ap held_of k.at_end in absurd (omega arith)
              | inr p ↦ p
            ],
          )
    ]

-- a read that gives poison when the bit is 0 makes no pair that gave another value
gave_poison : (history : Title → List Done) (words : List ℕ) (v : View) (t : Title) (place value : ℕ) (owned unclean : Bool) (a : Entry) →
    ((found : ℕ) → a ≡ Looked t found → v.since.handed ≡ false → Waits history words v t found) →
    (held_of (count_word words t) ≡ 0 → value ≡ poison) →
    gave_no_poison a (Read t place value v.since owned unclean) ≡ 0
gave_poison history words v t place value owned unclean (Looked u found) waits freed = elim (title_tells u t) [
  | inl y ↦ elim (eqb_tells (held_of found) 0) [
    | inl low ↦ elim (cases_Bool v.since.handed) [
      | inl handed ↦ rw (y.0, low.0, handed) refl
      | inr kept ↦
          let w = waits found (ap (λ x. Looked x found) y.1) kept in
          rw (y.0, low.0, kept, eq-eqb value poison (freed (w.bit low.1))) refl
    ]
    | inr high ↦ rw (y.0, high.0) refl
  ]
  | inr n ↦ rw n.0 refl
]
gave_poison history words v t place value owned unclean (Counted x step w found) waits freed = refl
gave_poison history words v t place value owned unclean (Read x p given d o c) waits freed = refl
gave_poison history words v t place value owned unclean (Added w bytes) waits freed = refl
gave_poison history words v t place value owned unclean (Entered keeper numbers) waits freed = refl
gave_poison history words v t place value owned unclean (Uncut again) waits freed = refl

-- nor after any last entry
gave_poison_after : (history : Title → List Done) (words : List ℕ) (v : View) (t : Title) (place value : ℕ) (owned unclean : Bool)
    (last : Option Entry) →
    ((found : ℕ) → last ≡ Some (Looked t found) → v.since.handed ≡ false → Waits history words v t found) →
    (held_of (count_word words t) ≡ 0 → value ≡ poison) →
    weight_after gave_no_poison last (Read t place value v.since owned unclean) ≡ 0
gave_poison_after history words v t place value owned unclean None waits freed = refl
gave_poison_after history words v t place value owned unclean (Some a) waits freed =
    gave_poison history words v t place value owned unclean a (λ found is. waits found (ap Some is)) freed

-- a quiet read after a last entry
quiet_after : (own : Bool) (t : Title) (found value : ℕ) (last : Option Entry) (u : Title) (place given : ℕ) (since : Deeds)
    (owned unclean : Bool) →
    0 < weight_after (quiet_read own t found value) last (Read u place given since owned unclean) →
    (a : Entry) × (last ≡ Some a) × IsQuietRead own t found value a u given since owned unclean
quiet_after own t found value None u place given since owned unclean h = absurd (omega arith)
quiet_after own t found value (Some a) u place given since owned unclean h =
    (a, refl, quiet_tells own t found value a u place given since owned unclean h)

-- the pair that a read makes is right
pub right_read : (history : Title → List Done) (words : List ℕ) (v : View) (t : Title) (place value : ℕ) (owned unclean : Bool)
    (last : Option Entry) (least : ℕ)
    (logs_by : ℕ → (Entry → ℕ) → ℕ) (poisoned : Title → ℕ → ℕ) → HasLast history words v t last (logs_by least) →
    IsWordRead (history t) (count_word words t) value owned unclean (poisoned t least) →
    AreRight history (λ weight. weight_after weight last (Read t place value v.since owned unclean))
    (λ r weight. if eqb least r then weight_after weight last (Read t place value v.since owned unclean) else 0) logs_by poisoned
right_read history words v t place value owned unclean last least logs_by poisoned k word = record {
  freed = gave_poison_after history words v t place value owned unclean last k.waits word.freed;
  own = λ u found written set some_pair.
      let q = quiet_after true u found written last t place value v.since owned unclean some_pair in
      let tells = q.2 in
      subst (λ (x : Title). written ≡ content_at_number (number_of found) (history x)) tells.title (
      let is : last ≡ Some (Looked t found) = q.1 ∙ ap Some (tells.looked ∙ ap (λ x. Looked x found) (sym tells.title)) in
      let w = k.waits found is (quiet_handed v.since tells.quiet) in
      sym tells.gave ∙ (word.own tells.owner tells.clean ∙ w.content));
  ref = λ r u found written set some_pair. elim (eqb_tells least r) [
    | inl y ↦
        let some_here : 0 < weight_after (quiet_read false u found written) last (Read t place value v.since owned unclean) =
        rw y.0 at some_pair in
        let q = quiet_after false u found written last t place value v.since owned unclean some_here in
        of_ref r u found written set y.1 q.0 q.1 q.2
    | inr n ↦ let none = rw n.0 at some_pair in absurd (omega arith)
  ];
}
  where
    of_ref : (r : ℕ) (u : Title) (found written : ℕ) → held_of found ≡ 1 → least ≡ r → (a : Entry) → last ≡ Some a →
        IsQuietRead false u found written a t value v.since owned unclean →
        (written ≡ content_at_number (number_of found) (history u)) ⊎
        ((written ≡ poison) × IsFreeing logs_by poisoned (history u) u r (number_of found))
    of_ref r u found written set same a at_a tells =
        subst (λ (x : Title). (written ≡ content_at_number (number_of found) (history x)) ⊎
        ((written ≡ poison) × IsFreeing logs_by poisoned (history x) x r (number_of found))) tells.title (
        subst (λ (m : ℕ). (written ≡ content_at_number (number_of found) (history t)) ⊎
        ((written ≡ poison) × IsFreeing logs_by poisoned (history t) t m (number_of found))) same (
        let is : last ≡ Some (Looked t found) = at_a ∙ ap Some (tells.looked ∙ ap (λ x. Looked x found) (sym tells.title)) in
        let quiet = quiet_handed v.since tells.quiet in
        let w = k.waits found is quiet in
        elim (cases_lt 0 (held_of (count_word words t))) [
          | inl y ↦
              let small = held_small (count_word words t) in
              elim (word.ref tells.owner (omega arith)) [
                | inl e ↦ inl (sym tells.gave ∙ (e ∙ w.content))
                | inr p ↦ inr (
                  sym tells.gave ∙
                      p.0,
                  frees_apart history words v t last logs_by poisoned least found k is quiet set (inr p.1),
                )
              ]
          | inr n ↦ inr (
            sym tells.gave ∙ word.freed (omega arith),
            frees_apart history words v t last logs_by poisoned least found k is quiet set (inl (omega arith)),
          )
        ]))
