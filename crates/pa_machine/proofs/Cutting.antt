-- Cutting a title out of raw bytes, and giving it back to them.
use Rattle.std.proofs.Common.{◌≡◌, ℕ, ◌+◌, ◌-◌, ◌*◌, ◌%◌, ◌<◌, ◌≤◌, List, [], ◌∷◌, length, refl, sym, ◌∙◌, subst, arith, ◌⊎◌, inl, inr}
use Rattle.std.proofs.lemmas.Bool.{cases_lt}
use Rattle.std.proofs.lemmas.Bool.Decides.{nat_tests}
use Rattle.pa_slot.specs.declared.title.Title.{Title}
use Rattle.pa_slot.specs.declared.title.OwnState.TheVariants.{Clean, Poisoned}
use Rattle.pa_slot.specs.Run.{IsFree}
use Rattle.pa_slot.specs.Titles.{Covers, IsWellFormed, count_word}
use Rattle.pa_slot.specs.Holdings.{Piece, RawPiece, FreePiece, Thing, RawByte, FreeTitle, OwnOf, OwnAs, SealedOwn, RefOf, IsTitleHeld, held_in}
use Rattle.pa_machine.specs.Good.{IsDivided, IsGood}
use Rattle.pa_slot.proofs.Same.{title_tells}
use Rattle.pa_machine.proofs.Totals.{IsTally}
use Rattle.pa_machine.proofs.Parts.{free_or, IsTitleGood, IsUntouched, Changes, good_by, IsNoneOf, free_none, raw_none}
use Rattle.pa_machine.proofs.Amounts.{free_self}

-- a range counts as a byte if the byte lies in it
pub covered_raw : (start len b : ℕ) → start ≤ b → b < start + len → held_in (RawPiece start len ∷ []) (RawByte b) ≡ 1
covered_raw start len b low high = grind (arith, nat_tests)

-- a range doesn't count as a byte that lies outside it
pub uncovered_raw : (start len b : ℕ) → (b < start) ⊎ (start + len ≤ b) → held_in (RawPiece start len ∷ []) (RawByte b) ≡ 0
uncovered_raw start len b (inl low) = grind (arith, nat_tests)
uncovered_raw start len b (inr high) = grind (arith, nat_tests)

-- a byte lies in a title or not
pub covers_or : (t : Title) (b : ℕ) → Covers t b ⊎ ((b < t.start) ⊎ (t.start + t.len ≤ b))
covers_or t b = elim (cases_lt b t.start) [
  | inl low ↦ inr (inl low)
  | inr above ↦ elim (cases_lt b (t.start + t.len)) [ inl below ↦ inl (above, below) | inr high ↦ inr (inr high) ]
]

-- another title's handles stay if a free title comes or goes against raw bytes
pub cut_untouched : (words : List ℕ) (total later : Thing → ℕ) (u : Title) (lost gained : List Piece) → IsNoneOf lost u →
    IsNoneOf gained u →
    Changes total lost gained later → IsUntouched words total words later u
cut_untouched words total later u lost gained l g c = record {
  free = let a = c (FreeTitle u) in let x = l.free in let y = g.free in omega arith;
  own = let a = c (OwnOf u) in let x = l.own in let y = g.own in omega arith;
  ref = let a = c (RefOf u) in let x = l.ref in let y = g.ref in omega arith;
  seal = let a = c (SealedOwn u) in let x = l.seal in let y = g.seal in omega arith;
  state = λ s. let a = c (OwnAs u s) in let x = l.state s in let y = g.state s in omega arith;
  word = refl;
  content = λ i below. refl;
}

-- a byte that is raw lies in no held title
raw_alone : (n : ℕ) (total : Thing → ℕ) (b : ℕ) → IsDivided n total → 0 < total (RawByte b) →
    (b < 8 * n) × (total (RawByte b) ≡ 1) × ((t : Title) → IsTitleHeld total t → Covers t b → ⊥)
raw_alone n total b d raw = elim (cases_lt b (8 * n)) [
  | inl below ↦ elim (d.bytes b below) [
    | inl r ↦ (below, r.0, r.1)
    | inr r ↦ let z = r.0 in absurd (omega arith)
  ]
  | inr past ↦ let z = d.outside b past in absurd (omega arith)
]

-- What a cut requires of the title and of the bytes, said of what all actors hold.
pub record IsCutOut (words : List ℕ) (total : Thing → ℕ) (t : Title) : Type 0 where
  pub raw : (b : ℕ) → t.start ≤ b → b < t.start + t.len → 0 < total (RawByte b)
  pub start_aligned : t.start % 8 ≡ 0
  pub len_aligned : t.len % 8 ≡ 0
  pub long : 16 ≤ t.len
  pub word : count_word words t ≡ 0

-- before a cut nobody holds the title
pub cut_unheld : (words : List ℕ) (total : Thing → ℕ) (t : Title) → IsDivided (length words) total → IsCutOut words total t →
    IsTitleHeld total t → ⊥
cut_unheld words total t d k held =
    let long = k.long in
    (raw_alone (length words) total t.start d (k.raw t.start (omega arith) (omega arith))).2 t held (omega arith, omega arith)

cut_divided : (words : List ℕ) (total later : Thing → ℕ) (t : Title) → IsDivided (length words) total → IsCutOut words total t →
    Changes total (RawPiece t.start t.len ∷ []) (FreePiece t ∷ []) later → IsDivided (length words) later
cut_divided words total later t d k c = record {
  bytes = λ b below. elim (covers_or t b) [
    | inl in_t ↦
        let raw = raw_alone (length words) total b d (k.raw b in_t.0 in_t.1) in
        let was = raw.1 in
        let a = c (RawByte b) in
        let x = covered_raw t.start t.len b in_t.0 in_t.1 in
        inr (omega arith, (t, now_held, in_t))
    | inr out ↦
        let a = c (RawByte b) in
        let x = uncovered_raw t.start t.len b out in
        let same : later (RawByte b) ≡ total (RawByte b) = omega arith in
        elim (d.bytes b below) [
          | inl r ↦ inl (
            same ∙ r.0,
            λ u held covers. elim (title_tells t u) [
              | inl y ↦ outside_t b out (subst (λ (x : Title). Covers x b) (sym y.1) covers)
              | inr n ↦ r.1 u (held_before u n.1 held) covers
            ],
          )
          | inr r ↦ inr (same ∙ r.0, (r.1.0, held_after r.1.0 r.1.1, r.1.2))
        ]
  ];
  outside = λ b past. elim (covers_or t b) [
    | inl in_t ↦
        let raw = raw_alone (length words) total b d (k.raw b in_t.0 in_t.1) in
        let below = raw.0 in absurd (omega arith)
    | inr out ↦
        let a = c (RawByte b) in
        let x = uncovered_raw t.start t.len b out in
        let z = d.outside b past in
        omega arith
  ];
  well = λ u held. elim (title_tells t u) [
    | inl y ↦ subst (λ (x : Title). IsWellFormed (length words) x) y.1 well_t
    | inr n ↦ d.well u (held_before u n.1 held)
  ];
  apart = λ u v b held other cu cv. elim (title_tells t u) [
    | inl y ↦ elim (title_tells t v) [
      | inl z ↦ sym y.1 ∙ z.1
      | inr m ↦ absurd (none_here b (subst (λ (x : Title). Covers x b) (sym y.1) cu) v (held_before v m.1 other) cv)
    ]
    | inr n ↦ elim (title_tells t v) [
      | inl z ↦ absurd (none_here b (subst (λ (x : Title). Covers x b) (sym z.1) cv) u (held_before u n.1 held) cu)
      | inr m ↦ d.apart u v b (held_before u n.1 held) (held_before v m.1 other) cu cv
    ]
  ];
}
  where
    now_held : IsTitleHeld later t
    now_held = let a = c (FreeTitle t) in let x = free_self t in omega arith

    held_before : (u : Title) → (t ≡ u → ⊥) → IsTitleHeld later u → IsTitleHeld total u
    held_before u ne held =
        let l = raw_none t.start t.len u in
        let g = free_none t u ne in
        let a = c (FreeTitle u) in let b = c (OwnOf u) in let e = c (RefOf u) in
        let g0 = g.free in let g1 = g.own in let g2 = g.ref in
        omega arith

    held_after : (u : Title) → IsTitleHeld total u → IsTitleHeld later u
    held_after u held =
        let a = c (FreeTitle u) in let b = c (OwnOf u) in let e = c (RefOf u) in
        omega arith

    outside_t : (b : ℕ) → (b < t.start) ⊎ (t.start + t.len ≤ b) → Covers t b → ⊥
    outside_t b (inl low) covers = let x = covers.0 in omega arith
    outside_t b (inr high) covers = let x = covers.1 in omega arith

    none_here : (b : ℕ) → Covers t b → (u : Title) → IsTitleHeld total u → Covers u b → ⊥
    none_here b in_t = (raw_alone (length words) total b d (k.raw b in_t.0 in_t.1)).2

    well_t : IsWellFormed (length words) t
    well_t =
        let long = k.long in
        let last = raw_alone (length words) total (t.start + t.len - 1) d (k.raw (t.start + t.len - 1) (omega arith) (omega arith)) in
        let below = last.0 in
        record { start_aligned = k.start_aligned; len_aligned = k.len_aligned; long = k.long; inside = omega arith }

pub cut_good : (words : List ℕ) (total later : Thing → ℕ) (t : Title) → IsGood words total → IsTally later → IsCutOut words total t →
    Changes total (RawPiece t.start t.len ∷ []) (FreePiece t ∷ []) later → IsGood words later
cut_good words total later t g tallied k c =
    good_by words total words later g (cut_divided words total later t g.divided k c)
    (λ u held. elim (title_tells t u) [
      | inl y ↦ inr (subst (λ (x : Title). IsTitleGood words later x) y.1 good)
      | inr n ↦ inl (cut_untouched words total later u (RawPiece t.start t.len ∷ []) (FreePiece t ∷ []) (raw_none t.start t.len u)
          (free_none t u n.1) c)
    ])
  where
    good : IsTitleGood words later t
    good =
        let free = c (FreeTitle t) in
        let own = c (OwnOf t) in
        let ref = c (RefOf t) in
        let f1 = free_self t in
        let none : total (FreeTitle t) + total (OwnOf t) + total (RefOf t) ≡ 0 =
        elim (cases_lt 0 (total (FreeTitle t) + total (OwnOf t) + total (RefOf t))) [
          | inl held ↦ absurd (cut_unheld words total t g.divided k held)
          | inr z ↦ omega arith
        ] in
        let w = k.word in
        record {
          counted = record {
            owns = rw w (omega arith);
            refs = rw w (omega arith);
            free = λ _. omega arith;
            taken = λ no. absurd (no (rw w (refl, refl)));
          };
          poison_kept = record {
            progress = λ j m. let p = tallied.part t (Poisoned j) in absurd (omega arith);
            quarantine = λ q. let z = (rw w at q).1 in absurd (omega arith);
          };
          content_kept = record {
            clean = λ m. let p = tallied.part t Clean in absurd (omega arith);
            shared = λ other many m. let p = tallied.part t other in absurd (omega arith);
          };
          seal_kept = λ m. let p = tallied.seal t in absurd (omega arith);
        }

-- a free title is held by nobody else, and as nothing else
pub free_alone : (words : List ℕ) (total : Thing → ℕ) (t : Title) → IsGood words total → 0 < total (FreeTitle t) →
    IsFree (count_word words t) × (total (FreeTitle t) ≡ 1) × (total (OwnOf t) ≡ 0) × (total (RefOf t) ≡ 0)
free_alone words total t g has =
    let counted = g.counted t (omega arith) in
    elim (free_or (count_word words t)) [
      | inl y ↦ let a = y.0 in let b = y.1 in let owns = counted.owns in let refs = counted.refs in
          (y, counted.free y, omega arith, omega arith)
      | inr n ↦ let e = counted.taken n in absurd (omega arith)
    ]

uncut_divided : (words : List ℕ) (total later : Thing → ℕ) (t : Title) → IsGood words total → 0 < total (FreeTitle t) →
    Changes total (FreePiece t ∷ []) (RawPiece t.start t.len ∷ []) later → IsDivided (length words) later
uncut_divided words total later t good has c = record {
  bytes = λ b below. elim (covers_or t b) [
    | inl in_t ↦
        let a = c (RawByte b) in
        let x = covered_raw t.start t.len b in_t.0 in_t.1 in
        let z = not_raw b below in_t in
        inl (omega arith, λ u held covers. none_after b in_t u held covers)
    | inr out ↦
        let a = c (RawByte b) in
        let x = uncovered_raw t.start t.len b out in
        let same : later (RawByte b) ≡ total (RawByte b) = omega arith in
        elim (d.bytes b below) [
          | inl r ↦ inl (same ∙ r.0, λ u held covers. r.1 u (held_before u held) covers)
          | inr r ↦ inr (
            same ∙ r.0,
            (r.1.0, held_after r.1.0 (λ e. outside_t b out (subst (λ (x : Title). Covers x b) (sym e) r.1.2)) r.1.1, r.1.2),
          )
        ]
  ];
  outside = λ b past. elim (covers_or t b) [
    | inl in_t ↦ let i = (d.well t held_t).inside in let y = in_t.1 in absurd (omega arith)
    | inr out ↦
        let a = c (RawByte b) in
        let x = uncovered_raw t.start t.len b out in
        let z = d.outside b past in
        omega arith
  ];
  well = λ u held. d.well u (held_before u held);
  apart = λ u v b held other. d.apart u v b (held_before u held) (held_before v other);
}
  where
    d : IsDivided (length words) total
    d = good.divided

    held_t : IsTitleHeld total t
    held_t = omega arith

    held_before : (u : Title) → IsTitleHeld later u → IsTitleHeld total u
    held_before u held =
        let a = c (FreeTitle u) in let b = c (OwnOf u) in let e = c (RefOf u) in
        omega arith

    held_after : (u : Title) → (t ≡ u → ⊥) → IsTitleHeld total u → IsTitleHeld later u
    held_after u ne held =
        let l = free_none t u ne in
        let a = c (FreeTitle u) in let b = c (OwnOf u) in let e = c (RefOf u) in
        let l0 = l.free in let l1 = l.own in let l2 = l.ref in
        omega arith

    outside_t : (b : ℕ) → (b < t.start) ⊎ (t.start + t.len ≤ b) → Covers t b → ⊥
    outside_t b (inl low) covers = let x = covers.0 in omega arith
    outside_t b (inr high) covers = let x = covers.1 in omega arith

    not_raw : (b : ℕ) → b < 8 * length words → Covers t b → total (RawByte b) ≡ 0
    not_raw b below in_t = elim (d.bytes b below) [
      | inl r ↦ absurd (r.1 t held_t in_t)
      | inr r ↦ r.0
    ]

    gone : IsTitleHeld later t → ⊥
    gone held =
        let alone = free_alone words total t good has in
        let p = alone.1 in let q = alone.2 in let r = alone.3 in
        let a = c (FreeTitle t) in let b = c (OwnOf t) in let e = c (RefOf t) in
        let x = free_self t in
        omega arith

    none_after : (b : ℕ) → Covers t b → (u : Title) → IsTitleHeld later u → Covers u b → ⊥
    none_after b in_t u held covers =
        gone (subst (λ (x : Title). IsTitleHeld later x) (sym (d.apart t u b held_t (held_before u held) in_t covers)) held)

pub uncut_good : (words : List ℕ) (total later : Thing → ℕ) (t : Title) → IsGood words total → 0 < total (FreeTitle t) →
    Changes total (FreePiece t ∷ []) (RawPiece t.start t.len ∷ []) later → IsGood words later
uncut_good words total later t g has c =
    good_by words total words later g (uncut_divided words total later t g has c)
    (λ u held. elim (title_tells t u) [
      | inl y ↦
          let alone = free_alone words total t g has in
          let p = alone.1 in let q = alone.2 in let r = alone.3 in
          let a = c (FreeTitle t) in let b = c (OwnOf t) in let e = c (RefOf t) in
          let x = free_self t in
          let still : IsTitleHeld later t = subst (λ (x : Title). IsTitleHeld later x) (sym y.1) held in
          absurd (omega arith)
      | inr n ↦ inl (cut_untouched words total later u (FreePiece t ∷ []) (RawPiece t.start t.len ∷ []) (free_none t u n.1)
          (raw_none t.start t.len u) c)
    ])
