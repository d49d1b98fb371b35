-- The entries of a line by their places, while a journal is gone through.
use Rattle.std.proofs.Common.{◌≡◌, ℕ, ◌+◌, ◌<◌, ◌≤◌, ◌==◌, cond, List, [], ◌∷◌, ◌++◌, get_or, set, length, map, take, refl, sym, ◌∙◌, ap, subst, arith, inl, inr}
use Rattle.std.specs.Prelude.{All, filter, slice_get, Some}
use Rattle.std.proofs.lemmas.Option.{slice_get_within, get_or_from_slice_get}
use Rattle.std.proofs.Math.Seq.{take_all}
use Rattle.std.proofs.lemmas.Bool.{cases_eq, cases_lt, eq-eqb, ne_eqb}
use Rattle.std.proofs.lemmas.List.{append-nil, map-append, get_or_past, get_or-set_same, get_or-set_other, length-map, length-set, set_past}
use Rattle.std.proofs.lemmas.List.Elements.{All-push, filter_more}
use Rattle.pa_record.specs.declared.root.RootEntry.{RootEntry}
use Rattle.pa_record.specs.declared.root.RootAct.{RootAct}
use Rattle.pa_rules.specs.Roots.{journal_at}
use Rattle.pa_record.specs.declared.root.RootAct.TheVariants.{Purge}
use Rattle.pa_rules.specs.Caches.{acts_of}
use Rattle.pa_audit_holders.specs.Lines.{no_entry, did_at, acts_on, ArePlacesOf, AreOnLines, KnowsLine, NoneBut}
use Rattle.pa_audit_holders.proofs.Giving.{act_found}

abbrev act_in : RootEntry → RootAct
act_in e = e.act

-- for each line below a number, the places of those of its entries that are among the first j
pub record AreOnLinesTo (journal : List RootEntry) (count : ℕ) (table : List (List ℕ)) (j : ℕ) : Type 0 where
  pub many : length table ≡ count
  pub among : (l : ℕ) → l < count → All (λ k. k < j) (get_or table l [])
  pub acts : (l : ℕ) → l < count → map (did_at journal) (get_or table l []) ≡ acts_on (take j journal) l

pub lines_start : (journal : List RootEntry) (count : ℕ) (table : List (List ℕ)) → length table ≡ count →
    ((l : ℕ) → get_or table l [] ≡ []) → AreOnLinesTo journal count table 0
lines_start journal count table long none = record {
  many = long;
  among = λ l below. subst (λ xs. All (λ k. k < 0) xs) (sym (none l)) (λ i d less. absurd (omega (arith, less)));
  acts = λ l below. ap (map (did_at journal)) (none l);
}

-- what the next entry adds to the acts of a line
acts_more : (journal : List RootEntry) (j l : ℕ) → j < length journal
    → acts_on (take (j + 1) journal) l ≡ acts_on (take j journal) l ++ map act_in
    (cond ((get_or journal j no_entry).line == l) (get_or journal j no_entry ∷ []) [])
acts_more journal j l below =
    ap (map act_in) (filter_more (λ (e : RootEntry). e.line == l) journal j no_entry below)
    ∙ map-append act_in (filter (λ (e : RootEntry). e.line == l) (take j journal))
    (cond ((get_or journal j no_entry).line == l) (get_or journal j no_entry ∷ []) [])

acts_hit : (journal : List RootEntry) (j l : ℕ) → j < length journal → (get_or journal j no_entry).line ≡ l →
    acts_on (take (j + 1) journal) l ≡ acts_on (take j journal) l ++ did_at journal j ∷ []
acts_hit journal j l below hit =
    acts_more journal j l below ∙ ap (λ b. acts_on (take j journal) l ++ map act_in (cond b (get_or journal j no_entry ∷ []) []))
    (eq-eqb (get_or journal j no_entry).line l hit)

acts_miss : (journal : List RootEntry) (j l : ℕ) → j < length journal → ((get_or journal j no_entry).line ≡ l → ⊥) →
    acts_on (take (j + 1) journal) l ≡ acts_on (take j journal) l
acts_miss journal j l below miss =
    acts_more journal j l below ∙ ap (λ b. acts_on (take j journal) l ++ map act_in (cond b (get_or journal j no_entry ∷ []) []))
    (ne_eqb (get_or journal j no_entry).line l miss)
    ∙ append-nil (acts_on (take j journal) l)

below_next : (j : ℕ) (xs : List ℕ) → All (λ k. k < j) xs → All (λ k. k < j + 1) xs
below_next j xs h = λ i d less. let at = h i d less in omega (arith, at)

-- an entry of a line that the table has
pub lines_hit : (journal : List RootEntry) (count : ℕ) (table : List (List ℕ)) (j line : ℕ) → AreOnLinesTo journal count table j
    → j < length journal → (get_or journal j no_entry).line ≡ line → line < count →
    AreOnLinesTo journal count (set table line (get_or table line [] ++ j ∷ [])) (j + 1)
lines_hit journal count table j line h below is within =
    let long = h.many in
    record {
      many = length-set table line (get_or table line [] ++ j ∷ []) ∙ h.many;
      among = λ l less. elim (cases_eq l line) [
        | inl same ↦
            subst (λ xs. All (λ k. k < j + 1) xs) (sym (ap (λ z. get_or (set table line (get_or table line [] ++ j ∷ [])) z []) same
            ∙ get_or-set_same table line (get_or table line [] ++ j ∷ []) [] (omega arith)))
            (All-push (λ k. k < j + 1) (get_or table line []) j (below_next j (get_or table line []) (h.among line within)) (omega arith))
        | inr ne ↦ subst (λ xs. All (λ k. k < j + 1) xs) (sym (get_or-set_other table line l (get_or table line [] ++ j ∷ []) [] ne))
            (below_next j (get_or table l []) (h.among l less))
      ];
      acts = λ l less. elim (cases_eq l line) [
        | inl same ↦
            ap (map (did_at journal))
            (ap (λ z. get_or (set table line (get_or table line [] ++ j ∷ [])) z []) same ∙
            get_or-set_same table line (get_or table line [] ++ j ∷ []) [] (omega arith))
            ∙ map-append (did_at journal) (get_or table line []) (j ∷ []) ∙ ap (λ z. z ++ did_at journal j ∷ []) (h.acts line within) ∙
            sym (acts_hit journal j line below is)
            ∙ ap (acts_on (take (j + 1) journal)) (sym same)
        | inr ne ↦
            ap (map (did_at journal)) (get_or-set_other table line l (get_or table line [] ++ j ∷ []) [] ne) ∙ h.acts l less ∙
            sym (acts_miss journal j l below (λ e. ne (sym e ∙ is)))
      ];
    }

-- an entry on a line past the table leaves the table as it is
pub lines_miss : (journal : List RootEntry) (count : ℕ) (table : List (List ℕ)) (j : ℕ) → AreOnLinesTo journal count table j →
    j < length journal → count ≤ (get_or journal j no_entry).line →
    AreOnLinesTo journal count table (j + 1)
lines_miss journal count table j h below past = record {
  many = h.many;
  among = λ l less. below_next j (get_or table l []) (h.among l less);
  acts = λ l less. h.acts l less ∙ sym (acts_miss journal j l below (λ e. omega (arith, e, less, past)));
}

pub lines_whole : (journal : List RootEntry) (count : ℕ) (table : List (List ℕ)) (j : ℕ) → AreOnLinesTo journal count table j →
    length journal ≡ j → AreOnLines journal count table
lines_whole journal count table j h end = λ l less. record {
  among = subst (λ n. All (λ k. k < n) (get_or table l [])) (sym end) (h.among l less);
  did = h.acts l less ∙ ap (λ es. acts_on es l) (take_all j journal (omega arith));
}

-- of a journal of no entries no line need be in the table
pub no_lines : (journal : List RootEntry) (count : ℕ) (table : List (List ℕ)) → length journal ≡ 0 → table ≡ [] →
    AreOnLines journal count table
no_lines [] count table none is = λ l less. subst (λ (t : List (List ℕ)). ArePlacesOf [] (get_or t l []) []) (sym is)
    (record { among = λ i d below. absurd (omega (arith, below)); did = refl })
no_lines (e ∷ es) count table none is = absurd (omega (arith, none))

-- ---- all journals

-- the tables of the first p journals
pub record HaveLinesTo (roots : List (List RootEntry)) (count : ℕ) (tables : List (List (List ℕ))) (p : ℕ) : Type 0 where
  pub many : length tables ≡ p
  pub each : (q : ℕ) → q < p → AreOnLines (journal_at roots q) count (get_or tables q [])

-- a journal that isn't there has no entries
pub no_acts_past : (roots : List (List RootEntry)) (line p : ℕ) → length roots ≤ p → acts_of (journal_at roots) line p ≡ []
no_acts_past roots line p past = ap (λ es. acts_on es line) (get_or_past roots p [] past)

-- the next entry, whose place comes after those of its line if the table has that
pub lines_next : (journal : List RootEntry) (count : ℕ) (table : List (List ℕ)) (j place line : ℕ) (e : RootEntry)
    → AreOnLinesTo journal count table j → place ≡ j → slice_get journal j ≡ Some e → e.line ≡ line →
    AreOnLinesTo journal count (set table line (get_or table line [] ++ place ∷ [])) (j + 1)
lines_next journal count table j place line e h same at is =
    let below : j < length journal = slice_get_within journal j e at in
    let entry : get_or journal j no_entry ≡ e = get_or_from_slice_get journal j e no_entry at in
    let on : (get_or journal j no_entry).line ≡ line = ap (λ (z : RootEntry). z.line) entry ∙ is in
    subst (λ k. AreOnLinesTo journal count (set table line (get_or table line [] ++ k ∷ [])) (j + 1)) (sym same)
    (elim (cases_lt line count) [
      | inl less ↦ lines_hit journal count table j line h below on less
      | inr past ↦
          let long = h.many in
          subst (λ t. AreOnLinesTo journal count t (j + 1))
          (sym (set_past table line (get_or table line [] ++ j ∷ []) (omega (arith, long, past))))
          (lines_miss journal count table j h below (subst (λ k. count ≤ k) (sym on) past))
    ])

-- ---- a line's places

pub places_none : (roots : List (List RootEntry)) (tables : List (List (List ℕ))) (line p : ℕ) →
    KnowsLine roots tables line → length tables ≤ p →
    ArePlacesOf (journal_at roots p) [] (acts_of (journal_at roots) line p)
places_none roots tables line p known past =
    let long = known.many in
    record { among = λ i d less. absurd (omega (arith, less)); did = sym (no_acts_past roots line p (omega (arith, long, past))) }

-- ---- how many entries a line has

pub none_more : (roots : List (List RootEntry)) (line p n : ℕ) → ((q : ℕ) → q < n → (q ≡ p → ⊥) → acts_of (journal_at roots) line q ≡ []) →
    ((n ≡ p → ⊥) → acts_of (journal_at roots) line n ≡ [])
    → (q : ℕ) → q < n + 1 → (q ≡ p → ⊥) → acts_of (journal_at roots) line q ≡ []
none_more roots line p n h here q less = elim (cases_lt q n) [
  | inl before ↦ h q before
  | inr least ↦ let same : n ≡ q = omega (arith, less, least) in subst (λ k. (k ≡ p → ⊥) → acts_of (journal_at roots) line k ≡ []) same here
]

pub none_all : (roots : List (List RootEntry)) (line p n : ℕ) → ((q : ℕ) → q < n → (q ≡ p → ⊥) → acts_of (journal_at roots) line q ≡ []) →
    length roots ≤ n → NoneBut (journal_at roots) line p
none_all roots line p n h end q other = elim (cases_lt q n) [
  | inl before ↦ h q before other
  | inr past ↦ no_acts_past roots line q (omega (arith, end, past))
]

one_of : {X : Type 0} (xs : List X) (d : X) → length xs ≡ 1 → xs ≡ get_or xs 0 d ∷ []
one_of [] d one = absurd (omega (arith, one))
one_of (x ∷ []) d one = refl
one_of (x ∷ y ∷ xs) d one = absurd (omega (arith, one))

-- the one entry of a line
pub one_there : (journal : List RootEntry) (places : List ℕ) (acts : List RootAct) (e : RootEntry) → ArePlacesOf journal places acts
    → length places ≡ 1 → acts ≡ (get_or journal (get_or places 0 0) e).act ∷ []
one_there journal places acts e h one =
    let long = length-map places (did_at journal) in
    sym h.did ∙ one_of (map (did_at journal) places) Purge (long ∙ one) ∙
    ap (λ a. a ∷ []) (act_found journal places 0 e h.among (omega (arith, one)))

pub one_was : (journal : List RootEntry) (places : List ℕ) (acts : List RootAct) (a : RootAct) → ArePlacesOf journal places acts →
    acts ≡ a ∷ [] → length places ≡ 1
one_was journal places acts a h is = sym (length-map places (did_at journal)) ∙ ap length (h.did ∙ is)
