-- Two runs of one trace in the order of the lines are the same: line by line they have the same records, entries and exchanges.
use Rattle.std.proofs.Common.{◌≡◌, ℕ, ◌+◌, ◌<◌, ◌≤◌, List, [], ◌∷◌, ◌++◌, map, get_or, drop, refl, sym, ◌∙◌, ap, subst, arith, inl, inr}
use Rattle.std.specs.Prelude.{Contains}
use Rattle.pa_trace.specs.Rules.{rules_of}
use Rattle.pa_record.specs.declared.entry.Answer.{Answer}
use Rattle.pa_lists.proofs.Members.{not_in_none, first_in}
use Rattle.pa_rules.specs.declared.played.Played.{Played}
use Rattle.pa_rules.specs.Played.{OpLine, op_line_of, entry_of}
use Rattle.pa_rules.specs.Report.{IsReport}
use Rattle.pa_rules.specs.Told.{told_by, records_of}
use Rattle.pa_rules.specs.Legal.{phases_in}
use Rattle.pa_rules.proofs.Recorded.{records_are_lines}
use Rattle.pa_one_run.specs.Laws.{AtMostOneFileRun}
use Rattle.pa_one_run.specs.Parts.{Parts, entry_line, pool_line, cell_line, parts_of}
use Rattle.pa_one_run.proofs.lines.Sorting.{below_all, rising_strictly, next_below, none_below, below_gap}
use Rattle.pa_one_run.proofs.Filed.{IsFiled, Agrees}
use Rattle.pa_one_run.proofs.Legality.{filed}
use Rattle.pa_one_run.proofs.words.Reading.{values_agree}
use Rattle.pa_one_run.proofs.rows.Rows.{answers_agree, exchanges_agree}
use Rattle.pa_one_run.proofs.placing.Placing.{placed_alike, lines_alike, other_answer}
use Rattle.pa_one_run.proofs.Reports.{one_report}
use Rattle.pa_one_run.proofs.lines.Cuts.{cut_start, IsCut, cut_next, IsRecorded, recorded_cases, cut_here, entries_recorded, pool_recorded, cells_recorded}

-- ---- what comes before a line, if nothing comes between

-- two runs that agree before a line agree before a later one, if no record comes between
agrees_later : (a b : Parts) (n m : ℕ) (before rest rest' : List Played) → IsFiled a → IsFiled b → IsCut a n before rest →
    IsCut b n before rest' → n ≤ m →
    ((x : Played) → Contains rest x → m ≤ x.line) → ((x : Played) → Contains rest' x → m ≤ x.line) → Agrees n a b → Agrees m a b
agrees_later a b n m before rest rest' h k here here' up late late' agrees =
    let gap = recorded_cases a n m before rest here late in
    let gap' = recorded_cases b n m before rest' here' late' in
    record {
      supers = agrees.supers;
      partitions = agrees.partitions;
      rules = agrees.rules;
      pool = sym (below_gap pool_line n m a.pools up (λ e among. gap e.line (pool_recorded a e h among))) ∙ agrees.pool
          ∙ below_gap pool_line n m b.pools up (λ e among. gap' e.line (pool_recorded b e k among));
      journals = λ p. sym (below_gap entry_line n m (a.roots p) up (λ e among. gap e.line (entries_recorded a p e h among))) ∙
          agrees.journals p
          ∙ below_gap entry_line n m (b.roots p) up (λ e among. gap' e.line (entries_recorded b p e k among));
      cells = λ c. sym (below_gap cell_line n m (a.cells c) up (λ e among. gap e.line (cells_recorded a c e h among))) ∙ agrees.cells c
          ∙ below_gap cell_line n m (b.cells c) up (λ e among. gap' e.line (cells_recorded b c e k among));
    }

-- ---- one line more

agrees_next : (a b : Parts) (before rest rest' : List Played) (x : Played) → IsFiled a → IsFiled b → a.ps ≡ before ++ x ∷ rest
    → b.ps ≡ before ++ x ∷ rest' → Agrees x.line a b → Agrees (x.line + 1) a b
agrees_next a b before rest rest' x h k parts parts' agrees =
    let (entries, pool) = lines_alike a b before rest rest' x h k parts parts' agrees in
    let exchanges = exchanges_agree a b before rest rest' x h k parts parts' agrees in
    record {
      supers = agrees.supers;
      partitions = agrees.partitions;
      rules = agrees.rules;
      pool = next_below pool_line x.line a.pools b.pools h.order.pool k.order.pool agrees.pool pool;
      journals = λ p. next_below entry_line x.line (a.roots p) (b.roots p) (h.order.journals p) (k.order.journals p) (agrees.journals p)
          (entries p);
      cells = λ c. next_below cell_line x.line (a.cells c) (b.cells c) (rising_strictly cell_line (a.cells c) (h.order.exchanges c))
          (rising_strictly cell_line (b.cells c) (k.order.exchanges c)) (agrees.cells c) (exchanges c);
    }

-- ---- all lines

-- two runs have the same records left, and the same journals, entries of the pool and exchanges
pub record IsOne (a b : Parts) (rest rest' : List Played) : Type 0 where
  pub records : rest ≡ rest'
  pub entries : (p : ℕ) → a.roots p ≡ b.roots p
  pub pool : a.pools ≡ b.pools
  pub exchanges : (c : ℕ) → a.cells c ≡ b.cells c

-- if no record is left, all comes before the line
all_below : (a : Parts) (n : ℕ) (before : List Played) → IsCut a n before [] → (line : ℕ) → IsRecorded a line → line < n
all_below a n before cut line of = elim (recorded_cases a n (line + 1) before [] cut (λ x among. absurd (not_in_none x among)) line of) [
  | inl less ↦ less
  | inr more ↦ absurd (omega arith)
]

at_end : (a b : Parts) (n : ℕ) (before : List Played) → IsFiled a → IsFiled b → IsCut a n before [] → IsCut b n before [] → Agrees n a b →
    IsOne a b [] []
at_end a b n before h k here here' agrees =
    let low = all_below a n before here in
    let low' = all_below b n before here' in
    record {
      records = refl;
      entries = λ p. sym (below_all entry_line n (a.roots p) (λ e among. low e.line (entries_recorded a p e h among))) ∙ agrees.journals p
          ∙ below_all entry_line n (b.roots p) (λ e among. low' e.line (entries_recorded b p e k among));
      pool = sym (below_all pool_line n a.pools (λ e among. low e.line (pool_recorded a e h among))) ∙ agrees.pool
          ∙ below_all pool_line n b.pools (λ e among. low' e.line (pool_recorded b e k among));
      exchanges = λ c. sym (below_all cell_line n (a.cells c) (λ e among. low e.line (cells_recorded a c e h among))) ∙ agrees.cells c
          ∙ below_all cell_line n (b.cells c) (λ e among. low' e.line (cells_recorded b c e k among));
    }

-- if the next records of two runs are of one op line, they are one record, and the runs agree before the next line
next_one : (a b : Parts) (n : ℕ) (before rest rest' : List Played) (x y : Played) → IsFiled a → IsFiled b → IsCut a n before (x ∷ rest) →
    IsCut b n before (y ∷ rest') →
    op_line_of x ≡ op_line_of y → Agrees n a b → (x ≡ y) × Agrees x.line a b
next_one a b n before rest rest' x y h k here here' same agrees =
    let lines : x.line ≡ y.line = ap (λ (z : OpLine). z.line) same in
    let there : Agrees x.line a b =
    agrees_later a b n x.line before (x ∷ rest) (y ∷ rest') h k here here' (here.late x (first_in x rest))
    (cut_here a before rest x h here.parts).late
    (λ z among. let up = (cut_here b before rest' y k here'.parts).late z among in omega arith) agrees in
    let answers = answers_agree a b before rest rest' x y h k here.parts here'.parts same there
    (placed_alike a b before rest rest' x y h k here.parts here'.parts same there)
    (λ seen v w. values_agree a b before rest rest' x y seen v w h k here.parts here'.parts) in
    (ap (λ (z : Answer). record x { answer = z }) answers ∙ sym (other_answer x y same), there)

head_of : (x y : OpLine) (xs ys : List OpLine) → x ∷ xs ≡ y ∷ ys → x ≡ y
head_of x y xs ys e = ap (λ z. get_or z 0 x) e

walk : (a b : Parts) (n : ℕ) (before rest rest' : List Played) → IsFiled a → IsFiled b → IsCut a n before rest → IsCut b n before rest' →
    map op_line_of rest ≡ map op_line_of rest' → Agrees n a b →
    IsOne a b rest rest'
walk a b n before [] [] h k here here' same agrees = at_end a b n before h k here here' agrees
walk a b n before [] (y ∷ rest') h k here here' same agrees = absurd cc
walk a b n before (x ∷ rest) [] h k here here' same agrees = absurd cc
walk a b n before (x ∷ rest) (y ∷ rest') h k here here' same agrees =
    let (one, there) = next_one a b n before rest rest' x y h k here here'
    (head_of _ _ (map op_line_of rest) (map op_line_of rest') same) agrees in
    let here'' : IsCut b n before (x ∷ rest') = subst (λ z. IsCut b n before (z ∷ rest')) (sym one) here' in
    let ih = walk a b (x.line + 1) (before ++ x ∷ []) rest rest' h k (cut_next a before rest x h here.parts)
    (cut_next b before rest' x k here''.parts) (ap (drop 1) same)
    (agrees_next a b before rest rest' x h k here.parts here''.parts there) in
    record {
      records = ap (λ z. z ∷ rest) one ∙ ap (λ zs. y ∷ zs) ih.records;
      entries = ih.entries;
      pool = ih.pool;
      exchanges = ih.exchanges;
    }

pub one_filed : (a b : Parts) → IsFiled a → IsFiled b → a.supers ≡ b.supers → a.partitions ≡ b.partitions → a.rules ≡ b.rules →
    map op_line_of a.ps ≡ map op_line_of b.ps → IsOne a b a.ps b.ps
one_filed a b h k supers partitions rules same =
    walk a b 0 [] a.ps b.ps h k (cut_start a) (cut_start b) same
    (record {
      supers = supers;
      partitions = partitions;
      rules = rules;
      pool = none_below pool_line a.pools b.pools;
      journals = λ p. none_below entry_line (a.roots p) (b.roots p);
      cells = λ c. none_below cell_line (a.cells c) (b.cells c);
    })

-- ---- the law

pub one_file_run : AtMostOneFileRun
one_file_run t r r' limits (legal, order) (legal', order') =
    let told = told_by r in
    let told' = told_by r' in
    let ps = records_of t told in
    let ps' = records_of t told' in
    let h = filed t told limits (legal, order) in
    let k = filed t told' limits (legal', order') in
    let lines = records_are_lines.lines (rules_of t) t.lines told.entries legal.lines in
    let lines' = records_are_lines.lines (rules_of t) t.lines told'.entries legal'.lines in
    let one = one_filed (parts_of t told) (parts_of t told') h k refl refl refl (lines ∙ sym lines') in
    let journals : told'.roots ≡ told.roots = λ i p. sym (one.entries p) i in
    let phases = phases_in t.lines in
    let report : IsReport phases t.partitions t.threads ps told.pools told.roots told'.report =
    subst (λ z. IsReport phases t.partitions t.threads z told.pools told.roots told'.report) (sym one.records)
    (subst (λ z. IsReport phases t.partitions t.threads ps' z told.roots told'.report) (sym one.pool)
    (subst (λ z. IsReport phases t.partitions t.threads ps' told'.pools z told'.report) journals legal'.report)) in
    record {
      entries = sym (records_are_lines.told (rules_of t) t.lines told.entries legal.lines) ∙ ap (map entry_of) one.records ∙
          records_are_lines.told (rules_of t) t.lines told'.entries legal'.lines;
      roots = one.entries;
      pool = one.pool;
      cells = one.exchanges;
      report = one_report (parts_of t told) phases told.report told'.report h legal.report report;
    }
