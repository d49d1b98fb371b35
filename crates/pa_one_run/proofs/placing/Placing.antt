-- What the placement does on a line is what it did on the lines before it and the line's op ask for.
use Rattle.std.proofs.Common.{◌≡◌, ℕ, List, [], ◌∷◌, ◌++◌, ◌<◌, refl, sym, ◌∙◌, ap, subst, arith, append_assoc}
use Rattle.std.specs.Prelude.{Contains}
use Rattle.pa_record.specs.declared.entry.Answer.{Answer}
use Rattle.pa_lists.proofs.Members.{first_in, later_in}
use Rattle.pa_record.specs.declared.entry.Answer.TheVariants as answers
use Rattle.pa_rules.specs.declared.played.Played.{Played}
use Rattle.pa_rules.specs.Played.{OpLine, op_line_of}
use Rattle.pa_rules.specs.Caches.{Cache, Caches, CacheRow, CachesTo, no_caches, with_cache}
use Rattle.pa_one_run.specs.Parts.{Parts, entry_line, pool_line}
use Rattle.pa_one_run.specs.Before.{on}
use Rattle.pa_one_run.proofs.Filed.{IsFiled, Agrees, IsPlacedAlike, agrees_earlier, agrees_swap, agrees_self}
use Rattle.pa_one_run.proofs.roots.Replays.{acts_tell}
use Rattle.pa_one_run.proofs.roots.Requests.{Beside}
use Rattle.pa_one_run.proofs.placing.CacheRows.{row_alike, made_alike, made_or_full, full_entry, purged_alike}
use Rattle.pa_one_run.proofs.lines.Cuts.{record_row, cut_here}
use Rattle.pa_lists.proofs.Elements.{parts_at}

-- ---- along the records

walk : (a b : Parts) (done xs rest rest' : List Played) (n : ℕ) (all after after' : Caches) → IsFiled a → IsFiled b → a.ps ≡ done ++
    (xs ++ rest) → b.ps ≡ done ++ (xs ++ rest') →
    ((x : Played) → Contains xs x → x.line < n) → Agrees n a b → CachesTo a.partitions a.roots all xs after →
    CachesTo b.partitions b.roots all xs after' → after ≡ after'
walk a b done [] rest rest' n all after after' h k parts parts' early agrees to to' = to ∙ sym to'
walk a b done (x ∷ xs) rest rest' n all after after' h k parts parts' early agrees (next, row, to) (next', row', to') =
    let less = early x (first_in x xs) in
    let beside : Beside a b done x x.answer =
    record {
      filed = h;
      filed' = k;
      agrees = agrees_earlier a b x.line n (omega arith) agrees;
      rest = xs ++ rest;
      rest' = xs ++
          rest';
      parts = parts;
      parts' = parts';
    } in
    let same = (row_alike a b done x x.answer (all x.thread) next next' beside refl row row').caches in
    walk a b (done ++ x ∷ []) xs rest rest' n (with_cache all x.thread next) after after' h k
    (parts ∙ sym (append_assoc done (x ∷ []) (xs ++ rest))) (parts' ∙ sym (append_assoc done (x ∷ []) (xs ++ rest')))
    (λ y among. early y (later_in x y xs among)) agrees to
    (subst (λ c. CachesTo b.partitions b.roots (with_cache all x.thread c) xs after') (sym same) to')

-- ---- the record of a line

-- both records' rows, from the same lists
record HaveRows (a b : Parts) (before : List Played) (x : Played) (v : Answer) : Type 0 where
  beside : Beside a b before x v
  cache : Cache
  next : Cache
  next' : Cache
  row : CacheRow a.partitions a.roots x x.answer cache next
  row' : CacheRow b.partitions b.roots x v cache next'

have_rows : (a b : Parts) (before rest rest' : List Played) (x : Played) (v : Answer) → IsFiled a → IsFiled b → a.ps ≡ before ++ x ∷ rest
    → b.ps ≡ before ++ record x { answer = v } ∷ rest' → Agrees x.line a b →
    HaveRows a b before x v
have_rows a b before rest rest' x v h k parts parts' agrees =
    let y = record x { answer = v } in
    let (all, next, to, row) = record_row a before rest x h parts in
    let (all', next', to', row') = record_row b before rest' y k parts' in
    let same = walk a b [] before (x ∷ rest) (y ∷ rest') x.line no_caches all all' h k parts parts'
    (cut_here a before rest x h parts).early agrees to to' in
    record {
      beside = record { filed = h; filed' = k; agrees = agrees; rest = rest; rest' = rest'; parts = parts; parts' = parts' };
      cache = all x.thread;
      next = next;
      next' = next';
      row = row;
      row' = subst (λ (c : Caches). CacheRow b.partitions b.roots y v (c x.thread) next') (sym same) row';
    }

-- the two runs change places
turned : (a b : Parts) (before : List Played) (x : Played) (v : Answer) → Beside a b before x v →
    Beside b a before (record x { answer = v }) x.answer
turned a b before x v h = record {
  filed = h.filed';
  filed' = h.filed;
  agrees = agrees_swap x.line a b h.agrees;
  rest = h.rest';
  rest' = h.rest;
  parts = h.parts';
  parts' = h.parts;
}

row_is : (a : Parts) (x : Played) (u v : Answer) (cache next : Cache) → u ≡ v → CacheRow a.partitions a.roots x u cache next →
    CacheRow a.partitions a.roots x v cache next
row_is a x u v cache next e row = subst (λ z. CacheRow a.partitions a.roots x z cache next) e row

rows_placed : (a b : Parts) (before : List Played) (x : Played) (v : Answer) → HaveRows a b before x v → IsPlacedAlike x.answer v
rows_placed a b before x v h = record {
  made = λ seen other u w is is'.
      (made_alike a b before x v seen other h.cache h.next h.next' h.beside
      (row_is a x x.answer (answers.Made seen u) h.cache h.next is h.row)
      (row_is b x v (answers.Made other w) h.cache h.next' is' h.row')).slot;
  made_full = λ seen u j is is'.
      made_or_full a b before x v seen h.cache h.next h.next' h.beside (row_is a x x.answer (answers.Made seen u) h.cache h.next is h.row)
      (row_is b x v (answers.Full j) h.cache h.next' is' h.row');
  full_made = λ seen u j is is'.
      made_or_full b a before (record x { answer = v }) x.answer seen h.cache h.next' h.next (turned a b before x v h.beside)
      (row_is b x v (answers.Made seen u) h.cache h.next' is' h.row')
      (row_is a x x.answer (answers.Full j) h.cache h.next is h.row);
  full = λ i j is is'.
      full_entry a b before x i j h.cache h.next h.next' (subst (λ z. Beside a b before x z) is' h.beside) is
      (row_is a x x.answer (answers.Full i) h.cache h.next is h.row)
      (row_is b x v (answers.Full j) h.cache h.next' is' h.row');
  purged = λ i j is is'.
      (purged_alike a b before x v i j h.cache h.next h.next' h.beside (row_is a x x.answer (answers.Purged i) h.cache h.next is h.row)
      (row_is b x v (answers.Purged j) h.cache h.next' is' h.row')).0;
}

-- records of one op line differ in their answers alone
pub other_answer : (x y : Played) → op_line_of x ≡ op_line_of y → y ≡ record x { answer = y.answer }
other_answer x y same = ap {B = Played}
    (λ (o : OpLine). record { line = o.line; thread = o.thread; phase = o.phase; rules = o.rules; op = o.op; answer = y.answer }) (sym same)

pub placed_alike : (a b : Parts) (before rest rest' : List Played) (x y : Played) → IsFiled a → IsFiled b → a.ps ≡ before ++ x ∷ rest →
    b.ps ≡ before ++ y ∷ rest' → op_line_of x ≡ op_line_of y →
    Agrees x.line a b → IsPlacedAlike x.answer y.answer
placed_alike a b before rest rest' x y h k parts parts' same agrees =
    rows_placed a b before x y.answer
    (have_rows a b before rest rest' x y.answer h k parts (parts' ∙ ap (λ z. before ++ z ∷ rest') (other_answer x y same)) agrees)

pub lines_alike : (a b : Parts) (before rest rest' : List Played) (x : Played) → IsFiled a → IsFiled b → a.ps ≡ before ++ x ∷ rest →
    b.ps ≡ before ++ x ∷ rest' → Agrees x.line a b →
    ((p : ℕ) → on entry_line x.line (a.roots p) ≡ on entry_line x.line (b.roots p)) ×
    (on pool_line x.line a.pools ≡ on pool_line x.line b.pools)
lines_alike a b before rest rest' x h k parts parts' agrees =
    let rows = have_rows a b before rest rest' x x.answer h k parts parts' agrees in
    let line = (row_alike a b before x x.answer rows.cache rows.next rows.next' rows.beside refl rows.row rows.row').line in
    (λ p. acts_tell a b x.line p (line.acts p), line.pool)

-- a record of a run, from the same lists, leaves the same lists
pub row_once : (a : Parts) (x : Played) (cache next next' : Cache) → IsFiled a → Contains a.ps x
    → CacheRow a.partitions a.roots x x.answer cache next → CacheRow a.partitions a.roots x x.answer cache next' → next ≡ next'
row_once a x cache next next' h among row row' =
    let (before, rest, parts) = parts_at a.ps x among in
    let beside : Beside a a before x x.answer =
    record { filed = h; filed' = h; agrees = agrees_self x.line a; rest = rest; rest' = rest; parts = parts; parts' = parts } in
    (row_alike a a before x x.answer cache next next' beside refl row row').caches
