-- Calls that leave a worker's lists: each listed title is free still, and has the first word that it had.
use Rattle.std.proofs.Common.{◌≡◌, ℕ, ◌+◌, ◌*◌, ◌/◌, ◌<◌, Bool, true, false, List, length, refl, sym, ◌∙◌, ap, subst, arith, ◌⊎◌, inl, inr, ltb}
use Rattle.std.specs.Prelude.{All, Contains, slice_index, if◌then◌else◌}
use Rattle.std.proofs.lemmas.Bool.{cases_lt}
use Rattle.pa_slot.specs.declared.title.Title.{Title}
use Rattle.pa_slot.specs.Titles.{IsWellFormed, content_count, count_place}
use Rattle.pa_slot.specs.Links.{first_word}
use Rattle.pa_record.specs.Spans.{name_of}
use Rattle.pa_region.specs.declared.view.View.{View}
use Rattle.pa_region.specs.Views.{Knows, HasTitle, free_of}
use Rattle.pa_region.specs.Aware.{IsAware}
use Rattle.pa_region.specs.Hands.{united, knowing}
use Rattle.pa_region.specs.Lending.{Keeps}
use Rattle.pa_region.specs.Moves.{filled_with}
use Rattle.pa_region.specs.Shares.{IsUser}
use Rattle.pa_region.proofs.Filled.{filled_beside}
use Rattle.pa_region.proofs.Merging.{merged_at}
use Rattle.pa_region.proofs.TakeLaws.{left_known}
use Rattle.pa_root.proofs.Seeing.{free_kept}
use Rattle.pa_rules.specs.Sizes.{class_total}
use Rattle.pa_cache.specs.Chained.{HoldsList}
use Rattle.pa_cells.specs.Handles.{SlotsStaySeen}
use Rattle.pa_op_specs.specs.Stocks.{StockRegister, StockValue, WorkerLists, IsStock, titles_in}
use Rattle.pa_thread_state.proofs.Parking.{kept_stock}
use Rattle.pa_thread_state.specs.Lists.{WorkerCaches, lists_in}
use Rattle.pa_thread_state.proofs.Chained.{as_many, lists_kept}

-- the thread state that these make: its lists are those that the view has of the caches
abbrev pub stock_of : (thread partitions plain_from : ℕ) → View → List StockRegister → WorkerCaches → StockValue
stock_of thread partitions plain_from v rs cs =
    record { thread = thread; partitions = partitions; plain_from = plain_from; view = v; registers = rs; caches = lists_in v cs }

-- each listed title has in the other view the first word that it has
abbrev pub FirstsStay : StockValue → View → Type 0
FirstsStay s w =
    (p class : ℕ) (t : Title) → Contains (titles_in s.caches p class) t →
    first_word w.words (name_of t) ≡ first_word s.view.words (name_of t)

-- A seat with view w has of the caches the lists that the thread state has, which is sound with it.
pub record HasThem (s : StockValue) (w : View) (rs : List StockRegister) (cs : WorkerCaches) : Type 0 where
  pub same : lists_in w cs ≡ s.caches
  pub stock : IsStock (record s { view = w; registers = rs; caches = lists_in w cs })
  pub holds : All (HoldsList w) cs.parts

pub has_still : (s : StockValue) (w : View) (rs : List StockRegister) (cs : WorkerCaches) → s.caches ≡ lists_in s.view cs → IsStock s →
    All (HoldsList s.view) cs.parts → IsStock (record s { view = w; registers = rs }) → FirstsStay s w → HasThem s w rs cs
has_still s w rs cs are was has now firsts =
    let many : length (lists_in s.view cs).lists ≡ 4 * class_total cs.version =
    subst (λ (ls : WorkerLists). length ls.lists ≡ 4 * class_total ls.version) are was.lists.count in
    let long = as_many s.view cs many in
    let kept = lists_kept s.view w cs long has (λ p class t among.
    let there = subst (λ ls. Contains (titles_in ls p class) t) (sym are) among in
    (now.lists.free p class t there, firsts p class t there)) in
    let same = kept.1 ∙ sym are in
    record {
      same = same;
      stock = subst (λ ls. IsStock (record s { view = w; registers = rs; caches = ls })) (sym same) now;
      holds = kept.0;
    }

-- a seat whose view w is x has the thread's lists, if with x the thread state is sound and first words of listed titles stay
pub has_as : (s : StockValue) (w x : View) (rs : List StockRegister) (cs : WorkerCaches) → w ≡ x → s.caches ≡ lists_in s.view cs →
    IsStock s →
    All (HoldsList s.view) cs.parts → IsStock (record s { view = x; registers = rs }) → FirstsStay s x → HasThem s w rs cs
has_as s w x rs cs e are was has now firsts = subst (λ v. HasThem s v rs cs) (sym e) (has_still s x rs cs are was has now firsts)

-- if the seat has the thread's lists, the thread state made of its parts is the one before with view x and registers rs
pub after_as : (s : StockValue) (w x : View) (rs : List StockRegister) (cs : WorkerCaches) → w ≡ x → HasThem s w rs cs →
    record s { view = w; registers = rs; caches = lists_in w cs } ≡ record s { view = x; registers = rs }
after_as s w x rs cs e them =
    ap (λ ls. record s { view = w; registers = rs; caches = ls }) them.same ∙ ap (λ v. record s { view = v; registers = rs }) e

-- ---- why first words stay

-- the seat knows them
pub knows_first : (s : StockValue) (p class : ℕ) (t : Title) → IsStock s → Contains (titles_in s.caches p class) t →
    Knows s.view (t.start / 8)
knows_first s p class t is among =
    let (n, well) = is.lists.well p class t among in
    let a = well.start_aligned in let b = well.long in
    inr (inl (t, is.lists.free p class t among, (omega arith, omega arith)))

-- what keeps known words keeps them
pub firsts_keep : (s : StockValue) (w : View) → IsStock s → Keeps s.view w → FirstsStay s w
firsts_keep s w is keeps p class t among = keeps.words (t.start / 8) (knows_first s p class t is among)

-- a seat still has the thread's lists if its view keeps all it had, or is unchanged
pub kept_has : SlotsStaySeen → (s : StockValue) (w : View) (cs : WorkerCaches) → s.caches ≡ lists_in s.view cs → IsStock s →
    All (HoldsList s.view) cs.parts → Keeps s.view w → HasThem s w s.registers cs
kept_has stays s w cs are is has keeps = has_still s w s.registers cs are is has (kept_stock stays s w is keeps) (firsts_keep s w is keeps)

pub same_has : (s : StockValue) (w : View) (cs : WorkerCaches) → s.caches ≡ lists_in s.view cs → IsStock s →
    All (HoldsList s.view) cs.parts →
    w ≡ s.view → HasThem s w s.registers cs
same_has s w cs are is has same = has_as s w s.view s.registers cs same are is has is (λ p class t among. refl)

-- a note that is taken in keeps them too
pub firsts_join : (s : StockValue) (n : View) → IsStock s → length s.view.words ≡ length n.words → FirstsStay s (united s.view n)
firsts_join s n is long p class t among = left_known s.view n (t.start / 8) long (knows_first s p class t is among)

-- words that are others only in a title that the seat has, and that is on no list
pub firsts_beside : (words : ℕ) (s : StockValue) (w : View) (u : Title) → IsStock s → IsAware s.view → IsWellFormed words u →
    HasTitle s.view u →
    ((p class : ℕ) (t : Title) → Contains (titles_in s.caches p class) t → u ≡ t → ⊥) →
    ((q : ℕ) → (q < u.start / 8) ⊎ (count_place u < q) → slice_index w.words q ≡ slice_index s.view.words q) → FirstsStay s w
firsts_beside words s w u is aware placed has other others p class t among =
    let (n, well) = is.lists.well p class t among in
    let free = is.lists.free p class t among in
    let a = well.start_aligned in let b = well.long in let d = placed.start_aligned in let e = placed.len_aligned in let f = placed.long in
    elim (cases_lt (t.start / 8) (u.start / 8)) [
      | inl before ↦ others (t.start / 8) (inl before)
      | inr from ↦ elim (cases_lt (count_place u) (t.start / 8)) [
        | inl behind ↦ others (t.start / 8) (inr behind)
        | inr to ↦ absurd (other p class t among
            (aware.apart u t t.start has (omega arith) (omega arith, omega arith) (omega arith, omega arith)))
      ]
    ]

-- a title that a register's handle has is on no list
pub user_unlisted : (s : StockValue) (u : Title) → IsStock s → IsAware s.view → IsUser u s.view → (p class : ℕ) (t : Title) →
    Contains (titles_in s.caches p class) t → u ≡ t → ⊥
user_unlisted s u is aware user p class t among same =
    let z = aware.free_alone u (subst (λ x. 0 < free_of s.view x) (sym same) (is.lists.free p class t among)) in
    absurd (omega arith)

-- if only words in the slot of a title that the seat uses changed, the listed titles keep their first words
pub firsts_used : (words : ℕ) (s : StockValue) (w : View) (u : Title) → IsStock s → IsAware s.view → IsWellFormed words u →
    IsUser u s.view →
    ((q : ℕ) → (q < u.start / 8) ⊎ (count_place u < q) → slice_index w.words q ≡ slice_index s.view.words q) → FirstsStay s w
firsts_used words s w u is aware placed user others =
    firsts_beside words s w u is aware placed (omega arith) (user_unlisted s u is aware user) others

-- a content that was filled is in the slot
pub filled_others : (value : ℕ) (u : Title) (words : List ℕ) (q : ℕ) → (q < u.start / 8) ⊎ (count_place u < q) →
    slice_index (filled_with value u (content_count u) words) q ≡ slice_index words q
filled_others value u words q out =
    filled_beside value u (content_count u) words q (elim out [ inl before ↦ inl before | inr behind ↦ inr (omega arith) ])

-- the first words of listed titles stay, if the seat keeps what it has left after it handed over what is on no list
pub firsts_left : (s : StockValue) (w left : View) → IsStock (record s { view = w }) → left.words ≡ s.view.words → Keeps left w →
    FirstsStay s w
firsts_left s w left now words keeps p class t among =
    let (n, well) = now.lists.well p class t among in
    let free = now.lists.free p class t among in
    let same = free_kept left w t keeps in
    let a = well.start_aligned in let b = well.long in
    keeps.words (t.start / 8) (inr (inl (t, omega arith, (omega arith, omega arith)))) ∙
    ap (λ (xs : List ℕ). slice_index xs (t.start / 8)) words

-- ---- a view that was parted and put together again

-- it has the words that it had
pub words_again : (v left note : View) (q : ℕ) → left.words ≡ v.words → note.words ≡ v.words →
    slice_index (united left note).words q ≡ slice_index v.words q
words_again v left note q one other =
    merged_at left 0 left.words note.words q (ap (λ (xs : List ℕ). length xs) (one ∙ sym other))
    ∙ either (ltb 0 (knowing left (0 + q))) (ap (λ (xs : List ℕ). slice_index xs q) one) (ap (λ (xs : List ℕ). slice_index xs q) other)
  where
    either : (b : Bool) → slice_index left.words q ≡ slice_index v.words q → slice_index note.words q ≡ slice_index v.words q →
        (if b then slice_index left.words q else slice_index note.words q) ≡ slice_index v.words q
    either true a b = a
    either false a b = b
