-- A record's lists and entries are the same in two runs that agree before its line and have the same lists there.
use Rattle.std.proofs.Common.{◌≡◌, ℕ, ◌+◌, ◌≤◌, List, [], ◌∷◌, map, drop, get_or, length, Option, Some, None, refl, sym, ◌∙◌, ap, subst, arith, inl, inr}
use Rattle.std.proofs.Math.Path.{fun_ext}
use Rattle.std.specs.Prelude.{Contains}
use Rattle.std.proofs.lemmas.Bool.{cases_lt}
use Rattle.pa_slot.specs.declared.word.SlotName.{SlotName}
use Rattle.pa_slot.specs.declared.word.Step.{Step}
use Rattle.pa_slot.specs.Count.{number_of}
use Rattle.pa_slot.specs.Run.{Mark}
use Rattle.pa_trace.specs.declared.script.Op.TheVariants as ops
use Rattle.pa_record.specs.declared.entry.Seen.{Seen}
use Rattle.pa_record.specs.declared.entry.Answer.{Answer}
use Rattle.pa_record.specs.declared.numbered.Numbered.{Numbered}
use Rattle.pa_record.specs.declared.root.RootEntry.{RootEntry}
use Rattle.pa_record.specs.declared.root.RootAct.{RootAct}
use Rattle.pa_record.specs.declared.root.RootAct.TheVariants.{Fill, Map, Full, Unmap}
use Rattle.pa_lists.proofs.Members.{not_in_none, first_in}
use Rattle.pa_record.specs.declared.entry.Answer.TheVariants as answers
use Rattle.pa_rules.specs.declared.played.Played.{Played}
use Rattle.pa_rules.specs.Played.{step_of, mark_at, mark_of, mark_of_answer}
use Rattle.pa_rules.specs.Roots.{Journals}
use Rattle.pa_rules.specs.Caches.{Cache, with_list, SameLists, acts_of, OnlyActs, NoActs, gives, all_listed, kept, spilled, FrontIs, FilledFirst, MadeRow, FullRow, IsDirect, unmap_at, ReturnRow, DoneRow, PurgedRow, CacheRow}
use Rattle.pa_rules.proofs.Asking.{class_once, map_once, class_or_map}
use Rattle.pa_rules.proofs.Batches.{batch_names_none, purge_names_none}
use Rattle.pa_one_run.specs.Parts.{Parts, entry_line, pool_line}
use Rattle.pa_one_run.specs.Before.{word_after, below, on}
use Rattle.pa_one_run.proofs.Filed.{IsFiled, IsMadeIn}
use Rattle.pa_one_run.proofs.roots.Replays.{entry_place}
use Rattle.pa_one_run.proofs.roots.Asking.{asks_nothing}
use Rattle.pa_one_run.proofs.numbers.Numbers.{filled_numbers}
use Rattle.pa_one_run.proofs.rows.Handles.{done_made}
use Rattle.pa_one_run.proofs.roots.Requests.{Beside, IsAlike, only_alike, only_unasked, quiet_alike, fills_alike, same_slots, maps_alike, fulls_alike, map_fulls_alike, fill_or_full, map_or_full, unmaps_alike}
use Rattle.pa_one_run.proofs.placing.Unmaps.{unmap_number}
use Rattle.pa_one_run.proofs.placing.Returns.{AreAfter, class_alike, direct_alike, class_not_direct, direct_not_class}
use Rattle.pa_lists.proofs.Elements.{in_middle}

-- the lists after a record, and what its line did
pub record IsRowAlike (a b : Parts) (n : ℕ) (next next' : Cache) : Type 0 where
  pub caches : next ≡ next'
  pub line : IsAlike a b n

becomes_is : (after cache : Cache) → SameLists after cache → after ≡ cache
becomes_is after cache h = fun_ext (λ p. fun_ext (λ c. h p c))

-- lists that became the same as equal lists are equal
both_become : (after after' cache cache' : Cache) → SameLists after cache → SameLists after' cache' → cache ≡ cache' → after ≡ after'
both_become after after' cache cache' h k e = becomes_is after cache h ∙ e ∙ sym (becomes_is after' cache' k)

-- ---- an allocation that made a slot

-- the list from which it is taken
filled_alike : (a b : Parts) (before : List Played) (x : Played) (v : Answer) (p class : ℕ) (list xs ys : List Numbered) →
    Beside a b before x v → FilledFirst a.roots x.line p class list xs →
    FilledFirst b.roots x.line p class list ys → (xs ≡ ys) × IsAlike a b x.line
filled_alike a b before x v p class [] xs ys h (asked, only) (asked', only') =
    let fills = fills_alike a b x.line p class asked asked' xs ys h.filed h.filed' h.agrees only only' in
    let same = same_slots (λ s. number_of (word_after before s)) xs ys
    (λ m among. filled_numbers a before h.rest x p class asked xs m h.filed h.parts
    (in_only (acts_of a.roots x.line p) (Fill class asked xs) only.0) among)
    (λ m among. filled_numbers b before h.rest' (record x { answer = v }) p class asked' ys m h.filed' h.parts'
    (in_only (acts_of b.roots x.line p) (Fill class asked' ys) only'.0) among)
    fills.slots in
    let act : Fill class asked xs ≡ Fill class asked' ys = ap (λ z. Fill class z xs) fills.asked ∙ ap (λ z. Fill class asked' z) same in (
      same,
      record {
        acts = only_alike a b x.line p (Fill class asked xs ∷ []) (Fill class asked' ys ∷ []) only only' (ap (λ z. z ∷ []) act);
        pool = fills.pool;
      },
    )
  where
    in_only : (acts : List RootAct) (act : RootAct) → acts ≡ act ∷ [] → Contains acts act
    in_only acts act e = subst (λ zs. Contains zs act) (sym e) (first_in act [])
filled_alike a b before x v p class (z ∷ zs) xs ys h (same, none) (same', none') =
    (same ∙ sym same', quiet_alike a b x.line h.filed h.filed' none none')

-- the slot made, and the row
pub record IsMadeAlike (a b : Parts) (n : ℕ) (s t : SlotName) (next next' : Cache) : Type 0 where
  pub slot : s ≡ t
  pub row : IsRowAlike a b n next next'

-- a slot of a class was made
abbrev ClassRow : Journals → Played → Seen → Cache → Cache → ℕ → ℕ → Type 0
ClassRow roots x seen cache after p class =
    (xs rest : List Numbered) × FilledFirst roots x.line p class (cache p class) xs × FrontIs seen xs rest ×
    SameLists after (with_list cache p class rest)

class_row : (a b : Parts) (before : List Played) (x : Played) (v : Answer) (p class : ℕ) (seen other : Seen) (cache next next' : Cache)
    → Beside a b before x v → ClassRow a.roots x seen cache next p class →
    ClassRow b.roots x other cache next' p class → IsMadeAlike a b x.line seen.slot other.slot next next'
class_row a b before x v p class seen other cache next next' h (xs, rest, filled, front, becomes) (ys, rest', filled', front', becomes') =
    let (same, line) = filled_alike a b before x v p class (cache p class) xs ys h filled filled' in
    let head : Numbered = record { slot = seen.slot; number = number_of seen.found.0 } in
    let head' : Numbered = record { slot = other.slot; number = number_of other.found.0 } in
    let lists : head ∷ rest ≡ head' ∷ rest' = sym front ∙ same ∙ front' in
    record {
      slot = ap (λ (zs : List Numbered). (get_or zs 0 head).slot) lists;
      row = record {
        caches = both_become next next' (with_list cache p class rest) (with_list cache p class rest') becomes becomes'
            (ap (λ zs. with_list cache p class zs) (ap (drop 1) lists));
        line = line;
      };
    }

pub made_alike : (a b : Parts) (before : List Played) (x : Played) (v : Answer) (seen other : Seen) (cache next next' : Cache) →
    Beside a b before x v → MadeRow a.roots x seen cache next →
    MadeRow b.roots x other cache next' → IsMadeAlike a b x.line seen.slot other.slot next next'
made_alike a b before x v seen other cache next next' h (inl (p, class, xs, rest, asks, filled, front, becomes))
    (inl (q, class', ys, rest', asks', filled', front', becomes')) =
    let (e, f) = class_once x q p class' class asks' asks in
    class_row a b before x v p class seen other cache next next' h (xs, rest, filled, front, becomes)
    (subst (λ z. ClassRow b.roots x other cache next' z class) e
    (subst (λ z. ClassRow b.roots x other cache next' q z) f (ys, rest', filled', front', becomes')))
made_alike a b before x v seen other cache next next' h (inl (p, class, xs, rest, asks, filled, front, becomes))
    (inr (q, size, asked, len, asks', only', becomes')) = absurd (class_or_map x p q class size asks asks')
made_alike a b before x v seen other cache next next' h (inr (p, size, asked, len, asks, only, becomes))
    (inl (q, class', ys, rest', asks', filled', front', becomes')) = absurd (class_or_map x q p class' size asks' asks)
made_alike a b before x v seen other cache next next' h (inr (p, size, i, m, asks, only, becomes))
    (inr (q, size', j, k, asks', only', becomes')) =
    let (e, f) = map_once x q p size' size asks' asks in
    let there : OnlyActs b.roots x.line p (Map j other.slot k ∷ []) =
    subst (λ z. OnlyActs b.roots x.line z (Map j other.slot k ∷ [])) e only' in
    let maps = maps_alike a b before x v p size i j m k seen.slot other.slot h asks only there in
    let act : Map i seen.slot m ≡ Map j other.slot k = ap (λ z. Map z seen.slot m) maps.asked ∙ ap (λ z. Map j z m) maps.slot ∙
    ap (λ z. Map j other.slot z) maps.len in
    record {
      slot = maps.slot;
      row = record {
        caches = both_become next next' cache cache becomes becomes' refl;
        line = record {
          acts = only_alike a b x.line p (Map i seen.slot m ∷ []) (Map j other.slot k ∷ []) only there (ap (λ z. z ∷ []) act);
          pool = maps.pool;
        };
      };
    }

-- ---- no room

full_line : (a b : Parts) (n p i j : ℕ) (class : Option ℕ) → OnlyActs a.roots n p (Full class i ∷ [])
    → OnlyActs b.roots n p (Full class j ∷ []) → i ≡ j → on pool_line n a.pools ≡ on pool_line n b.pools → IsAlike a b n
full_line a b n p i j class only only' same pool =
    record { acts = only_alike a b n p (Full class i ∷ []) (Full class j ∷ []) only only' (ap (λ z. Full class z ∷ []) same); pool = pool }

full_alike : (a b : Parts) (before : List Played) (x : Played) (v : Answer) (cache next next' : Cache) → Beside a b before x v →
    FullRow a.roots x cache next → FullRow b.roots x cache next' →
    IsRowAlike a b x.line next next'
full_alike a b before x v cache next next' h (inl (p, class, i, asks, empty, only, becomes))
    (inl (q, class', j, asks', empty', only', becomes')) =
    let (e, f) = class_once x q p class' class asks' asks in
    let there : OnlyActs b.roots x.line p (Full (Some class) j ∷ []) =
    subst (λ z. OnlyActs b.roots x.line z (Full (Some class) j ∷ [])) e
    (subst (λ z. OnlyActs b.roots x.line q (Full (Some z) j ∷ [])) f only') in
    let fulls = fulls_alike a b x.line p class i j h.filed h.filed' h.agrees only there in
    record {
      caches = both_become next next' cache cache becomes becomes' refl;
      line = full_line a b x.line p i j (Some class) only there fulls.asked fulls.pool;
    }
full_alike a b before x v cache next next' h (inl (p, class, i, asks, empty, only, becomes)) (inr (q, size, j, asks', only', becomes')) =
    absurd (class_or_map x p q class size asks asks')
full_alike a b before x v cache next next' h (inr (p, size, i, asks, only, becomes)) (inl (q, class, j, asks', empty', only', becomes')) =
    absurd (class_or_map x q p class size asks' asks)
full_alike a b before x v cache next next' h (inr (p, size, i, asks, only, becomes)) (inr (q, size', j, asks', only', becomes')) =
    let (e, f) = map_once x q p size' size asks' asks in
    let there : OnlyActs b.roots x.line p (Full None j ∷ []) = subst (λ z. OnlyActs b.roots x.line z (Full None j ∷ [])) e only' in
    let fulls = map_fulls_alike a b before x v p size i j h asks only there in
    record {
      caches = both_become next next' cache cache becomes becomes' refl;
      line = full_line a b x.line p i j None only there fulls.asked fulls.pool;
    }

-- no slot is made in one run if there is no room in the other
filled_or_full : (a b : Parts) (before : List Played) (x : Played) (v : Answer) (p class j : ℕ) (list xs : List Numbered)
    → Beside a b before x v → FilledFirst a.roots x.line p class list xs → list ≡ [] →
    OnlyActs b.roots x.line p (Full (Some class) j ∷ []) → ⊥
filled_or_full a b before x v p class j [] xs h (asked, only) empty only' =
    fill_or_full a b x.line p class j asked xs h.filed h.filed' h.agrees only only'
filled_or_full a b before x v p class j (z ∷ zs) xs h filled empty only' = cc

pub made_or_full : (a b : Parts) (before : List Played) (x : Played) (v : Answer) (seen : Seen) (cache next next' : Cache)
    → Beside a b before x v → MadeRow a.roots x seen cache next → FullRow b.roots x cache next' → ⊥
made_or_full a b before x v seen cache next next' h (inl (p, class, xs, rest, asks, filled, front, becomes))
    (inl (q, class', j, asks', empty, only', becomes')) =
    let (e, f) = class_once x q p class' class asks' asks in
    filled_or_full a b before x v p class j (cache p class) xs h filled
    (ap (λ z. cache z class) (sym e) ∙ ap (λ z. cache q z) (sym f) ∙ empty)
    (subst (λ z. OnlyActs b.roots x.line z (Full (Some class) j ∷ [])) e
    (subst (λ z. OnlyActs b.roots x.line q (Full (Some z) j ∷ [])) f only'))
made_or_full a b before x v seen cache next next' h (inl (p, class, xs, rest, asks, filled, front, becomes))
    (inr (q, size, j, asks', only', becomes')) = class_or_map x p q class size asks asks'
made_or_full a b before x v seen cache next next' h (inr (p, size, i, m, asks, only, becomes))
    (inl (q, class, j, asks', empty', only', becomes')) = class_or_map x q p class size asks' asks
made_or_full a b before x v seen cache next next' h (inr (p, size, i, m, asks, only, becomes)) (inr (q, size', j, asks', only', becomes')) =
    let (e, f) = map_once x q p size' size asks' asks in
    map_or_full a b before x v p size i j m seen.slot h asks only (subst (λ z. OnlyActs b.roots x.line z (Full None j ∷ [])) e only')

-- if a record says that there is no room, its entry is the line's only one
full_place : (a : Parts) (x : Played) (cache next : Cache) (j : ℕ) → IsFiled a → Contains a.ps x → x.answer ≡ answers.Full j →
    FullRow a.roots x cache next →
    (p reg size : ℕ) × (x.op ≡ ops.Alloc reg p size) × (j ≡ length (below entry_line x.line (a.roots p)))
full_place a x cache next j h among is (inl (p, class, i, (reg, size, op, of), empty, only, becomes)) =
    let (e, at, line, full) = h.journals.refusals x j reg p size among is op in
    (p, reg, size, op, (entry_place a x.line p j (Full (Some class) i) e h only.0 at line).0)
full_place a x cache next j h among is (inr (p, size, i, (reg, op, direct), only, becomes)) =
    let (e, at, line, full) = h.journals.refusals x j reg p size among is op in
    (p, reg, size, op, (entry_place a x.line p j (Full None i) e h only.0 at line).0)

-- two runs that refuse one record name the same entry
pub full_entry : (a b : Parts) (before : List Played) (x : Played) (i j : ℕ) (cache next next' : Cache)
    → Beside a b before x (answers.Full j) → x.answer ≡ answers.Full i → FullRow a.roots x cache next →
    FullRow b.roots x cache next' → i ≡ j
full_entry a b before x i j cache next next' h is row row' =
    let (p, reg, size, op, place) = full_place a x cache next i h.filed (in_middle before h.rest a.ps x h.parts) is row in
    let (q, reg', size', op', place') = full_place b (record x { answer = answers.Full j }) cache next' j h.filed'
    (in_middle before h.rest' b.ps (record x { answer = answers.Full j }) h.parts') refl row' in
    let one : p ≡ q = partition_of reg reg' p q size size' (sym op ∙ op') in
    place ∙ ap (λ z. length (below entry_line x.line (a.roots z))) one ∙ ap length (h.agrees.journals q) ∙ sym place'
  where
    partition_of : (r s p q m n : ℕ) → ops.Alloc r p m ≡ ops.Alloc s q n → p ≡ q
    partition_of r s p q m n e = cc

-- ---- a step

-- the record's step left the slot at this number
abbrev LeavesAt : Played → Numbered → Type 0
LeavesAt x slot = (m : Mark) × (mark_of x ≡ Some m) × (m.slot ≡ slot.slot) × (number_of m.found + 1 ≡ slot.number)

-- a slot came back
back_alike : (a b : Parts) (before : List Played) (x : Played) (slot : Numbered) (cache next next' : Cache) → Beside a b before x x.answer →
    IsMadeIn before slot.slot → LeavesAt x slot →
    ReturnRow a.roots x slot cache next → ReturnRow b.roots x slot cache next' → IsRowAlike a b x.line next next'
back_alike a b before x slot cache next next' h made (m, marked, same, left) row row' = by_place row row'
  where
    -- a direct map goes back at the number that was left
    unmapped_at : (c : Parts) (p i number : ℕ) → IsFiled c → Contains c.ps x → IsDirect c.roots slot.slot p →
        OnlyActs c.roots x.line p (unmap_at i slot.slot number ∷ []) →
        OnlyActs c.roots x.line p (Unmap i slot ∷ [])
    unmapped_at c p i number filed among direct only =
        let number_is : number ≡ slot.number =
        unmap_number c x m p i number filed among marked (subst (λ z. IsDirect c.roots z p) (sym same) direct)
        (only.0 ∙ ap (λ z. unmap_at i z number ∷ []) (sym same)) ∙ left in
        subst (λ k. OnlyActs c.roots x.line p (unmap_at i slot.slot k ∷ [])) number_is only

    after : AreAfter a b before
    after = record { filed = h.filed; filed' = h.filed'; rest = x ∷ h.rest; rest' = x ∷ h.rest'; parts = h.parts; parts' = h.parts' }

    -- what a list spills has no entry of the pool
    class_back : (p class : ℕ) → OnlyActs a.roots x.line p (gives (spilled class (slot ∷ cache p class))) →
        SameLists next (with_list cache p class (kept class (slot ∷ cache p class))) →
        OnlyActs b.roots x.line p (gives (spilled class (slot ∷ cache p class))) →
        SameLists next' (with_list cache p class (kept class (slot ∷ cache p class))) → IsRowAlike a b x.line next next'
    class_back p class only becomes only' becomes' =
        let list = spilled class (slot ∷ cache p class) in
        let none = batch_names_none (length list) list in
        record {
          caches = both_become next next' (with_list cache p class (kept class (slot ∷ cache p class)))
              (with_list cache p class (kept class (slot ∷ cache p class))) becomes becomes' refl;
          line = record {
            acts = only_alike a b x.line p (gives list) (gives list) only only' refl;
            pool = only_unasked a x.line p (gives list) h.filed only none ∙ sym (only_unasked b x.line p (gives list) h.filed' only' none);
          };
        }

    by_place : ReturnRow a.roots x slot cache next → ReturnRow b.roots x slot cache next' → IsRowAlike a b x.line next next'
    by_place (inl (p, class, of, only, becomes)) (inl (q, class', of', only', becomes')) =
        let (e, f) = class_alike a b before slot.slot p q class class' after made of of' in
        let (there, become) : OnlyActs b.roots x.line p (gives (spilled class (slot ∷ cache p class))) ×
        SameLists next' (with_list cache p class (kept class (slot ∷ cache p class))) =
        subst (λ z. OnlyActs b.roots x.line z (gives (spilled class (slot ∷ cache z class))) ×
        SameLists next' (with_list cache z class (kept class (slot ∷ cache z class)))) (sym e)
        (subst (λ z. OnlyActs b.roots x.line q (gives (spilled z (slot ∷ cache q z))) ×
        SameLists next' (with_list cache q z (kept z (slot ∷ cache q z)))) (sym f) (only', becomes')) in
        class_back p class only becomes there become
    by_place (inl (p, class, of, only, becomes)) (inr (q, j, number, direct, only', becomes')) =
        absurd (class_not_direct a b before slot.slot p q class after made of direct)
    by_place (inr (p, i, number, direct, only, becomes)) (inl (q, class, of, only', becomes')) =
        absurd (direct_not_class a b before slot.slot p q class after made direct of)
    by_place (inr (p, i, number, direct, only, becomes)) (inr (q, j, number', direct', only', becomes')) =
        let e = direct_alike a b before slot.slot p q after made direct direct' in
        let here = unmapped_at a p i number h.filed (in_middle before h.rest a.ps x h.parts) direct only in
        let other = unmapped_at b q j number' h.filed' (in_middle before h.rest' b.ps x h.parts') direct' only' in
        let there : OnlyActs b.roots x.line p (Unmap j slot ∷ []) =
        subst (λ z. OnlyActs b.roots x.line z (Unmap j slot ∷ [])) (sym e) other in
        let (place, pool) = unmaps_alike a b x.line p i j slot h.filed h.filed' h.agrees here there in
        record {
          caches = both_become next next' cache cache becomes becomes' refl;
          line = record {
            acts = only_alike a b x.line p (Unmap i slot ∷ []) (Unmap j slot ∷ []) here there
                (ap (λ z. Unmap z slot ∷ []) place);
            pool = pool;
          };
        }

-- a row without entries
same_alike : (a b : Parts) (before : List Played) (x : Played) (v : Answer) (cache next next' : Cache) → Beside a b before x v
    → NoActs a.roots x.line × SameLists next cache → NoActs b.roots x.line × SameLists next' cache →
    IsRowAlike a b x.line next next'
same_alike a b before x v cache next next' h (none, becomes) (none', becomes') =
    record { caches = both_become next next' cache cache becomes becomes' refl; line = quiet_alike a b x.line h.filed h.filed' none none' }

done_alike : (a b : Parts) (before : List Played) (x : Played) (o : Option Step) (seen : Seen) (cache next next' : Cache) →
    Beside a b before x x.answer → IsMadeIn before seen.slot →
    mark_of x ≡ Some (mark_at x.line seen o) → DoneRow a.roots x o seen cache next → DoneRow b.roots x o seen cache next' →
    IsRowAlike a b x.line next next'
done_alike a b before x None seen cache next next' h made marked row row' = same_alike a b before x x.answer cache next next' h row row'
done_alike a b before x (Some step) seen cache next next' h made marked (inl (returns, row)) (inl (returns', row')) =
    back_alike a b before x (record { slot = seen.slot; number = number_of seen.found.0 + 1 }) cache next next' h made
    (mark_at x.line seen (Some step), marked, refl, refl) row row'
done_alike a b before x (Some step) seen cache next next' h made marked (inl (returns, row)) (inr (not, none, becomes)) =
    absurd (not returns)
done_alike a b before x (Some step) seen cache next next' h made marked (inr (not, none, becomes)) (inl (returns, row)) =
    absurd (not returns)
done_alike a b before x (Some step) seen cache next next' h made marked (inr (not, none, becomes)) (inr (not', none', becomes')) =
    same_alike a b before x x.answer cache next next' h (none, becomes) (none', becomes')

-- ---- a purge

-- a journal past the partitions has no acts on any line
pub no_acts_past : (a : Parts) (n p : ℕ) → IsFiled a → a.partitions ≤ p → acts_of a.roots n p ≡ []
no_acts_past a n p h past = ap (λ (es : List RootEntry). map (λ (e : RootEntry). e.act) (on entry_line n es)) (h.journals.none_past p past)

purge_unasked : (a : Parts) (x : Played) (slots : ℕ) (cache next : Cache) → IsFiled a → PurgedRow a.partitions a.roots x slots cache next →
    on pool_line x.line a.pools ≡ []
purge_unasked a x slots cache next h (acts, counted, empty) = asks_nothing a x.line h (λ p act among. elim (cases_lt p a.partitions) [
  | inl less ↦ purge_names_none (cache p) 0 170 act (subst (λ zs. Contains zs act) (acts p less) among)
  | inr past ↦ absurd (not_in_none act (subst (λ zs. Contains zs act) (no_acts_past a x.line p h past) among))
])

-- a purge gives back all lists, so two runs with the same lists answer the same count
pub purged_alike : (a b : Parts) (before : List Played) (x : Played) (v : Answer) (slots slots' : ℕ) (cache next next' : Cache)
    → Beside a b before x v → PurgedRow a.partitions a.roots x slots cache next →
    PurgedRow b.partitions b.roots x slots' cache next' → (slots ≡ slots') × IsRowAlike a b x.line next next'
purged_alike a b before x v slots slots' cache next next' h (acts, counted, empty) (acts', counted', empty') =
    let same = h.agrees.partitions in (
      counted ∙ ap (λ z. all_listed cache 0 z) same ∙ sym counted',
      record {
        caches = fun_ext (λ p. fun_ext (λ c. empty p c ∙ sym (empty' p c)));
        line = record {
          acts = λ p. elim (cases_lt p a.partitions) [
            | inl less ↦ acts p less ∙ sym (acts' p (omega arith))
            | inr past ↦ no_acts_past a x.line p h.filed past ∙ sym (no_acts_past b x.line p h.filed' (omega arith))
          ];
          pool = purge_unasked a x slots cache next h.filed (acts, counted, empty) ∙
              sym (purge_unasked b x slots' cache next' h.filed' (acts', counted', empty'));
        };
      },
    )

-- ---- any record that is the same in both

pub row_alike : (a b : Parts) (before : List Played) (x : Played) (u : Answer) (cache next next' : Cache) → Beside a b before x x.answer →
    x.answer ≡ u → CacheRow a.partitions a.roots x u cache next →
    CacheRow b.partitions b.roots x u cache next' → IsRowAlike a b x.line next next'
row_alike a b before x (answers.Made seen usable) cache next next' h is row row' =
    (made_alike a b before x x.answer seen seen cache next next' h row row').row
row_alike a b before x (answers.Done seen) cache next next' h is row row' =
    done_alike a b before x (step_of x.op) seen cache next next' h (done_made a before h.rest x seen h.filed h.parts is)
    (ap (mark_of_answer x.line x.op) is) row row'
row_alike a b before x (answers.Full entry) cache next next' h is row row' = full_alike a b before x x.answer cache next next' h row row'
row_alike a b before x (answers.Purged slots) cache next next' h is row row' =
    (purged_alike a b before x x.answer slots slots cache next next' h row row').1
row_alike a b before x answer cache next next' h is row row' = same_alike a b before x x.answer cache next next' h row row'
