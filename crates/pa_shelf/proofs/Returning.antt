-- A slot is put back at the front of its span's list: what is shown then.
use Rattle.std.proofs.Common.{◌≡◌, ℕ, ◌+◌, ◌-◌, ◌<◌, ◌≤◌, inl, inr, Bool, if◌then◌else◌, List, length, [], ◌∷◌, Option, Some, None, refl, sym, ◌∙◌, ap, subst, arith}
use Rattle.std.specs.Prelude.{Contains}
use Rattle.std.proofs.lemmas.Bool.{cases_Bool, eq-eqb}
use Rattle.std.proofs.lemmas.Bool.Decides.{eqb_tells}
use Rattle.std.proofs.lemmas.List.{length-append}
use Rattle.std.proofs.lemmas.List.Elements.{All-contains}
use Rattle.pa_lists.proofs.Elements.{all_from_members}
use Rattle.pa_lists.proofs.Joined.{map_cases}
use Rattle.pa_slot.specs.declared.title.Title.{Title}
use Rattle.pa_slot.specs.declared.word.SlotName.{SlotName}
use Rattle.pa_slot.specs.Titles.{IsWellFormed}
use Rattle.pa_slot.specs.Links.{first_word, front_of}
use Rattle.pa_buckets.specs.declared.spans.State.{State}
use Rattle.pa_buckets.specs.declared.spans.State.TheVariants as state
use Rattle.pa_buckets.specs.Table.{slot_of}
use Rattle.pa_record.specs.Spans.{Span, same_state, title_at, name_of, number_in, with_front, state_back}
use Rattle.pa_record.specs.Root.{Root, in_state, entered, put_back}
use Rattle.pa_record.proofs.Slots.{one_slot}
use Rattle.pa_record.proofs.Returning.{number_is}
use Rattle.pa_record.proofs.SpanSteps.{size_some}
use Rattle.pa_region.specs.declared.view.View.{View}
use Rattle.pa_region.specs.Views.{free_of}
use Rattle.pa_region.specs.Aware.{IsAware}
use Rattle.pa_spans.specs.declared.span.Span.{Span as SpanRecord}
use Rattle.pa_spans.specs.Lists.{SpanListParts, StaysListed, lists_without, lists_with, lists_entered, ring_with}
use Rattle.pa_spans.proofs.Rings.{ring_shrinks}
use Rattle.pa_records.specs.Words.{spans_in}
use Rattle.pa_records.specs.Records.{front_start, record_with, titles_free}
use Rattle.pa_records.specs.Stored.{alone}
use Rattle.pa_meta.specs.Meta.{HasRawRecord}
use Rattle.pa_meta.specs.Stores.{IsPayloadOf, HasSpanAt, Rerecorded}
use Rattle.pa_link.specs.declared.chain.ChainParts.{ChainParts}
use Rattle.pa_link.specs.Chains.{slot_names, IsChain, after_link}
use Rattle.pa_link.proofs.Chains.{stay, elsewhere}
use Rattle.pa_shelf.specs.Moving.{IsRecordFor, parts_of_record, pushed_parts, with_front_of, state_with}
use Rattle.pa_shelf.specs.Shelves.{ShelfParts, chain_of, AreChained, RecordsRoot, ShowsRoot, KeepsRecords, IsBackAt}
use Rattle.pa_shelf.proofs.Chained.{chain_stays, entered_chain, chains_changed}
use Rattle.pa_shelf.proofs.Staying.{spans_kept, records_stay, link_keeps}

-- the record of a span that is shown
pub record_is : (v : View) (l : ShelfParts) (r : Root) (s : Span) (at : ℕ) (x : SpanRecord) → RecordsRoot v l r → Contains r.spans s →
    s.place ≡ at →
    x ≡ spans_in v.words at → alone x ≡ record_with s 0 0
record_is v l r s at x k among here x_is = ap alone (x_is ∙ ap (spans_in v.words) (sym here)) ∙ k.stored.numbers s among

-- the page of a span whose slot comes back has a record
pub back_had : (v : View) (l : ShelfParts) (at : ℕ) (t : Title) (r : Root) (s : Span) (n : ℕ) → IsBackAt v l at t r s n →
    HasSpanAt v l.supers at
back_had v l at t r s n b = subst (HasSpanAt v l.supers) b.here (b.shown.kept.stored.had s b.among)

-- how many are out
pub some_out : (v : View) (l : ShelfParts) (at : ℕ) (t : Title) (r : Root) (s : Span) (n : ℕ) (x : SpanRecord) → IsBackAt v l at t r s n →
    x ≡ spans_in v.words at → (1 ≤ x.allocated) × (x.allocated ≤ x.provisioned)
some_out v l at t r s n x b x_is =
    let e = record_is v l r s at x b.shown.kept b.among b.here x_is in
    let a : x.allocated ≡ s.allocated = ap (λ (y : SpanRecord). y.allocated) e in
    let p : x.provisioned ≡ s.provisioned = ap (λ (y : SpanRecord). y.provisioned) e in
    let c = (b.sound.spans s b.among).counted.listed in let some = b.some in
    (omega arith, omega arith)

-- the chain that its record has is that of its list
pub parts_alike : (a b : ChainParts) → a.slot_len ≡ b.slot_len → a.head ≡ b.head → a.len ≡ b.len → a ≡ b
parts_alike a b size head len =
    ap (λ (n : ℕ). record a { slot_len = n }) size
    ∙ (ap (λ (h : Option SlotName). record b { head = h; len = a.len }) head ∙ ap (λ (n : ℕ). record b { len = n }) len)

pub list_parts : (s : Span) (n : ℕ) (ns : List ℕ) → s.allocated + length s.free ≡ s.provisioned → s.free ≡ ns →
    parts_of_record (record_with s 0 0) (title_at s n) ≡ chain_of s
list_parts s n [] listed e =
    let many : length s.free ≡ 0 = ap length e in
    let none : s.provisioned - s.allocated ≡ 0 = omega arith in
    parts_alike (parts_of_record (record_with s 0 0) (title_at s n)) (chain_of s) refl
    (ap (λ (b : Bool). if b then None else Some (record { start = front_start s s.free; born = s.born }))
    (eq-eqb (s.provisioned - s.allocated) 0 none)
    ∙ sym (ap (λ (ms : List ℕ). front_of (slot_names (titles_free (record s { free = ms })))) e)) (omega arith)
list_parts s n (k ∷ ks) listed e =
    let many : length s.free ≡ length (k ∷ ks) = ap length e in
    parts_alike (parts_of_record (record_with s 0 0) (title_at s n)) (chain_of s) refl
    (elim (eqb_tells (s.provisioned - s.allocated) 0) [
      | inl w ↦ let no = w.1 in absurd (omega arith)
      | inr w ↦ ap (λ (b : Bool). if b then None else Some (record { start = front_start s s.free; born = s.born })) w.0
          ∙ (ap (λ (m : ℕ). Some (record { start = m; born = s.born })) (ap (front_start s) e)
          ∙ sym (ap (λ (ms : List ℕ). front_of (slot_names (titles_free (record s { free = ms })))) e))
    ]) (omega arith)

pub parts_are : (v : View) (l : ShelfParts) (at : ℕ) (t : Title) (r : Root) (s : Span) (n : ℕ) (x : SpanRecord) → IsBackAt v l at t r s n →
    x ≡ spans_in v.words at → parts_of_record x t ≡ chain_of s
parts_are v l at t r s n x b x_is =
    let e = record_is v l r s at x b.shown.kept b.among b.here x_is in
    ap (λ (y : SpanRecord). parts_of_record y t) e ∙ (ap (parts_of_record (record_with s 0 0)) b.titled
    ∙ list_parts s n s.free (b.sound.spans s b.among).counted.listed refl)

-- a title that is out is in no list
pub not_listed : (v : View) (l : ShelfParts) (at : ℕ) (t : Title) (r : Root) (s z : Span) (n : ℕ) → IsBackAt v l at t r s n →
    Contains r.spans z →
    Contains (titles_free z) t → ⊥
not_listed v l at t r s z n b member inside =
    let (m, listed, same) = map_cases (title_at z) z.free t inside in
    let both : title_at s n ≡ title_at z m = sym b.titled ∙ sym same in
    let c = (b.sound.spans s b.among).counted in let d = (b.sound.spans z member).counted in
    let out = b.out.provisioned in let made = c.made in let most = c.most in
    let low = d.numbers m listed in let made' = d.made in let most' = d.most in
    let one = one_slot r s z n m b.sound b.among member (omega arith) (omega arith) (ap (λ (y : Title). y.born) both)
    (ap (λ (y : Title). y.start) both) in
    b.out.out (subst (Contains s.free) (sym one.number) (subst (λ (y : Span). Contains y.free m) (sym one.span) listed))

-- the other chains after the push
pub others_chained : (words : ℕ) (v : View) (l : ShelfParts) (at : ℕ) (t : Title) (link : ℕ) (r : Root) (s : Span) (n : ℕ) →
    IsBackAt v l at t r s n →
    IsAware v → IsWellFormed words t → 0 < free_of v t → AreChained (after_link t link v) r.spans
others_chained words v l at t link r s n b aware well free z member =
    let is = b.shown.chains z member in
    let some = size_some z.class (b.sound.spans z member).counted.class in
    stay v (after_link t link v) (chain_of z) (titles_free z) is.free
    (all_from_members (λ y. first_word (after_link t link v).words (name_of y) ≡ first_word v.words (name_of y)) (titles_free z)
    (λ y inside.
    let size : y.len ≡ slot_of z.class = All-contains (λ (x : Title). x.len ≡ slot_of z.class) (titles_free z) y is.sized inside in
    elsewhere words v t y link aware well (omega arith) free (All-contains (λ x. 0 < free_of v x) (titles_free z) y is.free inside)
    (λ same. not_listed v l at t r s z n b member (subst (Contains (titles_free z)) (sym same) inside)))) is

-- the ring gets at most one more
pub few_more : (at : ℕ) (to : State) (l : SpanListParts) (x : SpanRecord) → length l.ring ≤ 16 → length (lists_entered at to l x).ring ≤ 17
few_more at to l x few = elim (cases_Bool (same_state x.state to)) [
  | inl same ↦ subst (λ (b : Bool). length (if b then l else lists_with at x.class to (lists_without at x l)).ring ≤ 17) (sym same)
      (omega arith)
  | inr other ↦ subst (λ (b : Bool). length (if b then l else lists_with at x.class to (lists_without at x l)).ring ≤ 17) (sym other)
      (let less = ring_shrinks at x.state l.ring in let more = ring_grows at to (lists_without at x l).ring in omega arith)
]
  where
    ring_grows : (at : ℕ) (a : State) (ring : List ℕ) → length (ring_with at a ring) ≤ length ring + 1
    ring_grows at state.None ring = omega arith
    ring_grows at state.Active ring = omega arith
    ring_grows at state.Empty ring = omega (arith, length-append ring (at ∷ []))
    ring_grows at state.Decommitted ring = omega arith
    ring_grows at state.Full ring = omega arith

pub front_stays : (x y z : SpanRecord) (h : ℕ) → x ≡ z → y ≡ with_front_of h x → StaysListed z y
front_stays x y z h e f = subst (λ (u : SpanRecord). StaysListed u y) e (subst (StaysListed x) (sym f)
    (record { class = inl refl; state = refl; turn = refl; previous = refl; next = refl }))

-- what is shown when a slot was put back
pub back_shown : (words : ℕ) (v w : View) (l after : ShelfParts) (at : ℕ) (t : Title) (link : ℕ) (r : Root) (s : Span) (n : ℕ)
    (x y : SpanRecord) (to : State) →
    IsBackAt v l at t r s n → IsAware v → IsWellFormed words t → 0 < free_of v t → IsAware (after_link t link v) →
    Rerecorded l.supers (after_link t link v) w → x ≡ spans_in v.words at → y ≡ with_front_of t.start x → to ≡ state_with y.allocated →
    IsChain (after_link t link v) (pushed_parts t (chain_of s)) (t ∷ titles_free s) →
    ((a b : Span) → RecordsRoot (after_link t link v) l r → Contains r.spans a → IsRecordFor at y a b →
    RecordsRoot w after (entered to b r)) →
    ShowsRoot w after (put_back (name_of t) (Some s) r)
back_shown words v w l after at t link r s n x y to b aware well free aware1 wrote x_is y_is to_is chain moved =
    let v1 = after_link t link v in
    let u = with_front n s in
    let c = (b.sound.spans s b.among).counted in
    let some = size_some s.class c.class in
    let size : t.len ≡ slot_of s.class = ap (λ (z : Title). z.len) b.titled in
    let e = record_is v l r s at x b.shown.kept b.among b.here x_is in
    let is : alone y ≡ record_with u 0 0 = ap alone y_is ∙ (ap (with_front_of t.start) e
    ∙ ap (λ (h : ℕ). with_front_of h (record_with s 0 0)) (ap (λ (z : Title). z.start) b.titled)) in
    let is_for : IsRecordFor at y s u = record { here = b.here; place = refl; born = refl; is = is } in
    let kept1 : RecordsRoot v1 l r = records_stay v v1 l r (link_keeps v l r t link aware free (omega arith) b.shown.kept) b.shown.kept in
    let kept = moved s u kept1 b.among is_for in
    let to_back : to ≡ state_back u = to_is ∙ ap (λ (z : SpanRecord). state_with z.allocated) is in
    let raw : (p : ℕ) → IsPayloadOf l.supers p → HasRawRecord v1 p = λ p payload. (kept1.pages p payload).raw in
    let others : AreChained v1 r.spans = others_chained words v l at t link r s n b aware well free in
    let others_now : AreChained w r.spans = λ z member.
    chain_stays v1 w l.supers (chain_of z) (titles_free z) aware1 wrote raw (size_some z.class (b.sound.spans z member).counted.class)
    (others z member) in
    let own1 : IsChain v1 (chain_of u) (titles_free u) =
    subst (λ (c : ChainParts). IsChain v1 c (titles_free u))
    (parts_alike (pushed_parts (title_at s n) (chain_of s)) (chain_of u) refl refl
    (let l : length u.free ≡ length s.free + 1 = omega arith in omega arith))
    (subst (λ (z : Title). IsChain v1 (pushed_parts z (chain_of s)) (z ∷ titles_free s)) b.titled chain) in
    let own_now : IsChain w (chain_of u) (titles_free u) =
    chain_stays v1 w l.supers (chain_of u) (titles_free u) aware1 wrote raw some own1 in
    let shown : ShowsRoot w after (entered to u r) = record {
      kept = kept;
      chains = chains_changed w r.spans (in_state to r.turn u) b.sound.places others_now (entered_chain w to r.turn u own_now);
    } in
    let number : number_in s (name_of t) ≡ n = number_is s (name_of t) n c b.out in
    subst (ShowsRoot w after) (ap (λ (a : State). entered a u r) to_back
    ∙ sym (ap (λ (k : ℕ). entered (state_back (with_front k s)) (with_front k s) r) number)) shown

-- the records after the push
pub pushed_keeps : (v : View) (l : ShelfParts) (at : ℕ) (t : Title) (link : ℕ) (r : Root) (s : Span) (n : ℕ) → IsBackAt v l at t r s n →
    IsAware v →
    0 < free_of v t → KeepsRecords l.supers v (after_link t link v)
pushed_keeps v l at t link r s n b aware free =
    let some = size_some s.class (b.sound.spans s b.among).counted.class in
    let size : t.len ≡ slot_of s.class = ap (λ (z : Title). z.len) b.titled in
    link_keeps v l r t link aware free (omega arith) b.shown.kept

pub pushed_kept : (v : View) (l : ShelfParts) (at : ℕ) (t : Title) (link : ℕ) (r : Root) (s : Span) (n : ℕ) → IsBackAt v l at t r s n →
    IsAware v →
    0 < free_of v t → RecordsRoot (after_link t link v) l r
pushed_kept v l at t link r s n b aware free =
    records_stay v (after_link t link v) l r (pushed_keeps v l at t link r s n b aware free) b.shown.kept

pub pushed_is : (v : View) (l : ShelfParts) (at : ℕ) (t : Title) (link : ℕ) (r : Root) (s : Span) (n : ℕ) (x : SpanRecord) →
    IsBackAt v l at t r s n → IsAware v →
    0 < free_of v t → x ≡ spans_in v.words at → x ≡ spans_in (after_link t link v).words at
pushed_is v l at t link r s n x b aware free x_is =
    x_is ∙ sym (spans_kept l.supers v (after_link t link v) at (pushed_keeps v l at t link r s n b aware free) (back_had v l at t r s n b))

-- the state that it enters is one
pub state_used : (n : ℕ) (a : State) → a ≡ state_with n → a ≡ state.None → ⊥
state_used n a is none = elim (eqb_tells n 0) [
  | inl w ↦
      let e : state.Empty ≡ state.None = sym (ap (λ (b : Bool). if b then state.Empty else state.Active) w.0) ∙ (sym is ∙ none) in
      absurd (cc)
  | inr w ↦
      let e : state.Active ≡ state.None = sym (ap (λ (b : Bool). if b then state.Empty else state.Active) w.0) ∙ (sym is ∙ none) in
      absurd (cc)
]
