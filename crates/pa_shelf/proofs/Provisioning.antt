-- A span whose list is empty is provisioned: what stays, and that a slot can be taken then.
use Rattle.std.proofs.Common.{◌≡◌, ℕ, zero, suc, ◌+◌, ◌-◌, ◌*◌, ◌/◌, ◌%◌, ◌<◌, ◌≤◌, inl, inr, map, length, [], refl, sym, ◌∙◌, ap, subst, arith}
use Rattle.std.specs.Prelude.{◌≢◌, AllPairs, Contains}
use Rattle.std.proofs.lemmas.List.Elements.{All-contains}
use Rattle.std.proofs.Math.Nat.{mul-le-mul_left}
use Rattle.pa_lists.specs.Numbers.{numbers}
use Rattle.pa_lists.proofs.Different.{numbers_length, numbers_in}
use Rattle.pa_lists.proofs.Joined.{map_cases}
use Rattle.pa_lists.proofs.Tests.{times_whole}
use Rattle.pa_slot.specs.declared.title.Title.{Title}
use Rattle.pa_slot.specs.Links.{front_of}
use Rattle.pa_slot.proofs.Same.{title_is}
use Rattle.pa_layout.specs.Pages.{super_page_at}
use Rattle.pa_buckets.specs.Table.{slot_of, pages_of, slots_of}
use Rattle.pa_buckets.proofs.Facts.{IsRow-of}
use Rattle.pa_record.specs.declared.taken.SuperPage.{SuperPage}
use Rattle.pa_record.specs.Spans.{Span, title_at, more_slots, provisioned_more, with_list, with_free}
use Rattle.pa_record.specs.Root.{Root}
use Rattle.pa_record.proofs.SpanSteps.{list_cases, more_than, size_some}
use Rattle.pa_record.proofs.Slots.{one_slot}
use Rattle.pa_region.specs.declared.view.View.{View}
use Rattle.pa_region.specs.Views.{free_of}
use Rattle.pa_region.specs.Aware.{IsAware}
use Rattle.pa_region.specs.Shares.{Share}
use Rattle.pa_spans.specs.declared.span.Span.{Span as SpanRecord}
use Rattle.pa_spans.specs.Lists.{StaysListed}
use Rattle.pa_records.specs.Words.{record_word, IsRecordAt, spans_in}
use Rattle.pa_records.specs.Records.{front_start, record_with, titles_free}
use Rattle.pa_records.specs.Stored.{alone}
use Rattle.pa_meta.specs.Meta.{HasRawRecord}
use Rattle.pa_meta.specs.Stores.{HasSpanAt}
use Rattle.pa_link.specs.declared.chain.ChainParts.{ChainParts}
use Rattle.pa_link.specs.Chains.{slot_names, IsChain, Relinked, SameBeside}
use Rattle.pa_link.proofs.Gaps.{free_same}
use Rattle.pa_shelf.specs.Shelves.{ShelfParts, chain_of, KeepsRecords, KeepsChains, ShowsRoot}
use Rattle.pa_shelf.specs.Taking.{first_title, slot_beside, slots_beside, slots_more, with_more, HasSlotAt, HasSlotOf, HoldsMore, IsTakeOf, IsReadyAt}
use Rattle.pa_shelf.proofs.Chained.{apart}
use Rattle.pa_shelf.proofs.Decommitting.{read_is}
use Rattle.pa_shelf.proofs.Returning.{record_is, parts_alike}
use Rattle.pa_shelf.proofs.Staying.{spans_kept, shown_stays}

-- nothing of its list is left
pub record IsUsedUp (x : SpanRecord) (s : Span) : Type 0 where
  pub is : alone x ≡ record_with s 0 0
  pub provisioned : x.provisioned ≡ s.provisioned
  pub all : s.allocated ≡ s.provisioned
  pub none : s.free ≡ []
  pub more : s.provisioned + 1 ≤ more_slots s

pub used_up : (v : View) (l : ShelfParts) (x : SpanRecord) (t : Title) (r : Root) (s : Span) → HasSlotOf v l x t r s →
    x.provisioned ≤ x.allocated → IsUsedUp x s
used_up v l x t r s b all =
    let e = record_is v l r s t.start x b.at.shown.kept b.at.among b.at.here b.read in
    let a : x.allocated ≡ s.allocated = ap (λ (y : SpanRecord). y.allocated) e in
    let p : x.provisioned ≡ s.provisioned = ap (λ (y : SpanRecord). y.provisioned) e in
    let c = (b.at.sound.spans s b.at.among).counted in let listed = c.listed in let less = b.at.less in
    let none : s.free ≡ [] = elim (list_cases s.free) [
      | inl nothing ↦ nothing
      | inr other ↦ let many = ap length other.2 in absurd (omega arith)
    ] in
    record { is = e; provisioned = p; all = omega arith; none = none; more = more_than s c (omega arith) }

-- the slots that are put on it
pub pushed_are : (t : Title) (s : Span) (x y : SpanRecord) → t ≡ first_title s → x.provisioned ≡ s.provisioned → y ≡ with_more t.start x →
    slots_more x ≡ more_slots s → slots_beside t x.provisioned (y.provisioned - x.provisioned) ≡ titles_free (provisioned_more s)
pushed_are t s x y t_is p y_is m =
    ap (λ z. slots_beside z x.provisioned (y.provisioned - x.provisioned)) t_is
    ∙ (ap (λ n. slots_beside (first_title s) n (y.provisioned - n)) p
    ∙ (ap (λ (z : SpanRecord). slots_beside (first_title s) s.provisioned (z.provisioned - s.provisioned)) y_is
    ∙ ap (λ n. slots_beside (first_title s) s.provisioned (n - s.provisioned)) m))

pub more_is : (x : SpanRecord) (s : Span) → alone x ≡ record_with s 0 0 → slots_more x ≡ more_slots s
more_is x s e = ap slots_more e

-- the record with them
head_is : (s : Span) (count : ℕ) → 1 ≤ count →
    front_start (provisioned_more s) (numbers s.provisioned count) ≡ s.place + slot_of s.class * s.provisioned
head_is s zero some = absurd (omega arith)
head_is s (suc count) some = refl

record_more : (x y : SpanRecord) (s : Span) (at : ℕ) → s.place ≡ at → IsUsedUp x s → y ≡ with_more at x →
    alone y ≡ record_with (provisioned_more s) 0 0
record_more x y s at here u y_is =
    let some : 1 ≤ more_slots s - s.provisioned = let more = u.more in omega arith in
    ap alone y_is ∙ (ap (with_more at) u.is ∙ (ap (λ n. with_more n (record_with s 0 0)) (sym here)
    ∙ ap (λ n. record (record_with (provisioned_more s) 0 0) { head = n }) (sym (head_is s (more_slots s - s.provisioned) some))))

-- a slot that is pushed, and one that is in a list, don't start in one word
pub start_whole : (v : View) (l : ShelfParts) (r : Root) (s : Span) (n : ℕ) → ShowsRoot v l r → Contains r.spans s → s.class < 170 →
    (title_at s n).start % 8 ≡ 0
start_whole v l r s n shown among real =
    let first = (shown.kept.stored.had s among).payload.aligned in
    let size = (IsRow-of s.class real).sixteens in
    let times : (slot_of s.class * n) % 8 ≡ 0 = times_whole (slot_of s.class) n (omega arith) in
    omega arith

same_start : (a b : ℕ) → a % 8 ≡ 0 → b % 8 ≡ 0 → a / 8 ≡ b / 8 → a ≡ b
same_start a b p q e = omega arith

pub never_listed : (v : View) (l : ShelfParts) (r : Root) (s z : Span) (n m : ℕ) → IsAware v → ShowsRoot v l r →
    s.class < 170 → z.class < 170 → Contains r.spans s → Contains r.spans z →
    0 < free_of v (title_at s n) → 0 < free_of v (title_at z m) → (title_at s n).start / 8 ≡ (title_at z m).start / 8 →
    title_at s n ≡ title_at z m
never_listed v l r s z n m aware shown real real' among member free free' e =
    let a = start_whole v l r s n shown among real in
    let b = start_whole v l r z m shown member real' in
    let same = same_start (title_at s n).start (title_at z m).start a b e in
    let some = size_some s.class real in let some' = size_some z.class real' in
    aware.apart (title_at s n) (title_at z m) (title_at s n).start (omega arith) (omega arith) (omega arith, omega arith)
    (omega arith, omega arith)

-- what stays when they are pushed
pub record IsPushed (v w : View) (l : ShelfParts) (s : Span) (from count : ℕ) : Type 0 where
  pub aware : IsAware v
  pub relinked : Relinked v w
  pub low : s.provisioned ≤ from
  pub high : from + count ≤ slots_of s.class
  pub held : (n : ℕ) → from ≤ n → n < from + count → 0 < free_of v (title_at s n)
  pub beside : SameBeside (map (title_at s) (numbers from count)) v.words w.words

pushed_in : (s : Span) (from count : ℕ) (t : Title) → Contains (map (title_at s) (numbers from count)) t → (n : ℕ) × (from ≤ n) ×
    (n < from + count) × (title_at s n ≡ t)
pushed_in s from count t inside =
    let (n, among, is) = map_cases (title_at s) (numbers from count) t inside in
    let (low, high) = numbers_in from count n among in
    (n, low, high, is)

pub push_keeps : (v w : View) (l : ShelfParts) (r : Root) (s : Span) (from count : ℕ) → ShowsRoot v l r → s.class < 170 →
    IsPushed v w l s from count →
    KeepsRecords l.supers v w
push_keeps v w l r s from count shown real p = record {
  words = λ u q payload low high. p.beside q (λ t inside same.
      let (n, least, most, is) = pushed_in s from count t inside in
      let free : 0 < free_of v t = subst (λ (z : Title). 0 < free_of v z) is (p.held n least most) in
      let size : slot_of s.class ≡ t.len = ap (λ (z : Title). z.len) is in
      let some = size_some s.class real in
      apart v t u p.aware (shown.kept.pages u payload).raw free (omega arith) (omega arith) (omega arith));
  raw = λ u payload raw. subst (λ (z : View). HasRawRecord z u) (sym p.relinked.rest) raw;
}

pub push_chains : (v w : View) (l : ShelfParts) (r : Root) (s : Span) (from count : ℕ) → ShowsRoot v l r → Contains r.spans s →
    ((z : Span) → Contains r.spans z → z.class < 170) →
    ((z : Span) → Contains r.spans z → (m : ℕ) → Contains z.free m → m < z.provisioned) →
    ((z : Span) → Contains r.spans z → (n m : ℕ) → n < slots_of s.class → Contains z.free m → title_at s n ≡ title_at z m → (s ≡ z) ×
    (n ≡ m)) →
    IsPushed v w l s from count → KeepsChains v w r.spans
push_chains v w l r s from count shown among real listed one p z member y inside =
    let (m, numbered, is) = map_cases (title_at z) z.free y inside in
    let is_chain = shown.chains z member in
    let free : 0 < free_of v y = All-contains (λ (t : Title). 0 < free_of v t) (titles_free z) y is_chain.free inside in
    let free_at : 0 < free_of v (title_at z m) = subst (λ (t : Title). 0 < free_of v t) (sym is) free in
    let same_free = free_same v w p.relinked y in (
      omega arith,
      p.beside (y.start / 8) (λ t pushed e.
          let (n, least, most, t_is) = pushed_in s from count t pushed in
          let starts : (title_at s n).start / 8 ≡ (title_at z m).start / 8 =
          ap (λ (u : Title). u.start / 8) t_is ∙ (e ∙ sym (ap (λ (u : Title). u.start / 8) is)) in
          let both = never_listed v l r s z n m p.aware shown (real s among) (real z member) among member
          (p.held n least most) free_at starts in
          let high = p.high in let low = p.low in
          let (span, number) = one z member n m (omega arith) numbered both in
          let below = listed z member m numbered in
          let many = ap (λ (u : Span). u.provisioned) span in
          omega arith),
    )

-- after more slots were provisioned the root is shown, and a slot can be taken
pub ready_more : (v w : View) (l : ShelfParts) (x y : SpanRecord) (t : Title) (r : Root) (s : Span) → IsTakeOf v l x t r s →
    x.provisioned ≤ x.allocated →
    IsAware v → y ≡ with_more t.start x → Relinked v w →
    SameBeside (slots_beside t x.provisioned (y.provisioned - x.provisioned)) v.words w.words →
    IsChain w (record {
      slot_len = t.len;
      head = front_of (slot_names (slots_beside t x.provisioned (y.provisioned - x.provisioned)));
      len = y.provisioned - x.provisioned;
    }) (slots_beside t x.provisioned (y.provisioned - x.provisioned)) → IsReadyAt w l y t r s
ready_more v w l x y t r s b all aware y_is relinked beside chain =
    let u = used_up v l x t r s b.slot all in
    let take = b.slot.at in let shown = take.shown in let k = shown.kept in
    let c = (take.sound.spans s take.among).counted in
    let count = more_slots s - s.provisioned in
    let pm = provisioned_more s in
    let with_is : pm ≡ with_free s = sym (ap (λ xs. with_list xs s) u.none) in
    let pushed : slots_beside t x.provisioned (y.provisioned - x.provisioned) ≡ titles_free pm =
    pushed_are t s x y b.slot.first u.provisioned y_is (more_is x s u.is) in
    let more = u.more in
    let most : more_slots s ≤ slots_of s.class = omega arith in
    let p : IsPushed v w l s s.provisioned count = record {
      aware = aware;
      relinked = relinked;
      low = omega arith;
      high = omega arith;
      held = λ n low high. b.held u.none n low (omega arith);
      beside = subst (λ ts. SameBeside ts v.words w.words) pushed beside;
    } in
    let real : (z : Span) → Contains r.spans z → z.class < 170 = λ z member. (take.sound.spans z member).counted.class in
    let keeps = push_keeps v w l r s s.provisioned count shown c.class p in
    let chains = push_chains v w l r s s.provisioned count shown take.among real (λ z member. (take.sound.spans z member).counted.numbers)
    (λ z member n m below numbered same.
    let d = (take.sound.spans z member).counted in let made = d.made in let fits = d.most in let low = d.numbers m numbered in
    let one = one_slot r s z n m take.sound take.among member below (omega arith) (ap (λ (q : Title). q.born) same)
    (ap (λ (q : Title). q.start) same) in
    (one.span, one.number)) p in
    let had : HasSpanAt v l.supers t.start = subst (HasSpanAt v l.supers) take.here (k.stored.had s take.among) in
    let kept : spans_in w.words t.start ≡ x = spans_kept l.supers v w t.start keeps had ∙ sym b.slot.read in
    let len_is : y.provisioned - x.provisioned ≡ length (numbers s.provisioned count) =
    ap (λ (z : SpanRecord). z.provisioned - x.provisioned) y_is
    ∙ (ap (λ n. n - x.provisioned) (more_is x s u.is) ∙
    (ap (λ n. more_slots s - n) u.provisioned ∙ sym (numbers_length s.provisioned count))) in
    let own : IsChain w (chain_of pm) (titles_free pm) =
    subst (λ (d : ChainParts). IsChain w d (titles_free pm))
    (parts_alike (record { slot_len = t.len; head = front_of (slot_names (titles_free pm)); len = y.provisioned - x.provisioned })
    (chain_of pm)
    (ap (λ (z : Title). z.len) b.slot.first) refl len_is)
    (subst (λ ts. IsChain w (record { slot_len = t.len; head = front_of (slot_names ts); len = y.provisioned - x.provisioned }) ts) pushed
    chain) in
    record {
      sound = take.sound;
      shown = shown_stays v w l r keeps chains shown;
      among = take.among;
      less = take.less;
      first = b.slot.first;
      listed = subst (λ (z : SpanRecord). StaysListed z y) (sym kept) (subst (StaysListed x) (sym y_is)
          (record { class = inl refl; state = refl; turn = refl; previous = refl; next = refl }));
      is = record_more x y s t.start take.here u y_is ∙ ap (λ (z : Span). record_with z 0 0) with_is;
      chain = subst (λ (z : Span). IsChain w (chain_of z) (titles_free z)) with_is own;
    }

-- the numbers of the record fit
pub record HasRoomFor (x : SpanRecord) (t : Title) : Type 0 where
  pub committed : x.committed ≤ 240
  pub more : x.provisioned < slots_of x.class
  pub inside : t.start + slot_of x.class * slots_of x.class < 2097152 * 2048

pub span_inside : (v : View) (l : ShelfParts) (x : SpanRecord) (t : Title) (r : Root) (s : Span) → HasSlotOf v l x t r s →
    t.start < 2097152 * 2048 → t.start + slot_of s.class * slots_of s.class < 2097152 * 2048
span_inside v l x t r s b small =
    let row = IsRow-of s.class (b.at.sound.spans s b.at.among).counted.class in
    let turned : slots_of s.class * slot_of s.class ≡ slot_of s.class * slots_of s.class = omega arith in
    let pages = row.few_pages in let inside = row.inside in
    let (a, page, place) = b.at.sound.placed s b.at.among in
    let here = b.at.here in let first = place.first in let last = place.last in let at = place.place in
    omega arith

pub room_for : (v : View) (l : ShelfParts) (x : SpanRecord) (t : Title) (r : Root) (s : Span) → HasSlotOf v l x t r s →
    x.provisioned ≤ x.allocated →
    t.start < 2097152 * 2048 → HasRoomFor x t
room_for v l x t r s b all small =
    let u = used_up v l x t r s b all in
    let c = (b.at.sound.spans s b.at.among).counted in
    let row = IsRow-of s.class c.class in
    let p = u.provisioned in
    let committed : x.committed ≡ s.committed = ap (λ (y : SpanRecord). y.committed) u.is in
    let class : x.class ≡ s.class = ap (λ (y : SpanRecord). y.class) u.is in
    let slots : slots_of x.class ≡ slots_of s.class = ap slots_of class in
    let bytes : slot_of x.class * slots_of x.class ≡ slot_of s.class * slots_of s.class = ap (λ k. slot_of k * slots_of k) class in
    let used = row.used in let pages = row.few_pages in let most = c.committed in let less = b.at.less in let all_out = u.all in
    let inside = span_inside v l x t r s b small in
    record {
      committed = omega arith;
      more = omega arith;
      inside = omega arith;
    }

-- the first slot of the span
pub first_is : (v : View) (l : ShelfParts) (at : ℕ) (r : Root) (s : Span) (x : SpanRecord) (t : Title) (number : ℕ) → HasSlotAt v l at r s →
    x ≡ spans_in v.words at → t.start ≡ at → t.len ≡ slot_of x.class → number ≡ super_page_at at →
    ((a : SuperPage) → AllPairs (λ (b c : SuperPage). b.number ≢ c.number) l.supers → Contains l.supers a → a.number ≡ number →
    t.born ≡ a.born) →
    t ≡ first_title s
first_is v l at r s x t number b read start len number_is born =
    let k = b.shown.kept in
    let e = record_is v l r s at x k b.among b.here read in
    let class : x.class ≡ s.class = ap (λ (y : SpanRecord). y.class) e in
    let (a, page, p) = b.sound.placed s b.among in
    let place = p.place in let here = b.here in let last = p.last in
    let some = (IsRow-of s.class (b.sound.spans s b.among).counted.class).some_pages in
    let same : a.number ≡ number = in_super a.number page (pages_of s.class) at number (sym here ∙ place) last some number_is in
    title_is t (first_title s) (start ∙ sym here) (len ∙ ap slot_of class)
    (born a k.apart (subst (λ zs. Contains zs a) k.supers p.among) same ∙ sym p.born)
  where
    in_super : (number page pages at n : ℕ) → at ≡ 2097152 * number + 16384 * page → page + pages ≤ 127 → 1 ≤ pages → n ≡ at / 2097152 →
        number ≡ n
    in_super number page pages at n is last some n_is = omega arith

pub take_had : (v : View) (l : ShelfParts) (at : ℕ) (r : Root) (s : Span) → HasSlotAt v l at r s → HasSpanAt v l.supers at
take_had v l at r s b = subst (HasSpanAt v l.supers) b.here (b.shown.kept.stored.had s b.among)

-- the record that was read is that of the span, with its first slot
pub slot_is : (y z : Share) (l : ShelfParts) (at : ℕ) (r : Root) (s : Span) (x : SpanRecord) (t : Title) → HasSlotAt z.view l at r s →
    y ≡ z →
    ((a : SpanRecord) → IsRecordAt z.view.words (record_word at) a → x ≡ a) → (x ≡ spans_in z.view.words at → t ≡ first_title s) →
    HasSlotOf y.view l x t r s
slot_is y z l at r s x t b seat read first_if =
    let x_is = read_is z.view l.supers at x (take_had z.view l at r s b) read in
    let first = first_if x_is in
    let start : at ≡ t.start = sym (ap (λ (a : Title). a.start) first ∙ b.here) in
    subst (λ (q : Share). HasSlotOf q.view l x t r s) (sym seat) (record {
      at = subst (λ n. HasSlotAt z.view l n r s) start b;
      read = subst (λ n. x ≡ spans_in z.view.words n) start x_is;
      first = first;
    })

pub take_is : (y z : Share) (l : ShelfParts) (x : SpanRecord) (t : Title) (r : Root) (s : Span) → y ≡ z → HoldsMore z.view s →
    HasSlotOf y.view l x t r s →
    IsTakeOf y.view l x t r s
take_is y z l x t r s seat held slot = record { slot = slot; held = subst (λ (q : Share). HoldsMore q.view s) (sym seat) held }

-- these slots can be pushed
pub record CanPush (v : View) (t : Title) (from count : ℕ) : Type 0 where
  pub able : (n : ℕ) → from ≤ n → n < from + count → 0 < free_of v (slot_beside t n)
  pub some : 0 < t.len
  pub inside : t.start + t.len * (from + count) < 2097152 * 2048

pub can_push : (v : View) (l : ShelfParts) (x y : SpanRecord) (t : Title) (r : Root) (s : Span) (from count : ℕ) → IsTakeOf v l x t r s →
    x.provisioned ≤ x.allocated → y ≡ with_more t.start x → t.start < 2097152 * 2048 → from ≡ x.provisioned → from + count ≡ y.provisioned →
    CanPush v t from count
can_push v l x y t r s from count b all y_is small from_is end_is =
    let u = used_up v l x t r s b.slot all in
    let room = room_for v l x t r s b.slot all small in
    let c = (b.slot.at.sound.spans s b.slot.at.among).counted in
    let p : y.provisioned ≡ more_slots s = ap (λ (z : SpanRecord). z.provisioned) y_is ∙ more_is x s u.is in
    let e = u.provisioned in
    let class : x.class ≡ s.class = ap (λ (z : SpanRecord). z.class) u.is in
    let size : t.len ≡ slot_of s.class = ap (λ (z : Title). z.len) b.slot.first in
    let some = size_some s.class c.class in
    let most : more_slots s ≤ slots_of s.class = omega arith in
    let up : t.len * (from + count) ≤ t.len * slots_of s.class = mul-le-mul_left t.len (omega arith) in
    let all_bytes : t.len * slots_of s.class ≡ slot_of x.class * slots_of x.class =
    ap (λ n. n * slots_of s.class) size ∙ sym (ap (λ k. slot_of k * slots_of k) class) in
    let inside = room.inside in
    record {
      able = λ n low high. subst (λ (z : Title). 0 < free_of v (slot_beside z n)) (sym b.slot.first)
          (b.held u.none n (omega arith) (omega arith));
      some = omega arith;
      inside = omega arith;
    }

-- this many more than before
pub more_left : (v : View) (l : ShelfParts) (x y : SpanRecord) (t : Title) (r : Root) (s : Span) → IsTakeOf v l x t r s →
    x.provisioned ≤ x.allocated →
    y ≡ with_more t.start x → x.provisioned ≤ y.provisioned
more_left v l x y t r s b all y_is =
    let u = used_up v l x t r s b.slot all in
    let p : y.provisioned ≡ more_slots s = ap (λ (z : SpanRecord). z.provisioned) y_is ∙ more_is x s u.is in
    let e = u.provisioned in let more = u.more in
    omega arith

pub ready_pushed : (v w : View) (l : ShelfParts) (x y : SpanRecord) (t : Title) (r : Root) (s : Span) (from count : ℕ) →
    IsTakeOf v l x t r s →
    x.provisioned ≤ x.allocated → IsAware v → y ≡ with_more t.start x → Relinked v w →
    SameBeside (slots_beside t from count) v.words w.words →
    IsChain w (record { slot_len = t.len; head = front_of (slot_names (slots_beside t from count)); len = count })
    (slots_beside t from count) →
    from ≡ x.provisioned → count ≡ y.provisioned - x.provisioned → IsReadyAt w l y t r s
ready_pushed v w l x y t r s from count b all aware y_is relinked beside chain from_is count_is =
    let P : ℕ → ℕ → Type 0 = λ n m. SameBeside (slots_beside t n m) v.words w.words
    × IsChain w (record { slot_len = t.len; head = front_of (slot_names (slots_beside t n m)); len = m }) (slots_beside t n m) in
    let both : P x.provisioned (y.provisioned - x.provisioned) =
    subst (P x.provisioned) count_is (subst (λ n. P n count) from_is (beside, chain)) in
    ready_more v w l x y t r s b all aware y_is relinked both.0 both.1
