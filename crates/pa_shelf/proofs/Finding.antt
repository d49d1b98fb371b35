-- From a slot's page back to the page at which its span starts.
use Rattle.std.proofs.Common.{◌≡◌, ◌≢◌, ◌⊎◌, ℕ, ◌+◌, ◌*◌, ◌/◌, ◌%◌, ◌<◌, ◌≤◌, inl, inr, true, false, List, [], ◌∷◌, refl, sym, ◌∙◌, ap, subst, arith}
use Rattle.std.specs.Prelude.{AllPairs, Contains}
use Rattle.std.proofs.lemmas.Bool.{cases_Bool, both_ways, cases_lt}
use Rattle.pa_lists.proofs.Members.{not_in_none, in_cases}
use Rattle.pa_lists.proofs.Pairs.{pairs_head, pairs_tail}
use Rattle.pa_slot.specs.declared.title.Title.{Title}
use Rattle.pa_buckets.specs.declared.spans.State.TheVariants as state
use Rattle.pa_buckets.specs.Table.{slot_of, pages_of, slots_of}
use Rattle.pa_buckets.proofs.SpanRule.{FollowsRule-of}
use Rattle.pa_record.specs.declared.taken.SuperPage.{SuperPage}
use Rattle.pa_record.specs.Spans.{Span, same_state, same_place}
use Rattle.pa_record.specs.Root.{Root}
use Rattle.pa_record.specs.Sound.{StateSays, IsSound}
use Rattle.pa_record.proofs.Places.{place_tells}
use Rattle.pa_record.proofs.Entering.{same_state-true}
use Rattle.pa_record.proofs.Slots.{slot_within}
use Rattle.pa_region.specs.declared.view.View.{View}
use Rattle.pa_spans.specs.Lists.{IsInUse}
use Rattle.pa_records.specs.Words.{spans_in}
use Rattle.pa_meta.specs.Stores.{IsPayloadOf, HasSpanAt}
use Rattle.pa_shelf.specs.Shelves.{ShelfParts, RecordsRoot, IsBackAt}
use Rattle.pa_shelf.proofs.Oldest.{state_at}

-- a class with several slots has spans of at most four pages
few_pages : (c : ℕ) → c < 170 → (pages_of c ≤ 4) ⊎ (slots_of c ≡ 1)
few_pages c real =
    let f = FollowsRule-of c real in
    elim (cases_lt 16384 (slot_of c)) [
      | inl large ↦ inr (f.large large).one
      | inr small ↦ elim (f.small small) [ inl tight ↦ inl tight.tried.to_four | inr least ↦ inl least.tried.to_four ]
    ]

-- two super pages with one number are one
pub one_number : (a b : SuperPage) (ss : List SuperPage) → AllPairs (λ (x y : SuperPage). x.number ≢ y.number) ss → Contains ss a →
    Contains ss b →
    a.number ≡ b.number → a ≡ b
one_number a b [] apart first second same = absurd (not_in_none a first)
one_number a b (x ∷ xs) apart first second same =
    let R : SuperPage → SuperPage → Type 0 = λ x y. x.number ≢ y.number in
    elim (in_cases x a xs first) [
      | inl e ↦ elim (in_cases x b xs second) [
        | inl f ↦ sym e ∙ f
        | inr later ↦ absurd (pairs_head R x b xs apart later (ap (λ (z : SuperPage). z.number) e ∙ same))
      ]
      | inr before ↦ elim (in_cases x b xs second) [
        | inl f ↦ absurd (pairs_head R x a xs apart before (ap (λ (z : SuperPage). z.number) f ∙ sym same))
        | inr later ↦ one_number a b xs (pairs_tail R x xs apart) before later same
      ]
    ]

-- where a slot starts that is out
pub record IsInside (s : Span) (t : Title) (n : ℕ) : Type 0 where
  pub start : t.start ≡ s.place + slot_of s.class * n
  pub few : n < slots_of s.class
  pub low : s.place ≤ t.start
  pub high : t.start < s.place + 16384 * pages_of s.class

pub inside : (v : View) (l : ShelfParts) (at : ℕ) (t : Title) (r : Root) (s : Span) (n : ℕ) → IsBackAt v l at t r s n → IsInside s t n
inside v l at t r s n b =
    let c = (b.sound.spans s b.among).counted in
    let made = c.made in let most = c.most in let out = b.out.provisioned in
    let few : n < slots_of s.class = omega arith in
    let w = slot_within s n c few in let from = w.from in let to = w.to in let some = w.some in
    let start : t.start ≡ s.place + slot_of s.class * n = ap (λ (z : Title). z.start) b.titled in
    record { start = start; few = few; low = omega arith; high = omega arith }

-- a page of a span is a payload page, of the same super page
page_numbers : (number page pages place at : ℕ) → place ≡ 2097152 * number + 16384 * page → 1 ≤ page → page + pages ≤ 127 → at % 16384 ≡ 0 →
    place ≤ at → at < place + 16384 * pages → (number ≡ at / 2097152) × (1 ≤ at % 2097152 / 16384) × (at % 2097152 / 16384 ≤ 126)
page_numbers number page pages place at is first last aligned low high = (omega arith, omega arith, omega arith)

pub on_page : (v : View) (l : ShelfParts) (r : Root) (s : Span) (at : ℕ) → RecordsRoot v l r → (a : SuperPage) (page : ℕ) →
    Contains r.supers a →
    s.place ≡ 2097152 * a.number + 16384 * page → 1 ≤ page → page + pages_of s.class ≤ 127 → at % 16384 ≡ 0 → s.place ≤ at →
    at < s.place + 16384 * pages_of s.class → IsPayloadOf l.supers at
on_page v l r s at k a page among is first last aligned low high =
    let (number, least, most) = page_numbers a.number page (pages_of s.class) s.place at is first last aligned low high in
    record { aligned = aligned; super = (a, subst (λ zs. Contains zs a) k.supers among, number); page = (least, most) }

pub page_has : (v : View) (l : ShelfParts) (t : Title) (r : Root) (s : Span) (n at : ℕ) → IsBackAt v l s.place t r s n → at % 16384 ≡ 0 →
    s.place ≤ at → at ≤ t.start → HasSpanAt v l.supers at
page_has v l t r s n at b aligned low high =
    let (a, page, p) = b.sound.placed s b.among in
    let i = inside v l s.place t r s n b in let end = i.high in
    b.shown.kept.pages at (on_page v l r s at b.shown.kept a page p.among p.place p.first p.last aligned low (omega arith))

-- no span starts after the first page of another one, up to its end
pub none_behind : (v : View) (l : ShelfParts) (r : Root) (s t : Span) → IsSound r → RecordsRoot v l r → Contains r.spans s →
    Contains r.spans t →
    s.place < t.place → t.place < s.place + 16384 * pages_of s.class → ⊥
none_behind v l r s t sound k among inside low high =
    let (a, page, p) = sound.placed s among in
    let (c, other, q) = sound.placed t inside in
    let number = same_super a.number c.number page other (pages_of s.class)
    (pages_of t.class) s.place t.place p.place q.place p.last q.last low high in
    let one = one_number a c l.supers k.apart (subst (λ zs. Contains zs a) k.supers p.among)
    (subst (λ zs. Contains zs c) k.supers q.among) number in
    let born : s.born ≡ t.born = p.born ∙ (ap (λ (z : SuperPage). z.born) one ∙ sym q.born) in
    let far : same_place s t ≡ false = elim (cases_Bool (same_place s t)) [
      | inl same ↦ let e = (place_tells s t same).0 in absurd (omega arith)
      | inr away ↦ away
    ] in
    elim (sound.apart s t among inside far born) [ inl before ↦ omega arith | inr after ↦ omega arith ]
  where
    same_super : (a b p q n m s u : ℕ) → s ≡ 2097152 * a + 16384 * p → u ≡ 2097152 * b + 16384 * q → p + n ≤ 127 → q + m ≤ 127 → s < u →
        u < s + 16384 * n → a ≡ b
    same_super a b p q n m s u is too first second low high = omega arith

-- between a span's first page and the slot, pages have records of no state, and the first has one of some state
pub none_between : (v : View) (l : ShelfParts) (t : Title) (r : Root) (s : Span) (n at : ℕ) → IsBackAt v l s.place t r s n →
    at % 16384 ≡ 0 →
    s.place < at → at ≤ t.start → same_state (spans_in v.words at).state state.None ≡ true
none_between v l t r s n at b aligned low high = elim (cases_Bool (same_state (spans_in v.words at).state state.None)) [
  | inl none ↦ none
  | inr some ↦
      let used : IsInUse (spans_in v.words at) = λ none. both_ways _ some (subst (λ a. same_state a state.None ≡ true) (sym none) refl) in
      let (u, among, place) = b.shown.kept.stored.each at (page_has v l t r s n at b aligned (omega arith) high) used in
      let i = inside v l s.place t r s n b in let end = i.high in
      absurd (none_behind v l r s u b.sound b.shown.kept b.among among (omega arith) (omega arith))
]

pub some_first : (v : View) (l : ShelfParts) (t : Title) (r : Root) (s : Span) (n : ℕ) → IsBackAt v l s.place t r s n →
    same_state (spans_in v.words s.place).state state.None ≡ true → ⊥
some_first v l t r s n b none =
    let k = b.shown.kept in
    let is : s.state ≡ state.None = sym (state_at (spans_in v.words) (HasSpanAt v l.supers) r.spans s k.stored b.among)
    ∙ same_state-true (spans_in v.words s.place).state state.None none in
    let says : StateSays state.None s = subst (λ a. StateSays a s) is (b.sound.spans s b.among).says in
    let some = b.some in
    omega arith

-- a page with a record of no state is after the span's first one
pub goes_on : (v : View) (l : ShelfParts) (t : Title) (r : Root) (s : Span) (n at : ℕ) → IsBackAt v l s.place t r s n → at % 16384 ≡ 0 →
    s.place ≤ at → same_state (spans_in v.words at).state state.None ≡ true → s.place + 16384 ≤ at
goes_on v l t r s n at b aligned low none =
    let first = (b.shown.kept.stored.had s b.among).payload.aligned in
    let other : s.place ≡ at →
    ⊥ = λ e. some_first v l t r s n b (subst (λ u. same_state (spans_in v.words u).state state.None ≡ true) (sym e) none) in
    apart_more s.place at first aligned low other
  where
    apart_more : (a b : ℕ) → a % 16384 ≡ 0 → b % 16384 ≡ 0 → a ≤ b → (a ≡ b → ⊥) → a + 16384 ≤ b
    apart_more a b p q less differ = elim (cases_lt a b) [
      | inl below ↦ omega arith
      | inr above ↦ absurd (differ (omega arith))
    ]

-- a page with a record of some state is the span's first one
pub is_first : (v : View) (l : ShelfParts) (t : Title) (r : Root) (s : Span) (n at : ℕ) → IsBackAt v l s.place t r s n → at % 16384 ≡ 0 →
    s.place ≤ at → at ≤ t.start → same_state (spans_in v.words at).state state.None ≡ false → at ≡ s.place
is_first v l t r s n at b aligned low high some = elim (cases_lt s.place at) [
  | inl below ↦ absurd (both_ways _ some (none_between v l t r s n at b aligned below high))
  | inr above ↦ omega arith
]

-- three pages back at the latest
pub at_last : (v : View) (l : ShelfParts) (t : Title) (r : Root) (s : Span) (n at : ℕ) → IsBackAt v l s.place t r s n →
    at + 49152 ≡ t.start / 16384 * 16384 → s.place ≤ at → at ≡ s.place
at_last v l t r s n at b is low =
    let i = inside v l s.place t r s n b in let end = i.high in let few = i.few in let start = i.start in
    let first = (b.shown.kept.stored.had s b.among).payload.aligned in
    elim (few_pages s.class (b.sound.spans s b.among).counted.class) [
      | inl pages ↦ omega arith
      | inr one ↦ let zero : n ≡ 0 = omega arith in
          let none : slot_of s.class * n ≡ 0 = ap (λ k. slot_of s.class * k) zero ∙ omega arith in
          absurd (omega arith)
    ]
