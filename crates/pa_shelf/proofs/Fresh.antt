-- The next free page of the current super page: its record isn't in use, and a span that starts there is shown.
use Rattle.std.proofs.Common.{◌≡◌, ◌≢◌, ℕ, ◌+◌, ◌-◌, ◌*◌, ◌/◌, ◌%◌, ◌<◌, ◌≤◌, inl, inr, true, false, if◌then◌else◌, length, ◌∷◌, ◌++◌, [], Option, Some, None, refl, sym, ◌∙◌, ap, subst, arith}
use Rattle.std.specs.Prelude.{Contains, nat_le, slice_get, is_some}
use Rattle.std.proofs.lemmas.Bool.{cases_Bool, both_ways, leb-true, true≢false}
use Rattle.std.proofs.lemmas.List.Elements.{Contains-push_cases}
use Rattle.pa_lists.proofs.Indexed.{at_in}
use Rattle.pa_lists.proofs.Members.{of_some}
use Rattle.pa_layout.specs.Pages.{page_place}
use Rattle.pa_buckets.specs.declared.spans.State.TheVariants as state
use Rattle.pa_buckets.specs.Table.{pages_of}
use Rattle.pa_buckets.proofs.Facts.{IsRow-of}
use Rattle.pa_record.specs.declared.taken.SuperPage.{SuperPage}
use Rattle.pa_record.specs.Spans.{Span, same_state, listed}
use Rattle.pa_record.specs.Root.{Root, current, at_page, found_or_new, span_for, new_span, with_span}
use Rattle.pa_record.specs.Sound.{IsSound}
use Rattle.pa_record.proofs.SpanSteps.{size_some}
use Rattle.pa_record.proofs.Entering.{same_state-true}
use Rattle.pa_region.specs.declared.view.View.{View}
use Rattle.pa_region.specs.Aware.{IsAware}
use Rattle.pa_spans.specs.Lists.{IsInUse, IsOutside, HasList}
use Rattle.pa_records.specs.Words.{spans_in}
use Rattle.pa_records.specs.Records.{titles_free}
use Rattle.pa_meta.specs.Stores.{HasSpanAt, Rerecorded}
use Rattle.pa_link.specs.Chains.{IsChain}
use Rattle.pa_shelf.specs.Adding.{found_start, found_root, room_in, IsAddedAs}
use Rattle.pa_shelf.specs.Shelves.{ShelfParts, chain_of, RecordsRoot, ShowsRoot}
use Rattle.pa_shelf.specs.Taking.{start_of}
use Rattle.pa_shelf.proofs.Chained.{chain_stays}
use Rattle.pa_shelf.proofs.Decommitting.{empty_chain}
use Rattle.pa_shelf.proofs.Finding.{one_number}

-- where it is
pub record IsFresh (v : View) (l : ShelfParts) (r : Root) (class at : ℕ) : Type 0 where
  pub has : HasSpanAt v l.supers at
  pub alone : (s : Span) → Contains r.spans s → s.place ≢ at
  pub outside : IsOutside (spans_in v.words at)

page_numbers : (number page : ℕ) → 1 ≤ page → page ≤ 126 → ((2097152 * number + 16384 * page) % 16384 ≡ 0) ×
    (number ≡ (2097152 * number + 16384 * page) / 2097152) × (1 ≤ (2097152 * number + 16384 * page) % 2097152 / 16384) ×
    ((2097152 * number + 16384 * page) % 2097152 / 16384 ≤ 126)
page_numbers number page least most = (omega arith, omega arith, omega arith, omega arith)

same_numbers : (a b p q : ℕ) → 1 ≤ p → p ≤ 126 → 1 ≤ q → q ≤ 127 → 2097152 * a + 16384 * p ≡ 2097152 * b + 16384 * q → a ≡ b
same_numbers a b p q least most first last e = omega arith

pub is_fresh : (v : View) (l : ShelfParts) (r : Root) (class : ℕ) (a : SuperPage) → IsSound r → ShowsRoot v l r → current r ≡ Some a →
    class < 170 →
    r.page + pages_of class ≤ 127 → IsFresh v l r class (page_place a.number r.page)
is_fresh v l r class a sound shown now real room =
    let k = shown.kept in
    let at = page_place a.number r.page in
    let some = (IsRow-of class real).some_pages in
    let first = (sound.pages a now).0 in
    let among : Contains r.supers a = at_in r.supers (length r.supers - 1) a now in
    let (aligned, number, least, most) = page_numbers a.number r.page first (omega arith) in
    let has : HasSpanAt v l.supers at = k.pages at (record {
      aligned = aligned;
      super = (a, subst (λ zs. Contains zs a) k.supers among, number);
      page = (least, most);
    }) in
    let alone : (s : Span) → Contains r.spans s → s.place ≡ at → ⊥ = λ s member same.
    let (b, page, p) = sound.placed s member in
    let last = p.last in
    let pages = (IsRow-of s.class (sound.spans s member).counted.class).some_pages in
    let n = same_numbers b.number a.number page r.page p.first (omega arith) first (omega arith) (sym p.place ∙ same) in
    let one = one_number b a l.supers k.apart (subst (λ zs. Contains zs b) k.supers p.among)
    (subst (λ zs. Contains zs a) k.supers among) n in
    let before = sound.below s a member now (p.born ∙ ap (λ (z : SuperPage). z.born) one) in
    omega arith in
    let none : (spans_in v.words at).state ≡ state.None = elim (cases_Bool (same_state (spans_in v.words at).state state.None)) [
      | inl is ↦ same_state-true (spans_in v.words at).state state.None is
      | inr other ↦
          let used : IsInUse (spans_in v.words at) = λ is. both_ways _ other (subst (λ z. same_state z state.None ≡ true) (sym is) refl) in
          let (s, member, place) = k.stored.each at has used in
          absurd (alone s member place)
    ] in
    let two = k.stand.alone at has (λ listed. subst HasList none listed) in
    record { has = has; alone = alone; outside = (none, two.0, two.1) }

-- the span that starts there
pub is_added : (v : View) (l : ShelfParts) (r : Root) (class : ℕ) (a : SuperPage) → IsFresh v l r class (page_place a.number r.page) →
    IsAddedAs (page_place a.number r.page) class r.spans (new_span class a r.page)
is_added v l r class a fresh = record { here = refl; is = refl; alone = fresh.alone }

-- what is shown with it
pub added_shown : (v w : View) (l after : ShelfParts) (r : Root) (class : ℕ) (a : SuperPage) → IsSound r → ShowsRoot v l r → IsAware v →
    Rerecorded l.supers v w →
    after ≡ record l { page = l.page + pages_of class } → RecordsRoot w l (record r { spans = r.spans ++ new_span class a r.page ∷ [] }) →
    ShowsRoot w after (with_span (new_span class a r.page) r)
added_shown v w l after r class a sound shown aware wrote after_is k =
    let s = new_span class a r.page in
    subst (λ (m : ShelfParts). ShowsRoot w m (with_span s r)) (sym after_is) (record {
      kept = record {
        supers = k.supers;
        maps = k.maps;
        page = ap (λ n. n + pages_of class) k.page;
        turn = k.turn;
        apart = k.apart;
        small = k.small;
        pages = k.pages;
        unused = k.unused;
        stand = k.stand;
        few = k.few;
        stored = k.stored;
      };
      chains = λ u among. elim (Contains-push_cases r.spans s u among) [
        | inl old ↦ chain_stays v w l.supers (chain_of u) (titles_free u) aware wrote (λ p payload. (shown.kept.pages p payload).raw)
            (size_some u.class (sound.spans u old).counted.class) (shown.chains u old)
        | inr e ↦ subst (λ (z : Span). IsChain w (chain_of z) (titles_free z)) e (empty_chain w s refl)
      ];
    })

-- if there is room
pub room_some : (class page : ℕ) (o : Option SuperPage) (a : SuperPage) → room_in class page o ≡ Some a → (o ≡ Some a) ×
    (page + pages_of class ≤ 127)
room_some class page None a e = let no : None ≡ Some a = e in absurd (cc)
room_some class page (Some b) a e = elim (cases_Bool (nat_le (page + pages_of class) 127)) [
  | inl fits ↦ (sym (ap (λ c. if c then Some b else None) fits) ∙ e, leb-true _ _ fits)
  | inr full ↦ let no : None ≡ Some a = sym (ap (λ c. if c then Some b else None) full) ∙ e in absurd (cc)
]

pub found_some : (class : ℕ) (r : Root) (o : Option SuperPage) (a : SuperPage) → room_in class r.page o ≡ Some a →
    at_page class r o ≡ Some (record { span = new_span class a r.page; root = with_span (new_span class a r.page) r })
found_some class r None a e = let no : None ≡ Some a = e in absurd (cc)
found_some class r (Some b) a e = elim (cases_Bool (nat_le (r.page + pages_of class) 127)) [
  | inl fits ↦
      let same : Some b ≡ Some a = sym (ap (λ c. if c then Some b else None) fits) ∙ e in
      ap (λ c. if c then Some (record { span = new_span class b r.page; root = with_span (new_span class b r.page) r }) else None) fits
      ∙ ap (λ (x : SuperPage). Some (record { span = new_span class x r.page; root = with_span (new_span class x r.page) r }))
      (of_some b a same)
  | inr full ↦ let no : None ≡ Some a = sym (ap (λ c. if c then Some b else None) full) ∙ e in absurd (cc)
]

pub found_none : (class : ℕ) (r : Root) (o : Option SuperPage) → room_in class r.page o ≡ None → at_page class r o ≡ None
found_none class r None e = refl
found_none class r (Some b) e = elim (cases_Bool (nat_le (r.page + pages_of class) 127)) [
  | inl fits ↦ let no : Some b ≡ None = sym (ap (λ c. if c then Some b else None) fits) ∙ e in absurd (cc)
  | inr full ↦ ap (λ c. if c then Some (record { span = new_span class b r.page; root = with_span (new_span class b r.page) r }) else None)
      full
]

pub at_is : (a : SuperPage) (page here start : ℕ) → page ≡ here → start ≡ page_place a.number here → page_place a.number page ≡ start
at_is a page here start same is = ap (page_place a.number) same ∙ sym is

-- the room of the shelf is that of the root
pub here_room : (v : View) (l : ShelfParts) (r : Root) (class : ℕ) (o : Option SuperPage) → RecordsRoot v l r →
    o ≡ room_in class l.page (slice_get l.supers (length l.supers - 1)) → room_in class r.page (current r) ≡ o
here_room v l r class o k is =
    ap (λ n. room_in class n (current r)) k.page ∙ (ap (λ zs. room_in class l.page (slice_get zs (length zs - 1))) k.supers ∙ sym is)

-- a span that is listed is found, and else a new one
pub found_listed : (class : ℕ) (r : Root) (o : Option Span) (at : ℕ) → Some at ≡ start_of o →
    (found_start (found_or_new class r o) ≡ Some at) × (found_root (found_or_new class r o) r ≡ r)
found_listed class r None at e = let no : Some at ≡ None = e in absurd (cc)
found_listed class r (Some s) at e = (sym e, refl)

pub none_listed : (class : ℕ) (r : Root) (o : Option Span) → None ≡ start_of o → found_or_new class r o ≡ at_page class r (current r)
none_listed class r None e = refl
none_listed class r (Some s) e = let no : Some s.place ≡ None = sym e in absurd (cc)

-- if a listed span was found, so is a span that is found or new
some_found : (class : ℕ) (r : Root) (o : Option Span) → is_some (start_of o) ≡ true → true ≡ is_some (found_or_new class r o)
some_found class r None e = absurd (true≢false (sym e))
some_found class r (Some s) e = refl

new_found : (class : ℕ) (r : Root) (o : Option Span) → is_some (start_of o) ≡ false → found_or_new class r o ≡ at_page class r (current r)
new_found class r None e = refl
new_found class r (Some s) e = absurd (true≢false e)

page_found : (class : ℕ) (r : Root) (o : Option SuperPage) → is_some (room_in class r.page o) ≡ is_some (at_page class r o)
page_found class r None = refl
page_found class r (Some a) = elim (cases_Bool (nat_le (r.page + pages_of class) 127)) [
  | inl fits ↦ rw fits refl
  | inr full ↦ rw full refl
]

pub listed_found : (class : ℕ) (r : Root) (o : Option ℕ) → o ≡ start_of (listed class r.spans) → is_some o ≡ true →
    true ≡ is_some (span_for class r)
listed_found class r o is some = some_found class r (listed class r.spans) (sym (ap is_some is) ∙ some)

pub room_found : (v : View) (l : ShelfParts) (r : Root) (class : ℕ) (o : Option ℕ) (p : Option SuperPage) → RecordsRoot v l r →
    o ≡ start_of (listed class r.spans) → is_some o ≡ false → p ≡ room_in class l.page (slice_get l.supers (length l.supers - 1)) →
    is_some p ≡ is_some (span_for class r)
room_found v l r class o p k is none room =
    sym (ap is_some (here_room v l r class p k room))
    ∙ (page_found class r (current r) ∙ sym (ap is_some (new_found class r (listed class r.spans) (sym (ap is_some is) ∙ none))))
