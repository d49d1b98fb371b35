-- The slots that one take makes: those that its span is provisioned with for the first time.
use Rattle.std.proofs.Common.{◌≡◌, ℕ, ◌+◌, ◌-◌, ◌*◌, ◌<◌, ◌≤◌, max, Bool, if◌then◌else◌, List, [], ◌∷◌, Option, Some, None, refl, sym, ◌∙◌, ap, subst, arith, ◌⊎◌, inl, inr}
use Rattle.std.specs.Prelude.{Contains, nat_le}
use Rattle.std.proofs.lemmas.Bool.{cases_Bool, cases_lt}
use Rattle.std.proofs.lemmas.List.Elements.{Contains-push_cases, Contains-append_left}
use Rattle.pa_slot.specs.declared.title.Title.{Title}
use Rattle.pa_buckets.specs.Table.{slot_of, pages_of, slots_of}
use Rattle.pa_lists.proofs.Members.{of_some, not_some}
use Rattle.pa_record.specs.declared.taken.SuperPage.{SuperPage}
use Rattle.pa_record.specs.Spans.{Span, title_at, more_slots, with_list, with_free, without_front, state_in_use, listed}
use Rattle.pa_record.specs.Root.{Root, Found, current, in_state, entered, front_taken, new_span, with_span, at_page, found_or_new, span_for, taken_from, one_take}
use Rattle.pa_record.specs.Sound.{IsSound, IsMade}
use Rattle.pa_record.proofs.Entering.{IsLike, in_state_like, like_trans, entered_there}
use Rattle.pa_record.proofs.Places.{put_cases}
use Rattle.pa_record.proofs.Slots.{slots_apart, slot_within}
use Rattle.pa_record.proofs.SpanSteps.{size_some, with_free_front}
use Rattle.pa_record.proofs.Taking.{front_from, entered_made, title_like, same_made, free_made}
use Rattle.pa_shelf.specs.Cutting.{count_cut}
use Rattle.pa_shelf.specs.Taking.{take_of}
use Rattle.pa_shelf.proofs.OneTake.{found_ready}
use Rattle.pa_root.specs.Cutting.{title_beside}
use Rattle.pa_root.specs.Filling.{MakesMore}
use Rattle.pa_root.specs.Taking.{titles_new_in}
use Rattle.pa_root.proofs.Rows.{in_row, row_has, row_once}

-- ---- which slots of a span these are

max_is : (a b : ℕ) → max a b ≡ a + (b - a)
max_is a b = omega arith

made_count : (s : Span) → (with_free s).made ≡ s.made + count_cut s.free s
made_count s = by_list s.free s
  where
    by_list : (xs : List ℕ) (s : Span) → (with_list xs s).made ≡ s.made + count_cut xs s
    by_list [] s = max_is s.made (more_slots s)
    by_list (x ∷ xs) s = omega arith

beside_is : (s : Span) (m k : ℕ) → title_beside (title_at s m) k ≡ title_at s (m + k)
beside_is s m k =
    let sum : s.place + slot_of s.class * m + slot_of s.class * k ≡ s.place + slot_of s.class * (m + k) = omega arith in
    ap (λ n. let x : Title = record { start = n; len = slot_of s.class; born = s.born } in x) sum

pub in_cut : (s : Span) (t : Title) → Contains (titles_new_in s) t → (n : ℕ) × (s.made ≤ n) × (n < (with_free s).made) × (t ≡ title_at s n)
in_cut s t among =
    let (k, below, e) = in_row (title_at s s.made) 0 (count_cut s.free s) t among in
    let z : 0 + k ≡ k = omega arith in
    let m = made_count s in
    (s.made + k, omega arith, omega arith, e ∙ (ap (title_beside (title_at s s.made)) z ∙ beside_is s s.made k))

pub of_cut : (s : Span) (n : ℕ) → s.made ≤ n → n < (with_free s).made → Contains (titles_new_in s) (title_at s n)
of_cut s n from below =
    let k = n - s.made in
    let m = made_count s in
    let z : 0 + k ≡ k = omega arith in
    let e : s.made + k ≡ n = omega arith in
    subst (λ t. Contains (titles_new_in s) t) (ap (title_beside (title_at s s.made)) z ∙ (beside_is s s.made k ∙ ap (title_at s) e))
    (row_has (title_at s s.made) 0 (count_cut s.free s) k (omega arith))

-- none of them was made before
not_made : (r : Root) (s : Span) (n : ℕ) (x : Title) → IsSound r → Contains r.spans s → s.made ≤ n → n < slots_of s.class →
    x ≡ title_at s n →
    IsMade r x → ⊥
not_made r s n x sound among from few e (v, member, m, less, f) =
    let most = (sound.spans v member).counted.most in
    let born : s.born ≡ v.born = sym (ap (λ (z : Title). z.born) e) ∙ ap (λ (z : Title). z.born) f in
    elim (slots_apart r s v n m sound among member few (omega arith) born) [
      | inl one ↦ let p = ap (λ (z : Span). z.made) one.span in let q = one.number in omega arith
      | inr apart ↦
          let w = slot_within s n (sound.spans s among).counted few in
          let some = w.some in
          let start = ap (λ (z : Title). z.start) (sym e ∙ f) in
          let size = ap (λ (z : Title). z.len) (sym e ∙ f) in
          elim apart [ inl before ↦ omega arith | inr after ↦ omega arith ]
    ]

-- ---- a take from a span of the root

take_makes : (r : Root) (s : Span) → IsSound r → Contains r.spans s → s.allocated < slots_of s.class →
    MakesMore r (take_of s r).root (titles_new_in s)
take_makes r s sound among left =
    let good = (sound.spans s among).counted in
    let f = with_free_front s good left in
    let u = with_free s in
    let t = without_front f.rest u in
    let to = state_in_use t in
    let like = (front_from s f.rest).like in
    let more = free_made s in
    let few : u.made ≤ slots_of s.class = let p = f.counted.most in let c = ap slots_of like.class in omega arith in
    let v = in_state to r.turn t in
    let near : IsLike v s = like_trans v t s (in_state_like to r.turn t) like in
    let many : v.made ≡ u.made = same_made to r.turn t in
    let root : (take_of s r).root ≡ entered to t r = ap (λ xs. (front_taken xs u r).root) f.free in
    subst (λ z. MakesMore r z (titles_new_in s)) (sym root) (record {
      keeps = λ x made. entered_made r s t to x sound among like more made;
      only = λ x made.
          let (y, member, n, below, e) = made in
          elim (put_cases v y r.spans sound.places member) [
            | inl same ↦
                let less : n < u.made = let p = ap (λ (z : Span). z.made) same in omega arith in
                let is : x ≡ title_at s n = e ∙ (ap (λ z. title_at z n) same ∙ title_like v s n near) in
                elim (cases_lt n s.made) [
                  | inl old ↦ inl (s, among, n, old, is)
                  | inr new ↦ inr (subst (λ z. Contains (titles_new_in s) z) (sym is) (of_cut s n new less))
                ]
            | inr old ↦ inl (y, old.0, n, below, e)
          ];
      makes = λ x member.
          let (n, from, below, e) = in_cut s x member in
          (v, entered_there r s t to among like, n, omega arith, e ∙ sym (title_like v s n near));
      fresh = λ x member made.
          let (n, from, below, e) = in_cut s x member in
          not_made r s n x sound among from (omega arith) e made;
      once = let some = size_some s.class good.class in row_once (title_at s s.made) 0 (count_cut s.free s) (omega arith);
    })

-- ---- and from the one that is found, or is new

-- all spans are kept, each new one has made no slot, and super pages and turn are those of before
pub record IsGrown (r after : Root) : Type 0 where
  pub keeps : (s : Span) → Contains r.spans s → Contains after.spans s
  pub only : (s : Span) → Contains after.spans s → Contains r.spans s ⊎ (s.made ≡ 0)
  pub supers : after.supers ≡ r.supers
  pub turn : after.turn ≡ r.turn

same_grown : (r : Root) → IsGrown r r
same_grown r = record { keeps = λ s among. among; only = λ s among. inl among; supers = refl; turn = refl }

span_grown : (r : Root) (s : Span) → s.made ≡ 0 → IsGrown r (with_span s r)
span_grown r s none = record {
  keeps = λ u among. Contains-append_left r.spans (s ∷ []) u among;
  only = λ u among. elim (Contains-push_cases r.spans s u among) [
    | inl old ↦ inl old
    | inr e ↦ inr (sym (ap (λ (z : Span). z.made) e) ∙ none)
  ];
  supers = refl;
  turn = refl;
}

page_grown : (class : ℕ) (r : Root) (o : Option SuperPage) (f : Found) → at_page class r o ≡ Some f → IsGrown r f.root
page_grown class r None f e = absurd (not_some f e)
page_grown class r (Some a) f e =
    let s = new_span class a r.page in
    let g : Found = record { span = s; root = with_span s r } in
    elim (cases_Bool (nat_le (r.page + pages_of class) 127)) [
      | inl fits ↦
          let same = of_some g f (sym (ap (λ (b : Bool). if b then Some g else None) fits) ∙ e) in
          subst (λ (x : Found). IsGrown r x.root) same (span_grown r s refl)
      | inr full ↦ absurd (not_some f (sym (ap (λ (b : Bool). if b then Some g else None) full) ∙ e))
    ]

by_listed : (class : ℕ) (r : Root) (o : Option Span) (f : Found) → found_or_new class r o ≡ Some f → IsGrown r f.root
by_listed class r None f e = page_grown class r (current r) f e
by_listed class r (Some s) f e =
    let g : Found = record { span = s; root = r } in
    subst (λ (x : Found). IsGrown r x.root) (of_some g f e) (same_grown r)

pub found_grown : (class : ℕ) (r : Root) (f : Found) → span_for class r ≡ Some f → IsGrown r f.root
found_grown class r f is = by_listed class r (listed class r.spans) f is

pub grown_made : (r after : Root) (t : Title) → IsGrown r after → IsMade r t → IsMade after t
grown_made r after t g (s, among, n, below, e) = (s, g.keeps s among, n, below, e)

pub made_grown : (r after : Root) (t : Title) → IsGrown r after → IsMade after t → IsMade r t
made_grown r after t g (s, among, n, below, e) = elim (g.only s among) [
  | inl old ↦ (s, old, n, below, e)
  | inr none ↦ absurd (omega arith)
]

pub one_makes : (class : ℕ) (r : Root) (f : Found) → IsSound r → class < 170 → span_for class r ≡ Some f →
    MakesMore r (one_take class r).root (titles_new_in f.span)
one_makes class r f sound real is =
    let h = found_ready class r f sound real is in
    let g = found_grown class r f is in
    let m = take_makes f.root f.span h.sound h.among h.less in
    subst (λ z. MakesMore r z (titles_new_in f.span)) (sym (ap (λ o. (taken_from o r).root) is)) (record {
      keeps = λ t made. m.keeps t (grown_made r f.root t g made);
      only = λ t made. elim (m.only t made) [ inl before ↦ inl (made_grown r f.root t g before) | inr new ↦ inr new ];
      makes = m.makes;
      fresh = λ t among made. m.fresh t among (grown_made r f.root t g made);
      once = m.once;
    })
