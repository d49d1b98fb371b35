-- The laws of a root's journal, from their parts.
use Rattle.std.proofs.Common.{◌≡◌, ℕ, zero, suc, ◌+◌, ◌<◌, Bool, true, false, not, cond, eqb, leb, List, [], ◌∷◌, length, refl, sym, ◌∙◌, ap, subst, arith, inl, inr, Option, Some, None}
use Rattle.std.specs.Prelude.{Contains, AllPairs, count_by, IsSome, is_some}
use Rattle.std.specs.List.{list_any}
use Rattle.std.proofs.lemmas.Bool.{cases_Bool, true≢false, le-leb}
use Rattle.std.proofs.lemmas.List.Sums.{length-filter, sum_by-cons}
use Rattle.pa_slot.specs.declared.title.Title.{Title}
use Rattle.pa_slot.specs.declared.word.SlotName.{SlotName}
use Rattle.pa_layout.specs.Pages.{page_place, supers_for}
use Rattle.pa_buckets.specs.Table.{pages_of, slots_of}
use Rattle.pa_buckets.proofs.Facts.{IsRow-of}
use Rattle.pa_record.specs.declared.numbered.Numbered.{Numbered}
use Rattle.pa_record.specs.declared.taken.SuperPage.{SuperPage}
use Rattle.pa_record.specs.declared.pool.PoolEntry.{PoolEntry}
use Rattle.pa_record.specs.declared.pool.PoolAct.{PoolAct}
use Rattle.pa_record.specs.declared.pool.PoolAct.TheVariants as pool
use Rattle.pa_record.specs.declared.root.RootAct.TheVariants.{Fill}
use Rattle.pa_record.specs.Pool.{act_at}
use Rattle.pa_record.specs.Spans.{Span, title_at, name_of, listed}
use Rattle.pa_record.specs.Root.{Root, new_root, current, opened, found_or_new, empties, RootActFits, IsOut, IsOutOf, IsTitleOut, super_of, MapFits}
use Rattle.pa_record.specs.Sound.{IsSound, IsCounted}
use Rattle.pa_record.specs.Laws.{TurnsChoose, out_of, CanReturn, OutIsOut, FillKeeps, ReturnKeeps, EntryKeeps, JournalLeaves, JournalGrows, EntryIsOne}
use Rattle.pa_record.proofs.Tested.{name_is}
use Rattle.pa_lists.proofs.Members.{has, not_in_none, in_cases}
use Rattle.pa_lists.proofs.Pairs.{pairs_head, pairs_tail}
use Rattle.pa_record.proofs.Slots.{one_slot}
use Rattle.pa_record.proofs.Choice.{latest_is, latest_none, earliest_is, earliest_none}
use Rattle.pa_lists.proofs.Different.{passing, length_is}
use Rattle.pa_record.proofs.SpanSteps.{some_out}
use Rattle.pa_record.proofs.Filling.{takes_filled, opened_sound, opened_current, takes_some, takes_none}
use Rattle.pa_record.proofs.Returning.{find_out, number_is, all_returned_is, times_is}
use Rattle.pa_record.proofs.Mapping.{OtherBorn, mapped_sound, unmapped_sound}
use Rattle.pa_record.proofs.Stepping.{next_is}
use Rattle.pa_record.proofs.MadeBy.{made_titles}
use Rattle.pa_record.proofs.Titles.{journal_replayed}
use Rattle.pa_record.proofs.Replaying.{replays_more, replays_push, replayed_push, rise_push}
use Rattle.pa_lists.specs.Numbers.{numbers}

pub turns_choose : TurnsChoose
turns_choose = record { greatest = latest_is; no_greatest = latest_none; least = earliest_is; no_least = earliest_none }

-- how many of the numbers from one on pass a test
count_numbers : (test : ℕ → Bool) (from count : ℕ) → count_by test (numbers from count) + passing test from ≡ passing test (from + count)
count_numbers test from zero = let e : from + 0 ≡ from = omega arith in rw e (omega arith)
count_numbers test from (suc count) =
    let ih = count_numbers test (from + 1) count in
    let e : from + 1 ≡ suc from = omega arith in
    let f : from + suc count ≡ from + 1 + count = omega arith in
    let k : passing test (from + 1) ≡ cond (test from) 1 0 + passing test from = ap (passing test) e in
    let m : passing test (from + suc count) ≡ passing test (from + 1 + count) = ap (passing test) f in
    let c = sum_by-cons (λ n. cond (test n) 1 0) from (numbers (from + 1) count) in
    omega arith

-- the numbers below n that pass a test and those that don't are n in all
passing_not : (test : ℕ → Bool) (n : ℕ) → passing (λ k. not (test k)) n + passing test n ≡ n
passing_not test zero = refl
passing_not test (suc n) =
    let ih = passing_not test n in
    elim (cases_Bool (test n)) [ inl hit ↦ rw hit (omega arith) | inr miss ↦ rw miss (omega arith) ]

pub out_counted : (s : Span) → IsCounted s → length (out_of s) ≡ s.allocated
out_counted s h =
    let test : ℕ → Bool = λ n. not (list_any (eqb n) s.free) in
    let a = length-filter test (numbers 0 s.provisioned) in
    let b = count_numbers test 0 s.provisioned in
    let c = passing_not (λ n. has n s.free) s.provisioned in
    let d = length_is s.free s.provisioned h.once h.numbers in
    let e = h.listed in
    let f : 0 + s.provisioned ≡ s.provisioned = omega arith in
    let g : passing test (0 + s.provisioned) ≡ passing test s.provisioned = ap (passing test) f in
    omega arith

returnable : (r : Root) (name : SlotName) → IsSound r → IsOut r name → (s : Span) × (n : ℕ) × CanReturn r name s n
returnable r name sound (s, among, n, out) =
    let counted = (sound.spans s among).counted in (
      s,
      n,
      record {
        among = among;
        out = out;
        found = find_out r s name n sound among out;
        number = number_is s name n counted out;
        some = some_out s n counted out.provisioned out.out;
      },
    )

-- two members of a list of titles of different entries of the pool
same_map : (ts : List Title) (t u : Title) → AllPairs OtherBorn ts → Contains ts t → Contains ts u → t.born ≡ u.born → t ≡ u
same_map [] t u h among among' same = absurd (not_in_none t among)
same_map (x ∷ ts) t u h among among' same = elim (in_cases x t ts among) [
  | inl e ↦ elim (in_cases x u ts among') [
    | inl e' ↦ sym e ∙ e'
    | inr rest ↦ absurd (pairs_head OtherBorn x u ts h rest (ap (λ (z : Title). z.born) e ∙ same))
  ]
  | inr rest ↦ elim (in_cases x u ts among') [
    | inl e' ↦ absurd (pairs_head OtherBorn x t ts h rest (ap (λ (z : Title). z.born) e' ∙ sym same))
    | inr rest' ↦ same_map ts t u (pairs_tail OtherBorn x ts h) rest rest' same
  ]
]

pub slot_low : (r : Root) (s : Span) (name : SlotName) (n : ℕ) → IsSound r → Contains r.spans s → IsOutOf s name n → n < slots_of s.class
slot_low r s name n sound among out = let c = (sound.spans s among).counted in let p = out.provisioned in let q = c.made in
    let k = c.most in omega arith

pub not_mapped : (r : Root) (s : Span) (t u : Title) (n : ℕ) → IsSound r → Contains r.spans s → t ≡ title_at s n → Contains r.maps u →
    t.born ≡ u.born → ⊥
not_mapped r s t u n sound among e member same =
    let (at, page, p) = sound.placed s among in
    sound.mixed u at member p.among (sym same ∙ ap (λ (z : Title). z.born) e ∙ p.born)

out_titles : (r : Root) (t u : Title) → IsSound r → IsTitleOut r t → IsTitleOut r u → name_of t ≡ name_of u → t ≡ u
out_titles r t u sound (inl (s, among, n, out, e)) (inl (s', among', m, out', f)) same =
    let born : s.born ≡ s'.born = sym (ap (λ (z : Title). z.born) e) ∙ ap (λ (x : SlotName). x.born) same ∙ ap (λ (z : Title). z.born) f in
    let start : (title_at s n).start ≡ (title_at s' m).start = sym (ap (λ (z : Title). z.start) e) ∙ ap (λ (x : SlotName). x.start) same ∙
    ap (λ (z : Title). z.start) f in
    let one = one_slot r s s' n m sound among among' (slot_low r s (name_of t) n sound among out)
    (slot_low r s' (name_of u) m sound among' out') born start in
    e ∙ ap (λ (z : Span). title_at z n) one.span ∙ ap (λ k. title_at s' k) one.number ∙ sym f
out_titles r t u sound (inl (s, among, n, out, e)) (inr member) same =
    absurd (not_mapped r s t u n sound among e member (ap (λ (x : SlotName). x.born) same))
out_titles r t u sound (inr member) (inl (s, among, n, out, e)) same =
    absurd (not_mapped r s u t n sound among e member (ap (λ (x : SlotName). x.born) (sym same)))
out_titles r t u sound (inr member) (inr member') same = same_map r.maps t u sound.alone member member' (ap (λ (x : SlotName). x.born) same)

titled : (r : Root) (name : SlotName) → IsOut r name → (t : Title) × IsTitleOut r t × (name ≡ name_of t)
titled r name (s, among, n, out) =
    (title_at s n, inl (s, among, n, subst (λ x. IsOutOf s x n) out.named out, refl), out.named)

pub out_is_out : OutIsOut
out_is_out = record {
  returnable = returnable;
  counted = λ r s sound among. out_counted s (sound.spans s among).counted;
  titled = titled;
  one = out_titles;
}

-- a new super page has room for a span of any class
new_page_found : (class : ℕ) (r : Root) (at : SuperPage) (o : Option Span) → class < 170 → current r ≡ Some at → r.page ≡ 1 →
    IsSome (found_or_new class r o)
new_page_found class r at (Some s) real now page = refl
new_page_found class r at None real now page =
    let b = IsRow-of class real in
    let few = b.few_pages in
    let room : leb (r.page + pages_of class) 127 ≡ true = le-leb _ _ (omega arith) in
    rw now (rw room refl)

pub fill_keeps : FillKeeps
fill_keeps = record {
  filled = takes_filled;
  opens = opened_sound;
  finds = takes_some;
  finds_none = takes_none;
  finds_new = λ class number born r real.
      let new = opened number born r in
      new_page_found class new (record { number = number; born = born }) (listed class new.spans) real (opened_current number born r) refl;
}

pub return_keeps : ReturnKeeps
return_keeps = record {
  returns = λ r xs sound outs once. all_returned_is xs r sound outs once;
  purges = λ r sound. times_is (empties r) r sound;
  maps = mapped_sound;
  unmaps = unmapped_sound;
}

pub entry_keeps : EntryKeeps
entry_keeps = next_is

pub journal_leaves : JournalLeaves
journal_leaves pools journal h =
    let p = journal_replayed pools journal h.replays h.rise in
    record { sound = p.sound; settled = p.settled; born = p.born; titles = made_titles pools journal h }

pub journal_grows : JournalGrows
journal_grows = record {
  pool_more = λ pools more journal h. record { replays = (replays_more pools more journal new_root h.replays).0; rise = h.rise };
  pool_same = λ pools more journal h. (replays_more pools more journal new_root h.replays).1;
  fits = λ pools journal e h fits asks.
      record { replays = replays_push pools journal e new_root h.replays fits; rise = rise_push 0 journal e h.rise asks };
  next = λ pools journal e. replayed_push pools journal e new_root;
}

-- fills that fit one root
same_asked : (pools : List PoolEntry) (class : ℕ) (a b : Option ℕ) (xs ys : List Numbered) (r : Root)
    → RootActFits pools (Fill class a xs) r → RootActFits pools (Fill class b ys) r → is_some a ≡ is_some b
same_asked pools class None None xs ys r h k = refl
same_asked pools class None (Some j) xs ys r h k = absurd (true≢false (sym h.1 ∙ k.1.0))
same_asked pools class (Some j) None xs ys r h k = absurd (true≢false (sym k.1 ∙ h.1.0))
same_asked pools class (Some i) (Some j) xs ys r h k = refl

-- a take that found super pages found one run, and isn't one that found none
abbrev found_any : Option PoolAct → Bool
found_any (Some (pool.Take count (Some first))) = true
found_any a = false

found_first : (a : Option PoolAct) (count first other : ℕ) → a ≡ Some (pool.Take count (Some first)) →
    a ≡ Some (pool.Take count (Some other)) → first ≡ other
found_first a count first other e f = ap super_of (sym e ∙ f)

found_or_none : (a : Option PoolAct) (count first many : ℕ) → a ≡ Some (pool.Take count (Some first)) → a ≡ Some (pool.Take many None) → ⊥
found_or_none a count first many e f = true≢false (ap found_any (sym e ∙ f))

one_map : (pools : List PoolEntry) (j : ℕ) (x y : SlotName) (len : ℕ) → MapFits pools j x len → MapFits pools j y len → x ≡ y
one_map pools j x y len (first, run, start, born) (other, run', start', born') =
    let e = found_first (act_at pools j) (supers_for len) first other run run' in
    name_is x.start x.born y (start ∙ ap (λ k. page_place k 1) e ∙ sym start') (born ∙ sym born')

pub entry_is_one : EntryIsOne
entry_is_one = record {
  asked = same_asked;
  filled = λ pools class a xs ys r h k. sym h.2 ∙ k.2;
  full = λ pools class j xs r h k. found_or_none (act_at pools j) 1 h.1.1 1 h.1.2 k.1;
  full_unasked = λ pools class j xs r h k. true≢false (sym h.1 ∙ k.0);
  mapped = λ pools j x y len r h k. one_map pools j x y len h k;
}
