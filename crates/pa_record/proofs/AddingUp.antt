-- What a root has and what is out of it are together what was made.
use Rattle.std.proofs.Common.{◌≡◌, ◌≢◌, ℕ, ◌+◌, not, true, eqb, List, [], ◌∷◌, map, flat_map, length, sum_by, refl, sym, ◌∙◌, ap, subst, arith, inl, inr}
use Rattle.std.specs.Prelude.{Contains, AllPairs}
use Rattle.std.specs.List.{list_any}
use Rattle.std.proofs.lemmas.Bool.{both_ways, true≢false, false_from_ne_true}
use Rattle.std.proofs.lemmas.List.{length-append, length-map}
use Rattle.std.proofs.lemmas.List.Concat.{length-flat_map}
use Rattle.std.proofs.lemmas.List.Sums.{sum_by-cons}
use Rattle.std.proofs.lemmas.List.Kept.{AllPairs-filter}
use Rattle.std.proofs.lemmas.List.Elements.{Contains-append_left, Contains-append_right, Contains-append_cases}
use Rattle.pa_slot.specs.declared.title.Title.{Title}
use Rattle.pa_slot.specs.declared.word.SlotName.{SlotName}
use Rattle.pa_record.specs.Spans.{Span, title_at, name_of, same_place}
use Rattle.pa_record.specs.Root.{Root, IsOutOf}
use Rattle.pa_record.specs.Census.{kept_of}
use Rattle.pa_record.specs.Sound.{IsSound, IsCounted}
use Rattle.pa_record.specs.Laws.{out_of, names_of, names_out, slots_made, IsNameOut, AddsUp, RootAddsUp}
use Rattle.pa_lists.proofs.Members.{first_in, later_in, has, has-true}
use Rattle.pa_lists.proofs.Different.{has_some, numbers_in, numbers_has, numbers_once}
use Rattle.pa_record.proofs.Places.{IsElsewhere, place_self}
use Rattle.pa_record.proofs.Slots.{AreOne, one_slot}
use Rattle.pa_lists.proofs.Joined.{map_cases, map_in, filter_cases, filter_in, flat_cases, flat_in, pairs_map, pairs_append, pairs_flat}
use Rattle.pa_record.proofs.Leaving.{name_cases}
use Rattle.pa_record.proofs.Lawful.{out_counted, slot_low, not_mapped, journal_leaves}
use Rattle.pa_lists.specs.Numbers.{numbers}

abbrev Differ : SlotName → SlotName → Type 0
Differ a b = a ≢ b

-- the names of a span's slots that are out
name_is_out : (s : Span) (name : SlotName) → Contains (names_of s) name → (n : ℕ) × IsOutOf s name n
name_is_out s name among =
    let (n, member, e) = map_cases (λ n. name_of (title_at s n)) (out_of s) name among in
    let (listed, passes) = filter_cases (λ n. not (list_any (eqb n) s.free)) (numbers 0 s.provisioned) n member in
    let (low, high) = numbers_in 0 s.provisioned n listed in
    (n, record { provisioned = omega arith; named = sym e; out = λ free. not_false n s.free (has-true n s.free free) passes })
  where
    not_false : (n : ℕ) (xs : List ℕ) → has n xs ≡ true → not (has n xs) ≡ true → ⊥
    not_false n xs h k = true≢false (sym (rw h at k))

out_is_name : (s : Span) (name : SlotName) (n : ℕ) → IsOutOf s name n → Contains (names_of s) name
out_is_name s name n out =
    let p = out.provisioned in
    let miss = false_from_ne_true _ (λ hit. out.out (has_some n s.free hit)) in
    let passes : not (list_any (eqb n) s.free) ≡ true = rw miss refl in
    let member = filter_in (λ n. not (list_any (eqb n) s.free)) (numbers 0 s.provisioned) n
    (numbers_has 0 s.provisioned n (omega arith) (omega arith)) passes in
    subst (λ x. Contains (names_of s) x) (sym out.named) (map_in (λ n. name_of (title_at s n)) (out_of s) n member)

-- one name that is out has one span and one number
out_once : (r : Root) (s u : Span) (n m : ℕ) (name : SlotName) → IsSound r → Contains r.spans s → Contains r.spans u → IsOutOf s name n →
    IsOutOf u name m → AreOne s u n m
out_once r s u n m name sound first second out out' =
    let same = sym out.named ∙ out'.named in
    one_slot r s u n m sound first second (slot_low r s name n sound first out) (slot_low r u name m sound second out')
    (ap (λ (x : SlotName). x.born) same) (ap (λ (x : SlotName). x.start) same)

numbers_out : (s : Span) (n : ℕ) → Contains (out_of s) n → IsOutOf s (name_of (title_at s n)) n
numbers_out s n member =
    let (k, out) = name_is_out s (name_of (title_at s n)) (map_in (λ n. name_of (title_at s n)) (out_of s) n member) in
    let (listed, passes) = filter_cases (λ n. not (list_any (eqb n) s.free)) (numbers 0 s.provisioned) n member in
    let (low, high) = numbers_in 0 s.provisioned n listed in
    record { provisioned = omega arith; named = refl; out = λ free. true≢false (sym (rw (has-true n s.free free) at passes)) }

span_once : (r : Root) (s : Span) → IsSound r → Contains r.spans s → AllPairs Differ (names_of s)
span_once r s sound among =
    pairs_map (λ (a b : ℕ). a ≢ b) Differ (λ n. name_of (title_at s n)) (out_of s)
    (λ n m p q differ same.
    let out = numbers_out s n p in
    let out' = numbers_out s m q in
    differ (out_once r s s n m (name_of (title_at s n)) sound among among out (subst (λ x. IsOutOf s x m) (sym same) out')).number)
    (AllPairs-filter (λ (a b : ℕ). a ≢ b) (λ n. not (list_any (eqb n) s.free)) (numbers 0 s.provisioned) (numbers_once 0 s.provisioned))

spans_once : (r : Root) → IsSound r → AllPairs Differ (flat_map names_of r.spans)
spans_once r sound =
    pairs_flat IsElsewhere Differ names_of r.spans sound.places (λ s among. span_once r s sound among)
    (λ s u a b p q far first second same.
    let (n, out) = name_is_out s a first in
    let (m, out') = name_is_out u b second in
    let one = out_once r s u n m a sound p q out (subst (λ x. IsOutOf u x m) (sym same) out') in
    both_ways _ far (subst (λ z. same_place s z ≡ true) one.span (place_self s)))

all_once : (r : Root) → IsSound r → AllPairs Differ (names_out r)
all_once r sound =
    pairs_append Differ (flat_map names_of r.spans) (map name_of r.maps) (spans_once r sound)
    (pairs_map (λ (t u : Title). t.born ≢ u.born) Differ name_of r.maps
    (λ t u p q differ same. differ (ap (λ (x : SlotName). x.born) same)) sound.alone)
    (λ a b p q same.
    let (s, among, here) = flat_cases names_of r.spans a p in
    let (n, out) = name_is_out s a here in
    let (u, member, e) = map_cases name_of r.maps b q in
    not_mapped r s (title_at s n) u n sound among refl member (ap (λ (x : SlotName). x.born) (sym out.named ∙ same ∙ sym e)))

listed_out : (r : Root) (name : SlotName) → Contains (names_out r) name → IsNameOut r name
listed_out r name among = elim (Contains-append_cases (flat_map names_of r.spans) (map name_of r.maps) name among) [
  | inl slot ↦
      let (s, member, here) = flat_cases names_of r.spans name slot in
      let (n, out) = name_is_out s name here in
      (title_at s n, inl (s, member, n, subst (λ x. IsOutOf s x n) out.named out, refl), out.named)
  | inr mapped ↦
      let (u, member, e) = map_cases name_of r.maps name mapped in
      (u, inr member, sym e)
]

out_listed : (r : Root) (name : SlotName) → IsNameOut r name → Contains (names_out r) name
out_listed r name out = elim (name_cases r name out) [
  | inl (s, among, n, is) ↦
      Contains-append_left (flat_map names_of r.spans) (map name_of r.maps) name
      (flat_in names_of r.spans s name among (out_is_name s name n is))
  | inr (u, member, same) ↦
      Contains-append_right (flat_map names_of r.spans) (map name_of r.maps) name
      (subst (λ x. Contains (map name_of r.maps) x) (sym same) (map_in name_of r.maps u member))
]

-- what each span keeps and what is out of it are the slots of it that were made
span_adds : (s : Span) → IsCounted s → kept_of s + length (names_of s) ≡ s.made
span_adds s h =
    let a = length-map (out_of s) (λ n. name_of (title_at s n)) in
    let b = out_counted s h in
    let c = h.listed in
    let d = h.made in
    omega arith

sums_add : (f g h : Span → ℕ) (ss : List Span) → ((s : Span) → Contains ss s → f s + g s ≡ h s) → sum_by f ss + sum_by g ss ≡ sum_by h ss
sums_add f g h [] each = refl
sums_add f g h (s ∷ ss) each =
    let a = sum_by-cons f s ss in
    let b = sum_by-cons g s ss in
    let c = sum_by-cons h s ss in
    let one = each s (first_in s ss) in
    let ih = sums_add f g h ss (λ u among. each u (later_in s u ss among)) in
    omega arith

counted : (r : Root) → IsSound r → sum_by kept_of r.spans + length (names_out r) ≡ slots_made r + length r.maps
counted r sound =
    let a = length-append (flat_map names_of r.spans) (map name_of r.maps) in
    let b = length-map r.maps name_of in
    let c = length-flat_map names_of r.spans in
    let d = sums_add kept_of (λ s. length (names_of s)) (λ (s : Span). s.made) r.spans
    (λ s among. span_adds s (sound.spans s among).counted) in
    omega arith

sound_adds_up : (r : Root) → IsSound r → AddsUp r
sound_adds_up r sound = record { out = λ name. (listed_out r name, out_listed r name); once = all_once r sound; counted = counted r sound }

pub root_adds_up : RootAddsUp
root_adds_up pools journal h = sound_adds_up _ (journal_leaves pools journal h).sound
