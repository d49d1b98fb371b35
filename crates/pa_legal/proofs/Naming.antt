-- After a direct map went back no entry of its journal names it: its entry of the pool is named by no later map, and no span has it.
use Rattle.std.proofs.Common.{◌≡◌, ℕ, ◌+◌, ◌<◌, ◌≤◌, ◌&&◌, eqb, List, [], ◌∷◌, ◌++◌, map, Option, Some, None, refl, sym, ◌∙◌, ap, subst, arith, inl, inr}
use Rattle.std.specs.Prelude.{Contains, AllPairs}
use Rattle.std.proofs.lemmas.Bool.{cases_Bool, eq-eqb, eqb-true, and_parts, and_from, both_ways}
use Rattle.std.proofs.lemmas.List.Elements.{All-contains, Contains-push_cases}
use Rattle.pa_slot.specs.declared.title.Title.{Title}
use Rattle.pa_slot.specs.declared.word.SlotName.{SlotName}
use Rattle.pa_buckets.specs.Bands.{fill_of}
use Rattle.pa_record.specs.declared.taken.SuperPage.{SuperPage}
use Rattle.pa_record.specs.declared.numbered.Numbered.{Numbered}
use Rattle.pa_record.specs.declared.pool.PoolEntry.{PoolEntry}
use Rattle.pa_record.specs.declared.root.RootEntry.{RootEntry}
use Rattle.pa_record.specs.declared.root.RootAct.{RootAct}
use Rattle.pa_record.specs.declared.root.RootAct.TheVariants.{Fill, Map, Full, Give, Unmap, Purge}
use Rattle.pa_record.specs.Pool.{act_at}
use Rattle.pa_record.specs.Spans.{name_of}
use Rattle.pa_record.specs.Root.{Root, new_root, takes, opened, opened_by, super_of, map_title, without_map, unmapped, names, all_returned, empties, root_next, RootActFits, RootReplays, RiseFrom, all_asked, asked_by, IsOut}
use Rattle.pa_record.specs.Sound.{IsSound, IsSettled, IsBornBelow, AsksFrom, least_after}
use Rattle.pa_lists.proofs.Members.{not_in_none, in_cases}
use Rattle.pa_lists.proofs.Pairs.{pairs_head, pairs_tail}
use Rattle.pa_lists.proofs.Joined.{map_cases, map_in}
use Rattle.pa_record.proofs.Filling.{takes_filled, opened_sound}
use Rattle.pa_record.proofs.Returning.{all_returned_is, times_is}
use Rattle.pa_record.proofs.Mapping.{OtherBorn, without_map_in, born_more}
use Rattle.pa_record.proofs.Stepping.{next_is}
use Rattle.pa_record.proofs.Titles.{new_sound, new_born, rise_parts}
use Rattle.pa_rules.specs.Holders.{Out, Back, Move, move_of, moves_by}
use Rattle.pa_legal.specs.Numbers.{Unnamed}

-- the root has no super page and no direct map of this entry of the pool, and may get none
pub record IsGone (b n : ℕ) (r : Root) : Type 0 where
  pub past : b < n
  pub supers : (at : SuperPage) → Contains r.supers at → at.born ≡ b → ⊥
  pub maps : (t : Title) → Contains r.maps t → t.born ≡ b → ⊥

-- a root that replays go on from
pub record IsGood (n : ℕ) (r : Root) : Type 0 where
  pub sound : IsSound r
  pub settled : IsSettled r
  pub born : IsBornBelow n r

out_born : (r : Root) (name : SlotName) (b : ℕ) → IsSound r → ((at : SuperPage) → Contains r.supers at → at.born ≡ b → ⊥) → IsOut r name →
    name.born ≡ b → ⊥
out_born r name b sound gone (s, among, n, out) same =
    let (at, page, placed) = sound.placed s among in
    gone at placed.among (sym placed.born ∙ ap (λ (z : SlotName). z.born) (sym out.named) ∙ same)

maps_from : (r after : Root) (b : ℕ) → after.maps ≡ r.maps → ((t : Title) → Contains r.maps t → t.born ≡ b → ⊥) → (t : Title) →
    Contains after.maps t → t.born ≡ b → ⊥
maps_from r after b same gone t among = gone t (subst (λ ts. Contains ts t) same among)

-- the direct maps after an entry
next_maps : (pools : List PoolEntry) (act : RootAct) (b n : ℕ) (r : Root) → IsGood n r → AsksFrom n (asked_by act) →
    RootActFits pools act r → IsGone b n r →
    (t : Title) → Contains (root_next pools act r).maps t → t.born ≡ b → ⊥
next_maps pools (Fill class None slots) b n r good asks fits gone =
    maps_from r (takes class (fill_of class) r).root b (takes_filled class (fill_of class) r good.sound fits.0).maps gone.maps
next_maps pools (Fill class (Some j) slots) b n r good asks fits gone =
    let number = super_of (act_at pools j) in
    maps_from r (takes class (fill_of class) (opened number j r)).root b
    (takes_filled class (fill_of class) (opened number j r)
    (opened_sound number j r good.sound (born_more n j r asks good.born)) fits.0).maps gone.maps
next_maps pools (Map asked slot len) b n r good asks fits gone =
    λ t among same. elim (Contains-push_cases r.maps (map_title slot len) t among) [
      | inl old ↦ gone.maps t old same
      | inr e ↦
          let past = gone.past in
          let born : slot.born ≡ asked = fits.3 in
          let this : slot.born ≡ t.born = ap (λ (z : Title). z.born) e in
          omega arith
    ]
next_maps pools (Full class asked) b n r good asks fits gone = gone.maps
next_maps pools (Give slots) b n r good asks fits gone =
    maps_from r (all_returned (names slots) r) b (all_returned_is (names slots) r good.sound fits.0 fits.1).kept.maps gone.maps
next_maps pools (Unmap asked slot) b n r good asks fits gone = λ t among. gone.maps t (without_map_in slot.slot r.maps t among)
next_maps pools Purge b n r good asks fits gone =
    maps_from r (root_next pools Purge r) b (times_is (empties r) r good.sound).kept.maps gone.maps

least_grows : (b n : ℕ) (act : RootAct) → AsksFrom n (asked_by act) → b < n → b < least_after n (asked_by act)
least_grows b n (Fill class None slots) asks less = less
least_grows b n (Fill class (Some j) slots) asks less = omega arith
least_grows b n (Map j slot len) asks less = omega arith
least_grows b n (Full class j) asks less = omega arith
least_grows b n (Give slots) asks less = less
least_grows b n (Unmap j slot) asks less = omega arith
least_grows b n Purge asks less = less

module _ (pools : List PoolEntry) (act : RootAct) (b n : ℕ) (r : Root) (good : IsGood n r) (asks : AsksFrom n (asked_by act))
    (fits : RootActFits pools act r) where
  pub good_next : IsGood (least_after n (asked_by act)) (root_next pools act r)
  good_next = let next = next_is pools act n r good.sound good.settled good.born asks fits in
      record { sound = next.sound; settled = next.settled; born = next.born }

  pub gone_next : IsGone b n r → IsGone b (least_after n (asked_by act)) (root_next pools act r)
  gone_next gone =
      let next = next_is pools act n r good.sound good.settled good.born asks fits in
      record {
        past = least_grows b n act asks gone.past;
        supers = λ at among same. elim (next.supers at among) [
          | inl old ↦ gone.supers at old same
          | inr new ↦ let past = gone.past in omega arith
        ];
        maps = next_maps pools act b n r good asks fits gone;
      }

in_names : (slots : List Numbered) (line : ℕ) (m : Move) → Contains (map (move_of line Out) slots) m → Contains (names slots) m.slot
in_names slots line m among =
    let (n, member, is) = map_cases (move_of line Out) slots m among in
    subst (λ z. Contains (names slots) z) (ap (λ (z : Move). z.slot) is) (map_in (λ (k : Numbered). k.slot) slots n member)

back_names : (slots : List Numbered) (line : ℕ) (m : Move) → Contains (map (move_of line Back) slots) m → Contains (names slots) m.slot
back_names slots line m among =
    let (n, member, is) = map_cases (move_of line Back) slots m among in
    subst (λ z. Contains (names slots) z) (ap (λ (z : Move). z.slot) is) (map_in (λ (k : Numbered). k.slot) slots n member)

only_move : (a m : Move) → Contains (a ∷ []) m → a.slot ≡ m.slot
only_move a m among = elim (in_cases a m [] among) [ inl e ↦ ap (λ (z : Move). z.slot) e | inr none ↦ absurd (not_in_none m none) ]

filled_out : (pools : List PoolEntry) (class n : ℕ) (asked : Option ℕ) (slots : List Numbered) (r : Root) → IsGood n r → AsksFrom n asked →
    RootActFits pools (Fill class asked slots) r →
    (t : Title) → Contains (takes class (fill_of class) (opened_by pools asked r)).titles t →
    IsOut (takes class (fill_of class) (opened_by pools asked r)).root (name_of t)
filled_out pools class n None slots r good asks fits t among = (takes_filled class (fill_of class) r good.sound fits.0).out t among
filled_out pools class n (Some j) slots r good asks fits t among =
    let number = super_of (act_at pools j) in
    (takes_filled class (fill_of class) (opened number j r)
    (opened_sound number j r good.sound (born_more n j r asks good.born)) fits.0).out t among

-- what an entry names is of another entry of the pool
named_else : (pools : List PoolEntry) (act : RootAct) (b n line : ℕ) (r : Root) (m : Move) → IsGood n r → AsksFrom n (asked_by act) →
    RootActFits pools act r → IsGone b n r →
    Contains (moves_by line act) m → m.slot.born ≡ b → ⊥
named_else pools (Fill class asked slots) b n line r m good asks fits gone among same =
    let act : RootAct = Fill class asked slots in
    let (t, member, is) = map_cases name_of (takes class (fill_of class) (opened_by pools asked r)).titles m.slot
    (subst (λ xs. Contains xs m.slot) (sym fits.2) (in_names slots line m among)) in
    let out = filled_out pools class n asked slots r good asks fits t member in
    out_born (root_next pools act r) (name_of t) b (good_next pools act b n r good asks fits).sound
    (gone_next pools act b n r good asks fits gone).supers out
    (ap (λ (z : SlotName). z.born) is ∙ same)
named_else pools (Map asked slot len) b n line r m good asks fits gone among same =
    let past = gone.past in
    let born : slot.born ≡ asked = fits.3 in
    let this : slot.born ≡ m.slot.born = ap (λ (z : SlotName). z.born) (only_move _ m among) in
    omega arith
named_else pools (Full class asked) b n line r m good asks fits gone among same = not_in_none m among
named_else pools (Give slots) b n line r m good asks fits gone among same =
    out_born r m.slot b good.sound gone.supers (All-contains (IsOut r) (names slots) m.slot fits.0 (back_names slots line m among)) same
named_else pools (Unmap asked slot) b n line r m good asks (len, first, member, start, gave) gone among same =
    gone.maps (map_title slot.slot len) member (ap (λ (z : SlotName). z.born) (only_move _ m among) ∙ same)
named_else pools Purge b n line r m good asks fits gone among same = not_in_none m among

-- nothing names it from there on
gone_on : (pools : List PoolEntry) (es : List RootEntry) (b n : ℕ) (r : Root) (f : RootEntry) (m : Move) → IsGood n r →
    RootReplays pools es r → RiseFrom n (all_asked es) → IsGone b n r →
    Contains es f → Contains (moves_by f.line f.act) m → m.slot.born ≡ b → ⊥
gone_on pools [] b n r f m good fits rise gone among named same = not_in_none f among
gone_on pools (e ∷ es) b n r f m good fits rise gone among named same =
    let (asks, rest) = rise_parts n (asked_by e.act) (all_asked es) rise in
    elim (in_cases e f es among) [
      | inl is ↦ named_else pools e.act b n f.line r m good asks fits.0 gone
          (subst (λ (z : RootEntry). Contains (moves_by f.line z.act) m) (sym is) named) same
      | inr later ↦
          gone_on pools es b (least_after n (asked_by e.act)) (root_next pools e.act r) f m
          (good_next pools e.act b n r good asks fits.0) fits.1 rest
          (gone_next pools e.act b n r good asks fits.0 gone) later named same
    ]

-- a direct map that went back is no map of the root any more
map_gone : (name : SlotName) (ts : List Title) (t u : Title) → AllPairs OtherBorn ts → Contains ts t → t.start ≡ name.start
    → t.born ≡ name.born → Contains (without_map name ts) u → u.born ≡ name.born → ⊥
map_gone name [] t u alone among start born there same = not_in_none t among
map_gone name (v ∷ vs) t u alone among start born there same = elim (cases_Bool (eqb v.start name.start && eqb v.born name.born)) [
  | inl hit ↦
      let (a, b) = and_parts _ _ hit in
      pairs_head OtherBorn v u vs alone (rw hit at there) (eqb-true v.born name.born b ∙ sym same)
  | inr miss ↦ elim (in_cases v t vs among) [
    | inl e ↦ both_ways _ miss
        (and_from _ _ (eq-eqb v.start name.start (ap (λ (z : Title). z.start) e ∙ start))
        (eq-eqb v.born name.born (ap (λ (z : Title). z.born) e ∙ born)))
    | inr rest ↦ elim (in_cases v u (without_map name vs) (rw miss at there)) [
      | inl e ↦ pairs_head OtherBorn v t vs alone rest (ap (λ (z : Title). z.born) e ∙ same ∙ sym born)
      | inr on ↦ map_gone name vs t u (pairs_tail OtherBorn v vs alone) rest start born on same
    ]
  ]
]

pub unmap_gone : (pools : List PoolEntry) (asked n : ℕ) (slot : Numbered) (r : Root) → IsGood n r → n ≤ asked
    → RootActFits pools (Unmap asked slot) r → IsGone slot.slot.born (asked + 1) (unmapped slot.slot r)
unmap_gone pools asked n slot r good asks (len, first, member, start, gave) = record {
  past = let below = good.born.maps (map_title slot.slot len) member in omega arith;
  supers = λ at among same. good.sound.mixed (map_title slot.slot len) at member among (sym same);
  maps = λ t among same. map_gone slot.slot r.maps (map_title slot.slot len) t good.sound.alone member refl refl among same;
}

from_here : (pools : List PoolEntry) (xs ys : List RootEntry) (n : ℕ) (r : Root) (e f : RootEntry) (asked : ℕ) (slot : Numbered)
    (m : Move) → IsGood n r → RootReplays pools (xs ++ e ∷ ys) r →
    RiseFrom n (all_asked (xs ++ e ∷ ys)) → e.act ≡ Unmap asked slot → Contains ys f → Contains (moves_by f.line f.act) m →
    m.slot ≡ slot.slot → ⊥
from_here pools [] ys n r e f asked slot m good fits rise is among named same =
    let (asks, rest) = rise_parts n (asked_by e.act) (all_asked ys) rise in
    let act : RootAct = Unmap asked slot in
    let low : n ≤ asked = subst (λ a. AsksFrom n (asked_by a)) is asks in
    let here = subst (λ a. RootActFits pools a r) is fits.0 in
    gone_on pools ys slot.slot.born (asked + 1) (unmapped slot.slot r) f m (good_next pools act 0 n r good low here)
    (subst (λ a. RootReplays pools ys (root_next pools a r)) is fits.1)
    (subst (λ a. RiseFrom (least_after n (asked_by a)) (all_asked ys)) is rest) (unmap_gone pools asked n slot r good low here) among named
    (ap (λ (z : SlotName). z.born) same)
from_here pools (x ∷ xs) ys n r e f asked slot m good fits rise is among named same =
    let (asks, rest) = rise_parts n (asked_by x.act) (all_asked (xs ++ e ∷ ys)) rise in
    from_here pools xs ys (least_after n (asked_by x.act)) (root_next pools x.act r) e f asked slot m
    (good_next pools x.act 0 n r good asks fits.0) fits.1 rest is among named same

pub unnamed : Unnamed
unnamed pools xs ys e f asked slot m journal is among named same =
    from_here pools xs ys 0 new_root e f asked slot m
    (record { sound = new_sound; settled = omega arith; born = new_born }) journal.replays journal.rise is among named same
