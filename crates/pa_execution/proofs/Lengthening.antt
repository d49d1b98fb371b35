-- The journals give each slot one length and one partition, by themselves and the pool's entries that they name.
use Rattle.std.proofs.Common.{◌≡◌, ℕ, zero, suc, ◌<◌, ◌≤◌, List, [], ◌∷◌, Option, Some, None, slice_get, refl, sym, ◌∙◌, ap, subst, arith, inl, inr}
use Rattle.std.specs.Prelude.{Contains}
use Rattle.std.proofs.lemmas.Bool.{cases_lt, cases_eq}
use Rattle.std.proofs.lemmas.List.Elements.{Contains-append_left, Contains-append_right, Contains-append_cases}
use Rattle.pa_slot.specs.declared.title.Title.{Title}
use Rattle.pa_slot.specs.declared.word.SlotName.{SlotName}
use Rattle.pa_buckets.specs.Table.{slot_of}
use Rattle.pa_buckets.proofs.Facts.{IsRow-of}
use Rattle.pa_record.specs.declared.pool.PoolEntry.{PoolEntry}
use Rattle.pa_record.specs.declared.root.RootEntry.{RootEntry}
use Rattle.pa_record.specs.declared.root.RootAct.{RootAct}
use Rattle.pa_record.specs.declared.root.RootAct.TheVariants.{Map}
use Rattle.pa_record.specs.Spans.{name_of}
use Rattle.pa_record.specs.Root.{Root, new_root, root_next, root_replayed, RootActFits, RootReplays, asked_by, IsJournal}
use Rattle.pa_record.specs.Sound.{IsMade, IsMapBy, IsMadeBy}
use Rattle.pa_record.specs.Laws.{leaves_by}
use Rattle.pa_record.proofs.Asked.{titles_are_asked}
use Rattle.pa_record.proofs.MadeBy.{map_taken}
use Rattle.pa_lists.proofs.Members.{not_in_none, first_in, in_cases, of_some}
use Rattle.pa_record.proofs.Titles.{made_apart, made_or_map, journal_replayed}
use Rattle.pa_rules.specs.Roots.{Journals, Names}
use Rattle.pa_rules.proofs.Naming.{asked_is}
use Rattle.pa_rules.proofs.Owned.{title_of, HasLen}
use Rattle.pa_cells.specs.Handles.{HandsOut}
use Rattle.pa_logs.specs.Lengths.{titles_by, titles_of, lengths_by}
use Rattle.pa_logs.specs.Homes.{homes_by}
use Rattle.pa_logs.proofs.Filters.{place_at}
use Rattle.pa_logs.proofs.Sizing.{made_listed, listed_made, length_is}
use Rattle.pa_logs.proofs.Homing.{home_is}

-- the entry of the pool that a direct map names is that of its slot
map_asked : (pools : List PoolEntry) (es : List RootEntry) (r : Root) (e : RootEntry) (asked len : ℕ) (slot : SlotName) →
    RootReplays pools es r → Contains es e →
    e.act ≡ Map asked slot len → slot.born ≡ asked
map_asked pools [] r e asked len slot fits among act = absurd (not_in_none e among)
map_asked pools (f ∷ es) r e asked len slot fits among act = elim (in_cases f e es among) [
  | inl same ↦
      let map : RootAct = Map asked slot len in
      let here : f.act ≡ map = ap (λ (z : RootEntry). z.act) same ∙ act in
      let (first, run, start, born) = subst (λ a. RootActFits pools a r) here fits.0 in
      born
  | inr later ↦ map_asked pools es (root_next pools f.act r) e asked len slot fits.1 later act
]

map_len : (asked len asked' len' : ℕ) (slot slot' : SlotName) → Map asked slot len ≡ Map asked' slot' len' → len ≡ len'
map_len asked len asked' len' slot slot' e = cc

module _ (partitions : ℕ) (pools : List PoolEntry) (roots : Journals) (journals : (p : ℕ) → IsJournal pools (roots p))
    (none_past : (p : ℕ) → partitions ≤ p → roots p ≡ [])
    (once : (j p q i k : ℕ) (e : PoolEntry) → slice_get pools j ≡ Some e → Names roots p i j → Names roots q k j → (p ≡ q) × (i ≡ k)) where
  all_listed : (n p : ℕ) (t : Title) → p < n → IsMadeBy pools (roots p) t → Contains (titles_of pools roots n) t
  all_listed zero p t below made = absurd (omega arith)
  all_listed (suc n) p t below made = elim (cases_eq p n) [
    | inl same ↦ Contains-append_left (titles_by pools (roots n)) (titles_of pools roots n) t
        (subst (λ q. Contains (titles_by pools (roots q)) t) same (made_listed pools (roots p) t made))
    | inr other ↦ Contains-append_right (titles_by pools (roots n)) (titles_of pools roots n) t (all_listed n p t (omega arith) made)
  ]

  listed_all : (n : ℕ) (t : Title) → Contains (titles_of pools roots n) t → (p : ℕ) × IsMadeBy pools (roots p) t
  listed_all zero t among = absurd (not_in_none t among)
  listed_all (suc n) t among = elim (Contains-append_cases (titles_by pools (roots n)) (titles_of pools roots n) t among) [
    | inl here ↦ (n, listed_made pools (roots n) t here)
    | inr there ↦ listed_all n t there
  ]

  -- a partition without a journal makes none
  is_partition : (p : ℕ) (t : Title) → IsMadeBy pools (roots p) t → p < partitions
  is_partition p t made = elim (cases_lt p partitions) [
    | inl below ↦ below
    | inr past ↦ absurd (nothing (subst (λ es. IsMadeBy pools es t) (none_past p past) made))
  ]
    where
      nothing : IsMadeBy pools [] t → ⊥
      nothing (inl (s, among, number, below, is)) = not_in_none s among
      nothing (inr (e, asked, len, slot, among, act, is)) = not_in_none e among

  -- titles of one entry of the pool are of one partition
  owned : (p q : ℕ) (t u : Title) → IsMadeBy pools (roots p) t → IsMadeBy pools (roots q) u → t.born ≡ u.born → p ≡ q
  owned p q t u made made' same =
      let (i, e, at, named) = titles_are_asked pools (roots p) t (journals p) made in
      let (k, f, at', named') = titles_are_asked pools (roots q) u (journals q) made' in
      let (x, there) = asked_is pools (roots p) i t.born e (journals p) at named in
      (once t.born p q i k x there (e, at, named) (f, at', named' ∙ ap Some (sym same))).0

  -- two slots that were cut at one place
  both_cut : (p : ℕ) (t u : Title) → IsMade (root_replayed pools (roots p) new_root) t → IsMade (root_replayed pools (roots p) new_root) u →
      t.start ≡ u.start → t.born ≡ u.born → u.len ≡ t.len
  both_cut p t u made made' start born =
      let left = journal_replayed pools (roots p) (journals p).replays (journals p).rise in
      let some = long p t made in
      let some' = long p u made' in
      elim (made_apart (root_replayed pools (roots p) new_root) t u left.sound made made' born) [
        | inl e ↦ ap (λ (v : Title). v.len) (sym e)
        | inr (inl before) ↦ absurd (omega arith)
        | inr (inr past) ↦ absurd (omega arith)
      ]
    where
      long : (p : ℕ) (t : Title) → IsMade (root_replayed pools (roots p) new_root) t → 1 ≤ t.len
      long p t (s, among, number, below, is) =
          let left = journal_replayed pools (roots p) (journals p).replays (journals p).rise in
          let some = (IsRow-of s.class (left.sound.spans s among).counted.class).least_slot in
          let len : t.len ≡ slot_of s.class = ap (λ (u : Title). u.len) is in
          omega arith

  -- a slot that was cut, and a direct map
  cut_or_map : (p : ℕ) (t u : Title) → IsMade (root_replayed pools (roots p) new_root) t → IsMapBy (roots p) u → t.start ≡ u.start →
      t.born ≡ u.born → u.len ≡ t.len
  cut_or_map p t u made mapped start born =
      let left = journal_replayed pools (roots p) (journals p).replays (journals p).rise in
      elim (left.known.each u (map_taken pools (roots p) new_root u mapped)) [
        | inl made' ↦ both_cut p t u made made' start born
        | inr old ↦ absurd (made_or_map (root_replayed pools (roots p) new_root) _ t u left.sound made old born)
      ]

  -- two direct maps of one entry of the pool
  both_maps : (p : ℕ) (t u : Title) → IsMapBy (roots p) t → IsMapBy (roots p) u → t.born ≡ u.born → u.len ≡ t.len
  both_maps p t u (e, asked, len, slot, among, act, is) (f, asked', len', slot', among', act', is') born =
      let (i, at) = place_at (roots p) e among in
      let (k, at') = place_at (roots p) f among' in
      let of = map_asked pools (roots p) new_root e asked len slot (journals p).replays among act in
      let of' = map_asked pools (roots p) new_root f asked' len' slot' (journals p).replays among' act' in
      let same : asked' ≡ asked = sym of' ∙ (sym (ap (λ (v : Title). v.born) is') ∙ (sym born ∙ (ap (λ (v : Title). v.born) is ∙ of))) in
      let names_e : asked_by e.act ≡ Some asked = ap asked_by act in
      let names_f : asked_by f.act ≡ Some asked = ap asked_by act' ∙ ap Some same in
      let (d, there) = asked_is pools (roots p) i asked e (journals p) at names_e in
      let (_, place) = once asked p p i k d there (e, at, names_e) (f, at', names_f) in
      let one : e ≡ f = of_some e f (sym at ∙ (ap (λ n. slice_get (roots p) n) place ∙ at')) in
      let lens : len ≡ len' = map_len asked len asked' len' slot slot' (sym act ∙ (ap (λ (z : RootEntry). z.act) one ∙ act')) in
      ap (λ (v : Title). v.len) is' ∙ (sym lens ∙ sym (ap (λ (v : Title). v.len) is))

  one_length : (p q : ℕ) (t u : Title) → IsMadeBy pools (roots p) t → IsMadeBy pools (roots q) u → name_of u ≡ name_of t → u.len ≡ t.len
  one_length p q t u made made' same =
      let born : t.born ≡ u.born = ap (λ (s : SlotName). s.born) (sym same) in
      let start : t.start ≡ u.start = ap (λ (s : SlotName). s.start) (sym same) in
      by_kind start born made (subst (λ k. IsMadeBy pools (roots k) u) (sym (owned p q t u made made' born)) made')
    where
      by_kind : t.start ≡ u.start → t.born ≡ u.born → IsMadeBy pools (roots p) t → IsMadeBy pools (roots p) u → u.len ≡ t.len
      by_kind start born (inl cut) (inl cut') = both_cut p t u cut cut' start born
      by_kind start born (inl cut) (inr mapped) = cut_or_map p t u cut mapped start born
      by_kind start born (inr mapped) (inl cut) = sym (cut_or_map p u t cut mapped (sym start) (sym born))
      by_kind start born (inr mapped) (inr mapped') = both_maps p t u mapped mapped' born

  -- a title that was made has the length that the journals give
  made : (p : ℕ) (t : Title) → IsMadeBy pools (roots p) t → lengths_by partitions pools roots (name_of t) ≡ t.len
  made p t by =
      length_is (titles_of pools roots partitions) t (all_listed partitions p t (is_partition p t by) by)
      (λ u among same. let (q, by') = listed_all partitions u among in one_length p q t u by by' same)

  -- a slot that an entry hands out has the length that the journals say
  pub handed_out : (p : ℕ) (e : RootEntry) (class : Option ℕ) (t : Title) → Contains (roots p) e → HandsOut class t e.act →
      lengths_by partitions pools roots (name_of t) ≡ t.len
  handed_out p e (Some class) t among (asked, slots, act, member, size, small) =
      let (u, by, name, len) =
      title_of pools (roots p) e (name_of t) (journals p) among
      (subst (λ a. Contains (leaves_by a) (name_of t)) (sym act) member) in
      let (real, long) = subst (λ a. HasLen a u) act len in
      ap (λ n. lengths_by partitions pools roots n) (sym name) ∙ (made p u by ∙ (long ∙ sym size))
  handed_out p e None t among (asked, act) =
      let (u, by, name, len) =
      title_of pools (roots p) e (name_of t) (journals p) among
      (subst (λ a. Contains (leaves_by a) (name_of t)) (sym act) (first_in (name_of t) [])) in
      let long : u.len ≡ t.len = subst (λ a. HasLen a u) act len in
      ap (λ n. lengths_by partitions pools roots n) (sym name) ∙ (made p u by ∙ long)

  -- the partition that the journals give a title's name is that of the journal which makes it
  home_made : (p : ℕ) (t : Title) → IsMadeBy pools (roots p) t → homes_by partitions pools roots (name_of t) ≡ p
  home_made p t by =
      home_is pools roots partitions p (name_of t) t (is_partition p t by) by refl
      (λ q u by' named. owned q p u t by' by (ap (λ (s : SlotName). s.born) named))

  -- a slot that an entry hands out has the partition that the journals say
  pub handed_home : (p : ℕ) (e : RootEntry) (class : Option ℕ) (t : Title) → Contains (roots p) e → HandsOut class t e.act →
      homes_by partitions pools roots (name_of t) ≡ p
  handed_home p e (Some class) t among (asked, slots, act, member, size, small) =
      let (u, by, name, len) =
      title_of pools (roots p) e (name_of t) (journals p) among
      (subst (λ a. Contains (leaves_by a) (name_of t)) (sym act) member) in
      ap (λ n. homes_by partitions pools roots n) (sym name) ∙ home_made p u by
  handed_home p e None t among (asked, act) =
      let (u, by, name, len) =
      title_of pools (roots p) e (name_of t) (journals p) among
      (subst (λ a. Contains (leaves_by a) (name_of t)) (sym act) (first_in (name_of t) [])) in
      ap (λ n. homes_by partitions pools roots n) (sym name) ∙ home_made p u by
