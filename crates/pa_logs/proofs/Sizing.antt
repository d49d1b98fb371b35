-- The journals give each slot one length.
use Rattle.std.proofs.Common.{◌≡◌, ℕ, zero, suc, ◌<◌, ◌≤◌, ◌⊎◌, List, [], ◌∷◌, flat_map, Some, None, refl, sym, ◌∙◌, ap, subst, arith, inl, inr}
use Rattle.std.specs.Prelude.{Contains}
use Rattle.std.proofs.lemmas.Bool.{cases_Bool, cases_lt, cases_eq, both_ways}
use Rattle.std.proofs.lemmas.List.Elements.{Contains-append_left, Contains-append_right, Contains-append_cases, Contains-push_cases}
use Rattle.std.proofs.lemmas.Option.{slice_get-get_or}
use Rattle.pa_slot.specs.declared.title.Title.{Title}
use Rattle.pa_slot.specs.declared.word.SlotName.{SlotName}
use Rattle.pa_slot.specs.Run.{same_slot}
use Rattle.pa_slot.proofs.Runs.{same_slot_eq, same_slot_yes}
use Rattle.pa_buckets.specs.Table.{slot_of}
use Rattle.pa_buckets.specs.Bands.{fill_of}
use Rattle.pa_buckets.proofs.Facts.{IsRow-of}
use Rattle.pa_record.specs.declared.numbered.Numbered.{Numbered}
use Rattle.pa_record.specs.declared.pool.PoolEntry.{PoolEntry}
use Rattle.pa_record.specs.declared.root.RootEntry.{RootEntry}
use Rattle.pa_record.specs.declared.root.RootAct.{RootAct}
use Rattle.pa_record.specs.declared.root.RootAct.TheVariants.{Fill, Map, Full, Give, Unmap, Purge}
use Rattle.pa_record.specs.Pool.{act_at}
use Rattle.pa_record.specs.Spans.{title_at, name_of}
use Rattle.pa_record.specs.Root.{Root, new_root, root_next, root_replayed, RootActFits, RootReplays, RiseFrom, all_asked, asked_by, IsJournal, map_title, opened, super_of, names, empties}
use Rattle.pa_record.specs.Sound.{IsSound, IsSettled, IsBornBelow, AsksFrom, least_after, IsMadeBy}
use Rattle.pa_record.specs.Laws.{leaves_by}
use Rattle.pa_lists.proofs.Different.{numbers_in, numbers_has}
use Rattle.pa_record.proofs.Filling.{takes_filled, opened_sound}
use Rattle.pa_record.proofs.Returning.{all_returned_is, times_is}
use Rattle.pa_record.proofs.Mapping.{without_map_in, born_more}
use Rattle.pa_record.proofs.Stepping.{next_is}
use Rattle.pa_record.proofs.Titles.{new_sound, new_born, rise_parts}
use Rattle.pa_record.proofs.Lawful.{journal_leaves}
use Rattle.pa_lists.proofs.Joined.{map_cases, map_in, flat_cases, flat_in}
use Rattle.pa_lists.proofs.Members.{not_in_none, first_in, later_in, in_cases}
use Rattle.pa_rules.specs.declared.played.Played.{Played}
use Rattle.pa_rules.specs.Roots.{Journals, AreRoots, IsPoolOf, MakesEntry}
use Rattle.pa_rules.specs.Report.{HasSize}
use Rattle.pa_rules.specs.Held.{IsStanding}
use Rattle.pa_rules.proofs.Following.{titles_follow}
use Rattle.pa_rules.proofs.Owned.{title_of, HasLen}
use Rattle.pa_logs.specs.Lengths.{slots_cut, maps_by, titles_by, titles_of, length_among, lengths_by, LengthsFollow}
use Rattle.pa_lists.specs.Numbers.{numbers}

-- a title among others that agree with it has the length of its name
pub length_is : (ts : List Title) (t : Title) → Contains ts t → ((u : Title) → Contains ts u → name_of u ≡ name_of t → u.len ≡ t.len) →
    length_among ts (name_of t) ≡ t.len
length_is [] t among same = absurd (not_in_none t among)
length_is (u ∷ us) t among same = elim (cases_Bool (same_slot (name_of u) (name_of t))) [
  | inl y ↦ rw y (same u (first_in u us) (same_slot_eq (name_of u) (name_of t) y))
  | inr n ↦ rw n (elim (in_cases u t us among) [
    | inl e ↦ absurd (both_ways _ n (same_slot_yes (name_of u) (name_of t) (ap name_of e)))
    | inr later ↦ length_is us t later (λ w member. same w (later_in u w us member))
  ])
]

-- a journal's titles are those that it makes
pub made_listed : (pools : List PoolEntry) (journal : List RootEntry) (t : Title) → IsMadeBy pools journal t →
    Contains (titles_by pools journal) t
made_listed pools journal t (inl (s, among, number, below, is)) =
    let spans = (root_replayed pools journal new_root).spans in
    Contains-append_left (flat_map slots_cut spans) (flat_map (λ (e : RootEntry). maps_by e.act) journal) t
    (flat_in slots_cut spans s t among
    (subst (λ u. Contains (slots_cut s) u) (sym is)
    (map_in (title_at s) (numbers 0 s.made) number (numbers_has 0 s.made number (omega arith) (omega arith)))))
made_listed pools journal t (inr (e, asked, len, slot, among, act, is)) =
    let spans = (root_replayed pools journal new_root).spans in
    Contains-append_right (flat_map slots_cut spans) (flat_map (λ (f : RootEntry). maps_by f.act) journal) t
    (flat_in (λ (f : RootEntry). maps_by f.act) journal e t among
    (subst (λ a. Contains (maps_by a) t) (sym act)
    (subst (λ u. Contains (map_title slot len ∷ []) u) (sym is) (first_in (map_title slot len) []))))

map_listed : (act : RootAct) (t : Title) → Contains (maps_by act) t → (asked len : ℕ) × (slot : SlotName) × (act ≡ Map asked slot len) ×
    (t ≡ map_title slot len)
map_listed (Fill class asked slots) t among = absurd (not_in_none t among)
map_listed (Map asked slot len) t among = elim (in_cases (map_title slot len) t [] among) [
  | inl e ↦ (asked, len, slot, refl, sym e)
  | inr none ↦ absurd (not_in_none t none)
]
map_listed (Full class asked) t among = absurd (not_in_none t among)
map_listed (Give slots) t among = absurd (not_in_none t among)
map_listed (Unmap asked slot) t among = absurd (not_in_none t among)
map_listed Purge t among = absurd (not_in_none t among)

pub listed_made : (pools : List PoolEntry) (journal : List RootEntry) (t : Title) → Contains (titles_by pools journal) t →
    IsMadeBy pools journal t
listed_made pools journal t among =
    let spans = (root_replayed pools journal new_root).spans in
    elim (Contains-append_cases (flat_map slots_cut spans) (flat_map (λ (e : RootEntry). maps_by e.act) journal) t among) [
      | inl there ↦
          let (s, member, within) = flat_cases slots_cut spans t there in
          let (number, counted, is) = map_cases (title_at s) (numbers 0 s.made) t within in
          let (low, high) = numbers_in 0 s.made number counted in
          inl (s, member, number, omega arith, sym is)
      | inr there ↦
          let (e, member, within) = flat_cases (λ (f : RootEntry). maps_by f.act) journal t there in
          let (asked, len, slot, act, is) = map_listed e.act t within in
          inr (e, asked, len, slot, member, act, is)
    ]

module _ (pools : List PoolEntry) (roots : Journals) where
  all_listed : (n p : ℕ) (t : Title) → p < n → IsMadeBy pools (roots p) t → Contains (titles_of pools roots n) t
  all_listed zero p t below made = absurd (omega arith)
  all_listed (suc n) p t below made = elim (cases_eq p n) [
    | inl same ↦ Contains-append_left (titles_by pools (roots n)) (titles_of pools roots n) t
        (subst (λ q. Contains (titles_by pools (roots q)) t) same (made_listed pools (roots p) t made))
    | inr other ↦ Contains-append_right (titles_by pools (roots n)) (titles_of pools roots n) t (all_listed n p t (omega arith) made)
  ]

  listed_all : (n : ℕ) (t : Title) → Contains (titles_of pools roots n) t → (p : ℕ) × IsMadeBy pools (roots p) t
  listed_all zero t among = absurd (not_in_none t among)
  listed_all (suc n) t among = elim (Contains-append_cases (titles_by pools (roots n)) (titles_of pools roots n) t among) [
    | inl here ↦ (n, listed_made pools (roots n) t here)
    | inr there ↦ listed_all n t there
  ]

-- a root that replays go on from
record IsGoing (n : ℕ) (r : Root) : Type 0 where
  sound : IsSound r
  settled : IsSettled r
  born : IsBornBelow n r

-- the direct maps after an entry: those before, and the one that it makes
next_maps : (pools : List PoolEntry) (act : RootAct) (n : ℕ) (r : Root) → IsGoing n r → AsksFrom n (asked_by act) →
    RootActFits pools act r →
    (t : Title) → Contains (root_next pools act r).maps t → Contains r.maps t ⊎ Contains (maps_by act) t
next_maps pools (Fill class None slots) n r good asks fits t among =
    inl (subst (λ ts. Contains ts t) (takes_filled class (fill_of class) r good.sound fits.0).maps among)
next_maps pools (Fill class (Some j) slots) n r good asks fits t among =
    let number = super_of (act_at pools j) in
    inl (subst (λ ts. Contains ts t)
    (takes_filled class (fill_of class) (opened number j r)
    (opened_sound number j r good.sound (born_more n j r asks good.born)) fits.0).maps among)
next_maps pools (Map asked slot len) n r good asks fits t among = elim (Contains-push_cases r.maps (map_title slot len) t among) [
  | inl old ↦ inl old
  | inr e ↦ inr (subst (λ u. Contains (map_title slot len ∷ []) u) e (first_in (map_title slot len) []))
]
next_maps pools (Full class asked) n r good asks fits t among = inl among
next_maps pools (Give slots) n r good asks fits t among =
    inl (subst (λ ts. Contains ts t) (all_returned_is (names slots) r good.sound fits.0 fits.1).kept.maps among)
next_maps pools (Unmap asked slot) n r good asks fits t among = inl (without_map_in slot.slot r.maps t among)
next_maps pools Purge n r good asks fits t among = inl (subst (λ ts. Contains ts t) (times_is (empties r) r good.sound).kept.maps among)

-- the direct maps of a journal were made by it
all_maps : (pools : List PoolEntry) (es : List RootEntry) (n : ℕ) (r : Root) → IsGoing n r → RootReplays pools es r →
    RiseFrom n (all_asked es) →
    (t : Title) → Contains (root_replayed pools es r).maps t → Contains r.maps t ⊎
    Contains (flat_map (λ (e : RootEntry). maps_by e.act) es) t
all_maps pools [] n r good replays rise t among = inl among
all_maps pools (e ∷ es) n r good replays rise t among =
    let (asks, more) = rise_parts n (asked_by e.act) (all_asked es) rise in
    let next = next_is pools e.act n r good.sound good.settled good.born asks replays.0 in
    let then : IsGoing (least_after n (asked_by e.act)) (root_next pools e.act r) =
    record { sound = next.sound; settled = next.settled; born = next.born } in
    elim (all_maps pools es (least_after n (asked_by e.act)) (root_next pools e.act r) then replays.1 more t among) [
      | inl before ↦ elim (next_maps pools e.act n r good asks replays.0 t before) [
        | inl old ↦ inl old
        | inr here ↦ inr (Contains-append_left (maps_by e.act) (flat_map (λ (f : RootEntry). maps_by f.act) es) t here)
      ]
      | inr later ↦ inr (Contains-append_right (maps_by e.act) (flat_map (λ (f : RootEntry). maps_by f.act) es) t later)
    ]

-- a title that exists was made
pub stands_made : (pools : List PoolEntry) (journal : List RootEntry) (t : Title) → IsJournal pools journal → IsStanding pools journal t →
    IsMadeBy pools journal t
stands_made pools journal t j (inl slot) = inl slot
stands_made pools journal t j (inr mapped) =
    elim (all_maps pools journal 0 new_root
    (record { sound = new_sound; settled = omega arith; born = new_born }) j.replays j.rise t mapped) [
      | inl none ↦ absurd (not_in_none t none)
      | inr there ↦
          listed_made pools journal t
          (Contains-append_right (flat_map slots_cut (root_replayed pools journal new_root).spans)
          (flat_map (λ (e : RootEntry). maps_by e.act) journal) t there)
    ]

-- a direct map that an entry gives back was made by the journal
map_here : (pools : List PoolEntry) (es : List RootEntry) (n : ℕ) (r : Root) (e : RootEntry) (asked : ℕ) (slot : Numbered) → IsGoing n r →
    RootReplays pools es r → RiseFrom n (all_asked es) →
    Contains es e → e.act ≡ Unmap asked slot → (t : Title) ×
    (Contains r.maps t ⊎ Contains (flat_map (λ (f : RootEntry). maps_by f.act) es) t) × (t.born ≡ slot.slot.born)
map_here pools [] n r e asked slot good replays rise among is = absurd (not_in_none e among)
map_here pools (x ∷ xs) n r e asked slot good replays rise among is =
    let (asks, more) = rise_parts n (asked_by x.act) (all_asked xs) rise in
    let next = next_is pools x.act n r good.sound good.settled good.born asks replays.0 in
    let then : IsGoing (least_after n (asked_by x.act)) (root_next pools x.act r) =
    record { sound = next.sound; settled = next.settled; born = next.born } in
    elim (in_cases x e xs among) [
      | inl same ↦
          let act : RootAct = Unmap asked slot in
          let named : x.act ≡ act = ap (λ (z : RootEntry). z.act) same ∙ is in
          let (len, first, member, start, gave) = subst (λ a. RootActFits pools a r) named replays.0 in
          (map_title slot.slot len, inl member, refl)
      | inr later ↦
          let (t, found, born) = map_here pools xs (least_after n (asked_by x.act))
          (root_next pools x.act r) e asked slot then replays.1 more later is in (
            t,
            elim found [
              | inl before ↦ elim (next_maps pools x.act n r good asks replays.0 t before) [
                | inl old ↦ inl old
                | inr here ↦ inr (Contains-append_left (maps_by x.act) (flat_map (λ (f : RootEntry). maps_by f.act) xs) t here)
              ]
              | inr after ↦ inr (Contains-append_right (maps_by x.act) (flat_map (λ (f : RootEntry). maps_by f.act) xs) t after)
            ],
            born,
          )
    ]

pub map_made : (pools : List PoolEntry) (journal : List RootEntry) (e : RootEntry) (asked : ℕ) (slot : Numbered) → IsJournal pools journal →
    Contains journal e → e.act ≡ Unmap asked slot →
    (t : Title) × IsMadeBy pools journal t × (t.born ≡ slot.slot.born)
map_made pools journal e asked slot j among is =
    let (t, found, born) = map_here pools journal 0 new_root e asked slot
    (record { sound = new_sound; settled = omega arith; born = new_born }) j.replays j.rise among is in
    elim found [
      | inl none ↦ absurd (not_in_none t none)
      | inr there ↦ (
        t,
        listed_made pools journal t
            (Contains-append_right (flat_map slots_cut (root_replayed pools journal new_root).spans)
            (flat_map (λ (f : RootEntry). maps_by f.act) journal) t there),
        born,
      )
    ]

module _ (supers partitions : ℕ) (ps : List Played) (pools : List PoolEntry) (roots : Journals) (r : AreRoots partitions ps pools roots)
    (h : IsPoolOf supers ps pools roots) where
  -- a title that was made isn't empty
  map_some : (p asked len : ℕ) (s : SlotName) (x : Played) → MakesEntry pools p (Map asked s len) x → 1 ≤ len
  map_some p asked len s x (size, (reg, is, direct), same) = let large = direct.0 in omega arith

  some_bytes : (p : ℕ) (t : Title) → IsMadeBy pools (roots p) t → 1 ≤ t.len
  some_bytes p t (inl (s, among, number, below, is)) =
      let sound = (journal_leaves pools (roots p) (r.journals p)).sound in
      let some = (IsRow-of s.class (sound.spans s among).counted.class).least_slot in
      let len : t.len ≡ slot_of s.class = ap (λ (u : Title). u.len) is in
      omega arith
  some_bytes p t (inr (e, asked, len, slot, (j, few, at), act, is)) =
      let (x, of, makes) = r.lines p j e (slice_get-get_or (roots p) j e few ∙ ap Some at) in
      let some = map_some p asked len slot x (subst (λ a. MakesEntry pools p a x) act makes) in
      let size : t.len ≡ len = ap (λ (u : Title). u.len) is in
      omega arith

  -- a partition without a journal makes none
  pub is_partition : (p : ℕ) (t : Title) → IsMadeBy pools (roots p) t → p < partitions
  is_partition p t made = elim (cases_lt p partitions) [
    | inl below ↦ below
    | inr past ↦ absurd (nothing (subst (λ es. IsMadeBy pools es t) (r.none_past p past) made))
  ]
    where
      nothing : IsMadeBy pools [] t → ⊥
      nothing (inl (s, among, number, below, is)) = not_in_none s among
      nothing (inr (e, asked, len, slot, among, act, is)) = not_in_none e among

  one_length : (p q : ℕ) (t u : Title) → IsMadeBy pools (roots p) t → IsMadeBy pools (roots q) u → name_of u ≡ name_of t → u.len ≡ t.len
  one_length p q t u made made' same =
      let all = titles_follow.titles supers partitions ps pools roots r h in
      let born : t.born ≡ u.born = ap (λ (s : SlotName). s.born) (sym same) in
      let start : t.start ≡ u.start = ap (λ (s : SlotName). s.start) (sym same) in
      let q_is_p : q ≡ p = sym (all.owned p q t u made made' born) in
      let here = subst (λ k. IsMadeBy pools (roots k) u) q_is_p made' in
      let some = some_bytes p t made in
      let some' = some_bytes q u made' in
      elim ((all.titles p).apart t u made here born) [
        | inl e ↦ ap (λ (v : Title). v.len) (sym e)
        | inr (inl before) ↦ absurd (omega arith)
        | inr (inr past) ↦ absurd (omega arith)
      ]

  made : (p : ℕ) (t : Title) → IsMadeBy pools (roots p) t → lengths_by partitions pools roots (name_of t) ≡ t.len
  made p t by =
      length_is (titles_of pools roots partitions) t (all_listed pools roots partitions p t (is_partition p t by) by)
      (λ u among same. let (q, by') = listed_all pools roots partitions u among in one_length p q t u by by' same)

  stands : (p : ℕ) (t : Title) → IsStanding pools (roots p) t → lengths_by partitions pools roots (name_of t) ≡ t.len
  stands p t standing = made p t (stands_made pools (roots p) t (r.journals p) standing)

  named : (p len : ℕ) (s : SlotName) → HasSize roots p s len → lengths_by partitions pools roots s ≡ len
  named p len s (inl (class, (e, asked, slots, among, is, member), size)) =
      let (t, by, name, sized) =
      title_of pools (roots p) e s (r.journals p) among (subst (λ act. Contains (leaves_by act) s) (sym is) member) in
      let (real, long) = subst (λ act. HasLen act t) is sized in
      ap (λ n. lengths_by partitions pools roots n) (sym name) ∙ (made p t by ∙ (long ∙ sym size))
  named p len s (inr (e, asked, among, is)) =
      let (t, by, name, sized) =
      title_of pools (roots p) e s (r.journals p) among (subst (λ act. Contains (leaves_by act) s) (sym is) (first_in s [])) in
      let long : t.len ≡ len = subst (λ act. HasLen act t) is sized in
      ap (λ n. lengths_by partitions pools roots n) (sym name) ∙ (made p t by ∙ long)

pub lengths_follow : LengthsFollow
lengths_follow = record {
  made = λ supers partitions p ps pools roots t r h. made supers partitions ps pools roots r h p t;
  stands = λ supers partitions p ps pools roots t r h. stands supers partitions ps pools roots r h p t;
  named = λ supers partitions p len ps pools roots s r h. named supers partitions ps pools roots r h p len s;
}
