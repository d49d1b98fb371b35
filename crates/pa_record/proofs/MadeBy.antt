-- The titles that a journal makes lie apart: the slots that were cut, and its direct maps.
use Rattle.std.proofs.Common.{◌≡◌, ℕ, List, [], ◌∷◌, refl, sym, ◌∙◌, subst, ap, ◌⊎◌, inl, inr, arith}
use Rattle.std.specs.Prelude.{Contains}
use Rattle.std.proofs.lemmas.List.Elements.{Contains-append_cases, Contains-append_left, Contains-append_right}
use Rattle.pa_slot.specs.declared.title.Title.{Title}
use Rattle.pa_slot.specs.declared.word.SlotName.{SlotName}
use Rattle.pa_record.specs.declared.pool.PoolEntry.{PoolEntry}
use Rattle.pa_record.specs.declared.root.RootEntry.{RootEntry}
use Rattle.pa_record.specs.declared.root.RootAct.{RootAct}
use Rattle.pa_record.specs.declared.root.RootAct.TheVariants.{Fill, Map, Full, Give, Unmap, Purge}
use Rattle.pa_record.specs.Root.{Root, new_root, root_next, root_replayed, RootActFits, RootReplays, RiseFrom, IsJournal, all_asked, asked_by, map_title}
use Rattle.pa_record.specs.Sound.{IsSound, IsSettled, IsBornBelow, IsMade, AsksFrom, least_after, least_after_all, IsMapBy, IsMadeBy, TitlesApart, IsInOwn, IsMapped, AreTitles}
use Rattle.pa_lists.proofs.Members.{not_in_none, first_in, later_in, in_cases}
use Rattle.pa_record.proofs.Stepping.{next_is}
use Rattle.pa_record.proofs.Owned.{made_in_own, journal_taken}
use Rattle.pa_record.proofs.Titles.{next_titles, titles_taken, IsReplayed, rise_parts, made_apart, made_or_map, fill_made, journal_replayed, new_sound, new_born}

-- a direct map's title is among those that were taken or mapped
pub map_taken : (pools : List PoolEntry) (es : List RootEntry) (r : Root) (t : Title) → IsMapBy es t → Contains (titles_taken pools es r) t
map_taken pools [] r t (e, asked, len, slot, among, act, is) = absurd (not_in_none e among)
map_taken pools (f ∷ es) r t (e, asked, len, slot, among, act, is) = elim (in_cases f e es among) [
  | inl same ↦
      let here : f.act ≡ Map asked slot len = ap (λ (z : RootEntry). z.act) same ∙ act in
      let member : Contains (map_title slot len ∷ []) t =
      subst (λ z. Contains (map_title slot len ∷ []) z) (sym is) (first_in (map_title slot len) []) in
      Contains-append_left (next_titles pools f.act r) (titles_taken pools es (root_next pools f.act r)) t
      (subst (λ a. Contains (next_titles pools a r) t) (sym here) member)
  | inr rest ↦
      Contains-append_right (next_titles pools f.act r) (titles_taken pools es (root_next pools f.act r)) t
      (map_taken pools es (root_next pools f.act r) t (e, asked, len, slot, rest, act, is))
]

-- a slot that was made stays made
made_stays : (pools : List PoolEntry) (es : List RootEntry) (n : ℕ) (r : Root) (t : Title) → IsSound r → IsSettled r → IsBornBelow n r →
    RootReplays pools es r →
    RiseFrom n (all_asked es) → IsMade r t → IsMade (root_replayed pools es r) t
made_stays pools [] n r t sound few old fits rise made = made
made_stays pools (e ∷ es) n r t sound few old fits rise made =
    let (asks, rest) = rise_parts n (asked_by e.act) (all_asked es) rise in
    let next = next_is pools e.act n r sound few old asks fits.0 in
    made_stays pools es (least_after n (asked_by e.act)) (root_next pools e.act r) t next.sound next.settled next.born fits.1 rest
    (next.keeps t made)

-- what an entry took or mapped is made after it, or a direct map
next_made : (pools : List PoolEntry) (act : RootAct) (n : ℕ) (r : Root) (t : Title) → IsSound r → IsBornBelow n r →
    AsksFrom n (asked_by act) → RootActFits pools act r →
    Contains (next_titles pools act r) t → IsMade (root_next pools act r) t ⊎
    ((asked len : ℕ) × (slot : SlotName) × (act ≡ Map asked slot len) × (t ≡ map_title slot len))
next_made pools (Fill class asked slots) n r t sound old asks fits among =
    inl (fill_made pools n class asked r sound old asks fits.0 t among)
next_made pools (Map asked slot len) n r t sound old asks fits among = elim (in_cases (map_title slot len) t [] among) [
  | inl e ↦ inr (asked, len, slot, refl, sym e)
  | inr none ↦ absurd (not_in_none t none)
]
next_made pools (Full class asked) n r t sound old asks fits among = absurd (not_in_none t among)
next_made pools (Give slots) n r t sound old asks fits among = absurd (not_in_none t among)
next_made pools (Unmap asked slot) n r t sound old asks fits among = absurd (not_in_none t among)
next_made pools Purge n r t sound old asks fits among = absurd (not_in_none t among)

taken_from : (pools : List PoolEntry) (es : List RootEntry) (n : ℕ) (r : Root) (t : Title) → IsSound r → IsSettled r → IsBornBelow n r →
    RootReplays pools es r →
    RiseFrom n (all_asked es) → Contains (titles_taken pools es r) t → IsMade (root_replayed pools es r) t ⊎ IsMapBy es t
taken_from pools [] n r t sound few old fits rise among = absurd (not_in_none t among)
taken_from pools (e ∷ es) n r t sound few old fits rise among =
    let (asks, rest) = rise_parts n (asked_by e.act) (all_asked es) rise in
    let next = next_is pools e.act n r sound few old asks fits.0 in
    let after = root_next pools e.act r in
    elim (Contains-append_cases (next_titles pools e.act r) (titles_taken pools es after) t among) [
      | inl now ↦ elim (next_made pools e.act n r t sound old asks fits.0 now) [
        | inl made ↦ inl (made_stays pools es (least_after n (asked_by e.act)) after t next.sound next.settled next.born fits.1 rest made)
        | inr (asked, len, slot, act, is) ↦ inr (e, asked, len, slot, first_in e es, act, is)
      ]
      | inr then ↦ elim (taken_from pools es (least_after n (asked_by e.act)) after t next.sound next.settled next.born fits.1 rest then) [
        | inl made ↦ inl made
        | inr (f, asked, len, slot, member, act, is) ↦ inr (f, asked, len, slot, later_in e f es member, act, is)
      ]
    ]

-- a title that a journal takes is made by it
pub taken_made : (pools : List PoolEntry) (journal : List RootEntry) (t : Title) → IsJournal pools journal →
    Contains (titles_taken pools journal new_root) t → IsMadeBy pools journal t
taken_made pools journal t h among = taken_from pools journal 0 new_root t new_sound (omega arith) new_born h.replays h.rise among

module _ (pools : List PoolEntry) (journal : List RootEntry) (h : IsJournal pools journal) where
  left : IsReplayed pools (least_after_all 0 journal) (root_replayed pools journal new_root) (titles_taken pools journal new_root)
  left = journal_replayed pools journal h.replays h.rise

  taken : (t : Title) → IsMapBy journal t → Contains (titles_taken pools journal new_root) t
  taken t mapped = map_taken pools journal new_root t mapped

  slot_or_map : (t u : Title) → IsMade (root_replayed pools journal new_root) t → IsMapBy journal u → t.born ≡ u.born → (t ≡ u) ⊎
      TitlesApart t u
  slot_or_map t u made mapped same = elim (left.known.each u (taken u mapped)) [
    | inl made' ↦ made_apart (root_replayed pools journal new_root) t u left.sound made made' same
    | inr old ↦ absurd (made_or_map (root_replayed pools journal new_root) (least_after_all 0 journal) t u left.sound made old same)
  ]

  turned : (t u : Title) → (u ≡ t) ⊎ TitlesApart u t → (t ≡ u) ⊎ TitlesApart t u
  turned t u (inl same) = inl (sym same)
  turned t u (inr (inl low)) = inr (inr low)
  turned t u (inr (inr high)) = inr (inl high)

  apart : (t u : Title) → IsMadeBy pools journal t → IsMadeBy pools journal u → t.born ≡ u.born → (t ≡ u) ⊎ TitlesApart t u
  apart t u (inl made) (inl made') same = made_apart (root_replayed pools journal new_root) t u left.sound made made' same
  apart t u (inl made) (inr mapped) same = slot_or_map t u made mapped same
  apart t u (inr mapped) (inl made) same = turned t u (slot_or_map u t made mapped (sym same))
  apart t u (inr mapped) (inr mapped') same = left.known.titles.apart t u (taken t mapped) (taken u mapped') same

  in_own : (t : Title) → IsMade (root_replayed pools journal new_root) t → IsInOwn pools t
  in_own t made = made_in_own pools (root_replayed pools journal new_root) t left.sound (journal_taken pools journal h) made

  lie : (t : Title) → IsMadeBy pools journal t → IsInOwn pools t ⊎ ((first : ℕ) × IsMapped pools t first)
  lie t (inl made) = inl (in_own t made)
  lie t (inr mapped) = elim (left.known.titles.lie t (taken t mapped)) [ inl made ↦ inl (in_own t made) | inr map ↦ inr map ]

  pub made_titles : AreTitles pools (IsMadeBy pools journal)
  made_titles = record { apart = apart; lie = lie }
