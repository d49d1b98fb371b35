-- A direct map that a journal made is mapped, or came back.
use Rattle.std.proofs.Common.{◌≡◌, ℕ, ◌&&◌, List, [], ◌∷◌, ◌++◌, Some, None, refl, sym, ◌∙◌, ap, subst, arith, ◌⊎◌, inl, inr, eqb}
use Rattle.std.specs.Prelude.{Contains}
use Rattle.std.proofs.lemmas.Bool.{cases_Bool, and_parts, eqb-true}
use Rattle.std.proofs.lemmas.List.Elements.{Contains-append_left, Contains-append_right}
use Rattle.pa_slot.specs.declared.title.Title.{Title}
use Rattle.pa_slot.specs.declared.word.SlotName.{SlotName}
use Rattle.pa_buckets.specs.Bands.{fill_of}
use Rattle.pa_record.specs.declared.numbered.Numbered.{Numbered}
use Rattle.pa_record.specs.declared.pool.PoolEntry.{PoolEntry}
use Rattle.pa_record.specs.declared.root.RootEntry.{RootEntry}
use Rattle.pa_record.specs.declared.root.RootAct.{RootAct}
use Rattle.pa_record.specs.declared.root.RootAct.TheVariants.{Fill, Map, Full, Give, Unmap, Purge}
use Rattle.pa_record.specs.Pool.{act_at}
use Rattle.pa_record.specs.Spans.{name_of}
use Rattle.pa_record.specs.Root.{Root, new_root, opened, super_of, empties, names, map_title, without_map, root_next, root_replayed, RootActFits, RootReplays, RiseFrom, all_asked, asked_by}
use Rattle.pa_record.specs.Sound.{IsSound, IsSettled, IsBornBelow, AsksFrom, IsMapBy, least_after}
use Rattle.pa_lists.proofs.Members.{not_in_none, first_in, later_in, in_cases}
use Rattle.pa_record.proofs.Mapping.{born_more}
use Rattle.pa_record.proofs.Filling.{takes_filled, opened_sound}
use Rattle.pa_record.proofs.Returning.{all_returned_is, times_is}
use Rattle.pa_record.proofs.Stepping.{next_is}
use Rattle.pa_record.proofs.Titles.{rise_parts, new_sound, new_born}
use Rattle.pa_root.specs.Reading.{pools_seen}
use Rattle.pa_root.specs.Unmapping.{CameBackIn, MapsStandOrCameBack}

-- a direct map that another name takes out stays
pub without_other : (name : SlotName) (t : Title) (ts : List Title) → Contains ts t → Contains (without_map name ts) t ⊎ (name ≡ name_of t)
without_other name t [] among = absurd (not_in_none t among)
without_other name t (x ∷ xs) among = elim (cases_Bool (eqb x.start name.start && eqb x.born name.born)) [
  | inl same ↦ elim (in_cases x t xs among) [
    | inl here ↦
        let (a, b) = and_parts _ _ same in
        let start : x.start ≡ name.start = eqb-true _ _ a in
        let born : x.born ≡ name.born = eqb-true _ _ b in
        inr (
        ap (λ k. let s : SlotName = record { start = k; born = name.born } in s) (sym start)
        ∙ ap (λ k. let s : SlotName = record { start = x.start; born = k } in s) (sym born)
        ∙ ap name_of here)
    | inr later ↦ inl (rw same later)
  ]
  | inr other ↦ elim (in_cases x t xs among) [
    | inl here ↦ inl (rw other (subst (λ z. Contains (x ∷ without_map name xs) z) here (first_in x (without_map name xs))))
    | inr later ↦ elim (without_other name t xs later) [
      | inl rest ↦ inl (rw other (later_in x t (without_map name xs) rest))
      | inr is ↦ inr is
    ]
  ]
]

-- the entry says that the slot of this title came back
abbrev pub Returns : RootAct → Title → Type 0
Returns act t = (asked : ℕ) × (slot : Numbered) × (act ≡ Unmap asked slot) × (slot.slot ≡ name_of t)

-- an entry leaves a direct map, or takes it back
stays_mapped : (pools : List PoolEntry) (n : ℕ) (act : RootAct) (r : Root) (t : Title) → IsSound r → IsBornBelow n r →
    AsksFrom n (asked_by act) → RootActFits pools act r →
    Contains r.maps t → Contains (root_next pools act r).maps t ⊎ Returns act t
stays_mapped pools n (Fill class None slots) r t sound old asks fits among =
    inl (subst (λ ts. Contains ts t) (sym (takes_filled class (fill_of class) r sound fits.0).maps) among)
stays_mapped pools n (Fill class (Some j) slots) r t sound old asks fits among =
    let s = opened (super_of (act_at pools j)) j r in
    inl (subst (λ ts. Contains ts t)
    (sym (takes_filled class (fill_of class) s
    (opened_sound (super_of (act_at pools j)) j r sound (born_more n j r asks old)) fits.0).maps) among)
stays_mapped pools n (Map asked slot len) r t sound old asks fits among =
    inl (Contains-append_left r.maps (map_title slot len ∷ []) t among)
stays_mapped pools n (Full class asked) r t sound old asks fits among = inl among
stays_mapped pools n (Give slots) r t sound old asks fits among =
    inl (subst (λ ts. Contains ts t) (sym (all_returned_is (names slots) r sound fits.0 fits.1).kept.maps) among)
stays_mapped pools n (Unmap asked slot) r t sound old asks fits among = elim (without_other slot.slot t r.maps among) [
  | inl rest ↦ inl rest
  | inr is ↦ inr (asked, slot, refl, is)
]
stays_mapped pools n Purge r t sound old asks fits among =
    inl (subst (λ ts. Contains ts t) (sym (times_is (empties r) r sound).kept.maps) among)

-- an entry that maps it has it mapped
now_mapped : (pools : List PoolEntry) (act : RootAct) (r : Root) (t : Title) (asked len : ℕ) (slot : SlotName) → act ≡ Map asked slot len →
    t ≡ map_title slot len →
    Contains (root_next pools act r).maps t
now_mapped pools act r t asked len slot is same =
    subst (λ a. Contains (root_next pools a r).maps t) (sym is)
    (subst (λ z. Contains (r.maps ++ map_title slot len ∷ []) z) (sym same)
    (Contains-append_right r.maps (map_title slot len ∷ []) (map_title slot len) (first_in (map_title slot len) [])))

stand : (pools : List PoolEntry) (es : List RootEntry) (n : ℕ) (r : Root) (t : Title) → IsSound r → IsSettled r → IsBornBelow n r →
    RootReplays pools es r →
    RiseFrom n (all_asked es) → Contains r.maps t ⊎ IsMapBy es t → Contains (root_replayed pools es r).maps t ⊎ CameBackIn es t
stand pools [] n r t sound few old fits rise (inl among) = inl among
stand pools [] n r t sound few old fits rise (inr (e, asked, len, slot, among, is, same)) = absurd (not_in_none e among)
stand pools (e ∷ es) n r t sound few old fits rise has =
    let (asks, rest) = rise_parts n (asked_by e.act) (all_asked es) rise in
    let next = next_is pools e.act n r sound few old asks fits.0 in
    let after = root_next pools e.act r in
    elim (first has asks) [
      | inl on ↦ elim (stand pools es (least_after n (asked_by e.act)) after t next.sound next.settled next.born fits.1 rest on) [
        | inl there ↦ inl there
        | inr (f, asked, slot, among, is, name) ↦ inr (f, asked, slot, later_in e f es among, is, name)
      ]
      | inr (asked, slot, is, name) ↦ inr (e, asked, slot, first_in e es, is, name)
    ]
  where
    first : Contains r.maps t ⊎ IsMapBy (e ∷ es) t → AsksFrom n (asked_by e.act) →
        (Contains (root_next pools e.act r).maps t ⊎ IsMapBy es t) ⊎ Returns e.act t
    first (inl among) asks =
        elim (stays_mapped pools n e.act r t sound old asks fits.0 among) [ inl still ↦ inl (inl still) | inr back ↦ inr back ]
    first (inr (f, asked, len, slot, among, is, same)) asks = elim (in_cases e f es among) [
      | inl here ↦ inl (inl (now_mapped pools e.act r t asked len slot (ap (λ (x : RootEntry). x.act) here ∙ is) same))
      | inr later ↦ inl (inr (f, asked, len, slot, later, is, same))
    ]

pub maps_stand_or_came_back : MapsStandOrCameBack
maps_stand_or_came_back p s t sound made =
    let fits = sound.journal.fits in
    subst (λ r. Contains r.maps t ⊎ CameBackIn s.journal t) (sym sound.journal.replayed)
    (stand (pools_seen s.view) s.journal 0 new_root t new_sound (omega arith) new_born fits.replays fits.rise (inr made))
