-- A direct map that is there on a line was made by an entry of its journal; and which maps stay when one goes back.
use Rattle.std.proofs.Common.{◌≡◌, ℕ, ◌&&◌, eqb, List, [], ◌∷◌, Some, None, refl, sym, ◌∙◌, ap, subst, arith, ◌⊎◌, inl, inr}
use Rattle.std.specs.Prelude.{Contains}
use Rattle.std.proofs.lemmas.Bool.{cases_Bool, and_parts, eqb-true}
use Rattle.std.proofs.lemmas.List.Elements.{Contains-push_cases}
use Rattle.pa_slot.specs.declared.word.SlotName.{SlotName}
use Rattle.pa_slot.specs.declared.title.Title.{Title}
use Rattle.pa_buckets.specs.Bands.{fill_of}
use Rattle.pa_record.specs.declared.pool.PoolEntry.{PoolEntry}
use Rattle.pa_record.specs.declared.root.RootEntry.{RootEntry}
use Rattle.pa_record.specs.declared.root.RootAct.{RootAct}
use Rattle.pa_record.specs.declared.root.RootAct.TheVariants.{Fill, Map, Full, Give, Unmap, Purge}
use Rattle.pa_record.specs.Pool.{act_at}
use Rattle.pa_record.specs.Root.{Root, new_root, opened, super_of, names, empties, map_title, without_map, root_next, root_replayed, RootActFits, RootReplays, RiseFrom, asked_by, all_asked}
use Rattle.pa_record.specs.Sound.{AsksFrom, least_after, IsMapBy, IsMadeBy}
use Rattle.pa_lists.proofs.Members.{not_in_none, first_in, later_in, in_cases}
use Rattle.pa_record.proofs.Filling.{takes_filled, opened_sound}
use Rattle.pa_record.proofs.Returning.{all_returned_is, times_is}
use Rattle.pa_record.proofs.Mapping.{without_map_in, born_more}
use Rattle.pa_record.proofs.Titles.{new_sound, new_born, rise_parts}
use Rattle.pa_legal.proofs.Naming.{IsGood, good_next}
use Rattle.pa_one_run.specs.Parts.{Parts, entry_line}
use Rattle.pa_one_run.specs.Before.{root_at}
use Rattle.pa_one_run.proofs.lines.Sorting.{in_below}
use Rattle.pa_one_run.proofs.Filed.{IsFiled}
use Rattle.pa_one_run.proofs.roots.Replays.{front_journal}
use Rattle.pa_core_run.proofs.FrontPool.{journal_before}

-- a map that is there after an entry was there before, or the entry made it
maps_of_next : (pools : List PoolEntry) (act : RootAct) (n : ℕ) (r : Root) (t : Title) → IsGood n r → AsksFrom n (asked_by act) →
    RootActFits pools act r → Contains (root_next pools act r).maps t →
    Contains r.maps t ⊎ ((asked len : ℕ) × (slot : SlotName) × (act ≡ Map asked slot len) × (t ≡ map_title slot len))
maps_of_next pools (Fill class None slots) n r t good asks fits among =
    inl (subst (λ ts. Contains ts t) (takes_filled class (fill_of class) r good.sound fits.0).maps among)
maps_of_next pools (Fill class (Some j) slots) n r t good asks fits among =
    let number = super_of (act_at pools j) in
    inl (subst (λ ts. Contains ts t)
    (takes_filled class (fill_of class) (opened number j r)
    (opened_sound number j r good.sound (born_more n j r asks good.born)) fits.0).maps among)
maps_of_next pools (Map asked slot len) n r t good asks fits among = elim (Contains-push_cases r.maps (map_title slot len) t among) [
  | inl old ↦ inl old
  | inr e ↦ inr (asked, len, slot, refl, sym e)
]
maps_of_next pools (Full class asked) n r t good asks fits among = inl among
maps_of_next pools (Give slots) n r t good asks fits among =
    inl (subst (λ ts. Contains ts t) (all_returned_is (names slots) r good.sound fits.0 fits.1).kept.maps among)
maps_of_next pools (Unmap asked slot) n r t good asks fits among = inl (without_map_in slot.slot r.maps t among)
maps_of_next pools Purge n r t good asks fits among = inl (subst (λ ts. Contains ts t) (times_is (empties r) r good.sound).kept.maps among)

maps_of_all : (pools : List PoolEntry) (es : List RootEntry) (n : ℕ) (r : Root) (t : Title) → IsGood n r → RootReplays pools es r
    → RiseFrom n (all_asked es) → Contains (root_replayed pools es r).maps t →
    Contains r.maps t ⊎ IsMapBy es t
maps_of_all pools [] n r t good fits rise among = inl among
maps_of_all pools (e ∷ es) n r t good fits rise among =
    let (asks, rest) = rise_parts n (asked_by e.act) (all_asked es) rise in
    elim (maps_of_all pools es (least_after n (asked_by e.act)) (root_next pools e.act r) t
    (good_next pools e.act n n r good asks fits.0) fits.1 rest among) [
      | inl now ↦ elim (maps_of_next pools e.act n r t good asks fits.0 now) [
        | inl old ↦ inl old
        | inr (asked, len, slot, act, is) ↦ inr (e, asked, len, slot, first_in e es, act, is)
      ]
      | inr (d, asked, len, slot, member, act, is) ↦ inr (d, asked, len, slot, later_in e d es member, act, is)
    ]

pub map_made : (a : Parts) (n p : ℕ) (t : Title) → IsFiled a → Contains (root_at a n p).maps t → IsMadeBy a.pools (a.roots p) t
map_made a n p t h among =
    let front = front_journal a n p h in
    elim (maps_of_all a.pools (journal_before a n p) 0 new_root t
    (record { sound = new_sound; settled = omega arith; born = new_born }) front.replays front.rise among) [
      | inl none ↦ absurd (not_in_none t none)
      | inr (e, asked, len, slot, member, act, is) ↦ inr (e, asked, len, slot, (in_below entry_line n (a.roots p) e member).0, act, is)
    ]

-- a map of another entry of the pool stays
pub other_stays : (slot : SlotName) (ts : List Title) (u : Title) → Contains ts u → (u.born ≡ slot.born → ⊥) →
    Contains (without_map slot ts) u
other_stays slot [] u among other = absurd (not_in_none u among)
other_stays slot (t ∷ ts) u among other = elim (cases_Bool (eqb t.start slot.start && eqb t.born slot.born)) [
  | inl hit ↦ elim (in_cases t u ts among) [
    | inl e ↦ absurd (other (ap (λ (z : Title). z.born) (sym e) ∙
        eqb-true _ _ (and_parts (eqb t.start slot.start) (eqb t.born slot.born) hit).1))
    | inr rest ↦ rw hit rest
  ]
  | inr miss ↦ elim (in_cases t u ts among) [
    | inl e ↦ rw miss (subst (λ z. Contains (t ∷ without_map slot ts) z) e (first_in t (without_map slot ts)))
    | inr rest ↦ rw miss (later_in t u (without_map slot ts) (other_stays slot ts u rest other))
  ]
]
