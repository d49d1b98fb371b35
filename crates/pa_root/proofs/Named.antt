-- What a journal names was made.
use Rattle.std.proofs.Common.{◌≡◌, ℕ, List, [], ◌∷◌, Option, map, sym, ◌∙◌, ap, subst, arith, inl, inr}
use Rattle.std.specs.Prelude.{Contains}
use Rattle.pa_slot.specs.declared.title.Title.{Title}
use Rattle.pa_slot.specs.declared.word.SlotName.{SlotName}
use Rattle.pa_buckets.specs.Table.{slot_of}
use Rattle.pa_buckets.specs.Bands.{fill_of}
use Rattle.pa_record.specs.declared.numbered.Numbered.{Numbered}
use Rattle.pa_record.specs.declared.pool.PoolEntry.{PoolEntry}
use Rattle.pa_record.specs.declared.root.RootEntry.{RootEntry}
use Rattle.pa_record.specs.declared.root.RootAct.{RootAct}
use Rattle.pa_record.specs.declared.root.RootAct.TheVariants.{Fill, Map, Full, Give, Unmap, Purge}
use Rattle.pa_record.specs.Spans.{name_of}
use Rattle.pa_record.specs.Root.{Root, new_root, takes, opened_by, names, root_next, root_replayed, RootActFits, RootReplays, RiseFrom, all_asked, asked_by, IsJournal}
use Rattle.pa_record.specs.Sound.{IsSound, IsSettled, IsBornBelow, IsMade, AsksFrom, least_after}
use Rattle.pa_lists.proofs.Members.{not_in_none, in_cases}
use Rattle.pa_lists.proofs.Joined.{map_cases, map_in}
use Rattle.pa_record.proofs.Stepping.{next_is}
use Rattle.pa_record.proofs.Titles.{rise_parts, new_sound, new_born, fill_made, made_apart}
use Rattle.pa_root.proofs.Whole.{made_is_whole}
use Rattle.pa_rules.proofs.Owned.{fill_len}

-- of two slots that were made, those of one name are one
pub made_name : (r : Root) (t u : Title) → IsSound r → IsMade r t → IsMade r u → name_of t ≡ name_of u → t ≡ u
made_name r t u sound made other same =
    let born : t.born ≡ u.born = ap (λ (s : SlotName). s.born) same in
    let start : t.start ≡ u.start = ap (λ (s : SlotName). s.start) same in
    let whole = (made_is_whole r t sound made).long in
    let full = (made_is_whole r u sound other).long in
    elim (made_apart r t u sound made other born) [
      | inl e ↦ e
      | inr apart ↦ elim apart [ inl before ↦ absurd (omega arith) | inr behind ↦ absurd (omega arith) ]
    ]

-- a title is what its start, its length and its entry of the pool say
pub title_is : (t u : Title) → name_of t ≡ name_of u → t.len ≡ u.len → t ≡ u
title_is t u same len =
    ap (λ (s : SlotName). let x : Title = record { start = s.start; len = t.len; born = s.born } in x) same
    ∙ ap (λ n. let x : Title = record { start = u.start; len = n; born = u.born } in x) len

-- a slot of this name was made, of this class's size
abbrev pub IsMadeOf : Root → ℕ → SlotName → Type 0
IsMadeOf r class name = (t : Title) × IsMade r t × (name_of t ≡ name) × (t.len ≡ slot_of class)

-- what was made stays so to the end of a journal
made_to_end : (pools : List PoolEntry) (es : List RootEntry) (n : ℕ) (r : Root) → IsSound r → IsSettled r → IsBornBelow n r →
    RootReplays pools es r → RiseFrom n (all_asked es) →
    (t : Title) → IsMade r t → IsMade (root_replayed pools es r) t
made_to_end pools [] n r sound few old fits rise t made = made
made_to_end pools (e ∷ es) n r sound few old fits rise t made =
    let (asks, rest) = rise_parts n (asked_by e.act) (all_asked es) rise in
    let next = next_is pools e.act n r sound few old asks fits.0 in
    made_to_end pools es (least_after n (asked_by e.act)) (root_next pools e.act r) next.sound next.settled next.born fits.1 rest t
    (next.keeps t made)

fill_names : (pools : List PoolEntry) (n : ℕ) (act : RootAct) (r : Root) → IsSound r → IsBornBelow n r → AsksFrom n (asked_by act) →
    RootActFits pools act r →
    (class : ℕ) (asked : Option ℕ) (slots : List Numbered) (m : Numbered) → act ≡ Fill class asked slots → Contains slots m →
    IsMadeOf (root_next pools act r) class m.slot
fill_names pools n (Fill c a xs) r sound old asks fits class asked slots m e among =
    let class_is : c ≡ class = cc in
    let slots_are : xs ≡ slots = cc in
    let (real, has, same) = fits in
    let named : Contains (names slots) m.slot = map_in (λ (x : Numbered). x.slot) slots m among in
    let there : Contains (map name_of (takes c (fill_of c) (opened_by pools a r)).titles) m.slot =
    subst (λ ns. Contains ns m.slot) (sym (same ∙ ap names slots_are)) named in
    let (t, taken, name) = map_cases name_of (takes c (fill_of c) (opened_by pools a r)).titles m.slot there in
    (t, fill_made pools n c a r sound old asks real t taken, name, fill_len pools n c a r sound old asks real t taken ∙ ap slot_of class_is)
fill_names pools n (Map a s len) r sound old asks fits class asked slots m e among = cc
fill_names pools n (Full c a) r sound old asks fits class asked slots m e among = cc
fill_names pools n (Give xs) r sound old asks fits class asked slots m e among = cc
fill_names pools n (Unmap a x) r sound old asks fits class asked slots m e among = cc
fill_names pools n Purge r sound old asks fits class asked slots m e among = cc

names_made : (pools : List PoolEntry) (es : List RootEntry) (n : ℕ) (r : Root) → IsSound r → IsSettled r → IsBornBelow n r →
    RootReplays pools es r → RiseFrom n (all_asked es) →
    (f : RootEntry) (class : ℕ) (asked : Option ℕ) (slots : List Numbered) (m : Numbered) → Contains es f → f.act ≡ Fill class asked slots →
    Contains slots m →
    IsMadeOf (root_replayed pools es r) class m.slot
names_made pools [] n r sound few old fits rise f class asked slots m among is has = absurd (not_in_none f among)
names_made pools (e ∷ es) n r sound few old fits rise f class asked slots m among is has =
    let (asks, rest) = rise_parts n (asked_by e.act) (all_asked es) rise in
    let next = next_is pools e.act n r sound few old asks fits.0 in
    let after = root_next pools e.act r in
    elim (in_cases e f es among) [
      | inl here ↦
          let (t, made, name, len) =
          fill_names pools n e.act r sound old asks fits.0 class asked slots m (ap (λ (y : RootEntry). y.act) here ∙ is) has in
          (t, made_to_end pools es (least_after n (asked_by e.act)) after next.sound next.settled next.born fits.1 rest t made, name, len)
      | inr later ↦ names_made pools es
          (least_after n (asked_by e.act)) after next.sound next.settled next.born fits.1 rest f class asked slots m later is has
    ]

-- what a fill of a journal names was made, of its class's size
pub filled_was_made : (pools : List PoolEntry) (journal : List RootEntry) → IsJournal pools journal →
    (f : RootEntry) (class : ℕ) (asked : Option ℕ) (slots : List Numbered) (m : Numbered) → Contains journal f →
    f.act ≡ Fill class asked slots → Contains slots m →
    IsMadeOf (root_replayed pools journal new_root) class m.slot
filled_was_made pools journal fits f class asked slots m among is has =
    names_made pools journal 0 new_root new_sound (omega arith) new_born fits.replays fits.rise f class asked slots m among is has
