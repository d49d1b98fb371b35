-- A slot that leaves a partition's root is that partition's alone.
use Rattle.std.proofs.Common.{◌≡◌, ℕ, ◌+◌, ◌<◌, List, [], ◌∷◌, ◌++◌, Option, Some, None, refl, sym, ◌∙◌, ap, subst, arith, inl, inr}
use Rattle.std.specs.Prelude.{Contains}
use Rattle.std.proofs.lemmas.List.Elements.{Contains-append_left, Contains-append_right, filter_map-append}
use Rattle.pa_slot.specs.declared.title.Title.{Title}
use Rattle.pa_slot.specs.declared.word.SlotName.{SlotName}
use Rattle.pa_buckets.specs.Bands.{fill_of}
use Rattle.pa_buckets.specs.Table.{slot_of}
use Rattle.pa_record.specs.declared.pool.PoolEntry.{PoolEntry}
use Rattle.pa_record.specs.declared.root.RootEntry.{RootEntry}
use Rattle.pa_record.specs.declared.root.RootAct.{RootAct}
use Rattle.pa_record.specs.declared.root.RootAct.TheVariants.{Fill, Map, Full, Give, Unmap, Purge}
use Rattle.pa_record.specs.Spans.{name_of}
use Rattle.pa_record.specs.Root.{Root, new_root, takes, opened, opened_by, super_of, map_title, root_next, RootActFits, RootReplays, RiseFrom, IsJournal, all_asked, asked_by}
use Rattle.pa_record.specs.Pool.{act_at}
use Rattle.pa_record.specs.Sound.{IsSound, IsSettled, IsBornBelow, AsksFrom, least_after, IsMadeBy}
use Rattle.pa_record.specs.Laws.{leaves_by}
use Rattle.pa_record.proofs.Tested.{name_is}
use Rattle.pa_lists.proofs.Members.{not_in_none, first_in, in_cases}
use Rattle.pa_lists.proofs.Joined.{map_cases}
use Rattle.pa_record.proofs.Filling.{takes_filled, opened_sound}
use Rattle.pa_record.proofs.Mapping.{born_more}
use Rattle.pa_record.proofs.Stepping.{next_is}
use Rattle.pa_record.proofs.Titles.{next_titles, titles_taken, new_sound, new_born, rise_parts}
use Rattle.pa_record.proofs.MadeBy.{taken_made}
use Rattle.pa_rules.specs.declared.played.Played.{Played}
use Rattle.pa_rules.specs.Roots.{Journals, AreRoots, IsPoolOf}
use Rattle.pa_rules.specs.Flow.{IsOnlyOf}
use Rattle.pa_rules.proofs.Following.{titles_follow}

-- the length that an entry gives its titles
abbrev pub HasLen : RootAct → Title → Type 0
HasLen (Fill class asked slots) t = (class < 170) × (t.len ≡ slot_of class)
HasLen (Map asked slot len) t = t.len ≡ len
HasLen (Full class asked) t = Unit {0}
HasLen (Give slots) t = Unit {0}
HasLen (Unmap asked slot) t = Unit {0}
HasLen Purge t = Unit {0}

pub fill_len : (pools : List PoolEntry) (n class : ℕ) (asked : Option ℕ) (r : Root) → IsSound r → IsBornBelow n r → AsksFrom n asked →
    class < 170 →
    (t : Title) → Contains (takes class (fill_of class) (opened_by pools asked r)).titles t → t.len ≡ slot_of class
fill_len pools n class None r sound old asks real t among = (takes_filled class (fill_of class) r sound real).len t among
fill_len pools n class (Some j) r sound old asks real t among =
    (takes_filled class (fill_of class) (opened (super_of (act_at pools j)) j r)
    (opened_sound (super_of (act_at pools j)) j r sound (born_more n j r asks old)) real).len t among

-- a title that an entry makes, for a slot that leaves by it
title_here : (pools : List PoolEntry) (act : RootAct) (n : ℕ) (r : Root) (s : SlotName) → IsSound r → IsBornBelow n r →
    AsksFrom n (asked_by act) → RootActFits pools act r →
    Contains (leaves_by act) s → (t : Title) × Contains (next_titles pools act r) t × (name_of t ≡ s) × HasLen act t
title_here pools (Fill class asked slots) n r s sound old asks (real, found, same) among =
    let (t, member, is) = map_cases name_of (takes class (fill_of class) (opened_by pools asked r)).titles s
    (subst (λ xs. Contains xs s) (sym same) among) in
    (t, member, is, (real, fill_len pools n class asked r sound old asks real t member))
title_here pools (Map asked slot len) n r s sound old asks fits among = elim (in_cases slot s [] among) [
  | inl e ↦ (map_title slot len, first_in (map_title slot len) [], name_is slot.start slot.born slot refl refl ∙ e, refl)
  | inr none ↦ absurd (not_in_none s none)
]
title_here pools (Full class asked) n r s sound old asks fits among = absurd (not_in_none s among)
title_here pools (Give slots) n r s sound old asks fits among = absurd (not_in_none s among)
title_here pools (Unmap asked slot) n r s sound old asks fits among = absurd (not_in_none s among)
title_here pools Purge n r s sound old asks fits among = absurd (not_in_none s among)

title_from : (pools : List PoolEntry) (es : List RootEntry) (n : ℕ) (r : Root) (e : RootEntry) (s : SlotName) → IsSound r → IsSettled r →
    IsBornBelow n r → RootReplays pools es r →
    RiseFrom n (all_asked es) → Contains es e → Contains (leaves_by e.act) s → (t : Title) × Contains (titles_taken pools es r) t ×
    (name_of t ≡ s) × HasLen e.act t
title_from pools [] n r e s sound few old fits rise among leaves = absurd (not_in_none e among)
title_from pools (f ∷ es) n r e s sound few old fits rise among leaves =
    let (asks, rest) = rise_parts n (asked_by f.act) (all_asked es) rise in
    let after = root_next pools f.act r in
    elim (in_cases f e es among) [
      | inl same ↦
          let (t, member, is, len) =
          title_here pools f.act n r s sound old asks fits.0
          (subst (λ (z : RootEntry). Contains (leaves_by z.act) s) (sym same) leaves) in (
            t,
            Contains-append_left (next_titles pools f.act r) (titles_taken pools es after) t member,
            is,
            subst (λ (z : RootEntry). HasLen z.act t) same len,
          )
      | inr later ↦
          let next = next_is pools f.act n r sound few old asks fits.0 in
          let (t, member, is, len) =
          title_from pools es (least_after n (asked_by f.act)) after e s next.sound next.settled next.born fits.1 rest later
          leaves in
          (t, Contains-append_right (next_titles pools f.act r) (titles_taken pools es after) t member, is, len)
    ]

-- a slot that leaves by an entry of a journal has a title, as long as the entry says
pub title_of : (pools : List PoolEntry) (journal : List RootEntry) (e : RootEntry) (s : SlotName) → IsJournal pools journal →
    Contains journal e → Contains (leaves_by e.act) s →
    (t : Title) × IsMadeBy pools journal t × (name_of t ≡ s) × HasLen e.act t
title_of pools journal e s h among leaves =
    let (t, taken, is, len) = title_from pools journal 0 new_root e s new_sound (omega arith) new_born h.replays h.rise among leaves in
    (t, taken_made pools journal t h taken, is, len)

pub only_of : (supers partitions : ℕ) (ps : List Played) (pools : List PoolEntry) (roots : Journals) (p : ℕ) (e : RootEntry)
    (s : SlotName) → AreRoots partitions ps pools roots →
    IsPoolOf supers ps pools roots → Contains (roots p) e → Contains (leaves_by e.act) s → IsOnlyOf roots p s
only_of supers partitions ps pools roots p e s r h among leaves q f member leaves' =
    let (t, made, is, len) = title_of pools (roots p) e s (r.journals p) among leaves in
    let (u, made', is', len') = title_of pools (roots q) f s (r.journals q) member leaves' in
    (titles_follow.titles supers partitions ps pools roots r h).owned q p u t made' made (ap (λ (x : SlotName). x.born) (is' ∙ sym is))

-- the entries of a journal up to one of them are a journal
replays_front : (pools : List PoolEntry) (xs ys : List RootEntry) (r : Root) → RootReplays pools (xs ++ ys) r → RootReplays pools xs r
replays_front pools [] ys r h = tt
replays_front pools (x ∷ xs) ys r h = (h.0, replays_front pools xs ys (root_next pools x.act r) h.1)

rise_front : (n : ℕ) (xs ys : List ℕ) → RiseFrom n (xs ++ ys) → RiseFrom n xs
rise_front n [] ys h = tt
rise_front n (x ∷ xs) ys h = (h.0, rise_front (x + 1) xs ys h.1)

pub journal_front : (pools : List PoolEntry) (xs ys : List RootEntry) → IsJournal pools (xs ++ ys) → IsJournal pools xs
journal_front pools xs ys h =
    let asked = filter_map-append (λ (e : RootEntry). asked_by e.act) xs ys in
    record {
      replays = replays_front pools xs ys new_root h.replays;
      rise = rise_front 0 (all_asked xs) (all_asked ys) (subst (λ z. RiseFrom 0 z) asked h.rise);
    }
