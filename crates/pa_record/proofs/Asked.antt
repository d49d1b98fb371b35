-- The entry of the pool to which a title belongs is named in its journal.
use Rattle.std.proofs.Common.{◌≡◌, ℕ, suc, ◌<◌, List, [], ◌∷◌, ◌++◌, refl, sym, ◌∙◌, ap, subst, arith, inl, inr, Option, Some, None}
use Rattle.std.specs.Prelude.{Contains, slice_get}
use Rattle.std.specs.List.{cons_option}
use Rattle.std.proofs.lemmas.List.{append-nil, append_assoc}
use Rattle.std.proofs.lemmas.List.Elements.{Contains-append_left, Contains-append_right, Contains-push_cases}
use Rattle.pa_slot.specs.declared.title.Title.{Title}
use Rattle.pa_buckets.specs.Bands.{fill_of}
use Rattle.pa_record.specs.declared.taken.SuperPage.{SuperPage}
use Rattle.pa_record.specs.declared.pool.PoolEntry.{PoolEntry}
use Rattle.pa_record.specs.declared.root.RootEntry.{RootEntry}
use Rattle.pa_record.specs.declared.root.RootAct.{RootAct}
use Rattle.pa_record.specs.declared.root.RootAct.TheVariants.{Fill, Map, Full, Give, Unmap, Purge}
use Rattle.pa_record.specs.Pool.{act_at}
use Rattle.pa_record.specs.Root.{Root, new_root, takes, opened, opened_by, super_of, names, empties, root_next, root_replayed, RootActFits, RootReplays, RiseFrom, all_asked, asked_by}
use Rattle.pa_record.specs.Sound.{IsSound, IsSettled, IsBornBelow, AsksFrom, least_after, IsMapBy}
use Rattle.pa_record.specs.Laws.{TitlesAreAsked}
use Rattle.pa_lists.proofs.Members.{not_in_none, first_in, in_cases}
use Rattle.pa_record.proofs.Filling.{takes_filled, opened_sound}
use Rattle.pa_record.proofs.Returning.{all_returned_is, times_is}
use Rattle.pa_record.proofs.Mapping.{born_more}
use Rattle.pa_record.proofs.Stepping.{next_is}
use Rattle.pa_record.proofs.Titles.{new_sound, new_born, rise_parts, made_born, journal_replayed}

-- each super page of the root was taken by one of these entries
abbrev HasAsked : List ℕ → Root → Type 0
HasAsked xs r = (at : SuperPage) → Contains r.supers at → Contains xs at.born

fill_asked : (pools : List PoolEntry) (class n : ℕ) (asked : Option ℕ) (r : Root) (xs : List ℕ) → IsSound r → IsBornBelow n r →
    AsksFrom n asked → class < 170 → HasAsked xs r →
    HasAsked (xs ++ cons_option asked []) (takes class (fill_of class) (opened_by pools asked r)).root
fill_asked pools class n None r xs sound old asks real h at member =
    Contains-append_left xs [] at.born (h at (subst (λ ys. Contains ys at) (takes_filled class (fill_of class) r sound real).supers member))
fill_asked pools class n (Some j) r xs sound old asks real h at member =
    let number = super_of (act_at pools j) in
    let new : SuperPage = record { number = number; born = j } in
    let f = takes_filled class (fill_of class) (opened number j r) (opened_sound number j r sound (born_more n j r asks old)) real in
    elim (Contains-push_cases r.supers new at (subst (λ ys. Contains ys at) f.supers member)) [
      | inl before ↦ Contains-append_left xs (j ∷ []) at.born (h at before)
      | inr e ↦ Contains-append_right xs (j ∷ []) at.born
          (subst (λ k. Contains (j ∷ []) k) (ap (λ (x : SuperPage). x.born) e) (first_in j []))
    ]

next_asked : (pools : List PoolEntry) (act : RootAct) (n : ℕ) (r : Root) (xs : List ℕ) → IsSound r → IsSettled r → IsBornBelow n r →
    AsksFrom n (asked_by act) → RootActFits pools act r →
    HasAsked xs r → HasAsked (xs ++ cons_option (asked_by act) []) (root_next pools act r)
next_asked pools (Fill class asked slots) n r xs sound few old asks fits h at member =
    fill_asked pools class n asked r xs sound old asks fits.0 h at member
next_asked pools (Map asked slot len) n r xs sound few old asks fits h at member =
    Contains-append_left xs (asked ∷ []) at.born (h at member)
next_asked pools (Full class asked) n r xs sound few old asks fits h at member = Contains-append_left xs (asked ∷ []) at.born (h at member)
next_asked pools (Give slots) n r xs sound few old asks fits h at member =
    Contains-append_left xs [] at.born
    (h at (subst (λ ys. Contains ys at) (all_returned_is (names slots) r sound fits.0 fits.1).kept.supers member))
next_asked pools (Unmap asked slot) n r xs sound few old asks fits h at member = Contains-append_left xs (asked ∷ []) at.born (h at member)
next_asked pools Purge n r xs sound few old asks fits h at member =
    Contains-append_left xs [] at.born (h at (subst (λ ys. Contains ys at) (times_is (empties r) r sound).kept.supers member))

cons_parts : (o : Option ℕ) (xs rest : List ℕ) → (xs ++ cons_option o []) ++ rest ≡ xs ++ cons_option o rest
cons_parts None xs rest = ap (λ ys. ys ++ rest) (append-nil xs)
cons_parts (Some j) xs rest = append_assoc xs (j ∷ []) rest

-- the root's super pages after some entries
all_supers : (pools : List PoolEntry) (es : List RootEntry) (n : ℕ) (r : Root) (xs : List ℕ) → IsSound r → IsSettled r → IsBornBelow n r →
    RootReplays pools es r →
    RiseFrom n (all_asked es) → HasAsked xs r → HasAsked (xs ++ all_asked es) (root_replayed pools es r)
all_supers pools [] n r xs sound few old fits rise h = subst (λ ys. HasAsked ys r) (sym (append-nil xs)) h
all_supers pools (e ∷ es) n r xs sound few old fits rise h =
    let (asks, rest) = rise_parts n (asked_by e.act) (all_asked es) rise in
    let next = next_is pools e.act n r sound few old asks fits.0 in
    let after = root_next pools e.act r in
    let ys = xs ++ cons_option (asked_by e.act) [] in
    subst (λ zs. HasAsked zs (root_replayed pools es after)) (cons_parts (asked_by e.act) xs (all_asked es))
    (all_supers pools es (least_after n (asked_by e.act)) after ys next.sound next.settled next.born fits.1 rest
    (next_asked pools e.act n r xs sound few old asks fits.0 h))

-- an entry that names it
abbrev HasNamer : List RootEntry → ℕ → Type 0
HasNamer es j = (i : ℕ) × (e : RootEntry) × (slice_get es i ≡ Some e) × (asked_by e.act ≡ Some j)

namer_by : (es : List RootEntry) (e : RootEntry) (j : ℕ) (o : Option ℕ) → asked_by e.act ≡ o → (Contains (all_asked es) j → HasNamer es j) →
    Contains (cons_option o (all_asked es)) j → HasNamer (e ∷ es) j
namer_by es e j None is further m = let (i, f, at, named) = further m in (suc i, f, at, named)
namer_by es e j (Some k) is further m = elim (in_cases k j (all_asked es) m) [
  | inl same ↦ (0, e, refl, is ∙ ap Some same)
  | inr rest ↦ let (i, f, at, named) = further rest in (suc i, f, at, named)
]

namer : (es : List RootEntry) (j : ℕ) → Contains (all_asked es) j → HasNamer es j
namer [] j among = absurd (not_in_none j among)
namer (e ∷ es) j among = namer_by es e j (asked_by e.act) refl (λ rest. namer es j rest) among

-- the entry that mapped a title names its entry of the pool
map_namer : (pools : List PoolEntry) (es : List RootEntry) (r : Root) (t : Title) → RootReplays pools es r → IsMapBy es t →
    HasNamer es t.born
map_namer pools [] r t fits (e, asked, len, slot, among, act, is) = absurd (not_in_none e among)
map_namer pools (f ∷ es) r t fits (e, asked, len, slot, among, act, is) = elim (in_cases f e es among) [
  | inl same ↦
      let here : f.act ≡ Map asked slot len = ap (λ (z : RootEntry). z.act) same ∙ act in
      let fit : RootActFits pools (Map asked slot len) r = subst (λ a. RootActFits pools a r) here fits.0 in
      (0, f, refl, ap asked_by here ∙ ap Some (sym fit.3 ∙ ap (λ (z : Title). z.born) (sym is)))
  | inr rest ↦
      let (i, g, at, named) = map_namer pools es (root_next pools f.act r) t fits.1 (e, asked, len, slot, rest, act, is) in
      (suc i, g, at, named)
]

pub titles_are_asked : TitlesAreAsked
titles_are_asked pools journal t h (inl made) =
    let root = root_replayed pools journal new_root in
    let r = journal_replayed pools journal h.replays h.rise in
    let supers = all_supers pools journal 0 new_root [] new_sound (omega arith) new_born h.replays h.rise
    (λ at member. absurd (not_in_none at member)) in
    let (at, member, born) = made_born root t r.sound made in
    namer journal t.born (subst (λ k. Contains (all_asked journal) k) (sym born) (supers at member))
titles_are_asked pools journal t h (inr mapped) = map_namer pools journal new_root t h.replays mapped
