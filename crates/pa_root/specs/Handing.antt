-- What the calls of a root give and take: notes that hold titles, each at its number, and the entries that say so.
use Rattle.std.specs.Prelude.{◌≡◌, ◌≢◌, ◌↔◌, ℕ, ◌+◌, ◌<◌, ◌≤◌, List, [], ◌∷◌, length, map, Option, Some, None, All, AllPairs, Contains}
use Rattle.pa_slot.specs.declared.title.Title.{Title}
use Rattle.pa_slot.specs.Holdings.{RawByte}
use Rattle.pa_layout.specs.Pages.{supers_for}
use Rattle.pa_buckets.specs.Table.{slot_of}
use Rattle.pa_region.specs.declared.view.Entry.TheVariants.{Uncut}
use Rattle.pa_region.specs.declared.view.View.{View}
use Rattle.pa_region.specs.Views.{held_of_view, free_of, own_of, ref_of, stake_of, seen_of}
use Rattle.pa_region.specs.Lists.{keeper_of, lease_of, list_of}
use Rattle.pa_record.specs.declared.numbered.Numbered.{Numbered}
use Rattle.pa_record.specs.declared.root.RootEntry.{RootEntry}
use Rattle.pa_record.specs.declared.root.RootAct.{RootAct}
use Rattle.pa_record.specs.declared.root.RootAct.TheVariants.{Fill, Map, Full, Give, Unmap, Purge}
use Rattle.pa_record.specs.Numbers.{root_numbers}
use Rattle.pa_record.specs.Spans.{name_of}
use Rattle.pa_pool.specs.Calls.{take_entry, give_entry}
use Rattle.pa_root.specs.Making.{EntersOne, EntersTwo}

-- A note that holds exactly these titles free, and nothing else.
pub record HasOnly (titles : List Title) (v : View) : Type 0 where
  pub frees : (t : Title) → (0 < free_of v t) ↔ Contains titles t
  pub handles : (t : Title) → own_of v t + ref_of v t ≡ 0
  pub raws : (b : ℕ) → held_of_view v (RawByte b) ≡ 0
  pub budget : v.budget ≡ 0
  pub stakes : (k : ℕ) → stake_of v k ≡ 0
  pub keepers : (k : ℕ) → keeper_of v k ≡ 0
  pub leases : (n : ℕ) → lease_of v n ≡ 0

-- a title with the step number that a seat has seen of it
abbrev pub at_number_seen : View → Title → Numbered
at_number_seen v t = record { slot = name_of t; number = seen_of v t }

-- titles, each with that number
abbrev pub numbered_by : View → List Title → List Numbered
numbered_by v titles = map (at_number_seen v) titles

-- an entry of a line
abbrev pub root_entry : ℕ → RootAct → RootEntry
root_entry line act = record { line = line; act = act }

-- An entry of the root's journal that names one of the pool, or none, was made for the seat: the pool's entry comes before it.
-- It has index j in the journal, and says what `act` makes of the pool's index.
abbrev pub EntersFor : (j r p line : ℕ) → Option ℕ → Option ℕ → RootAct → View → View → Type 0
EntersFor j r p line None found act v after = EntersOne j r p (root_entry line act) v after
EntersFor j r p line (Some asked) found act v after =
    EntersTwo asked j r p [] (take_entry line p 1 found) (root_entry line act) v after

-- A fill of a class gave these titles in a note: at least one and at most as many as were wanted, each once and of the class's slot
-- size. The entry made for it names them, each at the number that the note has seen. It asked the pool if it had to.
pub record FillGives (r p line class want : ℕ) (v after note : View) (titles : List Title) : Type 0 where
  pub some : 1 ≤ length titles
  pub few : length titles ≤ want
  pub long : All (λ (t : Title). t.len ≡ slot_of class) titles
  pub differ : AllPairs ◌≢◌ titles
  pub has : HasOnly titles note
  pub index : ℕ
  pub asked : Option ℕ
  pub first : ℕ
  pub enters : EntersFor index r p line asked (Some first) (Fill class asked (numbered_by note titles)) v after

-- A fill or a direct map found no room: entry j of the journal says so, and names the pool's, which found none.
pub record IsFullFor (j r p line count : ℕ) (class : Option ℕ) (v after : View) : Type 0 where
  pub asked : ℕ
  pub enters : EntersTwo asked j r p [] (take_entry line p count None) (root_entry line (Full class asked)) v after

-- In the region r the root of partition p made a direct map of this many bytes, and the note has its title, which no step has changed.
pub record MapGives (r p line len : ℕ) (v after note : View) (title : Title) : Type 0 where
  pub long : title.len ≡ len
  pub has : HasOnly (title ∷ []) note
  pub number : seen_of note title ≡ 0
  pub index : ℕ
  pub first : ℕ
  pub enters : EntersTwo title.born index r p [] (take_entry line p (supers_for len) (Some first))
      (root_entry line (Map title.born (name_of title) len)) v after

-- the titles of the note came back, each at the number that it had seen
abbrev pub GiveTakes : (r p line : ℕ) (v after note : View) (titles : List Title) → Type 0
GiveTakes r p line v after note titles =
    (j : ℕ) × EntersOne j r p (root_entry line (Give (numbered_by note titles))) v after

-- A direct map came back at the number that the note had seen: it was uncut, and its super pages went to the pool.
pub record UnmapTakes (r p line : ℕ) (v after note : View) (title : Title) : Type 0 where
  pub index : ℕ
  pub asked : ℕ
  pub first : ℕ
  pub enters : EntersTwo asked index r p (Uncut title ∷ []) (give_entry line p (supers_for title.len) first)
      (root_entry line (Unmap asked (at_number_seen note title))) v after

-- the empty spans were decommitted
abbrev pub PurgeEnters : (r p line : ℕ) (v after : View) → Type 0
PurgeEnters r p line v after = (j : ℕ) × EntersOne j r p (root_entry line Purge) v after

-- What a call requires of its caller's seat for a slot that comes back. The seat has seen an entry of the root's list, a fill that
-- names the title and has a class with the title's length as slot size.
abbrev pub HasSeenFill : ℕ → View → Title → Type 0
HasSeenFill p v t =
    (line class : ℕ) × (asked : Option ℕ) × (slots : List Numbered) × (n : Numbered) × (t.len ≡ slot_of class) × Contains slots n
    × (n.slot ≡ name_of t) × Contains (map (λ m. m.numbers) (list_of p v)) (root_numbers (root_entry line (Fill class asked slots)))

-- the seat has seen an entry of the list of root p that maps this title, with its name and its length
abbrev pub HasSeenMap : ℕ → View → Title → Type 0
HasSeenMap p v t =
    (line asked : ℕ) × Contains (map (λ m. m.numbers) (list_of p v)) (root_numbers (root_entry line (Map asked (name_of t) t.len)))
