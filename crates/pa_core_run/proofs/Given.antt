-- Entries that give slots back to the roots, and purges: they make nothing and unmap nothing, and what isn't out any more is what they
-- gave back.
use Rattle.std.proofs.Common.{◌≡◌, ℕ, zero, suc, ◌+◌, ◌<◌, List, [], ◌∷◌, ◌++◌, map, length, drop, refl, sym, ◌∙◌, subst, arith, ◌⊎◌, inl, inr}
use Rattle.std.specs.Prelude.{Contains}
use Rattle.std.proofs.lemmas.Bool.{cases_eq}
use Rattle.pa_slot.specs.declared.word.SlotName.{SlotName}
use Rattle.pa_slot.specs.declared.title.Title.{Title}
use Rattle.pa_record.specs.declared.numbered.Numbered.{Numbered}
use Rattle.pa_record.specs.declared.pool.PoolEntry.{PoolEntry}
use Rattle.pa_record.specs.declared.root.RootEntry.{RootEntry}
use Rattle.pa_record.specs.declared.root.RootAct.{RootAct}
use Rattle.pa_record.specs.declared.root.RootAct.TheVariants.{Fill, Map, Full, Give, Unmap, Purge}
use Rattle.pa_record.specs.Spans.{name_of}
use Rattle.pa_record.specs.Root.{Root, RootActFits, RootReplays, empties, names, root_next, IsOut}
use Rattle.pa_record.specs.Sound.{IsSound, IsMade}
use Rattle.pa_record.specs.Laws.{IsNameOut}
use Rattle.pa_record.proofs.Lawful.{journal_leaves}
use Rattle.pa_record.proofs.MakingNone.{all_returned_make_none, times_make_none}
use Rattle.pa_record.proofs.Returning.{all_returned_is, times_is}
use Rattle.pa_heap_effects.specs.Deeds.{root_after}
use Rattle.pa_heap_effects.specs.Shared.{IsThere}
use Rattle.pa_rules.specs.declared.played.Played.{Played}
use Rattle.pa_rules.specs.Caches.{acts_of, batches, gives, purge_acts}
use Rattle.pa_rules.specs.Flow.{back_in}
use Rattle.pa_rules.proofs.Counted.{back_append}
use Rattle.pa_rules.proofs.Totals.{times_in}
use Rattle.pa_one_run.specs.Parts.{Parts, entry_line}
use Rattle.pa_one_run.specs.Before.{on, root_at}
use Rattle.pa_one_run.proofs.Filed.{IsFiled}
use Rattle.pa_one_run.proofs.roots.Replays.{front_journal, line_replays}
use Rattle.pa_core_run.specs.Standing.{Standing}
use Rattle.pa_core_run.specs.Fronts.{ThereIn, KeptIn, IsFrontOf}
use Rattle.pa_core_run.proofs.NextFronts.{root_line}
use Rattle.pa_record.proofs.Leaving.{slot_out, name_cases}

-- ---- one root

-- these acts are gives and purges
abbrev IsGiving : RootAct → Type 0
IsGiving (Fill class asked slots) = ⊥
IsGiving (Map asked slot len) = ⊥
IsGiving (Full class asked) = ⊥
IsGiving (Give slots) = Unit {0}
IsGiving (Unmap asked slot) = ⊥
IsGiving Purge = Unit {0}

abbrev pub AreGiving : List RootAct → Type 0
AreGiving [] = Unit {0}
AreGiving (act ∷ acts) = IsGiving act × AreGiving acts

giving_both : (xs ys : List RootAct) → AreGiving xs → AreGiving ys → AreGiving (xs ++ ys)
giving_both [] ys h k = k
giving_both (x ∷ xs) ys h k = (h.0, giving_both xs ys h.1 k)

giving_batches : (n : ℕ) (xs : List Numbered) → AreGiving (batches n xs)
giving_batches zero xs = tt
giving_batches (suc n) [] = tt
giving_batches (suc n) (x ∷ xs) = (tt, giving_batches n (drop 16 (x ∷ xs)))

pub giving_gives : (xs : List Numbered) → AreGiving (gives xs)
giving_gives xs = giving_batches (length xs) xs

pub giving_purge : (lists : ℕ → List Numbered) (class n : ℕ) → AreGiving (purge_acts lists class n)
giving_purge lists class zero = (tt, tt)
giving_purge lists class (suc n) =
    giving_both (gives (lists class)) (purge_acts lists (class + 1) n) (giving_gives (lists class)) (giving_purge lists (class + 1) n)

-- each act fits the root after those before it
abbrev pub FitAfter : List PoolEntry → List RootAct → Root → Type 0
FitAfter pools [] r = Unit {0}
FitAfter pools (act ∷ acts) r = RootActFits pools act r × FitAfter pools acts (root_next pools act r)

replays_fit : (pools : List PoolEntry) (es : List RootEntry) (r : Root) → RootReplays pools es r →
    FitAfter pools (map (λ (e : RootEntry). e.act) es) r
replays_fit pools [] r fits = tt
replays_fit pools (e ∷ es) r fits = (fits.0, replays_fit pools es (root_next pools e.act r) fits.1)

-- What such acts leave of a root: it is sound, has the direct maps and the slots that it had, and what was out and didn't come back by
-- them still is.
pub record GivesBack (acts : List RootAct) (r after : Root) : Type 0 where
  pub sound : IsSound after
  pub maps : after.maps ≡ r.maps
  pub keeps : (t : Title) → IsMade r t → IsMade after t
  pub makes_none : (t : Title) → IsMade after t → IsMade r t
  pub stays : (name : SlotName) → back_in name acts ≡ 0 → IsOut r name → IsOut after name

back_then : (xs ys : List RootAct) (r mid after : Root) → GivesBack xs r mid → GivesBack ys mid after → GivesBack (xs ++ ys) r after
back_then xs ys r mid after a b = record {
  sound = b.sound;
  maps = b.maps ∙ a.maps;
  keeps = λ t made. b.keeps t (a.keeps t made);
  makes_none = λ t made. a.makes_none t (b.makes_none t made);
  stays = λ name none out. let both = back_append name xs ys in b.stays name (omega arith) (a.stays name (omega arith) out);
}

one_gives : (pools : List PoolEntry) (act : RootAct) (r : Root) → IsSound r → IsGiving act → RootActFits pools act r →
    GivesBack (act ∷ []) r (root_next pools act r)
one_gives pools (Fill class asked slots) r sound giving fits = absurd giving
one_gives pools (Map asked slot len) r sound giving fits = absurd giving
one_gives pools (Full class asked) r sound giving fits = absurd giving
one_gives pools (Unmap asked slot) r sound giving fits = absurd giving
one_gives pools (Give slots) r sound giving fits =
    let back = all_returned_is (names slots) r sound fits.0 fits.1 in
    record {
      sound = back.kept.sound;
      maps = back.kept.maps;
      keeps = back.kept.keeps;
      makes_none = λ t made. all_returned_make_none (names slots) r t sound fits.0 fits.1 made;
      stays = λ name none out. back.stays name (λ among. let one = times_in name (names slots) fits.1 among in omega arith) out;
    }
one_gives pools Purge r sound giving fits =
    let times = times_is (empties r) r sound in
    record {
      sound = times.kept.sound;
      maps = times.kept.maps;
      keeps = times.kept.keeps;
      makes_none = λ t made. times_make_none (empties r) r t sound made;
      stays = λ name none out. times.stays name out;
    }

pub gives_back : (pools : List PoolEntry) (acts : List RootAct) (r : Root) → IsSound r → AreGiving acts → FitAfter pools acts r →
    GivesBack acts r (root_after pools acts r)
gives_back pools [] r sound giving fits =
    record { sound = sound; maps = refl; keeps = λ t made. made; makes_none = λ t made. made; stays = λ name none out. out }
gives_back pools (act ∷ acts) r sound giving fits =
    let first = one_gives pools act r sound giving.0 fits.0 in
    back_then (act ∷ []) acts r (root_next pools act r) (root_after pools acts (root_next pools act r)) first
    (gives_back pools acts (root_next pools act r) first.sound giving.1 fits.1)

module _ (acts : List RootAct) (r after : Root) (back : GivesBack acts r after) where
  name_stays : (name : SlotName) → back_in name acts ≡ 0 → IsNameOut r name → IsNameOut after name
  name_stays name none out = elim (name_cases r name out) [
    | inl slot ↦ slot_out after name (back.stays name none slot)
    | inr (t, mapped, same) ↦ (t, inr (subst (λ ts. Contains ts t) (sym back.maps) mapped), same)
  ]

  there_stays : (t : Title) → IsThere r t → IsThere after t
  there_stays t there = elim there [
    | inl made ↦ inl (back.keeps t made)
    | inr mapped ↦
        inr (subst (λ ts. Contains ts t) (sym back.maps) mapped)
  ]

  -- what is in the root after them was in it, or came back by them
  was_kept : (t : Title) → IsMade after t → (IsNameOut after (name_of t) → ⊥) → (IsMade r t × (IsNameOut r (name_of t) → ⊥)) ⊎
      (0 < back_in (name_of t) acts)
  was_kept t made away = elim (cases_eq (back_in (name_of t) acts) 0) [
    | inl none ↦ inl (back.makes_none t made, λ out. away (name_stays (name_of t) none out))
    | inr some ↦ inr (omega arith)
  ]

-- ---- the roots of a line

module _ (a : Parts) (before rest : List Played) (x : Played) (h : IsFiled a) (parts : a.ps ≡ before ++ x ∷ rest) (st : Standing)
    (f : IsFrontOf a x.line before (x ∷ rest) st)
    (giving : (p : ℕ) → AreGiving (acts_of a.roots x.line p)) where
  line_gives_back : (p : ℕ) → GivesBack (acts_of a.roots x.line p) (root_at a x.line p) (root_at a (x.line + 1) p)
  line_gives_back p =
      let sound = (journal_leaves a.pools _ (front_journal a x.line p h)).sound in
      let fits = replays_fit a.pools (on entry_line x.line (a.roots p)) (root_at a x.line p) (line_replays a x.line p h) in
      subst (λ (r : Root). GivesBack (acts_of a.roots x.line p) (root_at a x.line p) r) (sym (root_line a before rest x h parts st f p))
      (gives_back a.pools (acts_of a.roots x.line p) (root_at a x.line p) sound (giving p) fits)

  -- what is there stays, and what the roots have then they had, or it came back by the line's entries
  pub there_given : (u : Title) → ThereIn (root_at a x.line) u → ThereIn (root_at a (x.line + 1)) u
  there_given u (p, there) =
      (p, there_stays (acts_of a.roots x.line p) (root_at a x.line p) (root_at a (x.line + 1) p) (line_gives_back p) u there)

  pub kept_given : (u : Title) → KeptIn (root_at a (x.line + 1)) u → KeptIn (root_at a x.line) u
      ⊎ ((p : ℕ) × IsMade (root_at a (x.line + 1) p) u × (0 < back_in (name_of u) (acts_of a.roots x.line p)))
  kept_given u (p, made, away) =
      elim (was_kept (acts_of a.roots x.line p) (root_at a x.line p) (root_at a (x.line + 1) p) (line_gives_back p) u made away) [
        | inl old ↦ inl (p, old.0, old.1)
        | inr back ↦ inr (p, made, back)
      ]
