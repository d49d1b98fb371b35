-- What the type of a root keeps, from call to call.
use Rattle.std.proofs.Common.{◌≡◌, ℕ, ◌*◌, ◌≤◌, inl, inr, List, [], ◌∷◌, ◌++◌, length, sym, ◌∙◌, ap, subst, arith}
use Rattle.std.proofs.lemmas.List.Elements.{Contains-append_cases}
use Rattle.pa_lists.proofs.Elements.{length_map}
use Rattle.pa_lists.proofs.Members.{not_in_none, in_cases}
use Rattle.pa_region.specs.declared.view.Made.{Made}
use Rattle.pa_region.specs.declared.view.View.{View}
use Rattle.pa_region.specs.Lists.{list_of}
use Rattle.pa_record.specs.declared.root.RootEntry.{RootEntry}
use Rattle.pa_record.specs.Numbers.{root_numbers}
use Rattle.pa_record.specs.Root.{Root, new_root}
use Rattle.pa_record.specs.Sound.{IsSound, IsSettled, HasBatch}
use Rattle.pa_record.specs.Laws.{IsUsed}
use Rattle.pa_record.proofs.Lawful.{journal_leaves}
use Rattle.pa_record.proofs.Used.{spans_are_used}
use Rattle.pa_shelf.specs.Shelves.{ShelfParts, no_shelf, ShowsRoot}
use Rattle.pa_shelf.proofs.Settling.{empties_are}
use Rattle.pa_shelf.proofs.Starting.{no_shelf_is_new}
use Rattle.pa_root.specs.Reading.{pools_seen}
use Rattle.pa_root.specs.Keeping.{IsRootSound}
use Rattle.pa_root.specs.Laws.{HaveBatches, IsFirstView}
use Rattle.pa_root.specs.Kept.{root_of, state_of, IsKept}
use Rattle.pa_root.proofs.Starting.{first_is_sound}
use Rattle.pa_root.proofs.Turning.{turns_are_few}

-- a root with an entry more has what its journal replays to
pub settle : (p : ℕ) (v : View) (journal : List RootEntry) (r : Root) → IsRootSound p (record { view = v; journal = journal; root = r }) →
    IsRootSound p (state_of v journal)
settle p v journal r sound = subst (λ z. IsRootSound p (record { view = v; journal = journal; root = z })) sound.journal.replayed sound

batches_more : (journal : List RootEntry) (e : RootEntry) → HaveBatches journal → HasBatch e.act → HaveBatches (journal ++ e ∷ [])
batches_more journal e batches few f among = elim (Contains-append_cases journal (e ∷ []) f among) [
  | inl old ↦ batches f old
  | inr new ↦ elim (in_cases e f [] new) [
    | inl is ↦ subst (λ (z : RootEntry). HasBatch z.act) is few
    | inr none ↦ absurd (not_in_none f none)
  ]
]

-- a root is kept with one entry more
pub kept_with : (p : ℕ) (v x : View) (journal : List RootEntry) (e : RootEntry) (l m : ShelfParts) (r : Root) → IsKept p v journal l →
    HasBatch e.act →
    IsRootSound p (record { view = x; journal = journal ++ e ∷ []; root = r }) → ShowsRoot x m r → IsKept p x (journal ++ e ∷ []) m
kept_with p v x journal e l m r kept few sound shown = record {
  sound = settle p x (journal ++ e ∷ []) r sound;
  batches = batches_more journal e kept.batches few;
  shown = subst (λ z. ShowsRoot x m z) sound.journal.replayed shown;
}

-- a root is kept with another view of its seat
pub kept_in : (p : ℕ) (v x : View) (journal : List RootEntry) (l m : ShelfParts) → IsKept p v journal l →
    IsRootSound p (record { view = x; journal = journal; root = root_of v journal }) → ShowsRoot x m (root_of v journal) →
    IsKept p x journal m
kept_in p v x journal l m kept sound shown = record {
  sound = settle p x journal (root_of v journal) sound;
  batches = kept.batches;
  shown = subst (λ z. ShowsRoot x m z) sound.journal.replayed shown;
}

-- ---- what is known of a root that is kept

module _ (p : ℕ) (v : View) (journal : List RootEntry) (l : ShelfParts) (kept : IsKept p v journal l) where
  pub kept_good : IsSound (root_of v journal)
  kept_good = (journal_leaves (pools_seen v) journal kept.sound.journal.fits).sound

  pub kept_settled : IsSettled (root_of v journal)
  kept_settled = (journal_leaves (pools_seen v) journal kept.sound.journal.fits).settled

  pub kept_used : IsUsed (root_of v journal)
  kept_used = spans_are_used.journal (pools_seen v) journal kept.sound.journal.fits

  pub kept_few : length l.lists.ring ≤ 16
  kept_few = let many = empties_are v l (root_of v journal) kept.shown.kept in let few = kept_settled in omega arith

  pub kept_listed : length (list_of p v) ≡ length journal
  kept_listed =
      sym (length_map (λ (m : Made). m.numbers) (list_of p v)) ∙ (ap length kept.sound.journal.listed ∙ length_map root_numbers journal)

  pub kept_turn : l.lists.turn ≤ 32 * length journal
  kept_turn = let few = turns_are_few p (state_of v journal) kept.sound kept.batches in let same = kept.shown.kept.turn in omega arith

-- ---- at the start

pub kept_first : (p : ℕ) (v : View) (l : ShelfParts) → IsFirstView p v → l ≡ no_shelf → IsKept p v [] l
kept_first p v l first is = record {
  sound = first_is_sound p v first;
  batches = λ e among. absurd (not_in_none e among);
  shown = subst (λ z. ShowsRoot v z new_root) (sym is) (no_shelf_is_new v);
}
