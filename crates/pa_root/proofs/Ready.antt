-- A root that is ready for a fill: with the super page that the pool gave for it, or as it was.
use Rattle.std.proofs.Common.{◌≡◌, ℕ, ◌<◌, ◌≤◌, List, [], Option, Some, None, length, refl, sym, ap, subst, arith, ◌⊎◌, inl, inr}
use Rattle.std.specs.Prelude.{Contains, IsSome, IsNone}
use Rattle.std.proofs.lemmas.List.{append-nil, length-map}
use Rattle.pa_region.specs.declared.view.Made.{Made}
use Rattle.pa_region.specs.declared.view.View.{View}
use Rattle.pa_region.specs.Lists.{list_of}
use Rattle.pa_region.specs.Hands.{united}
use Rattle.pa_region.specs.Aware.{IsAware}
use Rattle.pa_region.proofs.JoinStep.{united_parts}
use Rattle.pa_region.proofs.TakeLaws.{left_begins, left_whole}
use Rattle.pa_slot.specs.declared.title.Title.{Title}
use Rattle.pa_slot.specs.declared.word.SlotName.{SlotName}
use Rattle.pa_record.specs.declared.taken.SuperPage.{SuperPage}
use Rattle.pa_record.specs.declared.pool.PoolEntry.{PoolEntry}
use Rattle.pa_record.specs.Pool.{act_at, FoundRun}
use Rattle.pa_record.specs.Spans.{name_of, title_at}
use Rattle.pa_record.specs.Root.{Root, opened, opened_by, span_for, super_of, IsOut}
use Rattle.pa_record.specs.Sound.{IsSound, IsBornBelow, IsMade, AsksFrom, least_after_all}
use Rattle.pa_record.proofs.Lawful.{journal_leaves}
use Rattle.pa_record.proofs.Calling.{calls_fit}
use Rattle.pa_record.proofs.Mapping.{born_more}
use Rattle.pa_record.proofs.Filling.{opened_sound}
use Rattle.pa_root.specs.Keeping.{RootState, HasJournal, IsRootSound}
use Rattle.pa_root.specs.Filling.{HasSlots, CanTakePage, IsReadyFor, RootsAreReady}
use Rattle.pa_root.specs.Reading.{pool_entry_read, pools_seen}
use Rattle.pa_root.proofs.Opening.{last_is, opening_keeps}

module _ (pools : List PoolEntry) where
  pub made_ready : (asked : Option ℕ) (r : Root) (t : Title) → IsMade r t → IsMade (opened_by pools asked r) t
  made_ready None r t made = made
  made_ready (Some j) r t made = made

  pub made_before : (asked : Option ℕ) (r : Root) (t : Title) → IsMade (opened_by pools asked r) t → IsMade r t
  made_before None r t made = made
  made_before (Some j) r t made = made

  pub supers_ready : (n : ℕ) (asked : Option ℕ) (r : Root) (at : SuperPage) → AsksFrom n asked →
      Contains (opened_by pools asked r).supers at →
      Contains r.supers at ⊎ (n ≤ at.born)
  supers_ready n None r at later among = inl among
  supers_ready n (Some j) r at later among = elim (last_is r (super_of (act_at pools j)) j at among) [
    | inl old ↦ inl old
    | inr new ↦ let e = new.1 in inr (omega arith)
  ]

  pub maps_ready : (asked : Option ℕ) (r : Root) → (opened_by pools asked r).maps ≡ r.maps
  maps_ready None r = refl
  maps_ready (Some j) r = refl

  pub sound_ready : (n : ℕ) (asked : Option ℕ) (r : Root) → IsSound r → IsBornBelow n r → AsksFrom n asked →
      IsSound (opened_by pools asked r)
  sound_ready n None r sound old later = sound
  sound_ready n (Some j) r sound old later = opened_sound (super_of (act_at pools j)) j r sound (born_more n j r later old)

-- a journal's root has super pages by entries that it names
pub root_born : (p : ℕ) (s : RootState) → HasJournal p s → IsBornBelow (least_after_all 0 s.journal) s.root
root_born p s has = subst (λ r. IsBornBelow (least_after_all 0 s.journal) r) (sym has.replayed)
    (journal_leaves (pools_seen s.view) s.journal has.fits).born

-- a slot that is out was made
pub out_was_made : (r : Root) (name : SlotName) → IsSound r → IsOut r name → (u : Title) × IsMade r u × (name_of u ≡ name)
out_was_made r name sound (s, among, n, out) =
    let c = (sound.spans s among).counted in
    let low = out.provisioned in
    let made = c.made in
    (title_at s n, (s, among, n, omega arith, refl), sym out.named)

-- ---- how it becomes ready

as_it_is : (p class : ℕ) (s : RootState) → IsRootSound p s → IsAware s.view → class < 170 → IsSome (span_for class s.root) →
    IsReadyFor p class None s s.view
as_it_is p class s sound aware real some = record {
  sound = sound;
  aware = aware;
  hosts = sound.journal.hosts;
  own_list = refl;
  pool_list = ([], sym (append-nil (list_of 4 s.view)));
  undone = λ t. omega arith;
  slots = record {
    titles = record {
      has = sound.titles.has;
      made = sound.titles.made;
      with_root = sound.titles.with_root;
      unused = sound.titles.unused;
      budget = sound.titles.budget;
    };
    numbers = record { numbered = sound.numbers.numbered; known = sound.numbers.known };
    rest = record { raw = sound.rest.raw; one = sound.rest.one };
    leases = record { supers = sound.leases.supers; maps = sound.leases.maps };
  };
  class_is = real;
  asked_if = some;
  later = tt;
}

-- the entries that a journal names are among those that its seat has seen
pub named_seen : (p : ℕ) (s : RootState) → HasJournal p s → least_after_all 0 s.journal ≤ length (list_of 4 s.view)
named_seen p s has =
    let n = calls_fit.next (pools_seen s.view) s.journal has.fits in
    let e : length (pools_seen s.view) ≡ length (list_of 4 s.view) =
    length-map (list_of 4 s.view) (λ (m : Made). pool_entry_read m.numbers) in
    omega arith

pub super_is : (pools : List PoolEntry) (j number : ℕ) → FoundRun pools j 1 number → super_of (act_at pools j) ≡ number
super_is pools j number found = ap super_of found

with_page : (p class number entry : ℕ) (s : RootState) (w : View) → CanTakePage p number entry s w → class < 170 →
    IsNone (span_for class s.root) →
    FoundRun (pools_seen (united s.view w)) entry 1 number → length (list_of 4 s.view) ≤ entry →
    IsReadyFor p class (Some entry) s (united s.view w)
with_page p class number entry s w can real none found later =
    let (slots, hosts) = opening_keeps p number entry s w can in
    let u = united s.view w in
    record {
      sound = can.sound;
      aware = can.both_aware;
      hosts = hosts;
      own_list = left_whole s.view w p can.aware can.both_aware can.sound.journal.hosts.1;
      pool_list = left_begins s.view w 4 can.both_aware;
      undone = λ t. let e = (united_parts s.view w).undone t in omega arith;
      slots = subst (λ n. HasSlots (record { view = u; journal = s.journal; root = opened n entry s.root }))
          (sym (super_is (pools_seen u) entry number found)) slots;
      class_is = real;
      asked_if = (none, number, found);
      later = let n = named_seen p s can.sound.journal in omega arith;
    }

pub roots_are_ready : RootsAreReady
roots_are_ready = record { as_it_is = as_it_is; with_page = with_page }
