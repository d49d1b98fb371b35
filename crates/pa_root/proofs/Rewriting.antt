-- If only words of a seat's view are others, a root stays sound, and stays ready for a fill.
use Rattle.std.proofs.Common.{ℕ, [], Option, sym, subst}
use Rattle.std.proofs.lemmas.List.{append-nil}
use Rattle.pa_layout.specs.Pages.{supers_for}
use Rattle.pa_region.specs.Lists.{list_of}
use Rattle.pa_pool.proofs.Gave.{seen_stays}
use Rattle.pa_region.specs.declared.view.View.{View}
use Rattle.pa_region.specs.Aware.{IsAware}
use Rattle.pa_shelf.specs.Moving.{Rewritten}
use Rattle.pa_record.specs.Root.{Root}
use Rattle.pa_root.specs.Keeping.{RootState, HasJournal, HoldsMade, KnowsNumbers, HasRest, KeepsLeases, KnowsMaps, IsRootSound}
use Rattle.pa_root.specs.Laws.{with_view, RewritingKeeps}
use Rattle.pa_root.specs.Filling.{HasSlots, IsReadyFor, ready_root}

-- the view with other words
abbrev other_words : View → View → View
other_words v x = record v { words = x.words; since = record v.since { stored = x.since.stored } }

pub rewriting_keeps : RewritingKeeps
rewriting_keeps p s x sound wrote =
    let y = other_words s.view x in
    let j = sound.journal in let t = sound.titles in let n = sound.numbers in let m = sound.maps in
    let journal : HasJournal p (with_view y s) =
    record { partition = j.partition; hosts = j.hosts; listed = j.listed; fits = j.fits; replayed = j.replayed } in
    let titles : HoldsMade (with_view y s) =
    record { has = t.has; made = t.made; with_root = t.with_root; unused = t.unused; budget = t.budget } in
    let numbers : KnowsNumbers (with_view y s) = record { numbered = n.numbered; known = n.known } in
    let rest : HasRest (with_view y s) = record { raw = sound.rest.raw; one = sound.rest.one } in
    let leases : KeepsLeases (with_view y s) = record { supers = sound.leases.supers; maps = sound.leases.maps } in
    let maps : KnowsMaps p (with_view y s) = record {
      mapped = m.mapped;
      taken = λ t among. let (first, start, seen) = m.taken t among in
          (first, start, seen_stays p t.born first (supers_for t.len) s.view y ([], sym (append-nil (list_of 4 s.view))) seen);
    } in
    subst (λ (z : View). IsRootSound p (with_view z s)) (sym wrote.rest)
    (record { journal = journal; titles = titles; numbers = numbers; rest = rest; leases = leases; maps = maps })

slots_with : (s : RootState) (r : Root) (u x : View) → HasSlots (record { view = u; journal = s.journal; root = r }) →
    HasSlots (record { view = other_words u x; journal = s.journal; root = r })
slots_with s r u x h = let t = h.titles in record {
  titles = record { has = t.has; made = t.made; with_root = t.with_root; unused = t.unused; budget = t.budget };
  numbers = record { numbered = h.numbers.numbered; known = h.numbers.known };
  rest = record { raw = h.rest.raw; one = h.rest.one };
  leases = record { supers = h.leases.supers; maps = h.leases.maps };
}

pub ready_rewritten : (p class : ℕ) (asked : Option ℕ) (s : RootState) (u x : View) → IsReadyFor p class asked s u → Rewritten u x →
    IsAware x →
    IsReadyFor p class asked s x
ready_rewritten p class asked s u x ready wrote aware =
    let y = other_words u x in
    subst (λ (z : View). IsAware z → IsReadyFor p class asked s z) (sym wrote.rest) (λ known. record {
      sound = ready.sound;
      aware = known;
      hosts = ready.hosts;
      own_list = ready.own_list;
      pool_list = ready.pool_list;
      undone = ready.undone;
      slots = slots_with s (ready_root asked s u) u x ready.slots;
      class_is = ready.class_is;
      asked_if = ready.asked_if;
      later = ready.later;
    }) aware
