-- Slots that are out of a root are handed over: the root is shown as before.
use Rattle.std.proofs.Common.{ℕ, ◌<◌, List, refl, sym, ap, subst, arith}
use Rattle.std.specs.Prelude.{◌≢◌, AllPairs, Contains}
use Rattle.std.proofs.lemmas.List.Elements.{All-contains}
use Rattle.pa_lists.proofs.Joined.{map_cases}
use Rattle.pa_slot.specs.declared.title.Title.{Title}
use Rattle.pa_slot.specs.declared.word.SlotName.{SlotName}
use Rattle.pa_slot.specs.Holdings.{RawByte}
use Rattle.pa_record.specs.Spans.{Span, title_at, name_of}
use Rattle.pa_record.specs.Root.{Root, IsOut}
use Rattle.pa_record.specs.Sound.{IsSound}
use Rattle.pa_record.proofs.Slots.{one_slot}
use Rattle.pa_region.specs.declared.view.View.{View}
use Rattle.pa_region.specs.Views.{free_of}
use Rattle.pa_region.specs.Hands.{left_after, given_after}
use Rattle.pa_region.specs.Aware.{IsAware}
use Rattle.pa_region.proofs.HandStep.{hand_parts}
use Rattle.pa_records.specs.Records.{titles_free}
use Rattle.pa_shelf.specs.Shelves.{ShelfParts, ShowsRoot}
use Rattle.pa_shelf.proofs.Staying.{shown_stays}
use Rattle.pa_root.specs.Filling.{frees_parcel}
use Rattle.pa_root.proofs.Parcels.{can_hand, note_has, keeps_but}

-- a slot in a span's list isn't out
listed_not_out : (r : Root) (s : Span) (n : ℕ) → IsSound r → Contains r.spans s → Contains s.free n → IsOut r (name_of (title_at s n)) → ⊥
listed_not_out r s n sound among listed (y, member, k, out) =
    let c = (sound.spans s among).counted in
    let d = (sound.spans y member).counted in
    let below = c.numbers n listed in let made = c.made in let most = c.most in
    let less = out.provisioned in let made' = d.made in let most' = d.most in
    let one = one_slot r s y n k sound among member (omega arith) (omega arith) (ap (λ (a : SlotName). a.born) out.named)
    (ap (λ (a : SlotName). a.start) out.named) in
    out.out (subst (λ (x : Span). Contains x.free k) one.span (subst (λ i. Contains s.free i) one.number listed))

pub handed_shown : (v : View) (l : ShelfParts) (r : Root) (ts : List Title) → IsSound r → IsAware v → ShowsRoot v l r → AllPairs ◌≢◌ ts →
    ((t : Title) → Contains ts t → 0 < free_of v t) → ((t : Title) → Contains ts t → IsOut r (name_of t)) →
    ShowsRoot (left_after (frees_parcel ts) v) l r
handed_shown v l r ts sound aware shown once free out =
    let w = left_after (frees_parcel ts) v in
    let g = given_after (frees_parcel ts) v in
    let parts = hand_parts (frees_parcel ts) v (can_hand ts v once free) in
    let note = note_has ts v in
    let but = keeps_but ts v once free aware.free_once in
    shown_stays v w l r
    (record {
      words = λ u q payload low high. refl;
      raw = λ u payload raw b low high.
          let before = raw b low high in
          let all = parts.things (RawByte b) in
          let none = note.raws b in
          omega arith;
    })
    (λ s among t inside.
    let (n, listed, is) = map_cases (title_at s) s.free t inside in
    let held = All-contains (λ (x : Title). 0 < free_of v x) (titles_free s) t (shown.chains s among).free inside in
    let same = but.stays t (λ taken. listed_not_out r s n sound among listed
    (subst (λ (x : Title). IsOut r (name_of x)) (sym is) (out t taken))) in
    (omega arith, refl))
    shown
