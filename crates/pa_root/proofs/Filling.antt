-- A fill: what it makes can be cut, what it takes can be handed over, and the root is sound again.
use Rattle.std.proofs.Common.{◌≡◌, ℕ, ◌+◌, ◌≤◌, List, sym, ◌∙◌, ap, subst, arith, inl, inr}
use Rattle.std.specs.Prelude.{◌≢◌, Contains}
use Rattle.pa_slot.specs.declared.title.Title.{Title}
use Rattle.pa_slot.specs.Titles.{Covers}
use Rattle.pa_machine.proofs.Cutting.{covers_or}
use Rattle.pa_layout.specs.Pages.{page_place}
use Rattle.pa_region.specs.Cuts.{CanCut}
use Rattle.pa_record.specs.declared.taken.SuperPage.{SuperPage}
use Rattle.pa_record.specs.Root.{Root}
use Rattle.pa_record.specs.Sound.{IsSound, IsMade, TitlesApart}
use Rattle.pa_record.proofs.Slots.{slot_within}
use Rattle.pa_record.proofs.Titles.{made_apart}
use Rattle.pa_root.specs.Keeping.{RootState, HasRest, IsInRest}
use Rattle.pa_root.specs.Filling.{CanCutAll, MakesMore, WhatIsMadeCanBeCut}
use Rattle.pa_root.proofs.Whole.{made_is_whole}
use Rattle.pa_root.proofs.Batches.{can_cut_all}

-- a slot that was made lies in a super page of the root
pub record LiesIn (r : Root) (t : Title) : Type 0 where
  pub at : SuperPage
  pub among : Contains r.supers at
  pub born : t.born ≡ at.born
  pub from : page_place at.number 1 ≤ t.start
  pub to : t.start + t.len ≤ page_place at.number 127

pub made_lies : (r : Root) (t : Title) → IsSound r → IsMade r t → LiesIn r t
made_lies r t sound (s, among, n, below, e) =
    let (at, page, p) = sound.placed s among in
    let c = (sound.spans s among).counted in
    let most = c.most in
    let w = slot_within s n c (omega arith) in
    let place = p.place in let first = p.first in let last = p.last in
    let from = w.from in let to = w.to in
    record {
      at = at;
      among = p.among;
      born = ap (λ (x : Title). x.born) e ∙ p.born;
      from = subst (λ x. page_place at.number 1 ≤ x.start) (sym e) (omega arith);
      to = subst (λ x. x.start + x.len ≤ page_place at.number 127) (sym e) (omega arith);
    }

-- two slots of one super page that have a byte in common are one
pub share_byte : (r : Root) (t u : Title) (b : ℕ) → IsSound r → IsMade r t → IsMade r u → t.born ≡ u.born → Covers t b → Covers u b → t ≡ u
share_byte r t u b sound made other born covers covers' =
    let low = covers.0 in let high = covers.1 in let low' = covers'.0 in let high' = covers'.1 in
    elim (made_apart r t u sound made other born) [
      | inl e ↦ e
      | inr apart ↦ elim apart [ inl before ↦ absurd (omega arith) | inr behind ↦ absurd (omega arith) ]
    ]

module _ (s : RootState) (after : Root) (ts : List Title) (rest : HasRest s) (before : IsSound s.root) (sound : IsSound after)
    (supers : after.supers ≡ s.root.supers) (more : MakesMore s.root after ts) where
  -- each byte of a slot that is made now was in the rest
  pub was_rest : (t : Title) (b : ℕ) → Contains ts t → Covers t b → IsInRest s.root t.born b
  was_rest t b among covers =
      let made = more.makes t among in
      let lies = made_lies after t sound made in
      let low = covers.0 in let high = covers.1 in
      let from = lies.from in let to = lies.to in
      inl (
        lies.at,
        subst (λ ss. Contains ss lies.at) supers lies.among,
        sym lies.born,
        (omega arith, omega arith),
        λ (u, made', born, covers').
            let e : u ≡ t = share_byte after u t b sound (more.keeps u made') made born covers' covers in
            more.fresh t among (subst (λ x. IsMade s.root x) e made'),
      )

  can_cut : (t : Title) → Contains ts t → CanCut t s.view
  can_cut t among =
      let whole = made_is_whole after t sound (more.makes t among) in
      record {
        start_aligned = whole.start_aligned;
        len_aligned = whole.len_aligned;
        long = whole.long;
        floors = λ b covers. rest.raw t.born b (was_rest t b among covers);
      }

  -- two of them have no byte in common
  pub one_of_made : (t u : Title) (b : ℕ) → Contains ts t → Contains ts u → Covers t b → Covers u b → t ≡ u
  one_of_made t u b has has' covers covers' =
      share_byte after t u b sound (more.makes t has) (more.makes u has')
      (rest.one t.born u.born b (was_rest t b has covers) (was_rest u b has' covers')) covers covers'

  apart : (t u : Title) → Contains ts t → Contains ts u → t ≢ u → TitlesApart t u
  apart t u has has' differ =
      let long = (made_is_whole after t sound (more.makes t has)).long in
      let long' = (made_is_whole after u sound (more.makes u has')).long in
      elim (covers_or u t.start) [
        | inl covers ↦ absurd (differ (one_of_made t u t.start has has' (omega arith, omega arith) covers))
        | inr away ↦ elim away [
          | inl before' ↦ elim (covers_or t u.start) [
            | inl covers ↦ absurd (differ (one_of_made t u u.start has has' covers (omega arith, omega arith)))
            | inr away' ↦ elim away' [ inl low ↦ absurd (omega arith) | inr high ↦ inl (omega arith) ]
          ]
          | inr behind ↦ inr (omega arith)
        ]
      ]

  pub all_cut : CanCutAll ts s.view
  all_cut = can_cut_all ts s.view can_cut apart more.once

pub what_is_made_can_be_cut : WhatIsMadeCanBeCut
what_is_made_can_be_cut s after ts rest before sound supers more = all_cut s after ts rest before sound supers more
