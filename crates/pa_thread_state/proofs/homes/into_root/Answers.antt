use Rattle.std.proofs.Common.{ℕ, List, [], ◌∷◌, ◌++◌, length, rules, arith, sym, ◌∙◌, ap, subst}
use Rattle.std.specs.Prelude.{◌≢◌, AllPairs, Contains}
use Rattle.pa_slot.specs.declared.title.Title.{Title}
use Rattle.pa_root.specs.Handing.{HasOnly, HasSeenFill, HasSeenMap}
use Rattle.pa_thread_state.proofs.Homing.{alone, in_alone, seen_fill, seen_map}
use Rattle.pa_thread_state.proofs.homes.into_root.Goals as goal

pub unmap-requires : goal.unmap-requires
unmap-requires g c =
    let h = c.args.handle.now in
    let named = subst (λ (q : ℕ). HasSeenMap q c.args.note.view h.title) c.requires.partition
    (seen_map h c.args.note.view c.requires.made c.in-None.is) in
    (search rules, ((c.region-region.ensures, c.requires.regions.0, c.requires.regions.1), (c.requires.lender, (c.requires.has, named))))

pub give_back-requires : goal.give_back-requires
give_back-requires g c =
    let h = c.args.handle.now in
    let items = c.push.ensures.items ∙ ap (λ (l : List Title). l ++ h.title ∷ []) c.new-titles.ensures in
    let some = ap (λ (l : List Title). length l) items in
    let named : (u : Title) → Contains c.push.new.self.items u → HasSeenFill g.row.P c.args.note.view u = λ u among.
    subst (λ (q : ℕ). HasSeenFill q c.args.note.view u) c.requires.partition
    (subst (λ (v : Title). HasSeenFill h.partition c.args.note.view v)
    (in_alone h.title u (subst (λ (l : List Title). Contains l u) items among))
    (seen_fill h c.args.note.view c.in-Some.field-0 c.requires.made c.in-Some.is)) in (
      search rules,
      (
        (c.region-region.ensures, c.requires.regions.0, c.requires.regions.1),
        (
          c.requires.lender,
          (
            omega arith,
            (
              subst (λ (l : List Title). HasOnly l c.args.note.view) (sym items) c.requires.has,
              (subst (λ (l : List Title). AllPairs ◌≢◌ l) (sym items) (alone h.title), named),
            ),
          ),
        ),
      ),
    )
