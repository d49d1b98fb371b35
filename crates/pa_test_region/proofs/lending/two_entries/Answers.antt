use Rattle.std.proofs.Common.{◌≡◌, ℕ, List, [], ◌∷◌, ◌++◌, refl, sym, ◌∙◌, ap, subst, inl, inr, append_assoc}
use Rattle.std.specs.Prelude.{◌==◌, if◌then◌else◌}
use Rattle.std.proofs.lemmas.Bool.Decides.{eqb_tells}
use Rattle.pa_region.specs.declared.view.Entry.{Entry}
use Rattle.pa_region.specs.declared.view.Entry.TheVariants.{Entered}
use Rattle.pa_region.specs.declared.view.Made.{Made}
use Rattle.pa_region.specs.declared.view.View.{View}
use Rattle.pa_region.specs.Views.{least_stake}
use Rattle.pa_region.specs.Lists.{list_of}
use Rattle.pa_region.specs.Takes.{log_of}
use Rattle.pa_region.specs.Lending.{CanLend, IsNoted}
use Rattle.pa_region.proofs.LendBack.{keeps_on, lends_again}
use Rattle.pa_test_region.proofs.lending.two_entries.Goals as goal

-- of the stake itself
same_here : (i : ℕ) (more : List Entry) → (if i == i then more else []) ≡ more
same_here i more = elim (eqb_tells i i) [ inl y ↦ rw y.0 refl | inr n ↦ absurd (n.1 refl) ]

-- two entries, one after the other
two : (r : ℕ) (a b c h k l : View) (m n : Made) (first second : List ℕ) → CanLend a → r ≡ least_stake a.stakes →
    IsNoted r 4 first a b h k m → IsNoted (least_stake b.stakes) 4 second b c k l n →
    (list_of 4 l ≡ list_of 4 h ++ m ∷ n ∷ []) × (log_of r c ≡ log_of r a ++ Entered 4 m ∷ Entered 4 n ∷ [])
two r a b c h k l m n first second can is x y =
    let again : least_stake b.stakes ≡ r = (lends_again a b x.lends.keeps can).1 ∙ sym is in
    let z : IsNoted r 4 second b c k l n = subst (λ (i : ℕ). IsNoted i 4 second b c k l n) again y in (
      y.list ∙ (ap (λ (xs : List Made). xs ++ n ∷ []) x.list ∙ append_assoc (list_of 4 h) (m ∷ []) (n ∷ [])),
      z.lends.logs r ∙ (ap (λ (log : List Entry). log_of r b ++ log) (same_here r (Entered 4 n ∷ []))
          ∙ (ap (λ (log : List Entry). log ++ Entered 4 n ∷ [])
          (x.lends.logs r ∙ ap (λ (log : List Entry). log_of r a ++ log) (same_here r (Entered 4 m ∷ [])))
          ∙ append_assoc (log_of r a) (Entered 4 m ∷ []) (Entered 4 n ∷ []))),
    )

pub returns-clause-entries : goal.returns-clause-entries
returns-clause-entries c =
    let x = c.enter_with.ensures.noted in
    let y = c.enter_with-2.ensures.noted in
    let both = two (least_stake c.args.lender.now.view.stakes) c.args.lender.now.view c.enter_with.new.lender.view
    c.enter_with-2.new.lender.view c.args.pool.now.view c.enter_with.new.host.view c.enter_with-2.new.host.view
    x.0 y.0 (7 ∷ 8 ∷ []) (9 ∷ []) c.requires.lender refl x.1 y.1 in (
      x.0 ∷ y.0 ∷ [],
      ap (λ (ns : List ℕ). ns ∷ y.0.numbers ∷ []) x.1.says ∙ ap (λ (ns : List ℕ). (7 ∷ 8 ∷ []) ∷ ns ∷ []) y.1.says,
      both.0,
      both.1,
    )

pub returns-clause-lender : goal.returns-clause-lender
returns-clause-lender c =
    keeps_on c.args.lender.now.view c.enter_with.new.lender.view c.enter_with-2.new.lender.view c.enter_with.ensures.noted.1.lends.keeps
    c.enter_with-2.ensures.noted.1.lends.keeps
