-- What the tests' calls leave: slots and direct maps that can come back.
use Rattle.std.proofs.Common.{◌≡◌, ℕ, ◌<◌, List, [], ◌∷◌, ◌++◌, Some, map, refl, sym, ◌∙◌, ap, subst, arith}
use Rattle.std.specs.Prelude.{Contains}
use Rattle.std.proofs.lemmas.List.Elements.{Contains-append_left, Contains-append_right}
use Rattle.pa_slot.specs.declared.title.Title.{Title}
use Rattle.pa_slot.specs.Holdings.{RawByte}
use Rattle.pa_region.specs.declared.marks.Mark.{Mark}
use Rattle.pa_region.specs.declared.marks.Mark.TheVariants.{Stake, Keeper}
use Rattle.pa_region.specs.declared.view.Made.{Made}
use Rattle.pa_region.specs.declared.view.View.{View}
use Rattle.pa_region.specs.Lists.{list_of, IsBeginning}
use Rattle.pa_region.specs.Hands.{given_after}
use Rattle.pa_region.specs.Marks.{parcel_of}
use Rattle.pa_region.specs.Start.{first_view}
use Rattle.pa_region.specs.Lending.{CanLend, Keeps}
use Rattle.pa_region.proofs.LendBack.{begins_on}
use Rattle.pa_record.specs.declared.root.RootAct.{RootAct}
use Rattle.pa_record.specs.declared.root.RootAct.TheVariants.{Fill, Map}
use Rattle.pa_record.specs.Numbers.{root_numbers}
use Rattle.pa_record.specs.Spans.{name_of}
use Rattle.pa_lists.proofs.Members.{first_in}
use Rattle.pa_lists.proofs.Joined.{map_in}
use Rattle.pa_buckets.specs.Table.{slot_of}
use Rattle.pa_root.specs.Keeping.{RootState}
use Rattle.pa_root.specs.Making.{IsEnteredAt}
use Rattle.pa_root.specs.Handing.{HasOnly, at_number_seen, numbered_by, root_entry}
use Rattle.pa_root.specs.Uncutting.{IsShown}
use Rattle.pa_root.specs.Telling.{FillTells, MapTells}
use Rattle.pa_test_root.specs.RootScripts.{CanGoBack, CanMapGoBack}
use Rattle.pa_root.proofs.Seeing.{free_kept, handles_kept}
use Rattle.pa_root.proofs.Entered.{for_made}

-- a view that keeps what it has still has these titles alone
only_kept : (v x : View) (titles : List Title) → Keeps v x → HasOnly titles v → HasOnly titles x
only_kept v x titles keeps has = record {
  frees = λ t. (
    (λ free. (has.frees t).0 (subst (λ n. 0 < n) (free_kept v x t keeps) free)),
    (λ among. subst (λ n. 0 < n) (sym (free_kept v x t keeps)) ((has.frees t).1 among)),
  );
  handles = λ t. handles_kept v x t keeps ∙ has.handles t;
  raws = λ b. keeps.things (RawByte b) ∙ has.raws b;
  budget = keeps.budget ∙ has.budget;
  stakes = λ k. keeps.stakes k ∙ has.stakes k;
  keepers = λ k. keeps.keepers k ∙ has.keepers k;
  leases = λ n. keeps.leases n ∙ has.leases n;
}

-- who was shown a list has seen the entry that was made there
entry_seen : (j r k : ℕ) (numbers : List ℕ) (v after x : View) (m : Made) → IsEnteredAt j r k numbers v after m →
    IsBeginning (list_of k after) (list_of k x) →
    Contains (map (λ (n : Made). n.numbers) (list_of k x)) numbers
entry_seen j r k numbers v after x m made begins =
    let (rest, e) = begins_on (made.earlier ++ m ∷ []) (list_of k after) (list_of k x) made.stands begins in
    let here : Contains ((made.earlier ++ m ∷ []) ++ rest) m =
    Contains-append_left (made.earlier ++ m ∷ []) rest m (Contains-append_right made.earlier (m ∷ []) m (first_in m [])) in
    subst (λ ns. Contains (map (λ (n : Made). n.numbers) (list_of k x)) ns) made.says
    (map_in (λ (n : Made). n.numbers) (list_of k x) m (subst (λ l. Contains l m) (sym e) here))

pub filled_back : (r p line class : ℕ) (v after now note own : View) (titles : List Title) (s s_now : RootState) →
    FillTells r p line class v after note titles s s_now →
    IsShown after now note own → CanGoBack p own titles
filled_back r p line class v after now note own titles s s_now told shown =
    let g = told.gives in
    let act : RootAct = Fill class g.asked (numbered_by note titles) in
    let (m, made) = for_made g.index r p line g.asked (Some g.first) act v after g.enters in
    record {
      some = g.some;
      has = only_kept note own titles (shown.taker 0).keeps g.has;
      once = g.differ;
      named = λ t among.
          let (k, below, e) = among in
          let long : t.len ≡ slot_of class = subst (λ (z : Title). z.len ≡ slot_of class) e (g.long k t below) in (
            line,
            class,
            g.asked,
            numbered_by note titles,
            at_number_seen note t,
            long,
            map_in (at_number_seen note) titles t among,
            refl,
            entry_seen g.index r p (root_numbers (root_entry line act)) v after own m made (shown.lists p),
          );
    }

pub mapped_back : (r p line len : ℕ) (v after now note own : View) (t : Title) (s s_now : RootState) →
    MapTells r p line len v after note t s s_now →
    IsShown after now note own → CanMapGoBack p own t
mapped_back r p line len v after now note own t s s_now told shown =
    let g = told.gives in
    record {
      has = only_kept note own (t ∷ []) (shown.taker 0).keeps g.has;
      named = (
        line,
        t.born,
        subst (λ n. Contains (map (λ (z : Made). z.numbers) (list_of p own))
            (root_numbers (root_entry line (Map t.born (name_of t) n)))) (sym g.long)
            (entry_seen g.index r p (root_numbers (root_entry line (Map t.born (name_of t) len))) v after own g.enters.made g.enters.is_made
            (shown.lists p)),
      );
    }

-- all that neither the root's seat nor the pool's has
abbrev pub others : List Mark
others =
    Stake 0 ∷ Stake 1 ∷ Stake 2 ∷ Stake 3 ∷ Stake 4 ∷ Stake 5 ∷ Stake 6 ∷ Stake 7 ∷ Stake 8 ∷ Stake 9 ∷ Stake 10 ∷ Stake 11 ∷ Stake 12 ∷
    Stake 13 ∷ Stake 14 ∷ Stake 15 ∷ Keeper 1 ∷ Keeper 2 ∷ Keeper 3
    ∷ Keeper 5 ∷ []

pub others_lend : (words : ℕ) (v w z : View) → v ≡ w → w ≡ given_after (parcel_of [] 0 others) z → z ≡ first_view words 0 → CanLend v
others_lend words v w z e f g =
    subst (λ (x : View). CanLend x) (sym (e ∙ (f ∙ ap (λ (x : View). given_after (parcel_of [] 0 others) x) g))) (omega arith, omega arith)
