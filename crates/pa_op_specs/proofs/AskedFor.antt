-- What an op entered in the lists of one root and of the pool: nothing; an entry of the root; or one of the pool, and then one of
-- the root that names it.
use Rattle.std.proofs.Common.{◌≡◌, ℕ, ◌<◌, List, [], ◌∷◌, ◌++◌, map, Option, Some, None, refl, sym, ◌∙◌, ap, subst, arith, ◌⊎◌, inl, inr}
use Rattle.std.specs.Prelude.{◌==◌, Contains, filter, if◌then◌else◌}
use Rattle.std.specs.List.{filter_map, flat_map}
use Rattle.std.proofs.lemmas.Bool.Decides.{eqb_tells}
use Rattle.pa_record.specs.declared.pool.PoolEntry.{PoolEntry}
use Rattle.pa_record.specs.declared.root.RootAct.{RootAct}
use Rattle.pa_record.specs.declared.root.RootEntry.{RootEntry}
use Rattle.pa_record.specs.Numbers.{root_numbers, pool_numbers}
use Rattle.pa_record.specs.Root.{asked_by}
use Rattle.pa_lists.proofs.Members.{in_cases, not_in_none, first_in, later_in}
use Rattle.pa_region.specs.declared.view.Entry.{Entry}
use Rattle.pa_region.specs.declared.view.Entry.TheVariants.{Entered}
use Rattle.pa_region.specs.declared.view.Made.{Made}
use Rattle.pa_region.specs.declared.view.View.{View}
use Rattle.pa_region.specs.Lists.{list_of, entered_in, IsBeginning}
use Rattle.pa_region.proofs.LendBack.{begins_on}
use Rattle.pa_rules.specs.Caches.{OnlyActs}
use Rattle.pa_logs.specs.Told.{ToldRecord}
use Rattle.pa_logs.specs.Indices.{Enters, AskedNone, AskedOnce, asks, is_asked}
use Rattle.pa_root.specs.Handing.{root_entry}
use Rattle.pa_root.specs.Making.{EntersOne, EntersTwo}
use Rattle.pa_lists.proofs.Elements.{in_one}
use Rattle.pa_step_order.specs.Signs.{sign_of, act_signs}
use Rattle.pa_step_order.proofs.Shaping.{shapes_have_signs}
use Rattle.pa_op_specs.specs.Outcomes.{Outcome}
use Rattle.pa_op_specs.proofs.Entered.{LineActs, none_here, acts_in, entered_here, entered_elsewhere}
use Rattle.pa_logs.proofs.Listing.{entered_append}

-- the entries of a line in the journal of partition p, which did these acts, and none in another
abbrev pub root_at : ℕ → ℕ → List RootAct → ℕ → List RootEntry
root_at line p acts q = if q == p then map (root_entry line) acts else []

at_root : (line p q : ℕ) (acts : List RootAct) → ((q ≡ p) × (root_at line p acts q ≡ map (root_entry line) acts)) ⊎
    ((q ≡ p → ⊥) × (root_at line p acts q ≡ []))
at_root line p q acts = elim (eqb_tells q p) [
  | inl y ↦ inl (y.1, rw y.0 refl)
  | inr n ↦ inr (n.1, rw n.0 refl)
]

-- in its own it has them
here_at : (line p : ℕ) (acts : List RootAct) → root_at line p acts p ≡ map (root_entry line) acts
here_at line p acts = elim (at_root line p p acts) [ inl y ↦ y.1 | inr n ↦ absurd (n.0 refl) ]

-- an act on the list of one root leaves none in that of another
pub root_elsewhere : (line p q : ℕ) (acts : List RootAct) → (q ≡ p → ⊥) → root_at line p acts q ≡ []
root_elsewhere line p q acts other = elim (at_root line p q acts) [ inl y ↦ absurd (other y.0) | inr n ↦ n.1 ]

-- The log segment `es` has these acts of the line in partition p's journal, and entries of the pool's list, which a seat with the
-- view w has seen at their places.
pub record Asks (line p : ℕ) (acts : List RootAct) (es : List Entry) (w : View) : Type 0 where
  pub roots_are : (q : ℕ) → q < 4 → map (λ (m : Made). m.numbers) (entered_in q es) ≡ map root_numbers (root_at line p acts q)
  pub pools : List PoolEntry
  pub pools_are : map (λ (m : Made). m.numbers) (entered_in 4 es) ≡ map pool_numbers pools
  pub asked : (x : ToldRecord) (it : Enters x) → (entered_in 4 x.stretch ≡ entered_in 4 es) → (it.roots ≡ root_at line p acts) →
      (it.pools ≡ pools) →
      AskedNone x it ⊎ AskedOnce (list_of 4 w) x it
  pub signs : filter_map sign_of es ≡ flat_map (act_signs line p) acts

-- what a record with that log segment entered
abbrev pub it_asks : (line p : ℕ) (acts : List RootAct) (es : List Entry) (w : View) (x : ToldRecord) → Asks line p acts es w →
    ((q : ℕ) → entered_in q x.stretch ≡ entered_in q es) → Enters x
it_asks line p acts es w x are same = record {
  roots = root_at line p acts;
  pools = are.pools;
  roots_are = λ q low. ap (map (λ (m : Made). m.numbers)) (same q) ∙ are.roots_are q low;
  pools_are = ap (map (λ (m : Made). m.numbers)) (same 4) ∙ are.pools_are;
}

-- the acts of the line are these
pub only_acts : (o : Outcome) (x : ToldRecord) (it : Enters x) (line p : ℕ) (acts : List RootAct) → LineActs o x it → p < 4 →
    it.roots ≡ root_at line p acts →
    OnlyActs o.roots x.played.line p acts
only_acts o x it line p acts are low roots = (
  are.here p low ∙ (ap (λ (f : ℕ → List RootEntry). acts_in (f p)) roots ∙ (ap acts_in (here_at line p acts) ∙ acts_back acts)),
  λ q other. none_here o x it are q (ap (λ (f : ℕ → List RootEntry). f q) roots ∙ root_elsewhere line p q acts other),
)
  where
    acts_back : (xs : List RootAct) → acts_in (map (root_entry line) xs) ≡ xs
    acts_back [] = refl
    acts_back (a ∷ xs) = ap (λ ys. a ∷ ys) (acts_back xs)

-- each entry is one of these acts, in that journal
pub act_at : (line p q : ℕ) (acts : List RootAct) (e : RootEntry) → Contains (root_at line p acts q) e → (q ≡ p) × Contains acts e.act
act_at line p q acts e among = elim (at_root line p q acts) [
  | inl y ↦ (y.0, go acts (subst (λ (es : List RootEntry). Contains es e) y.1 among))
  | inr n ↦ absurd (not_in_none e (subst (λ (es : List RootEntry). Contains es e) n.1 among))
]
  where
    go : (xs : List RootAct) → Contains (map (root_entry line) xs) e → Contains xs e.act
    go [] none = absurd (not_in_none e none)
    go (a ∷ xs) among = elim (in_cases (root_entry line a) e (map (root_entry line) xs) among) [
      | inl same ↦ subst (λ b. Contains (a ∷ xs) b) (ap (λ (f : RootEntry). f.act) same) (first_in a xs)
      | inr later ↦ later_in a e.act xs (go xs later)
    ]

-- ---- nothing was asked

pub asks_none : (line p : ℕ) (w : View) → Asks line p [] [] w
asks_none line p w = record {
  roots_are = λ q low. ap (map root_numbers) (sym (none q));
  pools = [];
  pools_are = refl;
  asked = λ x it same roots pools. inl
      (record { pools = pools; roots = λ q. ap (λ (f : ℕ → List RootEntry). filter asks (f q)) roots ∙ ap (filter asks) (none q) });
  signs = refl;
}
  where
    none : (q : ℕ) → root_at line p [] q ≡ []
    none q = elim (at_root line p q []) [ inl y ↦ y.1 | inr n ↦ n.1 ]

-- ---- one entry of the root

-- the entry that it made
none_of_pool : (p : ℕ) (m : Made) → p < 4 → entered_in 4 (Entered p m ∷ []) ≡ []
none_of_pool p m low = entered_elsewhere p 4 (m ∷ []) (λ e. omega arith)

one_root_at : (line p q : ℕ) (act : RootAct) (m : Made) → m.numbers ≡ root_numbers (root_entry line act) →
    map (λ (n : Made). n.numbers) (entered_in q (Entered p m ∷ [])) ≡ map root_numbers (root_at line p (act ∷ []) q)
one_root_at line p q act m says = elim (at_root line p q (act ∷ [])) [
  | inl y ↦ ap (map (λ (n : Made). n.numbers)) (subst (λ k. entered_in k (Entered p m ∷ []) ≡ m ∷ []) (sym y.0) (entered_here p (m ∷ [])))
      ∙ (ap (λ ns. ns ∷ []) says ∙ sym (ap (map root_numbers) y.1))
  | inr n ↦ ap (map (λ (k : Made). k.numbers)) (entered_elsewhere p q (m ∷ []) n.0) ∙ sym (ap (map root_numbers) n.1)
]

pub asks_one : (j r p line : ℕ) (act : RootAct) (v u w : View) (one : EntersOne j r p (root_entry line act) v u) → p < 4 →
    asked_by act ≡ None →
    Asks line p (act ∷ []) (Entered p one.made ∷ []) w
asks_one j r p line act v u w one low quiet = record {
  roots_are = λ q small. one_root_at line p q act one.made one.is_made.says;
  pools = [];
  pools_are = ap (map (λ (m : Made). m.numbers)) (none_of_pool p one.made low);
  asked = λ x it same roots pools. inl
      (record { pools = pools; roots = λ q. ap (λ (f : ℕ → List RootEntry). filter asks (f q)) roots ∙ none q });
  signs = shapes_have_signs.entries line p (one.made ∷ []) (act ∷ []) low (ap (λ ns. ns ∷ []) one.is_made.says)
      (λ a among. ap asked_by (sym (in_one act a among)) ∙ quiet);
}
  where
    none : (q : ℕ) → filter asks (root_at line p (act ∷ []) q) ≡ []
    none q = elim (at_root line p q (act ∷ [])) [
      | inl y ↦ ap (filter asks) y.1 ∙ ap (λ (o : Option ℕ). if is_asked o then root_entry line act ∷ [] else []) quiet
      | inr n ↦ ap (filter asks) n.1
    ]

-- ---- one of the pool, and one of the root that names it

two_of_pool : (p : ℕ) (k m : Made) → p < 4 → entered_in 4 (Entered 4 k ∷ Entered p m ∷ []) ≡ k ∷ []
two_of_pool p k m low = ap (λ ms. k ∷ ms) (none_of_pool p m low)

two_of_root : (p q : ℕ) (k m : Made) → q < 4 → entered_in q (Entered 4 k ∷ Entered p m ∷ []) ≡ entered_in q (Entered p m ∷ [])
two_of_root p q k m small =
    entered_append q (Entered 4 k ∷ []) (Entered p m ∷ []) ∙
    ap (λ ms. ms ++ entered_in q (Entered p m ∷ [])) (entered_elsewhere 4 q (k ∷ []) (λ e. omega arith))

pub asks_two : (a j r p line : ℕ) (taken : PoolEntry) (act : RootAct) (v u w : View)
    (two : EntersTwo a j r p [] taken (root_entry line act) v u) → p < 4 →
    asked_by act ≡ Some a → taken.partition ≡ p → IsBeginning (list_of 4 u) (list_of 4 w) →
    Asks line p (act ∷ []) (Entered 4 two.pool ∷ Entered p two.made ∷ []) w
asks_two a j r p line taken act v u w two low names at more = record {
  roots_are = λ q small. ap (map (λ (m : Made). m.numbers)) (two_of_root p q two.pool two.made small) ∙
      one_root_at line p q act two.made two.is_made.says;
  pools = taken ∷ [];
  pools_are = ap (map (λ (m : Made). m.numbers)) (two_of_pool p two.pool two.made low) ∙ ap (λ ns. ns ∷ []) two.is_pool.says;
  asked = λ x it same roots pools. inr (record {
    made = two.pool;
    pool = taken;
    entry = root_entry line act;
    index = a;
    made_is = same ∙ two_of_pool p two.pool two.made low;
    pools = pools;
    small = let e = at in omega arith;
    asked = ap (λ (f : ℕ → List RootEntry). filter asks (f taken.partition)) roots ∙ here;
    others = λ q other. ap (λ (f : ℕ → List RootEntry). filter asks (f q)) roots ∙ elsewhere q other;
    names = names;
    stands = record {
      older = two.is_pool.earlier;
      rest = (begins_on (two.is_pool.earlier ++ two.pool ∷ []) (list_of 4 u) (list_of 4 w) two.is_pool.stands more).0;
      begins = (begins_on (two.is_pool.earlier ++ two.pool ∷ []) (list_of 4 u) (list_of 4 w) two.is_pool.stands more).1;
      index_is = two.is_pool.index;
    };
  });
  signs = shapes_have_signs.asked line p a act two.pool two.made low two.is_made.says names;
}
  where
    here : filter asks (root_at line p (act ∷ []) taken.partition) ≡ root_entry line act ∷ []
    here = elim (at_root line p taken.partition (act ∷ [])) [
      | inl y ↦ ap (filter asks) y.1 ∙ ap (λ (o : Option ℕ). if is_asked o then root_entry line act ∷ [] else []) names
      | inr n ↦ absurd (n.0 at)
    ]

    elsewhere : (q : ℕ) → (q ≡ taken.partition → ⊥) → filter asks (root_at line p (act ∷ []) q) ≡ []
    elsewhere q other = elim (at_root line p q (act ∷ [])) [
      | inl y ↦ absurd (other (y.0 ∙ sym at))
      | inr n ↦ ap (filter asks) n.1
    ]
