-- The pool has no such super pages: what the caller's seat knows, and the root with the entry that says so.
use Rattle.std.proofs.Common.{◌≡◌, ℕ, ◌+◌, ◌<◌, ◌≤◌, List, [], ◌∷◌, ◌++◌, Option, Some, None, length, refl, sym, ◌∙◌, ap, subst, arith}
use Rattle.std.specs.Prelude.{option_map}
use Rattle.std.proofs.lemmas.List.{length-append}
use Rattle.pa_region.specs.declared.view.Entry.TheVariants.{Entered}
use Rattle.pa_region.specs.declared.view.Made.{Made}
use Rattle.pa_region.specs.declared.view.View.{View}
use Rattle.pa_region.specs.Views.{least_stake}
use Rattle.pa_region.specs.Lists.{keeper_of, list_of}
use Rattle.pa_region.specs.Lending.{CanLend, HostsKeeper, Keeps, Lends, IsNoted}
use Rattle.pa_region.specs.Aware.{IsAware}
use Rattle.pa_region.specs.Shares.{Share}
use Rattle.pa_region.proofs.LendBack.{keeps_on, lends_again}
use Rattle.pa_record.specs.declared.pool.PoolEntry.{PoolEntry}
use Rattle.pa_record.specs.declared.pool.PoolAct.TheVariants.{Take}
use Rattle.pa_record.specs.declared.root.RootEntry.{RootEntry}
use Rattle.pa_record.specs.declared.root.RootAct.TheVariants.{Full}
use Rattle.pa_record.specs.Numbers.{root_numbers, pool_numbers}
use Rattle.pa_record.specs.Pool.{act_at, FoundNone}
use Rattle.pa_record.specs.Root.{Root, FullFits}
use Rattle.pa_record.proofs.PoolSteps.{act_at_more}
use Rattle.pa_pool.specs.Calls.{take_entry}
use Rattle.pa_root.specs.Reading.{pools_seen}
use Rattle.pa_root.specs.Keeping.{RootState, IsRootSound}
use Rattle.pa_root.specs.Making.{EntersTwo}
use Rattle.pa_root.specs.Handing.{root_entry}
use Rattle.pa_root.specs.Laws.{HasSameSlots}
use Rattle.pa_root.specs.Asking.{IsAskedFor}
use Rattle.pa_root.specs.Uncutting.{IsShown}
use Rattle.pa_root.specs.declared.fault.FillFault.{FillFault}
use Rattle.pa_root.specs.declared.fault.FillFault.TheVariants as fault
use Rattle.pa_root.specs.Telling.{FullTells, NoneGiven}
use Rattle.pa_root.specs.Steps.{IsRefusedBy, RefusesRoom, root_of_parts}
use Rattle.pa_root.proofs.Entries.{on, entries_are_told}
use Rattle.pa_root.proofs.Lists.{pools_more}
use Rattle.pa_root.proofs.Ready.{named_seen}
use Rattle.pa_root.proofs.Seeing.{idle_entries_keep}

-- a seat that still has what it had can still host, and its keeper's list is the same
pub keeper_stays : (p : ℕ) (v x : View) → Keeps v x → 0 < keeper_of v p → 0 < keeper_of x p
keeper_stays p v x keeps has = subst (λ n. 0 < n) (sym (keeps.keepers p)) has

-- what the pool's entry says to a seat that has seen it, and to one that was shown that
pub pool_says : (a : View) (index count line p : ℕ) (found : Option ℕ) (r : ℕ) (v root : View) →
    IsAskedFor r line p count found index v a root →
    act_at (pools_seen a) index ≡ Some (Take count found)
pool_says a index count line p found r v root asked = ap (option_map (λ (e : PoolEntry). e.act)) asked.stands

-- The root's seat had the view w, w1 once the pool was asked, w2 once it was shown what the caller's had seen, and x once the entry was
-- made.
pub record ToldNone (line p count j asked : ℕ) (class : Option ℕ) (v a b after w w1 w2 x : View) (m : Made)
    (js js_now : List RootEntry) : Type 0 where
  pub lender : CanLend v
  pub host : HostsKeeper p w
  pub aware : IsAware w
  pub now_aware : IsAware x
  pub asks : IsAskedFor (least_stake v.stakes) line p count None asked v a w1
  pub own : Lends 0 [] w w1
  pub same : (k : ℕ) → list_of k w1 ≡ list_of k w
  pub shown : IsShown a b w1 w2
  pub noted : IsNoted (least_stake b.stakes) p (root_numbers (root_entry line (Full class asked))) b after w2 x m
  pub long : length (list_of p w) ≡ length js
  pub index : j ≡ length js
  pub journal : js_now ≡ js ++ root_entry line (Full class asked) ∷ []

pub refused_by : (line p count j asked : ℕ) (class : Option ℕ) (v a b after w w1 w2 x : View) (m : Made) (js js_now : List RootEntry) →
    ToldNone line p count j asked class v a b after w w1 w2 x m js js_now →
    IsRefusedBy j (least_stake v.stakes) p line count class v after w x js js_now
refused_by line p count j asked class v a b after w w1 w2 x m js js_now t =
    let r = least_stake v.stakes in
    let e : RootEntry = root_entry line (Full class asked) in
    let taken : PoolEntry = take_entry line p count None in
    let pool = t.asks.made in
    let to_b : Lends r (Entered 4 pool ∷ []) v b = on r (Entered 4 pool ∷ []) [] v a b t.asks.lends (t.shown.giver r) in
    let least = (lends_again v b to_b.keeps t.lender).1 in
    let noted : IsNoted r p (root_numbers e) b after w2 x m = subst (λ k. IsNoted k p (root_numbers e) b after w2 x m) least t.noted in
    let is_pool = entries_are_told.later asked r 4 (pool_numbers taken) v a b pool t.asks.is_made (t.shown.giver r).keeps in
    let has : 0 < keeper_of w1 p = keeper_stays p w w1 t.own.keeps t.host.1 in
    let lists : list_of p w2 ≡ list_of p w = (t.shown.taker 0).own_lists p has ∙ t.same p in
    let place : length (list_of p w2) ≡ j = ap length lists ∙ (t.long ∙ sym t.index) in
    let enters : EntersTwo asked j r p [] taken e v after =
    subst (λ n. EntersTwo asked n r p [] taken e v after) place
    (entries_are_told.two asked r p [] taken e v b after w2 x pool m is_pool to_b noted) in
    let (rest, more) = pools_more a w2 (t.shown.lists 4) in
    let (rest', more') = pools_more w2 x (noted.hosts.lists 4) in
    let said : act_at (pools_seen a) asked ≡ Some (Take count None) = pool_says a asked count line p None r v w1 t.asks in
    let seen : act_at (pools_seen w2) asked ≡ Some (Take count None) =
    subst (λ es. act_at es asked ≡ Some (Take count None)) (sym more) (act_at_more (pools_seen a) rest asked (Take count None) said) in
    let later = t.asks.later in
    let same = ap length (t.same 4) in
    record {
      full = record { asked = asked; enters = enters };
      entered = (m, noted.list ∙ ap (λ l. l ++ m ∷ []) lists, noted.says);
      journal = t.journal;
      none = subst (λ es. act_at es asked ≡ Some (Take count None)) (sym more')
          (act_at_more (pools_seen w2) rest' asked (Take count None) seen);
      later = omega arith;
      keeps = keeps_on w w1 x t.own.keeps (keeps_on w1 w2 x (t.shown.taker 0).keeps noted.hosts);
      aware = t.aware;
      now_aware = t.now_aware;
    }

-- ---- the root

same_slots : (r : Root) → HasSameSlots r r
same_slots r = record { made = λ t. ((λ h. h), (λ h. h)); out = λ n. ((λ h. h), (λ h. h)); supers = refl; maps = refl }

pub full_sound : (j r p line count : ℕ) (class : Option ℕ) (s : RootState) (v after x : View) (js : List RootEntry) → IsRootSound p s →
    (told : IsRefusedBy j r p line count class v after s.view x s.journal js) → FullFits (pools_seen x) class told.full.asked s.root →
    IsRootSound p (record { view = x; journal = js; root = s.root })
full_sound j r p line count class s v after x js sound told fits =
    let e : RootEntry = root_entry line (Full class told.full.asked) in
    let least = named_seen p s sound.journal in
    let later = told.later in
    subst (λ es. IsRootSound p (record { view = x; journal = es; root = s.root })) (sym told.journal)
    (idle_entries_keep p s x e sound told.aware told.now_aware told.keeps told.entered (record { act = fits; asks = omega arith }) refl
    (same_slots s.root))

pub full_tells : (j r p line count : ℕ) (class : Option ℕ) (s s_now : RootState) (v after : View) →
    IsRefusedBy j r p line count class v after s.view s_now.view s.journal s_now.journal → s_now.root ≡ s.root →
    FullTells j r p line count class v after s s_now
full_tells j r p line count class s s_now v after told same = record { full = told.full; journal = told.journal; same = same }

-- a root that got none: it says so and is sound, or nothing changed
pub none_given : (r p line count : ℕ) (class : Option ℕ) (a b w w_now : Share) (js js_now : List RootEntry) (root : Root)
    (fault : FillFault) →
    IsRootSound p (root_of_parts w.view js root) →
    ((asked : ℕ) → FoundNone (pools_seen w_now.view) asked count → FullFits (pools_seen w_now.view) class asked root) →
    RefusesRoom r p line count class a b w w_now js js_now fault →
    NoneGiven r p line count class a b (root_of_parts w.view js root) (root_of_parts w_now.view js_now root) fault
    × IsRootSound p (root_of_parts w_now.view js_now root)
none_given r p line count class a b w w_now js js_now root (fault.Full j) sound fits told = (
  full_tells j r p line count class (root_of_parts w.view js root) (root_of_parts w_now.view js_now root) a.view b.view told refl,
  full_sound j r p line count class (root_of_parts w.view js root) a.view b.view w_now.view js_now sound told
      (fits told.full.asked told.none),
)
none_given r p line count class a b w w_now js js_now root fault.OutOfMemory sound fits (seats, own, journals) =
    let same : root_of_parts w_now.view js_now root ≡ root_of_parts w.view js root =
    ap (λ (x : Share). root_of_parts x.view js_now root) own ∙ ap (λ es. root_of_parts w.view es root) journals in
    ((same, seats), subst (λ z. IsRootSound p z) (sym same) sound)

-- the journal of a root that gave none has one more entry at most
pub none_long : (r p line count : ℕ) (class : Option ℕ) (a b : Share) (s s_now : RootState) (fault : FillFault) →
    NoneGiven r p line count class a b s s_now fault → (length s.journal ≤ length s_now.journal) ×
    (length s_now.journal ≤ length s.journal + 1)
none_long r p line count class a b s s_now (fault.Full j) told =
    let e = ap length told.journal in
    let more = length-append s.journal (root_entry line (Full class told.full.asked) ∷ []) in
    (omega arith, omega arith)
none_long r p line count class a b s s_now fault.OutOfMemory (same, seats) =
    let e = ap (λ (z : RootState). length z.journal) same in
    (omega arith, omega arith)
