-- What a line requires of a root and of the pool is answered the same in two runs that agree before it.
use Rattle.std.proofs.Common.{◌≡◌, ℕ, List, [], ◌∷◌, ◌++◌, map, Option, Some, None, refl, sym, ◌∙◌, ap, subst, arith, inl, inr}
use Rattle.std.specs.Prelude.{Contains}
use Rattle.std.proofs.lemmas.Bool.{cases_eq, true≢false}
use Rattle.pa_slot.specs.declared.title.Title.{Title}
use Rattle.pa_slot.specs.declared.word.SlotName.{SlotName}
use Rattle.pa_layout.specs.Pages.{page_place, supers_for}
use Rattle.pa_buckets.specs.Bands.{fill_of}
use Rattle.pa_direct.specs.Shapes.{shape_of}
use Rattle.pa_record.specs.declared.entry.Answer.{Answer}
use Rattle.pa_record.specs.declared.numbered.Numbered.{Numbered}
use Rattle.pa_record.specs.declared.pool.PoolEntry.{PoolEntry}
use Rattle.pa_record.specs.declared.pool.PoolAct.{PoolAct}
use Rattle.pa_record.specs.declared.root.RootEntry.{RootEntry}
use Rattle.pa_record.specs.declared.root.RootAct.{RootAct}
use Rattle.pa_record.specs.declared.root.RootAct.TheVariants.{Fill, Map, Full, Unmap}
use Rattle.pa_record.specs.Pool.{new_pool, pool_replayed, PoolActFits, IsLowest, act_at, FoundNone}
use Rattle.pa_record.specs.Spans.{name_of}
use Rattle.pa_record.specs.Root.{Root, RootActFits, RootReplays, takes, opened, super_of, names, map_title, asked_by}
use Rattle.pa_lists.proofs.Members.{not_in_none, first_in, of_some, not_some}
use Rattle.pa_record.proofs.Tested.{name_is}
use Rattle.pa_record.proofs.Same.{same_numbered}
use Rattle.pa_record.proofs.PoolSteps.{pool_answers}
use Rattle.pa_record.proofs.Lawful.{journal_leaves}
use Rattle.pa_record.specs.declared.pool.PoolAct.TheVariants as turns
use Rattle.pa_rules.specs.declared.played.Played.{Played}
use Rattle.pa_rules.specs.Roots.{Journals, AsksForMap, MakesEntry}
use Rattle.pa_rules.specs.Caches.{acts_of, OnlyActs, NoActs}
use Rattle.pa_rules.proofs.Running.{one_by}
use Rattle.pa_rules.proofs.Asking.{map_once}
use Rattle.pa_one_run.specs.Parts.{Parts, entry_line, pool_line}
use Rattle.pa_one_run.specs.Before.{below, on, root_at}
use Rattle.pa_one_run.proofs.Filed.{IsFiled, Agrees}
use Rattle.pa_one_run.proofs.roots.Replays.{line_replays, front_journal, roots_agree, act_entry, pool_at}
use Rattle.pa_one_run.proofs.roots.Asking.{IsAsked, asks_pool, asks_nothing, asked_alike}
use Rattle.pa_lists.proofs.Elements.{in_middle, in_one, map_tells}
use Rattle.pa_one_run.proofs.lines.Cuts.{entry_made, same_played}

-- the entries of a line did the same in two runs, and are the same in the pool
pub record IsAlike (a b : Parts) (n : ℕ) : Type 0 where
  pub acts : (p : ℕ) → acts_of a.roots n p ≡ acts_of b.roots n p
  pub pool : on pool_line n a.pools ≡ on pool_line n b.pools

-- x is the record after `before` in the run a, and in the run b there is one of its line and op with the answer v
pub record Beside (a b : Parts) (before : List Played) (x : Played) (v : Answer) : Type 0 where
  pub filed : IsFiled a
  pub filed' : IsFiled b
  pub agrees : Agrees x.line a b
  pub rest : List Played
  pub rest' : List Played
  pub parts : a.ps ≡ before ++ x ∷ rest
  pub parts' : b.ps ≡ before ++ record x { answer = v } ∷ rest'

-- ---- the acts of a line

-- two runs whose line has the same acts in one partition, and none in any other, have the same acts of it in each
pub only_alike : (a b : Parts) (n p : ℕ) (acts acts' : List RootAct) → OnlyActs a.roots n p acts → OnlyActs b.roots n p acts' →
    acts ≡ acts' → (q : ℕ) → acts_of a.roots n q ≡ acts_of b.roots n q
only_alike a b n p acts acts' only only' same q = elim (cases_eq q p) [
  | inl e ↦ subst (λ z. acts_of a.roots n z ≡ acts_of b.roots n z) (sym e) (only.0 ∙ same ∙ sym only'.0)
  | inr other ↦ only.1 q other ∙ sym (only'.1 q other)
]

only_in : (roots : Journals) (n p q : ℕ) (acts : List RootAct) (act : RootAct) → OnlyActs roots n p acts →
    Contains (acts_of roots n q) act → Contains acts act
only_in roots n p q acts act only among = elim (cases_eq q p) [
  | inl e ↦ subst (λ xs. Contains xs act) (subst (λ z. acts_of roots n z ≡ acts) (sym e) only.0) among
  | inr other ↦ absurd (not_in_none act (subst (λ xs. Contains xs act) (only.1 q other) among))
]

-- a line whose entries name none of the pool's
pub only_unasked : (a : Parts) (n p : ℕ) (acts : List RootAct) → IsFiled a → OnlyActs a.roots n p acts →
    ((act : RootAct) → Contains acts act → asked_by act ≡ None) → on pool_line n a.pools ≡ []
only_unasked a n p acts h only none = asks_nothing a n h (λ q act among. none act (only_in a.roots n p q acts act only among))

-- lines without entries
pub quiet_alike : (a b : Parts) (n : ℕ) → IsFiled a → IsFiled b → NoActs a.roots n → NoActs b.roots n → IsAlike a b n
quiet_alike a b n h k none none' = record {
  acts = λ p. none p ∙ sym (none' p);
  pool = asks_nothing a n h (λ p act among. absurd (not_in_none act (subst (λ xs. Contains xs act) (none p) among)))
      ∙ sym (asks_nothing b n k (λ p act among. absurd (not_in_none act (subst (λ xs. Contains xs act) (none' p) among))));
}

-- the line's only entry fits the root before the line
first_fits : (pools : List PoolEntry) (es : List RootEntry) (act : RootAct) (r : Root) → RootReplays pools es r →
    map (λ (e : RootEntry). e.act) es ≡ act ∷ [] → RootActFits pools act r
first_fits pools [] act r fits e = absurd cc
first_fits pools (x ∷ es) act r fits e = let head : x.act ≡ act = cc in subst (λ z. RootActFits pools z r) head fits.0

pub one_fits : (a : Parts) (n p : ℕ) (act : RootAct) → IsFiled a → acts_of a.roots n p ≡ act ∷ [] → RootActFits a.pools act (root_at a n p)
one_fits a n p act h only = first_fits a.pools (on entry_line n (a.roots p)) act (root_at a n p) (line_replays a n p h) only

-- in the second run it fits the root of the first
pub other_fits : (a b : Parts) (n p : ℕ) (act : RootAct) → IsFiled a → IsFiled b → Agrees n a b → acts_of b.roots n p ≡ act ∷ [] →
    RootActFits b.pools act (root_at a n p)
other_fits a b n p act h k agrees only =
    subst (λ r. RootActFits b.pools act r) (sym (roots_agree a b n p h k agrees)) (one_fits b n p act k only)

-- ---- the record of a line

-- the op makes the line's only entry
pub makes : (a : Parts) (x : Played) (p : ℕ) (act : RootAct) → IsFiled a → Contains a.ps x → acts_of a.roots x.line p ≡ act ∷ [] →
    MakesEntry a.pools p act x
makes a x p act h among only =
    let (e, stands, line, is) = act_entry a.roots x.line p act (subst (λ xs. Contains xs act) (sym only) (first_in act [])) in
    let (y, of, make) = entry_made a p e h stands in
    let same : y ≡ x = same_played a y x h of.0 among (of.1 ∙ line) in
    subst (λ z. MakesEntry a.pools p z x) is (subst (λ (z : Played). MakesEntry a.pools p e.act z) same make)

-- ---- the pool

-- two runs that agree before a line have the same pool there
pub pools_agree : (a b : Parts) (n : ℕ) → Agrees n a b → pool_at a n ≡ pool_at b n
pools_agree a b n agrees = ap (λ es. pool_replayed es (new_pool a.supers)) agrees.pool ∙
    ap (λ k. pool_replayed (below pool_line n b.pools) (new_pool k)) agrees.supers

-- the line's only entries of a partition name these entries of the pool
pub record AreNamed (a b : Parts) (n p i j : ℕ) : Type 0 where
  pub filed : IsFiled a
  pub filed' : IsFiled b
  pub agrees : Agrees n a b
  pub entry : PoolEntry
  pub entry' : PoolEntry
  pub asked : IsAsked a n p i entry
  pub asked' : IsAsked b n p j entry'

-- if two runs agree before line n and each has just one act of partition p on it, the pool entries that the acts name are there
pub named : (a b : Parts) (n p i j : ℕ) (act act' : RootAct) → IsFiled a → IsFiled b → Agrees n a b → OnlyActs a.roots n p (act ∷ []) →
    OnlyActs b.roots n p (act' ∷ []) →
    asked_by act ≡ Some i → asked_by act' ≡ Some j → AreNamed a b n p i j
named a b n p i j act act' h k agrees only only' asks asks' =
    let (e, asked) = asks_pool a n p i act h only asks in
    let (f, asked') = asks_pool b n p j act' k only' asks' in
    record { filed = h; filed' = k; agrees = agrees; entry = e; entry' = f; asked = asked; asked' = asked' }

entry_is : (a : Parts) (n p i : ℕ) (e : PoolEntry) (act : PoolAct) → IsAsked a n p i e → act_at a.pools i ≡ Some act → e.act ≡ act
entry_is a n p i e act asked at = of_some e.act act (sym asked.act ∙ at)

-- two entries of the pool that are named on one line are one entry if they did the same
pub named_alike : (a b : Parts) (n p i j : ℕ) (act act' : PoolAct) → AreNamed a b n p i j → act_at a.pools i ≡ Some act →
    act_at b.pools j ≡ Some act' → act ≡ act' →
    (i ≡ j) × (on pool_line n a.pools ≡ on pool_line n b.pools)
named_alike a b n p i j act act' h at at' same =
    asked_alike a b n p i j h.entry h.entry' h.agrees h.asked h.asked'
    (entry_is a n p i h.entry act h.asked at ∙ same ∙ sym (entry_is b n p j h.entry' act' h.asked' at'))

-- two takes of as many super pages on one line find the same ones
pub takes_alike : (a b : Parts) (n p i j count : ℕ) (found found' : Option ℕ) → AreNamed a b n p i j
    → act_at a.pools i ≡ Some (turns.Take count found) → act_at b.pools j ≡ Some (turns.Take count found') → found ≡ found'
takes_alike a b n p i j count found found' h at at' =
    let one : PoolActFits a.pools p (turns.Take count found) (pool_at a n) =
    subst (λ z. PoolActFits a.pools p z (pool_at a n)) (entry_is a n p i h.entry _ h.asked at) h.asked.fits in
    let two : PoolActFits b.pools p (turns.Take count found') (pool_at b n) =
    subst (λ z. PoolActFits b.pools p z (pool_at b n)) (entry_is b n p j h.entry' _ h.asked' at') h.asked'.fits in
    pool_answers.lowest (pool_at a n) count found found' one.1
    (subst (λ s. IsLowest s count found') (sym (pools_agree a b n h.agrees)) two.1)

-- ---- fills

-- what the fills of a line have in common
pub record AreFills (a b : Parts) (n : ℕ) (one other : Option ℕ) (xs ys : List Numbered) : Type 0 where
  pub slots : names xs ≡ names ys
  pub asked : one ≡ other
  pub pool : on pool_line n a.pools ≡ on pool_line n b.pools

unasked_fill : (class : ℕ) (xs : List Numbered) (act : RootAct) → Contains (Fill class None xs ∷ []) act → asked_by act ≡ None
unasked_fill class xs act among = ap asked_by (sym (in_one (Fill class None xs) act among))

-- they ask the pool both or neither, and give the same slots
pub fills_alike : (a b : Parts) (n p class : ℕ) (asked asked' : Option ℕ) (xs ys : List Numbered) → IsFiled a → IsFiled b → Agrees n a b →
    OnlyActs a.roots n p (Fill class asked xs ∷ []) → OnlyActs b.roots n p (Fill class asked' ys ∷ []) → AreFills a b n asked asked' xs ys
fills_alike a b n p class None None xs ys h k agrees only only' =
    let one = one_fits a n p (Fill class None xs) h only.0 in
    let two = other_fits a b n p (Fill class None ys) h k agrees only'.0 in
    record {
      slots = sym one.2 ∙ two.2;
      asked = refl;
      pool = only_unasked a n p (Fill class None xs ∷ []) h only (unasked_fill class xs) ∙
          sym (only_unasked b n p (Fill class None ys ∷ []) k only' (unasked_fill class ys));
    }
fills_alike a b n p class None (Some j) xs ys h k agrees only only' =
    let one = one_fits a n p (Fill class None xs) h only.0 in
    let two = other_fits a b n p (Fill class (Some j) ys) h k agrees only'.0 in
    absurd (true≢false (sym one.1 ∙ two.1.0))
fills_alike a b n p class (Some i) None xs ys h k agrees only only' =
    let one = one_fits a n p (Fill class (Some i) xs) h only.0 in
    let two = other_fits a b n p (Fill class None ys) h k agrees only'.0 in
    absurd (true≢false (sym two.1 ∙ one.1.0))
fills_alike a b n p class (Some i) (Some j) xs ys h k agrees only only' =
    let (real, (none, first, run), same) = one_fits a n p (Fill class (Some i) xs) h only.0 in
    let (real', (none', first', run'), same') = other_fits a b n p (Fill class (Some j) ys) h k agrees only'.0 in
    let both = named a b n p i j (Fill class (Some i) xs) (Fill class (Some j) ys) h k agrees only only' refl refl in
    let found = takes_alike a b n p i j 1 (Some first) (Some first') both run run' in
    let (place, pool) = named_alike a b n p i j (turns.Take 1 (Some first)) (turns.Take 1 (Some first')) both run run'
    (ap (λ o. turns.Take 1 o) found) in
    let act : act_at a.pools i ≡ act_at b.pools j = run ∙ ap (λ o. Some (turns.Take 1 o)) found ∙ sym run' in
    let r = root_at a n p in
    let opens : opened (super_of (act_at a.pools i)) i r ≡ opened (super_of (act_at b.pools j)) j r = ap (λ z. opened (super_of z) i r)
    act ∙ ap (λ z. opened (super_of (act_at b.pools j)) z r) place in
    record {
      slots = sym same ∙ ap (λ s. map name_of (takes class (fill_of class) s).titles) opens ∙ same';
      asked = ap Some place;
      pool = pool;
    }

-- slots at the numbers of their words
pub same_slots : (w : SlotName → ℕ) (xs ys : List Numbered) → ((m : Numbered) → Contains xs m → m.number ≡ w m.slot)
    → ((m : Numbered) → Contains ys m → m.number ≡ w m.slot) → names xs ≡ names ys → xs ≡ ys
same_slots w xs ys f g e =
    map_tells (λ (m : Numbered). m.slot) xs ys
    (λ m n among among' slot. same_numbered m n slot (f m among ∙ ap w slot ∙ sym (g n among'))) e

-- ---- direct maps

map_len : (pools : List PoolEntry) (p size asked len : ℕ) (slot : SlotName) (x : Played) → AsksForMap x p size →
    MakesEntry pools p (Map asked slot len) x → len ≡ (shape_of size).slot
map_len pools p size asked len slot x asks (size', asks', is) = is ∙ ap (λ z. (shape_of z).slot) (map_once x p p size' size asks' asks).1

full_map : (pools : List PoolEntry) (p size asked : ℕ) (x : Played) → AsksForMap x p size → MakesEntry pools p (Full None asked) x →
    FoundNone pools asked (shape_of size).supers
full_map pools p size asked x asks (size', asks', is) =
    subst (λ z. FoundNone pools asked (shape_of z).supers) (map_once x p p size' size asks' asks).1 is

-- the two ops make the lines' only entries
pub beside_makes : (a b : Parts) (before : List Played) (x : Played) (v : Answer) (p : ℕ) (act act' : RootAct) → Beside a b before x v
    → acts_of a.roots x.line p ≡ act ∷ [] → acts_of b.roots x.line p ≡ act' ∷ [] →
    MakesEntry a.pools p act x × MakesEntry b.pools p act' (record x { answer = v })
beside_makes a b before x v p act act' h only only' = (
  makes a x p act h.filed (in_middle before h.rest a.ps x h.parts) only,
  makes b (record x { answer = v }) p act' h.filed' (in_middle before h.rest' b.ps (record x { answer = v }) h.parts') only',
)

-- what the direct maps of a line have in common
pub record AreMaps (a b : Parts) (n : ℕ) (i j : ℕ) (s t : SlotName) (m k : ℕ) : Type 0 where
  pub slot : s ≡ t
  pub asked : i ≡ j
  pub len : m ≡ k
  pub pool : on pool_line n a.pools ≡ on pool_line n b.pools

-- two direct maps on one line have the same size, so the pool's answer is the same
pub maps_alike : (a b : Parts) (before : List Played) (x : Played) (v : Answer) (p size i j m k : ℕ) (s t : SlotName) →
    Beside a b before x v → AsksForMap x p size →
    OnlyActs a.roots x.line p (Map i s m ∷ []) → OnlyActs b.roots x.line p (Map j t k ∷ []) → AreMaps a b x.line i j s t m k
maps_alike a b before x v p size i j m k s t h asks only only' =
    let (make, make') = beside_makes a b before x v p (Map i s m) (Map j t k) h only.0 only'.0 in
    let len : m ≡ k = map_len a.pools p size i m s x asks make ∙ sym (map_len b.pools p size j k t x asks make') in
    let (first, run, start, born) = one_fits a x.line p (Map i s m) h.filed only.0 in
    let (first', run', start', born') = other_fits a b x.line p (Map j t k) h.filed h.filed' h.agrees only'.0 in
    let both = named a b x.line p i j (Map i s m) (Map j t k) h.filed h.filed' h.agrees only only' refl refl in
    let turn : act_at a.pools i ≡ Some (turns.Take (supers_for k) (Some first)) = run ∙
    ap (λ z. Some (turns.Take (supers_for z) (Some first))) len in
    let found = takes_alike a b x.line p i j (supers_for k) (Some first) (Some first') both turn run' in
    let (place, pool) = named_alike a b x.line p i j (turns.Take (supers_for k) (Some first))
    (turns.Take (supers_for k) (Some first')) both turn run' (ap (λ o. turns.Take (supers_for k) o) found) in
    record {
      slot = name_is s.start s.born t (start ∙ ap (λ (z : ℕ). page_place z 1) (of_some first first' found) ∙ sym start')
          (born ∙ place ∙ sym born');
      asked = place;
      len = len;
      pool = pool;
    }

-- ---- no room

-- what two entries that found no room have in common
pub record AreFulls (a b : Parts) (n i j : ℕ) : Type 0 where
  pub asked : i ≡ j
  pub pool : on pool_line n a.pools ≡ on pool_line n b.pools

full_takes : (a b : Parts) (n p i j count : ℕ) → AreNamed a b n p i j → FoundNone a.pools i count → FoundNone b.pools j count →
    AreFulls a b n i j
full_takes a b n p i j count both run run' =
    let (place, pool) = named_alike a b n p i j (turns.Take count None) (turns.Take count None) both run run' refl in
    record { asked = place; pool = pool }

pub fulls_alike : (a b : Parts) (n p class i j : ℕ) → IsFiled a → IsFiled b → Agrees n a b
    → OnlyActs a.roots n p (Full (Some class) i ∷ []) → OnlyActs b.roots n p (Full (Some class) j ∷ []) → AreFulls a b n i j
fulls_alike a b n p class i j h k agrees only only' =
    let one = one_fits a n p (Full (Some class) i) h only.0 in
    let two = other_fits a b n p (Full (Some class) j) h k agrees only'.0 in
    full_takes a b n p i j 1 (named a b n p i j (Full (Some class) i) (Full (Some class) j) h k agrees only only' refl refl) one.1 two.1

pub map_fulls_alike : (a b : Parts) (before : List Played) (x : Played) (v : Answer) (p size i j : ℕ) → Beside a b before x v →
    AsksForMap x p size →
    OnlyActs a.roots x.line p (Full None i ∷ []) → OnlyActs b.roots x.line p (Full None j ∷ []) → AreFulls a b x.line i j
map_fulls_alike a b before x v p size i j h asks only only' =
    let (make, make') = beside_makes a b before x v p (Full None i) (Full None j) h only.0 only'.0 in
    full_takes a b x.line p i j (shape_of size).supers
    (named a b x.line p i j (Full None i) (Full None j) h.filed h.filed' h.agrees only only' refl refl)
    (full_map a.pools p size i x asks make) (full_map b.pools p size j x asks make')

-- no line fills in one run and has no room in the other
pub fill_or_full : (a b : Parts) (n p class j : ℕ) (asked : Option ℕ) (xs : List Numbered) → IsFiled a → IsFiled b → Agrees n a b →
    OnlyActs a.roots n p (Fill class asked xs ∷ []) → OnlyActs b.roots n p (Full (Some class) j ∷ []) → ⊥
fill_or_full a b n p class j None xs h k agrees only only' =
    let one = one_fits a n p (Fill class None xs) h only.0 in
    let two = other_fits a b n p (Full (Some class) j) h k agrees only'.0 in
    true≢false (sym one.1 ∙ two.0)
fill_or_full a b n p class j (Some i) xs h k agrees only only' =
    let one = one_fits a n p (Fill class (Some i) xs) h only.0 in
    let two = other_fits a b n p (Full (Some class) j) h k agrees only'.0 in
    let both = named a b n p i j (Fill class (Some i) xs) (Full (Some class) j) h k agrees only only' refl refl in
    not_some one.1.1 (sym (takes_alike a b n p i j 1 (Some one.1.1) None both one.1.2 two.1))

pub map_or_full : (a b : Parts) (before : List Played) (x : Played) (v : Answer) (p size i j m : ℕ) (s : SlotName) → Beside a b before x v →
    AsksForMap x p size →
    OnlyActs a.roots x.line p (Map i s m ∷ []) → OnlyActs b.roots x.line p (Full None j ∷ []) → ⊥
map_or_full a b before x v p size i j m s h asks only only' =
    let (make, make') = beside_makes a b before x v p (Map i s m) (Full None j) h only.0 only'.0 in
    let len = map_len a.pools p size i m s x asks make in
    let none = full_map b.pools p size j x asks make' in
    let (first, run, start, born) = one_fits a x.line p (Map i s m) h.filed only.0 in
    let both = named a b x.line p i j (Map i s m) (Full None j) h.filed h.filed' h.agrees only only' refl refl in
    let turn : act_at a.pools i ≡ Some (turns.Take (shape_of size).supers (Some first)) = run ∙
    ap (λ z. Some (turns.Take (supers_for z) (Some first))) len in
    not_some first (sym (takes_alike a b x.line p i j (shape_of size).supers (Some first) None both turn none))

-- ---- direct maps that go back

pub unmaps_alike : (a b : Parts) (n p i j : ℕ) (slot : Numbered) → IsFiled a → IsFiled b → Agrees n a b →
    OnlyActs a.roots n p (Unmap i slot ∷ []) → OnlyActs b.roots n p (Unmap j slot ∷ []) →
    (i ≡ j) × (on pool_line n a.pools ≡ on pool_line n b.pools)
unmaps_alike a b n p i j slot h k agrees only only' =
    let (len, first, among, start, run) = one_fits a n p (Unmap i slot) h only.0 in
    let (len', first', among', start', run') = other_fits a b n p (Unmap j slot) h k agrees only'.0 in
    let sound = (journal_leaves a.pools (below entry_line n (a.roots p)) (front_journal a n p h)).sound in
    let one : len ≡ len' = ap (λ (t : Title). t.len)
    (one_by (λ (t : Title). t.born) (root_at a n p).maps (map_title slot.slot len)
    (map_title slot.slot len') sound.alone among among' refl) in
    let place : page_place first 1 ≡ page_place first' 1 = sym start ∙ start' in
    let from : first ≡ first' = omega arith in
    let act : turns.Give (supers_for len) first ≡ turns.Give (supers_for len') first' = ap (λ z. turns.Give (supers_for z) first) one ∙
    ap (λ z. turns.Give (supers_for len') z) from in
    named_alike a b n p i j (turns.Give (supers_for len) first) (turns.Give (supers_for len') first')
    (named a b n p i j (Unmap i slot) (Unmap j slot) h k agrees only only' refl refl) run run' act
