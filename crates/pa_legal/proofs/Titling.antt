-- A slot that left a root has one partition, and one class or one length of a direct map.
use Rattle.std.proofs.Common.{◌≡◌, ℕ, ◌<◌, ◌≤◌, List, [], Option, Some, sym, ◌∙◌, ap, subst, arith, inl, inr}
use Rattle.std.specs.Prelude.{Contains}
use Rattle.std.proofs.lemmas.Option.{slice_get-get_or}
use Rattle.pa_slot.specs.declared.title.Title.{Title}
use Rattle.pa_slot.specs.declared.word.SlotName.{SlotName}
use Rattle.pa_buckets.specs.Table.{slot_of}
use Rattle.pa_buckets.specs.Limits.{greatest_raw}
use Rattle.pa_buckets.proofs.Facts.{IsRow-of}
use Rattle.pa_trace.specs.declared.script.Rules.{Rules}
use Rattle.pa_record.specs.declared.numbered.Numbered.{Numbered}
use Rattle.pa_record.specs.declared.pool.PoolEntry.{PoolEntry}
use Rattle.pa_record.specs.declared.root.RootEntry.{RootEntry}
use Rattle.pa_record.specs.declared.root.RootAct.TheVariants.{Fill, Map}
use Rattle.pa_record.specs.Spans.{name_of}
use Rattle.pa_record.specs.Sound.{IsMadeBy, AreTitles}
use Rattle.pa_record.specs.Laws.{leaves_by}
use Rattle.pa_lists.proofs.Members.{first_in}
use Rattle.pa_record.proofs.Lawful.{journal_leaves}
use Rattle.pa_rules.specs.declared.played.Played.{Played}
use Rattle.pa_rules.specs.Roots.{Journals, MakesEntry, AreRoots, IsPoolOf}
use Rattle.pa_rules.specs.Order.{IsOfLine}
use Rattle.pa_rules.specs.Caches.{IsOfClass, IsDirect}
use Rattle.pa_rules.specs.Report.{HasSize}
use Rattle.pa_rules.specs.Sizes.{HasClass}
use Rattle.pa_rules.proofs.Versions.{real_in, slot_in, one_length, long_in}
use Rattle.pa_rules.proofs.Owned.{only_of, title_of, HasLen}
use Rattle.pa_rules.proofs.Flowing.{map_leaves, class_leaves}
use Rattle.pa_rules.proofs.FourPlaces.{HasLeft}
use Rattle.pa_legal.specs.Kinds.{OneKind}

-- titles of one name, which aren't empty, are one
one_title : (pools : List PoolEntry) (IsOne : Title → Type 0) (t u : Title) → AreTitles pools IsOne → IsOne t → IsOne u →
    name_of t ≡ name_of u → 1 ≤ t.len → 1 ≤ u.len → t ≡ u
one_title pools IsOne t u h among among' same some some' =
    let start : t.start ≡ u.start = ap (λ (x : SlotName). x.start) same in
    elim (h.apart t u among among' (ap (λ (x : SlotName). x.born) same)) [
      | inl e ↦ e
      | inr (inl before) ↦ absurd (omega arith)
      | inr (inr past) ↦ absurd (omega arith)
    ]

-- a class of the version of a record
abbrev pub IsAsked : List Played → ℕ → Type 0
IsAsked ps c = (x : Played) × Contains ps x × HasClass x.rules.version c

-- a length above the slots of all classes of the version of a record
abbrev pub IsLong : List Played → ℕ → Type 0
IsLong ps len = (x : Played) × Contains ps x × (greatest_raw x.rules.version < len)

-- the title of a slot of a class
record HasClassTitle (ps : List Played) (pools : List PoolEntry) (roots : Journals) (s : SlotName) (p c : ℕ) (t : Title) : Type 0 where
  made : IsMadeBy pools (roots p) t
  names : name_of t ≡ s
  real : IsAsked ps c
  len : t.len ≡ slot_of c

-- the title of a direct map, which is longer than the slots of any class of its record's version
record HasMapTitle (ps : List Played) (pools : List PoolEntry) (roots : Journals) (s : SlotName) (p len : ℕ) (t : Title) : Type 0 where
  made : IsMadeBy pools (roots p) t
  names : name_of t ≡ s
  size : t.len ≡ len
  long : IsLong ps len

-- entry e of partition p maps slot s with this length
abbrev pub IsMapOf : Journals → ℕ → RootEntry → SlotName → ℕ → Type 0
IsMapOf roots p e s len = (asked : ℕ) × Contains (roots p) e × (e.act ≡ Map asked s len)

map_long : (pools : List PoolEntry) (p asked len : ℕ) (s : SlotName) (x : Played) → MakesEntry pools p (Map asked s len) x →
    greatest_raw x.rules.version < len
map_long pools p asked len s x (size, (reg, is, direct), same) = let long = long_in x.rules.version size direct in omega arith

some_slot : (ps : List Played) (c : ℕ) → IsAsked ps c → 1 ≤ slot_of c
some_slot ps c (x, among, has) = let least = (IsRow-of c (real_in x.rules.version c has)).least_slot in omega arith

some_map : (ps : List Played) (len : ℕ) → IsLong ps len → 1 ≤ len
some_map ps len (x, among, long) = omega arith

module _ (supers partitions : ℕ) (ps : List Played) (pools : List PoolEntry) (roots : Journals) (r : AreRoots partitions ps pools roots)
    (h : IsPoolOf supers ps pools roots) where
  -- the record of an entry's line makes it
  pub entry_made : (p : ℕ) (e : RootEntry) → Contains (roots p) e → (x : Played) × IsOfLine ps e.line x × MakesEntry pools p e.act x
  entry_made p e (j, few, is) = r.lines p j e (slice_get-get_or (roots p) j e few ∙ ap Some is)

  -- entries of one journal give a slot titles of one length
  one_len : (p : ℕ) (t u : Title) → IsMadeBy pools (roots p) t → IsMadeBy pools (roots p) u → name_of t ≡ name_of u → 1 ≤ t.len →
      1 ≤ u.len → t.len ≡ u.len
  one_len p t u among among' same some some' =
      let titles = (journal_leaves pools (roots p) (r.journals p)).titles in
      ap (λ (z : Title). z.len) (one_title pools (IsMadeBy pools (roots p)) t u titles among among' same some some')

  -- a slot of one journal is of no other
  pub one_partition : (s : SlotName) (p q : ℕ) → HasLeft roots p s → HasLeft roots q s → p ≡ q
  one_partition s p q (e, among, leaves) (f, among', leaves') =
      only_of supers partitions ps pools roots q f s r h among' leaves' p e among leaves

  -- a class of the version of one record is one of the version of any other
  asked_by_all : (c : ℕ) (y : Played) → IsAsked ps c → Contains ps y → HasClass y.rules.version c
  asked_by_all c y (x, among, has) member = subst (λ (k : Rules). HasClass k.version c) (r.one x y among member) has

  -- classes of records with slots of one length are one
  one_class_len : (c d : ℕ) → IsAsked ps c → IsAsked ps d → slot_of c ≡ slot_of d → c ≡ d
  one_class_len c d (x, among, has) other same = one_length x.rules.version c d has (asked_by_all d x other among) same

  -- the slots of a class of a record are shorter than any direct map
  shorter : (c len : ℕ) → IsAsked ps c → IsLong ps len → slot_of c < len
  shorter c len asked (y, member, long) = let most = slot_in y.rules.version c (asked_by_all c y asked member) in omega arith

  -- the class of a fill is the one that its record asks for
  class_asked : (p c : ℕ) (asked : Option ℕ) (slots : List Numbered) (e : RootEntry) → Contains (roots p) e → e.act ≡ Fill c asked slots →
      IsAsked ps c
  class_asked p c asked slots e among is =
      let (x, of, makes) = entry_made p e among in
      let (reg, size, asks, class) = subst (λ act. MakesEntry pools p act x) is makes in
      (x, of.0, (class.from, class.real))

  pub real_class : (s : SlotName) (p c : ℕ) → IsOfClass roots s p c → IsAsked ps c
  real_class s p c (e, asked, slots, among, is, member) = class_asked p c asked slots e among is

  class_title : (s : SlotName) (p c : ℕ) → IsOfClass roots s p c → (t : Title) × HasClassTitle ps pools roots s p c t
  class_title s p c (e, asked, slots, among, is, member) =
      let (t, made, named, sized) =
      title_of pools (roots p) e s (r.journals p) among (subst (λ act. Contains (leaves_by act) s) (sym is) member) in
      let (small, len) = subst (λ act. HasLen act t) is sized in
      (t, record { made = made; names = named; real = class_asked p c asked slots e among is; len = len })

  map_title_of : (s : SlotName) (p len : ℕ) (e : RootEntry) → IsMapOf roots p e s len → (t : Title) × HasMapTitle ps pools roots s p len t
  map_title_of s p len e (asked, among, is) =
      let (t, made, named, sized) =
      title_of pools (roots p) e s (r.journals p) among (subst (λ act. Contains (leaves_by act) s) (sym is) (first_in s [])) in
      let size : t.len ≡ len = subst (λ act. HasLen act t) is sized in
      let (x, of, makes) = entry_made p e among in
      let long = map_long pools p asked len s x (subst (λ act. MakesEntry pools p act x) is makes) in
      (t, record { made = made; names = named; size = size; long = (x, of.0, long) })

  -- a slot has one length of a direct map
  pub one_map : (s : SlotName) (p len more : ℕ) (e f : RootEntry) → IsMapOf roots p e s len → IsMapOf roots p f s more → len ≡ more
  one_map s p len more e f x y =
      let (t, v) = map_title_of s p len e x in
      let (u, w) = map_title_of s p more f y in
      let some' = some_map ps len v.long in
      let others = some_map ps more w.long in
      let size = v.size in
      let size' = w.size in
      sym size ∙ one_len p t u v.made w.made (v.names ∙ sym w.names) (omega arith) (omega arith) ∙ size'

  class_here : (s : SlotName) (p c d : ℕ) → IsOfClass roots s p c → IsOfClass roots s p d → c ≡ d
  class_here s p c d x y =
      let (t, v) = class_title s p c x in
      let (u, w) = class_title s p d y in
      let some' = some_slot ps c v.real in
      let others = some_slot ps d w.real in
      let len = v.len in
      let len' = w.len in
      let same : t.len ≡ u.len = one_len p t u v.made w.made (v.names ∙ sym w.names) (omega arith) (omega arith) in
      one_class_len c d v.real w.real (sym len ∙ same ∙ len')

  pub one_class : (s : SlotName) (p q c d : ℕ) → IsOfClass roots s p c → IsOfClass roots s q d → (p ≡ q) × (c ≡ d)
  one_class s p q c d x y =
      let same : p ≡ q = one_partition s p q (class_leaves roots s p c x) (class_leaves roots s q d y) in
      (same, class_here s q c d (subst (λ k. IsOfClass roots s k c) same x) y)

  pub one_direct : (s : SlotName) (p q : ℕ) → IsDirect roots s p → IsDirect roots s q → p ≡ q
  one_direct s p q x y = one_partition s p q (map_leaves roots s p x) (map_leaves roots s q y)

  class_or_direct_here : (s : SlotName) (p c : ℕ) → IsOfClass roots s p c → IsDirect roots s p → ⊥
  class_or_direct_here s p c x (e, asked, len', among, is) =
      let (t, v) = class_title s p c x in
      let (u, w) = map_title_of s p len' e (asked, among, is) in
      let some' = some_slot ps c v.real in
      let others = some_map ps len' w.long in
      let less = shorter c len' v.real w.long in
      let len = v.len in
      let size = w.size in
      let same : t.len ≡ u.len = one_len p t u v.made w.made (v.names ∙ sym w.names) (omega arith) (omega arith) in
      omega arith

  pub class_or_direct : (s : SlotName) (p q c : ℕ) → IsOfClass roots s p c → IsDirect roots s q → ⊥
  class_or_direct s p q c x y =
      let same : p ≡ q = one_partition s p q (class_leaves roots s p c x) (map_leaves roots s q y) in
      class_or_direct_here s q c (subst (λ k. IsOfClass roots s k c) same x) y

  direct_of : (s : SlotName) (p len : ℕ) → (e : RootEntry) × (asked : ℕ) × Contains (roots p) e × (e.act ≡ Map asked s len) →
      IsDirect roots s p
  direct_of s p len (e, asked, among, is) = (e, asked, len, among, is)

  pub one_size : (s : SlotName) (p q len more : ℕ) → HasSize roots p s len → HasSize roots q s more → (p ≡ q) × (len ≡ more)
  one_size s p q len more (inl (c, x, is)) (inl (d, y, is')) = let (same, e) = one_class s p q c d x y in
      (same, is ∙ ap slot_of e ∙ sym is')
  one_size s p q len more (inl (c, x, is)) (inr y) = absurd (class_or_direct s p q c x (direct_of s q more y))
  one_size s p q len more (inr x) (inl (d, y, is)) = absurd (class_or_direct s q p d y (direct_of s p len x))
  one_size s p q len more (inr (e, asked, among, is)) (inr (f, asked', among', is')) =
      let same = one_direct s p q (e, asked, len, among, is) (f, asked', more, among', is') in
      (same, one_map s q len more e f (asked, subst (λ k. Contains (roots k) e) same among, is) (asked', among', is'))

pub one_kind : OneKind
one_kind supers partitions ps pools roots s r h = record {
  class = λ p q c d. one_class supers partitions ps pools roots r h s p q c d;
  real = λ p c. real_class supers partitions ps pools roots r h s p c;
  direct = λ p q. one_direct supers partitions ps pools roots r h s p q;
  either = λ p q c. class_or_direct supers partitions ps pools roots r h s p q c;
  size = λ p q len more. one_size supers partitions ps pools roots r h s p q len more;
}
