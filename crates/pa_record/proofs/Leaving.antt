-- A slot is out of a root exactly when it left it once more than it came back.
use Rattle.std.proofs.Common.{◌≡◌, ◌≢◌, ℕ, ◌+◌, ◌<◌, true, ◌&&◌, cond, eqb, List, [], ◌∷◌, map, refl, sym, ◌∙◌, ap, subst, arith, ◌⊎◌, inl, inr, Some, None}
use Rattle.std.specs.Prelude.{Contains, AllPairs}
use Rattle.std.proofs.lemmas.Bool.{cases_Bool, both_ways}
use Rattle.std.proofs.lemmas.List.Elements.{Contains-push_cases, Contains-append_left, Contains-push, All-contains}
use Rattle.std.proofs.lemmas.List.Sums.{sum_by-cons}
use Rattle.pa_slot.specs.declared.title.Title.{Title}
use Rattle.pa_slot.specs.declared.word.SlotName.{SlotName}
use Rattle.pa_slot.specs.Run.{same_slot}
use Rattle.pa_buckets.specs.Bands.{fill_of}
use Rattle.pa_record.specs.declared.pool.PoolEntry.{PoolEntry}
use Rattle.pa_record.specs.declared.root.RootEntry.{RootEntry}
use Rattle.pa_record.specs.declared.root.RootAct.{RootAct}
use Rattle.pa_record.specs.declared.root.RootAct.TheVariants.{Fill, Map, Full, Give, Unmap, Purge}
use Rattle.pa_record.specs.Pool.{act_at}
use Rattle.pa_record.specs.Spans.{title_at, name_of}
use Rattle.pa_record.specs.Root.{Root, Filled, new_root, takes, opened, super_of, map_title, mapped, unmapped, without_map, names, all_returned, purged, empties, root_next, root_replayed, RootActFits, RootReplays, RiseFrom, all_asked, asked_by, IsOut, IsOutOf}
use Rattle.pa_record.specs.Sound.{IsSound, IsSettled, IsBornBelow, AsksFrom, least_after}
use Rattle.pa_record.specs.Steps.{IsFilled}
use Rattle.pa_record.specs.Laws.{leaves_by, comes_by, times, times_left, times_back, IsNameOut, IsOutBy, OutIsLeft}
use Rattle.pa_record.proofs.Tested.{same_name, same_name-true, same_name-self}
use Rattle.pa_lists.proofs.Members.{not_in_none, first_in, later_in, in_cases}
use Rattle.pa_lists.proofs.Pairs.{pairs_none, pairs_cons, pairs_head, pairs_tail}
use Rattle.pa_record.proofs.Entering.{one_if}
use Rattle.pa_record.proofs.Filling.{takes_filled, opened_sound}
use Rattle.pa_record.proofs.Returning.{all_returned_is, times_is}
use Rattle.pa_record.proofs.Mapping.{OtherBorn, without_map_in, born_more}
use Rattle.pa_record.proofs.Stepping.{next_is}
use Rattle.pa_record.proofs.Titles.{new_sound, new_born, rise_parts}

-- a name is once in a list of different names, or not at all
pub once_or_not : (name : SlotName) (xs : List SlotName) → AllPairs ◌≢◌ xs → (Contains xs name × (times name xs ≡ 1)) ⊎
    ((Contains xs name → ⊥) × (times name xs ≡ 0))
once_or_not name [] h = inr (λ among. not_in_none name among, refl)
once_or_not name (x ∷ xs) h =
    let R : SlotName → SlotName → Type 0 = λ a b. a ≢ b in
    let c = sum_by-cons (λ y. cond (same_slot name y) 1 0) x xs in
    elim (cases_Bool (same_slot name x)) [
      | inl here ↦
          let e : name ≡ x = same_name-true name x here in
          elim (once_or_not name xs (pairs_tail R x xs h)) [
            | inl again ↦ absurd (pairs_head R x name xs h again.0 (sym e))
            | inr rest ↦
                let k : one_if (same_slot name x) ≡ 1 = ap one_if here in
                let m = rest.1 in
                inl (subst (λ z. Contains (x ∷ xs) z) (sym e) (first_in x xs), omega arith)
          ]
      | inr other ↦
          let k : one_if (same_slot name x) ≡ 0 = ap one_if other in
          elim (once_or_not name xs (pairs_tail R x xs h)) [
            | inl rest ↦ let m = rest.1 in inl (later_in x name xs rest.0, omega arith)
            | inr rest ↦
                let m = rest.1 in
                inr (
                  λ among. elim (in_cases x name xs among) [
                    | inl e ↦ both_ways _ other (subst (λ z. same_name name z ≡ true) (sym e) (same_name-self name))
                    | inr later ↦ rest.0 later
                  ],
                  omega arith,
                )
          ]
    ]

-- a slot's and a direct map's name
pub slot_out : (r : Root) (name : SlotName) → IsOut r name → IsNameOut r name
slot_out r name (s, among, n, out) = (title_at s n, inl (s, among, n, subst (λ x. IsOutOf s x n) out.named out, refl), out.named)

pub name_cases : (r : Root) (name : SlotName) → IsNameOut r name → IsOut r name ⊎ ((u : Title) × Contains r.maps u × (name ≡ name_of u))
name_cases r name (t, inl (s, among, n, out, e), same) = inl (s, among, n, subst (λ x. IsOutOf s x n) (sym same) out)
name_cases r name (t, inr member, same) = inr (t, member, same)

-- no direct map has the name of a slot that is out
not_both : (r : Root) (name : SlotName) (u : Title) → IsSound r → IsOut r name → Contains r.maps u → name ≡ name_of u → ⊥
not_both r name u sound (s, among, n, out) member same =
    let (at, page, p) = sound.placed s among in
    sound.mixed u at member p.among (ap (λ (x : SlotName). x.born) (sym same ∙ out.named) ∙ p.born)

-- a step in which this name neither leaves nor comes back
unchanged : (r after : Root) (name : SlotName) (a b : ℕ) → (IsNameOut r name → IsNameOut after name) →
    (IsNameOut after name → IsNameOut r name) →
    IsOutBy r name a b → IsOutBy after name a b
unchanged r after name a b there back (inl (out, e)) = inl (there out, e)
unchanged r after name a b there back (inr (none, e)) = inr (λ out. none (back out), e)

came_out : (r after : Root) (name : SlotName) (a b c d : ℕ) → IsNameOut after name → (IsNameOut r name → ⊥) → c ≡ a + 1 → d ≡ b →
    IsOutBy r name a b → IsOutBy after name c d
came_out r after name a b c d now before p q (inl (out, e)) = absurd (before out)
came_out r after name a b c d now before p q (inr (none, e)) = inl (now, omega arith)

went_back : (r after : Root) (name : SlotName) (a b c d : ℕ) → IsNameOut r name → (IsNameOut after name → ⊥) → c ≡ a → d ≡ b + 1 →
    IsOutBy r name a b → IsOutBy after name c d
went_back r after name a b c d before now p q (inl (out, e)) = inr (now, omega arith)
went_back r after name a b c d before now p q (inr (none, e)) = absurd (none before)

-- a name that is out of one root is out of another with the same maps, in which the slots that were out still are
slots_same : (r after : Root) (name : SlotName) → after.maps ≡ r.maps → (IsOut r name → IsOut after name) → IsNameOut r name →
    IsNameOut after name
slots_same r after name e further out = elim (name_cases r name out) [
  | inl slot ↦ slot_out after name (further slot)
  | inr (u, member, same) ↦ (u, inr (subst (λ xs. Contains xs u) (sym e) member), same)
]

-- a name among those of a list of titles
in_map : (ts : List Title) (name : SlotName) → Contains (map name_of ts) name → (t : Title) × Contains ts t × (name_of t ≡ name)
in_map [] name among = absurd (not_in_none name among)
in_map (t ∷ ts) name among = elim (in_cases (name_of t) name (map name_of ts) among) [
  | inl e ↦ (t, first_in t ts, e)
  | inr rest ↦ let (u, member, e) = in_map ts name rest in (u, later_in t u ts member, e)
]

map_in : (ts : List Title) (t : Title) → Contains ts t → Contains (map name_of ts) (name_of t)
map_in [] t among = absurd (not_in_none t among)
map_in (x ∷ ts) t among = elim (in_cases x t ts among) [
  | inl e ↦ subst (λ z. Contains (name_of x ∷ map name_of ts) (name_of z)) e (first_in (name_of x) (map name_of ts))
  | inr rest ↦ later_in (name_of x) (name_of t) (map name_of ts) (map_in ts t rest)
]

pub map_once : (ts : List Title) → AllPairs (λ (t : Title) (u : Title). name_of t ≢ name_of u) ts → AllPairs ◌≢◌ (map name_of ts)
map_once [] h = pairs_none (λ (a : SlotName) (b : SlotName). a ≢ b)
map_once (t ∷ ts) h =
    let R : Title → Title → Type 0 = λ x y. name_of x ≢ name_of y in
    pairs_cons (λ (a : SlotName) (b : SlotName). a ≢ b) (name_of t) (map name_of ts)
    (λ name among e. let (u, member, f) = in_map ts name among in pairs_head R t u ts h member (e ∙ sym f))
    (map_once ts (pairs_tail R t ts h))

-- a fill from a root that is sound
fill_counts : (class : ℕ) (r : Root) (f : Filled) (want : ℕ) (name : SlotName) (a b : ℕ) → IsFilled class want r f → IsOutBy r name a b →
    IsOutBy f.root name (a + times name (map name_of f.titles)) b
fill_counts class r f want name a b h before = elim (once_or_not name (map name_of f.titles) (map_once f.titles h.differ)) [
  | inl (among, one) ↦
      let (t, member, e) = in_map f.titles name among in
      let out : IsOut f.root name = subst (λ z. IsOut f.root z) e (h.out t member) in
      came_out r f.root name a b (a + times name (map name_of f.titles)) b (slot_out f.root name out)
      (λ old. elim (name_cases r name old) [
        | inl slot ↦ h.fresh t member (subst (λ z. IsOut r z) (sym e) slot)
        | inr (u, in_maps, same) ↦ not_both f.root name u h.sound out (subst (λ xs. Contains xs u) (sym h.maps) in_maps) same
      ])
      (omega arith) refl before
  | inr (away, none) ↦
      let e : a + times name (map name_of f.titles) ≡ a = omega arith in
      subst (λ k. IsOutBy f.root name k b) (sym e)
      (unchanged r f.root name a b
      (slots_same r f.root name h.maps (h.stays name))
      (slots_same f.root r name (sym h.maps) (λ out. elim (h.only name out) [
        | inl old ↦ old
        | inr (t, member, same) ↦ absurd (away (subst (λ z. Contains (map name_of f.titles) z) (sym same) (map_in f.titles t member)))
      ]))
      before)
]

-- a direct map's name
map_named : (slot : SlotName) (len : ℕ) → name_of (map_title slot len) ≡ slot
map_named slot len = refl

pub kept_map : (slot : SlotName) (ts : List Title) (u : Title) → Contains ts u → (name_of u ≡ slot → ⊥) → Contains (without_map slot ts) u
kept_map slot [] u among other = absurd (not_in_none u among)
kept_map slot (t ∷ ts) u among other = elim (cases_Bool (eqb t.start slot.start && eqb t.born slot.born)) [
  | inl hit ↦ elim (in_cases t u ts among) [
    | inl e ↦ absurd (other (same_name-true (name_of u) slot
        (subst (λ (z : Title). (eqb z.start slot.start && eqb z.born slot.born) ≡ true) e hit)))
    | inr rest ↦ rw hit rest
  ]
  | inr miss ↦ elim (in_cases t u ts among) [
    | inl e ↦ rw miss (subst (λ z. Contains (t ∷ without_map slot ts) z) e (first_in t (without_map slot ts)))
    | inr rest ↦ rw miss (later_in t u (without_map slot ts) (kept_map slot ts u rest other))
  ]
]

gone_map : (slot : SlotName) (ts : List Title) (u : Title) → AllPairs OtherBorn ts → Contains (without_map slot ts) u → slot ≡ name_of u → ⊥
gone_map slot [] u h among same = not_in_none u among
gone_map slot (t ∷ ts) u h among same = elim (cases_Bool (eqb t.start slot.start && eqb t.born slot.born)) [
  | inl hit ↦
      let e : name_of t ≡ slot = same_name-true (name_of t) slot hit in
      pairs_head OtherBorn t u ts h (rw hit at among) (ap (λ (x : SlotName). x.born) (e ∙ same))
  | inr miss ↦ elim (in_cases t u (without_map slot ts) (rw miss at among)) [
    | inl e ↦ both_ways _ miss
        (subst (λ (z : SlotName). same_name (name_of t) z ≡ true) (ap name_of e ∙ sym same) (same_name-self (name_of t)))
    | inr rest ↦ gone_map slot ts u (pairs_tail OtherBorn t ts h) rest same
  ]
]

one_name : (name slot : SlotName) → ((name ≡ slot) × (times name (slot ∷ []) ≡ 1)) ⊎ ((name ≡ slot → ⊥) × (times name (slot ∷ []) ≡ 0))
one_name name slot = elim (cases_Bool (same_slot name slot)) [
  | inl here ↦ inl (same_name-true name slot here, let k : one_if (same_slot name slot) ≡ 1 = ap one_if here in omega arith)
  | inr other ↦ inr (
    λ e. both_ways _ other (subst (λ z. same_name name z ≡ true) e (same_name-self name)),
    let k : one_if (same_slot name slot) ≡ 0 = ap one_if other in omega arith,
  )
]

-- after each entry that fits
born_low : (n : ℕ) (r : Root) (name : SlotName) → IsSound r → IsBornBelow n r → IsNameOut r name → name.born < n
born_low n r name sound old out = elim (name_cases r name out) [
  | inl (s, among, k, is) ↦
      let (at, page, p) = sound.placed s among in
      let q = old.supers at p.among in
      let e = ap (λ (x : SlotName). x.born) is.named in
      let f = p.born in
      omega arith
  | inr (u, member, same) ↦ let q = old.maps u member in let e = ap (λ (x : SlotName). x.born) same in omega arith
]

next_counts : (pools : List PoolEntry) (act : RootAct) (n : ℕ) (r : Root) (name : SlotName) (a b : ℕ) → IsSound r → IsSettled r →
    IsBornBelow n r → AsksFrom n (asked_by act) →
    RootActFits pools act r → IsOutBy r name a b →
    IsOutBy (root_next pools act r) name (a + times name (leaves_by act)) (b + times name (comes_by act))
next_counts pools (Fill class None slots) n r name a b sound few old asks fits before =
    let f = takes_filled class (fill_of class) r sound fits.0 in
    let z : b + 0 ≡ b = omega arith in
    subst (λ k. IsOutBy (takes class (fill_of class) r).root name (a + times name (names slots)) k) (sym z)
    (subst (λ xs. IsOutBy (takes class (fill_of class) r).root name (a + times name xs) b) fits.2
    (fill_counts class r (takes class (fill_of class) r) (fill_of class) name a b f before))
next_counts pools (Fill class (Some j) slots) n r name a b sound few old asks fits before =
    let new = opened (super_of (act_at pools j)) j r in
    let f = takes_filled class (fill_of class) new (opened_sound (super_of (act_at pools j)) j r sound (born_more n j r asks old)) fits.0 in
    let z : b + 0 ≡ b = omega arith in
    let same : IsOutBy new name a b =
    unchanged r new name a b (slots_same r new name refl (λ out. out)) (slots_same new r name refl (λ out. out)) before in
    subst (λ k. IsOutBy (takes class (fill_of class) new).root name (a + times name (names slots)) k) (sym z)
    (subst (λ xs. IsOutBy (takes class (fill_of class) new).root name (a + times name xs) b) fits.2
    (fill_counts class new (takes class (fill_of class) new) (fill_of class) name a b f same))
next_counts pools (Map asked slot len) n r name a b sound few old asks fits before =
    let t = map_title slot len in
    let after = mapped t r in
    elim (one_name name slot) [
      | inl (e, one) ↦
          came_out r after name a b (a + times name (slot ∷ [])) (b + 0)
          (t, inr (Contains-push r.maps t), e)
          (λ out. let low = born_low n r name sound old out in let p = ap (λ (x : SlotName). x.born) e in let q = fits.3 in omega arith)
          (omega arith) (omega arith) before
      | inr (other, none) ↦
          let x : a + times name (slot ∷ []) ≡ a = omega arith in
          let y : b + 0 ≡ b = omega arith in
          subst (λ k. IsOutBy after name k (b + 0)) (sym x) (subst (λ k. IsOutBy after name a k) (sym y)
          (unchanged r after name a b
          (λ out. elim (name_cases r name out) [
            | inl is ↦ slot_out after name is
            | inr (u, member, same) ↦ (u, inr (Contains-append_left r.maps (t ∷ []) u member), same)
          ])
          (λ out. elim (name_cases after name out) [
            | inl is ↦ slot_out r name is
            | inr (u, member, same) ↦ elim (Contains-push_cases r.maps t u member) [
              | inl earlier ↦ (u, inr earlier, same)
              | inr e ↦ absurd (other (same ∙ sym (ap name_of e)))
            ]
          ])
          before))
    ]
next_counts pools (Full class asked) n r name a b sound few old asks fits before =
    let x : a + 0 ≡ a = omega arith in
    let y : b + 0 ≡ b = omega arith in
    subst (λ k. IsOutBy r name k (b + 0)) (sym x) (subst (λ k. IsOutBy r name a k) (sym y) before)
next_counts pools (Give slots) n r name a b sound few old asks fits before =
    let f = all_returned_is (names slots) r sound fits.0 fits.1 in
    let after = all_returned (names slots) r in
    let x : a + 0 ≡ a = omega arith in
    elim (once_or_not name (names slots) fits.1) [
      | inl (among, one) ↦
          let out : IsOut r name = All-contains (IsOut r) (names slots) name fits.0 among in
          went_back r after name a b (a + 0) (b + times name (names slots)) (slot_out r name out)
          (λ still. elim (name_cases after name still) [
            | inl is ↦ f.back name among is
            | inr (u, member, same) ↦ not_both r name u sound out (subst (λ xs. Contains xs u) f.kept.maps member) same
          ])
          (omega arith) (omega arith) before
      | inr (away, none) ↦
          let y : b + times name (names slots) ≡ b = omega arith in
          subst (λ k. IsOutBy after name k (b + times name (names slots))) (sym x) (subst (λ k. IsOutBy after name a k) (sym y)
          (unchanged r after name a b
          (slots_same r after name f.kept.maps (f.stays name away))
          (slots_same after r name (sym f.kept.maps) (f.kept.only name))
          before))
    ]
next_counts pools (Unmap asked slot) n r name a b sound few old asks fits before =
    let after = unmapped slot.slot r in
    let t = map_title slot.slot fits.0 in
    let x : a + 0 ≡ a = omega arith in
    elim (one_name name slot.slot) [
      | inl (e, one) ↦
          went_back r after name a b (a + 0) (b + times name (slot.slot ∷ [])) (t, inr fits.2, e)
          (λ still. elim (name_cases after name still) [
            | inl is ↦ not_both r name t sound is fits.2 e
            | inr (u, member, same) ↦ gone_map slot.slot r.maps u sound.alone member (sym e ∙ same)
          ])
          (omega arith) (omega arith) before
      | inr (other, none) ↦
          let y : b + times name (slot.slot ∷ []) ≡ b = omega arith in
          subst (λ k. IsOutBy after name k (b + times name (slot.slot ∷ []))) (sym x) (subst (λ k. IsOutBy after name a k) (sym y)
          (unchanged r after name a b
          (λ out. elim (name_cases r name out) [
            | inl is ↦ slot_out after name is
            | inr (u, member, same) ↦ (u, inr (kept_map slot.slot r.maps u member (λ e. other (same ∙ e))), same)
          ])
          (λ out. elim (name_cases after name out) [
            | inl is ↦ slot_out r name is
            | inr (u, member, same) ↦ (u, inr (without_map_in slot.slot r.maps u member), same)
          ])
          before))
    ]
next_counts pools Purge n r name a b sound few old asks fits before =
    let f = times_is (empties r) r sound in
    let x : a + 0 ≡ a = omega arith in
    let y : b + 0 ≡ b = omega arith in
    subst (λ k. IsOutBy (purged r) name k (b + 0)) (sym x) (subst (λ k. IsOutBy (purged r) name a k) (sym y)
    (unchanged r (purged r) name a b (slots_same r (purged r) name f.kept.maps (f.stays name))
    (slots_same (purged r) r name (sym f.kept.maps) (f.kept.only name)) before))

all_counts : (pools : List PoolEntry) (es : List RootEntry) (n : ℕ) (r : Root) (name : SlotName) (a b : ℕ) → IsSound r → IsSettled r →
    IsBornBelow n r → RootReplays pools es r →
    RiseFrom n (all_asked es) → IsOutBy r name a b →
    IsOutBy (root_replayed pools es r) name (a + times_left name es) (b + times_back name es)
all_counts pools [] n r name a b sound few old fits rise before =
    let x : a + 0 ≡ a = omega arith in
    let y : b + 0 ≡ b = omega arith in
    subst (λ k. IsOutBy r name k (b + 0)) (sym x) (subst (λ k. IsOutBy r name a k) (sym y) before)
all_counts pools (e ∷ es) n r name a b sound few old fits rise before =
    let (asks, rest) = rise_parts n (asked_by e.act) (all_asked es) rise in
    let next = next_is pools e.act n r sound few old asks fits.0 in
    let after = root_next pools e.act r in
    let ih = all_counts pools es (least_after n (asked_by e.act)) after name (a + times name (leaves_by e.act))
    (b + times name (comes_by e.act)) next.sound next.settled next.born fits.1 rest
    (next_counts pools e.act n r name a b sound few old asks fits.0 before) in
    let x : a + times name (leaves_by e.act) + times_left name es ≡ a + (times name (leaves_by e.act) + times_left name es) = omega arith in
    let y : b + times name (comes_by e.act) + times_back name es ≡ b + (times name (comes_by e.act) + times_back name es) = omega arith in
    let last = root_replayed pools es after in
    subst (λ k. IsOutBy last name k (b + times_back name (e ∷ es))) x
    (subst (λ k. IsOutBy last name (a + times name (leaves_by e.act) + times_left name es) k) y ih)

nothing_out : (name : SlotName) → IsNameOut new_root name → ⊥
nothing_out name out = elim (name_cases new_root name out) [
  | inl (s, among, n, is) ↦ not_in_none s among
  | inr (u, member, same) ↦ not_in_none u member
]

pub out_is_left : OutIsLeft
out_is_left pools journal name h =
    let last = root_replayed pools journal new_root in
    let x : 0 + times_left name journal ≡ times_left name journal = omega arith in
    let y : 0 + times_back name journal ≡ times_back name journal = omega arith in
    subst (λ k. IsOutBy last name k (times_back name journal)) x (subst (λ k. IsOutBy last name (0 + times_left name journal) k) y
    (all_counts pools journal 0 new_root name 0 0 new_sound (omega arith) new_born h.replays h.rise (inr (nothing_out name, refl))))
