-- The titles that a journal's fills took and its maps made lie apart.
use Rattle.std.proofs.Common.{◌≡◌, ◌≢◌, ℕ, ◌+◌, ◌<◌, ◌≤◌, false, List, [], ◌∷◌, ◌++◌, sym, ◌∙◌, ap, subst, arith, ◌⊎◌, inl, inr, Option, Some, None}
use Rattle.std.specs.Prelude.{Contains}
use Rattle.std.specs.List.{cons_option}
use Rattle.std.proofs.lemmas.List.{append-nil, append_assoc}
use Rattle.std.proofs.lemmas.List.Elements.{Contains-append_cases}
use Rattle.pa_slot.specs.declared.title.Title.{Title}
use Rattle.pa_slot.specs.declared.word.SlotName.{SlotName}
use Rattle.pa_layout.specs.Pages.{page_place, supers_for}
use Rattle.pa_buckets.specs.Bands.{fill_of}
use Rattle.pa_buckets.specs.Table.{slots_of}
use Rattle.pa_record.specs.declared.taken.SuperPage.{SuperPage}
use Rattle.pa_record.specs.declared.pool.PoolEntry.{PoolEntry}
use Rattle.pa_record.specs.declared.root.RootEntry.{RootEntry}
use Rattle.pa_record.specs.declared.root.RootAct.{RootAct}
use Rattle.pa_record.specs.declared.root.RootAct.TheVariants.{Fill, Map, Full, Give, Unmap, Purge}
use Rattle.pa_record.specs.Pool.{act_at, FoundRun}
use Rattle.pa_record.specs.Spans.{Span, title_at, same_place}
use Rattle.pa_record.specs.Root.{Root, new_root, takes, opened, opened_by, super_of, map_title, mapped, root_next, root_replayed, RootActFits, RootReplays, RiseFrom, all_asked, asked_by}
use Rattle.pa_record.specs.Sound.{IsSound, IsSettled, IsBornBelow, IsMade, AsksFrom, least_after, least_after_all, IsNext, TitlesApart, IsMapped}
use Rattle.pa_lists.proofs.Members.{not_in_none, in_cases, not_some}
use Rattle.pa_lists.proofs.Pairs.{pairs_none}
use Rattle.pa_record.proofs.Slots.{slots_apart}
use Rattle.pa_record.proofs.Filling.{takes_filled, opened_sound}
use Rattle.pa_record.proofs.Mapping.{OtherBorn, born_more}
use Rattle.pa_record.proofs.Stepping.{next_is}

-- the titles that an entry takes or maps
abbrev pub next_titles : List PoolEntry → RootAct → Root → List Title
next_titles pools (Fill class asked slots) r = (takes class (fill_of class) (opened_by pools asked r)).titles
next_titles pools (Map asked slot len) r = map_title slot len ∷ []
next_titles pools (Full class asked) r = []
next_titles pools (Give slots) r = []
next_titles pools (Unmap asked slot) r = []
next_titles pools Purge r = []

-- the titles that a journal takes or maps
abbrev pub titles_taken : List PoolEntry → List RootEntry → Root → List Title
titles_taken pools [] r = []
titles_taken pools (e ∷ es) r = next_titles pools e.act r ++ titles_taken pools es (root_next pools e.act r)

-- a root at the start
pub new_sound : IsSound new_root
new_sound = record {
  spans = λ s among. absurd (not_in_none s among);
  placed = λ s among. absurd (not_in_none s among);
  below = λ s at among. absurd (not_in_none s among);
  pages = λ at now. absurd (not_some at now);
  places = pairs_none (λ s t. same_place s t ≡ false);
  apart = λ s t among. absurd (not_in_none s among);
  turns = λ s among. absurd (not_in_none s among);
  order = λ s t among. absurd (not_in_none s among);
  mixed = λ t at among. absurd (not_in_none t among);
  alone = pairs_none OtherBorn;
}

pub new_born : IsBornBelow 0 new_root
new_born = record { supers = λ at member. absurd (not_in_none at member); maps = λ t among. absurd (not_in_none t among) }

-- rising entries of the pool, one journal entry after another
pub rise_parts : (n : ℕ) (o : Option ℕ) (rest : List ℕ) → RiseFrom n (cons_option o rest) → AsksFrom n o × RiseFrom (least_after n o) rest
rise_parts n None rest h = (tt, h)
rise_parts n (Some j) rest h = h

-- two slots that were made
made_low : (r : Root) (s : Span) (n : ℕ) → IsSound r → Contains r.spans s → n < s.made → n < slots_of s.class
made_low r s n sound among below = let c = (sound.spans s among).counted in let p = c.most in omega arith

pub made_apart : (r : Root) (t u : Title) → IsSound r → IsMade r t → IsMade r u → t.born ≡ u.born → (t ≡ u) ⊎ TitlesApart t u
made_apart r t u sound (s, among, n, below, e) (s', among', m, below', f) born =
    let near : s.born ≡ s'.born = sym (ap (λ (x : Title). x.born) e) ∙ born ∙ ap (λ (x : Title). x.born) f in
    elim (slots_apart r s s' n m sound among among' (made_low r s n sound among below) (made_low r s' m sound among' below') near) [
      | inl one ↦ inl (e ∙ ap (λ (z : Span). title_at z n) one.span ∙ ap (λ k. title_at s' k) one.number ∙ sym f)
      | inr apart ↦ inr (subst (λ x. TitlesApart x u) (sym e) (subst (λ x. TitlesApart (title_at s n) x) (sym f) apart))
    ]

pub made_born : (r : Root) (t : Title) → IsSound r → IsMade r t → (at : SuperPage) × Contains r.supers at × (t.born ≡ at.born)
made_born r t sound (s, among, n, below, e) =
    let (at, page, p) = sound.placed s among in
    (at, p.among, ap (λ (x : Title). x.born) e ∙ p.born)

-- a direct map that was made before, whose entry of the pool no super page of the root has
abbrev pub IsOldMap : ℕ → Root → Title → Type 0
IsOldMap n r t = (t.born < n) × ((at : SuperPage) → Contains r.supers at → t.born ≢ at.born)

-- titles of one entry of the pool are equal or don't overlap, and each is a slot that was made or a direct map
pub record LieApart (pools : List PoolEntry) (r : Root) (ts : List Title) : Type 0 where
  pub apart : (t u : Title) → Contains ts t → Contains ts u → t.born ≡ u.born → (t ≡ u) ⊎ TitlesApart t u
  pub lie : (t : Title) → Contains ts t → IsMade r t ⊎ ((first : ℕ) × IsMapped pools t first)

-- what is known of the titles so far
pub record IsKnown (pools : List PoolEntry) (n : ℕ) (r : Root) (ts : List Title) : Type 0 where
  pub each : (t : Title) → Contains ts t → IsMade r t ⊎ IsOldMap n r t
  pub titles : LieApart pools r ts

known_none : (pools : List PoolEntry) (n : ℕ) (r : Root) → IsKnown pools n r []
known_none pools n r = record {
  each = λ t among. absurd (not_in_none t among);
  titles = record { apart = λ t u among. absurd (not_in_none t among); lie = λ t among. absurd (not_in_none t among) };
}

old_map_stays : (n m : ℕ) (r after : Root) (t : Title) → n ≤ m →
    ((at : SuperPage) → Contains after.supers at → Contains r.supers at ⊎ (n ≤ at.born)) →
    IsOldMap n r t → IsOldMap m after t
old_map_stays n m r after t more news old = (
  let p = old.0 in omega arith,
  λ at member. elim (news at member) [
    | inl before ↦ old.1 at before
    | inr late ↦ λ e. let p = old.0 in omega arith
  ],
)

pub least_more : (n : ℕ) (o : Option ℕ) → AsksFrom n o → n ≤ least_after n o
least_more n None asks = omega arith
least_more n (Some j) asks = omega arith

-- the titles of one entry, made in a root or one direct map with an entry of its own
pub made_or_map : (after : Root) (m : ℕ) (t u : Title) → IsSound after → IsMade after t → IsOldMap m after u → t.born ≡ u.born → ⊥
made_or_map after m t u sound made old same =
    let (at, member, born) = made_born after t sound made in
    old.1 at member (sym same ∙ born)

-- more titles, all of them slots
with_slots : (pools : List PoolEntry) (m : ℕ) (after : Root) (ts new : List Title) → IsSound after → IsKnown pools m after ts →
    ((t : Title) → Contains new t → IsMade after t) → IsKnown pools m after (ts ++ new)
with_slots pools m after ts new sound known made = record {
  each = λ t among. elim (Contains-append_cases ts new t among) [ inl old ↦ known.each t old | inr fresh ↦ inl (made t fresh) ];
  titles = record {
    apart = λ t u among among' same. elim (Contains-append_cases ts new t among) [
      | inl old ↦ elim (Contains-append_cases ts new u among') [
        | inl old' ↦ known.titles.apart t u old old' same
        | inr fresh' ↦ elim (known.each t old) [
          | inl slot ↦ made_apart after t u sound slot (made u fresh') same
          | inr map_before ↦ absurd (made_or_map after m u t sound (made u fresh') map_before (sym same))
        ]
      ]
      | inr fresh ↦ elim (Contains-append_cases ts new u among') [
        | inl old' ↦ elim (known.each u old') [
          | inl slot ↦ made_apart after t u sound (made t fresh) slot same
          | inr map_before ↦ absurd (made_or_map after m t u sound (made t fresh) map_before same)
        ]
        | inr fresh' ↦ made_apart after t u sound (made t fresh) (made u fresh') same
      ]
    ];
    lie = λ t among. elim (Contains-append_cases ts new t among) [
      | inl old ↦ known.titles.lie t old
      | inr fresh ↦ inl (made t fresh)
    ];
  };
}

-- more titles, of which there is none
known_after : (pools : List PoolEntry) (n m : ℕ) (r after : Root) (ts : List Title) → n ≤ m → ((t : Title) → IsMade r t → IsMade after t) →
    ((at : SuperPage) → Contains after.supers at → Contains r.supers at ⊎ (n ≤ at.born)) → IsKnown pools n r ts → IsKnown pools m after ts
known_after pools n m r after ts more keeps news known = record {
  each = λ t among. elim (known.each t among) [ inl slot ↦ inl (keeps t slot) | inr old ↦ inr (old_map_stays n m r after t more news old) ];
  titles = record {
    apart = known.titles.apart;
    lie = λ t among. elim (known.titles.lie t among) [ inl made ↦ inl (keeps t made) | inr mapped ↦ inr mapped ];
  };
}

-- one direct map more
with_map : (pools : List PoolEntry) (n : ℕ) (r : Root) (ts : List Title) (t : Title) (first : ℕ) → IsSound r → IsBornBelow n r →
    n ≤ t.born → IsMapped pools t first →
    IsKnown pools n r ts → IsKnown pools (t.born + 1) r (ts ++ t ∷ [])
with_map pools n r ts t first sound old more mapped known =
    let earlier : (u : Title) → Contains ts u → u.born < n = λ u among. elim (known.each u among) [
      | inl slot ↦ let (at, member, e) = made_born r u sound slot in let p = old.supers at member in omega arith
      | inr map_before ↦ map_before.0
    ] in
    record {
      each = λ u among. elim (Contains-append_cases ts (t ∷ []) u among) [
        | inl before ↦ elim (known.each u before) [
          | inl slot ↦ inl slot
          | inr map_before ↦ inr (let p = map_before.0 in omega arith, map_before.1)
        ]
        | inr new ↦ elim (in_cases t u [] new) [
          | inl e ↦ inr (subst (λ z. IsOldMap (t.born + 1) r z) e
              (omega arith, λ at member same. let p = old.supers at member in omega arith))
          | inr none ↦ absurd (not_in_none u none)
        ]
      ];
      titles = record {
        apart = λ u v among among' same. elim (Contains-append_cases ts (t ∷ []) u among) [
          | inl before ↦ elim (Contains-append_cases ts (t ∷ []) v among') [
            | inl before' ↦ known.titles.apart u v before before' same
            | inr new' ↦ elim (in_cases t v [] new') [
              | inl e ↦ absurd (let p = earlier u before in let q = ap (λ (x : Title). x.born) e in omega arith)
              | inr none ↦ absurd (not_in_none v none)
            ]
          ]
          | inr new ↦ elim (in_cases t u [] new) [
            | inl e ↦ elim (Contains-append_cases ts (t ∷ []) v among') [
              | inl before' ↦ absurd (let p = earlier v before' in let q = ap (λ (x : Title). x.born) e in omega arith)
              | inr new' ↦ elim (in_cases t v [] new') [
                | inl e' ↦ inl (sym e ∙ e')
                | inr none ↦ absurd (not_in_none v none)
              ]
            ]
            | inr none ↦ absurd (not_in_none u none)
          ]
        ];
        lie = λ u among. elim (Contains-append_cases ts (t ∷ []) u among) [
          | inl before ↦ known.titles.lie u before
          | inr new ↦ elim (in_cases t u [] new) [
            | inl e ↦ inr (first, subst (λ z. IsMapped pools z first) e mapped)
            | inr none ↦ absurd (not_in_none u none)
          ]
        ];
      };
    }

-- after an entry that fits
known_none_more : (pools : List PoolEntry) (n : ℕ) (act : RootAct) (r after : Root) (ts : List Title) → IsNext n act r after →
    AsksFrom n (asked_by act) →
    IsKnown pools n r ts → IsKnown pools (least_after n (asked_by act)) after (ts ++ [])
known_none_more pools n act r after ts next asks known =
    subst (λ xs. IsKnown pools (least_after n (asked_by act)) after xs) (sym (append-nil ts))
    (known_after pools n (least_after n (asked_by act)) r after ts (least_more n (asked_by act) asks) next.keeps next.supers known)

pub fill_made : (pools : List PoolEntry) (n class : ℕ) (asked : Option ℕ) (r : Root) → IsSound r → IsBornBelow n r → AsksFrom n asked →
    class < 170 →
    (t : Title) → Contains (takes class (fill_of class) (opened_by pools asked r)).titles t →
    IsMade (takes class (fill_of class) (opened_by pools asked r)).root t
fill_made pools n class None r sound old asks real t among = (takes_filled class (fill_of class) r sound real).made t among
fill_made pools n class (Some j) r sound old asks real t among =
    (takes_filled class (fill_of class) (opened (super_of (act_at pools j)) j r)
    (opened_sound (super_of (act_at pools j)) j r sound (born_more n j r asks old)) real).made t among

map_shape : (pools : List PoolEntry) (asked : ℕ) (slot : SlotName) (len first : ℕ) → FoundRun pools asked (supers_for len) first →
    slot.start ≡ page_place first 1 → slot.born ≡ asked →
    IsMapped pools (map_title slot len) first
map_shape pools asked slot len first run start born = record {
  taken = subst (λ j. FoundRun pools j (supers_for len) first) (sym born) run;
  start = start;
  guard = omega arith;
}

known_next : (pools : List PoolEntry) (act : RootAct) (n : ℕ) (r : Root) (ts : List Title) → IsSound r → IsSettled r → IsBornBelow n r →
    AsksFrom n (asked_by act) →
    RootActFits pools act r → IsNext n act r (root_next pools act r) → IsKnown pools n r ts →
    IsKnown pools (least_after n (asked_by act)) (root_next pools act r) (ts ++ next_titles pools act r)
known_next pools (Fill class asked slots) n r ts sound few old asks fits next known =
    with_slots pools (least_after n asked) (root_next pools (Fill class asked slots) r) ts
    (next_titles pools (Fill class asked slots) r) next.sound
    (known_after pools n (least_after n asked) r (root_next pools (Fill class asked slots) r) ts
    (least_more n asked asks) next.keeps next.supers known)
    (fill_made pools n class asked r sound old asks fits.0)
known_next pools (Map asked slot len) n r ts sound few old asks fits next known =
    let t = map_title slot len in
    let born : t.born ≡ asked = fits.3 in
    let after = mapped t r in
    let grown = with_map pools n r ts t fits.0 sound old (omega arith) (map_shape pools asked slot len fits.0 fits.1 fits.2 fits.3) known in
    subst (λ k. IsKnown pools (k + 1) after (ts ++ t ∷ [])) born
    (known_after pools (t.born + 1) (t.born + 1) r after (ts ++ t ∷ []) (omega arith) (λ u made. made) (λ at member. inl member) grown)
known_next pools (Full class asked) n r ts sound few old asks fits next known =
    known_none_more pools n (Full class asked) r r ts next asks known
known_next pools (Give slots) n r ts sound few old asks fits next known =
    known_none_more pools n (Give slots) r (root_next pools (Give slots) r) ts next asks known
known_next pools (Unmap asked slot) n r ts sound few old asks fits next known =
    known_none_more pools n (Unmap asked slot) r (root_next pools (Unmap asked slot) r) ts next asks known
known_next pools Purge n r ts sound few old asks fits next known =
    known_none_more pools n Purge r (root_next pools Purge r) ts next asks known

-- after a whole journal
pub record IsReplayed (pools : List PoolEntry) (n : ℕ) (r : Root) (ts : List Title) : Type 0 where
  pub sound : IsSound r
  pub settled : IsSettled r
  pub born : IsBornBelow n r
  pub known : IsKnown pools n r ts

all_replayed : (pools : List PoolEntry) (es : List RootEntry) (n : ℕ) (r : Root) (ts : List Title) → IsReplayed pools n r ts →
    RootReplays pools es r → RiseFrom n (all_asked es) →
    IsReplayed pools (least_after_all n es) (root_replayed pools es r) (ts ++ titles_taken pools es r)
all_replayed pools [] n r ts h fits rise = subst (λ xs. IsReplayed pools n r xs) (sym (append-nil ts)) h
all_replayed pools (e ∷ es) n r ts h fits rise =
    let (asks, rest) = rise_parts n (asked_by e.act) (all_asked es) rise in
    let next = next_is pools e.act n r h.sound h.settled h.born asks fits.0 in
    let after = root_next pools e.act r in
    let ih = all_replayed pools es (least_after n (asked_by e.act)) after (ts ++ next_titles pools e.act r)
    (record {
      sound = next.sound;
      settled = next.settled;
      born = next.born;
      known = known_next pools e.act n r ts h.sound h.settled h.born asks fits.0 next h.known;
    })
    fits.1 rest in
    subst (λ xs. IsReplayed pools (least_after_all n (e ∷ es)) (root_replayed pools (e ∷ es) r) xs)
    (append_assoc ts (next_titles pools e.act r) (titles_taken pools es after)) ih

pub journal_replayed : (pools : List PoolEntry) (es : List RootEntry) → RootReplays pools es new_root → RiseFrom 0 (all_asked es) →
    IsReplayed pools (least_after_all 0 es) (root_replayed pools es new_root) (titles_taken pools es new_root)
journal_replayed pools es fits rise =
    all_replayed pools es 0 new_root []
    (record { sound = new_sound; settled = omega arith; born = new_born; known = known_none pools 0 new_root }) fits rise
