-- The slots in the caches came from fills of their list's partition and class.
use Rattle.std.proofs.Common.{◌≡◌, ℕ, ◌+◌, ◌/◌, List, [], ◌∷◌, filter, take, drop, length, Option, Some, None, sym, ap, subst, arith, inl, inr}
use Rattle.std.specs.Prelude.{Contains, ◌==◌, nat_lt}
use Rattle.std.proofs.lemmas.Bool.{cases_Bool, cases_eq, eq-eqb, ne_eqb}
use Rattle.std.proofs.lemmas.List.{take-append-drop}
use Rattle.std.proofs.lemmas.List.Elements.{Contains-append_left}
use Rattle.pa_slot.specs.declared.word.SlotName.{SlotName}
use Rattle.pa_slot.specs.declared.word.Step.{Step}
use Rattle.pa_slot.specs.Count.{number_of}
use Rattle.pa_buckets.specs.Bands.{limit_of}
use Rattle.pa_record.specs.declared.entry.Seen.{Seen}
use Rattle.pa_record.specs.declared.entry.Answer.{Answer}
use Rattle.pa_record.specs.declared.entry.Answer.TheVariants as answers
use Rattle.pa_record.specs.declared.numbered.Numbered.{Numbered}
use Rattle.pa_record.specs.declared.root.RootEntry.{RootEntry}
use Rattle.pa_record.specs.declared.root.RootAct.{RootAct}
use Rattle.pa_record.specs.declared.root.RootAct.TheVariants.{Fill}
use Rattle.pa_lists.proofs.Members.{not_in_none, first_in, later_in, in_cases}
use Rattle.pa_lists.proofs.Joined.{map_cases, map_in, filter_cases}
use Rattle.pa_rules.specs.declared.played.Played.{Played}
use Rattle.pa_rules.specs.Played.{step_of}
use Rattle.pa_rules.specs.Roots.{Journals}
use Rattle.pa_rules.specs.Caches.{Cache, Caches, with_list, with_cache, SameLists, acts_of, FilledFirst, MadeRow, ReturnRow, DoneRow, FullRow, CacheRow, CachesTo, IsOfClass, kept}
use Rattle.pa_rules.specs.Flow.{left_in, back_in}
use Rattle.pa_rules.proofs.Counted.{stands}

-- the slots in a thread's lists came from fills of the list's class
abbrev pub IsKnown : Journals → Cache → Type 0
IsKnown roots cache = (q c : ℕ) (n : Numbered) → Contains (cache q c) n → IsOfClass roots n.slot q c

pub known_same : (roots : Journals) (cache after : Cache) → IsKnown roots cache → SameLists after cache → IsKnown roots after
known_same roots cache after known becomes q c n among = known q c n (subst (λ xs. Contains xs n) (becomes q c) among)

-- the slots of one list are known, and the others stayed
pub known_changed : (roots : Journals) (cache after : Cache) (p class : ℕ) (xs : List Numbered) → IsKnown roots cache →
    SameLists after (with_list cache p class xs) →
    ((n : Numbered) → Contains xs n → IsOfClass roots n.slot p class) → IsKnown roots after
known_changed roots cache after p class xs known becomes new q c n among =
    let there : Contains (with_list cache p class xs q c) n = subst (λ ys. Contains ys n) (becomes q c) among in
    elim (cases_eq q p) [
      | inl e ↦ elim (cases_eq c class) [
        | inl f ↦
            let k : Contains xs n = rw (eq-eqb q p e, eq-eqb c class f) at there in
            subst (λ z. IsOfClass roots n.slot z c) (sym e) (subst (λ z. IsOfClass roots n.slot p z) (sym f) (new n k))
        | inr f ↦ let k : Contains (cache q c) n = rw (eq-eqb q p e, ne_eqb c class f) at there in known q c n k
      ]
      | inr e ↦ let k : Contains (cache q c) n = rw (ne_eqb q p e) at there in known q c n k
    ]

-- the entry of a line
pub entry_of_act : (roots : Journals) (line q : ℕ) (act : RootAct) → acts_of roots line q ≡ act ∷ [] → (e : RootEntry) ×
    Contains (roots q) e × (e.act ≡ act)
entry_of_act roots line q act only =
    let among : Contains (acts_of roots line q) act = subst (λ acts. Contains acts act) (sym only) (first_in act []) in
    let (e, member, same) = map_cases (λ (e : RootEntry). e.act) (filter (λ (e : RootEntry). e.line == line) (roots q)) act among in
    (e, (filter_cases (λ (e : RootEntry). e.line == line) (roots q) e member).0, same)

-- the list from which a slot is taken: its slots are known, and what a fill gave left the root
pub record FirstKeeps (s : SlotName) (roots : Journals) (line p class : ℕ) (old xs : List Numbered) : Type 0 where
  pub known : (n : Numbered) → Contains xs n → IsOfClass roots n.slot p class
  pub flow : left_in s (acts_of roots line p) + stands s old ≡ stands s xs
  pub back : back_in s (acts_of roots line p) ≡ 0
  pub others : (q : ℕ) → (q ≡ p → ⊥) → acts_of roots line q ≡ []

pub first_keeps : (s : SlotName) (roots : Journals) (line p class : ℕ) (old xs : List Numbered) →
    ((n : Numbered) → Contains old n → IsOfClass roots n.slot p class) →
    FilledFirst roots line p class old xs → FirstKeeps s roots line p class old xs
first_keeps s roots line p class [] xs known (asked, only) =
    let (e, among, act) = entry_of_act roots line p (Fill class asked xs) only.0 in
    let left : left_in s (acts_of roots line p) ≡ stands s xs + 0 = ap (left_in s) only.0 in
    record {
      known = λ n member. (e, asked, xs, among, act, map_in (λ (m : Numbered). m.slot) xs n member);
      flow = omega arith;
      back = ap (back_in s) only.0;
      others = only.1;
    }
first_keeps s roots line p class (y ∷ ys) xs known (same, none) =
    let left : left_in s (acts_of roots line p) ≡ 0 = ap (left_in s) (none p) in
    let e : stands s xs ≡ stands s (y ∷ ys) = ap (stands s) same in
    record {
      known = λ n member. known n (subst (λ zs. Contains zs n) same member);
      flow = omega arith;
      back = ap (back_in s) (none p);
      others = λ q ne. none q;
    }

pub kept_in : (class : ℕ) (xs : List Numbered) (n : Numbered) → Contains (kept class xs) n → Contains xs n
kept_in class xs n among = elim (cases_Bool (nat_lt (limit_of class) (length xs))) [
  | inl over ↦
      let k = limit_of class / 2 in
      let front : Contains (take k xs) n = rw over at among in
      subst (λ zs. Contains zs n) (take-append-drop k xs) (Contains-append_left (take k xs) (drop k xs) n front)
  | inr within ↦ rw within at among
]

pub known_with : (roots : Journals) (all : Caches) (thread : ℕ) (next : Cache) → ((t : ℕ) → IsKnown roots (all t)) → IsKnown roots next →
    (t : ℕ) → IsKnown roots (with_cache all thread next t)
known_with roots all thread next known new t = elim (cases_eq t thread) [
  | inl e ↦ rw (eq-eqb t thread e) new
  | inr e ↦ rw (ne_eqb t thread e) (known t)
]

made_known : (roots : Journals) (x : Played) (seen : Seen) (cache after : Cache) → IsKnown roots cache → MadeRow roots x seen cache after →
    IsKnown roots after
made_known roots x seen cache after known (inl (q, class, xs, rest, asks, filled, front, becomes)) =
    let f = first_keeps seen.slot roots x.line q class (cache q class) xs (λ n. known q class n) filled in
    let head : Numbered = record { slot = seen.slot; number = number_of seen.found.0 } in
    known_changed roots cache after q class rest known becomes
    (λ n member. f.known n (subst (λ zs. Contains zs n) (sym front) (later_in head n rest member)))
made_known roots x seen cache after known (inr (q, size, asked, len, asks, only, becomes)) = known_same roots cache after known becomes

return_known : (roots : Journals) (x : Played) (slot : Numbered) (cache after : Cache) → IsKnown roots cache →
    ReturnRow roots x slot cache after → IsKnown roots after
return_known roots x slot cache after known (inl (q, class, of, only, becomes)) =
    known_changed roots cache after q class (kept class (slot ∷ cache q class)) known becomes
    (λ n member. elim (in_cases slot n (cache q class) (kept_in class (slot ∷ cache q class) n member)) [
      | inl e ↦ subst (λ (z : Numbered). IsOfClass roots z.slot q class) e of
      | inr old ↦ known q class n old
    ])
return_known roots x slot cache after known (inr (q, asked, number, direct, only, becomes)) = known_same roots cache after known becomes

done_known : (roots : Journals) (x : Played) (o : Option Step) (seen : Seen) (cache after : Cache) → IsKnown roots cache →
    DoneRow roots x o seen cache after → IsKnown roots after
done_known roots x None seen cache after known (acts, becomes) = known_same roots cache after known becomes
done_known roots x (Some step) seen cache after known (inl (returning, row)) = return_known roots x _ cache after known row
done_known roots x (Some step) seen cache after known (inr (other, acts, becomes)) = known_same roots cache after known becomes

full_known : (roots : Journals) (x : Played) (cache after : Cache) → IsKnown roots cache → FullRow roots x cache after → IsKnown roots after
full_known roots x cache after known (inl (q, class, asked, asks, empty, only, becomes)) = known_same roots cache after known becomes
full_known roots x cache after known (inr (q, size, asked, asks, only, becomes)) = known_same roots cache after known becomes

pub row_known : (partitions : ℕ) (roots : Journals) (x : Played) (a : Answer) (cache after : Cache) → IsKnown roots cache →
    CacheRow partitions roots x a cache after → IsKnown roots after
row_known partitions roots x (answers.Made seen usable) cache after known row = made_known roots x seen cache after known row
row_known partitions roots x (answers.Done seen) cache after known row = done_known roots x (step_of x.op) seen cache after known row
row_known partitions roots x (answers.Value seen value) cache after known row = known_same roots cache after known row.1
row_known partitions roots x (answers.Dangling seen value) cache after known row = known_same roots cache after known row.1
row_known partitions roots x (answers.SecondFree seen) cache after known row = known_same roots cache after known row.1
row_known partitions roots x (answers.NotOwner seen) cache after known row = known_same roots cache after known row.1
row_known partitions roots x answers.StaleReset cache after known row = known_same roots cache after known row.1
row_known partitions roots x (answers.StaleUse seen) cache after known row = known_same roots cache after known row.1
row_known partitions roots x answers.Nothing cache after known row = known_same roots cache after known row.1
row_known partitions roots x answers.Filled cache after known row = known_same roots cache after known row.1
row_known partitions roots x answers.NotRef cache after known row = known_same roots cache after known row.1
row_known partitions roots x (answers.Shared seen) cache after known row = known_same roots cache after known row.1
row_known partitions roots x answers.OutOfRange cache after known row = known_same roots cache after known row.1
row_known partitions roots x answers.TooLarge cache after known row = known_same roots cache after known row.1
row_known partitions roots x (answers.Full entry) cache after known row = full_known roots x cache after known row
row_known partitions roots x (answers.Swapped entry) cache after known row = known_same roots cache after known row.1
row_known partitions roots x (answers.Purged slots) cache after known row =
    λ q c n among. absurd (not_in_none n (subst (λ zs. Contains zs n) (row.2 q c) among))
row_known partitions roots x answers.Uncounted cache after known row = known_same roots cache after known row.1

pub all_known : (partitions : ℕ) (roots : Journals) (xs : List Played) (all after : Caches) → ((t : ℕ) → IsKnown roots (all t))
    → CachesTo partitions roots all xs after → (t : ℕ) → IsKnown roots (after t)
all_known partitions roots [] all after known e t = subst (λ (c : Caches). IsKnown roots (c t)) (sym e) (known t)
all_known partitions roots (x ∷ xs) all after known (next, row, rest) t =
    all_known partitions roots xs (with_cache all x.thread next) after
    (known_with roots all x.thread next known (row_known partitions roots x x.answer (all x.thread) next (known x.thread) row)) rest t
