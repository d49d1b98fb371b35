-- The journals with a line's entries more.
use Rattle.std.proofs.Common.{◌≡◌, ℕ, ◌-◌, ◌<◌, ◌≤◌, List, [], ◌∷◌, ◌++◌, map, filter, length, get_or, refl, sym, ◌∙◌, ap, subst, arith, ◌⊎◌, inl, inr, append_assoc}
use Rattle.std.specs.Prelude.{Contains, ◌==◌}
use Rattle.std.specs.List.Sorted.{IsNonDecreasingBy}
use Rattle.std.proofs.lemmas.Bool.{eq-eqb, ne_eqb}
use Rattle.std.proofs.lemmas.List.{append-nil, map-append}
use Rattle.std.proofs.lemmas.List.Elements.{filter-append, Contains-append_left, Contains-append_right, Contains-append_cases, Contains-get_or, Contains-push_cases}
use Rattle.std.proofs.lemmas.List.Sorted.{IsNonDecreasingBy-push}
use Rattle.pa_record.specs.declared.pool.PoolEntry.{PoolEntry}
use Rattle.pa_record.specs.declared.root.RootEntry.{RootEntry}
use Rattle.pa_record.specs.declared.root.RootAct.{RootAct}
use Rattle.pa_record.specs.Root.{Root, new_root, root_next, root_replayed, RootActFits, IsJournal, asked_by}
use Rattle.pa_record.specs.Sound.{least_after, least_after_all}
use Rattle.pa_lists.proofs.Members.{first_in, later_in}
use Rattle.pa_lists.proofs.Joined.{map_cases, map_in}
use Rattle.pa_record.proofs.Lawful.{journal_grows}
use Rattle.pa_rules.specs.Roots.{Journals}
use Rattle.pa_rules.specs.Caches.{acts_of}
use Rattle.pa_heap_effects.specs.Deeds.{Acts, entries_at, grown, root_after, ActsFit}

-- the acts of a line in a journal
abbrev pub acts_at : List RootEntry → ℕ → List RootAct
acts_at es line = map (λ (e : RootEntry). e.act) (filter (λ (e : RootEntry). e.line == line) es)

pub acts_append : (es fs : List RootEntry) (line : ℕ) → acts_at (es ++ fs) line ≡ acts_at es line ++ acts_at fs line
acts_append es fs line =
    ap (λ zs. map (λ (e : RootEntry). e.act) zs) (filter-append (λ (e : RootEntry). e.line == line) es fs)
    ∙ map-append (λ (e : RootEntry). e.act) (filter (λ (e : RootEntry). e.line == line) es) (filter (λ (e : RootEntry). e.line == line) fs)

-- a line that no entry has
pub acts_none : (es : List RootEntry) (line : ℕ) → ((e : RootEntry) → Contains es e → e.line ≡ line → ⊥) → acts_at es line ≡ []
acts_none [] line other = refl
acts_none (e ∷ es) line other =
    let ih = acts_none es line (λ f among. other f (later_in e f es among)) in
    rw (ne_eqb e.line line (other e (first_in e es))) ih

acts_here : (n : ℕ) (acts : List RootAct) → acts_at (entries_at n acts) n ≡ acts
acts_here n [] = refl
acts_here n (a ∷ acts) = rw (eq-eqb n n refl) (ap (λ zs. a ∷ zs) (acts_here n acts))

-- the entries of a line are of its acts
pub entry_at : (n : ℕ) (acts : List RootAct) (e : RootEntry) → Contains (entries_at n acts) e → Contains acts e.act × (e.line ≡ n)
entry_at n acts e among =
    let (a, member, is) = map_cases (λ (a : RootAct). record { line = n; act = a }) acts e among in
    (subst (λ z. Contains acts z) (ap (λ (f : RootEntry). f.act) is) member, sym (ap (λ (f : RootEntry). f.line) is))

pub grown_cases : (roots : Journals) (n : ℕ) (acts : Acts) (p : ℕ) (e : RootEntry) → Contains (grown roots n acts p) e →
    Contains (roots p) e ⊎ (Contains (acts p) e.act × (e.line ≡ n))
grown_cases roots n acts p e among = elim (Contains-append_cases (roots p) (entries_at n (acts p)) e among) [
  | inl old ↦ inl old
  | inr new ↦ inr (entry_at n (acts p) e new)
]

pub grown_old : (roots : Journals) (n : ℕ) (acts : Acts) (p : ℕ) (e : RootEntry) → Contains (roots p) e → Contains (grown roots n acts p) e
grown_old roots n acts p e among = Contains-append_left (roots p) (entries_at n (acts p)) e among

pub grown_new : (roots : Journals) (n : ℕ) (acts : Acts) (p : ℕ) (a : RootAct) → Contains (acts p) a →
    Contains (grown roots n acts p) (record { line = n; act = a })
grown_new roots n acts p a among =
    Contains-append_right (roots p) (entries_at n (acts p)) (record { line = n; act = a })
    (map_in (λ (b : RootAct). record { line = n; act = b }) (acts p) a among)

-- what the line did, and what the lines before it did
pub line_acts : (roots : Journals) (n : ℕ) (acts : Acts) (p : ℕ) → ((e : RootEntry) → Contains (roots p) e → e.line < n) →
    acts_of (grown roots n acts) n p ≡ acts p
line_acts roots n acts p entered =
    acts_append (roots p) (entries_at n (acts p)) n
    ∙ ap (λ zs. zs ++ acts_at (entries_at n (acts p)) n) (acts_none (roots p) n (λ e among same. let low = entered e among in omega arith))
    ∙ acts_here n (acts p)

pub lines_before : (roots : Journals) (n line : ℕ) (acts : Acts) (p : ℕ) → line < n →
    acts_of (grown roots n acts) line p ≡ acts_of roots line p
lines_before roots n line acts p low =
    acts_append (roots p) (entries_at n (acts p)) line
    ∙ ap (λ zs. acts_at (roots p) line ++ zs)
    (acts_none (entries_at n (acts p)) line (λ e among same. let at = (entry_at n (acts p) e among).1 in omega arith))
    ∙ append-nil (acts_at (roots p) line)

-- ---- the journal

pub least_push : (least : ℕ) (es : List RootEntry) (e : RootEntry) →
    least_after_all least (es ++ e ∷ []) ≡ least_after (least_after_all least es) (asked_by e.act)
least_push least [] e = refl
least_push least (x ∷ es) e = least_push (least_after least (asked_by x.act)) es e

pub record IsMore (pools : List PoolEntry) (journal more : List RootEntry) (after : Root) : Type 0 where
  pub fits : IsJournal pools more
  pub root : root_replayed pools more new_root ≡ after

-- a journal with acts that fit
pub journal_more : (pools : List PoolEntry) (journal : List RootEntry) (n : ℕ) (acts : List RootAct) (r : Root) → IsJournal pools journal →
    root_replayed pools journal new_root ≡ r →
    ActsFit pools (least_after_all 0 journal) acts r → IsMore pools journal (journal ++ entries_at n acts) (root_after pools acts r)
journal_more pools journal n [] r h is fit = record {
  fits = subst (λ z. IsJournal pools z) (sym (append-nil journal)) h;
  root = ap (λ z. root_replayed pools z new_root) (append-nil journal) ∙ is;
}
journal_more pools journal n (a ∷ acts) r h is (fits, asks, rest) =
    let e : RootEntry = record { line = n; act = a } in
    let next : root_replayed pools (journal ++ e ∷ []) new_root ≡ root_next pools a r = journal_grows.next pools journal e ∙
    ap (root_next pools a) is in
    let one = journal_grows.fits pools journal e h (subst (λ z. RootActFits pools a z) (sym is) fits) asks in
    let more = journal_more pools (journal ++ e ∷ []) n acts (root_next pools a r) one next
    (subst (λ z. ActsFit pools z acts (root_next pools a r)) (sym (least_push 0 journal e)) rest) in
    let same : (journal ++ e ∷ []) ++ entries_at n acts ≡ journal ++
    entries_at n (a ∷ acts) = append_assoc journal (e ∷ []) (entries_at n acts) in
    record {
      fits = subst (λ z. IsJournal pools z) same more.fits;
      root = ap (λ z. root_replayed pools z new_root) (sym same) ∙ more.root;
    }

-- ---- the order of the lines

pub sorted_push : {A : Type 0} (line : A → ℕ) (xs : List A) (y : A) → IsNonDecreasingBy line xs →
    ((x : A) → Contains xs x → line x ≤ line y) → IsNonDecreasingBy line (xs ++ y ∷ [])
sorted_push line xs y h low =
    IsNonDecreasingBy-push line xs y h (λ d some. low (get_or xs (length xs - 1) d) (Contains-get_or xs (length xs - 1) d (omega arith)))

pub sorted_more : (journal : List RootEntry) (n : ℕ) (acts : List RootAct) → IsNonDecreasingBy (λ (e : RootEntry). e.line) journal →
    ((e : RootEntry) → Contains journal e → e.line ≤ n) →
    IsNonDecreasingBy (λ (e : RootEntry). e.line) (journal ++ entries_at n acts)
sorted_more journal n [] h low = subst (λ z. IsNonDecreasingBy (λ (e : RootEntry). e.line) z) (sym (append-nil journal)) h
sorted_more journal n (a ∷ acts) h low =
    let e : RootEntry = record { line = n; act = a } in
    let one = sorted_push (λ (f : RootEntry). f.line) journal e h low in
    let more = sorted_more (journal ++ e ∷ []) n acts one (λ f among. elim (Contains-push_cases journal e f among) [
      | inl old ↦ low f old
      | inr new ↦ let at : n ≡ f.line = ap (λ (g : RootEntry). g.line) new in omega arith
    ]) in
    subst (λ z. IsNonDecreasingBy (λ (f : RootEntry). f.line) z) (append_assoc journal (e ∷ []) (entries_at n acts)) more
