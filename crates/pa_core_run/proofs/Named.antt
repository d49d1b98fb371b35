-- The titles that a run's journals make: they have different names, and each slot that a record made has one.
use Rattle.std.proofs.Common.{◌≡◌, ℕ, ◌≤◌, List, [], ◌++◌, sym, ap, subst, arith, inl, inr}
use Rattle.std.specs.Prelude.{Contains}
use Rattle.pa_slot.specs.declared.word.SlotName.{SlotName}
use Rattle.pa_slot.specs.declared.title.Title.{Title}
use Rattle.pa_buckets.proofs.Facts.{IsRow-of}
use Rattle.pa_rules.proofs.Versions.{direct_in}
use Rattle.pa_record.specs.Spans.{name_of}
use Rattle.pa_record.specs.Laws.{leaves_by}
use Rattle.pa_record.specs.Sound.{IsMadeBy}
use Rattle.pa_lists.proofs.Members.{first_in}
use Rattle.pa_record.proofs.Lawful.{journal_leaves}
use Rattle.pa_rules.specs.declared.played.Played.{Played}
use Rattle.pa_rules.specs.Roots.{MakesEntry}
use Rattle.pa_rules.specs.Caches.{IsOfClass, IsDirect}
use Rattle.pa_rules.proofs.Following.{titles_follow}
use Rattle.pa_rules.proofs.Owned.{title_of}
use Rattle.pa_one_run.specs.Parts.{Parts}
use Rattle.pa_one_run.proofs.Filed.{IsFiled, IsMadeIn}
use Rattle.pa_one_run.proofs.lines.Cuts.{entry_made}
use Rattle.pa_lists.proofs.Elements.{in_front}
use Rattle.pa_one_run.proofs.roots.Classes.{made_class}
use Rattle.pa_core_run.specs.Fronts.{MadeIn}
use Rattle.pa_core_run.specs.Moves.{HaveNames}

-- a title that is made is long enough for a count word and a content word
pub made_long : (a : Parts) (t : Title) → IsFiled a → MadeIn a t → 16 ≤ t.len
made_long a t h (p, inl (span, among, number, below, is)) =
    let sound = (journal_leaves a.pools (a.roots p) (h.journals.journals p)).sound in
    let class = (sound.spans span among).counted.class in
    let row = IsRow-of span.class class in
    let least = row.least_slot in
    let same = ap (λ (z : Title). z.len) is in
    omega arith
made_long a t h (p, inr (e, asked, len, slot, among, act, is)) =
    let (x, of, makes) = entry_made a p e h among in
    let (size, (reg, op, direct), long) = subst (λ z. MakesEntry a.pools p z x) act makes in
    let large = (direct_in x.rules.version size direct).0 in
    let same = ap (λ (z : Title). z.len) is in
    omega arith

-- two of one name are one
pub made_unique : (a : Parts) → IsFiled a → HaveNames (MadeIn a)
made_unique a h t u (p, made) (q, other) same =
    let all = titles_follow.titles a.supers a.partitions a.ps a.pools a.roots h.journals h.pool in
    let born : t.born ≡ u.born = ap (λ (x : SlotName). x.born) same in
    let start : t.start ≡ u.start = ap (λ (x : SlotName). x.start) same in
    let place = all.owned p q t u made other born in
    let some = made_long a t h (p, made) in
    let some2 = made_long a u h (q, other) in
    elim ((all.titles p).apart t u made (subst (λ z. IsMadeBy a.pools (a.roots z) u) (sym place) other) born) [
      | inl one ↦ one
      | inr (inl before) ↦ absurd (omega arith)
      | inr (inr behind) ↦ absurd (omega arith)
    ]

-- a title by its name
abbrev pub HasTitle : Parts → SlotName → Type 0
HasTitle a x = (t : Title) × MadeIn a t × (name_of t ≡ x)

pub class_title : (a : Parts) (x : SlotName) (p c : ℕ) → IsFiled a → IsOfClass a.roots x p c → HasTitle a x
class_title a x p c h (e, asked, slots, among, is, member) =
    let (t, made, named, sized) =
    title_of a.pools (a.roots p) e x (h.journals.journals p) among (subst (λ act. Contains (leaves_by act) x) (sym is) member) in
    (t, (p, made), named)

pub direct_title : (a : Parts) (x : SlotName) (p : ℕ) → IsFiled a → IsDirect a.roots x p → HasTitle a x
direct_title a x p h (e, asked, len, among, is) =
    let (t, made, named, sized) =
    title_of a.pools (a.roots p) e x (h.journals.journals p) among
    (subst (λ act. Contains (leaves_by act) x) (sym is) (first_in x [])) in
    (t, (p, made), named)

-- what a record made has one
pub made_title : (a : Parts) (before rest : List Played) (x : SlotName) → IsFiled a → a.ps ≡ before ++ rest → IsMadeIn before x →
    HasTitle a x
made_title a before rest x h parts (q, seen, usable, among, is, slot) =
    elim (made_class a q seen usable h (in_front before rest a.ps q parts among) is) [
      | inl (p, c, asks, of_class) ↦ class_title a x p c h (subst (λ z. IsOfClass a.roots z p c) slot of_class)
      | inr (p, size, asks, direct) ↦ direct_title a x p h (subst (λ z. IsDirect a.roots z p) slot direct)
    ]
