-- A slot that was made has one partition, and one class or is a direct map.
use Rattle.std.proofs.Common.{◌≡◌, ℕ, sym, subst, ◌⊎◌, inl, inr}
use Rattle.std.specs.Prelude.{Contains}
use Rattle.pa_slot.specs.declared.word.SlotName.{SlotName}
use Rattle.pa_slot.specs.Count.{number_of}
use Rattle.pa_record.specs.declared.entry.Seen.{Seen}
use Rattle.pa_record.specs.declared.entry.Answer.TheVariants.{Made}
use Rattle.pa_record.specs.declared.numbered.Numbered.{Numbered}
use Rattle.pa_record.specs.declared.root.RootAct.TheVariants.{Map}
use Rattle.pa_lists.proofs.Members.{not_in_none, first_in}
use Rattle.pa_rules.specs.declared.played.Played.{Played}
use Rattle.pa_rules.specs.Roots.{Journals, AsksForClass, AsksForMap}
use Rattle.pa_rules.specs.Caches.{Cache, MadeRow, CacheRow, no_caches, IsOfClass, IsDirect}
use Rattle.pa_rules.proofs.Known.{IsKnown, entry_of_act, first_keeps, all_known}
use Rattle.pa_legal.specs.Kinds.{HasOneKind}
use Rattle.pa_legal.proofs.Titling.{one_kind}
use Rattle.pa_one_run.specs.Parts.{Parts}
use Rattle.pa_one_run.proofs.Filed.{IsFiled}
use Rattle.pa_lists.proofs.Elements.{parts_at}
use Rattle.pa_one_run.proofs.lines.Cuts.{record_row}

-- ---- what was made

-- what a slot that was made is
abbrev IsMadeOf : Journals → Played → SlotName → Type 0
IsMadeOf roots x s = ((p c : ℕ) × AsksForClass x p c × IsOfClass roots s p c) ⊎ ((p size : ℕ) × AsksForMap x p size × IsDirect roots s p)

made_of : (roots : Journals) (x : Played) (seen : Seen) (cache after : Cache) → IsKnown roots cache → MadeRow roots x seen cache after →
    IsMadeOf roots x seen.slot
made_of roots x seen cache after known (inl (p, class, xs, rest, asks, filled, front, becomes)) =
    let head : Numbered = record { slot = seen.slot; number = number_of seen.found.0 } in
    let f = first_keeps seen.slot roots x.line p class (cache p class) xs (λ n. known p class n) filled in
    inl (p, class, asks, f.known head (subst (λ zs. Contains zs head) (sym front) (first_in head rest)))
made_of roots x seen cache after known (inr (p, size, asked, len, asks, only, becomes)) =
    let (e, among, act) = entry_of_act roots x.line p (Map asked seen.slot len) only.0 in
    inr (p, size, asks, (e, asked, len, among, act))

-- what was made is of the class that was asked for, or the direct map
pub made_class : (a : Parts) (x : Played) (seen : Seen) (usable : ℕ) → IsFiled a → Contains a.ps x → x.answer ≡ Made seen usable →
    ((p c : ℕ) × AsksForClass x p c × IsOfClass a.roots seen.slot p c) ⊎ ((p size : ℕ) × AsksForMap x p size × IsDirect a.roots seen.slot p)
made_class a x seen usable h among is =
    let (before, rest, parts) = parts_at a.ps x among in
    let (all, next, to, row) = record_row a before rest x h parts in
    let known = all_known a.partitions a.roots before no_caches all (λ t p c n none. absurd (not_in_none n none)) to x.thread in
    made_of a.roots x seen (all x.thread) next known (subst (λ answer. CacheRow a.partitions a.roots x answer (all x.thread) next) is row)

-- ---- one partition, and one class or a direct map

module _ (a : Parts) (h : IsFiled a) where
  pub kind : (s : SlotName) → HasOneKind a.ps a.roots s
  kind s = one_kind a.supers a.partitions a.ps a.pools a.roots s h.journals h.pool

pub one_class : (a : Parts) (s : SlotName) (p q c d : ℕ) → IsFiled a → IsOfClass a.roots s p c → IsOfClass a.roots s q d → (p ≡ q) × (c ≡ d)
one_class a s p q c d h x y = (kind a h s).class p q c d x y

pub one_direct : (a : Parts) (s : SlotName) (p q : ℕ) → IsFiled a → IsDirect a.roots s p → IsDirect a.roots s q → p ≡ q
one_direct a s p q h x y = (kind a h s).direct p q x y

pub class_or_direct : (a : Parts) (s : SlotName) (p q c : ℕ) → IsFiled a → IsOfClass a.roots s p c → IsDirect a.roots s q → ⊥
class_or_direct a s p q c h x y = (kind a h s).either p q c x y
