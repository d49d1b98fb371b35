-- What an entry did, by the parts of it that a test looks at.
use Rattle.std.proofs.Common.{◌≡◌, ℕ, ◌∙◌, sym, ap}
use Rattle.pa_slot.specs.declared.word.SlotName.{SlotName}
use Rattle.pa_record.specs.declared.numbered.Numbered.{Numbered}
use Rattle.pa_record.specs.declared.root.RootAct.{RootAct}
use Rattle.pa_record.specs.declared.root.RootAct.TheVariants.{Unmap}
use Rattle.pa_rules.specs.Caches.{unmap_at}

pub unmap_is : (act : RootAct) (asked : ℕ) (back : Numbered) (slot : SlotName) → act ≡ Unmap asked back → back.slot ≡ slot →
    (x number : ℕ) × (act ≡ unmap_at x slot number)
unmap_is act asked back slot is same = (asked, back.number, is ∙ ap (λ s. unmap_at asked s back.number) same)

pub unmap_was : (act : RootAct) (asked : ℕ) (back : Numbered) (slot : SlotName) → act ≡ Unmap asked back →
    (x number : ℕ) × (act ≡ unmap_at x slot number) → back.slot ≡ slot
unmap_was act asked back slot is (x, number, is') =
    let one : ◌≡◌ {A = RootAct} (Unmap asked back) (unmap_at x slot number) = sym is ∙ is' in
    let two : back ≡ record { slot = slot; number = number } = cc one in
    ap (λ (n : Numbered). n.slot) two
