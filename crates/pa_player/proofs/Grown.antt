-- The table with slots more after the others, none of which was ever issued.
use Rattle.std.proofs.Common.{◌≡◌, ℕ, ◌+◌, ◌-◌, ◌<◌, ◌≤◌, ◌⊎◌, inl, inr, List, [], ◌∷◌, ◌++◌, length, refl, sym, ap, ◌∙◌, subst, arith, length-append}
use Rattle.std.specs.Prelude.{nat_le, Contains}
use Rattle.std.proofs.lemmas.Bool.{cases_lt}
use Rattle.std.proofs.lemmas.List.{get_or_append_left, get_or-append_right}
use Rattle.std.proofs.lemmas.List.Elements.{Contains-get_or}
use Rattle.pa_slot.specs.declared.word.SlotName.{SlotName}
use Rattle.pa_slot.specs.Count.{held_of}
use Rattle.pa_slot_effects.specs.Shown.{IsLike}
use Rattle.pa_player.specs.declared.table.Slot.{Slot}
use Rattle.pa_player.specs.Player.{Player}
use Rattle.pa_player.specs.Tables.{no_slot, slot_at, AreNamed}
use Rattle.pa_player.specs.Playing.{shown, slot_of_name, word_in, caches, numbered_at, register_at, cell_at, AreShaped}
use Rattle.pa_player.proofs.Slots.{KeepsSlots, slot_here, slot_nowhere, slot_cases, keeps_named}
use Rattle.pa_player.proofs.Showing.{reg_kept, told_kept}
use Rattle.pa_player.proofs.Stepping.{caches_kept}

pub record IsGrown (before after news : List Slot) : Type 0 where
  pub table : after ≡ before ++ news
  pub apart : AreNamed after
  pub unissued : (x : Slot) → Contains news x → x.word.0 ≡ 0

module _ (before after news : List Slot) (g : IsGrown before after news) where
  pub old_at : (i : ℕ) → i < length before → slot_at after i ≡ slot_at before i
  old_at i low = ap (λ z. slot_at z i) g.table ∙ get_or_append_left before news no_slot i low

  pub grown_length : length after ≡ length before + length news
  grown_length = ap length g.table ∙ length-append before news

  pub keeps_grown : KeepsSlots before after
  keeps_grown = record {
    longer = let e = grown_length in omega arith;
    title = λ i low. ap (λ (z : Slot). z.title) (old_at i low);
    partition = λ i low. ap (λ (z : Slot). z.partition) (old_at i low);
    class = λ i low. ap (λ (z : Slot). z.class) (old_at i low);
  }

  -- a slot past those before
  pub new_at : (i : ℕ) → length before ≤ i → i < length after → Contains news (slot_at after i)
  new_at i past low =
      let there : slot_at after i ≡ slot_at (before ++ news) i = ap (λ z. slot_at z i) g.table in
      let e = grown_length in
      let at : slot_at (before ++ news) i ≡ slot_at news (i - length before) =
      get_or-append_right before news (length before) i no_slot refl past in
      subst (λ z. Contains news z) (sym (there ∙ at)) (Contains-get_or news (i - length before) no_slot (omega arith))

  -- a name leads to the same slot, or to one that was never issued
  pub by_name_grown : AreNamed before → (s : SlotName) → (slot_of_name after s ≡ slot_of_name before s) ⊎
      ((word_in before s ≡ 0) × (word_in after s ≡ 0))
  by_name_grown named s = elim (slot_cases before s) [
    | inl there ↦
        let i = there.0 in
        let low = there.1.0 in
        let e = grown_length in
        inl (slot_here after s i g.apart (omega arith, keeps_named before after i keeps_grown low ∙ there.1.1) ∙ old_at i low ∙
        sym (slot_here before s i named there.1))
    | inr none ↦ elim (slot_cases after s) [
      | inl there ↦
          let j = there.0 in
          let past : length before ≤ j = elim (cases_lt j (length before)) [
            | inl low ↦ absurd (none j low (sym (keeps_named before after j keeps_grown low) ∙ there.1.1))
            | inr at_least ↦ at_least
          ] in
          inr (
            ap (λ (z : Slot). z.word.0) (slot_nowhere before s none),
            ap (λ (z : Slot). z.word.0) (slot_here after s j g.apart there.1) ∙
                g.unissued (slot_at after j) (new_at j past there.1.0),
          )
      | inr nowhere ↦ inl (slot_nowhere after s nowhere ∙ sym (slot_nowhere before s none))
    ]
  ]

-- the eye sees no difference
pub like_grown : (partitions threads : ℕ) (p : Player) (after news : List Slot) → AreShaped partitions threads p → AreNamed p.table →
    IsGrown p.table after news
    → IsLike (shown p) (shown (record p { table = after }))
like_grown partitions threads p after news shaped named g =
    let keeps = keeps_grown p.table after news g in
    record {
      rules = refl;
      regs = λ t r. reg_kept p.table after (register_at p t r) keeps (shaped.held t r);
      held = λ k. told_kept p.table after (cell_at p k) keeps (shaped.celled k);
      cells = λ k. refl;
      word = λ s. elim (by_name_grown p.table after news g named s) [
        | inl e ↦ ap (λ (z : Slot). z.word.0) e
        | inr nothing ↦ nothing.1 ∙ sym nothing.0
      ];
      content = λ s held. elim (by_name_grown p.table after news g named s) [
        | inl e ↦ ap (λ (z : Slot). z.content) e
        | inr nothing ↦ let none : held_of (word_in p.table s) ≡ 0 = ap held_of nothing.0 in absurd (omega arith)
      ];
      usable = λ s some. elim (by_name_grown p.table after news g named s) [
        | inl e ↦ ap (λ (z : Slot). z.title.len - 8) e
        | inr nothing ↦ let none = nothing.0 in absurd (omega arith)
      ];
      plain = λ s some. elim (by_name_grown p.table after news g named s) [
        | inl e ↦ ap (λ (z : Slot). nat_le p.plain_from z.partition) e
        | inr nothing ↦ let none = nothing.0 in absurd (omega arith)
      ];
    }

-- the lists show the same slots after the table grew
pub lists_grown : (partitions threads : ℕ) (p : Player) (after news : List Slot) → AreShaped partitions threads p →
    IsGrown p.table after news
    → (t k c : ℕ) → caches (record p { table = after }) t k c ≡ caches p t k c
lists_grown partitions threads p after news shaped g =
    caches_kept partitions threads p after shaped
    (λ t k c i below low real among. ap (λ (z : Slot). numbered_at (z ∷ []) 0)
    (old_at p.table after news g i (shaped.listed t k c i below low real among).0))
