-- What moments leave in a content word: a value stays if none changes it, and a word that isn't 0 was changed by one of them.
use Rattle.std.proofs.Common.{◌≡◌, ℕ, zero, suc, ◌<◌, ◌⊎◌, Bool, true, false, List, [], ◌∷◌, ◌++◌, length, get_or, Option, Some, None, refl, sym, ◌∙◌, ap, subst, arith, inl, inr, append_assoc}
use Rattle.std.specs.Prelude.{Contains, ◌==◌, ◌||◌}
use Rattle.std.proofs.lemmas.Bool.{eqb-true}
use Rattle.pa_slot.specs.declared.word.SlotName.{SlotName}
use Rattle.pa_record.specs.declared.history.CellEntry.{CellEntry}
use Rattle.pa_record.specs.declared.pool.PoolEntry.{PoolEntry}
use Rattle.pa_lists.proofs.Members.{first_in, later_in}
use Rattle.pa_rules.specs.declared.played.Played.{Played}
use Rattle.pa_rules.specs.Order.{StandsBefore}
use Rattle.pa_rules.specs.Roots.{Journals}
use Rattle.pa_timeline.specs.Timeline.{Part, Moment, moment_leaves, changed_to, content_after, IsStepOrder}
use Rattle.pa_timeline.proofs.Places.{IsAt, cut_two, by_line, step_of_record}

-- nothing is left, or this value
abbrev pub leaves_as : ℕ → Option ℕ → Bool
leaves_as value None = true
leaves_as value (Some other) = other == value

pub either_of : (a b : Bool) → (a || b) ≡ true → (a ≡ true) ⊎ (b ≡ true)
either_of true b e = inl refl
either_of false b e = inr e

true_or_false : (b : Bool) → (b ≡ true) ⊎ (b ≡ false)
true_or_false true = inl refl
true_or_false false = inr refl

changed_as : (value : ℕ) (o : Option ℕ) → leaves_as value o ≡ true → changed_to o value ≡ value
changed_as value None e = refl
changed_as value (Some other) e = eqb-true other value e

content_stays : (s : SlotName) (place value : ℕ) (ms : List Moment) →
    ((m : Moment) → Contains ms m → leaves_as value (moment_leaves s place m) ≡ true) → content_after s place value ms ≡ value
content_stays s place value [] h = refl
content_stays s place value (m ∷ ms) h =
    ap (λ content. content_after s place content ms) (changed_as value (moment_leaves s place m) (h m (first_in m ms)))
    ∙ content_stays s place value ms (λ n among. h n (later_in m n ms among))

pub content_parted : (s : SlotName) (place value : ℕ) (ms ns : List Moment) →
    content_after s place value (ms ++ ns) ≡ content_after s place (content_after s place value ms) ns
content_parted s place value [] ns = refl
content_parted s place value (m ∷ ms) ns = content_parted s place (changed_to (moment_leaves s place m) value) ms ns

-- a word that was 0 and isn't was changed by one of the moments
changed_by : (s : SlotName) (place : ℕ) (ms : List Moment) → (content_after s place 0 ms ≡ 0 → ⊥) →
    (m : Moment) × Contains ms m × (leaves_as 0 (moment_leaves s place m) ≡ false)
changed_by s place [] other = absurd (other refl)
changed_by s place (m ∷ ms) other = elim (true_or_false (leaves_as 0 (moment_leaves s place m))) [
  | inl kept ↦
      let same = ap (λ content. content_after s place content ms) (changed_as 0 (moment_leaves s place m) kept) in
      let (n, among, is) = changed_by s place ms (λ zero. other (same ∙ zero)) in
      (n, later_in m n ms among, is)
  | inr changes ↦ (m, first_in m ms, changes)
]

-- ---- places beside a cut

at_cut : {A : Type 0} (us vs : List A) (x : A) → IsAt (us ++ x ∷ vs) (length us) x
at_cut [] vs x = (omega arith, refl)
at_cut (u ∷ us) vs x = let (low, e) = at_cut us vs x in (omega arith, e)

before_cut : {A : Type 0} (us vs : List A) (x y : A) → Contains us y → (k : ℕ) × IsAt (us ++ x ∷ vs) k y × (k < length us)
before_cut us vs x y (k, less, is) = (k, front us k less is, less)
  where
    front : (zs : List _) (k : ℕ) → k < length zs → get_or zs k y ≡ y → IsAt (zs ++ x ∷ vs) k y
    front [] k less is = absurd (omega arith)
    front (z ∷ zs) zero less is = (omega arith, is)
    front (z ∷ zs) (suc k) less is = let (low, e) = front zs k (omega arith) is in (omega arith, e)

behind_cut : {A : Type 0} (us vs ws : List A) (x y : A) → Contains vs y →
    (k : ℕ) × IsAt (us ++ x ∷ (vs ++ ws)) k y × (length us < k)
behind_cut [] [] ws x y (k, less, is) = absurd (omega arith)
behind_cut [] (v ∷ vs) ws x y (k, less, is) = (suc k, front (v ∷ vs) k less is, omega arith)
  where
    front : (zs : List _) (k : ℕ) → k < length zs → get_or zs k y ≡ y → IsAt (x ∷ (zs ++ ws)) (suc k) y
    front [] k less is = absurd (omega arith)
    front (z ∷ zs) zero less is = (omega arith, is)
    front (z ∷ zs) (suc k) less is = let (low, e) = front zs k (omega arith) is in (omega arith, e)
behind_cut (u ∷ us) vs ws x y among =
    let (k, (low, e), up) = behind_cut us vs ws x y among in
    (suc k, (omega arith, e), omega arith)

-- ---- in an order of steps

module _ (steps : Played → List Part) (ps : List Played) (pools : List PoolEntry) (roots : Journals) (cells : ℕ → List CellEntry)
    (ms : List Moment)
    (t : IsStepOrder steps ps pools roots cells ms) where
  -- what m left is there at n's place, if each step that leaves something else is of a line before m's
  pub left_stays : (s : SlotName) (place value : ℕ) (i j : ℕ) (m n : Moment) → IsAt ms i m → IsAt ms j n → i < j →
      moment_leaves s place m ≡ Some value →
      ((z : Moment) → Contains ps z.x → Contains (steps z.x) z.part →
      (leaves_as value (moment_leaves s place z) ≡ true) ⊎ StandsBefore z.x m.x) →
      (us ws : List Moment) × (ms ≡ us ++ n ∷ ws) × (content_after s place 0 us ≡ value)
  left_stays s place value i j m n at at' up left each =
      let (us, vs, ws, cut) = cut_two ms i j m n at at' up in
      let there : IsAt ms (length us) m = subst (λ zs. IsAt zs (length us) m) (sym cut) (at_cut us (vs ++ n ∷ ws) m) in
      let stays = content_stays s place value vs (λ z among.
      let (k, at_k, behind) = behind_cut us vs (n ∷ ws) m z among in
      let at_z : IsAt ms k z = subst (λ zs. IsAt zs k z) (sym cut) at_k in
      let (of, due) = step_of_record _ _ _ _ _ ms t z (k, at_z.0, at_z.1) in
      elim (each z of due) [
        | inl kept ↦ kept
        | inr before ↦ let low = by_line _ _ _ _ _ ms t k (length us) z m at_z there before in absurd (omega arith)
      ]) in (
        us ++ m ∷ vs,
        ws,
        cut ∙ sym (append_assoc us (m ∷ vs) (n ∷ ws)),
        content_parted s place 0 us (m ∷ vs)
            ∙ ap (λ o. content_after s place (changed_to o (content_after s place 0 us)) vs) left
            ∙ stays,
      )

  -- a read that gave something else than 0 comes after a step that left something else
  pub changed_before : (s : SlotName) (place : ℕ) (us vs : List Moment) (m : Moment) → ms ≡ us ++ m ∷ vs →
      (content_after s place 0 us ≡ 0 → ⊥) →
      (k : ℕ) × (z : Moment) × IsAt ms k z × (k < length us) × Contains ps z.x × Contains (steps z.x) z.part
      × (leaves_as 0 (moment_leaves s place z) ≡ false)
  changed_before s place us vs m cut other =
      let (z, among, changes) = changed_by s place us other in
      let (k, at_k, low) = before_cut us vs m z among in
      let at_z : IsAt ms k z = subst (λ zs. IsAt zs k z) (sym cut) at_k in
      let (of, due) = step_of_record _ _ _ _ _ ms t z (k, at_z.0, at_z.1) in
      (k, z, at_z, low, of, due, changes)
