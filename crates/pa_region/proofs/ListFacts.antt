-- Facts on keepers' lists: beginnings, entries by stake, and the longest list that was seen.
use Rattle.std.proofs.Common.{◌≡◌, ℕ, Bool, true, false, List, [], ◌∷◌, ◌++◌, refl, sym, ◌∙◌, ap, eqb, append_assoc}
use Rattle.std.specs.Prelude.{if◌then◌else◌}
use Rattle.core.specs.List.{AllByRecursion as Each}
use Rattle.pa_region.specs.declared.view.Entry.{Entry}
use Rattle.pa_region.specs.declared.view.Made.{Made}
use Rattle.pa_region.specs.Moves.{changed}
use Rattle.pa_region.specs.Lists.{made_with, entry_in, entered_in}

module _ {A : Type 0} where
  -- a fact of each member goes on
  pub each_map : (P Q : A → Type 0) (xs : List A) → ((x : A) → P x → Q x) → Each P xs → Each Q xs
  each_map P Q [] h e = tt
  each_map P Q (x ∷ xs) h e = (h x e.0, each_map P Q xs h e.1)

  -- of two facts
  pub each_both : (P Q R : A → Type 0) (xs : List A) → ((x : A) → P x → Q x → R x) → Each P xs → Each Q xs → Each R xs
  each_both P Q R [] h e f = tt
  each_both P Q R (x ∷ xs) h e f = (h x e.0 f.0, each_both P Q R xs h e.1 f.1)

  -- of two lists, one after the other
  pub each_append : (P : A → Type 0) (xs ys : List A) → Each P xs → Each P ys → Each P (xs ++ ys)
  each_append P [] ys e f = f
  each_append P (x ∷ xs) ys e f = (e.0, each_append P xs ys e.1 f)

  pub each_left : (P : A → Type 0) (xs ys : List A) → Each P (xs ++ ys) → Each P xs
  each_left P [] ys e = tt
  each_left P (x ∷ xs) ys e = (e.0, each_left P xs ys e.1)

  pub each_right : (P : A → Type 0) (xs ys : List A) → Each P (xs ++ ys) → Each P ys
  each_right P [] ys e = e
  each_right P (x ∷ xs) ys e = each_right P xs ys e.1

  -- if one member changes
  pub each_changed : (P : A → Type 0) (test : A → Bool) (change : A → A) (xs : List A) → ((x : A) → P x → P (change x)) → Each P xs →
      Each P (changed test change xs)
  each_changed P test change [] h e = tt
  each_changed P test change (x ∷ xs) h e = go (test x) (each_changed P test change xs h e.1)
    where
      go : (b : Bool) → Each P (changed test change xs) → Each P (if b then change x ∷ xs else x ∷ changed test change xs)
      go true again = (h x e.0, e.1)
      go false again = (e.0, again)

-- what a log entered, with one more entry
pub entered_more : (k : ℕ) (log : List Entry) (e : Entry) → entered_in k (log ++ e ∷ []) ≡ entered_in k log ++ entry_in k e
entered_more k [] e = append_nil (entry_in k e)
  where
    append_nil : (xs : List Made) → xs ++ [] ≡ xs
    append_nil [] = refl
    append_nil (x ∷ xs) = ap (λ ys. x ∷ ys) (append_nil xs)
entered_more k (d ∷ log) e = ap (λ xs. entry_in k d ++ xs) (entered_more k log e) ∙
    sym (append_assoc (entry_in k d) (entered_in k log) (entry_in k e))

-- nothing more, if the entry enters nothing there
pub entered_nothing : (k : ℕ) (log : List Entry) (e : Entry) → entry_in k e ≡ [] → entered_in k (log ++ e ∷ []) ≡ entered_in k log
entered_nothing k log e none = entered_more k log e ∙ (ap (λ xs. entered_in k log ++ xs) none ∙ append_nil (entered_in k log))
  where
    append_nil : (xs : List Made) → xs ++ [] ≡ xs
    append_nil [] = refl
    append_nil (x ∷ xs) = ap (λ ys. x ∷ ys) (append_nil xs)

-- what was made with a stake, in two lists one after the other
pub made_append : (r : ℕ) (a b : List Made) → made_with r (a ++ b) ≡ made_with r a ++ made_with r b
made_append r [] b = refl
made_append r (m ∷ a) b = go (eqb m.stake r) (made_append r a b)
  where
    go : (c : Bool) → made_with r (a ++ b) ≡ made_with r a ++ made_with r b →
        (if c then m ∷ made_with r (a ++ b) else made_with r (a ++ b)) ≡ (if c then m ∷ made_with r a else made_with r a) ++ made_with r b
    go true again = ap (λ xs. m ∷ xs) again
    go false again = again
