-- Lists that are cut in two at a member, and the first parts of a list that grow.
use Rattle.std.proofs.Common.{◌≡◌, List, [], ◌∷◌, ◌++◌, map, length, take, drop, ◌⊎◌, refl, sym, ◌∙◌, ap, subst, inl, inr}
use Rattle.std.specs.Prelude.{Contains, AllPairs}
use Rattle.std.proofs.lemmas.List.Elements.{Contains-append_right}
use Rattle.pa_lists.proofs.Members.{not_in_none, first_in, later_in, in_cases}
use Rattle.pa_lists.proofs.Pairs.{pairs_none, pairs_cons}
use Rattle.pa_lists.proofs.Parts.{parts_at}
use Rattle.pa_lists.proofs.Elements.{in_middle, drop_in, same_cons}

-- ---- where a member stands

pub none_cons : {A : Type 0} (us : List A) (m : A) (vs : List A) → [] ≡ us ++ m ∷ vs → ⊥
none_cons [] m vs e = cc
none_cons (u ∷ us) m vs e = cc

-- a member of a list with one more at its end is the last one, or stands before it
pub last_or_within : {A : Type 0} (xs : List A) (z : A) (us : List A) (m : A) (vs : List A) → xs ++ z ∷ [] ≡ us ++ m ∷ vs →
    ((xs ≡ us) × (z ≡ m)) ⊎ ((ws : List A) × (xs ≡ us ++ m ∷ ws))
last_or_within [] z [] m vs e = inl (refl, cc)
last_or_within [] z (u ∷ us) m vs e = absurd (let rest : [] ≡ us ++ m ∷ vs = cc in none_cons us m vs rest)
last_or_within (x ∷ xs) z [] m vs e = let same : x ≡ m = cc in inr (xs, ap (λ w. w ∷ xs) same)
last_or_within (x ∷ xs) z (u ∷ us) m vs e =
    let same : x ≡ u = cc in
    let rest : xs ++ z ∷ [] ≡ us ++ m ∷ vs = cc in
    elim (last_or_within xs z us m vs rest) [
      | inl (all, is) ↦ inl (ap (λ w. w ∷ xs) same ∙ ap (λ ws. u ∷ ws) all, is)
      | inr (ws, within) ↦ inr (ws, ap (λ w. w ∷ xs) same ∙ ap (λ zs. u ∷ zs) within)
    ]

-- of a list with z at its end, cut at m: nothing follows m, or z ends what follows it
pub last_split : {A : Type 0} (xs : List A) (z : A) (us : List A) (m : A) (vs : List A) → xs ++ z ∷ [] ≡ us ++ m ∷ vs →
    (vs ≡ []) ⊎ ((ws : List A) × (xs ≡ us ++ m ∷ ws) × (vs ≡ ws ++ z ∷ []))
last_split [] z [] m vs e = inl cc
last_split [] z (u ∷ us) m vs e = absurd (let rest : [] ≡ us ++ m ∷ vs = cc in none_cons us m vs rest)
last_split (x ∷ xs) z [] m vs e =
    let same : x ≡ m = cc in
    let rest : vs ≡ xs ++ z ∷ [] = cc in
    inr (xs, ap (λ w. w ∷ xs) same, rest)
last_split (x ∷ xs) z (u ∷ us) m vs e =
    let same : x ≡ u = cc in
    let rest : xs ++ z ∷ [] ≡ us ++ m ∷ vs = cc in
    elim (last_split xs z us m vs rest) [
      | inl none ↦ inl none
      | inr (ws, within, back) ↦ inr (ws, ap (λ w. w ∷ xs) same ∙ ap (λ zs. u ∷ zs) within, back)
    ]

-- a member of two lists, one after the other, is in the first of them or in the second
pub append_cut : {A : Type 0} (ws zs before after : List A) (y : A) → ws ++ zs ≡ before ++ y ∷ after →
    ((vs : List A) × (ws ≡ before ++ y ∷ vs)) ⊎ ((us : List A) × (before ≡ ws ++ us) × (zs ≡ us ++ y ∷ after))
append_cut [] zs before after y e = inr (before, refl, e)
append_cut (w ∷ ws) zs [] after y e = let head : w ≡ y = cc in inl (ws, ap (λ z. z ∷ ws) head)
append_cut (w ∷ ws) zs (b ∷ before) after y e =
    let head : w ≡ b = cc in
    let rest : ws ++ zs ≡ before ++ y ∷ after = cc in
    elim (append_cut ws zs before after y rest) [
      | inl (vs, cut) ↦ inl (vs, same_cons w b ws (before ++ y ∷ vs) head cut)
      | inr (us, front, cut) ↦ inr (us, same_cons b w before (ws ++ us) (sym head) front, cut)
    ]

-- what stands before a member that the list has but once
pub only_front : {A : Type 0} (F G C : List A) (n a b : A) → F ++ n ∷ G ≡ a ∷ b ∷ C → (n ≡ a → ⊥) → (Contains C n → ⊥) → F ≡ a ∷ []
only_front [] G C n a b e first rest = absurd (let same : n ≡ a = cc in first same)
only_front (y ∷ []) G C n a b e first rest = let same : y ≡ a = cc in ap (λ z. z ∷ []) same
only_front (y ∷ z ∷ more) G C n a b e first rest =
    let back : more ++ n ∷ G ≡ C = cc in
    absurd (rest (in_middle more G C n (sym back)))

-- after the one member of a list nothing comes
pub only_one : {A : Type 0} (F G : List A) (a : A) → F ++ a ∷ G ≡ a ∷ [] → G ≡ []
only_one [] G a e = cc
only_one (y ∷ F) G a e = absurd (let rest : [] ≡ F ++ a ∷ G = cc in none_cons F a G rest)

-- what comes after a first part with a member is in all but the first one
pub not_again : {A : Type 0} (F B E : List A) (p q : A) → F ++ B ≡ q ∷ E → Contains F p → Contains B q → Contains E q
not_again [] B E p q e first second = absurd (not_in_none p first)
not_again (z ∷ F) B E p q e first second = let rest : F ++ B ≡ E = cc in
    subst (λ zs. Contains zs q) rest (Contains-append_right F B q second)

-- what holds wherever a list is cut at two members holds of each two
pub pairs_cuts : {A : Type 0} (S : A → A → Type 0) (xs : List A) → ((us vs ws : List A) (a b : A) → xs ≡ us ++ a ∷ (vs ++ b ∷ ws) → S a b) →
    AllPairs S xs
pairs_cuts S [] h = pairs_none S
pairs_cuts S (x ∷ xs) h =
    pairs_cons S x xs (λ y among. let (vs, ws, parts) = parts_at xs y among in h [] vs ws x y (ap (λ zs. x ∷ zs) parts))
    (pairs_cuts S xs (λ us vs ws a b cut. h (x ∷ us) vs ws a b (ap (λ zs. x ∷ zs) cut)))

-- ---- first parts that grow

-- a list whose map is in two parts is in two parts itself
pub map_front : {A B : Type 0} (f : A → B) (xs : List A) (ys zs : List B) → map f xs ≡ ys ++ zs → (map f (take (length ys) xs) ≡ ys) ×
    (xs ≡ take (length ys) xs ++ drop (length ys) xs)
map_front f xs [] zs e = (refl, refl)
map_front f [] (y ∷ ys) zs e = absurd cc
map_front f (x ∷ xs) (y ∷ ys) zs e =
    let same : f x ≡ y = cc in
    let rest : map f xs ≡ ys ++ zs = cc in
    let (front, whole) = map_front f xs ys zs rest in
    (ap (λ z. z ∷ map f (take (length ys) xs)) same ∙ ap (λ us. y ∷ us) front, ap (λ us. x ∷ us) whole)

-- a first part as long as two lists begins with one as long as the first of them
pub take_both : {A B : Type 0} (a b : List B) (xs : List A) → (c : List A) × (take (length (a ++ b)) xs ≡ take (length a) xs ++ c)
take_both [] b xs = (take (length b) xs, refl)
take_both (y ∷ a) b [] = ([], refl)
take_both (y ∷ a) b (x ∷ xs) = let (c, is) = take_both a b xs in (c, ap (λ z. x ∷ z) is)

pub in_front_more : {A B : Type 0} (a b : List B) (xs : List A) (x : A) → Contains (take (length a) xs) x →
    Contains (take (length (a ++ b)) xs) x
in_front_more [] b xs x among = absurd (not_in_none x among)
in_front_more (c ∷ a) b [] x among = absurd (not_in_none x among)
in_front_more (c ∷ a) b (y ∷ xs) x among = elim (in_cases y x (take (length a) xs) among) [
  | inl e ↦ subst (λ z. Contains (y ∷ take (length (a ++ b)) xs) z) e (first_in y (take (length (a ++ b)) xs))
  | inr later ↦ later_in y x (take (length (a ++ b)) xs) (in_front_more a b xs x later)
]

pub in_back_more : {A B : Type 0} (a b : List B) (xs : List A) (x : A) → Contains (drop (length (a ++ b)) xs) x →
    Contains (drop (length a) xs) x
in_back_more [] b xs x among = drop_in (length b) xs x among
in_back_more (c ∷ a) b [] x among = among
in_back_more (c ∷ a) b (y ∷ xs) x among = in_back_more a b xs x among
