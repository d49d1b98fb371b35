-- Nearest members: what they are after a member leaves, and after one enters before all others.
use Rattle.std.proofs.Common.{◌≡◌, ℕ, ◌<◌, ◌⊎◌, inl, inr, refl, ap, subst, arith}
use Rattle.std.proofs.lemmas.Bool.{cases_lt}
use Rattle.pa_spans.specs.Lists.{IsNearest, IsNextByTurn, IsPreviousByTurn, IsHead}

-- an order of members: of two one is before the other
pub record IsOrder (Member : ℕ → Type 0) (Before : ℕ → ℕ → Type 0) : Type 0 where
  pub apart : (u v : ℕ) → Member u → Member v → (u ≡ v → ⊥) → Before u v ⊎ Before v u
  pub cross : (u v : ℕ) → Before u v → Before v u → ⊥
  pub on : (u v w : ℕ) → Before u v → Before v w → Before u w

-- members are the same, and stand in the same order
pub record IsSameOrder (M N : ℕ → Type 0) (B C : ℕ → ℕ → Type 0) : Type 0 where
  pub to : (u : ℕ) → M u → N u
  pub from : (u : ℕ) → N u → M u
  pub before : (u v : ℕ) → M u → M v → B u v → C u v
  pub back : (u v : ℕ) → M u → M v → C u v → B u v

pub near_same : (M N : ℕ → Type 0) (B C : ℕ → ℕ → Type 0) → IsSameOrder M N B C → (u n : ℕ) → M u → IsNearest M B u n → IsNearest N C u n
near_same M N B C same u n is (inl w) = inl (w.0, λ v m b. w.1 v (same.from v m) (same.back v u (same.from v m) is b))
near_same M N B C same u n is (inr w) =
    inr (
      same.to n w.0,
      same.before n u w.0 is w.1,
      λ v m b c.
          let o = same.from v m in w.2 v o (same.back n v w.0 o b) (same.back v u o is c),
    )

-- x leaves: the member before which it was nearest is now before the one after it
pub near_skips : (M : ℕ → Type 0) (B : ℕ → ℕ → Type 0) → IsOrder M B → (x n p : ℕ) → M x → IsNearest M B x n → M p → B x p →
    ((v : ℕ) → M v → B v p → B x v → ⊥) → IsNearest (λ v. M v × (v ≡ x → ⊥)) B p n
near_skips M B order x n p is (inl w) isp after none = inl (
  w.0,
  λ v m b. elim (order.apart v x m.0 is m.1) [
    | inl d ↦ w.1 v m.0 d
    | inr d ↦ none v m.0 b d
  ],
)
near_skips M B order x n p is (inr w) isp after none =
    inr (
      (w.0, λ e. let i = subst (λ k. B k x) e w.1 in order.cross x x i i),
      order.on n x p w.1 after,
      λ v m b c. elim (order.apart v x m.0 is m.1) [
        | inl d ↦ w.2 v m.0 b d
        | inr d ↦ none v m.0 c d
      ],
    )

-- of members but the one nearest after x none has x right before it
not_next : (M : ℕ → Type 0) (B : ℕ → ℕ → Type 0) → IsOrder M B → (x p : ℕ) → M x → IsNearest M (λ v w. B w v) x p →
    (u : ℕ) → M u → (u ≡ p → ⊥) → B x u → ((v : ℕ) → M v → B x v → B v u → ⊥) → ⊥
not_next M B order x p is (inl w) u isu other before none = w.1 u isu before
not_next M B order x p is (inr w) u isu other before none = elim (order.apart u p isu w.0 other) [
  | inl d ↦ w.2 u isu d before
  | inr d ↦ none p w.0 w.1 d
]

-- a member that wasn't next to the one that leaves keeps its neighbours
pub near_stays : (M : ℕ → Type 0) (B : ℕ → ℕ → Type 0) → IsOrder M B → (x p : ℕ) → M x → IsNearest M (λ v w. B w v) x p →
    (u y : ℕ) → M u → (u ≡ p → ⊥) → IsNearest M B u y → IsNearest (λ v. M v × (v ≡ x → ⊥)) B u y
near_stays M B order x p is near u y isu other (inl w) = inl (w.0, λ v m. w.1 v m.0)
near_stays M B order x p is near u y isu other (inr w) =
    let never : y ≡ x → ⊥ = λ e. not_next M B order x p is near u isu other (subst (λ k. B k u) e w.1)
    (subst (λ k. (v : ℕ) → M v → B k v → B v u → ⊥) e w.2) in
    inr ((w.0, never), w.1, λ v m. w.2 v m.0)

-- x enters, which is before no other member
pub near_beyond : (M : ℕ → Type 0) (B : ℕ → ℕ → Type 0) (x : ℕ) → ((u : ℕ) → M u → B x u → ⊥) → (u y : ℕ) → M u → IsNearest M B u y →
    IsNearest (λ v. M v ⊎ (v ≡ x)) B u y
near_beyond M B x beyond u y isu (inl w) = inl (
  w.0,
  λ v m b. elim m [
    | inl k ↦ w.1 v k b
    | inr e ↦ beyond u isu (subst (λ k. B k u) e b)
  ],
)
near_beyond M B x beyond u y isu (inr w) = inr (
  inl w.0,
  w.1,
  λ v m b c. elim m [
    | inl k ↦ w.2 v k b c
    | inr e ↦ beyond u isu (subst (λ k. B k u) e c)
  ],
)

-- the one that enters with the greatest turn is in front of the head of the list, and nothing is before it
pub next_is_head : (M : ℕ → Type 0) (turn : ℕ → ℕ) (x h : ℕ) → ((u : ℕ) → M u → turn u < turn x) → IsHead M turn h →
    IsNextByTurn (λ v. M v ⊎ (v ≡ x)) turn x h
next_is_head M turn x h greatest (inl w) = inl (
  w.0,
  λ v m b. elim m [
    | inl k ↦ w.1 v k
    | inr e ↦ let s : turn v ≡ turn x = ap turn e in omega arith
  ],
)
next_is_head M turn x h greatest (inr w) = inr (
  inl w.0,
  greatest h w.0,
  λ v m b c. elim m [
    | inl k ↦ let low = w.1 v k in omega arith
    | inr e ↦ let s : turn v ≡ turn x = ap turn e in omega arith
  ],
)

pub none_is_previous : (M : ℕ → Type 0) (turn : ℕ → ℕ) (x : ℕ) → ((u : ℕ) → M u → turn u < turn x) →
    IsPreviousByTurn (λ v. M v ⊎ (v ≡ x)) turn x 0
none_is_previous M turn x greatest = inl (
  refl,
  λ v m b. elim m [
    | inl k ↦ let low = greatest v k in omega arith
    | inr e ↦ let s : turn v ≡ turn x = ap turn e in omega arith
  ],
)

-- the former head has it before itself
pub head_is_after : (M : ℕ → Type 0) (turn : ℕ → ℕ) (x h : ℕ) → ((u : ℕ) → M u → turn u < turn x) → IsHead M turn h → M h →
    IsPreviousByTurn (λ v. M v ⊎ (v ≡ x)) turn h x
head_is_after M turn x h greatest is ish = inr (
  inr refl,
  greatest h ish,
  λ v m b c. elim m [
    | inl k ↦ elim is [
      | inl w ↦ w.1 h ish
      | inr w ↦ let low = w.1 v k in omega arith
    ]
    | inr e ↦ let s : turn v ≡ turn x = ap turn e in omega arith
  ],
)

-- other members have the same one before them
pub previous_stays : (M : ℕ → Type 0) (turn : ℕ → ℕ) (x h : ℕ) → ((u : ℕ) → M u → turn u < turn x) →
    ((u v : ℕ) → M u → M v → turn u ≡ turn v → u ≡ v) → IsHead M turn h → (u y : ℕ) → M u → (u ≡ h → ⊥) → IsPreviousByTurn M turn u y →
    IsPreviousByTurn (λ v. M v ⊎ (v ≡ x)) turn u y
previous_stays M turn x h greatest differ (inl is) u y isu other near = absurd (is.1 u isu)
previous_stays M turn x h greatest differ (inr is) u y isu other (inl w) =
    let low = is.1 u isu in let never = w.1 h is.0 in
    elim (cases_lt (turn u) (turn h)) [
      | inl d ↦ absurd (never d)
      | inr d ↦ absurd (other (differ u h isu is.0 (omega arith)))
    ]
previous_stays M turn x h greatest differ (inr is) u y isu other (inr w) = inr (
  inl w.0,
  w.1,
  λ v m b c. elim m [
    | inl k ↦ w.2 v k b c
    | inr e ↦ let s : turn v ≡ turn x = ap turn e in let low = greatest y w.0 in omega arith
  ],
)

-- heads of the same members
pub head_same : (M N : ℕ → Type 0) (turn after : ℕ → ℕ) → ((u : ℕ) → M u → N u) → ((u : ℕ) → N u → M u) →
    ((u : ℕ) → M u → turn u ≡ after u) → (h : ℕ) → IsHead M turn h → IsHead N after h
head_same M N turn after to from same h (inl w) = inl (w.0, λ v m. w.1 v (from v m))
head_same M N turn after to from same h (inr w) = inr (
  to h w.0,
  λ v m.
      let low = w.1 v (from v m) in let e = same v (from v m) in let f = same h w.0 in omega arith,
)

-- a member that isn't the head leaves
pub head_stays : (M : ℕ → Type 0) (turn : ℕ → ℕ) (x h p : ℕ) → M x → M p → (turn x < turn p) → IsHead M turn h →
    IsHead (λ v. M v × (v ≡ x → ⊥)) turn h
head_stays M turn x h p is other more (inl w) = absurd (w.1 x is)
head_stays M turn x h p is other more (inr w) =
    inr ((w.0, λ e. let s : turn h ≡ turn x = ap turn e in let low = w.1 p other in omega arith), λ v m. w.1 v m.0)

-- the head leaves: the one after it is the head
pub head_leaves : (M : ℕ → Type 0) (turn : ℕ → ℕ) (x n : ℕ) → ((u v : ℕ) → M u → M v → turn u ≡ turn v → u ≡ v) → M x →
    ((v : ℕ) → M v → turn x < turn v → ⊥) → IsNextByTurn M turn x n → IsHead (λ v. M v × (v ≡ x → ⊥)) turn n
head_leaves M turn x n differ is first (inl w) = inl (
  w.0,
  λ v m. elim (cases_lt (turn x) (turn v)) [
    | inl d ↦ first v m.0 d
    | inr d ↦ elim (cases_lt (turn v) (turn x)) [
      | inl f ↦ w.1 v m.0 f
      | inr f ↦ m.1 (differ v x m.0 is (omega arith))
    ]
  ],
)
head_leaves M turn x n differ is first (inr w) =
    inr (
      (w.0, λ e. let s : turn n ≡ turn x = ap turn e in omega arith),
      λ v m. elim (cases_lt (turn n) (turn v)) [
        | inl d ↦ elim (cases_lt (turn v) (turn x)) [
          | inl f ↦ absurd (w.2 v m.0 d f)
          | inr f ↦ elim (cases_lt (turn x) (turn v)) [
            | inl g ↦ absurd (first v m.0 g)
            | inr g ↦ absurd (m.1 (differ v x m.0 is (omega arith)))
          ]
        ]
        | inr d ↦ d
      ],
    )
