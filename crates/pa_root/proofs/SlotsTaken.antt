-- Takes one after another: what is taken so far, and the root that gives the rest.
use Rattle.std.proofs.Common.{◌≡◌, ℕ, zero, suc, ◌+◌, ◌<◌, ◌≤◌, true, List, [], ◌∷◌, ◌++◌, Option, Some, None, refl, sym, ◌∙◌, ap, subst, arith, inl, inr, append_assoc}
use Rattle.std.specs.Prelude.{◌≢◌, is_some}
use Rattle.std.proofs.lemmas.List.{append-nil}
use Rattle.std.proofs.lemmas.List.Elements.{Contains-append_cases, Contains-append_left, Contains-append_right}
use Rattle.pa_slot.specs.declared.title.Title.{Title}
use Rattle.pa_slot.specs.declared.word.SlotName.{SlotName}
use Rattle.pa_lists.proofs.Members.{of_some, not_some, not_in_none}
use Rattle.pa_lists.proofs.Pairs.{pairs_none}
use Rattle.pa_lists.proofs.Joined.{pairs_append}
use Rattle.pa_record.specs.Spans.{name_of}
use Rattle.pa_record.specs.Root.{Root, Found, Took, Filled, span_for, taken_from, one_take, and_then, takes, IsOut}
use Rattle.pa_record.specs.Sound.{IsSound, IsMade}
use Rattle.pa_record.proofs.Filling.{take_cases, and_then_some}
use Rattle.pa_region.specs.declared.view.View.{View}
use Rattle.pa_region.specs.Views.{seen_of}
use Rattle.pa_shelf.specs.Moving.{Rewritten}
use Rattle.pa_shelf.specs.Shelves.{ShelfParts, ShowsRoot}
use Rattle.pa_shelf.proofs.Rewriting.{rewritten_none, rewritten_on}
use Rattle.pa_root.specs.Keeping.{RootState}
use Rattle.pa_root.specs.Cutting.{NoneSeen}
use Rattle.pa_root.specs.Filling.{CanCutAll, MakesMore, after_cuts}
use Rattle.pa_root.specs.Taking.{HasMade, CanTakeOne, IsOneTaken, CanTakeSlots, AreSlotsTaken, cut_for}
use Rattle.pa_root.proofs.Batches.{beside_cuts, free_stays, free_cut}
use Rattle.pa_root.proofs.Filling.{what_is_made_can_be_cut}
use Rattle.pa_root.proofs.OneCut.{one_makes}
use Rattle.pa_root.proofs.Rewording.{cuts_rewritten, free_rewritten, can_rewritten}
use Rattle.pa_root.proofs.Rows.{cuts_go_on}

-- What is new after two steps.
more_on : (r z after : Root) (ts us : List Title) → MakesMore r z ts → MakesMore z after us → MakesMore r after (ts ++ us)
more_on r z after ts us a b = record {
  keeps = λ t made. b.keeps t (a.keeps t made);
  only = λ t made. elim (b.only t made) [
    | inl before ↦ elim (a.only t before) [ inl old ↦ inl old | inr new ↦ inr (Contains-append_left ts us t new) ]
    | inr new ↦ inr (Contains-append_right ts us t new)
  ];
  makes = λ t among. elim (Contains-append_cases ts us t among) [
    | inl first ↦ b.keeps t (a.makes t first)
    | inr later ↦ b.makes t later
  ];
  fresh = λ t among made. elim (Contains-append_cases ts us t among) [
    | inl first ↦ a.fresh t first made
    | inr later ↦ b.fresh t later (a.keeps t made)
  ];
  once = pairs_append ◌≢◌ ts us a.once b.once (λ x y has has' same. b.fresh y has' (subst (λ t. IsMade z t) same (a.makes x has)));
}

none_more : (r : Root) → MakesMore r r []
none_more r = record {
  keeps = λ t made. made;
  only = λ t made. inl made;
  makes = λ t among. absurd (not_in_none t among);
  fresh = λ t among made. not_in_none t among;
  once = pairs_none (λ (a : Title) (b : Title). a ≢ b);
}

-- The takes so far gave these titles, and with those that are left they are what all takes give: the root z gives the rest. The
-- seat had the view v, and has w.
pub record IsUnderWay (class want left : ℕ) (v w : View) (l : ShelfParts) (r : Root) (titles : List Title) : Type 0 where
  pub now : Root
  pub new : List Title
  pub sound : IsSound now
  pub shown : ShowsRoot w l now
  pub supers : now.supers ≡ r.supers
  pub more : MakesMore r now new
  pub has : HasMade w now
  pub cut : Rewritten (after_cuts new v) w
  pub unseen : NoneSeen w new
  pub filled : takes class want r ≡ record { root = (takes class left now).root; titles = titles ++ (takes class left now).titles }

pub at_start : (class want : ℕ) (v : View) (l : ShelfParts) (r : Root) → CanTakeSlots v l r → IsUnderWay class want want v v l r []
at_start class want v l r can = record {
  now = r;
  new = [];
  sound = can.sound;
  shown = can.shown;
  supers = refl;
  more = none_more r;
  has = can.has;
  cut = rewritten_none v;
  unseen = λ t among. absurd (not_in_none t among);
  filled = refl;
}

-- if no span is found, and what a take gives else
no_span : (class : ℕ) (z : Root) → span_for class z ≡ None → (one_take class z).title ≡ None
no_span class z none = ap (λ o. (taken_from o z).title) none

some_span : (o : Option Found) → is_some o ≡ true → (f : Found) × (o ≡ Some f)
some_span None e = absurd (cc)
some_span (Some f) e = (f, refl)

-- what one take makes
one_more : (class : ℕ) (z : Root) → IsSound z → class < 170 → MakesMore z (one_take class z).root (cut_for (span_for class z))
one_more class z sound real = elim (take_cases class z sound real) [
  | inl none ↦
      subst (λ o. MakesMore z (taken_from o z).root (cut_for o)) (sym none) (none_more z)
  | inr (some, given) ↦
      let (f, is) = some_span (span_for class z) some in
      subst (λ o. MakesMore z (one_take class z).root (cut_for o)) (sym is) (one_makes class z f sound real is)
]

one_sound : (class : ℕ) (z : Root) → IsSound z → class < 170 → IsSound (one_take class z).root × ((one_take class z).root.supers ≡ z.supers)
one_sound class z sound real = elim (take_cases class z sound real) [
  | inl none ↦ subst (λ o. IsSound (taken_from o z).root × ((taken_from o z).root.supers ≡ z.supers)) (sym none) (sound, refl)
  | inr (some, given) ↦ (given.sound, given.supers)
]

-- a take takes one turn at most
pub one_turn : (class : ℕ) (v w : View) (l m : ShelfParts) (z : Root) (title : Option Title) → IsSound z → class < 170 → ShowsRoot v l z →
    IsOneTaken class z v w m title → m.lists.turn ≤ l.lists.turn + 1
one_turn class v w l m z title sound real shown one = elim (take_cases class z sound real) [
  | inl none ↦
      let same : (one_take class z).root.turn ≡ z.turn = ap (λ o. (taken_from o z).root.turn) none in
      let before = shown.kept.turn in let after = one.shown.kept.turn in
      omega arith
  | inr (some, given) ↦
      let up = given.turn in
      let before = shown.kept.turn in let after = one.shown.kept.turn in
      omega arith
]

module _ (class want left : ℕ) (v w : View) (l0 l : ShelfParts) (r : Root) (titles : List Title) (can : CanTakeSlots v l0 r)
    (real : class < 170)
    (u : IsUnderWay class want left v w l r titles) where
  abbrev after : Root
  after = (one_take class u.now).root

  abbrev now_new : List Title
  now_new = cut_for (span_for class u.now)

  all_more : MakesMore r after (u.new ++ now_new)
  all_more = more_on r u.now after u.new now_new u.more (one_more class u.now u.sound real)

  pub next_able : CanTakeOne class w l u.now
  next_able =
      let (sound, supers) = one_sound class u.now u.sound real in
      let s : RootState = record { view = v; journal = []; root = r } in
      let all : CanCutAll (u.new ++ now_new) v =
      what_is_made_can_be_cut s after (u.new ++ now_new) can.rest can.sound sound (supers ∙ u.supers) all_more in
      record {
        sound = u.sound;
        shown = u.shown;
        has = u.has;
        able = can_rewritten now_new (after_cuts u.new v) w u.cut (cuts_go_on.parts u.new now_new v all).1;
      }

  -- the seat's view after the take
  module _ (x : View) (m : ShelfParts) (title : Option Title) (one : IsOneTaken class u.now w x m title) where
    all_cut : Rewritten (after_cuts (u.new ++ now_new) v) x
    all_cut =
        subst (λ (y : View). Rewritten y x) (sym (cuts_go_on.view u.new now_new v))
        (rewritten_on (after_cuts now_new (after_cuts u.new v)) (after_cuts now_new w) x
        (cuts_rewritten now_new (after_cuts u.new v) w u.cut) one.cut)

    seen_same : (t : Title) → seen_of x t ≡ seen_of w t
    seen_same t = ap (λ (y : View). seen_of y t) one.cut.rest ∙ (beside_cuts now_new w).seen t

    all_unseen : NoneSeen x (u.new ++ now_new)
    all_unseen t among = elim (Contains-append_cases u.new now_new t among) [
      | inl old ↦ seen_same t ∙ u.unseen t old
      | inr here ↦ one.unseen t here
    ]

    all_has : ((name : SlotName) → IsOut u.now name → IsOut after name) → HasMade x after
    all_has stays t made =
        let same = free_rewritten (after_cuts now_new w) x t one.cut in
        elim ((one_more class u.now u.sound real).only t made) [
          | inl before ↦ elim (u.has t before) [
            | inl free ↦ let more = free_stays now_new w t in inl (omega arith)
            | inr out ↦ inr (stays (name_of t) out)
          ]
          | inr new ↦ let free = free_cut now_new w t new in inl (omega arith)
        ]

  -- none is left
  pub none_left : (x : View) (m : ShelfParts) → IsOneTaken class u.now w x m None → AreSlotsTaken class want r v x m titles
  none_left x m one = elim (take_cases class u.now u.sound real) [
    | inl none ↦
        let e : one_take class u.now ≡ record { root = u.now; title = None } = ap (λ o. taken_from o u.now) none in
        let rest = no_more left e in
        let all : takes class want r ≡ record { root = u.now; titles = titles } =
        u.filled ∙ (ap (λ (f : Filled). let g : Filled = record { root = f.root; titles = titles ++ f.titles } in g) rest
        ∙ ap (λ ts. let g : Filled = record { root = u.now; titles = ts } in g) (append-nil titles)) in
        record {
          new = u.new ++ now_new;
          titles_are = sym (ap (λ (f : Filled). f.titles) all);
          shown = subst (ShowsRoot x m) (ap (λ (t : Took). t.root) e ∙ sym (ap (λ (f : Filled). f.root) all)) one.shown;
          more = subst (λ z. MakesMore r z (u.new ++ now_new))
              (ap (λ (t : Took). t.root) e ∙ sym (ap (λ (f : Filled). f.root) all)) all_more;
          cut = all_cut x m None one;
          unseen = all_unseen x m None one;
        }
    | inr (some, given) ↦ absurd (not_some given.title (one.title_is ∙ given.gives))
  ]
    where
      no_more : (n : ℕ) → one_take class u.now ≡ record { root = u.now; title = None } →
          takes class n u.now ≡ record { root = u.now; titles = [] }
      no_more zero e = refl
      no_more (suc n) e = ap (λ t. and_then t (takes class n)) e

-- all were taken
pub all_taken : (class want : ℕ) (v w : View) (l : ShelfParts) (r : Root) (titles : List Title) → IsUnderWay class want 0 v w l r titles →
    AreSlotsTaken class want r v w l titles
all_taken class want v w l r titles u =
    let all : takes class want r ≡ record { root = u.now; titles = titles } =
    u.filled ∙ ap (λ ts. let g : Filled = record { root = u.now; titles = ts } in g) (append-nil titles) in
    record {
      new = u.new;
      titles_are = sym (ap (λ (f : Filled). f.titles) all);
      shown = subst (ShowsRoot w l) (sym (ap (λ (f : Filled). f.root) all)) u.shown;
      more = subst (λ z. MakesMore r z u.new) (sym (ap (λ (f : Filled). f.root) all)) u.more;
      cut = u.cut;
      unseen = u.unseen;
    }

-- one more was taken
pub one_on : (class want left next : ℕ) (v w : View) (l0 l : ShelfParts) (r : Root) (titles items : List Title) → CanTakeSlots v l0 r →
    class < 170 →
    left ≡ suc next → (u : IsUnderWay class want left v w l r titles) → (x : View) (m : ShelfParts) (title : Title) →
    IsOneTaken class u.now w x m (Some title) → items ≡ titles ++ title ∷ [] → IsUnderWay class want next v x m r items
one_on class want left next v w l0 l r titles items can real is_left u x m title one items_are =
    elim (take_cases class u.now u.sound real) [
      | inl none ↦ absurd (not_some title (sym (one.title_is ∙ no_span class u.now none)))
      | inr (some, given) ↦
          let z = (one_take class u.now).root in
          let is : given.title ≡ title = of_some given.title title (sym given.gives ∙ sym one.title_is) in
          let step : takes class left u.now ≡ record { root = (takes class next z).root; titles = title ∷ (takes class next z).titles } =
          ap (λ n. takes class n u.now) is_left ∙
          and_then_some (one_take class u.now) (takes class next) title (given.gives ∙ ap Some is) in
          let all : titles ++ title ∷ (takes class next z).titles ≡ items ++ (takes class next z).titles =
          sym (append_assoc titles (title ∷ []) (takes class next z).titles) ∙
          ap (λ ts. ts ++ (takes class next z).titles) (sym items_are) in
          record {
            now = z;
            new = u.new ++ cut_for (span_for class u.now);
            sound = given.sound;
            shown = one.shown;
            supers = given.supers ∙ u.supers;
            more = all_more class want left v w l0 l r titles can real u;
            has = all_has class want left v w l0 l r titles can real u x m (Some title) one given.stays;
            cut = all_cut class want left v w l0 l r titles can real u x m (Some title) one;
            unseen = all_unseen class want left v w l0 l r titles can real u x m (Some title) one;
            filled =
                u.filled
                ∙ (ap (λ (f : Filled). let g : Filled = record { root = f.root; titles = titles ++ f.titles } in g) step
                ∙ ap (λ ts. let g : Filled = record { root = (takes class next z).root; titles = ts } in g) all);
          }
    ]
