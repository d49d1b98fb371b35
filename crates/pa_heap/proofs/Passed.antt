-- The handles of a queue have as many bytes as their slots have in a run, so what goes past its limit goes past that of the slots.
use Rattle.std.proofs.Common.{◌≡◌, ℕ, ◌+◌, ◌≤◌, List, [], ◌∷◌, ◌++◌, map, Some, refl, sym, ◌∙◌, ap, ap₂, subst, inl, inr}
use Rattle.std.specs.Prelude.{Contains}
use Rattle.std.proofs.lemmas.List.{map-append}
use Rattle.std.proofs.lemmas.List.Elements.{Contains-append_left, Contains-append_right}
use Rattle.pa_slot.specs.declared.word.SlotName.{SlotName}
use Rattle.pa_buckets.specs.Table.{slot_of}
use Rattle.pa_record.specs.Spans.{name_of}
use Rattle.pa_region.specs.declared.view.View.{View}
use Rattle.pa_lists.proofs.Members.{in_cases, first_in, later_in}
use Rattle.pa_rules.specs.Caches.{IsOfClass}
use Rattle.pa_rules.proofs.Versions.{real_in}
use Rattle.pa_cells.specs.declared.handle.Handle.{Handle}
use Rattle.pa_cells.specs.Handles.{HasSeenMade}
use Rattle.pa_delay.specs.Delayed.{HaveBytes}
use Rattle.pa_delay.specs.Queue.{GoesPast, AreBytes, size_of_class, waiting_bytes}
use Rattle.pa_root.specs.Handing.{at_number_seen, numbered_by}
use Rattle.pa_op_specs.specs.Stocks.{StockValue}
use Rattle.pa_op_specs.specs.Outcomes.{Outcome, IsOutcome, IsSeenOf, FillsFrom}
use Rattle.pa_op_specs.proofs.Seeing.{slot_in_run}
use Rattle.pa_heap.specs.Waiting.{waiting_in}

-- the slots of two queues, one behind the other
pub waiting_append : (m : StockValue) (xs ys : List Handle) → waiting_in m (xs ++ ys) ≡ waiting_in m xs ++ waiting_in m ys
waiting_append m xs ys =
    ap (numbered_by m.view) (map-append (λ (h : Handle). h.title) xs ys)
    ∙ map-append (at_number_seen m.view) (map (λ (h : Handle). h.title) xs) (map (λ (h : Handle). h.title) ys)

-- a handle whose slot is of a class, and which a view has seen made
pub record IsClassedIn (v : View) (h : Handle) : Type 0 where
  pub class : ℕ
  pub class_is : h.class ≡ Some class
  pub made : HasSeenMade h v

-- the last of what a list is mapped to
map_last : {A B : Type 0} (f : A → B) (xs : List A) (ys : List B) (y : B) → map f xs ≡ ys ++ y ∷ [] →
    (before : List A) × (x : A) × (xs ≡ before ++ x ∷ []) × (f x ≡ y)
map_last f [] [] y e = absurd cc
map_last f [] (w ∷ ys) y e = absurd cc
map_last f (x ∷ []) [] y e = ([], x, refl, cc)
map_last f (x ∷ z ∷ xs) [] y e = absurd cc
map_last f (x ∷ xs) (w ∷ ys) y e =
    let rest : map f xs ≡ ys ++ y ∷ [] = cc in
    let (before, z, parts, is) = map_last f xs ys y rest in
    (x ∷ before, z, ap (λ us. x ∷ us) parts, is)

module _ (o : Outcome) (run : IsOutcome o) where
  -- a slot of a class has that class's length
  length_by : (s : SlotName) (p class : ℕ) → IsOfClass o.roots s p class → o.sizes s ≡ slot_of class
  length_by s p class (e, asked, slots, among, act, named) =
      run.lengths p e (Some class) (record { start = s.start; len = slot_of class; born = s.born }) among
      (asked, slots, act, named, refl, real_in o.rules.version class (subst (FillsFrom o.rules.version) act (run.fills p e among)))

  module _ (m : StockValue) (seen : View) (sees : IsSeenOf o seen) where
    -- how many bytes a handle has is how long its slot is
    size_by : (h : Handle) → IsClassedIn seen h → (p class : ℕ) → IsOfClass o.roots (name_of h.title) p class →
        slot_of class ≡ size_of_class h.class
    size_by h is p class of =
        let own = (slot_in_run o seen h run sees is.made).class is.class is.class_is in
        sym (length_by (name_of h.title) p class of) ∙ length_by (name_of h.title) h.partition is.class own ∙
        sym (ap size_of_class is.class_is)

    have_bytes : (hs : List Handle) → ((h : Handle) → Contains hs h → IsClassedIn seen h) →
        HaveBytes o.roots (waiting_in m hs) (waiting_bytes hs)
    have_bytes [] each = refl
    have_bytes (h ∷ hs) each =
        let is = each h (first_in h hs) in (
          h.partition,
          is.class,
          waiting_bytes hs,
          (slot_in_run o seen h run sees is.made).class is.class is.class_is,
          have_bytes hs (λ g among. each g (later_in h g hs among)),
          ap (λ c. size_of_class c + waiting_bytes hs) is.class_is,
        )

    are_bytes : (hs : List Handle) (n : ℕ) → ((h : Handle) → Contains hs h → IsClassedIn seen h) →
        HaveBytes o.roots (waiting_in m hs) n → n ≡ waiting_bytes hs
    are_bytes [] n each none = none
    are_bytes (h ∷ hs) n each (p, class, k, of, rest, sum) =
        let is = each h (first_in h hs) in
        sum ∙ ap₂ (λ a b. a + b) (size_by h is p class of) (are_bytes hs k (λ g among. each g (later_in h g hs among)) rest)

    -- what goes past the limit of the handles goes past that of the slots
    pub slots_go_past : (bytes : ℕ) (hs gone stays : List Handle) → ((h : Handle) → Contains hs h → IsClassedIn seen h) →
        GoesPast AreBytes bytes hs gone stays →
        GoesPast (HaveBytes o.roots) bytes (waiting_in m hs) (waiting_in m gone) (waiting_in m stays)
    slots_go_past bytes hs gone stays each past = record {
      parts = ap (waiting_in m) past.parts ∙ waiting_append m gone stays;
      fits = (
        waiting_bytes stays,
        have_bytes stays stay,
        subst (λ n. n ≤ bytes) past.fits.1 past.fits.2,
      );
      least = λ front last n parts have.
          let (titles, t, are, same) = map_last (at_number_seen m.view) (map (λ (h : Handle). h.title) gone) front last parts in
          let (before, h, is, also) = map_last (λ (h : Handle). h.title) gone titles t are in
          past.least before h n is (are_bytes (h ∷ stays) n (here before h is)
          (subst (λ s. HaveBytes o.roots (s ∷ waiting_in m stays) n) (sym (ap (at_number_seen m.view) also ∙ same)) have));
    }
      where
        stay : (h : Handle) → Contains stays h → IsClassedIn seen h
        stay h among = each h (subst (λ xs. Contains xs h) (sym past.parts) (Contains-append_right gone stays h among))

        here : (before : List Handle) (h : Handle) → gone ≡ before ++ h ∷ [] → (g : Handle) → Contains (h ∷ stays) g → IsClassedIn seen g
        here before h is g among = elim (in_cases h g stays among) [
          | inl same ↦ each g (subst (λ xs. Contains xs g) (sym past.parts) (Contains-append_left gone stays g
              (subst (λ xs. Contains xs g) (sym is) (Contains-append_right before (h ∷ []) g
              (subst (λ k. Contains (h ∷ []) k) same (first_in h []))))))
          | inr later ↦ stay g later
        ]
