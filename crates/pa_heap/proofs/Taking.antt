-- An allocation that takes the front of a list: what that says before the issue.
use Rattle.std.proofs.Common.{◌≡◌, ℕ, suc, ◌+◌, ◌-◌, ◌<◌, List, [], ◌∷◌, max, refl, sym, ◌∙◌, ap, subst, arith, inl, inr}
use Rattle.std.specs.Prelude.{◌≢◌, Contains, AllPairs}
use Rattle.std.proofs.lemmas.Bool.Decides.{eqb_tells}
use Rattle.pa_slot.specs.declared.title.Title.{Title}
use Rattle.pa_slot.specs.Count.{number_of}
use Rattle.pa_buckets.specs.Classes.{IsClassIn}
use Rattle.pa_heap.proofs.Ruling.{class_as}
use Rattle.pa_record.specs.declared.entry.Seen.{Seen}
use Rattle.pa_record.specs.declared.numbered.Numbered.{Numbered}
use Rattle.pa_record.specs.Spans.{name_of}
use Rattle.pa_lists.proofs.Members.{not_in_none, first_in, later_in}
use Rattle.pa_region.specs.declared.view.Entry.TheVariants.{Uncut}
use Rattle.pa_region.specs.declared.view.View.{View}
use Rattle.pa_region.specs.Views.{seen_of}
use Rattle.pa_rules.specs.Caches.{NoActs, OnlyActs, FrontIs, FilledFirst, acts_of}
use Rattle.pa_rules.specs.Roots.{Journals}
use Rattle.pa_rules.proofs.Sizes.{sizes_fit}
use Rattle.pa_root.specs.Handing.{at_number_seen, numbered_by}
use Rattle.pa_rules.specs.Lists.{cache_place}
use Rattle.pa_op_specs.specs.Stocks.{StockValue, IsStock, titles_in, listed_slot}
use Rattle.pa_thread_state.specs.Changes.{IsBack}
use Rattle.pa_thread_state.specs.Allocating.{with_listed, TakesFront}
use Rattle.pa_thread_state.proofs.Places.{titles_here}
use Rattle.pa_thread_state.proofs.Relisting.{listed_cases, relisted}
use Rattle.pa_op_specs.proofs.Entered.{entering_none}
use Rattle.pa_op_specs.proofs.AskedFor.{asks_none}
use Rattle.pa_heap.proofs.Apart.{set_off}
use Rattle.pa_heap.proofs.Issuing.{Bringing}

-- the first of titles that differ isn't among the others
pub first_alone : (t : Title) (ts : List Title) → AllPairs ◌≢◌ (t ∷ ts) → Contains ts t → ⊥
first_alone t ts differ (k, below, is) = differ 0 (suc k) t (omega arith) (omega arith) (sym is)

-- the front is the slot that was made, at the number that was found
pub front_is : (v : View) (t : Title) (seen : Seen) (ms : List Numbered) → seen.slot ≡ name_of t → number_of seen.found.0 ≡ seen_of v t →
    FrontIs seen (at_number_seen v t ∷ ms) ms
front_is v t seen ms slot number =
    ap (λ n. record { slot = n; number = seen_of v t } ∷ ms) (sym slot) ∙
    ap (λ n. record { slot = seen.slot; number = n } ∷ ms) (sym number)

-- ---- the front of a list

no_acts : (roots : Journals) (line p : ℕ) → OnlyActs roots line p [] → NoActs roots line
no_acts roots line p only q = elim (eqb_tells q p) [
  | inl y ↦ subst (λ k. acts_of roots line k ≡ []) (sym y.1) only.0
  | inr n ↦ only.1 q n.1
]

pub front_back : (s mid : StockValue) (p c : ℕ) (t : Title) → IsStock s → p < 4 → TakesFront p c t s mid → IsBack (listed_slot p c t) mid
front_back s mid p c t is low front = subst (λ (z : StockValue). IsBack (listed_slot p c t) z) (sym front.after_is) (record {
  free = is.lists.free p c t among;
  new = λ q d there. elim (listed_cases s.caches p c front.rest q d low front.real is.lists.count) [
    | inl h ↦ first_alone t front.rest differ (subst (λ ts. Contains ts t) h.2 there)
    | inr h ↦ h.0 (is.lists.apart q p d c t (subst (λ ts. Contains ts t) h.1 there) among)
  ];
  made = is.lists.made p c t among;
})
  where
    among : Contains (titles_in s.caches p c) t
    among = subst (λ ts. Contains ts t) (sym front.was) (first_in t front.rest)

    differ : AllPairs ◌≢◌ (t ∷ front.rest)
    differ = subst (λ ts. AllPairs ◌≢◌ ts) (sym (titles_here s.caches p c front.real) ∙ front.was)
        (is.lists.sound (cache_place s.caches.version p c)).different

pub front_brings : (line size p c : ℕ) (t : Title) (s mid : StockValue) (front : TakesFront p c t s mid) → IsStock s → p < 4 →
    IsClassIn s.caches.version (max size 1 + 8) c →
    Bringing line size (listed_slot p c t) [] [] s s.view (with_listed p c front.rest s.caches)
front_brings line size p c t s mid front is low class = record {
  entering = entering_none s.thread line s.view;
  version = refl;
  quiet = refl;
  uncut = λ u among. not_in_none (Uncut u) among;
  asks = asks_none line p s.view;
  makes = λ pools a x r is_op first among. absurd (not_in_none a among);
  fills = λ a among. absurd (not_in_none a among);
  usable = ap (λ n. n - 8) (front.long ∙ sym (sizes_fit.class s.caches.version size c class));
  apart = λ u alone. (
    record {
      free = alone.free;
      off = set_off s.caches p c front.rest u low front.real is.lists.count
          (λ among. alone.off p c (subst (λ ts. Contains ts u) (sym front.was) (later_in t u front.rest among))) alone.off;
      well = alone.well;
    },
    refl,
  );
  lacks = λ alone. alone.off p c (subst (λ ts. Contains ts t) (sym front.was) (first_in t front.rest));
  rows = λ roots x r seen after is_op first only slot number same. inl (
    p,
    c,
    numbered_by s.view (t ∷ front.rest),
    numbered_by s.view front.rest,
    (r, size, is_op, class_as x.rules.version s.caches.version (max size 1 + 8) c first class),
    subst (λ ts. FilledFirst roots x.line p c (numbered_by s.view ts) (numbered_by s.view (t ∷ front.rest))) (sym front.was)
        (refl, no_acts roots x.line p only),
    front_is s.view t seen (numbered_by s.view front.rest) slot number,
    λ q d. same q d ∙ relisted s s.view p c front.rest (numbered_by s.view front.rest) is low front.real refl (λ k e u among. refl) q d,
  );
}
