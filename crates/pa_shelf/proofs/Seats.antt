-- A seat as a store of spans: its pages have a span exactly where the view has one.
use Rattle.std.proofs.Common.{◌≡◌, ℕ, List, sym, ◌∙◌, ap, subst}
use Rattle.std.specs.Prelude.{◌↔◌}
use Rattle.atomic_table.specs.Seated.{TableId}
use Rattle.pa_record.specs.declared.taken.SuperPage.{SuperPage}
use Rattle.pa_record.specs.Spans.{Span}
use Rattle.pa_region.specs.Shares.{Share}
use Rattle.pa_spans.specs.Lists.{SpanListParts, Stand}
use Rattle.pa_spans.proofs.Moving.{stands_alike}
use Rattle.pa_records.specs.Words.{spans_in}
use Rattle.pa_records.specs.Stored.{AreStored}
use Rattle.pa_records.proofs.Storing.{stored_same}
use Rattle.pa_meta.specs.Stores.{HasSpanAt}

-- the pages that have a span in a store of this seat
abbrev pub stored_at : Share → TableId → List SuperPage → ℕ → Type 0
stored_at y region supers u = (y.region ≡ region) × HasSpanAt y.view supers u

-- the store is that of this seat and these super pages
pub record IsStoreOf (x y : Share) (region : TableId) (ss ts : List SuperPage) : Type 0 where
  pub seat : y ≡ x
  pub supers : ts ≡ ss
  pub of_region : x.region ≡ region

pub has_alike : (x y : Share) (region : TableId) (ss ts : List SuperPage) → IsStoreOf x y region ss ts → (u : ℕ) →
    stored_at y region ts u ↔ HasSpanAt x.view ss u
has_alike x y region ss ts is u = (
  λ h. subst (λ (z : Share). HasSpanAt z.view ss u) is.seat (subst (λ zs. HasSpanAt y.view zs u) is.supers h.1),
  λ h. (
    ap (λ (z : Share). z.region) is.seat ∙ is.of_region,
    subst (λ zs. HasSpanAt y.view zs u) (sym is.supers) (subst (λ (z : Share). HasSpanAt z.view ss u) (sym is.seat) h),
  ),
)

pub stands_in : (l : SpanListParts) (x y : Share) (region : TableId) (ss ts : List SuperPage) → IsStoreOf x y region ss ts →
    Stand l (spans_in x.view.words) (HasSpanAt x.view ss) → Stand l (spans_in y.view.words) (stored_at y region ts)
stands_in l x y region ss ts is st =
    stands_alike l (spans_in x.view.words) (spans_in y.view.words) (HasSpanAt x.view ss) (stored_at y region ts) st
    (λ u. ap (λ (z : Share). spans_in z.view.words u) is.seat) (has_alike x y region ss ts is)

pub stands_out : (l : SpanListParts) (x y : Share) (region : TableId) (ss ts : List SuperPage) → IsStoreOf x y region ss ts →
    Stand l (spans_in y.view.words) (stored_at y region ts) → Stand l (spans_in x.view.words) (HasSpanAt x.view ss)
stands_out l x y region ss ts is st =
    stands_alike l (spans_in y.view.words) (spans_in x.view.words) (stored_at y region ts) (HasSpanAt x.view ss) st
    (λ u. ap (λ (z : Share). spans_in z.view.words u) (sym is.seat)) (λ u. let both = has_alike x y region ss ts is u in (both.1, both.0))

pub stored_alike : (x y : Share) (region : TableId) (ss ts : List SuperPage) → IsStoreOf x y region ss ts → (us : List Span) →
    AreStored (spans_in x.view.words) (HasSpanAt x.view ss) us → AreStored (spans_in y.view.words) (stored_at y region ts) us
stored_alike x y region ss ts is us st =
    let both = has_alike x y region ss ts is in
    stored_same (spans_in y.view.words) (HasSpanAt x.view ss) (stored_at y region ts) us (λ u. (both u).1) (λ u. (both u).0)
    (subst (λ (z : Share). AreStored (spans_in z.view.words) (HasSpanAt x.view ss) us) (sym is.seat) st)

pub stored_back : (x y : Share) (region : TableId) (ss ts : List SuperPage) → IsStoreOf x y region ss ts → (us : List Span) →
    AreStored (spans_in y.view.words) (stored_at y region ts) us → AreStored (spans_in x.view.words) (HasSpanAt x.view ss) us
stored_back x y region ss ts is us st =
    let both = has_alike x y region ss ts is in
    subst (λ (z : Share). AreStored (spans_in z.view.words) (HasSpanAt x.view ss) us) is.seat
    (stored_same (spans_in y.view.words) (stored_at y region ts) (HasSpanAt x.view ss) us (λ u. (both u).0) (λ u. (both u).1) st)
