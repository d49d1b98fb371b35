-- What a shelf shows at the start, and what the words have of the root that it shows.
use Rattle.std.proofs.Common.{◌≡◌, ◌≢◌, ℕ, false, [], refl, arith}
use Rattle.pa_lists.proofs.Members.{not_in_none}
use Rattle.pa_lists.proofs.Pairs.{pairs_none}
use Rattle.pa_record.specs.declared.taken.SuperPage.{SuperPage}
use Rattle.pa_record.specs.Spans.{same_place}
use Rattle.pa_spans.proofs.Beginning.{new_lists_stand}
use Rattle.pa_records.specs.Words.{spans_in}
use Rattle.pa_records.proofs.Having.{words_have}
use Rattle.pa_meta.specs.Stores.{IsPayloadOf, HasSpanAt}
use Rattle.pa_shelf.specs.Shelves.{NoShelfIsNew, ShownIsInWords}

no_page : (u : ℕ) → IsPayloadOf [] u → ⊥
no_page u payload = let (at, among, is) = payload.super in not_in_none at among

pub no_shelf_is_new : NoShelfIsNew
no_shelf_is_new v = record {
  kept = record {
    supers = refl;
    maps = refl;
    page = refl;
    turn = refl;
    apart = pairs_none (λ (a b : SuperPage). a.number ≢ b.number);
    small = λ a among. absurd (not_in_none a among);
    pages = λ u payload. absurd (no_page u payload);
    unused = λ u h. absurd (no_page u h.payload);
    stand = new_lists_stand (spans_in v.words) (HasSpanAt v []) (λ h. no_page 0 h.payload) (λ u h. absurd (no_page u h.payload));
    few = omega arith;
    stored = record {
      had = λ s among. absurd (not_in_none s among);
      numbers = λ s among. absurd (not_in_none s among);
      each = λ u h used. absurd (no_page u h.payload);
      one = λ s t among. absurd (not_in_none s among);
      places = pairs_none (λ s t. same_place s t ≡ false);
    };
  };
  chains = λ s among. absurd (not_in_none s among);
}

pub shown_is_in_words : ShownIsInWords
shown_is_in_words v l r shown =
    words_have v.words l.lists (HasSpanAt v l.supers) r (λ u h. (h.payload.aligned, h.span, h.recorded)) shown.kept.stand shown.kept.stored
    (λ s among. (shown.chains s among).links)
