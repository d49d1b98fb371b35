-- The batches of slots that takes make.
use Rattle.std.proofs.Common.{◌≡◌, ℕ, suc, ◌<◌, ◌≤◌, arith, List, ◌++◌, sym, ◌∙◌, ap, Some, None, append_assoc}
use Rattle.std.proofs.lemmas.List.{append-nil}
use Rattle.pa_slot.specs.declared.title.Title.{Title}
use Rattle.pa_record.specs.Root.{Root, span_for, one_take}
use Rattle.pa_buckets.specs.Table.{slots_of}
use Rattle.pa_record.specs.Spans.{Span, with_free, without_front}
use Rattle.pa_record.specs.Sound.{IsCounted}
use Rattle.pa_record.proofs.SpanSteps.{with_free_front}
use Rattle.pa_place.specs.Served.{IsServed}
use Rattle.pa_place.specs.Made.{made_from}
use Rattle.pa_place.specs.declared.placed.Made.{Made}
use Rattle.pa_place.specs.Made.{cut_in, and_cut, takes_cut}
use Rattle.pa_place.proofs.Filling.{took_with}

pub cut_more : (class k : ℕ) (r next : Root) (made : List Made) (t : Title) → one_take class r ≡ took_with next (Some t) →
    made ++ takes_cut class (suc k) r ≡ (made ++ cut_in (span_for class r)) ++ takes_cut class k next
cut_more class k r next made t e =
    let first = cut_in (span_for class r) in
    ap (λ z. made ++ and_cut z first (takes_cut class k)) e ∙ sym (append_assoc made first (takes_cut class k next))

pub cut_none : (class k : ℕ) (r next : Root) (made : List Made) → one_take class r ≡ took_with next None → made ++
    takes_cut class (suc k) r ≡ made
cut_none class k r next made e = ap (λ z. made ++ and_cut z (cut_in (span_for class r)) (takes_cut class k)) e ∙ append-nil made

-- a span from which a slot was taken, by the list that it is left with
pub served_after : (s u : Span) (title : Title) → IsServed s u title → u ≡ without_front u.free (with_free s)
served_after s u title served = served.after ∙ ap (λ xs. without_front xs (with_free s)) (sym (ap (λ (z : Span). z.free) served.after))

pub served_most : (s u : Span) (title : Title) → IsCounted s → s.allocated < slots_of s.class → IsServed s u title →
    u.made ≤ slots_of u.class
served_most s u title counted left served =
    let k = (with_free_front s counted left).counted.most in
    let made = ap (λ (z : Span). z.made) served.after in
    let class = ap (λ (z : Span). slots_of z.class) served.after in
    omega arith

-- a span that served a slot has made the same batch as it had when it was ready for the take
pub served_cut : (before : ℕ) (s u : Span) (title : Title) → IsServed s u title → made_from before u ≡ made_from before (with_free s)
served_cut before s u title served = ap (made_from before) served.after
