use Rattle.std.proofs.Common.{rules, arith, ap, sym, ◌∙◌, subst}
use Rattle.std.specs.Prelude.{Contains}
use Rattle.std.proofs.lemmas.Bool.{both_ways}
use Rattle.pa_buckets.specs.Table.{slots_of}
use Rattle.pa_slot.specs.declared.title.Title.{Title}
use Rattle.pa_slot.specs.declared.word.SlotName.{SlotName}
use Rattle.pa_record.specs.Spans.{Span, title_at}
use Rattle.pa_record.proofs.Returning.{number_is}
use Rattle.pa_place.proofs.CameBack.{back_listed, kept_listed, listed_back}
use Rattle.pa_place.proofs.plain_span.PlainSpan.out.Goals as goal
use Rattle.pa_place.proofs.plain_span.PlainSpan.out.Goals.{then-number-self-via-then-number-self, then-number-self-via-else-number-self+then-has}

pub returns-then-number-self-clause-none : goal.returns-then-number-self-clause-none
returns-then-number-self-clause-none c = λ n out.
    let i = c.self.inside in
    let e = number_is c.args.self.now c.args.name n c.requires.counted out in
    let f = c.number_of-number.ensures in
    let p = ap (λ (s : Span). s.provisioned) c.self.view_is in
    let q = ap (λ (s : Span). s.free) c.self.view_is in
    let k = out.provisioned in
    elim c.then-number-self.branch [
      | then-number-self-via-then-number-self w ↦
          let h = w.if-number-self.true in
          out.out (subst (λ xs. Contains xs n) q
          (kept_listed i.returned.items i.kept_from i.provisioned n (omega (arith, h, e, f)) (omega (arith, p, k))))
      | then-number-self-via-else-number-self+then-has w ↦
          let among = w.has.ensures.0 w.if-has.true in
          out.out (subst (λ xs. Contains xs n) q
          (back_listed i.returned.items i.kept_from i.provisioned n (subst (λ k. Contains i.returned.items k) (f ∙ e) among)))
    ]

pub has-requires : goal.has-requires
has-requires c =
    let i = c.self.inside in
    let h = c.requires.counted in
    let p = ap (λ (s : Span). s.provisioned) c.self.view_is in
    let q = ap (λ (s : Span). slots_of s.class) c.self.view_is in
    let number = c.if-number-self.false in
    let low = c.self.invariant.low in
    let room = c.self.invariant.room in
    let made = h.made in
    let most = h.most in
    omega (arith, p, q, number, low, room, made, most)

pub returns-then-title-name-clause-some : goal.returns-then-title-name-clause-some
returns-then-title-name-clause-some c =
    let i = c.self.inside in
    let v = c.args.self.now in
    let f = c.number_of-number.ensures in
    let p = ap (λ (s : Span). s.provisioned) c.self.view_is in
    let q = ap (λ (s : Span). s.free) c.self.view_is in
    let number = c.if-number-self.false in
    let low = c.self.invariant.low in (
      c.title-title.ensures ∙ ap (title_at v) f,
      record {
        provisioned = omega (arith, f, p, number, low);
        named = search rules;
        out = λ among. both_ways _ c.if-has.false
            (c.has.ensures.1 (listed_back i.returned.items i.kept_from i.provisioned c.number_of-number.result number
            (subst (λ xs. Contains xs c.number_of-number.result) (sym q) (subst (Contains v.free) (sym f) among))));
      },
    )

pub returns-else-title-name-clause-none : goal.returns-else-title-name-clause-none
returns-else-title-name-clause-none c = λ n out.
    let e = number_is c.args.self.now c.args.name n c.requires.counted out in
    let same = c.number_of-number.ensures ∙ e in
    let start = ap (λ (t : Title). t.start) c.title-title.ensures ∙ ap (λ i. (title_at c.args.self.now i).start) same in
    c.if-title-name.false (start ∙ sym (ap (λ (x : SlotName). x.start) out.named))
