-- Titles that are cut one after the other: what a root makes on a line is in the core.
use Rattle.std.proofs.Common.{◌≡◌, ℕ, ◌<◌, if◌then◌else◌, List, [], ◌∷◌, ◌++◌, refl, sym, subst, ◌⊎◌, inl, inr}
use Rattle.std.specs.Prelude.{Contains}
use Rattle.pa_slot.specs.declared.title.Title.{Title}
use Rattle.pa_slot.specs.Holdings.{OwnOf, SealedOwn}
use Rattle.pa_machine.specs.Events.{State, held_by}
use Rattle.pa_machine.proofs.Lasting.{run_start}
use Rattle.pa_record.specs.Spans.{name_of}
use Rattle.pa_record.specs.Sound.{TitlesApart}
use Rattle.pa_lists.proofs.Members.{first_in, later_in, in_cases, not_in_none}
use Rattle.pa_core_steps.proofs.Joining.{run_join}
use Rattle.pa_core_run.specs.Ledger.{Ledger, Titles, IsShown}
use Rattle.pa_core_run.specs.Moves.{AllApart, CanBeCut, IsReached}
use Rattle.pa_core_run.proofs.Cutting.{cutting, with_title, cut_shown}
use Rattle.pa_core_run.proofs.Acting.{beside_both}
use Rattle.pa_core_run.proofs.Batching.{kept_with}

-- the titles with these, which actor 0 has
abbrev pub with_titles : Titles → List Title → Titles
with_titles names ts = record {
  Made = names.Made;
  There = λ u. names.There u ⊎ Contains ts u;
  Kept = kept_with names.Kept ts;
  plain = names.plain;
}

-- more titles may be there, and fewer asked of actor 0
pub renamed : (names next : Titles) (actors bytes : ℕ) (b : Ledger) (s : State) → ((u : Title) → next.plain u ≡ names.plain u)
    → ((u : Title) → next.Made u → names.Made u)
    → ((u : Title) → names.There u → next.There u) → ((u : Title) → next.Kept u → names.Kept u) →
    IsShown names actors bytes b s → IsShown next actors bytes b s
renamed names next actors bytes b s plain made there kept h = record {
  good = h.good;
  many = h.many;
  long = h.long;
  own = λ k t below m. h.own k t below (made t m);
  ref = λ k t below m. h.ref k t below (made t m);
  free = λ k t some below m. h.free k t some below (made t m);
  kept = λ u k. h.kept u (kept u k);
  words = h.words;
  contents = h.contents;
  clean = h.clean;
  sealed = λ k below u. subst (λ p. held_by s k (SealedOwn u) ≡ (if p then held_by s k (OwnOf u) else 0)) (sym (plain u))
      (h.sealed k below u);
  raw = h.raw;
  there = λ t held. there t (h.there t held);
}

pub cuts_go : (ts : List Title) (names : Titles) (actors bytes : ℕ) (b : Ledger) (s : State) (k : ℕ) → IsShown names actors bytes b s →
    0 < actors →
    ((t : Title) → Contains ts t → CanBeCut names bytes t × (b.word (name_of t) ≡ 0)) → AllApart ts → (after : State) ×
    IsReached (with_titles names ts) actors bytes b s k after
cuts_go [] names actors bytes b s k h some can apart = (
  s,
  record {
    events = [];
    run = run_start s h.good;
    beside = tt;
    shown = renamed names (with_titles names []) actors bytes b s (λ u. refl) (λ u m. m) (λ u there. inl there)
        (λ u kept. elim kept [ inl old ↦ old | inr new ↦ absurd (not_in_none u new) ]) h;
  },
)
cuts_go (t ∷ ts) names actors bytes b s k h some can apart =
    let here = can t (first_in t ts) in
    let K : Title → Type 0 = λ u. names.Kept u ⊎ (t ≡ u) in
    let first = cut_shown names K actors bytes b s t h some here.0 here.1 (λ u kept. kept) in
    let more = cuts_go ts (with_title names t K) actors bytes b first.0 k first.2 some
    (λ u member.
    let it = can u (later_in t u ts member) in (
      record {
        apart = λ v there. elim there [
          | inl old ↦ it.0.apart v old
          | inr same ↦
              subst (λ (w : Title). TitlesApart u w) same (apart.0 u member)
        ];
        start_aligned = it.0.start_aligned;
        len_aligned = it.0.len_aligned;
        long = it.0.long;
        inside = it.0.inside;
      },
      it.1,
    ))
    apart.1 in (
      more.0,
      record {
        events = cutting t ++ more.1.events;
        run = run_join s first.0 more.0 (cutting t) more.1.events h.good first.1 more.1.run;
        beside = beside_both k (cutting t) more.1.events (inl refl, (inl refl, tt)) more.1.beside;
        shown = renamed (with_titles (with_title names t K) ts) (with_titles names (t ∷ ts)) actors bytes b more.0 (λ u. refl)
            (λ u m. m)
            (λ u there. elim there [
              | inl old ↦ elim old [
                | inl before ↦ inl before
                | inr same ↦
                    inr (subst (λ (v : Title). Contains (t ∷ ts) v) same (first_in t ts))
              ]
              | inr later ↦ inr (later_in t u ts later)
            ])
            (λ u kept. elim kept [
              | inl old ↦ inl (inl old)
              | inr new ↦ elim (in_cases t u ts new) [ inl same ↦ inl (inr same) | inr later ↦ inr later ]
            ])
            more.1.shown;
      },
    )
