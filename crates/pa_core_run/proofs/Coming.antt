-- Titles by lists: they come into the core and leave it, and free slots go to the roots and come from them.
use Rattle.std.proofs.Common.{◌≡◌, ℕ, [], ◌∷◌, ◌++◌, refl, inl, inr}
use Rattle.std.specs.Prelude.{Contains}
use Rattle.std.proofs.lemmas.List.Elements.{Contains-append_left, Contains-append_right, Contains-append_cases}
use Rattle.pa_slot.specs.declared.title.Title.{Title}
use Rattle.pa_machine.specs.declared.event.Event.TheVariants.{Uncut}
use Rattle.pa_machine.specs.Events.{State}
use Rattle.pa_core_run.specs.Ledger.{Ledger, Titles}
use Rattle.pa_core_run.specs.Moves.{IsReached, listed_titles, TitlesCanBeCut, TitlesCanBeUncut, SlotsCanGoBack, SlotsCanCome, TitlesComeAndGo}
use Rattle.pa_core_run.proofs.Moving.{keeping}
use Rattle.pa_core_run.proofs.Cutting.{without_title, uncut_shown}
use Rattle.pa_core_run.proofs.Batching.{kept_with, batch_goes}
use Rattle.pa_core_run.proofs.Taking.{kept_without, batch_comes}
use Rattle.pa_core_run.proofs.Making.{with_titles, renamed, cuts_go}

-- what is reached is shown of other titles, if more are there and fewer asked of actor 0
reached_as : (names next : Titles) (actors bytes : ℕ) (b : Ledger) (s : State) (k : ℕ)
    → ((u : Title) → next.plain u ≡ names.plain u) → ((u : Title) → next.Made u → names.Made u)
    → ((u : Title) → names.There u → next.There u) → ((u : Title) → next.Kept u → names.Kept u) →
    (after : State) × IsReached names actors bytes b s k after → (after : State) × IsReached next actors bytes b s k after
reached_as names next actors bytes b s k plain made there kept (after, r) = (
  after,
  record {
    events = r.events;
    run = r.run;
    beside = r.beside;
    shown = renamed names next actors bytes b after plain made there kept r.shown;
  },
)

cut_listed : TitlesCanBeCut
cut_listed plain ts made there kept actors bytes k b s h some can apart =
    reached_as (with_titles (listed_titles plain made there kept) ts) (listed_titles plain made (there ++ ts) (kept ++ ts)) actors bytes
    b s k (λ u. refl) (λ u m. m)
    (λ u is. elim is [ inl old ↦ Contains-append_left there ts u old | inr new ↦ Contains-append_right there ts u new ])
    (λ u has. Contains-append_cases kept ts u has)
    (cuts_go ts (listed_titles plain made there kept) actors bytes b s k h some can apart)

uncut_listed : TitlesCanBeUncut
uncut_listed plain t made there kept there_then kept_then actors bytes k b s h some holds stays keeps =
    let (after, run, shown) =
    uncut_shown (listed_titles plain made there kept) (λ u. Contains kept_then u) actors bytes b s t h some holds keeps in
    reached_as (without_title (listed_titles plain made there kept) t (λ u. Contains kept_then u))
    (listed_titles plain made there_then kept_then) actors bytes b s k (λ u. refl) (λ u m. m)
    (λ u is. stays u is.0 is.1) (λ u has. has)
    (after, record { events = Uncut 0 t ∷ []; run = run; beside = (inl refl, tt); shown = shown })

back_listed : SlotsCanGoBack
back_listed plain ts made there kept actors bytes k b rest s some below unique h all mine other =
    reached_as (keeping (listed_titles plain made there kept) (kept_with (Contains kept) ts))
    (listed_titles plain made there (kept ++ ts)) actors bytes _ s k (λ u. refl) (λ u m. m) (λ u is. is)
    (λ u has. Contains-append_cases kept ts u has)
    (batch_goes (listed_titles plain made there kept) actors bytes k some below unique ts b rest (Contains kept) s h all mine other)

come_listed : SlotsCanCome
come_listed plain ts made there kept kept_then actors bytes k b later s some below unique h all once_each fewer mine other =
    reached_as (keeping (listed_titles plain made there kept) (kept_without (Contains kept) ts))
    (listed_titles plain made there kept_then) actors bytes _ s k (λ u. refl) (λ u m. m) (λ u is. is)
    (λ u has. fewer u has)
    (batch_comes (listed_titles plain made there kept) actors bytes k some below unique ts b later (Contains kept) s h all once_each mine
    other)

pub titles_go : TitlesComeAndGo
titles_go = record { cut = cut_listed; uncut = uncut_listed; back = back_listed; come = come_listed }
