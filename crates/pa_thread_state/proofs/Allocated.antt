-- A list that was filled, and a direct map that came, by what the calls of a thread state say.
use Rattle.std.proofs.Common.{◌≡◌, ℕ, ◌<◌, List, [], sym, ◌∙◌, ap, subst}
use Rattle.std.specs.Prelude.{slice_index_or}
use Rattle.std.specs.List.{remove}
use Rattle.pa_slot.specs.Holdings.{one}
use Rattle.pa_slot.specs.declared.title.Title.{Title}
use Rattle.pa_buckets.specs.Bands.{fill_of}
use Rattle.pa_region.specs.declared.view.View.{View}
use Rattle.pa_region.specs.Hands.{united}
use Rattle.pa_region.specs.Aware.{IsAware}
use Rattle.pa_root.specs.Handing.{FillGives, MapGives}
use Rattle.pa_op_specs.specs.Stocks.{StockValue, IsStock, titles_in}
use Rattle.pa_thread_state.specs.Allocating.{BecomesList, Receives, CanLoad, FillsList, MapsTitle}
use Rattle.pa_thread_state.proofs.Fetching.{fill_loads}
use Rattle.pa_rules.specs.Sizes.{HasClass}
use Rattle.pa_thread_state.proofs.Receiving.{first_rest}

-- The thread state after a list's fill came, by what its parts say: the root gave titles, and the note was taken in.
pub fill_received : (s a b : StockValue) (n : View) → a ≡ record s { view = a.view } → Receives n a b →
    b ≡ record s { view = united a.view n }
fill_received s a b n asked receives = receives.after_is ∙ ap (λ (z : StockValue). record z { view = united a.view n }) asked

pub fill_can_load : (line p c : ℕ) (s a b : StockValue) (n : View) (ts : List Title) (t : Title) (rest : List Title) →
    a ≡ record s { view = a.view } →
    FillGives s.thread p line c (fill_of c) s.view a.view n ts → t ≡ slice_index_or ts 0 t → rest ≡ remove ts 0 → Receives n a b →
    IsStock s →
    IsAware s.view → IsAware a.view → IsAware b.view → p < 4 → HasClass s.caches.version c → titles_in s.caches p c ≡ [] →
    CanLoad p c rest b
fill_can_load line p c s a b n ts t rest asked gives first others receives is aware one two low small empty =
    let e = fill_received s a b n asked receives in
    let all = first_rest ts t rest gives.some first others in
    subst (λ (z : StockValue). CanLoad p c rest z) (sym e)
    (fill_loads line p c s a.view n t rest (subst (λ xs. FillGives s.thread p line c (fill_of c) s.view a.view n xs) all gives) is
    (aware, one, receives.aware, subst (λ (z : StockValue). IsAware z.view) e two) receives.long low small empty)

pub fills_list : (line p c : ℕ) (s a b d : StockValue) (n : View) (ts : List Title) (t : Title) (rest : List Title) →
    a ≡ record s { view = a.view } →
    FillGives s.thread p line c (fill_of c) s.view a.view n ts → t ≡ slice_index_or ts 0 t → rest ≡ remove ts 0 → Receives n a b →
    IsAware a.view → IsAware b.view → HasClass s.caches.version c →
    titles_in s.caches p c ≡ [] → BecomesList p c rest b d → FillsList line p c t s d
fills_list line p c s a b d n ts t rest asked gives first others receives one two small empty loaded = record {
  asked = a.view;
  note = n;
  rest = rest;
  gives = subst (λ xs. FillGives s.thread p line c (fill_of c) s.view a.view n xs) (first_rest ts t rest gives.some first others) gives;
  awares = (one, receives.aware, subst (λ (z : StockValue). IsAware z.view) receives.after_is two);
  long = receives.long;
  real = small;
  empty = empty;
  loaded = subst (λ (z : StockValue). BecomesList p c rest z d) (fill_received s a b n asked receives) loaded;
}

pub maps_title : (line p len : ℕ) (s a b : StockValue) (n : View) (t : Title) → a ≡ record s { view = a.view } →
    MapGives s.thread p line len s.view a.view n t →
    Receives n a b → IsAware a.view → MapsTitle line p len t s b
maps_title line p len s a b n t asked gives receives one = record {
  asked = a.view;
  note = n;
  gives = gives;
  awares = (one, receives.aware);
  long = receives.long;
  after_is = fill_received s a b n asked receives;
}
