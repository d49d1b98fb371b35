-- A title out of a fill, or a direct map: what was asked for it, and what came.
use Rattle.std.proofs.Common.{◌≡◌, ℕ, suc, ◌<◌, List, [], ◌∷◌, length, Some, None, refl, sym, ap, arith}
use Rattle.std.specs.Prelude.{Contains}
use Rattle.std.proofs.lemmas.List.Elements.{All-contains}
use Rattle.pa_slot.specs.declared.title.Title.{Title}
use Rattle.pa_buckets.specs.Table.{slot_of}
use Rattle.pa_buckets.specs.Bands.{fill_of}
use Rattle.pa_buckets.proofs.Facts.{fill_of-limit, IsRow-of}
use Rattle.pa_layout.specs.Pages.{supers_for}
use Rattle.pa_record.specs.declared.root.RootAct.{RootAct}
use Rattle.pa_record.specs.declared.root.RootAct.TheVariants as act
use Rattle.pa_record.specs.Spans.{name_of}
use Rattle.pa_lists.proofs.Members.{first_in, later_in}
use Rattle.pa_region.specs.declared.view.View.{View}
use Rattle.pa_region.specs.Hands.{united}
use Rattle.pa_region.specs.Aware.{IsAware}
use Rattle.pa_region.proofs.TakeLaws.{left_begins}
use Rattle.pa_pool.specs.Calls.{take_entry}
use Rattle.pa_root.specs.Handing.{FillGives, MapGives, numbered_by, root_entry}
use Rattle.pa_cells.specs.declared.handle.Handle.{Handle}
use Rattle.pa_cells.specs.Handles.{HasSeenMade}
use Rattle.pa_op_specs.specs.Stocks.{StockValue, IsStock, titles_in, listed_slot}
use Rattle.pa_thread_state.specs.Changes.{IsBack}
use Rattle.pa_thread_state.specs.Allocating.{CanLoad}
use Rattle.pa_rules.specs.Sizes.{HasClass}
use Rattle.pa_rules.proofs.Versions.{real_in}
use Rattle.pa_root.proofs.Entered.{for_made}
use Rattle.pa_thread_state.proofs.Taking.{Asking, Took, for_asking, two_asking, still_there, named, took_free, took_new}

-- ---- a fill

module _ (line p c want : ℕ) (s : StockValue) (u n : View) (ts : List Title) (gives : FillGives s.thread p line c want s.view u n ts)
    (is : IsStock s)
    (awares : IsAware s.view × IsAware u × IsAware n × IsAware (united u n)) (long : length u.words ≡ length n.words) (low : p < 4) where
  abbrev pub fill_act : RootAct
  fill_act = act.Fill c gives.asked (numbered_by n ts)

  pub fill_asking : Asking line p (act.Fill c gives.asked (numbered_by n ts) ∷ []) s.thread s.view u (united u n)
  fill_asking =
      for_asking gives.index s.thread p line gives.asked (Some gives.first) (act.Fill c gives.asked (numbered_by n ts)) s.view u
      (united u n) gives.enters low refl
      (left_begins u n 4 awares.3)

  pub fill_took : Took s u n ts
  fill_took = record { keeps = fill_asking.keeps; has = gives.has; awares = awares; long = long }

  pub fill_made : c < 170 → (t : Title) → Contains ts t → HasSeenMade (listed_slot p c t) (united u n)
  fill_made small t among =
      let a : RootAct = act.Fill c gives.asked (numbered_by n ts) in
      let (m, at) = for_made gives.index s.thread p line gives.asked (Some gives.first) a s.view u gives.enters in
      record {
        partition = low;
        entry = (
          m,
          root_entry line a,
          still_there gives.index s.thread p _ s.view u (united u n) m at (left_begins u n p awares.3),
          at.says,
          (
            gives.asked,
            numbered_by n ts,
            refl,
            named n ts t among,
            All-contains (λ (x : Title). x.len ≡ slot_of c) ts t gives.long among,
            small,
          ),
        );
      }

-- all but the first of a fill can be loaded
pub fill_loads : (line p c : ℕ) (s : StockValue) (u n : View) (t : Title) (rest : List Title)
    (gives : FillGives s.thread p line c (fill_of c) s.view u n (t ∷ rest)) → IsStock s →
    (awares : IsAware s.view × IsAware u × IsAware n × IsAware (united u n)) → length u.words ≡ length n.words → p < 4 →
    HasClass s.caches.version c → titles_in s.caches p c ≡ [] →
    CanLoad p c rest (record s { view = united u n })
fill_loads line p c s u n t rest gives is awares long low small empty =
    let took = fill_took line p c (fill_of c) s u n (t ∷ rest) gives is awares long low in
    let real = real_in s.caches.version c small in
    let e = fill_of-limit c real in
    let few = gives.few in
    let eight = (IsRow-of c real).few_fill in
    record {
      partition = low;
      empty = empty;
      sized = λ k d less. gives.long (suc k) d (omega arith);
      differ = λ i j d below less. gives.differ (suc i) (suc j) d (omega arith) (omega arith);
      few = omega arith;
      batch = omega arith;
      free = λ x among. took_free s u n (t ∷ rest) is took x (later_in t x rest among);
      new = λ q d x listed among. took_new s u n (t ∷ rest) is took q d x listed (later_in t x rest among);
      made = λ x among. fill_made line p c (fill_of c) s u n (t ∷ rest) gives is awares long low real x (later_in t x rest among);
    }

-- ---- a direct map

-- the slot of a direct map
abbrev pub mapped_slot : ℕ → Title → Handle
mapped_slot p t = record { title = t; partition = p; class = None }

module _ (line p len : ℕ) (s : StockValue) (u n : View) (t : Title) (gives : MapGives s.thread p line len s.view u n t) (is : IsStock s)
    (awares : IsAware s.view × IsAware u × IsAware n × IsAware (united u n)) (long : length u.words ≡ length n.words) (low : p < 4) where
  pub map_asking : Asking line p (act.Map t.born (name_of t) len ∷ []) s.thread s.view u (united u n)
  map_asking =
      two_asking t.born gives.index s.thread p line (take_entry line p (supers_for len) (Some gives.first))
      (act.Map t.born (name_of t) len) s.view u (united u n) gives.enters low
      refl refl refl (left_begins u n 4 awares.3)

  pub map_took : Took s u n (t ∷ [])
  map_took = record { keeps = map_asking.keeps; has = gives.has; awares = awares; long = long }

  -- it can be issued
  pub map_back : IsBack (mapped_slot p t) (record s { view = united u n })
  map_back = record {
    free = took_free s u n (t ∷ []) is map_took t (first_in t []);
    new = λ q d there. took_new s u n (t ∷ []) is map_took q d t there (first_in t []);
    made = record {
      partition = low;
      entry = (
        gives.enters.made,
        root_entry line (act.Map t.born (name_of t) len),
        still_there gives.index s.thread p _ s.view u (united u n) gives.enters.made gives.enters.is_made (left_begins u n p awares.3),
        gives.enters.is_made.says,
        (t.born, ap (λ k. act.Map t.born (name_of t) k) (sym gives.long)),
      );
    };
  }
