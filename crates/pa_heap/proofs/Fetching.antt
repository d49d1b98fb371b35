-- A title out of a fill, or a direct map: that it can be issued, and what was said before that.
use Rattle.std.proofs.Common.{◌≡◌, ℕ, ◌+◌, ◌-◌, ◌<◌, List, [], ◌∷◌, length, max, refl, sym, ◌∙◌, ap, subst, arith, inl, inr}
use Rattle.std.specs.Prelude.{Contains}
use Rattle.pa_slot.specs.declared.title.Title.{Title}
use Rattle.pa_slot.specs.Titles.{IsWellFormed}
use Rattle.pa_buckets.specs.Classes.{IsClassIn}
use Rattle.pa_buckets.specs.Table.{slot_of}
use Rattle.pa_buckets.specs.Bands.{fill_of}
use Rattle.pa_direct.specs.Shapes.{shape_of}
use Rattle.pa_rules.specs.Sizes.{HasClass, IsMapSize}
use Rattle.pa_rules.proofs.Versions.{real_in}
use Rattle.pa_heap.proofs.Ruling.{class_as, map_as}
use Rattle.pa_record.specs.declared.root.RootAct.TheVariants as act
use Rattle.pa_record.specs.Spans.{name_of}
use Rattle.pa_lists.proofs.Members.{in_cases, not_in_none, first_in, later_in}
use Rattle.pa_region.specs.declared.view.View.{View}
use Rattle.pa_region.specs.Hands.{united}
use Rattle.pa_region.specs.Aware.{IsAware}
use Rattle.pa_rules.specs.Caches.{FilledFirst, OnlyActs}
use Rattle.pa_rules.specs.Roots.{MakesEntry}
use Rattle.pa_rules.proofs.Sizes.{sizes_fit}
use Rattle.pa_root.specs.Handing.{FillGives, MapGives, numbered_by}
use Rattle.pa_op_specs.specs.Stocks.{StockValue, IsStock, titles_in, listed_slot}
use Rattle.pa_thread_state.specs.Changes.{IsBack}
use Rattle.pa_thread_state.specs.Allocating.{with_listed}
use Rattle.pa_op_specs.proofs.Quiet.{same_titles}
use Rattle.pa_thread_state.proofs.Relisting.{listed_cases, listed_from, relisted}
use Rattle.pa_op_specs.specs.Outcomes.{FillsFrom}
use Rattle.pa_heap.proofs.Apart.{set_off}
use Rattle.pa_heap.proofs.Issuing.{Bringing}
use Rattle.pa_heap.proofs.Taking.{first_alone, front_is}
use Rattle.pa_thread_state.proofs.Taking.{took_free, took_other, took_still, took_kept, took_new, took_same, took_number, took_enters}
use Rattle.pa_thread_state.proofs.Fetching.{fill_act, fill_asking, fill_made, fill_took, map_asking, map_took, mapped_slot}
use Rattle.pa_root.proofs.CallGives.{same_numbers}

-- the first can be issued
pub fill_back : (line p c : ℕ) (s : StockValue) (u n : View) (t : Title) (rest : List Title)
    (gives : FillGives s.thread p line c (fill_of c) s.view u n (t ∷ rest)) → IsStock s →
    (awares : IsAware s.view × IsAware u × IsAware n × IsAware (united u n)) → length u.words ≡ length n.words →
    p < 4 → HasClass s.caches.version c →
    IsBack (listed_slot p c t) (record s { view = united u n; caches = with_listed p c rest s.caches })
fill_back line p c s u n t rest gives is awares long low small =
    let took = fill_took line p c (fill_of c) s u n (t ∷ rest) gives is awares long low in
    record {
      free = took_free s u n (t ∷ rest) is took t (first_in t rest);
      new = λ q d there. elim (listed_from s.caches p c rest t q d low small is.lists.count there) [
        | inl here ↦ first_alone t rest gives.differ here.2
        | inr listed ↦ took_new s u n (t ∷ rest) is took q d t listed (first_in t rest)
      ];
      made = fill_made line p c (fill_of c) s u n (t ∷ rest) gives is awares long low (real_in s.caches.version c small) t
          (first_in t rest);
    }

pub fill_brings : (line size p c : ℕ) (s : StockValue) (u n : View) (t : Title) (rest : List Title)
    (gives : FillGives s.thread p line c (fill_of c) s.view u n (t ∷ rest)) → (is : IsStock s) →
    (awares : IsAware s.view × IsAware u × IsAware n × IsAware (united u n)) → (long : length u.words ≡ length n.words) → (low : p < 4) →
    HasClass s.caches.version c → titles_in s.caches p c ≡ [] →
    IsClassIn s.caches.version (max size 1 + 8) c → IsStock (record s { view = united u n; caches = with_listed p c rest s.caches }) →
    (words : ℕ) → IsWellFormed words t →
    Bringing line size (listed_slot p c t) (fill_act line p c (fill_of c) s u n (t ∷ rest) gives is awares long low ∷ [])
    (fill_asking line p c (fill_of c) s u n (t ∷ rest) gives is awares long low).es s (united u n) (with_listed p c rest s.caches)
fill_brings line size p c s u n t rest gives is awares long low small empty class after words well =
    let took = fill_took line p c (fill_of c) s u n (t ∷ rest) gives is awares long low in
    let asking = fill_asking line p c (fill_of c) s u n (t ∷ rest) gives is awares long low in
    let w = united u n in
    let sized : t.len ≡ slot_of c = gives.long 0 t (omega arith) in
    record {
      entering = took_enters s u n (t ∷ rest) is took line asking.es asking.entering;
      version = refl;
      quiet = asking.quiet;
      uncut = asking.uncut;
      asks = asking.asks;
      makes = λ pools a x r is_op first among. elim (in_cases (act.Fill c gives.asked (numbered_by n (t ∷ rest))) a [] among) [
        | inl same ↦ subst (λ b. MakesEntry pools p b x) same
            (r, size, is_op, class_as x.rules.version s.caches.version (max size 1 + 8) c first class)
        | inr none ↦ absurd (not_in_none a none)
      ];
      fills = λ a among. elim (in_cases (act.Fill c gives.asked (numbered_by n (t ∷ rest))) a [] among) [
        | inl same ↦ subst (FillsFrom s.caches.version) same small
        | inr none ↦ absurd (not_in_none a none)
      ];
      usable = ap (λ k. k - 8) (sized ∙ sym (sizes_fit.class s.caches.version size c class));
      apart = λ x alone. (
        record {
          free = took_still s u n (t ∷ rest) is took x alone.free;
          off = set_off s.caches p c rest x low small is.lists.count
              (λ among. took_other s u n (t ∷ rest) is took x alone.free (later_in t x rest among)) alone.off;
          well = alone.well;
        },
        took_kept s u n (t ∷ rest) is took alone.well.0 x alone.well.1 alone.free,
      );
      lacks = λ alone. took_other s u n (t ∷ rest) is took t alone.free (first_in t rest);
      rows = λ roots x r seen later is_op first only slot number same. inl (
        p,
        c,
        numbered_by n (t ∷ rest),
        numbered_by n rest,
        (r, size, is_op, class_as x.rules.version s.caches.version (max size 1 + 8) c first class),
        subst (λ xs. FilledFirst roots x.line p c (numbered_by s.view xs) (numbered_by n (t ∷ rest))) (sym empty) (gives.asked, only),
        front_is n t seen (numbered_by n rest) slot (number ∙ took_number s u n (t ∷ rest) is took words t well (first_in t rest)),
        λ q d. same q d ∙ relisted s w p c rest (numbered_by n rest) is low small
            (same_numbers w n rest (λ x among. let fine = well_of x among in
            took_number s u n (t ∷ rest) is took fine.0 x fine.1 (later_in t x rest among)))
            (took_same s u n (t ∷ rest) is took) q d,
      );
    }
  where
    well_of : (x : Title) → Contains rest x → (k : ℕ) × IsWellFormed k x
    well_of x among = elim (listed_cases s.caches p c rest p c low small is.lists.count) [
      | inl h ↦ after.lists.well p c x (subst (λ xs. Contains xs x) (sym h.2) among)
      | inr h ↦ absurd (h.0 (refl, refl))
    ]

pub map_brings : (line size p len : ℕ) (s : StockValue) (u n : View) (t : Title) (gives : MapGives s.thread p line len s.view u n t) →
    (is : IsStock s) →
    (awares : IsAware s.view × IsAware u × IsAware n × IsAware (united u n)) → (long : length u.words ≡ length n.words) → (low : p < 4) →
    IsMapSize s.caches.version size →
    len ≡ (shape_of size).slot →
    Bringing line size (mapped_slot p t) (act.Map t.born (name_of t) len ∷ []) (map_asking line p len s u n t gives is awares long low).es s
    (united u n) s.caches
map_brings line size p len s u n t gives is awares long low direct shape =
    let took = map_took line p len s u n t gives is awares long low in
    let asking = map_asking line p len s u n t gives is awares long low in
    record {
      entering = took_enters s u n (t ∷ []) is took line asking.es asking.entering;
      version = refl;
      quiet = asking.quiet;
      uncut = asking.uncut;
      asks = asking.asks;
      makes = λ pools a x r is_op first among. elim (in_cases (act.Map t.born (name_of t) len) a [] among) [
        | inl same ↦
            subst (λ b. MakesEntry pools p b x) same (size, (r, is_op, map_as x.rules.version s.caches.version size first direct), shape)
        | inr none ↦ absurd (not_in_none a none)
      ];
      fills = λ a among. elim (in_cases (act.Map t.born (name_of t) len) a [] among) [
        | inl same ↦ subst (FillsFrom s.caches.version) same tt
        | inr none ↦ absurd (not_in_none a none)
      ];
      usable = ap (λ k. k - 8) (gives.long ∙ (shape ∙ sym (sizes_fit.direct s.caches.version size direct)));
      apart = λ x alone. (
        record { free = took_still s u n (t ∷ []) is took x alone.free; off = alone.off; well = alone.well },
        took_kept s u n (t ∷ []) is took alone.well.0 x alone.well.1 alone.free,
      );
      lacks = λ alone. took_other s u n (t ∷ []) is took t alone.free (first_in t []);
      rows = λ roots x r seen later is_op first only slot number same. inr (
        p,
        size,
        t.born,
        len,
        (r, is_op, map_as x.rules.version s.caches.version size first direct),
        subst (λ k. OnlyActs roots x.line p (act.Map t.born k len ∷ [])) (sym slot) only,
        λ q d. same q d ∙ same_titles s.view (united u n) (titles_in s.caches q d) (took_same s u n (t ∷ []) is took q d),
      );
    }
