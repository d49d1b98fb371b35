-- The worked run of direct maps meets all that is required of annotated records.
use Rattle.std.proofs.Common.{◌≡◌, ℕ, ◌<◌, Bool, false, ◌⊎◌, List, [], ◌∷◌, map, lit<, lit≤, refl, sym, ◌∙◌, ap, subst, arith, inl, inr}
use Rattle.std.specs.Prelude.{Contains, if◌then◌else◌}
use Rattle.pa_slot.specs.declared.title.Title.{Title}
use Rattle.pa_slot.specs.declared.word.Step.TheVariants.{Issue, Copy, Reset, Free}
use Rattle.pa_slot.specs.Titles.{IsWellFormed, same_title}
use Rattle.pa_slot.proofs.Same.{title_tells, title_is}
use Rattle.pa_trace.specs.Rules.{rules_of}
use Rattle.pa_region.specs.declared.view.View.{View}
use Rattle.pa_region.specs.Views.{names}
use Rattle.pa_region.specs.History.{Done, IsChained}
use Rattle.pa_record.specs.declared.run.Run.{Run}
use Rattle.pa_record.specs.Worked.{direct_map_again_pool, direct_map_again_journal}
use Rattle.pa_rules.specs.declared.played.Played.{Played}
use Rattle.pa_rules.specs.Played.{entry_of, played}
use Rattle.pa_rules.specs.Cells.{history_at}
use Rattle.pa_rules.specs.Seen.{HandsTo}
use Rattle.pa_rules.specs.Told.{told_by, records_of}
use Rattle.pa_rules.proofs.Recorded.{records_are_lines}
use Rattle.pa_legal.specs.Known.{IsKnown}
use Rattle.pa_examples.specs.Worked.{IsRunOf, direct_map_trace, direct_map_records, direct_map_report}
use Rattle.pa_examples.proofs.worked.Lists.{each}
use Rattle.pa_examples.proofs.worked.Knowing.{direct_map_is_known}
use Rattle.pa_examples.proofs.worked.Maps.{lines}
use Rattle.pa_logs.specs.Told.{ToldRecord, told_of, told_until}
use Rattle.pa_logs.specs.Touches.{IsTold, AreTold}
use Rattle.pa_logs.specs.Reads.{KnowsAll, HaveEnds}
use Rattle.pa_logs.specs.Viewed.{AreViewed}
use Rattle.pa_logs.specs.Whole.{IsPlayedOut}
use Rattle.pa_logs.specs.Worked.{view_of}
use Rattle.pa_examples.specs.told.Maps.{map_long, map_title, maps_worked, maps_told, DirectMapIsPlayedOut}
use Rattle.pa_examples.proofs.told.Alone.{NoValue, no_hands, no_reads, no_readers, of_run}
use Rattle.pa_examples.proofs.told.Knowing.{below, chain_there, AreKnown, IsOther, knows, history_known}
use Rattle.pa_examples.proofs.told.Seen.{viewed}

told : AreTold map_long maps_told
told x among = each (IsTold map_long) maps_told (
  (([], tt, refl), refl),
  (
    ([], tt, refl),
    (
      (([], tt, refl), refl),
      (
        ([], tt, refl),
        (
          ([], tt, refl),
          (
            refl,
            (([], tt, refl), ((([], tt, refl), refl), tt)),
          ),
        ),
      ),
    ),
  ),
) x among

-- the histories of the three maps
abbrev pub steps_first : List Done
steps_first = record { step = Free; value = 0 } ∷ record { step = Issue; value = 0 } ∷ []

abbrev steps_second : List Done
steps_second = record { step = Reset; value = 0 } ∷ record { step = Free; value = 0 } ∷ record { step = Copy; value = 0 } ∷ record {
  step =
      Issue;
  value = 0;
} ∷ []

abbrev pub steps_third : List Done
steps_third = record { step = Issue; value = 0 } ∷ []

abbrev pub history : Title → List Done
history t =
    if same_title (map_title 0) t then steps_first else (if same_title
    (map_title 2) t then steps_second else (if same_title (map_title 5) t then steps_third else []))

first_chained : IsChained (told_of maps_told) (map_title 0) steps_first
first_chained = record {
  legal = ((refl, omega arith, tt), (((refl, refl), omega arith, tt), tt));
  steps = (refl, (refl, tt));
  numbers = λ k. let b = below 2 k in omega arith;
  all = refl;
  looks = λ word some_look. absurd (omega arith);
}

second_chained : IsChained (told_of maps_told) (map_title 2) steps_second
second_chained = record {
  legal = (
    (omega arith, omega arith, tt),
    ((refl, omega arith, tt), ((omega arith, omega arith, omega arith), (((refl, refl), omega arith, tt), tt))),
  );
  steps = (refl, (refl, (refl, (refl, tt))));
  numbers = λ k. let b = below 4 k in omega arith;
  all = refl;
  looks = λ word some_look. absurd (omega arith);
}

third_chained : IsChained (told_of maps_told) (map_title 5) steps_third
third_chained = record {
  legal = (((refl, refl), omega arith, tt), tt);
  steps = (refl, tt);
  numbers = λ k. let b = below 1 k in omega arith;
  all = refl;
  looks = λ word some_look. absurd (omega arith);
}

-- a title is one of the three, or no entry names it
abbrev IsNone : Title → Type 0
IsNone t = (history t ≡ []) × IsOther maps_told t

which : (t : Title) → (map_title 0 ≡ t) ⊎ ((map_title 2 ≡ t) ⊎ ((map_title 5 ≡ t) ⊎ IsNone t))
which t = elim (title_tells (map_title 0) t) [
  | inl y ↦ inl y.1
  | inr n ↦ elim (title_tells (map_title 2) t) [
    | inl y ↦ inr (inl y.1)
    | inr m ↦ elim (title_tells (map_title 5) t) [
      | inl y ↦ inr (inr (inl y.1))
      | inr o ↦ inr (inr (inr (
        rw (n.0, m.0, o.0) refl,
        record { at = λ k. rw (n.0, m.0, o.0) refl; on = rw (n.0, m.0, o.0) refl; looked = λ word. refl; named = rw (n.0, m.0, o.0) refl },
      )))
    ]
  ]
]

abbrev ChainedAs : Title → Type 0
ChainedAs t = IsChained (told_of maps_told) t (history t)

chained : (t : Title) → ChainedAs t
chained t = elim (which t) [
  | inl e ↦ subst ChainedAs e first_chained
  | inr rest ↦ elim rest [
    | inl e ↦ subst ChainedAs e second_chained
    | inr last ↦ elim last [
      | inl e ↦ subst ChainedAs e third_chained
      | inr none ↦ subst (λ h. IsChained (told_of maps_told) t h) (sym none.0) (chain_there maps_told t none.1)
    ]
  ]
]

-- what holds of the three holds of each title that an entry names
pub by_name : (P : Title → Type 0) → P (map_title 0) → P (map_title 2) → P (map_title 5) → (t : Title) → 0 < told_of maps_told (names t) →
    P t
by_name P a b c t mine = elim (which t) [
  | inl e ↦ subst P e a
  | inr rest ↦ elim rest [
    | inl e ↦ subst P e b
    | inr last ↦ elim last [
      | inl e ↦ subst P e c
      | inr none ↦ let gone = none.1.named in absurd (omega arith)
    ]
  ]
]

well_formed : (born : ℕ) → IsWellFormed 262144 (map_title born)
well_formed born = record { start_aligned = refl; len_aligned = refl; long = lit≤ tt; inside = lit≤ tt }

long_as : (t : Title) → 0 < told_of maps_told (names t) → t.len ≡ 2002944
long_as t mine = by_name (λ (u : Title). u.len ≡ 2002944) refl refl refl t mine

are_known : AreKnown maps_told history
are_known = record {
  low = λ x among. each (λ (y : ToldRecord). y.played.thread < 16) maps_told
      (lit< tt, (lit< tt, (lit< tt, (lit< tt, (lit< tt, (lit< tt, (lit< tt, (lit< tt, tt)))))))) x among;
  chained = chained;
  well = by_name (λ (u : Title). IsWellFormed 262144 u) (well_formed 0) (well_formed 2) (well_formed 5);
  one_name = λ t u mine other start born. title_is t u start (long_as t mine ∙ sym (long_as u other)) born;
  reads = no_reads maps_told (λ t found value. refl) (λ r e. rw e refl) history refl (λ t found value. refl);
}

pub last : KnowsAll (view_of maps_told) maps_told
last = knows maps_told history are_known

pub last_history : (t : Title) → last.all.history t ≡ history t
unfolding last
last_history t = history_known maps_told history are_known t

abbrev Ended : ℕ → Type 0
Ended n = (v : View) × KnowsAll v (told_until n maps_told)

ends : HaveEnds maps_told
ends x among =
    let here : Ended 1 = (view_of maps_told, last) in
    each (λ (y : ToldRecord). Ended y.played.phase) maps_told (here, (here, (here, (here, (here, (here, (here, (here, tt)))))))) x among

no_value : (x : ToldRecord) → Contains maps_told x → NoValue x
no_value x among = each NoValue maps_told (
  (λ s v e. absurd cc),
  (
    (λ s v e. absurd cc),
    (
      (λ s v e. absurd cc),
      (
        (λ s v e. absurd cc),
        ((λ s v e. absurd cc), ((λ s v e. absurd cc), ((λ s v e. absurd cc), ((λ s v e. absurd cc), tt)))),
      ),
    ),
  ),
) x among

abbrev none : ℕ → ℕ → Bool
none m n = false

pub seen_so : AreViewed (history_at []) maps_told
seen_so = viewed (history_at []) maps_worked none refl (λ x y h. absurd (no_hands x y h))

module _ (r : Run) (is : IsRunOf r (map entry_of direct_map_records) (direct_map_again_journal ∷ []) direct_map_again_pool
    [] direct_map_report) where
  same : direct_map_records ≡ records_of direct_map_trace (told_by r)
  same = sym (ap (played (rules_of direct_map_trace) direct_map_trace.lines) is.entries ∙
      records_are_lines.same (rules_of direct_map_trace) direct_map_trace.lines direct_map_records lines)

  known : IsKnown direct_map_trace (told_by r) direct_map_records
  known = subst (λ ps. IsKnown direct_map_trace (told_by r) ps) (sym same) (direct_map_is_known r is)

  played_out : IsPlayedOut map_long (λ line. line) direct_map_trace (told_by r) (view_of maps_told) maps_told
  played_out = record {
    due = known.lines;
    records = same;
    told = told;
    last = last;
    ends = ends;
    readers = no_readers map_long (told_by r).cells maps_told no_value;
    viewed = of_run r [] is.cells (λ c. AreViewed c maps_told) seen_so;
    handed = of_run r [] is.cells (λ c. (x y : Played) → HandsTo c x y → x.line < y.line) (λ x y h. absurd (no_hands x y h));
    threads = λ x y first second a b thread less. less;
    cells = known.cells;
    registers = known.registers;
    pool = known.pool;
    roots = known.roots;
    flows = known.flows;
    numbers = known.numbers;
    unmaps = known.unmaps;
  }

pub direct_map_is_played_out : DirectMapIsPlayedOut
direct_map_is_played_out r is = played_out r is
