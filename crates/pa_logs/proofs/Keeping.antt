-- A title that exists and that no log names is held: it is with its root, or waits with a thread, as on its lists.
use Rattle.std.proofs.Common.{◌≡◌, ℕ, zero, suc, ◌+◌, ◌<◌, List, [], ◌∷◌, Some, refl, sym, ◌∙◌, ap, subst, arith, inl, inr}
use Rattle.std.specs.Prelude.{Contains}
use Rattle.std.proofs.lemmas.Bool.{cases_lt}
use Rattle.std.proofs.lemmas.List.{append-nil}
use Rattle.std.proofs.lemmas.Option.{slice_get-get_or}
use Rattle.pa_slot.specs.declared.title.Title.{Title}
use Rattle.pa_slot.specs.declared.word.SlotName.{SlotName}
use Rattle.pa_slot.specs.declared.word.Step.{Step}
use Rattle.pa_slot.specs.Run.{Mark, IsRunFrom}
use Rattle.pa_slot.specs.Titles.{same_title}
use Rattle.pa_slot.specs.Holdings.{one}
use Rattle.pa_slot.proofs.Same.{title_self}
use Rattle.pa_record.specs.declared.numbered.Numbered.{Numbered}
use Rattle.pa_record.specs.declared.pool.PoolEntry.{PoolEntry}
use Rattle.pa_record.specs.declared.root.RootEntry.{RootEntry}
use Rattle.pa_record.specs.Spans.{name_of}
use Rattle.pa_record.specs.Root.{new_root, root_replayed, names as slot_names}
use Rattle.pa_record.specs.Laws.{leaves_by, times, times_left, IsNameOut}
use Rattle.pa_lists.proofs.Joined.{map_cases}
use Rattle.pa_record.proofs.Leaving.{out_is_left}
use Rattle.pa_lists.proofs.Members.{not_in_none, first_in, later_in}
use Rattle.pa_region.specs.declared.view.Entry.TheVariants.{Counted}
use Rattle.pa_region.specs.declared.view.View.{View}
use Rattle.pa_region.specs.Views.{HasTitle, free_of, logged_of, names}
use Rattle.pa_rules.specs.declared.played.Played.{Played}
use Rattle.pa_rules.specs.Played.{mark_of, marks_of}
use Rattle.pa_rules.specs.Caches.{Caches}
use Rattle.pa_rules.specs.Flow.{listed_times, cached_times, busy}
use Rattle.pa_rules.specs.Held.{IsStanding}
use Rattle.pa_rules.specs.Report.{HasWord}
use Rattle.pa_rules.specs.Roots.{Journals}
use Rattle.pa_rules.proofs.FourPlaces.{Given, slot_once, times_member}
use Rattle.pa_rules.proofs.Running.{mark_from}
use Rattle.pa_logs.specs.Told.{ToldRecord, played_in, told_of}
use Rattle.pa_logs.specs.Touches.{title_of}
use Rattle.pa_logs.specs.Standing.{StandsHeld, HasListed, ListedWait}
use Rattle.pa_logs.proofs.Logs.{logs_are_told}
use Rattle.pa_logs.proofs.Marks.{tells_its_mark}
use Rattle.pa_logs.proofs.Reporting.{lines_differ}
use Rattle.pa_logs.proofs.Sizing.{stands_made, is_partition}
use Rattle.pa_logs.proofs.StepMarks.{mark_step}
use Rattle.pa_logs.proofs.Sums.{told_in}
use Rattle.pa_lists.proofs.Elements.{all_from_members}

-- a slot that left did so by some entry
left_by_some : (s : SlotName) (es : List RootEntry) → 0 < times_left s es → (e : RootEntry) × Contains es e × Contains (leaves_by e.act) s
left_by_some s [] more = absurd (omega arith)
left_by_some s (e ∷ es) more = elim (cases_lt 0 (times s (leaves_by e.act))) [
  | inl here ↦ (e, first_in e es, times_member s (leaves_by e.act) (omega arith))
  | inr none ↦ let (f, among, leaves) = left_by_some s es (omega arith) in (f, later_in e f es among, leaves)
]

-- a slot that is in the lists of a thread is in one of them
record IsListed (s : SlotName) (lists : ℕ → List Numbered) (class n : ℕ) : Type 0 where
  at : ℕ
  within : at < class + n
  slot : Numbered
  among : Contains (lists at) slot
  same : slot.slot ≡ s

listed_some : (s : SlotName) (lists : ℕ → List Numbered) (class n : ℕ) → 0 < listed_times s lists class n → IsListed s lists class n
unfolding listed_times
listed_some s lists class zero more = absurd (omega arith)
listed_some s lists class (suc n) more = elim (cases_lt 0 (times s (slot_names (lists class)))) [
  | inl here ↦
      let (m, among, same) = map_cases (λ (k : Numbered). k.slot) (lists class) s
      (times_member s (slot_names (lists class)) (omega arith)) in
      record { at = class; within = omega arith; slot = m; among = among; same = same }
  | inr none ↦
      let rest = listed_some s lists (class + 1) n (omega arith) in
      let within = rest.within in
      record { at = rest.at; within = omega arith; slot = rest.slot; among = rest.among; same = rest.same }
]

cached_some : (s : SlotName) (all : Caches) (p n : ℕ) → 0 < cached_times s all p n → (k : ℕ) × (k < n) × IsListed s (all k p) 0 170
cached_some s all p zero more = absurd (omega arith)
cached_some s all p (suc n) more = elim (cases_lt 0 (listed_times s (all n p) 0 170)) [
  | inl here ↦ (n, omega arith, listed_some s (all n p) 0 170 here)
  | inr none ↦ let (k, below, is) = cached_some s all p n (omega arith) in (k, omega arith, is)
]

module _ (supers partitions threads p : ℕ) (sizes : SlotName → ℕ) (pools : List PoolEntry) (roots : Journals) (ts : List ToldRecord)
    (all : Caches) (v : View) (t : Title)
    (h : HasListed supers partitions threads sizes pools roots ts all v) (size : sizes (name_of t) ≡ t.len)
    (unnamed : logged_of v (names t) ≡ 0) where
  title_is : (s : SlotName) → s ≡ name_of t → title_of sizes s ≡ t
  title_is s same = ap (λ z. title_of sizes z) same ∙ with_length (sizes (name_of t)) size
    where
      with_length : (n : ℕ) → n ≡ t.len → record { start = t.start; len = n; born = t.born } ≡ t
      with_length n e = ap (λ (k : ℕ). record { start = t.start; len = k; born = t.born }) e

  -- nobody stepped on it
  no_step : (m : Mark) (step : Step) → Contains (marks_of (played_in ts)) m → m.slot ≡ name_of t → m.step ≡ Some step → ⊥
  no_step m step among slot made =
      let (x, member, is) = mark_from (played_in ts) m among in
      let (y, there, same) = map_cases (λ (z : ToldRecord). z.played) ts x member in
      let mark : mark_of y.played ≡ Some m = ap mark_of same ∙ is in
      let (d, stepped, is_d) = mark_step y.played.line y.played.op y.played.answer m step mark made in
      let entry = (tells_its_mark sizes y (h.told y there)).has_step d stepped in
      let title : title_of sizes d.slot ≡ t = title_is d.slot (sym (ap (λ (z : Mark). z.slot) is_d) ∙ slot) in
      let counts : names t (Counted (title_of sizes d.slot) d.step d.found d.value) ≡ 1 =
      ap (λ u. one (same_title u t)) title ∙ ap one (title_self t) in
      let more = told_in ts y (Counted (title_of sizes d.slot) d.step d.found d.value) (names t) there entry in
      let told : logged_of v (names t) ≡ told_of ts (names t) = logs_are_told v ts (names t) h.logs in
      omega arith

  no_run : (vs : List ℕ) → IsRunFrom (marks_of (played_in ts)) (name_of t) 0 vs → HasWord (played_in ts) (name_of t) 0
  no_run [] run = ([], run, refl)
  no_run (w ∷ vs) (m, step, first, can, next, more) = absurd (no_step m step first.among first.slot first.step)

  given : p < partitions → Given supers partitions threads p (played_in ts) pools roots (played_in ts) (roots p) all
  given below = record {
    are_roots = h.journals;
    are_pool = h.pool;
    lines = lines_differ ts h.rising;
    threads_below = all_from_members (λ (x : Played). x.thread < threads) (played_in ts) (λ x among.
        let (y, member, is) = map_cases (λ (z : ToldRecord). z.played) ts x among in
        subst (λ (z : Played). z.thread < threads) is (h.few y member));
    steps = h.slots;
    below = below;
    parts = record { rest = []; parts = sym (append-nil (roots p)); each = each; none = λ e x member. absurd (not_in_none e member) };
    caches = h.caches;
  }
    where
      each : (e : RootEntry) → Contains (roots p) e → (x : Played) × Contains (played_in ts) x × (e.line ≡ x.line)
      each e (j, low, is) =
          let (x, of, makes) = h.journals.lines p j e (slice_get-get_or (roots p) j e low ∙ ap Some is) in (x, of.0, sym of.1)

  on_list : IsStanding pools (roots p) t → IsNameOut (root_replayed pools (roots p) new_root) (name_of t) → 0 < free_of v t
  on_list stands out =
      let j = h.journals.journals p in
      let below = is_partition supers partitions (played_in ts) pools roots h.journals h.pool p t
      (stands_made pools (roots p) t j stands) in
      elim (out_is_left pools (roots p) (name_of t) j) [
        | inr (inside, same) ↦ absurd (inside out)
        | inl (still, more) ↦
            let (e, among, leaves) = left_by_some (name_of t) (roots p) (omega arith) in
            let (vs, run, found) = h.slots (name_of t) in
            elim (slot_once supers partitions threads p (played_in ts) pools roots (played_in ts) (roots p) all (name_of t) 0 (given below)
            (e, among, leaves) (no_run vs run)) [
              | inr (inside, none) ↦ absurd (inside out)
              | inl (there, once) ↦
                  let (k, few, is) = cached_some (name_of t) all p threads (in_lists (cached_times (name_of t) all p threads) once) in
                  let real = is.within in
                  subst (λ u. 0 < free_of v u) (title_is is.slot.slot is.same) (h.listed k p is.at is.slot few below (omega arith) is.among)
            ]
      ]
    where
      in_lists : (n : ℕ) → n + busy 0 ≡ 1 → 0 < n
      in_lists n e = omega arith

pub listed_wait : ListedWait
listed_wait supers partitions threads sizes pools roots ts all v h p t stands out size unnamed =
    on_list supers partitions threads p sizes pools roots ts all v t h size unnamed stands out

pub stands_held : StandsHeld
stands_held p sizes pools roots v t h stands size unnamed = elim (out_is_left pools (roots p) (name_of t) (h.journals p)) [
  | inl (out, more) ↦ let some = h.waits p t stands out size unnamed in omega arith
  | inr (inside, same) ↦ with_root stands inside
]
  where
    with_root : IsStanding pools (roots p) t → (IsNameOut (root_replayed pools (roots p) new_root) (name_of t) → ⊥) → HasTitle v t
    with_root (inl made) inside = let some = h.rooted p t made inside in omega arith
    with_root (inr mapped) inside = absurd (inside (t, inr mapped, refl))
