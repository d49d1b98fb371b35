-- What lists and queues have, added up worker by worker, and the lines of the report that say so.
use Rattle.std.proofs.Common.{◌≡◌, ℕ, zero, suc, ◌+◌, ◌-◌, ◌*◌, ◌^◌, ◌<◌, ◌≤◌, List, [], ◌∷◌, ◌++◌, length, get_or, set, map, take, drop, refl, sym, ◌∙◌, ap, ap₂, subst, arith, inl, inr}
use Rattle.std.specs.Prelude.{All, Contains}
use borrow.Rule.Slice.PartMut.{put_mid}
use Rattle.std.proofs.lemmas.List.{append-nil, drop_all, drop_at, drop-drop, drop-set-lt, get_or_default, get_or-drop, length-append, length-drop, take_all, take_at, take_more, take_more_set}
use Rattle.std.proofs.lemmas.List.Elements.{AllZip-push, Contains-append_left}
use Rattle.pa_lists.proofs.Elements.{all_from_members}
use Rattle.pa_lists.proofs.Joined.{map_in}
use Rattle.pa_lists.proofs.Members.{not_in_none, in_cases, first_in, later_in}
use Rattle.pa_region.specs.declared.view.View.{View}
use Rattle.pa_logs.proofs.Due.{place_is}
use Rattle.pa_runner.specs.Reporting.{IsLineFor, IsReported}
use Rattle.pa_runner.proofs.Summed.{sum_more}
use Rattle.pa_record.specs.declared.report.ReportLine.{ReportLine}
use Rattle.pa_record.specs.declared.report.Tally.{Tally}
use Rattle.pa_cells.specs.declared.handle.Handle.{Handle}
use Rattle.pa_rules.specs.Caches.{listed_slots}
use Rattle.pa_rules.specs.Lists.{no_tally}
use Rattle.pa_rules.specs.Report.{listed_bytes, partitions_of}
use Rattle.pa_delay.specs.Queue.{QueueList, queued_slots, queued_bytes}
use Rattle.pa_delay.proofs.Queueing.{slots_of_all}
use Rattle.pa_op_specs.specs.Stocks.{listed_in}
use Rattle.pa_op_specs.specs.Workers.{WorkerValue}
use Rattle.pa_execution.specs.Lines.{sum_over, IsCachedBy}
use Rattle.pa_delay_runner.specs.Course.{IsCachedWith}
use Rattle.pa_delay_runner.specs.Counted.{IsQueuedBy, IsRecounted, AreRecounted}
use Rattle.pa_delay_runner.specs.Played.{IsDelayedLineFor, IsReportedWith, slots_in}

-- ---- tallies

sum_both : (f g : ℕ → ℕ) (n : ℕ) → sum_over (λ k. f k + g k) n ≡ sum_over f n + sum_over g n
sum_both f g zero = omega arith
sum_both f g (suc n) = let again = sum_both f g n in omega arith

-- lists and queues together
pub cached_with : (p threads : ℕ) (workers : ℕ → WorkerValue) (queues : ℕ → List Handle) (lists waiting : Tally) →
    IsCachedBy p threads workers lists → IsQueuedBy p threads queues waiting →
    IsCachedWith p threads workers queues (record { slots = lists.slots + waiting.slots; bytes = lists.bytes + waiting.bytes })
cached_with p threads workers queues lists waiting by queued = record {
  slots =
      let both = sum_both (λ k. listed_slots (listed_in (workers k).stock p) 0 170) (λ k. queued_slots p (queues k)) threads in
      let a = by.slots in
      let b = queued.slots in
      omega arith;
  bytes =
      let both = sum_both (λ k. listed_bytes (λ class. length (listed_in (workers k).stock p class)) 0 170)
      (λ k. queued_bytes p (queues k)) threads in
      let a = by.bytes in
      let b = queued.bytes in
      omega arith;
}

-- The tally is what the first i queues have. It is small, since no queue is long.
pub record IsQueueing (p i : ℕ) (qs : List QueueList) (t : Tally) : Type 0 where
  pub by : IsQueuedBy p i (slots_in qs) t
  pub few : t.slots ≤ 65536 * i
  pub small : t.bytes ≤ 983040 * t.slots

-- the next queue
module _ (p i : ℕ) (qs : List QueueList) (t more : Tally) (d q : QueueList) (is : q ≡ get_or qs i d) (low : i < length qs)
    (slots : more.slots ≡ queued_slots p q.slots) (bytes : more.bytes ≡ queued_bytes p q.slots) (small : more.bytes ≤ 983040 * more.slots)
    (few : length (slots_in qs i) ≤ 65536) (so : IsQueueing p i qs t) where
  same : q.slots ≡ slots_in qs i
  same = ap (λ (z : QueueList). z.slots) (is ∙ get_or_default qs i d (record { limit = 0; room = 0; slots = [] }) low)

  few_more : more.slots ≤ 65536
  few_more =
      let most = slots_of_all p (slots_in qs i) in
      let e = slots ∙ ap (queued_slots p) same in
      omega arith

  pub queue_fits : length qs ≤ 16 → (t.slots + more.slots < 2 ^ 64) × (t.bytes + more.bytes < 2 ^ 64)
  queue_fits short =
      let a = so.few in
      let b = so.small in
      let c = few_more in
      (omega arith, omega arith)

  pub queue_more : IsQueueing p (i + 1) qs (record { slots = t.slots + more.slots; bytes = t.bytes + more.bytes })
  queue_more =
      let a = sum_more (λ k. queued_slots p (slots_in qs k)) i in
      let b = sum_more (λ k. queued_bytes p (slots_in qs k)) i in
      let c = so.by.slots in
      let d = so.by.bytes in
      let e = so.few in
      let f = so.small in
      let g = few_more in
      let h = slots ∙ ap (queued_slots p) same in
      let k = bytes ∙ ap (queued_bytes p) same in
      record { by = record { slots = omega arith; bytes = omega arith }; few = omega arith; small = omega arith }

-- ---- the lines

abbrev place_of : ReportLine → ℕ × ℕ
place_of l = (l.phase, l.partition)

-- the lines that were appended are those behind the first
pub appended_are : (phase partitions threads : ℕ) (workers : ℕ → WorkerValue) (first seat : View) (before after : List ReportLine)
    (so : IsReported phase partitions threads workers first seat before after) → drop (length before) after ≡ so.lines
appended_are phase partitions threads workers first seat before after so =
    ap (drop (length before)) so.behind ∙ drop_at before so.lines (length before) refl

-- a line to read where there is none
abbrev pub no_line : ReportLine
no_line = record {
  phase = 0;
  partition = 0;
  live = no_tally;
  quarantined = no_tally;
  cached = no_tally;
  root = no_tally;
  committed = 0;
  reserved = 0;
  full = 0;
  active = 0;
  empty = 0;
  decommitted = 0;
}

module _ (threads : ℕ) (workers : ℕ → WorkerValue) (queues : ℕ → List Handle) where
  -- the lines are of the same phases and partitions
  same_places : (xs ys : List ReportLine) → AreRecounted threads workers queues xs ys → map place_of ys ≡ map place_of xs
  same_places [] [] all = refl
  same_places [] (y ∷ ys) none = absurd none
  same_places (x ∷ xs) [] none = absurd none
  same_places (x ∷ xs) (y ∷ ys) (one, rest) =
      ap₂ (λ (a : ℕ × ℕ) (rest : List (ℕ × ℕ)). a ∷ rest) (ap place_of one.rest) (same_places xs ys rest)

  -- each was one of those before
  was_line : (xs ys : List ReportLine) (y : ReportLine) → AreRecounted threads workers queues xs ys → Contains ys y →
      (x : ReportLine) × Contains xs x × IsRecounted threads workers queues x y
  was_line [] [] y all among = absurd (not_in_none y among)
  was_line [] (z ∷ ys) y none among = absurd none
  was_line (x ∷ xs) [] y none among = absurd none
  was_line (x ∷ xs) (z ∷ ys) y (one, rest) among = elim (in_cases z y ys among) [
    | inl e ↦ (x, first_in x xs, subst (IsRecounted threads workers queues x) e one)
    | inr later ↦
        let (w, there, is) = was_line xs ys y rest later in
        (w, later_in x w xs there, is)
  ]

  line_with : (phase : ℕ) (seat : View) (x y : ReportLine) → IsLineFor phase threads workers seat x →
      IsRecounted threads workers queues x y → IsDelayedLineFor phase threads workers queues seat y
  line_with phase seat x y line is = subst (IsDelayedLineFor phase threads workers queues seat) (sym is.rest) (record {
    phase_is = line.phase_is;
    totals = record { live = line.totals.live; quarantined = line.totals.quarantined; root = line.totals.root };
    cached = is.cached;
  })

  -- One more of the lines says what is cached: they had these members at first, and have them from this place on.
  module _ (at : ℕ) (old now : List ReportLine) (d : ReportLine) (cached : Tally) (low : at < length old) (long : length now ≡ length old)
      (done : AreRecounted threads workers queues (take at old) (take at now)) (rest : drop at now ≡ drop at old) where
    pub still_there : get_or now at d ≡ get_or old at d
    still_there =
        let e : at + 0 ≡ at = omega arith in
        sym (get_or-drop at now 0 d ∙ ap (λ k. get_or now k d) e)
        ∙ (ap (λ ls. get_or ls 0 d) rest ∙ (get_or-drop at old 0 d ∙ ap (λ k. get_or old k d) e))

    abbrev pub recounted : ReportLine
    recounted = record (get_or now at d) { cached = cached }

    pub done_more : IsCachedWith (get_or now at d).partition threads workers queues cached →
        AreRecounted threads workers queues (take (at + 1) old) (take (at + 1) (set now at recounted))
    done_more is =
        subst (λ ls. AreRecounted threads workers queues ls (take (at + 1) (set now at recounted))) (sym (take_more old at d low))
        (subst (λ ls. AreRecounted threads workers queues (take at old ++ get_or old at d ∷ []) ls)
        (sym (take_more_set now at recounted (omega arith)))
        (AllZip-push (IsRecounted threads workers queues) (take at old) (take at now) (get_or old at d) recounted done
        (subst (λ (l : ReportLine). IsRecounted threads workers queues l recounted) still_there (record { rest = refl; cached = is }))))

    pub rest_more : drop (at + 1) (set now at recounted) ≡ drop (at + 1) old
    rest_more =
        drop-set-lt (at + 1) now at recounted (omega arith)
        ∙ (sym (drop-drop 1 at now) ∙ (ap (drop 1) rest ∙ drop-drop 1 at old))

  -- the lines of a phase's report, after what waits in queues was added
  pub report_with : (phase partitions : ℕ) (first seat : View) (before lists after lines : List ReportLine) →
      IsReported phase partitions threads workers first seat before lists →
      AreRecounted threads workers queues (drop (length before) lists) lines → after ≡ before ++ lines →
      IsReportedWith phase partitions threads workers queues first seat before after
  report_with phase partitions first seat before lists after lines so are behind =
      let all : AreRecounted threads workers queues so.lines lines =
      subst (λ ls. AreRecounted threads workers queues ls lines)
      (appended_are phase partitions threads workers first seat before lists so) are in
      record {
        asked = so.asked;
        lines = lines;
        behind = behind;
        places = same_places so.lines lines all ∙ so.places;
        right = λ l among.
            let (x, there, is) = was_line so.lines lines l all among in
            line_with phase seat x l (so.right x there) is;
      }

-- the part of a list behind as many members as another one has
pub behind_first : (before xs ys : List ReportLine) (a : ℕ) → a ≡ length before → xs ≡ ys →
    take (length xs - a) (drop a xs) ≡ drop (length before) ys
behind_first before xs ys a at value =
    take_all (length xs - a) (drop a xs) (let e = length-drop a xs in omega arith)
    ∙ (ap (λ k. drop k xs) at ∙ ap (drop (length before)) value)

-- a list of which the part behind the first members was written
pub put_behind : (before more xs ys lines : List ReportLine) (a n : ℕ) → a ≡ length before → xs ≡ before ++ more → ys ≡ xs →
    n ≡ length xs → length lines ≡ length more →
    take n (put_mid a (length xs - a) xs lines ++ drop (length (put_mid a (length xs - a) xs lines)) ys) ≡ before ++ lines
put_behind before more xs ys lines a n at parts value long few =
    ap₂ whole first none
    ∙ (ap (λ ls. take n (before ++ ls ++ drop (length (before ++ ls)) ys)) (append-nil lines)
    ∙ (ap (λ rest. take n (before ++ lines ++ rest)) past
    ∙ (ap (take n) (append-nil (before ++ lines)) ∙ take_all n (before ++ lines) (omega (arith, long, all, both, few)))))
  where
    whole : List ReportLine → List ReportLine → List ReportLine
    whole front back = take n (front ++ (lines ++ back) ++ drop (length (front ++ (lines ++ back))) ys)

    all : length xs ≡ length before + length more
    all = ap length parts ∙ length-append before more

    both : length (before ++ lines) ≡ length before + length lines
    both = length-append before lines

    first : take a xs ≡ before
    first = ap (take a) parts ∙ take_at before more a (sym at)

    none : drop (length xs - a) (drop a xs) ≡ []
    none = drop_all (length xs - a) (drop a xs) (let e = length-drop a xs in omega arith)

    past : drop (length (before ++ lines)) ys ≡ []
    past = drop_all (length (before ++ lines)) ys (let e = ap length value in omega (arith, e, all, both, few))

-- the lines that were appended are of the trace's partitions
pub in_partitions : (phase partitions threads : ℕ) (workers : ℕ → WorkerValue) (first seat : View) (before after : List ReportLine) →
    IsReported phase partitions threads workers first seat before after → partitions ≤ 4 →
    All (λ (l : ReportLine). l.partition < 4) (drop (length before) after)
in_partitions phase partitions threads workers first seat before after so few =
    subst (All (λ (l : ReportLine). l.partition < 4))
    (sym (appended_are phase partitions threads workers first seat before after so))
    (all_from_members (λ (l : ReportLine). l.partition < 4) so.lines
    (λ l among.
    let place = place_is partitions phase 1 (place_of l)
    (Contains-append_left (partitions_of phase 0 partitions) [] (place_of l)
    (subst (λ ns. Contains ns (place_of l)) so.places (map_in place_of so.lines l among))) in
    let low = place.partition in
    omega arith))
