-- Steps on a slot that is in use and doesn't go back: copies, resets, frees and writes.
use Rattle.std.proofs.Common.{◌≡◌, ℕ, ◌+◌, ◌*◌, ◌<◌, ◌≤◌, List, [], ◌∷◌, map, length, set, Option, Some, refl, sym, ap, ◌∙◌, subst, arith, length-set, inl, inr}
use Rattle.std.specs.Prelude.{Contains}
use Rattle.std.proofs.Math.Nat.{mul-le-mul_right}
use Rattle.std.proofs.lemmas.Bool.{cases_lt}
use Rattle.std.proofs.lemmas.List.{get_or-set_other, get_or_past}
use Rattle.pa_slot.specs.declared.word.SlotName.{SlotName}
use Rattle.pa_slot.specs.declared.word.Step.{Step}
use Rattle.pa_slot.specs.Count.{number_of, held_of, refs_of}
use Rattle.pa_slot.specs.Run.{Mark}
use Rattle.pa_trace.specs.declared.script.Op.{Op}
use Rattle.pa_trace.specs.declared.script.Line.{Line}
use Rattle.pa_trace.specs.declared.script.Line.TheVariants.{Do}
use Rattle.pa_record.specs.declared.entry.Answer.{Answer}
use Rattle.pa_record.specs.declared.numbered.Numbered.{Numbered}
use Rattle.pa_record.specs.Spans.{name_of}
use Rattle.pa_lists.proofs.Members.{first_in, later_in}
use Rattle.pa_rules.specs.Played.{mark_at, mark_of}
use Rattle.pa_heap_effects.specs.Ops.{KeepsLists}
use Rattle.pa_heap_effects.proofs.Acting.{nothing_moves}
use Rattle.pa_slot_effects.specs.Shown.{Shown, IsLike, with_reg, with_slot}
use Rattle.pa_slot_effects.specs.Turns.{LeadsTo, played_at}
use Rattle.pa_slot_effects.specs.Laws.{LetsStep}
use Rattle.pa_slot_effects.proofs.Marking.{some_mark}
use Rattle.pa_slot_effects.proofs.Words.{handle_lets}
use Rattle.pa_rules.specs.declared.register.Register.{Register}
use Rattle.pa_player.specs.declared.table.Slot.{Slot}
use Rattle.pa_player.specs.Player.{Player}
use Rattle.pa_player.specs.declared.tallies.Tallies.{Tallies}
use Rattle.pa_player.specs.Tables.{no_slot, slot_at, named_at, IsIn, Points}
use Rattle.pa_player.specs.Playing.{shown, journals, caches, numbered_at, list_at, list_place, root_of, reg_of, register_at, cell_at, IsMappedAs, AreShaped, IsPlaying}
use Rattle.pa_player.specs.Changes.{registered, seen_at}
use Rattle.pa_player.specs.Plays.{CanGoOn}
use Rattle.pa_player.proofs.OneList.{caches_here, caches_none}
use Rattle.pa_player.proofs.Slots.{IsSame, keeps_set, keeps_named}
use Rattle.pa_player.proofs.Showing.{points_in, points_names, at_name, reg_kept, told_kept, regs_registered, with_reg_same, word_set, usable_stays, plain_stays}
use Rattle.pa_player.proofs.Alone.{used_away, used_unlisted}
use Rattle.pa_player.proofs.Known.{mapped_used, all_slots_set}
use Rattle.pa_player.proofs.Shows.{CountsMore}
use Rattle.pa_player.proofs.Quiet.{IsQuiet, can_play, cache_same}
use Rattle.pa_rules.proofs.Versions.{class_cases}
use Rattle.pa_rules.specs.Sizes.{HasClass}
use Rattle.pa_rules.specs.Sizes.{class_total}

-- ---- the lists, if the numbers of their slots stay

pub map_on : {X Y : Type 0} (f g : X → Y) (xs : List X) → ((x : X) → Contains xs x → g x ≡ f x) → map g xs ≡ map f xs
map_on f g [] same = refl
map_on f g (x ∷ xs) same =
    ap (λ y. y ∷ map g xs) (same x (first_in x xs)) ∙ ap (λ ys. f x ∷ ys) (map_on f g xs (λ z among. same z (later_in x z xs among)))

-- past the threads there are no lists
pub no_list : (partitions threads : ℕ) (p : Player) (t q class : ℕ) → AreShaped partitions threads p → threads ≤ t →
    list_at p t q class ≡ []
no_list partitions threads p t q class h past =
    let more : threads * partitions ≤ t * partitions = mul-le-mul_right partitions past in
    let wide : t * p.partitions ≡ t * partitions = ap (λ n. t * n) h.many in
    let rows : threads * partitions ≤ t * p.partitions + q = omega arith in
    let far : threads * partitions * class_total p.version ≤ (t * p.partitions + q) * class_total p.version =
    mul-le-mul_right (class_total p.version) rows in
    get_or_past p.caches (list_place p.version p.partitions t q class) [] (omega (arith, far, h.lists))

pub caches_kept : (partitions threads : ℕ) (p : Player) (after : List Slot) → AreShaped partitions threads p
    → ((t q class i : ℕ) → t < threads → q < partitions → HasClass p.version class → Contains (list_at p t q class) i →
    numbered_at after i ≡ numbered_at p.table i)
    → (t q class : ℕ) → caches (record p { table = after }) t q class ≡ caches p t q class
caches_kept partitions threads p after h same t q class = elim (cases_lt q p.partitions) [
  | inr out ↦ caches_none (record p { table = after }) t q class (λ low real. absurd (omega arith)) ∙
      sym (caches_none p t q class (λ low real. absurd (omega arith)))
  | inl low ↦ elim (class_cases p.version class) [
    | inr out ↦ caches_none (record p { table = after }) t q class (λ inside real. out real) ∙
        sym (caches_none p t q class (λ inside real. out real))
    | inl real ↦
        let each : map (numbered_at after) (list_at p t q class) ≡ map (numbered_at p.table) (list_at p t q class) =
        elim (cases_lt t threads) [
          | inl below ↦ map_on (numbered_at p.table) (numbered_at after) (list_at p t q class)
              (λ i among. same t q class i below (omega (arith, low, h.many)) real among)
          | inr past ↦
              let none = no_list partitions threads p t q class h past in
              ap (map (numbered_at after)) none ∙ ap (map (numbered_at p.table)) (sym none)
        ] in
        caches_here (record p { table = after }) t q class low real ∙ each ∙ sym (caches_here p t q class low real)
  ]
]

-- ---- one slot in use is changed

-- a player whose slot in a place is another, and whose registers and tallies are others
abbrev pub changed_at : Player → ℕ → Slot → List (List (Register ℕ)) → Tallies → Tallies → Player
changed_at p i y registers live quarantined =
    record p { table = set p.table i y; registers = registers; live = live; quarantined = quarantined }

module _ (region partitions threads : ℕ) (ls : List Line) (p : Player) (thread : ℕ) (op : Op)
    (can : CanGoOn region partitions threads ls (Do thread op) p)
    (reg i : ℕ) (small : reg < 64) (points : Points (register_at p thread reg) i) where
  abbrev h : IsPlaying region partitions threads ls p
  h = can.playing

  pub in_table : i < length p.table
  in_table = points_in (length p.table) (register_at p thread reg) i points (h.shaped.held thread reg)

  pub lets : LetsStep (shown p) thread reg
  lets = handle_lets threads ls h.ps (shown p) thread reg (can_play region partitions threads ls thread op p can) small

  pub word_is : (shown p).word (named_at p.table i) ≡ (slot_at p.table i).word.0
  word_is = at_name (λ z. z.word.0) p.table i h.slots.apart in_table

  pub in_use : 0 < held_of (slot_at p.table i).word.0 + refs_of (slot_at p.table i).word.0
  in_use = subst (λ w. 0 < held_of w + refs_of w) word_is
      (lets.in_use (named_at p.table i) (points_names p.table (register_at p thread reg) i points))

  -- a slot of a list has its number still
  unmoved : (y : Slot) (t q class j : ℕ) → t < threads → q < partitions → HasClass p.version class → Contains (list_at p t q class) j →
      numbered_at (set p.table i y) j ≡ numbered_at p.table j
  unmoved y t q class j below low real among =
      let apart : j ≡ i → ⊥ = λ e. used_unlisted region partitions threads ls p h i t q class in_table in_use below low real
      (subst (λ z. Contains (list_at p t q class) z) e among) in
      let f : Slot → Numbered = λ z. record { slot = name_of z.title; number = number_of z.word.0 } in
      ap f (get_or-set_other p.table i j y no_slot apart)

  pub step_quiet : (answer : Answer) (y : Slot) (registers : List (List (Register ℕ))) (live quarantined : Tallies) (after : Shown)
      (o : Option Step)
      → IsSame (slot_at p.table i) y → KeepsLists op answer
      → mark_of (played_at after.rules ls thread op answer) ≡ Some (mark_at (length ls + 2) (seen_at p.table i) o)
      → LeadsTo threads ls h.ps thread op answer after → IsLike after (shown (changed_at p i y registers live quarantined))
      → AreShaped partitions threads (changed_at p i y registers live quarantined)
      → CountsMore partitions threads p (changed_at p i y registers live quarantined) (mark_of (played_at after.rules ls thread op answer))
      → IsQuiet region partitions threads ls p (changed_at p i y registers live quarantined) h thread op answer
  step_quiet answer y registers live quarantined after o same keeps told turn like shaped counts = record {
    next = caches p thread;
    after = after;
    done = nothing_moves region partitions (length ls + 2) h.ps (played_at after.rules ls thread op answer) p.told.pools (journals p)
        (caches p) h.placed refl keeps;
    turn = turn;
    like = like;
    lists = λ t k class. caches_kept partitions threads p (set p.table i y) h.shaped (unmoved y) t k class ∙
        cache_same (caches p) thread t k class;
    still = record {
      entries = refl;
      report = refl;
      line = refl;
      rules = refl;
      phase = refl;
      pools = refl;
      journals = refl;
      roots = λ k. refl;
      pool = refl;
      histories = λ k. inl refl;
    };
    keeps = keeps_set p.table i y in_table same;
    few = omega (arith, length-set p.table i y);
    slots =
        all_slots_set partitions p.table p.told.pools (journals p) (root_of p) i y h.slots in_table same
        (used_away region partitions threads ls p h i in_table in_use).none
        (subst (λ c. IsMappedAs (root_of p (slot_at p.table i).partition) y c) (sym same.class)
        (mapped_used (root_of p (slot_at p.table i).partition) (slot_at p.table i) y (slot_at p.table i).class same in_use
        (h.slots.mapped i in_table)));
    shaped = shaped;
    marked = λ m e.
        let slot : named_at p.table i ≡ m.slot =
        ap (λ (z : Mark). z.slot) (some_mark (mark_at (length ls + 2) (seen_at p.table i) o) m (sym told ∙ e)) in (
          i,
          (
            omega (arith, length-set p.table i y, in_table),
            keeps_named p.table (set p.table i y) i (keeps_set p.table i y in_table same) in_table ∙ slot,
          ),
        );
    counts = counts;
  }

  -- the caches are those of before
  pub lists_kept : (y : Slot) (t k class : ℕ) → caches (record p { table = set p.table i y }) t k class ≡ caches p t k class
  lists_kept y t k class = caches_kept partitions threads p (set p.table i y) h.shaped (unmoved y) t k class

-- what a player shows after a step, if a register was set: its registers, cells, usable numbers and plain slots
pub record ShowsStep (p : Player) (i t r : ℕ) (x : Register ℕ) (y : Slot) (q : Player) : Type 0 where
  pub regs : (u k : ℕ) → (shown q).regs u k ≡ with_reg (shown p).regs t r (reg_of p.table x) u k
  pub held : (k : ℕ) → (shown q).held k ≡ (shown p).held k
  pub word : (s : SlotName) → (shown q).word s ≡ with_slot (shown p).word (named_at p.table i) y.word.0 s
  pub usable : (s : SlotName) → (shown q).usable s ≡ (shown p).usable s
  pub plain : (s : SlotName) → (shown q).plain s ≡ (shown p).plain s

pub shows_step : (region partitions threads : ℕ) (ls : List Line) (p : Player) (i t r : ℕ) (x : Register ℕ) (y : Slot)
    (live quarantined : Tallies) → IsPlaying region partitions threads ls p
    → i < length p.table → t < threads → r < 64 → IsIn (length p.table) x → IsSame (slot_at p.table i) y
    → ShowsStep p i t r x y (changed_at p i y (registered t r x p).registers live quarantined)
shows_step region partitions threads ls p i t r x y live quarantined h low below small among same =
    let slots = set p.table i y in
    let keeps = keeps_set p.table i y low same in
    record {
      regs = λ u k.
          regs_registered p slots t r x u k (omega (arith, below, h.shaped.registers)) (omega (arith, small, h.shaped.sixty_four t below))
          ∙ with_reg_same (shown p).regs (λ v j. reg_of slots (register_at p v j)) t r (reg_of p.table x) (reg_of slots x) u k
          (λ v j. reg_kept p.table slots (register_at p v j) keeps (h.shaped.held v j)) (reg_kept p.table slots x keeps among);
      held = λ k. told_kept p.table slots (cell_at p k) keeps (h.shaped.celled k);
      word = λ s. word_set p.table i y s h.slots.apart low same;
      usable = λ s. usable_stays p.table i y s h.slots.apart low same;
      plain = λ s. plain_stays p.plain_from p.table i y s h.slots.apart low same;
    }
