-- The way of an Own: from the register into which its slot was made, from thread to thread, to the register that frees it.
use Rattle.std.proofs.Common.{◌≡◌, ℕ, zero, suc, ◌+◌, ◌<◌, ◌⊎◌, List, Option, Some, refl, sym, ◌∙◌, ap, subst, arith, inl, inr}
use Rattle.std.specs.Prelude.{Contains, option_map}
use Rattle.std.proofs.lemmas.Bool.{cases_lt}
use Rattle.pa_slot.specs.declared.word.SlotName.{SlotName}
use Rattle.pa_lists.proofs.Members.{of_some, not_some}
use Rattle.pa_lists.proofs.Indexed.{one_at, option_cases}
use Rattle.pa_trace.specs.declared.script.Op.{Op}
use Rattle.pa_trace.specs.declared.script.Op.TheVariants as ops
use Rattle.pa_record.specs.declared.entry.Answer.{Answer}
use Rattle.pa_record.specs.declared.entry.Answer.TheVariants.{Made}
use Rattle.pa_record.specs.declared.entry.Seen.{Seen}
use Rattle.pa_record.specs.declared.history.CellEntry.{CellEntry}
use Rattle.pa_rules.specs.declared.register.Register.TheVariants.{Own, Ref, Freed, Cleared}
use Rattle.pa_rules.specs.declared.played.Played.{Played}
use Rattle.pa_rules.specs.Cells.{IsExchange}
use Rattle.pa_rules.specs.Changes.{change_of, done_of}
use Rattle.pa_rules.specs.Registers.{Reg, made_of}
use Rattle.pa_rules.specs.Seen.{HandsTo, IsBefore, Standing, Handing, Between}
use Rattle.pa_rules.proofs.ByLines.{same_record}
use Rattle.pa_rules.proofs.Numbering.{rising_differ}
use Rattle.pa_legal.specs.Owners.{WasPut, HaveHandles}
use Rattle.pa_legal.proofs.owners.Below.{from_below}
use Rattle.pa_legal.proofs.owners.Giving.{gift}
use Rattle.pa_legal.proofs.owners.Putting.{Cells}

-- y put the Own of slot s into a register, from which z gave it to a cell, where w found it
pub record Passes (cells : Cells) (ps : List Played) (s : SlotName) (y w : Played) : Type 0 where
  pub giver : Played
  pub among : Contains ps giver
  pub from : ℕ
  pub held : WasPut cells ps giver from (Own s) y
  pub cell : ℕ
  pub op : giver.op ≡ ops.Swap cell from
  pub other : Reg
  pub changes : change_of cells giver.op giver.answer ≡ Some (from, other)
  pub hands : HandsTo cells giver w
  pub end : Contains ps w

-- the Own that y put somewhere was passed on that often, and then put by w
abbrev pub Way : Cells → List Played → SlotName → ℕ → Played → Played → Type 0
Way cells ps s zero y w = y ≡ w
Way cells ps s (suc n) y w = (x : Played) × Passes cells ps s y x × Way cells ps s n x w

-- the record made the slot
abbrev pub MadeSlot : Played → SlotName → Type 0
MadeSlot i s = (seen : Seen) × (usable : ℕ) × (i.answer ≡ Made seen usable) × (seen.slot ≡ s)

-- where the Own that y put comes from
pub record HasSource (cells : Cells) (ps : List Played) (s : SlotName) (y : Played) : Type 0 where
  pub source : Played
  pub among : Contains ps source
  pub made : MadeSlot source s
  pub turns : ℕ
  pub way : Way cells ps s turns source y

-- f freed the slot by its Own, which g put
pub record Ends (cells : Cells) (ps : List Played) (s : SlotName) (reg : ℕ) (g f : Played) : Type 0 where
  pub among : Contains ps f
  pub held : WasPut cells ps f reg (Own s) g
  pub changes : change_of cells f.op f.answer ≡ Some (reg, Freed)
  pub free : f.op ≡ ops.Free reg

put_reg : (reg k : ℕ) (r q : Reg) → ◌≡◌ {A = Option (ℕ × Reg)} (Some (reg, r)) (Some (k, q)) → reg ≡ k
put_reg reg k r q e = ap (λ (p : ℕ × Reg). p.0) (of_some (reg, r) (k, q) e)

-- an answer that makes a handle has a slot, that of the handle
pub made_from : (a : Answer) (m : SlotName × ℕ) → made_of a ≡ Some m → (seen : Seen) × (usable : ℕ) × (a ≡ Made seen usable) ×
    (seen.slot ≡ m.0)
made_from (Made seen usable) m e = (seen, usable, refl, ap (λ (n : SlotName × ℕ). n.0) (of_some (seen.slot, usable) m e))
made_from a m e = absurd (not_some m e)

slot_of_own : (s t : SlotName) → Own s ≡ Own t → s ≡ t
slot_of_own s t e = cc

-- an allocation that left an Own in its register made the slot
made_slot : (a : Answer) (into reg : ℕ) (s : SlotName)
    → option_map {U = ℕ × Reg} (λ (m : SlotName × ℕ). (into, Own m.0)) (made_of a) ≡ Some (reg, Own s)
    → (seen : Seen) × (usable : ℕ) × (a ≡ Made seen usable) × (seen.slot ≡ s)
made_slot a into reg s e =
    let (m, made, same) = option_cases (λ (m : SlotName × ℕ). (into, Own m.0)) (made_of a) (reg, Own s) e in
    let (seen, usable, is, slot) = made_from a m made in
    (seen, usable, is, slot ∙ slot_of_own m.0 s (ap (λ (p : ℕ × Reg). p.1) same))

module _ (version : ℕ) (cells : Cells) (ps : List Played) (h : HaveHandles version cells ps) (s : SlotName) where
  one_record : (x y : Played) → Contains ps x → Contains ps y → x.line ≡ y.line → x ≡ y
  one_record x y a b line = same_record ps x y (rising_differ ps h.rising) a b line

  -- ---- before and after

  stands : (x y : Played) → x.thread ≡ y.thread → x.line < y.line → IsBefore cells ps x y
  stands x y thread less = Standing (inl (thread, less))

  put_before : (x y : Played) (reg : ℕ) (r : Reg) → WasPut cells ps x reg r y → IsBefore cells ps y x
  put_before x y reg r put = stands y x put.thread put.before

  passed_before : (y w : Played) → Passes cells ps s y w → IsBefore cells ps y w
  passed_before y w p = Between p.giver p.among (put_before p.giver y p.from (Own s) p.held) (Handing p.hands)

  abbrev pub SoonOr : Played → Played → Type 0
  SoonOr x y = (x ≡ y) ⊎ IsBefore cells ps x y

  -- what is before or at y is before what y is before
  then_before : (x y z : Played) → Contains ps y → SoonOr x y → IsBefore cells ps y z → IsBefore cells ps x z
  then_before x y z among (inl e) next = subst (λ p. IsBefore cells ps p z) (sym e) next
  then_before x y z among (inr first) next = Between y among first next

  pub way_before : (n : ℕ) (y w : Played) → Way cells ps s n y w → SoonOr y w
  way_before zero y w e = inl e
  way_before (suc n) y w (x, p, rest) = inr (later (way_before n x w rest))
    where
      later : SoonOr x w → IsBefore cells ps y w
      later (inl e) = subst (λ z. IsBefore cells ps y z) e (passed_before y x p)
      later (inr more) = Between x p.end (passed_before y x p) more

  way_more : (n : ℕ) (y w z : Played) → Way cells ps s n y w → Passes cells ps s w z → Way cells ps s (suc n) y z
  way_more zero y w z e p = (z, subst (λ x. Passes cells ps s x z) (sym e) p, refl)
  way_more (suc n) y w z (x, first, rest) p = (x, first, way_more n x w z rest p)

  -- ---- a way doesn't fork

  -- two records that changed a register which held the same until then are one
  one_change : (x z y : Played) (reg : ℕ) (r q t : Reg) → Contains ps x → Contains ps z → WasPut cells ps x reg r y
      → WasPut cells ps z reg r y
      → change_of cells x.op x.answer ≡ Some (reg, q) → change_of cells z.op z.answer ≡ Some (reg, t) → x ≡ z
  one_change x z y reg r q t a b put put' change change' = elim (cases_lt x.line z.line) [
    | inl less ↦ absurd (put'.last x q a (sym put.thread ∙ put'.thread) put.before less change)
    | inr most ↦ elim (cases_lt z.line x.line) [
      | inl less ↦ absurd (put.last z t b (sym put'.thread ∙ put.thread) put'.before less change')
      | inr least ↦ one_record x z a b (omega (arith, most, least))
    ]
  ]

  one_hand : (x y z : Played) → Contains ps y → Contains ps z → HandsTo cells x y → HandsTo cells x z → y ≡ z
  one_hand x y z a b (k, j, e, f, at, next, line, found, some) (l, i, d, g, at', next', line', found', some') =
      let (cell, place) = h.exchanges.different k l j i e d at at' (line ∙ sym line') in
      let here : IsExchange cells k (j + 1) g = subst (λ c. IsExchange cells c (j + 1) g) (sym cell)
      (subst (λ n. IsExchange cells l (n + 1) g) (sym place) next') in
      let same : f ≡ g = one_at (cells k) (j + 1) f g next here in
      one_record y z a b (sym found ∙ ap (λ (c : CellEntry). c.line) same ∙ found')

  one_pass : (y w z : Played) → Passes cells ps s y w → Passes cells ps s y z → w ≡ z
  one_pass y w z a b =
      let reg : b.from ≡ a.from = put_reg b.from a.from (Own s) (Own s) (sym b.held.puts ∙ a.held.puts) in
      let held : WasPut cells ps b.giver a.from (Own s) y = subst (λ n. WasPut cells ps b.giver n (Own s) y) reg b.held in
      let change : change_of cells b.giver.op b.giver.answer ≡ Some (a.from, b.other) = b.changes ∙ ap (λ n. Some (n, b.other)) reg in
      let giver = one_change a.giver b.giver y a.from (Own s) a.other b.other a.among b.among a.held held a.changes change in
      one_hand b.giver w z a.end b.end (subst (λ p. HandsTo cells p w) giver a.hands) b.hands

  abbrev OnWay : Played → Played → Type 0
  OnWay y w = (d : ℕ) × Way cells ps s d y w

  one_way : (m n : ℕ) (i y w : Played) → Way cells ps s m i y → Way cells ps s n i w → OnWay y w ⊎ OnWay w y
  one_way zero n i y w e way = inl (n, subst (λ x. Way cells ps s n x w) e way)
  one_way (suc m) zero i y w way e = inr (suc m, subst (λ x. Way cells ps s (suc m) x y) e way)
  one_way (suc m) (suc n) i y w (x, p, rest) (z, q, more) =
      one_way m n x y w rest (subst (λ t. Way cells ps s n t w) (sym (one_pass i x z p q)) more)

  -- ---- a free ends it

  -- while x's thread had the Own that y put, x is not after the record that changed the register
  soon : (x z y : Played) (reg : ℕ) (q : Reg) → Contains ps x → Contains ps z → WasPut cells ps x reg (Own s) y
      → WasPut cells ps z reg (Own s) y
      → change_of cells z.op z.answer ≡ Some (reg, q) → SoonOr x z
  soon x z y reg q a b put put' change = elim (cases_lt x.line z.line) [
    | inl less ↦ inr (stands x z (sym put.thread ∙ put'.thread) less)
    | inr most ↦ elim (cases_lt z.line x.line) [
      | inl less ↦ absurd (put.last z q b (sym put'.thread ∙ put.thread) put'.before less change)
      | inr least ↦ inl (one_record x z a b (omega (arith, most, least)))
    ]
  ]

  same_reg : (x z y : Played) (reg k : ℕ) → WasPut cells ps x reg (Own s) y → WasPut cells ps z k (Own s) y → reg ≡ k
  same_reg x z y reg k put put' = put_reg reg k (Own s) (Own s) (sym put.puts ∙ put'.puts)

  -- x had the Own that y put, before it was passed on
  passed_on : (x y w g f : Played) (reg k : ℕ) (d : ℕ) → Contains ps x → WasPut cells ps x reg (Own s) y → Passes cells ps s y w
      → Way cells ps s d w g → Ends cells ps s k g f → IsBefore cells ps x f
  passed_on x y w g f reg k d a put p rest ends =
      let same : p.from ≡ reg = same_reg p.giver x y p.from reg p.held put in
      let at : WasPut cells ps x p.from (Own s) y = subst (λ n. WasPut cells ps x n (Own s) y) (sym same) put in
      let first : SoonOr x p.giver = soon x p.giver y p.from p.other a p.among at p.held p.changes in
      let here : IsBefore cells ps x w = then_before x p.giver w p.among first (Handing p.hands) in
      let last : IsBefore cells ps w f = then_before w g f ends.held.among (way_before d w g rest) (put_before f g k (Own s) ends.held) in
      Between w p.end here last

  -- the free of an Own passes it on to nobody
  ended : (g w f : Played) (k : ℕ) → Ends cells ps s k g f → Passes cells ps s g w → ⊥
  ended g w f k ends p =
      let same : p.from ≡ k = same_reg p.giver f g p.from k p.held ends.held in
      let at : WasPut cells ps f p.from (Own s) g = subst (λ n. WasPut cells ps f n (Own s) g) (sym same) ends.held in
      let change : change_of cells f.op f.answer ≡ Some (p.from, Freed) = ends.changes ∙ ap (λ n. Some (n, Freed)) (sym same) in
      let one : p.giver ≡ f = one_change p.giver f g p.from (Own s) p.other Freed p.among ends.among p.held at p.changes change in
      let op : ops.Swap p.cell p.from ≡ ops.Free k = sym p.op ∙ ap (λ (z : Played). z.op) one ∙ ends.free in
      cc

  -- whoever had the Own was before the record that freed it, or is that record
  pub ends_last : (m n : ℕ) (i x y g f : Played) (reg k : ℕ) → Contains ps x → WasPut cells ps x reg (Own s) y → Way cells ps s m i y
      → Way cells ps s n i g → Ends cells ps s k g f → SoonOr x f
  ends_last m n i x y g f reg k a put way way' ends = elim (one_way m n i y g way way') [
    | inl on ↦ onward on
    | inr back ↦ backward back
  ]
    where
      at_last : y ≡ g → SoonOr x f
      at_last e =
          let here : WasPut cells ps x reg (Own s) g = subst (λ p. WasPut cells ps x reg (Own s) p) e put in
          let same : k ≡ reg = same_reg f x g k reg ends.held here in
          soon x f g k Freed a ends.among (subst (λ n. WasPut cells ps x n (Own s) g) (sym same) here) ends.held ends.changes

      onward : OnWay y g → SoonOr x f
      onward (zero, e) = at_last e
      onward (suc d, (w, p, rest)) = inr (passed_on x y w g f reg k d a put p rest ends)

      backward : OnWay g y → SoonOr x f
      backward (zero, e) = at_last (sym e)
      backward (suc d, (w, p, rest)) = absurd (ended g w f k ends p)

  -- ---- each Own has a source

  source_of : (y : Played) → Contains ps y
      → ((x : Played) → Contains ps x → IsBefore cells ps x y → (reg : ℕ) → change_of cells x.op x.answer ≡ Some
      (reg, Own s) → HasSource cells ps s x)
      → (reg : ℕ) (op : Op) → y.op ≡ op → change_of cells op y.answer ≡ Some (reg, Own s) → HasSource cells ps s y
  source_of y among earlier reg (ops.Alloc into partition size) is puts =
      record { source = y; among = among; made = made_slot y.answer into reg s puts; turns = 0; way = refl }
  source_of y among earlier reg (ops.Copy from to) is puts =
      let (seen, done, e) = option_cases (λ (seen : Seen). (to, Ref seen.slot)) (done_of y.answer) (reg, Own s) puts in
      let r : Ref seen.slot ≡ Own s = ap (λ (p : ℕ × Reg). p.1) e in
      absurd cc
  source_of y among earlier reg (ops.Reset to) is puts =
      let (seen, done, e) = option_cases (λ (seen : Seen). (to, Cleared)) (done_of y.answer) (reg, Own s) puts in
      let r : Cleared ≡ Own s = ap (λ (p : ℕ × Reg). p.1) e in
      absurd cc
  source_of y among earlier reg (ops.Free to) is puts =
      let (seen, done, e) = option_cases (λ (seen : Seen). (to, Freed)) (done_of y.answer) (reg, Own s) puts in
      let r : Freed ≡ Own s = ap (λ (p : ℕ × Reg). p.1) e in
      absurd cc
  source_of y among earlier reg (ops.Write to value) is puts = absurd (not_some (reg, Own s) puts)
  source_of y among earlier reg (ops.Read to place) is puts = absurd (not_some (reg, Own s) puts)
  source_of y among earlier reg ops.Purge is puts = absurd (not_some (reg, Own s) puts)
  source_of y among earlier reg (ops.Swap cell into) is puts =
      let (z, g) = gift version cells ps h y cell into reg (Own s) among is (ap (λ o. change_of cells o y.answer) is ∙ puts) (λ e. cc) in
      let p : Passes cells ps s g.put y = record {
        giver = z;
        among = g.among;
        from = g.from;
        held = g.held;
        cell = g.cell;
        op = g.op;
        other = g.other;
        changes = g.changes;
        hands = g.hands;
        end = among;
      } in
      let before = earlier g.put g.held.among (passed_before g.put y p) g.from g.held.puts in
      record {
        source = before.source;
        among = before.among;
        made = before.made;
        turns = suc before.turns;
        way = way_more before.turns before.source g.put y before.way p;
      }

  pub has_source : (y : Played) (reg : ℕ) → Contains ps y → change_of cells y.op y.answer ≡ Some (reg, Own s) → HasSource cells ps s y
  has_source y reg among puts =
      from_below (IsBefore cells ps) (λ x. (k : ℕ) → change_of cells x.op x.answer ≡ Some (k, Own s) → HasSource cells ps s x) ps
      (λ x z w there first next. Between z there first next) h.seen.ahead
      (λ x there earlier k change. source_of x there earlier k x.op refl change) y among reg puts
