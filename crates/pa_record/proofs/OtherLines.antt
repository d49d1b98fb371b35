-- The lines of journals, of the pool, of cells and of the report determine what they are printed of, and what follows.
use Rattle.std.proofs.Common.{◌≡◌, ℕ, List, [], ◌∷◌, ◌++◌, codes, Option, refl, sym, ap, ◌∙◌, arith}
use Rattle.std.specs.Fmt.{decimal}
use Rattle.std.proofs.lemmas.List.{append_cancel_left, append_assoc}
use Rattle.pa_text.specs.Hex.{slot_text}
use Rattle.pa_record.specs.declared.numbered.Numbered.{Numbered}
use Rattle.pa_record.specs.declared.root.RootEntry.{RootEntry}
use Rattle.pa_record.specs.declared.root.RootAct.{RootAct}
use Rattle.pa_record.specs.declared.root.RootAct.TheVariants as acts
use Rattle.pa_record.specs.declared.pool.PoolEntry.{PoolEntry}
use Rattle.pa_record.specs.declared.pool.PoolAct.{PoolAct}
use Rattle.pa_record.specs.declared.pool.PoolAct.TheVariants as turns
use Rattle.pa_record.specs.declared.history.CellEntry.{CellEntry}
use Rattle.pa_record.specs.declared.report.Tally.{Tally}
use Rattle.pa_record.specs.declared.report.ReportLine.{ReportLine}
use Rattle.pa_record.specs.Bits.{Is64, RootActInBits, RootInBits, PoolActInBits, PoolInBits, CellInBits, TallyInBits, ReportInBits}
use Rattle.pa_record.specs.Text.{number_or, numbered_text, slots_text, root_act_text, root_text, pool_act_text, pool_text, held_text, cell_text, field_text, tally_text, places_text, bytes_text, spans_text, report_text}
use Rattle.pa_record.proofs.Same.{same_root, same_pool, same_cell, same_tally, same_line}
use Rattle.pa_record.proofs.Fields.{letters, cut3, cut4, cut5, cut6, cut8, wide, wide_if, class_wide, class_wide_if, same_rest, spaced_number, last_number, marked_slot, split_number_or, split_numbered, split_slots, slots_stop, split_held}

-- ---- what a root did

split_fill : (c d : ℕ) (p q : Option ℕ) (s t : List Numbered) (x y : List ℕ) → RootActInBits (acts.Fill c p s) →
    RootActInBits (acts.Fill d q t)
    → root_act_text (acts.Fill c p s) ++ 10 ∷ x ≡ root_act_text (acts.Fill d q t) ++ 10 ∷ y → (acts.Fill c p s ≡ acts.Fill d q t) × (x ≡ y)
split_fill c d p q s t x y ha hb e =
    let cut = sym (cut5 (codes "fill ") (decimal c) (codes " ") (number_or (codes "-") p) (slots_text s) (10 ∷ x)) ∙ e
    ∙ cut5 (codes "fill ") (decimal d) (codes " ") (number_or (codes "-") q) (slots_text t) (10 ∷ y) in
    let class = spaced_number c d _ _ (class_wide c ha.0) (class_wide d hb.0) (append_cancel_left (codes "fill ") _ _ cut) in
    let pool = split_number_or 45 [] p q (slots_text s ++ 10 ∷ x) (slots_text t ++ 10 ∷ y) (λ h. absurd (omega arith)) (wide_if p ha.1)
    (wide_if q hb.1) (slots_stop s x) (slots_stop t y) class.1 in
    let slots = split_slots s t x y ha.3 hb.3 pool.1 in
    let one = class.0 in
    let two = pool.0 in
    let three = slots.0 in
    (cc, slots.1)

split_full : (c d : Option ℕ) (p q : ℕ) (x y : List ℕ) → RootActInBits (acts.Full c p) → RootActInBits (acts.Full d q)
    → root_act_text (acts.Full c p) ++ 10 ∷ x ≡ root_act_text (acts.Full d q) ++ 10 ∷ y → (acts.Full c p ≡ acts.Full d q) × (x ≡ y)
split_full c d p q x y ha hb e =
    let cut = sym (cut4 (codes "full ") (number_or (codes "direct") c) (codes " ") (decimal p) (10 ∷ x)) ∙ e
    ∙ cut4 (codes "full ") (number_or (codes "direct") d) (codes " ") (decimal q) (10 ∷ y) in
    let class = split_number_or 100 (codes "irect") c d _ _ (λ h. absurd (omega arith)) (class_wide_if c ha.0)
    (class_wide_if d hb.0) refl refl (append_cancel_left (codes "full ") _ _ cut) in
    let pool = last_number p q x y (wide p ha.1) (wide q hb.1) (same_rest 32 _ _ class.1) in
    let one = class.0 in
    let two = pool.0 in
    (cc, pool.1)

split_root_act : (a b : RootAct) (x y : List ℕ) → RootActInBits a → RootActInBits b → root_act_text a ++ 10 ∷ x ≡ root_act_text b ++
    10 ∷ y → (a ≡ b) × (x ≡ y)
split_root_act (acts.Fill c p s) (acts.Fill d q t) x y ha hb e = split_fill c d p q s t x y ha hb e
split_root_act (acts.Map p s l) (acts.Map q t m) x y ha hb e =
    let cut = sym (cut6 (codes "map ") (decimal p) (codes " ") (slot_text s) (codes "@0 ") (decimal l) (10 ∷ x)) ∙ e
    ∙ cut6 (codes "map ") (decimal q) (codes " ") (slot_text t) (codes "@0 ") (decimal m) (10 ∷ y) in
    let pool = spaced_number p q _ _ (wide p ha.0) (wide q hb.0) (append_cancel_left (codes "map ") _ _ cut) in
    let slot = marked_slot s t _ _ ha.1 hb.1 pool.1 in
    let len = last_number l m x y (wide l ha.2) (wide m hb.2) (append_cancel_left (codes "0 ") _ _ slot.1) in
    let one = pool.0 in
    let two = slot.0 in
    let three = len.0 in
    (cc, len.1)
split_root_act (acts.Full c p) (acts.Full d q) x y ha hb e = split_full c d p q x y ha hb e
split_root_act (acts.Give s) (acts.Give t) x y ha hb e =
    let slots = split_slots s t x y ha.1 hb.1 (append_cancel_left (codes "give") _ _ e) in
    (ap (λ (v : List Numbered). acts.Give v) slots.0, slots.1)
split_root_act (acts.Unmap p m) (acts.Unmap q n) x y ha hb e =
    let cut = sym (cut4 (codes "unmap ") (decimal p) (codes " ") (numbered_text m) (10 ∷ x)) ∙ e ∙
    cut4 (codes "unmap ") (decimal q) (codes " ") (numbered_text n) (10 ∷ y) in
    let pool = spaced_number p q _ _ (wide p ha.0) (wide q hb.0) (append_cancel_left (codes "unmap ") _ _ cut) in
    let slot = split_numbered m n (10 ∷ x) (10 ∷ y) ha.1 hb.1 refl refl pool.1 in
    let one = pool.0 in
    let two = slot.0 in
    (cc, same_rest 10 x y slot.1)
split_root_act acts.Purge acts.Purge x y ha hb e = (refl, append_cancel_left (codes "purge\n") _ _ e)
split_root_act a b x y ha hb e =
    let l = letters (root_act_text a ++ 10 ∷ x) (root_act_text b ++ 10 ∷ y) e in
    absurd (omega (arith, l.first, l.second))

pub root_cut : (p j : ℕ) (a : RootEntry) (x : List ℕ) → root_text p j a ++ x
    ≡ codes "r " ++ (decimal p ++
    (codes " " ++ (decimal j ++ (codes " " ++ (decimal a.line ++ (codes " " ++ (root_act_text a.act ++ 10 ∷ x)))))))
root_cut p j a x = cut6 (field_text (codes "r ") p) (field_text (codes " ") j) (field_text (codes " ") a.line) (codes " ")
    (root_act_text a.act) (10 ∷ []) x

-- two texts that start with the root line of one place have the same entry there and the same rest
pub split_root : (p j : ℕ) (a b : RootEntry) (x y : List ℕ) → RootInBits a → RootInBits b → root_text p j a ++ x ≡ root_text p j b ++ y →
    (a ≡ b) × (x ≡ y)
split_root p j a b x y ha hb e =
    let cut = append_cancel_left (codes "r ") _ _ (sym (root_cut p j a x) ∙ e ∙ root_cut p j b y) in
    let behind = append_cancel_left (decimal j) _ _ (same_rest 32 _ _ (append_cancel_left (decimal p) _ _ cut)) in
    let line = spaced_number a.line b.line _ _ (wide a.line ha.0) (wide b.line hb.0) (same_rest 32 _ _ behind) in
    let act = split_root_act a.act b.act x y ha.1 hb.1 line.1 in
    (same_root a b line.0 act.0, act.1)

-- the partition on both sides
pub root_place : (p q j i : ℕ) (a b : RootEntry) (x y : List ℕ) → Is64 p → Is64 q → root_text p j a ++ x ≡ root_text q i b ++ y → p ≡ q
root_place p q j i a b x y hp hq e =
    (spaced_number p q _ _ hp hq (append_cancel_left (codes "r ") _ _ (sym (root_cut p j a x) ∙ e ∙ root_cut q i b y))).0

-- ---- the pool

split_pool_act : (a b : PoolAct) (x y : List ℕ) → PoolActInBits a → PoolActInBits b → pool_act_text a ++ 10 ∷ x ≡ pool_act_text b ++
    10 ∷ y → (a ≡ b) × (x ≡ y)
split_pool_act (turns.Take m p) (turns.Take n q) x y ha hb e =
    let cut = sym (cut4 (codes "take ") (decimal m) (codes " ") (number_or (codes "none") p) (10 ∷ x)) ∙ e ∙
    cut4 (codes "take ") (decimal n) (codes " ") (number_or (codes "none") q) (10 ∷ y) in
    let count = spaced_number m n _ _ (wide m ha.0) (wide n hb.0) (append_cancel_left (codes "take ") _ _ cut) in
    let first = split_number_or 110 (codes "one") p q (10 ∷ x) (10 ∷ y) (λ h. absurd (omega arith)) (wide_if p ha.1)
    (wide_if q hb.1) refl refl count.1 in
    let one = count.0 in
    let two = first.0 in
    (cc, same_rest 10 x y first.1)
split_pool_act (turns.Give m f) (turns.Give n g) x y ha hb e =
    let cut = sym (cut4 (codes "give ") (decimal m) (codes " ") (decimal f) (10 ∷ x)) ∙ e ∙
    cut4 (codes "give ") (decimal n) (codes " ") (decimal g) (10 ∷ y) in
    let count = spaced_number m n _ _ (wide m ha.0) (wide n hb.0) (append_cancel_left (codes "give ") _ _ cut) in
    let first = last_number f g x y (wide f ha.1) (wide g hb.1) count.1 in
    let one = count.0 in
    let two = first.0 in
    (cc, first.1)
split_pool_act a b x y ha hb e =
    let l = letters (pool_act_text a ++ 10 ∷ x) (pool_act_text b ++ 10 ∷ y) e in
    absurd (omega (arith, l.first))

pub pool_cut : (j : ℕ) (a : PoolEntry) (x : List ℕ) → pool_text j a ++ x
    ≡ codes "p " ++ (decimal j ++
    (codes " " ++ (decimal a.line ++ (codes " " ++ (decimal a.partition ++ (codes " " ++ (pool_act_text a.act ++ 10 ∷ x)))))))
pool_cut j a x = cut6 (field_text (codes "p ") j) (field_text (codes " ") a.line) (field_text (codes " ") a.partition) (codes " ")
    (pool_act_text a.act) (10 ∷ []) x

pub split_pool : (j : ℕ) (a b : PoolEntry) (x y : List ℕ) → PoolInBits a → PoolInBits b → pool_text j a ++ x ≡ pool_text j b ++ y →
    (a ≡ b) × (x ≡ y)
split_pool j a b x y ha hb e =
    let cut = append_cancel_left (codes "p ") _ _ (sym (pool_cut j a x) ∙ e ∙ pool_cut j b y) in
    let line = spaced_number a.line b.line _ _ (wide a.line ha.0) (wide b.line hb.0)
    (same_rest 32 _ _ (append_cancel_left (decimal j) _ _ cut)) in
    let partition = spaced_number a.partition b.partition _ _ (wide a.partition ha.1) (wide b.partition hb.1) line.1 in
    let act = split_pool_act a.act b.act x y ha.2 hb.2 partition.1 in
    (same_pool a b line.0 partition.0 act.0, act.1)

-- ---- cells

pub cell_cut : (k j : ℕ) (a : CellEntry) (x : List ℕ) → cell_text k j a ++ x
    ≡ codes "c " ++ (decimal k ++
    (codes " " ++ (decimal j ++
    (codes " " ++ (decimal a.line ++ (codes " " ++ (held_text a.gave ++ (codes " " ++ (held_text a.found ++ 10 ∷ x)))))))))
cell_cut k j a x = cut8 (field_text (codes "c ") k) (field_text (codes " ") j) (field_text (codes " ") a.line) (codes " ")
    (held_text a.gave) (codes " ") (held_text a.found) (10 ∷ []) x

-- two texts that start with the line of one exchange have the same entry there and the same rest
pub split_cell : (k j : ℕ) (a b : CellEntry) (x y : List ℕ) → CellInBits a → CellInBits b → cell_text k j a ++ x ≡ cell_text k j b ++ y →
    (a ≡ b) × (x ≡ y)
split_cell k j a b x y ha hb e =
    let cut = append_cancel_left (codes "c ") _ _ (sym (cell_cut k j a x) ∙ e ∙ cell_cut k j b y) in
    let behind = append_cancel_left (decimal j) _ _ (same_rest 32 _ _ (append_cancel_left (decimal k) _ _ cut)) in
    let line = spaced_number a.line b.line _ _ (wide a.line ha.0) (wide b.line hb.0) (same_rest 32 _ _ behind) in
    let gave = split_held a.gave b.gave 32 _ _ refl refl ha.1 hb.1 line.1 in
    let found = split_held a.found b.found 10 x y refl refl ha.2 hb.2 gave.1 in
    (same_cell a b line.0 gave.0 found.0, found.1)

-- the cell on both sides
pub cell_place : (k l j i : ℕ) (a b : CellEntry) (x y : List ℕ) → Is64 k → Is64 l → cell_text k j a ++ x ≡ cell_text l i b ++ y → k ≡ l
cell_place k l j i a b x y hk hl e =
    (spaced_number k l _ _ hk hl (append_cancel_left (codes "c ") _ _ (sym (cell_cut k j a x) ∙ e ∙ cell_cut l i b y))).0

-- ---- the report

-- a word and a tally, and the space after it
split_tally : (w : List ℕ) (s t : Tally) (x y : List ℕ) → TallyInBits s → TallyInBits t → tally_text w s ++ 32 ∷ x ≡ tally_text w t ++
    32 ∷ y → (s ≡ t) × (x ≡ y)
split_tally w s t x y hs ht e =
    let cut = sym (cut3 w (decimal s.slots) (field_text (codes " ") s.bytes) (32 ∷ x)) ∙ e ∙
    cut3 w (decimal t.slots) (field_text (codes " ") t.bytes) (32 ∷ y) in
    let slots = spaced_number s.slots t.slots _ _ hs.0 ht.0 (append_cancel_left w _ _ cut) in
    let bytes = spaced_number s.bytes t.bytes x y hs.1 ht.1 slots.1 in
    (same_tally s t slots.0 bytes.0, bytes.1)

-- what the first parts of two lines have in common if their texts are one
record SamePlaces (s t : ReportLine) : Type 0 where
  phase : s.phase ≡ t.phase
  partition : s.partition ≡ t.partition
  live : s.live ≡ t.live
  quarantined : s.quarantined ≡ t.quarantined
  cached : s.cached ≡ t.cached
  root : s.root ≡ t.root

places_cut : (s : ReportLine) (x : List ℕ) → places_text s ++ x
    ≡ codes "s " ++ (decimal s.phase ++
    (codes " " ++ (decimal s.partition ++ (tally_text (codes " live ") s.live ++ (tally_text (codes " quarantined ") s.quarantined
    ++ (tally_text (codes " cached ") s.cached ++ (tally_text (codes " root ") s.root ++ x)))))))
unfolding places_text
places_cut s x = cut6 (field_text (codes "s ") s.phase) (field_text (codes " ") s.partition) (tally_text (codes " live ") s.live)
    (tally_text (codes " quarantined ") s.quarantined)
    (tally_text (codes " cached ") s.cached) (tally_text (codes " root ") s.root) x

split_places : (s t : ReportLine) (x y : List ℕ) → ReportInBits s → ReportInBits t → places_text s ++ 32 ∷ x ≡ places_text t ++ 32 ∷ y →
    SamePlaces s t × (x ≡ y)
split_places s t x y hs ht e =
    let cut = append_cancel_left (codes "s ") _ _ (sym (places_cut s (32 ∷ x)) ∙ e ∙ places_cut t (32 ∷ y)) in
    let phase = spaced_number s.phase t.phase _ _ (wide s.phase hs.phase) (wide t.phase ht.phase) cut in
    let partition = spaced_number s.partition t.partition _ _ (wide s.partition hs.partition) (wide t.partition ht.partition) phase.1 in
    let live = split_tally (codes "live ") s.live t.live _ _ hs.live ht.live partition.1 in
    let quarantined = split_tally (codes "quarantined ") s.quarantined t.quarantined _ _ hs.quarantined ht.quarantined live.1 in
    let cached = split_tally (codes "cached ") s.cached t.cached _ _ hs.cached ht.cached quarantined.1 in
    let root = split_tally (codes "root ") s.root t.root x y hs.root ht.root cached.1 in (
      record { phase = phase.0; partition = partition.0; live = live.0; quarantined = quarantined.0; cached = cached.0; root = root.0 },
      root.1,
    )

-- after the places
tail_cut : (s : ReportLine) (x : List ℕ) → bytes_text s ++ (spans_text s ++ x)
    ≡ codes " committed " ++
    (decimal s.committed ++ (codes " reserved " ++
    (decimal s.reserved ++ (codes " full " ++ (decimal s.full ++ (codes " active " ++ (decimal s.active
    ++ (codes " empty " ++ (decimal s.empty ++ (codes " decommitted " ++ (decimal s.decommitted ++ x)))))))))))
unfolding spans_text
tail_cut s x =
    append_assoc (field_text (codes " committed ") s.committed) (field_text (codes " reserved ") s.reserved) (spans_text s ++ x)
    ∙ ap (λ (w : List ℕ). field_text (codes " committed ") s.committed ++ (field_text (codes " reserved ") s.reserved ++ w))
    (cut4 (field_text (codes " full ") s.full) (field_text (codes " active ") s.active) (field_text (codes " empty ") s.empty)
    (field_text (codes " decommitted ") s.decommitted) x)

line_cut : (s : ReportLine) (x : List ℕ) → report_text s ++ x
    ≡ places_text s ++ (codes " committed " ++
    (decimal s.committed ++ (codes " reserved " ++
    (decimal s.reserved ++ (codes " full " ++ (decimal s.full ++ (codes " active " ++ (decimal s.active
    ++ (codes " empty " ++ (decimal s.empty ++ (codes " decommitted " ++ (decimal s.decommitted ++ 10 ∷ x))))))))))))
line_cut s x =
    cut4 (places_text s) (bytes_text s) (spans_text s) (10 ∷ []) x ∙ ap (λ (w : List ℕ). places_text s ++ w) (tail_cut s (10 ∷ x))

pub split_line : (s t : ReportLine) (x y : List ℕ) → ReportInBits s → ReportInBits t → report_text s ++ x ≡ report_text t ++ y → (s ≡ t) ×
    (x ≡ y)
split_line s t x y hs ht e =
    let (places, rest) = split_places s t _ _ hs ht (sym (line_cut s x) ∙ e ∙ line_cut t y) in
    let committed = spaced_number s.committed t.committed _ _ hs.committed ht.committed
    (append_cancel_left (codes "committed ") _ _ rest) in
    let reserved = spaced_number s.reserved t.reserved _ _ hs.reserved ht.reserved
    (append_cancel_left (codes "reserved ") _ _ committed.1) in
    let full = spaced_number s.full t.full _ _ (wide s.full hs.full) (wide t.full ht.full)
    (append_cancel_left (codes "full ") _ _ reserved.1) in
    let active = spaced_number s.active t.active _ _ (wide s.active hs.active) (wide t.active ht.active)
    (append_cancel_left (codes "active ") _ _ full.1) in
    let empty = spaced_number s.empty t.empty _ _ (wide s.empty hs.empty) (wide t.empty ht.empty)
    (append_cancel_left (codes "empty ") _ _ active.1) in
    let decommitted = last_number s.decommitted t.decommitted x y (wide s.decommitted hs.decommitted) (wide t.decommitted ht.decommitted)
    (append_cancel_left (codes "decommitted ") _ _ empty.1) in (
      same_line s t places.phase places.partition places.live places.quarantined places.cached places.root
          committed.0 reserved.0 full.0 active.0 empty.0 decommitted.0,
      decommitted.1,
    )
