-- Ops one after the other, and what a resize comes to.
use Rattle.std.proofs.Common.{◌≡◌, ℕ, ◌<◌, ◌≤◌, List, [], ◌∷◌, ◌++◌, length, map, Option, Some, None, refl, sym, ap, ◌∙◌, subst, arith, append_assoc}
use Rattle.std.specs.Prelude.{IsSome}
use Rattle.std.proofs.lemmas.Bool.{false≢true}
use Rattle.std.proofs.lemmas.List.{append-nil, map-append, length-map}
use Rattle.pa_slot.specs.Count.{refs_of}
use Rattle.pa_direct.specs.Shapes.{greatest_size}
use Rattle.pa_trace.specs.declared.script.Line.{Line}
use Rattle.pa_trace.specs.declared.script.Line.TheVariants.{Phase, Do}
use Rattle.pa_trace.specs.declared.script.Op.{Op}
use Rattle.pa_trace.specs.declared.script.Op.TheVariants.{Alloc, Read}
use Rattle.pa_trace.specs.declared.script.Rules.{Rules}
use Rattle.pa_record.specs.declared.entry.Seen.{Seen}
use Rattle.pa_record.specs.declared.entry.Answer.{Answer}
use Rattle.pa_record.specs.declared.entry.Answer.TheVariants.{Value}
use Rattle.pa_script.specs.declared.script.ScriptLine.TheVariants.{Plain, Resize}
use Rattle.pa_rules.specs.declared.played.Played.{Played}
use Rattle.pa_rules.specs.Registers.{AllRegs}
use Rattle.pa_rules.specs.Roots.{Journals}
use Rattle.pa_rules.specs.Sizes.{slot_size_for}
use Rattle.pa_model.specs.declared.player.Handed.{Handed}
use Rattle.pa_model.specs.Player.{Player, records_so_far, IsGoing, IsRecorded, PlaysLine, AreRegsAfter, Owns, ReadsOwned, owned_by}
use Rattle.pa_resize.specs.declared.verdict.Verdict.{Verdict}
use Rattle.pa_resize.specs.declared.verdict.Verdict.TheVariants.{NotOwn, Shared, TooLarge, Kept, NoRoom, Moved}
use Rattle.pa_resize.specs.Expansion.{did, spare, moving, Object, IsLook, NeedsOther, HasNoRoom, IsResized, IsRecordOf}
use Rattle.pa_resize.specs.Playing.{next_record, Went, WentBy, Resizes, PlaysScriptLine}

-- ---- ops

pub went_none : (p : Player) → IsGoing p → Went p [] p
went_none p going = record {
  going = going;
  head = refl;
  lines = sym (append-nil p.lines.items);
  records = sym (append-nil (records_so_far p));
  later = λ ps r on. on;
}

pub went_one : (p q : Player) (thread : ℕ) (op : Op) (answer : Answer) → PlaysLine p (Do thread op) (Some answer) q →
    Went p (next_record p thread op answer ∷ []) q
went_one p q thread op answer h = record {
  going = h.going;
  head = h.head;
  lines = h.lines;
  records = h.records ∙ ap (λ xs. records_so_far p ++ xs) h.recorded;
  later = h.later;
}

pub went_more : (p q r : Player) (xs ys : List Played) → Went p xs q → Went q ys r → Went p (xs ++ ys) r
went_more p q r xs ys a b = record {
  going = b.going;
  head = b.head ∙ a.head;
  lines = b.lines ∙ ap (λ zs. zs ++ map did ys) a.lines ∙ append_assoc p.lines.items (map did xs) (map did ys)
      ∙ ap (λ zs. p.lines.items ++ zs) (sym (map-append did xs ys));
  records = b.records ∙ ap (λ zs. zs ++ ys) a.records ∙ append_assoc (records_so_far p) xs ys;
  later = λ ps t on. a.later ps t (b.later ps t on);
}

pub went_four : (p q r s t : Player) (thread : ℕ) (a b c d : Op) (k l m n : Answer) → Went p (next_record p thread a k ∷ []) q →
    Went q (next_record q thread b l ∷ []) r
    → Went r (next_record r thread c m ∷ []) s → Went s (next_record s thread d n ∷ []) t → WentBy p thread (a ∷ b ∷ c ∷ d ∷ []) t
went_four p q r s t thread a b c d k l m n first second third last =
    let w : Played = next_record p thread a k in
    let x : Played = next_record q thread b l in
    let y : Played = next_record r thread c m in
    let z : Played = next_record s thread d n in (
      w ∷ x ∷ y ∷ z ∷ [],
      refl,
      went_more p s t (w ∷ x ∷ y ∷ []) (z ∷ [])
          (went_more p r s (w ∷ x ∷ []) (y ∷ []) (went_more p q r (w ∷ []) (x ∷ []) first second) third) last,
    )

-- the read of an owner's first word gives a value
some_of : (o : Option Handed) → IsSome o → (h : Handed) × (o ≡ Some h)
some_of None some = absurd (false≢true some)
some_of (Some h) some = (h, refl)

pub reads_value : (p : Player) (thread reg : ℕ) (answer : Answer) → ReadsOwned p (Do thread (Read reg 0)) (Some answer) →
    IsSome (owned_by p thread reg)
    → (seen : Seen) × (value : ℕ) × (answer ≡ Value seen value)
reads_value p thread reg answer reads owned =
    let (h, is) = some_of (owned_by p thread reg) owned in
    let (seen, value, says) = reads thread reg h refl is in
    (seen, value, cc)

-- ---- a resize

pub resizes_not : (p : Player) (thread reg size : ℕ) → p.lines.head.version ≡ 1 → IsGoing p → Owns p thread reg None →
    Resizes p thread reg size NotOwn p
resizes_not p thread reg size version going owned = record {
  added = [];
  went = went_none p going;
  few = omega arith;
  is = λ ps r on. let o = owned ps r on in (o.0, subst (λ v. AreRegsAfter v ps r (records_so_far p) o.0) version o.1, (o.2, refl));
}

module _ (p : Player) (thread reg size : ℕ) (h : Handed) (owned : Owns p thread reg (Some h)) (version : p.lines.head.version ≡ 1)
    (seen : Seen) (value : ℕ) where
  abbrev pub looked : Played
  looked = next_record p thread (Read reg 0) (Value seen value)

  abbrev pub object : Object
  object = record { slot = h.slot; partition = h.partition; len = h.len; seen = seen; value = value }

  -- it has this verdict in each run that goes on from there if it has it wherever the object is owned
  resizes_by : (q : Player) (v : Verdict) (xs : List Played) → Went p xs q → length xs ≤ 6
      → ((roots : Journals) (regs : AllRegs) → IsLook roots (regs thread reg) thread reg object looked →
      IsResized v roots (regs thread reg) thread reg size xs)
      → Resizes p thread reg size v q
  resizes_by q v xs went few says = record {
    added = xs;
    went = went;
    few = few;
    is = λ ps r on.
        let o = owned ps r (went.later ps r on) in (
          o.0,
          subst (λ v. AreRegsAfter v ps r (records_so_far p) o.0) version o.1,
          says r.roots o.0 (record { owned = o.2.0; size = o.2.1; line = refl; answer = refl }),
        );
  }

  pub resizes_shared : (q : Player) → Went p (looked ∷ []) q → 0 < refs_of seen.found.0 → Resizes p thread reg size Shared q
  resizes_shared q went some = resizes_by q Shared (looked ∷ []) went (omega arith) (λ roots regs look. (object, looked, look, some, refl))

  pub resizes_large : (q : Player) → Went p (looked ∷ []) q → refs_of seen.found.0 ≡ 0 → greatest_size < size →
      Resizes p thread reg size TooLarge q
  resizes_large q went alone large =
      resizes_by q TooLarge (looked ∷ []) went (omega arith) (λ roots regs look. (object, looked, look, alone, large, refl))

  pub resizes_kept : (q : Player) → Went p (looked ∷ []) q → refs_of seen.found.0 ≡ 0 → size ≤ greatest_size → slot_size_for 1 size ≡ h.len
      → Resizes p thread reg size Kept q
  resizes_kept q went alone small same =
      resizes_by q Kept (looked ∷ []) went (omega arith) (λ roots regs look. (object, looked, look, alone, small, same, refl))

  module _ (m : Player) (answer : Answer) (first : Went p (looked ∷ []) m) (needs : NeedsOther object size) where
    abbrev pub asked : Played
    asked = next_record m thread (Alloc spare h.partition size) answer

    pub resizes_no_room : (q : Player) → Went m (asked ∷ []) q → HasNoRoom answer → Resizes p thread reg size NoRoom q
    resizes_no_room q went full =
        resizes_by q NoRoom (looked ∷ asked ∷ []) (went_more p m q (looked ∷ []) (asked ∷ []) first went) (omega arith)
        (λ roots regs look. (object, looked, asked, look, needs, refl, full, refl))

    pub resizes_moved : (n q : Player) → Went m (asked ∷ []) n → (HasNoRoom answer → ⊥) → WentBy n thread (moving reg value) q →
        Resizes p thread reg size Moved q
    resizes_moved n q went room (rest, ops, then') =
        let four : length rest ≡ 4 = sym (length-map rest did) ∙ ap length ops in
        let two = went_more p m n (looked ∷ []) (asked ∷ []) first went in
        resizes_by q Moved (looked ∷ asked ∷ rest) (went_more p n q (looked ∷ asked ∷ []) rest two then') (omega (arith, four))
        (λ roots regs look. (object, looked, asked, rest, look, needs, refl, room, ops, refl))

-- ---- a line of a script

recorded_is : (rules : Rules) (n phase : ℕ) (l : Line) (answer : Option Answer) (added : List Played) →
    IsRecorded rules n phase l answer added → IsRecordOf l added
recorded_is rules n phase Phase None added h = h
recorded_is rules n phase Phase (Some answer) added h = absurd h
recorded_is rules n phase (Do thread op) None added h = absurd h
recorded_is rules n phase (Do thread op) (Some answer) added h =
    (record { line = n; thread = thread; phase = phase; rules = rules; op = op; answer = answer }, refl, h)

pub plays_plain : (p q : Player) (l : Line) (answer : Option Answer) → PlaysLine p l answer q → PlaysScriptLine p (Plain l) None q
plays_plain p q l answer h = record {
  going = h.going;
  head = h.head;
  piece = record { line = Plain l; lines = l ∷ []; records = h.added; verdict = None };
  line = refl;
  verdict = refl;
  lines = h.lines;
  records = h.records;
  few = omega arith;
  later = h.later;
  is = λ ps r on. (refl, recorded_is _ _ _ l answer h.added h.recorded, refl);
}

pub plays_resize : (p q : Player) (thread reg size : ℕ) (v : Verdict) → Resizes p thread reg size v q →
    PlaysScriptLine p (Resize thread reg size) (Some v) q
plays_resize p q thread reg size v h =
    let went = h.went in
    record {
      going = went.going;
      head = went.head;
      piece = record { line = Resize thread reg size; lines = map did h.added; records = h.added; verdict = Some v };
      line = refl;
      verdict = refl;
      lines = went.lines;
      records = went.records;
      few = omega (arith, h.few, length-map h.added did);
      later = went.later;
      is = λ ps r on. let o = h.is ps r on in (v, refl, refl, o.0, o.1, o.2);
    }
