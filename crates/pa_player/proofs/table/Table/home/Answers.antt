use Rattle.std.specs.Prelude.{nat_eq, ℕ, ◌≡◌, ◌<◌, Some, None, length}
use Rattle.std.specs.HashMap.{get}
use Rattle.std.proofs.Common.{sym, ◌∙◌, arith}
use Rattle.std.proofs.lemmas.Bool.{ne_eqb}
use Rattle.pa_record.specs.Spans.{name_of}
use Rattle.pa_player.specs.Tables.{key_of, new_slot}
use Rattle.pa_player.proofs.Homes.{homed_same, homed_push}
use Rattle.pa_player.proofs.table.Table.home.Goals as goal

pub invariant_of-self-in_err-insert : goal.invariant_of-self-in_err-insert
invariant_of-self-in_err-insert c =
    homed_same c.self.inside.slots.items c.reserve.new.self.items c.self.inside.homes c.insert.new.self c.reserve.ensures.items
    c.in_err-insert.ensures.err c.self.invariant

pub invariant_of-self-2 : goal.invariant_of-self-2
invariant_of-self-2 c =
    let slots = c.self.inside.slots.items in
    let key = key_of (name_of c.args.title) in
    let is : c.key_of-key.result ≡ key_of (name_of c.args.title) = grind (arith, c.key_of-key.ensures, c.name_of.ensures) in
    let none : get nat_eq c.self.inside.homes (key_of (name_of c.args.title)) ≡ None =
    grind (arith, is, c.get.ensures.value, c.copied-found.ensures, c.in_default.is, c.in_default.not-Some) in
    let here : get nat_eq c.insert.new.self (key_of (name_of c.args.title)) ≡ Some (length c.self.inside.slots.items) =
    grind (arith, is, c.in_ok-insert.ensures.updates.1, c.len-place.ensures) in
    let others : (k : ℕ) → (k ≡ key_of (name_of c.args.title) → ⊥) → get nat_eq c.insert.new.self k ≡ get nat_eq c.self.inside.homes k =
    λ k ne. c.in_ok-insert.ensures.updates.2 k (ne_eqb c.key_of-key.result k (λ e. ne (sym e ∙ is))) in
    let low : (name_of c.args.title).start < 4294967296 = grind (arith, c.fits.ensures) in
    let whole = homed_push slots (get nat_eq c.self.inside.homes) (get nat_eq c.insert.new.self)
    (new_slot c.args.title c.args.partition c.args.class) low none here others c.self.invariant in
    homed_same _ c.push_reserved.new.self.items c.insert.new.self c.insert.new.self
    (grind (arith, c.push_reserved.ensures.items, c.reserve.ensures.items)) (grind arith) whole
