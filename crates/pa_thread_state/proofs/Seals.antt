-- The seals of a worker's Owns. Of each title it has one Own at most, which is sealed exactly if its slot is in a plain partition.
use Rattle.std.proofs.Common.{◌≡◌, ℕ, ◌<◌, ◌≤◌, Bool, true, false, ◌&&◌, List, length, refl, sym, ◌∙◌, ap, arith}
use Rattle.std.specs.Prelude.{slice_set}
use Rattle.std.specs.List.{sum_by}
use Rattle.std.proofs.lemmas.List.Sums.{sum_by-le-sum_by}
use Rattle.pa_slot.specs.declared.title.Title.{Title}
use Rattle.pa_slot.specs.Titles.{same_title}
use Rattle.pa_slot.specs.Holdings.{one}
use Rattle.pa_slot.proofs.Same.{title_self}
use Rattle.pa_region.specs.Views.{sealed_of}
use Rattle.pa_region.specs.Aware.{IsAware}
use Rattle.pa_region.specs.Hands.{is_clean_of, first_sealed}
use Rattle.pa_region.specs.Leaves.{HandsKeepSeals}
use Rattle.pa_region.proofs.Adding.{one_and}
use Rattle.pa_cells.specs.declared.handle.Handle.{Handle}
use Rattle.pa_cells.specs.Handles.{is_plain}
use Rattle.pa_rules.specs.declared.register.Register.TheVariants.{Empty, Own, Ref, Freed, Cleared}
use Rattle.pa_op_specs.specs.Stocks.{StockRegister, StockValue, IsStock, register_in, owns_one, seals_one}
use Rattle.pa_op_specs.proofs.Registers.{sum_set}
use Rattle.pa_op_specs.proofs.Stocks.{register_owns}
use Rattle.pa_thread_state.specs.Exchanging.{handle_register}
use Rattle.pa_thread_state.proofs.Leaving.{clean_own}

-- a register's sealed Own is an Own of it
pub seal_owned : (plain_from : ℕ) (t : Title) (r : StockRegister) → seals_one plain_from t r ≤ owns_one t r
seal_owned plain_from t Empty = omega arith
seal_owned plain_from t (Own h) = one_and (same_title h.title t) (is_plain plain_from h)
seal_owned plain_from t (Ref h) = omega arith
seal_owned plain_from t Freed = omega arith
seal_owned plain_from t Cleared = omega arith

-- registers without an Own of the title have no sealed one
pub no_seals : (plain_from : ℕ) (t : Title) (rs : List StockRegister) → sum_by (owns_one t) rs ≡ 0 →
    sum_by (seals_one plain_from t) rs ≡ 0
no_seals plain_from t rs none =
    let less = sum_by-le-sum_by (seals_one plain_from t) (owns_one t) rs (seal_owned plain_from t) in omega arith

-- if registers have one Own of the title at most, and this one has it, they have as many sealed ones as it has
one_seals : (plain_from : ℕ) (h : Handle) (rs : List StockRegister) (i : ℕ) → i < length rs → register_in rs i ≡ Own h →
    sum_by (owns_one h.title) rs ≤ 1 → sum_by (seals_one plain_from h.title) rs ≡ one (is_plain plain_from h)
one_seals plain_from h rs i inside own once =
    let a = sum_set (owns_one h.title) rs i Empty Empty inside in
    let b = sum_set (seals_one plain_from h.title) rs i Empty Empty inside in
    let c : owns_one h.title (register_in rs i) ≡ 1 = ap (owns_one h.title) own ∙ ap one (title_self h.title) in
    let d : seals_one plain_from h.title (register_in rs i) ≡ one (is_plain plain_from h) =
    ap (seals_one plain_from h.title) own ∙ ap (λ (x : Bool). one (x && is_plain plain_from h)) (title_self h.title) in
    let e = no_seals plain_from h.title (slice_set rs i Empty) (omega arith) in
    omega arith

-- the seat's Own of a register's handle is sealed exactly if the slot is in a plain partition
pub own_sealed : (s : StockValue) (reg : ℕ) (h : Handle) → IsStock s → IsAware s.view → reg < 64 → register_in s.registers reg ≡ Own h →
    sealed_of s.view h.title ≡ one (is_plain s.plain_from h)
own_sealed s reg h is aware below own =
    is.handles.sealed h.title
    ∙ one_seals s.plain_from h s.registers reg (let n = is.handles.count in omega arith) own
    (let a = is.handles.owns h.title in let b = aware.own_once h.title in omega arith)

same_flag : (a b : Bool) → one a ≡ one b → a ≡ b
same_flag true true e = refl
same_flag true false e = absurd (omega arith)
same_flag false true e = absurd (omega arith)
same_flag false false e = refl

-- and so is what the seat hands over for it
pub hands_plain : HandsKeepSeals → (s : StockValue) (reg : ℕ) (own : Bool) (h : Handle) → IsStock s → IsAware s.view → reg < 64 →
    register_in s.registers reg ≡ handle_register own h → (t : Title) →
    one ((own && same_title h.title t) && first_sealed (is_clean_of h.title) s.view.owns)
    ≡ one ((own && same_title h.title t) && is_plain s.plain_from h)
hands_plain law s reg true h is aware below has t =
    let own = register_owns s reg h is below has in
    let clean = clean_own s.view h.title is.handles.clean in
    ap (λ (x : Bool). one (same_title h.title t && x))
    (same_flag (first_sealed (is_clean_of h.title) s.view.owns) (is_plain s.plain_from h)
    (sym (law s.view h.title (aware.own_once h.title) (omega arith)) ∙ own_sealed s reg h is aware below has))
hands_plain law s reg false h is aware below has t = refl

-- what a register with a handle weighs
pub handle_seals : (plain_from : ℕ) (own : Bool) (h : Handle) (t : Title) →
    seals_one plain_from t (handle_register own h) ≡ one ((own && same_title h.title t) && is_plain plain_from h)
handle_seals plain_from true h t = refl
handle_seals plain_from false h t = refl
