-- One addition after the other.
use Rattle.std.proofs.Common.{◌≡◌, ℕ, zero, suc, ◌+◌, ◌*◌, ◌%◌, ◌<◌, ◌≤◌, List, [], ◌++◌, Bool, true, false, refl, sym, ◌∙◌, ap, subst, arith, inl, inr}
use Rattle.std.specs.Prelude.{◌==◌, if◌then◌else◌}
use Rattle.std.specs.List.{sum_by}
use Rattle.std.proofs.lemmas.List.{append-nil, append_assoc}
use Rattle.std.proofs.lemmas.List.Sums.{sum_by-append, sum_by-cons}
use Rattle.std.proofs.lemmas.Bool.{lt-ltb, ne_eqb}
use Rattle.std.proofs.lemmas.Bool.Decides.{eqb_tells}
use Rattle.pa_region.specs.declared.view.Entry.{Entry}
use Rattle.pa_region.specs.declared.view.Entry.TheVariants.{Added}
use Rattle.pa_region.specs.declared.view.View.{View}
use Rattle.pa_region.specs.Views.{HasStake, least_stake, stake_of}
use Rattle.pa_region.specs.Pairs.{log_among, least_log}
use Rattle.pa_region.specs.Takes.{log_of}
use Rattle.pa_region.specs.Leaves.{AddLeaves}
use Rattle.pa_region.specs.Totals.{owes_as, added_as, added_to, CanAdd}
use Rattle.pa_totals.specs.declared.owed.Owed.{Owed}
use Rattle.pa_totals.specs.Settled.{nothing_owed, owed_to, CanSettle, after_owed, after_settle, addition, LeavesSettle, owed_at, none_owed, owed_in, CanSettleAll, after_settle_all}

-- what the least stake's log owes of kind q is at least so much
abbrev pub HasRoom : (ℕ → ℕ) → View → Type 0
HasRoom f v = HasStake v × ((q : ℕ) → sum_by (added_as q) (least_log v.stakes) + f q ≤ sum_by (owes_as q) (least_log v.stakes))

-- an addition to word 4 p + j is one of kind j
added_kind : (p j bytes q : ℕ) → p < 4 → j < 4 → added_as q (Added (4 * p + j) bytes) ≡ (if j == q then bytes else 0)
added_kind p j bytes q small kind =
    let below : 4 * p + j < 16 = omega arith in
    let rest : (4 * p + j) % 4 ≡ j = omega arith in
    rw (lt-ltb (4 * p + j) 16 below, rest) refl

-- what isn't added is nothing, whatever the word
none_if : (b : Bool) → ◌≡◌ {A = ℕ} (if b then 0 else 0) 0
none_if true = refl
none_if false = refl

kind_added : (p j bytes q : ℕ) → p < 4 → j < 4 → sum_by (added_as q) (addition (4 * p + j) bytes) ≡ (if j == q then bytes else 0)
kind_added p j zero q small kind = sym (none_if (j == q))
kind_added p j (suc n) q small kind =
    sum_by-cons (added_as q) (Added (4 * p + j) (suc n)) []
    ∙ (let a = added_kind p j (suc n) q small kind in omega arith)

none_owing : (k bytes q : ℕ) → sum_by (owes_as q) (addition k bytes) ≡ 0
none_owing k zero q = refl
none_owing k (suc n) q = let a = sum_by-cons (owes_as q) (Added k (suc n)) [] in omega arith

-- to word number k
pub word_added : (k word bytes : ℕ) → sum_by (added_to k) (addition word bytes) ≡ (if word == k then bytes else 0)
word_added k word zero = sym (none_if (word == k))
word_added k word (suc n) = let a = sum_by-cons (added_to k) (Added word (suc n)) [] in omega arith

-- What an addition leaves of logs: the least stake's log ends with it, the others are as before, and so are the stakes.
record LeavesAddition (k bytes : ℕ) (v w : View) : Type 0 where
  pub least : least_stake w.stakes ≡ least_stake v.stakes
  pub log : log_of (least_stake v.stakes) w ≡ log_of (least_stake v.stakes) v ++ addition k bytes
  pub other_logs : (j : ℕ) → (j ≡ least_stake v.stakes → ⊥) → log_of j w ≡ log_of j v
  pub stakes : (j : ℕ) → stake_of w j ≡ stake_of v j

leaves_addition : AddLeaves → (k bytes : ℕ) (v : View) → CanAdd k bytes v → LeavesAddition k bytes v (after_owed k bytes v)
leaves_addition leaves k zero v can = record {
  least = refl;
  log = sym (append-nil (log_of (least_stake v.stakes) v));
  other_logs = λ j ne. refl;
  stakes = λ j. refl;
}
leaves_addition leaves k (suc n) v can =
    let l = leaves k (suc n) v can in
    record { least = l.least; log = l.log; other_logs = l.other_logs; stakes = l.stakes }

-- the next addition may be made
pub can_add : (p j bytes : ℕ) (v : View) (f : ℕ → ℕ) → p < 4 → j < 4 → HasRoom f v → bytes ≤ f j → CanAdd (4 * p + j) bytes v
can_add p j bytes v f small kind room same =
    let rest : (4 * p + j) % 4 ≡ j = omega arith in
    let r = room.1 j in
    (omega arith, room.0, rw rest (omega arith))

pub room_left : AddLeaves → (p j bytes : ℕ) (v : View) (f g : ℕ → ℕ) → p < 4 → j < 4 → HasRoom f v → bytes ≤ f j →
    ((q : ℕ) → g q + (if j == q then bytes else 0) ≤ f q) →
    HasRoom g (after_owed (4 * p + j) bytes v)
room_left leaves p j bytes v f g small kind room same less =
    let k = 4 * p + j in
    let l = leaves_addition leaves k bytes v (can_add p j bytes v f small kind room same) in
    let least = l.least in
    let has = room.0 in
    let log : least_log (after_owed k bytes v).stakes ≡ least_log v.stakes ++ addition k bytes =
    ap (λ (n : ℕ). log_among n (after_owed k bytes v).stakes) least ∙ l.log in (
      omega arith,
      λ q. rw log (
          let a = sum_by-append (added_as q) (least_log v.stakes) (addition k bytes) in
          let b = sum_by-append (owes_as q) (least_log v.stakes) (addition k bytes) in
          let c = kind_added p j bytes q small kind in
          let d = none_owing k bytes q in
          let e = less q in
          let f = room.1 q in
          omega arith),
    )

-- what is left owed after one addition
less_issued : (o : Owed) (q : ℕ) → owed_to q (record o { issued = 0 }) + (if 0 == q then o.issued else 0) ≤ owed_to q o
less_issued o q = elim (eqb_tells q 0) [
  | inl y ↦ subst (λ (n : ℕ). owed_to n (record o { issued = 0 }) + (if 0 == n then o.issued else 0) ≤ owed_to n o) (sym y.1) (omega arith)
  | inr n ↦ rw (n.0, ne_eqb 0 q (λ e. n.1 (sym e))) (omega arith)
]

less_freed : (o : Owed) (q : ℕ) → owed_to q (record o { freed = 0 }) + (if 1 == q then o.freed else 0) ≤ owed_to q o
less_freed o q = elim (eqb_tells q 1) [
  | inl y ↦ subst (λ (n : ℕ). owed_to n (record o { freed = 0 }) + (if 1 == n then o.freed else 0) ≤ owed_to n o) (sym y.1) (omega arith)
  | inr n ↦ rw (n.0, ne_eqb 1 q (λ e. n.1 (sym e))) (omega arith)
]

less_entered : (o : Owed) (q : ℕ) → owed_to q (record o { entered = 0 }) + (if 2 == q then o.entered else 0) ≤ owed_to q o
less_entered o q = elim (eqb_tells q 2) [
  | inl y ↦ subst (λ (n : ℕ). owed_to n (record o { entered = 0 }) + (if 2 == n then o.entered else 0) ≤ owed_to n o) (sym y.1)
      (omega arith)
  | inr n ↦ rw (n.0, ne_eqb 2 q (λ e. n.1 (sym e))) (omega arith)
]

less_left : (o : Owed) (q : ℕ) → owed_to q (record o { left = 0 }) + (if 3 == q then o.left else 0) ≤ owed_to q o
less_left o q = elim (eqb_tells q 3) [
  | inl y ↦ subst (λ (n : ℕ). owed_to n (record o { left = 0 }) + (if 3 == n then o.left else 0) ≤ owed_to n o) (sym y.1) (omega arith)
  | inr n ↦ rw (n.0, ne_eqb 3 q (λ e. n.1 (sym e))) (omega arith)
]

-- each of the four additions may be made
pub record AddsEach (p : ℕ) (o : Owed) (v : View) : Type 0 where
  pub issued : CanAdd (4 * p) o.issued v
  pub freed : CanAdd (4 * p + 1) o.freed (after_owed (4 * p) o.issued v)
  pub entered : CanAdd (4 * p + 2) o.entered (after_owed (4 * p + 1) o.freed (after_owed (4 * p) o.issued v))
  pub left : CanAdd (4 * p + 3) o.left (after_owed (4 * p + 2) o.entered (after_owed (4 * p + 1) o.freed (after_owed (4 * p) o.issued v)))

pub adds_each : AddLeaves → (p : ℕ) (o : Owed) (v : View) → CanSettle p o v → AddsEach p o v
adds_each leaves p o v can =
    let first : 4 * p + 0 ≡ 4 * p = omega arith in
    let small = can.partition in
    let o1 : Owed = record o { issued = 0 } in
    let o2 : Owed = record o1 { freed = 0 } in
    let o3 : Owed = record o2 { entered = 0 } in
    let v1 = after_owed (4 * p) o.issued v in
    let v2 = after_owed (4 * p + 1) o.freed v1 in
    let v3 = after_owed (4 * p + 2) o.entered v2 in
    let r0 : HasRoom (λ q. owed_to q o) v = (can.stake, can.covered) in
    let r1 : HasRoom (λ q. owed_to q o1) v1 =
    subst (λ (k : ℕ). HasRoom (λ q. owed_to q o1) (after_owed k o.issued v)) first
    (room_left leaves p 0 o.issued v (λ q. owed_to q o) (λ q. owed_to q o1) small (omega arith) r0 (omega arith) (less_issued o)) in
    let r2 : HasRoom (λ q. owed_to q o2) v2 =
    room_left leaves p 1 o.freed v1 (λ q. owed_to q o1) (λ q. owed_to q o2) small (omega arith) r1 (omega arith) (less_freed o1) in
    let r3 : HasRoom (λ q. owed_to q o3) v3 =
    room_left leaves p 2 o.entered v2 (λ q. owed_to q o2) (λ q. owed_to q o3) small (omega arith) r2 (omega arith)
    (less_entered o2) in
    record {
      issued = subst (λ (k : ℕ). CanAdd k o.issued v) first
          (can_add p 0 o.issued v (λ q. owed_to q o) small (omega arith) r0 (omega arith));
      freed = can_add p 1 o.freed v1 (λ q. owed_to q o1) small (omega arith) r1 (omega arith);
      entered = can_add p 2 o.entered v2 (λ q. owed_to q o2) small (omega arith) r2 (omega arith);
      left = can_add p 3 o.left v3 (λ q. owed_to q o3) small (omega arith) r3 (omega arith);
    }

-- one entry after the other
pub leaves_settle : AddLeaves → (p : ℕ) (o : Owed) (v : View) → CanSettle p o v → LeavesSettle p o v (after_settle p o v)
leaves_settle leaves p o v can =
    let each = adds_each leaves p o v can in
    let v1 = after_owed (4 * p) o.issued v in
    let v2 = after_owed (4 * p + 1) o.freed v1 in
    let v3 = after_owed (4 * p + 2) o.entered v2 in
    let a = leaves_addition leaves (4 * p) o.issued v each.issued in
    let b = leaves_addition leaves (4 * p + 1) o.freed v1 each.freed in
    let c = leaves_addition leaves (4 * p + 2) o.entered v2 each.entered in
    let d = leaves_addition leaves (4 * p + 3) o.left v3 each.left in
    let l1 : least_stake v1.stakes ≡ least_stake v.stakes = a.least in
    let l2 : least_stake v2.stakes ≡ least_stake v.stakes = b.least ∙ l1 in
    let l3 : least_stake v3.stakes ≡ least_stake v.stakes = c.least ∙ l2 in
    let w = after_settle p o v in
    let n = least_stake v.stakes in
    let e1 = addition (4 * p) o.issued in
    let e2 = addition (4 * p + 1) o.freed in
    let e3 = addition (4 * p + 2) o.entered in
    let e4 = addition (4 * p + 3) o.left in
    let log2 : log_of n v2 ≡ log_of n v1 ++ e2 = subst (λ (k : ℕ). log_of k v2 ≡ log_of k v1 ++ e2) l1 b.log in
    let log3 : log_of n v3 ≡ log_of n v2 ++ e3 = subst (λ (k : ℕ). log_of k v3 ≡ log_of k v2 ++ e3) l2 c.log in
    let log4 : log_of n w ≡ log_of n v3 ++ e4 = subst (λ (k : ℕ). log_of k w ≡ log_of k v3 ++ e4) l3 d.log in
    let two : log_of n v2 ≡ log_of n v ++ (e1 ++ e2) = log2 ∙ (ap (λ (l : List Entry). l ++ e2) a.log ∙ append_assoc (log_of n v) e1 e2) in
    let three : log_of n v3 ≡ log_of n v ++ ((e1 ++ e2) ++ e3) = log3 ∙
    (ap (λ (l : List Entry). l ++ e3) two ∙ append_assoc (log_of n v) (e1 ++ e2) e3) in
    record {
      least = d.least ∙ l3;
      log = log4 ∙ (ap (λ (l : List Entry). l ++ e4) three ∙ (append_assoc (log_of n v) ((e1 ++ e2) ++ e3) e4
          ∙ ap (λ (l : List Entry). log_of n v ++ l) (append_assoc (e1 ++ e2) e3 e4 ∙ append_assoc e1 e2 (e3 ++ e4))));
      other_logs = λ k ne. d.other_logs k (λ e. ne (e ∙ l3)) ∙
          (c.other_logs k (λ e. ne (e ∙ l2)) ∙ (b.other_logs k (λ e. ne (e ∙ l1)) ∙ a.other_logs k ne));
      stakes = λ k. d.stakes k ∙ (c.stakes k ∙ (b.stakes k ∙ a.stakes k));
    }

-- ---- all four partitions

-- if nothing is owed, that is so in each partition and of each kind
pub owed_at_none : (p : ℕ) → owed_at none_owed p ≡ nothing_owed
owed_at_none zero = refl
owed_at_none (suc zero) = refl
owed_at_none (suc (suc zero)) = refl
owed_at_none (suc (suc (suc zero))) = refl
owed_at_none (suc (suc (suc (suc p)))) = refl

pub owed_none : (q : ℕ) → owed_to q nothing_owed ≡ 0
owed_none q = go (q == 0) (q == 1) (q == 2) (q == 3)
  where
    go : (a b c d : Bool) → ◌≡◌ {A = ℕ} (if a then 0 else (if b then 0 else (if c then 0 else (if d then 0 else 0)))) 0
    go true b c d = refl
    go false true c d = refl
    go false false true d = refl
    go false false false true = refl
    go false false false false = refl

pub none_owed_in : (q : ℕ) → owed_in q none_owed ≡ 0
none_owed_in q = let a = owed_none q in omega arith

-- a settling leaves room for what else is owed
settle_room : AddLeaves → (p : ℕ) (o : Owed) (v : View) (g : ℕ → ℕ) → p < 4 → HasRoom (λ q. owed_to q o + g q) v →
    HasRoom g (after_settle p o v)
settle_room leaves p o v g small room =
    let first : 4 * p + 0 ≡ 4 * p = omega arith in
    let o1 : Owed = record o { issued = 0 } in
    let o2 : Owed = record o1 { freed = 0 } in
    let o3 : Owed = record o2 { entered = 0 } in
    let v1 = after_owed (4 * p) o.issued v in
    let v2 = after_owed (4 * p + 1) o.freed v1 in
    let v3 = after_owed (4 * p + 2) o.entered v2 in
    let r1 : HasRoom (λ q. owed_to q o1 + g q) v1 =
    subst (λ (k : ℕ). HasRoom (λ q. owed_to q o1 + g q) (after_owed k o.issued v)) first
    (room_left leaves p 0 o.issued v (λ q. owed_to q o + g q) (λ q. owed_to q o1 + g q) small (omega arith) room (omega arith)
    (λ q. let a = less_issued o q in omega arith)) in
    let r2 : HasRoom (λ q. owed_to q o2 + g q) v2 =
    room_left leaves p 1 o.freed v1 (λ q. owed_to q o1 + g q) (λ q. owed_to q o2 + g q) small (omega arith) r1 (omega arith)
    (λ q. let a = less_freed o1 q in omega arith) in
    let r3 : HasRoom (λ q. owed_to q o3 + g q) v3 =
    room_left leaves p 2 o.entered v2 (λ q. owed_to q o2 + g q) (λ q. owed_to q o3 + g q) small (omega arith) r2 (omega arith)
    (λ q. let a = less_entered o2 q in omega arith) in
    room_left leaves p 3 o.left v3 (λ q. owed_to q o3 + g q) g small (omega arith) r3 (omega arith)
    (λ q. let a = less_left o3 q in let b = owed_none q in omega arith)

can_settle : (p : ℕ) (o : Owed) (v : View) (g : ℕ → ℕ) → p < 4 → HasRoom (λ q. owed_to q o + g q) v → CanSettle p o v
can_settle p o v g small room = record { partition = small; stake = room.0; covered = λ q. let a = room.1 q in omega arith }

-- each of the four settlings may be made, and no more is added then than is owed
pub record SettlesEach (owed : List Owed) (v : View) : Type 0 where
  pub first : CanSettle 0 (owed_at owed 0) v
  pub second : CanSettle 1 (owed_at owed 1) (after_settle 0 (owed_at owed 0) v)
  pub third : CanSettle 2 (owed_at owed 2) (after_settle 1 (owed_at owed 1) (after_settle 0 (owed_at owed 0) v))
  pub fourth : CanSettle 3 (owed_at owed 3)
      (after_settle 2 (owed_at owed 2) (after_settle 1 (owed_at owed 1) (after_settle 0 (owed_at owed 0) v)))
  pub room : HasRoom (λ q. 0) (after_settle_all owed v)

pub settles_each : AddLeaves → (owed : List Owed) (v : View) → CanSettleAll owed v → SettlesEach owed v
settles_each leaves owed v can =
    let o0 = owed_at owed 0 in
    let o1 = owed_at owed 1 in
    let o2 = owed_at owed 2 in
    let o3 = owed_at owed 3 in
    let g1 : ℕ → ℕ = λ q. owed_to q o1 + (owed_to q o2 + owed_to q o3) in
    let g2 : ℕ → ℕ = λ q. owed_to q o2 + owed_to q o3 in
    let g3 : ℕ → ℕ = λ q. owed_to q o3 + 0 in
    let v1 = after_settle 0 o0 v in
    let v2 = after_settle 1 o1 v1 in
    let v3 = after_settle 2 o2 v2 in
    let r0 : HasRoom (λ q. owed_to q o0 + g1 q) v = (can.stake, can.covered) in
    let r1 : HasRoom (λ q. owed_to q o1 + g2 q) v1 = settle_room leaves 0 o0 v g1 (omega arith) r0 in
    let r2 = settle_room leaves 1 o1 v1 g2 (omega arith) r1 in
    let r2' : HasRoom (λ q. owed_to q o2 + g3 q) v2 = (r2.0, λ q. let a = r2.1 q in omega arith) in
    let r3 : HasRoom (λ q. owed_to q o3 + 0) v3 = settle_room leaves 2 o2 v2 g3 (omega arith) r2' in
    record {
      first = can_settle 0 o0 v g1 (omega arith) r0;
      second = can_settle 1 o1 v1 g2 (omega arith) r1;
      third = can_settle 2 o2 v2 g3 (omega arith) r2';
      fourth = can_settle 3 o3 v3 (λ q. 0) (omega arith) r3;
      room = settle_room leaves 3 o3 v3 (λ q. 0) (omega arith) r3;
    }
