-- What is known of the value of a result.
use Rattle.std.proofs.Common.{Result, Ok, Err}
use Rattle.std.specs.Prelude.{IfOk, OnOk}

pub if_ok : {X E : Type 0} (r : Result X E) (P R : X → Type 0) → IfOk r P → ((x : X) → P x → R x) → IfOk r R
if_ok (Ok x) P R p f = f x p
if_ok (Err e) P R p f = tt

pub both_ok : {X E : Type 0} (r : Result X E) (P R : X → Type 0) (Q : Type 0) → IfOk r P → OnOk r Q → ((x : X) → P x → Q → R x) → IfOk r R
both_ok (Ok x) P R Q p q f = f x p q
both_ok (Err e) P R Q p q f = tt
