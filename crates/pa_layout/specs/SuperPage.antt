-- What each byte of a bucket's super page is for.
use Rattle.std.specs.Prelude.{◌≡◌, ℕ, ◌≤◌, List, [], ◌∷◌, Contains}
use Rattle.pa_layout.specs.declared.bytes.Kind.{Kind}
use Rattle.pa_layout.specs.declared.bytes.Kind.TheVariants.{Guard, Metadata, Payload}

-- The bytes `from` to `to` of a super page, both included, and what they are for.
pub record Interval : Type 0 where
  pub from : ℕ
  pub to : ℕ
  pub kind : Kind

-- the bytes from one to another, with their kind
abbrev pub interval : ℕ → ℕ → Kind → Interval
interval from to kind = record { from = from; to = to; kind = kind }

-- a super page from its first byte to its last
abbrev pub intervals : List Interval
intervals =
    interval 0 4095 Guard
    ∷ interval 4096 8191 Metadata
    ∷ interval 8192 16383 Guard
    ∷ interval 16384 2080767 Payload
    ∷ interval 2080768 2097151 Guard
    ∷ []

-- the byte x lies in the interval
abbrev pub LiesIn : ℕ → Interval → Type 0
LiesIn x i = (i.from ≤ x) × (x ≤ i.to)

-- the byte x of a super page lies in an interval of the kind k
abbrev pub IsOfKind : ℕ → Kind → Type 0
IsOfKind x k = (i : Interval) × Contains intervals i × LiesIn x i × (i.kind ≡ k)
