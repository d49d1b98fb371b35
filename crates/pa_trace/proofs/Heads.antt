-- A head is read exactly if it is spelled so, of a version that is known, and within its limits.
use Rattle.std.proofs.Common.{◌≡◌, ℕ, ◌<◌, Bool, true, false, cond, leb, ◌&&◌, List, Option, Some, Result, Ok, Err, codes, refl, sym, ap, subst, ◌∙◌, inl, inr, arith}
use Rattle.std.proofs.lemmas.Bool.{leb-true, lt-ltb, le-ltb, le-leb, lt-leb, and_parts, and_from, cases_lt, both_ways}
use Rattle.pa_text.specs.Reading.{fit}
use Rattle.pa_trace.specs.declared.field.LineFault.{LineFault}
use Rattle.pa_trace.specs.declared.field.LineFault.TheVariants.{Outside, Past}
use Rattle.pa_trace.specs.declared.line.Head.{Head}
use Rattle.pa_trace.specs.Grammar.{IsHeadText, IsVersionTo, tells_plain}
use Rattle.pa_trace.specs.Limits.{IsHeadWithin, most_region, most_plain}
use Rattle.pa_trace.specs.Reading.{◌>>=◌, ended, fields_in, known_in, up_to, plain_number_in, head_of, head_in}
use Rattle.pa_trace.proofs.Fields.{bind_ok, handed, field_at, field_handed, one_handed, one_is}
use Rattle.pa_trace.proofs.Threes.{fields_at, fields_handed, fields_are, three_handed}
use Rattle.pa_trace.proofs.Shapes.{IsShape, head_behind_shape, head_outside}
use Rattle.pa_trace.proofs.Spelled.{plain_number_at, head_behind_at, head_at, head_with, head_takes, head_again}
use Rattle.pa_trace.proofs.Versions.{region_most, plain_most}
use Rattle.pa_trace.proofs.Limits.{tested, count_fit, let_through, kept_out, err_parts}

-- ---- the limits of a head

abbrev pub head_ok : Head → Bool
head_ok h =
    (leb 1 h.region && leb h.region (most_region h.version)) &&
    ((leb 1 h.partitions && leb h.partitions 4) &&
    ((leb 1 h.threads && leb h.threads 16) && leb h.plain (most_plain h.version h.partitions)))

abbrev pub checked_head : Head → Result Head LineFault
checked_head h = cond (head_ok h) (Ok h) (Err Past)

-- the version is one up to the last that is known
abbrev pub version_ok : ℕ → ℕ → Bool
version_ok known version = leb 1 version && leb version known

-- the head of a version that is known, within its limits
abbrev pub known_head : ℕ → Head → Result Head LineFault
known_head known h = cond (version_ok known h.version) (checked_head h) (Err Outside)

up_fit : (n most : ℕ) → most < 4294967296 → up_to (fit n) most ≡ tested (leb n most) n
up_fit n most small =
    elim (cases_lt n 4294967296) [
      | inl lt ↦ rw (lt-ltb n 4294967296 lt) refl
      | inr le ↦ rw (le-ltb n 4294967296 le, lt-leb n most (omega arith)) refl
    ]

plain_tested : (d : Bool) (v m n k q : ℕ) →
    (tested d q >>= λ plain. Ok (head_with v m n k plain)) ≡ cond d (Ok (head_with v m n k q)) (Err Past)
plain_tested true v m n k q = refl
plain_tested false v m n k q = refl

-- the most plain partitions depend on how many partitions there are, so that test counts only if the partitions' test let them through
head_tested : (a b c d : Bool) (v m n k q : ℕ) → (b ≡ true → up_to (fit q) (most_plain v n) ≡ tested d q)
    → (tested a m >>= λ region. tested b n >>= λ partitions. tested c k >>= λ threads. up_to (fit q) (most_plain v partitions) >>= λ plain.
    Ok (head_with v region partitions threads plain)) ≡ cond (a && (b && (c && d))) (Ok (head_with v m n k q)) (Err Past)
head_tested true true true d v m n k q last =
    ap (λ (r : Result ℕ LineFault). r >>= λ plain. Ok (head_with v m n k plain)) (last refl) ∙ plain_tested d v m n k q
head_tested true true false d v m n k q last = refl
head_tested true false c d v m n k q last = refl
head_tested false b c d v m n k q last = refl

head_counted : (v m n k q : ℕ) → head_of v (fit m) (fit n) (fit k) (fit q) ≡ checked_head (head_with v m n k q)
head_counted v m n k q =
    let small : most_region v < 4294967296 = omega (arith, region_most v) in
    rw (count_fit m (most_region v) small, count_fit n 4 (omega arith), count_fit k 16 (omega arith))
    (head_tested (leb 1 m && leb m (most_region v)) (leb 1 n && leb n 4) (leb 1 k && leb k 16) (leb q (most_plain v n)) v m n k q
    (λ few. up_fit q (most_plain v n) (omega (arith, plain_most v n, leb-true n 4 (and_parts (leb 1 n) (leb n 4) few).1))))

-- the head of three numbers, of a version that is given, and without plain partitions
pub head_cases : (v : ℕ) (r : Result (ℕ × ℕ × ℕ) LineFault) → ((r >>= three_handed) >>= λ numbers. head_of v numbers.0 numbers.1 numbers.2
    (Some 0)) ≡ (r >>= λ x. checked_head (head_with v x.0 x.1 x.2 0))
head_cases v (Ok x) = head_counted v x.0 x.1 x.2 0
head_cases v (Err e) = refl

-- ---- what follows the version

none_handed : (r : Result (Unit {0}) LineFault) → (r >>= λ end. Ok (Some 0)) ≡ ((r >>= λ end. Ok 0) >>= one_handed)
none_handed (Ok u) = refl
none_handed (Err e) = refl

plain_is : (b : Bool) (bytes : List ℕ) → plain_number_in b bytes ≡ (plain_number_at b bytes >>= one_handed)
unfolding plain_number_in plain_number_at
plain_is true bytes = one_is bytes (codes " plain ")
plain_is false bytes = none_handed (ended bytes)

-- the rest of a head, by a version that is known
abbrev head_behind_in : ℕ → List ℕ → Result Head LineFault
head_behind_in version bytes = fields_in bytes (codes " region ") (codes " partitions ") (codes " threads ") >>= λ numbers.
    plain_number_in (tells_plain version) numbers.3 >>= λ plain. head_of version numbers.0 numbers.1 numbers.2 plain

plain_counted : (v m n k : ℕ) (r : Result ℕ LineFault) → ((r >>= one_handed) >>= λ plain. head_of v (fit m) (fit n) (fit k) plain) ≡
    ((r >>= λ plain. Ok (head_with v m n k plain)) >>= checked_head)
plain_counted v m n k (Ok q) = head_counted v m n k q
plain_counted v m n k (Err e) = refl

behind_cases : (v : ℕ) (r : Result (ℕ × ℕ × ℕ × List ℕ) LineFault) → ((r >>= fields_handed) >>= λ numbers. plain_number_in (tells_plain v)
    numbers.3 >>= λ plain. head_of v numbers.0 numbers.1 numbers.2 plain)
    ≡ ((r >>= λ x. plain_number_at (tells_plain v) x.3 >>= λ plain. Ok (head_with v x.0 x.1 x.2 plain)) >>= checked_head)
behind_cases v (Ok x) =
    ap (λ (r : Result (Option ℕ) LineFault). r >>= λ plain. head_of v (fit x.0) (fit x.1) (fit x.2) plain) (plain_is (tells_plain v) x.3)
    ∙ plain_counted v x.0 x.1 x.2 (plain_number_at (tells_plain v) x.3)
behind_cases v (Err e) = refl

behind_is : (v : ℕ) (bytes : List ℕ) → head_behind_in v bytes ≡ (head_behind_at v bytes >>= checked_head)
unfolding head_behind_at
behind_is v bytes = rw fields_are (behind_cases v (fields_at bytes (codes " region ") (codes " partitions ") (codes " threads ")))

-- ---- the version

known_fit : (known n : ℕ) → known < 4294967296 → known_in known (fit n) ≡ cond (version_ok known n) (Ok n) (Err Outside)
known_fit known n small =
    elim (cases_lt n 4294967296) [
      | inl lt ↦ rw (lt-ltb n 4294967296 lt) refl
      | inr le ↦ rw (le-ltb n 4294967296 le, le-leb 1 n (omega arith), lt-leb n known (omega arith)) refl
    ]

-- two steps that do the same with each head of a version do the same with what is read behind that version
same_by : (v m n k : ℕ) (f g : Head → Result Head LineFault) → ((m n k q : ℕ) → f (head_with v m n k q) ≡ g (head_with v m n k q))
    → (r : Result ℕ LineFault)
    → ((r >>= λ plain. Ok (head_with v m n k plain)) >>= f) ≡ ((r >>= λ plain. Ok (head_with v m n k plain)) >>= g)
same_by v m n k f g same (Ok q) = same m n k q
same_by v m n k f g same (Err e) = refl

same_of : (v : ℕ) (f g : Head → Result Head LineFault) → ((m n k q : ℕ) → f (head_with v m n k q) ≡ g (head_with v m n k q))
    → (r : Result (ℕ × ℕ × ℕ × List ℕ) LineFault)
    → ((r >>= λ x. plain_number_at (tells_plain v) x.3 >>= λ plain. Ok (head_with v x.0 x.1 x.2 plain)) >>= f)
    ≡ ((r >>= λ x. plain_number_at (tells_plain v) x.3 >>= λ plain. Ok (head_with v x.0 x.1 x.2 plain)) >>= g)
same_of v f g same (Ok x) = same_by v x.0 x.1 x.2 f g same (plain_number_at (tells_plain v) x.3)
same_of v f g same (Err e) = refl

same_behind : (v : ℕ) (bytes : List ℕ) (f g : Head → Result Head LineFault)
    → ((m n k q : ℕ) → f (head_with v m n k q) ≡ g (head_with v m n k q)) → (head_behind_at v bytes >>= f) ≡ (head_behind_at v bytes >>= g)
unfolding head_behind_at
same_behind v bytes f g same = same_of v f g same (fields_at bytes (codes " region ") (codes " partitions ") (codes " threads "))

abbrev refused : Head → Result Head LineFault
refused h = Err Outside

all_outside : (r : Result Head LineFault) → IsShape r → (r >>= refused) ≡ Err Outside
all_outside (Ok h) shape = refl
all_outside (Err d) shape = ap (λ (e : LineFault). Err e) (sym shape)

module _ (known : ℕ) (small : known < 4294967296) where
  version_tested : (b : Bool) (v : ℕ) (bytes : List ℕ) → version_ok known v ≡ b →
      (cond b (Ok v) (Err Outside) >>= λ version. head_behind_in version bytes) ≡ (head_behind_at v bytes >>= known_head known)
  version_tested true v bytes is = behind_is v bytes ∙ same_behind v bytes checked_head (known_head known)
      (λ m n k q. sym (ap (λ (b : Bool). cond b (checked_head (head_with v m n k q)) (Err Outside)) is))
  version_tested false v bytes is = sym (all_outside (head_behind_at v bytes) (head_behind_shape v bytes)) ∙
      same_behind v bytes refused (known_head known)
      (λ m n k q. sym (ap (λ (b : Bool). cond b (checked_head (head_with v m n k q)) (Err Outside)) is))

  head_behind : (r : Result (ℕ × List ℕ) LineFault)
      → ((r >>= handed) >>= λ first. known_in known first.0 >>= λ version. head_behind_in version first.1)
      ≡ ((r >>= λ first. head_behind_at first.0 first.1) >>= known_head known)
  head_behind (Ok first) =
      rw (known_fit known first.0 small) (version_tested (version_ok known first.0) first.0 first.1 refl)
  head_behind (Err e) = refl

  pub head_is : (bytes : List ℕ) → head_in known bytes ≡ (head_at bytes >>= known_head known)
  unfolding head_in head_at
  head_is bytes = rw field_handed (head_behind (field_at (codes "trace ") bytes))

-- ---- the limits as tests

pub head_within : (h : Head) → head_ok h ≡ true → IsHeadWithin h
head_within h e =
    let most = most_region h.version in
    let most_of = most_plain h.version h.partitions in
    let all_threads = leb 1 h.threads && leb h.threads 16 in
    let p = and_parts (leb 1 h.region && leb h.region most)
    ((leb 1 h.partitions && leb h.partitions 4) && (all_threads && leb h.plain most_of)) e in
    let q = and_parts (leb 1 h.partitions && leb h.partitions 4) (all_threads && leb h.plain most_of) p.1 in
    let r = and_parts all_threads (leb h.plain most_of) q.1 in
    let n = and_parts (leb 1 h.region) (leb h.region most) p.0 in
    let m = and_parts (leb 1 h.partitions) (leb h.partitions 4) q.0 in
    let k = and_parts (leb 1 h.threads) (leb h.threads 16) r.0 in (
      (leb-true 1 h.region n.0, leb-true h.region most n.1),
      (leb-true 1 h.partitions m.0, leb-true h.partitions 4 m.1),
      (leb-true 1 h.threads k.0, leb-true h.threads 16 k.1),
      leb-true h.plain most_of r.1,
    )

pub within_head : (h : Head) → IsHeadWithin h → head_ok h ≡ true
within_head h w =
    and_from _ _ (and_from _ _ (le-leb 1 h.region w.0.0) (le-leb h.region (most_region h.version) w.0.1))
    (and_from _ _ (and_from _ _ (le-leb 1 h.partitions w.1.0) (le-leb h.partitions 4 w.1.1))
    (and_from _ _ (and_from _ _ (le-leb 1 h.threads w.2.0) (le-leb h.threads 16 w.2.1))
    (le-leb h.plain (most_plain h.version h.partitions) w.3)))

version_to : (known version : ℕ) → version_ok known version ≡ true → IsVersionTo known version
version_to known version e = let p = and_parts (leb 1 version) (leb version known) e in (leb-true 1 version p.0, leb-true version known p.1)

to_version : (known version : ℕ) → IsVersionTo known version → version_ok known version ≡ true
to_version known version h = and_from _ _ (le-leb 1 version h.0) (le-leb version known h.1)

-- which way the test of a version went
known_through : (b : Bool) (r : Result Head LineFault) (h : Head) → cond b r (Err Outside) ≡ Ok h → (b ≡ true) × (r ≡ Ok h)
known_through true r h e = (refl, e)
known_through false r h e = absurd cc

-- what a head that was not read is: outside the grammar or of a version that isn't known, or in the grammar and not within the limits
abbrev pub IsHeadNotRead : ℕ → LineFault → List ℕ → Type 0
IsHeadNotRead known Outside bytes = (h : Head) → IsVersionTo known h.version → IsHeadText h bytes → ⊥
IsHeadNotRead known Past bytes = (h : Head) × IsVersionTo known h.version × IsHeadText h bytes × (IsHeadWithin h → ⊥)

module _ (known : ℕ) (small : known < 4294967296) where
  pub head_read : (bytes : List ℕ) (h : Head) → head_in known bytes ≡ Ok h → IsHeadText h bytes × IsHeadWithin h ×
      IsVersionTo known h.version
  head_read bytes h e =
      let b = bind_ok (head_at bytes) (known_head known) h (sym (head_is known small bytes) ∙ e) in
      let v = known_through (version_ok known b.0.version) (checked_head b.0) h b.2 in
      let t = let_through (head_ok b.0) b.0 h v.1 in
      subst (λ (k : Head). IsHeadText k bytes × IsHeadWithin k × IsVersionTo known k.version) t.1
      (head_takes bytes b.0 b.1, head_within b.0 t.0, version_to known b.0.version v.0)

  -- a head in the grammar: of a version that is known or not
  unread_by : (bytes : List ℕ) (x : Head) (d : LineFault) → head_at bytes ≡ Ok x → (b : Bool) → version_ok known x.version ≡ b →
      cond b (checked_head x) (Err Outside) ≡ Err d
      → IsHeadNotRead known d bytes
  unread_by bytes x d same true is e =
      let t = kept_out (head_ok x) x d e in
      let past : IsHeadNotRead known Past bytes =
      (x, version_to known x.version is, head_takes bytes x same, λ h. both_ways (head_ok x) t.0 (within_head x h)) in
      subst (λ (k : LineFault). IsHeadNotRead known k bytes) (sym t.1) past
  unread_by bytes x d same false is e =
      let out : IsHeadNotRead known Outside bytes =
      λ h to text.
      let read : ◌≡◌ {A = Result Head LineFault} (Ok x) (Ok h) = sym same ∙ head_again h bytes text in
      let one : x ≡ h = cc in
      both_ways (version_ok known x.version) is
      (subst (λ (k : Head). version_ok known k.version ≡ true) (sym one) (to_version known h.version to)) in
      let told : Outside ≡ d = cc in
      subst (λ (k : LineFault). IsHeadNotRead known k bytes) told out

  head_cases_of : (bytes : List ℕ) (r : Result Head LineFault) (d : LineFault) → head_at bytes ≡ r → (r >>= known_head known) ≡ Err d →
      IsHeadNotRead known d bytes
  head_cases_of bytes (Ok x) d same e = unread_by bytes x d same (version_ok known x.version) refl e
  head_cases_of bytes (Err f) d same e =
      let out : IsHeadNotRead known Outside bytes =
      λ h to text. let read : ◌≡◌ {A = Result Head LineFault} (Err f) (Ok h) = sym same ∙ head_again h bytes text in cc in
      let is : Outside ≡ d = err_parts f d (head_outside bytes f same) e in
      subst (λ (k : LineFault). IsHeadNotRead known k bytes) is out

  pub head_not_read : (bytes : List ℕ) (d : LineFault) → head_in known bytes ≡ Err d → IsHeadNotRead known d bytes
  head_not_read bytes d e = head_cases_of bytes (head_at bytes) d refl (sym (head_is known small bytes) ∙ e)
