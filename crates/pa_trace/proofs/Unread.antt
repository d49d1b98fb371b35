-- A reader goes on: what it knows of the bytes so far, before a step and after it.
use Rattle.std.proofs.Common.{◌≡◌, ℕ, ◌+◌, ◌-◌, ◌<◌, ◌≤◌, List, [], ◌∷◌, ◌++◌, length, ◌⊎◌, Ok, Err, refl, sym, ap, subst, ◌∙◌, arith}
use Rattle.std.proofs.lemmas.List.{append-nil, length_push, length-append}
use Rattle.pa_trace.specs.declared.fault.TraceFault.{TraceFault}
use Rattle.pa_trace.specs.declared.fault.TraceFault.TheVariants.{BadLine, Limit}
use Rattle.pa_trace.specs.declared.field.LineFault.{LineFault}
use Rattle.pa_trace.specs.declared.line.Head.{Head}
use Rattle.pa_trace.specs.declared.script.Line.{Line}
use Rattle.pa_trace.specs.Grammar.{IsVersionTo, IsTraceText, last_version}
use Rattle.pa_trace.specs.Limits.{IsLineWithin}
use Rattle.pa_trace.specs.Faults.{IsFault}
use Rattle.pa_trace.specs.Cut.{IsOneLine, told}
use Rattle.pa_trace.specs.Reading.{head_in, line_in}
use Rattle.pa_trace.specs.Unread.{Unread, trace_with, IsReadUpTo, IsLineRead, IsEndRead, IsFaultRead}
use Rattle.pa_trace.proofs.Limits.{line_read, line_not_read}
use Rattle.pa_trace.proofs.Heads.{head_read, head_not_read}
use Rattle.pa_trace.proofs.Behind.{first_past, first_unread, first_later, first_end, first_is_fault, head_unread, head_later, over_room, in_room, under_room}
use Rattle.pa_trace.proofs.Texts.{lines_more, lines_join, all_push}

-- line n is one line too many, or is a byte too long for the bytes that may still come
abbrev IsOver : ℕ → ℕ → ℕ → Type 0
IsOver n len left = (65536 < n) ⊎ (left < len)

-- ---- the head

module _ (known : ℕ) (recent : known ≤ 3) (bytes first rest : List ℕ) (one : IsOneLine first) (parts : bytes ≡ first ++ 10 ∷ rest)
    (fits : IsOver 1 (length first + 1) 4194304 → ⊥) where
  pub head_begins : (head : Head) → head_in known first ≡ Ok head
      → IsReadUpTo known bytes [] (record { head = head; rest = rest; left = 4194304 - (length first + 1); number = 2 })
  head_begins head is =
      let room = under_room 1 4194304 (length first + 1) fits in
      let read = head_read known (omega arith) first head is in
      let to = read.2 in
      let version : IsVersionTo last_version head.version = (to.0, omega (arith, to.1)) in
      let taken : length bytes ≡ length first + (length rest + 1) = ap length parts ∙ simp length-append (omega arith) in
      record {
        version = version;
        is_known = to.1;
        head = read.1;
        lines = tt;
        few = omega arith;
        number = refl;
        room = omega arith;
        taken = omega (arith, taken, room.1);
        text = λ more h. (first, rest, read.0, h, parts, version);
        fault = λ e h. head_later known head (4194304 - (4194304 - (length first + 1))) bytes first rest e one parts room.1 read.0 read.1 to
            (omega (arith, room.1)) h;
      }

  pub head_faulty : (d : LineFault) → head_in known first ≡ Err d → IsFault known (told 1 d) bytes
  head_faulty d is =
      let room = under_room 1 4194304 (length first + 1) fits in
      head_unread known bytes first rest d one parts room.1 (head_not_read known (omega arith) first d is)

-- ---- a line

module _ (u : Unread) (line after : List ℕ) (one : IsOneLine line) (parts : u.rest ≡ line ++ 10 ∷ after) where
  pub line_past : IsOver u.number (length line + 1) u.left → IsFaultRead u (Limit u.number)
  line_past past known bytes ls h =
      h.fault (Limit u.number)
      (first_past u.head.partitions u.head.threads u.number (4194304 - u.left) u.rest line after one parts
      (over_room u.number u.left (length line + 1) h.room past))

  module _ (fits : IsOver u.number (length line + 1) u.left → ⊥) where
    pub line_faulty : (d : LineFault) → line_in u.head.partitions u.head.threads line ≡ Err d → IsFaultRead u (told u.number d)
    line_faulty d is known bytes ls h =
        let room = under_room u.number u.left (length line + 1) fits in
        let head = h.head in
        let most = h.room in
        let unread = line_not_read u.head.partitions u.head.threads (omega (arith, head.1.1)) (omega (arith, head.2.1)) line d is in
        first_is_fault known (told u.number d) bytes (h.fault (told u.number d)
        (first_unread u.head.partitions u.head.threads u.number (4194304 - u.left) u.rest line after d one parts room.0
        (omega (arith, most, room.1)) unread))

    module _ (l : Line) (is : line_in u.head.partitions u.head.threads line ≡ Ok l) where
      -- what is unread after the line
      abbrev behind_it : Unread
      behind_it = record { head = u.head; rest = after; left = u.left - (length line + 1); number = u.number + 1 }

      taken : length u.rest ≡ length line + (length after + 1)
      taken = ap length parts ∙ simp length-append (omega arith)

      goes_on : (known : ℕ) (bytes : List ℕ) (ls : List Line) → IsReadUpTo known bytes ls u →
          IsReadUpTo known bytes (ls ++ l ∷ []) behind_it
      goes_on known bytes ls h =
          let partitions = u.head.partitions in
          let threads = u.head.threads in
          let room = under_room u.number u.left (length line + 1) fits in
          let head = h.head in
          let most = h.room in
          let number = h.number in
          let so_far = h.taken in
          let read = line_read partitions threads (omega (arith, head.1.1)) (omega (arith, head.2.1)) line l is in
          record {
            version = h.version;
            is_known = h.is_known;
            head = head;
            lines = all_push (IsLineWithin partitions threads) ls l h.lines read.1;
            few = omega (arith, length_push ls l, number, room.0);
            number = omega (arith, length_push ls l, number);
            room = omega (arith, most);
            taken = omega (arith, so_far, taken, room.1);
            text = λ more t. subst (λ z. IsTraceText (trace_with u.head z) bytes) (sym (lines_join ls more l))
                (h.text (l ∷ more) (lines_more more l u.rest line after parts read.0 t));
            fault = λ e f. h.fault e
                (first_later partitions threads u.number (4194304 - u.left) (u.number + 1)
                (4194304 - (u.left - (length line + 1))) u.rest line after l e
                one parts room.0 (omega (arith, most, room.1)) read.0 read.1 refl (omega (arith, most, room.1)) f);
          }

      pub line_goes_on : IsLineRead u l behind_it
      line_goes_on = record { head = refl; shorter = omega (arith, taken); read = goes_on }

-- ---- the end

pub end_reached : (u : Unread) → u.rest ≡ [] → IsEndRead u u
end_reached u none = record {
  stays = refl;
  read = λ known bytes ls h.
      let so_far = h.taken in
      record {
        limits = record { version = h.version; head = h.head; lines = h.lines; few = h.few };
        text = subst (λ z. IsTraceText (trace_with u.head z) bytes) (append-nil ls) (h.text [] none);
        short = omega (arith, so_far, ap length none);
      };
}

pub end_faulty : (u : Unread) (e : TraceFault) → IsOneLine u.rest → (u.rest ≡ [] → ⊥) →
    (IsOver u.number (length u.rest) u.left → e ≡ Limit u.number)
    → (u.number ≤ 65536 → length u.rest ≤ u.left → e ≡ BadLine u.number) → IsFaultRead u e
end_faulty u e one some' past bad known bytes ls h =
    let most = h.room in
    first_is_fault known e bytes (h.fault e
    (first_end u.head.partitions u.head.threads u.number (4194304 - u.left) u.rest e one some'
    (λ over. past (in_room u.number u.left (length u.rest) most over)) (λ few short. bad few (omega (arith, most, short)))))
