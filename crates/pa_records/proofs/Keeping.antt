-- Words that are the same in the records of a root's spans, and in the first words of their free slots, have the root too.
use Rattle.std.proofs.Common.{◌≡◌, ℕ, ◌+◌, ◌<◌, ◌≤◌, List, arith}
use Rattle.std.specs.Prelude.{slice_index}
use Rattle.pa_slot.proofs.Links.{links_stay}
use Rattle.pa_lists.proofs.Elements.{all_from_members}
use Rattle.pa_slot.specs.Links.{first_word}
use Rattle.pa_records.specs.Words.{record_word}
use Rattle.pa_records.specs.Records.{span_record, names_free, SpansStay}
use Rattle.pa_records.proofs.Words.{FourKept, same_record}

-- if four words are the same, the record in them is kept
kept : (words others : List ℕ) (q : ℕ) → ((i : ℕ) → q ≤ i → i < q + 4 → slice_index others i ≡ slice_index words i) →
    FourKept words others q
kept words others q same = record {
  first = same q (omega arith) (omega arith);
  second = same (q + 1) (omega arith) (omega arith);
  third = same (q + 2) (omega arith) (omega arith);
  fourth = same (q + 3) (omega arith) (omega arith);
}

pub spans_stay : SpansStay
spans_stay words others r keeps has = record {
  records = λ s among. same_record words others (record_word s.place) (span_record r.spans s)
      (kept words others (record_word s.place) (λ i low high. keeps.records s i among low high)) (has.records s among);
  chains = λ s among. links_stay words others (names_free s)
      (all_from_members (λ name. first_word others name ≡ first_word words name) (names_free s)
      (λ name inside. keeps.firsts s name among inside))
      (has.chains s among);
}
