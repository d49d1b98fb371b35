use Rattle.std.proofs.Common.{◌≡◌, ℕ, ◌<◌, []}
use Rattle.pa_rules.specs.Roots.{journal_at}
use Rattle.pa_rules.specs.Caches.{acts_of}
use Rattle.pa_audit_holders.proofs.books.Page.none_but.Given as goal

abbrev pub invariant-loop-journal : goal.invariant-loop-journal
invariant-loop-journal l = record {
  at : l.at ≡ l._journal-index;
  none : (q : ℕ) → q < l.at → (q ≡ l.partition → ⊥) → acts_of (journal_at l.self.roots) l.self.told.line q ≡ [];
}
