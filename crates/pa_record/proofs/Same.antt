-- Values whose parts are equal are equal.
use Rattle.std.proofs.Common.{◌≡◌, ℕ, refl, sym, ap, ◌∙◌}
use Rattle.pa_slot.specs.declared.word.Word.{Word}
use Rattle.pa_record.specs.declared.entry.Entry.{Entry}
use Rattle.pa_record.specs.declared.entry.Seen.{Seen}
use Rattle.pa_record.specs.declared.numbered.Numbered.{Numbered}
use Rattle.pa_record.specs.declared.root.RootEntry.{RootEntry}
use Rattle.pa_record.specs.declared.pool.PoolEntry.{PoolEntry}
use Rattle.pa_record.specs.declared.history.CellEntry.{CellEntry}
use Rattle.pa_record.specs.declared.report.Tally.{Tally}
use Rattle.pa_record.specs.declared.report.ReportLine.{ReportLine}

-- what is made of equal parts is equal
both : {A B C : Type 0} (f : A → B → C) (a c : A) (b d : B) → a ≡ c → b ≡ d → f a b ≡ f c d
both f a c b d e g = cc

all_three : {A B C D : Type 0} (f : A → B → C → D) (a d : A) (b e : B) (c g : C) → a ≡ d → b ≡ e → c ≡ g → f a b c ≡ f d e g
all_three f a d b e c g h k l = cc

same_word : (u v : Word) → u.0 ≡ v.0 → u ≡ v
same_word u v e = ap {B = Word} (λ (n : ℕ). record { 0 = n }) e

pub same_seen : (s t : Seen) → s.slot ≡ t.slot → s.found.0 ≡ t.found.0 → s ≡ t
same_seen s t e f = both {C = Seen} (λ slot found. record { slot = slot; found = found }) _ _ _ _ e (same_word s.found t.found f)

pub same_entry : (a b : Entry) → a.line ≡ b.line → a.thread ≡ b.thread → a.answer ≡ b.answer → a ≡ b
same_entry a b e f g = all_three {D = Entry}
    (λ line thread answer. record { line = line; thread = thread; answer = answer }) _ _ _ _ _ _ e f g

pub same_numbered : (m n : Numbered) → m.slot ≡ n.slot → m.number ≡ n.number → m ≡ n
same_numbered m n e f = both {C = Numbered} (λ slot number. record { slot = slot; number = number }) _ _ _ _ e f

pub same_root : (a b : RootEntry) → a.line ≡ b.line → a.act ≡ b.act → a ≡ b
same_root a b e f = both {C = RootEntry} (λ line act. record { line = line; act = act }) _ _ _ _ e f

pub same_pool : (a b : PoolEntry) → a.line ≡ b.line → a.partition ≡ b.partition → a.act ≡ b.act → a ≡ b
same_pool a b e f g = all_three {D = PoolEntry}
    (λ line partition act. record { line = line; partition = partition; act = act }) _ _ _ _ _ _ e f g

pub same_cell : (a b : CellEntry) → a.line ≡ b.line → a.gave ≡ b.gave → a.found ≡ b.found → a ≡ b
same_cell a b e f g = all_three {D = CellEntry} (λ line gave found. record { line = line; gave = gave; found = found }) _ _ _ _ _ _ e f g

pub same_tally : (s t : Tally) → s.slots ≡ t.slots → s.bytes ≡ t.bytes → s ≡ t
same_tally s t e f = both {C = Tally} (λ slots bytes. record { slots = slots; bytes = bytes }) _ _ _ _ e f

-- a line of the report, of its parts
line_of : ℕ → ℕ → Tally → Tally → Tally → Tally → ℕ → ℕ → ℕ → ℕ → ℕ → ℕ → ReportLine
line_of phase partition live quarantined cached root committed reserved full active empty decommitted = record {
  phase = phase;
  partition = partition;
  live = live;
  quarantined = quarantined;
  cached = cached;
  root = root;
  committed = committed;
  reserved = reserved;
  full = full;
  active = active;
  empty = empty;
  decommitted = decommitted;
}

line_is : (s : ReportLine) →
    line_of s.phase s.partition s.live s.quarantined s.cached s.root s.committed s.reserved s.full s.active s.empty s.decommitted ≡ s
unfolding line_of
line_is s = refl

pub same_line : (s t : ReportLine) → s.phase ≡ t.phase → s.partition ≡ t.partition → s.live ≡ t.live → s.quarantined ≡ t.quarantined →
    s.cached ≡ t.cached → s.root ≡ t.root
    → s.committed ≡ t.committed → s.reserved ≡ t.reserved → s.full ≡ t.full → s.active ≡ t.active → s.empty ≡ t.empty →
    s.decommitted ≡ t.decommitted → s ≡ t
same_line s t e1 e2 e3 e4 e5 e6 e7 e8 e9 e10 e11 e12 =
    let parts : line_of s.phase s.partition s.live s.quarantined s.cached s.root s.committed s.reserved s.full s.active s.empty
    s.decommitted
    ≡ line_of t.phase t.partition t.live t.quarantined t.cached t.root t.committed t.reserved t.full t.active t.empty t.decommitted = cc in
    sym (line_is s) ∙ parts ∙ line_is t
