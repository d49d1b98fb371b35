-- The moves of a journal: which op makes each, and that those of one thread are in the order of its lines.
use Rattle.std.proofs.Common.{◌≡◌, ℕ, List, [], ◌∷◌, map, flat_map, Some, sym, ◌∙◌, ap, subst, arith, ◌⊎◌, inl, inr, get_or}
use Rattle.std.specs.Prelude.{Contains, AllPairs}
use Rattle.std.proofs.lemmas.Option.{slice_get-get_or}
use Rattle.std.proofs.lemmas.List.Elements.{Contains-get_or}
use Rattle.std.proofs.lemmas.List.Kept.{AllPairs-filter}
use Rattle.pa_slot.specs.declared.word.SlotName.{SlotName}
use Rattle.pa_trace.specs.declared.script.Op.{Op}
use Rattle.pa_trace.specs.declared.script.Op.TheVariants as ops
use Rattle.pa_record.specs.declared.numbered.Numbered.{Numbered}
use Rattle.pa_record.specs.declared.pool.PoolEntry.{PoolEntry}
use Rattle.pa_record.specs.declared.root.RootEntry.{RootEntry}
use Rattle.pa_record.specs.declared.root.RootAct.{RootAct}
use Rattle.pa_record.specs.declared.root.RootAct.TheVariants.{Fill, Map, Full, Give, Unmap, Purge}
use Rattle.pa_lists.proofs.Members.{not_in_none}
use Rattle.pa_lists.proofs.Joined.{map_cases, filter_cases, flat_cases, pairs_flat}
use Rattle.pa_rules.specs.declared.played.Played.{Played}
use Rattle.pa_rules.specs.Roots.{Journals, MakesEntry, AreRoots}
use Rattle.pa_rules.specs.Order.{IsOfLine, StandsBefore}
use Rattle.pa_rules.specs.Holders.{Way, Out, Back, Move, move_of, moves_by, is_move_of, moves_at}
use Rattle.pa_rules.proofs.Running.{OtherRecord}
use Rattle.pa_rules.proofs.ByLines.{same_record}

-- what takes a slot out is an allocation, and what gives one back is none
abbrev pub DoesWay : Way → Op → Type 0
DoesWay Out op = (reg q size : ℕ) × (op ≡ ops.Alloc reg q size)
DoesWay Back op = (reg q size : ℕ) → op ≡ ops.Alloc reg q size → ⊥

-- a move of an entry: its line is the entry's, and its way is as the op says
record IsMoveOf (line : ℕ) (op : Op) (m : Move) : Type 0 where
  same : m.line ≡ line
  does : DoesWay m.way op

slots_move : (line : ℕ) (op : Op) (way : Way) (ns : List Numbered) (m : Move) → DoesWay way op → Contains (map (move_of line way) ns) m →
    IsMoveOf line op m
slots_move line op way ns m does among =
    let (n, member, is) = map_cases (move_of line way) ns m among in
    record { same = ap (λ (z : Move). z.line) (sym is); does = subst (λ w. DoesWay w op) (ap (λ (z : Move). z.way) is) does }

freeing_back : (op : Op) → ((reg : ℕ) × (op ≡ ops.Free reg)) ⊎ ((reg : ℕ) × (op ≡ ops.Reset reg)) → DoesWay Back op
freeing_back op (inl (r, is)) reg q size e = let other : ◌≡◌ {A = Op} (ops.Free r) (ops.Alloc reg q size) = sym is ∙ e in absurd cc
freeing_back op (inr (r, is)) reg q size e = let other : ◌≡◌ {A = Op} (ops.Reset r) (ops.Alloc reg q size) = sym is ∙ e in absurd cc

purge_back : (op : Op) → op ≡ ops.Purge → DoesWay Back op
purge_back op is reg q size e = let other : ◌≡◌ {A = Op} ops.Purge (ops.Alloc reg q size) = sym is ∙ e in absurd cc

entry_move : (pools : List PoolEntry) (p line : ℕ) (act : RootAct) (x : Played) (m : Move) → MakesEntry pools p act x →
    Contains (moves_by line act) m → IsMoveOf line x.op m
entry_move pools p line (Fill class asked slots) x m (reg, size, is, of) among = slots_move line x.op Out slots m (reg, p, size, is) among
entry_move pools p line (Map asked slot len) x m (size, (reg, is, direct), same) among =
    slots_move line x.op Out (record { slot = slot; number = 0 } ∷ []) m (reg, p, size, is) among
entry_move pools p line (Full class asked) x m makes among = absurd (not_in_none m among)
entry_move pools p line (Give slots) x m (inl freeing) among = slots_move line x.op Back slots m (freeing_back x.op freeing) among
entry_move pools p line (Give slots) x m (inr purge) among = slots_move line x.op Back slots m (purge_back x.op purge) among
entry_move pools p line (Unmap asked slot) x m freeing among = slots_move line x.op Back (slot ∷ []) m (freeing_back x.op freeing) among
entry_move pools p line Purge x m makes among = absurd (not_in_none m among)

-- two moves are in the order of their records
abbrev pub InOrder : List Played → Move → Move → Type 0
InOrder ps m n = (x y : Played) → IsOfLine ps m.line x → IsOfLine ps n.line y → StandsBefore y x → ⊥

abbrev EntriesInOrder : List Played → RootEntry → RootEntry → Type 0
EntriesInOrder ps e f = (x y : Played) → IsOfLine ps e.line x → IsOfLine ps f.line y → StandsBefore y x → ⊥

pairs_any : {A : Type 0} (R : A → A → Type 0) (xs : List A) → ((x y : A) → Contains xs x → Contains xs y → R x y) → AllPairs R xs
pairs_any R xs h i j d less low = h (get_or xs i d) (get_or xs j d) (Contains-get_or xs i d (omega arith)) (Contains-get_or xs j d low)

never_before_itself : (x : Played) → StandsBefore x x → ⊥
never_before_itself x (inl (thread, less)) = omega arith
never_before_itself x (inr less) = omega arith

module _ (partitions : ℕ) (ps : List Played) (pools : List PoolEntry) (roots : Journals) (r : AreRoots partitions ps pools roots)
    (lines : AllPairs OtherRecord ps) where
  -- the op of an entry
  entry_made : (p : ℕ) (e : RootEntry) → Contains (roots p) e → (x : Played) × IsOfLine ps e.line x × MakesEntry pools p e.act x
  entry_made p e (j, few, is) = r.lines p j e (slice_get-get_or (roots p) j e few ∙ ap Some is)

  -- the entry of a move, and its record
  pub move_entry : (p : ℕ) (s : SlotName) (k : ℕ) (m : Move) → Contains (moves_at (roots p) s k) m → (e : RootEntry) ×
      Contains (roots p) e × Contains (moves_by e.line e.act) m
  move_entry p s k m among =
      let (there, hit) = filter_cases (is_move_of s k) (flat_map (λ (e : RootEntry). moves_by e.line e.act) (roots p)) m among in
      flat_cases (λ (e : RootEntry). moves_by e.line e.act) (roots p) m there

  pub move_made : (p : ℕ) (s : SlotName) (k : ℕ) (m : Move) → Contains (moves_at (roots p) s k) m → (x : Played) × IsOfLine ps m.line x ×
      DoesWay m.way x.op
  move_made p s k m among =
      let (e, member, there) = move_entry p s k m among in
      let (x, of, makes) = entry_made p e member in
      let is = entry_move pools p e.line e.act x m makes there in
      (x, (of.0, of.1 ∙ sym is.same), is.does)

  -- a line takes slots out or gives them back
  pub one_way : (p : ℕ) (s : SlotName) (k : ℕ) (m n : Move) → Contains (moves_at (roots p) s k) m → Contains (moves_at (roots p) s k) n →
      m.way ≡ Back → n.way ≡ Out → m.line ≡ n.line → ⊥
  one_way p s k m n among among' back out same =
      let (x, of, does) = move_made p s k m among in
      let (y, of', does') = move_made p s k n among' in
      let one = same_record ps x y lines of.0 of'.0 (of.1 ∙ same ∙ sym of'.1) in
      let (reg, q, size, is) = subst (λ w. DoesWay w y.op) out does' in
      subst (λ w. DoesWay w x.op) back does reg q size (ap (λ (z : Played). z.op) one ∙ is)

  entries_order : (p : ℕ) → AllPairs (EntriesInOrder ps) (roots p)
  entries_order p i j d less low x y of of' before =
      let back = r.order p j i (get_or (roots p) j d) (get_or (roots p) i d) y x (slice_get-get_or (roots p) j d low)
      (slice_get-get_or (roots p) i d (omega arith)) of' of before in
      omega arith

  -- the line of a move that an entry makes
  its_line : (p : ℕ) (e : RootEntry) (m : Move) → Contains (roots p) e → Contains (moves_by e.line e.act) m → m.line ≡ e.line
  its_line p e m member there = let (x, of, makes) = entry_made p e member in (entry_move pools p e.line e.act x m makes there).same

  pub moves_order : (p : ℕ) (s : SlotName) (k : ℕ) → AllPairs (InOrder ps) (moves_at (roots p) s k)
  moves_order p s k =
      AllPairs-filter (InOrder ps) (is_move_of s k) (flat_map (λ (e : RootEntry). moves_by e.line e.act) (roots p))
      (pairs_flat (EntriesInOrder ps) (InOrder ps) (λ (e : RootEntry). moves_by e.line e.act) (roots p) (entries_order p)
      (λ e member. pairs_any (InOrder ps) (moves_by e.line e.act)
      (λ m n there there' x y of of' before.
      let one = same_record ps x y lines of.0 of'.0 (of.1 ∙ its_line p e m member there ∙ sym (its_line p e n member there') ∙ sym of'.1) in
      never_before_itself y (subst (λ z. StandsBefore y z) one before)))
      (λ e f m n member member' order there there' x y of of' before.
      order x y (of.0, of.1 ∙ its_line p e m member there) (of'.0, of'.1 ∙ its_line p f n member' there') before))
