-- Gives of 16 slots each: batch after batch, and what each is.
use Rattle.std.proofs.Common.{◌≡◌, ℕ, List, [], ◌∷◌, length, map, refl, ap, subst, inl, inr}
use Rattle.std.specs.Prelude.{Contains}
use Rattle.pa_record.specs.declared.numbered.Numbered.{Numbered}
use Rattle.pa_record.specs.declared.root.RootAct.{RootAct}
use Rattle.pa_record.specs.declared.root.RootAct.TheVariants.{Give}
use Rattle.pa_record.specs.declared.root.RootEntry.{RootEntry}
use Rattle.pa_lists.proofs.Members.{in_cases, not_in_none, first_in, later_in}
use Rattle.pa_rules.specs.Caches.{gives}
use Rattle.pa_root.specs.Handing.{root_entry}
use Rattle.pa_op_specs.proofs.Entered.{acts_in}
use Rattle.pa_legal.proofs.holders.Records.{in_batches}

pub in_gives : (xs : List Numbered) (act : RootAct) → Contains (gives xs) act → (slots : List Numbered) × (act ≡ Give slots)
in_gives xs act among = in_batches (length xs) xs act among

-- the acts of entries that were made of acts are those
pub acts_back : (line : ℕ) (acts : List RootAct) → acts_in (map (root_entry line) acts) ≡ acts
acts_back line [] = refl
acts_back line (act ∷ acts) = ap (λ bs. act ∷ bs) (acts_back line acts)

pub act_among : (line : ℕ) (acts : List RootAct) (e : RootEntry) → Contains (map (root_entry line) acts) e → Contains acts e.act
act_among line [] e among = absurd (not_in_none e among)
act_among line (a ∷ acts) e among = elim (in_cases (root_entry line a) e (map (root_entry line) acts) among) [
  | inl same ↦ subst (λ (f : RootEntry). Contains (a ∷ acts) f.act) same (first_in a acts)
  | inr later ↦ later_in a e.act acts (act_among line acts e later)
]
