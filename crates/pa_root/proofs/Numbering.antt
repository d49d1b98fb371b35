-- A journal's entries are distinguished by their numbers.
use Rattle.std.proofs.Common.{◌≡◌, ℕ, List, [], ◌∷◌, ◌++◌, Option, Some, None, ◌∙◌, ap}
use Rattle.pa_slot.specs.declared.word.SlotName.{SlotName}
use Rattle.pa_record.specs.declared.numbered.Numbered.{Numbered}
use Rattle.pa_record.specs.declared.root.RootEntry.{RootEntry}
use Rattle.pa_record.specs.declared.root.RootAct.TheVariants.{Fill, Map, Full}
use Rattle.pa_record.specs.Numbers.{option_numbers, root_act_numbers, root_numbers}
use Rattle.pa_record.proofs.OneEntry.{one_act}

same_class : (c d : Option ℕ) (j k : ℕ) → option_numbers c ++ j ∷ [] ≡ option_numbers d ++ k ∷ [] → Full c j ≡ Full d k
same_class None None j k e = let asked : j ≡ k = cc in ap (Full None) asked
same_class None (Some d) j k e = cc
same_class (Some c) None j k e = cc
same_class (Some c) (Some d) j k e =
    let class : c ≡ d = cc in
    let asked : j ≡ k = cc in
    ap (λ x. Full (Some x) j) class ∙ ap (Full (Some d)) asked

same_map : (i j : ℕ) (s t : SlotName) (m n : ℕ) → i ≡ j → s.start ≡ t.start → s.born ≡ t.born → m ≡ n → Map i s m ≡ Map j t n
same_map i j s t m n a b c d =
    ap (λ k. Map k s m) a
    ∙ ap (λ k. Map j (let x : SlotName = record { start = k; born = s.born } in x) m) b
    ∙ ap (λ k. Map j (let x : SlotName = record { start = t.start; born = k } in x) m) c
    ∙ ap (Map j t) d

-- an entry with the numbers of a fill is that fill
pub fill_by_numbers : (f : RootEntry) (line class : ℕ) (asked : Option ℕ) (slots : List Numbered) →
    root_numbers f ≡ line ∷ root_act_numbers (Fill class asked slots) → f.act ≡ Fill class asked slots
fill_by_numbers f line class asked slots e = let acts : root_act_numbers f.act ≡ root_act_numbers (Fill class asked slots) = cc in
    one_act f.act (Fill class asked slots) acts
