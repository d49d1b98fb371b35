-- The entries of a line that give slots back, batch by batch.
use Rattle.std.proofs.Common.{◌≡◌, ℕ, ◌+◌, ◌-◌, ◌<◌, ◌≤◌, min, List, [], ◌∷◌, ◌++◌, drop, take, get_or, length, map, Some, None, sym, ◌∙◌, ap, arith, inl, inr}
use Rattle.std.specs.Prelude.{All}
use Rattle.std.proofs.Math.ListN.{drop_of_length-le}
use Rattle.std.proofs.Math.Seq.{take_all}
use Rattle.std.proofs.lemmas.Bool.{cases_lt}
use Rattle.std.proofs.lemmas.List.{append-nil, drop_more, length-drop, drop-drop, get_or-map, get_or_default}
use Rattle.pa_record.specs.declared.numbered.Numbered.{Numbered}
use Rattle.pa_record.specs.declared.root.RootEntry.{RootEntry}
use Rattle.pa_record.specs.declared.root.RootAct.{RootAct}
use Rattle.pa_record.specs.declared.root.RootAct.TheVariants.{Give, Purge}
use Rattle.pa_rules.specs.Caches.{gives}
use Rattle.pa_audit_holders.specs.Lines.{did_at, no_entry}
use Rattle.pa_audit_holders.specs.Gives.{TellsGives}
use Rattle.pa_rules.proofs.Batches.{gives_more}

drop_past : {X : Type 0} (xs : List X) (k : ℕ) → length xs ≤ k → drop k xs ≡ []
drop_past xs k past = drop_of_length-le xs past

-- ---- batches

pub gives_none : (xs : List Numbered) (k : ℕ) → length xs ≤ k → gives (drop k xs) ≡ []
gives_none xs k past = ap gives (drop_of_length-le xs past)

-- the next batch of a list, and what is left after it
pub batch_at : (xs : List Numbered) (from to : ℕ) → from < length xs → to ≡ min (length xs) (from + 16) →
    gives (drop from xs) ≡ Give (take (to - from) (drop from xs)) ∷ gives (drop to xs)
batch_at xs from to below is =
    let long = length-drop from xs in
    gives_more (drop from xs) (omega arith) ∙ elim (cases_lt (length xs) (from + 16)) [
      | inl short ↦
          let first : take 16 (drop from xs) ≡ take (to - from) (drop from xs) =
          take_all 16 (drop from xs) (omega arith) ∙ sym (take_all (to - from) (drop from xs) (omega arith)) in
          let rest : gives (drop 16 (drop from xs)) ≡ gives (drop to xs) =
          ap gives (drop_past (drop from xs) 16 (omega arith) ∙ sym (drop_past xs to (omega arith))) in
          ap (λ z. Give z ∷ gives (drop 16 (drop from xs))) first ∙ ap (λ z. Give (take (to - from) (drop from xs)) ∷ z) rest
      | inr long' ↦
          let count : 16 ≡ to - from = omega arith in
          let place : from + 16 ≡ to = omega arith in
          ap (λ z. Give (take z (drop from xs)) ∷ gives (drop 16 (drop from xs))) count
          ∙ ap (λ z. Give (take (to - from) (drop from xs)) ∷ gives z) (drop-drop 16 from xs ∙ ap (λ z. drop z xs) place)
    ]

-- ---- one batch after the other

-- From the place `at` on the entries give all slots back exactly when from `next` on they give back those from `from` on.
pub record IsStripped (acts : List RootAct) (at : ℕ) (xs : List Numbered) (from next : ℕ) : Type 0 where
  pub within : next ≤ length acts
  pub onto : (rest : List RootAct) → drop at acts ≡ gives xs ++ rest → drop next acts ≡ gives (drop from xs) ++ rest
  pub back : (rest : List RootAct) → drop next acts ≡ gives (drop from xs) ++ rest → drop at acts ≡ gives xs ++ rest

pub strip_start : (acts : List RootAct) (at : ℕ) (xs : List Numbered) → at ≤ length acts → IsStripped acts at xs 0 at
strip_start acts at xs within = record { within = within; onto = λ rest e. e; back = λ rest e. e }

pub strip_end : (acts : List RootAct) (at : ℕ) (xs : List Numbered) (from next : ℕ) → IsStripped acts at xs from next → length xs ≤ from →
    TellsGives acts at xs (Some next)
strip_end acts at xs from next h past = (h.back (drop next acts) (sym (ap (λ z. z ++ drop next acts) (gives_none xs from past))), h.within)

strip_cons : (acts : List RootAct) (at : ℕ) (xs : List Numbered) (from to next : ℕ) (rest : List RootAct) →
    IsStripped acts at xs from next → from < length xs → to ≡ min (length xs) (from + 16)
    → drop at acts ≡ gives xs ++ rest → drop next acts ≡ Give (take (to - from) (drop from xs)) ∷ gives (drop to xs) ++ rest
strip_cons acts at xs from to next rest h below is e = h.onto rest e ∙ ap (λ z. z ++ rest) (batch_at xs from to below is)

pub strip_short : (acts : List RootAct) (at : ℕ) (xs : List Numbered) (from to next : ℕ) → IsStripped acts at xs from next →
    from < length xs → to ≡ min (length xs) (from + 16) → length acts ≤ next
    → TellsGives acts at xs None
strip_short acts at xs from to next h below is past rest e =
    let one = strip_cons acts at xs from to next rest h below is e in
    let none : drop next acts ≡ [] = drop_past acts next past in
    cc

pub strip_other : (acts : List RootAct) (at : ℕ) (xs : List Numbered) (from to next : ℕ) (act : RootAct) → IsStripped acts at xs from next
    → from < length xs → to ≡ min (length xs) (from + 16) → next < length acts
    → get_or acts next Purge ≡ act → (act ≡ Give (take (to - from) (drop from xs)) → ⊥) → TellsGives acts at xs None
strip_other acts at xs from to next act h below is within here other rest e =
    let one = strip_cons acts at xs from to next rest h below is e in
    let two : drop next acts ≡ get_or acts next Purge ∷ drop (next + 1) acts = drop_more acts next Purge within in
    let same : ◌≡◌ {A = List RootAct} (get_or acts next Purge ∷ drop (next + 1) acts)
    (Give (take (to - from) (drop from xs)) ∷ gives (drop to xs) ++ rest) = sym two ∙ one in
    other (sym here ∙ cc same)

pub strip_more : (acts : List RootAct) (at : ℕ) (xs : List Numbered) (from to next : ℕ) (act : RootAct) → IsStripped acts at xs from next
    → from < length xs → to ≡ min (length xs) (from + 16) → next < length acts
    → get_or acts next Purge ≡ act → act ≡ Give (take (to - from) (drop from xs)) → IsStripped acts at xs to (next + 1)
strip_more acts at xs from to next act h below is within here same =
    let first = Give (take (to - from) (drop from xs)) in
    let two : drop next acts ≡ first ∷ drop (next + 1) acts =
    drop_more acts next Purge within ∙ ap (λ z. z ∷ drop (next + 1) acts) (here ∙ same) in
    record {
      within = omega arith;
      onto = λ rest e.
          let both : ◌≡◌ {A = List RootAct} (first ∷ drop (next + 1) acts) (first ∷ gives (drop to xs) ++ rest) =
          sym two ∙ strip_cons acts at xs from to next rest h below is e in
          cc both;
      back = λ rest e. h.back rest (two ∙ ap (λ z. first ∷ z) e ∙ sym (ap (λ z. z ++ rest) (batch_at xs from to below is)));
    }

-- ---- the last entry

pub last_is : (acts : List RootAct) (at : ℕ) (act : RootAct) → at + 1 ≡ length acts → get_or acts at Purge ≡ act → drop at acts ≡ act ∷ []
last_is acts at act last here =
    drop_more acts at Purge (omega (arith, last)) ∙ ap (λ z. z ∷ drop (at + 1) acts) here ∙
    ap (λ z. act ∷ z) (drop_past acts (at + 1) (omega (arith, last)))

pub last_was : (acts : List RootAct) (at : ℕ) (act : RootAct) → drop at acts ≡ act ∷ [] →
    (at + 1 ≡ length acts) × (get_or acts at Purge ≡ act)
last_was acts at act is =
    let long = length-drop at acts in
    let one : length (drop at acts) ≡ 1 = ap length is in
    let last : at + 1 ≡ length acts = omega (arith, long, one) in
    let two : ◌≡◌ {A = List RootAct} (get_or acts at Purge ∷ drop (at + 1) acts) (act ∷ []) =
    sym (drop_more acts at Purge (omega (arith, last))) ∙ is in
    (last, cc two)

-- ---- an entry in one of the places

-- what the entry did that a look at the journal found
pub act_found : (journal : List RootEntry) (places : List ℕ) (next : ℕ) (e : RootEntry) →
    All (λ j. j < length journal) places → next < length places
    → get_or (map (did_at journal) places) next Purge ≡ (get_or journal (get_or places next 0) e).act
act_found journal places next e among within =
    get_or-map (did_at journal) places next 0 Purge within ∙
    ap (λ (z : RootEntry). z.act) (get_or_default journal (get_or places next 0) no_entry e (among next 0 within))

-- ---- no other entries

pub gave_not : (acts : List RootAct) (xs : List Numbered) → TellsGives acts 0 xs None → acts ≡ gives xs → ⊥
gave_not acts xs none is = none [] (is ∙ sym (append-nil (gives xs)))
