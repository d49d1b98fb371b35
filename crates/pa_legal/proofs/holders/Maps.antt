-- A direct map is made once: by the only entry that maps it. So the issue of its slot finds the number 0.
use Rattle.std.proofs.Common.{◌≡◌, ℕ, ◌⊎◌, List, [], ◌∷◌, Option, Some, None, refl, sym, ◌∙◌, ap, subst, arith, inl, inr}
use Rattle.std.specs.Prelude.{Contains, AllPairs, slice_get, option_map}
use Rattle.std.proofs.lemmas.Bool.{cases_eq}
use Rattle.std.proofs.lemmas.Option.{slice_get-get_or}
use Rattle.pa_slot.specs.declared.word.SlotName.{SlotName}
use Rattle.pa_slot.specs.declared.word.Step.TheVariants.{Issue}
use Rattle.pa_slot.specs.Count.{number_of}
use Rattle.pa_slot.specs.Run.{Mark, Slots}
use Rattle.pa_record.specs.declared.entry.Seen.{Seen}
use Rattle.pa_record.specs.declared.entry.Answer.TheVariants.{Made}
use Rattle.pa_record.specs.declared.pool.PoolEntry.{PoolEntry}
use Rattle.pa_record.specs.declared.pool.PoolAct.{PoolAct}
use Rattle.pa_record.specs.declared.root.RootEntry.{RootEntry}
use Rattle.pa_record.specs.declared.root.RootAct.TheVariants.{Map}
use Rattle.pa_record.specs.Root.{Root, new_root, root_next, RootActFits, RootReplays, asked_by}
use Rattle.pa_lists.proofs.Members.{not_in_none, first_in, in_cases, of_some, not_some}
use Rattle.pa_rules.specs.declared.played.Played.{Played}
use Rattle.pa_rules.specs.Played.{mark_of, mark_of_answer, mark_at, marks_of}
use Rattle.pa_rules.specs.Roots.{Journals, AreRoots, IsPoolOf}
use Rattle.pa_rules.specs.Caches.{IsOfClass, IsDirect}
use Rattle.pa_rules.proofs.Running.{OtherRecord, mark_from}
use Rattle.pa_rules.proofs.Phases.{mark_in}
use Rattle.pa_rules.proofs.ByLines.{same_record}
use Rattle.pa_legal.specs.Flows.{IsNewMap, SlotsFlow}
use Rattle.pa_legal.specs.Known.{NewMaps}
use Rattle.pa_legal.proofs.Titling.{class_or_direct}
use Rattle.pa_legal.proofs.Words.{goes_past, only_issue}
use Rattle.pa_legal.proofs.holders.Records.{issue_makes}

-- a map names an entry of the pool that is there, by which its slot is born
map_asked : (pools : List PoolEntry) (es : List RootEntry) (r : Root) (e : RootEntry) (asked len : ℕ) (s : SlotName) →
    RootReplays pools es r → Contains es e → e.act ≡ Map asked s len →
    (s.born ≡ asked) × (f : PoolEntry) × (slice_get pools asked ≡ Some f)
map_asked pools [] r e asked len s fits among is = absurd (not_in_none e among)
map_asked pools (f ∷ es) r e asked len s fits among is = elim (in_cases f e es among) [
  | inl same ↦
      let here : RootActFits pools (Map asked s len) r =
      subst (λ act. RootActFits pools act r) (ap (λ (z : RootEntry). z.act) same ∙ is) fits.0 in
      let (g, at) = there (slice_get pools asked) _ here.1 in (here.3, g, at)
  | inr rest ↦ map_asked pools es (root_next pools f.act r) e asked len s fits.1 rest is
]
  where
    there : (o : Option PoolEntry) (a : PoolAct) → option_map (λ (g : PoolEntry). g.act) o ≡ Some a → (g : PoolEntry) × (o ≡ Some g)
    there None a e = absurd (not_some a e)
    there (Some g) a e = (g, refl)

module _ (supers partitions : ℕ) (ps : List Played) (pools : List PoolEntry) (roots : Journals) (r : AreRoots partitions ps pools roots)
    (h : IsPoolOf supers ps pools roots) (lines : AllPairs OtherRecord ps) (slots : Slots (marks_of ps))
    (flows : SlotsFlow partitions roots ps) where
  -- entries that map one slot are of one line
  one_mapper : (s : SlotName) (p q asked asked' len len' : ℕ) (e f : RootEntry) → Contains (roots p) e → Contains (roots q) f →
      e.act ≡ Map asked s len → f.act ≡ Map asked' s len' → e.line ≡ f.line
  one_mapper s p q asked asked' len len' e f (i, low, at) (k, low', at') is is' =
      let (born, g, there) = map_asked pools (roots p) new_root e asked len s (r.journals p).replays (i, low, at) is in
      let (born', g', there') = map_asked pools (roots q) new_root f asked' len' s (r.journals q).replays (k, low', at') is' in
      let here = slice_get-get_or (roots p) i e low ∙ ap Some at in
      let here' = slice_get-get_or (roots q) k f low' ∙ ap Some at' in
      let (same, place) = h.once asked p q i k g there (e, here, ap asked_by is) (f, here', ap asked_by is' ∙ ap Some (sym born' ∙ born)) in
      let one : e ≡ f = of_some e f (sym here ∙ ap (λ z. slice_get (roots z) i) same ∙ ap (λ z. slice_get (roots q) z) place ∙ here') in
      ap (λ (z : RootEntry). z.line) one

  -- a record that made a direct map has an entry that maps it
  maps_it : (x : Played) (seen : Seen) (usable p : ℕ) → Contains ps x → x.answer ≡ Made seen usable → IsDirect roots seen.slot p →
      (q asked len : ℕ) × (e : RootEntry) × Contains (roots q) e × (e.line ≡ x.line) × (e.act ≡ Map asked seen.slot len)
  maps_it x seen usable p among is direct = let made = flows.made x seen usable among is in by_kind made.partition made.from
    where
      by_kind : (q : ℕ) → ((class : ℕ) × IsOfClass roots seen.slot q class)
          ⊎ ((asked len : ℕ) × (e : RootEntry) × Contains (roots q) e × (e.line ≡ x.line) × (e.act ≡ Map asked seen.slot len)) →
          (q asked len : ℕ) × (e : RootEntry) × Contains (roots q) e × (e.line ≡ x.line) × (e.act ≡ Map asked seen.slot len)
      by_kind q (inl (class, of)) = absurd (class_or_direct supers partitions ps pools roots r h seen.slot q p class of direct)
      by_kind q (inr (asked, len, e, member, line, act)) = (q, asked, len, e, member, line, act)

  -- records that made one direct map are one
  one_maker : (x y : Played) (seen seen' : Seen) (usable usable' p : ℕ) → Contains ps x → Contains ps y → x.answer ≡ Made seen usable →
      y.answer ≡ Made seen' usable' → seen'.slot ≡ seen.slot → IsDirect roots seen.slot p → x ≡ y
  one_maker x y seen seen' usable usable' p among member is is' slot direct =
      let (u, asked, len, e, stands, line, act) = maps_it x seen usable p among is direct in
      let (v, asked', len', f, stands', line', act') =
      maps_it y seen' usable' p member is' (subst (λ z. IsDirect roots z p) (sym slot) direct) in
      let same = one_mapper seen.slot u v asked asked' len len' e f stands stands' act (act' ∙ ap (λ z. Map asked' z len') slot) in
      same_record ps x y lines among member (sym line ∙ same ∙ line')

  pub new_map : (x : Played) → Contains ps x → IsNewMap roots x
  new_map x among seen usable p is direct =
      let ms = marks_of ps in
      let s = seen.slot in
      let (vs, run, one) = slots s in
      let mark : mark_of x ≡ Some (mark_at x.line seen (Some Issue)) = ap (mark_of_answer x.line x.op) is in
      let there = one.found (mark_at x.line seen (Some Issue)) (mark_in ps x _ among mark) refl in
      let zero_number : number_of 0 ≡ 0 = omega arith in
      elim (cases_eq (number_of seen.found.0) 0) [
        | inl e ↦ e
        | inr more ↦
            let (m, q, first, can) = goes_past ms s 0 vs 0 seen.found.0 run (first_in 0 vs) there (omega arith) in
            let issue = only_issue q 0 can (omega arith) (omega arith) in
            let (y, member, marked) = mark_from ps m first.among in
            let made = issue_makes y m (first.step ∙ ap Some issue) marked in
            let slot : made.seen.slot ≡ s = sym made.slot ∙ first.slot in
            let both = one_maker x y seen made.seen usable made.usable p among member is made.answer slot direct in
            let again : mark_at x.line seen (Some Issue) ≡ m = of_some _ m (sym mark ∙ ap mark_of both ∙ marked) in
            let found : seen.found.0 ≡ 0 = ap (λ (z : Mark). z.found) again ∙ first.found in
            let same : number_of seen.found.0 ≡ number_of 0 = ap number_of found in
            omega arith
      ]

pub new_maps : NewMaps
new_maps supers partitions ps pools roots x r h lines slots flows among =
    new_map supers partitions ps pools roots r h lines slots flows x among
