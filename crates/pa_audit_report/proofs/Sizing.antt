-- A slot that the journals handed out has its partition and bytes in the table of the homes, and another none.
use Rattle.std.proofs.Common.{◌≡◌, ℕ, ◌<◌, ◌≤◌, [], Option, Some, None, refl, sym, ◌∙◌, ap, subst, inl, inr}
use Rattle.std.specs.Prelude.{Contains, IsSome}
use Rattle.std.proofs.lemmas.Bool.{cases_lt, false≢true, lt-ltb, le-ltb}
use Rattle.std.proofs.lemmas.Option.{slice_get-get_or}
use Rattle.pa_slot.specs.declared.word.SlotName.{SlotName}
use Rattle.pa_record.specs.declared.root.RootAct.{RootAct}
use Rattle.pa_record.specs.declared.root.RootEntry.{RootEntry}
use Rattle.pa_record.specs.Laws.{leaves_by}
use Rattle.pa_lists.proofs.Members.{not_some, first_in}
use Rattle.pa_rules.specs.Roots.{Journals}
use Rattle.pa_rules.specs.Report.{HasSize}
use Rattle.pa_audit_records.specs.Keys.{name_key}
use Rattle.pa_audit_holders.specs.declared.homes.Home.{Home}
use Rattle.pa_audit_holders.specs.Homes.{KnowsHomes, home_at}
use Rattle.pa_audit_holders.proofs.Housing.{home_found}

found_there : (f : ℕ → Option Home) (s : SlotName) (o : Option Home) → s.start < 4294967296 → o ≡ f (name_key s) → o ≡ home_at f s
found_there f s o low e = rw (lt-ltb s.start 4294967296 low) e

none_high : (f : ℕ → Option Home) (s : SlotName) → 4294967296 ≤ s.start → None ≡ home_at f s
none_high f s high = rw (le-ltb s.start 4294967296 high) refl

pub sized_there : (roots : Journals) (f : ℕ → Option Home) (s : SlotName) (h : Home) → KnowsHomes roots f → home_at f s ≡ Some h →
    HasSize roots h.partition s h.bytes
sized_there roots f s h knows at = elim (cases_lt s.start 4294967296) [
  | inl low ↦ (home_found roots f s h low knows (found_there f s (f (name_key s)) low refl ∙ at)).size
  | inr high ↦ absurd (not_some h (none_high f s high ∙ at))
]

some_is : (o : Option Home) → IsSome o → (h : Home) × (o ≡ Some h)
some_is None some = absurd (false≢true some)
some_is (Some h) some = (h, refl)

left_sized : (roots : Journals) (f : ℕ → Option Home) (p : ℕ) (s : SlotName) (e : RootEntry) → KnowsHomes roots f → Contains (roots p) e
    → Contains (leaves_by e.act) s → (h : Home) × (home_at f s ≡ Some h)
left_sized roots f p s e knows (i, below, is) leaves =
    let (some, low) = knows.all p i e (slice_get-get_or (roots p) i e below ∙ ap Some is) s leaves in
    let (h, at) = some_is (f (name_key s)) some in
    (h, sym (found_there f s (f (name_key s)) low refl) ∙ at)

pub size_known : (roots : Journals) (f : ℕ → Option Home) (p : ℕ) (s : SlotName) (len : ℕ) → KnowsHomes roots f → HasSize roots p s len →
    (h : Home) × (home_at f s ≡ Some h)
size_known roots f p s len knows (inl (class, (e, asked, slots, among, act, member), is)) =
    left_sized roots f p s e knows among (subst (λ (a : RootAct). Contains (leaves_by a) s) (sym act) member)
size_known roots f p s len knows (inr (e, asked, among, act)) =
    left_sized roots f p s e knows among (subst (λ (a : RootAct). Contains (leaves_by a) s) (sym act) (first_in s []))
