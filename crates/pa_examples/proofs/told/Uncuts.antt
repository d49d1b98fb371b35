-- The titles that a log segment says were uncut, and that each goes back by an entry of its record.
use Rattle.std.proofs.Common.{◌≡◌, List, [], ◌∷◌, inl, inr, sym, subst}
use Rattle.std.specs.Prelude.{Contains}
use Rattle.std.specs.List.{AllByRecursion as Each}
use Rattle.pa_slot.specs.declared.title.Title.{Title}
use Rattle.pa_lists.proofs.Members.{first_in, later_in, not_in_none, in_cases}
use Rattle.pa_region.specs.declared.view.Entry.{Entry}
use Rattle.pa_region.specs.declared.view.Entry.TheVariants.{Counted, Looked, Read, Added, Entered, Uncut}
use Rattle.pa_examples.proofs.worked.Lists.{each}
use Rattle.pa_logs.specs.Told.{ToldRecord}
use Rattle.pa_logs.specs.Standing.{Unmaps, OnlyUnmapsUncut}
use Rattle.pa_logs.proofs.Filters.{only_one}

-- the titles that an entry says were uncut, before others
abbrev with_uncut : Entry → List Title → List Title
with_uncut (Counted t step found value) ts = ts
with_uncut (Looked t found) ts = ts
with_uncut (Read t place value since owned unclean) ts = ts
with_uncut (Added word bytes) ts = ts
with_uncut (Entered keeper made) ts = ts
with_uncut (Uncut t) ts = t ∷ ts

abbrev pub uncuts_in : List Entry → List Title
uncuts_in [] = []
uncuts_in (e ∷ es) = with_uncut e (uncuts_in es)

behind : (e : Entry) (t : Title) (ts : List Title) → Contains ts t → Contains (with_uncut e ts) t
behind (Counted u step found value) t ts among = among
behind (Looked u found) t ts among = among
behind (Read u place value since owned unclean) t ts among = among
behind (Added word bytes) t ts among = among
behind (Entered keeper made) t ts among = among
behind (Uncut u) t ts among = later_in u t ts among

uncut_in : (es : List Entry) (t : Title) → Contains es (Uncut t) → Contains (uncuts_in es) t
uncut_in [] t among = absurd (not_in_none (Uncut t) among)
uncut_in (e ∷ es) t among = elim (in_cases e (Uncut t) es among) [
  | inl is ↦ subst (λ f. Contains (with_uncut f (uncuts_in es)) t) (sym is) (first_in t (uncuts_in es))
  | inr later ↦ behind e t (uncuts_in es) (uncut_in es t later)
]

-- what a record says of each
pub record AllUnmap (x : ToldRecord) : Type 0 where
  pub unmaps_it : (t : Title) → Contains (uncuts_in x.stretch) t → Unmaps x t

pub unmaps_none : (x : ToldRecord) → uncuts_in x.stretch ≡ [] → AllUnmap x
unmaps_none x none = record { unmaps_it = λ t among. absurd (not_in_none t (subst (λ ts. Contains ts t) none among)) }

pub unmaps_one : (x : ToldRecord) (u : Title) → uncuts_in x.stretch ≡ u ∷ [] → Unmaps x u → AllUnmap x
unmaps_one x u one is = record { unmaps_it = λ t among. subst (Unmaps x) (only_one u t (subst (λ ts. Contains ts t) one among)) is }

pub only_unmaps : (ts : List ToldRecord) → Each AllUnmap ts → OnlyUnmapsUncut ts
only_unmaps ts all x t among cut = (each AllUnmap ts all x among).unmaps_it t (uncut_in x.stretch t cut)
