-- A root stays sound while its seat sees more, and with entries that move nothing.
use Rattle.std.proofs.lemmas.List.{append-nil}
use Rattle.std.proofs.Common.{◌≡◌, ℕ, ◌+◌, ◌<◌, List, [], ◌∷◌, ◌++◌, filter, Some, refl, sym, ◌∙◌, ap, subst, arith, inl, inr}
use Rattle.std.specs.Prelude.{Contains}
use Rattle.pa_slot.specs.declared.title.Title.{Title}
use Rattle.pa_slot.specs.declared.word.SlotName.{SlotName}
use Rattle.pa_slot.specs.Holdings.{FreeTitle, OwnOf, RefOf}
use Rattle.pa_region.specs.declared.view.View.{View}
use Rattle.pa_region.specs.Views.{free_of, own_of, ref_of, low_of, seen_of}
use Rattle.pa_region.specs.Lending.{Keeps}
use Rattle.pa_region.specs.Aware.{IsAware}
use Rattle.pa_region.proofs.Pieces.{frees_have, owns_have, refs_have}
use Rattle.pa_region.proofs.LendBack.{kept_number}
use Rattle.pa_record.specs.declared.root.RootEntry.{RootEntry}
use Rattle.pa_record.specs.Spans.{name_of}
use Rattle.pa_record.specs.Root.{Root, root_next}
use Rattle.pa_record.specs.Sound.{IsSound, IsMade}
use Rattle.pa_record.proofs.Lawful.{journal_leaves}
use Rattle.pa_rules.specs.Holders.{moves_by}
use Rattle.pa_legal.specs.Numbers.{is_of, moves_of, at_end, IsNumbered}
use Rattle.pa_legal.proofs.Growing.{numbers_grow}
use Rattle.pa_root.specs.Reading.{pools_seen}
use Rattle.pa_root.specs.Keeping.{RootState, HasJournal, HoldsMade, KnowsNumbers, HasRest, KeepsLeases, IsRootSound, IsInRest}
use Rattle.pa_root.specs.Laws.{SeeingMoreKeeps, with_view, HasSameSlots, IdleEntriesKeep}
use Rattle.pa_root.proofs.Lists.{hosts_kept, journal_stays, journal_goes_on}
use Rattle.pa_root.proofs.MapsKept.{maps_leave, maps_stay}
use Rattle.pa_root.proofs.Whole.{made_is_whole}

-- a view that keeps what it has holds the same titles
pub free_kept : (v x : View) (t : Title) → Keeps v x → free_of x t ≡ free_of v t
free_kept v x t keeps = sym (frees_have x t) ∙ keeps.things (FreeTitle t) ∙ frees_have v t

pub handles_kept : (v x : View) (t : Title) → Keeps v x → own_of x t + ref_of x t ≡ own_of v t + ref_of v t
handles_kept v x t keeps =
    let own : own_of x t ≡ own_of v t = sym (owns_have x t) ∙ keeps.things (OwnOf t) ∙ owns_have v t in
    let ref' : ref_of x t ≡ ref_of v t = sym (refs_have x t) ∙ keeps.things (RefOf t) ∙ refs_have v t in
    omega arith

-- a journal's root is sound
pub root_sound : (p : ℕ) (s : RootState) → HasJournal p s → IsSound s.root
root_sound p s has = subst (λ r. IsSound r) (sym has.replayed) (journal_leaves (pools_seen s.view) s.journal has.fits).sound

-- ---- parts that stay when the root has the same slots

pub titles_stay : (s : RootState) (x : View) (journal : List RootEntry) (after : Root) → Keeps s.view x → HasSameSlots s.root after →
    HoldsMade s →
    HoldsMade (record { view = x; journal = journal; root = after })
titles_stay s x journal after keeps same holds = record {
  has = λ t made. elim (holds.has t ((same.made t).0 made)) [
    | inl free ↦ inl (subst (λ n. 0 < n) (sym (free_kept s.view x t keeps)) free)
    | inr out ↦ inr ((same.out (name_of t)).1 out)
  ];
  made = λ t free. (same.made t).1 (holds.made t (subst (λ n. 0 < n) (free_kept s.view x t keeps) free));
  with_root = λ t free out.
      holds.with_root t (subst (λ n. 0 < n) (free_kept s.view x t keeps) free) ((same.out (name_of t)).0 out);
  unused = λ t. handles_kept s.view x t keeps ∙ holds.unused t;
  budget = keeps.budget ∙ holds.budget;
}

-- what is in the rest of a root was in it, if nothing that was made went
pub rest_before : (r after : Root) (j b : ℕ) → ((t : Title) → IsMade r t → IsMade after t) → after.supers ≡ r.supers → after.maps ≡ r.maps →
    IsInRest after j b → IsInRest r j b
rest_before r after j b keeps supers maps (inl (at, among, born, inside, away)) =
    inl (at, subst (λ ss. Contains ss at) supers among, born, inside, λ (t, made, same, covers). away (t, keeps t made, same, covers))
rest_before r after j b keeps supers maps (inr (t, first, among, born, start, inside, away)) =
    inr (t, first, subst (λ ts. Contains ts t) maps among, born, start, inside, away)

pub rest_kept : (s : RootState) (x : View) (journal : List RootEntry) (after : Root) →
    ((b n : ℕ) → 0 < low_of s.view b n → 0 < low_of x b n) →
    ((t : Title) → IsMade s.root t → IsMade after t) → after.supers ≡ s.root.supers → after.maps ≡ s.root.maps → HasRest s →
    HasRest (record { view = x; journal = journal; root = after })
rest_kept s x journal after low keeps supers maps rest = record {
  raw = λ j b inside. low b j (rest.raw j b (rest_before s.root after j b keeps supers maps inside));
  one = λ j k b inside other.
      rest.one j k b (rest_before s.root after j b keeps supers maps inside) (rest_before s.root after k b keeps supers maps other);
}

pub rest_stays : (s : RootState) (x : View) (journal : List RootEntry) (after : Root) → Keeps s.view x → HasSameSlots s.root after →
    HasRest s →
    HasRest (record { view = x; journal = journal; root = after })
rest_stays s x journal after keeps same rest =
    rest_kept s x journal after (λ b n some. subst (λ k. 0 < k) (sym (keeps.floors b n)) some)
    (λ t made. (same.made t).1 made) same.supers same.maps rest

pub leases_stay : (s : RootState) (x : View) (journal : List RootEntry) (after : Root) → Keeps s.view x → HasSameSlots s.root after →
    KeepsLeases s →
    KeepsLeases (record { view = x; journal = journal; root = after })
leases_stay s x journal after keeps same leases = record {
  supers = λ at among. subst (λ n. 0 < n) (sym (keeps.leases at.born)) (leases.supers at (subst (λ ss. Contains ss at) same.supers among));
  maps = λ t among. subst (λ n. 0 < n) (sym (keeps.leases t.born)) (leases.maps t (subst (λ ts. Contains ts t) same.maps among));
}

-- of a title that it holds free the seat has seen the same number
pub number_stays : (p : ℕ) (s : RootState) (x : View) (t : Title) → IsRootSound p s → IsAware s.view → IsAware x → Keeps s.view x →
    0 < free_of s.view t →
    seen_of x t ≡ seen_of s.view t
number_stays p s x t sound aware now keeps free =
    kept_number s.view x (t.start + t.len) t aware now keeps
    (made_is_whole s.root t (root_sound p s sound.journal) (sound.titles.made t free)) free

numbers_stay : (p : ℕ) (s : RootState) (x : View) → IsRootSound p s → IsAware s.view → IsAware x → Keeps s.view x →
    KnowsNumbers (with_view x s)
numbers_stay p s x sound aware now keeps = record {
  numbered = sound.numbers.numbered;
  known = λ t free.
      let before : 0 < free_of s.view t = subst (λ n. 0 < n) (free_kept s.view x t keeps) free in
      sound.numbers.known t before ∙ ap Some (sym (number_stays p s x t sound aware now keeps before));
}

same_slots : (r : Root) → HasSameSlots r r
same_slots r = record { made = λ t. ((λ h. h), (λ h. h)); out = λ name. ((λ h. h), (λ h. h)); supers = refl; maps = refl }

-- ---- the laws

pub seeing_more_keeps : SeeingMoreKeeps
seeing_more_keeps p s x sound aware now keeps list = record {
  journal = journal_stays p s x sound.journal (hosts_kept p s.view x keeps sound.journal.hosts) (keeps.lists 4) list;
  titles = titles_stay s x s.journal s.root keeps (same_slots s.root) sound.titles;
  numbers = numbers_stay p s x sound aware now keeps;
  rest = rest_stays s x s.journal s.root keeps (same_slots s.root) sound.rest;
  leases = leases_stay s x s.journal s.root keeps (same_slots s.root) sound.leases;
  maps = maps_stay p s x sound.maps (record { undone = keeps.undone; pool = keeps.lists 4 });
}

-- an entry that moves nothing leaves each slot's moves
pub no_moves : (journal : List RootEntry) (e : RootEntry) (name : SlotName) → moves_by e.line e.act ≡ [] →
    moves_of (journal ++ e ∷ []) name ≡ moves_of journal name
no_moves journal e name none =
    numbers_grow.moves journal (e ∷ []) name ∙ ap (λ ms. moves_of journal name ++ filter (is_of name) (ms ++ [])) none
    ∙ append-nil (moves_of journal name)

pub idle_entries_keep : IdleEntriesKeep
idle_entries_keep p s x e sound aware now keeps more next none same =
    let after = root_next (pools_seen x) e.act s.root in
    let journal = s.journal ++ e ∷ [] in
    let n = numbers_stay p s x sound aware now keeps in
    record {
      journal = journal_goes_on p s x e sound.journal (hosts_kept p s.view x keeps sound.journal.hosts) (keeps.lists 4) more next;
      titles = titles_stay s x journal after keeps same sound.titles;
      numbers = record {
        numbered = λ name. subst (λ ms. IsNumbered (Some 0) ms) (sym (no_moves s.journal e name none)) (n.numbered name);
        known = λ t free. ap (at_end (Some 0)) (no_moves s.journal e (name_of t) none) ∙ n.known t free;
      };
      rest = rest_stays s x journal after keeps same sound.rest;
      leases = leases_stay s x journal after keeps same sound.leases;
      maps = maps_leave p s x e after sound.maps (record { undone = keeps.undone; pool = keeps.lists 4 }) same.maps
          (λ asked len slot is. let no = ap (λ a. moves_by e.line a) (sym is) ∙ none in absurd (cc));
    }
