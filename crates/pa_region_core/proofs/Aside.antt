-- A run of a core is one of the core with one actor more, which holds nothing all along.
use Rattle.std.proofs.Common.{◌≡◌, ℕ, zero, suc, ◌+◌, ◌<◌, ◌≤◌, Bool, false, List, [], ◌∷◌, ◌++◌, length, map, get_or, refl, sym, ◌∙◌, ap, subst, arith, ◌⊎◌, inl, inr}
use Rattle.std.proofs.lemmas.Bool.{cases_lt}
use Rattle.std.proofs.lemmas.List.{length-append}
use Rattle.pa_slot.specs.declared.title.Title.{Title}
use Rattle.pa_slot.specs.declared.title.OwnState.{OwnState}
use Rattle.pa_slot.specs.declared.title.OwnState.TheVariants.{Clean, Dirty, Poisoned}
use Rattle.pa_slot.specs.declared.word.Step.{Step}
use Rattle.pa_slot.specs.declared.word.Step.TheVariants.{Issue, Copy, Reset, Free as FreeStep, Write}
use Rattle.pa_machine.specs.declared.event.Item.{Item}
use Rattle.pa_machine.specs.declared.event.Item.TheVariants.{Raw, Free, Own, Ref}
use Rattle.pa_machine.specs.declared.event.Event.{Event}
use Rattle.pa_machine.specs.declared.event.Event.TheVariants.{Count, Sealed, Store, Poison, Load, Hand, Cut, Uncut}
use Rattle.pa_slot.specs.Count.{refs_of}
use Rattle.pa_slot.specs.Titles.{Covers, content_count, count_word, IsContentOf, HasContentFrom, IsUniform, progress}
use Rattle.pa_slot.specs.Holdings.{Piece, Thing, RawByte, FreeTitle, OwnAs, SealedOwn, RefOf, one, held_in}
use Rattle.pa_machine.specs.Events.{State, HasActor, CanCount, HoldsItem, IsItemSealed, IsEnabled, Happens, Counts, IsAfter, Exchanges, of_actor}
use Rattle.pa_machine.specs.Trail.{Played, end_of, IsGoodState, Lasts}
use Rattle.pa_machine.proofs.Totals.{of_actor_apart}
use Rattle.pa_machine.proofs.Lasting.{lasts}
use Rattle.pa_region_core.specs.Handed.{with_actor, ActorStaysAside}
use Rattle.pa_region_core.proofs.Actors.{same_at, good_with, content_without}

-- what is true of an actor's pieces
aside : (s : State) (actor : ℕ) (P : List Piece → Type 0) → P (get_or s.holdings actor []) → P (get_or (s.holdings ++ [] ∷ []) actor [])
aside s actor P h = subst P (sym (same_at s.holdings actor)) h

long_with : (hs : List (List Piece)) → length (hs ++ [] ∷ []) ≡ suc (length hs)
long_with hs = let e = length-append hs ([] ∷ []) in omega arith

has_with : (s : State) (actor : ℕ) → HasActor s actor → HasActor (with_actor s) actor
has_with s actor has = let e = long_with s.holdings in omega arith

-- what words and pieces say of a word at an offset
abbrev RawAt : ℕ → List Piece → Type 0
RawAt at ps = (b : ℕ) → at ≤ b → b < at + 8 → 0 < held_in ps (RawByte b)

abbrev FreeAt : ℕ → List Piece → Type 0
FreeAt at ps = (t : Title) × (0 < held_in ps (FreeTitle t)) × IsContentOf t at

abbrev OpenOf : Title → OwnState → List Piece → Type 0
OpenOf t state ps = ((state ≡ Clean) ⊎ (state ≡ Dirty)) × (0 < held_in ps (OwnAs t state))

abbrev SealedAs : Title → Bool → List Piece → Type 0
SealedAs t sealed ps = held_in ps (SealedOwn t) ≡ one sealed

abbrev OwnAt : List ℕ → ℕ → Title → OwnState → List Piece → Type 0
OwnAt words at t state ps = OpenOf t state ps × IsContentOf t at × (refs_of (count_word words t) ≡ 0)

abbrev TitleAt : ℕ → List Piece → Type 0
TitleAt at ps =
    (t : Title) × Covers t at ×
    ((0 < held_in ps (FreeTitle t)) ⊎ (((state : OwnState) × (0 < held_in ps (OwnAs t state))) ⊎ (0 < held_in ps (RefOf t))))

-- the conditions
count_with : (step : Step) (s : State) (actor : ℕ) (t : Title) → CanCount step s actor t → CanCount step (with_actor s) actor t
count_with Issue s actor t h = aside s actor (λ ps. (0 < held_in ps (FreeTitle t)) × HasContentFrom s.words t 0 0) h
count_with Copy s actor t h =
    aside s actor (λ ps. ((0 < held_in ps (OwnAs t Clean)) × SealedAs t false ps) ⊎ (0 < held_in ps (RefOf t))) h
count_with Reset s actor t h = aside s actor (λ ps. 0 < held_in ps (RefOf t)) h
count_with FreeStep s actor t h = aside s actor (λ ps. 0 < held_in ps (OwnAs t (Poisoned (content_count t)))) h
count_with Write s actor t h =
    aside s actor (λ ps. ((state : OwnState) × OpenOf t state ps) × (refs_of (count_word s.words t) ≡ 0) × IsUniform s.words t) h

item_with : (x : Item) (s : State) (actor : ℕ) → HoldsItem s actor x → HoldsItem (with_actor s) actor x
item_with (Raw start len) s actor h = aside s actor (λ ps. (b : ℕ) → start ≤ b → b < start + len → 0 < held_in ps (RawByte b)) h
item_with (Free t) s actor h = aside s actor (λ ps. 0 < held_in ps (FreeTitle t)) h
item_with (Own t) s actor h = aside s actor (λ ps. 0 < held_in ps (OwnAs t Clean)) h
item_with (Ref t) s actor h = aside s actor (λ ps. 0 < held_in ps (RefOf t)) h

-- whether an item that is an Own is sealed
sealed_with : (x : Item) (s : State) (actor : ℕ) (sealed : Bool) → IsItemSealed s actor x sealed →
    IsItemSealed (with_actor s) actor x sealed
sealed_with (Raw start len) s actor sealed h = tt
sealed_with (Free t) s actor sealed h = tt
sealed_with (Own t) s actor sealed h = aside s actor (SealedAs t sealed) h
sealed_with (Ref t) s actor sealed h = tt

enabled_with : (e : Event) (s : State) → IsEnabled e s → IsEnabled e (with_actor s)
enabled_with (Count actor t step) s h = (has_with s actor h.0, count_with step s actor t h.1, h.2)
enabled_with (Sealed actor t) s h = (has_with s actor h.0, count_with Issue s actor t h.1, h.2)
enabled_with (Store actor at value) s h = (
  has_with s actor h.0,
  h.1,
  aside s actor (λ ps. RawAt at ps ⊎ (FreeAt at ps ⊎ ((t : Title) × (state : OwnState) × OwnAt s.words at t state ps))) h.2,
)
enabled_with (Poison actor t) s h = (
  has_with s actor h.0,
  aside s actor (λ ps. (state : OwnState) × (0 < held_in ps (OwnAs t state)) ×
      (progress state < content_count t)) h.1,
)
enabled_with (Load actor at) s h = (has_with s actor h.0, h.1, aside s actor (λ ps. RawAt at ps ⊎ TitleAt at ps) h.2)
enabled_with (Hand from to x) s h = (has_with s from h.0, has_with s to h.1, item_with x s from h.2)
enabled_with (Cut actor t) s h = (
  has_with s actor h.0,
  aside s actor (λ ps. (b : ℕ) → t.start ≤ b → b < t.start + t.len → 0 < held_in ps (RawByte b)) h.1,
  h.2,
  h.3,
  h.4,
  h.5,
)
enabled_with (Uncut actor t) s h = (has_with s actor h.0, aside s actor (λ ps. 0 < held_in ps (FreeTitle t)) h.1)

-- what actors lose and gain, if the additional one does neither
exchanged_with : (before after : List (List Piece)) (from to : ℕ) (lost gained : List Piece) → from < length before → to < length before →
    Exchanges before (of_actor from lost) (of_actor to gained) after →
    Exchanges (before ++ [] ∷ []) (of_actor from lost) (of_actor to gained) (after ++ [] ∷ [])
exchanged_with before after from to lost gained has_from has_to ex =
    (let e = ex.0 in let a = long_with after in let b = long_with before in omega arith, each)
  where
    each : (actor : ℕ) (x : Thing) → actor < length (before ++ [] ∷ []) →
        held_in (get_or (after ++ [] ∷ []) actor []) x + held_in (of_actor from lost actor) x
        ≡ held_in (get_or (before ++ [] ∷ []) actor []) x + held_in (of_actor to gained actor) x
    each actor x below =
        let a = ap (λ ps. held_in ps x) (same_at after actor) in
        let b = ap (λ ps. held_in ps x) (same_at before actor) in
        elim (cases_lt actor (length before)) [
          | inl y ↦ let e = ex.1 actor x y in omega arith
          | inr n ↦
              let c = of_actor_apart from actor lost x (λ e. omega arith) in
              let d = of_actor_apart to actor gained x (λ e. omega arith) in
              let f = ap (λ ps. held_in ps x) (past after actor (let e = ex.0 in omega arith)) in
              let g = ap (λ ps. held_in ps x) (past before actor n) in
              omega arith
        ]
      where
        past : (hs : List (List Piece)) (k : ℕ) → length hs ≤ k → get_or hs k [] ≡ []
        past [] k l = refl
        past (h ∷ hs) zero l = absurd (omega arith)
        past (h ∷ hs) (suc k) l = past hs k (omega arith)

after_with : (s after : State) (actor : ℕ) (lost gained : List Piece) (words : List ℕ) → HasActor s actor →
    IsAfter s actor lost gained words after →
    IsAfter (with_actor s) actor lost gained words (with_actor after)
after_with s after actor lost gained words has a = record {
  words = a.words;
  holdings = exchanged_with s.holdings after.holdings actor actor lost gained has has a.holdings;
}

counts_with : (step : Step) (s after : State) (actor : ℕ) (t : Title) → HasActor s actor → Counts step s actor t after →
    Counts step (with_actor s) actor t (with_actor after)
counts_with Issue s after actor t has h = after_with s after actor _ _ _ has h
counts_with Copy s after actor t has h = after_with s after actor _ _ _ has h
counts_with Reset s after actor t has h = after_with s after actor _ _ _ has h
counts_with FreeStep s after actor t has h = (h.0, aside s actor (SealedAs t h.0) h.1, after_with s after actor _ _ _ has h.2)
counts_with Write s after actor t has h = (
  h.0,
  h.1,
  aside s actor (OpenOf t h.0) h.2,
  aside s actor (SealedAs t h.1) h.3,
  after_with s after actor _ _ _ has h.4,
)

happens_with : (e : Event) (s after : State) → IsEnabled e s → Happens e s after → Happens e (with_actor s) (with_actor after)
happens_with (Count actor t step) s after can h = counts_with step s after actor t can.0 h
happens_with (Sealed actor t) s after can h = after_with s after actor _ _ _ can.0 h
happens_with (Store actor at value) s after can (inl h) =
    inl (aside s actor (λ ps. RawAt at ps ⊎ FreeAt at ps) h.0, after_with s after actor _ _ _ can.0 h.1)
happens_with (Store actor at value) s after can (inr h) =
    inr (
      h.0,
      h.1,
      h.2,
      aside s actor (OwnAt s.words at h.0 h.1) h.3,
      aside s actor (SealedAs h.0 h.2) h.4,
      after_with s after actor _ _ _ can.0 h.5,
    )
happens_with (Poison actor t) s after can h = (
  h.0,
  h.1,
  aside s actor (λ ps. 0 < held_in ps (OwnAs t h.0)) h.2,
  aside s actor (SealedAs t h.1) h.3,
  after_with s after actor _ _ _ can.0 h.4,
)
happens_with (Load actor at) s after can h = ap with_actor h
happens_with (Hand from to x) s after can h =
    (h.0, (h.1.0, sealed_with x s from h.1.0 h.1.1, exchanged_with s.holdings after.holdings from to _ _ can.0 can.1 h.1.2))
happens_with (Cut actor t) s after can h = after_with s after actor _ _ _ can.0 h
happens_with (Uncut actor t) s after can h = after_with s after actor _ _ _ can.0 h

-- whole runs
played_with : (s : State) (es : List Event) (ss : List State) → Played s es ss → Played (with_actor s) es (map with_actor ss)
played_with s [] [] p = tt
played_with s (e ∷ es) (after ∷ ss) p = (enabled_with e s p.0, happens_with e s after p.0 p.1, played_with after es ss p.2)
played_with s [] (after ∷ ss) p = p
played_with s (e ∷ es) [] p = p

end_with : (s : State) (ss : List State) → with_actor (end_of s ss) ≡ end_of (with_actor s) (map with_actor ss)
end_with s [] = refl
end_with s (after ∷ ss) = end_with after ss

lasts_good : (s : State) (es : List Event) (ss : List State) (last : Title → ℕ) → Lasts s es ss last → IsGoodState s
lasts_good s [] [] last l = l.0
lasts_good s (e ∷ es) (after ∷ ss) last l = l.0
lasts_good s [] (after ∷ ss) last l = absurd l
lasts_good s (e ∷ es) [] last l = absurd l

pub stays_aside : ActorStaysAside
stays_aside s es after r =
    let played = played_with s es r.states r.played in
    record {
      states = map with_actor r.states;
      played = played;
      ends = ap with_actor r.ends ∙ end_with s r.states;
      shape = (r.shape.0, let e = r.shape.1 in let a = long_with after.holdings in let b = long_with s.holdings in omega arith);
      lasts = λ last k.
          let good = lasts_good s es r.states last (r.lasts last (content_without s last k)) in
          lasts (with_actor s) es (map with_actor r.states) last (good_with s good) k played;
    }
