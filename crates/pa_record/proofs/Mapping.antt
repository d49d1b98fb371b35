-- Direct maps come and go.
use Rattle.std.proofs.Common.{◌≡◌, ◌≢◌, ℕ, ◌+◌, ◌≤◌, ◌&&◌, eqb, List, [], ◌∷◌, ap, subst, arith, inl, inr}
use Rattle.std.specs.Prelude.{Contains, AllPairs}
use Rattle.std.proofs.lemmas.Bool.{cases_Bool}
use Rattle.std.proofs.lemmas.List.Elements.{Contains-push_cases}
use Rattle.pa_slot.specs.declared.title.Title.{Title}
use Rattle.pa_slot.specs.declared.word.SlotName.{SlotName}
use Rattle.pa_record.specs.Root.{Root, mapped, unmapped, without_map}
use Rattle.pa_record.specs.Sound.{IsSound, IsBornBelow}
use Rattle.pa_lists.proofs.Members.{first_in, later_in, in_cases}
use Rattle.pa_lists.proofs.Pairs.{pairs_cons, pairs_tail, pairs_head, pairs_push}

abbrev pub OtherBorn : Title → Title → Type 0
OtherBorn t u = t.born ≢ u.born

pub without_map_in : (name : SlotName) (ts : List Title) (u : Title) → Contains (without_map name ts) u → Contains ts u
without_map_in name [] u among = among
without_map_in name (t ∷ ts) u among = elim (cases_Bool (eqb t.start name.start && eqb t.born name.born)) [
  | inl hit ↦ later_in t u ts (rw hit at among)
  | inr miss ↦ elim (in_cases t u (without_map name ts) (rw miss at among)) [
    | inl e ↦ subst (λ z. Contains (t ∷ ts) z) e (first_in t ts)
    | inr old ↦ later_in t u ts (without_map_in name ts u old)
  ]
]

without_map_alone : (name : SlotName) (ts : List Title) → AllPairs OtherBorn ts → AllPairs OtherBorn (without_map name ts)
without_map_alone name [] h = h
without_map_alone name (t ∷ ts) h = elim (cases_Bool (eqb t.start name.start && eqb t.born name.born)) [
  | inl hit ↦ rw hit (pairs_tail OtherBorn t ts h)
  | inr miss ↦ rw miss (pairs_cons OtherBorn t (without_map name ts)
      (λ u among. pairs_head OtherBorn t u ts h (without_map_in name ts u among))
      (without_map_alone name ts (pairs_tail OtherBorn t ts h)))
]

pub unmapped_sound : (name : SlotName) (r : Root) → IsSound r → IsSound (unmapped name r)
unmapped_sound name r sound = record {
  spans = sound.spans;
  placed = λ s among. let (at, page, p) = sound.placed s among in
      (at, page, record { among = p.among; born = p.born; place = p.place; first = p.first; last = p.last });
  below = sound.below;
  pages = sound.pages;
  places = sound.places;
  apart = sound.apart;
  turns = sound.turns;
  order = sound.order;
  mixed = λ t at among member. sound.mixed t at (without_map_in name r.maps t among) member;
  alone = without_map_alone name r.maps sound.alone;
}

pub unmapped_born : (name : SlotName) (n m : ℕ) (r : Root) → n ≤ m → IsBornBelow n r → IsBornBelow m (unmapped name r)
unmapped_born name n m r more old = record {
  supers = λ at member. let p = old.supers at member in omega arith;
  maps = λ t among. let p = old.maps t (without_map_in name r.maps t among) in omega arith;
}

pub mapped_sound : (t : Title) (r : Root) → IsSound r → IsBornBelow t.born r → IsSound (mapped t r)
mapped_sound t r sound old = record {
  spans = sound.spans;
  placed = λ s among. let (at, page, p) = sound.placed s among in
      (at, page, record { among = p.among; born = p.born; place = p.place; first = p.first; last = p.last });
  below = sound.below;
  pages = sound.pages;
  places = sound.places;
  apart = sound.apart;
  turns = sound.turns;
  order = sound.order;
  mixed = λ u at among member. elim (Contains-push_cases r.maps t u among) [
    | inl before ↦ sound.mixed u at before member
    | inr e ↦ λ same. let p = old.supers at member in let q = ap (λ (z : Title). z.born) e in omega arith
  ];
  alone = pairs_push OtherBorn r.maps t sound.alone (λ u among e. let p = old.maps u among in omega arith);
}

pub mapped_born : (t : Title) (n : ℕ) (r : Root) → n ≤ t.born → IsBornBelow n r → IsBornBelow (t.born + 1) (mapped t r)
mapped_born t n r more old = record {
  supers = λ at member. let p = old.supers at member in omega arith;
  maps = λ u among. elim (Contains-push_cases r.maps t u among) [
    | inl before ↦ let p = old.maps u before in omega arith
    | inr e ↦ let q = ap (λ (z : Title). z.born) e in omega arith
  ];
}

pub born_more : (n m : ℕ) (r : Root) → n ≤ m → IsBornBelow n r → IsBornBelow m r
born_more n m r more old = record {
  supers = λ at member. let p = old.supers at member in omega arith;
  maps = λ t among. let p = old.maps t among in omega arith;
}

-- the entries of a root with the super pages and direct maps of another are below n if those of the other are
pub born_same : (n : ℕ) (r after : Root) → after.supers ≡ r.supers → after.maps ≡ r.maps → IsBornBelow n r → IsBornBelow n after
born_same n r after e f old = record {
  supers = λ at member. old.supers at (subst (λ xs. Contains xs at) e member);
  maps = λ t among. old.maps t (subst (λ xs. Contains xs t) f among);
}
