-- A root that takes in a super page from the pool.
use Rattle.std.proofs.Common.{◌≡◌, ℕ, ◌+◌, ◌<◌, [], ◌∷◌, Some, sym, ◌∙◌, ap, subst, arith, ◌⊎◌, inl, inr}
use Rattle.std.specs.Prelude.{Contains}
use Rattle.std.proofs.lemmas.List.Elements.{Contains-append_cases}
use Rattle.pa_slot.specs.declared.title.Title.{Title}
use Rattle.pa_slot.specs.Holdings.{RawByte}
use Rattle.pa_region.specs.declared.view.View.{View}
use Rattle.pa_region.specs.Views.{free_of, low_of}
use Rattle.pa_region.specs.Lists.{lease_of}
use Rattle.pa_region.specs.Hands.{united}
use Rattle.pa_region.specs.Lending.{HostsKeeper}
use Rattle.pa_region.specs.Aware.{IsAware}
use Rattle.pa_region.proofs.JoinStep.{united_parts}
use Rattle.pa_region.proofs.Stays.{low_held}
use Rattle.pa_region.proofs.TakeLaws.{left_number}
use Rattle.pa_record.specs.declared.taken.SuperPage.{SuperPage}
use Rattle.pa_record.specs.Root.{Root, opened}
use Rattle.pa_lists.proofs.Members.{not_in_none, in_cases}
use Rattle.pa_root.specs.Keeping.{RootState, HasRest, IsInRun, IsInRest}
use Rattle.pa_root.specs.Filling.{HasSlots, CanTakePage, opened_state, OpeningKeeps}
use Rattle.pa_root.proofs.Whole.{made_is_whole}
use Rattle.pa_root.proofs.Seeing.{root_sound}
use Rattle.pa_root.proofs.Together.{no_own_clean, free_both, handles_both, hosts_both}

-- what the one or the other has, both have
pub low_left : (v w : View) (b n : ℕ) → 0 < low_of v b n → 0 < low_of (united v w) b n
low_left v w b n some = let e = (united_parts v w).floors b n in omega arith

pub low_right : (v w : View) (b n : ℕ) → 0 < low_of w b n → 0 < low_of (united v w) b n
low_right v w b n some = let e = (united_parts v w).floors b n in omega arith

-- but no byte is raw in both
pub not_both : (v w : View) (b n m : ℕ) → IsAware (united v w) → 0 < low_of v b n → 0 < low_of w b m → ⊥
not_both v w b n m aware left right =
    let e = (united_parts v w).things (RawByte b) in
    let once = aware.raw_once b in
    let l = low_held v b n in
    let r = low_held w b m in
    absurd (omega arith)

-- the super page at the end
pub last_is : (r : Root) (number entry : ℕ) (at : SuperPage) → Contains (opened number entry r).supers at →
    Contains r.supers at ⊎ ((at.number ≡ number) × (at.born ≡ entry))
last_is r number entry at among = elim (Contains-append_cases r.supers (record { number = number; born = entry } ∷ []) at among) [
  | inl old ↦ inl old
  | inr new ↦ elim (in_cases (record { number = number; born = entry }) at [] new) [
    | inl e ↦ inr (ap (λ (x : SuperPage). x.number) (sym e), ap (λ (x : SuperPage). x.born) (sym e))
    | inr none ↦ absurd (not_in_none at none)
  ]
]

module _ (p number entry : ℕ) (s : RootState) (w : View) (can : CanTakePage p number entry s w) where
  abbrev u : View
  u = united s.view w

  -- a byte of the rest was in the rest before, or is in the new super page
  rest_cases : (j b : ℕ) → IsInRest (opened number entry s.root) j b → IsInRest s.root j b ⊎ ((j ≡ entry) × IsInRun number 1 b)
  rest_cases j b (inl (at, among, born, inside, away)) = elim (last_is s.root number entry at among) [
    | inl old ↦ inl (inl (at, old, born, inside, away))
    | inr (n, e) ↦ inr (sym born ∙ e, subst (λ k. IsInRun k 1 b) n inside)
  ]
  rest_cases j b (inr rest) = inl (inr rest)

  raw_before : (j b : ℕ) → IsInRest s.root j b → 0 < low_of s.view b j
  raw_before j b inside = can.sound.rest.raw j b inside

  -- none is in both
  apart : (j b : ℕ) → IsInRest s.root j b → IsInRun number 1 b → ⊥
  apart j b old new = not_both s.view w b j entry can.both_aware (raw_before j b old) (can.has.raws b new)

  rest_now : HasRest (opened_state number entry s u)
  rest_now = record {
    raw = λ j b inside. elim (rest_cases j b inside) [
      | inl old ↦ low_left s.view w b j (raw_before j b old)
      | inr (e, new) ↦ low_right s.view w b j (subst (λ k. 0 < low_of w b k) (sym e) (can.has.raws b new))
    ];
    one = λ j k b inside other. elim (rest_cases j b inside) [
      | inl old ↦ elim (rest_cases k b other) [
        | inl old' ↦ can.sound.rest.one j k b old old'
        | inr (e', new') ↦ absurd (apart j b old new')
      ]
      | inr (e, new) ↦ elim (rest_cases k b other) [
        | inl old' ↦ absurd (apart k b old' new)
        | inr (e', new') ↦ e ∙ sym e'
      ]
    ];
  }

  free_same : (t : Title) → free_of u t ≡ free_of s.view t
  free_same t = let e = free_both s.view w t in let n = can.has.frees t in omega arith

  slots_now : HasSlots (opened_state number entry s u)
  slots_now = record {
    titles = record {
      has = λ t made. elim (can.sound.titles.has t made) [
        | inl free ↦ inl (subst (λ n. 0 < n) (sym (free_same t)) free)
        | inr out ↦ inr out
      ];
      made = λ t free. can.sound.titles.made t (subst (λ n. 0 < n) (free_same t) free);
      with_root = λ t free out. can.sound.titles.with_root t (subst (λ n. 0 < n) (free_same t) free) out;
      unused = λ t. let e = handles_both s.view w t in let a = can.sound.titles.unused t in let b = can.has.handles t in omega arith;
      budget = let a = can.sound.titles.budget in let b = can.has.budget in omega arith;
    };
    numbers = record {
      numbered = can.sound.numbers.numbered;
      known = λ t free.
          let before : 0 < free_of s.view t = subst (λ n. 0 < n) (free_same t) free in
          let well = made_is_whole s.root t (root_sound p s can.sound.journal) (can.sound.titles.made t before) in
          can.sound.numbers.known t before ∙
          ap Some (sym (left_number s.view w (t.start + t.len) t can.aware can.both_aware can.long well before));
    };
    rest = rest_now;
    leases = record {
      supers = λ at among. elim (last_is s.root number entry at among) [
        | inl old ↦ let e = (united_parts s.view w).leases at.born in let a = can.sound.leases.supers at old in omega arith
        | inr (n, e) ↦
            let f = (united_parts s.view w).leases at.born in
            let a : 0 < lease_of w at.born = subst (λ k. 0 < lease_of w k) (sym e) can.has.lease in
            omega arith
      ];
      maps = λ t among. let e = (united_parts s.view w).leases t.born in let a = can.sound.leases.maps t among in omega arith;
    };
  }

  hosts_now : HostsKeeper p u
  hosts_now = hosts_both p s.view w can.sound.journal.hosts can.has.stakes (no_own_clean w (λ t. let e = can.has.handles t in omega arith))

pub opening_keeps : OpeningKeeps
opening_keeps p number entry s w can = (slots_now p number entry s w can, hosts_now p number entry s w can)
