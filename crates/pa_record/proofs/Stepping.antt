-- Each entry that fits leaves a sound root.
use Rattle.std.proofs.Common.{◌≡◌, ℕ, ◌+◌, ◌<◌, ◌≤◌, List, ap, subst, arith, inl, inr, Option, Some, None}
use Rattle.std.specs.Prelude.{Contains}
use Rattle.std.proofs.lemmas.List.{length-map}
use Rattle.std.proofs.lemmas.List.Elements.{Contains-push_cases}
use Rattle.pa_buckets.specs.Bands.{fill_of}
use Rattle.pa_buckets.proofs.Facts.{IsRow-of}
use Rattle.pa_record.specs.declared.taken.SuperPage.{SuperPage}
use Rattle.pa_record.specs.declared.numbered.Numbered.{Numbered}
use Rattle.pa_record.specs.declared.pool.PoolEntry.{PoolEntry}
use Rattle.pa_record.specs.declared.root.RootAct.{RootAct}
use Rattle.pa_record.specs.declared.root.RootAct.TheVariants.{Fill, Map, Full, Give, Unmap, Purge}
use Rattle.pa_record.specs.Pool.{act_at}
use Rattle.pa_record.specs.Root.{Root, takes, opened, opened_by, super_of, all_returned, purged, empties, mapped, map_title, names, root_next, RootActFits, asked_by}
use Rattle.pa_record.specs.Sound.{IsSound, IsSettled, IsBornBelow, AsksFrom, IsNext}
use Rattle.pa_lists.proofs.Members.{not_in_none}
use Rattle.pa_record.proofs.Filling.{takes_filled, opened_sound, opened_born}
use Rattle.pa_record.proofs.Returning.{all_returned_is, times_is}
use Rattle.pa_record.proofs.Mapping.{unmapped_sound, unmapped_born, mapped_sound, mapped_born, born_more, born_same}

few_fill : (c : ℕ) → c < 170 → fill_of c ≤ 8
few_fill c real = let b = IsRow-of c real in b.few_fill

filled_next : (n class : ℕ) (slots : List Numbered) (pools : List PoolEntry) (asked : Option ℕ) (r : Root) → IsSound r → IsSettled r →
    IsBornBelow n r →
    AsksFrom n asked → class < 170 → IsNext n (Fill class asked slots) r (takes class (fill_of class) (opened_by pools asked r)).root
filled_next n class slots pools None r sound few old asks real =
    let f = takes_filled class (fill_of class) r sound real in
    record {
      sound = f.sound;
      settled = let p = f.settled in omega arith;
      rises = f.rises;
      turn = λ _. let p = f.turn in let q = few_fill class real in omega arith;
      stays = λ name out _. f.stays name out;
      back = λ name among out. not_in_none name among;
      keeps = f.keeps;
      born = born_same n r (takes class (fill_of class) r).root f.supers f.maps old;
      supers = λ at member. inl (subst (λ xs. Contains xs at) f.supers member);
    }
filled_next n class slots pools (Some j) r sound few old asks real =
    let number = super_of (act_at pools j) in
    let at : SuperPage = record { number = number; born = j } in
    let new = opened number j r in
    let old_j = born_more n j r asks old in
    let f = takes_filled class (fill_of class) new (opened_sound number j r sound old_j) real in
    record {
      sound = f.sound;
      settled = let p = f.settled in omega arith;
      rises = f.rises;
      turn = λ _. let p = f.turn in let q = few_fill class real in omega arith;
      stays = λ name out _. f.stays name out;
      back = λ name among out. not_in_none name among;
      keeps = f.keeps;
      born = born_same (j + 1) new (takes class (fill_of class) new).root f.supers f.maps (opened_born number j r old_j);
      supers = λ other member. elim (Contains-push_cases r.supers at other (subst (λ xs. Contains xs other) f.supers member)) [
        | inl before ↦ inl before
        | inr e ↦ inr (let q = ap (λ (x : SuperPage). x.born) e in omega arith)
      ];
    }

pub next_is : (pools : List PoolEntry) (act : RootAct) (n : ℕ) (r : Root) → IsSound r → IsSettled r → IsBornBelow n r →
    AsksFrom n (asked_by act) →
    RootActFits pools act r → IsNext n act r (root_next pools act r)
next_is pools (Fill class asked slots) n r sound few old asks fits = filled_next n class slots pools asked r sound few old asks fits.0
next_is pools (Map asked slot len) n r sound few old asks fits =
    let t = map_title slot len in
    let born : t.born ≡ asked = fits.3 in
    let more : n ≤ t.born = omega arith in
    record {
      sound = mapped_sound t r sound (born_more n t.born r more old);
      settled = few;
      rises = omega arith;
      turn = λ _. omega arith;
      stays = λ name out _. out;
      back = λ name among out. not_in_none name among;
      keeps = λ u made. made;
      born = subst (λ k. IsBornBelow (k + 1) (mapped t r)) born (mapped_born t n r more old);
      supers = λ at member. inl member;
    }
next_is pools (Full class asked) n r sound few old asks fits = record {
  sound = sound;
  settled = few;
  rises = omega arith;
  turn = λ _. omega arith;
  stays = λ name out _. out;
  back = λ name among out. not_in_none name among;
  keeps = λ u made. made;
  born = born_more n (asked + 1) r (omega arith) old;
  supers = λ at member. inl member;
}
next_is pools (Give slots) n r sound few old asks fits =
    let f = all_returned_is (names slots) r sound fits.0 fits.1 in
    record {
      sound = f.kept.sound;
      settled = f.settled few;
      rises = f.kept.rises;
      turn = λ most. let p = f.turn in let q = length-map slots (λ (s : Numbered). s.slot) in omega arith;
      stays = λ name out away. f.stays name away out;
      back = f.back;
      keeps = f.kept.keeps;
      born = born_same n r (all_returned (names slots) r) f.kept.supers f.kept.maps old;
      supers = λ at member. inl (subst (λ xs. Contains xs at) f.kept.supers member);
    }
next_is pools (Unmap asked slot) n r sound few old asks fits = record {
  sound = unmapped_sound slot.slot r sound;
  settled = few;
  rises = omega arith;
  turn = λ _. omega arith;
  stays = λ name out _. out;
  back = λ name among out. not_in_none name among;
  keeps = λ u made. made;
  born = unmapped_born slot.slot n (asked + 1) r (omega arith) old;
  supers = λ at member. inl member;
}
next_is pools Purge n r sound few old asks fits =
    let f = times_is (empties r) r sound in
    record {
      sound = f.kept.sound;
      settled = let p = f.fewer in omega arith;
      rises = f.kept.rises;
      turn = λ _. let p = f.turn in omega arith;
      stays = λ name out _. f.stays name out;
      back = λ name among out. not_in_none name among;
      keeps = f.kept.keeps;
      born = born_same n r (purged r) f.kept.supers f.kept.maps old;
      supers = λ at member. inl (subst (λ xs. Contains xs at) f.kept.supers member);
    }
