-- Slots that left a root are put into a list: the table, the list and the tally after them.
use Rattle.std.proofs.Common.{◌≡◌, ℕ, suc, ◌+◌, ◌*◌, ◌<◌, ◌≤◌, inl, inr, List, [], ◌∷◌, ◌++◌, map, length, set, Some, refl, sym, ap, ◌∙◌, subst, arith, length-set, length-append, append_assoc}
use Rattle.std.specs.Prelude.{Contains}
use Rattle.std.proofs.Math.Nat.{mul-suc}
use Rattle.std.proofs.lemmas.List.{get_or_append_left, get_or-set_same, get_or-set_other, set-set, set-get_or, append-nil}
use Rattle.std.proofs.lemmas.List.Elements.{Contains-append_cases}
use Rattle.pa_slot.specs.declared.title.Title.{Title}
use Rattle.pa_record.specs.declared.numbered.Numbered.{Numbered}
use Rattle.pa_record.specs.declared.report.Tally.{Tally}
use Rattle.pa_record.specs.Spans.{name_of}
use Rattle.pa_record.specs.Root.{names}
use Rattle.pa_lists.proofs.Members.{not_in_none, first_in, later_in, in_cases}
use Rattle.pa_player.specs.declared.table.Slot.{Slot}
use Rattle.pa_player.specs.Player.{Player}
use Rattle.pa_player.specs.Tables.{no_slot, named_at, new_slot, AreNamed, IsHome}
use Rattle.pa_rules.specs.Lists.{no_tally}
use Rattle.pa_player.specs.Tallies.{tally_at}
use Rattle.pa_player.specs.Playing.{numbered_at}
use Rattle.pa_player.specs.Changes.{cached_more, listed, list_in, ArePut}
use Rattle.pa_player.proofs.Slots.{named_home, home_place}
use Rattle.pa_player.proofs.Changing.{IsRetallied}

-- The titles were put into a list from m on, which led to r.
--   news: the slots that came after the others
--   places: where each of the titles stands
pub record IsPutIn (q at class len : ℕ) (ts : List Title) (m r : Player) (xs : List Numbered) : Type 0 where
  pub news : List Slot
  pub places : List ℕ
  pub lists : List (List ℕ)
  pub cached : List Tally
  pub same : r ≡ record m { table = m.table ++ news; caches = lists; cached = record { of = cached } }
  pub new_is : (x : Slot) → Contains news x → (t : Title) × Contains ts t × (x ≡ new_slot t q (Some class))
  pub few : length news ≤ length ts
  pub apart : AreNamed (m.table ++ news)
  pub numbers : xs ≡ map (numbered_at (m.table ++ news)) places
  pub named : map name_of ts ≡ names xs
  pub low : (i : ℕ) → Contains places i → i < length (m.table ++ news)
  pub many : length places ≡ length ts
  pub set_lists : lists ≡ set m.caches at (list_in m at ++ places)
  pub same_length : length cached ≡ length m.cached.of
  pub retallied : IsRetallied q 0 (length ts) 0 (len * length ts) m.cached.of cached

-- a place keeps its number where slots come after the others
numbered_more : (slots news : List Slot) (i : ℕ) → i < length slots → numbered_at (slots ++ news) i ≡ numbered_at slots i
numbered_more slots news i low = ap (λ (z : Slot). numbered_at (z ∷ []) 0) (get_or_append_left slots news no_slot i low)

-- what came after the others when one title got its home
home_news : (before after : List Slot) (new : Slot) (place : ℕ) → IsHome before after new place → (news : List Slot)
    × (after ≡ before ++ news) × (length news ≤ 1) × ((x : Slot) → Contains news x → x ≡ new)
home_news before after new place (inl h) = ([], h.0 ∙ sym (append-nil before), omega arith, λ x among. absurd (not_in_none x among))
home_news before after new place (inr h) =
    (new ∷ [], h.0, omega arith, λ x among. elim (in_cases new x [] among) [ inl e ↦ sym e | inr none ↦ absurd (not_in_none x none) ])

pub put_in : (q at class len : ℕ) (ts : List Title) (m r : Player) (xs : List Numbered) → at < length m.caches → q < length m.cached.of →
    AreNamed m.table
    → ((t : Title) → Contains ts t → t.len ≡ len) → ArePut q at class ts m r xs → IsPutIn q at class len ts m r xs
put_in q at class len [] m r xs room low named long (is, none) = record {
  news = [];
  places = [];
  lists = m.caches;
  cached = m.cached.of;
  same = is ∙ ap (λ (z : List Slot). record m { table = z }) (sym (append-nil m.table));
  new_is = λ x among. absurd (not_in_none x among);
  few = omega arith;
  apart = subst AreNamed (sym (append-nil m.table)) named;
  numbers = none;
  named = sym (ap names none);
  low = λ i among. absurd (not_in_none i among);
  many = refl;
  same_length = refl;
  set_lists = sym (ap (λ z. set m.caches at z) (append-nil (list_in m at)) ∙ set-get_or m.caches at []);
  retallied = record { slots = refl; bytes = omega arith; others = λ k ne. refl };
}
put_in q at class len (t ∷ ts) m r xs room low named long (after, place, rest, home, is, puts) =
    let new = new_slot t q (Some class) in
    let list = list_in m at ++ place ∷ [] in
    let more : Tally = record { slots = (tally_at m.cached.of q).slots + 1; bytes = (tally_at m.cached.of q).bytes + t.len } in
    let m1 : Player = cached_more q t.len (listed at list (record m { table = after })) in
    let c = length-set m.caches at list in
    let d = length-set m.cached.of q more in
    let first = home_news m.table after new place home in
    let there = home_place m.table after new place home in
    let p = put_in q at class len ts m1 r rest (omega arith) (omega arith) (named_home m.table after new place named home)
    (λ u among. long u (later_in t u ts among)) puts in
    let all : after ++ p.news ≡ m.table ++ (first.0 ++ p.news) = ap (λ z. z ++ p.news) first.1 ∙ append_assoc m.table first.0 p.news in
    let inner : list_in m1 at ≡ list = get_or-set_same m.caches at list [] room in
    let lists_are : p.lists ≡ set m.caches at (list_in m at ++ place ∷ p.places) =
    p.set_lists ∙ ap (λ z. set (set m.caches at list) at (z ++ p.places)) inner ∙ set-set m.caches at list (list ++ p.places)
    ∙ ap (λ z. set m.caches at z) (append_assoc (list_in m at) (place ∷ []) p.places) in
    let tally_one : tally_at (set m.cached.of q more) q ≡ more = get_or-set_same m.cached.of q more no_tally low in
    record {
      news = first.0 ++ p.news;
      places = place ∷ p.places;
      lists = p.lists;
      cached = p.cached;
      same = p.same ∙ ap (λ (z : List Slot). record m { table = z; caches = p.lists; cached = record { of = p.cached } }) all;
      new_is = λ x among. elim (Contains-append_cases first.0 p.news x among) [
        | inl one ↦ (t, first_in t ts, first.3 x one)
        | inr others ↦ let (u, member, e) = p.new_is x others in (u, later_in t u ts member, e)
      ];
      few = let a = p.few in let b = first.2 in let e = length-append first.0 p.news in omega arith;
      apart = subst AreNamed all p.apart;
      numbers =
          is ∙ ap (λ ys. numbered_at after place ∷ ys) p.numbers ∙
          ap (λ y. y ∷ map (numbered_at (after ++ p.news)) p.places) (sym (numbered_more after p.news place there.0))
          ∙ ap (λ zs. map (numbered_at zs) (place ∷ p.places)) all;
      named = ap (λ y. y ∷ map name_of ts) (sym there.1) ∙ ap (λ ys. named_at after place ∷ ys) p.named ∙ sym (ap names is);
      low = λ i among. elim (in_cases place i p.places among) [
        | inl e ↦
            let a : place < length (after ++ p.news) = let b = there.0 in let f = length-append after p.news in omega arith in
            subst (λ z. i < length z) all (subst (λ z. z < length (after ++ p.news)) e a)
        | inr others ↦ subst (λ z. i < length z) all (p.low i others)
      ];
      many = ap (λ k. suc k) p.many;
      same_length = p.same_length ∙ d;
      set_lists = lists_are;
      retallied = record {
        slots =
            let a = p.retallied.slots in
            let b : (tally_at (set m.cached.of q more) q).slots ≡ (tally_at m.cached.of q).slots + 1 =
            ap (λ (z : Tally). z.slots) tally_one in
            omega arith;
        bytes =
            let a = p.retallied.bytes in
            let b : (tally_at (set m.cached.of q more) q).bytes ≡ (tally_at m.cached.of q).bytes + t.len =
            ap (λ (z : Tally). z.bytes) tally_one in
            let e = long t (first_in t ts) in
            let f = mul-suc len (length ts) in
            omega arith;
        others = λ k ne. p.retallied.others k ne ∙ get_or-set_other m.cached.of q k more no_tally ne;
      };
    }
