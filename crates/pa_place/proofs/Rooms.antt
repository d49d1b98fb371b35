-- The room that a root promises.
use Rattle.std.proofs.Common.{◌≡◌, ◌≤◌, ◌+◌, ℕ, List, length, sym, ap, subst, arith, vec_len}
use Rattle.std.specs.Vec.{vec_capacity}
use Rattle.std.proofs.lemmas.Bool.{false≢true}
use Rattle.pa_record.specs.Spans.{Span}
use Rattle.pa_place.specs.declared.store.Store.{Store}
use Rattle.pa_place.specs.declared.room.Room.{Room}
use Rattle.pa_place.specs.Roomy.{no_room, opened_room, HasTakes}
use Rattle.pa_place.specs.Filed.{HasRoomToList}
use Rattle.pa_place.specs.Store.{HasBlanks, HasRoomFor, HasRooms}
use Rattle.pa_place.proofs.Filing.{room_less}

pub no_rooms : (s : Store) (blanks : List Span) → HasRooms s blanks no_room
no_rooms s blanks = record {
  takes = λ some. absurd (omega arith);
  super_page = λ e. absurd (false≢true e);
  map = λ e. absurd (false≢true e);
}

-- a super page was opened
pub rooms_opened : (s after : Store) (blanks : List Span) (room : Room) → after.spans ≡ s.spans → after.maps ≡ s.maps
    → after.lists ≡ s.lists → HasRooms s blanks room → HasRooms after blanks (opened_room room)
rooms_opened s after blanks room spans maps lists h = record {
  takes = λ some.
      let (a, b) = h.takes some in
      let n = ap (λ v. vec_len v) spans in
      let m = ap (λ v. vec_capacity v) spans in (
        record {
          lists = subst (λ l. HasRoomToList room.class (vec_len after.spans + room.takes) l) (sym lists)
              (subst (λ k. HasRoomToList room.class (k + room.takes) s.lists) (sym n) a.lists);
          room = let p = a.room in omega arith;
          few = let p = a.few in omega arith;
        },
        b,
      );
  super_page = λ e. absurd (false≢true e);
  map = λ e.
      let k = h.map e in
      record {
        room = let n = ap (λ v. vec_len v) maps in let m = ap (λ v. vec_capacity v) maps in let p = k.room in omega arith;
        few = let n = ap (λ v. length v.items) maps in let p = k.few in omega arith;
      };
}

-- what there is room for may be less
pub record IsGivenRoom (s : Store) (blanks : List Span) (class want : ℕ) : Type 0 where
  pub room : HasRoomFor s class want
  pub ready : HasBlanks class want blanks

pub given_room : (s : Store) (ready : List Span) (room : Room) (class want : ℕ) → 1 ≤ want → HasTakes class want room →
    HasRooms s ready room → IsGivenRoom s ready class want
given_room s ready room class want some takes h =
    let most = takes.many in
    let (a, b) = h.takes (omega arith) in
    subst (λ n. IsGivenRoom s ready n want) takes.own
    (record {
      room = record {
        lists = room_less room.class (vec_len s.spans + room.takes) (vec_len s.spans + want) s.lists (omega arith) a.lists;
        room = let p = a.room in omega arith;
        few = let p = a.few in omega arith;
      };
      ready = record { many = let p = b.many in omega arith; blank = b.blank };
    })
