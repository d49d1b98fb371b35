-- What a take brings goes piece by piece.
use Rattle.std.proofs.Common.{◌≡◌, ◌+◌, Bool, false, List, [], ◌∷◌, ◌++◌, map, refl, ◌∙◌, ap, subst, arith}
use Rattle.std.specs.List.{sum_by}
use Rattle.std.proofs.lemmas.List.{append-nil, append_assoc, map-append}
use Rattle.std.proofs.lemmas.List.Sums.{sum_by-cons, sum_by-append}
use Rattle.std.proofs.lemmas.Bool.{lt-ltb, le-leb}
use Rattle.pa_slot.specs.declared.title.Title.{Title}
use Rattle.pa_slot.specs.declared.title.OwnState.{OwnState}
use Rattle.pa_slot.specs.declared.title.OwnState.TheVariants.{Clean, Dirty, Poisoned}
use Rattle.pa_machine.specs.declared.event.Item.{Item}
use Rattle.pa_machine.specs.declared.event.Item.TheVariants.{Raw, Free, Own, Ref}
use Rattle.pa_slot.specs.Holdings.{Piece, RawPiece, FreePiece, OwnPiece, RefPiece, Thing, RawByte, FreeTitle, OwnAs, RefOf, one, amount, held_in}
use Rattle.pa_machine.specs.Events.{piece_of}
use Rattle.pa_slot.proofs.Same.{title_self}
use Rattle.pa_region.specs.declared.view.RawRange.{RawRange}
use Rattle.pa_region.specs.declared.view.OwnTitle.{OwnTitle}
use Rattle.pa_region.specs.declared.view.View.{View}
use Rattle.pa_region.specs.Views.{raw_piece, own_piece, pieces_of}
use Rattle.pa_region.specs.Waiting.{is_unclean, unclean_of}
use Rattle.pa_region.specs.Hands.{united, spent_of}
use Rattle.pa_region_core.specs.Handed.{raw_item, own_item, items_held}
use Rattle.pa_region_core.proofs.Passing.{HasItem, ArePassed, pass_both}

-- a view that has the piece of an item has the item
first_has : (x : Item) (sealed : Bool) (ps : List Piece) → HasItem (piece_of sealed x ∷ ps) x
first_has (Raw start len) sealed ps = λ b low high.
    let c = sum_by-cons (amount (RawByte b)) (RawPiece start len) ps in
    let here : amount (RawByte b) (RawPiece start len) ≡ 1 = rw (le-leb start b low, lt-ltb b (start + len) high) refl in
    omega arith
first_has (Free t) sealed ps =
    let c = sum_by-cons (amount (FreeTitle t)) (FreePiece t) ps in
    let here : amount (FreeTitle t) (FreePiece t) ≡ 1 = rw (title_self t) refl in
    omega arith
first_has (Own t) sealed ps =
    let c = sum_by-cons (amount (OwnAs t Clean)) (OwnPiece sealed t Clean) ps in
    let here : amount (OwnAs t Clean) (OwnPiece sealed t Clean) ≡ 1 = rw (title_self t) refl in
    omega arith
first_has (Ref t) sealed ps =
    let c = sum_by-cons (amount (RefOf t)) (RefPiece t) ps in
    let here : amount (RefOf t) (RefPiece t) ≡ 1 = rw (title_self t) refl in
    omega arith

-- a place in a list of pieces, at which one more piece counts as one more
abbrev Grows : (List Piece → List Piece) → Type 0
Grows place = (ps : List Piece) (q : Piece) (th : Thing) → held_in (place (ps ++ q ∷ [])) th ≡ held_in (place ps) th + amount th q

-- What has items, each sealed or not, goes to that place, one after the other, if the items' pieces are first.
pass_first : {A : Type 0} (item : A → Item) (sealed : A → Bool) (place : List Piece → List Piece) → Grows place →
    (xs : List A) (rest ps : List Piece) →
    ArePassed (map item xs) (map (λ a. piece_of (sealed a) (item a)) xs ++ rest) (place ps) rest
    (place (ps ++ map (λ a. piece_of (sealed a) (item a)) xs))
pass_first item sealed place grows [] rest ps = (refl, ap place (append-nil ps))
pass_first item sealed place grows (x ∷ xs) rest ps =
    let piece = piece_of (sealed x) (item x) in
    let later = map (λ a. piece_of (sealed a) (item a)) xs in (
      later ++ rest,
      place (ps ++ piece ∷ []),
      record {
        has = first_has (item x) (sealed x) (later ++ rest);
        sealed = sealed x;
        out = λ th. let c = sum_by-cons (amount th) piece (later ++ rest) in omega arith;
        came = grows ps piece;
      },
      subst (λ (l : List Piece). ArePassed (map item xs) (later ++ rest) (place (ps ++ piece ∷ [])) rest (place l))
          (append_assoc ps (piece ∷ []) later)
          (pass_first item sealed place grows xs rest (ps ++ piece ∷ [])),
    )

-- between two lists, it counts so
grows_between : (left right : List Piece) → Grows (λ ps. left ++ (ps ++ right))
grows_between left right ps q th =
    let a = sum_by-append (amount th) left ((ps ++ q ∷ []) ++ right) in
    let b = sum_by-append (amount th) (ps ++ q ∷ []) right in
    let c = sum_by-append (amount th) ps (q ∷ []) in
    let d = sum_by-cons (amount th) q [] in
    let e = sum_by-append (amount th) left (ps ++ right) in
    let f = sum_by-append (amount th) ps right in
    omega arith

-- what grows still does after a list
grows_behind : (left : List Piece) (place : List Piece → List Piece) → Grows place → Grows (λ ps. left ++ place ps)
grows_behind left place grows ps q th =
    let a = sum_by-append (amount th) left (place (ps ++ q ∷ [])) in
    let b = sum_by-append (amount th) left (place ps) in
    let c = grows ps q th in
    omega arith

grows_last : Grows (λ ps. ps)
grows_last ps q th =
    let c = sum_by-append (amount th) ps (q ∷ []) in
    let d = sum_by-cons (amount th) q [] in
    omega arith

-- the Own as a piece, whatever its state: clean
abbrev clean_own : OwnTitle → Piece
clean_own o = OwnPiece o.sealed o.title Clean

-- items of four kinds, each to its own place
pass_four : (a b c d : List Piece) (rs : List RawRange) (fs : List Title) (os : List OwnTitle) (ts : List Title) →
    ArePassed (map raw_item rs ++ (map Free fs ++ (map own_item os ++ map Ref ts)))
    (map raw_piece rs ++ (map FreePiece fs ++ (map clean_own os ++ map RefPiece ts))) (a ++ (b ++ (c ++ d)))
    [] ((a ++ map raw_piece rs) ++ ((b ++ map FreePiece fs) ++ ((c ++ map clean_own os) ++ (d ++ map RefPiece ts))))
pass_four a b c d rs fs os ts =
    let x = map raw_item rs in let y = map Free fs in let z = map own_item os in let u = map Ref ts in
    let px = map raw_piece rs in let py = map FreePiece fs in let pz = map clean_own os in let pu = map RefPiece ts in
    let ax = a ++ px in let by = b ++ py in let cz = c ++ pz in
    let last = pass_first Ref (λ t. false) (λ ps. ax ++ (by ++ (cz ++ ps)))
    (grows_behind ax _ (grows_behind by _ (grows_behind cz (λ ps. ps) grows_last))) ts [] d in
    pass_both x (y ++ (z ++ u)) _ _ _ _ _ _
    (pass_first raw_item (λ r. false) (λ ps. ps ++ (b ++ (c ++ d))) (grows_between [] (b ++ (c ++ d))) rs (py ++ (pz ++ pu)) a)
    (pass_both y (z ++ u) _ _ _ _ _ _
    (pass_first Free (λ t. false) (λ ps. ax ++ (ps ++ (c ++ d))) (grows_between ax (c ++ d)) fs (pz ++ pu) b)
    (pass_both z u _ _ _ _ _ _
    (pass_first own_item (λ o. o.sealed) (λ ps. ax ++ (by ++ (ps ++ d))) (grows_behind ax (λ ps. by ++ (ps ++ d)) (grows_between by d))
    os pu c)
    (subst (λ (l : List Piece). ArePassed u l (ax ++ (by ++ (cz ++ d))) [] (ax ++ (by ++ (cz ++ (d ++ pu))))) (append-nil pu) last)))

clean_is : (a : OwnState) → one (is_unclean a) ≡ 0 → Clean ≡ a
clean_is Clean e = refl
clean_is Dirty e = absurd (omega arith)
clean_is (Poisoned j) e = absurd (omega arith)

-- the pieces of a view's Owns, if they are clean
own_pieces : (os : List OwnTitle) → sum_by (λ (o : OwnTitle). one (is_unclean o.state)) os ≡ 0 → map clean_own os ≡ map own_piece os
own_pieces [] none = refl
own_pieces (o ∷ os) none =
    let c = sum_by-cons (λ (o : OwnTitle). one (is_unclean o.state)) o os in
    let here : clean_own o ≡ own_piece o = ap (OwnPiece o.sealed o.title) (clean_is o.state (omega arith)) in
    ap (λ q. q ∷ map clean_own os) here ∙ ap (λ ps. own_piece o ∷ ps) (own_pieces os (omega arith))

-- all that a view has goes to another
pub all_pass : (v w : View) → unclean_of w ≡ 0 →
    ArePassed (items_held w) (pieces_of w) (pieces_of v) (pieces_of (spent_of w)) (pieces_of (united v w))
all_pass v w clean =
    rw (
      map-append raw_piece v.raws w.raws,
      map-append FreePiece v.frees w.frees,
      map-append own_piece v.owns w.owns,
      map-append RefPiece v.refs w.refs,
    )
    (rw (← own_pieces w.owns clean)
    (pass_four (map raw_piece v.raws) (map FreePiece v.frees) (map own_piece v.owns) (map RefPiece v.refs) w.raws w.frees w.owns w.refs))
