-- What a census says, and that a seat with every stake sees nothing new by it.
use Rattle.std.proofs.Common.{◌≡◌, ℕ, suc, ◌<◌, List, [], ◌∷◌, ◌++◌, refl, sym, ◌∙◌, ap, subst, arith, append-nil, inl, inr, map, length}
use Rattle.std.specs.Prelude.{◌==◌, if◌then◌else◌, Bool, true, false}
use Rattle.std.specs.List.{AllByRecursion as Each}
use Rattle.std.proofs.lemmas.Bool.Decides.{eqb_tells}
use Rattle.pa_record.specs.declared.census.Census.{Census}
use Rattle.pa_record.specs.declared.pool.PoolEntry.{PoolEntry}
use Rattle.pa_record.specs.Census.{census}
use Rattle.pa_record.specs.Numbers.{root_numbers, pool_numbers}
use Rattle.pa_region.specs.declared.view.Entry.{Entry}
use Rattle.pa_region.specs.declared.view.Made.{Made}
use Rattle.pa_region.specs.declared.view.View.{View}
use Rattle.pa_region.specs.Views.{HasEveryStake}
use Rattle.pa_region.specs.Lists.{list_of, made_with, entered_in, IsBeginning}
use Rattle.pa_region.specs.Takes.{log_of}
use Rattle.pa_region.specs.Aware.{IsAware}
use Rattle.pa_region.specs.Lending.{Lends}
use Rattle.pa_region.proofs.LendBack.{begins_on}
use Rattle.pa_region.proofs.TakeLaws.{stakes_made}
use Rattle.pa_root.specs.Keeping.{RootState, IsRootSound}
use Rattle.pa_root.specs.Laws.{PoolsAreRead}
use Rattle.pa_root.specs.Reading.{pool_entry_read, pools_read, pools_seen}
use Rattle.pa_thread_state.specs.Censuses.{TellsCensus, HasSameLists}

-- what was seen of the pool's list is what its entries say
read_back : ((e : PoolEntry) → pool_entry_read (pool_numbers e) ≡ e) → (seen rest : List Made) (pools : List PoolEntry) →
    map (λ (m : Made). m.numbers) (seen ++ rest) ≡ map pool_numbers pools →
    map (λ (m : Made). m.numbers) seen ≡ map pool_numbers (pools_read seen)
read_back entry [] rest pools is = refl
read_back entry (m ∷ seen) rest [] is = cc
read_back entry (m ∷ seen) rest (x ∷ pools) is =
    let here : m.numbers ≡ pool_numbers x = cc in
    let later : map (λ (n : Made). n.numbers) (seen ++ rest) ≡ map pool_numbers pools = cc in
    let same : m.numbers ≡ pool_numbers (pool_entry_read m.numbers)
    = subst (λ (ns : List ℕ). ns ≡ pool_numbers (pool_entry_read ns)) (sym here) (ap pool_numbers (sym (entry x))) in
    let again = read_back entry seen rest pools later in
    cc

-- the census of a sound root is that of its journal, in any list of the pool that begins with what was seen of it
pub tells_census : (p : ℕ) (s : RootState) (seat : View) (c : Census) → PoolsAreRead → IsRootSound p s → c ≡ census s.root →
    map (λ (m : Made). m.numbers) (list_of p seat) ≡ map root_numbers s.journal → IsBeginning (list_of 4 s.view) (list_of 4 seat) →
    TellsCensus p seat c
tells_census p s seat c law sound is listed begins list pools on entries =
    let seen = begins_on (list_of 4 s.view) (list_of 4 seat) list begins on in
    record {
      journal = s.journal;
      journal_is = listed;
      seen = list_of 4 s.view;
      begins = seen;
      pool = pools_seen s.view;
      pool_is = read_back law.entry (list_of 4 s.view) seen.0 pools
          (sym (ap (λ (l : List Made). map (λ (m : Made). m.numbers) l) seen.1) ∙ entries);
      replays = sound.journal.fits;
      taken = is ∙ ap census sound.journal.replayed;
    }

-- A list goes no further than a beginning in which each stake made as many entries.
no_further : (list rest : List Made) → ((r : ℕ) → r < 16 → length (made_with r (list ++ rest)) ≡ length (made_with r list)) →
    Each (λ m. m.stake < 16) (list ++ rest) → rest ≡ []
no_further [] [] same small = refl
no_further [] (m ∷ rest) same small =
    let e = same m.stake small.0 in
    elim (eqb_tells m.stake m.stake) [
      | inl y ↦ (let f : length (if m.stake == m.stake then m ∷ made_with m.stake rest else made_with m.stake rest) ≡ suc
          (length (made_with m.stake rest)) = rw y.0 refl in absurd (omega arith))
      | inr n ↦ absurd (n.1 refl)
    ]
no_further (m ∷ list) rest same small = no_further list rest (λ r below. go r (m.stake == r) (same r below)) small.1
  where
    go : (r : ℕ) (b : Bool) → length (if b then m ∷ made_with r (list ++ rest) else made_with r (list ++ rest))
        ≡ length (if b then m ∷ made_with r list else made_with r list) → length (made_with r (list ++ rest)) ≡ length (made_with r list)
    go r true e = omega arith
    go r false e = e

-- a log to which nothing came
no_more : (r k : ℕ) (log : List Entry) → log ++ (if k == r then [] else []) ≡ log
no_more r k log = go (k == r)
  where
    go : (b : Bool) → log ++ (if b then [] else []) ≡ log
    go true = append-nil log
    go false = append-nil log

-- So a seat that has every stake, and whose logs stay, has seen each list whole.
pub same_lists : (r : ℕ) (v w : View) → IsAware v → IsAware w → Lends r [] v w → HasEveryStake v → HasSameLists v w
same_lists r v w was is lends every k =
    let begins = lends.keeps.lists k in
    let same : (n : ℕ) → n < 16 → made_with n (list_of k w) ≡ made_with n (list_of k v) = λ n below.
    (let there = every n below in let stays = lends.keeps.stakes n in
    stakes_made w n k is (omega arith)
    ∙ (ap (λ (log : List Entry). entered_in k log) (lends.logs n ∙ no_more r n (log_of n v)) ∙ sym (stakes_made v n k was there))) in
    let rest = no_further (list_of k v) begins.0
    (λ n below. ap (λ (l : List Made). length (made_with n l)) (sym begins.1) ∙ ap (λ (l : List Made). length l) (same n below))
    (subst (λ (l : List Made). Each (λ m. m.stake < 16) l) begins.1 (is.makers k)) in
    begins.1 ∙ (ap (λ (l : List Made). list_of k v ++ l) rest ∙ append-nil (list_of k v))
