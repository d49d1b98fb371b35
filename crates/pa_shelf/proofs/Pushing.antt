-- Slots that are side by side are pushed from the last to the first.
use Rattle.std.proofs.Common.{◌≡◌, ℕ, ◌+◌, ◌-◌, ◌*◌, ◌<◌, ◌≤◌, List, ◌∷◌, [], Option, Some, None, refl, sym, ◌∙◌, ap, subst, arith}
use Rattle.std.specs.Prelude.{Contains, IsNone, ◌++◌}
use Rattle.std.specs.Option.{option_to_list}
use Rattle.std.proofs.Math.Nat.{mul-le-mul_left}
use Rattle.pa_lists.specs.Numbers.{numbers}
use Rattle.pa_lists.proofs.Different.{numbers_in}
use Rattle.pa_lists.proofs.Elements.{in_one}
use Rattle.pa_lists.proofs.Joined.{map_cases}
use Rattle.pa_lists.proofs.Tests.{one_more}
use Rattle.pa_lists.proofs.Members.{first_in, later_in}
use Rattle.pa_lists.proofs.Pairs.{pairs_none}
use Rattle.pa_slot.specs.declared.title.Title.{Title}
use Rattle.pa_slot.specs.Links.{front_of}
use Rattle.pa_region.specs.declared.view.View.{View}
use Rattle.pa_region.specs.Views.{free_of}
use Rattle.pa_link.specs.declared.chain.ChainParts.{ChainParts}
use Rattle.pa_link.specs.Chains.{slot_names, IsChain, Relinked, SameBeside, after_link}
use Rattle.pa_link.proofs.Gaps.{relinked_none, relinked_once, relinked_more, beside_once}
use Rattle.pa_shelf.specs.Taking.{slot_beside, slots_beside}
use Rattle.pa_shelf.proofs.Returning.{parts_alike}

-- this many are pushed, of those from a number on
pub record ArePushed (v w : View) (first : Title) (from count done : ℕ) (c : ChainParts) : Type 0 where
  pub size : c.slot_len ≡ first.len
  pub many : c.len ≡ done
  pub chain : IsChain w c (slots_beside first (from + count - done) done)
  pub relinked : Relinked v w
  pub beside : SameBeside (slots_beside first (from + count - done) done) v.words w.words

one_before : (from count done : ℕ) → done < count →
    (from + count - (done + 1) ≡ from + (count - 1 - done)) × (from + count - (done + 1) + 1 ≡ from + count - done)
one_before from count done less = (omega arith, omega arith)

pub beside_more : (first : Title) (from count done : ℕ) → done < count →
    slots_beside first (from + count - (done + 1)) (done + 1) ≡ slot_beside first (from + (count - 1 - done)) ∷ slots_beside first
    (from + count - done) done
beside_more first from count done less =
    let n = from + count - (done + 1) in
    let (at, next) = one_before from count done less in
    ap (slots_beside first n) (one_more done)
    ∙ (ap (λ k. slot_beside first k ∷ slots_beside first (n + 1) done) at
    ∙ ap (λ k. slot_beside first (from + (count - 1 - done)) ∷ slots_beside first k done) next)

-- the one before them isn't among them
pub not_beside : (first : Title) (n from count : ℕ) → 0 < first.len → n < from →
    Contains (slots_beside first from count) (slot_beside first n) → ⊥
not_beside first n from count some below inside =
    let (k, among, is) = map_cases (slot_beside first) (numbers from count) (slot_beside first n) inside in
    let low = (numbers_in from count k among).0 in
    let up : first.len * (n + 1) ≤ first.len * k = mul-le-mul_left first.len (omega arith) in
    let start : first.start + first.len * k ≡ first.start + first.len * n = ap (λ (t : Title). t.start) is in
    omega arith

-- one more is pushed
pub pushed_one : (v w x : View) (first t : Title) (from count done : ℕ) (c d : ChainParts) (link : ℕ) → done < count →
    ArePushed v w first from count done c →
    0 < free_of w t → x ≡ after_link t link w → t ≡ slot_beside first (from + (count - 1 - done)) → d.slot_len ≡ c.slot_len →
    d.len ≡ c.len + 1 →
    IsChain x d (t ∷ slots_beside first (from + count - done) done) → ArePushed v x first from count (done + 1) d
pushed_one v w x first t from count done c d link less p free x_is t_is size many chain =
    let ts = slots_beside first (from + count - done) done in
    let all = beside_more first from count done less in
    let same : slots_beside first (from + count - (done + 1)) (done + 1) ≡ t ∷ ts = all ∙ ap (λ z. z ∷ ts) (sym t_is) in
    let once : SameBeside (t ∷ []) w.words x.words =
    subst (λ (z : View). SameBeside (t ∷ []) w.words z.words) (sym x_is) (beside_once t link w (t ∷ []) (first_in t [])) in
    record {
      size = size ∙ p.size;
      many = many ∙ ap (λ n. n + 1) p.many;
      chain = subst (IsChain x d) (sym same) chain;
      relinked = relinked_more v w x p.relinked (subst (Relinked w) (sym x_is) (relinked_once t link w free));
      beside = subst (λ us. SameBeside us v.words x.words) (sym same) (λ q away.
          once q (λ u inside e. away u (only t u ts inside) e)
          ∙ p.beside q (λ u inside e. away u (later_in t u ts inside) e));
    }
  where
    only : (t u : Title) (ts : List Title) → Contains (t ∷ []) u → Contains (t ∷ ts) u
    only t u ts inside = subst (Contains (t ∷ ts)) (in_one t u inside) (first_in t ts)

-- what came off a list
pub first_off : (o : Option Title) (t : Title) (ts rest : List Title) → (IsNone o → ⊥) → t ∷ ts ≡ option_to_list o ++ rest → (o ≡ Some t) ×
    (ts ≡ rest)
first_off None t ts rest some e = absurd (some refl)
first_off (Some u) t ts rest some e = (
  ap Some (ap (λ (us : List Title). elim us as (λ p. Title) [ [] ↦ u | x ∷ xs ↦ x ]) (sym e)),
  ap (λ (us : List Title). elim us as (λ p. List Title) [ [] ↦ [] | x ∷ xs ↦ xs ]) e,
)

-- none is pushed yet
pub none_pushed : (v : View) (first : Title) (from count : ℕ) (c : ChainParts) → c ≡ record { slot_len = first.len; head = None; len = 0 } →
    ArePushed v v first from count 0 c
none_pushed v first from count c is = record {
  size = ap (λ (d : ChainParts). d.slot_len) is;
  many = ap (λ (d : ChainParts). d.len) is;
  chain = subst (λ (d : ChainParts). IsChain v d []) (sym is) (record {
    many = refl;
    head = refl;
    sized = λ i d inside. absurd (omega arith);
    named = λ i d inside. absurd (omega arith);
    free = λ i d inside. absurd (omega arith);
    different = pairs_none (λ (t u : Title). t ≡ u → ⊥);
    links = tt;
  });
  relinked = relinked_none v;
  beside = λ q away. refl;
}

-- all are pushed
pub all_pushed : (v w : View) (first : Title) (from count : ℕ) (c : ChainParts) → ArePushed v w first from count count c →
    IsChain w (record { slot_len = first.len; head = front_of (slot_names (slots_beside first from count)); len = count })
    (slots_beside first from count)
    × SameBeside (slots_beside first from count) v.words w.words
all_pushed v w first from count c p =
    let at : from + count - count ≡ from = omega arith in
    let chain : IsChain w c (slots_beside first from count) = subst (λ n. IsChain w c (slots_beside first n count)) at p.chain in (
      subst (λ (d : ChainParts). IsChain w d (slots_beside first from count))
          (parts_alike c (record { slot_len = first.len; head = front_of (slot_names (slots_beside first from count)); len = count }) p.size
          chain.head p.many) chain,
      subst (λ n. SameBeside (slots_beside first n count) v.words w.words) at p.beside,
    )
