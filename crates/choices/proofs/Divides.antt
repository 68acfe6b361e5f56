-- Complete choices that fit and divisions: each such choice gives a division, and for each division one gives one at least as good. Assumes nothing.
use Prim.Native.Nat.{ℕ, ◌+◌, ◌≤◌}
use native.Mathlib.Omega.{arith}
use mathlib.Core.Bool.{true}
use mathlib.Core.List.{List, [], ◌∷◌, reverse_aux, reverse, Memᴰ as In}
use mathlib.Core.Logic.{inl, inr}
use mathlib.Core.Path.{◌≡◌, refl, ap, ◌∙◌, subst}
use borrow.Author.Tests.{lt-ltb}
use lib.IntN.{pos}
use Rattle.lists.specs.All.{All}
use Rattle.lists.proofs.Members.{all_in}
use Rattle.book.specs.declared.Segment.{Segment}
use Rattle.book.specs.declared.Order.{Order}
use Rattle.supply.specs.Allocation.{bought}
use Rattle.supply.specs.Meets.{most_of}
use Rattle.supply.specs.Sound.{SoundSegment}
use Rattle.supply.proofs.Sound.{SoundSupply}
use Rattle.divisions.specs.Award.{Priced}
use Rattle.divisions.proofs.Order.{better_cost, better_tie}
use Rattle.divisions.proofs.IsBest.{NotBetter}
use Rattle.choices.specs.Choice.{starts, ends, fits, left_over, placed, extras_of, filled}
use Rattle.choices.specs.Leaf.{Leaf}
use Rattle.choices.proofs.Fill.{cost, Box, Wins, extras_bought, extras_box, box_widths}
use Rattle.choices.proofs.Certificate.{extras_cert, insides, one_inside}
use Rattle.choices.proofs.Optimal.{cert_wins}
use Rattle.choices.proofs.Placed.{cost_with_lem, placed_bought, ends_widths, fits_low, fits_high, fits_when, placed_less, less_more}
use Rattle.choices.specs.Chosen.{Chosen}

-- the extras xs of the choice so far, and the extras ys of the segments e chosen for the bidders left
abbrev pub together : List Segment → List ℕ → List Segment → List ℕ → Priced
together c xs e ys = record {
  cost = pos (cost c xs + cost e ys);
  blanks = bought (placed c xs) + bought (placed e ys);
  quantities = reverse_aux (placed c xs) (placed e ys);
}

-- d is these quantities, which the order takes, with at most one bidder strictly inside
pub record Divides (order : Order) (supplies : List (List Segment)) (c : List Segment) (d : Priced) : Type 0 where
  pub extras : List ℕ
  pub later : List Segment
  pub later_shares : List ℕ
  pub box : Box c extras
  pub chosen : Chosen supplies later later_shares
  pub enough : order.demand.0 ≤ bought (placed c extras) + bought (placed later later_shares)
  pub not_over : bought (placed c extras) + bought (placed later later_shares) ≤ most_of order
  pub is : d ≡ together c extras later later_shares
  pub few : insides c extras + insides later later_shares ≤ 1

-- the latest bidder so far, taken as the first of those left
shift : (s : Segment) (x : ℕ) (c : List Segment) (xs : List ℕ) (e : List Segment) (ys : List ℕ)
    → together (s ∷ c) (x ∷ xs) e ys ≡ together c xs (s ∷ e) (x ∷ ys)
unfolding bought
shift s x c xs e ys =
    let sum : cost (s ∷ c) (x ∷ xs) + cost e ys ≡ cost c xs + cost (s ∷ e) (x ∷ ys) = omega arith in
    let blanks : bought (placed (s ∷ c) (x ∷ xs)) + bought (placed e ys) ≡ bought (placed c xs) + bought (placed (s ∷ e) (x ∷ ys)) = omega arith in
    λ i. record { cost = pos (sum i); blanks = blanks i; quantities = reverse_aux (placed c xs) (placed (s ∷ e) (x ∷ ys)) }

-- A complete choice.

wins_better : (c : List Segment) (xs ys : List ℕ) → Box c xs → Box c ys → Wins c xs ys → NotBetter (together c ys [] []) (together c xs [] [])
wins_better c xs ys b d w = go w
  where
    x : Priced
    x = together c xs [] []

    y : Priced
    y = together c ys [] []

    -- what one takes more it has more blanks
    more_blanks : y.blanks + bought xs ≡ x.blanks + bought ys
    more_blanks = omega (arith, placed_bought c xs b, placed_bought c ys d)

    same : cost c xs ≡ cost c ys → x.cost ≡ y.cost
    same h = ap (λ (n : ℕ). pos (n + 0)) h

    go : Wins c xs ys → NotBetter y x
    go (inl h) = inr (better_cost x y (lt-ltb (cost c xs + 0) (cost c ys + 0) (omega arith)))
    go (inr (h, inl n)) = inr (better_tie x y (same h) (inl (omega (arith, more_blanks))))
    go (inr (h, inr (n, inl k))) = inl (ap (λ (l : List ℕ). together c l [] []) k)
    go (inr (h, inr (n, inr k))) =
        inr (better_tie x y (same h) (inr (omega (arith, more_blanks), less_more (placed c ys) (placed c xs) [] [] (placed_less c ys xs d b k))))

module _ (order : Order) (c : List Segment) (sound : All SoundSegment c) where
  abbrev left : ℕ
  left = left_over order c

  abbrev given : List ℕ
  given = extras_of order c

  -- where the demand can be given, it is; what the starts pass it by is over it
  given_all : order.demand.0 ≤ ends c → bought (placed c given) ≡ starts c + left
  given_all high = omega (arith, placed_bought c given (extras_box left c), extras_bought left c (omega (arith, ends_widths c sound)))

  filled_is : order.demand.0 ≤ ends c → filled order c ≡ together c given [] []
  unfolding filled bought
  filled_is high =
      let sum : cost c given ≡ cost c given + 0 = omega arith in
      let blanks : starts c + left ≡ bought (placed c given) + 0 = omega (arith, given_all high) in
      λ i. record { cost = (cost_with_lem c given sound ∙ ap pos sum) i; blanks = blanks i; quantities = reverse (placed c given) }

  leaf_divides : fits order c ≡ true → Divides order [] c (filled order c)
  unfolding bought
  leaf_divides f =
      let low = fits_low order c f in
      let high = fits_high order c f in
      let box = extras_box left c in
      let all = given_all high in
      record {
        extras = given;
        later = [];
        later_shares = [];
        box = box;
        chosen = tt;
        enough = omega arith;
        not_over = omega arith;
        is = filled_is high;
        few = omega (arith, one_inside c given (extras_cert left c));
      }

  -- where extras give what the order takes, the choice fits, and what it is given is at least as good
  module _ (xs : List ℕ) (b : Box c xs) (enough : order.demand.0 ≤ bought (placed c xs)) (not_over : bought (placed c xs) ≤ most_of order) where
    leaf_fits : fits order c ≡ true
    leaf_fits =
        let sum = placed_bought c xs b in
        fits_when order c (omega arith) (omega (arith, box_widths c xs b, ends_widths c sound))

    leaf_better : NotBetter (together c xs [] []) (filled order c)
    leaf_better =
        let sum = placed_bought c xs b in
        let all : bought given ≡ left = extras_bought left c (omega (arith, box_widths c xs b)) in
        let box = extras_box left c in
        let high : order.demand.0 ≤ ends c = omega (arith, box_widths c xs b, ends_widths c sound) in
        rw (filled_is high) (wins_better c given xs box b (cert_wins c given xs (extras_cert left c) box b (omega arith)))

-- Any choice so far.

divides_next : (order : Order) (supplies : List (List Segment)) (ss : List Segment) (s : Segment) (c : List Segment) (d : Priced) → In s ss
    → Divides order supplies (s ∷ c) d → Divides order (ss ∷ supplies) c d
unfolding bought
divides_next order supplies ss s c d m p = go p.extras p.box p.enough p.not_over p.is p.few
  where
    e : List Segment
    e = p.later

    ys : List ℕ
    ys = p.later_shares

    go : (xs : List ℕ) → Box (s ∷ c) xs → order.demand.0 ≤ bought (placed (s ∷ c) xs) + bought (placed e ys)
        → bought (placed (s ∷ c) xs) + bought (placed e ys) ≤ most_of order → d ≡ together (s ∷ c) xs e ys → insides (s ∷ c) xs + insides e ys ≤ 1
        → Divides order (ss ∷ supplies) c d
    go [] b l h i f = absurd b
    go (x ∷ xs) b l h i f = record {
      extras = xs;
      later = s ∷ e;
      later_shares = x ∷ ys;
      box = b.1;
      chosen = (m, b.0, p.chosen);
      enough = omega arith;
      not_over = omega arith;
      is = i ∙ shift s x c xs e ys;
      few = omega arith;
    }

pub divides : (order : Order) (supplies : List (List Segment)) (c : List Segment) (d : Priced) → All SoundSupply supplies → All SoundSegment c
    → Leaf order supplies c d → Divides order supplies c d
divides order [] c d sound before (f, e) = rw e (leaf_divides order c before f)
divides order (ss ∷ supplies) c d sound before (s, m, l) =
    let one = all_in SoundSegment ss s sound.0.each m in
    divides_next order supplies ss s c d m (divides order supplies (s ∷ c) d sound.1 (one, before) l)

-- and some complete choice gives quantities at least as good as these
pub as_good : (order : Order) (supplies : List (List Segment)) (c : List Segment) (xs : List ℕ) (e : List Segment) (ys : List ℕ)
    → All SoundSupply supplies → All SoundSegment c → Box c xs → Chosen supplies e ys
    → order.demand.0 ≤ bought (placed c xs) + bought (placed e ys) → bought (placed c xs) + bought (placed e ys) ≤ most_of order
    → (t : Priced) × Leaf order supplies c t × NotBetter (together c xs e ys) t
unfolding bought
as_good order [] c xs [] (x ∷ ys) sound before b a low high = elim a [ ]
as_good order [] c xs (s ∷ e) ys sound before b a low high = elim a [ ]
as_good order (ss ∷ supplies) c xs [] ys sound before b a low high = elim a [ ]
as_good order (ss ∷ supplies) c xs (s ∷ e) [] sound before b a low high = elim a [ ]
as_good order [] c xs [] [] sound before b a low high =
    let enough : order.demand.0 ≤ bought (placed c xs) = omega arith in
    let not_over : bought (placed c xs) ≤ most_of order = omega arith in
    (filled order c, (leaf_fits order c before xs b enough not_over, refl), leaf_better order c before xs b enough not_over)
as_good order (ss ∷ supplies) c xs (s ∷ e) (x ∷ ys) sound before b (m, w, a) low high =
    let one = all_in SoundSegment ss s sound.0.each m in
    let (d, l, n) = as_good order supplies (s ∷ c) (x ∷ xs) e ys sound.1 (one, before) (w, b) a (omega arith) (omega arith) in
    (d, (s, m, l), subst (λ (p : Priced). NotBetter p d) (shift s x c xs e ys) n)
