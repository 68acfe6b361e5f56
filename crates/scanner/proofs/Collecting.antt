-- Items that are parsed one after the other and added to a record: what was parsed is a list of them. Assumes nothing.
use Prim.Native.Nat.{ℕ, ◌+◌, ◌≤◌, ◌<◌}
use native.Mathlib.Omega.{arith}
use mathlib.Core.Bool.{true}
use mathlib.Core.List.{List, [], ◌∷◌, foldl}
use mathlib.Core.Path.{◌≡◌, refl, sym, ap, ◌∙◌, subst}
use lib.ListN.{drop}
use Rattle.std.specs.Prelude.{Result, Ok, Err}
use Rattle.std.specs.Borrow.{MutBor}
use Rattle.std.specs.Fn.{Shared}
use Rattle.lists.specs.Joined.{joined}
use Rattle.forms.specs.Form.{Form}
use Rattle.forms.specs.Tests.{starts_with}
use Rattle.forms.specs.Combined.{sequence}
use Rattle.forms.specs.Many.{many, OneOrMore as SomeItems, one_or_more}
use Rattle.forms.proofs.Form.{Laws}
use Rattle.forms.proofs.Many.{FirstByte}
use Rattle.forms.proofs.Items.{moves, no_items, item_stops, item_then, item_then_stops}
use Rattle.scanner.specs.declared.Reader.{Reader}
use Rattle.scanner.specs.declared.Stop.{Stop}
use Rattle.scanner.specs.Scans.{Parsed, Scans, ok_as, ScansAs}
use Rattle.scanner.specs.Items.{ParsedBy, Going, Further, OneOrMore, none, breaks_off, one_more, first_breaks_off, first_then}
use Rattle.scanner.proofs.Scanned.{same_bytes, scans_first, scans_then, scans_via}

-- items of a form, each of which begins with the byte x, and the record to which they are added, one after the other
pub record Listing (A R : Type 0) : Type 1 where
  pub x : ℕ
  pub form : Form A
  pub laws : Laws form
  pub heads : FirstByte x form
  pub add : R → A → R

module _ {A R : Type 0} (list : Listing A R) where
  abbrev M : Form (List A)
  M = many list.x list.form

  abbrev L : Form (List A)
  L = one_or_more list.x list.form

  -- an item takes at least a byte
  pub item_moves : (from : Reader) (a : A) (next : Reader) → Scans list.form from (Ok a) next → from.at < next.at
  item_moves from a next s = moves list.x list.form list.laws list.heads from.text.now s.parsed

  -- an item, and the others after it
  item_first : (here : Reader) → starts_with list.x (drop here.at here.text.now) ≡ true → (a : A) (mid : Reader) → Scans list.form here (Ok a) mid
      → (y : Result (List A) Stop) (next : Reader) → Scans M mid y next
      → Scans M here (ok_as (λ xs. a ∷ xs) y) next
  item_first here begins a mid s y next m = record {
    same_text = m.same_text ∙ s.same_text;
    parsed = go y (subst (λ (t : List ℕ). Parsed M t mid.at y next.at) (same_bytes s.same_text) m.parsed);
  }
    where
      go : (y : Result (List A) Stop) → Parsed M here.text.now mid.at y next.at → Parsed M here.text.now here.at (ok_as (λ xs. a ∷ xs) y) next.at
      go (Ok xs) m = item_then list.x list.form list.laws list.heads here.text.now here.at begins s.parsed m
      go (Err stop) m = (item_then_stops list.x list.form list.laws list.heads here.text.now here.at begins s.parsed m.0, m.1)

  module _ {F : Type 0} (g : Shared F (MutBor Reader × (R × Unit {0})) (Result R Stop × (MutBor Reader × Unit {0}))) (f : F)
      (steps : (k : R) (from : Reader) (result : Result R Stop) (next : Reader) → ParsedBy g f k from result next
      → ScansAs list.form (list.add k) from result next) where
    more_scanned : (k : R) (here : Reader) (result : Result R Stop) (next : Reader) → Further g f list.x k here result next
        → ScansAs M (foldl list.add k) here result next
    more_scanned k here result next (none q) =
        ([], refl, record { same_text = refl; parsed = no_items list.x list.form list.laws list.heads here.text.now here.at here.inside q })
    more_scanned k here result next (breaks_off {stop = stop} q b) =
        let s = steps k here (Err stop) next b in
        record { same_text = s.same_text; parsed = (item_stops list.x list.form list.laws list.heads here.text.now here.at q s.parsed.0, s.parsed.1) }
    more_scanned k here result next (one_more {s = s} {mid = mid} q b more) =
        one result (steps k here (Ok s) mid b) (more_scanned s mid result next more)
      where
        one : (result : Result R Stop) → ScansAs list.form (list.add k) here (Ok s) mid → ScansAs M (foldl list.add s) mid result next
            → ScansAs M (foldl list.add k) here result next
        one (Ok r) i m =
            (i.0 ∷ m.0, m.1 ∙ ap (λ (c : R). foldl list.add c m.0) i.1, item_first here q i.0 mid i.2 (Ok m.0) next m.2)
        one (Err stop) i m = item_first here q i.0 mid i.2 (Err stop) next m

    pub items_scanned : (k : R) (from : Reader) (result : Result R Stop) (next : Reader) → OneOrMore g f list.x k from result next
        → ScansAs L (foldl list.add k) from result next
    items_scanned k from result next (first_breaks_off {stop = stop} b) =
        scans_via (sequence list.form M) (λ y. y.0 ∷ y.1) (SomeItems list.x list.form) (joined list.form.text) from (Err stop) next
        (scans_first list.laws M from next stop (steps k from (Err stop) next b))
    items_scanned k from result next (first_then {s = s} {mid = mid} b more) =
        one result (steps k from (Ok s) mid b) (more_scanned s mid result next more)
      where
        whole : (y : Result (A × List A) Stop) → Scans (sequence list.form M) from y next → Scans L from (ok_as (λ y. y.0 ∷ y.1) y) next
        whole y s = scans_via (sequence list.form M) (λ y. y.0 ∷ y.1) (SomeItems list.x list.form) (joined list.form.text) from y next s

        one : (result : Result R Stop) → ScansAs list.form (list.add k) from (Ok s) mid → ScansAs M (foldl list.add s) mid result next
            → ScansAs L (foldl list.add k) from result next
        one (Ok r) i m = (
          i.0 ∷ m.0,
          m.1 ∙ ap (λ (c : R). foldl list.add c m.0) i.1,
          whole (Ok (i.0, m.0)) (scans_then list.laws M from mid i.0 i.2 (Ok m.0) next m.2),
        )
        one (Err stop) i m = whole (Err stop) (scans_then list.laws M from mid i.0 i.2 (Err stop) next m)

-- The same, where the function's contract is known at references to readers.
pub collected : {A R F : Type 0} {g : Shared F (MutBor Reader × (R × Unit {0})) (Result R Stop × (MutBor Reader × Unit {0}))} {f : F} (list : Listing A R) (k : R) (from : Reader) (result : Result R Stop) (next : Reader)
    → OneOrMore g f list.x k from result next
    → ((k : R) (from next : MutBor Reader) (result : Result R Stop) → g.post f (from, (k, tt)) (result, (next, tt))
    → ScansAs list.form (list.add k) from.now result next.now)
    → ScansAs (one_or_more list.x list.form) (foldl list.add k) from result next
collected {g = g} {f = f} list k from result next items steps =
    items_scanned list g f
    (λ k from result next b.
    subst (λ (r : Reader). ScansAs list.form (list.add k) r result next) b.shows
    (subst (λ (r : Reader). ScansAs list.form (list.add k) b.shown.now result r) b.leaves (steps k b.shown b.left result b.met)))
    k from result next items

-- Where the record counts its items, and the function asks that no more are counted than bytes were passed, it may be called again after
-- each item, which takes at least a byte.
module _ {A R : Type 0} (list : Listing A R) (count : R → ℕ) (counts : (k : R) (a : A) → count (list.add k a) ≡ count k + 1) where
  record Counted (from : Reader) (s : R) (next : Reader) : Type 0 where
    pub same_text : next.text.now ≡ from.text.now
    pub moves : from.at < next.at
    pub few : count s ≤ next.at

  counted : (k s : R) (from next : Reader) → ScansAs list.form (list.add k) from (Ok s) next → count k ≤ from.at → Counted from s next
  counted k s from next item few =
      let m = item_moves list from item.0 next item.2 in
      record { same_text = same_bytes item.2.same_text; moves = m; few = omega (arith, m, ap count item.1, counts k item.0) }

  pub counted_on : {F : Type 0} {g : Shared F (MutBor Reader × (R × Unit {0})) (Result R Stop × (MutBor Reader × Unit {0}))} {f : F} {k s : R} {from next : Reader}
      (b : ParsedBy g f k from (Ok s) next)
      → ScansAs list.form (list.add k) b.shown.now (Ok s) b.left.now
      → count k ≤ b.shown.now.at
      → ((p : MutBor Reader) → count s ≤ p.now.at → g.pre f (p, (s, tt)))
      → Going g f from s next
  counted_on {s = s} {from = from} {next = next} b met few asks =
      let P : Reader → Reader → Type 0 = λ x y. Counted x s y in
      let l : Counted from s next = subst (λ (r : Reader). P r next) b.shows (subst (λ (r : Reader). P b.shown.now r) b.leaves (counted _ s b.shown.now b.left.now met few)) in
      record { same_text = l.same_text; moves = l.moves; may = λ p e. asks p (subst (λ (r : Reader). count s ≤ r.at) (sym e) l.few) }
