-- For the contract of `one_or_more`: calls of a function, each of which parses an item and gives the record with it.
use Rattle.std.specs.Prelude.{ℕ, ◌<◌, drop, true, false, ◌≡◌, Result, Ok, Err}
use Rattle.std.specs.Borrow.{MutBor}
use Rattle.std.specs.Fn.{Shared}
use Rattle.forms.specs.Tests.{starts_with}
use Rattle.scanner.specs.declared.Reader.{Reader}
use Rattle.scanner.specs.declared.Stop.{Stop}

module _ {F R : Type 0} (g : Shared F (MutBor Reader × (R × Unit {0})) (Result R Stop × (MutBor Reader × Unit {0}))) (f : F) where
  -- f may be called at the reader `from`, with the record k
  abbrev pub MayParse : R → Reader → Type 0
  MayParse k from = (p : MutBor Reader) → p.now ≡ from → g.pre f (p, (k, tt))

  -- there it may give the result, and leave the reader `next`
  pub record ParsedBy (k : R) (from : Reader) (result : Result R Stop) (next : Reader) : Type 0 where
    pub shown : MutBor Reader
    pub shows : shown.now ≡ from
    pub left : MutBor Reader
    pub met : g.post f (shown, (k, tt)) (result, (left, tt))
    pub leaves : left.now ≡ next

  -- each item takes at least a byte, and after it f may be called again
  pub record Going (from : Reader) (s : R) (next : Reader) : Type 0 where
    pub same_text : next.text.now ≡ from.text.now
    pub moves : from.at < next.at
    pub may : MayParse s next

  abbrev pub GoesOn : Type 0
  GoesOn = (k : R) (from : Reader) (s : R) (next : Reader) → MayParse k from → ParsedBy k from (Ok s) next → Going from s next

  module _ (x : ℕ) where
    -- further items, as long as the next byte is x
    pub data Further : R → Reader → Result R Stop → Reader → Type 0 where
      none : {k : R} {here : Reader} → starts_with x (drop here.at here.text.now) ≡ false → Further k here (Ok k) here
      breaks_off : {k : R} {here next : Reader} {stop : Stop} → starts_with x (drop here.at here.text.now) ≡ true → ParsedBy k here (Err stop) next
          → Further k here (Err stop) next
      one_more : {k s : R} {here mid next : Reader} {result : Result R Stop} → starts_with x (drop here.at here.text.now) ≡ true → ParsedBy k here (Ok s) mid
          → Further s mid result next
          → Further k here result next

    -- a first item, and further ones
    pub data OneOrMore (k : R) (from : Reader) : Result R Stop → Reader → Type 0 where
      first_breaks_off : {next : Reader} {stop : Stop} → ParsedBy k from (Err stop) next → OneOrMore k from (Err stop) next
      first_then : {s : R} {mid next : Reader} {result : Result R Stop} → ParsedBy k from (Ok s) mid → Further s mid result next
          → OneOrMore k from result next
