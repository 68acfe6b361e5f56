-- For the contracts of the scanner and of the readers above it: what was parsed from a reader's place on.
use Rattle.std.specs.Prelude.{ℕ, List, [], ◌∷◌, ◌≡◌, Option, Some, None, Result, Ok, Err}
use Rattle.forms.specs.Form.{Form}
use Rattle.forms.specs.Place.{Found, Stops}
use Rattle.scanner.specs.declared.Reader.{Reader}
use Rattle.scanner.specs.declared.Stop.{Stop}

-- the next byte, where there is one
abbrev pub first_of : List ℕ → Option ℕ
first_of [] = None
first_of (b ∷ r) = Some b

module _ {A : Type 0} (p : Form A) where
  -- From the place i to the place e: the text of a value, or no text of p, and e is where parsing stopped.
  abbrev pub Parsed : List ℕ → ℕ → Result A Stop → ℕ → Type 0
  Parsed t i (Ok a) e = Found p t i a e
  Parsed t i (Err stop) e = Stops p t i stop.at × (e ≡ stop.at)

  -- in the reader's text, which it keeps, from its place to its new one
  pub record Scans (from : Reader) (result : Result A Stop) (next : Reader) : Type 0 where
    pub same_text : next.text ≡ from.text
    pub parsed : Parsed from.text.now from.at result next.at

-- the same, said of another value
abbrev pub ok_as : {A B : Type 0} → (A → B) → Result A Stop → Result B Stop
ok_as f (Ok a) = Ok (f a)
ok_as f (Err stop) = Err stop

-- the same, said of the record in which a value is kept
abbrev pub ScansAs : {A R : Type 0} → Form A → (A → R) → Reader → Result R Stop → Reader → Type 0
ScansAs {A} p keep from (Ok r) next = (a : A) × (r ≡ keep a) × Scans p from (Ok a) next
ScansAs p keep from (Err stop) next = Scans p from (Err stop) next
