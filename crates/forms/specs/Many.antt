-- Items one after the other, each of which begins with the byte x, as nothing after the last one does.
use Rattle.std.specs.Prelude.{ℕ, zero, suc, ◌≤◌, cond, List, [], ◌∷◌, ◌≡◌, eqb, length}
use Rattle.lists.specs.All.{All}
use Rattle.lists.specs.Joined.{joined}
use Rattle.forms.specs.Form.{Parse, parsed, stopped, after, Form}
use Rattle.forms.specs.Combined.{sequence, via}

module _ {A : Type 0} (x : ℕ) (p : Form A) where
  -- an item, and after it the others, which f parses
  abbrev pub then_more : (List ℕ → Parse (List A)) → Parse A → Parse (List A)
  then_more f (parsed a r) = after (length (p.text a)) (λ xs. a ∷ xs) (f r)
  then_more f (stopped n) = stopped n

  -- the first argument bounds how many items are parsed; any from the text's length on gives the same
  unfoldable pub many_within : ℕ → List ℕ → Parse (List A)
  many_within zero t = parsed [] t
  many_within (suc k) [] = parsed [] []
  many_within (suc k) (b ∷ t) = cond (eqb b x) (then_more (λ r. many_within k r) (p.parse (b ∷ t))) (parsed [] (b ∷ t))

  -- any number of them
  abbrev pub many : Form (List A)
  many = record {
    Valid = All p.Valid;
    text = joined p.text;
    Follow = λ b. p.Follow b × (b ≡ x → ⊥);
    parse = λ t. many_within (length t) t;
  }

  -- one or more of them
  abbrev pub OneOrMore : List A → Type 0
  OneOrMore xs = (1 ≤ length xs) × All p.Valid xs

  abbrev pub one_or_more : Form (List A)
  one_or_more = via (sequence p many) (λ y. y.0 ∷ y.1) OneOrMore (joined p.text)
