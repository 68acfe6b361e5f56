-- A fixed word.
use Rattle.std.specs.Prelude.{ℕ, cond, List, [], ◌∷◌, eqb}
use Rattle.forms.specs.Form.{Parse, parsed, stopped, after, Form}

-- byte by byte, up to the first that differs
unfoldable pub word_parse : List ℕ → List ℕ → Parse (Unit {0})
word_parse [] t = parsed tt t
word_parse (c ∷ w) [] = stopped 0
word_parse (c ∷ w) (b ∷ t) = cond (eqb b c) (after 1 (λ x. x) (word_parse w t)) (stopped 0)

-- its one value has no content, and anything may follow
abbrev pub word : List ℕ → Form (Unit {0})
word w = record { Valid = λ _. Unit {0}; text = λ _. w; Follow = λ _. Unit {0}; parse = word_parse w }
