-- Forms made of others: one after the other, one of two, between two words, and the same texts said of other values.
use Rattle.std.specs.Prelude.{ℕ, cond, List, [], ◌∷◌, ◌++◌, ◌⊎◌, eqb, length}
use Rattle.std.proofs.Common.{inl, inr}
use Rattle.forms.specs.Form.{Parse, parsed, stopped, after, Form}
use Rattle.forms.specs.Word.{word}

module _ {A B : Type 0} where
  -- p, and then q: `then_parse` goes on from what was parsed of p
  abbrev pub then_parse : Form A → Form B → Parse A → Parse (A × B)
  then_parse p q (parsed a r) = after (length (p.text a)) (λ b. (a, b)) (q.parse r)
  then_parse p q (stopped n) = stopped n

  abbrev pub sequence : Form A → Form B → Form (A × B)
  sequence p q = record {
    Valid = λ x. p.Valid x.0 × q.Valid x.1;
    text = λ x. p.text x.0 ++ q.text x.1;
    Follow = q.Follow;
    parse = λ t. then_parse p q (p.parse t);
  }

  -- p, whose value f turns into another one, with its text in other words
  abbrev pub via : Form A → (A → B) → (B → Type 0) → (B → List ℕ) → Form B
  via p f Valid text = record { Valid = Valid; text = text; Follow = p.Follow; parse = λ t. after 0 f (p.parse t) }

  -- the byte x and then p, or q, whose texts begin with another byte
  module _ (x : ℕ) (p : Form A) (q : Form B) where
    abbrev pub either_parse : List ℕ → Parse (A ⊎ B)
    either_parse [] = after 0 (λ b. inr b) (q.parse [])
    either_parse (b ∷ t) = cond (eqb b x) (after 1 (λ a. inl a) (p.parse t)) (after 0 (λ b. inr b) (q.parse (b ∷ t)))

    abbrev pub either_text : A ⊎ B → List ℕ
    either_text (inl a) = x ∷ p.text a
    either_text (inr b) = q.text b

    abbrev pub either_valid : A ⊎ B → Type 0
    either_valid (inl a) = p.Valid a
    either_valid (inr b) = q.Valid b

    abbrev pub either : Form (A ⊎ B)
    either = record { Valid = either_valid; text = either_text; Follow = λ b. p.Follow b × q.Follow b; parse = either_parse }

-- p between two words
abbrev pub framed : {A : Type 0} → List ℕ → Form A → List ℕ → Form A
framed start p close = via (sequence (word start) (sequence p (word close))) (λ x. x.1.0) p.Valid (λ a. start ++ p.text a ++ close)
