-- A form of text: which values it has, their texts, and a parser for them. The laws between the two are a record of their own
-- (forms/proofs/Form.antt: `Laws`), so that a form is named without a proof.
use Rattle.std.specs.Prelude.{ℕ, ◌+◌, List}

-- What parsing at the beginning of a text finds: a value and the text after it, or the place from which no text of the form goes on as
-- this one does.
pub data Parse (A : Type 0) : Type 0 where
  parsed : A → List ℕ → Parse A
  stopped : ℕ → Parse A

-- after k bytes: a value is carried on by f, and a place is k further on
abbrev pub after : {A B : Type 0} → ℕ → (A → B) → Parse A → Parse B
after k f (parsed a r) = parsed (f a) r
after k f (stopped n) = stopped (k + n)

-- a form whose texts say values of A
pub record Form (A : Type 0) : Type 1 where
  pub Valid : A → Type 0  -- the values that have a text
  pub text : A → List ℕ  -- the text of each
  pub Follow : ℕ → Type 0  -- the bytes that may stand after a text of the form
  pub parse : List ℕ → Parse A
