-- Texts of a shape: the texts of well_formed values.
use Rattle.std.specs.Prelude.{ℕ, ◌≤◌, List, ◌++◌, ◌≡◌, length, take}

module _ {A : Type 0} (WellFormed : A → Type 0) (text : A → List ℕ) where
  -- t is the text of a
  pub record TextOf (t : List ℕ) (a : A) : Type 0 where
    pub well_formed : WellFormed a
    pub is : t ≡ text a

  -- some text of the shape begins with s
  pub record Begins (s : List ℕ) : Type 0 where
    pub value : A
    pub well_formed : WellFormed value
    pub more : List ℕ
    pub goes_on : text value ≡ s ++ more

  -- Document 01's place of refusal 2: n is the length of the longest beginning of t that some text of the shape also has.
  pub record Longest (t : List ℕ) (n : ℕ) : Type 0 where
    pub within : n ≤ length t
    pub begins : Begins (take n t)
    pub longest : (m : ℕ) → m ≤ length t → Begins (take m t) → m ≤ n

  -- What a text is: the text of a value, or of none, and then with the place. Every text has a reading (forms/proofs/Whole.antt: `reading`),
  -- and any two give the same answer (`one_answer`).
  pub data Reading (t : List ℕ) : Type 0 where
    of_shape : (a : A) → TextOf t a → Reading t
    not_of_shape : (n : ℕ) → ((a : A) → TextOf t a → ⊥) → Longest t n → Reading t

  -- what is answered: by the value, or by the place
  unfoldable pub answer : {C : Type 0} {t : List ℕ} → (A → C) → (ℕ → C) → Reading t → C
  answer f g (of_shape a it) = f a
  answer f g (not_of_shape n no_value it) = g n
