-- Forms at places of a text, as code parses them.
use Rattle.std.specs.Prelude.{ℕ, ◌-◌, ◌≤◌, Bool, true, false, List, ◌≡◌, length, drop}
use Rattle.forms.specs.Form.{parsed, stopped, Form}

module _ {A : Type 0} (p : Form A) (t : List ℕ) where
  -- from the place i to the place e stands the text of a
  pub record Found (i : ℕ) (a : A) (e : ℕ) : Type 0 where
    pub finds : p.parse (drop i t) ≡ parsed a (drop e t)
    pub from : i ≤ e
    pub to : e ≤ length t

  -- from the place i on, parsing stops at the place e
  pub record Stops (i e : ℕ) : Type 0 where
    pub finds : p.parse (drop i t) ≡ stopped (e - i)
    pub from : i ≤ e
    pub to : e ≤ length t

  -- going on or stopped, at the place e
  abbrev pub Gives : ℕ → A → ℕ → Bool → Type 0
  Gives i a e false = Found i a e
  Gives i a e true = Stops i e
