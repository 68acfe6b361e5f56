-- For the contracts of this crate, of `meritorder`, of `search`, of `without` and of `clearing`: what the record of a division holds.
use Rattle.std.specs.Prelude.{ℕ, Option, Some, None, List, map, take}
use Rattle.std.proofs.Math.Option.{Option as Maybe, some, none}
use Rattle.money.specs.declared.Blanks.{Blanks}
use Rattle.divisions.specs.Award.{Priced}
use Rattle.comparison.specs.declared.PricedDivision.{PricedDivision}

-- quantities as numbers
abbrev pub blanks_in : List Blanks → List ℕ
blanks_in quantities = map (λ (b : Blanks). b.0) quantities

-- the division of n bidders that a record holds
abbrev pub division_in : ℕ → PricedDivision → Priced
division_in n d = record { cost = d.cost.0; blanks = d.bought.0; quantities = take n (blanks_in d.quantities) }

-- if there is one
abbrev pub found : ℕ → Option PricedDivision → Maybe Priced
found n None = none
found n (Some d) = some (division_in n d)
