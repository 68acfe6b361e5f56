-- A line of columns: how long it is, which bytes it has, and where each of its columns stands. Assumes nothing.
use Prim.Native.Nat.{ℕ, ◌+◌}
use mathlib.Core.List.{List, [], ◌∷◌, ◌++◌, append_assoc}
use mathlib.Core.Path.{◌≡◌, refl, ap₂, ◌∙◌}
use lib.ListN.{length, length-append}
use lib.Seq.{take_at, drop-append_seam}
use Rattle.lists.specs.All.{All}
use Rattle.lists.specs.Joined.{joined}
use Rattle.lists.proofs.All.{all_from}
use Rattle.lists.proofs.Joined.{all_joined}
use Rattle.forms.proofs.Column.{length_right, all_right}
use Rattle.pagetext.specs.ReadBack.{columns}
use Rattle.pagetext.specs.Fits.{Fits}
use Rattle.pagetext.specs.Page.{Column, column_text}

-- one after the other
abbrev pub columns_text : List Column → List ℕ
columns_text cs = joined column_text cs

abbrev pub widths : List Column → ℕ
widths [] = 0
widths (c ∷ cs) = c.0 + widths cs

pub length_columns : (cs : List Column) → All Fits cs → length (columns_text cs) ≡ widths cs
length_columns [] h = refl
length_columns (c ∷ cs) h =
    length-append (column_text c) (columns_text cs) ∙ ap₂ ◌+◌ (length_right c.0 c.1 h.0) (length_columns cs h.1)

-- the bytes of what is shown, and spaces
pub all_columns : (P : ℕ → Type 0) → P 32 → (cs : List Column) → All (λ c. All P c.1) cs → All P (columns_text cs)
all_columns P space cs h =
    all_joined column_text P cs
    (all_from (λ c. All P c.1) (λ c. All P (column_text c)) (λ c own. all_right c.0 c.1 P space own) cs h)

-- from a place of a text on, these columns stand one after the other
abbrev pub StandFrom : ℕ → List ℕ → List Column → Type 0
StandFrom place s [] = Unit {0}
StandFrom place s (c ∷ cs) = (columns place c.0 s ≡ column_text c) × StandFrom (place + c.0) s cs

pub stand : (before : List ℕ) (cs : List Column) (rest : List ℕ) → All Fits cs → StandFrom (length before) (before ++ (columns_text cs ++ rest)) cs
stand before [] rest h = tt
stand before (c ∷ cs) rest h =
    let size = length_right c.0 c.1 h.0 in
    let next = stand (before ++ column_text c) cs rest h.1 in (
      rw (drop-append_seam, append_assoc) (take_at (column_text c) (columns_text cs ++ rest) c.0 size),
      simp append_assoc (simp (length-append, size, append_assoc) at next),
    )
