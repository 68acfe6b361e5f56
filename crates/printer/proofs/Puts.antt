-- A text put into an output, one after the other. Assumes nothing.
use Prim.Native.Nat.{ℕ, ◌+◌, ◌≤◌, ◌<◌}
use native.Mathlib.Omega.{arith}
use mathlib.Core.List.{List, [], ◌++◌}
use mathlib.Core.Path.{◌≡◌, refl, sym, ap, subst, ◌∙◌}
use borrow.Rule.Slice.Mut.{set_vals}
use lib.ListN.{length, get_or, take}
use lib.Seq.{take_all}
use Rattle.lists.specs.Joined.{joined}
use Rattle.lists.proofs.Joined.{joined_next}
use Rattle.printer.specs.declared.Output.{Output}
use Rattle.printer.specs.Puts.{Puts}
use Rattle.printer.specs.Written.{Wrote}
use Rattle.printer.proofs.Put.{put_none, put_then}
use Rattle.printer.proofs.Written.{written_size}

-- nothing put
pub puts_none : (out : Output) → Puts out [] out
puts_none out = record { same = refl; held = refl; put = put_none out.bytes.now out.at }

-- a text, and then another
pub puts_then : {before mid after : Output} {a b : List ℕ} → Puts before a mid → Puts mid b after → Puts before (a ++ b) after
puts_then first second = record {
  same = second.same ∙ first.same;
  held = second.held ∙ first.held;
  put = put_then _ _ _ _ _ _ _ _ first.held first.put second.put;
}

-- said in other words
pub puts_as : {before after : Output} {a b : List ℕ} → a ≡ b → Puts before a after → Puts before b after
puts_as {before} {after} e put = subst (λ (s : List ℕ). Puts before s after) e put

-- the texts of the first i elements, and then that of the next
pub puts_next : {A : Type 0} (f : A → List ℕ) (xs : List A) (i : ℕ) (d : A) {before mid after : Output} → i < length xs
    → Puts before (joined f (take i xs)) mid → Puts mid (f (get_or xs i d)) after → Puts before (joined f (take (i + 1) xs)) after
puts_next f xs i d h first second = puts_as (sym (joined_next f xs i d h)) (puts_then first second)

-- after the last turn, of a loop over xs, all of them
pub puts_all : {A : Type 0} (f : A → List ℕ) (xs ys : List A) (i : ℕ) {before after : Output} → length xs ≤ i → xs ≡ ys
    → Puts before (joined f (take i xs)) after → Puts before (joined f ys) after
puts_all f xs ys i h same put = puts_as (ap (joined f) (take_all i xs h ∙ same)) put

-- a text stored, where it fits; and one that would end past the output's end
pub puts_stored : (out : Output) (s exit : List ℕ) (next : ℕ) → out.at + length s ≤ length out.bytes.now → Wrote out.bytes.now out.at s exit next
    → Puts out s (record { bytes = set_vals exit out.bytes; at = next })
puts_stored out s exit next h w = record {
  same = refl;
  held = ap length w.1 ∙ written_size out.bytes.now out.at s h;
  put = (w.0, λ _. w.1);
}

pub puts_past : (out : Output) (s : List ℕ) (next : ℕ) → next ≡ out.at + length s → length out.bytes.now < next
    → Puts out s (record { bytes = out.bytes; at = next })
puts_past out s next e h = record { same = refl; held = refl; put = (e, λ k. absurd (omega arith)) }
