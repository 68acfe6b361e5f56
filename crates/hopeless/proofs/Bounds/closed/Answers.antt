-- Too dear by a price is as `Closed` has it: the charges are those of both sums.
use Rattle.hopeless.specs.Hopeless.{dear_first, dear_second}
use Rattle.hopeless.proofs.Bounds.closed.Goals as goal

pub returns-then-dear : goal.returns-then-dear
returns-then-dear c e =
    dear_first c.in-Some.best c.in-Some.is (rw (c.least_bought-least.ensures, c.add-x.ensures, c.magnitude-cents.ensures) at (c.dear.ensures e))

pub returns-else-dear : goal.returns-else-dear
returns-else-dear c e =
    dear_second c.in-Some.best c.in-Some.is (rw (c.least_bought-least.ensures, c.add-x.ensures, c.magnitude-cents.ensures) at (c.dear-else-dear.ensures e))
