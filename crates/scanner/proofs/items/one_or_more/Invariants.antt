use Rattle.std.proofs.Common.{◌-◌, length, Result}
use Rattle.scanner.specs.declared.Reader.{Reader}
use Rattle.scanner.specs.declared.Stop.{Stop}
use Rattle.scanner.specs.Items.{MayParse, Further, OneOrMore}
use Rattle.scanner.proofs.items.one_or_more.Given as goal

-- another item may be parsed, and what is parsed from here on belongs to the same items
abbrev pub invariant-loop-item : goal.invariant-loop-item
invariant-loop-item g l =
    record {
      may : MayParse g.F.Fn l.item l.kept l.reader;
      goes_on : (result : Result g.row.R.Denot Stop) (next : Reader) → Further g.F.Fn l.item l.first l.kept l.reader result next
          → OneOrMore g.F.Fn l.item l.first l.fn.head l.fn.reader result next;
    }

abbrev pub decreases-loop-item : goal.decreases-loop-item
decreases-loop-item g l = length l.reader.text.now - l.reader.at
