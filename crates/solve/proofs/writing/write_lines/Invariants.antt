use Rattle.std.proofs.Common.{◌≡◌, take}
use Rattle.planning.specs.Working.{given as sheet_given}
use Rattle.solve.specs.Lines.{written}
use Rattle.solve.proofs.writing.write_lines.Given as goal

-- the lines of the cases passed so far
abbrev pub invariant-loop-case : goal.invariant-loop-case
invariant-loop-case g l = l.plan ≡ written (sheet_given l.work (g.T.Tariff.charges l.tariff)) (take l.work.count l.work.rows) l.slots l.case l.initial.plan
