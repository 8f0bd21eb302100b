use Rattle.std.proofs.Common.{arith}
use Rattle.std.proofs.lemmas.Int.{ints}
use Rattle.pruners.proofs.Totals.{sum_more}
use Rattle.pruners.proofs.sum.total_of.Goals as goal

pub loop-charge-preserved : goal.loop-charge-preserved
loop-charge-preserved c =
    let i = c.loop-charge.charge-index in
    let b = c.requires.small i (omega arith) in
    let d = sum_more c.args.charges.now i (omega arith) in
    record { added = omega (arith, ints); small = record { low = omega (arith, ints); high = omega (arith, ints) } }
