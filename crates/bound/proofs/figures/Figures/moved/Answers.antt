use Rattle.std.proofs.Common.{◌+◌, arith}
use Rattle.std.proofs.lemmas.Int.{ints}
use Rattle.bound.proofs.figures.Figures.moved.Goals as goal

pub total-requires : goal.total-requires
total-requires c =
    let la = c.args.self.now.small_level c.args.a in
    let sb = c.requires.side c.args.b in
    let sa = c.requires.side c.args.a in
    let ln = c.args.self.now.small_level c.args.self.now.cases in
    let lb = c.args.self.now.small_level (c.args.b + 1) in
    let fixed = c.args.self.now.small_fixed in
    record {
      first = let e = c.total-before.ensures in record { low = omega (arith, ints); high = omega (arith, ints) };
      second = let e = c.difference-between.ensures in record { low = omega (arith, ints); high = omega (arith, ints) };
      third = let e = c.difference-after.ensures in record { low = omega (arith, ints); high = omega (arith, ints) };
    }
