use Rattle.std.proofs.Common.{◌≡◌, map, length, take, pos, unwrap_or}
use Rattle.std.specs.Option.{option_map}
use Rattle.sheet.specs.Contents.{amount}
use Rattle.planning.proofs.working_sheet.ops.prices_in.Given as goal

-- the prices of the slots passed so far
abbrev pub invariant-loop-number : goal.invariant-loop-number
invariant-loop-number l = (length l.prices ≡ 64) × (take l.number l.prices ≡ map (λ o. unwrap_or (option_map amount o) (pos 0)) (take l.number l.slots))
