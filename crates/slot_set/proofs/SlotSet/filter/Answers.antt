use Rattle.std.proofs.Common.{◌&&◌, ap, ◌∙◌, arith}
use Rattle.std.proofs.lemmas.Bool.{lt-ltb}
use Rattle.slot_set.specs.Sets.{has}
use Rattle.slot_set.proofs.Keeps.{is_keep}
use Rattle.slot_set.proofs.SlotSet.filter.Goals as goal

pub returns : goal.returns
returns g c p h =
    let word = c.args.self.word in
    let i = c.loop-slot.slot in
    is_keep p word c.loop-slot.kept.word c.loop-slot.invariant.0
    (λ s l. c.loop-slot.invariant.1 p h s ∙ ap (λ b. b && (has word s && p s)) (lt-ltb s i (omega arith)))
