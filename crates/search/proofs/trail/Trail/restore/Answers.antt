use Rattle.std.proofs.Common.{◌∙◌}
use Rattle.std.proofs.lemmas.List.{length-set}
use Rattle.stack.specs.Entries.{held}
use Rattle.search.proofs.Undone.{restored, through_top}
use Rattle.search.proofs.trail.Trail.restore.Goals as goal

pub invariant_of-sheet : goal.invariant_of-sheet
invariant_of-sheet c =
    let t = c.args.self.now in
    let back = restored t.sheet.opened (held t.saved) t.sheet.sets t.through c.take_latest-entry.result (held c.take_latest-entry.new.stack) c.take_latest-entry.ensures.popped in
    (t.sheet.places, (length-set t.sheet.sets _ _ ∙ t.sheet.sized, (t.sheet.few, (t.sheet.needed, (t.sheet.priced, ((through_top t.sheet.opened (held c.take_latest-entry.new.stack) _ back).usable, tt))))))
