use Rattle.std.proofs.Common.{◌≡◌, ◌-◌, false, ◌∷◌, set, take, ap, ◌∙◌, arith}
use Rattle.stack.specs.Entries.{held}
use Rattle.planning.specs.Working.{given}
use Rattle.search_rules.specs.Search.{visit}
use Rattle.search.specs.Counts.{ceiling_of, state}
use Rattle.search.specs.Frames.{goes}
use Rattle.search.specs.Runs.{outcome_from}
use Rattle.search.specs.Trails.{saved_at, sets_at}
use Rattle.search.proofs.Alike.{alike_back}
use Rattle.search.proofs.Going.{turn_enters}
use Rattle.search.proofs.Undone.{held_length}
use Rattle.search.proofs.exploration.Exploration.turn.Goals as goal

pub returns-clause-turned : goal.returns-clause-turned
returns-clause-turned g c =
    let x = c.args.self.now in
    let h = x.trail.sheet in
    let w = g.T.Tariff.charges c.args.tariff.now in
    let f = g.P.Pruner.prunes c.args.pruner.now in
    let t = c.change.new.self in
    let k = c.height-depth.result in
    let s = c.in-Some.slot in
    let rest = c.take_latest-latest.new.stack in
    let here = state h.count false x.tally (ceiling_of c.args.guard.now) in
    let len = held_length rest rest.low in
    let slen = held_length x.trail.saved x.trail.saved.low in
    c.enter.ensures.visited
    ∙ alike_back h t.sheet w (λ y n. goes y f x.limit n (set x.plan k s) (held c.put.new.stack) (saved_at c.mark-mark.result t) (sets_at c.mark-mark.result t) (visit y f x.limit (n - c.put.new.stack.height) (take c.put.new.stack.height (set x.plan k s)) (take n t.sheet.sets) (state n false x.tally (ceiling_of c.args.guard.now))) ≡ outcome_from w f false (ceiling_of c.args.guard.now) x) c.change.ensures.sheet
    (turn_enters (given h w) f x.limit h.count x.plan c.take_latest-latest.result (held rest) (held x.decisions) (held c.put.new.stack) (held x.trail.saved) (held t.saved) h.sets t.sheet.sets here k s c.mark-mark.result c.put.new.stack.height c.only.result
    c.take_latest-latest.ensures.popped (c.put.ensures.pushed ∙ ap (λ d. d ∷ held rest) c.tried.ensures) (omega arith) (omega arith) (omega arith) c.in-Some.ensures.2 c.change.ensures.sets c.only.ensures (omega arith) (omega arith)
    (c.change.ensures.since.sets c.mark-mark.result (omega arith)) (c.change.ensures.since.saved c.mark-mark.result (omega arith)))
