use Rattle.std.proofs.Common.{◌^◌, ◌<◌, get_or, refl, rules}
use Rattle.search.proofs.Undone.{change_fits, since_push}
use Rattle.search.proofs.trail.Trail.change.Goals as goal

pub put-requires : goal.put-requires
put-requires c = let h : get_or c.args.self.now.sheet.sets c.args.row 0 < 2 ^ 64 = search rules in
    change_fits c.args.self.now c.args.row c.args.word (search rules) h c.requires.row c.requires.part c.if-slots-word.true

pub returns-then-slots-word-clause-since : goal.returns-then-slots-word-clause-since
returns-then-slots-word-clause-since c = since_push c.args.self.now _ c.args.row c.args.word c.put.ensures.higher c.put.ensures.pushed refl
