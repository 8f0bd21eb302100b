use Rattle.std.proofs.Common.{sym, ap, ◌∙◌, arith}
use Rattle.sheet.specs.Edits.{answer}
use Rattle.sheet.proofs.Allowing.{refused_alike, left_alike, done_alike}
use Rattle.sheet.proofs.Sheet.allow.Goals as goal

pub returns : goal.returns
returns c =
    let s = c.args.self.now in
    let row = c.args.row in
    let allowed = c.args.allowed in
    let d = c.index-self-row.result in
    let new = c.allow_in.new.row in
    let said = c.allow_in.ensures.said in
    let left = c.allow_in.ensures.left in
    record {
      said = said ∙ ap answer (sym (refused_alike s row allowed d new (omega arith) (omega arith)));
      left = left_alike s row allowed d new (omega arith) (omega arith) c.allow_in.result said left;
      done = done_alike s row allowed d new (omega arith) (omega arith) c.allow_in.result left;
    }
