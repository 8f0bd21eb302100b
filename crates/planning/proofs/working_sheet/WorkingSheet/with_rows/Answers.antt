use Rattle.std.proofs.Common.{◌≡◌, ℕ, ◌<◌, ◌++◌, map, length, get_or, None, sym, ap, ◌∙◌, arith}
use Rattle.std.specs.Option.{option_map}
use Rattle.std.proofs.lemmas.List.{get_or-map, length-map}
use Rattle.slot_set.specs.Sets.{has, keep}
use Rattle.sheet.specs.Contents.{entry}
use Rattle.planning.specs.Standing.{Standing, placed}
use Rattle.planning.specs.Working.{sets_in}
use Rattle.planning.proofs.WorkingTables.{standing_more}
use Rattle.planning.proofs.working_sheet.WorkingSheet.with_rows.Goals as goal

pub loop-row-preserved : goal.loop-row-preserved
loop-row-preserved c =
    let R = c.args.rows.now in
    let E = map (option_map entry) R in
    let i = c.loop-row.row in
    let o = option_map entry (get_or R i c.index-rows-row.result) in
    let opened = c.args.self.opened in
    let inside : i < length E = omega (arith, length-map R (option_map entry)) in
    let here : get_or E i None ≡ o = get_or-map (option_map entry) R i c.index-rows-row.result None (omega arith) in
    let inv = c.loop-row.invariant in
    let made = c.with_row-work.ensures in (
      omega (arith, made.count, inv.0),
      made.rows ∙ ap (λ xs. xs ++ map (λ (x : Standing). x.row) (placed i o)) inv.1 ∙ sym (standing_more (λ x. x.row) E i o inside here),
      made.needs ∙ ap (λ xs. xs ++ map (λ (x : Standing). x.entry.need) (placed i o)) inv.2 ∙ sym (standing_more (λ x. x.entry.need) E i o inside here),
      made.sets
          ∙ ap (λ (w : ℕ). sets_in c.loop-row.work ++ map (λ (x : Standing). keep (has w) x.entry.allowed) (placed i o)) inv.5
          ∙ ap (λ xs. xs ++ map (λ (x : Standing). keep (has opened) x.entry.allowed) (placed i o)) inv.3
          ∙ sym (standing_more (λ x. keep (has opened) x.entry.allowed) E i o inside here),
      made.prices ∙ inv.4,
      made.opened ∙ inv.5,
    )
