use Rattle.std.proofs.Common.{◌≡◌, ◌+◌, true, false, not, length, get_or, take, drop, set, sym, ap, ◌∙◌, arith}
use Rattle.std.proofs.lemmas.List.{drop-set-lt, get_or-set_same, length-set, take_more_same, take-set}
use Rattle.std.proofs.lemmas.Bool.{not-false, not-true}
use Rattle.slot_set.specs.Sets.{single}
use Rattle.planning.specs.Working.{given as given_in}
use Rattle.bound.specs.Bound.{bound_new}
use Rattle.bound.specs.Tables.{rows_in}
use Rattle.bound.proofs.Counting.{set_read, sets_long}
use Rattle.bound.proofs.Strikes.{drop_more_same, drop_reads, length_new, new_fixed, new_free}
use Rattle.bound.proofs.strike.Strike.struck_sets.Goals as goal
use Rattle.bound.proofs.strike.Strike.struck_sets.Goals.{then-is_free, else-is_free}

pub loop-case-preserved : goal.loop-case-preserved
loop-case-preserved g c =
    let w = c.args.self.now.work.now in
    let charges = g.T.Tariff.charges c.args.self.now.tariff.now in
    let ceiling = c.args.self.now.ceiling in
    let i = c.loop-case.case in
    let long = sets_long w _ c.sets-set-items.ensures in
    let next = c.loop-case.next in
    let es = bound_new (given_in w charges) ceiling (rows_in w) in
    let wide : length es ≡ w.count = length_new w charges ceiling in
    let full = c.loop-case.invariant.0 in
    let read = set_read w _ i c.sets-set-items.ensures (omega arith) in
    elim c.if-is_free.branch [
      | then-is_free v ↦
          let alone : single (get_or w.sets i 0) ≡ false = not-true _ (sym (v.if-is_free.ensures ∙ ap (λ d. not (single d)) read)) in
          let x = v.affordable_slots.result in
          let kept : length (set next i x) ≡ length next = length-set next i x in (
            ap length v.next-is ∙ kept ∙ full,
            ap (take (i + 1)) v.next-is ∙ take_more_same (set next i x) es i 0 (omega arith) (omega arith)
                (take-set next i x ∙ c.loop-case.invariant.1)
                (get_or-set_same next i x 0 (omega arith) ∙ new_free w charges ceiling c.args.self.now.figures.now c.args.self.now.right c.args.self.now.enough i (omega arith) alone x v.affordable_slots.ensures),
            ap (drop (i + 1)) v.next-is ∙ drop-set-lt (i + 1) next i x (omega arith) ∙ drop_more_same i next w.sets c.loop-case.invariant.2,
          )
      | else-is_free v ↦
          let alone : single (get_or w.sets i 0) ≡ true = not-false _ (sym (v.if-is_free.ensures ∙ ap (λ d. not (single d)) read)) in (
            ap length v.next-is ∙ full,
            ap (take (i + 1)) v.next-is ∙ take_more_same next es i 0 (omega arith) (omega arith) c.loop-case.invariant.1
                (drop_reads i next w.sets c.loop-case.invariant.2 ∙ new_fixed w charges ceiling i (omega arith) alone),
            ap (drop (i + 1)) v.next-is ∙ drop_more_same i next w.sets c.loop-case.invariant.2,
          )
    ]
