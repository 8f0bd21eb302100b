use Rattle.std.proofs.Common.{rules, ◌≡◌, ℕ, ◌≤◌, false, is_some, ap, ◌∙◌, None}
use Rattle.std.proofs.lemmas.Bool.{cond-true, lt-ltb}
use Rattle.slot_set.specs.Sets.{has, keep}
use Rattle.slot_set.proofs.Keeps.{keep_all}
use Rattle.sheet.specs.Contents.{contents, is_open}
use Rattle.sheet.proofs.Sheet.open_slots.Goals as goal

pub returns : goal.returns
returns c slot =
    let f = is_open (contents c.args.self.now) in
    let none : (s : ℕ) → 64 ≤ s → f s ≡ false = λ s l. ap is_some (cond-true _ None _ (lt-ltb 63 s l)) in
    ap (λ w. has w slot) (c.filter.ensures f (λ s b l k. search rules) ∙ ap (keep f) c.from.ensures)
    ∙ keep_all f none slot
