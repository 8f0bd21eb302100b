use Rattle.std.proofs.Common.{◌≡◌, ℕ, ◌<◌, false, List, take, Option, sym, refl, ap, ◌∙◌, subst, arith, w64, SFits, to_z, of_z, rules}
use Rattle.std.proofs.lemmas.Int.{to_z-of_z}
use Rattle.stack.specs.Entries.{held}
use Rattle.planning.specs.Working.{given, sets_in}
use Rattle.search.specs.Counts.{ceiling_of, state}
use Rattle.search.specs.Frames.{goes}
use Rattle.search.specs.Runs.{Asked, visited_from}
use Rattle.search.specs.Trails.{saved_at, sets_at}
use Rattle.search.proofs.Alike.{alike_back}
use Rattle.search.proofs.Entering.{entered_stop, entered_asked}
use Rattle.search.proofs.Undone.{held_length}
use Rattle.search.proofs.exploration.Exploration.enter.Goals as goal

pub returns-in_err-count_step-clause-visited : goal.returns-in_err-count_step-clause-visited
returns-in_err-count_step-clause-visited g c =
    let x = c.args.self.now in
    let h = x.trail.sheet in
    let w = g.T.Tariff.charges c.args.tariff.now in
    let f = g.P.Pruner.prunes c.args.pruner.now in
    let k = c.in_err-count_step.ensures in
    ap (λ b. goes (given h w) f x.limit h.count x.plan (held x.decisions) (held x.trail.saved) h.sets (state h.count b c.count_step.new.self (ceiling_of c.args.guard.now))) c.from_residual.ensures.0
    ∙ entered_stop (given h w) f x.limit h.count x.plan (held x.decisions) (held x.trail.saved) (saved_at c.args.mark x.trail) h.sets (sets_at c.args.mark x.trail) _ _ _ x.tally c.count_step.new.self (ceiling_of c.args.guard.now) k.0 k.1

pub returns-in_default-clause-visited : goal.returns-in_default-clause-visited
returns-in_default-clause-visited g c =
    let x = c.args.self.now in
    let h = x.trail.sheet in
    let w = g.T.Tariff.charges c.args.tariff.now in
    let f = g.P.Pruner.prunes c.args.pruner.now in
    let k = c.in_ok-count_step.ensures in
    let t = c.put_back-in_default.new.self in
    let r : SFits w64 c.value.result = search rules in
    let z : to_z w64 (of_z w64 c.value.result) ≡ ceiling_of c.args.guard.now = to_z-of_z w64 c.value.result r ∙ c.value.ensures in
    let under : x.decisions.height < h.count = omega arith in
    let asked : Asked (f (given h w) (to_z w64 (of_z w64 c.value.result)) (sets_in h)) h.count c.args.mark x.trail (held x.decisions) t (held x.decisions) =
    subst (λ (o : Option (List ℕ)). Asked o h.count c.args.mark x.trail (held x.decisions) t (held x.decisions)) c.in_default.ensures.meaning (refl, c.put_back-in_default.ensures.sets, c.put_back-in_default.ensures.saved) in
    alike_back h t.sheet w (λ y n. goes y f x.limit n x.plan (held x.decisions) (held t.saved) t.sheet.sets (state n false c.count_step.new.self (ceiling_of c.args.guard.now)) ≡ visited_from w f c.args.mark (ceiling_of c.args.guard.now) x) c.put_back-in_default.ensures.sheet
    (entered_asked (given h w) f x.limit h.count x.plan (held x.decisions) (held x.decisions) c.args.mark x.trail t x.decisions.height x.tally c.count_step.new.self (to_z w64 (of_z w64 c.value.result)) (ceiling_of c.args.guard.now)
    k.0 under (held_length x.decisions x.decisions.low) (omega arith) k.1 z asked)

pub returns-clause-visited : goal.returns-clause-visited
returns-clause-visited g c =
    let x = c.args.self.now in
    let h = x.trail.sheet in
    let w = g.T.Tariff.charges c.args.tariff.now in
    let f = g.P.Pruner.prunes c.args.pruner.now in
    let k = c.in_ok-count_step.ensures in
    let t = c.adopt.new.self in
    let r : SFits w64 c.value.result = search rules in
    let z : to_z w64 (of_z w64 c.value.result) ≡ ceiling_of c.args.guard.now = to_z-of_z w64 c.value.result r ∙ c.value.ensures in
    let under : x.decisions.height < h.count = omega arith in
    let asked : Asked (f (given h w) (to_z w64 (of_z w64 c.value.result)) (sets_in h)) h.count c.args.mark x.trail (held x.decisions) t (held c.put.new.stack) =
    subst (λ (o : Option (List ℕ)). Asked o h.count c.args.mark x.trail (held x.decisions) t (held c.put.new.stack)) c.in-Some.ensures.meaning
    (c.put.ensures.pushed, ap (λ n. take n t.sheet.sets) (sym c.adopt.ensures.sheet.count) ∙ c.adopt.ensures.sets, c.adopt.ensures.since.sets c.args.mark c.requires, c.adopt.ensures.since.saved c.args.mark c.requires) in
    alike_back h t.sheet w (λ y n. goes y f x.limit n x.plan (held c.put.new.stack) (held t.saved) t.sheet.sets (state n false c.count_step.new.self (ceiling_of c.args.guard.now)) ≡ visited_from w f c.args.mark (ceiling_of c.args.guard.now) x) c.adopt.ensures.sheet
    (entered_asked (given h w) f x.limit h.count x.plan (held x.decisions) (held c.put.new.stack) c.args.mark x.trail t x.decisions.height x.tally c.count_step.new.self (to_z w64 (of_z w64 c.value.result)) (ceiling_of c.args.guard.now)
    k.0 under (held_length x.decisions x.decisions.low) (omega arith) k.1 z asked)
