use Rattle.std.proofs.Common.{◌≡◌, [], ◌∷◌, ◌++◌, map, take, pos, unwrap_or, sym, ap, ◌∙◌, arith, to_z-of_z, w64, to_z, of_z}
use Rattle.std.specs.Option.{option_map}
use Rattle.std.proofs.lemmas.List.{take_more_set, map_more, length-set, take_all}
use Rattle.sheet.specs.Contents.{amount}
use Rattle.planning.proofs.working_sheet.ops.prices_in.Goals as goal

pub loop-number-preserved : goal.loop-number-preserved
loop-number-preserved c =
    let i = c.loop-number.number in
    let prices = c.loop-number.prices in
    let v = to_z w64 (of_z w64 c.price_or_zero.result) in
    let is : v ≡ c.price_or_zero.result = to_z-of_z {w = w64} (record { sfits = c.price_or_zero.type_inv }) in (
      length-set prices i v ∙ c.loop-number.invariant.0,
      take_more_set prices i v (omega arith) ∙ ap (λ xs. xs ++ (v ∷ [])) c.loop-number.invariant.1 ∙ ap (λ x. map (λ o. unwrap_or (option_map amount o) (pos 0)) (take i c.args.slots.now) ++ (x ∷ [])) (is ∙ c.price_or_zero.ensures) ∙ sym (map_more (λ o. unwrap_or (option_map amount o) (pos 0)) c.args.slots.now i _ (omega arith)),
    )

pub returns : goal.returns
returns c =
    let i = c.loop-number.number in
    sym (take_all i c.loop-number.prices (omega arith)) ∙ c.loop-number.invariant.1 ∙ ap (map (λ o. unwrap_or (option_map amount o) (pos 0))) (take_all i c.args.slots.now (omega arith))
