use Rattle.std.proofs.Common.{◌≡◌, ◌∷◌, [], subst, rules}
use Rattle.std.proofs.lemmas.Fn.{fold_over, slice_gives, fronts}
use Rattle.std.proofs.lemmas.List.Sums.{fold-append}
use Rattle.board.specs.Past.{Past.New}
use Rattle.board.specs.Log.{stands, story, ends, told, history}
use Rattle.board.proofs.log.Board.replay.Goals as goal

pub returns : goal.returns
returns c = subst (λ calls. stands c.fold.result ≡ ends (history calls)) c.iter.ensures.rest
    (fold_over fronts (λ x. x.now) _ (λ calls board. stands board ≡ ends (history calls)) _ (λ calls a x b f' j k. let more = fold-append told (story New) calls (x.now ∷ []) in search rules)
    _ _ _ _ (slice_gives c.iter.result) (search rules) c.fold.ensures.ran)
