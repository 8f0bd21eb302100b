-- A call told to a past and a call performed on what it left come to the same. Assumes nothing.
use Rattle.std.proofs.Common.{◌≡◌, refl, ap, ◌∙◌}
use Rattle.board.specs.declared.log.Call.{Call}
use Rattle.board.specs.declared.log.Call.TheVariants.{Make, AskCase, AskPrice, Begin, Keep, Revert, TakeBack}
use Rattle.board.specs.Past.{Phase, Phase.Outside, Phase.Inside, Past, leaves}
use Rattle.board.specs.Log.{Standing, Story, ends, told, told_in, performed, performed_in}

told_performs : (f : Phase) (h : Past f) (c : Call) → ends (told_in f h c) ≡ performed_in f (leaves h) c
told_performs f h (Make e) = refl
told_performs f h (AskCase row) = refl
told_performs f h (AskPrice slot) = refl
told_performs Outside h Begin = refl
told_performs Outside h Keep = refl
told_performs Outside h Revert = refl
told_performs Outside h TakeBack = refl
told_performs Inside h Begin = refl
told_performs Inside h Keep = refl
told_performs Inside h Revert = refl
told_performs Inside h TakeBack = refl

pub told_stands : (st : Story) (c : Call) (b : Standing) → ends st ≡ b → ends (told st c) ≡ performed b c
told_stands st c b e = told_performs st.phase st.past c ∙ ap (λ b. performed b c) e
