-- What an edit in a trial leaves, remembered or not. Assumes nothing.
use Rattle.std.proofs.Common.{◌≡◌, suc, List, [], ◌∷◌, length, Some, None, Option, ◌⊎◌, inl, inr, refl, ap}
use Rattle.std.proofs.lemmas.Grind.{common_steps}
use Rattle.refusal.specs.declared.Refusal.{Refusal}
use Rattle.sheet.specs.declared.edit.Edit.{Edit}
use Rattle.sheet.specs.declared.undo.Undo.{Undo}
use Rattle.sheet.specs.Contents.{Contents}
use Rattle.sheet.specs.Edits.{refusal}
use Rattle.sheet.specs.Undoing.{undone}
use Rattle.board.specs.Views.{unwound}

cases : (q : Option Refusal) → (q ≡ None) ⊎ ((r : Refusal) × (q ≡ Some r))
cases None = inl refl
cases (Some r) = inr (r, refl)

-- an edit is accepted or refused
pub judged : (e : Edit) (s : Contents) → (refusal e s ≡ None) ⊎ ((r : Refusal) × (refusal e s ≡ Some r))
judged e s = cases (refusal e s)

-- as many sheets as entries that lead to them
pub length_unwound : (us : List Undo) (s : Contents) → length (unwound us s) ≡ length us
length_unwound [] s = refl
length_unwound (u ∷ us) s = ap suc (length_unwound us (undone u s))

pub ruleset remembering = (common_steps, judged, length_unwound)
