-- The pasts of one board, and what a past leaves, found from its calls and their arguments alone. Assumes nothing.
use Rattle.std.specs.Prelude.{◌≡◌, ℕ, List, [], ◌∷◌, length, Some, None, Option, nat_le}
use Rattle.refusal.specs.declared.Refusal.{Refusal}
use Rattle.refusal.specs.declared.Refusal.TheVariants.{TrialFull, NothingToTakeBack}
use Rattle.sheet.specs.declared.edit.Edit.{Edit}
use Rattle.sheet.specs.Contents.{Contents, new_sheet}
use Rattle.sheet.specs.Edits.{check, refusal, after}

-- whether a trial stands: a board outside a trial is settled
pub data Phase : Type 0 where
  Outside : Phase
  Inside : Phase

-- a call that a board takes in the first phase, and that leaves it in the second.
-- Solves will be calls of this type too, that keep the phase and carry all their arguments.
pub data Taken : Phase → Phase → Type 0 where
  Edits : {f : Phase} → Edit → Taken f f
  AsksCase : {f : Phase} → ℕ → Taken f f
  AsksPrice : {f : Phase} → ℕ → Taken f f
  Begins : Taken Outside Inside
  Keeps : Taken Inside Outside
  Reverts : Taken Inside Outside
  TakesBack : Taken Inside Inside

-- a past that ends in a phase: any calls on one new board, refused ones included
pub data Past : Phase → Type 0 where
  New : Past Outside
  Then : {f g : Phase} → Past f → Taken f g → Past g

-- what a past leaves: the sheet current at its end, and the listed older sheets, the last listed first
pub record Left : Type 0 where
  pub sheet : Contents
  pub older : List Contents

abbrev pub left : Contents → List Contents → Left
left s ss = record { sheet = s; older = ss }

-- a check below the ones that gave this refusal, if any
abbrev pub or_check : Option Refusal → Option Refusal → Option Refusal
or_check None below = below
or_check (Some r) below = Some r

-- why an edit is refused. A trial remembers as many edits as there are older sheets
abbrev pub edit_refusal : Phase → Left → Edit → Option Refusal
edit_refusal Outside l e = refusal e l.sheet
edit_refusal Inside l e = or_check (refusal e l.sheet) (check (nat_le 64 (length l.older)) TrialFull None)

-- an accepted edit in a trial lists the sheet before it
abbrev pub listed : Phase → Option Refusal → Contents → List Contents → List Contents
listed Outside r s ss = ss
listed Inside None s ss = s ∷ ss
listed Inside (Some r) s ss = ss

abbrev pub edited : Phase → Option Refusal → Edit → Left → Left
edited f r e l = left (after r e l.sheet) (listed f r l.sheet l.older)

-- the first listed sheet, or the current one where none is listed
abbrev pub first_sheet : Contents → List Contents → Contents
first_sheet s [] = s
first_sheet s (t ∷ ts) = first_sheet t ts

-- the last listed sheet is current, and unlisted
abbrev pub back : Contents → List Contents → Left
back s [] = left s []
back s (t ∷ ts) = left t ts

-- why a take back is refused
abbrev pub back_refusal : List Contents → Option Refusal
back_refusal [] = Some NothingToTakeBack
back_refusal (s ∷ ss) = None

-- what a call makes of what was left. Refused calls and questions change nothing
abbrev pub called : {f g : Phase} → Taken f g → Left → Left
called (Edits {f} e) l = edited f (edit_refusal f l e) e l
called (AsksCase row) l = l
called (AsksPrice slot) l = l
called Begins l = left l.sheet []
called Keeps l = left l.sheet []
called Reverts l = left (first_sheet l.sheet l.older) []
called TakesBack l = back l.sheet l.older

abbrev pub leaves : {f : Phase} → Past f → Left
leaves New = left new_sheet []
leaves (Then h c) = called c (leaves h)

-- whatever past left l, that past and then this call leave m
abbrev pub CarriesOn : {f g : Phase} → Taken f g → Left → Left → Type 0
CarriesOn {f} c l m = (h : Past f) → leaves h ≡ l → leaves (Then h c) ≡ m
