-- A board in either phase, and any list of calls on a new one. Assumes nothing.
use Rattle.std.specs.Prelude.{List, ℤ, Some, None, fold, Option}
use Rattle.std.specs.Option.{option_map}
use Rattle.refusal.specs.declared.Refusal.{Refusal}
use Rattle.sheet.specs.Contents.{Entry, entry, amount, case_in, price_in}
use Rattle.board.specs.declared.log.Board.{Board}
use Rattle.board.specs.declared.log.Board.TheVariants.{Settled, Trial}
use Rattle.board.specs.declared.log.Call.{Call}
use Rattle.board.specs.declared.log.Call.TheVariants.{Make, AskCase, AskPrice, Begin, Keep, Revert, TakeBack}
use Rattle.board.specs.declared.log.Reply.{Reply}
use Rattle.board.specs.declared.log.Reply.TheVariants as reply
use Rattle.board.specs.Past.{Phase, Phase.Outside, Phase.Inside, Taken.Edits, Taken.AsksCase, Taken.AsksPrice, Taken.Begins, Taken.Keeps, Taken.Reverts, Taken.TakesBack, Past, Past.New, Past.Then, Left, called, leaves, edit_refusal, back_refusal}
use Rattle.board.specs.Views.{settled_view, trial_view}

-- how a board stands: its phase, its sheet and the older ones
pub record Standing : Type 0 where
  pub phase : Phase
  pub left : Left

abbrev pub standing : Phase → Left → Standing
standing f l = record { phase = f; left = l }

abbrev pub stands : Board → Standing
stands (Settled b) = standing Outside (settled_view b)
stands (Trial t) = standing Inside (trial_view t)

-- how a board stands after a call. A call that the phase does not take changes nothing
abbrev pub performed_in : Phase → Left → Call → Standing
performed_in f l (Make e) = standing f (called (Edits {f = f} e) l)
performed_in f l (AskCase row) = standing f (called (AsksCase {f = f} row) l)
performed_in f l (AskPrice slot) = standing f (called (AsksPrice {f = f} slot) l)
performed_in Outside l Begin = standing Inside (called Begins l)
performed_in Outside l Keep = standing Outside l
performed_in Outside l Revert = standing Outside l
performed_in Outside l TakeBack = standing Outside l
performed_in Inside l Begin = standing Inside l
performed_in Inside l Keep = standing Outside (called Keeps l)
performed_in Inside l Revert = standing Outside (called Reverts l)
performed_in Inside l TakeBack = standing Inside (called TakesBack l)

abbrev pub performed : Standing → Call → Standing
performed b c = performed_in b.phase b.left c

-- a past, with the phase that it ends in
pub record Story : Type 0 where
  pub phase : Phase
  pub past : Past phase

abbrev pub story : {f : Phase} → Past f → Story
story {f} h = record { phase = f; past = h }

-- how a board stands after a past
abbrev pub ends : Story → Standing
ends st = standing st.phase (leaves st.past)

-- a past with one call more, if the phase takes it. A call that it does not take is no call of the past
abbrev pub told_in : (f : Phase) → Past f → Call → Story
told_in f h (Make e) = story (Then h (Edits e))
told_in f h (AskCase row) = story (Then h (AsksCase row))
told_in f h (AskPrice slot) = story (Then h (AsksPrice slot))
told_in Outside h Begin = story (Then h Begins)
told_in Outside h Keep = story h
told_in Outside h Revert = story h
told_in Outside h TakeBack = story h
told_in Inside h Begin = story h
told_in Inside h Keep = story (Then h Keeps)
told_in Inside h Revert = story (Then h Reverts)
told_in Inside h TakeBack = story (Then h TakesBack)

abbrev pub told : Story → Call → Story
told st c = told_in st.phase st.past c

-- the past of a list of calls on a new board
abbrev pub history : List Call → Story
history calls = fold told (story New) calls

-- what a reply says, in plain numbers
pub data Said : Type 0 where
  Done : Said
  Refused : Refusal → Said
  Case : Option Entry → Said
  Price : Option ℤ → Said
  Begun : Said
  Ended : Said
  NotTaken : Said

abbrev pub said : Reply → Said
said reply.Done = Done
said (reply.Refused r) = Refused r
said (reply.Case c) = Case (option_map entry c)
said (reply.Price p) = Price (option_map amount p)
said reply.Begun = Begun
said reply.Ended = Ended
said reply.NotTaken = NotTaken

abbrev pub outcome : Option Refusal → Said
outcome None = Done
outcome (Some r) = Refused r

-- the reply that a board owes to a call
abbrev pub owed_in : Phase → Left → Call → Said
owed_in f l (Make e) = outcome (edit_refusal f l e)
owed_in f l (AskCase row) = Case (case_in l.sheet row)
owed_in f l (AskPrice slot) = Price (price_in l.sheet slot)
owed_in Outside l Begin = Begun
owed_in Outside l Keep = NotTaken
owed_in Outside l Revert = NotTaken
owed_in Outside l TakeBack = NotTaken
owed_in Inside l Begin = NotTaken
owed_in Inside l Keep = Ended
owed_in Inside l Revert = Ended
owed_in Inside l TakeBack = outcome (back_refusal l.older)

abbrev pub owed : Standing → Call → Said
owed b c = owed_in b.phase b.left c
