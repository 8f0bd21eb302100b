-- When each edit is refused, and what it does to a sheet. Assumes nothing.
use Rattle.std.specs.Prelude.{ℕ, Bool, cond, not, ◌||◌, ℤ, pos, negsuc, is_some, Some, None, Ok, Err, Option, Result, ◌==◌, int_lt, nat_lt}
use Rattle.refusal.specs.declared.Refusal.{Refusal}
use Rattle.refusal.specs.declared.Refusal.TheVariants.{RowRange, RowTaken, RowEmpty, NeedRange, NoSlots, SlotRange, PriceRange, SlotClosed}
use Rattle.sheet.specs.declared.edit.Edit.{Edit}
use Rattle.sheet.specs.declared.edit.Edit.TheVariants.{Enter, Withdraw, Allow, Price, Close}
use Rattle.sheet.specs.Contents.{Entry, Contents, entry_of, case_in, price_in, with_row, with_slot}

-- one check of a table: refused with r where the test hits, else whatever the checks below it say
abbrev pub check : Bool → Refusal → Option Refusal → Option Refusal
check hit r below = cond hit (Some r) below

abbrev pub slots_refusal : ℕ → Option Refusal
slots_refusal allowed = check (allowed == 0) NoSlots None

abbrev pub case_refusal : ℕ → ℕ → Option Refusal
case_refusal need allowed = check (nat_lt need 1 || nat_lt 20000 need) NeedRange (slots_refusal allowed)

abbrev pub price_refusal : ℤ → Option Refusal
price_refusal price = check (int_lt price (negsuc 49999) || int_lt (pos 50000) price) PriceRange None

-- why an edit is refused on a sheet, the first check that hits; nothing where it is accepted
abbrev pub refusal : Edit → Contents → Option Refusal
refusal (Enter row need allowed) s = check (nat_lt 15 row) RowRange (check (is_some (case_in s row)) RowTaken (case_refusal need allowed))
refusal (Withdraw row) s = check (nat_lt 15 row) RowRange (check (not (is_some (case_in s row))) RowEmpty None)
refusal (Allow row allowed) s = check (nat_lt 15 row) RowRange (check (not (is_some (case_in s row))) RowEmpty (slots_refusal allowed))
refusal (Price slot price) s = check (nat_lt 63 slot) SlotRange (price_refusal price)
refusal (Close slot) s = check (nat_lt 63 slot) SlotRange (check (not (is_some (price_in s slot))) SlotClosed None)

-- the case with another allowed set
abbrev pub allowing : ℕ → Option Entry → Option Entry
allowing allowed None = None
allowing allowed (Some e) = Some (entry_of e.need allowed)

-- the one change that an accepted edit makes
abbrev pub change : Edit → Contents → Contents
change (Enter row need allowed) s = with_row s row (Some (entry_of need allowed))
change (Withdraw row) s = with_row s row None
change (Allow row allowed) s = with_row s row (allowing allowed (case_in s row))
change (Price slot price) s = with_slot s slot (Some price)
change (Close slot) s = with_slot s slot None

-- the sheet after an edit: changed, or untouched where it was refused
abbrev pub after : Option Refusal → Edit → Contents → Contents
after None e s = change e s
after (Some r) e s = s

-- what a call answers
abbrev pub answer : Option Refusal → Result (Unit {0}) Refusal
answer None = Ok tt
answer (Some r) = Err r
