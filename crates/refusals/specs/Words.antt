-- What each refusal says, in words for a person.
use Rattle.std.specs.Prelude.{ℕ, List, codes}
use Rattle.refusals.specs.declared.refusal.RegisterRefusal.{RegisterRefusal}
use Rattle.refusals.specs.declared.refusal.RegisterRefusal.TheVariants.{ShortList, HighArity, FullForms, FullStates, NoState, NoForm, HighPoints, ChildCount, NoChild, FullState, NoRow, NoRoot}
use Rattle.refusals.specs.declared.refusal.PileRefusal.{PileRefusal}
use Rattle.refusals.specs.declared.refusal.PileRefusal.TheVariants.{ManyStates, ManyPlaces, LadderCount, LevelCount, HighLevel, BarForm, BarPosition}
use Rattle.refusals.specs.declared.refusal.SettleRefusal.{SettleRefusal}
use Rattle.refusals.specs.declared.refusal.SettleRefusal.TheVariants.{HasState, ManyReached, ManyRows, ForeignForm, HighRow}
use Rattle.refusals.specs.declared.refusal.TicketRefusal.{TicketRefusal}
use Rattle.refusals.specs.declared.refusal.TicketRefusal.TheVariants.{Empty, Long, Unknown, Few, Many}
use Rattle.refusals.specs.declared.refusal.SheetRefusal.{SheetRefusal}
use Rattle.refusals.specs.declared.refusal.SheetRefusal.TheVariants.{Long as SheetLong, Byte, Kind, Fields, Name, Number, Given, NotGiven, Many as SheetMany}
use Rattle.refusals.specs.declared.refusal.WorthRefusal.{WorthRefusal}
use Rattle.refusals.specs.declared.refusal.WorthRefusal.TheVariants.{Start, Scratch}
use Rattle.refusals.specs.declared.refusal.SearchRefusal.{SearchRefusal}
use Rattle.refusals.specs.declared.refusal.SearchRefusal.TheVariants.{Start as SearchStart, Lines}
use Rattle.refusals.specs.declared.refusal.Refusal.{Refusal}
use Rattle.refusals.specs.declared.refusal.Refusal.TheVariants.{Register, Pile, Settle, Ticket, Worth, Search, Sheet}

-- a refusal of the register
abbrev pub register_words : RegisterRefusal → List ℕ
register_words ShortList = codes "the list of rows is too short"
register_words HighArity = codes "the arity is above 4"
register_words FullForms = codes "there are 64 forms already"
register_words FullStates = codes "there are 64 states already"
register_words NoState = codes "there is no such state"
register_words NoForm = codes "there is no such form"
register_words HighPoints = codes "the points are above 1,000"
register_words ChildCount = codes "the number of children is not the form's arity"
register_words NoChild = codes "a child is no state"
register_words FullState = codes "the state has 32 rows already"
register_words NoRow = codes "there is no row at that place"
register_words NoRoot = codes "no root is named"

-- of a product, a ladder or a bar
abbrev pub pile_words : PileRefusal → List ℕ
pile_words ManyStates = codes "the product has over 1,024 states"
pile_words ManyPlaces = codes "the product has over 65,536 places"
pile_words LadderCount = codes "the highest level is above 8"
pile_words LevelCount = codes "there is not one level for each form"
pile_words HighLevel = codes "a level is above the highest one"
pile_words BarForm = codes "a form of the bar is not entered"
pile_words BarPosition = codes "the position is not below the outer form's arity"

-- of settle
abbrev pub settle_words : SettleRefusal → List ℕ
settle_words HasState = codes "the target has a state"
settle_words ManyReached = codes "over 64 states are reached"
settle_words ManyRows = codes "a reached state has over 32 rows"
settle_words ForeignForm = codes "a form is not in the target with that arity"
settle_words HighRow = codes "the points of a row are above 1,000"

-- of the check of a ticket
abbrev pub ticket_words : TicketRefusal → List ℕ
ticket_words Empty = codes "the ticket has no node"
ticket_words Long = codes "the ticket has over 256 nodes"
ticket_words (Unknown p) = codes "the form is not known"
ticket_words (Few p) = codes "too few children stand before this form"
ticket_words Many = codes "the ticket is more than one tree"

-- of a worth
abbrev pub worth_words : WorthRefusal → List ℕ
worth_words Start = codes "the start is no state"
worth_words Scratch = codes "the scratch is too short"

-- of a search
abbrev pub search_words : SearchRefusal → List ℕ
search_words SearchStart = codes "the start is no state"
search_words Lines = codes "the list of lines is too short"

-- of a sheet
abbrev pub sheet_words : SheetRefusal → List ℕ
sheet_words SheetLong = codes "the sheet has over 32,768 bytes"
sheet_words Byte = codes "a byte is no letter, digit, hyphen or tab"
sheet_words Kind = codes "the record kind is not known"
sheet_words Fields = codes "the number of fields is wrong"
sheet_words Name = codes "this is no name of 1 to 16 letters, digits or hyphens"
sheet_words Number = codes "this is no number of at most 65,535 without leading zeros"
sheet_words Given = codes "the name is given already"
sheet_words NotGiven = codes "the name is not given"
sheet_words SheetMany = codes "there are too many lines of this kind"

-- of any layer
abbrev pub words : Refusal → List ℕ
words (Register r) = register_words r
words (Pile r) = pile_words r
words (Settle r) = settle_words r
words (Ticket r) = ticket_words r
words (Worth r) = worth_words r
words (Search r) = search_words r
words (Sheet r) = sheet_words r
