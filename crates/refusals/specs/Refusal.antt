-- What each refusal says: its layer's word and its number, and for a refused node its place.
use Rattle.std.specs.Prelude.{ℕ, List, Some, None, codes, Option}
use Rattle.refusals.specs.declared.refusal.RegisterRefusal.TheVariants.{ShortList, HighArity, FullForms, FullStates, NoState, NoForm, HighPoints, ChildCount, NoChild, FullState, NoRow, NoRoot}
use Rattle.refusals.specs.declared.refusal.PileRefusal.TheVariants.{ManyStates, ManyPlaces, LadderCount, LevelCount, HighLevel, BarForm, BarPosition}
use Rattle.refusals.specs.declared.refusal.SettleRefusal.TheVariants.{HasState, ManyReached, ManyRows, ForeignForm, HighRow}
use Rattle.refusals.specs.declared.refusal.TicketRefusal.{TicketRefusal}
use Rattle.refusals.specs.declared.refusal.TicketRefusal.TheVariants.{Empty, Long, Unknown, Few, Many}
use Rattle.refusals.specs.declared.refusal.WorthRefusal.TheVariants.{Start, Scratch}
use Rattle.refusals.specs.declared.refusal.SearchRefusal.TheVariants.{Start as SearchStart, Lines}
use Rattle.refusals.specs.declared.refusal.SheetRefusal.TheVariants.{Long as SheetLong, Byte, Kind, Fields, Name, Number, Given, NotGiven, Many as SheetMany}
use Rattle.refusals.specs.declared.refusal.Refusal.{Refusal}
use Rattle.refusals.specs.declared.refusal.Refusal.TheVariants.{Register, Pile, Settle, Ticket, Worth, Search, Sheet}

pub record Report : Type 0 where
  pub layer : List ℕ
  pub number : ℕ

abbrev register : ℕ → Report
register n = record { layer = codes "register"; number = n }

abbrev pile : ℕ → Report
pile n = record { layer = codes "pile"; number = n }

abbrev settle : ℕ → Report
settle n = record { layer = codes "settle"; number = n }

abbrev ticket : ℕ → Report
ticket n = record { layer = codes "ticket"; number = n }

abbrev worth : ℕ → Report
worth n = record { layer = codes "worth"; number = n }

abbrev search : ℕ → Report
search n = record { layer = codes "search"; number = n }

abbrev sheet : ℕ → Report
sheet n = record { layer = codes "sheet"; number = n }

abbrev pub report : Refusal → Report
report (Register ShortList) = register 10
report (Register HighArity) = register 11
report (Register FullForms) = register 12
report (Register FullStates) = register 13
report (Register NoState) = register 14
report (Register NoForm) = register 15
report (Register HighPoints) = register 16
report (Register ChildCount) = register 17
report (Register NoChild) = register 18
report (Register FullState) = register 19
report (Register NoRow) = register 20
report (Register NoRoot) = register 21
report (Pile ManyStates) = pile 22
report (Pile ManyPlaces) = pile 23
report (Pile LadderCount) = pile 24
report (Pile LevelCount) = pile 25
report (Pile HighLevel) = pile 26
report (Pile BarForm) = pile 27
report (Pile BarPosition) = pile 28
report (Settle HasState) = settle 31
report (Settle ManyReached) = settle 32
report (Settle ManyRows) = settle 33
report (Settle ForeignForm) = settle 34
report (Settle HighRow) = settle 35
report (Ticket Empty) = ticket 41
report (Ticket Long) = ticket 42
report (Ticket (Unknown p)) = ticket 43
report (Ticket (Few p)) = ticket 44
report (Ticket Many) = ticket 45
report (Worth Start) = worth 46
report (Worth Scratch) = worth 47
report (Search SearchStart) = search 46
report (Search Lines) = search 48
report (Sheet SheetLong) = sheet 51
report (Sheet Byte) = sheet 52
report (Sheet Kind) = sheet 53
report (Sheet Fields) = sheet 54
report (Sheet Name) = sheet 55
report (Sheet Number) = sheet 56
report (Sheet Given) = sheet 57
report (Sheet NotGiven) = sheet 58
report (Sheet SheetMany) = sheet 59

-- the place of the refused node, from 0
abbrev pub ticket_node : TicketRefusal → Option ℕ
ticket_node Empty = None
ticket_node Long = None
ticket_node (Unknown p) = Some p
ticket_node (Few p) = Some p
ticket_node Many = None
