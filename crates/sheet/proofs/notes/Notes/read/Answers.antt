use Rattle.fields.proofs.Cutting.{all_parted}
use Rattle.fields.proofs.Numerals.{numbers_law}
use Rattle.fields.proofs.Placed.{places_exact}
use Rattle.sheet.proofs.InOrder.{first_fault, entered_in_order}
use Rattle.sheet.proofs.notes.Notes.read.Goals as goal

pub returns : goal.returns
returns c = record { reads = c.read_lines.ensures; first_fault = first_fault; in_order = entered_in_order; parted = all_parted; numbers = numbers_law; places = places_exact }
