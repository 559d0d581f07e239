use Rattle.std.proofs.Common.{refl}
use Rattle.automata.proofs.Sampled.{yes_accepts}
use Rattle.automata.proofs.yes_no.YesNo.yes.Goals as goal

pub returns : goal.returns
returns c = record { value = refl; accepts = yes_accepts }
