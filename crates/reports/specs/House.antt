-- What is listed in an answer.
use Rattle.std.specs.Prelude.{ℕ, Ok, Err, Result, Vec}
use Rattle.std.specs.declared.alloc.Global.{Global}
use Rattle.fields.specs.declared.fault.Stop.{Stop}
use Rattle.reports.specs.declared.house.House.{House}

-- the listing of a call that returns one with a report
abbrev pub listing_in : Result House Stop → Result (Vec ℕ Global) Stop
listing_in (Ok h) = Ok h.listing
listing_in (Err e) = Err e
