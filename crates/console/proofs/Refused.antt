-- A refusal's number is above 0, and only what reading refuses has a place.
use Rattle.std.proofs.Common.{◌<◌, lit<}
use Rattle.records.specs.declared.bodies.Unreadable.{Unreadable}
use Rattle.callcontrol.specs.declared.step.Refusal.{Refusal}
use Rattle.callcontrol.specs.Step.{answer_number}
use Rattle.console.specs.declared.route.ConsoleRefusal.{ConsoleRefusal}
use Rattle.console.specs.Route.{console_number}

pub step_refused : (a : Refusal) → 0 < answer_number a
step_refused Refusal.NotSound = lit< tt
step_refused (Refusal.Unreadable Unreadable.BadLength) = lit< tt
step_refused (Refusal.Unreadable Unreadable.UnknownKind) = lit< tt
step_refused (Refusal.Unreadable Unreadable.Retired) = lit< tt
step_refused (Refusal.Unreadable (Unreadable.BadBody p)) = lit< tt
step_refused Refusal.OtherCall = lit< tt
step_refused Refusal.NoRow = lit< tt
step_refused Refusal.NoRoom = lit< tt
step_refused Refusal.OwnTransmission = lit< tt

pub refused_some : (a : ConsoleRefusal) → 0 < console_number a
refused_some (ConsoleRefusal.OfStep a) = step_refused a
refused_some ConsoleRefusal.PlaceOver = lit< tt
refused_some ConsoleRefusal.IdHeld = lit< tt
refused_some ConsoleRefusal.IdAwaited = lit< tt
refused_some ConsoleRefusal.NoIdlePlace = lit< tt
