-- `capture::bodies` meets its contract: the loop keeps `Walked`, and each way out lays all that was to come.
use Rattle.capture.proofs.Walk.{Walked}
use Rattle.capture.proofs.bodies.Given as goal

abbrev pub invariant-loop-i : goal.invariant-loop-i
invariant-loop-i l = Walked l.s l.count l.initial.out l.out l.at l.i l.w
