-- The words of the containers before c are looked up.
use Rattle.container_findings.specs.Views.{OwnWords}
use Rattle.container_findings.proofs.look_up.Given as goal

abbrev pub invariant-loop-c : goal.invariant-loop-c
invariant-loop-c l = OwnWords l.memory l.c l.own
