use Rattle.runs.proofs.Steps.{step}
use Rattle.runs.proofs.perform.perform.Goals as goal

pub returns-clause-keeps : goal.returns-clause-keeps
returns-clause-keeps g c = step _ _ _ _ _ _ c.carry_out.ensures.performed
