use Rattle.mesh.proofs.Numbers.{unambiguous}
use Rattle.mesh.proofs.square.Mesh.channel.Goals as goal

pub returns-then-leads-clause-unambiguous : goal.returns-then-leads-clause-unambiguous
returns-then-leads-clause-unambiguous c = unambiguous _

pub returns-else-contains-clause-unambiguous : goal.returns-else-contains-clause-unambiguous
returns-else-contains-clause-unambiguous c = unambiguous _
