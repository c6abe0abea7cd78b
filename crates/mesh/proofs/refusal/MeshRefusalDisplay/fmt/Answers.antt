use Rattle.mesh.proofs.refusal.MeshRefusalDisplay.fmt.Goals as goal

pub returns-in-OutOfRange-clause-writes : goal.returns-in-OutOfRange-clause-writes
returns-in-OutOfRange-clause-writes g c = simp c.in-OutOfRange.is c.write_str.ensures.writes

pub returns-in-ListTooShort-clause-writes : goal.returns-in-ListTooShort-clause-writes
returns-in-ListTooShort-clause-writes g c = simp c.in-ListTooShort.is c.write_str-in-ListTooShort.ensures.writes
