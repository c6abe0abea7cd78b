use Rattle.clocks.proofs.refusal.ClockRefusalDisplay.fmt.Goals as goal

pub returns-in-LagTooLong-clause-writes : goal.returns-in-LagTooLong-clause-writes
returns-in-LagTooLong-clause-writes g c = simp c.in-LagTooLong.is c.write_str-in-LagTooLong.ensures.writes
