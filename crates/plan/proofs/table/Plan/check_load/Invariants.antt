use Rattle.std.proofs.Common.{◌≡◌, drop}
use Rattle.plan.specs.Reserving.{load_checked}
use Rattle.plan.proofs.table.Plan.check_load.Given as goal

abbrev pub invariant-loop-channel : goal.invariant-loop-channel
invariant-loop-channel l = load_checked l.self l.slots (drop l.channel-index l.route) ≡ load_checked l.self l.slots l.route
