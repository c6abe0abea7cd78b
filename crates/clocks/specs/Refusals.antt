use Rattle.std.specs.Prelude.{ℕ, List, codes}
use Rattle.clocks.specs.declared.refusal.ClockRefusal.{ClockRefusal}
use Rattle.clocks.specs.declared.refusal.ClockRefusal.TheVariants.{OutOfRange, LagTooLong}

-- the number of each refusal
abbrev pub refusal_number : ClockRefusal → ℕ
refusal_number OutOfRange = 13
refusal_number LagTooLong = 14

-- its text
abbrev pub refusal_text : ClockRefusal → List ℕ
refusal_text OutOfRange = codes "latency or period out of range"
refusal_text LagTooLong = codes "lag above 4194304"
