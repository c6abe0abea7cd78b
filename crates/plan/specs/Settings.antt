-- The ranges of a plan's settings.
use Rattle.std.specs.Prelude.{Bool, ◌&&◌}
use Rattle.routes.specs.Channels.{within}
use Rattle.plan.specs.declared.setting.Settings.{Settings}

-- a window of 2 to 8 frames, a frame of 1 to 4,096 slots, buffers of 1 to 8 flits
abbrev pub settings_fit : Settings → Bool
settings_fit s = within 2 8 s.window && (within 1 4096 s.frame && within 1 8 s.depth)

-- what a new plan is set to
abbrev pub new_settings : Settings
new_settings = record { window = 2; frame = 1; depth = 1 }
