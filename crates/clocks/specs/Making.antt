use Rattle.std.specs.Prelude.{ℕ, Bool, ◌&&◌, nat_le}

-- from 1 to top
abbrev pub in_range : ℕ → ℕ → Bool
in_range n top = nat_le 1 n && nat_le n top
