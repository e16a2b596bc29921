-- The label of a line.
use Rattle.std.specs.Prelude.{ℕ, Bool, ◌&&◌, nat_lt, nat_le, List, length}
use Rattle.std.specs.List.{list_all}

-- at most 16 bytes of ASCII
abbrev pub is_short : List ℕ → Bool
is_short text = nat_le (length text) 16 && list_all (λ b. nat_lt b 128) text
