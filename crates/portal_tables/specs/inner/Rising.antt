-- Row numbers that rise.
use Rattle.std.specs.Prelude.{◌&&◌, ◌∷◌}
use Rattle.portal_tables.specs.inner.Base.{ℤ, Bool, true, false, List, [], Option, Some, None, is_lt, int_cmp, Value}
use Rattle.portal_tables.specs.inner.Base.{Int, Row, column, id_in}

-- the value is a whole number, above this one
abbrev pub is_above : Option ℤ → Value → Bool
is_above None (Int n) = true
is_above (Some m) (Int n) = is_lt (int_cmp m n)
is_above last _ = false

-- the rows begin with whole numbers that rise
abbrev pub rises : Option ℤ → List Row → Bool
rises last [] = true
rises last (r ∷ rs) = is_above last (column r 0) && rises (Some (id_in (column r 0))) rs
