-- Bytes laid over others.
use Rattle.std.specs.Prelude.{ℕ, ◌+◌, List, ◌++◌, length, take, drop}

-- the old bytes with xs over them from a place on
unfoldable pub laid : List ℕ → ℕ → List ℕ → List ℕ
laid old at xs = take at old ++ (xs ++ drop (at + length xs) old)
