-- The context of the steps: every second row, in two iterations (own rule).
use Rattle.std.specs.Prelude.{ℕ, zero, suc, ◌+◌, ◌*◌, ◌-◌, ◌/◌, List, [], ◌∷◌, ◌++◌}
use Rattle.staircase.specs.declared.kinds.Ctx.{Ctx}

-- a row in an iteration
abbrev pub row_in : ℕ → ℕ → Ctx
row_in iter v = record { iter = iter; pre = v; attr = 0 }

-- a row in the iterations 0 and 1
abbrev pub both : ℕ → List Ctx
both v = row_in 0 v ∷ row_in 1 v ∷ []

-- the first n of the rows 2, 4, 6 and so on, in the iterations 0 and 1
abbrev pub first_rows : ℕ → List Ctx
first_rows zero = []
first_rows (suc n) = first_rows n ++ both (2 * n + 2)

-- those of these rows that are below a number
abbrev pub every_second : ℕ → List Ctx
every_second total = first_rows ((total - 1) / 2)
