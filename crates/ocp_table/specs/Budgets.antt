-- The budget of a procedure: how many instructions it may do between two starts. None is no budget.
use Rattle.std.specs.Prelude.{ℕ, ◌-◌, ◌≤◌, ◌==◌, min, Bool, false, if◌then◌else◌, Option, Some, None}

-- the budget that an activation sets: 0 sets none
abbrev pub budget_of : ℕ → Option ℕ
budget_of budget = if budget == 0 then None else Some budget

-- what is left after one more instruction, and after n more
abbrev pub one_less : Option ℕ → Option ℕ
one_less None = None
one_less (Some left) = Some (left - 1)

abbrev pub less : ℕ → Option ℕ → Option ℕ
less n None = None
less n (Some left) = Some (left - n)

-- a budget is set, and nothing of it is left
abbrev pub is_spent : Option ℕ → Bool
is_spent None = false
is_spent (Some left) = left == 0

-- n instructions are at most what is left
abbrev pub IsWithin : Option ℕ → ℕ → Type 0
IsWithin None n = Unit {0}
IsWithin (Some left) n = n ≤ left

-- n, or what is left if that is less
abbrev pub within : Option ℕ → ℕ → ℕ
within None n = n
within (Some left) n = min n left
