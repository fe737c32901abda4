-- The paid dates that stand beside the dates of the loop, in the same places of a list of their own.
-- Assumes nothing.
use Rattle.std.specs.Prelude.{ℕ, ◌-◌, ◌≤◌, ◌≡◌, Bool, true, false, List, length, take, drop}
use Rattle.refusal.specs.Answer.{Answer, given}
use Rattle.steps.specs.Finish.{each}

-- the dates that were put from the n-th on up to the m-th, each with its adjusted date
unfoldable pub PaidSo : Bool → (A : ℕ → Answer ℕ) (n m : ℕ) (days paid : List ℕ) → Type 0
PaidSo true A n m days paid = each A (take (m - n) (drop (4096 - m) days)) ≡ given (take (m - n) (drop (4096 - m) paid))
PaidSo false A n m days paid = each A (drop n (take m days)) ≡ given (drop n (take m paid))

pub record Paid (A : ℕ → Answer ℕ) (back : Bool) (n m : ℕ) (days paid : List ℕ) : Type 0 where
  pub size : length paid ≡ 4096
  pub order : n ≤ m
  pub so : PaidSo back A n m days paid
