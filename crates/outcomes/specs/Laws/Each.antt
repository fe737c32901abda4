-- What holds of each date of a list holds of its parts, of two lists joined, and of the list turned round.
-- Assumes nothing.
use Rattle.std.specs.Prelude.{ℕ, zero, suc, take, drop}
use mathlib.Core.List.{List, [], ◌∷◌, ◌++◌, reverse, reverse_aux}

module _ (P : ℕ → Type 0) where
  abbrev pub Each : List ℕ → Type 0
  Each [] = Unit {0}
  Each (x ∷ xs) = P x × Each xs

  pub each_take : (k : ℕ) (ds : List ℕ) → Each ds → Each (take k ds)
  each_take zero ds h = tt
  each_take (suc k) [] h = tt
  each_take (suc k) (x ∷ xs) h = (h.0, each_take k xs h.1)

  pub each_drop : (k : ℕ) (ds : List ℕ) → Each ds → Each (drop k ds)
  each_drop zero ds h = h
  each_drop (suc k) [] h = tt
  each_drop (suc k) (x ∷ xs) h = each_drop k xs h.1

  pub each_joined : (xs ys : List ℕ) → Each xs → Each ys → Each (xs ++ ys)
  each_joined [] ys h g = g
  each_joined (x ∷ xs) ys h g = (h.0, each_joined xs ys h.1 g)

  turned : (xs ys : List ℕ) → Each xs → Each ys → Each (reverse_aux xs ys)
  turned [] ys h g = g
  turned (x ∷ xs) ys h g = turned xs (x ∷ ys) h.1 (h.0, g)

  pub each_turned : (xs : List ℕ) → Each xs → Each (reverse xs)
  each_turned xs h = turned xs [] h tt

pub each_weaker : (P Q : ℕ → Type 0) (ds : List ℕ) → ((d : ℕ) → P d → Q d) → Each P ds → Each Q ds
each_weaker P Q [] s h = tt
each_weaker P Q (x ∷ xs) s h = (s x h.0, each_weaker P Q xs s h.1)
