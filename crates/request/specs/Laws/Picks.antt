-- Laws of a choice, one for each way.
-- Assumes nothing.
use Rattle.std.specs.Prelude.{◌≡◌, Bool, true, false}
use Rattle.request.specs.Format.{pick}

module _ {A : Type 0} {b : Bool} (x y : A) where
  pub taken : b ≡ true → pick b x y ≡ x
  unfolding pick
  taken e = rw e

  pub left : b ≡ false → pick b x y ≡ y
  unfolding pick
  left e = rw e
