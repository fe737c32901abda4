-- Feeding p and then q is feeding p ++ q: the reader and the buffer.
-- Assumes nothing.
use Rattle.std.specs.Prelude.{◌≡◌, refl, List, [], ◌∷◌, ◌++◌, ℕ}
use Rattle.feeding.specs.declared.State.{State}
use Rattle.feeding.specs.Feed.{eat_of, keep_of, eaten, laid}

pub eaten_cut : (s : State) (p q : List ℕ) → eaten s (p ++ q) ≡ eaten (eaten s p) q
unfolding eaten
eaten_cut s [] q = refl
eaten_cut s (b ∷ p) q = eaten_cut (eat_of s b) p q

pub laid_cut : (s : State) (p q l : List ℕ) → laid s (p ++ q) l ≡ laid (eaten s p) q (laid s p l)
unfolding eaten laid
laid_cut s [] q l = refl
laid_cut s (b ∷ p) q l = laid_cut (eat_of s b) p q (keep_of s b l)
