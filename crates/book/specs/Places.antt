-- Where the schedules of a book stand: how many places its requests take, one after the other, of a room.
-- Assumes nothing.
use Rattle.std.specs.Prelude.{ℕ, ◌+◌, ◌-◌, List, [], ◌∷◌}
use Rattle.book.specs.Book.{call_in, count_of}

unfoldable pub then_takes : (ℕ → ℕ) → (room count : ℕ) → ℕ
then_takes others room count = count + others (room - count)

-- so a request behind these starts there
unfoldable pub takes : List (List ℕ) → ℕ → ℕ
takes [] room = 0
takes (r ∷ rs) room = then_takes (takes rs) room (count_of (call_in r room))
