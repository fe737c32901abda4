-- Document 02, L1: a request whose bodies lie back to back, without their headers. What the bodies ask for is document 01's.
-- Assumes nothing.
use Rattle.std.specs.Prelude.{ℕ, ◌+◌, ◌*◌, List, [], ◌∷◌, eqb, leb, ltb, length, take, drop, get_or}
use Rattle.refusal.specs.Answer.{Answer, need, BUFFER}
use Rattle.request.specs.Tags.{CLOSED}
use Rattle.request.specs.Format.{pick, Asked, asked_from}

-- the body of so many bytes from a place on; one that would pass the 20,000th byte is none
unfoldable pub body_in : List ℕ → List ℕ → ℕ → ℕ → List ℕ
body_in bytes left_out place n = pick (leb (place + n) 20000) (take n (drop place bytes)) left_out

-- how long the body of a tag is, where there are so many closed dates
abbrev pub widths : List ℕ
widths = 0 ∷ 4 ∷ 4 ∷ 3 ∷ 1 ∷ 1 ∷ 1 ∷ 1 ∷ 4 ∷ 4 ∷ 1 ∷ []

unfoldable pub width_of : ℕ → ℕ → ℕ
width_of count tag = pick (eqb tag CLOSED) (count * 4) (get_or widths tag 0)

-- the body of a tag, by the list of places
unfoldable pub stored : List ℕ → List ℕ → ℕ → List ℕ → ℕ → List ℕ
stored bytes places count left_out tag =
    pick (ltb tag 12) (body_in bytes left_out (get_or places tag 0) (width_of count tag)) left_out

unfoldable pub stored_in : List ℕ → List ℕ → ℕ → ℕ → Answer Asked
stored_in bytes places count room = need BUFFER (leb 20000 (length bytes)) (asked_from room (stored bytes places count))
