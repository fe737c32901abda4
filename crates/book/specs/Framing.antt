-- Request L4: which bytes are a night's book, and which requests stand in it.
-- Assumes nothing.
use Rattle.std.specs.Prelude.{ℕ, zero, suc, ◌+◌, ◌/◌, ◌%◌, ◌<◌, List, [], ◌∷◌, ◌++◌, leb, length, take, drop, get_or}
use Rattle.refusal.specs.Answer.{Answer, given, refused, need, then, BATCH}
use Rattle.request.specs.Format.{two}

-- the most requests of a book
abbrev pub MOST : ℕ
MOST = 64

-- a request is led by its length, two bytes, high byte first, which does not count itself
abbrev pub size_of : List ℕ → ℕ
size_of s = two (get_or s 0 0) (get_or s 1 0)

abbrev pub body_of : List ℕ → List ℕ
body_of s = take (size_of s) (drop 2 s)

abbrev pub behind : List ℕ → List ℕ
behind s = drop (2 + size_of s) s

-- a length and a body that stand there whole, or 20; then what follows
unfoldable pub unless_cut : List ℕ → (List ℕ → Answer (List (List ℕ))) → Answer (List (List ℕ))
unless_cut s on =
    need BATCH (leb 2 (length s)) (need BATCH (leb (2 + size_of s) (length s)) (then (on (behind s)) (λ rs. given (body_of s ∷ rs))))

-- no bytes are no requests
unfoldable pub or_none : List ℕ → Answer (List (List ℕ)) → Answer (List (List ℕ))
or_none [] some = given []
or_none (b ∷ s) some = some

-- requests to the very end, no more than so many
unfoldable pub requests_from : ℕ → List ℕ → Answer (List (List ℕ))
requests_from zero s = or_none s (refused BATCH)
requests_from (suc left) s = or_none s (unless_cut s (requests_from left))

unfoldable pub requests_in : List ℕ → Answer (List (List ℕ))
requests_in bytes = requests_from MOST bytes

-- ---- the bytes of a book of these requests
unfoldable pub led : List ℕ → List ℕ
led r = length r / 256 ∷ length r % 256 ∷ r

unfoldable pub bytes_of : List (List ℕ) → List ℕ
bytes_of [] = []
bytes_of (r ∷ rs) = led r ++ bytes_of rs

-- two bytes say the length of each
pub data Sayable : List (List ℕ) → Type 0 where
  no_requests : Sayable []
  request : {r : List ℕ} {rs : List (List ℕ)} → length r < 65536 → Sayable rs → Sayable (r ∷ rs)

pub data Bytes : List ℕ → Type 0 where
  no_bytes : Bytes []
  byte : {b : ℕ} {s : List ℕ} → b < 256 → Bytes s → Bytes (b ∷ s)
