-- A reader in 46 words of 16 bits: where it stands in the first twenty, then thirteen numbers of 32 bits in two words each.
-- Assumes nothing.
use Rattle.std.specs.Prelude.{ℕ, ◌+◌, ◌*◌, ◌-◌, ◌/◌, ◌%◌, ◌≡◌, Bool, false, List, [], ◌∷◌, eqb, leb, ltb, get_or, set, replicate}
use Rattle.std.proofs.lemmas.List.Edits.{sets}
use Rattle.request.specs.Format.{pick}
use Rattle.feeding.specs.declared.State.{State}
use Rattle.feeding.specs.Feed.{at, fresh}

-- sums and differences of words, which wrap
unfoldable pub sum_of : ℕ → ℕ → ℕ
sum_of a b = pick (ltb (a + b) 65536) (a + b) (a + b - 65536)

unfoldable pub less_of : ℕ → ℕ → ℕ
less_of a b = pick (leb b a) (a - b) (a + 65536 - b)

-- the words of a state: how many bytes are stored, the place where the body ends, the bytes fed that are not stored, what comes next
-- and whether finished, the tag, the length's high byte, whether all is sound, the length of 0B; then the places
unfoldable pub head_of : State → List ℕ
head_of s = s.kept ∷ sum_of s.kept s.due ∷ less_of s.fed s.kept ∷ (s.phase + s.finished * 256) ∷ s.tag ∷ s.high ∷ s.sound ∷ s.size ∷ []

unfoldable pub with_places : List ℕ → List ℕ → List ℕ
with_places places x = sets x 8 places

unfoldable pub with_state : State → List ℕ → List ℕ
with_state s x = with_places s.places (sets x 0 (head_of s))

-- and the state that words hold, whatever they are
unfoldable pub places_in : List ℕ → List ℕ
places_in x =
    get_or x 8 0 ∷ get_or x 9 0 ∷ get_or x 10 0 ∷ get_or x 11 0 ∷ get_or x 12 0 ∷ get_or x 13 0 ∷ get_or x 14 0 ∷ get_or x 15 0 ∷ get_or x 16 0 ∷ get_or x 17 0 ∷ get_or x 18 0 ∷ get_or x 19 0 ∷ []

unfoldable pub state_in : List ℕ → State
state_in x =
    at (get_or x 3 0 % 256) (get_or x 4 0 % 256) (get_or x 5 0 % 256) (get_or x 6 0 % 256) (get_or x 3 0 / 256) (less_of (get_or x 1 0) (get_or x 0 0)) (get_or x 0 0) (sum_of (get_or x 2 0) (get_or x 0 0)) (get_or x 7 0) (places_in x)

-- words into which a state was put hold it
pub record Put (s : State) (x x' : List ℕ) : Type 0 where
  pub words : x' ≡ with_state s x
  pub state : state_in x' ≡ s

-- a new reader, with no numbers
abbrev pub new_words : List ℕ
new_words = with_state fresh (replicate 46 0)

-- numbers from a place on, the low word of each first
unfoldable pub with_numbers : List ℕ → ℕ → List ℕ → List ℕ
with_numbers x k [] = x
with_numbers x k (n ∷ ns) = with_numbers (set (set x k (n % 65536)) (k + 1) (n / 65536)) (k + 2) ns

-- whether the byte behind those stored is one of a body before its last, and of the first 20,000; then a part of one byte goes to its
-- place
unfoldable pub goes_on : ℕ → ℕ → ℕ → Bool
goes_on kept stop others = pick (ltb (kept + 1) stop) (ltb (kept + others) 20000) false

unfoldable pub runs_of : List ℕ → ℕ → Bool
runs_of x n = pick (eqb n 1) (pick (eqb (get_or x 3 0) 4) (goes_on (get_or x 0 0) (get_or x 1 0) (get_or x 2 0)) false) false
