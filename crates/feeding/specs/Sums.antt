-- The sums of document 02's page on L1, worked by hand.
-- Assumes nothing.
use Rattle.std.specs.Prelude.{ℕ, ◌≡◌, refl, List, [], ◌∷◌, ◌++◌, map, replicate}
use Rattle.refusal.specs.Answer.{number, need}
use Rattle.request.specs.Format.{pick, is_date, dates_of, closed_from, asked_from}
use Rattle.request.specs.Stored.{body_in, width_of, stored}
use Rattle.feeding.specs.Bodies.{on_tag_in, on_header, bodies_from, bodies}
use Rattle.feeding.specs.Feed.{fresh, size_ok, first_ok, starts_ok, settled, on_tag, on_high, on_size, on_body, spoilt, keeps_of, eat_of, keep_of, eaten, laid, is_whole, found}

-- R: two dates and FF
abbrev R : List ℕ
R = 1 ∷ 0 ∷ 4 ∷ 0 ∷ 11 ∷ 67 ∷ 108 ∷ 2 ∷ 0 ∷ 4 ∷ 0 ∷ 11 ∷ 68 ∷ 3 ∷ 255 ∷ 0 ∷ 0 ∷ []

-- a buffer that is lent, in small
abbrev lent : List ℕ
lent = replicate 10 9

-- what is stored of R; of a body that is cut; behind faults; of FF with a body, and behind it; of nothing
pub stored_sums : (map bodies (R ∷ (1 ∷ 0 ∷ 4 ∷ 0 ∷ 11 ∷ []) ∷ (99 ∷ 0 ∷ 2 ∷ 170 ∷ 187 ∷ 1 ∷ 0 ∷ 3 ∷ 204 ∷ 221 ∷ 238 ∷ []) ∷ (255 ∷ 0 ∷ 2 ∷ 170 ∷ 187 ∷ 204 ∷ []) ∷ (0 ∷ []) ∷ [] ∷ [])) ≡
    ((0 ∷ 11 ∷ 67 ∷ 108 ∷ 0 ∷ 11 ∷ 68 ∷ 3 ∷ []) ∷ (0 ∷ 11 ∷ []) ∷ (170 ∷ 187 ∷ 204 ∷ 221 ∷ 238 ∷ []) ∷ (170 ∷ 187 ∷ []) ∷ [] ∷ [] ∷ [])
unfolding bodies bodies_from on_header on_tag_in
stored_sums = refl

-- the reader stores the same, as fed, and leaves the other places
pub laid_sums : (map (λ w. laid fresh w lent) (R ∷ (1 ∷ 0 ∷ 4 ∷ 0 ∷ 11 ∷ []) ∷ (255 ∷ 0 ∷ 2 ∷ 170 ∷ 187 ∷ 204 ∷ []) ∷ [])) ≡
    ((0 ∷ 11 ∷ 67 ∷ 108 ∷ 0 ∷ 11 ∷ 68 ∷ 3 ∷ 9 ∷ 9 ∷ []) ∷ (0 ∷ 11 ∷ 9 ∷ 9 ∷ 9 ∷ 9 ∷ 9 ∷ 9 ∷ 9 ∷ 9 ∷ []) ∷ (170 ∷ 187 ∷ 9 ∷ 9 ∷ 9 ∷ 9 ∷ 9 ∷ 9 ∷ 9 ∷ 9 ∷ []) ∷ [])
unfolding laid keep_of keeps_of eat_of on_tag on_high on_size on_body spoilt starts_ok first_ok size_ok settled pick
laid_sums = refl

-- the finish: R is a request; nothing, R and a byte, R twice, and 00 are none
pub found_sums : (map (λ w. number (found (eaten fresh w) (laid fresh w lent) 0)) (R ∷ [] ∷ (R ++ (0 ∷ [])) ∷ (R ++ R) ∷ (0 ∷ []) ∷ [])) ≡ (0 ∷ 17 ∷ 17 ∷ 17 ∷ 17 ∷ [])
unfolding laid keep_of keeps_of eaten eat_of on_tag on_high on_size on_body spoilt starts_ok first_ok size_ok settled pick found is_whole need asked_from closed_from dates_of stored body_in width_of is_date number
found_sums = refl
