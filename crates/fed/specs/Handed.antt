-- Document 02, L1, for other languages: the answer of a feed as one number, and the request in thirteen.
-- Assumes nothing.
use Rattle.std.specs.Prelude.{ℕ, ◌+◌, ◌≡◌, List, [], ◌∷◌, ltb, ℤ, pos, neg_ℤ, nat_abs, length, get_or, set, Option, None, Some, Result, Ok, Err}
use Rattle.refusal.specs.declared.Refusal.{Refusal}
use Rattle.refusal.specs.Refusals as refusal
use Rattle.period.specs.Period.{is_negative}
use Rattle.calendar.specs.Adjust.{convention_number}
use Rattle.steps.specs.declared.Request.{Request}
use Rattle.steps.specs.Rules.{rule_number}
use Rattle.crossing.specs.Answers.{yes}
use Rattle.crossing.specs.Numbers.{unit_number}
use Rattle.request.specs.Format.{pick}
use Rattle.request.specs.declared.Decoded.{Decoded}
use Rattle.feeding.specs.Feed.{fresh, short, Feeds, Finishes}
use Rattle.fed.specs.Words.{state_in, with_state, new_words, with_numbers, runs_of}

-- a count as a number of 32 bits; no request has more than 4,096 closed dates
unfoldable pub few : ℕ → ℕ
few n = pick (ltb n 65536) n 65536

-- effective, termination, size of the tenor, 1 where it is below 0, unit, rule, convention, that of the last date, end of month, the
-- anchors, the mask, how many closed dates
unfoldable pub numbers_of : Request → ℕ → List ℕ
numbers_of q n =
    q.effective.day ∷ q.termination.day ∷ nat_abs q.tenor.length ∷ yes (is_negative q.tenor.length) ∷ unit_number q.tenor.unit ∷ rule_number q.rule
    ∷ convention_number q.convention ∷ convention_number q.terminal ∷ yes q.monthend ∷ q.first.day ∷ q.penultimate.day ∷ q.mask ∷ few n ∷ []

-- 1 where the request was found, minus the number of a refusal; and 0 to go on
unfoldable pub decoded_number : Result Decoded Refusal → ℤ
decoded_number (Ok d) = pos 1
decoded_number (Err r) = neg_ℤ (pos (refusal.number_of r))

unfoldable pub number_of : Option (Result Decoded Refusal) → ℤ
number_of None = pos 0
number_of (Some answer) = decoded_number answer

-- the words of a reader that found a request hold its numbers; else those before
unfoldable pub decoded_words : Result Decoded Refusal → List ℕ → List ℕ
decoded_words (Ok d) x = with_numbers x 20 (numbers_of d.request d.closed)
decoded_words (Err r) x = x

unfoldable pub said_words : Option (Result Decoded Refusal) → List ℕ → List ℕ
said_words None x = x
said_words (Some answer) x = decoded_words answer x

pub record Renewed (x : List ℕ) (r : ℤ) (x' : List ℕ) : Type 0 where
  pub answer : r ≡ pos 0
  pub state : state_in x' ≡ fresh
  pub words : x' ≡ new_words

-- a feed, and the finish: as `feeding` has them, of the state that the words hold; a buffer that is too short leaves every word
pub record Stepped (x part buffer closed : List ℕ) (r : ℤ) (x' buffer' closed' : List ℕ) : Type 0 where
  pub said : Option (Result Decoded Refusal)
  pub feeds : Feeds (state_in x) part buffer closed said (state_in x') buffer' closed'
  pub answer : r ≡ number_of said
  pub words : x' ≡ pick (short buffer) x (with_state (state_in x') (said_words said x))

-- a byte in the midst of a body leaves every word but the first
pub record Fed (x part buffer closed : List ℕ) (r : ℤ) (x' buffer' closed' : List ℕ) : Type 0 where
  pub said : Option (Result Decoded Refusal)
  pub feeds : Feeds (state_in x) part buffer closed said (state_in x') buffer' closed'
  pub answer : r ≡ number_of said
  pub words : x' ≡ pick (short buffer) x (pick (runs_of x (length part)) (set x 0 (get_or x 0 0 + 1)) (with_state (state_in x') (said_words said x)))

pub record Ended (x buffer closed : List ℕ) (r : ℤ) (x' closed' : List ℕ) : Type 0 where
  pub said : Result Decoded Refusal
  pub finishes : Finishes (state_in x) buffer closed said (state_in x') closed'
  pub answer : r ≡ decoded_number said
  pub words : x' ≡ pick (short buffer) x (with_state (state_in x') (decoded_words said x))
