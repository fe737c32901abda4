-- Document 01, "Request bytes and the program": the tags of the fields, by the name of what they hold. A request lays them in this order.
-- Assumes nothing.
use Rattle.std.specs.Prelude.{ℕ}

abbrev pub EFFECTIVE : ℕ
EFFECTIVE = 1

abbrev pub TERMINATION : ℕ
TERMINATION = 2

abbrev pub TENOR : ℕ
TENOR = 3

abbrev pub RULE : ℕ
RULE = 4

abbrev pub CONVENTION : ℕ
CONVENTION = 5

abbrev pub TERMINAL : ℕ
TERMINAL = 6

abbrev pub MONTHEND : ℕ
MONTHEND = 7

abbrev pub FIRST : ℕ
FIRST = 8

abbrev pub PENULTIMATE : ℕ
PENULTIMATE = 9

abbrev pub MASK : ℕ
MASK = 10

abbrev pub CLOSED : ℕ
CLOSED = 11

-- the field that ends a request
abbrev pub END : ℕ
END = 255
