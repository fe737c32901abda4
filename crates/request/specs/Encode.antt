-- The bytes of a request, every field written (document 01, "Request bytes and the program"), and what `encode` promises.
-- Assumes nothing.
use Rattle.std.specs.Prelude.{ℕ, ◌-◌, ◌/◌, ◌%◌, ◌≡◌, Bool, true, false, ◌&&◌, List, [], ◌∷◌, ◌++◌, leb, ltb, ℤ, pos, negsuc, length, Result}
use Rattle.std.proofs.lemmas.List.Edits.{sets}
use Rattle.std.specs.Int.Signed.{le_z}
use Rattle.refusal.specs.declared.Refusal.{Refusal}
use Rattle.refusal.specs.Answer.{Answer, given, refused, answered, need, ROOM, REQUEST}
use Rattle.period.specs.declared.Unit.{Unit}
use Rattle.period.specs.declared.Unit.TheVariants.{Days, Weeks, Months, Years}
use Rattle.period.specs.declared.Period.{Period}
use Rattle.calendar.specs.Adjust.{convention_number}
use Rattle.steps.specs.declared.Request.{Request}
use Rattle.steps.specs.Rules.{rule_number}
use Rattle.steps.specs.Build.{over}
use Rattle.request.specs.Tags.{EFFECTIVE, TERMINATION, TENOR, RULE, CONVENTION, TERMINAL, MONTHEND, FIRST, PENULTIMATE, MASK, CLOSED, END}
use Rattle.request.specs.Format.{Field}

-- ---- numbers, high byte first
abbrev pub bytes2 : ℕ → List ℕ
bytes2 n = n / 256 ∷ n % 256 ∷ []

abbrev pub bytes4 : ℕ → List ℕ
bytes4 n = n / 256 / 256 / 256 ∷ n / 256 / 256 % 256 ∷ n / 256 % 256 ∷ n % 256 ∷ []

unfoldable pub bits16 : ℤ → ℕ
bits16 (pos n) = n
bits16 (negsuc n) = 65535 - n

-- ---- bodies
unfoldable pub letter_of : Unit → ℕ
letter_of Days = 68
letter_of Weeks = 87
letter_of Months = 77
letter_of Years = 89

unfoldable pub bit : Bool → ℕ
bit true = 1
bit false = 0

abbrev pub tenor_body : Period → List ℕ
tenor_body tenor = letter_of tenor.unit ∷ bytes2 (bits16 tenor.length)

unfoldable pub dates_in : List ℕ → List ℕ
dates_in [] = []
dates_in (d ∷ ds) = bytes4 d ++ dates_in ds

-- ---- fields, and the bytes of them
abbrev pub field : ℕ → List ℕ → Field
field tag body = record { tag = tag; body = body }

unfoldable pub fields_in : Request → List ℕ → List Field
fields_in q closed =
    field EFFECTIVE (bytes4 q.effective.day)
    ∷ field TERMINATION (bytes4 q.termination.day)
    ∷ field TENOR (tenor_body q.tenor)
    ∷ field RULE (rule_number q.rule ∷ [])
    ∷ field CONVENTION (convention_number q.convention ∷ [])
    ∷ field TERMINAL (convention_number q.terminal ∷ [])
    ∷ field MONTHEND (bit q.monthend ∷ [])
    ∷ field FIRST (bytes4 q.first.day)
    ∷ field PENULTIMATE (bytes4 q.penultimate.day)
    ∷ field MASK (q.mask ∷ [])
    ∷ field CLOSED (dates_in closed)
    ∷ []

abbrev pub head_of : ℕ → ℕ → List ℕ
head_of tag size = tag ∷ bytes2 size

abbrev pub spelt : ℕ → List ℕ → List ℕ
spelt tag body = head_of tag (length body) ++ body

unfoldable pub written : List Field → List ℕ
written [] = spelt END []
written (f ∷ fs) = spelt f.tag f.body ++ written fs

unfoldable pub bytes_of : Request → List ℕ → List ℕ
bytes_of q closed = written (fields_in q closed)

-- bytes laid over others from a place on
unfoldable pub laid : (old : List ℕ) (at : ℕ) (s : List ℕ) → List ℕ
laid old at s = sets old at s

-- the same bytes in four parts: dates and tenor, rule to end of month, anchors and mask, closed dates and FF
abbrev pub dates_part : Request → List ℕ
dates_part q = spelt EFFECTIVE (bytes4 q.effective.day) ++ (spelt TERMINATION (bytes4 q.termination.day) ++ spelt TENOR (tenor_body q.tenor))

abbrev pub choices_part : Request → List ℕ
choices_part q = spelt RULE (rule_number q.rule ∷ []) ++ (spelt CONVENTION (convention_number q.convention ∷ []) ++ (spelt TERMINAL (convention_number q.terminal ∷ []) ++ spelt MONTHEND (bit q.monthend ∷ [])))

abbrev pub anchors_part : Request → List ℕ
anchors_part q = spelt FIRST (bytes4 q.first.day) ++ (spelt PENULTIMATE (bytes4 q.penultimate.day) ++ spelt MASK (q.mask ∷ []))

abbrev pub closed_part : List ℕ → List ℕ
closed_part closed = spelt CLOSED (dates_in closed) ++ spelt END []

-- ---- what the format can say: a length of 16 bits with sign, a mask of seven days, at most 4,096 closed dates
unfoldable pub fits16 : ℤ → Bool
fits16 z = le_z (negsuc 32767) z && le_z z (pos 32767)

unfoldable pub sayable : Request → ℕ → Bool
sayable q count = fits16 q.tenor.length && (ltb q.mask 128 && leb count 4096)

-- the bytes of a request, where there is room for so many
unfoldable pub encoded : Request → List ℕ → ℕ → Answer (List ℕ)
encoded q closed room =
    need REQUEST (sayable q (length closed)) (need ROOM (leb (length (bytes_of q closed)) room) (given (bytes_of q closed)))

-- ---- what is answered, and what the lent list then holds
unfoldable pub encodes : Answer (List ℕ) → Answer ℕ
encodes (given s) = given (length s)
encodes (refused n) = refused n

unfoldable pub bytes_after : Answer (List ℕ) → List ℕ → List ℕ
bytes_after (given s) old = over s old
bytes_after (refused n) old = old

pub record Encodes (o : Answer (List ℕ)) (r : Result ℕ Refusal) (list list' : List ℕ) : Type 0 where
  pub answer : answered r ≡ encodes o
  pub bytes : list' ≡ bytes_after o list
