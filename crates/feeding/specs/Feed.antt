-- Document 02, L1: a reader that is fed one part at a time. A part is its bytes, one after another, so that the cuts do not matter.
-- Assumes nothing.
use Rattle.std.specs.Prelude.{ℕ, ◌+◌, ◌*◌, ◌-◌, ◌/◌, ◌%◌, ◌≡◌, Bool, true, false, ◌&&◌, List, [], ◌∷◌, eqb, leb, ltb, length, get_or, set, replicate, Option, None, Some, Result}
use Rattle.refusal.specs.declared.Refusal.{Refusal}
use Rattle.refusal.specs.Answer.{Answer, refused, answered, need, REQUEST, BUFFER}
use Rattle.request.specs.Tags.{CLOSED, END}
use Rattle.request.specs.Format.{pick, is_letter, Asked, asked_from}
use Rattle.request.specs.Decode.{counted, closed_dates_after}
use Rattle.request.specs.Stored.{widths, stored}
use Rattle.request.specs.declared.Decoded.{Decoded}
use Rattle.feeding.specs.declared.State.{State}

-- ---- the reader, and what comes next: 0 a tag, 1 the high byte of a length, 2 its low byte, 3 the first byte of a body, 4 a further
-- one; 5: FF has ended
abbrev pub at : ℕ → ℕ → ℕ → ℕ → ℕ → ℕ → ℕ → ℕ → ℕ → List ℕ → State
at phase tag high sound finished due kept fed size places =
    record { phase = phase; tag = tag; high = high; sound = sound; finished = finished; due = due; kept = kept; fed = fed; size = size; places = places }

abbrev pub fresh : State
fresh = at 0 0 0 1 0 0 0 0 0 (replicate 12 65535)

-- the lengths that a tag may have, and the first byte of its body (document 01); the two together are what a body may be
unfoldable pub size_ok : ℕ → ℕ → Bool
size_ok tag n =
    pick (eqb tag END) (eqb n 0)
    (pick (eqb tag CLOSED) (leb n 16384 && eqb (n % 4) 0)
    (pick (ltb tag CLOSED) (eqb n (get_or widths tag 0))
    false))

unfoldable pub first_ok : ℕ → ℕ → Bool
first_ok tag b =
    pick (eqb tag 3) (is_letter b)
    (pick (eqb tag 4) (ltb b 10)
    (pick (eqb tag 5) (ltb b 5)
    (pick (eqb tag 6) (ltb b 5)
    (pick (eqb tag 7) (ltb b 2)
    (pick (eqb tag 10) (ltb b 128)
    true)))))

-- ---- one byte
abbrev pub to : ℕ → State → State
to phase s = at phase s.tag s.high s.sound s.finished s.due s.kept s.fed s.size s.places

-- after a length or a byte of a body: the field goes on, is over, or was FF
unfoldable pub settled : State → State
settled s = pick (eqb s.due 0) (pick (eqb s.tag END) (to 5 s) (to 0 s)) s

-- tags ascend
unfoldable pub on_tag : State → ℕ → State
on_tag s b = at 1 b s.high (pick (ltb s.tag b) s.sound 0) s.finished s.due s.kept s.fed s.size s.places

unfoldable pub on_high : State → ℕ → State
on_high s b = at 2 s.tag b s.sound s.finished s.due s.kept s.fed s.size s.places

-- the length is whole: the body starts behind what is stored
unfoldable pub on_size : State → ℕ → State
on_size s n =
    settled (at 3 s.tag s.high (pick (size_ok s.tag n) s.sound 0) s.finished n s.kept s.fed (pick (eqb s.tag CLOSED) n s.size) (set s.places s.tag s.kept))

abbrev pub on_low : State → ℕ → State
on_low s b = on_size s (s.high * 256 + b)

unfoldable pub starts_ok : ℕ → ℕ → ℕ → Bool
starts_ok phase tag b = pick (eqb phase 3) (first_ok tag b) true

unfoldable pub on_body : State → ℕ → State
on_body s b =
    settled (at 4 s.tag s.high (pick (starts_ok s.phase s.tag b) s.sound 0) s.finished (s.due - 1) (s.kept + 1) s.fed s.size s.places)

-- a byte behind FF, or behind the 20,000th
unfoldable pub spoilt : State → State
spoilt s = at s.phase s.tag s.high 0 s.finished s.due s.kept s.fed s.size s.places

-- whether the next byte is one of a body, and there is a place for it
unfoldable pub keeps_of : State → Bool
keeps_of s =
    pick (ltb s.fed 20000) (pick (ltb s.kept 20000) (pick (eqb s.due 0) false (pick (eqb s.phase 4) true (eqb s.phase 3))) false) false

abbrev pub counting : ℕ → State → State
counting n s = at s.phase s.tag s.high s.sound s.finished s.due s.kept n s.size s.places

unfoldable pub eat_of : State → ℕ → State
eat_of s b =
    pick (ltb s.fed 20000)
    (pick (eqb s.phase 0) (on_tag (counting (s.fed + 1) s) b)
    (pick (eqb s.phase 1) (on_high (counting (s.fed + 1) s) b)
    (pick (eqb s.phase 2) (on_low (counting (s.fed + 1) s) b)
    (pick (keeps_of s) (on_body (counting (s.fed + 1) s) b)
    (spoilt (counting (s.fed + 1) s))))))
    (spoilt (counting 20001 s))

-- a byte of a body goes to the next place of the buffer
unfoldable pub keep_of : State → ℕ → List ℕ → List ℕ
keep_of s b l = pick (keeps_of s) (set l s.kept b) l

-- ---- a part
unfoldable pub eaten : State → List ℕ → State
eaten s [] = s
eaten s (b ∷ bs) = eaten (eat_of s b) bs

unfoldable pub laid : State → List ℕ → List ℕ → List ℕ
laid s [] l = l
laid s (b ∷ bs) l = laid (eat_of s b) bs (keep_of s b l)

-- ---- the finish: all fields sound up to FF and nothing behind it; then what the stored bodies ask for
unfoldable pub is_whole : State → Bool
is_whole s = pick (eqb s.sound 0) false (eqb s.phase 5)

unfoldable pub found : State → List ℕ → ℕ → Answer Asked
found s buffer room = need REQUEST (is_whole s) (asked_from room (stored buffer s.places (s.size / 4)))

-- ---- what a feed settles: a buffer that is too short is 18 and changes nothing; after the finish its answer is repeated
abbrev pub short : List ℕ → Bool
short buffer = ltb (length buffer) 20000

-- what the code's answer says: nothing yet, or document 01's answer
abbrev pub heard : Option (Result Decoded Refusal) → Option (Answer Decoded)
heard None = None
heard (Some r) = Some (answered r)

abbrev pub refused_buffer : Answer Decoded
refused_buffer = refused BUFFER

abbrev pub said_of : State → List ℕ → List ℕ → Answer Decoded
said_of s buffer closed = counted (found s buffer (length closed))

pub record Feeds (s : State) (part buffer closed : List ℕ) (r : Option (Result Decoded Refusal)) (s' : State) (buffer' closed' : List ℕ) : Type 0 where
  pub state : s' ≡ pick (short buffer) s (pick (eqb s.finished 0) (eaten s part) s)
  pub answer : heard r ≡ pick (short buffer) (Some refused_buffer) (pick (eqb s.finished 0) None (Some (said_of s buffer closed)))
  pub bytes : buffer' ≡ pick (short buffer) buffer (pick (eqb s.finished 0) (laid s part buffer) buffer)
  pub dates : closed' ≡ pick (short buffer) closed (pick (eqb s.finished 0) closed (closed_dates_after (found s buffer (length closed)) closed))

-- and the finish
abbrev pub done : State → State
done s = at s.phase s.tag s.high s.sound 1 s.due s.kept s.fed s.size s.places

pub record Finishes (s : State) (buffer closed : List ℕ) (r : Result Decoded Refusal) (s' : State) (closed' : List ℕ) : Type 0 where
  pub state : s' ≡ pick (short buffer) s (done s)
  pub answer : answered r ≡ pick (short buffer) refused_buffer (said_of s buffer closed)
  pub dates : closed' ≡ pick (short buffer) closed (closed_dates_after (found s buffer (length closed)) closed)
