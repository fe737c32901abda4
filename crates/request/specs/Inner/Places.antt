-- What the code's places in the bytes stand for. A place is where a body starts, its length in the two bytes before it; 0 is none.
-- Assumes nothing.
use Rattle.std.specs.Prelude.{ℕ, suc, ◌+◌, ◌-◌, ◌<◌, ◌≤◌, ◌≡◌, Bool, true, false, List, [], ◌∷◌, eqb, ℤ, length, take, drop, get_or}
use Rattle.refusal.specs.Answer.{Answer, given, refused, then, REQUEST}
use Rattle.request.specs.declared.fields.Step.{Step}
use Rattle.request.specs.declared.fields.Step.TheVariants.{Broken, End, Next}
use Rattle.request.specs.Encode.{bits16}
use Rattle.request.specs.Format.{pick, two, body_ok, Field, last_tag, cut_of, on_cut, fields_from, body_or}

-- a byte as a wider number
pub record Wide (x r : ℕ) : Type 0 where
  pub same : r ≡ x
  pub small : r < 256

-- two bytes of the list from a place on, as a number
abbrev pub two_at : List ℕ → ℕ → ℕ
two_at bytes p = two (get_or bytes p 0) (get_or bytes (p + 1) 0)

pub record Pair (bytes : List ℕ) (p r : ℕ) : Type 0 where
  pub same : r ≡ two_at bytes p
  pub small : r < 65536

-- the body at a place
abbrev pub body_at : List ℕ → List ℕ → ℕ → List ℕ
body_at bytes left_out place = pick (eqb place 0) left_out (take (two_at bytes (place - 2)) (drop place bytes))

abbrev pub placed : List ℕ → List ℕ → List ℕ → ℕ → List ℕ
placed bytes places left_out tag = body_at bytes left_out (get_or places tag 0)

-- a body of so many bytes lies at a place
pub record Sized (bytes : List ℕ) (place n : ℕ) : Type 0 where
  pub after : 2 ≤ place
  pub size : two_at bytes (place - 2) ≡ n
  pub inside : place + n ≤ length bytes

pub record Lies (bytes : List ℕ) (place tag : ℕ) : Type 0 where
  pub sized : Sized bytes place (two_at bytes (place - 2))
  pub ok : body_ok tag (take (two_at bytes (place - 2)) (drop place bytes)) ≡ true

-- each place is 0, or one where a body of its tag lies
pub record PlacesKept (bytes places : List ℕ) : Type 0 where
  pub twelve : length places ≡ 12
  pub lies : (tag : ℕ) → (get_or places tag 0 ≡ 0 → ⊥) → Lies bytes (get_or places tag 0) tag

-- ---- one step of the reading
unfoldable pub stepped : List ℕ → ℕ → List Field → (List Field → List ℕ → Answer (List Field)) → Step → Answer (List Field)
stepped bytes at fs on Broken = refused REQUEST
stepped bytes at fs on End = given fs
stepped bytes at fs on (Next tag n) = on (record { tag = tag; body = take n (drop (at + 3) bytes) } ∷ fs) (drop (at + 3 + n) bytes)

pub record Framed (bytes : List ℕ) (at tag n : ℕ) : Type 0 where
  pub few : tag < 12
  pub sized : Sized bytes (at + 3) n
  pub ok : body_ok tag (take n (drop (at + 3) bytes)) ≡ true

unfoldable pub IsFramed : List ℕ → ℕ → Step → Type 0
IsFramed bytes at Broken = Unit {0}
IsFramed bytes at End = Unit {0}
IsFramed bytes at (Next tag n) = Framed bytes at tag n

pub record Steps (bytes : List ℕ) (at last : ℕ) (r : Step) : Type 0 where
  pub same : (fs : List Field) (on : List Field → List ℕ → Answer (List Field)) → last_tag fs ≡ last → then (cut_of (drop at bytes)) (on_cut fs on) ≡ stepped bytes at fs on r
  pub sound : IsFramed bytes at r

-- ---- the whole reading
pub record Found (bytes places : List ℕ) : Type 0 where
  pub fields : List Field
  pub same : fields_from (suc (length bytes)) [] bytes ≡ given fields
  pub bodies : body_or fields ≡ placed bytes places
  pub kept : PlacesKept bytes places

unfoldable pub ReadsAs : List ℕ → Bool → List ℕ → Type 0
ReadsAs bytes true places = Found bytes places
ReadsAs bytes false places = fields_from (suc (length bytes)) [] bytes ≡ refused REQUEST

-- no place yet
pub record Blank (places : List ℕ) : Type 0 where
  pub twelve : length places ≡ 12
  pub none : (tag : ℕ) → get_or places tag 0 ≡ 0

-- sixteen bits
pub record Bits (z : ℤ) (r : ℕ) : Type 0 where
  pub same : r ≡ bits16 z
  pub small : r < 65536
