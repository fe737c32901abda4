-- What the code's ways through parameters promise: what they say of VALUE, and where the line's value starts.
-- Assumes nothing.
use Rattle.std.specs.Prelude.{ℕ, ◌<◌, ◌≡◌, true, false, Option, None, Some, List, [], ◌∷◌, eqb}
use Rattle.holidays.specs.declared.lines.Place.{Place}
use Rattle.holidays.specs.declared.parameters.Kind as said
use Rattle.holidays.specs.declared.parameters.Parameter as code
use Rattle.holidays.specs.declared.parameters.Value as found
use Rattle.holidays.specs.Words.{Bytes, pick, spells, COLON, SEMICOLON}
use Rattle.holidays.specs.Content.{Value, none, value, content_from, Kind, unsaid, date, date_time, strange, kind_of, Parameter, parameter_of, kind_in}
use Rattle.holidays.specs.Inner.Along.{ahead, Before, Inside}
use Rattle.holidays.specs.Inner.Digits.{kind_is}
use Rattle.holidays.specs.Inner.Pieces.{mark_number}

-- ---- what one parameter says of VALUE, and what two of them say together
unfoldable pub own : Parameter → Kind
own p = pick (spells p.name "VALUE") (kind_of p.word) unsaid

unfoldable pub one_of : Kind → Kind → Kind
one_of k unsaid = k
one_of k date = strange
one_of k date_time = strange
one_of k strange = strange

unfoldable pub join_kinds : Kind → Kind → Kind
join_kinds unsaid k = k
join_kinds date k = one_of date k
join_kinds date_time k = one_of date_time k
join_kinds strange k = one_of strange k

-- by the numbers of the parameter's name and its word: VALUE, DATE, DATE-TIME
unfoldable pub kind_by : ℕ → ℕ → Kind
kind_by key word = pick (eqb key 56668837) (pick (eqb word 1181317) date (pick (eqb word 39638449923493) date_time strange)) unsaid

pub record KindsOf (key word : ℕ) (r : said.Kind) : Type 0 where
  pub same : kind_is r ≡ kind_by key word

pub record Joins (a b r : said.Kind) : Type 0 where
  pub same : kind_is r ≡ join_kinds (kind_is a) (kind_is b)

-- ---- parameters and value behind a mark
pub record Tail : Type 0 where
  pub parameters : List Bytes
  pub said : Value

unfoldable pub tail_of : ℕ → Bytes → Tail
tail_of mark s =
    pick (eqb mark COLON) (record { parameters = []; said = value s })
    (pick (eqb mark SEMICOLON) (record { parameters = (content_from false s).name ∷ (content_from false s).parameters; said = (content_from false s).said })
    (record { parameters = []; said = none }))

-- a line without a place of its value has none
unfoldable pub said_at : Bytes → Option Place → Value
said_at file None = none
said_at file (Some p) = value (ahead file p.at p.line)

-- the place, where there is one, lies in the line
unfoldable pub LiesInside : Bytes → ℕ → ℕ → Option Place → Type 0
LiesInside file at line None = Unit {0}
LiesInside file at line (Some p) = Inside file at line p.at p.line

unfoldable pub LiesBefore : Bytes → Option Place → Type 0
LiesBefore file None = Unit {0}
LiesBefore file (Some p) = Before file p.at p.line

-- a value stands behind a colon
unfoldable pub value_place : ℕ → Place → Option Place
value_place mark p = pick (eqb mark COLON) (Some p) None

pub record Behind (mark : Option ℕ) (p : Place) (r : Option Place) : Type 0 where
  pub same : r ≡ value_place (mark_number mark) p

pub record ReadsParameter (file : Bytes) (at line : ℕ) (r : code.Parameter) : Type 0 where
  pub kind : kind_is r.kind ≡ own (parameter_of (content_from false (ahead file at line)).name)
  pub parameters : (content_from false (ahead file at line)).parameters ≡ (tail_of (mark_number r.mark) (ahead file r.place.at r.place.line)).parameters
  pub said : (content_from false (ahead file at line)).said ≡ (tail_of (mark_number r.mark) (ahead file r.place.at r.place.line)).said
  pub inside : Inside file at line r.place.at r.place.line
  pub further : (b : ℕ) → r.mark ≡ Some b → at < r.place.at

pub record ReadsKinds (file : Bytes) (at line : ℕ) (r : found.Value) : Type 0 where
  pub kind : kind_is r.kind ≡ kind_in ((content_from false (ahead file at line)).name ∷ (content_from false (ahead file at line)).parameters)
  pub said : (content_from false (ahead file at line)).said ≡ said_at file r.place
  pub inside : LiesInside file at line r.place

pub record ReadsValue (file : Bytes) (at line mark : ℕ) (r : found.Value) : Type 0 where
  pub kind : kind_is r.kind ≡ kind_in (tail_of mark (ahead file at line)).parameters
  pub said : (tail_of mark (ahead file at line)).said ≡ said_at file r.place
  pub inside : LiesInside file at line r.place
