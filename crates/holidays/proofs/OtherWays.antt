-- Laws of a line whose first byte starts no name that counts.
-- Assumes nothing.
use Prim.Native.Nat.{ℕ, ◌+◌, ◌<◌}
use mathlib.Core.Path.{◌≡◌, refl, sym, ap, ◌∙◌}
use mathlib.Core.Bool.{Bool, true, false, false≢true}
use mathlib.Core.List.{List, ◌∷◌}
use lib.Dec.{eqb}
use lib.ListN.{length, get_or}
use borrow.Author.Tests.{ne_eqb}
use borrow.Author.Rules.{rules}
use Rattle.std.specs.Prelude.{Ok, Err}
use Rattle.refusal.specs.declared.Refusal.TheVariants.{Ical}
use Rattle.holidays.specs.declared.turns.State.{State}
use Rattle.holidays.specs.Words.{Bytes, pick, upper, uppers, equal, ascii, spells, COLON, SEMICOLON, QUOTE}
use Rattle.holidays.specs.Content.{Content, turned, by_mark, content_from, content_of, other, name_of}
use Rattle.holidays.specs.Nesting.{After, broken, open_are, after, after_other, is_blank}
use Rattle.holidays.specs.Events.{in_event}
use Rattle.holidays.specs.Laws.Exactly.{Here, goes, event_turn, inside_turn, nest_turn, line_turn, blank_turn_of, turn_of}
use Rattle.holidays.specs.Inner.Along.{Before, ahead, IsStepped}
use Rattle.holidays.specs.Inner.Days.{days_of}
use Rattle.holidays.specs.Inner.Others.{Others}
use Rattle.holidays.specs.Inner.Parts.{parts_of}
use Rattle.holidays.specs.Inner.Turns.{turn_shows, here_of, line_of, Keeps, IsTurnState, Turned}
use Rattle.holidays.proofs.LineWays.{next_start, next_byte}
use Rattle.holidays.proofs.WordWays.{inside_here}
use Rattle.holidays.proofs.TurnWays.{open_parts}

-- ---- the first byte
pub not_other : (file : Bytes) (at : ℕ) → Others file at false
not_other file at = record { so = λ e. absurd (false≢true e) }

module _ (b : ℕ) (B : upper b ≡ 66 → ⊥) (D : upper b ≡ 68 → ⊥) (E : upper b ≡ 69 → ⊥) (R : upper b ≡ 82 → ⊥) where
  no_name : (t : Bytes) → name_of (b ∷ t) ≡ other
  unfolding name_of spells uppers equal ascii pick
  no_name t = rw (ne_eqb (upper b) 66 B, ne_eqb (upper b) 69 E, ne_eqb (upper b) 68 D, ne_eqb (upper b) 82 R)

  no_content : (s : Bytes) → name_of (content_of (b ∷ s)).name ≡ other
  unfolding content_of content_from by_mark name_of spells uppers equal ascii pick
  no_content s = go (eqb b COLON) (eqb b SEMICOLON)
    where
      go : (x y : Bool) → name_of (by_mark x y b s (content_from (turned (eqb b QUOTE) false) s)).name ≡ other
      go true y = refl
      go false true = refl
      go false false = no_name (content_from (turned (eqb b QUOTE) false) s).name

pub is_other : (file : Bytes) (at c : ℕ) → at < length file → c ≡ upper (get_or file at 0) → (c ≡ 10 → ⊥) → (c ≡ 13 → ⊥) → (c ≡ 66 → ⊥) → (c ≡ 68 → ⊥) → (c ≡ 69 → ⊥) → (c ≡ 82 → ⊥) → Others file at true
unfolding upper pick IsStepped
is_other file at c h e feed return B D E R =
    record {
      so = λ q line b.
          let s = next_byte (next_start b) h (λ x. feed (e ∙ ap upper x ∙ ten)) (λ x. return (e ∙ ap upper x ∙ thirteen)) in
          ap (λ (l : Bytes). name_of (content_of l).name) s.so.bytes ∙ no_content (get_or file at 0) (λ x. B (e ∙ x)) (λ x. D (e ∙ x)) (λ x. E (e ∙ x)) (λ x. R (e ∙ x)) (ahead file (at + 1) line);
    }
  where
    ten : upper 10 ≡ 10
    ten = refl

    thirteen : upper 13 ≡ 13
    thirteen = refl

pub ruleset others = (not_other, is_other, rules)

-- ---- its turn
other_turn : (a : After) (inside : Bool) (room line : ℕ) (c : Content) (h : Here) (ps : List Bytes) → a ≡ open_are ps → nest_turn a inside other room line c h.draft h.dates ≡ goes (record { parts = ps; draft = h.draft; dates = h.dates })
unfolding nest_turn inside_turn event_turn
other_turn a inside room line c h ps e = rw e (go inside)
  where
    go : (i : Bool) → inside_turn i other room line c h.draft ps h.dates ≡ goes (record { parts = ps; draft = h.draft; dates = h.dates })
    go true = refl
    go false = refl

module _ (file : Bytes) (st : State) (stack : List ℕ) (room : ℕ) (map : List ℕ) (b : Before file st.place.at st.place.line) (text : is_blank (ahead file st.place.at st.place.line) ≡ false) (k : Keeps file stack room map st) {r : Bool} (o : Others file st.place.at r) (e : r ≡ true) where
  abbrev here : Here
  here = here_of file stack (days_of map) st

  turn_by : turn_of room (record { number = st.place.line; bytes = ahead file st.place.at st.place.line }) here ≡ nest_turn (after_other here.parts) (in_event here.parts) other room st.place.line (line_of file st) here.draft here.dates
  unfolding turn_of blank_turn_of line_turn after
  turn_by = rw (text, o.so e st.place.line b)

  pub other_outside : st.depth ≡ 0 → Turned file st stack room map (Err Ical) stack map
  unfolding turn_shows IsTurnState parts_of after_other nest_turn
  other_outside z =
      let q : after_other here.parts ≡ broken = ap (λ (n : ℕ). after_other (parts_of file stack n)) z in
      record { same = sym (turn_by ∙ ap (λ (a : After). nest_turn a (in_event here.parts) other room st.place.line (line_of file st) here.draft here.dates) q); kept = tt }

  pub other_passes : (st.depth ≡ 0 → ⊥) → Turned file st stack room map (Ok st) stack map
  unfolding turn_shows IsTurnState
  other_passes z =
      record {
        same = sym (turn_by ∙ other_turn (after_other here.parts) (in_event here.parts) room st.place.line (line_of file st) here here.parts (open_parts file stack st.depth z));
        kept = record { inside = inside_here b; keeps = k };
      }

pub ruleset other_turns = (other_outside, other_passes, rules)
