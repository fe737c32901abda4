-- Lines put one behind the other: a turn puts the line of the next date. Before them the lines with brackets are counted.
-- Assumes nothing.
use Prim.Native.Nat.{ℕ, ◌+◌, ◌≤◌, ◌<◌}
use mathlib.Core.Path.{◌≡◌, refl, ap, sym, ◌∙◌}
use mathlib.Core.List.{List, [], ◌++◌, append_assoc, append-nil}
use native.Mathlib.Nat.{add-zero}
use native.Mathlib.Numerals.{add-one}
use native.Mathlib.Omega.{arith}
use lib.ListN.{length, drop, get_or, drop_of_length-le, length-append}
use lib.Seq.{drop-cons, drop-drop, get_or-drop}
use borrow.Author.Rules.{rules}
use Rattle.printing.specs.Text.{mark, later_line, later_lines}
use Rattle.printing.specs.Put.{Put, differs, differing}
use Rattle.printing.specs.Laws.Lengths.{differing_most}
use Rattle.printing.proofs.Putting.{put_none, put_then}

-- ---- the brackets of the first i dates are counted, and those of the others are known
pub record Counted (dates unadjusted : List ℕ) (n i : ℕ) : Type 0 where
  pub whole : n + differing (drop i dates) (drop i unadjusted) ≡ differing dates unadjusted
  pub within : i ≤ length dates

next_count : (dates unadjusted : List ℕ) (i : ℕ) → i < length dates → differs (get_or dates i 0) (get_or unadjusted i (get_or dates i 0)) + differing (drop (i + 1) dates) (drop (i + 1) unadjusted) ≡ differing (drop i dates) (drop i unadjusted)
unfolding differing
next_count dates unadjusted i h =
    rw (drop-cons dates i 0 h, get_or-drop i unadjusted 0 (get_or dates i 0), add-zero i, drop-drop 1 i unadjusted, add-one i)

module _ {dates unadjusted : List ℕ} where
  pub counted_none : Counted dates unadjusted 0 0
  counted_none = record { whole = omega arith; within = omega arith }

  module _ {n i : ℕ} (day other : ℕ) (c : Counted dates unadjusted n i) (h : i < length dates) (d : day ≡ get_or dates i 0) (o : other ≡ get_or unadjusted i day) where
    this_count : differs day other + differing (drop (i + 1) dates) (drop (i + 1) unadjusted) ≡ differing (drop i dates) (drop i unadjusted)
    this_count = rw (o, d) (next_count dates unadjusted i h)

    pub counted_more : (k : ℕ) → k ≡ differs day other → Counted dates unadjusted (n + k) (i + 1)
    counted_more k e = record { whole = omega (arith, this_count, c.whole, e); within = omega arith }

    pub counted_few : (k : ℕ) → k ≡ differs day other → n + k ≤ length dates
    counted_few k e = omega (arith, this_count, c.whole, e, differing_most dates unadjusted)

  pub counted_all : {n i : ℕ} → Counted dates unadjusted n i → length dates ≤ i → n ≡ differing dates unadjusted
  unfolding differing
  counted_all {n} {i} c h =
      let none : drop i dates ≡ [] = drop_of_length-le dates {i = i} h in
      let w : n + differing (drop i dates) (drop i unadjusted) ≡ differing dates unadjusted = c.whole in
      omega (arith, rw none at w)

-- ---- the lines of the first i dates stand from `at` on, and what follows them is known
pub record Laid (dates flags unadjusted : List ℕ) (at : ℕ) (old new : List ℕ) (next i : ℕ) : Type 0 where
  pub text : List ℕ
  pub put : Put text at old next new
  pub whole : text ++ later_lines (drop i dates) (drop i flags) (drop i unadjusted) ≡ later_lines dates flags unadjusted
  pub within : i ≤ length dates
  pub size : length new ≡ length old

next_line : (dates flags unadjusted : List ℕ) (i : ℕ) → i < length dates → later_line (get_or dates i 0) (mark (get_or flags i 0)) (get_or unadjusted i (get_or dates i 0)) ++ later_lines (drop (i + 1) dates) (drop (i + 1) flags) (drop (i + 1) unadjusted) ≡ later_lines (drop i dates) (drop i flags) (drop i unadjusted)
unfolding later_lines
next_line dates flags unadjusted i h =
    rw (drop-cons dates i 0 h, get_or-drop i flags 0 0, get_or-drop i unadjusted 0 (get_or dates i 0), add-zero i, drop-drop 1 i flags, drop-drop 1 i unadjusted, add-one i)

module _ {dates flags unadjusted : List ℕ} {at : ℕ} {old : List ℕ} where
  pub laid_none : Laid dates flags unadjusted at old old at 0
  laid_none = record { text = []; put = put_none at old; whole = refl; within = omega arith; size = refl }

  module _ {new : List ℕ} {next i : ℕ} (day letter other : ℕ) (c : Laid dates flags unadjusted at old new next i) (h : i < length dates) (d : day ≡ get_or dates i 0) (l : letter ≡ mark (get_or flags i 0)) (o : other ≡ get_or unadjusted i day) where
    this_line : later_line day letter other ++ later_lines (drop (i + 1) dates) (drop (i + 1) flags) (drop (i + 1) unadjusted) ≡ later_lines (drop i dates) (drop i flags) (drop i unadjusted)
    this_line = rw (o, d, l) (next_line dates flags unadjusted i h)

    pub laid_room : at + length (later_lines dates flags unadjusted) ≤ length old → next + length (later_line day letter other) ≤ length new
    laid_room r =
        let a : length c.text + length (later_lines (drop i dates) (drop i flags) (drop i unadjusted)) ≡ length (later_lines dates flags unadjusted) = sym (length-append c.text _) ∙ ap length c.whole in
        let b : length (later_line day letter other) + length (later_lines (drop (i + 1) dates) (drop (i + 1) flags) (drop (i + 1) unadjusted)) ≡ length (later_lines (drop i dates) (drop i flags) (drop i unadjusted)) = sym (length-append (later_line day letter other) _) ∙ ap length this_line in
        omega (arith, c.put.ends, c.size)

    pub laid_more : {newer : List ℕ} {end : ℕ} → Put (later_line day letter other) next new end newer → Laid dates flags unadjusted at old newer end (i + 1)
    laid_more {newer} {end} p =
        record {
          text = c.text ++ later_line day letter other;
          put = put_then c.put p;
          whole = append_assoc c.text _ _ ∙ rw this_line c.whole;
          within = omega arith;
          size = p.size ∙ c.size;
        }

  pub laid_all : {new : List ℕ} {next i : ℕ} → Laid dates flags unadjusted at old new next i → length dates ≤ i → Put (later_lines dates flags unadjusted) at old next new
  unfolding later_lines
  laid_all {new} {next} {i} c h =
      let w : c.text ++ later_lines (drop i dates) (drop i flags) (drop i unadjusted) ≡ later_lines dates flags unadjusted = c.whole in
      let none : drop i dates ≡ [] = drop_of_length-le dates {i = i} h in
      let t : c.text ≡ later_lines dates flags unadjusted = sym (append-nil c.text) ∙ (rw none at w) in
      rw (sym t) c.put

pub ruleset counts = (counted_none, counted_more, counted_few, counted_all, rules)

pub ruleset layings = (laid_none, laid_room, laid_more, laid_all, rules)
