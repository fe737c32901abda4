-- Laws of the ways through the open parts: one for each way through the code.
-- Assumes nothing.
use Prim.Native.Nat.{ℕ, ◌+◌, ◌≤◌, ◌<◌}
use mathlib.Core.Path.{◌≡◌, refl, sym, ap, ◌∙◌}
use mathlib.Core.Bool.{Bool, true, false, not}
use mathlib.Core.List.{List, ◌∷◌}
use native.Mathlib.Numerals.{add-one}
use native.Mathlib.Omega.{arith}
use lib.Dec.{eqb}
use lib.ListN.{length, get_or, set}
use borrow.Author.Rules.{rules}
use borrow.Author.Tests.{eq-eqb, ne_eqb}
use Rattle.std.specs.Prelude.{None, Some}
use Rattle.holidays.specs.Words.{Bytes, uppers, equal}
use Rattle.holidays.specs.Content.{value}
use Rattle.holidays.specs.Nesting.{Parts, may_begin, may_end, open_are, after_begin}
use Rattle.holidays.specs.Laws.Nest.{parts_long, begins_so, part_put, nest_event, nest_kept}
use Rattle.holidays.specs.Inner.Letters.{packs}
use Rattle.holidays.specs.Inner.Along.{ahead, Before}
use Rattle.holidays.specs.Inner.Parts.{parts_of, CALENDAR_IS, may_begin_by, NestIsOk, OpensAs, Opens}
use Rattle.holidays.proofs.WordWays.{taken, left, ahead_any}

-- ---- what may begin
module _ (depth w : ℕ) where
  pub begin_outside : depth ≡ 0 → eqb w 59478189215794 ≡ may_begin_by depth w
  unfolding may_begin_by
  begin_outside e = taken _ _ _ (eq-eqb depth 0 e)

  module _ (n : depth ≡ 0 → ⊥) where
    pub begin_calendar : w ≡ 59478189215794 → false ≡ may_begin_by depth w
    unfolding may_begin_by
    begin_calendar e = taken _ _ _ (eq-eqb w CALENDAR_IS e) ∙ left _ _ _ (ne_eqb depth 0 n)

    module _ (m : w ≡ 59478189215794 → ⊥) where
      pub begin_second : depth ≡ 1 → true ≡ may_begin_by depth w
      unfolding may_begin_by
      begin_second e = taken _ _ _ (eq-eqb depth 1 e) ∙ left _ _ _ (ne_eqb w CALENDAR_IS m) ∙ left _ _ _ (ne_eqb depth 0 n)

      pub begin_deep : (depth ≡ 1 → ⊥) → not (eqb w 1817908692) ≡ may_begin_by depth w
      unfolding may_begin_by
      begin_deep e = left _ _ _ (ne_eqb depth 1 e) ∙ left _ _ _ (ne_eqb w CALENDAR_IS m) ∙ left _ _ _ (ne_eqb depth 0 n)

pub ruleset beginnings = (begin_outside, begin_calendar, begin_second, begin_deep, rules)

-- ---- a part opens
module _ (file : Bytes) (at line depth : ℕ) (event : Bool) (stack : List ℕ) (nest : NestIsOk event (parts_of file stack depth)) {w : ℕ} (p : w ≡ packs 1 (ahead file at line)) {b : Bool} (q : b ≡ may_begin_by depth w) where
  abbrev here : Parts
  here = parts_of file stack depth

  may : b ≡ may_begin (ahead file at line) here
  may = q ∙ ap (may_begin_by depth) p ∙ sym (begins_so (ahead file at line) event here depth nest (parts_long file stack depth))

  pub open_broken : b ≡ false → Opens file at line depth event stack None stack
  unfolding OpensAs after_begin
  open_broken e = record { so = (sym (left _ _ _ (sym may ∙ e)), refl) }

  module _ (e : b ≡ true) (room : depth < length stack) where
    put_so : parts_of file (set stack depth at) (depth + 1) ≡ uppers (ahead file at line) ∷ here
    put_so = part_put file stack at depth room ∙ ap (λ (s : Bytes). uppers s ∷ here) (ahead_any file at 0 line)

    after_so : after_begin (value (ahead file at line)) here ≡ open_are (parts_of file (set stack depth at) (depth + 1))
    unfolding after_begin
    after_so = sym (taken _ _ _ (sym may ∙ e)) ∙ ap open_are (sym put_so)

    by_number : may_begin_by depth (packs 1 (ahead file at line)) ≡ true
    by_number = ap (may_begin_by depth) (sym p) ∙ sym q ∙ e

    pub open_second : depth ≡ 1 → Opens file at line depth event stack (Some (eqb w 1817908692)) (set stack depth at)
    unfolding OpensAs
    open_second z =
        record { so = (after_so, (rw (put_so, p) (nest_event (ahead file at line) event here depth nest (parts_long file stack depth) by_number z), refl)) }

    pub open_other : (depth ≡ 1 → ⊥) → Opens file at line depth event stack (Some event) (set stack depth at)
    unfolding OpensAs
    open_other z =
        record { so = (after_so, (rw put_so (nest_kept (ahead file at line) event here depth nest (parts_long file stack depth) by_number z), refl)) }

pub place_fits : {file : Bytes} {at line : ℕ} → Before file at line → at < 4294967296
place_fits b = omega (arith, b.inside, b.short)

pub ruleset openings = (open_broken, open_second, open_other, place_fits, rules)

-- ---- the innermost part ends
pub end_same : (file : Bytes) (at line depth : ℕ) (stack : List ℕ) {b : Bool} → b ≡ equal (uppers (ahead file at line)) (uppers (ahead file (get_or stack depth 0) 0)) → b ≡ may_end (ahead file at line) (parts_of file stack (depth + 1))
unfolding may_end parts_of
end_same file at line depth stack e = e ∙ ap (λ (k : ℕ). may_end (ahead file at line) (parts_of file stack k)) (sym (add-one depth))

pub place_in : {file : Bytes} {at line : ℕ} (i : ℕ) → Before file at line → i ≤ length file → Before file i 0
place_in i b h = record { inside = h; short = b.short; low = omega arith }

pub ruleset endings = (end_same, place_in, rules)
