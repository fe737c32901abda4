-- The combined list of two lists that keep their rule ascends from 1800 to 2399, so that it keeps its rule wherever it has at most 4,096 entries:
-- builds, month ends and advances over desk and house are those over this one list.
-- Assumes nothing.
use Rattle.std.specs.Prelude.{ℕ, ◌+◌, ◌%◌, ◌≤◌, ◌<◌, ◌≡◌, Bool, not, ◌&&◌, ◌||◌, eqb, leb, ltb, length}
use Rattle.std.proofs.Math.Path.{refl}
use Rattle.std.proofs.Common.{sym, ap, ◌∙◌, arith, ⊎_elim, eq-or-lt_of_le}
use Rattle.std.proofs.Math.Bool.{true, false}
use Rattle.std.proofs.lemmas.Bool.{false≢true}
use mathlib.Core.List.{List, [], ◌∷◌}
use borrow.Author.Tests.{leb-true, le-leb, ltb-true, ltb-false, eqb-false}
use Rattle.refusal.specs.Answer.{Answer, need, BOOK, CALENDAR}
use Rattle.refusal.specs.Laws.Answers.{both}
use Rattle.date.specs.Date.{SPAN_FIRST, SPAN_LAST, in_book}
use Rattle.calendar.specs.declared.Convention.{Convention}
use Rattle.calendar.specs.Open.{member, ascending, closed_ok, calendar_ok}
use Rattle.calendar.specs.Calendar.{adjust_of}
use Rattle.calendar.specs.AnyCalendar.{adjusted}
use Rattle.desk.specs.Desk.{year_of, entries_in, opens_over, calendars_ok, adjust_over_of, left_to, before, put, put_if, combined}
use Rattle.desk.specs.Laws.Ascending.{asc, cons, empty, early}
use Rattle.desk.specs.Laws.Entries.{own_year, none_member}
use Rattle.desk.specs.Laws.Over.{combined_member, adjusted_combined}

module _ (high : ℕ) where
  put_by_lem : (b : Bool) (low x y : ℕ) (ys : List ℕ) → ltb x y ≡ b → leb low x ≡ true → leb x high ≡ true → ascending low high (y ∷ ys) ≡ true → (eqb y x || member x ys) ≡ false → (y + 1 ≤ x → member x ys ≡ false → ascending (y + 1) high (put x ys) ≡ true) → ascending low high (before b x y ys (put x ys)) ≡ true
  unfolding before
  put_by_lem true low x y ys b l h e m f =
      let a = asc high low y ys e in
      cons high low x (y ∷ ys) l h (cons high (x + 1) y ys (le-leb (x + 1) y (omega (arith, ltb-true x y b))) a.1 a.2)
  put_by_lem false low x y ys b l h e m f =
      let a = asc high low y ys e in
      let n = neither (eqb y x) (member x ys) m in
      cons high low y (put x ys) a.0 a.1 (f (after x y (ltb-false x y b) (eqb-false y x n.0)) n.1)
    where
      neither : (a b : Bool) → (a || b) ≡ false → (a ≡ false) × (b ≡ false)
      neither true b e = absurd (false≢true (sym e))
      neither false b e = (refl, e)

      after : (x y : ℕ) → y ≤ x → (y ≡ x → ⊥) → y + 1 ≤ x
      after x y l n = ⊎_elim (λ (p : y ≡ x). absurd (n p)) (λ (p : y < x). omega arith) (eq-or-lt_of_le l)

  put_ascends : (low x : ℕ) (xs : List ℕ) → leb low x ≡ true → leb x high ≡ true → ascending low high xs ≡ true → member x xs ≡ false → ascending low high (put x xs) ≡ true
  unfolding put member
  put_ascends low x [] l h e m = cons high low x [] l h (empty high (x + 1))
  put_ascends low x (y ∷ ys) l h e m =
      put_by_lem (ltb x y) low x y ys refl l h e m (λ g n. put_ascends (y + 1) x ys (le-leb (y + 1) x g) h (asc high low y ys e).2 n)

-- ---- a house's entry that is left to it is on no list yet
left_out : (desk : List ℕ) (x : ℕ) → left_to desk x ≡ true → member x desk ≡ false
unfolding left_to
left_out desk x e = sym (own_year x desk) ∙ none_member x (entries_in (year_of x) desk) e

module _ (desk : List ℕ) (low high : ℕ) (d : ascending low high desk ≡ true) where
  if_ascends : (b : Bool) (x : ℕ) (xs rest : List ℕ) → left_to desk x ≡ b → leb low x ≡ true → leb x high ≡ true → member x rest ≡ (member x desk || (member x xs && left_to desk x)) → member x xs ≡ false → ascending low high rest ≡ true → ascending low high (put_if b x rest) ≡ true
  unfolding put_if
  if_ascends true x xs rest e l h m n r =
      let q : member x rest ≡ false = m ∙ rw (left_out desk x e, n) refl in
      put_ascends high low x rest l h r q
  if_ascends false x xs rest e l h m n r = r

  pub combined_ascends : (from : ℕ) (house : List ℕ) → low ≤ from → ascending from high house ≡ true → ascending low high (combined desk house) ≡ true
  unfolding combined
  combined_ascends from [] g e = d
  combined_ascends from (x ∷ xs) g e =
      let a = asc high from x xs e in
      if_ascends (left_to desk x) x xs (combined desk xs) refl (le-leb low x (omega (arith, leb-true from x a.0))) a.1 (combined_member x desk xs) (early high (x + 1) x xs a.2 (omega arith)) (combined_ascends (x + 1) xs (omega (arith, leb-true from x a.0)) a.2)

-- ---- the combined list keeps its rule exactly if it has at most 4,096 entries
pub ok_ascends : (list : List ℕ) → closed_ok list ≡ true → ascending SPAN_FIRST SPAN_LAST list ≡ true
unfolding closed_ok
ok_ascends list ok = (both (leb (length list) 4096) (ascending SPAN_FIRST SPAN_LAST list) ok).1

pub combined_ok : (desk house : List ℕ) → closed_ok desk ≡ true → closed_ok house ≡ true → closed_ok (combined desk house) ≡ leb (length (combined desk house)) 4096
unfolding closed_ok
combined_ok desk house p q =
    rw (combined_ascends desk SPAN_FIRST SPAN_LAST (ok_ascends desk p) SPAN_FIRST house (omega arith) (ok_ascends house q)) (by (leb (length (combined desk house)) 4096))
  where
    by : (b : Bool) → (b && true) ≡ b
    by true = refl
    by false = refl

pub sound_alike : (mask : ℕ) (desk house : List ℕ) → closed_ok desk ≡ true → closed_ok house ≡ true → closed_ok (combined desk house) ≡ true → calendars_ok mask desk house ≡ calendar_ok mask (combined desk house)
unfolding calendars_ok calendar_ok
sound_alike mask desk house p q r = rw (p, q, r) (by (not (eqb (mask % 128) 127)))
  where
    by : (b : Bool) → ((b && true) && true) ≡ (b && true)
    by true = refl
    by false = refl

-- and then the adjustment over both lists is the former one over it, refusals too
pub combined_adjust : (mask : ℕ) (desk house : List ℕ) (convention : Convention) (day : ℕ) → closed_ok desk ≡ true → closed_ok house ≡ true → length (combined desk house) ≤ 4096 → adjust_over_of mask desk house convention day ≡ adjust_of mask (combined desk house) convention day
unfolding adjust_over_of adjust_of
combined_adjust mask desk house convention day p q few =
    ap (λ (b : Bool). need BOOK (in_book day) (need CALENDAR b (adjusted (opens_over mask desk house) convention day))) same
    ∙ ap (λ (x : Answer ℕ). need BOOK (in_book day) (need CALENDAR (calendar_ok mask (combined desk house)) x)) (adjusted_combined mask desk house convention day)
  where
    same : calendars_ok mask desk house ≡ calendar_ok mask (combined desk house)
    same = sound_alike mask desk house p q (combined_ok desk house p q ∙ le-leb (length (combined desk house)) 4096 few)
