-- A turn of the merge: what the combined list begins with, up to the end of the desk's first year.
-- Assumes nothing.
use Prim.Native.Nat.{ℕ, zero, suc, ◌+◌, ◌≤◌, ◌<◌}
use Rattle.std.specs.Prelude.{◌≡◌, Bool, true, false, eqb, ltb, length, get_or, take, drop}
use Rattle.std.proofs.Math.Path.{refl, ap}
use Rattle.std.proofs.Common.{◌∙◌, arith}
use mathlib.Core.List.{List, [], ◌∷◌, ◌++◌}
use borrow.Author.Tests.{leb-true, le-leb, le-ltb, lt-ltb, eq-eqb, ne_eqb}
use Rattle.calendar.specs.Open.{ascending}
use Rattle.desk.specs.Desk.{year_of, kept, entries_in, has_none, left_to, before, put, put_if, combined}
use Rattle.desk.specs.Laws.Ascending.{asc, cons, empty}
use Rattle.desk.specs.Laws.Combined.{combined_ascends}
use Rattle.desk.specs.Laws.Entries.{nothing}
use Rattle.desk.specs.Laws.Years.{earlier_year}

-- ---- a day put before all, and past some
module _ (high : ℕ) where
  put_front : (x : ℕ) (list : List ℕ) → ascending (x + 1) high list ≡ true → put x list ≡ x ∷ list
  unfolding put before
  put_front x [] e = refl
  put_front x (y ∷ ys) e = rw (lt-ltb x y (omega (arith, leb-true (x + 1) y (asc high (x + 1) y ys e).0))) refl

  raise : (low from : ℕ) (list : List ℕ) → ascending from high list ≡ true → ((k : ℕ) → k < length list → low ≤ get_or list k 0) → ascending low high list ≡ true
  raise low from [] e f = empty high low
  raise low from (x ∷ xs) e f = let a = asc high from x xs e in cons high low x xs (le-leb low x (f 0 (omega arith))) a.1 a.2

put_past : (x : ℕ) (list rest : List ℕ) → ((k : ℕ) → k < length list → get_or list k 0 < x) → put x (list ++ rest) ≡ list ++ put x rest
unfolding put before
put_past x [] rest f = refl
put_past x (y ∷ ys) rest f =
    let l = f 0 (omega arith) in
    rw (le-ltb x y (omega arith)) (ap (λ (zs : List ℕ). y ∷ zs) (put_past x ys rest (λ k h. f (suc k) (omega arith))))

put_past_if : (b : Bool) (x : ℕ) (list rest : List ℕ) → ((k : ℕ) → k < length list → get_or list k 0 < x) → put_if b x (list ++ rest) ≡ list ++ put_if b x rest
unfolding put_if
put_past_if true x list rest f = put_past x list rest f
put_past_if false x list rest f = refl

-- ---- whom the years of a list leave to the house
left_all : (desk : List ℕ) (x : ℕ) → ((k : ℕ) → k < length desk → year_of x < year_of (get_or desk k 0)) → left_to desk x ≡ true
unfolding left_to has_none
left_all desk x f =
    ap has_none (nothing (year_of x) desk (λ k h. other (year_of (get_or desk k 0)) (year_of x) (f k h)))
  where
    other : (a b : ℕ) → b < a → eqb a b ≡ false
    other a b l = ne_eqb a b (λ p. let bad : ⊥ = omega arith in bad)

past_entries : (year : ℕ) (list rest : List ℕ) → ((k : ℕ) → k < length list → year_of (get_or list k 0) < year) → entries_in year (list ++ rest) ≡ entries_in year rest
unfolding entries_in kept
past_entries year [] rest f = refl
past_entries year (x ∷ xs) rest f =
    let l = f 0 (omega arith) in
    rw (ne_eqb (year_of x) year (λ p. let bad : ⊥ = omega arith in bad)) (past_entries year xs rest (λ k h. f (suc k) (omega arith)))

-- ---- the three parts of a turn
module _ (y : ℕ) where
  module _ (high low : ℕ) (desk : List ℕ) (d : ascending low high desk ≡ true) (late : (k : ℕ) → k < length desk → y ≤ year_of (get_or desk k 0)) where
    first_put : (from x : ℕ) (xs : List ℕ) → ascending from high (x ∷ xs) ≡ true → year_of x < y → combined desk (x ∷ xs) ≡ x ∷ combined desk xs
    unfolding combined put_if
    first_put from x xs e h =
        let later = raise high (x + 1) low desk d (λ k l. omega (arith, earlier_year x (get_or desk k 0) (omega (arith, late k l)))) in
        ap (λ (b : Bool). put_if b x (combined desk xs)) (left_all desk x (λ k l. omega (arith, late k l)))
        ∙ put_front high x (combined desk xs) (combined_ascends desk (x + 1) high later (x + 1) xs (omega arith) (asc high from x xs e).2)

    pub in_front_lem : (from n : ℕ) (house : List ℕ) → ascending from high house ≡ true → n ≤ length house → ((k : ℕ) → k < n → year_of (get_or house k 0) < y) → combined desk house ≡ take n house ++ combined desk (drop n house)
    in_front_lem from zero [] e l f = refl
    in_front_lem from zero (x ∷ xs) e l f = refl
    in_front_lem from (suc n) [] e l f = let bad : ⊥ = omega arith in absurd bad
    in_front_lem from (suc n) (x ∷ xs) e l f =
        first_put from x xs e (f 0 (omega arith))
        ∙ ap (λ (zs : List ℕ). x ∷ zs) (in_front_lem (x + 1) n xs (asc high from x xs e).2 (omega arith) (λ k h. f (suc k) (omega arith)))

  pub passed_over : (desk : List ℕ) → has_none (entries_in y desk) ≡ false → (n : ℕ) (house : List ℕ) → n ≤ length house → ((k : ℕ) → k < n → year_of (get_or house k 0) ≡ y) → combined desk house ≡ combined desk (drop n house)
  unfolding combined put_if left_to
  passed_over desk some zero [] l f = refl
  passed_over desk some zero (x ∷ xs) l f = refl
  passed_over desk some (suc n) [] l f = refl
  passed_over desk some (suc n) (x ∷ xs) l f =
      ap (λ (b : Bool). put_if b x (combined desk xs)) (ap (λ (k : ℕ). has_none (entries_in k desk)) (f 0 (omega arith)) ∙ some)
      ∙ passed_over desk some n xs (omega arith) (λ k h. f (suc k) (omega arith))

  pub own_first : (own rest house : List ℕ) → ((k : ℕ) → k < length own → year_of (get_or own k 0) ≡ y) → ((k : ℕ) → k < length house → y < year_of (get_or house k 0)) → combined (own ++ rest) house ≡ own ++ combined rest house
  unfolding combined left_to
  own_first own rest [] f g = refl
  own_first own rest (x ∷ xs) f g =
      let late = g 0 (omega arith) in
      ap (λ (b : List ℕ). put_if (has_none b) x (combined (own ++ rest) xs)) (past_entries (year_of x) own rest (λ k h. omega (arith, f k h)))
      ∙ ap (put_if (has_none (entries_in (year_of x) rest)) x) (own_first own rest xs f (λ k h. g (suc k) (omega arith)))
      ∙ put_past_if (has_none (entries_in (year_of x) rest)) x own (combined rest xs) (λ k h. earlier_year (get_or own k 0) x (omega (arith, f k h)))

-- a list has an entry in the year of its first
pub has_first : (list : List ℕ) → 0 < length list → has_none (entries_in (year_of (get_or list 0 0)) list) ≡ false
unfolding entries_in kept has_none
has_first [] s = let bad : ⊥ = omega arith in absurd bad
has_first (x ∷ xs) s = rw (eq-eqb (year_of x) (year_of x) refl) refl

-- ---- where the desk has no more, the house's rest is all
pub only_house : (high from : ℕ) (house : List ℕ) → ascending from high house ≡ true → combined [] house ≡ house
unfolding combined put_if left_to has_none entries_in
only_house high from [] e = refl
only_house high from (x ∷ xs) e =
    let a = (asc high from x xs e).2 in
    ap (put x) (only_house high (x + 1) xs a) ∙ put_front high x xs a

-- ---- and it has no more entries than both
put_long : (x : ℕ) (list : List ℕ) → length (put x list) ≡ suc (length list)
unfolding put before
put_long x [] = refl
put_long x (y ∷ ys) = by (ltb x y) (put_long x ys)
  where
    by : (b : Bool) → length (put x ys) ≡ suc (length ys) → length (before b x y ys (put x ys)) ≡ suc (suc (length ys))
    by true h = refl
    by false h = ap suc h

pub combined_few : (desk house : List ℕ) → length (combined desk house) ≤ length desk + length house
unfolding combined put_if
combined_few desk [] = omega arith
combined_few desk (x ∷ xs) = by (left_to desk x) (combined_few desk xs)
  where
    by : (b : Bool) → length (combined desk xs) ≤ length desk + length xs → length (put_if b x (combined desk xs)) ≤ length desk + suc (length xs)
    by true h = omega (arith, put_long x (combined desk xs))
    by false h = omega arith
