-- Chained advances in years: they add up from every day but 29 February.
-- Assumes nothing.
use Rattle.std.specs.Prelude.{ℕ, zero, suc, ◌+◌, ◌-◌, ◌*◌, ◌/◌, ◌%◌, ◌≤◌, ◌≡◌, refl, Bool, true, false, eqb, get_or, ℤ, ◌+ℤ◌}
use Rattle.std.proofs.Common.{sym, ◌∙◌, arith, eqb-true}
use Rattle.std.proofs.lemmas.Bool.{eqb-false}
use Rattle.refusal.specs.Answer.{given, BOOK}
use Rattle.refusal.specs.Laws.Answers.{need_given}
use Rattle.period.specs.declared.Unit.TheVariants.{Years}
use Rattle.date.specs.Civil.{leap, row_of, fields_of, month_length}
use Rattle.date.specs.Date.{in_book, step, month_index, in_month, shift_months, shifted, advance_of}
use Rattle.date.specs.Laws.Months.{length_ge}
use Rattle.date.specs.Laws.Round.{Valid, fields_valid}
use Rattle.date.specs.Laws.Made.{made}
use Rattle.advancing.specs.Dates.{day_of_lem, years_are, months_add_kept}

-- a month but February has one length in every year
one_length : (l : Bool) (k : ℕ) → (k ≡ 1 → ⊥) → get_or (row_of l) k 0 ≡ get_or (row_of false) k 0
unfolding row_of
one_length false k h = refl
one_length true zero h = refl
one_length true (suc zero) h = absurd (h refl)
one_length true (suc (suc k)) h = refl

length_same : (y y' m : ℕ) → (m - 1 ≡ 1 → ⊥) → month_length y m ≡ month_length y' m
unfolding month_length
length_same y y' m h = one_length (leap y) (m - 1) h ∙ sym (one_length (leap y') (m - 1) h)

-- so many years on or back is the same month
same_month_lem : (back : Bool) (y m k : ℕ) → 1 ≤ m → m ≤ 12 → 1 ≤ step back (12 * y + m - 1) (12 * k) → step back (12 * y + m - 1) (12 * k) % 12 + 1 ≡ m
unfolding step
same_month_lem true y m k a b h = omega arith
same_month_lem false y m k a b h = omega arith

has_day : (y y' m d : ℕ) (b : Bool) → eqb m 2 ≡ b → Valid y m d → (m ≡ 2 → d ≤ 28) → d ≤ month_length y' m
has_day y y' m d true e v h = omega (arith, h (eqb-true m 2 e), length_ge y' m v.twelve)
has_day y y' m d false e v h =
    omega (arith, v.last, length_same y y' m (λ x. eqb-false m 2 e (omega arith)))

kept : (n m : ℕ) (back : Bool) (k : ℕ) → shift_months n back (12 * k) ≡ given m → ((fields_of n).month ≡ 2 → (fields_of n).day ≤ 28) → (fields_of m).day ≡ (fields_of n).day
unfolding shift_months in_month month_index
kept n m back k h f =
    let v = fields_valid n in
    let t = step back (month_index n) (12 * k) in
    let g = made (t / 12) (t % 12 + 1) _ m h in
    let q : t % 12 + 1 ≡ (fields_of n).month = same_month_lem back (fields_of n).year (fields_of n).month k v.month v.twelve (omega (arith, g.from_1800)) in
    let l : (fields_of n).day ≤ month_length (t / 12) (t % 12 + 1) = rw q (has_day (fields_of n).year (t / 12) (fields_of n).month (fields_of n).day (eqb (fields_of n).month 2) refl v f) in
    day_of_lem t (fields_of n).day m h ∙ omega arith

pub years_add : (d m : ℕ) (a b : ℤ) → ((fields_of d).month ≡ 2 → (fields_of d).day ≤ 28) → advance_of d a Years ≡ given m → in_book m ≡ true → advance_of m b Years ≡ advance_of d (a +ℤ b) Years
unfolding advance_of shifted
years_add d m a b f h q =
    months_add_kept Years years_are d m a b (kept d m _ _ (need_given BOOK (in_book d) _ m h).1 f) h q
