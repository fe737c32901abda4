-- Laws of answers that are days, and of `make_of`: what each test refuses, and what an answer that is a day tells.
-- Assumes nothing.
use Rattle.std.specs.Prelude.{ℕ, Result, Ok, Err, suc, ◌+◌, ◌-◌, ◌≤◌, ◌<◌, ◌≡◌, refl, leb, IsErr, IsErrAnd}
use Rattle.std.proofs.Common.{ap, ◌∙◌, sym, arith}
use borrow.Author.Tests.{le-leb, lt-leb, leb-true}
use Rattle.refusal.specs.Answer.{Answer, given, refused, need, BOOK}
use Rattle.refusal.specs.Laws.Answers.{fails, after, need_given, handed, same_number}
use Rattle.refusal.specs.declared.Refusal.{Refusal}
use Rattle.refusal.specs.Refusals.{number_of}
use Rattle.date.specs.declared.Date.{Date}
use Rattle.date.specs.Civil.{pick_n, leap, row_of, gone, sum_to, day_number, month_length}
use Rattle.date.specs.Date.{SPAN_FIRST, SPAN_LAST, dated, make_of}
use Rattle.date.specs.Laws.Years.{gone_suc, gone_le}
use Rattle.date.specs.Laws.Round.{Valid, day_in_year}

-- what a call gave, by the case that it was
pub given_day : (d : Result Date Refusal) (x : Date) (a : Answer ℕ) → dated d ≡ a → d ≡ Ok x → a ≡ given x.day
given_day d x a h e = sym h ∙ rw e

pub refused_day : (d : Result Date Refusal) (r : Refusal) (a : Answer ℕ) → dated d ≡ a → d ≡ Err r → a ≡ refused (number_of r)
refused_day d r a h e = sym h ∙ rw e

-- what `?` hands on of a call that gives a date
pub day_handed_on : (d : Result Date Refusal) (r : Refusal) → IsErr d × IsErrAnd d (λ k. k ≡ r) → dated d ≡ refused (number_of r)
day_handed_on d r h = ap dated (handed d r h)

-- two answers of the code that say the same are the same
pub same_dated : (d e : Result Date Refusal) → dated d ≡ dated e → d ≡ e
same_dated (Ok x) (Ok y) h = ap (λ (n : ℕ). Ok (record { day = n })) (let q : x.day ≡ y.day = cc in q)
same_dated (Ok x) (Err r) h = let z : ◌≡◌ {A = ℕ} 0 1 = cc in let bad : ⊥ = omega arith in absurd bad
same_dated (Err r) (Ok y) h = let z : ◌≡◌ {A = ℕ} 0 1 = cc in let bad : ⊥ = omega arith in absurd bad
same_dated (Err r) (Err s) h = ap Err (same_number r s (let q : number_of r ≡ number_of s = cc in q))

module _ (y m d : ℕ) where
  pub make_early : y < 1800 → refused BOOK ≡ make_of y m d
  unfolding make_of
  make_early h = fails BOOK (leb 1800 y) _ (lt-leb 1800 y h)

  pub make_late : 2399 < y → refused BOOK ≡ make_of y m d
  unfolding make_of
  make_late h = after BOOK _ _ (fails BOOK (leb y 2399) _ (lt-leb y 2399 h))

  pub make_month_0 : m < 1 → refused BOOK ≡ make_of y m d
  unfolding make_of
  make_month_0 h = after BOOK _ _ (after BOOK _ _ (fails BOOK (leb 1 m) _ (lt-leb 1 m h)))

  pub make_month_13 : 12 < m → refused BOOK ≡ make_of y m d
  unfolding make_of
  make_month_13 h = after BOOK _ _ (after BOOK _ _ (after BOOK _ _ (fails BOOK (leb m 12) _ (lt-leb m 12 h))))

  pub make_day_0 : d < 1 → refused BOOK ≡ make_of y m d
  unfolding make_of
  make_day_0 h = after BOOK _ _ (after BOOK _ _ (after BOOK _ _ (after BOOK _ _ (fails BOOK (leb 1 d) _ (lt-leb 1 d h)))))

  pub make_day_over : month_length y m < d → refused BOOK ≡ make_of y m d
  unfolding make_of
  make_day_over h =
      after BOOK _ _
      (after BOOK _ _
      (after BOOK _ _ (after BOOK _ _ (after BOOK _ _ (fails BOOK (leb d (month_length y m)) _ (lt-leb d (month_length y m) h))))))

  pub make_ok : 1800 ≤ y → y ≤ 2399 → 1 ≤ m → m ≤ 12 → 1 ≤ d → d ≤ month_length y m → (n : ℕ) → n ≡ day_number y m d → given n ≡ make_of y m d
  unfolding make_of need
  make_ok a b e f g h n q =
      simp (le-leb 1800 y a, le-leb y 2399 b, le-leb 1 m e, le-leb m 12 f, le-leb 1 d g, le-leb d (month_length y m) h)
      (ap (λ (k : ℕ). given k) q)

-- day n is the year, month and day, and one of 1800 to 2399
pub record Made (y m d n : ℕ) : Type 0 where
  pub valid : Valid y m d
  pub from_1800 : 1800 ≤ y
  pub to_2399 : y ≤ 2399
  pub number : n ≡ day_number y m d

pub made : (y m d n : ℕ) → make_of y m d ≡ given n → Made y m d n
unfolding make_of
made y m d n h =
    let p₁ = need_given BOOK (leb 1800 y) _ n h in
    let p₂ = need_given BOOK (leb y 2399) _ n p₁.1 in
    let p₃ = need_given BOOK (leb 1 m) _ n p₂.1 in
    let p₄ = need_given BOOK (leb m 12) _ n p₃.1 in
    let p₅ = need_given BOOK (leb 1 d) _ n p₄.1 in
    let p₆ = need_given BOOK (leb d (month_length y m)) _ n p₅.1 in
    record {
      valid =
          record {
            year = omega (arith, leb-true 1800 y p₁.0);
            month = leb-true 1 m p₃.0;
            twelve = leb-true m 12 p₄.0;
            first = leb-true 1 d p₅.0;
            last = leb-true d (month_length y m) p₆.0;
          };
      from_1800 = leb-true 1800 y p₁.0;
      to_2399 = leb-true y 2399 p₂.0;
      number = let q = p₆.1 in cc;
    }

gone_1799 : suc (gone 1799) ≡ SPAN_FIRST
unfolding gone
gone_1799 = refl

gone_2399 : gone 2399 ≡ SPAN_LAST
unfolding gone
gone_2399 = refl

-- a year ends where the next begins
pub year_end : (y : ℕ) → 1 ≤ y → gone y ≡ gone (y - 1) + pick_n (leap y) 366 365
year_end y h = let e : y - 1 + 1 ≡ y = omega arith in rw e at (gone_suc (y - 1))

pub made_in_year : (y m d n : ℕ) → Made y m d n → (gone (y - 1) < n) × (n ≤ gone y)
unfolding day_number month_length
made_in_year y m d n h =
    let v = h.valid in
    let q : n ≡ gone (y - 1) + sum_to (row_of (leap y)) (m - 1) + d = h.number in
    let s = day_in_year y (m - 1) (d - 1) (omega arith) (omega arith) in
    (omega arith, omega (arith, year_end y (omega arith)))

-- a day made is one of those that results may be
pub made_within : (y m d n : ℕ) → Made y m d n → (SPAN_FIRST ≤ n) × (n ≤ SPAN_LAST)
made_within y m d n h =
    let i = made_in_year y m d n h in
    (omega (arith, gone_1799, gone_le 1799 (y - 1) (omega arith)), omega (arith, gone_2399, gone_le y 2399 (omega arith)))
