-- The span by its test and by its ends.
-- Assumes nothing.
use Rattle.std.specs.Prelude.{ℕ, ◌<◌, ◌≡◌, true, false, leb}
use Rattle.std.proofs.Math.Path.{refl}
use Rattle.std.proofs.Math.Bool.{and-false}
use borrow.Author.Tests.{leb-true, le-leb, lt-leb}
use Rattle.refusal.specs.Laws.Answers.{both}
use Rattle.date.specs.Date.{SPAN_FIRST, SPAN_LAST}
use Rattle.fractions.specs.Fractions.{in_span}
use Rattle.fractions.specs.Promise.{Inside}

module _ (n : ℕ) where
  pub inside : in_span n ≡ true → Inside n
  unfolding in_span
  inside h =
      let p = both (leb SPAN_FIRST n) (leb n SPAN_LAST) h in
      record { from = leb-true SPAN_FIRST n p.0; to = leb-true n SPAN_LAST p.1 }

  pub inside_test : Inside n → in_span n ≡ true
  unfolding in_span
  inside_test i = rw (le-leb SPAN_FIRST n i.from) (le-leb n SPAN_LAST i.to)

  pub early : n < SPAN_FIRST → in_span n ≡ false
  unfolding in_span
  early h = rw (lt-leb SPAN_FIRST n h) refl

  pub late : SPAN_LAST < n → in_span n ≡ false
  unfolding in_span
  late h = rw (lt-leb n SPAN_LAST h) (and-false (leb SPAN_FIRST n))
