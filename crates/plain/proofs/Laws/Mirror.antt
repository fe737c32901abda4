-- Counting forwards by counting backwards: day d seen as day 2,000,000 - d, dates after the effective date are dates before it, and Count says how many
-- of them there are.
-- Assumes nothing.
use Rattle.std.specs.Prelude.{ℕ, suc, ◌+◌, ◌-◌, ◌*◌, ◌/◌, ◌≤◌, ◌<◌, ◌≡◌, refl}
use Rattle.std.proofs.Common.{ap, sym, ◌∙◌, zero-mul, arith}
use Rattle.refusal.specs.Answer.{Answer, given, refused}
use Rattle.refusal.specs.Laws.Answers.{never_both}
use Rattle.date.specs.Date.{SPAN_LAST}
use Rattle.plain.specs.Demand.{MostOf}
use Rattle.plain.specs.Most.{day_or}
use Rattle.plain.specs.Laws.Falling.{Falls}
use Rattle.plain.specs.Forward.{MostAdded}
use Rattle.plain.proofs.Laws.Rising.{Rises}
use Rattle.plain.specs.Laws.Count.{Line, some_most, one_most, counted}

unfoldable mirrored : Answer ℕ → Answer ℕ
mirrored (given d) = given (2000000 - d)
mirrored (refused n) = refused n

record Seen (a : Answer ℕ) (d : ℕ) : Type 0 where
  day : ℕ
  is : a ≡ given day
  place : d ≡ 2000000 - day

seen : (a : Answer ℕ) (d : ℕ) → mirrored a ≡ given d → Seen a d
unfolding mirrored
seen (given c) d h = record { day = c; is = refl; place = sym (ap day_or h) }
seen (refused n) d h = absurd (never_both _ d n h refl)

as_given : (a : Answer ℕ) (d : ℕ) → a ≡ given d → mirrored a ≡ given (2000000 - d)
unfolding mirrored
as_given a d e = rw e refl

mirrored_day : (a : Answer ℕ) (d : ℕ) → a ≡ given d → day_or (mirrored a) ≡ 2000000 - d
mirrored_day a d e = ap day_or (as_given a d e)

-- what is asked of a count: none is no step, more are a later date, one tenor beyond termination there still are dates, the book has fewer than
-- 110,000 days, and no date is later than the span
pub record Climb (after : ℕ → Answer ℕ) (e t n : ℕ) : Type 0 where
  pub start : after 0 ≡ given e
  pub up : (x y a b : ℕ) → x < y → after x ≡ given a → after y ≡ given b → a < b
  pub near : (m d x : ℕ) → after m ≡ given d → d ≤ t → x ≤ m + n → after x ≡ given (day_or (after x))
  pub few : (m d : ℕ) → after m ≡ given d → d ≤ t → m ≤ 110000
  pub span : (x d : ℕ) → after x ≡ given d → d ≤ SPAN_LAST

module _ (after : ℕ → Answer ℕ) (e t n : ℕ) (pos : 1 ≤ n) (order : e ≤ t) (to : t ≤ SPAN_LAST) (l : Climb after e t n) where
  abbrev before : ℕ → Answer ℕ
  before x = mirrored (after x)

  line : Line before (2000000 - t) (2000000 - e) n
  line = record {
    start = as_given (after 0) e l.start;
    down = λ x y a b h p p'. down x y a b h (seen (after x) a p) (seen (after y) b p');
    near = λ m d x p o h. near m d x (seen (after m) d p) o h;
    few = λ m d p o. few m d (seen (after m) d p) o;
  }
    where
      down : (x y a b : ℕ) → x < y → Seen (after x) a → Seen (after y) b → b < a
      down x y a b h s s' = omega (arith, s.place, s'.place, l.up x y s.day s'.day h s.is s'.is, l.span x s.day s.is, l.span y s'.day s'.is)

      near : (m d x : ℕ) → Seen (after m) d → 2000000 - t ≤ d → x ≤ m + n → before x ≡ given (day_or (before x))
      near m d x s o h =
          let p = as_given (after x) (day_or (after x)) (l.near m s.day x s.is (omega (arith, s.place)) h) in
          p ∙ ap given (sym (ap day_or p))

      few : (m d : ℕ) → Seen (after m) d → 2000000 - t ≤ d → m ≤ 110000
      few m d s o = l.few m s.day s.is (omega (arith, s.place))

  most : (m : ℕ) → MostAdded after t m → MostOf before (2000000 - t) m
  most m w = record {
    day = 2000000 - w.day;
    can_be_taken = as_given (after m) w.day w.can_be_added;
    not_passing = omega (arith, w.not_passing);
    no_more = λ x d p o. no_more x d (seen (after x) d p) o;
  }
    where
      no_more : (x d : ℕ) → Seen (after x) d → 2000000 - t ≤ d → x ≤ m
      no_more x d s o = w.no_more x s.day s.is (omega (arith, s.place))

  back : (m : ℕ) → MostOf before (2000000 - t) m → MostAdded after t m
  back m w = by (seen (after m) w.day w.can_be_taken)
    where
      by : Seen (after m) w.day → MostAdded after t m
      by s = record {
        day = s.day;
        can_be_added = s.is;
        not_passing = omega (arith, s.place, w.not_passing);
        no_more = λ x d p o. w.no_more x (2000000 - d) (as_given (after x) d p) (omega arith);
      }

  pub some_added : (m : ℕ) × MostAdded after t m
  some_added = let w = some_most before (2000000 - t) (2000000 - e) n pos (omega arith) line in (w.0, back w.0 w.1)

  pub one_added : (m m' : ℕ) → MostAdded after t m → MostAdded after t m' → m' ≡ m
  one_added m m' w w' = one_most before (2000000 - t) (2000000 - e) n pos (omega arith) line m m' (most m w) (most m' w')

  -- ---- the candidates
  module _ (m : ℕ) (w : MostAdded after t m) (cand : ℕ → Answer ℕ) (same : (k : ℕ) → cand k ≡ after (k * n)) where
    falls : Falls (λ k. mirrored (cand k)) (2000000 - t) (2000000 - e) (m / n)
    falls = counted before (2000000 - t) (2000000 - e) n pos (omega arith) line m (most m w) (λ k. mirrored (cand k)) (λ k. ap mirrored (same k))

    there : (k : ℕ) → k ≤ suc (m / n) → cand k ≡ given (day_or (cand k))
    there k h = let s = seen (cand k) _ (falls.there k h) in s.is ∙ ap given (sym (ap day_or s.is))

    pub counted_on : Rises cand e t (m / n)
    counted_on = record {
      start = same 0 ∙ ap after (zero-mul n) ∙ l.start;
      up = λ i k a b h p p'. omega (arith, falls.down i k (2000000 - a) (2000000 - b) h (as_given (cand i) a p) (as_given (cand k) b p'));
      there = there;
      high = omega (arith, falls.low, mirrored_day (cand (m / n)) _ (there (m / n) (omega arith)));
      beyond = omega (arith, falls.high, mirrored_day (cand (suc (m / n))) _ (there (suc (m / n)) (omega arith)));
    }
