-- A law for each way through a search and through a convention, over what a search answered, for any calendar.
-- Assumes nothing.
use Rattle.std.specs.Prelude.{ℕ, ◌≤◌, ◌≡◌, Bool, not, leb}
use Rattle.std.proofs.Math.Path.{refl, sym}
use Rattle.std.proofs.Common.{ap, ◌∙◌, arith, leb-true}
use Rattle.std.proofs.Math.Bool.{true, false}
use Rattle.std.proofs.lemmas.Bool.{not-false}
use Rattle.refusal.specs.Answer.{Answer, given, refused, need, then, BOOK}
use Rattle.refusal.specs.Laws.Answers.{holds, need_given, then_given, then_refused, then_stepped, never_both, one_given, both}
use Rattle.std.specs.Prelude.{Result, Ok, Err}
use Rattle.refusal.specs.declared.Refusal.{Refusal}
use Rattle.refusal.specs.Refusals.{number_of}
use Rattle.date.specs.declared.Date.{Date}
use Rattle.date.specs.Date.{SPAN_FIRST, SPAN_LAST, dated, within_span}
use Rattle.date.specs.Laws.Made.{given_day, refused_day}
use Rattle.calendar.specs.declared.Convention.TheVariants.{Following}
use Rattle.calendar.specs.AnyCalendar.{in_span, first_open, found, same_month, unless_left, modified, by_convention, adjusted}
use Rattle.calendar.specs.Laws.Search.{span_need}
use Rattle.calendar.specs.Laws.Guards.{cleared}

module _ {A B : Type 0} where
  need_then : (n : ℕ) (b : Bool) (x : Answer A) (f : A → Answer B) → need n b (then x f) ≡ then (need n b x) f
  unfolding need then
  need_then n true x f = refl
  need_then n false x f = refl

pub span_from : (t : Bool) (day : ℕ) → t ≡ in_span day → not t ≡ false → SPAN_FIRST ≤ day
unfolding in_span
span_from t day p e = leb-true SPAN_FIRST day (both _ _ (sym p ∙ not-false t e)).0

pub span_to : (t : Bool) (day : ℕ) → t ≡ in_span day → not t ≡ false → day ≤ SPAN_LAST
unfolding in_span
span_to t day p e = leb-true day SPAN_LAST (both (leb SPAN_FIRST day) _ (sym p ∙ not-false t e)).1

pub within_given : (n m : ℕ) → within_span n ≡ given m → m ≡ n
within_given n m h = sym (one_given _ n m refl (need_given BOOK (in_span n) (given n) m (sym (span_need n) ∙ h)).1)

within_refused_go : {A : Type 0} (b : Bool) (n k : ℕ) (x : Answer A) → need BOOK b (given n) ≡ refused k → refused k ≡ need BOOK b x
unfolding need
within_refused_go true n k x h = absurd (never_both _ n k refl h)
within_refused_go false n k x h = let q : BOOK ≡ k = cc in ap refused (sym q)

pub within_refused : {A : Type 0} (n k : ℕ) (x : Answer A) → within_span n ≡ refused k → refused k ≡ need BOOK (in_span n) x
within_refused n k x h = within_refused_go (in_span n) n k x (sym (span_need n) ∙ h)

-- ---- days that were found are days of the span, and so from day 1 on
pub span_one : (day : ℕ) → in_span day ≡ true → 1 ≤ day
span_one day e = omega (arith, span_from (in_span day) day refl (ap not e))

within_one : (n m : ℕ) → within_span n ≡ given m → 1 ≤ m
within_one n m h =
    rw (within_given n m h) (span_one n (need_given BOOK (in_span n) (given n) m (sym (span_need n) ∙ h)).0)

found_one : (opens : ℕ → Bool) (back : Bool) (day new : ℕ) → found opens back day ≡ given new → 1 ≤ new
unfolding found
found_one opens back day new h =
    let s = then_stepped (first_open opens back 31 day) within_span new h in
    within_one s.value new s.to

pub following_one : (opens : ℕ → Bool) (day new : ℕ) → adjusted opens Following day ≡ given new → 1 ≤ new
unfolding adjusted by_convention
following_one opens day new h = found_one opens false day new (need_given BOOK (in_span day) _ new h).1

-- ---- a search in either direction, and the modified ones
module _ (opens : ℕ → Bool) (back : Bool) (day : ℕ) (first : Result Date Refusal) where
  pub look_day : (x : Date) (r : Answer ℕ) (t : Bool) → t ≡ in_span day → not t ≡ false → dated first ≡ first_open opens back 31 day → first ≡ Ok x → r ≡ within_span x.day → r ≡ need BOOK (in_span day) (found opens back day)
  unfolding found
  look_day x r t p e h q w = cleared _ _ _ _ _ p e (then_given _ x.day _ _ (given_day first x _ h q) w)

  pub look_refused : (n : Refusal) (t : Bool) → t ≡ in_span day → not t ≡ false → dated first ≡ first_open opens back 31 day → first ≡ Err n → refused (number_of n) ≡ need BOOK (in_span day) (found opens back day)
  unfolding found
  look_refused n t p e h q = cleared _ _ _ _ _ p e (then_refused _ (number_of n) _ (refused_day first n _ h q))

  module _ (h : dated first ≡ need BOOK (in_span day) (found opens back day)) where
    pub modified_kept : (x : Date) (s : Bool) → first ≡ Ok x → (1 ≤ day → 1 ≤ x.day → s ≡ same_month day x.day) → s ≡ true → given x.day ≡ need BOOK (in_span day) (modified opens back day)
    unfolding modified unless_left
    modified_kept x s q p e =
        let g = need_given BOOK _ _ x.day (given_day first x _ h q) in
        let m = p (span_one day g.0) (found_one opens back day x.day g.1) in
        holds BOOK _ _ _ g.0 (then_given _ x.day _ _ g.1 (rw (sym m ∙ e)))

    pub modified_left : (x : Date) (s : Bool) (r : Answer ℕ) → first ≡ Ok x → (1 ≤ day → 1 ≤ x.day → s ≡ same_month day x.day) → s ≡ false → r ≡ need BOOK (in_span day) (found opens (not back) day) → r ≡ need BOOK (in_span day) (modified opens back day)
    unfolding modified unless_left need
    modified_left x s r q p e z =
        let g = need_given BOOK (in_span day) _ x.day (given_day first x _ h q) in
        let m = p (span_one day g.0) (found_one opens back day x.day g.1) in
        let other : r ≡ found opens (not back) day = rw g.0 at z in
        holds BOOK _ _ _ g.0 (then_given _ x.day _ _ g.1 (rw (sym m ∙ e) other))

    pub modified_refused : (n : Refusal) → first ≡ Err n → refused (number_of n) ≡ need BOOK (in_span day) (modified opens back day)
    unfolding modified
    modified_refused n q = then_refused _ (number_of n) _ (refused_day first n _ h q) ∙ sym (need_then BOOK (in_span day) _ _)
